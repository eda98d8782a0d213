-- What a processor keeps of guests: at its beginning, over a turn of the command that runs, and where that is answered.
use Rattle.std.proofs.Common.{◌≡◌, ℕ, ◌+◌, ◌<◌, Bool, List, [], ◌∷◌, ◌++◌, Option, Some, None, inl, inr, ◌⊎◌, length, map, option_map, option_to_list, slice_get, refl, sym, ◌∙◌, subst}
use Rattle.std.specs.List.{cons_option}
use Rattle.std.proofs.lemmas.List.{length-append}
use Rattle.std.proofs.lemmas.Option.{none-some, same_Some}
use Rattle.hwp_cpu_row.specs.hwp_geom.declared.Cpu.{Cpu}
use Rattle.hwp_cpu_row.specs.hwp_geom.declared.Layout.{Layout}
use Rattle.hwp_cpu_row.specs.hwp_geom.declared.Who.{Who}
use Rattle.hwp_cpu_row.specs.hwp_geom.Layout.{IsSound}
use Rattle.hwp_cpu_row.specs.hwp_page.declared.At.{At}
use Rattle.hwp_cpu_row.specs.hwp_page.History.{BodyValue}
use Rattle.hwp_cpu_row.specs.hwp_core_rule.declared.Turn.{Turn}
use Rattle.hwp_cpu_row.specs.hwp_script_words.declared.Command.{Command}
use Rattle.hwp_cpu_row.specs.hwp_script_words.Valid.{IsCommandOf}
use Rattle.hwp_cpu_row.specs.hwp_report_text.declared.Answer.{Answer}
use Rattle.hwp_cpu_row.specs.hwp_report_text.declared.Answer.TheVariants as answers
use Rattle.hwp_cpu_row.specs.hwp_core_rule.declared.View.{View}
use Rattle.hwp_cpu_row.specs.hwp_core_rule.Known.{HasMadeNone}
use Rattle.hwp_cpu_row.specs.hwp_law.declared.GuestAccess.{GuestAccess}
use Rattle.hwp_cpu_row.specs.hwp_law.GuestRule.{denied, guest_access, guest_line, guest_lines}
use Rattle.hwp_cpu_row.specs.declared.Local.{Local}
use Rattle.hwp_cpu_row.specs.declared.Row.{Row}
use Rattle.hwp_cpu_row.specs.CowLists.{acting_in, copied_in}
use Rattle.hwp_cpu_row.specs.GuestLists as lists
use Rattle.hwp_cpu_row.specs.GuestLists.{AreGuestsOf, MayTell, States, admission_in, first_guests, line_in}
use Rattle.hwp_cpu_row.specs.Locals.{IsFirst, collects}
use Rattle.hwp_cpu_row.proofs.GuestListLaws.{denied-known, first-are, first-known, may-take, may-tell, told-are, told-known}
use Rattle.hwp_cpu_command.specs.declared.job.Job.{Job}
use Rattle.hwp_cpu_command.specs.Jobs as jobs
use Rattle.hwp_cpu_command.specs.Jobs.{denial_of}
use Rattle.hwp_cpu.proofs.commands.CommandRuns.{has-begun}
use Rattle.hwp_cpu.proofs.commands.DeniedAnswers.{IsGone, says-denied, says-plain, unsignalled, untold-denied}
use Rattle.hwp_cpu.specs.declared.course.Course.{Course}
use Rattle.hwp_cpu.specs.Courses as courses
use Rattle.hwp_cpu.specs.Courses.{answer_of, local_after, row_of}
use Rattle.hwp_cpu_command.specs.hwp_soft.declared.Soft.{Soft}
use Rattle.hwp_law_served.specs.Guests.{IsDeniedRow, IsGuestRow, KnowsGuests, SaysGone}
use Rattle.hwp_law_served.specs.Handles.{answers_by}
use Rattle.hwp_law_served.specs.Rows.{guest_at, at_number}
use Rattle.hwp_law_served.proofs.GuestRows.{guests-later, guests-more}
use Rattle.hwp_cpu.specs.Processors.{AreCommands, BeginsAt, IsAdmitted, MayTellOf, left_of, told_local, with_guest}
use Rattle.hwp_cpu.specs.Serving.{IsAsked, KeepsGuests}
use Rattle.hwp_cpu.proofs.ActingFits.{at-least}
use Rattle.hwp_cpu.proofs.GoingOn.{IsEnding}
use Rattle.hwp_cpu.proofs.KnownPolicies.{answers-more}
use Rattle.hwp_cpu.proofs.Within.{course-denial}

-- ---- a command that begins

asked-at : (layout : Layout) (by : Who) (earlier : List (Command × Answer)) (local : Local) (o : Option Command) (x : Option Course) → lists.KnowsGuests layout earlier local.guests → BeginsAt layout by o local x → IsAsked layout earlier o x
asked-at layout by earlier local (Some own) (Some c) known begins =
    (has-begun layout by (acting_in layout local.cows own) (copied_in local.cows own) (admission_in layout local.guests own) local.banks (collects local.watching) c.own begins.begins).denial
    ∙ denied-known layout earlier local.guests own known
asked-at layout by earlier local None None known begins = tt
asked-at layout by earlier local (Some own) None known begins = absurd begins
asked-at layout by earlier local None (Some c) known begins = absurd begins

left-guests : (x : Option Course) (local : Local) → (left_of x local).guests ≡ local.guests
left-guests (Some c) local = refl
left-guests None local = refl

none-yet : (l : List Command) → [] ≡ answers_by l []
none-yet [] = refl
none-yet (c ∷ cs) = refl

pub guests-begun : (layout : Layout) (cpu : Cpu) (list : List Command) → IsSound layout → (view : View) (watches : Bool) (first : Local) → IsFirst layout watches first → (x : Option Course) → BeginsAt layout (at_number cpu 0) (slice_get list 0) first x
    → KeepsGuests layout view cpu list [] (left_of x first).guests x
guests-begun layout cpu list sound view watches first is_first x begins = subst (λ (g : States). KeepsGuests layout view cpu list [] g x) (sym (left-guests x first)) (record {
  are = subst (AreGuestsOf layout) (sym is_first.guests) (first-are layout sound.guests);
  known = known;
  rows_are = λ i command row there row_is. absurd (none-some row row_is);
  asked = asked-at layout (at_number cpu 0) (answers_by list []) first (slice_get list 0) x known begins;
})
  where
    known : lists.KnowsGuests layout (answers_by list []) first.guests
    known = subst (lists.KnowsGuests layout (answers_by list [])) (sym is_first.guests) (subst (λ (l : List (Command × Answer)). lists.KnowsGuests layout l (first_guests layout)) (none-yet list) (first-known layout))

-- ---- a turn

-- of a command that stays as it was asked, on a view where the earlier ones have made no more
pub guests-turn : (layout : Layout) (old new : View) (cpu : Cpu) (list : List Command) (rows : List Row) (guests : States) (c d : Course) → ((i : ℕ) → i < length rows → HasMadeNone old (at_number cpu i) → HasMadeNone new (at_number cpu i)) → denial_of d.own ≡ denial_of c.own
    → KeepsGuests layout old cpu list rows guests (Some c) → KeepsGuests layout new cpu list rows guests (Some d)
guests-turn layout old new cpu list rows guests c d same alike kept = record {
  are = kept.are;
  known = kept.known;
  rows_are = guests-later layout old new cpu list rows same kept.rows_are;
  asked = which (slice_get list (length rows)) kept.asked;
}
  where
    which : (o : Option Command) → IsAsked layout (answers_by list rows) o (Some c) → IsAsked layout (answers_by list rows) o (Some d)
    which (Some own) is = alike ∙ is
    which None is = absurd is

-- the access of the command that runs can meet a bad line, unless it is denied
pub admitted-now : (layout : Layout) (view : View) (cpu : Cpu) (list : List Command) (rows : List Row) (guests : States) (c : Course) (j : Job) → IsSound layout → AreCommands layout cpu list → denial_of j ≡ denial_of c.own → KeepsGuests layout view cpu list rows guests (Some c)
    → IsAdmitted layout (slice_get list (length rows)) guests j
admitted-now layout view cpu list rows guests c j sound commands alike kept = which (slice_get list (length rows)) refl kept.asked
  where
    which : (o : Option Command) → slice_get list (length rows) ≡ o → IsAsked layout (answers_by list rows) o (Some c) → IsAdmitted layout o guests j
    which None there is = absurd is
    which (Some own) there is = λ none. may-take layout cpu.0 guests own sound.trans kept.are (at-least (IsCommandOf layout cpu.0) list (length rows) own commands.named there)
        (denied-known layout (answers_by list rows) guests own kept.known ∙ sym is ∙ sym alike ∙ none)

-- so it can where it is answered, by a turn
pub tells-now : (layout of : Layout) (o : Option Command) (guests : States) (c d : Course) (found : ℕ) (got : Option BodyValue) (turn : Turn) (a : Answer) → courses.Next of c found got d turn → IsAdmitted layout o guests c.own → courses.answer d ≡ Some a → MayTellOf layout o a guests
tells-now layout of o guests c d found got turn a next admitted is = which o admitted
  where
    answered : (b : Option Soft) → answer_of b d.own ≡ Some a → jobs.answer d.own ≡ Some a
    answered None said = said
    answered (Some s) said = absurd (none-some a said)

    alike : denial_of d.own ≡ denial_of c.own
    alike = course-denial of c found got d turn next

    by : (own : Command) (x : Option Answer) → denial_of d.own ≡ x → IsAdmitted layout (Some own) guests c.own → MayTell layout guests own a
    by own None none can = may-tell layout guests own a (can (sym alike ∙ none))
    by own (Some due) some can = quiet a (unsignalled d.own some (answered d.beside is))
      where
        quiet : (y : Answer) → ((at : At) → y ≡ answers.Sigbus at → ⊥) → MayTell layout guests own y
        quiet (answers.Sigbus at) none = absurd (none at refl)
        quiet y none = tt

    which : (x : Option Command) → IsAdmitted layout x guests c.own → MayTellOf layout x a guests
    which None can = tt
    which (Some own) can = by own (denial_of d.own) refl can

-- ---- the answer

gone-so : (a : Answer) → IsGone a → SaysGone a
gone-so (answers.Gone page) gone = tt
gone-so a gone = absurd gone

module _ (layout : Layout) (new : View) (cpu : Cpu) (list : List Command) (rows : List Row) (local : Local) (c : Course) (a : Answer) (ends : IsEnding layout new cpu list rows local c a) (kept : KeepsGuests layout new cpu list rows local.guests (Some c)) where
  abbrev n : ℕ
  n = length rows

  abbrev earlier : List (Command × Answer)
  earlier = answers_by list rows

  -- the script's command
  abbrev own : Command
  own = ends.way.next.own

  abbrev row : Row
  row = with_guest (row_of c a) (line_in layout n own a)

  abbrev after : Local
  after = told_local layout (Some own) a (local_after c a local)

  asked : denial_of c.own ≡ denied layout earlier own
  asked = subst (λ (o : Option Command). IsAsked layout earlier o (Some c)) ends.way.next.there kept.asked

  -- the guest is told where its access was answered by SIGBUS
  told : (x : Answer) → map (guest_at n) (option_to_list (line_in layout n own x)) ≡ guest_lines layout n own x
  told (answers.Sigbus at) = by (guest_access layout own)
    where
      by : (o : Option GuestAccess) → map (guest_at n) (option_to_list (option_map (guest_line n) o)) ≡ cons_option (option_map (guest_line n) o) []
      by None = refl
      by (Some g) = refl
  told x = refl

  admits : (o : Option Answer) → denied layout earlier own ≡ o → IsDeniedRow new (at_number cpu n) o row
  admits (Some due) is = record { answered = either (says-denied c.own (asked ∙ is) ends.known.answered); made = ends.known.denied due (asked ∙ is); untold = untold-denied c.own (asked ∙ is) }
    where
      either : (a ≡ due) ⊎ ((a ≡ answers.Stopped) ⊎ IsGone a) → (a ≡ due) ⊎ ((a ≡ answers.Stopped) ⊎ SaysGone a)
      either (inl same) = inl same
      either (inr (inl stopped)) = inr (inl stopped)
      either (inr (inr gone)) = inr (inr (gone-so a gone))
  admits None is = let plain = says-plain c.own (asked ∙ is) ends.known.answered in record { not_bad = plain.0; not_stopped = plain.1 }

  is-row : IsGuestRow layout earlier new (at_number cpu n) own row
  is-row = record { admits = admits (denied layout earlier own) refl; told = told a }

  pub guests-answered : (x : Option Course) → BeginsAt layout (at_number cpu (n + 1)) (slice_get list (n + 1)) after x → KeepsGuests layout new cpu list (rows ++ row ∷ []) (left_of x after).guests x
  guests-answered x begins = subst (λ (g : States). KeepsGuests layout new cpu list (rows ++ row ∷ []) g x) (sym (left-guests x after)) (record {
    are = told-are layout own a local.guests kept.are;
    known = known;
    rows_are = guests-more layout new cpu list rows row kept.rows_are (λ command there. subst (λ (y : Command). IsGuestRow layout earlier new (at_number cpu n) y row) (same_Some own command (sym ends.way.next.there ∙ there)) is-row);
    asked = subst (λ (i : ℕ). IsAsked layout (answers_by list (rows ++ row ∷ [])) (slice_get list i) x) (sym (length-append rows (row ∷ []))) (asked-at layout (at_number cpu (n + 1)) (answers_by list (rows ++ row ∷ [])) after (slice_get list (n + 1)) x known begins);
  })
    where
      known : lists.KnowsGuests layout (answers_by list (rows ++ row ∷ [])) after.guests
      known = subst (λ (l : List (Command × Answer)). lists.KnowsGuests layout l after.guests) (sym (answers-more list rows own row ends.way.next.there)) (told-known layout earlier own a local.guests kept.are kept.known)
