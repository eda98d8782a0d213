-- What a processor's view lists of its commands beside entries, and its notes: over a step, when a command is answered, and when the
-- next one begins.
use Rattle.hwp_law_served.specs.Causes.{IsBeside}
use Rattle.std.proofs.Common.{◌≡◌, ◌⊎◌, inl, inr, ℕ, suc, ◌+◌, ◌≤◌, Bool, true, false, List, [], ◌∷◌, ◌++◌, Option, Some, None, drop, filter, filter_map, length, map, slice_get, append_assoc, append-nil, refl, sym, ap, ◌∙◌, subst, arith, true≢false}
use Rattle.std.specs.List.{cons_option}
use Rattle.std.specs.Int.{from_bool}
use Rattle.std.specs.Prelude.{option_map}
use Rattle.std.proofs.lemmas.Bool.{false_from_ne_true}
use Rattle.std.proofs.lemmas.List.{length-map, map-append, nil_from_length}
use Rattle.std.proofs.lemmas.List.Elements.{filter_map-append}
use Rattle.std.proofs.lemmas.Option.{none-some, same_Some}
use Rattle.hwp_cpu_row.specs.hwp_geom.declared.Cpu.{Cpu}
use Rattle.hwp_cpu_row.specs.hwp_geom.declared.Frame.{Frame}
use Rattle.hwp_cpu_row.specs.hwp_geom.declared.Damage.{Damage}
use Rattle.hwp_cpu_row.specs.hwp_geom.declared.Damage.TheVariants as damages
use Rattle.hwp_cpu_row.specs.hwp_geom.declared.Layout.{Layout}
use Rattle.hwp_cpu_row.specs.hwp_geom.declared.VSlot.{VSlot}
use Rattle.hwp_cpu_row.specs.hwp_script_words.declared.Command.TheVariants as commands
use Rattle.hwp_cpu_row.specs.hwp_law.Cows.{acting}
use Rattle.hwp_law_served.specs.Handles.{answers_by}
use Rattle.hwp_cpu_row.specs.hwp_geom.declared.Page.{Page}
use Rattle.hwp_cpu_row.specs.hwp_geom.declared.Who.{Who}
use Rattle.hwp_cpu_row.specs.hwp_geom.Pairs.{Pairs}
use Rattle.hwp_cpu_row.specs.hwp_page.declared.What.{What}
use Rattle.hwp_cpu_row.specs.hwp_page.declared.What.TheVariants as entries
use Rattle.hwp_cpu_row.specs.hwp_page.Losses.{is_loss}
use Rattle.hwp_cpu_row.specs.hwp_page.Situations.{outcome_of}
use Rattle.hwp_cpu_row.specs.hwp_core_rule.declared.Made.{Made}
use Rattle.hwp_cpu_row.specs.hwp_core_rule.declared.Mark.{Mark}
use Rattle.hwp_cpu_row.specs.hwp_core_rule.declared.MarkKind.TheVariants as mark_kinds
use Rattle.hwp_cpu_row.specs.hwp_core_rule.declared.Setting.{Setting}
use Rattle.hwp_cpu_row.specs.hwp_core_rule.declared.Spoiled.{Spoiled}
use Rattle.hwp_cpu_row.specs.hwp_core_rule.declared.View.{View}
use Rattle.hwp_cpu_row.specs.hwp_core_rule.Lists.{EachMember}
use Rattle.hwp_cpu_row.specs.hwp_core_rule.Views.{no_debts}
use Rattle.hwp_cpu_row.proofs.of_hwp_core_rule.Lists.{at_last, at_push, each-push, sum-zero}
use Rattle.hwp_cpu_row.specs.hwp_core_rule.Calls.{CanMake}
use Rattle.hwp_cpu_row.specs.hwp_core_rule.Known.{HasMadeNone, deeds}
use Rattle.hwp_cpu_row.specs.hwp_claim_act.declared.Failed.{Failed}
use Rattle.hwp_cpu_row.specs.hwp_claim_act.Abandoned as abandoned
use Rattle.hwp_cpu_row.specs.hwp_claim_frame.Claims.{HasMarkedNone, is_own}
use Rattle.hwp_cpu_row.specs.hwp_claim_frame.Done.{Grows, Marking, counts_owed, marking_of, poisoning}
use Rattle.hwp_cpu_row.specs.hwp_script_words.declared.Command.{Command}
use Rattle.hwp_cpu_row.specs.hwp_report_text.declared.Answer.{Answer}
use Rattle.hwp_cpu_row.specs.hwp_report_text.declared.Answer.TheVariants as answers
use Rattle.hwp_cpu_row.specs.hwp_report_text.declared.How.{How}
use Rattle.hwp_cpu_row.specs.hwp_report_text.declared.How.TheVariants as hows
use Rattle.hwp_cpu_row.specs.hwp_report_text.declared.MarkLine.TheVariants as lines
use Rattle.hwp_cpu_row.specs.hwp_claim.declared.Found.{Found}
use Rattle.hwp_cpu_row.specs.declared.FrameChange.{FrameChange}
use Rattle.hwp_cpu_row.specs.declared.FrameChange.TheVariants as owns
use Rattle.hwp_cpu_row.specs.declared.Offlining.{Offlining}
use Rattle.hwp_cpu_row.specs.declared.Row.{Row}
use Rattle.hwp_cpu_row.specs.declared.Watching.{Watching}
use Rattle.hwp_cpu_row.specs.Acts.{Act, Offlined, Told, acts}
use Rattle.hwp_cpu_row.specs.hwp_claim.declared.EventOutcome.{EventOutcome}
use Rattle.hwp_cpu_row.specs.hwp_claim.CheckDone.{marked_in}
use Rattle.hwp_cpu_row.specs.hwp_claim.Told.{frame_of}
use Rattle.hwp_cpu_command.specs.hwp_cpu_access.Done.{FailuresGrow}
use Rattle.hwp_cpu_command.specs.declared.Job.{Job}
use Rattle.hwp_cpu_command.specs.declared.job.Job.TheVariants as kinds
use Rattle.hwp_cpu_command.specs.hwp_soft.declared.Soft.{Soft}
use Rattle.hwp_cpu_command.specs.hwp_soft.Softs as softs
use Rattle.hwp_cpu_command.specs.Done.{HasCounted, HasDone, can_fail, failed_now, marked_beyond, marked_now}
use Rattle.hwp_cpu_command.specs.Settings.{policies_now}
use Rattle.hwp_cpu_command.specs.Jobs as jobs
use Rattle.hwp_cpu_command.specs.Runs.{Runs}
use Rattle.hwp_cpu_command.specs.Stays.{HasSpoiled, IsAtStop, Stepped}
use Rattle.hwp_cpu_command.proofs.JobEnds.{answered-over, paid-at-end}
use Rattle.hwp_cpu.proofs.commands.CommandDeeds.{done, failures-at-end, grown, none-listed, unfailed-at-start, unmarked-at-start, unowed-at-start, unset-policies-at-start}
use Rattle.hwp_cpu.proofs.commands.CommandRuns.{can-fail-stays, runs-who}
use Rattle.hwp_cpu.proofs.commands.Beside.{marked-parts}
use Rattle.hwp_cpu.proofs.commands.CommandStops.{has-spoiled, spoils-after, untold-at-start}
use Rattle.hwp_cpu.proofs.commands.TaskLeaves.{soft-leaves}
use Rattle.hwp_cpu.specs.declared.course.Course.{Course}
use Rattle.hwp_cpu.specs.Courses.{begin, part_of}
use Rattle.hwp_cpu.specs.Beside.{AddsBeside, ArePriorWith}
use Rattle.hwp_law_served.specs.hwp_law.Pairings.{is_soft}
use Rattle.hwp_law_served.specs.Accounts.{IsHow, IsNote, act_marking, failures, is_same, marking_by, markings, markings_in, own_marking}
use Rattle.hwp_law_served.specs.Owed.{OwesOwn, loss_of, losses_by}
use Rattle.hwp_law_served.specs.Rows.{Note, act_note, note_by, note_of, notes_from, own_note, row_notes, told_note, at_number}
use Rattle.hwp_law_served.specs.Served.{IsOneOf, IsOwnSpoil, spoiling}
use Rattle.hwp_law_served.proofs.AccountKeeps.{marks-own, settings-own}
use Rattle.hwp_law_served.proofs.PoisonMarks.{same-who}
use Rattle.hwp_law_served.proofs.Picked.{picked-has}
use Rattle.hwp_law_served.proofs.losses.LossesOwed.{owes-own}
use Rattle.hwp_law_served.proofs.marks.Marked.{same-self}
use Rattle.hwp_cpu.specs.Processors.{with_guest}
use Rattle.hwp_cpu.specs.Serving.{AreNoted, HasAccount, IsListed, marked_so_far}
use Rattle.hwp_cpu.proofs.Marks.{GrowAlike, beside-alike, regrown}
use Rattle.hwp_law_served.proofs.Rows.{notes-more, spoil-more}
use Rattle.hwp_cpu.proofs.EachKind.{spoils-line, prior-none}
use Rattle.hwp_cpu_row.specs.hwp_core_rule.Hands.{empty}
use Rattle.hwp_cpu_row.specs.hwp_report_text.declared.GuestLine.{GuestLine}

-- ---- over a step

failed-grown : {old new before after : List Failed} → FailuresGrow old new before after → old ≡ before → new ≡ after
failed-grown (inl (same, alike)) was = same ∙ was ∙ sym alike
failed-grown (inr (f, more, longer)) was = more ∙ ap (λ (l : List Failed). l ++ f ∷ []) was ∙ sym longer

-- a step of the command that runs, or of the frame that is taken out of use beside it
module _ {layout : Layout} {old new : View} {cpu : Cpu} {n : ℕ} {j k : Job} (s : Stepped layout old new j k) (can : CanMake layout (jobs.who j) s.step (jobs.put j) old) (own : jobs.who j ≡ at_number cpu n) where
  pub listed-on : IsListed old cpu (n + 1) → IsListed new cpu (n + 1)
  listed-on was = record {
    marked = marks-own s.made (IsOneOf cpu (n + 1)) one was.marked;
    set = settings-own s.made (IsOneOf cpu (n + 1)) one was.set;
  }
    where
      one : IsOneOf cpu (n + 1) (jobs.who j)
      one = (ap (λ (w : Who). w.cpu) own, (let same : (jobs.who j).seq ≡ n = ap (λ (w : Who). w.seq) own in omega (arith, same)))

  did : HasDone old new (at_number cpu n) j k
  did = subst (λ (w : Who). HasDone old new w j k) own (done s)

  -- what it marks is noted behind what was marked before
  marked-on : {b a : List Marking} → GrowAlike (marked_now j) (marked_now k) b a → markings (at_number cpu n) old ≡ b → markings (at_number cpu n) new ≡ a
  marked-on {b} {a} alike was = grown (λ (m : Mark). m.stamp.who) marking_of (is_same (at_number cpu n)) old.marks new.marks (at_number cpu n) b a (same-self (at_number cpu n) (at_number cpu n) refl) (regrown alike did.marked) was

  owes-on : OwesOwn (at_number cpu n) old → OwesOwn (at_number cpu n) new
  owes-on was = subst (λ (w : Who). OwesOwn w new) own (owes-own (jobs.who j) can s.made (subst (λ (w : Who). OwesOwn w old) (sym own) was))

  pub noted-on : (rows : List Row) (c d : Course) → length rows ≡ n → GrowAlike (marked_now j) (marked_now k) (marked_so_far c) (marked_so_far d) → AreNoted old cpu rows c → AreNoted new cpu rows d
  noted-on rows c d number alike was = which (regrown alike did.marked)
    where
      which : Grows (λ (m : Mark). m.stamp.who) marking_of old.marks new.marks (at_number cpu n) (marked_so_far c) (marked_so_far d) → AreNoted new cpu rows d
      which (inl (same, is)) = record { earlier = was.earlier; last = was.last; all = same ∙ was.all; noted = was.noted; before = was.before; own = was.own; marked = was.marked ∙ sym is }
      which (inr (x, more, is, longer)) = record {
        earlier = was.earlier;
        last = was.last ++ x ∷ [];
        all = more ∙ ap (λ (l : List Mark). l ++ x ∷ []) was.all ∙ append_assoc was.earlier was.last (x ∷ []);
        noted = was.noted;
        before = was.before;
        own = each-push (λ (m : Mark). m.stamp.who ≡ at_number cpu (length rows)) was.last x (is ∙ ap (at_number cpu) (sym number)) was.own;
        marked = map-append marking_of was.last (x ∷ []) ∙ ap (λ (l : List Marking). l ++ marking_of x ∷ []) was.marked ∙ sym longer;
      }

  -- a line that a command spoiled is one from before, or that of this step
  pub spoils-on : (list : List Command) (rows : List Row) → EachMember (λ (x : Spoiled). IsOwnSpoil cpu list rows x ⊎ HasSpoiled j x) old.spoiled → EachMember (λ (x : Spoiled). IsOwnSpoil cpu list rows x ⊎ HasSpoiled k x) new.spoiled
  spoils-on list rows was i x there = which (spoils-after s)
    where
      early : slice_get old.spoiled i ≡ Some x → IsOwnSpoil cpu list rows x ⊎ HasSpoiled k x
      early at = elim (was i x at) [
        | inl own ↦ inl own
        | inr has ↦ absurd (none-some s.step (sym (answered-over j (has-spoiled j x has)) ∙ s.planned))
      ]

      which : (new.spoiled ≡ old.spoiled) ⊎ ((y : Spoiled) × (new.spoiled ≡ old.spoiled ++ y ∷ []) × HasSpoiled k y) → IsOwnSpoil cpu list rows x ⊎ HasSpoiled k x
      which (inl same) = early (sym (ap (λ (l : List Spoiled). slice_get l i) same) ∙ there)
      which (inr (y, more, has)) = elim (at_push old.spoiled y x i (sym (ap (λ (l : List Spoiled). slice_get l i) more) ∙ there)) [
        | inl at ↦ early at
        | inr is ↦ inr (subst (HasSpoiled k) is has)
      ]

-- its own task goes on
module _ {layout : Layout} {old new : View} {cpu : Cpu} {n : ℕ} (c : Course) (k : Job) (s : Stepped layout old new c.own k) (can : CanMake layout (jobs.who c.own) s.step (jobs.put c.own) old) (own : jobs.who c.own ≡ at_number cpu n)
    (none : c.beside ≡ None) (alike : GrowAlike (marked_now c.own) (marked_now k) (marked_so_far c) (marked_so_far (record c { own = k }))) where
  pub account-own : HasAccount old (at_number cpu n) c → HasAccount new (at_number cpu n) (record c { own = k })
  account-own was = record {
    marked = marked-on s can own alike was.marked;
    failed = λ fails. failed-grown ((did s can own).failed fails) (was.failed (sym (can-fail-stays layout c.own k s.found s.got s.turn s.follows) ∙ fails));
    set = grown (λ (x : Setting). x.stamp.who) (λ (x : Setting). (x.thread, x.policy)) (is_same (at_number cpu n)) old.settings new.settings (at_number cpu n) (policies_now c.own) (policies_now k) (same-self (at_number cpu n) (at_number cpu n) refl) (did s can own).set was.set;
    counted = subst (λ (o : Option Soft). HasCounted (part_of o k) new) (sym none) ((did s can own).counted (subst (λ (o : Option Soft). HasCounted (part_of o c.own) old) none was.counted));
    losses = owes-on s can own was.losses;
  }

-- a frame is taken out of use beside it
module _ {layout : Layout} {old new : View} {cpu : Cpu} {n : ℕ} (c : Course) (o t : Soft) (s : Stepped layout old new (kinds.Soft o) (kinds.Soft t)) (can : CanMake layout o.who s.step (softs.put o) old) (own : o.who ≡ at_number cpu n)
    (is : c.beside ≡ Some o) (adds : AddsBeside (at_number cpu n) old new) where
  -- no entry of that tells a failure
  failures-beside : failures (at_number cpu n) new ≡ failures (at_number cpu n) old
  failures-beside = which adds.adds
    where
      lossless : (what : What) (page : Page) (place : ℕ) → is_soft what ≡ true → abandoned.failed_of page place what ≡ None
      lossless (entries.Fail situation required seen signals) page place beside = absurd (true≢false (sym beside))
      lossless what page place beside = refl

      which : (deeds (at_number cpu n) new ≡ deeds (at_number cpu n) old) ⊎ ((m : Made) × (deeds (at_number cpu n) new ≡ deeds (at_number cpu n) old ++ m ∷ []) × IsBeside m) → failures (at_number cpu n) new ≡ failures (at_number cpu n) old
      which (inl same) = ap (filter_map abandoned.failed_in) same
      which (inr (m, more, beside)) =
          ap (filter_map abandoned.failed_in) more ∙ filter_map-append abandoned.failed_in (deeds (at_number cpu n) old) (m ∷ [])
          ∙ ap (λ (f : Option Failed). failures (at_number cpu n) old ++ cons_option f []) (lossless m.entry.what m.page m.place beside)
          ∙ append-nil (failures (at_number cpu n) old)

  pub account-beside : HasAccount old (at_number cpu n) c → HasAccount new (at_number cpu n) (record c { beside = Some t })
  account-beside was = record {
    marked = marked-on s can own (beside-alike c o t is) was.marked;
    failed = λ fails. failures-beside ∙ was.failed fails;
    set = ap (λ (l : List Setting). map (λ (x : Setting). (x.thread, x.policy)) (filter (λ (x : Setting). is_same (at_number cpu n) x.stamp.who) l)) (soft-leaves o s.planned s.made).rest.settings ∙ was.set;
    counted = (did s can own).counted (subst (λ (b : Option Soft). HasCounted (part_of b c.own) old) is was.counted);
    losses = owes-on s can own was.losses;
  }

-- ---- at the end of a command

later-one : (cpu : Cpu) (n : ℕ) (who : Who) → IsOneOf cpu n who → is_same (at_number cpu n) who ≡ false
later-one cpu n who (own, less) = false_from_ne_true (is_same (at_number cpu n) who) (λ is. let same : who.seq ≡ n = ap (λ (w : Who). w.seq) (same-who (at_number cpu n) who is) in absurd (omega (arith, less, same)))

none-own : (cpu : Cpu) (n : ℕ) (l : List Mark) → EachMember (λ (m : Mark). IsOneOf cpu n m.stamp.who) l → filter (is_own (at_number cpu n)) l ≡ []
none-own cpu n l before = nil_from_length (filter (is_own (at_number cpu n)) l) (
    sym (length-map (filter (is_own (at_number cpu n)) l) (λ (m : Mark). m.frame))
    ∙ ap length (none-listed (λ (m : Mark). m.stamp.who) (λ (m : Mark). m.frame) (is_same (at_number cpu n)) l (λ i m at. later-one cpu n m.stamp.who (before i m at)))
    )

-- a command that begins has marked no frame
pub unmarked-starts : (view : View) (cpu : Cpu) (n : ℕ) → IsListed view cpu n → HasMarkedNone view (at_number cpu n)
unmarked-starts view cpu n listed = none-own cpu n view.marks listed.marked

-- the note of a poisoning tells its mark
note-tells : (who : Who) (hardware : Bool) (how : How) (frame : Frame) (cycle : ℕ) (m : Mark) → IsHow hardware how → m.stamp.who ≡ who → marking_of m ≡ poisoning frame hardware cycle → IsNote (frame, lines.Poisoned cycle who how) m
note-tells who hardware how frame cycle m is own marked = record {
  frame = sym (ap (λ (x : Marking). x.frame) marked);
  kind = mark_kinds.Poisoned hardware;
  kind_is = ap (λ (x : Marking). x.kind) marked;
  line = (how, is, ap (λ (c : ℕ). lines.Poisoned c who how) (sym (ap (λ (x : Marking). x.cycle) marked)) ∙ ap (λ (w : Who). lines.Poisoned m.cycle w how) (sym own));
}

-- a failure's, and that of what the command did to a frame itself
failure-tells : (who : Who) (hardware : Bool) (frame : Frame) (found : Found) (m : Mark) → m.stamp.who ≡ who → marking_of m ≡ poisoning frame hardware found.cycle → IsNote (note_of who hardware frame found) m
failure-tells who hardware frame found m = note-tells who hardware (hows.Failure hardware found.situation (outcome_of found.situation)) frame found.cycle m (refl, refl)

own-tells : (who : Who) (own : FrameChange) (m : Mark) → m.stamp.who ≡ who → marking_of m ≡ marking_by own → IsNote (note_by who own) m
own-tells who (owns.Failed frame found) m own marked = failure-tells who false frame found m own marked
own-tells who (owns.Offlined frame cycle true) m own marked = note-tells who false hows.Moved frame cycle m refl own marked
own-tells who (owns.Offlined frame cycle false) m own marked = note-tells who false hows.TakenFree frame cycle m refl own marked
own-tells who (owns.Revived frame cycle) m own marked = record {
  frame = sym (ap (λ (x : Marking). x.frame) marked);
  kind = mark_kinds.Revived;
  kind_is = ap (λ (x : Marking). x.kind) marked;
  line = ap (λ (c : ℕ). lines.Unpoisoned c who) (sym (ap (λ (x : Marking). x.cycle) marked)) ∙ ap (lines.Unpoisoned m.cycle) (sym own);
}

-- a note, if there is one, tells the mark that was made; and those behind tell the others
first-noted : {A : Type 0} (who : Who) (note : A → Note) (marking : A → Marking) → ((x : A) (m : Mark) → m.stamp.who ≡ who → marking_of m ≡ marking x → IsNote (note x) m) → (o : Option A) (more : List Note) (rest : List Marking) (ms : List Mark)
    → EachMember (λ (m : Mark). m.stamp.who ≡ who) ms → map marking_of ms ≡ cons_option (option_map marking o) rest → ((l : List Mark) → EachMember (λ (m : Mark). m.stamp.who ≡ who) l → map marking_of l ≡ rest → Pairs IsNote more l)
    → Pairs IsNote (cons_option (option_map note o) more) ms
first-noted who note marking tells None more rest ms own are tell = tell ms own are
first-noted who note marking tells (Some x) more rest [] own are tell = let none : 0 ≡ suc (length rest) = ap length are in absurd (omega (arith, none))
first-noted who note marking tells (Some x) more rest (m ∷ ms) own are tell = (
  tells x m (own 0 m refl) (same_Some (marking_of m) (marking x) (ap (λ (l : List Marking). slice_get l 0) are)),
  tell ms (λ i y there. own (suc i) y there) (ap (λ (l : List Marking). drop 1 l) are),
)

onto : {A : Type 0} (o : Option A) (xs ys : List A) → cons_option o xs ++ ys ≡ cons_option o (xs ++ ys)
onto None xs ys = refl
onto (Some x) xs ys = refl

none-noted : (ms : List Mark) → map marking_of ms ≡ [] → Pairs IsNote [] ms
none-noted [] none = tt
none-noted (m ∷ ms) none = let some : suc (length (map marking_of ms)) ≡ 0 = ap length none in absurd (omega (arith, some))

own-noted : (who : Who) (own : Option FrameChange) (ms : List Mark) → EachMember (λ (m : Mark). m.stamp.who ≡ who) ms → map marking_of ms ≡ cons_option (own_marking own) [] → Pairs IsNote (cons_option (own_note who own) []) ms
own-noted who own ms by are = first-noted who (note_by who) marking_by (own-tells who) own [] [] ms by are (λ l of none. none-noted l none)

-- the notes of acts tell the marks, and so on with those behind
acts-noted : (who : Who) (acted : List Act) (own : Option FrameChange) (ms : List Mark) → EachMember (λ (m : Mark). m.stamp.who ≡ who) ms → map marking_of ms ≡ filter_map act_marking acted ++ cons_option (own_marking own) []
    → Pairs IsNote (filter_map (act_note who) acted ++ cons_option (own_note who own) []) ms
acts-noted who [] own ms by are = own-noted who own ms by are
acts-noted who (Told t ∷ rest) own ms by are = subst (λ (l : List Note). Pairs IsNote l ms) (sym (onto (told_note who t) (filter_map (act_note who) rest) (cons_option (own_note who own) [])))
    (first-noted who (note_of who true (frame_of t.held)) (λ (found : Found). poisoning (frame_of t.held) true found.cycle) (failure-tells who true (frame_of t.held)) t.found (filter_map (act_note who) rest ++ cons_option (own_note who own) []) (filter_map act_marking rest ++ cons_option (own_marking own) []) ms by
    (are ∙ onto (marked_in t) (filter_map act_marking rest) (cons_option (own_marking own) [])) (acts-noted who rest own))
acts-noted who (Offlined o ∷ rest) own ms by are = subst (λ (l : List Note). Pairs IsNote l ms) (sym (onto (own_note who o.change) (filter_map (act_note who) rest) (cons_option (own_note who own) [])))
    (first-noted who (note_by who) marking_by (own-tells who) o.change (filter_map (act_note who) rest ++ cons_option (own_note who own) []) (filter_map act_marking rest ++ cons_option (own_marking own) []) ms by
    (are ∙ onto (own_marking o.change) (filter_map act_marking rest) (cons_option (own_marking own) [])) (acts-noted who rest own))

-- all marks are noted
pub noted-end : (view : View) (cpu : Cpu) (rows : List Row) (c : Course) (row : Row) → AreNoted view cpu rows c → marked_so_far c ≡ markings_in row → Pairs IsNote (notes_from cpu 0 (rows ++ row ∷ [])) view.marks
noted-end view cpu rows c row are marked =
    subst (λ (l : List Note). Pairs IsNote l view.marks) (sym (notes-more cpu 0 rows (length rows) row (omega arith)))
    (subst (λ (l : List Mark). Pairs IsNote (notes_from cpu 0 rows ++ row_notes (at_number cpu (length rows)) row) l) (sym are.all)
    (joined (notes_from cpu 0 rows) (row_notes (at_number cpu (length rows)) row) are.earlier are.last are.noted (acts-noted (at_number cpu (length rows)) (acts row.told row.offlined) row.own are.last are.own (are.marked ∙ marked))))
  where
    joined : (xs ys : List Note) (ms ns : List Mark) → Pairs IsNote xs ms → Pairs IsNote ys ns → Pairs IsNote (xs ++ ys) (ms ++ ns)
    joined [] ys [] ns first second = second
    joined [] ys (m ∷ ms) ns first second = absurd first
    joined (x ∷ xs) ys [] ns first second = absurd first
    joined (x ∷ xs) ys (m ∷ ms) ns first second = (first.0, joined xs ys ms ns first.1 second)

abbrev is_spoil : Command → Bool
is_spoil (commands.Bad frame line) = true
is_spoil (commands.Weak frame line) = true
is_spoil command = false

spoils-so : (damage : Damage) (frame : Frame) (line : ℕ) → is_spoil (spoiling damage frame line) ≡ true
spoils-so damages.Bad frame line = refl
spoils-so damages.Weak frame line = refl

no-spoil : {command : Command} (damage : Damage) (frame : Frame) (line : ℕ) → command ≡ spoiling damage frame line → is_spoil command ≡ false → ⊥
no-spoil damage frame line is none = true≢false (sym (spoils-so damage frame line) ∙ sym (ap is_spoil is) ∙ none)

-- a command that spoils a line is acted on as it stands
spoiling-acted : (layout : Layout) (earlier : List (Command × Answer)) (own : Command) (s : Spoiled) → acting layout earlier own ≡ spoiling s.damage s.frame s.line → own ≡ spoiling s.damage s.frame s.line
spoiling-acted layout earlier (commands.Load thread slot line) s is = absurd (no-spoil s.damage s.frame s.line is refl)
spoiling-acted layout earlier (commands.Fetch thread slot line) s is = absurd (no-spoil s.damage s.frame s.line is refl)
spoiling-acted layout earlier (commands.KLoad thread slot line) s is = absurd (no-spoil s.damage s.frame s.line is refl)
spoiling-acted layout earlier (commands.Store thread slot line word) s is = absurd (no-spoil s.damage s.frame s.line is refl)
spoiling-acted layout earlier (commands.Free slot) s is = absurd (no-spoil s.damage s.frame s.line is refl)
spoiling-acted layout earlier own s is = is

-- a line that the command has spoiled is one of a command that is answered
pub spoils-end : (layout : Layout) (cpu : Cpu) (list : List Command) (rows : List Row) (own command : Command) (copies : Option VSlot) (j : Job) (a : Answer) (offlined : List Offlining) (guest : Option GuestLine) (s : Spoiled) → slice_get list (length rows) ≡ Some own → command ≡ acting layout (answers_by list rows) own → Runs layout (at_number cpu (length rows)) command copies j
    → jobs.answer j ≡ Some a → IsOwnSpoil cpu list rows s ⊎ HasSpoiled j s → IsOwnSpoil cpu list (rows ++ with_guest (jobs.row_of j a offlined) guest ∷ []) s
spoils-end layout cpu list rows own command copies j a offlined guest s there acts runs is (inl early) = spoil-more cpu list rows (with_guest (jobs.row_of j a offlined) guest) s early
spoils-end layout cpu list rows own command copies j a offlined guest s there acts runs is (inr has) = record {
  cpu_is = ap (λ (w : Who). w.cpu) by.0;
  there = ap (slice_get list) number ∙ there ∙ ap (λ (c : Command). Some c) (spoiling-acted layout (answers_by list rows) own s (sym acts ∙ by.1));
  row = with_guest (jobs.row_of j a offlined) guest;
  row_is = ap (slice_get (rows ++ with_guest (jobs.row_of j a offlined) guest ∷ [])) number ∙ at_last rows (with_guest (jobs.row_of j a offlined) guest);
  answered = same_Some a answers.Done (sym is ∙ has-spoiled j s has);
}
  where
    by : (s.stamp.who ≡ at_number cpu (length rows)) × (command ≡ spoiling s.damage s.frame s.line)
    by = spoils-line layout (at_number cpu (length rows)) command copies j s runs has

    number : s.stamp.who.seq ≡ length rows
    number = ap (λ (w : Who). w.seq) by.0

-- entries of which none is a failure cost no content
unfailed-lossless : (view : View) (who : Who) → failures who view ≡ [] → losses_by who view ≡ 0
unfailed-lossless view who none = sum-zero loss_of (deeds who view) (λ i m at. by m.page m.place m.entry.what (none-in (deeds who view) i m none at))
  where
    none-in : (l : List Made) (i : ℕ) (m : Made) → filter_map abandoned.failed_in l ≡ [] → slice_get l i ≡ Some m → abandoned.failed_in m ≡ None
    none-in l i m empty at = which (abandoned.failed_in m) refl
      where
        which : (o : Option Failed) → abandoned.failed_in m ≡ o → o ≡ None
        which None is = refl
        which (Some f) is = let some = picked-has abandoned.failed_in l i m f at is in absurd (none-some f (sym (ap (λ (x : List Failed). slice_get x some.0) empty) ∙ some.1))

    by : (page : Page) (place : ℕ) (what : What) → abandoned.failed_of page place what ≡ None → from_bool (is_loss what) ≡ 0
    by page place (entries.Fail situation required seen signals) is = absurd (none-some _ (sym is))
    by page place what is = refl

-- when a command is answered its failures are those that it knows of
module _ (base : List Made) (layout : Layout) (view : View) (who : Who) (command : Command) (copies : Option VSlot) (j : Job) (a : Answer) (runs : Runs layout who command copies j) (fits : jobs.FitsFrom base layout view j) (prior : ArePriorWith layout command copies base) (has : jobs.answer j ≡ Some a)
    (failed : can_fail j ≡ true → failures who view ≡ failed_now j) (owes : OwesOwn who view) where
  own-who : jobs.who j ≡ who
  own-who = runs-who layout who command copies j runs

  pub failed-end : failures who view ≡ failed_now j
  failed-end = subst (λ (w : Who). failures w view ≡ failed_now j) own-who (failures-at-end layout view j fits (prior-none layout view who command copies j base runs fits prior) has (λ fails. subst (λ (w : Who). failures w view ≡ failed_now j) (sym own-who) (failed fails)))

  -- it owes no loss: a command that may make some owes none by then, and the others make none
  pub no-loss : view.owed.losses ≡ []
  no-loss = elim (paid-at-end base layout view j fits has) [
    | inl paid ↦ paid
    | inr none ↦ nil_from_length view.owed.losses (let made : losses_by who view ≡ 0 = unfailed-lossless view who (failed-end ∙ none) in let owed : length view.owed.losses ≤ losses_by who view = owes in omega (arith, owed, made))
  ]

-- nothing is owed
pub owes-nothing : (view : View) → counts_owed view ≡ 0 → view.owed.losses ≡ [] → view.owed ≡ no_debts
owes-nothing view none paid = λ t. record { counts = counts none t; hardware = hardware none t; uncounts = uncounts none t; losses = paid t }
  where
    counts : view.owed.counts + view.owed.hardware + view.owed.uncounts ≡ 0 → view.owed.counts ≡ 0
    counts none = omega (arith, none)

    hardware : view.owed.counts + view.owed.hardware + view.owed.uncounts ≡ 0 → view.owed.hardware ≡ 0
    hardware none = omega (arith, none)

    uncounts : view.owed.counts + view.owed.hardware + view.owed.uncounts ≡ 0 → view.owed.uncounts ≡ 0
    uncounts none = omega (arith, none)

-- ---- when a command begins

-- one of which nothing is marked yet
starts-marks : (c : Course) (watching : Option Watching) (frames : ℕ) → c ≡ begin c.own watching frames → IsAtStop c.own → marked_so_far c ≡ []
starts-marks c watching frames is start = ap marked_so_far is ∙ ap (λ (l : List EventOutcome). filter_map act_marking (acts l []) ++ (marked_beyond c.own ++ [])) (untold-at-start c.own start) ∙ append-nil (marked_beyond c.own) ∙ beyond
  where
    beyond : marked_beyond c.own ≡ []
    beyond = ap (λ (l : List EventOutcome). filter_map marked_in l ++ marked_beyond c.own) (sym (untold-at-start c.own start)) ∙ sym (marked-parts c.own) ∙ unmarked-at-start c.own start

pub account-starts : (view : View) (cpu : Cpu) (n : ℕ) (c : Course) (watching : Option Watching) (frames : ℕ) → c ≡ begin c.own watching frames → IsListed view cpu n → HasMadeNone view (at_number cpu n) → view.owed ≡ no_debts → IsAtStop c.own → HasAccount view (at_number cpu n) c
account-starts view cpu n c watching frames is listed made owed start = record {
  marked = none-listed (λ (m : Mark). m.stamp.who) marking_of (is_same (at_number cpu n)) view.marks (λ i m at. later-one cpu n m.stamp.who (listed.marked i m at)) ∙ sym (starts-marks c watching frames is start);
  failed = λ fails. ap (filter_map abandoned.failed_in) made ∙ sym (unfailed-at-start c.own start);
  set = none-listed (λ (x : Setting). x.stamp.who) (λ (x : Setting). (x.thread, x.policy)) (is_same (at_number cpu n)) view.settings (λ i x at. later-one cpu n x.stamp.who (listed.set i x at)) ∙ sym (unset-policies-at-start c.own start);
  counted = subst (λ (o : Option Soft). HasCounted (part_of o c.own) view) (sym (ap (λ (d : Course). d.beside) is)) (ap (λ d. d.counts + d.hardware + d.uncounts) owed ∙ sym (unowed-at-start c.own start));
  losses = let none : length view.owed.losses ≡ 0 = ap (λ d. length d.losses) owed in omega (arith, none);
}

pub noted-starts : (view : View) (cpu : Cpu) (rows : List Row) (c : Course) (watching : Option Watching) (frames : ℕ) → c ≡ begin c.own watching frames → IsListed view cpu (length rows) → IsAtStop c.own → Pairs IsNote (notes_from cpu 0 rows) view.marks → AreNoted view cpu rows c
noted-starts view cpu rows c watching frames is listed start noted = record {
  earlier = view.marks;
  last = [];
  all = sym (append-nil view.marks);
  noted = noted;
  before = listed.marked;
  own = λ i m at. absurd (none-some m at);
  marked = sym (starts-marks c watching frames is start);
}
