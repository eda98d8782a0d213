-- Where answers are right but for guests, the law of guests holds exactly where no line breaks its rule.
use Rattle.std.proofs.Common.{◌≡◌, ◌≢◌, ◌⊎◌, inl, inr, ℕ, zero, suc, ◌+◌, ◌<◌, ◌≤◌, ◌==◌, Bool, true, false, cond, List, [], ◌∷◌, Option, Some, None, count_by, get_or, length, option_and_then, option_map, slice_get, take, unwrap_or, refl, sym, ap, ◌∙◌, subst, true≢false, arith}
use Rattle.std.specs.List.{cons_option}
use Rattle.std.specs.Option.{option_map_or}
use Rattle.std.proofs.lemmas.Bool.{cases_eq, cases_lt, eq-eqb, ne_eqb}
use Rattle.std.proofs.lemmas.List.Sums.{count_by_more_no}
use Rattle.std.proofs.lemmas.Option.{get_or_from_slice_get, none-some, same_Some, slice_get-get_or, slice_get_within}
use Rattle.hwp_check_rules.specs.hwp_geom.declared.Cpu.{Cpu}
use Rattle.hwp_check_rules.specs.hwp_geom.declared.Layout.{Layout}
use Rattle.hwp_check_rules.specs.hwp_geom.declared.VSlot.{VSlot}
use Rattle.hwp_check_rules.specs.hwp_geom.declared.Who.{Who}
use Rattle.hwp_check_rules.specs.hwp_law.Acting.{acting_script, copied_at}
use Rattle.hwp_check_rules.specs.hwp_law.Guests.{AreGuestsKept, DoesNothing, IsDenied}
use Rattle.hwp_check_rules.specs.hwp_law.Lines.{answer_among, answer_of, answered, events_of, guests_among, guests_told}
use Rattle.hwp_check_rules.specs.hwp_law.Policies.{answered_before}
use Rattle.hwp_check_rules.specs.hwp_law.Commands.{command_at}
use Rattle.hwp_check_rules.specs.hwp_law.declared.GuestAccess.{GuestAccess}
use Rattle.hwp_check_rules.specs.hwp_law.GuestRule.{denial, denied, guest_access, guest_line, guest_lines, guest_of}
use Rattle.hwp_check_rules.specs.hwp_law.hwp_guest.GuestState.{admitted}
use Rattle.hwp_check_rules.specs.hwp_law.hwp_guest.declared.Admit.{Admit}
use Rattle.hwp_check_rules.specs.hwp_law.hwp_guest.declared.Admit.TheVariants as admissions
use Rattle.hwp_check_rules.specs.hwp_report_text.declared.Answer.{Answer}
use Rattle.hwp_check_rules.specs.hwp_report_text.declared.Answer.TheVariants as answers
use Rattle.hwp_check_rules.specs.hwp_report_text.declared.CpuLine.{CpuLine}
use Rattle.hwp_check_rules.specs.hwp_report_text.declared.CpuLine.TheVariants as lines
use Rattle.hwp_check_rules.specs.hwp_report_text.declared.EventLine.{EventLine}
use Rattle.hwp_check_rules.specs.hwp_report_text.declared.GuestLine.{GuestLine}
use Rattle.hwp_check_rules.specs.hwp_report_text.declared.Report.{Report}
use Rattle.hwp_check_rules.specs.hwp_script_words.declared.Command.{Command}
use Rattle.hwp_check_rules.specs.hwp_script_words.declared.Script.{Script}
use Rattle.hwp_check_rules.specs.Answered.{AreAnswered, is_answer}
use Rattle.hwp_check_rules.specs.GuestFaults.{IsAdmitted, IsGuestFault, IsGuestLacking, IsGuestWrong, IsMisadmitted, IsMistold, LacksGuest}
use Rattle.hwp_check_rules.specs.Rules.{AnswersFit}
use Rattle.hwp_check_rules.specs.Standing.{cpu_line, row_line}
use Rattle.hwp_check_rules.proofs.ActedLosses.{acted-there}
use Rattle.hwp_check_answers.proofs.NextLaws.{count-rises, next_of}
use Rattle.hwp_check_rules.proofs.StandingLaws.{answer-line}

-- ---- the guests' lines among those of a processor

abbrev with_line : Bool → GuestLine → List CpuLine → ℕ → List GuestLine
with_line own line rows seq = cond own (line ∷ guests_among rows seq) (guests_among rows seq)

abbrev is_some_line : List GuestLine → Bool
is_some_line [] = false
is_some_line (x ∷ xs) = true

abbrev first_line : GuestLine → List GuestLine → GuestLine
first_line d [] = d
first_line d (x ∷ xs) = x

abbrev later_lines : List GuestLine → List GuestLine
later_lines [] = []
later_lines (x ∷ xs) = xs

abbrev is_guest_line : CpuLine → Bool
is_guest_line (lines.Guest line) = true
is_guest_line line = false

abbrev guest_in_line : GuestLine → CpuLine → GuestLine
guest_in_line d (lines.Guest line) = line
guest_in_line d line = d

-- a guest's line that stands there is among them
among-has : (rows : List CpuLine) (row : ℕ) (line : GuestLine) → slice_get rows row ≡ Some (lines.Guest line) → (i : ℕ) × (slice_get (guests_among rows line.seq) i ≡ Some line)
among-has [] row line there = absurd (none-some (lines.Guest line) there)
among-has (lines.Event event ∷ rs) zero line there = absurd (true≢false (sym (ap is_guest_line (same_Some (lines.Event event) (lines.Guest line) there))))
among-has (lines.Event event ∷ rs) (suc row) line there = among-has rs row line there
among-has (lines.Offlined offlined ∷ rs) zero line there = absurd (true≢false (sym (ap is_guest_line (same_Some (lines.Offlined offlined) (lines.Guest line) there))))
among-has (lines.Offlined offlined ∷ rs) (suc row) line there = among-has rs row line there
among-has (lines.Answer s answer ∷ rs) zero line there = absurd (true≢false (sym (ap is_guest_line (same_Some (lines.Answer s answer) (lines.Guest line) there))))
among-has (lines.Answer s answer ∷ rs) (suc row) line there = among-has rs row line there
among-has (lines.Guest g ∷ rs) zero line there =
    let same : g ≡ line = ap (guest_in_line g) (same_Some (lines.Guest g) (lines.Guest line) there) in
    (0, ap (λ (b : Bool). slice_get (with_line b g rs line.seq) 0) (eq-eqb line.seq g.seq (ap (λ (l : GuestLine). l.seq) (sym same))) ∙ ap Some same)
among-has (lines.Guest g ∷ rs) (suc row) line there = by (cases_eq line.seq g.seq) (among-has rs row line there)
  where
    by : (line.seq ≡ g.seq) ⊎ (line.seq ≡ g.seq → ⊥) → (i : ℕ) × (slice_get (guests_among rs line.seq) i ≡ Some line) → (i : ℕ) × (slice_get (with_line (line.seq == g.seq) g rs line.seq) i ≡ Some line)
    by (inl same) r = (suc r.0, ap (λ (b : Bool). slice_get (with_line b g rs line.seq) (suc r.0)) (eq-eqb line.seq g.seq same) ∙ r.1)
    by (inr other) r = (r.0, ap (λ (b : Bool). slice_get (with_line b g rs line.seq) r.0) (ne_eqb line.seq g.seq other) ∙ r.1)

-- the first of them stands somewhere
record First (rows : List CpuLine) (seq : ℕ) (g : GuestLine) : Type 0 where
  row : ℕ
  there : slice_get rows row ≡ Some (lines.Guest g)
  seq_is : g.seq ≡ seq

later-first : (x : CpuLine) (rows : List CpuLine) (seq : ℕ) (g : GuestLine) → First rows seq g → First (x ∷ rows) seq g
later-first x rows seq g f = record { row = suc f.row; there = f.there; seq_is = f.seq_is }

among-first : (seq : ℕ) (rows : List CpuLine) (g : GuestLine) (gs : List GuestLine) → guests_among rows seq ≡ g ∷ gs → First rows seq g
among-first seq [] g gs is = absurd (true≢false (sym (ap is_some_line is)))
among-first seq (lines.Event event ∷ rs) g gs is = later-first (lines.Event event) rs seq g (among-first seq rs g gs is)
among-first seq (lines.Offlined offlined ∷ rs) g gs is = later-first (lines.Offlined offlined) rs seq g (among-first seq rs g gs is)
among-first seq (lines.Answer s answer ∷ rs) g gs is = later-first (lines.Answer s answer) rs seq g (among-first seq rs g gs is)
among-first seq (lines.Guest x ∷ rs) g gs is = by (cases_eq seq x.seq) (λ less. among-first seq rs g gs less)
  where
    by : (seq ≡ x.seq) ⊎ (seq ≡ x.seq → ⊥) → (guests_among rs seq ≡ g ∷ gs → First rs seq g) → First (lines.Guest x ∷ rs) seq g
    by (inl same) less =
        let own : x ≡ g = ap (first_line g) (sym (ap (λ (b : Bool). with_line b x rs seq) (eq-eqb seq x.seq same)) ∙ is) in
        record { row = 0; there = ap (λ (l : GuestLine). Some (lines.Guest l)) own; seq_is = ap (λ (l : GuestLine). l.seq) (sym own) ∙ sym same }
    by (inr other) less = later-first (lines.Guest x) rs seq g (less (sym (ap (λ (b : Bool). with_line b x rs seq) (ne_eqb seq x.seq other)) ∙ is))

-- so do the first two, one behind the other
record Two (rows : List CpuLine) (seq : ℕ) (g g2 : GuestLine) : Type 0 where
  row : ℕ
  row2 : ℕ
  low : row < row2
  there : slice_get rows row ≡ Some (lines.Guest g)
  there2 : slice_get rows row2 ≡ Some (lines.Guest g2)
  seq_is : g.seq ≡ seq
  seq2_is : g2.seq ≡ seq

later-two : (x : CpuLine) (rows : List CpuLine) (seq : ℕ) (g g2 : GuestLine) → Two rows seq g g2 → Two (x ∷ rows) seq g g2
later-two x rows seq g g2 f = record { row = suc f.row; row2 = suc f.row2; low = let l : f.row < f.row2 = f.low in omega (arith, l); there = f.there; there2 = f.there2; seq_is = f.seq_is; seq2_is = f.seq2_is }

among-two : (seq : ℕ) (rows : List CpuLine) (g g2 : GuestLine) (gs : List GuestLine) → guests_among rows seq ≡ g ∷ g2 ∷ gs → Two rows seq g g2
among-two seq [] g g2 gs is = absurd (true≢false (sym (ap is_some_line is)))
among-two seq (lines.Event event ∷ rs) g g2 gs is = later-two (lines.Event event) rs seq g g2 (among-two seq rs g g2 gs is)
among-two seq (lines.Offlined offlined ∷ rs) g g2 gs is = later-two (lines.Offlined offlined) rs seq g g2 (among-two seq rs g g2 gs is)
among-two seq (lines.Answer s answer ∷ rs) g g2 gs is = later-two (lines.Answer s answer) rs seq g g2 (among-two seq rs g g2 gs is)
among-two seq (lines.Guest x ∷ rs) g g2 gs is = by (cases_eq seq x.seq) (λ less. among-two seq rs g g2 gs less)
  where
    by : (seq ≡ x.seq) ⊎ (seq ≡ x.seq → ⊥) → (guests_among rs seq ≡ g ∷ g2 ∷ gs → Two rs seq g g2) → Two (lines.Guest x ∷ rs) seq g g2
    by (inl same) less =
        let whole : x ∷ guests_among rs seq ≡ g ∷ g2 ∷ gs = sym (ap (λ (b : Bool). with_line b x rs seq) (eq-eqb seq x.seq same)) ∙ is in
        let own : x ≡ g = ap (first_line g) whole in
        let rest = among-first seq rs g2 gs (ap later_lines whole) in
        record {
          row = 0;
          row2 = suc rest.row;
          low = omega arith;
          there = ap (λ (l : GuestLine). Some (lines.Guest l)) own;
          there2 = rest.there;
          seq_is = ap (λ (l : GuestLine). l.seq) (sym own) ∙ sym same;
          seq2_is = rest.seq_is;
        }
    by (inr other) less = later-two (lines.Guest x) rs seq g g2 (less (sym (ap (λ (b : Bool). with_line b x rs seq) (ne_eqb seq x.seq other)) ∙ is))

-- ---- the answer that a guest makes due

denial-is : (d : Admit) (due : Answer) → denial d ≡ Some due → (due ≡ answers.GuestBad) ⊎ (due ≡ answers.GuestStopped)
denial-is admissions.Yes due is = absurd (none-some due is)
denial-is admissions.Bad due is = inl (sym (same_Some answers.GuestBad due is))
denial-is admissions.Stopped due is = inr (sym (same_Some answers.GuestStopped due is))

due-is : (layout : Layout) (earlier : List (Command × Answer)) (command : Command) (due : Answer) → denied layout earlier command ≡ Some due → (due ≡ answers.GuestBad) ⊎ (due ≡ answers.GuestStopped)
due-is layout earlier command due is = by (guest_access layout command) is
  where
    by : (o : Option GuestAccess) → option_and_then (λ (a : GuestAccess). denial (admitted (guest_of layout earlier a.process) a.slot.0)) o ≡ Some due → (due ≡ answers.GuestBad) ⊎ (due ≡ answers.GuestStopped)
    by None none = absurd (none-some due none)
    by (Some a) at = denial-is (admitted (guest_of layout earlier a.process) a.slot.0) due at

abbrev is_bad : Answer → Bool
is_bad answers.GuestBad = true
is_bad a = false

abbrev is_out : Answer → Bool
is_out answers.GuestStopped = true
is_out a = false

abbrev is_end : Answer → Bool
is_end answers.Stopped = true
is_end a = false

bad-or-not : (a : Answer) → (a ≡ answers.GuestBad) ⊎ (a ≡ answers.GuestBad → ⊥)
bad-or-not answers.GuestBad = inl refl
bad-or-not a = inr (λ is. true≢false (sym (ap is_bad is)))

out-or-not : (a : Answer) → (a ≡ answers.GuestStopped) ⊎ (a ≡ answers.GuestStopped → ⊥)
out-or-not answers.GuestStopped = inl refl
out-or-not a = inr (λ is. true≢false (sym (ap is_out is)))

end-or-not : (a : Answer) → (a ≡ answers.Stopped) ⊎ (a ≡ answers.Stopped → ⊥)
end-or-not answers.Stopped = inl refl
end-or-not a = inr (λ is. true≢false (sym (ap is_end is)))

due-or-not : (due a : Answer) → (due ≡ answers.GuestBad) ⊎ (due ≡ answers.GuestStopped) → (a ≡ due) ⊎ (a ≡ due → ⊥)
due-or-not due a (inl bad) = subst (λ (d : Answer). (a ≡ d) ⊎ (a ≡ d → ⊥)) (sym bad) (bad-or-not a)
due-or-not due a (inr out) = subst (λ (d : Answer). (a ≡ d) ⊎ (a ≡ d → ⊥)) (sym out) (out-or-not a)

abbrev is_some_event : List EventLine → Bool
is_some_event [] = false
is_some_event (x ∷ xs) = true

-- that nothing is done, and that an answer is as the guest admits it, can't be neither so nor not so
nothing-stable : (report : Report) (who : Who) → ((DoesNothing report who → ⊥) → ⊥) → DoesNothing report who
nothing-stable report who not-not = record { unmade = λ at e there own. not-not (λ nothing. nothing.unmade at e there own); untold = by (events_of report who) refl }
  where
    by : (l : List EventLine) → events_of report who ≡ l → l ≡ []
    by [] is = refl
    by (x ∷ xs) is = absurd (not-not (λ nothing. true≢false (ap is_some_event (sym is ∙ nothing.untold))))

admitted-stable : (due : Option Answer) (answer : Answer) (Nothing : Type 0) → ((a : Answer) → due ≡ Some a → (a ≡ answers.GuestBad) ⊎ (a ≡ answers.GuestStopped)) → (((Nothing → ⊥) → ⊥) → Nothing)
    → ((IsAdmitted due answer Nothing → ⊥) → ⊥) → IsAdmitted due answer Nothing
admitted-stable None answer Nothing of-two stable not-not = (λ bad. not-not (λ fit. fit.0 bad), λ out. not-not (λ fit. fit.1 out))
admitted-stable (Some due) answer Nothing of-two stable not-not = (said, stable (λ something. not-not (λ fit. something fit.1)))
  where
    said : (answer ≡ due) ⊎ (answer ≡ answers.Stopped)
    said = elim (due-or-not due answer (of-two due refl)) [
      | inl same ↦ inl same
      | inr other ↦ elim (end-or-not answer) [
        | inl end ↦ inr end
        | inr goes ↦ absurd (not-not (λ fit. elim fit.0 [ inl same ↦ other same | inr end ↦ goes end ]))
      ]
    ]

-- of an answer that the command has, this is what the law says
denied-law : (report : Report) (who : Who) (due : Option Answer) (answer : Answer) → answer_of report who ≡ Some answer → IsAdmitted due answer (DoesNothing report who) → IsDenied report who due
denied-law report who None answer is fit = (λ bad. fit.0 (same_Some answer answers.GuestBad (sym is ∙ bad)), λ out. fit.1 (same_Some answer answers.GuestStopped (sym is ∙ out)))
denied-law report who (Some due) answer is fit = (elim fit.0 [ inl same ↦ inl (is ∙ ap Some same) | inr end ↦ inr (is ∙ ap Some end) ], fit.1)

law-denied : (report : Report) (who : Who) (due : Option Answer) (answer : Answer) → answer_of report who ≡ Some answer → IsDenied report who due → IsAdmitted due answer (DoesNothing report who)
law-denied report who None answer is law = (λ bad. law.0 (is ∙ ap Some bad), λ out. law.1 (is ∙ ap Some out))
law-denied report who (Some due) answer is law = (elim law.0 [ inl same ↦ inl (same_Some answer due (sym is ∙ same)) | inr end ↦ inr (same_Some answer answers.Stopped (sym is ∙ end)) ], law.1)

-- a guest's line is one, or it isn't
line-or-not : (a b : GuestLine) → (a ≡ b) ⊎ (a ≡ b → ⊥)
line-or-not a b = elim (cases_eq a.seq b.seq) [
  | inr other ↦ inr (λ is. other (ap (λ (l : GuestLine). l.seq) is))
  | inl seq ↦ elim (cases_eq a.bank b.bank) [
    | inr other ↦ inr (λ is. other (ap (λ (l : GuestLine). l.bank) is))
    | inl bank ↦ elim (cases_eq a.status b.status) [
      | inr other ↦ inr (λ is. other (ap (λ (l : GuestLine). l.status) is))
      | inl status ↦ elim (cases_eq a.addr b.addr) [
        | inr other ↦ inr (λ is. other (ap (λ (l : GuestLine). l.addr) is))
        | inl addr ↦ elim (cases_eq a.misc b.misc) [
          | inr other ↦ inr (λ is. other (ap (λ (l : GuestLine). l.misc) is))
          | inl misc ↦ elim (cases_eq a.row b.row) [
            | inr other ↦ inr (λ is. other (ap (λ (l : GuestLine). l.row) is))
            | inl row ↦ elim (same-flag a.stops b.stops) [
              | inr other ↦ inr (λ is. other (ap (λ (l : GuestLine). l.stops) is))
              | inl stop ↦ inl (λ i. record { seq = seq i; bank = bank i; status = status i; addr = addr i; misc = misc i; row = row i; stops = stop i })
            ]
          ]
        ]
      ]
    ]
  ]
]
  where
    same-flag : (x y : Bool) → (x ≡ y) ⊎ (x ≡ y → ⊥)
    same-flag true true = inl refl
    same-flag true false = inr (λ is. true≢false is)
    same-flag false true = inr (λ is. true≢false (sym is))
    same-flag false false = inl refl

-- one line at most is due
one-due : (layout : Layout) (seq : ℕ) (command : Command) (answer : Answer) (g : GuestLine) → ((guest_lines layout seq command answer ≢ g ∷ []) → ⊥) → guest_lines layout seq command answer ≡ g ∷ []
one-due layout seq command answer g not-not = by (guest_lines layout seq command answer) refl (few answer)
  where
    one-in : (o : Option GuestAccess) → length (cons_option (option_map (guest_line seq) o) []) < 2
    one-in None = omega arith
    one-in (Some a) = omega arith

    few : (a : Answer) → length (guest_lines layout seq command a) < 2
    few (answers.Sigbus at) = one-in (guest_access layout command)
    few a = omega arith

    by : (l : List GuestLine) → guest_lines layout seq command answer ≡ l → length (guest_lines layout seq command answer) < 2 → l ≡ g ∷ []
    by [] is less = absurd (not-not (λ same. true≢false (sym (ap is_some_line (sym is ∙ same)))))
    by (x ∷ []) is less = elim (line-or-not x g) [
      | inl same ↦ ap (λ (y : GuestLine). y ∷ []) same
      | inr other ↦ absurd (not-not (λ same. other (ap (first_line x) (sym is ∙ same))))
    ]
    by (x ∷ y ∷ zs) is less = let many : length (guest_lines layout seq command answer) ≡ suc (suc (length zs)) = ap length is in absurd (omega (arith, many, less))

-- what is due and has a member is that
due-has : (layout : Layout) (seq : ℕ) (command : Command) (answer : Answer) (i : ℕ) (g : GuestLine) → slice_get (guest_lines layout seq command answer) i ≡ Some g → guest_lines layout seq command answer ≡ g ∷ []
due-has layout seq command (answers.Sigbus at) i g is = by (guest_access layout command) i is
  where
    by : (o : Option GuestAccess) (i : ℕ) → slice_get (cons_option (option_map (guest_line seq) o) []) i ≡ Some g → cons_option (option_map (guest_line seq) o) [] ≡ g ∷ []
    by None i none = absurd (none-some g none)
    by (Some a) zero at = ap (λ (l : GuestLine). l ∷ []) (same_Some (guest_line seq a) g at)
    by (Some a) (suc i) none = absurd (none-some g none)
due-has layout seq command answer i g is = absurd (none-some g is)

-- ---- where the answers are right but for guests

module _ (script : Script) (report : Report) (many : length script.lists ≡ length report.cpus) (fit : AnswersFit (acting_script script report) (copied_at script report) report) where
  -- the lines of a processor, in their places
  record Own (cpu : Cpu) (commands : List Command) (rows : List CpuLine) : Type 0 where
    made : List Command
    right : AreAnswered (acting_script script report) report cpu made rows
    same : length made ≡ length commands

  own : (cpu : Cpu) (commands : List Command) (rows : List CpuLine) → slice_get script.lists cpu.0 ≡ Some commands → slice_get report.cpus cpu.0 ≡ Some rows → Own cpu commands rows
  own cpu commands rows of_script of_report =
      let acted = acted-there script report cpu.0 commands of_script in record { made = acted.0; right = fit.answered cpu acted.0 rows acted.1 of_report; same = acted.2 }

  module _ (cpu : Cpu) (commands : List Command) (rows : List CpuLine) (of_script : slice_get script.lists cpu.0 ≡ Some commands) (of_report : slice_get report.cpus cpu.0 ≡ Some rows) where
    o : Own cpu commands rows
    o = own cpu commands rows of_script of_report

    abbrev who : ℕ → Who
    who seq = record { cpu = cpu; seq = seq }

    -- an answer in its place is that of its command
    answer-is : (row seq : ℕ) (answer : Answer) → slice_get rows row ≡ Some (lines.Answer seq answer) → answer_among rows seq ≡ Some answer
    answer-is row seq answer there =
        let place : seq ≡ count_by is_answer (take row rows) = (o.right.in_place row (lines.Answer seq answer) there).of_next in
        let next = next_of o.made rows row (lines.Answer seq answer) there (λ r l less at. o.right.in_place r l at) in
        subst (λ (n : ℕ). answer_among rows n ≡ Some answer) (sym place) (next.first answer (ap (λ (n : ℕ). lines.Answer n answer) place))

    answer-here : (row seq : ℕ) (answer : Answer) → slice_get rows row ≡ Some (lines.Answer seq answer) → answer_of report (who seq) ≡ Some answer
    answer-here row seq answer there = ap (λ (l : Option (List CpuLine)). answer_among (unwrap_or l []) seq) of_report ∙ answer-is row seq answer there

    -- two answers of one command stand in one row
    one-row : (row row2 seq : ℕ) (a a2 : Answer) → slice_get rows row ≡ Some (lines.Answer seq a) → slice_get rows row2 ≡ Some (lines.Answer seq a2) → row < row2 → ⊥
    one-row row row2 seq a a2 there there2 low =
        let first : seq ≡ count_by is_answer (take row rows) = (o.right.in_place row (lines.Answer seq a) there).of_next in
        let second : seq ≡ count_by is_answer (take row2 rows) = (o.right.in_place row2 (lines.Answer seq a2) there2).of_next in
        let rises : count_by is_answer (take row rows) < count_by is_answer (take row2 rows) = count-rises rows row row2 (lines.Answer seq a) low there refl in
        omega (arith, first, second, rises)

    -- behind a guest's line stands the answer of its command
    answer-next : (row : ℕ) (line : GuestLine) → slice_get rows row ≡ Some (lines.Guest line) → (answer : Answer) × (slice_get rows (row + 1) ≡ Some (lines.Answer line.seq answer))
    answer-next row line there = by (slice_get rows (row + 1)) refl (o.right.in_place row (lines.Guest line) there).well_before
      where
        guests : line.seq ≡ count_by is_answer (take row rows)
        guests = (o.right.in_place row (lines.Guest line) there).of_next

        no-more : count_by is_answer (take (row + 1) rows) ≡ count_by is_answer (take row rows)
        no-more = count_by_more_no is_answer rows row (lines.Guest line) (slice_get_within rows row (lines.Guest line) there) (ap is_answer (get_or_from_slice_get rows row (lines.Guest line) (lines.Guest line) there))

        by : (l : Option CpuLine) → slice_get rows (row + 1) ≡ l → option_map_or is_answer l false ≡ true → (answer : Answer) × (l ≡ Some (lines.Answer line.seq answer))
        by None is next = absurd (true≢false (sym next))
        by (Some (lines.Event event)) is next = absurd (true≢false (sym next))
        by (Some (lines.Offlined offlined)) is next = absurd (true≢false (sym next))
        by (Some (lines.Guest guest)) is next = absurd (true≢false (sym next))
        by (Some (lines.Answer s answer)) is next =
            let place : s ≡ count_by is_answer (take (row + 1) rows) = (o.right.in_place (row + 1) (lines.Answer s answer) is).of_next in
            let same : s ≡ line.seq = place ∙ no-more ∙ sym guests in
            (answer, ap (λ (n : ℕ). Some (lines.Answer n answer)) same)

    told-are : (seq : ℕ) → guests_told report (who seq) ≡ guests_among rows seq
    told-are seq = ap (λ (l : Option (List CpuLine)). guests_among (unwrap_or l []) seq) of_report

    before-are : (seq : ℕ) → answered_before script report (who seq) ≡ take seq (answered commands rows)
    before-are seq = λ i. take seq (answered (unwrap_or (of_script i) []) (unwrap_or (of_report i) []))

    made-at : (seq : ℕ) (command : Command) → slice_get commands seq ≡ Some command → command_at script (who seq) ≡ Some command
    made-at seq command there = ap (option_and_then (λ (l : List Command). slice_get l seq)) of_script ∙ there

    -- ---- where the law holds, no line is wrong

    module _ (kept : AreGuestsKept script report) where
      none-lacks : (row : ℕ) (shown : CpuLine) → slice_get rows row ≡ Some shown → IsGuestLacking script.layout commands rows shown → ⊥
      none-lacks row (lines.Answer seq answer) there lacks = lacks.due (sym (kept.told (who seq) lacks.command answer (made-at seq lacks.command lacks.made) (answer-here row seq answer there)) ∙ told-are seq ∙ lacks.none)
      none-lacks row (lines.Event event) there lacks = absurd lacks
      none-lacks row (lines.Offlined offlined) there lacks = absurd lacks
      none-lacks row (lines.Guest guest) there lacks = absurd lacks

      none-wrong : (row : ℕ) (shown : CpuLine) → slice_get rows row ≡ Some shown → IsGuestWrong script report cpu commands rows row shown → ⊥
      none-wrong row (lines.Answer seq answer) there w =
          w.wrong (subst (λ (p : List (Command × Answer)). IsAdmitted (denied script.layout p w.command) answer (DoesNothing report (who seq))) (before-are seq)
          (law-denied report (who seq) (denied script.layout (answered_before script report (who seq)) w.command) answer (answer-here row seq answer there) (kept.kept (who seq) w.command (made-at seq w.command w.made))))
      none-wrong row (lines.Guest line) there w =
          let has = among-has rows row line there in
          let told : guests_among rows line.seq ≡ guest_lines script.layout line.seq w.command w.answer =
          sym (told-are line.seq) ∙ kept.told (who line.seq) w.command w.answer (made-at line.seq w.command w.made) (answer-here (row + 1) line.seq w.answer w.next) in
          w.wrong (due-has script.layout line.seq w.command w.answer has.0 line (sym (ap (λ (l : List GuestLine). slice_get l has.0) told) ∙ has.1))
      none-wrong row (lines.Event event) there w = absurd w
      none-wrong row (lines.Offlined offlined) there w = absurd w

    -- ---- where no line is wrong, the law holds of each command

    module _ (right : (line : ℕ) → IsGuestFault script report line → ⊥) where
      not-wrong : (row : ℕ) (shown : CpuLine) → slice_get rows row ≡ Some shown → IsGuestWrong script report cpu commands rows row shown → ⊥
      not-wrong row shown there wrong =
          right (row_line report cpu.0 row) (record { cpu = cpu; commands = commands; rows = rows; row = row; shown = shown; of_script = of_script; of_report = of_report; there = there; fault = inr (wrong, refl) })

      not-lacking : (row : ℕ) (shown : CpuLine) → slice_get rows row ≡ Some shown → IsGuestLacking script.layout commands rows shown → ⊥
      not-lacking row shown there lacks =
          right (cpu_line report cpu.0) (record { cpu = cpu; commands = commands; rows = rows; row = row; shown = shown; of_script = of_script; of_report = of_report; there = there; fault = inl (lacks, refl) })

      is-kept : (seq : ℕ) (command : Command) → slice_get commands seq ≡ Some command → IsDenied report (who seq) (denied script.layout (answered_before script report (who seq)) command)
      is-kept seq command made =
          let has = o.right.each seq (let inside : seq < length commands = slice_get_within commands seq command made in let same : length o.made ≡ length commands = o.same in omega (arith, inside, same)) in
          let due : Option Answer = denied script.layout (take seq (answered commands rows)) command in
          subst (λ (p : List (Command × Answer)). IsDenied report (who seq) (denied script.layout p command)) (sym (before-are seq))
          (denied-law report (who seq) due has.answer (answer-here has.row seq has.answer has.there)
          (admitted-stable due has.answer (DoesNothing report (who seq)) (λ a is. due-is script.layout (take seq (answered commands rows)) command a is) (nothing-stable report (who seq))
          (λ wrong. not-wrong has.row (lines.Answer seq has.answer) has.there (record { command = command; made = made; wrong = wrong }))))

      is-told : (seq : ℕ) (command : Command) (answer : Answer) → slice_get commands seq ≡ Some command → answer_among rows seq ≡ Some answer → guests_among rows seq ≡ guest_lines script.layout seq command answer
      is-told seq command answer made answered = by (guests_among rows seq) refl
        where
          has : (row : ℕ) × (slice_get rows row ≡ Some (lines.Answer seq answer))
          has = answer-line rows seq answer answered

          -- a guest's line of the command is the one that is due
          due-by : (row : ℕ) (g : GuestLine) → slice_get rows row ≡ Some (lines.Guest g) → g.seq ≡ seq → (row + 1 ≡ has.0) × (guest_lines script.layout seq command answer ≡ g ∷ [])
          due-by row g there seq_is = (in-row (cases_lt (row + 1) has.0), one-due script.layout seq command answer g wrong)
            where
              next : (a : Answer) × (slice_get rows (row + 1) ≡ Some (lines.Answer g.seq a))
              next = answer-next row g there

              next-own : slice_get rows (row + 1) ≡ Some (lines.Answer seq next.0)
              next-own = subst (λ (n : ℕ). slice_get rows (row + 1) ≡ Some (lines.Answer n next.0)) seq_is next.1

              same : next.0 ≡ answer
              same = same_Some next.0 answer (sym (answer-is (row + 1) seq next.0 next-own) ∙ answered)

              in-row : (row + 1 < has.0) ⊎ (has.0 ≤ row + 1) → row + 1 ≡ has.0
              in-row (inl low) = absurd (one-row (row + 1) has.0 seq next.0 answer next-own has.1 low)
              in-row (inr high) = elim (cases_lt has.0 (row + 1)) [
                | inl less ↦ absurd (one-row has.0 (row + 1) seq answer next.0 has.1 next-own less)
                | inr most ↦ omega (arith, high, most)
              ]

              wrong : (guest_lines script.layout seq command answer ≢ g ∷ []) → ⊥
              wrong other = not-wrong row (lines.Guest g) there (record {
                command = command;
                answer = answer;
                made = ap (slice_get commands) seq_is ∙ made;
                next = subst (λ (a : Answer). slice_get rows (row + 1) ≡ Some (lines.Answer g.seq a)) same next.1;
                wrong = λ is. other (ap (λ (n : ℕ). guest_lines script.layout n command answer) (sym seq_is) ∙ is);
              })

          none-due : guests_among rows seq ≡ [] → (l : List GuestLine) → guest_lines script.layout seq command answer ≡ l → [] ≡ l
          none-due none [] is = refl
          none-due none (x ∷ xs) is = absurd (not-lacking has.0 (lines.Answer seq answer) has.1 (record { command = command; made = made; due = λ empty. true≢false (ap is_some_line (sym is ∙ empty)); none = none }))

          by : (l : List GuestLine) → guests_among rows seq ≡ l → l ≡ guest_lines script.layout seq command answer
          by [] is = none-due is (guest_lines script.layout seq command answer) refl
          by (g ∷ []) is = let f = among-first seq rows g [] is in sym (due-by f.row g f.there f.seq_is).1
          by (g ∷ g2 ∷ gs) is =
              let t = among-two seq rows g g2 gs is in
              let one : t.row + 1 ≡ has.0 = (due-by t.row g t.there t.seq_is).0 in
              let two : t.row2 + 1 ≡ has.0 = (due-by t.row2 g2 t.there2 t.seq2_is).0 in
              let low : t.row < t.row2 = t.low in
              absurd (omega (arith, one, two, low))

  pub guests-broken : AreGuestsKept script report → (line : ℕ) → IsGuestFault script report line → ⊥
  guests-broken kept line f = elim f.fault [
    | inl lacks ↦ none-lacks f.cpu f.commands f.rows f.of_script f.of_report kept f.row f.shown f.there lacks.0
    | inr wrong ↦ none-wrong f.cpu f.commands f.rows f.of_script f.of_report kept f.row f.shown f.there wrong.0
  ]

  -- the list and the lines of a command
  record Whose (w : Who) (command : Command) : Type 0 where
    list : List Command
    rows : List CpuLine
    of_script : slice_get script.lists w.cpu.0 ≡ Some list
    of_report : slice_get report.cpus w.cpu.0 ≡ Some rows
    made : slice_get list w.seq ≡ Some command

  whose : (w : Who) (command : Command) → command_at script w ≡ Some command → Whose w command
  whose w command is = by (slice_get script.lists w.cpu.0) refl is
    where
      by : (l : Option (List Command)) → slice_get script.lists w.cpu.0 ≡ l → option_and_then (λ (list : List Command). slice_get list w.seq) l ≡ Some command → Whose w command
      by None of none = absurd (none-some command none)
      by (Some list) of made =
          let inside : w.cpu.0 < length script.lists = slice_get_within script.lists w.cpu.0 list of in
          record { list = list; rows = get_or report.cpus w.cpu.0 []; of_script = of; of_report = slice_get-get_or report.cpus w.cpu.0 [] (omega (arith, inside, many)); made = made }

  pub guests-hold : ((line : ℕ) → IsGuestFault script report line → ⊥) → AreGuestsKept script report
  guests-hold right = record {
    kept = λ w command made. let l = whose w command made in is-kept w.cpu l.list l.rows l.of_script l.of_report right w.seq command l.made;
    told = λ w command answer made given.
        let l = whose w command made in
        ap (λ (o : Option (List CpuLine)). guests_among (unwrap_or o []) w.seq) l.of_report
        ∙ is-told w.cpu l.list l.rows l.of_script l.of_report right w.seq command answer l.made (sym (ap (λ (o : Option (List CpuLine)). answer_among (unwrap_or o []) w.seq) l.of_report) ∙ given);
  }
