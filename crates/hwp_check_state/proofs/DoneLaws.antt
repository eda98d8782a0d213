-- The commands that were made and answered `done`.
use Rattle.std.proofs.Common.{◌≡◌, ◌⊎◌, inl, inr, ℕ, zero, suc, ◌+◌, ◌<◌, ◌≤◌, Bool, true, false, true≢false, cond, List, [], ◌∷◌, ◌++◌, Option, Some, None, length, slice_get, slice_index_or, unwrap_or, refl, sym, ap, ◌∙◌, subst, arith}
use Rattle.std.specs.List.{Contains}
use Rattle.std.specs.Option.{option_and_then}
use Rattle.std.proofs.lemmas.Bool.{cases_lt}
use Rattle.std.proofs.lemmas.List.Elements.{Contains-append_cases, Contains-append_left, Contains-append_right}
use Rattle.std.proofs.lemmas.Option.{none-some, same_Some, slice_get_within}
use Rattle.hwp_check_rules.specs.hwp_script_words.declared.Command.{Command}
use Rattle.hwp_check_rules.specs.hwp_script_words.declared.Script.{Script}
use Rattle.hwp_check_rules.specs.hwp_report_text.declared.Answer.{Answer}
use Rattle.hwp_check_rules.specs.hwp_report_text.declared.Answer.TheVariants as answers
use Rattle.hwp_check_rules.specs.hwp_report_text.declared.CpuLine.{CpuLine}
use Rattle.hwp_check_rules.specs.hwp_report_text.declared.Report.{Report}
use Rattle.hwp_check_rules.specs.hwp_law.Frames.{WasDone}
use Rattle.hwp_check_rules.specs.hwp_law.Lines.{answer_among}
use Rattle.hwp_check_state.specs.Frames.{AreDoneBelow, AreDoneOf, WasDoneBelow, flagged}
use Rattle.hwp_check_rules.specs.Pasts.{AreDone, is_done}
use Rattle.hwp_check_state.proofs.SightLaws.{cons-cases, cons-here, nothing}

-- a command that is flagged, by its number
record IsFlagged (commands : List Command) (flags : List Bool) (command : Command) : Type 0 where
  number : ℕ
  there : slice_get commands number ≡ Some command
  within : number < length flags
  flag : slice_index_or flags number false ≡ true

next-flagged : (first : Command) (rest : List Command) (flag : Bool) (flags : List Bool) (command : Command) → IsFlagged rest flags command → IsFlagged (first ∷ rest) (flag ∷ flags) command
next-flagged first rest flag flags command m = record { number = suc m.number; there = m.there; within = (let less : m.number < length flags = m.within in omega (arith, less)); flag = m.flag }

has-flagged : (commands : List Command) (flags : List Bool) (command : Command) → Contains (flagged commands flags) command → IsFlagged commands flags command
has-flagged [] flags command c = nothing command c
has-flagged (first ∷ rest) [] command c = nothing command c
has-flagged (first ∷ rest) (false ∷ flags) command c = elim (Contains-append_cases [] (flagged rest flags) command c) [
  | inl none ↦ nothing command none
  | inr more ↦ next-flagged first rest false flags command (has-flagged rest flags command more)
]
has-flagged (first ∷ rest) (true ∷ flags) command c = elim (Contains-append_cases (first ∷ []) (flagged rest flags) command c) [
  | inl one ↦ elim (cons-cases first [] command one) [
    | inl same ↦ record { number = 0; there = ap Some same; within = omega arith; flag = refl }
    | inr none ↦ nothing command none
  ]
  | inr more ↦ next-flagged first rest true flags command (has-flagged rest flags command more)
]

is-flagged : (commands : List Command) (flags : List Bool) (command : Command) (k : ℕ) → slice_get commands k ≡ Some command → k < length flags → slice_index_or flags k false ≡ true → Contains (flagged commands flags) command
is-flagged [] flags command k there within flag = absurd (none-some command there)
is-flagged (first ∷ rest) [] command k there within flag = absurd (omega (arith, within))
is-flagged (first ∷ rest) (true ∷ flags) command zero there within flag = Contains-append_left (first ∷ []) (flagged rest flags) command (cons-here first [] command (same_Some first command there))
is-flagged (first ∷ rest) (false ∷ flags) command zero there within flag = absurd (true≢false (sym flag))
is-flagged (first ∷ rest) (f ∷ flags) command (suc k) there within flag = Contains-append_right (cond f (first ∷ []) []) (flagged rest flags) command (is-flagged rest flags command k there (omega (arith, within)) flag)

-- what stands in a list that may lack
unwrapped : {A : Type 0} (o : Option (List A)) (k : ℕ) (x : A) → slice_get (unwrap_or o []) k ≡ Some x → option_and_then (λ (l : List A). slice_get l k) o ≡ Some x
unwrapped None k x is = absurd (none-some x is)
unwrapped (Some l) k x is = is

wrapped : {A : Type 0} (o : Option (List A)) (k : ℕ) (x : A) → option_and_then (λ (l : List A). slice_get l k) o ≡ Some x → slice_get (unwrap_or o []) k ≡ Some x
wrapped None k x is = absurd (none-some x is)
wrapped (Some l) k x is = is

done-is : (o : Option Answer) → is_done o ≡ true → o ≡ Some answers.Done
done-is None is = absurd (true≢false (sym is))
done-is (Some answers.Done) is = refl
done-is (Some answer) is = absurd (true≢false (sym is))

-- the commands of one processor more
pub done-next : (script : Script) (report : Report) (list out : List Command) (n : ℕ) (commands : List Command) (rows : List CpuLine) (flags : List Bool)
    → commands ≡ unwrap_or (slice_get script.lists n) [] → rows ≡ unwrap_or (slice_get report.cpus n) [] → length flags ≡ length commands → AreDone rows flags
    → out ≡ list ++ flagged commands flags → AreDoneBelow n script report list → AreDoneBelow (n + 1) script report out
done-next script report list out n commands rows flags commands-are rows-are each are out-is below command = (
  λ c. to (Contains-append_cases list (flagged commands flags) command (subst (λ (l : List Command). Contains l command) out-is c)),
  λ was. subst (λ (l : List Command). Contains l command) (sym out-is) (from was (cases_lt was.who.cpu.0 n)),
)
  where
    to : Contains list command ⊎ Contains (flagged commands flags) command → WasDoneBelow (n + 1) script report command
    to (inl old) = let was = (below command).0 old in record { who = was.who; below = (let less : was.who.cpu.0 < n = was.below in omega (arith, less)); made = was.made; answered = was.answered }
    to (inr new) = let f = has-flagged commands flags command new in record {
      who = record { cpu = record { 0 = n }; seq = f.number };
      below = omega arith;
      made = unwrapped (slice_get script.lists n) f.number command (ap (λ (l : List Command). slice_get l f.number) (sym commands-are) ∙ f.there);
      answered = ap (λ (l : List CpuLine). answer_among l f.number) (sym rows-are) ∙ done-is (answer_among rows f.number) (sym (are f.number false f.within) ∙ f.flag);
    }

    from : (was : WasDoneBelow (n + 1) script report command) → (was.who.cpu.0 < n) ⊎ (n ≤ was.who.cpu.0) → Contains (list ++ flagged commands flags) command
    from was (inl less) = Contains-append_left list (flagged commands flags) command ((below command).1 (record { who = was.who; below = less; made = was.made; answered = was.answered }))
    from was (inr more) = Contains-append_right list (flagged commands flags) command (is-flagged commands flags command was.who.seq there within (are was.who.seq false within ∙ ap is_done answered))
      where
        same : was.who.cpu.0 ≡ n
        same = let less : was.who.cpu.0 < n + 1 = was.below in omega (arith, less, more)

        there : slice_get commands was.who.seq ≡ Some command
        there = ap (λ (l : List Command). slice_get l was.who.seq) commands-are
            ∙ wrapped (slice_get script.lists n) was.who.seq command (ap (λ (m : ℕ). option_and_then (λ (l : List Command). slice_get l was.who.seq) (slice_get script.lists m)) (sym same) ∙ was.made)

        within : was.who.seq < length flags
        within = let less : was.who.seq < length commands = slice_get_within commands was.who.seq command there in omega (arith, less, each)

        answered : answer_among rows was.who.seq ≡ Some answers.Done
        answered = ap (λ (l : List CpuLine). answer_among l was.who.seq) (rows-are ∙ ap (λ (m : ℕ). unwrap_or (slice_get report.cpus m) []) (sym same)) ∙ was.answered

-- at the end all processors are read
pub done-all : (script : Script) (report : Report) (list : List Command) (n : ℕ) → length script.lists ≤ n → AreDoneBelow n script report list → AreDoneOf script report list
done-all script report list n all below command = (
  λ c. let was = (below command).0 c in record { who = was.who; made = was.made; answered = was.answered },
  λ was. (below command).1 (record { who = was.who; below = within was; made = was.made; answered = was.answered }),
)
  where
    some : (cpu seq : ℕ) (o : Option (List Command)) → slice_get script.lists cpu ≡ o → option_and_then (λ (l : List Command). slice_get l seq) o ≡ Some command → cpu < length script.lists
    some cpu seq None none is = absurd (none-some command is)
    some cpu seq (Some l) there is = slice_get_within script.lists cpu l there

    within : (was : WasDone script report command) → was.who.cpu.0 < n
    within was = let less : was.who.cpu.0 < length script.lists = some was.who.cpu.0 was.who.seq (slice_get script.lists was.who.cpu.0) refl was.made in omega (arith, less, all)
