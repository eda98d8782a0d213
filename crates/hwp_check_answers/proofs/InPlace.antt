-- Lines in their places, and flags of commands that have answers.
use Rattle.std.proofs.Common.{◌≡◌, ◌≢◌, ◌⊎◌, inl, inr, ℕ, zero, suc, ◌+◌, ◌<◌, ◌≤◌, Bool, true, false, List, [], ◌∷◌, Option, Some, None, MatchOption, count_by, get_or, length, replicate, slice_get, slice_set, take, refl, sym, ap, ◌∙◌, subst, true≢false, arith}
use Rattle.std.proofs.lemmas.Bool.{cases_eq, cases_lt}
use Rattle.std.proofs.lemmas.List.{get_or-replicate, length-replicate, length-set}
use Rattle.std.proofs.lemmas.Option.{get_or_from_slice_get, none-some, same_Some, slice_get-get_or, slice_get_within}
use Rattle.hwp_check_evidence.specs.hwp_script_words.declared.Command.{Command}
use Rattle.hwp_check_evidence.specs.hwp_report_text.declared.Answer.{Answer}
use Rattle.hwp_check_evidence.specs.hwp_report_text.declared.CpuLine.{CpuLine}
use Rattle.hwp_check_evidence.specs.hwp_report_text.declared.CpuLine.TheVariants as lines
use Rattle.hwp_check_rules.specs.Answered.{HasAnswer, IsInPlace, is_answer}
use Rattle.hwp_check_rules.specs.hwp_law.Lines.{seq_of}
use Rattle.hwp_check_answers.specs.Placing.{AreInPlace, AreSet, FirstInPlace, HasNone, HaveAnswers, IsFirstOut, IsOfNext, TellAnswers, marked}

below-next : (n i : ℕ) → i < n + 1 → (i < n) ⊎ (i ≡ n)
below-next n i within = elim (cases_lt i n) [
  | inl low ↦ inl low
  | inr high ↦ inr (omega arith)
]

at-same : (rows : List CpuLine) (n i : ℕ) (one other : CpuLine) → i ≡ n → slice_get rows n ≡ Some one → slice_get rows i ≡ Some other → one ≡ other
at-same rows n i one other same there is = same_Some _ _ (sym there ∙ ap (slice_get rows) (sym same) ∙ is)

-- one line more is in its place
pub in-place-next : (commands : List Command) (rows : List CpuLine) (n answered : ℕ) (line : CpuLine) → slice_get rows n ≡ Some line
    → answered ≡ count_by is_answer (take n rows) → IsOfNext answered (length commands) rows n line → FirstInPlace commands rows n → FirstInPlace commands rows (n + 1)
in-place-next commands rows n answered line here many next before = λ row other less there. elim (below-next n row less) [
  | inl low ↦ before row other low there
  | inr same ↦
      let line_is : line ≡ other = at-same rows n row line other same here there in
      let place : IsInPlace commands rows n line = record { of_next = next.0 ∙ many; of_some = next.1; well_before = next.2 } in
      subst (λ (k : ℕ). IsInPlace commands rows k other) (sym same) (subst (λ (l : CpuLine). IsInPlace commands rows n l) line_is place)
]

-- the first that isn't
pub first-out-is : (commands : List Command) (rows : List CpuLine) (n answered : ℕ) (line : CpuLine) → slice_get rows n ≡ Some line
    → answered ≡ count_by is_answer (take n rows) → (IsOfNext answered (length commands) rows n line → ⊥) → FirstInPlace commands rows n → IsFirstOut commands rows n
first-out-is commands rows n answered line here many out before = record {
  line = line;
  there = here;
  out = λ place. out (place.of_next ∙ sym many, place.of_some, place.well_before);
  before = before;
}

pub all-in-place : (commands : List Command) (rows : List CpuLine) (n : ℕ) → length rows ≤ n → FirstInPlace commands rows n → AreInPlace commands rows
all-in-place commands rows n all before = λ row line there. before row line (let within : row < length rows = slice_get_within rows row line there in omega (arith, all)) there

-- what is read of a list where one item was set
get-set-other : (xs : List Bool) (i j : ℕ) (y : Bool) → j ≢ i → slice_get (slice_set xs i y) j ≡ slice_get xs j
get-set-other [] i j y other = refl
get-set-other (x ∷ xs) zero zero y other = absurd (other refl)
get-set-other (x ∷ xs) zero (suc j) y other = refl
get-set-other (x ∷ xs) (suc i) zero y other = refl
get-set-other (x ∷ xs) (suc i) (suc j) y other = get-set-other xs i j y (λ same. other (ap suc same))

get-set-same : (xs : List Bool) (i : ℕ) (y z : Bool) → slice_get (slice_set xs i y) i ≡ Some z → z ≡ y
get-set-same [] i y z is = absurd (none-some z is)
get-set-same (x ∷ xs) zero y z is = sym (same_Some _ _ is)
get-set-same (x ∷ xs) (suc i) y z is = get-set-same xs i y z is

-- the flags after the first lines
pub record SoFar (n : ℕ) (rows : List CpuLine) (i : ℕ) (flags : List Bool) : Type 0 where
  pub size : length flags ≡ n
  pub right : (seq : ℕ) → slice_get flags seq ≡ Some true → HasAnswer rows seq
  pub whole : (seq row : ℕ) (answer : Answer) → row < i → slice_get rows row ≡ Some (lines.Answer seq answer) → slice_get flags seq ≡ Some false → ⊥

in-replicate : (n i : ℕ) (b x : Bool) → slice_get (replicate n b) i ≡ Some x → x ≡ b
in-replicate n i b x is =
    let within : i < length (replicate n b) = slice_get_within (replicate n b) i x is in
    let size : length (replicate n b) ≡ n = length-replicate {A = Bool} n b in
    sym (get_or_from_slice_get (replicate n b) i x b is) ∙ get_or-replicate {A = Bool} n i b b (omega (arith, within, size))

pub so-far-start : (n : ℕ) (rows : List CpuLine) → SoFar n rows 0 (replicate n false)
so-far-start n rows = record {
  size = length-replicate {A = Bool} n false;
  right = λ seq is. absurd (true≢false (in-replicate n seq false true is));
  whole = λ seq row answer low there is. absurd (omega (arith, low));
}

pub so-far-next : (n : ℕ) (rows : List CpuLine) (i : ℕ) (flags : List Bool) (line : CpuLine) → slice_get rows i ≡ Some line → SoFar n rows i flags → SoFar n rows (i + 1) (marked line flags)
so-far-next n rows i flags (lines.Event event) there so = record {
  size = so.size;
  right = so.right;
  whole = λ s row answer less is unset. elim (below-next i row less) [
    | inl low ↦ so.whole s row answer low is unset
    | inr same ↦ absurd (true≢false (sym (ap is_answer (at-same rows i row (lines.Event event) (lines.Answer s answer) same there is))))
  ];
}
so-far-next n rows i flags (lines.Offlined offlined) there so = record {
  size = so.size;
  right = so.right;
  whole = λ s row answer less is unset. elim (below-next i row less) [
    | inl low ↦ so.whole s row answer low is unset
    | inr same ↦ absurd (true≢false (sym (ap is_answer (at-same rows i row (lines.Offlined offlined) (lines.Answer s answer) same there is))))
  ];
}
so-far-next n rows i flags (lines.Guest guest) there so = record {
  size = so.size;
  right = so.right;
  whole = λ s row answer less is unset. elim (below-next i row less) [
    | inl low ↦ so.whole s row answer low is unset
    | inr same ↦ absurd (true≢false (sym (ap is_answer (at-same rows i row (lines.Guest guest) (lines.Answer s answer) same there is))))
  ];
}
so-far-next n rows i flags (lines.Answer seq answer) there so = record {
  size = length-set flags seq true ∙ so.size;
  right = λ s is. elim (cases_eq s seq) [
    | inl same ↦ record { row = i; answer = answer; there = subst (λ (k : ℕ). slice_get rows i ≡ Some (lines.Answer k answer)) (sym same) there }
    | inr differs ↦ so.right s (sym (get-set-other flags seq s true differs) ∙ is)
  ];
  whole = λ s row a less is unset. elim (cases_eq s seq) [
    | inl same ↦ true≢false (sym (get-set-same flags seq true false (subst (λ (k : ℕ). slice_get (slice_set flags seq true) k ≡ Some false) same unset)))
    | inr differs ↦ elim (below-next i row less) [
      | inl low ↦ so.whole s row a low is (sym (get-set-other flags seq s true differs) ∙ unset)
      | inr here ↦ absurd (differs (sym (ap seq_of (at-same rows i row (lines.Answer seq answer) (lines.Answer s a) here there is))))
    ]
  ];
}

pub so-far-end : (n : ℕ) (rows : List CpuLine) (i : ℕ) (flags : List Bool) → length rows ≤ i → SoFar n rows i flags → TellAnswers n rows flags
so-far-end n rows i flags all so = record {
  size = so.size;
  right = so.right;
  whole = λ seq unset has. so.whole seq has.row has.answer (let within : has.row < length rows = slice_get_within rows has.row (lines.Answer seq has.answer) has.there in omega (arith, all)) has.there unset;
}

-- one flag more is set
pub set-next : (flags : List Bool) (n : ℕ) (here : Bool) → slice_get flags n ≡ Some here → here ≡ true
    → ((i : ℕ) (flag : Bool) → i < n → slice_get flags i ≡ Some flag → flag ≡ true) → (i : ℕ) (flag : Bool) → i < n + 1 → slice_get flags i ≡ Some flag → flag ≡ true
set-next flags n here at set before i flag less there = elim (below-next n i less) [
  | inl low ↦ before i flag low there
  | inr same ↦ same_Some _ _ (sym there ∙ ap (slice_get flags) same ∙ at ∙ ap Some set)
]

pub all-set : (flags : List Bool) (n : ℕ) → length flags ≤ n → ((i : ℕ) (flag : Bool) → i < n → slice_get flags i ≡ Some flag → flag ≡ true) → AreSet flags
all-set flags n all before = λ i flag there. before i flag (let within : i < length flags = slice_get_within flags i flag there in omega (arith, all)) there

-- what the flags say of the commands
pub told : (commands : List Command) (rows : List CpuLine) (flags : List Bool) (found : Option ℕ) → TellAnswers (length commands) rows flags
    → MatchOption found (AreSet flags) (λ i. slice_get flags i ≡ Some false) → MatchOption found (HaveAnswers commands rows) (HasNone commands rows)
told commands rows flags None tell set = λ seq within.
    let inside : seq < length flags = let size : length flags ≡ length commands = tell.size in omega arith in
    let there : slice_get flags seq ≡ Some (get_or flags seq false) = slice_get-get_or flags seq false inside in
    tell.right seq (there ∙ ap Some (set seq (get_or flags seq false) there))
told commands rows flags (Some i) tell unset = record {
  within = let size : length flags ≡ length commands = tell.size in let inside : i < length flags = slice_get_within flags i false unset in omega arith;
  lacks = tell.whole i unset;
}
