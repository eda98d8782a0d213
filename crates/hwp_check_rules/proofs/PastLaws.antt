-- What is known of a thread: the policies set, the commands done, and the counts of both.
use Rattle.std.proofs.Common.{◌≡◌, ◌⊎◌, inl, inr, ℕ, ◌+◌, ◌-◌, ◌<◌, ◌≤◌, ◌==◌, Bool, false, List, [], ◌∷◌, ◌++◌, Some, cond, length, drop, slice_get, slice_set, slice_index_or, refl, sym, ap, ◌∙◌, subst, arith}
use Rattle.std.specs.List.{filter_map, find}
use Rattle.std.specs.Option.{option_map}
use Rattle.std.proofs.lemmas.Bool.{cases_eq, cases_lt, eq-eqb, ne_eqb}
use Rattle.std.proofs.lemmas.List.{drop_all, drop_more, get_or-set_other, get_or-set_same, get_or_append_left, get_or_push, length-set, length_push}
use Rattle.std.proofs.lemmas.Option.{get_or_from_slice_get, slice_get-get_or, slice_get_within}
use Rattle.hwp_law.specs.hwp_geom.declared.Thread.{Thread}
use Rattle.hwp_law.specs.hwp_script_words.declared.Script.{Script}
use Rattle.hwp_law.specs.hwp_report_text.declared.Answer.{Answer}
use Rattle.hwp_law.specs.hwp_report_text.declared.CpuLine.{CpuLine}
use Rattle.hwp_law.specs.hwp_report_text.declared.CpuLine.TheVariants as lines
use Rattle.hwp_law.specs.hwp_report_text.declared.Report.{Report}
use Rattle.hwp_law.specs.Lines.{AnswerLine, answer_among, answer_in}
use Rattle.hwp_check_rules.specs.declared.pasts.ThreadPolicies.{ThreadPolicies}
use Rattle.hwp_check_rules.specs.Pasts.{AreDone, IsPast, is_done, noted}

-- the first answer of a command is the one in this line, or in those behind it
same-answer : (seq : ℕ) (answer : Answer) (rest : List CpuLine) (k : ℕ) → k ≡ seq → answer_among (lines.Answer seq answer ∷ rest) k ≡ Some answer
same-answer seq answer rest k same =
    ap (λ (b : Bool). option_map (λ (l : AnswerLine). l.answer) (cond b (Some (record { seq = seq; answer = answer })) (find (λ (l : AnswerLine). k == l.seq) (filter_map answer_in rest))))
    (eq-eqb k seq same)

other-answer : (seq : ℕ) (answer : Answer) (rest : List CpuLine) (k : ℕ) → (k ≡ seq → ⊥) → answer_among (lines.Answer seq answer ∷ rest) k ≡ answer_among rest k
other-answer seq answer rest k other =
    ap (λ (b : Bool). option_map (λ (l : AnswerLine). l.answer) (cond b (Some (record { seq = seq; answer = answer })) (find (λ (l : AnswerLine). k == l.seq) (filter_map answer_in rest))))
    (ne_eqb k seq other)

-- one line more, from the last one on
noted-length : (row : CpuLine) (flags : List Bool) → length (noted row flags) ≡ length flags
noted-length (lines.Event event) flags = refl
noted-length (lines.Offlined offlined) flags = refl
noted-length (lines.Guest guest) flags = refl
noted-length (lines.Answer seq answer) flags = length-set flags seq (is_done (Some answer))

noted-done : (row : CpuLine) (rest : List CpuLine) (flags : List Bool) → AreDone rest flags → AreDone (row ∷ rest) (noted row flags)
noted-done (lines.Event event) rest flags are = are
noted-done (lines.Offlined offlined) rest flags are = are
noted-done (lines.Guest guest) rest flags are = are
noted-done (lines.Answer seq answer) rest flags are = λ k d less. which k d (subst (λ (n : ℕ). k < n) (length-set flags seq (is_done (Some answer))) less) (cases_eq k seq)
  where
    which : (k : ℕ) (d : Bool) → k < length flags → (k ≡ seq) ⊎ (k ≡ seq → ⊥)
        → slice_index_or (slice_set flags seq (is_done (Some answer))) k d ≡ is_done (answer_among (lines.Answer seq answer ∷ rest) k)
    which k d less (inl same) =
        ap (λ (n : ℕ). slice_index_or (slice_set flags seq (is_done (Some answer))) n d) same
        ∙ get_or-set_same flags seq (is_done (Some answer)) d (subst (λ (n : ℕ). n < length flags) same less)
        ∙ ap is_done (sym (same-answer seq answer rest k same))
    which k d less (inr other) = get_or-set_other flags seq k (is_done (Some answer)) d other ∙ are k d less ∙ ap is_done (sym (other-answer seq answer rest k other))

-- no line is noted yet
pub none-noted : (rows : List CpuLine) (flags : List Bool) → ((k : ℕ) (d : Bool) → k < length flags → slice_index_or flags k d ≡ false) → AreDone (drop (length rows - 0) rows) flags
none-noted rows flags none = λ k d less. none k d less ∙ sym (ap (λ (l : List CpuLine). is_done (answer_among l k)) (drop_all (length rows - 0) rows (omega arith)))

-- and all are
pub all-noted : (rows : List CpuLine) (flags : List Bool) (back : ℕ) → length rows ≤ back → AreDone (drop (length rows - back) rows) flags → AreDone rows flags
all-noted rows flags back past are =
    let none : length rows - back ≡ 0 = omega (arith, past) in
    subst (λ (l : List CpuLine). AreDone l flags) (whole rows) (subst (λ (n : ℕ). AreDone (drop n rows) flags) none are)
  where
    whole : (xs : List CpuLine) → drop 0 xs ≡ xs
    whole [] = refl
    whole (x ∷ xs) = refl

pub note_more : (rows : List CpuLine) (flags after : List Bool) (back : ℕ) (d : CpuLine) → back < length rows → after ≡ noted (slice_index_or rows (length rows - 1 - back) d) flags
    → AreDone (drop (length rows - back) rows) flags → (length after ≡ length flags) × AreDone (drop (length rows - (back + 1)) rows) after
note_more rows flags after back d within done are = (
  ap length done ∙ noted-length row flags,
  subst (AreDone (drop at rows)) (sym done) (subst (λ (l : List CpuLine). AreDone l (noted row flags)) (sym split) (noted-done row (drop (length rows - back) rows) flags are)),
)
  where
    at : ℕ
    at = length rows - (back + 1)

    row : CpuLine
    row = slice_index_or rows (length rows - 1 - back) d

    here : at < length rows
    here = omega arith

    place : length rows - 1 - back ≡ at
    place = omega arith

    next : at + 1 ≡ length rows - back
    next = omega arith

    split : drop at rows ≡ row ∷ drop (length rows - back) rows
    split = drop_more rows at d here ∙ (λ i. slice_index_or rows (sym place i) d ∷ drop (next i) rows)

-- one thread more
pub pasts-more : (script : Script) (report : Report) (pasts : List ThreadPolicies) (past : ThreadPolicies) (thread : Thread) → length pasts ≡ thread.0
    → ((t : Thread) (p : ThreadPolicies) → slice_get pasts t.0 ≡ Some p → IsPast script report t p) → IsPast script report thread past
    → (t : Thread) (p : ThreadPolicies) → slice_get (pasts ++ past ∷ []) t.0 ≡ Some p → IsPast script report t p
pasts-more script report pasts past thread many each is t p there = which (cases_lt t.0 (length pasts))
  where
    within : t.0 < length (pasts ++ past ∷ [])
    within = slice_get_within (pasts ++ past ∷ []) t.0 p there

    which : (t.0 < length pasts) ⊎ (length pasts ≤ t.0) → IsPast script report t p
    which (inl less) = each t p (slice_get-get_or pasts t.0 p less ∙ ap Some (sym (get_or_append_left pasts (past ∷ []) p t.0 less) ∙ get_or_from_slice_get (pasts ++ past ∷ []) t.0 p p there))
    which (inr more) = subst (λ (u : Thread). IsPast script report u p) own (subst (IsPast script report thread) same is)
      where
        at : t.0 ≡ length pasts
        at = let l : length (pasts ++ past ∷ []) ≡ length pasts + 1 = length_push pasts past in omega (arith, l, within, more)

        own : thread ≡ t
        own = λ i. record { 0 = (sym many ∙ sym at) i }

        same : past ≡ p
        same = sym (get_or_push pasts past p t.0 (sym at)) ∙ get_or_from_slice_get (pasts ++ past ∷ []) t.0 p p there
