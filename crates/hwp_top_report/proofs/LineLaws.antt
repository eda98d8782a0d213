-- The lines of frames, frame by frame, with their records.
use Rattle.std.proofs.Common.{◌≡◌, ◌≢◌, ◌⊎◌, inl, inr, ℕ, ◌+◌, ◌<◌, List, [], ◌∷◌, ◌++◌, Some, get_or, length, slice_get, slice_index_or, sym, ap, ◌∙◌, subst, arith}
use Rattle.std.proofs.lemmas.List.{length-append}
use Rattle.std.proofs.lemmas.Option.{same_Some, slice_get-get_or, slice_get_within}
use Rattle.hwp_plain.specs.hwp_geom.declared.Frame.{Frame}
use Rattle.hwp_plain.specs.hwp_core_rule.Words.{Words}
use Rattle.hwp_plain.proofs.of_hwp_core_rule.Lists.{at_last, at_longer, same-or}
use Rattle.hwp_cpu_row.specs.hwp_report_text.declared.FrameLine.{FrameLine}
use Rattle.hwp_cpu_row.specs.hwp_report_text.declared.MarkLine.{MarkLine}
use Rattle.hwp_law_served.proofs.Homes.{there-is}
use Rattle.hwp_law_served.specs.Rows.{Note, record_of}
use Rattle.hwp_law_served.specs.Runs.{AreSorted}
use Rattle.hwp_top_report.specs.Closing.{AreLinesBy, IsLineBy, line_with}
use Rattle.hwp_top_report.specs.Records.{AreGathered}

-- a frame's line more
pub line-next : (words : Words) (notes : List (List Note)) (count n i : ℕ) (records : List (List MarkLine)) (lines after : List FrameLine) (line : FrameLine) (marks got : List MarkLine)
    → AreGathered notes count records → n < count → i ≡ n → got ≡ slice_index_or records i got → AreSorted got marks → line ≡ line_with words n marks → AreLinesBy words notes n lines → after ≡ lines ++ line ∷ [] → AreLinesBy words notes (n + 1) after
line-next words notes count n i records lines after line marks got are inside at is sorted line_is were pushed = record { count = ap length pushed ∙ many ∙ ap (λ (k : ℕ). k + 1) were.count; each = each }
  where
    within : n < length records
    within = subst (λ (k : ℕ). n < k) (sym are.size) inside

    many : length (lines ++ line ∷ []) ≡ length lines + 1
    many = length-append lines (line ∷ [])

    its : got ≡ record_of (record { 0 = n }) notes
    its = is ∙ ap (λ (k : ℕ). get_or records k got) at ∙ are.each (record { 0 = n }) (get_or records n got) (slice_get-get_or records n got within)

    marks-are : line.marks ≡ marks
    marks-are = ap (λ (l : FrameLine). l.marks) line_is

    by : IsLineBy words notes (record { 0 = n }) line
    by = record {
      line_is = line_is ∙ ap (line_with words n) (sym marks-are);
      marks = subst (λ (l : List MarkLine). AreSorted l line.marks) its (subst (AreSorted got) (sym marks-are) sorted);
    }

    each : (frame : Frame) (x : FrameLine) → slice_get after frame.0 ≡ Some x → IsLineBy words notes frame x
    each frame x there = which (same-or frame.0 n)
      where
        at-end : slice_get (lines ++ line ∷ []) frame.0 ≡ Some x
        at-end = sym (ap (λ (l : List FrameLine). slice_get l frame.0) pushed) ∙ there

        which : (frame.0 ≡ n) ⊎ (frame.0 ≢ n) → IsLineBy words notes frame x
        which (inl same) =
            let its_ : line ≡ x = same_Some line x (sym (at_last lines line) ∙ ap (slice_get (lines ++ line ∷ [])) (were.count ∙ sym same) ∙ at-end) in
            subst (IsLineBy words notes frame) its_ (subst (λ (k : ℕ). IsLineBy words notes (record { 0 = k }) line) (sym same) by)
        which (inr other) =
            let below : frame.0 < length (lines ++ line ∷ []) = slice_get_within (lines ++ line ∷ []) frame.0 x at-end in
            let size : length lines ≡ n = were.count in
            let was = there-is lines frame.0 (omega (arith, below, many, size, other)) in
            subst (IsLineBy words notes frame) (same_Some was.0 x (sym (at_longer lines (line ∷ []) frame.0 was.0 was.1) ∙ at-end)) (were.each frame was.0 was.1)
