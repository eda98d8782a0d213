-- By the counts of its entries and of the marks before it, a mark is one too many or not.
use Rattle.std.proofs.Common.{◌≡◌, ℕ, ◌+◌, ◌<◌, ◌≤◌, ◌&&◌, ◌||◌, nat_le, Bool, true, false, not, List, [], get_or, length, slice_get, sum_by, take, Some, refl, sym, ap, ◌∙◌, subst, arith}
use Rattle.std.specs.HashMap.{HashMap}
use Rattle.std.proofs.lemmas.List.Sums.{sum_by_more, sum_by_more_le}
use Rattle.std.proofs.lemmas.Option.{slice_get-get_or, slice_get_within}
use Rattle.hwp_check_rules.specs.hwp_geom.declared.Who.{Who}
use Rattle.hwp_check_rules.specs.hwp_report_text.declared.FrameLine.{FrameLine}
use Rattle.hwp_check_rules.specs.hwp_report_text.declared.How.TheVariants as hows
use Rattle.hwp_check_rules.specs.hwp_report_text.declared.MarkLine.{MarkLine}
use Rattle.hwp_check_rules.specs.hwp_report_text.declared.MarkLine.TheVariants as marks
use Rattle.hwp_check_rules.specs.hwp_report_text.declared.Report.{Report}
use Rattle.hwp_check_rules.specs.hwp_law.Pairings.{has_page}
use Rattle.hwp_check_rules.specs.Standing.{frame_height, frame_line, last_line}
use Rattle.hwp_check_frames.specs.Counts.{at_key}
use Rattle.hwp_check_marks.specs.Tallies.{CountEntries, CountMarks, frames_raise, is_over, is_reached, key_of, mark_raise, marks_raise, may_have}
use Rattle.hwp_check_marks.specs.Unpaired.{AllFew, IsExtra, IsFirstExtra, NoneExtra, allowed, before_in, exceeds, in_frames, is_extra}
use Rattle.hwp_check_marks.specs.declared.kinds.Kind.{Kind}
use Rattle.hwp_check_marks.specs.declared.kinds.Kind.TheVariants as kinds
use Rattle.hwp_check_marks.proofs.TallyLaws.{frames-kind, frames-low, front-low, marks-kind, pages-kind}
use Rattle.hwp_check_marks.proofs.UnpairedLaws.{FewBelow, extra-next, few-first, few-next}
use Rattle.hwp_check_rules.specs.Firsts.{IsFirstFault}

module _ {S : Type 0} (report : Report) (above : List FrameLine) (before : List MarkLine) (entries had : HashMap ((ℕ × ℕ) × ℕ) ℕ S) (of_entries : CountEntries report.pages entries) (of_marks : CountMarks above before had) where
  may-have : (who : Who) (kind : Kind) → may_have kind (at_key entries (key_of who kind)) ≡ allowed report who kind
  may-have who (kinds.Failure situation) = of_entries (key_of who (kinds.Failure situation)) ∙ pages-kind who (kinds.Failure situation) report.pages
  may-have who kinds.Moved = of_entries (key_of who kinds.Moved) ∙ pages-kind who kinds.Moved report.pages
  may-have who kinds.Commanded = refl

  had-before : (who : Who) (kind : Kind) → at_key had (key_of who kind) ≡ before_in who kind above before
  had-before who kind =
      of_marks (key_of who kind) ∙ ap (λ (n : ℕ). n + marks_raise (key_of who kind) before) (frames-kind who kind above) ∙ ap (λ (n : ℕ). in_frames who kind above + n) (marks-kind who kind before)

  reached-is : (who : Who) (kind : Kind) → is_reached entries had who kind ≡ exceeds report who kind above before
  reached-is who kind = ap (λ (n : ℕ). nat_le n (at_key had (key_of who kind))) (may-have who kind) ∙ ap (λ (n : ℕ). nat_le (allowed report who kind) n) (had-before who kind)

  pub over-is : (mark : MarkLine) → is_over entries had mark ≡ is_extra report above before mark
  over-is (marks.Poisoned cycle who (hows.Failure hardware situation outcome)) =
      ap (λ (b : Bool). (has_page situation && b) || (not hardware && is_reached entries had who kinds.Commanded)) (reached-is who (kinds.Failure situation))
      ∙ ap (λ (b : Bool). (has_page situation && exceeds report who (kinds.Failure situation) above before) || (not hardware && b)) (reached-is who kinds.Commanded)
  over-is (marks.Poisoned cycle who hows.Moved) = reached-is who kinds.Moved
  over-is (marks.Poisoned cycle who hows.TakenFree) = refl
  over-is (marks.Unpoisoned cycle who) = reached-is who kinds.Commanded

-- a mark more is counted
pub counted-next : {S : Type 0} (above : List FrameLine) (list : List MarkLine) (i : ℕ) (d mark : MarkLine) (had next : HashMap ((ℕ × ℕ) × ℕ) ℕ S) → i < length list → mark ≡ get_or list i d → CountMarks above (take i list) had
    → ((q : (ℕ × ℕ) × ℕ) → at_key next q ≡ at_key had q + mark_raise q mark) → CountMarks above (take (i + 1) list) next
counted-next above list i d mark had next within is was more q =
    let old : at_key had q ≡ frames_raise q above + marks_raise q (take i list) = was q in
    let new : at_key next q ≡ at_key had q + mark_raise q mark = more q in
    let front : marks_raise q (take (i + 1) list) ≡ marks_raise q (take i list) + mark_raise q (get_or list i d) = sum_by_more (mark_raise q) list i d within in
    let same : mark_raise q mark ≡ mark_raise q (get_or list i d) = ap (mark_raise q) is in
    omega (arith, old, new, front, same)

-- no count is near the highest number
pub counts-room : {S : Type 0} (above : List FrameLine) (list : List MarkLine) (i : ℕ) (had : HashMap ((ℕ × ℕ) × ℕ) ℕ S) → CountMarks above (take i list) had → (q : (ℕ × ℕ) × ℕ) → at_key had q ≤ sum_by frame_height above + length list
counts-room above list i had was q =
    let is : at_key had q ≡ frames_raise q above + marks_raise q (take i list) = was q in
    let high : frames_raise q above ≤ sum_by frame_height above = frames-low q above in
    let low : marks_raise q (take i list) ≤ length list = front-low q list i in
    omega (arith, is, high, low)

-- the marks of a frame are those of one frame more
pub frame-counted : {S : Type 0} (frames : List FrameLine) (i : ℕ) (d : FrameLine) (list : List MarkLine) (had : HashMap ((ℕ × ℕ) × ℕ) ℕ S) → i < length frames → list ≡ (get_or frames i d).marks → CountMarks (take i frames) list had
    → CountMarks (take (i + 1) frames) [] had
frame-counted frames i d list had within is was q =
    let old : at_key had q ≡ frames_raise q (take i frames) + marks_raise q list = was q in
    let front : frames_raise q (take (i + 1) frames) ≡ frames_raise q (take i frames) + marks_raise q (get_or frames i d).marks = sum_by_more (λ (x : FrameLine). marks_raise q x.marks) frames i d within in
    let same : marks_raise q list ≡ marks_raise q (get_or frames i d).marks = ap (λ (ms : List MarkLine). marks_raise q ms) is in
    omega (arith, old, front, same)

-- a mark that is over is the first that is one too many, and behind one that isn't there is none so far
module _ {S : Type 0} (report : Report) (above : List FrameLine) (list : List MarkLine) (i : ℕ) (d mark : MarkLine) (entries had : HashMap ((ℕ × ℕ) × ℕ) ℕ S) (over : Bool) (of_entries : CountEntries report.pages entries)
    (of_marks : CountMarks above (take i list) had) (none : NoneExtra report above list i) (within : i < length list) (is : mark ≡ get_or list i d) (asked : over ≡ is_over entries had mark) where
  there : slice_get list i ≡ Some mark
  there = slice_get-get_or list i d within ∙ ap Some (sym is)

  extra-is : over ≡ is_extra report above (take i list) mark
  extra-is = asked ∙ over-is report above (take i list) entries had of_entries of_marks mark

  pub extra-here : over ≡ true → IsFirstExtra report above list i
  extra-here yes_over = record { mark = mark; there = there; before = none; extra = sym extra-is ∙ yes_over }

  pub extra-not : over ≡ false → NoneExtra report above list (i + 1)
  extra-not not_over = extra-next report above list i mark none there (sym extra-is ∙ not_over)

-- the frames of a report, as they are read
module _ (report : Report) (n heading : ℕ) (d : FrameLine) (list : List MarkLine) (below : FewBelow report n heading) where
  room-in : n < length report.frames → list ≡ (get_or report.frames n d).marks → (frame_line report n ≡ heading) × (heading + 1 + length list ≤ last_line report)
  room-in within is =
      let at : heading ≡ frame_line report n = below.heading_is in
      let more : sum_by frame_height (take n report.frames) + frame_height (get_or report.frames n d) ≤ sum_by frame_height report.frames = sum_by_more_le frame_height report.frames n d within in
      let same : length list ≡ length (get_or report.frames n d).marks = ap (λ (ms : List MarkLine). length ms) is in
      (sym at, omega (arith, at, more, same))

  pub room-here : (xs : List FrameLine) → xs ≡ report.frames → n < length xs → list ≡ (get_or xs n d).marks → (sum_by frame_height (take n xs) + 4 ≤ heading) × (heading + 1 + length list ≤ last_line report)
  room-here xs are = subst (λ (ys : List FrameLine). n < length ys → list ≡ (get_or ys n d).marks → (sum_by frame_height (take n ys) + 4 ≤ heading) × (heading + 1 + length list ≤ last_line report)) (sym are) core
    where
      core : n < length report.frames → list ≡ (get_or report.frames n d).marks → (sum_by frame_height (take n report.frames) + 4 ≤ heading) × (heading + 1 + length list ≤ last_line report)
      core within is = let r = room-in within is in let at : frame_line report n ≡ heading = r.0 in (omega (arith, at), r.1)

  pub next-frame : {S : Type 0} (had : HashMap ((ℕ × ℕ) × ℕ) ℕ S) (xs : List FrameLine) → xs ≡ report.frames → n < length xs → list ≡ (get_or xs n d).marks → CountMarks (take n xs) list had → NoneExtra report (take n xs) list (length list)
      → CountMarks (take (n + 1) report.frames) [] had × FewBelow report (n + 1) (heading + (1 + length list))
  next-frame had xs are =
      subst
      (λ (ys : List FrameLine). n < length ys → list ≡ (get_or ys n d).marks → CountMarks (take n ys) list had → NoneExtra report (take n ys) list (length list)
      → CountMarks (take (n + 1) report.frames) [] had × FewBelow report (n + 1) (heading + (1 + length list)))
      (sym are) core
    where
      core : n < length report.frames → list ≡ (get_or report.frames n d).marks → CountMarks (take n report.frames) list had → NoneExtra report (take n report.frames) list (length list)
          → CountMarks (take (n + 1) report.frames) [] had × FewBelow report (n + 1) (heading + (1 + length list))
      core within is counted none = (
        frame-counted report.frames n d list had within is counted,
        few-next report n heading (heading + (1 + length list)) (get_or report.frames n d) below (slice_get-get_or report.frames n d within)
            (subst (λ (ms : List MarkLine). NoneExtra report (take n report.frames) ms (length ms)) is none) (ap (λ (ms : List MarkLine). heading + (1 + length ms)) is),
      )

  pub first-frame : (place : ℕ) (xs : List FrameLine) → xs ≡ report.frames → n < length xs → list ≡ (get_or xs n d).marks → IsFirstExtra report (take n xs) list place
      → IsFirstFault (AllFew report) (IsExtra report) (heading + 1 + place)
  first-frame place xs are =
      subst (λ (ys : List FrameLine). n < length ys → list ≡ (get_or ys n d).marks → IsFirstExtra report (take n ys) list place → IsFirstFault (AllFew report) (IsExtra report) (heading + 1 + place)) (sym are) core
    where
      core : n < length report.frames → list ≡ (get_or report.frames n d).marks → IsFirstExtra report (take n report.frames) list place → IsFirstFault (AllFew report) (IsExtra report) (heading + 1 + place)
      core within is extra =
          few-first report n heading (heading + 1 + place) place (get_or report.frames n d) below (slice_get-get_or report.frames n d within)
          (subst (λ (ms : List MarkLine). IsFirstExtra report (take n report.frames) ms place) is extra) refl

pub place-within : (report : Report) (above : List FrameLine) (list : List MarkLine) (place : ℕ) → IsFirstExtra report above list place → place < length list
place-within report above list place extra = slice_get_within list place extra.mark extra.there
