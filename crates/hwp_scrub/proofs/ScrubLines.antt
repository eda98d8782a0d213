-- How many lines a scrub tells.
use Rattle.std.proofs.Common.{◌≡◌, inl, inr, ℕ, ◌+◌, ◌*◌, ◌<◌, ◌≤◌, List, [], ◌∷◌, Option, Some, None, length, sym, ap, ◌∙◌, arith}
use Rattle.std.proofs.lemmas.List.{length-append, length-map, length-set}
use Rattle.std.proofs.lemmas.Option.{none-some}
use Rattle.hwp_claim.specs.hwp_geom.declared.Frame.{Frame}
use Rattle.hwp_claim.specs.hwp_geom.declared.Layout.{Layout}
use Rattle.hwp_claim.specs.hwp_geom.declared.Who.{Who}
use Rattle.hwp_claim.specs.hwp_banks.declared.Origin.TheVariants as origins
use Rattle.hwp_claim.specs.hwp_banks.Banks.{Banks}
use Rattle.hwp_claim.specs.hwp_banks.Events.{bank_count, bank_of}
use Rattle.hwp_claim.specs.hwp_core_rule.declared.View.{View}
use Rattle.hwp_claim.specs.declared.EventOutcome.{EventOutcome}
use Rattle.hwp_claim.specs.Events.{held_in}
use Rattle.hwp_claim.proofs.BankGrades.{found-in}
use Rattle.hwp_scrub.specs.Fits.{Fits, FitsAt, IsEnd}
use Rattle.hwp_scrub.specs.Scrubs.{answer, answer_at}
use Rattle.hwp_scrub.specs.Visits.{AreBanks, AreVisits, IsBadMet, IsWeakMet, Visit, left_by, left_by_bad, left_by_visit, lines_of, lines_of_visit, scrubbing, with_bad}
use Rattle.hwp_scrub.specs.declared.scrub.Scrub.{Scrub}
use Rattle.hwp_scrub.specs.declared.scrub.ScrubAnswer.{ScrubAnswer}
use Rattle.hwp_scrub.specs.declared.scrub.ScrubAnswer.TheVariants as answers
use Rattle.hwp_scrub.specs.declared.scrub.ScrubAt.{ScrubAt}
use Rattle.hwp_scrub.specs.declared.scrub.ScrubAt.TheVariants as at
use Rattle.hwp_scrub.proofs.VisitLaws.{left-banks}

-- a frame tells of no more events than its machine check found in the banks, and of one weak line
abbrev pub frame_lines : ℕ
frame_lines = bank_count + 1

module _ (layout : Layout) (view : View) (who : Who) where
  bad-few : (frame : Frame) (banks : Banks) (line : Option ℕ) (lines : List EventOutcome) → length banks ≡ bank_count → IsBadMet layout view who frame banks line lines → length lines ≤ bank_count
  bad-few frame banks None lines three none = let same : length lines ≡ 0 = ap length none in omega (arith, same)
  bad-few frame banks (Some line) lines three has =
      let same : length lines ≡ length (held_in scrubbing (with_bad frame line banks)) = sym (length-map lines (λ (t : EventOutcome). t.held)) ∙ ap length has.events in
      let few : length (held_in scrubbing (with_bad frame line banks)) ≤ bank_count = (found-in scrubbing (with_bad frame line banks) (length-set banks (bank_of origins.BadLine) _ ∙ three)).few in
      omega (arith, same, few)

  weak-few : (frame : Frame) (banks : Banks) (line : Option ℕ) (lines : List EventOutcome) → IsWeakMet layout view who frame banks line lines → length lines ≤ 1
  weak-few frame banks None lines none = let same : length lines ≡ 0 = ap length none in omega (arith, same)
  weak-few frame banks (Some line) lines has = let same : length lines ≡ 1 = sym (length-map lines (λ (t : EventOutcome). t.held)) ∙ ap length has.events in omega (arith, same)

  visits-few : (first : ℕ) (banks : Banks) (visits : List Visit) → AreBanks banks → AreVisits layout view who first banks visits → length (lines_of visits) ≤ frame_lines * length visits
  visits-few first banks [] are visited = omega arith
  visits-few first banks (v ∷ vs) are visited =
      let all : length (lines_of (v ∷ vs)) ≡ length (lines_of_visit v) + length (lines_of vs) = length-append (lines_of_visit v) (lines_of vs) in
      let both : length (lines_of_visit v) ≡ length v.bad.lines + length v.weak.lines = length-append v.bad.lines v.weak.lines in
      let bad : length v.bad.lines ≤ bank_count = bad-few (record { 0 = first }) banks v.bad.line v.bad.lines are.three visited.0.bad.met in
      let weak : length v.weak.lines ≤ 1 = weak-few (record { 0 = first }) (left_by_bad v.bad.line banks) v.weak.line v.weak.lines visited.0.weak.met in
      let rest : length (lines_of vs) ≤ frame_lines * length vs = visits-few (first + 1) (left_by_visit v banks) vs (left-banks banks (v ∷ []) are) visited.1 in
      omega (arith, all, both, bad, weak, rest)

-- no more than four for each frame of the machine
pub scrub-few : {layout : Layout} {view : View} (s : Scrub) (a : ScrubAnswer) → Fits layout view s → answer s ≡ Some a → length s.lines.told ≤ frame_lines * layout.frames
scrub-few {layout} {view} s a fits is = which s.at fits.at is
  where
    within : s.last.0 + 1 ≤ layout.frames
    within = let below : s.last.0 < layout.frames = fits.frames.within in omega (arith, below)

    ends : (b : ScrubAnswer) → IsEnd layout view s b → length s.lines.told ≤ frame_lines * layout.frames
    ends answers.Scrubbed has =
        let same : length s.lines.told ≡ length (lines_of has.visits) = ap length has.told_is in
        let few : length (lines_of has.visits) ≤ frame_lines * length has.visits = visits-few layout view s.who s.first.0 s.before.value has.visits fits.banks has.visited.visited in
        let many : s.first.0 + length has.visits ≡ s.last.0 + 1 = has.visited.next_is in
        let inside : s.last.0 + 1 ≤ layout.frames = within in
        omega (arith, same, few, many, inside)
    ends answers.Stopped (inl has) = let none : length s.lines.told ≡ 0 = ap length has.0.told_none in omega (arith, none)
    ends answers.Stopped (inr (frame, has)) =
        let same : length s.lines.told ≡ length (lines_of has.visits) + length has.bad.lines = ap length has.told_is ∙ length-append (lines_of has.visits) has.bad.lines in
        let few : length (lines_of has.visits) ≤ frame_lines * length has.visits = visits-few layout view s.who s.first.0 s.before.value has.visits fits.banks has.visited.visited in
        let bad : length has.bad.lines ≤ bank_count = bad-few layout view s.who frame (left_by s.before.value has.visits) has.bad.line has.bad.lines (left-banks s.before.value has.visits fits.banks).three has.found.met in
        let many : s.first.0 + length has.visits ≡ frame.0 = has.visited.next_is in
        let before : frame.0 ≤ s.last.0 = has.inside in
        let inside : s.last.0 + 1 ≤ layout.frames = within in
        omega (arith, same, few, bad, many, before, inside)

    which : (x : ScrubAt) → FitsAt layout view s x → answer_at x ≡ Some a → length s.lines.told ≤ frame_lines * layout.frames
    which (at.Over (Some b)) has some = ends b has
    which (at.Over None) has none = absurd (none-some a none)
    which _ has none = absurd (none-some a none)
