-- How a page begins to move.
use Rattle.std.proofs.Common.{◌≡◌, ℕ, length, ap, subst}
use Rattle.std.specs.FinSet as set
use Rattle.std.specs.Ordering.{nat_cmp}
use Rattle.hwp_claim_frame.specs.hwp_geom.declared.Frame.{Frame}
use Rattle.hwp_claim_frame.specs.hwp_geom.declared.Page.{Page}
use Rattle.hwp_claim_frame.specs.hwp_geom.declared.Who.{Who}
use Rattle.hwp_claim_frame.specs.hwp_page.History.{BodyValue}
use Rattle.hwp_soft_move.specs.declared.relocate.Relocate.{Relocate}
use Rattle.hwp_soft_move.specs.Relocations.{IsBegun}
use Rattle.hwp_soft.specs.declared.soft.SoftAnswer.TheVariants as answers
use Rattle.hwp_soft.specs.declared.soft.SoftAt.TheVariants as at
use Rattle.hwp_soft.specs.Softs.{Moves, place, with_entry}

pub begins-moving : (who : Who) (frame : Frame) (page : Page) (body : BodyValue) (to : Frame) (cycle : ℕ) (maps : set.FinSet nat_cmp) (entry : ℕ) (more : BodyValue) (r : Relocate) → maps ≡ body.state.maps → entry ≡ length body.log → more ≡ with_entry who body
    → IsBegun who page frame to maps (record { page = page; entry = entry }) more r → Moves who frame page body to cycle (at.Relocate r (answers.Moved to (record { page = page; entry = entry }) cycle))
begins-moving who frame page body to cycle maps entry more r maps-are entry-is more-is begun = record {
  relocate = r;
  begun = subst (λ (m : set.FinSet nat_cmp). IsBegun who page frame to m (place page body) (with_entry who body) r) maps-are
      (subst (λ (n : ℕ). IsBegun who page frame to maps (record { page = page; entry = n }) (with_entry who body) r) entry-is
      (subst (λ (b : BodyValue). IsBegun who page frame to maps (record { page = page; entry = entry }) b r) more-is begun));
  next_is = ap (λ (n : ℕ). at.Relocate r (answers.Moved to (record { page = page; entry = n }) cycle)) entry-is;
}
