-- Where the translations begin to be written, and where one more is.
use Rattle.std.proofs.Common.{◌≡◌, ℕ, ◌<◌, Bool, cond, Option, Some, None, is_none, refl, sym, ap, ◌∙◌, subst}
use Rattle.std.specs.Prelude.{IfSome, MatchOption}
use Rattle.std.specs.FinSet as set
use Rattle.std.specs.Ordering.{nat_cmp}
use Rattle.std.specs.declared.snapshot.Snapshot.{Snapshot}
use Rattle.hwp_claim_frame.specs.hwp_geom.declared.Frame.{Frame}
use Rattle.hwp_claim_frame.specs.hwp_geom.declared.Page.{Page}
use Rattle.hwp_claim_frame.specs.hwp_geom.declared.VSlot.{VSlot}
use Rattle.hwp_claim_frame.specs.hwp_geom.declared.Who.{Who}
use Rattle.hwp_claim_frame.specs.hwp_kill.Limits.{slot_limit}
use Rattle.hwp_claim_frame.specs.hwp_kill.Lowest.{HasNoneFrom, IsLowestFrom}
use Rattle.hwp_claim_frame.specs.hwp_core_rule.declared.Turn.TheVariants.{Moved}
use Rattle.hwp_claim_frame.specs.hwp_core.Clears.{IsNextFrom}
use Rattle.hwp_soft_move.specs.declared.relocate.Relocate.{Relocate}
use Rattle.hwp_soft_move.specs.declared.relocate.RelocateAt.{RelocateAt}
use Rattle.hwp_soft_move.specs.declared.relocate.RelocateAt.TheVariants as at
use Rattle.hwp_soft_move.specs.declared.remap.Remap.{Remap}
use Rattle.hwp_soft_move.specs.Relocations.{FollowsAt}
use Rattle.hwp_soft_move.specs.Remaps.{Follows, IsBegun, snapshot}

next-from : (slots : set.FinSet nat_cmp) (from : ℕ) (next : Option VSlot) → MatchOption next (HasNoneFrom slots from) (λ (found : VSlot). IsLowestFrom slots from found.0) → IfSome next (λ (found : VSlot). found.0 < slot_limit) → IsNextFrom slots from next
next-from slots from None none below = none
next-from slots from (Some found) low below = (below, low)

snapshot-is : (s : Snapshot (set.FinSet nat_cmp)) (slots : set.FinSet nat_cmp) → s.value ≡ slots → s ≡ snapshot slots
snapshot-is s slots e = λ i. record { marker = record {}; value = e i }

pub begins : (who : Who) (page : Page) (from to : Frame) (slots : set.FinSet nat_cmp) (count : ℕ) (s : Snapshot (set.FinSet nat_cmp)) (next : Option VSlot) → s.value ≡ slots
    → MatchOption next (HasNoneFrom slots 0) (λ (found : VSlot). IsLowestFrom slots 0 found.0) → IfSome next (λ (found : VSlot). found.0 < slot_limit)
    → IsBegun who page from to slots count (record { who = who; page = page; from = from; to = to; slots = s; count = count; next = next })
begins who page from to slots count s next same lowest below = record {
  is = ap (λ (x : Snapshot (set.FinSet nat_cmp)). record { who = who; page = page; from = from; to = to; slots = x; count = count; next = next }) (snapshot-is s slots same);
  lowest = next-from slots 0 next lowest below;
}

pub goes-on : {r x : Relocate} (m after : Remap) (over : Bool) (found : ℕ) → r.at ≡ at.Remap m → Follows m after → over ≡ is_none after.next → x ≡ record r { at = cond over at.SetCache (at.Remap after) }
    → (x ≡ record r { at = x.at }) × FollowsAt r.transfer r.maps r.at found x.at Moved
goes-on {r} {x} m after over found is follows ends next = (
  next ∙ ap (λ (y : RelocateAt). record r { at = y }) (sym (ap (λ (z : Relocate). z.at) next)),
  subst (λ (y : RelocateAt). FollowsAt r.transfer r.maps y found x.at Moved) (sym is)
      (record { after = after; follows = follows; next_is = ap (λ (z : Relocate). z.at) next ∙ ap (λ (b : Bool). cond b at.SetCache (at.Remap after)) ends }, refl),
)
