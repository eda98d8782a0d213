-- What follows a step of a fault: the parts that go on with the room that was made for an entry, and the task in all.
use Rattle.std.proofs.Common.{◌≡◌, ℕ, ◌≤◌, Option, Some, None, length, sym, ap, ◌∙◌}
use Rattle.std.specs.declared.snapshot.Snapshot.{Snapshot}
use Rattle.hwp_page.specs.hwp_geom.declared.Frame.{Frame}
use Rattle.hwp_page.specs.hwp_geom.declared.Layout.{Layout}
use Rattle.hwp_page.specs.hwp_geom.declared.Page.{Page}
use Rattle.hwp_page.specs.hwp_geom.declared.VSlot.{VSlot}
use Rattle.hwp_page.specs.hwp_geom.declared.Who.{Who}
use Rattle.hwp_page.specs.declared.At.{At}
use Rattle.hwp_page.specs.History.{BodyValue}
use Rattle.hwp_core.specs.hwp_core_rule.declared.Step.TheVariants as steps
use Rattle.hwp_evict.specs.declared.Fill.{Fill}
use Rattle.hwp_evict.specs.Fills as fills
use Rattle.hwp_core.specs.hwp_core_rule.declared.Turn.{Turn}
use Rattle.hwp_fault.specs.declared.fault.Fault.{Fault}
use Rattle.hwp_fault.specs.declared.fault.FaultAt.{FaultAt}
use Rattle.hwp_fault.specs.declared.fault.FaultAt.TheVariants as at
use Rattle.hwp_fault.specs.declared.map_in.MapIn.{MapIn}
use Rattle.hwp_fault.specs.declared.touch.Touch.{Touch}
use Rattle.hwp_fault.specs.Faults.{after_refusal, bring, plan, plan_at, refuse, with_room, IsRoom, Roomed, next_at, turn_at, Follows, FollowsAt}
use Rattle.hwp_fault.specs.MapIns as map_ins
use Rattle.hwp_fault.specs.Touches.{as_snapshot, refused}

module _ (who : Who) (page : Page) (slot : VSlot) (frame : Option Frame) (body now : BodyValue) (room : (now ≡ record body { spare = now.spare }) × (1 ≤ now.spare)) where
  roomed : (x : FaultAt) → x ≡ bring who page slot frame now → Roomed (with_room who page slot frame body) x
  roomed x is = record { spare = Some now.spare; room = room.1; is = is ∙ ap (bring who page slot frame) room.0 }

  pub maps-in : (f : Frame) (m : MapIn) → frame ≡ Some f → m ≡ map_ins.begin who page slot f now → Roomed (with_room who page slot frame body) (at.MapIn m)
  maps-in f m of is = roomed (at.MapIn m) (ap at.MapIn is ∙ sym (ap (λ (g : Option Frame). bring who page slot g now) of))

  pub fills-up : (f : Fill) → frame ≡ None → f ≡ fills.begin who page now → Roomed (with_room who page slot frame body) (at.Fill f)
  fills-up f of is = roomed (at.Fill f) (ap at.Fill is ∙ sym (ap (λ (g : Option Frame). bring who page slot g now) of))

-- the access was refused, with the room that was made for the entry of it
pub refused-so : (layout : Layout) (who : Who) (page : Page) (slot : VSlot) (touch : Touch) (frame : Option Frame) (body now then : BodyValue) (place : ℕ) (result : FaultAt) → (now ≡ record body { spare = now.spare }) × (1 ≤ now.spare)
    → place ≡ length now.log → then ≡ refused who slot touch now → result ≡ after_refusal layout who page touch frame then (record { page = page; entry = place }) → Roomed (refuse layout who page slot touch frame body) result
refused-so layout who page slot touch frame body now then place result room at entered is = record {
  spare = Some now.spare;
  room = room.1;
  is = is ∙ ap (λ (n : ℕ). after_refusal layout who page touch frame then (record { page = page; entry = n })) at ∙ ap (λ (b : BodyValue). after_refusal layout who page touch frame b (record { page = page; entry = length now.log })) entered
      ∙ ap (λ (b : BodyValue). after_refusal layout who page touch frame (refused who slot touch b) (record { page = page; entry = length b.log })) room.0;
}

-- the step that ends a process
pub kill-planned : (f : Fault) (frame : Option Frame) (body : BodyValue) (place : At) (named : Snapshot BodyValue) → f.at ≡ at.Kill frame body place → named.value ≡ body → Some (steps.Kill f.touch.process f.page named) ≡ plan f
kill-planned f frame body place named is same =
    ap (λ (b : BodyValue). Some (steps.Kill f.touch.process f.page (as_snapshot b))) same ∙ sym (ap (λ (x : FaultAt). plan_at f.page f.slot f.touch x) is)

-- the state that follows from this one, where room was made, or refused
record Settles (layout : Layout) (f : Fault) (x : FaultAt) (found : ℕ) (got : Option BodyValue) (y : FaultAt) (turn : Turn) : Type 0 where
  spare : Option ℕ
  room : IsRoom spare
  is : y ≡ next_at layout f.who f.page f.slot f.touch x found got spare
  turn_is : turn ≡ turn_at x found

settles : (layout : Layout) (f : Fault) (x : FaultAt) (found : ℕ) (got : Option BodyValue) (y : FaultAt) (turn : Turn) → FollowsAt layout f.who f.page f.slot f.touch x found got y turn → Settles layout f x found got y turn
settles layout f (at.Hold h) found got y turn e = record { spare = None; room = tt; is = e.0; turn_is = e.1 }
settles layout f (at.LoadPte frame body) found got y turn e = record { spare = e.0.spare; room = e.0.room; is = e.0.is; turn_is = e.1 }
settles layout f (at.Kill frame body place) found got y turn e = record { spare = None; room = tt; is = e.0; turn_is = e.1 }
settles layout f (at.Fill g) found got y turn e = record { spare = e.0.spare; room = e.0.room; is = e.0.is; turn_is = e.1 }
settles layout f (at.MapIn m) found got y turn e = record { spare = None; room = tt; is = e.0; turn_is = e.1 }
settles layout f (at.Unhold u answer) found got y turn e = record { spare = None; room = tt; is = e.0; turn_is = e.1 }
settles layout f (at.GiveUp g) found got y turn e = record { spare = None; room = tt; is = e.0; turn_is = e.1 }
settles layout f (at.Over answer) found got y turn e = record { spare = None; room = tt; is = e.0; turn_is = e.1 }

-- the task with the state that follows is the one that follows
pub follows : (layout : Layout) (f after : Fault) (found : ℕ) (got : Option BodyValue) (turn : Turn) → FollowsAt layout f.who f.page f.slot f.touch f.at found got after.at turn → after ≡ record f { at = after.at } → Follows layout f found got after turn
follows layout f after found got turn e rest =
    let all = settles layout f f.at found got after.at turn e in
    record { spare = all.spare; room = all.room; after_is = rest ∙ ap (λ (x : FaultAt). record f { at = x }) all.is; turn_is = all.turn_is }
