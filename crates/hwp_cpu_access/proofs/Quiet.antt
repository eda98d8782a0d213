-- An access makes only steps that set no policy, neither mark nor count a frame and don't stop the machine.
use Rattle.std.proofs.Common.{ℕ}
use Rattle.hwp_fault.specs.hwp_geom.declared.Frame.{Frame}
use Rattle.hwp_fault.specs.hwp_geom.declared.Page.{Page}
use Rattle.hwp_fault.specs.hwp_geom.declared.VSlot.{VSlot}
use Rattle.hwp_fault.specs.hwp_evict.declared.fill.FillAt.{FillAt}
use Rattle.hwp_fault.specs.hwp_evict.declared.fill.FillAt.TheVariants as fill_at
use Rattle.hwp_fault.specs.hwp_core.declared.hold.HoldAt.{HoldAt}
use Rattle.hwp_fault.specs.hwp_core.declared.hold.HoldAt.TheVariants as hold_at
use Rattle.hwp_fault.specs.hwp_core.declared.pin.PinAt.{PinAt}
use Rattle.hwp_fault.specs.hwp_core.declared.pin.PinAt.TheVariants as pin_at
use Rattle.hwp_fault.specs.hwp_core.declared.refer.ReferAt.{ReferAt}
use Rattle.hwp_fault.specs.hwp_core.declared.refer.ReferAt.TheVariants as refer_at
use Rattle.hwp_fault.specs.hwp_evict.declared.take.TakeAt.{TakeAt}
use Rattle.hwp_fault.specs.hwp_evict.declared.take.TakeAt.TheVariants as take_at
use Rattle.hwp_fault.specs.hwp_evict.Fills as fills
use Rattle.hwp_fault.specs.hwp_core.Holds as holds
use Rattle.hwp_fault.specs.hwp_core.Pins as pins
use Rattle.hwp_fault.specs.hwp_core.Refers as refers
use Rattle.hwp_fault.specs.hwp_evict.Takes as takes
use Rattle.hwp_fault.specs.declared.Request.{Request}
use Rattle.hwp_fault.specs.declared.Touch.{Touch}
use Rattle.hwp_fault.specs.declared.access.AccessAt.{AccessAt}
use Rattle.hwp_fault.specs.declared.access.AccessAt.TheVariants as access_at
use Rattle.hwp_fault.specs.declared.fault.FaultAt.{FaultAt}
use Rattle.hwp_fault.specs.declared.fault.FaultAt.TheVariants as fault_at
use Rattle.hwp_fault.specs.declared.map_in.MapInAt.{MapInAt}
use Rattle.hwp_fault.specs.declared.map_in.MapInAt.TheVariants as map_in_at
use Rattle.hwp_fault.specs.Accesses as accesses
use Rattle.hwp_fault.specs.Faults as faults
use Rattle.hwp_fault.specs.MapIns as map_ins
use Rattle.hwp_claim.proofs.of_hwp_claim_frame.Quiet.{PlansQuiet, give-up, unhold, unlock}

pub pin : (frame : Frame) (x : PinAt) → PlansQuiet (pins.plan_at frame x)
pin frame pin_at.Load = tt
pin frame (pin_at.Get seen) = tt
pin frame (pin_at.Held word) = tt
pin frame (pin_at.Gone word) = tt

refer : (frame : Frame) (count : ℕ) (x : ReferAt) → PlansQuiet (refers.plan_at frame count x)
refer frame count refer_at.Load = tt
refer frame count (refer_at.Get seen) = tt
refer frame count refer_at.Over = tt

take : (x : TakeAt) → PlansQuiet (takes.plan_at x)
take take_at.LoadAvailable = tt
take (take_at.Reserve seen) = tt
take (take_at.LoadFree number) = tt
take (take_at.TakeBit frame) = tt
take (take_at.Adopt frame) = tt
take (take_at.Retire frame) = tt
take (take_at.Over frame) = tt

pub hold : (page : Page) (x : HoldAt) → PlansQuiet (holds.plan_at page x)
hold page hold_at.LockPage = tt
hold page (hold_at.LoadCache body) = tt
hold page (hold_at.Pin p) = pin p.frame p.at
hold page (hold_at.LockFrame frame) = tt
hold page (hold_at.Held frame body) = tt

fill : (page : Page) (x : FillAt) → PlansQuiet (fills.plan_at page x)
fill page (fill_at.Take t) = take t.at
fill page (fill_at.SetOwner frame) = tt
fill page (fill_at.Refer r) = refer r.frame r.count r.at
fill page (fill_at.SetCache frame) = tt
fill page (fill_at.Over frame) = tt

map-in : (slot : VSlot) (frame : Frame) (x : MapInAt) → PlansQuiet (map_ins.plan_at slot frame x)
map-in slot frame (map_in_at.Refer r) = refer r.frame r.count r.at
map-in slot frame map_in_at.SetPte = tt
map-in slot frame map_in_at.Over = tt

fault : (page : Page) (slot : VSlot) (touch : Touch) (x : FaultAt) → PlansQuiet (faults.plan_at page slot touch x)
fault page slot touch (fault_at.Hold h) = hold h.page h.at
fault page slot touch (fault_at.LoadPte frame body) = tt
fault page slot touch (fault_at.Kill frame body place) = tt
fault page slot touch (fault_at.Fill f) = fill f.page f.at
fault page slot touch (fault_at.MapIn m) = map-in m.slot m.frame m.at
fault page slot touch (fault_at.Unhold u answer) = unhold u.page u.at
fault page slot touch (fault_at.GiveUp g) = give-up g.at
fault page slot touch (fault_at.Over answer) = tt

pub access : (a : Request) (x : AccessAt) → PlansQuiet (accesses.plan_at a x)
access a access_at.LoadStop = tt
access a access_at.LoadProcess = tt
access a access_at.LoadTranslation = tt
access a (access_at.Pin p) = pin p.frame p.at
access a (access_at.LockFrame frame) = tt
access a (access_at.LoadAgain frame body) = tt
access a (access_at.LoadBad frame body) = tt
access a (access_at.Unlock u then) = unlock u.at
access a (access_at.Fault f) = fault f.page f.slot f.touch f.at
access a (access_at.GiveUp g) = give-up g.at
access a (access_at.Over answer) = tt
