-- Tasks that set no policy, neither mark nor count a frame, damage no line and don't stop the machine (`IsQuiet`).
use Rattle.std.proofs.Common.{Bool}
use Rattle.hwp_cpu_command.specs.hwp_geom.declared.Frame.{Frame}
use Rattle.hwp_cpu_command.specs.hwp_geom.declared.Page.{Page}
use Rattle.hwp_cpu_command.specs.hwp_geom.declared.Who.{Who}
use Rattle.hwp_cpu_command.specs.hwp_cpu_control.declared.read_stop.ReadStopAt.{ReadStopAt}
use Rattle.hwp_cpu_command.specs.hwp_cpu_control.declared.read_stop.ReadStopAt.TheVariants as read_stop_at
use Rattle.hwp_cpu_command.specs.hwp_cpu_control.ReadStops as read_stops
use Rattle.hwp_cpu_command.specs.hwp_evict.declared.evict.EvictAt.{EvictAt}
use Rattle.hwp_cpu_command.specs.hwp_evict.declared.evict.EvictAt.TheVariants as evict_at
use Rattle.hwp_cpu_command.specs.hwp_core.declared.vacate.VacateAt.{VacateAt}
use Rattle.hwp_cpu_command.specs.hwp_core.declared.vacate.VacateAt.TheVariants as vacate_at
use Rattle.hwp_cpu_command.specs.hwp_evict.Evicts as evicts
use Rattle.hwp_cpu_command.specs.hwp_core.Vacates as vacates
use Rattle.hwp_cpu_command.specs.hwp_claim_frame.declared.claim.ClaimAt.{ClaimAt}
use Rattle.hwp_cpu_command.specs.hwp_claim_frame.declared.claim.ClaimAt.TheVariants as claim_at
use Rattle.hwp_cpu_command.specs.hwp_claim_frame.declared.grab.GrabAt.{GrabAt}
use Rattle.hwp_cpu_command.specs.hwp_claim_frame.declared.grab.GrabAt.TheVariants as grab_at
use Rattle.hwp_cpu_command.specs.hwp_claim_frame.declared.meet.MeetAt.{MeetAt}
use Rattle.hwp_cpu_command.specs.hwp_claim_frame.declared.meet.MeetAt.TheVariants as meet_at
use Rattle.hwp_cpu_command.specs.hwp_claim_frame.Claims as claims
use Rattle.hwp_cpu_command.specs.hwp_claim_frame.Grabs as grabs
use Rattle.hwp_cpu_command.specs.hwp_claim_frame.Meets as meets
use Rattle.hwp_cpu_command.proofs.of_hwp_claim.of_hwp_claim_frame.Quiet.{PlansQuiet, clear, give-up, release, unhold, unlock}
use Rattle.hwp_cpu_command.proofs.of_hwp_cpu_access.Quiet.{hold}
use Rattle.hwp_cpu_command.specs.hwp_soft_move.declared.seize.SeizeAt.{SeizeAt}
use Rattle.hwp_cpu_command.specs.hwp_soft_move.declared.seize.SeizeAt.TheVariants as seize_at
use Rattle.hwp_cpu_command.specs.hwp_soft_move.Seizes as seizes

vacate : (page : Page) (frame : Frame) (x : VacateAt) → PlansQuiet (vacates.plan_at page frame x)
vacate page frame vacate_at.SetCache = tt
vacate page frame vacate_at.SetOwner = tt
vacate page frame vacate_at.UnlockFrame = tt
vacate page frame (vacate_at.Release r) = release r.frame r.count r.at
vacate page frame vacate_at.UnlockPage = tt
vacate page frame vacate_at.Over = tt

pub evict : (x : EvictAt) → PlansQuiet (evicts.plan_at x)
evict evict_at.LoadStop = tt
evict (evict_at.Hold h) = hold h.page h.at
evict (evict_at.LoadBad frame body) = tt
evict (evict_at.SetPte slot frame body done) = tt
evict (evict_at.Clear c body done) = clear c.barred c.next
evict (evict_at.Vacate v done) = vacate v.page v.frame v.at
evict (evict_at.Unhold u answer) = unhold u.page u.at
evict (evict_at.GiveUp g) = give-up g.at
evict (evict_at.Over answer) = tt

pub read : (x : ReadStopAt) → PlansQuiet (read_stops.plan_at x)
read read_stop_at.LoadStop = tt
read (read_stop_at.Over answer) = tt

-- ---- parts of a memory failure, and of a frame taken out of use

grab : (frame : Frame) (x : GrabAt) → PlansQuiet (grabs.plan_at frame x)
grab frame grab_at.LoadAvailable = tt
grab frame (grab_at.Reserve seen) = tt
grab frame grab_at.TakeBit = tt
grab frame grab_at.Unreserve = tt
grab frame grab_at.Adopt = tt
grab frame grab_at.LookAgain = tt
grab frame (grab_at.Grabbed word) = tt

meet : (frame : Frame) (x : MeetAt) → PlansQuiet (meets.plan_at frame x)
meet frame (meet_at.GetRef seen) = tt
meet frame meet_at.LockFree = tt
meet frame (meet_at.LockPage page) = tt
meet frame (meet_at.LockOwned page shelf) = tt
meet frame (meet_at.Unlock body ended) = tt
meet frame (meet_at.UnlockFrame page shelf body ended) = tt
meet frame (meet_at.UnlockPage page shelf ended) = tt
meet frame (meet_at.Release r ended) = release r.frame r.count r.at
meet frame (meet_at.Back ended) = tt
meet frame meet_at.Free = tt
meet frame (meet_at.Owned page body) = tt

pub seize : (frame : Frame) (x : SeizeAt) → PlansQuiet (seizes.plan_at frame x)
seize frame seize_at.Look = tt
seize frame (seize_at.Grab g) = grab g.frame g.at
seize frame (seize_at.Meet m) = meet m.frame m.at
seize frame seize_at.Kernel = tt
seize frame seize_at.Already = tt
seize frame seize_at.Grabbed = tt
seize frame seize_at.Free = tt
seize frame (seize_at.Owned page body) = tt

-- a claim that neither stops the machine nor poisons its frame or counts that
abbrev pub IsQuietAt : ClaimAt → Type 0
IsQuietAt claim_at.Stop = ⊥
IsQuietAt claim_at.Poison = ⊥
IsQuietAt (claim_at.Count cycle) = ⊥
IsQuietAt x = Unit {0}

pub claim : (who : Who) (frame : Frame) (hardware : Bool) (x : ClaimAt) → IsQuietAt x → PlansQuiet (claims.plan_at who frame hardware x)
claim who frame hardware claim_at.Stop quiet = absurd quiet
claim who frame hardware claim_at.Poison quiet = absurd quiet
claim who frame hardware (claim_at.Count cycle) quiet = absurd quiet
claim who frame hardware (claim_at.Look cycle) quiet = tt
claim who frame hardware (claim_at.Grab cycle g) quiet = grab g.frame g.at
claim who frame hardware (claim_at.Meet cycle m) quiet = meet m.frame m.at
claim who frame hardware (claim_at.Unlock cycle u) quiet = unlock u.at
claim who frame hardware (claim_at.Retire cycle) quiet = tt
claim who frame hardware claim_at.GaveUp quiet = tt
claim who frame hardware claim_at.Stopped quiet = tt
claim who frame hardware claim_at.Already quiet = tt
claim who frame hardware (claim_at.Free cycle) quiet = tt
claim who frame hardware (claim_at.Kernel cycle) quiet = tt
claim who frame hardware (claim_at.Owned cycle page body) quiet = tt
