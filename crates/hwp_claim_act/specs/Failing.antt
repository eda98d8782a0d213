-- The entry of a memory failure, as the code makes it.
use Rattle.std.specs.Prelude.{◌≡◌, ℕ, ◌<◌, ◌≤◌, ◌++◌, Bool, true, false, List, [], ◌∷◌, Option, Some, None, length}
use Rattle.hwp_core.specs.hwp_geom.declared.FileNo.{FileNo}
use Rattle.hwp_core.specs.hwp_geom.declared.PageKind.{PageKind}
use Rattle.hwp_core.specs.hwp_geom.declared.PageKind.TheVariants as page_kinds
use Rattle.hwp_core.specs.hwp_geom.declared.Thread.{Thread}
use Rattle.hwp_core.specs.hwp_geom.declared.Who.{Who}
use Rattle.hwp_core.specs.hwp_kill.declared.Seen.{Seen}
use Rattle.hwp_core.specs.hwp_kill.declared.Signal.{Signal}
use Rattle.hwp_core.specs.hwp_kill.Kill.{Killed}
use Rattle.hwp_core.specs.hwp_kill.Limits.{signal_limit}
use Rattle.hwp_core.specs.hwp_page.declared.PageState.{PageState}
use Rattle.hwp_core.specs.hwp_page.declared.Situation.{Situation}
use Rattle.hwp_core.specs.hwp_page.declared.Situation.TheVariants as situations
use Rattle.hwp_core.specs.hwp_page.Actions.{acted, situation_of}
use Rattle.hwp_core.specs.hwp_page.History.{BodyValue}
use Rattle.hwp_core.specs.hwp_page.Situations.{always_signals, is_signalling}
use Rattle.hwp_core.specs.hwp_page.Step.{IsSeenList}
use Rattle.hwp_claim_act.specs.declared.abandon.Failed.{Failed}
use Rattle.hwp_claim_act.specs.declared.abandon.Losses.{Losses}
use Rattle.hwp_claim_act.specs.declared.failing.Entered.{Entered}
use Rattle.hwp_claim_act.specs.Abandons.{endings_of, signals_now}
use Rattle.hwp_claim_act.specs.Abandoned.{Failure, entry_of}

-- a file loses what was stored to a dirty page of it
abbrev pub lost_at : PageKind → Bool → Option FileNo
lost_at (page_kinds.File file fill) true = Some file
lost_at (page_kinds.File file fill) false = None
lost_at page_kinds.Anon dirty = None

abbrev pub lost_of : PageState → Option FileNo
lost_of s = lost_at s.kind s.dirty

-- the translations in use get poison entries
abbrev pub bars_of : Situation → Bool
bars_of situations.Free = false
bars_of situations.Kernel = false
bars_of situations.FileClean = false
bars_of situations.FileDirty = true
bars_of situations.AnonOnly = true
bars_of situations.SwapClean = false
bars_of situations.SwapDirty = false
bars_of situations.LockedClean = false
bars_of situations.LockedFile = true
bars_of situations.LockedAnon = true

-- the page is in its frame, there is room for an entry, and these are the policies that were read
pub record CanEnter (required : Option Thread) (body : BodyValue) (seen : List Seen) : Type 0 where
  pub cached : body.state.cached ≡ true
  pub room : 0 < body.spare
  pub policies : IsSeenList body.layout body.state.maps (is_signalling (situation_of body.state)) required seen

-- the failure of a page in this state
abbrev pub failure_of : PageState → Option Thread → List Seen → List Signal → Failure
failure_of s required seen signals = record { situation = situation_of s; required = required; seen = seen; signals = signals }

-- the body with the entry of the failure
abbrev pub with_failure : Who → Failure → BodyValue → ℕ → BodyValue
with_failure who f body spare = record body { state = acted body.state f.situation; log = body.log ++ entry_of who f ∷ []; spare = spare }

-- what the failure costs, and its answer
abbrev pub losses_by : BodyValue → Failure → Losses
losses_by body f = record { file = lost_of body.state; endings = endings_of body.layout f.signals }

abbrev pub failed_by : BodyValue → Failure → Failed
failed_by body f = record { situation = f.situation; required = f.required; at = record { page = body.page; entry = length body.log }; signalled = signals_now f.signals }

-- the entry has the signals of the kill table
pub record HasMadeEntry (who : Who) (required : Option Thread) (body : BodyValue) (seen : List Seen) (entered : Entered) : Type 0 where
  pub signals : List Signal
  pub killed : Killed body.layout body.state.maps (is_signalling (situation_of body.state)) (always_signals (situation_of body.state)) required seen signals
  pub few : length (endings_of body.layout signals) ≤ signal_limit
  pub is : entered ≡ record {
    body = with_failure who (failure_of body.state required seen signals) body entered.body.spare;
    losses = losses_by body (failure_of body.state required seen signals);
    failed = failed_by body (failure_of body.state required seen signals);
  }
