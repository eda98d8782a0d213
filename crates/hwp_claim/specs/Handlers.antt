-- A machine check that is acted on: the task's states, its steps and what they come to.
use Rattle.std.specs.Prelude.{◌≡◌, ℕ, ◌+◌, ◌≤◌, ◌==◌, Bool, true, false, cond, List, [], ◌∷◌, ◌++◌, Option, Some, None, length, option_map, unwrap_or}
use Rattle.std.specs.declared.alloc.Global.{Global}
use Rattle.hwp_banks.specs.hwp_geom.declared.Frame.{Frame}
use Rattle.hwp_banks.specs.hwp_geom.declared.Layout.{Layout}
use Rattle.hwp_banks.specs.hwp_geom.declared.Thread.{Thread}
use Rattle.hwp_banks.specs.hwp_geom.declared.Who.{Who}
use Rattle.hwp_claim_frame.specs.hwp_page.History.{BodyValue}
use Rattle.hwp_claim_frame.specs.hwp_words.Stops.{is_stopped}
use Rattle.hwp_claim_frame.specs.hwp_core_rule.declared.Step.{Step}
use Rattle.hwp_claim_frame.specs.hwp_core_rule.declared.Step.TheVariants as steps
use Rattle.hwp_claim_frame.specs.hwp_core_rule.Words.{Words}
use Rattle.hwp_claim_frame.specs.hwp_core_rule.declared.Turn.{Turn}
use Rattle.hwp_claim_frame.specs.hwp_core_rule.declared.Turn.TheVariants.{Moved}
use Rattle.hwp_claim_frame.specs.Claims.{stop_turn}
use Rattle.hwp_law.specs.hwp_report_text.declared.Acted.{Acted}
use Rattle.hwp_banks.specs.Banks.{Banks}
use Rattle.hwp_banks.specs.Events.{bank_count}
use Rattle.hwp_law.specs.hwp_severity.Handling.{has_stop}
use Rattle.hwp_law.specs.hwp_severity.declared.Arrival.{Arrival}
use Rattle.hwp_claim.specs.declared.fail.Fail.{Fail}
use Rattle.hwp_claim.specs.declared.fail.FailAnswer.{FailAnswer}
use Rattle.hwp_claim.specs.Fails as fails
use Rattle.hwp_claim.specs.Events.{held_in}
use Rattle.hwp_claim.specs.Queue.{Queue}
use Rattle.hwp_claim.specs.Told.{are_held_back, at_once, frame_of, halts, required_by, told_at_once, told_by}
use Rattle.hwp_claim.specs.declared.handler.Handler.{Handler}
use Rattle.hwp_claim.specs.declared.handler.HandlerAt.{HandlerAt}
use Rattle.hwp_claim.specs.declared.handler.HandlerAt.TheVariants as at
use Rattle.hwp_claim.specs.declared.told.Held.{Held}
use Rattle.hwp_claim.specs.declared.told.EventOutcome.{EventOutcome}

-- ---- what comes next

-- all is told
abbrev pub at_end : List EventOutcome → HandlerAt
at_end told = cond (halts told) at.Stop (at.Over false)

-- the failure of an event, which the hardware reports
abbrev pub failing : Layout → Global → Who → Option Thread → Held → HandlerAt
failing layout alloc who thread held = at.Fail (fails.begin alloc who (frame_of held) (required_by thread held.grade.severity) true layout.recovery)

-- from here on: what needs no step is told, up to the next failure or to the end
abbrev pub tell_on : Layout → Global → Who → Option Thread → Bool → List Held → List EventOutcome → Queue × HandlerAt
tell_on layout alloc who thread stops [] told = (record { told = told; left = [] }, at_end told)
tell_on layout alloc who thread stops (held ∷ left) told =
    unwrap_or (option_map (λ (acted : Acted). tell_on layout alloc who thread stops left (told ++ told_at_once held acted ∷ [])) (at_once layout (are_held_back stops told) held))
    (record { told = told; left = held ∷ left }, failing layout alloc who thread held)

abbrev pub gone_on : Handler → Queue × HandlerAt → Handler
gone_on h next = record h { events = next.0; at = next.1 }

abbrev pub go_on : Layout → Handler → Handler
go_on layout h = gone_on h (tell_on layout h.alloc h.who h.thread h.stops h.events.left h.events.told)

-- the machine check of what the banks hold
abbrev pub begin : Layout → Global → Who → Option Thread → Arrival → Banks → Handler
begin layout alloc who thread how banks =
    go_on layout (record { alloc = alloc; who = who; thread = thread; stops = has_stop how banks; events = record { told = []; left = held_in how banks }; at = at.Over false })

-- the failure of the event that comes next came to this
abbrev pub ended_by : Layout → Handler → FailAnswer → List Held → Handler
ended_by layout h answer [] = h
ended_by layout h answer (held ∷ left) = go_on layout (record h { events = record { told = h.events.told ++ told_by held answer ∷ []; left = left } })

abbrev pub after_fail_by : Layout → Handler → Option FailAnswer → Handler
after_fail_by layout h None = h
after_fail_by layout h (Some answer) = ended_by layout h answer h.events.left

-- the failure went on, or ended
abbrev pub after_fail : Layout → Handler → Fail → Handler
after_fail layout h f = after_fail_by layout (record h { at = at.Fail f }) (fails.answer f)

-- the stop word that the stop met: another may have given up because memory ran out
abbrev pub after_stop : ℕ → HandlerAt
after_stop found = cond (found == 0) (at.Over true) (cond (is_stopped found) (at.Over true) at.GaveUp)

-- ---- steps

abbrev pub plan_at : Who → HandlerAt → Option Step
plan_at who at.Stop = Some (steps.Stop who.cpu)
plan_at who (at.Fail f) = fails.plan f
plan_at who at.GaveUp = None
plan_at who (at.Over stopped) = None

abbrev pub plan : Handler → Option Step
plan h = plan_at h.who h.at

abbrev pub put_at : HandlerAt → Option BodyValue
put_at (at.Fail f) = fails.put f
put_at _ = None

abbrev pub put : Handler → Option BodyValue
put h = put_at h.at

abbrev pub bare_at : HandlerAt → HandlerAt
bare_at at.Stop = at.Stop
bare_at (at.Fail f) = at.Fail (fails.bare f)
bare_at at.GaveUp = at.GaveUp
bare_at (at.Over stopped) = at.Over stopped

abbrev pub bare : Handler → Handler
bare h = record h { at = bare_at h.at }

-- whether the machine is stopped, once the machine check is over
abbrev pub answer_at : HandlerAt → Option Bool
answer_at (at.Over stopped) = Some stopped
answer_at _ = None

abbrev pub answer : Handler → Option Bool
answer h = answer_at h.at

abbrev pub ShowsAt : HandlerAt → ℕ → Option BodyValue → Type 0
ShowsAt (at.Fail f) found got = fails.Shows f found got
ShowsAt _ found got = Unit {0}

abbrev pub Shows : Handler → ℕ → Option BodyValue → Type 0
Shows h found got = ShowsAt h.at found got

-- the failure goes on
pub record FailsOn (layout : Layout) (h : Handler) (f : Fail) (found : ℕ) (got : Option BodyValue) (after : Handler) (turn : Turn) : Type 0 where
  pub fail : Fail
  pub follows : fails.Follows f found got fail turn
  pub next_is : after ≡ after_fail layout h fail

abbrev pub FollowsAt : Layout → Handler → HandlerAt → ℕ → Option BodyValue → Handler → Turn → Type 0
FollowsAt layout h at.Stop found got after turn = (after ≡ record h { at = after_stop found }) × (turn ≡ stop_turn found)
FollowsAt layout h (at.Fail f) found got after turn = FailsOn layout h f found got after turn
FollowsAt layout h at.GaveUp found got after turn = (after ≡ h) × (turn ≡ Moved)
FollowsAt layout h (at.Over stopped) found got after turn = (after ≡ h) × (turn ≡ Moved)

abbrev pub Follows : Layout → Handler → ℕ → Option BodyValue → Handler → Turn → Type 0
Follows layout h found got after turn = FollowsAt layout h h.at found got after turn

-- there is room for what the machine check tells as it goes on
pub record ShowsWithin (room : ℕ) (h : Handler) (found : ℕ) (got : Option BodyValue) : Type 0 where
  pub shown : Shows h found got
  pub few : (layout : Layout) (after : Handler) (turn : Turn) → Follows layout h found got after turn → length after.events.told ≤ room

-- ---- the rank

abbrev pub class_at : HandlerAt → ℕ
class_at (at.Fail f) = fails.class f
class_at _ = 4

abbrev pub class : Handler → ℕ
class h = class_at h.at

abbrev pub claims_at : HandlerAt → Option (Frame × ℕ)
claims_at (at.Fail f) = fails.claims_of f
claims_at _ = None

abbrev pub claims : Handler → Option (Frame × ℕ)
claims h = claims_at h.at

abbrev pub aborts_at : HandlerAt → Bool
aborts_at (at.Fail f) = fails.aborts f
aborts_at _ = false

abbrev pub aborts : Handler → Bool
aborts h = aborts_at h.at

-- a failure that begins has one turn until it poisons its frame, and so has the stop
abbrev pub cost_with : ℕ → HandlerAt → Words → ℕ
cost_with left at.Stop words = 1
cost_with left (at.Fail f) words = fails.cost f words + left
cost_with left at.GaveUp words = 0
cost_with left (at.Over stopped) words = 0

abbrev pub cost : Handler → Words → ℕ
cost h words = cost_with (length h.events.left) h.at words

-- it is no more than this: a failure of a line, and the other banks' events
abbrev pub handler_most : ℕ
handler_most = fails.fail_most + bank_count
