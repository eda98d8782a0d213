-- A page taken out of its failed frame for good: the task's states and its steps.
use Rattle.std.specs.Prelude.{ℕ, ◌+◌, ◌-◌, ◌<◌, ◌==◌, ◌||◌, Bool, true, false, not, cond, List, [], ◌∷◌, Option, Some, None, is_some, length, option_map, slice_get}
use Rattle.std.specs.List.{filter, list_any}
use Rattle.std.specs.declared.snapshot.Snapshot.{Snapshot}
use Rattle.hwp_core.specs.hwp_geom.declared.FileNo.{FileNo}
use Rattle.hwp_core.specs.hwp_geom.declared.Frame.{Frame}
use Rattle.hwp_core.specs.hwp_geom.declared.Layout.{Layout}
use Rattle.hwp_core.specs.hwp_geom.declared.Page.{Page}
use Rattle.hwp_core.specs.hwp_geom.declared.ThreadDecl.{ThreadDecl}
use Rattle.hwp_core.specs.hwp_geom.declared.Who.{Who}
use Rattle.hwp_core.specs.hwp_kill.declared.Code.{Code}
use Rattle.hwp_core.specs.hwp_kill.declared.Code.TheVariants as codes
use Rattle.hwp_core.specs.hwp_kill.declared.Signal.{Signal}
use Rattle.hwp_core.specs.hwp_kill.Limits.{signal_limit}
use Rattle.hwp_core.specs.hwp_page.History.{BodyValue}
use Rattle.hwp_core.specs.hwp_core_rule.declared.Step.{Step}
use Rattle.hwp_core.specs.hwp_core_rule.declared.Step.TheVariants as steps
use Rattle.hwp_claim_act.specs.declared.abandon.Abandon.{Abandon}
use Rattle.hwp_claim_act.specs.declared.abandon.AbandonAt.{AbandonAt}
use Rattle.hwp_claim_act.specs.declared.abandon.AbandonAt.TheVariants as at
use Rattle.hwp_claim_act.specs.declared.abandon.Failed.{Failed}
use Rattle.hwp_claim_act.specs.declared.abandon.Losses.{Losses}

-- a signal to the thread ends its process
abbrev pub unhandled_at : Option ThreadDecl → Bool
unhandled_at None = false
unhandled_at (Some thread) = not thread.handler

abbrev pub is_unhandled : Layout → Signal → Bool
is_unhandled layout signal = unhandled_at (slice_get layout.threads signal.thread.0)

abbrev pub endings_of : Layout → List Signal → List Signal
endings_of layout signals = filter (is_unhandled layout) signals

-- the signal is to the thread that needs the page now
abbrev pub is_now : Code → Bool
is_now codes.Ar = true
is_now codes.Ao = false

abbrev pub signals_now : List Signal → Bool
signals_now signals = list_any (λ (s : Signal). is_now s.code) signals

abbrev pub begin : Who → Page → Frame → ℕ → Losses → Failed → BodyValue → Abandon
begin who page frame count losses failed body = record { who = who; page = page; frame = frame; count = count; losses = losses; failed = failed; body = Some body; at = at.SetCache }

-- a body as clauses see it
abbrev pub snapshot : BodyValue → Snapshot BodyValue
snapshot b = record { marker = record {}; value = b }

abbrev pub plan_at : Page → Frame → ℕ → Option BodyValue → AbandonAt → Option Step
plan_at page frame count body at.SetCache = Some (steps.SetCache page None)
plan_at page frame count body at.SetOwner = Some (steps.SetOwner frame page false)
plan_at page frame count body (at.Lose file) = option_map (λ (b : BodyValue). steps.Lose file (snapshot b)) body
plan_at page frame count body (at.Kill number process) = option_map (λ (b : BodyValue). steps.Kill process page (snapshot b)) body
plan_at page frame count body at.PutRef = Some (steps.PutRef frame (count - 1))
plan_at page frame count body at.Retire = Some (steps.Retire frame)
plan_at page frame count body at.UnlockPage = Some (steps.UnlockPage page)
plan_at page frame count body at.Over = None

abbrev pub plan : Abandon → Option Step
plan a = plan_at a.page a.frame a.count a.body a.at

abbrev pub put_at : Option BodyValue → AbandonAt → Option BodyValue
put_at body at.UnlockPage = body
put_at body _ = None

abbrev pub put : Abandon → Option BodyValue
put a = put_at a.body a.at

-- the body that is left once it has gone home
abbrev pub left_at : Option BodyValue → AbandonAt → Option BodyValue
left_at body at.UnlockPage = None
left_at body _ = body

abbrev pub bare : Abandon → Abandon
bare a = record a { body = left_at a.body a.at }

abbrev pub kill_from : ℕ → Option Signal → AbandonAt
kill_from number (Some signal) = at.Kill number signal.process
kill_from number None = at.PutRef

abbrev pub kill_at : List Signal → ℕ → AbandonAt
kill_at endings number = kill_from number (slice_get endings number)

abbrev pub owner_gone : Option FileNo → List Signal → AbandonAt
owner_gone (Some file) endings = at.Lose file
owner_gone None endings = kill_at endings 0

abbrev pub after_owner : Losses → AbandonAt
after_owner losses = owner_gone losses.file losses.endings

abbrev pub next_at : Losses → AbandonAt → AbandonAt
next_at losses at.SetCache = at.SetOwner
next_at losses at.SetOwner = after_owner losses
next_at losses (at.Lose file) = kill_at losses.endings 0
next_at losses (at.Kill number process) = kill_at losses.endings (number + 1)
next_at losses at.PutRef = at.Retire
next_at losses at.Retire = at.UnlockPage
next_at losses at.UnlockPage = at.Over
next_at losses at.Over = at.Over

abbrev pub next : Abandon → Abandon
next a = record a { at = next_at a.losses a.at }

abbrev pub answer_at : Failed → AbandonAt → Option Failed
answer_at failed at.Over = Some failed
answer_at failed _ = None

abbrev pub answer : Abandon → Option Failed
answer a = answer_at a.failed a.at

-- the entry is listed: with the loss that it is, or the first process that ended
abbrev pub has_told : Losses → ℕ → Bool
has_told losses ended = is_some losses.file || not (ended == 0)

-- or else once the page is let go
abbrev pub is_listed : Losses → AbandonAt → Bool
is_listed losses at.SetCache = false
is_listed losses at.SetOwner = false
is_listed losses (at.Lose file) = false
is_listed losses (at.Kill number process) = has_told losses number
is_listed losses at.Over = true
is_listed losses _ = has_told losses (length losses.endings)

-- the failure, once its entry is listed
abbrev pub failed_now : Abandon → List Failed
failed_now a = cond (is_listed a.losses a.at) (a.failed ∷ []) []

-- there are few signals
abbrev pub ShowsAt : AbandonAt → Type 0
ShowsAt (at.Kill number process) = number < signal_limit
ShowsAt _ = Unit {0}

abbrev pub Shows : Abandon → Type 0
Shows a = ShowsAt a.at

-- 1 while the frame is locked, and 2 while the page is
abbrev pub class_at : AbandonAt → ℕ
class_at at.UnlockPage = 2
class_at at.Over = 4
class_at _ = 1

abbrev pub class : Abandon → ℕ
class a = class_at a.at

-- the turns that are left
abbrev pub cost_at : AbandonAt → ℕ
cost_at at.SetCache = 23
cost_at at.SetOwner = 22
cost_at (at.Lose file) = 21
cost_at (at.Kill number process) = signal_limit + 4 - number
cost_at at.PutRef = 3
cost_at at.Retire = 2
cost_at at.UnlockPage = 1
cost_at at.Over = 0

abbrev pub cost : Abandon → ℕ
cost a = cost_at a.at
