-- A machine check that a command raises: the task's states, its steps and what they come to.
use Rattle.std.specs.Prelude.{◌≡◌, ◌⊎◌, ℕ, ◌≤◌, Bool, true, false, cond, Option, Some, None, option_map}
use Rattle.std.specs.declared.alloc.Global.{Global}
use Rattle.hwp_cpu_control.specs.hwp_geom.declared.Layout.{Layout}
use Rattle.hwp_cpu_control.specs.hwp_geom.declared.Mode.{Mode}
use Rattle.hwp_cpu_control.specs.hwp_geom.declared.Mode.TheVariants as modes
use Rattle.hwp_cpu_control.specs.hwp_geom.declared.Page.{Page}
use Rattle.hwp_cpu_control.specs.hwp_geom.declared.Thread.{Thread}
use Rattle.hwp_cpu_control.specs.hwp_geom.declared.Who.{Who}
use Rattle.hwp_claim.specs.hwp_banks.Events.{bank_count}
use Rattle.hwp_cpu_control.specs.hwp_page.History.{BodyValue}
use Rattle.hwp_cpu_control.specs.hwp_words.Names.{page_named}
use Rattle.hwp_cpu_control.specs.hwp_words.Stops.{is_stopped}
use Rattle.hwp_cpu_control.specs.hwp_core_rule.declared.SharedWord.TheVariants as places
use Rattle.hwp_cpu_control.specs.hwp_core_rule.declared.Step.{Step}
use Rattle.hwp_cpu_control.specs.hwp_core_rule.declared.Step.TheVariants as steps
use Rattle.hwp_cpu_control.specs.hwp_core_rule.declared.Turn.{Turn}
use Rattle.hwp_cpu_control.specs.hwp_core_rule.declared.Turn.TheVariants.{Moved, NoMemory}
use Rattle.hwp_claim.specs.hwp_severity.declared.McgBits.{McgBits}
use Rattle.hwp_claim.specs.hwp_banks.Banks.{Banks, empty_banks}
use Rattle.hwp_claim.specs.hwp_severity.declared.Arrival.{Arrival}
use Rattle.hwp_claim.specs.declared.Handler.{Handler}
use Rattle.hwp_claim.specs.Handlers as handlers
use Rattle.hwp_claim.specs.Lines.{no_lines, with_lines}
use Rattle.hwp_scrub.specs.declared.raise.Raise.{Raise}
use Rattle.hwp_scrub.specs.declared.raise.RaiseAnswer.{RaiseAnswer}
use Rattle.hwp_scrub.specs.declared.raise.RaiseAnswer.TheVariants as answers
use Rattle.hwp_scrub.specs.declared.raise.RaiseAt.{RaiseAt}
use Rattle.hwp_scrub.specs.declared.raise.RaiseAt.TheVariants as at
use Rattle.hwp_scrub.specs.declared.raise.Raiser.{Raiser}

abbrev pub begin : Global → Who → Option Raiser → McgBits → Banks → Raise
begin alloc who raiser mcg banks = record {
  alloc = alloc;
  who = who;
  raiser = raiser;
  mcg = mcg;
  before = record { marker = record {}; value = banks };
  banks = banks;
  lines = no_lines;
  at = at.LoadStop;
}

-- the thread that runs; in user mode where one does
abbrev pub thread_of : Option Raiser → Option Thread
thread_of raiser = option_map (λ (r : Raiser). r.thread) raiser

abbrev pub mode_of : Option Raiser → Mode
mode_of None = modes.Kernel
mode_of (Some raiser) = modes.User

-- how the machine check arrives
abbrev pub how_of : Raise → Arrival
how_of r = record { mcg = r.mcg; mode = mode_of r.raiser }

-- ---- the step that comes

abbrev pub plan_at : RaiseAt → Option Step
plan_at at.LoadStop = Some (steps.Load places.Stop)
plan_at (at.LoadProcess raiser) = Some (steps.Load (places.Process raiser.process))
plan_at (at.Handle h) = handlers.plan h
plan_at at.GiveUp = Some steps.GiveUp
plan_at (at.Over answer) = None

abbrev pub plan : Raise → Option Step
plan r = plan_at r.at

abbrev pub put_at : RaiseAt → Option BodyValue
put_at (at.Handle h) = handlers.put h
put_at _ = None

abbrev pub put : Raise → Option BodyValue
put r = put_at r.at

abbrev pub bare_at : RaiseAt → RaiseAt
bare_at (at.Handle h) = at.Handle (handlers.bare h)
bare_at x = x

abbrev pub bare : Raise → Raise
bare r = record r { at = bare_at r.at }

abbrev pub answer_at : RaiseAt → Option RaiseAnswer
answer_at (at.Over answer) = answer
answer_at _ = None

abbrev pub answer : Raise → Option RaiseAnswer
answer r = answer_at r.at

-- ---- what follows

abbrev pub ended : Raise → RaiseAnswer → Raise
ended r answer = record r { at = at.Over (Some answer) }

-- its next step gives up the command
abbrev pub give_up : Raise → Raise
give_up r = record r { at = at.GiveUp }

abbrev pub after_handler_by : Raise → Handler → Option Bool → Raise
after_handler_by r h None = record r { at = at.Handle h }
after_handler_by r h (Some stopped) = ended (record r { lines = with_lines r.lines h.events.told }) (cond stopped answers.Stopped answers.Raised)

-- the machine check goes on, or is over
abbrev pub after_handler : Raise → Handler → Raise
after_handler r h = after_handler_by r h (handlers.answer h)

-- what follows when it is over, and what it told is taken over
abbrev pub checked : Raise → Bool → Raise
checked r stopped = ended r (cond stopped answers.Stopped answers.Raised)

-- the machine check of what the banks hold
abbrev pub handler_of : Layout → Raise → Handler
handler_of layout r = handlers.begin layout r.alloc r.who (thread_of r.raiser) (how_of r) r.banks

-- there is room for its lines, and it leaves the banks empty
abbrev pub emptied : Raise → ℕ → Raise
emptied r spare = record r { banks = empty_banks; lines = record r.lines { spare = spare } }

-- it begins; or, where room for its lines was refused, the command is given up
abbrev pub BeginsCheck : Layout → Raise → Raise → Type 0
BeginsCheck layout r after = (after ≡ record r { at = at.GiveUp }) ⊎ ((spare : ℕ) × (bank_count ≤ spare) × (after ≡ after_handler (emptied r spare) (handler_of layout r)))

-- what follows the stop word
abbrev pub AfterStopBy : Layout → Raise → Bool → Option Raiser → Raise → Type 0
AfterStopBy layout r true raiser after = after ≡ ended r answers.Stopped
AfterStopBy layout r false (Some raiser) after = after ≡ record r { at = at.LoadProcess raiser }
AfterStopBy layout r false None after = BeginsCheck layout r after

abbrev pub AfterStop : Layout → Raise → ℕ → Raise → Type 0
AfterStop layout r found after = AfterStopBy layout r (is_stopped found) r.raiser after

-- what follows the word of the thread's process: 0, or the page whose history has the signal that ended it
abbrev pub AfterProcessBy : Layout → Raise → Option Page → Raise → Type 0
AfterProcessBy layout r (Some page) after = after ≡ ended r (answers.Gone page)
AfterProcessBy layout r None after = BeginsCheck layout r after

abbrev pub AfterProcess : Layout → Raise → ℕ → Raise → Type 0
AfterProcess layout r found after = AfterProcessBy layout r (page_named found) after

-- ---- each step

pub record HandlerStepped (layout : Layout) (r : Raise) (h : Handler) (found : ℕ) (got : Option BodyValue) (after : Raise) (turn : Turn) : Type 0 where
  pub handler : Handler
  pub follows : handlers.Follows layout h found got handler turn
  pub next_is : after ≡ after_handler r handler

abbrev pub FollowsAt : Layout → Raise → RaiseAt → ℕ → Option BodyValue → Raise → Turn → Type 0
FollowsAt layout r at.LoadStop found got after turn = AfterStop layout r found after × (turn ≡ Moved)
FollowsAt layout r (at.LoadProcess raiser) found got after turn = AfterProcess layout r found after × (turn ≡ Moved)
FollowsAt layout r (at.Handle h) found got after turn = HandlerStepped layout r h found got after turn
FollowsAt layout r at.GiveUp found got after turn = (after ≡ record r { at = at.Over None }) × (turn ≡ NoMemory)
FollowsAt layout r (at.Over answer) found got after turn = (after ≡ r) × (turn ≡ Moved)

abbrev pub Follows : Layout → Raise → ℕ → Option BodyValue → Raise → Turn → Type 0
Follows layout r found got after turn = FollowsAt layout r r.at found got after turn

abbrev pub ShowsAt : ℕ → RaiseAt → ℕ → Option BodyValue → Type 0
ShowsAt spare (at.Handle h) found got = handlers.ShowsWithin spare h found got
ShowsAt spare _ found got = Unit {0}

abbrev pub Shows : Raise → ℕ → Option BodyValue → Type 0
Shows r found got = ShowsAt r.lines.spare r.at found got
