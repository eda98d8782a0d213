-- The losses of a file that a handle hasn't seen: the task's states, its steps and what they come to. A handle is the pair of a
-- processor and a file, and its number the losses of the file that it has seen.
use Rattle.std.specs.Prelude.{◌≡◌, ◌⊎◌, ℕ, ◌+◌, ◌-◌, ◌<◌, ◌==◌, Bool, false, cond, [], Option, Some, None}
use Rattle.hwp_core.specs.hwp_geom.declared.FileNo.{FileNo}
use Rattle.hwp_core.specs.hwp_geom.declared.Layout.{Layout}
use Rattle.hwp_core.specs.hwp_geom.declared.Who.{Who}
use Rattle.hwp_core.specs.hwp_core_rule.declared.SharedWord.TheVariants as places
use Rattle.hwp_core.specs.hwp_core_rule.declared.Step.{Step}
use Rattle.hwp_core.specs.hwp_core_rule.declared.Step.TheVariants as steps
use Rattle.hwp_core.specs.hwp_core_rule.declared.View.{View}
use Rattle.hwp_core.specs.hwp_core_rule.Words.{Words}
use Rattle.hwp_core.specs.hwp_core_rule.declared.Turn.{Turn}
use Rattle.hwp_core.specs.hwp_core_rule.declared.Turn.TheVariants.{Moved, Answered}
use Rattle.hwp_core.specs.hwp_core_rule.Calls.{IsOnTurn}
use Rattle.hwp_core.specs.hwp_core_rule.Hands.{hand_of, empty}
use Rattle.hwp_core.specs.hwp_words.Stops.{is_stopped}
use Rattle.hwp_core.specs.hwp_core_rule.Known.{Covers, HasSeenLoss, Saw, SawStop, HasMadeNone}
use Rattle.hwp_core.specs.hwp_core_rule.Turns.{Member}
use Rattle.hwp_evict.specs.declared.fsync.Fsync.{Fsync}
use Rattle.hwp_evict.specs.declared.fsync.FsyncAt.{FsyncAt}
use Rattle.hwp_evict.specs.declared.fsync.FsyncAt.TheVariants as at
use Rattle.hwp_evict.specs.declared.fsync.FsyncAnswer.{FsyncAnswer}
use Rattle.hwp_evict.specs.declared.fsync.FsyncAnswer.TheVariants as answers

abbrev pub begin : Who → FileNo → ℕ → Bool → Fsync
begin who file handle opens = record { who = who; file = file; handle = handle; opens = opens; at = at.LoadStop }

abbrev pub plan_at : FileNo → FsyncAt → Option Step
plan_at file at.LoadStop = Some (steps.Load places.Stop)
plan_at file at.Report = Some (steps.ReportLost file)
plan_at file (at.Over answer number) = None

abbrev pub plan : Fsync → Option Step
plan f = plan_at f.file f.at

abbrev pub after_stop : ℕ → ℕ → FsyncAt
after_stop handle word = cond (is_stopped word) (at.Over answers.Stopped handle) at.Report

-- what a handle with this number is told where so much has been lost: what came since, or all where it opens
abbrev pub reported : ℕ → Bool → ℕ → FsyncAnswer
reported handle opens word = cond opens (answers.Opened word) (cond (word == handle) answers.Done (answers.Eio (word - handle)))

abbrev pub after_report : ℕ → Bool → ℕ → FsyncAt
after_report handle opens word = at.Over (reported handle opens word) word

abbrev pub next_at : ℕ → Bool → FsyncAt → ℕ → FsyncAt
next_at handle opens at.LoadStop found = after_stop handle found
next_at handle opens at.Report found = after_report handle opens found
next_at handle opens (at.Over answer number) found = at.Over answer number

abbrev pub next : Fsync → ℕ → Fsync
next f found = record f { at = next_at f.handle f.opens f.at found }

abbrev pub turn_at : FsyncAt → ℕ → Turn
turn_at at.LoadStop found = cond (is_stopped found) Answered Moved
turn_at at.Report found = Answered
turn_at (at.Over answer number) found = Moved

abbrev pub turn : Fsync → ℕ → Turn
turn f found = turn_at f.at found

abbrev pub answer_at : FsyncAt → Option FsyncAnswer
answer_at (at.Over answer number) = Some answer
answer_at _ = None

abbrev pub answer : Fsync → Option FsyncAnswer
answer f = answer_at f.at

-- the number of the handle: when the task is over what it has seen, and until then what it had seen before
abbrev pub number_at : ℕ → FsyncAt → ℕ
number_at handle (at.Over answer number) = number
number_at handle _ = handle

abbrev pub number : Fsync → ℕ
number f = number_at f.handle f.at

-- why the command answers so, where its handle had the number `handle` and has `number` then: a step of it showed the stop word of a
-- stopped machine; or the loss word at that number, which the earlier losses of the processor don't exceed
abbrev pub IsCaused : Layout → View → Who → FileNo → ℕ → ℕ → FsyncAnswer → Type 0
IsCaused layout view who file handle number answers.Stopped = SawStop view who × (number ≡ handle)
IsCaused layout view who file handle number answers.Done = (number ≡ handle) × Saw view who (places.Loss file) number × Covers layout view who file number
IsCaused layout view who file handle number (answers.Eio more) = (0 < more) × (number ≡ handle + more) × Saw view who (places.Loss file) number × Covers layout view who file number
IsCaused layout view who file handle number (answers.Opened word) = (number ≡ word) × Saw view who (places.Loss file) number × Covers layout view who file number

abbrev pub FitsAt : Layout → View → Who → FileNo → ℕ → FsyncAt → Type 0
FitsAt layout view who file handle (at.Over answer number) = IsCaused layout view who file handle number answer
FitsAt layout view who file handle _ = Unit {0}

-- nothing is held, no loss is owed, and the command makes no entry; the handle's number is 0 or was seen
pub record Fits (layout : Layout) (view : View) (f : Fsync) : Type 0 where
  pub on_turn : IsOnTurn view f.who
  pub file : f.file.0 < layout.files
  pub hand_is : hand_of view ≡ empty
  pub paid : view.owed.losses ≡ []
  pub made_none : HasMadeNone view f.who
  pub handle : (f.handle ≡ 0) ⊎ HasSeenLoss view f.file f.handle
  pub at : FitsAt layout view f.who f.file f.handle f.at

-- the turns that are left
abbrev pub cost_at : FsyncAt → ℕ
cost_at at.LoadStop = 5
cost_at at.Report = 1
cost_at (at.Over answer number) = 0

abbrev pub cost : Fsync → Words → ℕ
cost f words = cost_at f.at

-- the task, as the laws of tasks read it
abbrev pub task : Member Fsync
task = record {
  who = λ f. f.who;
  plan = plan;
  put = λ f. None;
  bare = λ f. f;
  shows = λ f found got. Unit {0};
  next = λ layout f found got after result. (after ≡ next f found) × (result ≡ turn f found);
  fits = Fits;
  class = λ f. 4;
  cost = cost;
  aborts = λ f. false;
  claims = λ f. None;
}
