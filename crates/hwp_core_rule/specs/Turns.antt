-- The laws of a task, and what a turn of it comes to.
use Rattle.std.specs.Prelude.{◌≡◌, ℕ, Bool, Option, Some, None}
use Rattle.hwp_page.specs.hwp_geom.declared.Frame.{Frame}
use Rattle.hwp_page.specs.hwp_geom.declared.Layout.{Layout}
use Rattle.hwp_page.specs.hwp_geom.declared.Who.{Who}
use Rattle.hwp_page.specs.History.{BodyValue}
use Rattle.hwp_core_rule.specs.declared.record.Rec.{Rec}
use Rattle.hwp_core_rule.specs.declared.step.Step.{Step}
use Rattle.hwp_core_rule.specs.declared.view.View.{View}
use Rattle.hwp_core_rule.specs.Words.{Words}
use Rattle.hwp_core_rule.specs.declared.turn.Turn.{Turn}
use Rattle.hwp_core_rule.specs.declared.turn.Turn.TheVariants as turns
use Rattle.hwp_core_rule.specs.Calls.{CanMake, Steps, logs, rec_of}

-- A task, as the laws read it: the table of its steps, what they need, and how far it is from its end.
pub record Member (S : Type 0) : Type 1 where
  -- the command that the steps are of
  pub who : S → Who
  -- the step that comes; none where the task is over
  pub plan : S → Option Step
  -- the body that goes home with that step, and the task once it has given it
  pub put : S → Option BodyValue
  pub bare : S → S
  -- what the word and the body met are like, where the task fitted
  pub shows : S → ℕ → Option BodyValue → Type 0
  -- which task follows from the word and the body met, and which turn it was
  pub next : Layout → S → ℕ → Option BodyValue → S → Turn → Type 0
  -- what the steps need of what the processor knows
  pub fits : Layout → View → S → Type 0
  -- 1 while a frame is locked, in hand or reserved; else 2 while a page is locked; else 3 while a failure isn't ended; else 4.
  -- A part that runs under another task tells what it takes itself.
  pub class : S → ℕ
  -- a bound of the turns that are left, with the words as they are
  pub cost : S → Words → ℕ
  -- the task gives up what it has begun, because another processor has the frame in hand
  pub aborts : S → Bool
  -- the frame, and the cycle of it, whose failure the task is to end
  pub claims : S → Option (Frame × ℕ)

-- The law of a task. Where it fits, its processor can make the step that comes. That step, made, shows what the task needs,
-- and what follows fits again and is of the same processor.
pub record IsTask {S : Type 0} (m : Member S) : Type 0 where
  pub can : (layout : Layout) (view : View) (s : S) (step : Step) → m.fits layout view s → m.plan s ≡ Some step → CanMake layout (m.who s) step (m.put s) view
  pub stays : (layout : Layout) (old new : View) (s : S) (step : Step) (found : ℕ) (got : Option BodyValue) → m.fits layout old s → m.plan s ≡ Some step → Steps layout (m.who s) step (logs (m.put s)) old new found got
      → m.shows (m.bare s) found got × ((after : S) (turn : Turn) → m.next layout (m.bare s) found got after turn → m.fits layout new after × ((m.who after).cpu ≡ (m.who s).cpu))

-- the turn was one step, and the task and the answer are those that follow
pub record StepTaken {S : Type 0} (m : Member S) (layout : Layout) (step : Step) (old new : View) (moves : Rec → Type 0) (before after : S) (result : Turn) : Type 0 where
  pub found : ℕ
  pub got : Option BodyValue
  pub steps : Steps layout (m.who before) step (logs (m.put before)) old new found got
  pub moved : moves (rec_of layout (m.who before) step (logs (m.put before)) found got)
  pub follows : m.next layout (m.bare before) found got after result

-- the turn made no step, because the task is over: nothing changed
pub record IsOver {S : Type 0} (board_stays : Type 0) (before after : S) (result : Turn) : Type 0 where
  pub board : board_stays
  pub task : after ≡ before
  pub finished : result ≡ turns.Finished

-- a turn makes the step that was planned, or none where none was
abbrev pub AdvancesBy : {S : Type 0} → Member S → Layout → Option Step → View → View → (Rec → Type 0) → Type 0 → S → S → Turn → Type 0
AdvancesBy m layout None old new moves board_stays before after result = IsOver board_stays before after result
AdvancesBy m layout (Some step) old new moves board_stays before after result = StepTaken m layout step old new moves before after result

abbrev pub Advances : {S : Type 0} → Member S → Layout → View → View → (Rec → Type 0) → Type 0 → S → S → Turn → Type 0
Advances m layout old new moves board_stays before after result = AdvancesBy m layout (m.plan before) old new moves board_stays before after result
