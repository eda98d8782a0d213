-- What is to be proved of each kind of step: the frame rule stays.
use Rattle.std.proofs.Common.{◌≡◌, ℕ, ◌+◌, ◌^◌, ◌<◌, List, Option, Some, length, set, slice_get}
use Rattle.hwp_page.specs.hwp_geom.declared.Layout.{Layout}
use Rattle.hwp_page.specs.hwp_geom.declared.Who.{Who}
use Rattle.hwp_page.specs.hwp_geom.Layout.{IsSound}
use Rattle.hwp_core_rule.specs.declared.log.Log.{Log}
use Rattle.hwp_core_rule.specs.declared.step.Step.{Step}
use Rattle.hwp_core_rule.specs.declared.view.View.{View}
use Rattle.hwp_core_rule.specs.Asks.{AsksOf, IsTurnOf}
use Rattle.hwp_core_rule.specs.Lists.{Homes}
use Rattle.hwp_core_rule.specs.Rule.{FrameRule}
use Rattle.hwp_core_rule.specs.SlotMoves.{homes_after, Meets}
use Rattle.hwp_core_rule.specs.Steps.{place_of, word_after}
use Rattle.hwp_core_rule.specs.Views.{view_by}
use Rattle.hwp_core_rule.specs.Words.{Words, read, put, IsPlace, free_words}
use Rattle.hwp_core_rule.specs.parts.Holdings.{IsPast, HeldByProcessors}

-- there is a word of each kind for all that the layout has, and a slot for each frame and each page
pub record IsShaped (layout : Layout) (w : Words) (homes : Homes) : Type 0 where
  pub frames : length w.frames ≡ layout.frames
  pub trans : length w.trans ≡ length layout.trans
  pub caches : length w.caches ≡ length layout.pages
  pub pages : length w.pages ≡ length layout.pages
  pub frees : length w.frees ≡ free_words layout
  pub bads : length w.bads ≡ layout.frames
  pub weaks : length w.weaks ≡ layout.frames
  pub processes : length w.processes ≡ layout.procs
  pub policies : length w.policies ≡ length layout.threads
  pub losses : length w.losses ≡ layout.files
  pub slots : length homes ≡ layout.frames + length layout.pages

-- a board that keeps the rule, and a step of a seat on it: the seat's view is v, with the step noted
pub record Given (layout : Layout) (w : Words) (homes : Homes) (views : List View) (seat : ℕ) (v : View) (who : Who) (step : Step) (content : Option Log) : Type 0 where
  pub sound : IsSound layout
  pub shaped : IsShaped layout w homes
  pub me : slice_get views seat ≡ Some v
  pub past : IsPast v.parts who
  pub turn : IsTurnOf v who
  pub place : IsPlace layout (place_of step)
  pub asks : AsksOf layout who step content v
  pub fits : read (place_of step) w < 2 ^ 64
  pub meets : Meets layout homes step (read (place_of step) w) content
  pub rule : FrameRule layout w homes views
  pub held : HeldByProcessors views

-- the rule, after the step
abbrev pub After : Layout → Words → Homes → List View → ℕ → View → Who → Step → Option Log → Type 0
After layout w homes views seat v who step content =
    FrameRule layout (put (place_of step) (word_after step (read (place_of step) w)) w)
    (homes_after layout step (read (place_of step) w) content homes)
    (set views seat (view_by layout who step (read (place_of step) w) content v))

-- the kind of step keeps the rule
abbrev pub Keeps : Step → Type 0
Keeps step = (layout : Layout) (w : Words) (homes : Homes) (views : List View) (seat : ℕ) (v : View) (who : Who) (content : Option Log)
    → Given layout w homes views seat v who step content → After layout w homes views seat v who step content
