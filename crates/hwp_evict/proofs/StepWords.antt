-- A step that a task made on a board: what it met, and the words after it.
use Rattle.std.proofs.Common.{◌≡◌, ℕ, ◌^◌, ◌<◌, Some, slice_get, slice_index, sym, ap, ◌∙◌}
use Rattle.hwp_core.specs.hwp_geom.declared.Layout.{Layout}
use Rattle.hwp_core.specs.hwp_core_rule.declared.State.{State}
use Rattle.hwp_core.specs.hwp_core_rule.declared.Step.{Step}
use Rattle.hwp_core.specs.hwp_core_rule.declared.View.{View}
use Rattle.hwp_core.specs.hwp_core_rule.Rule.{Holds}
use Rattle.hwp_core.specs.hwp_core_rule.Steps.{place_of, word_after}
use Rattle.hwp_core.specs.hwp_core_rule.Words.{Words, put, read, index, IsPlace}
use Rattle.hwp_core.proofs.of_hwp_core_rule.WordsByKind.{words-read, same-put}
use Rattle.hwp_core.specs.hwp_core_rule.declared.Turn.{Turn}
use Rattle.hwp_core.specs.hwp_core_rule.Boards.{view_of}
use Rattle.hwp_core.specs.hwp_core_rule.Ranks.{Made, words_at}
use Rattle.hwp_core.specs.hwp_core_rule.Turns.{Member}
use Rattle.hwp_core.proofs.of_hwp_core_rule.tasks.StepRanks.{me}

-- a step of a seat meets a word on a board that keeps the rule
pub record IsMet (layout : Layout) (a : State) (seat : ℕ) (view : View) (step : Step) (found : ℕ) : Type 0 where
  pub rule : Holds layout a
  pub me : slice_get a.views seat ≡ Some view
  pub place : IsPlace layout (place_of step)
  pub fits : found < 2 ^ 64
  pub met : found ≡ slice_index a.words (index layout (place_of step))

-- the words after the step
abbrev pub words_then : Layout → State → Step → ℕ → Words
words_then layout a step found = put (place_of step) (word_after step found) (words_at layout a)

module _ {S : Type 0} {m : Member S} {layout : Layout} {seat : ℕ} {a b : State} {s t : S} {turn : Turn} (made : Made m layout seat a b s t turn) where
  pub is-met : IsMet layout a seat (view_of a seat) made.step made.found
  is-met = record { rule = made.rule; me = me made; place = made.move.asks.place; fits = made.move.fits; met = made.move.met }

module _ {layout : Layout} {a : State} {seat : ℕ} {view : View} {step : Step} {found : ℕ} (on : IsMet layout a seat view step found) where
  pub read-met : read (place_of step) (words_at layout a) ≡ found
  read-met = words-read layout a.words (place_of step) on.place ∙ sym on.met

  -- a step that leaves its word leaves all words
  pub words-stay : word_after step found ≡ found → words_then layout a step found ≡ words_at layout a
  words-stay left = ap (λ (x : ℕ). put (place_of step) x (words_at layout a)) (left ∙ sym read-met) ∙ same-put (place_of step) (words_at layout a)
