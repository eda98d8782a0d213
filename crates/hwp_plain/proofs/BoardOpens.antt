-- The board at opening.
use Rattle.std.proofs.Common.{◌≡◌, ℕ, List, map, sym, subst}
use Rattle.hwp_core_rule.specs.hwp_geom.declared.Layout.{Layout}
use Rattle.hwp_core_rule.specs.hwp_geom.Layout.{IsSound}
use Rattle.hwp_core_rule.specs.Opening.{below, opening_words, opening_homes, opening_view, opening}
use Rattle.hwp_core_rule.specs.Rule.{Holds}
use Rattle.hwp_core_rule.proofs.BoardOpens.{opening-holds}
use Rattle.hwp_plain.specs.declared.slot.Slot.{Slot}
use Rattle.hwp_plain.specs.declared.trail.Trail.TheVariants.{Opening}
use Rattle.hwp_plain.specs.Boards.{IsBoard, state_of}
use Rattle.hwp_plain.specs.Slots.{home_of, AreOfLayout}

module _ (layout : Layout) (words : List ℕ) (slots : List Slot) (sound : IsSound layout)
    (words-are : words ≡ opening_words layout) (homes-are : map home_of slots ≡ opening_homes layout) (bodies : AreOfLayout layout slots) where
  pub state-open : state_of layout words slots Opening ≡ opening layout
  state-open = λ i. record { words = words-are i; homes = homes-are i; views = map opening_view (below layout.cpus) }

  pub board-open : IsBoard layout words slots Opening 0
  board-open = record {
    reached = record { run = state-open; holds = subst (Holds layout) (sym state-open) (opening-holds layout sound) };
    bodies = bodies;
    seated = sound.some_cpu;
  }
