-- The cache words of a table that was closed lead to its bodies.
use Rattle.std.proofs.Common.{◌≡◌, ℕ, ◌+◌, ◌-◌, List, length, map, take, drop, subst}
use Rattle.hwp_table_words.specs.hwp_geom.declared.Layout.{Layout}
use Rattle.hwp_table_words.specs.hwp_core_rule.Rule.{Holds}
use Rattle.hwp_table_words.specs.hwp_core_rule.Words.{caches_from}
use Rattle.hwp_table_words.specs.hwp_plain.Openings.{home_with}
use Rattle.hwp_table_words.specs.hwp_plain.Ends.{AreLed}
use Rattle.hwp_table_words.proofs.of_hwp_plain.AllHome.{led-here}
use Rattle.hwp_table_words.specs.Ends.{EndValue, IsEnd, board_of}
use Rattle.hwp_table_words.specs.Stands.{Content}

pub led-bodies : (ways : ℕ) (layout : Layout) (ended : EndValue) (bodies : List Content) → ended.layout ≡ layout → ended.slots ≡ bodies → IsEnd ways ended.layout ended.known ended.words ended.slots ended.entries → (from len frames : ℕ) (words : List ℕ)
    → words ≡ ended.words → from ≡ caches_from layout + 0 → len ≡ length layout.pages → frames ≡ layout.frames → AreLed frames (take (from + len - from) (drop from words)) (map home_with bodies)
led-bodies ways layout ended bodies layout_is bodies_are end from len frames words is at many wide =
    subst (λ (xs : List Content). AreLed frames (take (from + len - from) (drop from words)) (map home_with xs)) bodies_are
    (led-here layout (board_of ended.words ended.slots end.views) (subst (λ (l : Layout). Holds l (board_of ended.words ended.slots end.views)) layout_is end.holds) end.nothing from len frames words is at many wide)
