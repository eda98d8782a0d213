-- The order of the words: the table has the stop word first, the rule has it last.
use Rattle.std.specs.Prelude.{◌≡◌, ℕ, suc, ◌==◌, cond, List, [], ◌∷◌, ◌++◌, drop, replicate, take}
use Rattle.hwp_core_rule.specs.hwp_geom.declared.Layout.{Layout}
use Rattle.hwp_core_rule.specs.Opening.{opening_words}
use Rattle.hwp_core_rule.specs.Words.{size}

-- the table's words in the order of the rule
abbrev pub in_rule : List ℕ → List ℕ
in_rule [] = []
in_rule (stop ∷ rest) = rest ++ stop ∷ []

-- where the table has the word that the rule has at this number, of so many
abbrev pub in_table : ℕ → ℕ → ℕ
in_table count n = cond (suc n == count) 0 (suc n)

-- the words behind the machine's, which are those of the translation caches
abbrev pub entries_in : Layout → List ℕ → List ℕ
entries_in layout words = drop (size layout) words

-- the table's words at opening: the machine's first, and behind them so many of the translation caches, which are empty
pub record IsOpened (layout : Layout) (places : ℕ) (words : List ℕ) : Type 0 where
  pub first : in_rule (take (size layout) words) ≡ opening_words layout
  pub entries : entries_in layout words ≡ replicate places 0
