-- The translation caches of a table that was closed.
use Rattle.std.specs.Prelude.{◌≡◌, ◌⊎◌, ℕ, ◌*◌, true, Some, length, slice_get}
use Rattle.hwp_table_words.specs.hwp_core_rule.Words.{words_of}
use Rattle.hwp_table_words.specs.tlb.Rule.{IsInUse, Leads}
use Rattle.hwp_table_words.specs.tlb.Words.{is_of}
use Rattle.hwp_table_words.specs.Ends.{EndValue}

-- Each processor has so many entries. An entry leads where its translation does, so that no entry names a frame that is handled, or one that
-- nothing refers to.
pub record IsCachedEnd (ways : ℕ) (ended : EndValue) : Type 0 where
  pub count : length ended.entries ≡ ways * ended.layout.cpus
  pub leads : (place word : ℕ) → slice_get ended.entries place ≡ Some word → (word ≡ 0) ⊎ Leads ways (words_of ended.layout ended.words).trans place word
  pub in_use : (place word frame : ℕ) → slice_get ended.entries place ≡ Some word → is_of frame word ≡ true → IsInUse (words_of ended.layout ended.words).frames frame
