-- The law of translation caches, of each table that keeps its rule.
use Rattle.std.specs.Prelude.{◌≡◌, ℕ, true, List, [], Some, drop, slice_get}
use Rattle.hwp_core_rule.specs.hwp_geom.declared.Layout.{Layout}
use Rattle.hwp_core_rule.specs.Words.{size, words_of}
use Rattle.hwp_table_words.specs.tlb.Rule.{IsInUse}
use Rattle.hwp_table_words.specs.tlb.Words.{is_of}
use Rattle.hwp_table_words.specs.Rules.{Kept}
use Rattle.hwp_table_words.specs.Stands.{CachedTable, first_part, stand}

-- the words of a table's frames, in their order
abbrev pub frames_in : Layout → CachedTable → List ℕ
frames_in layout t = (words_of layout (stand [] (first_part layout t)).words).frames

-- the entries of all processors' caches, in the order of their places
abbrev pub entries_in : Layout → CachedTable → List ℕ
entries_in layout t = drop (size layout) t.words

-- Where the rule of a table holds, with 16 entries for each processor, an entry that names a frame names one that is not handled, and to
-- which something refers.
abbrev pub NoneHandled : Type 0
NoneHandled = (layout : Layout) (t : CachedTable) → Kept 16 layout t → (place word frame : ℕ) → slice_get (entries_in layout t) place ≡ Some word → is_of frame word ≡ true → IsInUse (frames_in layout t) frame
