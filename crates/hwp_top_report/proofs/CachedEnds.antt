-- The caches of a table that was closed lead where the translations do, and name frames in use alone.
use Rattle.std.proofs.Common.{ℕ, []}
use Rattle.std.proofs.lemmas.Option.{none-some}
use Rattle.hwp_table_words.proofs.tlb.Named.{none-handled}
use Rattle.hwp_table_words.specs.Ends.{EndValue, IsEnd, board_of}
use Rattle.hwp_top_report.specs.Caches.{IsCachedEnd}

pub cached-end : (ways : ℕ) (ended : EndValue) → IsEnd ways ended.layout ended.known ended.words ended.slots ended.entries → IsCachedEnd ways ended
cached-end ways ended end = record {
  count = end.entry_count;
  leads = end.lead;
  in_use = none-handled ended.layout (board_of ended.words ended.slots end.views) end.holds ways ended.entries [] (record { count = end.entry_count; lead = end.lead; knows = λ i x e. absurd (none-some x e) });
}
