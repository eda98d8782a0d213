-- What a seat tells of what it counted.
use Rattle.std.specs.Prelude.{ℕ, ◌-◌, ◌^◌, min}
use Rattle.hwp_table_words.specs.tlb.Caching.{Counts}
use Rattle.hwp_table_words.specs.declared.counts.TlbCounts.{TlbCounts}

-- a number that stops at the highest
abbrev pub capped : ℕ → ℕ
capped n = min n (2 ^ 64 - 1)

abbrev pub told_counts : Counts → TlbCounts
told_counts n = record { hits = capped n.hits; fills = capped n.fills; flushes = capped n.flushes }
