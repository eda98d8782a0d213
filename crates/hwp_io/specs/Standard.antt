-- What stands behind a source and a sink over std.
use Rattle.std.specs.Prelude.{ℕ}
use Rattle.hwp_io.specs.Counts.{count}
use Rattle.hwp_io.specs.declared.standard.StdSource.{StdSource}
use Rattle.hwp_io.specs.declared.standard.StdSink.{StdSink}

-- the reader behind a source
abbrev pub source_reader : {R : Type 0} → StdSource R → R
source_reader source = source.reader

-- how many reads of a source failed
abbrev pub source_faults : {R : Type 0} → StdSource R → ℕ
source_faults source = count source.faults

-- the writer behind a sink
abbrev pub sink_writer : {W : Type 0} → StdSink W → W
sink_writer sink = sink.writer

-- how many writes of a sink failed
abbrev pub sink_faults : {W : Type 0} → StdSink W → ℕ
sink_faults sink = count sink.faults
