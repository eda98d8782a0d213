-- The numbers of a processor's handles of files: each answer of `fsync` or `open` tells one, by what the processor's own steps showed.
use Rattle.std.specs.Prelude.{◌≡◌, ℕ, ◌+◌, true, List, Some, map, slice_get, take}
use Rattle.std.specs.List.{zip}
use Rattle.hwp_law.specs.hwp_geom.declared.Cpu.{Cpu}
use Rattle.hwp_law.specs.hwp_geom.declared.FileNo.{FileNo}
use Rattle.hwp_law.specs.hwp_geom.declared.Layout.{Layout}
use Rattle.hwp_law.specs.hwp_geom.declared.Who.{Who}
use Rattle.hwp_plain.specs.hwp_core_rule.declared.SharedWord.TheVariants as places
use Rattle.hwp_plain.specs.hwp_core_rule.declared.View.{View}
use Rattle.hwp_plain.specs.hwp_core_rule.Known.{Covers, Saw}
use Rattle.hwp_law.specs.hwp_script_words.declared.Command.{Command}
use Rattle.hwp_law.specs.hwp_report_text.declared.Answer.{Answer}
use Rattle.hwp_law.specs.Losses.{numbers_after, tells_number}
use Rattle.hwp_cpu_row.specs.declared.Row.{Row}

-- the commands of a processor with the answers of its rows
abbrev pub answers_by : List Command → List Row → List (Command × Answer)
answers_by list rows = zip list (map (λ (r : Row). r.answer) rows)

-- the number of its handle of the file after the first k of them
abbrev pub number_at : FileNo → List Command → List Row → ℕ → ℕ
number_at file list rows k = numbers_after file 0 (take k (answers_by list rows))

-- a step of the command showed the loss word of the file with this number, and it is at least the losses of the file among the
-- entries that earlier commands of the processor made
abbrev pub KnowsNumber : Layout → View → Who → FileNo → ℕ → Type 0
KnowsNumber layout view who file n = Saw view who (places.Loss file) n × Covers layout view who file n

-- so is each number that an answer tells, of the handle as it is after that command
abbrev pub KnowsNumbers : Layout → View → Cpu → List Command → List Row → Type 0
KnowsNumbers layout view cpu list rows =
    (file : FileNo) (i : ℕ) (command : Command) (row : Row) → slice_get list i ≡ Some command → slice_get rows i ≡ Some row → tells_number file command row.answer ≡ true
    → KnowsNumber layout view (record { cpu = cpu; seq = i }) file (number_at file list rows (i + 1))
