-- The script that the processors of a report acted on: each command through the translations that stood for those it names. The law judges
-- a report by it.
use Rattle.std.specs.Prelude.{ℕ, ◌+◌, List, [], ◌∷◌, ◌++◌, Option, option_and_then, slice_get, unwrap_or}
use Rattle.hwp_script_words.specs.hwp_geom.declared.Layout.{Layout}
use Rattle.hwp_script_words.specs.hwp_geom.declared.VSlot.{VSlot}
use Rattle.hwp_script_words.specs.hwp_geom.declared.Who.{Who}
use Rattle.hwp_script_words.specs.declared.Command.{Command}
use Rattle.hwp_script_words.specs.declared.Script.{Script}
use Rattle.hwp_report_text.specs.declared.Answer.{Answer}
use Rattle.hwp_report_text.specs.declared.CpuLine.{CpuLine}
use Rattle.hwp_report_text.specs.declared.Report.{Report}
use Rattle.hwp_law.specs.Commands.{command_at}
use Rattle.hwp_law.specs.Cows.{acting, copied_from}
use Rattle.hwp_law.specs.Lines.{answers_to}
use Rattle.hwp_law.specs.Policies.{answered_before}

-- the commands of a list with these answers, behind earlier ones. A report is judged with an answer to each command. A processor that
-- runs has fewer answers than commands, and each command after the last answer is acted on as if it came right after that answer
abbrev pub acting_from : Layout → List (Command × Answer) → List Command → List Answer → List Command
acting_from layout earlier [] answers = []
acting_from layout earlier (command ∷ commands) [] = acting layout earlier command ∷ acting_from layout earlier commands []
acting_from layout earlier (command ∷ commands) (answer ∷ answers) =
    acting layout earlier command ∷ acting_from layout (earlier ++ (command, answer) ∷ []) commands answers

-- the lists from processor number `cpu` on
abbrev pub acting_lists : Layout → List (List CpuLine) → ℕ → List (List Command) → List (List Command)
acting_lists layout cpus cpu [] = []
acting_lists layout cpus cpu (list ∷ lists) = acting_from layout [] list (answers_to list (unwrap_or (slice_get cpus cpu) [])) ∷ acting_lists layout cpus (cpu + 1) lists

abbrev pub acting_script : Script → Report → Script
acting_script script report = record script { lists = acting_lists script.layout report.cpus 0 script.lists }

-- the translation whose page a store copies before it writes
abbrev pub copied_at : Script → Report → Who → Option VSlot
copied_at script report who = option_and_then (copied_from script.layout (answered_before script report who)) (command_at script who)
