-- What answers told processors of their handles, and which files' lines it makes wrong.
use Rattle.std.specs.Prelude.{ℕ, ◌+◌, ◌-◌, ◌^◌, ◌&&◌, min, not, Bool, true, false, cond, nat_lt, nat_le, List, [], ◌∷◌, Option, Some, None, length, slice_get, slice_index_or, slice_set}
use Rattle.hwp_check_rules.specs.hwp_geom.declared.Cpu.{Cpu}
use Rattle.hwp_check_rules.specs.hwp_geom.declared.FileNo.{FileNo}
use Rattle.hwp_check_rules.specs.hwp_geom.declared.Who.{Who}
use Rattle.hwp_check_rules.specs.hwp_script_words.declared.Command.{Command}
use Rattle.hwp_check_rules.specs.hwp_script_words.declared.Command.TheVariants as commands
use Rattle.hwp_check_rules.specs.hwp_script_words.declared.Script.{Script}
use Rattle.hwp_check_rules.specs.hwp_report_text.declared.Answer.{Answer}
use Rattle.hwp_check_rules.specs.hwp_report_text.declared.Answer.TheVariants as answers
use Rattle.hwp_check_rules.specs.hwp_report_text.declared.CpuLine.{CpuLine}
use Rattle.hwp_check_rules.specs.hwp_report_text.declared.CpuLine.TheVariants as lines
use Rattle.hwp_check_rules.specs.hwp_report_text.declared.Report.{Report}
use Rattle.hwp_check_rules.specs.hwp_law.Lines.{seq_of}
use Rattle.hwp_check_rules.specs.hwp_law.Losses.{is_lost, is_lost_before, losses_such}
use Rattle.hwp_check_rules.specs.Firsts.{soonest}
use Rattle.hwp_check_state.specs.declared.told.Told.{Told}

-- a number that is cut off at the greatest that a word can say
abbrev pub capped : ℕ → ℕ
capped n = min n (2 ^ 64 - 1)

-- of the file so many losses more were told, or all of them
abbrev pub telling : FileNo → ℕ → Told
telling file more = record { file = file; losses = more; all = false }

abbrev pub telling_all : FileNo → ℕ → Told
telling_all file word = record { file = file; losses = word; all = true }

-- what an answer told
abbrev pub told_by : Command → Answer → Option Told
told_by (commands.Fsync file) answers.Done = Some (telling file 0)
told_by (commands.Fsync file) (answers.Eio more) = Some (telling file more)
told_by (commands.Open file) (answers.Opened word) = Some (telling_all file word)
told_by _ _ = None

-- what it told, where there is such a command
abbrev pub told_to : Option Command → Answer → Option Told
told_to None answer = None
told_to (Some command) answer = told_by command answer

-- what a line told
abbrev pub told_in : List Command → CpuLine → Option Told
told_in list (lines.Event event) = None
told_in list (lines.Offlined offlined) = None
told_in list (lines.Guest guest) = None
told_in list (lines.Answer seq answer) = told_to (slice_get list seq) answer

-- a handle's number after this was told, where it was n
abbrev pub number_with : ℕ → Told → ℕ
number_with n t = cond t.all t.losses (n + t.losses)

-- the numbers of a processor's handles after it was told this
abbrev pub raised : List ℕ → Told → List ℕ
raised numbers t = slice_set numbers t.file.0 (capped (number_with (slice_index_or numbers t.file.0 0) t))

abbrev pub raised_by : List ℕ → Option Told → List ℕ
raised_by numbers None = numbers
raised_by numbers (Some t) = raised numbers t

-- the number has not fallen from m to n, is at most the file's losses, and at least those by earlier commands of the processor
abbrev pub is_good : Script → Report → FileNo → Who → ℕ → ℕ → Bool
is_good script report file who m n = nat_le m n && nat_le n (losses_such is_lost script report file) && nat_le (losses_such (is_lost_before who) script report file) n

-- the file's line, where it is a file of the layout and its number is wrong then
abbrev pub fault_of : Script → Report → Who → List ℕ → Told → Option ℕ
fault_of script report who numbers t =
    cond (nat_lt t.file.0 (length numbers) && not (is_good script report t.file who (slice_index_or numbers t.file.0 0) (capped (number_with (slice_index_or numbers t.file.0 0) t)))) (Some (4 + t.file.0)) None

abbrev pub fault_by : Script → Report → Who → List ℕ → Option Told → Option ℕ
fault_by script report who numbers None = None
fault_by script report who numbers (Some t) = fault_of script report who numbers t

-- the lowest such line along a processor's lines, where its handles have these numbers and this one was found before
abbrev pub walk : Script → Report → Cpu → List Command → List ℕ → Option ℕ → List CpuLine → Option ℕ
walk script report cpu list numbers found [] = found
walk script report cpu list numbers found (row ∷ rows) =
    walk script report cpu list (raised_by numbers (told_in list row)) (soonest found (fault_by script report (record { cpu = cpu; seq = seq_of row }) numbers (told_in list row))) rows
