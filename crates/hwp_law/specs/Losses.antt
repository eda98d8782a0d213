-- The lost content of files, and what each processor was told of it. A handle is a processor together with a file: it has a number,
-- the losses of the file that the processor knows of, which is 0 at first. `fsync` tells the losses past it, and `open` passes them over: after each the number is what the
-- command saw.
use Rattle.std.specs.Prelude.{◌≡◌, ℕ, ◌+◌, ◌<◌, ◌≤◌, ◌==◌, ◌&&◌, Bool, true, false, cond, nat_lt, List, [], ◌∷◌, Some, length, slice_get, take}
use Rattle.std.specs.Int.{from_bool}
use Rattle.std.specs.List.{sum_by, zip}
use Rattle.hwp_script_words.specs.hwp_geom.declared.Cpu.{Cpu}
use Rattle.hwp_script_words.specs.hwp_geom.declared.FileNo.{FileNo}
use Rattle.hwp_script_words.specs.hwp_geom.declared.PageKind.{PageKind}
use Rattle.hwp_script_words.specs.hwp_geom.declared.Who.{Who}
use Rattle.hwp_report_text.specs.hwp_page.declared.Entry.{Entry}
use Rattle.hwp_report_text.specs.hwp_page.Losses.{file_behind, is_loss, is_same_file}
use Rattle.hwp_script_words.specs.declared.Command.{Command}
use Rattle.hwp_script_words.specs.declared.Command.TheVariants as commands
use Rattle.hwp_script_words.specs.declared.Script.{Script}
use Rattle.hwp_report_text.specs.declared.Answer.{Answer}
use Rattle.hwp_report_text.specs.declared.Answer.TheVariants as answers
use Rattle.hwp_report_text.specs.declared.CpuLine.{CpuLine}
use Rattle.hwp_report_text.specs.declared.Report.{Report}
use Rattle.hwp_law.specs.Lines.{answered}

-- the number that a handle of the file has after a command with this answer, where it had n
abbrev pub number_by : FileNo → ℕ → Command → Answer → ℕ
number_by file n (commands.Fsync other) (answers.Eio more) = n + cond (other.0 == file.0) more 0
number_by file n (commands.Open other) (answers.Opened lost) = cond (other.0 == file.0) lost n
number_by file n _ _ = n

-- and after commands with these answers
abbrev pub numbers_after : FileNo → ℕ → List (Command × Answer) → ℕ
numbers_after file n [] = n
numbers_after file n (p ∷ ps) = numbers_after file (number_by file n p.0 p.1) ps

-- the command told the number: it is `fsync` of the file, and was answered `done` or `eio`, or `open` of it, and was answered `opened`
abbrev pub tells_number : FileNo → Command → Answer → Bool
tells_number file (commands.Fsync other) answers.Done = other.0 == file.0
tells_number file (commands.Fsync other) (answers.Eio more) = other.0 == file.0
tells_number file (commands.Open other) (answers.Opened lost) = other.0 == file.0
tells_number file _ _ = false

-- the entries of a page that the test finds, where the file stands behind the page
abbrev pub found_in : (Entry → Bool) → FileNo → PageKind × List Entry → ℕ
found_in test file page = cond (is_same_file file (file_behind page.0)) (sum_by (λ (e : Entry). from_bool (test e)) page.1) 0

-- and those of all pages of the file
abbrev pub losses_such : (Entry → Bool) → Script → Report → FileNo → ℕ
losses_such test script report file = sum_by (found_in test file) (zip script.layout.pages report.pages)

-- the other command is an earlier one of the same processor
abbrev pub is_earlier : Who → Who → Bool
is_earlier who other = (other.cpu.0 == who.cpu.0) && nat_lt other.seq who.seq

-- the entry is a loss
abbrev pub is_lost : Entry → Bool
is_lost e = is_loss e.what

-- the entry is a loss by an earlier command of the processor
abbrev pub is_lost_before : Who → Entry → Bool
is_lost_before who e = is_loss e.what && is_earlier who e.who

-- the number of the processor's handle after its i-th command has not fallen, is at most the file's losses, and at least those
-- by earlier commands of the processor
pub record IsNumber (script : Script) (report : Report) (file : FileNo) (cpu : Cpu) (list : List (Command × Answer)) (i : ℕ) : Type 0 where
  pub rises : numbers_after file 0 (take i list) ≤ numbers_after file 0 (take (i + 1) list)
  pub within : numbers_after file 0 (take (i + 1) list) ≤ losses_such is_lost script report file
  pub covers : losses_such (is_lost_before (record { cpu = cpu; seq = i })) script report file ≤ numbers_after file 0 (take (i + 1) list)

-- what the report says of each file is the number of its losses, and each handle's number is right where a command told it
pub record LossesAgree (script : Script) (report : Report) : Type 0 where
  pub files_fit : length report.files ≡ script.layout.files
  pub lost : (file : FileNo) (n : ℕ) → slice_get report.files file.0 ≡ Some n → n ≡ losses_such is_lost script report file
  pub numbers : (file : FileNo) (cpu : Cpu) (list : List Command) (rows : List CpuLine) → file.0 < script.layout.files
      → slice_get script.lists cpu.0 ≡ Some list → slice_get report.cpus cpu.0 ≡ Some rows
      → (i : ℕ) (p : Command × Answer) → slice_get {X = Command × Answer} (answered list rows) i ≡ Some p
      → tells_number file p.0 p.1 ≡ true → IsNumber script report file cpu (answered list rows) i
