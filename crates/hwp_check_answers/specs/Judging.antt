-- What is wrong about an answer, and what is not, where the lines before it are known.
use Rattle.std.specs.Prelude.{◌≡◌, ◌↔◌, ◌+◌, ◌<◌, ℕ, Bool, true, false, List, Option, Some, None, length, replicate, slice_index_or, slice_set, ◌&&◌}
use Rattle.std.specs.List.{list_any}
use Rattle.hwp_check_evidence.specs.hwp_geom.declared.Cpu.{Cpu}
use Rattle.hwp_check_evidence.specs.hwp_geom.declared.Proc.{Proc}
use Rattle.hwp_check_evidence.specs.hwp_geom.declared.Who.{Who}
use Rattle.hwp_check_evidence.specs.hwp_page.declared.At.{At}
use Rattle.hwp_check_evidence.specs.hwp_page.Orders.{IsEarlier}
use Rattle.hwp_check_evidence.specs.hwp_script_words.declared.Command.{Command}
use Rattle.hwp_check_evidence.specs.hwp_script_words.declared.Script.{Script}
use Rattle.hwp_check_evidence.specs.hwp_report_text.declared.Answer.{Answer}
use Rattle.hwp_check_evidence.specs.hwp_report_text.declared.Answer.TheVariants as answers
use Rattle.hwp_check_evidence.specs.hwp_report_text.declared.CpuLine.{CpuLine}
use Rattle.hwp_check_evidence.specs.hwp_report_text.declared.CpuLine.TheVariants as lines
use Rattle.hwp_check_evidence.specs.hwp_report_text.declared.Report.{Report}
use Rattle.hwp_check_evidence.specs.hwp_law.Commands.{process_at}
use Rattle.hwp_check_evidence.specs.hwp_law.Endings.{WasGone}
use Rattle.hwp_check_evidence.specs.hwp_law.Lines.{answer_among, rows_of, seq_of, is_same_command}
use Rattle.hwp_check_evidence.specs.hwp_law.States.{entry_named}
use Rattle.hwp_check_evidence.specs.Firsts.{is_named, is_noted, names_beside}
use Rattle.hwp_check_evidence.specs.Named.{flagged_pages}
use Rattle.hwp_check_evidence.specs.Windows.{AreOfEarlier, floors_of}
use Rattle.hwp_check_rules.specs.AnswerFaults.{IsNotLast, IsOutside, IsRevived, IsUnnamed}
use Rattle.hwp_check_rules.specs.Answered.{IsRight}
use Rattle.hwp_check_answers.specs.declared.judging.LinesSoFar.{LinesSoFar}
use Rattle.hwp_check_answers.specs.declared.judging.Naming.{Naming}
use Rattle.hwp_check_evidence.specs.hwp_geom.declared.VSlot.{VSlot}
use Rattle.hwp_check_evidence.specs.hwp_law.Copies.{is_store}
use Rattle.hwp_check_evidence.specs.hwp_law.Places.{entry_at}
use Rattle.hwp_check_evidence.specs.hwp_page.declared.Entry.{Entry}

-- an earlier command of the processor was answered that the process had ended
pub record HadGone (script : Script) (report : Report) (later : Who) (process : Proc) : Type 0 where
  pub who : Who
  pub gone : WasGone script report who process
  pub before : IsEarlier who later

-- the numbers that a process can have
abbrev pub process_numbers : ℕ
process_numbers = 256

-- what the lines before a command's answer tell is right
pub record AreSoFar (script : Script) (report : Report) (before : List CpuLine) (later : Who) (so_far : LinesSoFar) : Type 0 where
  pub floors : so_far.floors.items ≡ floors_of (length report.pages) before
  pub earlier : AreOfEarlier before later.seq
  pub many : length so_far.gone.items ≡ process_numbers
  pub gone : (process : Proc) → process.0 < process_numbers → (slice_index_or so_far.gone.items process.0 false ≡ true) ↔ HadGone script report later process

-- the flags after an answer of a command of this process
abbrev pub gone_after : List Bool → Option Proc → Answer → List Bool
gone_after gone (Some process) (answers.Gone page) = slice_set gone process.0 true
gone_after gone _ _ = gone

-- the same after a line
abbrev pub gone_by : Script → Cpu → List Bool → CpuLine → List Bool
gone_by script cpu gone (lines.Event event) = gone
gone_by script cpu gone (lines.Offlined offlined) = gone
gone_by script cpu gone (lines.Guest guest) = gone
gone_by script cpu gone (lines.Answer seq answer) = gone_after gone (process_at script (record { cpu = cpu; seq = seq })) answer

-- the number of the command whose answer comes next, after a line
abbrev pub next_seq : ℕ → CpuLine → ℕ
next_seq seq (lines.Event event) = seq
next_seq seq (lines.Offlined offlined) = seq
next_seq seq (lines.Guest guest) = seq
next_seq seq (lines.Answer s answer) = seq + 1

-- the line is of the command whose answer comes next, and if it is an answer it is the command's first
pub record IsNextOf (rows : List CpuLine) (seq : ℕ) (line : CpuLine) : Type 0 where
  pub of_next : seq_of line ≡ seq
  pub first : (answer : Answer) → line ≡ lines.Answer seq answer → answer_among rows seq ≡ Some answer

-- the entry is a store of the command
abbrev pub is_own_store : Who → Entry → Bool
is_own_store who e = is_same_command e.who who && is_store e.what

-- such an entry stands in the page behind the place
pub record HasStoreBehind (report : Report) (who : Who) (at : At) : Type 0 where
  pub later : At
  pub entry : Entry
  pub there : entry_at report.pages later ≡ Some entry
  pub own : entry.who ≡ who
  pub same_page : later.page ≡ at.page
  pub behind : at.entry < later.entry
  pub stores : is_store entry.what ≡ true

-- the command stores behind the place that its answer names by `stored`
abbrev pub StoresPast : Report → Who → Answer → Type 0
StoresPast report who (answers.Stored at) = HasStoreBehind report who at
StoresPast report who answer = ⊥

-- nothing is wrong about an answer
pub record IsGood (script : Script) (copies : Who → Option VSlot) (report : Report) (before : List CpuLine) (who : Who) (command : Command) (answer : Answer) : Type 0 where
  pub right : IsRight script report who command answer
  pub named : IsUnnamed copies report who answer → ⊥
  pub last : IsNotLast copies report who answer → ⊥
  pub within : IsOutside report before who answer → ⊥
  pub stays : IsRevived script report who answer → ⊥

-- what is known of a processor's commands by their numbers: the places that their lines name, and for which of them some entry is elsewhere
pub record IsNaming (copies : Who → Option VSlot) (report : Report) (who : Who) (answer : Answer) (naming : Naming) : Type 0 where
  pub inside : who.seq < length naming.others.items
  pub named : slice_index_or naming.names.answers.items who.seq None ≡ entry_named answer
  pub beside : (at : At) → is_noted naming.names.beside who.seq at ≡ list_any (names_beside who.seq at) (rows_of report who)
  pub others : naming.others.items ≡ flagged_pages (is_named naming.names) copies who.cpu (replicate (length naming.others.items) false) 0 report.pages

-- what is known of an answer, and of the lines before it, is right
pub record IsKnownAnswer (script : Script) (copies : Who → Option VSlot) (report : Report) (before : List CpuLine) (who : Who) (answer : Answer) (so_far : LinesSoFar) (naming : Naming) : Type 0 where
  pub are_so_far : AreSoFar script report before who so_far
  pub are_named : IsNaming copies report who answer naming
