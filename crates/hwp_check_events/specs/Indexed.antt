-- The first answer of each command of a processor, by the processor's lines, and how many machine checks of an access the histories show.
use Rattle.std.specs.Prelude.{◌≡◌, ℕ, ◌+◌, ◌^◌, ◌<◌, ◌==◌, ◌&&◌, cond, List, [], ◌∷◌, ◌++◌, Option, Some, None, count_by, length, slice_get, slice_index_or, slice_set, sum_by}
use Rattle.hwp_banks.specs.hwp_geom.declared.Cpu.{Cpu}
use Rattle.hwp_banks.specs.hwp_geom.declared.Who.{Who}
use Rattle.hwp_law.specs.hwp_page.declared.Entry.{Entry}
use Rattle.hwp_law.specs.hwp_report_text.declared.Answer.{Answer}
use Rattle.hwp_law.specs.hwp_report_text.declared.CpuLine.{CpuLine}
use Rattle.hwp_law.specs.hwp_report_text.declared.CpuLine.TheVariants as lines
use Rattle.hwp_law.specs.Commands.{is_check}
use Rattle.hwp_law.specs.Lines.{answer_among, is_same_command}

-- what a line answers to the command with this number; the first answer of two; the first that lines give it
abbrev pub answer_here : ℕ → CpuLine → Option Answer
answer_here seq (lines.Event event) = None
answer_here seq (lines.Offlined offlined) = None
answer_here seq (lines.Guest guest) = None
answer_here seq (lines.Answer s answer) = cond (seq == s) (Some answer) None

abbrev pub first_answer : Option Answer → Option Answer → Option Answer
first_answer None other = other
first_answer (Some answer) other = Some answer

-- a line more in the first answers of the commands
abbrev pub with_answer : CpuLine → List (Option Answer) → List (Option Answer)
with_answer (lines.Event event) answers = answers
with_answer (lines.Offlined offlined) answers = answers
with_answer (lines.Guest guest) answers = answers
with_answer (lines.Answer s answer) answers = slice_set answers s (first_answer (slice_index_or answers s None) (Some answer))

-- for each command its first answer
pub record AreFirst (rows : List CpuLine) (count : ℕ) (answers : List (Option Answer)) : Type 0 where
  pub size : length answers ≡ count
  pub each : (seq : ℕ) (answer : Option Answer) → slice_get answers seq ≡ Some answer → answer ≡ answer_among rows seq

-- how many machine checks of an access the entries show, of the command with this number
abbrev pub checks_in : Cpu → ℕ → List Entry → ℕ
checks_in cpu seq entries = count_by (λ (e : Entry). is_same_command (record { cpu = cpu; seq = seq }) e.who && is_check e.what) entries

-- the command of an entry, where it is a machine check of an access; those of a page's entries, and of all histories
abbrev pub checker : Entry → List Who
checker e = cond (is_check e.what) (e.who ∷ []) []

abbrev pub page_checkers : List Entry → List Who
page_checkers [] = []
page_checkers (e ∷ es) = checker e ++ page_checkers es

abbrev pub all_checkers : List (List Entry) → List Who
all_checkers [] = []
all_checkers (es ∷ rest) = page_checkers es ++ all_checkers rest

-- how many of these are the processor's command with this number
abbrev pub checks_by : Cpu → ℕ → List Who → ℕ
checks_by cpu seq list = count_by (λ (w : Who). is_same_command (record { cpu = cpu; seq = seq }) w) list

-- a machine check more in the counts of a processor's commands
abbrev pub with_check : Cpu → Who → List ℕ → List ℕ
with_check cpu w counts = cond (cpu.0 == w.cpu.0) (slice_set counts w.seq (slice_index_or counts w.seq 0 + 1)) counts

-- so many were added to the counts
pub record AreAdded (more : ℕ → ℕ) (old new : List ℕ) : Type 0 where
  pub size : length new ≡ length old
  pub each : (seq n : ℕ) → slice_get new seq ≡ Some n → (m : ℕ) × (slice_get old seq ≡ Some m) × (n ≡ m + more seq)

-- no count is near its end
abbrev pub AreFew : List ℕ → ℕ → Type 0
AreFew counts more = (seq n : ℕ) → slice_get counts seq ≡ Some n → n + more < 2 ^ 64

-- for each command how many the histories show
pub record AreChecks (cpu : Cpu) (count : ℕ) (pages : List (List Entry)) (counts : List ℕ) : Type 0 where
  pub size : length counts ≡ count
  pub each : (seq n : ℕ) → slice_get counts seq ≡ Some n → n ≡ sum_by (checks_in cpu seq) pages
