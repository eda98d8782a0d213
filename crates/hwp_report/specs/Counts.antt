-- What the summary of a report counts.
use Rattle.std.specs.Prelude.{ℕ, ◌-◌, ◌^◌, min, Bool, true, false, List, length, is_some}
use Rattle.std.specs.List.{count_by, sum_by}
use Rattle.hwp_report_text.specs.hwp_page.declared.Entry.{Entry}
use Rattle.hwp_report_text.specs.hwp_page.declared.What.{What}
use Rattle.hwp_report_text.specs.hwp_page.declared.What.TheVariants as whats
use Rattle.hwp_report_text.specs.declared.Answer.{Answer}
use Rattle.hwp_report_text.specs.declared.Answer.TheVariants as answers
use Rattle.hwp_report_text.specs.declared.CpuLine.{CpuLine}
use Rattle.hwp_report_text.specs.declared.CpuLine.TheVariants as lines
use Rattle.hwp_report_text.specs.declared.Report.{Report}
use Rattle.hwp_report.specs.declared.counts.Summary.{Summary}

-- a count as a word says it: one that no word holds is the greatest
abbrev pub capped : ℕ → ℕ
capped n = min n (2 ^ 64 - 1)

-- the line is the answer of a command; the others are events, frames taken out of use and machine checks of guests
abbrev pub is_answer : CpuLine → Bool
is_answer (lines.Answer seq answer) = true
is_answer _ = false

-- no frame was free: of all commands, accesses and soft offlinings alone give this answer
abbrev pub has_no_frame : Answer → Bool
has_no_frame answers.NoFrame = true
has_no_frame _ = false

abbrev pub is_without_frame : CpuLine → Bool
is_without_frame (lines.Answer seq answer) = has_no_frame answer
is_without_frame _ = false

-- the answers among a processor's lines, one for each of its commands
abbrev pub answers_in : List CpuLine → ℕ
answers_in rows = count_by is_answer rows

-- those of them that no frame was free
abbrev pub without_frame_in : List CpuLine → ℕ
without_frame_in rows = count_by is_without_frame rows

-- the signals of an entry: a memory failure alone has some
abbrev pub signals_of : What → ℕ
signals_of (whats.Fail situation required seen signals) = length signals
signals_of _ = 0

-- the signals in a history
abbrev pub signals_in : List Entry → ℕ
signals_in entries = sum_by (λ (e : Entry). signals_of e.what) entries

-- the summary of a report
abbrev pub summary_of : Report → Summary
summary_of report = record {
  commands = capped (sum_by answers_in report.cpus);
  noframe = capped (sum_by without_frame_in report.cpus);
  stopped = is_some report.stop;
  count = report.count;
  entries = capped (sum_by (λ (page : List Entry). length page) report.pages);
  signals = capped (sum_by signals_in report.pages);
}
