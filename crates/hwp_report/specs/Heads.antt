-- The first words of the lines of a report.
use Rattle.std.specs.Prelude.{ℕ, List, Option, Some, None, codes}
use Rattle.hwp_report_text.specs.declared.MarkLine.{MarkLine}
use Rattle.hwp_report_text.specs.declared.MarkLine.TheVariants as marks
use Rattle.hwp_report_words.specs.declared.Verb.TheVariants as verbs
use Rattle.hwp_report_words.specs.pages.Verbs.{verb_of, verb_text}
use Rattle.hwp_report.specs.declared.report_line.ReportLine.{ReportLine}
use Rattle.hwp_report.specs.declared.report_line.ReportLine.TheVariants as forms
use Rattle.hwp_report.specs.declared.heads.Head.{Head}
use Rattle.hwp_report.specs.declared.heads.Head.TheVariants as heads

-- the first word of a line, other than a processor's
abbrev pub head_text : Head → List ℕ
head_text heads.Header = codes "hwp-report"
head_text heads.Stop = codes "stop"
head_text heads.Count = codes "count"
head_text heads.File = codes "file"
head_text heads.Frame = codes "frame"
head_text heads.Poisoned = codes "poisoned"
head_text heads.Unpoisoned = codes "unpoisoned"
head_text heads.Page = codes "page"
head_text (heads.Entry verb) = verb_text verb
head_text heads.Seen = codes "seen"
head_text heads.Signal = codes "signal"
head_text heads.Cpu = codes "cpu"
head_text heads.End = codes "end"

-- which first word a mark has
abbrev pub mark_head : MarkLine → Head
mark_head (marks.Poisoned cycle who how) = heads.Poisoned
mark_head (marks.Unpoisoned cycle who) = heads.Unpoisoned

-- which first word a line has; that of a processor begins with a number
abbrev pub head_of : ReportLine → Option Head
head_of (forms.Header version) = Some heads.Header
head_of (forms.Stop stop) = Some heads.Stop
head_of (forms.Count count) = Some heads.Count
head_of (forms.File number lost) = Some heads.File
head_of (forms.Frame number place bad weak) = Some heads.Frame
head_of (forms.Mark mark) = Some (mark_head mark)
head_of (forms.Page number entries) = Some heads.Page
head_of (forms.Entry entry) = Some (heads.Entry (verb_of entry.what))
head_of (forms.Fail failure) = Some (heads.Entry verbs.Fail)
head_of (forms.Seen seen) = Some heads.Seen
head_of (forms.Signal signal) = Some heads.Signal
head_of (forms.Cpu number lines) = Some heads.Cpu
head_of (forms.CpuLine line) = None
head_of forms.End = Some heads.End
