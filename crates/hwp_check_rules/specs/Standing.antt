-- Where each thing of a report stands in its text: the number of its line, from 1.
use Rattle.std.specs.Prelude.{ℕ, ◌+◌, List, [], length, sum_by, take, slice_get, unwrap_or}
use Rattle.hwp_law.specs.hwp_page.declared.At.{At}
use Rattle.hwp_law.specs.hwp_page.declared.Entry.{Entry}
use Rattle.hwp_law.specs.hwp_page.declared.What.{What}
use Rattle.hwp_law.specs.hwp_page.declared.What.TheVariants as entries
use Rattle.hwp_law.specs.hwp_report_text.declared.CpuLine.{CpuLine}
use Rattle.hwp_law.specs.hwp_report_text.declared.FrameLine.{FrameLine}
use Rattle.hwp_law.specs.hwp_report_text.declared.Report.{Report}

-- how many lines an entry has: that of a failure also has one for each policy seen and for each signal
abbrev pub what_height : What → ℕ
what_height (entries.Fail situation required seen signals) = 1 + length seen + length signals
what_height _ = 1

abbrev pub entry_height : Entry → ℕ
entry_height e = what_height e.what

-- how many lines a frame, a page and a processor have: a heading, and what stands below it
abbrev pub frame_height : FrameLine → ℕ
frame_height frame = 1 + length frame.marks

abbrev pub page_height : List Entry → ℕ
page_height entries = 1 + sum_by entry_height entries

abbrev pub cpu_height : List CpuLine → ℕ
cpu_height rows = 1 + length rows

-- the header, and below it the line of the stop and the line of the count
abbrev pub header_line : ℕ
header_line = 1

abbrev pub stop_line : ℕ
stop_line = 2

abbrev pub count_line : ℕ
count_line = 3

-- the line of a file; of a number that no file has, the line behind the files
abbrev pub file_line : Report → ℕ → ℕ
file_line report file = 4 + length (take file report.files)

-- the heading of a frame; of a number that no frame has, the line behind the frames
abbrev pub frame_line : Report → ℕ → ℕ
frame_line report frame = 4 + length report.files + sum_by frame_height (take frame report.frames)

-- the line of a mark in a frame's record
abbrev pub mark_line : Report → ℕ → ℕ → ℕ
mark_line report frame place = frame_line report frame + 1 + place

-- the heading of a page; of a number that no page has, the line behind the pages
abbrev pub page_line : Report → ℕ → ℕ
page_line report page = 4 + length report.files + sum_by frame_height report.frames + sum_by page_height (take page report.pages)

-- the line of an entry, and of a policy that it lists as seen
abbrev pub entry_line : Report → At → ℕ
entry_line report at = page_line report at.page.0 + 1 + sum_by entry_height (take at.entry (unwrap_or (slice_get report.pages at.page.0) []))

abbrev pub seen_line : Report → At → ℕ → ℕ
seen_line report at number = entry_line report at + 1 + number

-- the heading of a processor; of a number that no processor has, the line behind the processors, which is the last
abbrev pub cpu_line : Report → ℕ → ℕ
cpu_line report cpu =
    4 + length report.files + sum_by frame_height report.frames + sum_by page_height report.pages + sum_by cpu_height (take cpu report.cpus)

-- the line of an answer or of an event
abbrev pub row_line : Report → ℕ → ℕ → ℕ
row_line report cpu row = cpu_line report cpu + 1 + row

-- the last line of the report
abbrev pub last_line : Report → ℕ
last_line report = cpu_line report (length report.cpus)
