-- What came of taking a frame out of use, as the answer of `soft` that says the same.
use Rattle.hwp_report_text.specs.declared.lines.Answer.{Answer}
use Rattle.hwp_report_text.specs.declared.lines.Answer.TheVariants as answers
use Rattle.hwp_report_text.specs.declared.lines.OfflineResult.{OfflineResult}
use Rattle.hwp_report_text.specs.declared.lines.OfflineResult.TheVariants as results

abbrev pub offline_answer : OfflineResult → Answer
offline_answer (results.Moved frame at) = answers.Moved frame at
offline_answer results.TakenFree = answers.TakenFree
offline_answer results.Already = answers.Already
offline_answer (results.HasBad mask) = answers.HasBad mask
offline_answer results.NoFrame = answers.NoFrame
offline_answer results.Stopped = answers.Stopped
