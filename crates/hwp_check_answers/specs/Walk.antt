-- The lines of a processor in the order in which they are read: what the lines before one tell, and whether one is good.
use Rattle.std.specs.Prelude.{ℕ, count_by, take}
use Rattle.hwp_check_evidence.specs.hwp_script_words.declared.Command.{Command}
use Rattle.hwp_check_evidence.specs.hwp_report_text.declared.Answer.{Answer}
use Rattle.hwp_check_evidence.specs.hwp_report_text.declared.CpuLine.{CpuLine}
use Rattle.hwp_check_rules.specs.Answered.{is_answer}
use Rattle.hwp_check_rules.specs.AnswerFaults.{IsAnswerWrong}
use Rattle.hwp_check_rules.specs.hwp_check_event_line.Reading.{copies_in}
use Rattle.hwp_check_answers.specs.Facts.{AreGoodRows, IsBadRow, IsFirstBad, IsGoodRow, at_number}
use Rattle.hwp_check_answers.specs.Judging.{AreSoFar, IsGood}
use Rattle.hwp_check_answers.specs.Sifting.{AreSound, IsUnsound}
use Rattle.hwp_check_answers.specs.Values.{AnswerValue, ProcessorValue}
use Rattle.hwp_check_answers.specs.declared.judging.LinesSoFar.{LinesSoFar}

-- how many commands are answered before the line with the number
abbrev pub answered_before : ProcessorValue → ℕ → ℕ
answered_before p number = count_by is_answer (take number p.rows)

-- what the lines before it tell is right, where the command `seq` is answered next
abbrev pub AreSoFarAt : ProcessorValue → ℕ → ℕ → LinesSoFar → Type 0
AreSoFarAt p number seq so_far = AreSoFar p.script p.report (take number p.rows) (at_number p.cpu seq) so_far

-- nothing is wrong about the answer of the command `seq` there; or something is
abbrev pub IsGoodAt : ProcessorValue → ℕ → ℕ → Command → Answer → Type 0
IsGoodAt p number seq command answer = IsGood p.script (copies_in p.copies) p.report (take number p.rows) (at_number p.cpu seq) command answer

abbrev pub IsWrongAt : ProcessorValue → ℕ → ℕ → Command → Answer → Type 0
IsWrongAt p number seq command answer = IsAnswerWrong p.script (copies_in p.copies) p.report (take number p.rows) (at_number p.cpu seq) command answer

-- the same of an answer as it was given
abbrev pub IsRightlyGiven : AnswerValue → Type 0
IsRightlyGiven g = IsGood g.script (copies_in g.copies) g.report g.before g.who g.command g.answer

abbrev pub IsWronglyGiven : AnswerValue → Type 0
IsWronglyGiven g = IsAnswerWrong g.script (copies_in g.copies) g.report g.before g.who g.command g.answer

-- the same of a line, if it is an answer
abbrev pub IsGoodLine : ProcessorValue → ℕ → CpuLine → Type 0
IsGoodLine p number line = IsGoodRow p.script (copies_in p.copies) p.report p.cpu p.commands (take number p.rows) line

abbrev pub IsBadLine : ProcessorValue → ℕ → CpuLine → Type 0
IsBadLine p number line = IsBadRow p.script (copies_in p.copies) p.report p.cpu p.commands (take number p.rows) line

-- the lines before `end` are good; or this is the first of them that isn't
abbrev pub AreGoodLines : ProcessorValue → ℕ → Type 0
AreGoodLines p end = AreGoodRows p.script (copies_in p.copies) p.report p.cpu p.commands p.rows end

abbrev pub IsFirstBadLine : ProcessorValue → ℕ → ℕ → Type 0
IsFirstBadLine p end row = IsFirstBad p.script (copies_in p.copies) p.report p.cpu p.commands p.rows end row

-- so are those in place; or this is the report's line of the first that isn't, where the processor's heading stands at `heading`
abbrev pub AreSoundLines : ProcessorValue → Type 0
AreSoundLines p = AreSound p.script (copies_in p.copies) p.report p.cpu p.commands p.rows

abbrev pub IsUnsoundLine : ProcessorValue → ℕ → ℕ → Type 0
IsUnsoundLine p heading line = IsUnsound p.script (copies_in p.copies) p.report p.cpu p.commands p.rows heading line
