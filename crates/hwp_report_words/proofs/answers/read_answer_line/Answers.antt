use Rattle.hwp_report_words.proofs.NoLines.{no_answer}
use Rattle.hwp_report_words.proofs.answers.read_answer_line.Goals as goal

pub returns-in_default : goal.returns-in_default
returns-in_default c = no_answer c.args.seq _ c.requires.no_event c.requires.no_offlined c.requires.no_guest c.in_default.ensures
