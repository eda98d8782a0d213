-- What answers and event lines say of what a failure or a call of prctl(2) came to.
use Rattle.hwp_report_text.specs.hwp_kill.Prctl.{policy_number}
use Rattle.hwp_report_text.specs.hwp_kill.declared.Reply.{Reply}
use Rattle.hwp_report_text.specs.hwp_kill.declared.Reply.TheVariants as replies
use Rattle.hwp_report_text.specs.hwp_page.declared.Outcome.{Outcome}
use Rattle.hwp_report_text.specs.hwp_page.declared.Outcome.TheVariants as outcomes
use Rattle.hwp_report_text.specs.declared.Acted.{Acted}
use Rattle.hwp_report_text.specs.declared.Acted.TheVariants as acts
use Rattle.hwp_report_text.specs.declared.Answer.{Answer}
use Rattle.hwp_report_text.specs.declared.Answer.TheVariants as answers

-- how a frame's record says the result of an event
abbrev pub outcome_act : Outcome → Acted
outcome_act outcomes.Recovered = acts.Recovered
outcome_act outcomes.Delayed = acts.Delayed
outcome_act outcomes.Ignored = acts.Ignored

-- the answer of an `inject` whose failure came to this
abbrev pub outcome_answer : Outcome → Answer
outcome_answer outcomes.Recovered = answers.Recovered
outcome_answer outcomes.Delayed = answers.Delayed
outcome_answer outcomes.Ignored = answers.Ignored

-- the answer that a reply of prctl(2) gives
abbrev pub reply_answer : Reply → Answer
reply_answer (replies.Set policy) = answers.Done
reply_answer (replies.Is policy) = answers.Is (policy_number policy)
reply_answer replies.Einval = answers.Einval
