-- What the report of a run says of failures, as its reader wants it.
use Rattle.std.specs.Prelude.{◌≡◌, true, List, Option, Some, count_by, Contains}
use Rattle.hwp_law_served.specs.hwp_geom.declared.Thread.{Thread}
use Rattle.hwp_law_served.specs.hwp_kill.declared.Seen.{Seen}
use Rattle.hwp_law_served.specs.hwp_kill.declared.Signal.{Signal}
use Rattle.hwp_law_served.specs.hwp_kill.Kill.{Killed}
use Rattle.hwp_law_served.specs.hwp_page.declared.At.{At}
use Rattle.hwp_law_served.specs.hwp_page.declared.Entry.{Entry}
use Rattle.hwp_law_served.specs.hwp_page.declared.PageState.{PageState}
use Rattle.hwp_law_served.specs.hwp_page.declared.Situation.{Situation}
use Rattle.hwp_law_served.specs.hwp_page.declared.What.TheVariants.{Fail}
use Rattle.hwp_law_served.specs.hwp_page.Actions.{situation_of}
use Rattle.hwp_law_served.specs.hwp_page.Situations.{always_signals, is_signalling}
use Rattle.hwp_law_served.specs.hwp_page.Step.{IsSeenList}
use Rattle.hwp_law_served.specs.hwp_script_words.declared.Script.{Script}
use Rattle.hwp_law_served.specs.hwp_report_text.declared.FrameLine.{FrameLine}
use Rattle.hwp_law_served.specs.hwp_report_text.declared.Report.{Report}
use Rattle.hwp_law_served.specs.hwp_law.Losses.{LossesAgree}
use Rattle.hwp_law_served.specs.hwp_law.Places.{entry_at}
use Rattle.hwp_law_served.specs.hwp_law.Records.{ends_poisoned}
use Rattle.hwp_law_served.specs.hwp_law.SeenPolicies.{IsPolicySeen}
use Rattle.hwp_law_served.specs.hwp_law.States.{HadState}

-- A failure found the page in a frame, in the situation of the state that the page had at the entry's place. It read the policies
-- of the threads that the kill table asks about, and sent the signals that the table gives for them; or none of either, where
-- the situation signals nobody. Each policy that it read is the one after some number of its thread's settings.
pub record IsFailureAsModel (script : Script) (report : Report) (at : At) (situation : Situation) (required : Option Thread) (seen : List Seen) (signals : List Signal) : Type 0 where
  pub resident : HadState script.layout report.pages at (λ (s : PageState). s.cached ≡ true)
  pub situation_is : HadState script.layout report.pages at (λ (s : PageState). situation ≡ situation_of s)
  pub asked : HadState script.layout report.pages at (λ (s : PageState). IsSeenList script.layout s.maps (is_signalling situation) required seen)
  pub signalled : HadState script.layout report.pages at (λ (s : PageState). Killed script.layout s.maps (is_signalling situation) (always_signals situation) required seen signals)
  pub had : (one : Seen) → Contains seen one → IsPolicySeen script report one

-- Each failure is as the model has it. What the report says is lost of a file are the losses in the histories of its pages, and the
-- numbers of handles agree with them. The report counts the frames whose record ends poisoned.
pub record AreFailuresAsModel (script : Script) (report : Report) : Type 0 where
  pub failures : (at : At) (e : Entry) (situation : Situation) (required : Option Thread) (seen : List Seen) (signals : List Signal) → entry_at report.pages at ≡ Some e → e.what ≡ Fail situation required seen signals → IsFailureAsModel script report at situation required seen signals
  pub losses : LossesAgree script report
  pub poisoned : report.count ≡ count_by (λ (l : FrameLine). ends_poisoned l.marks) report.frames
