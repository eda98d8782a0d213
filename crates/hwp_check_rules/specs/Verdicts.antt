-- The verdict on a report: legal, or the lowest rule that is broken with the first line that breaks it.
use Rattle.std.specs.Prelude.{ℕ, ◌<◌, ◌≤◌, Option, ◌⊎◌}
use Rattle.hwp_law.specs.hwp_script_words.declared.Script.{Script}
use Rattle.hwp_law.specs.hwp_report_text.declared.Report.{Report}
use Rattle.hwp_law.specs.Law.{IsLawful}
use Rattle.hwp_check_rules.specs.declared.verdicts.Rule.{Rule}
use Rattle.hwp_check_rules.specs.declared.verdicts.Rule.TheVariants.{Shape, Histories, Answers, Seen, Marks, Count, Losses, Stop, Frames}
use Rattle.hwp_check_rules.specs.declared.verdicts.Verdict.{Verdict}
use Rattle.hwp_check_rules.specs.declared.verdicts.Verdict.TheVariants as verdicts
use Rattle.hwp_check_rules.specs.AnswerFaults.{IsAnswerFault, IsPrivateFault}
use Rattle.hwp_check_rules.specs.Faults.{IsCountFault, IsFrameFault, IsHistoryFault, IsLossFault, IsSeenFault, IsShapeFault, IsStopFault}
use Rattle.hwp_check_rules.specs.MarkFaults.{IsMarkFault}
use Rattle.hwp_check_rules.specs.Rules.{AnswersFit, CountFits, FramesFit, HistoriesFit, LossesFit, MarksFit, SeenFit, ShapeFits, StopFits}
use Rattle.hwp_law.specs.Acting.{acting_script, copied_at}
use Rattle.hwp_law.specs.Private.{ArePrivate}
use Rattle.hwp_law.specs.Guests.{AreGuestsKept}
use Rattle.hwp_check_rules.specs.GuestFaults.{IsGuestFault}
use Rattle.hwp_check_rules.specs.Firsts.{IsFirstFault}
use Rattle.hwp_law.specs.hwp_geom.declared.VSlot.{VSlot}
use Rattle.hwp_law.specs.hwp_geom.declared.Who.{Who}

-- the numbers of the rules
abbrev pub number : Rule → ℕ
number Shape = 1
number Histories = 2
number Answers = 3
number Seen = 4
number Marks = 5
number Count = 6
number Losses = 7
number Stop = 8
number Frames = 9

-- the rule holds by this script, where stores copy so; and the line breaks it
abbrev pub Fits : Rule → Script → (Who → Option VSlot) → Report → Type 0
Fits Shape script copies report = ShapeFits script report
Fits Histories script copies report = HistoriesFit script copies report
Fits Answers script copies report = AnswersFit script copies report
Fits Seen script copies report = SeenFit script report
Fits Marks script copies report = MarksFit script report
Fits Count script copies report = CountFits report
Fits Losses script copies report = LossesFit script report
Fits Stop script copies report = StopFits script report
Fits Frames script copies report = FramesFit script report

abbrev pub IsFaultBy : Rule → Script → (Who → Option VSlot) → Report → ℕ → Type 0
IsFaultBy Shape script copies report line = IsShapeFault script report line
IsFaultBy Histories script copies report line = IsHistoryFault script copies report line
IsFaultBy Answers script copies report line = IsAnswerFault script copies report line
IsFaultBy Seen script copies report line = IsSeenFault script report line
IsFaultBy Marks script copies report line = IsMarkFault script report line
IsFaultBy Count script copies report line = IsCountFault report line
IsFaultBy Losses script copies report line = IsLossFault script report line
IsFaultBy Stop script copies report line = IsStopFault script report line
IsFaultBy Frames script copies report line = IsFrameFault script report line

-- a report is judged by the script that its processors acted on; and the rule of answers is also that of private words and of guests
abbrev pub Holds : Rule → Script → Report → Type 0
Holds Answers script report = AnswersFit (acting_script script report) (copied_at script report) report × ArePrivate script report × AreGuestsKept script report
Holds rule script report = Fits rule (acting_script script report) (copied_at script report) report

abbrev pub IsFault : Rule → Script → Report → ℕ → Type 0
IsFault Answers script report line = IsAnswerFault (acting_script script report) (copied_at script report) report line ⊎ IsPrivateFault script report line ⊎ IsGuestFault script report line
IsFault rule script report line = IsFaultBy rule (acting_script script report) (copied_at script report) report line

-- the rules of lower numbers hold
abbrev pub HoldBelow : ℕ → Script → Report → Type 0
HoldBelow n script report = (rule : Rule) → number rule < n → Holds rule script report

-- the rule is broken, first by this line
abbrev pub IsBroken : Rule → Script → Report → ℕ → Type 0
IsBroken rule script report line = IsFirstFault (Holds rule script report) (IsFault rule script report) line

-- the verdict on a report, by the law and by its rules
abbrev pub IsVerdict : Script → Report → Verdict → Type 0
IsVerdict script report verdicts.Legal = IsLawful script report
IsVerdict script report (verdicts.Not line rule) = HoldBelow (number rule) script report × IsBroken rule script report line
