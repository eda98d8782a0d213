-- What a rule came to by the script that was acted on, as what it came to for the script and the report.
use Rattle.std.proofs.Common.{◌<◌, ℕ, List, Option, MatchOption, refl, subst, sym, arith}
use Rattle.hwp_check_rules.specs.hwp_geom.declared.VSlot.{VSlot}
use Rattle.hwp_check_rules.specs.hwp_geom.declared.Who.{Who}
use Rattle.hwp_check_rules.specs.hwp_law.Acting.{acting_script, copied_at}
use Rattle.hwp_check_rules.specs.hwp_report_text.declared.Report.{Report}
use Rattle.hwp_check_rules.specs.hwp_script_words.declared.Script.{Script}
use Rattle.hwp_check_rules.specs.AnswerFaults.{IsAnswerFault}
use Rattle.hwp_check_rules.specs.Faults.{IsCountFault, IsFrameFault, IsHistoryFault, IsLossFault, IsSeenFault, IsShapeFault, IsStopFault}
use Rattle.hwp_check_rules.specs.Firsts.{IsClear, IsFirstFault}
use Rattle.hwp_check_rules.specs.MarkFaults.{IsMarkFault}
use Rattle.hwp_check_rules.specs.Rules.{AnswersFit, AreAllAnswered, AreLegal, CountFits, FramesFit, HistoriesFit, LossesFit, MarksFit, SeenFit, ShapeFits, StopFits}
use Rattle.hwp_check_rules.specs.Verdicts.{HoldBelow, IsVerdict}
use Rattle.hwp_check_rules.specs.declared.Rule.TheVariants.{Shape, Histories, Answers, Seen, Marks, Count, Losses, Stop, Frames}
use Rattle.hwp_check_rules.specs.declared.Verdict.TheVariants as verdicts
use Rattle.hwp_check_rules.specs.hwp_check_event_line.Reading.{copies_in}
use Rattle.hwp_check.specs.Acting.{IsActedOn}
use Rattle.hwp_check.proofs.InOrder.{one-more}

module _ (script : Script) (report : Report) (acted : Script) (copies : List (List (Option VSlot))) (acts : IsActedOn script report acted copies) where
  to-law : (P : Script → (Who → Option VSlot) → Type 0) → P acted (copies_in copies) → P (acting_script script report) (copied_at script report)
  to-law P p = subst (λ (s : Script). P s (copied_at script report)) acts.acted_is (subst (P acted) acts.copies_are p)

  from-law : (P : Script → (Who → Option VSlot) → Type 0) → P (acting_script script report) (copied_at script report) → P acted (copies_in copies)
  from-law P p = subst (P acted) (sym acts.copies_are) (subst (λ (s : Script). P s (copied_at script report)) (sym acts.acted_is) p)

  pub shape_broken : (line : ℕ) → HoldBelow 1 script report → IsFirstFault (ShapeFits acted report) (IsShapeFault acted report) line → IsVerdict script report (verdicts.Not line Shape)
  shape_broken line below broken = (below, to-law (λ s c. IsFirstFault (ShapeFits s report) (IsShapeFault s report) line) broken)

  pub shape_holds : HoldBelow 1 script report → ShapeFits acted report → HoldBelow 2 script report
  shape_holds below holds = one-more script report Shape 1 refl below (to-law (λ s c. ShapeFits s report) holds)

  pub histories_broken : (line : ℕ) → HoldBelow 2 script report → IsFirstFault (HistoriesFit acted (copies_in copies) report) (IsHistoryFault acted (copies_in copies) report) line → IsVerdict script report (verdicts.Not line Histories)
  histories_broken line below broken = (below, to-law (λ s c. IsFirstFault (HistoriesFit s c report) (IsHistoryFault s c report) line) broken)

  pub histories_holds : HoldBelow 2 script report → HistoriesFit acted (copies_in copies) report → HoldBelow 3 script report
  histories_holds below holds = one-more script report Histories 2 refl below (to-law (λ s c. HistoriesFit s c report) holds)

  pub seen_broken : (line : ℕ) → HoldBelow 4 script report → IsFirstFault (SeenFit acted report) (IsSeenFault acted report) line → IsVerdict script report (verdicts.Not line Seen)
  seen_broken line below broken = (below, to-law (λ s c. IsFirstFault (SeenFit s report) (IsSeenFault s report) line) broken)

  pub seen_holds : HoldBelow 4 script report → SeenFit acted report → HoldBelow 5 script report
  seen_holds below holds = one-more script report Seen 4 refl below (to-law (λ s c. SeenFit s report) holds)

  pub marks_broken : (line : ℕ) → HoldBelow 5 script report → IsFirstFault (MarksFit acted report) (IsMarkFault acted report) line → IsVerdict script report (verdicts.Not line Marks)
  marks_broken line below broken = (below, to-law (λ s c. IsFirstFault (MarksFit s report) (IsMarkFault s report) line) broken)

  pub marks_holds : HoldBelow 5 script report → MarksFit acted report → HoldBelow 6 script report
  marks_holds below holds = one-more script report Marks 5 refl below (to-law (λ s c. MarksFit s report) holds)

  pub count_broken : (line : ℕ) → HoldBelow 6 script report → IsFirstFault (CountFits report) (IsCountFault report) line → IsVerdict script report (verdicts.Not line Count)
  count_broken line below broken = (below, to-law (λ s c. IsFirstFault (CountFits report) (IsCountFault report) line) broken)

  pub count_holds : HoldBelow 6 script report → CountFits report → HoldBelow 7 script report
  count_holds below holds = one-more script report Count 6 refl below (to-law (λ s c. CountFits report) holds)

  pub losses_broken : (line : ℕ) → HoldBelow 7 script report → IsFirstFault (LossesFit acted report) (IsLossFault acted report) line → IsVerdict script report (verdicts.Not line Losses)
  losses_broken line below broken = (below, to-law (λ s c. IsFirstFault (LossesFit s report) (IsLossFault s report) line) broken)

  pub losses_holds : HoldBelow 7 script report → LossesFit acted report → HoldBelow 8 script report
  losses_holds below holds = one-more script report Losses 7 refl below (to-law (λ s c. LossesFit s report) holds)

  pub stop_broken : (line : ℕ) → HoldBelow 8 script report → IsFirstFault (StopFits acted report) (IsStopFault acted report) line → IsVerdict script report (verdicts.Not line Stop)
  stop_broken line below broken = (below, to-law (λ s c. IsFirstFault (StopFits s report) (IsStopFault s report) line) broken)

  pub stop_holds : HoldBelow 8 script report → StopFits acted report → HoldBelow 9 script report
  stop_holds below holds = one-more script report Stop 8 refl below (to-law (λ s c. StopFits s report) holds)

  pub frames_broken : (line : ℕ) → HoldBelow 9 script report → IsFirstFault (FramesFit acted report) (IsFrameFault acted report) line → IsVerdict script report (verdicts.Not line Frames)
  frames_broken line below broken = (below, to-law (λ s c. IsFirstFault (FramesFit s report) (IsFrameFault s report) line) broken)

  pub frames_holds : HoldBelow 9 script report → FramesFit acted report → HoldBelow 10 script report
  frames_holds below holds = one-more script report Frames 9 refl below (to-law (λ s c. FramesFit s report) holds)

  pub none_below : HoldBelow 1 script report
  none_below Shape low = absurd (omega (arith, low))
  none_below Histories low = absurd (omega (arith, low))
  none_below Answers low = absurd (omega (arith, low))
  none_below Seen low = absurd (omega (arith, low))
  none_below Marks low = absurd (omega (arith, low))
  none_below Count low = absurd (omega (arith, low))
  none_below Losses low = absurd (omega (arith, low))
  none_below Stop low = absurd (omega (arith, low))
  none_below Frames low = absurd (omega (arith, low))

  -- what held before, for the rules behind
  pub shape_held : {n : ℕ} → 1 < n → HoldBelow n script report → ShapeFits acted report
  shape_held more below = from-law (λ s c. ShapeFits s report) (below Shape more)

  pub histories_held : {n : ℕ} → 2 < n → HoldBelow n script report → HistoriesFit acted (copies_in copies) report
  histories_held more below = from-law (λ s c. HistoriesFit s c report) (below Histories more)

  pub legal_held : {n : ℕ} → 2 < n → HoldBelow n script report → AreLegal acted report
  legal_held more below = (histories_held more below).legal

  pub answered_held : {n : ℕ} → 3 < n → HoldBelow n script report → AreAllAnswered acted report
  answered_held more below = (from-law (λ s c. AnswersFit s c report) (below Answers more).0).answered

  pub answers_to_law : (found : Option ℕ)
      → MatchOption found (IsClear (AnswersFit acted (copies_in copies) report) (IsAnswerFault acted (copies_in copies) report)) (IsFirstFault (AnswersFit acted (copies_in copies) report) (IsAnswerFault acted (copies_in copies) report))
      → MatchOption found (IsClear (AnswersFit (acting_script script report) (copied_at script report) report) (IsAnswerFault (acting_script script report) (copied_at script report) report))
      (IsFirstFault (AnswersFit (acting_script script report) (copied_at script report) report) (IsAnswerFault (acting_script script report) (copied_at script report) report))
  answers_to_law found told =
      to-law (λ s c. MatchOption found (IsClear (AnswersFit s c report) (IsAnswerFault s c report)) (IsFirstFault (AnswersFit s c report) (IsAnswerFault s c report))) told
