-- Bad lines of some frame, by all frames; and the ends of processes, by the command's thread.
use Rattle.std.proofs.Common.{◌≡◌, ℕ, Option, Some, None, Any, true, slice_get, option_map, unwrap_or, refl, sym, ap, ◌∙◌, subst}
use Rattle.std.specs.Int.Bits.{and_zero_r}
use Rattle.std.proofs.lemmas.Option.{get_or_from_slice_get, slice_get-get_or, slice_get_within}
use Rattle.hwp_check_evidence.specs.hwp_geom.declared.Mask.{Mask}
use Rattle.hwp_check_evidence.specs.hwp_page.declared.At.{At}
use Rattle.hwp_check_evidence.specs.hwp_report_text.declared.FrameLine.{FrameLine}
use Rattle.hwp_check_evidence.specs.hwp_report_text.declared.Report.{Report}
use Rattle.hwp_check_evidence.specs.hwp_script_words.declared.Script.{Script}
use Rattle.hwp_check_evidence.specs.hwp_law.Causes.{AreBadLines, HadBadLines}
use Rattle.hwp_check_evidence.specs.hwp_law.Lines.{bad_lines_of}
use Rattle.hwp_check_evidence.specs.hwp_law.States.{HadState}

abbrev bad_in : Option FrameLine → ℕ
bad_in o = unwrap_or (option_map (λ (l : FrameLine). l.bad.0) o) 0

-- no lines are bad where none is
none-bad : (mask : ℕ) → AreBadLines 0 mask → ⊥
none-bad mask are = are.some (sym are.within ∙ and_zero_r mask)

module _ (report : Report) (mask : Mask) where
  pub any_frame : Any (λ (l : FrameLine). AreBadLines l.bad.0 mask.0) report.frames → (frame : ℕ) × AreBadLines (bad_lines_of report frame) mask.0
  any_frame any =
      let there : slice_get report.frames any.0 ≡ Some any.1 = slice_get-get_or report.frames any.0 any.1 any.2 ∙ ap Some any.3 in
      (any.0, subst (λ (o : Option FrameLine). AreBadLines (bad_in o) mask.0) (sym there) any.4)

  pub frame_any : (frame : ℕ) → AreBadLines (bad_lines_of report frame) mask.0 → Any (λ (l : FrameLine). AreBadLines l.bad.0 mask.0) report.frames
  frame_any frame are = which (slice_get report.frames frame) refl are
    where
      which : (o : Option FrameLine) → slice_get report.frames frame ≡ o → AreBadLines (bad_in o) mask.0 → Any (λ (l : FrameLine). AreBadLines l.bad.0 mask.0) report.frames
      which None is bad = absurd (none-bad mask.0 bad)
      which (Some line) is bad = (frame, line, slice_get_within report.frames frame line is, get_or_from_slice_get report.frames frame line line is, bad)

  -- the page was cached, and in some frame the lines are bad
  pub lines_had : (script : Script) (at : At) → HadState script.layout report.pages at (λ s. s.cached ≡ true) → (frame : ℕ) × AreBadLines (bad_lines_of report frame) mask.0 → HadBadLines script report mask at
  lines_had script at cached some = record { cached = cached; frame = some.0; bad = some.1 }

  pub had_lines : (script : Script) (at : At) → HadBadLines script report mask at → (frame : ℕ) × AreBadLines (bad_lines_of report frame) mask.0
  had_lines script at had = (had.frame, had.bad)
