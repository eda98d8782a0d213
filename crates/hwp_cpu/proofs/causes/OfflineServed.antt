-- What came of a frame that was taken out of use beside a command has its reason.
use Rattle.std.proofs.Common.{◌≡◌, Bool, true, false, List, [], ◌++◌, Option, Some, slice_index_or, refl, sym, ap, ◌∙◌, subst}
use Rattle.std.specs.List.{cons_option}
use Rattle.std.proofs.lemmas.Bool.{both_ways}
use Rattle.std.proofs.lemmas.Option.{get_or_from_slice_get}
use Rattle.hwp_law_served.specs.hwp_geom.declared.Layout.{Layout}
use Rattle.hwp_law_served.specs.hwp_page.declared.At.{At}
use Rattle.hwp_law_served.specs.hwp_core_rule.declared.Made.{Made}
use Rattle.hwp_law_served.specs.hwp_core_rule.declared.View.{View}
use Rattle.hwp_law_served.specs.hwp_report_text.declared.Answer.{Answer}
use Rattle.hwp_law_served.specs.hwp_report_text.declared.Answer.TheVariants as answers
use Rattle.hwp_law_served.specs.hwp_report_text.declared.OfflineResult.{OfflineResult}
use Rattle.hwp_law_served.specs.hwp_report_text.declared.OfflineResult.TheVariants as results
use Rattle.hwp_law_served.specs.hwp_report_text.Offlines.{offline_answer}
use Rattle.hwp_law_served.specs.hwp_soft.declared.Soft.{Soft}
use Rattle.hwp_law_served.specs.hwp_soft.declared.SoftAnswer.{SoftAnswer}
use Rattle.hwp_law_served.specs.hwp_soft.declared.SoftAnswer.TheVariants as soft_answers
use Rattle.hwp_law_served.specs.hwp_soft.Offline as offline
use Rattle.hwp_law_served.specs.hwp_soft.Softs as softs
use Rattle.hwp_cpu_command.specs.Answers.{soft_answer}
use Rattle.hwp_cpu_command.specs.Jobs.{offlined_by}
use Rattle.hwp_cpu_command.proofs.JobEnds.{soft-ended}
use Rattle.hwp_law_served.specs.Offlinings.{IsOfflineServed, left_among, left_at, left_by}
use Rattle.hwp_cpu.proofs.causes.LeftBeside.{left-moved, moved_at}

-- ---- the result, by the answer

abbrev result_of : Answer → OfflineResult
result_of (answers.Moved frame at) = results.Moved frame at
result_of answers.TakenFree = results.TakenFree
result_of answers.Already = results.Already
result_of (answers.HasBad mask) = results.HasBad mask
result_of answers.NoFrame = results.NoFrame
result_of _ = results.Stopped

back : (r : OfflineResult) → result_of (offline_answer r) ≡ r
back (results.Moved frame at) = refl
back results.TakenFree = refl
back results.Already = refl
back (results.HasBad mask) = refl
back results.NoFrame = refl
back results.Stopped = refl

-- no result is that the frame is the kernel's
abbrev is_kernel_answer : Answer → Bool
is_kernel_answer answers.Kernel = true
is_kernel_answer _ = false

no-kernel-result : (r : OfflineResult) → is_kernel_answer (offline_answer r) ≡ false
no-kernel-result (results.Moved frame at) = refl
no-kernel-result results.TakenFree = refl
no-kernel-result results.Already = refl
no-kernel-result (results.HasBad mask) = refl
no-kernel-result results.NoFrame = refl
no-kernel-result results.Stopped = refl

module _ {base : List Made} {layout : Layout} {view : View} (s : Soft) (x : SoftAnswer) (r : OfflineResult) (fits : offline.FitsFrom base layout view s) (is : softs.answer s ≡ Some x) (said : offline_answer r ≡ soft_answer x) where
  result-is : result_of (soft_answer x) ≡ r
  result-is = sym (ap result_of said) ∙ back r

  by : (y : SoftAnswer) → is_kernel_answer (soft_answer y) ≡ false → offline.IsCaused base layout view s.who s.frame y → IsOfflineServed layout view s.who s.frame (offlined_by s.frame y) (result_of (soft_answer y))
  by soft_answers.Stopped apart has = (has.1, refl)
  by soft_answers.Kernel apart has = absurd (both_ways true apart refl)
  by soft_answers.Already apart has = (has.2, has.1, refl)
  by (soft_answers.HasBad mask) apart has = (has.2, has.1, refl)
  by soft_answers.NoFrame apart has = (has.2, has.1, refl)
  by (soft_answers.TakenFree cycle) apart has = (has.2, (cycle, refl))
  by (soft_answers.Moved to place cycle) apart has = (has.3, (cycle, refl), has.2)

  pub offline-served : IsOfflineServed layout view s.who s.frame (offlined_by s.frame x) r
  offline-served = subst (IsOfflineServed layout view s.who s.frame (offlined_by s.frame x)) result-is (by x (sym (ap is_kernel_answer said) ∙ no-kernel-result r) (soft-ended s fits is).1)

  -- and the entry by which its page left it is one more
  pub left-offline : left_by s.who view ≡ left_among base ++ cons_option (left_at r) []
  left-offline = left-moved s x fits is ∙ ap (λ (o : Option At). left_among base ++ cons_option o []) (place x ∙ ap left_at result-is)
    where
      place : (y : SoftAnswer) → moved_at y ≡ left_at (result_of (soft_answer y))
      place soft_answers.Stopped = refl
      place soft_answers.Kernel = refl
      place soft_answers.Already = refl
      place (soft_answers.HasBad mask) = refl
      place soft_answers.NoFrame = refl
      place (soft_answers.TakenFree cycle) = refl
      place (soft_answers.Moved to at cycle) = refl

-- a frame that isn't the kernel's isn't answered so
pub no-kernel : {base : List Made} {layout : Layout} {view : View} (s : Soft) → offline.FitsFrom base layout view s → softs.answer s ≡ Some soft_answers.Kernel → slice_index_or layout.kernel s.frame.0 false ≡ false → ⊥
no-kernel {layout = layout} s fits is users = both_ways (slice_index_or layout.kernel s.frame.0 false) users (get_or_from_slice_get layout.kernel s.frame.0 true false (soft-ended s fits is).1.1.declared)
