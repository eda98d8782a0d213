use Rattle.std.proofs.Common.{◌≡◌, ℕ, ◌+◌, List, Some, length, slice_get, ap, ◌∙◌, sym, subst}
use Rattle.std.proofs.lemmas.List.{length_push}
use Rattle.hwp_law.specs.hwp_geom.declared.Thread.{Thread}
use Rattle.hwp_check_rules.specs.declared.pasts.ThreadPolicies.{ThreadPolicies}
use Rattle.hwp_check_rules.specs.Pasts.{IsPast}
use Rattle.hwp_check_rules.proofs.PastLaws.{pasts-more}
use Rattle.hwp_check_rules.proofs.pasts.pasts_of.Goals as goal

pub loop-number-preserved : goal.loop-number-preserved
loop-number-preserved c =
    let items = c.in_ok-push.ensures.items in (
      ap length items ∙ length_push c.loop-number.pasts.items c.in_ok-past_of.field-0 ∙ ap (λ (n : ℕ). n + 1) c.loop-number.invariant.0,
      subst (λ (l : List ThreadPolicies). (t : Thread) (p : ThreadPolicies) → slice_get l t.0 ≡ Some p → IsPast c.args.script.now c.args.report.now t p) (sym items)
          (pasts-more c.args.script.now c.args.report.now c.loop-number.pasts.items c.in_ok-past_of.field-0 (record { 0 = c.loop-number.number }) c.loop-number.invariant.0 c.loop-number.invariant.1
          c.in_ok-past_of.ensures),
    )
