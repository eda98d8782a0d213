-- A processor that gives up keeps the frame rule.
use Rattle.std.proofs.Common.{◌≡◌, ℕ, ◌^◌, min, bit_or, sym, ap, ◌∙◌, subst}
use Rattle.hwp_words.specs.Stops.{stopper_of}
use Rattle.hwp_words.proofs.OtherSteps.{stopper_of-give_up}
use Rattle.hwp_core_rule.specs.Rule.{FrameRule}
use Rattle.hwp_core_rule.proofs.Keeps.{Keeps}
use Rattle.hwp_core_rule.proofs.Lists.{set_again}
use Rattle.hwp_core_rule.specs.declared.step.Step.TheVariants as steps

pub keeps-give_up : Keeps steps.GiveUp
keeps-give_up layout w homes views seat v who content given =
    subst (FrameRule layout (record w { stop = bit_or w.stop (2 ^ 63) }) homes) (sym (set_again views seat v given.me)) (record {
      frames = h.frames;
      pages = h.pages;
      histories = h.histories;
      failures = h.failures;
      processors = record {
        policies = h.processors.policies;
        stops = record {
          killed = h.processors.stops.killed;
          ended_stays = h.processors.stops.ended_stays;
          stop_stays = λ i list is j s listed at named. same ∙ h.processors.stops.stop_stays i list is j s listed at named;
          one = h.processors.stops.one ∙ ap (λ (n : ℕ). min n 1) (sym same);
          named = λ i list is j x listed. same ∙ h.processors.stops.named i list is j x listed;
        };
        processors = h.processors.processors;
        commands = h.processors.commands;
      };
    })
  where
    h : FrameRule layout w homes views
    h = given.rule

    same : stopper_of (bit_or w.stop (2 ^ 63)) ≡ stopper_of w.stop
    same = (stopper_of-give_up w.stop).0
