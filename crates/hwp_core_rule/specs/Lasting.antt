-- What a step does to the poison of frames.
use Rattle.hwp_core_rule.specs.declared.step.Step.{Step}
use Rattle.hwp_core_rule.specs.declared.step.Step.TheVariants as steps

-- a step that doesn't take a frame's poison back
abbrev pub LeavesPoison : Step → Type 0
LeavesPoison (steps.Revive frame seen) = ⊥
LeavesPoison step = Unit {0}

-- a step that neither poisons a frame nor takes its poison back
abbrev pub IsMild : Step → Type 0
IsMild (steps.Poison frame hardware) = ⊥
IsMild (steps.Revive frame seen) = ⊥
IsMild step = Unit {0}
