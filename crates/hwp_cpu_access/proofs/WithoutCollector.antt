-- Where its processor doesn't collect corrected errors, an instruction goes on behind a machine check without a pause.
use Rattle.std.proofs.Common.{◌≡◌, ◌&&◌, Bool, true, false, cond, Option, Some, None, option_map, unwrap_or, refl, ap, ◌∙◌}
use Rattle.hwp_fault.specs.hwp_geom.declared.Frame.{Frame}
use Rattle.hwp_fault.specs.hwp_page.declared.At.{At}
use Rattle.hwp_claim.specs.declared.Handler.{Handler}
use Rattle.hwp_claim.specs.Told.{first_signal, has_kept, was_poisoned}
use Rattle.hwp_cpu_access.specs.Instructions.{after_check, going_on, left_to_do, restarted, resumed}
use Rattle.hwp_cpu_access.specs.declared.instruction.Instruction.{Instruction}
use Rattle.hwp_cpu_access.specs.declared.instruction.InstructionAnswer.TheVariants as answers
use Rattle.hwp_cpu_access.specs.declared.instruction.InstructionAt.{InstructionAt}
use Rattle.hwp_cpu_access.specs.declared.instruction.InstructionAt.TheVariants as at

-- by the first failure that signalled the thread, and by whether the frame was poisoned already
abbrev goes_on : Instruction → Frame → Option At → Bool → InstructionAt
goes_on i frame signalled poisoned = unwrap_or (option_map (λ (place : At). at.Over (Some (answers.Sigbus place))) signalled) (cond poisoned (at.LoadFrame frame) (restarted i))

resumed-is : (i : Instruction) (frame : Frame) (signalled : Option At) (poisoned : Bool) → resumed i.request (left_to_do signalled frame poisoned) ≡ goes_on i frame signalled poisoned
resumed-is i frame (Some place) poisoned = refl
resumed-is i frame None true = refl
resumed-is i frame None false = refl

never : (kept : Bool) → (kept && false) ≡ false
never true = refl
never false = refl

pub goes-on : (i : Instruction) (frame : Frame) (h : Handler) → i.collects ≡ false → after_check i frame h ≡ goes_on i frame (first_signal h.events.told) (was_poisoned frame h.events.told)
goes-on i frame h none =
    ap (λ (c : Bool). going_on i.request c (left_to_do (first_signal h.events.told) frame (was_poisoned frame h.events.told))) (ap (λ (c : Bool). has_kept h.events.told && c) none ∙ never (has_kept h.events.told))
    ∙ resumed-is i frame (first_signal h.events.told) (was_poisoned frame h.events.told)
