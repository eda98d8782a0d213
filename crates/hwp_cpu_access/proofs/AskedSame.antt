-- What an access asks for never changes.
use Rattle.std.proofs.Common.{◌≡◌, inl, inr, ℕ, Bool, Option, Some, None, refl, ap, ◌∙◌}
use Rattle.hwp_fault.specs.hwp_geom.declared.Frame.{Frame}
use Rattle.hwp_fault.specs.hwp_geom.declared.Layout.{Layout}
use Rattle.hwp_fault.specs.hwp_geom.declared.Mode.{Mode}
use Rattle.hwp_fault.specs.hwp_page.History.{BodyValue}
use Rattle.hwp_fault.specs.hwp_core_rule.declared.Turn.{Turn}
use Rattle.hwp_fault.specs.declared.Access.{Access}
use Rattle.hwp_fault.specs.declared.AccessAnswer.{AccessAnswer}
use Rattle.hwp_fault.specs.declared.AccessAnswer.TheVariants as access_answers
use Rattle.hwp_fault.specs.declared.Request.{Request}
use Rattle.hwp_fault.specs.Accesses as accesses
use Rattle.hwp_claim.specs.hwp_banks.Banks.{Banks}
use Rattle.hwp_claim.specs.hwp_banks.declared.Origin.{Origin}
use Rattle.hwp_claim.specs.declared.Handler.{Handler}
use Rattle.hwp_claim.specs.Handlers as handlers
use Rattle.hwp_cpu_access.specs.declared.instruction.Instruction.{Instruction}
use Rattle.hwp_cpu_access.specs.declared.instruction.InstructionAt.{InstructionAt}
use Rattle.hwp_cpu_access.specs.declared.instruction.InstructionAt.TheVariants as at
use Rattle.hwp_cpu_access.specs.Instructions as instructions

abbrev pub Asked : Type 0
Asked = Request × Origin × Mode × Banks

abbrev pub asked : Instruction → Asked
asked i = (i.request, i.origin, i.mode, i.before.value)

handled : (i : Instruction) (frame : Frame) (h : Handler) → asked (instructions.after_handler i frame h) ≡ asked i
handled i frame h = which (handlers.answer h)
  where
    which : (o : Option Bool) → asked (instructions.after_handler_by i frame h o) ≡ asked i
    which None = refl
    which (Some stopped) = refl

pub asked-same : (layout : Layout) (i k : Instruction) (found : ℕ) (got : Option BodyValue) (turn : Turn) → instructions.Follows layout (instructions.bare i) found got k turn → asked k ≡ asked i
asked-same layout i k found got turn follows = which i.at follows
  where
    accessed : (a : Access) (o : Option AccessAnswer) → instructions.AfterAccessBy layout (instructions.bare i) a o k → asked k ≡ asked i
    accessed a (Some (access_answers.Checked frame place)) (inl refused) = ap asked refused
    accessed a (Some (access_answers.Checked frame place)) (inr (spare, room, is)) = ap asked is ∙ handled (instructions.emptied (instructions.bare i) spare) frame (instructions.handler_of layout (instructions.bare i) frame)
    accessed a None is = ap asked is
    accessed a (Some (access_answers.Value word place)) is = ap asked is
    accessed a (Some (access_answers.Stored place)) is = ap asked is
    accessed a (Some (access_answers.Sigbus place)) is = ap asked is
    accessed a (Some access_answers.NoFrame) is = ap asked is
    accessed a (Some (access_answers.Gone page)) is = ap asked is
    accessed a (Some access_answers.Stopped) is = ap asked is

    which : (x : InstructionAt) → instructions.FollowsAt layout (instructions.bare i) (instructions.bare_at x) found got k turn → asked k ≡ asked i
    which (at.Access a) next = accessed next.access (accesses.answer next.access) next.next_is
    which (at.Handle frame h) next = ap asked next.next_is ∙ handled (instructions.bare i) frame next.handler
    which (at.LoadFrame frame) next = ap asked next.0
    which (at.LoadStop frame) next = ap asked next.0
    which at.GiveUp next = ap asked next.0
    which (at.Paused pause) next = ap asked next.0
    which (at.Over answer) next = ap asked next.0
