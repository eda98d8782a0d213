-- Why an instruction ends. It is made again after a machine check only where another event was held, a failure of the machine check
-- poisoned its frame, or another's failure of the frame has ended: each pays for the turns of an access that begins again.
use Rattle.std.specs.Prelude.{ℕ, ◌+◌, ◌*◌, ◌==◌, ◌&&◌, Bool, false, cond, Option, Some, None, is_some, length, slice_index}
use Rattle.std.specs.List.{list_any}
use Rattle.hwp_fault.specs.hwp_geom.declared.Frame.{Frame}
use Rattle.hwp_fault.specs.hwp_words.Frames.{is_poisoned}
use Rattle.hwp_fault.specs.hwp_core_rule.Words.{Words}
use Rattle.hwp_claim.specs.hwp_banks.declared.Event.{Event}
use Rattle.hwp_fault.specs.declared.AccessAnswer.TheVariants as access_answers
use Rattle.hwp_fault.specs.declared.access.AccessAt.{AccessAt}
use Rattle.hwp_fault.specs.declared.access.AccessAt.TheVariants as access_at
use Rattle.hwp_fault.specs.Accesses as accesses
use Rattle.hwp_fault.specs.hwp_core_rule.Ranks.{again_most, stale_weight}
use Rattle.hwp_claim.specs.declared.Fail.{Fail}
use Rattle.hwp_claim.specs.Done.{marked_at}
use Rattle.hwp_claim.specs.hwp_banks.Banks.{Banks}
use Rattle.hwp_claim.specs.declared.handler.HandlerAt.{HandlerAt}
use Rattle.hwp_claim.specs.declared.handler.HandlerAt.TheVariants as handler_at
use Rattle.hwp_claim.specs.Handlers as handlers
use Rattle.hwp_claim.specs.Queue.{Queue}
use Rattle.hwp_cpu_access.specs.Instructions.{is_pending}
use Rattle.hwp_cpu_access.specs.declared.instruction.Instruction.{Instruction}
use Rattle.hwp_cpu_access.specs.declared.instruction.InstructionAt.{InstructionAt}
use Rattle.hwp_cpu_access.specs.declared.instruction.InstructionAt.TheVariants as at

abbrev pub class_at : InstructionAt → ℕ
class_at (at.Access a) = accesses.class a
class_at (at.Handle frame h) = handlers.class h
class_at _ = 4

abbrev pub class : Instruction → ℕ
class i = class_at i.at

abbrev pub claims_at : InstructionAt → Option (Frame × ℕ)
claims_at (at.Handle frame h) = handlers.claims h
claims_at _ = None

abbrev pub claims : Instruction → Option (Frame × ℕ)
claims i = claims_at i.at

abbrev pub aborts_at : InstructionAt → Bool
aborts_at (at.Handle frame h) = handlers.aborts h
aborts_at _ = false

abbrev pub aborts : Instruction → Bool
aborts i = aborts_at i.at

-- more than the turns of an access that begins again; and with the wait before it
abbrev pub anew : ℕ
anew = again_most + 2

abbrev pub anew_after_wait : ℕ
anew_after_wait = anew + 2

-- what a machine check that keeps events pays for the frames that its command may take out of use at the pause behind it
abbrev pub pause_weight : ℕ
pause_weight = 9 * stale_weight

-- and with the access
abbrev pub paused_cost : ℕ
paused_cost = anew_after_wait + pause_weight

-- the frame's failure has ended, or there is none: that pays for the access that begins again
abbrev pub ended_cost : ℕ → ℕ
ended_cost word = cond (is_pending word) 0 anew

-- the frame is poisoned, and its failure has ended
abbrev pub past_cost : ℕ → ℕ
past_cost word = cond (is_poisoned word) (ended_cost word) 0

abbrev pub word_of : Frame → Words → ℕ
word_of frame words = slice_index words.frames frame.0

-- an access that has met a bad line goes on to its machine check
abbrev pub check_cost : AccessAt → Words → ℕ
check_cost (access_at.LoadBad frame body) words = past_cost (word_of frame words)
check_cost (access_at.Unlock u (Some (access_answers.Checked frame place))) words = 5 + past_cost (word_of frame words)
check_cost (access_at.Over (access_answers.Checked frame place)) words = 5 + past_cost (word_of frame words)
check_cost _ words = 0

-- an event that the banks hold is gone after a machine check
abbrev pub held_cost : Banks → ℕ
held_cost banks = cond (list_any (λ (b : Option Event). is_some b) banks) paused_cost 0

-- the failure of the frame itself comes next, the only event: it may find the frame poisoned already
abbrev pub is_alone : Frame → Queue → Fail → Bool
is_alone frame q f = (length q.told == 0) && (length q.left == 1) && (f.frame.0 == frame.0) && (length (marked_at f.frame f.hardware f.at) == 0)

-- what follows a machine check
abbrev pub rest_at : Frame → Queue → HandlerAt → Words → ℕ
rest_at frame q (handler_at.Fail f) words = cond (is_alone frame q f) (past_cost (word_of frame words)) paused_cost
rest_at frame q _ words = 0

abbrev pub cost_at : Banks → InstructionAt → Words → ℕ
cost_at banks (at.Access a) words = accesses.cost a words + held_cost banks + check_cost a.at words
cost_at banks (at.Handle frame h) words = handlers.cost h words + rest_at frame h.events h.at words
cost_at banks (at.LoadFrame frame) words = 1 + ended_cost (word_of frame words)
cost_at banks (at.LoadStop frame) words = 2 + ended_cost (word_of frame words)
cost_at banks at.GiveUp words = 1
cost_at banks (at.Paused pause) words = paused_cost
cost_at banks (at.Over answer) words = 0

abbrev pub cost : Instruction → Words → ℕ
cost i words = cost_at i.banks i.at words
