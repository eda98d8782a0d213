-- A store whose page is copied first: the task's states, its steps and what they come to. This project's rule.
use Rattle.std.specs.Prelude.{◌≡◌, ℕ, Bool, Option, Some, None}
use Rattle.std.specs.declared.alloc.Global.{Global}
use Rattle.hwp_fault.specs.hwp_geom.declared.Layout.{Layout}
use Rattle.hwp_fault.specs.hwp_geom.declared.Mode.TheVariants as modes
use Rattle.hwp_fault.specs.hwp_geom.declared.Page.{Page}
use Rattle.hwp_fault.specs.hwp_geom.declared.VSlot.{VSlot}
use Rattle.hwp_fault.specs.hwp_page.declared.At.{At}
use Rattle.hwp_fault.specs.hwp_page.History.{BodyValue}
use Rattle.hwp_fault.specs.hwp_core_rule.declared.Step.{Step}
use Rattle.hwp_fault.specs.hwp_core_rule.declared.Turn.{Turn}
use Rattle.hwp_fault.specs.hwp_core_rule.declared.Turn.TheVariants.{Moved}
use Rattle.hwp_fault.specs.declared.AccessKind.TheVariants as kinds
use Rattle.hwp_fault.specs.declared.Request.{Request}
use Rattle.hwp_claim.specs.hwp_banks.Banks.{Banks}
use Rattle.hwp_claim.specs.hwp_banks.declared.Origin.TheVariants as origins
use Rattle.hwp_fault.specs.hwp_evict.declared.evict.Evict.{Evict}
use Rattle.hwp_fault.specs.hwp_evict.declared.evict.EvictAnswer.{EvictAnswer}
use Rattle.hwp_fault.specs.hwp_evict.declared.evict.EvictAnswer.TheVariants as evict_answers
use Rattle.hwp_fault.specs.hwp_evict.declared.evict.Eviction.TheVariants as evictions
use Rattle.hwp_fault.specs.hwp_evict.Evicts as evicts
use Rattle.hwp_fork.specs.declared.cow.Sub.{Sub}
use Rattle.hwp_fork.specs.declared.cow.Sub.TheVariants as subs
use Rattle.hwp_fork.specs.Cows as cows
use Rattle.hwp_cpu_access.specs.declared.instruction.Instruction.{Instruction}
use Rattle.hwp_cpu_access.specs.declared.instruction.InstructionAnswer.{InstructionAnswer}
use Rattle.hwp_cpu_access.specs.declared.instruction.InstructionAnswer.TheVariants as answers
use Rattle.hwp_cpu_access.specs.declared.instruction.Pause.{Pause}
use Rattle.hwp_cpu_access.specs.Instructions as instructions
use Rattle.hwp_cpu_access.specs.declared.copying.Copying.{Copying}
use Rattle.hwp_cpu_access.specs.declared.copying.CopyingAt.{CopyingAt}
use Rattle.hwp_cpu_access.specs.declared.copying.CopyingAt.TheVariants as at

-- ---- its accesses

-- a load of a line of the page through the frozen translation, by the thread of the store that was asked for
abbrev pub load_of : Request → Page → VSlot → ℕ → Request
load_of store page slot line = record store { slot = slot; line = line; kind = kinds.Load; page = page }

-- a store of a word on a line of its page through the twin
abbrev pub store_of : Request → VSlot → ℕ → ℕ → Request
store_of store slot line word = record store { slot = slot; line = line; kind = kinds.Store word }

-- the request of an access
abbrev pub request_by : Request → Page → Sub → Option Request
request_by store page (subs.Load slot line) = Some (load_of store page slot line)
request_by store page (subs.Store slot line word) = Some (store_of store slot line word)
request_by store page (subs.Free slot) = None
request_by store page subs.Switched = None

-- the translation of the access that comes
abbrev pub through_by : VSlot → Sub → VSlot
through_by twin (subs.Load slot line) = slot
through_by twin (subs.Store slot line word) = twin
through_by twin (subs.Free slot) = slot
through_by twin subs.Switched = twin

abbrev pub through : Copying → VSlot
through c = through_by c.store.slot (cows.sub_of c.cow)

-- ---- its beginning

abbrev pub begin : Global → Request → ℕ → VSlot → Page → Banks → Bool → Copying
begin alloc store x slot page banks collects = record {
  cow = cows.begin slot store.slot store.line x;
  store = store;
  page = page;
  instruction = instructions.begin alloc (load_of store page slot 0) origins.Access modes.User banks collects;
  at = at.Access;
}

-- ---- the step that comes: that of the access, or of the freeing

abbrev pub plan_at : Instruction → CopyingAt → Option Step
plan_at i at.Access = instructions.plan i
plan_at i (at.Free e stored) = evicts.plan e
plan_at i (at.Over answer) = None

abbrev pub plan : Copying → Option Step
plan c = plan_at c.instruction c.at

abbrev pub put_at : Instruction → CopyingAt → Option BodyValue
put_at i at.Access = instructions.put i
put_at i (at.Free e stored) = evicts.put e
put_at i (at.Over answer) = None

abbrev pub put : Copying → Option BodyValue
put c = put_at c.instruction c.at

abbrev pub bare_at : Copying → CopyingAt → Copying
bare_at c at.Access = record c { instruction = instructions.bare c.instruction; at = at.Access }
bare_at c (at.Free e stored) = record c { at = at.Free (evicts.bare e) stored }
bare_at c (at.Over answer) = record c { at = at.Over answer }

abbrev pub bare : Copying → Copying
bare c = bare_at c c.at

abbrev pub answer_at : Instruction → CopyingAt → Option InstructionAnswer
answer_at i at.Access = instructions.answer i
answer_at i (at.Free e stored) = None
answer_at i (at.Over answer) = Some answer

abbrev pub answer : Copying → Option InstructionAnswer
answer c = answer_at c.instruction c.at

abbrev pub pause_at : Instruction → CopyingAt → Option Pause
pause_at i at.Access = instructions.pause i
pause_at i (at.Free e stored) = None
pause_at i (at.Over answer) = None

abbrev pub pause : Copying → Option Pause
pause c = pause_at c.instruction c.at

-- ---- beside it

abbrev pub resume_at : Copying → CopyingAt → Copying
resume_at c at.Access = record c { instruction = instructions.resume c.instruction }
resume_at c (at.Free e stored) = c
resume_at c (at.Over answer) = c

-- behind its pause
abbrev pub resume : Copying → Copying
resume c = resume_at c c.at

-- its next step gives up the command
abbrev pub give_up : Copying → Copying
give_up c = record c { instruction = instructions.give_up c.instruction; at = at.Access }

-- ---- what follows

-- the access, or the freeing, that comes begins, behind an access that went well by the entry at this place
abbrev pub going_on : Copying → At → Sub → Copying
going_on c place (subs.Load slot line) = record c { instruction = instructions.again_with c.instruction (load_of c.store c.page slot line) }
going_on c place (subs.Store slot line word) = record c { instruction = instructions.again_with c.instruction (store_of c.store slot line word) }
going_on c place (subs.Free slot) = record c { at = at.Free (evicts.begin c.store.who c.page (evictions.Free slot)) place }
going_on c place subs.Switched = record c { at = at.Over (answers.Stored place) }

-- the access went well
abbrev pub went : Copying → ℕ → At → Copying
went c word place = going_on (record c { cow = cows.told_by c.cow word }) place (cows.sub_of (cows.told_by c.cow word))

-- it goes on, went well, or answers the command
abbrev pub after_access : Copying → Option InstructionAnswer → Copying
after_access c (Some (answers.Value word place)) = went c word place
after_access c (Some (answers.Stored place)) = went c 0 place
after_access c _ = c

-- a translation that wasn't in use is as good as freed
abbrev pub after_free : Copying → EvictAnswer → At → Copying
after_free c evict_answers.Stopped stored = record c { at = at.Over answers.Stopped }
after_free c (evict_answers.Done place) stored = record c { cow = cows.told_by c.cow 0; at = at.Over (answers.Stored stored) }
after_free c (evict_answers.Refused refusal place) stored = record c { cow = cows.told_by c.cow 0; at = at.Over (answers.Stored stored) }

abbrev pub after_free_by : Copying → Evict → At → Option EvictAnswer → Copying
after_free_by c e stored None = record c { at = at.Free e stored }
after_free_by c e stored (Some answer) = after_free (record c { at = at.Free e stored }) answer stored

-- ---- each step

pub record AccessStepped (layout : Layout) (c : Copying) (found : ℕ) (got : Option BodyValue) (after : Copying) (turn : Turn) : Type 0 where
  pub instruction : Instruction
  pub follows : instructions.Follows layout c.instruction found got instruction turn
  pub next_is : after ≡ after_access (record c { instruction = instruction }) (instructions.answer instruction)

pub record FreeStepped (c : Copying) (e : Evict) (stored : At) (found : ℕ) (got : Option BodyValue) (after : Copying) (turn : Turn) : Type 0 where
  pub evict : Evict
  pub follows : evicts.Follows e found got evict turn
  pub next_is : after ≡ after_free_by c evict stored (evicts.answer evict)

abbrev pub FollowsAt : Layout → Copying → CopyingAt → ℕ → Option BodyValue → Copying → Turn → Type 0
FollowsAt layout c at.Access found got after turn = AccessStepped layout c found got after turn
FollowsAt layout c (at.Free e stored) found got after turn = FreeStepped c e stored found got after turn
FollowsAt layout c (at.Over answer) found got after turn = (after ≡ c) × (turn ≡ Moved)

abbrev pub Follows : Layout → Copying → ℕ → Option BodyValue → Copying → Turn → Type 0
Follows layout c found got after turn = FollowsAt layout c c.at found got after turn

abbrev pub ShowsAt : Instruction → CopyingAt → ℕ → Option BodyValue → Type 0
ShowsAt i at.Access found got = instructions.Shows i found got
ShowsAt i (at.Free e stored) found got = evicts.Shows e found got
ShowsAt i (at.Over answer) found got = Unit {0}

abbrev pub Shows : Copying → ℕ → Option BodyValue → Type 0
Shows c found got = ShowsAt c.instruction c.at found got
