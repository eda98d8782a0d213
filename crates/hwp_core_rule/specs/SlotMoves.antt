-- The table of slots: which slot a step moves, and what is home after it. The holder of a lock has the lock's slot.
use Rattle.std.specs.Prelude.{◌≡◌, ℕ, ◌+◌, ◌<◌, Bool, true, false, cond, Option, Some, None, slice_get, slice_set}
use Rattle.hwp_page.specs.hwp_geom.declared.Frame.{Frame}
use Rattle.hwp_page.specs.hwp_geom.declared.Layout.{Layout}
use Rattle.hwp_page.specs.hwp_geom.declared.Page.{Page}
use Rattle.hwp_core_rule.specs.declared.log.Log.{Log}
use Rattle.hwp_core_rule.specs.declared.slot_move.SlotMove.{SlotMove}
use Rattle.hwp_core_rule.specs.declared.slot_move.SlotMove.TheVariants as moves
use Rattle.hwp_core_rule.specs.declared.step.Step.{Step}
use Rattle.hwp_core_rule.specs.declared.step.Step.TheVariants as steps
use Rattle.hwp_core_rule.specs.Lists.{Homes}
use Rattle.hwp_core_rule.specs.Steps.{goes}

-- the slot of a frame, and the shelf of a page
abbrev pub frame_slot : Frame → ℕ
frame_slot frame = frame.0

abbrev pub shelf_slot : Layout → Page → ℕ
shelf_slot layout page = layout.frames + page.0

-- the slot goes out where its lock was taken
abbrev pub moved_out : Bool → ℕ → SlotMove
moved_out taken slot = cond taken (moves.Out slot) moves.Stays

-- a lock that is taken brings its slot out, and one that is freed takes it home
abbrev pub slot_move : Layout → Step → ℕ → SlotMove
slot_move layout (steps.Adopt frame) found = moves.Out (frame_slot frame)
slot_move layout (steps.LockFrame frame) found = moved_out (goes (steps.LockFrame frame) found) (frame_slot frame)
slot_move layout (steps.UnlockFrame frame) found = moves.Home (frame_slot frame)
slot_move layout (steps.Retire frame) found = moves.Home (frame_slot frame)
slot_move layout (steps.LockPage page) found = moved_out (goes (steps.LockPage page) found) (shelf_slot layout page)
slot_move layout (steps.UnlockPage page) found = moves.Home (shelf_slot layout page)
slot_move layout step found = moves.Stays

-- the slots at home after a move of one of them
abbrev pub homes_moved : SlotMove → Option Log → Homes → Homes
homes_moved moves.Stays content homes = homes
homes_moved (moves.Out slot) content homes = slice_set homes slot None
homes_moved (moves.Home slot) content homes = slice_set homes slot (Some content)

-- the slots at home after a step
abbrev pub homes_after : Layout → Step → ℕ → Option Log → Homes → Homes
homes_after layout step found content homes = homes_moved (slot_move layout step found) content homes

-- the slot is at home with this content
abbrev pub IsIn : Homes → ℕ → Option Log → Type 0
IsIn homes slot content = slice_get homes slot ≡ Some (Some content)

-- a slot that goes out had this content
abbrev pub MeetsSlot : SlotMove → Homes → Option Log → Type 0
MeetsSlot (moves.Out slot) homes content = IsIn homes slot content
MeetsSlot move homes content = Unit {0}

abbrev pub Meets : Layout → Homes → Step → ℕ → Option Log → Type 0
Meets layout homes step found content = MeetsSlot (slot_move layout step found) homes content

-- the slot that moves is one of so many
abbrev pub IsWithin : ℕ → SlotMove → Type 0
IsWithin count moves.Stays = Unit {0}
IsWithin count (moves.Out slot) = slot < count
IsWithin count (moves.Home slot) = slot < count

-- a slot that goes out is at home
abbrev pub LeavesHome : SlotMove → Homes → Type 0
LeavesHome (moves.Out slot) homes = (content : Option Log) × IsIn homes slot content
LeavesHome move homes = Unit {0}

-- the step took a lock, and with it the content of its slot
abbrev pub is_out : SlotMove → Bool
is_out (moves.Out slot) = true
is_out move = false

abbrev pub takes : Layout → Step → ℕ → Bool
takes layout step found = is_out (slot_move layout step found)
