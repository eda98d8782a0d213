use Rattle.std.proofs.Common.{◌≡◌, ◌<◌, ◌||◌, ℕ, Bool, length, slice_index_or, take}
use Rattle.hwp_check_frames.specs.Flags.{rows_flag}
use Rattle.hwp_check_frames.proofs.flags.flag_rows.Given as goal

abbrev pub invariant-loop-row : goal.invariant-loop-row
invariant-loop-row l =
    (length l.flags.items ≡ length l.fn.flags.items)
    × ((frame : ℕ) (d : Bool) → frame < length l.fn.flags.items → slice_index_or l.flags.items frame d ≡ (slice_index_or l.fn.flags.items frame d || rows_flag l.fn.own l.fn.many l.fn.cpu frame (take l.row-index l.fn.rows)))
