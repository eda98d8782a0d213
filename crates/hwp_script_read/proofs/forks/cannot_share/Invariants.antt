use Rattle.std.proofs.Common.{◌&&◌, ◌||◌, Option}
use Rattle.std.specs.List.{list_any}
use Rattle.hwp_script_lines.specs.hwp_geom.declared.VSlot.{VSlot}
use Rattle.hwp_script_lines.specs.hwp_geom.declared.TransDecl.{TransDecl}
use Rattle.hwp_script_lines.specs.hwp_script_words.Forks.{froze, is_cow, is_unfit}
use Rattle.hwp_script_read.specs.Sums.{names_of}
use Rattle.hwp_script_read.proofs.PairsWalk.{IsNoPair}
use Rattle.hwp_script_read.proofs.forks.cannot_share.Given as goal

abbrev pub invariant-loop-number : goal.invariant-loop-number
invariant-loop-number l = IsNoPair (λ (slot : TransDecl × Option VSlot). is_cow l.fn.parent.0 slot && (is_unfit (names_of l.fn.summary) l.fn.parent.0 l.fn.child.0 slot.0.page.0 || list_any (froze (names_of l.fn.summary) slot.0.page.0) l.fn.before)) l.fn.summary.trans l.fn.summary.twins.items l.number
