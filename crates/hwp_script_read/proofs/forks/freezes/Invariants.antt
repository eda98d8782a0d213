use Rattle.std.proofs.Common.{◌&&◌, ◌==◌, Option}
use Rattle.hwp_script_lines.specs.hwp_geom.declared.VSlot.{VSlot}
use Rattle.hwp_script_lines.specs.hwp_geom.declared.TransDecl.{TransDecl}
use Rattle.hwp_script_lines.specs.hwp_script_words.Forks.{is_cow}
use Rattle.hwp_script_read.proofs.PairsWalk.{IsNoPair}
use Rattle.hwp_script_read.proofs.forks.freezes.Given as goal

abbrev pub invariant-loop-number : goal.invariant-loop-number
invariant-loop-number l = IsNoPair (λ (slot : TransDecl × Option VSlot). is_cow l.fn.process.0 slot && (slot.0.page.0 == l.fn.page.0)) l.fn.summary.trans l.fn.summary.twins.items l.number
