use Rattle.std.proofs.Common.{◌&&◌, ◌||◌, Option, arith}
use Rattle.std.specs.List.{list_any}
use Rattle.hwp_script_lines.specs.hwp_geom.declared.VSlot.{VSlot}
use Rattle.hwp_script_lines.specs.hwp_geom.declared.TransDecl.{TransDecl}
use Rattle.hwp_script_lines.specs.hwp_script_words.Forks.{froze, is_cow, is_unfit}
use Rattle.hwp_script_read.specs.Sums.{names_of}
use Rattle.hwp_script_read.proofs.PairsWalk.{pair-first, pair-more, pair-found, no-pair}
use Rattle.hwp_script_read.proofs.forks.cannot_share.Goals as goal

pub loop-number-init : goal.loop-number-init
loop-number-init c = pair-first _ _ _

pub loop-number-preserved : goal.loop-number-preserved
loop-number-preserved c =
    pair-more (λ (slot : TransDecl × Option VSlot). is_cow c.args.parent.0 slot && (is_unfit (names_of c.args.summary.now) c.args.parent.0 c.args.child.0 slot.0.page.0 || list_any (froze (names_of c.args.summary.now) slot.0.page.0) c.args.before.now)) c.args.summary.now.trans c.args.summary.now.twins.items c.as_slice-trans.result.now c.as_slice-twins.result.now c.as_slice-trans.ensures c.as_slice-twins.ensures.value c.loop-number.number _ _ (omega arith) c.loop-number.invariant c.if-cannot_share_by.ensures

pub returns-then-cannot_share_by : goal.returns-then-cannot_share_by
returns-then-cannot_share_by c =
    pair-found (λ (slot : TransDecl × Option VSlot). is_cow c.args.parent.0 slot && (is_unfit (names_of c.args.summary.now) c.args.parent.0 c.args.child.0 slot.0.page.0 || list_any (froze (names_of c.args.summary.now) slot.0.page.0) c.args.before.now)) c.args.summary.now.trans c.args.summary.now.twins.items c.as_slice-trans.result.now c.as_slice-twins.result.now c.as_slice-trans.ensures c.as_slice-twins.ensures.value c.loop-number.number _ _ (omega arith) c.if-cannot_share_by.ensures

pub returns : goal.returns
returns c = no-pair (λ (slot : TransDecl × Option VSlot). is_cow c.args.parent.0 slot && (is_unfit (names_of c.args.summary.now) c.args.parent.0 c.args.child.0 slot.0.page.0 || list_any (froze (names_of c.args.summary.now) slot.0.page.0) c.args.before.now)) c.args.summary.now.trans c.args.summary.now.twins.items c.as_slice-trans.result.now c.as_slice-twins.result.now c.as_slice-trans.ensures c.as_slice-twins.ensures.value c.loop-number.number (omega arith) c.loop-number.invariant
