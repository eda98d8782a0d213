use Rattle.std.proofs.Common.{◌&&◌, ◌==◌, Option, arith}
use Rattle.hwp_script_lines.specs.hwp_geom.declared.VSlot.{VSlot}
use Rattle.hwp_script_lines.specs.hwp_geom.declared.TransDecl.{TransDecl}
use Rattle.hwp_script_lines.specs.hwp_script_words.Forks.{is_cow}
use Rattle.hwp_script_read.proofs.PairsWalk.{pair-first, pair-more, pair-found, no-pair}
use Rattle.hwp_script_read.proofs.forks.freezes.Goals as goal

pub loop-number-init : goal.loop-number-init
loop-number-init c = pair-first _ _ _

pub loop-number-preserved : goal.loop-number-preserved
loop-number-preserved c =
    pair-more (λ (slot : TransDecl × Option VSlot). is_cow c.args.process.0 slot && (slot.0.page.0 == c.args.page.0)) c.args.summary.now.trans c.args.summary.now.twins.items c.as_slice-trans.result.now c.as_slice-twins.result.now c.as_slice-trans.ensures c.as_slice-twins.ensures.value c.loop-number.number _ _ (omega arith) c.loop-number.invariant c.if-freezes_by.ensures

pub returns-then-freezes_by : goal.returns-then-freezes_by
returns-then-freezes_by c =
    pair-found (λ (slot : TransDecl × Option VSlot). is_cow c.args.process.0 slot && (slot.0.page.0 == c.args.page.0)) c.args.summary.now.trans c.args.summary.now.twins.items c.as_slice-trans.result.now c.as_slice-twins.result.now c.as_slice-trans.ensures c.as_slice-twins.ensures.value c.loop-number.number _ _ (omega arith) c.if-freezes_by.ensures

pub returns : goal.returns
returns c = no-pair (λ (slot : TransDecl × Option VSlot). is_cow c.args.process.0 slot && (slot.0.page.0 == c.args.page.0)) c.args.summary.now.trans c.args.summary.now.twins.items c.as_slice-trans.result.now c.as_slice-twins.result.now c.as_slice-trans.ensures c.as_slice-twins.ensures.value c.loop-number.number (omega arith) c.loop-number.invariant
