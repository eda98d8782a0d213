use Rattle.std.proofs.Common.{rules, arith, ◌≡◌, ◌<◌, length, vec_len, ◌∙◌, sym}
use Rattle.std.proofs.lemmas.Iterator.Adapters.{YieldsList-from_vec}
use Rattle.std.proofs.lemmas.Iterator.Consumers.{YieldsList-turn, YieldsList-end, YieldsList-so_far}
use Rattle.std.proofs.lemmas.Bool.{eqb-true, eqb-false}
use Rattle.std.proofs.lemmas.List.{map-id}
use Rattle.std.proofs.lemmas.Result.{IfOk-from_err}
use Rattle.hwp_script_read.proofs.JudgeLaws.{none_yet, so_far_more, refused_at, none_refused, all_lines}
use Rattle.hwp_script_read.proofs.judging.judge_lines.Goals as goal

pub returns-in-Err : goal.returns-in-Err
returns-in-Err c =
    let y = YieldsList-from_vec c.args.lines.items (search rules) (search rules) in
    let t = YieldsList-turn y c.loop-line.yielded _ c.loop-line.yielded_by _ c.next.new.self c.in-Some.field-0 c.in-Some.is c.next.ensures.steps in
    let front = YieldsList-so_far y c.loop-line.yielded _ c.loop-line.yielded_by in
    let have : c.len.result ≡ length c.loop-line.forms.items = let o = c.loop-line.forms.ok in omega (arith, c.len.ensures) in
    let all : c.len-count.result ≡ length c.args.lines.items = let o = c.args.lines.ok in omega (arith, c.len-count.ensures) in
    refused_at c.in-Some.field-0 c.in-Err.why _ c.len.result c.len-count.result c.loop-line.invariant (record { within = t.0; there = t.1; front = sym (map-id _) ∙ front })
    c.as_slice.ensures.value have all c.in-Err.ensures.err

pub loop-line-preserved : goal.loop-line-preserved
loop-line-preserved c =
    let y = YieldsList-from_vec c.args.lines.items (search rules) (search rules) in
    let t = YieldsList-turn y c.loop-line.yielded _ c.loop-line.yielded_by _ c.next.new.self c.in-Some.field-0 c.in-Some.is c.next.ensures.steps in
    let front = YieldsList-so_far y c.loop-line.yielded _ c.loop-line.yielded_by in
    let have : c.len.result ≡ length c.loop-line.forms.items = let o = c.loop-line.forms.ok in omega (arith, c.len.ensures) in
    let all : c.len-count.result ≡ length c.args.lines.items = let o = c.args.lines.ok in omega (arith, c.len-count.ensures) in
    rw c.in_ok-push.ensures.items (so_far_more _ c.in-Some.field-0 c.in-Ok.form _ c.len.result c.len-count.result c.loop-line.invariant (record { within = t.0; there = t.1; front = sym (map-id _) ∙ front })
    c.as_slice.ensures.value have all c.in-Ok.ensures.ok c.in-Ok.ensures.clean c.in-Ok.ensures.ended
    (rw c.as_slice-in-loop-line.ensures.value at c.in_ok-add.ensures))

pub returns : goal.returns
returns c =
    let y = YieldsList-from_vec c.args.lines.items (search rules) (search rules) in
    let e = YieldsList-end y c.loop-line.yielded _ c.loop-line.yielded_by _ c.next.new.self c.in-None.is c.next.ensures.steps in
    let some : 0 < length c.loop-line.forms.items = let o = c.loop-line.forms.ok in let no = eqb-false (vec_len c.loop-line.forms) 0 (sym c.if-is_empty.ensures) in omega (arith, no) in
    let all = all_lines c.loop-line.invariant (sym (map-id _) ∙ e.0) some in
    record { each = all.each; clean = c.loop-line.invariant.clean; ended = all.ended; sums = c.loop-line.invariant.sums }

pub returns-then-is_empty : goal.returns-then-is_empty
returns-then-is_empty c =
    let y = YieldsList-from_vec c.args.lines.items (search rules) (search rules) in
    let e = YieldsList-end y c.loop-line.yielded _ c.loop-line.yielded_by _ c.next.new.self c.in-None.is c.next.ensures.steps in
    let none : length c.loop-line.forms.items ≡ 0 = let o = c.loop-line.forms.ok in let is = eqb-true (vec_len c.loop-line.forms) 0 (sym c.if-is_empty.ensures) in omega (arith, is) in
    none_refused c.loop-line.invariant (sym (map-id _) ∙ e.0) none

pub loop-line-init : goal.loop-line-init
loop-line-init c = none_yet c.requires.empty c.requires.sums

pub returns-in_err-add : goal.returns-in_err-add
returns-in_err-add c = IfOk-from_err _ _ c.from_residual.ensures.0

pub returns-in_err-push : goal.returns-in_err-push
returns-in_err-push c = IfOk-from_err _ _ c.from_residual-in_err-push.ensures.0

pub judge_line-requires : goal.judge_line-requires
judge_line-requires c = rw c.as_slice.ensures.value c.loop-line.invariant.sums

pub add-requires-clause-sums : goal.add-requires-clause-sums
add-requires-clause-sums c = rw c.as_slice-in-loop-line.ensures.value c.loop-line.invariant.sums

pub add-requires-clause-clean : goal.add-requires-clause-clean
add-requires-clause-clean c = rw c.as_slice-in-loop-line.ensures.value (rw c.as_slice.ensures.value at c.in-Ok.ensures.clean)
