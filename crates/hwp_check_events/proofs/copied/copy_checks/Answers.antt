use Rattle.std.proofs.Common.{◌++◌, ℕ, List, length, map, ap, ◌∙◌, arith}
use Rattle.hwp_law.specs.Copies.{checks_by, is_load, is_store, lines_at}
use Rattle.hwp_check_events.specs.declared.copied.CopyCheck.{CopyCheck}
use Rattle.hwp_check_events.specs.Copied.{own_whats, pair_of}
use Rattle.hwp_check_events.proofs.CopyLaws.{copy-is, lines-more}
use Rattle.hwp_check_events.proofs.copied.copy_checks.Goals as goal

pub loop-n-preserved : goal.loop-n-preserved
loop-n-preserved c =
    lines-more (λ (n : ℕ). lines_at n (map pair_of c.in_ok-loads.loads.items)) (λ (n : ℕ). lines_at n (map pair_of c.in_ok-stores.stores.items)) c.loop-n.n c.loop-n.lines.items c.add_at.new.out.items c.add_at-in-loop-n.new.out.items c.loop-n.invariant
    (c.in_ok-add_at.ensures ∙ ap (λ (l : List CopyCheck). c.loop-n.lines.items ++ lines_at c.loop-n.n (map pair_of l)) c.as_slice.ensures.value)
    (c.in_ok-add_at-2.ensures ∙ ap (λ (l : List CopyCheck). c.add_at.new.out.items ++ lines_at c.loop-n.n (map pair_of l)) c.as_slice-in-loop-n.ensures.value)

pub returns : goal.returns
returns c =
    c.from_vec.ensures
    ∙ copy-is c.args.layout.now c.args.report.now c.args.who c.args.from c.args.to (map pair_of c.in_ok-loads.loads.items) (map pair_of c.in_ok-stores.stores.items) c.own_count.result c.own_count-2.result c.loop-n.n c.loop-n.lines.items
    (c.in_ok-loads.ensures ∙ ap (λ e. checks_by is_load 0 (own_whats c.args.who e)) c.entries_through-copied.ensures) (c.in_ok-stores.ensures ∙ ap (λ e. checks_by is_store 0 (own_whats c.args.who e)) c.entries_through-own.ensures)
    (c.own_count.ensures.own ∙ ap (λ e. length (own_whats c.args.who e)) c.entries_through-copied.ensures) (c.own_count-2.ensures.own ∙ ap (λ e. length (own_whats c.args.who e)) c.entries_through-own.ensures)
    (let past = c.loop-n-test.false in omega arith) c.loop-n.invariant
