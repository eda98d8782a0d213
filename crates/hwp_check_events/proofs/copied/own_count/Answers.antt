use Rattle.std.proofs.Common.{◌≤◌, ◌+◌, ℕ, drop, length, sym, ap, subst, ◌∙◌, arith}
use Rattle.std.specs.Int.{from_bool}
use Rattle.hwp_law.specs.Lines.{is_same_command}
use Rattle.hwp_law.specs.hwp_page.declared.Entry.{Entry}
use Rattle.hwp_check_events.specs.Copied.{own_whats}
use Rattle.hwp_check_events.proofs.CopyLaws.{bool_few, count-all, count-next}
use Rattle.hwp_check_events.proofs.copied.own_count.Goals as goal

pub loop-entry-preserved : goal.loop-entry-preserved
loop-entry-preserved c = (
  (let few : c.from-own.result ≤ 1 = subst (λ (n : ℕ). n ≤ 1) (sym c.from-own.ensures) (bool_few c.is_same_command.result) in omega (arith, few)),
  ap (λ (n : ℕ). c.loop-entry.own + n + length (own_whats c.args.who (drop (c.loop-entry.entry-index + 1) c.args.entries.now))) (c.from-own.ensures ∙ ap from_bool (c.is_same_command.ensures ∙ ap (λ (e : Entry). is_same_command c.args.who e.who) c.entry-item.is))
      ∙ count-next c.args.who c.args.entries.now c.loop-entry.entry-index c.loop-entry.own _ c.loop-entry-test.true c.loop-entry.invariant.1,
)

pub returns-clause-own : goal.returns-clause-own
returns-clause-own c = count-all c.args.who c.args.entries.now c.loop-entry.entry-index c.loop-entry.own (let past = c.loop-entry-test.false in omega arith) c.loop-entry.invariant.1
