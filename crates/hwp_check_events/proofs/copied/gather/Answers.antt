use Rattle.std.proofs.Common.{◌≤◌, ◌+◌, [], ◌++◌, ℕ, cond, false, drop, map, sym, ap, subst, ◌∙◌, arith}
use Rattle.hwp_law.specs.Copies.{checks_by}
use Rattle.hwp_law.specs.Lines.{is_same_command}
use Rattle.hwp_law.specs.hwp_page.declared.Entry.{Entry}
use Rattle.hwp_check_events.specs.Copied.{checks_in, is_counted, own_whats, pair_of, test_of}
use Rattle.hwp_check_events.proofs.CopyLaws.{bool_few, gathered-all, gathered-next}
use Rattle.hwp_check_events.proofs.copied.gather.Goals as goal

pub loop-entry-preserved : goal.loop-entry-preserved
loop-entry-preserved c = (
  (let few : c.from-before.result ≤ 1 = subst (λ (n : ℕ). n ≤ 1) (sym c.from-before.ensures) (bool_few c.in_ok-more.more) in omega (arith, few)),
  ap (λ (n : ℕ). map pair_of c.note.new.checks.items ++ checks_by (test_of c.args.counted) (c.loop-entry.before + n) (own_whats c.args.who (drop (c.loop-entry.entry-index + 1) c.args.entries.now))) c.from-before.ensures
      ∙ gathered-next c.args.who c.args.entries.now (test_of c.args.counted) c.loop-entry.entry-index c.loop-entry.before _ (map pair_of c.loop-entry.checks.items) (map pair_of c.note.new.checks.items) c.in_ok-more.more
      (checks_by (test_of c.args.counted) 0 (own_whats c.args.who c.args.entries.now)) c.loop-entry-test.true c.loop-entry.invariant.1
      (c.in_ok-more.ensures.checks ∙ ap (λ (e : Entry). map pair_of c.loop-entry.checks.items ++ cond (is_same_command c.args.who e.who) (checks_in c.loop-entry.before e.what) []) c.entry-item.is)
      (c.in_ok-more.ensures.counted ∙ ap (λ (e : Entry). cond (is_same_command c.args.who e.who) (is_counted (test_of c.args.counted) e.what) false) c.entry-item.is),
)

pub returns : goal.returns
returns c =
    gathered-all c.args.who c.args.entries.now (test_of c.args.counted) c.loop-entry.entry-index c.loop-entry.before (map pair_of c.loop-entry.checks.items) (checks_by (test_of c.args.counted) 0 (own_whats c.args.who c.args.entries.now))
    (let past = c.loop-entry-test.false in omega arith) c.loop-entry.invariant.1
