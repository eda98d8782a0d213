use Rattle.std.proofs.Common.{ℕ, Option, unwrap_or, ap, ◌∙◌, arith}
use Rattle.hwp_check_rules.specs.hwp_law.Private.{word_before}
use Rattle.hwp_check_processes.proofs.WordLaws.{word-all, word_more}
use Rattle.hwp_check_processes.proofs.words.last_before.Goals as goal

pub loop-entry-preserved : goal.loop-entry-preserved
loop-entry-preserved c =
    word_more (word_before c.args.cpu c.args.number c.args.line) c.args.entries.now c.loop-entry.entry-index _ 0 c.loop-entry.last c.word_or-last.result c.loop-entry-test.true
    (c.word_or-last.ensures ∙ ap (λ (o : Option ℕ). unwrap_or o c.loop-entry.last) (c.word_before.ensures ∙ ap (word_before c.args.cpu c.args.number c.args.line) c.entry-item.is)) c.loop-entry.invariant

pub returns : goal.returns
returns c = word-all (word_before c.args.cpu c.args.number c.args.line) c.args.entries.now c.loop-entry.entry-index 0 c.loop-entry.last (let past = c.loop-entry-test.false in omega arith) c.loop-entry.invariant
