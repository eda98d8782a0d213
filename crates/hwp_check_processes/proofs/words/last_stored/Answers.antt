use Rattle.std.proofs.Common.{ℕ, Option, unwrap_or, ap, ◌∙◌, arith}
use Rattle.hwp_check_rules.specs.hwp_law.Private.{word_stored}
use Rattle.hwp_check_rules.specs.hwp_report_text.declared.Answer.{Answer}
use Rattle.hwp_check_rules.specs.hwp_script_words.declared.Command.{Command}
use Rattle.hwp_check_processes.proofs.WordLaws.{word-all, word_more}
use Rattle.hwp_check_processes.proofs.words.last_stored.Goals as goal

pub loop-pair-preserved : goal.loop-pair-preserved
loop-pair-preserved c =
    word_more (word_stored c.args.spot.now.slot c.args.spot.now.line) c.args.pairs.now c.loop-pair.pair-index _ c.args.first c.loop-pair.last c.word_or-last.result c.loop-pair-test.true
    (c.word_or-last.ensures ∙ ap (λ (o : Option ℕ). unwrap_or o c.loop-pair.last) (c.word_stored.ensures ∙ ap (λ (p : Command × Answer). word_stored c.args.spot.now.slot c.args.spot.now.line (p.0, p.1)) c.pair-item.is)) c.loop-pair.invariant

pub returns : goal.returns
returns c =
    word-all (word_stored c.args.spot.now.slot c.args.spot.now.line) c.args.pairs.now c.loop-pair.pair-index c.args.first c.loop-pair.last (let past = c.loop-pair-test.false in omega arith) c.loop-pair.invariant
