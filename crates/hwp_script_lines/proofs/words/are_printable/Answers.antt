use Rattle.std.proofs.Common.{arith, rules, subst, take, map, []}
use Rattle.std.specs.Prelude.{All}
use Rattle.std.proofs.lemmas.List.{take_all, length-map}
use Rattle.std.proofs.lemmas.List.Elements.{All-push}
use Rattle.hwp_script_lines.specs.Grammar.{IsPrintable}
use Rattle.hwp_script_words.proofs.PairsLaws.{take-now, All-now}
use Rattle.hwp_script_lines.proofs.words.are_printable.Goals as goal

pub returns-then-not-is_printable : goal.returns-then-not-is_printable
returns-then-not-is_printable c =
    (λ e. absurd (search rules), λ all. c.if-not-is_printable.ensures.1 (All-now (All IsPrintable) c.args.words.now c.loop-word.word-index (record { ref_ptr = (0, 0); now = [] }) (omega arith) all))

pub loop-word-preserved : goal.loop-word-preserved
loop-word-preserved c =
    rw (take-now c.args.words.now c.loop-word.word-index (record { ref_ptr = (0, 0); now = [] }) (omega arith))
    (All-push (All IsPrintable) (take c.loop-word.word-index (map (λ w. w.now) c.args.words.now)) _ c.loop-word.invariant (c.if-not-is_printable.ensures.0 (search rules)))

pub returns : goal.returns
returns c =
    (λ _. subst (All (All IsPrintable)) (take_all c.loop-word.word-index (map (λ w. w.now) c.args.words.now) (rw length-map (omega arith))) c.loop-word.invariant, λ _. search rules)
