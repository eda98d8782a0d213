use Rattle.std.proofs.Common.{◌≡◌, ◌∙◌, sym, ap, arith, rules}
use Rattle.hwp_script_words.specs.hwp_geom.declared.Kind.TheVariants as kinds
use Rattle.hwp_script_words.specs.Kinds.{kind_text}
use Rattle.hwp_script_lines.proofs.Searches.{none-more, none-at}
use Rattle.hwp_script_lines.proofs.Listed.{kind_listed, all_kinds}
use Rattle.hwp_script_lines.proofs.kinds.read_kind.Goals as goal

pub loop-kind-preserved : goal.loop-kind-preserved
loop-kind-preserved c =
    none-more (λ k. c.args.word.now ≡ kind_text k) all_kinds c.loop-kind.kind-index kinds.LoadPte (omega arith) c.loop-kind.invariant (search rules)

pub returns-clause-none : goal.returns-clause-none
returns-clause-none c = λ k e.
    let listed = kind_listed k in
    none-at (λ k. c.args.word.now ≡ kind_text k) all_kinds c.loop-kind.kind-index listed.0 kinds.LoadPte (omega arith) c.loop-kind.invariant (omega arith)
    (e ∙ ap kind_text (sym listed.2))
