use Rattle.std.proofs.Common.{rules, ◌≡◌, ℕ, ◌<◌, List, get_or, ap, ◌∙◌, sym, subst}
use Rattle.std.proofs.lemmas.Bool.{lt-ltb, ltb-true}
use Rattle.hwp_check_evidence.specs.Ends.{never, own_ends}
use Rattle.hwp_check_evidence.proofs.EndLaws.{ended_low, low_ended}
use Rattle.hwp_check_evidence.proofs.ends.had_ended.Goals as goal

pub returns : goal.returns
returns c =
    let few : c.args.later.seq < never = search rules in
    let end : c.end_of.result ≡ get_or (own_ends c.args.script.now.layout c.args.later.cpu c.args.report.now.pages) c.args.process.0 never =
    c.end_of.ensures ∙ ap (λ (l : List ℕ). get_or l c.args.process.0 never) c.requires in (
      λ t. low_ended c.args.script.now c.args.report.now c.args.later c.args.process few
          (subst (λ (n : ℕ). n < c.args.later.seq) end (subst (λ (n : ℕ). c.end_of.result < n) c.from.ensures (ltb-true c.end_of.result c.from.result t))),
      λ h. lt-ltb c.end_of.result c.from.result (subst (λ (n : ℕ). c.end_of.result < n) (sym c.from.ensures)
          (subst (λ (n : ℕ). n < c.args.later.seq) (sym end) (ended_low c.args.script.now c.args.report.now c.args.later c.args.process few h))),
    )
