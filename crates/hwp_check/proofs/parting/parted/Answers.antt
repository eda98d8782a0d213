use Rattle.std.proofs.Common.{inl, rules, sym, ◌∙◌, true≢false}
use Rattle.hwp_check.proofs.PartLaws.{ends-here, one-line}
use Rattle.hwp_check.proofs.parting.parted.Goals as goal

pub returns-then-branch : goal.returns-then-branch
returns-then-branch c =
    inl (ends-here c.args.input.now c.loop-line.rest.now c.in-Some.line.now c.in-Some.behind.now c.loop-line.invariant c.in-Some.ensures (c.in_ok-is_end.ensures.0 (search rules)))

pub loop-line-preserved : goal.loop-line-preserved
loop-line-preserved c =
    one-line c.args.input.now c.loop-line.rest.now c.in-Some.line.now c.in-Some.behind.now c.loop-line.invariant c.in-Some.ensures (λ ends. absurd (true≢false (sym (c.in_ok-is_end.ensures.1 ends) ∙ c.if-branch.false)))
