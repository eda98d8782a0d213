use Rattle.std.proofs.Common.{rules, ◌≡◌, ◌↔◌, ℕ, ◌+◌, ◌<◌, ◌≤◌, Bool, List, IsTrue, length, sym, ap, ◌∙◌, subst, arith}
use Rattle.hwp_law.specs.Records.{WasPoisoned}
use Rattle.hwp_check_event_line.specs.Windows.{IsEdge}
use Rattle.hwp_check_event_line.proofs.NearLaws.{lows-long}
use Rattle.hwp_check_event_line.proofs.WindowLaws.{may_end-was}
use Rattle.hwp_check_event_line.proofs.windows.was_poisoned_by.Goals as goal

pub may_end-requires-clause-within : goal.may_end-requires-clause-within
may_end-requires-clause-within c =
    let lows : c.as_slice-lows.result.now ≡ c.args.nears.now.lows.items = search rules in
    subst (λ (n : ℕ). c.edge-first.result ≤ n) (ap length (lows ∙ c.requires.lows_are) ∙ lows-long c.args.who.cpu c.args.marks.now) c.edge-first.ensures.within

pub returns : goal.returns
returns c =
    let few : c.args.who.seq < 4294967296 = search rules in
    let small : c.args.who.seq ≤ 4294967295 = omega (arith, few) in
    let lows : c.as_slice-lows.result.now ≡ c.args.nears.now.lows.items = search rules in
    let highs : c.as_slice-highs.result.now ≡ c.args.nears.now.highs.items = search rules in
    let seq : c.from-seq.result ≡ c.args.who.seq = search rules in
    let first : IsEdge c.args.nears.now.lows.items c.args.who.seq c.edge-first.result =
    subst (λ (n : ℕ). IsEdge c.args.nears.now.lows.items n c.edge-first.result) seq (subst (λ (l : List ℕ). IsEdge l c.from-seq.result c.edge-first.result) lows c.edge-first.ensures) in
    let last : IsEdge c.args.nears.now.highs.items (c.args.who.seq + 1) c.edge-last.result =
    subst (λ (n : ℕ). IsEdge c.args.nears.now.highs.items (n + 1) c.edge-last.result) seq (subst (λ (l : List ℕ). IsEdge l (c.from-seq.result + 1) c.edge-last.result) highs c.edge-last.ensures) in
    subst (λ (b : Bool). IsTrue b ↔ WasPoisoned c.args.marks.now c.args.who c.args.poisoned) (sym c.may_end.ensures)
    (may_end-was c.args.who c.args.marks.now c.args.nears.now c.edge-first.result c.edge-last.result c.args.poisoned small c.requires first last)
