use Rattle.std.proofs.Common.{◌+◌, ◌-◌, ◌%◌, ◌^◌, ap, ◌∙◌}
use Rattle.std.specs.Prelude.{bit_and, bit_or, bit_xor}
use Rattle.hwp_core_rule.specs.declared.Step.{Step}
use Rattle.hwp_core_rule.specs.Steps.{word_after, exchanged}
use Rattle.hwp_table_words.specs.Operations.{applied}
use Rattle.hwp_table_words.specs.declared.operation.Operation.{Operation}
use Rattle.hwp_table_words.proofs.OperationAsks.{allowed-as, in-table}
use Rattle.hwp_table_words.proofs.steps.step_as.Goals as goal

pub load-requires : goal.load-requires
load-requires g c = (c.requires.can.same, in-table c.requires.can, allowed-as g.W.Ways.ways g.N.Named.call c.args.sheet.now.key _ _ c.args.seat.now.me c.args.word _ _ (λ n. n) c.requires.can (λ n. ap (λ (s : Step). word_after s n) c.requires.named.1 ∙ (c.operation_of.ensures n ∙ ap (λ (o : Operation). applied o n) c.in-Load.is)))

pub swap-requires : goal.swap-requires
swap-requires g c = (c.requires.can.same, in-table c.requires.can, allowed-as g.W.Ways.ways g.N.Named.call c.args.sheet.now.key _ _ c.args.seat.now.me c.args.word _ _ (λ n. c.in-Swap.new) c.requires.can (λ n. ap (λ (s : Step). word_after s n) c.requires.named.1 ∙ (c.operation_of.ensures n ∙ ap (λ (o : Operation). applied o n) c.in-Swap.is)))

pub fetch_add-requires : goal.fetch_add-requires
fetch_add-requires g c = (c.requires.can.same, in-table c.requires.can, allowed-as g.W.Ways.ways g.N.Named.call c.args.sheet.now.key _ _ c.args.seat.now.me c.args.word _ _ (λ n. (n + c.in-Add.k) % 2 ^ 64) c.requires.can (λ n. ap (λ (s : Step). word_after s n) c.requires.named.1 ∙ (c.operation_of.ensures n ∙ ap (λ (o : Operation). applied o n) c.in-Add.is)))

pub fetch_sub-requires : goal.fetch_sub-requires
fetch_sub-requires g c = (c.requires.can.same, in-table c.requires.can, allowed-as g.W.Ways.ways g.N.Named.call c.args.sheet.now.key _ _ c.args.seat.now.me c.args.word _ _ (λ n. (n + (2 ^ 64 - c.in-Subtract.k)) % 2 ^ 64) c.requires.can (λ n. ap (λ (s : Step). word_after s n) c.requires.named.1 ∙ (c.operation_of.ensures n ∙ ap (λ (o : Operation). applied o n) c.in-Subtract.is)))

pub fetch_and-requires : goal.fetch_and-requires
fetch_and-requires g c = (c.requires.can.same, in-table c.requires.can, allowed-as g.W.Ways.ways g.N.Named.call c.args.sheet.now.key _ _ c.args.seat.now.me c.args.word _ _ (λ n. bit_and n c.in-And.k) c.requires.can (λ n. ap (λ (s : Step). word_after s n) c.requires.named.1 ∙ (c.operation_of.ensures n ∙ ap (λ (o : Operation). applied o n) c.in-And.is)))

pub fetch_or-requires : goal.fetch_or-requires
fetch_or-requires g c = (c.requires.can.same, in-table c.requires.can, allowed-as g.W.Ways.ways g.N.Named.call c.args.sheet.now.key _ _ c.args.seat.now.me c.args.word _ _ (λ n. bit_or n c.in-Or.k) c.requires.can (λ n. ap (λ (s : Step). word_after s n) c.requires.named.1 ∙ (c.operation_of.ensures n ∙ ap (λ (o : Operation). applied o n) c.in-Or.is)))

pub fetch_xor-requires : goal.fetch_xor-requires
fetch_xor-requires g c = (c.requires.can.same, in-table c.requires.can, allowed-as g.W.Ways.ways g.N.Named.call c.args.sheet.now.key _ _ c.args.seat.now.me c.args.word _ _ (λ n. bit_xor n c.in-Xor.k) c.requires.can (λ n. ap (λ (s : Step). word_after s n) c.requires.named.1 ∙ (c.operation_of.ensures n ∙ ap (λ (o : Operation). applied o n) c.in-Xor.is)))

pub compare_exchange-requires : goal.compare_exchange-requires
compare_exchange-requires g c = (c.requires.can.same, in-table c.requires.can, allowed-as g.W.Ways.ways g.N.Named.call c.args.sheet.now.key _ _ c.args.seat.now.me c.args.word _ _ (λ n. exchanged c.in-Exchange.seen c.in-Exchange.new n) c.requires.can (λ n. ap (λ (s : Step). word_after s n) c.requires.named.1 ∙ (c.operation_of.ensures n ∙ ap (λ (o : Operation). applied o n) c.in-Exchange.is)))
