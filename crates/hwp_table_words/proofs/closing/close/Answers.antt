use Rattle.std.proofs.Common.{◌≡◌, ℕ, ◌+◌, ◌-◌, ◌*◌, List, ap, ◌∙◌, sym, subst, take, arith}
use Rattle.std.specs.Slots.{slots_items}
use Rattle.hwp_core_rule.specs.hwp_geom.declared.Layout.{Layout}
use Rattle.hwp_core_rule.specs.Words.{size}
use Rattle.hwp_table_words.specs.Ends.{HasAll, IsEnd}
use Rattle.hwp_table_words.specs.Known.{Known}
use Rattle.hwp_table_words.specs.Order.{entries_in, in_rule}
use Rattle.hwp_table_words.proofs.Closed.{ended}
use Rattle.hwp_table_words.proofs.closing.close.Goals as goal

-- so many words are the machine's
words-left : (all first entries places : ℕ) → all ≡ first + entries → places ≡ entries → all - places ≡ first
words-left all first entries places sum same = omega (arith, sum, same)

pub invariant_of-ended : goal.invariant_of-ended
invariant_of-ended g c =
    let words : List ℕ = slots_items c.close_with-closed.result.words in
    let key-is : c.args.table.shared.key ≡ c.args.layout.now = c.requires.table.1 in
    let places : c.ways.result * c.from.result ≡ g.W.Ways.ways * c.args.layout.now.cpus = λ i. c.ways.ensures.value i * c.from.ensures i in
    let count : c.word_count.result - c.ways.result * c.from.result ≡ size c.args.table.shared.key =
    words-left c.word_count.result (size c.args.layout.now) (g.W.Ways.ways * c.args.layout.now.cpus) (c.ways.result * c.from.result) (c.word_count.ensures ∙ c.requires.table.0.words) places ∙ ap size (sym key-is) in
    let at-end : IsEnd g.W.Ways.ways c.args.table.shared.key c.args.pass.me.0.known (in_rule (take (size c.args.table.shared.key) words)) (slots_items c.close_with-closed.result.slots) (entries_in c.args.table.shared.key words) =
    ended g.W.Ways.ways c.args.table.shared.key c.args.pass.id c.args.pass.me.0 words (slots_items c.close_with-closed.result.slots) c.close_with-closed.ensures.values.2 (subst (λ (l : Layout). HasAll l c.args.pass.me.0.known) (sym key-is) c.requires.all) in
    subst (λ (k : Layout). IsEnd g.W.Ways.ways k c.of-of_pass.result.value.me.0.known c.read_words.new.words.items c.of.result.value.items (entries_in k (slots_items c.of-of_closed.result.value.words))) (sym (ap (λ t. t.shared.key) c.of-of_table.ensures))
    (subst (λ (v : Known). IsEnd g.W.Ways.ways c.args.table.shared.key v c.read_words.new.words.items c.of.result.value.items (entries_in c.args.table.shared.key (slots_items c.of-of_closed.result.value.words))) (sym (ap (λ p. p.me.0.known) c.of-of_pass.ensures))
    (subst (λ (ws : List ℕ). IsEnd g.W.Ways.ways c.args.table.shared.key c.args.pass.me.0.known ws c.of.result.value.items (entries_in c.args.table.shared.key (slots_items c.of-of_closed.result.value.words))) (sym (c.read_words.ensures ∙ ap (λ (n : ℕ). in_rule (take n words)) count))
    (subst (λ (ws : List ℕ). IsEnd g.W.Ways.ways c.args.table.shared.key c.args.pass.me.0.known (in_rule (take (size c.args.table.shared.key) words)) c.of.result.value.items (entries_in c.args.table.shared.key ws)) (sym (ap (λ (e : _). slots_items e.words) c.of-of_closed.ensures))
    (subst (λ (xs : _). IsEnd g.W.Ways.ways c.args.table.shared.key c.args.pass.me.0.known (in_rule (take (size c.args.table.shared.key) words)) xs (entries_in c.args.table.shared.key words)) (sym (ap (λ v. v.items) c.of.ensures ∙ c.take_slots.ensures.taken)) at-end))))
