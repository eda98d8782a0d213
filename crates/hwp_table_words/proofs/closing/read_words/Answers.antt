use Rattle.std.proofs.Common.{List, ℕ, [], ◌∷◌, ◌++◌, ap, ◌∙◌, refl, arith}
use Rattle.std.specs.Slots.{slots_items}
use Rattle.hwp_table_words.proofs.Taken.{rest-one}
use Rattle.hwp_table_words.proofs.closing.read_words.Goals as goal

pub loop-next-preserved : goal.loop-next-preserved
loop-next-preserved c = let i = c.loop-next.invariant in let p = c.push_reserved.ensures in
    record {
      start = omega arith;
      near = omega (arith, c.loop-next-test.true);
      closed = refl;
      count = refl;
      len = omega (arith, i.len, p.len);
      room = omega (arith, i.room, p.capacity);
      items = p.items ∙ ap (λ (l : List ℕ). l ++ c.word.result ∷ []) i.items ∙ rest-one (slots_items c.args.closed.now.words) c.loop-next.next c.word.result i.start c.word.ensures;
    }
