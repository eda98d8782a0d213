use Rattle.std.proofs.Common.{◌≢◌, ℕ, ◌+◌, ◌*◌, Bool, true, cond, refl, sym, ap, ◌∙◌, subst, arith}
use Rattle.std.proofs.lemmas.Bool.{both_ways, ne_eqb}
use Rattle.hwp_core.specs.hwp_geom.Bits.{IsLowestBit}
use Rattle.hwp_evict.proofs.take.Take.at_free.Goals as goal
use Rattle.hwp_evict.specs.declared.take.TakeAt.TheVariants as at
use Rattle.hwp_evict.specs.Takes.{after_word, lowest_free}
use Rattle.hwp_core.proofs.FreeWords.{lowest-is}

pub returns-in-Some : goal.returns-in-Some
returns-in-Some c =
    let some : c.args.word ≢ 0 = λ none. both_ways true (c.in-Some.ensures.none.1 (c.unpack.ensures ∙ none)) refl in
    ap (λ (k : ℕ). at.TakeBit (record { 0 = c.args.number * 64 + k })) (lowest-is c.args.word c.in-Some.bit (omega (arith, some)) (omega arith) (subst (λ (w : ℕ). IsLowestBit w 0 c.in-Some.bit) c.unpack.ensures c.in-Some.ensures.lowest))
    ∙ sym (ap (λ (b : Bool). cond b (at.LoadFree (after_word c.args.layout.now c.args.number)) (at.TakeBit (lowest_free c.args.number c.args.word))) (ne_eqb c.args.word 0 some))
