use Rattle.std.proofs.Common.{◌≡◌, ◌-◌, ◌*◌, length, drop, sym, ap, ◌∙◌, arith}
use Rattle.std.proofs.lemmas.List.{take_all, take_rest, length-drop}
use Rattle.hwp_core_rule.specs.Opening.{free_bits}
use Rattle.hwp_plain.proofs.words.free_word.Goals as goal

pub returns-then-rest-lt64 : goal.returns-then-rest-lt64
returns-then-rest-lt64 c =
    let rest : c.bits_of.result ≡ free_bits (drop (c.args.number * 64) c.args.kernel.now) = c.bits_of.ensures ∙ ap free_bits (take_rest c.args.kernel.now (c.args.number * 64)) in
    let test = c.if-rest-lt64.true in
    let few : length (drop (c.args.number * 64) c.args.kernel.now) ≡ length c.args.kernel.now - c.args.number * 64 = length-drop (c.args.number * 64) c.args.kernel.now in
    rest ∙ ap free_bits (sym (take_all 64 (drop (c.args.number * 64) c.args.kernel.now) (omega arith)))
