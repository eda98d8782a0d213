use Rattle.std.proofs.Common.{ℕ, ◌≡◌, ◌<◌, ◌^◌, ◌↔◌, List, Option, Some, None, decimal, refl, sym, ap, ◌∙◌, arith}
use Rattle.std.specs.Prelude.{IfSome, IsSome}
use Rattle.std.proofs.lemmas.Fmt.{decimal_injective}
use Rattle.hwp_script_words.specs.hwp_geom.Limits.{line_limit}
use Rattle.hwp_report_words.specs.Reads.{Below, IsReadAs}
use Rattle.hwp_report_words.proofs.numbers.read_line_number.Goals as goal

line_number : (word : List ℕ) (n : ℕ) (read : Option ℕ) → n < 2 ^ 8 → word ≡ decimal n → (IsSome read ↔ (n < line_limit)) → IfSome read (λ line. line ≡ n)
    → IsReadAs (Below line_limit) decimal word read
line_number word n None small e range value = λ x low e2.
    let same = decimal_injective n x (omega (arith, small)) (omega (arith, low)) (sym e ∙ e2) in
    let fits : n < line_limit = omega (arith, same, low) in absurd (cc (range.1 fits))
line_number word n (Some line) small e range value =
    let fits : n < line_limit = range.0 refl in
    (rw value fits, e ∙ ap decimal (sym value))

pub returns : goal.returns
returns c = line_number c.args.word.now c.in-Some.number _ c.in-Some.ensures.0 c.in-Some.ensures.1 c.new.ensures.range c.new.ensures.value
