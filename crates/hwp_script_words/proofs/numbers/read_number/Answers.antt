use Rattle.std.proofs.Common.{ℕ, ◌≡◌, false, true≢false, decimal, sym, ap, ◌∙◌}
use Rattle.std.specs.Prelude.{IsUtf8, List}
use Rattle.std.proofs.lemmas.Fmt.{parse-decimal, IsAscii-decimal}
use Rattle.std.proofs.lemmas.Bool.Decides.{Decides-eqb}
use Rattle.std.proofs.lemmas.Slice.Eq.{slice_eq-Decides}
use Rattle.std.proofs.lemmas.Str.{IsUtf8-from_ascii}
use Rattle.hwp_script_words.specs.Numbers.{IsNumber}
use Rattle.hwp_script_words.proofs.numbers.read_number.Goals as goal

-- the text of a number is ASCII, and so UTF-8
IsUtf8-number : (word : List ℕ) (n : ℕ) → IsNumber word n → IsUtf8 word
IsUtf8-number word n h = rw h.digits (IsUtf8-from_ascii _ (IsAscii-decimal n h.fits))

pub returns-in_default-clause-none : goal.returns-in_default-clause-none
returns-in_default-clause-none c = λ n h. c.in_default.ensures.cases.0 (IsUtf8-number _ n h)

pub returns-in_default-parse-clause-none : goal.returns-in_default-parse-clause-none
returns-in_default-parse-clause-none c = λ n h.
    absurd (cc (parse-decimal 64 n _ _ h.fits h.fits (c.in-Ok.ensures.cases.0 ∙ h.digits) c.parse.ensures.value.0))

pub returns-else-eq-clause-none : goal.returns-else-eq-clause-none
returns-else-eq-clause-none c = λ n h.
    let read = parse-decimal 64 n _ _ h.fits h.fits (c.in-Ok.ensures.cases.0 ∙ h.digits) c.parse.ensures.value.0 in
    let same : c.in-Ok-parse.number ≡ n = cc (read, c.in-Ok-parse.is) in
    let text : c.format.result.now ≡ c.in-Ok.text.now = c.format.ensures.text ∙ ap decimal same ∙ sym h.digits ∙ sym c.in-Ok.ensures.cases.0 in
    true≢false (sym ((slice_eq-Decides Decides-eqb _ _ false c.if-eq.ensures).1 text))
