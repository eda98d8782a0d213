use Rattle.std.proofs.Common.{◌≡◌, ◌∷◌, [], map, decimal, ap, ◌∙◌, arith}
use Rattle.std.proofs.lemmas.List.{length-map}
use Rattle.hwp_script_words.specs.Numbers.{IsNumberWord}
use Rattle.hwp_script_words.proofs.PairsLaws.{All-now, one-of}
use Rattle.hwp_script_lines.proofs.numbers.one_number.Goals as goal

pub returns-in_default : goal.returns-in_default
returns-in_default c = rw length-map (λ e. omega (arith, e, c.in_default.len_below))

pub returns-in_default-2 : goal.returns-in_default-2
returns-in_default-2 c = rw length-map (λ e. omega (arith, e, c.in_default.len_at_least))

pub returns-in-Some : goal.returns-in-Some
returns-in-Some c = (c.in-Some.ensures.some.fits, one-of c.args.words.now (record { ref_ptr = (0, 0); now = [] }) (omega arith) ∙ ap (λ w. w ∷ []) c.in-Some.ensures.some.digits)

pub returns-in-None : goal.returns-in-None
returns-in-None c = (
  rw length-map (omega arith),
  λ all. let n = All-now IsNumberWord c.args.words.now 0 (record { ref_ptr = (0, 0); now = [] }) (omega arith) all in c.in-None.ensures.none n.0 n.1,
)
