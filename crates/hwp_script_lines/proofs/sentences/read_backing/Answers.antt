use Rattle.std.proofs.Common.{[], true≢false, refl, sym, arith}
use Rattle.hwp_script_lines.proofs.PageLaws.{no-page, anon-page, no-anon-number, file-page, no-file-numbers}
use Rattle.hwp_script_lines.proofs.sentences.read_backing.Goals as goal

pub returns-then-not-is_text : goal.returns-then-not-is_text
returns-then-not-is_text c =
    no-page c.args.words.now (record { ref_ptr = (0, 0); now = [] }) (λ many kind. true≢false (sym (c.if-not-is_text.ensures.1 kind))) (λ many. absurd (omega (arith, many, c.in-len2.len_below)))

pub returns-in-Some : goal.returns-in-Some
returns-in-Some c = anon-page c.args.words.now (record { ref_ptr = (0, 0); now = [] }) c.in-Some.page (omega arith) (c.if-not-is_text.ensures.0 refl) c.in-Some.ensures.some

pub returns-in-None : goal.returns-in-None
returns-in-None c = no-anon-number c.args.words.now (record { ref_ptr = (0, 0); now = [] }) (omega arith) (c.if-not-is_text.ensures.0 refl) c.in-None.ensures.none

pub returns-in-Some-three_of : goal.returns-in-Some-three_of
returns-in-Some-three_of c =
    file-page c.args.words.now (record { ref_ptr = (0, 0); now = [] }) c.in-Some-three_of.page c.in-Some-three_of.file c.in-Some-three_of.fill (omega arith) (c.if-not-is_text-2.ensures.0 refl) (c.if-not-is_text-3.ensures.0 refl)
    c.in-Some-three_of.ensures.0 c.in-Some-three_of.ensures.1 c.in-Some-three_of.ensures.2

pub returns-in-None-three_of : goal.returns-in-None-three_of
returns-in-None-three_of c =
    no-file-numbers c.args.words.now (record { ref_ptr = (0, 0); now = [] }) (omega arith) (c.if-not-is_text-2.ensures.0 refl) (c.if-not-is_text-3.ensures.0 refl) c.in-None-three_of.ensures

pub returns-in_default : goal.returns-in_default
returns-in_default c = no-page c.args.words.now (record { ref_ptr = (0, 0); now = [] }) (λ many. absurd (omega (arith, many))) (λ many. absurd (omega (arith, many)))

pub returns-in_default-2 : goal.returns-in_default-2
returns-in_default-2 c = no-page c.args.words.now (record { ref_ptr = (0, 0); now = [] }) (λ many. absurd (omega (arith, many))) (λ many. absurd (omega (arith, many)))

pub returns-in_default-3 : goal.returns-in_default-3
returns-in_default-3 c = no-page c.args.words.now (record { ref_ptr = (0, 0); now = [] }) (λ many. absurd (omega (arith, many))) (λ many. absurd (omega (arith, many)))
