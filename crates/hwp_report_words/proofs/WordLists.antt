-- Words that are so many, one by one, and words that begin a line.
use Rattle.std.proofs.Common.{◌≡◌, ℕ, ◌<◌, ◌≤◌, ◌-◌, ◌⊎◌, inl, inr, List, [], ◌∷◌, Bor, length, get_or, take, drop, map, codes, decimal, refl, sym, ap, ◌∙◌, arith}
use Rattle.std.proofs.lemmas.List.{get_or-map, length-map}
use Rattle.hwp_report_text.specs.declared.Answer.{Answer}
use Rattle.hwp_report_text.specs.declared.Answer.TheVariants as answers
use Rattle.hwp_report_text.specs.declared.CpuLine.{CpuLine}
use Rattle.hwp_report_text.specs.declared.CpuLine.TheVariants as lines
use Rattle.hwp_report_text.specs.ReportText.{answer_words, cpu_line_words}
use Rattle.hwp_report_words.proofs.Rests.{first_of, rest_of}
use Rattle.hwp_report_words.specs.Fits.{AnswerFits, CpuLineFits}

pub one-of : (words : List (Bor (List ℕ))) (d : Bor (List ℕ)) → length words ≡ 1 → map (λ w. w.now) words ≡ (get_or words 0 d).now ∷ []
one-of [] d l = absurd (omega (arith, l))
one-of (a ∷ []) d l = refl
one-of (a ∷ b ∷ us) d l = absurd (omega (arith, l))

pub two-of : (words : List (Bor (List ℕ))) (d : Bor (List ℕ)) → length words ≡ 2 → map (λ w. w.now) words ≡ (get_or words 0 d).now ∷ (get_or words 1 d).now ∷ []
two-of [] d l = absurd (omega (arith, l))
two-of (a ∷ us) d l = ap (λ ws. a.now ∷ ws) (one-of us d (omega (arith, l)))

pub three-of : (words : List (Bor (List ℕ))) (d : Bor (List ℕ)) → length words ≡ 3 → map (λ w. w.now) words ≡ (get_or words 0 d).now ∷ (get_or words 1 d).now ∷ (get_or words 2 d).now ∷ []
three-of [] d l = absurd (omega (arith, l))
three-of (a ∷ us) d l = ap (λ ws. a.now ∷ ws) (two-of us d (omega (arith, l)))

pub four-of : (words : List (Bor (List ℕ))) (d : Bor (List ℕ)) → length words ≡ 4
    → map (λ w. w.now) words ≡ (get_or words 0 d).now ∷ (get_or words 1 d).now ∷ (get_or words 2 d).now ∷ (get_or words 3 d).now ∷ []
four-of [] d l = absurd (omega (arith, l))
four-of (a ∷ us) d l = ap (λ ws. a.now ∷ ws) (three-of us d (omega (arith, l)))

pub two-up : (words : List (Bor (List ℕ))) (d : Bor (List ℕ)) → 2 ≤ length words
    → map (λ w. w.now) words ≡ (get_or words 0 d).now ∷ (get_or words 1 d).now ∷ map (λ w. w.now) (take (length words - 2) (drop 2 words))
two-up [] d l = absurd (omega arith)
two-up (a ∷ []) d l = absurd (omega arith)
two-up (a ∷ b ∷ us) d l = ap (λ ws. a.now ∷ b.now ∷ ws) (rest_of (λ w. w.now) (a ∷ b ∷ us) 2)

pub three-up : (words : List (Bor (List ℕ))) (d : Bor (List ℕ)) → 3 ≤ length words
    → map (λ w. w.now) words ≡ (get_or words 0 d).now ∷ (get_or words 1 d).now ∷ (get_or words 2 d).now ∷ map (λ w. w.now) (take (length words - 3) (drop 3 words))
three-up [] d l = absurd (omega arith)
three-up (a ∷ []) d l = absurd (omega arith)
three-up (a ∷ b ∷ []) d l = absurd (omega arith)
three-up (a ∷ b ∷ e ∷ us) d l = ap (λ ws. a.now ∷ b.now ∷ e.now ∷ ws) (rest_of (λ w. w.now) (a ∷ b ∷ e ∷ us) 3)

pub now-at : (words : List (Bor (List ℕ))) (i : ℕ) (d : Bor (List ℕ)) → i < length words → get_or (map (λ w. w.now) words) i [] ≡ (get_or words i d).now
now-at words i d l = get_or-map (λ w. w.now) words i d [] l

-- words whose first is this one, and the others as a pattern takes them
pub led : (words : List (Bor (List ℕ))) (d : Bor (List ℕ)) (first : List ℕ) → 0 < length words → (get_or words 0 d).now ≡ first
    → map (λ w. w.now) words ≡ first ∷ map (λ w. w.now) (take (length words - 1) (drop 1 words))
led words d first l e = first_of (λ w. w.now) words d l ∙ ap (λ w. w ∷ map (λ w. w.now) (take (length words - 1) (drop 1 words))) e

-- an answer has one word to four, and a line two or more
answer-long : (answer : Answer) → (1 ≤ length (answer_words answer)) × (length (answer_words answer) ≤ 4)
answer-long answers.NoFrame = (omega arith, omega arith)
answer-long answer = (omega arith, omega arith)

pub no-answer-so-long : (words : List (Bor (List ℕ))) → (length words < 1) ⊎ (5 ≤ length words) → (answer : Answer) → AnswerFits answer → map (λ w. w.now) words ≡ answer_words answer → ⊥
no-answer-so-long words (inl few) answer fits e = let long = answer-long answer in let many = sym (length-map words (λ w. w.now)) ∙ ap length e in omega (arith, few, long.0, many)
no-answer-so-long words (inr many) answer fits e = let long = answer-long answer in let same = sym (length-map words (λ w. w.now)) ∙ ap length e in omega (arith, many, long.1, same)

line-long : (line : CpuLine) → 2 ≤ length (cpu_line_words line)
line-long (lines.Event event) = omega arith
line-long (lines.Offlined offlined) = omega arith
line-long (lines.Guest guest) = omega arith
line-long (lines.Answer seq answer) = let long = answer-long answer in omega (arith, long.0)

pub no-line-so-short : (seq : ℕ) (words : List (Bor (List ℕ))) → length words < 1 → (line : CpuLine) → CpuLineFits line → decimal seq ∷ map (λ w. w.now) words ≡ cpu_line_words line → ⊥
no-line-so-short seq words few line fits e =
    let long = line-long line in let many : length (map (λ w. w.now) words) ≡ length words = length-map words (λ w. w.now) in let same = ap length e in omega (arith, few, long, many, same)
