-- Words ask for one call alone.
use Rattle.std.proofs.Common.{◌≡◌, ℕ, List, [], length, slice_index_or, refl, sym, ap, ◌∙◌, arith}
use Rattle.std.specs.Prelude.{Bool, true, false}
use Rattle.hwp_top_words.specs.declared.served.Call.{Call}
use Rattle.hwp_top_words.specs.declared.served.Call.TheVariants as calls
use Rattle.hwp_top_words.specs.Calls.{IsCall, IsStep, IsRun}

-- the call of `step`, and of `step tlb`
abbrev pub step-call : Bool → Call
step-call false = calls.Step
step-call true = calls.StepTlb

-- the words ask for no other
pub step-alone : (caches : Bool) (words : List (List ℕ)) (call : Call) → IsStep words caches → IsCall words call → call ≡ step-call caches
step-alone false words calls.Step step asked = refl
step-alone false words calls.StepTlb step asked = absurd (omega (arith, ap (λ (l : List (List ℕ)). length l) (sym step ∙ asked)))
step-alone false words calls.Check step asked = absurd (omega (arith, ap (λ (l : List (List ℕ)). length (slice_index_or l 0 [])) (sym step ∙ asked)))
step-alone false words (calls.Gen seed) step asked = absurd (omega (arith, ap (λ (l : List (List ℕ)). length l) (sym step ∙ asked.0)))
step-alone false words (calls.Sum seed) step asked = absurd (omega (arith, ap (λ (l : List (List ℕ)). length l) (sym step ∙ asked.0)))
step-alone true words calls.StepTlb step asked = refl
step-alone true words calls.Step step asked = absurd (omega (arith, ap (λ (l : List (List ℕ)). length l) (sym step ∙ asked)))
step-alone true words calls.Check step asked = absurd (omega (arith, ap (λ (l : List (List ℕ)). length l) (sym step ∙ asked)))
step-alone true words (calls.Gen seed) step asked = absurd (omega (arith, ap (λ (l : List (List ℕ)). length (slice_index_or l 0 [])) (sym step ∙ asked.0)))
step-alone true words (calls.Sum seed) step asked = absurd (omega (arith, ap (λ (l : List (List ℕ)). length (slice_index_or l 0 [])) (sym step ∙ asked.0)))

pub step-asked : (caches : Bool) (words : List (List ℕ)) → IsStep words caches → IsCall words (step-call caches)
step-asked false words step = step
step-asked true words step = step

-- the words ask for one of both alone
pub one-run : (words : List (List ℕ)) (a b : Bool) → IsRun words a → IsRun words b → a ≡ b
one-run words false false one other = refl
one-run words true true one other = refl
one-run words false true one other = absurd (omega (arith, ap (λ (l : List (List ℕ)). length l) (sym one ∙ other)))
one-run words true false one other = absurd (omega (arith, ap (λ (l : List (List ℕ)). length l) (sym one ∙ other)))
