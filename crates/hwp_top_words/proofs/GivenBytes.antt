-- A source that is at its end gave all that it had; where that is the text of a script, it isn't refused.
use Rattle.std.proofs.Common.{◌≡◌, ℕ, ◌+◌, ◌≤◌, List, ◌++◌, Option, Some, None, length, append-nil, refl, sym, ap, ◌∙◌, subst, arith}
use Rattle.std.specs.Io.KnownBytes.{Consumes, IsAtEnd}
use Rattle.std.proofs.lemmas.List.{length-append}
use Rattle.hwp_script.specs.hwp_script_read.Reads.{IsRefused, IsRefusedFor, Reads}
use Rattle.hwp_script.specs.hwp_script_read.Reasons.{number}
use Rattle.hwp_script.specs.hwp_script_read.declared.Refused.{Refused}
use Rattle.hwp_script.specs.hwp_script_read.declared.Script.{Script}
use Rattle.hwp_script.specs.hwp_script_read.declared.Why.{Why}
use Rattle.hwp_script.specs.hwp_script_read.declared.Why.TheVariants as whys
use Rattle.hwp_script.proofs.of_hwp_script_read.ReadLaws.{apart}
use Rattle.hwp_top_words.specs.Inputs.{Refuses}

-- a source that is at its end gave all that it had
pub all-given : (had : List ℕ) (left : Option (List ℕ)) (bytes : List ℕ) → Consumes (Some had) left bytes → IsAtEnd left → had ≡ bytes
all-given had None bytes consumed end = absurd consumed
all-given had (Some rest) bytes consumed end = consumed ∙ ap (λ (l : List ℕ). bytes ++ l) end ∙ append-nil bytes

-- and never gives more
no-more : (had : List ℕ) (left : Option (List ℕ)) (bytes : List ℕ) → Consumes (Some had) left bytes → length bytes ≤ length had
no-more had None bytes consumed = absurd consumed
no-more had (Some rest) bytes consumed =
    let whole : length had ≡ length (bytes ++ rest) = ap (λ (l : List ℕ). length l) consumed in
    let parts : length (bytes ++ rest) ≡ length bytes + length rest = length-append bytes rest in omega arith

-- the text of a script is not refused
pub unrefused : (had : List ℕ) (script : Script) (left : Option (List ℕ)) (r : Refused) → Reads had script → Refuses (Some had) left r → ⊥
unrefused had script left r reads refuses = which r.why refl refuses.refusal.reason
  where
    which : (w : Why) → r.why ≡ w → IsRefusedFor refuses.bytes r w → ⊥
    which whys.TooLong is reason = omega (arith, reason.1, reads.short, no-more had left refuses.bytes refuses.consumed)
    which w is reason =
        let same : had ≡ refuses.bytes = all-given had left refuses.bytes refuses.consumed (refuses.whole (λ (long : r.why ≡ whys.TooLong). omega (arith, ap number (sym is ∙ long)))) in
        apart had r script (subst (λ (l : List ℕ). IsRefused l r) (sym same) refuses.refusal) reads
