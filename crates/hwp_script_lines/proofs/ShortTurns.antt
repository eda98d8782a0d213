-- Words of a schedule that begin with a digit.
use Rattle.std.proofs.Common.{ℕ, ◌≡◌, ◌<◌, ◌≤◌, ◌+◌, ◌-◌, ◌++◌, drop, get_or, length, take, sym, List, [], ◌∷◌, zero, suc, codes, decimal, refl, ap, ◌∙◌, arith}
use Rattle.std.specs.Fmt.{digits}
use Rattle.std.proofs.lemmas.List.{take_all}
use Rattle.hwp_script_words.specs.hwp_geom.declared.Kind.{Kind}
use Rattle.hwp_script_words.specs.hwp_geom.declared.Kind.TheVariants as kinds
use Rattle.hwp_script_words.specs.Kinds.{kind_text}
use Rattle.hwp_script_lines.specs.Grammar.{IsTurn, behind_number, pieces_of, turn_pieces}
use Rattle.hwp_script_words.specs.declared.Until.{Until}
use Rattle.hwp_script_words.specs.declared.Until.TheVariants as untils

-- the name of a kind of step has no `@`
kind-whole : (k : Kind) → turn_pieces (kind_text k) ≡ kind_text k ∷ []
kind-whole kinds.LoadPte = refl
kind-whole kinds.LoadCache = refl
kind-whole kinds.LoadFrame = refl
kind-whole kinds.LoadAvail = refl
kind-whole kinds.LoadFree = refl
kind-whole kinds.LoadBad = refl
kind-whole kinds.LoadProc = refl
kind-whole kinds.LoadPolicy = refl
kind-whole kinds.LoadStop = refl
kind-whole kinds.LoadCount = refl
kind-whole kinds.Reserve = refl
kind-whole kinds.TakeBit = refl
kind-whole kinds.GiveBit = refl
kind-whole kinds.Unreserve = refl
kind-whole kinds.Adopt = refl
kind-whole kinds.GetRef = refl
kind-whole kinds.PutRef = refl
kind-whole kinds.LockFrame = refl
kind-whole kinds.UnlockFrame = refl
kind-whole kinds.Retire = refl
kind-whole kinds.Revive = refl
kind-whole kinds.SetOwner = refl
kind-whole kinds.LockPage = refl
kind-whole kinds.UnlockPage = refl
kind-whole kinds.SetPte = refl
kind-whole kinds.SetCache = refl
kind-whole kinds.Poison = refl
kind-whole kinds.CountPoison = refl
kind-whole kinds.Uncount = refl
kind-whole kinds.Spoil = refl
kind-whole kinds.Stop = refl
kind-whole kinds.GiveUp = refl
kind-whole kinds.Kill = refl
kind-whole kinds.SetPolicy = refl
kind-whole kinds.Lose = refl
kind-whole kinds.ReportLost = refl

-- what a digit, and then nothing, a dot or an `@`, is cut into
record IsCut (d : ℕ) : Type 0 where
  one : turn_pieces ((48 + d) ∷ []) ≡ decimal d ∷ []
  dot : turn_pieces ((48 + d) ∷ codes ".") ≡ (decimal d ++ codes ".") ∷ []
  more : (rest : List ℕ) → turn_pieces ((48 + d) ∷ 64 ∷ rest) ≡ decimal d ∷ turn_pieces rest

cut : (d : ℕ) → d < 10 → IsCut d
unfolding digits
cut zero l = record { one = refl; dot = refl; more = λ rest. refl }
cut (suc zero) l = record { one = refl; dot = refl; more = λ rest. refl }
cut (suc (suc zero)) l = record { one = refl; dot = refl; more = λ rest. refl }
cut (suc (suc (suc zero))) l = record { one = refl; dot = refl; more = λ rest. refl }
cut (suc (suc (suc (suc zero)))) l = record { one = refl; dot = refl; more = λ rest. refl }
cut (suc (suc (suc (suc (suc zero))))) l = record { one = refl; dot = refl; more = λ rest. refl }
cut (suc (suc (suc (suc (suc (suc zero)))))) l = record { one = refl; dot = refl; more = λ rest. refl }
cut (suc (suc (suc (suc (suc (suc (suc zero))))))) l = record { one = refl; dot = refl; more = λ rest. refl }
cut (suc (suc (suc (suc (suc (suc (suc (suc zero)))))))) l = record { one = refl; dot = refl; more = λ rest. refl }
cut (suc (suc (suc (suc (suc (suc (suc (suc (suc zero))))))))) l = record { one = refl; dot = refl; more = λ rest. refl }
cut (suc (suc (suc (suc (suc (suc (suc (suc (suc (suc n)))))))))) l = absurd (omega (arith, l))

cut-at : (d : ℕ) → d < 10 → (u : Until) → turn_pieces ((48 + d) ∷ behind_number u) ≡ pieces_of d u
cut-at d l untils.One = (cut d l).one
cut-at d l untils.Command = (cut d l).dot
cut-at d l (untils.After k) = (cut d l).more (kind_text k) ∙ ap (λ (ps : List (List ℕ)). decimal d ∷ ps) (kind-whole k)

-- a digit below the limit, and what stands behind the number of a word, are the word
short-turn : (word rest : List ℕ) (digit d : ℕ) (u : Until) → word ≡ digit ∷ rest → (d < 10) × (digit ≡ 48 + d) → rest ≡ behind_number u
    → IsTurn word (record { cpu = record { 0 = d }; until = u })
short-turn word rest digit d u is low behind = record {
  fits = let few : d < 10 = low.0 in omega (arith, few);
  same = ap turn_pieces (is ∙ ap (λ (b : ℕ). b ∷ rest) low.1 ∙ ap (λ (r : List ℕ). (48 + d) ∷ r) behind) ∙ cut-at d low.0 u;
}

pub short_turn : (word : List ℕ) (d : ℕ) (u : Until) → 1 ≤ length word → (d < 10) × (get_or word 0 0 ≡ 48 + d) → take (length word - 1) (drop 1 word) ≡ behind_number u
    → IsTurn word (record { cpu = record { 0 = d }; until = u })
short_turn [] d u some low behind = absurd (omega (arith, some))
short_turn (b ∷ rest) d u some low behind = short-turn (b ∷ rest) rest b d u refl low (sym (take_all (length (b ∷ rest) - 1) rest (omega arith)) ∙ behind)
