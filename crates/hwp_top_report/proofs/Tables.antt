-- Lists made member by member.
use Rattle.std.proofs.Common.{◌≡◌, ℕ, suc, ◌+◌, ◌-◌, ◌<◌, min, List, [], ◌∷◌, ◌++◌, length, take, drop, slice_index, sym, ap, ◌∙◌, arith}
use Rattle.std.proofs.lemmas.List.{length-drop, length-take}
use Rattle.std.proofs.Math.Seq.{take-suc}
use Rattle.hwp_plain.specs.hwp_geom.declared.Layout.{Layout}
use Rattle.hwp_plain.specs.hwp_core_rule.Words.{losses_from, size, words_of}
use Rattle.hwp_top_report.specs.Closing.{AreWordsOf}

-- the first words of a list, with the next one
pub take-next : (l front after : List ℕ) (n word : ℕ) → n < length l → front ≡ take n l → word ≡ slice_index l n → after ≡ front ++ word ∷ [] → after ≡ take (n + 1) l
take-next l front after n word inside was is pushed =
    pushed ∙ ap (λ (xs : List ℕ). xs ++ word ∷ []) was ∙ ap (λ (x : ℕ). take n l ++ x ∷ []) is ∙ sym (take-suc l n 0 inside) ∙ ap (λ (m : ℕ). take m l) next
  where
    next : suc n ≡ n + 1
    next = omega arith

-- there is a word for the losses of each file
pub losses-count : (layout : Layout) (words : List ℕ) → AreWordsOf layout words → length (words_of layout words).losses ≡ layout.files
losses-count layout words are =
    let all : length words ≡ size layout = are.count in
    let rest : length (drop (losses_from layout) words) ≡ length words - losses_from layout = length-drop (losses_from layout) words in
    let both : length (words_of layout words).losses ≡ min layout.files (length (drop (losses_from layout) words)) = length-take layout.files (drop (losses_from layout) words) in
    omega arith
