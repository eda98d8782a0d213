-- A text, cut behind its first line.
use Rattle.std.proofs.Common.{ℕ, ◌+◌, ◌-◌, List, ◌∷◌, ◌++◌, length, take, drop, sym, ap, ◌∙◌}
use Rattle.std.proofs.lemmas.List.{take-append-drop, drop_more, take_rest}
use Rattle.hwp_report.specs.Cutting.{IsCut, IsFirstFeed}

pub cut_behind : (text : List ℕ) (at : ℕ) → IsFirstFeed text at → IsCut text (take at text) (take (length text - (at + 1)) (drop (at + 1) text))
cut_behind text at h = record {
  no_feed = h.none_before;
  same =
      sym (take-append-drop at text)
      ∙ ap (λ t. take at text ++ t)
      (drop_more text at 0 h.within
      ∙ ap (λ b. b ∷ drop (at + 1) text) h.feed
      ∙ ap (λ t. 10 ∷ t) (sym (take_rest text (at + 1))));
}
