-- The walk over the lines of an input.
use Rattle.std.proofs.Common.{◌≡◌, ◌≢◌, ℕ, ◌-◌, List, [], ◌∷◌, ◌++◌, length, take, refl, sym, ap, ◌∙◌, append_assoc, append-nil, arith}
use Rattle.std.specs.Prelude.{All}
use Rattle.std.specs.List.{flat_map}
use Rattle.std.proofs.lemmas.List.{length-append}
use Rattle.std.proofs.lemmas.List.Elements.{All-push}
use Rattle.std.proofs.lemmas.Grind.{flat_map-append}
use Rattle.hwp_report.specs.Cutting.{IsCut}
use Rattle.hwp_check.specs.Parting.{EndsWith, GoesOn, IsEnd, fed}

-- a line that doesn't end the script
pub one-line : (input rest line behind : List ℕ) → GoesOn input rest → IsCut rest line behind → (IsEnd line → ⊥) → GoesOn input behind
one-line input rest line behind h cut not_end = record {
  lines = h.lines ++ line ∷ [];
  feedless = All-push (λ (l : List ℕ). All (λ b. b ≢ 10) l) h.lines line h.feedless cut.no_feed;
  none = All-push (λ (l : List ℕ). IsEnd l → ⊥) h.lines line h.none not_end;
  same = h.same ∙ ap (λ t. flat_map fed h.lines ++ t) (cut.same ∙ regroup) ∙ sym (append_assoc (flat_map fed h.lines) (fed line) behind) ∙ ap (λ t. t ++ behind) (sym lines-more);
}
  where
    regroup : line ++ 10 ∷ behind ≡ fed line ++ behind
    regroup = sym (append_assoc line (10 ∷ []) behind)

    lines-more : flat_map fed (h.lines ++ line ∷ []) ≡ flat_map fed h.lines ++ fed line
    lines-more = flat_map-append fed h.lines (line ∷ []) ∙ ap (λ t. flat_map fed h.lines ++ t) (append-nil (fed line))

take-front : (xs ys : List ℕ) → take (length xs) (xs ++ ys) ≡ xs
take-front [] ys = refl
take-front (x ∷ xs) ys = ap (λ t. x ∷ t) (take-front xs ys)

-- the front that is as long as the input without its end
front : (input xs ys : List ℕ) → input ≡ xs ++ ys → input ≡ take (length input - length ys) input ++ ys
front input xs ys same =
    let long : length input - length ys ≡ length xs = omega (arith, ap length same, length-append xs ys) in
    same ∙ ap (λ t. t ++ ys) (sym (ap (λ n. take n input) long ∙ ap (λ t. take (length xs) t) same ∙ take-front xs ys))

-- a line that ends the script
pub ends-here : (input rest line behind : List ℕ) → GoesOn input rest → IsCut rest line behind → IsEnd line → EndsWith input (take (length input - length behind) input) behind
ends-here input rest line behind h cut ends = record {
  last = line;
  ends = ends;
  rest = rest;
  before = h;
  cut = cut;
  same = front input (flat_map fed h.lines ++ fed line) behind
      (h.same ∙ ap (λ t. flat_map fed h.lines ++ t) (cut.same ∙ sym (append_assoc line (10 ∷ []) behind)) ∙ sym (append_assoc (flat_map fed h.lines) (fed line) behind));
}
