-- The text of a line of the schedule.
use Rattle.std.proofs.Common.{ℕ, ◌≡◌, ◌++◌, List, [], ◌∷◌, map, codes, refl, sym, ap, ◌∙◌, append_assoc}
use Rattle.std.specs.List.{flat_map}
use Rattle.hwp_script_read.specs.hwp_geom.Words.{line}
use Rattle.hwp_script_read.specs.hwp_script_lines.Grammar.{turn_text}
use Rattle.hwp_script_read.specs.hwp_script_lines.declared.Go.{Go}

line-turns : (w : List ℕ) (turns : List Go) → line (w ∷ map turn_text turns) ≡ w ++ (flat_map (λ turn. 32 ∷ turn_text turn) turns ++ 10 ∷ [])
line-turns w [] = refl
line-turns w (t ∷ ts) =
    ap (λ x. w ++ 32 ∷ x) (line-turns (turn_text t) ts ∙ sym (append_assoc (turn_text t) (flat_map (λ turn. 32 ∷ turn_text turn) ts) (10 ∷ [])))

pub schedule_text : (old a b c : List ℕ) (turns : List Go) → a ≡ old ++ codes "schedule" → b ≡ a ++ flat_map (λ turn. 32 ∷ turn_text turn) turns
    → c ≡ b ++ 10 ∷ [] → c ≡ old ++ line (codes "schedule" ∷ map turn_text turns)
schedule_text old a b c turns e f g =
    let flat : List ℕ = flat_map (λ turn. 32 ∷ turn_text turn) turns in
    g ∙ ap (λ x. x ++ 10 ∷ []) (f ∙ ap (λ x. x ++ flat) e) ∙ append_assoc (old ++ codes "schedule") flat (10 ∷ [])
    ∙ append_assoc old (codes "schedule") (flat ++ 10 ∷ []) ∙ ap (λ x. old ++ x) (sym (line-turns (codes "schedule") turns))
