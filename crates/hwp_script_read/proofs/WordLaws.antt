-- The highest processor that words of a schedule name.
use Rattle.std.proofs.Common.{ℕ, ◌≡◌, ◌<◌, ◌≤◌, ◌+◌, ◌++◌, max, List, [], ◌∷◌, length, take, get_or, ap, ◌∙◌, arith}
use Rattle.std.proofs.lemmas.List.{take_more, take_all}
use Rattle.hwp_script_lines.specs.declared.Go.{Go}
use Rattle.hwp_script_read.specs.Reasons.{top_cpu}

top_cpu-push : (ws : List Go) (w : Go) → top_cpu (ws ++ w ∷ []) ≡ max (top_cpu ws) w.cpu.0
top_cpu-push [] w = omega arith
top_cpu-push (v ∷ ws) w = let e = top_cpu-push ws w in omega arith

pub top_cpu-more : (ws : List Go) (i : ℕ) (d : Go) (m n : ℕ) → i < length ws → m ≡ top_cpu (take i ws)
    → n ≡ max m (get_or ws i d).cpu.0 → n ≡ top_cpu (take (i + 1) ws)
top_cpu-more ws i d m n l h e =
    let more : top_cpu (take (i + 1) ws) ≡ max (top_cpu (take i ws)) (get_or ws i d).cpu.0 = ap top_cpu (take_more ws i d l) ∙ top_cpu-push (take i ws) (get_or ws i d) in
    omega arith

pub top_cpu-all : (ws : List Go) (i : ℕ) → length ws ≤ i → top_cpu (take i ws) ≡ top_cpu ws
top_cpu-all ws i l = ap top_cpu (take_all i ws l)
