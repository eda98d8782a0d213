use Rattle.std.proofs.Common.{◌≡◌, ◌∷◌, map, drop, codes, rules}
use Rattle.hwp_script_lines.proofs.SentenceLaws.{behind}
use Rattle.hwp_script_lines.proofs.commands.read_raise.Goals as goal

pub returns-then-is_text : goal.returns-then-is_text
returns-then-is_text c =
    let e : map (λ w. w.now) c.args.words.now ≡ codes "user" ∷ map (λ w. w.now) (drop 1 c.args.words.now) = search rules in
    rw (behind c.args.words.now _ e) c.read_user.ensures

pub returns-then-is_text-2 : goal.returns-then-is_text-2
returns-then-is_text-2 c =
    let e : map (λ w. w.now) c.args.words.now ≡ codes "kernel" ∷ map (λ w. w.now) (drop 1 c.args.words.now) = search rules in
    rw (behind c.args.words.now _ e) c.read_kernel.ensures
