use Rattle.std.proofs.Common.{◌≡◌, ◌++◌, ◌∷◌, take}
use Rattle.std.specs.Prelude.{string_bytes}
use Rattle.std.specs.List.{flat_map}
use Rattle.hwp_script_read.specs.hwp_script_lines.Grammar.{turn_text}
use Rattle.hwp_script.proofs.forms.put_turns.Given as goal

abbrev pub invariant-loop-turn : goal.invariant-loop-turn
invariant-loop-turn l = string_bytes l.out ≡ string_bytes l.fn.out ++ flat_map (λ turn. 32 ∷ turn_text turn) (take l.turn-index l.fn.turns)
