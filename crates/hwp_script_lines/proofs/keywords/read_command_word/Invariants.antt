use Rattle.std.proofs.Common.{◌≡◌}
use Rattle.hwp_script_lines.specs.Grammar.{command_text}
use Rattle.hwp_script_lines.proofs.Searches.{IsNoneOf}
use Rattle.hwp_script_lines.proofs.keywords.read_command_word.Given as goal

abbrev pub invariant-loop-first : goal.invariant-loop-first
invariant-loop-first l = IsNoneOf (λ w. l.word ≡ command_text w) l.first-items l.first-index
