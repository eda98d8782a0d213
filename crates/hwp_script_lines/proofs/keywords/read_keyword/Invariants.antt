use Rattle.std.proofs.Common.{◌≡◌}
use Rattle.hwp_script_lines.specs.Grammar.{keyword_text}
use Rattle.hwp_script_lines.proofs.Searches.{IsNoneOf}
use Rattle.hwp_script_lines.proofs.keywords.read_keyword.Given as goal

abbrev pub invariant-loop-head : goal.invariant-loop-head
invariant-loop-head l = IsNoneOf (λ k. l.word ≡ keyword_text k) l.head-items l.head-index
