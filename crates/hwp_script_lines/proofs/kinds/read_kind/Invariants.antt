use Rattle.std.proofs.Common.{◌≡◌}
use Rattle.hwp_script_words.specs.Kinds.{kind_text}
use Rattle.hwp_script_lines.proofs.Searches.{IsNoneOf}
use Rattle.hwp_script_lines.proofs.kinds.read_kind.Given as goal

abbrev pub invariant-loop-kind : goal.invariant-loop-kind
invariant-loop-kind l = IsNoneOf (λ k. l.word ≡ kind_text k) l.kind-items l.kind-index
