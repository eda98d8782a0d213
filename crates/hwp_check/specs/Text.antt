-- The text of a verdict.
use Rattle.std.specs.Prelude.{ℕ, List, [], ◌∷◌, codes, decimal}
use Rattle.hwp_report.specs.hwp_geom.Words.{line}
use Rattle.hwp_check_rules.specs.declared.verdicts.Verdict.{Verdict}
use Rattle.hwp_check_rules.specs.declared.verdicts.Verdict.TheVariants as verdicts
use Rattle.hwp_check_rules.specs.Verdicts.{number}

-- `legal`, or `not PLACE RULE`
abbrev pub verdict_words : Verdict → List (List ℕ)
verdict_words verdicts.Legal = codes "legal" ∷ []
verdict_words (verdicts.Not at rule) = codes "not" ∷ decimal at ∷ decimal (number rule) ∷ []

abbrev pub verdict_text : Verdict → List ℕ
verdict_text verdict = line (verdict_words verdict)
