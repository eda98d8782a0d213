-- The rules, one after the other.
use Rattle.std.proofs.Common.{◌≡◌, inl, inr, ℕ, ◌+◌, ◌<◌, ◌==◌, cond, refl, sym, ap, ◌∙◌, subst, arith}
use Rattle.std.proofs.lemmas.Bool.{cases_lt}
use Rattle.hwp_check_rules.specs.hwp_script_words.declared.Script.{Script}
use Rattle.hwp_report.specs.hwp_report_text.declared.Report.{Report}
use Rattle.hwp_check_rules.specs.hwp_law.Law.{IsLawful}
use Rattle.hwp_check_rules.specs.declared.Rule.{Rule}
use Rattle.hwp_check_rules.specs.declared.Rule.TheVariants.{Shape, Histories, Answers, Seen, Marks, Count, Losses, Stop, Frames}
use Rattle.hwp_check_rules.specs.Verdicts.{HoldBelow, Holds, number}
use Rattle.hwp_check_rules.proofs.Lawful.{holds-lawful}

-- rules of one number are one
rule-of : ℕ → Rule
rule-of n = cond (n == 1) Shape (cond (n == 2) Histories (cond (n == 3) Answers (cond (n == 4) Seen (cond (n == 5) Marks (cond (n == 6) Count (cond (n == 7) Losses (cond (n == 8) Stop Frames)))))))

rule-back : (rule : Rule) → rule-of (number rule) ≡ rule
unfolding rule-of
rule-back Shape = refl
rule-back Histories = refl
rule-back Answers = refl
rule-back Seen = refl
rule-back Marks = refl
rule-back Count = refl
rule-back Losses = refl
rule-back Stop = refl
rule-back Frames = refl

nine-at-most : (rule : Rule) → number rule < 10
nine-at-most Shape = omega arith
nine-at-most Histories = omega arith
nine-at-most Answers = omega arith
nine-at-most Seen = omega arith
nine-at-most Marks = omega arith
nine-at-most Count = omega arith
nine-at-most Losses = omega arith
nine-at-most Stop = omega arith
nine-at-most Frames = omega arith

-- a rule more holds
pub one-more : (script : Script) (report : Report) (rule : Rule) (n : ℕ) → number rule ≡ n → HoldBelow n script report → Holds rule script report → HoldBelow (n + 1) script report
one-more script report rule n is below holds other low = elim (cases_lt (number other) n) [
  | inl less ↦ below other less
  | inr high ↦
      let same : number rule ≡ number other = omega (arith, is, low, high) in
      subst (λ (r : Rule). Holds r script report) (sym (rule-back rule) ∙ ap rule-of same ∙ rule-back other) holds
]

-- all rules hold
pub all-hold : (script : Script) (report : Report) → HoldBelow 10 script report → IsLawful script report
all-hold script report below = holds-lawful script report (λ rule. below rule (nine-at-most rule))
