-- The first line that is out of place, and the first wrong answer as far as lines are in place, are the first of both.
use Rattle.std.proofs.Common.{◌≡◌, ◌⊎◌, inl, inr, ℕ, ◌<◌, ◌≤◌, min, List, Option, Some, None, MatchOption, length, take, subst, arith}
use Rattle.std.proofs.lemmas.Bool.{cases_lt}
use Rattle.std.proofs.lemmas.Option.{slice_get_within}
use Rattle.hwp_check_evidence.specs.hwp_geom.declared.Cpu.{Cpu}
use Rattle.hwp_check_evidence.specs.hwp_script_words.declared.Command.{Command}
use Rattle.hwp_check_evidence.specs.hwp_script_words.declared.Script.{Script}
use Rattle.hwp_check_evidence.specs.hwp_report_text.declared.CpuLine.{CpuLine}
use Rattle.hwp_check_evidence.specs.hwp_report_text.declared.Report.{Report}
use Rattle.hwp_check_rules.specs.Firsts.{IsLeast, soonest}
use Rattle.hwp_check_answers.specs.Disorders.{AreAllOrderly, AreOrderly, IsDisorder}
use Rattle.hwp_check_answers.specs.Facts.{AreGoodRows}
use Rattle.hwp_check_answers.proofs.SiftLaws.{behind, good-not-wrong}
use Rattle.hwp_check_answers.specs.Sifting.{AreAllRight, AreAllSound, AreSound, IsAnswerLine, IsFirstAnswer}
use Rattle.hwp_check_evidence.specs.hwp_geom.declared.VSlot.{VSlot}
use Rattle.hwp_check_evidence.specs.hwp_geom.declared.Who.{Who}

module _ (script : Script) (copies : Who → Option VSlot) (report : Report) where
  pub no_disorder : AreAllOrderly script report → (line : ℕ) → IsDisorder script report line → ⊥
  no_disorder orderly line (inl u) = u.lacks ((orderly u.cpu.0 u.commands u.rows u.of_script u.of_report).each u.seq u.within)
  no_disorder orderly line (inr m) = m.out ((orderly m.cpu m.commands m.rows m.of_script m.of_report).in_place m.row m.shown m.there)

  -- where all is right no line is wrong
  pub no_answer_line : AreAllRight script copies report → (line : ℕ) → IsAnswerLine script copies report line → ⊥
  no_answer_line all line (inl disorder) = no_disorder all.orderly line disorder
  no_answer_line all line (inr w) =
      good-not-wrong script copies report w.cpu (take w.row w.rows) w.command w.shown (all.good w.cpu w.commands w.rows w.of_script w.of_report w.row w.shown (slice_get_within w.rows w.row w.shown w.there) w.there w.command w.made) w.wrong

  -- where all lines are in place, nothing is wrong about any answer of a sound processor
  whole : (cpu : Cpu) (commands : List Command) (rows : List CpuLine) → AreOrderly commands rows → AreSound script copies report cpu commands rows → AreGoodRows script copies report cpu commands rows (length rows)
  whole cpu commands rows orderly sound = elim sound.cut.whole [
    | inl all ↦ subst (AreGoodRows script copies report cpu commands rows) all sound.good
    | inr out ↦ absurd (out.out (orderly.in_place sound.end out.line out.there))
  ]

  all-right : AreAllOrderly script report → AreAllSound script copies report → AreAllRight script copies report
  all-right orderly sound = record {
    orderly = orderly;
    good = λ cpu commands rows of_script of_report. whole cpu commands rows (orderly cpu.0 commands rows of_script of_report) (sound cpu commands rows of_script of_report);
  }

  pub joined : (disorder wrong : Option ℕ) → MatchOption disorder (AreAllOrderly script report) (IsLeast (IsDisorder script report)) → MatchOption wrong (AreAllSound script copies report) (IsFirstAnswer script copies report)
      → MatchOption (soonest disorder wrong) (AreAllRight script copies report) (IsLeast (IsAnswerLine script copies report))
  joined None None orderly sound = all-right orderly sound
  joined (Some d) None least sound = record {
    at = inl least.at;
    first = λ other of. elim of [
      | inl disorder ↦ least.first other disorder
      | inr w ↦ elim (cases_lt other d) [
        | inl low ↦ absurd (let b = behind script copies report other w (sound w.cpu w.commands w.rows w.of_script w.of_report) in let l : d ≤ b.other = least.first b.other b.disorder in let u : b.other ≤ other = b.before in omega (arith, low, l, u))
        | inr high ↦ high
      ]
    ];
  }
  joined None (Some m) orderly first = record {
    at = inr first.at;
    first = λ other of. elim of [
      | inl disorder ↦ absurd (no_disorder orderly other disorder)
      | inr w ↦ elim (first.first other w) [
        | inl low ↦ low
        | inr b ↦ absurd (no_disorder orderly b.other b.disorder)
      ]
    ];
  }
  joined (Some d) (Some m) least first = which (cases_lt d m)
    where
      lowest : (other : ℕ) → IsAnswerLine script copies report other → (d ≤ other) ⊎ (m ≤ other)
      lowest other (inl disorder) = inl (least.first other disorder)
      lowest other (inr w) = elim (first.first other w) [
        | inl low ↦ inr low
        | inr b ↦ inl (let l : d ≤ b.other = least.first b.other b.disorder in let u : b.other ≤ other = b.before in omega (arith, l, u))
      ]

      under : (other : ℕ) → (d ≤ other) ⊎ (m ≤ other) → min d m ≤ other
      under other (inl l) = omega (arith, l)
      under other (inr l) = omega (arith, l)

      which : (d < m) ⊎ (m ≤ d) → IsLeast (IsAnswerLine script copies report) (min d m)
      which (inl less) = record { at = let is : d ≡ min d m = omega (arith, less) in subst (IsAnswerLine script copies report) is (inl least.at); first = λ other of. under other (lowest other of) }
      which (inr less) = record { at = let is : m ≡ min d m = omega (arith, less) in subst (IsAnswerLine script copies report) is (inr first.at); first = λ other of. under other (lowest other of) }
