-- What was found by the frames that were found due is so by the law.
use Rattle.std.proofs.Common.{◌≡◌, ℕ, ◌<◌, ◌≤◌, Bool, true, false, List, [], Option, Some, None, MatchBool, MatchOption, get_or, length, slice_get, sym, ◌∙◌, subst, arith}
use Rattle.std.specs.List.{list_any}
use Rattle.std.proofs.lemmas.Option.{slice_get-get_or}
use Rattle.hwp_check_rules.specs.hwp_geom.declared.Cpu.{Cpu}
use Rattle.hwp_check_rules.specs.hwp_geom.declared.Frame.{Frame}
use Rattle.hwp_check_rules.specs.hwp_script_words.declared.Command.{Command}
use Rattle.hwp_check_rules.specs.hwp_script_words.declared.Script.{Script}
use Rattle.hwp_check_rules.specs.hwp_report_text.declared.CpuLine.{CpuLine}
use Rattle.hwp_check_rules.specs.hwp_report_text.declared.OfflinedLine.{OfflinedLine}
use Rattle.hwp_check_rules.specs.hwp_report_text.declared.Report.{Report}
use Rattle.hwp_check_events.specs.declared.Misfits.{Misfits}
use Rattle.hwp_check_rules.specs.hwp_law.Lines.{offlined_among}
use Rattle.hwp_check_rules.specs.hwp_law.Offlined.{due_of}
use Rattle.hwp_check_rules.specs.hwp_law.Commands.{is_watch}
use Rattle.hwp_check_rules.specs.Answered.{offlined_before}
use Rattle.hwp_check_frames.specs.Dues.{AreDues, who_at}
use Rattle.hwp_check_answers.specs.Judged.{AreSuch, IsFirstOther, IsJudged, IsScanned, IsTold, LacksNone, LacksOne}
use Rattle.hwp_check_answers.specs.Tallied.{due_in}
use Rattle.hwp_check_frames.proofs.DueLaws.{due-is, none-due}

-- the same frames
scanned-same : (found due : ℕ → List Frame) (count : ℕ) (rows : List CpuLine) (m : Misfits) → ((seq : ℕ) → seq < count → found seq ≡ due seq) → IsScanned found count rows m → IsScanned due count rows m
scanned-same found due count rows m same s = record { lacks = lack m.lacks s.lacks; wrong = first m.wrong s.wrong }
  where
    told : (row : ℕ) (line : OfflinedLine) → line.seq < count → IsTold found rows row line → IsTold due rows row line
    told row line within so = record { frame = subst (λ (l : List Frame). slice_get l (offlined_before rows row line.seq) ≡ Some line.frame) (same line.seq within) so.frame; past = so.past }

    back : (row : ℕ) (line : OfflinedLine) → line.seq < count → IsTold due rows row line → IsTold found rows row line
    back row line within so = record { frame = subst (λ (l : List Frame). slice_get l (offlined_before rows row line.seq) ≡ Some line.frame) (sym (same line.seq within)) so.frame; past = so.past }

    such : (n : ℕ) → AreSuch (IsTold found rows) count rows n → AreSuch (IsTold due rows) count rows n
    such n so row line less is within = told row line within (so row line less is within)

    lack : (b : Bool) → MatchBool b (LacksOne found count rows) (LacksNone found count rows) → MatchBool b (LacksOne due count rows) (LacksNone due count rows)
    lack true l = record { seq = l.seq; within = l.within; lacks = subst (λ (x : List Frame). length (offlined_among rows l.seq) < length x) (same l.seq l.within) l.lacks }
    lack false none = λ seq within. subst (λ (x : List Frame). length x ≤ length (offlined_among rows seq)) (same seq within) (none seq within)

    first : (o : Option ℕ) → MatchOption o (AreSuch (IsTold found rows) count rows (length rows)) (IsFirstOther (IsTold found rows) count rows) → MatchOption o (AreSuch (IsTold due rows) count rows (length rows)) (IsFirstOther (IsTold due rows) count rows)
    first None so = such (length rows) so
    first (Some row) f = record { line = f.line; there = f.there; within = f.within; other = λ so. f.other (back row f.line f.within so); before = such row f.before }

module _ (script : Script) (report : Report) (cpu : Cpu) (list : List Command) (rows : List CpuLine) (of_script : slice_get script.lists cpu.0 ≡ Some list) (of_report : slice_get report.cpus cpu.0 ≡ Some rows) where
  pub judged : (dues : List (List Frame)) (found : Misfits) → AreDues script.layout list rows (length list) dues → IsScanned (due_in dues) (length dues) rows found → IsJudged script report cpu list rows found
  judged dues found are scanned =
      scanned-same (due_in dues) (λ seq. due_of script report (who_at cpu seq)) (length list) rows found
      (λ seq within. are.each seq (get_or dues seq []) (slice_get-get_or dues seq [] (subst (λ (n : ℕ). seq < n) (sym are.many) within)) ∙ due-is script report cpu list rows seq of_script of_report)
      (subst (λ (n : ℕ). IsScanned (due_in dues) n rows found) are.many scanned)

  pub judged-by : (dues seen : List (List Frame)) (found : Misfits) → seen ≡ dues → AreDues script.layout list rows (length list) dues → IsScanned (due_in seen) (length seen) rows found → IsJudged script report cpu list rows found
  judged-by dues seen found same are scanned = judged dues found are (subst (λ (d : List (List Frame)). IsScanned (due_in d) (length d) rows found) same scanned)

  pub judged-none : (wrong : Option ℕ) → list_any is_watch list ≡ false → MatchOption wrong (AreSuch (IsTold (due_in []) rows) (length list) rows (length rows)) (IsFirstOther (IsTold (due_in []) rows) (length list) rows)
      → IsJudged script report cpu list rows (record { lacks = false; wrong = wrong })
  judged-none wrong plain found =
      scanned-same (due_in []) (λ seq. due_of script report (who_at cpu seq)) (length list) rows (record { lacks = false; wrong = wrong })
      (λ seq within. none-due script.layout rows list seq plain ∙ due-is script report cpu list rows seq of_script of_report)
      (record { lacks = λ seq within. omega arith; wrong = found })
