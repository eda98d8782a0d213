-- The statuses of a trace are those of the list.
use Rattle.std.specs.Prelude.{◌≡◌, ℕ, List, ◌⊎◌, Option, Some, None}
use Rattle.std.proofs.Common.{lit<, refl, subst, sym, inl, inr}
use Rattle.hwp_top_report.specs.hwp_report_text.declared.Report.{Report}
use Rattle.hwp_top_words.specs.Statuses.{IsDone}
use Rattle.hwp_top_words.proofs.Statuses.{RunStatus, report_is_done, report_is_run_status}
use Rattle.hwp_top.specs.TraceCalls.{IsShown}

module _ (left left' : Option (List ℕ)) (status : ℕ) (text : List ℕ) where
  -- what is written has the status of a report that is written
  pub output-done : (report : Option Report) → IsShown left left' status text report → IsDone status
  output-done (Some report) shown = subst IsDone (sym shown.status_is) (report_is_done report)
  output-done None shown = elim shown [ ]

  -- and where it is written, whole or in part, the program ends with a status of the list
  pub output-listed : (report : Option Report) (n : ℕ) → IsShown left left' status text report → (n ≡ status) ⊎ (n ≡ 5) → RunStatus n
  output-listed (Some report) n shown (inl whole) = subst RunStatus (sym whole) (subst RunStatus (sym shown.status_is) (report_is_run_status report))
  output-listed None n shown (inl whole) = elim shown [ ]
  output-listed report n shown (inr cut) = subst RunStatus (sym cut) (4, lit< tt, refl)
