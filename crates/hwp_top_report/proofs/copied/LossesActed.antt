-- The commands that tell numbers of handles are acted on as they are: what is said of the losses of files is the same of a script and of what
-- its processors acted on.
use Rattle.std.proofs.Common.{◌≡◌, ℕ, ◌+◌, ◌≤◌, List, [], Option, Some, option_map, slice_get, take, unwrap_or, ap, ◌∙◌, subst}
use Rattle.std.specs.List.{zip}
use Rattle.hwp_law_served.specs.hwp_script_words.declared.Command.{Command}
use Rattle.hwp_law_served.specs.hwp_script_words.declared.Script.{Script}
use Rattle.hwp_law_served.specs.hwp_report_text.declared.Answer.{Answer}
use Rattle.hwp_law_served.specs.hwp_report_text.declared.CpuLine.{CpuLine}
use Rattle.hwp_law_served.specs.hwp_report_text.declared.Report.{Report}
use Rattle.hwp_law_served.specs.hwp_law.Acting.{acting_from, acting_script}
use Rattle.hwp_law_served.specs.hwp_law.Lines.{answered, answers_to}
use Rattle.hwp_law_served.specs.hwp_law.Losses.{LossesAgree, is_lost, is_lost_before, losses_such, numbers_after}
use Rattle.hwp_law_served.proofs.of_hwp_law.ActedLaws.{answered-acted, list-at}
use Rattle.hwp_law_served.proofs.copied.NumbersActed.{numbers-acted, pair-acted}

-- ---- the report's

pub losses-acted : (script : Script) (report : Report) → LossesAgree (acting_script script report) report → LossesAgree script report
losses-acted script report agree = record {
  files_fit = agree.files_fit;
  lost = agree.lost;
  numbers = λ file cpu list rows inside list_is rows_is i p there tells.
      let given : List Command → List Answer = λ (l : List Command). answers_to l (unwrap_or (slice_get report.cpus cpu.0) []) in
      let same : given list ≡ answers_to list rows = ap (λ (o : Option (List CpuLine)). answers_to list (unwrap_or o [])) rows_is in
      let acted : List Command = acting_from script.layout [] list (answers_to list rows) in
      let acted_is : slice_get (acting_script script report).lists cpu.0 ≡ Some acted
      = list-at script report cpu.0 ∙ ap (option_map (λ (l : List Command). acting_from script.layout [] l (given l))) list_is ∙ ap (λ (g : List Answer). Some (acting_from script.layout [] list g)) same in
      let other = pair-acted script.layout [] file list (answers_to list rows) i p there in
      let pairs : answered acted rows ≡ zip acted (answers_to list rows) = answered-acted script.layout list rows in
      let number = agree.numbers file cpu acted rows inside acted_is rows_is i other.pair (ap (λ (l : List (Command × Answer)). slice_get {X = Command × Answer} l i) pairs ∙ other.there) (other.tells ∙ tells) in
      let here : (k : ℕ) → numbers_after file 0 (take k (answered acted rows)) ≡ numbers_after file 0 (take k (answered list rows)) = λ k. ap (λ (l : List (Command × Answer)). numbers_after file 0 (take k l)) pairs ∙ numbers-acted script.layout [] file 0 list (answers_to list rows) k in
      record {
        rises = subst (λ (n : ℕ). n ≤ numbers_after file 0 (take (i + 1) (answered list rows))) (here i) (subst (λ (n : ℕ). numbers_after file 0 (take i (answered acted rows)) ≤ n) (here (i + 1)) number.rises);
        within = subst (λ (n : ℕ). n ≤ losses_such is_lost script report file) (here (i + 1)) number.within;
        covers = subst (λ (n : ℕ). losses_such (is_lost_before (record { cpu = cpu; seq = i })) script report file ≤ n) (here (i + 1)) number.covers;
      };
}
