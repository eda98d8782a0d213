-- Processors that have served a script have served the script that they acted on.
use Rattle.std.proofs.Common.{◌≡◌, ℕ, ◌+◌, List, [], ◌∷◌, Option, None, Some, length, option_and_then, option_map, slice_get, take, unwrap_or, refl, sym, ap, ◌∙◌, subst, arith}
use Rattle.std.specs.List.{zip}
use Rattle.std.proofs.lemmas.Option.{none-some, same_Some}
use Rattle.hwp_law.specs.hwp_geom.declared.Cpu.{Cpu}
use Rattle.hwp_law.specs.hwp_geom.declared.Layout.{Layout}
use Rattle.hwp_law.specs.hwp_geom.declared.VSlot.{VSlot}
use Rattle.hwp_law.specs.hwp_geom.declared.Who.{Who}
use Rattle.hwp_plain.specs.hwp_core_rule.declared.State.{State}
use Rattle.hwp_plain.specs.hwp_core_rule.declared.View.{View}
use Rattle.hwp_plain.specs.hwp_core_rule.Boards.{view_of}
use Rattle.hwp_law.specs.hwp_script_words.declared.Command.{Command}
use Rattle.hwp_law.specs.hwp_script_words.declared.Command.TheVariants as commands
use Rattle.hwp_law.specs.hwp_script_words.declared.Script.{Script}
use Rattle.hwp_law.specs.hwp_report_text.declared.Answer.{Answer}
use Rattle.hwp_law.specs.hwp_report_text.declared.CpuLine.{CpuLine}
use Rattle.hwp_law.specs.hwp_report_text.declared.Report.{Report}
use Rattle.hwp_law.specs.hwp_report_text.declared.Stop.{Stop}
use Rattle.hwp_law.specs.hwp_report_text.declared.StopCause.{StopCause}
use Rattle.hwp_law.specs.Commands.{command_at}
use Rattle.hwp_law.specs.Cows.{acting, copied_from}
use Rattle.hwp_law.specs.Acting.{acting_from, acting_lists, acting_script, copied_at}
use Rattle.hwp_law.specs.Lines.{answered, answers_to}
use Rattle.hwp_law.specs.Policies.{answered_before, answered_on}
use Rattle.hwp_law.proofs.ActedLaws.{command-acted, list-at}
use Rattle.hwp_cpu_row.specs.declared.Row.{Row}
use Rattle.hwp_cpu_row.specs.hwp_claim.declared.EventOutcome.{EventOutcome}
use Rattle.hwp_law_served.specs.Handles.{answers_by}
use Rattle.hwp_law_served.specs.Rows.{lines_from}
use Rattle.hwp_law_served.specs.Runs.{AreServed, HasStopCause, HaveServed, IsCauseOf}
use Rattle.hwp_law_served.specs.Served.{HasServed, IsServed}
use Rattle.hwp_law_served.proofs.RowLines.{answers-of-rows}
use Rattle.hwp_law_served.proofs.copied.Acted.{CopiesFrom, acted, given, served-acted}

-- which translation each command of one list copies from, whatever the others do
abbrev pub copies_by : Layout → List Command → List Row → Who → Option VSlot
copies_by layout list own who = option_and_then (copied_from layout (take who.seq (answers_by list own))) (slice_get list who.seq)

-- so of one processor
pub served-alone : (layout : Layout) (view : View) (cpu : Cpu) (list : List Command) (own : List Row) → HasServed layout view cpu list own → IsServed layout (copies_by layout list own) view cpu (acted layout list own) own
served-alone layout view cpu list own served = served-acted layout list own (copies_by layout list own) view cpu from served.acted
  where
    from : CopiesFrom layout (copies_by layout list own) cpu [] 0 list own
    from k c there =
        let same : k ≡ 0 + k = omega arith in
        subst (λ (m : ℕ). copies_by layout list own (record { cpu = cpu; seq = m }) ≡ copied_from layout (take k (answers_by list own)) c) same
        (ap (option_and_then (copied_from layout (take k (answers_by list own)))) there)

-- ---- the run

cause-acted : (layout : Layout) (earlier : List (Command × Answer)) (c : Command) (told : List EventOutcome) (cause : StopCause) → IsCauseOf c told cause → IsCauseOf (acting layout earlier c) told cause
cause-acted layout earlier (commands.Load thread slot line) told cause is = is
cause-acted layout earlier (commands.Fetch thread slot line) told cause is = is
cause-acted layout earlier (commands.KLoad thread slot line) told cause is = is
cause-acted layout earlier (commands.Store thread slot line word) told cause is = is
cause-acted layout earlier (commands.Free slot) told cause is = is
cause-acted layout earlier c told cause is = is

lists-long : (layout : Layout) (cpus : List (List CpuLine)) (n : ℕ) (lists : List (List Command)) → length (acting_lists layout cpus n lists) ≡ length lists
lists-long layout cpus n [] = refl
lists-long layout cpus n (list ∷ lists) = let rest : length (acting_lists layout cpus (n + 1) lists) ≡ length lists = lists-long layout cpus (n + 1) lists in omega (arith, rest)

module _ (script : Script) (report : Report) where
  -- as many lists as the script
  pub acting-long : length (acting_script script report).lists ≡ length script.lists
  acting-long = lists-long script.layout report.cpus 0 script.lists

  pub answered-are : (cpu : Cpu) (list : List Command) (own : List Row) → slice_get script.lists cpu.0 ≡ Some list → slice_get report.cpus cpu.0 ≡ Some (lines_from 0 own) → length own ≡ length list → answered_on script report cpu ≡ answers_by list own
  answered-are cpu list own list_is lines_is many =
      ap (λ (o : Option (List Command)). answered (unwrap_or o []) (unwrap_or (slice_get report.cpus cpu.0) [])) list_is
      ∙ ap (λ (o : Option (List CpuLine)). answered list (unwrap_or o [])) lines_is
      ∙ ap (λ (l : List Answer). zip list l) (answers-of-rows list own many)

  copies-from : (cpu : Cpu) (list : List Command) (own : List Row) → slice_get script.lists cpu.0 ≡ Some list → slice_get report.cpus cpu.0 ≡ Some (lines_from 0 own) → length own ≡ length list → CopiesFrom script.layout (copied_at script report) cpu [] 0 list own
  copies-from cpu list own list_is lines_is many k c there =
      let same : k ≡ 0 + k = omega arith in
      subst (λ (m : ℕ). copied_at script report (record { cpu = cpu; seq = m }) ≡ copied_from script.layout (take k (answers_by list own)) c) same
      (ap (option_and_then (copied_from script.layout (answered_before script report (record { cpu = cpu; seq = k })))) (ap (option_and_then (λ (l : List Command). slice_get l k)) list_is ∙ there)
      ∙ ap (λ (l : List (Command × Answer)). copied_from script.layout (take k l) c) (answered-are cpu list own list_is lines_is many))

  -- the rows are those of the commands that were acted on
  pub run-served : (seat : Cpu → ℕ) (last : State) (rows : List (List Row)) → HaveServed script seat last rows report.cpus → AreServed (acting_script script report) (copied_at script report) seat last rows report.cpus
  run-served seat last rows served cpu list own list_is own_is = which (slice_get script.lists cpu.0) refl (sym (list-at script report cpu.0) ∙ list_is)
    where
      which : (o : Option (List Command)) → slice_get script.lists cpu.0 ≡ o → option_map (λ (l : List Command). acting_from script.layout [] l (answers_to l (unwrap_or (slice_get report.cpus cpu.0) []))) o ≡ Some list
          → IsServed script.layout (copied_at script report) (view_of last (seat cpu)) cpu list own × (slice_get report.cpus cpu.0 ≡ Some (lines_from 0 own))
      which None none there = absurd (none-some list there)
      which (Some mine) some there =
          let s = served cpu mine own some own_is in
          let given_is : answers_to mine (unwrap_or (slice_get report.cpus cpu.0) []) ≡ given own = ap (λ (o : Option (List CpuLine)). answers_to mine (unwrap_or o [])) s.1 ∙ answers-of-rows mine own s.0.acted.count in
          let same : acted script.layout mine own ≡ list =
          ap (acting_from script.layout [] mine) (sym given_is) ∙ same_Some (acting_from script.layout [] mine (answers_to mine (unwrap_or (slice_get report.cpus cpu.0) []))) list there in (
            subst (λ (l : List Command). IsServed script.layout (copied_at script report) (view_of last (seat cpu)) cpu l own) same
                (served-acted script.layout mine own (copied_at script report) (view_of last (seat cpu)) cpu (copies-from cpu mine own some s.1 s.0.acted.count) s.0.acted),
            s.1,
          )

  -- and a stop of the script's is one of those
  pub run-stops : (rows : List (List Row)) (stop : Stop) → HasStopCause script rows stop → HasStopCause (acting_script script report) rows stop
  run-stops rows stop by = record {
    command = acting script.layout (answered_before script report stop.who) by.command;
    row = by.row;
    command_is = command-acted script report stop.who ∙ ap (option_map (acting script.layout (answered_before script report stop.who))) by.command_is;
    row_is = by.row_is;
    cause = cause-acted script.layout (answered_before script report stop.who) by.command by.row.told stop.cause by.cause;
  }
