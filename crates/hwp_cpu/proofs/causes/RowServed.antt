-- A command that is answered has served its row.
use Rattle.std.proofs.Common.{◌≡◌, ◌⊎◌, ℕ, List, [], ◌++◌, Option, Some, ◌∙◌}
use Rattle.std.specs.Prelude.{filter_map}
use Rattle.std.specs.List.{cons_option}
use Rattle.hwp_law_served.specs.hwp_geom.declared.Layout.{Layout}
use Rattle.hwp_law_served.specs.hwp_geom.declared.Thread.{Thread}
use Rattle.hwp_law_served.specs.hwp_geom.declared.VSlot.{VSlot}
use Rattle.hwp_law_served.specs.hwp_geom.declared.Who.{Who}
use Rattle.hwp_law_served.specs.hwp_core_rule.declared.Made.{Made}
use Rattle.hwp_law_served.specs.hwp_core_rule.declared.View.{View}
use Rattle.hwp_law_served.specs.hwp_core_rule.Lists.{EachMember}
use Rattle.hwp_law_served.specs.hwp_script_words.declared.Command.{Command}
use Rattle.hwp_law_served.specs.hwp_report_text.declared.Answer.{Answer}
use Rattle.hwp_law_served.specs.hwp_report_text.declared.Answer.TheVariants as answers
use Rattle.hwp_law_served.specs.hwp_law.Settings.{settings}
use Rattle.hwp_law_served.specs.hwp_banks.Banks.{Banks}
use Rattle.hwp_law_served.specs.hwp_cpu_row.declared.Offlining.{Offlining}
use Rattle.hwp_law_served.specs.hwp_cpu_row.Acts.{acts}
use Rattle.hwp_cpu_command.specs.declared.Job.{Job}
use Rattle.hwp_cpu_command.specs.Done.{failed_now}
use Rattle.hwp_cpu_command.specs.FileHandles.{HasHandle}
use Rattle.hwp_cpu_command.specs.Jobs.{FitsFrom, answer, banks_after, banks_before, own_of, row_of, told_of}
use Rattle.hwp_cpu_command.specs.Runs.{Runs}
use Rattle.hwp_cpu_command.specs.Settings.{AreCounted, policies_now}
use Rattle.hwp_law_served.specs.Accounts.{act_marking, failures, markings, own_marking, policies_set}
use Rattle.hwp_law_served.specs.Offlinings.{AreBeside}
use Rattle.hwp_law_served.specs.Served.{IsOffliningServed, IsRowServed, SawRunning}
use Rattle.hwp_cpu.specs.Beside.{ArePriorWith, DoesSo, IsOwnServed}
use Rattle.hwp_cpu.proofs.causes.RowAccounts.{does}
use Rattle.hwp_cpu.proofs.causes.CauseLaws.{caused}
use Rattle.hwp_cpu.proofs.causes.CommandTells.{tells}

-- what its own task knows, once it has its answer; and what it has done
pub own-served : (layout : Layout) (earlier : List (Command × Answer)) (copied : Option VSlot) (view : View) (who : Who) (command : Command) (j : Job) {a : Answer} (base : List Made) (kept : Banks) → Runs layout who command copied j → FitsFrom base layout view j → ArePriorWith layout command copied base
    → answer j ≡ Some a → AreCounted (λ (t : Thread). settings layout t earlier) view j → (handles : List ℕ) → HasHandle handles j → IsOwnServed layout earlier copied view who command j a kept
own-served layout earlier copied view who command j base kept runs fits prior is counted handles has =
    let right = tells layout copied view who command j base kept runs fits prior is in
    record { caused = caused layout earlier copied view who command j base kept runs fits prior is counted handles has; told = right.told; heeded = right.heeded }

pub own-does : (layout : Layout) (earlier : List (Command × Answer)) (copied : Option VSlot) (view : View) (who : Who) (command : Command) (j : Job) {a : Answer} (base : List Made) → Runs layout who command copied j → FitsFrom base layout view j → ArePriorWith layout command copied base
    → answer j ≡ Some a → AreCounted (λ (t : Thread). settings layout t earlier) view j → DoesSo layout earlier command j a
own-does layout earlier copied view who command j base runs fits prior is counted = does layout earlier copied view who command j base runs fits prior is counted

-- where the view lists of the command what it has done, its own task and beside it, and the command saw the machine running or is
-- answered `stopped`, the row that it gives is served
pub row-served : (layout : Layout) (earlier : List (Command × Answer)) (copied : Option VSlot) (view : View) (who : Who) (command : Command) (j : Job) {a : Answer} (kept : Banks) (offlined : List Offlining) → IsOwnServed layout earlier copied view who command j a kept → DoesSo layout earlier command j a
    → (a ≡ answers.Stopped) ⊎ SawRunning view who → markings who view ≡ filter_map act_marking (acts (told_of j) offlined) ++ cons_option (own_marking (own_of j)) [] → failures who view ≡ failed_now j → policies_set who view ≡ policies_now j
    → AreBeside view who command (row_of j a offlined) → EachMember (IsOffliningServed layout view who) offlined → IsRowServed layout earlier copied view who command (banks_before j kept) (row_of j a offlined) (banks_after j kept)
row-served layout earlier copied view who command j kept offlined served so running marked failed set beside came = record {
  caused = served.caused;
  accounted = record { marked = marked; failed = failed ∙ so.failed; set = set ∙ so.set; own = so.own };
  told = served.told;
  heeded = served.heeded;
  running = running;
  beside = beside;
  offlined = came;
}
