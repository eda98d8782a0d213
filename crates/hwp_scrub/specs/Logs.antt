-- What a command changes of its own processor alone, as the raw event that it logs: the task's states, its step and what it comes to.
use Rattle.std.specs.Prelude.{◌≡◌, ℕ, false, Option, Some, None, length}
use Rattle.hwp_cpu_control.specs.hwp_geom.declared.Layout.{Layout}
use Rattle.hwp_cpu_control.specs.hwp_geom.declared.Who.{Who}
use Rattle.hwp_claim.specs.hwp_banks.Events.{bank_count}
use Rattle.hwp_cpu_control.specs.hwp_core_rule.declared.Step.{Step}
use Rattle.hwp_cpu_control.specs.hwp_core_rule.declared.View.{View}
use Rattle.hwp_cpu_control.specs.declared.ReadStopAnswer.{ReadStopAnswer}
use Rattle.hwp_cpu_control.specs.declared.ReadStopAnswer.TheVariants as answers
use Rattle.hwp_cpu_control.specs.ReadStops as reads
use Rattle.hwp_claim.specs.hwp_banks.Banks.{Banks, log_in}
use Rattle.hwp_claim.specs.hwp_banks.Banks.{raw_bank}
use Rattle.hwp_scrub.specs.declared.log.LocalChange.{LocalChange}
use Rattle.hwp_scrub.specs.declared.log.LocalChange.TheVariants as changes
use Rattle.hwp_scrub.specs.declared.log.Log.{Log}
use Rattle.hwp_cpu_control.specs.hwp_core_rule.declared.Turn.TheVariants.{Moved}
use Rattle.hwp_cpu_control.specs.hwp_core_rule.Turns.{Member}

abbrev pub begin : Who → LocalChange → Banks → Log
begin who change banks = record { read = reads.begin who; change = change; before = record { marker = record {}; value = banks }; banks = banks }

abbrev pub plan : Log → Option Step
plan l = reads.plan l.read

abbrev pub answer : Log → Option ReadStopAnswer
answer l = reads.answer l.read

-- the banks behind the change: a raw event is logged
abbrev pub changed : LocalChange → Banks → Banks
changed (changes.Event event) banks = log_in raw_bank event banks
changed (changes.Watch threshold window) banks = banks

-- it is made where the machine goes on
abbrev pub logged_by : Option ReadStopAnswer → LocalChange → Banks → Banks
logged_by (Some answers.Done) change banks = changed change banks
logged_by _ change banks = banks

abbrev pub next_by : Log → ℕ → Option ReadStopAnswer → Log
next_by l found None = record l { read = reads.next l.read found; banks = logged_by (reads.answer (reads.next l.read found)) l.change l.banks }
next_by l found (Some answer) = l

abbrev pub next : Log → ℕ → Log
next l found = next_by l found (answer l)

-- nothing is held, the command makes no entry, and the banks hold what its answer says
pub record Fits (layout : Layout) (view : View) (l : Log) : Type 0 where
  pub read : reads.Fits layout view l.read
  pub three : length l.before.value ≡ bank_count
  pub banks_are : l.banks ≡ logged_by (answer l) l.change l.before.value

-- the turns that are left
abbrev pub cost : Log → ℕ
cost l = reads.cost l.read

-- the task, as the laws of tasks read it
abbrev pub task : Member Log
task = record {
  who = λ l. l.read.who;
  plan = plan;
  put = λ l. None;
  bare = λ l. l;
  shows = λ l found got. Unit {0};
  next = λ layout l found got after result. (after ≡ next l found) × (result ≡ Moved);
  fits = Fits;
  class = λ l. 4;
  cost = λ l words. cost l;
  aborts = λ l. false;
  claims = λ l. None;
}
