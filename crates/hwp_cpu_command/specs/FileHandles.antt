-- What a processor carries on while its commands run: the handles, one for each file, which say how many losses of the file the
-- processor has seen, and its collector of corrected errors.
use Rattle.std.specs.Prelude.{◌≡◌, ◌⊎◌, ℕ, Bool, false, true, List, [], ◌∷◌, ◌++◌, length, slice_set, Option, Some, None, option_map}
use Rattle.hwp_cpu_control.specs.hwp_core_rule.declared.View.{View}
use Rattle.hwp_cpu_control.specs.hwp_core_rule.Known.{HasSeenLoss}
use Rattle.hwp_evict.specs.declared.FsyncAnswer.TheVariants as fsync_answers
use Rattle.hwp_evict.specs.declared.fsync.FsyncAt.{FsyncAt}
use Rattle.hwp_evict.specs.declared.fsync.FsyncAt.TheVariants as fsync_at
use Rattle.hwp_evict.specs.Fsyncs as fsyncs
use Rattle.hwp_cpu_row.specs.hwp_report_text.declared.Answer.{Answer}
use Rattle.hwp_cpu_row.specs.hwp_report_text.declared.Answer.TheVariants as answers
use Rattle.hwp_cpu_row.specs.hwp_script_words.Commands.{IsCollectorWithin}
use Rattle.hwp_cpu_row.specs.hwp_law.hwp_cec.Ages.{CecEvent, Round}
use Rattle.hwp_cpu_row.specs.hwp_law.hwp_cec.Counters.{StandsFor, begun, rounded}
use Rattle.hwp_cpu_row.specs.declared.Local.{Local}
use Rattle.hwp_cpu_row.specs.declared.Watching.{Watching}
use Rattle.hwp_cpu_row.specs.Locals.{number_in}
use Rattle.hwp_scrub.specs.declared.LocalChange.{LocalChange}
use Rattle.hwp_scrub.specs.declared.LocalChange.TheVariants as changes
use Rattle.hwp_cpu_command.specs.declared.job.Job.{Job}
use Rattle.hwp_cpu_command.specs.declared.job.Job.TheVariants as jobs
use Rattle.hwp_cpu_command.specs.Jobs.{banks_after, left_in}

-- the task answers what an `open` does where it opens the handle, and else what an `fsync` does
abbrev pub IsToldBy : Bool → FsyncAt → Type 0
IsToldBy false (fsync_at.Over (fsync_answers.Opened word) number) = ⊥
IsToldBy true (fsync_at.Over fsync_answers.Done number) = ⊥
IsToldBy true (fsync_at.Over (fsync_answers.Eio more) number) = ⊥
IsToldBy opens _ = Unit {0}

-- an `fsync` or an `open` has the number of its file's handle
abbrev pub HasHandle : List ℕ → Job → Type 0
HasHandle handles (jobs.Fsync f) = (f.handle ≡ number_in handles f.file) × IsToldBy f.opens f.at
HasHandle handles _ = Unit {0}

-- the number of its handle is 0, or a step of the processor showed so many losses of the file
abbrev pub KnowsHandle : View → Job → Type 0
KnowsHandle view (jobs.Fsync f) = (f.handle ≡ 0) ⊎ HasSeenLoss view f.file f.handle
KnowsHandle view _ = Unit {0}

-- the numbers of the handles after the command
abbrev pub handles_after : Job → List ℕ → List ℕ
handles_after (jobs.Fsync f) handles = slice_set handles f.file.0 (fsyncs.number f)
handles_after _ handles = handles

-- the numbers of a collector are such as there may be
abbrev pub IsChangeWithin : LocalChange → Type 0
IsChangeWithin (changes.Watch threshold window) = IsCollectorWithin threshold window
IsChangeWithin (changes.Event event) = Unit {0}

abbrev pub HasChangeWithin : Job → Type 0
HasChangeWithin (jobs.Log l) = IsChangeWithin l.change
HasChangeWithin _ = Unit {0}

-- the collector behind a `watch` that was done: it begins anew for the same frames, and collects
abbrev pub anew_with : ℕ → ℕ → Watching → Watching
anew_with threshold window w = record { collector = begun threshold window (length w.collector.counts); on = true }

abbrev pub watched_by : LocalChange → Answer → Option Watching → Option Watching
watched_by (changes.Watch threshold window) answers.Done watching = option_map (anew_with threshold window) watching
watched_by _ _ watching = watching

-- and behind a scrub that went to its end: a round has ended
abbrev pub round_ended : Watching → Watching
round_ended w = record w { collector = rounded w.collector }

abbrev pub rounded_by : Answer → Option Watching → Option Watching
rounded_by (answers.Scrubbed lines) watching = option_map round_ended watching
rounded_by _ watching = watching

-- whatever the collector stood for, it stands for that and the end of a round
abbrev pub CanRound : Option Watching → Type 0
CanRound None = Unit {0}
CanRound (Some w) = (events : List CecEvent) → StandsFor events w.collector → StandsFor (events ++ Round ∷ []) (rounded w.collector)

abbrev pub RoundStands : Answer → Option Watching → Type 0
RoundStands (answers.Scrubbed lines) watching = CanRound watching
RoundStands _ watching = Unit {0}

abbrev pub StandsOn : Job → Answer → Option Watching → Type 0
StandsOn (jobs.Scrub s) answer watching = RoundStands answer watching
StandsOn _ answer watching = Unit {0}

-- the collector after a command with this answer
abbrev pub watching_after : Job → Answer → Option Watching → Option Watching
watching_after (jobs.Log l) answer watching = watched_by l.change answer watching
watching_after (jobs.Scrub s) answer watching = rounded_by answer watching
watching_after _ answer watching = watching

-- what the processor keeps while the command runs, and what it carries on after it
abbrev pub local_left : Job → Local → Local
local_left j local = record local { banks = left_in j local.banks }

abbrev pub local_after : Job → Answer → Local → Local
local_after j answer local = record local { banks = banks_after j local.banks; handles = handles_after j local.handles; watching = watching_after j answer local.watching }
