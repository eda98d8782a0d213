-- A command as one task: it is the task of its kind, in all that it plans, shows, comes to and needs.
use Rattle.std.specs.Prelude.{◌≡◌, ℕ, Bool, true, false, cond, List, [], Option, Some, None, is_some, length, option_and_then, option_map, unwrap_or}
use Rattle.hwp_cpu_control.specs.hwp_geom.declared.Frame.{Frame}
use Rattle.hwp_cpu_control.specs.hwp_geom.declared.Layout.{Layout}
use Rattle.hwp_cpu_control.specs.hwp_geom.declared.Who.{Who}
use Rattle.hwp_cpu_control.specs.hwp_page.History.{BodyValue}
use Rattle.hwp_cpu_row.specs.hwp_report_text.declared.Answer.{Answer}
use Rattle.hwp_cpu_control.specs.hwp_core_rule.declared.Made.{Made}
use Rattle.hwp_cpu_control.specs.hwp_core_rule.declared.Step.{Step}
use Rattle.hwp_cpu_control.specs.hwp_core_rule.declared.View.{View}
use Rattle.hwp_cpu_control.specs.hwp_core_rule.Words.{Words}
use Rattle.hwp_cpu_control.specs.hwp_core_rule.declared.Turn.{Turn}
use Rattle.hwp_cpu_control.specs.hwp_core_rule.declared.Turn.TheVariants.{Moved}
use Rattle.hwp_cpu_control.specs.hwp_core_rule.Turns.{Member}
use Rattle.hwp_cpu_control.specs.Denieds as denieds
use Rattle.hwp_cpu_control.specs.Nesteds as nesteds
use Rattle.hwp_cpu_control.specs.Forks as forks
use Rattle.hwp_cpu_control.specs.Prctls as prctls
use Rattle.hwp_cpu_control.specs.Spoils as spoils
use Rattle.hwp_evict.specs.declared.Evict.{Evict}
use Rattle.hwp_evict.specs.Evicts as evicts
use Rattle.hwp_evict.specs.Fsyncs as fsyncs
use Rattle.hwp_cpu_row.specs.hwp_claim.declared.FailAnswer.{FailAnswer}
use Rattle.hwp_cpu_row.specs.hwp_claim.declared.FailAnswer.TheVariants as fail_answers
use Rattle.hwp_cpu_row.specs.hwp_claim.declared.Inject.{Inject}
use Rattle.hwp_cpu_row.specs.hwp_claim.Injects as injects
use Rattle.hwp_cpu_row.specs.hwp_banks.Banks.{Banks, empty_banks}
use Rattle.hwp_cpu_row.specs.hwp_claim.declared.EventOutcome.{EventOutcome}
use Rattle.hwp_cpu_access.specs.declared.Instruction.{Instruction}
use Rattle.hwp_cpu_access.specs.Costs as instruction_costs
use Rattle.hwp_cpu_access.specs.Fits as instruction_fits
use Rattle.hwp_cpu_access.specs.Instructions as instructions
use Rattle.hwp_cpu_access.specs.declared.Copying.{Copying}
use Rattle.hwp_cpu_access.specs.Copyings as copyings
use Rattle.hwp_cpu_access.specs.CopyCosts as copying_costs
use Rattle.hwp_cpu_access.specs.CopyFits as copying_fits
use Rattle.hwp_scrub.specs.declared.Raise.{Raise}
use Rattle.hwp_scrub.specs.RaiseCosts as raise_costs
use Rattle.hwp_scrub.specs.RaiseFits as raise_fits
use Rattle.hwp_scrub.specs.Logs as logs
use Rattle.hwp_scrub.specs.Raises as raises
use Rattle.hwp_cpu_row.specs.declared.FrameChange.{FrameChange}
use Rattle.hwp_cpu_row.specs.declared.FrameChange.TheVariants as owns
use Rattle.hwp_cpu_row.specs.declared.Offlining.{Offlining}
use Rattle.hwp_cpu_row.specs.declared.Row.{Row}
use Rattle.hwp_scrub.specs.declared.Scrub.{Scrub}
use Rattle.hwp_scrub.specs.Costs as scrub_costs
use Rattle.hwp_scrub.specs.Fits as scrub_fits
use Rattle.hwp_scrub.specs.Scrubs as scrubs
use Rattle.hwp_soft.specs.declared.Soft.{Soft}
use Rattle.hwp_soft.specs.declared.SoftAnswer.{SoftAnswer}
use Rattle.hwp_soft.specs.declared.SoftAnswer.TheVariants as soft_answers
use Rattle.hwp_soft.specs.Offline as offline
use Rattle.hwp_soft.specs.Softs as softs
use Rattle.hwp_soft.specs.declared.UnpoisonAnswer.{UnpoisonAnswer}
use Rattle.hwp_soft.specs.declared.UnpoisonAnswer.TheVariants as unpoison_answers
use Rattle.hwp_soft.specs.Unpoisons as unpoisons
use Rattle.hwp_cpu_command.specs.declared.job.Job.{Job}
use Rattle.hwp_cpu_command.specs.declared.job.Job.TheVariants as jobs
use Rattle.hwp_cpu_command.specs.Answers.{denial_answer, denied_answer, evict_answer, fail_answer, fork_answer, fsync_answer, instruction_answer, nested_answer, prctl_answer, raise_answer, read_stop_answer, scrub_answer, soft_answer, spoil_answer, unpoison_answer}

abbrev pub who : Job → Who
who (jobs.Instruction i) = i.request.who
who (jobs.Copying c) = c.store.who
who (jobs.Evict e) = e.who
who (jobs.Fsync f) = f.who
who (jobs.Prctl p) = p.who
who (jobs.Fork f) = f.who
who (jobs.Log l) = l.read.who
who (jobs.Raise r) = r.who
who (jobs.Scrub s) = s.who
who (jobs.Spoil s) = s.who
who (jobs.Nested n) = n.who
who (jobs.Inject i) = i.who
who (jobs.Soft s) = s.who
who (jobs.Unpoison u) = u.who
who (jobs.Denied d) = d.who

abbrev pub plan : Job → Option Step
plan (jobs.Instruction i) = instructions.plan i
plan (jobs.Copying c) = copyings.plan c
plan (jobs.Evict e) = evicts.plan e
plan (jobs.Fsync f) = fsyncs.plan f
plan (jobs.Prctl p) = prctls.plan p
plan (jobs.Fork f) = forks.plan f
plan (jobs.Log l) = logs.plan l
plan (jobs.Raise r) = raises.plan r
plan (jobs.Scrub s) = scrubs.plan s
plan (jobs.Spoil s) = spoils.plan s
plan (jobs.Nested n) = nesteds.plan n
plan (jobs.Inject i) = injects.plan i
plan (jobs.Soft s) = softs.plan s
plan (jobs.Unpoison u) = unpoisons.plan u
plan (jobs.Denied d) = denieds.plan d

abbrev pub put : Job → Option BodyValue
put (jobs.Instruction i) = instructions.put i
put (jobs.Copying c) = copyings.put c
put (jobs.Evict e) = evicts.put e
put (jobs.Raise r) = raises.put r
put (jobs.Scrub s) = scrubs.put s
put (jobs.Inject i) = injects.put i
put (jobs.Soft s) = softs.put s
put _ = None

abbrev pub bare : Job → Job
bare (jobs.Instruction i) = jobs.Instruction (instructions.bare i)
bare (jobs.Copying c) = jobs.Copying (copyings.bare c)
bare (jobs.Evict e) = jobs.Evict (evicts.bare e)
bare (jobs.Raise r) = jobs.Raise (raises.bare r)
bare (jobs.Scrub s) = jobs.Scrub (scrubs.bare s)
bare (jobs.Inject i) = jobs.Inject (injects.bare i)
bare (jobs.Soft s) = jobs.Soft (softs.bare s)
bare j = j

abbrev pub Shows : Job → ℕ → Option BodyValue → Type 0
Shows (jobs.Instruction i) found got = instructions.Shows i found got
Shows (jobs.Copying c) found got = copyings.Shows c found got
Shows (jobs.Evict e) found got = evicts.Shows e found got
Shows (jobs.Prctl p) found got = prctls.Shows p found
Shows (jobs.Fork f) found got = forks.Shows f
Shows (jobs.Raise r) found got = raises.Shows r found got
Shows (jobs.Scrub s) found got = scrubs.Shows s found got
Shows (jobs.Inject i) found got = injects.Shows i found got
Shows (jobs.Soft s) found got = softs.Shows s found got
Shows _ found got = Unit {0}

abbrev pub Next : Layout → Job → ℕ → Option BodyValue → Job → Turn → Type 0
Next layout (jobs.Instruction i) found got after turn = (k : Instruction) × (after ≡ jobs.Instruction k) × instructions.Follows layout i found got k turn
Next layout (jobs.Copying c) found got after turn = (k : Copying) × (after ≡ jobs.Copying k) × copyings.Follows layout c found got k turn
Next layout (jobs.Evict e) found got after turn = (f : Evict) × (after ≡ jobs.Evict f) × evicts.Follows e found got f turn
Next layout (jobs.Fsync f) found got after turn = (after ≡ jobs.Fsync (fsyncs.next f found)) × (turn ≡ fsyncs.turn f found)
Next layout (jobs.Prctl p) found got after turn = (after ≡ jobs.Prctl (prctls.next p found)) × (turn ≡ Moved)
Next layout (jobs.Fork f) found got after turn = (after ≡ jobs.Fork (forks.next f found)) × (turn ≡ Moved)
Next layout (jobs.Log l) found got after turn = (after ≡ jobs.Log (logs.next l found)) × (turn ≡ Moved)
Next layout (jobs.Raise r) found got after turn = (k : Raise) × (after ≡ jobs.Raise k) × raises.Follows layout r found got k turn
Next layout (jobs.Scrub s) found got after turn = (k : Scrub) × (after ≡ jobs.Scrub k) × scrubs.Follows layout s found got k turn
Next layout (jobs.Spoil s) found got after turn = (after ≡ jobs.Spoil (spoils.next s found)) × (turn ≡ Moved)
Next layout (jobs.Nested n) found got after turn = (after ≡ jobs.Nested (nesteds.next n found)) × (turn ≡ nesteds.turn n found)
Next layout (jobs.Inject i) found got after turn = (k : Inject) × (after ≡ jobs.Inject k) × injects.Follows layout i found got k turn
Next layout (jobs.Soft s) found got after turn = (k : Soft) × (after ≡ jobs.Soft k) × softs.Follows layout s found got k turn
Next layout (jobs.Unpoison u) found got after turn = (after ≡ jobs.Unpoison (unpoisons.next u found)) × (turn ≡ unpoisons.turn u found)
Next layout (jobs.Denied d) found got after turn = (after ≡ jobs.Denied (denieds.next d found)) × (turn ≡ Moved)

-- The task fits where its command had made these entries before. An instruction, an eviction and a soft offline may be a later part of
-- their command, and so may a copying store; each other command is one part, and had made none.
abbrev pub FitsFrom : List Made → Layout → View → Job → Type 0
FitsFrom base layout view (jobs.Instruction i) = instruction_fits.FitsFrom base layout view i
FitsFrom base layout view (jobs.Copying c) = copying_fits.FitsFrom base layout view c
FitsFrom base layout view (jobs.Evict e) = evicts.FitsFrom base layout view e
FitsFrom base layout view (jobs.Fsync f) = (base ≡ []) × fsyncs.Fits layout view f
FitsFrom base layout view (jobs.Prctl p) = (base ≡ []) × prctls.Fits layout view p
FitsFrom base layout view (jobs.Fork f) = (base ≡ []) × forks.Fits layout view f
FitsFrom base layout view (jobs.Log l) = (base ≡ []) × logs.Fits layout view l
FitsFrom base layout view (jobs.Raise r) = (base ≡ []) × raise_fits.Fits layout view r
FitsFrom base layout view (jobs.Scrub s) = (base ≡ []) × scrub_fits.Fits layout view s
FitsFrom base layout view (jobs.Spoil s) = (base ≡ []) × spoils.Fits layout view s
FitsFrom base layout view (jobs.Nested n) = (base ≡ []) × nesteds.Fits layout view n
FitsFrom base layout view (jobs.Inject i) = (base ≡ []) × injects.Fits layout view i
FitsFrom base layout view (jobs.Soft s) = offline.FitsFrom base layout view s
FitsFrom base layout view (jobs.Unpoison u) = (base ≡ []) × unpoisons.Fits layout view u
FitsFrom base layout view (jobs.Denied d) = (base ≡ []) × denieds.Fits layout view d

-- whatever it had made
abbrev pub Fits : Layout → View → Job → Type 0
Fits layout view j = (base : List Made) × FitsFrom base layout view j

abbrev pub class : Job → ℕ
class (jobs.Instruction i) = instruction_costs.class i
class (jobs.Copying c) = copying_costs.class c
class (jobs.Evict e) = evicts.class e
class (jobs.Raise r) = raise_costs.class r
class (jobs.Scrub s) = scrub_costs.class s
class (jobs.Inject i) = injects.class i
class (jobs.Soft s) = softs.class s
class (jobs.Unpoison u) = unpoisons.class u
class _ = 4

abbrev pub cost : Job → Words → ℕ
cost (jobs.Instruction i) words = instruction_costs.cost i words
cost (jobs.Copying c) words = copying_costs.cost c words
cost (jobs.Evict e) words = evicts.cost e words
cost (jobs.Fsync f) words = fsyncs.cost f words
cost (jobs.Prctl p) words = prctls.cost p
cost (jobs.Fork f) words = forks.cost f
cost (jobs.Log l) words = logs.cost l
cost (jobs.Raise r) words = raise_costs.cost r words
cost (jobs.Scrub s) words = scrub_costs.cost s words
cost (jobs.Spoil s) words = spoils.cost s
cost (jobs.Nested n) words = nesteds.cost n
cost (jobs.Inject i) words = injects.cost i words
cost (jobs.Soft s) words = softs.cost s words
cost (jobs.Unpoison u) words = unpoisons.cost u words
cost (jobs.Denied d) words = denieds.cost d

abbrev pub claims : Job → Option (Frame × ℕ)
claims (jobs.Instruction i) = instruction_costs.claims i
claims (jobs.Copying c) = copying_costs.claims c
claims (jobs.Raise r) = raise_costs.claims r
claims (jobs.Scrub s) = scrub_costs.claims s
claims (jobs.Inject i) = injects.claims i
claims (jobs.Soft s) = softs.claims s
claims _ = None

abbrev pub aborts : Job → Bool
aborts (jobs.Instruction i) = instruction_costs.aborts i
aborts (jobs.Copying c) = copying_costs.aborts c
aborts (jobs.Raise r) = raise_costs.aborts r
aborts (jobs.Scrub s) = scrub_costs.aborts s
aborts (jobs.Inject i) = injects.aborts i
aborts (jobs.Soft s) = softs.aborts s
aborts _ = false

-- ---- what it comes to

-- what was done about the events of its machine checks
abbrev pub told_of : Job → List EventOutcome
told_of (jobs.Instruction i) = i.lines.told
told_of (jobs.Copying c) = c.instruction.lines.told
told_of (jobs.Raise r) = r.lines.told
told_of (jobs.Scrub s) = s.lines.told
told_of _ = []

abbrev pub answer : Job → Option Answer
answer (jobs.Instruction i) = option_map instruction_answer (instructions.answer i)
answer (jobs.Copying c) = option_map instruction_answer (copyings.answer c)
answer (jobs.Evict e) = option_map evict_answer (evicts.answer e)
answer (jobs.Fsync f) = option_map fsync_answer (fsyncs.answer f)
answer (jobs.Prctl p) = option_map prctl_answer (prctls.answer p)
answer (jobs.Fork f) = option_map fork_answer (forks.answer f)
answer (jobs.Log l) = option_map read_stop_answer (logs.answer l)
answer (jobs.Raise r) = option_map (raise_answer (length r.lines.told)) (raises.answer r)
answer (jobs.Scrub s) = option_map (scrub_answer (length s.lines.told)) (scrubs.answer s)
answer (jobs.Spoil s) = option_map spoil_answer (spoils.answer s)
answer (jobs.Nested n) = option_map nested_answer (nesteds.answer n)
answer (jobs.Inject i) = option_map fail_answer (injects.answer i)
answer (jobs.Soft s) = option_map soft_answer (softs.answer s)
answer (jobs.Unpoison u) = option_map unpoison_answer (unpoisons.answer u)
answer (jobs.Denied d) = option_map (denied_answer d.why) (denieds.answer d)

-- what it answers of an access that its guest doesn't admit
abbrev pub denial_of : Job → Option Answer
denial_of (jobs.Denied d) = Some (denial_answer d.why)
denial_of _ = None

-- what a failure found where it poisoned its frame
abbrev pub own_by : Frame → Option FailAnswer → Option FrameChange
own_by frame (Some (fail_answers.Done found)) = Some (owns.Failed frame found)
own_by frame _ = None

-- a frame that was taken out of use, and whether a page left it
abbrev pub offlined_by : Frame → SoftAnswer → Option FrameChange
offlined_by frame (soft_answers.Moved to at cycle) = Some (owns.Offlined frame cycle true)
offlined_by frame (soft_answers.TakenFree cycle) = Some (owns.Offlined frame cycle false)
offlined_by frame _ = None

-- a frame whose poison was taken back
abbrev pub revived_by : Frame → UnpoisonAnswer → Option FrameChange
revived_by frame (unpoison_answers.Done cycle) = Some (owns.Revived frame cycle)
revived_by frame _ = None

-- what the command did to a frame itself
abbrev pub own_of : Job → Option FrameChange
own_of (jobs.Inject i) = own_by i.frame (injects.answer i)
own_of (jobs.Soft s) = option_and_then (offlined_by s.frame) (softs.answer s)
own_of (jobs.Unpoison u) = option_and_then (revived_by u.frame) (unpoisons.answer u)
own_of _ = None

abbrev pub row : List EventOutcome → List Offlining → Option FrameChange → Answer → Row
row told offlined own answer = record { told = told; offlined = offlined; own = own; guest = None; answer = answer }

-- its row, with the frames that were taken out of use beside it
abbrev pub row_of : Job → Answer → List Offlining → Row
row_of j answer offlined = row (told_of j) offlined (own_of j) answer

-- ---- beside it

-- it pauses behind a machine check that kept an event
abbrev pub pauses : Job → Bool
pauses (jobs.Instruction i) = is_some (instructions.pause i)
pauses (jobs.Copying c) = is_some (copyings.pause c)
pauses _ = false

-- behind its pause
abbrev pub resume : Job → Job
resume (jobs.Instruction i) = jobs.Instruction (instructions.resume i)
resume (jobs.Copying c) = jobs.Copying (copyings.resume c)
resume j = j

-- its next step gives it up, where it can have event lines
abbrev pub give_up : Job → Job
give_up (jobs.Instruction i) = jobs.Instruction (instructions.give_up i)
give_up (jobs.Copying c) = jobs.Copying (copyings.give_up c)
give_up (jobs.Raise r) = jobs.Raise (raises.give_up r)
give_up (jobs.Scrub s) = jobs.Scrub (scrubs.give_up s)
give_up j = j

-- ---- the banks

-- those of a command that can log or raise an event, which takes what the banks of its processor hold
abbrev pub own_banks : Job → Option Banks
own_banks (jobs.Instruction i) = Some i.banks
own_banks (jobs.Copying c) = Some c.instruction.banks
own_banks (jobs.Log l) = Some l.banks
own_banks (jobs.Raise r) = Some r.banks
own_banks (jobs.Scrub s) = Some s.banks
own_banks _ = None

-- what the processor keeps in its banks while the command runs, and what they hold after it
abbrev pub left_in : Job → Banks → Banks
left_in j kept = cond (is_some (own_banks j)) empty_banks kept

abbrev pub banks_after : Job → Banks → Banks
banks_after j kept = unwrap_or (own_banks j) kept

-- what they held at its beginning
abbrev pub banks_before : Job → Banks → Banks
banks_before (jobs.Instruction i) kept = i.before.value
banks_before (jobs.Copying c) kept = c.instruction.before.value
banks_before (jobs.Log l) kept = l.before.value
banks_before (jobs.Raise r) kept = r.before.value
banks_before (jobs.Scrub s) kept = s.before.value
banks_before _ kept = kept

-- the task, as the laws of tasks read it
abbrev pub task : Member Job
task = record {
  who = who;
  plan = plan;
  put = put;
  bare = bare;
  shows = Shows;
  next = Next;
  fits = Fits;
  class = class;
  cost = cost;
  aborts = aborts;
  claims = claims;
}
