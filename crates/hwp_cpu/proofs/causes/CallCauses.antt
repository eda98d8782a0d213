-- Why a command that makes no entry is answered so: of a file's losses, of an event that is logged, of damage to a line, and of a
-- thread's policy.
use Rattle.std.proofs.Common.{◌≡◌, ℕ, ◌<◌, eq-eqb, Bool, false, true, cond, List, [], ◌∷◌, ◌++◌, None, Option, Some, map, refl, sym, ap, ◌∙◌, subst, inl, inr}
use Rattle.std.specs.List.{cons_option, fold}
use Rattle.std.specs.Option.{option_map}
use Rattle.std.proofs.lemmas.List.{append-nil, map-append, same_from_push}
use Rattle.hwp_law_served.specs.hwp_geom.declared.Damage.{Damage}
use Rattle.hwp_law_served.specs.hwp_geom.declared.Damage.TheVariants as damages
use Rattle.hwp_law_served.specs.hwp_geom.declared.FileNo.{FileNo}
use Rattle.hwp_law_served.specs.hwp_geom.declared.Frame.{Frame}
use Rattle.hwp_law_served.specs.hwp_geom.declared.Layout.{Layout}
use Rattle.hwp_law_served.specs.hwp_geom.declared.Thread.{Thread}
use Rattle.hwp_law_served.specs.hwp_geom.declared.ThreadDecl.{ThreadDecl}
use Rattle.hwp_law_served.specs.hwp_geom.declared.Who.{Who}
use Rattle.hwp_law_served.specs.hwp_geom.Limits.{line_limit}
use Rattle.hwp_law_served.specs.hwp_kill.declared.Policy.{Policy}
use Rattle.hwp_law_served.specs.hwp_kill.declared.Policy.TheVariants as policy_names
use Rattle.hwp_law_served.specs.hwp_kill.declared.Reply.{Reply}
use Rattle.hwp_law_served.specs.hwp_kill.declared.Reply.TheVariants as replies
use Rattle.hwp_law_served.specs.hwp_kill.Prctl.{reply}
use Rattle.hwp_law_served.specs.hwp_core_rule.declared.SharedWord.TheVariants as places
use Rattle.hwp_law_served.specs.hwp_core_rule.declared.Setting.{Setting}
use Rattle.hwp_law_served.specs.hwp_core_rule.declared.View.{View}
use Rattle.hwp_law_served.specs.hwp_core_rule.parts.Policies.{last_policy, settings_of}
use Rattle.hwp_law_served.specs.hwp_script_words.declared.Command.{Command}
use Rattle.hwp_law_served.specs.hwp_script_words.declared.Command.TheVariants as commands
use Rattle.hwp_law_served.specs.hwp_script_words.declared.PrctlArgs.{PrctlArgs}
use Rattle.hwp_law_served.specs.hwp_report_text.declared.Answer.{Answer}
use Rattle.hwp_law_served.specs.hwp_law.Outcomes.{reply_answer}
use Rattle.hwp_law_served.specs.hwp_banks.Banks.{Banks, raw_event}
use Rattle.hwp_law_served.specs.hwp_law.Settings.{arguments, settings}
use Rattle.hwp_law_served.specs.hwp_law.Settings as laws
use Rattle.hwp_law_served.specs.hwp_core_rule.Known.{HasMadeNone, Saw}
use Rattle.hwp_cpu_command.specs.hwp_cpu_control.declared.NestedAnswer.{NestedAnswer}
use Rattle.hwp_cpu_command.specs.hwp_cpu_control.declared.NestedAnswer.TheVariants as nested_answers
use Rattle.hwp_cpu_command.specs.hwp_cpu_control.declared.Nested.{Nested}
use Rattle.hwp_cpu_command.specs.hwp_cpu_control.declared.Prctl.{Prctl}
use Rattle.hwp_cpu_command.specs.hwp_cpu_control.declared.PrctlAnswer.{PrctlAnswer}
use Rattle.hwp_cpu_command.specs.hwp_cpu_control.declared.PrctlAnswer.TheVariants as prctl_answers
use Rattle.hwp_cpu_command.specs.hwp_cpu_control.declared.ReadStopAnswer.{ReadStopAnswer}
use Rattle.hwp_cpu_command.specs.hwp_cpu_control.declared.ReadStopAnswer.TheVariants as read_answers
use Rattle.hwp_cpu_command.specs.hwp_cpu_control.declared.Spoil.{Spoil}
use Rattle.hwp_cpu_command.specs.hwp_cpu_control.declared.SpoilAnswer.{SpoilAnswer}
use Rattle.hwp_cpu_command.specs.hwp_cpu_control.declared.SpoilAnswer.TheVariants as spoil_answers
use Rattle.hwp_cpu_command.specs.hwp_cpu_control.declared.nested.NestedAt.TheVariants as nested_at
use Rattle.hwp_cpu_command.specs.hwp_cpu_control.declared.prctl.PrctlAt.{PrctlAt}
use Rattle.hwp_cpu_command.specs.hwp_cpu_control.declared.prctl.PrctlAt.TheVariants as prctl_at
use Rattle.hwp_cpu_command.specs.hwp_cpu_control.declared.read_stop.ReadStopAt.TheVariants as read_at
use Rattle.hwp_cpu_command.specs.hwp_cpu_control.declared.spoil.SpoilAt.TheVariants as spoil_at
use Rattle.hwp_cpu_command.specs.hwp_cpu_control.Nesteds as nesteds
use Rattle.hwp_cpu_command.specs.hwp_cpu_control.Prctls as prctls
use Rattle.hwp_cpu_command.specs.hwp_cpu_control.ReadStops as read_stops
use Rattle.hwp_cpu_command.specs.hwp_cpu_control.Spoils as spoils
use Rattle.hwp_law_served.specs.hwp_evict.declared.Fsync.{Fsync}
use Rattle.hwp_law_served.specs.hwp_evict.declared.FsyncAnswer.{FsyncAnswer}
use Rattle.hwp_law_served.specs.hwp_evict.declared.FsyncAnswer.TheVariants as fsync_answers
use Rattle.hwp_law_served.specs.hwp_evict.declared.fsync.FsyncAt.TheVariants as fsync_at
use Rattle.hwp_law_served.specs.hwp_evict.Fsyncs as fsyncs
use Rattle.hwp_law_served.specs.hwp_claim.declared.EventOutcome.{EventOutcome}
use Rattle.hwp_cpu_command.specs.hwp_scrub.declared.LocalChange.{LocalChange}
use Rattle.hwp_cpu_command.specs.hwp_scrub.declared.LocalChange.TheVariants as changes
use Rattle.hwp_cpu_command.specs.hwp_scrub.declared.Log.{Log}
use Rattle.hwp_cpu_command.specs.hwp_scrub.Logs as logs
use Rattle.hwp_law_served.specs.hwp_cpu_row.declared.FrameChange.{FrameChange}
use Rattle.hwp_cpu_command.specs.declared.Job.{Job}
use Rattle.hwp_cpu_command.specs.declared.Job.TheVariants as jobs
use Rattle.hwp_cpu_command.specs.Answers.{fsync_answer, nested_answer, prctl_answer, read_stop_answer, spoil_answer}
use Rattle.hwp_cpu_command.specs.Begins.{BeginsFsync, BeginsLog, BeginsPrctl, BeginsSpoil}
use Rattle.hwp_cpu_command.specs.FileHandles.{HasHandle, IsToldBy}
use Rattle.hwp_cpu_command.specs.Jobs.{FitsFrom, answer}
use Rattle.hwp_cpu_command.specs.Runs.{anew}
use Rattle.hwp_cpu_command.specs.Settings.{AreCounted, of_thread, policies_in, set_at}
use Rattle.hwp_cpu_command.proofs.JobEnds.{fsync-over, mapped, nested-over, prctl-over, read-over, spoil-over}
use Rattle.hwp_cpu_command.proofs.OfKind.{of-fsync, of-log, of-nested, of-prctl, of-spoil}
use Rattle.hwp_law_served.specs.Causes.{IsAnswerCaused, IsReplied, SawProcess}
use Rattle.hwp_law_served.specs.Served.{spoiling}
use Rattle.hwp_cpu.proofs.causes.StopCauses.{found-stopped}

-- ---- the losses of a file

-- what an `fsync` or an `open` knows of its answer
pub record KnowsLosses (layout : Layout) (view : View) (who : Who) (file : FileNo) (opens : Bool) (answer : Answer) : Type 0 where
  pub own : FsyncAnswer
  pub answer_is : fsync_answer own ≡ answer
  pub handle : ℕ
  pub number : ℕ
  pub caused : fsyncs.IsCaused layout view who file handle number own
  pub told : IsToldBy opens (fsync_at.Over own number)
  pub made_none : HasMadeNone view who

pub knows-losses : {layout : Layout} {view : View} {who : Who} {file : FileNo} {opens : Bool} (j : Job) {a : Answer} → BeginsFsync layout who file opens (anew j) → FitsFrom [] layout view j → answer j ≡ Some a → (handles : List ℕ) → HasHandle handles j
    → KnowsLosses layout view who file opens a
knows-losses {layout} {view} {who} {file} {opens} j {a} runs fits is handles has = subst (λ (f : Fsync). KnowsLosses layout view f.who f.file f.opens a) task.2 (record {
  own = own.0;
  answer_is = own.2;
  handle = task.0.handle;
  number = fsyncs.number task.0;
  caused = subst (fsyncs.FitsAt layout view task.0.who task.0.file task.0.handle) over fit.at;
  told = subst (IsToldBy task.0.opens) over (subst (HasHandle handles) task.1 has).1;
  made_none = fit.made_none;
})
  where
    task : (f : Fsync) × (j ≡ jobs.Fsync f) × (fsyncs.begin f.who f.file f.handle f.opens ≡ fsyncs.begin who file runs.1 opens)
    task = of-fsync j runs.2

    own : (x : FsyncAnswer) × (fsyncs.answer task.0 ≡ Some x) × (fsync_answer x ≡ a)
    own = mapped fsync_answer (fsyncs.answer task.0) (sym (ap answer task.1) ∙ is)

    fit : fsyncs.Fits layout view task.0
    fit = (subst (FitsFrom [] layout view) task.1 fits).1

    over : task.0.at ≡ fsync_at.Over own.0 (fsyncs.number task.0)
    over = fsync-over task.0 own.1

module _ (layout : Layout) (earlier : List (Command × Answer)) (view : View) (who : Who) (file : FileNo) (told : List EventOutcome) (did : Option FrameChange) (handle number : ℕ) (none : HasMadeNone view who) where
  asked : (x : FsyncAnswer) → fsyncs.IsCaused layout view who file handle number x → IsToldBy false (fsync_at.Over x number) → IsAnswerCaused layout earlier view who (commands.Fsync file) told did (fsync_answer x)
  asked fsync_answers.Stopped caused by = found-stopped layout (commands.Fsync file) view who (inl caused.0) none
  asked fsync_answers.Done caused by = none
  asked (fsync_answers.Eio more) caused by = (none, caused.0)
  asked (fsync_answers.Opened lost) caused by = absurd by

  opened : (x : FsyncAnswer) → fsyncs.IsCaused layout view who file handle number x → IsToldBy true (fsync_at.Over x number) → IsAnswerCaused layout earlier view who (commands.Open file) told did (fsync_answer x)
  opened fsync_answers.Stopped caused by = found-stopped layout (commands.Open file) view who (inl caused.0) none
  opened fsync_answers.Done caused by = absurd by
  opened (fsync_answers.Eio more) caused by = absurd by
  opened (fsync_answers.Opened lost) caused by = none

module _ {layout : Layout} (earlier : List (Command × Answer)) {view : View} {who : Who} {file : FileNo} {a : Answer} (told : List EventOutcome) (did : Option FrameChange) where
  pub fsync-caused : KnowsLosses layout view who file false a → IsAnswerCaused layout earlier view who (commands.Fsync file) told did a
  fsync-caused k = subst (IsAnswerCaused layout earlier view who (commands.Fsync file) told did) k.answer_is (asked layout earlier view who file told did k.handle k.number k.made_none k.own k.caused k.told)

  pub open-caused : KnowsLosses layout view who file true a → IsAnswerCaused layout earlier view who (commands.Open file) told did a
  open-caused k = subst (IsAnswerCaused layout earlier view who (commands.Open file) told did) k.answer_is (opened layout earlier view who file told did k.handle k.number k.made_none k.own k.caused k.told)

-- ---- commands of machine checks

-- what a command that changes its processor alone knows of its answer
record KnowsLog (view : View) (who : Who) (answer : Answer) : Type 0 where
  own : ReadStopAnswer
  answer_is : read_stop_answer own ≡ answer
  has : read_stops.FitsAt view who (read_at.Over own)
  made : HasMadeNone view who

knows-log : (layout : Layout) (view : View) {who : Who} {change : LocalChange} {banks : Banks} (j : Job) {a : Answer} → BeginsLog layout who change banks (anew j) → FitsFrom [] layout view j → answer j ≡ Some a → KnowsLog view who a
knows-log layout view {who} {change} {banks} j {a} runs fits is = subst (λ (l : Log). KnowsLog view l.read.who a) task.2 (record {
  own = own.0;
  answer_is = own.2;
  has = subst (read_stops.FitsAt view task.0.read.who) (read-over task.0.read own.1) fit.read.at;
  made = fit.read.made;
})
  where
    task : (l : Log) × (j ≡ jobs.Log l) × (logs.begin l.read.who l.change l.before.value ≡ logs.begin who change banks)
    task = of-log j runs.job_is

    own : (x : ReadStopAnswer) × (logs.answer task.0 ≡ Some x) × (read_stop_answer x ≡ a)
    own = mapped read_stop_answer (logs.answer task.0) (sym (ap answer task.1) ∙ is)

    fit : logs.Fits layout view task.0
    fit = (subst (FitsFrom [] layout view) task.1 fits).1

pub log-caused : (layout : Layout) (earlier : List (Command × Answer)) (view : View) (told : List EventOutcome) (did : Option FrameChange) {who : Who} {status addr misc : ℕ} {banks : Banks} (j : Job) {a : Answer} → BeginsLog layout who (changes.Event (raw_event status addr misc)) banks (anew j) → FitsFrom [] layout view j → answer j ≡ Some a
    → IsAnswerCaused layout earlier view who (commands.Log status addr misc) told did a
log-caused layout earlier view told did {who} {status} {addr} {misc} j {a} runs fits is = subst (IsAnswerCaused layout earlier view who (commands.Log status addr misc) told did) k.answer_is (by k.own k.has)
  where
    k : KnowsLog view who a
    k = knows-log layout view j runs fits is

    by : (x : ReadStopAnswer) → read_stops.FitsAt view who (read_at.Over x) → IsAnswerCaused layout earlier view who (commands.Log status addr misc) told did (read_stop_answer x)
    by read_answers.Stopped has = found-stopped layout (commands.Log status addr misc) view who (inl has) k.made
    by read_answers.Done has = k.made

pub watch-caused : (layout : Layout) (earlier : List (Command × Answer)) (view : View) (told : List EventOutcome) (did : Option FrameChange) {who : Who} {threshold window : ℕ} {banks : Banks} (j : Job) {a : Answer} → BeginsLog layout who (changes.Watch threshold window) banks (anew j) → FitsFrom [] layout view j → answer j ≡ Some a
    → IsAnswerCaused layout earlier view who (commands.Watch threshold window) told did a
watch-caused layout earlier view told did {who} {threshold} {window} j {a} runs fits is = subst (IsAnswerCaused layout earlier view who (commands.Watch threshold window) told did) k.answer_is (by k.own k.has)
  where
    k : KnowsLog view who a
    k = knows-log layout view j runs fits is

    by : (x : ReadStopAnswer) → read_stops.FitsAt view who (read_at.Over x) → IsAnswerCaused layout earlier view who (commands.Watch threshold window) told did (read_stop_answer x)
    by read_answers.Stopped has = found-stopped layout (commands.Watch threshold window) view who (inl has) k.made
    by read_answers.Done has = k.made

pub nested-caused : (layout : Layout) (earlier : List (Command × Answer)) (view : View) (told : List EventOutcome) (did : Option FrameChange) {who : Who} (j : Job) {a : Answer} → anew j ≡ jobs.Nested (nesteds.begin who) → FitsFrom [] layout view j → answer j ≡ Some a → IsAnswerCaused layout earlier view who commands.RaiseNested told did a
nested-caused layout earlier view told did {who} j {a} runs fits is =
    subst (λ (n : Nested). IsAnswerCaused layout earlier view n.who commands.RaiseNested told did a) task.2
    (subst (IsAnswerCaused layout earlier view task.0.who commands.RaiseNested told did) own.2 (by own.0 (subst (nesteds.FitsAt view task.0.who) (nested-over task.0 own.1) fit.at)))
  where
    task : (n : Nested) × (j ≡ jobs.Nested n) × (nesteds.begin n.who ≡ nesteds.begin who)
    task = of-nested j runs

    own : (x : NestedAnswer) × (nesteds.answer task.0 ≡ Some x) × (nested_answer x ≡ a)
    own = mapped nested_answer (nesteds.answer task.0) (sym (ap answer task.1) ∙ is)

    fit : nesteds.Fits layout view task.0
    fit = (subst (FitsFrom [] layout view) task.1 fits).1

    by : (x : NestedAnswer) → nesteds.FitsAt view task.0.who (nested_at.Over (Some x)) → IsAnswerCaused layout earlier view task.0.who commands.RaiseNested told did (nested_answer x)
    by nested_answers.Shutdown has = found-stopped layout commands.RaiseNested view task.0.who (inr has) fit.made
    by nested_answers.Stopped has = found-stopped layout commands.RaiseNested view task.0.who (inl has) fit.made

-- ---- damage to a line

pub spoil-caused : (layout : Layout) (earlier : List (Command × Answer)) (view : View) (told : List EventOutcome) (did : Option FrameChange) {who : Who} {frame : Frame} {line : ℕ} {damage : Damage} (j : Job) {a : Answer} → BeginsSpoil layout who frame line damage (anew j) → FitsFrom [] layout view j → answer j ≡ Some a
    → IsAnswerCaused layout earlier view who (spoiling damage frame line) told did a
spoil-caused layout earlier view told did {who} {frame} {line} {damage} j {a} runs fits is =
    subst (λ (s : Spoil). IsAnswerCaused layout earlier view s.who (spoiling s.damage s.frame s.line) told did a) task.2
    (subst (IsAnswerCaused layout earlier view task.0.who (spoiling task.0.damage task.0.frame task.0.line) told did) own.2
    (by task.0.damage own.0 (subst (spoils.FitsAt view task.0.who task.0.frame task.0.line task.0.damage) (spoil-over task.0 own.1) fit.at)))
  where
    task : (s : Spoil) × (j ≡ jobs.Spoil s) × (spoils.begin s.who s.frame s.line s.damage ≡ spoils.begin who frame line damage)
    task = of-spoil j runs.job_is

    own : (x : SpoilAnswer) × (spoils.answer task.0 ≡ Some x) × (spoil_answer x ≡ a)
    own = mapped spoil_answer (spoils.answer task.0) (sym (ap answer task.1) ∙ is)

    fit : spoils.Fits layout view task.0
    fit = (subst (FitsFrom [] layout view) task.1 fits).1

    inside : task.0.line < line_limit
    inside = subst (λ (s : Spoil). s.line < line_limit) (sym task.2) runs.inside

    by : (d : Damage) (x : SpoilAnswer) → spoils.FitsAt view task.0.who task.0.frame task.0.line d (spoil_at.Over x) → IsAnswerCaused layout earlier view task.0.who (spoiling d task.0.frame task.0.line) told did (spoil_answer x)
    by damages.Bad spoil_answers.Stopped has = found-stopped layout (commands.Bad task.0.frame task.0.line) view task.0.who (inl has) fit.made
    by damages.Weak spoil_answers.Stopped has = found-stopped layout (commands.Weak task.0.frame task.0.line) view task.0.who (inl has) fit.made
    by damages.Bad spoil_answers.Done has = record { within = inside; spoiled = has; made = fit.made }
    by damages.Weak spoil_answers.Done has = record { within = inside; spoiled = has; made = fit.made }

-- ---- calls of prctl(2)

-- the last policy of some settings is that of their policies
pub last-same : (d : Policy) (l : List Setting) → last_policy d l ≡ fold (λ earlier later. later) d (map (λ (s : Setting). s.policy) l)
last-same d [] = refl
last-same d (s ∷ l) = last-same s.policy l

-- what a call has set for its own thread
own-set : (thread : Thread) (l : List Policy) → of_thread thread (map (λ (policy : Policy). (thread, policy)) l) ≡ l
own-set thread [] = refl
own-set thread (x ∷ xs) =
    ap (λ (b : Bool). cons_option (cond b (Some x) None) (of_thread thread (map (λ (policy : Policy). (thread, policy)) xs))) (eq-eqb thread.0 thread.0 refl)
    ∙ ap (λ (l : List Policy). x ∷ l) (own-set thread xs)

module _ (layout : Layout) (earlier : List (Command × Answer)) (view : View) (p : Prctl) (counted : AreCounted (λ (t : Thread). settings layout t earlier) view (jobs.Prctl p)) where
  counted-so : policies_in p.thread view ≡ settings layout p.thread earlier ++ set_at p.at
  counted-so = counted p.thread ∙ ap (λ (l : List Policy). settings layout p.thread earlier ++ l) (own-set p.thread (set_at p.at))

  -- what was set before the call is what the earlier commands set
  before-is : (policy : Policy) (before : List Setting) (last : Setting) → settings_of p.thread view.settings ≡ before ++ last ∷ [] → p.at ≡ prctl_at.Over (prctl_answers.Replied (replies.Set policy))
      → map (λ (s : Setting). s.policy) before ≡ settings layout p.thread earlier
  before-is policy before last all over = (same_from_push (map (λ (s : Setting). s.policy) before) (settings layout p.thread earlier) last.policy policy (
      sym (map-append (λ (s : Setting). s.policy) before (last ∷ []))
      ∙ sym (ap (map (λ (s : Setting). s.policy)) all)
      ∙ counted-so
      ∙ ap (λ (x : PrctlAt). settings layout p.thread earlier ++ set_at x) over
      )).0

  now-is : set_at p.at ≡ [] → policies_in p.thread view ≡ settings layout p.thread earlier
  now-is none = counted-so ∙ ap (λ (x : List Policy). settings layout p.thread earlier ++ x) none ∙ append-nil (settings layout p.thread earlier)

  -- the reply to the policies that were set before
  replied-so : (r : Reply) → p.at ≡ prctl_at.Over (prctl_answers.Replied r) → prctls.WasReplied view p.who p.thread p.arguments r
      → r ≡ reply (laws.last_policy (settings layout p.thread earlier)) p.arguments
  replied-so (replies.Set policy) over has =
      sym has.says ∙ ap (λ (x : Policy). reply x p.arguments) (last-same policy_names.Default has.before ∙ ap laws.last_policy (before-is policy has.before has.last has.all over))
  replied-so (replies.Is policy) over has =
      sym has ∙ ap (λ (x : Policy). reply x p.arguments) (last-same policy_names.Default (settings_of p.thread view.settings) ∙ ap laws.last_policy (now-is (ap set_at over)))
  replied-so replies.Einval over has =
      sym has ∙ ap (λ (x : Policy). reply x p.arguments) (last-same policy_names.Default (settings_of p.thread view.settings) ∙ ap laws.last_policy (now-is (ap set_at over)))

module _ {layout : Layout} (earlier : List (Command × Answer)) {view : View} (told : List EventOutcome) (did : Option FrameChange) (p : Prctl) (fits : prctls.Fits layout view p) where
  going : {word : ℕ} → Saw view p.who (places.Process p.process) word → SawProcess layout view p.who p.thread word
  going saw = record { process = p.process; process_is = ap (option_map (λ (t : ThreadDecl). t.process)) fits.declared ∙ ap Some fits.process_is; saw = saw }

  replied-caused : {args : PrctlArgs} → p.arguments ≡ arguments args → (r : Reply) → IsReplied layout earlier view p.who p.thread p.arguments (reply_answer r) → IsAnswerCaused layout earlier view p.who (commands.Prctl p.thread args) told did (reply_answer r)
  replied-caused same (replies.Set policy) has = subst (λ (given : List ℕ). IsReplied layout earlier view p.who p.thread given (reply_answer (replies.Set policy))) same has
  replied-caused same (replies.Is policy) has = subst (λ (given : List ℕ). IsReplied layout earlier view p.who p.thread given (reply_answer (replies.Is policy))) same has
  replied-caused same replies.Einval has = subst (λ (given : List ℕ). IsReplied layout earlier view p.who p.thread given (reply_answer replies.Einval)) same has

  called : {args : PrctlArgs} → p.arguments ≡ arguments args → (x : PrctlAnswer) → p.at ≡ prctl_at.Over x → prctls.FitsOver view p.who p.thread p.process p.arguments x → AreCounted (λ (t : Thread). settings layout t earlier) view (jobs.Prctl p)
      → IsAnswerCaused layout earlier view p.who (commands.Prctl p.thread args) told did (prctl_answer x)
  called {args} same prctl_answers.Stopped over has counted = found-stopped layout (commands.Prctl p.thread args) view p.who (inl has) fits.made
  called same (prctl_answers.Gone page) over has counted = (record { ended = going has }, fits.made)
  called same (prctl_answers.Replied r) over has counted =
      replied-caused same r (record { going = going has.0; made = fits.made; replied = ap reply_answer (replied-so layout earlier view p counted r over has.1) })

-- what is known of a call that has its answer
pub record KnowsPrctl (layout : Layout) (view : View) (who : Who) (thread : Thread) (args : PrctlArgs) (j : Job) (answer : Answer) : Type 0 where
  pub task : Prctl
  pub job_is : j ≡ jobs.Prctl task
  pub who_is : task.who ≡ who
  pub thread_is : task.thread ≡ thread
  pub arguments_are : task.arguments ≡ arguments args
  pub own : PrctlAnswer
  pub said : prctls.answer task ≡ Some own
  pub over : task.at ≡ prctl_at.Over own
  pub answer_is : prctl_answer own ≡ answer
  pub fits : prctls.Fits layout view task

pub knows-prctl : {layout : Layout} {view : View} {who : Who} {thread : Thread} {args : PrctlArgs} (j : Job) {a : Answer} → BeginsPrctl layout who thread args (anew j) → FitsFrom [] layout view j → answer j ≡ Some a → KnowsPrctl layout view who thread args j a
knows-prctl {layout} {view} {who} {thread} {args} j {a} runs fits is = record {
  task = task.0;
  job_is = task.1;
  who_is = ap (λ (p : Prctl). p.who) task.2;
  thread_is = ap (λ (p : Prctl). p.thread) task.2;
  arguments_are = ap (λ (p : Prctl). p.arguments) task.2;
  own = own.0;
  said = own.1;
  over = prctl-over task.0 own.1;
  answer_is = own.2;
  fits = (subst (FitsFrom [] layout view) task.1 fits).1;
}
  where
    task : (p : Prctl) × (j ≡ jobs.Prctl p) × (prctls.begin p.who p.thread p.process p.arguments ≡ prctls.begin who thread runs.decl.process (arguments args))
    task = of-prctl j runs.job_is

    own : (x : PrctlAnswer) × (prctls.answer task.0 ≡ Some x) × (prctl_answer x ≡ a)
    own = mapped prctl_answer (prctls.answer task.0) (sym (ap answer task.1) ∙ is)

pub prctl-caused : {layout : Layout} (earlier : List (Command × Answer)) (view : View) (told : List EventOutcome) (did : Option FrameChange) {who : Who} {thread : Thread} {args : PrctlArgs} (j : Job) {a : Answer} → BeginsPrctl layout who thread args (anew j) → FitsFrom [] layout view j → answer j ≡ Some a
    → AreCounted (λ (t : Thread). settings layout t earlier) view j → IsAnswerCaused layout earlier view who (commands.Prctl thread args) told did a
prctl-caused {layout} earlier view told did {who} {thread} {args} j {a} runs fits is counted =
    subst (λ (w : Who). IsAnswerCaused layout earlier view w (commands.Prctl thread args) told did a) k.who_is
    (subst (λ (t : Thread). IsAnswerCaused layout earlier view k.task.who (commands.Prctl t args) told did a) k.thread_is
    (subst (IsAnswerCaused layout earlier view k.task.who (commands.Prctl k.task.thread args) told did) k.answer_is
    (called earlier told did k.task k.fits k.arguments_are k.own k.over (subst (prctls.FitsAt view k.task.who k.task.thread k.task.process k.task.arguments) k.over k.fits.at)
    (subst (AreCounted (λ (t : Thread). settings layout t earlier) view) k.job_is counted))))
  where
    k : KnowsPrctl layout view who thread args j a
    k = knows-prctl j runs fits is
