-- A step of the command that runs leaves what the processor keeps.
use Rattle.hwp_cpu_row.specs.hwp_law.Cows.{Cow}
use Rattle.hwp_cpu_row.specs.hwp_geom.declared.VSlot.{VSlot}
use Rattle.hwp_cpu.proofs.causes.BesideKeeps.{offlinings-stay}
use Rattle.std.proofs.Common.{◌≡◌, ◌≢◌, ℕ, ◌⊎◌, inl, inr, false, List, [], Some, length, slice_get, refl, subst, sym, ap, ◌∙◌, arith, None, ◌<◌, map, Option, append-nil}
use Rattle.std.proofs.lemmas.Option.{none-some}
use Rattle.hwp_cpu_row.specs.hwp_geom.declared.Cpu.{Cpu}
use Rattle.hwp_cpu_row.specs.hwp_geom.declared.Layout.{Layout}
use Rattle.hwp_cpu_row.specs.hwp_geom.declared.Thread.{Thread}
use Rattle.hwp_cpu_row.specs.hwp_geom.declared.Who.{Who}
use Rattle.hwp_cpu_row.specs.hwp_script_words.declared.Command.{Command}
use Rattle.hwp_cpu_row.specs.hwp_law.Settings.{settings}
use Rattle.hwp_cpu_row.specs.hwp_core_rule.declared.SharedWord.TheVariants as places
use Rattle.hwp_cpu_row.specs.hwp_core_rule.declared.Step.{Step}
use Rattle.hwp_cpu_row.specs.hwp_core_rule.declared.View.{View}
use Rattle.hwp_cpu_row.specs.hwp_core_rule.Lists.{EachMember}
use Rattle.hwp_cpu_row.proofs.of_hwp_core_rule.Lists.{at_push}
use Rattle.hwp_cpu_row.specs.hwp_core_rule.Calls.{CanMake, IsOnTurn}
use Rattle.hwp_cpu_row.specs.hwp_core_rule.Known.{Saw, HasMadeNone}
use Rattle.hwp_cpu_row.specs.declared.Row.{Row}
use Rattle.hwp_cpu_row.specs.declared.Local.{Local}
use Rattle.hwp_cpu_row.specs.hwp_banks.Banks.{empty_banks, Banks}
use Rattle.hwp_cpu_command.specs.hwp_words.Stops.{is_stopped}
use Rattle.hwp_cpu_command.specs.declared.job.Job.{Job}
use Rattle.hwp_cpu_command.specs.Jobs as jobs
use Rattle.hwp_cpu_command.specs.Jobs.{banks_before, told_of, row}
use Rattle.hwp_cpu_command.specs.Runs.{Runs}
use Rattle.hwp_cpu_command.specs.Stays.{EndsStopped, Stepped, StopsItself, IsHalted, EndsAtOnce}
use Rattle.hwp_cpu_command.proofs.JobLaws as jobbing
use Rattle.hwp_cpu_command.proofs.JobEnds.{answered-over, ends}
use Rattle.hwp_cpu.proofs.commands.CommandRuns.{before-stays, runs-on, runs-who}
use Rattle.hwp_cpu.proofs.commands.HandleKeeps.{handle-stays}
use Rattle.hwp_cpu.proofs.commands.CommandStops.{halted-stays, has-stopped, looks-first, no-own-stop, stops-after, still-halted}
use Rattle.hwp_law_served.specs.Handles.{answers_by}
use Rattle.hwp_law_served.specs.Served.{IsOwnStop, SawRunning, HasStopped}
use Rattle.hwp_law_served.proofs.CommandKeeps.{row-stays, saw-running-stays, made-none-later}
use Rattle.hwp_law_served.proofs.Handles.{numbers-stay}
use Rattle.hwp_law_served.specs.Rows.{at_number}
use Rattle.hwp_cpu.specs.Serving.{HasStoppedIt, Serves, IsUnderWay, marked_so_far, KeepsWatch}
use Rattle.hwp_cpu.proofs.KnownPolicies.{counted-on}
use Rattle.hwp_cpu.proofs.ProcessorNotes.{listed-on, noted-on, spoils-on, account-beside, account-own}
use Rattle.hwp_law_served.proofs.Rows.{rows-stay}
use Rattle.hwp_cpu_row.specs.hwp_law.Watched.{told, due, Watched}
use Rattle.hwp_cpu.proofs.commands.TaskLeaves.{soft-leaves, Left}
use Rattle.hwp_cpu_row.proofs.of_hwp_core_rule.tasks.MadeEntries.{made-none}
use Rattle.hwp_cpu.proofs.commands.ToldGrows.{told-longer}
use Rattle.hwp_cpu.specs.declared.course.Course.{Course}
use Rattle.hwp_cpu.proofs.Marks.{GrowAlike, own-alike, beside-alike}
use Rattle.hwp_cpu_command.specs.hwp_soft.declared.Soft.{Soft}
use Rattle.hwp_cpu_row.specs.hwp_core_rule.declared.Setting.{Setting}
use Rattle.hwp_law_served.specs.Offlinings.{watched_at}
use Rattle.hwp_cpu.specs.Beside.{AddsBeside}
use Rattle.hwp_cpu_command.specs.Settings.{AreCounted}
use Rattle.hwp_cpu_row.specs.hwp_core_rule.declared.Spoiled.{Spoiled}
use Rattle.hwp_cpu_command.specs.Done.{marked_now}
use Rattle.hwp_cpu_row.specs.hwp_core_rule.parts.Policies.{settings_of}
use Rattle.hwp_cpu.proofs.EachKind.{on-turn, can-stop}
use Rattle.hwp_cpu_command.specs.declared.job.Job.TheVariants as kinds
use Rattle.hwp_cpu_command.specs.hwp_soft.Softs as softs
use Rattle.hwp_cpu.proofs.Collected.{keeps-longer}

-- a command that has stopped the machine makes no step
over : (layout : Layout) (command : Command) (rows : List Row) (who : Who) (j : Job) (step : Step) → HasStoppedIt layout command rows j who → jobs.plan j ≡ Some step → ⊥
over layout command rows who j step it is = none-some step (sym (answered-over j (has-stopped j it.has)) ∙ is)

-- ---- a step of the command, by its own task or beside it

module _ (layout : Layout) (old new : View) (cpu : Cpu) (list : List Command) (rows : List Row) (j k : Job) (own : jobs.who j ≡ at_number cpu (length rows)) (made : Stepped layout old new j k) where
  pub can : CanMake layout (jobs.who j) made.step (jobs.put j) old
  can = jobbing.can made.base layout old j made.step made.fits made.planned

  -- another command of the processor is another
  pub other : (n : ℕ) → n ≢ length rows → at_number cpu n ≢ jobs.who j
  other n differs same = differs (ap (λ (w : Who). w.seq) (same ∙ own))

  pub serves-on : (before : Banks) (handles : List ℕ) (cows : List Cow) → (HasStopped rows → IsHalted new) → Serves layout old cpu list rows before handles cows → Serves layout new cpu list rows before handles cows
  serves-on before handles cows halted was = record {
    rows_are = rows-stay layout old new cpu (length rows)
        (λ n earlier copied c b row d less served. row-stays can made.made (at_number cpu n) (other n (λ same. absurd (omega arith))) earlier copied c b row d served) [] 0 empty_banks list rows before (omega arith) was.rows_are;
    remembers = was.remembers;
    stays = was.stays;
    halted = halted;
    numbers = numbers-stay can made.made cpu list rows (let same : (jobs.who j).seq ≡ length rows = ap (λ (w : Who). w.seq) own in omega (arith, same)) was.numbers;
    handles_are = was.handles_are;
    due = was.due;
  }

  -- no later command makes an entry
  pub later-none : (q : ℕ) → length rows < q → HasMadeNone new (at_number cpu q)
  later-none q less = made-none-later can made.made (at_number cpu q) (other q (λ same. absurd (omega arith))) (made-none made.made (at_number cpu q) (length rows) less (subst (IsOnTurn old) own (on-turn made.base layout old j made.fits)).later)

  -- the collector is as it was
  pub collected-on : (watched : Option Watched) (c d : Course) → told_of d.own ≡ told_of c.own → d.noted ≡ c.noted → d.frames ≡ c.frames → d.watching ≡ c.watching → d.due ≡ c.due
      → KeepsWatch layout old (at_number cpu (length rows)) list watched c → KeepsWatch layout new (at_number cpu (length rows)) list watched d
  collected-on watched c d told noted frames watching due was = keeps-longer layout new (at_number cpu (length rows)) list watched c d ([], told ∙ sym (append-nil (told_of c.own))) noted frames watching due (offlined-on was)
    where
      offlined-on : KeepsWatch layout old (at_number cpu (length rows)) list watched c → KeepsWatch layout new (at_number cpu (length rows)) list watched c
      offlined-on has = record {
        few = has.few;
        frames_are = has.frames_are;
        watching = has.watching;
        room = has.room;
        due = has.due;
        frames = has.frames;
        offlined = offlinings-stay made.made (at_number cpu (length rows)) c.due.offlined has.offlined;
        behind = has.behind;
      }

-- ---- its own task goes on

module _ (layout : Layout) (old new : View) (cpu : Cpu) (list : List Command) (rows : List Row) (local : Local) (command : Command) (copies : Option VSlot) (c : Course) (k : Job) (way : IsUnderWay layout old cpu list rows local command copies c) (made : Stepped layout old new c.own k) where
  abbrev at : Who
  at = at_number cpu (length rows)

  abbrev next : Course
  next = record c { own = k }

  pub own : jobs.who c.own ≡ at
  own = runs-who layout at command copies c.own way.runs

  runs-still : Runs layout at command copies k
  runs-still = runs-on layout at command copies c.own k made.found made.got made.turn way.runs made.follows

  -- what the banks held before the command is as it was
  before : banks_before k local.banks ≡ banks_before c.own local.banks
  before = before-stays layout c.own k made.found made.got made.turn made.follows local.banks

  -- the step shows whether the machine has stopped, where the command had yet to look
  looked : EndsAtOnce k ⊎ SawRunning new at
  looked = which way.looked
    where
      first : EndsAtOnce k ⊎ ((is_stopped made.found ≡ false) × Saw new (jobs.who c.own) places.Stop made.found) → EndsAtOnce k ⊎ SawRunning new at
      first (inl ends) = inl ends
      first (inr clear) = inr (record { word = made.found; running = clear.0; saw = subst (λ (w : Who). Saw new w places.Stop made.found) own clear.1 })

      ended : EndsStopped c.own → EndsAtOnce k ⊎ SawRunning new at
      ended (inl start) = first (looks-first made start)
      ended (inr stopped) = absurd (none-some made.step (sym (answered-over c.own stopped) ∙ made.planned))

      which : EndsAtOnce c.own ⊎ SawRunning old at → EndsAtOnce k ⊎ SawRunning new at
      which (inl ends) = ended ends.0
      which (inr saw) = inr (saw-running-stays made.made saw)

  -- a stop of the machine is one from before, or that of this step
  stops : EachMember (λ (who : Who). IsOwnStop layout cpu list rows who ⊎ HasStoppedIt layout command rows k who) new.stops
  stops i who there = which (stops-after made)
    where
      early : IsOwnStop layout cpu list rows who ⊎ HasStoppedIt layout command rows c.own who → IsOwnStop layout cpu list rows who ⊎ HasStoppedIt layout command rows k who
      early (inl first) = inl first
      early (inr it) = absurd (over layout command rows who c.own made.step it made.planned)

      by-it : StopsItself c.own k old new → (slice_get old.stops i ≡ Some who) ⊎ (jobs.who c.own ≡ who) → IsOwnStop layout cpu list rows who ⊎ HasStoppedIt layout command rows k who
      by-it itself (inl was) = early (way.stops i who was)
      by-it itself (inr last) = inr (record {
        has = itself.has;
        can = can-stop made.base layout new at command copies k runs-still fits-still itself.has;
        who_is = runs-who layout at command copies k runs-still ∙ sym own ∙ last;
        first = λ some. no-own-stop (way.stopped some).0 itself;
      })
        where
          fits-still : jobs.FitsFrom made.base layout new k
          fits-still = ((jobbing.stays made.base layout old new c.own made.step made.found made.got made.fits made.planned made.made).1 k made.turn made.follows).0

      which : (new.stops ≡ old.stops) ⊎ StopsItself c.own k old new → IsOwnStop layout cpu list rows who ⊎ HasStoppedIt layout command rows k who
      which (inl same) = early (way.stops i who (sym (ap (λ (l : List Who). slice_get l i) same) ∙ there))
      which (inr itself) = by-it itself (at_push old.stops (jobs.who c.own) who i (sym (ap (λ (l : List Who). slice_get l i) itself.stops_are) ∙ there))

  pub way-own : c.beside ≡ None → IsUnderWay layout new cpu list rows local command copies next
  way-own none = record {
    serves = subst (λ (b : Banks). Serves layout new cpu list rows b local.handles local.cows) (sym before)
        (serves-on layout old new cpu list rows c.own k own made (banks_before c.own local.banks) local.handles local.cows (λ some. (halted-stays made (way.serves.halted some) (way.stopped some)).0) way.serves);
    next = way.next;
    runs = runs-still;
    handle = handle-stays layout local.handles c.own k made.found made.got made.turn made.follows way.handle;
    policies = counted-on made (λ (thread : Thread). settings layout thread (answers_by list rows)) way.policies;
    stopped = λ some. (halted-stays made (way.serves.halted some) (way.stopped some)).1;
    looked = looked;
    stops = stops;
    listed = listed-on made step-can own way.listed;
    account = account-own c k made step-can own none alike way.account;
    noted = noted-on made step-can own rows c next refl alike way.noted;
    spoiled = spoils-on made step-can own list rows way.spoiled;
    collected = keeps-longer layout new at list (watched_at layout list rows (length rows)) c next (told-longer layout c.own k made.found made.got made.turn made.follows) refl refl refl refl
        (collected-on layout old new cpu list rows c.own k own made (watched_at layout list rows (length rows)) c c refl refl refl refl refl way.collected);
  }
    where
      step-can : CanMake layout (jobs.who c.own) made.step (jobs.put c.own) old
      step-can = can layout old new cpu list rows c.own k own made

      alike : GrowAlike (marked_now c.own) (marked_now k) (marked_so_far c) (marked_so_far next)
      alike = own-alike layout c k made.found made.got made.turn made.follows way.collected.behind none

-- ---- a frame is taken out of use beside it

module _ (layout : Layout) (old new : View) (cpu : Cpu) (list : List Command) (rows : List Row) (local : Local) (command : Command) (copies : Option VSlot) (c : Course) (s t : Soft) (way : IsUnderWay layout old cpu list rows local command copies c) (own : s.who ≡ at_number cpu (length rows))
    (made : Stepped layout old new (kinds.Soft s) (kinds.Soft t)) (is : c.beside ≡ Some s) (adds : AddsBeside (at_number cpu (length rows)) old new) where
  abbrev later : Course
  later = record c { beside = Some t }

  step-can : CanMake layout s.who made.step (softs.put s) old
  step-can = can layout old new cpu list rows (kinds.Soft s) (kinds.Soft t) own made

  left : Left old new
  left = soft-leaves s made.planned made.made

  -- the policies that each thread has set are as they were
  counted-same : AreCounted (λ (thread : Thread). settings layout thread (answers_by list rows)) new c.own
  counted-same thread = ap (λ (l : List Setting). map (λ (x : Setting). x.policy) (settings_of thread l)) left.rest.settings ∙ way.policies thread

  pub way-beside : IsUnderWay layout new cpu list rows local command copies later
  way-beside = record {
    serves = serves-on layout old new cpu list rows (kinds.Soft s) (kinds.Soft t) own made (banks_before c.own local.banks) local.handles local.cows (λ some. still-halted made (way.serves.halted some)) way.serves;
    next = way.next;
    runs = way.runs;
    handle = way.handle;
    policies = counted-same;
    stopped = way.stopped;
    looked = elim way.looked [
      | inl ends ↦ inl ends
      | inr saw ↦ inr (saw-running-stays made.made saw)
    ];
    stops = λ i who there. way.stops i who (sym (ap (λ (l : List Who). slice_get l i) left.stops) ∙ there);
    listed = listed-on made step-can own way.listed;
    account = account-beside c s t made step-can own is adds way.account;
    noted = noted-on made step-can own rows c later refl (beside-alike c s t is) way.noted;
    spoiled = λ i x there. way.spoiled i x (sym (ap (λ (l : List Spoiled). slice_get l i) left.rest.spoiled) ∙ there);
    collected = collected-on layout old new cpu list rows (kinds.Soft s) (kinds.Soft t) own made (watched_at layout list rows (length rows)) c later refl refl refl refl refl way.collected;
  }
