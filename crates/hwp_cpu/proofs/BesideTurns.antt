-- A frame that is taken out of use beside a command: how that begins, goes on and ends, and how the command's own task goes on behind it.
use Rattle.hwp_cpu_command.specs.hwp_cpu_access.declared.Copying.{Copying}
use Rattle.hwp_cpu_command.specs.hwp_cpu_access.Copyings as copyings
use Rattle.hwp_cpu_command.specs.hwp_cpu_access.declared.copying.CopyingAt.{CopyingAt}
use Rattle.hwp_cpu_command.specs.hwp_cpu_access.declared.copying.CopyingAt.TheVariants as copying_at
use Rattle.hwp_cpu_command.proofs.of_hwp_cpu_access.CopyResting as copy-resting
use Rattle.hwp_cpu_command.specs.Runs.{Runs}
use Rattle.std.proofs.lemmas.Option.{none-some}
use Rattle.hwp_cpu_row.specs.hwp_report_text.declared.Answer.TheVariants as answers
use Rattle.hwp_cpu.specs.Beside.{ArePriorWith}
use Rattle.hwp_cpu.proofs.Collecting.{access-plain, prior-at-first}
use Rattle.hwp_cpu_row.specs.hwp_geom.declared.VSlot.{VSlot}
use Rattle.std.proofs.lemmas.Bool.{cases_lt}
use Rattle.hwp_cpu_command.proofs.of_hwp_cpu_access.Resting.{resumes}
use Rattle.hwp_cpu.specs.Courses.{part}
use Rattle.hwp_cpu_row.specs.Dues.{DueValue, next_due}
use Rattle.std.proofs.Common.{true, true≢false, subst, filter_map, ℕ, Some, Option, ◌++◌, ap, append-nil, None, refl, inr, ◌≡◌, is_some, List, ◌<◌, ◌≤◌, sym, length, inl, arith, ◌∙◌, [], ◌⊎◌}
use Rattle.hwp_cpu_row.specs.hwp_claim_frame.Done.{Marking}
use Rattle.hwp_cpu_command.specs.Stays.{EndsAtOnce, HasSpoiled}
use Rattle.std.specs.Prelude.{take}
use Rattle.std.proofs.lemmas.List.{length-map, take_all}
use Rattle.hwp_cpu.proofs.commands.Beside.{IsAtPause, IsSameBehind, job-at-pause, resume-goes}
use Rattle.hwp_law_served.specs.Accounts.{act_marking}
use Rattle.hwp_cpu.specs.Serving.{HasCopyPaused, Pauses, left_so_far, Rests, IsRunning, Serves, marked_so_far, IsUnderWay, IsPaused, HasToldAll, OwnGoesOn, KeepsWatch}
use Rattle.hwp_cpu.proofs.causes.OnTheWay.{runs-access, IsAccessOf, prior-behind}
use Rattle.hwp_cpu_command.specs.FileHandles.{HasHandle}
use Rattle.hwp_cpu_row.specs.declared.Local.{Local}
use Rattle.hwp_cpu.proofs.commands.CommandRuns.{runs-who, GoesOn as CommandGoesOn, runs-alike}
use Rattle.hwp_cpu_command.specs.Jobs.{told_of}
use Rattle.hwp_cpu.proofs.commands.CommandStops.{has-stopped}
use Rattle.hwp_cpu_row.specs.hwp_claim.declared.EventOutcome.{EventOutcome}
use Rattle.hwp_law_served.specs.Offlinings.{left_beside, left_by, watched_at}
use Rattle.hwp_cpu_row.specs.hwp_law.Settings.{settings}
use Rattle.hwp_cpu_row.specs.hwp_geom.declared.Layout.{Layout}
use Rattle.hwp_cpu_command.specs.Settings.{policies_now, of_thread}
use Rattle.hwp_cpu_row.specs.declared.Row.{Row}
use Rattle.hwp_cpu_row.specs.hwp_core_rule.Known.{deeds}
use Rattle.hwp_cpu_row.specs.Acts.{acts}
use Rattle.hwp_cpu_command.specs.Done.{HasCounted, marked_beyond}
use Rattle.hwp_cpu_row.specs.declared.Watching.{Watching}
use Rattle.hwp_cpu_command.specs.hwp_kill.declared.Policy.{Policy}
use Rattle.hwp_cpu_row.specs.hwp_banks.Banks.{Banks}
use Rattle.hwp_cpu.proofs.OwnRests.{HoldsNone}
use Rattle.hwp_cpu_row.specs.hwp_core_rule.declared.Spoiled.{Spoiled}
use Rattle.hwp_cpu_row.specs.hwp_geom.declared.Who.{Who}
use Rattle.hwp_cpu.proofs.Collected.{keeps-longer}
use Rattle.hwp_cpu_row.specs.hwp_geom.declared.Cpu.{Cpu}
use Rattle.hwp_law_served.specs.Handles.{answers_by}
use Rattle.hwp_cpu_row.specs.hwp_geom.declared.Thread.{Thread}
use Rattle.hwp_cpu.specs.declared.course.Course.{Course}
use Rattle.hwp_cpu_row.specs.hwp_core_rule.Calls.{IsOnTurn}
use Rattle.hwp_cpu_command.specs.Stays as stays
use Rattle.hwp_cpu_row.specs.hwp_geom.declared.Frame.{Frame}
use Rattle.hwp_cpu_command.specs.hwp_soft.declared.Soft.{Soft}
use Rattle.hwp_law_served.specs.Rows.{at_number}
use Rattle.hwp_cpu_command.specs.declared.job.Job.{Job}
use Rattle.hwp_cpu_row.specs.hwp_script_words.declared.Command.{Command}
use Rattle.hwp_cpu_row.specs.hwp_core_rule.declared.View.{View}
use Rattle.hwp_law_served.proofs.Rows.{past-end}
use Rattle.hwp_cpu_row.specs.declared.Offlining.{Offlining}
use Rattle.hwp_cpu_command.specs.hwp_cpu_access.declared.instruction.Pause.{Pause}
use Rattle.hwp_cpu_command.specs.hwp_cpu_access.declared.Instruction.{Instruction}
use Rattle.hwp_cpu_command.specs.hwp_soft.Softs as softs
use Rattle.hwp_cpu_command.specs.declared.job.Job.TheVariants as kinds
use Rattle.hwp_cpu_command.specs.Jobs as jobs
use Rattle.hwp_cpu_command.specs.hwp_cpu_access.Instructions as instructions

-- ---- where its own task rests

-- the course where no frame is taken out of use
abbrev pub at_rest : Course → Course
at_rest c = record c { beside = None }

-- the course with the same task of its own, and this beside it
abbrev pub with_rest : Option Soft → Option Watching → ℕ → DueValue → Course → Course
with_rest beside watching noted due c = record c { beside = beside; watching = watching; noted = noted; due = due }

-- it is under way, where it made as many marks, counted as many pages, and keeps its watch
pub way-with : {layout : Layout} {view : View} {cpu : Cpu} {list : List Command} {rows : List Row} {local : Local} {command : Command} {copies : Option VSlot} {c : Course} (beside : Option Soft) (watching : Option Watching) (noted : ℕ) (due : DueValue)
    → IsUnderWay layout view cpu list rows local command copies c → marked_so_far (with_rest beside watching noted due c) ≡ marked_so_far c → HasCounted (part (with_rest beside watching noted due c)) view
    → KeepsWatch layout view (at_number cpu (length rows)) list (watched_at layout list rows (length rows)) (with_rest beside watching noted due c) → IsUnderWay layout view cpu list rows local command copies (with_rest beside watching noted due c)
way-with beside watching noted due way marks counted keeps = record {
  serves = way.serves;
  next = way.next;
  runs = way.runs;
  handle = way.handle;
  policies = way.policies;
  stopped = way.stopped;
  looked = way.looked;
  stops = way.stops;
  listed = way.listed;
  account = record { marked = way.account.marked ∙ sym marks; failed = way.account.failed; set = way.account.set; counted = counted; losses = way.account.losses };
  noted = record { earlier = way.noted.earlier; last = way.noted.last; all = way.noted.all; noted = way.noted.noted; before = way.noted.before; own = way.noted.own; marked = way.noted.marked ∙ sym marks };
  spoiled = way.spoiled;
  collected = keeps;
}

-- all that it told is noted
abbrev pub HasNotedAll : Course → Type 0
HasNotedAll c = c.noted ≡ length (told_of c.own)

-- ---- the next frame

module _ (layout : Layout) (view : View) (cpu : Cpu) (list : List Command) (rows : List Row) (local : Local) (command : Command) (copies : Option VSlot) (c : Course) (way : IsUnderWay layout view cpu list rows local command copies (at_rest c)) (holds : HoldsNone view (at_number cpu (length rows)) (at_rest c))
    (rests : Rests layout view cpu list rows local command c.own) (noted : HasNotedAll c) where
  abbrev at : Who
  at = at_number cpu (length rows)

  owner : jobs.who c.own ≡ at
  owner = runs-who layout at command copies c.own way.runs

  module _ (frame : Frame) (is : next_due c.due ≡ Some frame) (within : frame.0 < layout.frames) where
    abbrev soft : Soft
    soft = softs.begin (jobs.who c.own) frame

    abbrev taking : Course
    taking = record c { beside = Some soft }

    marks : marked_so_far taking ≡ marked_so_far (at_rest c)
    marks = refl

    way-taking : IsUnderWay layout view cpu list rows local command copies taking
    way-taking = way-with (Some soft) c.watching c.noted c.due way marks (way.account.counted ∙ holds.unowed) (record {
      few = way.collected.few;
      frames_are = way.collected.frames_are;
      watching = way.collected.watching;
      room = way.collected.room;
      due = way.collected.due;
      frames = way.collected.frames;
      offlined = way.collected.offlined;
      behind = way.collected.behind;
    })

    pub begins-beside : IsRunning layout view cpu list rows local taking
    begins-beside = record {
      command = command;
      copies = copies;
      way = way-taking;
      on = record {
        base = deeds at view;
        fits = record { on_turn = subst (IsOnTurn view) (sym owner) holds.on_turn; frame = within; at = (holds.hand_is, ap (λ (w : Who). deeds w view) owner) };
        who_is = owner;
        left = holds.left;
        next = is;
        all = noted;
        paid = λ on. holds.paid;
        rests = rests;
      };
    }

-- ---- its own task goes on behind its pause

-- a task that goes on behind its pause has set the same policies, and has the same handle
same-policies : (j : Job) → policies_now (jobs.resume j) ≡ policies_now j
same-policies (kinds.Instruction i) = refl
same-policies (kinds.Copying y) = refl
same-policies _ = refl

same-handle : (j : Job) (handles : List ℕ) → HasHandle handles j → HasHandle handles (jobs.resume j)
same-handle (kinds.Instruction i) handles has = tt
same-handle (kinds.Copying y) handles has = tt
same-handle _ handles has = has

-- it spoils no line
pause-spoils : (j : Job) (x : Spoiled) → jobs.pauses j ≡ true → HasSpoiled j x → ⊥
pause-spoils (kinds.Spoil s) x pauses has = true≢false (sym pauses)
pause-spoils (kinds.Instruction i) x pauses has = has
pause-spoils (kinds.Copying y) x pauses has = has
pause-spoils _ x pauses has = has

-- as many as were taken are there
pub taken-few : {A : Type 0} (l : List A) (n : ℕ) → n ≡ length (take n l) → n ≤ length l
taken-few l n is = which (cases_lt (length l) n)
  where
    which : (length l < n) ⊎ (n ≤ length l) → n ≤ length l
    which (inl less) = let all : length (take n l) ≡ length l = ap length (take_all n l (omega (arith, less))) in absurd (omega (arith, is, all, less))
    which (inr most) = most

-- it told the collector all
told-all : (watching : Option Watching) (j : Job) (noted : ℕ) → jobs.pauses j ≡ true → noted ≡ length (told_of j) → HasToldAll watching (jobs.resume j) noted
told-all watching (kinds.Instruction i) noted pauses is = by (instructions.pause i)
  where
    by : (o : Option Pause) → HasToldAll watching (kinds.Instruction (instructions.resume_by i o)) noted
    by None = λ on. is
    by (Some p) = λ on. is
told-all watching (kinds.Copying y) noted pauses is = by y.at
  where
    own : (o : Option Pause) → HasToldAll watching (kinds.Copying (record y { instruction = instructions.resume_by y.instruction o })) noted
    own None = λ on. is
    own (Some p) = λ on. is

    by : (x : CopyingAt) → HasToldAll watching (kinds.Copying (copyings.resume_at y x)) noted
    by copying_at.Access = own (instructions.pause y.instruction)
    by (copying_at.Free e stored) = λ on. is
    by (copying_at.Over answer) = λ on. is
told-all watching _ noted pauses is = absurd (true≢false (sym pauses))

module _ (layout : Layout) (view : View) (cpu : Cpu) (list : List Command) (rows : List Row) (local : Local) (command : Command) (copies : Option VSlot) (c : Course) (way : IsUnderWay layout view cpu list rows local command copies (at_rest c)) (holds : HoldsNone view (at_number cpu (length rows)) (at_rest c))
    (paused : Pauses layout view (at_number cpu (length rows)) command c.own) (noted : HasNotedAll c) (none : next_due c.due ≡ None) where
  abbrev by : Who
  by = at_number cpu (length rows)

  abbrev behind : Course
  behind = record c { own = jobs.resume c.own; beside = None }

  goes : CommandGoesOn c.own (jobs.resume c.own)
  goes = resume-goes c.own

  pauses : jobs.pauses c.own ≡ true
  pauses = pauses-by paused
    where
      pauses-by : Pauses layout view by command c.own → jobs.pauses c.own ≡ true
      pauses-by (inl access) = ap jobs.pauses access.is ∙ ap is_some access.paused
      pauses-by (inr copy) = ap jobs.pauses copy.is ∙ ap is_some copy.paused

  at-pause : IsAtPause c.own
  at-pause = job-at-pause c.own pauses

  same : IsSameBehind c.own (jobs.resume c.own)
  same = at-pause.behind

  late : {A : Type 0} → EndsAtOnce c.own → A
  late ends = absurd (at-pause.late ends.0)

  unstopped : {A : Type 0} → stays.HasStopped c.own → A
  unstopped has = absurd (none-some answers.Stopped (sym at-pause.unanswered ∙ has-stopped c.own has))

  unspoiled : {A : Type 0} (x : Spoiled) → HasSpoiled c.own x → A
  unspoiled x has = absurd (pause-spoils c.own x pauses has)

  marks-behind : marked_so_far behind ≡ marked_so_far (at_rest c)
  marks-behind = ap (λ (l : List EventOutcome). filter_map act_marking (acts l c.due.offlined) ++ (marked_beyond (jobs.resume c.own) ++ [])) same.told
      ∙ ap (λ (l : List Marking). filter_map act_marking (acts (told_of c.own) c.due.offlined) ++ (l ++ [])) (same.beyond ∙ sym holds.beyond)

  same-settings : policies_now (jobs.resume c.own) ≡ policies_now c.own
  same-settings = same-policies c.own

  pub way-behind : IsUnderWay layout view cpu list rows local command copies behind
  way-behind = record {
    serves = subst (λ (b : Banks). Serves layout view cpu list rows b local.handles local.cows) (sym (goes.before local.banks)) way.serves;
    next = way.next;
    runs = runs-alike layout by command copies c.own (jobs.resume c.own) goes way.runs;
    handle = same-handle c.own local.handles way.handle;
    policies = λ thread. way.policies thread ∙ ap (λ (l : List (Thread × Policy)). settings layout thread (answers_by list rows) ++ of_thread thread l) (sym same-settings);
    stopped = λ some. late (way.stopped some);
    looked = elim way.looked [
      | inl ends ↦ late ends
      | inr saw ↦ inr saw
    ];
    stops = λ n who there. elim (way.stops n who there) [
      | inl own ↦ inl own
      | inr it ↦ unstopped it.has
    ];
    listed = way.listed;
    account = record {
      marked = way.account.marked ∙ sym marks-behind;
      failed = λ can. way.account.failed (sym goes.fails ∙ can) ∙ sym same.failed;
      set = way.account.set ∙ sym same-settings;
      counted = way.account.counted ∙ holds.unowed ∙ sym same.owed;
      losses = way.account.losses;
    };
    noted = record { earlier = way.noted.earlier; last = way.noted.last; all = way.noted.all; noted = way.noted.noted; before = way.noted.before; own = way.noted.own; marked = way.noted.marked ∙ sym marks-behind };
    spoiled = λ n x there. elim (way.spoiled n x there) [
      | inl own ↦ inl own
      | inr has ↦ unspoiled x has
    ];
    collected = keeps-longer layout view by list (watched_at layout list rows (length rows)) (at_rest c) behind ([], same.told ∙ sym (append-nil (told_of c.own))) refl refl refl refl way.collected;
  }

  -- no frame is left
  all : length c.due.offlined ≡ length c.due.frames
  all =
      let few : length c.due.offlined ≤ length c.due.frames = taken-few c.due.frames (length c.due.offlined) (sym (length-map c.due.offlined (λ (o : Offlining). o.frame)) ∙ ap length way.collected.frames) in
      let most : length c.due.frames ≤ length c.due.offlined = past-end c.due.frames (length c.due.offlined) none in
      omega arith

  all-told : HasToldAll c.watching (jobs.resume c.own) c.noted
  all-told = told-all c.watching c.own c.noted pauses noted

  pub told-behind : told_of (jobs.resume c.own) ≡ told_of c.own
  told-behind = same.told

  -- an access copies nothing, and goes on behind all entries of its command
  access-behind : IsPaused layout view by command c.own → OwnGoesOn layout view command copies behind
  access-behind access = record {
    base = deeds by view;
    fits = subst (λ (w : Who). jobs.FitsFrom (deeds w view) layout view (jobs.resume c.own)) request-who
        (subst (λ (j : Job). jobs.FitsFrom (deeds access.instruction.request.who view) layout view (jobs.resume j)) (sym access.is) (resumes access.instruction access.pause access.rests (subst (IsOnTurn view) (sym request-who) holds.on_turn) holds.hand_is holds.paid));
    prior = subst (λ (o : Option VSlot). ArePriorWith layout command o (deeds by view)) (sym plain) (prior-behind layout view of-access access.met);
    left = subst (λ (j : Job). left_so_far (deeds by view) view (jobs.resume j) ≡ left_beside c.due.offlined) (sym access.is) holds.left;
    all = all;
    told = all-told;
  }
    where
      plain : copies ≡ None
      plain = access-plain layout by command copies c.own way.runs access.instruction access.is

      request-who : access.instruction.request.who ≡ by
      request-who = sym (ap jobs.who access.is) ∙ runs-who layout by command copies c.own way.runs

      of-access : IsAccessOf command by c.own
      of-access = runs-access layout by command c.own (subst (λ (o : Option VSlot). Runs layout by command o c.own) plain way.runs) pauses

  -- a copy goes on as it was
  copy-behind : HasCopyPaused layout view c.own → OwnGoesOn layout view command copies behind
  copy-behind copy = record {
    base = [];
    fits = subst (λ (j : Job). jobs.FitsFrom [] layout view (jobs.resume j)) (sym copy.is) (copy-resting.resumes copy.copying copy.pause copy.rests (subst (IsOnTurn view) (sym own) holds.on_turn) holds.hand_is holds.paid);
    prior = prior-at-first layout command copies;
    left = subst (λ (j : Job). left_so_far [] view (jobs.resume j) ≡ left_beside c.due.offlined) (sym copy.is) (left-resumed copy.copying.at);
    all = all;
    told = all-told;
  }
    where
      own : copy.copying.store.who ≡ by
      own = sym (ap jobs.who copy.is) ∙ runs-who layout by command copies c.own way.runs

      left-resumed : (x : CopyingAt) → left_by (copyings.resume_at copy.copying x).store.who view ≡ left_beside c.due.offlined
      left-resumed copying_at.Access = subst (λ (w : Who). left_by w view ≡ left_beside c.due.offlined) (sym own) holds.left
      left-resumed (copying_at.Free e stored) = subst (λ (w : Who). left_by w view ≡ left_beside c.due.offlined) (sym own) holds.left
      left-resumed (copying_at.Over answer) = subst (λ (w : Who). left_by w view ≡ left_beside c.due.offlined) (sym own) holds.left

  pub own-behind : OwnGoesOn layout view command copies behind
  own-behind = which paused
    where
      which : Pauses layout view by command c.own → OwnGoesOn layout view command copies behind
      which (inl access) = access-behind access
      which (inr copy) = copy-behind copy

  pub goes-behind : IsRunning layout view cpu list rows local behind
  goes-behind = record { command = command; copies = copies; way = way-behind; on = own-behind }
