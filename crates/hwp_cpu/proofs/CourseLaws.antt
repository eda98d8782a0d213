-- A course is a task: where it fits, its step can be made, and what follows fits.
use Rattle.std.proofs.Common.{◌≡◌, ◌≢◌, ◌⊎◌, inl, inr, ℕ, ◌+◌, ◌<◌, ◌≤◌, ◌==◌, ◌&&◌, nat_lt, Bool, true, false, List, [], ◌∷◌, ◌++◌, Option, Some, None, drop, length, map, refl, sym, ap, ◌∙◌, subst, arith}
use Rattle.std.proofs.lemmas.Bool.{both_ways, ltb-false, ltb-true}
use Rattle.std.proofs.lemmas.List.{length-append}
use Rattle.std.proofs.lemmas.Option.{none-some, slice_get_cases, slice_get_past, slice_get_within}
use Rattle.hwp_cpu_row.specs.hwp_geom.declared.Frame.{Frame}
use Rattle.hwp_cpu_row.specs.hwp_geom.declared.Layout.{Layout}
use Rattle.hwp_cpu_row.specs.hwp_geom.declared.Who.{Who}
use Rattle.hwp_cpu_row.specs.hwp_report_text.declared.Answer.{Answer}
use Rattle.hwp_cpu_row.specs.hwp_page.History.{BodyValue}
use Rattle.hwp_cpu_row.specs.hwp_core_rule.declared.Step.{Step}
use Rattle.hwp_cpu_row.specs.hwp_core_rule.declared.View.{View}
use Rattle.hwp_cpu_row.specs.hwp_core_rule.declared.Turn.{Turn}
use Rattle.hwp_cpu_row.specs.hwp_core_rule.Calls.{CanMake, IsOnTurn, Steps, logs}
use Rattle.hwp_cpu_row.specs.hwp_core_rule.Hands.{empty, hand_of}
use Rattle.hwp_cpu_row.specs.hwp_core_rule.Classes.{TellsClass}
use Rattle.hwp_cpu_row.specs.hwp_core_rule.Known.{deeds}
use Rattle.hwp_cpu_row.specs.hwp_core_rule.Ranks.{HasFrame, HasPage}
use Rattle.hwp_cpu_row.specs.hwp_core_rule.Turns.{IsTask}
use Rattle.hwp_cpu_row.proofs.of_hwp_core_rule.Lists.{same-number}
use Rattle.hwp_cpu_row.specs.hwp_claim.declared.EventOutcome.{EventOutcome}
use Rattle.hwp_cpu_row.specs.declared.Watching.{Watching}
use Rattle.hwp_cpu_row.specs.Acts.{told_notes}
use Rattle.hwp_cpu_row.specs.Locals.{collects}
use Rattle.hwp_cpu_command.specs.declared.Job.{Job}
use Rattle.hwp_cpu_command.specs.declared.job.Job.TheVariants as kinds
use Rattle.hwp_cpu_command.specs.Jobs as jobs
use Rattle.hwp_cpu_command.specs.Runs.{collects_now}
use Rattle.hwp_cpu_command.proofs.JobEnds.{answered-over, soft-ended}
use Rattle.hwp_cpu_command.proofs.JobLaws as jobbing
use Rattle.hwp_cpu.proofs.commands.CommandRuns.{goes-on}
use Rattle.hwp_cpu.proofs.commands.ToldGrows.{told-longer}
use Rattle.hwp_cpu_command.specs.hwp_cpu_access.declared.Instruction.{Instruction}
use Rattle.hwp_cpu_command.specs.hwp_cpu_access.declared.instruction.Pause.{Pause}
use Rattle.hwp_cpu_command.specs.hwp_cpu_access.Fits.{checks_made}
use Rattle.hwp_cpu_command.specs.hwp_cpu_access.Instructions as instructions
use Rattle.hwp_cpu_command.proofs.of_hwp_cpu_access.Resting.{resting-stays}
use Rattle.hwp_cpu_command.specs.hwp_cpu_access.declared.Copying.{Copying}
use Rattle.hwp_cpu_command.specs.hwp_cpu_access.declared.copying.CopyingAt.{CopyingAt}
use Rattle.hwp_cpu_command.specs.hwp_cpu_access.declared.copying.CopyingAt.TheVariants as copying_at
use Rattle.hwp_cpu_command.specs.hwp_cpu_access.Copyings as copyings
use Rattle.hwp_cpu_command.proofs.of_hwp_cpu_access.CopyResting as copy-resting
use Rattle.hwp_cpu_command.specs.hwp_soft.declared.Soft.{Soft}
use Rattle.hwp_cpu_command.specs.hwp_soft.declared.SoftAnswer.{SoftAnswer}
use Rattle.hwp_cpu_command.specs.hwp_soft.declared.soft.SoftAt.{SoftAt}
use Rattle.hwp_cpu_command.specs.hwp_soft.declared.soft.SoftAt.TheVariants as soft_at
use Rattle.hwp_cpu_command.specs.hwp_soft.Offline as offline
use Rattle.hwp_cpu_command.specs.hwp_soft.Softs as softs
use Rattle.hwp_cpu.specs.declared.course.Course.{Course}
use Rattle.hwp_cpu_row.specs.Dues.{DueValue, HasCollected, next_due, Covers}
use Rattle.hwp_cpu_row.specs.hwp_cec.Ages.{CecEvent, Note}
use Rattle.hwp_cpu_row.specs.hwp_cec.Counters.{StandsFor}
use Rattle.hwp_cpu.specs.Courses.{gives_up, AfterOwn, AfterOwnBy, AfterOwnIf, AfterRestBy, AfterSoft, Fits, FitsOf, FitsOwn, HasPassed, IsAtPause, IsGoing, IsGoingOn, IsOfMachine, IsTakingOut, IsWaiting, Next, NextOf, RestsNow, ShowsOf, bare, bare_of, due_room, going_on, has_more, is_abandoned, part_of, passed, rests, task as course-task, with_result}
use Rattle.hwp_cpu.proofs.ToldSince.{AfterCollectingBy, collecting-by, most, since-few}
use Rattle.hwp_cpu_row.proofs.DueLaws.{ForPages, due-for-pages, for-pages-within, notes-few, pages-both}
use Rattle.hwp_cpu.proofs.RestLaws.{AtRest, OrPaid, at-rest, behind, given-up-none, gives-up-fits, own-on, soft-begins}
use Rattle.hwp_cpu.proofs.SoftMade.{HasLeft, checks-same, soft-grows, soft-left, soft-pays}

-- ---- its step can be made

can : (layout : Layout) (view : View) (c : Course) (step : Step) → Fits layout view c → jobs.plan (part_of c.beside c.own) ≡ Some step → CanMake layout (jobs.who c.own) step (jobs.put (part_of c.beside c.own)) view
can layout view c step fits is = which c.beside fits.at is
  where
    own : (o : Option Answer) → jobs.answer c.own ≡ o → FitsOwn layout view c o → jobs.plan c.own ≡ Some step → CanMake layout (jobs.who c.own) step (jobs.put c.own) view
    own None said going planned = jobbing.can going.fits.0 layout view c.own step going.fits.1 planned
    own (Some a) said done planned = absurd (none-some step (sym (answered-over c.own said) ∙ planned))

    which : (o : Option Soft) → FitsOf layout view c o → jobs.plan (part_of o c.own) ≡ Some step → CanMake layout (jobs.who c.own) step (jobs.put (part_of o c.own)) view
    which None at planned = own (jobs.answer c.own) refl at planned
    which (Some s) at planned = subst (λ (w : Who). CanMake layout w step (softs.put s) view) at.own (jobbing.can at.soft.0 layout view (kinds.Soft s) step at.soft.1 planned)

-- ---- what stays of its own task

resume-told : (j : Job) → jobs.told_of (jobs.resume j) ≡ jobs.told_of j
resume-told (kinds.Instruction i) = which (instructions.pause i)
  where
    which : (o : Option Pause) → (instructions.resume_by i o).lines.told ≡ i.lines.told
    which None = refl
    which (Some p) = refl
resume-told (kinds.Copying c) = by c.at
  where
    which : (o : Option Pause) → (instructions.resume_by c.instruction o).lines.told ≡ c.instruction.lines.told
    which None = refl
    which (Some p) = refl

    by : (x : CopyingAt) → (copyings.resume_at c x).instruction.lines.told ≡ c.instruction.lines.told
    by copying_at.Access = which (instructions.pause c.instruction)
    by (copying_at.Free e stored) = refl
    by (copying_at.Over answer) = refl
resume-told (kinds.Evict x) = refl
resume-told (kinds.Fsync x) = refl
resume-told (kinds.Prctl x) = refl
resume-told (kinds.Denied x) = refl
resume-told (kinds.Fork x) = refl
resume-told (kinds.Log x) = refl
resume-told (kinds.Raise x) = refl
resume-told (kinds.Scrub x) = refl
resume-told (kinds.Spoil x) = refl
resume-told (kinds.Nested x) = refl
resume-told (kinds.Inject x) = refl
resume-told (kinds.Soft x) = refl
resume-told (kinds.Unpoison x) = refl

resume-who : (j : Job) → jobs.who (jobs.resume j) ≡ jobs.who j
resume-who (kinds.Instruction i) = which (instructions.pause i)
  where
    which : (o : Option Pause) → (instructions.resume_by i o).request.who ≡ i.request.who
    which None = refl
    which (Some p) = refl
resume-who (kinds.Copying c) = by c.at
  where
    by : (x : CopyingAt) → (copyings.resume_at c x).store.who ≡ c.store.who
    by copying_at.Access = refl
    by (copying_at.Free e stored) = refl
    by (copying_at.Over answer) = refl
resume-who (kinds.Evict x) = refl
resume-who (kinds.Fsync x) = refl
resume-who (kinds.Prctl x) = refl
resume-who (kinds.Denied x) = refl
resume-who (kinds.Fork x) = refl
resume-who (kinds.Log x) = refl
resume-who (kinds.Raise x) = refl
resume-who (kinds.Scrub x) = refl
resume-who (kinds.Spoil x) = refl
resume-who (kinds.Nested x) = refl
resume-who (kinds.Inject x) = refl
resume-who (kinds.Soft x) = refl
resume-who (kinds.Unpoison x) = refl

give-up-who : (j : Job) → jobs.who (jobs.give_up j) ≡ jobs.who j
give-up-who (kinds.Instruction i) = refl
give-up-who (kinds.Copying x) = refl
give-up-who (kinds.Raise x) = refl
give-up-who (kinds.Scrub x) = refl
give-up-who (kinds.Evict x) = refl
give-up-who (kinds.Fsync x) = refl
give-up-who (kinds.Prctl x) = refl
give-up-who (kinds.Denied x) = refl
give-up-who (kinds.Fork x) = refl
give-up-who (kinds.Log x) = refl
give-up-who (kinds.Spoil x) = refl
give-up-who (kinds.Nested x) = refl
give-up-who (kinds.Inject x) = refl
give-up-who (kinds.Soft x) = refl
give-up-who (kinds.Unpoison x) = refl

covered : (layout : Layout) (c : Course) → c.frames ≡ layout.frames → IsOfMachine layout c.watching → Covers c.frames c.watching
covered layout c are of = which c.watching of
  where
    which : (o : Option Watching) → IsOfMachine layout o → Covers c.frames o
    which None is = tt
    which (Some w) is = let same : length w.collector.counts ≡ layout.frames = is.0 in omega (arith, same, are)

-- ---- behind a rest

-- all that is so of a course whose own task rests, but of what runs
pub record Rested (layout : Layout) (view : View) (x : Course) : Type 0 where
  pub frames_are : x.frames ≡ layout.frames
  pub collector : IsOfMachine layout x.watching
  pub noted : x.noted ≡ length (jobs.told_of x.own)
  pub order : length x.due.offlined ≤ length x.due.frames
  pub for_pages : ForPages layout x.due.frames
  pub few : length x.due.frames ≤ length x.due.offlined + due_room
  pub room : length x.due.frames ≤ length x.due.offlined + x.due.spare
  pub on_turn : IsOnTurn view (jobs.who x.own)
  pub hand_is : hand_of view ≡ empty
  pub now : RestsNow layout view x.own
  pub paid : OrPaid view x.own
  pub due_paid : (f : Frame) → next_due x.due ≡ Some f → view.owed.losses ≡ []

module _ {layout : Layout} {view : View} (x : Course) (r : Rested layout view x) where
  goes-by : (o : Option Frame) → next_due x.due ≡ o → Fits layout view (going_on x o)
  goes-by (Some frame) is = record {
    frames_are = r.frames_are;
    collector = r.collector;
    noted = let all = r.noted in omega (arith, all);
    behind = r.order;
    for_pages = r.for_pages;
    few = r.few;
    room = r.room;
    at = record {
      soft = (deeds (jobs.who x.own) view, soft-begins layout view (jobs.who x.own) frame r.on_turn (for-pages-within layout frame (r.for_pages (length x.due.offlined) frame is)) r.hand_is);
      own = refl;
      next = is;
      own_waits = λ goes. record { rests = r.now; paid = r.due_paid frame is };
      noted = r.noted;
    };
  }
  goes-by None is = record {
    frames_are = r.frames_are;
    collector = r.collector;
    noted = let all = r.noted in let same : length (jobs.told_of (jobs.resume x.own)) ≡ length (jobs.told_of x.own) = ap length (resume-told x.own) in omega (arith, all, same);
    behind = r.order;
    for_pages = r.for_pages;
    few = r.few;
    room = r.room;
    at = behind layout view (record x { beside = None }) all-done x.own r.on_turn r.hand_is r.paid r.noted r.now;
  }
    where
      all-done : length x.due.frames ≡ length x.due.offlined
      all-done = elim (slice_get_cases x.due.frames (length x.due.offlined)).1 [
        | inl some ↦ absurd (none-some some.0 (sym is ∙ some.2))
        | inr past ↦ let order = r.order in let end : length x.due.frames ≤ length x.due.offlined = past.0 in omega (arith, order, end)
      ]

  who-by : (o : Option Frame) → (jobs.who (going_on x o).own).cpu ≡ (jobs.who x.own).cpu
  who-by (Some frame) = refl
  who-by None = ap (λ (w : Who). w.cpu) (resume-who x.own)

  pub goes : (after : Course) (turn : Turn) → IsGoingOn x after turn → Fits layout view after × ((jobs.who after.own).cpu ≡ (jobs.who x.own).cpu)
  goes after turn is = (subst (Fits layout view) (sym is.0) (goes-by (next_due x.due) refl), ap (λ (d : Course). (jobs.who d.own).cpu) is.0 ∙ who-by (next_due x.due))

-- ---- a step of its own task

and-parts : (a b : Bool) → (a && b) ≡ true → (a ≡ true) × (b ≡ true)
and-parts true b is = (refl, is)
and-parts false b is = absurd (both_ways true (sym is) refl)

-- what an access passes over, it still collects
passes-on : (layout : Layout) (j k : Job) (found : ℕ) (got : Option BodyValue) (turn : Turn) (noted : ℕ) → jobs.Next layout (jobs.bare j) found got k turn → HasPassed j noted → HasPassed k (passed k noted)
passes-on layout (kinds.Instruction i) k found got turn noted next has = subst (λ (x : Job). HasPassed x (passed x noted)) (sym next.1) (sym (ap collects_now next.1) ∙ (goes-on layout found got turn (kinds.Instruction i) k next).collects ∙ has.0, λ goes. refl)
passes-on layout (kinds.Copying c) k found got turn noted next has = subst (λ (x : Job). HasPassed x (passed x noted)) (sym next.1) (sym (ap collects_now next.1) ∙ (goes-on layout found got turn (kinds.Copying c) k next).collects ∙ has.0, λ goes. refl)
passes-on layout (kinds.Evict x) k found got turn noted next has = subst (λ (y : Job). HasPassed y (passed y noted)) (sym next.1) tt
passes-on layout (kinds.Fsync x) k found got turn noted next has = subst (λ (y : Job). HasPassed y (passed y noted)) (sym next.0) tt
passes-on layout (kinds.Prctl x) k found got turn noted next has = subst (λ (y : Job). HasPassed y (passed y noted)) (sym next.0) tt
passes-on layout (kinds.Denied x) k found got turn noted next has = subst (λ (y : Job). HasPassed y (passed y noted)) (sym next.0) tt
passes-on layout (kinds.Fork x) k found got turn noted next has = subst (λ (y : Job). HasPassed y (passed y noted)) (sym next.0) tt
passes-on layout (kinds.Log x) k found got turn noted next has = subst (λ (y : Job). HasPassed y (passed y noted)) (sym next.0) tt
passes-on layout (kinds.Raise x) k found got turn noted next has = subst (λ (y : Job). HasPassed y (passed y noted)) (sym next.1) tt
passes-on layout (kinds.Scrub x) k found got turn noted next has = subst (λ (y : Job). HasPassed y (passed y noted)) (sym next.1) tt
passes-on layout (kinds.Spoil x) k found got turn noted next has = subst (λ (y : Job). HasPassed y (passed y noted)) (sym next.0) tt
passes-on layout (kinds.Nested x) k found got turn noted next has = subst (λ (y : Job). HasPassed y (passed y noted)) (sym next.0) tt
passes-on layout (kinds.Inject x) k found got turn noted next has = subst (λ (y : Job). HasPassed y (passed y noted)) (sym next.1) tt
passes-on layout (kinds.Soft x) k found got turn noted next has = subst (λ (y : Job). HasPassed y (passed y noted)) (sym next.1) tt
passes-on layout (kinds.Unpoison x) k found got turn noted next has = subst (λ (y : Job). HasPassed y (passed y noted)) (sym next.0) tt

passed-within : (k : Job) (noted : ℕ) → noted ≤ length (jobs.told_of k) → passed k noted ≤ length (jobs.told_of k)
passed-within (kinds.Instruction i) noted has = omega arith
passed-within (kinds.Copying c) noted has = omega arith
passed-within (kinds.Evict x) noted has = has
passed-within (kinds.Fsync x) noted has = has
passed-within (kinds.Prctl x) noted has = has
passed-within (kinds.Denied x) noted has = has
passed-within (kinds.Fork x) noted has = has
passed-within (kinds.Log x) noted has = has
passed-within (kinds.Raise x) noted has = has
passed-within (kinds.Scrub x) noted has = has
passed-within (kinds.Spoil x) noted has = has
passed-within (kinds.Nested x) noted has = has
passed-within (kinds.Inject x) noted has = has
passed-within (kinds.Soft x) noted has = has
passed-within (kinds.Unpoison x) noted has = has

-- and so it does where it gives up
given-passed : (layout : Layout) (j k : Job) (found : ℕ) (got : Option BodyValue) (turn : Turn) (noted : ℕ) → jobs.Next layout (jobs.bare j) found got k turn → HasPassed j noted → HasPassed (jobs.give_up k) noted
given-passed layout (kinds.Instruction i) k found got turn noted next has =
    subst (λ (x : Job). HasPassed (jobs.give_up x) noted) (sym next.1) (sym (ap collects_now next.1) ∙ (goes-on layout found got turn (kinds.Instruction i) k next).collects ∙ has.0, λ goes. absurd (both_ways true goes refl))
given-passed layout (kinds.Copying c) k found got turn noted next has =
    subst (λ (x : Job). HasPassed (jobs.give_up x) noted) (sym next.1) (sym (ap collects_now next.1) ∙ (goes-on layout found got turn (kinds.Copying c) k next).collects ∙ has.0, λ goes. absurd (both_ways true goes refl))
given-passed layout (kinds.Evict x) k found got turn noted next has = subst (λ (y : Job). HasPassed (jobs.give_up y) noted) (sym next.1) tt
given-passed layout (kinds.Fsync x) k found got turn noted next has = subst (λ (y : Job). HasPassed (jobs.give_up y) noted) (sym next.0) tt
given-passed layout (kinds.Prctl x) k found got turn noted next has = subst (λ (y : Job). HasPassed (jobs.give_up y) noted) (sym next.0) tt
given-passed layout (kinds.Denied x) k found got turn noted next has = subst (λ (y : Job). HasPassed (jobs.give_up y) noted) (sym next.0) tt
given-passed layout (kinds.Fork x) k found got turn noted next has = subst (λ (y : Job). HasPassed (jobs.give_up y) noted) (sym next.0) tt
given-passed layout (kinds.Log x) k found got turn noted next has = subst (λ (y : Job). HasPassed (jobs.give_up y) noted) (sym next.0) tt
given-passed layout (kinds.Raise x) k found got turn noted next has = subst (λ (y : Job). HasPassed (jobs.give_up y) noted) (sym next.1) tt
given-passed layout (kinds.Scrub x) k found got turn noted next has = subst (λ (y : Job). HasPassed (jobs.give_up y) noted) (sym next.1) tt
given-passed layout (kinds.Spoil x) k found got turn noted next has = subst (λ (y : Job). HasPassed (jobs.give_up y) noted) (sym next.0) tt
given-passed layout (kinds.Nested x) k found got turn noted next has = subst (λ (y : Job). HasPassed (jobs.give_up y) noted) (sym next.0) tt
given-passed layout (kinds.Inject x) k found got turn noted next has = subst (λ (y : Job). HasPassed (jobs.give_up y) noted) (sym next.1) tt
given-passed layout (kinds.Soft x) k found got turn noted next has = subst (λ (y : Job). HasPassed (jobs.give_up y) noted) (sym next.1) tt
given-passed layout (kinds.Unpoison x) k found got turn noted next has = subst (λ (y : Job). HasPassed (jobs.give_up y) noted) (sym next.0) tt

module _ {layout : Layout} {old new : View} (c : Course) (fits : Fits layout old c) (going : IsGoing layout old c) (step : Step) (found : ℕ) (got : Option BodyValue) (planned : jobs.plan c.own ≡ Some step)
    (made : Steps layout (jobs.who c.own) step (logs (jobs.put c.own)) old new found got) where
  abbrev kept : jobs.Shows (jobs.bare c.own) found got × ((after : Job) (turn : Turn) → jobs.Next layout (jobs.bare c.own) found got after turn → jobs.FitsFrom going.fits.0 layout new after × ((jobs.who after).cpu ≡ (jobs.who c.own).cpu))
  kept = jobbing.stays going.fits.0 layout old new c.own step found got going.fits.1 planned made

  module _ (k : Job) (t : Turn) (next : jobs.Next layout (jobs.bare c.own) found got k t) where
    -- its own task has moved, and nothing else yet
    abbrev e : Course
    e = record (bare_of c None) { own = k }

    abbrev fit : jobs.FitsFrom going.fits.0 layout new k
    fit = (kept.1 k t next).0

    grown : c.noted ≤ length (jobs.told_of k)
    grown =
        let more = told-longer layout c.own k found got t next in
        let both : length (jobs.told_of k) ≡ length (jobs.told_of c.own) + length more.0 = ap length more.1 ∙ length-append (jobs.told_of c.own) more.0 in
        let was = fits.noted in
        omega (arith, both, was)

    -- it goes on
    on : (noted : ℕ) → noted ≤ length (jobs.told_of k) → (collects c.watching ≡ true → HasPassed k noted) → Fits layout new (record e { noted = noted })
    on noted within passed-it = record {
      frames_are = fits.frames_are;
      collector = fits.collector;
      noted = within;
      behind = fits.behind;
      for_pages = fits.for_pages;
      few = fits.few;
      room = fits.room;
      at = own-on layout new (record e { noted = noted }) going.none_due going.fits.0 k fit passed-it;
    }

    -- nothing is due where it rests
    rested : rests k ≡ true → c.noted ≡ length (jobs.told_of k) → Rested layout new e
    rested rest all = record {
      frames_are = fits.frames_are;
      collector = fits.collector;
      noted = all;
      order = fits.behind;
      for_pages = fits.for_pages;
      few = fits.few;
      room = fits.room;
      on_turn = own.on_turn;
      hand_is = own.hand_is;
      now = own.now;
      paid = own.paid;
      due_paid = λ f is. absurd (none-some f (sym (slice_get_past c.due.frames (length c.due.offlined) (let same = going.none_due in omega (arith, same))) ∙ is));
    }
      where
        own : AtRest layout new k
        own = at-rest going.fits.0 layout new k fit rest

    pub told-some : has_more layout e ≡ true → jobs.told_of k ≢ []
    told-some is none = low (nat_lt c.noted (length (jobs.told_of k))) refl (and-parts (nat_lt c.noted (length (jobs.told_of k))) (layout.frames == c.frames) is).0
      where
        low : (b : Bool) → nat_lt c.noted (length (jobs.told_of k)) ≡ b → b ≡ true → ⊥
        low b same is_so = let less : c.noted < length (jobs.told_of k) = ltb-true c.noted (length (jobs.told_of k)) (same ∙ is_so) in let empty : length (jobs.told_of k) ≡ 0 = ap length none in omega (arith, less, empty)

    all-told : has_more layout e ≡ false → c.noted ≡ length (jobs.told_of k)
    all-told is = which (nat_lt c.noted (length (jobs.told_of k))) refl is
      where
        same-frames : (layout.frames == c.frames) ≡ true
        same-frames = same-number layout.frames c.frames (sym fits.frames_are)

        which : (b : Bool) → nat_lt c.noted (length (jobs.told_of k)) ≡ b → (b && (layout.frames == c.frames)) ≡ false → c.noted ≡ length (jobs.told_of k)
        which true less no_ = absurd (both_ways true (sym same-frames ∙ no_) refl)
        which false less no_ = let within = grown in let least : length (jobs.told_of k) ≤ c.noted = ltb-false c.noted (length (jobs.told_of k)) less in omega (arith, least, within)

    -- there was no room
    refused : rests k ≡ true → has_more layout e ≡ true → (collects c.watching ≡ true → HasPassed c.own c.noted) → Fits layout new (record e { own = jobs.give_up k })
    refused rest more passed-it = record {
      frames_are = fits.frames_are;
      collector = fits.collector;
      noted = subst (λ (l : List EventOutcome). c.noted ≤ length l) (sym up.2) grown;
      behind = fits.behind;
      for_pages = fits.for_pages;
      few = fits.few;
      room = fits.room;
      at = own-on layout new e going.none_due going.fits.0 (jobs.give_up k) (gives-up-fits going.fits.0 layout new k fit (at-rest going.fits.0 layout new k fit rest).hand_is rest told) (λ on_. given-passed layout c.own k found got t c.noted next (passed-it on_));
    }
      where
        told : jobs.told_of k ≢ []
        told = told-some more

        up : (jobs.answer (jobs.give_up k) ≡ None) × (gives_up (jobs.give_up k) ≡ true) × (jobs.told_of (jobs.give_up k) ≡ jobs.told_of k)
        up = given-up-none k told

    -- the collector got what was told
    collected : rests k ≡ true → has_more layout e ≡ true → (passed-it : HasPassed c.own c.noted) → (o : Option Watching) → collects o ≡ true → IsOfMachine layout o → (x : Course) → AfterCollectingBy layout e o x → Rested layout new x
    collected rest more passed-it None on_ of x has = absurd has
    collected rest more passed-it (Some w) on_ of x has = subst (Rested layout new) (sym has.3) (record {
      frames_are = fits.frames_are;
      collector = (taken.4.many ∙ of.0, λ still. (was.0 ++ map Note (told_notes layout since), (taken.4.stands was.0 was.1).0));
      noted = refl;
      order = subst (λ (v : DueValue). length v.offlined ≤ length v.frames) (sym taken.2) ordered;
      for_pages = subst (λ (v : DueValue). ForPages layout v.frames) (sym taken.2) (pages-both layout c.due.frames taken.0 fits.for_pages (due-for-pages layout since was.0 was.1 taken.4));
      few = subst (λ (v : DueValue). length v.frames ≤ length v.offlined + due_room) (sym taken.2) few;
      room = subst (λ (v : DueValue). length v.frames ≤ length v.offlined + v.spare) (sym taken.2) room;
      on_turn = own.on_turn;
      hand_is = own.hand_is;
      now = own.now;
      paid = own.paid;
      due_paid = λ f is. own.told_paid (told-some more);
    })
      where
        own : AtRest layout new k
        own = at-rest going.fits.0 layout new k fit rest

        was : (events : List CecEvent) × StandsFor events w.collector
        was = of.1 on_

        since : List EventOutcome
        since = drop c.noted (jobs.told_of k)

        taken : HasCollected layout since c.due w.collector has.1 has.0
        taken = has.2

        due-few : length taken.0 ≤ length since
        due-few = let noted : length taken.0 ≤ length (told_notes layout since) = taken.4.few in let told : length (told_notes layout since) ≤ length since = notes-few layout since in omega (arith, noted, told)

        lengths : length (c.due.frames ++ taken.0) ≡ length c.due.frames + length taken.0
        lengths = length-append c.due.frames taken.0

        ordered : length c.due.offlined ≤ length (c.due.frames ++ taken.0)
        ordered = let all = lengths in let was = fits.behind in omega (arith, all, was)

        most-room : (j : Job) → most j ≤ due_room
        most-room (kinds.Instruction i) = omega arith
        most-room (kinds.Copying x) = omega arith
        most-room (kinds.Evict x) = omega arith
        most-room (kinds.Fsync x) = omega arith
        most-room (kinds.Prctl x) = omega arith
        most-room (kinds.Denied x) = omega arith
        most-room (kinds.Fork x) = omega arith
        most-room (kinds.Log x) = omega arith
        most-room (kinds.Raise x) = omega arith
        most-room (kinds.Scrub x) = omega arith
        most-room (kinds.Spoil x) = omega arith
        most-room (kinds.Nested x) = omega arith
        most-room (kinds.Inject x) = omega arith
        most-room (kinds.Soft x) = omega arith
        most-room (kinds.Unpoison x) = omega arith

        few : length (c.due.frames ++ taken.0) ≤ length c.due.offlined + due_room
        few =
            let all = lengths in
            let due = due-few in
            let told : length since ≤ most k = since-few going.fits.0 layout old new c.own k step found got t going.fits.1 fit planned made next c.noted passed-it rest in
            let room : most k ≤ due_room = most-room k in
            let none = going.none_due in
            omega (arith, all, due, told, room, none)

        room : length (c.due.frames ++ taken.0) ≤ length c.due.offlined + taken.1
        room = let all = lengths in let due = due-few in let spare : length since ≤ taken.1 = taken.3 in let none = going.none_due in omega (arith, all, due, spare, none)

    -- each way that its turn may go
    own-next : (after : Course) (turn : Turn) → AfterOwn layout e t after turn → Fits layout new after × ((jobs.who after.own).cpu ≡ (jobs.who c.own).cpu)
    own-next after turn follows = which (collects c.watching) refl follows
      where
        same : (jobs.who k).cpu ≡ (jobs.who c.own).cpu
        same = (kept.1 k t next).1

        to : (d : Course) → after ≡ d → Fits layout new d → (jobs.who d.own).cpu ≡ (jobs.who k).cpu → Fits layout new after × ((jobs.who after.own).cpu ≡ (jobs.who c.own).cpu)
        to d is has alike = (subst (Fits layout new) (sym is) has, ap (λ (x : Course). (jobs.who x.own).cpu) is ∙ alike ∙ same)

        behind-rest : (x : Course) (u : Turn) → Rested layout new x → (jobs.who x.own).cpu ≡ (jobs.who k).cpu → IsGoingOn x after u → Fits layout new after × ((jobs.who after.own).cpu ≡ (jobs.who c.own).cpu)
        behind-rest x u ready alike goes-so = let all = goes x ready after u goes-so in (all.0, all.1 ∙ alike ∙ same)

        collected-own : (o : Option Watching) (x : Course) → AfterCollectingBy layout e o x → (jobs.who x.own).cpu ≡ (jobs.who k).cpu
        collected-own None x has = absurd has
        collected-own (Some w) x has = ap (λ (d : Course). (jobs.who d.own).cpu) has.3

        by-more : collects c.watching ≡ true → rests k ≡ true → (b : Bool) → has_more layout e ≡ b → (u : Turn) → AfterRestBy layout e b after u → Fits layout new after × ((jobs.who after.own).cpu ≡ (jobs.who c.own).cpu)
        by-more on_ rest false is u goes-so = behind-rest e u (rested rest (all-told is)) refl goes-so
        by-more on_ rest true is u (inl refuses) = to (record e { own = jobs.give_up k }) refuses.0 (refused rest is going.passed) (ap (λ (w : Who). w.cpu) (give-up-who k))
        by-more on_ rest true is u (inr (x, has, goes-so)) = behind-rest x u (collected rest is (going.passed on_) c.watching on_ fits.collector x (collecting-by layout e x has)) (collected-own c.watching x (collecting-by layout e x has)) goes-so

        by-rest : collects c.watching ≡ true → (b : Bool) → rests k ≡ b → AfterOwnBy layout e b t after turn → Fits layout new after × ((jobs.who after.own).cpu ≡ (jobs.who c.own).cpu)
        by-rest on_ false is next-so = to (record e { noted = passed k c.noted }) next-so.0 (on (passed k c.noted) (passed-within k c.noted grown) (λ on_. passes-on layout c.own k found got t c.noted next (going.passed on_))) refl
        by-rest on_ true is next-so = by-more on_ is (has_more layout e) refl next-so.0 next-so.1

        which : (b : Bool) → collects c.watching ≡ b → AfterOwnIf layout e b t after turn → Fits layout new after × ((jobs.who after.own).cpu ≡ (jobs.who c.own).cpu)
        which false off next-so = to e next-so.0 (on c.noted grown (λ on_. absurd (both_ways true (sym on_ ∙ off) refl))) refl
        which true on_ next-so = by-rest on_ (rests k) refl next-so

-- ---- a step of a frame that is taken out of use

pub abandoned-stays : (layout : Layout) (who : Who) (frame : Frame) (x y : SoftAt) (found : ℕ) (got : Option BodyValue) (turn : Turn) → softs.FollowsAt layout who frame (softs.bare_at x) found got y turn → is_abandoned y ≡ false → is_abandoned x ≡ false
abandoned-stays layout who frame (soft_at.GiveUp g) y found got turn follows on_ = absurd (both_ways true (sym (ap is_abandoned follows.0) ∙ on_) refl)
abandoned-stays layout who frame soft_at.LoadStop y found got turn follows on_ = refl
abandoned-stays layout who frame (soft_at.Seize s) y found got turn follows on_ = refl
abandoned-stays layout who frame (soft_at.Discard d) y found got turn follows on_ = refl
abandoned-stays layout who frame (soft_at.LoadBad page body) y found got turn follows on_ = refl
abandoned-stays layout who frame (soft_at.Take page body t) y found got turn follows on_ = refl
abandoned-stays layout who frame (soft_at.Poison page body to) y found got turn follows on_ = refl
abandoned-stays layout who frame (soft_at.UnlockSpare page body to) y found got turn follows on_ = refl
abandoned-stays layout who frame (soft_at.ReleaseSpare page body r) y found got turn follows on_ = refl
abandoned-stays layout who frame (soft_at.Relocate r answer) y found got turn follows on_ = refl
abandoned-stays layout who frame (soft_at.Unhold u answer) y found got turn follows on_ = refl
abandoned-stays layout who frame (soft_at.Over answer) y found got turn follows on_ = refl

pub over-stays : (s : Soft) (a : SoftAnswer) → softs.answer s ≡ Some a → is_abandoned s.at ≡ false
over-stays s a said = which s.at said
  where
    which : (x : SoftAt) → softs.answer_at x ≡ Some a → is_abandoned x ≡ false
    which (soft_at.GiveUp g) none = absurd (none-some a none)
    which (soft_at.Over answer) some = refl
    which soft_at.LoadStop none = refl
    which (soft_at.Seize x) none = refl
    which (soft_at.Discard d) none = refl
    which (soft_at.LoadBad page body) none = refl
    which (soft_at.Take page body t) none = refl
    which (soft_at.Poison page body to) none = refl
    which (soft_at.UnlockSpare page body to) none = refl
    which (soft_at.ReleaseSpare page body r) none = refl
    which (soft_at.Relocate r answer) none = refl
    which (soft_at.Unhold u answer) none = refl

module _ {layout : Layout} {old new : View} (c : Course) (fits : Fits layout old c) (s : Soft) (at : IsTakingOut layout old c s) (step : Step) (found : ℕ) (got : Option BodyValue) (planned : softs.plan s ≡ Some step)
    (made : Steps layout (jobs.who c.own) step (logs (softs.put s)) old new found got) where
  of-soft : Steps layout s.who step (logs (softs.put s)) old new found got
  of-soft = subst (λ (w : Who). Steps layout w step (logs (softs.put s)) old new found got) (sym at.own) made

  soft-can : CanMake layout s.who step (softs.put s) old
  soft-can = jobbing.can at.soft.0 layout old (kinds.Soft s) step at.soft.1 planned

  abbrev soft-kept : softs.Shows (softs.bare s) found got × ((after : Job) (turn : Turn) → jobs.Next layout (kinds.Soft (softs.bare s)) found got after turn → jobs.FitsFrom at.soft.0 layout new after × ((jobs.who after).cpu ≡ s.who.cpu))
  soft-kept = jobbing.stays at.soft.0 layout old new (kinds.Soft s) step found got at.soft.1 planned of-soft

  within-due : length c.due.offlined < length c.due.frames
  within-due = slice_get_within c.due.frames (length c.due.offlined) s.frame at.next

  module _ (k : Soft) (t : Turn) (next : softs.Follows layout (softs.bare s) found got k t) where
    soft-fit : offline.FitsFrom at.soft.0 layout new k
    soft-fit = (soft-kept.1 (kinds.Soft k) t (k, refl, next)).0

    same-who : k.who ≡ s.who
    same-who = ap (λ (x : Soft). x.who) next.0

    same-frame : k.frame ≡ s.frame
    same-frame = ap (λ (x : Soft). x.frame) next.0

    -- what is so of its own task stays so
    waits-on : is_abandoned k.at ≡ false → IsWaiting layout new c
    waits-on goes-so = record { rests = still was.rests; paid = pays was.paid }
      where
        was-on : is_abandoned s.at ≡ false
        was-on = abandoned-stays layout s.who s.frame s.at k.at found got t next.1 goes-so

        was : IsWaiting layout old c
        was = at.own_waits was-on

        before : HasLeft at.soft.0 old s.who
        before = soft-left s was-on at.soft.1

        after : HasLeft at.soft.0 new s.who
        after = subst (λ (w : Who). HasLeft at.soft.0 new w) same-who (soft-left k goes-so soft-fit)

        pays : old.owed.losses ≡ [] → new.owed.losses ≡ []
        pays = soft-pays before after soft-can of-soft

        paused : (j : Job) → jobs.who j ≡ jobs.who c.own → IsAtPause layout old j → IsAtPause layout new j
        paused (kinds.Instruction i) same (p, rest) = (p, resting-stays i p rest (subst (λ (w : Who). Steps layout w step (logs (softs.put s)) old new found got) (sym same) made) (subst (λ (w : Who). checks_made w new ≡ checks_made w old) (at.own ∙ sym same) (checks-same before after)))
        paused (kinds.Copying y) same (p, base, rest) =
            let more = soft-grows before after of-soft in
            (p, base, copy-resting.resting-stays y p rest (subst (λ (w : Who). Steps layout w step (logs (softs.put s)) old new found got) (sym same) made) more.0 (subst (λ (w : Who). deeds w new ≡ deeds w old ++ more.0) (at.own ∙ sym same) more.1) more.2)
        paused _ same none = absurd none

        still : RestsNow layout old c.own → RestsNow layout new c.own
        still (inl said) = inl said
        still (inr (pause, none)) = inr (paused c.own refl pause, pays none)

    soft-goes : softs.answer k ≡ None → Fits layout new (record c { beside = Some k })
    soft-goes said = record {
      frames_are = fits.frames_are;
      collector = fits.collector;
      noted = fits.noted;
      behind = fits.behind;
      for_pages = fits.for_pages;
      few = fits.few;
      room = fits.room;
      at = record { soft = (at.soft.0, soft-fit); own = same-who ∙ at.own; next = at.next ∙ ap Some (sym same-frame); own_waits = λ goes-so. let now = waits-on goes-so in record { rests = now.rests; paid = now.paid }; noted = at.noted };
    }

    soft-over : (a : SoftAnswer) → softs.answer k ≡ Some a → Rested layout new (with_result (record c { beside = Some k }) k.frame a)
    soft-over a said = record {
      frames_are = fits.frames_are;
      collector = fits.collector;
      noted = at.noted;
      order = let one = more in let less = within-due in omega (arith, one, less);
      for_pages = fits.for_pages;
      few = let one = more in let few = fits.few in omega (arith, one, few);
      room = let one = more in let room = fits.room in let less = within-due in omega (arith, one, room, less);
      on_turn = subst (IsOnTurn new) (same-who ∙ at.own) soft-fit.on_turn;
      hand_is = (soft-ended k soft-fit said).0;
      now = now.rests;
      paid = inl now.paid;
      due_paid = λ f is. now.paid;
    }
      where
        now : IsWaiting layout new c
        now = waits-on (over-stays k a said)

        more : length (with_result (record c { beside = Some k }) k.frame a).due.offlined ≡ length c.due.offlined + 1
        more = length-append c.due.offlined (_ ∷ [])

    soft-next : (o : Option SoftAnswer) → softs.answer k ≡ o → (after : Course) (turn : Turn) → AfterSoft (record c { beside = Some k }) k o t after turn → Fits layout new after × ((jobs.who after.own).cpu ≡ (jobs.who c.own).cpu)
    soft-next None said after turn is = (subst (Fits layout new) (sym is.0) (soft-goes said), ap (λ (d : Course). (jobs.who d.own).cpu) is.0)
    soft-next (Some a) said after turn is = goes (with_result (record c { beside = Some k }) k.frame a) (soft-over a said) after turn is

-- ---- the law

stays-by : (layout : Layout) (old new : View) (c : Course) (step : Step) (found : ℕ) (got : Option BodyValue) (fits : Fits layout old c) (o : Option Soft) → FitsOf layout old c o → jobs.plan (part_of o c.own) ≡ Some step
    → Steps layout (jobs.who c.own) step (logs (jobs.put (part_of o c.own))) old new found got
    → ShowsOf (bare_of c o) (bare_of c o).beside found got × ((after : Course) (turn : Turn) → NextOf layout (bare_of c o) (bare_of c o).beside found got after turn → Fits layout new after × ((jobs.who after.own).cpu ≡ (jobs.who c.own).cpu))
stays-by layout old new c step found got fits None at planned made = which (jobs.answer c.own) refl at
  where
    which : (o : Option Answer) → jobs.answer c.own ≡ o → FitsOwn layout old c o
        → (jobs.Shows (jobs.bare c.own) found got × Covers c.frames c.watching) × ((after : Course) (turn : Turn) → NextOf layout (bare_of c None) None found got after turn → Fits layout new after × ((jobs.who after.own).cpu ≡ (jobs.who c.own).cpu))
    which None said going = (((kept c fits going step found got planned made).0, covered layout c fits.frames_are fits.collector), λ after turn next. own-next c fits going step found got planned made next.0 next.1 next.2 after turn next.3)
    which (Some a) said done = absurd (none-some step (sym (answered-over c.own said) ∙ planned))
stays-by layout old new c step found got fits (Some s) at planned made = (
  ((soft-kept c fits s at step found got planned made).0, let room = fits.room in let less = within-due c fits s at step found got planned made in omega (arith, room, less)),
  λ after turn next. soft-next c fits s at step found got planned made next.0 next.1 next.2 (softs.answer next.0) refl after turn next.3,
)

pub lawful : IsTask course-task
lawful = record {
  can = can;
  stays = λ layout old new c step found got fits is made. stays-by layout old new c step found got fits c.beside fits.at is made;
}

-- ---- what the class tells

-- a processor with an empty hand has neither lock
no-frame : (view : View) → hand_of view ≡ empty → HasFrame view → ⊥
no-frame view is (inl locks) = locks (ap (λ h. h.locks) is)
no-frame view is (inr (inl hands)) = hands (ap (λ h. h.hands) is)
no-frame view is (inr (inr reserved)) = reserved (ap (λ h. h.reserved) is)

no-page : (view : View) → hand_of view ≡ empty → HasPage view → ⊥
no-page view is pages = pages (ap (λ h. h.pages) is)

-- what runs fits, or all is done
runs : (layout : Layout) (view : View) (c : Course) → Fits layout view c → jobs.Fits layout view (part_of c.beside c.own) ⊎ ((hand_of view ≡ empty) × (jobs.claims (part_of c.beside c.own) ≡ None))
runs layout view c fits = which c.beside fits.at
  where
    own : (o : Option Answer) → FitsOwn layout view c o → jobs.Fits layout view c.own ⊎ ((hand_of view ≡ empty) × (jobs.claims c.own ≡ None))
    own None going = inl going.fits
    own (Some r) done = inr (done.hand_is, done.idle)

    which : (o : Option Soft) → FitsOf layout view c o → jobs.Fits layout view (part_of o c.own) ⊎ ((hand_of view ≡ empty) × (jobs.claims (part_of o c.own) ≡ None))
    which None at = own (jobs.answer c.own) at
    which (Some s) at = inl at.soft

pub tells : TellsClass course-task
tells = record {
  frame = λ layout view c fits has. elim (runs layout view c fits) [
    | inl part ↦ jobbing.tells.frame layout view (part_of c.beside c.own) part has
    | inr done ↦ absurd (no-frame view done.0 has)
  ];
  page = λ layout view c fits has. elim (runs layout view c fits) [
    | inl part ↦ jobbing.tells.page layout view (part_of c.beside c.own) part has
    | inr done ↦ absurd (no-page view done.0 has)
  ];
  claim = λ layout view c frame cycle fits is. elim (runs layout view c fits) [
    | inl part ↦ jobbing.tells.claim layout view (part_of c.beside c.own) frame cycle part is
    | inr done ↦ absurd (none-some (frame, cycle) (sym done.1 ∙ is))
  ];
}
