-- A processor comes to an end: each turn that doesn't wait lowers what is left.
use Rattle.hwp_cpu_row.specs.hwp_geom.declared.VSlot.{VSlot}
use Rattle.hwp_cpu_row.specs.CowLists.{acting_in, copied_in}
use Rattle.hwp_cpu.proofs.CourseCosts as course-costs
use Rattle.hwp_cpu.proofs.CourseCosts.{course-below}
use Rattle.std.proofs.Common.{◌≡◌, ◌≢◌, ℕ, ◌+◌, ◌-◌, ◌*◌, ◌<◌, ◌≤◌, ◌⊎◌, inl, inr, true, false, List, [], ◌∷◌, Option, Some, None, length, option_map, slice_get, refl, sym, ap, ◌∙◌, subst, arith, cond, Bool}
use Rattle.std.proofs.lemmas.Bool.{both_ways}
use Rattle.std.proofs.lemmas.List.{length-append}
use Rattle.std.proofs.lemmas.Option.{none-some, slice_get_within}
use Rattle.hwp_cpu_row.specs.hwp_geom.declared.Frame.{Frame}
use Rattle.hwp_cpu_row.specs.hwp_geom.declared.Layout.{Layout}
use Rattle.hwp_cpu_row.specs.hwp_geom.declared.Who.{Who}
use Rattle.hwp_cpu_row.specs.hwp_geom.Limits.{command_limit}
use Rattle.hwp_cpu_row.specs.hwp_script_words.declared.Command.{Command}
use Rattle.hwp_cpu_row.specs.hwp_claim.hwp_guest.declared.Admit.{Admit}
use Rattle.hwp_cpu_row.specs.hwp_report_text.declared.Answer.{Answer}
use Rattle.hwp_cpu_row.specs.hwp_core_rule.declared.State.{State}
use Rattle.hwp_cpu_row.specs.hwp_core_rule.Moves.{Move}
use Rattle.hwp_cpu_row.specs.hwp_core_rule.Rule.{Holds}
use Rattle.hwp_cpu_row.specs.hwp_core_rule.declared.Turn.{Turn}
use Rattle.hwp_cpu_row.specs.hwp_core_rule.Boards.{view_of}
use Rattle.hwp_cpu_row.specs.hwp_core_rule.Calls.{logs, rec_of}
use Rattle.hwp_cpu_row.specs.hwp_core_rule.Ranks.{Made, CostFalls, HasFailed, IsRanked, OtherHand, PaysRevival, Pending, Quiet, failure_weight, failures_left, is_refused, is_waits, top, words_at, command_weight}
use Rattle.hwp_cpu_row.specs.declared.Row.{Row}
use Rattle.hwp_cpu_row.specs.declared.Local.{Local}
use Rattle.hwp_cpu_command.specs.declared.job.Job.{Job}
use Rattle.hwp_cpu_command.specs.Jobs as jobs
use Rattle.hwp_cpu.proofs.commands.Below.{begins-few}
use Rattle.hwp_cpu.proofs.commands.CommandRuns.{has-begun}
use Rattle.hwp_cpu.specs.declared.processor.Processor.{Processor}
use Rattle.hwp_cpu.specs.Processors.{carried_on, BeginsAt, Follows, IsAnswered, NextOf, aborts, aborts_of, bare, claims, claims_of, class, class_of, cost, cost_of, plan, plan_of, put_of, who_of, row_now}
use Rattle.hwp_law_served.specs.Rows.{at_number}
use Rattle.hwp_cpu.specs.Serving.{Fits, FitsAt, task}
use Rattle.hwp_cpu.specs.Courses.{part_of, BeginsCourse, part, gives_up}
use Rattle.hwp_cpu_row.specs.hwp_core_rule.declared.View.{View}
use Rattle.hwp_cpu_command.specs.hwp_soft.declared.Soft.{Soft}
use Rattle.hwp_cpu_row.specs.hwp_core_rule.declared.Step.{Step}
use Rattle.hwp_cpu_row.specs.hwp_geom.declared.Cpu.{Cpu}
use Rattle.hwp_cpu_row.specs.Locals.{collects}
use Rattle.hwp_cpu.specs.declared.course.Course.{Course}
use Rattle.hwp_cpu.specs.Courses as courses
use Rattle.hwp_cpu_command.specs.declared.job.Job.TheVariants as kinds
use Rattle.hwp_cpu_row.specs.GuestLists.{admission_in}

-- ---- one command

-- one that begins has few turns, holds nothing and claims nothing
begun-cost : (layout : Layout) (a : State) → Holds layout a → (by : Who) (command : Command) (copies : Option VSlot) (admit : Admit) (local : Local) (c : Course) → BeginsCourse layout by command copies admit local c → courses.cost c (words_at layout a) < command_weight
begun-cost layout a rule by command copies admit local c begins = subst (λ (o : Option Soft). courses.cost_of c o (words_at layout a) < command_weight) (sym (ap (λ (d : Course). d.beside) begins.is)) (which (jobs.plan c.own))
  where
    few : jobs.cost c.own (words_at layout a) < 131 * failure_weight
    few = begins-few layout a by command copies admit local.banks (collects local.watching) c.own rule begins.begins

    flat-few : (j : Job) → courses.flat j ≤ courses.soft_weight * courses.due_room
    flat-few (kinds.Raise r) = omega arith
    flat-few (kinds.Scrub s) = omega arith
    flat-few _ = omega arith

    up : (b : Bool) → cond b 2 (jobs.cost c.own (words_at layout a) + courses.flat c.own + 3) < command_weight
    up true = omega arith
    up false = let less : jobs.cost c.own (words_at layout a) < 131 * failure_weight = few in let most : courses.flat c.own ≤ courses.soft_weight * courses.due_room = flat-few c.own in omega (arith, less, most)

    which : (o : Option Step) → courses.own_cost c.own o (words_at layout a) < command_weight
    which None = omega arith
    which (Some step) = up (courses.gives_up c.own)

begun-idle : (layout : Layout) (a : State) → Holds layout a → (by : Who) (o : Option Command) (local : Local) (x : Option Course) → BeginsAt layout by o local x → (cost_of x (words_at layout a) < command_weight) × (class_of x ≡ 4) × (claims_of x ≡ None)
begun-idle layout a rule by (Some command) local (Some c) begins = (
  begun-cost layout a rule by (acting_in layout local.cows command) (copied_in local.cows command) (admission_in layout local.guests command) local c begins,
  subst (λ (b : Option Soft). jobs.class (part_of b c.own) ≡ 4) (sym alone) idle.0,
  subst (λ (b : Option Soft). jobs.claims (part_of b c.own) ≡ None) (sym alone) idle.1,
)
  where
    alone : c.beside ≡ None
    alone = ap (λ (d : Course). d.beside) begins.is

    idle : (jobs.class c.own ≡ 4) × (jobs.claims c.own ≡ None)
    idle = (has-begun layout by (acting_in layout local.cows command) (copied_in local.cows command) (admission_in layout local.guests command) local.banks (collects local.watching) c.own begins.begins).idle
begun-idle layout a rule by None local None begins = (omega arith, refl, refl)
begun-idle layout a rule by (Some command) local None begins = absurd begins
begun-idle layout a rule by None local (Some c) begins = absurd begins

-- the command that runs is one of the processor
known-within : (layout : Layout) (view : View) (cpu : Cpu) (list : List Command) (rows : List Row) (local : Local) (c : Course) → FitsAt layout view cpu list rows local (Some c) → length rows < length list
known-within layout view cpu list rows local c (rule, inl run) = slice_get_within list (length rows) run.way.next.own run.way.next.there
known-within layout view cpu list rows local c (rule, inr up) = slice_get_within list (length rows) up.next.own up.next.there

-- ---- a turn

module _ {layout : Layout} {seat : ℕ} {a b : State} {p q : Processor} {turn : Turn} (made : Made task layout seat a b p q turn) where
  abbrev rows : List Row
  rows = p.rows.items

  -- the cost falls below this one, or exceeds it by less than a failure weighs, of which one fewer is left
  abbrev Lowers : ℕ → Type 0
  Lowers before = (cost q (words_at layout b) < before) ⊎ ((failures_left (words_at layout b) < failures_left (words_at layout a)) × (cost q (words_at layout b) < before + failure_weight))

  -- no more frames are left to fail, or the cost falls below this one by more than they may add to it
  abbrev Pays : ℕ → Type 0
  Pays before = (failures_left (words_at layout b) ≤ failures_left (words_at layout a)) ⊎ (cost q (words_at layout b) + failure_weight * failures_left (words_at layout b) < before + failure_weight * failures_left (words_at layout a))

  -- where the command that ran was answered, the next one is at its beginning, or all are over
  answered-idle : (k : Course) (answer : Answer) → IsAnswered (bare p) k answer q → (cost_of q.course (words_at layout b) < command_weight) × (class q ≡ 4) × (claims q ≡ None)
  answered-idle k answer answered = begun-idle layout b made.kept (at_number p.cpu (length rows + 1)) (slice_get p.commands (length rows + 1)) (carried_on p k answer) q.course
      (subst (λ (l : Layout). BeginsAt l (at_number p.cpu (length rows + 1)) (slice_get p.commands (length rows + 1)) (carried_on p k answer) q.course) made.fits.layout_is answered.begins)

  -- and this is left
  answered-falls : (c k : Course) (answer : Answer) → FitsAt layout (view_of a seat) p.cpu p.commands rows p.local (Some c) → IsAnswered (bare p) k answer q → cost q (words_at layout b) < command_weight * (length p.commands - length rows)
  answered-falls c k answer at answered =
      let within : length rows < length p.commands = known-within layout (view_of a seat) p.cpu p.commands rows p.local c at in
      let count : length q.commands ≡ length p.commands = ap length answered.commands_are in
      let one : length q.rows.items ≡ length rows + 1 = ap length answered.rows_are ∙ length-append rows (row_now (bare p) k answer ∷ []) in
      let few : cost_of q.course (words_at layout b) < command_weight = (answered-idle k answer answered).0 in
      omega (arith, within, count, one, few)

  module _ (c : Course) (at : FitsAt layout (view_of a seat) p.cpu p.commands rows p.local (Some c)) (planned : jobs.plan (part c) ≡ Some made.step)
      (move : Move layout seat (rec_of layout (jobs.who c.own) made.step (logs (jobs.put (part c))) made.found made.got) a b) where
    -- the turn of the command that runs
    of-course : (k : Course) (t : Turn) → courses.Next layout (courses.bare c) made.found made.got k t → Made courses.task layout seat a b c k t
    of-course k t next = record { step = made.step; found = made.found; got = made.got; rule = made.rule; kept = made.kept; fits = at.0; planned = planned; move = move; brings = made.brings; follows = next }

    falls-on : (k : Course) (t : Turn) → courses.Next layout (courses.bare c) made.found made.got k t → (o : Option Answer) → Follows (bare p) k o t q turn → is_waits turn ≡ false
        → Lowers (command_weight * (length p.commands - length rows) + courses.cost c (words_at layout a))
    falls-on k t next None (after_is, turn_is) goes = elim (course-costs.ranked.falls layout seat a b c k t (of-course k t next) (sym (ap is_waits turn_is) ∙ goes)) [
      | inl less ↦ inl (subst (λ (x : Processor). cost x (words_at layout b) < command_weight * (length p.commands - length rows) + courses.cost c (words_at layout a)) (sym after_is) (omega (arith, less)))
      | inr fails ↦ inr (fails.fewer, subst (λ (x : Processor). cost x (words_at layout b) < command_weight * (length p.commands - length rows) + courses.cost c (words_at layout a) + failure_weight) (sym after_is) (omega (arith, fails.bounded)))
    ]
    falls-on k t next (Some answer) (answered, turn_is) goes = inl (let less : cost q (words_at layout b) < command_weight * (length p.commands - length rows) = answered-falls c k answer at answered in omega (arith, less))

    pays-on : (k : Course) (t : Turn) → courses.Next layout (courses.bare c) made.found made.got k t → (o : Option Answer) → Follows (bare p) k o t q turn → Pays (command_weight * (length p.commands - length rows) + courses.cost c (words_at layout a))
    pays-on k t next o follows = elim (course-costs.pays layout seat a b c k t (of-course k t next)) [
      | inl stay ↦ inl stay
      | inr paid ↦ inr (less o follows paid)
    ]
      where
        less : (o : Option Answer) → Follows (bare p) k o t q turn
            → courses.cost k (words_at layout b) + failure_weight * failures_left (words_at layout b) < courses.cost c (words_at layout a) + failure_weight * failures_left (words_at layout a)
            → cost q (words_at layout b) + failure_weight * failures_left (words_at layout b) < command_weight * (length p.commands - length rows) + courses.cost c (words_at layout a) + failure_weight * failures_left (words_at layout a)
        less None (after_is, turn_is) paid = subst (λ (x : Processor). cost x (words_at layout b) + failure_weight * failures_left (words_at layout b) < command_weight * (length p.commands - length rows) + courses.cost c (words_at layout a) + failure_weight * failures_left (words_at layout a)) (sym after_is) (omega (arith, paid))
        less (Some answer) (answered, turn_is) paid =
            let below : cost q (words_at layout b) < command_weight * (length p.commands - length rows) = answered-falls c k answer at answered in
            omega (arith, below, paid)

    waits-on : (k : Course) (t : Turn) → courses.Next layout (courses.bare c) made.found made.got k t → (o : Option Answer) → Follows (bare p) k o t q turn → is_waits turn ≡ true → Quiet (jobs.class (part c)) layout a seat
        → (cost q (words_at layout b) < command_weight * (length p.commands - length rows) + courses.cost c (words_at layout a)) ⊎ ((aborts q ≡ true) × OtherHand a seat)
    waits-on k t next None (after_is, turn_is) is quiet = elim (course-costs.ranked.waits layout seat a b c k t (of-course k t next) (sym (ap is_waits turn_is) ∙ is) quiet) [
      | inl less ↦ inl (subst (λ (x : Processor). cost x (words_at layout b) < command_weight * (length p.commands - length rows) + courses.cost c (words_at layout a)) (sym after_is) (omega (arith, less)))
      | inr gives ↦ inr (ap aborts after_is ∙ gives.0, gives.1)
    ]
    waits-on k t next (Some answer) (answered, turn_is) is quiet = absurd (both_ways true (sym is ∙ ap is_waits turn_is) refl)

    leaves-on : (k : Course) (t : Turn) → courses.Next layout (courses.bare c) made.found made.got k t → (o : Option Answer) → Follows (bare p) k o t q turn → jobs.aborts (part c) ≡ true → (plan q ≡ None) ⊎ (1 < class q)
    leaves-on k t next None (after_is, turn_is) gives = subst (λ (x : Processor). (plan x ≡ None) ⊎ (1 < class x)) (sym after_is) (course-costs.ranked.leaves layout seat a b c k t (of-course k t next) gives)
    leaves-on k t next (Some answer) (answered, turn_is) gives = inr (let four : class q ≡ 4 = (answered-idle k answer answered).1 in omega (arith, four))

    owns-on : (k : Course) (t : Turn) → courses.Next layout (courses.bare c) made.found made.got k t → (o : Option Answer) → courses.answer k ≡ o → Follows (bare p) k o t q turn → is_refused turn ≡ false → (frame : Frame) (cycle : ℕ) → Pending (words_at layout b) frame cycle
        → (claims q ≡ Some (frame, cycle)) ⊎ (Pending (words_at layout a) frame cycle × (jobs.claims (part c) ≢ Some (frame, cycle)))
    owns-on k t next None said (after_is, turn_is) going frame cycle pending = elim (course-costs.ranked.owns layout seat a b c k t frame cycle (of-course k t next) (sym (ap is_refused turn_is) ∙ going) pending) [
      | inl claimed ↦ inl (ap claims after_is ∙ claimed)
      | inr was ↦ inr was
    ]
    owns-on k t next (Some answer) said (answered, turn_is) going frame cycle pending = inr (course-costs.owns-answered layout seat a b c k t frame cycle (of-course k t next) said pending)

falls : (layout : Layout) (seat : ℕ) (a b : State) (p q : Processor) (turn : Turn) → Made task layout seat a b p q turn → is_waits turn ≡ false → CostFalls task layout a b p q ⊎ HasFailed task layout a b p q
falls layout seat a b p q turn made goes = elim (which p.course made.fits.at made.planned made.move made.follows) [
  | inl less ↦ inl less
  | inr fails ↦ inr (record { fewer = fails.0; bounded = fails.1 })
]
  where
    which : (x : Option Course) → FitsAt layout (view_of a seat) p.cpu p.commands p.rows.items p.local x → plan_of x ≡ Some made.step
        → Move layout seat (rec_of layout (who_of p.cpu x) made.step (logs (put_of x)) made.found made.got) a b → NextOf layout (bare p) (option_map courses.bare x) made.found made.got q turn
        → Lowers made (command_weight * (length p.commands - length p.rows.items) + cost_of x (words_at layout a))
    which (Some c) at planned move next = falls-on made c at planned move next.0 next.1 next.2 (courses.answer next.0) next.3 goes
    which None at planned move next = absurd (none-some made.step planned)

waits : (layout : Layout) (seat : ℕ) (a b : State) (p q : Processor) (turn : Turn) → Made task layout seat a b p q turn → is_waits turn ≡ true → Quiet (class p) layout a seat → CostFalls task layout a b p q ⊎ ((aborts q ≡ true) × OtherHand a seat)
waits layout seat a b p q turn made is quiet = which p.course made.fits.at made.planned made.move made.follows quiet
  where
    which : (x : Option Course) → FitsAt layout (view_of a seat) p.cpu p.commands p.rows.items p.local x → plan_of x ≡ Some made.step
        → Move layout seat (rec_of layout (who_of p.cpu x) made.step (logs (put_of x)) made.found made.got) a b → NextOf layout (bare p) (option_map courses.bare x) made.found made.got q turn
        → Quiet (class_of x) layout a seat → (cost q (words_at layout b) < command_weight * (length p.commands - length p.rows.items) + cost_of x (words_at layout a)) ⊎ ((aborts q ≡ true) × OtherHand a seat)
    which (Some c) at planned move next others = waits-on made c at planned move next.0 next.1 next.2 (courses.answer next.0) next.3 is others
    which None at planned move next others = absurd (none-some made.step planned)

-- a turn pays for what its command takes back
pub pays : PaysRevival task
pays layout seat a b p q turn made = which p.course made.fits.at made.planned made.move made.follows
  where
    which : (x : Option Course) → FitsAt layout (view_of a seat) p.cpu p.commands p.rows.items p.local x → plan_of x ≡ Some made.step
        → Move layout seat (rec_of layout (who_of p.cpu x) made.step (logs (put_of x)) made.found made.got) a b → NextOf layout (bare p) (option_map courses.bare x) made.found made.got q turn
        → Pays made (command_weight * (length p.commands - length p.rows.items) + cost_of x (words_at layout a))
    which (Some c) at planned move next = pays-on made c at planned move next.0 next.1 next.2 (courses.answer next.0) next.3
    which None at planned move next = absurd (none-some made.step planned)

classes : (p : Processor) → (1 ≤ class p) × (class p ≤ 4)
classes p = which p.course
  where
    which : (x : Option Course) → (1 ≤ class_of x) × (class_of x ≤ 4)
    which (Some c) = course-costs.ranked.classes c
    which None = (omega arith, omega arith)

small : (layout : Layout) (a : State) (seat : ℕ) (p : Processor) → Holds layout a → Fits layout (view_of a seat) p → cost p (words_at layout a) < top
small layout a seat p rule fits =
    let few : length p.commands ≤ command_limit = fits.ready.commands.few in
    let below : cost_of p.course (words_at layout a) < command_weight = which p.course fits.at in
    omega (arith, few, below)
  where
    which : (x : Option Course) → FitsAt layout (view_of a seat) p.cpu p.commands p.rows.items p.local x → cost_of x (words_at layout a) < command_weight
    which (Some c) at = course-below layout a (view_of a seat) c rule at.0
    which None at = omega arith

leaves : (layout : Layout) (seat : ℕ) (a b : State) (p q : Processor) (turn : Turn) → Made task layout seat a b p q turn → aborts p ≡ true → (plan q ≡ None) ⊎ (1 < class q)
leaves layout seat a b p q turn made gives = which p.course made.fits.at made.planned made.move made.follows gives
  where
    which : (x : Option Course) → FitsAt layout (view_of a seat) p.cpu p.commands p.rows.items p.local x → plan_of x ≡ Some made.step
        → Move layout seat (rec_of layout (who_of p.cpu x) made.step (logs (put_of x)) made.found made.got) a b → NextOf layout (bare p) (option_map courses.bare x) made.found made.got q turn
        → aborts_of x ≡ true → (plan q ≡ None) ⊎ (1 < class q)
    which (Some c) at planned move next gives_up = leaves-on made c at planned move next.0 next.1 next.2 (courses.answer next.0) next.3 gives_up
    which None at planned move next gives_up = absurd (none-some made.step planned)

owns : (layout : Layout) (seat : ℕ) (a b : State) (p q : Processor) (turn : Turn) (frame : Frame) (cycle : ℕ) → Made task layout seat a b p q turn → is_refused turn ≡ false → Pending (words_at layout b) frame cycle
    → (claims q ≡ Some (frame, cycle)) ⊎ (Pending (words_at layout a) frame cycle × (claims p ≢ Some (frame, cycle)))
owns layout seat a b p q turn frame cycle made going pending = which p.course made.fits.at made.planned made.move made.follows
  where
    which : (x : Option Course) → FitsAt layout (view_of a seat) p.cpu p.commands p.rows.items p.local x → plan_of x ≡ Some made.step
        → Move layout seat (rec_of layout (who_of p.cpu x) made.step (logs (put_of x)) made.found made.got) a b → NextOf layout (bare p) (option_map courses.bare x) made.found made.got q turn
        → (claims q ≡ Some (frame, cycle)) ⊎ (Pending (words_at layout a) frame cycle × (claims_of x ≢ Some (frame, cycle)))
    which (Some c) at planned move next = owns-on made c at planned move next.0 next.1 next.2 (courses.answer next.0) refl next.3 going frame cycle pending
    which None at planned move next = absurd (none-some made.step planned)

pub ranked : IsRanked task
ranked = record { classes = classes; small = small; falls = falls; waits = waits; leaves = leaves; owns = owns }
