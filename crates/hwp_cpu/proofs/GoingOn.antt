-- What a command comes to where its own task rests: the next frame is taken out of use, or its own task goes on, or its answer is the
-- command's.
use Rattle.hwp_cpu_command.specs.Runs.{Runs}
use Rattle.hwp_cpu.specs.Beside.{IsOwnServed}
use Rattle.hwp_cpu_row.specs.hwp_geom.declared.VSlot.{VSlot}
use Rattle.hwp_law_served.proofs.Rows.{past-end}
use Rattle.std.proofs.Common.{arith, inl, subst, ◌≡◌, refl, true, length, ◌<◌, not, ◌≤◌, slice_get, ap, List, ◌⊎◌, false, is_some, ℕ, None, Some, inr, Option, sym, ◌∙◌, nat_lt}
use Rattle.hwp_cpu_row.specs.hwp_core_rule.declared.View.{View}
use Rattle.hwp_cpu_row.specs.hwp_law.Commands.{is_kernels}
use Rattle.hwp_cpu.proofs.BesideTurns.{at_rest, own-behind, told-behind, begins-beside, HasNotedAll, goes-behind, way-behind, taken-few}
use Rattle.hwp_cpu.proofs.Collecting.{collects-plain, collects-undenied, collect-fails, collect-left, collect-numbers, collect-halted}
use Rattle.hwp_cpu_row.specs.Dues.{next_due}
use Rattle.hwp_cpu_command.specs.Jobs.{told_of}
use Rattle.hwp_cpu.proofs.OwnRests.{HoldsNone, answer-known, AnswerKnown}
use Rattle.std.proofs.lemmas.List.{take_all, length-map}
use Rattle.hwp_cpu.specs.Serving.{Pauses, KeepsWatch, noting, IsUnderWay, HasAnswered, noted_by, IsRunning, GivesUp, OwnGoesOn, Rests}
use Rattle.hwp_cpu_row.specs.declared.Offlining.{Offlining}
use Rattle.hwp_law_served.specs.Offlinings.{watched_at, left_beside}
use Rattle.hwp_law_served.specs.Causes.{IsAnswerCaused}
use Rattle.hwp_law_served.specs.hwp_page.declared.At.{At}
use Rattle.hwp_cpu_row.specs.hwp_law.Watched.{Watched, due}
use Rattle.hwp_cpu_row.specs.hwp_law.Notes.{is_for_pages}
use Rattle.std.specs.List.{cons_option}
use Rattle.hwp_cpu_row.specs.Locals.{collects, IsWatching}
use Rattle.hwp_cpu_row.specs.declared.Local.{Local}
use Rattle.hwp_cpu_row.specs.hwp_geom.declared.Frame.{Frame}
use Rattle.hwp_law_served.specs.Handles.{number_at, answers_by}
use Rattle.std.proofs.lemmas.Bool.{and_parts, ltb-true}
use Rattle.hwp_cpu_row.specs.hwp_core_rule.Lists.{EachMember}
use Rattle.hwp_cpu_row.specs.hwp_geom.declared.Layout.{Layout}
use Rattle.hwp_cpu_row.specs.hwp_script_words.declared.Command.{Command}
use Rattle.hwp_cpu.proofs.Collected.{not-watched}
use Rattle.hwp_cpu_command.specs.declared.job.Job.{Job}
use Rattle.hwp_cpu_row.specs.Acts.{told_notes}
use Rattle.hwp_cpu.proofs.commands.Beside.{answered-resumes}
use Rattle.hwp_cpu_row.specs.hwp_report_text.declared.Answer.{Answer}
use Rattle.hwp_cpu_row.specs.hwp_geom.declared.Cpu.{Cpu}
use Rattle.hwp_cpu.specs.Courses.{answer, IsGoingOn, going_on}
use Rattle.hwp_cpu_row.specs.hwp_geom.declared.Who.{Who}
use Rattle.hwp_cpu_row.specs.hwp_core_rule.declared.Turn.{Turn}
use Rattle.hwp_cpu_row.specs.declared.Row.{Row}
use Rattle.hwp_law_served.specs.Rows.{at_number}
use Rattle.hwp_cpu.specs.declared.course.Course.{Course}
use Rattle.hwp_cpu_command.specs.Jobs as jobs

-- all that the command noted is told to the collector
pub record IsComplete (layout : Layout) (watched : Option Watched) (c : Course) : Type 0 where
  pub due : due watched (told_notes layout (told_of c.own)) ≡ c.due.frames
  pub watching : IsWatching layout.frames (noting (told_notes layout (told_of c.own)) watched) c.watching

pub complete-by : (layout : Layout) (view : View) (who : Who) (list : List Command) (watched : Option Watched) (c : Course) → KeepsWatch layout view who list watched c → told_notes layout (told_of c.own) ≡ noted_by layout c → IsComplete layout watched c
complete-by layout view who list watched c keeps same = record {
  due = ap (due watched) same ∙ sym keeps.due;
  watching = subst (λ (l : List Frame). IsWatching layout.frames (noting l watched) c.watching) (sym same) keeps.watching;
}

-- a processor that doesn't collect has no frames due
pub complete-off : (layout : Layout) (view : View) (who : Who) (list : List Command) (watched : Option Watched) (c : Course) → collects c.watching ≡ false → KeepsWatch layout view who list watched c → IsComplete layout watched c
complete-off layout view who list watched c off keeps =
    let none : watched ≡ None = not-watched layout.frames (noted_by layout c) watched c.watching off keeps.watching in
    record {
      due = ap (λ (w : Option Watched). due w (told_notes layout (told_of c.own))) none ∙ sym (ap (λ (w : Option Watched). due w (noted_by layout c)) none) ∙ sym keeps.due;
      watching = subst (λ (w : Option Watched). IsWatching layout.frames (noting (told_notes layout (told_of c.own)) w) c.watching) (sym none) (subst (λ (w : Option Watched). IsWatching layout.frames (noting (noted_by layout c) w) c.watching) none keeps.watching);
    }

-- the command is answered so, and all comes to its row
pub record IsEnding (layout : Layout) (view : View) (cpu : Cpu) (list : List Command) (rows : List Row) (local : Local) (c : Course) (a : Answer) : Type 0 where
  pub command : Command
  pub copies : Option VSlot
  pub way : IsUnderWay layout view cpu list rows local command copies c
  pub known : AnswerKnown layout view cpu list rows local command copies c a
  pub none : c.beside ≡ None
  pub all : length c.due.offlined ≡ length c.due.frames
  pub complete : IsComplete layout (watched_at layout list rows (length rows)) c

abbrev pub Turned : Layout → View → Cpu → List Command → List Row → Local → Course → Option Answer → Type 0
Turned layout view cpu list rows local c None = IsRunning layout view cpu list rows local c ⊎ GivesUp layout view cpu list rows c
Turned layout view cpu list rows local c (Some a) = IsEnding layout view cpu list rows local c a

-- no frame is left, where none comes next
pub none-left : (layout : Layout) (view : View) (who : Who) (list : List Command) (watched : Option Watched) (c : Course) → KeepsWatch layout view who list watched c → next_due c.due ≡ None → length c.due.offlined ≡ length c.due.frames
none-left layout view who list watched c keeps none =
    let few : length c.due.offlined ≤ length c.due.frames = taken-few c.due.frames (length c.due.offlined) (sym (length-map c.due.offlined (λ (o : Offlining). o.frame)) ∙ ap length keeps.frames) in
    let most : length c.due.frames ≤ length c.due.offlined = past-end c.due.frames (length c.due.offlined) none in
    omega arith

-- its own task has its answer, and no frame comes next
module _ (layout : Layout) (view : View) (cpu : Cpu) (list : List Command) (rows : List Row) (local : Local) (command : Command) (copies : Option VSlot) (c : Course) (way : IsUnderWay layout view cpu list rows local command copies (at_rest c)) (a : Answer)
    (known : AnswerKnown layout view cpu list rows local command copies (at_rest c) a) (complete : IsComplete layout (watched_at layout list rows (length rows)) (at_rest c)) (none : next_due c.due ≡ None) where
  ending : IsEnding layout view cpu list rows local (at_rest c) a
  ending = record { command = command; copies = copies; way = way; known = known; none = refl; all = none-left layout view (at_number cpu (length rows)) list (watched_at layout list rows (length rows)) (at_rest c) way.collected none; complete = complete }

  same-own : jobs.resume c.own ≡ c.own
  same-own = answered-resumes c.own (ap is_some known.answered)

  pub ends-now : Turned layout view cpu list rows local (going_on c None) (answer (going_on c None))
  ends-now = subst (λ (j : Job). Turned layout view cpu list rows local (record c { own = j; beside = None }) (jobs.answer j)) (sym same-own) (subst (λ (o : Option Answer). Turned layout view cpu list rows local (at_rest c) o) (sym known.answered) ending)

module _ (layout : Layout) (view : View) (cpu : Cpu) (list : List Command) (rows : List Row) (local : Local) (command : Command) (copies : Option VSlot) (c : Course) (way : IsUnderWay layout view cpu list rows local command copies (at_rest c)) (holds : HoldsNone view (at_number cpu (length rows)) (at_rest c))
    (rests : Rests layout view cpu list rows local command c.own) (noted : HasNotedAll c) (pages : EachMember (λ (f : Frame). is_for_pages layout f ≡ true) c.due.frames) where
  abbrev at : Who
  at = at_number cpu (length rows)

  abbrev watched : Option Watched
  watched = watched_at layout list rows (length rows)

  -- the answer is as it was before the frames
  known-after : (has : HasAnswered layout view cpu list rows local command c.own) → AnswerKnown layout view cpu list rows local command copies (at_rest c) has.answer
  known-after has = record {
    answered = has.answered;
    served = subst (λ (o : Option VSlot). IsOwnServed layout (answers_by list rows) o view at command c.own has.answer local.banks) (sym plain) has.served;
    does = has.does;
    failed = way.account.failed (collect-fails layout at command c.own plain-runs has.collects);
    on_turn = holds.on_turn;
    hand_is = holds.hand_is;
    paid = holds.paid;
    unowed = holds.unowed;
    left = holds.left ∙ ap (λ (o : Option At). cons_option o (left_beside c.due.offlined)) (sym (collect-left command has.answer has.collects));
    numbers = λ file inside. collect-numbers layout view at command c.own has.answer local.handles file (number_at file list rows (length rows)) plain-runs has.collects (way.serves.handles_are.each file inside);
    halted = λ stopped. collect-halted layout (answers_by list rows) view at command (told_of c.own) (jobs.own_of c.own) has.collects (subst (IsAnswerCaused layout (answers_by list rows) view at command (told_of c.own) (jobs.own_of c.own)) stopped has.served.caused);
    denied = λ due is. absurd (collects-undenied layout at command c.own plain-runs has.collects is);
  }
    where
      -- such a command copies nothing
      plain : copies ≡ None
      plain = collects-plain layout at command copies c.own way.runs has.collects

      plain-runs : Runs layout at command None c.own
      plain-runs = subst (λ (o : Option VSlot). Runs layout at command o c.own) plain way.runs

  all-noted : told_notes layout (told_of c.own) ≡ noted_by layout (at_rest c)
  all-noted = ap (told_notes layout) (sym (take_all c.noted (told_of c.own) (omega (arith, noted))))

  -- behind a pause
  behind : Pauses layout view at command c.own → next_due c.due ≡ None → Turned layout view cpu list rows local (going_on c None) (answer (going_on c None))
  behind paused none = by (jobs.answer (jobs.resume c.own)) refl
    where
      running : IsRunning layout view cpu list rows local (going_on c None)
      running = goes-behind layout view cpu list rows local command copies c way holds paused noted none

      own : OwnGoesOn layout view command copies (going_on c None)
      own = own-behind layout view cpu list rows local command copies c way holds paused noted none

      way-now : IsUnderWay layout view cpu list rows local command copies (going_on c None)
      way-now = way-behind layout view cpu list rows local command copies c way holds paused noted none

      by : (o : Option Answer) → jobs.answer (jobs.resume c.own) ≡ o → Turned layout view cpu list rows local (going_on c None) o
      by None is = inl running
      by (Some a) is = record {
        command = command;
        copies = copies;
        way = way-now;
        known = answer-known layout view cpu list rows local command copies (going_on c None) way-now own.base own.fits own.prior own.left a is;
        none = refl;
        all = own.all;
        complete = complete-by layout view at list watched (going_on c None) way-now.collected (ap (told_notes layout) (sym (take_all c.noted (told_of (jobs.resume c.own)) (let same : length (told_of (jobs.resume c.own)) ≡ length (told_of c.own) = ap length (told-behind layout view cpu list rows local command copies c way holds paused noted none) in omega (arith, noted, same)))));
      }

  pub go-on : (after : Course) (turn : Turn) → IsGoingOn c after turn → Turned layout view cpu list rows local after (answer after)
  go-on after turn (after_is, turn_is) = subst (λ (d : Course). Turned layout view cpu list rows local d (answer d)) (sym after_is) (which (next_due c.due) refl)
    where
      which : (o : Option Frame) → next_due c.due ≡ o → Turned layout view cpu list rows local (going_on c o) (answer (going_on c o))
      which (Some frame) is = inl (begins-beside layout view cpu list rows local command copies c way holds rests noted frame is (within (length c.due.offlined) frame is))
        where
          within : (n : ℕ) (f : Frame) → slice_get c.due.frames n ≡ Some f → f.0 < layout.frames
          within n f there = ltb-true f.0 layout.frames (and_parts (nat_lt f.0 layout.frames) (not (is_kernels layout f)) (pages n f there)).0
      which None none = elim rests [
        | inl paused ↦ behind paused none
        | inr has ↦ ends-now layout view cpu list rows local command copies c way has.answer (known-after has) (complete-by layout view at list watched (at_rest c) way.collected all-noted) none
      ]
