-- What processors came to that moved in whatever order: their commands are served, and no failure is open.
use Rattle.std.proofs.Common.{◌≡◌, ℕ, ◌<◌, List, [], ◌∷◌, ◌++◌, Some, None, length, map, set, slice_get, refl, sym, ap, ◌∙◌, subst, arith}
use Rattle.std.proofs.lemmas.List.{length-map}
use Rattle.std.proofs.lemmas.Option.{get_or_from_slice_get, same_Some, slice_get-get_or, slice_get_within}
use Rattle.hwp_threads.specs.hwp_geom.declared.Frame.{Frame}
use Rattle.hwp_threads.specs.hwp_geom.declared.Layout.{Layout}
use Rattle.hwp_threads.specs.hwp_core_rule.declared.Rec.{Rec}
use Rattle.hwp_threads.specs.hwp_core_rule.declared.State.{State}
use Rattle.hwp_threads.specs.hwp_core_rule.declared.View.{View}
use Rattle.hwp_threads.specs.hwp_core_rule.Lists.{EachMember}
use Rattle.hwp_threads.specs.hwp_core_rule.Moves.{Run}
use Rattle.hwp_threads.specs.hwp_core_rule.Opening.{below, opening, opening_view}
use Rattle.hwp_threads.specs.hwp_core_rule.Rule.{Holds}
use Rattle.hwp_threads.specs.hwp_core_rule.Views.{view_after}
use Rattle.hwp_threads.proofs.of_hwp_core_rule.Lists.{at_map, map-was}
use Rattle.hwp_threads.proofs.of_hwp_core_rule.MoveKeeps.{holds-moved}
use Rattle.hwp_threads.proofs.of_hwp_core_rule.BoardOpens.{opening-holds}
use Rattle.hwp_threads.proofs.of_hwp_core_rule.WordsOpen.{below-at, length-below}
use Rattle.hwp_threads.proofs.of_hwp_core_rule.StepKeeps.{keeps}
use Rattle.hwp_threads.specs.hwp_core_rule.Boards.{AreSeated, Played, view_of}
use Rattle.hwp_threads.specs.hwp_core_rule.Ranks.{Pending, words_at}
use Rattle.hwp_threads.specs.Own.{IsTurn, Standing, Turned}
use Rattle.hwp_threads.specs.Parts.{AreParts, IsClaim, Own, Stands, froms, tos}
use Rattle.hwp_threads.proofs.FailureClaims.{back, stands-on, stands-settled}
use Rattle.hwp_threads.proofs.OwnKeeps.{own-keeps}
use Rattle.hwp_top_report.proofs.of_hwp_plain.TrailViews.{AreViews, view-there, views-more, views-open}
use Rattle.hwp_top_words.specs.hwp_script_read.declared.Script.{Script}
use Rattle.hwp_top_words.specs.hwp_script_read.hwp_script_words.Valid.{IsValid}
use Rattle.hwp_top_report.specs.hwp_plain.Order.{logged}
use Rattle.hwp_top_report.specs.hwp_plain.Ready.{Claimed}
use Rattle.hwp_top_report.specs.hwp_law_served.Turns.{Leads}
use Rattle.hwp_top_report.proofs.of_hwp_law_served.Homes.{there-is}
use Rattle.hwp_top_report.proofs.of_hwp_law_served.turns.TurnLeads.{leads-hold, leads-on}
use Rattle.hwp_top_report.specs.hwp_cpu_row.declared.Row.{Row}
use Rattle.hwp_cpu.specs.declared.Processor.{Processor}
use Rattle.hwp_cpu.specs.Processors.{plan, plan_of}
use Rattle.hwp_cpu.specs.Serving.{Fits}
use Rattle.hwp_cpu.proofs.ProcessorCosts.{ranked}
use Rattle.hwp_cpu.proofs.ProcessorTells.{tells}
use Rattle.hwp_top_report.specs.Finishes.{HasEnded, own_seat}
use Rattle.hwp_top.specs.Runs.{processors}
use Rattle.hwp_top.proofs.Crews.{begin-crew, finished-length}
use Rattle.hwp_top.specs.ThreadRuns.{AreDone, moves_in, tasks_then}
use Rattle.hwp_top.proofs.ProcessorServes.{Keeps, begins-kept, finished-over, next-kept, served-kept}

-- ---- the moves, as turns in their order

pub record InTurns (layout : Layout) (a : State) (moves : List (ℕ × Rec)) (s : State) : Type 0 where
  pub turns : List Played
  pub made : moves_in turns ≡ moves
  pub leads : Leads layout a turns s

-- a turn more is the newest of the log
logged-last : (ts : List Played) (t : Played) (log : List Played) → logged (ts ++ t ∷ []) log ≡ t ∷ logged ts log
logged-last [] t log = refl
logged-last (p ∷ ps) t log = logged-last ps t (p ∷ log)

pub in-turns : (layout : Layout) (a : State) (moves : List (ℕ × Rec)) (s : State) (owns : List (Own Processor)) → Holds layout a → Run layout a moves s → AreParts processors layout a moves owns → InTurns layout a moves s
in-turns layout a [] s owns holds run parts = record { turns = []; made = refl; leads = run }
in-turns layout a (r ∷ rs) s owns holds run parts =
    let b = back processors layout ranked a r rs s owns run parts in
    let earlier = in-turns layout a rs run.0 b.owns_then holds run.1 b.parts in
    let kept = holds-moved layout r.0 r.1 run.0 s (keeps r.1.step) (leads-hold layout a run.0 earlier.turns holds earlier.leads) run.2 in
    let turn : Played = record { seat = r.0; made = r.1; turn = b.u.turn } in
    let last : Leads layout run.0 (turn ∷ []) s = (s, run.2, kept, refl) in
    record {
      turns = earlier.turns ++ turn ∷ [];
      made = ap (map (λ (t : Played). (t.seat, t.made))) (logged-last earlier.turns turn []) ∙ ap (λ (l : List (ℕ × Rec)). r ∷ l) earlier.made;
      leads = leads-on layout a run.0 s earlier.turns (turn ∷ []) earlier.leads last;
    }

-- ---- each processor has a seat

run-views : (layout : Layout) (moves : List (ℕ × Rec)) (s : State) → Run layout (opening layout) moves s → AreViews layout s.views
run-views layout [] s run = subst (AreViews layout) (sym (ap (λ (t : State). t.views) run)) (views-open layout)
run-views layout (r ∷ rs) s run =
    let more = views-more layout run.0.views (run-views layout rs run.0 run.1) r.0 r.1 in
    let view = get_or_from_slice_get run.0.views r.0 run.2.view (opening_view r.0) run.2.me in
    subst (AreViews layout) (sym (ap (λ (t : State). t.views) run.2.next ∙ ap (λ (v : View). set run.0.views r.0 (view_after layout r.1 v)) (sym view))) more

module _ (script : Script) (last : State) (rows : List (List Row)) (valid : IsValid script) (done : AreDone script last rows) where
  abbrev moves : List (ℕ × Rec)
  moves = done.moves

  abbrev layout : Layout
  layout = script.layout

  abbrev tos-of : List (Standing Processor)
  tos-of = tos done.owns

  abbrev tasks-then : List Processor
  tasks-then = tasks_then done.owns

  rule : Holds layout (opening layout)
  rule = opening-holds layout valid.sound

  count : length done.owns ≡ layout.cpus
  count = done.parts.count ∙ (length-map (below layout.cpus) opening_view ∙ length-below layout.cpus)

  -- a processor with its run
  own-of : (cpu : ℕ) → cpu < layout.cpus → (o : Own Processor) × (slice_get done.owns cpu ≡ Some o)
  own-of cpu less = there-is done.owns cpu (omega (arith, less, count))

  less-of : (cpu : ℕ) (o : Own Processor) → slice_get done.owns cpu ≡ Some o → cpu < layout.cpus
  less-of cpu o at = let within = slice_get_within done.owns cpu o at in omega (arith, within, count)

  -- how they stood at opening
  began-stands : Stands processors layout (opening layout) (froms done.owns)
  began-stands = record {
    rule = rule;
    views = λ cpu x at. views cpu x (map-was (λ (o : Own Processor). o.from) done.owns cpu x at);
    claimed = λ frame cycle pending. claimed frame cycle ((begin-crew script done.tasks valid done.begin).claimed frame cycle pending);
  }
    where
      views : (cpu : ℕ) (x : Standing Processor) → (o : Own Processor) × (slice_get done.owns cpu ≡ Some o) × (o.from ≡ x) → slice_get (opening layout).views cpu ≡ Some x.view
      views cpu x (o, at, is) =
          at_map opening_view (below layout.cpus) cpu cpu (below-at layout.cpus cpu (less-of cpu o at)) ∙ ap (λ (v : View). Some v) (sym (done.begun cpu o at).view_is) ∙ ap (λ (y : Standing Processor). Some y.view) is

      claimed : (frame : Frame) (cycle : ℕ) → Claimed processors done.tasks frame cycle → IsClaim processors (froms done.owns) frame cycle
      claimed frame cycle k =
          let at : slice_get done.tasks k.cpu ≡ Some k.task = slice_get-get_or done.tasks k.cpu k.task k.at.within ∙ ap (λ (p : Processor). Some p) k.at.is in
          let within = slice_get_within done.tasks k.cpu k.task at in
          let own = own-of k.cpu (omega (arith, within, done.begin.one_each, valid.one_each)) in
          let same : own.0.from.task ≡ k.task = same_Some own.0.from.task k.task (sym (done.begun k.cpu own.0 own.1).task_is ∙ at) in
          record { cpu = k.cpu; standing = own.0.from; there = at_map (λ (o : Own Processor). o.from) done.owns k.cpu own.0 own.1; claims = ap (λ (p : Processor). processors.claims p) same ∙ k.claims }

  -- and how they stand at the end
  pub ended-stands : Stands processors layout last tos-of
  ended-stands = stands-on processors layout ranked (opening layout) moves last done.owns done.run done.parts began-stands

  pub in-order : InTurns layout (opening layout) moves last
  in-order = in-turns layout (opening layout) moves last done.owns rule done.run done.parts

  pub ended-seated : AreSeated layout last own_seat
  ended-seated = let are = run-views layout moves last done.run in record {
    there = λ cpu less. view-there layout last.views are cpu.0 less;
    own = are.own;
    apart = λ c d first second same i. record { 0 = same i };
  }

  pub ended-count : length rows ≡ layout.cpus
  ended-count = finished-length tasks-then rows done.finished ∙ (length-map done.owns (λ (o : Own Processor). o.to.task) ∙ count)

  -- a task keeps its processor's number and commands
  kept : (cpu : ℕ) (o : Own Processor) → slice_get done.owns cpu ≡ Some o → Keeps script cpu o.to.task
  kept cpu o at = own-keeps processors layout (Keeps script cpu) stays o.from o.turns o.to (done.parts.each cpu o at).run (begins-kept script done.tasks valid done.begin cpu o.from.task (done.begun cpu o at).task_is)
    where
      stays : (t : Turned Processor) → IsTurn processors layout t → Keeps script cpu t.before.task → Keeps script cpu t.after
      stays t turn = next-kept script layout cpu t.before.task t.after t.found t.got t.turn turn.follows

  -- the task of a processor at the end is kept, and fits what the processor knows
  ended-at : (cpu : ℕ) (p : Processor) → slice_get tasks-then cpu ≡ Some p → Keeps script cpu p × Fits layout (view_of last cpu) p
  ended-at cpu p at = of (map-was (λ (o : Own Processor). o.to.task) done.owns cpu p at)
    where
      of : (o : Own Processor) × (slice_get done.owns cpu ≡ Some o) × (o.to.task ≡ p) → Keeps script cpu p × Fits layout (view_of last cpu) p
      of (o, there, is) =
          let view : view_of last cpu ≡ o.to.view = get_or_from_slice_get last.views cpu o.to.view (opening_view cpu) (ended-stands.views cpu o.to (at_map (λ (x : Own Processor). x.to) done.owns cpu o there)) in (
            subst (Keeps script cpu) is (kept cpu o there),
            subst (λ (v : View). Fits layout v p) (sym view) (subst (Fits layout o.to.view) is (done.begun cpu o there).fits),
          )

  -- no failure is open
  ended-settled : (frame : Frame) (cycle : ℕ) → Pending (words_at layout last) frame cycle → ⊥
  ended-settled = stands-settled processors layout last tos-of tells ended-stands over
    where
      over : EachMember (λ (x : Standing Processor). Fits layout x.view x.task × (plan x.task ≡ None)) tos-of
      over cpu x at = of (map-was (λ (o : Own Processor). o.to) done.owns cpu x at)
        where
          of : (o : Own Processor) × (slice_get done.owns cpu ≡ Some o) × (o.to ≡ x) → Fits layout x.view x.task × (plan x.task ≡ None)
          of (o, there, is) =
              let none : o.to.task.course ≡ None = finished-over tasks-then rows cpu o.to.task done.finished (at_map (λ (y : Own Processor). y.to.task) done.owns cpu o there) in
              subst (λ (y : Standing Processor). Fits layout y.view y.task × (plan y.task ≡ None)) is ((done.begun cpu o there).fits, ap plan_of none)

  -- THE RUN HAS ENDED, in whatever order its turns were made
  pub all-ended : HasEnded script in-order.turns last rows
  all-ended = record {
    rule = rule;
    moves = in-order.leads;
    seated = ended-seated;
    settled = ended-settled;
    served = served-kept script valid last tasks-then ended-stands.rule ended-seated ended-at rows done.finished;
    count = ended-count;
  }
