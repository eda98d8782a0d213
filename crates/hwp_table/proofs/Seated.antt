-- Each processor has the seat of its number, and turns are told.
use Rattle.std.proofs.Common.{◌≡◌, ℕ, Bool, true, false, cond, List, [], ◌∷◌, map, set, get_or, sym, ap, ◌∙◌, subst}
use Rattle.std.proofs.lemmas.Option.{get_or_from_slice_get}
use Rattle.atomic_table.specs.Seated.{TableId}
use Rattle.hwp_core_rule.specs.hwp_geom.declared.Cpu.{Cpu}
use Rattle.hwp_core_rule.specs.hwp_geom.declared.Layout.{Layout}
use Rattle.hwp_core_rule.specs.declared.Rec.{Rec}
use Rattle.hwp_core_rule.specs.declared.State.{State}
use Rattle.hwp_core_rule.specs.declared.View.{View}
use Rattle.hwp_core_rule.specs.Moves.{Run}
use Rattle.hwp_core_rule.specs.Opening.{opening, opening_view}
use Rattle.hwp_core_rule.specs.Views.{view_after}
use Rattle.hwp_core_rule.specs.declared.Turn.{Turn}
use Rattle.hwp_core_rule.specs.Boards.{AreSeated}
use Rattle.hwp_plain.specs.Boards.{moves_of, with_turn}
use Rattle.hwp_plain.proofs.TrailViews.{AreViews, views-open, views-more, view-there}
use Rattle.hwp_table_words.specs.Seats.{SeatValue, mine}
use Rattle.hwp_table.specs.Boards.{IsSeatBoard, state_of}
use Rattle.hwp_table.specs.Seats.{whole_at}
use Rattle.hwp_table.specs.Turns.{played, with_newest}
use Rattle.hwp_table.proofs.Played.{moves-played, newest-played, newest-count}

run-views : (layout : Layout) (log : List (ℕ × Rec)) (s : State) → Run layout (opening layout) log s → AreViews layout s.views
run-views layout [] s run = subst (AreViews layout) (sym (ap (λ (t : State). t.views) run)) (views-open layout)
run-views layout (r ∷ rs) s run =
    let more = views-more layout run.0.views (run-views layout rs run.0 run.1) r.0 r.1 in
    let view : get_or run.0.views r.0 (opening_view r.0) ≡ run.2.view = get_or_from_slice_get run.0.views r.0 run.2.view (opening_view r.0) run.2.me in
    subst (AreViews layout) (sym (ap (λ (t : State). t.views) run.2.next))
    (subst (λ (v : View). AreViews layout (set run.0.views r.0 (view_after layout r.1 v))) view more)

module _ (id : TableId) (layout : Layout) (seats : List SeatValue) (holder : ℕ) (turns : List Turn) (seat : ℕ) (is : IsSeatBoard id layout seats holder turns seat) where
  abbrev moves : List (ℕ × Rec)
  moves = (whole_at seats holder).log

  pub seated : AreSeated layout (state_of seats holder) (λ (cpu : Cpu). cpu.0)
  seated = let are = run-views layout (moves_of (played moves turns)) (state_of seats holder) is.reached.run in record {
    there = λ cpu less. view-there layout (map mine seats) are cpu.0 less;
    own = are.own;
    apart = λ c d first second same i. record { 0 = same i };
  }

  newest : (turn : Turn) → IsSeatBoard id layout seats holder (with_newest turn turns) seat
  newest turn = record {
    are = is.are;
    held = is.held;
    reached = record {
      run = subst (λ (l : List (ℕ × Rec)). Run layout (opening layout) l (state_of seats holder)) (moves-played moves turns ∙ sym (moves-played moves (with_newest turn turns))) is.reached.run;
      holds = is.reached.holds;
    };
    count = newest-count turn turns ∙ is.count;
    seated = is.seated;
  }

  which : (turn : Turn) (none : Bool) → IsSeatBoard id layout seats holder (cond none turns (with_newest turn turns)) seat
  which turn true = is
  which turn false = newest turn

  pub told : (turn : Turn) (none : Bool) (now : List Turn) → now ≡ cond none turns (with_newest turn turns) → IsSeatBoard id layout seats holder now seat
  told turn none now is-now = subst (λ (ts : List Turn). IsSeatBoard id layout seats holder ts seat) (sym is-now) (which turn none)

  log-by : (turn : Turn) (none : Bool) → played moves (cond none turns (with_newest turn turns)) ≡ cond none (played moves turns) (with_turn turn (played moves turns))
  log-by turn true = λ i. played moves turns
  log-by turn false = newest-played turn moves turns is.count

  pub log-told : (turn : Turn) (none : Bool) (now : List Turn) → now ≡ cond none turns (with_newest turn turns) → played moves now ≡ cond none (played moves turns) (with_turn turn (played moves turns))
  log-told turn none now is-now = ap (played moves) is-now ∙ log-by turn none
