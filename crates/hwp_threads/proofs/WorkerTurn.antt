-- One turn of a worker, from what `advance` tells.
use Rattle.std.proofs.Common.{◌≡◌, ◌≢◌, Bool, true, false, cond, Option, Some, None, refl, sym, ◌∙◌}
use Rattle.std.proofs.lemmas.Bool.{both_ways}
use Rattle.hwp_core_rule.specs.hwp_geom.declared.Layout.{Layout}
use Rattle.hwp_core_rule.specs.declared.Rec.{Rec}
use Rattle.hwp_core_rule.specs.declared.Step.{Step}
use Rattle.hwp_core_rule.specs.declared.View.{View}
use Rattle.hwp_core_rule.specs.declared.Turn.{Turn}
use Rattle.hwp_core_rule.specs.Ranks.{is_refused}
use Rattle.hwp_core_rule.specs.Turns.{Advances, AdvancesBy, Member}
use Rattle.hwp_threads.specs.declared.worker.Worker.{Worker}
use Rattle.hwp_threads.specs.Workers.{TookTurn, standing}
use Rattle.hwp_threads.proofs.WorkerRuns.{each-one}

pub took : {O S : Type 0} (m : Member S) (machine : O → Layout) (view : O → View) (moves : O → Rec → O → Type 0) (a b : Worker O S) (turn : Turn) (board_stays : Type 0)
    → machine b.seat ≡ machine a.seat → m.fits (machine a.seat) (view a.seat) a.task → m.plan a.task ≢ None
    → Advances m (machine a.seat) (view a.seat) (view b.seat) (λ r. moves a.seat r b.seat) board_stays a.task b.task turn
    → (b.refused ≡ false → (a.refused ≡ false) × (is_refused turn ≡ false)) → TookTurn m machine view moves a b
took m machine view moves a b turn board_stays same fits going advanced refused = by (m.plan a.task) refl advanced
  where
    by : (o : Option Step) → m.plan a.task ≡ o
        → AdvancesBy m (machine a.seat) o (view a.seat) (view b.seat) (λ r. moves a.seat r b.seat) board_stays a.task b.task turn → TookTurn m machine view moves a b
    by None over made = absurd (going over)
    by (Some step) planned made = record {
      turn = record { before = standing view a; step = step; found = made.found; got = made.got; after = b.task; turn = turn };
      made = record {
        same = same;
        own = (
          record { fits = fits; planned = planned; brings = made.steps.brings; follows = made.follows },
          λ i. record { view = made.steps.told.next i; task = b.task },
          refl,
        );
        moved = (a.seat, refl, made.moved);
        going = λ none. let both = refused none in (both.0, each-one _ both.1);
      };
    }

-- where neither was refused, both were not
pub either-none : (before now all : Bool) → all ≡ cond before true now → all ≡ false → (before ≡ false) × (now ≡ false)
either-none true now all is none = absurd (both_ways true (sym is ∙ none) refl)
either-none false now all is none = (refl, sym is ∙ none)
