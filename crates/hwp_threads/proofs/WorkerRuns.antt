-- Turns one after another are a run of the worker.
use Rattle.std.proofs.Common.{◌≡◌, false, List, [], ◌∷◌, zero, suc, sym, ◌∙◌, subst}
use Rattle.std.proofs.lemmas.Option.{none-some, same_Some}
use Rattle.hwp_core_rule.specs.hwp_geom.declared.Layout.{Layout}
use Rattle.hwp_core_rule.specs.declared.Rec.{Rec}
use Rattle.hwp_core_rule.specs.declared.View.{View}
use Rattle.hwp_core_rule.specs.Lists.{EachMember}
use Rattle.hwp_core_rule.specs.Ranks.{is_refused}
use Rattle.hwp_core_rule.specs.Turns.{Member}
use Rattle.hwp_threads.specs.Own.{IsOwnRun, Turned, made_of}
use Rattle.hwp_threads.specs.declared.worker.Worker.{Worker}
use Rattle.hwp_threads.specs.Workers.{HasRun, TookTurn, standing}

abbrev NotRefused : {S : Type 0} → List (Turned S) → Type 0
NotRefused {S} ts = EachMember (λ (t : Turned S). is_refused t.turn ≡ false) ts

pub each-one : {S : Type 0} (t : Turned S) → is_refused t.turn ≡ false → NotRefused (t ∷ [])
each-one t going zero u e = subst (λ x. is_refused x.turn ≡ false) (same_Some t u e) going
each-one t going (suc i) u e = absurd (none-some u e)

each-more : {S : Type 0} (t : Turned S) (ts : List (Turned S)) → NotRefused (t ∷ []) → NotRefused ts → NotRefused (t ∷ ts)
each-more t ts first rest zero u e = first 0 u e
each-more t ts first rest (suc i) u e = rest i u e

module _ {O S : Type 0} (m : Member S) (machine : O → Layout) (view : O → View) (moves : O → Rec → O → Type 0) where
  -- and one turn more
  pub run-more : (a b c : Worker O S) → HasRun m machine view moves a b → TookTurn m machine view moves b c → HasRun m machine view moves a c
  run-more a b c run took = record {
    turns = took.turn ∷ run.turns;
    made = record {
      same = took.made.same ∙ run.made.same;
      own = (own.0, own.1, subst (IsOwnRun m (machine a.seat) (standing view a) run.turns) (sym own.2) run.made.own);
      moved = (b.seat, run.made.moved, moved);
      going = λ none. let before = took.made.going none in ((run.made.going before.0).0, each-more took.turn run.turns before.1 (run.made.going before.0).1);
    };
  }
    where
      own : IsOwnRun m (machine a.seat) (standing view b) (took.turn ∷ []) (standing view c)
      own = subst (λ (l : Layout). IsOwnRun m l (standing view b) (took.turn ∷ []) (standing view c)) run.made.same took.made.own

      step : (mid : O) × (mid ≡ b.seat) × moves mid (made_of m (machine b.seat) took.turn) c.seat
      step = took.made.moved

      moved : moves b.seat (made_of m (machine a.seat) took.turn) c.seat
      moved = subst (λ (l : Layout). moves b.seat (made_of m l took.turn) c.seat) run.made.same (subst (λ (s : O). moves s (made_of m (machine b.seat) took.turn) c.seat) step.1 step.2)
