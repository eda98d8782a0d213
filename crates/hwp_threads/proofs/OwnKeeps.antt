-- What each turn of a processor keeps, its whole run keeps.
use Rattle.std.proofs.Common.{List, [], ◌∷◌, ap, sym, subst}
use Rattle.hwp_core_rule.specs.hwp_geom.declared.Layout.{Layout}
use Rattle.hwp_core_rule.specs.Turns.{Member}
use Rattle.hwp_threads.specs.Own.{IsOwnRun, IsTurn, Standing, Turned}

pub own-keeps : {S : Type 0} (m : Member S) (layout : Layout) (P : S → Type 0) → ((t : Turned S) → IsTurn m layout t → P t.before.task → P t.after)
    → (from : Standing S) (ts : List (Turned S)) (to : Standing S) → IsOwnRun m layout from ts to → P from.task → P to.task
own-keeps m layout P stays from [] to run p = subst P (sym (ap (λ x. x.task) run)) p
own-keeps m layout P stays from (t ∷ ts) to run p = subst P (sym (ap (λ x. x.task) run.1)) (stays t run.0 (own-keeps m layout P stays from ts t.before run.2 p))
