-- Turns in the order of a schedule lead from board to board.
use Rattle.std.proofs.Common.{◌≡◌, ℕ, List, [], ◌∷◌, ◌++◌, refl, sym, ap, ◌∙◌, subst, inl, inr}
use Rattle.hwp_law.specs.hwp_geom.declared.Layout.{Layout}
use Rattle.hwp_plain.specs.hwp_core_rule.declared.State.{State}
use Rattle.hwp_plain.specs.hwp_core_rule.Moves.{Move}
use Rattle.hwp_plain.specs.hwp_core_rule.Rule.{Holds}
use Rattle.hwp_law.specs.hwp_script_words.declared.Go.{Go}
use Rattle.hwp_plain.specs.hwp_core_rule.Boards.{Played}
use Rattle.hwp_plain.specs.hwp_core_rule.Turns.{Member}
use Rattle.hwp_plain.specs.Order.{Finishing, InOrder, Running, Schedule, TurnOf, Word}
use Rattle.hwp_law_served.specs.Turns.{Leads}

-- turns, and then others
pub leads-on : (layout : Layout) (a b c : State) (front later : List Played) → Leads layout a front b → Leads layout b later c → Leads layout a (front ++ later) c
leads-on layout a b c [] later first then = subst (λ (s : State). Leads layout s later c) first then
leads-on layout a b c (p ∷ ps) later (mid, move, holds, rest) then = (mid, move, holds, leads-on layout mid b c ps later rest then)

-- a board that the turns lead to keeps the rule
pub leads-hold : (layout : Layout) (a b : State) (turns : List Played) → Holds layout a → Leads layout a turns b → Holds layout b
leads-hold layout a b [] holds leads = subst (Holds layout) (sym leads) holds
leads-hold layout a b (p ∷ ps) holds (mid, move, kept, rest) = leads-hold layout mid b ps kept rest

-- tasks that run lead from their board to that of others
abbrev Run : {S : Type 0} → Running S → List Played → Running S → Type 0
Run a ps b = Leads a.layout a.state ps b.state × (b.layout ≡ a.layout)

run-none : {S : Type 0} (a b : Running S) → b ≡ a → Run a [] b
run-none a b same = (ap (λ x. x.state) same, ap (λ x. x.layout) same)

run-on : {S : Type 0} (a b c : Running S) (front later : List Played) → Run a front b → Run b later c → Run a (front ++ later) c
run-on a b c front later first then =
    (leads-on a.layout a.state b.state c.state front later first.0 (subst (λ (l : Layout). Leads l b.state later c.state) first.1 then.0), then.1 ∙ first.1)

run-turn : {S : Type 0} (m : Member S) (a b : Running S) (cpu : ℕ) (p : Played) → TurnOf m a cpu p b → Run a (p ∷ []) b
run-turn m a b cpu p turn =
    let to : b.state ≡ b.state = refl in (
      (
        b.state,
        subst (λ (q : Played). Move a.layout q.seat q.made a.state b.state) (sym turn.listed) turn.made.move,
        turn.made.kept,
        to,
      ),
      ap (λ x. x.layout) turn.next,
    )

run-word : {S : Type 0} (m : Member S) (go : Go) (a b : Running S) (ps : List Played) → Word m go a ps b → Run a ps b
run-word m go a b [] word = run-none a b word.1
run-word m go a b (p ∷ ps) (mid, turn, inl (ends, none, same)) =
    let first : Run a (p ∷ []) b = subst (λ x. Run a (p ∷ []) x) (sym same) (run-turn m a mid go.cpu.0 p turn) in
    subst (λ (qs : List Played). Run a (p ∷ qs) b) (sym none) first
run-word m go a b (p ∷ ps) (mid, turn, inr (on, rest)) = run-on a mid b (p ∷ []) ps (run-turn m a mid go.cpu.0 p turn) (run-word m go mid b ps rest)

run-schedule : {S : Type 0} (m : Member S) (words : List Go) (a b : Running S) (ps : List Played) → Schedule m words a ps b → Run a ps b
run-schedule m [] a b ps (none, same) = subst (λ (qs : List Played). Run a qs b) (sym none) (run-none a b same)
run-schedule m (go ∷ words) a b ps then =
    subst (λ (qs : List Played). Run a qs b) (sym then.all) (run-on a then.mid b then.now then.later (run-word m go a then.mid then.now then.word) (run-schedule m words then.mid b then.later then.goes_on))

run-finishing : {S : Type 0} (m : Member S) (a b : Running S) (ps : List Played) → Finishing m a ps b → Run a ps b
run-finishing m a b [] (over, same) = run-none a b same
run-finishing m a b (p ∷ ps) (cpu, chosen, (mid, turn, rest)) = run-on a mid b (p ∷ []) ps (run-turn m a mid cpu p turn) (run-finishing m mid b ps rest)

-- the turns in the order of a schedule lead to the last board, and each keeps the rule
pub leads-ordered : {S : Type 0} (m : Member S) (words : List Go) (a b : Running S) (ps : List Played) → InOrder m words a ps b → Leads a.layout a.state ps b.state
leads-ordered m words a b ps order =
    (subst (λ (qs : List Played). Run a qs b) (sym order.all)
    (run-on a order.mid b order.scheduled order.finishing (run-schedule m words a order.mid order.scheduled order.schedule) (run-finishing m order.mid b order.finishing order.finish))).0
