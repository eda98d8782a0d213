-- What each turn keeps of a task, a whole run keeps of all tasks; and the layout and the seats stay.
use Rattle.std.proofs.Common.{◌≡◌, ◌≢◌, ℕ, ◌⊎◌, inl, inr, List, [], ◌∷◌, set, refl, sym, ap, ◌∙◌, subst}
use Rattle.std.proofs.lemmas.Bool.{cases_eq}
use Rattle.hwp_law.specs.hwp_geom.declared.Layout.{Layout}
use Rattle.hwp_plain.specs.hwp_core_rule.declared.State.{State}
use Rattle.hwp_law.specs.hwp_script_words.declared.Go.{Go}
use Rattle.hwp_plain.specs.hwp_core_rule.declared.Turn.{Turn}
use Rattle.hwp_plain.specs.hwp_core_rule.Boards.{Played}
use Rattle.hwp_plain.specs.hwp_core_rule.Ranks.{Made}
use Rattle.hwp_plain.specs.hwp_core_rule.Turns.{Member}
use Rattle.hwp_plain.specs.Order.{Finishing, InOrder, IsAt, Running, Schedule, TurnOf, Word}
use Rattle.hwp_plain.proofs.Chosen.{IsAt-before, IsAt-same, IsAt-set}

module _ {S : Type 0} (m : Member S) (P : Running S → Running S → Type 0) (none : (a : Running S) → P a a) (then : (a b c : Running S) → P a b → P b c → P a c)
    (turn : (a b : Running S) (cpu : ℕ) (p : Played) → TurnOf m a cpu p b → P a b) where
  word-does : (go : Go) (a b : Running S) (ps : List Played) → Word m go a ps b → P a b
  word-does go a b [] word = subst (P a) (sym word.1) (none a)
  word-does go a b (p ∷ ps) (mid, made, inl (ends, last, same)) = subst (P a) (sym same) (turn a mid go.cpu.0 p made)
  word-does go a b (p ∷ ps) (mid, made, inr (on, rest)) = then a mid b (turn a mid go.cpu.0 p made) (word-does go mid b ps rest)

  schedule-does : (words : List Go) (a b : Running S) (ps : List Played) → Schedule m words a ps b → P a b
  schedule-does [] a b ps (last, same) = subst (P a) (sym same) (none a)
  schedule-does (go ∷ words) a b ps first = then a first.mid b (word-does go a first.mid first.now first.word) (schedule-does words first.mid b first.later first.goes_on)

  finishing-does : (a b : Running S) (ps : List Played) → Finishing m a ps b → P a b
  finishing-does a b [] (over, same) = subst (P a) (sym same) (none a)
  finishing-does a b (p ∷ ps) (cpu, chosen, (mid, made, rest)) = then a mid b (turn a mid cpu p made) (finishing-does mid b ps rest)

  -- what each turn does, and turns one after another do, a run does
  ordered-does : (words : List Go) (a b : Running S) (ps : List Played) → InOrder m words a ps b → P a b
  ordered-does words a b ps order = then a order.mid b (schedule-does words a order.mid order.scheduled order.schedule) (finishing-does order.mid b order.finishing order.finish)

abbrev IsSame : {S : Type 0} → Running S → Running S → Type 0
IsSame a b = (b.layout ≡ a.layout) × (b.seat ≡ a.seat)

-- the layout and the seats stay
pub same-ordered : {S : Type 0} (m : Member S) (words : List Go) (a b : Running S) (ps : List Played) → InOrder m words a ps b → (b.layout ≡ a.layout) × (b.seat ≡ a.seat)
same-ordered m = ordered-does m IsSame (λ a. (refl, refl)) (λ a b c first second. (second.0 ∙ first.0, second.1 ∙ first.1)) (λ a b cpu p made. (ap (λ x. x.layout) made.next, ap (λ x. x.seat) made.next))

module _ {S : Type 0} (m : Member S) (P : ℕ → S → Type 0) (stays : (layout : Layout) (seat : ℕ) (a b : State) (cpu : ℕ) (s t : S) (turn : Turn) → Made m layout seat a b s t turn → P cpu s → P cpu t) where
  abbrev Are : List S → Type 0
  Are tasks = (cpu : ℕ) (s : S) → IsAt tasks cpu s → P cpu s

  turn-keeps : (a b : Running S) (cpu : ℕ) (p : Played) → TurnOf m a cpu p b → Are a.tasks → Are b.tasks
  turn-keeps a b cpu p made are = subst Are (sym (ap (λ x. x.tasks) made.next)) after
    where
      now : P cpu made.after
      now = stays a.layout (a.seat (record { 0 = cpu })) a.state b.state cpu made.before made.after p.turn made.made (are cpu made.before made.at)

      after : Are (set a.tasks cpu made.after)
      after i s at = which (cases_eq i cpu)
        where
          which : (i ≡ cpu) ⊎ (i ≢ cpu) → P i s
          which (inl same) = subst (λ (k : ℕ). P k s) (sym same) (subst (P cpu) (IsAt-same (set a.tasks cpu made.after) cpu made.after s (IsAt-set a.tasks cpu made.after made.at.within) (subst (λ (k : ℕ). IsAt (set a.tasks cpu made.after) k s) same at)) now)
          which (inr other) = are i s (IsAt-before a.tasks cpu i made.after s other at)

  -- what each turn keeps of its task stays of all tasks
  pub kept-ordered : (words : List Go) (a b : Running S) (ps : List Played) → InOrder m words a ps b → Are a.tasks → Are b.tasks
  kept-ordered = ordered-does m (λ a b. Are a.tasks → Are b.tasks) (λ a are. are) (λ a b c first second are. second (first are)) turn-keeps
