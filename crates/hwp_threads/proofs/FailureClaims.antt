-- In whatever order processors move, each failure that isn't ended is the claim of a task, and none is open when all are over.
use Rattle.std.proofs.Common.{◌≡◌, ◌≢◌, ℕ, zero, suc, ◌<◌, ◌⊎◌, inl, inr, Bool, false, cond, List, [], ◌∷◌, None, Some, drop, length, map, set, slice_get, refl, sym, ap, ◌∙◌, subst, arith, ne_eqb}
use Rattle.std.proofs.lemmas.List.{length-set, map-set}
use Rattle.std.proofs.lemmas.Option.{get_or_from_slice_get, same_Some, slice_get_within}
use Rattle.hwp_core_rule.specs.hwp_geom.declared.Frame.{Frame}
use Rattle.hwp_core_rule.specs.hwp_geom.declared.Layout.{Layout}
use Rattle.hwp_core_rule.specs.declared.Rec.{Rec}
use Rattle.hwp_core_rule.specs.declared.State.{State}
use Rattle.hwp_core_rule.specs.declared.View.{View}
use Rattle.hwp_core_rule.specs.Lists.{EachMember}
use Rattle.hwp_core_rule.specs.Moves.{Move, Run}
use Rattle.hwp_core_rule.specs.Opening.{opening_view}
use Rattle.hwp_core_rule.specs.Rule.{Holds}
use Rattle.hwp_core_rule.specs.Views.{view_after}
use Rattle.hwp_core_rule.proofs.Lists.{at_changed, at_map, at_set, same-number, same-or, set_again, set_else, set_here}
use Rattle.hwp_core_rule.proofs.MoveKeeps.{holds-moved}
use Rattle.hwp_core_rule.proofs.StepKeeps.{keeps}
use Rattle.hwp_core_rule.specs.Classes.{TellsClass}
use Rattle.hwp_core_rule.specs.Ranks.{IsRanked, Made, Pending, is_refused, words_at}
use Rattle.hwp_core_rule.specs.Turns.{Member}
use Rattle.hwp_threads.specs.Own.{IsOwnRun, IsTurn, Standing, Turned, after_of, made_of}
use Rattle.hwp_threads.specs.Parts.{AreParts, IsClaim, IsPart, Own, Stands, froms, part, tos}

-- ---- lists

-- functions that agree on each member give the same list
map-alike : {A B : Type 0} (f g : A → B) (l : List A) → EachMember (λ (x : A). f x ≡ g x) l → map f l ≡ map g l
map-alike f g [] each = refl
map-alike {B} f g (x ∷ xs) each = ap (λ (y : B). y ∷ map f xs) (each 0 x refl) ∙ ap (λ (ys : List B). g x ∷ ys) (map-alike f g xs (λ i y e. each (suc i) y e))

-- a place within a list has a member
there-is : {A : Type 0} (l : List A) (i : ℕ) → i < length l → (x : A) × (slice_get l i ≡ Some x)
there-is [] i within = absurd (omega arith)
there-is (x ∷ xs) zero within = (x, refl)
there-is (x ∷ xs) (suc i) within = there-is xs i (omega arith)

-- a move is of its own processor's part, and of no other
part-own : (r : ℕ × Rec) (rs : List (ℕ × Rec)) → part r.0 (r ∷ rs) ≡ r ∷ part r.0 rs
part-own r rs = ap (λ (b : Bool). cond b (r ∷ part r.0 rs) (part r.0 rs)) (same-number r.0 r.0 refl)

part-other : (cpu : ℕ) (r : ℕ × Rec) (rs : List (ℕ × Rec)) → r.0 ≢ cpu → part cpu (r ∷ rs) ≡ part cpu rs
part-other cpu r rs other = ap (λ (b : Bool). cond b (r ∷ part cpu rs) (part cpu rs)) (ne_eqb r.0 cpu other)

-- moves leave the number of processors
views-length : (layout : Layout) (a : State) (moves : List (ℕ × Rec)) (s : State) → Run layout a moves s → length s.views ≡ length a.views
views-length layout a [] s run = ap (λ (t : State). length t.views) run
views-length layout a (r ∷ rs) s run =
    ap (λ (t : State). length t.views) run.2.next ∙ (length-set run.0.views r.0 (view_after layout r.1 run.2.view) ∙ views-length layout a rs run.0 run.1)

module _ {S : Type 0} (m : Member S) (layout : Layout) (ranked : IsRanked m) where
  -- ---- one move

  module _ (t s : State) (cpu : ℕ) (all : List (Standing S)) (u : Turned S) (move : Move layout cpu (made_of m layout u) t s) (turn : IsTurn m layout u) (going : is_refused u.turn ≡ false)
      (now : slice_get all cpu ≡ Some (after_of m layout u)) (stood : Stands m layout t (set all cpu u.before)) where
    knew : slice_get t.views cpu ≡ Some u.before.view
    knew = stood.views cpu u.before (set_here all cpu u.before (after_of m layout u) now)

    view-is : move.view ≡ u.before.view
    view-is = same_Some move.view u.before.view (sym move.me ∙ knew)

    views-are : s.views ≡ set t.views cpu (view_after layout (made_of m layout u) move.view)
    views-are = ap (λ (x : State). x.views) move.next

    rule-after : Holds layout s
    rule-after = holds-moved layout cpu (made_of m layout u) t s (keeps u.step) stood.rule move

    made : Made m layout cpu t s u.before.task u.after u.turn
    made = record {
      step = u.step;
      found = u.found;
      got = u.got;
      rule = stood.rule;
      kept = rule-after;
      fits = subst (λ (v : View). m.fits layout v u.before.task) (sym (get_or_from_slice_get t.views cpu u.before.view (opening_view cpu) knew)) turn.fits;
      planned = turn.planned;
      move = move;
      brings = turn.brings;
      follows = turn.follows;
    }

    views-then : (i : ℕ) (x : Standing S) → slice_get all i ≡ Some x → slice_get s.views i ≡ Some x.view
    views-then i x at = ap (λ (vs : List View). slice_get vs i) views-are ∙ which (same-or i cpu)
      where
        w : View
        w = view_after layout (made_of m layout u) move.view

        which : (i ≡ cpu) ⊎ (i ≢ cpu) → slice_get (set t.views cpu w) i ≡ Some x.view
        which (inl same) =
            ap (λ (k : ℕ). slice_get (set t.views cpu w) k) same ∙ set_here t.views cpu w move.view move.me ∙ ap (λ (v : View). Some (view_after layout (made_of m layout u) v)) view-is
            ∙ ap (λ (y : Standing S). Some y.view) (same_Some (after_of m layout u) x (sym now ∙ ap (slice_get all) (sym same) ∙ at))
        which (inr other) = set_else t.views cpu i w other ∙ stood.views i x (set_else all cpu i u.before other ∙ at)

    claimed-then : (frame : Frame) (cycle : ℕ) → Pending (words_at layout s) frame cycle → IsClaim m all frame cycle
    claimed-then frame cycle pending = elim (ranked.owns layout cpu t s u.before.task u.after u.turn frame cycle made going pending) [
      | inl own ↦ record { cpu = cpu; standing = after_of m layout u; there = now; claims = own }
      | inr was ↦ another was.1 (stood.claimed frame cycle was.0)
    ]
      where
        another : m.claims u.before.task ≢ Some (frame, cycle) → IsClaim m (set all cpu u.before) frame cycle → IsClaim m all frame cycle
        another dropped k = elim (at_set all cpu k.cpu u.before k.standing k.there) [
          | inl same ↦ absurd (dropped (ap (λ (x : Standing S). m.claims x.task) same.1 ∙ k.claims))
          | inr else ↦ record { cpu = k.cpu; standing = k.standing; there = else.1; claims = k.claims }
        ]

    step-stands : Stands m layout s all
    step-stands = record { rule = rule-after; views = views-then; claimed = claimed-then }

  -- ---- all moves

  abbrev moves_of : ℕ → List (Turned S) → List (ℕ × Rec)
  moves_of cpu ts = map (λ (t : Turned S). (cpu, made_of m layout t)) ts

  -- a processor that made none stands where it stood
  no-turn : (cpu : ℕ) (from : Standing S) (ts : List (Turned S)) (to : Standing S) → IsOwnRun m layout from ts to → [] ≡ moves_of cpu ts → to ≡ from
  no-turn cpu from [] to run none = run
  no-turn cpu from (t ∷ ts) to run none = absurd (omega (arith, ap length none))

  -- where each processor stood before the newest move
  pub record Before (a : State) (r : ℕ × Rec) (rs : List (ℕ × Rec)) (owns : List (Own S)) : Type 0 where
    pub u : Turned S
    pub turn : IsTurn m layout u
    pub going : is_refused u.turn ≡ false
    pub move_is : r ≡ (r.0, made_of m layout u)
    pub owns_then : List (Own S)
    pub parts : AreParts m layout a rs owns_then
    pub froms_are : froms owns_then ≡ froms owns
    pub tos_are : tos owns_then ≡ set (tos owns) r.0 u.before
    pub now : slice_get (tos owns) r.0 ≡ Some (after_of m layout u)

  before : (a : State) (r : ℕ × Rec) (rs : List (ℕ × Rec)) (owns : List (Own S)) (o : Own S) → AreParts m layout a (r ∷ rs) owns → slice_get owns r.0 ≡ Some o → Before a r rs owns
  before a r rs owns o parts there = by o.turns refl
    where
      mine : IsPart m layout (r ∷ rs) r.0 o
      mine = parts.each r.0 o there

      all : r ∷ part r.0 rs ≡ moves_of r.0 o.turns
      all = sym (part-own r rs) ∙ mine.moves_are

      by : (ts : List (Turned S)) → o.turns ≡ ts → Before a r rs owns
      by [] none = absurd (omega (arith, ap length (all ∙ ap (moves_of r.0) none)))
      by (u ∷ us) are = record {
        u = u;
        turn = run.0;
        going = going 0 u refl;
        move_is = same_Some r (r.0, made_of m layout u) (ap (λ (l : List (ℕ × Rec)). slice_get l 0) moves);
        owns_then = set owns r.0 o-then;
        parts = record {
          count = length-set owns r.0 o-then ∙ parts.count;
          each = λ i x at. at_changed (IsPart m layout rs) owns r.0 o-then own-part (λ j b other e. else j b other (parts.each j b e)) i x at;
        };
        froms_are = map-set (λ (x : Own S). x.from) owns r.0 o-then ∙ set_again (froms owns) r.0 o.from (at_map (λ (x : Own S). x.from) owns r.0 o there);
        tos_are = map-set (λ (x : Own S). x.to) owns r.0 o-then;
        now = at_map (λ (x : Own S). x.to) owns r.0 o there ∙ ap (λ (x : Standing S). Some x) run.1;
      }
        where
          run : IsOwnRun m layout o.from (u ∷ us) o.to
          run = subst (λ (l : List (Turned S)). IsOwnRun m layout o.from l o.to) are mine.run

          moves : r ∷ part r.0 rs ≡ moves_of r.0 (u ∷ us)
          moves = all ∙ ap (moves_of r.0) are

          going : EachMember (λ (t : Turned S). is_refused t.turn ≡ false) (u ∷ us)
          going = subst (λ (l : List (Turned S)). EachMember (λ (t : Turned S). is_refused t.turn ≡ false) l) are mine.going

          o-then : Own S
          o-then = record { from = o.from; turns = us; to = u.before }

          own-part : IsPart m layout rs r.0 o-then
          own-part = record { run = run.2; moves_are = ap (λ (l : List (ℕ × Rec)). drop 1 l) moves; going = λ i x e. going (suc i) x e }

          else : (j : ℕ) (b : Own S) → j ≢ r.0 → IsPart m layout (r ∷ rs) j b → IsPart m layout rs j b
          else j b other p = record { run = p.run; moves_are = sym (part-other j r rs (λ e. other (sym e))) ∙ p.moves_are; going = p.going }

  pub back : (a : State) (r : ℕ × Rec) (rs : List (ℕ × Rec)) (s : State) (owns : List (Own S)) → Run layout a (r ∷ rs) s → AreParts m layout a (r ∷ rs) owns → Before a r rs owns
  back a r rs s owns run parts =
      let within = slice_get_within run.0.views r.0 run.2.view run.2.me in
      let count = views-length layout a rs run.0 run.1 in
      let own = there-is owns r.0 (omega (arith, within, count, parts.count)) in
      before a r rs owns own.0 parts own.1

  -- EACH FAILURE THAT ISN'T ENDED IS THE CLAIM OF A TASK, in whatever order the processors moved
  pub stands-on : (a : State) (moves : List (ℕ × Rec)) (s : State) (owns : List (Own S)) → Run layout a moves s → AreParts m layout a moves owns → Stands m layout a (froms owns) → Stands m layout s (tos owns)
  stands-on a [] s owns run parts stood =
      subst (λ (x : State). Stands m layout x (tos owns)) (sym run)
      (subst (Stands m layout a) (sym (map-alike (λ (o : Own S). o.to) (λ (o : Own S). o.from) owns (λ cpu o at. let p = parts.each cpu o at in no-turn cpu o.from o.turns o.to p.run p.moves_are))) stood)
  stands-on a (r ∷ rs) s owns run parts stood =
      let b = back a r rs s owns run parts in
      let then = stands-on a rs run.0 b.owns_then run.1 b.parts (subst (Stands m layout a) (sym b.froms_are) stood) in
      step-stands run.0 s r.0 (tos owns) b.u (subst (λ (x : ℕ × Rec). Move layout x.0 x.1 run.0 s) b.move_is run.2) b.turn b.going b.now (subst (Stands m layout run.0) b.tos_are then)

-- where all tasks are over no failure is open
pub stands-settled : {S : Type 0} (m : Member S) (layout : Layout) (s : State) (all : List (Standing S)) → TellsClass m → Stands m layout s all
    → EachMember (λ (x : Standing S). m.fits layout x.view x.task × (m.plan x.task ≡ None)) all → (frame : Frame) (cycle : ℕ) → Pending (words_at layout s) frame cycle → ⊥
stands-settled m layout s all tells stands over frame cycle pending =
    let k = stands.claimed frame cycle pending in
    let own = over k.cpu k.standing k.there in
    (tells.claim layout k.standing.view k.standing.task frame cycle own.0 k.claims).1 own.1
