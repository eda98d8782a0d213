-- What moves make of the seat of one processor.
use Rattle.std.proofs.Common.{◌≡◌, ◌≢◌, ℕ, ◌<◌, ◌==◌, cond, List, [], ◌∷◌, None, inl, map, refl, sym, ap, ◌∙◌, subst, arith}
use Rattle.atomic_table.specs.Seated.{TableId}
use Rattle.hwp_core_rule.specs.hwp_geom.declared.Layout.{Layout}
use Rattle.hwp_core_rule.proofs.of_hwp_geom.WordLaws.{not_nil}
use Rattle.hwp_core_rule.specs.declared.Rec.{Rec}
use Rattle.hwp_core_rule.specs.declared.View.{View}
use Rattle.hwp_core_rule.specs.Views.{view_after}
use Rattle.hwp_core_rule.specs.Classes.{TellsClass}
use Rattle.hwp_core_rule.specs.Turns.{Member}
use Rattle.hwp_table_words.specs.Known.{mine_after, times}
use Rattle.hwp_table_words.specs.Seats.{HasRight, Moves, SeatValue, cpu, cpu_of, mine, mine_of, slots_of}
use Rattle.hwp_threads.specs.Workers.{Moved, StaysReady}
use Rattle.hwp_threads.specs.Dealing.{HasMoved, seat_at}

-- a step leaves whose view it is
same-cpu : (layout : Layout) (c : ℕ) (r : Rec) (mines : List (ℕ × View)) → cpu_of (map (mine_after layout c r) mines) ≡ cpu_of mines
same-cpu layout c r [] = refl
same-cpu layout c r (x ∷ xs) = refl

-- a seat that can make a step can make another one
pub stays-ready : StaysReady (λ (s : SeatValue). HasRight s.known) (λ a r b. Moves a r b)
stays-ready a b r right move =
    subst (λ (s : SeatValue). HasRight s.known) (sym move.next) (subst (λ (c : ℕ). 0 < times c a.known.rights) (sym (same-cpu a.layout (cpu a) r a.known.mines)) right)

pub has-moved : (id : TableId) (layout : Layout) (c : ℕ) (r : Rec) (rs : List Rec) (a b : SeatValue) → HasMoved id layout c rs a → Moves a r b → HasMoved id layout c (r ∷ rs) b
has-moved id layout c r rs a b was move = subst (HasMoved id layout c (r ∷ rs)) (sym move.next) (record {
  table_is = was.table_is;
  layout_is = was.layout_is;
  one = mines-are ∙ ap (λ (v : View). (c, v) ∷ []) (sym (ap mine_of mines-are));
  own = ap (λ (n : ℕ). (n, r) ∷ a.known.own) (ap cpu_of was.one) ∙ ap (λ (l : List (ℕ × Rec)). (c, r) ∷ l) was.own;
})
  where
    mines-are : map (mine_after a.layout (cpu a) r) a.known.mines ≡ (c, cond (c == cpu a) (view_after a.layout r (mine a)) (mine a)) ∷ []
    mines-are = ap (λ (l : List (ℕ × View)). map (mine_after a.layout (cpu a) r) l) was.one

-- after all moves of a worker
pub have-moved : (id : TableId) (layout : Layout) (c : ℕ) (rs : List Rec) (a b : SeatValue) → HasMoved id layout c [] a → Moved (λ x r y. Moves x r y) a rs b → HasMoved id layout c rs b
have-moved id layout c [] a b was moved = subst (HasMoved id layout c []) (sym moved) was
have-moved id layout c (r ∷ rs) a b was (mid, rest, move) = has-moved id layout c r rs mid b (have-moved id layout c rs a mid was rest) move

pub dealt-moved : (id : TableId) (layout : Layout) (c : ℕ) → HasMoved id layout c [] (seat_at id layout c)
dealt-moved id layout c = record { table_is = refl; layout_is = refl; one = refl; own = refl }

-- a list that isn't other than empty is empty
none-left : {A : Type 0} (l : List A) → (l ≢ [] → ⊥) → l ≡ []
none-left [] none = refl
none-left (x ∷ xs) none = absurd (none (not_nil (x ∷ xs) (omega arith)))

-- a seat whose task is over lists no lock
pub bare-when-over : {S : Type 0} (m : Member S) (layout : Layout) (v : View) (s : S) → TellsClass m → m.fits layout v s → m.plan s ≡ None → slots_of layout v ≡ []
bare-when-over m layout v s tells fits over =
    ap (λ locks. slots_of layout (record v { locks = locks })) (none-left v.locks (λ some. (tells.frame layout v s fits (inl some)).1 over))
    ∙ ap (λ pages. slots_of layout (record v { locks = []; pages = pages })) (none-left v.pages (λ some. (tells.page layout v s fits some).1 over))
