-- The seats of workers are taken in, one after the other.
use Rattle.std.proofs.Common.{◌≡◌, ℕ, zero, suc, false, List, [], ◌∷◌, ◌++◌, map, sym, ap, ◌∙◌, subst}
use Rattle.std.specs.List.{flat_map}
use Rattle.std.proofs.lemmas.List.{append-nil}
use Rattle.std.proofs.lemmas.Option.{none-some, same_Some}
use Rattle.atomic_table.specs.Seated.{TableId}
use Rattle.crossbeam_utils.specs.declared.CachePadded.{CachePadded}
use Rattle.crossbeam_utils.specs.Padded.{padded_value}
use Rattle.hwp_core_rule.specs.declared.Rec.{Rec}
use Rattle.hwp_core_rule.specs.declared.View.{View}
use Rattle.hwp_core_rule.specs.Lists.{EachMember}
use Rattle.hwp_table_words.specs.Known.{Known}
use Rattle.hwp_table_words.specs.Seats.{SeatValue}
use Rattle.hwp_table_words.specs.Stands.{Me}
use Rattle.hwp_threads.specs.declared.worker.Worker.{Worker}
use Rattle.hwp_threads.specs.Gathering.{AreBare, AreGathered, IsBrought, mine_in, own_in}
use Rattle.hwp_threads.proofs.Pieces.{append-on, push-front}

abbrev Places : Type 0 → Type 0
Places T = List (CachePadded (Worker SeatValue T))

abbrev NotRefused : {T : Type 0} → Places T → Type 0
NotRefused {T} ws = EachMember (λ (w : CachePadded (Worker SeatValue T)). (padded_value w).refused ≡ false) ws

abbrev mines_in : {T : Type 0} → Places T → List (ℕ × View)
mines_in {T} ws = map (λ (w : CachePadded (Worker SeatValue T)). mine_in (padded_value w)) ws

abbrev owns_in : {T : Type 0} → Places T → List (ℕ × Rec)
owns_in {T} ws = flat_map (λ (w : CachePadded (Worker SeatValue T)). own_in (padded_value w)) ws

abbrev pub tasks_in : {T : Type 0} → Places T → List T
tasks_in {T} ws = map (λ (w : CachePadded (Worker SeatValue T)). (padded_value w).task) ws

-- some were taken in, and these are left
pub record SoFar {T : Type 0} (id : TableId) (old : Known) (all left : Places T) (of : TableId) (me : Me) (tasks : List T) : Type 0 where
  pub same : of ≡ id
  pub slots : me.1 ≡ []
  pub mines : me.0.known.mines ++ mines_in left ≡ old.mines ++ mines_in all
  pub own : me.0.known.own ++ owns_in left ≡ old.own ++ owns_in all
  pub tasks_are : tasks ++ tasks_in left ≡ tasks_in all
  pub bare : AreBare id left
  pub going : NotRefused left → NotRefused all

each-more : {T : Type 0} (w : CachePadded (Worker SeatValue T)) (ws : Places T) → (padded_value w).refused ≡ false → NotRefused ws → NotRefused (w ∷ ws)
each-more {T} w ws first rest zero v e = subst (λ (x : CachePadded (Worker SeatValue T)). (padded_value x).refused ≡ false) (same_Some w v e) first
each-more w ws first rest (suc i) v e = rest i v e

-- the first of those that are left can be taken in
pub taking-more : {T : Type 0} (id : TableId) (old : Known) (all : Places T) (w : CachePadded (Worker SeatValue T)) (ws left : Places T) (of of' : TableId) (me me' : Me) (tasks : List T) (t : T)
    → left ≡ w ∷ ws → SoFar id old all left of me tasks → IsBrought of me (padded_value w) of' me' t → SoFar id old all ws of' me' (tasks ++ t ∷ [])
taking-more {T} id old all w ws left of of' me me' tasks t is so brought = record {
  same = brought.same ∙ so.same;
  slots = brought.slots ∙ so.slots;
  mines = ap (λ (l : List (ℕ × View)). l ++ mines_in ws) brought.mines ∙ push-front me.0.known.mines (mine_in (padded_value w)) (mines_in ws) ∙ ap (λ (l : Places T). me.0.known.mines ++ mines_in l) (sym is) ∙ so.mines;
  own = ap (λ (l : List (ℕ × Rec)). l ++ owns_in ws) brought.own ∙ append-on me.0.known.own (own_in (padded_value w)) (owns_in ws) ∙ ap (λ (l : Places T). me.0.known.own ++ owns_in l) (sym is) ∙ so.own;
  tasks_are = push-front tasks t (tasks_in ws) ∙ ap (λ (x : T). tasks ++ x ∷ tasks_in ws) brought.task_is ∙ ap (λ (l : Places T). tasks ++ tasks_in l) (sym is) ∙ so.tasks_are;
  bare = λ i x e. subst (AreBare id) is so.bare (suc i) x e;
  going = λ each. so.going (subst NotRefused (sym is) (each-more w ws brought.going each));
}

pub taking-ends : {T : Type 0} (id : TableId) (old : Known) (all left : Places T) (of : TableId) (me : Me) (tasks : List T) → left ≡ [] → SoFar id old all left of me tasks → AreGathered id old all of me tasks
taking-ends {T} id old all left of me tasks none so = record {
  same = so.same;
  slots = so.slots;
  mines = sym (append-nil me.0.known.mines) ∙ ap (λ (l : Places T). me.0.known.mines ++ mines_in l) (sym none) ∙ so.mines;
  own = sym (append-nil me.0.known.own) ∙ ap (λ (l : Places T). me.0.known.own ++ owns_in l) (sym none) ∙ so.own;
  tasks_are = sym (append-nil tasks) ∙ ap (λ (l : Places T). tasks ++ tasks_in l) (sym none) ∙ so.tasks_are;
  going = so.going (subst NotRefused (sym none) (λ i w e. absurd (none-some w e)));
}
