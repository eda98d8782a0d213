-- Lists that are used up from the front, and filled at the end.
use Rattle.std.proofs.Common.{◌≡◌, ℕ, ◌+◌, ◌<◌, false, List, [], ◌∷◌, ◌++◌, get_or, length, map, refl, sym, ap, ◌∙◌, arith}
use Rattle.std.specs.List.{remove}
use Rattle.std.proofs.lemmas.List.{map-append}
use Rattle.atomic_table.specs.Seated.{TableId}
use Rattle.crossbeam_utils.specs.declared.CachePadded.{CachePadded}
use Rattle.crossbeam_utils.specs.Padded.{padded_value}
use Rattle.hwp_core_rule.specs.hwp_geom.declared.Layout.{Layout}
use Rattle.hwp_table_words.specs.Seats.{SeatValue}
use Rattle.hwp_threads.specs.declared.worker.Worker.{Worker}
use Rattle.hwp_threads.specs.Dealing.{seat_at, workers_at}

module _ {A : Type 0} where
  pub push-front : (xs : List A) (x : A) (ys : List A) → (xs ++ x ∷ []) ++ ys ≡ xs ++ x ∷ ys
  push-front [] x ys = refl
  push-front (z ∷ zs) x ys = ap (λ (l : List A). z ∷ l) (push-front zs x ys)

  pub append-on : (xs ys zs : List A) → (xs ++ ys) ++ zs ≡ xs ++ (ys ++ zs)
  append-on [] ys zs = refl
  append-on (x ∷ xs) ys zs = ap (λ (l : List A). x ∷ l) (append-on xs ys zs)

  -- the first one and the rest
  pub taken-first : (xs : List A) (x : A) (rest : List A) → 0 < length xs → x ≡ get_or xs 0 x → rest ≡ remove xs 0 → xs ≡ x ∷ rest
  taken-first [] x rest some first is = absurd (omega (arith, some))
  taken-first (y ∷ ys) x rest some first is = λ i. sym first i ∷ sym is i

  pub none-here : (xs : List A) → length xs ≡ 0 → xs ≡ []
  none-here [] none = refl
  none-here (x ∷ xs) none = absurd (omega (arith, none))

module _ {T : Type 0} (id : TableId) (layout : Layout) where
  -- one worker more
  pub worker-more : (ws : List (Worker SeatValue T)) (w : Worker SeatValue T) (n : ℕ) (t : T) (ts : List T) (all : List (Worker SeatValue T))
      → w ≡ record { seat = seat_at id layout n; task = t; refused = false } → ws ++ workers_at id layout n (t ∷ ts) ≡ all → (ws ++ w ∷ []) ++ workers_at id layout (n + 1) ts ≡ all
  worker-more ws w n t ts all is so = push-front ws w (workers_at id layout (n + 1) ts) ∙ ap (λ (v : Worker SeatValue T). ws ++ v ∷ workers_at id layout (n + 1) ts) is ∙ so

  -- the same of workers in their places
  pub deal-more : (ws ws' : List (CachePadded (Worker SeatValue T))) (x : CachePadded (Worker SeatValue T)) (w : Worker SeatValue T) (seat : SeatValue) (n : ℕ) (t : T) (ts rest : List T) (all : List (Worker SeatValue T))
      → ts ≡ t ∷ rest → seat ≡ seat_at id layout n → (w.seat ≡ seat) × (w.task ≡ t) × (w.refused ≡ false) → padded_value x ≡ w → ws' ≡ ws ++ x ∷ []
      → map (λ (p : CachePadded (Worker SeatValue T)). padded_value p) ws ++ workers_at id layout n ts ≡ all → map (λ (p : CachePadded (Worker SeatValue T)). padded_value p) ws' ++ workers_at id layout (n + 1) rest ≡ all
  deal-more ws ws' x w seat n t ts rest all first dealt is padded pushed so =
      ap (λ (l : List (CachePadded (Worker SeatValue T))). map (λ (p : CachePadded (Worker SeatValue T)). padded_value p) l ++ workers_at id layout (n + 1) rest) pushed
      ∙ ap (λ (l : List (Worker SeatValue T)). l ++ workers_at id layout (n + 1) rest) (map-append (λ (p : CachePadded (Worker SeatValue T)). padded_value p) ws (x ∷ []))
      ∙ worker-more (map (λ (p : CachePadded (Worker SeatValue T)). padded_value p) ws) (padded_value x) n t rest all
      (padded ∙ (λ i. record { seat = (is.0 ∙ dealt) i; task = is.1 i; refused = is.2 i }))
      (ap (λ (l : List T). map (λ (p : CachePadded (Worker SeatValue T)). padded_value p) ws ++ workers_at id layout n l) (sym first) ∙ so)
