-- The seats of the processors at opening, where the first has all rights.
use Rattle.std.proofs.Common.{◌≡◌, ℕ, ◌<◌, List, [], ◌∷◌, inl, inr, length, map, set, slice_get, get_or, refl, sym, ap, ◌∙◌, subst}
use Rattle.std.specs.Prelude.{Some}
use Rattle.std.proofs.lemmas.List.{length-map}
use Rattle.std.proofs.lemmas.Option.{same_Some, slice_get_within, get_or_from_slice_get}
use Rattle.atomic_table.specs.Seated.{TableId}
use Rattle.hwp_core_rule.specs.hwp_geom.declared.Layout.{Layout}
use Rattle.hwp_core_rule.specs.hwp_geom.Layout.{IsSound}
use Rattle.hwp_core_rule.specs.declared.View.{View}
use Rattle.hwp_core_rule.specs.Opening.{below, opening, opening_homes, opening_view, opening_words}
use Rattle.hwp_core_rule.specs.Rule.{Holds}
use Rattle.hwp_core_rule.proofs.Lists.{at_map, at_set, map-was, set_here}
use Rattle.hwp_core_rule.proofs.BoardOpens.{opening-holds}
use Rattle.hwp_core_rule.proofs.WordsOpen.{below-at, length-below}
use Rattle.hwp_plain.specs.Boards.{IsReached}
use Rattle.hwp_table_words.specs.Known.{Whole, first_known, idling, note, with_note}
use Rattle.hwp_table_words.specs.Seats.{SeatValue, mine}
use Rattle.hwp_table_words.specs.Stands.{Me}
use Rattle.hwp_table_words.proofs.Opened.{times-in}
use Rattle.hwp_table.specs.Boards.{IsSeatBoard, state_of}
use Rattle.hwp_table.specs.Seats.{AreSeats, IsHeld, IsSeatOf, seat_open, whole_at, with_rights}
use Rattle.hwp_table.specs.Turns.{played}
use Rattle.hwp_table.proofs.SeatRights.{mines-set, seats-set, whole-there}

map-mines : (id : TableId) (layout : Layout) (l : List ℕ) → map mine (map (seat_open id layout) l) ≡ map opening_view l
map-mines id layout [] = refl
map-mines id layout (x ∷ xs) = ap (λ (l : List View). opening_view x ∷ l) (map-mines id layout xs)

module _ (id : TableId) (layout : Layout) (sound : IsSound layout) where
  abbrev dealt : List SeatValue
  dealt = map (seat_open id layout) (below layout.cpus)

  -- the first, with all rights
  abbrev pub first : SeatValue
  first = with_rights (seat_open id layout 0) (first_known layout)

  abbrev seats : List SeatValue
  seats = set dealt 0 first

  abbrev w : Whole
  w = record { words = opening_words layout; homes = opening_homes layout; log = [] }

  first-there : slice_get dealt 0 ≡ Some (seat_open id layout 0)
  first-there = at_map (seat_open id layout) (below layout.cpus) 0 0 (below-at layout.cpus 0 sound.some_cpu)

  each-dealt : (i : ℕ) (s : SeatValue) → slice_get dealt i ≡ Some s → seat_open id layout i ≡ s
  each-dealt i s e =
      let was = map-was (seat_open id layout) (below layout.cpus) i s e in
      let within : i < layout.cpus = subst (λ (n : ℕ). i < n) (length-below layout.cpus) (slice_get_within (below layout.cpus) i was.0 was.1) in
      let number : i ≡ was.0 = same_Some i was.0 (sym (below-at layout.cpus i within) ∙ was.1) in
      ap (seat_open id layout) number ∙ was.2

  are : AreSeats id layout seats
  are = seats-set id layout dealt 0 first (record {
    count = length-map (below layout.cpus) (seat_open id layout) ∙ length-below layout.cpus;
    each = λ i s e. subst (IsSeatOf id layout i) (each-dealt i s e) (record { table = refl; layout_is = refl; number_is = refl; one = refl });
  }) (record { table = refl; layout_is = refl; number_is = refl; one = refl })

  there : slice_get seats 0 ≡ Some first
  there = set_here dealt 0 first (seat_open id layout 0) first-there

  held : IsHeld layout seats 0 w
  held = record {
    seat = first;
    there = there;
    whole = refl;
    all = λ c less. times-in layout.cpus c less;
    others = λ i s other e. elim (at_set dealt 0 i first s e) [
      | inl here ↦ absurd (other here.0)
      | inr else ↦ ap (λ (t : SeatValue). t.known.whole) (sym (each-dealt i s else.1))
    ];
  }

  at : whole_at seats 0 ≡ w
  at = whole-there seats 0 first w there refl

  pub state-open : state_of seats 0 ≡ opening layout
  state-open = λ i. record { words = (at i).words; homes = (at i).homes; views = (mines-set dealt 0 (seat_open id layout 0) first first-there refl ∙ map-mines id layout (below layout.cpus)) i }

  pub log-open : (whole_at seats 0).log ≡ []
  log-open = ap (λ (x : Whole). x.log) at

  pub board-open : IsSeatBoard id layout seats 0 [] 0
  board-open = record {
    are = are;
    held = subst (IsHeld layout seats 0) (sym at) held;
    reached = subst (λ (x : Whole). IsReached layout (played x.log []) (state_of seats 0)) (sym at) (record { run = state-open; holds = subst (Holds layout) (sym state-open) (opening-holds layout sound) });
    count = sym (ap length log-open);
    seated = sound.some_cpu;
  }

  -- the same of the seats as the code makes them
  module _ (items : List SeatValue) (items-are : items ≡ dealt) (s : SeatValue) (s-at : s ≡ get_or items 0 s) where
    pub s-is : s ≡ seat_open id layout 0
    s-is = s-at ∙ ap (λ (l : List SeatValue). get_or l 0 s) items-are ∙ get_or_from_slice_get dealt 0 (seat_open id layout 0) s first-there

    module _ (n : Me) (n-is : n ≡ (idling (note (first_known layout)), [])) (g : SeatValue) (g-is : g ≡ record s { known = with_note s.known n.0.known }) where
      seats-now : set items 0 g ≡ seats
      seats-now = λ i. set (items-are i) 0 ((g-is ∙ (λ j. record (s-is j) { known = with_note (s-is j).known (n-is j).0.known })) i)

      pub board-now : IsSeatBoard id layout (set items 0 g) 0 [] 0
      board-now = subst (λ (l : List SeatValue). IsSeatBoard id layout l 0 [] 0) (sym seats-now) board-open

      pub state-now : state_of (set items 0 g) 0 ≡ opening layout
      state-now = ap (λ (l : List SeatValue). state_of l 0) seats-now ∙ state-open

      pub log-now : played (whole_at (set items 0 g) 0).log [] ≡ []
      log-now = ap (λ (l : List SeatValue). played (whole_at l 0).log []) seats-now ∙ ap (λ (x : Whole). played x.log []) at
