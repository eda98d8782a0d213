-- A step of the seat that all rights went to is a move of the board.
use Rattle.std.proofs.Common.{◌≡◌, ℕ, suc, ◌<◌, false, Bool, List, [], ◌∷◌, Option, Some, inl, inr, length, map, option_map, set, slice_get, get_or, refl, sym, ap, ◌∙◌, subst}
use Rattle.std.proofs.lemmas.List.{map-set}
use Rattle.std.proofs.lemmas.Option.{same_Some, slice_get-get_or, get_or_from_slice_get}
use Rattle.atomic_table.specs.Seated.{TableId}
use Rattle.hwp_core_rule.specs.hwp_geom.declared.Kind.{Kind}
use Rattle.hwp_core_rule.specs.hwp_geom.declared.Layout.{Layout}
use Rattle.hwp_core_rule.specs.hwp_geom.declared.Who.{Who}
use Rattle.hwp_core_rule.specs.hwp_page.History.{BodyValue}
use Rattle.hwp_core_rule.specs.declared.Rec.{Rec}
use Rattle.hwp_core_rule.specs.declared.State.{State}
use Rattle.hwp_core_rule.specs.declared.Step.{Step}
use Rattle.hwp_core_rule.specs.declared.View.{View}
use Rattle.hwp_core_rule.specs.Moves.{Move, Run}
use Rattle.hwp_core_rule.specs.Opening.{opening, opening_view}
use Rattle.hwp_core_rule.specs.SlotMoves.{takes}
use Rattle.hwp_core_rule.specs.Steps.{kind_of}
use Rattle.hwp_core_rule.specs.Views.{view_after}
use Rattle.hwp_core_rule.proofs.Lists.{at_map, at_set, set_here}
use Rattle.hwp_core_rule.proofs.MoveKeeps.{holds-moved}
use Rattle.hwp_core_rule.proofs.StepKeeps.{keeps}
use Rattle.hwp_core_rule.specs.declared.Turn.{Turn}
use Rattle.hwp_core_rule.specs.declared.Turn.TheVariants.{Moved}
use Rattle.hwp_core_rule.specs.Boards.{view_of}
use Rattle.hwp_core_rule.specs.Calls.{CanMake, Steps, logs, rec_of}
use Rattle.hwp_plain.specs.Boards.{Board, logged, moves_of}
use Rattle.hwp_plain.specs.Boards as plain
use Rattle.hwp_table_words.specs.Known.{Whole, known_after, mine_after, times, whole_after}
use Rattle.hwp_table_words.specs.Plays.{Finds}
use Rattle.hwp_table_words.specs.Seats.{HasRight, Moves, SeatValue, cpu, cpu_of, mine, mine_of}
use Rattle.hwp_core_rule.proofs.MetWords.{asks-content}
use Rattle.hwp_table.specs.Boards.{IsSeatBoard, state_of}
use Rattle.hwp_table.specs.Seats.{AreSeats, IsHandedOver, IsHeld, IsSeatOf, whole_at}
use Rattle.hwp_table.specs.Turns.{played}
use Rattle.hwp_table.proofs.SeatRights.{whole-there, seats-set, are-now, held-now, mines-now}

cpu-map : (layout : Layout) (c : ℕ) (r : Rec) (l : List (ℕ × View)) → cpu_of (map (mine_after layout c r) l) ≡ cpu_of l
cpu-map layout c r [] = refl
cpu-map layout c r (x ∷ xs) = refl

-- what is told of a board is told of an equal one
pub moved-on : {a b new : Board} {who : Who} {step : Step} {found : ℕ} (put got : Option BodyValue) → a ≡ b → plain.Moves a (rec_of a.layout who step (logs put) found got) new → plain.Moves b (rec_of b.layout who step (logs put) found got) new
moved-on {a} {b} {new} {who} {step} {found} put got same made = subst (λ (v : Board). plain.Moves v (rec_of v.layout who step (logs put) found got) new) same made

module _ (id : TableId) (layout : Layout) (seats : List SeatValue) (holder : ℕ) (turns : List Turn) (seat : ℕ) (is : IsSeatBoard id layout seats holder turns seat)
    (own : ℕ) (own-is : own ≡ seat) (seats1 : List SeatValue) (h : IsHandedOver seats seats1 holder own) (s : SeatValue) (at : s ≡ get_or seats1 own s) where
  abbrev w : Whole
  w = whole_at seats holder

  abbrev a : State
  a = state_of seats holder

  less : own < layout.cpus
  less = subst (λ (n : ℕ). n < layout.cpus) (sym own-is) is.seated

  are1 : AreSeats id layout seats1
  are1 = are-now id layout seats seats1 holder own w is.are is.held h

  held1 : IsHeld layout seats1 own w
  held1 = held-now id layout seats seats1 holder own w is.are is.held h

  mines1 : map mine seats1 ≡ map mine seats
  mines1 = mines-now id layout seats seats1 holder own w is.are is.held h

  there : slice_get seats1 own ≡ Some s
  there = slice_get-get_or seats1 own s (subst (λ (n : ℕ). own < n) (sym are1.count) less) ∙ ap Some (sym at)

  seat-is : held1.seat ≡ s
  seat-is = same_Some held1.seat s (sym held1.there ∙ there)

  of-s : IsSeatOf id layout own s
  of-s = are1.each own s there

  me : slice_get (map mine seats) own ≡ Some (mine s)
  me = ap (λ (l : List View). slice_get l own) (sym mines1) ∙ at_map mine seats1 own s there

  view-is : view_of a own ≡ mine s
  view-is = get_or_from_slice_get (map mine seats) own (mine s) (opening_view own) me

  pub has-right : HasRight s.known
  has-right = subst (λ (n : ℕ). 0 < times n s.known.rights) (sym of-s.number_is) (subst (λ (t : SeatValue). 0 < times own t.known.rights) seat-is (held1.all own less))

  module _ (who : Who) (step : Step) (put : Option BodyValue) (can : CanMake layout who step put (view_of a seat)) where
    can-s : CanMake layout who step put (mine s)
    can-s = subst (CanMake layout who step put) (ap (view_of a) (sym own-is) ∙ view-is) can

    pub can-now : CanMake s.layout who step put (mine s)
    can-now = subst (λ (l : Layout). CanMake l who step put (mine s)) (sym of-s.layout_is) can-s

    module _ (found : ℕ) (got : Option BodyValue) (s2 : SeatValue) (same : s2.layout ≡ s.layout) (steps : Steps s.layout who step (logs put) (mine s) (mine s2) found got)
        (moved-s : Moves s (rec_of s.layout who step (logs put) found got) s2) where
      abbrev r : Rec
      r = rec_of layout who step (logs put) found got

      steps-s : Steps layout who step (logs put) (mine s) (mine s2) found got
      steps-s = subst (λ (l : Layout). Steps l who step (logs put) (mine s) (mine s2) found got) of-s.layout_is steps

      next-s : s2 ≡ record s { known = known_after layout own r s.known; caching = s2.caching }
      next-s = moved-s.next ∙ (λ i. record s { known = known_after (of-s.layout_is i) (of-s.number_is i) (rec_of (of-s.layout_is i) who step (logs put) found got) s.known; caching = s2.caching })

      whole-s : s.known.whole ≡ Some w
      whole-s = subst (λ (t : SeatValue). t.known.whole ≡ Some w) seat-is held1.whole

      finds : Finds layout r w
      finds = subst (λ (l : Layout). Finds l (rec_of l who step (logs put) found got) w) of-s.layout_is (moved-s.found w whole-s)

      abbrev seats3 : List SeatValue
      seats3 = set seats1 own s2

      abbrev b : State
      b = state_of seats3 own

      whole3 : s2.known.whole ≡ Some (whole_after layout own r w)
      whole3 = ap (λ (t : SeatValue). t.known.whole) next-s ∙ ap (option_map (whole_after layout own r)) whole-s

      there3 : slice_get seats3 own ≡ Some s2
      there3 = set_here seats1 own s2 s there

      at3 : whole_at seats3 own ≡ whole_after layout own r w
      at3 = whole-there seats3 own s2 (whole_after layout own r w) there3 whole3

      views3 : map mine seats3 ≡ set (map mine seats) own (view_after layout r (mine s))
      views3 = map-set mine seats1 own s2 ∙ (λ i. set (mines1 i) own (steps-s.told.next i))

      move : Move layout own r a b
      move = record {
        view = mine s;
        me = me;
        asks = record {
          turn = can-s.asks.turn;
          begins = can-s.asks.begins;
          place = can-s.asks.place;
          kind = asks-content layout who step found (logs got) (logs put) (mine s) (takes layout step found) refl can-s.asks.kind;
        };
        fits = steps-s.told.fits;
        met = finds.word;
        slot = finds.slot;
        next = λ i. record { words = (at3 i).words; homes = (at3 i).homes; views = views3 i };
      }

      of-2 : IsSeatOf id layout own s2
      of-2 = record {
        table = ap (λ (t : SeatValue). t.table) next-s ∙ of-s.table;
        layout_is = same ∙ of-s.layout_is;
        number_is = ap cpu next-s ∙ cpu-map layout own r s.known.mines ∙ of-s.number_is;
        one = subst (λ (l : List (ℕ × View)). l ≡ (cpu_of l, mine_of l) ∷ []) (sym (ap (λ (t : SeatValue). t.known.mines) next-s ∙ ap (map (mine_after layout own r)) of-s.one)) refl;
      }

      rights3 : s2.known.rights ≡ s.known.rights
      rights3 = ap (λ (t : SeatValue). t.known.rights) next-s

      held3 : IsHeld layout seats3 own (whole_after layout own r w)
      held3 = record {
        seat = s2;
        there = there3;
        whole = whole3;
        all = λ c few. subst (λ (l : List ℕ). 0 < times c l) (sym rights3) (subst (λ (t : SeatValue). 0 < times c t.known.rights) seat-is (held1.all c few));
        others = λ i t other e. elim (at_set seats1 own i s2 t e) [
          | inl here ↦ absurd (other here.0)
          | inr else ↦ held1.others i t else.0 else.1
        ];
      }

      log3 : played (whole_at seats3 own).log (Moved ∷ turns) ≡ logged own r Moved (played w.log turns)
      log3 = ap (λ (x : Whole). played x.log (Moved ∷ turns)) at3

      pub board3 : IsSeatBoard id layout seats3 own (Moved ∷ turns) seat
      board3 = record {
        are = seats-set id layout seats1 own s2 are1 of-2;
        held = subst (IsHeld layout seats3 own) (sym at3) held3;
        reached = record {
          run = subst (λ (l : List (ℕ × Rec)). Run layout (opening layout) l b) (sym (ap moves_of log3)) (a, is.reached.run, move);
          holds = holds-moved layout own r a b (keeps step) is.reached.holds move;
        };
        count = ap suc is.count ∙ sym (ap (λ (x : Whole). length x.log) at3);
        seated = is.seated;
      }

      view-now : view_of b own ≡ mine s2
      view-now = get_or_from_slice_get (map mine seats3) own (mine s2) (opening_view own) (at_map mine seats3 own s2 there3)

      pub steps3 : Steps layout who step (logs put) (view_of a seat) (view_of b seat) found got
      steps3 = subst (λ (n : ℕ). Steps layout who step (logs put) (view_of a n) (view_of b n) found got) own-is
          (subst (λ (v : View). Steps layout who step (logs put) v (view_of b own) found got) (sym view-is) (subst (λ (v : View). Steps layout who step (logs put) (mine s) v found got) (sym view-now) steps-s))

      pub moves3 : (ready : Bool) (made kind : Option Kind) (before : List Turn) → before ≡ turns → kind ≡ kind_of step
          → plain.Moves (record { layout = layout; state = a; log = played w.log turns; seat = seat; ready = ready; made = made }) r (record { layout = layout; state = b; log = played (whole_at seats3 own).log (Moved ∷ before); seat = seat; ready = false; made = kind })
      moves3 ready made kind before before-is kind-is = record {
        move = subst (λ (n : ℕ). Move layout n r a b) own-is move;
        next = λ i. record {
          layout = layout;
          state = b;
          log = (ap (λ (ts : List Turn). played (whole_at seats3 own).log (Moved ∷ ts)) before-is ∙ log3 ∙ ap (λ (n : ℕ). logged n r Moved (played w.log turns)) own-is) i;
          seat = seat;
          ready = false;
          made = kind-is i;
        };
      }
