-- A step of the plain board is a move that keeps the frame rule.
use Rattle.std.proofs.Common.{◌≡◌, ℕ, ◌+◌, ◌^◌, ◌<◌, Bool, true, false, cond, List, ◌∷◌, Option, Some, None, map, set, length, option_map, slice_get, slice_set, slice_index, get_or, refl, sym, ap, ◌∙◌, subst}
use Rattle.std.specs.declared.snapshot.Snapshot.{Snapshot}
use Rattle.std.proofs.lemmas.List.{length-map}
use Rattle.std.proofs.lemmas.Option.{slice_get_read, get_or_from_slice_get}
use Rattle.hwp_core_rule.specs.hwp_geom.declared.Cpu.{Cpu}
use Rattle.hwp_core_rule.specs.hwp_geom.declared.Layout.{Layout}
use Rattle.hwp_core_rule.specs.hwp_geom.declared.Who.{Who}
use Rattle.hwp_core_rule.specs.hwp_page.History.{BodyValue, IsReplay}
use Rattle.hwp_core_rule.specs.declared.Log.{Log}
use Rattle.hwp_core_rule.specs.declared.SharedWord.{SharedWord}
use Rattle.hwp_core_rule.specs.declared.Rec.{Rec}
use Rattle.hwp_core_rule.specs.declared.SlotMove.{SlotMove}
use Rattle.hwp_core_rule.specs.declared.State.{State}
use Rattle.hwp_core_rule.specs.declared.Step.{Step}
use Rattle.hwp_core_rule.specs.declared.View.{View}
use Rattle.hwp_core_rule.specs.Asks.{AsksOf}
use Rattle.hwp_core_rule.specs.Logs.{log_of}
use Rattle.hwp_core_rule.specs.Moves.{Move, Told}
use Rattle.hwp_core_rule.specs.Opening.{opening_view}
use Rattle.hwp_core_rule.specs.SlotMoves.{slot_move, is_out, homes_moved, takes, IsWithin, LeavesHome, MeetsSlot}
use Rattle.hwp_core_rule.specs.Steps.{place_of, word_after, kind_of}
use Rattle.hwp_core_rule.specs.Views.{view_after}
use Rattle.hwp_core_rule.specs.Words.{index, size, IsPlace}
use Rattle.hwp_core_rule.proofs.MoveKeeps.{holds-moved}
use Rattle.hwp_core_rule.proofs.StepKeeps.{keeps}
use Rattle.hwp_core_rule.specs.hwp_geom.declared.Kind.{Kind}
use Rattle.hwp_core_rule.specs.declared.Turn.{Turn}
use Rattle.hwp_core_rule.specs.declared.Turn.TheVariants as turns
use Rattle.hwp_core_rule.specs.Boards.{Played}
use Rattle.hwp_core_rule.specs.Calls.{CanMake, FitsLayout, Steps, logs, rec_of}
use Rattle.hwp_plain.specs.declared.slot.Slot.{Slot}
use Rattle.hwp_plain.specs.declared.trail.Trail.{Trail}
use Rattle.hwp_plain.specs.declared.trail.Trail.TheViews.{Made}
use Rattle.hwp_plain.specs.Boards.{Board, IsBoard, IsReached, Moves, logged, own_view, state_of}
use Rattle.hwp_plain.specs.Slots.{home_of, AreOfLayout}
use Rattle.hwp_plain.specs.Trails.{made_of, played, views_of}
use Rattle.hwp_core_rule.proofs.MetWords.{asks-taken, slot-within, slot-home}
use Rattle.hwp_plain.proofs.TrailViews.{view-there, view-now, views-are}

-- the content is that of the body that went out, or came home
content-flow : (t : Bool) (content got put : Option BodyValue) → content ≡ cond t got put → option_map log_of content ≡ cond t (logs got) (logs put)
content-flow true content got put is = ap (option_map log_of) is
content-flow false content got put is = ap (option_map log_of) is

asks-content : (layout : Layout) (who : Who) (step : Step) (found : ℕ) (got put : Option Log) (v : View) (t : Bool) → takes layout step found ≡ t → AsksOf layout who step put v → AsksOf layout who step (cond t got put) v
asks-content layout who step found got put v true is asks = asks-taken layout who step found put got v is asks
asks-content layout who step found got put v false is asks = asks

module _ (layout : Layout) (words : List ℕ) (slots : List Slot) (trail : Trail) (seat : ℕ) (kept : IsBoard layout words slots trail seat)
    (who : Who) (step : Step) (put : Option BodyValue) where
  abbrev a : State
  a = state_of layout words slots trail

  abbrev view : View
  view = get_or (views_of layout trail) seat (opening_view seat)

  me : slice_get (views_of layout trail) seat ≡ Some view
  me = view-there layout (views_of layout trail) (views-are layout trail) seat kept.seated

  module _ (can : CanMake layout who step put view) (found : ℕ) (met : found ≡ slice_index words (index layout (place_of step))) where
    slots-whole : length slots ≡ layout.frames + length layout.pages
    slots-whole = sym (length-map slots home_of) ∙ kept.reached.holds.slots

    pub within : IsWithin (length slots) (slot_move layout step found)
    within = subst (λ (n : ℕ). IsWithin n (slot_move layout step found)) (sym slots-whole) (slot-within layout step found can.asks.place)

    pub at-home : LeavesHome (slot_move layout step found) (map home_of slots)
    at-home = slot-home layout a kept.reached.holds seat view me found who step (logs put) can.asks met

    module _ (fits : found < 2 ^ 64) (slots_now : List Slot) (content got : Option BodyValue)
        (homes : map home_of slots_now ≡ homes_moved (slot_move layout step found) (option_map log_of content) (map home_of slots))
        (slot-met : MeetsSlot (slot_move layout step found) (map home_of slots) (option_map log_of content))
        (flow : content ≡ cond (is_out (slot_move layout step found)) got put) where
      abbrev r : Rec
      r = rec_of layout who step (logs put) found got

      content-is : option_map log_of content ≡ cond (takes layout step found) (logs got) (logs put)
      content-is = content-flow (takes layout step found) content got put flow

      abbrev views : List View
      views = slice_set (views_of layout trail) seat (view_after layout r view)

      abbrev b : State
      b = record { words = slice_set words (index layout (place_of step)) (word_after step found); homes = map home_of slots_now; views = views }

      pub move : Move layout seat r a b
      move = record {
        view = view;
        me = me;
        asks = record {
          turn = can.asks.turn;
          begins = can.asks.begins;
          place = can.asks.place;
          kind = asks-content layout who step found (logs got) (logs put) view (takes layout step found) refl can.asks.kind;
        };
        fits = fits;
        met = met;
        slot = subst (MeetsSlot (slot_move layout step found) (map home_of slots)) content-is slot-met;
        next = λ i. record {
          words = slice_set words (index layout (place_of step)) (word_after step found);
          homes = (homes ∙ ap (λ (c : Option Log). homes_moved (slot_move layout step found) c (map home_of slots)) content-is) i;
          views = views;
        };
      }

      pub reached : (turn : Turn) → IsReached layout (logged seat r turn (played trail)) b
      unfolding move
      reached turn = record {
        run = (a, kept.reached.run, move);
        holds = holds-moved layout seat r a b (keeps step) kept.reached.holds move;
      }

      told : Told layout r view (get_or views seat (opening_view seat))
      told = record {
        board = a;
        rule = kept.reached.holds;
        seat = seat;
        me = me;
        fits = fits;
        met = met;
        slot = move.slot;
        next = view-now layout (views_of layout trail) (views-are layout trail) seat (view_after layout r view) kept.seated;
      }

      pub steps : FitsLayout layout got → (is_out (slot_move layout step found) ≡ false → got ≡ None) → ((x : BodyValue) → got ≡ Some x → IsReplay x.layout x.page x.log x.state)
          → Steps layout who step (logs put) view (get_or views seat (opening_view seat)) found got
      steps of none replayed = record { told = told; brings = record { none = none; layout_is = of; kept = replayed } }

-- what a call asks of a board, or tells of it, it asks and tells of an equal one
pub can-on : {a b : Board} {who : Who} {step : Step} {put : Option BodyValue} → a ≡ b → CanMake b.layout who step put (own_view b) → CanMake a.layout who step put (own_view a)
can-on {a} {b} {who} {step} {put} same can = subst (λ (c : Board). CanMake c.layout who step put (own_view c)) (sym same) can

pub told-on : {a b : Board} {who : Who} {step : Step} {put : Option Log} {new : View} {found : ℕ} {got : Option BodyValue} → a ≡ b → Steps a.layout who step put (own_view a) new found got → Steps b.layout who step put (own_view b) new found got
told-on {a} {b} {who} {step} {put} {new} {found} {got} same made = subst (λ (c : Board). Steps c.layout who step put (own_view c) new found got) same made

pub moved-on : {a b new : Board} {who : Who} {step : Step} {found : ℕ} (put : Option Log) (got : Option BodyValue) → a ≡ b → Moves a (rec_of a.layout who step put found got) new → Moves b (rec_of b.layout who step put found got) new
moved-on {a} {b} {new} {who} {step} {found} put got same made = subst (λ (c : Board). Moves c (rec_of c.layout who step put found got) new) same made

-- ---- the step, as the code makes it

-- what the code found before it moves a slot
pub record IsBegun (layout : Layout) (words : List ℕ) (view : View) (who : Who) (step : Step) (put : Option BodyValue) (at found : ℕ) (to : SlotMove) : Type 0 where
  pub can : CanMake layout who step put view
  pub at_is : at ≡ index layout (place_of step)
  pub met : found ≡ slice_index words (index layout (place_of step))
  pub to_is : to ≡ slot_move layout step found

pub begun : {layout l m : Layout} {words : List ℕ} {view : View} {who : Who} {step : Step} {put : Option BodyValue} {place : SharedWord} {at found : ℕ} {to : SlotMove}
    → CanMake layout who step put view → length words ≡ size layout → l ≡ layout → m ≡ layout → place ≡ place_of step → at ≡ index l place → (IsPlace l place → at < size l)
    → found ≡ get_or words at found → to ≡ slot_move m step found → IsBegun layout words view who step put at found to
begun {layout} {l} {m} {words} {view} {who} {step} {put} {place} {at} {found} {to} can whole l-is m-is place-is at-is within value to-is = record {
  can = can;
  at_is = here;
  met = sym (get_or_from_slice_get words at found 0 (slice_get_read words (size layout) at found (sym whole) less value)) ∙ ap (slice_index words) here;
  to_is = to-is ∙ ap (λ (k : Layout). slot_move k step found) m-is;
}
  where
    here : at ≡ index layout (place_of step)
    here = at-is ∙ (λ i. index (l-is i) (place-is i))

    less : at < size layout
    less = subst (λ (k : Layout). at < size k) l-is (within (subst (λ (k : Layout). IsPlace k place) (sym l-is) (subst (IsPlace layout) (sym place-is) can.asks.place)))

module _ (layout : Layout) (words : List ℕ) (slots : List Slot) (trail : Trail) (seat : Cpu) (kept : IsBoard layout words slots trail seat.0)
    (who : Who) (step : Step) (put : Option BodyValue) (at found word : ℕ) (to : SlotMove) (is : IsBegun layout words (get_or (views_of layout trail) seat.0 (opening_view seat.0)) who step put at found to) where
  -- a slot that goes out is at home
  pub home-now : LeavesHome to (map home_of slots)
  home-now = subst (λ (t : SlotMove). LeavesHome t (map home_of slots)) (sym is.to_is) (at-home layout words slots trail seat.0 kept who step put is.can found is.met)

  module _ (fits : found < 2 ^ 64) (word-is : word ≡ word_after step found)
      (slots_now : List Slot) (content : Snapshot (Option BodyValue)) (got : Option BodyValue)
      (homes-to : map home_of slots_now ≡ homes_moved to (option_map log_of content.value) (map home_of slots))
      (met-to : MeetsSlot to (map home_of slots) (option_map log_of content.value))
      (flow-to : content.value ≡ cond (is_out to) got put)
      (before : Snapshot Trail) (before-is : before.value ≡ trail) (of : Snapshot Step) (of-is : of.value ≡ step) where
    homes : map home_of slots_now ≡ homes_moved (slot_move layout step found) (option_map log_of content.value) (map home_of slots)
    homes = homes-to ∙ ap (λ (t : SlotMove). homes_moved t (option_map log_of content.value) (map home_of slots)) is.to_is

    slot-met : MeetsSlot (slot_move layout step found) (map home_of slots) (option_map log_of content.value)
    slot-met = subst (λ (t : SlotMove). MeetsSlot t (map home_of slots) (option_map log_of content.value)) is.to_is met-to

    flow : content.value ≡ cond (is_out (slot_move layout step found)) got put
    flow = flow-to ∙ ap (λ (t : SlotMove). cond (is_out t) got put) is.to_is

    abbrev now : Trail
    now = Made before seat who of found content turns.Moved

    abbrev made : Rec
    made = rec_of layout who step (logs put) found got

    abbrev old_state : State
    old_state = state_of layout words slots trail

    abbrev new_state : State
    new_state = state_of layout (set words at word) slots_now now

    abbrev moved_state : State
    moved_state = b layout words slots trail seat.0 kept who step put is.can found is.met fits slots_now content.value got homes slot-met flow

    made-is : made_of who of.value found content.value ≡ made
    made-is = λ i. record { who = who; step = of-is i; found = found; content = content-is layout words slots trail seat.0 kept who step put is.can found is.met fits slots_now content.value got homes slot-met flow i }

    state-is : new_state ≡ moved_state
    state-is = λ i. record {
      words = set words (is.at_is i) (word-is i);
      homes = map home_of slots_now;
      views = set (views_of layout (before-is i)) seat.0 (view_after layout (made-is i) (get_or (views_of layout (before-is i)) seat.0 (opening_view seat.0)));
    }

    log-is : played now ≡ logged seat.0 made turns.Moved (played trail)
    log-is = λ i. record { seat = seat.0; made = made-is i; turn = turns.Moved } ∷ played (before-is i)

    pub kept-now : AreOfLayout layout slots_now → IsBoard layout (set words at word) slots_now now seat.0
    kept-now of-layout = record {
      reached = subst (λ (s : State). IsReached layout (played now) s) (sym state-is) (subst (λ (l : List Played). IsReached layout l moved_state) (sym log-is)
          (reached layout words slots trail seat.0 kept who step put is.can found is.met fits slots_now content.value got homes slot-met flow turns.Moved));
      bodies = of-layout;
      seated = kept.seated;
    }

    pub told-now : FitsLayout layout got → (is_out to ≡ false → got ≡ None) → ((x : BodyValue) → got ≡ Some x → IsReplay x.layout x.page x.log x.state)
        → Steps layout who step (logs put) (get_or old_state.views seat.0 (opening_view seat.0)) (get_or new_state.views seat.0 (opening_view seat.0)) found got
    told-now of-layout none replayed = subst (λ (s : State). Steps layout who step (logs put) (get_or old_state.views seat.0 (opening_view seat.0)) (get_or s.views seat.0 (opening_view seat.0)) found got) (sym state-is)
        (steps layout words slots trail seat.0 kept who step put is.can found is.met fits slots_now content.value got homes slot-met flow of-layout (λ e. none (ap is_out is.to_is ∙ e)) replayed)

    pub moved-now : (ready : Bool) (was kind : Option Kind) → kind ≡ kind_of step
        → Moves (record { layout = layout; state = old_state; log = played trail; seat = seat.0; ready = ready; made = was }) made (record { layout = layout; state = new_state; log = played now; seat = seat.0; ready = false; made = kind })
    moved-now ready was kind kind-is = record {
      move = subst (λ (s : State). Move layout seat.0 made old_state s) (sym state-is) (move layout words slots trail seat.0 kept who step put is.can found is.met fits slots_now content.value got homes slot-met flow);
      next = λ i. record { layout = layout; state = new_state; log = log-is i; seat = seat.0; ready = false; made = kind-is i };
    }
