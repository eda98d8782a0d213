-- A step of a seat, as its code makes it.
use Rattle.std.proofs.Common.{◌≡◌, ℕ, ◌*◌, ◌<◌, Bool, false, List, [], ◌∷◌, cond, map, slice_get, length, refl, sym, ap, ◌∙◌, subst}
use Rattle.std.specs.Prelude.{Option, Some, None}
use Rattle.atomic_table.specs.Seated.{TableId}
use Rattle.hwp_core_rule.specs.hwp_geom.declared.Layout.{Layout}
use Rattle.hwp_core_rule.specs.hwp_geom.declared.Who.{Who}
use Rattle.hwp_core_rule.specs.hwp_page.History.{BodyValue, IsReplay}
use Rattle.hwp_core_rule.specs.declared.Rec.{Rec}
use Rattle.hwp_core_rule.specs.declared.SlotMove.{SlotMove}
use Rattle.hwp_core_rule.specs.declared.SlotMove.TheVariants as moves
use Rattle.hwp_core_rule.specs.declared.Step.{Step}
use Rattle.hwp_core_rule.specs.declared.Step.TheVariants as steps
use Rattle.hwp_core_rule.specs.declared.Log.{Log}
use Rattle.hwp_core_rule.specs.declared.View.{View}
use Rattle.hwp_core_rule.specs.Lists.{SomeMember}
use Rattle.hwp_core_rule.specs.Moves.{Told}
use Rattle.hwp_core_rule.specs.SlotMoves.{slot_move, is_out}
use Rattle.hwp_core_rule.specs.Steps.{place_of}
use Rattle.hwp_core_rule.specs.Views.{view_after}
use Rattle.hwp_core_rule.specs.Words.{index, size}
use Rattle.hwp_core_rule.proofs.Lists.{same-number}
use Rattle.hwp_core_rule.specs.Calls.{CanMake, FitsLayout, GoesHome, Steps, logs, rec_of}
use Rattle.hwp_table_words.specs.Carrying.{vacant, front, IsCarried, IsFirst, HasRoom, laid, brought, order_after}
use Rattle.hwp_table_words.specs.Known.{Known, Knowing, known_after, mine_after, times}
use Rattle.hwp_table_words.specs.Order.{in_table}
use Rattle.hwp_table_words.specs.Plays.{Call, IsFront, IsMade, Makes, carried, rec}
use Rattle.hwp_table_words.specs.Seats.{CanPlay, HasRight, IsSeat, IsTableOf, Moves, SeatValue, cpu_of, mine, mine_of, slots_of, value_of}
use Rattle.hwp_table_words.specs.Stands.{Content, Me, first_me}
use Rattle.hwp_table_words.specs.tlb.Rule.{frames_of}
use Rattle.hwp_table_words.specs.tlb.Steps.{IsGuarded, caching_after}
use Rattle.hwp_table_words.proofs.Carried.{front-laid, first-now, brought-now, is-carried, carries-after, room-for}

-- what a call asks of a seat, or tells of it, it asks and tells of an equal one
pub can-on : {a b : SeatValue} {who : Who} {step : Step} {put : Content} → a ≡ b → CanMake b.layout who step put (mine b) → CanMake a.layout who step put (mine a)
can-on {a} {b} {who} {step} {put} same can = subst (λ (v : SeatValue). CanMake v.layout who step put (mine v)) (sym same) can

pub told-on : {a b : SeatValue} {who : Who} {step : Step} {put : Option Log} {new : View} {found : ℕ} {got : Content} → a ≡ b → Steps a.layout who step put (mine a) new found got → Steps b.layout who step put (mine b) new found got
told-on {a} {b} {who} {step} {put} {new} {found} {got} same made = subst (λ (v : SeatValue). Steps v.layout who step put (mine v) new found got) same made

pub moved-on : {a b new : SeatValue} {who : Who} {step : Step} {found : ℕ} (put : Option Log) (got : Content) → a ≡ b → Moves a (rec_of a.layout who step put found got) new → Moves b (rec_of b.layout who step put found got) new
moved-on {a} {b} {new} {who} {step} {found} put got same made = subst (λ (v : SeatValue). Moves v (rec_of v.layout who step put found got) new) same made

front-vacant : (order : List ℕ) → front (vacant order) ≡ None
front-vacant [] = refl
front-vacant (x ∷ xs) = refl

front-laid-none : (to : SlotMove) (order : List ℕ) → front (laid to None order) ≡ None
front-laid-none moves.Stays order = front-vacant order
front-laid-none (moves.Out slot) order = front-vacant order
front-laid-none (moves.Home slot) order = refl

-- the first slot has the body that goes home
front-put : (layout : Layout) (step : Step) (put : Content) (order : List ℕ) → GoesHome step put → front (laid (slot_move layout step 0) put order) ≡ put
front-put layout (steps.UnlockFrame frame) put order goes = refl
front-put layout (steps.UnlockPage page) put order goes = refl
front-put layout step put order goes = ap (λ (c : Content). front (laid (slot_move layout step 0) c order)) goes ∙ front-laid-none (slot_move layout step 0) order ∙ sym goes

-- what went out is what the step brought
same-got : (to : SlotMove) (got body : Content) (order : List ℕ) → (is_out to ≡ false → got ≡ None) → (is_out to ≡ false → body ≡ None) → brought to got order ≡ brought to body order → got ≡ body
same-got moves.Stays got body order none none' same = none refl ∙ sym (none' refl)
same-got (moves.Out slot) got body order none none' same = ap front same
same-got (moves.Home slot) got body order none none' same = none refl ∙ sym (none' refl)

module _ (ways : ℕ) (layout key : Layout) (id of : TableId) (me : Me) (order : List ℕ) (is : IsSeat ways layout key id of (first_me me) order)
    (who : Who) (step : Step) (put : Content) (guarded : IsGuarded (ways * layout.cpus) (mine_of me.0.known.mines) me.0.caching) (right : HasRight me.0.known) (can : CanMake layout who step put (mine_of me.0.known.mines)) where
  -- its processor, and the processor's view
  abbrev c : ℕ
  c = cpu_of me.0.known.mines

  abbrev view : View
  view = mine_of me.0.known.mines

  abbrev call : Call
  call = record { layout = layout; cpu = c; mine = view; who = who; step = step; put = put; places = ways * layout.cpus }

  pub there : (home : SlotMove) → home ≡ slot_move layout step 0 → IsCarried home order
  there home home-is = subst (λ (t : SlotMove). IsCarried t order) (sym home-is) (is-carried layout who step (logs put) view order can.asks.kind is.carries.same)

  has-view : SomeMember (λ (x : ℕ × View). x ≡ (c, view)) me.0.known.mines
  has-view = (0, (c, view), ap (λ (l : List (ℕ × View)). slice_get l 0) is.one, refl)

  -- the one view after a step
  mines-then : (r : Rec) → map (mine_after layout c r) me.0.known.mines ≡ (c, view_after layout r view) ∷ []
  mines-then r = ap (map (mine_after layout c r)) is.one ∙ ap (λ (b : Bool). (c, cond b (view_after layout r view) view) ∷ []) (same-number c c refl)

  -- the slot that goes home was laid in front
  module _ (home : SlotMove) (home-is : home ≡ slot_move layout step 0) (me1 : Me) (of1 : TableId) (order1 : List ℕ) (same1 : me1.0 ≡ me.0) (of1-is : of1 ≡ of) (laid-home : me1.1 ≡ laid home put order1) (first-home : IsFirst home order1)
      (times1 : (k : ℕ) → times k order1 ≡ times k order) (count1 : length order1 ≡ length order)
      (word : ℕ) (word-is : word ≡ in_table (size layout) (index layout (place_of step))) (word-in : word < size layout) where
    laid1 : me1.1 ≡ laid (slot_move layout step 0) put order1
    laid1 = laid-home ∙ ap (λ (t : SlotMove). laid t put order1) home-is

    first1 : IsFirst (slot_move layout step 0) order1
    first1 = subst (λ (t : SlotMove). IsFirst t order1) home-is first-home

    -- the call as the code names it
    abbrev named : Call
    named = record { layout = key; cpu = cpu_of me1.0.known.mines; mine = mine_of me1.0.known.mines; who = who; step = step; put = front me1.1; places = ways * key.cpus }

    named-is : named ≡ call
    named-is = λ i. record { layout = is.key_is i; cpu = cpu_of (same1 i).known.mines; mine = mine_of (same1 i).known.mines; who = who; step = step; put = (ap front laid1 ∙ front-put layout step put order1 can.goes_home) i; places = ways * (is.key_is i).cpus }

    can-play : CanPlay ways id key call of1 me1 word
    can-play = record {
      same = of1-is ∙ is.same;
      table = subst (λ (k : Layout). IsTableOf ways k id) (sym is.key_is) is.table;
      layout_is = sym is.key_is;
      places = ap (λ (k : Layout). ways * k.cpus) (sym is.key_is);
      word_is = word-is ∙ ap (λ (k : Layout). in_table (size k) (index k (place_of step))) (sym is.key_is);
      inside = subst (λ (k : Layout). word < size k) (sym is.key_is) word-in;
      view = subst (λ (v : Knowing). SomeMember (λ (x : ℕ × View). x ≡ (c, view)) v.known.mines) (sym same1) has-view;
      right = subst (λ (v : Knowing). 0 < times c v.known.rights) (sym same1) right;
      guarded = subst (λ (v : Knowing). IsGuarded (ways * layout.cpus) view v.caching) (sym same1) guarded;
      can = subst (λ (k : Layout). CanMake k who step put view) (sym is.key_is) can;
      front = λ found. subst (λ (k : Layout). IsFront (slot_move k step found) put me1.1) (sym is.key_is) (subst (IsFront (slot_move layout step found) put) (sym laid1) (front-laid layout step put order1 found));
    }

    pub can-named : CanPlay ways id key named of1 me1 word
    can-named = subst (λ (c : Call). CanPlay ways id key c of1 me1 word) (sym named-is) can-play

    -- the step was made
    module _ (found : ℕ) (me2 : Me) (of2 : TableId) (of2-is : of2 ≡ of1) (made-named : IsMade named me1 found me2) where
      abbrev to : SlotMove
      to = slot_move layout step found

      made-all : IsMade call me1 found me2
      made-all = subst (λ (c : Call). IsMade c me1 found me2) named-is made-named

      abbrev made : Makes call (first_me me1) found (first_me me2)
      made = made-all.makes

      brought2 : me2.1 ≡ brought to made.got order1
      brought2 = made.slots ∙ ap (carried to made.got) laid1 ∙ brought-now layout step put made.got order1 found

      first2 : IsFirst to order1
      first2 = first-now layout step order1 found first1

      count : length order1 ≡ length (slots_of layout view)
      count = count1 ∙ is.carries.few

      -- the view then
      abbrev new : View
      new = view_after layout (rec call found made.got) view

      room2 : HasRoom to order1
      room2 = room-for layout (rec call found made.got) (logs put) view new order1 can.asks.kind made.told count

      pub brought-to : (t : SlotMove) → t ≡ to → (got : Content) × (me2.1 ≡ brought t got order1)
      brought-to t t-is = (made.got, brought2 ∙ ap (λ (u : SlotMove). brought u made.got order1) (sym t-is))

      pub first-to : (t : SlotMove) → t ≡ to → IsFirst t order1
      first-to t t-is = subst (λ (u : SlotMove). IsFirst u order1) (sym t-is) first2

      pub room-to : (t : SlotMove) → t ≡ to → HasRoom t order1
      room-to t t-is = subst (λ (u : SlotMove). HasRoom u order1) (sym t-is) room2

      -- the body was taken out
      module _ (t : SlotMove) (t-is : t ≡ to) (me3 : Me) (of3 : TableId) (order3 : List ℕ) (body : Content) (same3 : me3.0 ≡ me2.0) (of3-is : of3 ≡ of2) (empty3 : me3.1 ≡ vacant order3) (order-t : order3 ≡ order_after t order1)
          (body-t : me2.1 ≡ brought t body order1) (none-t : is_out t ≡ false → body ≡ None) (kept : (b : BodyValue) → body ≡ Some b → IsReplay b.layout b.page b.log b.state) where
        order3-is : order3 ≡ order_after to order1
        order3-is = order-t ∙ ap (λ (u : SlotMove). order_after u order1) t-is

        body-is : me2.1 ≡ brought to body order1
        body-is = body-t ∙ ap (λ (u : SlotMove). brought u body order1) t-is

        none : is_out to ≡ false → body ≡ None
        none out = none-t (ap is_out t-is ∙ out)

        got-is : made.got ≡ body
        got-is = same-got to made.got body order1 made.none none (sym brought2 ∙ body-is)

        known-is : me3.0.known ≡ known_after layout c (rec call found made.got) me.0.known
        known-is = ap (λ (k : Knowing). k.known) same3 ∙ made.known ∙ ap (λ (k : Knowing). known_after layout c (rec call found made.got) k.known) same1

        pub caching-now : me3.0.caching ≡ caching_after (ways * layout.cpus) step found (frames_of view.locks) me.0.caching
        caching-now = ap (λ (k : Knowing). k.caching) same3 ∙ made-all.caching ∙ ap (λ (k : Knowing). caching_after (ways * layout.cpus) step found (frames_of view.locks) k.caching) same1

        mines-is : me3.0.known.mines ≡ (c, new) ∷ []
        mines-is = ap (λ (v : Known). v.mines) known-is ∙ mines-then (rec call found made.got)

        view-is : mine_of me3.0.known.mines ≡ new
        view-is = ap mine_of mines-is

        pub seat-now : IsSeat ways layout key id of3 (first_me me3) order3
        seat-now = record {
          key_is = is.key_is;
          table = is.table;
          same = of3-is ∙ of2-is ∙ of1-is ∙ is.same;
          one = subst (λ (l : List (ℕ × View)). l ≡ (cpu_of l, mine_of l) ∷ []) (sym mines-is) refl;
          carries = record {
            empty = empty3;
            same = λ slot. ap (times slot) order3-is ∙ (after.0 slot ∙ ap (λ (v : View). times slot (slots_of layout v)) (sym view-is));
            few = ap length order3-is ∙ (after.1 ∙ ap (λ (v : View). length (slots_of layout v)) (sym view-is));
          };
        }
          where
            after : ((j : ℕ) → times j (order_after to order1) ≡ times j (slots_of layout new)) × (length (order_after to order1) ≡ length (slots_of layout new))
            after = carries-after layout (rec call found made.got) (logs put) view order1 can.asks.kind first2 (λ j. times1 j ∙ is.carries.same j) count

        pub steps-now : Steps layout who step (logs put) view (mine_of me3.0.known.mines) found body
        steps-now = record {
          told = subst (λ (b : Content). Told layout (rec_of layout who step (logs put) found b) view (mine_of me3.0.known.mines)) got-is (subst (λ (v : View). Told layout (rec call found made.got) view v) (sym view-is) made.told);
          brings = record { none = none; layout_is = subst (FitsLayout layout) got-is made.layout_is; kept = kept };
        }

        pub moves-now : Moves (value_of id layout me.0) (rec_of layout who step (logs put) found body) (value_of id layout me3.0)
        moves-now = subst (λ (b : Content). Moves (value_of id layout me.0) (rec_of layout who step (logs put) found b) (value_of id layout me3.0)) got-is (record {
          next = λ i. record { table = id; layout = layout; known = known-is i; caching = me3.0.caching };
          found = λ w whole. made.whole w (ap (λ (k : Knowing). k.known.whole) same1 ∙ whole);
        })
