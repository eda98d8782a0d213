-- What views know of ended processes, and of the entries of bodies in hand, is kept along a run.
use Rattle.std.proofs.Common.{◌≡◌, ◌⊎◌, inl, inr, ℕ, zero, suc, ◌<◌, ◌≤◌, ◌==◌, max, Bool, true, false, cond, List, [], ◌∷◌, ◌++◌, Option, Some, drop, length, map, slice_get, refl, sym, ap, ◌∙◌, subst, arith}
use Rattle.std.proofs.lemmas.Bool.{cases_lt, eqb-true}
use Rattle.std.proofs.lemmas.List.{drop_all}
use Rattle.std.proofs.lemmas.Option.{none-some, same_Some}
use Rattle.hwp_law_served.specs.hwp_geom.declared.Frame.{Frame}
use Rattle.hwp_law_served.specs.hwp_geom.declared.Layout.{Layout}
use Rattle.hwp_law_served.specs.hwp_geom.declared.Page.{Page}
use Rattle.hwp_law_served.specs.hwp_geom.declared.Who.{Who}
use Rattle.hwp_law_served.specs.hwp_page.declared.Entry.{Entry}
use Rattle.hwp_law_served.specs.hwp_page.Endings.{is_ending}
use Rattle.hwp_law_served.specs.hwp_page.Orders.{IsEarlier, IsNotLater}
use Rattle.hwp_law_served.specs.hwp_core_rule.declared.InHand.{InHand}
use Rattle.hwp_law_served.specs.hwp_core_rule.declared.Log.{Log}
use Rattle.hwp_law_served.specs.hwp_core_rule.declared.Made.{Made}
use Rattle.hwp_law_served.specs.hwp_core_rule.declared.Part.{Part}
use Rattle.hwp_law_served.specs.hwp_core_rule.declared.Rec.{Rec}
use Rattle.hwp_law_served.specs.hwp_core_rule.declared.Sight.{Sight}
use Rattle.hwp_law_served.specs.hwp_core_rule.declared.SlotMove.{SlotMove}
use Rattle.hwp_law_served.specs.hwp_core_rule.declared.SlotMove.TheVariants as moves
use Rattle.hwp_law_served.specs.hwp_core_rule.declared.Stamp.{Stamp}
use Rattle.hwp_law_served.specs.hwp_core_rule.declared.State.{State}
use Rattle.hwp_law_served.specs.hwp_core_rule.declared.View.{View}
use Rattle.hwp_law_served.specs.hwp_core_rule.Asks.{Extends, IsTurnOf}
use Rattle.hwp_law_served.specs.hwp_core_rule.Lists.{EachMember, SomeMember}
use Rattle.hwp_law_served.specs.hwp_core_rule.Moves.{Move}
use Rattle.hwp_law_served.specs.hwp_core_rule.Rule.{Holds}
use Rattle.hwp_law_served.specs.hwp_core_rule.SlotMoves.{MeetsSlot, slot_move}
use Rattle.hwp_law_served.specs.hwp_core_rule.Steps.{place_of}
use Rattle.hwp_law_served.specs.hwp_core_rule.Views.{body_of, changed, is_body_of, made_from, more_of, noted, view_after}
use Rattle.hwp_law_served.specs.hwp_core_rule.Words.{words_of}
use Rattle.hwp_law_served.proofs.of_hwp_core_rule.AsksNoted.{asks-noted}
use Rattle.hwp_law_served.proofs.of_hwp_core_rule.BodySlots.{once}
use Rattle.hwp_law_served.proofs.of_hwp_core_rule.KeptTurns.{turn-after}
use Rattle.hwp_law_served.proofs.of_hwp_core_rule.Lists.{at_map, each-push}
use Rattle.hwp_law_served.proofs.of_hwp_core_rule.MoreEntries.{each-append}
use Rattle.hwp_law_served.proofs.of_hwp_core_rule.NotLater.{not-later}
use Rattle.hwp_law_served.proofs.of_hwp_core_rule.ListDrops.{each-changed-one, find-is}
use Rattle.hwp_law_served.proofs.turns.StepEntries.{AddsLength, AddsMade, AddsNothing, adds}
use Rattle.hwp_law_served.proofs.Homes.{home-within}
use Rattle.hwp_law_served.proofs.StepAdds.{Adds, OneMore, adds-by}
use Rattle.hwp_law_served.proofs.RunKeeps.{IsKept}
use Rattle.hwp_top_report.proofs.endings.EndingSeen.{AreFresh, IsFresh, IsUnended, KnowEnds, StaysEnded, not-going, process-word}
use Rattle.hwp_top_report.proofs.endings.HandsAfter.{hands-after}

drop-front : {A : Type 0} (n : ℕ) (xs ys : List A) → n ≤ length xs → drop n (xs ++ ys) ≡ drop n xs ++ ys
drop-front zero xs ys few = refl
drop-front (suc n) [] ys few = absurd (omega (arith, few))
drop-front {A} (suc n) (x ∷ xs) ys few = drop-front n xs ys (let less : suc n ≤ suc (length xs) = few in omega (arith, less))

-- entries as they are made are of the command that made them
made-own : (who : Who) (stamp : Stamp) (page : Page) (frame : Option Frame) (place : ℕ) (es : List Entry) → EachMember (λ (e : Entry). e.who ≡ who) es → EachMember (λ (m : Made). m.entry.who ≡ who) (made_from stamp page frame place es)
made-own who stamp page frame place [] own i m there = absurd (none-some m there)
made-own who stamp page frame place (e ∷ es) own zero m there = subst (λ (x : Made). x.entry.who ≡ who) (same_Some (record { stamp = stamp; page = page; place = place; entry = e; frame = frame }) m there) (own 0 e refl)
made-own who stamp page frame place (e ∷ es) own (suc i) m there = made-own who stamp page frame (suc place) es (λ j x at. own (suc j) x at) i m there

module _ (layout : Layout) (seat : ℕ) (r : Rec) (a b : State) (h : Holds layout a) (m : Move layout seat r a b) (all : EachMember (KnowEnds layout) a.views) (know : KnowEnds layout m.view) where
  abbrev v : View
  v = m.view

  abbrev after : View
  after = view_after layout r m.view

  abbrev Shown : Sight → Type 0
  Shown s = (s.stamp.who ≡ r.who) × (s.place ≡ place_of r.step) × (s.word ≡ r.found)

  more : Adds r.who r.step r.found (noted r.who m.view) after
  more = adds-by layout r.who r.step r.found r.content (noted r.who m.view)

  my_bodies : slice_get (map (λ (x : View). x.bodies) a.views) seat ≡ Some v.bodies
  my_bodies = at_map (λ (x : View). x.bodies) a.views seat v m.me

  sight-past : (i : ℕ) (x : Sight) → slice_get v.sights i ≡ Some x → IsNotLater x.stamp.who r.who
  sight-past i x there = not-later layout (words_of layout a.words) a.homes a.views seat v r.who m.me m.asks.turn h.rule seat v x.stamp.who m.me ((h.rule.processors.commands.own seat v m.me).sights i x there)

  -- ---- bodies in hand

  abbrev is_mine : Part → Bool
  is_mine p = p.cpu.0 == r.who.cpu.0

  abbrev come : Part → Part
  come p = record p { latest = max p.latest r.who.seq }

  -- with a body in hand a command that is the latest stays so
  turn-later : (w : Who) → (v.bodies ≡ [] → ⊥) → IsTurnOf v w → IsTurnOf after w
  turn-later w some turn = record {
    part = subst (SomeMember (λ (p : Part). (p.cpu ≡ w.cpu) × (p.latest ≤ w.seq))) (sym more.parts)
        (turn.part.0, cond (is_mine turn.part.1) (come turn.part.1) turn.part.1, at_map (λ (p : Part). cond (is_mine p) (come p) p) v.parts turn.part.0 turn.part.1 turn.part.2, which (is_mine turn.part.1) refl);
  }
    where
      which : (c : Bool) → is_mine turn.part.1 ≡ c → ((cond c (come turn.part.1) turn.part.1).cpu ≡ w.cpu) × ((cond c (come turn.part.1) turn.part.1).latest ≤ w.seq)
      which false is = turn.part.3
      which true is = (turn.part.3.0, by (cases_lt turn.part.1.latest r.who.seq))
        where
          by : (turn.part.1.latest < r.who.seq) ⊎ (r.who.seq ≤ turn.part.1.latest) → max turn.part.1.latest r.who.seq ≤ w.seq
          by (inl less) = absurd (some (m.asks.begins turn.part.0 turn.part.1 turn.part.2 (ap (λ (n : ℕ). record { 0 = n }) (eqb-true turn.part.1.cpu.0 r.who.cpu.0 is)) less))
          by (inr past) = let low : turn.part.1.latest ≤ w.seq = turn.part.3.1 in omega (arith, past, low)

  own-turn : IsTurnOf after r.who
  own-turn = turn-after layout r m.view r.who refl m.asks.turn

  has-some : (i : ℕ) (c : InHand) → slice_get v.bodies i ≡ Some c → v.bodies ≡ [] → ⊥
  has-some i c there none = none-some c (sym (ap (λ (l : List InHand). slice_get l i) none) ∙ there)

  fresh-later : (i : ℕ) (c : InHand) → slice_get v.bodies i ≡ Some c → IsFresh layout after c
  fresh-later i c there = let was = know.fresh i c there in record { within = was.within; latest = λ k e at. turn-later e.who (has-some i c there) (was.latest k e at) }

  -- a body just taken
  fresh-taken : (log : Log) (slot : ℕ) → r.content ≡ Some log → slot_move layout r.step r.found ≡ moves.Out slot → (c : InHand) → c.log ≡ log → c.since ≡ length log.entries → IsFresh layout after c
  fresh-taken log slot content_is out c log_is since_is =
      let home : slice_get a.homes slot ≡ Some (Some (Some log)) = subst (λ (x : Option Log). slice_get a.homes slot ≡ Some (Some x)) content_is (subst (λ (move : SlotMove). MeetsSlot move a.homes r.content) out m.slot) in
      let long : length c.log.entries ≡ length log.entries = ap (λ (l : Log). length l.entries) log_is in
      let none : drop c.since c.log.entries ≡ [] = drop_all c.since c.log.entries (omega (arith, since_is, long)) in
      record {
        within = subst (λ (l : Log). l.page.0 < length layout.pages) (sym log_is) (home-within layout a h log slot home);
        latest = subst (EachMember (λ (e : Entry). IsTurnOf after e.who)) (sym none) (λ i e there. absurd (none-some e there));
      }

  -- a body in hand with more entries
  fresh-longer : (log : Log) (body : InHand) → body_of log.page (noted r.who v) ≡ Some body → Extends layout r.who v.sights body log → EachMember (IsFresh layout after) (changed (is_body_of log.page) (λ (c : InHand). record c { log = log }) v.bodies)
  fresh-longer log body is extends =
      let found = find-is (is_body_of log.page) v.bodies body is in
      let was = know.fresh found.0 body found.1 in
      let within : log.page.0 < length layout.pages = subst (λ (p : Page). p.0 < length layout.pages) (sym extends.page_is) was.within in
      let few : body.since ≤ length body.log.entries = h.rule.histories.endings.taken seat v.bodies my_bodies found.0 body found.1 in
      let longer : drop body.since log.entries ≡ drop body.since body.log.entries ++ more_of body log = ap (drop body.since) extends.longer ∙ drop-front body.since body.log.entries (more_of body log) few in
      each-changed-one (is_body_of log.page) (IsFresh layout after) (λ (c : InHand). record c { log = log }) v.bodies found.0 body
      (once layout (words_of layout a.words) a.homes a.views seat v m.me h.rule log found.0 body found.1 found.2 within) found.1 found.2
      (record {
        within = within;
        latest = subst (EachMember (λ (e : Entry). IsTurnOf after e.who)) (sym longer)
            (each-append (λ (e : Entry). IsTurnOf after e.who) (drop body.since body.log.entries) (more_of body log)
            (λ k e at. turn-later e.who (has-some found.0 body found.1) (was.latest k e at))
            (λ k e at. subst (IsTurnOf after) (sym (extends.own k e at)) own-turn));
      }) fresh-later

  fresh-after : AreFresh layout after
  fresh-after = hands-after r.step (record {
    before = fresh-later;
    killed = λ c l is. record { within = is.within; latest = is.latest };
    fresh = fresh-taken;
    longer = fresh-longer;
  }) (asks-noted layout r.who m.view r.step r.content m.asks.kind)

  -- ---- entries made

  from-made : (P : Made → Type 0) → EachMember P v.made → ((y : Made) → y.entry.who ≡ r.who → P y) → EachMember P after.made
  from-made P old new = which (adds layout r.who r.step r.found r.content (noted r.who m.view) (asks-noted layout r.who m.view r.step r.content m.asks.kind))
    where
      which : AddsNothing (noted r.who m.view) after ⊎ (AddsLength layout r.who r.step r.found r.content (noted r.who m.view) after ⊎ AddsMade layout r.who (noted r.who m.view) after) → EachMember P after.made
      which (inl none) = subst (EachMember P) (sym none.made) old
      which (inr (inl took)) = subst (EachMember P) (sym took.made) old
      which (inr (inr lists)) = subst (EachMember P) (sym lists.made) (each-append P v.made (made_from _ lists.log.page lists.body.frame (length lists.body.log.entries) (more_of lists.body lists.log)) old
          (λ i y there. new y (made-own r.who _ lists.log.page lists.body.frame (length lists.body.log.entries) (more_of lists.body lists.log) lists.extends.own i y there)))

  -- ---- processes

  old-unended : (i : ℕ) (x : Sight) → slice_get v.sights i ≡ Some x → IsUnended layout after x
  old-unended i x there process place none = from-made (λ (y : Made). is_ending layout process y.entry.what ≡ true → IsEarlier y.entry.who x.stamp.who → ⊥) (know.unended i x there process place none) (λ y own ending earlier.
      let past : x.stamp.who.seq ≤ r.who.seq = sight-past i x there (sym earlier.0 ∙ ap (λ (w : Who). w.cpu) own) in
      let seq : y.entry.who.seq ≡ r.who.seq = ap (λ (w : Who). w.seq) own in
      let less : y.entry.who.seq < x.stamp.who.seq = earlier.1 in
      omega (arith, past, seq, less))

  nothing-more : after.sights ≡ v.sights → KnowEnds layout after
  nothing-more same = record {
    fresh = fresh-after;
    unended = subst (EachMember (IsUnended layout after)) (sym same) old-unended;
    stays = subst (λ (l : List Sight). EachMember (λ (s : Sight). EachMember (StaysEnded s) l) l) (sym same) know.stays;
  }

  module _ (x : Sight) (longer : after.sights ≡ v.sights ++ x ∷ []) (own : x.stamp.who ≡ r.who) (place : x.place ≡ place_of r.step) (word : x.word ≡ r.found) where
    new-unended : IsUnended layout after x
    new-unended process is none = from-made (λ (y : Made). is_ending layout process y.entry.what ≡ true → IsEarlier y.entry.who x.stamp.who → ⊥)
        (λ j y listed ending earlier. not-going layout seat r a b h m all process (sym place ∙ is) (sym word ∙ none) y j listed ending (subst (IsEarlier y.entry.who) own earlier))
        (λ y mine ending earlier.
        let seq : y.entry.who.seq ≡ r.who.seq = ap (λ (w : Who). w.seq) mine in
        let same : x.stamp.who.seq ≡ r.who.seq = ap (λ (w : Who). w.seq) own in
        let less : y.entry.who.seq < x.stamp.who.seq = earlier.1 in
        omega (arith, seq, same, less))

    old-new : (i : ℕ) (s : Sight) → slice_get v.sights i ≡ Some s → StaysEnded s x
    old-new i s there process first second earlier ended none =
        let same : r.found ≡ s.word = h.rule.processors.stops.ended_stays process r.found (process-word layout seat r a b h m process (sym place ∙ second)) seat v.sights (at_map (λ (y : View). y.sights) a.views seat v m.me) i s there first ended in
        ended (sym same ∙ sym word ∙ none)

    new-old : (i : ℕ) (s : Sight) → slice_get v.sights i ≡ Some s → StaysEnded x s
    new-old i s there process first second earlier ended none =
        let past : s.stamp.who.seq ≤ r.who.seq = sight-past i s there (sym earlier.0 ∙ ap (λ (w : Who). w.cpu) own) in
        let seq : x.stamp.who.seq ≡ r.who.seq = ap (λ (w : Who). w.seq) own in
        let less : x.stamp.who.seq < s.stamp.who.seq = earlier.1 in
        omega (arith, past, seq, less)

    new-new : StaysEnded x x
    new-new process first second earlier ended none = ended none

    sight-more : KnowEnds layout after
    sight-more = record {
      fresh = fresh-after;
      unended = subst (EachMember (IsUnended layout after)) (sym longer) (each-push (IsUnended layout after) v.sights x new-unended old-unended);
      stays = subst (λ (l : List Sight). EachMember (λ (s : Sight). EachMember (StaysEnded s) l) l) (sym longer)
          (each-push (λ (s : Sight). EachMember (StaysEnded s) (v.sights ++ x ∷ [])) v.sights x (each-push (StaysEnded x) v.sights x new-new new-old)
          (λ i s there. each-push (StaysEnded s) v.sights x (old-new i s there) (know.stays i s there)));
    }

  pub ends-moved : KnowEnds layout after
  ends-moved = which more.sights
    where
      which : OneMore Shown v.sights after.sights → KnowEnds layout after
      which (inl same) = nothing-more same
      which (inr (x, longer, (own, place, word))) = sight-more x longer own place word

-- along a run, what views know of ended processes
pub ends-kept : (layout : Layout) → IsKept layout (λ (s : State) (v : View). KnowEnds layout v)
ends-kept layout = record {
  stays = λ seat r a b h m still v know. know;
  moves = λ seat r a b h m still all know. ends-moved layout seat r a b h m all know;
  opens = λ c. record { fresh = λ i x there. absurd (none-some x there); unended = λ i x there. absurd (none-some x there); stays = λ i x there. absurd (none-some x there) };
}
