-- The marks of a frame that a view lists rise by their places. And where a command saw the frame's word, the marks that the word counts
-- are all of the processor's earlier commands, and none of its later ones.
use Rattle.std.proofs.Common.{◌≡◌, ◌≢◌, ◌⊎◌, inl, inr, ℕ, ◌<◌, ◌≤◌, List, [], ◌∷◌, ◌++◌, Some, length, slice_get, slice_index, refl, sym, ap, ◌∙◌, subst, arith}
use Rattle.std.proofs.lemmas.Option.{none-some}
use Rattle.hwp_law.specs.hwp_geom.declared.Frame.{Frame}
use Rattle.hwp_law.specs.hwp_geom.declared.Layout.{Layout}
use Rattle.hwp_law.specs.hwp_geom.declared.Who.{Who}
use Rattle.hwp_law.specs.hwp_page.Orders.{IsEarlier, IsNotLater}
use Rattle.hwp_plain.specs.hwp_words.Frames.{cycle_of, poison_of}
use Rattle.hwp_plain.specs.hwp_core_rule.declared.Mark.{Mark}
use Rattle.hwp_plain.specs.hwp_core_rule.declared.SharedWord.{SharedWord}
use Rattle.hwp_plain.specs.hwp_core_rule.declared.SharedWord.TheVariants as places
use Rattle.hwp_plain.specs.hwp_core_rule.declared.Rec.{Rec}
use Rattle.hwp_plain.specs.hwp_core_rule.declared.Sight.{Sight}
use Rattle.hwp_plain.specs.hwp_core_rule.declared.State.{State}
use Rattle.hwp_plain.specs.hwp_core_rule.declared.View.{View}
use Rattle.hwp_plain.specs.hwp_core_rule.Lists.{EachMember, SomeMember}
use Rattle.hwp_plain.specs.hwp_core_rule.Moves.{Move}
use Rattle.hwp_plain.specs.hwp_core_rule.Rule.{Holds}
use Rattle.hwp_plain.specs.hwp_core_rule.Steps.{place_of}
use Rattle.hwp_plain.specs.hwp_core_rule.Views.{noted, view_after}
use Rattle.hwp_plain.specs.hwp_core_rule.Words.{IsPlace, index, words_of}
use Rattle.hwp_plain.specs.hwp_core_rule.parts.Marks.{IsBefore}
use Rattle.hwp_plain.proofs.of_hwp_core_rule.Lists.{at_last, at_map, at_push, at_set, each-push, each-weaken, same-or, set_here, some-set}
use Rattle.hwp_plain.proofs.of_hwp_core_rule.MetWords.{frame-word}
use Rattle.hwp_plain.proofs.of_hwp_core_rule.MoveKeeps.{shaped}
use Rattle.hwp_plain.proofs.of_hwp_core_rule.NotLater.{not-later}
use Rattle.hwp_law_served.proofs.Homes.{there-is}
use Rattle.hwp_law_served.proofs.StepAdds.{OneMore, adds-by, some-more}
use Rattle.hwp_law_served.proofs.RunKeeps.{IsKept}
use Rattle.hwp_law_served.proofs.marks.OrderedLists.{IsOrdered, ordered-push}
use Rattle.hwp_law_served.proofs.marks.MarkPlaces.{below-count, mark_count, mark_place, new-mark, word-of-mark}

-- the marks of one frame rise
abbrev pub IsLaterMark : Mark → Mark → Type 0
IsLaterMark k l = k.frame ≡ l.frame → mark_place k < mark_place l

abbrev pub AreRisingMarks : View → Type 0
AreRisingMarks v = IsOrdered IsLaterMark v.marks

-- what a sight of the frame's word says of the frame's marks
pub record IsSplitBy (layout : Layout) (s : State) (frame : Frame) (x : Sight) : Type 0 where
  pub inside : frame.0 < layout.frames
  pub earlier : (i j : ℕ) (v : View) (m : Mark) → slice_get s.views i ≡ Some v → slice_get v.marks j ≡ Some m → m.frame ≡ frame → IsEarlier m.stamp.who x.stamp.who → mark_place m < mark_count x.word
  pub later : (i j : ℕ) (v : View) (m : Mark) → slice_get s.views i ≡ Some v → slice_get v.marks j ≡ Some m → m.frame ≡ frame → IsEarlier x.stamp.who m.stamp.who → mark_count x.word ≤ mark_place m

abbrev pub IsSplit : Layout → State → Sight → Type 0
IsSplit layout s x = (frame : Frame) → x.place ≡ places.Frame frame → IsSplitBy layout s frame x

abbrev IsSighted : State → Sight → Type 0
IsSighted s x = SomeMember (λ (v : View). SomeMember (λ (y : Sight). y ≡ x) v.sights) s.views

abbrev pub AreSplit : Layout → State → View → Type 0
AreSplit layout s v = EachMember (λ (x : Sight). IsSighted s x × IsSplit layout s x) v.sights

-- a frame's word counts no fewer marks than a sight of it
pub count-before : (word : ℕ) (x : Sight) → IsBefore word x → mark_count x.word ≤ mark_count word
count-before word x before = which (same-or (cycle_of x.word) (cycle_of word))
  where
    bit : poison_of x.word < 2
    bit = omega arith

    which : (cycle_of x.word ≡ cycle_of word) ⊎ (cycle_of x.word ≢ cycle_of word) → mark_count x.word ≤ mark_count word
    which (inl same) = let poison : poison_of x.word ≤ poison_of word = before.poison same in omega (arith, same, poison)
    which (inr other) = let cycle : cycle_of x.word ≤ cycle_of word = before.cycle in omega (arith, other, cycle, bit)

module _ (layout : Layout) (seat : ℕ) (r : Rec) (a b : State) (h : Holds layout a) (m : Move layout seat r a b) (still : Holds layout b) where
  abbrev after : View
  after = view_after layout r m.view

  here : slice_get b.views seat ≡ Some after
  here = ap (λ (s : State). slice_get s.views seat) m.next ∙ set_here a.views seat after m.view m.me

  -- a mark that a view lists after the step was listed before it, or the step made it
  mark-was : (P : Mark → Type 0) (i j : ℕ) (v : View) (k : Mark) → slice_get b.views i ≡ Some v → slice_get v.marks j ≡ Some k
      → ((i j : ℕ) (v : View) → slice_get a.views i ≡ Some v → slice_get v.marks j ≡ Some k → P k) → (after.marks ≡ m.view.marks ++ k ∷ [] → k.stamp.who ≡ r.who → P k) → P k
  mark-was P i j v k view there old new = elim (at_set a.views seat i after v (sym (ap (λ (s : State). slice_get s.views i) m.next) ∙ view)) [
    | inl t ↦ by-list (adds-by layout r.who r.step r.found r.content (noted r.who m.view)).marks (ap (λ (x : View). slice_get x.marks j) t.1 ∙ there)
    | inr t ↦ old i j v t.1 there
  ]
    where
      by-list : OneMore (λ (x : Mark). x.stamp.who ≡ r.who) m.view.marks after.marks → slice_get after.marks j ≡ Some k → P k
      by-list (inl same) at = old seat j m.view m.me (ap (λ (l : List Mark). slice_get l j) (sym same) ∙ at)
      by-list (inr (x, more, own)) at = elim (at_push m.view.marks x k j (sym (ap (λ (l : List Mark). slice_get l j) more) ∙ at)) [
        | inl was ↦ old seat j m.view m.me was
        | inr same ↦ new (more ∙ ap (λ (y : Mark). m.view.marks ++ y ∷ []) same) (sym (ap (λ (y : Mark). y.stamp.who) same) ∙ own)
      ]

  -- ---- marks rise

  pub moves-rise : AreRisingMarks m.view → AreRisingMarks after
  moves-rise rising = which (adds-by layout r.who r.step r.found r.content (noted r.who m.view)).marks
    where
      which : OneMore (λ (x : Mark). x.stamp.who ≡ r.who) m.view.marks after.marks → AreRisingMarks after
      which (inl same) = subst (IsOrdered IsLaterMark) (sym same) rising
      which (inr (x, more, own)) = subst (IsOrdered IsLaterMark) (sym more) (ordered-push IsLaterMark m.view.marks x rising (λ j k there of.
          let its = word-of-mark layout a h seat j m.view k m.me there in
          let low : mark_place k < mark_count its.0 = below-count layout a h seat j m.view k its.0 m.me there its.1 in
          let high : mark_count its.0 ≤ mark_place x = new-mark layout seat r a b h m still x more its.0 (sym (ap (λ (f : Frame). slice_get (words_of layout a.words).frames f.0) of) ∙ its.1) in
          omega (arith, low, high)))

  -- ---- sights

  -- the frame's word has come to what the sight showed, which is of no later command
  pub record HasCome (frame : Frame) (x : Sight) : Type 0 where
    pub word : ℕ
    pub there : slice_get (words_of layout a.words).frames frame.0 ≡ Some word
    pub reached : mark_count x.word ≤ mark_count word
    pub not_later : IsNotLater x.stamp.who r.who

  stays-split : (frame : Frame) (x : Sight) → HasCome frame x → IsSplitBy layout a frame x → IsSplitBy layout b frame x
  stays-split frame x come split = record {
    inside = split.inside;
    earlier = λ i j v k view there. mark-was (λ (k : Mark). k.frame ≡ frame → IsEarlier k.stamp.who x.stamp.who → mark_place k < mark_count x.word) i j v k view there (λ i j v view there. split.earlier i j v k view there) (λ more own of before.
        let no_ : x.stamp.who.seq ≤ r.who.seq = come.not_later (sym before.0 ∙ ap (λ (w : Who). w.cpu) own) in
        let less : k.stamp.who.seq < x.stamp.who.seq = before.1 in
        let same : k.stamp.who.seq ≡ r.who.seq = ap (λ (w : Who). w.seq) own in
        absurd (omega (arith, no_, less, same)));
    later = λ i j v k view there. mark-was (λ (k : Mark). k.frame ≡ frame → IsEarlier x.stamp.who k.stamp.who → mark_count x.word ≤ mark_place k) i j v k view there (λ i j v view there. split.later i j v k view there) (λ more own of before.
        let high : mark_count come.word ≤ mark_place k = new-mark layout seat r a b h m still k more come.word (ap (λ (f : Frame). slice_get (words_of layout a.words).frames f.0) of ∙ come.there) in
        let reached : mark_count x.word ≤ mark_count come.word = come.reached in
        omega (arith, high, reached));
  }

  -- a sight that some view lists
  has-come : (frame : Frame) (x : Sight) → x.place ≡ places.Frame frame → frame.0 < layout.frames → IsSighted a x → HasCome frame x
  has-come frame x place inside sighted =
      let i : ℕ = sighted.0 in
      let v : View = sighted.1 in
      let k : ℕ = sighted.3.0 in
      let at : slice_get v.sights k ≡ Some x = sighted.3.2 ∙ ap (λ (y : Sight). Some y) sighted.3.3 in
      let its = there-is (words_of layout a.words).frames frame.0 (subst (λ (n : ℕ). frame.0 < n) (sym (shaped layout a h).frames) inside) in
      record {
        word = its.0;
        there = its.1;
        reached = count-before its.0 x (h.rule.failures.marks.shown frame its.0 its.1 i v.sights (at_map (λ (y : View). y.sights) a.views i v sighted.2) k x at place);
        not_later = not-later layout (words_of layout a.words) a.homes a.views seat m.view r.who m.me m.asks.turn h.rule i v x.stamp.who sighted.2 ((h.rule.processors.commands.own i v sighted.2).sights k x at);
      }

  -- what the step showed
  now-come : (x : Sight) → x.stamp.who ≡ r.who → x.place ≡ place_of r.step → x.word ≡ r.found → (frame : Frame) → x.place ≡ places.Frame frame → HasCome frame x × IsSplitBy layout a frame x
  now-come x own place word frame is =
      let at : place_of r.step ≡ places.Frame frame = sym place ∙ is in
      let inside : IsPlace layout (places.Frame frame) = subst (IsPlace layout) at m.asks.place in
      let there : slice_get (words_of layout a.words).frames frame.0 ≡ Some r.found = frame-word layout a h frame r.found inside (m.met ∙ ap (λ (p : SharedWord). slice_index a.words (index layout p)) at) in
      let same : mark_count x.word ≡ mark_count r.found = ap mark_count word in
      let seq : x.stamp.who.seq ≡ r.who.seq = ap (λ (w : Who). w.seq) own in (
        record { word = r.found; there = there; reached = omega (arith, same); not_later = λ cpu. omega (arith, seq) },
        record {
          inside = inside;
          earlier = λ i j v k view listed of before. (
              let low : mark_place k < mark_count r.found = below-count layout a h i j v k r.found view listed (ap (λ (f : Frame). slice_get (words_of layout a.words).frames f.0) of ∙ there) in
              omega (arith, low, same));
          later = λ i j v k view listed of before. (
              let no_ : k.stamp.who.seq ≤ r.who.seq = not-later layout (words_of layout a.words) a.homes a.views seat m.view r.who m.me m.asks.turn h.rule i v k.stamp.who view ((h.rule.processors.commands.own i v view).marks j k listed) (sym before.0 ∙ ap (λ (w : Who). w.cpu) own) in
              let less : x.stamp.who.seq < k.stamp.who.seq = before.1 in
              absurd (omega (arith, no_, less, seq)));
        },
      )

  sights-stay : (x : Sight) → IsSighted a x → IsSighted b x
  sights-stay x some = subst (SomeMember (λ (v : View). SomeMember (λ (y : Sight). y ≡ x) v.sights)) (sym (ap (λ (s : State). s.views) m.next))
      (some-set (λ (v : View). SomeMember (λ (y : Sight). y ≡ x) v.sights) a.views seat m.view after m.me (some-more (λ (y : Sight). y ≡ x) m.view.sights after.sights (adds-by layout r.who r.step r.found r.content (noted r.who m.view)).sights) some)

  stays-so : (x : Sight) → IsSighted a x × IsSplit layout a x → IsSighted b x × IsSplit layout b x
  stays-so x is = (sights-stay x is.0, λ frame place. let split = is.1 frame place in stays-split frame x (has-come frame x place split.inside is.0) split)

  pub moves-split : AreSplit layout a m.view → AreSplit layout b after
  moves-split each = which (adds-by layout r.who r.step r.found r.content (noted r.who m.view)).sights
    where
      old : AreSplit layout b m.view
      old = each-weaken (λ (x : Sight). IsSighted a x × IsSplit layout a x) (λ (x : Sight). IsSighted b x × IsSplit layout b x) m.view.sights stays-so each

      which : OneMore (λ (s : Sight). (s.stamp.who ≡ r.who) × (s.place ≡ place_of r.step) × (s.word ≡ r.found)) m.view.sights after.sights → AreSplit layout b after
      which (inl same) = subst (EachMember (λ (x : Sight). IsSighted b x × IsSplit layout b x)) (sym same) old
      which (inr (x, more, (own, place, word))) =
          let there : slice_get after.sights (length m.view.sights) ≡ Some x = ap (λ (l : List Sight). slice_get l (length m.view.sights)) more ∙ at_last m.view.sights x in
          let sighted : IsSighted b x = (seat, after, here, (length m.view.sights, x, there, refl)) in
          let split : IsSplit layout b x = λ frame is. (let now = now-come x own place word frame is in stays-split frame x now.0 now.1) in
          subst (EachMember (λ (y : Sight). IsSighted b y × IsSplit layout b y)) (sym more) (each-push (λ (y : Sight). IsSighted b y × IsSplit layout b y) m.view.sights x (sighted, split) old)

-- along a run
pub rising-kept : (layout : Layout) → IsKept layout (λ (s : State) (v : View). AreRisingMarks v)
rising-kept layout = record {
  stays = λ seat r a b h m still v rising. rising;
  moves = λ seat r a b h m still all rising. moves-rise layout seat r a b h m still rising;
  opens = λ c i j x y before here there. absurd (none-some x here);
}

pub split-kept : (layout : Layout) → IsKept layout (AreSplit layout)
split-kept layout = record {
  stays = λ seat r a b h m still v each. each-weaken (λ (x : Sight). IsSighted a x × IsSplit layout a x) (λ (x : Sight). IsSighted b x × IsSplit layout b x) v.sights (stays-so layout seat r a b h m still) each;
  moves = λ seat r a b h m still all each. moves-split layout seat r a b h m still each;
  opens = λ c i x there. absurd (none-some x there);
}
