-- What a command saw of a frame's bad or weak lines has each line that an earlier command of its processor had spoiled.
use Rattle.std.proofs.Common.{◌≡◌, inl, inr, ℕ, ◌<◌, ◌≤◌, ◌==◌, min, not, Bool, true, false, List, Some, map, slice_get, slice_index, refl, sym, ap, ◌∙◌, subst, arith}
use Rattle.std.specs.Int.{bit_at, from_bool}
use Rattle.std.specs.List.{sum_by}
use Rattle.std.proofs.lemmas.Bool.{and_from, eq-eqb}
use Rattle.std.proofs.lemmas.Option.{none-some, slice_get-get_or}
use Rattle.hwp_law.specs.hwp_geom.declared.Damage.{Damage}
use Rattle.hwp_law.specs.hwp_geom.declared.Damage.TheVariants as damages
use Rattle.hwp_law.specs.hwp_geom.declared.Frame.{Frame}
use Rattle.hwp_law.specs.hwp_geom.declared.Layout.{Layout}
use Rattle.hwp_law.specs.hwp_geom.Limits.{line_limit}
use Rattle.hwp_law.specs.hwp_page.Orders.{IsEarlier}
use Rattle.hwp_plain.specs.hwp_core_rule.declared.SharedWord.{SharedWord}
use Rattle.hwp_plain.specs.hwp_core_rule.declared.SharedWord.TheVariants as places
use Rattle.hwp_plain.specs.hwp_core_rule.declared.Rec.{Rec}
use Rattle.hwp_plain.specs.hwp_core_rule.declared.Sight.{Sight}
use Rattle.hwp_plain.specs.hwp_core_rule.declared.Spoiled.{Spoiled}
use Rattle.hwp_plain.specs.hwp_core_rule.declared.State.{State}
use Rattle.hwp_plain.specs.hwp_core_rule.declared.View.{View}
use Rattle.hwp_plain.specs.hwp_core_rule.Lists.{EachMember}
use Rattle.hwp_plain.specs.hwp_core_rule.Moves.{Move}
use Rattle.hwp_plain.specs.hwp_core_rule.Rule.{Holds}
use Rattle.hwp_plain.specs.hwp_core_rule.Steps.{damage_place, place_of}
use Rattle.hwp_plain.specs.hwp_core_rule.Views.{noted, view_after}
use Rattle.hwp_plain.specs.hwp_core_rule.Words.{IsPlace, Words, index, words_of}
use Rattle.hwp_plain.specs.hwp_core_rule.parts.Damage.{BitsStay, HasSpoiled, is_bad, is_spoil}
use Rattle.hwp_plain.proofs.of_hwp_core_rule.Lists.{at_map, each-push, term-le}
use Rattle.hwp_plain.proofs.of_hwp_core_rule.MoveKeeps.{shaped}
use Rattle.hwp_plain.proofs.of_hwp_core_rule.NotLater.{not-later}
use Rattle.hwp_plain.proofs.of_hwp_core_rule.WordsByKind.{words-read}
use Rattle.hwp_law_served.proofs.StepAdds.{OneMore, adds-by}
use Rattle.hwp_law_served.proofs.RunKeeps.{IsKept}
use Rattle.hwp_law_served.proofs.lines.Spoils.{spoils-by}

-- the words of bad lines, or of weak ones
abbrev pub words_at : Damage → Words → List ℕ
words_at damages.Bad w = w.bads
words_at damages.Weak w = w.weaks

-- a spoiled line counts for itself
spoils-own : (d : Spoiled) → is_spoil d.frame.0 d.line (is_bad d.damage) d ≡ true
spoils-own d = which (is_bad d.damage) refl
  where
    which : (b : Bool) → is_bad d.damage ≡ b → is_spoil d.frame.0 d.line b d ≡ true
    which true is = and_from (d.frame.0 == d.frame.0) _ (eq-eqb d.frame.0 d.frame.0 refl) (and_from (d.line == d.line) _ (eq-eqb d.line d.line refl) is)
    which false is = and_from (d.frame.0 == d.frame.0) _ (eq-eqb d.frame.0 d.frame.0 refl) (and_from (d.line == d.line) _ (eq-eqb d.line d.line refl) (ap not is))

-- ---- on a board

module _ (layout : Layout) (s : State) (h : Holds layout s) where
  abbrev all_spoiled : List (List Spoiled)
  all_spoiled = map (λ (v : View). v.spoiled) s.views

  pub has-spoiled : (d : Damage) (frame : Frame) (word : ℕ) → slice_get (words_at d (words_of layout s.words)) frame.0 ≡ Some word → HasSpoiled frame.0 word (is_bad d) all_spoiled
  has-spoiled damages.Bad frame word there = h.rule.failures.damage.bad frame.0 word there
  has-spoiled damages.Weak frame word there = h.rule.failures.damage.weak frame.0 word there

  pub bits-stay : (d : Damage) (frame : Frame) (word : ℕ) → slice_get (words_at d (words_of layout s.words)) frame.0 ≡ Some word → BitsStay (damage_place frame d) word (map (λ (v : View). v.sights) s.views)
  bits-stay damages.Bad frame word there = h.rule.failures.damage.bad_stays frame word there
  bits-stay damages.Weak frame word there = h.rule.failures.damage.weak_stays frame word there

  -- the word that a step met there
  damage-word : (d : Damage) (frame : Frame) (found : ℕ) → IsPlace layout (damage_place frame d) → found ≡ slice_index s.words (index layout (damage_place frame d)) → slice_get (words_at d (words_of layout s.words)) frame.0 ≡ Some found
  damage-word damages.Bad frame found inside met =
      slice_get-get_or (words_of layout s.words).bads frame.0 0 (subst (λ (n : ℕ). frame.0 < n) (sym (shaped layout s h).bads) inside) ∙ ap (λ (n : ℕ). Some n) (words-read layout s.words (places.Bad frame) inside ∙ sym met)
  damage-word damages.Weak frame found inside met =
      slice_get-get_or (words_of layout s.words).weaks frame.0 0 (subst (λ (n : ℕ). frame.0 < n) (sym (shaped layout s h).weaks) inside) ∙ ap (λ (n : ℕ). Some n) (words-read layout s.words (places.Weak frame) inside ∙ sym met)

  -- a line that a view lists has its bit
  pub listed-bit : (i j : ℕ) (v : View) (d : Spoiled) → slice_get s.views i ≡ Some v → slice_get v.spoiled j ≡ Some d → d.line < line_limit → (word : ℕ) → slice_get (words_at d.damage (words_of layout s.words)) d.frame.0 ≡ Some word → bit_at word d.line ≡ 1
  listed-bit i j v d view there within word at =
      let counts : Spoiled → ℕ = λ (x : Spoiled). from_bool (is_spoil d.frame.0 d.line (is_bad d.damage) x) in
      let one : counts d ≡ 1 = ap from_bool (spoils-own d) in
      let mine : counts d ≤ sum_by counts v.spoiled = term-le counts v.spoiled j d there in
      let all : sum_by counts v.spoiled ≤ sum_by (sum_by counts) all_spoiled = term-le (sum_by counts) all_spoiled i v.spoiled (at_map (λ (x : View). x.spoiled) s.views i v view) in
      let listed : bit_at word d.line ≡ min (sum_by (sum_by counts) all_spoiled) 1 = has-spoiled d.damage d.frame word at d.line within in
      omega (arith, one, mine, all, listed)

-- ---- along a run

-- the sight has the line, if it is of a later command
abbrev IsSeenBy : Sight → Spoiled → Type 0
IsSeenBy x d = IsEarlier d.stamp.who x.stamp.who → d.line < line_limit → x.place ≡ damage_place d.frame d.damage → bit_at x.word d.line ≡ 1

-- a sight is of a place of the layout, and has each line that was spoiled before
pub record IsSight (layout : Layout) (v : View) (x : Sight) : Type 0 where
  pub inside : IsPlace layout x.place
  pub seen : EachMember (IsSeenBy x) v.spoiled

abbrev pub AreSights : Layout → View → Type 0
AreSights layout v = EachMember (IsSight layout v) v.sights

module _ (layout : Layout) (seat : ℕ) (r : Rec) (a b : State) (h : Holds layout a) (m : Move layout seat r a b) where
  abbrev after : View
  after = view_after layout r m.view

  abbrev OneSpoil : Type 0
  OneSpoil = OneMore (λ (d : Spoiled). d.stamp.who ≡ r.who) m.view.spoiled after.spoiled

  spoils : OneSpoil
  spoils = spoils-by layout r.who r.step r.found r.content (noted r.who m.view)

  -- a line that is spoiled now is of no earlier command than a sight that was there
  old-new : (i : ℕ) (x : Sight) → slice_get m.view.sights i ≡ Some x → (d : Spoiled) → d.stamp.who ≡ r.who → IsSeenBy x d
  old-new i x there d own earlier within place =
      let past = (h.rule.processors.commands.own seat m.view m.me).sights i x there in
      let by : d.stamp.who.cpu ≡ r.who.cpu = ap (λ w. w.cpu) own in
      let late : x.stamp.who.seq ≤ r.who.seq = not-later layout (words_of layout a.words) a.homes a.views seat m.view r.who m.me m.asks.turn h.rule seat m.view x.stamp.who m.me past (sym earlier.0 ∙ by) in
      let number : d.stamp.who.seq ≡ r.who.seq = ap (λ w. w.seq) own in
      absurd (omega (arith, late, number, earlier.1))

  old-sight : (i : ℕ) (x : Sight) → slice_get m.view.sights i ≡ Some x → IsSight layout m.view x → IsSight layout after x
  old-sight i x there is = record { inside = is.inside; seen = which spoils }
    where
      which : OneSpoil → EachMember (IsSeenBy x) after.spoiled
      which (inl same) = subst (EachMember (IsSeenBy x)) (sym same) is.seen
      which (inr (d, more, own)) = subst (EachMember (IsSeenBy x)) (sym more) (each-push (IsSeenBy x) m.view.spoiled d (old-new i x there d own) is.seen)

  -- what the step showed has each line that was spoiled before it
  new-old : (x : Sight) → x.place ≡ place_of r.step → x.word ≡ r.found → EachMember (IsSeenBy x) m.view.spoiled
  new-old x place word j d there earlier within at =
      let is : place_of r.step ≡ damage_place d.frame d.damage = sym place ∙ at in
      let inside : IsPlace layout (damage_place d.frame d.damage) = subst (IsPlace layout) is m.asks.place in
      let standing = damage-word layout a h d.damage d.frame r.found inside (m.met ∙ ap (λ (p : SharedWord). slice_index a.words (index layout p)) is) in
      ap (λ (w : ℕ). bit_at w d.line) word ∙ listed-bit layout a h seat j m.view d m.me there within r.found standing

  new-sight : (x : Sight) → x.stamp.who ≡ r.who → x.place ≡ place_of r.step → x.word ≡ r.found → IsSight layout after x
  new-sight x own place word = record { inside = subst (IsPlace layout) (sym place) m.asks.place; seen = which spoils }
    where
      never : (d : Spoiled) → d.stamp.who ≡ r.who → IsSeenBy x d
      never d by earlier within at =
          let number : d.stamp.who.seq ≡ x.stamp.who.seq = ap (λ w. w.seq) (by ∙ sym own) in
          absurd (omega (arith, number, earlier.1))

      which : OneSpoil → EachMember (IsSeenBy x) after.spoiled
      which (inl same) = subst (EachMember (IsSeenBy x)) (sym same) (new-old x place word)
      which (inr (d, more, by)) = subst (EachMember (IsSeenBy x)) (sym more) (each-push (IsSeenBy x) m.view.spoiled d (never d by) (new-old x place word))

  moves-sights : AreSights layout m.view → AreSights layout after
  moves-sights each = which (adds-by layout r.who r.step r.found r.content (noted r.who m.view)).sights
    where
      was : EachMember (IsSight layout after) m.view.sights
      was i x there = old-sight i x there (each i x there)

      which : OneMore (λ (s : Sight). (s.stamp.who ≡ r.who) × (s.place ≡ place_of r.step) × (s.word ≡ r.found)) m.view.sights after.sights → AreSights layout after
      which (inl same) = subst (EachMember (IsSight layout after)) (sym same) was
      which (inr (x, more, (own, place, word))) = subst (EachMember (IsSight layout after)) (sym more) (each-push (IsSight layout after) m.view.sights x (new-sight x own place word) was)

pub sights-kept : (layout : Layout) → IsKept layout (λ (s : State) (v : View). AreSights layout v)
sights-kept layout = record {
  stays = λ seat r a b h m still v each. each;
  moves = λ seat r a b h m still all each. moves-sights layout seat r a b h m each;
  opens = λ c i x there. absurd (none-some x there);
}
