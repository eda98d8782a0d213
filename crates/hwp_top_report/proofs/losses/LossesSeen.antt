-- Along a run, what the steps of a processor show of a file's losses doesn't fall from a command to a later one.
use Rattle.std.proofs.Common.{◌≡◌, inl, inr, ℕ, ◌<◌, ◌≤◌, List, [], ◌∷◌, ◌++◌, Some, slice_get, slice_index, sym, ap, ◌∙◌, subst, arith}
use Rattle.std.proofs.lemmas.Option.{none-some, slice_get-get_or}
use Rattle.hwp_law_served.specs.hwp_geom.declared.FileNo.{FileNo}
use Rattle.hwp_law_served.specs.hwp_geom.declared.Layout.{Layout}
use Rattle.hwp_law_served.specs.hwp_geom.declared.Who.{Who}
use Rattle.hwp_law_served.specs.hwp_page.Orders.{IsEarlier}
use Rattle.hwp_law_served.specs.hwp_core_rule.declared.Rec.{Rec}
use Rattle.hwp_law_served.specs.hwp_core_rule.declared.SharedWord.{SharedWord}
use Rattle.hwp_law_served.specs.hwp_core_rule.declared.SharedWord.TheVariants as places
use Rattle.hwp_law_served.specs.hwp_core_rule.declared.Sight.{Sight}
use Rattle.hwp_law_served.specs.hwp_core_rule.declared.State.{State}
use Rattle.hwp_law_served.specs.hwp_core_rule.declared.View.{View}
use Rattle.hwp_law_served.specs.hwp_core_rule.Lists.{EachMember}
use Rattle.hwp_law_served.specs.hwp_core_rule.Moves.{Move}
use Rattle.hwp_law_served.specs.hwp_core_rule.Rule.{Holds}
use Rattle.hwp_law_served.specs.hwp_core_rule.Steps.{place_of}
use Rattle.hwp_law_served.specs.hwp_core_rule.Views.{noted, view_after}
use Rattle.hwp_law_served.specs.hwp_core_rule.Words.{IsPlace, index, words_of}
use Rattle.hwp_law_served.proofs.of_hwp_core_rule.Lists.{at_map, each-push}
use Rattle.hwp_law_served.proofs.of_hwp_core_rule.MoveKeeps.{shaped}
use Rattle.hwp_law_served.proofs.of_hwp_core_rule.NotLater.{not-later}
use Rattle.hwp_law_served.proofs.of_hwp_core_rule.WordsByKind.{words-read}
use Rattle.hwp_law_served.proofs.StepAdds.{OneMore, adds-by}
use Rattle.hwp_law_served.proofs.RunKeeps.{IsKept}

-- the second is not of an earlier command with a greater number
abbrev IsNotAbove : Sight → Sight → Type 0
IsNotAbove t s = (file : FileNo) → s.place ≡ places.Loss file → t.place ≡ places.Loss file → IsEarlier s.stamp.who t.stamp.who → s.word ≤ t.word

-- so of all two of them
abbrev pub AreRisingSights : List Sight → Type 0
AreRisingSights sights = EachMember (λ (t : Sight). EachMember (IsNotAbove t) sights) sights

module _ (layout : Layout) (seat : ℕ) (r : Rec) (a b : State) (h : Holds layout a) (m : Move layout seat r a b) where
  abbrev after : View
  after = view_after layout r m.view

  -- a sight that was there is of no later command than the step
  not-after : (i : ℕ) (t : Sight) → slice_get m.view.sights i ≡ Some t → (who : Who) → who ≡ r.who → IsEarlier who t.stamp.who → ⊥
  not-after i t there who own earlier =
      let past = (h.rule.processors.commands.own seat m.view m.me).sights i t there in
      let by : who.cpu ≡ r.who.cpu = ap (λ (w : Who). w.cpu) own in
      let late : t.stamp.who.seq ≤ r.who.seq = not-later layout (words_of layout a.words) a.homes a.views seat m.view r.who m.me m.asks.turn h.rule seat m.view t.stamp.who m.me past (sym earlier.0 ∙ by) in
      let number : who.seq ≡ r.who.seq = ap (λ (w : Who). w.seq) own in
      omega (arith, late, number, earlier.1)

  -- the loss word that the step met
  met-word : (file : FileNo) → place_of r.step ≡ places.Loss file → slice_get (words_of layout a.words).losses file.0 ≡ Some r.found
  met-word file is =
      let inside : IsPlace layout (places.Loss file) = subst (IsPlace layout) is m.asks.place in
      slice_get-get_or (words_of layout a.words).losses file.0 0 (subst (λ (n : ℕ). file.0 < n) (sym (shaped layout a h).losses) inside)
      ∙ ap (λ (n : ℕ). Some n) (words-read layout a.words (places.Loss file) inside ∙ sym (m.met ∙ ap (λ (p : SharedWord). slice_index a.words (index layout p)) is))

  -- no sight that was there has more than the word that the step met
  new-old : (x : Sight) → x.place ≡ place_of r.step → x.word ≡ r.found → EachMember (IsNotAbove x) m.view.sights
  new-old x place word j s there file at mine earlier =
      let shown : s.word ≤ r.found = h.rule.histories.losses.shown file r.found (met-word file (sym place ∙ mine)) seat m.view.sights (at_map (λ (v : View). v.sights) a.views seat m.view m.me) j s there at in
      omega (arith, shown, word)

  new-all : (x : Sight) → x.place ≡ place_of r.step → x.word ≡ r.found → EachMember (IsNotAbove x) (m.view.sights ++ x ∷ [])
  new-all x place word = each-push (IsNotAbove x) m.view.sights x (λ file at mine earlier. absurd (omega (arith, earlier.1))) (new-old x place word)

  old-all : (i : ℕ) (t : Sight) → slice_get m.view.sights i ≡ Some t → (x : Sight) → x.stamp.who ≡ r.who → EachMember (IsNotAbove t) m.view.sights → EachMember (IsNotAbove t) (m.view.sights ++ x ∷ [])
  old-all i t there x own each = each-push (IsNotAbove t) m.view.sights x (λ file at mine earlier. absurd (not-after i t there x.stamp.who own earlier)) each

  moves-sights : AreRisingSights m.view.sights → AreRisingSights after.sights
  moves-sights each = which (adds-by layout r.who r.step r.found r.content (noted r.who m.view)).sights
    where
      which : OneMore (λ (s : Sight). (s.stamp.who ≡ r.who) × (s.place ≡ place_of r.step) × (s.word ≡ r.found)) m.view.sights after.sights → AreRisingSights after.sights
      which (inl same) = subst AreRisingSights (sym same) each
      which (inr (x, more, (own, place, word))) = subst AreRisingSights (sym more)
          (each-push (λ (t : Sight). EachMember (IsNotAbove t) (m.view.sights ++ x ∷ [])) m.view.sights x (new-all x place word) (λ i t there. old-all i t there x own (each i t there)))

pub sights-kept : (layout : Layout) → IsKept layout (λ (s : State) (v : View). AreRisingSights v.sights)
sights-kept layout = record {
  stays = λ seat r a b h m still v each. each;
  moves = λ seat r a b h m still all each. moves-sights layout seat r a b h m each;
  opens = λ c i x there. absurd (none-some x there);
}
