-- The lines that a view lists as spoiled: a step leaves them, or lists one more of its command.
use Rattle.std.proofs.Common.{◌≡◌, inl, inr, ℕ, ◌==◌, Bool, true, false, cond, Option, Some, None, refl, sym, subst}
use Rattle.hwp_law.specs.hwp_geom.declared.Frame.{Frame}
use Rattle.hwp_law.specs.hwp_geom.declared.Layout.{Layout}
use Rattle.hwp_law.specs.hwp_geom.declared.Who.{Who}
use Rattle.hwp_plain.specs.hwp_core_rule.declared.InHand.{InHand}
use Rattle.hwp_plain.specs.hwp_core_rule.declared.Log.{Log}
use Rattle.hwp_plain.specs.hwp_core_rule.declared.Part.{Part}
use Rattle.hwp_plain.specs.hwp_core_rule.declared.SharedWord.{SharedWord}
use Rattle.hwp_plain.specs.hwp_core_rule.declared.SharedWord.TheVariants as places
use Rattle.hwp_plain.specs.hwp_core_rule.declared.Rec.{Rec}
use Rattle.hwp_plain.specs.hwp_core_rule.declared.Spoiled.{Spoiled}
use Rattle.hwp_plain.specs.hwp_core_rule.declared.State.{State}
use Rattle.hwp_plain.specs.hwp_core_rule.declared.Step.{Step}
use Rattle.hwp_plain.specs.hwp_core_rule.declared.Step.TheVariants as steps
use Rattle.hwp_plain.specs.hwp_core_rule.declared.View.{View}
use Rattle.hwp_plain.specs.hwp_core_rule.Lists.{EachMember, SomeMember}
use Rattle.hwp_plain.specs.hwp_core_rule.Logs.{log_of}
use Rattle.hwp_plain.specs.hwp_core_rule.Moves.{Move}
use Rattle.hwp_plain.specs.hwp_core_rule.Steps.{goes}
use Rattle.hwp_plain.specs.hwp_core_rule.Views.{body_of, listed_of, loaded, noted, put_home, taken, view_after, view_by}
use Rattle.hwp_plain.proofs.of_hwp_core_rule.Lists.{each-push, each-weaken, some-changed}
use Rattle.hwp_plain.proofs.of_hwp_core_rule.NoteKeeps.{past-now}
use Rattle.std.proofs.lemmas.Option.{none-some}
use Rattle.hwp_law_served.proofs.StepAdds.{OneMore, adds-by}
use Rattle.hwp_law_served.proofs.RunKeeps.{IsKept}

abbrev MoreSpoiled : Who → View → View → Type 0
MoreSpoiled who v x = OneMore (λ (s : Spoiled). s.stamp.who ≡ who) v.spoiled x.spoiled

either : (who : Who) (b : Bool) (v x y : View) → x.spoiled ≡ v.spoiled → y.spoiled ≡ v.spoiled → MoreSpoiled who v (cond b x y)
either who true v x y g h = inl g
either who false v x y g h = inl h

loads : (who : Who) (place : SharedWord) (found : ℕ) (v : View) → (loaded who place found v).spoiled ≡ v.spoiled
loads who (places.Cache page) found v = refl
loads who _ found v = refl

takes : (layout : Layout) (who : Who) (frame : Option Frame) (content : Option Log) (v : View) → (taken layout who frame content v).spoiled ≡ v.spoiled
takes layout who frame None v = refl
takes layout who frame (Some log) v = refl

lists : (layout : Layout) (who : Who) (log : Log) (body : Option InHand) (v : View) → (listed_of layout who log body v).spoiled ≡ v.spoiled
lists layout who log None v = refl
lists layout who log (Some body) v = refl

puts : (layout : Layout) (who : Who) (content : Option Log) (v : View) → (put_home layout who content v).spoiled ≡ v.spoiled
puts layout who None v = refl
puts layout who (Some log) v = lists layout who log (body_of log.page v) v

pub spoils-by : (layout : Layout) (who : Who) (step : Step) (found : ℕ) (content : Option Log) (v : View) → MoreSpoiled who v (view_by layout who step found content v)
spoils-by layout who (steps.Load place) found content v = inl (loads who place found v)
spoils-by layout who (steps.Reserve seen) found content v = either who (found == seen) v _ _ refl refl
spoils-by layout who (steps.TakeBit frame) found content v = either who (goes (steps.TakeBit frame) found) v _ _ refl refl
spoils-by layout who (steps.GetRef frame seen count) found content v = either who (found == seen) v _ _ refl refl
spoils-by layout who (steps.LockFrame frame) found content v = either who (goes (steps.LockFrame frame) found) v _ v (takes layout who (Some frame) content _) refl
spoils-by layout who (steps.UnlockFrame frame) found content v = inl (puts layout who content v)
spoils-by layout who (steps.Revive frame seen) found content v = either who (found == seen) v _ _ refl refl
spoils-by layout who (steps.LockPage page) found content v = either who (goes (steps.LockPage page) found) v _ v (takes layout who None content _) refl
spoils-by layout who (steps.UnlockPage page) found content v = inl (puts layout who content v)
spoils-by layout who (steps.Poison frame hardware) found content v = either who (goes (steps.Poison frame hardware) found) v _ _ refl refl
spoils-by layout who (steps.Spoil frame line damage) found content v = inr (_, refl, refl)
spoils-by layout who (steps.Stop cpu) found content v = either who (found == 0) v _ _ refl refl
spoils-by layout who (steps.Kill process page body) found content v =
    let is = lists layout who (log_of body.value) (body_of body.value.page v) v in either who (found == 0) v _ _ is is
spoils-by layout who (steps.Lose file body) found content v = inl (lists layout who (log_of body.value) (body_of body.value.page v) v)
spoils-by layout who _ found content v = inl refl

-- ---- of whom they are

-- the processor of the command is one of the view's
abbrev IsOfPart : View → Spoiled → Type 0
IsOfPart v s = SomeMember (λ (p : Part). p.cpu ≡ s.stamp.who.cpu) v.parts

-- each spoiled line of a view is of a processor of it
abbrev pub AreOfParts : State → View → Type 0
AreOfParts board v = EachMember (IsOfPart v) v.spoiled

module _ (layout : Layout) (seat : ℕ) (r : Rec) (a b : State) (m : Move layout seat r a b) where
  abbrev after : View
  after = view_after layout r m.view

  same-parts : after.parts ≡ (noted r.who m.view).parts
  same-parts = (adds-by layout r.who r.step r.found r.content (noted r.who m.view)).parts

  part-stays : (s : Spoiled) → IsOfPart m.view s → IsOfPart after s
  part-stays s some = subst (SomeMember (λ (p : Part). p.cpu ≡ s.stamp.who.cpu)) (sym same-parts)
      (some-changed (λ (p : Part). p.cpu ≡ s.stamp.who.cpu) (λ (p : Part). p.cpu.0 == r.who.cpu.0) _ m.view.parts (λ p found is. is) some)

  own-part : (s : Spoiled) → s.stamp.who ≡ r.who → IsOfPart after s
  own-part s own =
      let now = past-now r.who m.view m.asks.turn in
      subst (SomeMember (λ (p : Part). p.cpu ≡ s.stamp.who.cpu)) (sym same-parts) (now.0, now.1, now.2, subst (λ (w : Who). now.1.cpu ≡ w.cpu) (sym own) now.3.0)

  moves-parts : AreOfParts a m.view → AreOfParts b after
  moves-parts each = which (spoils-by layout r.who r.step r.found r.content (noted r.who m.view))
    where
      which : MoreSpoiled r.who m.view after → AreOfParts b after
      which (inl same) = subst (EachMember (IsOfPart after)) (sym same) (each-weaken (IsOfPart m.view) (IsOfPart after) m.view.spoiled part-stays each)
      which (inr (s, more, own)) = subst (EachMember (IsOfPart after)) (sym more)
          (each-push (IsOfPart after) m.view.spoiled s (own-part s own) (each-weaken (IsOfPart m.view) (IsOfPart after) m.view.spoiled part-stays each))

pub parts-kept : (layout : Layout) → IsKept layout AreOfParts
parts-kept layout = record {
  stays = λ seat r a b h m still v each. each;
  moves = λ seat r a b h m still all each. moves-parts layout seat r a b m each;
  opens = λ c i s there. absurd (none-some s there);
}
