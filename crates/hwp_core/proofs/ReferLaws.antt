-- The laws of `Refer`.
use Rattle.std.proofs.Common.{◌≡◌, ℕ, ◌+◌, ◌<◌, ◌≤◌, ◌==◌, Bool, true, false, cond, Option, Some, None, map, length, slice_index, refl, sym, ap, ◌∙◌, subst, arith}
use Rattle.std.proofs.lemmas.Option.{none-some}
use Rattle.std.specs.List.{sum_by}
use Rattle.hwp_core_rule.specs.hwp_geom.declared.Layout.{Layout}
use Rattle.hwp_core_rule.specs.hwp_page.History.{BodyValue}
use Rattle.hwp_core_rule.specs.hwp_words.Frames.{count_of}
use Rattle.hwp_core_rule.specs.declared.SharedWord.{SharedWord}
use Rattle.hwp_core_rule.specs.declared.SharedWord.TheVariants as places
use Rattle.hwp_core_rule.specs.declared.Step.{Step}
use Rattle.hwp_core_rule.specs.declared.View.{View}
use Rattle.hwp_core_rule.specs.Rule.{Holds}
use Rattle.hwp_core_rule.specs.Steps.{place_of}
use Rattle.hwp_core_rule.specs.Views.{refs_on, with_refs}
use Rattle.hwp_core_rule.specs.Words.{index}
use Rattle.hwp_core_rule.proofs.Lists.{at_map, term-le}
use Rattle.hwp_core_rule.proofs.MetWords.{frame-word}
use Rattle.hwp_core_rule.specs.declared.Turn.{Turn}
use Rattle.hwp_core_rule.specs.Calls.{CanMake, Steps}
use Rattle.hwp_core_rule.specs.Hands.{Hand, hand_of}
use Rattle.hwp_core_rule.proofs.tasks.StepLeaves.{on-turn-after, hand-planned, steps-planned, can-make}
use Rattle.hwp_core.specs.declared.refer.Refer.{Refer}
use Rattle.hwp_core.specs.declared.refer.ReferAt.{ReferAt}
use Rattle.hwp_core.specs.declared.refer.ReferAt.TheVariants as at
use Rattle.hwp_core.specs.Refers.{plan, plan_at, next, next_at, turn, HasSome, Fits, FitsAt, hand_next, hand_next_at}

pub can : (layout : Layout) (view : View) (r : Refer) (step : Step) → Fits layout view r → plan r ≡ Some step → CanMake layout r.who step None view
can layout view r step fits is = which r.at fits.at is
  where
    which : (x : ReferAt) → FitsAt layout view r.frame r.count x → plan_at r.frame r.count x ≡ Some step → CanMake layout r.who step None view
    which at.Load has e = can-make fits.on_turn e fits.frame tt
    which (at.Get seen) has e =
        let some : 0 < refs_on r.frame.0 view.refs = has.1.some in
        can-make fits.on_turn e fits.frame (has.0, has.1.more, record { shares = has.1.room; first = λ none. absurd (omega (arith, some, none)) })
    which at.Over has e = absurd (none-some step e)

module _ {layout : Layout} {old new : View} {step : Step} {found : ℕ} {got : Option BodyValue} (r : Refer) (is : plan r ≡ Some step) (made : Steps layout r.who step None old new found got) where
  -- what a step leaves of what is held
  pub held-after : (h : Hand) → hand_of old ≡ h → hand_of new ≡ hand_next r found h
  held-after h has = which r.at is
    where
      which : (x : ReferAt) → plan_at r.frame r.count x ≡ Some step → hand_of new ≡ hand_next_at r.frame r.count x found h
      which at.Load e = hand-planned made e has
      which (at.Get seen) e = hand-planned made e has
      which at.Over e = absurd (none-some step e)

  -- a frame that is referenced has a count
  counted : {other : Step} → Some other ≡ Some step → place_of other ≡ places.Frame r.frame → Fits layout old r → HasSome layout old r.frame r.count → 0 < count_of found
  counted {other} e place fits has =
      let balance = rule.rule.frames.counts.balance r.frame.0 found (frame-word layout own.told.board rule r.frame found fits.frame (own.told.met ∙ ap (λ (p : SharedWord). slice_index own.told.board.words (index layout p)) place)) in
      let mine : refs_on r.frame.0 old.refs ≤ sum_by (refs_on r.frame.0) (map (λ (v : View). v.refs) own.told.board.views) = term-le (refs_on r.frame.0) (map (λ (v : View). v.refs) own.told.board.views) own.told.seat old.refs (at_map (λ (v : View). v.refs) own.told.board.views own.told.seat old own.told.me) in
      let some : 0 < refs_on r.frame.0 old.refs = has.some in
      omega (arith, balance, mine, some)
    where
      own : Steps layout r.who other None old new found got
      own = steps-planned e made

      rule : Holds layout own.told.board
      rule = own.told.rule

  -- what the view has of the frame, where its references stay
  same-some : hand_of new ≡ hand_of old → HasSome layout old r.frame r.count → HasSome layout new r.frame r.count
  same-some same has = record {
    some = subst (λ (h : Hand). 0 < refs_on r.frame.0 h.refs) (sym same) has.some;
    more = has.more;
    room = subst (λ (h : Hand). refs_on r.frame.0 h.refs + r.count ≤ length layout.trans + 2) (sym same) has.room;
  }

  moved : Fits layout old r → (x : ReferAt) → plan_at r.frame r.count x ≡ Some step → FitsAt layout old r.frame r.count x → hand_of new ≡ hand_next_at r.frame r.count x found (hand_of old) → FitsAt layout new r.frame r.count (next_at x found)
  moved fits at.Load e has hand = (counted e refl fits has, same-some hand has)
  moved fits (at.Get seen) e has hand = by (found == seen) hand
    where
      by : (b : Bool) → hand_of new ≡ cond b (record (hand_of old) { refs = with_refs r.frame r.count old.refs }) (hand_of old) → FitsAt layout new r.frame r.count (cond b at.Over (at.Get found))
      by true hand = tt
      by false hand = (counted e refl fits has.1, same-some hand has.1)
  moved fits at.Over e has hand = absurd (none-some step e)

-- what follows fits again
pub both : (layout : Layout) (old new : View) (r : Refer) (step : Step) (found : ℕ) (got : Option BodyValue) → Fits layout old r → plan r ≡ Some step → Steps layout r.who step None old new found got → Fits layout new (next r found)
both layout old new r step found got fits is made =
    record { on_turn = on-turn-after fits.on_turn made; frame = fits.frame; at = moved r is made fits r.at is fits.at (held-after r is made (hand_of old) refl) }

pub stays : (layout : Layout) (old new : View) (r : Refer) (step : Step) (found : ℕ) (got : Option BodyValue) → Fits layout old r → plan r ≡ Some step → Steps layout r.who step None old new found got
    → Unit {0} × ((after : Refer) (result : Turn) → (after ≡ next r found) × (result ≡ turn r found) → Fits layout new after × (after.who.cpu ≡ r.who.cpu))
stays layout old new r step found got fits is made =
    (tt, λ after result follows. (subst (Fits layout new) (sym follows.0) (both layout old new r step found got fits is made), ap (λ (x : Refer). x.who.cpu) follows.0))
