-- A body that goes home to a locked frame: as it was taken, and with the entry of an access.
use Rattle.std.proofs.Common.{◌≡◌, ℕ, zero, suc, ◌^◌, ◌≤◌, ◌==◌, inl, Bool, true, false, not, bit_and, cond, List, [], ◌∷◌, ◌++◌, Option, Some, None, length, drop, option_map, slice_get, refl, sym, ap, ◌∙◌, subst, arith}
use Rattle.std.proofs.Math.Seq.{drop-append_seam}
use Rattle.std.proofs.lemmas.Bool.{both_ways, eqb-true}
use Rattle.std.proofs.lemmas.List.{drop-append-le}
use Rattle.std.proofs.lemmas.List.Sums.{fold-append}
use Rattle.std.proofs.lemmas.Option.{none-some, same_Some}
use Rattle.std.specs.FinSet as set
use Rattle.std.specs.Int.{IsBitSet}
use Rattle.std.specs.List.{find}
use Rattle.hwp_page.specs.hwp_geom.declared.Frame.{Frame}
use Rattle.hwp_page.specs.hwp_geom.declared.Layout.{Layout}
use Rattle.hwp_page.specs.hwp_geom.declared.Proc.{Proc}
use Rattle.hwp_page.specs.hwp_geom.declared.Who.{Who}
use Rattle.hwp_page.specs.hwp_geom.Layout.{is_locked}
use Rattle.hwp_page.specs.Endings.{has_ending}
use Rattle.hwp_page.specs.declared.Entry.{Entry}
use Rattle.hwp_page.specs.declared.PageState.{PageState}
use Rattle.hwp_page.specs.declared.What.{What}
use Rattle.hwp_page.specs.History.{BodyValue, Leads}
use Rattle.hwp_page.specs.Step.{Allowed, after}
use Rattle.hwp_core.specs.hwp_core_rule.declared.FrameLock.{FrameLock}
use Rattle.hwp_core.specs.hwp_core_rule.declared.InHand.{InHand}
use Rattle.hwp_core.specs.hwp_core_rule.declared.Log.{Log}
use Rattle.hwp_core.specs.hwp_core_rule.declared.PageLock.{PageLock}
use Rattle.hwp_core.specs.hwp_core_rule.declared.SharedWord.TheVariants as places
use Rattle.hwp_core.specs.hwp_core_rule.declared.Sight.{Sight}
use Rattle.hwp_core.specs.hwp_core_rule.declared.View.{View}
use Rattle.hwp_core.specs.hwp_core_rule.Asks.{Extends, HasSameWords, CanGoHome}
use Rattle.hwp_core.specs.hwp_core_rule.Lists.{EachMember, SomeMember}
use Rattle.hwp_core.specs.hwp_core_rule.Logs.{log_of, opening_at, state_of}
use Rattle.hwp_core.specs.hwp_core_rule.Views.{is_body_of, body_of, more_of, noted, stamp_of}
use Rattle.hwp_core.specs.hwp_core_rule.parts.Entries.{HasSeen, Shows}
use Rattle.hwp_core.proofs.of_hwp_core_rule.Lists.{same-number, some-last}
use Rattle.hwp_core.specs.hwp_core_rule.Calls.{Steps}
use Rattle.hwp_core.specs.hwp_core_rule.Hands.{Hand, hand_of, body_in}
use Rattle.hwp_core.specs.hwp_core_rule.declared.Step.TheVariants as steps
use Rattle.hwp_core.specs.Unlocks.{HoldsFrame}
use Rattle.hwp_core.proofs.BodyStates.{replay-state}
use Rattle.hwp_core.proofs.HoldEnds.{as-taken, none-more}
use Rattle.hwp_fault.specs.declared.touch.AccessKind.{AccessKind}
use Rattle.hwp_fault.specs.declared.touch.AccessKind.TheVariants as kinds
use Rattle.hwp_fault.specs.declared.access.Request.{Request}
use Rattle.hwp_fault.specs.Accesses.{entry_of, is_bad, met_by, met_of, reached, what_by, word_in, HasTaken}

-- whether the line is bad, as the test says it and as the bit does
pub bit-set : (mask line : ℕ) → is_bad mask line ≡ true → IsBitSet mask line
bit-set mask line is none = both_ways (is_bad mask line) (ap not (same-number (bit_and mask (2 ^ line)) 0 none)) is

pub bit-good : (mask line : ℕ) → is_bad mask line ≡ false → ¬ IsBitSet mask line
bit-good mask line is set = which (bit_and mask (2 ^ line) == 0) refl
  where
    which : (b : Bool) → (bit_and mask (2 ^ line) == 0) ≡ b → ⊥
    which true none = set (eqb-true (bit_and mask (2 ^ line)) 0 none)
    which false some = both_ways (is_bad mask line) is (ap not some)

-- the one member of a list
only-member : {A : Type 0} (P : A → Type 0) (l : List A) (a : A) → l ≡ a ∷ [] → P a → EachMember P l
only-member P l a one here i x e = which i (sym (ap (λ m. slice_get m i) one) ∙ e)
  where
    which : (j : ℕ) → slice_get (a ∷ []) j ≡ Some x → P x
    which zero at = subst P (same_Some a x at) here
    which (suc j) at = absurd (none-some x at)

module _ {layout : Layout} {view : View} {frame : Frame} {body : BodyValue} (has : HasTaken layout view frame body) where
  abbrev taken : InHand
  taken = body_in (Some frame) (log_of body) has.seen

  pub in-hand : body_of body.page view ≡ Some taken
  in-hand = ap (λ (h : Hand). find (is_body_of body.page) h.bodies) has.hand_is ∙ ap (λ (b : Bool). cond b (Some taken) None) (same-number body.page.0 body.page.0 refl)

  no-lock : (lock : PageLock) → slice_get view.pages 0 ≡ Some lock → ⊥
  no-lock lock at = none-some lock (sym (ap (λ (h : Hand). slice_get h.pages 0) has.hand_is) ∙ at)

  -- with these entries, which leave the page's words as they fit and end no process
  home-with : (who : Who) (entries : List Entry) → Extends layout who view.sights taken (record { page = body.page; entries = entries }) → HasSameWords (state_of layout (record { page = body.page; entries = entries })) (state_of layout (log_of body))
      → ((process : Proc) → has_ending layout process (drop (length body.log) entries) ≡ false) → CanGoHome layout who view (record { page = body.page; entries = entries })
  home-with who entries extends same none = record {
    body = taken;
    body_is = in-hand;
    extends = extends;
    fits = record { unlocked = λ free. same; locked = λ lock cache trans at own cache_is trans_is. absurd (no-lock lock at) };
    killed = λ process ended. absurd (both_ways (has_ending layout process (drop (length body.log) entries)) (none process) ended);
  }

  -- as it was taken
  pub still-held : (who : Who) → HoldsFrame layout who view frame (Some body)
  still-held who = record {
    body = body;
    given_is = refl;
    taken = taken;
    handled = has.handled;
    poisoned = has.poisoned;
    hand_is = has.hand_is;
    home = home-with who body.log (as-taken layout who (Some frame) (log_of body) has.seen view.sights) (record { cached = refl; maps = refl; bar = refl })
        (λ process. ap (has_ending layout process) (none-more layout who (Some frame) (log_of body) has.seen));
    taken_is = refl;
    layout_is = has.layout_is;
    within = has.within;
  }

  pub still-more : (who : Who) → more_of taken (log_of body) ≡ []
  still-more who = none-more layout who (Some frame) (log_of body) has.seen

  -- with the entry of an access
  module _ (a : Request) (mask : ℕ) where
    abbrev what : What
    what = met_of a mask (word_in a body)

    abbrev entry : Entry
    entry = entry_of a what

    abbrev more : Log
    more = log_of (reached a mask body)

    pub one-more : more_of taken more ≡ entry ∷ []
    one-more = drop-append_seam body.log (entry ∷ [])

    of-entry : (P : Entry → Type 0) → P entry → EachMember P (more_of taken more)
    of-entry P is = only-member P (more_of taken more) entry one-more is

    state-is : after (state_of layout (log_of body)) entry.what ≡ state_of layout more
    state-is = sym (fold-append (λ (t : PageState) (e : Entry). after t e.what) (opening_at (slice_get layout.pages body.page.0) (is_locked layout body.page)) body.log (entry ∷ []))

    module _ (used : set.contains body.state.maps a.slot.0 ≡ true) where
      word-allowed : ¬ IsBitSet mask a.line → (kind : AccessKind) → Allowed layout body.page body.state (what_by kind a.slot a.line (record { 0 = mask }) (word_in a body))
      word-allowed good kinds.Load = (used, good, refl)
      word-allowed good (kinds.Store stored) = (used, good)

      allowed-by : (bad : Bool) → is_bad mask a.line ≡ bad → Allowed layout body.page body.state (met_by bad a mask (word_in a body))
      allowed-by true is = (used, bit-set mask a.line is)
      allowed-by false is = word-allowed (bit-good mask a.line is) a.kind

      allowed : Allowed layout body.page (state_of layout (log_of body)) what
      allowed = subst (λ (s : PageState). Allowed layout body.page s what) (sym (replay-state has.replay)) (allowed-by (is_bad mask a.line) refl)

    -- it rests on the bad lines that were shown, leaves what words say of the page, and ends no process
    abbrev IsPlain : What → Type 0
    IsPlain what =
        ((sights : List Sight) → SomeMember (Shows a.who frame (places.Bad frame) mask) sights → HasSeen sights a.who (Some frame) what)
        × ((s : PageState) → HasSameWords (after s what) s)
        × ((process : Proc) → has_ending layout process (entry_of a what ∷ []) ≡ false)

    word-plain : (kind : AccessKind) → IsPlain (what_by kind a.slot a.line (record { 0 = mask }) (word_in a body))
    word-plain kinds.Load = (λ sights some. some, λ s. record { cached = refl; maps = refl; bar = refl }, λ process. refl)
    word-plain (kinds.Store stored) = (λ sights some. some, λ s. record { cached = refl; maps = refl; bar = refl }, λ process. refl)

    plain-by : (bad : Bool) → IsPlain (met_by bad a mask (word_in a body))
    plain-by true = (λ sights some. some, λ s. record { cached = refl; maps = refl; bar = refl }, λ process. refl)
    plain-by false = word-plain a.kind

    plain : IsPlain what
    plain = plain-by (is_bad mask a.line)

    pub reached-held : set.contains body.state.maps a.slot.0 ≡ true → SomeMember (Shows a.who frame (places.Bad frame) mask) (drop has.seen view.sights) → HoldsFrame layout a.who view frame (Some (reached a mask body))
    reached-held used some = record {
      body = reached a mask body;
      given_is = refl;
      taken = taken;
      handled = has.handled;
      poisoned = has.poisoned;
      hand_is = has.hand_is;
      home = home-with a.who more.entries (record {
        page_is = refl;
        longer = ap (λ (list : List Entry). body.log ++ list) (sym one-more);
        leads = subst (λ (list : List Entry). Leads layout body.page (state_of layout (log_of body)) list (state_of layout more)) (sym one-more) (allowed used, state-is);
        own = of-entry (λ (e : Entry). e.who ≡ a.who) refl;
        seen = of-entry (λ (e : Entry). HasSeen (drop has.seen view.sights) a.who (Some frame) e.what) (plain.0 (drop has.seen view.sights) some);
      })
          (subst (λ (s : PageState). HasSameWords s (state_of layout (log_of body))) state-is (plain.1 (state_of layout (log_of body))))
          (λ process. ap (has_ending layout process) one-more ∙ plain.2 process);
      taken_is = refl;
      layout_is = has.layout_is;
      within = has.within;
    }

-- ---- after a load

module _ {layout : Layout} {old new : View} {frame : Frame} {body : BodyValue} (has : HasTaken layout old frame body) where
  -- the load of another word leaves what is held
  abbrev pub taken-still : hand_of new ≡ hand_of old → length old.sights ≤ length new.sights → HasTaken layout new frame body
  taken-still same longer = record {
    seen = has.seen;
    handled = has.handled;
    poisoned = has.poisoned;
    hand_is = same ∙ has.hand_is;
    earlier = let before : has.seen ≤ length old.sights = has.earlier in omega arith;
    layout_is = has.layout_is;
    replay = has.replay;
    within = has.within;
  }

  -- the bad lines that were shown were shown under the frame's lock, since the body was taken
  pub bad-shown : {who : Who} {found : ℕ} {got : Option BodyValue} → Steps layout who (steps.Load (places.Bad frame)) None old new found got → SomeMember (Shows who frame (places.Bad frame) found) (drop has.seen new.sights)
  bad-shown {who} {found} {got} made = subst (SomeMember (Shows who frame (places.Bad frame) found)) (sym (ap (drop has.seen) sights ∙ drop-append-le has.seen old.sights (sight ∷ []) has.earlier))
      (some-last (Shows who frame (places.Bad frame) found) (drop has.seen old.sights) sight (record { own = refl; under = inl under; place_is = refl; word_is = refl }))
    where
      sight : Sight
      sight = record { stamp = stamp_of who (noted who old); place = places.Bad frame; word = found }

      sights : new.sights ≡ old.sights ++ sight ∷ []
      sights = ap (λ (v : View). v.sights) made.told.next

      under : sight.stamp.frame ≡ Some frame
      under = ap (λ (h : Hand). option_map (λ (l : FrameLock). l.frame) (slice_get h.locks 0)) has.hand_is
