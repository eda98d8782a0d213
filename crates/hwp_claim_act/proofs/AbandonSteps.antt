-- What follows each step by which a page is taken out of its failed frame.
use Rattle.std.proofs.Common.{◌≡◌, inl, inr, ◌⊎◌, ℕ, zero, suc, ◌+◌, ◌-◌, ◌<◌, ◌≤◌, ◌==◌, ◌||◌, Bool, true, false, not, cond, nat_le, List, [], ◌∷◌, ◌++◌, Option, Some, None, is_some, length, map, slice_get, refl, sym, ap, ◌∙◌, subst, arith}
use Rattle.std.proofs.lemmas.Bool.{both_ways, cases_lt, lt-leb, ne_eqb}
use Rattle.std.proofs.lemmas.List.{append-nil, drop_all}
use Rattle.std.proofs.lemmas.Option.{none-some, same_Some, slice_get_within}
use Rattle.std.specs.Int.{from_bool}
use Rattle.std.specs.List.{sum_by}
use Rattle.hwp_core.specs.hwp_geom.declared.FileNo.{FileNo}
use Rattle.hwp_core.specs.hwp_geom.declared.Frame.{Frame}
use Rattle.hwp_core.specs.hwp_geom.declared.Layout.{Layout}
use Rattle.hwp_core.specs.hwp_geom.declared.Page.{Page}
use Rattle.hwp_core.specs.hwp_geom.declared.Proc.{Proc}
use Rattle.hwp_core.specs.hwp_geom.declared.Who.{Who}
use Rattle.hwp_core.specs.hwp_kill.declared.Signal.{Signal}
use Rattle.hwp_core.specs.hwp_page.declared.Entry.{Entry}
use Rattle.hwp_core.specs.hwp_page.History.{BodyValue, Leads}
use Rattle.hwp_core.specs.hwp_page.Losses.{is_loss}
use Rattle.hwp_core.specs.hwp_words.Frames.{count_of, handled_of}
use Rattle.hwp_core.specs.hwp_core_rule.declared.InHand.{InHand}
use Rattle.hwp_core.specs.hwp_core_rule.declared.Log.{Log}
use Rattle.hwp_core.specs.hwp_core_rule.declared.Made.{Made}
use Rattle.hwp_core.specs.hwp_core_rule.declared.Mark.{Mark}
use Rattle.hwp_core.specs.hwp_core_rule.declared.SharedWord.TheVariants as places
use Rattle.hwp_core.specs.hwp_core_rule.declared.Ref.{Ref}
use Rattle.hwp_core.specs.hwp_core_rule.declared.Sight.{Sight}
use Rattle.hwp_core.specs.hwp_core_rule.declared.Stamp.{Stamp}
use Rattle.hwp_core.specs.hwp_core_rule.declared.Step.TheVariants as steps
use Rattle.hwp_core.specs.hwp_core_rule.declared.View.{View}
use Rattle.hwp_core.specs.hwp_core_rule.Asks.{Extends}
use Rattle.hwp_core.specs.hwp_core_rule.Logs.{log_of, state_of, file_of}
use Rattle.hwp_core.specs.hwp_core_rule.Steps.{is_last}
use Rattle.hwp_core.specs.hwp_core_rule.Views.{body_of, frame_in, hand_found, is_page_lock_of, killed_by, less_refs, listed, loss_made, losses_made, more_of, noted, refs_on, sighted, stamp_of, with_named, without}
use Rattle.hwp_core.specs.hwp_core_rule.Words.{words_of}
use Rattle.hwp_core.specs.hwp_core_rule.parts.Counter.{is_poisoning}
use Rattle.hwp_core.specs.hwp_core_rule.parts.Counts.{named}
use Rattle.hwp_core.proofs.of_hwp_core_rule.Lists.{at_map, same-number, some-last, some-push, term-le}
use Rattle.hwp_core.proofs.of_hwp_core_rule.MetWords.{cache-word, frame-named, frame-word, lock-knows}
use Rattle.hwp_core.specs.hwp_core_rule.Calls.{Steps, logs}
use Rattle.hwp_core.specs.hwp_core_rule.Hands.{Hand, empty, hand_of, killing, listing, listing_of, putting}
use Rattle.hwp_core.proofs.of_hwp_core_rule.tasks.StepLeaves.{hand-planned}
use Rattle.hwp_core.specs.hwp_core_rule.Known.{HasMade, deeds}
use Rattle.hwp_core.proofs.of_hwp_core_rule.tasks.MadeEntries.{Lists, deeds-none, deeds-one, deeds-same, has-made, has-made-stays, kill-lists, loss-lists, page-lists}
use Rattle.hwp_core.specs.Holds.{one_ref, page_lock}
use Rattle.hwp_core.specs.Vacates.{page_held, with_frame}
use Rattle.hwp_core.proofs.BodyGrows.{Grown, extends-grown, length-grown}
use Rattle.hwp_core.proofs.VacateLaws.{refs-are, refs-gone}
use Rattle.hwp_claim_act.specs.declared.abandon.Abandon.{Abandon}
use Rattle.hwp_claim_act.specs.declared.abandon.AbandonAt.{AbandonAt}
use Rattle.hwp_claim_act.specs.declared.abandon.AbandonAt.TheVariants as at
use Rattle.hwp_claim_act.specs.declared.abandon.Losses.{Losses}
use Rattle.hwp_claim_act.specs.Abandons.{after_owner, has_told, kill_at, kill_from, owner_gone, snapshot}
use Rattle.hwp_claim_act.specs.Abandoned.{Carries, CanLoseOne, Failure, Fits, FitsAt, HasFailed, HaveEnded, IsAhead, IsListed, IsListedIf, IsLostFile, IsNumbered, IsPast, IsUnlisted, entry_of, hand_at, what_of}
use Rattle.hwp_claim_act.proofs.FailureEntry.{of-page}
use Rattle.hwp_claim_act.proofs.AbandonAsks.{body-page, in-hand, list-is, loss-owed, losses-new, small-frame}

-- a body whose entries are all listed
extends-self : (layout : Layout) (who : Who) (sights : List Sight) (taken : InHand) (log : Log) → taken.log ≡ log → Extends layout who sights taken log
extends-self layout who sights taken log is = subst (λ (l : Log). Extends layout who sights taken l) is (record {
  page_is = refl;
  longer = sym (ap (λ (l : List Entry). taken.log.entries ++ l) none ∙ append-nil taken.log.entries);
  leads = subst (λ (l : List Entry). Leads layout taken.log.page (state_of layout taken.log) l (state_of layout taken.log)) (sym none) refl;
  own = λ i e there. absurd (none-some e (sym (ap (λ (l : List Entry). slice_get l i) none) ∙ there));
  seen = λ i e there. absurd (none-some e (sym (ap (λ (l : List Entry). slice_get l i) none) ∙ there));
})
  where
    none : more_of taken taken.log ≡ []
    none = drop_all (length taken.log.entries) taken.log.entries (omega arith)

none-below : {A : Type 0} (l : List A) (n : ℕ) → slice_get l n ≡ None → n < length l → ⊥
none-below [] n is less = omega (arith, less)
none-below (x ∷ xs) zero is less = none-some x (sym is)
none-below (x ∷ xs) (suc n) is less = none-below xs n is (omega (arith, less))

pub spare-kept : (old new : View) → new.made ≡ old.made → new.marks ≡ old.marks → CanLoseOne old → CanLoseOne new
spare-kept old new same-made same-marks spare =
    subst (λ (l : List Made). sum_by (λ (m : Made). from_bool (is_loss m.entry.what)) l < sum_by (λ (m : Mark). from_bool (is_poisoning m.kind)) new.marks) (sym same-made)
    (subst (λ (l : List Mark). sum_by (λ (m : Made). from_bool (is_loss m.entry.what)) old.made < sum_by (λ (m : Mark). from_bool (is_poisoning m.kind)) l) (sym same-marks) spare)

-- whether the entry is listed
pub told-by-loss : (losses : Losses) (ended : ℕ) (file : FileNo) → losses.file ≡ Some file → has_told losses ended ≡ true
told-by-loss losses ended file is = ap (λ (o : Option FileNo). is_some o || not (ended == 0)) is

pub told-by-end : (losses : Losses) (ended : ℕ) → 0 < ended → has_told losses ended ≡ true
told-by-end losses ended some = ap (λ (b : Bool). is_some losses.file || not b) (ne_eqb ended 0 (λ e. omega (arith, e, some))) ∙ which (is_some losses.file)
  where
    which : (b : Bool) → (b || true) ≡ true
    which true = refl
    which false = refl

untold-file : (losses : Losses) (ended : ℕ) → has_told losses ended ≡ false → losses.file ≡ None
untold-file losses ended is = which losses.file refl is
  where
    which : (o : Option FileNo) → losses.file ≡ o → (is_some o || not (ended == 0)) ≡ false → losses.file ≡ None
    which None e other = e
    which (Some file) e other = absurd (both_ways true other refl)

still-listed : (a : Abandon) (old new : View) (log : Log) (f : Failure) (body : BodyValue) (taken : InHand) (b : Bool) → deeds a.who new ≡ deeds a.who old → IsListedIf b old a.who a.page log f body taken → IsListedIf b new a.who a.page log f body taken
still-listed a old new log f body taken true same has = record { more = has.more; made = has-made-stays a.who old new same has.made }
still-listed a old new log f body taken false same has = has

listed-so : {view : View} (a : Abandon) {log : Log} {f : Failure} {body : BodyValue} {taken : InHand} {b : Bool} → b ≡ true → IsListed view a.who a.page log f body taken → IsListedIf b view a.who a.page log f body taken
listed-so {view} a {log} {f} {body} {taken} is has = subst (λ (c : Bool). IsListedIf c view a.who a.page log f body taken) (sym is) has

module _ {layout : Layout} {old new : View} (a : Abandon) where
  -- nothing of the body changes
  abbrev carry-on : {killed : ℕ} {trans : List ℕ} {taken : InHand} → Carries layout old a killed trans taken → Grown old.sights new.sights → new.owed.losses ≡ old.owed.losses → Carries layout new a killed trans taken
  carry-on has more owed = record {
    log = has.log;
    f = has.f;
    body = has.body;
    given_is = has.given_is;
    entry = has.entry;
    in_hand = record {
      own = has.in_hand.own;
      since = has.in_hand.since;
      place = has.in_hand.place;
      killed_are = has.in_hand.killed_are;
      few = length-grown more has.in_hand.few;
      extends = extends-grown more has.in_hand.few has.in_hand.extends;
    };
    fits = has.fits;
    unmapped = has.unmapped;
    paid = owed ∙ has.paid;
  }

  -- a step that changes neither body nor entries
  past-kept : {x y : AbandonAt} {killed : ℕ} (has : IsPast layout old a x killed) → hand_of new ≡ hand_at a.page a.frame a.count y has.trans has.taken → new.sights ≡ old.sights → new.owed.losses ≡ old.owed.losses → deeds a.who new ≡ deeds a.who old → IsPast layout new a y killed
  past-kept {x} {y} {killed} has hand sights owed same = record {
    trans = has.trans;
    taken = has.taken;
    hand_is = hand;
    carries = carry-on has.carries (inl sights) owed;
    listing = still-listed a old new has.carries.log has.carries.f has.carries.body has.taken (has_told a.losses killed) same has.listing;
  }

module _ {layout : Layout} {new : View} (a : Abandon) where
  -- the next process, or none
  pub past-on : (n : ℕ) → n ≤ length a.losses.endings → IsPast layout new a at.PutRef n → FitsAt layout new a (kill_at a.losses.endings n)
  past-on n few has = which (slice_get a.losses.endings n) refl
    where
      which : (o : Option Signal) → slice_get a.losses.endings n ≡ o → FitsAt layout new a (kill_from n o)
      which (Some s) is = (record { trans = has.trans; taken = has.taken; hand_is = has.hand_is; carries = has.carries; listing = has.listing }, (s, is, refl))
      which None is = record {
        trans = has.trans;
        taken = has.taken;
        hand_is = has.hand_is;
        carries = all;
        listing = subst (λ (k : ℕ). IsListedIf (has_told a.losses k) new a.who a.page has.carries.log has.carries.f has.carries.body has.taken) (last (cases_lt n (length a.losses.endings))) has.listing;
      }
        where
          last : (n < length a.losses.endings) ⊎ (length a.losses.endings ≤ n) → n ≡ length a.losses.endings
          last (inl less) = absurd (none-below a.losses.endings n is less)
          last (inr past) = omega (arith, past, few)

          all : Carries layout new a (length a.losses.endings) has.trans has.taken
          all = record {
            log = has.carries.log;
            f = has.carries.f;
            body = has.carries.body;
            given_is = has.carries.given_is;
            entry = has.carries.entry;
            in_hand = record {
              own = has.carries.in_hand.own;
              since = has.carries.in_hand.since;
              place = has.carries.in_hand.place;
              killed_are = λ i s less there. has.carries.in_hand.killed_are i s (below i s there) there;
              few = has.carries.in_hand.few;
              extends = has.carries.in_hand.extends;
            };
            fits = has.carries.fits;
            unmapped = has.carries.unmapped;
            paid = has.carries.paid;
          }
            where
              below : (i : ℕ) (s : Signal) → slice_get a.losses.endings i ≡ Some s → i < n
              below i s there = elim (cases_lt i n) [
                | inl less ↦ less
                | inr past ↦
                    let inside = slice_get_within a.losses.endings i s there in
                    absurd (none-below a.losses.endings n is (omega (arith, inside, past)))
              ]

module _ {layout : Layout} {new : View} (a : Abandon) where
  -- what follows: the loss is counted, or there is none
  pub after-owner-fits : IsAhead layout new a at.PutRef → FitsAt layout new a (after_owner a.losses)
  after-owner-fits has = which a.losses.file refl
    where
      which : (o : Option FileNo) → a.losses.file ≡ o → FitsAt layout new a (owner_gone o a.losses.endings)
      which (Some file) is = (record { trans = has.trans; taken = has.taken; hand_is = has.hand_is; carries = has.carries; unlisted = has.unlisted; spare = has.spare }, is)
      which None is = past-on a 0 (omega arith) (record {
        trans = has.trans;
        taken = has.taken;
        hand_is = has.hand_is;
        carries = has.carries;
        listing = subst (λ (b : Bool). IsListedIf b new a.who a.page has.carries.log has.carries.f has.carries.body has.taken) (sym (ap (λ (o : Option FileNo). is_some o || not (0 == 0)) is)) has.unlisted;
      })

abbrev held-now : Abandon → ℕ → List ℕ → InHand → List Ref → Bool → Hand
held-now a found trans taken refs last = record (with_frame a.frame 0 false true 0 (page_held a.page None trans taken)) { refs = refs; hands = cond last ([] ++ hand_found a.frame found ∷ []) [] }

-- what is held when the cache word is written, with these references
abbrev uncached : Page → Frame → List ℕ → InHand → List Ref → Bool → Hand
uncached page frame trans taken refs same = record (with_frame frame (page.0 + 1) false true 0 (page_held page None trans taken)) {
  refs = refs;
  pages = cond same (page_lock page None (Some trans)) (page_lock page (Some frame) (Some trans)) ∷ [];
}

module _ {layout : Layout} {old new : View} (a : Abandon) {found : ℕ} {got : Option BodyValue} (fits : Fits layout old a) where
  pub cache-cleared : Steps layout a.who (steps.SetCache a.page None) None old new found got → IsAhead layout old a at.SetCache → IsAhead layout new a at.SetOwner
  cache-cleared made has = record {
    trans = has.trans;
    taken = has.taken;
    hand_is = hand-planned made refl has.hand_is
        ∙ ap (λ (n : Option Frame). uncached a.page a.frame has.trans has.taken (with_named n (record { frame = a.frame; count = a.count - 1 } ∷ [])) (a.page.0 == a.page.0)) named-frame
        ∙ ap (λ (b : Bool). uncached a.page a.frame has.trans has.taken (cond b (record { frame = a.frame; count = a.count - 1 + 1 } ∷ []) (record { frame = a.frame; count = a.count - 1 } ∷ record { frame = a.frame; count = 1 } ∷ [])) (a.page.0 == a.page.0)) (same-number a.frame.0 a.frame.0 refl)
        ∙ ap (λ (b : Bool). uncached a.page a.frame has.trans has.taken (record { frame = a.frame; count = a.count - 1 + 1 } ∷ []) b) (same-number a.page.0 a.page.0 refl)
        ∙ ap (λ (n : ℕ). uncached a.page a.frame has.trans has.taken (record { frame = a.frame; count = n } ∷ []) true) count;
    carries = carry-on a has.carries (inl (ap (λ (x : View). x.sights) made.told.next)) (ap (λ (x : View). x.owed.losses) made.told.next);
    unlisted = has.unlisted;
    spare = spare-kept old new (ap (λ (x : View). x.made) made.told.next) (ap (λ (x : View). x.marks) made.told.next) has.spare;
  }
    where
      count : a.count - 1 + 1 ≡ a.count
      count = let some : _ = fits.some in omega (arith, some)

      word : found ≡ a.frame.0 + 1
      word = same_Some found (a.frame.0 + 1) (sym (cache-word layout made.told.board made.told.rule a.page found fits.page made.told.met)
          ∙ (lock-knows layout made.told.board made.told.rule made.told.seat old made.told.me (page_lock a.page (Some a.frame) (Some has.trans)) (ap (λ (h : Hand). slice_get h.pages 0) has.hand_is)).cache (a.frame.0 + 1) refl)

      named-frame : frame_in found ≡ Some a.frame
      named-frame = ap frame_in word ∙ frame-named a.frame (small-frame a fits)

  pub owner-cleared : Steps layout a.who (steps.SetOwner a.frame a.page false) None old new found got → IsAhead layout old a at.SetOwner → IsAhead layout new a at.PutRef
  owner-cleared made has = record {
    trans = has.trans;
    taken = has.taken;
    hand_is = hand-planned made refl has.hand_is
        ∙ ap (λ (b : Bool). record (with_frame a.frame 0 false true a.count (page_held a.page None has.trans has.taken)) { locks = cond b (record { frame = a.frame; owner = 0; handled = false; poisoned = true }) (record { frame = a.frame; owner = a.page.0 + 1; handled = false; poisoned = true }) ∷ [] }) (same-number a.frame.0 a.frame.0 refl);
    carries = carry-on a has.carries (inl (ap (λ (x : View). x.sights) made.told.next)) (ap (λ (x : View). x.owed.losses) made.told.next);
    unlisted = has.unlisted;
    spare = spare-kept old new (ap (λ (x : View). x.made) made.told.next) (ap (λ (x : View). x.marks) made.told.next) has.spare;
  }

  -- the last reference but one goes back
  pub refs-put : {killed : ℕ} → Steps layout a.who (steps.PutRef a.frame (a.count - 1)) None old new found got → IsPast layout old a at.PutRef killed → IsPast layout new a at.Retire killed
  refs-put made has = past-kept a has hand (ap (λ (x : View). x.sights) made.told.next) (ap (λ (x : View). x.owed.losses) made.told.next) (deeds-same a.who tt made)
    where
      all : List (List Ref)
      all = map (λ (v : View). v.refs) made.told.board.views

      mine : a.count ≤ sum_by (refs_on a.frame.0) all
      mine =
          let one : refs_on a.frame.0 old.refs ≤ sum_by (refs_on a.frame.0) all = term-le (refs_on a.frame.0) all made.told.seat old.refs (at_map (λ (v : View). v.refs) made.told.board.views made.told.seat old made.told.me) in
          let own : refs_on a.frame.0 old.refs ≡ a.count = ap (λ (h : Hand). refs_on a.frame.0 h.refs) has.hand_is ∙ refs-are a.frame a.count in
          omega (arith, one, own)

      counted : a.count ≤ count_of found
      counted =
          let balance : count_of found ≡ named a.frame.0 (words_of layout made.told.board.words).trans + named a.frame.0 (words_of layout made.told.board.words).caches + sum_by (refs_on a.frame.0) all + handled_of found =
          made.told.rule.rule.frames.counts.balance a.frame.0 found (frame-word layout made.told.board made.told.rule a.frame found fits.frame made.told.met) in
          let m = mine in
          omega (arith, balance, m)

      not-last : is_last (a.count - 1) found ≡ false
      not-last = ne_eqb (count_of found) (a.count - 1) (λ e. let c = counted in let some : _ = fits.some in omega (arith, e, c, some))

      left : less_refs a.frame (a.count - 1) (record { frame = a.frame; count = a.count } ∷ []) ≡ one_ref a.frame
      left = ap (λ (b : Bool). cond b (cond (nat_le a.count (a.count - 1)) (less_refs a.frame (a.count - 1 - a.count) []) (record { frame = a.frame; count = a.count - (a.count - 1) } ∷ [])) (record { frame = a.frame; count = a.count } ∷ less_refs a.frame (a.count - 1) [])) (same-number a.frame.0 a.frame.0 refl)
          ∙ ap (λ (b : Bool). cond b (less_refs a.frame (a.count - 1 - a.count) []) (record { frame = a.frame; count = a.count - (a.count - 1) } ∷ [])) below
          ∙ ap (λ (n : ℕ). record { frame = a.frame; count = n } ∷ []) (let some : _ = fits.some in omega (arith, some))
        where
          below : nat_le a.count (a.count - 1) ≡ false
          below = lt-leb a.count (a.count - 1) (let some : _ = fits.some in omega (arith, some))

      hand : hand_of new ≡ hand_at a.page a.frame a.count at.Retire has.trans has.taken
      hand = hand-planned made refl has.hand_is
          ∙ ap (λ (b : Bool). held-now a found has.trans has.taken (less_refs a.frame (a.count - 1) (record { frame = a.frame; count = a.count } ∷ [])) b) not-last
          ∙ ap (λ (refs : List Ref). held-now a found has.trans has.taken refs false) left

  pub retired : {killed : ℕ} → Steps layout a.who (steps.Retire a.frame) None old new found got → IsPast layout old a at.Retire killed → IsPast layout new a at.UnlockPage killed
  retired made has = past-kept a has hand (ap (λ (x : View). x.sights) made.told.next) (ap (λ (x : View). x.owed.losses) made.told.next) (deeds-same a.who tt made)
    where
      hand : hand_of new ≡ hand_at a.page a.frame a.count at.UnlockPage has.trans has.taken
      hand = hand-planned made refl has.hand_is
          ∙ ap (λ (b : Bool). record (page_held a.page None has.trans has.taken) { locks = cond b [] (record { frame = a.frame; owner = 0; handled = false; poisoned = true } ∷ []); refs = less_refs a.frame 1 (one_ref a.frame) }) (same-number a.frame.0 a.frame.0 refl)
          ∙ ap (λ (refs : List Ref). record (page_held a.page None has.trans has.taken) { refs = refs }) (refs-gone a.frame 1)

page-freed : (page : Page) (trans : List ℕ) (taken : InHand) (log : Log) → log.page ≡ page → taken.log.page ≡ page
    → record (putting (Some log) (page_held page None trans taken)) { pages = without (is_page_lock_of page) (page_held page None trans taken).pages } ≡ empty
page-freed page trans taken log of_log of_taken = grind arith

-- ---- steps that list the entry

-- the body in hand once the entry is listed, and these processes have ended too
abbrev listed-body : InHand → BodyValue → List Proc → InHand
listed-body taken body more = record taken { log = log_of body; killed = taken.killed ++ more }

-- what a page's body in hand is when the entry is listed
abbrev carried : Hand → InHand → Hand
carried h taken = record h { bodies = taken ∷ [] }

list-hand : (h : Hand) (taken : InHand) (log : Log) → h.bodies ≡ taken ∷ [] → taken.log.page ≡ log.page → listing log h ≡ record h { bodies = record taken { log = log } ∷ [] }
list-hand h taken log bodies own =
    ap (λ (l : List InHand). listing log (record h { bodies = l })) bodies
    ∙ ap (λ (b : Bool). listing_of log (cond b (Some taken) None) (record h { bodies = taken ∷ [] })) same
    ∙ ap (λ (b : Bool). record h { bodies = cond b (record taken { log = log }) taken ∷ [] }) same
  where
    same : (taken.log.page.0 == log.page.0) ≡ true
    same = same-number taken.log.page.0 log.page.0 (ap (λ (p : Page). p.0) own)

kill-hand : (h : Hand) (taken : InHand) (process : Proc) (page : Page) → h.bodies ≡ taken ∷ [] → taken.log.page ≡ page → killing process page h ≡ record h { bodies = record taken { killed = taken.killed ++ process ∷ [] } ∷ [] }
kill-hand h taken process page bodies own =
    ap (λ (l : List InHand). killing process page (record h { bodies = l })) bodies
    ∙ ap (λ (b : Bool). record h { bodies = cond b (record taken { killed = taken.killed ++ process ∷ [] }) taken ∷ [] }) (same-number taken.log.page.0 page.0 (ap (λ (p : Page). p.0) own))

-- what is owed, where no loss is made
none-lost : (o : Option FileNo) → loss_made o false ++ [] ≡ []
none-lost None = refl
none-lost (Some file) = refl

module _ {layout : Layout} {old : View} (a : Abandon) {killed : ℕ} {trans : List ℕ} {taken : InHand} (has : Carries layout old a killed trans taken) (bodies : old.bodies ≡ taken ∷ []) where
  abbrev before : View
  before = noted a.who old

  -- the same of the view that notes the command
  abbrev noted-carries : Carries layout before a killed trans taken
  noted-carries = record {
    log = has.log;
    f = has.f;
    body = has.body;
    given_is = has.given_is;
    entry = has.entry;
    in_hand = record { own = has.in_hand.own; since = has.in_hand.since; place = has.in_hand.place; killed_are = has.in_hand.killed_are; few = has.in_hand.few; extends = has.in_hand.extends };
    fits = has.fits;
    unmapped = has.unmapped;
    paid = has.paid;
  }

  -- where the entry isn't listed yet, it is no loss
  owes-none : (b : Bool) → has_told a.losses killed ≡ b → IsListedIf b old a.who a.page has.log has.f has.body taken → (listed layout a.who (log_of has.body) before).owed.losses ≡ []
  owes-none false is new = losses-new a noted-carries bodies new ∙ ap (λ (b : Bool). loss_made (file_of layout has.body.page) b ++ []) unlost ∙ none-lost (file_of layout has.body.page)
    where
      unlost : is_loss (what_of has.f) ≡ false
      unlost = subst (IsLostFile layout a.page has.f) (untold-file a.losses killed is) has.entry.file_is
  owes-none true is done = ap (λ (v : View). v.owed.losses) (list-is a noted-carries bodies)
      ∙ ap (λ (l : List FileNo). l ++ losses_made layout has.body.page (more_of taken (log_of has.body))) has.paid
      ∙ ap (λ (l : List Entry). losses_made layout has.body.page l) done.more

  pub there : body_of (log_of has.body).page old ≡ Some taken
  there = in-hand a has bodies

  module _ {new : View} where
    -- the entry is listed, the last of the command
    made-one : {stamp : Stamp} → IsUnlisted a.who has.log has.f has.body taken → Lists old new stamp taken (log_of has.body) → HasMade (λ (m : Made). Unit {0}) new a.who a.page (length has.log.entries) (what_of has.f)
    made-one unlisted lists =
        let one = deeds-one a.who lists (entry_of a.who has.f) unlisted.more refl in
        subst (λ (p : Page). HasMade (λ (m : Made). Unit {0}) new a.who p (length has.log.entries) (what_of has.f)) (body-page a has)
        (subst (λ (n : ℕ). HasMade (λ (m : Made). Unit {0}) new a.who has.body.page n (what_of has.f)) unlisted.length_is
        (has-made a.who old new one.0 one.1 one.2 (λ i m at. tt)))

    made-still : {stamp : Stamp} → IsListed old a.who a.page has.log has.f has.body taken → Lists old new stamp taken (log_of has.body) → HasMade (λ (m : Made). Unit {0}) new a.who a.page (length has.log.entries) (what_of has.f)
    made-still done lists = has-made-stays a.who old new (deeds-none a.who lists done.more) done.made

    made-all : {stamp : Stamp} (b : Bool) → IsListedIf b old a.who a.page has.log has.f has.body taken → Lists old new stamp taken (log_of has.body) → HasMade (λ (m : Made). Unit {0}) new a.who a.page (length has.log.entries) (what_of has.f)
    made-all false unlisted lists = made-one unlisted lists
    made-all true done lists = made-still done lists

    -- the body in hand then
    abbrev carries-listed : (more : List Proc) (n : ℕ) → Grown old.sights new.sights → new.owed.losses ≡ [] → HaveEnded a.losses.endings n (listed-body taken has.body more) → Carries layout new a n trans (listed-body taken has.body more)
    carries-listed more n grown paid ended = record {
      log = has.log;
      f = has.f;
      body = has.body;
      given_is = has.given_is;
      entry = has.entry;
      in_hand = record {
        own = body-page a has;
        since = has.in_hand.since;
        place = has.in_hand.place;
        killed_are = ended;
        few = length-grown grown has.in_hand.few;
        extends = extends-self layout a.who new.sights (listed-body taken has.body more) (log_of has.body) refl;
      };
      fits = has.fits;
      unmapped = has.unmapped;
      paid = paid;
    }

    is-listed : (more : List Proc) → HasMade (λ (m : Made). Unit {0}) new a.who a.page (length has.log.entries) (what_of has.f) → IsListed new a.who a.page has.log has.f has.body (listed-body taken has.body more)
    is-listed more made = record { more = drop_all (length has.body.log) has.body.log (omega arith); made = made }

module _ {layout : Layout} {old new : View} (a : Abandon) {found : ℕ} {got : Option BodyValue} (fits : Fits layout old a) where
  -- the loss is counted
  pub loss-counted : (file : FileNo) → a.losses.file ≡ Some file → (has : IsAhead layout old a (at.Lose file)) → Steps layout a.who (steps.Lose file (snapshot has.carries.body)) None old new found got → IsPast layout new a at.PutRef 0
  loss-counted file its has made = record {
    trans = has.trans;
    taken = listed-body has.taken has.carries.body [];
    hand_is = hand-planned made refl has.hand_is ∙ list-hand (hand_at a.page a.frame a.count at.PutRef has.trans has.taken) has.taken (log_of has.carries.body) refl (has.carries.in_hand.own ∙ sym (body-page a has.carries))
        ∙ ap (λ (l : List Proc). record (hand_at a.page a.frame a.count at.PutRef has.trans has.taken) { bodies = record has.taken { log = log_of has.carries.body; killed = l } ∷ [] }) (sym (append-nil has.taken.killed));
    carries = carries-listed a has.carries bodies [] 0 (inl (ap (λ (v : View). v.sights) made.told.next ∙ ap (λ (v : View). v.sights) (list-is a (noted-carries a has.carries bodies) bodies))) paid (λ i s less at. absurd (omega (arith, less)));
    listing = listed-so a (told-by-loss a.losses 0 file its) (is-listed a has.carries bodies [] (made-one a has.carries bodies has.unlisted (loss-lists (there a has.carries bodies) made)));
  }
    where
      bodies : old.bodies ≡ has.taken ∷ []
      bodies = ap (λ (h : Hand). h.bodies) has.hand_is

      lost : (file_of layout a.page ≡ Some file) × (is_loss (what_of has.carries.f) ≡ true)
      lost = subst (IsLostFile layout a.page has.carries.f) its has.carries.entry.file_is

      paid : new.owed.losses ≡ []
      paid = ap (λ (v : View). v.owed.losses) made.told.next
          ∙ ap (λ (l : List FileNo). without (λ (n : FileNo). n.0 == file.0) l) (loss-owed a (noted-carries a has.carries bodies) bodies has.unlisted file lost.0 lost.1)
          ∙ ap (λ (b : Bool). cond b [] (file ∷ [])) (same-number file.0 file.0 refl)

  -- a process ends
  pub process-ended : (number : ℕ) (process : Proc) → (has : IsPast layout old a (at.Kill number process) number) → IsNumbered a.losses number process → Steps layout a.who (steps.Kill process a.page (snapshot has.carries.body)) None old new found got → IsPast layout new a at.PutRef (number + 1)
  process-ended number process has its made = record {
    trans = has.trans;
    taken = listed-body has.taken has.carries.body (process ∷ []);
    hand_is = hand-planned made refl has.hand_is
        ∙ ap (killing process a.page) (list-hand (hand_at a.page a.frame a.count at.PutRef has.trans has.taken) has.taken (log_of has.carries.body) refl (has.carries.in_hand.own ∙ sym (body-page a has.carries)))
        ∙ kill-hand (carried (hand_at a.page a.frame a.count at.PutRef has.trans has.taken) (record has.taken { log = log_of has.carries.body })) (record has.taken { log = log_of has.carries.body }) process a.page refl (body-page a has.carries);
    carries = carries-listed a has.carries bodies (process ∷ []) (number + 1) grown paid ended;
    listing = listed-so a (told-by-end a.losses (number + 1) (omega arith)) (is-listed a has.carries bodies (process ∷ []) (made-all a has.carries bodies (has_told a.losses number) has.listing (kill-lists (there a has.carries bodies) made)));
  }
    where
      bodies : old.bodies ≡ has.taken ∷ []
      bodies = ap (λ (h : Hand). h.bodies) has.hand_is

      same-sights : (listed layout a.who (log_of has.carries.body) (noted a.who old)).sights ≡ old.sights
      same-sights = ap (λ (v : View). v.sights) (list-is a (noted-carries a has.carries bodies) bodies)

      late : Sight
      late = record { stamp = stamp_of a.who (killed_by process a.page (listed layout a.who (log_of has.carries.body) (noted a.who old))); place = places.Process process; word = found }

      -- a process that had ended before shows its word
      grown : Grown old.sights new.sights
      grown = which (found == 0) (ap (λ (v : View). v.sights) made.told.next)
        where
          which : (b : Bool) → new.sights ≡ (cond b (killed_by process a.page (listed layout a.who (log_of has.carries.body) (noted a.who old))) (sighted a.who (places.Process process) found (killed_by process a.page (listed layout a.who (log_of has.carries.body) (noted a.who old))))).sights → Grown old.sights new.sights
          which true is = inl (is ∙ same-sights)
          which false is = inr (late, is ∙ ap (λ (l : List Sight). l ++ late ∷ []) same-sights)

      paid : new.owed.losses ≡ []
      paid = which (found == 0) (ap (λ (v : View). v.owed.losses) made.told.next)
        where
          which : (b : Bool) → new.owed.losses ≡ (cond b (killed_by process a.page (listed layout a.who (log_of has.carries.body) (noted a.who old))) (sighted a.who (places.Process process) found (killed_by process a.page (listed layout a.who (log_of has.carries.body) (noted a.who old))))).owed.losses → new.owed.losses ≡ []
          which true is = is ∙ owes-none a has.carries bodies (has_told a.losses number) refl has.listing
          which false is = is ∙ owes-none a has.carries bodies (has_told a.losses number) refl has.listing

      ended : HaveEnded a.losses.endings (number + 1) (listed-body has.taken has.carries.body (process ∷ []))
      ended i s less at = elim (cases_lt i number) [
        | inl earlier ↦ some-push (λ (p : Proc). p ≡ s.process) has.taken.killed process (has.carries.in_hand.killed_are i s earlier at)
        | inr here ↦
            let same : i ≡ number = omega (arith, less, here) in
            let one : its.0 ≡ s = same_Some its.0 s (sym its.1 ∙ ap (slice_get a.losses.endings) (sym same) ∙ at) in
            some-last (λ (p : Proc). p ≡ s.process) has.taken.killed process (sym its.2 ∙ ap (λ (x : Signal). x.process) one)
      ]

  -- the page is let go
  pub page-gone : (has : IsPast layout old a at.UnlockPage (length a.losses.endings)) → Steps layout a.who (steps.UnlockPage a.page) (logs a.body) old new found got → (hand_of new ≡ empty) × (new.owed.losses ≡ []) × HasFailed new a.who a.failed
  page-gone has made = (
    hand-planned made refl has.hand_is
        ∙ ap (λ (b : Option BodyValue). record (putting (logs b) (page_held a.page None has.trans has.taken)) { pages = without (is_page_lock_of a.page) (page_held a.page None has.trans has.taken).pages }) has.carries.given_is
        ∙ page-freed a.page has.trans has.taken (log_of has.carries.body) (body-page a has.carries) has.carries.in_hand.own,
    ap (λ (v : View). v.owed.losses) own.told.next ∙ owes-none a has.carries bodies (has_told a.losses (length a.losses.endings)) refl has.listing,
    subst (HasFailed new a.who) (sym has.carries.entry.failed_is) (record {
      seen = has.carries.f.seen;
      signals = has.carries.f.signals;
      made = made-all a has.carries bodies (has_told a.losses (length a.losses.endings)) has.listing (page-lists (there a has.carries bodies) own);
      signalled = refl;
      paged = of-page (state_of layout has.carries.log) has.carries.f.situation has.carries.entry.allowed.actual;
    }),
  )
    where
      bodies : old.bodies ≡ has.taken ∷ []
      bodies = ap (λ (h : Hand). h.bodies) has.hand_is

      own : Steps layout a.who (steps.UnlockPage a.page) (Some (log_of has.carries.body)) old new found got
      own = subst (λ (b : Option BodyValue). Steps layout a.who (steps.UnlockPage a.page) (logs b) old new found got) has.carries.given_is made
