-- The cost of a fault falls.
use Rattle.std.proofs.Common.{◌≡◌, ◌⊎◌, inl, inr, ℕ, ◌+◌, ◌/◌, ◌^◌, ◌<◌, ◌≤◌, ◌==◌, Bool, true, false, not, cond, List, Option, Some, None, is_none, is_some, length, set, slice_get, slice_index, refl, sym, ap, ◌∙◌, subst, arith}
use Rattle.std.proofs.lemmas.Bool.{both_ways}
use Rattle.std.proofs.lemmas.Option.{none-some, same_Some, slice_get_within, slice_get-get_or, get_or_from_slice_get}
use Rattle.hwp_page.specs.hwp_geom.declared.Frame.{Frame}
use Rattle.hwp_page.specs.hwp_geom.declared.Layout.{Layout}
use Rattle.hwp_page.specs.hwp_geom.declared.Page.{Page}
use Rattle.hwp_page.specs.hwp_geom.declared.VSlot.{VSlot}
use Rattle.hwp_page.specs.hwp_geom.declared.Who.{Who}
use Rattle.hwp_page.specs.hwp_geom.Limits.{frame_limit}
use Rattle.hwp_page.specs.Endings.{ends}
use Rattle.hwp_page.specs.History.{BodyValue}
use Rattle.hwp_page.specs.Step.{IsOf}
use Rattle.hwp_core.specs.hwp_words.declared.Pte.{Pte}
use Rattle.hwp_core.specs.hwp_words.declared.Pte.TheVariants as ptes
use Rattle.hwp_core.specs.hwp_words.Translations.{pte_reading, pte_word}
use Rattle.hwp_core.specs.hwp_core_rule.declared.SharedWord.{SharedWord}
use Rattle.hwp_core.specs.hwp_core_rule.declared.SharedWord.TheVariants as places
use Rattle.hwp_core.specs.hwp_core_rule.declared.State.{State}
use Rattle.hwp_core.specs.hwp_core_rule.declared.Step.{Step}
use Rattle.hwp_core.specs.hwp_core_rule.declared.Step.TheVariants as steps
use Rattle.hwp_core.specs.hwp_core_rule.Moves.{Move}
use Rattle.hwp_core.specs.hwp_core_rule.Rule.{Holds}
use Rattle.hwp_core.specs.hwp_core_rule.Lasting.{IsMild}
use Rattle.hwp_core.specs.hwp_core_rule.Steps.{place_of, word_after}
use Rattle.hwp_core.specs.hwp_core_rule.Views.{frame_in}
use Rattle.hwp_core.specs.hwp_core_rule.Words.{Words, free_bit, free_words, index, put as put_word}
use Rattle.hwp_core.proofs.of_hwp_core_rule.Lists.{set_here}
use Rattle.hwp_core.proofs.of_hwp_core_rule.MetWords.{frame-named}
use Rattle.hwp_core.proofs.of_hwp_core_rule.MoveKeeps.{shaped}
use Rattle.hwp_core.specs.hwp_core_rule.declared.Turn.{Turn}
use Rattle.hwp_core.specs.hwp_core_rule.Boards.{view_of}
use Rattle.hwp_core.specs.hwp_core_rule.Calls.{logs, rec_of}
use Rattle.hwp_core.specs.hwp_core_rule.Ranks.{CostFalls, HasFailed, IsRanked, Made, Quiet, access_most, again_most, failures_left, free_room, is_waits, stale, stale_weight, take_most, words_at}
use Rattle.hwp_core.specs.hwp_core_rule.Turns.{Member}
use Rattle.hwp_core.proofs.of_hwp_core_rule.tasks.StepRanks.{me, met, words-after, words-kept, failed, rank-failing}
use Rattle.hwp_evict.specs.declared.Fill.{Fill}
use Rattle.hwp_evict.specs.declared.fill.FillAt.{FillAt}
use Rattle.hwp_evict.specs.declared.fill.FillAt.TheVariants as fill_at
use Rattle.hwp_core.specs.declared.GiveUp.{GiveUp}
use Rattle.hwp_core.specs.declared.Hold.{Hold}
use Rattle.hwp_core.specs.declared.hold.HoldAt.{HoldAt}
use Rattle.hwp_core.specs.declared.hold.HoldAt.TheVariants as hold_at
use Rattle.hwp_core.specs.declared.refer.ReferAt.{ReferAt}
use Rattle.hwp_core.specs.declared.refer.ReferAt.TheVariants as refer_at
use Rattle.hwp_core.specs.declared.Release.{Release}
use Rattle.hwp_core.specs.declared.release.ReleaseAt.{ReleaseAt}
use Rattle.hwp_core.specs.declared.release.ReleaseAt.TheVariants as release_at
use Rattle.hwp_evict.specs.declared.Take.{Take}
use Rattle.hwp_evict.specs.declared.take.TakeAt.{TakeAt}
use Rattle.hwp_evict.specs.declared.take.TakeAt.TheVariants as take_at
use Rattle.hwp_core.specs.declared.Unhold.{Unhold}
use Rattle.hwp_core.specs.declared.unhold.UnholdAt.{UnholdAt}
use Rattle.hwp_core.specs.declared.unhold.UnholdAt.TheVariants as unhold_at
use Rattle.hwp_evict.specs.Fills as fills
use Rattle.hwp_core.specs.GiveUps as give_ups
use Rattle.hwp_core.specs.Holds as holds
use Rattle.hwp_core.specs.Refers as refers
use Rattle.hwp_core.specs.Releases as releases
use Rattle.hwp_evict.specs.Takes as takes
use Rattle.hwp_core.specs.Unholds as unholds
use Rattle.hwp_core.proofs.GiveUpCosts.{give-up-mild, give-up-ranked, give-up-small}
use Rattle.hwp_core.proofs.ReferCosts.{refer-small}
use Rattle.hwp_evict.proofs.FillCosts.{fill-mild, fill-ranked}
use Rattle.hwp_core.proofs.TaskCosts.{left-own, met-own, hold-mild, hold-ranked, hold-small, stale-most, unhold-mild, unhold-ranked, unhold-small}
use Rattle.hwp_fault.specs.declared.fault.Fault.{Fault}
use Rattle.hwp_fault.specs.declared.fault.FaultAt.{FaultAt}
use Rattle.hwp_fault.specs.declared.fault.FaultAt.TheVariants as at
use Rattle.hwp_fault.specs.declared.fault.FaultAnswer.{FaultAnswer}
use Rattle.hwp_fault.specs.declared.fault.FaultAnswer.TheVariants as answers
use Rattle.hwp_fault.specs.declared.map_in.MapIn.{MapIn}
use Rattle.hwp_fault.specs.declared.map_in.MapInAt.{MapInAt}
use Rattle.hwp_fault.specs.declared.map_in.MapInAt.TheVariants as map_in_at
use Rattle.hwp_fault.specs.declared.touch.Touch.{Touch}
use Rattle.hwp_fault.specs.MapIns as map_ins
use Rattle.hwp_fault.specs.Faults.{plan, plan_at, put, put_at, bare, bare_at, let_go, refuse, with_room, after_hold, after_pte, after_fill, after_map_in, after_unhold, after_give_up, next_at, turn_at, FitsAt, class, class_at, again, owed, rest, cost, cost_at, task as fault-task, owed}
use Rattle.hwp_fault.specs.Touches.{as_snapshot, refused}
use Rattle.hwp_fault.proofs.TranslationLoads.{pte-met, reads-frame, reads-poison}
use Rattle.hwp_fault.proofs.MapInCosts.{map-in-mild, map-in-ranked, map-in-small}
use Rattle.hwp_fault.proofs.MapInLaws.{declared}

-- ---- a part that runs

-- the turn doesn't wait, or the others hold nothing that it can wait for
abbrev Lowers : Turn → ℕ → Layout → State → ℕ → Type 0
Lowers turn class layout a seat = (is_waits turn ≡ false) ⊎ ((is_waits turn ≡ true) × Quiet class layout a seat)

-- the turn lowered the cost, or it didn't wait and left fewer frames to fail
abbrev pub Lowered : Turn → Layout → State → State → ℕ → ℕ → Type 0
Lowered turn layout a b after before = (after < before) ⊎ ((is_waits turn ≡ false) × (failures_left (words_at layout b) < failures_left (words_at layout a)))

part-falls : {S : Type 0} {m : Member S} {layout : Layout} {seat : ℕ} {a b : State} {s t : S} {turn : Turn} → IsRanked m → m.aborts t ≡ false → Made m layout seat a b s t turn → Lowers turn (m.class s) layout a seat
    → Lowered turn layout a b (m.cost t (words_at layout b)) (m.cost s (words_at layout a))
part-falls {m} {layout} {seat} {a} {b} {s} {t} {turn} ranked none made (inl goes) = elim (ranked.falls layout seat a b s t turn made goes) [
  | inl less ↦ inl less
  | inr fails ↦ inr (goes, fails.fewer)
]
part-falls {m} {layout} {seat} {a} {b} {s} {t} {turn} ranked none made (inr waits) = elim (ranked.waits layout seat a b s t turn made waits.0 waits.1) [
  | inl less ↦ inl less
  | inr gives ↦ absurd (both_ways (m.aborts t) none gives.0)
]

-- what a part's fall is for the whole; a failure more is one for both
whole : {P Q R : Type 0} → P ⊎ R → (P → Q) → Q ⊎ R
whole (inl part) so = inl (so part)
whole (inr other) so = inr other

-- ---- the words

-- a place that isn't a translation's
abbrev is_trans : SharedWord → Bool
is_trans (places.Trans slot) = true
is_trans _ = false

trans-kept : (place : SharedWord) (word : ℕ) (w : Words) → is_trans place ≡ false → (put_word place word w).trans ≡ w.trans
trans-kept (places.Frame frame) word w other = refl
trans-kept (places.Trans slot) word w other = absurd (both_ways true other refl)
trans-kept (places.Cache page) word w other = refl
trans-kept (places.Page page) word w other = refl
trans-kept (places.Free number) word w other = refl
trans-kept places.Available word w other = refl
trans-kept (places.Bad frame) word w other = refl
trans-kept (places.Weak frame) word w other = refl
trans-kept places.Counter word w other = refl
trans-kept (places.Process process) word w other = refl
trans-kept (places.Policy thread) word w other = refl
trans-kept (places.Loss file) word w other = refl
trans-kept places.Stop word w other = refl

release-place : (r : Release) (step : Step) → releases.plan r ≡ Some step → is_trans (place_of step) ≡ false
release-place r step is = which r.at is
  where
    which : (x : ReleaseAt) → releases.plan_at r.frame r.count x ≡ Some step → is_trans (place_of step) ≡ false
    which release_at.Put e = ap (λ (s : Step). is_trans (place_of s)) (sym (same_Some _ step e))
    which (release_at.Give word) e = ap (λ (s : Step). is_trans (place_of s)) (sym (same_Some _ step e))
    which (release_at.Unreserve word) e = ap (λ (s : Step). is_trans (place_of s)) (sym (same_Some _ step e))
    which (release_at.Adopt word) e = ap (λ (s : Step). is_trans (place_of s)) (sym (same_Some _ step e))
    which (release_at.Retire word) e = ap (λ (s : Step). is_trans (place_of s)) (sym (same_Some _ step e))
    which (release_at.Back word) e = absurd (none-some step e)

unhold-place : (u : Unhold) (step : Step) → unholds.plan u ≡ Some step → is_trans (place_of step) ≡ false
unhold-place u step is = which u.at is
  where
    which : (x : UnholdAt) → unholds.plan_at u.page x ≡ Some step → is_trans (place_of step) ≡ false
    which (unhold_at.UnlockFrame frame count body) e = ap (λ (s : Step). is_trans (place_of s)) (sym (same_Some _ step e))
    which (unhold_at.Release r) e = release-place r step e
    which (unhold_at.UnlockPage body) e = ap (λ (s : Step). is_trans (place_of s)) (sym (same_Some _ step e))
    which unhold_at.Over e = absurd (none-some step e)

-- a translation that is declared has a word
slot-within : (layout : Layout) (page : Page) (slot : VSlot) → IsOf layout page slot → slot.0 < length layout.trans
slot-within layout page slot of = let decl = declared layout page slot of in slice_get_within layout.trans slot.0 decl.0 decl.1

-- an access that starts over where the word leads to a frame
again-led : (slot : VSlot) (w : Words) (frame : Frame) → frame.0 < 2 ^ 16 → slice_index w.trans slot.0 ≡ frame.0 + 1 → again slot w ≡ length w.frees + 20
again-led slot w frame small is =
    let none : stale (is_some (frame_in (slice_index w.trans slot.0))) ≡ 0 = ap (λ (n : ℕ). stale (is_some (frame_in n))) is ∙ ap (λ (o : Option Frame). stale (is_some o)) (frame-named frame small) in
    omega arith

few-words : (layout : Layout) (a : State) → Holds layout a → (length (words_at layout a).frees ≡ free_words layout) × (length (words_at layout a).frees ≤ free_room)
few-words layout a rule =
    let all : length (words_at layout a).frees ≡ free_words layout = (shaped layout a rule).frees in
    let few : layout.frames ≤ frame_limit = rule.sound.frames in
    (all, omega (arith, all, few))

-- ---- what the states cost

unhold-begins : (who : Who) (page : Page) (frame : Option Frame) (body : BodyValue) (w : Words) → unholds.cost (unholds.begin who page frame 1 body) w ≤ 5
unhold-begins who page None body w = omega arith
unhold-begins who page (Some frame) body w = omega arith

room-cost : (who : Who) (page : Page) (slot : VSlot) (frame : Option Frame) (body : BodyValue) (spare : Option ℕ) (w : Words) → cost_at slot (with_room who page slot frame body spare) w ≤ length w.frees + 13 + owed
room-cost who page slot frame body None w = let few : unholds.cost (unholds.begin who page frame 1 body) w ≤ 5 = unhold-begins who page frame body w in omega (arith, few)
room-cost who page slot None body (Some n) w = omega arith
room-cost who page slot (Some frame) body (Some n) w = omega arith

frame-room-cost : (who : Who) (page : Page) (slot : VSlot) (frame : Frame) (body : BodyValue) (spare : Option ℕ) (w : Words) → cost_at slot (with_room who page slot (Some frame) body spare) w ≤ 3 + owed
frame-room-cost who page slot frame body None w = omega arith
frame-room-cost who page slot frame body (Some n) w = omega arith

-- a refusal is six steps at most
refuse-cost : (layout : Layout) (who : Who) (page : Page) (slot : VSlot) (touch : Touch) (frame : Option Frame) (body : BodyValue) (spare : Option ℕ) (w : Words) → cost_at slot (refuse layout who page slot touch frame body spare) w ≤ 6
refuse-cost layout who page slot touch frame body None w = let few : unholds.cost (unholds.begin who page frame 1 body) w ≤ 5 = unhold-begins who page frame body w in omega (arith, few)
refuse-cost layout who page slot touch frame body (Some n) w = by (ends layout touch.process touch.thread)
  where
    by : (ended : Bool) → cost_at slot (cond ended (at.Kill frame (refused who slot touch (record body { spare = n })) (record { page = page; entry = length body.log })) (let_go who page frame (refused who slot touch (record body { spare = n })) (answers.Sigbus (record { page = page; entry = length body.log })))) w ≤ 6
    by true = omega arith
    by false = let few : unholds.cost (unholds.begin who page frame 1 (refused who slot touch (record body { spare = n }))) w ≤ 5 = unhold-begins who page frame (refused who slot touch (record body { spare = n })) w in omega (arith, few)

empty-cost : (layout : Layout) (who : Who) (page : Page) (slot : VSlot) (touch : Touch) (frame : Option Frame) (body : BodyValue) (spare : Option ℕ) (w : Words) → cost_at slot (after_pte layout who page slot touch frame body ptes.Empty spare) w ≤ length w.frees + 13 + owed
empty-cost layout who page slot touch frame body spare w = by body.state.lost
  where
    by : (lost : Bool) → cost_at slot (cond lost (refuse layout who page slot touch frame body spare) (with_room who page slot frame body spare)) w ≤ length w.frees + 13 + owed
    by true = let few : cost_at slot (refuse layout who page slot touch frame body spare) w ≤ 6 = refuse-cost layout who page slot touch frame body spare w in omega (arith, few)
    by false = room-cost who page slot frame body spare w

hold-cost : (slot : VSlot) (h : Hold) (w : Words) → cost_at slot (after_hold h) w ≡ holds.cost h w + length w.frees + 14 + owed
hold-cost slot h w = which h.at
  where
    which : (x : HoldAt) → cost_at slot (after_hold (record h { at = x })) w ≡ holds.cost (record h { at = x }) w + length w.frees + 14 + owed
    which hold_at.LockPage = refl
    which (hold_at.LoadCache body) = refl
    which (hold_at.Pin p) = refl
    which (hold_at.LockFrame frame) = refl
    which (hold_at.Held frame body) = omega arith

fill-cost : (who : Who) (page : Page) (slot : VSlot) (g : Fill) (spare : Option ℕ) (w : Words) → cost_at slot (after_fill who page slot g spare) w ≤ fills.cost g w + 3 + owed
fill-cost who page slot g spare w = which g.at
  where
    which : (x : FillAt) → cost_at slot (after_fill who page slot (record g { at = x }) spare) w ≤ fills.cost (record g { at = x }) w + 3 + owed
    which (fill_at.Take t) = omega arith
    which (fill_at.SetOwner frame) = omega arith
    which (fill_at.Refer r) = omega arith
    which (fill_at.SetCache frame) = omega arith
    which (fill_at.Over None) = omega arith
    which (fill_at.Over (Some frame)) = let few : cost_at slot (with_room who page slot (Some frame) g.body spare) w ≤ 3 + owed = frame-room-cost who page slot frame g.body spare w in omega (arith, few)

unhold-cost : (slot : VSlot) (u : Unhold) (answer : FaultAnswer) (w : Words) → cost_at slot (after_unhold u answer) w ≤ unholds.cost u w + rest slot answer w
unhold-cost slot u answer w = by (is_none (unholds.plan u))
  where
    by : (over : Bool) → cost_at slot (cond over (at.Over (Some answer)) (at.Unhold u answer)) w ≤ unholds.cost u w + rest slot answer w
    by true = omega arith
    by false = omega arith

give-up-cost : (slot : VSlot) (g : GiveUp) (w : Words) → cost_at slot (after_give_up g) w ≤ give_ups.cost g w
give-up-cost slot g w = by (is_none (give_ups.plan g))
  where
    by : (over : Bool) → cost_at slot (cond over (at.Over None) (at.GiveUp g)) w ≤ give_ups.cost g w
    by true = omega arith
    by false = omega arith

-- ---- each turn

module _ {layout : Layout} {seat : ℕ} {a b : State} {f t : Fault} {turned : Turn} (made : Made fault-task layout seat a b f t turned) where
  abbrev w : Words
  w = words_at layout a

  abbrev now : Words
  now = words_at layout b

  same-number-of : length now.frees ≡ length w.frees
  same-number-of = (few-words layout b made.kept).0 ∙ sym (few-words layout a made.rule).0

  few : length now.frees ≤ free_room
  few = (few-words layout b made.kept).1

  move-by : (put : Option BodyValue) (who : Who) → who ≡ f.who → Move layout seat (rec_of layout f.who made.step (logs put) made.found made.got) a b → Move layout seat (rec_of layout who made.step (logs put) made.found made.got) a b
  move-by put who own move = subst (λ (x : Who). Move layout seat (rec_of layout x made.step (logs put) made.found made.got) a b) (sym own) move

  -- a word that was loaded
  pte-falls : (frame : Option Frame) (body : BodyValue) (spare : Option ℕ) → FitsAt layout (view_of a seat) f.who f.page f.slot f.touch (at.LoadPte frame body) → Some (steps.Load (places.Trans f.slot)) ≡ Some made.step
      → cost_at f.slot (after_pte layout f.who f.page f.slot f.touch frame body (pte_reading made.found) spare) now < length w.frees + 14 + owed
  pte-falls frame body spare has e = elim (pte-met f.slot has.held made.fits.1.slot a made.rule seat (me made) made.found at-met) [
    | inl nowhere ↦ subst (λ (p : Pte). cost_at f.slot (after_pte layout f.who f.page f.slot f.touch frame body p spare) now < length w.frees + 14 + owed) (sym (ap pte_reading nowhere.zero))
        (let less : cost_at f.slot (after_pte layout f.who f.page f.slot f.touch frame body ptes.Empty spare) now ≤ length now.frees + 13 + owed = empty-cost layout f.who f.page f.slot f.touch frame body spare now in omega (arith, less, same-number-of))
    | inr (inl barred) ↦ subst (λ (p : Pte). cost_at f.slot (after_pte layout f.who f.page f.slot f.touch frame body p spare) now < length w.frees + 14 + owed) (sym (ap pte_reading barred.poison ∙ reads-poison))
        (let less : cost_at f.slot (refuse layout f.who f.page f.slot f.touch frame body spare) now ≤ 6 = refuse-cost layout f.who f.page f.slot f.touch frame body spare now in omega (arith, less))
    | inr (inr leads) ↦ subst (λ (p : Pte). cost_at f.slot (after_pte layout f.who f.page f.slot f.touch frame body p spare) now < length w.frees + 14 + owed) (sym (ap pte_reading leads.named ∙ reads-frame leads.frame leads.small))
        (let less : unholds.cost (unholds.begin f.who f.page frame 1 body) now ≤ 5 = unhold-begins f.who f.page frame body now in
        let over : again f.slot now ≡ length now.frees + 20 = again-led f.slot now leads.frame leads.small (stands ∙ leads.named) in
        omega (arith, less, over, same-number-of))
  ]
    where
      at-met : made.found ≡ slice_index a.words (index layout (places.Trans f.slot))
      at-met = made.move.met ∙ ap (λ (s : Step). slice_index a.words (index layout (place_of s))) (sym (same_Some (steps.Load (places.Trans f.slot)) made.step e))

      stands : slice_index now.trans f.slot.0 ≡ made.found
      stands = ap (λ (x : Words). slice_index x.trans f.slot.0) (left-own w now made.found e (words-kept made) refl) ∙ met-own w made.found e (met made)

  -- a translation that came into use
  module _ (m : MapIn) (has : FitsAt layout (view_of a seat) f.who f.page f.slot f.touch (at.MapIn m)) where
    written : Some (steps.SetPte m.slot (ptes.At m.frame)) ≡ Some made.step → slice_index now.trans m.slot.0 ≡ m.frame.0 + 1
    written e = ap (λ (x : Words). slice_index x.trans m.slot.0) after ∙ get_or_from_slice_get (set w.trans m.slot.0 (pte_word (ptes.At m.frame))) m.slot.0 (pte_word (ptes.At m.frame)) 0 here ∙ word
      where
        after : now ≡ put_word (places.Trans m.slot) (pte_word (ptes.At m.frame)) w
        after = words-after made ∙ ap (λ (s : Step). put_word (place_of s) (word_after s made.found) w) (sym (same_Some (steps.SetPte m.slot (ptes.At m.frame)) made.step e))

        within : m.slot.0 < length w.trans
        within = subst (λ (n : ℕ). m.slot.0 < n) (sym (shaped layout a made.rule).trans) (subst (λ (s : VSlot). s.0 < length layout.trans) (sym has.slot_is) (slot-within layout f.page f.slot made.fits.1.slot))

        here : slice_get (set w.trans m.slot.0 (pte_word (ptes.At m.frame))) m.slot.0 ≡ Some (pte_word (ptes.At m.frame))
        here = set_here w.trans m.slot.0 (pte_word (ptes.At m.frame)) (slice_index w.trans m.slot.0) (slice_get-get_or w.trans m.slot.0 0 within)

        word : pte_word (ptes.At m.frame) ≡ m.frame.0 + 1
        word = omega arith

    map-cost : (x : MapInAt) → map_ins.plan_at m.slot m.frame x ≡ Some made.step → map_ins.FitsAt layout (view_of a seat) m.who m.page m.slot m.frame m.body x
        → map_ins.cost (map_ins.next (record m { at = x }) made.found) now < map_ins.cost (record m { at = x }) w
        → cost_at f.slot (after_map_in f.who f.page (map_ins.next (record m { at = x }) made.found)) now < map_ins.cost (record m { at = x }) w + owed
    map-cost (map_in_at.Refer r) e fit less = which (refers.next_at r.at made.found) less
      where
        which : (y : ReferAt) → map_ins.cost_at (map_ins.after_refer (record r { at = y })) now < refers.cost r w + 1
            → cost_at f.slot (after_map_in f.who f.page (record m { at = map_ins.after_refer (record r { at = y }) })) now < refers.cost r w + 1 + owed
        which refer_at.Load less = omega (arith, less)
        which (refer_at.Get seen) less = omega (arith, less)
        which refer_at.Over less = omega (arith, less)
    map-cost map_in_at.SetPte e fit less =
        let small : m.frame.0 < 2 ^ 16 = (let some : layout.frames ≤ frame_limit = made.rule.sound.frames in let inside : m.frame.0 < layout.frames = fit.ready.held.within in omega (arith, some, inside)) in
        let over : again f.slot now ≡ length now.frees + 20 = again-led f.slot now m.frame small (subst (λ (s : VSlot). slice_index now.trans s.0 ≡ m.frame.0 + 1) has.slot_is (written e)) in
        omega (arith, over, few)
    map-cost map_in_at.Over e fit less = absurd (none-some made.step e)

  rest-stays : (u : Unhold) (answer : FaultAnswer) → unholds.plan u ≡ Some made.step → rest f.slot answer now ≡ rest f.slot answer w
  rest-stays u answers.Again e =
      let same : stale (is_some (frame_in (slice_index now.trans f.slot.0))) ≡ stale (is_some (frame_in (slice_index w.trans f.slot.0))) =
      ap (λ (l : List ℕ). stale (is_some (frame_in (slice_index l f.slot.0)))) (ap (λ (x : Words). x.trans) (words-after made) ∙ trans-kept (place_of made.step) (word_after made.step made.found) w (unhold-place u made.step e)) in
      omega (arith, same, same-number-of)
  rest-stays u (answers.NoFrame place) e = refl
  rest-stays u (answers.Sigbus place) e = refl

  -- a turn lowers the cost
  which-falls : (x : FaultAt) (spare : Option ℕ) → FitsAt layout (view_of a seat) f.who f.page f.slot f.touch x → plan_at f.page f.slot f.touch x ≡ Some made.step → Move layout seat (rec_of layout f.who made.step (logs (put_at x)) made.found made.got) a b
      → Lowers (turn_at (bare_at x) made.found) (class_at x) layout a seat
      → Lowered (turn_at (bare_at x) made.found) layout a b (cost_at f.slot (next_at layout f.who f.page f.slot f.touch (bare_at x) made.found made.got spare) now) (cost_at f.slot x w)
  which-falls (at.Hold h) spare has e move lowers =
      let part : Lowered (turn_at (bare_at (at.Hold h)) made.found) layout a b (holds.cost (holds.next h made.found made.got) now) (holds.cost h w) = part-falls hold-ranked refl (record {
        step = made.step;
        found = made.found;
        got = made.got;
        rule = made.rule;
        kept = made.kept;
        fits = has.hold;
        planned = e;
        move = move-by None h.who has.own move;
        brings = made.brings;
        follows = (refl, refl);
      }) lowers in
      let more : cost_at f.slot (after_hold (holds.next h made.found made.got)) now ≡ holds.cost (holds.next h made.found made.got) now + length now.frees + 14 + owed = hold-cost f.slot (holds.next h made.found made.got) now in
      whole part (λ (less : holds.cost (holds.next h made.found made.got) now < holds.cost h w). omega (arith, less, more, same-number-of))
  which-falls (at.LoadPte frame body) spare has e move lowers = inl (pte-falls frame body spare has e)
  which-falls (at.Kill frame body place) spare has e move lowers =
      inl (let few : unholds.cost (unholds.begin f.who f.page frame 1 body) now ≤ 5 = unhold-begins f.who f.page frame body now in omega (arith, few))
  which-falls (at.Fill g) spare has e move lowers =
      let part : Lowered (turn_at (bare_at (at.Fill g)) made.found) layout a b (fills.cost (fills.next layout g made.found) now) (fills.cost g w) = part-falls fill-ranked refl (record {
        step = made.step;
        found = made.found;
        got = made.got;
        rule = made.rule;
        kept = made.kept;
        fits = has.fill;
        planned = e;
        move = move-by None g.who has.own move;
        brings = made.brings;
        follows = (refl, refl);
      }) lowers in
      let more : cost_at f.slot (after_fill f.who f.page f.slot (fills.next layout g made.found) spare) now ≤ fills.cost (fills.next layout g made.found) now + 3 + owed = fill-cost f.who f.page f.slot (fills.next layout g made.found) spare now in
      whole part (λ (less : fills.cost (fills.next layout g made.found) now < fills.cost g w). omega (arith, less, more))
  which-falls (at.MapIn m) spare has e move lowers =
      let part : Lowered (turn_at (bare_at (at.MapIn m)) made.found) layout a b (map_ins.cost (map_ins.next m made.found) now) (map_ins.cost m w) = part-falls map-in-ranked refl (record {
        step = made.step;
        found = made.found;
        got = made.got;
        rule = made.rule;
        kept = made.kept;
        fits = has.map_in;
        planned = e;
        move = move-by None m.who has.own move;
        brings = made.brings;
        follows = (refl, refl);
      }) lowers in
      whole part (λ (less : map_ins.cost (map_ins.next m made.found) now < map_ins.cost m w). map-cost m has m.at e has.map_in.at less)
  which-falls (at.Unhold u answer) spare has e move lowers =
      let part : Lowered (turn_at (bare_at (at.Unhold u answer)) made.found) layout a b (unholds.cost (unholds.next (unholds.bare u) made.found) now) (unholds.cost u w) = part-falls unhold-ranked refl (record {
        step = made.step;
        found = made.found;
        got = made.got;
        rule = made.rule;
        kept = made.kept;
        fits = has.unhold;
        planned = e;
        move = move-by (unholds.put u) u.who has.own move;
        brings = made.brings;
        follows = (refl, refl);
      }) lowers in
      let more : cost_at f.slot (after_unhold (unholds.next (unholds.bare u) made.found) answer) now ≤ unholds.cost (unholds.next (unholds.bare u) made.found) now + rest f.slot answer now = unhold-cost f.slot (unholds.next (unholds.bare u) made.found) answer now in
      let same : rest f.slot answer now ≡ rest f.slot answer w = rest-stays u answer e in
      whole part (λ (less : unholds.cost (unholds.next (unholds.bare u) made.found) now < unholds.cost u w). omega (arith, less, more, same))
  which-falls (at.GiveUp g) spare has e move lowers =
      let part : Lowered (turn_at (bare_at (at.GiveUp g)) made.found) layout a b (give_ups.cost (give_ups.next (give_ups.bare g) made.found) now) (give_ups.cost g w) = part-falls give-up-ranked refl (record {
        step = made.step;
        found = made.found;
        got = made.got;
        rule = made.rule;
        kept = made.kept;
        fits = has.give_up;
        planned = e;
        move = move-by (give_ups.put g) g.who has.own move;
        brings = made.brings;
        follows = (refl, refl);
      }) lowers in
      let more : cost_at f.slot (after_give_up (give_ups.next (give_ups.bare g) made.found)) now ≤ give_ups.cost (give_ups.next (give_ups.bare g) made.found) now = give-up-cost f.slot (give_ups.next (give_ups.bare g) made.found) now in
      whole part (λ (less : give_ups.cost (give_ups.next (give_ups.bare g) made.found) now < give_ups.cost g w). omega (arith, less, more))
  which-falls (at.Over answer) spare has e move lowers = absurd (none-some made.step e)

  fault-falls : Lowers turned (class f) layout a seat → Lowered turned layout a b (cost t now) (cost f w)
  fault-falls lowers = subst (λ (x : Turn). Lowered x layout a b (cost t now) (cost f w)) (sym made.follows.turn_is)
      (subst (λ (x : Fault). Lowered (turn_at (bare_at f.at) made.found) layout a b (cost x now) (cost f w)) (sym made.follows.after_is)
      (which-falls f.at made.follows.spare made.fits.1.at made.planned made.move (subst (λ (x : Turn). Lowers x (class f) layout a seat) made.follows.turn_is lowers)))

-- ---- costs are small

take-few : (t : Take) (w : Words) → length w.frees ≤ free_room → takes.cost t w ≤ take_most
take-few t w few = which t.at
  where
    which : (x : TakeAt) → takes.cost_at (length w.frees) x w ≤ take_most
    which take_at.LoadAvailable = omega (arith, few)
    which (take_at.Reserve seen) = let most : stale (w.available == seen) ≤ stale_weight = stale-most (w.available == seen) in omega (arith, few, most)
    which (take_at.LoadFree number) = let most : stale (not (takes.are_empty number w)) ≤ stale_weight = stale-most (not (takes.are_empty number w)) in omega (arith, few, most)
    which (take_at.TakeBit frame) =
        let one : stale (free_bit w.frees frame.0 == 1) ≤ stale_weight = stale-most (free_bit w.frees frame.0 == 1) in
        let two : stale (not (takes.are_empty (frame.0 / 64) w)) ≤ stale_weight = stale-most (not (takes.are_empty (frame.0 / 64) w)) in
        omega (arith, one, two)
    which (take_at.Adopt frame) = omega arith
    which (take_at.Retire frame) = omega arith
    which (take_at.Over frame) = omega arith

fill-few : (g : Fill) (w : Words) → length w.frees ≤ free_room → fills.cost g w ≤ take_most + 4
fill-few g w few = which g.at
  where
    which : (x : FillAt) → fills.cost_at x w ≤ take_most + 4
    which (fill_at.Take t) = let most : takes.cost t w ≤ take_most = take-few t w few in omega (arith, most)
    which (fill_at.SetOwner frame) = omega arith
    which (fill_at.Refer r) = let most : refers.cost r w ≤ stale_weight + 1 = refer-small w r in omega (arith, most)
    which (fill_at.SetCache frame) = omega arith
    which (fill_at.Over frame) = omega arith

rest-few : (slot : VSlot) (answer : FaultAnswer) (w : Words) → length w.frees ≤ free_room → rest slot answer w ≤ again_most
rest-few slot answers.Again w few = let some : stale (is_some (frame_in (slice_index w.trans slot.0))) ≤ stale_weight = stale-most (is_some (frame_in (slice_index w.trans slot.0))) in omega (arith, few, some)
rest-few slot (answers.NoFrame place) w few = omega arith
rest-few slot (answers.Sigbus place) w few = omega arith

pub fault-small : (w : Words) (f : Fault) → length w.frees ≤ free_room → cost f w ≤ access_most
fault-small w f few = which f.at
  where
    which : (x : FaultAt) → cost_at f.slot x w ≤ access_most
    which (at.Hold h) = let some : holds.cost h w ≤ stale_weight + 2 = hold-small w h in omega (arith, few, some)
    which (at.LoadPte frame body) = omega (arith, few)
    which (at.Kill frame body place) = omega arith
    which (at.Fill g) = let some : fills.cost g w ≤ take_most + 4 = fill-few g w few in omega (arith, some)
    which (at.MapIn m) = let some : map_ins.cost m w ≤ stale_weight + 2 = map-in-small w m in omega (arith, some)
    which (at.Unhold u answer) = let some : unholds.cost u w ≤ 5 = unhold-small w u in let more : rest f.slot answer w ≤ again_most = rest-few f.slot answer w few in omega (arith, some, more)
    which (at.GiveUp g) = let some : give_ups.cost g w ≤ 6 = give-up-small w g in omega (arith, some)
    which (at.Over None) = omega arith
    which (at.Over (Some answer)) = let more : rest f.slot answer w ≤ again_most = rest-few f.slot answer w few in omega (arith, more)

pub fault-class : (f : Fault) → (1 ≤ class f) × (class f ≤ 4)
fault-class f = which f.at
  where
    which : (x : FaultAt) → (1 ≤ class_at x) × (class_at x ≤ 4)
    which (at.Hold h) = hold-ranked.classes h
    which (at.LoadPte None body) = (omega arith, omega arith)
    which (at.LoadPte (Some frame) body) = (omega arith, omega arith)
    which (at.Kill None body place) = (omega arith, omega arith)
    which (at.Kill (Some frame) body place) = (omega arith, omega arith)
    which (at.Fill g) = fill-ranked.classes g
    which (at.MapIn m) = (omega arith, omega arith)
    which (at.Unhold u answer) = unhold-ranked.classes u
    which (at.GiveUp g) = give-up-ranked.classes g
    which (at.Over answer) = (omega arith, omega arith)

module _ {layout : Layout} {seat : ℕ} {a b : State} {f t : Fault} {turned : Turn} (made : Made fault-task layout seat a b f t turned) where
  fault-goes : is_waits turned ≡ false → CostFalls fault-task layout a b f t ⊎ HasFailed fault-task layout a b f t
  fault-goes goes = elim (fault-falls made (inl goes)) [
    | inl less ↦ inl less
    | inr fails ↦ inr (failed fails.1 (let some : cost t (words_at layout b) ≤ access_most = fault-small (words_at layout b) t (few-words layout b made.kept).1 in omega (arith, some)))
  ]

  fault-waits : is_waits turned ≡ true → Quiet (class f) layout a seat → CostFalls fault-task layout a b f t
  fault-waits is quiet = elim (fault-falls made (inr (is, quiet))) [
    | inl less ↦ less
    | inr fails ↦ absurd (both_ways true (sym is ∙ fails.0) refl)
  ]

-- none of its steps poisons a frame or takes its poison back
pub fault-mild : (f : Fault) (step : Step) → plan f ≡ Some step → IsMild step
fault-mild f step is = which f.at is
  where
    which : (x : FaultAt) → plan_at f.page f.slot f.touch x ≡ Some step → IsMild step
    which (at.Hold h) e = hold-mild h step e
    which (at.LoadPte frame body) e = subst IsMild (same_Some (steps.Load (places.Trans f.slot)) step e) tt
    which (at.Kill frame body place) e = subst IsMild (same_Some (steps.Kill f.touch.process f.page (as_snapshot body)) step e) tt
    which (at.Fill g) e = fill-mild g step e
    which (at.MapIn m) e = map-in-mild m step e
    which (at.Unhold u answer) e = unhold-mild u step e
    which (at.GiveUp g) e = give-up-mild g step e
    which (at.Over answer) e = absurd (none-some step e)

pub fault-ranked : IsRanked fault-task
fault-ranked = rank-failing fault-task (λ s. refl) fault-class (λ layout a seat s rule fits. let some : cost s (words_at layout a) ≤ access_most = fault-small (words_at layout a) s (few-words layout a rule).1 in omega (arith, some))
    (λ layout seat a b s t turned made goes. fault-goes made goes) (λ layout seat a b s t turned made is quiet. fault-waits made is quiet)
    (λ s. refl) fault-mild
