-- The slots that a seat carries are those of its locks, before and after a step.
use Rattle.std.proofs.Common.{◌≡◌, ℕ, ◌+◌, ◌<◌, ◌≤◌, ◌==◌, Bool, true, false, cond, List, [], ◌∷◌, ◌++◌, inl, inr, map, drop, length, refl, sym, ap, ◌∙◌, subst, arith, ne_eqb}
use Rattle.std.specs.Prelude.{Option, Some, None}
use Rattle.std.proofs.lemmas.List.{length-append, length-map, map-append}
use Rattle.std.proofs.lemmas.Option.{none-some, same_Some}
use Rattle.std.specs.Int.{from_bool}
use Rattle.hwp_core_rule.specs.hwp_geom.declared.Frame.{Frame}
use Rattle.hwp_core_rule.specs.hwp_geom.declared.Layout.{Layout}
use Rattle.hwp_core_rule.specs.hwp_geom.declared.Page.{Page}
use Rattle.hwp_core_rule.specs.hwp_geom.declared.Who.{Who}
use Rattle.hwp_core_rule.specs.declared.FrameLock.{FrameLock}
use Rattle.hwp_core_rule.specs.declared.Log.{Log}
use Rattle.hwp_core_rule.specs.declared.PageLock.{PageLock}
use Rattle.hwp_core_rule.specs.declared.Rec.{Rec}
use Rattle.hwp_core_rule.specs.declared.SlotMove.{SlotMove}
use Rattle.hwp_core_rule.specs.declared.SlotMove.TheVariants as moves
use Rattle.hwp_core_rule.specs.declared.Step.{Step}
use Rattle.hwp_core_rule.specs.declared.Step.TheVariants as steps
use Rattle.hwp_core_rule.specs.declared.View.{View}
use Rattle.hwp_core_rule.specs.Asks.{AsksOf, HasLock, HasPageLock}
use Rattle.hwp_core_rule.specs.Moves.{Told}
use Rattle.hwp_core_rule.specs.SlotMoves.{slot_move, moved_out}
use Rattle.hwp_core_rule.specs.Steps.{goes}
use Rattle.hwp_core_rule.specs.Views.{view_after, noted}
use Rattle.hwp_core_rule.proofs.KnownByLocks.{lock-listed, page-listed}
use Rattle.hwp_core_rule.proofs.Lists.{at_map, same-or, same-number, sum-map, from_bool-same, from_bool-other}
use Rattle.hwp_table_words.specs.Carrying.{vacant, IsCarried, IsFirst, HasRoom, laid, brought, order_after}
use Rattle.hwp_table_words.specs.Known.{less, times}
use Rattle.hwp_table_words.specs.Plays.{IsFront, carried}
use Rattle.hwp_table_words.specs.Seats.{slots_of}
use Rattle.hwp_table_words.specs.Stands.{Content}
use Rattle.hwp_table_words.specs.tlb.Rule.{frames_of}
use Rattle.hwp_table_words.proofs.tlb.LockSlots.{pages_of, locks_then, pages_then, locks-after, pages-after}
use Rattle.hwp_table_words.proofs.Times.{times-append, times-cons, times-less}

-- the slot that comes home with a step, whatever word it meets
abbrev home_in : SlotMove → Option ℕ
home_in moves.Stays = None
home_in (moves.Out slot) = None
home_in (moves.Home slot) = Some slot

out-none : (b : Bool) (slot : ℕ) → home_in (moved_out b slot) ≡ None
out-none true slot = refl
out-none false slot = refl

home-fixed : (layout : Layout) (step : Step) (found : ℕ) → home_in (slot_move layout step found) ≡ home_in (slot_move layout step 0)
home-fixed layout (steps.LockFrame frame) found = out-none (goes (steps.LockFrame frame) found) frame.0 ∙ sym (out-none (goes (steps.LockFrame frame) 0) frame.0)
home-fixed layout (steps.LockPage page) found = out-none (goes (steps.LockPage page) found) (layout.frames + page.0) ∙ sym (out-none (goes (steps.LockPage page) 0) (layout.frames + page.0))
home-fixed layout step found = refl

front-of : (to now : SlotMove) (put : Content) (order : List ℕ) → home_in now ≡ home_in to → IsFront now put (laid to put order)
front-of to moves.Stays put order same = tt
front-of to (moves.Out slot) put order same = tt
front-of moves.Stays (moves.Home slot) put order same = absurd (none-some slot (sym same))
front-of (moves.Out other) (moves.Home slot) put order same = absurd (none-some slot (sym same))
front-of (moves.Home other) (moves.Home slot) put order same = λ i. (same_Some other slot (sym same) i, put) ∷ vacant (drop 1 order)

-- the first slot that the seat carries is the one that goes home
pub front-laid : (layout : Layout) (step : Step) (put : Content) (order : List ℕ) (found : ℕ) → IsFront (slot_move layout step found) put (laid (slot_move layout step 0) put order)
front-laid layout step put order found = front-of (slot_move layout step 0) (slot_move layout step found) put order (home-fixed layout step found)

first-of : (to now : SlotMove) (order : List ℕ) → home_in now ≡ home_in to → IsFirst to order → IsFirst now order
first-of to moves.Stays order same first = tt
first-of to (moves.Out slot) order same first = tt
first-of moves.Stays (moves.Home slot) order same first = absurd (none-some slot (sym same))
first-of (moves.Out other) (moves.Home slot) order same first = absurd (none-some slot (sym same))
first-of (moves.Home other) (moves.Home slot) order same first = first ∙ (λ i. same_Some other slot (sym same) i ∷ drop 1 order)

pub first-now : (layout : Layout) (step : Step) (order : List ℕ) (found : ℕ) → IsFirst (slot_move layout step 0) order → IsFirst (slot_move layout step found) order
first-now layout step order found first = first-of (slot_move layout step 0) (slot_move layout step found) order (home-fixed layout step found) first

brought-of : (to now : SlotMove) (put got : Content) (order : List ℕ) → home_in now ≡ home_in to → carried now got (laid to put order) ≡ brought now got order
brought-of moves.Stays moves.Stays put got order same = refl
brought-of moves.Stays (moves.Out slot) put got order same = refl
brought-of moves.Stays (moves.Home slot) put got order same = absurd (none-some slot (sym same))
brought-of (moves.Out other) moves.Stays put got order same = refl
brought-of (moves.Out other) (moves.Out slot) put got order same = refl
brought-of (moves.Out other) (moves.Home slot) put got order same = absurd (none-some slot (sym same))
brought-of (moves.Home other) moves.Stays put got order same = absurd (none-some other same)
brought-of (moves.Home other) (moves.Out slot) put got order same = absurd (none-some other same)
brought-of (moves.Home other) (moves.Home slot) put got order same = refl

-- the slots after the step are those that it brought
pub brought-now : (layout : Layout) (step : Step) (put got : Content) (order : List ℕ) (found : ℕ) → carried (slot_move layout step found) got (laid (slot_move layout step 0) put order) ≡ brought (slot_move layout step found) got order
brought-now layout step put got order found = brought-of (slot_move layout step 0) (slot_move layout step found) put got order (home-fixed layout step found)

-- ---- the locks

times-shift : (a c : ℕ) (xs : List ℕ) → times (a + c) (map (λ (q : ℕ). a + q) xs) ≡ times c xs
times-shift a c [] = refl
times-shift a c (x ∷ xs) =
    let left : times (a + c) (map (λ (q : ℕ). a + q) (x ∷ xs)) ≡ from_bool ((a + x) == (a + c)) + times (a + c) (map (λ (q : ℕ). a + q) xs) = times-cons (a + c) (a + x) (map (λ (q : ℕ). a + q) xs) in
    let right : times c (x ∷ xs) ≡ from_bool (x == c) + times c xs = times-cons c x xs in
    let rest : times (a + c) (map (λ (q : ℕ). a + q) xs) ≡ times c xs = times-shift a c xs in
    let first : from_bool ((a + x) == (a + c)) ≡ from_bool (x == c) = same-tests in
    omega arith
  where
    same-tests : from_bool ((a + x) == (a + c)) ≡ from_bool (x == c)
    same-tests = elim (same-or x c) [
      | inl same ↦ from_bool-same (a + x) (a + c) (ap (λ (n : ℕ). a + n) same) ∙ sym (from_bool-same x c same)
      | inr other ↦ from_bool-other (a + x) (a + c) (λ e. other (omega (arith, e))) ∙ sym (from_bool-other x c other)
    ]

-- a slot of a locked frame, or of a locked page, is one of those of the view
pub frame-slot : (layout : Layout) (v : View) (frame : Frame) → HasLock v frame → 0 < times frame.0 (frames_of v.locks)
frame-slot layout v frame has = subst (λ (n : ℕ). 0 < n) (sym (sum-map (λ (m : ℕ). from_bool (m == frame.0)) (λ (l : FrameLock). l.frame.0) v.locks)) (lock-listed v frame has)

pub page-slot : (layout : Layout) (v : View) (page : Page) → HasPageLock v page → 0 < times page.0 (pages_of v.pages)
page-slot layout v page has = subst (λ (n : ℕ). 0 < n) (sym (sum-map (λ (m : ℕ). from_bool (m == page.0)) (λ (l : PageLock). l.page.0) v.pages)) (page-listed v page has)

abbrev slots : Layout → List ℕ → List ℕ → List ℕ
slots layout frames pages = frames ++ map (λ (q : ℕ). layout.frames + q) pages

slots-times : (layout : Layout) (j : ℕ) (frames pages : List ℕ) → times j (slots layout frames pages) ≡ times j frames + times j (map (λ (q : ℕ). layout.frames + q) pages)
slots-times layout j frames pages = times-append j frames (map (λ (q : ℕ). layout.frames + q) pages)

slots-count : (layout : Layout) (frames pages : List ℕ) → length (slots layout frames pages) ≡ length frames + length pages
slots-count layout frames pages =
    let all : length (slots layout frames pages) ≡ length frames + length (map (λ (q : ℕ). layout.frames + q) pages) = length-append frames (map (λ (q : ℕ). layout.frames + q) pages) in
    let same : length (map (λ (q : ℕ). layout.frames + q) pages) ≡ length pages = length-map pages (λ (q : ℕ). layout.frames + q) in
    omega arith

carried-slot : (layout : Layout) (who : Who) (step : Step) (put : Option Log) (v : View) → AsksOf layout who step put v → IsCarried (slot_move layout step 0) (slots_of layout v)
carried-slot layout who (steps.UnlockFrame frame) put v asks =
    let has : 0 < times frame.0 (frames_of v.locks) = frame-slot layout v frame asks.has in
    let all : times frame.0 (slots_of layout v) ≡ times frame.0 (frames_of v.locks) + times frame.0 (map (λ (q : ℕ). layout.frames + q) (pages_of v.pages)) = slots-times layout frame.0 (frames_of v.locks) (pages_of v.pages) in
    omega arith
carried-slot layout who (steps.Retire frame) put v asks =
    let has : 0 < times frame.0 (frames_of v.locks) = frame-slot layout v frame asks.has in
    let all : times frame.0 (slots_of layout v) ≡ times frame.0 (frames_of v.locks) + times frame.0 (map (λ (q : ℕ). layout.frames + q) (pages_of v.pages)) = slots-times layout frame.0 (frames_of v.locks) (pages_of v.pages) in
    omega arith
carried-slot layout who (steps.UnlockPage page) put v asks =
    let has : 0 < times page.0 (pages_of v.pages) = page-slot layout v page asks.has in
    let same : times (layout.frames + page.0) (map (λ (q : ℕ). layout.frames + q) (pages_of v.pages)) ≡ times page.0 (pages_of v.pages) = times-shift layout.frames page.0 (pages_of v.pages) in
    let all : times (layout.frames + page.0) (slots_of layout v) ≡ times (layout.frames + page.0) (frames_of v.locks) + times (layout.frames + page.0) (map (λ (q : ℕ). layout.frames + q) (pages_of v.pages)) = slots-times layout (layout.frames + page.0) (frames_of v.locks) (pages_of v.pages) in
    omega arith
carried-slot layout who (steps.LockFrame frame) put v asks = which (goes (steps.LockFrame frame) 0)
  where
    which : (b : Bool) → IsCarried (moved_out b frame.0) (slots_of layout v)
    which true = tt
    which false = tt
carried-slot layout who (steps.LockPage page) put v asks = which (goes (steps.LockPage page) 0)
  where
    which : (b : Bool) → IsCarried (moved_out b (layout.frames + page.0)) (slots_of layout v)
    which true = tt
    which false = tt
carried-slot layout who step put v asks = tt

same-carried : (to : SlotMove) (xs ys : List ℕ) → ((j : ℕ) → times j ys ≡ times j xs) → IsCarried to xs → IsCarried to ys
same-carried moves.Stays xs ys same has = tt
same-carried (moves.Out slot) xs ys same has = tt
same-carried (moves.Home slot) xs ys same has = subst (λ (n : ℕ). 0 < n) (sym (same slot)) has

-- the slot that is to go home is carried
pub is-carried : (layout : Layout) (who : Who) (step : Step) (put : Option Log) (v : View) (order : List ℕ) → AsksOf layout who step put v → ((j : ℕ) → times j order ≡ times j (slots_of layout v)) → IsCarried (slot_move layout step 0) order
is-carried layout who step put v order asks same = same-carried (slot_move layout step 0) (slots_of layout v) order same (carried-slot layout who step put v asks)

-- what a step does to the slots of the locks
abbrev Changed : SlotMove → List ℕ → List ℕ → Type 0
Changed moves.Stays a b = ((j : ℕ) → times j b ≡ times j a) × (length b ≡ length a)
Changed (moves.Out slot) a b = ((j : ℕ) → times j b ≡ times j a + times j (slot ∷ [])) × (length b ≡ length a + 1)
Changed (moves.Home slot) a b = ((j : ℕ) → times j b + times j (slot ∷ []) ≡ times j a) × (length b + 1 ≡ length a)

length-less : (c : ℕ) (xs : List ℕ) → 0 < times c xs → length (less c xs) + 1 ≡ length xs
length-less c [] some = absurd (omega (arith, some))
length-less c (x ∷ xs) some = which (x == c) refl (length-less c xs)
  where
    which : (b : Bool) → (x == c) ≡ b → (0 < times c xs → length (less c xs) + 1 ≡ length xs) → length (cond b xs (x ∷ less c xs)) + 1 ≡ length (x ∷ xs)
    which true is again = omega arith
    which false isnt again =
        let first : from_bool (x == c) ≡ 0 = ap from_bool isnt in
        let count : times c (x ∷ xs) ≡ from_bool (x == c) + times c xs = times-cons c x xs in
        let rest : length (less c xs) + 1 ≡ length xs = again (omega (arith, some)) in
        omega arith

map-less : (a c : ℕ) (xs : List ℕ) → map (λ (p : ℕ). a + p) (less c xs) ≡ less (a + c) (map (λ (p : ℕ). a + p) xs)
map-less a c [] = refl
map-less a c (x ∷ xs) = elim (same-or x c) [
  | inl same ↦ ap (λ (b : Bool). map (λ (p : ℕ). a + p) (cond b xs (x ∷ less c xs))) (same-number x c same) ∙ sym (ap (λ (b : Bool). cond b (map (λ (p : ℕ). a + p) xs) ((a + x) ∷ less (a + c) (map (λ (p : ℕ). a + p) xs))) (same-number (a + x) (a + c) (ap (λ (n : ℕ). a + n) same)))
  | inr other ↦ ap (λ (b : Bool). map (λ (p : ℕ). a + p) (cond b xs (x ∷ less c xs))) (ne_eqb x c other) ∙ (ap (λ (l : List ℕ). (a + x) ∷ l) (map-less a c xs) ∙ sym (ap (λ (b : Bool). cond b (map (λ (p : ℕ). a + p) xs) ((a + x) ∷ less (a + c) (map (λ (p : ℕ). a + p) xs))) (ne_eqb (a + x) (a + c) (λ e. other (omega (arith, e))))))
]

module _ (layout : Layout) (frames pages : List ℕ) where
  out-frame : (f : ℕ) → Changed (moves.Out f) (slots layout frames pages) (slots layout (frames ++ f ∷ []) pages)
  out-frame f = (
    (λ j.
        let before : times j (slots layout frames pages) ≡ times j frames + times j (map (λ (q : ℕ). layout.frames + q) pages) = slots-times layout j frames pages in
        let after : times j (slots layout (frames ++ f ∷ []) pages) ≡ times j (frames ++ f ∷ []) + times j (map (λ (q : ℕ). layout.frames + q) pages) = slots-times layout j (frames ++ f ∷ []) pages in
        let more : times j (frames ++ f ∷ []) ≡ times j frames + times j (f ∷ []) = times-append j frames (f ∷ []) in
        omega arith),
    (let before = slots-count layout frames pages in
        let after = slots-count layout (frames ++ f ∷ []) pages in
        let more : length (frames ++ f ∷ []) ≡ length frames + 1 = length-append frames (f ∷ []) in
        omega (arith, before, after, more)),
  )

  home-frame : (f : ℕ) → 0 < times f frames → Changed (moves.Home f) (slots layout frames pages) (slots layout (less f frames) pages)
  home-frame f has = (
    (λ j.
        let before : times j (slots layout frames pages) ≡ times j frames + times j (map (λ (q : ℕ). layout.frames + q) pages) = slots-times layout j frames pages in
        let after : times j (slots layout (less f frames) pages) ≡ times j (less f frames) + times j (map (λ (q : ℕ). layout.frames + q) pages) = slots-times layout j (less f frames) pages in
        let fewer : times j (less f frames) + times j (f ∷ []) ≡ times j frames = times-less f j frames has in
        omega arith),
    (let before = slots-count layout frames pages in
        let after = slots-count layout (less f frames) pages in
        let fewer = length-less f frames has in
        omega (arith, before, after, fewer)),
  )

  out-page : (q : ℕ) → Changed (moves.Out (layout.frames + q)) (slots layout frames pages) (slots layout frames (pages ++ q ∷ []))
  out-page q = (
    (λ j.
        let before : times j (slots layout frames pages) ≡ times j frames + times j (map (λ (p : ℕ). layout.frames + p) pages) = slots-times layout j frames pages in
        let after : times j (slots layout frames (pages ++ q ∷ [])) ≡ times j frames + times j (map (λ (p : ℕ). layout.frames + p) (pages ++ q ∷ [])) = slots-times layout j frames (pages ++ q ∷ []) in
        let more : times j (map (λ (p : ℕ). layout.frames + p) (pages ++ q ∷ [])) ≡ times j (map (λ (p : ℕ). layout.frames + p) pages) + times j ((layout.frames + q) ∷ []) =
        ap (times j) (map-append (λ (p : ℕ). layout.frames + p) pages (q ∷ [])) ∙ times-append j (map (λ (p : ℕ). layout.frames + p) pages) ((layout.frames + q) ∷ []) in
        omega arith),
    (let before = slots-count layout frames pages in
        let after = slots-count layout frames (pages ++ q ∷ []) in
        let more : length (pages ++ q ∷ []) ≡ length pages + 1 = length-append pages (q ∷ []) in
        omega (arith, before, after, more)),
  )

  home-page : (q : ℕ) → 0 < times q pages → Changed (moves.Home (layout.frames + q)) (slots layout frames pages) (slots layout frames (less q pages))
  home-page q has = (
    (λ j.
        let before : times j (slots layout frames pages) ≡ times j frames + times j (map (λ (p : ℕ). layout.frames + p) pages) = slots-times layout j frames pages in
        let after : times j (slots layout frames (less q pages)) ≡ times j frames + times j (map (λ (p : ℕ). layout.frames + p) (less q pages)) = slots-times layout j frames (less q pages) in
        let fewer : times j (map (λ (p : ℕ). layout.frames + p) (less q pages)) + times j ((layout.frames + q) ∷ []) ≡ times j (map (λ (p : ℕ). layout.frames + p) pages) = shifted j in
        omega arith),
    (let before = slots-count layout frames pages in
        let after = slots-count layout frames (less q pages) in
        let fewer = length-less q pages has in
        omega (arith, before, after, fewer)),
  )
    where
      shifted : (j : ℕ) → times j (map (λ (p : ℕ). layout.frames + p) (less q pages)) + times j ((layout.frames + q) ∷ []) ≡ times j (map (λ (p : ℕ). layout.frames + p) pages)
      shifted j = ap (λ (l : List ℕ). times j l + times j ((layout.frames + q) ∷ [])) (map-less layout.frames q pages) ∙ times-less (layout.frames + q) j (map (λ (p : ℕ). layout.frames + p) pages) (subst (λ (n : ℕ). 0 < n) (sym (times-shift layout.frames q pages)) has)

slots-changed : (layout : Layout) (who : Who) (step : Step) (found : ℕ) (put : Option Log) (v : View) → AsksOf layout who step put v
    → Changed (slot_move layout step found) (slots_of layout v) (slots layout (locks_then step found (frames_of v.locks)) (pages_then step found (pages_of v.pages)))
slots-changed layout who (steps.Adopt frame) found put v asks = out-frame layout (frames_of v.locks) (pages_of v.pages) frame.0
slots-changed layout who (steps.LockFrame frame) found put v asks = which (goes (steps.LockFrame frame) found)
  where
    which : (b : Bool) → Changed (moved_out b frame.0) (slots_of layout v) (slots layout (cond b (frames_of v.locks ++ frame.0 ∷ []) (frames_of v.locks)) (pages_of v.pages))
    which true = out-frame layout (frames_of v.locks) (pages_of v.pages) frame.0
    which false = ((λ j. refl), refl)
slots-changed layout who (steps.UnlockFrame frame) found put v asks = home-frame layout (frames_of v.locks) (pages_of v.pages) frame.0 (frame-slot layout v frame asks.has)
slots-changed layout who (steps.Retire frame) found put v asks = home-frame layout (frames_of v.locks) (pages_of v.pages) frame.0 (frame-slot layout v frame asks.has)
slots-changed layout who (steps.LockPage page) found put v asks = which (goes (steps.LockPage page) found)
  where
    which : (b : Bool) → Changed (moved_out b (layout.frames + page.0)) (slots_of layout v) (slots layout (frames_of v.locks) (cond b (pages_of v.pages ++ page.0 ∷ []) (pages_of v.pages)))
    which true = out-page layout (frames_of v.locks) (pages_of v.pages) page.0
    which false = ((λ j. refl), refl)
slots-changed layout who (steps.UnlockPage page) found put v asks = home-page layout (frames_of v.locks) (pages_of v.pages) page.0 (page-slot layout v page asks.has)
slots-changed layout who step found put v asks = ((λ j. refl), refl)

order-changed : (to : SlotMove) (order a b : List ℕ) → IsFirst to order → ((j : ℕ) → times j order ≡ times j a) → length order ≡ length a → Changed to a b → ((j : ℕ) → times j (order_after to order) ≡ times j b) × (length (order_after to order) ≡ length b)
order-changed moves.Stays order a b first same count changed = ((λ j. same j ∙ sym (changed.0 j)), count ∙ sym changed.1)
order-changed (moves.Out slot) order a b first same count changed = (
  (λ j.
      let all : times j (slot ∷ order) ≡ from_bool (slot == j) + times j order = times-cons j slot order in
      let one : times j (slot ∷ []) ≡ from_bool (slot == j) + times j [] = times-cons j slot [] in
      let was : times j order ≡ times j a = same j in
      let now : times j b ≡ times j a + times j (slot ∷ []) = changed.0 j in
      omega arith),
  (let now : length b ≡ length a + 1 = changed.1 in omega (arith, count)),
)
order-changed (moves.Home slot) order a b first same count changed = (
  (λ j.
      let all : times j (slot ∷ drop 1 order) ≡ from_bool (slot == j) + times j (drop 1 order) = times-cons j slot (drop 1 order) in
      let one : times j (slot ∷ []) ≡ from_bool (slot == j) + times j [] = times-cons j slot [] in
      let was : times j order ≡ times j a = same j in
      let is : times j order ≡ times j (slot ∷ drop 1 order) = ap (times j) first in
      let now : times j b + times j (slot ∷ []) ≡ times j a = changed.0 j in
      omega arith),
  (let now : length b + 1 ≡ length a = changed.1 in let is : length order ≡ length (slot ∷ drop 1 order) = ap length first in omega (arith, count)),
)

-- after the step the slots that the seat carries are those of its locks again
pub carries-after : (layout : Layout) (r : Rec) (put : Option Log) (v : View) (order : List ℕ) → AsksOf layout r.who r.step put v → IsFirst (slot_move layout r.step r.found) order
    → ((j : ℕ) → times j order ≡ times j (slots_of layout v)) → length order ≡ length (slots_of layout v)
    → ((j : ℕ) → times j (order_after (slot_move layout r.step r.found) order) ≡ times j (slots_of layout (view_after layout r v))) × (length (order_after (slot_move layout r.step r.found) order) ≡ length (slots_of layout (view_after layout r v)))
carries-after layout r put v order asks first same count =
    let now = order-changed (slot_move layout r.step r.found) order (slots_of layout v) (slots layout (locks_then r.step r.found (frames_of v.locks)) (pages_then r.step r.found (pages_of v.pages))) first same count (slots-changed layout r.who r.step r.found put v asks) in
    subst (λ (l : List ℕ). ((j : ℕ) → times j (order_after (slot_move layout r.step r.found) order) ≡ times j l) × (length (order_after (slot_move layout r.step r.found) order) ≡ length l)) (sym after-is) now
  where
    after-is : slots_of layout (view_after layout r v) ≡ slots layout (locks_then r.step r.found (frames_of v.locks)) (pages_then r.step r.found (pages_of v.pages))
    after-is = λ i. slots layout (locks-after layout r.who r.step r.found r.content (noted r.who v) i) (pages-after layout r.who r.step r.found r.content (noted r.who v) i)

-- there is room for the slot of a lock that was taken
pub room-for : (layout : Layout) (r : Rec) (put : Option Log) (v new : View) (order : List ℕ) → AsksOf layout r.who r.step put v → Told layout r v new → length order ≡ length (slots_of layout v) → HasRoom (slot_move layout r.step r.found) order
room-for layout r put v new order asks told count = by-step r.step r.found asks
  where
    all : length order ≡ length v.locks + length v.pages
    all =
        let both = slots-count layout (frames_of v.locks) (pages_of v.pages) in
        let locks : length (frames_of v.locks) ≡ length v.locks = length-map v.locks (λ (l : FrameLock). l.frame.0) in
        let pages : length (pages_of v.pages) ≡ length v.pages = length-map v.pages (λ (l : PageLock). l.page.0) in
        omega (arith, count, both)

    one : length v.pages ≤ 1
    one = told.rule.rule.pages.page_locks.page_once told.seat v.pages (at_map (λ (u : View). u.pages) told.board.views told.seat v told.me)

    two : length v.locks ≤ 2
    two = told.rule.rule.pages.page_locks.frames_twice told.seat v.locks (at_map (λ (u : View). u.locks) told.board.views told.seat v told.me)

    out : (b : Bool) (slot : ℕ) → length order < 3 → HasRoom (moved_out b slot) order
    out true slot less = less
    out false slot less = tt

    by-step : (step : Step) (found : ℕ) → AsksOf layout r.who step put v → HasRoom (slot_move layout step found) order
    by-step (steps.Adopt frame) found asks = omega (arith, all, one, asks.1)
    by-step (steps.LockFrame frame) found asks = out (goes (steps.LockFrame frame) found) frame.0 (omega (arith, all, one, asks.second))
    by-step (steps.LockPage page) found asks = out (goes (steps.LockPage page) found) (layout.frames + page.0) (omega (arith, all, two, asks))
    by-step step found asks = tt
