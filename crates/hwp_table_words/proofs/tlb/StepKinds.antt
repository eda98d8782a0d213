-- What each kind of step does to translation words, to the locks that are listed, and to what a seat knows of the caches.
use Rattle.std.proofs.Common.{◌≡◌, ◌≢◌, ℕ, ◌+◌, ◌-◌, ◌<◌, ◌≤◌, ◌==◌, ◌&&◌, nat_lt, Bool, true, false, cond, List, [], ◌∷◌, ◌++◌, Some, None, map, refl, sym, ap, ◌∙◌, subst, arith, ne_eqb}
use Rattle.std.specs.Int.{from_bool}
use Rattle.std.proofs.lemmas.Bool.{eqb-true, ltb-true, true≢false}
use Rattle.std.proofs.lemmas.List.Sums.{sum_by-cons}
use Rattle.std.proofs.lemmas.Option.{none-some, same_Some}
use Rattle.hwp_core_rule.specs.hwp_geom.declared.Damage.TheVariants as damages
use Rattle.hwp_core_rule.specs.hwp_geom.declared.Frame.{Frame}
use Rattle.hwp_core_rule.specs.hwp_geom.declared.Layout.{Layout}
use Rattle.hwp_core_rule.specs.hwp_geom.declared.VSlot.{VSlot}
use Rattle.hwp_core_rule.specs.hwp_words.declared.Pte.{Pte}
use Rattle.hwp_core_rule.specs.declared.Rec.{Rec}
use Rattle.hwp_core_rule.specs.declared.SharedWord.TheVariants as places
use Rattle.hwp_core_rule.specs.declared.Step.{Step}
use Rattle.hwp_core_rule.specs.declared.Step.TheVariants as steps
use Rattle.hwp_core_rule.specs.declared.View.{View}
use Rattle.hwp_core_rule.specs.Lists.{EachMember}
use Rattle.hwp_core_rule.specs.Steps.{goes, place_of, word_after}
use Rattle.hwp_core_rule.specs.Views.{noted, view_after}
use Rattle.hwp_core_rule.specs.Words.{Words, put, read}
use Rattle.hwp_core_rule.proofs.WordsByKind.{same-put}
use Rattle.hwp_table_words.specs.tlb.Caching.{Cleared, Shown, with_upto, without_frame}
use Rattle.hwp_table_words.specs.tlb.Rule.{frames_of, locks_in, times}
use Rattle.hwp_table_words.specs.tlb.Steps.{cleared_after, mine_after, shown_after, shown_by}
use Rattle.hwp_table_words.proofs.tlb.LockSlots.{less, locks-after, locks_then}
use Rattle.hwp_table_words.proofs.tlb.LockTimes.{times-append}

-- the step writes a translation
abbrev pub is_pte : Step → Bool
is_pte (steps.SetPte slot pte) = true
is_pte step = false

-- the step frees the lock of the frame
abbrev pub frees_lock : Step → ℕ → Bool
frees_lock (steps.UnlockFrame frame) f = frame.0 == f
frees_lock (steps.Retire frame) f = frame.0 == f
frees_lock step f = false

-- all others leave the translation words as they are
pub put-trans : (step : Step) (found : ℕ) (w : Words) → found ≡ read (place_of step) w → is_pte step ≡ false → (put (place_of step) (word_after step found) w).trans ≡ w.trans
put-trans (steps.Load place) found w met other = ap (λ (n : ℕ). (put place n w).trans) met ∙ ap (λ (u : Words). u.trans) (same-put place w)
put-trans (steps.SetPte slot pte) found w met other = absurd (true≢false other)
put-trans (steps.Spoil frame line damages.Bad) found w met other = refl
put-trans (steps.Spoil frame line damages.Weak) found w met other = refl
put-trans step found w met other = refl

-- a step that writes a translation is one
pub pte-is : (step : Step) → is_pte step ≡ true → (slot : VSlot) × (pte : Pte) × (step ≡ steps.SetPte slot pte)
pte-is (steps.SetPte slot pte) is = (slot, pte, refl)
pte-is step is = absurd (true≢false (sym is))

same-le : (n : ℕ) → n ≤ n
same-le n = omega arith

more-le : (f : ℕ) (list more : List ℕ) → times f list ≤ times f (list ++ more)
more-le f list more = let all : times f (list ++ more) ≡ times f list + times f more = times-append f list more in omega (arith, all)

less-le : (f g : ℕ) (list : List ℕ) → (g == f) ≡ false → times f list ≤ times f (less g list)
less-le f g [] other = omega arith
less-le f g (x ∷ xs) other = which (x == g) refl (less-le f g xs other)
  where
    all : times f (x ∷ xs) ≡ from_bool (x == f) + times f xs
    all = sum_by-cons (λ (m : ℕ). from_bool (m == f)) x xs

    which : (b : Bool) → (x == g) ≡ b → times f xs ≤ times f (less g xs) → times f (x ∷ xs) ≤ times f (cond b xs (x ∷ less g xs))
    which true is rest =
        let none : from_bool (x == f) ≡ 0 = ap (λ (n : ℕ). from_bool (n == f)) (eqb-true x g is) ∙ ap from_bool other in
        omega (arith, all, none)
    which false isnt rest =
        let then : times f (x ∷ less g xs) ≡ from_bool (x == f) + times f (less g xs) = sum_by-cons (λ (m : ℕ). from_bool (m == f)) x (less g xs) in
        omega (arith, all, then, rest)

-- a lock that a step doesn't free stays listed
locks-stay : (step : Step) (found f : ℕ) (list : List ℕ) → frees_lock step f ≡ false → times f list ≤ times f (locks_then step found list)
locks-stay (steps.Adopt frame) found f list other = more-le f list (frame.0 ∷ [])
locks-stay (steps.LockFrame frame) found f list other = which (goes (steps.LockFrame frame) found)
  where
    which : (b : Bool) → times f list ≤ times f (cond b (list ++ frame.0 ∷ []) list)
    which true = more-le f list (frame.0 ∷ [])
    which false = same-le (times f list)
locks-stay (steps.UnlockFrame frame) found f list other = less-le f frame.0 list other
locks-stay (steps.Retire frame) found f list other = less-le f frame.0 list other
locks-stay step found f list other = same-le (times f list)

-- what a view, and what a seat, lists of a frame whose lock the step doesn't free
pub view-keeps : (layout : Layout) (r : Rec) (f : ℕ) (u : View) → frees_lock r.step f ≡ false → times f (frames_of u.locks) ≤ times f (frames_of (view_after layout r u).locks)
view-keeps layout r f u other =
    let after : frames_of (view_after layout r u).locks ≡ locks_then r.step r.found (frames_of u.locks) = locks-after layout r.who r.step r.found r.content (noted r.who u) in
    subst (λ (list : List ℕ). times f (frames_of u.locks) ≤ times f list) (sym after) (locks-stay r.step r.found f (frames_of u.locks) other)

pub seat-keeps : (layout : Layout) (c : ℕ) (r : Rec) (f : ℕ) (mines : List (ℕ × View)) → frees_lock r.step f ≡ false → times f (locks_in mines) ≤ times f (locks_in (map (mine_after layout c r) mines))
seat-keeps layout c r f [] other = same-le (times f [])
seat-keeps layout c r f (x ∷ xs) other =
    let before : times f (frames_of x.1.locks ++ locks_in xs) ≡ times f (frames_of x.1.locks) + times f (locks_in xs) = times-append f (frames_of x.1.locks) (locks_in xs) in
    let after : times f (frames_of (mine_after layout c r x).1.locks ++ locks_in (map (mine_after layout c r) xs)) ≡ times f (frames_of (mine_after layout c r x).1.locks) + times f (locks_in (map (mine_after layout c r) xs)) =
    times-append f (frames_of (mine_after layout c r x).1.locks) (locks_in (map (mine_after layout c r) xs)) in
    let first : times f (frames_of x.1.locks) ≤ times f (frames_of (mine_after layout c r x).1.locks) = which (x.0 == c) in
    let rest : times f (locks_in xs) ≤ times f (locks_in (map (mine_after layout c r) xs)) = seat-keeps layout c r f xs other in
    omega (arith, before, after, first, rest)
  where
    which : (b : Bool) → times f (frames_of x.1.locks) ≤ times f (frames_of (cond b (view_after layout r x.1) x.1).locks)
    which true = view-keeps layout r f x.1 other
    which false = same-le (times f (frames_of x.1.locks))

-- what is listed as cleared after a step: of the adopted frame all, of a frame that is unlocked nothing, and of others what was
module _ (P : Cleared → Type 0) (places : ℕ) (list : List Cleared) where
  pub cleared-then : (step : Step) → ((frame : Frame) → step ≡ steps.Adopt frame → EachMember P (with_upto frame.0 places list))
      → ((frame : Frame) → ((g : ℕ) → g ≢ frame.0 → frees_lock step g ≡ false) → EachMember P (without_frame frame.0 list))
      → (((g : ℕ) → frees_lock step g ≡ false) → EachMember P list) → EachMember P (cleared_after places step list)
  cleared-then (steps.Adopt frame) adopts frees same = adopts frame refl
  cleared-then (steps.UnlockFrame frame) adopts frees same = frees frame (λ g other. ne_eqb frame.0 g (λ e. other (sym e)))
  cleared-then (steps.Retire frame) adopts frees same = frees frame (λ g other. ne_eqb frame.0 g (λ e. other (sym e)))
  cleared-then step adopts frees same = same (λ g. refl)

-- only a load of a translation that leads to a frame whose lock is listed shows something
pub record IsShowing (step : Step) (found : ℕ) (locks : List ℕ) (s : Shown) : Type 0 where
  pub slot : VSlot
  pub step_is : step ≡ steps.Load (places.Trans slot)
  pub slot_is : s.slot ≡ slot.0
  pub frame_is : s.frame + 1 ≡ found
  pub locked : 0 < times s.frame locks

both : (a b : Bool) → (a && b) ≡ true → (a ≡ true) × (b ≡ true)
both true b is = (refl, is)
both false b is = absurd (true≢false (sym is))

showing : (slot : VSlot) (found : ℕ) (locks : List ℕ) (s : Shown) → shown_by (places.Trans slot) found locks ≡ Some s → IsShowing (steps.Load (places.Trans slot)) found locks s
showing slot found locks s is = which (nat_lt 0 found && nat_lt 0 (times (found - 1) locks)) refl is
  where
    which : (b : Bool) → (nat_lt 0 found && nat_lt 0 (times (found - 1) locks)) ≡ b → cond b (Some (record { slot = slot.0; frame = found - 1 })) None ≡ Some s → IsShowing (steps.Load (places.Trans slot)) found locks s
    which false isnt e = absurd (none-some s e)
    which true is e =
        let tests = both (nat_lt 0 found) (nat_lt 0 (times (found - 1) locks)) is in
        let some : 0 < found = ltb-true 0 found tests.0 in
        let listed : 0 < times (found - 1) locks = ltb-true 0 (times (found - 1) locks) tests.1 in
        subst (IsShowing (steps.Load (places.Trans slot)) found locks) (same_Some (record { slot = slot.0; frame = found - 1 }) s e)
        (record { slot = slot; step_is = refl; slot_is = refl; frame_is = omega (arith, some); locked = listed })

pub shown-then : (step : Step) (found : ℕ) (locks : List ℕ) (s : Shown) → shown_after step found locks ≡ Some s → IsShowing step found locks s
shown-then (steps.Load (places.Trans slot)) found locks s is = showing slot found locks s is
shown-then (steps.Load place) found locks s is = absurd (none-some s is)
shown-then step found locks s is = absurd (none-some s is)
