-- What follows a step of a seat: a fill where no page is locked, and a sweep where one is.
use Rattle.std.proofs.Common.{◌≡◌, ℕ, suc, zero, ◌+◌, ◌*◌, ◌<◌, ◌≤◌, ◌==◌, Bool, true, false, cond, List, [], ◌∷◌, Some, None, length, slice_get, inl, inr, refl, sym, ap, ◌∙◌, subst, arith}
use Rattle.std.specs.Prelude.{Any, Option}
use Rattle.std.specs.Int.{from_bool}
use Rattle.std.proofs.lemmas.Option.{none-some, same_Some}
use native.Mathlib.Nat.{zero-mul}
use Rattle.hwp_core_rule.specs.hwp_geom.declared.Frame.{Frame}
use Rattle.hwp_core_rule.specs.hwp_geom.declared.Layout.{Layout}
use Rattle.hwp_core_rule.specs.hwp_geom.declared.VSlot.{VSlot}
use Rattle.hwp_core_rule.specs.declared.Step.{Step}
use Rattle.hwp_core_rule.specs.declared.Step.TheVariants as steps
use Rattle.hwp_core_rule.specs.declared.View.{View}
use Rattle.hwp_core_rule.specs.Steps.{goes}
use Rattle.hwp_core_rule.specs.declared.SharedWord.{SharedWord}
use Rattle.hwp_core_rule.specs.declared.SharedWord.TheVariants as shared
use Rattle.hwp_core_rule.specs.Views.{locks_on}
use Rattle.hwp_core_rule.proofs.Lists.{from_bool-other, from_bool-same, same-or}
use Rattle.hwp_table_words.specs.tlb.Caching.{Caching, upto_of}
use Rattle.hwp_table_words.specs.tlb.Rule.{frames_of, locks_in, times}
use Rattle.hwp_table_words.specs.tlb.Steps.{IsGuarded, shown_after}
use Rattle.hwp_table_words.proofs.tlb.Guards.{shown-load}
use Rattle.hwp_table_words.proofs.tlb.LockTimes.{locks-one, times-cons}
use Rattle.hwp_table_words.specs.CachePlays.{CanFill, with_caching}
use Rattle.hwp_table_words.specs.Caches.{AreLocked, AreSwept, IsAlmostGuarded, IsSweptOn, IsToSweep, follow_of, load_of}
use Rattle.hwp_table_words.specs.declared.follow.Follow.{Follow}
use Rattle.hwp_table_words.specs.declared.follow.Follow.TheVariants as follows
use Rattle.hwp_table_words.specs.Seats.{Carries, cpu_of, mine_of}
use Rattle.hwp_table_words.specs.Stands.{Me}
use Rattle.hwp_table_words.proofs.OrderLocks.{lock-order, no-page, order-listed, order-lock}

-- the locks of a seat that has one view
pub locks-of : (m : Me) → m.0.known.mines ≡ (cpu_of m.0.known.mines, mine_of m.0.known.mines) ∷ [] → (f : ℕ) → times f (locks_in m.0.known.mines) ≡ locks_on f (mine_of m.0.known.mines).locks
locks-of m one f = ap (λ (l : List (ℕ × View)). times f (locks_in l)) one ∙ locks-one (cpu_of m.0.known.mines) (mine_of m.0.known.mines) f

-- where a number is
pub some-place : (f : ℕ) (xs : List ℕ) → 0 < times f xs → (i : ℕ) × (slice_get xs i ≡ Some f)
some-place f [] some = absurd (omega (arith, some))
some-place f (x ∷ xs) some = elim (same-or x f) [
  | inl same ↦ (0, ap Some same)
  | inr other ↦
      let all : times f (x ∷ xs) ≡ from_bool (x == f) + times f xs = times-cons f x xs in
      let none : from_bool (x == f) ≡ 0 = from_bool-other x f other in
      let rest = some-place f xs (omega (arith, all, none, some)) in
      (suc rest.0, rest.1)
]

pub is-there : (f : ℕ) (xs : List ℕ) (i : ℕ) → slice_get xs i ≡ Some f → 0 < times f xs
is-there f [] i e = absurd (none-some f e)
is-there f (x ∷ xs) zero e =
    let all : times f (x ∷ xs) ≡ from_bool (x == f) + times f xs = times-cons f x xs in
    let one : from_bool (x == f) ≡ 1 = from_bool-same x f (same_Some x f e) in
    omega (arith, all, one)
is-there f (x ∷ xs) (suc i) e =
    let all : times f (x ∷ xs) ≡ from_bool (x == f) + times f xs = times-cons f x xs in
    let rest : 0 < times f xs = is-there f xs i e in
    omega (arith, all, rest)

-- a seat that is else as it was has the views that it had
pub mines-same : (m n : Me) → n ≡ with_caching n.0.caching m → n.0.known.mines ≡ m.0.known.mines
mines-same m n rest = ap (λ (o : Me). o.0.known.mines) rest

module _ (layout : Layout) (m : Me) (order : List ℕ) (carries : Carries layout (mine_of m.0.known.mines) m.1 order) where
  -- a load that found a frame whose slot is carried can be filled
  pub can-fill : (slot : VSlot) (found : ℕ) (f : Frame) → found ≡ f.0 + 1 → f.0 < layout.frames → 0 < times f.0 order → m.0.caching.shown ≡ shown_after (load_of slot) found (frames_of (mine_of m.0.known.mines).locks) → CanFill slot.0 f.0 m
  can-fill slot found f is less some shown = shown ∙ shown-load slot found f.0 (frames_of (mine_of m.0.known.mines).locks) is (order-listed layout (mine_of m.0.known.mines) m.1 order carries f.0 less some)

  -- where no page's slot is carried, nothing is to be guarded
  pub guard-free : (places : ℕ) (n : Me) → n ≡ with_caching n.0.caching m → (Any (λ (slot : ℕ). layout.frames ≤ slot) order → ⊥) → IsGuarded places (mine_of n.0.known.mines) n.0.caching
  guard-free places n rest none some = absurd (no-page layout (mine_of m.0.known.mines) m.1 order carries none (subst (λ (l : List (ℕ × View)). 0 < length (mine_of l).pages) (mines-same m n rest) some))

  -- the slots that are carried are those of locks
  pub are-locked : m.0.known.mines ≡ (cpu_of m.0.known.mines, mine_of m.0.known.mines) ∷ [] → AreLocked layout.frames order m
  are-locked one i f e less = subst (λ (n : ℕ). 0 < n) (sym (locks-of m one f)) (order-lock layout (mine_of m.0.known.mines) m.1 order carries f less (is-there f order i e))

  module _ (places : ℕ) (n : Me) (on : IsSweptOn m n) where
    views-same : mine_of n.0.known.mines ≡ mine_of m.0.known.mines
    views-same = ap mine_of (mines-same m n on.rest)

    locked-was : (f : ℕ) → 0 < locks_on f (mine_of n.0.known.mines).locks → 0 < locks_on f (mine_of m.0.known.mines).locks
    locked-was f listed = subst (λ (v : View). 0 < locks_on f v.locks) views-same listed

    pages-was : 0 < length (mine_of n.0.known.mines).pages → 0 < length (mine_of m.0.known.mines).pages
    pages-was some = subst (λ (v : View). 0 < length v.pages) views-same some

    -- each frame whose slot is carried was swept
    pub guard-all : IsAlmostGuarded places layout.frames follows.SweepAll (mine_of m.0.known.mines) m.0.caching → AreSwept places layout.frames order n.0.caching → IsGuarded places (mine_of n.0.known.mines) n.0.caching
    guard-all guarded swept some f listed = elim (guarded (pages-was some) f (locked-was f listed)) [
      | inl is ↦ let there = some-place f order (lock-order layout (mine_of m.0.known.mines) m.1 order carries f (locked-was f listed)) in swept there.0 f there.1 is
      | inr was ↦ let grows : upto_of f m.0.caching.cleared ≤ upto_of f n.0.caching.cleared = on.grows f in omega (arith, was, grows)
    ]

    -- the frame that was locked was swept, and the others were guarded
    pub guard-one : (frame : Frame) → IsAlmostGuarded places layout.frames (follows.Sweep frame) (mine_of m.0.known.mines) m.0.caching → places ≤ upto_of frame.0 n.0.caching.cleared → IsGuarded places (mine_of n.0.known.mines) n.0.caching
    guard-one frame guarded swept some f listed = elim (guarded (pages-was some) f (locked-was f listed)) [
      | inl is ↦ subst (λ (g : ℕ). places ≤ upto_of g n.0.caching.cleared) (sym is) swept
      | inr was ↦ let grows : upto_of f m.0.caching.cleared ≤ upto_of f n.0.caching.cleared = on.grows f in omega (arith, was, grows)
    ]

-- where nothing is to be swept, all was guarded
pub guard-still : (places frames : ℕ) (follow : Follow) (v : View) (k : Caching) → ((f : ℕ) → IsToSweep frames follow f → ⊥) → IsAlmostGuarded places frames follow v k → IsGuarded places v k
guard-still places frames follow v k none guarded some f listed = elim (guarded some f listed) [
  | inl sweep ↦ absurd (none f sweep)
  | inr was ↦ was
]

-- a fill follows a load of the translation
abbrev filled-slot : Follow → Option VSlot
filled-slot (follows.Fill slot) = Some slot
filled-slot follow = None

not-fill : (b : Bool) (x : Follow) (slot : VSlot) → filled-slot x ≡ None → cond b x follows.Nothing ≡ follows.Fill slot → ⊥
not-fill true x slot none is = none-some slot (sym none ∙ ap filled-slot is)
not-fill false x slot none is = none-some slot (ap filled-slot is)

load-is : (place : SharedWord) (found : ℕ) (slot : VSlot) → follow_of (steps.Load place) found ≡ follows.Fill slot → steps.Load place ≡ load_of slot
load-is (shared.Trans other) found slot is = ap load_of (same_Some other slot (ap filled-slot is))
load-is place found slot is = absurd (none-some slot (ap filled-slot is))

pub is-load : (step : Step) (found : ℕ) (slot : VSlot) → follow_of step found ≡ follows.Fill slot → step ≡ load_of slot
is-load (steps.Load place) found slot is = load-is place found slot is
is-load (steps.LockFrame frame) found slot is = absurd (not-fill (goes (steps.LockFrame frame) found) (follows.Sweep frame) slot refl is)
is-load (steps.LockPage page) found slot is = absurd (not-fill (goes (steps.LockPage page) found) follows.SweepAll slot refl is)
is-load step found slot is = absurd (none-some slot (ap filled-slot is))

-- without ways there is nothing to guard
pub guard-bare : (ways cpus : ℕ) (v : View) (k : Caching) → ways ≡ 0 → IsGuarded (ways * cpus) v k
guard-bare ways cpus v k none some f listed = let zero-places : ways * cpus ≡ 0 = ap (λ (n : ℕ). n * cpus) none ∙ zero-mul cpus in omega (arith, zero-places)

-- one slot more is swept
pub swept-next : (places frames i : ℕ) (xs : List ℕ) (x : ℕ) (k l : Caching) → slice_get xs i ≡ Some x → ((f : ℕ) → upto_of f k.cleared ≤ upto_of f l.cleared) → (x < frames → places ≤ upto_of x l.cleared)
    → ((j f : ℕ) → j < i → slice_get xs j ≡ Some f → f < frames → places ≤ upto_of f k.cleared) → (j f : ℕ) → j < i + 1 → slice_get xs j ≡ Some f → f < frames → places ≤ upto_of f l.cleared
swept-next places frames i xs x k l at grows now before j f less e few = elim (same-or j i) [
  | inl same ↦
      let is : x ≡ f = same_Some x f (sym at ∙ ap (slice_get xs) (sym same) ∙ e) in
      subst (λ (g : ℕ). places ≤ upto_of g l.cleared) is (now (subst (λ (g : ℕ). g < frames) (sym is) few))
  | inr other ↦
      let was : places ≤ upto_of f k.cleared = before j f (omega (arith, less, other)) e few in
      let more : upto_of f k.cleared ≤ upto_of f l.cleared = grows f in
      omega (arith, was, more)
]
