-- What the order of the slots that a seat carries says of its locks: a slot below the number of frames is a frame's, one from there on
-- is a page's.
use Rattle.std.proofs.Common.{◌≡◌, ℕ, suc, ◌+◌, ◌<◌, ◌≤◌, ◌==◌, Bool, true, false, Any, List, [], ◌∷◌, map, length, refl, sym, ap, ◌∙◌, subst, arith}
use Rattle.std.specs.Int.{from_bool}
use Rattle.std.proofs.lemmas.Bool.{eqb-true}
use Rattle.std.proofs.lemmas.List.{length-map}
use Rattle.hwp_core_rule.specs.hwp_geom.declared.Layout.{Layout}
use Rattle.hwp_core_rule.specs.declared.PageLock.{PageLock}
use Rattle.hwp_core_rule.specs.declared.View.{View}
use Rattle.hwp_core_rule.specs.Views.{locks_on}
use Rattle.hwp_core_rule.proofs.Lists.{from_bool-other, from_bool-same}
use Rattle.hwp_table_words.specs.tlb.Rule.{frames_of, times}
use Rattle.hwp_table_words.proofs.tlb.LockSlots.{pages_of}
use Rattle.hwp_table_words.proofs.tlb.LockTimes.{times-append, times-cons, times-frames}
use Rattle.hwp_table_words.specs.Seats.{Carries}
use Rattle.hwp_table_words.specs.Stands.{Content}

-- a number that is in a list has a place there
pub any-times : (P : ℕ → Type 0) (n : ℕ) (list : List ℕ) → 0 < times n list → P n → Any P list
any-times P n [] some p = absurd (omega (arith, some))
any-times P n (x ∷ xs) some p = which (x == n) refl (any-times P n xs)
  where
    which : (b : Bool) → (x == n) ≡ b → (0 < times n xs → P n → Any P xs) → Any P (x ∷ xs)
    which true is rest = (0, x, omega arith, refl, subst P (sym (eqb-true x n is)) p)
    which false isnt rest =
        let all : times n (x ∷ xs) ≡ from_bool (x == n) + times n xs = times-cons n x xs in
        let none : from_bool (x == n) ≡ 0 = ap from_bool isnt in
        let at = rest (omega (arith, all, none, some)) p in
        (suc at.0, at.1, let less : at.0 < length xs = at.2 in omega (arith, less), at.3, at.4)

-- no slot of a page is a frame's
none-below : (frames f : ℕ) (pages : List ℕ) → f < frames → times f (map (λ (q : ℕ). frames + q) pages) ≡ 0
none-below frames f [] less = refl
none-below frames f (q ∷ qs) less =
    let all : times f ((frames + q) ∷ map (λ (q : ℕ). frames + q) qs) ≡ from_bool (frames + q == f) + times f (map (λ (q : ℕ). frames + q) qs) = times-cons f (frames + q) (map (λ (q : ℕ). frames + q) qs) in
    let none : from_bool (frames + q == f) ≡ 0 = from_bool-other (frames + q) f (λ e. omega (arith, e, less)) in
    let rest : times f (map (λ (q : ℕ). frames + q) qs) ≡ 0 = none-below frames f qs less in
    omega (arith, all, none, rest)

-- and a page that is locked has a slot
page-slot : (frames : ℕ) (pages : List ℕ) → 0 < length pages → (slot : ℕ) × (frames ≤ slot) × (0 < times slot (map (λ (q : ℕ). frames + q) pages))
page-slot frames [] some = absurd (omega (arith, some))
page-slot frames (q ∷ qs) some =
    let all : times (frames + q) ((frames + q) ∷ map (λ (q : ℕ). frames + q) qs) ≡ from_bool (frames + q == frames + q) + times (frames + q) (map (λ (q : ℕ). frames + q) qs) = times-cons (frames + q) (frames + q) (map (λ (q : ℕ). frames + q) qs) in
    let one : from_bool (frames + q == frames + q) ≡ 1 = from_bool-same (frames + q) (frames + q) refl in
    (frames + q, omega arith, omega (arith, all, one))

module _ (layout : Layout) (v : View) (slots : List (ℕ × Content)) (order : List ℕ) (carries : Carries layout v slots order) where
  abbrev page-slots : List ℕ
  page-slots = map (λ (q : ℕ). layout.frames + q) (pages_of v.pages)

  counts : (n : ℕ) → times n order ≡ locks_on n v.locks + times n page-slots
  counts n = carries.same n ∙ times-append n (frames_of v.locks) page-slots ∙ ap (λ (m : ℕ). m + times n page-slots) (times-frames n v.locks)

  -- the slot of a frame that is carried is that of a lock of the view
  pub order-lock : (f : ℕ) → f < layout.frames → 0 < times f order → 0 < locks_on f v.locks
  order-lock f less some =
      let all : times f order ≡ locks_on f v.locks + times f page-slots = counts f in
      let none : times f page-slots ≡ 0 = none-below layout.frames f (pages_of v.pages) less in
      omega (arith, all, none, some)

  pub order-listed : (f : ℕ) → f < layout.frames → 0 < times f order → 0 < times f (frames_of v.locks)
  order-listed f less some = subst (λ (n : ℕ). 0 < n) (sym (times-frames f v.locks)) (order-lock f less some)

  -- the lock of a frame has its slot carried
  pub lock-order : (f : ℕ) → 0 < locks_on f v.locks → 0 < times f order
  lock-order f some = let all : times f order ≡ locks_on f v.locks + times f page-slots = counts f in omega (arith, all, some)

  -- where no page's slot is carried, no page is locked
  pub no-page : (Any (λ (slot : ℕ). layout.frames ≤ slot) order → ⊥) → 0 < length v.pages → ⊥
  no-page none some =
      let slot = page-slot layout.frames (pages_of v.pages) (subst (λ (n : ℕ). 0 < n) (sym (length-map v.pages (λ (l : PageLock). l.page.0))) some) in
      none (any-times (λ (n : ℕ). layout.frames ≤ n) slot.0 order (let all : times slot.0 order ≡ locks_on slot.0 v.locks + times slot.0 page-slots = counts slot.0 in let there : 0 < times slot.0 page-slots = slot.2 in omega (arith, all, there)) slot.1)
