-- The signals that end a process, and the processes that an entry ends.
use Rattle.std.proofs.Common.{◌≡◌, inl, inr, ℕ, zero, suc, ◌==◌, ◌&&◌, ◌||◌, Bool, true, false, not, cond, List, [], ◌∷◌, Option, Some, None, slice_get, refl, sym, ap, ◌∙◌, subst}
use Rattle.std.proofs.lemmas.Bool.{both_ways, eqb-true}
use Rattle.std.proofs.lemmas.Option.{none-some, same_Some, get_or_from_slice_get, slice_get_within}
use Rattle.std.specs.List.{filter, list_any}
use Rattle.std.specs.Prelude.{Contains, IsSomeAnd}
use Rattle.std.specs.Ordering.{nat_cmp}
use Rattle.std.specs.FinSet as set
use Rattle.hwp_core.specs.hwp_geom.declared.Layout.{Layout}
use Rattle.hwp_core.specs.hwp_geom.declared.Proc.{Proc}
use Rattle.hwp_core.specs.hwp_geom.declared.Thread.{Thread}
use Rattle.hwp_core.specs.hwp_geom.declared.ThreadDecl.{ThreadDecl}
use Rattle.hwp_core.specs.hwp_kill.declared.Code.{Code}
use Rattle.hwp_core.specs.hwp_kill.declared.Code.TheVariants as codes
use Rattle.hwp_core.specs.hwp_kill.declared.Seen.{Seen}
use Rattle.hwp_core.specs.hwp_kill.declared.Signal.{Signal}
use Rattle.hwp_core.specs.hwp_kill.Kill.{IsIn, Killed, Reaches}
use Rattle.hwp_core.specs.hwp_page.Endings.{ends, is_ended_by}
use Rattle.hwp_core.specs.hwp_core_rule.Lists.{SomeMember}
use Rattle.hwp_core.proofs.of_hwp_core_rule.Lists.{same-number}
use Rattle.hwp_claim_act.specs.Abandons.{endings_of, is_unhandled, unhandled_at}

-- a member of a filtered list is one of the list that passes
pub filtered : {A : Type 0} (test : A → Bool) (l : List A) (i : ℕ) (x : A) → slice_get (filter test l) i ≡ Some x → (test x ≡ true) × SomeMember (λ (y : A). y ≡ x) l
filtered test [] i x is = absurd (none-some x is)
filtered {A} test (y ∷ ys) i x is = which (λ k at. let rest = filtered test ys k x at in (rest.0, (suc rest.1.0, rest.1.1, rest.1.2, rest.1.3))) (test y) refl is
  where
    first : ((k : ℕ) → slice_get (filter test ys) k ≡ Some x → (test x ≡ true) × SomeMember (λ (z : A). z ≡ x) (y ∷ ys)) → test y ≡ true → (k : ℕ) → slice_get (y ∷ filter test ys) k ≡ Some x → (test x ≡ true) × SomeMember (λ (z : A). z ≡ x) (y ∷ ys)
    first later passes zero at = let same : y ≡ x = same_Some y x at in (subst (λ (z : A). test z ≡ true) same passes, (0, y, refl, same))
    first later passes (suc k) at = later k at

    which : ((k : ℕ) → slice_get (filter test ys) k ≡ Some x → (test x ≡ true) × SomeMember (λ (z : A). z ≡ x) (y ∷ ys)) → (b : Bool) → test y ≡ b → slice_get (cond b (y ∷ filter test ys) (filter test ys)) i ≡ Some x → (test x ≡ true) × SomeMember (λ (z : A). z ≡ x) (y ∷ ys)
    which later true passes at = first later passes i at
    which later false fails at = later i at

-- and each that passes is in the filtered list
pub kept : {A : Type 0} (test : A → Bool) (l : List A) (i : ℕ) (x : A) → slice_get l i ≡ Some x → test x ≡ true → SomeMember (λ (y : A). y ≡ x) (filter test l)
kept test [] i x is passes = absurd (none-some x is)
kept {A} test (y ∷ ys) zero x is passes = subst (λ (b : Bool). SomeMember (λ (z : A). z ≡ x) (cond b (y ∷ filter test ys) (filter test ys))) (sym (subst (λ (z : A). test z ≡ true) (sym (same_Some y x is)) passes)) (0, y, refl, same_Some y x is)
kept {A} test (y ∷ ys) (suc i) x is passes = which (kept test ys i x is passes) (test y)
  where
    which : SomeMember (λ (z : A). z ≡ x) (filter test ys) → (b : Bool) → SomeMember (λ (z : A). z ≡ x) (cond b (y ∷ filter test ys) (filter test ys))
    which rest true = (suc rest.0, rest.1, rest.2, rest.3)
    which rest false = rest

or-true : (b : Bool) → (b || true) ≡ true
or-true true = refl
or-true false = refl

pub any-from : {A : Type 0} (test : A → Bool) (l : List A) (i : ℕ) (x : A) → slice_get l i ≡ Some x → test x ≡ true → list_any test l ≡ true
any-from test [] i x is passes = absurd (none-some x is)
any-from test (y ∷ ys) zero x is passes = ap (λ (b : Bool). b || list_any test ys) (ap test (same_Some y x is) ∙ passes)
any-from test (y ∷ ys) (suc i) x is passes = ap (λ (b : Bool). test y || b) (any-from test ys i x is passes) ∙ or-true (test y)

pub any-some : {A : Type 0} (test : A → Bool) (l : List A) → list_any test l ≡ true → SomeMember (λ (x : A). test x ≡ true) l
any-some test [] is = absurd (both_ways true (sym is) refl)
any-some {A} test (x ∷ xs) is = which (any-some test xs) (test x) refl is
  where
    which : (list_any test xs ≡ true → SomeMember (λ (y : A). test y ≡ true) xs) → (b : Bool) → test x ≡ b → (b || list_any test xs) ≡ true → SomeMember (λ (y : A). test y ≡ true) (x ∷ xs)
    which rest true passes is = (0, x, refl, passes)
    which rest false fails is = let some = rest is in (suc some.0, some.1, some.2, some.3)

-- a signal goes to a thread of its process
reached-in : (layout : Layout) (always : Bool) (current : Option Thread) (seen : List Seen) (process : Proc) (thread : Thread) (code : Code) → Reaches layout always current seen process thread code → IsIn layout thread process
reached-in layout always current seen process thread codes.Ar reaches = reaches.1
reached-in layout always current seen process thread codes.Ao (none, inl early) = early.early.own
reached-in layout always current seen process thread codes.Ao (none, inr told) = told.2.own

pub signal-in : (layout : Layout) (maps : set.FinSet nat_cmp) (at_all always : Bool) (current : Option Thread) (seen : List Seen) (signals : List Signal) → Killed layout maps at_all always current seen signals → (i : ℕ) (s : Signal) → slice_get signals i ≡ Some s → IsIn layout s.thread s.process
signal-in layout maps false always current seen signals none i s is = absurd (none-some s (sym (ap (λ (l : List Signal). slice_get l i) none) ∙ is))
signal-in layout maps true always current seen signals due i s is =
    let has : Contains signals s = (i, slice_get_within signals i s is, get_or_from_slice_get signals i s s is) in
    reached-in layout always current seen s.process s.thread s.code ((due.each s).0 has).thread

-- such a signal ends the process
ends-of : (o : Option ThreadDecl) (p : Proc) → IsSomeAnd o (λ (t : ThreadDecl). t.process ≡ p) → unhandled_at o ≡ true → is_ended_by p o ≡ true
ends-of None p own unhandled = absurd own
ends-of (Some t) p own unhandled = ap (λ (b : Bool). b && (t.process.0 == p.0)) unhandled ∙ same-number t.process.0 p.0 (ap (λ (q : Proc). q.0) own)

ends-which : (o : Option ThreadDecl) (p q : Proc) → IsSomeAnd o (λ (t : ThreadDecl). t.process ≡ p) → is_ended_by q o ≡ true → (unhandled_at o ≡ true) × (p ≡ q)
ends-which None p q own ended = absurd own
ends-which (Some t) p q own ended = which (not t.handler) refl ended
  where
    same-proc : (a b : Proc) → a.0 ≡ b.0 → a ≡ b
    same-proc a b e = λ i. record { 0 = e i }

    which : (b : Bool) → not t.handler ≡ b → (b && (t.process.0 == q.0)) ≡ true → (not t.handler ≡ true) × (p ≡ q)
    which true is ended = (is, sym own ∙ same-proc t.process q (eqb-true t.process.0 q.0 ended))
    which false is ended = absurd (both_ways true (sym ended) refl)

module _ (layout : Layout) (signals : List Signal) (in-process : (i : ℕ) (s : Signal) → slice_get signals i ≡ Some s → IsIn layout s.thread s.process) where
  -- an ending signal ends its process
  pub ending-ends : (i : ℕ) (s : Signal) → slice_get (endings_of layout signals) i ≡ Some s → list_any (λ (x : Signal). ends layout s.process x.thread) signals ≡ true
  ending-ends i s is =
      let has = filtered (is_unhandled layout) signals i s is in
      let at : slice_get signals has.1.0 ≡ Some s = has.1.2 ∙ ap (λ (x : Signal). Some x) has.1.3 in
      any-from (λ (x : Signal). ends layout s.process x.thread) signals has.1.0 s at (ends-of (slice_get layout.threads s.thread.0) s.process (in-process has.1.0 s at) has.0)

  -- and a process that ends has an ending signal
  pub ended-by-ending : (process : Proc) → list_any (λ (x : Signal). ends layout process x.thread) signals ≡ true → SomeMember (λ (s : Signal). s.process ≡ process) (endings_of layout signals)
  ended-by-ending process ended =
      let some = any-some (λ (x : Signal). ends layout process x.thread) signals ended in
      let why = ends-which (slice_get layout.threads some.1.thread.0) some.1.process process (in-process some.0 some.1 some.2) some.3 in
      let there = kept (is_unhandled layout) signals some.0 some.1 some.2 why.0 in
      (there.0, there.1, there.2, ap (λ (s : Signal). s.process) there.3 ∙ why.1)
