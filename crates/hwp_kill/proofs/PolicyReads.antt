-- One thread's policy more is read; and no more are read than there are threads.
use Rattle.std.proofs.Common.{inl, inr, arith, ◌≡◌, ◌≢◌, ℕ, zero, suc, ◌<◌, ◌≤◌, ◌++◌, cond, nat_lt, Bool, true, List, [], ◌∷◌, Option, ◌⊎◌, length, refl, sym, subst, ap, ◌∙◌, get_or}
use Rattle.std.proofs.lemmas.Bool.{cases_lt, lt-ltb, le-ltb}
use Rattle.std.proofs.lemmas.List.Elements.{All-push, Contains-append_left, Contains-get_or, Contains-push, Contains-push_cases}
use Rattle.std.proofs.lemmas.List.{length_push}
use Rattle.std.proofs.lemmas.List.Quantifiers.{all_pairs_push}
use Rattle.std.specs.Prelude.{All, Any, Contains, slice_get}
use Rattle.std.specs.Ordering.{nat_cmp}
use Rattle.std.specs.FinSet as set
use Rattle.hwp_geom.specs.declared.Layout.{Layout}
use Rattle.hwp_geom.specs.declared.Proc.{Proc}
use Rattle.hwp_geom.specs.declared.Thread.{Thread}
use Rattle.hwp_kill.specs.declared.types.Policy.TheVariants.{Late}
use Rattle.hwp_kill.specs.declared.types.Seen.{Seen}
use Rattle.hwp_kill.specs.Kill.{is_early, IsAsked, IsIn, Names, StandsBefore}
use Rattle.hwp_kill.specs.Next.{IsNextToRead, IsReadSoFar, StandsBelow}
use Rattle.hwp_kill.proofs.NextLaws.{at-below, at-before, before-at, below-of, left-behind}
use Rattle.hwp_kill.proofs.PolicyOwners.{same_owner, within_threads}

-- nothing read yet
pub read-none : (layout : Layout) (maps : set.FinSet nat_cmp) (current : Option Thread) → IsReadSoFar layout maps current []
read-none layout maps current = record {
  named = λ t named. absurd (let w = named.2 in omega arith);
  rising = λ i j d less within. absurd (omega arith);
  ahead = λ t p asked. inr (λ k d within. absurd (omega arith));
}

any-more : {P : Seen → Type 0} (xs : List Seen) (e : Seen) → Any P xs → Any P (xs ++ e ∷ [])
any-more xs e (k, x, within, is, holds) = let has : Contains (xs ++ e ∷ []) x = Contains-append_left xs (e ∷ []) x (k, within, is) in (has.0, x, has.1, has.2, holds)

any-new : {P : Seen → Type 0} (xs : List Seen) (e : Seen) → P e → Any P (xs ++ e ∷ [])
any-new xs e holds = let has : Contains (xs ++ e ∷ []) e = Contains-push xs e in (has.0, e, has.1, has.2, holds)

any-cases : (P : Seen → Type 0) (xs : List Seen) (e : Seen) → Any P (xs ++ e ∷ []) → Any P xs ⊎ P e
any-cases P xs e (k, x, within, is, holds) = elim (Contains-push_cases xs e x (k, within, is)) [
  | inl has ↦ inl (has.0, x, has.1, has.2, holds)
  | inr new ↦ inr (subst P (sym new) holds)
]

module _ {layout : Layout} {maps : set.FinSet nat_cmp} {current : Option Thread} {seen : List Seen} (read : IsReadSoFar layout maps current seen) (e : Seen) (next : IsNextToRead layout maps current seen e.thread) where
  abbrev longer : List Seen
  longer = seen ++ e ∷ []

  before : All (StandsBelow layout next.process e.thread) seen
  before = left-behind read e.thread next.process next.asked next.unnamed

  asked-before : (t : Thread) (p : Proc) → IsAsked layout maps current longer t p → IsAsked layout maps current seen t p
  asked-before t p asked = record {
    own = asked.own;
    uses = asked.uses;
    other = asked.other;
    first = λ u less early. asked.first u less (record { own = early.own; early = any-more seen e early.early });
  }

  asked-still : (t : Thread) (p : Proc) → IsAsked layout maps current seen t p → (IsIn layout e.thread p → e.thread.0 < t.0 → ⊥) → IsAsked layout maps current longer t p
  asked-still t p asked behind = record {
    own = asked.own;
    uses = asked.uses;
    other = asked.other;
    first = λ u less early. elim (any-cases (λ (s : Seen). (s.thread ≡ u) × (is_early layout s.policy ≡ true)) seen e early.early) [
      | inl old ↦ asked.first u less (record { own = early.own; early = old })
      | inr new ↦ let same = ap (λ (v : Thread). v.0) new.0 in behind (subst (λ (v : Thread). IsIn layout v p) (sym new.0) early.own) (omega arith)
    ];
  }

  -- no named thread stands behind the new one
  named-before : (t : Thread) (p : Proc) → Names seen t → IsIn layout t p → IsIn layout e.thread p → e.thread.0 < t.0 → ⊥
  named-before t p (k, x, within, is, same) own there less =
      let stands : StandsBelow layout next.process e.thread x = subst (λ (y : Seen). StandsBelow layout next.process e.thread y) is (before k x within) in
      let mine : IsIn layout x.thread p = subst (λ (v : Thread). IsIn layout v p) (sym same) own in
      let one : p ≡ next.process = same_owner layout e.thread p next.process there next.asked.own in
      let n = ap (λ (q : Proc). q.0) one in
      let m = ap (λ (v : Thread). v.0) same in
      elim (below-of layout x p next.process e.thread stands mine) [
        | inl lower ↦ omega arith
        | inr equal ↦ let l = equal.1 in omega arith
      ]

  -- the next thread's policy read
  pub read-more : IsReadSoFar layout maps current (seen ++ e ∷ [])
  read-more = record {
    named = λ t named. elim (any-cases (λ (s : Seen). s.thread ≡ t) seen e named) [
      | inl old ↦ let asked = read.named t old in (asked.0, asked-still t asked.0 asked.1 (named-before t asked.0 old asked.1.own))
      | inr new ↦ (next.process, subst (λ (v : Thread). IsAsked layout maps current longer v next.process) new (asked-still e.thread next.process next.asked (λ own less. omega arith)))
    ];
    rising = all_pairs_push (StandsBefore layout) seen e read.rising (λ k d within.
        before-at (slice_get layout.threads (get_or seen k d).thread.0) (slice_get layout.threads e.thread.0) next.process (get_or seen k d).thread.0 e.thread.0 (before k d within) next.asked.own);
    ahead = λ t p asked. place t p (asked-before t p asked);
  }
    where
      stands : (t : Thread) (p : Proc) → (next.process.0 < p.0) ⊎ ((next.process ≡ p) × (e.thread.0 < t.0)) → StandsBelow layout p t e
      stands t p below = at-below (slice_get layout.threads e.thread.0) next.process p e.thread.0 t.0 below next.asked.own

      place : (t : Thread) (p : Proc) → IsAsked layout maps current seen t p → Names longer t ⊎ All (StandsBelow layout p t) longer
      place t p old = elim (read.ahead t p old) [
        | inl named ↦ inl (any-more seen e named)
        | inr behind ↦ elim (next.first t p old) [
          | inl named ↦ inl (any-more seen e named)
          | inr later ↦ elim later [
            | inl less ↦ inr (All-push (StandsBelow layout p t) seen e behind (stands t p (inl less)))
            | inr same ↦ elim (cases_lt e.thread.0 t.0) [
              | inl less ↦ inr (All-push (StandsBelow layout p t) seen e behind (stands t p (inr (same.0, less))))
              | inr up ↦ let l = same.1 in inl (any-new seen e (ap (λ (k : ℕ). record { 0 = k }) (omega arith)))
            ]
          ]
        ]
      ]

-- numbers below n, no two of them equal, are at most n
at-most : (n m : ℕ) (f : ℕ → ℕ) → ((i : ℕ) → i < m → f i < n) → ((i j : ℕ) → i < j → j < m → f i ≢ f j) → m ≤ n
at-most n zero f below apart = omega arith
at-most zero (suc m) f below apart = absurd (let b = below m (omega arith) in omega arith)
at-most (suc n) (suc m) f below apart = let rest = at-most n m g g-below g-apart in omega arith
  where
    g : ℕ → ℕ
    g i = cond (nat_lt (f i) n) (f i) (f m)

    low : (i : ℕ) → f i < n → g i ≡ f i
    low i less = ap (λ (b : Bool). cond b (f i) (f m)) (lt-ltb (f i) n less)

    high : (i : ℕ) → n ≤ f i → g i ≡ f m
    high i more = ap (λ (b : Bool). cond b (f i) (f m)) (le-ltb (f i) n more)

    top : (i : ℕ) → i < m → n ≤ f i → f i ≡ n
    top i within more = let b : f i < suc n = below i (omega arith) in omega arith

    -- where one reaches n, the last doesn't
    last : (i : ℕ) → i < m → n ≤ f i → f m < n
    last i within more = elim (cases_lt (f m) n) [
      | inl less ↦ less
      | inr same ↦
          let b : f m < suc n = below m (omega arith) in
          let t : f i ≡ n = top i within more in
          absurd (apart i m within (omega arith) (omega arith))
    ]

    g-below : (i : ℕ) → i < m → g i < n
    g-below i within = elim (cases_lt (f i) n) [
      | inl less ↦ let e : g i ≡ f i = low i less in omega (arith, e)
      | inr more ↦ let e : g i ≡ f m = high i more in let l = last i within more in omega (arith, e)
    ]

    g-apart : (i j : ℕ) → i < j → j < m → g i ≢ g j
    g-apart i j less within same = elim (cases_lt (f i) n) [
      | inl down ↦ elim (cases_lt (f j) n) [
        | inl down' ↦ apart i j less (omega arith) (sym (low i down) ∙ same ∙ low j down')
        | inr up' ↦ apart i m (omega arith) (omega arith) (sym (low i down) ∙ same ∙ high j up')
      ]
      | inr up ↦ elim (cases_lt (f j) n) [
        | inl down' ↦ apart j m within (omega arith) (sym (low j down') ∙ sym same ∙ high i up)
        | inr up' ↦ apart i j less (omega arith) (top i (omega arith) up ∙ sym (top j within up'))
      ]
    ]

module _ {layout : Layout} {maps : set.FinSet nat_cmp} {current : Option Thread} {seen : List Seen} (read : IsReadSoFar layout maps current seen) where
  abbrev nobody : Seen
  nobody = record { thread = record { 0 = 0 }; policy = Late; n = 0 }

  named-at : (k : ℕ) → k < length seen → Names seen (get_or seen k nobody).thread
  named-at k within = let has = Contains-get_or seen k nobody within in (has.0, get_or seen k nobody, has.1, has.2, refl)

  -- each thread is read at most once
  pub read-few : length seen ≤ length layout.threads
  read-few = at-most (length layout.threads) (length seen) (λ (k : ℕ). (get_or seen k nobody).thread.0) declared apart
    where
      declared : (k : ℕ) → k < length seen → (get_or seen k nobody).thread.0 < length layout.threads
      declared k within = let asked = read.named (get_or seen k nobody).thread (named-at k within) in within_threads layout (get_or seen k nobody).thread asked.0 asked.1.own

      apart : (i j : ℕ) → i < j → j < length seen → (get_or seen i nobody).thread.0 ≢ (get_or seen j nobody).thread.0
      apart i j less within same =
          let a = read.named (get_or seen i nobody).thread (named-at i (omega arith)) in
          let b = read.named (get_or seen j nobody).thread (named-at j within) in
          let t : (get_or seen i nobody).thread ≡ (get_or seen j nobody).thread = ap (λ (k : ℕ). record { 0 = k }) same in
          let one : a.0 ≡ b.0 = same_owner layout (get_or seen j nobody).thread a.0 b.0 (subst (λ (v : Thread). IsIn layout v a.0) t a.1.own) b.1.own in
          let e = ap (λ (q : Proc). q.0) one in
          elim (at-before (slice_get layout.threads (get_or seen i nobody).thread.0) (slice_get layout.threads (get_or seen j nobody).thread.0) a.0 b.0 (get_or seen i nobody).thread.0 (get_or seen j nobody).thread.0
          (read.rising i j nobody less within) a.1.own b.1.own) [
            | inl lower ↦ omega arith
            | inr equal ↦ let l = equal.1 in omega arith
          ]

-- where one more is to be read, there are fewer so far
pub next-few : {layout : Layout} {maps : set.FinSet nat_cmp} {current : Option Thread} {seen : List Seen} → IsReadSoFar layout maps current seen → (thread : Thread) → IsNextToRead layout maps current seen thread → length seen < length layout.threads
next-few {layout} {maps} {current} {seen} read thread next =
    let e : Seen = record { thread = thread; policy = Late; n = 0 } in
    let few = read-few (read-more read e next) in
    let longer = length_push seen e in
    omega arith
