-- Policies read one thread after another: what is read so far, and which thread is next.
use Rattle.std.proofs.Common.{inl, inr, arith, ◌≡◌, ℕ, ◌+◌, ◌-◌, ◌<◌, ◌≤◌, List, Option, Some, None, ◌⊎◌, length, true, false, refl, sym, subst, ap, ◌∙◌, get_or, IsTrue}
use Rattle.std.proofs.lemmas.Bool.{cases_lt, both_ways}
use Rattle.std.proofs.lemmas.Option.{get_or_from_slice_get, slice_get-get_or, slice_get_within}
use Rattle.std.specs.Prelude.{All, IsSomeAnd, slice_get}
use Rattle.std.specs.Ordering.{nat_cmp}
use Rattle.std.specs.FinSet as set
use Rattle.hwp_geom.specs.declared.Layout.{Layout}
use Rattle.hwp_geom.specs.declared.Proc.{Proc}
use Rattle.hwp_geom.specs.declared.Thread.{Thread}
use Rattle.hwp_geom.specs.declared.ThreadDecl.{ThreadDecl}
use Rattle.hwp_geom.specs.Layout.{IsSound}
use Rattle.hwp_kill.specs.declared.types.Seen.{Seen}
use Rattle.hwp_kill.specs.Kill.{is_early, IsAsked, IsEarly, IsIn, Names, PoliciesRead, StandsBefore}
use Rattle.hwp_kill.specs.Next.{HasNoneLeft, IsFirstLeft, IsFrom, IsNextToRead, IsReadSoFar, IsStart, StandsBelow}
use Rattle.hwp_kill.proofs.PolicyOwners.{nobody, process_declared, same_owner, within_threads}

abbrev number : Proc → ℕ
number p = p.0

-- what stands before, of the process that it is of
below-at : (o : Option ThreadDecl) (p q : Proc) (a b : ℕ) → IsSomeAnd o (λ d. (d.process.0 < q.0) ⊎ ((d.process ≡ q) × (a < b))) → IsSomeAnd o (λ d. d.process ≡ p) → (p.0 < q.0) ⊎ ((p ≡ q) × (a < b))
below-at None p q a b h own = absurd h
below-at (Some d) p q a b (inl less) own = inl (let e = ap number own in omega arith)
below-at (Some d) p q a b (inr same) own = inr (sym own ∙ same.0, same.1)

pub below-of : (layout : Layout) (x : Seen) (p q : Proc) (t : Thread) → StandsBelow layout q t x → IsIn layout x.thread p → (p.0 < q.0) ⊎ ((p ≡ q) × (x.thread.0 < t.0))
below-of layout x p q t = below-at (slice_get layout.threads x.thread.0) p q x.thread.0 t.0

-- and the other way round
pub at-below : (o : Option ThreadDecl) (p q : Proc) (a b : ℕ) → (p.0 < q.0) ⊎ ((p ≡ q) × (a < b)) → IsSomeAnd o (λ d. d.process ≡ p) → IsSomeAnd o (λ d. (d.process.0 < q.0) ⊎ ((d.process ≡ q) × (a < b)))
at-below None p q a b h own = absurd own
at-below (Some d) p q a b (inl less) own = inl (let e = ap number own in omega arith)
at-below (Some d) p q a b (inr same) own = inr (own ∙ same.0, same.1)

-- an entry stands before another where it stands before the other's thread
pub before-at : (o u : Option ThreadDecl) (q : Proc) (a b : ℕ) → IsSomeAnd o (λ d. (d.process.0 < q.0) ⊎ ((d.process ≡ q) × (a < b))) → IsSomeAnd u (λ d. d.process ≡ q)
    → IsSomeAnd o (λ s. IsSomeAnd u (λ t. (s.process.0 < t.process.0) ⊎ ((s.process ≡ t.process) × (a < b))))
before-at None u q a b h own = absurd h
before-at (Some d) None q a b h own = absurd own
before-at (Some d) (Some e) q a b (inl less) own = inl (let n = ap number own in omega arith)
before-at (Some d) (Some e) q a b (inr same) own = inr (same.0 ∙ sym own, same.1)

pub at-before : (o u : Option ThreadDecl) (p q : Proc) (a b : ℕ) → IsSomeAnd o (λ s. IsSomeAnd u (λ t. (s.process.0 < t.process.0) ⊎ ((s.process ≡ t.process) × (a < b)))) → IsSomeAnd o (λ d. d.process ≡ p) → IsSomeAnd u (λ d. d.process ≡ q)
    → (p.0 < q.0) ⊎ ((p ≡ q) × (a < b))
at-before None u p q a b h own other = absurd h
at-before (Some d) None p q a b h own other = absurd h
at-before (Some d) (Some e) p q a b (inl less) own other = inl (let n = ap number own in let m = ap number other in omega arith)
at-before (Some d) (Some e) p q a b (inr same) own other = inr (sym own ∙ same.0 ∙ other, same.1)

-- the list's last entry
pub record IsLast (seen : List Seen) (s : Seen) : Type 0 where
  pub at : ℕ
  pub end : at + 1 ≡ length seen
  pub is : (d : Seen) → get_or seen at d ≡ s

pub last-is : (seen : List Seen) (s : Seen) → Some s ≡ slice_get seen (length seen - 1) → IsLast seen s
last-is seen s is =
    let within : length seen - 1 < length seen = slice_get_within seen (length seen - 1) s (sym is) in
    record { at = length seen - 1; end = omega arith; is = λ d. get_or_from_slice_get seen (length seen - 1) s d (sym is) }

module _ {layout : Layout} {maps : set.FinSet nat_cmp} {current : Option Thread} {seen : List Seen} (read : IsReadSoFar layout maps current seen) where
  -- a thread that stands behind all is none of them
  ahead-unnamed : (t : Thread) (p : Proc) → IsIn layout t p → All (StandsBelow layout p t) seen → Names seen t → ⊥
  ahead-unnamed t p own behind (k, x, within, is, same) =
      let there : StandsBelow layout p t x = subst (λ (y : Seen). StandsBelow layout p t y) is (behind k x within) in
      let mine : IsIn layout x.thread p = subst (λ (u : Thread). IsIn layout u p) (sym same) own in
      let e : x.thread.0 ≡ t.0 = ap (λ (u : Thread). u.0) same in
      elim (below-of layout x p p t there mine) [
        | inl less ↦ omega arith
        | inr equal ↦ let l = equal.1 in omega arith
      ]

  pub left-behind : (t : Thread) (p : Proc) → IsAsked layout maps current seen t p → (Names seen t → ⊥) → All (StandsBelow layout p t) seen
  left-behind t p asked unnamed = elim (read.ahead t p asked) [
    | inl named ↦ absurd (unnamed named)
    | inr behind ↦ behind
  ]

  -- nothing left: all is read
  pub all-read : ((p : Proc) → HasNoneLeft layout maps current seen p) → PoliciesRead layout maps current seen
  all-read none = record {
    each = λ t. (
      read.named t,
      λ asked. elim (read.ahead t asked.0 asked.1) [
        | inl named ↦ named
        | inr behind ↦ absurd (none asked.0 t asked.1 (ahead-unnamed t asked.0 asked.1.own behind))
      ],
    );
    rising = read.rising;
  }

  -- the first of the first process with one
  pub next-found : (n : ℕ) (t : Thread) → ((p : Proc) → p.0 < n → HasNoneLeft layout maps current seen p) → IsFirstLeft layout maps current seen (record { 0 = n }) t → IsNextToRead layout maps current seen t
  next-found n t none found = record {
    process = record { 0 = n };
    asked = found.asked;
    unnamed = found.unnamed;
    first = λ other p asked. elim (read.ahead other p asked) [
      | inl named ↦ inl named
      | inr behind ↦ inr (which other p asked (ahead-unnamed other p asked.own behind))
    ];
  }
    where
      which : (other : Thread) (p : Proc) → IsAsked layout maps current seen other p → (Names seen other → ⊥) → (n < p.0) ⊎ ((record { 0 = n } ≡ p) × (t.0 ≤ other.0))
      which other p asked unnamed = elim (cases_lt p.0 n) [
        | inl less ↦ absurd (none p less other asked unnamed)
        | inr above ↦ elim (cases_lt n p.0) [
          | inl more ↦ inl more
          | inr equal ↦
              let same : p ≡ record { 0 = n } = ap (λ (k : ℕ). record { 0 = k }) (omega arith) in
              inr (sym same, found.lowest other (subst (λ (q : Proc). IsAsked layout maps current seen other q) same asked) unnamed)
        ]
      ]

  -- the last one's process
  pub owner-of : (s : Seen) → IsLast seen s → (process : Proc) × IsAsked layout maps current seen s.thread process
  owner-of s last = read.named s.thread (last.at, s, (let e = last.end in omega arith), last.is s, refl)

  module _ (s : Seen) (last : IsLast seen s) (owner : Proc) (asked-last : IsAsked layout maps current seen s.thread owner) where
    inside : last.at < length seen
    inside = let e = last.end in omega arith

    own-last : IsIn layout s.thread owner
    own-last = asked-last.own

    -- an entry is the last or stands before it
    last-or-before : (k : ℕ) (x : Seen) → k < length seen → get_or seen k x ≡ x → (x ≡ s) ⊎ StandsBefore layout x s
    last-or-before k x within is = elim (cases_lt k last.at) [
      | inl less ↦ inr (subst (λ (y : Seen). StandsBefore layout y s) is (subst (λ (y : Seen). StandsBefore layout (get_or seen k x) y) (last.is x) (read.rising k last.at x less inside)))
      | inr above ↦
          let e = last.end in
          let same : k ≡ last.at = omega arith in
          inl (sym is ∙ ap (λ (j : ℕ). get_or seen j x) same ∙ last.is x)
    ]

    -- where the process of an entry stands
    entry-below : (k : ℕ) (x : Seen) (p : Proc) → k < length seen → get_or seen k x ≡ x → IsIn layout x.thread p → (x ≡ s) ⊎ ((p.0 < owner.0) ⊎ ((p ≡ owner) × (x.thread.0 < s.thread.0)))
    entry-below k x p within is own = elim (last-or-before k x within is) [
      | inl same ↦ inl same
      | inr before ↦ inr (at-before (slice_get layout.threads x.thread.0) (slice_get layout.threads s.thread.0) p owner x.thread.0 s.thread.0 before own own-last)
    ]

    -- a thread of the list isn't behind the last one
    named-below : (t : Thread) (p : Proc) → IsIn layout t p → Names seen t → (p.0 < owner.0) ⊎ ((p ≡ owner) × (t.0 ≤ s.thread.0))
    named-below t p own (k, x, within, is, same) =
        let e : x.thread.0 ≡ t.0 = ap (λ (u : Thread). u.0) same in
        let mine : IsIn layout x.thread p = subst (λ (u : Thread). IsIn layout u p) (sym same) own in
        elim (entry-below k x p within is mine) [
          | inl is-last ↦
              let there : IsIn layout s.thread p = subst (λ (y : Seen). IsIn layout y.thread p) is-last mine in
              let f : x.thread.0 ≡ s.thread.0 = ap (λ (y : Seen). y.thread.0) is-last in
              inr (same_owner layout s.thread p owner there own-last, omega arith)
          | inr before ↦ elim before [
            | inl less ↦ inl less
            | inr equal ↦ let l = equal.1 in inr (equal.0, omega arith)
          ]
        ]

    -- an early one of its process is the last one
    early-where : (p : Proc) (other : Thread) → IsEarly layout seen p other → (p.0 < owner.0) ⊎ ((p ≡ owner) × IsTrue (is_early layout s.policy))
    early-where p other early = elim (entry-below early.early.0 early.early.1 p early.early.2 early.early.3 mine) [
      | inl is-last ↦
          let there : IsIn layout s.thread p = subst (λ (y : Seen). IsIn layout y.thread p) is-last mine in
          inr (same_owner layout s.thread p owner there own-last, subst (λ (y : Seen). IsTrue (is_early layout y.policy)) is-last early.early.4.1)
      | inr before ↦ elim before [
        | inl less ↦ inl less
        | inr equal ↦
            let e : early.early.1.thread.0 ≡ other.0 = ap (λ (u : Thread). u.0) early.early.4.0 in
            let l = equal.1 in
            absurd (asked-last.first other (omega arith) (subst (λ (q : Proc). IsEarly layout seen q other) equal.0 early))
      ]
    ]
      where
        mine : IsIn layout early.early.1.thread p
        mine = subst (λ (u : Thread). IsIn layout u p) (sym early.early.4.0) early.own

    -- what is left stands behind the last one
    left-after : (t : Thread) (p : Proc) → IsAsked layout maps current seen t p → (Names seen t → ⊥) → (owner.0 < p.0) ⊎ ((owner ≡ p) × (s.thread.0 < t.0))
    left-after t p asked unnamed =
        let behind : StandsBelow layout p t s = subst (λ (y : Seen). StandsBelow layout p t y) (last.is s) (left-behind t p asked unnamed last.at s inside) in
        below-of layout s owner p t behind own-last

    pub start-late : is_early layout s.policy ≡ false → IsStart layout maps current seen owner.0 (s.thread.0 + 1)
    start-late late = record {
      open_from = λ t p own uses other from. (
        record {
          own = own;
          uses = uses;
          other = other;
          first = λ u less early. elim (early-where p u early) [
            | inl under ↦ behind p t from (inl under)
            | inr same ↦ both_ways true (sym same.1 ∙ late) refl
          ];
        },
        λ named. behind p t from (named-below t p own named),
      );
      left = λ t p asked unnamed. elim (left-after t p asked unnamed) [
        | inl less ↦ inl less
        | inr same ↦ let l = same.1 in inr (ap number same.0, omega arith)
      ];
    }
      where
        behind : (p : Proc) (t : Thread) → IsFrom owner.0 (s.thread.0 + 1) p t → (p.0 < owner.0) ⊎ ((p ≡ owner) × (t.0 ≤ s.thread.0)) → ⊥
        behind p t (inl above) (inl less) = omega arith
        behind p t (inl above) (inr same) = let e = ap number same.0 in omega arith
        behind p t (inr here) (inl less) = let e = here.0 in omega arith
        behind p t (inr here) (inr same) = let l = here.1 in let m = same.1 in omega arith

    pub start-early : is_early layout s.policy ≡ true → IsStart layout maps current seen (owner.0 + 1) 0
    start-early early = record {
      open_from = λ t p own uses other from. (
        record {
          own = own;
          uses = uses;
          other = other;
          first = λ u less was. elim (early-where p u was) [
            | inl under ↦ behind p t from (omega arith)
            | inr same ↦ let e = ap number same.0 in behind p t from (omega arith)
          ];
        },
        λ named. elim (named-below t p own named) [
          | inl under ↦ behind p t from (omega arith)
          | inr same ↦ let e = ap number same.0 in behind p t from (omega arith)
        ],
      );
      left = λ t p asked unnamed. elim (left-after t p asked unnamed) [
        | inl less ↦ elim (cases_lt (owner.0 + 1) p.0) [
          | inl more ↦ inl more
          | inr next ↦ inr (omega arith, omega arith)
        ]
        | inr same ↦ absurd (asked.first s.thread same.1 (record {
          own = subst (λ (q : Proc). IsIn layout s.thread q) same.0 own-last;
          early = (last.at, s, inside, last.is s, (refl, early));
        }))
      ];
    }
      where
        behind : (p : Proc) (t : Thread) → IsFrom (owner.0 + 1) 0 p t → p.0 ≤ owner.0 → ⊥
        behind p t (inl above) under = omega arith
        behind p t (inr here) under = let e = here.0 in omega arith

    -- the process that is declared for the last thread
    pub owner-is : (d : ThreadDecl) → (get_or layout.threads s.thread.0 d).process ≡ owner
    owner-is d =
        let within = within_threads layout s.thread owner own-last in
        rw (slice_get-get_or layout.threads s.thread.0 d within) at own-last

    pub last-within : s.thread.0 < length layout.threads
    last-within = within_threads layout s.thread owner own-last

-- the processes that are declared are done
pub all-done : {layout : Layout} {maps : set.FinSet nat_cmp} {current : Option Thread} {seen : List Seen} → IsSound layout → IsReadSoFar layout maps current seen
    → (n : ℕ) → ((p : Proc) → p.0 < n → HasNoneLeft layout maps current seen p) → layout.procs ≤ n → PoliciesRead layout maps current seen
all-done {layout} {maps} {current} {seen} sound read n none done = all-read read (λ p t asked unnamed.
    let within = within_threads layout t p asked.own in
    let declared = process_declared layout t.0 nobody sound within in
    let is : (get_or layout.threads t.0 nobody).process ≡ p = rw (slice_get-get_or layout.threads t.0 nobody within) at asked.own in
    let e = ap number is in
    none p (omega arith) t asked unnamed)
