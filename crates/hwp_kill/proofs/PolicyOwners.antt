-- Whose policies the kill table reads, as the code tests it.
use Rattle.std.proofs.Common.{inl, inr, arith, ◌≡◌, ◌↔◌, ℕ, ◌<◌, Bool, true, false, List, Option, Some, None, length, refl, sym, subst, ◌∙◌, get_or, IsTrue}
use Rattle.std.specs.Prelude.{IsSomeAnd, is_some, slice_get}
use mathlib.Core.Bool.{beq, not}
use Rattle.std.specs.Ordering.{nat_cmp}
use Rattle.std.specs.Prelude.{All, AllPairs}
use Rattle.std.proofs.lemmas.Bool.{cases_lt}
use Rattle.std.proofs.lemmas.List.Elements.{All-get_or, Contains-get_or}
use Rattle.hwp_geom.specs.Layout.{IsSound}
use Rattle.std.specs.FinSet as set
use Rattle.std.proofs.lemmas.Option.{slice_get-get_or, slice_get_past}
use Rattle.hwp_geom.specs.declared.Layout.{Layout}
use Rattle.hwp_geom.specs.declared.Proc.{Proc}
use Rattle.hwp_geom.specs.declared.Thread.{Thread}
use Rattle.hwp_geom.specs.declared.ThreadDecl.{ThreadDecl}
use Rattle.hwp_geom.specs.declared.VSlot.{VSlot}
use Rattle.hwp_kill.specs.declared.types.Seen.{Seen}
use Rattle.hwp_kill.specs.Kill.{IsIn, Uses, IsLowestUsed, IsCurrent, HasNoEarlyBelow, IsAsked, Names, IsNamedIfAsked, StandsBefore, PoliciesRead}

owners : (o : Option ThreadDecl) (p q : Proc) → IsSomeAnd o (λ t. t.process ≡ p) → IsSomeAnd o (λ t. t.process ≡ q) → p ≡ q
owners None p q a b = absurd a
owners (Some t) p q a b = sym a ∙ b

-- a thread is one of one process
pub same_owner : (layout : Layout) (thread : Thread) (p q : Proc) → IsIn layout thread p → IsIn layout thread q → p ≡ q
same_owner layout thread p q a b = owners (slice_get layout.threads thread.0) p q a b

some_used : (layout : Layout) (maps : set.FinSet nat_cmp) (process : Proc) (found : Option VSlot)
    → IsLowestUsed layout maps process found → is_some found ≡ true → (slot : ℕ) × Uses layout maps process slot
some_used layout maps process None lowest some = absurd (cc)
some_used layout maps process (Some slot) lowest some = (slot.0, lowest.uses)

used_some : (layout : Layout) (maps : set.FinSet nat_cmp) (process : Proc) (found : Option VSlot) (slot : ℕ)
    → IsLowestUsed layout maps process found → Uses layout maps process slot → is_some found ≡ true
used_some layout maps process None slot lowest uses = absurd (lowest slot uses)
used_some layout maps process (Some found) slot lowest uses = refl

-- the code's test of a thread
abbrev pub Passes : Layout → Option Thread → List Seen → Proc → Thread → Bool → Type 0
Passes layout current seen process thread is_used =
    IsTrue is_used × (IsCurrent layout current process → ⊥) × HasNoEarlyBelow layout seen process thread

passed : (layout : Layout) (maps : set.FinSet nat_cmp) (current : Option Thread) (seen : List Seen) (process : Proc) (thread : Thread) (found : Option VSlot)
    → IsIn layout thread process → IsLowestUsed layout maps process found
    → Passes layout current seen process thread (is_some found) ↔ ((p : Proc) × IsAsked layout maps current seen thread p)
passed layout maps current seen process thread found own lowest = (
  λ passes. (
    process,
    record {
      own = own;
      uses = some_used layout maps process found lowest passes.0;
      other = passes.1;
      first = passes.2;
    },
  ),
  λ asked.
      let same : asked.0 ≡ process = same_owner layout thread asked.0 process asked.1.own own in
      let P : Proc → Type 0 = λ p. Uses layout maps p asked.1.uses.0 in
      let uses : Uses layout maps process asked.1.uses.0 = subst P same asked.1.uses.1 in
      let Q : Proc → Type 0 = λ p. IsCurrent layout current p → ⊥ in
      let R : Proc → Type 0 = λ p. HasNoEarlyBelow layout seen p thread in
      (used_some layout maps process found asked.1.uses.0 lowest uses, subst Q same asked.1.other, subst R same asked.1.first),
)

agree : {N A P : Type 0} (asked named : Bool) → asked ≡ named → (IsTrue asked ↔ P) → (P ↔ A) → (IsTrue named ↔ N) → (N ↔ A)
agree asked named same a p n = (λ x. p.0 (a.0 (same ∙ n.1 x)), λ y. n.0 (sym same ∙ a.1 (p.1 y)))

both_cases : {N A : Type 0} (asked named : Bool) → (IsTrue asked ↔ A) → (IsTrue named ↔ N) → (N ↔ A) → asked ≡ named
both_cases true true a n e = refl
both_cases false false a n e = refl
both_cases true false a n e = sym (n.1 (e.1 (a.0 refl)))
both_cases false true a n e = a.1 (e.0 (n.0 refl))

in_threads : (layout : Layout) (n : ℕ) (d : ThreadDecl) → n < length layout.threads → IsIn layout (record { 0 = n }) (get_or layout.threads n d).process
in_threads layout n d within = rw (slice_get-get_or layout.threads n d within) refl

-- the list names the thread as it should where the tests agree
pub named_right : (layout : Layout) (maps : set.FinSet nat_cmp) (current : Option Thread) (seen : List Seen) (n : ℕ) (d : ThreadDecl) (found : Option VSlot) (asked named : Bool)
    → n < length layout.threads → IsLowestUsed layout maps (get_or layout.threads n d).process found
    → (IsTrue asked ↔ Passes layout current seen (get_or layout.threads n d).process (record { 0 = n }) (is_some found))
    → (IsTrue named ↔ Names seen (record { 0 = n })) → asked ≡ named
    → IsNamedIfAsked layout maps current seen (record { 0 = n })
named_right layout maps current seen n d found asked named within lowest a n' same =
    agree asked named same a (passed layout maps current seen (get_or layout.threads n d).process (record { 0 = n }) found (in_threads layout n d within) lowest) n'

-- and only there
pub named_wrong : (layout : Layout) (maps : set.FinSet nat_cmp) (current : Option Thread) (seen : List Seen) (n : ℕ) (d : ThreadDecl) (found : Option VSlot) (asked named : Bool)
    → n < length layout.threads → IsLowestUsed layout maps (get_or layout.threads n d).process found
    → (IsTrue asked ↔ Passes layout current seen (get_or layout.threads n d).process (record { 0 = n }) (is_some found))
    → (IsTrue named ↔ Names seen (record { 0 = n }))
    → IsNamedIfAsked layout maps current seen (record { 0 = n }) → asked ≡ named
named_wrong layout maps current seen n d found asked named within lowest a n' right =
    let p = passed layout maps current seen (get_or layout.threads n d).process (record { 0 = n }) found (in_threads layout n d within) lowest in
    both_cases asked named (λ t. p.0 (a.0 t), λ x. a.1 (p.1 x)) n' right

-- what a reading past the declared threads would give
abbrev pub nobody : ThreadDecl
nobody = record { process = record { 0 = 0 }; cpu = record { 0 = 0 }; handler = false }

-- a declared thread's process is declared
pub process_declared : (layout : Layout) (n : ℕ) (d : ThreadDecl) → IsSound layout → n < length layout.threads
    → (get_or layout.threads n d).process.0 < layout.procs
process_declared layout n d sound within =
    let P : ThreadDecl → Type 0 = λ t. (t.process.0 < layout.procs) × (t.cpu.0 < layout.cpus) in
    (All-get_or P layout.threads n d within sound.thread_names).0

pub differ : (a b : Bool) → not (beq a b) ≡ true → a ≡ b → ⊥
differ true true d e = absurd (cc)
differ true false d e = absurd (cc)
differ false true d e = absurd (cc)
differ false false d e = absurd (cc)

pub equal : (a b : Bool) → not (beq a b) ≡ false → a ≡ b
equal true true d = refl
equal true false d = absurd (cc)
equal false true d = absurd (cc)
equal false false d = refl

-- what does not hold is what `false` says
pub refused : {P : Type 0} → (P → ⊥) → IsTrue false ↔ P
refused never = (λ t. absurd (cc), λ p. absurd (never p))

pub granted : {P : Type 0} → P → IsTrue true ↔ P
granted p = (λ t. p, λ q. refl)

pub within_threads : (layout : Layout) (thread : Thread) (p : Proc) → IsIn layout thread p → thread.0 < length layout.threads
within_threads layout thread p own = elim (cases_lt thread.0 (length layout.threads)) [
  | inl within ↦ within
  | inr past ↦ absurd (rw (slice_get_past layout.threads thread.0 past) at own)
]

-- the threads of the list are declared
pub record AreDeclared (layout : Layout) (seen : List Seen) : Type 0 where
  pub each : All (λ (s : Seen). s.thread.0 < length layout.threads) seen

named_within : (layout : Layout) (seen : List Seen) (thread : Thread) → AreDeclared layout seen → Names seen thread → thread.0 < length layout.threads
named_within layout seen thread declared (k, s, within, is, same) =
    let P : Seen → Type 0 = λ x. x.thread.0 < length layout.threads in
    let here : s.thread.0 < length layout.threads = subst P is (declared.each k s within) in
    let Q : Thread → Type 0 = λ t. t.0 < length layout.threads in
    subst Q same here

-- the code's three tests together
pub policies_read : (layout : Layout) (maps : set.FinSet nat_cmp) (current : Option Thread) (seen : List Seen)
    → AreDeclared layout seen → AllPairs (StandsBefore layout) seen
    → ((n : ℕ) → n < length layout.threads → IsNamedIfAsked layout maps current seen (record { 0 = n }))
    → PoliciesRead layout maps current seen
policies_read layout maps current seen declared rising each = record {
  each = λ thread. elim (cases_lt thread.0 (length layout.threads)) [
    | inl within ↦ each thread.0 within
    | inr past ↦ (
      λ named. let w = named_within layout seen thread declared named in absurd (omega arith),
      λ asked. let w = within_threads layout thread asked.0 asked.1.own in absurd (omega arith),
    )
  ];
  rising = rising;
}

pub read_declared : (layout : Layout) (maps : set.FinSet nat_cmp) (current : Option Thread) (seen : List Seen)
    → PoliciesRead layout maps current seen → AreDeclared layout seen
read_declared layout maps current seen read = record {
  each = λ k d within.
      let has = Contains-get_or seen k d within in
      let named : Names seen (get_or seen k d).thread = (has.0, get_or seen k d, has.1, has.2, refl) in
      let asked = (read.each (get_or seen k d).thread).0 named in
      within_threads layout (get_or seen k d).thread asked.0 asked.1.own;
}

-- what implies a fact that does not hold does not hold
pub denied : {P Q : Type 0} → (IsTrue false ↔ P) → (Q → P) → IsTrue false ↔ Q
denied fails implies = (λ t. absurd (cc), λ q. fails.1 (implies q))
