-- How the kill table is worked out: the lowest translation of each process, and the signals one process after another.
use Rattle.std.proofs.Common.{◌+◌, refl, sym, ap, subst, ◌∙◌, get_or, length-append, ◌↔◌, ◌++◌, [], ◌∷◌, inl, inr, ◌≡◌, ℕ, ◌<◌, ◌≤◌, Bool, true, false, List, Option, Some, None, length, slice_index_or, replicate, MatchOption, arith}
use Rattle.std.specs.Prelude.{Contains, AllPairs, slice_get, slice_set, is_some, IsSomeAnd}
use Rattle.std.proofs.lemmas.Bool.{cases_eq, cases_lt, both_ways}
use Rattle.std.proofs.lemmas.List.{length-set, get_or-replicate, get_or-set_same, get_or-set_other}
use Rattle.std.proofs.lemmas.List.Elements.{Contains-get_or, Contains-append_left, Contains-push, Contains-push_cases, All-get_or}
use Rattle.std.proofs.lemmas.List.Quantifiers.{all_pairs_push}
use Rattle.std.proofs.lemmas.Option.{same_Some, slice_get_past, slice_get-get_or}
use Rattle.std.specs.Ordering.{nat_cmp}
use Rattle.std.specs.FinSet as set
use Rattle.hwp_geom.specs.Layout.{IsSound}
use Rattle.hwp_geom.specs.declared.Layout.{Layout}
use Rattle.hwp_geom.specs.declared.TransDecl.{TransDecl}
use Rattle.hwp_geom.specs.declared.Proc.{Proc}
use Rattle.hwp_geom.specs.declared.VSlot.{VSlot}
use Rattle.hwp_geom.specs.declared.Thread.{Thread}
use Rattle.hwp_kill.specs.declared.types.Code.{Code}
use Rattle.hwp_kill.specs.declared.types.Code.TheVariants.{Ar, Ao}
use Rattle.hwp_kill.specs.declared.types.Seen.{Seen}
use Rattle.hwp_kill.specs.declared.types.Signal.{Signal}
use Rattle.hwp_kill.specs.Limits.{slot_limit, signal_limit}
use Rattle.hwp_kill.specs.Lowest.{IsLowestFrom}
use Rattle.hwp_kill.specs.Kill.{IsIn, Uses, UsesLowest, IsCurrent, IsLowestEarly, IsLowestThread, IsLowestUsed, IsTold, UsesNone, Reaches, ReachesNone, IsDue, AreDue}

-- no translation of the process below `at` is in use
abbrev pub UsesNoneBelow : Layout → set.FinSet nat_cmp → Proc → ℕ → Type 0
UsesNoneBelow layout maps process at = (slot : ℕ) → slot < at → Uses layout maps process slot → ⊥

-- the lowest translation of the process in use, as far as those below `at` show it
abbrev pub IsLowestBelow : Layout → set.FinSet nat_cmp → ℕ → Proc → Option VSlot → Type 0
IsLowestBelow layout maps at process found =
    MatchOption found (UsesNoneBelow layout maps process at) (λ (slot : VSlot). UsesLowest layout maps process slot.0)

-- the lowest translations are noted as far as `at`
pub record Noted (layout : Layout) (maps : set.FinSet nat_cmp) (at : ℕ) (lowest : List (Option VSlot)) : Type 0 where
  pub places : length lowest ≡ signal_limit
  pub within : at ≤ slot_limit
  pub each : (p : ℕ) → p < signal_limit → IsLowestBelow layout maps at (record { 0 = p }) (slice_index_or lowest p None)

-- the signals that the table gives to processes below `n`
pub record DueBelow (layout : Layout) (maps : set.FinSet nat_cmp) (always : Bool) (current : Option Thread) (seen : List Seen) (n : ℕ) (signals : List Signal) : Type 0 where
  pub few : length signals ≤ n
  pub each : (signal : Signal) → Contains signals signal ↔ ((signal.process.0 < n) × IsDue layout maps always current seen signal)
  pub rising : AllPairs (λ (a b : Signal). a.process.0 < b.process.0) signals

-- a signal of these parts
abbrev record_of : Proc → Thread → Code → VSlot → Signal
record_of process thread code slot = record { process = process; thread = thread; code = code; slot = slot }

abbrev thread_of : ℕ → Thread
thread_of n = record { 0 = n }

abbrev slot_of : ℕ → VSlot
slot_of n = record { 0 = n }

abbrev process_of : ℕ → Proc
process_of n = record { 0 = n }

both : (p q : Proc) (t u : Thread) (c d : Code) (v w : VSlot) → p ≡ q → t ≡ u → c ≡ d → v ≡ w
    → record_of p t c v ≡ record_of q u d w
both p q t u c d v w ep et ec ev = cc

same_slot : {layout : Layout} {maps : set.FinSet nat_cmp} {process : Proc} {v w : VSlot} → UsesLowest layout maps process v.0 → UsesLowest layout maps process w.0 → v.0 ≡ w.0
same_slot {v = v} {w = w} a b = elim (cases_lt v.0 w.0) [
  | inl below ↦ absurd (b.lowest v.0 below a.uses)
  | inr above ↦ elim (cases_lt w.0 v.0) [
    | inl below ↦ absurd (a.lowest w.0 below b.uses)
    | inr equal ↦ omega arith
  ]
]

same_early : {layout : Layout} {seen : List Seen} {process : Proc} {t u : Thread} → IsLowestEarly layout seen process t → IsLowestEarly layout seen process u → t.0 ≡ u.0
same_early {t = t} {u = u} a b = elim (cases_lt t.0 u.0) [
  | inl below ↦ absurd (b.lowest t below a.early)
  | inr above ↦ elim (cases_lt u.0 t.0) [
    | inl below ↦ absurd (a.lowest u below b.early)
    | inr equal ↦ omega arith
  ]
]

same_lowest : {layout : Layout} {process : Proc} {t u : Thread} → IsLowestThread layout process 0 t → IsLowestThread layout process 0 u → t.0 ≡ u.0
same_lowest {t = t} {u = u} a b =
    let up = a.lowest u b.not_below b.own in
    let down = b.lowest t a.not_below a.own in
    omega arith

-- one thread of a process is told at most
same_told : (layout : Layout) (always : Bool) (seen : List Seen) (process : Proc) (t u : Thread)
    → IsTold layout always seen process t → IsTold layout always seen process u → t.0 ≡ u.0
same_told layout always seen process t u (inl a) (inl b) = same_early a b
same_told layout always seen process t u (inl a) (inr b) = absurd (b.1 t a.early)
same_told layout always seen process t u (inr a) (inl b) = absurd (a.1 u b.early)
same_told layout always seen process t u (inr a) (inr b) = same_lowest a.2 b.2

current_is : (layout : Layout) (process : Proc) (current : Option Thread) (thread : Thread) → current ≡ Some thread → IsIn layout thread process → IsCurrent layout current process
current_is layout process None thread same own = absurd (cc)
current_is layout process (Some other) thread same own = rw (same_Some other thread same) own

-- a process has one thread that is reached, with one code
same_reached : (layout : Layout) (always : Bool) (current : Option Thread) (seen : List Seen) (process : Proc) (t u : Thread) (c d : Code)
    → Reaches layout always current seen process t c → Reaches layout always current seen process u d → (t ≡ u) × (c ≡ d)
same_reached layout always current seen process t u Ar Ar a b = (same_Some t u (sym a.0 ∙ b.0), refl)
same_reached layout always current seen process t u Ar Ao a b = absurd (b.0 (current_is layout process current t a.0 a.1))
same_reached layout always current seen process t u Ao Ar a b = absurd (a.0 (current_is layout process current u b.0 b.1))
same_reached layout always current seen process t u Ao Ao a b = (ap thread_of (same_told layout always seen process t u a.1 b.1), refl)

-- the table gives a process one signal at most
pub same_due : {layout : Layout} {maps : set.FinSet nat_cmp} {always : Bool} {current : Option Thread} {seen : List Seen} {s t : Signal}
    → IsDue layout maps always current seen s → IsDue layout maps always current seen t → s.process ≡ t.process → s ≡ t
same_due {layout = layout} {maps = maps} {always = always} {current = current} {seen = seen} {s = s} {t = t} a b same =
    let slot : UsesLowest layout maps s.process t.slot.0 = rw same b.slot in
    let thread : Reaches layout always current seen s.process t.thread t.code = rw same b.thread in
    let reached = same_reached layout always current seen s.process s.thread t.thread s.code t.code a.thread thread in
    both s.process t.process s.thread t.thread s.code t.code s.slot t.slot same reached.0 reached.1 (ap slot_of (same_slot a.slot slot))

-- no signal to the next process
pub DueBelow-none : {layout : Layout} {maps : set.FinSet nat_cmp} {always : Bool} {current : Option Thread} {seen : List Seen} {n : ℕ} {signals : List Signal}
    → DueBelow layout maps always current seen n signals
    → ((s : Signal) → s.process ≡ process_of n → IsDue layout maps always current seen s → ⊥)
    → DueBelow layout maps always current seen (n + 1) signals
DueBelow-none {n = n} before nothing = record {
  few = let f = before.few in omega arith;
  each = λ s. (
    λ has. let b = before.each s in let k = (b.0 has).0 in (omega arith, (b.0 has).1),
    λ due. elim (cases_lt s.process.0 n) [
      | inl below ↦ (before.each s).1 (below, due.1)
      | inr above ↦ let w = due.0 in absurd (nothing s (ap process_of (omega arith)) due.1)
    ],
  );
  rising = before.rising;
}

-- the next process uses no translation
pub DueBelow-unused : {layout : Layout} {maps : set.FinSet nat_cmp} {always : Bool} {current : Option Thread} {seen : List Seen} {n : ℕ} {signals : List Signal} (lowest : List (Option VSlot)) (i : ℕ)
    → DueBelow layout maps always current seen n signals
    → IsLowestUsed layout maps (process_of n) (get_or lowest n None) → i ≡ n → get_or lowest i None ≡ None
    → DueBelow layout maps always current seen (n + 1) signals
DueBelow-unused {layout = layout} {maps = maps} {n = n} lowest i before least here none =
    let there : get_or lowest n None ≡ None = rw here at none in
    let nothing : UsesNone layout maps (process_of n) = rw there at least in
    DueBelow-none before (λ s same due. nothing s.slot.0 (rw (← same) due.slot.uses))

-- no thread of the next process is reached
pub DueBelow-unreached : {layout : Layout} {maps : set.FinSet nat_cmp} {always : Bool} {current : Option Thread} {seen : List Seen} {n : ℕ} {signals : List Signal}
    → DueBelow layout maps always current seen n signals → ReachesNone layout always current seen (process_of n)
    → DueBelow layout maps always current seen (n + 1) signals
DueBelow-unreached before nothing = DueBelow-none before (λ s same due. nothing s.thread s.code (rw (← same) due.thread))

-- one signal to the next process
pub DueBelow-one : {layout : Layout} {maps : set.FinSet nat_cmp} {always : Bool} {current : Option Thread} {seen : List Seen} {n : ℕ} {signals : List Signal} (signal : Signal)
    → DueBelow layout maps always current seen n signals
    → signal.process.0 ≡ n → IsDue layout maps always current seen signal
    → DueBelow layout maps always current seen (n + 1) (signals ++ signal ∷ [])
DueBelow-one {layout = layout} {maps = maps} {always = always} {current = current} {seen = seen} {n = n} {signals = signals} signal before here due = record {
  few = let f = before.few in omega (arith, length-append {A = Signal});
  each = λ s. (
    λ has. elim (Contains-push_cases signals signal s has) [
      | inl earlier ↦ let b = (before.each s).0 earlier in let k = b.0 in (omega arith, b.1)
      | inr same ↦ let P : Signal → Type 0 = λ x. (x.process.0 < n + 1) × IsDue layout maps always current seen x in subst P same (omega arith, due)
    ],
    λ d. elim (cases_lt s.process.0 n) [
      | inl below ↦ Contains-append_left signals (signal ∷ []) s ((before.each s).1 (below, d.1))
      | inr above ↦
          let w = d.0 in
          let same : signal ≡ s = same_due due d.1 (ap process_of (omega arith)) in
          let P : Signal → Type 0 = λ x. Contains (signals ++ signal ∷ []) x in
          subst P same (Contains-push signals signal)
    ],
  );
  rising = all_pairs_push (λ (a b : Signal). a.process.0 < b.process.0) signals signal before.rising (λ k d within.
      let b = ((before.each (get_or signals k d)).0 (Contains-get_or signals k d within)).0 in omega arith);
}

-- every process that a signal goes to is declared
owner_declared : (layout : Layout) (slot : ℕ) (process : Proc) → IsSound layout
    → IsSomeAnd (slice_get layout.trans slot) (λ (t : TransDecl). t.process ≡ process) → process.0 < layout.procs
owner_declared layout slot process sound own = elim (cases_lt slot (length layout.trans)) [
  | inl within ↦
      let d : TransDecl = record { process = process; page = record { 0 = 0 } } in
      let same : (get_or layout.trans slot d).process ≡ process = rw (slice_get-get_or layout.trans slot d within) at own in
      let P : TransDecl → Type 0 = λ t. (t.process.0 < layout.procs) × (t.page.0 < length layout.pages) in
      let names = (All-get_or P layout.trans slot d within sound.trans_names).0 in
      rw (← same) names
  | inr past ↦ absurd (rw (slice_get_past layout.trans slot past) at own)
]

-- all declared processes are done
pub DueBelow-all : {layout : Layout} {maps : set.FinSet nat_cmp} {always : Bool} {current : Option Thread} {seen : List Seen} {n : ℕ} {signals : List Signal}
    → IsSound layout → DueBelow layout maps always current seen n signals → layout.procs ≤ n → AreDue layout maps always current seen signals
DueBelow-all {layout = layout} {n = n} sound before done = record {
  each = λ s. (
    λ has. ((before.each s).0 has).1,
    λ due. let declared = owner_declared layout s.slot.0 s.process sound due.slot.uses.own in (before.each s).1 (omega arith, due),
  );
  rising = before.rising;
}

-- a signal of these parts to the next process
pub DueBelow-next : {layout : Layout} {maps : set.FinSet nat_cmp} {always : Bool} {current : Option Thread} {seen : List Seen} {n : ℕ} {signals : List Signal} (lowest : List (Option VSlot)) (i : ℕ) (thread : Thread) (code : Code) (slot : VSlot)
    → DueBelow layout maps always current seen n signals
    → IsLowestUsed layout maps (process_of n) (get_or lowest n None) → i ≡ n → get_or lowest i None ≡ Some slot
    → Reaches layout always current seen (process_of n) thread code
    → DueBelow layout maps always current seen (n + 1) (signals ++ record_of (process_of n) thread code slot ∷ [])
DueBelow-next {layout = layout} {maps = maps} {n = n} lowest i thread code slot before least here some reached =
    let there : get_or lowest n None ≡ Some slot = rw here at some in
    let uses : UsesLowest layout maps (process_of n) slot.0 = rw there at least in
    DueBelow-one (record_of (process_of n) thread code slot) before refl (record { slot = uses; thread = reached })

-- nothing is noted yet
pub Noted-none : (layout : Layout) (maps : set.FinSet nat_cmp) → Noted layout maps 0 (replicate {A = Option VSlot} 16 None)
Noted-none layout maps = record {
  places = refl;
  within = omega arith;
  each = λ p within. rw (get_or-replicate {A = Option VSlot} 16 p None None within) (λ slot below uses. absurd (omega arith));
}

-- the search for the next translation in use passed over none of the process
none-between : {layout : Layout} {maps : set.FinSet nat_cmp} {process : Proc} {at slot : ℕ} → UsesNoneBelow layout maps process at → IsLowestFrom maps at slot
    → UsesNoneBelow layout maps process slot
none-between {at = at} none low other below uses = elim (cases_lt other at) [
  | inl earlier ↦ none other earlier uses
  | inr here ↦ both_ways _ (low.lowest other here below) uses.in_use
]

-- what is noted of a process stays, where the translation isn't its own or a lower one is noted
stays-below : {layout : Layout} {maps : set.FinSet nat_cmp} {at slot : ℕ} (p : Proc) (noted : Option VSlot) → IsLowestBelow layout maps at p noted → IsLowestFrom maps at slot
    → (noted ≡ None → Uses layout maps p slot → ⊥) → IsLowestBelow layout maps (slot + 1) p noted
stays-below {layout = layout} {maps = maps} {slot = slot} p None none low other = λ v below uses. elim (cases_lt v slot) [
  | inl earlier ↦ none-between none low v earlier uses
  | inr here ↦ other refl (subst (Uses layout maps p) (omega arith) uses)
]
stays-below p (Some v) lowest low other = lowest

-- the translation that was found isn't declared
pub Noted-undeclared : {layout : Layout} {maps : set.FinSet nat_cmp} {at : ℕ} {lowest : List (Option VSlot)} (slot : VSlot) → Noted layout maps at lowest
    → IsLowestFrom maps at slot.0 → slot.0 < slot_limit → slice_get layout.trans slot.0 ≡ None → Noted layout maps (slot.0 + 1) lowest
Noted-undeclared slot before low below there = record {
  places = before.places;
  within = omega arith;
  each = λ p within. stays-below (process_of p) _ (before.each p within) low (λ none uses. rw there at uses.own);
}

own-is : {layout : Layout} {maps : set.FinSet nat_cmp} {process : Proc} {slot : ℕ} {t : TransDecl} → slice_get layout.trans slot ≡ Some t → Uses layout maps process slot → t.process.0 ≡ process.0
own-is there uses = ap (λ (q : Proc). q.0) (rw there at uses.own)

-- a lower translation of the process is noted already
pub Noted-again : {layout : Layout} {maps : set.FinSet nat_cmp} {at : ℕ} {lowest : List (Option VSlot)} (slot : VSlot) (t : TransDecl) (n : ℕ) → Noted layout maps at lowest
    → IsLowestFrom maps at slot.0 → slot.0 < slot_limit → slice_get layout.trans slot.0 ≡ Some t → n ≡ t.process.0 → is_some (get_or lowest n None) ≡ true
    → Noted layout maps (slot.0 + 1) lowest
Noted-again {lowest = lowest} slot t n before low below there here some = record {
  places = before.places;
  within = omega arith;
  each = λ p within. stays-below (process_of p) _ (before.each p within) low (λ none uses.
      let same : n ≡ p = here ∙ own-is there uses in
      both_ways (is_some (get_or lowest p None)) (ap is_some none) (rw (← same) some));
}

nothing-noted : (noted : Option VSlot) → is_some noted ≡ false → noted ≡ None
nothing-noted None none = refl
nothing-noted (Some v) none = absurd (both_ways true none refl)

-- the translation is the lowest of its process
pub Noted-first : {layout : Layout} {maps : set.FinSet nat_cmp} {at : ℕ} {lowest : List (Option VSlot)} (slot : VSlot) (t : TransDecl) (n : ℕ) → Noted layout maps at lowest
    → IsLowestFrom maps at slot.0 → slot.0 < slot_limit → slice_get layout.trans slot.0 ≡ Some t → n ≡ t.process.0 → is_some (get_or lowest n None) ≡ false
    → Noted layout maps (slot.0 + 1) (slice_set lowest n (Some slot))
Noted-first {layout = layout} {maps = maps} {at = at} {lowest = lowest} slot t n before low below there here none = record {
  places = length-set lowest n (Some slot) ∙ before.places;
  within = omega arith;
  each = λ p within. elim (cases_eq p n) [
    | inl same ↦
        let nothing : UsesNoneBelow layout maps (process_of p) at =
        subst (IsLowestBelow layout maps at (process_of p)) (ap (λ k. get_or lowest k None) same ∙ nothing-noted _ none) (before.each p within) in
        let found : get_or (slice_set lowest n (Some slot)) p None ≡ Some slot =
        ap (λ k. get_or (slice_set lowest n (Some slot)) k None) same ∙ get_or-set_same lowest n (Some slot) None (let long = before.places in omega arith) in
        rw found (record {
          uses = record { in_use = low.member; own = rw there (ap process_of (sym here ∙ sym same)) };
          lowest = λ other less uses. none-between nothing low other less uses;
        })
    | inr other ↦
        rw (get_or-set_other lowest n p (Some slot) None other)
        (stays-below (process_of p) _ (before.each p within) low (λ nothing uses. other (sym (here ∙ own-is there uses))))
  ];
}
