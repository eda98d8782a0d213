-- The commands by which processes had ended tell which signals ended them.
use Rattle.std.proofs.Common.{◌≡◌, ◌⊎◌, inl, inr, ℕ, zero, suc, ◌+◌, ◌<◌, ◌≤◌, ◌==◌, ◌&&◌, ◌||◌, not, max, min, cond, Bool, true, false, List, [], ◌∷◌, Option, Some, None, fold, get_or, set, length, slice_get, refl, sym, ap, ◌∙◌, subst, true≢false, arith}
use Rattle.std.specs.List.{list_any}
use Rattle.std.proofs.lemmas.Bool.{cases_eq, cases_lt, eq-eqb, eqb-true}
use Rattle.std.proofs.lemmas.List.{get_or-set_same, get_or-set_other, get_or-replicate, get_or_past, length-replicate, length-set}
use Rattle.std.proofs.lemmas.Option.{none-some, same_Some, slice_get_within}
use Rattle.hwp_law.specs.hwp_geom.declared.Cpu.{Cpu}
use Rattle.hwp_law.specs.hwp_geom.declared.Layout.{Layout}
use Rattle.hwp_law.specs.hwp_geom.declared.Page.{Page}
use Rattle.hwp_law.specs.hwp_geom.declared.Proc.{Proc}
use Rattle.hwp_law.specs.hwp_geom.declared.ThreadDecl.{ThreadDecl}
use Rattle.hwp_law.specs.hwp_geom.declared.Who.{Who}
use Rattle.hwp_law.specs.hwp_kill.declared.Signal.{Signal}
use Rattle.hwp_law.specs.hwp_page.Endings.{ends, is_ended_by, is_ending}
use Rattle.hwp_law.specs.hwp_page.declared.Entry.{Entry}
use Rattle.hwp_law.specs.hwp_page.declared.Met.TheVariants.{Sigbus}
use Rattle.hwp_law.specs.hwp_page.declared.What.{What}
use Rattle.hwp_law.specs.hwp_page.declared.What.TheVariants as entries
use Rattle.hwp_law.specs.hwp_report_text.declared.Report.{Report}
use Rattle.hwp_law.specs.hwp_script_words.declared.Script.{Script}
use Rattle.hwp_law.specs.Endings.{HasEnding}
use Rattle.hwp_check_evidence.specs.Ends.{ArePageEnds, HadEnded, any_ended, ended_by, ended_in, never, none_ended, own_ended, own_ends, own_page_ends, page_ends, process_numbers, signalled}
use Rattle.hwp_check_evidence.proofs.ListItems.{item_at}
use Rattle.hwp_check_evidence.proofs.WindowLaws.{entry-is, is-entry}

module _ (p : Proc) where
  -- by a command below the number, the process had ended
  abbrev IsLow : List ℕ → ℕ → Type 0
  IsLow list k = get_or list p.0 never < k

  by-many : (n : ℕ) (list : List ℕ) (o : Option ThreadDecl) → length (ended_by n list o) ≡ length list
  by-many n list None = refl
  by-many n list (Some t) = which t.handler
    where
      which : (b : Bool) → length (cond b list (set list t.process.0 (min n (get_or list t.process.0 never)))) ≡ length list
      which true = refl
      which false = length-set list t.process.0 (min n (get_or list t.process.0 never))

  own : (t : ThreadDecl) → (t.process.0 == p.0) ≡ true → t.process.0 ≡ p.0
  own t is = eqb-true t.process.0 p.0 is

  set-low : (n k : ℕ) (list : List ℕ) (q : ℕ) → p.0 < length list → get_or (set list q (min n (get_or list q never))) p.0 never < k → (IsLow list k) ⊎ ((q ≡ p.0) × (n < k))
  set-low n k list q inside low = elim (cases_eq p.0 q) [
    | inl here ↦
        let is : get_or (set list q (min n (get_or list q never))) p.0 never ≡ min n (get_or list p.0 never) =
        subst (λ (x : ℕ). get_or (set list x (min n (get_or list x never))) p.0 never ≡ min n (get_or list p.0 never)) here (get_or-set_same list p.0 (min n (get_or list p.0 never)) never inside) in
        elim (cases_lt n k) [
          | inl new ↦ inr (sym here, new)
          | inr old ↦ inl (omega (arith, is, low, old))
        ]
    | inr other ↦ inl (subst (λ (x : ℕ). x < k) (get_or-set_other list q p.0 (min n (get_or list q never)) never other) low)
  ]

  low-set : (n k : ℕ) (list : List ℕ) (q : ℕ) → p.0 < length list → IsLow list k → get_or (set list q (min n (get_or list q never))) p.0 never < k
  low-set n k list q inside low = elim (cases_eq p.0 q) [
    | inl here ↦
        let is : get_or (set list q (min n (get_or list q never))) p.0 never ≡ min n (get_or list p.0 never) =
        subst (λ (x : ℕ). get_or (set list x (min n (get_or list x never))) p.0 never ≡ min n (get_or list p.0 never)) here (get_or-set_same list p.0 (min n (get_or list p.0 never)) never inside) in
        omega (arith, is, low)
    | inr other ↦ subst (λ (x : ℕ). x < k) (sym (get_or-set_other list q p.0 (min n (get_or list q never)) never other)) low
  ]

  new-set : (n k : ℕ) (list : List ℕ) (q : ℕ) → p.0 < length list → q ≡ p.0 → n < k → get_or (set list q (min n (get_or list q never))) p.0 never < k
  new-set n k list q inside here new =
      let is : get_or (set list q (min n (get_or list q never))) p.0 never ≡ min n (get_or list p.0 never) =
      subst (λ (x : ℕ). get_or (set list x (min n (get_or list x never))) p.0 never ≡ min n (get_or list p.0 never)) (sym here) (get_or-set_same list p.0 (min n (get_or list p.0 never)) never inside) in
      omega (arith, is, new)

  by-low : (n k : ℕ) (list : List ℕ) (o : Option ThreadDecl) → p.0 < length list → IsLow (ended_by n list o) k → (IsLow list k) ⊎ ((is_ended_by p o ≡ true) × (n < k))
  by-low n k list None inside low = inl low
  by-low n k list (Some t) inside low = which t.handler low
    where
      which : (b : Bool) → get_or (cond b list (set list t.process.0 (min n (get_or list t.process.0 never)))) p.0 never < k → (IsLow list k) ⊎ (((not b && (t.process.0 == p.0)) ≡ true) × (n < k))
      which true l = inl l
      which false l = elim (set-low n k list t.process.0 inside l) [
        | inl old ↦ inl old
        | inr new ↦ inr (eq-eqb t.process.0 p.0 new.0, new.1)
      ]

  low-by : (n k : ℕ) (list : List ℕ) (o : Option ThreadDecl) → p.0 < length list → IsLow list k → IsLow (ended_by n list o) k
  low-by n k list None inside low = low
  low-by n k list (Some t) inside low = which t.handler
    where
      which : (b : Bool) → get_or (cond b list (set list t.process.0 (min n (get_or list t.process.0 never)))) p.0 never < k
      which true = low
      which false = low-set n k list t.process.0 inside low

  new-by : (n k : ℕ) (list : List ℕ) (o : Option ThreadDecl) → p.0 < length list → is_ended_by p o ≡ true → n < k → IsLow (ended_by n list o) k
  new-by n k list None inside is new = absurd (true≢false (sym is))
  new-by n k list (Some t) inside is new = which t.handler is
    where
      which : (b : Bool) → (not b && (t.process.0 == p.0)) ≡ true → get_or (cond b list (set list t.process.0 (min n (get_or list t.process.0 never)))) p.0 never < k
      which true h = absurd (true≢false (sym h))
      which false h = new-set n k list t.process.0 inside (own t h) new

  -- the signals of a failure
  module _ (layout : Layout) (n : ℕ) where
    abbrev by_signal : List ℕ → Signal → List ℕ
    by_signal list s = signalled layout n list s.thread

    signals-many : (signals : List Signal) (list : List ℕ) → length (fold by_signal list signals) ≡ length list
    signals-many [] list = refl
    signals-many (s ∷ rest) list = signals-many rest (by_signal list s) ∙ by-many n list (slice_get layout.threads s.thread.0)

    later-inside : (list : List ℕ) (s : Signal) → p.0 < length list → p.0 < length (by_signal list s)
    later-inside list s inside = subst (λ (m : ℕ). p.0 < m) (sym (by-many n list (slice_get layout.threads s.thread.0))) inside

    signals-low : (k : ℕ) (signals : List Signal) (list : List ℕ) → p.0 < length list → IsLow (fold by_signal list signals) k
        → (IsLow list k) ⊎ ((list_any (λ (s : Signal). ends layout p s.thread) signals ≡ true) × (n < k))
    signals-low k [] list inside low = inl low
    signals-low k (s ∷ rest) list inside low = elim (signals-low k rest (by_signal list s) (later-inside list s inside) low) [
      | inl first ↦ elim (by-low n k list (slice_get layout.threads s.thread.0) inside first) [
        | inl old ↦ inl old
        | inr new ↦ inr (ap (λ (b : Bool). b || list_any (λ (x : Signal). ends layout p x.thread) rest) new.0, new.1)
      ]
      | inr later ↦ inr (or-right (ends layout p s.thread) (list_any (λ (x : Signal). ends layout p x.thread) rest) later.0, later.1)
    ]
      where
        or-right : (a b : Bool) → b ≡ true → (a || b) ≡ true
        or-right true b e = refl
        or-right false b e = e

    low-signals : (k : ℕ) (signals : List Signal) (list : List ℕ) → p.0 < length list → IsLow list k → IsLow (fold by_signal list signals) k
    low-signals k [] list inside low = low
    low-signals k (s ∷ rest) list inside low = low-signals k rest (by_signal list s) (later-inside list s inside) (low-by n k list (slice_get layout.threads s.thread.0) inside low)

    new-signals : (k : ℕ) (signals : List Signal) (list : List ℕ) → p.0 < length list → list_any (λ (s : Signal). ends layout p s.thread) signals ≡ true → n < k → IsLow (fold by_signal list signals) k
    new-signals k [] list inside is new = absurd (true≢false (sym is))
    new-signals k (s ∷ rest) list inside is new = which (ends layout p s.thread) refl is (λ h. new-signals k rest (by_signal list s) (later-inside list s inside) h new)
      where
        which : (b : Bool) → ends layout p s.thread ≡ b → (b || list_any (λ (x : Signal). ends layout p x.thread) rest) ≡ true
            → (list_any (λ (x : Signal). ends layout p x.thread) rest ≡ true → IsLow (fold by_signal (by_signal list s) rest) k) → IsLow (fold by_signal (by_signal list s) rest) k
        which true here h more = low-signals k rest (by_signal list s) (later-inside list s inside) (new-by n k list (slice_get layout.threads s.thread.0) inside here new)
        which false here h more = more h

    -- an entry
    in-many : (what : What) (list : List ℕ) → length (ended_in layout n list what) ≡ length list
    in-many (entries.Load slot line (Sigbus thread)) list = by-many n list (slice_get layout.threads thread.0)
    in-many (entries.Store slot line (Sigbus thread)) list = by-many n list (slice_get layout.threads thread.0)
    in-many (entries.Fail situation required seen signals) list = signals-many signals list
    in-many what list = refl

    in-low : (k : ℕ) (what : What) (list : List ℕ) → p.0 < length list → IsLow (ended_in layout n list what) k → (IsLow list k) ⊎ ((is_ending layout p what ≡ true) × (n < k))
    in-low k (entries.Load slot line (Sigbus thread)) list inside low = by-low n k list (slice_get layout.threads thread.0) inside low
    in-low k (entries.Store slot line (Sigbus thread)) list inside low = by-low n k list (slice_get layout.threads thread.0) inside low
    in-low k (entries.Fail situation required seen signals) list inside low = signals-low k signals list inside low
    in-low k what list inside low = inl low

    low-in : (k : ℕ) (what : What) (list : List ℕ) → p.0 < length list → IsLow list k → IsLow (ended_in layout n list what) k
    low-in k (entries.Load slot line (Sigbus thread)) list inside low = low-by n k list (slice_get layout.threads thread.0) inside low
    low-in k (entries.Store slot line (Sigbus thread)) list inside low = low-by n k list (slice_get layout.threads thread.0) inside low
    low-in k (entries.Fail situation required seen signals) list inside low = low-signals k signals list inside low
    low-in k what list inside low = low

    new-in : (k : ℕ) (what : What) (list : List ℕ) → p.0 < length list → is_ending layout p what ≡ true → n < k → IsLow (ended_in layout n list what) k
    new-in k (entries.Load slot line (Sigbus thread)) list inside is new = new-by n k list (slice_get layout.threads thread.0) inside is new
    new-in k (entries.Store slot line (Sigbus thread)) list inside is new = new-by n k list (slice_get layout.threads thread.0) inside is new
    new-in k (entries.Fail situation required seen signals) list inside is new = new-signals k signals list inside is new
    new-in k what list inside is new = absurd (true≢false (sym is))

  none-low : (layout : Layout) (k : ℕ) → k ≤ never → p.0 < length (none_ended layout) → IsLow (none_ended layout) k → ⊥
  none-low layout k few inside low =
      let small : p.0 < process_numbers layout = subst (λ (m : ℕ). p.0 < m) (length-replicate (process_numbers layout) never) inside in
      let is : get_or (none_ended layout) p.0 never ≡ never = get_or-replicate (process_numbers layout) p.0 never never small in omega (arith, is, low, few)

  -- a process of which nothing is kept had not ended
  low-inside : (list : List ℕ) (k : ℕ) → k ≤ never → IsLow list k → p.0 < length list
  low-inside list k few low = elim (cases_lt p.0 (length list)) [
    | inl inside ↦ inside
    | inr past ↦ let is : get_or list p.0 never ≡ never = get_or_past list p.0 never past in absurd (omega (arith, is, low, few))
  ]

  -- nor one that no thread has
  more-numbers : (ts : List ThreadDecl) (n : ℕ) → n ≤ fold (λ (m : ℕ) (t : ThreadDecl). max m (t.process.0 + 1)) n ts
  more-numbers [] n = omega arith
  more-numbers (t ∷ ts) n = let rest = more-numbers ts (max n (t.process.0 + 1)) in omega (arith, rest)

  thread-inside : (ts : List ThreadDecl) (n i : ℕ) (t : ThreadDecl) → slice_get ts i ≡ Some t → t.process.0 < fold (λ (m : ℕ) (x : ThreadDecl). max m (x.process.0 + 1)) n ts
  thread-inside [] n i t there = absurd (none-some t there)
  thread-inside (x ∷ ts) n zero t there =
      let same : x.process.0 ≡ t.process.0 = ap (λ (y : ThreadDecl). y.process.0) (same_Some x t there) in
      let rest = more-numbers ts (max n (x.process.0 + 1)) in omega (arith, same, rest)
  thread-inside (x ∷ ts) n (suc i) t there = thread-inside ts (max n (x.process.0 + 1)) i t there

  none-inside : (layout : Layout) → p.0 < process_numbers layout → p.0 < length (none_ended layout)
  none-inside layout small = subst (λ (m : ℕ). p.0 < m) (sym (length-replicate (process_numbers layout) never)) small

  ended-inside : (layout : Layout) (i : ℕ) → is_ended_by p (slice_get layout.threads i) ≡ true → p.0 < process_numbers layout
  ended-inside layout i is = by (slice_get layout.threads i) refl is
    where
      by : (o : Option ThreadDecl) → slice_get layout.threads i ≡ o → is_ended_by p o ≡ true → p.0 < process_numbers layout
      by None there ended = absurd (true≢false (sym ended))
      by (Some t) there ended = which t.handler ended
        where
          which : (b : Bool) → (not b && (t.process.0 == p.0)) ≡ true → p.0 < process_numbers layout
          which true h = absurd (true≢false (sym h))
          which false h = subst (λ (q : ℕ). q < process_numbers layout) (own t h) (thread-inside layout.threads 0 i t there)

  signals-inside : (layout : Layout) (signals : List Signal) → list_any (λ (s : Signal). ends layout p s.thread) signals ≡ true → p.0 < process_numbers layout
  signals-inside layout [] is = absurd (true≢false (sym is))
  signals-inside layout (s ∷ rest) is = which (ends layout p s.thread) refl is (λ h. signals-inside layout rest h)
    where
      which : (b : Bool) → ends layout p s.thread ≡ b → (b || list_any (λ (x : Signal). ends layout p x.thread) rest) ≡ true
          → (list_any (λ (x : Signal). ends layout p x.thread) rest ≡ true → p.0 < process_numbers layout) → p.0 < process_numbers layout
      which true here h later = ended-inside layout s.thread.0 here
      which false here h later = later h

  ending-inside : (layout : Layout) (what : What) → is_ending layout p what ≡ true → p.0 < length (none_ended layout)
  ending-inside layout what is = none-inside layout (by what is)
    where
      by : (w : What) → is_ending layout p w ≡ true → p.0 < process_numbers layout
      by (entries.Load slot line (Sigbus thread)) h = ended-inside layout thread.0 h
      by (entries.Store slot line (Sigbus thread)) h = ended-inside layout thread.0 h
      by (entries.Fail situation required seen signals) h = signals-inside layout signals h
      by w h = absurd (true≢false (sym h))

  module _ (layout : Layout) (cpu : Cpu) where
    abbrev weight : Entry → ℕ
    weight e = cond (e.who.cpu.0 == cpu.0) e.who.seq 0

    -- an entry of a history ended the process, by a command that counts as one below the number
    record HasAny (k : ℕ) (es : List Entry) : Type 0 where
      i : ℕ
      e : Entry
      there : slice_get es i ≡ Some e
      ending : is_ending layout p e.what ≡ true
      low : weight e < k

    any-many : (es : List Entry) (list : List ℕ) → length (fold (any_ended layout cpu) list es) ≡ length list
    any-many [] list = refl
    any-many (e ∷ es) list = any-many es (any_ended layout cpu list e) ∙ in-many layout (weight e) e.what list

    any-low : (k : ℕ) (es : List Entry) (list : List ℕ) → p.0 < length list → IsLow (fold (any_ended layout cpu) list es) k → (IsLow list k) ⊎ HasAny k es
    any-low k [] list inside low = inl low
    any-low k (x ∷ es) list inside low = elim (any-low k es (any_ended layout cpu list x) (subst (λ (m : ℕ). p.0 < m) (sym (in-many layout (weight x) x.what list)) inside) low) [
      | inl first ↦ elim (in-low layout (weight x) k x.what list inside first) [
        | inl old ↦ inl old
        | inr new ↦ inr (record { i = 0; e = x; there = refl; ending = new.0; low = new.1 })
      ]
      | inr later ↦ inr (record { i = suc later.i; e = later.e; there = later.there; ending = later.ending; low = later.low })
    ]

    low-any : (k : ℕ) (es : List Entry) (list : List ℕ) → p.0 < length list → IsLow list k → IsLow (fold (any_ended layout cpu) list es) k
    low-any k [] list inside low = low
    low-any k (x ∷ es) list inside low = low-any k es (any_ended layout cpu list x) (subst (λ (m : ℕ). p.0 < m) (sym (in-many layout (weight x) x.what list)) inside) (low-in layout (weight x) k x.what list inside low)

    new-any : (k : ℕ) (es : List Entry) (list : List ℕ) (i : ℕ) (e : Entry) → p.0 < length list → slice_get es i ≡ Some e → is_ending layout p e.what ≡ true → weight e < k → IsLow (fold (any_ended layout cpu) list es) k
    new-any k [] list i e inside there is new = absurd (none-some e there)
    new-any k (x ∷ es) list zero e inside there is new =
        let same : x ≡ e = same_Some _ _ there in
        low-any k es (any_ended layout cpu list x) (subst (λ (m : ℕ). p.0 < m) (sym (in-many layout (weight x) x.what list)) inside)
        (new-in layout (weight x) k x.what list inside (ap (λ (y : Entry). is_ending layout p y.what) same ∙ is) (subst (λ (y : Entry). weight y < k) (sym same) new))
    new-any k (x ∷ es) list (suc i) e inside there is new =
        new-any k es (any_ended layout cpu list x) i e (subst (λ (m : ℕ). p.0 < m) (sym (in-many layout (weight x) x.what list)) inside) there is new

    -- an entry of the processor, of a command below the number, ended the process
    record HasOwn (k : ℕ) (es : List Entry) : Type 0 where
      i : ℕ
      e : Entry
      there : slice_get es i ≡ Some e
      own_cpu : e.who.cpu.0 ≡ cpu.0
      ending : is_ending layout p e.what ≡ true
      low : e.who.seq < k

    one-many : (e : Entry) (list : List ℕ) → length (own_ended layout cpu list e) ≡ length list
    one-many e list = which (e.who.cpu.0 == cpu.0)
      where
        which : (b : Bool) → length (cond b (ended_in layout e.who.seq list e.what) list) ≡ length list
        which true = in-many layout e.who.seq e.what list
        which false = refl

    one-low : (k : ℕ) (e : Entry) (list : List ℕ) → p.0 < length list → IsLow (own_ended layout cpu list e) k → (IsLow list k) ⊎ ((e.who.cpu.0 ≡ cpu.0) × (is_ending layout p e.what ≡ true) × (e.who.seq < k))
    one-low k e list inside low = which (e.who.cpu.0 == cpu.0) refl low
      where
        which : (b : Bool) → (e.who.cpu.0 == cpu.0) ≡ b → IsLow (cond b (ended_in layout e.who.seq list e.what) list) k → (IsLow list k) ⊎ ((e.who.cpu.0 ≡ cpu.0) × (is_ending layout p e.what ≡ true) × (e.who.seq < k))
        which true here l = elim (in-low layout e.who.seq k e.what list inside l) [
          | inl old ↦ inl old
          | inr new ↦ inr (eqb-true e.who.cpu.0 cpu.0 here, new.0, new.1)
        ]
        which false here l = inl l

    low-one : (k : ℕ) (e : Entry) (list : List ℕ) → p.0 < length list → IsLow list k → IsLow (own_ended layout cpu list e) k
    low-one k e list inside low = which (e.who.cpu.0 == cpu.0)
      where
        which : (b : Bool) → IsLow (cond b (ended_in layout e.who.seq list e.what) list) k
        which true = low-in layout e.who.seq k e.what list inside low
        which false = low

    new-one : (k : ℕ) (e : Entry) (list : List ℕ) → p.0 < length list → e.who.cpu.0 ≡ cpu.0 → is_ending layout p e.what ≡ true → e.who.seq < k → IsLow (own_ended layout cpu list e) k
    new-one k e list inside own_cpu is new = subst (λ (b : Bool). IsLow (cond b (ended_in layout e.who.seq list e.what) list) k) (sym (eq-eqb e.who.cpu.0 cpu.0 own_cpu)) (new-in layout e.who.seq k e.what list inside is new)

    one-inside : (e : Entry) (list : List ℕ) → p.0 < length list → p.0 < length (own_ended layout cpu list e)
    one-inside e list inside = subst (λ (m : ℕ). p.0 < m) (sym (one-many e list)) inside

    own-many : (es : List Entry) (list : List ℕ) → length (own_page_ends layout cpu list es) ≡ length list
    own-many [] list = refl
    own-many (e ∷ es) list = own-many es (own_ended layout cpu list e) ∙ one-many e list

    own-low : (k : ℕ) (es : List Entry) (list : List ℕ) → p.0 < length list → IsLow (own_page_ends layout cpu list es) k → (IsLow list k) ⊎ HasOwn k es
    own-low k [] list inside low = inl low
    own-low k (x ∷ es) list inside low = elim (own-low k es (own_ended layout cpu list x) (one-inside x list inside) low) [
      | inl first ↦ elim (one-low k x list inside first) [
        | inl old ↦ inl old
        | inr new ↦ inr (record { i = 0; e = x; there = refl; own_cpu = new.0; ending = new.1; low = new.2 })
      ]
      | inr later ↦ inr (record { i = suc later.i; e = later.e; there = later.there; own_cpu = later.own_cpu; ending = later.ending; low = later.low })
    ]

    low-own : (k : ℕ) (es : List Entry) (list : List ℕ) → p.0 < length list → IsLow list k → IsLow (own_page_ends layout cpu list es) k
    low-own k [] list inside low = low
    low-own k (x ∷ es) list inside low = low-own k es (own_ended layout cpu list x) (one-inside x list inside) (low-one k x list inside low)

    new-own : (k : ℕ) (es : List Entry) (list : List ℕ) (i : ℕ) (e : Entry) → p.0 < length list → slice_get es i ≡ Some e → e.who.cpu.0 ≡ cpu.0 → is_ending layout p e.what ≡ true → e.who.seq < k → IsLow (own_page_ends layout cpu list es) k
    new-own k [] list i e inside there own_cpu is new = absurd (none-some e there)
    new-own k (x ∷ es) list zero e inside there own_cpu is new =
        let same : e ≡ x = sym (same_Some _ _ there) in
        low-own k es (own_ended layout cpu list x) (one-inside x list inside)
        (new-one k x list inside (subst (λ (y : Entry). y.who.cpu.0 ≡ cpu.0) same own_cpu) (subst (λ (y : Entry). is_ending layout p y.what ≡ true) same is) (subst (λ (y : Entry). y.who.seq < k) same new))
    new-own k (x ∷ es) list (suc i) e inside there own_cpu is new = new-own k es (own_ended layout cpu list x) i e (one-inside x list inside) there own_cpu is new

    -- the same of all histories
    record HasOwnIn (k : ℕ) (pages : List (List Entry)) : Type 0 where
      page : ℕ
      es : List Entry
      at : slice_get pages page ≡ Some es
      own : HasOwn k es

    page-inside : (es : List Entry) (list : List ℕ) → p.0 < length list → p.0 < length (own_page_ends layout cpu list es)
    page-inside es list inside = subst (λ (m : ℕ). p.0 < m) (sym (own-many es list)) inside

    pages-low : (k : ℕ) (pages : List (List Entry)) (list : List ℕ) → p.0 < length list → IsLow (fold (own_page_ends layout cpu) list pages) k → (IsLow list k) ⊎ HasOwnIn k pages
    pages-low k [] list inside low = inl low
    pages-low k (x ∷ pages) list inside low = elim (pages-low k pages (own_page_ends layout cpu list x) (page-inside x list inside) low) [
      | inl first ↦ elim (own-low k x list inside first) [
        | inl old ↦ inl old
        | inr new ↦ inr (record { page = 0; es = x; at = refl; own = new })
      ]
      | inr later ↦ inr (record { page = suc later.page; es = later.es; at = later.at; own = later.own })
    ]

    pages-many : (pages : List (List Entry)) (list : List ℕ) → length (fold (own_page_ends layout cpu) list pages) ≡ length list
    pages-many [] list = refl
    pages-many (x ∷ pages) list = pages-many pages (own_page_ends layout cpu list x) ∙ own-many x list

    low-pages : (k : ℕ) (pages : List (List Entry)) (list : List ℕ) → p.0 < length list → IsLow list k → IsLow (fold (own_page_ends layout cpu) list pages) k
    low-pages k [] list inside low = low
    low-pages k (x ∷ pages) list inside low = low-pages k pages (own_page_ends layout cpu list x) (page-inside x list inside) (low-own k x list inside low)

    new-pages : (k : ℕ) (pages : List (List Entry)) (list : List ℕ) (page i : ℕ) (es : List Entry) (e : Entry) → p.0 < length list → slice_get pages page ≡ Some es → slice_get es i ≡ Some e
        → e.who.cpu.0 ≡ cpu.0 → is_ending layout p e.what ≡ true → e.who.seq < k → IsLow (fold (own_page_ends layout cpu) list pages) k
    new-pages k [] list page i es e inside at there own_cpu is new = absurd (none-some es at)
    new-pages k (x ∷ pages) list zero i es e inside at there own_cpu is new =
        low-pages k pages (own_page_ends layout cpu list x) (page-inside x list inside)
        (new-own k x list i e inside (subst (λ (y : List Entry). slice_get y i ≡ Some e) (sym (same_Some _ _ at)) there) own_cpu is new)
    new-pages k (x ∷ pages) list (suc page) i es e inside at there own_cpu is new = new-pages k pages (own_page_ends layout cpu list x) page i es e (page-inside x list inside) at there own_cpu is new

same-cpu : (a b : Cpu) → a.0 ≡ b.0 → a ≡ b
same-cpu a b is = λ i. record { 0 = is i }

module _ (script : Script) (report : Report) (who : Who) (p : Proc) (few : who.seq < never) where
  abbrev none_list : List ℕ
  none_list = none_ended script.layout

  abbrev own_list : List ℕ
  own_list = own_ends script.layout who.cpu report.pages

  pub low_ended : get_or own_list p.0 never < who.seq → HadEnded script report who p
  low_ended low =
      let inside : p.0 < length none_list = subst (λ (m : ℕ). p.0 < m) (pages-many p script.layout who.cpu report.pages none_list) (low-inside p own_list who.seq (omega (arith, few)) low) in
      elim (pages-low p script.layout who.cpu who.seq report.pages none_list inside low) [
        | inl none ↦ absurd (none-low p script.layout who.seq (omega (arith, few)) inside none)
        | inr has ↦ record {
          who = has.own.e.who;
          ended = record {
            at = record { page = record { 0 = has.page }; entry = has.own.i };
            entry = has.own.e;
            there = entry-is report.pages (record { 0 = has.page }) has.own.i has.es has.own.e has.at has.own.there;
            own = refl;
            ending = has.own.ending;
          };
          before = (same-cpu has.own.e.who.cpu who.cpu has.own.own_cpu, has.own.low);
        }
      ]

  pub ended_low : HadEnded script report who p → get_or own_list p.0 never < who.seq
  ended_low h =
      let f = is-entry report.pages h.ended.at h.ended.entry h.ended.there in
      let cpu_is : h.ended.entry.who.cpu.0 ≡ who.cpu.0 = ap (λ (w : Who). w.cpu.0) h.ended.own ∙ ap (λ (c : Cpu). c.0) h.before.0 in
      let low : h.ended.entry.who.seq < who.seq = subst (λ (w : Who). w.seq < who.seq) (sym h.ended.own) h.before.1 in
      new-pages p script.layout who.cpu who.seq report.pages none_list h.ended.at.page.0 h.ended.at.entry f.entries h.ended.entry (ending-inside p script.layout h.ended.entry.what h.ended.ending) f.page f.there cpu_is h.ended.ending low

  module _ (all : List (List ℕ)) (page : Page) (are : ArePageEnds script.layout who.cpu report.pages all) where
    pub low_ending : (list : List ℕ) → slice_get all page.0 ≡ Some list → get_or list p.0 never ≤ who.seq → HasEnding script report who p page
    low_ending list there low =
        let inside : page.0 < length all = slice_get_within all page.0 list there in
        let many : length all ≡ length report.pages = are.many in
        let e = item_at report.pages page.0 (omega (arith, inside, many)) in
        let is : list ≡ page_ends script.layout who.cpu e.0 = are.each page.0 e.0 list e.1 there in
        let less : get_or (page_ends script.layout who.cpu e.0) p.0 never < who.seq + 1 = subst (λ (l : List ℕ). get_or l p.0 never < who.seq + 1) is (omega (arith, low)) in
        let inside_list : p.0 < length none_list =
        subst (λ (m : ℕ). p.0 < m) (any-many p script.layout who.cpu e.0 none_list) (low-inside p (page_ends script.layout who.cpu e.0) (who.seq + 1) (omega (arith, few)) less) in
        elim (any-low p script.layout who.cpu (who.seq + 1) e.0 none_list inside_list less) [
          | inl none ↦ absurd (none-low p script.layout (who.seq + 1) (omega (arith, few)) inside_list none)
          | inr has ↦ record {
            at = record { page = page; entry = has.i };
            entry = has.e;
            there = entry-is report.pages page has.i e.0 has.e e.1 has.there;
            page_is = refl;
            ending = has.ending;
            not_later = λ same.
                let own_is : (has.e.who.cpu.0 == who.cpu.0) ≡ true = eq-eqb has.e.who.cpu.0 who.cpu.0 (ap (λ (c : Cpu). c.0) same) in
                let less : has.e.who.seq < who.seq + 1 = subst (λ (b : Bool). cond b has.e.who.seq 0 < who.seq + 1) own_is has.low in
                omega (arith, less);
          }
        ]

    pub ending_low : HasEnding script report who p page → (list : List ℕ) → slice_get all page.0 ≡ Some list → get_or list p.0 never ≤ who.seq
    ending_low h list there =
        let f = is-entry report.pages h.at h.entry h.there in
        let got : slice_get report.pages page.0 ≡ Some f.entries = ap (λ (q : Page). slice_get report.pages q.0) (sym h.page_is) ∙ f.page in
        let is : list ≡ page_ends script.layout who.cpu f.entries = are.each page.0 f.entries list got there in
        let low : weight p script.layout who.cpu h.entry < who.seq + 1 = which (h.entry.who.cpu.0 == who.cpu.0) refl h in
        let less : get_or (page_ends script.layout who.cpu f.entries) p.0 never < who.seq + 1 = new-any p script.layout who.cpu (who.seq + 1) f.entries none_list h.at.entry h.entry (ending-inside p script.layout h.entry.what h.ending) f.there h.ending low in
        let back : get_or list p.0 never < who.seq + 1 = subst (λ (l : List ℕ). get_or l p.0 never < who.seq + 1) (sym is) less in
        omega (arith, back)
      where
        which : (b : Bool) → (h.entry.who.cpu.0 == who.cpu.0) ≡ b → HasEnding script report who p page → cond b h.entry.who.seq 0 < who.seq + 1
        which true own x = let low : h.entry.who.seq ≤ who.seq = h.not_later (same-cpu h.entry.who.cpu who.cpu (eqb-true h.entry.who.cpu.0 who.cpu.0 own)) in omega (arith, low)
        which false other x = omega arith

    pub no_ending : slice_get all page.0 ≡ None → HasEnding script report who p page → ⊥
    no_ending none h =
        let f = is-entry report.pages h.at h.entry h.there in
        let got : slice_get report.pages page.0 ≡ Some f.entries = ap (λ (q : Page). slice_get report.pages q.0) (sym h.page_is) ∙ f.page in
        let inside : page.0 < length report.pages = slice_get_within report.pages page.0 f.entries got in
        let many : length all ≡ length report.pages = are.many in
        let l = item_at all page.0 (omega (arith, inside, many)) in
        none-some l.0 (sym none ∙ l.1)
