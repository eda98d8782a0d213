-- The notes of what a command did beside its answer, one act after the other.
use Rattle.std.proofs.Common.{◌≡◌, ◌⊎◌, inl, inr, ℕ, zero, suc, ◌+◌, ◌<◌, ◌≤◌, ◌==◌, ◌||◌, Bool, true, false, cond, List, [], ◌∷◌, ◌++◌, Option, Some, None, drop, filter_map, get_or, length, slice_get, append-nil, append_assoc, refl, sym, ap, ◌∙◌, arith, true≢false}
use Rattle.std.specs.List.{cons_option}
use Rattle.std.proofs.Math.Seq.{drop-cons, drop-length, drop-nil}
use Rattle.std.proofs.lemmas.Bool.{eqb-false, ne_eqb}
use Rattle.std.proofs.lemmas.Option.{slice_get-get_or, slice_get_cases}
use Rattle.hwp_plain.specs.hwp_geom.declared.Who.{Who}
use Rattle.hwp_cpu_row.specs.declared.Offlining.{Offlining}
use Rattle.hwp_cpu_row.specs.hwp_claim.declared.EventOutcome.{EventOutcome}
use Rattle.hwp_cpu_row.specs.Acts.{Offlined, Told, acts, acts_from}
use Rattle.hwp_law_served.specs.Rows.{Note, act_note, own_note, told_note}
use Rattle.hwp_top_report.specs.Closing.{is_frame_by, is_frame_next}

-- what the acts note behind so many events and so many frames
abbrev pub left : Who → List EventOutcome → List Offlining → ℕ → ℕ → List Note
left who told offlined n k = filter_map (act_note who) (acts_from n (drop n told) (drop k offlined))

-- so far all is noted but for those, and no event and no frame is past its end
pub record IsNoted (who : Who) (told : List EventOutcome) (offlined : List Offlining) (start notes : List Note) (step n k : ℕ) : Type 0 where
  pub sum : n + k ≡ step
  pub events : n ≤ length told
  pub frames : k ≤ length offlined
  pub noted : notes ++ left who told offlined n k ≡ start ++ filter_map (act_note who) (acts told offlined)

or-false-left : (a b : Bool) → (a || b) ≡ false → a ≡ false
or-false-left true b is = absurd (true≢false is)
or-false-left false b is = refl

or-false-right : (a b : Bool) → (a || b) ≡ false → b ≡ false
or-false-right true b is = absurd (true≢false is)
or-false-right false b is = is

drop-past : (xs : List Offlining) (k : ℕ) → length xs ≤ k → drop k xs ≡ []
drop-past [] k past = drop-nil k
drop-past (x ∷ xs) zero past = absurd (omega arith)
drop-past (x ∷ xs) (suc k) past = drop-past xs k (omega arith)

front-of : {A : Type 0} (xs : List A) (j : ℕ) (d : A) → j < length xs → drop j xs ≡ get_or xs j d ∷ drop (j + 1) xs
front-of xs j d inside = drop-cons xs j d inside ∙ ap (λ (n : ℕ). get_or xs j d ∷ drop n xs) (let same : suc j ≡ j + 1 = omega arith in same)

not-equal : (a b : ℕ) → a < b → (a == b) ≡ false
not-equal a b less = ne_eqb a b (λ same. omega (arith, less, same))

-- one note more
onto : (notes rest : List Note) (note : Option Note) → (notes ++ cons_option note []) ++ rest ≡ notes ++ cons_option note rest
onto notes rest None = ap (λ (l : List Note). l ++ rest) (append-nil notes)
onto notes rest (Some note) = append_assoc notes (note ∷ []) rest

module _ (who : Who) (told : List EventOutcome) (offlined : List Offlining) where
  -- a frame is next
  frame-left : (n k : ℕ) (d : Offlining) → k < length offlined → n ≤ length told → is_frame_next (length told) offlined n k ≡ true → left who told offlined n k ≡ cons_option (own_note who (get_or offlined k d).change) (left who told offlined n (k + 1))
  frame-left n k d inside within next = ap (λ (os : List Offlining). filter_map (act_note who) (acts_from n (drop n told) os)) (front-of offlined k d inside) ∙ which (slice_get_cases told n).1
    where
      o : Offlining
      o = get_or offlined k d

      now : ((n == length told) || (o.told == n)) ≡ true
      now = sym (ap (is_frame_by (length told) n) (slice_get-get_or offlined k d inside)) ∙ next

      which : ((t : EventOutcome) × (n < length told) × (slice_get told n ≡ Some t) × (get_or told n t ≡ t)) ⊎ ((length told ≤ n) × (slice_get told n ≡ None)) → filter_map (act_note who) (acts_from n (drop n told) (o ∷ drop (k + 1) offlined)) ≡ cons_option (own_note who o.change) (left who told offlined n (k + 1))
      which (inl (t, less, there, got)) =
          let front : drop n told ≡ get_or told n t ∷ drop (n + 1) told = front-of told n t less in
          let at : (o.told == n) ≡ true = sym (ap (λ (b : Bool). b || (o.told == n)) (not-equal n (length told) less)) ∙ now in
          ap (λ (ts : List EventOutcome). filter_map (act_note who) (acts_from n ts (o ∷ drop (k + 1) offlined))) front
          ∙ ap (λ (b : Bool). filter_map (act_note who) (cond b (Offlined o ∷ acts_from n (get_or told n t ∷ drop (n + 1) told) (drop (k + 1) offlined)) (Told (get_or told n t) ∷ acts_from (n + 1) (drop (n + 1) told) (o ∷ drop (k + 1) offlined)))) at
          ∙ ap (λ (ts : List EventOutcome). cons_option (own_note who o.change) (filter_map (act_note who) (acts_from n ts (drop (k + 1) offlined)))) (sym front)
      which (inr (past, none)) =
          let all : n ≡ length told = omega (arith, past, within) in
          let gone : drop n told ≡ [] = ap (λ (m : ℕ). drop m told) all ∙ drop-length told in
          ap (λ (ts : List EventOutcome). filter_map (act_note who) (acts_from n ts (o ∷ drop (k + 1) offlined))) gone
          ∙ ap (λ (ts : List EventOutcome). cons_option (own_note who o.change) (filter_map (act_note who) (acts_from n ts (drop (k + 1) offlined)))) (sym gone)

  -- an event is next
  event-left : (n k : ℕ) (d : EventOutcome) → n < length told → is_frame_next (length told) offlined n k ≡ false → left who told offlined n k ≡ cons_option (told_note who (get_or told n d)) (left who told offlined (n + 1) k)
  event-left n k d less next = ap (λ (ts : List EventOutcome). filter_map (act_note who) (acts_from n ts (drop k offlined))) (front-of told n d less) ∙ which (slice_get_cases offlined k).1
    where
      t : EventOutcome
      t = get_or told n d

      which : ((o : Offlining) × (k < length offlined) × (slice_get offlined k ≡ Some o) × (get_or offlined k o ≡ o)) ⊎ ((length offlined ≤ k) × (slice_get offlined k ≡ None)) → filter_map (act_note who) (acts_from n (t ∷ drop (n + 1) told) (drop k offlined)) ≡ cons_option (told_note who t) (left who told offlined (n + 1) k)
      which (inl (o, inside, there, got)) =
          let here : drop k offlined ≡ o ∷ drop (k + 1) offlined = front-of offlined k o inside ∙ ap (λ (x : Offlining). x ∷ drop (k + 1) offlined) got in
          let not : (o.told == n) ≡ false = or-false-right (n == length told) (o.told == n) (sym (ap (is_frame_by (length told) n) there) ∙ next) in
          ap (λ (os : List Offlining). filter_map (act_note who) (acts_from n (t ∷ drop (n + 1) told) os)) here
          ∙ ap (λ (b : Bool). filter_map (act_note who) (cond b (Offlined o ∷ acts_from n (t ∷ drop (n + 1) told) (drop (k + 1) offlined)) (Told t ∷ acts_from (n + 1) (drop (n + 1) told) (o ∷ drop (k + 1) offlined)))) not
          ∙ ap (λ (os : List Offlining). cons_option (told_note who t) (filter_map (act_note who) (acts_from (n + 1) (drop (n + 1) told) os))) (sym here)
      which (inr (past, none)) =
          let gone : drop k offlined ≡ [] = drop-past offlined k past in
          ap (λ (os : List Offlining). filter_map (act_note who) (acts_from n (t ∷ drop (n + 1) told) os)) gone
          ∙ ap (λ (os : List Offlining). cons_option (told_note who t) (filter_map (act_note who) (acts_from (n + 1) (drop (n + 1) told) os))) (sym gone)

  module _ (start notes after : List Note) (step n k : ℕ) (is : IsNoted who told offlined start notes step n k) where
    pub noted-frame : (d : Offlining) (note : Option Note) → k < length offlined → is_frame_next (length told) offlined n k ≡ true → note ≡ own_note who (get_or offlined k d).change → after ≡ notes ++ cons_option note [] → IsNoted who told offlined start after (step + 1) n (k + 1)
    noted-frame d note inside next note_is more = record {
      sum = let sum = is.sum in omega (arith, sum);
      events = is.events;
      frames = omega (arith, inside);
      noted = ap (λ (l : List Note). l ++ left who told offlined n (k + 1)) more ∙ onto notes (left who told offlined n (k + 1)) note
          ∙ ap (λ (x : Option Note). notes ++ cons_option x (left who told offlined n (k + 1))) note_is ∙ ap (λ (l : List Note). notes ++ l) (sym (frame-left n k d inside is.events next)) ∙ is.noted;
    }

    pub noted-event : (d : EventOutcome) (note : Option Note) → n < length told → is_frame_next (length told) offlined n k ≡ false → note ≡ told_note who (get_or told n d) → after ≡ notes ++ cons_option note [] → IsNoted who told offlined start after (step + 1) (n + 1) k
    noted-event d note less next note_is more = record {
      sum = let sum = is.sum in omega (arith, sum);
      events = omega (arith, less);
      frames = is.frames;
      noted = ap (λ (l : List Note). l ++ left who told offlined (n + 1) k) more ∙ onto notes (left who told offlined (n + 1) k) note
          ∙ ap (λ (x : Option Note). notes ++ cons_option x (left who told offlined (n + 1) k)) note_is ∙ ap (λ (l : List Note). notes ++ l) (sym (event-left n k d less next)) ∙ is.noted;
    }

    -- where a frame is next there is one
    pub frame-inside : is_frame_next (length told) offlined n k ≡ true → k < length offlined
    frame-inside next = which (slice_get_cases offlined k).1
      where
        which : ((o : Offlining) × (k < length offlined) × (slice_get offlined k ≡ Some o) × (get_or offlined k o ≡ o)) ⊎ ((length offlined ≤ k) × (slice_get offlined k ≡ None)) → k < length offlined
        which (inl some) = some.1
        which (inr none) = absurd (true≢false (sym next ∙ ap (is_frame_by (length told) n) none.1))

    -- and else an event is
    pub event-inside : step < length told + length offlined → is_frame_next (length told) offlined n k ≡ false → n < length told
    event-inside going next = which (slice_get_cases offlined k).1
      where
        which : ((o : Offlining) × (k < length offlined) × (slice_get offlined k ≡ Some o) × (get_or offlined k o ≡ o)) ⊎ ((length offlined ≤ k) × (slice_get offlined k ≡ None)) → n < length told
        which (inl some) =
            let not : (n == length told) ≡ false = or-false-left (n == length told) (some.0.told == n) (sym (ap (is_frame_by (length told) n) some.2) ∙ next) in
            let differ : n ≡ length told → ⊥ = eqb-false n (length told) not in
            let e = is.events in omega (arith, e, differ)
        which (inr none) = let past = none.0 in let sum = is.sum in omega (arith, past, sum, going)
