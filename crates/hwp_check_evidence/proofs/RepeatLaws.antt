-- What a list shows whose repeated items are held once.
use Rattle.std.proofs.Common.{◌≡◌, ℕ, zero, suc, ◌-◌, ◌<◌, List, [], ◌∷◌, ◌++◌, Option, Some, None, length, slice_get, option_and_then, refl, sym, ap, ◌∙◌, subst, arith}
use Rattle.std.specs.List.{cons_option, filter_map}
use Rattle.std.proofs.lemmas.List.{length_push}
use Rattle.std.proofs.lemmas.List.Elements.{All-push, filter_map-append}
use Rattle.std.proofs.lemmas.Option.{get_or_from_slice_get, none-some, same_Some, slice_get_within}
use Rattle.hwp_check_evidence.specs.Repeats.{AreHeld, shown}

module _ {T : Type 0} where
  held-there : (held : List T) (n : ℕ) → n < length held → (item : T) × (slice_get held n ≡ Some item)
  held-there [] n low = absurd (omega (arith, low))
  held-there (x ∷ xs) zero low = (x, refl)
  held-there (x ∷ xs) (suc n) low = held-there xs n (omega (arith, low))

  held-more : (held : List T) (item : T) (n : ℕ) → n < length held → slice_get (held ++ item ∷ []) n ≡ slice_get held n
  held-more [] item n low = absurd (omega (arith, low))
  held-more (x ∷ xs) item zero low = refl
  held-more (x ∷ xs) item (suc n) low = held-more xs item n (omega (arith, low))

  pub held-last : (held : List T) (item : T) → slice_get (held ++ item ∷ []) (length held) ≡ Some item
  held-last [] item = refl
  held-last (x ∷ xs) item = held-last xs item

  -- one place more
  shown-place : (held : List T) (which : List ℕ) (n : ℕ) (item : T) → slice_get held n ≡ Some item → shown held (which ++ n ∷ []) ≡ shown held which ++ item ∷ []
  shown-place held which n item is = filter_map-append (slice_get held) which (n ∷ []) ∙ ap (λ (l : List T). shown held which ++ l) (one (slice_get held n) is)
    where
      one : (o : Option T) → o ≡ Some item → filter_map (λ (k : ℕ). o) (n ∷ []) ≡ item ∷ []
      one (Some x) same = ap (λ (y : T). y ∷ []) (same_Some _ _ same)
      one None same = absurd (none-some item same)

  held-first : (held : List T) (n : ℕ) (which : List ℕ) → AreHeld held (n ∷ which) → n < length held
  held-first held n which are = are 0 0 (omega arith)

  held-rest : (held : List T) (n : ℕ) (which : List ℕ) → AreHeld held (n ∷ which) → AreHeld held which
  held-rest held n which are = λ k d low. are (suc k) d (omega (arith, low))

  shown-first : (held : List T) (n : ℕ) (which : List ℕ) (item : T) → slice_get held n ≡ Some item → shown held (n ∷ which) ≡ item ∷ shown held which
  shown-first held n which item is = ap (λ (o : Option T). cons_option o (shown held which)) is

  -- one item more to hold changes nothing
  shown-kept : (held : List T) (item : T) (which : List ℕ) → AreHeld held which → shown (held ++ item ∷ []) which ≡ shown held which
  shown-kept held item [] are = refl
  shown-kept held item (n ∷ which) are =
      ap (λ (o : Option T). cons_option o (shown (held ++ item ∷ []) which)) (held-more held item n (held-first held n which are))
      ∙ ap (cons_option (slice_get held n)) (shown-kept held item which (held-rest held n which are))

  -- and shown last, it is one place more
  pub shown-pushed : (held : List T) (item : T) (which : List ℕ) → AreHeld held which → shown (held ++ item ∷ []) (which ++ length held ∷ []) ≡ shown held which ++ item ∷ []
  shown-pushed held item which are =
      shown-place (held ++ item ∷ []) which (length held) item (held-last held item) ∙ ap (λ (l : List T). l ++ item ∷ []) (shown-kept held item which are)

  pub shown-get : (held : List T) (which : List ℕ) (n : ℕ) → AreHeld held which → slice_get (shown held which) n ≡ option_and_then (slice_get held) (slice_get which n)
  shown-get held [] n are = refl
  shown-get held (k ∷ which) n are = let h = held-there held k (held-first held k which are) in ap (λ (l : List T). slice_get l n) (shown-first held k which h.0 h.1) ∙ at n h.0 h.1 (λ m. shown-get held which m (held-rest held k which are))
    where
      at : (m : ℕ) (item : T) → slice_get held k ≡ Some item → ((i : ℕ) → slice_get (shown held which) i ≡ option_and_then (slice_get held) (slice_get which i))
          → slice_get (item ∷ shown held which) m ≡ option_and_then (slice_get held) (slice_get (k ∷ which) m)
      at zero item is rest = sym is
      at (suc m) item is rest = rest m

  shown-many : (held : List T) (which : List ℕ) → AreHeld held which → length (shown held which) ≡ length which
  shown-many held [] are = refl
  shown-many held (k ∷ which) are =
      let h = held-there held k (held-first held k which are) in
      ap length (shown-first held k which h.0 h.1) ∙ ap suc (shown-many held which (held-rest held k which are))

  -- the last item once more
  last-shown : (held : List T) (which : List ℕ) → AreHeld held which → slice_get (shown held which) (length (shown held which) - 1) ≡ option_and_then (slice_get held) (slice_get which (length which - 1))
  last-shown held which are =
      ap (λ (n : ℕ). slice_get (shown held which) (n - 1)) (shown-many held which are) ∙ shown-get held which (length which - 1) are

  pub shown-again : (held : List T) (which : List ℕ) (last : ℕ) (item : T) → AreHeld held which → slice_get which (length which - 1) ≡ Some last
      → slice_get (shown held which) (length (shown held which) - 1) ≡ Some item → shown held (which ++ last ∷ []) ≡ shown held which ++ item ∷ []
  shown-again held which last item are there is =
      shown-place held which last item (ap (option_and_then (slice_get held)) (sym there) ∙ sym (last-shown held which are) ∙ is)

  pub last-there : (held : List T) (which : List ℕ) (item : T) → AreHeld held which → slice_get which (length which - 1) ≡ None → slice_get (shown held which) (length (shown held which) - 1) ≡ Some item → ⊥
  last-there held which item are none is = none-some item (sym (last-shown held which are ∙ ap (option_and_then (slice_get held)) none) ∙ is)

  -- places keep what they show when an item more is held, and the item may have a place
  pub held-still : (held : List T) (item : T) (which : List ℕ) → AreHeld held which → AreHeld (held ++ item ∷ []) which
  held-still held item which are = λ k d low. omega (arith, are k d low, length_push held item)

  pub held-pushed : (held : List T) (item : T) (which : List ℕ) → AreHeld held which → AreHeld (held ++ item ∷ []) (which ++ length held ∷ [])
  held-pushed held item which are = All-push (λ (n : ℕ). n < length (held ++ item ∷ [])) which (length held) (held-still held item which are) (omega (arith, length_push held item))

  pub held-again : (held : List T) (which : List ℕ) (last : ℕ) → AreHeld held which → slice_get which (length which - 1) ≡ Some last → AreHeld held (which ++ last ∷ [])
  held-again held which last are there =
      All-push (λ (n : ℕ). n < length held) which last are (subst (λ (n : ℕ). n < length held) (get_or_from_slice_get which (length which - 1) last 0 there) (are (length which - 1) 0 (slice_get_within which (length which - 1) last there)))
