-- What is kept of a record tells where the marks of earlier and of later commands end and begin.
use Rattle.std.proofs.Common.{◌≡◌, ◌⊎◌, inl, inr, ℕ, zero, suc, ◌+◌, ◌<◌, ◌≤◌, ◌==◌, max, min, cond, Bool, true, false, List, [], ◌∷◌, Some, length, slice_get, refl, sym, ap, subst, arith}
use Rattle.std.proofs.lemmas.Bool.{cases_lt, eq-eqb, eqb-true}
use Rattle.std.proofs.lemmas.Option.{none-some, same_Some, slice_get_within}
use Rattle.hwp_law.specs.hwp_geom.declared.Cpu.{Cpu}
use Rattle.hwp_law.specs.hwp_geom.declared.Who.{Who}
use Rattle.hwp_law.specs.hwp_page.Orders.{IsEarlier}
use Rattle.hwp_law.specs.hwp_report_text.declared.MarkLine.{MarkLine}
use Rattle.hwp_law.specs.Records.{who_in}
use Rattle.hwp_check_event_line.specs.Nears.{higher, highs, lowest, lows, seq_by, top}
use Rattle.hwp_check_event_line.specs.Windows.{IsEdge}

same-cpu : (a b : Cpu) → a.0 ≡ b.0 → a ≡ b
same-cpu a b is = λ i. record { 0 = is i }

lows-some : (cpu : Cpu) (list : List MarkLine) (i : ℕ) → i < length list → (x : ℕ) × (slice_get (lows cpu list) i ≡ Some x)
lows-some cpu [] i less = absurd (omega (arith, less))
lows-some cpu (m ∷ ms) zero less = (lowest cpu (m ∷ ms), refl)
lows-some cpu (m ∷ ms) (suc i) less = lows-some cpu ms i (omega (arith, less))

highs-some : (cpu : Cpu) (found : ℕ) (list : List MarkLine) (i : ℕ) → i < length list → (x : ℕ) × (slice_get (highs cpu found list) i ≡ Some x)
highs-some cpu found [] i less = absurd (omega (arith, less))
highs-some cpu found (m ∷ ms) zero less = (higher cpu found m, refl)
highs-some cpu found (m ∷ ms) (suc i) less = highs-some cpu (higher cpu found m) ms i (omega (arith, less))

pub lows-long : (cpu : Cpu) (list : List MarkLine) → length (lows cpu list) ≡ length list
lows-long cpu [] = refl
lows-long cpu (m ∷ ms) = ap suc (lows-long cpu ms)

pub highs-long : (cpu : Cpu) (found : ℕ) (list : List MarkLine) → length (highs cpu found list) ≡ length list
highs-long cpu found [] = refl
highs-long cpu found (m ∷ ms) = ap suc (highs-long cpu (higher cpu found m) ms)

module _ (who : Who) (most : who.seq ≤ top) where
  seq-low : (m : MarkLine) → seq_by who.cpu top m < who.seq → IsEarlier (who_in m) who
  seq-low m low = which ((who_in m).cpu.0 == who.cpu.0) refl low
    where
      which : (b : Bool) → ((who_in m).cpu.0 == who.cpu.0) ≡ b → cond b (who_in m).seq top < who.seq → IsEarlier (who_in m) who
      which true own less = (same-cpu (who_in m).cpu who.cpu (eqb-true (who_in m).cpu.0 who.cpu.0 own), less)
      which false other less = absurd (omega (arith, most, less))

  low-seq : (m : MarkLine) → IsEarlier (who_in m) who → seq_by who.cpu top m < who.seq
  low-seq m is =
      let own : ((who_in m).cpu.0 == who.cpu.0) ≡ true = eq-eqb (who_in m).cpu.0 who.cpu.0 (ap (λ (c : Cpu). c.0) is.0) in
      subst (λ (b : Bool). cond b (who_in m).seq top < who.seq) (sym own) is.1

  seq-high : (m : MarkLine) → who.seq < seq_by who.cpu 0 m → IsEarlier who (who_in m)
  seq-high m high = which ((who_in m).cpu.0 == who.cpu.0) refl high
    where
      which : (b : Bool) → ((who_in m).cpu.0 == who.cpu.0) ≡ b → who.seq < cond b (who_in m).seq 0 → IsEarlier who (who_in m)
      which true own more = (sym (same-cpu (who_in m).cpu who.cpu (eqb-true (who_in m).cpu.0 who.cpu.0 own)), more)
      which false other more = absurd (omega (arith, more))

  high-seq : (m : MarkLine) → IsEarlier who (who_in m) → who.seq < seq_by who.cpu 0 m
  high-seq m is =
      let own : ((who_in m).cpu.0 == who.cpu.0) ≡ true = eq-eqb (who_in m).cpu.0 who.cpu.0 (sym (ap (λ (c : Cpu). c.0) is.0)) in
      subst (λ (b : Bool). who.seq < cond b (who_in m).seq 0) (sym own) is.1

  -- a mark of an earlier command from a place on, and one of a later command up to it
  abbrev EarlierFrom : List MarkLine → ℕ → Type 0
  EarlierFrom list i = (place : ℕ) × (mark : MarkLine) × (i ≤ place) × (slice_get list place ≡ Some mark) × IsEarlier (who_in mark) who

  abbrev LaterUpTo : List MarkLine → ℕ → Type 0
  LaterUpTo list i = (place : ℕ) × (mark : MarkLine) × (place ≤ i) × (slice_get list place ≡ Some mark) × IsEarlier who (who_in mark)

  lowest-has : (list : List MarkLine) → lowest who.cpu list < who.seq → EarlierFrom list 0
  lowest-has [] low = absurd (omega (arith, most, low))
  lowest-has (m ∷ ms) low = elim (cases_lt (seq_by who.cpu top m) who.seq) [
    | inl here ↦ (0, m, omega arith, refl, seq-low m here)
    | inr past ↦
        let both : min (seq_by who.cpu top m) (lowest who.cpu ms) < who.seq = low in
        let later = lowest-has ms (omega (arith, both, past)) in
        (suc later.0, later.1, omega arith, later.3, later.4)
  ]

  has-lowest : (list : List MarkLine) → EarlierFrom list 0 → lowest who.cpu list < who.seq
  has-lowest [] (place, mark, from, there, is) = absurd (none-some mark there)
  has-lowest (m ∷ ms) (zero, mark, from, there, is) =
      let low : seq_by who.cpu top m < who.seq = low-seq m (subst (λ (x : MarkLine). IsEarlier (who_in x) who) (sym (same_Some _ _ there)) is) in
      let both : min (seq_by who.cpu top m) (lowest who.cpu ms) < who.seq = omega (arith, low) in
      both
  has-lowest (m ∷ ms) (suc place, mark, from, there, is) =
      let low : lowest who.cpu ms < who.seq = has-lowest ms (place, mark, omega arith, there, is) in
      let both : min (seq_by who.cpu top m) (lowest who.cpu ms) < who.seq = omega (arith, low) in
      both

  lows-has : (list : List MarkLine) (i x : ℕ) → slice_get (lows who.cpu list) i ≡ Some x → x < who.seq → EarlierFrom list i
  lows-has [] i x slot low = absurd (none-some x slot)
  lows-has (m ∷ ms) zero x slot low = lowest-has (m ∷ ms) (subst (λ (n : ℕ). n < who.seq) (sym (same_Some _ _ slot)) low)
  lows-has (m ∷ ms) (suc i) x slot low =
      let later = lows-has ms i x slot low in
      let from : i ≤ later.0 = later.2 in
      (suc later.0, later.1, omega (arith, from), later.3, later.4)

  has-lows : (list : List MarkLine) (i x : ℕ) → slice_get (lows who.cpu list) i ≡ Some x → EarlierFrom list i → x < who.seq
  has-lows [] i x slot has = absurd (none-some x slot)
  has-lows (m ∷ ms) zero x slot has = subst (λ (n : ℕ). n < who.seq) (same_Some _ _ slot) (has-lowest (m ∷ ms) has)
  has-lows (m ∷ ms) (suc i) x slot (zero, mark, from, there, is) = absurd (omega (arith, from))
  has-lows (m ∷ ms) (suc i) x slot (suc place, mark, from, there, is) = has-lows ms i x slot (place, mark, omega (arith, from), there, is)

  head-has : (found : ℕ) (m : MarkLine) → who.seq < higher who.cpu found m → (who.seq < found) ⊎ IsEarlier who (who_in m)
  head-has found m high = elim (cases_lt who.seq found) [
    | inl old ↦ inl old
    | inr past ↦ let both : who.seq < max found (seq_by who.cpu 0 m) = high in inr (seq-high m (omega (arith, both, past)))
  ]

  has-head : (found : ℕ) (m : MarkLine) → (who.seq < found) ⊎ IsEarlier who (who_in m) → who.seq < higher who.cpu found m
  has-head found m (inl old) = let both : who.seq < max found (seq_by who.cpu 0 m) = omega (arith, old) in both
  has-head found m (inr is) = let new : who.seq < seq_by who.cpu 0 m = high-seq m is in let both : who.seq < max found (seq_by who.cpu 0 m) = omega (arith, new) in both

  highs-has : (found : ℕ) (list : List MarkLine) (i x : ℕ) → slice_get (highs who.cpu found list) i ≡ Some x → who.seq < x → (who.seq < found) ⊎ LaterUpTo list i
  highs-has found [] i x slot high = absurd (none-some x slot)
  highs-has found (m ∷ ms) zero x slot high = elim (head-has found m (subst (λ (n : ℕ). who.seq < n) (sym (same_Some _ _ slot)) high)) [
    | inl old ↦ inl old
    | inr is ↦ inr (0, m, omega arith, refl, is)
  ]
  highs-has found (m ∷ ms) (suc i) x slot high = elim (highs-has (higher who.cpu found m) ms i x slot high) [
    | inl first ↦ elim (head-has found m first) [
      | inl old ↦ inl old
      | inr is ↦ inr (0, m, omega arith, refl, is)
    ]
    | inr later ↦ let up : later.0 ≤ i = later.2 in inr (suc later.0, later.1, omega (arith, up), later.3, later.4)
  ]

  has-highs : (found : ℕ) (list : List MarkLine) (i x : ℕ) → slice_get (highs who.cpu found list) i ≡ Some x → (who.seq < found) ⊎ LaterUpTo list i → who.seq < x
  has-highs found [] i x slot some = absurd (none-some x slot)
  has-highs found (m ∷ ms) zero x slot (inl old) = subst (λ (n : ℕ). who.seq < n) (same_Some _ _ slot) (has-head found m (inl old))
  has-highs found (m ∷ ms) zero x slot (inr (zero, mark, up, there, is)) =
      subst (λ (n : ℕ). who.seq < n) (same_Some _ _ slot) (has-head found m (inr (subst (λ (y : MarkLine). IsEarlier who (who_in y)) (sym (same_Some _ _ there)) is)))
  has-highs found (m ∷ ms) zero x slot (inr (suc place, mark, up, there, is)) = absurd (omega (arith, up))
  has-highs found (m ∷ ms) (suc i) x slot (inl old) = has-highs (higher who.cpu found m) ms i x slot (inl (has-head found m (inl old)))
  has-highs found (m ∷ ms) (suc i) x slot (inr (zero, mark, up, there, is)) =
      has-highs (higher who.cpu found m) ms i x slot (inl (has-head found m (inr (subst (λ (y : MarkLine). IsEarlier who (who_in y)) (sym (same_Some _ _ there)) is))))
  has-highs found (m ∷ ms) (suc i) x slot (inr (suc place, mark, up, there, is)) = has-highs (higher who.cpu found m) ms i x slot (inr (place, mark, omega (arith, up), there, is))

  -- the edges: all earlier commands' marks stand below the first one, and no later one's below the second one
  pub earlier-below : (list : List MarkLine) (first : ℕ) → IsEdge (lows who.cpu list) who.seq first → (place : ℕ) (mark : MarkLine) → slice_get list place ≡ Some mark → IsEarlier (who_in mark) who → place < first
  earlier-below list first at place mark there is = elim (cases_lt place first) [
    | inl below ↦ below
    | inr past ↦
        let within : place < length list = slice_get_within list place mark there in
        let slot = lows-some who.cpu list first (omega (arith, past, within)) in
        let not_low : who.seq ≤ slot.0 = at.behind slot.0 slot.1 in
        let low : slot.0 < who.seq = has-lows list first slot.0 slot.1 (place, mark, past, there, is) in
        absurd (omega (arith, not_low, low))
  ]

  no-later : (list : List MarkLine) (last : ℕ) → IsEdge (highs who.cpu 0 list) (who.seq + 1) last → (place : ℕ) (mark : MarkLine) → slice_get list place ≡ Some mark → IsEarlier who (who_in mark) → place < last → ⊥
  no-later list zero at place mark there is below = omega (arith, below)
  no-later list (suc last) at place mark there is below =
      let long : suc last ≤ length list = subst (λ (n : ℕ). suc last ≤ n) (highs-long who.cpu 0 list) at.within in
      let slot = highs-some who.cpu 0 list last (omega (arith, long)) in
      let low : slot.0 < who.seq + 1 = at.before last slot.0 (let e : last + 1 ≡ suc last = omega arith in e) slot.1 in
      let high : who.seq < slot.0 = has-highs 0 list last slot.0 slot.1 (inr (place, mark, omega (arith, below), there, is)) in
      omega (arith, low, high)

  pub later-behind : (list : List MarkLine) (last : ℕ) → IsEdge (highs who.cpu 0 list) (who.seq + 1) last → (place : ℕ) (mark : MarkLine) → slice_get list place ≡ Some mark → IsEarlier who (who_in mark) → last ≤ place
  later-behind list last at place mark there is = elim (cases_lt place last) [
    | inl below ↦ absurd (no-later list last at place mark there is below)
    | inr past ↦ past
  ]

  -- and they are the outermost ones
  not-less : (list : List MarkLine) (first : ℕ) → IsEdge (lows who.cpu list) who.seq first → (count : ℕ) → ((place : ℕ) (mark : MarkLine) → slice_get list place ≡ Some mark → IsEarlier (who_in mark) who → place < count) → count < first → ⊥
  not-less list zero at count earlier less = omega (arith, less)
  not-less list (suc last) at count earlier less =
      let long : suc last ≤ length list = subst (λ (n : ℕ). suc last ≤ n) (lows-long who.cpu list) at.within in
      let slot = lows-some who.cpu list last (omega (arith, long)) in
      let has = lows-has list last slot.0 slot.1 (at.before last slot.0 (let e : last + 1 ≡ suc last = omega arith in e) slot.1) in
      let from : last ≤ has.0 = has.2 in
      let below : has.0 < count = earlier has.0 has.1 has.3 has.4 in
      omega (arith, less, from, below)

  pub first-least : (list : List MarkLine) (first : ℕ) → IsEdge (lows who.cpu list) who.seq first → (count : ℕ) → ((place : ℕ) (mark : MarkLine) → slice_get list place ≡ Some mark → IsEarlier (who_in mark) who → place < count) → first ≤ count
  first-least list first at count earlier = elim (cases_lt count first) [
    | inl less ↦ absurd (not-less list first at count earlier less)
    | inr past ↦ past
  ]

  pub last-most : (list : List MarkLine) (last : ℕ) → IsEdge (highs who.cpu 0 list) (who.seq + 1) last → (count : ℕ) → count ≤ length list → ((place : ℕ) (mark : MarkLine) → slice_get list place ≡ Some mark → IsEarlier who (who_in mark) → count ≤ place) → count ≤ last
  last-most list last at count within later = elim (cases_lt last count) [
    | inr past ↦ past
    | inl less ↦
        let slot = highs-some who.cpu 0 list last (omega (arith, less, within)) in
        let high : who.seq + 1 ≤ slot.0 = at.behind slot.0 slot.1 in
        elim (highs-has 0 list last slot.0 slot.1 (omega (arith, high))) [
          | inl none ↦ absurd (omega (arith, none))
          | inr has ↦
              let up : has.0 ≤ last = has.2 in
              let behind : count ≤ has.0 = later has.0 has.1 has.3 has.4 in
              absurd (omega (arith, less, up, behind))
        ]
  ]
