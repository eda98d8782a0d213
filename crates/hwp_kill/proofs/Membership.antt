-- The set that a row of words stands for: which numbers it has, and what setting or clearing a bit does to it.
use Rattle.std.proofs.Common.{◌≡◌, ◌≢◌, ℕ, zero, suc, ◌*◌, ◌/◌, ◌%◌, ◌^◌, ◌<◌, ◌≤◌, Bool, true, false, not, cond, ◌&&◌, ◌||◌, List, [], ◌∷◌, length, slice_index, slice_set, filter, nat_eq, nat_lt, bit_and, bit_or, refl, sym, ap, ◌∙◌, inl, inr, arith}
use Rattle.std.specs.Ordering.{nat_cmp}
use Rattle.std.specs.List.{list_any}
use Rattle.std.specs.Cmp.{nat_cmp_total, unsigned_tied}
use Rattle.std.specs.FinSet as set
use Rattle.std.specs.FinSet.{nat_cmp-IsAntisymmetric}
use Rattle.std.specs.Int.{bit_at, w64, bit_not}
use Rattle.std.proofs.lemmas.Bool.{cases_eq, cases_lt, lt-ltb, le-ltb}
use Rattle.std.proofs.lemmas.Bool.Decides.{nat_tests}
use Rattle.std.proofs.lemmas.Grind.{get_or-set_at}
use Rattle.std.proofs.lemmas.List.{get_or_past, get_or-set_other, length-set}
use Rattle.std.proofs.lemmas.List.Elements.{filter-append}
use Rattle.std.proofs.lemmas.List.Folds.{list_any-append}
use Rattle.std.proofs.lemmas.Nat.{one_shl, pow_pos}
use Rattle.std.proofs.lemmas.Nat.Bits.{and_pow, bit_at-lt, bit_at-zero, bit_at_set_same, bit_at_set_other, bit_at_clear_same, bit_at_clear_other}
use Rattle.hwp_kill.specs.Members.{members, numbers_below, bit_of}

or_false : (b : Bool) → (b || false) ≡ b
or_false true = refl
or_false false = refl

pub and_false : (b : Bool) → (b && false) ≡ false
and_false true = refl
and_false false = refl

one_member : (p : ℕ → Bool) (n v : ℕ) → list_any (λ y. nat_eq y v) (filter p (n ∷ [])) ≡ (p n && nat_eq n v)
one_member p n v =
    elim (p n) as (λ b. list_any (λ y. nat_eq y v) (cond b (n ∷ []) []) ≡ (b && nat_eq n v)) [ true ↦ or_false _ | false ↦ refl ]

one_more : (v n : ℕ) (pv pn : Bool) → (v ≡ n → pv ≡ pn) → ((nat_lt v n && pv) || (pn && nat_eq n v)) ≡ (nat_lt v (suc n) && pv)
one_more v n true true same = grind (arith, nat_tests)
one_more v n true false same = grind (arith, nat_tests)
one_more v n false true same = grind (arith, nat_tests)
one_more v n false false same = grind (arith, nat_tests)

any_below : (p : ℕ → Bool) (n v : ℕ) → list_any (λ y. nat_eq y v) (filter p (numbers_below n)) ≡ (nat_lt v n && p v)
any_below p zero v = grind (arith, nat_tests)
any_below p (suc n) v =
    rw (filter-append, list_any-append, any_below p n v, one_member p n v) (one_more v n (p v) (p n) (ap p))

pub contains-members : (words : List ℕ) (v : ℕ) → set.contains (set.from_list {R = nat_cmp} (members words)) v ≡ (nat_lt v (64 * length words) && bit_of words v)
contains-members words v = set.contains-from_list_nat (members words) v ∙ any_below (bit_of words) (64 * length words) v

no_bit : (words : List ℕ) (v : ℕ) → 64 * length words ≤ v → bit_of words v ≡ false
no_bit words v past =
    ap (λ w. nat_eq (bit_at w (v % 64)) 1) (get_or_past words (v / 64) 0 (omega arith))
    ∙ ap (λ b. nat_eq b 1) (bit_at-zero (v % 64))

-- a number is in the set where its bit is set
pub contains-bit : (words : List ℕ) (v : ℕ) → set.contains (set.from_list {R = nat_cmp} (members words)) v ≡ bit_of words v
contains-bit words v = contains-members words v ∙ elim (cases_lt v (64 * length words)) [
  | inl below ↦ ap (λ b. b && bit_of words v) (lt-ltb v (64 * length words) below)
  | inr past ↦ ap (λ b. b && bit_of words v) (le-ltb v (64 * length words) past) ∙ sym (no_bit words v past)
]

-- rows with the same word at each place have the same members
pub same-members : (a b : List ℕ) → ((i : ℕ) → slice_index a i ≡ slice_index b i)
    → set.from_list {R = nat_cmp} (members a) ≡ set.from_list (members b)
same-members a b same =
    set.same_set nat_cmp_total nat_cmp-IsAntisymmetric _ _ (λ v.
    contains-bit a v
    ∙ ap (λ w. nat_eq (bit_at w (v % 64)) 1) (same (v / 64))
    ∙ sym (contains-bit b v))

scaled : (b p : ℕ) → b < 2 → 0 < p → not (nat_eq (b * p) 0) ≡ nat_eq b 1
scaled zero p small some = grind (arith, nat_tests)
scaled (suc zero) p small some = grind (arith, nat_tests)
scaled (suc (suc b)) p small some = absurd (omega arith)

-- how the code tests a bit
pub bit_test : (w k : ℕ) → k < 64 → not (nat_eq (bit_and w (1 * 2 ^ k % 2 ^ 64)) 0) ≡ nat_eq (bit_at w k) 1
bit_test w k within = rw (one_shl k 64 within, and_pow) (scaled (bit_at w k) (2 ^ k) (bit_at-lt w k) (pow_pos k))

-- the code's test of a number within the words
pub has-members : (words : List ℕ) (k : ℕ) → k < 64 * length words
    → not (nat_eq (bit_and (slice_index words (k / 64)) (1 * 2 ^ (k % 64) % 2 ^ 64)) 0) ≡ set.contains (set.from_list {R = nat_cmp} (members words)) k
has-members words k within =
    bit_test (slice_index words (k / 64)) (k % 64) (omega arith)
    ∙ sym (contains-members words k ∙ ap (λ b. b && bit_of words k) (lt-ltb k (64 * length words) within))

-- the code's test of the word where the number's bit stands
pub has-word : (words : List ℕ) (k : ℕ)
    → not (nat_eq (bit_and (slice_index words (k / 64)) (1 * 2 ^ (k % 64) % 2 ^ 64)) 0) ≡ set.contains (set.from_list {R = nat_cmp} (members words)) k
has-word words k = bit_test (slice_index words (k / 64)) (k % 64) (omega arith) ∙ sym (contains-bit words k)

-- a number past the words is in no such set
pub has-past : (words : List ℕ) (k : ℕ) → 64 * length words ≤ k → set.contains (set.from_list {R = nat_cmp} (members words)) k ≡ false
has-past words k past = contains-members words k ∙ ap (λ b. b && bit_of words k) (le-ltb k (64 * length words) past)

-- a word with the bit of a number set, as the code computes it
abbrev pub marked : List ℕ → ℕ → ℕ
marked words k = bit_or (slice_index words (k / 64)) (1 * 2 ^ (k % 64) % 2 ^ 64)

-- the same with the bit cleared
abbrev pub cleared : List ℕ → ℕ → ℕ
cleared words k = bit_and (slice_index words (k / 64)) (bit_not w64 (1 * 2 ^ (k % 64) % 2 ^ 64))

bit_of-set_here : (words : List ℕ) (i w v : ℕ) → i < length words → v / 64 ≡ i → bit_of (slice_set words i w) v ≡ nat_eq (bit_at w (v % 64)) 1
bit_of-set_here words i w v within here = ap (λ x. nat_eq (bit_at x (v % 64)) 1) (get_or-set_at words i (v / 64) w 0 here within)

bit_of-set_elsewhere : (words : List ℕ) (i w v : ℕ) → v / 64 ≢ i → bit_of (slice_set words i w) v ≡ bit_of words v
bit_of-set_elsewhere words i w v elsewhere = ap (λ x. nat_eq (bit_at x (v % 64)) 1) (get_or-set_other words i (v / 64) w 0 elsewhere)

-- a change of one word at the place of k changes no other number's bit, where it keeps the other bits of the word
bit_of-other : (words : List ℕ) (k w v : ℕ) → k / 64 < length words → v ≢ k
    → ((i : ℕ) → i < 64 → i ≢ k % 64 → bit_at w i ≡ bit_at (slice_index words (k / 64)) i)
    → bit_of (slice_set words (k / 64) w) v ≡ bit_of words v
bit_of-other words k w v within other keeps =
    elim (cases_eq (v / 64) (k / 64)) [
      | inl e ↦ bit_of-set_here words (k / 64) w v within e
          ∙ ap (λ b. nat_eq b 1) (keeps (v % 64) (omega arith) (λ same. other (omega arith)))
          ∙ ap (λ i. nat_eq (bit_at (slice_index words i) (v % 64)) 1) (sym e)
      | inr ne ↦ bit_of-set_elsewhere words (k / 64) w v ne
    ]

both_true : (words : List ℕ) (k w v : ℕ) → k / 64 < length words → v ≡ k → bit_at w (k % 64) ≡ 1 → bit_of (slice_set words (k / 64) w) v ≡ true
both_true words k w v within same one =
    bit_of-set_here words (k / 64) w v within (ap (λ n. n / 64) same)
    ∙ ap (λ n. nat_eq (bit_at w (n % 64)) 1) same
    ∙ ap (λ b. nat_eq b 1) one

both_false : (words : List ℕ) (k w v : ℕ) → k / 64 < length words → v ≡ k → bit_at w (k % 64) ≡ 0 → bit_of (slice_set words (k / 64) w) v ≡ false
both_false words k w v within same none =
    bit_of-set_here words (k / 64) w v within (ap (λ n. n / 64) same)
    ∙ ap (λ n. nat_eq (bit_at w (n % 64)) 1) same
    ∙ ap (λ b. nat_eq b 1) none

marked-set : (words : List ℕ) (k v : ℕ) → k < 64 * length words
    → (nat_lt v (64 * length (slice_set words (k / 64) (marked words k))) && bit_of (slice_set words (k / 64) (marked words k)) v)
    ≡ (nat_eq v k || (nat_lt v (64 * length words) && bit_of words v))
marked-set words k v within =
    rw length-set (elim (cases_eq v k) [
      | inl e ↦ rw (both_true words k (marked words k) v (omega arith) e (bit_at_set_same w64 _ (k % 64) (omega arith))) (grind (arith, nat_tests))
      | inr ne ↦ rw (bit_of-other words k (marked words k) v (omega arith) ne (λ i below other. bit_at_set_other w64 _ (k % 64) (omega arith) i other)) (grind (arith, nat_tests))
    ])

cleared-set : (words : List ℕ) (k v : ℕ) → k < 64 * length words
    → (nat_lt v (64 * length (slice_set words (k / 64) (cleared words k))) && bit_of (slice_set words (k / 64) (cleared words k)) v)
    ≡ (not (nat_eq v k) && (nat_lt v (64 * length words) && bit_of words v))
cleared-set words k v within =
    rw length-set (elim (cases_eq v k) [
      | inl e ↦ rw (both_false words k (cleared words k) v (omega arith) e (bit_at_clear_same w64 _ (k % 64) (omega arith)), and_false) (grind (arith, nat_tests))
      | inr ne ↦ rw (bit_of-other words k (cleared words k) v (omega arith) ne (λ i below other. bit_at_clear_other w64 _ (k % 64) (omega arith) i below other)) (grind (arith, nat_tests))
    ])

-- the set after the bit of a number is set
pub members-marked : (words : List ℕ) (k : ℕ) → k < 64 * length words
    → set.from_list {R = nat_cmp} (members (slice_set words (k / 64) (marked words k))) ≡ set.insert (set.from_list (members words)) k
members-marked words k within =
    set.same_set nat_cmp_total nat_cmp-IsAntisymmetric _ _ (λ v.
    contains-members (slice_set words (k / 64) (marked words k)) v
    ∙ marked-set words k v within
    ∙ ap (λ b. nat_eq v k || b) (sym (contains-members words v))
    ∙ ap (λ b. b || set.contains (set.from_list {R = nat_cmp} (members words)) v) (sym (unsigned_tied v k))
    ∙ sym (set.contains-insert nat_cmp_total _ k v))

-- the set after the bit of a number is cleared
pub members-cleared : (words : List ℕ) (k : ℕ) → k < 64 * length words
    → set.from_list {R = nat_cmp} (members (slice_set words (k / 64) (cleared words k))) ≡ set.remove (set.from_list (members words)) k
members-cleared words k within =
    set.same_set nat_cmp_total nat_cmp-IsAntisymmetric _ _ (λ v.
    contains-members (slice_set words (k / 64) (cleared words k)) v
    ∙ cleared-set words k v within
    ∙ ap (λ b. not (nat_eq v k) && b) (sym (contains-members words v))
    ∙ ap (λ b. not b && set.contains (set.from_list {R = nat_cmp} (members words)) v) (sym (unsigned_tied v k))
    ∙ sym (set.contains-remove nat_cmp_total _ k v))

past_end : (words : List ℕ) (k v : ℕ) → 64 * length words ≤ k
    → (nat_lt v (64 * length words) && bit_of words v) ≡ (not (nat_eq v k) && (nat_lt v (64 * length words) && bit_of words v))
past_end words k v past = grind (arith, nat_tests)

-- a number past the words is in the set neither before nor after it is taken out
pub members-past : (words : List ℕ) (k : ℕ) → 64 * length words ≤ k
    → set.from_list {R = nat_cmp} (members words) ≡ set.remove (set.from_list (members words)) k
members-past words k past =
    set.same_set nat_cmp_total nat_cmp-IsAntisymmetric _ _ (λ v.
    contains-members words v
    ∙ past_end words k v past
    ∙ ap (λ b. not (nat_eq v k) && b) (sym (contains-members words v))
    ∙ ap (λ b. not b && set.contains (set.from_list {R = nat_cmp} (members words)) v) (sym (unsigned_tied v k))
    ∙ sym (set.contains-remove nat_cmp_total _ k v))
