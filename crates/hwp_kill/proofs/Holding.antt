-- The words of a set that a task holds: those from the first to the last with a member.
use Rattle.std.proofs.Common.{◌≡◌, ℕ, ◌+◌, ◌-◌, ◌<◌, ◌≤◌, List, length, replicate, take, drop, slice_index, slice_set, sym, ap, ◌∙◌, inl, inr, arith}
use Rattle.std.proofs.lemmas.Bool.{cases_lt}
use Rattle.std.proofs.lemmas.Grind.{get_or-set_at}
use Rattle.std.proofs.lemmas.List.{get_or_append_left, get_or-append_right, get_or-replicate, length-append, length-replicate, length-set, length-take, get_or-take, get_or-drop, get_or_past, get_or-set_other}
use Rattle.hwp_kill.specs.Members.{behind, AreEmptyBelow, EndAt}

-- the words before these are empty
pub behind-before : (first : ℕ) (words : List ℕ) (i : ℕ) → i < first → slice_index (behind first words) i ≡ 0
behind-before first words i before =
    let none : ℕ = 0 in
    get_or_append_left (replicate first none) words none i (rw (length-replicate first none) before) ∙ get_or-replicate first i none none before

pub behind-from : (first : ℕ) (words : List ℕ) (i : ℕ) → first ≤ i → slice_index (behind first words) i ≡ slice_index words (i - first)
behind-from first words i from =
    let none : ℕ = 0 in
    get_or-append_right (replicate first none) words first i none (length-replicate first none) from

pub length-behind : (first : ℕ) (words : List ℕ) → length (behind first words) ≡ first + length words
length-behind first words =
    let none : ℕ = 0 in
    length-append (replicate first none) words ∙ ap (λ n. n + length words) (length-replicate first none)

-- a row ends at its end
pub EndAt-all : (words : List ℕ) → EndAt words (length words)
EndAt-all words = record { within = omega arith; empty = λ i past. get_or_past words i 0 past }

-- where a word is written, the row ends behind it at the latest
pub EndAt-set : (words : List ℕ) (top at w end : ℕ) → EndAt words top → at < length words → at < end → top ≤ end → end ≤ length words → EndAt (slice_set words at w) end
EndAt-set words top at w end before inside above more few = record {
  within = let same : length (slice_set words at w) ≡ length words = length-set words at w in omega arith;
  empty = λ i past. get_or-set_other words at i w 0 (λ same. omega arith) ∙ before.empty i (omega arith);
}

-- a row of empty words ends before them all
pub EndAt-none : (count : ℕ) → EndAt (replicate count 0) 0
EndAt-none count =
    let none : ℕ = 0 in
    record {
      within = omega arith;
      empty = λ i past. elim (cases_lt i count) [
        | inl inside ↦ get_or-replicate count i none none inside
        | inr beyond ↦ get_or_past (replicate count none) i none (rw (length-replicate count none) beyond)
      ];
    }

-- the words below `at` were cleared, in a row that ends at `top`
pub record ClearedTo (words : List ℕ) (top at : ℕ) : Type 0 where
  pub ends : EndAt words top
  pub below : AreEmptyBelow words at

pub ClearedTo-next : (words : List ℕ) (top at : ℕ) → ClearedTo words top at → at < top → ClearedTo (slice_set words at 0) top (at + 1)
ClearedTo-next words top at before inside = record {
  ends = let few = before.ends.within in EndAt-set words top at 0 top before.ends (omega arith) inside (omega arith) few;
  below = λ i low. elim (cases_lt i at) [
    | inl earlier ↦ get_or-set_other words at i 0 0 (λ same. omega arith) ∙ before.below i earlier
    | inr here ↦ let few = before.ends.within in get_or-set_at words at i 0 0 (omega arith) (omega arith)
  ];
}

-- a row that was cleared as far as its end is empty
pub ClearedTo-all : (words : List ℕ) (top at : ℕ) → ClearedTo words top at → top ≤ at → EndAt words 0
ClearedTo-all words top at cleared done = record {
  within = omega arith;
  empty = λ i past. elim (cases_lt i top) [
    | inl inside ↦ cleared.below i (omega arith)
    | inr beyond ↦ cleared.ends.empty i beyond
  ];
}

-- the words from the first to the last with a member, behind the empty ones, are the words of the row
pub held-words : (words : List ℕ) (first end : ℕ) → AreEmptyBelow words first → EndAt words end → (i : ℕ)
    → slice_index (behind first (take (end - first) (drop first words))) i ≡ slice_index words i
held-words words first end none ends i = elim (cases_lt i first) [
  | inl before ↦ behind-before first _ i before ∙ sym (none i before)
  | inr from ↦ behind-from first _ i from ∙ elim (cases_lt (i - first) (end - first)) [
    | inl inside ↦ get_or-take (end - first) (drop first words) (i - first) 0 inside ∙ get_or-drop first words (i - first) 0 ∙ ap (slice_index words) (omega arith)
    | inr past ↦
        let short : length (take (end - first) (drop first words)) ≤ end - first = omega (arith, length-take (end - first) (drop first words)) in
        get_or_past (take (end - first) (drop first words)) (i - first) 0 (omega arith) ∙ sym (ends.empty i (omega arith))
  ]
]
