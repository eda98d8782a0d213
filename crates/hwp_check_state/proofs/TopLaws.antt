-- Policies seen in the order of keys: the highest number of the last group, and which are older than one before.
use Rattle.std.proofs.Common.{◌≡◌, ◌⊎◌, inl, inr, ℕ, ◌+◌, ◌*◌, ◌<◌, ◌≤◌, min, max, Bool, true, false, cond, nat_lt, List, [], ◌∷◌, ◌++◌, MatchBool, length, take, slice_index_or, refl, sym, ap, ◌∙◌, subst, arith}
use Rattle.std.specs.List.{All, Contains}
use Rattle.std.specs.List.Sorted.{IsNonDecreasingBy}
use Rattle.std.proofs.lemmas.Bool.{cases_eq, cases_lt, eq-eqb, ltb-false, ltb-true, ne_eqb}
use Rattle.std.proofs.lemmas.List.{get_or-take, get_or_default, length-take, take_more}
use Rattle.std.proofs.lemmas.List.Elements.{All-contains, Contains-get_or, Contains-push, Contains-push_cases, Contains-append_left}
use Rattle.hwp_check_rules.specs.hwp_geom.declared.Cpu.{Cpu}
use Rattle.hwp_check_rules.specs.hwp_geom.declared.Thread.{Thread}
use Rattle.hwp_check_state.specs.declared.sights.Sight.{Sight}
use Rattle.hwp_check_state.specs.Sights.{IsBelow, IsNotBelow, IsSmall, IsTop, group_of, key_of, top_of}

groups-rise : (g q n h p m : ℕ) → p < 4294967296 → m < 4294967296 → (g * 4294967296 + q) * 4294967296 + n ≤ (h * 4294967296 + p) * 4294967296 + m → g ≤ h
groups-rise g q n h p m small-p small-m up = omega arith

seqs-rise : (g q n h p m : ℕ) → g ≡ h → (g * 4294967296 + q) * 4294967296 + n ≤ (h * 4294967296 + p) * 4294967296 + m → m < n → q < p
seqs-rise g q n h p m same up falls = omega arith

keys-rise : (g q n h p m : ℕ) → g ≡ h → p < q → m < 4294967296 → (g * 4294967296 + q) * 4294967296 + n ≤ (h * 4294967296 + p) * 4294967296 + m → ⊥
keys-rise g q n h p m same falls small up = omega arith

cpus-same : (a t b u : ℕ) → t < 256 → u < 256 → a * 256 + t ≡ b * 256 + u → a ≡ b
cpus-same a t b u small small-u same = omega arith

threads-same : (a t b u : ℕ) → t < 256 → u < 256 → a * 256 + t ≡ b * 256 + u → t ≡ u
threads-same a t b u small small-u same = omega arith

same-cpu : (a b : Cpu) → a.0 ≡ b.0 → a ≡ b
same-cpu a b same = λ i. record { 0 = same i }

same-thread : (a b : Thread) → a.0 ≡ b.0 → a ≡ b
same-thread a b same = λ i. record { 0 = same i }

module _ (list : List Sight) (sorted : IsNonDecreasingBy key_of list) (small : All IsSmall list) (i : ℕ) (d : Sight) (within : i < length list) where
  abbrev pub x : Sight
  x = slice_index_or list i d

  abbrev pub front : List Sight
  front = take i list

  small-x : IsSmall x
  small-x = All-contains IsSmall list x small (Contains-get_or list i d within)

  -- what is in front stands before
  record StandsBefore (s : Sight) : Type 0 where
    at : ℕ
    before : at < i
    there : slice_index_or list at s ≡ s

  in-front : (s : Sight) → Contains front s → StandsBefore s
  in-front s c = record { at = c.0; before = before; there = sym (get_or-take i list c.0 s before) ∙ c.2 }
    where
      before : c.0 < i
      before = let less : c.0 < length (take i list) = c.1 in let short : length (take i list) ≡ min i (length list) = length-take i list in omega (arith, less, short)

  in-list : (s : Sight) → Contains front s → Contains list s
  in-list s c = let f = in-front s c in (f.at, (let b : f.at < i = f.before in omega (arith, b, within)), f.there)

  key-le : (s : Sight) → Contains front s → key_of s ≤ key_of x
  key-le s c = let f = in-front s c in
      subst (λ (t : Sight). key_of t ≤ key_of x) f.there
      (subst (λ (t : Sight). key_of (slice_index_or list f.at s) ≤ key_of t) (get_or_default list i s d within) (sorted f.at i s (let b : f.at < i = f.before in omega (arith, b)) within))

  group-le : (s : Sight) → Contains front s → group_of s ≤ group_of x
  group-le s c = groups-rise (group_of s) s.who.seq s.seen.n (group_of x) x.who.seq x.seen.n small-x.seq small-x.n (key-le s c)

  module _ (group top : ℕ) (is : IsTop front group top) where
    abbrev pub own : ℕ
    own = group_of x

    abbrev pub before : ℕ
    before = top_of group own top

    top-same : group ≡ own → before ≡ top
    top-same same = ap (λ (b : Bool). cond b top 0) (eq-eqb group own same)

    top-other : (group ≡ own → ⊥) → before ≡ 0
    top-other other = ap (λ (b : Bool). cond b top 0) (ne_eqb group own other)

    upto : (s : Sight) → Contains front s → group_of s ≡ own → s.seen.n ≤ before
    upto s c same = which (cases_eq group own)
      where
        which : (group ≡ own) ⊎ (group ≡ own → ⊥) → s.seen.n ≤ before
        which (inl e) = subst (λ (n : ℕ). s.seen.n ≤ n) (sym (top-same e)) (is.below s c (same ∙ sym e))
        which (inr e) = let up : group_of s ≤ group = is.last s c in let low : group ≤ own = is.low own group-le in absurd (e (omega (arith, up, low, same)))

    from : (before ≡ 0) ⊎ ((s : Sight) × Contains front s × (group_of s ≡ own) × (s.seen.n ≡ before))
    from = which (cases_eq group own)
      where
        which : (group ≡ own) ⊎ (group ≡ own → ⊥) → (before ≡ 0) ⊎ ((s : Sight) × Contains front s × (group_of s ≡ own) × (s.seen.n ≡ before))
        which (inl e) = elim is.reached [
          | inl zero ↦ inl (top-same e ∙ zero)
          | inr r ↦ inr (r.0, r.1, r.2 ∙ e, r.3 ∙ sym (top-same e))
        ]
        which (inr e) = inl (top-other e)

    is-below : x.seen.n < before → IsBelow list x
    is-below falls = elim from [
      | inl zero ↦ absurd (omega (arith, falls, zero))
      | inr r ↦ found r.0 r.1 r.2 r.3
    ]
      where
        found : (s : Sight) → Contains front s → group_of s ≡ own → s.seen.n ≡ before → IsBelow list x
        found s c same reached = record {
          before = s;
          listed = in-list s c;
          same_cpu = same-cpu s.who.cpu x.who.cpu (cpus-same s.who.cpu.0 s.seen.thread.0 x.who.cpu.0 x.seen.thread.0 small-s.thread small-x.thread same);
          same_thread = same-thread s.seen.thread x.seen.thread (threads-same s.who.cpu.0 s.seen.thread.0 x.who.cpu.0 x.seen.thread.0 small-s.thread small-x.thread same);
          rises = seqs-rise (group_of s) s.who.seq s.seen.n (group_of x) x.who.seq x.seen.n same (key-le s c) more;
          falls = more;
        }
          where
            small-s : IsSmall s
            small-s = All-contains IsSmall list s small (in-list s c)

            more : x.seen.n < s.seen.n
            more = omega (arith, falls, reached)

    not-below : before ≤ x.seen.n → IsNotBelow list x
    not-below less b = which (cases_lt b.listed.0 i)
      where
        same : group_of b.before ≡ own
        same = λ j. (b.same_cpu j).0 * 256 + (b.same_thread j).0

        small-b : IsSmall b.before
        small-b = All-contains IsSmall list b.before small b.listed

        which : (b.listed.0 < i) ⊎ (i ≤ b.listed.0) → ⊥
        which (inl here) = let up : b.before.seen.n ≤ before = upto b.before (b.listed.0, short, get_or-take i list b.listed.0 b.before here ∙ b.listed.2) same in let falls : x.seen.n < b.before.seen.n = b.falls in omega (arith, up, falls, less)
          where
            short : b.listed.0 < length (take i list)
            short = let l : length (take i list) ≡ min i (length list) = length-take i list in omega (arith, l, here, within)
        which (inr later) =
            keys-rise (group_of x) x.who.seq x.seen.n (group_of b.before) b.before.who.seq b.before.seen.n (sym same) b.rises small-b.n
            (subst (λ (t : Sight). key_of x ≤ key_of t) b.listed.2
            (subst (λ (t : Sight). key_of t ≤ key_of (slice_index_or list b.listed.0 b.before)) (get_or_default list i b.before d within) (sorted i b.listed.0 b.before later b.listed.1)))

    pub below-is : MatchBool (nat_lt x.seen.n before) (IsBelow list x) (IsNotBelow list x)
    below-is = which (nat_lt x.seen.n before) refl
      where
        which : (b : Bool) → nat_lt x.seen.n before ≡ b → MatchBool b (IsBelow list x) (IsNotBelow list x)
        which true less = is-below (ltb-true x.seen.n before less)
        which false up = not-below (ltb-false x.seen.n before up)

    top-push : IsTop (front ++ x ∷ []) own (max before x.seen.n)
    top-push = record {
      below = λ s c same. elim (Contains-push_cases front x s c) [
        | inl old ↦ let up : s.seen.n ≤ before = upto s old same in omega (arith, up)
        | inr is ↦ let e : x.seen.n ≡ s.seen.n = ap (λ (t : Sight). t.seen.n) is in omega (arith, e)
      ];
      reached = which (cases_lt x.seen.n before);
      last = λ s c. elim (Contains-push_cases front x s c) [
        | inl old ↦ group-le s old
        | inr is ↦ let e : group_of x ≡ group_of s = ap group_of is in omega (arith, e)
      ];
      low = λ k all. all x (Contains-push front x);
    }
      where
        which : (x.seen.n < before) ⊎ (before ≤ x.seen.n)
            → (max before x.seen.n ≡ 0) ⊎ ((s : Sight) × Contains (front ++ x ∷ []) s × (group_of s ≡ own) × (s.seen.n ≡ max before x.seen.n))
        which (inr up) = inr (x, Contains-push front x, refl, omega (arith, up))
        which (inl less) = elim from [
          | inl zero ↦ absurd (omega (arith, less, zero))
          | inr r ↦ inr (r.0, Contains-append_left front (x ∷ []) r.0 r.1, r.2, (let e : r.0.seen.n ≡ before = r.3 in omega (arith, e, less)))
        ]

    pub top-more : IsTop (take (i + 1) list) own (max before x.seen.n)
    top-more = subst (λ (l : List Sight). IsTop l own (max before x.seen.n)) (sym (take_more list i d within)) top-push
