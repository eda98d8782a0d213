-- All marks that the views list are few, and so is all that is owed to the counter: neither of its counts leaves its half of
-- the word.
use Rattle.std.proofs.Common.{mul-le-mul, ◌≡◌, ℕ, ◌+◌, ◌-◌, ◌*◌, ◌^◌, ◌<◌, ◌≤◌, ◌==◌, ◌&&◌, nat_lt, le-ltb, ne_eqb, Bool, true, false, cond, List, Some, map, length, slice_get, slice_index, inl, inr, refl, sym, ap, ◌∙◌, subst, arith}
use Rattle.std.specs.Int.{from_bool}
use Rattle.std.specs.List.{sum_by}
use Rattle.hwp_page.specs.hwp_geom.declared.Layout.{Layout}
use Rattle.hwp_page.specs.hwp_geom.Layout.{IsSound}
use Rattle.hwp_page.specs.hwp_geom.Limits.{command_limit, cpu_limit, frame_limit}
use Rattle.hwp_words.specs.Counters.{hardware_of, biased_poisoned_of}
use Rattle.hwp_words.specs.Frames.{poison_of, cycle_of}
use Rattle.hwp_core_rule.specs.declared.view.Mark.{Mark}
use Rattle.hwp_core_rule.specs.declared.view.MarkKind.{MarkKind}
use Rattle.hwp_core_rule.specs.declared.view.MarkKind.TheVariants as kinds
use Rattle.hwp_core_rule.specs.declared.view.View.{View}
use Rattle.hwp_core_rule.specs.Lists.{Homes, EachListed, sum_all}
use Rattle.hwp_core_rule.specs.Rule.{FrameRule, count_debts_of}
use Rattle.hwp_core_rule.specs.Words.{Words, sum_below}
use Rattle.hwp_core_rule.specs.parts.Counter.{CountDebts, is_by_hardware, is_poisoning, is_revival}
use Rattle.hwp_core_rule.specs.parts.Marks.{poisonings, revivals}
use Rattle.hwp_core_rule.proofs.CountsBelow.{below-term, below-most, sum-le, sum-ones, all-le, all-swap, all-term}
use Rattle.hwp_core_rule.proofs.Lists.{same-or, same-number, sum-map}
use Rattle.hwp_core_rule.proofs.steps.MarkSteps.{due}
use Rattle.hwp_core_rule.proofs.WordsByKind.{word-there}
use Rattle.hwp_core_rule.proofs.bounds.CycleBounds.{cycles-few}

-- a mark of one kind at most of each frame and each of its cycles
abbrev pub mark_limit : ℕ
mark_limit = frame_limit * (cpu_limit * command_limit + 1)

-- marks of one kind, of n frames and k cycles, one at most of each frame and cycle
module _ (is : MarkKind → Bool) (marks : List (List Mark)) (n k : ℕ) where
  abbrev of : ℕ → ℕ → Mark → ℕ
  of f c m = from_bool ((m.frame.0 == f) && ((m.cycle == c) && is m.kind))

  abbrev grid : Mark → ℕ
  grid m = sum_below (λ f. sum_below (λ c. of f c m) k) n

  in-grid : (m : Mark) → (is m.kind ≡ true → (m.frame.0 < n) × (m.cycle < k)) → from_bool (is m.kind) ≤ grid m
  in-grid m inside = which (is m.kind) refl
    where
      which : (b : Bool) → is m.kind ≡ b → from_bool b ≤ grid m
      which false isnt = omega arith
      which true so =
          let here : of m.frame.0 m.cycle m ≡ 1 = λ i. from_bool (same-number m.frame.0 m.frame.0 refl i && (same-number m.cycle m.cycle refl i && so i)) in
          let row : of m.frame.0 m.cycle m ≤ sum_below (λ c. of m.frame.0 c m) k = below-term (λ c. of m.frame.0 c m) k m.cycle (inside so).1 in
          let all : sum_below (λ c. of m.frame.0 c m) k ≤ grid m = below-term (λ f. sum_below (λ c. of f c m) k) n m.frame.0 (inside so).0 in
          omega (arith, here, row, all)

  kind-few : EachListed (λ (m : Mark). is m.kind ≡ true → (m.frame.0 < n) × (m.cycle < k)) marks → ((f c : ℕ) → f < n → sum_all (of f c) marks ≤ 1) → sum_all (λ (m : Mark). from_bool (is m.kind)) marks ≤ n * k
  kind-few inside one =
      let placed : sum_all (λ (m : Mark). from_bool (is m.kind)) marks ≤ sum_all grid marks = all-le (λ (m : Mark). from_bool (is m.kind)) grid marks (λ i l at j m listed. in-grid m (inside i l at j m listed)) in
      let rows : sum_below (λ f. sum_all (λ (m : Mark). sum_below (λ c. of f c m) k) marks) n ≡ sum_all grid marks = all-swap (λ f (m : Mark). sum_below (λ c. of f c m) k) marks n in
      let few : sum_below (λ f. sum_all (λ (m : Mark). sum_below (λ c. of f c m) k) marks) n ≤ n * k = below-most (λ f. sum_all (λ (m : Mark). sum_below (λ c. of f c m) k) marks) n k row in
      omega (arith, placed, rows, few)
    where
      row : (f : ℕ) → f < n → sum_all (λ (m : Mark). sum_below (λ c. of f c m) k) marks ≤ k
      row f less =
          let swapped : sum_below (λ c. sum_all (of f c) marks) k ≡ sum_all (λ (m : Mark). sum_below (λ c. of f c m) k) marks = all-swap (of f) marks k in
          let few : sum_below (λ c. sum_all (of f c) marks) k ≤ k * 1 = below-most (λ c. sum_all (of f c) marks) k 1 (λ c before. one f c less) in
          omega (arith, swapped, few)

module _ (layout : Layout) (w : Words) (homes : Homes) (views : List View) (sound : IsSound layout) (wide : length w.frames ≡ layout.frames) (h : FrameRule layout w homes views) where
  abbrev marks : List (List Mark)
  marks = map (λ (v : View). v.marks) views

  abbrev debts : List CountDebts
  debts = map count_debts_of views

  abbrev last : ℕ
  last = layout.cpus * command_limit + 1

  there : (f : ℕ) → f < layout.frames → slice_get w.frames f ≡ Some (slice_index w.frames f)
  there f less = word-there w.frames f layout.frames wide less

  abbrev most : ℕ → ℕ → ℕ
  most c word = due c (cycle_of word) (poison_of word)

  due-one : (c word : ℕ) → most c word ≤ 1
  due-one c word = which (nat_lt c (cycle_of word)) (c == cycle_of word)
    where
      which : (a b : Bool) → cond a 1 (cond b (poison_of word) 0) ≤ 1
      which true b = omega arith
      which false true = omega arith
      which false false = omega arith

  -- of no later cycle than the frame's
  due-past : (c word : ℕ) → 1 ≤ most c word → c ≤ cycle_of word
  due-past c word some = elim (same-or (c - cycle_of word) 0) [
    | inl before ↦ omega (arith, before)
    | inr after ↦
        let none : most c word ≡ 0 = ap (λ (b : Bool). cond b 1 (cond (c == cycle_of word) (poison_of word) 0)) (le-ltb c (cycle_of word) (omega (arith, after)))
        ∙ ap (λ (b : Bool). cond b (poison_of word) 0) (ne_eqb c (cycle_of word) (λ e. let e : c ≡ cycle_of word = e in omega (arith, after))) in
        absurd (omega (arith, some, none))
  ]

  abbrev in-cycles : (MarkKind → Bool) → Type 0
  in-cycles is = EachListed (λ (m : Mark). is m.kind ≡ true → (m.frame.0 < layout.frames) × (m.cycle < last)) marks

  of-one : (is : MarkKind → Bool) → ((f c : ℕ) → f < layout.frames → sum_all (of is marks layout.frames last f c) marks ≤ most c (slice_index w.frames f)) → in-cycles is
  of-one is listed i l at j m member so =
      let inside : m.frame.0 < layout.frames = subst (λ (n : ℕ). m.frame.0 < n) wide (h.failures.marks.framed i l at j m member) in
      let here : of is marks layout.frames last m.frame.0 m.cycle m ≡ 1 = λ i. from_bool (same-number m.frame.0 m.frame.0 refl i && (same-number m.cycle m.cycle refl i && so i)) in
      let some : of is marks layout.frames last m.frame.0 m.cycle m ≤ sum_all (of is marks layout.frames last m.frame.0 m.cycle) marks = all-term (of is marks layout.frames last m.frame.0 m.cycle) marks i j l m at member in
      let most_there : sum_all (of is marks layout.frames last m.frame.0 m.cycle) marks ≤ most m.cycle (slice_index w.frames m.frame.0) = listed m.frame.0 m.cycle inside in
      let past : m.cycle ≤ cycle_of (slice_index w.frames m.frame.0) = due-past m.cycle (slice_index w.frames m.frame.0) (omega (arith, here, some, most_there)) in
      let few : cycle_of (slice_index w.frames m.frame.0) ≤ layout.cpus * command_limit = cycles-few layout w homes views h m.frame.0 (slice_index w.frames m.frame.0) (there m.frame.0 inside) in
      (inside, omega (arith, past, few))

  all-few : (is : MarkKind → Bool) → ((f c : ℕ) → f < layout.frames → sum_all (of is marks layout.frames last f c) marks ≤ most c (slice_index w.frames f)) → sum_all (λ (m : Mark). from_bool (is m.kind)) marks ≤ mark_limit
  all-few is listed =
      let frames : layout.frames ≤ frame_limit = sound.frames in
      let cpus : layout.cpus ≤ cpu_limit = sound.cpus in
      let cycles : last ≤ cpu_limit * command_limit + 1 = omega (arith, cpus) in
      let product : layout.frames * last ≤ mark_limit = mul-le-mul frames cycles in
      let few : sum_all (λ (m : Mark). from_bool (is m.kind)) marks ≤ layout.frames * last = kind-few is marks layout.frames last (of-one is listed) (λ f c less. within f c less) in
      omega (arith, product, few)
    where
      within : (f c : ℕ) → f < layout.frames → sum_all (of is marks layout.frames last f c) marks ≤ 1
      within f c less =
          let some : sum_all (of is marks layout.frames last f c) marks ≤ most c (slice_index w.frames f) = listed f c less in
          omega (arith, some, due-one c (slice_index w.frames f))

  pub poisonings-few : sum_all (λ (m : Mark). from_bool (is_poisoning m.kind)) marks ≤ mark_limit
  poisonings-few = all-few is_poisoning (λ f c less. let are : poisonings f c marks ≡ most c (slice_index w.frames f) = h.failures.marks.poisoned f (slice_index w.frames f) c (there f less) in omega (arith, are))

  pub revivals-few : sum_all (λ (m : Mark). from_bool (is_revival m.kind)) marks ≤ mark_limit
  revivals-few = all-few is_revival (λ f c less.
      let are : revivals f c marks ≡ from_bool (nat_lt c (cycle_of (slice_index w.frames f))) = h.failures.marks.revived f (slice_index w.frames f) c (there f less) in
      let due_then : from_bool (nat_lt c (cycle_of (slice_index w.frames f))) ≤ most c (slice_index w.frames f) = before (nat_lt c (cycle_of (slice_index w.frames f))) (cond (c == cycle_of (slice_index w.frames f)) (poison_of (slice_index w.frames f)) 0) in
      omega (arith, are, due_then))
    where
      before : (b : Bool) (n : ℕ) → from_bool b ≤ cond b 1 n
      before true n = omega arith
      before false n = omega arith

  -- ---- what is owed

  all-marks : (f : Mark → ℕ) → sum_by (λ (d : CountDebts). sum_by f d.marks) debts ≡ sum_all f marks
  all-marks f = sum-map (λ (d : CountDebts). sum_by f d.marks) count_debts_of views ∙ sym (sum-map (sum_by f) (λ (v : View). v.marks) views)

  pub counts-few : sum_by (λ (d : CountDebts). d.counts + d.hardware) debts ≤ mark_limit
  counts-few =
      let covered : sum_by (λ (d : CountDebts). d.counts + d.hardware) debts ≤ sum_by (λ (d : CountDebts). sum_by (λ (m : Mark). from_bool (is_poisoning m.kind)) d.marks) debts =
      sum-le (λ (d : CountDebts). d.counts + d.hardware) (λ (d : CountDebts). sum_by (λ (m : Mark). from_bool (is_poisoning m.kind)) d.marks) debts (λ i d at. (h.failures.counter.covered i d at).counts) in
      omega (arith, covered, all-marks (λ (m : Mark). from_bool (is_poisoning m.kind)), poisonings-few)

  pub uncounts-few : sum_by (λ (d : CountDebts). d.uncounts) debts ≤ mark_limit
  uncounts-few =
      let covered : sum_by (λ (d : CountDebts). d.uncounts) debts ≤ sum_by (λ (d : CountDebts). sum_by (λ (m : Mark). from_bool (is_revival m.kind)) d.marks) debts =
      sum-le (λ (d : CountDebts). d.uncounts) (λ (d : CountDebts). sum_by (λ (m : Mark). from_bool (is_revival m.kind)) d.marks) debts (λ i d at. (h.failures.counter.covered i d at).uncounts) in
      omega (arith, covered, all-marks (λ (m : Mark). from_bool (is_revival m.kind)), revivals-few)

  hardware-poisons : (kind : MarkKind) → from_bool (is_by_hardware kind) ≤ from_bool (is_poisoning kind)
  hardware-poisons (kinds.Poisoned true) = omega arith
  hardware-poisons (kinds.Poisoned false) = omega arith
  hardware-poisons kinds.Revived = omega arith

  -- ---- the counter

  pub hardware-few : hardware_of w.counter ≤ mark_limit
  hardware-few =
      let balance : hardware_of w.counter + sum_by (λ (d : CountDebts). d.hardware) debts ≡ sum_by (λ (d : CountDebts). sum_by (λ (m : Mark). from_bool (is_by_hardware m.kind)) d.marks) debts = h.failures.counter.hardware in
      let fewer : sum_all (λ (m : Mark). from_bool (is_by_hardware m.kind)) marks ≤ sum_all (λ (m : Mark). from_bool (is_poisoning m.kind)) marks =
      all-le (λ (m : Mark). from_bool (is_by_hardware m.kind)) (λ (m : Mark). from_bool (is_poisoning m.kind)) marks (λ i l at j m listed. hardware-poisons m.kind) in
      omega (arith, balance, all-marks (λ (m : Mark). from_bool (is_by_hardware m.kind)), fewer, poisonings-few)

  -- the poisoned frames that are counted: not far from none
  pub poisoned-near : (biased_poisoned_of w.counter ≤ 2 ^ 31 + frame_limit + mark_limit) × (2 ^ 31 ≤ biased_poisoned_of w.counter + mark_limit)
  poisoned-near =
      let balance : biased_poisoned_of w.counter + sum_by (λ (d : CountDebts). d.counts + d.hardware) debts ≡ 2 ^ 31 + sum_by poison_of w.frames + sum_by (λ (d : CountDebts). d.uncounts) debts = h.failures.counter.poisoned in
      let poisoned : sum_by poison_of w.frames ≤ sum_by (λ (x : ℕ). 1) w.frames = sum-le poison_of (λ (x : ℕ). 1) w.frames (λ i x at. omega arith) in
      let ones : sum_by (λ (x : ℕ). 1) w.frames ≡ length w.frames = sum-ones w.frames in
      let frames : layout.frames ≤ frame_limit = sound.frames in
      (omega (arith, balance, poisoned, ones, frames, wide, uncounts-few), omega (arith, balance, counts-few))
