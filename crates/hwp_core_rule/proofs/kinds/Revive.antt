-- A frame whose poison is cleared keeps the frame rule; a word met that isn't as expected is shown.
use Rattle.std.proofs.Common.{◌≡◌, ◌≢◌, ℕ, ◌+◌, ◌-◌, ◌*◌, ◌^◌, ◌<◌, ◌≤◌, ◌==◌, ◌&&◌, nat_lt, eq-eqb, ne_eqb, le-ltb, lt-ltb, Bool, true, false, cond, List, [], ◌∷◌, Some, map, set, length, get_or, slice_get, inl, inr, refl, sym, ap, ◌∙◌, subst, arith}
use prog.Atomic.{either}
use Rattle.std.proofs.lemmas.Bool.{eqb-true}
use Rattle.std.proofs.lemmas.List.{length-set, length-append}
use Rattle.std.proofs.lemmas.Option.{slice_get_within}
use Rattle.std.proofs.lemmas.List.Sums.{sum_by_push}
use Rattle.std.specs.Int.{from_bool}
use Rattle.std.specs.List.{sum_by}
use Rattle.hwp_page.specs.hwp_geom.declared.Cpu.{Cpu}
use Rattle.hwp_page.specs.hwp_geom.declared.Frame.{Frame}
use Rattle.hwp_page.specs.hwp_geom.declared.Layout.{Layout}
use Rattle.hwp_page.specs.hwp_geom.declared.Who.{Who}
use Rattle.hwp_page.specs.hwp_geom.Limits.{command_limit, cpu_limit}
use Rattle.hwp_words.specs.Counters.{biased_poisoned_of, hardware_of}
use Rattle.hwp_words.specs.Frames.{lock_of, poison_of, handled_of, kernel_of, count_of, owner_of, cycle_of, is_kernel}
use Rattle.hwp_words.proofs.FrameSteps.{FieldsAre, fields-revived}
use Rattle.hwp_core_rule.specs.declared.shared_word.SharedWord.TheVariants as places
use Rattle.hwp_core_rule.specs.declared.step.Step.TheVariants as steps
use Rattle.hwp_core_rule.specs.declared.view.FrameInHand.{FrameInHand}
use Rattle.hwp_core_rule.specs.declared.view.FrameLock.{FrameLock}
use Rattle.hwp_core_rule.specs.declared.view.Mark.{Mark}
use Rattle.hwp_core_rule.specs.declared.view.MarkKind.TheVariants as mark_kinds
use Rattle.hwp_core_rule.specs.declared.view.Ref.{Ref}
use Rattle.hwp_core_rule.specs.declared.view.View.{View}
use Rattle.hwp_core_rule.specs.Asks.{CanRevive}
use Rattle.hwp_core_rule.specs.Lists.{Homes, EachMember, EachListed, sum_all}
use Rattle.hwp_core_rule.specs.Rule.{FrameRule, holdings_of, count_debts_of, losing_of}
use Rattle.hwp_core_rule.specs.Steps.{revived}
use Rattle.hwp_core_rule.specs.Views.{sighted, revived_by, stamp_of, unpoisoned, refs_on}
use Rattle.hwp_core_rule.specs.Words.{Words}
use Rattle.hwp_core_rule.specs.parts.Counter.{CounterAgrees, CountDebts, IsCovered, is_poisoning, is_revival}
use Rattle.hwp_core_rule.specs.parts.Counts.{CountsBalance, named}
use Rattle.hwp_core_rule.specs.parts.Exhaustion.{ExhaustionExplained, usable}
use Rattle.hwp_core_rule.specs.parts.Handled.{HandledIsPoisoned, IsOutOfUse}
use Rattle.hwp_core_rule.specs.parts.Holdings.{IsBounded, HoldingsBounded, IsPast, frames_held}
use Rattle.hwp_core_rule.specs.parts.Locks.{FrameLocksHeld}
use Rattle.hwp_core_rule.specs.parts.Losses.{LossesBalance}
use Rattle.hwp_core_rule.specs.parts.Marks.{MarksAlternate, IsBefore, poisonings, revivals, revivals_by}
use Rattle.hwp_core_rule.specs.parts.Places.{HasOnePlace, IsHanded, in_hand}
use Rattle.hwp_core_rule.proofs.CountsBelow.{never}
use Rattle.hwp_core_rule.proofs.bounds.CycleBounds.{is_clearing, cycles-few}
use Rattle.hwp_core_rule.proofs.FrameFields.{pages-kept, unlocked-kept, placed-kept}
use Rattle.hwp_core_rule.proofs.Keeps.{Keeps}
use Rattle.hwp_core_rule.proofs.PartKeeps
use Rattle.hwp_core_rule.proofs.Lists.{change, keep, at_map, at_set, at_changed, set_here, set_else, set_again, same-or, same-number, sum-set, term-le, each-set, each-push}
use Rattle.hwp_core_rule.proofs.steps.MarkSteps
use Rattle.hwp_core_rule.proofs.steps.MarkSteps.{by_hardware}
use Rattle.hwp_core_rule.proofs.Sights.{keeps-shown, explained-frame}
use Rattle.hwp_core_rule.proofs.WordsByKind.{word-there}

-- a handled frame that nobody refers to comes into the hand, in its next cycle
module _ (layout : Layout) (w : Words) (homes : Homes) (views : List View) (seat : ℕ) (v : View) (who : Who) (frame : Frame) (word now : ℕ)
    (me : slice_get views seat ≡ Some v) (past : IsPast v.parts who) (there : slice_get w.frames frame.0 ≡ Some word)
    (can : CanRevive v who.cpu word) (are : FieldsAre now (lock_of word) 0 0 (kernel_of word) 0 (owner_of word) (cycle_of word + 1)) (poison : poison_of word ≡ 1)
    (h : FrameRule layout w homes views) where
  abbrev mark : Mark
  mark = record { stamp = stamp_of who v; frame = frame; cycle = cycle_of word; kind = mark_kinds.Revived }

  abbrev u : View
  u = revived_by who frame word v

  abbrev frames : List ℕ
  frames = set w.frames frame.0 now

  abbrev hands : List (List FrameInHand)
  hands = map (λ (v : View). v.hands) views

  abbrev marks : List (List Mark)
  marks = map (λ (v : View). v.marks) views

  abbrev debts : List CountDebts
  debts = map count_debts_of views

  balance : count_of word ≡ named frame.0 w.trans + named frame.0 w.caches + sum_by (refs_on frame.0) (map (λ (v : View). v.refs) views) + handled_of word
  balance = h.frames.counts.balance frame.0 word there

  counts : CountsBalance frames w.trans w.caches (map (λ (v : View). v.refs) views)
  counts = record {
    balance = at_changed (λ g x. count_of x ≡ named g w.trans + named g w.caches + sum_by (refs_on g) (map (λ (v : View). v.refs) views) + handled_of x) w.frames frame.0 now
        (omega (arith, balance, can.alone, can.handled, are.count, are.handled)) (λ g x differs at. h.frames.counts.balance g x at);
  }

  -- a frame that is counted is in no hand
  unhanded : (is_kernel word ≡ false) → in_hand frame.0 hands ≡ 0
  unhanded usable = omega (arith, h.frames.places.placed frame.0 word there usable, can.alone)

  my-hands : slice_get (map (λ (v : View). v.hands) views) seat ≡ Some v.hands
  my-hands = at_map (λ (v : View). v.hands) views seat v me

  pushed : (g : ℕ) → in_hand g (set (map (λ (v : View). v.hands) views) seat u.hands) ≡ in_hand g (map (λ (v : View). v.hands) views) + from_bool (frame.0 == g)
  pushed g =
      let moved : in_hand g (set (map (λ (v : View). v.hands) views) seat u.hands) + sum_by (λ (x : FrameInHand). from_bool (x.frame.0 == g)) v.hands ≡ in_hand g (map (λ (v : View). v.hands) views) + sum_by (λ (x : FrameInHand). from_bool (x.frame.0 == g)) u.hands =
      sum-set (sum_by (λ (x : FrameInHand). from_bool (x.frame.0 == g))) (map (λ (v : View). v.hands) views) seat v.hands u.hands my-hands in
      let more : sum_by (λ (x : FrameInHand). from_bool (x.frame.0 == g)) u.hands ≡ sum_by (λ (x : FrameInHand). from_bool (x.frame.0 == g)) v.hands + from_bool (frame.0 == g) = sum_by_push (λ (x : FrameInHand). from_bool (x.frame.0 == g)) v.hands (unpoisoned frame) in
      omega arith

  user : is_kernel word ≡ false
  user = which (is_kernel word) refl
    where
      which : (b : Bool) → is_kernel word ≡ b → b ≡ false
      which false e = refl
      which true e = absurd (omega (arith, can.alone, (h.frames.places.kernels frame.0 word there e).uncounted))

  handed : EachListed (IsHanded frames) (set hands seat u.hands)
  handed = each-set (EachMember (IsHanded frames)) hands seat u.hands
      (each-push (IsHanded frames) v.hands (unpoisoned frame) (record { word = now; there = set_here w.frames frame.0 now word there; poisoned = λ e. absurd (false-true e) }) (still seat v.hands my-hands)) still
    where
      false-true : false ≡ true → ⊥
      false-true e = let e : from_bool false ≡ from_bool true = ap from_bool e in omega arith

      still : (i : ℕ) (l : List FrameInHand) → slice_get hands i ≡ Some l → EachMember (IsHanded frames) l
      still i l at j hand listed =
          let known : IsHanded w.frames hand = h.frames.places.handed i l at j hand listed in
          let differs : hand.frame.0 ≢ frame.0 = λ same.
          (let this : from_bool (hand.frame.0 == frame.0) ≤ sum_by (λ (x : FrameInHand). from_bool (x.frame.0 == frame.0)) l = term-le (λ (x : FrameInHand). from_bool (x.frame.0 == frame.0)) l j hand listed in
          let all : sum_by (λ (x : FrameInHand). from_bool (x.frame.0 == frame.0)) l ≤ in_hand frame.0 hands = term-le (sum_by (λ (x : FrameInHand). from_bool (x.frame.0 == frame.0))) hands i l at in
          let one : from_bool (hand.frame.0 == frame.0) ≡ 1 = ap from_bool (same-number hand.frame.0 frame.0 same) in
          omega (arith, this, all, one, unhanded user)) in
          record { word = known.word; there = set_else w.frames frame.0 hand.frame.0 now differs ∙ known.there; poisoned = known.poisoned }

  placed : HasOnePlace layout.kernel frames w.frees (set hands seat u.hands)
  placed = placed-kept w.frames frame.0 word now there are.kernel layout.kernel w.frees hands (set hands seat u.hands) (omega (arith, can.alone))
      (λ g differs. omega (arith, pushed g, ap from_bool (ne_eqb frame.0 g (λ same. differs (sym same)))))
      (λ usable. omega (arith, h.frames.places.placed frame.0 word there usable, pushed frame.0, ap from_bool (same-number frame.0 frame.0 refl), can.alone, are.count))
      (λ some. record { unowned = are.owner ∙ can.unowned; unlocked = are.lock ∙ can.unlocked; unhandled = are.handled })
      handed h.frames.places

  my-held : slice_get {X = List Ref × List FrameLock} (map (λ (v : View). (v.refs, v.locks)) views) seat ≡ Some (v.refs, v.locks)
  my-held = at_map (λ (v : View). (v.refs, v.locks)) views seat v me

  locks : FrameLocksHeld frames (map (λ (v : View). (v.refs, v.locks)) views)
  locks = subst (FrameLocksHeld frames) (set_again (map (λ (v : View). (v.refs, v.locks)) views) seat (v.refs, v.locks) my-held)
      (unlocked-kept w.frames frame.0 word now there (map (λ (v : View). (v.refs, v.locks)) views) can.unlocked h.frames.frame_locks are.lock seat (v.refs, v.locks) my-held v.refs (λ g differs. refl))

  bounded : IsBounded layout (holdings_of u)
  bounded = record {
    few =
        let room : frames_held (holdings_of v) + 1 ≤ 2 = can.room in
        let more : length u.hands ≡ length v.hands + 1 = length-append v.hands (unpoisoned frame ∷ []) in
        omega arith;
    shares = (h.frames.holdings.bounded seat (holdings_of v) (at_map holdings_of views seat v me)).shares;
  }

  handled : HandledIsPoisoned frames
  handled = record { out = at_changed (λ g x. handled_of x ≡ 1 → IsOutOfUse x) w.frames frame.0 now (λ is. absurd (omega (arith, is, are.handled))) (λ g x differs at. h.failures.handled.out g x at) }

  -- ---- the marks

  my-marks : slice_get (map (λ (v : View). v.marks) views) seat ≡ Some v.marks
  my-marks = at_map (λ (v : View). v.marks) views seat v me

  marked-more : (f : Mark → ℕ) → sum_all f (set marks seat u.marks) ≡ sum_all f marks + f mark
  marked-more f = MarkSteps.marked-more layout w homes views seat v mark me h f

  poisonings-same : (g c : ℕ) → poisonings g c (set marks seat u.marks) ≡ poisonings g c marks
  poisonings-same g c =
      let more : poisonings g c (set marks seat u.marks) ≡ poisonings g c marks + from_bool ((frame.0 == g) && ((cycle_of word == c) && false)) = marked-more (λ (m : Mark). from_bool ((m.frame.0 == g) && ((m.cycle == c) && is_poisoning m.kind))) in
      let none : from_bool ((frame.0 == g) && ((cycle_of word == c) && false)) ≡ 0 = never (frame.0 == g) (cycle_of word == c) in
      omega (arith, more, none)

  revivals-more : (g c : ℕ) → revivals g c (set marks seat u.marks) ≡ revivals g c marks + from_bool ((frame.0 == g) && ((cycle_of word == c) && true))
  revivals-more g c = marked-more (λ (m : Mark). from_bool ((m.frame.0 == g) && ((m.cycle == c) && is_revival m.kind)))

  -- the cycle is over: of it too there is one poisoning, and one mark that it was cleared
  cycle-over : (c n p : ℕ) → p ≡ 1 → cond (nat_lt c n) 1 (cond (c == n) p 0) ≡ cond (nat_lt c (n + 1)) 1 (cond (c == n + 1) 0 0)
  cycle-over c n p one = elim (same-or c n) [
    | inl same ↦
        ap (λ (b : Bool). cond b 1 (cond (c == n) p 0)) (le-ltb c n (omega (arith, same))) ∙ ap (λ (b : Bool). cond b p 0) (eq-eqb c n same) ∙ one
        ∙ sym (ap (λ (b : Bool). cond b 1 (cond (c == n + 1) 0 0)) (lt-ltb c (n + 1) (omega (arith, same))))
    | inr differs ↦ elim (same-or (c - n) 0) [
      | inl before ↦
          ap (λ (b : Bool). cond b 1 (cond (c == n) p 0)) (lt-ltb c n (omega (arith, before, differs)))
          ∙ sym (ap (λ (b : Bool). cond b 1 (cond (c == n + 1) 0 0)) (lt-ltb c (n + 1) (omega (arith, before))))
      | inr after ↦
          ap (λ (b : Bool). cond b 1 (cond (c == n) p 0)) (le-ltb c n (omega (arith, after))) ∙ ap (λ (b : Bool). cond b p 0) (ne_eqb c n differs)
          ∙ sym (ap (λ (b : Bool). cond b 1 (cond (c == n + 1) 0 0)) (le-ltb c (n + 1) (omega (arith, after))) ∙ zero-anyway (c == n + 1))
    ]
  ]
    where
      zero-anyway : (b : Bool) → ◌≡◌ {A = ℕ} (cond b 0 0) 0
      zero-anyway true = refl
      zero-anyway false = refl

  cleared : (c n : ℕ) → from_bool (nat_lt c n) + from_bool ((n == c) && true) ≡ from_bool (nat_lt c (n + 1))
  cleared c n = elim (same-or c n) [
    | inl same ↦
        let old : from_bool (nat_lt c n) ≡ 0 = ap from_bool (le-ltb c n (omega (arith, same))) in
        let this : from_bool ((n == c) && true) ≡ 1 = ap (λ (b : Bool). from_bool (b && true)) (eq-eqb n c (sym same)) in
        let all : from_bool (nat_lt c (n + 1)) ≡ 1 = ap from_bool (lt-ltb c (n + 1) (omega (arith, same))) in
        omega (arith, old, this, all)
    | inr differs ↦
        let none : from_bool ((n == c) && true) ≡ 0 = ap (λ (b : Bool). from_bool (b && true)) (ne_eqb n c (λ e. differs (sym e))) in
        elim (same-or (c - n) 0) [
          | inl before ↦
              let old : from_bool (nat_lt c n) ≡ 1 = ap from_bool (lt-ltb c n (omega (arith, before, differs))) in
              let all : from_bool (nat_lt c (n + 1)) ≡ 1 = ap from_bool (lt-ltb c (n + 1) (omega (arith, before))) in
              omega (arith, old, none, all)
          | inr after ↦
              let old : from_bool (nat_lt c n) ≡ 0 = ap from_bool (le-ltb c n (omega (arith, after))) in
              let all : from_bool (nat_lt c (n + 1)) ≡ 0 = ap from_bool (le-ltb c (n + 1) (omega (arith, after, differs))) in
              omega (arith, old, none, all)
        ]
  ]

  few-marks : EachMember (λ (list : List Mark). (cpu : Cpu) → revivals_by cpu list ≤ command_limit) (set marks seat u.marks)
  few-marks = each-set (λ (list : List Mark). (cpu : Cpu) → revivals_by cpu list ≤ command_limit) marks seat u.marks mine h.failures.marks.few
    where
      mine : (cpu : Cpu) → revivals_by cpu u.marks ≤ command_limit
      mine cpu =
          let more : revivals_by cpu u.marks ≡ revivals_by cpu v.marks + from_bool ((who.cpu.0 == cpu.0) && true) = sum_by_push (λ (m : Mark). from_bool ((m.stamp.who.cpu.0 == cpu.0) && is_revival m.kind)) v.marks mark in
          elim (same-or who.cpu.0 cpu.0) [
            | inl same ↦
                let few : revivals_by cpu v.marks < command_limit = subst (λ (n : ℕ). revivals_by (record { 0 = n }) v.marks < command_limit) same can.few in
                let one : from_bool ((who.cpu.0 == cpu.0) && true) ≡ 1 = ap (λ (b : Bool). from_bool (b && true)) (eq-eqb who.cpu.0 cpu.0 same) in
                omega (arith, more, few, one)
            | inr differs ↦
                let few : revivals_by cpu v.marks ≤ command_limit = h.failures.marks.few seat v.marks my-marks cpu in
                let none : from_bool ((who.cpu.0 == cpu.0) && true) ≡ 0 = ap (λ (b : Bool). from_bool (b && true)) (ne_eqb who.cpu.0 cpu.0 differs) in
                omega (arith, more, few, none)
          ]

  marks-revived : MarksAlternate frames (set marks seat u.marks) (map (λ (v : View). v.sights) views)
  marks-revived = record {
    poisoned = λ g x c at. poisonings-same g c ∙ at_changed (λ g x. poisonings g c marks ≡ cond (nat_lt c (cycle_of x)) 1 (cond (c == cycle_of x) (poison_of x) 0)) w.frames frame.0 now
        (h.failures.marks.poisoned frame.0 word c there ∙ cycle-over c (cycle_of word) (poison_of word) poison
        ∙ λ i. cond (nat_lt c (sym are.cycle i)) 1 (cond (c == sym are.cycle i) (sym are.poison i) 0))
        (λ g x differs at. h.failures.marks.poisoned g x c at) g x at;
    revived = λ g x c at. revivals-more g c ∙ at_changed (λ g x. revivals g c marks + from_bool ((frame.0 == g) && ((cycle_of word == c) && true)) ≡ from_bool (nat_lt c (cycle_of x))) w.frames frame.0 now
        (let old : revivals frame.0 c marks ≡ from_bool (nat_lt c (cycle_of word)) = h.failures.marks.revived frame.0 word c there in
        let this : from_bool ((frame.0 == frame.0) && ((cycle_of word == c) && true)) ≡ from_bool ((cycle_of word == c) && true) = ap (λ (b : Bool). from_bool (b && ((cycle_of word == c) && true))) (same-number frame.0 frame.0 refl) in
        let over : from_bool (nat_lt c (cycle_of word)) + from_bool ((cycle_of word == c) && true) ≡ from_bool (nat_lt c (cycle_of word + 1)) = cleared c (cycle_of word) in
        let now_is : from_bool (nat_lt c (cycle_of word + 1)) ≡ from_bool (nat_lt c (cycle_of now)) = ap (λ (n : ℕ). from_bool (nat_lt c n)) (sym are.cycle) in
        omega (arith, old, this, over, now_is))
        (λ g x differs at.
        let old : revivals g c marks ≡ from_bool (nat_lt c (cycle_of x)) = h.failures.marks.revived g x c at in
        let none : from_bool ((frame.0 == g) && ((cycle_of word == c) && true)) ≡ 0 = ap (λ (b : Bool). from_bool (b && ((cycle_of word == c) && true))) (ne_eqb frame.0 g (λ e. differs (sym e))) in
        omega (arith, old, none)) g x at;
    framed = subst (λ (n : ℕ). EachListed (λ (m : Mark). m.frame.0 < n) (set marks seat u.marks)) (sym (length-set w.frames frame.0 now))
        (each-set (EachMember (λ (m : Mark). m.frame.0 < length w.frames)) marks seat u.marks
        (each-push (λ (m : Mark). m.frame.0 < length w.frames) v.marks mark (slice_get_within w.frames frame.0 word there) (h.failures.marks.framed seat v.marks my-marks)) h.failures.marks.framed);
    few = few-marks;
    shown = λ other x at i list listed j s is place. elim (at_set w.frames frame.0 other.0 now x at) [
      | inl t ↦
          let before : IsBefore word s = h.failures.marks.shown other word (ap (slice_get w.frames) t.0 ∙ there) i list listed j s is place in
          let cycle : cycle_of s.word ≤ cycle_of word = before.cycle in
          let over : cycle_of x ≡ cycle_of word + 1 = ap cycle_of (sym t.1) ∙ are.cycle in
          record { cycle = omega (arith, cycle, over); poison = λ e. absurd (omega (arith, cycle, over, e)) }
      | inr t ↦ h.failures.marks.shown other x t.1 i list listed j s is place
    ];
  }

  -- ---- the counter

  abbrev owing : CountDebts
  owing = count_debts_of u

  my-debts : slice_get (map count_debts_of views) seat ≡ Some (count_debts_of v)
  my-debts = at_map count_debts_of views seat v me

  debts-more : (f : CountDebts → ℕ) → sum_by f (set (map count_debts_of views) seat owing) + f (count_debts_of v) ≡ sum_by f (map count_debts_of views) + f owing
  debts-more f = sum-set f (map count_debts_of views) seat (count_debts_of v) owing my-debts

  counter-revived : CounterAgrees frames w.counter (set debts seat owing) (map (λ (v : View). v.sights) views)
  counter-revived = record {
    poisoned =
        let was : biased_poisoned_of w.counter + sum_by (λ (d : CountDebts). d.counts + d.hardware) (map count_debts_of views) ≡ 2 ^ 31 + sum_by poison_of w.frames + sum_by (λ (d : CountDebts). d.uncounts) (map count_debts_of views) = h.failures.counter.poisoned in
        let counts : sum_by (λ (d : CountDebts). d.counts + d.hardware) (set (map count_debts_of views) seat owing) + (v.owed.counts + v.owed.hardware) ≡ sum_by (λ (d : CountDebts). d.counts + d.hardware) (map count_debts_of views) + (v.owed.counts + v.owed.hardware) = debts-more (λ (d : CountDebts). d.counts + d.hardware) in
        let uncounts : sum_by (λ (d : CountDebts). d.uncounts) (set (map count_debts_of views) seat owing) + v.owed.uncounts ≡ sum_by (λ (d : CountDebts). d.uncounts) (map count_debts_of views) + (v.owed.uncounts + 1) = debts-more (λ (d : CountDebts). d.uncounts) in
        let gone : sum_by poison_of frames + poison_of word ≡ sum_by poison_of w.frames + poison_of now = sum-set poison_of w.frames frame.0 word now there in
        omega (arith, was, counts, uncounts, gone, poison, are.poison);
    hardware =
        let was : hardware_of w.counter + sum_by (λ (d : CountDebts). d.hardware) (map count_debts_of views) ≡ sum_by (λ (d : CountDebts). sum_by by_hardware d.marks) (map count_debts_of views) = h.failures.counter.hardware in
        let owed : sum_by (λ (d : CountDebts). d.hardware) (set (map count_debts_of views) seat owing) + v.owed.hardware ≡ sum_by (λ (d : CountDebts). d.hardware) (map count_debts_of views) + v.owed.hardware = debts-more (λ (d : CountDebts). d.hardware) in
        let marked : sum_by (λ (d : CountDebts). sum_by by_hardware d.marks) (set (map count_debts_of views) seat owing) + sum_by by_hardware v.marks ≡ sum_by (λ (d : CountDebts). sum_by by_hardware d.marks) (map count_debts_of views) + sum_by by_hardware u.marks = debts-more (λ (d : CountDebts). sum_by by_hardware d.marks) in
        let same : sum_by by_hardware u.marks ≡ sum_by by_hardware v.marks + 0 = sum_by_push by_hardware v.marks mark in
        omega (arith, was, owed, marked, same);
    covered = each-set IsCovered debts seat owing mine h.failures.counter.covered;
    shown = MarkSteps.hardware-marked layout w homes views seat v mark me h owing refl;
  }
    where
      mine : IsCovered owing
      mine =
          let was : IsCovered (count_debts_of v) = h.failures.counter.covered seat (count_debts_of v) my-debts in
          let counts : v.owed.counts + v.owed.hardware ≤ sum_by (λ (m : Mark). from_bool (is_poisoning m.kind)) v.marks = was.counts in
          let uncounts : v.owed.uncounts ≤ sum_by is_clearing v.marks = was.uncounts in
          let poisoned : sum_by (λ (m : Mark). from_bool (is_poisoning m.kind)) u.marks ≡ sum_by (λ (m : Mark). from_bool (is_poisoning m.kind)) v.marks + 0 = sum_by_push (λ (m : Mark). from_bool (is_poisoning m.kind)) v.marks mark in
          let cleared_now : sum_by is_clearing u.marks ≡ sum_by is_clearing v.marks + 1 = sum_by_push is_clearing v.marks mark in
          record { counts = omega (arith, counts, poisoned); uncounts = omega (arith, uncounts, cleared_now) }

  pub keeps-reviving : FrameRule layout (record w { frames = frames }) homes (set views seat u)
  keeps-reviving = record {
    frames = record {
      counts = PartKeeps.kept-counts views seat v u me refl counts;
      places = change (λ (v : View). v.hands) (HasOnePlace layout.kernel frames w.frees) views seat u placed;
      frame_locks = PartKeeps.kept-frame-locks views seat v u me refl refl locks;
      free = PartKeeps.kept-free views seat v u me refl h.frames.free;
      holdings = change holdings_of (HoldingsBounded layout) views seat u (record { bounded = each-set (IsBounded layout) (map holdings_of views) seat (holdings_of u) bounded h.frames.holdings.bounded });
    };
    pages = PartKeeps.same-pages views seat v u me refl (pages-kept w.frames frame.0 word now there are.owner are.lock h.pages);
    histories = record {
      entries = PartKeeps.kept-entries views seat v u me refl refl refl refl h.histories.entries;
      endings = PartKeeps.kept-endings views seat v u me refl refl h.histories.endings;
      losses = keep (λ (v : View). v.sights) (λ l. LossesBalance layout w.losses homes (map (λ (v : View). v.bodies) (set views seat u)) (map losing_of (set views seat u)) l) views seat v u me refl
          (keep (λ (v : View). v.bodies) (λ l. LossesBalance layout w.losses homes l (map losing_of (set views seat u)) (map (λ (v : View). v.sights) views)) views seat v u me refl
          (change losing_of (λ l. LossesBalance layout w.losses homes (map (λ (v : View). v.bodies) views) l (map (λ (v : View). v.sights) views)) views seat u (MarkSteps.losses-marked layout w homes views seat v mark me h)));
    };
    failures = record {
      handled = handled;
      counter = keep (λ (v : View). v.sights) (λ l. CounterAgrees frames w.counter (map count_debts_of (set views seat u)) l) views seat v u me refl
          (change count_debts_of (λ l. CounterAgrees frames w.counter l (map (λ (v : View). v.sights) views)) views seat u counter-revived);
      damage = PartKeeps.kept-damage views seat v u me refl refl h.failures.damage;
      marks = keep (λ (v : View). v.sights) (λ l. MarksAlternate frames (map (λ (v : View). v.marks) (set views seat u)) l) views seat v u me refl
          (change (λ (v : View). v.marks) (λ l. MarksAlternate frames l (map (λ (v : View). v.sights) views)) views seat u marks-revived);
      exhaustion = keep (λ (v : View). v.sights) (λ l. ExhaustionExplained layout (map (λ (v : View). v.marks) (set views seat u)) l) views seat v u me refl
          (change (λ (v : View). v.marks) (λ l. ExhaustionExplained layout l (map (λ (v : View). v.sights) views)) views seat u (MarkSteps.exhaustion-marked layout w homes views seat v mark me h));
    };
    processors = record {
      policies = PartKeeps.kept-policies views seat v u me refl refl refl h.processors.policies;
      stops = PartKeeps.kept-stops views seat v u me refl refl refl h.processors.stops;
      processors = PartKeeps.kept-processors views seat v u me refl h.processors.processors;
      commands = PartKeeps.kept-commands views seat v u me (MarkSteps.own-marked layout w homes views seat v mark me h u refl past) h.processors.commands;
    };
  }

pub keeps-revive : (frame : Frame) (seen : ℕ) → Keeps (steps.Revive frame seen)
keeps-revive frame seen layout w homes views seat v who content given = which (word == seen) refl
  where
    word : ℕ
    word = get_or w.frames frame.0 0

    there : slice_get w.frames frame.0 ≡ Some (get_or w.frames frame.0 0)
    there = word-there w.frames frame.0 layout.frames given.shaped.frames given.place

    room : cycle_of (get_or w.frames frame.0 0) + 1 < 2 ^ 20
    room =
        let few : cycle_of (get_or w.frames frame.0 0) ≤ layout.cpus * command_limit = cycles-few layout w homes views given.rule frame.0 (get_or w.frames frame.0 0) there in
        let cpus : layout.cpus ≤ cpu_limit = given.sound.cpus in
        omega arith

    goes : word ≡ seen → FrameRule layout (record w { frames = set w.frames frame.0 (revived seen) }) homes (set views seat (revived_by who frame word v))
    goes same = subst (λ (n : ℕ). FrameRule layout (record w { frames = set w.frames frame.0 (revived n) }) homes (set views seat (revived_by who frame word v))) same
        (keeps-reviving layout w homes views seat v who frame word (revived word) given.me given.past there can
        (fields-revived word given.fits (given.rule.failures.handled.out frame.0 word there can.handled).poisoned can.handled can.alone room)
        (given.rule.failures.handled.out frame.0 word there can.handled).poisoned given.rule)
      where
        can : CanRevive v who.cpu word
        can = subst (CanRevive v who.cpu) (sym same) given.asks

    which : (b : Bool) → (word == seen) ≡ b
        → FrameRule layout (record w { frames = set w.frames frame.0 (either b (revived seen) word) }) homes
        (set views seat (cond b (revived_by who frame word v) (sighted who (places.Frame frame) word v)))
    which true is = goes (eqb-true word seen is)
    which false isnt =
        keeps-shown layout w homes views seat v who (places.Frame frame) given.me given.past (explained-frame layout w homes views (stamp_of who v) frame word there) given.rule
