-- A frame that is poisoned keeps the frame rule; where it was so already, its word is shown.
use Rattle.std.proofs.Common.{◌≡◌, ◌≢◌, ℕ, ◌+◌, ◌/◌, ◌%◌, ◌^◌, ◌<◌, ◌≤◌, ◌==◌, ◌&&◌, min, nat_lt, eq-eqb, ne_eqb, le-ltb, Bool, true, false, cond, List, [], ◌∷◌, ◌++◌, Some, map, set, length, slice_get, slice_index, bit_or, inl, inr, refl, sym, ap, ◌∙◌, subst, arith}
use Rattle.std.proofs.lemmas.Bool.{eqb-true, eqb-false}
use Rattle.std.proofs.lemmas.List.{length-set}
use Rattle.std.proofs.lemmas.List.Sums.{sum_by_push}
use Rattle.std.proofs.lemmas.Nat.{or_mod, or_shr}
use Rattle.std.proofs.lemmas.Option.{same_Some, slice_get_within}
use Rattle.std.specs.Int.Bits.{or_zero_r}
use Rattle.std.specs.Int.{from_bool}
use Rattle.std.specs.List.{sum_by}
use Rattle.hwp_page.specs.hwp_geom.declared.Cpu.{Cpu}
use Rattle.hwp_page.specs.hwp_geom.declared.Frame.{Frame}
use Rattle.hwp_page.specs.hwp_geom.declared.Layout.{Layout}
use Rattle.hwp_page.specs.hwp_geom.declared.Who.{Who}
use Rattle.hwp_page.specs.hwp_geom.Limits.{command_limit}
use Rattle.hwp_words.specs.Counters.{biased_poisoned_of, hardware_of}
use Rattle.hwp_words.specs.Frames.{lock_of, poison_of, handled_of, kernel_of, count_of, owner_of, cycle_of, is_kernel, is_poisoned}
use Rattle.hwp_words.proofs.FrameSteps.{FieldsAre, fields-poison}
use Rattle.hwp_core_rule.specs.declared.shared_word.SharedWord.TheVariants as places
use Rattle.hwp_core_rule.specs.declared.step.Step.TheVariants as steps
use Rattle.hwp_core_rule.specs.declared.view.FrameInHand.{FrameInHand}
use Rattle.hwp_core_rule.specs.declared.view.FrameLock.{FrameLock}
use Rattle.hwp_core_rule.specs.declared.view.Mark.{Mark}
use Rattle.hwp_core_rule.specs.declared.view.MarkKind.TheVariants as mark_kinds
use Rattle.hwp_core_rule.specs.declared.view.Ref.{Ref}
use Rattle.hwp_core_rule.specs.declared.view.View.{View}
use Rattle.hwp_core_rule.specs.Lists.{Homes, EachMember, EachListed}
use Rattle.hwp_core_rule.specs.Rule.{FrameRule, count_debts_of, losing_of}
use Rattle.hwp_core_rule.specs.Views.{refs_on, locks_on, sighted, stamp_of, marked, owing_count, poison_listed}
use Rattle.hwp_core_rule.specs.Words.{Words, free_bit}
use Rattle.hwp_core_rule.specs.parts.Counter.{CounterAgrees, CountDebts, IsCovered, is_poisoning, is_revival}
use Rattle.hwp_core_rule.specs.parts.Counts.{CountsBalance, named}
use Rattle.hwp_core_rule.specs.parts.Exhaustion.{ExhaustionExplained}
use Rattle.hwp_core_rule.specs.parts.Handled.{HandledIsPoisoned, IsOutOfUse}
use Rattle.hwp_core_rule.specs.parts.Holdings.{IsPast}
use Rattle.hwp_core_rule.specs.parts.Locks.{FrameLocksHeld, IsLocked}
use Rattle.hwp_core_rule.specs.parts.Losses.{LossesBalance}
use Rattle.hwp_core_rule.specs.parts.Marks.{MarksAlternate, IsBefore, poisonings, revivals, revivals_by}
use Rattle.hwp_core_rule.specs.parts.Places.{HasOnePlace, IsApart, IsBare, IsHanded, in_hand}
use Rattle.hwp_core_rule.proofs.CountsBelow.{never}
use Rattle.hwp_core_rule.proofs.PageWords.{or-odd}
use Rattle.hwp_core_rule.proofs.FrameFields.{pages-kept}
use Rattle.hwp_core_rule.proofs.Keeps.{Keeps}
use Rattle.hwp_core_rule.proofs.PartKeeps
use Rattle.hwp_core_rule.proofs.Lists.{change, keep, at_map, at_set, at_changed, set_here, set_else, set-set, same-or, same-number, sum-set, each-set, each-push}
use Rattle.hwp_core_rule.proofs.steps.MarkSteps
use Rattle.hwp_core_rule.proofs.steps.MarkSteps.{due, by_hardware}
use Rattle.hwp_core_rule.proofs.steps.PoisonedLocks.{keeps-poison-listed}
use Rattle.hwp_core_rule.proofs.Sights.{keeps-shown, explained-frame}
use Rattle.hwp_core_rule.proofs.WordsByKind.{word-there}

-- the poison is there already
or-two : (w : ℕ) → w / 2 % 2 ≡ 1 → bit_or w 2 ≡ w
or-two w odd =
    let high : bit_or w 2 / 2 ^ 1 ≡ w / 2 = or_shr w 2 1 ∙ or-odd (w / 2) odd in
    let low : bit_or w 2 % 2 ^ 1 ≡ w % 2 = or_mod w 2 1 ∙ or_zero_r (w % 2) in
    omega arith

abbrev by_poison : Mark → ℕ
by_poison m = from_bool (is_poisoning m.kind)

-- a frame without poison gets it: the view lists a mark, and owes a count
module _ (layout : Layout) (w : Words) (homes : Homes) (views : List View) (seat : ℕ) (v : View) (who : Who) (frame : Frame) (hardware : Bool) (word counts' hardware' : ℕ)
    (me : slice_get views seat ≡ Some v) (past : IsPast v.parts who) (there : slice_get w.frames frame.0 ≡ Some word) (sound : poison_of word ≡ 0)
    (owed : counts' + hardware' ≡ v.owed.counts + v.owed.hardware + 1) (reported : hardware' ≡ v.owed.hardware + from_bool hardware)
    (h : FrameRule layout w homes views) where
  abbrev mark : Mark
  mark = record { stamp = stamp_of who v; frame = frame; cycle = cycle_of word; kind = mark_kinds.Poisoned hardware }

  abbrev u : View
  u = record v { marks = v.marks ++ mark ∷ []; owed = record v.owed { counts = counts'; hardware = hardware' } }

  abbrev now : ℕ
  now = bit_or word 2

  abbrev frames : List ℕ
  frames = set w.frames frame.0 now

  abbrev hands : List (List FrameInHand)
  hands = map (λ (v : View). v.hands) views

  abbrev held : List (List Ref × List FrameLock)
  held = map (λ (v : View). (v.refs, v.locks)) views

  abbrev marks : List (List Mark)
  marks = map (λ (v : View). v.marks) views

  abbrev debts : List CountDebts
  debts = map count_debts_of views

  are : FieldsAre now (lock_of word) 1 (handled_of word) (kernel_of word) (count_of word) (owner_of word) (cycle_of word)
  are = fields-poison word

  poisoned-now : is_poisoned now ≡ true
  poisoned-now = same-number (poison_of now) 1 are.poison

  -- ---- parts on frames

  counts : CountsBalance frames w.trans w.caches (map (λ (v : View). v.refs) views)
  counts = record {
    balance = at_changed (λ g x. count_of x ≡ named g w.trans + named g w.caches + sum_by (refs_on g) (map (λ (v : View). v.refs) views) + handled_of x) w.frames frame.0 now
        (are.count ∙ h.frames.counts.balance frame.0 word there ∙ ap (λ (n : ℕ). named frame.0 w.trans + named frame.0 w.caches + sum_by (refs_on frame.0) (map (λ (v : View). v.refs) views) + n) (sym are.handled))
        (λ g x differs at. h.frames.counts.balance g x at);
  }

  bare-now : IsBare word → IsBare now
  bare-now bare = record { unowned = are.owner ∙ bare.unowned; unlocked = are.lock ∙ bare.unlocked; unhandled = are.handled ∙ bare.unhandled }

  kernel-same : is_kernel now ≡ is_kernel word
  kernel-same = ap (λ (n : ℕ). n == 1) are.kernel

  places-poisoned : HasOnePlace layout.kernel frames w.frees hands
  places-poisoned = record {
    declared = λ g x k at is. at_changed (λ g x. slice_get layout.kernel g ≡ Some k → is_kernel x ≡ k) w.frames frame.0 now (λ is. kernel-same ∙ h.frames.places.declared frame.0 word k there is) (λ g x differs at is. h.frames.places.declared g x k at is) g x at is;
    placed = at_changed (λ g x. is_kernel x ≡ false → free_bit w.frees g + in_hand g hands + min (count_of x) 1 ≡ 1) w.frames frame.0 now
        (λ usable. ap (λ (n : ℕ). free_bit w.frees frame.0 + in_hand frame.0 hands + min n 1) are.count ∙ h.frames.places.placed frame.0 word there (sym kernel-same ∙ usable))
        (λ g x differs at usable. h.frames.places.placed g x at usable);
    idle = at_changed (λ g x. 0 < free_bit w.frees g + in_hand g hands → IsBare x) w.frames frame.0 now
        (λ idle. bare-now (h.frames.places.idle frame.0 word there idle)) (λ g x differs at idle. h.frames.places.idle g x at idle);
    kernels = at_changed (λ g x. is_kernel x ≡ true → IsApart w.frees hands g x) w.frames frame.0 now kernel-now (λ g x differs at kernel. h.frames.places.kernels g x at kernel);
    handed = λ i list at j hand listed. handed-now hand (h.frames.places.handed i list at j hand listed);
  }
    where
      kernel-now : is_kernel now ≡ true → IsApart w.frees hands frame.0 now
      kernel-now kernel =
          let apart : IsApart w.frees hands frame.0 word = h.frames.places.kernels frame.0 word there (sym kernel-same ∙ kernel) in
          record { bare = bare-now apart.bare; uncounted = are.count ∙ apart.uncounted; taken = apart.taken; unhanded = apart.unhanded }

      handed-now : (hand : FrameInHand) → IsHanded w.frames hand → IsHanded frames hand
      handed-now hand known = elim (same-or hand.frame.0 frame.0) [
        | inl same ↦ record { word = now; there = ap (slice_get frames) same ∙ set_here w.frames frame.0 now word there; poisoned = λ e. poisoned-now }
        | inr differs ↦ record { word = known.word; there = set_else w.frames frame.0 hand.frame.0 now differs ∙ known.there; poisoned = known.poisoned }
      ]

  locks-poisoned : FrameLocksHeld frames held
  locks-poisoned = record {
    one = at_changed (λ g x. sum_by (λ (o : List Ref × List FrameLock). locks_on g o.1) held ≡ lock_of x) w.frames frame.0 now
        (h.frames.frame_locks.one frame.0 word there ∙ sym are.lock) (λ g x differs at. h.frames.frame_locks.one g x at);
    known = λ i o at j l listed. known-now o.0 l (h.frames.frame_locks.known i o at j l listed);
  }
    where
      known-now : (refs : List Ref) (l : FrameLock) → IsLocked w.frames refs l → IsLocked frames refs l
      known-now refs l k = elim (same-or l.frame.0 frame.0) [
        | inl same ↦
            let was : word ≡ k.word = same_Some word k.word (sym there ∙ ap (slice_get w.frames) (sym same) ∙ k.there) in
            record {
              word = now;
              there = ap (slice_get frames) same ∙ set_here w.frames frame.0 now word there;
              owner = are.owner ∙ ap owner_of was ∙ k.owner;
              handled = ap (λ (n : ℕ). n == 1) (are.handled ∙ ap handled_of was) ∙ k.handled;
              poisoned = λ e. poisoned-now;
              referenced = k.referenced;
            }
        | inr differs ↦ record {
          word = k.word;
          there = set_else w.frames frame.0 l.frame.0 now differs ∙ k.there;
          owner = k.owner;
          handled = k.handled;
          poisoned = k.poisoned;
          referenced = k.referenced;
        }
      ]

  -- ---- parts on failures

  handled-poisoned : HandledIsPoisoned frames
  handled-poisoned = record {
    out = at_changed (λ g x. handled_of x ≡ 1 → IsOutOfUse x) w.frames frame.0 now
        (λ is. record { poisoned = are.poison; unowned = are.owner ∙ (h.failures.handled.out frame.0 word there (sym are.handled ∙ is)).unowned }) (λ g x differs at is. h.failures.handled.out g x at is);
  }

  more : (f : Mark → ℕ) → sum_by (sum_by f) (set marks seat u.marks) ≡ sum_by (sum_by f) marks + f mark
  more f = MarkSteps.marked-more layout w homes views seat v mark me h f

  -- in the frame's own cycle there is a poisoning now
  once : (c n p q : ℕ) → p ≡ 0 → q ≡ 1 → due c n p + from_bool ((n == c) && true) ≡ due c n q
  once c n p q none one = elim (same-or c n) [
    | inl same ↦
        let past : nat_lt c n ≡ false = le-ltb c n (omega (arith, same)) in
        let old : due c n p ≡ p = ap (λ (b : Bool). cond b 1 (cond (c == n) p 0)) past ∙ ap (λ (b : Bool). cond b p 0) (eq-eqb c n same) in
        let new : due c n q ≡ q = ap (λ (b : Bool). cond b 1 (cond (c == n) q 0)) past ∙ ap (λ (b : Bool). cond b q 0) (eq-eqb c n same) in
        let this : from_bool ((n == c) && true) ≡ 1 = ap (λ (b : Bool). from_bool (b && true)) (eq-eqb n c (sym same)) in
        omega (arith, old, this, new, none, one)
    | inr differs ↦
        let this : from_bool ((n == c) && true) ≡ 0 = ap (λ (b : Bool). from_bool (b && true)) (ne_eqb n c (λ e. differs (sym e))) in
        let same : due c n p ≡ due c n q = ap (λ (b : Bool). cond (nat_lt c n) 1 (cond b p 0)) (ne_eqb c n differs) ∙ sym (ap (λ (b : Bool). cond (nat_lt c n) 1 (cond b q 0)) (ne_eqb c n differs)) in
        omega (arith, same, this)
  ]

  abbrev this : ℕ → ℕ → ℕ
  this g c = from_bool ((frame.0 == g) && ((cycle_of word == c) && true))

  marks-poisoned : MarksAlternate frames (set marks seat u.marks) (map (λ (v : View). v.sights) views)
  marks-poisoned = record {
    poisoned = λ g x c at. more (λ (m : Mark). from_bool ((m.frame.0 == g) && ((m.cycle == c) && is_poisoning m.kind)))
        ∙ at_changed (λ g x. poisonings g c marks + this g c ≡ due c (cycle_of x) (poison_of x)) w.frames frame.0 now (poisoned-here c)
        (λ g x differs at.
        let old : poisonings g c marks ≡ due c (cycle_of x) (poison_of x) = h.failures.marks.poisoned g x c at in
        let none : this g c ≡ 0 = ap (λ (b : Bool). from_bool (b && ((cycle_of word == c) && true))) (ne_eqb frame.0 g (λ e. differs (sym e))) in
        omega (arith, old, none)) g x at;
    revived = λ g x c at.
        let same : revivals g c (set marks seat u.marks) ≡ revivals g c marks + from_bool ((frame.0 == g) && ((cycle_of word == c) && false)) = more (λ (m : Mark). from_bool ((m.frame.0 == g) && ((m.cycle == c) && is_revival m.kind))) in
        let old : revivals g c marks ≡ from_bool (nat_lt c (cycle_of x)) = at_changed (λ g x. revivals g c marks ≡ from_bool (nat_lt c (cycle_of x))) w.frames frame.0 now
        (h.failures.marks.revived frame.0 word c there ∙ ap (λ (n : ℕ). from_bool (nat_lt c n)) (sym are.cycle)) (λ g x differs at. h.failures.marks.revived g x c at) g x at in
        omega (arith, same, old, never (frame.0 == g) (cycle_of word == c));
    framed = subst (λ (n : ℕ). EachListed (λ (m : Mark). m.frame.0 < n) (set marks seat u.marks)) (sym (length-set w.frames frame.0 now))
        (each-set (EachMember (λ (m : Mark). m.frame.0 < length w.frames)) marks seat u.marks
        (each-push (λ (m : Mark). m.frame.0 < length w.frames) v.marks mark (slice_get_within w.frames frame.0 word there) (h.failures.marks.framed seat v.marks my-marks)) h.failures.marks.framed);
    few = each-set (λ (list : List Mark). (cpu : Cpu) → revivals_by cpu list ≤ command_limit) marks seat u.marks few-mine h.failures.marks.few;
    shown = λ other x at i list listed j s is place. elim (at_set w.frames frame.0 other.0 now x at) [
      | inl t ↦
          let before : IsBefore word s = h.failures.marks.shown other word (ap (slice_get w.frames) t.0 ∙ there) i list listed j s is place in
          let cycle : cycle_of s.word ≤ cycle_of word = before.cycle in
          record { cycle = omega (arith, cycle, ap cycle_of (sym t.1) ∙ are.cycle); poison = λ e. omega (arith, ap poison_of (sym t.1) ∙ are.poison) }
      | inr t ↦ h.failures.marks.shown other x t.1 i list listed j s is place
    ];
  }
    where
      my-marks : slice_get marks seat ≡ Some v.marks
      my-marks = at_map (λ (v : View). v.marks) views seat v me

      poisoned-here : (c : ℕ) → poisonings frame.0 c marks + this frame.0 c ≡ due c (cycle_of now) (poison_of now)
      poisoned-here c =
          let old : poisonings frame.0 c marks ≡ due c (cycle_of word) (poison_of word) = h.failures.marks.poisoned frame.0 word c there in
          let own : this frame.0 c ≡ from_bool ((cycle_of word == c) && true) = ap (λ (b : Bool). from_bool (b && ((cycle_of word == c) && true))) (same-number frame.0 frame.0 refl) in
          let one : due c (cycle_of word) (poison_of word) + from_bool ((cycle_of word == c) && true) ≡ due c (cycle_of word) (poison_of now) = once c (cycle_of word) (poison_of word) (poison_of now) sound are.poison in
          let cycle : due c (cycle_of word) (poison_of now) ≡ due c (cycle_of now) (poison_of now) = ap (λ (n : ℕ). due c n (poison_of now)) (sym are.cycle) in
          omega (arith, old, own, one, cycle)

      few-mine : (cpu : Cpu) → revivals_by cpu u.marks ≤ command_limit
      few-mine cpu =
          let same : revivals_by cpu u.marks ≡ revivals_by cpu v.marks + from_bool ((who.cpu.0 == cpu.0) && false) = sum_by_push (λ (m : Mark). from_bool ((m.stamp.who.cpu.0 == cpu.0) && is_revival m.kind)) v.marks mark in
          let none : from_bool ((who.cpu.0 == cpu.0) && false) ≡ 0 = never true (who.cpu.0 == cpu.0) in
          omega (arith, same, none, h.failures.marks.few seat v.marks my-marks cpu)

  -- ---- the counter

  counter-poisoned : CounterAgrees frames w.counter (set debts seat (count_debts_of u)) (map (λ (v : View). v.sights) views)
  counter-poisoned = record {
    poisoned =
        let was : biased_poisoned_of w.counter + sum_by (λ (d : CountDebts). d.counts + d.hardware) debts ≡ 2 ^ 31 + sum_by poison_of w.frames + sum_by (λ (d : CountDebts). d.uncounts) debts = h.failures.counter.poisoned in
        let counts : sum_by (λ (d : CountDebts). d.counts + d.hardware) (set debts seat (count_debts_of u)) + (v.owed.counts + v.owed.hardware) ≡ sum_by (λ (d : CountDebts). d.counts + d.hardware) debts + (counts' + hardware') = moved (λ (d : CountDebts). d.counts + d.hardware) in
        let uncounts : sum_by (λ (d : CountDebts). d.uncounts) (set debts seat (count_debts_of u)) + v.owed.uncounts ≡ sum_by (λ (d : CountDebts). d.uncounts) debts + v.owed.uncounts = moved (λ (d : CountDebts). d.uncounts) in
        let bits : sum_by poison_of frames + poison_of word ≡ sum_by poison_of w.frames + poison_of now = sum-set poison_of w.frames frame.0 word now there in
        omega (arith, was, counts, uncounts, bits, sound, are.poison, owed);
    hardware =
        let was : hardware_of w.counter + sum_by (λ (d : CountDebts). d.hardware) debts ≡ sum_by (λ (d : CountDebts). sum_by by_hardware d.marks) debts = h.failures.counter.hardware in
        let owing : sum_by (λ (d : CountDebts). d.hardware) (set debts seat (count_debts_of u)) + v.owed.hardware ≡ sum_by (λ (d : CountDebts). d.hardware) debts + hardware' = moved (λ (d : CountDebts). d.hardware) in
        let listed : sum_by (λ (d : CountDebts). sum_by by_hardware d.marks) (set debts seat (count_debts_of u)) + sum_by by_hardware v.marks ≡ sum_by (λ (d : CountDebts). sum_by by_hardware d.marks) debts + sum_by by_hardware u.marks = moved (λ (d : CountDebts). sum_by by_hardware d.marks) in
        let one : sum_by by_hardware u.marks ≡ sum_by by_hardware v.marks + from_bool hardware = sum_by_push by_hardware v.marks mark in
        omega (arith, was, owing, listed, one, reported);
    covered = each-set IsCovered debts seat (count_debts_of u) mine h.failures.counter.covered;
    shown = MarkSteps.hardware-marked layout w homes views seat v mark me h (count_debts_of u) refl;
  }
    where
      my-debts : slice_get debts seat ≡ Some (count_debts_of v)
      my-debts = at_map count_debts_of views seat v me

      moved : (f : CountDebts → ℕ) → sum_by f (set debts seat (count_debts_of u)) + f (count_debts_of v) ≡ sum_by f debts + f (count_debts_of u)
      moved f = sum-set f debts seat (count_debts_of v) (count_debts_of u) my-debts

      mine : IsCovered (count_debts_of u)
      mine =
          let was : IsCovered (count_debts_of v) = h.failures.counter.covered seat (count_debts_of v) my-debts in
          let one : sum_by by_poison u.marks ≡ sum_by by_poison v.marks + 1 = sum_by_push by_poison v.marks mark in
          let clearing : sum_by (λ (m : Mark). from_bool (is_revival m.kind)) u.marks ≡ sum_by (λ (m : Mark). from_bool (is_revival m.kind)) v.marks + 0 = sum_by_push (λ (m : Mark). from_bool (is_revival m.kind)) v.marks mark in
          record { counts = omega (arith, was.counts, one, owed); uncounts = omega (arith, was.uncounts, clearing) }

  pub keeps-poisoning : FrameRule layout (record w { frames = frames }) homes (set views seat u)
  keeps-poisoning = record {
    frames = record {
      counts = PartKeeps.kept-counts views seat v u me refl counts;
      places = PartKeeps.kept-places views seat v u me refl places-poisoned;
      frame_locks = PartKeeps.kept-frame-locks views seat v u me refl refl locks-poisoned;
      free = PartKeeps.kept-free views seat v u me refl h.frames.free;
      holdings = PartKeeps.kept-holdings views seat v u me refl h.frames.holdings;
    };
    pages = PartKeeps.same-pages views seat v u me refl (pages-kept w.frames frame.0 word now there are.owner are.lock h.pages);
    histories = record {
      entries = PartKeeps.kept-entries views seat v u me refl refl refl refl h.histories.entries;
      endings = PartKeeps.kept-endings views seat v u me refl refl h.histories.endings;
      losses = keep (λ (v : View). v.sights) (λ l. LossesBalance layout w.losses homes (map (λ (v : View). v.bodies) (set views seat u)) (map losing_of (set views seat u)) l) views seat v u me refl
          (keep (λ (v : View). v.bodies) (λ l. LossesBalance layout w.losses homes l (map losing_of (set views seat u)) (map (λ (v : View). v.sights) views)) views seat v u me refl
          (change losing_of (λ l. LossesBalance layout w.losses homes (map (λ (v : View). v.bodies) views) l (map (λ (v : View). v.sights) views)) views seat u (MarkSteps.losses-marked layout w homes views seat v mark me h)));
    };
    failures = record {
      handled = handled-poisoned;
      counter = keep (λ (v : View). v.sights) (λ l. CounterAgrees frames w.counter (map count_debts_of (set views seat u)) l) views seat v u me refl
          (change count_debts_of (λ l. CounterAgrees frames w.counter l (map (λ (v : View). v.sights) views)) views seat u counter-poisoned);
      damage = PartKeeps.kept-damage views seat v u me refl refl h.failures.damage;
      marks = keep (λ (v : View). v.sights) (λ l. MarksAlternate frames (map (λ (v : View). v.marks) (set views seat u)) l) views seat v u me refl
          (change (λ (v : View). v.marks) (λ l. MarksAlternate frames l (map (λ (v : View). v.sights) views)) views seat u marks-poisoned);
      exhaustion = keep (λ (v : View). v.sights) (λ l. ExhaustionExplained layout (map (λ (v : View). v.marks) (set views seat u)) l) views seat v u me refl
          (change (λ (v : View). v.marks) (λ l. ExhaustionExplained layout l (map (λ (v : View). v.sights) views)) views seat u (MarkSteps.exhaustion-marked layout w homes views seat v mark me h));
    };
    processors = record {
      policies = PartKeeps.kept-policies views seat v u me refl refl refl h.processors.policies;
      stops = PartKeeps.kept-stops views seat v u me refl refl refl h.processors.stops;
      processors = PartKeeps.kept-processors views seat v u me refl h.processors.processors;
      commands = PartKeeps.kept-commands views seat v u me (MarkSteps.own-marked layout w homes views seat v mark me h u refl past) h.processors.commands;
    };
  }

pub keeps-poison : (frame : Frame) (hardware : Bool) → Keeps (steps.Poison frame hardware)
keeps-poison frame hardware layout w homes views seat v who content given = which (found / 2 % 2 == 0) refl
  where
    found : ℕ
    found = slice_index w.frames frame.0

    there : slice_get w.frames frame.0 ≡ Some (slice_index w.frames frame.0)
    there = word-there w.frames frame.0 layout.frames given.shaped.frames given.place

    frames : List ℕ
    frames = set w.frames frame.0 (bit_or found 2)

    marking : Bool → View
    marking b = record (marked who frame found (mark_kinds.Poisoned b) v) { owed = owing_count b v.owed }

    seen : View
    seen = sighted who (places.Frame frame) found v

    -- the count is owed of its kind
    marked-now : (b : Bool) → poison_of found ≡ 0 → FrameRule layout (record w { frames = frames }) homes (set views seat (marking b))
    marked-now true sound = keeps-poisoning layout w homes views seat v who frame true found v.owed.counts (v.owed.hardware + 1) given.me given.past there sound (omega arith) refl given.rule
    marked-now false sound = keeps-poisoning layout w homes views seat v who frame false found (v.owed.counts + 1) v.owed.hardware given.me given.past there sound (omega arith) (omega arith) given.rule

    -- then the frame's lock lists the poison
    listed : (u : View) (words : List ℕ) → poison_of (bit_or found 2) ≡ 1 → slice_get words frame.0 ≡ Some (bit_or found 2) → FrameRule layout (record w { frames = words }) homes (set views seat u)
        → FrameRule layout (record w { frames = words }) homes (set views seat (poison_listed frame u))
    listed u words poisoned at rule = subst (FrameRule layout (record w { frames = words }) homes) (set-set views seat u (poison_listed frame u))
        (keeps-poison-listed layout (record w { frames = words }) homes (set views seat u) seat u frame (bit_or found 2) (set_here views seat u v given.me) at (same-number (poison_of (bit_or found 2)) 1 poisoned) rule)

    which : (b : Bool) → (found / 2 % 2 == 0) ≡ b → FrameRule layout (record w { frames = frames }) homes (set views seat (poison_listed frame (cond b (marking hardware) seen)))
    which true is = listed (marking hardware) frames (fields-poison found).poison (set_here w.frames frame.0 (bit_or found 2) found there) (marked-now hardware (eqb-true (found / 2 % 2) 0 is))
    which false isnt = listed seen frames (fields-poison found).poison (set_here w.frames frame.0 (bit_or found 2) found there)
        (subst (λ (n : ℕ). FrameRule layout (record w { frames = set w.frames frame.0 n }) homes (set views seat seen)) (sym (or-two found stands))
        (keeps-shown layout w homes views seat v who (places.Frame frame) given.me given.past (explained-frame layout w homes views (stamp_of who v) frame found there) given.rule))
      where
        stands : found / 2 % 2 ≡ 1
        stands =
            let some : found / 2 % 2 ≢ 0 = eqb-false (found / 2 % 2) 0 isnt in
            omega (arith, some)
