-- A poisoned frame that is handled keeps the frame rule: its lock is freed, and then the frame's reference becomes HANDLED's.
use Rattle.std.proofs.Common.{◌≡◌, ◌≢◌, ℕ, ◌+◌, ◌-◌, ◌<◌, ◌≤◌, min, Bool, true, false, List, Option, Some, None, map, set, length, slice_get, slice_index, bit_and, bit_xor, inl, inr, refl, sym, ap, ◌∙◌, subst, arith}
use Rattle.std.proofs.lemmas.Bool.{eqb-true, eqb-false}
use Rattle.std.proofs.lemmas.Option.{same_Some}
use Rattle.std.specs.List.{sum_by}
use Rattle.hwp_page.specs.hwp_geom.declared.Frame.{Frame}
use Rattle.hwp_page.specs.hwp_geom.declared.Layout.{Layout}
use Rattle.hwp_words.specs.Frames.{lock_of, poison_of, handled_of, kernel_of, count_of, owner_of, cycle_of, is_kernel}
use Rattle.hwp_words.proofs.FrameSteps.{FieldsAre, fields-unlock, fields-retire}
use Rattle.hwp_core_rule.specs.declared.log.Log.{Log}
use Rattle.hwp_core_rule.specs.declared.step.Step.TheVariants as steps
use Rattle.hwp_core_rule.specs.declared.view.FrameLock.{FrameLock}
use Rattle.hwp_core_rule.specs.declared.view.Ref.{Ref}
use Rattle.hwp_core_rule.specs.declared.view.View.{View}
use Rattle.hwp_core_rule.specs.Asks.{CanRetire}
use Rattle.hwp_core_rule.specs.Lists.{Homes}
use Rattle.hwp_core_rule.specs.Rule.{FrameRule, holdings_of}
use Rattle.hwp_core_rule.specs.Views.{refs_on, less_refs, without, is_lock_of}
use Rattle.hwp_core_rule.specs.Words.{Words, free_bit}
use Rattle.hwp_core_rule.specs.parts.Counts.{CountsBalance, named}
use Rattle.hwp_core_rule.specs.parts.Handled.{HandledIsPoisoned}
use Rattle.hwp_core_rule.specs.parts.Holdings.{IsBounded, HoldingsBounded, frames_held}
use Rattle.hwp_core_rule.specs.parts.Locks.{FrameLocksHeld, IsLocked}
use Rattle.hwp_core_rule.specs.parts.Places.{HasOnePlace, in_hand}
use Rattle.hwp_core_rule.proofs.Keeps.{Keeps}
use Rattle.hwp_core_rule.proofs.PartKeeps
use Rattle.hwp_core_rule.proofs.Lists.{change, at_map, at_set, set_here, set-set, same-or, sum-set, term-le, each-set}
use Rattle.hwp_core_rule.proofs.FrameFields.{pages-kept, handed-kept, placed-kept, failures-kept, unlocked-kept}
use Rattle.hwp_core_rule.proofs.Refs
use Rattle.hwp_core_rule.proofs.WordsByKind.{word-there}
use Rattle.hwp_core_rule.proofs.kinds.UnlockFrame

-- a frame that nobody has locked, poisoned and without owner, becomes handled for one of the view's references
module _ (layout : Layout) (w : Words) (homes : Homes) (views : List View) (seat : ℕ) (v : View) (frame : Frame) (word now : ℕ)
    (me : slice_get views seat ≡ Some v) (there : slice_get w.frames frame.0 ≡ Some word) (referenced : 0 < refs_on frame.0 v.refs)
    (free : lock_of word ≡ 0) (unhandled : handled_of word ≡ 0) (poisoned : poison_of word ≡ 1) (unowned : owner_of word ≡ 0)
    (are : FieldsAre now (lock_of word) (poison_of word) 1 (kernel_of word) (count_of word) (owner_of word) (cycle_of word))
    (h : FrameRule layout w homes views) where
  abbrev less : List Ref
  less = less_refs frame 1 v.refs

  abbrev u : View
  u = record v { refs = less }

  abbrev frames : List ℕ
  frames = set w.frames frame.0 now

  abbrev held : List (List Ref × List FrameLock)
  held = map (λ (v : View). (v.refs, v.locks)) views

  my-refs : slice_get (map (λ (v : View). v.refs) views) seat ≡ Some v.refs
  my-refs = at_map (λ (v : View). v.refs) views seat v me

  balance : count_of word ≡ named frame.0 w.trans + named frame.0 w.caches + sum_by (refs_on frame.0) (map (λ (v : View). v.refs) views) + handled_of word
  balance = h.frames.counts.balance frame.0 word there

  counted : 0 < count_of word
  counted =
      let mine : refs_on frame.0 v.refs ≤ sum_by (refs_on frame.0) (map (λ (v : View). v.refs) views) = term-le (refs_on frame.0) (map (λ (v : View). v.refs) views) seat v.refs my-refs in
      omega (arith, balance, referenced)

  not-idle : 0 < free_bit w.frees frame.0 + in_hand frame.0 (map (λ (v : View). v.hands) views) → ⊥
  not-idle idle = which (is_kernel word) refl
    where
      which : (b : Bool) → is_kernel word ≡ b → ⊥
      which true e = omega (arith, counted, (h.frames.places.kernels frame.0 word there e).uncounted)
      which false e = omega (arith, counted, idle, h.frames.places.placed frame.0 word there e)

  counts : CountsBalance frames w.trans w.caches (set (map (λ (v : View). v.refs) views) seat less)
  counts = record {
    balance = λ g x at.
        let moved : sum_by (refs_on g) (set (map (λ (v : View). v.refs) views) seat less) + refs_on g v.refs ≡ sum_by (refs_on g) (map (λ (v : View). v.refs) views) + refs_on g less =
        sum-set (refs_on g) (map (λ (v : View). v.refs) views) seat v.refs less my-refs in
        elim (at_set w.frames frame.0 g now x at) [
          | inl t ↦ subst (λ (p : ℕ × ℕ). count_of p.1 ≡ named p.0 w.trans + named p.0 w.caches + sum_by (refs_on p.0) (set (map (λ (v : View). v.refs) views) seat less) + handled_of p.1) (λ i. (sym t.0 i, t.1 i)) here
          | inr t ↦
              let was : count_of x ≡ named g w.trans + named g w.caches + sum_by (refs_on g) (map (λ (v : View). v.refs) views) + handled_of x = h.frames.counts.balance g x t.1 in
              let same : refs_on g less ≡ refs_on g v.refs = Refs.refs-less-other frame 1 g v.refs t.0 in
              omega arith
        ];
  }
    where
      here : count_of now ≡ named frame.0 w.trans + named frame.0 w.caches + sum_by (refs_on frame.0) (set (map (λ (v : View). v.refs) views) seat less) + handled_of now
      here =
          let moved : sum_by (refs_on frame.0) (set (map (λ (v : View). v.refs) views) seat less) + refs_on frame.0 v.refs ≡ sum_by (refs_on frame.0) (map (λ (v : View). v.refs) views) + refs_on frame.0 less =
          sum-set (refs_on frame.0) (map (λ (v : View). v.refs) views) seat v.refs less my-refs in
          let fewer : refs_on frame.0 less ≡ refs_on frame.0 v.refs - 1 = Refs.refs-less frame 1 v.refs in
          omega (arith, balance, are.count, are.handled, unhandled, referenced)

  places : HasOnePlace layout.kernel frames w.frees (map (λ (v : View). v.hands) views)
  places = placed-kept w.frames frame.0 word now there are.kernel layout.kernel w.frees (map (λ (v : View). v.hands) views) (map (λ (v : View). v.hands) views) counted (λ g differs. refl)
      (λ usable. subst (λ (n : ℕ). free_bit w.frees frame.0 + in_hand frame.0 (map (λ (v : View). v.hands) views) + min n 1 ≡ 1) (sym are.count) (h.frames.places.placed frame.0 word there usable))
      (λ idle. absurd (not-idle idle)) (handed-kept w.frames frame.0 word now there are.poison (map (λ (v : View). v.hands) views) h.frames.places.handed) h.frames.places

  my-held : slice_get {X = List Ref × List FrameLock} held seat ≡ Some (v.refs, v.locks)
  my-held = at_map (λ (v : View). (v.refs, v.locks)) views seat v me

  locks : FrameLocksHeld frames (set held seat (less, v.locks))
  locks = unlocked-kept w.frames frame.0 word now there held free h.frames.frame_locks are.lock seat (v.refs, v.locks) my-held less (λ g differs. Refs.refs-less-other frame 1 g v.refs differs)

  bounded : IsBounded layout (holdings_of u)
  bounded = record {
    few =
        let few : frames_held (holdings_of v) ≤ 2 = was.few in
        let shorter : length less ≤ length v.refs = Refs.length-less frame 1 v.refs in
        omega arith;
    shares = λ g. elim (same-or g frame.0) [
      | inl same ↦
          let fewer : refs_on frame.0 less ≡ refs_on frame.0 v.refs - 1 = Refs.refs-less frame 1 v.refs in
          let most : refs_on frame.0 v.refs ≤ length layout.trans + 2 = was.shares frame.0 in
          subst (λ (n : ℕ). refs_on n less ≤ length layout.trans + 2) (sym same) (omega (arith, fewer, most))
      | inr differs ↦ subst (λ (n : ℕ). n ≤ length layout.trans + 2) (sym (Refs.refs-less-other frame 1 g v.refs differs)) (was.shares g)
    ];
  }
    where
      was : IsBounded layout (holdings_of v)
      was = h.frames.holdings.bounded seat (holdings_of v) (at_map holdings_of views seat v me)

  out-of-use : HandledIsPoisoned frames
  out-of-use = record {
    out = λ g x at is. elim (at_set w.frames frame.0 g now x at) [
      | inl t ↦ record { poisoned = ap poison_of (sym t.1) ∙ are.poison ∙ poisoned; unowned = ap owner_of (sym t.1) ∙ are.owner ∙ unowned }
      | inr t ↦ h.failures.handled.out g x t.1 is
    ];
  }

  pub keeps-handling : FrameRule layout (record w { frames = frames }) homes (set views seat u)
  keeps-handling = record {
    frames = record {
      counts = change (λ (v : View). v.refs) (CountsBalance frames w.trans w.caches) views seat u counts;
      places = PartKeeps.kept-places views seat v u me refl places;
      frame_locks = change (λ (v : View). (v.refs, v.locks)) (FrameLocksHeld frames) views seat u locks;
      free = PartKeeps.kept-free views seat v u me refl h.frames.free;
      holdings = change holdings_of (HoldingsBounded layout) views seat u (record { bounded = each-set (IsBounded layout) (map holdings_of views) seat (holdings_of u) bounded h.frames.holdings.bounded });
    };
    pages = PartKeeps.same-pages views seat v u me refl (pages-kept w.frames frame.0 word now there are.owner are.lock h.pages);
    histories = PartKeeps.same-histories views seat v u me refl h.histories;
    failures = PartKeeps.same-failures views seat v u me refl (failures-kept w.frames frame.0 word now there are.poison are.cycle out-of-use h.failures);
    processors = PartKeeps.same-processors views seat v u me refl h.processors;
  }

pub keeps-retire : (frame : Frame) → Keeps (steps.Retire frame)
keeps-retire frame layout w homes views seat v who content given =
    subst (λ (c : Option Log). FrameRule layout (record w { frames = set w.frames frame.0 now }) (set homes frame.0 (Some c)) (set views seat after)) (sym can.empty)
    (subst (λ (vs : List View). FrameRule layout (record w { frames = set w.frames frame.0 now }) (set homes frame.0 (Some None)) vs) (set-set views seat unlocking after)
    (subst (λ (l : List ℕ). FrameRule layout (record w { frames = l }) (set homes frame.0 (Some None)) (set (set views seat unlocking) seat after)) (set-set w.frames frame.0 unlocked now)
    (keeps-handling layout (record w { frames = set w.frames frame.0 unlocked }) (set homes frame.0 (Some None)) (set views seat unlocking) seat unlocking frame unlocked now
    (set_here views seat unlocking v given.me) (set_here w.frames frame.0 unlocked found there)
    (UnlockFrame.referenced layout w homes views seat v frame found can.has.listed.0 lock given.me given.place there listed can.has.frame_is given.rule)
    freed.lock (freed.handled ∙ unhandled) (freed.poison ∙ poisoned) (freed.owner ∙ owner ∙ can.unowned)
    (record {
      lock = are.lock ∙ sym freed.lock;
      poison = are.poison ∙ sym freed.poison;
      handled = are.handled;
      kernel = are.kernel ∙ sym freed.kernel;
      count = are.count ∙ sym freed.count;
      owner = are.owner ∙ sym freed.owner;
      cycle = are.cycle ∙ sym freed.cycle;
    })
    (UnlockFrame.keeps-unlock-empty layout w homes views seat v frame found can.has.listed.0 lock given.me given.place there listed can.has.frame_is given.rule can.unowned))))
  where
    can : CanRetire v frame content
    can = given.asks

    lock : FrameLock
    lock = can.has.lock

    listed : slice_get v.locks can.has.listed.0 ≡ Some lock
    listed = can.has.listed.2 ∙ ap (λ (l : FrameLock). Some l) can.has.listed.3

    found : ℕ
    found = slice_index w.frames frame.0

    there : slice_get w.frames frame.0 ≡ Some (slice_index w.frames frame.0)
    there = word-there w.frames frame.0 layout.frames given.shaped.frames given.place

    unlocked : ℕ
    unlocked = bit_and found 18446744073709551614

    now : ℕ
    now = bit_xor found 5

    unlocking : View
    unlocking = record v { locks = without (is_lock_of frame) v.locks }

    after : View
    after = record unlocking { refs = less_refs frame 1 v.refs }

    known : IsLocked w.frames v.refs lock
    known = given.rule.frames.frame_locks.known seat (v.refs, v.locks) (at_map (λ (v : View). (v.refs, v.locks)) views seat v given.me) can.has.listed.0 lock listed

    word-is : known.word ≡ found
    word-is = same_Some known.word found (sym known.there ∙ ap (λ (f : Frame). slice_get w.frames f.0) can.has.frame_is ∙ there)

    owner : owner_of found ≡ lock.owner
    owner = ap owner_of (sym word-is) ∙ known.owner

    poisoned : poison_of found ≡ 1
    poisoned = ap poison_of (sym word-is) ∙ eqb-true (poison_of known.word) 1 (known.poisoned can.poisoned)

    unhandled : handled_of found ≡ 0
    unhandled =
        let unset : handled_of known.word ≢ 1 = eqb-false (handled_of known.word) 1 (known.handled ∙ can.unhandled) in
        let same : handled_of found ≡ handled_of known.word = ap handled_of (sym word-is) in
        omega arith

    freed : FieldsAre unlocked 0 (poison_of found) (handled_of found) (kernel_of found) (count_of found) (owner_of found) (cycle_of found)
    freed = fields-unlock found

    are : FieldsAre now 0 (poison_of found) 1 (kernel_of found) (count_of found) (owner_of found) (cycle_of found)
    are = fields-retire found (UnlockFrame.locked layout w homes views seat v frame found can.has.listed.0 lock given.me given.place there listed can.has.frame_is given.rule) unhandled
