-- A poisoned frame that is counted, and one that is counted off, keep the frame rule.
use Rattle.std.proofs.Common.{◌≡◌, ℕ, ◌+◌, ◌-◌, ◌*◌, ◌%◌, ◌^◌, ◌<◌, ◌≤◌, Bool, true, false, List, Some, map, set, slice_get, refl, arith}
use Rattle.std.specs.Int.{from_bool}
use Rattle.std.specs.List.{sum_by}
use Rattle.hwp_page.specs.hwp_geom.declared.Layout.{Layout}
use Rattle.hwp_page.specs.Orders.{IsNotLater}
use Rattle.hwp_words.specs.Counters.{biased_poisoned_of, hardware_of}
use Rattle.hwp_words.specs.Frames.{poison_of}
use Rattle.hwp_words.proofs.OtherSteps.{CountsAre, counts-count_poison, counts-count_hardware, counts-uncount}
use Rattle.hwp_core_rule.specs.declared.step.Step.TheVariants as steps
use Rattle.hwp_core_rule.specs.declared.view.Mark.{Mark}
use Rattle.hwp_core_rule.specs.declared.view.View.{View}
use Rattle.hwp_core_rule.specs.Lists.{Homes, SomeMember}
use Rattle.hwp_core_rule.specs.Rule.{FrameRule, count_debts_of}
use Rattle.hwp_core_rule.specs.Words.{Words}
use Rattle.hwp_core_rule.specs.parts.Counter.{CounterAgrees, CountDebts, IsCovered, is_by_hardware}
use Rattle.hwp_core_rule.proofs.bounds.MarkBounds.{mark_limit, hardware-few, poisoned-near}
use Rattle.hwp_core_rule.proofs.Keeps.{Keeps}
use Rattle.hwp_core_rule.proofs.PartKeeps
use Rattle.hwp_core_rule.proofs.Lists.{change, keep, at_map, each-set, some-set, sum-set}

-- the counter becomes another, and the view owes so much less, or owes to take back so much less
module _ (layout : Layout) (w : Words) (homes : Homes) (views : List View) (seat : ℕ) (v : View) (word counts' hardware' uncounts' : ℕ)
    (me : slice_get views seat ≡ Some v) (h : FrameRule layout w homes views) where
  abbrev u : View
  u = record v { owed = record v.owed { counts = counts'; hardware = hardware'; uncounts = uncounts' } }

  abbrev debts : List CountDebts
  debts = map count_debts_of views

  my-debts : slice_get debts seat ≡ Some (count_debts_of v)
  my-debts = at_map count_debts_of views seat v me

  moved : (f : CountDebts → ℕ) → sum_by f (set debts seat (count_debts_of u)) + f (count_debts_of v) ≡ sum_by f debts + f (count_debts_of u)
  moved f = sum-set f debts seat (count_debts_of v) (count_debts_of u) my-debts

  pub keeps-counting : biased_poisoned_of word + (counts' + hardware') + v.owed.uncounts ≡ biased_poisoned_of w.counter + (v.owed.counts + v.owed.hardware) + uncounts' → hardware_of word + hardware' ≡ hardware_of w.counter + v.owed.hardware
      → counts' + hardware' ≤ v.owed.counts + v.owed.hardware → uncounts' ≤ v.owed.uncounts → FrameRule layout (record w { counter = word }) homes (set views seat u)
  keeps-counting poisoned reported fewer no_more = record {
    frames = PartKeeps.same-frames views seat v u me refl h.frames;
    pages = PartKeeps.same-pages views seat v u me refl h.pages;
    histories = PartKeeps.same-histories views seat v u me refl h.histories;
    failures = record {
      handled = h.failures.handled;
      counter = keep (λ (v : View). v.sights) (λ l. CounterAgrees w.frames word (map count_debts_of (set views seat u)) l) views seat v u me refl
          (change count_debts_of (λ l. CounterAgrees w.frames word l (map (λ (v : View). v.sights) views)) views seat u agrees);
      damage = PartKeeps.kept-damage views seat v u me refl refl h.failures.damage;
      marks = PartKeeps.kept-marks views seat v u me refl refl h.failures.marks;
      exhaustion = PartKeeps.kept-exhaustion views seat v u me refl refl h.failures.exhaustion;
    };
    processors = PartKeeps.same-processors views seat v u me refl h.processors;
  }
    where
      was : IsCovered (count_debts_of v)
      was = h.failures.counter.covered seat (count_debts_of v) my-debts

      agrees : CounterAgrees w.frames word (set debts seat (count_debts_of u)) (map (λ (v : View). v.sights) views)
      agrees = record {
        poisoned =
            let old : biased_poisoned_of w.counter + sum_by (λ (d : CountDebts). d.counts + d.hardware) debts ≡ 2 ^ 31 + sum_by poison_of w.frames + sum_by (λ (d : CountDebts). d.uncounts) debts = h.failures.counter.poisoned in
            let counts : sum_by (λ (d : CountDebts). d.counts + d.hardware) (set debts seat (count_debts_of u)) + (v.owed.counts + v.owed.hardware) ≡ sum_by (λ (d : CountDebts). d.counts + d.hardware) debts + (counts' + hardware') = moved (λ (d : CountDebts). d.counts + d.hardware) in
            let uncounts : sum_by (λ (d : CountDebts). d.uncounts) (set debts seat (count_debts_of u)) + v.owed.uncounts ≡ sum_by (λ (d : CountDebts). d.uncounts) debts + uncounts' = moved (λ (d : CountDebts). d.uncounts) in
            omega (arith, old, counts, uncounts, poisoned);
        hardware =
            let old : hardware_of w.counter + sum_by (λ (d : CountDebts). d.hardware) debts ≡ sum_by (λ (d : CountDebts). sum_by (λ (m : Mark). from_bool (is_by_hardware m.kind)) d.marks) debts = h.failures.counter.hardware in
            let owing : sum_by (λ (d : CountDebts). d.hardware) (set debts seat (count_debts_of u)) + v.owed.hardware ≡ sum_by (λ (d : CountDebts). d.hardware) debts + hardware' = moved (λ (d : CountDebts). d.hardware) in
            let listed : sum_by (λ (d : CountDebts). sum_by (λ (m : Mark). from_bool (is_by_hardware m.kind)) d.marks) (set debts seat (count_debts_of u)) + sum_by (λ (m : Mark). from_bool (is_by_hardware m.kind)) v.marks
            ≡ sum_by (λ (d : CountDebts). sum_by (λ (m : Mark). from_bool (is_by_hardware m.kind)) d.marks) debts + sum_by (λ (m : Mark). from_bool (is_by_hardware m.kind)) v.marks = moved (λ (d : CountDebts). sum_by (λ (m : Mark). from_bool (is_by_hardware m.kind)) d.marks) in
            omega (arith, old, owing, listed, reported);
        covered = each-set IsCovered debts seat (count_debts_of u) (record { counts = omega (arith, was.counts, fewer); uncounts = omega (arith, was.uncounts, no_more) }) h.failures.counter.covered;
        shown = λ i list at j s is place above.
            some-set (λ (d : CountDebts). SomeMember (λ (m : Mark). (is_by_hardware m.kind ≡ true) × IsNotLater m.stamp.who s.stamp.who) d.marks) debts seat (count_debts_of v) (count_debts_of u) my-debts
            (λ has. has) (h.failures.counter.shown i list at j s is place above);
      }

-- by no bank
keeps-counted : Keeps (steps.CountPoison false)
keeps-counted layout w homes views seat v who content given =
    keeps-counting layout w homes views seat v ((w.counter + 1) % 2 ^ 64) (v.owed.counts - 1) v.owed.hardware v.owed.uncounts given.me given.rule
    (omega (arith, are.poisoned, some)) (omega (arith, are.hardware)) (omega arith) (omega arith)
  where
    some : 0 < v.owed.counts
    some = given.asks

    are : CountsAre ((w.counter + 1) % 2 ^ 64) (hardware_of w.counter) (biased_poisoned_of w.counter + 1)
    are = counts-count_poison w.counter given.fits (omega (arith, (poisoned-near layout w homes views given.sound given.shaped.frames given.rule).0))

-- by a bank
keeps-reported : Keeps (steps.CountPoison true)
keeps-reported layout w homes views seat v who content given =
    keeps-counting layout w homes views seat v ((w.counter + (2 ^ 32 + 1)) % 2 ^ 64) v.owed.counts (v.owed.hardware - 1) v.owed.uncounts given.me given.rule
    (omega (arith, are.poisoned, some)) (omega (arith, are.hardware, some)) (omega arith) (omega arith)
  where
    some : 0 < v.owed.hardware
    some = given.asks

    are : CountsAre ((w.counter + (2 ^ 32 + 1)) % 2 ^ 64) (hardware_of w.counter + 1) (biased_poisoned_of w.counter + 1)
    are = counts-count_hardware w.counter given.fits (omega (arith, hardware-few layout w homes views given.sound given.shaped.frames given.rule)) (omega (arith, (poisoned-near layout w homes views given.sound given.shaped.frames given.rule).0))

pub keeps-count_poison : (hardware : Bool) → Keeps (steps.CountPoison hardware)
keeps-count_poison false = keeps-counted
keeps-count_poison true = keeps-reported

pub keeps-uncount : Keeps steps.Uncount
keeps-uncount layout w homes views seat v who content given =
    keeps-counting layout w homes views seat v ((w.counter + (2 ^ 64 - 1)) % 2 ^ 64) v.owed.counts v.owed.hardware (v.owed.uncounts - 1) given.me given.rule
    (omega (arith, are.poisoned, some, near)) (omega (arith, are.hardware)) (omega arith) (omega arith)
  where
    some : 0 < v.owed.uncounts
    some = given.asks

    near : 2 ^ 31 ≤ biased_poisoned_of w.counter + mark_limit
    near = (poisoned-near layout w homes views given.sound given.shaped.frames given.rule).1

    are : CountsAre ((w.counter + (2 ^ 64 - 1)) % 2 ^ 64) (hardware_of w.counter) (biased_poisoned_of w.counter - 1)
    are = counts-uncount w.counter given.fits (omega (arith, near))
