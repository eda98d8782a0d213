-- What every step notes keeps the frame rule.
use Rattle.std.proofs.Common.{◌≡◌, ℕ, ◌+◌, ◌<◌, ◌≤◌, ◌==◌, max, Bool, true, false, cond, List, Some, map, set, slice_get, refl, ap, ◌∙◌, arith}
use Rattle.std.specs.List.{sum_by}
use Rattle.std.specs.Int.{from_bool}
use Rattle.hwp_page.specs.hwp_geom.declared.Cpu.{Cpu}
use Rattle.hwp_page.specs.hwp_geom.declared.Layout.{Layout}
use Rattle.hwp_page.specs.hwp_geom.declared.Who.{Who}
use Rattle.hwp_core_rule.specs.declared.view.Part.{Part}
use Rattle.hwp_core_rule.specs.declared.view.Setting.{Setting}
use Rattle.hwp_core_rule.specs.declared.view.Made.{Made}
use Rattle.hwp_core_rule.specs.declared.view.Mark.{Mark}
use Rattle.hwp_core_rule.specs.declared.view.Sight.{Sight}
use Rattle.hwp_core_rule.specs.declared.view.Length.{Length}
use Rattle.hwp_core_rule.specs.declared.view.View.{View}
use Rattle.hwp_core_rule.specs.Asks.{IsTurnOf}
use Rattle.hwp_core_rule.specs.Lists.{Homes, EachMember}
use Rattle.hwp_core_rule.specs.Rule.{FrameRule}
use Rattle.hwp_core_rule.specs.Views.{noted}
use Rattle.hwp_core_rule.specs.Words.{Words}
use Rattle.hwp_core_rule.specs.parts.Holdings.{ProcessorsApart, AreOwn, IsPast}
use Rattle.hwp_core_rule.specs.parts.Policies.{PoliciesListed, PolicyAgrees, IsSetByOwn, IsOf, settings_of}
use Rattle.hwp_core_rule.proofs.Lists.{change, keep, at_map, map-was, same-number, each-set, each-weaken, each-changed, some-changed, sum-changed, sum-set}
use Rattle.hwp_core_rule.proofs.PartKeeps

abbrev is_part : Who → Part → Bool
is_part who p = p.cpu.0 == who.cpu.0

abbrev later : Who → Part → Part
later who p = record p { latest = max p.latest who.seq }

-- a command that was come to still is
past-noted : (by : Who) (v : View) (who : Who) → IsPast v.parts who → IsPast (noted by v).parts who
past-noted by v who past = some-changed (λ (p : Part). (p.cpu ≡ who.cpu) × (who.seq ≤ p.latest)) (is_part by) (later by) v.parts (λ p is h. let below : who.seq ≤ p.latest = h.1 in (h.0, omega arith)) past

own-noted : (who : Who) (v : View) → AreOwn v → AreOwn (noted who v)
own-noted who v own = record {
  made = each-weaken (λ (m : Made). IsPast v.parts m.entry.who) (λ m. IsPast (noted who v).parts m.entry.who) v.made (λ m p. past-noted who v m.entry.who p) own.made;
  marks = each-weaken (λ (m : Mark). IsPast v.parts m.stamp.who) (λ m. IsPast (noted who v).parts m.stamp.who) v.marks (λ m p. past-noted who v m.stamp.who p) own.marks;
  sights = each-weaken (λ (s : Sight). IsPast v.parts s.stamp.who) (λ s. IsPast (noted who v).parts s.stamp.who) v.sights (λ s p. past-noted who v s.stamp.who p) own.sights;
  lengths = each-weaken (λ (l : Length). IsPast v.parts l.stamp.who) (λ l. IsPast (noted who v).parts l.stamp.who) v.lengths (λ l p. past-noted who v l.stamp.who p) own.lengths;
  settings = each-weaken (λ (s : Setting). IsPast v.parts s.stamp.who) (λ s. IsPast (noted who v).parts s.stamp.who) v.settings (λ s p. past-noted who v s.stamp.who p) own.settings;
  stops = each-weaken (IsPast v.parts) (IsPast (noted who v).parts) v.stops (λ w p. past-noted who v w p) own.stops;
}

-- the step's own command is come to
pub past-now : (who : Who) (v : View) → IsTurnOf v who → IsPast (noted who v).parts who
past-now who v turn = (turn.part.0, cond-later, there, (cpus, below))
  where
    p : Part
    p = turn.part.1

    cond-later : Part
    cond-later = later who p

    is : is_part who p ≡ true
    is = same-number p.cpu.0 who.cpu.0 (ap (λ (c : Cpu). c.0) turn.part.3.0)

    there : slice_get (noted who v).parts turn.part.0 ≡ Some cond-later
    there = at_map (λ (x : Part). cond (is_part who x) (later who x) x) v.parts turn.part.0 p turn.part.2 ∙ ap (λ (b : Bool). Some (cond b (later who p) p)) is

    cpus : cond-later.cpu ≡ who.cpu
    cpus = turn.part.3.0

    below : who.seq ≤ cond-later.latest
    below = omega arith

-- and it is still that processor's turn
pub turn-noted : (who : Who) (v : View) → IsTurnOf v who → IsTurnOf (noted who v) who
turn-noted who v turn = record {
  part = some-changed (λ (p : Part). (p.cpu ≡ who.cpu) × (p.latest ≤ who.seq)) (is_part who) (later who) v.parts (λ p is h. let below : p.latest ≤ who.seq = h.1 in (h.0, omega arith)) turn.part;
}

cpu-kept : (who : Who) (b : Bool) (p : Part) → p.cpu ≡ (cond b (later who p) p).cpu
cpu-kept who true p = refl
cpu-kept who false p = refl

policies-noted : (layout : Layout) (w : Words) (homes : Homes) (views : List View) (seat : ℕ) (v : View) (who : Who) → slice_get views seat ≡ Some v
    → FrameRule layout w homes views
    → PoliciesListed layout.threads w.policies (map (λ (v : View). (v.parts, v.settings)) (set views seat (noted who v))) (map (λ (v : View). v.sights) views)
policies-noted layout w homes views seat v who me h = record {
  own = change (λ (v : View). (v.parts, v.settings)) (EachMember (λ (x : List Part × List Setting). EachMember (IsSetByOwn layout.threads) x.1)) views seat (noted who v)
      (each-set (λ (x : List Part × List Setting). EachMember (IsSetByOwn layout.threads) x.1) (map (λ (v : View). (v.parts, v.settings)) views) seat ((noted who v).parts, v.settings)
      (h.processors.policies.own seat (v.parts, v.settings) (at_map (λ (v : View). (v.parts, v.settings)) views seat v me)) h.processors.policies.own);
  agrees = λ thread d word there is.
      change (λ (v : View). (v.parts, v.settings)) (EachMember (λ (x : List Part × List Setting). IsOf d.cpu x.0 → PolicyAgrees thread word (map (λ (v : View). v.sights) views) (settings_of thread x.1))) views seat (noted who v)
      (each-set (λ (x : List Part × List Setting). IsOf d.cpu x.0 → PolicyAgrees thread word (map (λ (v : View). v.sights) views) (settings_of thread x.1)) (map (λ (v : View). (v.parts, v.settings)) views) seat ((noted who v).parts, v.settings)
      (λ of. h.processors.policies.agrees thread d word there is seat (v.parts, v.settings) (at_map (λ (v : View). (v.parts, v.settings)) views seat v me) (before d.cpu of))
      (h.processors.policies.agrees thread d word there is));
}
  where
    before : (cpu : Cpu) → IsOf cpu (noted who v).parts → IsOf cpu v.parts
    before cpu of = each-was v.parts of.0 of.1 of.2 of.3
      where
        each-was : (l : List Part) (i : ℕ) (x : Part) → slice_get (map (λ (p : Part). cond (is_part who p) (later who p) p) l) i ≡ Some x → x.cpu ≡ cpu → IsOf cpu l
        each-was l i x there same = let was = map-was (λ (p : Part). cond (is_part who p) (later who p) p) l i x there in (i, was.0, was.1, cpu-kept who (is_part who was.0) was.0 ∙ ap (λ (p : Part). p.cpu) was.2 ∙ same)

processors-noted : (layout : Layout) (views : List View) (seat : ℕ) (v : View) (who : Who) → slice_get views seat ≡ Some v
    → ProcessorsApart layout (map (λ (v : View). v.parts) views) → ProcessorsApart layout (map (λ (v : View). v.parts) (set views seat (noted who v)))
processors-noted layout views seat v who me h = change (λ (v : View). v.parts) (ProcessorsApart layout) views seat (noted who v) (record {
  one = λ c less.
      let count : Part → ℕ = λ (p : Part). from_bool (p.cpu.0 == c) in
      let same : sum_by count (noted who v).parts ≡ sum_by count v.parts = sum-changed count (is_part who) (later who) v.parts (λ p. refl) in
      let all : sum_by (sum_by count) (set (map (λ (v : View). v.parts) views) seat (noted who v).parts) + sum_by count v.parts ≡ sum_by (sum_by count) (map (λ (v : View). v.parts) views) + sum_by count (noted who v).parts =
      sum-set (sum_by count) (map (λ (v : View). v.parts) views) seat v.parts (noted who v).parts (at_map (λ (v : View). v.parts) views seat v me) in
      let before : sum_by (sum_by count) (map (λ (v : View). v.parts) views) ≡ 1 = h.one c less in
      omega arith;
  declared = each-set (EachMember (λ (p : Part). p.cpu.0 < layout.cpus)) (map (λ (v : View). v.parts) views) seat (noted who v).parts
      (each-changed (λ (p : Part). p.cpu.0 < layout.cpus) (is_part who) (later who) v.parts (λ p is below. below) (h.declared seat v.parts (at_map (λ (v : View). v.parts) views seat v me)))
      h.declared;
})

-- the step is noted
pub keeps-noted : (layout : Layout) (w : Words) (homes : Homes) (views : List View) (seat : ℕ) (v : View) (who : Who) → slice_get views seat ≡ Some v
    → FrameRule layout w homes views → FrameRule layout w homes (set views seat (noted who v))
keeps-noted layout w homes views seat v who me h = record {
  frames = PartKeeps.same-frames views seat v (noted who v) me refl h.frames;
  pages = PartKeeps.same-pages views seat v (noted who v) me refl h.pages;
  histories = PartKeeps.same-histories views seat v (noted who v) me refl h.histories;
  failures = PartKeeps.same-failures views seat v (noted who v) me refl h.failures;
  processors = record {
    policies = keep (λ (v : View). v.sights) (λ l. PoliciesListed layout.threads w.policies (map (λ (v : View). (v.parts, v.settings)) (set views seat (noted who v))) l) views seat v (noted who v) me refl
        (policies-noted layout w homes views seat v who me h);
    stops = PartKeeps.kept-stops views seat v (noted who v) me refl refl refl h.processors.stops;
    processors = processors-noted layout views seat v who me h.processors.processors;
    commands = PartKeeps.kept-commands views seat v (noted who v) me (own-noted who v (h.processors.commands.own seat v me)) h.processors.commands;
  };
}
