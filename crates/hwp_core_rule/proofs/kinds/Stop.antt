-- The stop of the machine keeps the frame rule.
use Rattle.std.proofs.Common.{◌≡◌, ℕ, ◌+◌, ◌<◌, ◌≤◌, ◌==◌, min, eqb-true, Bool, true, false, cond, List, [], ◌∷◌, ◌++◌, Some, map, set, length, slice_get, refl, sym, ap, ◌∙◌, arith}
use Rattle.std.specs.List.{sum_by}
use Rattle.std.proofs.lemmas.List.{length-append}
use prog.Atomic.{either}
use Rattle.hwp_page.specs.hwp_geom.declared.Cpu.{Cpu}
use Rattle.hwp_page.specs.hwp_geom.declared.Who.{Who}
use Rattle.hwp_page.specs.hwp_geom.Limits.{cpu_limit}
use Rattle.hwp_words.specs.Stops.{stopper_of}
use Rattle.hwp_words.proofs.OtherSteps.{stopper_of-stop}
use Rattle.hwp_core_rule.specs.declared.view.InHand.{InHand}
use Rattle.hwp_core_rule.specs.declared.view.Sight.{Sight}
use Rattle.hwp_core_rule.specs.declared.view.View.{View}
use Rattle.hwp_core_rule.specs.Lists.{EachMember, EachListed}
use Rattle.hwp_core_rule.specs.Rule.{FrameRule}
use Rattle.hwp_core_rule.specs.Views.{sighted, stamp_of}
use Rattle.hwp_core_rule.specs.parts.Holdings.{AreOwn, IsPast}
use Rattle.hwp_core_rule.specs.parts.Stops.{EndingsAndStopsStay}
use Rattle.hwp_core_rule.proofs.Keeps.{Keeps}
use Rattle.hwp_core_rule.proofs.Lists.{change, keep, at_map, each-set, each-push, sum-set}
use Rattle.hwp_core_rule.proofs.ShownWords.{explained-stop}
use Rattle.hwp_core_rule.proofs.Sights.{keeps-sight}
use Rattle.hwp_core_rule.specs.declared.shared_word.SharedWord.TheVariants as places
use Rattle.hwp_core_rule.specs.declared.step.Step.TheVariants as steps
use Rattle.hwp_core_rule.proofs.PartKeeps

pub keeps-stop : (cpu : Cpu) → Keeps (steps.Stop cpu)
keeps-stop cpu layout w homes views seat v who content given = arm (w.stop == 0) refl
  where
    u : View
    u = record v { stops = v.stops ++ who ∷ [] }

    me : slice_get views seat ≡ Some v
    me = given.me

    h : FrameRule layout w homes views
    h = given.rule

    own : AreOwn v
    own = h.processors.commands.own seat v me

    stops : List (List Who)
    stops = map (λ (v : View). v.stops) views

    sights : List (List Sight)
    sights = map (λ (v : View). v.sights) views

    bodies : List (List InHand)
    bodies = map (λ (v : View). v.bodies) views

    there : slice_get stops seat ≡ Some v.stops
    there = at_map (λ (v : View). v.stops) views seat v me

    names : stopper_of (cpu.0 + 1) ≡ who.cpu.0 + 1
    names =
        let declared : given.past.1.cpu.0 < layout.cpus = h.processors.processors.declared seat v.parts (at_map (λ (v : View). v.parts) views seat v me) given.past.0 given.past.1 given.past.2 in
        let mine : given.past.1.cpu.0 ≡ who.cpu.0 = ap (λ (c : Cpu). c.0) given.past.3.0 in
        let few : layout.cpus ≤ cpu_limit = given.sound.cpus in
        let asked : cpu.0 ≡ who.cpu.0 = ap (λ (c : Cpu). c.0) given.asks in
        let name : stopper_of (cpu.0 + 1) ≡ cpu.0 + 1 = (stopper_of-stop cpu.0 (omega arith)).0 in
        name ∙ ap (λ (n : ℕ). n + 1) asked

    stopped : w.stop ≡ 0 → EndingsAndStopsStay w.processes (cpu.0 + 1) bodies sights (set stops seat u.stops)
    stopped before = record {
      killed = h.processors.stops.killed;
      ended_stays = h.processors.stops.ended_stays;
      stop_stays = λ i list is j s listed at named. absurd (named (sym (h.processors.stops.stop_stays i list is j s listed at named) ∙ ap stopper_of before));
      one =
          let total : sum_by (λ (l : List Who). length l) (set stops seat u.stops) + length v.stops ≡ sum_by (λ (l : List Who). length l) stops + length u.stops = sum-set (λ (l : List Who). length l) stops seat v.stops u.stops there in
          let longer : length u.stops ≡ length v.stops + 1 = length-append v.stops (who ∷ []) in
          let none : sum_by (λ (l : List Who). length l) stops ≡ min (stopper_of w.stop) 1 = h.processors.stops.one in
          let zero_was : stopper_of w.stop ≡ 0 = ap stopper_of before in
          omega (arith, names);
      named = each-set (EachMember (λ (x : Who). stopper_of (cpu.0 + 1) ≡ x.cpu.0 + 1)) stops seat u.stops
          (each-push (λ (x : Who). stopper_of (cpu.0 + 1) ≡ x.cpu.0 + 1) v.stops who names (nobody seat v.stops there)) nobody;
    }
      where
        nobody : EachListed (λ (x : Who). stopper_of (cpu.0 + 1) ≡ x.cpu.0 + 1) stops
        nobody i list is j x listed =
            let named : stopper_of w.stop ≡ x.cpu.0 + 1 = h.processors.stops.named i list is j x listed in
            let zero_was : stopper_of w.stop ≡ 0 = ap stopper_of before in
            absurd (omega arith)

    arm : (b : Bool) → (w.stop == 0) ≡ b
        → FrameRule layout (record w { stop = either b (cpu.0 + 1) w.stop }) homes (set views seat (cond b u (sighted who places.Stop w.stop v)))
    arm true met = record {
      frames = PartKeeps.same-frames views seat v u me refl h.frames;
      pages = PartKeeps.same-pages views seat v u me refl h.pages;
      histories = PartKeeps.same-histories views seat v u me refl h.histories;
      failures = PartKeeps.same-failures views seat v u me refl h.failures;
      processors = record {
        policies = PartKeeps.kept-policies views seat v u me refl refl refl h.processors.policies;
        stops = keep (λ (v : View). v.bodies) (λ l. EndingsAndStopsStay w.processes (cpu.0 + 1) l (map (λ (v : View). v.sights) (set views seat u)) (map (λ (v : View). v.stops) (set views seat u))) views seat v u me refl
            (keep (λ (v : View). v.sights) (λ l. EndingsAndStopsStay w.processes (cpu.0 + 1) bodies l (map (λ (v : View). v.stops) (set views seat u))) views seat v u me refl
            (change (λ (v : View). v.stops) (EndingsAndStopsStay w.processes (cpu.0 + 1) bodies sights) views seat u (stopped (eqb-true w.stop 0 met))));
        processors = PartKeeps.kept-processors views seat v u me refl h.processors.processors;
        commands = PartKeeps.kept-commands views seat v u me (record { made = own.made; marks = own.marks; sights = own.sights; lengths = own.lengths; settings = own.settings; stops = each-push (IsPast v.parts) v.stops who given.past own.stops }) h.processors.commands;
      };
    }
    arm false differs = keeps-sight layout w homes views seat v who places.Stop w.stop me given.past (explained-stop layout w homes views (stamp_of who v)) h
