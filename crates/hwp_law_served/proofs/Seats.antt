-- Which view is a processor's: that of its seat alone.
use Rattle.std.proofs.Common.{◌≡◌, ℕ, ◌<◌, Some, map, slice_get, sym, subst}
use Rattle.hwp_law.specs.hwp_geom.declared.Cpu.{Cpu}
use Rattle.hwp_law.specs.hwp_geom.declared.Layout.{Layout}
use Rattle.hwp_law.specs.hwp_geom.declared.Who.{Who}
use Rattle.hwp_plain.specs.hwp_core_rule.declared.Part.{Part}
use Rattle.hwp_plain.specs.hwp_core_rule.declared.State.{State}
use Rattle.hwp_plain.specs.hwp_core_rule.declared.View.{View}
use Rattle.hwp_plain.specs.hwp_core_rule.Rule.{Holds}
use Rattle.hwp_plain.specs.hwp_core_rule.parts.Holdings.{IsPast}
use Rattle.hwp_plain.proofs.of_hwp_core_rule.Lists.{at_map}
use Rattle.hwp_plain.proofs.of_hwp_core_rule.NotLater.{one-view}
use Rattle.hwp_plain.specs.hwp_core_rule.Boards.{AreSeated, view_of}

-- a view that has come to a command is at the place of its processor's seat
pub seat-place : (layout : Layout) (seat : Cpu → ℕ) (last : State) → Holds layout last → AreSeated layout last seat → (i : ℕ) (v : View) (who : Who) → slice_get last.views i ≡ Some v → IsPast v.parts who → (who.cpu.0 < layout.cpus) × (i ≡ seat who.cpu)
seat-place layout seat last holds seated i v who view past =
    let rule = holds.rule.processors.processors in
    let p : Part = past.1 in
    let inside : p.cpu.0 < layout.cpus = rule.declared i v.parts (at_map (λ (x : View). x.parts) last.views i v view) past.0 p past.2 in
    let own = seated.own p.cpu inside in
    let same : i ≡ seat p.cpu = one-view layout (map (λ (x : View). x.parts) last.views) rule i (seat p.cpu) past.0 own.0 v.parts (view_of last (seat p.cpu)).parts p own.1
    (at_map (λ (x : View). x.parts) last.views i v view) (at_map (λ (x : View). x.parts) last.views (seat p.cpu) (view_of last (seat p.cpu)) (seated.there p.cpu inside)) past.2 own.2 (sym own.3) in
    subst (λ (c : Cpu). (c.0 < layout.cpus) × (i ≡ seat c)) past.3.0 (inside, same)
