-- A processor at opening can begin a task.
use Rattle.std.proofs.Common.{◌≡◌, ℕ, zero, suc, ◌<◌, ◌≤◌, Some, length, map, slice_get, refl, ap, arith}
use Rattle.std.proofs.lemmas.Option.{none-some, same_Some, get_or_from_slice_get}
use Rattle.hwp_core.specs.hwp_geom.declared.Layout.{Layout}
use Rattle.hwp_core.specs.hwp_geom.declared.Who.{Who}
use Rattle.hwp_core.specs.hwp_core_rule.declared.Part.{Part}
use Rattle.hwp_core.specs.hwp_core_rule.Opening.{below, opening, opening_view}
use Rattle.hwp_core.proofs.of_hwp_core_rule.Lists.{at_map}
use Rattle.hwp_core.proofs.of_hwp_core_rule.WordsOpen.{below-at}
use Rattle.hwp_core.specs.hwp_core_rule.Boards.{view_of}
use Rattle.hwp_core.specs.hwp_core_rule.Calls.{IsOnTurn}
use Rattle.hwp_core.specs.Holds as holds
use Rattle.hwp_evict.specs.Takes as takes

pub view-open : (layout : Layout) (c : ℕ) → c < layout.cpus → view_of (opening layout) c ≡ opening_view c
view-open layout c less = get_or_from_slice_get (map opening_view (below layout.cpus)) c (opening_view c) (opening_view c) (at_map opening_view (below layout.cpus) c c (below-at layout.cpus c less))

later-open : (who : Who) (i : ℕ) (p : Part) → slice_get (opening_view who.cpu.0).parts i ≡ Some p → p.latest ≤ who.seq
later-open who zero p e = let none : 0 ≡ p.latest = ap (λ (q : Part). q.latest) (same_Some (record { cpu = who.cpu; latest = 0 }) p e) in omega arith
later-open who (suc i) p e = absurd (none-some p e)

pub on-turn-open : (who : Who) → IsOnTurn (opening_view who.cpu.0) who
on-turn-open who = record {
  turn = record { part = (0, record { cpu = who.cpu; latest = 0 }, refl, (refl, omega arith)) };
  begins = λ i p e same less. refl;
  later = λ i p e same. later-open who i p e;
}

-- a frame can be taken
pub take-open : (layout : Layout) (who : Who) → takes.Fits layout (opening_view who.cpu.0) (takes.begin who)
take-open layout who = record { on_turn = on-turn-open who; at = (omega arith, omega arith) }

-- a page can be held
pub hold-open : (layout : Layout) (who : Who) → 0 < length layout.pages → holds.Fits layout (opening_view who.cpu.0) (holds.begin who (record { 0 = 0 }))
hold-open layout who page = record { on_turn = on-turn-open who; page = page; at = refl }
