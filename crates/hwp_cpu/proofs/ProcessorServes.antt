-- A processor whose commands are all answered has served them.
use Rattle.std.proofs.Common.{◌≡◌, ℕ, ◌<◌, ◌≤◌, ◌⊎◌, inl, inr, List, Some, length, map, slice_get, sym, ap, ◌∙◌, subst}
use Rattle.std.proofs.lemmas.Bool.{cases_lt}
use Rattle.std.proofs.lemmas.Option.{none-some}
use Rattle.hwp_cpu_row.specs.hwp_geom.declared.Cpu.{Cpu}
use Rattle.hwp_cpu_row.specs.hwp_geom.declared.Layout.{Layout}
use Rattle.hwp_cpu_row.specs.hwp_script_words.declared.Command.{Command}
use Rattle.hwp_cpu_row.specs.declared.Row.{Row}
use Rattle.hwp_cpu_row.specs.declared.Local.{Local}
use Rattle.hwp_cpu_row.specs.hwp_core_rule.declared.Made.{Made}
use Rattle.hwp_cpu_row.specs.hwp_core_rule.declared.Part.{Part}
use Rattle.hwp_cpu_row.specs.hwp_core_rule.declared.State.{State}
use Rattle.hwp_cpu_row.specs.hwp_core_rule.declared.View.{View}
use Rattle.hwp_cpu_row.specs.hwp_core_rule.Lists.{EachMember}
use Rattle.hwp_cpu_row.specs.hwp_core_rule.Rule.{Holds}
use Rattle.hwp_cpu_row.proofs.of_hwp_core_rule.Lists.{at_map}
use Rattle.hwp_cpu_row.proofs.of_hwp_core_rule.NotLater.{one-view}
use Rattle.hwp_cpu_row.specs.hwp_core_rule.Boards.{AreSeated, view_of}
use Rattle.hwp_cpu_row.specs.hwp_core_rule.Hands.{Hand}
use Rattle.hwp_cpu_row.specs.hwp_core_rule.Known.{HasMadeNone}
use Rattle.hwp_law_served.specs.Served.{HasActed, IsBegun}
use Rattle.hwp_law_served.proofs.RunEnds.{of-deeds}
use Rattle.hwp_law_served.specs.Rows.{at_number}
use Rattle.hwp_cpu.specs.Serving.{IsDone}

module _ (layout : Layout) (last : State) (seat : Cpu → ℕ) (holds : Holds layout last) (seated : AreSeated layout last seat) (cpu : Cpu) (inside : cpu.0 < layout.cpus) where
  abbrev view : View
  view = view_of last (seat cpu)

  there : slice_get last.views (seat cpu) ≡ Some view
  there = seated.there cpu inside

  -- the seat is of this processor alone
  one-cpu : (k : ℕ) (p : Part) → slice_get view.parts k ≡ Some p → p.cpu ≡ cpu
  one-cpu k p part =
      let rule = holds.rule.processors.processors in
      let within : p.cpu.0 < layout.cpus = rule.declared (seat cpu) view.parts (at_map (λ (v : View). v.parts) last.views (seat cpu) view there) k p part in
      let own = seated.own p.cpu within in
      let same : seat cpu ≡ seat p.cpu = one-view layout (map (λ (v : View). v.parts) last.views) rule (seat cpu) (seat p.cpu) k own.0 view.parts (view_of last (seat p.cpu)).parts p own.1
      (at_map (λ (v : View). v.parts) last.views (seat cpu) view there) (at_map (λ (v : View). v.parts) last.views (seat p.cpu) (view_of last (seat p.cpu)) (seated.there p.cpu within)) part own.2 (sym own.3) in
      sym (seated.apart cpu p.cpu inside within same)

  -- each entry is of a command that was begun
  begun : (n : ℕ) → ((k : ℕ) → n ≤ k → HasMadeNone view (at_number cpu k)) → EachMember (IsBegun cpu n) view.made
  begun n none i m at = (own, which (cases_lt m.entry.who.seq n))
    where
      own : m.entry.who.cpu ≡ cpu
      own = let past = (holds.rule.processors.commands.own (seat cpu) view there).made i m at in sym past.3.0 ∙ one-cpu past.0 past.1 past.2

      by : m.entry.who ≡ at_number cpu m.entry.who.seq
      by = λ t. record { cpu = own t; seq = m.entry.who.seq }

      which : (m.entry.who.seq < n) ⊎ (n ≤ m.entry.who.seq) → m.entry.who.seq < n
      which (inl less) = less
      which (inr past) = absurd (of-deeds (λ (x : Made). ⊥) view (at_number cpu m.entry.who.seq) i m (subst (EachMember (λ (x : Made). ⊥)) (sym (none m.entry.who.seq past)) (λ j x e. none-some x e)) at by)

  pub served : (list : List Command) (rows : List Row) (local : Local) → IsDone layout view cpu list rows local → HasActed layout view cpu list rows
  served list rows local done = record {
    count = done.all;
    banks = local.banks;
    rows_are = done.serves.rows_are;
    made = begun (length list) done.made;
    marked = done.listed.marked;
    set = done.listed.set;
    policies = done.policies;
    stops = done.stops;
    noted = done.noted;
    spoiled = done.spoiled;
    stays = done.serves.stays;
    numbers = done.serves.numbers;
    due = done.serves.due;
    nothing = record {
      refs = ap (λ (h : Hand). h.refs) done.hand_is;
      locks = ap (λ (h : Hand). h.locks) done.hand_is;
      pages = ap (λ (h : Hand). h.pages) done.hand_is;
      reserved = ap (λ (h : Hand). h.reserved) done.hand_is;
      hands = ap (λ (h : Hand). h.hands) done.hand_is;
      owed = done.owed;
      bodies = ap (λ (h : Hand). h.bodies) done.hand_is;
    };
  }
