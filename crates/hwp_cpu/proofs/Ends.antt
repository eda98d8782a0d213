-- A processor fits at its beginning, stays the processor that it is, and has served its commands at its end.
use Rattle.std.specs.Arc.{arc_value}
use Rattle.std.proofs.Common.{◌≡◌, ℕ, ◌<◌, ◌≤◌, ◌⊎◌, inl, inr, List, [], Option, Some, None, length, map, option_map, sym, ap, ◌∙◌, subst, arith}
use Rattle.std.proofs.lemmas.Bool.{cases_lt}
use Rattle.std.proofs.lemmas.List.{get_or_past, length-map}
use Rattle.std.proofs.lemmas.Option.{get_or_from_slice_get}
use Rattle.hwp_cpu_row.specs.hwp_geom.declared.Cpu.{Cpu}
use Rattle.hwp_cpu_row.specs.hwp_geom.declared.Layout.{Layout}
use Rattle.hwp_cpu_row.specs.hwp_page.History.{BodyValue}
use Rattle.hwp_cpu_row.specs.hwp_script_words.declared.Command.{Command}
use Rattle.hwp_cpu_row.specs.hwp_report_text.declared.Answer.{Answer}
use Rattle.hwp_cpu_row.specs.declared.Row.{Row}
use Rattle.hwp_cpu_row.specs.declared.Local.{Local}
use Rattle.hwp_cpu_row.specs.hwp_core_rule.declared.State.{State}
use Rattle.hwp_cpu_row.specs.hwp_core_rule.declared.View.{View}
use Rattle.hwp_cpu_row.specs.hwp_core_rule.Opening.{below, opening, opening_view}
use Rattle.hwp_cpu_row.specs.hwp_core_rule.Rule.{Holds}
use Rattle.hwp_cpu_row.proofs.of_hwp_core_rule.Lists.{at_map}
use Rattle.hwp_cpu_row.proofs.of_hwp_core_rule.WordsOpen.{below-at, length-below}
use Rattle.hwp_cpu_row.specs.hwp_core_rule.declared.Turn.{Turn}
use Rattle.hwp_cpu_row.specs.hwp_core_rule.Boards.{AreSeated, view_of}
use Rattle.hwp_law_served.specs.Served.{HasServed}
use Rattle.hwp_cpu.specs.declared.processor.Processor.{Processor}
use Rattle.hwp_cpu.specs.Processors.{AreCommands, AtBeginning, Follows, Next, NextOf, bare, who}
use Rattle.hwp_cpu.specs.Serving.{Fits, FitsAt, KeepsGuests}
use Rattle.hwp_cpu.proofs.ProcessorOpens.{begun}
use Rattle.hwp_cpu.proofs.ProcessorServes.{served}
use Rattle.hwp_cpu.proofs.ProcessorLaws.{own-cpu}
use Rattle.hwp_cpu.specs.declared.course.Course.{Course}
use Rattle.hwp_law_served.specs.hwp_soft.declared.soft.SoftAt.TheVariants as at
use Rattle.hwp_cpu.specs.Courses as courses
use Rattle.hwp_cpu_row.specs.hwp_geom.Layout.{IsSound}
use Rattle.hwp_cpu.proofs.GuestsKept.{guests-begun}
use Rattle.std.specs.List.{list_any}
use Rattle.hwp_cpu_row.specs.hwp_law.Commands.{is_watch}

-- ---- the beginning

-- at opening each seat knows what a processor of its number knows
opening-view : (layout : Layout) (i : ℕ) → view_of (opening layout) i ≡ opening_view i
opening-view layout i = which (cases_lt i layout.cpus)
  where
    which : (i < layout.cpus) ⊎ (layout.cpus ≤ i) → view_of (opening layout) i ≡ opening_view i
    which (inl inside) = get_or_from_slice_get (map opening_view (below layout.cpus)) i (opening_view i) (opening_view i) (at_map opening_view (below layout.cpus) i i (below-at layout.cpus i inside))
    which (inr past) = get_or_past (map opening_view (below layout.cpus)) i (opening_view i) (let all : length (map opening_view (below layout.cpus)) ≡ layout.cpus = length-map (below layout.cpus) opening_view ∙ length-below layout.cpus in omega arith)

pub opening-fits : (layout : Layout) (cpu : Cpu) (list : List Command) (p : Processor) → AtBeginning layout cpu list p → Fits layout (view_of (opening layout) cpu.0) p
opening-fits layout cpu list p at = subst (λ (v : View). Fits layout v p) (sym (opening-view layout cpu.0)) (record {
  ready = at.ready;
  layout_is = at.layout_is;
  at = subst (λ (c : Cpu). FitsAt layout (opening_view cpu.0) c p.commands p.rows.items p.local p.course) (sym at.cpu_is)
      (subst (λ (l : List Command). FitsAt layout (opening_view cpu.0) cpu l p.rows.items p.local p.course) (sym at.commands_are)
      (subst (λ (l : List Row). FitsAt layout (opening_view cpu.0) cpu list l p.local p.course) (sym at.no_row)
      (subst (λ (l : Local). FitsAt layout (opening_view cpu.0) cpu list [] l p.course) (sym at.local_is)
      (begun layout cpu list commands at.first at.is_first p.course at.begins))));
  guests = subst (λ (c : Cpu). KeepsGuests layout (opening_view cpu.0) c p.commands p.rows.items p.local.guests p.course) (sym at.cpu_is)
      (subst (λ (l : List Command). KeepsGuests layout (opening_view cpu.0) cpu l p.rows.items p.local.guests p.course) (sym at.commands_are)
      (subst (λ (l : List Row). KeepsGuests layout (opening_view cpu.0) cpu list l p.local.guests p.course) (sym at.no_row)
      (subst (λ (l : Local). KeepsGuests layout (opening_view cpu.0) cpu list [] l.guests p.course) (sym at.local_is)
      (guests-begun layout cpu list sound (opening_view cpu.0) (list_any is_watch list) at.first at.is_first p.course at.begins))));
})
  where
    sound : IsSound layout
    sound = subst IsSound at.layout_is at.ready.sound

    commands : AreCommands layout cpu list
    commands = subst (λ (l : Layout). AreCommands l cpu list) at.layout_is (subst (λ (c : Cpu). AreCommands (arc_value p.layout) c list) at.cpu_is (subst (AreCommands (arc_value p.layout) p.cpu) at.commands_are at.ready.commands))

-- its commands are those of the processor
fits-own : (layout : Layout) (view : View) (p : Processor) → Fits layout view p → (who p).cpu ≡ p.cpu
fits-own layout view p fits = own-cpu layout view p.cpu p.commands p.rows.items p.local p.course fits.at

pub opening-own : (layout : Layout) (cpu : Cpu) (list : List Command) (p : Processor) → AtBeginning layout cpu list p → (who p).cpu ≡ cpu
opening-own layout cpu list p at = fits-own layout (view_of (opening layout) cpu.0) p (opening-fits layout cpu list p at) ∙ at.cpu_is

-- ---- a turn

pub next-keeps : (layout : Layout) (p after : Processor) (found : ℕ) (got : Option BodyValue) (turn : Turn) → Next layout (bare p) found got after turn → (after.cpu ≡ p.cpu) × (after.commands ≡ p.commands)
next-keeps layout p after found got turn next = which (option_map courses.bare p.course) next
  where
    by : (k : Course) (t : Turn) (o : Option Answer) → Follows (bare p) k o t after turn → (after.cpu ≡ p.cpu) × (after.commands ≡ p.commands)
    by k t None (is, turn_is) = (ap (λ (x : Processor). x.cpu) is, ap (λ (x : Processor). x.commands) is)
    by k t (Some a) (answered, turn_is) = (answered.cpu_is, answered.commands_are)

    which : (x : Option Course) → NextOf layout (bare p) x found got after turn → (after.cpu ≡ p.cpu) × (after.commands ≡ p.commands)
    which (Some c) so = by so.0 so.1 (courses.answer so.0) so.3
    which None so = (ap (λ (x : Processor). x.cpu) so.0, ap (λ (x : Processor). x.commands) so.0)

-- ---- the end

pub served-of : (layout : Layout) (last : State) (seat : Cpu → ℕ) → Holds layout last → AreSeated layout last seat → (p : Processor) → p.cpu.0 < layout.cpus
    → Fits layout (view_of last (seat p.cpu)) p → p.course ≡ None → HasServed layout (view_of last (seat p.cpu)) p.cpu p.commands p.rows.items
served-of layout last seat holds seated p inside fits none = record {
  acted = served layout last seat holds seated p.cpu inside p.commands p.rows.items p.local (subst (FitsAt layout (view_of last (seat p.cpu)) p.cpu p.commands p.rows.items p.local) none fits.at);
  guests = fits.guests.rows_are;
}
