-- Processors that are finished have served their commands, whatever led them there.
use Rattle.std.proofs.Common.{◌≡◌, ℕ, zero, suc, ◌<◌, List, [], ◌∷◌, Option, Some, None, slice_get, refl, sym, ap, ◌∙◌, subst, arith}
use Rattle.std.proofs.lemmas.Option.{none-some, same_Some, slice_get_within}
use Rattle.hwp_top_report.specs.hwp_geom.declared.Cpu.{Cpu}
use Rattle.hwp_top_report.specs.hwp_geom.declared.Layout.{Layout}
use Rattle.hwp_top_report.specs.hwp_page.History.{BodyValue}
use Rattle.hwp_top_report.specs.hwp_core_rule.declared.State.{State}
use Rattle.hwp_top_report.specs.hwp_core_rule.Rule.{Holds}
use Rattle.hwp_top_report.proofs.of_hwp_core_rule.Lists.{at_map}
use Rattle.hwp_top_report.specs.hwp_core_rule.declared.Turn.{Turn}
use Rattle.hwp_top_report.specs.hwp_core_rule.Boards.{AreSeated, view_of}
use Rattle.hwp_top_words.specs.hwp_script_read.declared.Command.{Command}
use Rattle.hwp_top_words.specs.hwp_script_read.declared.Script.{Script}
use Rattle.hwp_top_words.specs.hwp_script_read.hwp_script_words.Valid.{IsValid}
use Rattle.hwp_top_report.specs.hwp_plain.Order.{cpu_of}
use Rattle.hwp_top_report.proofs.of_hwp_law_served.Homes.{there-is}
use Rattle.hwp_top_report.specs.hwp_cpu_row.declared.Row.{Row}
use Rattle.hwp_top_report.specs.hwp_law_served.Rows.{lines_from}
use Rattle.hwp_top_report.specs.hwp_law_served.Runs.{HaveServed}
use Rattle.hwp_top_report.specs.hwp_law_served.Served.{HasServed}
use Rattle.hwp_cpu.specs.declared.Processor.{Processor}
use Rattle.hwp_cpu.specs.Processors.{AreFinished, Next, bare}
use Rattle.hwp_cpu.specs.Serving.{Fits}
use Rattle.hwp_cpu.proofs.Ends.{next-keeps, served-of}
use Rattle.hwp_top_report.specs.Closing.{lines_of_all}
use Rattle.hwp_top_report.specs.Finishes.{own_seat}
use Rattle.hwp_top.specs.Runs.{AreAtBeginning}

-- a processor has its number and its commands
pub record Keeps (script : Script) (cpu : ℕ) (p : Processor) : Type 0 where
  pub cpu_is : p.cpu ≡ cpu_of cpu
  pub listed : slice_get script.lists cpu ≡ Some p.commands

pub begins-kept : (script : Script) (tasks : List Processor) → IsValid script → AreAtBeginning script tasks → (cpu : ℕ) (p : Processor) → slice_get tasks cpu ≡ Some p → Keeps script cpu p
begins-kept script tasks valid begin cpu p at =
    let within = slice_get_within tasks cpu p at in
    let list = there-is script.lists cpu (omega (arith, within, begin.one_each)) in
    let first = begin.each (cpu_of cpu) list.0 p list.1 at in
    record { cpu_is = first.cpu_is; listed = list.1 ∙ ap (λ (l : List Command). Some l) (sym first.commands_are) }

pub next-kept : (script : Script) (layout : Layout) (cpu : ℕ) (p q : Processor) (found : ℕ) (got : Option BodyValue) (turn : Turn) → Next layout (bare p) found got q turn → Keeps script cpu p → Keeps script cpu q
next-kept script layout cpu p q found got turn follows keeps =
    let next = next-keeps layout p q found got turn follows in
    record { cpu_is = next.0 ∙ keeps.cpu_is; listed = keeps.listed ∙ ap (λ (l : List Command). Some l) (sym next.1) }

-- the processor whose rows these are
paired : (ps : List Processor) (rows : List (List Row)) (i : ℕ) (own : List Row) → AreFinished ps rows → slice_get rows i ≡ Some own → (p : Processor) × (slice_get ps i ≡ Some p) × ((own ≡ p.rows.items) × (p.course ≡ None))
paired [] [] i own are there = absurd (none-some own there)
paired [] (r ∷ rs) i own are there = absurd are
paired (p ∷ ps) [] i own are there = absurd are
paired (p ∷ ps) (r ∷ rs) zero own are there = (p, refl, (sym (same_Some r own there) ∙ are.0.0, are.0.1))
paired (p ∷ ps) (r ∷ rs) (suc i) own are there = paired ps rs i own are.1 there

-- one that is finished has no command left
pub finished-over : (ps : List Processor) (rows : List (List Row)) (i : ℕ) (p : Processor) → AreFinished ps rows → slice_get ps i ≡ Some p → p.course ≡ None
finished-over [] rows i p are at = absurd (none-some p at)
finished-over (q ∷ qs) [] i p are at = absurd are
finished-over (q ∷ qs) (r ∷ rs) zero p are at = subst (λ (x : Processor). x.course ≡ None) (same_Some q p at) are.0.1
finished-over (q ∷ qs) (r ∷ rs) (suc i) p are at = finished-over qs rs i p are.1 at

pub served-kept : (script : Script) → IsValid script → (state : State) (ps : List Processor) → Holds script.layout state → AreSeated script.layout state own_seat
    → ((cpu : ℕ) (p : Processor) → slice_get ps cpu ≡ Some p → Keeps script cpu p × Fits script.layout (view_of state cpu) p) → (rows : List (List Row)) → AreFinished ps rows → HaveServed script own_seat state rows (lines_of_all rows)
served-kept script valid state ps holds seated kept rows finished cpu list own list_is own_is =
    let pair = paired ps rows cpu.0 own finished own_is in
    let p = pair.0 in
    let both = kept cpu.0 p pair.1 in
    let inside : p.cpu.0 < script.layout.cpus = subst (λ (c : Cpu). c.0 < script.layout.cpus) (sym both.0.cpu_is) (subst (λ (n : ℕ). cpu.0 < n) valid.one_each (slice_get_within script.lists cpu.0 list list_is)) in
    let fits : Fits script.layout (view_of state p.cpu.0) p = subst (λ (c : Cpu). Fits script.layout (view_of state c.0) p) (sym both.0.cpu_is) both.1 in
    let served : HasServed script.layout (view_of state p.cpu.0) p.cpu p.commands p.rows.items = served-of script.layout state own_seat holds seated p inside fits pair.2.1 in (
      subst (λ (c : Cpu). HasServed script.layout (view_of state c.0) c list own) both.0.cpu_is
          (subst (λ (l : List Command). HasServed script.layout (view_of state p.cpu.0) p.cpu l own) (same_Some p.commands list (sym both.0.listed ∙ list_is))
          (subst (HasServed script.layout (view_of state p.cpu.0) p.cpu p.commands) (sym pair.2.0) served)),
      at_map (lines_from 0) rows cpu.0 own own_is,
    )
