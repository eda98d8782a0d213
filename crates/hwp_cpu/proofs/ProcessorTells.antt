-- The class of a processor tells what it holds.
use Rattle.hwp_cpu.proofs.CourseLaws as course-class
use Rattle.std.proofs.Common.{◌≡◌, ◌≢◌, ℕ, ◌≤◌, Option, Some, None}
use Rattle.std.proofs.lemmas.Option.{none-some}
use Rattle.hwp_cpu_row.specs.hwp_geom.declared.Frame.{Frame}
use Rattle.hwp_cpu_row.specs.hwp_geom.declared.Layout.{Layout}
use Rattle.hwp_cpu_row.specs.hwp_core_rule.declared.View.{View}
use Rattle.hwp_cpu_row.specs.hwp_core_rule.Classes.{TellsClass}
use Rattle.hwp_cpu_row.specs.hwp_core_rule.Ranks.{HasFrame, HasPage}
use Rattle.hwp_cpu_command.proofs.of_hwp_cpu_control.EmptyHands.{no-frame, no-page}
use Rattle.hwp_cpu.specs.declared.processor.Processor.{Processor}
use Rattle.hwp_cpu.specs.Processors.{claims, claims_of, class, class_of, plan, plan_of}
use Rattle.hwp_cpu.specs.Serving.{Fits, FitsAt, task}
use Rattle.hwp_cpu.specs.declared.course.Course.{Course}
use Rattle.hwp_law_served.specs.hwp_soft.declared.soft.SoftAt.TheVariants as at

pub tells : TellsClass task
tells = record { frame = frame; page = page; claim = claim }
  where
    frame : (layout : Layout) (view : View) (p : Processor) → Fits layout view p → HasFrame view → (class p ≡ 1) × (plan p ≢ None)
    frame layout view p fits has = which p.course fits.at
      where
        which : (x : Option Course) → FitsAt layout view p.cpu p.commands p.rows.items p.local x → (class_of x ≡ 1) × (plan_of x ≢ None)
        which (Some c) at = course-class.tells.frame layout view c at.0 has
        which None at = absurd (no-frame view at.hand_is has)

    page : (layout : Layout) (view : View) (p : Processor) → Fits layout view p → HasPage view → (class p ≤ 2) × (plan p ≢ None)
    page layout view p fits has = which p.course fits.at
      where
        which : (x : Option Course) → FitsAt layout view p.cpu p.commands p.rows.items p.local x → (class_of x ≤ 2) × (plan_of x ≢ None)
        which (Some c) at = course-class.tells.page layout view c at.0 has
        which None at = absurd (no-page view at.hand_is has)

    claim : (layout : Layout) (view : View) (p : Processor) (f : Frame) (cycle : ℕ) → Fits layout view p → claims p ≡ Some (f, cycle) → (class p ≤ 3) × (plan p ≢ None)
    claim layout view p f cycle fits has = which p.course fits.at has
      where
        which : (x : Option Course) → FitsAt layout view p.cpu p.commands p.rows.items p.local x → claims_of x ≡ Some (f, cycle) → (class_of x ≤ 3) × (plan_of x ≢ None)
        which (Some c) at is = course-class.tells.claim layout view c f cycle at.0 is
        which None at is = absurd (none-some (f, cycle) is)
