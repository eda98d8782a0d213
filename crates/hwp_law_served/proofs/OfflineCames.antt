-- What came of a frame that a command `soft` itself took out of use, or was to, is what may come of it beside another command.
use Rattle.std.proofs.Common.{Option}
use Rattle.hwp_law.specs.hwp_geom.declared.Frame.{Frame}
use Rattle.hwp_law.specs.hwp_geom.declared.Layout.{Layout}
use Rattle.hwp_law.specs.hwp_geom.declared.Who.{Who}
use Rattle.hwp_plain.specs.hwp_core_rule.declared.View.{View}
use Rattle.hwp_law.specs.hwp_report_text.Offlines.{offline_answer}
use Rattle.hwp_law.specs.hwp_report_text.declared.OfflineResult.{OfflineResult}
use Rattle.hwp_law.specs.hwp_report_text.declared.OfflineResult.TheVariants as results
use Rattle.hwp_soft.specs.hwp_soft_move.Seizes.{IsUsers}
use Rattle.hwp_cpu_row.specs.declared.FrameChange.{FrameChange}
use Rattle.hwp_law_served.specs.Causes.{IsOfflineCaused}
use Rattle.hwp_law_served.specs.Offlinings.{IsOfflineServed}

pub came-of : (layout : Layout) (view : View) (who : Who) (frame : Frame) (own : Option FrameChange) (result : OfflineResult) → IsUsers layout frame → IsOfflineCaused layout view who frame own (offline_answer result)
    → IsOfflineServed layout view who frame own result
came-of layout view who frame own (results.Moved other at) users caused = (users, (caused.cycle, caused.own_is), (caused.word, caused.free))
came-of layout view who frame own results.TakenFree users caused = (users, (caused.cycle, caused.own_is))
came-of layout view who frame own results.Already users (found, none) = (users, record { word = found.word; poisoned = found.poisoned; saw = found.saw }, none)
came-of layout view who frame own (results.HasBad mask) users (found, none) = (users, record { page = found.page; some = found.some; saw = found.saw }, none)
came-of layout view who frame own results.NoFrame users (made, saw, none) = (users, saw, none)
came-of layout view who frame own results.Stopped users caused = absurd caused
