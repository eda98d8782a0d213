-- What a command tells of the events of its machine checks, and what it leaves in the banks of its processor.
use Rattle.std.specs.Prelude.{◌≡◌, ◌⊎◌, ℕ, ◌+◌, ◌-◌, ◌≤◌, Bool, true, false, List, [], ◌∷◌, ◌++◌, Option, None, Some, MatchBool, length}
use Rattle.hwp_law.specs.hwp_geom.declared.Frame.{Frame}
use Rattle.hwp_law.specs.hwp_geom.declared.Layout.{Layout}
use Rattle.hwp_law.specs.hwp_geom.declared.Mode.{Mode}
use Rattle.hwp_law.specs.hwp_geom.declared.Mode.TheVariants as modes
use Rattle.hwp_law.specs.hwp_geom.declared.Thread.{Thread}
use Rattle.hwp_law.specs.hwp_geom.declared.VSlot.{VSlot}
use Rattle.hwp_law.specs.hwp_geom.declared.Who.{Who}
use Rattle.hwp_law.specs.hwp_banks.declared.Origin.{Origin}
use Rattle.hwp_law.specs.hwp_banks.declared.Origin.TheVariants as origins
use Rattle.hwp_plain.specs.hwp_core_rule.declared.View.{View}
use Rattle.hwp_plain.specs.hwp_core_rule.Known.{such_deeds}
use Rattle.hwp_law.specs.hwp_script_words.declared.Command.{Command}
use Rattle.hwp_law.specs.hwp_script_words.declared.Command.TheVariants as commands
use Rattle.hwp_law.specs.hwp_report_text.declared.Answer.{Answer}
use Rattle.hwp_law.specs.hwp_report_text.declared.Answer.TheVariants as answers
use Rattle.hwp_law.specs.hwp_banks.Banks.{Banks, empty_banks, raw_event}
use Rattle.hwp_law.specs.Commands.{arrival_of, is_check}
use Rattle.hwp_law.specs.hwp_severity.declared.Arrival.{Arrival}
use Rattle.hwp_law.specs.Events.{logged_if_done}
use Rattle.hwp_cpu_row.specs.declared.Row.{Row}
use Rattle.hwp_cpu_row.specs.hwp_claim.declared.EventOutcome.{EventOutcome}
use Rattle.hwp_cpu_row.specs.hwp_claim.Checks.{AreChecks, Check, IsActedOn, left_by, lines_of}
use Rattle.hwp_law_served.specs.Copied.{IsCopyTold}
use Rattle.hwp_scrub.specs.Visits as scrubs
use Rattle.hwp_scrub.specs.Visits.{AreVisits, Find, IsBadFind, Visit, left_by_bad}

-- an access met as many machine checks as it made entries of such, one after another
pub record IsAccessTold (layout : Layout) (view : View) (who : Who) (thread : Thread) (line : ℕ) (origin : Origin) (mode : Mode) (before : Banks) (told : List EventOutcome) (after : Banks) : Type 0 where
  pub checks : List Check
  pub count : length checks ≡ length (such_deeds is_check who view)
  pub are : AreChecks layout view who thread line origin mode before checks
  pub told_is : told ≡ lines_of checks
  pub after_is : after ≡ left_by before checks

-- nothing is told, and the banks stay so
abbrev pub IsUntold : List EventOutcome → Banks → Banks → Type 0
IsUntold told before after = (told ≡ []) × (after ≡ before)

-- a `raise` that is answered so, with these lines, is a machine check
abbrev pub is_raised : Answer → List EventOutcome → Bool
is_raised (answers.Raised n) told = true
is_raised answers.Stopped (t ∷ ts) = true
is_raised _ told = false

abbrev pub IsRaiseTold : Layout → View → Who → Option Thread → Arrival → Answer → Banks → List EventOutcome → Banks → Type 0
IsRaiseTold layout view who thread how answer before told after =
    MatchBool (is_raised answer told) (IsActedOn layout view who thread how before told × (after ≡ empty_banks)) (IsUntold told before after)

-- a scrub that went to its end visited each of its frames
pub record HasScrubbed (layout : Layout) (view : View) (who : Who) (first last : Frame) (before : Banks) (told : List EventOutcome) (after : Banks) : Type 0 where
  pub visits : List Visit
  pub visited : AreVisits layout view who first.0 before visits
  pub all : length visits ≡ last.0 + 1 - first.0
  pub told_is : told ≡ scrubs.lines_of visits
  pub after_is : after ≡ scrubs.left_by before visits

-- the machine check of a frame's bad line stopped the machine, after visits of the frames before
pub record IsCutShort (layout : Layout) (view : View) (who : Who) (first last : Frame) (before : Banks) (told : List EventOutcome) (after : Banks) : Type 0 where
  pub visits : List Visit
  pub visited : AreVisits layout view who first.0 before visits
  pub inside : first.0 + length visits ≤ last.0
  pub bad : Find
  pub found : IsBadFind layout view who (record { 0 = first.0 + length visits }) (scrubs.left_by before visits) bad
  pub told_is : told ≡ scrubs.lines_of visits ++ bad.lines
  pub after_is : after ≡ left_by_bad bad.line (scrubs.left_by before visits)

-- one that is answered otherwise looked at no frame, or was cut short
abbrev pub IsScrubTold : Layout → View → Who → Frame → Frame → Answer → Banks → List EventOutcome → Banks → Type 0
IsScrubTold layout view who first last (answers.Scrubbed n) before told after = HasScrubbed layout view who first last before told after
IsScrubTold layout view who first last answer before told after = IsUntold told before after ⊎ IsCutShort layout view who first last before told after

-- what a command tells that is answered so
abbrev pub AreToldBy : Layout → View → Who → Command → Answer → Banks → List EventOutcome → Banks → Type 0
AreToldBy layout view who (commands.Load thread slot line) answer before told after = IsAccessTold layout view who thread line origins.Access modes.User before told after
AreToldBy layout view who (commands.Fetch thread slot line) answer before told after = IsAccessTold layout view who thread line origins.Fetch modes.User before told after
AreToldBy layout view who (commands.KLoad thread slot line) answer before told after = IsAccessTold layout view who thread line origins.Access modes.Kernel before told after
AreToldBy layout view who (commands.Store thread slot line word) answer before told after = IsAccessTold layout view who thread line origins.Access modes.User before told after
AreToldBy layout view who (commands.RaiseUser thread ripv eipv) answer before told after = IsRaiseTold layout view who (Some thread) (arrival_of (commands.RaiseUser thread ripv eipv)) answer before told after
AreToldBy layout view who (commands.RaiseKernel ripv eipv) answer before told after = IsRaiseTold layout view who None (arrival_of (commands.RaiseKernel ripv eipv)) answer before told after
AreToldBy layout view who (commands.Scrub first last) answer before told after = IsScrubTold layout view who first last answer before told after
AreToldBy layout view who (commands.Log status addr misc) answer before told after = (told ≡ []) × (after ≡ logged_if_done (Some answer) (raw_event status addr misc) before)
AreToldBy layout view who command answer before told after = IsUntold told before after

-- of a command that copies a page first, from this translation: a store
abbrev pub AreToldCopying : Layout → VSlot → View → Who → Command → Banks → List EventOutcome → Banks → Type 0
AreToldCopying layout from view who (commands.Store thread to line word) before told after = IsCopyTold layout view who thread from to line word before told after
AreToldCopying layout from view who command before told after = ⊥

-- and of one that copies from the translation, if from one
abbrev pub AreToldWith : Layout → Option VSlot → View → Who → Command → Answer → Banks → List EventOutcome → Banks → Type 0
AreToldWith layout None view who command answer before told after = AreToldBy layout view who command answer before told after
AreToldWith layout (Some from) view who command answer before told after = AreToldCopying layout from view who command before told after

abbrev pub IsRowTold : Layout → Option VSlot → View → Who → Command → Banks → Row → Banks → Type 0
IsRowTold layout copied view who command before row after = AreToldWith layout copied view who command row.answer before row.told after
