-- The events of a processor along its commands, what they leave in its banks, and the event lines that tell them.
use Rattle.std.specs.Prelude.{◌≡◌, ℕ, zero, suc, ◌+◌, ◌-◌, ◌≤◌, Bool, true, false, List, [], ◌∷◌, ◌++◌, Option, Some, None, replicate, slice_get, slice_set, IsBitSet, IsSomeAnd, MatchBool}
use Rattle.hwp_script_words.specs.hwp_geom.declared.Cpu.{Cpu}
use Rattle.hwp_script_words.specs.hwp_geom.declared.Frame.{Frame}
use Rattle.hwp_script_words.specs.hwp_geom.declared.Layout.{Layout}
use Rattle.hwp_script_words.specs.hwp_geom.declared.VSlot.{VSlot}
use Rattle.hwp_script_words.specs.hwp_geom.declared.Who.{Who}
use Rattle.hwp_report_text.specs.hwp_banks.declared.Event.{Event}
use Rattle.hwp_report_text.specs.hwp_banks.declared.Origin.{Origin}
use Rattle.hwp_report_text.specs.hwp_banks.declared.Origin.TheVariants as origins
use Rattle.hwp_report_text.specs.hwp_banks.Events.{bank_of, own_event}
use Rattle.hwp_report_text.specs.hwp_page.Orders.{IsEarlier}
use Rattle.hwp_script_words.specs.declared.Command.{Command}
use Rattle.hwp_script_words.specs.declared.Command.TheVariants as commands
use Rattle.hwp_script_words.specs.declared.Script.{Script}
use Rattle.hwp_report_text.specs.declared.Answer.{Answer}
use Rattle.hwp_report_text.specs.declared.Answer.TheVariants as answers
use Rattle.hwp_report_text.specs.declared.EventLine.{EventLine}
use Rattle.hwp_report_text.specs.declared.Report.{Report}
use Rattle.hwp_report_text.specs.hwp_banks.Banks.{Banks, empty_banks, log_in, raw_bank, raw_event}
use Rattle.hwp_law.specs.Checks.{AreLinesOf, IsCheck}
use Rattle.hwp_law.specs.Copies.{copy_checks}
use Rattle.hwp_report_text.specs.hwp_severity.declared.Arrival.{Arrival}
use Rattle.hwp_law.specs.Commands.{arrival_of, command_at, is_check}
use Rattle.hwp_law.specs.Lines.{answer_of, bad_lines_of, events_of, weak_lines_of}
use Rattle.hwp_law.specs.Pairings.{entries_of}

-- the machine made an event of its own at this line of a frame where it is bad, or weak
abbrev pub IsDamaged : Report → Origin → ℕ → ℕ → Type 0
IsDamaged report origins.WeakLine frame line = IsBitSet (weak_lines_of report frame) line
IsDamaged report _ frame line = IsBitSet (bad_lines_of report frame) line

-- the machine checks of accesses to bad lines, to these one after another. Each line is bad in some frame, the page's at that moment, and
-- each check leaves the banks empty.
abbrev pub AreAccessChecks : Script → Report → Who → Arrival → Origin → List ℕ → Banks → List EventLine → Banks → Type 0
AreAccessChecks script report who how origin [] banks lines after = (lines ≡ []) × (after ≡ banks)
AreAccessChecks script report who how origin (line ∷ more) banks lines after =
    (frame : Frame) × (now : List EventLine) × (later : List EventLine) × (lines ≡ now ++ later) × IsDamaged report origin frame.0 line
    × IsCheck script report who how (log_in (bank_of origin) (own_event origin frame line) banks) now × AreAccessChecks script report who how origin more empty_banks later after

-- a frame's bad line that the scrubber met, if it met one, is a machine check, which leaves the banks empty
abbrev pub IsBadFound : Script → Report → Who → Arrival → Frame → Option ℕ → Banks → List EventLine → Banks → Type 0
IsBadFound script report who how frame None banks lines after = (lines ≡ []) × (after ≡ banks)
IsBadFound script report who how frame (Some line) banks lines after =
    IsDamaged report origins.BadLine frame.0 line × (after ≡ empty_banks)
    × IsCheck script report who how (log_in (bank_of origins.BadLine) (own_event origins.BadLine frame line) banks) lines

-- a frame's weak line that the scrubber met, if it met one, is logged in the scrubber's bank, told and taken out at once
abbrev pub IsWeakFound : Script → Report → Who → Arrival → Frame → Option ℕ → Banks → List EventLine → Banks → Type 0
IsWeakFound script report who how frame None banks lines after = (lines ≡ []) × (after ≡ banks)
IsWeakFound script report who how frame (Some line) banks lines after =
    (event : Event) × IsDamaged report origins.WeakLine frame.0 line
    × (slice_get (log_in (bank_of origins.WeakLine) (own_event origins.WeakLine frame line) banks) (bank_of origins.WeakLine) ≡ Some (Some event))
    × AreLinesOf script report who how false ((bank_of origins.WeakLine, event) ∷ []) lines × (after ≡ slice_set banks (bank_of origins.WeakLine) None)

-- the command of a mark of a line, by how it is damaged
abbrev pub marking : Origin → Frame → ℕ → Command
marking origins.WeakLine frame line = commands.Weak frame line
marking _ frame line = commands.Bad frame line

-- a scrub that went to its end met each frame that an earlier command of its processor had marked, at no higher line
abbrev pub MeetsMarked : Script → Report → Who → Origin → Frame → Option ℕ → Type 0
MeetsMarked script report who origin frame met =
    (n line : ℕ) (earlier : Who) → answer_of report who ≡ Some (answers.Scrubbed n) → IsEarlier earlier who → command_at script earlier ≡ Some (marking origin frame line) → IsSomeAnd met (λ (k : ℕ). k ≤ line)

-- the scrubber went over a frame
pub record IsScrubbed (script : Script) (report : Report) (who : Who) (how : Arrival) (frame : Frame) (banks : Banks) (lines : List EventLine) (after : Banks) : Type 0 where
  pub bad : Option ℕ
  pub weak : Option ℕ
  pub bad_lines : List EventLine
  pub weak_lines : List EventLine
  pub between : Banks
  pub all : lines ≡ bad_lines ++ weak_lines
  pub bad_found : IsBadFound script report who how frame bad banks bad_lines between
  pub weak_found : IsWeakFound script report who how frame weak between weak_lines after
  pub met_bad : MeetsMarked script report who origins.BadLine frame bad
  pub met_weak : MeetsMarked script report who origins.WeakLine frame weak

-- the scrubber went over so many frames, from this one on
abbrev pub AreScrubbed : Script → Report → Who → Arrival → ℕ → ℕ → Banks → List EventLine → Banks → Type 0
AreScrubbed script report who how frame zero banks lines after = (lines ≡ []) × (after ≡ banks)
AreScrubbed script report who how frame (suc more) banks lines after =
    (now : List EventLine) × (later : List EventLine) × (between : Banks) × (lines ≡ now ++ later) × IsScrubbed script report who how (record { 0 = frame }) banks now between
    × AreScrubbed script report who how (frame + 1) more between later after

-- a `raise` that was answered so, with these lines, was a machine check
abbrev pub is_raised : Option Answer → List EventLine → Bool
is_raised (Some (answers.Raised n)) lines = true
is_raised (Some answers.Stopped) (line ∷ lines) = true
is_raised _ lines = false

abbrev pub IsRaise : Script → Report → Who → Arrival → Banks → List EventLine → Banks → Type 0
IsRaise script report who how banks lines after =
    MatchBool (is_raised (answer_of report who) lines) (IsCheck script report who how banks lines × (after ≡ empty_banks)) ((lines ≡ []) × (after ≡ banks))

-- a raw event is in its bank once its command is done
abbrev pub logged_if_done : Option Answer → Event → Banks → Banks
logged_if_done (Some answers.Done) event banks = log_in raw_bank event banks
logged_if_done _ event banks = banks

-- the lines that the machine checks of an access met, one after another, by the entries that they left; and those of a store, which copies
-- from this translation, if from one
abbrev pub access_lines : Report → Who → ℕ → List ℕ
access_lines report who line = replicate (entries_of report who is_check) line

abbrev pub store_lines : Layout → Report → Who → Option VSlot → VSlot → ℕ → List ℕ
store_lines layout report who None slot line = access_lines report who line
store_lines layout report who (Some from) slot line = copy_checks layout report who from slot

-- the machine checks of an access are its lines
abbrev pub IsAccessChecked : Script → Report → Who → Arrival → Origin → ℕ → Banks → List EventLine → Banks → Type 0
IsAccessChecked script report who how origin line banks lines after = AreAccessChecks script report who how origin (access_lines report who line) banks lines after

-- the event lines of a command whose machine checks arrive so, and what it leaves in the banks
abbrev pub AreEventsOf : Script → (Who → Option VSlot) → Report → Who → Arrival → Command → Banks → List EventLine → Banks → Type 0
AreEventsOf script copies report who how (commands.Load thread slot line) banks lines after = IsAccessChecked script report who how origins.Access line banks lines after
AreEventsOf script copies report who how (commands.Fetch thread slot line) banks lines after = IsAccessChecked script report who how origins.Fetch line banks lines after
AreEventsOf script copies report who how (commands.KLoad thread slot line) banks lines after = IsAccessChecked script report who how origins.Access line banks lines after
AreEventsOf script copies report who how (commands.Store thread slot line word) banks lines after =
    AreAccessChecks script report who how origins.Access (store_lines script.layout report who (copies who) slot line) banks lines after
AreEventsOf script copies report who how (commands.Scrub first last) banks lines after = AreScrubbed script report who how first.0 (last.0 + 1 - first.0) banks lines after
AreEventsOf script copies report who how (commands.RaiseUser thread ripv eipv) banks lines after = IsRaise script report who how banks lines after
AreEventsOf script copies report who how (commands.RaiseKernel ripv eipv) banks lines after = IsRaise script report who how banks lines after
AreEventsOf script copies report who how (commands.Log status addr misc) banks lines after = (lines ≡ []) × (after ≡ logged_if_done (answer_of report who) (raw_event status addr misc) banks)
AreEventsOf script copies report who how command banks lines after = (lines ≡ []) × (after ≡ banks)

-- the events of a processor's commands from number n on, where its banks hold this
abbrev pub AreEventsFrom : Script → (Who → Option VSlot) → Report → Cpu → ℕ → List Command → Banks → Type 0
AreEventsFrom script copies report cpu n [] banks = Unit {0}
AreEventsFrom script copies report cpu n (command ∷ rest) banks =
    (after : Banks) × AreEventsOf script copies report (record { cpu = cpu; seq = n }) (arrival_of command) command banks (events_of report (record { cpu = cpu; seq = n })) after × AreEventsFrom script copies report cpu (n + 1) rest after

-- the banks of each processor are empty at first, and its event lines are those of its commands
abbrev pub AreEvents : Script → (Who → Option VSlot) → Report → Type 0
AreEvents script copies report = (cpu : Cpu) (list : List Command) → slice_get script.lists cpu.0 ≡ Some list → AreEventsFrom script copies report cpu 0 list empty_banks
