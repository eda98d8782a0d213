-- Answers that the command alone, the layout, a frame's bad lines, or the number of the command's event lines explains.
use Rattle.std.specs.Prelude.{◌≡◌, ℕ, ◌<◌, Bool, true, false}
use Rattle.hwp_check_evidence.specs.hwp_geom.declared.Who.{Who}
use Rattle.hwp_check_evidence.specs.hwp_script_words.declared.Command.{Command}
use Rattle.hwp_check_evidence.specs.hwp_script_words.declared.Command.TheVariants as commands
use Rattle.hwp_check_evidence.specs.hwp_script_words.declared.Script.{Script}
use Rattle.hwp_check_evidence.specs.hwp_report_text.declared.Answer.{Answer}
use Rattle.hwp_check_evidence.specs.hwp_report_text.declared.Answer.TheVariants as answers
use Rattle.hwp_check_evidence.specs.hwp_report_text.declared.Report.{Report}
use Rattle.hwp_check_evidence.specs.hwp_law.Answers.{is_ample}
use Rattle.hwp_check_evidence.specs.hwp_law.Causes.{AreBadLines, IsEventCount}
use Rattle.hwp_check_evidence.specs.hwp_law.Commands.{is_kernels}
use Rattle.hwp_check_evidence.specs.hwp_law.Lines.{bad_lines_of}

-- the command calls prctl(2), and so its answer is another matter; the same of one that takes back a failure, where it is done
abbrev pub is_other : Command → Bool
is_other (commands.Prctl thread args) = false
is_other _ = true

abbrev pub is_unmarked : Command → Bool
is_unmarked (commands.Prctl thread args) = false
is_unmarked (commands.Unpoison frame) = false
is_unmarked _ = true

-- the answer is of this kind
abbrev pub is_plain : Command → Answer → Bool
is_plain command answers.NoFrame = is_other command
is_plain command answers.Done = is_unmarked command
is_plain command (answers.Eio lost) = is_other command
is_plain command (answers.Opened word) = is_other command
is_plain command answers.Kernel = is_other command
is_plain command (answers.HasBad mask) = is_other command
is_plain command (answers.InUse count) = is_other command
is_plain command (answers.Scrubbed n) = is_other command
is_plain command (answers.Raised n) = is_other command
is_plain command answers.GuestBad = is_other command
is_plain command answers.GuestStopped = is_other command
is_plain command _ = false

-- an access, or a soft offline of a frame that isn't the kernel's, found no free frame
abbrev pub IsShort : Script → Command → Type 0
IsShort script (commands.Load thread slot line) = is_ample script ≡ false
IsShort script (commands.Fetch thread slot line) = is_ample script ≡ false
IsShort script (commands.KLoad thread slot line) = is_ample script ≡ false
IsShort script (commands.Store thread slot line word) = is_ample script ≡ false
IsShort script (commands.Soft frame) = (is_kernels script.layout frame ≡ false) × (is_ample script ≡ false)
IsShort script _ = ⊥

-- a command that is done in any case
abbrev pub IsDone : Command → Type 0
IsDone (commands.Fsync file) = Unit {0}
IsDone (commands.Log status addr misc) = Unit {0}
IsDone (commands.Bad frame line) = Unit {0}
IsDone (commands.Weak frame line) = Unit {0}
IsDone (commands.Watch threshold window) = Unit {0}
IsDone (commands.Fork thread process) = Unit {0}
IsDone _ = ⊥

-- some losses were told
abbrev pub IsLossTold : Command → ℕ → Type 0
IsLossTold (commands.Fsync file) lost = 0 < lost
IsLossTold _ lost = ⊥

-- a file was opened
abbrev pub IsOpening : Command → Type 0
IsOpening (commands.Open file) = Unit {0}
IsOpening _ = ⊥

-- a soft offline of a frame of the kernel
abbrev pub IsOfKernel : Script → Command → Type 0
IsOfKernel script (commands.Soft frame) = is_kernels script.layout frame ≡ true
IsOfKernel script _ = ⊥

-- the frame has these bad lines
abbrev pub HasTheseBad : Script → Report → Command → ℕ → Type 0
HasTheseBad script report (commands.Soft frame) mask = (is_kernels script.layout frame ≡ false) × AreBadLines (bad_lines_of report frame.0) mask
HasTheseBad script report (commands.Unpoison frame) mask = AreBadLines (bad_lines_of report frame.0) mask
HasTheseBad script report _ mask = ⊥

-- the frame that a command wanted to take back has users
abbrev pub IsUsed : Command → Type 0
IsUsed (commands.Unpoison frame) = Unit {0}
IsUsed _ = ⊥

-- so many events were met by a scrub, or by a machine check
abbrev pub AreScrubbed : Report → Who → Command → ℕ → Type 0
AreScrubbed report who (commands.Scrub first last) n = IsEventCount report who n
AreScrubbed report who _ n = ⊥

abbrev pub AreRaised : Report → Who → Command → ℕ → Type 0
AreRaised report who (commands.RaiseUser thread ripv eipv) n = IsEventCount report who n
AreRaised report who (commands.RaiseKernel ripv eipv) n = IsEventCount report who n
AreRaised report who _ n = ⊥

-- an access, which its guest may not admit: whether it does is the matter of another rule
abbrev pub IsAccess : Command → Type 0
IsAccess (commands.Load thread slot line) = Unit {0}
IsAccess (commands.Fetch thread slot line) = Unit {0}
IsAccess (commands.KLoad thread slot line) = Unit {0}
IsAccess (commands.Store thread slot line word) = Unit {0}
IsAccess _ = ⊥

-- the answer is right
abbrev pub IsPlain : Script → Report → Who → Command → Answer → Type 0
IsPlain script report who command answers.NoFrame = IsShort script command
IsPlain script report who command answers.Done = IsDone command
IsPlain script report who command (answers.Eio lost) = IsLossTold command lost
IsPlain script report who command (answers.Opened word) = IsOpening command
IsPlain script report who command answers.Kernel = IsOfKernel script command
IsPlain script report who command (answers.HasBad mask) = HasTheseBad script report command mask.0
IsPlain script report who command (answers.InUse count) = IsUsed command
IsPlain script report who command (answers.Scrubbed n) = AreScrubbed report who command n
IsPlain script report who command (answers.Raised n) = AreRaised report who command n
IsPlain script report who command answers.GuestBad = IsAccess command
IsPlain script report who command answers.GuestStopped = IsAccess command
IsPlain script report who command _ = ⊥
