-- Answers by what decides whether they have their cause, where that is neither an entry, nor a state, nor the command alone.
use Rattle.std.specs.Prelude.{◌≡◌, ◌||◌, ℕ, not, Bool, true, false}
use Rattle.hwp_check_evidence.specs.hwp_geom.Layout.{is_locked}
use Rattle.hwp_check_evidence.specs.hwp_geom.declared.Mask.{Mask}
use Rattle.hwp_check_evidence.specs.hwp_geom.declared.Who.{Who}
use Rattle.hwp_check_evidence.specs.hwp_kill.Prctl.{reply}
use Rattle.hwp_check_evidence.specs.hwp_page.declared.At.{At}
use Rattle.hwp_check_evidence.specs.hwp_script_words.declared.Command.{Command}
use Rattle.hwp_check_evidence.specs.hwp_script_words.declared.Command.TheVariants as commands
use Rattle.hwp_check_evidence.specs.hwp_script_words.declared.Script.{Script}
use Rattle.hwp_check_evidence.specs.hwp_report_text.declared.Answer.{Answer}
use Rattle.hwp_check_evidence.specs.hwp_report_text.declared.Answer.TheVariants as answers
use Rattle.hwp_check_evidence.specs.hwp_report_text.declared.Report.{Report}
use Rattle.hwp_check_evidence.specs.hwp_law.Outcomes.{reply_answer}
use Rattle.hwp_check_evidence.specs.hwp_law.Causes.{AreBadLines, HadBadLines, IsFailureAnswer, IsOfflineAnswer, IsUnpoisonAnswer}
use Rattle.hwp_check_evidence.specs.hwp_law.Commands.{is_kernels}
use Rattle.hwp_check_evidence.specs.hwp_law.Lines.{bad_lines_of}
use Rattle.hwp_check_evidence.specs.hwp_law.Settings.{arguments}
use Rattle.hwp_check_evidence.specs.hwp_law.Policies.{policy_before}
use Rattle.hwp_check_causes.specs.Asking.{is_by_state}
use Rattle.hwp_check_causes.specs.Plain.{is_plain}
use Rattle.hwp_check_causes.specs.Telling.{is_by_entry}

-- the lines are bad in some frame
abbrev pub IsBadSomewhere : Report → Mask → Type 0
IsBadSomewhere report mask = (frame : ℕ) × AreBadLines (bad_lines_of report frame) mask.0

-- a command that copies the page's content met its bad lines; `out` looks at the lines of a page that isn't locked alone
abbrev pub MetBadLines : Script → Report → Command → Mask → At → Type 0
MetBadLines script report (commands.Sync page) mask at = (at.page ≡ page) × HadBadLines script report mask at
MetBadLines script report (commands.Out page) mask at = (is_locked script.layout page ≡ false) × ((at.page ≡ page) × HadBadLines script report mask at)
MetBadLines script report _ mask at = ⊥

-- a thread makes the command
abbrev pub is_by_thread : Command → Bool
is_by_thread (commands.Load thread slot line) = true
is_by_thread (commands.Fetch thread slot line) = true
is_by_thread (commands.KLoad thread slot line) = true
is_by_thread (commands.Store thread slot line word) = true
is_by_thread (commands.Prctl thread args) = true
is_by_thread (commands.Fork thread process) = true
is_by_thread (commands.RaiseUser thread ripv eipv) = true
is_by_thread _ = false

-- none of these is the matter: what a thread's policy or a frame's record says
abbrev pub is_last : Command → Answer → Bool
is_last command answers.Stopped = false
is_last command (answers.Gone page) = false
is_last command (answers.BadLines mask at) = false
is_last command answer = not (is_by_entry answer || is_by_state answer || is_plain command answer)

-- the answer is so
abbrev pub IsLast : Script → Report → Who → Command → Answer → Type 0
IsLast script report who (commands.Prctl thread args) answer = answer ≡ reply_answer (reply (policy_before script report who thread) (arguments args))
IsLast script report who (commands.Inject frame) answer = (script.layout.recovery ≡ true) × IsFailureAnswer report who frame answer
IsLast script report who (commands.Soft frame) answer = (is_kernels script.layout frame ≡ false) × IsOfflineAnswer script report who frame answer
IsLast script report who (commands.Unpoison frame) answer = IsUnpoisonAnswer report who frame answer
IsLast script report who _ answer = ⊥
