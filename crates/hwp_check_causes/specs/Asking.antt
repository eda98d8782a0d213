-- Answers that say what state a page was in, but for its bad lines: of which page, and in which state.
use Rattle.std.specs.Prelude.{◌≡◌, Bool, true, false}
use Rattle.hwp_check_evidence.specs.hwp_geom.declared.Layout.{Layout}
use Rattle.hwp_check_evidence.specs.hwp_geom.declared.Page.{Page}
use Rattle.hwp_check_evidence.specs.hwp_page.Refusals.{IsAway, IsDirty, IsLockedIn, IsMapped, IsUnused}
use Rattle.hwp_check_evidence.specs.hwp_page.Step.{IsOf}
use Rattle.hwp_check_evidence.specs.hwp_page.declared.At.{At}
use Rattle.hwp_check_evidence.specs.hwp_page.declared.PageState.{PageState}
use Rattle.hwp_check_evidence.specs.hwp_script_words.declared.Command.{Command}
use Rattle.hwp_check_evidence.specs.hwp_script_words.declared.Command.TheVariants as commands
use Rattle.hwp_check_evidence.specs.hwp_script_words.declared.Script.{Script}
use Rattle.hwp_check_evidence.specs.hwp_report_text.declared.Answer.{Answer}
use Rattle.hwp_check_evidence.specs.hwp_report_text.declared.Answer.TheVariants as answers
use Rattle.hwp_check_evidence.specs.hwp_report_text.declared.Report.{Report}
use Rattle.hwp_check_evidence.specs.hwp_law.States.{HadState}

-- the answer is of this kind
abbrev pub is_by_state : Answer → Bool
is_by_state (answers.NotResident at) = true
is_by_state (answers.NotMapped at) = true
is_by_state (answers.Dirty at) = true
is_by_state (answers.Mapped at) = true
is_by_state (answers.Locked at) = true
is_by_state _ = false

-- the command is one of a page, and of this one; it drops this page; it drops it or swaps it out; it frees a translation of it
abbrev pub IsAtPage : Command → Page → Type 0
IsAtPage (commands.Drop named) page = page ≡ named
IsAtPage (commands.Sync named) page = page ≡ named
IsAtPage (commands.Out named) page = page ≡ named
IsAtPage _ page = ⊥

abbrev pub IsDropOf : Command → Page → Type 0
IsDropOf (commands.Drop named) page = page ≡ named
IsDropOf _ page = ⊥

abbrev pub IsLeavingOf : Command → Page → Type 0
IsLeavingOf (commands.Drop named) page = page ≡ named
IsLeavingOf (commands.Out named) page = page ≡ named
IsLeavingOf _ page = ⊥

abbrev pub IsFreeOf : Layout → Command → Page → Type 0
IsFreeOf layout (commands.Free slot) page = IsOf layout page slot
IsFreeOf layout _ page = ⊥

-- the command can have this answer of the page that it names
abbrev pub IsAskable : Layout → Command → Answer → Type 0
IsAskable layout command (answers.NotResident at) = IsAtPage command at.page
IsAskable layout command (answers.NotMapped at) = IsFreeOf layout command at.page
IsAskable layout command (answers.Dirty at) = IsDropOf command at.page
IsAskable layout command (answers.Mapped at) = IsDropOf command at.page
IsAskable layout command (answers.Locked at) = IsLeavingOf command at.page
IsAskable layout command _ = ⊥

-- the translation that the command frees isn't in use
abbrev pub IsUnusedBy : Command → PageState → Type 0
IsUnusedBy (commands.Free slot) state = IsUnused slot state
IsUnusedBy _ state = ⊥

-- the state is as the command's answer says
abbrev pub IsSo : Command → Answer → PageState → Type 0
IsSo command (answers.NotResident at) state = IsAway state
IsSo command (answers.NotMapped at) state = IsUnusedBy command state
IsSo command (answers.Dirty at) state = IsDirty state
IsSo command (answers.Mapped at) state = IsMapped state
IsSo command (answers.Locked at) state = IsLockedIn state
IsSo command _ state = ⊥

-- the answer can be had of the page, and after so many entries it was in such a state
abbrev pub IsAsked : Script → Report → Command → Answer → At → Type 0
IsAsked script report command answer at = IsAskable script.layout command answer × HadState script.layout report.pages at (IsSo command answer)
