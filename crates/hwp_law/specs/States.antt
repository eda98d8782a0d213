-- The state of a page at a place of its history, and the window in which a command can have seen it.
use Rattle.std.specs.Prelude.{◌≡◌, ℕ, ◌<◌, ◌≤◌, List, Option, Some, None, length, take, slice_get}
use Rattle.std.specs.Option.{option_or}
use Rattle.hwp_script_words.specs.hwp_geom.Layout.{is_locked}
use Rattle.hwp_script_words.specs.hwp_geom.declared.Layout.{Layout}
use Rattle.hwp_script_words.specs.hwp_geom.declared.PageKind.{PageKind}
use Rattle.hwp_script_words.specs.hwp_geom.declared.Who.{Who}
use Rattle.hwp_report_text.specs.hwp_page.declared.At.{At}
use Rattle.hwp_report_text.specs.hwp_page.declared.Entry.{Entry}
use Rattle.hwp_report_text.specs.hwp_page.declared.PageState.{PageState}
use Rattle.hwp_report_text.specs.hwp_page.History.{state_after}
use Rattle.hwp_report_text.specs.hwp_page.Step.{opening_of}
use Rattle.hwp_report_text.specs.declared.Answer.{Answer}
use Rattle.hwp_report_text.specs.declared.Answer.TheVariants as answers
use Rattle.hwp_report_text.specs.declared.CpuLine.{CpuLine}
use Rattle.hwp_report_text.specs.declared.CpuLine.TheVariants as lines
use Rattle.hwp_law.specs.Places.{entry_at}

-- after as many entries of its page as the place says, the page had this property
pub record HadState (layout : Layout) (pages : List (List Entry)) (at : At) (P : PageState → Type 0) : Type 0 where
  pub kind : PageKind
  pub entries : List Entry
  pub declared : slice_get layout.pages at.page.0 ≡ Some kind
  pub there : slice_get pages at.page.0 ≡ Some entries
  pub within : at.entry ≤ length entries
  pub had : P (state_after (opening_of kind (is_locked layout at.page)) (take at.entry entries))

-- the place of the entry that an answer names
abbrev pub entry_named : Answer → Option At
entry_named (answers.Value word at) = Some at
entry_named (answers.Stored at) = Some at
entry_named (answers.Sigbus at) = Some at
entry_named (answers.DoneAt at) = Some at
entry_named (answers.Moved frame at) = Some at
entry_named _ = None

-- the number of entries that an answer names, where it says what state the page was in
abbrev pub state_named : Answer → Option At
state_named (answers.NotResident at) = Some at
state_named (answers.NotMapped at) = Some at
state_named (answers.Dirty at) = Some at
state_named (answers.Mapped at) = Some at
state_named (answers.Locked at) = Some at
state_named (answers.BadLines mask at) = Some at
state_named _ = None

-- the place that an answer names, of an entry or of a number of entries
abbrev pub place_named : Answer → Option At
place_named answer = option_or (entry_named answer) (state_named answer)

-- the number of entries lies in the command's window: past the entries of the processor's earlier commands, not below
-- what its earlier answers name, and not past the entries of its later commands
pub record IsInWindow (pages : List (List Entry)) (rows : List CpuLine) (who : Who) (at : At) : Type 0 where
  pub past_earlier : (bt : At) (e : Entry) → entry_at pages bt ≡ Some e → bt.page ≡ at.page → e.who.cpu ≡ who.cpu → e.who.seq < who.seq → bt.entry < at.entry
  pub not_below : (i seq : ℕ) (answer : Answer) (bt : At) → slice_get rows i ≡ Some (lines.Answer seq answer) → seq < who.seq → place_named answer ≡ Some bt → bt.page ≡ at.page → bt.entry ≤ at.entry
  pub before_later : (bt : At) (e : Entry) → entry_at pages bt ≡ Some e → bt.page ≡ at.page → e.who.cpu ≡ who.cpu → who.seq < e.who.seq → at.entry ≤ bt.entry
