-- Answers that name an entry, as `moved` does not alone: what the entry must be.
use Rattle.std.specs.Prelude.{◌≡◌, ℕ, Bool, true, false, List, Some, Any}
use Rattle.hwp_check_evidence.specs.hwp_geom.declared.Page.{Page}
use Rattle.hwp_check_evidence.specs.hwp_geom.declared.Thread.{Thread}
use Rattle.hwp_check_evidence.specs.hwp_geom.declared.VSlot.{VSlot}
use Rattle.hwp_check_evidence.specs.hwp_geom.declared.Who.{Who}
use Rattle.hwp_check_evidence.specs.hwp_kill.declared.Code.TheVariants.{Ar}
use Rattle.hwp_check_evidence.specs.hwp_kill.declared.Signal.{Signal}
use Rattle.hwp_check_evidence.specs.hwp_page.declared.At.{At}
use Rattle.hwp_check_evidence.specs.hwp_page.declared.Entry.{Entry}
use Rattle.hwp_check_evidence.specs.hwp_page.declared.Met.{Met}
use Rattle.hwp_check_evidence.specs.hwp_page.declared.Met.TheVariants.{Sigbus, Word}
use Rattle.hwp_check_evidence.specs.hwp_page.declared.What.{What}
use Rattle.hwp_check_evidence.specs.hwp_page.declared.What.TheVariants as entries
use Rattle.hwp_check_evidence.specs.hwp_script_words.declared.Command.{Command}
use Rattle.hwp_check_evidence.specs.hwp_script_words.declared.Command.TheVariants as commands
use Rattle.hwp_check_evidence.specs.hwp_report_text.declared.Answer.{Answer}
use Rattle.hwp_check_evidence.specs.hwp_report_text.declared.Answer.TheVariants as answers
use Rattle.hwp_check_evidence.specs.hwp_law.Causes.{SendsSigbus}
use Rattle.hwp_check_evidence.specs.hwp_law.Places.{entry_at}

-- the answer names an entry, and that alone says whether it is right
abbrev pub is_by_entry : Answer → Bool
is_by_entry (answers.Value word at) = true
is_by_entry (answers.Stored at) = true
is_by_entry (answers.Sigbus at) = true
is_by_entry (answers.DoneAt at) = true
is_by_entry _ = false

-- a load through the translation that met the word at the line; and a store of it
abbrev pub IsLoadOf : VSlot → ℕ → ℕ → What → Type 0
IsLoadOf slot line word (entries.Load through at (Word mask met)) = (through ≡ slot) × (at ≡ line) × (met ≡ word)
IsLoadOf slot line word _ = ⊥

abbrev pub IsStoreOf : VSlot → ℕ → ℕ → What → Type 0
IsStoreOf slot line word (entries.Store through at (Word mask met)) = (through ≡ slot) × (at ≡ line) × (met ≡ word)
IsStoreOf slot line word _ = ⊥

-- the entry of a load that gave the word, of a store that was made, and of a command that was done to a page
abbrev pub IsValue : Command → ℕ → What → Type 0
IsValue (commands.Load thread slot line) word what = IsLoadOf slot line word what
IsValue (commands.Fetch thread slot line) word what = IsLoadOf slot line word what
IsValue (commands.KLoad thread slot line) word what = IsLoadOf slot line word what
IsValue _ word what = ⊥

abbrev pub IsStored : Command → What → Type 0
IsStored (commands.Store thread slot line word) what = IsStoreOf slot line word what
IsStored _ what = ⊥

abbrev pub IsDoneTo : Command → Page → What → Type 0
IsDoneTo (commands.Free slot) page what = what ≡ entries.Free slot
IsDoneTo (commands.Drop named) page what = (page ≡ named) × (what ≡ entries.Drop)
IsDoneTo (commands.Sync named) page what = (page ≡ named) × (what ≡ entries.Sync)
IsDoneTo (commands.Out named) page what = (page ≡ named) × (what ≡ entries.Out)
IsDoneTo _ page what = ⊥

-- what an access met was a SIGBUS to the thread
abbrev pub IsSigbusTo : Thread → Met → Type 0
IsSigbusTo thread (Sigbus other) = other ≡ thread
IsSigbusTo thread (Word mask word) = ⊥

-- some signal is a SIGBUS to the thread that asks for an action
abbrev pub HasOwnSigbus : Thread → List Signal → Type 0
HasOwnSigbus thread signals = Any (λ (s : Signal). (s.thread ≡ thread) × (s.code ≡ Ar)) signals

-- the entry that an access answers by SIGBUS
abbrev pub IsSent : Command → What → Type 0
IsSent (commands.Load thread slot line) what = SendsSigbus thread what
IsSent (commands.Fetch thread slot line) what = SendsSigbus thread what
IsSent (commands.KLoad thread slot line) what = SendsSigbus thread what
IsSent (commands.Store thread slot line word) what = SendsSigbus thread what
IsSent _ what = ⊥

-- the entry is one that the command's answer may name
abbrev pub Tells : Command → Answer → What → Type 0
Tells command (answers.Value word at) what = IsValue command word what
Tells command (answers.Stored at) what = IsStored command what
Tells command (answers.Sigbus at) what = IsSent command what
Tells command (answers.DoneAt at) what = IsDoneTo command at.page what
Tells command _ what = ⊥

-- such an entry of the command stands at the place
pub record IsToldAt (pages : List (List Entry)) (who : Who) (command : Command) (answer : Answer) (at : At) : Type 0 where
  pub entry : Entry
  pub there : entry_at pages at ≡ Some entry
  pub own : entry.who ≡ who
  pub tells : Tells command answer entry.what
