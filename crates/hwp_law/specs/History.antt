-- When the histories of a report are legal.
use Rattle.std.specs.Prelude.{◌≡◌, ℕ, ◌<◌, ◌≤◌, List, Some, IsSomeAnd}
use Rattle.hwp_script_words.specs.hwp_geom.declared.Layout.{Layout}
use Rattle.hwp_script_words.specs.hwp_geom.declared.Page.{Page}
use Rattle.hwp_script_words.specs.hwp_geom.declared.Thread.{Thread}
use Rattle.hwp_script_words.specs.hwp_geom.declared.VSlot.{VSlot}
use Rattle.hwp_report_text.specs.hwp_page.declared.At.{At}
use Rattle.hwp_report_text.specs.hwp_page.declared.Entry.{Entry}
use Rattle.hwp_report_text.specs.hwp_page.declared.What.{What}
use Rattle.hwp_report_text.specs.hwp_page.declared.What.TheVariants as entries
use Rattle.hwp_report_text.specs.hwp_page.declared.Met.{Met}
use Rattle.hwp_report_text.specs.hwp_page.declared.Met.TheVariants.{Word, Sigbus}
use Rattle.hwp_report_text.specs.hwp_page.Step.{IsOf}
use Rattle.hwp_script_words.specs.declared.Command.{Command}
use Rattle.hwp_script_words.specs.declared.Command.TheVariants as commands
use Rattle.hwp_script_words.specs.declared.Script.{Script}
use Rattle.hwp_law.specs.Commands.{command_at}
use Rattle.hwp_law.specs.Places.{entry_at}

-- a SIGBUS went to the command's thread
abbrev pub IsMetBy : Thread → Met → Type 0
IsMetBy thread (Word mask word) = Unit {0}
IsMetBy thread (Sigbus other) = other ≡ thread

-- the word that a store met is the word of its command
abbrev pub IsStoredBy : ℕ → Met → Type 0
IsStoredBy word (Word mask stored) = stored ≡ word
IsStoredBy word (Sigbus thread) = Unit {0}

-- the entry is one that any access through the translation makes
abbrev pub FitsAccess : VSlot → What → Type 0
FitsAccess slot entries.FaultIn = Unit {0}
FitsAccess slot (entries.Map slot') = slot' ≡ slot
FitsAccess slot _ = ⊥

-- the entry is one that a load makes, also a fetch or a load of the kernel
abbrev pub FitsLoad : Thread → VSlot → ℕ → What → Type 0
FitsLoad thread slot line (entries.Load slot' line' met) = (slot' ≡ slot) × (line' ≡ line) × IsMetBy thread met
FitsLoad thread slot line what = FitsAccess slot what

-- the entry is one that a store makes
abbrev pub FitsStore : Thread → VSlot → ℕ → ℕ → What → Type 0
FitsStore thread slot line word (entries.Store slot' line' met) = (slot' ≡ slot) × (line' ≡ line) × IsMetBy thread met × IsStoredBy word met
FitsStore thread slot line word what = FitsAccess slot what

-- the entry is of a kind that the command makes, with the command's numbers
abbrev pub Fits : Command → What → Type 0
Fits (commands.Load thread slot line) what = FitsLoad thread slot line what
Fits (commands.Fetch thread slot line) what = FitsLoad thread slot line what
Fits (commands.KLoad thread slot line) what = FitsLoad thread slot line what
Fits (commands.Store thread slot line word) what = FitsStore thread slot line word what
Fits (commands.Free slot) (entries.Free slot') = slot' ≡ slot
Fits (commands.Drop page) entries.Drop = Unit {0}
Fits (commands.Sync page) entries.Sync = Unit {0}
Fits (commands.Out page) entries.Out = Unit {0}
Fits _ _ = ⊥

-- the page is the one that the command names
abbrev pub Names : Layout → Command → Page → Type 0
Names layout (commands.Load thread slot line) page = IsOf layout page slot
Names layout (commands.Fetch thread slot line) page = IsOf layout page slot
Names layout (commands.KLoad thread slot line) page = IsOf layout page slot
Names layout (commands.Store thread slot line word) page = IsOf layout page slot
Names layout (commands.Free slot) page = IsOf layout page slot
Names layout (commands.Drop named) page = page ≡ named
Names layout (commands.Sync named) page = page ≡ named
Names layout (commands.Out named) page = page ≡ named
Names layout _ page = ⊥

-- the entry is one that its command makes, in the page that the command names
abbrev pub IsMade : Script → Page → Entry → Type 0
IsMade script page e = IsSomeAnd (command_at script e.who) (λ (command : Command). Fits command e.what × Names script.layout command page)

-- in each history the entries of one processor have command numbers that do not fall
abbrev pub AreOrdered : List (List Entry) → Type 0
AreOrdered pages =
    (at later : At) (e f : Entry) → entry_at pages at ≡ Some e → entry_at pages later ≡ Some f
    → at.page ≡ later.page → at.entry < later.entry → e.who.cpu ≡ f.who.cpu → e.who.seq ≤ f.who.seq
