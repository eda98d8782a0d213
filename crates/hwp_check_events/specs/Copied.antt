-- The machine checks of stores that copied a page, gathered from the histories.
use Rattle.std.specs.Prelude.{◌≡◌, ℕ, ◌<◌, Bool, false, List, [], ◌∷◌, Option, Some, filter, get_or, map, slice_get}
use Rattle.std.specs.Option.{option_map_or}
use Rattle.hwp_banks.specs.hwp_geom.declared.Cpu.{Cpu}
use Rattle.hwp_banks.specs.hwp_geom.declared.Who.{Who}
use Rattle.hwp_law.specs.hwp_geom.declared.Layout.{Layout}
use Rattle.hwp_law.specs.hwp_geom.declared.VSlot.{VSlot}
use Rattle.hwp_law.specs.hwp_page.declared.Entry.{Entry}
use Rattle.hwp_law.specs.hwp_page.declared.What.{What}
use Rattle.hwp_law.specs.hwp_page.declared.What.TheVariants as entries
use Rattle.hwp_law.specs.hwp_report_text.declared.Report.{Report}
use Rattle.hwp_law.specs.hwp_script_words.declared.Command.{Command}
use Rattle.hwp_law.specs.hwp_script_words.declared.Command.TheVariants as commands
use Rattle.hwp_law.specs.Copies.{copy_checks, is_load, is_store}
use Rattle.hwp_law.specs.Lines.{is_same_command}
use Rattle.hwp_check_events.specs.declared.copied.CopyCheck.{CopyCheck}
use Rattle.hwp_check_events.specs.declared.copied.Counted.{Counted}
use Rattle.hwp_check_events.specs.declared.copied.Counted.TheVariants.{Loads, Stores}

-- the entries that are counted before a machine check
abbrev pub test_of : Counted → What → Bool
test_of Loads = is_load
test_of Stores = is_store

abbrev pub pair_of : CopyCheck → ℕ × ℕ
pair_of c = (c.before, c.line)

-- a command's own entries among those of a page
abbrev pub own_whats : Who → List Entry → List What
own_whats who entries = map (λ (e : Entry). e.what) (filter (λ (e : Entry). is_same_command who e.who) entries)

-- the machine check that an entry is, with so many counted entries before it; and whether it is counted itself
abbrev pub checks_in : ℕ → What → List (ℕ × ℕ)
checks_in n (entries.Mce slot line mask) = (n, line) ∷ []
checks_in n what = []

abbrev pub is_counted : (What → Bool) → What → Bool
is_counted test (entries.Mce slot line mask) = false
is_counted test what = test what

-- the lines of the machine checks of a store's copy, if it copied
abbrev pub copied_from : Layout → Report → Who → Option VSlot → VSlot → List ℕ
copied_from layout report who from slot = option_map_or (λ (v : VSlot). copy_checks layout report who v slot) from []

abbrev pub copied_by : Layout → (Who → Option VSlot) → Report → Who → Command → List ℕ
copied_by layout copies report who (commands.Store thread slot at word) = copied_from layout report who (copies who) slot
copied_by layout copies report who command = []

-- so for the first n commands of a processor
abbrev pub AreCopied : Layout → (Who → Option VSlot) → Report → Cpu → List Command → ℕ → List (List ℕ) → Type 0
AreCopied layout copies report cpu list n lists =
    (seq : ℕ) (command : Command) → seq < n → slice_get list seq ≡ Some command → get_or lists seq [] ≡ copied_by layout copies report (record { cpu = cpu; seq = seq }) command
