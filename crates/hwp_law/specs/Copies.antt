-- A store that copies a page before it writes: the entries that it makes beside those of a store through the twin, which of them its lines
-- name, and in which order its machine checks come.
use Rattle.std.specs.Prelude.{◌≡◌, ◌⊎◌, ℕ, ◌+◌, ◌<◌, ◌==◌, ◌&&◌, ◌||◌, Bool, true, false, nat_lt, List, [], ◌∷◌, ◌++◌, Option, Some, None, count_by, filter, flat_map, length, map, slice_get, unwrap_or, IsTrue, if◌then◌else◌}
use Rattle.std.specs.Int.{from_bool}
use Rattle.std.specs.List.{range_with_len}
use Rattle.std.specs.Option.{option_map_or}
use Rattle.hwp_script_words.specs.hwp_geom.Limits.{line_limit}
use Rattle.hwp_script_words.specs.hwp_geom.declared.Layout.{Layout}
use Rattle.hwp_script_words.specs.hwp_geom.declared.Page.{Page}
use Rattle.hwp_script_words.specs.hwp_geom.declared.Thread.{Thread}
use Rattle.hwp_script_words.specs.hwp_geom.declared.TransDecl.{TransDecl}
use Rattle.hwp_script_words.specs.hwp_geom.declared.VSlot.{VSlot}
use Rattle.hwp_script_words.specs.hwp_geom.declared.Who.{Who}
use Rattle.hwp_report_text.specs.hwp_page.declared.At.{At}
use Rattle.hwp_report_text.specs.hwp_page.declared.Entry.{Entry}
use Rattle.hwp_report_text.specs.hwp_page.declared.Met.TheVariants.{Sigbus}
use Rattle.hwp_report_text.specs.hwp_page.declared.What.{What}
use Rattle.hwp_report_text.specs.hwp_page.declared.What.TheVariants as entries
use Rattle.hwp_report_text.specs.hwp_page.Step.{IsOf}
use Rattle.hwp_report_text.specs.declared.Answer.TheVariants as answers
use Rattle.hwp_report_text.specs.declared.CpuLine.{CpuLine}
use Rattle.hwp_report_text.specs.declared.Report.{Report}
use Rattle.hwp_script_words.specs.declared.Command.{Command}
use Rattle.hwp_script_words.specs.declared.Command.TheVariants as commands
use Rattle.hwp_law.specs.Answers.{IsNamed, is_answering}
use Rattle.hwp_law.specs.History.{IsMetBy}
use Rattle.hwp_law.specs.Lines.{answer_of, is_same_command}
use Rattle.hwp_law.specs.Pairings.{is_soft}
use Rattle.hwp_law.specs.Places.{entry_at}

-- ---- what it makes

-- the entry is one of a copy from the translation `from` through `to` by the thread: it loads the one's page, stores in the other's on any
-- line, meets machine checks in both, and frees `from`
abbrev pub FitsCopy : Thread → VSlot → VSlot → What → Type 0
FitsCopy thread from to (entries.Load slot line met) = (slot ≡ from) × IsMetBy thread met
FitsCopy thread from to (entries.Store slot line met) = (slot ≡ to) × IsMetBy thread met
FitsCopy thread from to (entries.Map slot) = (slot ≡ from) ⊎ (slot ≡ to)
FitsCopy thread from to (entries.Mce slot line mask) = (slot ≡ from) ⊎ (slot ≡ to)
FitsCopy thread from to (entries.Free slot) = slot ≡ from
FitsCopy thread from to entries.FaultIn = Unit {0}
FitsCopy thread from to what = ⊥

-- the translation that the entry is through: loads and the freeing through the one, stores through the other
abbrev pub slot_in : What → Option VSlot
slot_in (entries.Load slot line met) = Some slot
slot_in (entries.Store slot line met) = Some slot
slot_in (entries.Map slot) = Some slot
slot_in (entries.Mce slot line mask) = Some slot
slot_in (entries.Free slot) = Some slot
slot_in what = None

-- the page is that of the translation, or where the entry names none that of one of the two
abbrev pub IsCopyPage : Layout → VSlot → VSlot → Page → Option VSlot → Type 0
IsCopyPage layout from to page (Some slot) = IsOf layout page slot
IsCopyPage layout from to page None = IsOf layout page from ⊎ IsOf layout page to

-- the store, which copies from this translation, makes the entry in the page
abbrev pub MakesCopy : Layout → VSlot → Command → Page → What → Type 0
MakesCopy layout from (commands.Store thread to line word) page what = FitsCopy thread from to what × IsCopyPage layout from to page (slot_in what)
MakesCopy layout from command page what = ⊥

-- ---- what its lines name

-- the entry sent SIGBUS to who met it
abbrev pub is_sigbus : What → Bool
is_sigbus (entries.Load slot line (Sigbus thread)) = true
is_sigbus (entries.Store slot line (Sigbus thread)) = true
is_sigbus what = false

-- an entry that a line of its command has to name: where the command copied, one that sent SIGBUS, or by which a page left its frame
abbrev pub must_be_named : Option VSlot → What → Bool
must_be_named None what = is_answering what
must_be_named (Some from) what = is_sigbus what || is_soft what

abbrev pub is_load : What → Bool
is_load (entries.Load slot line met) = true
is_load what = false

abbrev pub is_store : What → Bool
is_store (entries.Store slot line met) = true
is_store what = false

-- each entry that has to be named is one that a line of its command names
abbrev pub AreNamed : (Who → Option VSlot) → List (List Entry) → List (List CpuLine) → Type 0
AreNamed copies pages cpus = (at : At) (e : Entry) → entry_at pages at ≡ Some e → IsTrue (must_be_named (copies e.who) e.what) → IsNamed cpus at e

-- the place that a store which copied names by `stored` is that of its last Store entry in the page
abbrev pub IsLastStore : List (List Entry) → Who → At → Type 0
IsLastStore pages who at =
    (later : At) (e : Entry) → entry_at pages later ≡ Some e → e.who ≡ who → later.page ≡ at.page → at.entry < later.entry → is_store e.what ≡ false

abbrev pub AreLastStores : (Who → Option VSlot) → Report → Type 0
AreLastStores copies report = (who : Who) (from : VSlot) (at : At) → copies who ≡ Some from → answer_of report who ≡ Some (answers.Stored at) → IsLastStore report.pages who at

-- ---- its machine checks

-- the lines of machine checks among entries, each with the number of entries before it that pass the test
abbrev pub checks_by : (What → Bool) → ℕ → List What → List (ℕ × ℕ)
checks_by test n [] = []
checks_by test n (entries.Mce slot line mask ∷ rest) = (n, line) ∷ checks_by test n rest
checks_by test n (what ∷ rest) = checks_by test (n + from_bool (test what)) rest

-- the entries of a command in the page of a translation, in order
abbrev pub own_in : Layout → Report → Who → VSlot → List What
own_in layout report who slot =
    option_map_or (λ (v : TransDecl). map (λ (e : Entry). e.what) (filter (λ (e : Entry). is_same_command who e.who) (unwrap_or (slice_get report.pages v.page.0) []))) (slice_get layout.trans slot.0) []

-- of these checks the lines of those with so many entries before
abbrev pub lines_at : ℕ → List (ℕ × ℕ) → List ℕ
lines_at n checks = map (λ (c : ℕ × ℕ). c.1) (filter (λ (c : ℕ × ℕ). c.0 == n) checks)

-- the lines of the machine checks of a copy, in order: line by line those of the load that copies it, and then those of the store; behind the
-- last line those of the store of the command's own word
abbrev pub copy_checks : Layout → Report → Who → VSlot → VSlot → List ℕ
copy_checks layout report who from to =
    let loads = own_in layout report who from in
    let stores = own_in layout report who to in
    flat_map (λ n. lines_at n (checks_by is_load 0 loads) ++ lines_at n (checks_by is_store 0 stores)) (range_with_len 0 (length loads + length stores + 1))

-- ---- whose page was in no frame

-- the translation through which a copy ended: the next line was to be loaded where it had stored all lines that it loaded, but for the last
abbrev pub ended_through : Layout → Report → Who → VSlot → VSlot → VSlot
ended_through layout report who from to =
    let loads = count_by is_load (own_in layout report who from) in
    if nat_lt loads line_limit && (loads == count_by is_store (own_in layout report who to)) then from else to
