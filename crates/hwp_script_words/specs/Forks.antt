-- What a script may say of twins, and where a process may be forked. A fork freezes the pages to which the parent has a translation with a
-- twin: behind it parent and child read the same words, and each goes over to its twin at its first store.
use Rattle.std.specs.Prelude.{ℕ, Bool, false, not, ◌&&◌, ◌||◌, ◌==◌, nat_lt, List, Option, Some, None, is_some, slice_get, count_by, zip}
use Rattle.std.specs.List.{list_any}
use Rattle.std.specs.Option.{option_map_or}
use Rattle.hwp_geom.specs.Layout.{is_twin}
use Rattle.hwp_geom.specs.declared.Layout.{Layout}
use Rattle.hwp_geom.specs.declared.ThreadDecl.{ThreadDecl}
use Rattle.hwp_geom.specs.declared.TransDecl.{TransDecl}
use Rattle.hwp_geom.specs.declared.VSlot.{VSlot}
use Rattle.hwp_script_words.specs.declared.command.Command.{Command}
use Rattle.hwp_script_words.specs.declared.command.Command.TheVariants as commands

-- the thread that a command is of
abbrev pub actor : Command → Option ℕ
actor (commands.Load t v l) = Some t.0
actor (commands.Fetch t v l) = Some t.0
actor (commands.KLoad t v l) = Some t.0
actor (commands.Store t v l x) = Some t.0
actor (commands.Prctl t args) = Some t.0
actor (commands.RaiseUser t r e) = Some t.0
actor (commands.Fork t p) = Some t.0
actor c = None

-- the translation that a command names
abbrev pub slot_named : Command → Option VSlot
slot_named (commands.Load t v l) = Some v
slot_named (commands.Fetch t v l) = Some v
slot_named (commands.KLoad t v l) = Some v
slot_named (commands.Store t v l x) = Some v
slot_named (commands.Free v) = Some v
slot_named c = None

-- whether a command names a twin as its translation
abbrev pub names_twin : Layout → Command → Bool
names_twin layout command = option_map_or (is_twin layout) (slot_named command) false

-- whether more than one translation leads to the page
abbrev pub is_shared : Layout → ℕ → Bool
is_shared layout page = nat_lt 1 (count_by (λ (t : TransDecl). t.page.0 == page) layout.trans)

-- whether another translation leads to the page of this one
abbrev pub has_shared_page : Layout → VSlot → Bool
has_shared_page layout slot = option_map_or (λ (t : TransDecl). is_shared layout t.page.0) (slice_get layout.trans slot.0) false

-- the translations, each with its twin, if it has one
abbrev pub slots : Layout → List (TransDecl × Option VSlot)
slots layout = zip layout.trans layout.twins

-- whether a translation is one of the process, and has a twin
abbrev pub is_cow : ℕ → TransDecl × Option VSlot → Bool
is_cow process slot = (slot.0.process.0 == process) && is_some slot.1

-- whether a fork of the process freezes the page: a translation of the process that has a twin leads to it
abbrev pub freezes : Layout → ℕ → ℕ → Bool
freezes layout process page = list_any (λ (slot : TransDecl × Option VSlot). is_cow process slot && (slot.0.page.0 == page)) (slots layout)

-- whether the thread is one of the process
abbrev pub is_thread_of : Layout → ℕ → ℕ → Bool
is_thread_of layout process thread = option_map_or (λ (t : ThreadDecl). t.process.0 == process) (slice_get layout.threads thread) false

-- whether a thread of the process is the one that the command is of
abbrev pub is_used_by : Layout → ℕ → Command → Bool
is_used_by layout process command = option_map_or (is_thread_of layout process) (actor command) false

-- whether the command is a fork by a thread of a process whose fork freezes the page
abbrev pub froze : Layout → ℕ → Command → Bool
froze layout page (commands.Fork t p) = option_map_or (λ (t : ThreadDecl). freezes layout t.process.0 page) (slice_get layout.threads t.0) false
froze layout page c = false

-- whether it is one of the two processes
abbrev pub is_either : ℕ → ℕ → ℕ → Bool
is_either parent child process = (process == parent) || (process == child)

-- whether a translation to the page has no twin, or is of a third process
abbrev pub is_odd : ℕ → ℕ → ℕ → TransDecl × Option VSlot → Bool
is_odd parent child page slot = (slot.0.page.0 == page) && not (is_some slot.1 && is_either parent child slot.0.process.0)

-- whether more than one translation of the process leads to the page
abbrev pub is_doubled : Layout → ℕ → ℕ → Bool
is_doubled layout process page = nat_lt 1 (count_by (λ (t : TransDecl). (t.process.0 == process) && (t.page.0 == page)) layout.trans)

-- whether the page is not one that parent and child alone share, each by one translation that has a twin
abbrev pub is_unfit : Layout → ℕ → ℕ → ℕ → Bool
is_unfit layout parent child page = list_any (is_odd parent child page) (slots layout) || is_doubled layout parent page || is_doubled layout child page

-- whether a page that a fork of the parent freezes is unfit, or was frozen by one of the commands
abbrev pub cannot_share : Layout → List Command → ℕ → ℕ → Bool
cannot_share layout before parent child =
    list_any (λ (slot : TransDecl × Option VSlot). is_cow parent slot && (is_unfit layout parent child slot.0.page.0 || list_any (froze layout slot.0.page.0) before)) (slots layout)

-- whether a thread of one of the two processes runs on another processor
abbrev pub is_away : ℕ → ℕ → ℕ → ThreadDecl → Bool
is_away cpu parent child t = is_either parent child t.process.0 && not (t.cpu.0 == cpu)

-- whether the parent can't make the child behind these commands of the processor's list: both are one, a thread of the child was used, a thread
-- of one of them runs elsewhere, or a page is none that they can share
abbrev pub is_wrong_child : Layout → ℕ → List Command → ℕ → ℕ → Bool
is_wrong_child layout cpu before parent child =
    (child == parent) || list_any (is_used_by layout child) before || list_any (is_away cpu parent child) layout.threads || cannot_share layout before parent child

-- whether a command is a fork that may not stand behind these commands of the processor's list
abbrev pub is_wrong_fork : Layout → ℕ → List Command → Command → Bool
is_wrong_fork layout cpu before (commands.Fork t p) = option_map_or (λ (t : ThreadDecl). is_wrong_child layout cpu before t.process.0 p.0) (slice_get layout.threads t.0) false
is_wrong_fork layout cpu before c = false

-- whether the command is a fork of the process
abbrev pub is_fork_of : ℕ → Command → Bool
is_fork_of process (commands.Fork t p) = p.0 == process
is_fork_of process c = false
