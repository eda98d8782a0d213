-- Processes that a signal ended.
use Rattle.std.specs.Prelude.{◌==◌, ◌&&◌, Bool, false, not, List, Option, Some, None, slice_get}
use Rattle.std.specs.List.{list_any}
use Rattle.hwp_kill.specs.hwp_geom.declared.Layout.{Layout}
use Rattle.hwp_kill.specs.hwp_geom.declared.Proc.{Proc}
use Rattle.hwp_kill.specs.hwp_geom.declared.Thread.{Thread}
use Rattle.hwp_kill.specs.hwp_geom.declared.ThreadDecl.{ThreadDecl}
use Rattle.hwp_kill.specs.declared.Signal.{Signal}
use Rattle.hwp_page.specs.declared.entry.Entry.{Entry}
use Rattle.hwp_page.specs.declared.entry.Met.TheVariants.{Sigbus}
use Rattle.hwp_page.specs.declared.entry.What.{What}
use Rattle.hwp_page.specs.declared.entry.What.TheVariants as entries

-- the thread is one of the process and has no handler: a signal to it ends the process
abbrev pub is_ended_by : Proc → Option ThreadDecl → Bool
is_ended_by process None = false
is_ended_by process (Some thread) = not thread.handler && (thread.process.0 == process.0)

abbrev pub ends : Layout → Proc → Thread → Bool
ends layout process thread = is_ended_by process (slice_get layout.threads thread.0)

-- the entry has a signal that ends the process
abbrev pub is_ending : Layout → Proc → What → Bool
is_ending layout process (entries.Load slot line (Sigbus thread)) = ends layout process thread
is_ending layout process (entries.Store slot line (Sigbus thread)) = ends layout process thread
is_ending layout process (entries.Fail situation required seen signals) = list_any (λ (s : Signal). ends layout process s.thread) signals
is_ending layout process _ = false

abbrev pub has_ending : Layout → Proc → List Entry → Bool
has_ending layout process list = list_any (λ (e : Entry). is_ending layout process e.what) list
