-- Which processes can't be guests: all threads of a guest run on one processor, and each has a handler.
use Rattle.std.specs.Prelude.{ℕ, Bool, not, ◌&&◌, ◌||◌, ◌==◌, List}
use Rattle.std.specs.List.{list_any}
use Rattle.hwp_geom.specs.declared.ThreadDecl.{ThreadDecl}

-- whether a thread of the process shows that a thread can't be one of the same guest: that one has no handler, or they run on two processors
abbrev pub is_apart : ℕ → ThreadDecl → ThreadDecl → Bool
is_apart process thread other = (other.process.0 == process) && (not thread.handler || not (other.cpu.0 == thread.cpu.0))

-- whether a thread is one of the process, and keeps it from being a guest with these threads
abbrev pub bars_guest : List ThreadDecl → ℕ → ThreadDecl → Bool
bars_guest threads process thread = (thread.process.0 == process) && list_any (is_apart process thread) threads

-- whether the process can't be a guest with these threads
abbrev pub cannot_be_guest : List ThreadDecl → ℕ → Bool
cannot_be_guest threads process = list_any (bars_guest threads process) threads
