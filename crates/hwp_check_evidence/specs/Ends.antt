-- By which command of a processor each process had ended at the latest.
use Rattle.std.specs.Prelude.{◌≡◌, ℕ, ◌+◌, ◌^◌, ◌==◌, max, min, cond, List, Option, Some, None, fold, replicate, length, slice_get, slice_index_or, slice_set}
use Rattle.hwp_law.specs.hwp_geom.declared.Cpu.{Cpu}
use Rattle.hwp_law.specs.hwp_geom.declared.Layout.{Layout}
use Rattle.hwp_law.specs.hwp_geom.declared.Proc.{Proc}
use Rattle.hwp_law.specs.hwp_geom.declared.Thread.{Thread}
use Rattle.hwp_law.specs.hwp_geom.declared.ThreadDecl.{ThreadDecl}
use Rattle.hwp_law.specs.hwp_geom.declared.Who.{Who}
use Rattle.hwp_law.specs.hwp_kill.declared.Signal.{Signal}
use Rattle.hwp_law.specs.hwp_page.Orders.{IsEarlier}
use Rattle.hwp_law.specs.hwp_page.declared.Entry.{Entry}
use Rattle.hwp_law.specs.hwp_page.declared.Met.TheVariants.{Sigbus}
use Rattle.hwp_law.specs.hwp_page.declared.What.{What}
use Rattle.hwp_law.specs.hwp_page.declared.What.TheVariants as entries
use Rattle.hwp_law.specs.hwp_report_text.declared.Report.{Report}
use Rattle.hwp_law.specs.hwp_script_words.declared.Script.{Script}
use Rattle.hwp_law.specs.Endings.{HasEnded}

-- what stands for no command
abbrev pub never : ℕ
never = 2 ^ 32

-- one more than the highest number of a thread's process
abbrev pub numbers_of : List ThreadDecl → ℕ
numbers_of threads = fold (λ (n : ℕ) (t : ThreadDecl). max n (t.process.0 + 1)) 0 threads

abbrev pub process_numbers : Layout → ℕ
process_numbers layout = numbers_of layout.threads

-- the commands by which the processes had ended, with a signal of this one to a thread
abbrev pub ended_by : ℕ → List ℕ → Option ThreadDecl → List ℕ
ended_by n ends None = ends
ended_by n ends (Some thread) = cond thread.handler ends (slice_set ends thread.process.0 (min n (slice_index_or ends thread.process.0 never)))

abbrev pub signalled : Layout → ℕ → List ℕ → Thread → List ℕ
signalled layout n ends thread = ended_by n ends (slice_get layout.threads thread.0)

-- the same with an entry
abbrev pub ended_in : Layout → ℕ → List ℕ → What → List ℕ
ended_in layout n ends (entries.Load slot line (Sigbus thread)) = signalled layout n ends thread
ended_in layout n ends (entries.Store slot line (Sigbus thread)) = signalled layout n ends thread
ended_in layout n ends (entries.Fail situation required seen signals) = fold (λ (e : List ℕ) (s : Signal). signalled layout n e s.thread) ends signals
ended_in layout n ends _ = ends

-- the same with an entry of the processor; and with one of any: those of others come before all of its commands
abbrev pub own_ended : Layout → Cpu → List ℕ → Entry → List ℕ
own_ended layout cpu ends e = cond (e.who.cpu.0 == cpu.0) (ended_in layout e.who.seq ends e.what) ends

abbrev pub any_ended : Layout → Cpu → List ℕ → Entry → List ℕ
any_ended layout cpu ends e = ended_in layout (cond (e.who.cpu.0 == cpu.0) e.who.seq 0) ends e.what

-- no process had ended
abbrev pub none_ended : Layout → List ℕ
none_ended layout = replicate (process_numbers layout) never

-- by a page's history; and by all histories
abbrev pub page_ends : Layout → Cpu → List Entry → List ℕ
page_ends layout cpu list = fold (any_ended layout cpu) (none_ended layout) list

abbrev pub own_page_ends : Layout → Cpu → List ℕ → List Entry → List ℕ
own_page_ends layout cpu ends list = fold (own_ended layout cpu) ends list

abbrev pub own_ends : Layout → Cpu → List (List Entry) → List ℕ
own_ends layout cpu pages = fold (own_page_ends layout cpu) (none_ended layout) pages

-- those of each page
pub record ArePageEnds (layout : Layout) (cpu : Cpu) (pages : List (List Entry)) (all : List (List ℕ)) : Type 0 where
  pub many : length all ≡ length pages
  pub each : (page : ℕ) (list : List Entry) (ends : List ℕ) → slice_get pages page ≡ Some list → slice_get all page ≡ Some ends → ends ≡ page_ends layout cpu list

-- an earlier command of the processor ended the process
pub record HadEnded (script : Script) (report : Report) (later : Who) (process : Proc) : Type 0 where
  pub who : Who
  pub ended : HasEnded script report who process
  pub before : IsEarlier who later
