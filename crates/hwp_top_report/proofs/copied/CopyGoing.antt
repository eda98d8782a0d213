-- A command of a process's threads saw its process going on, or is answered that it is over; also a store that copied a page first.
use Rattle.std.proofs.Common.{◌≡◌, ◌⊎◌, inl, inr, ℕ, ◌+◌, List, Option, None, Some, option_and_then, refl, sym, ap, ◌∙◌, subst}
use Rattle.std.proofs.lemmas.Option.{same_Some}
use Rattle.hwp_law_served.specs.hwp_geom.declared.Layout.{Layout}
use Rattle.hwp_law_served.specs.hwp_geom.declared.Page.{Page}
use Rattle.hwp_law_served.specs.hwp_geom.declared.Proc.{Proc}
use Rattle.hwp_law_served.specs.hwp_geom.declared.Thread.{Thread}
use Rattle.hwp_law_served.specs.hwp_geom.declared.VSlot.{VSlot}
use Rattle.hwp_law_served.specs.hwp_geom.declared.Who.{Who}
use Rattle.hwp_law_served.specs.hwp_banks.Banks.{Banks}
use Rattle.hwp_law_served.specs.hwp_core_rule.declared.Made.{Made}
use Rattle.hwp_law_served.specs.hwp_core_rule.declared.SharedWord.TheVariants as places
use Rattle.hwp_law_served.specs.hwp_core_rule.declared.View.{View}
use Rattle.hwp_law_served.specs.hwp_core_rule.Known.{Saw}
use Rattle.hwp_law_served.specs.hwp_script_words.declared.Command.{Command}
use Rattle.hwp_law_served.specs.hwp_script_words.declared.Command.TheVariants as commands
use Rattle.hwp_law_served.specs.hwp_report_text.declared.Answer.{Answer}
use Rattle.hwp_law_served.specs.hwp_report_text.declared.Answer.TheVariants as answers
use Rattle.hwp_law_served.specs.hwp_law.Commands.{process_of_thread, thread_of}
use Rattle.hwp_law_served.specs.hwp_law.Endings.{IsOver}
use Rattle.hwp_law_served.specs.hwp_claim.declared.EventOutcome.{EventOutcome}
use Rattle.hwp_law_served.specs.hwp_cpu_row.declared.FrameChange.{FrameChange}
use Rattle.hwp_law_served.specs.hwp_fault.declared.Request.{Request}
use Rattle.hwp_law_served.specs.hwp_fork.declared.cow.Sub.{Sub}
use Rattle.hwp_law_served.specs.hwp_cpu_access.Runs.{Run}
use Rattle.hwp_law_served.specs.Causes.{FoundGone, IsCausedWith, SawProcess}
use Rattle.hwp_law_served.specs.Copied.{IsCopyEnded, IsGoing, store_by}

-- what such a store saw of its process
pub saw-going : (layout : Layout) (view : View) (store : Request) → IsGoing layout view store → SawProcess layout view store.who store.thread 0
saw-going layout view store going = record { process = store.process; process_is = going.process_is; saw = going.saw }

pub copy-goes : (layout : Layout) (view : View) (store : Request) (page : Page) (sub : Sub) (runs : List Run) (rest : List Made) (told : List EventOutcome) (answer : Answer) → IsCopyEnded layout view store page sub runs rest told answer → IsOver answer ⊎ SawProcess layout view store.who store.thread 0
copy-goes layout view store page sub runs rest told (answers.Stored at) (going, is) = inr (saw-going layout view store going)
copy-goes layout view store page sub runs rest told (answers.Sigbus at) (going, is) = inr (saw-going layout view store going)
copy-goes layout view store page sub runs rest told answers.NoFrame (going, is) = inr (saw-going layout view store going)
copy-goes layout view store page sub runs rest told (answers.Gone ended) is = inl tt
copy-goes layout view store page sub runs rest told answers.Stopped is = inl tt
copy-goes layout view store page sub runs rest told answers.GuestBad (going, begun, is) = inr (saw-going layout view store going)
copy-goes layout view store page sub runs rest told answers.GuestStopped (going, begun, is) = inr (saw-going layout view store going)
copy-goes layout view store page sub runs rest told _ is = absurd is

pub copy-gone : (layout : Layout) (view : View) (store : Request) (page : Page) (sub : Sub) (runs : List Run) (rest : List Made) (told : List EventOutcome) (ended : Page) → IsCopyEnded layout view store page sub runs rest told (answers.Gone ended) → FoundGone layout view store.who store.thread ended
copy-gone layout view store page sub runs rest told ended is = record { ended = record { process = store.process; process_is = is.process_is; saw = is.saw } }
