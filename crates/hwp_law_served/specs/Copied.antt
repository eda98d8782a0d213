-- A store whose page is copied first: what its command made, why it was answered so, and what it tells of its machine checks. This project's
-- rule.
use Rattle.std.specs.Prelude.{◌≡◌, ◌⊎◌, ℕ, ◌+◌, List, [], ◌∷◌, ◌++◌, Option, None, Some, length}
use Rattle.hwp_law.specs.hwp_geom.declared.Layout.{Layout}
use Rattle.hwp_law.specs.hwp_geom.declared.Mode.TheVariants as modes
use Rattle.hwp_law.specs.hwp_geom.declared.Page.{Page}
use Rattle.hwp_law.specs.hwp_geom.declared.Proc.{Proc}
use Rattle.hwp_law.specs.hwp_geom.declared.Thread.{Thread}
use Rattle.hwp_law.specs.hwp_geom.declared.VSlot.{VSlot}
use Rattle.hwp_law.specs.hwp_geom.declared.Who.{Who}
use Rattle.hwp_law.specs.hwp_page.declared.At.{At}
use Rattle.hwp_law.specs.hwp_page.Refusals.{IsAway}
use Rattle.hwp_law.specs.hwp_banks.declared.Origin.TheVariants as origins
use Rattle.hwp_law.specs.hwp_banks.Banks.{Banks}
use Rattle.hwp_plain.specs.hwp_core_rule.declared.Made.{Made}
use Rattle.hwp_plain.specs.hwp_core_rule.declared.SharedWord.TheVariants as places
use Rattle.hwp_plain.specs.hwp_core_rule.declared.View.{View}
use Rattle.hwp_plain.specs.hwp_core_rule.Lists.{EachMember, SomeMember}
use Rattle.hwp_plain.specs.hwp_core_rule.Known.{IsAt, Saw, SawStop, deeds}
use Rattle.hwp_plain.specs.hwp_core_rule.Pages.{SawState}
use Rattle.hwp_law.specs.hwp_report_text.declared.Answer.{Answer}
use Rattle.hwp_law.specs.hwp_report_text.declared.Answer.TheVariants as answers
use Rattle.hwp_law.specs.Commands.{process_of_thread}
use Rattle.hwp_cpu_row.specs.hwp_claim.declared.EventOutcome.{EventOutcome}
use Rattle.hwp_cpu_row.specs.hwp_claim.Checks.{Check, left_by, lines_of}
use Rattle.hwp_cpu_row.specs.hwp_claim.Told.{first_signal}
use Rattle.hwp_cpu_access.specs.hwp_fault.declared.AccessKind.TheVariants as kinds
use Rattle.hwp_cpu_access.specs.hwp_fault.declared.Request.{Request}
use Rattle.hwp_cpu_access.specs.hwp_fault.Accesses as accesses
use Rattle.hwp_cpu_access.specs.hwp_fault.Touches.{refusal_by}
use Rattle.hwp_cpu_access.specs.hwp_fork.declared.cow.Sub.{Sub}
use Rattle.hwp_cpu_access.specs.hwp_fork.declared.cow.Sub.TheVariants as subs
use Rattle.hwp_cpu_access.specs.hwp_fork.Cows as cows
use Rattle.hwp_cpu_access.specs.Checks.{AreChecks}
use Rattle.hwp_cpu_access.specs.Fits.{LetsGoOn, checks_in}
use Rattle.hwp_cpu_access.specs.Copyings.{load_of, request_by}
use Rattle.hwp_cpu_access.specs.CopyFits.{IsLastPlace}
use Rattle.hwp_cpu_access.specs.Runs.{AreRuns, IsBetween, LooksLast, Run, checks_by, made_by, words_of}

-- the store of the word through the twin `to`, as its accesses ask for it
abbrev pub store_by : Who → Thread → VSlot → ℕ → ℕ → Page → Proc → Request
store_by who thread to line word page process = record { who = who; thread = thread; slot = to; line = line; kind = kinds.Store word; page = page; process = process }

-- the store copied the page of `from`, with this in the banks before: the accesses that went well, in the order of the copy, and what its
-- command made behind them; none of their machine checks stopped the machine or signalled the thread
pub record HasCopied (layout : Layout) (view : View) (store : Request) (from : VSlot) (word : ℕ) (before : Banks) : Type 0 where
  pub names : accesses.IsDeclared layout store
  pub page : Page
  pub own : accesses.IsDeclared layout (load_of store page from 0)
  pub runs : List Run
  pub are : AreRuns layout view store page (cows.begin from store.slot store.line word) before runs
  pub lets : LetsGoOn (lines_of (checks_by runs))
  pub rest : List Made
  pub all : deeds store.who view ≡ made_by runs ++ rest

-- the access that comes behind them
abbrev pub sub_next : Request → VSlot → ℕ → List Run → Sub
sub_next store from word runs = cows.sub_of (cows.told_all (cows.begin from store.slot store.line word) (words_of runs))

-- ---- why it was answered so

-- a step of the command showed that the thread's process hasn't ended
pub record IsGoing (layout : Layout) (view : View) (store : Request) : Type 0 where
  pub process_is : process_of_thread layout store.thread ≡ Some store.process
  pub saw : Saw view store.who (places.Process store.process) 0

-- by the access that comes the command made these, none of which answers it
pub record IsBehind (store : Request) (page : Page) (sub : Sub) (rest : List Made) : Type 0 where
  pub access : Request
  pub access_is : request_by store page sub ≡ Some access
  pub such : EachMember (IsBetween access) rest

-- the accesses were all, with no machine check beside theirs, and the place is that of the last one, the store itself; the freeing is
-- behind it, and if it made no entry it saw the page behind all of their entries there
pub record HasSwitched (page : Page) (sub : Sub) (runs : List Run) (rest : List Made) (told : List EventOutcome) (at : At) : Type 0 where
  pub sub_is : sub ≡ subs.Switched
  pub rest_is : rest ≡ []
  pub told_is : told ≡ lines_of (checks_by runs)
  pub stores : List Run
  pub freed : Run
  pub runs_are : runs ≡ stores ++ freed ∷ []
  pub last : IsLastPlace stores at
  pub looks : LooksLast page stores freed

-- the access that comes was answered by SIGBUS, by its entry at the place
pub record IsRefused (store : Request) (page : Page) (sub : Sub) (rest : List Made) (at : At) : Type 0 where
  pub front : List Made
  pub last : Made
  pub rest_is : rest ≡ front ++ last ∷ []
  pub behind : IsBehind store page sub front
  pub page_is : at.page ≡ behind.access.page
  pub refused : IsAt at.page at.entry (refusal_by behind.access.kind behind.access.slot behind.access.line behind.access.thread) last

-- a failure of its own machine checks, behind those of the accesses that went well, signalled the thread, first by the entry at the place
pub record IsSignalled (store : Request) (page : Page) (sub : Sub) (runs : List Run) (rest : List Made) (told : List EventOutcome) (at : At) : Type 0 where
  pub first : first_signal told ≡ Some at
  pub own : List EventOutcome
  pub told_is : told ≡ lines_of (checks_by runs) ++ own
  pub behind : IsBehind store page sub rest

-- no frame was available, and the access that comes found its page in none
pub record FoundNone (layout : Layout) (view : View) (store : Request) (page : Page) (sub : Sub) (rest : List Made) : Type 0 where
  pub available : Saw view store.who places.Available 0
  pub behind : IsBehind store page sub rest
  pub place : ℕ
  pub away : SawState layout view store.who behind.access.page place IsAway

-- the process had ended, by a signal in the history of this page
pub record FoundEnded (layout : Layout) (view : View) (store : Request) (page : Page) (sub : Sub) (rest : List Made) (ended : Page) : Type 0 where
  pub process_is : process_of_thread layout store.thread ≡ Some store.process
  pub saw : Saw view store.who (places.Process store.process) (ended.0 + 1)
  pub behind : IsBehind store page sub rest

-- the freeing comes, and found that the machine had stopped
pub record IsStoppedFreeing (view : View) (store : Request) (sub : Sub) (rest : List Made) : Type 0 where
  pub slot : VSlot
  pub sub_is : sub ≡ subs.Free slot
  pub rest_is : rest ≡ []
  pub saw : SawStop view store.who

-- the machine had stopped, as the access that comes found, or the command stopped it itself; or the freeing found so
pub record WasStopped (view : View) (store : Request) (page : Page) (sub : Sub) (rest : List Made) : Type 0 where
  pub stopped : SawStop view store.who ⊎ SomeMember (λ (w : Who). w ≡ store.who) view.stops
  pub behind : IsBehind store page sub rest ⊎ IsStoppedFreeing view store sub rest

abbrev pub IsCopyEnded : Layout → View → Request → Page → Sub → List Run → List Made → List EventOutcome → Answer → Type 0
IsCopyEnded layout view store page sub runs rest told (answers.Stored at) = IsGoing layout view store × HasSwitched page sub runs rest told at
IsCopyEnded layout view store page sub runs rest told (answers.Sigbus at) = IsGoing layout view store × (IsRefused store page sub rest at ⊎ IsSignalled store page sub runs rest told at)
IsCopyEnded layout view store page sub runs rest told answers.NoFrame = IsGoing layout view store × FoundNone layout view store page sub rest
IsCopyEnded layout view store page sub runs rest told (answers.Gone ended) = FoundEnded layout view store page sub rest ended
IsCopyEnded layout view store page sub runs rest told answers.Stopped = WasStopped view store page sub rest
IsCopyEnded layout view store page sub runs rest told answers.GuestBad = IsGoing layout view store × (runs ≡ []) × (rest ≡ [])
IsCopyEnded layout view store page sub runs rest told answers.GuestStopped = IsGoing layout view store × (runs ≡ []) × (rest ≡ [])
IsCopyEnded layout view store page sub runs rest told _ = ⊥

pub record IsCopyCaused (layout : Layout) (view : View) (who : Who) (thread : Thread) (from to : VSlot) (line word : ℕ) (before : Banks) (told : List EventOutcome) (answer : Answer) : Type 0 where
  pub page : Page
  pub process : Proc
  pub has : HasCopied layout view (store_by who thread to line word page process) from word before
  pub ended : IsCopyEnded layout view (store_by who thread to line word page process) has.page (sub_next (store_by who thread to line word page process) from word has.runs) has.runs has.rest told answer

-- ---- what it tells

-- the machine checks of the access that comes, if one does
abbrev pub AreChecksOf : Layout → View → Option Request → Banks → List Check → Type 0
AreChecksOf layout view None banks checks = checks ≡ []
AreChecksOf layout view (Some access) banks checks = AreChecks layout view access origins.Access modes.User banks checks

-- these entries stand behind the accesses that went well: the first of them are on the way of the access that comes, if one does, and the
-- machine checks among all are among those
pub record IsLeft (comes : Option Request) (rest : List Made) : Type 0 where
  pub way : List Made
  pub behind : List Made
  pub rest_is : rest ≡ way ++ behind
  pub such : (a : Request) → comes ≡ Some a → EachMember (IsBetween a) way
  pub unchecked : checks_in behind ≡ 0

-- the machine checks of the accesses that went well, and behind them those of the one that comes
pub record IsCopyTold (layout : Layout) (view : View) (who : Who) (thread : Thread) (from to : VSlot) (line word : ℕ) (before : Banks) (told : List EventOutcome) (after : Banks) : Type 0 where
  pub page : Page
  pub process : Proc
  pub has : HasCopied layout view (store_by who thread to line word page process) from word before
  pub last : List Check
  pub are : AreChecksOf layout view (request_by (store_by who thread to line word page process) has.page (sub_next (store_by who thread to line word page process) from word has.runs)) (left_by before (checks_by has.runs)) last
  pub left : IsLeft (request_by (store_by who thread to line word page process) has.page (sub_next (store_by who thread to line word page process) from word has.runs)) has.rest
  pub counted : checks_in has.rest ≡ length last
  pub told_is : told ≡ lines_of (checks_by has.runs ++ last)
  pub after_is : after ≡ left_by before (checks_by has.runs ++ last)
