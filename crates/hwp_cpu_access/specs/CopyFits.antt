-- What is held and known while a page is copied for a store. This project's rule.
use Rattle.std.specs.Prelude.{◌≡◌, Bool, true, false, List, [], ◌∷◌, ◌++◌, Option, Some, None, length}
use Rattle.hwp_fault.specs.hwp_geom.declared.Layout.{Layout}
use Rattle.hwp_fault.specs.hwp_geom.declared.Mode.TheVariants as modes
use Rattle.hwp_fault.specs.hwp_geom.Layout.{IsSound}
use Rattle.hwp_fault.specs.hwp_page.declared.At.{At}
use Rattle.hwp_fault.specs.hwp_core_rule.declared.Made.{Made}
use Rattle.hwp_fault.specs.hwp_core_rule.declared.SharedWord.TheVariants as places
use Rattle.hwp_fault.specs.hwp_core_rule.declared.View.{View}
use Rattle.hwp_fault.specs.hwp_core_rule.Lists.{EachMember}
use Rattle.hwp_fault.specs.hwp_core_rule.Calls.{IsOnTurn}
use Rattle.hwp_fault.specs.hwp_core_rule.Hands.{hand_of, empty}
use Rattle.hwp_fault.specs.hwp_core_rule.Known.{HasMadeNoneBeside, Saw, SawStop}
use Rattle.hwp_fault.specs.hwp_core_rule.Turns.{Member}
use Rattle.hwp_fault.specs.declared.AccessKind.TheVariants as kinds
use Rattle.hwp_fault.specs.declared.Request.{Request}
use Rattle.hwp_fault.specs.Accesses as accesses
use Rattle.hwp_claim.specs.Checks.{left_by, lines_of}
use Rattle.hwp_claim.specs.hwp_banks.Events.{bank_count}
use Rattle.hwp_claim.specs.hwp_banks.declared.Origin.TheVariants as origins
use Rattle.hwp_fault.specs.hwp_evict.declared.evict.Evict.{Evict}
use Rattle.hwp_fault.specs.hwp_evict.declared.evict.Eviction.TheVariants as evictions
use Rattle.hwp_fault.specs.hwp_evict.Evicts as evicts
use Rattle.hwp_fork.specs.declared.cow.Cow.{Cow}
use Rattle.hwp_fork.specs.declared.cow.Sub.TheVariants as subs
use Rattle.hwp_fork.specs.Cows as cows
use Rattle.hwp_cpu_access.specs.declared.instruction.InstructionAnswer.{InstructionAnswer}
use Rattle.hwp_cpu_access.specs.declared.instruction.InstructionAnswer.TheVariants as answers
use Rattle.hwp_cpu_access.specs.declared.instruction.Pause.{Pause}
use Rattle.hwp_cpu_access.specs.Fits as instruction_fits
use Rattle.hwp_cpu_access.specs.Fits.{LetsGoOn, checks_in}
use Rattle.hwp_cpu_access.specs.Instructions as instructions
use Rattle.hwp_cpu_access.specs.declared.copying.Copying.{Copying}
use Rattle.hwp_cpu_access.specs.declared.copying.CopyingAt.{CopyingAt}
use Rattle.hwp_cpu_access.specs.declared.copying.CopyingAt.TheVariants as at
use Rattle.hwp_cpu_access.specs.Copyings.{Follows, Shows, bare, load_of, plan, put, request_by}
use Rattle.hwp_cpu_access.specs.CopyCosts.{aborts, claims, class, cost}
use Rattle.hwp_cpu_access.specs.Looks.{HasInView}
use Rattle.hwp_cpu_access.specs.Runs.{AreRuns, IsBetween, LooksLast, Run, checks_by, made_by, words_of}

-- the copy at its beginning
abbrev pub begun : Cow → Cow
begun cow = cows.begin cow.v cow.w cow.line cow.x

-- what is asked for, by names of the layout; and the accesses that went well so far, in the order of the copy, none of which stopped the
-- machine or signalled the thread
pub record HasRun (layout : Layout) (view : View) (c : Copying) (runs : List Run) : Type 0 where
  pub sound : IsSound layout
  pub names : accesses.IsDeclared layout c.store
  pub own : accesses.IsDeclared layout (load_of c.store c.page c.cow.v 0)
  pub kind : c.store.kind ≡ kinds.Store c.cow.x
  pub twin : c.cow.w ≡ c.store.slot
  pub line : c.cow.line ≡ c.store.line
  pub user : c.instruction.mode ≡ modes.User
  pub origin : c.instruction.origin ≡ origins.Access
  pub three : length c.instruction.before.value ≡ bank_count
  pub cow_is : c.cow ≡ cows.told_all (begun c.cow) (words_of runs)
  pub are : AreRuns layout view c.store c.page (begun c.cow) c.instruction.before.value runs
  pub lets : LetsGoOn (lines_of (checks_by runs))

-- all lines of the command are those of the accesses that went well
pub record HasTold (c : Copying) (runs : List Run) : Type 0 where
  pub told_is : c.instruction.lines.told ≡ lines_of (checks_by runs)
  pub banks_are : c.instruction.banks ≡ left_by c.instruction.before.value (checks_by runs)

-- the thread's process hasn't ended
abbrev pub IsGoing : View → Request → Type 0
IsGoing view store = Saw view store.who (places.Process store.process) 0

-- the place is that of the last access
abbrev pub IsLastPlace : List Run → At → Type 0
IsLastPlace runs place = (front : List Run) × (last : Run) × (runs ≡ front ++ last ∷ []) × (last.place ≡ place)

abbrev pub is_well : Option InstructionAnswer → Bool
is_well (Some (answers.Value word place)) = true
is_well (Some (answers.Stored place)) = true
is_well _ = false

-- the access that comes goes on, behind the entries that it has made before its last pause, if any; or it answers the command
pub record IsAccessing (base : List Made) (layout : Layout) (view : View) (c : Copying) (runs : List Run) : Type 0 where
  pub since : List Made
  pub such : EachMember (IsBetween c.instruction.request) since
  pub instruction : instruction_fits.FitsBehind (base ++ (made_by runs ++ since)) (checks_by runs) layout view c.instruction
  pub request_is : request_by c.store c.page (cows.sub_of c.cow) ≡ Some c.instruction.request
  pub unwell : is_well (instructions.answer c.instruction) ≡ false

-- all lines are copied, the store is made, and the translation is freed; the history that the freeing takes has all that the command made
-- in the page before
pub record IsFreeing (base : List Made) (layout : Layout) (view : View) (c : Copying) (runs : List Run) (e : Evict) (stored : At) : Type 0 where
  pub evict : evicts.FitsFrom (base ++ made_by runs) layout view e
  pub evict_is : e ≡ record (evicts.begin c.store.who c.page (evictions.Free c.cow.v)) { at = e.at }
  pub sub_is : cows.sub_of c.cow ≡ subs.Free c.cow.v
  pub unanswered : evicts.answer e ≡ None
  pub looks : HasInView c.page (made_by runs) e.at
  pub paid : view.owed.losses ≡ []
  pub told : HasTold c runs
  pub going : IsGoing view c.store
  pub last : IsLastPlace runs stored

-- the twin has taken the place of the translation: the command made the entries of all accesses and of the freeing, and no others
pub record HasCopied (base : List Made) (view : View) (c : Copying) (runs : List Run) (place : At) : Type 0 where
  pub sub_is : cows.sub_of c.cow ≡ subs.Switched
  pub all : HasMadeNoneBeside (base ++ made_by runs) view c.store.who
  pub accesses : List Run
  pub freed : Run
  pub runs_are : runs ≡ accesses ++ freed ∷ []
  pub looks : LooksLast c.page accesses freed
  pub last : IsLastPlace accesses place

-- the freeing found that the machine has stopped
pub record FoundStopped (base : List Made) (view : View) (c : Copying) (runs : List Run) : Type 0 where
  pub sub_is : cows.sub_of c.cow ≡ subs.Free c.cow.v
  pub all : HasMadeNoneBeside (base ++ made_by runs) view c.store.who
  pub saw : SawStop view c.store.who

abbrev pub IsEnd : List Made → View → Copying → List Run → InstructionAnswer → Type 0
IsEnd base view c runs (answers.Stored place) = HasCopied base view c runs place
IsEnd base view c runs answers.Stopped = FoundStopped base view c runs
IsEnd base view c runs _ = ⊥

-- nothing is held any more, and the answer has its cause
pub record IsOver (base : List Made) (view : View) (c : Copying) (runs : List Run) (answer : InstructionAnswer) : Type 0 where
  pub hand_is : hand_of view ≡ empty
  pub paid : view.owed.losses ≡ []
  pub told : HasTold c runs
  pub going : IsGoing view c.store
  pub ended : IsEnd base view c runs answer

abbrev pub FitsAt : List Made → Layout → View → Copying → List Run → CopyingAt → Type 0
FitsAt base layout view c runs at.Access = IsAccessing base layout view c runs
FitsAt base layout view c runs (at.Free e stored) = IsFreeing base layout view c runs e stored
FitsAt base layout view c runs (at.Over answer) = IsOver base view c runs answer

-- the command had made these entries before, none of them of a machine check
pub record FitsFrom (base : List Made) (layout : Layout) (view : View) (c : Copying) : Type 0 where
  pub on_turn : IsOnTurn view c.store.who
  pub unchecked : checks_in base ≡ 0
  pub runs : List Run
  pub has : HasRun layout view c runs
  pub at : FitsAt base layout view c runs c.at

-- what stays at a pause while another task of the command goes on
pub record IsResting (base : List Made) (layout : Layout) (view : View) (c : Copying) (pause : Pause) : Type 0 where
  pub unchecked : checks_in base ≡ 0
  pub runs : List Run
  pub has : HasRun layout view c runs
  pub at_is : c.at ≡ at.Access
  pub since : List Made
  pub such : EachMember (IsBetween c.instruction.request) since
  pub all : HasMadeNoneBeside (base ++ (made_by runs ++ since)) view c.store.who
  pub request_is : request_by c.store c.page (cows.sub_of c.cow) ≡ Some c.instruction.request
  pub rests : instruction_fits.IsRestingBehind (checks_by runs) layout view c.instruction pause

-- whatever the command had made before
abbrev pub Fits : Layout → View → Copying → Type 0
Fits layout view c = (base : List Made) × FitsFrom base layout view c

-- the task, as the laws of tasks read it
abbrev pub task : Member Copying
task = record {
  who = λ c. c.store.who;
  plan = plan;
  put = put;
  bare = bare;
  shows = Shows;
  next = Follows;
  fits = Fits;
  class = class;
  cost = cost;
  aborts = aborts;
  claims = claims;
}
