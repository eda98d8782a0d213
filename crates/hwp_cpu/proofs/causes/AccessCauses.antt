-- Why an access is answered so, and what it tells of its machine checks.
use Rattle.std.proofs.Common.{◌≡◌, ℕ, Bool, true, false, List, [], ◌∷◌, ◌++◌, Option, Some, refl, sym, ap, ◌∙◌, subst, inl, inr, IsSomeAnd, true≢false}
use Rattle.std.specs.Option.{option_map}
use Rattle.std.proofs.lemmas.Bool.{both_ways}
use Rattle.std.proofs.lemmas.List.{append_assoc}
use Rattle.hwp_law_served.specs.hwp_geom.declared.Layout.{Layout}
use Rattle.hwp_law_served.specs.hwp_geom.declared.Mode.{Mode}
use Rattle.hwp_law_served.specs.hwp_geom.declared.Page.{Page}
use Rattle.hwp_law_served.specs.hwp_geom.declared.Proc.{Proc}
use Rattle.hwp_law_served.specs.hwp_geom.declared.Thread.{Thread}
use Rattle.hwp_law_served.specs.hwp_geom.declared.ThreadDecl.{ThreadDecl}
use Rattle.hwp_law_served.specs.hwp_geom.declared.TransDecl.{TransDecl}
use Rattle.hwp_law_served.specs.hwp_geom.declared.VSlot.{VSlot}
use Rattle.hwp_law_served.specs.hwp_geom.declared.Who.{Who}
use Rattle.hwp_law_served.specs.hwp_banks.declared.Origin.{Origin}
use Rattle.hwp_law_served.specs.hwp_page.declared.At.{At}
use Rattle.hwp_law_served.specs.hwp_page.declared.Met.TheVariants.{Word}
use Rattle.hwp_law_served.specs.hwp_page.declared.What.{What}
use Rattle.hwp_law_served.specs.hwp_page.declared.What.TheVariants as entries
use Rattle.hwp_law_served.specs.hwp_page.Step.{IsOf}
use Rattle.hwp_law_served.specs.hwp_core_rule.declared.Made.{Made}
use Rattle.hwp_law_served.specs.hwp_core_rule.declared.SharedWord.TheVariants as places
use Rattle.hwp_law_served.specs.hwp_core_rule.declared.View.{View}
use Rattle.hwp_law_served.specs.hwp_script_words.declared.Command.{Command}
use Rattle.hwp_law_served.specs.hwp_script_words.declared.Command.TheVariants as commands
use Rattle.hwp_law_served.specs.hwp_report_text.declared.Answer.{Answer}
use Rattle.hwp_law_served.specs.hwp_banks.Banks.{Banks}
use Rattle.hwp_law_served.specs.hwp_law.Commands.{Access, access, access_of, can_fail}
use Rattle.hwp_law_served.specs.hwp_core_rule.Lists.{EachMember}
use Rattle.hwp_law_served.proofs.of_hwp_core_rule.MoreEntries.{each-append}
use Rattle.hwp_law_served.specs.hwp_core_rule.Known.{HasMade, HasMadeBeside, HasOnly, HasOnlyBeside, IsOnTheWay, Precedes, Saw, deeds}
use Rattle.hwp_cpu_command.specs.hwp_fault.declared.AccessAnswer.TheVariants as access_answers
use Rattle.hwp_cpu_command.specs.hwp_fault.declared.AccessKind.{AccessKind}
use Rattle.hwp_cpu_command.specs.hwp_fault.declared.AccessKind.TheVariants as kinds
use Rattle.hwp_cpu_command.specs.hwp_fault.declared.Request.{Request}
use Rattle.hwp_cpu_command.specs.hwp_fault.Accesses.{Answered, IsDeclared, touch_of, what_by, what_of}
use Rattle.hwp_cpu_command.specs.hwp_fault.Touches.{refusal, refusal_by}
use Rattle.hwp_law_served.specs.hwp_claim.declared.EventOutcome.{EventOutcome}
use Rattle.hwp_law_served.specs.hwp_claim.Told.{halts}
use Rattle.hwp_cpu_command.specs.hwp_cpu_access.declared.Instruction.{Instruction}
use Rattle.hwp_cpu_command.specs.hwp_cpu_access.declared.InstructionAnswer.{InstructionAnswer}
use Rattle.hwp_cpu_command.specs.hwp_cpu_access.declared.InstructionAnswer.TheVariants as answers
use Rattle.hwp_cpu_command.specs.hwp_cpu_access.Fits.{IsEnd, IsSignalled}
use Rattle.hwp_cpu_command.specs.hwp_cpu_access.Fits as instruction_fits
use Rattle.hwp_cpu_command.specs.hwp_cpu_access.Instructions as instructions
use Rattle.hwp_law_served.specs.hwp_cpu_row.declared.FrameChange.{FrameChange}
use Rattle.hwp_cpu_command.specs.declared.Job.{Job}
use Rattle.hwp_cpu_command.specs.declared.Job.TheVariants as jobs
use Rattle.hwp_cpu_command.specs.Answers.{instruction_answer}
use Rattle.hwp_cpu_command.specs.Begins.{BeginsAccess, request_of}
use Rattle.hwp_cpu_command.specs.Jobs.{FitsFrom, answer, banks_after, banks_before, told_of}
use Rattle.hwp_cpu_command.specs.Runs.{anew, collects_now}
use Rattle.hwp_cpu_command.proofs.JobEnds.{instruction-ended, instruction-over, mapped}
use Rattle.hwp_cpu_command.proofs.OfKind.{of-instruction}
use Rattle.hwp_law_served.specs.Causes.{IsAnswerCaused, IsBefore, IsMet, FoundGone, FoundNoFrame, FoundStopped, HasOnlyBegun, Reached, SawProcess, WasSignalled}
use Rattle.hwp_law_served.specs.Told.{IsAccessTold}

-- the access, and its own answer
pub record KnowsAccess (base : List Made) (layout : Layout) (view : View) (who : Who) (thread : Thread) (slot : VSlot) (line : ℕ) (kind : AccessKind) (origin : Origin) (mode : Mode) (j : Job) (answer : Answer) : Type 0 where
  pub page : Page
  pub process : Proc
  pub task : Instruction
  pub job_is : j ≡ jobs.Instruction task
  pub request_is : task.request ≡ request_of who thread slot line kind page process
  pub origin_is : task.origin ≡ origin
  pub mode_is : task.mode ≡ mode
  pub fits : instruction_fits.FitsFrom base layout view task
  pub own : InstructionAnswer
  pub said : instructions.answer task ≡ Some own
  pub answer_is : instruction_answer own ≡ answer

pub knows-access : {base : List Made} {layout : Layout} {view : View} {who : Who} {thread : Thread} {slot : VSlot} {line : ℕ} {kind : AccessKind} {origin : Origin} {mode : Mode} (j : Job) {a : Answer} → BeginsAccess layout who thread slot line kind origin mode (banks_before j []) (collects_now j) (anew j) → FitsFrom base layout view j → answer j ≡ Some a
    → KnowsAccess base layout view who thread slot line kind origin mode j a
knows-access {base} {layout} {view} {who} {thread} {slot} {line} {kind} {origin} {mode} j {a} runs fits is = record {
  page = runs.page;
  process = runs.process;
  task = task.0;
  job_is = task.1;
  request_is = ap (λ (i : Instruction). i.request) task.2;
  origin_is = ap (λ (i : Instruction). i.origin) task.2;
  mode_is = ap (λ (i : Instruction). i.mode) task.2;
  fits = subst (FitsFrom base layout view) task.1 fits;
  own = own.0;
  said = own.1;
  answer_is = own.2;
}
  where
    task : (i : Instruction) × (j ≡ jobs.Instruction i) × (instructions.begin i.alloc i.request i.origin i.mode i.before.value i.collects ≡ instructions.begin runs.alloc (request_of who thread slot line kind runs.page runs.process) origin mode (banks_before j []) (collects_now j))
    task = of-instruction j runs.job_is

    own : (x : InstructionAnswer) × (instructions.answer task.0 ≡ Some x) × (instruction_answer x ≡ a)
    own = mapped instruction_answer (instructions.answer task.0) (sym (ap answer task.1) ∙ is)

-- what holds of the request of the task, its lines and its own answer holds of the command
carried : {base : List Made} {layout : Layout} {view : View} {who : Who} {thread : Thread} {slot : VSlot} {line : ℕ} {kind : AccessKind} {origin : Origin} {mode : Mode} {j : Job} {a : Answer} (C : Request → List EventOutcome → Answer → Type 0)
    (k : KnowsAccess base layout view who thread slot line kind origin mode j a) → C k.task.request k.task.lines.told (instruction_answer k.own) → C (request_of who thread slot line kind k.page k.process) (told_of j) a
carried {base} {layout} {view} {who} {thread} {slot} {line} {kind} {origin} {mode} {j} {a} C k has =
    subst (C (request_of who thread slot line kind k.page k.process) (told_of j)) k.answer_is
    (subst (λ (r : Request). C r (told_of j) (instruction_answer k.own)) k.request_is (subst (λ (told : List EventOutcome). C k.task.request told (instruction_answer k.own)) (sym (ap told_of k.job_is)) has))

-- a load is no store
abbrev is_load : AccessKind → Bool
is_load kinds.Load = true
is_load (kinds.Store word) = false

load-no-store : {kind : AccessKind} (word : ℕ) → kind ≡ kinds.Load → kind ≡ kinds.Store word → ⊥
load-no-store word load store = both_ways true (ap is_load (sym load ∙ store)) refl

module _ (layout : Layout) (view : View) (r : Request) (names : IsDeclared layout r) where
  going : {word : ℕ} → Saw view r.who (places.Process r.process) word → SawProcess layout view r.who r.thread word
  going saw = record {
    process = r.process;
    process_is = ap (option_map (λ (t : ThreadDecl). t.process)) names.thread_declared ∙ ap Some names.thread_of;
    saw = saw;
  }

  page-is : IsOf layout r.page r.slot
  page-is = subst (λ (t : Option TransDecl). IsSomeAnd t (λ (d : TransDecl). d.page ≡ r.page)) (sym names.declared) names.page_is

  same-page : (page : Page) → IsOf layout page r.slot → page ≡ r.page
  same-page page is = sym (subst (λ (t : Option TransDecl). IsSomeAnd t (λ (d : TransDecl). d.page ≡ page)) names.declared is) ∙ names.page_is

  -- what an access has made may stand before the entry of its page
  module _ (command : Command) (of : access_of command ≡ Some (access r.thread r.slot r.line)) where
    own-met : (m : Made) → IsSomeAnd (access_of command) (λ (a : Access). IsOf layout m.page a.slot × IsOnTheWay a.slot a.line m.entry.what) → IsOf layout m.page r.slot × IsOnTheWay r.slot r.line m.entry.what
    own-met m own = subst (λ (o : Option Access). IsSomeAnd o (λ (a : Access). IsOf layout m.page a.slot × IsOnTheWay a.slot a.line m.entry.what)) of own

    met-before : (m : Made) → IsMet layout command m → IsBefore r.page r.slot r.line m
    met-before m (inl own) = let is = own-met m own in inl (inl (same-page m.page is.0, is.1))
    met-before m (inr (inl failure)) = inl (inr failure.1)
    met-before m (inr (inr beside)) = inr beside

    before-met : can_fail command ≡ true → (m : Made) → IsBefore r.page r.slot r.line m → IsMet layout command m
    before-met fails m (inl (inl own)) = inl (subst (λ (o : Option Access). IsSomeAnd o (λ (a : Access). IsOf layout m.page a.slot × IsOnTheWay a.slot a.line m.entry.what)) (sym of) (subst (λ (p : Page). IsOf layout p r.slot) (sym own.0) page-is, own.1))
    before-met fails m (inl (inr failure)) = inr (inl (fails, failure))
    before-met fails m (inr beside) = inr (inr beside)

    pub prior-before : (base : List Made) → EachMember (IsMet layout command) base → EachMember (IsBefore r.page r.slot r.line) base
    prior-before base prior i m there = met-before m (prior i m there)

    pub only-met : can_fail command ≡ true → (made : List Made) → EachMember (IsBefore r.page r.slot r.line) made → EachMember (IsMet layout command) made
    only-met fails made only i m there = before-met fails m (only i m there)

  -- where the command had made these entries before
  module _ (base : List Made) (prior : EachMember (IsBefore r.page r.slot r.line) base) where
    all-before : (own : List Made) → EachMember (Precedes r.page r.slot r.line) own → EachMember (IsBefore r.page r.slot r.line) (base ++ own)
    all-before own such = each-append (IsBefore r.page r.slot r.line) base own prior (λ i m there. inl (such i m there))

    pub only-before : HasOnlyBeside base (Precedes r.page r.slot r.line) view r.who → HasOnly (IsBefore r.page r.slot r.line) view r.who
    only-before only = subst (EachMember (IsBefore r.page r.slot r.line)) (sym only.all) (all-before only.own only.such)

    made-before : {page : Page} {place : ℕ} {what : What} → HasMadeBeside base (Precedes r.page r.slot r.line) view r.who page place what → HasMade (IsBefore r.page r.slot r.line) view r.who page place what
    made-before made = record { before = base ++ made.before; last = made.last; all = made.all ∙ sym (append_assoc base made.before (made.last ∷ [])); such = all-before made.before made.such; at = made.at }

    -- the entry that answers the access is its last
    reached : (place : At) (own what : What) → place.page ≡ r.page → own ≡ what → Saw view r.who (places.Process r.process) 0 → HasMadeBeside base (Precedes r.page r.slot r.line) view r.who r.page place.entry own
        → Reached layout view r.who r.thread r.slot r.line place what
    reached place own what same entry alive made = record {
      going = going alive;
      page = subst (λ (p : Page). IsOf layout p r.slot) (sym same) page-is;
      made = subst (λ (p : Page). HasMade (IsBefore p r.slot r.line) view r.who p place.entry what) (sym same) (subst (HasMade (IsBefore r.page r.slot r.line) view r.who r.page place.entry) entry (made-before made));
    }

    refused : (kind : AccessKind) → r.kind ≡ kind → (place : At) → Answered base layout view r (access_answers.Sigbus place) → Reached layout view r.who r.thread r.slot r.line place (refusal_by kind r.slot r.line r.thread)
    refused kind is place has = reached place (refusal r.slot (touch_of r)) (refusal_by kind r.slot r.line r.thread) has.0 (ap (λ (k : AccessKind). refusal_by k r.slot r.line r.thread) is) has.1.alive has.1.made

    no-frame : Answered base layout view r access_answers.NoFrame → FoundNoFrame layout view r.who r.thread r.slot r.line
    no-frame has = record { going = going has.0.alive; available = has.1; page = r.page; page_is = page-is; place = has.2; away = has.3; only = only-before has.0.only }

    gone : (page : Page) → Answered base layout view r (access_answers.Gone page) → FoundGone layout view r.who r.thread page × HasOnlyBegun layout view r.who r.slot r.line
    gone page has = (record { ended = going has.0 }, record { page = r.page; page_is = page-is; only = only-before has.1 })

    -- the command is the access
    module _ (command : Command) (of : access_of command ≡ Some (access r.thread r.slot r.line)) (fails : can_fail command ≡ true) where
      stopped : (told : List EventOutcome) → IsEnd base layout view r told answers.Stopped → FoundStopped layout view r.who command
      stopped told (inl end) = record { stopped = inl end.answered.0; only = only-met command of fails (deeds r.who view) (subst (EachMember (IsBefore r.page r.slot r.line)) (sym end.answered.1) prior) }
      stopped told (inr end) = record { stopped = end.stopped; only = only-met command of fails (deeds r.who view) (only-before end.only) }

      signalled : (told : List EventOutcome) (place : At) → IsSignalled base view r told place → WasSignalled layout view r.who command r.thread told place
      signalled told place end = record { going = going end.going; first = end.first; only = only-met command of fails (deeds r.who view) (only-before end.only) }

module _ (layout : Layout) (earlier : List (Command × Answer)) (view : View) (r : Request) (names : IsDeclared layout r) (base : List Made) (prior : EachMember (IsBefore r.page r.slot r.line) base) (told : List EventOutcome) (did : Option FrameChange) where
  module _ (is : r.kind ≡ kinds.Load) where
    load-value : (word : ℕ) (place : At) → Answered base layout view r (access_answers.Value word place) → IsAnswerCaused layout earlier view r.who (commands.Load r.thread r.slot r.line) told did (instruction_answer (answers.Value word place))
    load-value word place has = (
      record { 0 = has.2.mask },
      reached layout view r names base prior place (what_of r has.2.mask word) (entries.Load r.slot r.line (Word (record { 0 = has.2.mask }) word)) has.1
          (ap (λ (k : AccessKind). what_by k r.slot r.line (record { 0 = has.2.mask }) word) is) has.2.alive has.2.made,
    )

    load : (x : InstructionAnswer) → IsEnd base layout view r told x → IsAnswerCaused layout earlier view r.who (commands.Load r.thread r.slot r.line) told did (instruction_answer x)
    load (answers.Value word place) end = load-value word place end.answered
    load (answers.Stored place) end = absurd (load-no-store end.answered.0 is end.answered.1)
    load (answers.Sigbus place) (inl end) = inl (refused layout view r names base prior kinds.Load is place end.answered)
    load (answers.Sigbus place) (inr end) = inr (signalled layout view r names base prior (commands.Load r.thread r.slot r.line) refl refl told place end)
    load answers.NoFrame end = no-frame layout view r names base prior end.answered
    load (answers.Gone page) end = gone layout view r names base prior page end.answered
    load answers.Stopped end = stopped layout view r names base prior (commands.Load r.thread r.slot r.line) refl refl told end

    fetch : (x : InstructionAnswer) → IsEnd base layout view r told x → IsAnswerCaused layout earlier view r.who (commands.Fetch r.thread r.slot r.line) told did (instruction_answer x)
    fetch (answers.Value word place) end = load-value word place end.answered
    fetch (answers.Stored place) end = absurd (load-no-store end.answered.0 is end.answered.1)
    fetch (answers.Sigbus place) (inl end) = inl (refused layout view r names base prior kinds.Load is place end.answered)
    fetch (answers.Sigbus place) (inr end) = inr (signalled layout view r names base prior (commands.Fetch r.thread r.slot r.line) refl refl told place end)
    fetch answers.NoFrame end = no-frame layout view r names base prior end.answered
    fetch (answers.Gone page) end = gone layout view r names base prior page end.answered
    fetch answers.Stopped end = stopped layout view r names base prior (commands.Fetch r.thread r.slot r.line) refl refl told end

    kload : (x : InstructionAnswer) → IsEnd base layout view r told x → IsAnswerCaused layout earlier view r.who (commands.KLoad r.thread r.slot r.line) told did (instruction_answer x)
    kload (answers.Value word place) end = load-value word place end.answered
    kload (answers.Stored place) end = absurd (load-no-store end.answered.0 is end.answered.1)
    kload (answers.Sigbus place) (inl end) = inl (refused layout view r names base prior kinds.Load is place end.answered)
    kload (answers.Sigbus place) (inr end) = inr (signalled layout view r names base prior (commands.KLoad r.thread r.slot r.line) refl refl told place end)
    kload answers.NoFrame end = no-frame layout view r names base prior end.answered
    kload (answers.Gone page) end = gone layout view r names base prior page end.answered
    kload answers.Stopped end = stopped layout view r names base prior (commands.KLoad r.thread r.slot r.line) refl refl told end

  module _ (word : ℕ) (is : r.kind ≡ kinds.Store word) where
    store : (x : InstructionAnswer) → IsEnd base layout view r told x → IsAnswerCaused layout earlier view r.who (commands.Store r.thread r.slot r.line word) told did (instruction_answer x)
    store (answers.Value found place) end = absurd (load-no-store word end.answered.0 is)
    store (answers.Stored place) end = let has = end.answered in (
      record { 0 = has.3.mask },
      reached layout view r names base prior place (what_of r has.3.mask has.0) (entries.Store r.slot r.line (Word (record { 0 = has.3.mask }) word)) has.2
          (ap (λ (k : AccessKind). what_by k r.slot r.line (record { 0 = has.3.mask }) has.0) is) has.3.alive has.3.made,
    )
    store (answers.Sigbus place) (inl end) = inl (refused layout view r names base prior (kinds.Store word) is place end.answered)
    store (answers.Sigbus place) (inr end) = inr (signalled layout view r names base prior (commands.Store r.thread r.slot r.line word) refl refl told place end)
    store answers.NoFrame end = no-frame layout view r names base prior end.answered
    store (answers.Gone page) end = gone layout view r names base prior page end.answered
    store answers.Stopped end = stopped layout view r names base prior (commands.Store r.thread r.slot r.line word) refl refl told end

-- what the command had made before its access may stand before the entry of the access
prior-of : {base : List Made} {layout : Layout} {view : View} {who : Who} {thread : Thread} {slot : VSlot} {line : ℕ} {kind : AccessKind} {origin : Origin} {mode : Mode} {j : Job} {a : Answer} (k : KnowsAccess base layout view who thread slot line kind origin mode j a) (command : Command)
    → access_of command ≡ Some (access thread slot line) → EachMember (IsMet layout command) base → EachMember (IsBefore k.task.request.page k.task.request.slot k.task.request.line) base
prior-of {base} {layout} {view} k command of prior = prior-before layout view k.task.request k.fits.names command (of ∙ ap (λ (r : Request). Some (access r.thread r.slot r.line)) (sym k.request_is)) base prior

module _ (earlier : List (Command × Answer)) {layout : Layout} {view : View} {who : Who} {thread : Thread} {slot : VSlot} {line : ℕ} {origin : Origin} {mode : Mode} {j : Job} {a : Answer} (did : Option FrameChange) where
  pub load-caused : {base : List Made} → KnowsAccess base layout view who thread slot line kinds.Load origin mode j a → EachMember (IsMet layout (commands.Load thread slot line)) base → IsAnswerCaused layout earlier view who (commands.Load thread slot line) (told_of j) did a
  load-caused {base} k prior = carried (λ (r : Request) (told : List EventOutcome) (x : Answer). IsAnswerCaused layout earlier view r.who (commands.Load r.thread r.slot r.line) told did x) k
      (load layout earlier view k.task.request k.fits.names base (prior-of k (commands.Load thread slot line) refl prior) k.task.lines.told did (ap (λ (r : Request). r.kind) k.request_is) k.own (instruction-ended k.task k.fits k.said).ended)

  pub fetch-caused : {base : List Made} → KnowsAccess base layout view who thread slot line kinds.Load origin mode j a → EachMember (IsMet layout (commands.Fetch thread slot line)) base → IsAnswerCaused layout earlier view who (commands.Fetch thread slot line) (told_of j) did a
  fetch-caused {base} k prior = carried (λ (r : Request) (told : List EventOutcome) (x : Answer). IsAnswerCaused layout earlier view r.who (commands.Fetch r.thread r.slot r.line) told did x) k
      (fetch layout earlier view k.task.request k.fits.names base (prior-of k (commands.Fetch thread slot line) refl prior) k.task.lines.told did (ap (λ (r : Request). r.kind) k.request_is) k.own (instruction-ended k.task k.fits k.said).ended)

  pub kload-caused : {base : List Made} → KnowsAccess base layout view who thread slot line kinds.Load origin mode j a → EachMember (IsMet layout (commands.KLoad thread slot line)) base → IsAnswerCaused layout earlier view who (commands.KLoad thread slot line) (told_of j) did a
  kload-caused {base} k prior = carried (λ (r : Request) (told : List EventOutcome) (x : Answer). IsAnswerCaused layout earlier view r.who (commands.KLoad r.thread r.slot r.line) told did x) k
      (kload layout earlier view k.task.request k.fits.names base (prior-of k (commands.KLoad thread slot line) refl prior) k.task.lines.told did (ap (λ (r : Request). r.kind) k.request_is) k.own (instruction-ended k.task k.fits k.said).ended)

  pub store-caused : {base : List Made} {word : ℕ} → KnowsAccess base layout view who thread slot line (kinds.Store word) origin mode j a → EachMember (IsMet layout (commands.Store thread slot line word)) base → IsAnswerCaused layout earlier view who (commands.Store thread slot line word) (told_of j) did a
  store-caused {base} {word} k prior = carried (λ (r : Request) (told : List EventOutcome) (x : Answer). IsAnswerCaused layout earlier view r.who (commands.Store r.thread r.slot r.line word) told did x) k
      (store layout earlier view k.task.request k.fits.names base (prior-of k (commands.Store thread slot line word) refl prior) k.task.lines.told did word (ap (λ (r : Request). r.kind) k.request_is) k.own (instruction-ended k.task k.fits k.said).ended)

-- ---- what an access tells

-- none of its events stopped the machine where the access goes on
goes-on : {A : Type 0} (told : List EventOutcome) → halts told ≡ false → halts told ≡ true → A
goes-on told off on = absurd (true≢false (sym on ∙ off))

module _ {base : List Made} {layout : Layout} {view : View} {who : Who} {thread : Thread} {slot : VSlot} {line : ℕ} {kind : AccessKind} {origin : Origin} {mode : Mode} {j : Job} {a : Answer} (k : KnowsAccess base layout view who thread slot line kind origin mode j a) where
  task-told : IsAccessTold layout view k.task.request.who k.task.request.thread k.task.request.line k.task.origin k.task.mode k.task.before.value k.task.lines.told k.task.banks
  task-told = record {
    checks = k.fits.checks;
    count = sym (instruction-ended k.task k.fits k.said).made;
    are = k.fits.checked;
    told_is = k.fits.told_is;
    after_is = k.fits.banks_are ∙ ap (instruction_fits.banks_at k.task.before.value k.fits.checks) (instruction-over k.task k.said);
  }

  pub access-told : (kept : Banks) → IsAccessTold layout view who thread line origin mode (banks_before j kept) (told_of j) (banks_after j kept)
  access-told kept = subst (λ (q : Job). IsAccessTold layout view who thread line origin mode (banks_before q kept) (told_of q) (banks_after q kept)) (sym k.job_is)
      (subst (λ (m : Mode). IsAccessTold layout view who thread line origin m k.task.before.value k.task.lines.told k.task.banks) k.mode_is
      (subst (λ (o : Origin). IsAccessTold layout view who thread line o k.task.mode k.task.before.value k.task.lines.told k.task.banks) k.origin_is
      (subst (λ (r : Request). IsAccessTold layout view r.who r.thread r.line k.task.origin k.task.mode k.task.before.value k.task.lines.told k.task.banks) k.request_is task-told)))

  task-heeded : (told : List EventOutcome) (x : InstructionAnswer) → IsEnd base layout view k.task.request told x → halts told ≡ true → instruction_answer x ≡ instruction_answer answers.Stopped
  task-heeded told (answers.Value word place) end halted = goes-on told end.lets.halts_none halted
  task-heeded told (answers.Stored place) end halted = goes-on told end.lets.halts_none halted
  task-heeded told (answers.Sigbus place) (inl end) halted = goes-on told end.lets.halts_none halted
  task-heeded told (answers.Sigbus place) (inr end) halted = goes-on told end.halts_none halted
  task-heeded told answers.NoFrame end halted = goes-on told end.lets.halts_none halted
  task-heeded told (answers.Gone page) end halted = goes-on told end.lets.halts_none halted
  task-heeded told answers.Stopped end halted = refl

  pub access-heeded : halts (told_of j) ≡ true → a ≡ instruction_answer answers.Stopped
  access-heeded halted = sym k.answer_is ∙ task-heeded k.task.lines.told k.own (instruction-ended k.task k.fits k.said).ended (sym (ap (λ (q : Job). halts (told_of q)) k.job_is) ∙ halted)
