-- Why an access that its guest doesn't admit is answered so: it looked whether the machine and its process go on, and did nothing else.
use Rattle.std.proofs.Common.{◌≡◌, ℕ, ◌+◌, ◌<◌, arith, List, [], Option, Some, None, inl, length, filter, slice_get, option_map, refl, sym, ap, ◌∙◌, subst}
use Rattle.std.specs.Prelude.{IsSomeAnd}
use Rattle.std.proofs.lemmas.List.Elements.{All-get_or}
use Rattle.std.proofs.lemmas.Option.{get_or_from_slice_get, none-some, same_Some, slice_get_within}
use Rattle.hwp_law_served.specs.hwp_geom.declared.Layout.{Layout}
use Rattle.hwp_law_served.specs.hwp_geom.declared.Page.{Page}
use Rattle.hwp_law_served.specs.hwp_geom.declared.Proc.{Proc}
use Rattle.hwp_law_served.specs.hwp_geom.declared.Thread.{Thread}
use Rattle.hwp_law_served.specs.hwp_geom.declared.ThreadDecl.{ThreadDecl}
use Rattle.hwp_law_served.specs.hwp_geom.declared.TransDecl.{TransDecl}
use Rattle.hwp_law_served.specs.hwp_geom.declared.VSlot.{VSlot}
use Rattle.hwp_law_served.specs.hwp_geom.declared.Who.{Who}
use Rattle.hwp_law_served.specs.hwp_geom.Layout.{IsSound}
use Rattle.hwp_law_served.specs.hwp_geom.Limits.{line_limit}
use Rattle.hwp_law_served.specs.hwp_page.Step.{IsOf}
use Rattle.hwp_law_served.specs.hwp_core_rule.declared.Made.{Made}
use Rattle.hwp_law_served.specs.hwp_core_rule.declared.SharedWord.TheVariants as places
use Rattle.hwp_law_served.specs.hwp_core_rule.declared.View.{View}
use Rattle.hwp_law_served.specs.hwp_core_rule.Known.{HasMadeNone, Saw}
use Rattle.hwp_law_served.specs.hwp_script_words.declared.Command.{Command}
use Rattle.hwp_law_served.specs.hwp_script_words.declared.Command.TheVariants as commands
use Rattle.hwp_law_served.specs.hwp_script_words.Valid.{IsAccess}
use Rattle.hwp_law_served.specs.hwp_report_text.declared.Answer.{Answer}
use Rattle.hwp_law_served.specs.hwp_banks.Banks.{Banks}
use Rattle.hwp_law_served.specs.hwp_banks.declared.Origin.{Origin}
use Rattle.hwp_law_served.specs.hwp_geom.declared.Mode.{Mode}
use Rattle.hwp_law_served.specs.hwp_law.Commands.{Access, access_of, is_check, process_of_thread}
use Rattle.hwp_law_served.specs.hwp_claim.declared.EventOutcome.{EventOutcome}
use Rattle.hwp_law_served.specs.Causes.{FoundGone, HasOnlyBegun, IsAnswerCaused, IsCausedWith, SawProcess}
use Rattle.hwp_law_served.specs.Copied.{HasCopied, IsBehind, IsCopyCaused, IsCopyEnded, IsCopyTold, store_by, sub_next}
use Rattle.hwp_law_served.specs.Told.{AreToldWith, IsAccessTold}
use Rattle.hwp_cpu_command.specs.hwp_cpu_control.declared.Denial.{Denial}
use Rattle.hwp_cpu_command.specs.hwp_cpu_control.declared.Denial.TheVariants as denials
use Rattle.hwp_cpu_command.specs.hwp_cpu_control.declared.Denied.{Denied}
use Rattle.hwp_cpu_command.specs.hwp_cpu_control.declared.DeniedAnswer.{DeniedAnswer}
use Rattle.hwp_cpu_command.specs.hwp_cpu_control.declared.DeniedAnswer.TheVariants as answers
use Rattle.hwp_cpu_command.specs.hwp_cpu_control.Denieds as denieds
use Rattle.hwp_cpu_command.specs.hwp_fault.declared.AccessKind.{AccessKind}
use Rattle.hwp_cpu_command.specs.hwp_fault.declared.AccessKind.TheVariants as kinds
use Rattle.hwp_cpu_command.specs.hwp_fault.declared.Request.{Request}
use Rattle.hwp_cpu_command.specs.hwp_fault.Accesses.{IsDeclared}
use Rattle.hwp_cpu_command.specs.hwp_cpu_access.Copyings.{load_of}
use Rattle.hwp_cpu_command.specs.declared.Job.{Job}
use Rattle.hwp_cpu_command.specs.declared.Job.TheVariants as jobs
use Rattle.hwp_cpu_command.specs.Answers.{denied_answer}
use Rattle.hwp_cpu_command.specs.Begins.{IsDenied, request_of}
use Rattle.hwp_cpu_command.specs.Jobs.{FitsFrom, answer, banks_after, banks_before, own_of, told_of}
use Rattle.hwp_cpu_command.specs.Runs.{RunsDenied, anew}
use Rattle.hwp_cpu_command.proofs.JobEnds.{denied-over, mapped}
use Rattle.hwp_cpu_command.proofs.OfKind.{of-denied}
use Rattle.hwp_cpu.proofs.causes.StopCauses.{found-stopped, only-none}

-- ---- what the layout declares

-- the page of a translation
page-of : (layout : Layout) (cpu : ℕ) (thread : Thread) (slot : VSlot) → IsAccess layout cpu thread slot → (page : Page) × IsOf layout page slot
page-of layout cpu thread slot has = which (slice_get layout.threads thread.0) (slice_get layout.trans slot.0) has
  where
    which : (t : Option ThreadDecl) (o : Option TransDecl) → IsSomeAnd t (λ (d : ThreadDecl). (d.cpu.0 ≡ cpu) × IsSomeAnd o (λ (v : TransDecl). v.process ≡ d.process)) → (page : Page) × IsSomeAnd o (λ (v : TransDecl). v.page ≡ page)
    which None o is = absurd is
    which (Some d) None is = absurd is.1
    which (Some d) (Some v) is = (v.page, refl)

-- what an access names is declared
pub declared : (layout : Layout) (who : Who) (thread : Thread) (slot : VSlot) (line : ℕ) (kind : AccessKind) (process : Proc) → IsSound layout → IsAccess layout who.cpu.0 thread slot → line < line_limit → process_of_thread layout thread ≡ Some process
    → (page : Page) × IsDeclared layout (request_of who thread slot line kind page process)
declared layout who thread slot line kind process sound has within is = which (slice_get layout.threads thread.0) refl (slice_get layout.trans slot.0) refl has is
  where
    named : (v : TransDecl) → slice_get layout.trans slot.0 ≡ Some v → (v.process.0 < layout.procs) × (v.page.0 < length layout.pages)
    named v there = subst (λ (d : TransDecl). (d.process.0 < layout.procs) × (d.page.0 < length layout.pages)) (get_or_from_slice_get layout.trans slot.0 v v there)
        (All-get_or (λ (d : TransDecl). (d.process.0 < layout.procs) × (d.page.0 < length layout.pages)) layout.trans slot.0 v (slice_get_within layout.trans slot.0 v there) sound.trans_names)

    which : (t : Option ThreadDecl) → slice_get layout.threads thread.0 ≡ t → (o : Option TransDecl) → slice_get layout.trans slot.0 ≡ o
        → IsSomeAnd t (λ (d : ThreadDecl). (d.cpu.0 ≡ who.cpu.0) × IsSomeAnd o (λ (v : TransDecl). v.process ≡ d.process)) → option_map (λ (d : ThreadDecl). d.process) t ≡ Some process → (page : Page) × IsDeclared layout (request_of who thread slot line kind page process)
    which None t_is o o_is access of = absurd access
    which (Some d) t_is None o_is access of = absurd access.1
    which (Some d) t_is (Some v) o_is access of =
        let same : v.process ≡ process = access.1 ∙ same_Some d.process process of in (
          v.page,
          record {
            decl = v;
            declared = o_is;
            page_is = refl;
            process_is = same;
            page = (named v o_is).1;
            process = subst (λ (p : Proc). p.0 < layout.procs) same (named v o_is).0;
            thread = d;
            thread_declared = t_is;
            thread_of = same_Some d.process process of;
            line = within;
          },
        )

-- ---- the task

-- the task, what it found, and the access
pub record KnowsDenied (layout : Layout) (view : View) (who : Who) (command : Command) (copies : Option VSlot) (j : Job) (answer : Answer) : Type 0 where
  pub task : Denied
  pub job_is : j ≡ jobs.Denied task
  pub why : Denial
  pub k : Job
  pub begun : IsDenied layout who command copies why k
  pub process_is : process_of_thread layout begun.at.thread ≡ Some task.process
  pub made : HasMadeNone view who
  pub own : DeniedAnswer
  pub has : denieds.FitsOver view who task.process own
  pub answer_is : denied_answer task.why own ≡ answer

pub knows-denied : (base : List Made) {layout : Layout} {view : View} {who : Who} {command : Command} {copies : Option VSlot} (j : Job) {a : Answer} → RunsDenied layout who command copies j → FitsFrom base layout view j → answer j ≡ Some a → KnowsDenied layout view who command copies j a
knows-denied base {layout} {view} {who} {command} {copies} j {a} runs fits is = record {
  task = task.0;
  job_is = task.1;
  why = runs.0;
  k = anew j;
  begun = runs.1;
  process_is = runs.1.process_is ∙ ap Some (sym (ap (λ (d : Denied). d.process) task.2));
  made = subst (HasMadeNone view) who_is fit.made;
  own = own.0;
  has = subst (λ (w : Who). denieds.FitsOver view w task.0.process own.0) who_is (subst (denieds.FitsAt view task.0.who task.0.process) (denied-over task.0 own.1) fit.at);
  answer_is = own.2;
}
  where
    task : (d : Denied) × (j ≡ jobs.Denied d) × (denieds.begin d.who d.process d.why ≡ denieds.begin who runs.1.process runs.0)
    task = of-denied j runs.1.job_is

    who_is : task.0.who ≡ who
    who_is = ap (λ (d : Denied). d.who) task.2

    own : (x : DeniedAnswer) × (denieds.answer task.0 ≡ Some x) × (denied_answer task.0.why x ≡ a)
    own = mapped (denied_answer task.0.why) (denieds.answer task.0) (sym (ap answer task.1) ∙ is)

    fit : denieds.Fits layout view task.0
    fit = (subst (FitsFrom base layout view) task.1 fits).1

-- what is so of each access is so of a command that is one
pub access-by : (P : Command → Type 0) → ((thread : Thread) (slot : VSlot) (line : ℕ) → P (commands.Load thread slot line)) → ((thread : Thread) (slot : VSlot) (line : ℕ) → P (commands.Fetch thread slot line))
    → ((thread : Thread) (slot : VSlot) (line : ℕ) → P (commands.KLoad thread slot line)) → ((thread : Thread) (slot : VSlot) (line word : ℕ) → P (commands.Store thread slot line word)) → (command : Command) {at : Access} → access_of command ≡ Some at → P command
access-by P load fetch kload store (commands.Load thread slot line) is = load thread slot line
access-by P load fetch kload store (commands.Fetch thread slot line) is = fetch thread slot line
access-by P load fetch kload store (commands.KLoad thread slot line) is = kload thread slot line
access-by P load fetch kload store (commands.Store thread slot line word) is = store thread slot line word
access-by P load fetch kload store command {at} is = absurd (none-some at is)

-- ---- why it was answered so

module _ {layout : Layout} {view : View} {who : Who} (earlier : List (Command × Answer)) (told : List EventOutcome) where
  -- by the thread and the translation that the access names
  module _ (command : Command) (thread : Thread) (process : Proc) (process_is : process_of_thread layout thread ≡ Some process) (made : HasMadeNone view who) where
    gone : (cpu : ℕ) (slot : VSlot) (line : ℕ) → IsAccess layout cpu thread slot → (page : Page) → Saw view who (places.Process process) (page.0 + 1) → FoundGone layout view who thread page × HasOnlyBegun layout view who slot line
    gone cpu slot line access page saw =
        let of = page-of layout cpu thread slot access in
        (record { ended = record { process = process; process_is = process_is; saw = saw } }, record { page = of.0; page_is = of.1; only = only-none _ view who made })

    goes : Saw view who (places.Process process) 0 → SawProcess layout view who thread 0
    goes saw = record { process = process; process_is = process_is; saw = saw }

  -- the access names this thread
  of-thread : {command : Command} {copies : Option VSlot} {j : Job} {a : Answer} (k : KnowsDenied layout view who command copies j a) {at : Access} → access_of command ≡ Some at → process_of_thread layout at.thread ≡ Some k.task.process
  of-thread k is = ap (λ (x : Access). process_of_thread layout x.thread) (same_Some _ _ (sym is ∙ k.begun.access)) ∙ k.process_is

  plain-by : (command : Command) {j : Job} {a : Answer} {copies : Option VSlot} → KnowsDenied layout view who command copies j a → IsAnswerCaused layout earlier view who command told None a
  plain-by command {j} {a} {copies} k = access-by (λ (c : Command). KnowsDenied layout view who c copies j a → IsAnswerCaused layout earlier view who c told None a)
      (λ thread slot line k. subst (IsAnswerCaused layout earlier view who (commands.Load thread slot line) told None) k.answer_is (load thread slot line k k.task.why k.own k.has))
      (λ thread slot line k. subst (IsAnswerCaused layout earlier view who (commands.Fetch thread slot line) told None) k.answer_is (fetch thread slot line k k.task.why k.own k.has))
      (λ thread slot line k. subst (IsAnswerCaused layout earlier view who (commands.KLoad thread slot line) told None) k.answer_is (kload thread slot line k k.task.why k.own k.has))
      (λ thread slot line word k. subst (IsAnswerCaused layout earlier view who (commands.Store thread slot line word) told None) k.answer_is (store thread slot line word k k.task.why k.own k.has))
      command k.begun.access k
    where
      load : (thread : Thread) (slot : VSlot) (line : ℕ) {copies : Option VSlot} {j : Job} {a : Answer} (k : KnowsDenied layout view who (commands.Load thread slot line) copies j a) (why : Denial) (x : DeniedAnswer) → denieds.FitsOver view who k.task.process x
          → IsAnswerCaused layout earlier view who (commands.Load thread slot line) told None (denied_answer why x)
      load thread slot line k why answers.Stopped has = found-stopped layout (commands.Load thread slot line) view who (inl has) k.made
      load thread slot line k why (answers.Gone page) has = gone (commands.Load thread slot line) thread k.task.process (of-thread k refl) k.made who.cpu.0 slot line k.begun.named.0 page has
      load thread slot line k denials.BadFrame answers.Denied has = (k.made, goes (commands.Load thread slot line) thread k.task.process (of-thread k refl) k.made has)
      load thread slot line k denials.Stopped answers.Denied has = (k.made, goes (commands.Load thread slot line) thread k.task.process (of-thread k refl) k.made has)

      fetch : (thread : Thread) (slot : VSlot) (line : ℕ) {copies : Option VSlot} {j : Job} {a : Answer} (k : KnowsDenied layout view who (commands.Fetch thread slot line) copies j a) (why : Denial) (x : DeniedAnswer) → denieds.FitsOver view who k.task.process x
          → IsAnswerCaused layout earlier view who (commands.Fetch thread slot line) told None (denied_answer why x)
      fetch thread slot line k why answers.Stopped has = found-stopped layout (commands.Fetch thread slot line) view who (inl has) k.made
      fetch thread slot line k why (answers.Gone page) has = gone (commands.Fetch thread slot line) thread k.task.process (of-thread k refl) k.made who.cpu.0 slot line k.begun.named.0 page has
      fetch thread slot line k denials.BadFrame answers.Denied has = (k.made, goes (commands.Fetch thread slot line) thread k.task.process (of-thread k refl) k.made has)
      fetch thread slot line k denials.Stopped answers.Denied has = (k.made, goes (commands.Fetch thread slot line) thread k.task.process (of-thread k refl) k.made has)

      kload : (thread : Thread) (slot : VSlot) (line : ℕ) {copies : Option VSlot} {j : Job} {a : Answer} (k : KnowsDenied layout view who (commands.KLoad thread slot line) copies j a) (why : Denial) (x : DeniedAnswer) → denieds.FitsOver view who k.task.process x
          → IsAnswerCaused layout earlier view who (commands.KLoad thread slot line) told None (denied_answer why x)
      kload thread slot line k why answers.Stopped has = found-stopped layout (commands.KLoad thread slot line) view who (inl has) k.made
      kload thread slot line k why (answers.Gone page) has = gone (commands.KLoad thread slot line) thread k.task.process (of-thread k refl) k.made who.cpu.0 slot line k.begun.named.0 page has
      kload thread slot line k denials.BadFrame answers.Denied has = (k.made, goes (commands.KLoad thread slot line) thread k.task.process (of-thread k refl) k.made has)
      kload thread slot line k denials.Stopped answers.Denied has = (k.made, goes (commands.KLoad thread slot line) thread k.task.process (of-thread k refl) k.made has)

      store : (thread : Thread) (slot : VSlot) (line word : ℕ) {copies : Option VSlot} {j : Job} {a : Answer} (k : KnowsDenied layout view who (commands.Store thread slot line word) copies j a) (why : Denial) (x : DeniedAnswer) → denieds.FitsOver view who k.task.process x
          → IsAnswerCaused layout earlier view who (commands.Store thread slot line word) told None (denied_answer why x)
      store thread slot line word k why answers.Stopped has = found-stopped layout (commands.Store thread slot line word) view who (inl has) k.made
      store thread slot line word k why (answers.Gone page) has = gone (commands.Store thread slot line word) thread k.task.process (of-thread k refl) k.made who.cpu.0 slot line k.begun.named.0 page has
      store thread slot line word k denials.BadFrame answers.Denied has = (k.made, goes (commands.Store thread slot line word) thread k.task.process (of-thread k refl) k.made has)
      store thread slot line word k denials.Stopped answers.Denied has = (k.made, goes (commands.Store thread slot line word) thread k.task.process (of-thread k refl) k.made has)

-- ---- where it would have copied

module _ {layout : Layout} {view : View} {who : Who} (thread : Thread) (slot : VSlot) (line word : ℕ) (from : VSlot) {j : Job} {a : Answer} (k : KnowsDenied layout view who (commands.Store thread slot line word) (Some from) j a) (before : Banks) where
  abbrev process : Proc
  process = k.task.process

  process_is : process_of_thread layout thread ≡ Some process
  process_is = of-thread [] [] k refl

  names : (page : Page) × IsDeclared layout (request_of who thread slot line (kinds.Store word) page process)
  names = declared layout who thread slot line (kinds.Store word) process k.begun.sound k.begun.named.0 k.begun.named.1 process_is

  abbrev store : Request
  store = store_by who thread slot line word names.0 process

  copied : (page : Page) × IsDeclared layout (load_of store page from 0)
  copied = declared layout who thread from 0 kinds.Load process k.begun.sound k.begun.can_copy (omega arith) process_is

  has : HasCopied layout view store from word before
  has = record { names = names.1; page = copied.0; own = copied.1; runs = []; are = tt; lets = record { halts_none = refl; signals_none = refl }; rest = []; all = k.made }

  -- the first access comes, and nothing was made
  behind : IsBehind store copied.0 (sub_next store from word []) []
  behind = record { access = load_of store copied.0 from 0; access_is = refl; such = λ i m there. absurd (none-some m there) }

  ended : (why : Denial) (x : DeniedAnswer) → denieds.FitsOver view who process x → IsCopyEnded layout view store copied.0 (sub_next store from word []) [] [] [] (denied_answer why x)
  ended why answers.Stopped saw = record { stopped = inl saw; behind = inl behind }
  ended why (answers.Gone page) saw = record { process_is = process_is; saw = saw; behind = behind }
  ended denials.BadFrame answers.Denied saw = (record { process_is = process_is; saw = saw }, refl, refl)
  ended denials.Stopped answers.Denied saw = (record { process_is = process_is; saw = saw }, refl, refl)

  pub copying-by : IsCopyCaused layout view who thread from slot line word before [] a
  unfolding has
  copying-by = record { page = names.0; process = process; has = has; ended = subst (IsCopyEnded layout view store copied.0 (sub_next store from word []) [] [] []) k.answer_is (ended k.task.why k.own k.has) }

  pub copying-told : IsCopyTold layout view who thread from slot line word before [] before
  unfolding has
  copying-told = record {
    page = names.0;
    process = process;
    has = has;
    last = [];
    are = tt;
    left = record { way = []; behind = []; rest_is = refl; such = λ r comes i m there. absurd (none-some m there); unchecked = refl };
    counted = refl;
    told_is = refl;
    after_is = refl;
  }

-- ---- what it tells: nothing

access-untold : {layout : Layout} {view : View} {who : Who} (thread : Thread) (line : ℕ) (origin : Origin) (mode : Mode) (banks : Banks) → HasMadeNone view who → IsAccessTold layout view who thread line origin mode banks [] banks
access-untold {view = view} {who} thread line origin mode banks none = record { checks = []; count = sym (ap (λ (l : List Made). length (filter (λ (m : Made). is_check m.entry.what) l)) none); are = tt; told_is = refl; after_is = refl }

pub denied-caused : {layout : Layout} (earlier : List (Command × Answer)) (copied : Option VSlot) {view : View} {who : Who} {command : Command} (j : Job) {a : Answer} (kept : Banks) → KnowsDenied layout view who command copied j a
    → IsCausedWith layout earlier copied view who command (banks_before j kept) (told_of j) (own_of j) a
denied-caused {layout} earlier copied {view} {who} {command} j {a} kept k = subst (λ (q : Job). IsCausedWith layout earlier copied view who command (banks_before q kept) (told_of q) (own_of q) a) (sym k.job_is) (which copied command k)
  where
    which : (o : Option VSlot) (c : Command) → KnowsDenied layout view who c o j a → IsCausedWith layout earlier o view who c kept [] None a
    which None c known = plain-by earlier [] c known
    which (Some from) (commands.Store thread slot line word) known = copying-by thread slot line word from known kept
    which (Some from) c known = absurd known.begun.can_copy

pub denied-told : {layout : Layout} (copied : Option VSlot) {view : View} {who : Who} {command : Command} (j : Job) {a : Answer} (kept : Banks) → KnowsDenied layout view who command copied j a
    → AreToldWith layout copied view who command a (banks_before j kept) (told_of j) (banks_after j kept)
denied-told {layout} copied {view} {who} {command} j {a} kept k = subst (λ (q : Job). AreToldWith layout copied view who command a (banks_before q kept) (told_of q) (banks_after q kept)) (sym k.job_is) (which copied command k)
  where
    plain : (c : Command) → KnowsDenied layout view who c None j a → AreToldWith layout None view who c a kept [] kept
    plain c known = access-by (λ (x : Command). AreToldWith layout None view who x a kept [] kept)
        (λ thread slot line. access-untold thread line _ _ kept k.made) (λ thread slot line. access-untold thread line _ _ kept k.made) (λ thread slot line. access-untold thread line _ _ kept k.made)
        (λ thread slot line word. access-untold thread line _ _ kept k.made) c known.begun.access

    which : (o : Option VSlot) (c : Command) → KnowsDenied layout view who c o j a → AreToldWith layout o view who c a kept [] kept
    which None c known = plain c known
    which (Some from) (commands.Store thread slot line word) known = copying-told thread slot line word from known kept
    which (Some from) c known = absurd known.begun.can_copy

-- a task of an access that its guest doesn't admit
pub runs-kind : {layout : Layout} {who : Who} {command : Command} {copies : Option VSlot} (j : Job) → RunsDenied layout who command copies j → (d : Denied) × (j ≡ jobs.Denied d)
runs-kind j runs = let task = of-denied j runs.1.job_is in (task.0, task.1)
