-- Why a store that copies is answered so, what it tells of its machine checks, and what it has done.
use Rattle.std.proofs.Common.{◌≡◌, ◌⊎◌, inl, inr, ℕ, ◌+◌, true, false, List, [], ◌∷◌, ◌++◌, Option, Some, None, filter_map, length, append-nil, refl, sym, ap, ◌∙◌, subst, arith, true≢false}
use Rattle.std.specs.Option.{option_map}
use Rattle.std.proofs.lemmas.List.{append_assoc, length-append}
use Rattle.std.proofs.lemmas.List.Concat.{flat_map-append}
use Rattle.std.proofs.lemmas.Option.{none-some}
use Rattle.hwp_law_served.specs.hwp_geom.declared.Layout.{Layout}
use Rattle.hwp_law_served.specs.hwp_geom.declared.Page.{Page}
use Rattle.hwp_law_served.specs.hwp_geom.declared.Proc.{Proc}
use Rattle.hwp_law_served.specs.hwp_geom.declared.Thread.{Thread}
use Rattle.hwp_law_served.specs.hwp_geom.declared.ThreadDecl.{ThreadDecl}
use Rattle.hwp_law_served.specs.hwp_geom.declared.VSlot.{VSlot}
use Rattle.hwp_law_served.specs.hwp_geom.declared.Who.{Who}
use Rattle.hwp_law_served.specs.hwp_banks.Banks.{Banks}
use Rattle.hwp_law_served.specs.hwp_page.declared.At.{At}
use Rattle.hwp_law_served.specs.hwp_page.Refusals.{IsAway}
use Rattle.hwp_law_served.specs.hwp_core_rule.declared.Made.{Made}
use Rattle.hwp_law_served.specs.hwp_core_rule.declared.SharedWord.TheVariants as places
use Rattle.hwp_law_served.specs.hwp_core_rule.declared.View.{View}
use Rattle.hwp_law_served.specs.hwp_core_rule.Lists.{EachMember, SomeMember}
use Rattle.hwp_law_served.proofs.of_hwp_core_rule.Lists.{each-weaken}
use Rattle.hwp_law_served.proofs.of_hwp_core_rule.MoreEntries.{each-append}
use Rattle.hwp_law_served.specs.hwp_core_rule.Known.{HasOnlyBeside, IsAt, Precedes, Saw, SawStop, deeds}
use Rattle.hwp_law_served.specs.hwp_core_rule.Pages.{SawState}
use Rattle.hwp_law_served.specs.hwp_script_words.declared.Command.{Command}
use Rattle.hwp_law_served.specs.hwp_script_words.declared.Command.TheVariants as commands
use Rattle.hwp_law_served.specs.hwp_report_text.declared.Answer.{Answer}
use Rattle.hwp_law_served.specs.hwp_claim.declared.EventOutcome.{EventOutcome}
use Rattle.hwp_law_served.specs.hwp_claim.Checks.{Check, left_by, lines_of}
use Rattle.hwp_law_served.specs.hwp_claim.CheckDone.{failed_in, marked_in}
use Rattle.hwp_law_served.specs.hwp_claim.Told.{halts}
use Rattle.hwp_cpu_command.specs.hwp_claim_act.declared.Failed.{Failed}
use Rattle.hwp_cpu_command.specs.hwp_claim_frame.Done.{Marking}
use Rattle.hwp_cpu_command.specs.hwp_fault.declared.AccessAnswer.TheVariants as access_answers
use Rattle.hwp_cpu_command.specs.hwp_fault.declared.AccessKind.TheVariants as kinds
use Rattle.hwp_cpu_command.specs.hwp_fault.declared.Request.{Request}
use Rattle.hwp_cpu_command.specs.hwp_fault.Accesses as accesses
use Rattle.hwp_cpu_command.specs.hwp_fault.Touches.{refusal_by}
use Rattle.hwp_cpu_command.specs.hwp_fork.declared.cow.Cow.{Cow}
use Rattle.hwp_cpu_command.specs.hwp_fork.declared.cow.Sub.{Sub}
use Rattle.hwp_cpu_command.specs.hwp_fork.Cows as cows
use Rattle.hwp_cpu_command.specs.hwp_cpu_access.declared.InstructionAnswer.{InstructionAnswer}
use Rattle.hwp_cpu_command.specs.hwp_cpu_access.declared.InstructionAnswer.TheVariants as answers
use Rattle.hwp_cpu_command.specs.hwp_cpu_access.Done as instruction_done
use Rattle.hwp_cpu_command.specs.hwp_cpu_access.Fits as instruction_fits
use Rattle.hwp_cpu_command.specs.hwp_cpu_access.Fits.{checks_in}
use Rattle.hwp_cpu_command.specs.hwp_cpu_access.declared.Copying.{Copying}
use Rattle.hwp_cpu_command.specs.hwp_cpu_access.declared.copying.CopyingAt.{CopyingAt}
use Rattle.hwp_cpu_command.specs.hwp_cpu_access.declared.copying.CopyingAt.TheVariants as copying_at
use Rattle.hwp_cpu_command.specs.hwp_cpu_access.Copyings as copyings
use Rattle.hwp_cpu_command.specs.hwp_cpu_access.Copyings.{request_by}
use Rattle.hwp_cpu_command.specs.hwp_cpu_access.CopyDone as copying_done
use Rattle.hwp_cpu_command.specs.hwp_cpu_access.CopyFits as copying_fits
use Rattle.hwp_cpu_command.specs.hwp_cpu_access.CopyFits.{HasRun}
use Rattle.hwp_cpu_command.specs.hwp_cpu_access.Runs.{AreRuns, IsBetween, Run, checks_by, made_by, words_of}
use Rattle.hwp_cpu_command.proofs.of_hwp_cpu_access.CopyEnds.{EndsByAccess, HasEnded, all-told, has-ended}
use Rattle.hwp_cpu_command.proofs.of_hwp_cpu_access.CopyLaws.{over-instruction}
use Rattle.hwp_cpu_command.proofs.of_hwp_cpu_access.CowSteps.{request-who}
use Rattle.hwp_cpu_command.proofs.of_hwp_cpu_access.RunLaws.{checks-append, runs-counted}
use Rattle.hwp_cpu_command.specs.declared.Job.{Job}
use Rattle.hwp_cpu_command.specs.declared.Job.TheVariants as jobs
use Rattle.hwp_cpu_command.specs.Answers.{instruction_answer}
use Rattle.hwp_cpu_command.specs.Begins.{BeginsCopying, request_of}
use Rattle.hwp_cpu_command.specs.Jobs.{FitsFrom, answer, banks_after, banks_before, told_of}
use Rattle.hwp_cpu_command.specs.Runs.{anew, collects_now}
use Rattle.hwp_cpu_command.proofs.JobEnds.{mapped}
use Rattle.hwp_cpu_command.proofs.OfKind.{of-copying}
use Rattle.hwp_law_served.specs.Copied.{AreChecksOf, HasCopied, IsBehind, IsCopyCaused, IsCopyEnded, IsCopyTold, IsGoing, sub_next}
use Rattle.hwp_law_served.proofs.copied.CopyLeft.{left-of}
use Rattle.hwp_cpu.specs.Beside.{DoesSo}

-- ---- the access that ended it, or the freeing

-- the copy's own end: what its command made behind the accesses that went well, why it is answered so, and what it tells
record HasEnd (layout : Layout) (view : View) (c : Copying) (runs : List Run) (x : InstructionAnswer) : Type 0 where
  rest : List Made
  all : deeds c.store.who view ≡ made_by runs ++ rest
  ended : IsCopyEnded layout view c.store c.page (cows.sub_of c.cow) runs rest c.instruction.lines.told (instruction_answer x)
  last : List Check
  are : AreChecksOf layout view (request_by c.store c.page (cows.sub_of c.cow)) (left_by c.instruction.before.value (checks_by runs)) last
  counted : checks_in rest ≡ length last
  told_is : c.instruction.lines.told ≡ lines_of (checks_by runs ++ last)
  banks_are : c.instruction.banks ≡ left_by c.instruction.before.value (checks_by runs ++ last)
  heeded : halts c.instruction.lines.told ≡ true → x ≡ answers.Stopped

going : {layout : Layout} {view : View} (store : Request) → accesses.IsDeclared layout store → Saw view store.who (places.Process store.process) 0 → IsGoing layout view store
going store names saw = record { process_is = ap (option_map (λ (t : ThreadDecl). t.process)) names.thread_declared ∙ ap Some names.thread_of; saw = saw }

-- none of the events stopped the machine where the copy goes on
goes-on : {A : Type 0} (told : List EventOutcome) → halts told ≡ false → halts told ≡ true → A
goes-on told off on = absurd (true≢false (sym on ∙ off))

module _ (layout : Layout) (view : View) (c : Copying) (runs : List Run) (has : HasRun layout view c runs) where
  abbrev a : Request
  a = c.instruction.request

  abbrev told : List EventOutcome
  told = c.instruction.lines.told

  abbrev sub : Sub
  sub = cows.sub_of c.cow

  abbrev Ends : List Made → InstructionAnswer → Type 0
  Ends rest x = IsCopyEnded layout view c.store c.page sub runs rest told (instruction_answer x)

  -- ---- by an access

  module _ {x : InstructionAnswer} (end : EndsByAccess [] layout view c runs x) where
    own : a.who ≡ c.store.who
    own = (request-who c.store c.page sub end.request_is).0

    at-process : {word : ℕ} → Saw view a.who (places.Process a.process) word → Saw view c.store.who (places.Process c.store.process) word
    at-process {word} saw = let of = request-who c.store c.page sub end.request_is in subst (λ (p : Proc). Saw view c.store.who (places.Process p) word) of.1 (subst (λ (w : Who). Saw view w (places.Process a.process) word) of.0 saw)

    goes : Saw view a.who (places.Process a.process) 0 → IsGoing layout view c.store
    goes saw = going c.store has.names (at-process saw)

    -- before its last pause it made these, and since then such as may stand before its entry
    abbrev base : List Made
    base = made_by runs ++ end.since

    between : (made : List Made) → EachMember (Precedes a.page a.slot a.line) made → EachMember (IsBetween a) (end.since ++ made)
    between made such = each-append (IsBetween a) end.since made end.such (each-weaken (Precedes a.page a.slot a.line) (IsBetween a) made (λ m is. inl is) such)

    abbrev behind : (made : List Made) → EachMember (Precedes a.page a.slot a.line) made → IsBehind c.store c.page sub (end.since ++ made)
    behind made such = record { access = a; access_is = end.request_is; such = between made such }

    all-of : (made : List Made) → deeds a.who view ≡ base ++ made → deeds c.store.who view ≡ made_by runs ++ (end.since ++ made)
    all-of made is = ap (λ (w : Who). deeds w view) (sym own) ∙ is ∙ append_assoc (made_by runs) end.since made

    -- with these entries its machine checks are as many as its lines tell
    count-so : (rest : List Made) → deeds c.store.who view ≡ made_by runs ++ rest → checks_in rest ≡ length end.checks
    count-so rest is =
        let made : checks_in (deeds c.store.who view) ≡ length (checks_by runs ++ end.checks) = ap (λ (w : Who). checks_in (deeds w view)) (sym own) ∙ end.made in
        let parts : checks_in (deeds c.store.who view) ≡ checks_in (made_by runs) + checks_in rest = ap checks_in is ∙ checks-append (made_by runs) rest in
        let lines : length (checks_by runs ++ end.checks) ≡ length (checks_by runs) + length end.checks = length-append (checks_by runs) end.checks in
        let counted : checks_in (made_by runs) ≡ length (checks_by runs) = runs-counted layout view c.store c.page (copying_fits.begun c.cow) c.instruction.before.value runs has.are in
        omega (arith, made, parts, lines, counted)

    with-rest : (rest : List Made) → deeds c.store.who view ≡ made_by runs ++ rest → Ends rest x → (halts told ≡ true → x ≡ answers.Stopped) → HasEnd layout view c runs x
    with-rest rest is ended heeded = record {
      rest = rest;
      all = is;
      ended = ended;
      last = end.checks;
      are = subst (λ (o : Option Request). AreChecksOf layout view o (left_by c.instruction.before.value (checks_by runs)) end.checks) (sym end.request_is) end.checked;
      counted = count-so rest is;
      told_is = end.told_is;
      banks_are = end.banks_are;
      heeded = heeded;
    }

    only-so : (only : HasOnlyBeside base (Precedes a.page a.slot a.line) view a.who) → deeds c.store.who view ≡ made_by runs ++ (end.since ++ only.own)
    only-so only = all-of only.own only.all

    -- those of the accesses that went well, and then its own
    told-parts : told ≡ lines_of (checks_by runs) ++ lines_of end.checks
    told-parts = end.told_is ∙ flat_map-append (λ (k : Check). k.lines) (checks_by runs) end.checks

    refused-so : (place : At) → place.page ≡ a.page → accesses.HasRefusal base a view place.entry → halts told ≡ false → x ≡ answers.Sigbus place → HasEnd layout view c runs x
    refused-so place same refusal off is = with-rest (end.since ++ (refusal.made.before ++ refusal.made.last ∷ [])) (all-of (refusal.made.before ++ refusal.made.last ∷ []) refusal.made.all)
        (subst (Ends (end.since ++ (refusal.made.before ++ refusal.made.last ∷ []))) (sym is) (
          goes refusal.alive,
          inl (record {
            front = end.since ++ refusal.made.before;
            last = refusal.made.last;
            rest_is = sym (append_assoc end.since refusal.made.before (refusal.made.last ∷ []));
            behind = behind refusal.made.before refusal.made.such;
            page_is = same;
            refused = subst (λ (p : Page). IsAt p place.entry (refusal_by a.kind a.slot a.line a.thread) refusal.made.last) (sym same) refusal.made.at;
          }),
        ))
        (λ on. goes-on told off on)

    signalled-so : (place : At) → instruction_fits.IsSignalled base view a told place → x ≡ answers.Sigbus place → HasEnd layout view c runs x
    signalled-so place signalled is = with-rest (end.since ++ signalled.only.own) (only-so signalled.only)
        (subst (Ends (end.since ++ signalled.only.own)) (sym is) (goes signalled.going, inr (record { first = signalled.first; own = lines_of end.checks; told_is = told-parts; behind = behind signalled.only.own signalled.only.such })))
        (λ on. goes-on told signalled.halts_none on)

    none-so : instruction_fits.IsOwnEnd base layout view a told access_answers.NoFrame → x ≡ answers.NoFrame → HasEnd layout view c runs x
    none-so none is = with-rest (end.since ++ none.answered.0.only.own) (only-so none.answered.0.only)
        (subst (Ends (end.since ++ none.answered.0.only.own)) (sym is) (
          goes none.answered.0.alive,
          record {
            available = subst (λ (w : Who). Saw view w places.Available 0) own none.answered.1;
            behind = behind none.answered.0.only.own none.answered.0.only.such;
            place = none.answered.2;
            away = subst (λ (w : Who). SawState layout view w a.page none.answered.2 IsAway) own none.answered.3;
          },
        ))
        (λ on. goes-on told none.lets.halts_none on)

    gone-so : (page : Page) → instruction_fits.IsOwnEnd base layout view a told (access_answers.Gone page) → x ≡ answers.Gone page → HasEnd layout view c runs x
    gone-so page gone is = with-rest (end.since ++ gone.answered.1.own) (only-so gone.answered.1)
        (subst (Ends (end.since ++ gone.answered.1.own)) (sym is) (record {
          process_is = ap (option_map (λ (t : ThreadDecl). t.process)) has.names.thread_declared ∙ ap Some has.names.thread_of;
          saw = at-process gone.answered.0;
          behind = behind gone.answered.1.own gone.answered.1.such;
        }))
        (λ on. goes-on told gone.lets.halts_none on)

    found-stop : instruction_fits.IsOwnEnd base layout view a told access_answers.Stopped → x ≡ answers.Stopped → HasEnd layout view c runs x
    found-stop stop is = with-rest end.since (ap (λ (w : Who). deeds w view) (sym own) ∙ stop.answered.1)
        (subst (Ends end.since) (sym is) (record { stopped = inl (subst (SawStop view) own stop.answered.0); behind = inl (record { access = a; access_is = end.request_is; such = end.such }) }))
        (λ on. is)

    halted-so : instruction_fits.IsHalted base view a told → x ≡ answers.Stopped → HasEnd layout view c runs x
    halted-so halted is = with-rest (end.since ++ halted.only.own) (only-so halted.only)
        (subst (Ends (end.since ++ halted.only.own)) (sym is) (record { stopped = subst (λ (w : Who). SawStop view w ⊎ SomeMember (λ (v : Who). v ≡ w) view.stops) own halted.stopped; behind = inl (behind halted.only.own halted.only.such) }))
        (λ on. is)

    by-access : (y : InstructionAnswer) → x ≡ y → instruction_fits.IsEnd base layout view a told y → HasEnd layout view c runs x
    by-access (answers.Value word place) is ended = absurd (true≢false (sym (ap (λ (z : InstructionAnswer). copying_fits.is_well (Some z)) is) ∙ end.unwell))
    by-access (answers.Stored place) is ended = absurd (true≢false (sym (ap (λ (z : InstructionAnswer). copying_fits.is_well (Some z)) is) ∙ end.unwell))
    by-access (answers.Sigbus place) is (inl ended) = refused-so place ended.answered.0 ended.answered.1 ended.lets.halts_none is
    by-access (answers.Sigbus place) is (inr ended) = signalled-so place ended is
    by-access answers.NoFrame is ended = none-so ended is
    by-access (answers.Gone page) is ended = gone-so page ended is
    by-access answers.Stopped is (inl ended) = found-stop ended is
    by-access answers.Stopped is (inr ended) = halted-so ended is

  -- ---- by the freeing

  module _ {x : InstructionAnswer} (over : copying_fits.IsOver [] view c runs x) where
    -- no access comes
    freed-so : request_by c.store c.page sub ≡ None → deeds c.store.who view ≡ made_by runs → Ends [] x → HasEnd layout view c runs x
    freed-so none is ended = record {
      rest = [];
      all = is ∙ sym (append-nil (made_by runs));
      ended = ended;
      last = [];
      are = subst (λ (o : Option Request). AreChecksOf layout view o (left_by c.instruction.before.value (checks_by runs)) []) (sym none) refl;
      counted = refl;
      told_is = over.told.told_is ∙ ap lines_of (sym (append-nil (checks_by runs)));
      banks_are = over.told.banks_are ∙ ap (left_by c.instruction.before.value) (sym (append-nil (checks_by runs)));
      heeded = λ on. goes-on told (ap halts over.told.told_is ∙ has.lets.halts_none) on;
    }

    by-freeing : (y : InstructionAnswer) → x ≡ y → copying_fits.IsEnd [] view c runs y → HasEnd layout view c runs x
    by-freeing (answers.Stored place) is ended = freed-so (ap (request_by c.store c.page) ended.sub_is) ended.all
        (subst (Ends []) (sym is) (going c.store has.names over.going, record { sub_is = ended.sub_is; rest_is = refl; told_is = over.told.told_is; stores = ended.accesses; freed = ended.freed; runs_are = ended.runs_are; last = ended.last; looks = ended.looks }))
    by-freeing answers.Stopped is ended = freed-so (ap (request_by c.store c.page) ended.sub_is) ended.all (subst (Ends []) (sym is) (record { stopped = inl ended.saw; behind = inr (record { slot = c.cow.v; sub_is = ended.sub_is; rest_is = refl; saw = ended.saw }) }))
    by-freeing (answers.Value word place) is ended = absurd ended
    by-freeing (answers.Sigbus place) is ended = absurd ended
    by-freeing answers.NoFrame is ended = absurd ended
    by-freeing (answers.Gone page) is ended = absurd ended

  has-end : {x : InstructionAnswer} → EndsByAccess [] layout view c runs x ⊎ copying_fits.IsOver [] view c runs x → HasEnd layout view c runs x
  has-end {x} (inl end) = by-access end x refl end.ended
  has-end {x} (inr over) = by-freeing over x refl over.ended

  -- ---- by what the store asked for

  begun-as : copying_fits.begun c.cow ≡ cows.begin c.cow.v c.store.slot c.store.line c.cow.x
  begun-as = ap (λ (s : VSlot). cows.begin c.cow.v s c.cow.line c.cow.x) has.twin ∙ ap (λ (l : ℕ). cows.begin c.cow.v c.store.slot l c.cow.x) has.line

  next-as : sub ≡ sub_next c.store c.cow.v c.cow.x runs
  next-as = ap cows.sub_of (has.cow_is ∙ ap (λ (w : Cow). cows.told_all w (words_of runs)) begun-as)

  abbrev copied-so : (rest : List Made) → deeds c.store.who view ≡ made_by runs ++ rest → HasCopied layout view c.store c.cow.v c.cow.x c.instruction.before.value
  copied-so rest all = record {
    names = has.names;
    page = c.page;
    own = has.own;
    runs = runs;
    are = subst (λ (w : Cow). AreRuns layout view c.store c.page w c.instruction.before.value runs) begun-as has.are;
    lets = has.lets;
    rest = rest;
    all = all;
  }

-- the cause and the lines, of whatever store that copies
record CausedOf (layout : Layout) (view : View) (store : Request) (from : VSlot) (word : ℕ) (before : Banks) (told : List EventOutcome) (after : Banks) (answer : Answer) : Type 0 where
  has : HasCopied layout view store from word before
  ended : IsCopyEnded layout view store has.page (sub_next store from word has.runs) has.runs has.rest told answer
  last : List Check
  are : AreChecksOf layout view (request_by store has.page (sub_next store from word has.runs)) (left_by before (checks_by has.runs)) last
  counted : checks_in has.rest ≡ length last
  told_is : told ≡ lines_of (checks_by has.runs ++ last)
  after_is : after ≡ left_by before (checks_by has.runs ++ last)
  heeded : halts told ≡ true → answer ≡ instruction_answer answers.Stopped

caused-of : {layout : Layout} {view : View} (c : Copying) {x : InstructionAnswer} → copying_fits.FitsFrom [] layout view c → copyings.answer c ≡ Some x
    → CausedOf layout view c.store c.cow.v c.cow.x c.instruction.before.value c.instruction.lines.told c.instruction.banks (instruction_answer x)
caused-of {layout} {view} c {x} fits is = record {
  has = copied-so layout view c known.runs known.has end.rest end.all;
  ended = subst (λ (s : Sub). IsCopyEnded layout view c.store c.page s known.runs end.rest c.instruction.lines.told (instruction_answer x)) (next-as layout view c known.runs known.has) end.ended;
  last = end.last;
  are = subst (λ (s : Sub). AreChecksOf layout view (request_by c.store c.page s) (left_by c.instruction.before.value (checks_by known.runs)) end.last) (next-as layout view c known.runs known.has) end.are;
  counted = end.counted;
  told_is = end.told_is;
  after_is = end.banks_are;
  heeded = λ on. ap instruction_answer (end.heeded on);
}
  where
    known : HasEnded [] layout view c x
    known = has-ended c fits is

    end : HasEnd layout view c known.runs x
    end = has-end layout view c known.runs known.has known.ended

-- ---- the command

-- the copy, and its own answer
pub record KnowsCopy (layout : Layout) (view : View) (who : Who) (thread : Thread) (slot : VSlot) (line word : ℕ) (from : VSlot) (j : Job) (answer : Answer) : Type 0 where
  pub page : Page
  pub process : Proc
  pub task : Copying
  pub job_is : j ≡ jobs.Copying task
  pub store_is : task.store ≡ request_of who thread slot line (kinds.Store word) page process
  pub from_is : task.cow.v ≡ from
  pub word_is : task.cow.x ≡ word
  pub fits : copying_fits.FitsFrom [] layout view task
  pub own : InstructionAnswer
  pub said : copyings.answer task ≡ Some own
  pub answer_is : instruction_answer own ≡ answer

pub knows-copy : {layout : Layout} {view : View} {who : Who} {thread : Thread} {slot : VSlot} {line word : ℕ} {from : VSlot} (j : Job) {a : Answer} → BeginsCopying layout who thread slot line word from (banks_before j []) (collects_now j) (anew j) → FitsFrom [] layout view j → answer j ≡ Some a
    → KnowsCopy layout view who thread slot line word from j a
knows-copy {layout} {view} {who} {thread} {slot} {line} {word} {from} j {a} runs fits is = record {
  page = runs.page;
  process = runs.process;
  task = task.0;
  job_is = task.1;
  store_is = ap (λ (c : Copying). c.store) task.2;
  from_is = ap (λ (c : Copying). c.cow.v) task.2;
  word_is = ap (λ (c : Copying). c.cow.x) task.2;
  fits = subst (FitsFrom [] layout view) task.1 fits;
  own = own.0;
  said = own.1;
  answer_is = own.2;
}
  where
    task : (c : Copying) × (j ≡ jobs.Copying c) × (copyings.begin c.instruction.alloc c.store c.cow.x c.cow.v c.page c.instruction.before.value c.instruction.collects
        ≡ copyings.begin runs.alloc (request_of who thread slot line (kinds.Store word) runs.page runs.process) word from runs.copied (banks_before j []) (collects_now j))
    task = of-copying j runs.job_is

    own : (x : InstructionAnswer) × (copyings.answer task.0 ≡ Some x) × (instruction_answer x ≡ a)
    own = mapped instruction_answer (copyings.answer task.0) (sym (ap answer task.1) ∙ is)

module _ {layout : Layout} {view : View} {who : Who} {thread : Thread} {slot : VSlot} {line word : ℕ} {from : VSlot} {j : Job} {a : Answer} (k : KnowsCopy layout view who thread slot line word from j a) where
  abbrev asked : Request
  asked = request_of who thread slot line (kinds.Store word) k.page k.process

  caused-so : (kept : Banks) → CausedOf layout view asked from word (banks_before j kept) (told_of j) (banks_after j kept) a
  caused-so kept =
      subst (λ (q : Job). CausedOf layout view asked from word (banks_before q kept) (told_of q) (banks_after q kept) a) (sym k.job_is)
      (subst (CausedOf layout view asked from word before told after) k.answer_is
      (subst (λ (w : ℕ). CausedOf layout view asked from w before told after (instruction_answer k.own)) k.word_is
      (subst (λ (v : VSlot). CausedOf layout view asked v k.task.cow.x before told after (instruction_answer k.own)) k.from_is
      (subst (λ (r : Request). CausedOf layout view r k.task.cow.v k.task.cow.x before told after (instruction_answer k.own)) k.store_is (caused-of k.task k.fits k.said)))))
    where
      before : Banks
      before = k.task.instruction.before.value

      told : List EventOutcome
      told = k.task.instruction.lines.told

      after : Banks
      after = k.task.instruction.banks

  pub copy-caused : (kept : Banks) → IsCopyCaused layout view who thread from slot line word (banks_before j kept) (told_of j) a
  copy-caused kept = let all = caused-so kept in record { page = k.page; process = k.process; has = all.has; ended = all.ended }

  pub copy-told : (kept : Banks) → IsCopyTold layout view who thread from slot line word (banks_before j kept) (told_of j) (banks_after j kept)
  copy-told kept = let all = caused-so kept in record {
    page = k.page;
    process = k.process;
    has = all.has;
    last = all.last;
    are = all.are;
    left = left-of asked all.has.page (sub_next asked from word all.has.runs) layout view all.has.runs all.has.rest (told_of j) a all.ended;
    counted = all.counted;
    told_is = all.told_is;
    after_is = all.after_is;
  }

  pub copy-heeded : halts (told_of j) ≡ true → a ≡ instruction_answer answers.Stopped
  copy-heeded on = (caused-so []).heeded on

  -- ---- what it has done

  -- its lines tell of all failures
  none-failing : copying_done.failed_at k.task.instruction k.task.at ≡ []
  none-failing = which k.task.at k.said
    where
      which : (y : CopyingAt) → copyings.answer_at k.task.instruction y ≡ Some k.own → copying_done.failed_at k.task.instruction y ≡ []
      which copying_at.Access said = ap instruction_done.failed_at (over-instruction k.task.instruction said)
      which (copying_at.Free e stored) none = absurd (none-some k.own none)
      which (copying_at.Over answer) said = refl

  pub copy-does : (earlier : List (Command × Answer)) → DoesSo layout earlier (commands.Store thread slot line word) j a
  copy-does earlier = subst (λ (q : Job). DoesSo layout earlier (commands.Store thread slot line word) q a) (sym k.job_is) (record {
    marked = ap (λ (l : List Marking). filter_map marked_in k.task.instruction.lines.told ++ l) (all-told k.task k.said).0;
    failed = ap (λ (l : List Failed). filter_map (failed_in (Some k.task.store.thread)) k.task.instruction.lines.told ++ l) none-failing
        ∙ ap (λ (r : Request). filter_map (failed_in (Some r.thread)) k.task.instruction.lines.told ++ []) k.store_is;
    set = refl;
    own = tt;
  })
