-- How many events a command told of since the collector got some last, where it rests: an access no more than one machine check tells,
-- any other command no more than are told of in all. And what the collector took of them.
use Rattle.std.proofs.Common.{◌≡◌, inl, inr, ℕ, ◌+◌, ◌-◌, ◌*◌, ◌≤◌, Bool, true, false, List, [], Option, Some, None, drop, is_some, length, refl, sym, ap, ◌∙◌, subst, ◌++◌, true≢false, arith}
use Rattle.std.proofs.lemmas.Bool.{both_ways}
use Rattle.std.proofs.lemmas.List.{length-append, length-drop}
use Rattle.std.proofs.lemmas.Option.{none-some}
use Rattle.hwp_cpu_row.specs.hwp_geom.declared.Layout.{Layout}
use Rattle.hwp_cpu_row.specs.hwp_geom.declared.Who.{Who}
use Rattle.hwp_cpu_row.specs.hwp_page.declared.At.{At}
use Rattle.hwp_cpu_row.specs.hwp_banks.Events.{bank_count}
use Rattle.hwp_cpu_row.specs.hwp_page.History.{BodyValue}
use Rattle.hwp_cpu_row.specs.hwp_core_rule.declared.Made.{Made}
use Rattle.hwp_cpu_row.specs.hwp_core_rule.declared.Step.{Step}
use Rattle.hwp_cpu_row.specs.hwp_core_rule.declared.View.{View}
use Rattle.hwp_cpu_row.specs.hwp_core_rule.declared.Turn.{Turn}
use Rattle.hwp_cpu_row.specs.hwp_core_rule.Calls.{Steps, logs}
use Rattle.hwp_cpu_row.specs.hwp_claim.declared.EventOutcome.{EventOutcome}
use Rattle.hwp_cpu_command.specs.declared.Job.{Job}
use Rattle.hwp_cpu_command.specs.declared.job.Job.TheVariants as kinds
use Rattle.hwp_cpu_command.specs.Jobs as jobs
use Rattle.hwp_cpu_command.proofs.JobEnds.{mapped}
use Rattle.hwp_cpu_command.specs.hwp_cpu_access.declared.Instruction.{Instruction}
use Rattle.hwp_cpu_command.specs.hwp_cpu_access.declared.instruction.InstructionAt.{InstructionAt}
use Rattle.hwp_cpu_command.specs.hwp_cpu_access.declared.instruction.InstructionAt.TheVariants as instruction_at
use Rattle.hwp_cpu_command.specs.hwp_cpu_access.Fits as instruction_fits
use Rattle.hwp_cpu_command.specs.hwp_cpu_access.Instructions as instructions
use Rattle.hwp_cpu_command.proofs.of_hwp_cpu_access.ToldMore.{TellsMore, told-more}
use Rattle.hwp_cpu_command.proofs.of_hwp_scrub.RaiseLines.{raise-few}
use Rattle.hwp_cpu_command.proofs.of_hwp_scrub.ScrubLines.{frame_lines, scrub-few}
use Rattle.hwp_cpu_row.specs.hwp_claim.Checks.{Check}
use Rattle.hwp_cpu_command.specs.hwp_cpu_access.declared.Copying.{Copying}
use Rattle.hwp_cpu_command.specs.hwp_cpu_access.declared.copying.CopyingAt.{CopyingAt}
use Rattle.hwp_cpu_command.specs.hwp_cpu_access.declared.copying.CopyingAt.TheVariants as copying_at
use Rattle.hwp_cpu_command.specs.hwp_cpu_access.Copyings as copyings
use Rattle.hwp_cpu_command.specs.hwp_cpu_access.CopyFits as copying_fits
use Rattle.hwp_cpu_command.specs.hwp_cpu_access.hwp_fork.Cows.{sub_of}
use Rattle.hwp_cpu_command.proofs.of_hwp_cpu_access.CowSteps.{request-who}
use Rattle.hwp_cpu_command.specs.hwp_evict.declared.Evict.{Evict}
use Rattle.hwp_cpu_command.specs.hwp_evict.declared.EvictAnswer.{EvictAnswer}
use Rattle.hwp_cpu_command.specs.hwp_evict.declared.EvictAnswer.TheVariants as evict_answers
use Rattle.hwp_cpu_command.specs.hwp_evict.Evicts as evicts
use Rattle.hwp_cpu_command.specs.hwp_scrub.Raises as raises
use Rattle.hwp_cpu_command.specs.hwp_scrub.Scrubs as scrubs
use Rattle.hwp_cpu_row.specs.hwp_law.hwp_cec.Counters.{Counters}
use Rattle.hwp_cpu_row.specs.declared.Watching.{Watching}
use Rattle.hwp_cpu_row.specs.Dues.{DueValue, HasCollected, HasTaken}
use Rattle.hwp_cpu.specs.declared.course.Course.{Course}
use Rattle.hwp_cpu.specs.Courses.{AfterCollecting, HasPassed, due_room, gives_up_access, gives_up_copy, rests, told_since}
use Rattle.hwp_cpu.proofs.CopyRests.{copy-paused}
use Rattle.hwp_cpu.proofs.RestLaws.{some-of}

abbrev pub most : Job → ℕ
most (kinds.Instruction i) = bank_count
most (kinds.Copying c) = bank_count
most j = due_room

drop-few : (n : ℕ) (l : List EventOutcome) → length (drop n l) ≤ length l
drop-few n l = let same : length (drop n l) ≡ length l - n = length-drop n l in omega (arith, same)

-- ---- an access

module _ {base : List Made} {earlier : List Check} {layout : Layout} {old new : View} (i k : Instruction) (step : Step) (found : ℕ) (got : Option BodyValue) (turn : Turn) (fits : instruction_fits.FitsBehind base earlier layout old i) (planned : instructions.plan i ≡ Some step)
    (made : Steps layout i.request.who step (logs (instructions.put i)) old new found got) (follows : instructions.Follows layout (instructions.bare i) found got k turn) where
  -- one that gives up comes to no pause
  gives-none : gives_up_access i.at ≡ true → is_some (instructions.pause k) ≡ true → ⊥
  gives-none gives pauses = which i.at gives follows
    where
      unpaused : k ≡ record (instructions.bare i) { at = instruction_at.Over None } → ⊥
      unpaused is = both_ways true (sym pauses ∙ ap (λ (x : Instruction). is_some (instructions.pause x)) is) refl

      which : (x : InstructionAt) → gives_up_access x ≡ true → instructions.FollowsAt layout (instructions.bare i) (instructions.bare_at x) found got k turn → ⊥
      which instruction_at.GiveUp is next = unpaused next.0
      which (instruction_at.Access a) is next = both_ways true (sym is) refl
      which (instruction_at.Handle frame h) is next = both_ways true (sym is) refl
      which (instruction_at.LoadFrame frame) is next = both_ways true (sym is) refl
      which (instruction_at.LoadStop frame) is next = both_ways true (sym is) refl
      which (instruction_at.Paused p) is next = both_ways true (sym is) refl
      which (instruction_at.Over answer) is next = both_ways true (sym is) refl

  pub access-since : (noted : ℕ) → (gives_up_access i.at ≡ false → noted ≡ length i.lines.told) → is_some (instructions.pause k) ≡ true → length (drop noted k.lines.told) ≤ bank_count
  access-since noted passed pauses = which (gives_up_access i.at) refl
    where
      behind : noted ≡ length i.lines.told → length (drop noted k.lines.told) ≤ bank_count
      behind all = elim (told-more layout old new i step found got fits planned made k turn follows) [
        | inl same ↦ let none : length (drop noted k.lines.told) ≡ length k.lines.told - noted = length-drop noted k.lines.told in let alike : length k.lines.told ≡ length i.lines.told = ap length same in omega (arith, none, alike, all)
        | inr tells ↦ more tells
      ]
        where
          more : TellsMore layout new i (earlier ++ fits.checks) k → length (drop noted k.lines.told) ≤ bank_count
          more tells =
              let rest : length (drop noted k.lines.told) ≡ length k.lines.told - noted = length-drop noted k.lines.told in
              let both : length k.lines.told ≡ length i.lines.told + length tells.more = ap length tells.told_is ∙ length-append i.lines.told tells.more in
              let few : length tells.more ≤ bank_count = tells.few in
              omega (arith, rest, both, few, all)

      which : (b : Bool) → gives_up_access i.at ≡ b → length (drop noted k.lines.told) ≤ bank_count
      which true is = absurd (gives-none is pauses)
      which false is = behind (passed is)

-- ---- a copy, by its access

copy-since : {base : List Made} {layout : Layout} {old new : View} (c k : Copying) (step : Step) (found : ℕ) (got : Option BodyValue) (turn : Turn) → copying_fits.FitsFrom base layout old c → copyings.plan c ≡ Some step
    → Steps layout c.store.who step (logs (copyings.put c)) old new found got → copyings.Follows layout (copyings.bare c) found got k turn → (noted : ℕ) → (gives_up_copy c.instruction.at c.at ≡ false → noted ≡ length c.instruction.lines.told)
    → is_some (copyings.pause k) ≡ true → length (drop noted k.instruction.lines.told) ≤ bank_count
copy-since {base} {layout} {old} {new} c k step found got turn fits planned made follows noted passed pauses = by c.at refl fits.at planned made follows
  where
    unpaused : (y : Copying) → k ≡ y → copyings.pause y ≡ None → length (drop noted k.instruction.lines.told) ≤ bank_count
    unpaused y is none = absurd (true≢false (sym pauses ∙ ap (λ (x : Copying). is_some (copyings.pause x)) is ∙ ap is_some none))

    of-free : (y : Copying) (e : Evict) (stored : At) (o : Option EvictAnswer) → copyings.pause (copyings.after_free_by y e stored o) ≡ None
    of-free y e stored None = refl
    of-free y e stored (Some evict_answers.Stopped) = refl
    of-free y e stored (Some (evict_answers.Done place)) = refl
    of-free y e stored (Some (evict_answers.Refused refusal place)) = refl

    by : (x : CopyingAt) → c.at ≡ x → copying_fits.FitsAt base layout old c fits.runs x → copyings.plan_at c.instruction x ≡ Some step → Steps layout c.store.who step (logs (copyings.put_at c.instruction x)) old new found got
        → copyings.FollowsAt layout (copyings.bare_at c x) (copyings.bare_at c x).at found got k turn → length (drop noted k.instruction.lines.told) ≤ bank_count
    by copying_at.Access own has planned made next = subst (λ (i : Instruction). length (drop noted i.lines.told) ≤ bank_count) (sym (ap (λ (x : Copying). x.instruction) same)) few
      where
        moved : Copying
        moved = record (copyings.bare_at c copying_at.Access) { instruction = next.instruction }

        same : k ≡ moved
        same = next.next_is ∙ copy-paused moved (instructions.answer next.instruction) (sym (ap (λ (x : Copying). is_some (copyings.pause x)) next.next_is) ∙ pauses)

        who-is : c.instruction.request.who ≡ c.store.who
        who-is = (request-who c.store c.page (sub_of c.cow) has.request_is).0

        few : length (drop noted next.instruction.lines.told) ≤ bank_count
        few = access-since c.instruction next.instruction step found got turn has.instruction planned (subst (λ (w : Who). Steps layout w step (logs (instructions.put c.instruction)) old new found got) (sym who-is) made) next.follows
            noted (λ goes. passed (ap (gives_up_copy c.instruction.at) own ∙ goes)) (sym (ap (λ (x : Copying). is_some (copyings.pause x)) same) ∙ pauses)
    by (copying_at.Free e stored) own has planned made next = unpaused (copyings.after_free_by (copyings.bare_at c (copying_at.Free e stored)) next.evict stored (evicts.answer next.evict)) next.next_is (of-free (copyings.bare_at c (copying_at.Free e stored)) next.evict stored (evicts.answer next.evict))
    by (copying_at.Over answer) own has planned made next = absurd (none-some step planned)

-- ---- any command

none-told : (noted : ℕ) (n : ℕ) → length (drop {A = EventOutcome} noted []) ≤ n
none-told noted n = let few : length (drop {A = EventOutcome} noted []) ≤ 0 = drop-few noted [] in omega (arith, few)

pub since-few : (base : List Made) (layout : Layout) (old new : View) (j k : Job) (step : Step) (found : ℕ) (got : Option BodyValue) (turn : Turn) → jobs.FitsFrom base layout old j → jobs.FitsFrom base layout new k → jobs.plan j ≡ Some step
    → Steps layout (jobs.who j) step (logs (jobs.put j)) old new found got → jobs.Next layout (jobs.bare j) found got k turn → (noted : ℕ) → HasPassed j noted → rests k ≡ true → length (drop noted (jobs.told_of k)) ≤ most k
since-few base layout old new (kinds.Instruction i) k step found got turn fits after planned made next noted passed rest =
    subst (λ (x : Job). length (drop noted (jobs.told_of x)) ≤ most x) (sym next.1) (access-since i next.0 step found got turn fits planned made next.2 noted passed.1 (sym (ap rests next.1) ∙ rest))
since-few base layout old new (kinds.Copying c) k step found got turn fits after planned made next noted passed rest =
    subst (λ (x : Job). length (drop noted (jobs.told_of x)) ≤ most x) (sym next.1) (copy-since c next.0 step found got turn fits planned made next.2 noted passed.1 (sym (ap rests next.1) ∙ rest))
since-few base layout old new (kinds.Raise r) k step found got turn fits after planned made next noted passed rest = subst (λ (x : Job). length (drop noted (jobs.told_of x)) ≤ most x) (sym next.1) (of-raise next.0 (subst (jobs.FitsFrom _ _ _) next.1 after) (sym (ap rests next.1) ∙ rest))
  where
    of-raise : {base : List Made} {layout : Layout} {view : View} (x : _) → jobs.FitsFrom base layout view (kinds.Raise x) → rests (kinds.Raise x) ≡ true → length (drop noted x.lines.told) ≤ due_room
    of-raise x has is =
        let said = some-of (jobs.answer (kinds.Raise x)) is in
        let few : length x.lines.told ≤ bank_count = raise-few x (mapped _ (raises.answer x) said.1).0 has.1 (mapped _ (raises.answer x) said.1).1 in
        let less : length (drop noted x.lines.told) ≤ length x.lines.told = drop-few noted x.lines.told in
        omega (arith, few, less)
since-few base layout old new (kinds.Scrub s) k step found got turn fits after planned made next noted passed rest = subst (λ (x : Job). length (drop noted (jobs.told_of x)) ≤ most x) (sym next.1) (of-scrub next.0 (subst (jobs.FitsFrom _ _ _) next.1 after) (sym (ap rests next.1) ∙ rest))
  where
    of-scrub : {base : List Made} {layout : Layout} {view : View} (x : _) → jobs.FitsFrom base layout view (kinds.Scrub x) → rests (kinds.Scrub x) ≡ true → length (drop noted x.lines.told) ≤ due_room
    of-scrub {layout = layout} x has is =
        let said = some-of (jobs.answer (kinds.Scrub x)) is in
        let few : length x.lines.told ≤ frame_lines * layout.frames = scrub-few x (mapped _ (scrubs.answer x) said.1).0 has.1 (mapped _ (scrubs.answer x) said.1).1 in
        let frames : layout.frames ≤ 4096 = has.1.sound.frames in
        let less : length (drop noted x.lines.told) ≤ length x.lines.told = drop-few noted x.lines.told in
        omega (arith, few, frames, less)
since-few base layout old new (kinds.Evict x) k step found got turn fits after planned made next noted passed rest = subst (λ (x : Job). length (drop noted (jobs.told_of x)) ≤ most x) (sym next.1) (none-told noted due_room)
since-few base layout old new (kinds.Fsync x) k step found got turn fits after planned made next noted passed rest = subst (λ (x : Job). length (drop noted (jobs.told_of x)) ≤ most x) (sym next.0) (none-told noted due_room)
since-few base layout old new (kinds.Prctl x) k step found got turn fits after planned made next noted passed rest = subst (λ (x : Job). length (drop noted (jobs.told_of x)) ≤ most x) (sym next.0) (none-told noted due_room)
since-few base layout old new (kinds.Denied x) k step found got turn fits after planned made next noted passed rest = subst (λ (x : Job). length (drop noted (jobs.told_of x)) ≤ most x) (sym next.0) (none-told noted due_room)
since-few base layout old new (kinds.Fork x) k step found got turn fits after planned made next noted passed rest = subst (λ (x : Job). length (drop noted (jobs.told_of x)) ≤ most x) (sym next.0) (none-told noted due_room)
since-few base layout old new (kinds.Log x) k step found got turn fits after planned made next noted passed rest = subst (λ (x : Job). length (drop noted (jobs.told_of x)) ≤ most x) (sym next.0) (none-told noted due_room)
since-few base layout old new (kinds.Spoil x) k step found got turn fits after planned made next noted passed rest = subst (λ (x : Job). length (drop noted (jobs.told_of x)) ≤ most x) (sym next.0) (none-told noted due_room)
since-few base layout old new (kinds.Nested x) k step found got turn fits after planned made next noted passed rest = subst (λ (x : Job). length (drop noted (jobs.told_of x)) ≤ most x) (sym next.0) (none-told noted due_room)
since-few base layout old new (kinds.Inject x) k step found got turn fits after planned made next noted passed rest = subst (λ (x : Job). length (drop noted (jobs.told_of x)) ≤ most x) (sym next.1) (none-told noted due_room)
since-few base layout old new (kinds.Soft x) k step found got turn fits after planned made next noted passed rest = subst (λ (x : Job). length (drop noted (jobs.told_of x)) ≤ most x) (sym next.1) (none-told noted due_room)
since-few base layout old new (kinds.Unpoison x) k step found got turn fits after planned made next noted passed rest = subst (λ (x : Job). length (drop noted (jobs.told_of x)) ≤ most x) (sym next.0) (none-told noted due_room)

-- ---- what was taken, by the collector that the processor has

abbrev pub AfterCollectingBy : Layout → Course → Option Watching → Course → Type 0
AfterCollectingBy layout c None after = ⊥
AfterCollectingBy layout c (Some w) after =
    (counters : Counters) × (d : DueValue) × HasCollected layout (told_since c) c.due w.collector d counters
    × (after ≡ record c { watching = Some (record w { collector = counters }); noted = length (jobs.told_of c.own); due = d })

pub collecting-by : (layout : Layout) (c after : Course) → AfterCollecting layout c after → AfterCollectingBy layout c c.watching after
collecting-by layout c after (kept, due, took, is) = by c.watching took
  where
    by : (o : Option Watching) → HasTaken layout (told_since c) o c.due kept due → AfterCollectingBy layout c o after
    by None none = none
    by (Some w) (counters, has, back) = (counters, due, has, is ∙ ap (λ (x : Option Watching). record c { watching = x; noted = length (jobs.told_of c.own); due = due }) back)
