-- A course comes to an end: each turn that doesn't wait lowers what is left.
use Rattle.std.proofs.Common.{◌≡◌, ◌≢◌, ℕ, ◌+◌, ◌-◌, ◌*◌, ◌<◌, ◌≤◌, ◌⊎◌, inl, inr, Bool, true, false, cond, List, [], ◌∷◌, ◌++◌, Option, Some, None, drop, is_some, length, option_map, refl, sym, ap, ◌∙◌, subst, arith}
use Rattle.std.proofs.lemmas.Bool.{both_ways}
use Rattle.std.proofs.lemmas.List.{length-append}
use Rattle.std.proofs.lemmas.Option.{none-some, slice_get_within}
use Rattle.hwp_cpu_row.specs.hwp_geom.declared.Frame.{Frame}
use Rattle.hwp_cpu_row.specs.hwp_geom.declared.Layout.{Layout}
use Rattle.hwp_cpu_row.specs.hwp_geom.declared.Who.{Who}
use Rattle.hwp_cpu_row.specs.hwp_report_text.declared.Answer.{Answer}
use Rattle.hwp_cpu_row.specs.hwp_core_rule.declared.State.{State}
use Rattle.hwp_cpu_row.specs.hwp_core_rule.declared.Step.{Step}
use Rattle.hwp_cpu_row.specs.hwp_core_rule.declared.View.{View}
use Rattle.hwp_cpu_row.specs.hwp_core_rule.Moves.{Move}
use Rattle.hwp_cpu_row.specs.hwp_core_rule.Rule.{Holds}
use Rattle.hwp_cpu_row.specs.hwp_core_rule.Views.{view_after}
use Rattle.hwp_cpu_row.specs.hwp_core_rule.Words.{Words}
use Rattle.hwp_cpu_row.specs.hwp_core_rule.declared.Turn.{Turn}
use Rattle.hwp_cpu_row.specs.hwp_core_rule.declared.Turn.TheVariants as turns
use Rattle.hwp_cpu_row.specs.hwp_core_rule.Boards.{view_of}
use Rattle.hwp_cpu_row.specs.hwp_core_rule.Calls.{Steps, logs, rec_of}
use Rattle.hwp_cpu_row.specs.hwp_core_rule.Ranks.{CostFalls, HasFailed, IsRanked, Made, OtherHand, PaysRevival, Pending, Quiet, command_weight, failure_weight, failures_left, free_room, is_refused, is_waits, words_at}
use Rattle.hwp_cpu_row.proofs.of_hwp_core_rule.tasks.StepRanks.{failures-kept, steps-on}
use Rattle.hwp_cpu_row.specs.hwp_claim.declared.EventOutcome.{EventOutcome}
use Rattle.hwp_cpu_row.specs.declared.Watching.{Watching}
use Rattle.hwp_cpu_row.specs.Acts.{told_notes}
use Rattle.hwp_cpu_row.specs.Locals.{collects}
use Rattle.hwp_cpu_command.specs.declared.job.Job.{Job}
use Rattle.hwp_cpu_command.specs.declared.job.Job.TheVariants as kinds
use Rattle.hwp_cpu_command.specs.Jobs as jobs
use Rattle.hwp_cpu_command.proofs.JobEnds.{answered-over}
use Rattle.hwp_cpu_command.proofs.JobLaws as jobbing
use Rattle.hwp_cpu.proofs.commands.Below.{job-few}
use Rattle.hwp_cpu.proofs.commands.Beside.{at-pause}
use Rattle.hwp_cpu_command.specs.hwp_cpu_access.declared.Instruction.{Instruction}
use Rattle.hwp_cpu_command.specs.hwp_cpu_access.declared.instruction.InstructionAt.{InstructionAt}
use Rattle.hwp_cpu_command.specs.hwp_cpu_access.Costs as instruction_costs
use Rattle.hwp_cpu_command.specs.hwp_cpu_access.Costs.{anew_after_wait}
use Rattle.hwp_cpu_command.specs.hwp_cpu_access.Instructions as instructions
use Rattle.hwp_cpu_command.proofs.of_hwp_cpu_access.InstructionCosts.{few-frees}
use Rattle.hwp_cpu_command.specs.hwp_cpu_access.declared.Copying.{Copying}
use Rattle.hwp_cpu_command.specs.hwp_cpu_access.declared.copying.CopyingAt.{CopyingAt}
use Rattle.hwp_cpu_command.specs.hwp_cpu_access.declared.copying.CopyingAt.TheVariants as copying_at
use Rattle.hwp_cpu_command.specs.hwp_cpu_access.Copyings as copyings
use Rattle.hwp_cpu_command.specs.hwp_cpu_access.CopyCosts as copying_costs
use Rattle.hwp_cpu_command.specs.hwp_soft.declared.Soft.{Soft}
use Rattle.hwp_cpu_command.specs.hwp_soft.declared.SoftAnswer.{SoftAnswer}
use Rattle.hwp_cpu_command.specs.hwp_soft.Softs as softs
use Rattle.hwp_cpu_command.proofs.of_hwp_soft.SoftRank.{soft-small}
use Rattle.hwp_cpu_command.specs.Answers.{soft_answer}
use Rattle.hwp_cpu.specs.declared.course.Course.{Course}
use Rattle.hwp_cpu_row.specs.Dues.{DueValue, HasCollected, next_due}
use Rattle.hwp_cpu.specs.Courses.{AfterOwn, AfterOwnBy, AfterOwnIf, AfterRestBy, AfterSoft, Fits, FitsOf, FitsOwn, HasPassed, IsGoing, NextOf, RestsNow, answer, answer_of, bare_of, behind_cost, cost, cost_behind, cost_of, due_room, flat, gives_up, going_on, has_more, own_cost, part_of, passed, rests, soft_weight, task as course-task, turn_on, with_result}
use Rattle.hwp_cpu.proofs.ToldSince.{AfterCollectingBy, collecting-by, most, since-few}
use Rattle.hwp_cpu_command.proofs.of_hwp_cpu_access.CopyResting.{at-pause as copy-at-pause}
use Rattle.hwp_cpu.proofs.CopyRests.{few-behind}
use Rattle.hwp_cpu.proofs.CourseLaws.{abandoned-stays, over-stays, told-some}
use Rattle.hwp_cpu_row.proofs.DueLaws.{notes-few}
use Rattle.hwp_cpu.proofs.PauseOwns.{pause-owns}
use Rattle.hwp_cpu.proofs.RestCosts.{GoesOnFrom, IsIdle, IsOver, flat-stays, given-up-class, given-up-cost, gives-lasting, gives-over, goes-from, next-cost, over-cost, own-is, own-most, paused-idle, pays-flat, pays-for}
use Rattle.hwp_cpu.proofs.RestLaws.{at-rest, given-up-none, some-of}

-- ---- a turn of its own task

module _ {layout : Layout} {seat : ℕ} {a b : State} (c : Course) (fits : Fits layout (view_of a seat) c) (going : IsGoing layout (view_of a seat) c) {k : Job} {t : Turn} (own : Made jobs.task layout seat a b c.own k t) where
  abbrev new : View
  new = view_after layout (rec_of layout (jobs.who c.own) own.step (logs (jobs.put c.own)) own.found own.got) (view_of a seat)

  made : Steps layout (jobs.who c.own) own.step (logs (jobs.put c.own)) (view_of a seat) new own.found own.got
  made = steps-on own

  fit : jobs.FitsFrom own.fits.0 layout new k
  fit = ((jobbing.stays own.fits.0 layout (view_of a seat) new c.own own.step own.found own.got own.fits.1 own.planned made).1 k t own.follows).0

  abbrev e : Course
  e = record (bare_of c None) { own = k }

  abbrev w : Words
  w = words_at layout b

  few : length w.frees ≤ free_room
  few = few-frees layout b own.kept

  -- a course whose own task rests
  record IsAt (x : Course) : Type 0 where
    own_is : x.own ≡ k
    due : length x.due.frames - length x.due.offlined ≤ most k
    told : length x.due.frames - length x.due.offlined ≢ 0 → jobs.told_of k ≢ []

  module _ (rest : rests k ≡ true) where
    abbrev now : RestsNow layout new k
    now = (at-rest own.fits.0 layout new k fit rest).now

    paused-or : (behind_cost 3 k ≤ jobs.cost k w + 3) × (jobs.pauses k ≡ false → is_some (jobs.answer k) ≡ true)
    paused-or = by k rest
      where
        by : (j : Job) → rests j ≡ true → (behind_cost 3 j ≤ jobs.cost j w + 3) × (jobs.pauses j ≡ false → is_some (jobs.answer j) ≡ true)
        by (kinds.Instruction i) is =
            let some = some-of (instructions.pause i) is in
            let costs : instruction_costs.cost i w ≡ instruction_costs.paused_cost = ap (λ (x : InstructionAt). instruction_costs.cost_at i.banks x w) (at-pause i.at some.1) in
            let paused : cond (is_some (instructions.pause i)) (anew_after_wait + 3) 0 ≡ anew_after_wait + 3 = ap (λ (b : Bool). cond b (anew_after_wait + 3) 0) is in
            (omega (arith, costs, paused), λ off. absurd (both_ways true (sym is ∙ off) refl))
        by (kinds.Copying c) is =
            let some = some-of (copyings.pause c) is in
            let there = copy-at-pause c some.1 in
            let costs : copying_costs.cost c w ≡ failure_weight * copying_costs.behind c.cow.at + instruction_costs.paused_cost =
            ap (λ (x : CopyingAt). failure_weight * copying_costs.behind c.cow.at + copying_costs.cost_at c.instruction x w) there.0
            ∙ ap (λ (x : InstructionAt). failure_weight * copying_costs.behind c.cow.at + instruction_costs.cost_at c.instruction.banks x w) (at-pause c.instruction.at there.1) in
            let paused : cond (is_some (copyings.pause c)) (failure_weight * copying_costs.behind c.cow.at + anew_after_wait + 3) 0 ≡ failure_weight * copying_costs.behind c.cow.at + anew_after_wait + 3
            = ap (λ (b : Bool). cond b (failure_weight * copying_costs.behind c.cow.at + anew_after_wait + 3) 0) is in
            (omega (arith, costs, paused), λ off. absurd (both_ways true (sym is ∙ off) refl))
        by (kinds.Evict x) is = (omega arith, λ off. is)
        by (kinds.Fsync x) is = (omega arith, λ off. is)
        by (kinds.Prctl x) is = (omega arith, λ off. is)
        by (kinds.Denied x) is = (omega arith, λ off. is)
        by (kinds.Fork x) is = (omega arith, λ off. is)
        by (kinds.Log x) is = (omega arith, λ off. is)
        by (kinds.Raise x) is = (omega arith, λ off. is)
        by (kinds.Scrub x) is = (omega arith, λ off. is)
        by (kinds.Spoil x) is = (omega arith, λ off. is)
        by (kinds.Nested x) is = (omega arith, λ off. is)
        by (kinds.Inject x) is = (omega arith, λ off. is)
        by (kinds.Soft x) is = (omega arith, λ off. is)
        by (kinds.Unpoison x) is = (omega arith, λ off. is)

    -- behind its rest
    record RestCost (d : Course) : Type 0 where
      paid : cost d w ≤ jobs.cost k w + flat k + 3
      ended : jobs.pauses k ≡ false → cost d w ≤ flat k + 2
      idle : IsIdle (part_of d.beside d.own)

    going-cost : (x : Course) → IsAt x → (o : Option Frame) → next_due x.due ≡ o → RestCost (going_on x o)
    going-cost x at None is =
        let from = goes-from layout new k w few now in
        let same = at.own_is in
        record {
          paid = subst (λ (j : Job). own_cost (jobs.resume j) (jobs.plan (jobs.resume j)) w ≤ jobs.cost k w + flat k + 3) (sym at.own_is) (let low = from.cost in let pause = paused-or.0 in omega (arith, low, pause));
          ended = λ off. subst (λ (j : Job). own_cost (jobs.resume j) (jobs.plan (jobs.resume j)) w ≤ flat k + 2) (sym at.own_is) (let low = from.cost in let none : behind_cost 3 k ≡ 0 = ap (λ (b : Bool). cond b (cost_behind k + 3) 0) off in omega (arith, low, none));
          idle = subst (λ (j : Job). IsIdle (jobs.resume j)) (sym at.own_is) from.idle;
        }
    going-cost x at (Some frame) is = record {
      paid = which (jobs.pauses k) refl;
      ended = λ off.
          let flat-pays : soft_weight * most k ≤ flat k = pays-flat k rest told off in
          let all : cost (going_on x (Some frame)) w + 4 ≤ soft_weight * (length x.due.frames - length x.due.offlined) + behind_cost 4 x.own = most-cost in
          let none : behind_cost 4 x.own ≡ 0 = ap (behind_cost 4) at.own_is ∙ ap (λ (b : Bool). cond b (cost_behind k + 4) 0) off in
          let due : length x.due.frames - length x.due.offlined ≤ most k = at.due in
          omega (arith, flat-pays, all, none, due);
      idle = inr (omega arith);
    }
      where
        within : length x.due.offlined < length x.due.frames
        within = slice_get_within x.due.frames (length x.due.offlined) frame is

        told : jobs.told_of k ≢ []
        told = at.told (λ none. let less = within in absurd (omega (arith, less, none)))

        most-cost : cost (going_on x (Some frame)) w + 4 ≤ soft_weight * (length x.due.frames - length x.due.offlined) + behind_cost 4 x.own
        most-cost = next-cost layout b x frame own.kept is

        which : (p : Bool) → jobs.pauses k ≡ p → cost (going_on x (Some frame)) w ≤ jobs.cost k w + flat k + 3
        which p off =
            let pays : soft_weight * most k + behind_cost 0 k ≤ jobs.cost k w + flat k = pays-for k w rest told in
            let all : cost (going_on x (Some frame)) w + 4 ≤ soft_weight * (length x.due.frames - length x.due.offlined) + behind_cost 4 x.own = most-cost in
            let here : behind_cost 4 x.own ≡ behind_cost 4 k = ap (behind_cost 4) at.own_is in
            let due : length x.due.frames - length x.due.offlined ≤ most k = at.due in
            let four : behind_cost 4 k ≤ behind_cost 0 k + 4 = by-four (jobs.pauses k) in
            omega (arith, pays, all, here, due, four)
          where
            by-four : (q : Bool) → cond q (cost_behind k + 4) 0 ≤ cond q (cost_behind k + 0) 0 + 4
            by-four true = omega arith
            by-four false = omega arith

    refused-cost : jobs.told_of k ≢ [] → RestCost (record e { own = jobs.give_up k })
    refused-cost told =
        let low : own_cost (jobs.give_up k) (jobs.plan (jobs.give_up k)) w ≤ 2 = given-up-cost (jobs.give_up k) (jobs.plan (jobs.give_up k)) w (given-up-none k told).1 in
        record { paid = omega (arith, low); ended = λ off. omega (arith, low); idle = inr (given-up-class k told) }

    at-collected : has_more layout e ≡ true → HasPassed c.own c.noted → (o : Option Watching) → (x : Course) → AfterCollectingBy layout e o x → IsAt x
    at-collected more passed-it None x has = absurd has
    at-collected more passed-it (Some v) x has = subst IsAt (sym has.3) (record {
      own_is = refl;
      due = subst (λ (d : DueValue). length d.frames - length d.offlined ≤ most k) (sym taken.2) room;
      told = λ some. told-some c fits going own.step own.found own.got own.planned made k t own.follows more;
    })
      where
        since : List EventOutcome
        since = drop c.noted (jobs.told_of k)

        taken : HasCollected layout since c.due v.collector has.1 has.0
        taken = has.2

        room : length (c.due.frames ++ taken.0) - length c.due.offlined ≤ most k
        room =
            let all : length (c.due.frames ++ taken.0) ≡ length c.due.frames + length taken.0 = length-append c.due.frames taken.0 in
            let noted : length taken.0 ≤ length (told_notes layout since) = taken.4.few in
            let told : length (told_notes layout since) ≤ length since = notes-few layout since in
            let some : length since ≤ most k = since-few own.fits.0 layout (view_of a seat) new c.own k own.step own.found own.got t own.fits.1 fit own.planned made own.follows c.noted passed-it rest in
            let none = going.none_due in
            omega (arith, all, noted, told, some, none)

    at-once : IsAt e
    at-once = record { own_is = refl; due = let none = going.none_due in omega (arith, none); told = λ some. absurd (some (let none = going.none_due in omega (arith, none))) }

    rest-cost : (collects c.watching ≡ true) → (d : Course) (u : Turn) (more : Bool) → has_more layout e ≡ more → AfterRestBy layout e more d u → RestCost d
    rest-cost on_ d u false is goes = subst RestCost (sym goes.0) (going-cost e at-once (next_due e.due) refl)
    rest-cost on_ d u true is (inl refuses) = subst RestCost (sym refuses.0) (refused-cost (told-some c fits going own.step own.found own.got own.planned made k t own.follows is))
    rest-cost on_ d u true is (inr (x, has, goes)) = subst RestCost (sym goes.0) (going-cost x (at-collected is (going.passed on_) c.watching x (collecting-by layout e x has)) (next_due x.due) refl)

  -- the turn behind a rest is none that waits
  turn-goes : (x : Course) (o : Option Frame) → is_waits (turn_on x o) ≡ false
  turn-goes x (Some frame) = refl
  turn-goes x None = which (is_some (jobs.answer (jobs.resume x.own)))
    where
      which : (b : Bool) → is_waits (cond b turns.Answered turns.Moved) ≡ false
      which true = refl
      which false = refl

  rest-turn : (d : Course) (u : Turn) (more : Bool) → AfterRestBy layout e more d u → is_waits u ≡ false
  rest-turn d u false goes = ap is_waits goes.1 ∙ turn-goes e (next_due e.due)
  rest-turn d u true (inl refuses) = ap is_waits refuses.1
  rest-turn d u true (inr (x, has, goes)) = ap is_waits goes.1 ∙ turn-goes x (next_due x.due)

  -- ---- the three ways that it may go

  -- on
  record IsSame (d : Course) (turn : Turn) : Type 0 where
    part_is : part_of d.beside d.own ≡ k
    answer_is : answer_of d.beside d.own ≡ jobs.answer k
    cost_is : cost d w ≡ own_cost k (jobs.plan k) w
    turn_is : turn ≡ t

  -- to a pause, or to its answer
  record HasPaused (d : Course) (turn : Turn) : Type 0 where
    rest : rests k ≡ true
    pauses : jobs.pauses k ≡ true
    turn_is : turn ≡ t
    paid : cost d w ≤ jobs.cost k w + flat k + 3
    idle : IsIdle (part_of d.beside d.own)

  record HasEnded (d : Course) (turn : Turn) : Type 0 where
    rest : rests k ≡ true
    answer : Answer
    said : jobs.answer k ≡ Some answer
    goes : is_waits turn ≡ false
    paid : cost d w ≤ flat k + 2
    idle : IsIdle (part_of d.beside d.own)

  abbrev Ways : Course → Turn → Type 0
  Ways d turn = IsSame d turn ⊎ (HasPaused d turn ⊎ HasEnded d turn)

  ways : (d : Course) (turn : Turn) → AfterOwn layout e t d turn → Ways d turn
  ways d turn follows = which (collects c.watching) refl follows
    where
      same : (n : ℕ) → d ≡ record e { noted = n } → turn ≡ t → Ways d turn
      same n is turn_is = inl (record { part_is = ap (λ (x : Course). part_of x.beside x.own) is; answer_is = ap (λ (x : Course). answer_of x.beside x.own) is; cost_is = ap (λ (x : Course). cost x w) is; turn_is = turn_is })

      by-rest : collects c.watching ≡ true → (r : Bool) → rests k ≡ r → AfterOwnBy layout e r t d turn → Ways d turn
      by-rest on_ false is next = same (passed k c.noted) next.0 next.1
      by-rest on_ true is next = which-pause (jobs.pauses k) refl
        where
          costs : RestCost is d
          costs = rest-cost is on_ d next.0 (has_more layout e) refl next.1

          which-pause : (p : Bool) → jobs.pauses k ≡ p → Ways d turn
          which-pause true pauses = inr (inl (record { rest = is; pauses = pauses; turn_is = next.2 ∙ ap (λ (b : Bool). cond b t next.0) pauses; paid = costs.paid; idle = costs.idle }))
          which-pause false off = let some = some-of (jobs.answer k) ((paused-or is).1 off) in
              inr (inr (record { rest = is; answer = some.0; said = some.1; goes = ap is_waits (next.2 ∙ ap (λ (b : Bool). cond b t next.0) off) ∙ rest-turn d next.0 (has_more layout e) next.1; paid = costs.ended off; idle = costs.idle }))

      which : (o : Bool) → collects c.watching ≡ o → AfterOwnIf layout e o t d turn → Ways d turn
      which false off next = same c.noted next.0 next.1
      which true on_ next = by-rest on_ (rests k) refl next

-- ---- the laws of a turn

module _ {layout : Layout} {seat : ℕ} {a b : State} {c d : Course} {turn : Turn} (made : Made course-task layout seat a b c d turn) where
  -- what is told of the turn, by the frame that is taken out of use
  record Turned (o : Option Soft) : Type 0 where
    at : FitsOf layout (view_of a seat) c o
    planned : jobs.plan (part_of o c.own) ≡ Some made.step
    move : Move layout seat (rec_of layout (jobs.who c.own) made.step (logs (jobs.put (part_of o c.own))) made.found made.got) a b
    follows : NextOf layout (bare_of c o) (bare_of c o).beside made.found made.got d turn

  turned : Turned c.beside
  turned = record { at = made.fits.at; planned = made.planned; move = made.move; follows = made.follows }

  abbrev wa : Words
  wa = words_at layout a

  abbrev wb : Words
  wb = words_at layout b

  going : Turned None → IsGoing layout (view_of a seat) c
  going x = which (jobs.answer c.own) refl x.at
    where
      which : (o : Option Answer) → jobs.answer c.own ≡ o → FitsOwn layout (view_of a seat) c o → IsGoing layout (view_of a seat) c
      which None is has = has
      which (Some r) is has = absurd (none-some made.step (sym (answered-over c.own is) ∙ x.planned))

  own-made : (x : Turned None) → Made jobs.task layout seat a b c.own x.follows.0 x.follows.1
  own-made x = record { step = made.step; found = made.found; got = made.got; rule = made.rule; kept = made.kept; fits = (going x).fits; planned = x.planned; move = x.move; brings = made.brings; follows = x.follows.2 }

  soft-made : (s : Soft) (x : Turned (Some s)) → Made jobs.task layout seat a b (kinds.Soft s) (kinds.Soft x.follows.0) x.follows.1
  soft-made s x = record {
    step = made.step;
    found = made.found;
    got = made.got;
    rule = made.rule;
    kept = made.kept;
    fits = x.at.soft;
    planned = x.planned;
    move = subst (λ (w : Who). Move layout seat (rec_of layout w made.step (logs (softs.put s)) made.found made.got) a b) (sym x.at.own) x.move;
    brings = made.brings;
    follows = (x.follows.0, refl, x.follows.2);
  }

  -- lower, or by a failure
  abbrev Falls : Option Soft → Type 0
  Falls o = (cost d wb < cost_of c o wa) ⊎ ((failures_left wb < failures_left wa) × (cost d wb < cost_of c o wa + failure_weight))

  module _ (x : Turned None) where
    abbrev k : Job
    k = x.follows.0

    abbrev t : Turn
    t = x.follows.1

    own-ways : Ways c made.fits (going x) (own-made x) d turn
    own-ways = ways c made.fits (going x) (own-made x) d turn x.follows.3

    flat-is : flat k ≡ flat c.own
    flat-is = flat-stays layout c.own k made.found made.got t x.follows.2

    before : gives_up c.own ≡ false → cost_of c None wa ≡ jobs.cost c.own wa + flat c.own + 3
    before goes = own-is c.own made.step wa x.planned goes

    -- one that gives up is over now
    over : gives_up c.own ≡ true → (IsOver k) × (cost_of c None wa ≡ 2)
    over gives = (gives-over layout c.own k made.found made.got t x.follows.2 gives, ap (λ (o : Option Step). own_cost c.own o wa) x.planned ∙ ap (λ (g : Bool). cond g 2 (jobs.cost c.own wa + flat c.own + 3)) gives)

    over-less : gives_up c.own ≡ true → (cost d wb ≡ 0) × (cost_of c None wa ≡ 2)
    over-less gives = (by own-ways, (over gives).1)
      where
        by : Ways c made.fits (going x) (own-made x) d turn → cost d wb ≡ 0
        by (inl same) = same.cost_is ∙ over-cost k wb (over gives).0.plan
        by (inr (inl paused)) = absurd (both_ways true (sym paused.rest ∙ (over gives).0.rests) refl)
        by (inr (inr ended)) = absurd (both_ways true (sym ended.rest ∙ (over gives).0.rests) refl)

    most-of : Ways c made.fits (going x) (own-made x) d turn → cost d wb ≤ jobs.cost k wb + flat k + 3
    most-of (inl same) = let is = same.cost_is in let low : own_cost k (jobs.plan k) wb ≤ jobs.cost k wb + flat k + 3 = own-most k (jobs.plan k) wb in omega (arith, is, low)
    most-of (inr (inl paused)) = paused.paid
    most-of (inr (inr ended)) = let low = ended.paid in omega (arith, low)

    own-falls : gives_up c.own ≡ false → is_waits t ≡ false → Falls None
    own-falls goes on = elim (jobbing.ranked.falls layout seat a b c.own k t (own-made x) on) [
      | inl less ↦ inl (let is = before goes in let same = flat-is in let most = most-of own-ways in let one : jobs.cost k wb < jobs.cost c.own wa = less in omega (arith, is, same, most, one))
      | inr fails ↦ inr (fails.fewer, let is = before goes in let same = flat-is in let most = most-of own-ways in let one : jobs.cost k wb < jobs.cost c.own wa + failure_weight = fails.bounded in omega (arith, is, same, most, one))
    ]

    falls-own : is_waits turn ≡ false → Falls None
    falls-own on = which (gives_up c.own) refl
      where
        by : gives_up c.own ≡ false → Ways c made.fits (going x) (own-made x) d turn → Falls None
        by goes (inl same) = own-falls goes (sym (ap is_waits same.turn_is) ∙ on)
        by goes (inr (inl paused)) = own-falls goes (sym (ap is_waits paused.turn_is) ∙ on)
        by goes (inr (inr ended)) = inl (let is = before goes in let same = flat-is in let low = ended.paid in omega (arith, is, same, low))

        which : (g : Bool) → gives_up c.own ≡ g → Falls None
        which true gives = inl (let less = over-less gives in let none = less.0 in let two = less.1 in omega (arith, none, two))
        which false goes = by goes own-ways

    waits-own : is_waits turn ≡ true → Quiet (jobs.class c.own) layout a seat → (cost d wb < cost_of c None wa) ⊎ ((jobs.aborts (part_of d.beside d.own) ≡ true) × OtherHand a seat)
    waits-own on quiet = which (gives_up c.own) refl
      where
        lower : gives_up c.own ≡ false → jobs.cost k wb < jobs.cost c.own wa → cost d wb < cost_of c None wa
        lower goes less = let is = before goes in let same = flat-is in let most = most-of own-ways in omega (arith, is, same, most, less)

        by : gives_up c.own ≡ false → Ways c made.fits (going x) (own-made x) d turn → (cost d wb < cost_of c None wa) ⊎ ((jobs.aborts (part_of d.beside d.own) ≡ true) × OtherHand a seat)
        by goes (inl same) = elim (jobbing.ranked.waits layout seat a b c.own k t (own-made x) (sym (ap is_waits same.turn_is) ∙ on) quiet) [
          | inl less ↦ inl (lower goes less)
          | inr gives ↦ inr (ap jobs.aborts same.part_is ∙ gives.0, gives.1)
        ]
        by goes (inr (inl paused)) = elim (jobbing.ranked.waits layout seat a b c.own k t (own-made x) (sym (ap is_waits paused.turn_is) ∙ on) quiet) [
          | inl less ↦ inl (lower goes less)
          | inr gives ↦ absurd (both_ways true (sym gives.0 ∙ (paused-idle k paused.pauses).1) refl)
        ]
        by goes (inr (inr ended)) = absurd (both_ways true (sym on ∙ ended.goes) refl)

        which : (g : Bool) → gives_up c.own ≡ g → (cost d wb < cost_of c None wa) ⊎ ((jobs.aborts (part_of d.beside d.own) ≡ true) × OtherHand a seat)
        which true gives = inl (let less = over-less gives in let none = less.0 in let two = less.1 in omega (arith, none, two))
        which false goes = by goes own-ways

    leaves-own : jobs.aborts c.own ≡ true → IsIdle (part_of d.beside d.own)
    leaves-own gives = by own-ways
      where
        by : Ways c made.fits (going x) (own-made x) d turn → IsIdle (part_of d.beside d.own)
        by (inl same) = subst IsIdle (sym same.part_is) (jobbing.ranked.leaves layout seat a b c.own k t (own-made x) gives)
        by (inr (inl paused)) = paused.idle
        by (inr (inr ended)) = ended.idle

    owns-own : is_refused turn ≡ false → (frame : Frame) (cycle : ℕ) → Pending wb frame cycle → (jobs.claims (part_of d.beside d.own) ≡ Some (frame, cycle)) ⊎ (Pending wa frame cycle × (jobs.claims c.own ≢ Some (frame, cycle)))
    owns-own on frame cycle pending = by own-ways
      where
        by : Ways c made.fits (going x) (own-made x) d turn → (jobs.claims (part_of d.beside d.own) ≡ Some (frame, cycle)) ⊎ (Pending wa frame cycle × (jobs.claims c.own ≢ Some (frame, cycle)))
        by (inl same) = elim (jobbing.ranked.owns layout seat a b c.own k t frame cycle (own-made x) (sym (ap is_refused same.turn_is) ∙ on) pending) [
          | inl claimed ↦ inl (ap jobs.claims same.part_is ∙ claimed)
          | inr was ↦ inr was
        ]
        by (inr (inl paused)) = elim (jobbing.ranked.owns layout seat a b c.own k t frame cycle (own-made x) (sym (ap is_refused paused.turn_is) ∙ on) pending) [
          | inl claimed ↦ absurd (none-some (frame, cycle) (sym (paused-idle k paused.pauses).0 ∙ claimed))
          | inr was ↦ inr was
        ]
        by (inr (inr ended)) = inr (jobbing.owns-answered layout seat a b c.own k t frame cycle (own-made x) ended.said pending)

    pays-own : (failures_left wb ≤ failures_left wa) ⊎ (cost d wb + failure_weight * failures_left wb < cost_of c None wa + failure_weight * failures_left wa)
    pays-own = elim (jobbing.pays layout seat a b c.own k t (own-made x)) [
      | inl stay ↦ inl stay
      | inr paid ↦ which (gives_up c.own) refl paid
    ]
      where
        which : (g : Bool) → gives_up c.own ≡ g → jobs.cost k wb + failure_weight * failures_left wb < jobs.cost c.own wa + failure_weight * failures_left wa
            → (failures_left wb ≤ failures_left wa) ⊎ (cost d wb + failure_weight * failures_left wb < cost_of c None wa + failure_weight * failures_left wa)
        which true gives paid = inl (failures-kept (own-made x) (gives-lasting c.own (own-made x).step gives (own-made x).planned))
        which false goes paid = inr (let is = before goes in let same = flat-is in let most = most-of own-ways in omega (arith, is, same, most, paid))

  -- ---- of a frame that is taken out of use

  module _ (s : Soft) (x : Turned (Some s)) where
    abbrev m : Soft
    m = x.follows.0

    abbrev u : Turn
    u = x.follows.1

    abbrev rest-weight : ℕ
    rest-weight = behind_cost 4 c.own

    within : length c.due.offlined < length c.due.frames
    within = slice_get_within c.due.frames (length c.due.offlined) s.frame x.at.next

    -- it goes on
    record SoftGoes : Type 0 where
      part_is : part_of d.beside d.own ≡ kinds.Soft m
      unanswered : answer_of d.beside d.own ≡ None
      cost_is : cost d wb ≡ softs.cost m wb + soft_weight * (length c.due.frames - (length c.due.offlined + 1)) + rest-weight + 1
      turn_is : turn ≡ u

    -- or is over
    record SoftEnds : Type 0 where
      answer : SoftAnswer
      said : softs.answer m ≡ Some answer
      low : cost d wb ≤ soft_weight * (length c.due.frames - (length c.due.offlined + 1)) + rest-weight
      goes : is_waits turn ≡ false
      idle : IsIdle (part_of d.beside d.own)

    ends-low : (r : SoftAnswer) → softs.answer m ≡ Some r → (y : Course) → y ≡ with_result (record (bare_of c (Some s)) { beside = Some m }) m.frame r → (o : Option Frame) → next_due y.due ≡ o
        → (cost (going_on y o) wb ≤ soft_weight * (length c.due.frames - (length c.due.offlined + 1)) + rest-weight) × IsIdle (part_of (going_on y o).beside (going_on y o).own)
    ends-low r said y is (Some frame) next = (
      let all : cost (going_on y (Some frame)) wb + 4 ≤ soft_weight * (length y.due.frames - length y.due.offlined) + behind_cost 4 y.own = next-cost layout b y frame made.kept next in
          let more : length y.due.offlined ≡ length c.due.offlined + 1 = ap (λ (z : Course). length z.due.offlined) is ∙ length-append c.due.offlined (_ ∷ []) in
          let frames : length y.due.frames ≡ length c.due.frames = ap (λ (z : Course). length z.due.frames) is in
          let own : behind_cost 4 y.own ≡ rest-weight = ap (λ (z : Course). behind_cost 4 z.own) is in
          omega (arith, all, more, frames, own),
      inr (omega arith),
    )
    ends-low r said y is None next = (
      let from-low = from.cost in
          let own : own_cost (jobs.resume y.own) (jobs.plan (jobs.resume y.own)) wb ≡ own_cost (jobs.resume c.own) (jobs.plan (jobs.resume c.own)) wb = ap (λ (z : Course). own_cost (jobs.resume z.own) (jobs.plan (jobs.resume z.own)) wb) is in
          let four : behind_cost 3 c.own ≤ rest-weight = by-four (jobs.pauses c.own) in
          omega (arith, from-low, own, four),
      subst (λ (z : Course). IsIdle (jobs.resume z.own)) (sym is) from.idle,
    )
      where
        by-four : (q : Bool) → cond q (cost_behind c.own + 3) 0 ≤ cond q (cost_behind c.own + 4) 0
        by-four true = omega arith
        by-four false = omega arith

        from : GoesOnFrom c.own wb
        from = goes-from layout (view_of a seat) c.own wb (few-frees layout b made.kept) (x.at.own_waits (abandoned-stays layout s.who s.frame s.at m.at made.found made.got u x.follows.2.1 (over-stays m r said))).rests

    soft-ways : (o : Option SoftAnswer) → softs.answer m ≡ o → AfterSoft (record (bare_of c (Some s)) { beside = Some m }) m o u d turn → SoftGoes ⊎ SoftEnds
    soft-ways None said next = inl (record { part_is = ap (λ (z : Course). part_of z.beside z.own) next.0; unanswered = ap (λ (z : Course). answer_of z.beside z.own) next.0; cost_is = ap (λ (z : Course). cost z wb) next.0; turn_is = next.1 })
    soft-ways (Some r) said next =
        let y : Course = with_result (record (bare_of c (Some s)) { beside = Some m }) m.frame r in
        let all = ends-low r said y refl (next_due y.due) refl in
        inr (record {
          answer = r;
          said = said;
          low = subst (λ (z : Course). cost z wb ≤ soft_weight * (length c.due.frames - (length c.due.offlined + 1)) + rest-weight) (sym next.0) all.0;
          goes = ap is_waits next.1 ∙ turn-moves y (next_due y.due);
          idle = subst (λ (z : Course). IsIdle (part_of z.beside z.own)) (sym next.0) all.1;
        })
      where
        turn-moves : (y : Course) (o : Option Frame) → is_waits (turn_on y o) ≡ false
        turn-moves y (Some frame) = refl
        turn-moves y None = by (is_some (jobs.answer (jobs.resume y.own)))
          where
            by : (q : Bool) → is_waits (cond q turns.Answered turns.Moved) ≡ false
            by true = refl
            by false = refl

    soft-by : SoftGoes ⊎ SoftEnds
    soft-by = soft-ways (softs.answer m) refl x.follows.3

    falls-soft : is_waits turn ≡ false → Falls (Some s)
    falls-soft on = elim soft-by [
      | inl goes ↦ elim (jobbing.ranked.falls layout seat a b (kinds.Soft s) (kinds.Soft m) u (soft-made s x) (sym (ap is_waits goes.turn_is) ∙ on)) [
        | inl less ↦ inl (let is = goes.cost_is in let one : softs.cost m wb < softs.cost s wa = less in omega (arith, is, one))
        | inr fails ↦ inr (fails.fewer, let is = goes.cost_is in let one : softs.cost m wb < softs.cost s wa + failure_weight = fails.bounded in omega (arith, is, one))
      ]
      | inr ends ↦ inl (let low = ends.low in omega (arith, low))
    ]

    waits-soft : is_waits turn ≡ true → Quiet (softs.class s) layout a seat → (cost d wb < cost_of c (Some s) wa) ⊎ ((jobs.aborts (part_of d.beside d.own) ≡ true) × OtherHand a seat)
    waits-soft on quiet = elim soft-by [
      | inl goes ↦ elim (jobbing.ranked.waits layout seat a b (kinds.Soft s) (kinds.Soft m) u (soft-made s x) (sym (ap is_waits goes.turn_is) ∙ on) quiet) [
        | inl less ↦ inl (let is = goes.cost_is in let one : softs.cost m wb < softs.cost s wa = less in omega (arith, is, one))
        | inr gives ↦ inr (ap jobs.aborts goes.part_is ∙ gives.0, gives.1)
      ]
      | inr ends ↦ absurd (both_ways true (sym on ∙ ends.goes) refl)
    ]

    leaves-soft : softs.aborts s ≡ true → IsIdle (part_of d.beside d.own)
    leaves-soft gives = elim soft-by [
      | inl goes ↦ subst IsIdle (sym goes.part_is) (jobbing.ranked.leaves layout seat a b (kinds.Soft s) (kinds.Soft m) u (soft-made s x) gives)
      | inr ends ↦ ends.idle
    ]

    owns-soft : is_refused turn ≡ false → (frame : Frame) (cycle : ℕ) → Pending wb frame cycle → (jobs.claims (part_of d.beside d.own) ≡ Some (frame, cycle)) ⊎ (Pending wa frame cycle × (softs.claims s ≢ Some (frame, cycle)))
    owns-soft on frame cycle pending = elim soft-by [
      | inl goes ↦ elim (jobbing.ranked.owns layout seat a b (kinds.Soft s) (kinds.Soft m) u frame cycle (soft-made s x) (sym (ap is_refused goes.turn_is) ∙ on) pending) [
        | inl claimed ↦ inl (ap jobs.claims goes.part_is ∙ claimed)
        | inr was ↦ inr was
      ]
      | inr ends ↦ inr (jobbing.owns-answered layout seat a b (kinds.Soft s) (kinds.Soft m) u frame cycle (soft-made s x) (ap (λ (o : Option SoftAnswer). option_map soft_answer o) ends.said) pending)
    ]

    pays-soft : (failures_left wb ≤ failures_left wa) ⊎ (cost d wb + failure_weight * failures_left wb < cost_of c (Some s) wa + failure_weight * failures_left wa)
    pays-soft = elim (jobbing.pays layout seat a b (kinds.Soft s) (kinds.Soft m) u (soft-made s x)) [
      | inl stay ↦ inl stay
      | inr paid ↦ inr (by soft-by paid)
    ]
      where
        by : SoftGoes ⊎ SoftEnds → softs.cost m wb + failure_weight * failures_left wb < softs.cost s wa + failure_weight * failures_left wa → cost d wb + failure_weight * failures_left wb < cost_of c (Some s) wa + failure_weight * failures_left wa
        by (inl goes) paid = let is = goes.cost_is in omega (arith, is, paid)
        by (inr ends) paid = let low = ends.low in omega (arith, low, paid)

  falls-by : (o : Option Soft) → Turned o → is_waits turn ≡ false → Falls o
  falls-by None x on = falls-own x on
  falls-by (Some s) x on = falls-soft s x on

  waits-by : (o : Option Soft) → Turned o → is_waits turn ≡ true → Quiet (jobs.class (part_of o c.own)) layout a seat → (cost d wb < cost_of c o wa) ⊎ ((jobs.aborts (part_of d.beside d.own) ≡ true) × OtherHand a seat)
  waits-by None x on quiet = waits-own x on quiet
  waits-by (Some s) x on quiet = waits-soft s x on quiet

  leaves-by : (o : Option Soft) → Turned o → jobs.aborts (part_of o c.own) ≡ true → IsIdle (part_of d.beside d.own)
  leaves-by None x gives = leaves-own x gives
  leaves-by (Some s) x gives = leaves-soft s x gives

  owns-by : (o : Option Soft) → Turned o → is_refused turn ≡ false → (frame : Frame) (cycle : ℕ) → Pending wb frame cycle → (jobs.claims (part_of d.beside d.own) ≡ Some (frame, cycle)) ⊎ (Pending wa frame cycle × (jobs.claims (part_of o c.own) ≢ Some (frame, cycle)))
  owns-by None x on frame cycle pending = owns-own x on frame cycle pending
  owns-by (Some s) x on frame cycle pending = owns-soft s x on frame cycle pending

  pays-by : (o : Option Soft) → Turned o → (failures_left wb ≤ failures_left wa) ⊎ (cost d wb + failure_weight * failures_left wb < cost_of c o wa + failure_weight * failures_left wa)
  pays-by None x = pays-own x
  pays-by (Some s) x = pays-soft s x

  -- a course with its answer claims nothing that is pending
  owns-over : (o : Option Soft) → Turned o → (r : Answer) → answer_of d.beside d.own ≡ Some r → (frame : Frame) (cycle : ℕ) → Pending wb frame cycle → Pending wa frame cycle × (jobs.claims (part_of o c.own) ≢ Some (frame, cycle))
  owns-over None x r said frame cycle pending = by (own-ways x)
    where
      by : Ways c made.fits (going x) (own-made x) d turn → Pending wa frame cycle × (jobs.claims c.own ≢ Some (frame, cycle))
      by (inl same) = jobbing.owns-answered layout seat a b c.own x.follows.0 x.follows.1 frame cycle (own-made x) (sym same.answer_is ∙ said) pending
      by (inr (inl paused)) = pause-owns frame cycle paused.pauses pending c.own (own-made x)
      by (inr (inr ended)) = jobbing.owns-answered layout seat a b c.own x.follows.0 x.follows.1 frame cycle (own-made x) ended.said pending
  owns-over (Some s) x r said frame cycle pending = by (soft-by s x)
    where
      by : SoftGoes s x ⊎ SoftEnds s x → Pending wa frame cycle × (softs.claims s ≢ Some (frame, cycle))
      by (inl goes) = absurd (none-some r (sym goes.unanswered ∙ said))
      by (inr ends) = jobbing.owns-answered layout seat a b (kinds.Soft s) (kinds.Soft x.follows.0) x.follows.1 frame cycle (soft-made s x) (ap (λ (o : Option SoftAnswer). option_map soft_answer o) ends.said) pending

  fell : Falls c.beside → CostFalls course-task layout a b c d ⊎ HasFailed course-task layout a b c d
  fell (inl less) = inl less
  fell (inr fails) = inr (record { fewer = fails.0; bounded = fails.1 })

-- ---- a course weighs no more than a command of one part

pub course-below : (layout : Layout) (a : State) (view : View) (c : Course) → Holds layout a → Fits layout view c → cost c (words_at layout a) < command_weight
course-below layout a view c rule fits = which c.beside fits.at
  where
    w : Words
    w = words_at layout a

    flat-most : (j : Job) → flat j ≤ soft_weight * due_room
    flat-most (kinds.Raise x) = omega arith
    flat-most (kinds.Scrub x) = omega arith
    flat-most (kinds.Instruction x) = omega arith
    flat-most (kinds.Copying x) = omega arith
    flat-most (kinds.Evict x) = omega arith
    flat-most (kinds.Fsync x) = omega arith
    flat-most (kinds.Prctl x) = omega arith
    flat-most (kinds.Denied x) = omega arith
    flat-most (kinds.Fork x) = omega arith
    flat-most (kinds.Log x) = omega arith
    flat-most (kinds.Spoil x) = omega arith
    flat-most (kinds.Nested x) = omega arith
    flat-most (kinds.Inject x) = omega arith
    flat-most (kinds.Soft x) = omega arith
    flat-most (kinds.Unpoison x) = omega arith

    own : (o : Option Answer) → jobs.answer c.own ≡ o → FitsOwn layout view c o → own_cost c.own (jobs.plan c.own) w < command_weight
    own None said going =
        let all : own_cost c.own (jobs.plan c.own) w ≤ jobs.cost c.own w + flat c.own + 3 = own-most c.own (jobs.plan c.own) w in
        let few : jobs.cost c.own w < 131 * failure_weight = job-few layout a view c.own rule going.fits in
        let most : flat c.own ≤ soft_weight * due_room = flat-most c.own in
        omega (arith, all, few, most)
    own (Some r) said done = let none : own_cost c.own (jobs.plan c.own) w ≡ 0 = over-cost c.own w (answered-over c.own said) in omega (arith, none)

    which : (o : Option Soft) → FitsOf layout view c o → cost_of c o w < command_weight
    which None at = own (jobs.answer c.own) refl at
    which (Some s) at =
        let few : softs.cost s w ≤ softs.soft_most = soft-small layout a s rule in
        let due : length c.due.frames ≤ length c.due.offlined + due_room = fits.few in
        let behind : cost_behind c.own ≤ failure_weight * 129 + anew_after_wait = most-behind c.own in
        let rest : behind_cost 4 c.own ≤ cost_behind c.own + 4 = by (jobs.pauses c.own) in
        omega (arith, few, due, behind, rest)
      where
        most-behind : (j : Job) → cost_behind j ≤ failure_weight * 129 + anew_after_wait
        most-behind (kinds.Instruction i) = omega arith
        most-behind (kinds.Copying y) = let few : copying_costs.behind y.cow.at ≤ 129 = few-behind y.cow.at in omega (arith, few)
        most-behind (kinds.Evict x) = omega arith
        most-behind (kinds.Fsync x) = omega arith
        most-behind (kinds.Prctl x) = omega arith
        most-behind (kinds.Denied x) = omega arith
        most-behind (kinds.Fork x) = omega arith
        most-behind (kinds.Log x) = omega arith
        most-behind (kinds.Raise x) = omega arith
        most-behind (kinds.Scrub x) = omega arith
        most-behind (kinds.Spoil x) = omega arith
        most-behind (kinds.Nested x) = omega arith
        most-behind (kinds.Inject x) = omega arith
        most-behind (kinds.Soft x) = omega arith
        most-behind (kinds.Unpoison x) = omega arith

        by : (q : Bool) → cond q (cost_behind c.own + 4) 0 ≤ cost_behind c.own + 4
        by true = omega arith
        by false = omega arith

pub ranked : IsRanked course-task
ranked = record {
  classes = λ c. jobbing.ranked.classes (part_of c.beside c.own);
  small = λ layout a seat c rule fits. let below : cost c (words_at layout a) < command_weight = course-below layout a (view_of a seat) c rule fits in omega (arith, below);
  falls = λ layout seat a b c d turn made goes. fell made (falls-by made c.beside (turned made) goes);
  waits = λ layout seat a b c d turn made is quiet. waits-by made c.beside (turned made) is quiet;
  leaves = λ layout seat a b c d turn made gives. leaves-by made c.beside (turned made) gives;
  owns = λ layout seat a b c d turn frame cycle made going pending. owns-by made c.beside (turned made) going frame cycle pending;
}

pub pays : PaysRevival course-task
pays layout seat a b c d turn made = pays-by made c.beside (turned made)

pub owns-answered : (layout : Layout) (seat : ℕ) (a b : State) (c d : Course) (turn : Turn) (frame : Frame) (cycle : ℕ) {r : Answer} → Made course-task layout seat a b c d turn → answer d ≡ Some r → Pending (words_at layout b) frame cycle
    → Pending (words_at layout a) frame cycle × (jobs.claims (part_of c.beside c.own) ≢ Some (frame, cycle))
owns-answered layout seat a b c d turn frame cycle {r} made said pending = owns-over made c.beside (turned made) r said frame cycle pending
