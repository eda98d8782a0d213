-- The rank of a copy: each turn is one of the access or of the freeing, and behind an access that went well there is one fewer.
use Rattle.std.proofs.Common.{◌≡◌, ◌≢◌, ◌⊎◌, inl, inr, ℕ, ◌+◌, ◌*◌, ◌<◌, ◌≤◌, Bool, true, false, List, Option, Some, None, refl, sym, ap, ◌∙◌, subst, arith}
use Rattle.std.proofs.lemmas.Bool.{both_ways}
use Rattle.std.proofs.lemmas.Option.{none-some}
use Rattle.hwp_fault.specs.hwp_geom.declared.Frame.{Frame}
use Rattle.hwp_fault.specs.hwp_geom.declared.Layout.{Layout}
use Rattle.hwp_fault.specs.hwp_geom.declared.VSlot.{VSlot}
use Rattle.hwp_fault.specs.hwp_page.declared.At.{At}
use Rattle.hwp_fault.specs.hwp_page.History.{BodyValue}
use Rattle.hwp_fault.specs.hwp_core_rule.declared.Made.{Made as Deed}
use Rattle.hwp_fault.specs.hwp_core_rule.declared.State.{State}
use Rattle.hwp_fault.specs.hwp_core_rule.declared.Step.{Step}
use Rattle.hwp_fault.specs.hwp_core_rule.declared.View.{View}
use Rattle.hwp_fault.specs.hwp_core_rule.Moves.{Move}
use Rattle.hwp_fault.specs.hwp_core_rule.Rule.{Holds}
use Rattle.hwp_fault.specs.hwp_core_rule.Views.{view_after}
use Rattle.hwp_fault.specs.hwp_core_rule.Words.{Words}
use Rattle.hwp_fault.specs.hwp_core_rule.declared.Turn.{Turn}
use Rattle.hwp_fault.specs.hwp_core_rule.Boards.{view_of}
use Rattle.hwp_fault.specs.hwp_core_rule.Calls.{logs, rec_of}
use Rattle.hwp_fault.specs.hwp_core_rule.Classes.{TellsClass}
use Rattle.hwp_fault.specs.hwp_core_rule.Ranks.{CostFalls, HasFailed, HasFrame, HasPage, IsRanked, Made, OtherHand, PaysRevival, Pending, Quiet, failure_weight, failures_left, is_refused, is_waits, words_at}
use Rattle.hwp_fault.proofs.of_hwp_core_rule.tasks.Failures.{mild-leaves}
use Rattle.hwp_fault.specs.hwp_core_rule.Lasting.{LeavesPoison}
use Rattle.hwp_fault.proofs.of_hwp_core_rule.tasks.Revivals.{lasting-pays}
use Rattle.hwp_fault.proofs.of_hwp_core_rule.tasks.StepRanks.{part-made, steps-on}
use Rattle.hwp_fault.proofs.of_hwp_core.TaskTells.{no-frame, no-page}
use Rattle.hwp_fault.specs.hwp_evict.declared.evict.Evict.{Evict}
use Rattle.hwp_fault.specs.hwp_evict.declared.evict.EvictAnswer.{EvictAnswer}
use Rattle.hwp_fault.specs.hwp_evict.declared.evict.EvictAnswer.TheVariants as evict_answers
use Rattle.hwp_fault.specs.hwp_evict.Evicts as evicts
use Rattle.hwp_fault.specs.hwp_evict.Evicts.{task as evict-task}
use Rattle.hwp_fault.proofs.of_hwp_evict.EvictCosts.{evict-below, evict-class, evict-mild, evict-ranked, evict-tells}
use Rattle.hwp_fork.specs.declared.cow.Cow.{Cow}
use Rattle.hwp_fork.specs.declared.cow.CowAt.{CowAt}
use Rattle.hwp_fork.specs.declared.cow.CowAt.TheVariants as cow_at
use Rattle.hwp_fork.specs.declared.cow.Sub.{Sub}
use Rattle.hwp_fork.specs.declared.cow.Sub.TheVariants as subs
use Rattle.hwp_fork.specs.Cows.{sub_at, sub_of, told_at, told_by}
use Rattle.hwp_cpu_access.specs.declared.instruction.InstructionAnswer.{InstructionAnswer}
use Rattle.hwp_cpu_access.specs.declared.instruction.InstructionAnswer.TheVariants as answers
use Rattle.hwp_cpu_access.specs.Costs as instruction_costs
use Rattle.hwp_cpu_access.specs.Fits.{task as instruction-task}
use Rattle.hwp_cpu_access.specs.Instructions as instructions
use Rattle.hwp_cpu_access.proofs.InstructionCosts.{instruction-below}
use Rattle.hwp_cpu_access.proofs.InstructionRank.{instruction-lasting, instruction-ranked, instruction-tells}
use Rattle.hwp_cpu_access.specs.declared.copying.Copying.{Copying}
use Rattle.hwp_cpu_access.specs.declared.copying.CopyingAt.{CopyingAt}
use Rattle.hwp_cpu_access.specs.declared.copying.CopyingAt.TheVariants as at
use Rattle.hwp_cpu_access.specs.Copyings.{AccessStepped, FollowsAt, FreeStepped, after_access, after_free_by, bare_at, going_on, load_of, plan, plan_at, put, put_at, store_of}
use Rattle.hwp_cpu_access.specs.CopyCosts.{aborts, aborts_at, behind, claims, claims_at, class, class_at, cost, cost_at}
use Rattle.hwp_cpu_access.specs.CopyFits.{FitsAt, FitsFrom, IsAccessing, IsFreeing, task as copy-task}
use Rattle.hwp_cpu_access.specs.Runs.{words_of}
use Rattle.hwp_cpu_access.proofs.CopyLaws.{over-instruction, stays}
use Rattle.hwp_cpu_access.proofs.CowSteps.{behind-few, fewer, request-who, told-of}

-- ---- costs are small

-- the part that goes on costs less than the weight of a failure
pub part-below : {base : List Deed} (layout : Layout) (a : State) (view : View) (c : Copying) → Holds layout a → FitsFrom base layout view c → cost_at c.instruction c.at (words_at layout a) < failure_weight
part-below {base} layout a view c rule fits = which c.at fits.at
  where
    which : (x : CopyingAt) → FitsAt base layout view c fits.runs x → cost_at c.instruction x (words_at layout a) < failure_weight
    which at.Access has = instruction-below layout a view c.instruction rule has.instruction
    which (at.Free e stored) has = evict-below (words_at layout a) e
    which (at.Over answer) has = omega arith

-- and the copy less than 131 of them
pub copy-below : {base : List Deed} (layout : Layout) (a : State) (view : View) (c : Copying) → Holds layout a → FitsFrom base layout view c → cost c (words_at layout a) < 131 * failure_weight
copy-below layout a view c rule fits =
    let part : cost_at c.instruction c.at (words_at layout a) < failure_weight = part-below layout a view c rule fits in
    let few : behind c.cow.at ≤ 129 = behind-few c.cow in
    omega (arith, part, few)

-- ---- what follows a part

cow-going : (c : Copying) (place : At) (sub : Sub) → (going_on c place sub).cow ≡ c.cow
cow-going c place (subs.Load slot line) = refl
cow-going c place (subs.Store slot line word) = refl
cow-going c place (subs.Free slot) = refl
cow-going c place subs.Switched = refl

-- an access that has just begun, the freeing, or nothing any more: they claim nothing and are of the highest class
fresh : (c : Copying) (place : At) (sub : Sub) → c.at ≡ at.Access → (class (going_on c place sub) ≡ 4) × (claims (going_on c place sub) ≡ None)
fresh c place (subs.Load slot line) is = (
  ap (class_at (instructions.again_with c.instruction (load_of c.store c.page slot line))) is,
  ap (claims_at (instructions.again_with c.instruction (load_of c.store c.page slot line))) is,
)
fresh c place (subs.Store slot line word) is = (
  ap (class_at (instructions.again_with c.instruction (store_of c.store slot line word))) is,
  ap (claims_at (instructions.again_with c.instruction (store_of c.store slot line word))) is,
)
fresh c place (subs.Free slot) is = (refl, refl)
fresh c place subs.Switched is = (refl, refl)

-- at the freeing no access comes behind
abbrev is_free : Sub → Bool
is_free (subs.Free slot) = true
is_free _ = false

other : (sub : Sub) {slot : VSlot} → is_free sub ≡ false → sub ≡ subs.Free slot → ⊥
other sub apart is = both_ways (is_free sub) apart (ap is_free is)

free-behind : (c : Cow) {slot : VSlot} → sub_of c ≡ subs.Free slot → behind (told_by c 0).at ≡ 0
free-behind c {slot} = which c.at
  where
    which : (x : CowAt) → sub_at c x ≡ subs.Free slot → behind (told_at x 0) ≡ 0
    which cow_at.Free is = refl
    which cow_at.Switched is = refl
    which (cow_at.Load line) is = absurd (other (subs.Load c.v line) refl is)
    which (cow_at.Store line word) is = absurd (other (subs.Store c.w line word) refl is)
    which cow_at.Last is = absurd (other (subs.Store c.w c.line c.x) refl is)

at-free : (c : Cow) {slot : VSlot} → sub_of c ≡ subs.Free slot → behind c.at ≡ 0
at-free c {slot} = which c.at
  where
    which : (x : CowAt) → sub_at c x ≡ subs.Free slot → behind x ≡ 0
    which cow_at.Free is = refl
    which cow_at.Switched is = refl
    which (cow_at.Load line) is = absurd (other (subs.Load c.v line) refl is)
    which (cow_at.Store line word) is = absurd (other (subs.Store c.w line word) refl is)
    which cow_at.Last is = absurd (other (subs.Store c.w c.line c.x) refl is)

-- ---- the turns

module _ {layout : Layout} {seat : ℕ} {a b : State} {s t : Copying} {turn : Turn} (made : Made copy-task layout seat a b s t turn) where
  abbrev w : Words
  w = words_at layout a

  abbrev now : Words
  now = words_at layout b

  abbrev Moves : Option BodyValue → Type 0
  Moves logged = Move layout seat (rec_of layout s.store.who made.step (logs logged) made.found made.got) a b

  -- what follows fits what its processor then knows
  after-fits : FitsFrom made.fits.0 layout (view_after layout (rec_of layout s.store.who made.step (logs (put s)) made.found made.got) (view_of a seat)) t
  after-fits = ((stays layout (view_of a seat) (view_after layout (rec_of layout s.store.who made.step (logs (put s)) made.found made.got) (view_of a seat)) s made.step made.found made.got made.fits.1 made.planned (steps-on made)).1 t turn made.follows).0

  part-after : cost_at t.instruction t.at now < failure_weight
  part-after = part-below layout b (view_after layout (rec_of layout s.store.who made.step (logs (put s)) made.found made.got) (view_of a seat)) t made.kept after-fits

  abbrev Lowers : CopyingAt → Type 0
  Lowers x = cost t now < failure_weight * behind s.cow.at + cost_at s.instruction x w

  -- ---- a turn of the access

  module _ (has : IsAccessing made.fits.0 layout (view_of a seat) s made.fits.1.runs) (e : instructions.plan s.instruction ≡ Some made.step) (move : Moves (instructions.put s.instruction)) (next : AccessStepped layout (bare_at s at.Access) made.found made.got t turn) where
    access-made : Made instruction-task layout seat a b s.instruction next.instruction turn
    access-made = part-made made instruction-task s.instruction next.instruction (request-who s.store s.page (sub_of s.cow) has.request_is).0 (_, _, has.instruction) e move next.follows

    abbrev gone : Copying
    gone = record s { instruction = next.instruction; at = at.Access }

    -- an access that went well is one fewer
    well-lowers : (word : ℕ) (place : At) → t ≡ going_on (record gone { cow = told_by s.cow word }) place (sub_of (told_by s.cow word)) → Lowers at.Access
    well-lowers word place is =
        let cow : t.cow ≡ told_by s.cow word = ap (λ (c : Copying). c.cow) is ∙ cow-going (record gone { cow = told_by s.cow word }) place (sub_of (told_by s.cow word)) in
        let one : behind (told_by s.cow word).at + 1 ≡ behind s.cow.at = fewer s.store s.page word s.cow (words_of made.fits.1.runs) (told-of s.cow (words_of made.fits.1.runs) made.fits.1.has.cow_is) has.request_is in
        let same : behind t.cow.at ≡ behind (told_by s.cow word).at = ap (λ (c : Cow). behind c.at) cow in
        let small : cost_at t.instruction t.at now < failure_weight = part-after in
        omega (arith, one, same, small)

    -- one that goes on, or answers the command
    abbrev Goes : Type 0
    Goes = t ≡ gone

    -- either
    access-by : {P : Type 0} → (Goes → P) → ((word : ℕ) (place : At) (x : InstructionAnswer) → instructions.answer next.instruction ≡ Some x → t ≡ going_on (record gone { cow = told_by s.cow word }) place (sub_of (told_by s.cow word)) → P) → P
    access-by {P} goes well = which (instructions.answer next.instruction) refl next.next_is
      where
        which : (o : Option InstructionAnswer) → instructions.answer next.instruction ≡ o → t ≡ after_access gone o → P
        which None is then = goes then
        which (Some (answers.Value word place)) is then = well word place (answers.Value word place) is then
        which (Some (answers.Stored place)) is then = well 0 place (answers.Stored place) is then
        which (Some (answers.Sigbus place)) is then = goes then
        which (Some answers.NoFrame) is then = goes then
        which (Some (answers.Gone page)) is then = goes then
        which (Some answers.Stopped) is then = goes then

    goes-cost : Goes → cost t now ≡ failure_weight * behind s.cow.at + instruction_costs.cost next.instruction now
    goes-cost is = ap (λ (c : Copying). cost c now) is

    bounded : cost t now < failure_weight * behind s.cow.at + instruction_costs.cost s.instruction w + failure_weight → failures_left now < failures_left w → HasFailed copy-task layout a b (record s { at = at.Access }) t
    bounded most less = record { fewer = less; bounded = most }

    access-falls : is_waits turn ≡ false → Lowers at.Access ⊎ HasFailed copy-task layout a b (record s { at = at.Access }) t
    access-falls goes = access-by (λ is. elim (instruction-ranked.falls layout seat a b s.instruction next.instruction turn access-made goes) [
      | inl less ↦ let same : cost t now ≡ failure_weight * behind s.cow.at + instruction_costs.cost next.instruction now = goes-cost is in
          let falls : instruction_costs.cost next.instruction now < instruction_costs.cost s.instruction w = less in
          inl (omega (arith, same, falls))
      | inr fails ↦ let same : cost t now ≡ failure_weight * behind s.cow.at + instruction_costs.cost next.instruction now = goes-cost is in
          let most : instruction_costs.cost next.instruction now < instruction_costs.cost s.instruction w + failure_weight = fails.bounded in
          inr (bounded (omega (arith, same, most)) fails.fewer)
    ]) (λ word place x is then. inl (well-lowers word place then))

    access-waits : is_waits turn ≡ true → Quiet (instruction_costs.class s.instruction) layout a seat → Lowers at.Access ⊎ ((aborts t ≡ true) × OtherHand a seat)
    access-waits waits quiet = access-by (λ is. elim (instruction-ranked.waits layout seat a b s.instruction next.instruction turn access-made waits quiet) [
      | inl less ↦ let same : cost t now ≡ failure_weight * behind s.cow.at + instruction_costs.cost next.instruction now = goes-cost is in
          let falls : instruction_costs.cost next.instruction now < instruction_costs.cost s.instruction w = less in
          inl (omega (arith, same, falls))
      | inr gives ↦ inr (ap aborts is ∙ gives.0, gives.1)
    ]) (λ word place x is then. inl (well-lowers word place then))

    access-leaves : instruction_costs.aborts s.instruction ≡ true → (plan t ≡ None) ⊎ (1 < class t)
    access-leaves gives = access-by (λ is. subst (λ (c : Copying). (plan c ≡ None) ⊎ (1 < class c)) (sym is) (instruction-ranked.leaves layout seat a b s.instruction next.instruction turn access-made gives))
        (λ word place x is then. let high : class t ≡ 4 = ap class then ∙ (fresh (record gone { cow = told_by s.cow word }) place (sub_of (told_by s.cow word)) refl).0 in inr (omega (arith, high)))

    access-owns : (frame : Frame) (cycle : ℕ) → is_refused turn ≡ false → Pending now frame cycle → (claims t ≡ Some (frame, cycle)) ⊎ (Pending w frame cycle × (instruction_costs.claims s.instruction ≢ Some (frame, cycle)))
    access-owns frame cycle going pending = access-by (λ is. elim owns [ inl claimed ↦ inl (ap claims is ∙ claimed) | inr was ↦ inr was ])
        (λ word place x is then. elim owns [
          | inl claimed ↦ absurd (none-some (frame, cycle) (sym (ap instruction_costs.claims_at (over-instruction next.instruction is)) ∙ claimed))
          | inr was ↦ inr was
        ])
      where
        owns : (instruction_costs.claims next.instruction ≡ Some (frame, cycle)) ⊎ (Pending w frame cycle × (instruction_costs.claims s.instruction ≢ Some (frame, cycle)))
        owns = instruction-ranked.owns layout seat a b s.instruction next.instruction turn frame cycle access-made going pending

  -- ---- a turn of the freeing

  module _ (e : Evict) (stored : At) (has : IsFreeing made.fits.0 layout (view_of a seat) s made.fits.1.runs e stored) (is : evicts.plan e ≡ Some made.step) (move : Moves (evicts.put e)) (next : FreeStepped (bare_at s (at.Free e stored)) (evicts.bare e) stored made.found made.got t turn) where
    free-made : Made evict-task layout seat a b e next.evict turn
    free-made = part-made made evict-task e next.evict (ap (λ (x : Evict). x.who) has.evict_is) (_, has.evict) is move next.follows

    here : behind s.cow.at ≡ 0
    here = at-free s.cow has.sub_is

    free-cost : evicts.cost next.evict now < evicts.cost e w → Lowers (at.Free e stored)
    free-cost less = which (evicts.answer next.evict) next.next_is
      where
        which : (o : Option EvictAnswer) → t ≡ after_free_by (bare_at s (at.Free e stored)) next.evict stored o → Lowers (at.Free e stored)
        which None then = let same : cost t now ≡ failure_weight * behind s.cow.at + evicts.cost next.evict now = ap (λ (c : Copying). cost c now) then in omega (arith, same, less)
        which (Some evict_answers.Stopped) then = let same : cost t now ≡ failure_weight * behind s.cow.at + 0 = ap (λ (c : Copying). cost c now) then in omega (arith, same, less)
        which (Some (evict_answers.Done place)) then =
            let same : cost t now ≡ failure_weight * behind (told_by s.cow 0).at + 0 = ap (λ (c : Copying). cost c now) then in
            let none : behind (told_by s.cow 0).at ≡ 0 = free-behind s.cow has.sub_is in
            omega (arith, same, none, less)
        which (Some (evict_answers.Refused refusal place)) then =
            let same : cost t now ≡ failure_weight * behind (told_by s.cow 0).at + 0 = ap (λ (c : Copying). cost c now) then in
            let none : behind (told_by s.cow 0).at ≡ 0 = free-behind s.cow has.sub_is in
            omega (arith, same, none, less)

    -- the part that follows it is small
    free-behind-after : behind t.cow.at ≡ 0
    free-behind-after = which (evicts.answer next.evict) next.next_is
      where
        which : (o : Option EvictAnswer) → t ≡ after_free_by (bare_at s (at.Free e stored)) next.evict stored o → behind t.cow.at ≡ 0
        which None then = ap (λ (c : Copying). behind c.cow.at) then ∙ here
        which (Some evict_answers.Stopped) then = ap (λ (c : Copying). behind c.cow.at) then ∙ here
        which (Some (evict_answers.Done place)) then = ap (λ (c : Copying). behind c.cow.at) then ∙ free-behind s.cow has.sub_is
        which (Some (evict_answers.Refused refusal place)) then = ap (λ (c : Copying). behind c.cow.at) then ∙ free-behind s.cow has.sub_is

    free-falls : is_waits turn ≡ false → Lowers (at.Free e stored) ⊎ HasFailed copy-task layout a b (record s { at = at.Free e stored }) t
    free-falls goes = elim (evict-ranked.falls layout seat a b e next.evict turn free-made goes) [
      | inl less ↦ inl (free-cost less)
      | inr fails ↦ let small : cost_at t.instruction t.at now < failure_weight = part-after in let none : behind t.cow.at ≡ 0 = free-behind-after in inr (record { fewer = fails.fewer; bounded = omega (arith, small, none) })
    ]

    free-waits : is_waits turn ≡ true → Quiet (evicts.class e) layout a seat → Lowers (at.Free e stored)
    free-waits waits quiet = elim (evict-ranked.waits layout seat a b e next.evict turn free-made waits quiet) [ inl less ↦ free-cost less | inr gives ↦ absurd (both_ways false refl gives.0) ]

    free-owns : (frame : Frame) (cycle : ℕ) → is_refused turn ≡ false → Pending now frame cycle → (claims t ≡ Some (frame, cycle)) ⊎ (Pending w frame cycle × (claims_at s.instruction (at.Free e stored) ≢ Some (frame, cycle)))
    free-owns frame cycle going pending = elim (evict-ranked.owns layout seat a b e next.evict turn frame cycle free-made going pending) [
      | inl claimed ↦ absurd (none-some (frame, cycle) claimed)
      | inr was ↦ inr (was.0, λ claimed. none-some (frame, cycle) claimed)
    ]

  -- ---- any turn

  falls-at : (x : CopyingAt) → s.at ≡ x → plan_at s.instruction x ≡ Some made.step → FitsAt made.fits.0 layout (view_of a seat) s made.fits.1.runs x → Moves (put_at s.instruction x) → FollowsAt layout (bare_at s x) (bare_at s x).at made.found made.got t turn → is_waits turn ≡ false
      → CostFalls copy-task layout a b s t ⊎ HasFailed copy-task layout a b s t
  falls-at at.Access own e has move next goes = subst (λ (x : CopyingAt). Lowers x ⊎ HasFailed copy-task layout a b (record s { at = x }) t) (sym own) (access-falls has e move next goes)
  falls-at (at.Free e stored) own is has move next goes = subst (λ (x : CopyingAt). Lowers x ⊎ HasFailed copy-task layout a b (record s { at = x }) t) (sym own) (free-falls e stored has is move next goes)
  falls-at (at.Over answer) own e has move next goes = absurd (none-some made.step e)

  waits-at : (x : CopyingAt) → s.at ≡ x → plan_at s.instruction x ≡ Some made.step → FitsAt made.fits.0 layout (view_of a seat) s made.fits.1.runs x → Moves (put_at s.instruction x) → FollowsAt layout (bare_at s x) (bare_at s x).at made.found made.got t turn → is_waits turn ≡ true
      → Quiet (class_at s.instruction x) layout a seat → CostFalls copy-task layout a b s t ⊎ ((aborts t ≡ true) × OtherHand a seat)
  waits-at at.Access own e has move next waits quiet = subst (λ (x : CopyingAt). Lowers x ⊎ ((aborts t ≡ true) × OtherHand a seat)) (sym own) (access-waits has e move next waits quiet)
  waits-at (at.Free e stored) own is has move next waits quiet = inl (subst Lowers (sym own) (free-waits e stored has is move next waits quiet))
  waits-at (at.Over answer) own e has move next waits quiet = absurd (none-some made.step e)

  leaves-at : (x : CopyingAt) → plan_at s.instruction x ≡ Some made.step → FitsAt made.fits.0 layout (view_of a seat) s made.fits.1.runs x → Moves (put_at s.instruction x) → FollowsAt layout (bare_at s x) (bare_at s x).at made.found made.got t turn → aborts_at s.instruction x ≡ true
      → (plan t ≡ None) ⊎ (1 < class t)
  leaves-at at.Access e has move next gives = access-leaves has e move next gives
  leaves-at (at.Free e stored) is has move next gives = absurd (both_ways false refl gives)
  leaves-at (at.Over answer) e has move next gives = absurd (none-some made.step e)

  owns-at : (x : CopyingAt) (frame : Frame) (cycle : ℕ) → plan_at s.instruction x ≡ Some made.step → FitsAt made.fits.0 layout (view_of a seat) s made.fits.1.runs x → Moves (put_at s.instruction x) → FollowsAt layout (bare_at s x) (bare_at s x).at made.found made.got t turn → is_refused turn ≡ false
      → Pending now frame cycle → (claims t ≡ Some (frame, cycle)) ⊎ (Pending w frame cycle × (claims_at s.instruction x ≢ Some (frame, cycle)))
  owns-at at.Access frame cycle e has move next going pending = access-owns has e move next frame cycle going pending
  owns-at (at.Free e stored) frame cycle is has move next going pending = free-owns e stored has is move next frame cycle going pending
  owns-at (at.Over answer) frame cycle e has move next going pending = absurd (none-some made.step e)

copy-class : (c : Copying) → (1 ≤ class c) × (class c ≤ 4)
copy-class c = which c.at
  where
    which : (x : CopyingAt) → (1 ≤ class_at c.instruction x) × (class_at c.instruction x ≤ 4)
    which at.Access = instruction-ranked.classes c.instruction
    which (at.Free e stored) = evict-class e
    which (at.Over answer) = (omega arith, omega arith)

pub copy-ranked : IsRanked copy-task
copy-ranked = record {
  classes = copy-class;
  small = λ layout a seat s rule fits. let below : cost s (words_at layout a) < 131 * failure_weight = copy-below layout a (view_of a seat) s rule fits.1 in omega (arith, below);
  falls = λ layout seat a b s t turn made goes. falls-at made s.at refl made.planned made.fits.1.at made.move made.follows goes;
  waits = λ layout seat a b s t turn made is quiet. waits-at made s.at refl made.planned made.fits.1.at made.move made.follows is quiet;
  leaves = λ layout seat a b s t turn made gives. leaves-at made s.at made.planned made.fits.1.at made.move made.follows gives;
  owns = λ layout seat a b s t turn frame cycle made going pending. owns-at made s.at frame cycle made.planned made.fits.1.at made.move made.follows going pending;
}

-- none of its steps takes a frame's poison back
pub copy-lasting : (c : Copying) (step : Step) → plan c ≡ Some step → LeavesPoison step
copy-lasting c step is = which c.at is
  where
    which : (x : CopyingAt) → plan_at c.instruction x ≡ Some step → LeavesPoison step
    which at.Access e = instruction-lasting c.instruction step e
    which (at.Free e stored) own = mild-leaves step (evict-mild e step own)
    which (at.Over answer) e = absurd (none-some step e)

pub copy-pays : PaysRevival copy-task
copy-pays = lasting-pays copy-task copy-lasting

-- ---- what is held

module _ {base : List Deed} (layout : Layout) (view : View) (c : Copying) (fits : FitsFrom base layout view c) where
  frame-told : (x : CopyingAt) → FitsAt base layout view c fits.runs x → HasFrame view → (class_at c.instruction x ≡ 1) × (plan_at c.instruction x ≢ None)
  frame-told at.Access has some = instruction-tells.frame layout view c.instruction (_, _, has.instruction) some
  frame-told (at.Free e stored) has some = evict-tells.frame layout view e (_, has.evict) some
  frame-told (at.Over answer) has some = absurd (no-frame view has.hand_is refl refl refl some)

  page-told : (x : CopyingAt) → FitsAt base layout view c fits.runs x → HasPage view → (class_at c.instruction x ≤ 2) × (plan_at c.instruction x ≢ None)
  page-told at.Access has some = instruction-tells.page layout view c.instruction (_, _, has.instruction) some
  page-told (at.Free e stored) has some = evict-tells.page layout view e (_, has.evict) some
  page-told (at.Over answer) has some = absurd (no-page view has.hand_is refl some)

  claim-told : (x : CopyingAt) (frame : Frame) (cycle : ℕ) → FitsAt base layout view c fits.runs x → claims_at c.instruction x ≡ Some (frame, cycle) → (class_at c.instruction x ≤ 3) × (plan_at c.instruction x ≢ None)
  claim-told at.Access frame cycle has claimed = instruction-tells.claim layout view c.instruction frame cycle (_, _, has.instruction) claimed
  claim-told (at.Free e stored) frame cycle has claimed = absurd (none-some (frame, cycle) claimed)
  claim-told (at.Over answer) frame cycle has claimed = absurd (none-some (frame, cycle) claimed)

pub copy-tells : TellsClass copy-task
copy-tells = record {
  frame = λ layout view c fits some. frame-told layout view c fits.1 c.at fits.1.at some;
  page = λ layout view c fits some. page-told layout view c fits.1 c.at fits.1.at some;
  claim = λ layout view c frame cycle fits claimed. claim-told layout view c fits.1 c.at frame cycle fits.1.at claimed;
}
