-- The law of a copy: its steps can be made, and what follows them fits.
use Rattle.std.proofs.Common.{◌≡◌, inl, inr, ℕ, Bool, true, false, List, [], ◌∷◌, ◌++◌, Option, Some, None, length, append-nil, refl, sym, ap, ◌∙◌, subst, arith}
use Rattle.std.proofs.lemmas.Bool.{both_ways}
use Rattle.std.proofs.lemmas.List.{append_assoc}
use Rattle.std.proofs.lemmas.Option.{none-some, same_Some}
use Rattle.hwp_fault.specs.hwp_geom.declared.Layout.{Layout}
use Rattle.hwp_fault.specs.hwp_geom.declared.Page.{Page}
use Rattle.hwp_fault.specs.hwp_geom.declared.VSlot.{VSlot}
use Rattle.hwp_fault.specs.hwp_geom.declared.Who.{Who}
use Rattle.hwp_fault.specs.hwp_page.declared.At.{At}
use Rattle.hwp_fault.specs.hwp_page.History.{BodyValue}
use Rattle.hwp_fault.specs.hwp_page.Refusals.{IsUnused}
use Rattle.hwp_fault.specs.hwp_core_rule.declared.Log.{Log}
use Rattle.hwp_fault.specs.hwp_core_rule.declared.Made.{Made}
use Rattle.hwp_fault.specs.hwp_core_rule.declared.Step.{Step}
use Rattle.hwp_fault.specs.hwp_core_rule.declared.View.{View}
use Rattle.hwp_fault.specs.hwp_core_rule.Lists.{EachMember}
use Rattle.hwp_fault.specs.hwp_core_rule.declared.Turn.{Turn}
use Rattle.hwp_fault.specs.hwp_core_rule.Calls.{CanMake, IsOnTurn, Steps, logs}
use Rattle.hwp_fault.specs.hwp_core_rule.Hands.{hand_of, empty}
use Rattle.hwp_fault.specs.hwp_core_rule.Known.{deeds}
use Rattle.hwp_fault.specs.hwp_core_rule.Pages.{SawState}
use Rattle.hwp_fault.specs.hwp_core_rule.Turns.{IsTask}
use Rattle.hwp_fault.proofs.of_hwp_core_rule.tasks.SightKeeps.{saw-stays}
use Rattle.hwp_fault.proofs.of_hwp_core_rule.tasks.StepLeaves.{on-turn-after}
use Rattle.hwp_fault.specs.declared.Request.{Request}
use Rattle.hwp_claim.specs.Checks.{left_by, lines_of}
use Rattle.hwp_fault.specs.hwp_evict.declared.evict.Evict.{Evict}
use Rattle.hwp_fault.specs.hwp_evict.declared.evict.EvictAnswer.{EvictAnswer}
use Rattle.hwp_fault.specs.hwp_evict.declared.evict.EvictAnswer.TheVariants as evict_answers
use Rattle.hwp_fault.specs.hwp_evict.declared.evict.EvictAt.{EvictAt}
use Rattle.hwp_fault.specs.hwp_evict.declared.evict.EvictAt.TheVariants as evict_at
use Rattle.hwp_fault.specs.hwp_evict.declared.evict.Eviction.TheVariants as evictions
use Rattle.hwp_fault.specs.hwp_evict.declared.evict.Refusal.{Refusal}
use Rattle.hwp_fault.specs.hwp_evict.declared.evict.Refusal.TheVariants as refusals
use Rattle.hwp_fault.specs.hwp_evict.Evictions.{IsCaused, IsWhy}
use Rattle.hwp_fault.specs.hwp_evict.Evicts as evicts
use Rattle.hwp_fault.proofs.of_hwp_evict.EvictLaws as evicting
use Rattle.hwp_fork.specs.declared.cow.Cow.{Cow}
use Rattle.hwp_fork.specs.declared.cow.CowAt.{CowAt}
use Rattle.hwp_fork.specs.declared.cow.CowAt.TheVariants as cow_at
use Rattle.hwp_fork.specs.declared.cow.Sub.{Sub}
use Rattle.hwp_fork.specs.declared.cow.Sub.TheVariants as subs
use Rattle.hwp_fork.specs.Cows.{sub_at, sub_of, told_all, told_at, told_by}
use Rattle.hwp_cpu_access.specs.declared.instruction.Instruction.{Instruction}
use Rattle.hwp_cpu_access.specs.declared.instruction.InstructionAnswer.{InstructionAnswer}
use Rattle.hwp_cpu_access.specs.declared.instruction.InstructionAnswer.TheVariants as answers
use Rattle.hwp_cpu_access.specs.declared.instruction.InstructionAt.{InstructionAt}
use Rattle.hwp_cpu_access.specs.declared.instruction.InstructionAt.TheVariants as instruction_at
use Rattle.hwp_cpu_access.specs.Fits as instruction_fits
use Rattle.hwp_cpu_access.specs.Fits.{FitsBehind, LetsGoOn, checks_in}
use Rattle.hwp_cpu_access.specs.Instructions as instructions
use Rattle.hwp_cpu_access.proofs.InstructionLaws as instructing
use Rattle.hwp_cpu_access.specs.declared.copying.Copying.{Copying}
use Rattle.hwp_cpu_access.specs.declared.copying.CopyingAt.{CopyingAt}
use Rattle.hwp_cpu_access.specs.declared.copying.CopyingAt.TheVariants as at
use Rattle.hwp_cpu_access.specs.Copyings.{Follows, FollowsAt, Shows, ShowsAt, after_access, after_free_by, bare, bare_at, going_on, plan, plan_at, put, put_at, request_by}
use Rattle.hwp_cpu_access.specs.CopyFits.{FitsAt, FitsFrom, HasRun, HasTold, IsAccessing, IsFreeing, IsGoing, IsLastPlace, begun, is_well, task as copy-task}
use Rattle.hwp_cpu_access.specs.Looks.{HasInView}
use Rattle.hwp_cpu_access.specs.Runs.{AreRuns, IsBetween, IsFreeRun, IsRun, LooksLast, Run, checks_by, made_by, words_of}
use Rattle.hwp_cpu_access.proofs.AskedSame.{Asked, asked, asked-same}
use Rattle.hwp_cpu_access.proofs.CowSteps.{request-who}
use Rattle.hwp_cpu_access.proofs.FreeLooks.{looks-on}
use Rattle.hwp_cpu_access.proofs.FreeOwes.{evict-owes}
use Rattle.hwp_cpu_access.proofs.RunLaws.{checks-more, made-more, runs-more, runs-stay, told-more, words-more}
use Rattle.hwp_cpu_access.proofs.WentWell.{stored-well, value-well, went-fits}

-- ---- the steps can be made

pub can : {base : List Made} (layout : Layout) (view : View) (c : Copying) (step : Step) → FitsFrom base layout view c → plan c ≡ Some step → CanMake layout c.store.who step (put c) view
can {base} layout view c step fits is = which c.at fits.at is
  where
    which : (x : CopyingAt) → FitsAt base layout view c fits.runs x → plan_at c.instruction x ≡ Some step → CanMake layout c.store.who step (put_at c.instruction x) view
    which at.Access has e = subst (λ (w : Who). CanMake layout w step (instructions.put c.instruction) view) (request-who c.store c.page (sub_of c.cow) has.request_is).0 (instructing.can layout view c.instruction step has.instruction e)
    which (at.Free e stored) has own = subst (λ (w : Who). CanMake layout w step (evicts.put e) view) (ap (λ (x : Evict). x.who) has.evict_is) (evicting.can layout view e step has.evict own)
    which (at.Over answer) has e = absurd (none-some step e)

-- ---- what stays of the runs

-- over a step
pub runs-kept : {layout : Layout} {step : Step} {found : ℕ} {got : Option BodyValue} {old new : View} {put : Option Log} (c : Copying) (runs : List Run) → HasRun layout old c runs → Steps layout c.store.who step put old new found got → HasRun layout new c runs
runs-kept c runs has made = record {
  sound = has.sound;
  names = has.names;
  own = has.own;
  kind = has.kind;
  twin = has.twin;
  line = has.line;
  user = has.user;
  origin = has.origin;
  three = has.three;
  cow_is = has.cow_is;
  are = runs-stay c.store c.page made (begun c.cow) c.instruction.before.value runs has.are;
  lets = has.lets;
}

-- of an access that asks for the same
pub runs-with : {layout : Layout} {view : View} (c : Copying) (k : Instruction) (x : CopyingAt) (runs : List Run) → HasRun layout view c runs → asked k ≡ asked c.instruction → HasRun layout view (record c { instruction = k; at = x }) runs
runs-with {layout} {view} c k x runs has same = record {
  sound = has.sound;
  names = has.names;
  own = has.own;
  kind = has.kind;
  twin = has.twin;
  line = has.line;
  user = ap (λ (s : Asked). s.2) same ∙ has.user;
  origin = ap (λ (s : Asked). s.1) same ∙ has.origin;
  three = ap (λ (s : Asked). length s.3) same ∙ has.three;
  cow_is = has.cow_is;
  are = subst (λ (s : Asked). AreRuns layout view c.store c.page (begun c.cow) s.3 runs) (sym same) has.are;
  lets = has.lets;
}

-- ---- the end of a part

pub over-instruction : (i : Instruction) {x : InstructionAnswer} → instructions.answer i ≡ Some x → i.at ≡ instruction_at.Over (Some x)
over-instruction i {x} is = which i.at is
  where
    which : (y : InstructionAt) → instructions.answer_at y ≡ Some x → y ≡ instruction_at.Over (Some x)
    which (instruction_at.Over answer) e = ap instruction_at.Over e
    which (instruction_at.Access a) e = absurd (none-some x e)
    which (instruction_at.Handle frame h) e = absurd (none-some x e)
    which (instruction_at.LoadFrame frame) e = absurd (none-some x e)
    which (instruction_at.LoadStop frame) e = absurd (none-some x e)
    which instruction_at.GiveUp e = absurd (none-some x e)
    which (instruction_at.Paused pause) e = absurd (none-some x e)

pub over-evict : (e : Evict) {x : EvictAnswer} → evicts.answer e ≡ Some x → e.at ≡ evict_at.Over x
over-evict e {x} is = which e.at is
  where
    which : (y : EvictAt) → evicts.answer_at y ≡ Some x → y ≡ evict_at.Over x
    which (evict_at.Over answer) e = ap evict_at.Over (same_Some answer x e)
    which evict_at.LoadStop e = absurd (none-some x e)
    which (evict_at.Hold h) e = absurd (none-some x e)
    which (evict_at.LoadBad frame body) e = absurd (none-some x e)
    which (evict_at.SetPte slot frame body done) e = absurd (none-some x e)
    which (evict_at.Clear k body done) e = absurd (none-some x e)
    which (evict_at.Vacate v done) e = absurd (none-some x e)
    which (evict_at.Unhold u answer) e = absurd (none-some x e)
    which (evict_at.GiveUp g) e = absurd (none-some x e)

-- behind the freeing the copy has switched
abbrev is_free : Sub → Bool
is_free (subs.Free slot) = true
is_free _ = false

other : (sub : Sub) {slot : VSlot} → is_free sub ≡ false → sub ≡ subs.Free slot → ⊥
other sub apart is = both_ways (is_free sub) apart (ap is_free is)

free-switched : (c : Cow) (value : ℕ) {slot : VSlot} → sub_of c ≡ subs.Free slot → sub_of (told_by c value) ≡ subs.Switched
free-switched c value {slot} = which c.at
  where
    which : (x : CowAt) → sub_at c x ≡ subs.Free slot → sub_at c (told_at x value) ≡ subs.Switched
    which cow_at.Free is = refl
    which cow_at.Switched is = refl
    which (cow_at.Load line) is = absurd (other (subs.Load c.v line) refl is)
    which (cow_at.Store line word) is = absurd (other (subs.Store c.w line word) refl is)
    which cow_at.Last is = absurd (other (subs.Store c.w c.line c.x) refl is)

no-cons : {m : Made} {l : List Made} → m ∷ l ≡ [] → ⊥
no-cons {m} {l} is = let long : length (m ∷ l) ≡ 0 = ap length is in omega (arith, long)

-- an entry before which the command made none
none-before : (l : List Made) → EachMember (λ (m : Made). ⊥) l → l ≡ []
none-before [] none = refl
none-before (m ∷ ms) none = absurd (none 0 m refl)

-- ---- an access went on, went well, or answers the command

module _ (base : List Made) (layout : Layout) (view : View) (c : Copying) (runs : List Run) (on : IsOnTurn view c.store.who) (unchecked : checks_in base ≡ 0) (has : HasRun layout view c runs) (since : List Made) (such : EachMember (IsBetween c.instruction.request) since)
    (fits : FitsBehind (base ++ (made_by runs ++ since)) (checks_by runs) layout view c.instruction) (request_is : request_by c.store c.page (sub_of c.cow) ≡ Some c.instruction.request) (at_is : c.at ≡ at.Access) where
  -- what it knows of its end
  ended : {x : InstructionAnswer} → instructions.answer c.instruction ≡ Some x → instruction_fits.IsAnswered (base ++ (made_by runs ++ since)) layout view c.instruction (checks_by runs ++ fits.checks) x
  ended is = subst (instruction_fits.FitsAt (base ++ (made_by runs ++ since)) layout view c.instruction (checks_by runs ++ fits.checks)) (over-instruction c.instruction is) fits.at

  stays-at : is_well (instructions.answer c.instruction) ≡ false → FitsFrom base layout view c
  stays-at unwell = record {
    on_turn = on;
    unchecked = unchecked;
    runs = runs;
    has = has;
    at = subst (FitsAt base layout view c runs) (sym at_is) (record { since = since; such = such; instruction = fits; request_is = request_is; unwell = unwell });
  }

  pub access-fits : (o : Option InstructionAnswer) → instructions.answer c.instruction ≡ o → FitsFrom base layout view (after_access c o)
  access-fits None is = stays-at (ap is_well is)
  access-fits (Some (answers.Value word place)) is = let end = ended is in
      went-fits base layout view c runs on unchecked has since such fits request_is at_is (answers.Value word place) (over-instruction c.instruction is) end.hand_is end.paid end.made end.ended.lets word place
      (value-well (base ++ (made_by runs ++ since)) layout view c.instruction.request word place end.ended.answered)
  access-fits (Some (answers.Stored place)) is = let end = ended is in
      went-fits base layout view c runs on unchecked has since such fits request_is at_is (answers.Stored place) (over-instruction c.instruction is) end.hand_is end.paid end.made end.ended.lets 0 place
      (stored-well (base ++ (made_by runs ++ since)) layout view c.instruction.request place end.ended.answered)
  access-fits (Some (answers.Sigbus place)) is = stays-at (ap is_well is)
  access-fits (Some answers.NoFrame) is = stays-at (ap is_well is)
  access-fits (Some (answers.Gone page)) is = stays-at (ap is_well is)
  access-fits (Some answers.Stopped) is = stays-at (ap is_well is)

-- ---- the freeing went on, or has its answer

-- it is refused for a translation that isn't in use, and for nothing else
unused : {layout : Layout} {view : View} {who : Who} {page : Page} (slot : VSlot) {place : ℕ} (refusal : Refusal) → SawState layout view who page place (IsWhy (evictions.Free slot) refusal) → SawState layout view who page place (IsUnused slot)
unused slot refusals.NotMapped saw = saw
unused slot refusals.NotResident saw = absurd saw.such
unused slot refusals.Locked saw = absurd saw.such
unused slot refusals.Dirty saw = absurd saw.such
unused slot refusals.Mapped saw = absurd saw.such
unused slot (refusals.BadLines mask) saw = absurd saw.such

module _ (base : List Made) (layout : Layout) (view : View) (c : Copying) (runs : List Run) (on : IsOnTurn view c.store.who) (unchecked : checks_in base ≡ 0) (has : HasRun layout view c runs) (stored : At) (e : Evict) (fits : evicts.FitsFrom (base ++ made_by runs) layout view e)
    (evict_is : e ≡ record (evicts.begin c.store.who c.page (evictions.Free c.cow.v)) { at = e.at }) (sub_is : sub_of c.cow ≡ subs.Free c.cow.v) (paid : view.owed.losses ≡ []) (told : HasTold c runs) (going : IsGoing view c.store) (last : IsLastPlace runs stored)
    (looks : HasInView c.page (made_by runs) e.at) where
  caused : {x : EvictAnswer} → evicts.answer e ≡ Some x → (hand_of view ≡ empty) × IsCaused (base ++ made_by runs) layout view c.store.who c.page (evictions.Free c.cow.v) x
  caused {x} is = subst (λ (y : Evict). (hand_of view ≡ empty) × IsCaused (base ++ made_by runs) layout view y.who y.page y.what x) evict_is (subst (evicts.FitsAt (base ++ made_by runs) layout view e.who e.page e.what) (over-evict e is) fits.at)

  -- the same of the copy in another state
  told-in : (x : CopyingAt) → HasTold (record c { at = x }) runs
  told-in x = record { told_is = told.told_is; banks_are = told.banks_are }

  -- the translation is freed, or wasn't in use: that is the last run
  module _ (entries : List Made) (place : At) (hand_is : hand_of view ≡ empty) (owes : view.owed.losses ≡ []) (made : deeds c.store.who view ≡ (base ++ made_by runs) ++ entries) where
    abbrev run : Run
    run = record { word = 0; made = entries; checks = []; place = place }

    abbrev more : List Run
    more = runs ++ run ∷ []

    checks-same : checks_by more ≡ checks_by runs
    checks-same = checks-more runs run ∙ append-nil (checks_by runs)

    freed-fits : IsFreeRun layout view c.store.who c.page c.cow.v run → LooksLast c.page runs run → FitsFrom base layout view (record c { cow = told_by c.cow 0; at = at.Over (answers.Stored stored) })
    freed-fits is late = record {
      on_turn = on;
      unchecked = unchecked;
      runs = more;
      has = record {
        sound = has.sound;
        names = has.names;
        own = has.own;
        kind = has.kind;
        twin = has.twin;
        line = has.line;
        user = has.user;
        origin = has.origin;
        three = has.three;
        cow_is = ap (λ (x : Cow). told_by x 0) has.cow_is ∙ sym (ap (told_all (begun c.cow)) (words-more runs run) ∙ told-more (begun c.cow) (words_of runs) 0);
        are = runs-more layout view c.store c.page (begun c.cow) c.instruction.before.value runs run has.are
            (subst (IsRun layout view c.store c.page (left_by c.instruction.before.value (checks_by runs)) run) (sym sub_is ∙ ap sub_of has.cow_is) is);
        lets = subst LetsGoOn (ap lines_of (sym checks-same)) has.lets;
      };
      at = record {
        hand_is = hand_is;
        paid = owes;
        told = record {
          told_is = told.told_is ∙ ap lines_of (sym checks-same);
          banks_are = told.banks_are ∙ ap (left_by c.instruction.before.value) (sym checks-same);
        };
        going = going;
        ended = record {
          sub_is = free-switched c.cow 0 sub_is;
          all = made ∙ append_assoc base (made_by runs) entries ∙ ap (λ (l : List Made). base ++ l) (sym (made-more runs run));
          accesses = runs;
          freed = run;
          runs_are = refl;
          looks = late;
          last = last;
        };
      };
    }

  pub frees-fits : (o : Option EvictAnswer) → evicts.answer e ≡ o → FitsFrom base layout view (after_free_by c e stored o)
  frees-fits None is = record {
    on_turn = on;
    unchecked = unchecked;
    runs = runs;
    has = runs-with c c.instruction (at.Free e stored) runs has refl;
    at = record { evict = fits; evict_is = evict_is; sub_is = sub_is; unanswered = is; looks = looks; paid = paid; told = told-in (at.Free e stored); going = going; last = last };
  }
  frees-fits (Some evict_answers.Stopped) is = let end = caused is in record {
    on_turn = on;
    unchecked = unchecked;
    runs = runs;
    has = runs-with c c.instruction (at.Over answers.Stopped) runs has refl;
    at = record {
      hand_is = end.0;
      paid = paid;
      told = told-in (at.Over answers.Stopped);
      going = going;
      ended = record { sub_is = sub_is; all = end.1.0; saw = end.1.1 };
    };
  }
  frees-fits (Some (evict_answers.Done place)) is = let end = caused is in
      freed-fits (end.1.1.last ∷ []) place end.0 paid (end.1.1.all ∙ ap (λ (l : List Made). (base ++ made_by runs) ++ (l ++ end.1.1.last ∷ [])) (none-before end.1.1.before end.1.1.such))
      (record { made_is = inr (end.1.1.last, refl, end.1.1.at.0, end.1.1.at.2); unused = λ none. absurd (no-cons none); unchecked = refl }) (λ none. absurd (no-cons none))
  frees-fits (Some (evict_answers.Refused refusal place)) is = let end = caused is in
      freed-fits [] place end.0 paid (end.1.0 ∙ sym (append-nil (base ++ made_by runs))) (record { made_is = inl refl; unused = λ none. unused c.cow.v refusal end.1.1.state; unchecked = refl })
      (λ none. subst (HasInView c.page (made_by runs)) (over-evict e is) looks)

-- ---- each step

-- a copy stays of its command
store-going : (c : Copying) (place : At) (sub : Sub) → (going_on c place sub).store ≡ c.store
store-going c place (subs.Load slot line) = refl
store-going c place (subs.Store slot line word) = refl
store-going c place (subs.Free slot) = refl
store-going c place subs.Switched = refl

store-accessed : (c : Copying) (o : Option InstructionAnswer) → (after_access c o).store ≡ c.store
store-accessed c None = refl
store-accessed c (Some (answers.Value word place)) = store-going (record c { cow = told_by c.cow word }) place (sub_of (told_by c.cow word))
store-accessed c (Some (answers.Stored place)) = store-going (record c { cow = told_by c.cow 0 }) place (sub_of (told_by c.cow 0))
store-accessed c (Some (answers.Sigbus place)) = refl
store-accessed c (Some answers.NoFrame) = refl
store-accessed c (Some (answers.Gone page)) = refl
store-accessed c (Some answers.Stopped) = refl

store-freed : (c : Copying) (e : Evict) (stored : At) (o : Option EvictAnswer) → (after_free_by c e stored o).store ≡ c.store
store-freed c e stored None = refl
store-freed c e stored (Some evict_answers.Stopped) = refl
store-freed c e stored (Some (evict_answers.Done place)) = refl
store-freed c e stored (Some (evict_answers.Refused refusal place)) = refl

pub own-after : (layout : Layout) (c : Copying) (found : ℕ) (got : Option BodyValue) (after : Copying) (turn : Turn) → Follows layout (bare c) found got after turn → after.store ≡ c.store
own-after layout c found got after turn follows = which c.at follows
  where
    which : (x : CopyingAt) → FollowsAt layout (bare_at c x) (bare_at c x).at found got after turn → after.store ≡ c.store
    which at.Access next = ap (λ (k : Copying). k.store) next.next_is ∙ store-accessed (record (bare_at c at.Access) { instruction = next.instruction }) (instructions.answer next.instruction)
    which (at.Free e stored) next = ap (λ (k : Copying). k.store) next.next_is ∙ store-freed (bare_at c (at.Free e stored)) next.evict stored (evicts.answer next.evict)
    which (at.Over answer) next = ap (λ (k : Copying). k.store) next.0

module _ {base : List Made} (layout : Layout) (old new : View) (c : Copying) (step : Step) (found : ℕ) (got : Option BodyValue) (fits : FitsFrom base layout old c) where
  abbrev Then : CopyingAt → Type 0
  Then x = ShowsAt (bare_at c x).instruction (bare_at c x).at found got × ((after : Copying) (turn : Turn) → FollowsAt layout (bare_at c x) (bare_at c x).at found got after turn → FitsFrom base layout new after)

  access-moved : IsAccessing base layout old c fits.runs → instructions.plan c.instruction ≡ Some step → Steps layout c.store.who step (logs (instructions.put c.instruction)) old new found got → Then at.Access
  access-moved has e made = (
    moved.0,
    λ after turn next. let same : asked next.instruction ≡ asked c.instruction = asked-same layout c.instruction next.instruction found got turn next.follows in
        subst (FitsFrom base layout new) (sym next.next_is)
        (access-fits base layout new (record c { instruction = next.instruction; at = at.Access }) fits.runs (on-turn-after fits.on_turn made) fits.unchecked
        (runs-with c next.instruction at.Access fits.runs (runs-kept c fits.runs fits.has made) same) has.since (subst (λ (s : Asked). EachMember (IsBetween s.0) has.since) (sym same) has.such)
        (moved.1 next.instruction turn next.follows).0 (has.request_is ∙ ap (λ (s : Asked). Some s.0) (sym same)) refl (instructions.answer next.instruction) refl),
  )
    where
      own : Steps layout c.instruction.request.who step (logs (instructions.put c.instruction)) old new found got
      own = subst (λ (w : Who). Steps layout w step (logs (instructions.put c.instruction)) old new found got) (sym (request-who c.store c.page (sub_of c.cow) has.request_is).0) made

      moved : instructions.Shows (instructions.bare c.instruction) found got × ((after : Instruction) (turn : Turn) → instructions.Follows layout (instructions.bare c.instruction) found got after turn
          → FitsBehind (base ++ (made_by fits.runs ++ has.since)) (checks_by fits.runs) layout new after × (after.request.who.cpu ≡ c.instruction.request.who.cpu))
      moved = instructing.stays layout old new c.instruction step found got has.instruction e own

  free-moved : (e : Evict) (stored : At) → IsFreeing base layout old c fits.runs e stored → evicts.plan e ≡ Some step → Steps layout c.store.who step (logs (evicts.put e)) old new found got → Then (at.Free e stored)
  free-moved e stored has is made = (
    moved.0,
    λ after turn next. subst (FitsFrom base layout new) (sym next.next_is)
        (frees-fits base layout new (record c { at = at.Free (evicts.bare e) stored }) fits.runs (on-turn-after fits.on_turn made) fits.unchecked (runs-with c c.instruction (at.Free (evicts.bare e) stored) fits.runs (runs-kept c fits.runs fits.has made) refl) stored next.evict
        (moved.1 next.evict turn next.follows).0 (next.follows.0 ∙ ap (λ (x : Evict). record x { at = next.evict.at }) has.evict_is) has.sub_is
        (evict-owes e has.evict is own ∙ has.paid)
        (record { told_is = has.told.told_is; banks_are = has.told.banks_are }) (saw-stays made has.going) has.last
        (subst (λ (p : Page). HasInView p (made_by fits.runs) next.evict.at) page_is
        (looks-on base (made_by fits.runs) c.cow.v e (ap (λ (x : Evict). x.what) has.evict_is) has.evict is own (subst (λ (p : Page). HasInView p (made_by fits.runs) e.at) (sym page_is) has.looks) next.evict.at turn next.follows.1))
        (evicts.answer next.evict) refl),
  )
    where
      page_is : e.page ≡ c.page
      page_is = ap (λ (x : Evict). x.page) has.evict_is

      own : Steps layout e.who step (logs (evicts.put e)) old new found got
      own = subst (λ (w : Who). Steps layout w step (logs (evicts.put e)) old new found got) (sym (ap (λ (x : Evict). x.who) has.evict_is)) made

      moved : evicts.Shows (evicts.bare e) found got × ((after : Evict) (turn : Turn) → evicts.Follows (evicts.bare e) found got after turn → evicts.FitsFrom (base ++ made_by fits.runs) layout new after × (after.who.cpu ≡ e.who.cpu))
      moved = evicting.stays layout old new e step found got has.evict is own

pub stays : {base : List Made} (layout : Layout) (old new : View) (c : Copying) (step : Step) (found : ℕ) (got : Option BodyValue) → FitsFrom base layout old c → plan c ≡ Some step → Steps layout c.store.who step (logs (put c)) old new found got
    → Shows (bare c) found got × ((after : Copying) (turn : Turn) → Follows layout (bare c) found got after turn → FitsFrom base layout new after × (after.store.who.cpu ≡ c.store.who.cpu))
stays {base} layout old new c step found got fits is made = let all = which c.at fits.at is made in
    (all.0, λ after turn follows. (all.1 after turn follows, ap (λ (r : Request). r.who.cpu) (own-after layout c found got after turn follows)))
  where
    which : (x : CopyingAt) → FitsAt base layout old c fits.runs x → plan_at c.instruction x ≡ Some step → Steps layout c.store.who step (logs (put_at c.instruction x)) old new found got → Then layout old new c step found got fits x
    which at.Access has e made = access-moved layout old new c step found got fits has e made
    which (at.Free e stored) has is made = free-moved layout old new c step found got fits e stored has is made
    which (at.Over answer) has e made = absurd (none-some step e)

-- the law of the task, whatever its command had made before
pub law : IsTask copy-task
law = record {
  can = λ layout view s step fits is. can layout view s step fits.1 is;
  stays = λ layout old new s step found got fits is made. let all = stays layout old new s step found got fits.1 is made in (all.0, λ after turn follows. let kept = all.1 after turn follows in ((fits.0, kept.0), kept.1));
}
