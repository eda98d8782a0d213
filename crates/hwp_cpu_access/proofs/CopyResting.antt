-- A copy at its pause, while another task of its command goes on, and behind it; and where memory ran out for that.
use Rattle.std.proofs.Common.{◌≡◌, inl, inr, ℕ, suc, ◌+◌, Bool, false, cond, List, [], ◌∷◌, ◌++◌, Option, Some, None, filter, length, append_assoc, refl, sym, ap, ◌∙◌, subst, arith}
use Rattle.std.proofs.lemmas.Option.{none-some}
use Rattle.hwp_fault.specs.hwp_geom.declared.Layout.{Layout}
use Rattle.hwp_fault.specs.hwp_geom.declared.Who.{Who}
use Rattle.hwp_fault.specs.hwp_page.declared.What.TheVariants as entries
use Rattle.hwp_fault.specs.hwp_page.History.{BodyValue}
use Rattle.hwp_fault.specs.hwp_core_rule.declared.Log.{Log}
use Rattle.hwp_fault.specs.hwp_core_rule.declared.Made.{Made}
use Rattle.hwp_fault.specs.hwp_core_rule.declared.Step.{Step}
use Rattle.hwp_fault.specs.hwp_core_rule.declared.View.{View}
use Rattle.hwp_fault.specs.hwp_core_rule.Lists.{EachMember}
use Rattle.hwp_fault.proofs.of_hwp_core_rule.Lists.{each-weaken}
use Rattle.hwp_fault.proofs.of_hwp_core_rule.MoreEntries.{each-append}
use Rattle.hwp_fault.specs.hwp_core_rule.Calls.{IsOnTurn, Steps}
use Rattle.hwp_fault.specs.hwp_core_rule.Hands.{hand_of, empty}
use Rattle.hwp_fault.specs.hwp_core_rule.Known.{Precedes, deeds}
use Rattle.hwp_claim.specs.hwp_law.Commands.{is_check}
use Rattle.hwp_claim.specs.declared.EventOutcome.{EventOutcome}
use Rattle.hwp_fault.specs.declared.Request.{Request}
use Rattle.hwp_fork.specs.Cows.{sub_of}
use Rattle.hwp_cpu_access.specs.declared.instruction.Instruction.{Instruction}
use Rattle.hwp_cpu_access.specs.declared.instruction.InstructionAt.{InstructionAt}
use Rattle.hwp_cpu_access.specs.declared.instruction.InstructionAt.TheVariants as instruction_at
use Rattle.hwp_cpu_access.specs.declared.instruction.Pause.{Pause}
use Rattle.hwp_cpu_access.specs.declared.instruction.Pause.TheVariants as pauses
use Rattle.hwp_cpu_access.specs.Fits as instruction_fits
use Rattle.hwp_cpu_access.specs.Fits.{FitsBehind, HasOnlyBefore, banks_at, checks_in, checks_made}
use Rattle.hwp_cpu_access.specs.Instructions as instructions
use Rattle.hwp_cpu_access.proofs.InstructionLaws.{paused}
use Rattle.hwp_cpu_access.proofs.Resting as resting
use Rattle.hwp_cpu_access.specs.declared.copying.Copying.{Copying}
use Rattle.hwp_cpu_access.specs.declared.copying.CopyingAt.{CopyingAt}
use Rattle.hwp_cpu_access.specs.declared.copying.CopyingAt.TheVariants as at
use Rattle.hwp_cpu_access.specs.Copyings.{give_up, pause, pause_at, resume, resume_at}
use Rattle.hwp_cpu_access.specs.CopyFits.{FitsAt, FitsFrom, IsAccessing, IsResting, is_well}
use Rattle.hwp_cpu_access.specs.Runs.{IsBetween, checks_by, made_by}
use Rattle.hwp_cpu_access.proofs.AskedSame.{Asked, asked}
use Rattle.hwp_cpu_access.proofs.CopyLaws.{runs-kept, runs-with}
use Rattle.hwp_cpu_access.proofs.CowSteps.{request-who}
use Rattle.hwp_cpu_access.proofs.RunLaws.{checks-append}

-- where it pauses, its access does
pub at-pause : (c : Copying) {p : Pause} → pause c ≡ Some p → (c.at ≡ at.Access) × (instructions.pause c.instruction ≡ Some p)
at-pause c {p} = which c.at refl
  where
    which : (x : CopyingAt) → c.at ≡ x → pause_at c.instruction x ≡ Some p → (c.at ≡ at.Access) × (instructions.pause c.instruction ≡ Some p)
    which at.Access own is = (own, is)
    which (at.Free e stored) own is = absurd (none-some p is)
    which (at.Over answer) own is = absurd (none-some p is)

accessing : {base : List Made} {layout : Layout} {view : View} (c : Copying) (fits : FitsFrom base layout view c) → c.at ≡ at.Access → IsAccessing base layout view c fits.runs
accessing {base} {layout} {view} c fits is = subst (FitsAt base layout view c fits.runs) is fits.at

-- the access made only such entries as it makes on its way
only-so-far : (base : List Made) (layout : Layout) (view : View) (i : Instruction) (told : List EventOutcome) (p : Pause) → instruction_fits.IsLeft base layout view i.request told p → HasOnlyBefore base view i.request
only-so-far base layout view i told (pauses.Sigbus place) left = left.only
only-so-far base layout view i told (pauses.Wait frame) left = left.1
only-so-far base layout view i told pauses.Again left = left.1

-- ---- at its pause

pub rests : {base : List Made} {layout : Layout} {view : View} (c : Copying) (p : Pause) → FitsFrom base layout view c → pause c ≡ Some p → IsResting base layout view c p
rests {base} {layout} {view} c p fits is = record {
  unchecked = fits.unchecked;
  runs = fits.runs;
  has = fits.has;
  at_is = own.0;
  since = has.since ++ only.own;
  such = each-append (IsBetween c.instruction.request) has.since only.own has.such (each-weaken (Precedes c.instruction.request.page c.instruction.request.slot c.instruction.request.line) (IsBetween c.instruction.request) only.own (λ m before. inl before) only.such);
  all = subst (λ (w : Who). deeds w view ≡ base ++ (made_by fits.runs ++ (has.since ++ only.own))) (request-who c.store c.page (sub_of c.cow) has.request_is).0
      (only.all ∙ append_assoc base (made_by fits.runs ++ has.since) only.own ∙ ap (λ (l : List Made). base ++ l) (append_assoc (made_by fits.runs) has.since only.own));
  request_is = has.request_is;
  rests = resting.rests c.instruction p has.instruction own.1;
}
  where
    own : (c.at ≡ at.Access) × (instructions.pause c.instruction ≡ Some p)
    own = at-pause c is

    has : IsAccessing base layout view c fits.runs
    has = accessing c fits own.0

    only : HasOnlyBefore (base ++ (made_by fits.runs ++ has.since)) view c.instruction.request
    only = only-so-far (base ++ (made_by fits.runs ++ has.since)) layout view c.instruction c.instruction.lines.told p (paused c.instruction p has.instruction own.1).left

-- ---- while another task of its command goes on

-- entries by which pages leave their frames are of no machine check
soft-unchecked : (l : List Made) → EachMember (λ (m : Made). m.entry.what ≡ entries.Soft) l → checks_in l ≡ 0
soft-unchecked [] each = refl
soft-unchecked (m ∷ ms) each = ap (λ (b : Bool). length (cond b (m ∷ filter (λ (x : Made). is_check x.entry.what) ms) (filter (λ (x : Made). is_check x.entry.what) ms))) (ap is_check (each 0 m refl)) ∙ soft-unchecked ms (λ i x there. each (suc i) x there)

pub resting-stays : {base : List Made} {layout : Layout} {step : Step} {put : Option Log} {old new : View} {found : ℕ} {got : Option BodyValue} (c : Copying) (p : Pause) → IsResting base layout old c p → Steps layout c.store.who step put old new found got
    → (more : List Made) → deeds c.store.who new ≡ deeds c.store.who old ++ more → EachMember (λ (m : Made). m.entry.what ≡ entries.Soft) more → IsResting base layout new c p
resting-stays {base} {layout} {step} {put} {old} {new} {found} {got} c p has made more grown soft = record {
  unchecked = has.unchecked;
  runs = has.runs;
  has = runs-kept c has.runs has.has made;
  at_is = has.at_is;
  since = has.since ++ more;
  such = each-append (IsBetween c.instruction.request) has.since more has.such (each-weaken (λ (m : Made). m.entry.what ≡ entries.Soft) (IsBetween c.instruction.request) more (λ m is. inr is) soft);
  all = grown ∙ ap (λ (l : List Made). l ++ more) has.all ∙ append_assoc base (made_by has.runs ++ has.since) more ∙ ap (λ (l : List Made). base ++ l) (append_assoc (made_by has.runs) has.since more);
  request_is = has.request_is;
  rests = resting.resting-stays c.instruction p has.rests (subst (λ (w : Who). Steps layout w step put old new found got) (sym own) made) same;
}
  where
    own : c.instruction.request.who ≡ c.store.who
    own = (request-who c.store c.page (sub_of c.cow) has.request_is).0

    same : checks_made c.instruction.request.who new ≡ checks_made c.instruction.request.who old
    same = subst (λ (w : Who). checks_made w new ≡ checks_made w old) (sym own) (
        let parts : checks_in (deeds c.store.who old ++ more) ≡ checks_in (deeds c.store.who old) + checks_in more = checks-append (deeds c.store.who old) more in
        let none : checks_in more ≡ 0 = soft-unchecked more soft in
        let all : checks_in (deeds c.store.who new) ≡ checks_in (deeds c.store.who old ++ more) = ap checks_in grown in
        omega (arith, parts, none, all)
        )

-- ---- behind its pause

resumed-unwell : (i : Instruction) (p : Pause) → i.at ≡ instruction_at.Paused p → is_well (instructions.answer (instructions.resume i)) ≡ false
resumed-unwell i p is = ap (λ (x : InstructionAt). is_well (instructions.answer (instructions.resume_by i (instructions.pause_at x)))) is ∙ which p
  where
    which : (q : Pause) → is_well (instructions.answer (instructions.resume_by i (Some q))) ≡ false
    which (pauses.Sigbus place) = refl
    which (pauses.Wait frame) = refl
    which pauses.Again = refl

resumed-asks : (i : Instruction) → asked (instructions.resume i) ≡ asked i
resumed-asks i = which (instructions.pause i)
  where
    which : (o : Option Pause) → asked (instructions.resume_by i o) ≡ asked i
    which None = refl
    which (Some p) = refl

pub resumes : {base : List Made} {layout : Layout} {view : View} (c : Copying) (p : Pause) → IsResting base layout view c p → IsOnTurn view c.store.who → hand_of view ≡ empty → view.owed.losses ≡ [] → FitsFrom base layout view (resume c)
resumes {base} {layout} {view} c p has on hand paid = subst (FitsFrom base layout view) (sym same) (record {
  on_turn = on;
  unchecked = has.unchecked;
  runs = has.runs;
  has = runs-with c (instructions.resume c.instruction) at.Access has.runs has.has (resumed-asks c.instruction);
  at = record {
    since = has.since;
    such = subst (λ (r : Request). EachMember (IsBetween r) has.since) (sym (ap (λ (s : Asked). s.0) (resumed-asks c.instruction))) has.such;
    instruction = subst (λ (l : List Made). FitsBehind l (checks_by has.runs) layout view (instructions.resume c.instruction)) all
        (resting.resumes c.instruction p has.rests (subst (IsOnTurn view) (sym own) on) hand paid);
    request_is = has.request_is ∙ ap (λ (s : Asked). Some s.0) (sym (resumed-asks c.instruction));
    unwell = resumed-unwell c.instruction p has.rests.at_is;
  };
})
  where
    own : c.instruction.request.who ≡ c.store.who
    own = (request-who c.store c.page (sub_of c.cow) has.request_is).0

    all : deeds c.instruction.request.who view ≡ base ++ (made_by has.runs ++ has.since)
    all = ap (λ (w : Who). deeds w view) own ∙ has.all

    same : resume c ≡ record c { instruction = instructions.resume c.instruction; at = at.Access }
    same = ap (resume_at c) has.at_is ∙ ap (λ (x : CopyingAt). record c { instruction = instructions.resume c.instruction; at = x }) has.at_is

-- ---- where memory ran out at its pause

pub gives-up : {base : List Made} {layout : Layout} {view : View} (c : Copying) (p : Pause) → FitsFrom base layout view c → pause c ≡ Some p → FitsFrom base layout view (give_up c)
gives-up {base} {layout} {view} c p fits is = record {
  on_turn = fits.on_turn;
  unchecked = fits.unchecked;
  runs = fits.runs;
  has = runs-with c (instructions.give_up c.instruction) at.Access fits.runs fits.has refl;
  at = record {
    since = has.since;
    such = has.such;
    instruction = record {
      on_turn = has.instruction.on_turn;
      sound = has.instruction.sound;
      names = has.instruction.names;
      origin = has.instruction.origin;
      three = has.instruction.three;
      checks = has.instruction.checks;
      checked = has.instruction.checked;
      told_is = has.instruction.told_is;
      banks_are = has.instruction.banks_are ∙ ap (banks_at c.instruction.before.value (checks_by fits.runs ++ has.instruction.checks)) (resting.rests c.instruction p has.instruction own.1).at_is;
      at = (paused c.instruction p has.instruction own.1).hand_is;
    };
    request_is = has.request_is;
    unwell = refl;
  };
}
  where
    own : (c.at ≡ at.Access) × (instructions.pause c.instruction ≡ Some p)
    own = at-pause c is

    has : IsAccessing base layout view c fits.runs
    has = accessing c fits own.0
