-- An instruction at its pause: what stays of it while another task of its command goes on, and how it goes on behind the pause.
use Rattle.std.proofs.Common.{◌≡◌, inr, ℕ, ◌==◌, Bool, true, false, cond, List, [], ◌++◌, Option, Some, filter, length, append-nil, refl, sym, ap, ◌∙◌, subst, arith}
use Rattle.std.proofs.lemmas.List.Elements.{filter-append}
use Rattle.std.proofs.lemmas.Option.{none-some, same_Some}
use Rattle.hwp_fault.specs.hwp_geom.declared.Frame.{Frame}
use Rattle.hwp_fault.specs.hwp_geom.declared.Layout.{Layout}
use Rattle.hwp_fault.specs.hwp_geom.declared.Who.{Who}
use Rattle.hwp_fault.specs.hwp_page.History.{BodyValue}
use Rattle.hwp_fault.specs.hwp_core_rule.declared.Log.{Log}
use Rattle.hwp_fault.specs.hwp_core_rule.declared.Made.{Made}
use Rattle.hwp_fault.specs.hwp_core_rule.declared.Mark.{Mark}
use Rattle.hwp_fault.specs.hwp_core_rule.declared.MarkKind.TheVariants as mark_kinds
use Rattle.hwp_fault.specs.hwp_core_rule.declared.SharedWord.TheVariants as places
use Rattle.hwp_fault.specs.hwp_core_rule.declared.Step.{Step}
use Rattle.hwp_fault.specs.hwp_core_rule.declared.Step.TheVariants as steps
use Rattle.hwp_fault.specs.hwp_core_rule.declared.View.{View}
use Rattle.hwp_fault.specs.hwp_core_rule.Lists.{SomeMember}
use Rattle.hwp_fault.specs.hwp_core_rule.Steps.{goes}
use Rattle.hwp_fault.specs.hwp_core_rule.Views.{marked, noted, owing_count, poison_listed, revived_by, sighted, view_by}
use Rattle.hwp_fault.proofs.of_hwp_core_rule.Lists.{at_longer}
use Rattle.hwp_fault.specs.hwp_core_rule.Calls.{IsOnTurn, Steps}
use Rattle.hwp_fault.specs.hwp_core_rule.Hands.{hand_of, empty}
use Rattle.hwp_fault.specs.hwp_core_rule.Known.{deeds}
use Rattle.hwp_fault.proofs.of_hwp_core_rule.tasks.Failures.{marks-by}
use Rattle.hwp_fault.proofs.of_hwp_core_rule.tasks.MadeEntries.{only-of-none}
use Rattle.hwp_fault.proofs.of_hwp_core_rule.tasks.SightKeeps.{saw-stays}
use Rattle.hwp_fault.proofs.of_hwp_core_rule.tasks.StepLeaves.{content_of}
use Rattle.hwp_fault.proofs.AccessLaws.{begins-again}
use Rattle.hwp_fault.specs.Accesses as accesses
use Rattle.hwp_claim.specs.hwp_claim_frame.Claims.{is_own, marks_by}
use Rattle.hwp_claim.proofs.FailureKeeps.{Stay}
use Rattle.hwp_claim.specs.Checks.{Check, left_by}
use Rattle.hwp_cpu_access.specs.Fits.{FitsAt, FitsBehind, HasOnlyBefore, IsLeft, IsLeftAt, IsRestingBehind, banks_at, checks_in, checks_made}
use Rattle.hwp_cpu_access.specs.Instructions.{pause, pause_at, resume, resume_by, resumed}
use Rattle.hwp_cpu_access.specs.declared.instruction.Instruction.{Instruction}
use Rattle.hwp_cpu_access.specs.declared.instruction.InstructionAnswer.TheVariants as answers
use Rattle.hwp_cpu_access.specs.declared.instruction.InstructionAt.{InstructionAt}
use Rattle.hwp_cpu_access.specs.declared.instruction.InstructionAt.TheVariants as at
use Rattle.hwp_cpu_access.specs.declared.instruction.Pause.{Pause}
use Rattle.hwp_cpu_access.specs.declared.instruction.Pause.TheVariants as pauses
use Rattle.hwp_cpu_access.proofs.CommandGrows.{checks-stay, deeds-grow}

-- ---- what a command has marked and made only grows

-- a step marks its frame, or nothing
marks-more : (layout : Layout) (who : Who) (step : Step) (found : ℕ) (content : Option Log) (v : View) → (more : List Mark) × ((view_by layout who step found content v).marks ≡ v.marks ++ more)
marks-more layout who (steps.Poison frame hardware) found content v = which (goes (steps.Poison frame hardware) found)
  where
    now : View
    now = record (marked who frame found (mark_kinds.Poisoned hardware) v) { owed = owing_count hardware v.owed }

    which : (b : Bool) → (more : List Mark) × ((poison_listed frame (cond b now (sighted who (places.Frame frame) found v))).marks ≡ v.marks ++ more)
    which true = (_, refl)
    which false = ([], sym (append-nil v.marks))
marks-more layout who (steps.Revive frame seen) found content v = which (found == seen)
  where
    which : (b : Bool) → (more : List Mark) × ((cond b (revived_by who frame found v) (sighted who (places.Frame frame) found v)).marks ≡ v.marks ++ more)
    which true = (_, refl)
    which false = ([], sym (append-nil v.marks))
marks-more layout who step found content v = ([], marks-by layout who step found content v tt ∙ sym (append-nil v.marks))

module _ {layout : Layout} {who : Who} {step : Step} {put : Option Log} {old new : View} {found : ℕ} {got : Option BodyValue} (made : Steps layout who step put old new found got) where
  grown : (more : List Mark) × (new.marks ≡ old.marks ++ more)
  grown = let by = marks-more layout who step found (content_of layout who step put found got) (noted who old) in (by.0, ap (λ (v : View). v.marks) made.told.next ∙ by.1)

  -- whatever the step
  pub any-stay : Stay who old new
  any-stay = record {
    marks = λ P some. subst (SomeMember P) (sym (ap (filter (is_own who)) grown.1 ∙ filter-append (is_own who) old.marks grown.0)) (some.0, some.1, at_longer (marks_by who old) (filter (is_own who) grown.0) some.0 some.1 some.2, some.3);
    deeds = λ P some. deeds-grow made who P some;
    saw = λ frame saw. record { word = saw.word; poisoned = saw.poisoned; saw = saw-stays made saw.saw };
  }

-- ---- while another task of its command goes on

pub resting-stays : {earlier : List Check} {layout : Layout} {step : Step} {put : Option Log} {old new : View} {found : ℕ} {got : Option BodyValue} (i : Instruction) (p : Pause) → IsRestingBehind earlier layout old i p → Steps layout i.request.who step put old new found got
    → checks_made i.request.who new ≡ checks_made i.request.who old → IsRestingBehind earlier layout new i p
resting-stays {earlier} {layout} {old} {new} i p has made same = record {
  sound = has.sound;
  names = has.names;
  origin = has.origin;
  three = has.three;
  checks = has.checks;
  checked = checks-stay layout i.request i.origin i.mode (any-stay made) (λ place word saw. saw-stays made saw) (left_by i.before.value earlier) has.checks has.checked;
  told_is = has.told_is;
  banks_are = has.banks_are;
  at_is = has.at_is;
  made = same ∙ has.made;
  left = left p has.left;
  collects = has.collects;
  empty_are = has.empty_are;
}
  where
    left : (q : Pause) → IsLeftAt layout old i.request i.lines.told q → IsLeftAt layout new i.request i.lines.told q
    left (pauses.Sigbus place) is = record { first = is.first; halts_none = is.halts_none; going = saw-stays made is.going }
    left (pauses.Wait frame) is = is
    left pauses.Again is = is

-- ---- at its pause, and behind it

-- an instruction at its pause
pub rests : {past : List Made} {earlier : List Check} {layout : Layout} {view : View} (i : Instruction) (p : Pause) → FitsBehind past earlier layout view i → pause i ≡ Some p → IsRestingBehind earlier layout view i p
rests {past} {earlier} {layout} {view} i p fits is = which i.at refl fits.at is
  where
    left : (q : Pause) → IsLeft past layout view i.request i.lines.told q → IsLeftAt layout view i.request i.lines.told q
    left (pauses.Sigbus place) has = record { first = has.first; halts_none = has.halts_none; going = has.going }
    left (pauses.Wait frame) has = (has.0, has.2)
    left pauses.Again has = (has.0, has.2)

    which : (x : InstructionAt) → i.at ≡ x → FitsAt past layout view i (earlier ++ fits.checks) x → pause_at x ≡ Some p → IsRestingBehind earlier layout view i p
    which (at.Paused q) at_is has some = subst (IsRestingBehind earlier layout view i) (same_Some q p some) (record {
      sound = fits.sound;
      names = fits.names;
      origin = fits.origin;
      three = fits.three;
      checks = fits.checks;
      checked = fits.checked;
      told_is = fits.told_is;
      banks_are = fits.banks_are ∙ ap (banks_at i.before.value (earlier ++ fits.checks)) at_is;
      at_is = at_is;
      made = has.made;
      left = left q has.left;
      collects = has.collects;
      empty_are = has.empty_are;
    })
    which _ at_is has none = absurd (none-some p none)

-- it goes on behind the pause, whatever its command has made meanwhile
pub resumes : {earlier : List Check} {layout : Layout} {view : View} (i : Instruction) (p : Pause) → IsRestingBehind earlier layout view i p → IsOnTurn view i.request.who → hand_of view ≡ empty → view.owed.losses ≡ [] → FitsBehind (deeds i.request.who view) earlier layout view (resume i)
resumes {earlier} {layout} {view} i p has on hand paid = subst (FitsBehind base earlier layout view) (sym (ap (λ (x : InstructionAt). resume_by i (pause_at x)) has.at_is)) (which p has.left)
  where
    base : List Made
    base = deeds i.request.who view

    only : HasOnlyBefore base view i.request
    only = only-of-none view i.request.who refl

    by : (x : InstructionAt) → banks_at i.before.value (earlier ++ has.checks) x ≡ left_by i.before.value (earlier ++ has.checks) → FitsAt base layout view (record i { at = x }) (earlier ++ has.checks) x → FitsBehind base earlier layout view (record i { at = x })
    by x held fits = record {
      on_turn = on;
      sound = has.sound;
      names = has.names;
      origin = has.origin;
      three = has.three;
      checks = has.checks;
      checked = has.checked;
      told_is = has.told_is;
      banks_are = has.banks_are ∙ sym held;
      at = fits;
    }

    made : checks_made i.request.who view ≡ length (earlier ++ has.checks)
    made = has.made

    which : (q : Pause) → IsLeftAt layout view i.request i.lines.told q → FitsBehind base earlier layout view (record i { at = resumed i.request q })
    which (pauses.Sigbus place) left = by (at.Over (Some (answers.Sigbus place))) refl (record {
      hand_is = hand;
      paid = paid;
      made = made;
      ended = inr (record { first = left.first; halts_none = left.halts_none; going = left.going; only = only });
    })
    which (pauses.Wait frame) left = by (at.LoadFrame frame) refl (record {
      hand_is = hand;
      paid = paid;
      lets = left.0;
      only = only;
      made = made;
      within = left.1;
      empty_are = has.empty_are;
    })
    which pauses.Again left = by (at.Access (accesses.again i.request)) refl (record {
      access = begins-again layout view i.request on has.names hand only;
      own = refl;
      unanswered = refl;
      paid = paid;
      lets = left.0;
      made = omega (arith, made);
    })
