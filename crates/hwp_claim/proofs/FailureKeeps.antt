-- What is told of failures stays right while the command's marks and entries grow.
use Rattle.std.proofs.Common.{◌≡◌, inl, inr, ℕ, Bool, true, ◌||◌, List, [], ◌∷◌, ◌++◌, Option, Some, None, filter, refl, sym, ap, ◌∙◌, subst}
use Rattle.std.proofs.lemmas.Bool.{both_ways}
use Rattle.std.proofs.lemmas.List.Elements.{filter-append}
use Rattle.hwp_banks.specs.hwp_geom.declared.Frame.{Frame}
use Rattle.hwp_banks.specs.hwp_geom.declared.Layout.{Layout}
use Rattle.hwp_banks.specs.hwp_geom.declared.Thread.{Thread}
use Rattle.hwp_banks.specs.hwp_geom.declared.Who.{Who}
use Rattle.hwp_claim_frame.specs.hwp_page.declared.At.{At}
use Rattle.hwp_claim_frame.specs.hwp_page.declared.What.TheVariants as entries
use Rattle.hwp_claim_frame.specs.hwp_page.History.{BodyValue}
use Rattle.hwp_claim_frame.specs.hwp_core_rule.declared.Log.{Log}
use Rattle.hwp_claim_frame.specs.hwp_core_rule.declared.Made.{Made}
use Rattle.hwp_claim_frame.specs.hwp_core_rule.declared.Mark.{Mark}
use Rattle.hwp_claim_frame.specs.hwp_core_rule.declared.Step.{Step}
use Rattle.hwp_claim_frame.specs.hwp_core_rule.declared.View.{View}
use Rattle.hwp_claim_frame.specs.hwp_core_rule.Lists.{SomeMember}
use Rattle.hwp_claim_frame.proofs.of_hwp_core_rule.Lists.{at_longer, some-last, some-push}
use Rattle.hwp_claim_frame.specs.hwp_core_rule.Calls.{Steps}
use Rattle.hwp_claim_frame.specs.hwp_core_rule.Known.{IsAt, deeds}
use Rattle.hwp_claim_frame.proofs.of_hwp_core_rule.tasks.SightKeeps.{saw-stays}
use Rattle.hwp_claim_act.specs.declared.Failed.{Failed}
use Rattle.hwp_claim_act.specs.Abandoned.{AddsFailure}
use Rattle.hwp_claim_frame.specs.Claims.{SawPoison, is_own, marks_by}
use Rattle.hwp_claim_frame.specs.Done.{Grows, Marking, marking_of}
use Rattle.hwp_law.specs.hwp_report_text.declared.Acted.{Acted}
use Rattle.hwp_law.specs.hwp_report_text.Acts.{is_panic}
use Rattle.hwp_claim.specs.declared.fail.FailAnswer.{FailAnswer}
use Rattle.hwp_claim.specs.declared.fail.FailAnswer.TheVariants as answers
use Rattle.hwp_claim.specs.Fails as fails
use Rattle.hwp_claim.specs.Injects.{recovers_at}
use Rattle.hwp_claim.specs.declared.fail.FailAt.TheVariants as fail_at
use Rattle.hwp_claim.specs.declared.fail.Found.{Found}
use Rattle.hwp_claim.specs.Fits.{AreTold, HasPoisoned, IsDone, IsEntered, IsFailed, IsMark}
use Rattle.hwp_claim.specs.Told.{act_of, at_once, found_by, frame_of, required_by}
use Rattle.hwp_claim.specs.declared.told.EventOutcome.{EventOutcome}

-- what the command has marked, entered and seen is so of the later view
pub record Stay (who : Who) (old new : View) : Type 1 where
  pub marks : (P : Mark → Type 0) → SomeMember P (marks_by who old) → SomeMember P (marks_by who new)
  pub deeds : (P : Made → Type 0) → SomeMember P (deeds who old) → SomeMember P (deeds who new)
  pub saw : (frame : Frame) → SawPoison old who frame → SawPoison new who frame

module _ (layout : Layout) (who : Who) (thread : Option Thread) {old new : View} (stay : Stay who old new) where
  entered-stays : (frame : Frame) (required : Option Thread) (found : Found) (place : Option At) → IsEntered layout old who frame required found place → IsEntered layout new who frame required found place
  entered-stays frame required found None is = is
  entered-stays frame required found (Some place) is = (
    record {
      seen = is.0.seen;
      signals = is.0.signals;
      made = stay.deeds (IsAt place.page place.entry (entries.Fail found.situation required is.0.seen is.0.signals)) is.0.made;
      signalled = is.0.signalled;
      paged = is.0.paged;
    },
    is.1,
  )

  failed-stays : (frame : Frame) (required : Option Thread) (acted : Acted) (found : Option Found) → IsFailed layout old who frame required acted found → IsFailed layout new who frame required acted found
  failed-stays frame required acted None is = (is.0, stay.saw frame is.1)
  failed-stays frame required acted (Some found) is = (is.0, stay.marks (IsMark frame found.cycle) is.1, entered-stays frame required found found.at is.2)

  done-stays : (required : Option Thread) (t : EventOutcome) (o : Option Acted) → IsDone layout old who required t o → IsDone layout new who required t o
  done-stays required t (Some acted) is = is
  done-stays required t None is = failed-stays (frame_of t.held) required t.acted t.found is

  pub told-stays : (b : Bool) (ts : List EventOutcome) → AreTold layout old who thread b ts → AreTold layout new who thread b ts
  told-stays b [] all = tt
  told-stays b (t ∷ ts) all = (done-stays (required_by thread t.held.grade.severity) t (at_once layout b t.held) all.0, told-stays (b || is_panic t.acted) ts all.1)

-- ---- a step

some-longer : {A : Type 0} (P : A → Type 0) (l m : List A) → SomeMember P l → SomeMember P (l ++ m)
some-longer P l m some = (some.0, some.1, at_longer l m some.0 some.1 some.2, some.3)

module _ {layout : Layout} {who : Who} {step : Step} {put : Option Log} {old new : View} {found : ℕ} {got : Option BodyValue} (made : Steps layout who step put old new found got) where
  poison-stays : (frame : Frame) → SawPoison old who frame → SawPoison new who frame
  poison-stays frame saw = record { word = saw.word; poisoned = saw.poisoned; saw = saw-stays made saw.saw }

  -- of a failure
  pub fail-stay : {before after : List Marking} {were are : List Failed} → Grows (λ (m : Mark). m.stamp.who) marking_of old.marks new.marks who before after → AddsFailure who old new were are → Stay who old new
  fail-stay marked failed = record {
    marks = λ P some. elim marked [
      | inl same ↦ subst (λ (l : List Mark). SomeMember P (filter (is_own who) l)) (sym same.0) some
      | inr grown ↦ subst (SomeMember P) (sym (ap (filter (is_own who)) grown.1 ∙ filter-append (is_own who) old.marks (grown.0 ∷ []))) (some-longer P (marks_by who old) (filter (is_own who) (grown.0 ∷ [])) some)
    ];
    deeds = λ P some. elim failed [
      | inl same ↦ subst (SomeMember P) (sym same.0) some
      | inr grown ↦ subst (SomeMember P) (sym grown.2) (some-push P (deeds who old) grown.0 some)
    ];
    saw = poison-stays;
  }

  -- of a step that marks nothing and lists no entry
  pub quiet-stay : new.marks ≡ old.marks → deeds who new ≡ deeds who old → Stay who old new
  quiet-stay marks entries = record {
    marks = λ P some. subst (λ (l : List Mark). SomeMember P (filter (is_own who) l)) (sym marks) some;
    deeds = λ P some. subst (SomeMember P) (sym entries) some;
    saw = poison-stays;
  }

-- ---- a failure that ended

-- what it came to is what is told of it
pub failed-is : (layout : Layout) (view : View) (who : Who) (frame : Frame) (required : Option Thread) (answer : FailAnswer) → recovers_at (fail_at.Over answer) ≡ true → fails.FitsOver layout view who frame required true answer
    → IsFailed layout view who frame required (act_of answer) (found_by answer)
failed-is layout view who frame required answers.Stopped recovers is = absurd (both_ways true (sym recovers) refl)
failed-is layout view who frame required answers.Already recovers is = (refl, is)
failed-is layout view who frame required (answers.Done found) recovers is = (refl, marked, which found.at is.1)
  where
    marked : HasPoisoned view who frame found.cycle
    marked = subst (SomeMember (IsMark frame found.cycle)) (sym is.0.marks) (some-last (IsMark frame found.cycle) is.0.before is.0.mark (is.0.frame_is, is.0.cycle_is, is.0.kind_is))

    which : (at : Option At) → fails.HasDone layout view who frame required found at → IsEntered layout view who frame required found at
    which None has = has
    which (Some at) has = (
      record {
        seen = has.0.seen;
        signals = has.0.signals;
        made = subst (SomeMember (IsAt at.page at.entry (entries.Fail found.situation required has.0.seen has.0.signals))) (sym has.0.made.all)
            (some-last (IsAt at.page at.entry (entries.Fail found.situation required has.0.seen has.0.signals)) has.0.made.before has.0.made.last has.0.made.at);
        signalled = has.0.signalled;
        paged = has.0.paged;
      },
      has.1,
    )
