-- What a command by which a frame fails has done, once it is answered.
use Rattle.std.proofs.Common.{◌≡◌, ◌+◌, Bool, false, List, [], ◌∷◌, ◌++◌, Option, Some, None, length, map, slice_get, refl, sym, ap, ◌∙◌, subst, arith}
use Rattle.std.specs.List.{cons_option}
use Rattle.std.proofs.lemmas.List.{length-append, length-map, nil_from_length}
use Rattle.std.proofs.lemmas.Option.{none-some, same_Some}
use Rattle.hwp_claim_frame.specs.hwp_geom.declared.Frame.{Frame}
use Rattle.hwp_claim_frame.specs.hwp_geom.declared.Layout.{Layout}
use Rattle.hwp_claim_frame.specs.hwp_geom.declared.Thread.{Thread}
use Rattle.hwp_claim_frame.specs.hwp_geom.declared.Who.{Who}
use Rattle.hwp_claim_frame.specs.hwp_page.declared.At.{At}
use Rattle.hwp_claim_frame.specs.hwp_core_rule.declared.Made.{Made}
use Rattle.hwp_claim_frame.specs.hwp_core_rule.declared.View.{View}
use Rattle.hwp_claim_frame.specs.hwp_core_rule.Known.{deeds}
use Rattle.hwp_claim_act.specs.declared.abandon.Failed.{Failed}
use Rattle.hwp_claim_act.specs.Abandoned.{failed_in}
use Rattle.hwp_claim_frame.specs.Claims.{marks_by}
use Rattle.hwp_claim_frame.specs.Done.{Marking, marking_of, poisoning}
use Rattle.hwp_claim.specs.declared.fail.Fail.{Fail}
use Rattle.hwp_claim.specs.declared.fail.FailAt.{FailAt}
use Rattle.hwp_claim.specs.declared.fail.FailAt.TheVariants as fail_at
use Rattle.hwp_claim.specs.declared.fail.FailAnswer.{FailAnswer}
use Rattle.hwp_claim.specs.declared.fail.FailAnswer.TheVariants as answers
use Rattle.hwp_claim.specs.declared.fail.Found.{Found}
use Rattle.hwp_claim.specs.declared.inject.Inject.{Inject}
use Rattle.hwp_claim.specs.declared.inject.InjectAt.{InjectAt}
use Rattle.hwp_claim.specs.declared.inject.InjectAt.TheVariants as at
use Rattle.hwp_claim.specs.Done.{entered_by, failed_at, failed_over, marked_at, marked_over}
use Rattle.hwp_claim.specs.Fails as fails
use Rattle.hwp_claim.specs.Injects.{Fits, FitsAt, HasDone, HasEnded, IsFailing, answer, answer_at}

-- a list is as long as the one that is made of it
none-of : {A B : Type 0} (f : A → B) (l : List A) → map f l ≡ [] → l ≡ []
none-of f l is = nil_from_length l (sym (length-map l f) ∙ ap (λ (m : List _). length m) is)

none-before : {A B : Type 0} (f : A → B) (l before : List A) (x : A) (y : B) → l ≡ before ++ x ∷ [] → map f l ≡ y ∷ [] → before ≡ []
none-before f l before x y is one = nil_from_length before
    (let all : length l ≡ length before + 1 = ap (λ (m : List _). length m) is ∙ length-append before (x ∷ []) in
    let single : length l ≡ 1 = sym (length-map l f) ∙ ap (λ (m : List _). length m) one in
    omega (arith, all, single))

alone : {A : Type 0} (l before : List A) (x : A) → l ≡ before ++ x ∷ [] → before ≡ [] → l ≡ x ∷ []
alone l before x is none = is ∙ ap (λ (m : List _). m ++ x ∷ []) none

module _ (layout : Layout) (view : View) (who : Who) (frame : Frame) (marks : List Marking) (failures : List Failed) (marked : map marking_of (marks_by who view) ≡ marks) (entered : map failed_in (deeds who view) ≡ map (λ (x : Failed). Some x) failures) where
  has-done : (found : Found) (at : Option At) → failures ≡ cons_option (entered_by None found at) [] → fails.HasDone layout view who frame None found at → HasDone layout view who frame found at
  has-done found None none has = (none-of failed_in (deeds who view) (entered ∙ ap (map (λ (x : Failed). Some x)) none), has.0, has.1)
  has-done found (Some place) one has = (
    record {
      seen = has.0.seen;
      signals = has.0.signals;
      made = record {
        before = has.0.made.before;
        last = has.0.made.last;
        all = has.0.made.all;
        such = λ i m there. none-some m (sym (ap (λ (l : List Made). slice_get l i) (none-before failed_in (deeds who view) has.0.made.before has.0.made.last (Some (record { situation = found.situation; required = None; at = place; signalled = found.signalled })) has.0.made.all (entered ∙ ap (map (λ (x : Failed). Some x)) one))) ∙ there);
        at = has.0.made.at;
      };
      signalled_is = has.0.signalled;
      paged = has.0.paged;
    },
    has.1,
  )

  has-ended : (x : FailAnswer) → marks ≡ marked_over frame false x → failures ≡ failed_over None x → fails.FitsOver layout view who frame None false x → HasEnded layout view who frame x
  has-ended answers.Stopped none unentered has = (none-of failed_in (deeds who view) (entered ∙ ap (map (λ (x : Failed). Some x)) unentered), none-of marking_of (marks_by who view) (marked ∙ none), has)
  has-ended answers.Already none unentered has = (none-of failed_in (deeds who view) (entered ∙ ap (map (λ (x : Failed). Some x)) unentered), none-of marking_of (marks_by who view) (marked ∙ none), has)
  has-ended (answers.Done found) one done has = (
    record {
      mark = has.0.mark;
      marks = alone (marks_by who view) has.0.before has.0.mark has.0.marks (none-before marking_of (marks_by who view) has.0.before has.0.mark (poisoning frame false found.cycle) has.0.marks (marked ∙ one));
      frame_is = has.0.frame_is;
      cycle_is = has.0.cycle_is;
      kind_is = has.0.kind_is;
    },
    has-done found found.at done has.1,
  )

pub inject-ended : (layout : Layout) (view : View) (i : Inject) (x : FailAnswer) → Fits layout view i → answer i ≡ Some x → HasEnded layout view i.who i.frame x
inject-ended layout view i x fits is = which i.at fits.at is
  where
    by : (f : Fail) → IsFailing layout view i.who i.frame f → (y : FailAt) → f.at ≡ y → fails.answer_at y ≡ Some x → HasEnded layout view i.who i.frame x
    by f has (fail_at.Over own) at said = has-ended layout view i.who i.frame (marked_at i.frame false f.at) (failed_at None f.at) has.marks has.entries x (ap (marked_at i.frame false) over) (ap (failed_at None) over) (subst (λ (h : Bool). fails.FitsOver layout view i.who i.frame None h x) has.software
        (subst (λ (r : Option Thread). fails.FitsOver layout view i.who i.frame r f.hardware x) has.unrequired
        (subst (λ (n : Frame). fails.FitsOver layout view i.who n f.required f.hardware x) has.frame_is
        (subst (λ (w : Who). fails.FitsOver layout view w f.frame f.required f.hardware x) has.own
        (subst (fails.FitsAt layout view f.who f.frame f.required f.hardware) over has.fail.at).2))))
      where
        over : f.at ≡ fail_at.Over x
        over = at ∙ ap (λ (a : FailAnswer). fail_at.Over a) (same_Some own x said)
    by f has (fail_at.Claim c) at said = absurd (none-some x said)
    by f has (fail_at.Act cycle a) at said = absurd (none-some x said)

    which : (z : InjectAt) → FitsAt layout view i.who i.frame z → answer_at z ≡ Some x → HasEnded layout view i.who i.frame x
    which at.LoadStop has said = absurd (none-some x said)
    which (at.Fail f) has said = by f has f.at refl said
    which at.Stopped has said = subst (HasEnded layout view i.who i.frame) (same_Some answers.Stopped x said) (has.0.made, has.0.unmarked, has.1)
