-- What a step of an `Unpoison` adds to what the view lists: the mark of its frame, and the count of that.
use Rattle.std.proofs.Common.{◌≡◌, inl, inr, ℕ, ◌+◌, ◌-◌, ◌<◌, ◌==◌, Bool, true, false, cond, List, [], Option, Some, None, refl, ap, arith}
use Rattle.std.proofs.lemmas.Option.{none-some}
use Rattle.hwp_claim_frame.specs.hwp_geom.declared.Frame.{Frame}
use Rattle.hwp_claim_frame.specs.hwp_geom.declared.Layout.{Layout}
use Rattle.hwp_claim_frame.specs.hwp_geom.declared.Who.{Who}
use Rattle.hwp_claim_frame.specs.hwp_page.History.{BodyValue}
use Rattle.hwp_claim_frame.specs.hwp_words.Counters.{hardware_of}
use Rattle.hwp_claim_frame.specs.hwp_words.Frames.{count_of, cycle_of, is_poisoned}
use Rattle.hwp_claim_frame.specs.hwp_words.Stops.{is_stopped}
use Rattle.hwp_claim_frame.specs.hwp_core_rule.declared.Debts.{Debts}
use Rattle.hwp_claim_frame.specs.hwp_core_rule.declared.Step.{Step}
use Rattle.hwp_claim_frame.specs.hwp_core_rule.declared.Step.TheVariants as steps
use Rattle.hwp_claim_frame.specs.hwp_core_rule.declared.View.{View}
use Rattle.hwp_claim_frame.specs.hwp_core_rule.Calls.{Steps}
use Rattle.hwp_claim_frame.proofs.of_hwp_core_rule.tasks.StepLeaves.{steps-planned}
use Rattle.hwp_claim_frame.specs.Done.{Marking, counts_owed}
use Rattle.hwp_soft.specs.declared.unpoison.Unpoison.{Unpoison}
use Rattle.hwp_soft.specs.declared.unpoison.UnpoisonAt.{UnpoisonAt}
use Rattle.hwp_soft.specs.declared.unpoison.UnpoisonAt.TheVariants as at
use Rattle.hwp_soft.specs.declared.unpoison.UnpoisonAnswer.TheVariants as answers
use Rattle.hwp_soft.specs.UnpoisonDone.{Adds, marked_at, owed_at}
use Rattle.hwp_soft.specs.Unpoisons.{plan, plan_at, next_at, is_revivable, Fits, FitsAt}
use Rattle.hwp_soft.proofs.UnpoisonLaws.{mark, missed, went}

-- what is marked, and what is owed of it
abbrev done_in : Frame → UnpoisonAt → List Marking × ℕ
done_in frame x = (marked_at frame x, owed_at x)

module _ (frame : Frame) where
  stopped-none : (b : Bool) → done_in frame (cond b (at.Over answers.Stopped) at.LoadFrame) ≡ ([], 0)
  stopped-none true = refl
  stopped-none false = refl

  framed-none : (b : Bool) (found : ℕ) → done_in frame (cond b (at.LoadCount found) (at.Over answers.NotPoisoned)) ≡ ([], 0)
  framed-none true found = refl
  framed-none false found = refl

  counted-none : (b : Bool) (seen : ℕ) → done_in frame (cond b (at.LoadBad seen) (at.Over answers.HardwareSeen)) ≡ ([], 0)
  counted-none true seen = refl
  counted-none false seen = refl

  looked-none : (b c : Bool) (seen found : ℕ) → done_in frame (cond b (cond c (at.Revive seen) (at.Over (answers.InUse (count_of seen)))) (at.Over (answers.HasBad (record { 0 = found })))) ≡ ([], 0)
  looked-none true true seen found = refl
  looked-none true false seen found = refl
  looked-none false c seen found = refl

-- a step that neither marks nor counts
adds-none : {old new : View} (who : Who) (frame : Frame) {x y : UnpoisonAt} → new.marks ≡ old.marks → counts_owed new ≡ counts_owed old → done_in frame y ≡ done_in frame x → Adds old new who frame x y
adds-none {old} {new} who frame {x} {y} marks owes like = record {
  marked = inl (marks, ap (λ (d : List Marking × ℕ). d.0) like);
  counted = let own : owed_at y ≡ owed_at x = ap (λ (d : List Marking × ℕ). d.1) like in omega (arith, owes, own);
}

module _ {layout : Layout} {old new : View} {found : ℕ} {got : Option BodyValue} (who : Who) (frame : Frame) where
  revive-adds : (seen : ℕ) → Steps layout who (steps.Revive frame seen) None old new found got → (b : Bool) → (found == seen) ≡ b → Adds old new who frame (at.Revive seen) (cond b (at.Uncount (cycle_of found)) at.LoadFrame)
  revive-adds seen made true is = record {
    marked = inr (mark frame seen made, (went frame seen made is).0, refl, refl);
    counted =
        let owes : counts_owed new ≡ old.owed.counts + old.owed.hardware + (old.owed.uncounts + 1) = ap (λ (d : Debts). d.counts + d.hardware + d.uncounts) (went frame seen made is).1 in
        omega (arith, owes);
  }
  revive-adds seen made false other = adds-none who frame (missed frame seen made other).0 (ap (λ (d : Debts). d.counts + d.hardware + d.uncounts) (missed frame seen made other).1) refl

  uncount-adds : (cycle : ℕ) → Steps layout who steps.Uncount None old new found got → 0 < old.owed.uncounts → Adds old new who frame (at.Uncount cycle) (at.GiveBit cycle)
  uncount-adds cycle made owing = record {
    marked = inl (ap (λ (v : View). v.marks) made.told.next, refl);
    counted =
        let owes : counts_owed new ≡ old.owed.counts + old.owed.hardware + (old.owed.uncounts - 1) = ap counts_owed made.told.next in
        let some : 0 < old.owed.uncounts = owing in
        omega (arith, owes, some);
  }

pub unpoison-adds : (layout : Layout) (old new : View) (u : Unpoison) (step : Step) (found : ℕ) (got : Option BodyValue) → Fits layout old u → plan u ≡ Some step → Steps layout u.who step None old new found got
    → Adds old new u.who u.frame u.at (next_at u.at found)
unpoison-adds layout old new u step found got fits is made = which u.at fits.at is
  where
    which : (x : UnpoisonAt) → FitsAt old u.who u.frame x → plan_at u.frame x ≡ Some step → Adds old new u.who u.frame x (next_at x found)
    which at.LoadStop has e = adds-none u.who u.frame (ap (λ (v : View). v.marks) (steps-planned e made).told.next) (ap counts_owed (steps-planned e made).told.next) (stopped-none u.frame (is_stopped found))
    which at.LoadFrame has e = adds-none u.who u.frame (ap (λ (v : View). v.marks) (steps-planned e made).told.next) (ap counts_owed (steps-planned e made).told.next) (framed-none u.frame (is_poisoned found) found)
    which (at.LoadCount seen) has e = adds-none u.who u.frame (ap (λ (v : View). v.marks) (steps-planned e made).told.next) (ap counts_owed (steps-planned e made).told.next) (counted-none u.frame (hardware_of found == 0) seen)
    which (at.LoadBad seen) has e = adds-none u.who u.frame (ap (λ (v : View). v.marks) (steps-planned e made).told.next) (ap counts_owed (steps-planned e made).told.next) (looked-none u.frame (found == 0) (is_revivable seen) seen found)
    which (at.Revive seen) has e = revive-adds u.who u.frame seen (steps-planned e made) (found == seen) refl
    which (at.Uncount cycle) has e = uncount-adds u.who u.frame cycle (steps-planned e made) has.2
    which (at.GiveBit cycle) has e = adds-none u.who u.frame (ap (λ (v : View). v.marks) (steps-planned e made).told.next) (ap counts_owed (steps-planned e made).told.next) refl
    which (at.Unreserve cycle) has e = adds-none u.who u.frame (ap (λ (v : View). v.marks) (steps-planned e made).told.next) (ap counts_owed (steps-planned e made).told.next) refl
    which (at.Over answer) has e = absurd (none-some step e)
