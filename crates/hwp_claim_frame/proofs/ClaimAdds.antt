-- What a step of a `Claim` adds to what the view lists: no entry, the mark of its frame, and the count of that.
use Rattle.std.proofs.Common.{◌≡◌, inl, inr, ℕ, ◌+◌, ◌-◌, ◌<◌, ◌==◌, Bool, true, false, cond, List, [], ◌∷◌, Option, Some, None, is_none, refl, sym, ap, ◌∙◌, arith}
use Rattle.std.proofs.lemmas.Option.{none-some}
use Rattle.hwp_core.specs.hwp_geom.declared.Frame.{Frame}
use Rattle.hwp_core.specs.hwp_geom.declared.Layout.{Layout}
use Rattle.hwp_core.specs.hwp_geom.declared.Page.{Page}
use Rattle.hwp_core.specs.hwp_geom.declared.Who.{Who}
use Rattle.hwp_core.specs.hwp_page.History.{BodyValue}
use Rattle.hwp_core.specs.hwp_words.Frames.{count_of, cycle_of, is_kernel, is_poisoned}
use Rattle.hwp_core.specs.hwp_words.Stops.{is_stopped}
use Rattle.hwp_core.specs.hwp_core_rule.declared.Debts.{Debts}
use Rattle.hwp_core.specs.hwp_core_rule.declared.MarkKind.TheVariants as mark_kinds
use Rattle.hwp_core.specs.hwp_core_rule.declared.Step.{Step}
use Rattle.hwp_core.specs.hwp_core_rule.declared.Step.TheVariants as steps
use Rattle.hwp_core.specs.hwp_core_rule.declared.View.{View}
use Rattle.hwp_core.specs.hwp_core_rule.Asks.{OwesCount}
use Rattle.hwp_core.specs.hwp_core_rule.Views.{noted, owing_count, paying_count, stamp_of}
use Rattle.hwp_core.specs.hwp_core_rule.Calls.{Steps, logs}
use Rattle.hwp_core.proofs.of_hwp_core_rule.tasks.StepLeaves.{steps-planned}
use Rattle.hwp_core.specs.declared.unlock.Unlock.{Unlock}
use Rattle.hwp_core.specs.Unlocks as unlocks
use Rattle.hwp_claim_frame.specs.declared.claim.Claim.{Claim}
use Rattle.hwp_claim_frame.specs.declared.claim.ClaimAt.{ClaimAt}
use Rattle.hwp_claim_frame.specs.declared.claim.ClaimAt.TheVariants as at
use Rattle.hwp_claim_frame.specs.declared.grab.Grab.{Grab}
use Rattle.hwp_claim_frame.specs.declared.grab.GrabAnswer.{GrabAnswer}
use Rattle.hwp_claim_frame.specs.declared.grab.GrabAnswer.TheVariants as grab_answers
use Rattle.hwp_claim_frame.specs.declared.meet.Meet.{Meet}
use Rattle.hwp_claim_frame.specs.declared.meet.MeetAt.{MeetAt}
use Rattle.hwp_claim_frame.specs.declared.meet.MeetAt.TheVariants as meet_at
use Rattle.hwp_claim_frame.specs.declared.meet.MeetAnswer.{MeetAnswer}
use Rattle.hwp_claim_frame.specs.declared.meet.MeetAnswer.TheVariants as meet_answers
use Rattle.hwp_claim_frame.specs.Claims.{Fits, FitsAt, after_grab_by, after_meet_by, bare_at, is_done, next_at, owned_by, plan, plan_at, put, put_at}
use Rattle.hwp_claim_frame.specs.Done.{Adds, Marking, counts_owed, marked_in, owed_in, poisoning}
use Rattle.hwp_claim_frame.specs.Grabs as grabs
use Rattle.hwp_claim_frame.specs.Meets as meets
use Rattle.hwp_claim_frame.proofs.ClaimLaws.{is-poisoned, none-taken, poison-keeps, stop-keeps}
use Rattle.hwp_claim_frame.proofs.ViewKeeps.{Account, account_of, grab-only, kept, meet-only, unlock-only}
use Rattle.hwp_claim_frame.proofs.MeetLaws as meeting

-- ---- what the states have done

-- what is marked, and what is owed of it
abbrev done_in : Frame → Bool → ClaimAt → List Marking × ℕ
done_in frame hardware x = (marked_in frame hardware x, owed_in x)

-- a claim that neither poisons nor counts with its step
abbrev Keeps : ClaimAt → Type 0
Keeps at.Poison = ⊥
Keeps (at.Count cycle) = ⊥
Keeps x = Unit {0}

module _ (frame : Frame) (hardware : Bool) where
  module _ (who : Who) (own : Frame) (cycle : ℕ) where
    looked-done : (b c d : Bool) (found : ℕ) → done_in frame hardware (cond b (at.Kernel cycle) (cond c (at.Free cycle) (cond d (at.Grab cycle (grabs.begin who own)) (at.Meet cycle (meets.begin who own (Some cycle) found))))) ≡ (poisoning frame hardware cycle ∷ [], 0)
    looked-done true c d found = refl
    looked-done false true d found = refl
    looked-done false false true found = refl
    looked-done false false false found = refl

    grabbed-done : (b : Bool) → done_in frame hardware (cond b (at.Unlock cycle (unlocks.begin who own None)) (at.Retire cycle)) ≡ (poisoning frame hardware cycle ∷ [], 0)
    grabbed-done true = refl
    grabbed-done false = refl

    grab-done : (g : Grab) (o : Option GrabAnswer) → done_in frame hardware (after_grab_by who own cycle g o) ≡ (poisoning frame hardware cycle ∷ [], 0)
    grab-done g None = refl
    grab-done g (Some grab_answers.LookAgain) = refl
    grab-done g (Some (grab_answers.Grabbed word)) = grabbed-done (meets.is_ended cycle word)

    owned-done : (m : Meet) (page : Page) (x : MeetAt) → done_in frame hardware (owned_by cycle m page x) ≡ (poisoning frame hardware cycle ∷ [], 0)
    owned-done m page (meet_at.Owned other body) = refl
    owned-done m page _ = refl

    meet-done : (m : Meet) (o : Option MeetAnswer) → done_in frame hardware (after_meet_by cycle m o) ≡ (poisoning frame hardware cycle ∷ [], 0)
    meet-done m None = refl
    meet-done m (Some meet_answers.LookAgain) = refl
    meet-done m (Some meet_answers.Ended) = refl
    meet-done m (Some meet_answers.Free) = refl
    meet-done m (Some (meet_answers.Owned page)) = owned-done m page m.at

    unlock-done : (u : Unlock) (b : Bool) → done_in frame hardware (cond b (at.Free cycle) (at.Unlock cycle u)) ≡ (poisoning frame hardware cycle ∷ [], 0)
    unlock-done u true = refl
    unlock-done u false = refl

  stopped-done : (b c : Bool) → done_in frame hardware (cond b at.Stopped (cond c at.Stopped at.GaveUp)) ≡ ([], 0)
  stopped-done true c = refl
  stopped-done false true = refl
  stopped-done false false = refl

  same-done : (who : Who) (own : Frame) (found : ℕ) (got : Option BodyValue) (x : ClaimAt) → Keeps x → done_in frame hardware (next_at who own (bare_at x) found got) ≡ done_in frame hardware x
  same-done who own found got at.Stop keeps = stopped-done (found == 0) (is_stopped found)
  same-done who own found got at.Poison keeps = absurd keeps
  same-done who own found got (at.Count cycle) keeps = absurd keeps
  same-done who own found got (at.Look cycle) keeps = looked-done who own cycle (is_kernel found) (is_done cycle found) (count_of found == 0) found
  same-done who own found got (at.Grab cycle g) keeps = grab-done who own cycle (grabs.next g found) (grabs.answer (grabs.next g found))
  same-done who own found got (at.Meet cycle m) keeps = meet-done who own cycle (meets.next (meets.bare m) found got) (meets.answer (meets.next (meets.bare m) found got))
  same-done who own found got (at.Unlock cycle u) keeps = unlock-done who own cycle (unlocks.next (unlocks.bare u) found) (is_none (unlocks.plan (unlocks.next (unlocks.bare u) found)))
  same-done who own found got (at.Retire cycle) keeps = refl
  same-done who own found got at.GaveUp keeps = refl
  same-done who own found got at.Stopped keeps = refl
  same-done who own found got at.Already keeps = refl
  same-done who own found got (at.Free cycle) keeps = refl
  same-done who own found got (at.Kernel cycle) keeps = refl
  same-done who own found got (at.Owned cycle page body) keeps = refl

-- ---- what the steps add

adds-none : {old new : View} (who : Who) (frame : Frame) (hardware : Bool) {x y : ClaimAt} → account_of new ≡ account_of old → done_in frame hardware y ≡ done_in frame hardware x → Adds old new who frame hardware x y
adds-none {old} {new} who frame hardware {x} {y} same like = record {
  made = ap (λ (a : Account). a.made) same;
  marked = inl (ap (λ (a : Account). a.marks) same, ap (λ (d : List Marking × ℕ). d.0) like);
  counted =
      let owes : counts_owed new ≡ counts_owed old = ap (λ (a : Account). a.owed.counts + a.owed.hardware + a.owed.uncounts) same in
      let own : owed_in y ≡ owed_in x = ap (λ (d : List Marking × ℕ). d.1) like in
      omega (arith, owes, own);
}

module _ {layout : Layout} {old new : View} {found : ℕ} {got : Option BodyValue} (who : Who) (frame : Frame) (hardware : Bool) where
  pub poison-adds : Steps layout who (steps.Poison frame hardware) None old new found got → (b : Bool) → is_poisoned found ≡ b → Adds old new who frame hardware at.Poison (cond b at.Already (at.Count (cycle_of found)))
  poison-adds made true set = adds-none who frame hardware (poison-keeps frame hardware made set) refl
  poison-adds made false clear = record {
    made = ap (λ (v : View). v.made) (is-poisoned frame hardware made clear);
    marked = inr (record { stamp = stamp_of who (noted who old); frame = frame; cycle = cycle_of found; kind = mark_kinds.Poisoned hardware }, ap (λ (v : View). v.marks) (is-poisoned frame hardware made clear), refl, refl);
    counted = more hardware (ap (λ (v : View). v.owed) (is-poisoned frame hardware made clear));
  }
    where
      more : (h : Bool) → new.owed ≡ owing_count h old.owed → counts_owed new + 0 ≡ counts_owed old + 1
      more true is = let n : counts_owed new ≡ old.owed.counts + (old.owed.hardware + 1) + old.owed.uncounts = ap (λ (d : Debts). d.counts + d.hardware + d.uncounts) is in omega (arith, n)
      more false is = let n : counts_owed new ≡ old.owed.counts + 1 + old.owed.hardware + old.owed.uncounts = ap (λ (d : Debts). d.counts + d.hardware + d.uncounts) is in omega (arith, n)

  pub count-adds : (cycle : ℕ) → Steps layout who (steps.CountPoison hardware) None old new found got → OwesCount old hardware → Adds old new who frame hardware (at.Count cycle) (at.Look cycle)
  count-adds cycle made owes = record {
    made = ap (λ (v : View). v.made) made.told.next;
    marked = inl (ap (λ (v : View). v.marks) made.told.next, refl);
    counted = less hardware owes (ap (λ (v : View). v.owed) made.told.next);
  }
    where
      less : (h : Bool) → OwesCount old h → new.owed ≡ paying_count h old.owed → counts_owed new + 1 ≡ counts_owed old + 0
      less true some is = let n : counts_owed new ≡ old.owed.counts + (old.owed.hardware - 1) + old.owed.uncounts = ap (λ (d : Debts). d.counts + d.hardware + d.uncounts) is in let m : 0 < old.owed.hardware = some in omega (arith, n, m)
      less false some is = let n : counts_owed new ≡ old.owed.counts - 1 + old.owed.hardware + old.owed.uncounts = ap (λ (d : Debts). d.counts + d.hardware + d.uncounts) is in let m : 0 < old.owed.counts = some in omega (arith, n, m)

pub claim-adds : (layout : Layout) (old new : View) (c : Claim) (step : Step) (found : ℕ) (got : Option BodyValue) → Fits layout old c → plan c ≡ Some step → Steps layout c.who step (logs (put c)) old new found got
    → Adds old new c.who c.frame c.hardware c.at (next_at c.who c.frame (bare_at c.at) found got)
claim-adds layout old new c step found got fits is made = which c.at fits.at is made
  where
    which : (x : ClaimAt) → FitsAt layout old c.who c.frame c.hardware x → plan_at c.who c.frame c.hardware x ≡ Some step → Steps layout c.who step (logs (put_at x)) old new found got → Adds old new c.who c.frame c.hardware x (next_at c.who c.frame (bare_at x) found got)
    which at.Stop has e made = adds-none c.who c.frame c.hardware (stop-keeps (steps-planned e made)) (same-done c.frame c.hardware c.who c.frame found got at.Stop tt)
    which at.Poison has e made = poison-adds c.who c.frame c.hardware (steps-planned e made) (is_poisoned found) refl
    which (at.Count cycle) has e made = count-adds c.who c.frame c.hardware cycle (steps-planned e made) has.2
    which (at.Look cycle) has e made = adds-none c.who c.frame c.hardware (kept None tt (none-taken old) (steps-planned e made)) (same-done c.frame c.hardware c.who c.frame found got (at.Look cycle) tt)
    which (at.Grab cycle g) has e made = adds-none c.who c.frame c.hardware (kept None (grab-only g step e) (none-taken old) made) (same-done c.frame c.hardware c.who c.frame found got (at.Grab cycle g) tt)
    which (at.Meet cycle m) has e made = adds-none c.who c.frame c.hardware (kept (meets.put m) (meet-only m step e) (meeting.puts-as-taken layout old m has.0.meet) made) (same-done c.frame c.hardware c.who c.frame found got (at.Meet cycle m) tt)
    which (at.Unlock cycle u) has e made = adds-none c.who c.frame c.hardware (kept (unlocks.put u) (unlock-only u step e) (λ b some. absurd (none-some b (sym has.0.given ∙ some))) made) (same-done c.frame c.hardware c.who c.frame found got (at.Unlock cycle u) tt)
    which (at.Retire cycle) has e made = adds-none c.who c.frame c.hardware (kept None tt (none-taken old) (steps-planned e made)) refl
    which at.GaveUp has e made = absurd (none-some step e)
    which at.Stopped has e made = absurd (none-some step e)
    which at.Already has e made = absurd (none-some step e)
    which (at.Free cycle) has e made = absurd (none-some step e)
    which (at.Kernel cycle) has e made = absurd (none-some step e)
    which (at.Owned cycle page body) has e made = absurd (none-some step e)
