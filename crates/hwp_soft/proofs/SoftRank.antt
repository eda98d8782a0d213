-- Each turn of a `Soft` lowers its cost, or leaves a failure fewer, and its failure stays its own until its frame is out of use.
use Rattle.std.proofs.Common.{◌≡◌, ◌≢◌, ◌⊎◌, inl, inr, ℕ, ◌+◌, ◌<◌, ◌≤◌, ◌==◌, Bool, true, false, cond, Option, Some, None, MatchBool, is_none, length, slice_get, refl, sym, ap, ◌∙◌, subst, arith}
use Rattle.std.proofs.lemmas.Bool.{both_ways}
use Rattle.std.proofs.lemmas.Option.{none-some, same_Some}
use Rattle.hwp_claim_frame.specs.hwp_geom.declared.Frame.{Frame}
use Rattle.hwp_claim_frame.specs.hwp_geom.declared.Layout.{Layout}
use Rattle.hwp_claim_frame.specs.hwp_geom.declared.Page.{Page}
use Rattle.hwp_claim_frame.specs.hwp_geom.declared.VSlot.{VSlot}
use Rattle.hwp_claim_frame.specs.hwp_geom.declared.Who.{Who}
use Rattle.hwp_claim_frame.specs.hwp_page.declared.At.{At}
use Rattle.hwp_claim_frame.specs.hwp_page.History.{BodyValue}
use Rattle.hwp_claim_frame.specs.hwp_words.Frames.{cycle_of, is_poisoned}
use Rattle.hwp_claim_frame.specs.hwp_words.Stops.{is_stopped}
use Rattle.hwp_claim_frame.specs.hwp_core_rule.declared.State.{State}
use Rattle.hwp_claim_frame.specs.hwp_core_rule.declared.Step.{Step}
use Rattle.hwp_claim_frame.specs.hwp_core_rule.declared.Step.TheVariants as steps
use Rattle.hwp_claim_frame.specs.hwp_core_rule.Moves.{Move}
use Rattle.hwp_claim_frame.specs.hwp_core_rule.Rule.{Holds}
use Rattle.hwp_claim_frame.specs.hwp_core_rule.Lasting.{IsMild}
use Rattle.hwp_claim_frame.specs.hwp_core_rule.Words.{Words, free_words}
use Rattle.hwp_claim_frame.specs.hwp_core_rule.declared.Turn.{Turn}
use Rattle.hwp_claim_frame.specs.hwp_core_rule.declared.Turn.TheVariants.{Moved}
use Rattle.hwp_claim_frame.specs.hwp_core_rule.Boards.{view_of}
use Rattle.hwp_claim_frame.specs.hwp_core_rule.Calls.{logs, rec_of}
use Rattle.hwp_claim_frame.specs.hwp_core_rule.Hands.{Hand}
use Rattle.hwp_claim_frame.specs.hwp_core_rule.Ranks.{IsRanked, Made, OtherHand, Pending, Quiet, failures_left, is_waits, words_at, free_room, take_most}
use Rattle.hwp_claim_frame.proofs.of_hwp_core_rule.tasks.StepRanks.{failed, met, pending-kept, retire-fails, steps-on, words-after, words-kept}
use Rattle.hwp_claim_frame.specs.hwp_core.declared.refer.Refer.{Refer}
use Rattle.hwp_claim_frame.specs.hwp_core.declared.refer.ReferAt.{ReferAt}
use Rattle.hwp_claim_frame.specs.hwp_core.declared.refer.ReferAt.TheVariants as refer_at
use Rattle.hwp_claim_frame.specs.hwp_core.declared.release.Release.{Release}
use Rattle.hwp_claim_frame.specs.hwp_core.declared.release.ReleaseAt.{ReleaseAt}
use Rattle.hwp_claim_frame.specs.hwp_core.declared.release.ReleaseAt.TheVariants as release_at
use Rattle.hwp_evict.specs.declared.take.Take.{Take}
use Rattle.hwp_evict.specs.declared.take.TakeAt.{TakeAt}
use Rattle.hwp_evict.specs.declared.take.TakeAt.TheVariants as take_at
use Rattle.hwp_claim_frame.specs.hwp_core.declared.unhold.Unhold.{Unhold}
use Rattle.hwp_claim_frame.specs.hwp_core.GiveUps as give_ups
use Rattle.hwp_claim_frame.specs.hwp_core.Refers as refers
use Rattle.hwp_claim_frame.specs.hwp_core.Releases as releases
use Rattle.hwp_evict.specs.Takes as takes
use Rattle.hwp_claim_frame.specs.hwp_core.Unholds as unholds
use Rattle.hwp_claim_frame.specs.hwp_geom.Limits.{frame_limit}
use Rattle.hwp_claim_frame.proofs.of_hwp_core.GiveUpCosts.{give-up-falls, give-up-goes, give-up-mild, give-up-ranked, give-up-small}
use Rattle.hwp_claim_frame.proofs.of_hwp_core.FreeWords.{frees-length}
use Rattle.hwp_evict.proofs.StepWords.{is-met, words_then}
use Rattle.hwp_claim_frame.proofs.of_hwp_core.TaskCosts.{release-falls, release-mild, release-small, unhold-class, unhold-falls, unhold-mild, unhold-small}
use Rattle.hwp_evict.proofs.TakeCosts as taking
use Rattle.hwp_claim_frame.specs.declared.grab.Grab.{Grab}
use Rattle.hwp_claim_frame.specs.declared.grab.GrabAnswer.{GrabAnswer}
use Rattle.hwp_claim_frame.specs.declared.grab.GrabAnswer.TheVariants as grab_answers
use Rattle.hwp_claim_frame.specs.declared.meet.Meet.{Meet}
use Rattle.hwp_claim_frame.specs.declared.meet.MeetAt.{MeetAt}
use Rattle.hwp_claim_frame.specs.declared.meet.MeetAt.TheVariants as meet_at
use Rattle.hwp_claim_frame.specs.declared.meet.MeetAnswer.{MeetAnswer}
use Rattle.hwp_claim_frame.specs.declared.meet.MeetAnswer.TheVariants as meet_answers
use Rattle.hwp_claim_frame.specs.Grabs as grabs
use Rattle.hwp_claim_frame.specs.Meets as meets
use Rattle.hwp_claim_frame.proofs.PoisonLaws.{poison-owns}
use Rattle.hwp_claim_frame.proofs.ClaimKeeps.{Keeps, drops-now, owned-by, retired}
use Rattle.hwp_soft_move.specs.declared.discard.Discard.{Discard}
use Rattle.hwp_soft_move.specs.declared.discard.DiscardAt.{DiscardAt}
use Rattle.hwp_soft_move.specs.declared.discard.DiscardAt.TheVariants as discard_at
use Rattle.hwp_soft_move.specs.declared.relocate.Relocate.{Relocate}
use Rattle.hwp_soft_move.specs.declared.relocate.RelocateAt.{RelocateAt}
use Rattle.hwp_soft_move.specs.declared.relocate.RelocateAt.TheVariants as relocate_at
use Rattle.hwp_soft_move.specs.declared.remap.Remap.{Remap}
use Rattle.hwp_soft_move.specs.declared.seize.Seize.{Seize}
use Rattle.hwp_soft_move.specs.declared.seize.SeizeAt.{SeizeAt}
use Rattle.hwp_soft_move.specs.declared.seize.SeizeAt.TheVariants as seize_at
use Rattle.hwp_soft_move.specs.Discards as discards
use Rattle.hwp_soft_move.specs.Relocating as relocating
use Rattle.hwp_soft_move.specs.Relocations as relocations
use Rattle.hwp_soft_move.specs.Remaps.{old_lock}
use Rattle.hwp_soft_move.specs.Seizes as seizes
use Rattle.hwp_soft_move.proofs.DiscardLaws.{discard-class, discard-falls, discard-owns, discard-small}
use Rattle.hwp_soft_move.proofs.RelocateCosts.{relocate-class, relocate-falls, relocate-goes, relocate-mild, relocate-small}
use Rattle.hwp_soft_move.proofs.SeizeCosts.{seize-class, seize-falls, seize-leaves, seize-mild, seize-small, seize-waits}
use Rattle.hwp_soft.specs.declared.soft.Soft.{Soft}
use Rattle.hwp_soft.specs.declared.soft.SoftAnswer.{SoftAnswer}
use Rattle.hwp_soft.specs.declared.soft.SoftAnswer.TheVariants as answers
use Rattle.hwp_soft.specs.declared.soft.SoftAt.{SoftAt}
use Rattle.hwp_soft.specs.declared.soft.SoftAt.TheVariants as at
use Rattle.hwp_soft.specs.Offline.{FitsAt, IsDiscarding, IsRelocating, IsSeizing, task as soft-task}
use Rattle.hwp_soft.specs.Softs.{FollowsAt, Moves, ShowsAt, TakesOne, aborts, aborts_at, after_discard, after_relocate, after_release, after_seize, after_take, after_unhold, bare_at, claim_of, claims, claims_at, class, class_at, cost, cost_at, ended, given_up, let_go, plan_at, put_at, move_most, seized_most, soft_most}
use Rattle.hwp_soft.proofs.SoftFits.{both}

-- ---- what is left once a part is over

module _ (who : Who) (frame : Frame) where
  seize-ends : (z : Seize) (w : Words) → cost_at (after_seize who frame z) w ≤ seizes.cost_with seized_most z.at w
  seize-ends z w = which z.at
    where
      which : (x : SeizeAt) → cost_at (after_seize who frame (record z { at = x })) w ≤ seizes.cost_with seized_most x w
      which seize_at.Look = omega arith
      which (seize_at.Grab g) = omega arith
      which (seize_at.Meet m) = omega arith
      which seize_at.Kernel = omega arith
      which seize_at.Already = omega arith
      which seize_at.Grabbed = omega arith
      which seize_at.Free = omega arith
      which (seize_at.Owned page body) = omega arith

  seize-aborts : (z : Seize) → seizes.aborts z ≡ true → aborts_at (after_seize who frame z) ≡ true
  seize-aborts z is = which z.at is
    where
      which : (x : SeizeAt) → seizes.aborts_at x ≡ true → aborts_at (after_seize who frame (record z { at = x })) ≡ true
      which (seize_at.Grab g) is = is
      which seize_at.Look is = absurd (both_ways true (sym is) refl)
      which (seize_at.Meet m) is = absurd (both_ways true (sym is) refl)
      which seize_at.Kernel is = absurd (both_ways true (sym is) refl)
      which seize_at.Already is = absurd (both_ways true (sym is) refl)
      which seize_at.Grabbed is = absurd (both_ways true (sym is) refl)
      which seize_at.Free is = absurd (both_ways true (sym is) refl)
      which (seize_at.Owned page body) is = absurd (both_ways true (sym is) refl)

  seize-ahead : (z : Seize) → seizes.class z ≡ 4 → class_at (after_seize who frame z) ≡ 4
  seize-ahead z is = which z.at is
    where
      which : (x : SeizeAt) → seizes.class_at x ≡ 4 → class_at (after_seize who frame (record z { at = x })) ≡ 4
      which seize_at.Look is = is
      which (seize_at.Grab g) is = is
      which (seize_at.Meet m) is = is
      which seize_at.Kernel is = refl
      which seize_at.Already is = refl
      which seize_at.Grabbed is = absurd (let one : 1 ≡ 4 = is in omega (arith, one))
      which seize_at.Free is = absurd (let one : 1 ≡ 4 = is in omega (arith, one))
      which (seize_at.Owned page body) is = absurd (let one : 1 ≡ 4 = is in omega (arith, one))

  -- a turn of it that waits goes on
  module _ (z : Seize) (turn : Turn) where
    abbrev Goes : SeizeAt → Type 0
    Goes y = ended (after_seize who frame (record z { at = y })) turn ≡ turn

    grabbed : (g : Grab) (o : Option GrabAnswer) → Goes (seizes.after_grab_by g o)
    grabbed g None = refl
    grabbed g (Some grab_answers.LookAgain) = refl
    grabbed g (Some (grab_answers.Grabbed word)) = refl

    owned : (m : Meet) (page : Page) (x : MeetAt) → Goes (seizes.owned_by m page x)
    owned m page (meet_at.Owned own body) = refl
    owned m page _ = refl

    met-on : (m : Meet) (o : Option MeetAnswer) → Goes (seizes.after_meet_by m o)
    met-on m None = refl
    met-on m (Some meet_answers.LookAgain) = refl
    met-on m (Some meet_answers.Ended) = refl
    met-on m (Some meet_answers.Free) = refl
    met-on m (Some (meet_answers.Owned page)) = owned m page m.at

    seize-on : (found : ℕ) (got : Option BodyValue) → is_waits (seizes.turn (seizes.bare z) found) ≡ true → ended (after_seize who frame (seizes.next (seizes.bare z) found got)) turn ≡ turn
    seize-on found got waits = which z.at waits
      where
        which : (x : SeizeAt) → is_waits (seizes.turn_at (seizes.bare_at x) found) ≡ true → Goes (seizes.next_at z.who z.frame (seizes.bare_at x) found got)
        which (seize_at.Grab g) waits = grabbed (grabs.next g found) (grabs.answer (grabs.next g found))
        which (seize_at.Meet m) waits = met-on (meets.next (meets.bare m) found got) (meets.answer (meets.next (meets.bare m) found got))
        which seize_at.Look waits = absurd (both_ways true (sym waits) refl)
        which seize_at.Kernel waits = absurd (both_ways true (sym waits) refl)
        which seize_at.Already waits = absurd (both_ways true (sym waits) refl)
        which seize_at.Grabbed waits = absurd (both_ways true (sym waits) refl)
        which seize_at.Free waits = absurd (both_ways true (sym waits) refl)
        which (seize_at.Owned page body) waits = absurd (both_ways true (sym waits) refl)

  take-ends : (page : Page) (body : BodyValue) (t : Take) (w : Words) → cost_at (after_take who frame page body t) w ≤ takes.cost t w + move_most
  take-ends page body t w = which t.at
    where
      which : (x : TakeAt) → cost_at (after_take who frame page body (record t { at = x })) w ≤ takes.cost (record t { at = x }) w + move_most
      which take_at.LoadAvailable = omega arith
      which (take_at.Reserve seen) = omega arith
      which (take_at.LoadFree number) = omega arith
      which (take_at.TakeBit to) = omega arith
      which (take_at.Adopt to) = omega arith
      which (take_at.Retire to) = omega arith
      which (take_at.Over None) = omega arith
      which (take_at.Over (Some to)) = omega arith

  release-ends : (page : Page) (body : BodyValue) (r : Release) (w : Words) → cost_at (after_release who frame page body r) w ≤ releases.cost r w + 5
  release-ends page body r w = which r.at
    where
      which : (x : ReleaseAt) → cost_at (after_release who frame page body (record r { at = x })) w ≤ releases.cost_at x + 5
      which release_at.Put = omega arith
      which (release_at.Give word) = omega arith
      which (release_at.Unreserve word) = omega arith
      which (release_at.Adopt word) = omega arith
      which (release_at.Retire word) = omega arith
      which (release_at.Back word) = omega arith

discard-ends : (d : Discard) (w : Words) → cost_at (after_discard d) w ≤ discards.cost d w
discard-ends d w = which d.at
  where
    which : (x : DiscardAt) → cost_at (after_discard (record d { at = x })) w ≤ discards.cost_at x w
    which (discard_at.Poison used) = omega arith
    which (discard_at.Count cycle) = omega arith
    which (discard_at.Retire cycle) = omega arith
    which (discard_at.Unlock u) = omega arith
    which (discard_at.Over None) = omega arith
    which (discard_at.Over (Some cycle)) = omega arith

discard-claims : (frame : Frame) (d : Discard) → claims_at frame (after_discard d) ≡ discards.claims d
discard-claims frame d = which d.at
  where
    which : (x : DiscardAt) → claims_at frame (after_discard (record d { at = x })) ≡ discards.claims_at d.frame x
    which (discard_at.Poison used) = refl
    which (discard_at.Count cycle) = refl
    which (discard_at.Retire cycle) = refl
    which (discard_at.Unlock u) = refl
    which (discard_at.Over None) = refl
    which (discard_at.Over (Some cycle)) = refl

relocate-ends : (r : Relocate) (answer : SoftAnswer) (w : Words) → cost_at (after_relocate r answer) w ≤ relocations.cost r w
relocate-ends r answer w = by (is_none (relocations.plan r))
  where
    by : (b : Bool) → cost_at (cond b (at.Over answer) (at.Relocate r answer)) w ≤ relocations.cost r w
    by true = omega arith
    by false = omega arith

unhold-ends : (u : Unhold) (answer : SoftAnswer) (w : Words) → cost_at (after_unhold u answer) w ≤ unholds.cost u w
unhold-ends u answer w = by (is_none (unholds.plan u))
  where
    by : (b : Bool) → cost_at (cond b (at.Over answer) (at.Unhold u answer)) w ≤ unholds.cost u w
    by true = omega arith
    by false = omega arith

-- ---- turns that wait

-- an answer doesn't wait
ended-waits : (y : SoftAt) (turn : Turn) → is_waits (ended y turn) ≡ true → is_waits turn ≡ true
ended-waits (at.Over answer) turn waits = absurd (both_ways true (sym waits) refl)
ended-waits at.LoadStop turn waits = waits
ended-waits (at.Seize z) turn waits = waits
ended-waits (at.Discard d) turn waits = waits
ended-waits (at.LoadBad page body) turn waits = waits
ended-waits (at.Take page body t) turn waits = waits
ended-waits (at.Poison page body to) turn waits = waits
ended-waits (at.UnlockSpare page body to) turn waits = waits
ended-waits (at.ReleaseSpare page body r) turn waits = waits
ended-waits (at.Relocate r answer) turn waits = waits
ended-waits (at.Unhold u answer) turn waits = waits
ended-waits (at.GiveUp g) turn waits = waits

never : {turned : Turn} (y : SoftAt) → turned ≡ ended y Moved → is_waits turned ≡ true → ⊥
never y is waits = both_ways true (sym (ended-waits y Moved (sym (ap is_waits is) ∙ waits))) refl

-- ---- what is claimed while the page moves

-- the failure is the command's until the old frame is out of use
module _ (frame : Frame) (r : Relocate) (to : Frame) (place : At) (cycle : ℕ) where
  abbrev claimed : RelocateAt → Option (Frame × ℕ)
  claimed y = claims_at frame (after_relocate (record r { at = y }) (answers.Moved to place cycle))

  abbrev Claims : RelocateAt → Type 0
  Claims y = claims_at frame (after_relocate (record r { at = y }) (answers.Moved to place cycle)) ≡ Some (frame, cycle)

  remapped : (m : Remap) → Claims (relocations.after_remap m)
  remapped m = which m.next
    where
      which : (n : Option VSlot) → Claims (relocations.after_remap (record m { next = n }))
      which None = refl
      which (Some slot) = refl

  referred : (f : Refer) (z : ReferAt) (y : RelocateAt) → relocations.AfterReferAt r.transfer r.maps (record f { at = z }) z y → Claims y
  referred f refer_at.Load y is = ap claimed is
  referred f (refer_at.Get seen) y is = ap claimed is
  referred f refer_at.Over y is = ap claimed is.next_is ∙ remapped is.remap

  released : (l : Release) → Claims (relocations.after_release l)
  released l = which l.at
    where
      which : (x : ReleaseAt) → Claims (relocations.after_release (record l { at = x }))
      which release_at.Put = refl
      which (release_at.Give word) = refl
      which (release_at.Unreserve word) = refl
      which (release_at.Adopt word) = refl
      which (release_at.Retire word) = refl
      which (release_at.Back word) = refl

-- ---- each turn

module _ {layout : Layout} {seat : ℕ} {a b : State} {s t : Soft} {turned : Turn} (made : Made soft-task layout seat a b s t turned) where
  abbrev w : Words
  w = words_at layout a

  abbrev now : Words
  now = words_at layout b

  abbrev Moves-by : Option BodyValue → Type 0
  Moves-by given = Move layout seat (rec_of layout s.who made.step (logs given) made.found made.got) a b

  abbrev next-seize : Seize → Seize
  next-seize z = seizes.next (seizes.bare z) made.found made.got

  abbrev next-discard : Discard → Discard
  next-discard d = discards.next (discards.bare d) made.found

  seize-made : (z : Seize) → IsSeizing layout (view_of a seat) s.who s.frame z → seizes.plan z ≡ Some made.step → Moves-by (seizes.put z) → Made seizes.task layout seat a b z (next-seize z) (seizes.turn (seizes.bare z) made.found)
  seize-made z has e move = record {
    step = made.step;
    found = made.found;
    got = made.got;
    rule = made.rule;
    kept = made.kept;
    fits = has.seize;
    planned = e;
    move = subst (λ (x : Who). Move layout seat (rec_of layout x made.step (logs (seizes.put z)) made.found made.got) a b) (sym has.own) move;
    brings = made.brings;
    follows = (refl, refl);
  }

  discard-made : (d : Discard) → IsDiscarding layout (view_of a seat) s.who s.frame d → discards.plan d ≡ Some made.step → Moves-by (discards.put d) → Made discards.task layout seat a b d (next-discard d) Moved
  discard-made d has e move = record {
    step = made.step;
    found = made.found;
    got = made.got;
    rule = made.rule;
    kept = made.kept;
    fits = has.discard;
    planned = e;
    move = subst (λ (x : Who). Move layout seat (rec_of layout x made.step (logs (discards.put d)) made.found made.got) a b) (sym has.own) move;
    brings = made.brings;
    follows = (refl, refl);
  }

  -- ---- a turn that doesn't wait

  below : {y : SoftAt} (x : SoftAt) (n : ℕ) → y ≡ x → cost_at x now < n → cost_at y now < n
  below x n is less = subst (λ (z : SoftAt). cost_at z now < n) (sym is) less

  -- the turn of a part, where the command's doesn't wait
  part-goes : (turn : Turn) (y : SoftAt) → (is_waits turn ≡ true → ended y turn ≡ turn) → turned ≡ ended y turn → is_waits turned ≡ false → is_waits turn ≡ false
  part-goes turn y on is goes = which (is_waits turn) refl
    where
      which : (b : Bool) → is_waits turn ≡ b → is_waits turn ≡ false
      which true waits = absurd (both_ways true (sym waits ∙ ap is_waits (sym (on waits)) ∙ ap is_waits (sym is) ∙ goes) refl)
      which false none = none

  stopped : (c : Bool) → cost_at (cond c (at.Over answers.Stopped) (at.Seize (seizes.begin s.who s.frame))) now < (seized_most + 10)
  stopped true = omega arith
  stopped false = omega arith

  few-words : length now.frees ≤ free_room
  few-words = let all : length now.frees ≡ free_words layout = frees-length layout b made.kept in let most : layout.frames ≤ frame_limit = made.kept.sound.frames in omega (arith, all, most)

  bad-less : (page : Page) (body : BodyValue) (y : SoftAt) (c : Bool) → MatchBool c ((y ≡ given_up s.who s.frame page body) ⊎ TakesOne s.who page body y) (y ≡ let_go s.who s.frame page body (answers.HasBad (record { 0 = made.found }))) → cost_at y now < seized_most
  bad-less page body y true (inl is) = below (given_up s.who s.frame page body) seized_most is (omega arith)
  bad-less page body y true (inr is) = subst (λ (z : SoftAt). cost_at z now < seized_most) (sym is.next_is) (let few : length now.frees ≤ free_room = few-words in omega (arith, few))
  bad-less page body y false is = below (let_go s.who s.frame page body (answers.HasBad (record { 0 = made.found }))) seized_most is (omega arith)

  poison-less : (page : Page) (body : BodyValue) (to : Frame) (y : SoftAt) (c : Bool) → MatchBool c (y ≡ at.UnlockSpare page body to) (Moves s.who s.frame page body to (cycle_of made.found) y) → cost_at y now < move_most
  poison-less page body to y true is = below (at.UnlockSpare page body to) move_most is (omega arith)
  poison-less page body to y false is = subst (λ (z : SoftAt). cost_at z now < move_most) (sym is.next_is) (subst (λ (r : Relocate). relocations.cost r now < move_most) (sym is.begun.is) (omega arith))

  abbrev Falls : SoftAt → SoftAt → Type 0
  Falls x y = (cost_at y now < cost_at x w) ⊎ (failures_left now < failures_left w)

  take-lowers : (page : Page) (body : BodyValue) (p : Take) (y : SoftAt) → y ≡ after_take s.who s.frame page body (takes.next layout p made.found)
      → (takes.cost (takes.next layout p made.found) (words_then layout a made.step made.found) < takes.cost p w) ⊎ taking.Retires made.step → Falls (at.Take page body p) y
  take-lowers page body p y is (inl falls) =
      let less : takes.cost (takes.next layout p made.found) now < takes.cost p w = subst (λ (x : Words). takes.cost (takes.next layout p made.found) x < takes.cost p w) (sym (words-after made)) falls in
      let ends : cost_at (after_take s.who s.frame page body (takes.next layout p made.found)) now ≤ takes.cost (takes.next layout p made.found) now + move_most = take-ends s.who s.frame page body (takes.next layout p made.found) now in
      inl (below (after_take s.who s.frame page body (takes.next layout p made.found)) (takes.cost p w + move_most) is (omega (arith, less, ends)))
  take-lowers page body p y is (inr retires) = inr (retire-fails made retires.0 retires.1)

  falls-at : (x : SoftAt) → FitsAt made.fits.0 layout (view_of a seat) s.who s.frame x → plan_at s.frame x ≡ Some made.step → Moves-by (put_at x) → ShowsAt (bare_at x) made.found made.got → FollowsAt layout s.who s.frame (bare_at x) made.found made.got t.at turned → is_waits turned ≡ false → Falls x t.at
  falls-at at.LoadStop has e move shows follows goes = inl (below (cond (is_stopped made.found) (at.Over answers.Stopped) (at.Seize (seizes.begin s.who s.frame))) (seized_most + 10) follows.0 (stopped (is_stopped made.found)))
  falls-at (at.Seize z) has e move shows follows goes =
      let less : seizes.cost_with seized_most (next-seize z).at now < seizes.cost_with seized_most z.at w
      = seize-falls (seize-made z has.0 e move) seized_most (omega arith) (part-goes (seizes.turn (seizes.bare z) made.found) (after_seize s.who s.frame (next-seize z)) (λ waits. seize-on s.who s.frame z (seizes.turn (seizes.bare z) made.found) made.found made.got waits) follows.1 goes) in
      let ends : cost_at (after_seize s.who s.frame (next-seize z)) now ≤ seizes.cost_with seized_most (next-seize z).at now = seize-ends s.who s.frame (next-seize z) now in
      inl (below (after_seize s.who s.frame (next-seize z)) (seizes.cost_with seized_most z.at w) follows.0 (omega (arith, less, ends)))
  falls-at (at.Discard d) has e move shows follows goes =
      let less : discards.cost (next-discard d) now < discards.cost d w = discard-falls w now d made.step made.found e in
      let ends : cost_at (after_discard (next-discard d)) now ≤ discards.cost (next-discard d) now = discard-ends (next-discard d) now in
      inl (below (after_discard (next-discard d)) (discards.cost d w) follows.0 (omega (arith, less, ends)))
  falls-at (at.LoadBad page body) has e move shows follows goes = inl (bad-less page body t.at (made.found == 0) follows.0)
  falls-at (at.Take page body p) has e move shows follows goes = take-lowers page body p t.at follows.0 (taking.falls layout a seat (view_of a seat) made.found p made.step (is-met made) has.take e)
  falls-at (at.Poison page body to) has e move shows follows goes = inl (poison-less page body to t.at (is_poisoned made.found) follows.0)
  falls-at (at.UnlockSpare page body to) has e move shows follows goes = inl (below (at.ReleaseSpare page body (releases.begin s.who to 1)) 9 follows.0 (omega arith))
  falls-at (at.ReleaseSpare page body r) has e move shows follows goes =
      let less : releases.cost (releases.next r made.found) now < releases.cost r w = release-falls w now r made.step made.found e in
      let ends : cost_at (after_release s.who s.frame page body (releases.next r made.found)) now ≤ releases.cost (releases.next r made.found) now + 5 = release-ends s.who s.frame page body (releases.next r made.found) now in
      inl (below (after_release s.who s.frame page body (releases.next r made.found)) (releases.cost r w + 5) follows.0 (omega (arith, less, ends)))
  falls-at (at.Relocate r answer) has e move shows follows goes =
      let less : relocations.cost follows.after now < relocations.cost r w = relocate-falls w now r made.step made.found follows.after follows.own_turn e shows follows.follows (met made) (words-kept made) in
      let ends : cost_at (after_relocate follows.after answer) now ≤ relocations.cost follows.after now = relocate-ends follows.after answer now in
      inl (below (after_relocate follows.after answer) (relocations.cost r w) follows.next_is (omega (arith, less, ends)))
  falls-at (at.Unhold u answer) has e move shows follows goes =
      let less : unholds.cost (unholds.next (unholds.bare u) made.found) now < unholds.cost u w = unhold-falls w now u made.step made.found e in
      let ends : cost_at (after_unhold (unholds.next (unholds.bare u) made.found) answer) now ≤ unholds.cost (unholds.next (unholds.bare u) made.found) now = unhold-ends (unholds.next (unholds.bare u) made.found) answer now in
      inl (below (after_unhold (unholds.next (unholds.bare u) made.found) answer) (unholds.cost u w) follows.0 (omega (arith, less, ends)))
  falls-at (at.GiveUp g) has e move shows follows goes = inl (below (at.GiveUp (give_ups.next (give_ups.bare g) made.found)) (give_ups.cost g w) follows.0 (give-up-falls w now g made.step made.found e))
  falls-at (at.Over answer) has e move shows follows goes = absurd (none-some made.step e)

  soft-falls : is_waits turned ≡ false → Falls s.at t.at
  soft-falls goes = falls-at s.at made.fits.1.at made.planned made.move (both layout (view_of a seat) _ s made.step made.found made.got made.fits.1 made.planned (steps-on made)).0 made.follows.1 goes

  -- ---- a turn that waits

  abbrev Waits : SoftAt → SoftAt → Type 0
  Waits x y = (cost_at y now < cost_at x w) ⊎ ((aborts_at y ≡ true) × OtherHand a seat)

  waits-at : (x : SoftAt) → FitsAt made.fits.0 layout (view_of a seat) s.who s.frame x → plan_at s.frame x ≡ Some made.step → Moves-by (put_at x) → FollowsAt layout s.who s.frame (bare_at x) made.found made.got t.at turned → is_waits turned ≡ true → Quiet (class_at x) layout a seat → Waits x t.at
  waits-at at.LoadStop has e move follows waits quiet = absurd (never (cond (is_stopped made.found) (at.Over answers.Stopped) (at.Seize (seizes.begin s.who s.frame))) follows.1 waits)
  waits-at (at.Seize z) has e move follows waits quiet =
      let ends : cost_at (after_seize s.who s.frame (next-seize z)) now ≤ seizes.cost_with seized_most (next-seize z).at now = seize-ends s.who s.frame (next-seize z) now in
      elim (seize-waits (seize-made z has.0 e move) seized_most (omega arith) (ended-waits (after_seize s.who s.frame (next-seize z)) (seizes.turn (seizes.bare z) made.found) (sym (ap is_waits follows.1) ∙ waits)) quiet) [
        | inl less ↦ inl (below (after_seize s.who s.frame (next-seize z)) (seizes.cost_with seized_most z.at w) follows.0 (let lower : seizes.cost_with seized_most (next-seize z).at now < seizes.cost_with seized_most z.at w = less in omega (arith, lower, ends)))
        | inr gives ↦ inr (ap aborts_at follows.0 ∙ seize-aborts s.who s.frame (next-seize z) gives.0, gives.1)
      ]
  waits-at (at.Discard d) has e move follows waits quiet = absurd (never (after_discard (next-discard d)) follows.1 waits)
  waits-at (at.LoadBad page body) has e move follows waits quiet = absurd (both_ways true (sym waits ∙ ap is_waits follows.1) refl)
  waits-at (at.Take page body p) has e move follows waits quiet = absurd (both_ways true (sym waits ∙ ap is_waits follows.1 ∙ taking.goes-on p made.found) refl)
  waits-at (at.Poison page body to) has e move follows waits quiet = absurd (both_ways true (sym waits ∙ ap is_waits follows.1) refl)
  waits-at (at.UnlockSpare page body to) has e move follows waits quiet = absurd (both_ways true (sym waits ∙ ap is_waits follows.1) refl)
  waits-at (at.ReleaseSpare page body r) has e move follows waits quiet = absurd (both_ways true (sym waits ∙ ap is_waits follows.1) refl)
  waits-at (at.Relocate r answer) has e move follows waits quiet = absurd (both_ways true (sym (ended-waits (after_relocate follows.after answer) follows.own_turn (sym (ap is_waits follows.turn_is) ∙ waits)) ∙ relocate-goes r made.found follows.after follows.own_turn follows.follows) refl)
  waits-at (at.Unhold u answer) has e move follows waits quiet = absurd (never (after_unhold (unholds.next (unholds.bare u) made.found) answer) follows.1 waits)
  waits-at (at.GiveUp g) has e move follows waits quiet = absurd (both_ways true (sym waits ∙ ap is_waits follows.1 ∙ give-up-goes (give_ups.bare g)) refl)
  waits-at (at.Over answer) has e move follows waits quiet = absurd (none-some made.step e)

  soft-waits : is_waits turned ≡ true → Quiet (class s) layout a seat → Waits s.at t.at
  soft-waits waits quiet = waits-at s.at made.fits.1.at made.planned made.move made.follows.1 waits quiet

  -- ---- a turn that gives the frame's reservation back

  soft-leaves : aborts s ≡ true → 1 < class t
  soft-leaves gives = which s.at made.follows.1 gives
    where
      which : (x : SoftAt) → FollowsAt layout s.who s.frame (bare_at x) made.found made.got t.at turned → aborts_at x ≡ true → 1 < class_at t.at
      which (at.Seize z) follows is = let four : class_at t.at ≡ 4 = ap class_at follows.0 ∙ seize-ahead s.who s.frame (next-seize z) (seize-leaves z made.found made.got is) in omega (arith, four)
      which at.LoadStop follows is = absurd (both_ways true (sym is) refl)
      which (at.Discard d) follows is = absurd (both_ways true (sym is) refl)
      which (at.LoadBad page body) follows is = absurd (both_ways true (sym is) refl)
      which (at.Take page body p) follows is = absurd (both_ways true (sym is) refl)
      which (at.Poison page body to) follows is = absurd (both_ways true (sym is) refl)
      which (at.UnlockSpare page body to) follows is = absurd (both_ways true (sym is) refl)
      which (at.ReleaseSpare page body r) follows is = absurd (both_ways true (sym is) refl)
      which (at.Relocate r answer) follows is = absurd (both_ways true (sym is) refl)
      which (at.Unhold u answer) follows is = absurd (both_ways true (sym is) refl)
      which (at.GiveUp g) follows is = absurd (both_ways true (sym is) refl)
      which (at.Over answer) follows is = absurd (both_ways true (sym is) refl)

  -- ---- the claim

  mild-planned : {other : Step} → Some other ≡ Some made.step → IsMild other → IsMild made.step
  mild-planned {other} e mild = subst IsMild (same_Some other made.step e) mild

  module _ (r : Relocate) (to : Frame) (place : At) (cycle : ℕ) where
    abbrev claimed-now : RelocateAt → Option (Frame × ℕ)
    claimed-now y = claimed s.frame (relocations.bare r) to place cycle y

    abbrev Kept : RelocateAt → RelocateAt → Type 0
    Kept x y = Keeps w now (claim_of s.frame (answers.Moved to place cycle) x) (claimed-now y)

    same-claim : (y : RelocateAt) → claimed-now y ≡ Some (s.frame, cycle) → Keeps w now (Some (s.frame, cycle)) (claimed-now y)
    same-claim y is = inr (inl (sym is))

    -- the old frame is retired once all is moved
    relocate-keeps : relocating.FitsFrom made.fits.0 layout (view_of a seat) r → r.transfer.from ≡ s.frame → relocations.plan r ≡ Some made.step → (y : RelocateAt) (turn : Turn) → relocations.FollowsAt r.transfer r.maps r.at made.found y turn → Kept r.at y
    relocate-keeps fits frame_is e y turn follows = which r.at fits.at e follows
      where
        which : (x : RelocateAt) → relocating.FitsAt made.fits.0 layout (view_of a seat) r.transfer r.maps r.done r.body x → relocations.plan_at r.transfer x ≡ Some made.step → relocations.FollowsAt r.transfer r.maps x made.found y turn → Kept x y
        which relocate_at.Count has e f = same-claim y (ap claimed-now f.0)
        which relocate_at.SetOwner has e f = same-claim y (ap claimed-now f.0)
        which (relocate_at.Refer g) has e f = same-claim y (referred s.frame (relocations.bare r) to place cycle (refers.next g made.found) (refers.next g made.found).at y f.0)
        which (relocate_at.Remap m) has e f = same-claim y (ap claimed-now f.0.next_is ∙ remapped s.frame (relocations.bare r) to place cycle f.0.after)
        which relocate_at.SetCache has e f = same-claim y (ap claimed-now f.0)
        which relocate_at.ClearOwner has e f = same-claim y (ap claimed-now f.0)
        which relocate_at.UnlockFrame has e f = same-claim y (ap claimed-now f.0)
        which (relocate_at.Release l) has e f = same-claim y (ap claimed-now f.0 ∙ released s.frame (relocations.bare r) to place cycle (releases.next l made.found))
        which relocate_at.PutRef has e f = same-claim y (ap claimed-now f.0)
        which relocate_at.Retire has e f = drops-now w now (claimed-now y) s.frame cycle
            (retired made s.frame made.fits.1.frame (ap (λ (g : Frame). Some (steps.Retire g)) (sym frame_is) ∙ e) (old_lock r.transfer.from 0) frame_is refl (ap (λ (h : Hand). slice_get h.locks 0) has.0) cycle)
        which relocate_at.UnlockPage has e f = inl refl
        which relocate_at.Over has e f = inl refl

  module _ (frame : Frame) (cycle : ℕ) (pending : Pending now frame cycle) where
    abbrev Owns : Option (Frame × ℕ) → Option (Frame × ℕ) → Type 0
    Owns old new = (new ≡ Some (frame, cycle)) ⊎ (Pending w frame cycle × (old ≢ Some (frame, cycle)))

    kept : (old new : Option (Frame × ℕ)) → IsMild made.step → Keeps w now old new → Owns old new
    kept old new mild keeps = owned-by w now old new frame cycle keeps (pending-kept made mild frame cycle pending) pending

    poisoned : (page : Page) (body : BodyValue) (to : Frame) → MatchBool (is_poisoned made.found) (t.at ≡ at.UnlockSpare page body to) (Moves s.who s.frame page body to (cycle_of made.found) t.at) → Some (steps.Poison s.frame false) ≡ Some made.step → Owns None (claims_at s.frame t.at)
    poisoned page body to follows e = elim (poison-owns made s.frame false made.fits.1.frame e frame cycle pending) [
      | inl own ↦
          let moves : Moves s.who s.frame page body to (cycle_of made.found) t.at = subst (λ (c : Bool). MatchBool c (t.at ≡ at.UnlockSpare page body to) (Moves s.who s.frame page body to (cycle_of made.found) t.at)) own.0 follows in
          inl (ap (claims_at s.frame) moves.next_is ∙ ap (λ (r : Relocate). claim_of s.frame (answers.Moved to (record { page = page; entry = length body.log }) (cycle_of made.found)) r.at) moves.begun.is ∙ own.1)
      | inr before ↦ inr (before, λ is. none-some (frame, cycle) is)
    ]

    relocates : (r : Relocate) (answer : SoftAnswer) (x : SoftAt) → IsRelocating made.fits.0 layout (view_of a seat) s.who s.frame r answer → relocations.plan r ≡ Some made.step → (after : Relocate) (turn : Turn) → relocations.Follows (relocations.bare r) made.found after turn → x ≡ after_relocate after answer
        → Owns (claim_of s.frame answer r.at) (claims_at s.frame x)
    relocates r answer x has e after turn follows is = subst (λ (n : Option (Frame × ℕ)). Owns (claim_of s.frame answer r.at) n) (sym (ap (claims_at s.frame) is ∙ ap (λ (z : Relocate). claims_at s.frame (after_relocate z answer)) follows.0)) (kept (claim_of s.frame answer r.at) (claims_at s.frame (after_relocate (record (relocations.bare r) { at = after.at }) answer)) (relocate-mild r made.step e)
        (subst (λ (d : SoftAnswer). Keeps w now (claim_of s.frame d r.at) (claims_at s.frame (after_relocate (record (relocations.bare r) { at = after.at }) d))) (sym has.answer_is)
        (relocate-keeps r r.transfer.to r.done has.cycle has.relocate has.frame_is e after.at turn follows.1)))

    owns-at : (x : SoftAt) → FitsAt made.fits.0 layout (view_of a seat) s.who s.frame x → plan_at s.frame x ≡ Some made.step → Moves-by (put_at x) → FollowsAt layout s.who s.frame (bare_at x) made.found made.got t.at turned → Owns (claims_at s.frame x) (claims_at s.frame t.at)
    owns-at at.LoadStop has e move follows = kept None (claims_at s.frame t.at) (mild-planned e tt) (inl refl)
    owns-at (at.Seize z) has e move follows = kept None (claims_at s.frame t.at) (seize-mild z made.step e) (inl refl)
    owns-at (at.Discard d) has e move follows = subst (λ (n : Option (Frame × ℕ)). Owns (discards.claims d) n) (sym (ap (claims_at s.frame) follows.0 ∙ discard-claims s.frame (next-discard d))) (discard-owns (discard-made d has.0 e move) frame cycle pending)
    owns-at (at.LoadBad page body) has e move follows = kept None (claims_at s.frame t.at) (mild-planned e tt) (inl refl)
    owns-at (at.Take page body p) has e move follows = kept None (claims_at s.frame t.at) (taking.mild p made.step e) (inl refl)
    owns-at (at.Poison page body to) has e move follows = poisoned page body to follows.0 e
    owns-at (at.UnlockSpare page body to) has e move follows = kept None (claims_at s.frame t.at) (mild-planned e tt) (inl refl)
    owns-at (at.ReleaseSpare page body r) has e move follows = kept None (claims_at s.frame t.at) (release-mild r made.step e) (inl refl)
    owns-at (at.Relocate r answer) has e move follows = relocates r answer t.at has e follows.after follows.own_turn follows.follows follows.next_is
    owns-at (at.Unhold u answer) has e move follows = kept None (claims_at s.frame t.at) (unhold-mild u made.step e) (inl refl)
    owns-at (at.GiveUp g) has e move follows = kept None (claims_at s.frame t.at) (give-up-mild g made.step e) (inl refl)
    owns-at (at.Over answer) has e move follows = absurd (none-some made.step e)

    soft-owns : (claims t ≡ Some (frame, cycle)) ⊎ (Pending w frame cycle × (claims s ≢ Some (frame, cycle)))
    soft-owns = subst (λ (f : Frame). (claims_at f t.at ≡ Some (frame, cycle)) ⊎ (Pending w frame cycle × (claims s ≢ Some (frame, cycle)))) (sym (ap (λ (x : Soft). x.frame) made.follows.0)) (owns-at s.at made.fits.1.at made.planned made.move made.follows.1)

-- ---- classes and bounds

soft-class : (s : Soft) → (1 ≤ class s) × (class s ≤ 4)
soft-class s = which s.at
  where
    which : (x : SoftAt) → (1 ≤ class_at x) × (class_at x ≤ 4)
    which at.LoadStop = (omega arith, omega arith)
    which (at.Seize z) = seize-class z
    which (at.Discard d) = discard-class d
    which (at.LoadBad page body) = (omega arith, omega arith)
    which (at.Take page body p) = (omega arith, omega arith)
    which (at.Poison page body to) = (omega arith, omega arith)
    which (at.UnlockSpare page body to) = (omega arith, omega arith)
    which (at.ReleaseSpare page body r) = (omega arith, omega arith)
    which (at.Relocate r answer) = relocate-class r
    which (at.Unhold u answer) = unhold-class u
    which (at.GiveUp g) = give-up-ranked.classes g
    which (at.Over answer) = (omega arith, omega arith)

pub soft-small : (layout : Layout) (a : State) (s : Soft) → Holds layout a → cost s (words_at layout a) ≤ soft_most
soft-small layout a s rule = which s.at
  where
    which : (x : SoftAt) → cost_at x (words_at layout a) ≤ soft_most
    which at.LoadStop = omega arith
    which (at.Seize z) = let few : seizes.cost_with seized_most z.at (words_at layout a) ≤ seized_most + seized_most + seizes.seize_most = seize-small seized_most z.at (words_at layout a) in omega (arith, few)
    which (at.Discard d) = let few : discards.cost d (words_at layout a) ≤ 5 = discard-small (words_at layout a) d in omega (arith, few)
    which (at.LoadBad page body) = omega arith
    which (at.Take page body p) = let few : takes.cost p (words_at layout a) ≤ take_most = taking.small layout a p rule in omega (arith, few)
    which (at.Poison page body to) = omega arith
    which (at.UnlockSpare page body to) = omega arith
    which (at.ReleaseSpare page body r) = let few : releases.cost r (words_at layout a) ≤ 3 = release-small (words_at layout a) r in omega (arith, few)
    which (at.Relocate r answer) = let few : relocations.cost r (words_at layout a) ≤ relocations.relocate_most = relocate-small (words_at layout a) r in omega (arith, few)
    which (at.Unhold u answer) = let few : unholds.cost u (words_at layout a) ≤ 5 = unhold-small (words_at layout a) u in omega (arith, few)
    which (at.GiveUp g) = let few : give_ups.cost g (words_at layout a) ≤ 6 = give-up-small (words_at layout a) g in omega (arith, few)
    which (at.Over answer) = omega arith

pub soft-ranked : IsRanked soft-task
soft-ranked = record {
  classes = soft-class;
  small = λ layout a seat s rule fits. let few : cost s (words_at layout a) ≤ soft_most = soft-small layout a s rule in omega (arith, few);
  falls = λ layout seat a b s t turn made goes. elim (soft-falls made goes) [
    | inl less ↦ inl less
    | inr fails ↦ inr (failed fails (let few : cost t (words_at layout b) ≤ soft_most = soft-small layout b t made.kept in omega (arith, few)))
  ];
  waits = λ layout seat a b s t turn made is quiet. soft-waits made is quiet;
  leaves = λ layout seat a b s t turn made gives. inr (soft-leaves made gives);
  owns = λ layout seat a b s t turn frame cycle made going pending. soft-owns made frame cycle pending;
}
