-- Each turn of a `Meet` lowers its cost.
use Rattle.std.proofs.Common.{◌≡◌, ℕ, ◌+◌, ◌*◌, ◌%◌, ◌^◌, ◌<◌, ◌≤◌, ◌==◌, ◌||◌, min, Bool, true, false, not, cond, Option, Some, None, is_some, slice_get, slice_index, refl, sym, ap, ◌∙◌, subst, arith}
use Rattle.std.proofs.lemmas.Bool.{both_ways, eqb-true}
use Rattle.std.proofs.lemmas.Option.{get_or_from_slice_get, none-some, same_Some}
use Rattle.hwp_core.specs.hwp_geom.declared.Frame.{Frame}
use Rattle.hwp_core.specs.hwp_geom.declared.Layout.{Layout}
use Rattle.hwp_core.specs.hwp_geom.declared.Page.{Page}
use Rattle.hwp_core.specs.hwp_geom.declared.Who.{Who}
use Rattle.hwp_core.specs.hwp_page.History.{BodyValue}
use Rattle.hwp_core.specs.hwp_words.Frames.{count_of, cycle_of, handled_of, is_handled, kernel_of, lock_of, owner_of, poison_of}
use Rattle.hwp_core.specs.hwp_words.Names.{page_named}
use Rattle.hwp_core.proofs.of_hwp_words.FrameSteps.{FieldsAre, fields-get_ref}
use Rattle.hwp_core.specs.hwp_core_rule.declared.SharedWord.TheVariants as places
use Rattle.hwp_core.specs.hwp_core_rule.declared.State.{State}
use Rattle.hwp_core.specs.hwp_core_rule.declared.Step.{Step}
use Rattle.hwp_core.specs.hwp_core_rule.declared.Step.TheVariants as steps
use Rattle.hwp_core.specs.hwp_core_rule.Moves.{Move}
use Rattle.hwp_core.specs.hwp_core_rule.Rule.{Holds}
use Rattle.hwp_core.specs.hwp_core_rule.Steps.{place_of, word_after}
use Rattle.hwp_core.specs.hwp_core_rule.Words.{Words, index, put, words_of}
use Rattle.hwp_core.proofs.of_hwp_core_rule.Lists.{same-number, set_here}
use Rattle.hwp_core.specs.hwp_core_rule.Lasting.{IsMild}
use Rattle.hwp_core.proofs.of_hwp_core_rule.MetWords.{frame-free, frame-word, held-word, page-free}
use Rattle.hwp_core.proofs.of_hwp_core_rule.MoveKeeps.{shaped}
use Rattle.hwp_core.proofs.of_hwp_core_rule.bounds.RefBounds.{count-fits}
use Rattle.hwp_core.specs.hwp_core_rule.declared.Turn.{Turn}
use Rattle.hwp_core.specs.hwp_core_rule.declared.Turn.TheVariants.{Moved, Changed, Waits}
use Rattle.hwp_core.specs.hwp_core_rule.Boards.{view_of}
use Rattle.hwp_core.specs.hwp_core_rule.Calls.{logs, rec_of}
use Rattle.hwp_core.specs.hwp_core_rule.Hands.{Hand}
use Rattle.hwp_core.specs.hwp_core_rule.Ranks.{Made, IsRanked, Quiet, is_waits, stale, words_at, stale_weight}
use Rattle.hwp_core.specs.hwp_core_rule.Turns.{Member}
use Rattle.hwp_core.proofs.of_hwp_core_rule.tasks.StepRanks.{met, no-lock, no-page, rank-of, steps-on, words-after}
use Rattle.hwp_core.specs.declared.release.Release.{Release}
use Rattle.hwp_core.specs.declared.release.ReleaseAt.{ReleaseAt}
use Rattle.hwp_core.specs.declared.release.ReleaseAt.TheVariants as release_at
use Rattle.hwp_core.specs.Holds.{is_free}
use Rattle.hwp_core.specs.Releases as releases
use Rattle.hwp_core.proofs.TaskCosts.{met-own, release-class, release-falls, release-mild, release-small, stale-most}
use Rattle.hwp_claim_frame.specs.declared.meet.Meet.{Meet}
use Rattle.hwp_claim_frame.specs.declared.meet.MeetAt.{MeetAt}
use Rattle.hwp_claim_frame.specs.declared.meet.MeetAt.TheVariants as at
use Rattle.hwp_claim_frame.specs.Meets.{has_ended, is_owner, is_page, is_taken, owner_in, plan, plan_at, put as given, bare, bare_at, referenced, free_at, owned_at, released, next, next_at, ShowsAt, turn, turn_at, Fits, FitsAt, class, class_at, cost, cost_with, end_cost, word_in, task as meet-task, meet_most}
use Rattle.hwp_claim_frame.proofs.MeetLaws.{both, paged-locks}

released-cost : (rest again : ℕ) (frame : Frame) (ended : Bool) (r : Release) (w : Words) → cost_with rest again frame (released r ended) w ≡ end_cost rest again ended + releases.cost r w
released-cost rest again frame ended r w = which r.at
  where
    which : (x : ReleaseAt) → cost_with rest again frame (released (record r { at = x }) ended) w ≡ end_cost rest again ended + releases.cost_at x
    which release_at.Put = refl
    which (release_at.Give word) = refl
    which (release_at.Unreserve word) = refl
    which (release_at.Adopt word) = refl
    which (release_at.Retire word) = refl
    which (release_at.Back word) = omega arith

-- one reference more leaves the page in the frame, and whether it is handled
module _ (layout : Layout) (a : State) (h : Holds layout a) (frame : Frame) (inside : frame.0 < layout.frames) (found : ℕ) (fits : found < 2 ^ 64) (met-word : found ≡ slice_index a.words (index layout (places.Frame frame))) where
  there : slice_get (words_at layout a).frames frame.0 ≡ Some found
  there = frame-word layout a h frame found inside met-word

  one-more : FieldsAre ((found + 16) % 2 ^ 64) (lock_of found) (poison_of found) (handled_of found) (kernel_of found) (count_of found + 1) (owner_of found) (cycle_of found)
  one-more = fields-get_ref found 16 1 refl fits (count-fits layout (words_of layout a.words) a.homes a.views h.sound (shaped layout a h) h.rule h.held frame.0 found 1 there (omega arith))

  pub same-owner : owner_in ((found + 1 * 16) % 2 ^ 64) ≡ owner_in found
  same-owner = ap page_named one-more.owner

  pub same-handled : is_handled ((found + 1 * 16) % 2 ^ 64) ≡ is_handled found
  same-handled = ap (λ (n : ℕ). n == 1) one-more.handled

  pub set-word : (x : ℕ) → word_in frame (put (places.Frame frame) x (words_at layout a)) ≡ x
  set-word x = get_or_from_slice_get _ frame.0 x 0 (set_here (words_at layout a).frames frame.0 x found there)

-- the words after a step, and the word that it met
module _ {S : Type 0} {m : Member S} {layout : Layout} {seat : ℕ} {a b : State} {s t : S} {turn : Turn} (made : Made m layout seat a b s t turn) where
  pub after-is : {other : Step} → Some other ≡ Some made.step → words_at layout b ≡ put (place_of other) (word_after other made.found) (words_at layout a)
  after-is {other} e = words-after made ∙ ap (λ (x : Step). put (place_of x) (word_after x made.found) (words_at layout a)) (sym (same_Some other made.step e))

  pub met-at : {other : Step} → Some other ≡ Some made.step → made.found ≡ slice_index a.words (index layout (place_of other))
  met-at {other} e = made.move.met ∙ ap (λ (x : Step). slice_index a.words (index layout (place_of x))) (sym (same_Some other made.step e))

-- a step of a meeting that is a part of a task is one of the meeting itself
module _ {S : Type 0} {m : Member S} {layout : Layout} {seat : ℕ} {a b : State} {s t : S} {turned : Turn} (made : Made m layout seat a b s t turned) where
  pub meet-made : (x : Meet) (who : Who) → Fits layout (view_of a seat) x → x.who ≡ who → plan x ≡ Some made.step → Move layout seat (rec_of layout who made.step (logs (given x)) made.found made.got) a b
      → Made meet-task layout seat a b x (next (bare x) made.found made.got) (turn (bare x) made.found)
  meet-made x who fits own e move = record {
    step = made.step;
    found = made.found;
    got = made.got;
    rule = made.rule;
    kept = made.kept;
    fits = fits;
    planned = e;
    move = subst (λ (w : Who). Move layout seat (rec_of layout w made.step (logs (given x)) made.found made.got) a b) (sym own) move;
    brings = made.brings;
    follows = (refl, refl);
  }

module _ {layout : Layout} {seat : ℕ} {a b : State} {s t : Meet} {turn : Turn} (made : Made meet-task layout seat a b s t turn) where
  module _ (rest again : ℕ) (few : again ≤ rest + stale_weight) where
    -- the reference was got: the word is as it was, but for its count
    with-reference : (seen : ℕ) → Some (steps.GetRef s.frame seen 1) ≡ Some made.step → made.found ≡ seen → is_handled seen ≡ false → (o : Option Page) → owner_in seen ≡ o
        → cost_with rest again s.frame (referenced o) (words_at layout b) < rest + 8
    with-reference seen e same unhandled o owner = which o owner
      where
        word : word_in s.frame (words_at layout b) ≡ (made.found + 1 * 16) % 2 ^ 64
        word = ap (word_in s.frame) (after-is made e) ∙ set-word layout a made.rule s.frame made.fits.frame made.found made.move.fits (met-at made e) (word_after (steps.GetRef s.frame seen 1) made.found)
            ∙ ap (λ (c : Bool). cond c ((seen + 1 * 16) % 2 ^ 64) made.found) (same-number made.found seen same) ∙ ap (λ (n : ℕ). (n + 1 * 16) % 2 ^ 64) (sym same)

        owner-now : owner_in (word_in s.frame (words_at layout b)) ≡ owner_in seen
        owner-now = ap owner_in word ∙ same-owner layout a made.rule s.frame made.fits.frame made.found made.move.fits (met-at made e) ∙ ap owner_in same

        handled-now : is_handled (word_in s.frame (words_at layout b)) ≡ false
        handled-now = ap is_handled word ∙ same-handled layout a made.rule s.frame made.fits.frame made.found made.move.fits (met-at made e) ∙ ap is_handled same ∙ unhandled

        which : (o : Option Page) → owner_in seen ≡ o → cost_with rest again s.frame (referenced o) (words_at layout b) < rest + 8
        which None none =
            let free : stale (not (is_taken (word_in s.frame (words_at layout b)))) ≡ 0 = ap (λ (c : Bool). stale (not (c || is_some (owner_in (word_in s.frame (words_at layout b)))))) handled-now ∙ ap (λ (p : Option Page). stale (not (is_some p))) (owner-now ∙ none) in
            omega arith
        which (Some page) some =
            let owned : stale (is_owner page (word_in s.frame (words_at layout b))) ≡ 0 = ap (λ (p : Option Page). stale (is_page page p)) (owner-now ∙ some) ∙ ap stale (same-number page.0 page.0 refl) in
            omega arith

    free-cost : (e t : Bool) (w now : Words) → is_taken (word_in s.frame w) ≡ t → cost_with rest again s.frame (free_at made.got e t) now < rest + 5 + stale (not (is_taken (word_in s.frame w)))
    free-cost true t w now is = omega arith
    free-cost false true w now is = let costly : stale (not (is_taken (word_in s.frame w))) ≡ stale_weight = ap (λ (c : Bool). stale (not c)) is in omega (arith, few)
    free-cost false false w now is = omega arith

    owned-cost : (page : Page) (shelf got : Option BodyValue) (e o : Bool) (w now : Words) → is_owner page (word_in s.frame w) ≡ o → (e ≡ false → o ≡ true → is_some got ≡ true)
        → cost_with rest again s.frame (owned_at page shelf got e o) now < rest + 6 + stale (is_owner page (word_in s.frame w))
    owned-cost page shelf got true o w now is some = omega arith
    owned-cost page shelf got false false w now is some = let costly : stale (is_owner page (word_in s.frame w)) ≡ stale_weight = ap stale is in omega (arith, few)
    owned-cost page shelf (Some body) false true w now is some = omega arith
    owned-cost page shelf None false true w now is some = absurd (both_ways true (sym (some refl refl)) refl)

    falls-at : (x : MeetAt) → plan_at s.frame x ≡ Some made.step → FitsAt layout (view_of a seat) s.who s.frame s.cycle x → ShowsAt s.cycle (bare_at x) made.found made.got → is_waits (turn_at (bare_at x) made.found) ≡ false
        → cost_with rest again s.frame (next_at s.who s.frame s.cycle (bare_at x) made.found made.got) (words_at layout b) < cost_with rest again s.frame x (words_at layout a)
    falls-at (at.GetRef seen) e has shows goes = by (made.found == seen) refl
      where
        by : (c : Bool) → (made.found == seen) ≡ c → cost_with rest again s.frame (cond c (referenced (owner_in seen)) (at.Back false)) (words_at layout b) < rest + 8 + stale (word_in s.frame (words_at layout a) == seen)
        by true same = let less : cost_with rest again s.frame (referenced (owner_in seen)) (words_at layout b) < rest + 8 = with-reference seen e (eqb-true made.found seen same) has.1.unhandled (owner_in seen) refl in omega arith
        by false other =
            let shown : word_in s.frame (words_at layout a) ≡ made.found = met-own (words_at layout a) made.found e (met made) in
            let costly : stale (word_in s.frame (words_at layout a) == seen) ≡ stale_weight = ap (λ (n : ℕ). stale (n == seen)) shown ∙ ap stale other in
            omega (arith, few)
    falls-at at.LockFree e has shows goes = by (is_free made.found) goes
      where
        shown : word_in s.frame (words_at layout a) ≡ made.found
        shown = met-own (words_at layout a) made.found e (met made)

        by : (c : Bool) → is_waits (cond c Moved (Waits made.found)) ≡ false
            → cost_with rest again s.frame (cond c (free_at made.got (has_ended s.cycle made.found) (is_taken made.found)) at.LockFree) (words_at layout b) < rest + 5 + stale (not (is_taken (word_in s.frame (words_at layout a))))
        by true goes = free-cost (has_ended s.cycle made.found) (is_taken made.found) (words_at layout a) (words_at layout b) (ap is_taken shown)
        by false goes = absurd (both_ways true goes refl)
    falls-at (at.LockPage page) e has shows goes = by (is_free made.found) goes
      where
        same : word_in s.frame (words_at layout b) ≡ word_in s.frame (words_at layout a)
        same = ap (word_in s.frame) (after-is made e)

        by : (c : Bool) → is_waits (cond c Moved (Waits made.found)) ≡ false
            → cost_with rest again s.frame (cond c (at.LockOwned page made.got) (at.LockPage page)) (words_at layout b) < rest + 7 + stale (is_owner page (word_in s.frame (words_at layout a)))
        by true goes = let stays : stale (is_owner page (word_in s.frame (words_at layout b))) ≡ stale (is_owner page (word_in s.frame (words_at layout a))) = ap (λ (n : ℕ). stale (is_owner page n)) same in omega arith
        by false goes = absurd (both_ways true goes refl)
    falls-at (at.LockOwned page shelf) e has shows goes = by (is_free made.found) goes shows
      where
        shown : word_in s.frame (words_at layout a) ≡ made.found
        shown = met-own (words_at layout a) made.found e (met made)

        by : (c : Bool) → is_waits (cond c Moved (Waits made.found)) ≡ false → (c ≡ true → has_ended s.cycle made.found ≡ false → is_owner page made.found ≡ true → is_some made.got ≡ true)
            → cost_with rest again s.frame (cond c (owned_at page shelf made.got (has_ended s.cycle made.found) (is_owner page made.found)) (at.LockOwned page shelf)) (words_at layout b) < rest + 6 + stale (is_owner page (word_in s.frame (words_at layout a)))
        by true goes shows = owned-cost page shelf made.got (has_ended s.cycle made.found) (is_owner page made.found) (words_at layout a) (words_at layout b) (ap (is_owner page) shown) (shows refl)
        by false goes shows = absurd (both_ways true goes refl)
    falls-at (at.Unlock body ended) e has shows goes = omega arith
    falls-at (at.UnlockFrame page shelf body ended) e has shows goes = omega arith
    falls-at (at.UnlockPage page shelf ended) e has shows goes = omega arith
    falls-at (at.Release r ended) e has shows goes =
        let less : releases.cost (releases.next r made.found) (words_at layout b) < releases.cost r (words_at layout a) = release-falls (words_at layout a) (words_at layout b) r made.step made.found e in
        let all : cost_with rest again s.frame (released (releases.next r made.found) ended) (words_at layout b) ≡ end_cost rest again ended + releases.cost (releases.next r made.found) (words_at layout b) = released-cost rest again s.frame ended (releases.next r made.found) (words_at layout b) in
        omega arith
    falls-at (at.Back ended) e has shows goes = absurd (none-some made.step e)
    falls-at at.Free e has shows goes = absurd (none-some made.step e)
    falls-at (at.Owned page body) e has shows goes = absurd (none-some made.step e)

    -- a turn that doesn't wait lowers the cost, whatever follows once the task is over
    pub meet-falls : is_waits turn ≡ false → cost_with rest again t.frame t.at (words_at layout b) < cost_with rest again s.frame s.at (words_at layout a)
    meet-falls goes = subst (λ (x : Meet). cost_with rest again x.frame x.at (words_at layout b) < cost_with rest again s.frame s.at (words_at layout a)) (sym made.follows.0)
        (falls-at s.at made.planned made.fits.at (both layout (view_of a seat) _ s made.step made.found made.got made.fits made.planned (steps-on made)).0 (sym (ap is_waits made.follows.1) ∙ goes))

  -- a lock is held by nobody, where nobody lists one
  pub never-waits : is_waits turn ≡ true → (c : ℕ) → min (class s) 3 ≤ c → Quiet c layout a seat → ⊥
  never-waits waits c least quiet = which s.at made.planned made.fits.at (sym (ap is_waits made.follows.1) ∙ waits) least
    where
      free : (word : ℕ) → lock_of word ≡ 0 → is_waits (cond (is_free word) Moved (Waits word)) ≡ true → ⊥
      free word unlocked = by (is_free word) refl
        where
          by : (c : Bool) → is_free word ≡ c → is_waits (cond c Moved (Waits word)) ≡ true → ⊥
          by true is waits = both_ways true (sym waits) refl
          by false is waits = absurd (let locked : lock_of word ≡ 1 = held-word word is in omega arith)

      changed : (c : Bool) → is_waits (cond c Moved (Changed made.found)) ≡ false
      changed true = refl
      changed false = refl

      which : (x : MeetAt) → plan_at s.frame x ≡ Some made.step → FitsAt layout (view_of a seat) s.who s.frame s.cycle x → is_waits (turn_at (bare_at x) made.found) ≡ true → min (class_at x) 3 ≤ c → ⊥
      which (at.GetRef seen) e has waits least = both_ways true (sym waits ∙ changed (made.found == seen)) refl
      which at.LockFree e has waits least = free made.found (frame-free layout a made.rule s.frame made.found made.fits.frame (met-at made e) (no-lock quiet (omega (arith, least)) (ap (λ (h : Hand). h.locks) has))) waits
      which (at.LockPage page) e has waits least = free made.found (page-free layout a made.rule page made.found has.1 (met-at made e) (no-page quiet (omega (arith, least)) (ap (λ (h : Hand). h.pages) has.0))) waits
      which (at.LockOwned page shelf) e has waits least = free made.found (frame-free layout a made.rule s.frame made.found made.fits.frame (met-at made e)
          (no-lock quiet (omega (arith, least)) (ap (λ (h : Hand). h.locks) has.hand_is ∙ paged-locks layout page s.frame has.cache _ has.seen))) waits
      which (at.Unlock body ended) e has waits least = both_ways true (sym waits) refl
      which (at.UnlockFrame page shelf body ended) e has waits least = both_ways true (sym waits) refl
      which (at.UnlockPage page shelf ended) e has waits least = both_ways true (sym waits) refl
      which (at.Release r ended) e has waits least = both_ways true (sym waits) refl
      which (at.Back ended) e has waits least = none-some made.step e
      which at.Free e has waits least = none-some made.step e
      which (at.Owned page body) e has waits least = none-some made.step e

pub meet-class : (m : Meet) → (1 ≤ class m) × (class m ≤ 4)
meet-class m = which m.at
  where
    which : (x : MeetAt) → (1 ≤ class_at x) × (class_at x ≤ 4)
    which (at.GetRef seen) = (omega arith, omega arith)
    which at.LockFree = (omega arith, omega arith)
    which (at.LockPage page) = (omega arith, omega arith)
    which (at.LockOwned page shelf) = (omega arith, omega arith)
    which (at.Unlock body ended) = (omega arith, omega arith)
    which (at.UnlockFrame page shelf body ended) = (omega arith, omega arith)
    which (at.UnlockPage page shelf ended) = (omega arith, omega arith)
    which (at.Release r ended) = release-class r
    which (at.Back ended) = (omega arith, omega arith)
    which at.Free = (omega arith, omega arith)
    which (at.Owned page body) = (omega arith, omega arith)

-- the cost has a bound: `most` is one of what follows
pub meet-small : (rest again most : ℕ) → rest ≤ most → again ≤ most → (frame : Frame) (x : MeetAt) (w : Words) → cost_with rest again frame x w ≤ most + meet_most
meet-small rest again most few fewer frame x w = which x
  where
    ending : (ended : Bool) → end_cost rest again ended ≤ most
    ending true = few
    ending false = fewer

    which : (x : MeetAt) → cost_with rest again frame x w ≤ most + meet_most
    which (at.GetRef seen) = omega (arith, few, stale-most (word_in frame w == seen))
    which at.LockFree = omega (arith, few, stale-most (not (is_taken (word_in frame w))))
    which (at.LockPage page) = omega (arith, few, stale-most (is_owner page (word_in frame w)))
    which (at.LockOwned page shelf) = omega (arith, few, stale-most (is_owner page (word_in frame w)))
    which (at.Unlock body ended) = omega (arith, ending ended)
    which (at.UnlockFrame page shelf body ended) = omega (arith, ending ended)
    which (at.UnlockPage page shelf ended) = omega (arith, ending ended)
    which (at.Release r ended) = omega (arith, ending ended, release-small w r)
    which (at.Back ended) = omega (arith, ending ended)
    which at.Free = omega (arith, few)
    which (at.Owned page body) = omega (arith, few)

-- none of its steps poisons a frame or takes its poison back
pub meet-mild : (s : Meet) (step : Step) → plan s ≡ Some step → IsMild step
meet-mild s step is = which s.at is
  where
    which : (x : MeetAt) → plan_at s.frame x ≡ Some step → IsMild step
    which (at.GetRef seen) e = subst IsMild (same_Some (steps.GetRef s.frame seen 1) step e) tt
    which at.LockFree e = subst IsMild (same_Some (steps.LockFrame s.frame) step e) tt
    which (at.LockPage page) e = subst IsMild (same_Some (steps.LockPage page) step e) tt
    which (at.LockOwned page shelf) e = subst IsMild (same_Some (steps.LockFrame s.frame) step e) tt
    which (at.Unlock body ended) e = subst IsMild (same_Some (steps.UnlockFrame s.frame) step e) tt
    which (at.UnlockFrame page shelf body ended) e = subst IsMild (same_Some (steps.UnlockFrame s.frame) step e) tt
    which (at.UnlockPage page shelf ended) e = subst IsMild (same_Some (steps.UnlockPage page) step e) tt
    which (at.Release r ended) e = release-mild r step e
    which (at.Back ended) e = absurd (none-some step e)
    which at.Free e = absurd (none-some step e)
    which (at.Owned page body) e = absurd (none-some step e)

pub meet-ranked : IsRanked meet-task
meet-ranked = rank-of meet-task (λ s. refl) meet-class (λ layout a seat s rule fits. let small : cost s (words_at layout a) ≤ 0 + meet_most = meet-small 0 0 0 (omega arith) (omega arith) s.frame s.at (words_at layout a) in omega arith)
    (λ layout seat a b s t turn made goes. meet-falls made 0 0 (omega arith) goes)
    (λ layout seat a b s t turn made waits quiet. absurd (never-waits made waits (class s) (omega arith) quiet))
    (λ s. refl) meet-mild
