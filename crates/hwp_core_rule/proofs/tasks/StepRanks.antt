-- What a step of a task on a board says of the words before it and after it.
use Rattle.std.proofs.Common.{◌≡◌, ◌≢◌, ℕ, ◌<◌, ◌≤◌, ◌⊎◌, inl, inr, Bool, true, false, List, [], ◌∷◌, Some, None, slice_get, refl, sym, ap, ◌∙◌, subst, arith}
use Rattle.std.proofs.lemmas.Bool.{both_ways}
use Rattle.std.proofs.lemmas.Option.{get_or_from_slice_get, none-some, same_Some}
use Rattle.hwp_page.specs.hwp_geom.declared.Frame.{Frame}
use Rattle.hwp_page.specs.hwp_geom.declared.Layout.{Layout}
use Rattle.hwp_page.specs.hwp_geom.declared.Who.{Who}
use Rattle.hwp_page.proofs.of_hwp_geom.WordLaws.{not_nil}
use Rattle.hwp_words.specs.Frames.{poison_of}
use Rattle.hwp_core_rule.specs.declared.record.State.{State}
use Rattle.hwp_core_rule.specs.declared.step.Step.TheVariants as steps
use Rattle.hwp_core_rule.specs.declared.view.View.{View}
use Rattle.hwp_core_rule.specs.Lists.{EachMember}
use Rattle.hwp_core_rule.specs.Moves.{Move}
use Rattle.hwp_core_rule.specs.Opening.{opening_view}
use Rattle.hwp_core_rule.specs.Rule.{Holds}
use Rattle.hwp_core_rule.specs.Lasting.{LeavesPoison, IsMild}
use Rattle.hwp_core_rule.specs.Steps.{place_of, word_after}
use Rattle.hwp_core_rule.specs.Views.{view_after}
use Rattle.hwp_core_rule.specs.Words.{read, put}
use Rattle.hwp_core_rule.proofs.Lists.{same-or}
use Rattle.hwp_core_rule.proofs.WordsByKind.{same-put}
use Rattle.hwp_core_rule.specs.declared.turn.Turn.{Turn}
use Rattle.hwp_core_rule.specs.Boards.{view_of}
use Rattle.hwp_core_rule.specs.Calls.{Steps, logs, rec_of}
use Rattle.hwp_core_rule.specs.Turns.{Member}
use Rattle.hwp_core_rule.specs.Ranks.{Made, CostFalls, HasFailed, IsRanked, Pending, PlansMild, Quiet, failure_weight, failures_left, is_waits, top, words_at}
use Rattle.hwp_core_rule.proofs.tasks.Failures.{read-moved, words-moved, pending-moved, failures-moved, poison-lowers, retire-lowers}

module _ {S : Type 0} {m : Member S} {layout : Layout} {seat : ℕ} {a b : State} {s t : S} {turn : Turn} (made : Made m layout seat a b s t turn) where
  -- what the seat knows
  pub me : slice_get a.views seat ≡ Some (view_of a seat)
  me = made.move.me ∙ ap (λ (v : View). Some v) (sym (get_or_from_slice_get a.views seat made.move.view (opening_view seat) made.move.me))

  -- the step, as its task is told of it
  pub steps-on : Steps layout (m.who s) made.step (logs (m.put s)) (view_of a seat) (view_after layout (rec_of layout (m.who s) made.step (logs (m.put s)) made.found made.got) (view_of a seat)) made.found made.got
  steps-on = record {
    told = record { board = a; rule = made.rule; seat = seat; me = me; fits = made.move.fits; met = made.move.met; slot = made.move.slot; next = refl };
    brings = made.brings;
  }

  -- its word is the one that it met
  pub met : read (place_of made.step) (words_at layout a) ≡ made.found
  met = read-moved made.rule made.move

  -- after it that word is the step's, and the others are as before
  pub words-after : words_at layout b ≡ put (place_of made.step) (word_after made.step made.found) (words_at layout a)
  words-after = words-moved made.rule made.move

  -- a step that leaves its word leaves all words
  pub words-kept : word_after made.step made.found ≡ made.found → words_at layout b ≡ words_at layout a
  words-kept left = words-after ∙ ap (λ (x : ℕ). put (place_of made.step) x (words_at layout a)) (left ∙ sym met) ∙ same-put (place_of made.step) (words_at layout a)

  -- a failure that isn't ended after a step that poisons nothing wasn't before it
  pub pending-kept : IsMild made.step → (frame : Frame) (cycle : ℕ) → Pending (words_at layout b) frame cycle → Pending (words_at layout a) frame cycle
  pending-kept mild = pending-moved made.rule made.move made.kept mild

  pub failures-kept : LeavesPoison made.step → failures_left (words_at layout b) ≤ failures_left (words_at layout a)
  failures-kept leaves = failures-moved made.rule made.move made.kept leaves

  -- a frame that is poisoned, or retired, is one failure fewer
  pub poison-fails : (frame : Frame) (hardware : Bool) → Some (steps.Poison frame hardware) ≡ Some made.step → poison_of made.found ≡ 0 → failures_left (words_at layout b) < failures_left (words_at layout a)
  poison-fails frame hardware is sound = poison-lowers made.rule made.move made.kept frame hardware (sym (same_Some (steps.Poison frame hardware) made.step is)) sound

  pub retire-fails : (frame : Frame) → Some (steps.Retire frame) ≡ Some made.step → failures_left (words_at layout b) < failures_left (words_at layout a)
  retire-fails frame is = retire-lowers made.rule made.move made.kept frame (sym (same_Some (steps.Retire frame) made.step is))

  -- a step that a part of the task planned, and from which the part goes on, was made by the part
  pub part-made : {P : Type 0} (part : Member P) (before after : P) {turned : Turn} → part.who before ≡ m.who s → part.fits layout (view_of a seat) before → part.plan before ≡ Some made.step
      → Move layout seat (rec_of layout (m.who s) made.step (logs (part.put before)) made.found made.got) a b → part.next layout (part.bare before) made.found made.got after turned → Made part layout seat a b before after turned
  part-made part before after own fits planned move follows = record {
    step = made.step;
    found = made.found;
    got = made.got;
    rule = made.rule;
    kept = made.kept;
    fits = fits;
    planned = planned;
    move = subst (λ (by : Who). Move layout seat (rec_of layout by made.step (logs (part.put before)) made.found made.got) a b) (sym own) move;
    brings = made.brings;
    follows = follows;
  }

-- a list that isn't other than empty is empty
empty-list : {A : Type 0} (l : List A) → (l ≢ [] → ⊥) → l ≡ []
empty-list [] none = refl
empty-list (x ∷ xs) none = absurd (none (not_nil (x ∷ xs) (omega arith)))

-- a view of the board is that of its seat
seen : (a : State) (i : ℕ) (v : View) → slice_get a.views i ≡ Some v → view_of a i ≡ v
seen a i v is = get_or_from_slice_get a.views i v (opening_view i) is

module _ {class : ℕ} {layout : Layout} {a : State} {seat : ℕ} (quiet : Quiet class layout a seat) where
  -- nobody has a page's lock, and nobody a frame's, where the seat itself has none
  pub no-page : 3 ≤ class → (view_of a seat).pages ≡ [] → EachMember (λ (v : View). v.pages ≡ []) a.views
  no-page third own i v is = ap (λ (x : View). x.pages) (sym (seen a i v is)) ∙ which (same-or i seat)
    where
      which : (i ≡ seat) ⊎ (i ≢ seat) → (view_of a i).pages ≡ []
      which (inl same) = ap (λ (k : ℕ). (view_of a k).pages) same ∙ own
      which (inr other) = empty-list (view_of a i).pages (quiet.pages third i other)

  pub no-lock : 2 ≤ class → (view_of a seat).locks ≡ [] → EachMember (λ (v : View). v.locks ≡ []) a.views
  no-lock second own i v is = ap (λ (x : View). x.locks) (sym (seen a i v is)) ∙ which (same-or i seat)
    where
      which : (i ≡ seat) ⊎ (i ≢ seat) → (view_of a i).locks ≡ []
      which (inl same) = ap (λ (k : ℕ). (view_of a k).locks) same ∙ own
      which (inr other) = empty-list (view_of a i).locks (λ some. quiet.frames second i other (inl some))

-- a turn that leaves fewer frames to fail may raise the cost as long as it stays below the weight of one
pub failed : {S : Type 0} {m : Member S} {layout : Layout} {a b : State} {s t : S} → failures_left (words_at layout b) < failures_left (words_at layout a) → m.cost t (words_at layout b) < failure_weight → HasFailed m layout a b s t
failed {m} {layout} {a} {b} {s} {t} fewer few = record { fewer = fewer; bounded = omega (arith, few) }

-- the rank of a task that gives nothing up and claims nothing
pub rank-failing : {S : Type 0} (m : Member S) → ((s : S) → m.aborts s ≡ false) → ((s : S) → (1 ≤ m.class s) × (m.class s ≤ 4))
    → ((layout : Layout) (a : State) (seat : ℕ) (s : S) → Holds layout a → m.fits layout (view_of a seat) s → m.cost s (words_at layout a) < top)
    → ((layout : Layout) (seat : ℕ) (a b : State) (s t : S) (turn : Turn) → Made m layout seat a b s t turn → is_waits turn ≡ false → CostFalls m layout a b s t ⊎ HasFailed m layout a b s t)
    → ((layout : Layout) (seat : ℕ) (a b : State) (s t : S) (turn : Turn) → Made m layout seat a b s t turn → is_waits turn ≡ true → Quiet (m.class s) layout a seat → CostFalls m layout a b s t)
    → ((s : S) → m.claims s ≡ None) → PlansMild m → IsRanked m
rank-failing m none classes small falls waits unclaimed mild = record {
  classes = classes;
  small = small;
  falls = falls;
  waits = λ layout seat a b s t turn made is quiet. inl (waits layout seat a b s t turn made is quiet);
  leaves = λ layout seat a b s t turn made aborts. absurd (both_ways true (sym aborts ∙ none s) refl);
  owns = λ layout seat a b s t turn frame cycle made going pending. inr (
    pending-kept made (mild s made.step made.planned) frame cycle pending,
    λ claimed. none-some (frame, cycle) (sym (unclaimed s) ∙ claimed),
  );
}

-- and whose turns all lower its cost
pub rank-of : {S : Type 0} (m : Member S) → ((s : S) → m.aborts s ≡ false) → ((s : S) → (1 ≤ m.class s) × (m.class s ≤ 4))
    → ((layout : Layout) (a : State) (seat : ℕ) (s : S) → Holds layout a → m.fits layout (view_of a seat) s → m.cost s (words_at layout a) < top)
    → ((layout : Layout) (seat : ℕ) (a b : State) (s t : S) (turn : Turn) → Made m layout seat a b s t turn → is_waits turn ≡ false → CostFalls m layout a b s t)
    → ((layout : Layout) (seat : ℕ) (a b : State) (s t : S) (turn : Turn) → Made m layout seat a b s t turn → is_waits turn ≡ true → Quiet (m.class s) layout a seat → CostFalls m layout a b s t)
    → ((s : S) → m.claims s ≡ None) → PlansMild m → IsRanked m
rank-of m none classes small falls waits unclaimed mild =
    rank-failing m none classes small (λ layout seat a b s t turn made goes. inl (falls layout seat a b s t turn made goes)) waits unclaimed mild
