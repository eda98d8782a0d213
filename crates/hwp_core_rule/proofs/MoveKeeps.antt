-- A move keeps the frame rule, where its kind of step does.
use Rattle.std.proofs.Common.{◌≡◌, ℕ, ◌+◌, ◌-◌, min, ◌^◌, ◌<◌, ◌≤◌, List, Option, Some, None, set, length, drop, refl, sym, ◌∙◌, subst, arith, ap, [], slice_get}
use Rattle.std.proofs.lemmas.List.{length-set, length-take, length-drop}
use Rattle.hwp_page.specs.hwp_geom.declared.Layout.{Layout}
use Rattle.hwp_core_rule.specs.declared.log.Log.{Log}
use Rattle.hwp_core_rule.specs.declared.record.Rec.{Rec}
use Rattle.hwp_core_rule.specs.declared.record.State.{State}
use Rattle.hwp_core_rule.specs.declared.slot_move.SlotMove.{SlotMove}
use Rattle.hwp_core_rule.specs.declared.step.Step.{Step}
use Rattle.hwp_core_rule.specs.declared.view.View.{View}
use Rattle.hwp_core_rule.specs.Lists.{Homes, SomeMember}
use Rattle.hwp_core_rule.specs.Moves.{Move, moved}
use Rattle.hwp_core_rule.specs.Rule.{FrameRule, Holds}
use Rattle.hwp_core_rule.specs.SlotMoves.{slot_move, homes_moved, homes_after, Meets}
use Rattle.hwp_core_rule.specs.Steps.{place_of, word_after}
use Rattle.hwp_core_rule.specs.Views.{noted, view_by, view_after}
use Rattle.hwp_core_rule.specs.Words.{Words, words_of, read, put, index, size, segment, free_words, trans_from, caches_from, pages_from, frees_from, bads_from, weaks_from, processes_from, policies_from, losses_from}
use Rattle.hwp_core_rule.proofs.AsksNoted.{asks-noted}
use Rattle.hwp_core_rule.proofs.Keeps.{Given, IsShaped, Keeps}
use Rattle.hwp_core_rule.proofs.Lists.{set_here, set-set, each-set}
use Rattle.hwp_core_rule.proofs.NoteKeeps.{keeps-noted, past-now, turn-noted}
use Rattle.hwp_core_rule.proofs.WordsByKind.{words-read, words-put}
use Rattle.hwp_core_rule.specs.declared.slot_move.SlotMove.TheVariants as moves
use Rattle.hwp_core_rule.specs.parts.Holdings.{HoldsNothing, HeldByProcessors}
use Rattle.hwp_core_rule.specs.declared.view.Part.{Part}
use Rattle.std.proofs.lemmas.Option.{none-some}
use Rattle.hwp_core_rule.proofs.KeptTurns.{turn-after}

length-segment : (from count : ℕ) (ws : List ℕ) → from + count ≤ length ws → length (segment from count ws) ≡ count
length-segment from count ws fits =
    let rest : length (drop from ws) ≡ length ws - from = length-drop from ws in
    let both : length (segment from count ws) ≡ min count (length (drop from ws)) = length-take count (drop from ws) in
    omega arith

-- a board that holds has a word for everything
pub shaped : (layout : Layout) (s : State) → Holds layout s → IsShaped layout (words_of layout s.words) s.homes
shaped layout s h =
    let all : length s.words ≡ size layout = h.words in
    record {
      frames = length-segment 0 layout.frames s.words (omega arith);
      trans = length-segment (trans_from layout) (length layout.trans) s.words (omega arith);
      caches = length-segment (caches_from layout) (length layout.pages) s.words (omega arith);
      pages = length-segment (pages_from layout) (length layout.pages) s.words (omega arith);
      frees = length-segment (frees_from layout) (free_words layout) s.words (omega arith);
      bads = length-segment (bads_from layout) layout.frames s.words (omega arith);
      weaks = length-segment (weaks_from layout) layout.frames s.words (omega arith);
      processes = length-segment (processes_from layout) layout.procs s.words (omega arith);
      policies = length-segment (policies_from layout) (length layout.threads) s.words (omega arith);
      losses = length-segment (losses_from layout) layout.files s.words (omega arith);
      slots = h.slots;
    }

length-moved : (move : SlotMove) (content : Option Log) (homes : Homes) → length (homes_moved move content homes) ≡ length homes
length-moved moves.Stays content homes = refl
length-moved (moves.Out slot) content homes = length-set homes slot None
length-moved (moves.Home slot) content homes = length-set homes slot (Some content)

-- no step makes or takes away a slot
pub length-homes : (layout : Layout) (step : Step) (found : ℕ) (content : Option Log) (homes : Homes) → length (homes_after layout step found content homes) ≡ length homes
length-homes layout step found content homes = length-moved (slot_move layout step found) content homes

-- a seat with a processor may hold
held-set : {P : Part → Type 0} (views : List View) (seat : ℕ) (u : View) → SomeMember P u.parts → HeldByProcessors views → HeldByProcessors (set views seat u)
held-set views seat u some h = record {
  nothing = each-set (λ (v : View). v.parts ≡ [] → HoldsNothing v) views seat u
      (λ none. absurd (none-some some.1 (sym (ap (λ (l : List Part). slice_get l some.0) none) ∙ some.2))) h.nothing;
}

rule-moved : (layout : Layout) (seat : ℕ) (r : Rec) (a b : State) → Keeps r.step → Holds layout a → (m : Move layout seat r a b) → FrameRule layout (words_of layout (moved layout seat r m.view a).words) (moved layout seat r m.view a).homes (moved layout seat r m.view a).views
rule-moved layout seat r a b keeps h m =
    let known : read (place_of r.step) w ≡ r.found = words-read layout a.words (place_of r.step) m.asks.place ∙ sym m.met in
    let given : Given layout w a.homes noted-views seat (noted r.who m.view) r.who r.step r.content = record {
      sound = h.sound;
      shaped = shaped layout a h;
      me = set_here a.views seat (noted r.who m.view) m.view m.me;
      past = past-now r.who m.view m.asks.turn;
      turn = turn-noted r.who m.view m.asks.turn;
      place = m.asks.place;
      asks = asks-noted layout r.who m.view r.step r.content m.asks.kind;
      fits = subst (λ (n : ℕ). n < 2 ^ 64) (sym known) m.fits;
      meets = subst (λ (n : ℕ). Meets layout a.homes r.step n r.content) (sym known) m.slot;
      rule = keeps-noted layout w a.homes a.views seat m.view r.who m.me h.rule;
      held = held-set a.views seat (noted r.who m.view) (turn-noted r.who m.view m.asks.turn).part h.held;
    } in
    let after = keeps layout w a.homes noted-views seat (noted r.who m.view) r.who r.content given in
    let there = subst (λ (n : ℕ). FrameRule layout (put (place_of r.step) (word_after r.step n) w) (homes_after layout r.step n r.content a.homes) (set noted-views seat (view_by layout r.who r.step n r.content (noted r.who m.view)))) known after in
    subst (λ (ws : Words). FrameRule layout ws (homes_after layout r.step r.found r.content a.homes) (set a.views seat (view_by layout r.who r.step r.found r.content (noted r.who m.view)))) (sym (words-put layout a.words (place_of r.step) (word_after r.step r.found) h.words m.asks.place))
    (subst (λ (vs : List View). FrameRule layout (put (place_of r.step) (word_after r.step r.found) w) (homes_after layout r.step r.found r.content a.homes) vs) (set-set a.views seat (noted r.who m.view) (view_by layout r.who r.step r.found r.content (noted r.who m.view))) there)
  where
    w : Words
    w = words_of layout a.words

    noted-views : List View
    noted-views = set a.views seat (noted r.who m.view)

-- a move whose kind of step keeps the rule
pub holds-moved : (layout : Layout) (seat : ℕ) (r : Rec) (a b : State) → Keeps r.step → Holds layout a → Move layout seat r a b → Holds layout b
holds-moved layout seat r a b keeps h m = subst (Holds layout) (sym m.next) (record {
  sound = h.sound;
  words = length-set a.words (index layout (place_of r.step)) (word_after r.step r.found) ∙ h.words;
  slots = length-homes layout r.step r.found r.content a.homes ∙ h.slots;
  rule = rule-moved layout seat r a b keeps h m;
  held = held-set a.views seat (view_after layout r m.view) (turn-after layout r m.view r.who refl m.asks.turn).part h.held;
})
