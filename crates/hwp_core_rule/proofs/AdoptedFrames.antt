-- A frame whose last reference was given back while it was poisoned: the hand says so, and so does the lock after the frame is
-- adopted, which can then be retired.
use Rattle.std.proofs.Common.{◌≡◌, ◌<◌, ℕ, true, false, Option, None, slice_get, slice_index, refl, sym, ap, ◌∙◌, subst, arith, ◌==◌, ◌≤◌, Some, map}
use Rattle.std.proofs.lemmas.Option.{slice_get_within, same_Some}
use Rattle.hwp_page.specs.hwp_geom.declared.Frame.{Frame}
use Rattle.hwp_page.specs.hwp_geom.declared.Layout.{Layout}
use Rattle.hwp_page.specs.hwp_geom.declared.Who.{Who}
use Rattle.hwp_words.specs.Frames.{owner_of, is_handled, is_poisoned}
use Rattle.hwp_core_rule.specs.declared.log.Log.{Log}
use Rattle.hwp_core_rule.specs.declared.shared_word.SharedWord.TheVariants as places
use Rattle.hwp_core_rule.specs.declared.step.Step.TheVariants as steps
use Rattle.hwp_core_rule.specs.declared.view.FrameInHand.{FrameInHand}
use Rattle.hwp_core_rule.specs.declared.view.View.{View}
use Rattle.hwp_core_rule.specs.Asks.{CanRetire}
use Rattle.hwp_core_rule.specs.Lists.{SomeMember}
use Rattle.hwp_core_rule.specs.Moves.{Told}
use Rattle.hwp_core_rule.specs.Views.{lock_found}
use Rattle.hwp_core_rule.proofs.Lists.{some-last, at_map}
use Rattle.hwp_core_rule.specs.Words.{words_of}
use Rattle.hwp_core_rule.specs.parts.Places.{IsHanded, IsBare, in_hand}
use Rattle.hwp_core_rule.proofs.MoveKeeps.{shaped}
use Rattle.hwp_core_rule.proofs.WordsByKind.{words-read, word-there}
use Rattle.hwp_core_rule.proofs.FramesInHand.{in_hand-mine}
use Rattle.hwp_core_rule.specs.declared.view.FrameLock.{FrameLock}

-- a frame in hand that the view knows to be poisoned
abbrev pub HasPoisoned : View → Frame → Type 0
HasPoisoned v frame = SomeMember (λ (h : FrameInHand). (h.frame ≡ frame) × (h.poisoned ≡ true)) v.hands

-- what an adopt shows of a frame in hand
module _ (layout : Layout) (who : Who) (frame : Frame) (found : ℕ) (content : Option Log) (old new : View)
    (told : Told layout (record { who = who; step = steps.Adopt frame; found = found; content = content }) old new) (has : HasPoisoned old frame) where
  my-hands : slice_get (map (λ (v : View). v.hands) told.board.views) told.seat ≡ Some old.hands
  my-hands = at_map (λ (v : View). v.hands) told.board.views told.seat old told.me

  handed : IsHanded (words_of layout told.board.words).frames has.1
  handed = told.rule.rule.frames.places.handed told.seat old.hands my-hands has.0 has.1 has.2

  number : has.1.frame.0 ≡ frame.0
  number = ap (λ (f : Frame). f.0) has.3.0

  there : slice_get (words_of layout told.board.words).frames frame.0 ≡ Some handed.word
  there = ap (slice_get (words_of layout told.board.words).frames) (sym number) ∙ handed.there

  inside : frame.0 < layout.frames
  inside = subst (λ (n : ℕ). frame.0 < n) (shaped layout told.board told.rule).frames (slice_get_within (words_of layout told.board.words).frames frame.0 handed.word there)

  word-is : found ≡ handed.word
  word-is = told.met ∙ sym (words-read layout told.board.words (places.Frame frame) inside) ∙ same_Some (slice_index (words_of layout told.board.words).frames frame.0) handed.word
      (sym (word-there (words_of layout told.board.words).frames frame.0 layout.frames (shaped layout told.board told.rule).frames inside) ∙ there)

  bare : IsBare handed.word
  bare = told.rule.rule.frames.places.idle frame.0 handed.word there
      (let mine : 1 ≤ in_hand frame.0 (map (λ (v : View). v.hands) told.board.views) = in_hand-mine (map (λ (v : View). v.hands) told.board.views) told.seat old.hands my-hands has.1 frame has.3.0 has.0 has.2 in omega arith)

  -- the lock that it lists says that the frame is bare and poisoned
  pub lock-poisoned : lock_found frame found ≡ record { frame = frame; owner = 0; handled = false; poisoned = true }
  lock-poisoned i = record {
    frame = frame;
    owner = (ap owner_of word-is ∙ bare.unowned) i;
    handled = (ap is_handled word-is ∙ ap (λ (n : ℕ). n == 1) bare.unhandled) i;
    poisoned = (ap is_poisoned word-is ∙ handed.poisoned has.3.1) i;
  }

  -- so the frame can be retired
  pub adopted-retires : CanRetire new frame None
  adopted-retires = record {
    has = record {
      lock = record { frame = frame; owner = 0; handled = false; poisoned = true };
      listed = subst (SomeMember (λ (l : FrameLock). l ≡ record { frame = frame; owner = 0; handled = false; poisoned = true })) (sym (ap (λ (v : View). v.locks) told.next))
          (some-last (λ (l : FrameLock). l ≡ record { frame = frame; owner = 0; handled = false; poisoned = true }) old.locks (lock_found frame found) lock-poisoned);
      frame_is = refl;
    };
    unowned = refl;
    unhandled = refl;
    poisoned = refl;
    empty = refl;
  }
