-- A handled frame is out of use on every board that keeps the frame rule, and so on every board of a run.
use Rattle.std.proofs.Common.{◌≡◌, ◌≢◌, ◌⊎◌, ℕ, zero, suc, ◌+◌, ◌<◌, ◌≤◌, List, [], ◌∷◌, ◌++◌, Option, Some, None, length, map, drop, slice_get, refl, sym, ap, ◌∙◌, subst, inl, inr, arith}
use Rattle.std.proofs.lemmas.List.{length-take}
use Rattle.std.proofs.lemmas.Option.{same_Some, slice_get_within}
use Rattle.hwp_law_served.specs.hwp_geom.declared.Cpu.{Cpu}
use Rattle.hwp_law_served.specs.hwp_geom.declared.Frame.{Frame}
use Rattle.hwp_law_served.specs.hwp_geom.declared.Layout.{Layout}
use Rattle.hwp_law_served.specs.hwp_geom.declared.Page.{Page}
use Rattle.hwp_law_served.specs.hwp_geom.declared.TransDecl.{TransDecl}
use Rattle.hwp_law_served.specs.hwp_geom.declared.VSlot.{VSlot}
use Rattle.hwp_law_served.specs.hwp_geom.Limits.{frame_limit}
use Rattle.hwp_law_served.specs.hwp_words.declared.Pte.TheVariants as ptes
use Rattle.hwp_law_served.specs.hwp_words.Frames.{handled_of, lock_of, owner_of}
use Rattle.hwp_law_served.specs.hwp_words.Translations.{pte_word}
use Rattle.hwp_law_served.specs.hwp_core_rule.declared.Log.{Log}
use Rattle.hwp_law_served.specs.hwp_core_rule.declared.State.{State}
use Rattle.hwp_law_served.specs.hwp_core_rule.declared.View.{View}
use Rattle.hwp_law_served.specs.hwp_core_rule.Opening.{opening}
use Rattle.hwp_law_served.specs.hwp_core_rule.Rule.{Holds}
use Rattle.hwp_law_served.specs.hwp_core_rule.Words.{Words, free_bit, trans_from, words_of}
use Rattle.hwp_law_served.specs.hwp_core_rule.parts.Bodies.{IsAtHome, content_name}
use Rattle.hwp_law_served.specs.hwp_core_rule.parts.Handled.{IsOutOfUse}
use Rattle.hwp_law_served.specs.hwp_core_rule.parts.Owners.{NamesOwn}
use Rattle.hwp_law_served.specs.hwp_core_rule.parts.Places.{in_hand}
use Rattle.hwp_law_served.specs.hwp_core_rule.Boards.{Played}
use Rattle.hwp_law_served.specs.hwp_core_rule.Turns.{Member}
use Rattle.hwp_law_served.specs.hwp_script_words.declared.Script.{Script}
use Rattle.hwp_law_served.specs.hwp_report_text.declared.Report.{Report}
use Rattle.hwp_law_served.specs.Run.{CoreRun}
use Rattle.hwp_law_served.specs.Turns.{Leads}
use Rattle.hwp_law_served.proofs.Homes.{there-is}
use Rattle.hwp_law_served.proofs.turns.TurnLeads.{leads-hold}
use Rattle.hwp_top_report.specs.Retired.{AreHandledRetired, IsBoardOf, IsRetired}

-- a slot of no page's name is empty
no-content : (content : Option Log) → content_name content ≡ 0 → content ≡ None
no-content None is = refl
no-content (Some log) is = absurd (let none : log.page.0 + 1 ≡ 0 = is in omega (arith, none))

module _ (layout : Layout) (s : State) (h : Holds layout s) (frame : Frame) (word : ℕ) (there : slice_get (words_of layout s.words).frames frame.0 ≡ Some word) (handled : handled_of word ≡ 1) where
  abbrev w : Words
  w = words_of layout s.words

  abbrev places : ℕ
  places = free_bit w.frees frame.0 + in_hand frame.0 (map (λ (v : View). v.hands) s.views)

  out : IsOutOfUse word
  out = h.rule.failures.handled.out frame.0 word there handled

  -- a frame that is free, or in a hand, is bare
  nowhere : places ≡ 0
  nowhere = which places refl
    where
      which : (n : ℕ) → places ≡ n → places ≡ 0
      which zero is = is
      which (suc n) is =
          let some : 0 < places = subst (λ (k : ℕ). 0 < k) (sym is) (omega arith) in
          let none : handled_of word ≡ 0 = (h.rule.frames.places.idle frame.0 word there some).unhandled in
          absurd (let one : 0 ≡ 1 = sym none ∙ handled in omega (arith, one))

  -- a word that names the frame names one that a page owns
  unnamed : (q : ℕ) → NamesOwn w.frames q (frame.0 + 1) → ⊥
  unnamed q own =
      let named : frame.0 + 1 ≡ own.frame + 1 = own.named in
      let same : own.frame ≡ frame.0 = omega (arith, named) in
      let is : own.owner_word ≡ word = same_Some own.owner_word word (sym own.there ∙ ap (slice_get w.frames) same ∙ there) in
      let owner : q + 1 ≡ 0 = sym own.owned ∙ ap owner_of is ∙ out.unowned in
      omega (arith, owner)

  within : frame.0 < frame_limit
  within =
      let inside : frame.0 < length w.frames = slice_get_within w.frames frame.0 word there in
      let taken = length-take layout.frames (drop 0 s.words) in
      let few : layout.frames ≤ frame_limit = h.sound.frames in
      omega (arith, inside, taken, few)

  untranslated : (slot : VSlot) → slice_get w.trans slot.0 ≢ Some (frame.0 + 1)
  untranslated slot named = which (h.rule.pages.translations.owned slot.0 (frame.0 + 1) decl.0 named decl.1)
    where
      decl : (t : TransDecl) × (slice_get layout.trans slot.0 ≡ Some t)
      decl = there-is layout.trans slot.0 (
          let inside : slot.0 < length w.trans = slice_get_within w.trans slot.0 (frame.0 + 1) named in
          let taken = length-take (length layout.trans) (drop (trans_from layout) s.words) in
          omega (arith, inside, taken)
          )

      which : (frame.0 + 1 ≡ 0) ⊎ ((frame.0 + 1 ≡ pte_word ptes.Poison) ⊎ NamesOwn w.frames decl.0.page.0 (frame.0 + 1)) → ⊥
      which (inl none) = omega (arith, none)
      which (inr (inl poison)) = let low = within in omega (arith, poison, low)
      which (inr (inr own)) = unnamed decl.0.page.0 own

  uncached : (page : Page) → slice_get w.caches page.0 ≢ Some (frame.0 + 1)
  uncached page named = which (h.rule.pages.caches.owned page.0 (frame.0 + 1) named)
    where
      which : (frame.0 + 1 ≡ 0) ⊎ NamesOwn w.frames page.0 (frame.0 + 1) → ⊥
      which (inl none) = omega (arith, none)
      which (inr own) = unnamed page.0 own

  empty : lock_of word ≡ 0 → slice_get s.homes frame.0 ≡ Some (Some None)
  empty unlocked =
      let home : IsAtHome s.homes frame.0 (owner_of word) = h.rule.pages.bodies.frame_home frame.0 word there unlocked in
      home.there ∙ ap (λ (c : Option Log). Some (Some c)) (no-content home.content (home.named ∙ out.unowned))

  pub retired : IsRetired w s.homes s.views frame word
  retired = record {
    poisoned = out.poisoned;
    not_free = let none : places ≡ 0 = nowhere in omega (arith, none);
    in_no_hand = let none : places ≡ 0 = nowhere in omega (arith, none);
    unowned = out.unowned;
    untranslated = untranslated;
    uncached = uncached;
    empty = empty;
  }

-- on a board that keeps the frame rule
pub handled-retired : (layout : Layout) (s : State) → Holds layout s → AreHandledRetired layout s
handled-retired layout s h frame word there handled = retired layout s h frame word there handled

-- On every board of a run, a frame whose word has HANDLED is poisoned, on no free list, in nobody's hand and no page's, and no
-- translation word and no cache word names it.
pub handled-out-of-use : (layout : Layout) (turns : List Played) → Holds layout (opening layout) → (board : State) → IsBoardOf layout turns board → AreHandledRetired layout board
handled-out-of-use layout turns rule board of = handled-retired layout board (leads-hold layout (opening layout) board of.before rule of.led)

-- wherever the turns of a run are cut there is such a board, and the later ones lead on from it
pub board-between : (layout : Layout) (a last : State) (before later : List Played) → Leads layout a (before ++ later) last → (board : State) × Leads layout a before board × Leads layout board later last
board-between layout a last [] later leads = (a, refl, leads)
board-between layout a last (p ∷ ps) later (mid, move, kept, rest) =
    let cut = board-between layout mid last ps later rest in
    (cut.0, (mid, move, kept, cut.1), cut.2)

-- the same of the run that a report is of
pub core-handled-out-of-use : {S : Type 0} {m : Member S} {tasks : List S} {seat : Cpu → ℕ} {script : Script} {report : Report} (run : CoreRun m tasks seat script report) (board : State) → IsBoardOf script.layout run.turns board → AreHandledRetired script.layout board
core-handled-out-of-use {script = script} run board of = handled-out-of-use script.layout run.turns run.rule board of
