-- The lines of frames: where each is, which of its lines are bad or weak, and how many are poisoned.
use Rattle.std.proofs.Common.{◌≡◌, ◌≢◌, ℕ, zero, suc, ◌+◌, ◌-◌, ◌%◌, ◌^◌, ◌<◌, ◌≤◌, Bool, true, false, cond, List, Option, Some, None, length, slice_get, slice_index, refl, sym, ap, ◌∙◌, subst, arith}
use Rattle.std.proofs.lemmas.Bool.{eq-eqb, eqb-false, eqb-true, ne_eqb}
use Rattle.std.proofs.lemmas.Option.{get_or_from_slice_get, slice_get_within}
use Rattle.hwp_law_served.specs.hwp_geom.declared.Who.{Who}
use Rattle.hwp_law_served.specs.hwp_geom.declared.VSlot.{VSlot}
use Rattle.hwp_law_served.specs.hwp_geom.declared.Cpu.{Cpu}
use Rattle.hwp_law_served.specs.hwp_geom.declared.Damage.TheVariants as damages
use Rattle.hwp_law_served.specs.hwp_geom.declared.Frame.{Frame}
use Rattle.hwp_law_served.specs.hwp_geom.declared.Page.{Page}
use Rattle.hwp_law_served.specs.hwp_geom.Limits.{page_limit}
use Rattle.hwp_law_served.specs.hwp_words.Frames.{cycle_of, handled_of, is_handled, is_kernel, is_poisoned, owner_of, poison_of}
use Rattle.hwp_law_served.specs.hwp_words.Names.{page_named}
use Rattle.hwp_law_served.specs.hwp_core_rule.declared.State.{State}
use Rattle.hwp_law_served.specs.hwp_core_rule.Words.{Words, sum_below, words_of}
use Rattle.hwp_law_served.proofs.of_hwp_core_rule.MoveKeeps.{shaped}
use Rattle.hwp_law_served.specs.hwp_core_rule.Boards.{Played}
use Rattle.hwp_law_served.specs.hwp_script_words.declared.Script.{Script}
use Rattle.hwp_law_served.specs.hwp_report_text.declared.FrameLine.{FrameLine}
use Rattle.hwp_law_served.specs.hwp_report_text.declared.Whereabouts.TheVariants as places
use Rattle.hwp_law_served.specs.hwp_report_text.declared.Report.{Report}
use Rattle.hwp_law_served.specs.hwp_law.Frames.{IsFrameLine, IsPlaced, poisoned_count}
use Rattle.hwp_law_served.specs.hwp_law.Records.{ends_poisoned}
use Rattle.hwp_law_served.specs.Ends.{IsFrameOn, place_in, place_owned}
use Rattle.hwp_law_served.proofs.Placed.{owned-named}
use Rattle.hwp_law_served.specs.Runs.{IsRunOf}
use Rattle.hwp_top_report.proofs.report_lines.SpoiledLines.{spoiled-so}
use Rattle.hwp_law_served.proofs.RunEnds.{IsEnd}
use Rattle.hwp_law_served.proofs.LastBoard.{ended}
use Rattle.hwp_top_report.proofs.marks.RecordPlaces.{ends-are}
use Rattle.hwp_top_report.proofs.report_lines.Records.{record-so}
use Rattle.hwp_law_served.proofs.Sums.{list-below}

module _ (script : Script) (copies : Who → Option VSlot) (seat : Cpu → ℕ) (turns : List Played) (last : State) (report : Report) (run : IsRunOf script copies seat turns last report) where
  abbrev end : IsEnd script copies seat last report
  end = ended script copies seat turns last report run

  abbrev words : Words
  words = words_of script.layout last.words

  module _ (frame : Frame) (line : FrameLine) (line_is : slice_get report.frames frame.0 ≡ Some line) where
    abbrev pub on : IsFrameOn words last.views frame line
    on = end.board.ends.frames frame line line_is

    -- a failure of the frame is ended: the frame is the kernel's or handled
    settled : is_kernel on.word ≡ false → is_handled on.word ≡ false → is_poisoned on.word ≡ false
    settled kernel handled = which (is_poisoned on.word) refl
      where
        word-is : slice_index words.frames frame.0 ≡ on.word
        word-is = get_or_from_slice_get words.frames frame.0 on.word 0 on.there

        which : (b : Bool) → is_poisoned on.word ≡ b → is_poisoned on.word ≡ false
        which true is = absurd (run.settled frame (cycle_of (slice_index words.frames frame.0)) (record {
          poisoned = ap is_poisoned word-is ∙ is;
          handled = ap is_handled word-is ∙ handled;
          kernel = ap is_kernel word-is ∙ kernel;
          cycle_is = refl;
        }))
        which false is = is

    placed-so : (kernel handled : Bool) → is_kernel on.word ≡ kernel → is_handled on.word ≡ handled → IsPlaced script.layout kernel (is_poisoned on.word) (cond kernel places.Kernel (cond handled places.Handled (place_owned (page_named (owner_of on.word)))))
    placed-so true handled kernel_is handled_is = refl
    placed-so false true kernel_is handled_is = (refl, eq-eqb (poison_of on.word) 1 (end.board.holds.rule.failures.handled.out frame.0 on.word on.there (eqb-true (handled_of on.word) 1 handled_is)).poisoned)
    placed-so false false kernel_is handled_is = by-name (owner_of on.word) refl
      where
        sound : is_poisoned on.word ≡ false
        sound = settled kernel_is handled_is

        by-name : (n : ℕ) → owner_of on.word ≡ n → IsPlaced script.layout false (is_poisoned on.word) (place_owned (page_named n))
        by-name zero none = (refl, sound)
        by-name (suc q) some =
            let named = owned-named script.layout last end.board.holds end.board.unlocked frame.0 on.word q on.there (let is : owner_of on.word ≡ suc q = some in omega arith) in
            let within : q < length script.layout.pages = subst (λ (n : ℕ). q < n) (shaped script.layout last end.board.holds).caches (slice_get_within words.caches q (frame.0 + 1) named) in
            subst (λ (p : Option Page). IsPlaced script.layout false (is_poisoned on.word) (place_owned p)) (sym (owner-page q within)) (refl, sound, within)
          where
            owner-page : (q : ℕ) → q < length script.layout.pages → page_named (suc q) ≡ Some (record { 0 = q })
            owner-page q within =
                let few : length script.layout.pages ≤ page_limit = end.board.holds.sound.pages in
                ap (λ (b : Bool). cond b None (Some (record { 0 = (suc q - 1) % 2 ^ 16 }))) (ne_eqb (suc q) 0 (λ none. let no : suc q ≡ 0 = none in omega arith))
                ∙ ap (λ (n : ℕ). Some (record { 0 = n })) (let is : (suc q - 1) % 2 ^ 16 ≡ q = omega arith in is)

  pub frame-line : (frame : Frame) (kernel : Bool) (line : FrameLine) → slice_get script.layout.kernel frame.0 ≡ Some kernel → slice_get report.frames frame.0 ≡ Some line → IsFrameLine script report kernel frame line
  frame-line frame kernel line kernel_is line_is =
      let o = on frame line line_is in
      let own : is_kernel o.word ≡ kernel = end.board.holds.rule.frames.places.declared frame.0 o.word kernel o.there kernel_is in
      record {
        place = subst (λ (b : Bool). IsPlaced script.layout kernel b line.place) (sym (ends-are script copies seat last report end frame line line_is))
            (subst (IsPlaced script.layout kernel (is_poisoned o.word)) (sym o.place)
            (subst (λ (k : Bool). IsPlaced script.layout k (is_poisoned o.word) (place_in o.word)) own (placed-so frame line line_is (is_kernel o.word) (is_handled o.word) refl refl)));
        bad = λ n. spoiled-so script copies seat last report end frame damages.Bad n line.bad.0 o.bad;
        weak = λ n. spoiled-so script copies seat last report end frame damages.Weak n line.weak.0 o.weak;
        kept = record-so script copies seat last report end frame kernel kernel_is line line_is;
      }

  -- the count is that of the frames whose record ends poisoned
  pub count-is : report.count ≡ poisoned_count report.frames
  count-is =
      let frames : length words.frames ≡ script.layout.frames = (shaped script.layout last end.board.holds).frames in
      let lines : length report.frames ≡ script.layout.frames = run.lengths.frames in
      run.ends.count
      ∙ list-below poison_of (λ i. poison_of (slice_index words.frames i)) words.frames (λ i w there. ap poison_of (sym (get_or_from_slice_get words.frames i w 0 there)))
      ∙ ap (sum_below (λ i. poison_of (slice_index words.frames i))) (frames ∙ sym lines)
      ∙ sym (list-below (λ (l : FrameLine). cond (ends_poisoned l.marks) 1 0) (λ i. poison_of (slice_index words.frames i)) report.frames counts)
    where
      bit-is : (w : ℕ) → (b : Bool) → is_poisoned w ≡ b → cond b 1 0 ≡ poison_of w
      bit-is w true is = sym (eqb-true (poison_of w) 1 is)
      bit-is w false is = let other : poison_of w ≢ 1 = eqb-false (poison_of w) 1 is in let bit : poison_of w < 2 = omega arith in omega (arith, other, bit)

      counts : (i : ℕ) (l : FrameLine) → slice_get report.frames i ≡ Some l → cond (ends_poisoned l.marks) 1 0 ≡ poison_of (slice_index words.frames i)
      counts i l there =
          let o = on (record { 0 = i }) l there in
          ap (λ (b : Bool). cond b 1 0) (ends-are script copies seat last report end (record { 0 = i }) l there) ∙ bit-is o.word (is_poisoned o.word) refl ∙ ap poison_of (sym (get_or_from_slice_get words.frames i o.word 0 o.there))
