-- The lines of a frame that are bad, or weak, at the end of a run are those that commands spoiled.
use Rattle.std.proofs.Common.{◌≡◌, ◌↔◌, ◌⊎◌, inl, inr, ℕ, ◌^◌, ◌<◌, ◌≤◌, ◌==◌, ◌&&◌, min, not, Bool, true, false, List, Option, Some, length, map, option_map, unwrap_or, slice_get, refl, sym, ap, ◌∙◌, subst, arith, true≢false}
use Rattle.std.specs.Int.{IsBitSet, bit_at, from_bool}
use Rattle.std.specs.List.{sum_by}
use Rattle.std.proofs.lemmas.Bool.{and_parts, cases_lt, eqb-true}
use Rattle.std.proofs.lemmas.Nat.{bit_set_by_shift}
use Rattle.std.proofs.lemmas.Nat.Bits.{bit_at-lt, bit_at_above, shr_and_one}
use Rattle.std.proofs.lemmas.Option.{option_and_then_some, same_Some}
use Rattle.hwp_law_served.specs.hwp_geom.declared.VSlot.{VSlot}
use Rattle.hwp_law_served.specs.hwp_geom.declared.Cpu.{Cpu}
use Rattle.hwp_law_served.specs.hwp_geom.declared.Damage.{Damage}
use Rattle.hwp_law_served.specs.hwp_geom.declared.Damage.TheVariants as damages
use Rattle.hwp_law_served.specs.hwp_geom.declared.Frame.{Frame}
use Rattle.hwp_law_served.specs.hwp_geom.declared.Layout.{Layout}
use Rattle.hwp_law_served.specs.hwp_geom.declared.Who.{Who}
use Rattle.hwp_law_served.specs.hwp_geom.Limits.{line_limit}
use Rattle.hwp_law_served.specs.hwp_page.Orders.{IsEarlier}
use Rattle.hwp_law_served.specs.hwp_core_rule.declared.Spoiled.{Spoiled}
use Rattle.hwp_law_served.specs.hwp_core_rule.declared.State.{State}
use Rattle.hwp_law_served.specs.hwp_core_rule.declared.View.{View}
use Rattle.hwp_law_served.specs.hwp_core_rule.Steps.{damage_place}
use Rattle.hwp_law_served.specs.hwp_core_rule.Words.{IsPlace, Words, words_of}
use Rattle.hwp_law_served.specs.hwp_core_rule.parts.Damage.{is_bad, is_spoil}
use Rattle.hwp_law_served.proofs.of_hwp_core_rule.CountsBelow.{some-term}
use Rattle.hwp_law_served.proofs.of_hwp_core_rule.Lists.{at_map, map-was}
use Rattle.hwp_law_served.specs.hwp_core_rule.Boards.{view_of}
use Rattle.hwp_law_served.specs.hwp_core_rule.Known.{Saw}
use Rattle.hwp_law_served.specs.hwp_script_words.declared.Command.{Command}
use Rattle.hwp_law_served.specs.hwp_script_words.declared.Script.{Script}
use Rattle.hwp_law_served.specs.hwp_report_text.declared.Answer.TheVariants as answers
use Rattle.hwp_law_served.specs.hwp_report_text.declared.Answer.{Answer}
use Rattle.hwp_law_served.specs.hwp_report_text.declared.FrameLine.{FrameLine}
use Rattle.hwp_law_served.specs.hwp_report_text.declared.Report.{Report}
use Rattle.hwp_law_served.specs.hwp_law.Lines.{answer_of, bad_lines_of, weak_lines_of}
use Rattle.hwp_law_served.specs.hwp_law.Commands.{command_at}
use Rattle.hwp_law_served.specs.hwp_cpu_row.declared.FrameChange.{FrameChange}
use Rattle.hwp_law_served.specs.hwp_cpu_row.declared.Row.{Row}
use Rattle.hwp_law_served.specs.hwp_claim.declared.EventOutcome.{EventOutcome}
use Rattle.hwp_law_served.specs.hwp_claim.Checks.{SawBad}
use Rattle.hwp_law_served.proofs.Homes.{there-is}
use Rattle.hwp_law_served.proofs.of_hwp_core_rule.MoveKeeps.{shaped}
use Rattle.hwp_law_served.specs.hwp_law.Frames.{WasDone}
use Rattle.hwp_law_served.specs.Causes.{HasSpoiledLine, IsAnswerCaused, IsCausedWith}
use Rattle.hwp_law_served.proofs.copied.Uncopied.{is_store, uncopied}
use Rattle.hwp_law_served.specs.Served.{spoiling}
use Rattle.hwp_law_served.proofs.RunEnds.{IsEnd, command-of, list-of, rows-of, seat-view, served-of}
use Rattle.hwp_law_served.proofs.RowLines.{answer-told}
use Rattle.hwp_law_served.proofs.lines.SightedLines.{bits-stay, has-spoiled, listed-bit, words_at}
use Rattle.hwp_law_served.proofs.deeds.Made.{command-is}

-- ---- bits

pub set-at : (w n : ℕ) → IsBitSet w n → bit_at w n ≡ 1
set-at w n is = sym (shr_and_one w n) ∙ (bit_set_by_shift w n).1 is

at-set : (w n : ℕ) → bit_at w n ≡ 1 → IsBitSet w n
at-set w n one = (bit_set_by_shift w n).0 (shr_and_one w n ∙ one)

low-bit : (w n : ℕ) → w < 2 ^ 64 → IsBitSet w n → n < 64
low-bit w n low is = which (cases_lt n 64)
  where
    which : (n < 64) ⊎ (64 ≤ n) → n < 64
    which (inl within) = within
    which (inr past) =
        let one : bit_at w n ≡ 1 = set-at w n is in
        let none : bit_at w n ≡ 0 = bit_at_above w 64 n low past in
        absurd (omega (arith, one, none))

-- ---- what is listed of a line

some-more : (b : Bool) → 0 < from_bool b → b ≡ true
some-more true more = refl
some-more false more = absurd (omega (arith, more))

is-bad : (d : Damage) → is_bad d ≡ true → d ≡ damages.Bad
is-bad damages.Bad is = refl
is-bad damages.Weak is = absurd (true≢false (sym is))

is-weak : (d : Damage) → not (is_bad d) ≡ true → d ≡ damages.Weak
is-weak damages.Bad is = absurd (true≢false (sym is))
is-weak damages.Weak is = refl

-- what a member that counts says
record IsSpoil (frame : Frame) (n : ℕ) (damage : Damage) (s : Spoiled) : Type 0 where
  frame_is : s.frame ≡ frame
  line_is : s.line ≡ n
  damage_is : s.damage ≡ damage

spoil-is : (frame : Frame) (n : ℕ) (damage : Damage) (s : Spoiled) → is_spoil frame.0 n (is_bad damage) s ≡ true → IsSpoil frame n damage s
spoil-is frame n damages.Bad s is =
    let one = and_parts (s.frame.0 == frame.0) ((s.line == n) && is_bad s.damage) is in
    let two = and_parts (s.line == n) (is_bad s.damage) one.1 in
    record { frame_is = ap (λ (i : ℕ). record { 0 = i }) (eqb-true s.frame.0 frame.0 one.0); line_is = eqb-true s.line n two.0; damage_is = is-bad s.damage two.1 }
spoil-is frame n damages.Weak s is =
    let one = and_parts (s.frame.0 == frame.0) ((s.line == n) && not (is_bad s.damage)) is in
    let two = and_parts (s.line == n) (not (is_bad s.damage)) one.1 in
    record { frame_is = ap (λ (i : ℕ). record { 0 = i }) (eqb-true s.frame.0 frame.0 one.0); line_is = eqb-true s.line n two.0; damage_is = is-weak s.damage two.1 }

spoil-cause : (layout : Layout) (earlier : List (Command × Answer)) (view : View) (who : Who) (frame : Frame) (n : ℕ) (damage : Damage) (told : List EventOutcome) (own : Option FrameChange) → IsAnswerCaused layout earlier view who (spoiling damage frame n) told own answers.Done
    → HasSpoiledLine view who frame n damage
spoil-cause layout earlier view who frame n damages.Bad told own caused = caused
spoil-cause layout earlier view who frame n damages.Weak told own caused = caused

-- a command that spoils a line copies nothing
pub spoiling-plain : (frame : Frame) (n : ℕ) (damage : Damage) → is_store (spoiling damage frame n) ≡ false
spoiling-plain frame n damages.Bad = refl
spoiling-plain frame n damages.Weak = refl

-- ---- the lines

module _ (script : Script) (copies : Who → Option VSlot) (seat : Cpu → ℕ) (last : State) (report : Report) (end : IsEnd script copies seat last report) where
  abbrev all_spoiled : List (List Spoiled)
  all_spoiled = map (λ (v : View). v.spoiled) last.views

  -- a line that a view lists was spoiled by a command that was answered so
  done-of : (i j : ℕ) (v : View) (s : Spoiled) → slice_get last.views i ≡ Some v → slice_get v.spoiled j ≡ Some s → WasDone script report (spoiling s.damage s.frame s.line)
  done-of i j v s view there =
      let part = end.spoilers i v view j s there in
      let own = subst (λ (c : Cpu). (c.0 < script.layout.cpus) × (v ≡ view_of last (seat c))) part.3 (seat-view script.layout seat last end.board.holds end.seated i part.0 v part.1 view part.2) in
      let list = list-of script copies seat last report end s.stamp.who.cpu own.0 in
      let rows = rows-of script copies seat last report end s.stamp.who.cpu own.0 in
      let served = (served-of script copies seat last report end s.stamp.who.cpu list.0 rows.0 list.1 rows.1).0 in
      let by = served.spoiled j s (sym (ap (λ (x : View). slice_get x.spoiled j) own.1) ∙ there) in
      let of = command-of script copies seat last report end s.stamp.who list.0 (spoiling s.damage s.frame s.line) list.1 by.there in
      let rows_same : of.own ≡ rows.0 = same_Some of.own rows.0 (sym of.own_is ∙ rows.1) in
      let row : of.row ≡ by.row = same_Some of.row by.row (sym of.row_is ∙ ap (λ (l : List Row). slice_get l s.stamp.who.seq) rows_same ∙ by.row_is) in
      record {
        who = s.stamp.who;
        made = command-is script s.stamp.who list.0 (spoiling s.damage s.frame s.line) list.1 by.there;
        answered = answer-told script copies seat last report end (view_of last (seat s.stamp.who.cpu)) s.stamp.who of ∙ ap (λ (a : Answer). Some a) (ap (λ (r : Row). r.answer) row ∙ by.answered);
      }

  -- a command that was answered so spoiled the line
  spoiled-by : (who : Who) (frame : Frame) (n : ℕ) (damage : Damage) → command_at script who ≡ Some (spoiling damage frame n) → answer_of report who ≡ Some answers.Done → (who.cpu.0 < script.layout.cpus) × HasSpoiledLine (view_of last (seat who.cpu)) who frame n damage
  spoiled-by who frame n damage made answered =
      option_and_then_some (λ (l : List Command). slice_get l who.seq) (slice_get script.lists who.cpu.0) (spoiling damage frame n) made (λ list list_is there. (
      let of = command-of script copies seat last report end who list (spoiling damage frame n) list_is there in
      let lists_same : of.list ≡ list = same_Some of.list list (sym of.list_is ∙ list_is) in
      let command : of.command ≡ spoiling damage frame n = same_Some of.command (spoiling damage frame n) (sym of.command_is ∙ ap (λ (l : List Command). slice_get l who.seq) lists_same ∙ there) in
      let answer : of.row.answer ≡ answers.Done = same_Some of.row.answer answers.Done (sym (answer-told script copies seat last report end (view_of last (seat who.cpu)) who of) ∙ answered) in (
        of.inside,
        spoil-cause script.layout of.earlier (view_of last (seat who.cpu)) who frame n damage of.row.told of.row.own
            (uncopied script.layout of.earlier (copies who) (view_of last (seat who.cpu)) who (spoiling damage frame n) of.before of.row.told of.row.own answers.Done (spoiling-plain frame n damage)
            (subst (λ (c : Command). IsCausedWith script.layout of.earlier (copies who) (view_of last (seat who.cpu)) who c of.before of.row.told of.row.own answers.Done) command
            (subst (IsCausedWith script.layout of.earlier (copies who) (view_of last (seat who.cpu)) who of.command of.before of.row.told of.row.own) answer of.served.caused))),
      )))

  abbrev words : Words
  words = words_of script.layout last.words

  low-at : (damage : Damage) (frame : Frame) (w : ℕ) → slice_get (words_at damage words) frame.0 ≡ Some w → w < 2 ^ 64
  low-at damages.Bad frame w there = end.low.bads frame.0 w there
  low-at damages.Weak frame w there = end.low.weaks frame.0 w there

  module _ (frame : Frame) (damage : Damage) (n w : ℕ) (there : slice_get (words_at damage words) frame.0 ≡ Some w) where
    done : IsBitSet w n → WasDone script report (spoiling damage frame n)
    done is =
        let counts : Spoiled → ℕ = λ (s : Spoiled). from_bool (is_spoil frame.0 n (is_bad damage) s) in
        let one : bit_at w n ≡ 1 = set-at w n is in
        let listed : bit_at w n ≡ min (sum_by (sum_by counts) all_spoiled) 1 = has-spoiled script.layout last end.board.holds damage frame w there n (low-bit w n (low-at damage frame w there) is) in
        let list = some-term (sum_by counts) all_spoiled (omega (arith, one, listed)) in
        let member = some-term counts list.1 list.3 in
        let was = map-was (λ (v : View). v.spoiled) last.views list.0 list.1 list.2 in
        let s : Spoiled = member.1 in
        let its = spoil-is frame n damage s (some-more (is_spoil frame.0 n (is_bad damage) s) member.3) in
        let by : WasDone script report (spoiling s.damage s.frame s.line) = done-of list.0 member.0 was.0 s was.1 (ap (λ (l : List Spoiled). slice_get l member.0) was.2 ∙ member.2) in
        subst (λ (d : Damage). WasDone script report (spoiling d frame n)) its.damage_is
        (subst (λ (f : Frame). WasDone script report (spoiling s.damage f n)) its.frame_is (subst (λ (l : ℕ). WasDone script report (spoiling s.damage s.frame l)) its.line_is by))

    marked : WasDone script report (spoiling damage frame n) → IsBitSet w n
    marked was =
        let view : View = view_of last (seat was.who.cpu) in
        let by = spoiled-by was.who frame n damage was.made was.answered in
        let has = by.1 in
        let d : Spoiled = has.spoiled.1 in
        let its = has.spoiled.3 in
        let within : d.line < line_limit = subst (λ (l : ℕ). l < line_limit) (sym its.2) has.within in
        let standing : slice_get (words_at d.damage words) d.frame.0 ≡ Some w
        = subst (λ (x : Damage). slice_get (words_at x words) d.frame.0 ≡ Some w) (sym its.3) (subst (λ (f : Frame). slice_get (words_at damage words) f.0 ≡ Some w) (sym its.1) there) in
        at-set w n (ap (λ (l : ℕ). bit_at w l) (sym its.2) ∙ listed-bit script.layout last end.board.holds (seat was.who.cpu) has.spoiled.0 view d (end.seated.there was.who.cpu by.0) has.spoiled.2 within w standing)

  -- a line of a frame is bad, or weak, at the end exactly where a command made it so
  pub spoiled-so : (frame : Frame) (damage : Damage) (n w : ℕ) → slice_get (words_at damage words) frame.0 ≡ Some w → IsBitSet w n ↔ WasDone script report (spoiling damage frame n)
  spoiled-so frame damage n w there = (done frame damage n w there, marked frame damage n w there)

  -- ---- what a command saw

  -- a line that a command saw spoiled in a frame: it is so at the end, and one of the frame's lines
  pub record IsSpoiledAtEnd (frame : Frame) (damage : Damage) (line : ℕ) : Type 0 where
    pub inside : frame.0 < script.layout.frames
    pub word : ℕ
    pub there : slice_get (words_at damage words) frame.0 ≡ Some word
    pub set : IsBitSet word line
    pub few : line < 64

  damage-inside : (damage : Damage) (frame : Frame) → IsPlace script.layout (damage_place frame damage) → frame.0 < script.layout.frames
  damage-inside damages.Bad frame inside = inside
  damage-inside damages.Weak frame inside = inside

  many : (damage : Damage) → length (words_at damage words) ≡ script.layout.frames
  many damages.Bad = (shaped script.layout last end.board.holds).bads
  many damages.Weak = (shaped script.layout last end.board.holds).weaks

  pub spoiled-at-end : (cpu : Cpu) → cpu.0 < script.layout.cpus → (who : Who) (frame : Frame) (damage : Damage) (line mask : ℕ) → bit_at mask line ≡ 1 → Saw (view_of last (seat cpu)) who (damage_place frame damage) mask → IsSpoiledAtEnd frame damage line
  spoiled-at-end cpu inside who frame damage line mask one saw =
      let view : View = view_of last (seat cpu) in
      let its = end.sights (seat cpu) view (end.seated.there cpu inside) saw.0 saw.1 saw.2 in
      let within : frame.0 < script.layout.frames = damage-inside damage frame (subst (IsPlace script.layout) saw.3.1 its.inside) in
      let word = there-is (words_at damage words) frame.0 (subst (λ (n : ℕ). frame.0 < n) (sym (many damage)) within) in
      let same : bit_at saw.1.word line ≡ bit_at mask line = ap (λ (w : ℕ). bit_at w line) saw.3.2 in
      let stays : bit_at saw.1.word line ≤ bit_at word.0 line
      = bits-stay script.layout last end.board.holds damage frame word.0 word.1 (seat cpu) view.sights (at_map (λ (v : View). v.sights) last.views (seat cpu) view (end.seated.there cpu inside)) saw.0 saw.1 saw.2 saw.3.1 line in
      let bit : bit_at word.0 line < 2 = bit_at-lt word.0 line in
      let set_ : IsBitSet word.0 line = at-set word.0 line (omega (arith, one, same, stays, bit)) in
      record { inside = within; word = word.0; there = word.1; set = set_; few = low-bit word.0 line (low-at damage frame word.0 word.1) set_ }

  -- what the report tells of the frame's bad lines, or of its weak ones
  abbrev pub lines_told : Damage → ℕ → ℕ
  lines_told damages.Bad frame = bad_lines_of report frame
  lines_told damages.Weak frame = weak_lines_of report frame

  told-at-end : (damage : Damage) (frame : Frame) (word : ℕ) → frame.0 < script.layout.frames → slice_get (words_at damage words) frame.0 ≡ Some word → lines_told damage frame.0 ≡ word
  told-at-end damage frame word within there = which damage there
    where
      l : (x : FrameLine) × (slice_get report.frames frame.0 ≡ Some x)
      l = there-is report.frames frame.0 (subst (λ (n : ℕ). frame.0 < n) (sym end.board.frames_fit) within)

      which : (damage : Damage) → slice_get (words_at damage words) frame.0 ≡ Some word → lines_told damage frame.0 ≡ word
      which damages.Bad there = ap (λ (o : Option FrameLine). unwrap_or (option_map (λ (x : FrameLine). x.bad.0) o) 0) l.1 ∙ same_Some l.0.bad.0 word (sym (end.board.ends.frames frame l.0 l.1).bad ∙ there)
      which damages.Weak there = ap (λ (o : Option FrameLine). unwrap_or (option_map (λ (x : FrameLine). x.weak.0) o) 0) l.1 ∙ same_Some l.0.weak.0 word (sym (end.board.ends.frames frame l.0 l.1).weak ∙ there)

  -- so that the report tells the line
  pub spoil-shown : (cpu : Cpu) → cpu.0 < script.layout.cpus → (who : Who) (frame : Frame) (damage : Damage) (line mask : ℕ) → bit_at mask line ≡ 1 → Saw (view_of last (seat cpu)) who (damage_place frame damage) mask → IsBitSet (lines_told damage frame.0) line
  spoil-shown cpu inside who frame damage line mask one saw =
      let is = spoiled-at-end cpu inside who frame damage line mask one saw in
      subst (λ (w : ℕ). IsBitSet w line) (sym (told-at-end damage frame is.word is.inside is.there)) is.set

  pub bad-shown : (cpu : Cpu) → cpu.0 < script.layout.cpus → (who : Who) (line : ℕ) (frame : Frame) → SawBad script.layout (view_of last (seat cpu)) who line frame → IsBitSet (bad_lines_of report frame.0) line
  bad-shown cpu inside who line frame saw = spoil-shown cpu inside who frame damages.Bad line saw.mask (set-at saw.mask line saw.bad) saw.saw

  -- ---- what an earlier command spoiled

  -- a later command of the processor that looks at the frame sees the line
  pub seen-after : (cpu : Cpu) → cpu.0 < script.layout.cpus → (earlier who : Who) → IsEarlier earlier who → (frame : Frame) (damage : Damage) (line mask : ℕ) → HasSpoiledLine (view_of last (seat cpu)) earlier frame line damage
      → Saw (view_of last (seat cpu)) who (damage_place frame damage) mask → bit_at mask line ≡ 1
  seen-after cpu inside earlier who before frame damage line mask has saw =
      let view : View = view_of last (seat cpu) in
      let d : Spoiled = has.spoiled.1 in
      let its = has.spoiled.3 in
      let within : d.line < line_limit = subst (λ (l : ℕ). l < line_limit) (sym its.2) has.within in
      let place : saw.1.place ≡ damage_place d.frame d.damage = saw.3.1 ∙ ap (λ (f : Frame). damage_place f damage) (sym its.1) ∙ ap (damage_place d.frame) (sym its.3) in
      let seen = (end.sights (seat cpu) view (end.seated.there cpu inside) saw.0 saw.1 saw.2).seen has.spoiled.0 d has.spoiled.2 in
      ap (λ (w : ℕ). bit_at w line) (sym saw.3.2) ∙ ap (bit_at saw.1.word) (sym its.2) ∙ seen (subst (IsEarlier d.stamp.who) (sym saw.3.0) (subst (λ (w : Who). IsEarlier w who) (sym its.0) before)) within place
