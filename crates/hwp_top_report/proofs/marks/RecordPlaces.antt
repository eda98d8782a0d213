-- The record of a frame is its marks in the order of their places: it alternates, and ends as the frame's word says. And what a command
-- saw of the frame's word, or of the counter, is shown by the records.
use Rattle.std.proofs.Common.{◌≡◌, ◌≢◌, ◌⊎◌, inl, inr, ℕ, zero, suc, ◌+◌, ◌%◌, ◌<◌, ◌≤◌, ◌==◌, not, Bool, true, false, List, [], ◌∷◌, Option, Some, length, slice_get, option_map, take, unwrap_or, refl, sym, ap, ◌∙◌, subst, arith, true≢false}
use Rattle.std.specs.Prelude.{Any, fold}
use Rattle.std.specs.Int.{from_bool}
use Rattle.std.proofs.lemmas.Bool.{eq-eqb, ne_eqb}
use Rattle.std.proofs.lemmas.List.{take_all}
use Rattle.hwp_law_served.specs.hwp_geom.declared.VSlot.{VSlot}
use Rattle.hwp_law_served.specs.hwp_geom.declared.Cpu.{Cpu}
use Rattle.hwp_law_served.specs.hwp_geom.declared.Frame.{Frame}
use Rattle.hwp_law_served.specs.hwp_geom.declared.Who.{Who}
use Rattle.hwp_law_served.specs.hwp_page.Orders.{IsEarlier, IsNotLater}
use Rattle.hwp_law_served.specs.hwp_words.Counters.{hardware_of}
use Rattle.hwp_law_served.specs.hwp_words.Frames.{is_poisoned, poison_of}
use Rattle.hwp_law_served.specs.hwp_core_rule.declared.Mark.{Mark}
use Rattle.hwp_law_served.specs.hwp_core_rule.declared.MarkKind.{MarkKind}
use Rattle.hwp_law_served.specs.hwp_core_rule.declared.SharedWord.TheVariants as places
use Rattle.hwp_law_served.specs.hwp_core_rule.declared.Sight.{Sight}
use Rattle.hwp_law_served.specs.hwp_core_rule.declared.State.{State}
use Rattle.hwp_law_served.specs.hwp_core_rule.declared.View.{View}
use Rattle.hwp_law_served.specs.hwp_core_rule.Lists.{SomeMember}
use Rattle.hwp_law_served.specs.hwp_core_rule.Rule.{count_debts_of}
use Rattle.hwp_law_served.specs.hwp_core_rule.Words.{words_of}
use Rattle.hwp_law_served.specs.hwp_core_rule.parts.Counter.{CountDebts, is_by_hardware as is_by_bank, is_revival}
use Rattle.hwp_law_served.proofs.of_hwp_core_rule.Lists.{at_map, map-was, same-or}
use Rattle.hwp_law_served.specs.hwp_core_rule.Boards.{view_of}
use Rattle.hwp_law_served.specs.hwp_core_rule.Known.{Saw}
use Rattle.hwp_law_served.specs.hwp_script_words.declared.Script.{Script}
use Rattle.hwp_law_served.specs.hwp_report_text.declared.FrameLine.{FrameLine}
use Rattle.hwp_law_served.specs.hwp_report_text.declared.How.TheVariants as hows
use Rattle.hwp_law_served.specs.hwp_report_text.declared.MarkLine.{MarkLine}
use Rattle.hwp_law_served.specs.hwp_report_text.declared.MarkLine.TheVariants as marks
use Rattle.hwp_law_served.specs.hwp_report_text.declared.Report.{Report}
use Rattle.hwp_law_served.specs.hwp_law.Causes.{WasHardwareSeen}
use Rattle.hwp_law_served.specs.hwp_law.Lines.{marks_of}
use Rattle.hwp_law_served.specs.hwp_law.Records.{IsMarkAt, WasPoisoned, ends_poisoned, is_by_hardware, is_poisoning, who_in}
use Rattle.hwp_law_served.specs.Ends.{IsFrameOn, Tells}
use Rattle.hwp_law_served.proofs.Homes.{there-is}
use Rattle.hwp_law_served.specs.Runs.{place_in}
use Rattle.hwp_law_served.proofs.RunEnds.{IsEnd}
use Rattle.hwp_law_served.proofs.marks.Marked.{any-of, line-of}
use Rattle.hwp_law_served.proofs.marks.OrderedLists.{AreAllFrom, AreInOrder, in-order, ordered-from}
use Rattle.hwp_law_served.proofs.marks.MarkPlaces.{IsMarkOf, below-count, has-place, mark_count, mark_place}
use Rattle.hwp_law_served.proofs.marks.MarkSights.{IsSplitBy, count-before}

-- ---- what a line tells of its mark

pub of-frame : (frame : Frame) (x : MarkLine) (m : Mark) → Tells frame x m → m.frame ≡ frame
of-frame frame (marks.Poisoned cycle who how) m tells = tells.0
of-frame frame (marks.Unpoisoned cycle who) m tells = tells.0

pub of-command : (frame : Frame) (x : MarkLine) (m : Mark) → Tells frame x m → who_in x ≡ m.stamp.who
of-command frame (marks.Poisoned cycle who how) m tells = sym tells.2
of-command frame (marks.Unpoisoned cycle who) m tells = sym tells.2

pub place-told : (frame : Frame) (x : MarkLine) (m : Mark) → Tells frame x m → place_in x ≡ mark_place m
place-told frame (marks.Poisoned cycle who how) m (frame_is, cycle_is, who_is, kind_is) =
    let turn : from_bool (is_revival m.kind) ≡ 0 = ap (λ (k : MarkKind). from_bool (is_revival k)) kind_is in
    omega (arith, cycle_is, turn)
place-told frame (marks.Unpoisoned cycle who) m (frame_is, cycle_is, who_is, kind_is) =
    let turn : from_bool (is_revival m.kind) ≡ 1 = ap (λ (k : MarkKind). from_bool (is_revival k)) kind_is in
    omega (arith, cycle_is, turn)

hardware-told : (frame : Frame) (x : MarkLine) (m : Mark) → Tells frame x m → is_by_bank m.kind ≡ true → is_by_hardware x ≡ true
hardware-told frame (marks.Poisoned cycle who (hows.Failure hardware situation outcome)) m (frame_is, cycle_is, who_is, kind_is) is = sym (ap is_by_bank kind_is) ∙ is
hardware-told frame (marks.Poisoned cycle who hows.Moved) m (frame_is, cycle_is, who_is, kind_is) is = absurd (true≢false (sym is ∙ ap is_by_bank kind_is))
hardware-told frame (marks.Poisoned cycle who hows.TakenFree) m (frame_is, cycle_is, who_is, kind_is) is = absurd (true≢false (sym is ∙ ap is_by_bank kind_is))
hardware-told frame (marks.Unpoisoned cycle who) m (frame_is, cycle_is, who_is, kind_is) is = absurd (true≢false (sym is ∙ ap is_by_bank kind_is))

-- ---- lines in the order of their places

abbrev is_odd : ℕ → Bool
is_odd n = n % 2 == 1

mark-at : (x : MarkLine) (k : ℕ) → place_in x ≡ k → IsMarkAt k x
mark-at x k at = which (is_poisoning x) refl
  where
    which : (b : Bool) → is_poisoning x ≡ b → IsMarkAt k x
    which true is = (let turn : from_bool (not (is_poisoning x)) ≡ 0 = ap (λ (b : Bool). from_bool (not b)) is in
        record { cycle = omega (arith, at, turn); turn = is ∙ sym (eq-eqb (k % 2) 0 (omega (arith, at, turn))) })
    which false is = (let turn : from_bool (not (is_poisoning x)) ≡ 1 = ap (λ (b : Bool). from_bool (not b)) is in
        record { cycle = omega (arith, at, turn); turn = is ∙ sym (ne_eqb (k % 2) 0 (λ even. let no_ : k % 2 ≡ 0 = even in omega (arith, at, turn, no_))) })

poisons-at : (x : MarkLine) (k : ℕ) → place_in x ≡ k → is_poisoning x ≡ is_odd (k + 1)
poisons-at x k at = which (is_poisoning x) refl
  where
    which : (b : Bool) → is_poisoning x ≡ b → is_poisoning x ≡ is_odd (k + 1)
    which true is = (let turn : from_bool (not (is_poisoning x)) ≡ 0 = ap (λ (b : Bool). from_bool (not b)) is in is ∙ sym (eq-eqb ((k + 1) % 2) 1 (omega (arith, at, turn))))
    which false is = (let turn : from_bool (not (is_poisoning x)) ≡ 1 = ap (λ (b : Bool). from_bool (not b)) is in
        is ∙ sym (ne_eqb ((k + 1) % 2) 1 (λ odd. let no_ : (k + 1) % 2 ≡ 1 = odd in omega (arith, at, turn, no_))))

-- after a number of lines the frame is poisoned exactly where the number is odd
ends-at : (l : List MarkLine) (base n : ℕ) (b : Bool) → ((k : ℕ) (x : MarkLine) → slice_get l k ≡ Some x → place_in x ≡ base + k) → n ≤ length l → b ≡ is_odd base → fold (λ (before : Bool) (m : MarkLine). is_poisoning m) b (take n l) ≡ is_odd (base + n)
ends-at [] base zero b each few start = start ∙ ap is_odd (let same : base ≡ base + 0 = omega arith in same)
ends-at [] base (suc n) b each few start = absurd (omega (arith, few))
ends-at (x ∷ xs) base zero b each few start = start ∙ ap is_odd (let same : base ≡ base + 0 = omega arith in same)
ends-at (x ∷ xs) base (suc n) b each few start =
    let first : place_in x ≡ base + 0 = each 0 x refl in
    let at : place_in x ≡ base = omega (arith, first) in
    let same : base + 1 + n ≡ base + suc n = omega arith in
    ends-at xs (base + 1) n (is_poisoning x) (λ k y there. let is : place_in y ≡ base + suc k = each (suc k) y there in omega (arith, is)) (omega (arith, few)) (poisons-at x base at) ∙ ap is_odd same

odd-word : (word : ℕ) → is_odd (mark_count word) ≡ is_poisoned word
odd-word word = which (same-or (poison_of word) 1)
  where
    bit : poison_of word < 2
    bit = omega arith

    which : (poison_of word ≡ 1) ⊎ (poison_of word ≢ 1) → is_odd (mark_count word) ≡ is_poisoned word
    which (inl one) = eq-eqb (mark_count word % 2) 1 (omega (arith, one)) ∙ sym (eq-eqb (poison_of word) 1 one)
    which (inr other) = ne_eqb (mark_count word % 2) 1 (λ odd. let no_ : mark_count word % 2 ≡ 1 = odd in omega (arith, other, bit, no_)) ∙ sym (ne_eqb (poison_of word) 1 other)

module _ (script : Script) (copies : Who → Option VSlot) (seat : Cpu → ℕ) (last : State) (report : Report) (end : IsEnd script copies seat last report) where
  -- the mark that a line of a record tells, in the view that lists it
  pub record IsOfMark (frame : Frame) (x : MarkLine) : Type 0 where
    pub mark : Mark
    pub i : ℕ
    pub view : View
    pub view_is : slice_get last.views i ≡ Some view
    pub j : ℕ
    pub listed : slice_get view.marks j ≡ Some mark
    pub tells : Tells frame x mark
    pub frame_is : mark.frame ≡ frame

  pub of-mark : (frame : Frame) (line : FrameLine) → slice_get report.frames frame.0 ≡ Some line → (k : ℕ) (x : MarkLine) → slice_get line.marks k ≡ Some x → IsOfMark frame x
  of-mark frame line line_is k x there =
      let told = (end.board.ends.frames frame line line_is).marks.told k x there in
      let m : Mark = told.0 in
      let listed = told.1 in
      let was = map-was (λ (v : View). v.marks) last.views listed.0 listed.1 listed.2 in
      record {
        mark = m;
        i = listed.0;
        view = was.0;
        view_is = was.1;
        j = listed.3.0;
        listed = ap (λ (l : List Mark). slice_get l listed.3.0) was.2 ∙ listed.3.2 ∙ ap (λ (y : Mark). Some y) listed.3.3;
        tells = told.2;
        frame_is = of-frame frame x m told.2;
      }

  -- and the line that tells a mark
  pub line-told : (frame : Frame) (line : FrameLine) → slice_get report.frames frame.0 ≡ Some line → (i j : ℕ) (v : View) (m : Mark) → slice_get last.views i ≡ Some v → slice_get v.marks j ≡ Some m → m.frame ≡ frame → SomeMember (λ (x : MarkLine). Tells frame x m) line.marks
  line-told frame line line_is i j v m view there of = (end.board.ends.frames frame line line_is).marks.listed m (i, v.marks, at_map (λ (x : View). x.marks) last.views i v view, (j, m, there, refl)) of

  module _ (frame : Frame) (line : FrameLine) (line_is : slice_get report.frames frame.0 ≡ Some line) where
    abbrev pub on : IsFrameOn (words_of script.layout last.words) last.views frame line
    on = end.board.ends.frames frame line line_is

    -- its places are all the numbers below the count of the frame's word
    all-places : AreAllFrom place_in line.marks 0 (mark_count on.word)
    all-places = record {
      rising = ordered-from (λ (a b : MarkLine). place_in a < place_in b) line.marks (end.records frame line line_is).rising;
      within = λ k x there. (
          let of = of-mark frame line line_is k x there in
          let place : place_in x ≡ mark_place of.mark = place-told frame x of.mark of.tells in
          let less : mark_place of.mark < mark_count on.word = below-count script.layout last end.board.holds of.i of.j of.view of.mark on.word of.view_is of.listed (ap (λ (f : Frame). slice_get (words_of script.layout last.words).frames f.0) of.frame_is ∙ on.there) in
          (omega arith, omega (arith, place, less)));
      all = λ p low below. (
          let has : IsMarkOf script.layout last end.board.holds frame.0 p = has-place script.layout last end.board.holds frame.0 on.word p on.there below in
          let some = line-told frame line line_is has.i has.j has.view has.mark has.view_is has.listed (ap (λ (n : ℕ). record { 0 = n }) has.frame_is) in
          (some.0, some.1, some.2, place-told frame some.1 has.mark some.3 ∙ has.place_is));
      low = omega arith;
    }

    pub in-places : AreInOrder place_in line.marks 0 (mark_count on.word)
    in-places = in-order place_in line.marks 0 (mark_count on.word) all-places

    at-place : (k : ℕ) (x : MarkLine) → slice_get line.marks k ≡ Some x → place_in x ≡ k
    at-place k x there = let is : place_in x ≡ 0 + k = in-places.each k x there in omega (arith, is)

    -- the record alternates
    pub marks-at : (k : ℕ) (x : MarkLine) → slice_get line.marks k ≡ Some x → IsMarkAt k x
    marks-at k x there = mark-at x k (at-place k x there)

    -- and ends as the word says
    ends-by : (n : ℕ) → n ≤ length line.marks → ends_poisoned (take n line.marks) ≡ is_odd n
    ends-by n few = ends-at line.marks 0 n false in-places.each few refl ∙ ap is_odd (let same : 0 + n ≡ n = omega arith in same)

    pub ends-are : ends_poisoned line.marks ≡ is_poisoned on.word
    ends-are =
        let count : 0 + length line.marks ≡ mark_count on.word = in-places.count in
        let all : length line.marks ≡ mark_count on.word = omega (arith, count) in
        ap ends_poisoned (sym (take_all (length line.marks) line.marks (omega arith))) ∙ ends-by (length line.marks) (omega arith) ∙ ap is_odd all ∙ odd-word on.word

  -- ---- what a command saw

  -- the record of a frame had as many marks as the word that a command saw tells
  pub was-poisoned : (cpu : Cpu) → cpu.0 < script.layout.cpus → (who : Who) (frame : Frame) (word : ℕ) (b : Bool) → is_poisoned word ≡ b → Saw (view_of last (seat cpu)) who (places.Frame frame) word → WasPoisoned (marks_of report frame.0) who b
  was-poisoned cpu inside who frame word b poisoned saw =
      let view : View = view_of last (seat cpu) in
      let view_is = end.seated.there cpu inside in
      let x : Sight = saw.1 in
      let own : x.stamp.who ≡ who = saw.3.0 in
      let split : IsSplitBy script.layout last frame x = (end.split (seat cpu) view view_is saw.0 x saw.2).1 frame saw.3.1 in
      let line = there-is report.frames frame.0 (subst (λ (n : ℕ). frame.0 < n) (sym end.board.frames_fit) split.inside) in
      let its = on frame line.0 line.1 in
      let reached : mark_count x.word ≤ mark_count its.word = count-before its.word x (end.board.holds.rule.failures.marks.shown frame its.word its.there (seat cpu) view.sights (at_map (λ (v : View). v.sights) last.views (seat cpu) view view_is) saw.0 x saw.2 saw.3.1) in
      let count : 0 + length line.0.marks ≡ mark_count its.word = (in-places frame line.0 line.1).count in
      let few : mark_count x.word ≤ length line.0.marks = omega (arith, reached, count) in
      subst (λ (l : List MarkLine). WasPoisoned l who b) (sym (ap (λ (o : Option FrameLine). unwrap_or (option_map (λ (l : FrameLine). l.marks) o) []) line.1)) (record {
        count = mark_count x.word;
        within = few;
        earlier = λ k y there before. (
            let of = of-mark frame line.0 line.1 k y there in
            let at : place_in y ≡ k = at-place frame line.0 line.1 k y there in
            let place : place_in y ≡ mark_place of.mark = place-told frame y of.mark of.tells in
            let by : IsEarlier of.mark.stamp.who x.stamp.who = subst (IsEarlier of.mark.stamp.who) (sym own) (subst (λ (w : Who). IsEarlier w who) (of-command frame y of.mark of.tells) before) in
            let less : mark_place of.mark < mark_count x.word = split.earlier of.i of.j of.view of.mark of.view_is of.listed of.frame_is by in
            omega (arith, at, place, less));
        later = λ k y there after. (
            let of = of-mark frame line.0 line.1 k y there in
            let at : place_in y ≡ k = at-place frame line.0 line.1 k y there in
            let place : place_in y ≡ mark_place of.mark = place-told frame y of.mark of.tells in
            let by : IsEarlier x.stamp.who of.mark.stamp.who = subst (λ (w : Who). IsEarlier w of.mark.stamp.who) (sym own) (subst (IsEarlier who) (of-command frame y of.mark of.tells) after) in
            let more : mark_count x.word ≤ mark_place of.mark = split.later of.i of.j of.view of.mark of.view_is of.listed of.frame_is by in
            omega (arith, at, place, more));
        ended = ends-by frame line.0 line.1 (mark_count x.word) few ∙ odd-word x.word ∙ ap is_poisoned saw.3.2 ∙ poisoned;
      })

  -- where the counter showed a failure by a bank's event, some record has one that is of no later command
  pub was-hardware-seen : (cpu : Cpu) → cpu.0 < script.layout.cpus → (who : Who) (word : ℕ) → 0 < hardware_of word → Saw (view_of last (seat cpu)) who places.Counter word → WasHardwareSeen report who
  was-hardware-seen cpu inside who word more saw =
      let view : View = view_of last (seat cpu) in
      let x : Sight = saw.1 in
      let own : x.stamp.who ≡ who = saw.3.0 in
      let some = end.board.holds.rule.failures.counter.shown (seat cpu) view.sights (at_map (λ (v : View). v.sights) last.views (seat cpu) view (end.seated.there cpu inside)) saw.0 x saw.2 saw.3.1 (subst (λ (w : ℕ). 0 < hardware_of w) (sym saw.3.2) more) in
      let was = map-was count_debts_of last.views some.0 some.1 some.2 in
      let v : View = was.0 in
      let m : Mark = some.3.1 in
      let there : slice_get v.marks some.3.0 ≡ Some m = ap (λ (d : CountDebts). slice_get d.marks some.3.0) was.2 ∙ some.3.2 in
      let line = line-of script copies seat last report end some.0 some.3.0 v m was.1 there in
      let told = line-told m.frame line.0 line.1 some.0 some.3.0 v m was.1 there refl in
      let y : MarkLine = told.1 in
      let by : IsNotLater (who_in y) who = subst (λ (w : Who). IsNotLater w who) (sym (of-command m.frame y m told.3)) (subst (IsNotLater m.stamp.who) own some.3.3.1) in
      any-of (λ (l : FrameLine). Any (λ (k : MarkLine). (is_by_hardware k ≡ true) × IsNotLater (who_in k) who) l.marks) report.frames (m.frame.0, line.0, line.1, any-of (λ (k : MarkLine). (is_by_hardware k ≡ true) × IsNotLater (who_in k) who) line.0.marks (told.0, y, told.2, (hardware-told m.frame y m told.3 some.3.3.0, by)))
