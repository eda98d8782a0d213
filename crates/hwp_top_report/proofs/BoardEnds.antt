-- What is left of a board when nothing is held: the frames' lines, the counter, and the stop.
use Rattle.std.proofs.Common.{◌≡◌, ◌≢◌, ◌||◌, ℕ, ◌+◌, ◌^◌, ◌<◌, min, Bool, true, false, cond, List, [], ◌∷◌, Option, Some, None, find, length, map, option_and_then, option_map, slice_get, slice_index, unwrap_or, refl, sym, ap, ◌∙◌, subst, arith, inl, inr, true≢false}
use Rattle.std.specs.List.{sum_by}
use Rattle.std.specs.Option.{option_or}
use Rattle.std.proofs.lemmas.Bool.{cases_lt}
use Rattle.std.proofs.lemmas.Option.{none-some, same_Some, slice_get_within}
use Rattle.hwp_plain.specs.hwp_geom.declared.Frame.{Frame}
use Rattle.hwp_plain.specs.hwp_geom.declared.Layout.{Layout}
use Rattle.hwp_plain.specs.hwp_geom.declared.Who.{Who}
use Rattle.hwp_plain.specs.hwp_page.declared.Entry.{Entry}
use Rattle.hwp_plain.specs.hwp_words.Counters.{biased_poisoned_of}
use Rattle.hwp_plain.specs.hwp_words.Frames.{poison_of}
use Rattle.hwp_plain.specs.hwp_words.Stops.{stopper_of}
use Rattle.hwp_plain.specs.hwp_core_rule.declared.State.{State}
use Rattle.hwp_plain.specs.hwp_core_rule.declared.View.{View}
use Rattle.hwp_plain.specs.hwp_core_rule.Lists.{SomeMember}
use Rattle.hwp_plain.specs.hwp_core_rule.Rule.{Holds, count_debts_of}
use Rattle.hwp_plain.specs.hwp_core_rule.Words.{words_of}
use Rattle.hwp_plain.specs.hwp_core_rule.parts.Counter.{CountDebts}
use Rattle.hwp_plain.specs.hwp_core_rule.parts.Holdings.{HoldsNothing}
use Rattle.hwp_plain.specs.hwp_core_rule.declared.Debts.{Debts}
use Rattle.hwp_plain.proofs.of_hwp_core_rule.CountsBelow.{some-term}
use Rattle.hwp_plain.proofs.of_hwp_core_rule.Lists.{at_map, each-map, each-weaken, map-was, sum-zero}
use Rattle.hwp_plain.proofs.of_hwp_core_rule.MoveKeeps.{shaped}
use Rattle.hwp_plain.proofs.of_hwp_core_rule.WordsByKind.{word-there}
use Rattle.hwp_cpu_row.specs.hwp_script_words.declared.Command.{Command}
use Rattle.hwp_cpu_row.specs.hwp_script_words.declared.Command.TheVariants as commands
use Rattle.hwp_cpu_row.specs.hwp_report_text.declared.FrameLine.{FrameLine}
use Rattle.hwp_cpu_row.specs.hwp_report_text.declared.Report.{Report}
use Rattle.hwp_cpu_row.specs.hwp_report_text.declared.Stop.{Stop}
use Rattle.hwp_cpu_row.specs.hwp_report_text.declared.StopCause.{StopCause}
use Rattle.hwp_cpu_row.specs.hwp_report_text.declared.StopCause.TheVariants as causes
use Rattle.hwp_cpu_row.specs.hwp_report_text.Acts.{is_panic, is_stopping}
use Rattle.hwp_cpu_row.specs.hwp_law.Commands.{arrival_of}
use Rattle.hwp_cpu_row.specs.hwp_severity.declared.Arrival.{Arrival}
use Rattle.hwp_law_served.specs.Ends.{IsFrameOn, IsStopOn}
use Rattle.hwp_cpu_row.specs.declared.Row.{Row}
use Rattle.hwp_cpu_row.specs.hwp_claim.declared.EventOutcome.{EventOutcome}
use Rattle.hwp_cpu_row.specs.hwp_claim.Told.{halts}
use Rattle.hwp_law_served.specs.Rows.{Note, record_of}
use Rattle.hwp_law_served.specs.Runs.{IsCauseOf, notes_of, panic_cause, row_at, severity_cause, told_cause}
use Rattle.hwp_law_served.specs.Served.{CanStop, IsFirstStopped}
use Rattle.hwp_plain.specs.Ends.{AreHistories}
use Rattle.hwp_top_report.specs.Closing.{AreLinesBy, AreWordsOf, HasStopper, IsClosing, IsEnded, IsHalter, IsLineBy, IsOutcome, IsStopBy, IsStopCause, IsStopper, cause_in, cause_of, lines_of_all}
use Rattle.hwp_top_report.proofs.Noted.{marks-moved}

-- a processor has one first stop
one-first : (own : List Row) (m n : ℕ) (a b : Row) → IsFirstStopped own m a → IsFirstStopped own n b → m ≡ n
one-first own m n a b first second = elim (cases_lt m n) [
  | inl less ↦ absurd (second.first m a less first.row_is first.stopped)
  | inr past ↦ elim (cases_lt n m) [
    | inl less ↦ absurd (first.first n b less second.row_is second.stopped)
    | inr also ↦ omega (arith, past, also)
  ]
]

one-stopper : (rows : List (List Row)) (a b : Who) → IsStopper rows a → IsStopper rows b → a.cpu.0 ≡ b.cpu.0 → a ≡ b
one-stopper rows a b first second same = λ i. record { cpu = record { 0 = same i }; seq = seq i }
  where
    own : second.own ≡ first.own
    own = same_Some second.own first.own (sym second.of_cpu ∙ sym (ap (slice_get rows) same) ∙ first.of_cpu)

    seq : a.seq ≡ b.seq
    seq = one-first first.own a.seq b.seq first.row second.row first.first (subst (λ (l : List Row). IsFirstStopped l b.seq second.row) own second.first)

-- its row
stopper-row : (rows : List (List Row)) (who : Who) (stopper : IsStopper rows who) → row_at rows who ≡ Some stopper.row
stopper-row rows who stopper = ap (λ (o : Option (List Row)). option_and_then (λ (own : List Row). slice_get own who.seq) o) stopper.of_cpu ∙ stopper.first.row_is

-- ---- the cause

-- among events that stop the machine some is graded so, or some failure is a panic
panics : (told : List EventOutcome) → halts told ≡ true → find (λ (t : EventOutcome). is_stopping t.acted) told ≡ None → (t : EventOutcome) × (find (λ (t : EventOutcome). is_panic t.acted) told ≡ Some t)
panics [] halted none = absurd (true≢false (sym halted))
panics (t ∷ ts) halted none = which (is_stopping t.acted) (is_panic t.acted) halted none (panics ts)
  where
    which : (a b : Bool) → ((a || b) || halts ts) ≡ true → cond a (Some t) (find (λ (x : EventOutcome). is_stopping x.acted) ts) ≡ None
        → (halts ts ≡ true → find (λ (x : EventOutcome). is_stopping x.acted) ts ≡ None → (x : EventOutcome) × (find (λ (x : EventOutcome). is_panic x.acted) ts ≡ Some x)) → (x : EventOutcome) × (cond b (Some t) (find (λ (x : EventOutcome). is_panic x.acted) ts) ≡ Some x)
    which true b is front rest = absurd (none-some t (sym front))
    which false true is front rest = (t, refl)
    which false false is front rest = rest is front

halts-cause : (how : Arrival) (told : List EventOutcome) → halts told ≡ true → (cause : StopCause) × (told_cause how told ≡ Some cause)
halts-cause how told halted = which (find (λ (t : EventOutcome). is_stopping t.acted) told) refl
  where
    which : (o : Option EventOutcome) → find (λ (t : EventOutcome). is_stopping t.acted) told ≡ o → (cause : StopCause) × (told_cause how told ≡ Some cause)
    which (Some t) is = (severity_cause how t, ap (λ (o : Option EventOutcome). option_or (option_map (severity_cause how) o) (option_map panic_cause (find (λ (t : EventOutcome). is_panic t.acted) told))) is)
    which None is =
        let some = panics told halted is in
        (panic_cause some.0, ap (λ (o : Option EventOutcome). option_or (option_map (severity_cause how) o) (option_map panic_cause (find (λ (t : EventOutcome). is_panic t.acted) told))) is ∙ ap (option_map panic_cause) some.1)

-- a command that can stop the machine does so for its cause
can-cause : (layout : Layout) (command : Command) (told : List EventOutcome) → CanStop layout command told → IsCauseOf command told (cause_of command told)
can-cause layout commands.RaiseNested told can = refl
can-cause layout (commands.Inject frame) told can = refl
can-cause layout command told can = let some = halts-cause (arrival_of command) told can in some.1 ∙ ap (λ (o : Option StopCause). Some (unwrap_or o causes.Shutdown)) (sym some.1)

module _ (layout : Layout) (s : State) (h : Holds layout s) (lists : List (List Command)) (rows : List (List Row)) (end : IsEnded layout lists s.views rows) where
  abbrev notes : List (List Note)
  notes = notes_of 0 rows

  -- ---- the counter

  counter-agrees : biased_poisoned_of (words_of layout s.words).counter ≡ 2 ^ 31 + sum_by poison_of (words_of layout s.words).frames
  counter-agrees =
      let owed : sum_by (λ (d : CountDebts). d.counts + d.hardware) (map count_debts_of s.views) ≡ 0 = sum-zero (λ (d : CountDebts). d.counts + d.hardware) (map count_debts_of s.views)
      (each-map count_debts_of (λ (d : CountDebts). d.counts + d.hardware ≡ 0) s.views (each-weaken HoldsNothing (λ (v : View). v.owed.counts + v.owed.hardware ≡ 0) s.views (λ v none. ap (λ (d : Debts). d.counts + d.hardware) none.owed) end.nothing)) in
      let back : sum_by (λ (d : CountDebts). d.uncounts) (map count_debts_of s.views) ≡ 0 = sum-zero (λ (d : CountDebts). d.uncounts) (map count_debts_of s.views)
      (each-map count_debts_of (λ (d : CountDebts). d.uncounts ≡ 0) s.views (each-weaken HoldsNothing (λ (v : View). v.owed.uncounts ≡ 0) s.views (λ v none. ap (λ (d : Debts). d.uncounts) none.owed) end.nothing)) in
      let agrees = h.rule.failures.counter.poisoned in
      omega (arith, agrees)

  -- ---- the frames

  frame-on : (lines : List FrameLine) → AreLinesBy (words_of layout s.words) notes layout.frames lines → (frame : Frame) (line : FrameLine) → slice_get lines frame.0 ≡ Some line → IsFrameOn (words_of layout s.words) s.views frame line
  frame-on lines are frame line there =
      let by : IsLineBy (words_of layout s.words) notes frame line = are.each frame line there in
      let inside : frame.0 < layout.frames = subst (λ (n : ℕ). frame.0 < n) are.count (slice_get_within lines frame.0 line there) in
      subst (IsFrameOn (words_of layout s.words) s.views frame) (sym by.line_is) (record {
        word = slice_index (words_of layout s.words).frames frame.0;
        there = word-there (words_of layout s.words).frames frame.0 layout.frames (shaped layout s h).frames inside;
        place = refl;
        bad = word-there (words_of layout s.words).bads frame.0 layout.frames (shaped layout s h).bads inside;
        weak = word-there (words_of layout s.words).weaks frame.0 layout.frames (shaped layout s h).weaks inside;
        marks = marks-moved s.views frame (record_of frame notes) line.marks by.marks.moved (end.marked frame);
      })

  -- ---- the stop

  -- where the stop word names a processor, some view lists the command
  some-stop : stopper_of (words_of layout s.words).stop ≢ 0 → SomeMember (λ (v : View). SomeMember (λ (w : Who). (stopper_of (words_of layout s.words).stop ≡ w.cpu.0 + 1) × IsHalter layout lists rows w) v.stops) s.views
  some-stop named =
      let one : sum_by (λ (l : List Who). length l) (map (λ (v : View). v.stops) s.views) ≡ min (stopper_of (words_of layout s.words).stop) 1 = h.rule.processors.stops.one in
      let some = some-term (λ (l : List Who). length l) (map (λ (v : View). v.stops) s.views) (omega (arith, one, named)) in
      let was = map-was (λ (v : View). v.stops) s.views some.0 some.1 some.2 in
      let first = first-of was.0.stops some.1 was.2 some.3 in
      let listed = at_map (λ (v : View). v.stops) s.views some.0 was.0 was.1 in
      (some.0, was.0, was.1, (0, first.0, first.1, (h.rule.processors.stops.named some.0 was.0.stops listed 0 first.0 first.1, end.stops some.0 was.0 was.1 0 first.0 first.1)))
    where
      first-of : (l same : List Who) → l ≡ same → 0 < length same → (w : Who) × (slice_get l 0 ≡ Some w)
      first-of [] same is some = absurd (omega (arith, some, ap (λ (x : List Who). length x) is))
      first-of (w ∷ ws) same is some = (w, refl)

  pub has-stopper : HasStopper (words_of layout s.words).stop rows
  has-stopper named = let some = some-stop named in (some.3.1, some.3.3.0, some.3.3.1.stopper)

  -- the command that the stop record names is listed, and halted the machine
  named-one : (stop : Stop) → IsStopBy (words_of layout s.words).stop lists rows (Some stop) → SomeMember (λ (v : View). SomeMember (λ (w : Who). (w ≡ stop.who) × IsHalter layout lists rows w) v.stops) s.views
  named-one stop by =
      let some = some-stop (λ none. let named : stopper_of (words_of layout s.words).stop ≡ stop.who.cpu.0 + 1 = by.0 in omega (arith, none)) in
      let named : stopper_of (words_of layout s.words).stop ≡ stop.who.cpu.0 + 1 = by.0 in
      let also : stopper_of (words_of layout s.words).stop ≡ some.3.1.cpu.0 + 1 = some.3.3.0 in
      let same : some.3.1 ≡ stop.who = one-stopper rows some.3.1 stop.who some.3.3.1.stopper by.1.0 (omega (arith, named, also)) in
      (some.0, some.1, some.2, (some.3.0, some.3.1, some.3.2, (same, some.3.3.1)))

  pub stop-on : (stop : Option Stop) → IsStopBy (words_of layout s.words).stop lists rows stop → IsStopOn (words_of layout s.words).stop s.views stop
  stop-on None by = by
  stop-on (Some stop) by =
      let some = named-one stop by in
      (by.0, (some.0, some.1.stops, at_map (λ (v : View). v.stops) s.views some.0 some.1 some.2, (some.3.0, some.3.1, some.3.2, some.3.3.0)))

  pub stop-caused : (stop : Option Stop) → IsStopBy (words_of layout s.words).stop lists rows stop → (x : Stop) → stop ≡ Some x → IsStopCause lists rows x
  stop-caused None by x is = absurd (none-some x is)
  stop-caused (Some stop) by x is =
      let some = named-one stop by in
      let stopper : IsStopper rows stop.who = by.1.0 in
      let halter : IsHalter layout lists rows stop.who = subst (IsHalter layout lists rows) some.3.3.0 some.3.3.1 in
      let same : halter.stopper.row ≡ stopper.row = same_Some halter.stopper.row stopper.row (sym (stopper-row rows stop.who halter.stopper) ∙ stopper-row rows stop.who stopper) in
      let can : CanStop layout halter.command stopper.row.told = subst (λ (r : Row). CanStop layout halter.command r.told) same halter.can in
      let cause : stop.cause ≡ cause_of halter.command stopper.row.told = by.1.1 ∙ ap (λ (o : Option Command). cause_in o stopper.row.told) halter.there in
      subst (IsStopCause lists rows) (same_Some stop x is) (record {
        command = halter.command;
        row = stopper.row;
        command_is = halter.there;
        row_is = stopper-row rows stop.who stopper;
        cause = subst (IsCauseOf halter.command stopper.row.told) (sym cause) (can-cause layout halter.command stopper.row.told can);
      })

  -- ---- the report

  pub closes : (report : Report) → report.version ≡ layout.version → AreLinesBy (words_of layout s.words) notes layout.frames report.frames → report.files ≡ (words_of layout s.words).losses
      → report.count ≡ sum_by poison_of (words_of layout s.words).frames → IsStopBy (words_of layout s.words).stop lists rows report.stop → length report.pages ≡ length layout.pages → AreHistories s.homes report.pages
      → report.cpus ≡ lines_of_all rows → IsClosing layout s lists rows report
  closes report version frames files count stop many pages lines_are = record {
    version = version;
    ends = record {
      frames = frame-on report.frames frames;
      pages = λ page entries there. record { home = pages page entries there };
      files = files;
      count = count;
      counter = counter-agrees ∙ ap (λ (n : ℕ). 2 ^ 31 + n) (sym count);
      stop = stop-on report.stop stop;
    };
    frames = frames.count;
    pages = many;
    lines = lines_are;
    marks = λ frame line there. (frames.each frame line there).marks;
    cause = stop-caused report.stop stop;
  }

-- ---- the same of the words and histories that a board came to

module _ {layout : Layout} {words : List ℕ} {pages : List (List Entry)} {lists : List (List Command)} {rows : List (List Row)} {s : State} (is : IsOutcome layout words pages lists rows s) where
  pub outcome-whole : AreWordsOf layout words
  outcome-whole = record { sound = is.holds.sound; count = sym (ap (λ (ws : List ℕ). length ws) is.words_are) ∙ is.holds.words }

  pub outcome-stopper : HasStopper (words_of layout words).stop rows
  outcome-stopper = subst (λ (ws : List ℕ). HasStopper (words_of layout ws).stop rows) is.words_are (has-stopper layout s is.holds lists rows is.ended)

  pub outcome-closes : (report : Report) → report.version ≡ layout.version → AreLinesBy (words_of layout words) (notes_of 0 rows) layout.frames report.frames → report.files ≡ (words_of layout words).losses → report.count ≡ sum_by poison_of (words_of layout words).frames
      → IsStopBy (words_of layout words).stop lists rows report.stop → report.pages ≡ pages → report.cpus ≡ lines_of_all rows → IsClosing layout s lists rows report
  outcome-closes report version frames files count stop pages_are lines_are = closes layout s is.holds lists rows is.ended report version
      (subst (λ (ws : List ℕ). AreLinesBy (words_of layout ws) (notes_of 0 rows) layout.frames report.frames) (sym is.words_are) frames)
      (files ∙ ap (λ (ws : List ℕ). (words_of layout ws).losses) (sym is.words_are))
      (count ∙ ap (λ (ws : List ℕ). sum_by poison_of (words_of layout ws).frames) (sym is.words_are))
      (subst (λ (ws : List ℕ). IsStopBy (words_of layout ws).stop lists rows report.stop) (sym is.words_are) stop)
      (ap (λ (l : List (List Entry)). length l) pages_are ∙ is.one_each)
      (subst (AreHistories s.homes) (sym pages_are) is.histories)
      lines_are
