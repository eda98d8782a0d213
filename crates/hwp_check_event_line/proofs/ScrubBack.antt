-- A scrub whose lines are right, and that passes over no marked place, is one that the law allows.
use Rattle.std.proofs.Common.{◌≡◌, ◌⊎◌, inl, inr, ℕ, zero, suc, ◌+◌, ◌-◌, ◌*◌, ◌<◌, ◌≤◌, ◌||◌, Bool, true, false, List, [], ◌∷◌, ◌++◌, Option, Some, None, fold, is_none, is_some, true≢false, unwrap_or, refl, sym, ap, ◌∙◌, subst, arith}
use Rattle.std.proofs.lemmas.Bool.{cases_eq, cases_lt}
use Rattle.std.proofs.lemmas.List.{append_assoc}
use Rattle.std.proofs.lemmas.Option.{none-some}
use Rattle.hwp_banks.specs.hwp_geom.Limits.{line_limit}
use Rattle.hwp_banks.specs.hwp_geom.declared.Frame.{Frame}
use Rattle.hwp_banks.specs.hwp_geom.declared.Who.{Who}
use Rattle.hwp_banks.specs.Addresses.{frame_at}
use Rattle.hwp_banks.specs.declared.Event.{Event}
use Rattle.hwp_banks.specs.declared.Origin.{Origin}
use Rattle.hwp_banks.specs.declared.Origin.TheVariants as origins
use Rattle.hwp_law.specs.hwp_script_words.declared.Script.{Script}
use Rattle.hwp_law.specs.hwp_report_text.declared.Report.{Report}
use Rattle.hwp_law.specs.Checks.{IsLineOf}
use Rattle.hwp_law.specs.hwp_report_text.Acts.{is_panic}
use Rattle.hwp_law.specs.hwp_severity.declared.Arrival.{Arrival}
use Rattle.hwp_law.specs.Events.{AreScrubbed, MeetsMarked}
use Rattle.hwp_law.specs.hwp_report_text.declared.EventLine.{EventLine}
use Rattle.hwp_check_event_line.specs.Found.{IsRawLine, has_stopper, resting}
use Rattle.hwp_check_event_line.specs.Scrubs.{Course, IsScrubbedLine, after, line_at, marked_from, own_at, passed_to, place_of, turn}
use Rattle.hwp_check_event_line.specs.declared.reach.Reach.{Reach}
use Rattle.hwp_check_event_line.specs.declared.reach.Turn.{Turn}
use Rattle.hwp_check_event_line.specs.declared.reach.Turn.TheVariants as turns
use Rattle.hwp_check_event_line.proofs.FoundLaws.{or-none}
use Rattle.hwp_check_event_line.proofs.MarkLaws.{is-unmarked, mark, mark-first, mark-last}
use Rattle.hwp_check_event_line.proofs.ScrubForth.{AllGood, MeetsLow, step}
use Rattle.hwp_check_event_line.proofs.ScrubFound.{BadLines, BadMet, WeakMet, bad-back, weak-back}
use Rattle.hwp_check_event_line.proofs.ScrubLines.{Known, Met, known}

module _ (script : Script) (report : Report) (who : Who) (how : Arrival) (course : Course) (most : (place : ℕ) → course.low place ≤ line_limit)
    (backs : (origin : Origin) (frame : Frame) (met : Option ℕ) → MeetsLow course.low (place_of origin frame.0) met → MeetsMarked script report who origin frame met) where
  abbrev frame_of : ℕ → Frame
  frame_of n = record { 0 = n }

  -- no place from one to another is marked
  abbrev Free : ℕ → ℕ → Type 0
  Free from to = marked_from course.low from (to - from) ≡ 0

  free-first : (from to : ℕ) → from < to → Free from to → course.low from ≡ line_limit
  free-first from to less free =
      let first : marked_from course.low from (to - from) ≡ mark course.low from + marked_from course.low (from + 1) (to - from - 1) = mark-first course.low from (to - from) (omega (arith, less)) in
      is-unmarked course.low from (most from) (let f : marked_from course.low from (to - from) ≡ 0 = free in let e : mark course.low from ≡ 0 = omega (arith, first, f) in e)

  free-rest : (from to : ℕ) → from < to → Free from to → Free (from + 1) to
  free-rest from to less free =
      let first : marked_from course.low from (to - from) ≡ mark course.low from + marked_from course.low (from + 1) (to - from - 1) = mark-first course.low from (to - from) (omega (arith, less)) in
      let size : marked_from course.low (from + 1) (to - from - 1) ≡ marked_from course.low (from + 1) (to - (from + 1)) = ap (marked_from course.low (from + 1)) (let e : to - from - 1 ≡ to - (from + 1) = omega arith in e) in
      let f : marked_from course.low from (to - from) ≡ 0 = free in
      omega (arith, first, f, size)

  -- the law of the frames from one on, and of a weak line of a frame with the frames behind it
  abbrev Frames : ℕ → Option Event → List EventLine → Option Event → Type 0
  Frames frame raw lines left = AreScrubbed script report who how frame (course.last + 1 - frame) (resting raw) lines (resting left)

  record Weaks (frame : ℕ) (raw : Option Event) (lines : List EventLine) (left : Option Event) : Type 0 where
    met : Option ℕ
    now : List EventLine
    later : List EventLine
    all : lines ≡ now ++ later
    found : WeakMet script report who how met (frame_of frame) now
    marked : MeetsMarked script report who origins.WeakLine (frame_of frame) met
    rest : Frames (frame + 1) raw later left

  make-frame : (frame : ℕ) (raw between : Option Event) (met : Option ℕ) (lines rest : List EventLine) (left : Option Event) → frame ≤ course.last → BadMet script report who how met raw (frame_of frame) lines between
      → MeetsMarked script report who origins.BadLine (frame_of frame) met → Weaks frame between rest left → Frames frame raw (lines ++ rest) left
  make-frame frame raw between met lines rest left within bad marked w =
      subst (λ (n : ℕ). AreScrubbed script report who how frame n (resting raw) (lines ++ rest) (resting left)) (let e : suc (course.last + 1 - (frame + 1)) ≡ course.last + 1 - frame = omega (arith, within) in e) (
        lines ++ w.now,
        w.later,
        resting between,
        ap (λ (ls : List EventLine). lines ++ ls) w.all ∙ sym (append_assoc lines w.now w.later),
        record {
          bad = met;
          weak = w.met;
          bad_lines = lines;
          weak_lines = w.now;
          between = resting between;
          all = refl;
          bad_found = bad-back script report who how met raw (frame_of frame) lines between bad;
          weak_found = weak-back script report who how w.met between (frame_of frame) w.now w.found;
          met_bad = marked;
          met_weak = w.marked;
        },
        w.rest,
      )

  skip-bad : (frame : ℕ) (raw : Option Event) (lines : List EventLine) (left : Option Event) → frame ≤ course.last → course.low (2 * frame) ≡ line_limit → Weaks frame raw lines left → Frames frame raw lines left
  skip-bad frame raw lines left within free w = make-frame frame raw raw None [] lines left within (refl, refl) (backs origins.BadLine (frame_of frame) None free) w

  skip-weak : (frame : ℕ) (raw : Option Event) (lines : List EventLine) (left : Option Event) → course.low (2 * frame + 1) ≡ line_limit → Frames (frame + 1) raw lines left → Weaks frame raw lines left
  skip-weak frame raw lines left free rest = record { met = None; now = []; later = lines; all = refl; found = refl; marked = backs origins.WeakLine (frame_of frame) None free; rest = rest }

  skip-frame : (frame to : ℕ) (raw : Option Event) (lines : List EventLine) (left : Option Event) → frame ≤ course.last → 2 * frame + 2 ≤ to → Free (2 * frame) to → Frames (frame + 1) raw lines left → Frames frame raw lines left
  skip-frame frame to raw lines left within less free rest =
      skip-bad frame raw lines left within (free-first (2 * frame) to (omega (arith, less)) free)
      (skip-weak frame raw lines left (free-first (2 * frame + 1) to (omega (arith, less)) (free-rest (2 * frame) to (omega (arith, less)) free)) rest)

  to-bad : (k frame : ℕ) (raw : Option Event) (lines : List EventLine) (left : Option Event) → frame + k ≤ course.last + 1 → Free (2 * frame) (2 * (frame + k)) → Frames (frame + k) raw lines left → Frames frame raw lines left
  to-bad zero frame raw lines left within free rest = subst (λ (n : ℕ). Frames n raw lines left) (let e : frame + 0 ≡ frame = omega arith in e) rest
  to-bad (suc k) frame raw lines left within free rest =
      let two : Free (2 * frame + 1 + 1) (2 * (frame + suc k)) = free-rest (2 * frame + 1) (2 * (frame + suc k)) (omega arith) (free-rest (2 * frame) (2 * (frame + suc k)) (omega arith) free) in
      let from : 2 * frame + 1 + 1 ≡ 2 * (frame + 1) = omega arith in
      let to : 2 * (frame + suc k) ≡ 2 * (frame + 1 + k) = omega arith in
      let there : frame + suc k ≡ frame + 1 + k = omega arith in
      skip-frame frame (2 * (frame + suc k)) raw lines left (omega (arith, within)) (omega arith) free
      (to-bad k (frame + 1) raw lines left (omega (arith, within)) (subst (λ (n : ℕ). Free (2 * (frame + 1)) n) to (subst (λ (n : ℕ). Free n (2 * (frame + suc k))) from two)) (subst (λ (n : ℕ). Frames n raw lines left) there rest))

  frames-to : (frame to : ℕ) (raw : Option Event) (lines : List EventLine) (left : Option Event) → frame ≤ to → to ≤ course.last + 1 → Free (2 * frame) (2 * to) → Frames to raw lines left → Frames frame raw lines left
  frames-to frame to raw lines left less within free rest =
      let e : to ≡ frame + (to - frame) = omega (arith, less) in
      to-bad (to - frame) frame raw lines left (omega (arith, within, less)) (subst (λ (n : ℕ). Free (2 * frame) (2 * n)) e free) (subst (λ (n : ℕ). Frames n raw lines left) e rest)

  -- the law from a place on: of a frame's bad line, or of its weak line
  abbrev place : Bool → ℕ → ℕ
  place false frame = 2 * frame
  place true frame = 2 * frame + 1

  abbrev From : Bool → ℕ → Option Event → List EventLine → Option Event → Type 0
  From false frame raw lines left = Frames frame raw lines left
  From true frame raw lines left = Weaks frame raw lines left

  bad-from : (over : Bool) (frame to : ℕ) (raw : Option Event) (lines : List EventLine) (left : Option Event) → place over frame ≤ 2 * to → to ≤ course.last + 1 → Free (place over frame) (2 * to) → Frames to raw lines left → From over frame raw lines left
  bad-from false frame to raw lines left less within free rest = frames-to frame to raw lines left (omega (arith, less)) within free rest
  bad-from true frame to raw lines left less within free rest =
      let from : 2 * frame + 1 + 1 ≡ 2 * (frame + 1) = omega arith in
      skip-weak frame raw lines left (free-first (2 * frame + 1) (2 * to) (omega (arith, less)) free)
      (frames-to (frame + 1) to raw lines left (omega (arith, less)) within (subst (λ (n : ℕ). Free n (2 * to)) from (free-rest (2 * frame + 1) (2 * to) (omega (arith, less)) free)) rest)

  split-both : (from to : ℕ) → from ≤ to → Free from (to + 1) → Free from to × (course.low to ≡ line_limit)
  split-both from to less free =
      let size : marked_from course.low from (to + 1 - from) ≡ marked_from course.low from (suc (to - from)) = ap (marked_from course.low from) (let e : to + 1 - from ≡ suc (to - from) = omega (arith, less) in e) in
      let last : marked_from course.low from (suc (to - from)) ≡ marked_from course.low from (to - from) + mark course.low (from + (to - from)) = mark-last course.low from (to - from) in
      let at : mark course.low (from + (to - from)) ≡ mark course.low to = ap (mark course.low) (let e : from + (to - from) ≡ to = omega (arith, less) in e) in
      let f : marked_from course.low from (to + 1 - from) ≡ 0 = free in
      (let e : marked_from course.low from (to - from) ≡ 0 = omega (arith, size, last, f) in e, is-unmarked course.low to (most to) (let e : mark course.low to ≡ 0 = omega (arith, size, last, at, f) in e))

  weak-from : (over : Bool) (frame to : ℕ) (raw : Option Event) (lines : List EventLine) (left : Option Event) → place over frame ≤ 2 * to + 1 → to ≤ course.last → Free (place over frame) (2 * to + 1) → Weaks to raw lines left → From over frame raw lines left
  weak-from false frame to raw lines left less within free rest =
      let parts = split-both (2 * frame) (2 * to) (omega (arith, less)) free in
      frames-to frame to raw lines left (omega (arith, less)) (omega (arith, within)) parts.0 (skip-bad to raw lines left within parts.1 rest)
  weak-from true frame to raw lines left less within free rest = by (cases_eq frame to)
    where
      by : (frame ≡ to) ⊎ (frame ≡ to → ⊥) → Weaks frame raw lines left
      by (inl same) = subst (λ (n : ℕ). Weaks n raw lines left) (sym same) rest
      by (inr differs) =
          let more : 2 * frame + 1 ≤ 2 * to = elim (cases_lt frame to) [
            | inl low ↦ omega (arith, low)
            | inr high ↦ absurd (differs (omega (arith, high, less)))
          ] in
          let parts = split-both (2 * frame + 1) (2 * to) more free in
          bad-from true frame to raw lines left more (omega (arith, within)) parts.0 (skip-bad to raw lines left within parts.1 rest)

  -- where a scrub starts from; and how it ends where nothing lacks
  record Starts (over : Bool) (frame : ℕ) (raw : Option Event) (reach : Reach) : Type 0 where
    next : reach.next ≡ place over frame
    within : place over frame ≤ 2 * course.last + 2
    raw_is : reach.raw ≡ raw
    begun : reach.begun ≡ None

  record Done (reach : Reach) : Type 0 where
    begun : reach.begun ≡ None
    passed : reach.passed ≡ 0
    tail : Free reach.next (2 * course.last + 2)

  abbrev go : Reach → EventLine → Reach
  go = step script report who how course

  abbrev end : Reach → List EventLine → Reach
  end reach lines = fold go reach lines

  abbrev Holds : List EventLine → Type 0
  Holds lines =
      (over : Bool) (frame : ℕ) (raw : Option Event) (reach : Reach) → Starts over frame raw reach → AllGood script report who how course reach lines → Done (end reach lines) → From over frame raw lines (end reach lines).raw

  -- what was passed over is never less
  rises-once : (reach : Reach) (line : EventLine) (t : Turn) → reach.passed ≤ (after course reach line t).passed
  rises-once reach line turns.Beside = omega arith
  rises-once reach line turns.Bad = omega arith
  rises-once reach line turns.Weak = omega arith
  rises-once reach line turns.Instead = omega arith
  rises-once reach line turns.Stray = omega arith

  rises : (lines : List EventLine) (reach : Reach) → reach.passed ≤ (end reach lines).passed
  rises [] reach = omega arith
  rises (l ∷ ls) reach =
      let one : reach.passed ≤ (go reach l).passed = rises-once reach l (turn report course reach l) in
      let more : (go reach l).passed ≤ (end (go reach l) ls).passed = rises ls (go reach l) in
      omega (arith, one, more)

  -- on its way to a line the scrub passed over nothing
  nothing : (reach : Reach) (to : ℕ) (next : Reach) (lines : List EventLine) → next.passed ≡ passed_to course reach to → Done (end next lines) → Free reach.next to
  nothing reach to next lines is done =
      let up : next.passed ≤ (end next lines).passed = rises lines next in
      let none : (end next lines).passed ≡ 0 = done.passed in
      let p : next.passed ≡ reach.passed + marked_from course.low reach.next (to - reach.next) = is in
      omega (arith, up, none, p)

  at-end : Holds []
  at-end over frame raw reach s good done = bad-from over frame (course.last + 1) raw [] reach.raw (let w : place over frame ≤ 2 * course.last + 2 = s.within in omega (arith, w)) (omega arith)
      (subst (λ (n : ℕ). Free n (2 * (course.last + 1))) s.next (subst (Free reach.next) (let e : 2 * course.last + 2 ≡ 2 * (course.last + 1) = omega arith in e) done.tail))
      (subst (λ (n : ℕ). AreScrubbed script report who how (course.last + 1) n (resting raw) [] (resting reach.raw)) (let e : 0 ≡ course.last + 1 - (course.last + 1) = omega arith in e) (refl, ap resting s.raw_is))

  -- behind a bad line
  behind-bad : (reach : Reach) (line : EventLine) (lines : List EventLine) → Holds lines → Met report course origins.BadLine reach line → AllGood script report who how course (after course reach line turns.Bad) lines
      → Done (end (after course reach line turns.Bad) lines) → Weaks (frame_at line.addr) None lines (end (after course reach line turns.Bad) lines).raw
  behind-bad reach line lines holds met good done =
      holds true (frame_at line.addr) None (after course reach line turns.Bad) (record { next = refl; within = let w : frame_at line.addr ≤ course.last = met.within in omega (arith, w); raw_is = refl; begun = refl }) good done

  -- a frame's bad line, with the frames behind it
  bad-frame : (raw : Option Event) (reach : Reach) (front : List EventLine) (line : EventLine) (lines : List EventLine) (left : Option Event) → Met report course origins.BadLine reach line
      → BadLines script report who how raw (frame_of (frame_at line.addr)) (line_at line.addr) front → Weaks (frame_at line.addr) None lines left → Frames (frame_at line.addr) raw (front ++ lines) left
  bad-frame raw reach front line lines left met bad rest =
      make-frame (frame_at line.addr) raw None (Some (line_at line.addr)) front lines left met.within (met.damaged, bad, refl) (backs origins.BadLine (frame_of (frame_at line.addr)) (Some (line_at line.addr)) met.low) rest

  bad-case : (line : EventLine) (lines : List EventLine) → Holds lines → (over : Bool) (frame : ℕ) (raw : Option Event) (reach : Reach) → Starts over frame raw reach → Known report course reach line turns.Bad
      → IsScrubbedLine script report who how reach line turns.Bad → AllGood script report who how course (after course reach line turns.Bad) lines → Done (end (after course reach line turns.Bad) lines)
      → From over frame raw (line ∷ lines) (end (after course reach line turns.Bad) lines).raw
  bad-case line lines holds over frame raw reach s (free, met) is good done =
      bad-from over frame (frame_at line.addr) raw (line ∷ lines) (end (after course reach line turns.Bad) lines).raw (subst (λ (n : ℕ). n ≤ 2 * frame_at line.addr) s.next met.ahead)
      (let w : frame_at line.addr ≤ course.last = met.within in omega (arith, w)) (subst (λ (n : ℕ). Free n (2 * frame_at line.addr)) s.next (nothing reach (2 * frame_at line.addr) (after course reach line turns.Bad) lines refl done))
      (bad-frame raw reach (line ∷ []) line lines (end (after course reach line turns.Bad) lines).raw met own (behind-bad reach line lines holds met good done))
    where
      no-raw : (o : Option Event) → (is_none o || is_some reach.begun) ≡ true → o ≡ None
      no-raw None f = refl
      no-raw (Some event) f = absurd (true≢false (sym f ∙ ap is_some s.begun))

      raw_none : raw ≡ None
      raw_none = sym s.raw_is ∙ no-raw reach.raw free

      own : BadLines script report who how raw (frame_of (frame_at line.addr)) (line_at line.addr) (line ∷ [])
      own = subst (λ (o : Option Event). BadLines script report who how o (frame_of (frame_at line.addr)) (line_at line.addr) (line ∷ [])) (sym raw_none) (
        line,
        refl,
        subst (λ (h : Bool). IsLineOf script report who how h 2 (own_at origins.BadLine line.addr) line)
            (ap (λ (o : Option Event). has_stopper how origins.BadLine o || unwrap_or reach.begun false) (s.raw_is ∙ raw_none) ∙ ap (λ (b : Option Bool). has_stopper how origins.BadLine None || unwrap_or b false) s.begun ∙ or-none (has_stopper how origins.BadLine None)) is,
      )

  weak-case : (line : EventLine) (lines : List EventLine) → Holds lines → (over : Bool) (frame : ℕ) (raw : Option Event) (reach : Reach) → Starts over frame raw reach → Known report course reach line turns.Weak
      → IsScrubbedLine script report who how reach line turns.Weak → AllGood script report who how course (after course reach line turns.Weak) lines → Done (end (after course reach line turns.Weak) lines)
      → From over frame raw (line ∷ lines) (end (after course reach line turns.Weak) lines).raw
  weak-case line lines holds over frame raw reach s (none, met) is good done =
      weak-from over frame (frame_at line.addr) raw (line ∷ lines) (end (after course reach line turns.Weak) lines).raw (subst (λ (n : ℕ). n ≤ 2 * frame_at line.addr + 1) s.next met.ahead) met.within
      (subst (λ (n : ℕ). Free n (2 * frame_at line.addr + 1)) s.next (nothing reach (2 * frame_at line.addr + 1) (after course reach line turns.Weak) lines refl done)) (record {
        met = Some (line_at line.addr);
        now = line ∷ [];
        later = lines;
        all = refl;
        found = (met.damaged, (line, refl, is));
        marked = backs origins.WeakLine (frame_of (frame_at line.addr)) (Some (line_at line.addr)) met.low;
        rest = holds false (frame_at line.addr + 1) raw (after course reach line turns.Weak) (record {
          next = let e : 2 * frame_at line.addr + 1 + 1 ≡ 2 * (frame_at line.addr + 1) = omega arith in e;
          within = let w : frame_at line.addr ≤ course.last = met.within in omega (arith, w);
          raw_is = s.raw_is;
          begun = s.begun;
        }) good done;
      })

  -- the line of what bank 1 holds, and that of the bad line behind it
  abbrev opened : Reach → EventLine → Reach
  opened reach first = after course reach first turns.Beside

  beside-case : (first line : EventLine) (lines : List EventLine) → Holds lines → (over : Bool) (frame : ℕ) (raw : Option Event) (reach : Reach) → Starts over frame raw reach
      → IsScrubbedLine script report who how reach first turns.Beside → Known report course (opened reach first) line turns.Bad → IsScrubbedLine script report who how (opened reach first) line turns.Bad
      → AllGood script report who how course (after course (opened reach first) line turns.Bad) lines → Done (end (after course (opened reach first) line turns.Bad) lines)
      → From over frame raw (first ∷ line ∷ lines) (end (after course (opened reach first) line turns.Bad) lines).raw
  beside-case first line lines holds over frame raw reach s told (free, met) is good done =
      bad-from over frame (frame_at line.addr) raw (first ∷ line ∷ lines) (end (after course (opened reach first) line turns.Bad) lines).raw (subst (λ (n : ℕ). n ≤ 2 * frame_at line.addr) s.next met.ahead)
      (let w : frame_at line.addr ≤ course.last = met.within in omega (arith, w)) (subst (λ (n : ℕ). Free n (2 * frame_at line.addr)) s.next (nothing (opened reach first) (2 * frame_at line.addr) (after course (opened reach first) line turns.Bad) lines refl done))
      (bad-frame raw (opened reach first) (first ∷ line ∷ []) line lines (end (after course (opened reach first) line turns.Bad) lines).raw met (subst (λ (o : Option Event). BadLines script report who how o (frame_of (frame_at line.addr)) (line_at line.addr) (first ∷ line ∷ [])) s.raw_is
      (by reach.raw told is)) (behind-bad (opened reach first) line lines holds met good done))
    where
      by : (o : Option Event) → IsRawLine script report who how (has_stopper how origins.BadLine o) o first
          → IsLineOf script report who how (has_stopper how origins.BadLine o || is_panic first.acted) 2 (own_at origins.BadLine line.addr) line
          → BadLines script report who how o (frame_of (frame_at line.addr)) (line_at line.addr) (first ∷ line ∷ [])
      by None one other = absurd one
      by (Some event) one other = (first, line, refl, one, other)

  -- all lines
  last-line : (line : EventLine) → Holds (line ∷ [])
  last-line line over frame raw reach s good done = by (turn report course reach line) (known report course reach line) good.0 done
    where
      by : (t : Turn) → Known report course reach line t → IsScrubbedLine script report who how reach line t → Done (after course reach line t) → From over frame raw (line ∷ []) (after course reach line t).raw
      by turns.Beside k is d = absurd (none-some (is_panic line.acted) (sym d.begun))
      by turns.Bad k is d = bad-case line [] at-end over frame raw reach s k is (record {}) d
      by turns.Weak k is d = weak-case line [] at-end over frame raw reach s k is (record {}) d
      by turns.Instead k is d = absurd is
      by turns.Stray k is d = absurd is

  more-lines : (first line : EventLine) (lines : List EventLine) → Holds (line ∷ lines) → Holds lines → Holds (first ∷ line ∷ lines)
  more-lines first line lines holds rest over frame raw reach s good done = by (turn report course reach first) (known report course reach first) good.0 good.1 done
    where
      second : (t : Turn) → Known report course (opened reach first) line t → IsScrubbedLine script report who how reach first turns.Beside → IsScrubbedLine script report who how (opened reach first) line t
          → AllGood script report who how course (after course (opened reach first) line t) lines → Done (end (after course (opened reach first) line t) lines) → From over frame raw (first ∷ line ∷ lines) (end (after course (opened reach first) line t) lines).raw
      second turns.Beside k told is good_rest d = absurd (true≢false (sym k.1))
      second turns.Bad k told is good_rest d = beside-case first line lines rest over frame raw reach s told k is good_rest d
      second turns.Weak k told is good_rest d = absurd (true≢false (sym k.0))
      second turns.Instead k told is good_rest d = absurd is
      second turns.Stray k told is good_rest d = absurd is

      by : (t : Turn) → Known report course reach first t → IsScrubbedLine script report who how reach first t → AllGood script report who how course (after course reach first t) (line ∷ lines) → Done (end (after course reach first t) (line ∷ lines))
          → From over frame raw (first ∷ line ∷ lines) (end (after course reach first t) (line ∷ lines)).raw
      by turns.Beside k is good_rest d = second (turn report course (opened reach first) line) (known report course (opened reach first) line) is good_rest.0 good_rest.1 d
      by turns.Bad k is good_rest d = bad-case first (line ∷ lines) holds over frame raw reach s k is good_rest d
      by turns.Weak k is good_rest d = weak-case first (line ∷ lines) holds over frame raw reach s k is good_rest d
      by turns.Instead k is good_rest d = absurd is
      by turns.Stray k is good_rest d = absurd is

  all-hold : (lines : List EventLine) → Holds lines
  all-hold [] = at-end
  all-hold (line ∷ []) = last-line line
  all-hold (first ∷ line ∷ lines) = more-lines first line lines (all-hold (line ∷ lines)) (all-hold lines)

  -- a scrub of frames up to the last, from one on
  pub frames-back : (first : ℕ) (raw : Option Event) (reach : Reach) (lines : List EventLine) → first ≤ course.last + 1 → reach.next ≡ 2 * first → reach.raw ≡ raw → reach.begun ≡ None → AllGood script report who how course reach lines
      → (end reach lines).begun ≡ None → (end reach lines).passed ≡ 0 → marked_from course.low (end reach lines).next (2 * course.last + 2 - (end reach lines).next) ≡ 0
      → AreScrubbed script report who how first (course.last + 1 - first) (resting raw) lines (resting (end reach lines).raw)
  frames-back first raw reach lines within next raw_is begun good ends passed tail =
      all-hold lines false first raw reach (record { next = next; within = omega (arith, within); raw_is = raw_is; begun = begun }) good (record { begun = ends; passed = passed; tail = tail })
