-- A scrub that the law allows, gone through line by line: each line is right, and no marked place is passed over.
use Rattle.std.proofs.Common.{◌≡◌, inl, inr, ℕ, zero, suc, ◌+◌, ◌-◌, ◌*◌, ◌<◌, ◌≤◌, ◌||◌, min, Bool, true, false, cond, List, [], ◌∷◌, ◌++◌, Option, Some, None, fold, is_none, is_some, unwrap_or, refl, sym, ap, ◌∙◌, subst, arith}
use Rattle.std.proofs.lemmas.Bool.{cases_eq, cases_lt, cond-true, or_left, or_right}
use Rattle.std.proofs.lemmas.List.Sums.{fold-append}
use Rattle.std.proofs.lemmas.Option.{none-some, same_Some}
use Rattle.hwp_banks.specs.hwp_geom.Limits.{line_limit}
use Rattle.hwp_banks.specs.hwp_geom.declared.Frame.{Frame}
use Rattle.hwp_banks.specs.hwp_geom.declared.Who.{Who}
use Rattle.hwp_banks.specs.Addresses.{frame_at}
use Rattle.hwp_banks.specs.Events.{own_event}
use Rattle.hwp_banks.specs.declared.Event.{Event}
use Rattle.hwp_banks.specs.declared.Origin.{Origin}
use Rattle.hwp_banks.specs.declared.Origin.TheVariants as origins
use Rattle.hwp_law.specs.hwp_script_words.declared.Script.{Script}
use Rattle.hwp_law.specs.hwp_report_text.declared.Report.{Report}
use Rattle.hwp_law.specs.Checks.{IsLineOf}
use Rattle.hwp_law.specs.hwp_report_text.Acts.{is_panic}
use Rattle.hwp_banks.specs.Banks.{Banks}
use Rattle.hwp_law.specs.hwp_severity.declared.Arrival.{Arrival}
use Rattle.hwp_law.specs.Events.{AreScrubbed, IsDamaged, IsScrubbed, IsWeakFound, MeetsMarked}
use Rattle.hwp_law.specs.hwp_report_text.declared.EventLine.{EventLine}
use Rattle.hwp_law.specs.Lines.{bad_lines_of}
use Rattle.hwp_check_event_line.specs.Found.{IsRawLine, has_stopper, resting}
use Rattle.hwp_check_event_line.specs.Scrubs.{Course, IsScrubbedLine, after, bound_from, can_meet_bad, has_line_below, line_at, marked_from, own_at, passed_to, place_of, turn}
use Rattle.hwp_check_event_line.specs.Lines.{has_line}
use Rattle.hwp_check_event_line.specs.declared.reach.Reach.{Reach}
use Rattle.hwp_check_event_line.specs.declared.reach.Turn.{Turn}
use Rattle.hwp_check_event_line.specs.declared.reach.Turn.TheVariants as turns
use Rattle.hwp_check_event_line.proofs.FoundLaws.{or-none}
use Rattle.hwp_check_event_line.proofs.LineLaws.{has_line_is}
use Rattle.hwp_check_event_line.proofs.MarkLaws.{mark, mark-last, unmarked}
use Rattle.hwp_check_event_line.proofs.ScrubFound.{BadLines, BadMet, WeakMet, bad-forth, weak-forth}
use Rattle.hwp_check_event_line.proofs.ScrubLines.{Says, meets, says, turn-bad, turn-beside, turn-weak}

-- a scrub meets a line at a place no higher than it must, or isn't asked to meet one
abbrev pub MeetsLow : (ℕ → ℕ) → ℕ → Option ℕ → Type 0
MeetsLow low place None = low place ≡ line_limit
MeetsLow low place (Some at) = at ≤ low place

-- a scrub has passed over no marked place before this one, and bank 1 holds this
pub record Ready (low : ℕ → ℕ) (reach : Reach) (place : ℕ) (raw : Option Event) : Type 0 where
  pub next : reach.next ≤ place
  pub gap : marked_from low reach.next (place - reach.next) ≡ 0
  pub raw_is : reach.raw ≡ raw
  pub begun : reach.begun ≡ None
  pub passed : reach.passed ≡ 0
  pub strays : reach.strays ≡ 0

pub ready-skip : (low : ℕ → ℕ) (reach : Reach) (place : ℕ) (raw : Option Event) → Ready low reach place raw → low place ≡ line_limit → Ready low reach (place + 1) raw
ready-skip low reach place raw r none = record { next = let n : reach.next ≤ place = r.next in omega (arith, n); gap = gap; raw_is = r.raw_is; begun = r.begun; passed = r.passed; strays = r.strays }
  where
    gap : marked_from low reach.next (place + 1 - reach.next) ≡ 0
    gap = let n : reach.next ≤ place = r.next in
        let size : place + 1 - reach.next ≡ suc (place - reach.next) = omega (arith, n) in
        let last : marked_from low reach.next (suc (place - reach.next)) ≡ marked_from low reach.next (place - reach.next) + mark low (reach.next + (place - reach.next)) = mark-last low reach.next (place - reach.next) in
        let at : reach.next + (place - reach.next) ≡ place = omega (arith, n) in
        let free : mark low (reach.next + (place - reach.next)) ≡ 0 = ap (mark low) at ∙ unmarked low place none in
        let whole : marked_from low reach.next (place + 1 - reach.next) ≡ marked_from low reach.next (suc (place - reach.next)) = ap (marked_from low reach.next) size in
        let was : marked_from low reach.next (place - reach.next) ≡ 0 = r.gap in
        omega (arith, whole, last, free, was)

-- behind which place no bad line can be met
has-below : (mask at n : ℕ) → has_line mask at ≡ true → at < n → has_line_below mask n ≡ true
has-below mask at zero is less = absurd (omega (arith, less))
has-below mask at (suc n) is less = elim (cases_eq at n) [
  | inl same ↦ or_left (has_line mask n) (has_line_below mask n) (subst (λ (m : ℕ). has_line mask m ≡ true) same is)
  | inr differs ↦ or_right (has_line mask n) (has_line_below mask n) (has-below mask at n is (elim (cases_lt at n) [
    | inl low ↦ low
    | inr high ↦ absurd (differs (omega (arith, less, high)))
  ]))
]

module _ (report : Report) (low : ℕ → ℕ) where
  next_bound : (bound frame : ℕ) → bound ≤ 2 * frame → cond (can_meet_bad report low frame) (2 * frame + 1) bound ≤ 2 * (frame + 1)
  next_bound bound frame less = by (can_meet_bad report low frame)
    where
      by : (b : Bool) → cond b (2 * frame + 1) bound ≤ 2 * (frame + 1)
      by true = omega arith
      by false = omega (arith, less)

  bound-most : (more frame bound : ℕ) → bound ≤ 2 * frame → bound ≤ bound_from report low bound frame more
  bound-most zero frame bound less = omega arith
  bound-most (suc more) frame bound less =
      let rest : cond (can_meet_bad report low frame) (2 * frame + 1) bound ≤ bound_from report low (cond (can_meet_bad report low frame) (2 * frame + 1) bound) (frame + 1) more = bound-most more (frame + 1) (cond (can_meet_bad report low frame) (2 * frame + 1) bound) (next_bound bound frame less) in
      let up : bound ≤ cond (can_meet_bad report low frame) (2 * frame + 1) bound = by (can_meet_bad report low frame) in
      omega (arith, rest, up)
    where
      by : (b : Bool) → bound ≤ cond b (2 * frame + 1) bound
      by true = omega (arith, less)
      by false = omega arith

  pub bound-has : (more frame bound f : ℕ) → bound ≤ 2 * frame → frame ≤ f → f < frame + more → can_meet_bad report low f ≡ true → 2 * f < bound_from report low bound frame more
  bound-has zero frame bound f less from to can = absurd (omega (arith, from, to))
  bound-has (suc more) frame bound f less from to can = elim (cases_eq f frame) [
    | inl here ↦
        let is : cond (can_meet_bad report low frame) (2 * frame + 1) bound ≡ 2 * frame + 1 = cond-true (can_meet_bad report low frame) (2 * frame + 1) bound (subst (λ (n : ℕ). can_meet_bad report low n ≡ true) here can) in
        let rest : cond (can_meet_bad report low frame) (2 * frame + 1) bound ≤ bound_from report low (cond (can_meet_bad report low frame) (2 * frame + 1) bound) (frame + 1) more = bound-most more (frame + 1) (cond (can_meet_bad report low frame) (2 * frame + 1) bound) (next_bound bound frame less) in
        let e : f ≡ frame = here in
        omega (arith, is, rest, e)
    | inr differs ↦ bound-has more (frame + 1) (cond (can_meet_bad report low frame) (2 * frame + 1) bound) f (next_bound bound frame less) (elim (cases_lt frame f) [
      | inl later ↦ omega (arith, later)
      | inr most ↦ absurd (differs (omega (arith, from, most)))
    ]) (omega (arith, to)) can
  ]

  pub can-meet : (frame at : ℕ) → IsDamaged report origins.BadLine frame at → at < 64 → at ≤ low (place_of origins.BadLine frame) → can_meet_bad report low frame ≡ true
  can-meet frame at damaged small less = has-below (bad_lines_of report frame) at (min line_limit (low (place_of origins.BadLine frame) + 1)) ((has_line_is (bad_lines_of report frame) at).1 damaged)
      (let l : at ≤ low (2 * frame) = less in let m : at < min 64 (low (2 * frame) + 1) = omega (arith, small, l) in m)

module _ (script : Script) (report : Report) (who : Who) (how : Arrival) (course : Course) where
  abbrev pub step : Reach → EventLine → Reach
  step r l = after course r l (turn report course r l)

  abbrev pub Good : Reach → EventLine → Type 0
  Good reach line = IsScrubbedLine script report who how reach line (turn report course reach line)

  -- each of the lines is right
  abbrev pub AllGood : Reach → List EventLine → Type 0
  AllGood reach [] = Unit {0}
  AllGood reach (line ∷ lines) = Good reach line × AllGood (step reach line) lines

  all-append : (reach : Reach) (xs ys : List EventLine) → AllGood reach xs → AllGood (fold step reach xs) ys → AllGood reach (xs ++ ys)
  all-append reach [] ys one other = other
  all-append reach (x ∷ xs) ys one other = (one.0, all-append (step reach x) xs ys one.1 other)

  abbrev Own : Bool → Origin → Frame → ℕ → EventLine → Type 0
  Own held origin frame at line = IsLineOf script report who how held 2 (own_event origin frame at) line

  own-said : (held : Bool) (origin : Origin) (frame : Frame) (at : ℕ) (line : EventLine) → Says origin frame.0 at line → Own held origin frame at line → IsLineOf script report who how held 2 (own_at origin line.addr) line
  own-said held origin frame at line s is =
      subst (λ (f : ℕ). IsLineOf script report who how held 2 (own_event origin (record { 0 = f }) (line_at line.addr)) line) (sym s.frame_is)
      (subst (λ (a : ℕ). IsLineOf script report who how held 2 (own_event origin frame a) line) (sym s.line_is) is)

  -- the line of a weak line
  weak-ready : (reach : Reach) (raw : Option Event) (frame : Frame) (at : ℕ) (line : EventLine) → Ready course.low reach (2 * frame.0 + 1) raw → frame.0 ≤ course.last → at < 64 → IsDamaged report origins.WeakLine frame.0 at
      → at ≤ course.low (2 * frame.0 + 1) → Own false origins.WeakLine frame at line → Good reach line × Ready course.low (step reach line) (2 * frame.0 + 2) raw
  weak-ready reach raw frame at line r within small damaged low is =
      (subst (IsScrubbedLine script report who how reach line) (sym turned) (own-said false origins.WeakLine frame at line s is), subst (λ (t : Turn). Ready course.low (after course reach line t) (2 * frame.0 + 2) raw) (sym turned) ready)
    where
      s : Says origins.WeakLine frame.0 at line
      s = says script report who how false origins.WeakLine frame at line small is

      turned : turn report course reach line ≡ turns.Weak
      turned = turn-weak report course reach line frame.0 at s (ap is_none r.begun) (meets report course origins.WeakLine reach frame.0 at line s r.next within damaged low)

      place : place_of origins.WeakLine (frame_at line.addr) ≡ 2 * frame.0 + 1
      place = ap (place_of origins.WeakLine) s.frame_is

      none : passed_to course reach (place_of origins.WeakLine (frame_at line.addr)) ≡ 0
      none = ap (passed_to course reach) place ∙ (let p : reach.passed ≡ 0 = r.passed in let g : marked_from course.low reach.next (2 * frame.0 + 1 - reach.next) ≡ 0 = r.gap in omega (arith, p, g))

      ready : Ready course.low (after course reach line turns.Weak) (2 * frame.0 + 2) raw
      ready = record {
        next = let p : place_of origins.WeakLine (frame_at line.addr) ≡ 2 * frame.0 + 1 = place in omega (arith, p);
        gap = ap (marked_from course.low (place_of origins.WeakLine (frame_at line.addr) + 1)) (let p : place_of origins.WeakLine (frame_at line.addr) ≡ 2 * frame.0 + 1 = place in let e : 2 * frame.0 + 2 - (place_of origins.WeakLine (frame_at line.addr) + 1) ≡ 0 = omega (arith, p) in e);
        raw_is = r.raw_is;
        begun = r.begun;
        passed = none;
        strays = r.strays;
      }

  -- the line of a bad line, where the scrub has come so far: the line of what bank 1 holds is told
  bad-after : (reach : Reach) (frame : Frame) (at : ℕ) (line : EventLine) (held : Bool) → reach.next ≤ 2 * frame.0 → marked_from course.low reach.next (2 * frame.0 - reach.next) ≡ 0 → reach.passed ≡ 0 → reach.strays ≡ 0
      → (is_none reach.raw || is_some reach.begun) ≡ true → held ≡ (has_stopper how origins.BadLine reach.raw || unwrap_or reach.begun false) → frame.0 ≤ course.last → at < 64 → IsDamaged report origins.BadLine frame.0 at
      → at ≤ course.low (2 * frame.0) → Own held origins.BadLine frame at line → Good reach line × Ready course.low (step reach line) (2 * frame.0 + 1) None
  bad-after reach frame at line held next gap passed strays free held_is within small damaged low is = (
    subst (IsScrubbedLine script report who how reach line) (sym turned) (subst (λ (h : Bool). IsLineOf script report who how h 2 (own_at origins.BadLine line.addr) line) held_is (own-said held origins.BadLine frame at line s is)),
    subst (λ (t : Turn). Ready course.low (after course reach line t) (2 * frame.0 + 1) None) (sym turned) ready,
  )
    where
      s : Says origins.BadLine frame.0 at line
      s = says script report who how held origins.BadLine frame at line small is

      turned : turn report course reach line ≡ turns.Bad
      turned = turn-bad report course reach line s.bank free (meets report course origins.BadLine reach frame.0 at line s next within damaged low)

      place : place_of origins.BadLine (frame_at line.addr) ≡ 2 * frame.0
      place = ap (place_of origins.BadLine) s.frame_is

      none : passed_to course reach (place_of origins.BadLine (frame_at line.addr)) ≡ 0
      none = ap (passed_to course reach) place ∙ omega (arith, passed, gap)

      ready : Ready course.low (after course reach line turns.Bad) (2 * frame.0 + 1) None
      ready = record {
        next = let p : place_of origins.BadLine (frame_at line.addr) ≡ 2 * frame.0 = place in omega (arith, p);
        gap = ap (marked_from course.low (place_of origins.BadLine (frame_at line.addr) + 1)) (let p : place_of origins.BadLine (frame_at line.addr) ≡ 2 * frame.0 = place in let e : 2 * frame.0 + 1 - (place_of origins.BadLine (frame_at line.addr) + 1) ≡ 0 = omega (arith, p) in e);
        raw_is = refl;
        begun = refl;
        passed = none;
        strays = strays;
      }

  abbrev opened : Reach → EventLine → Reach
  opened reach m = record reach { begun = Some (is_panic m.acted) }

  -- the lines of a bad line
  bad-ready : (reach : Reach) (raw : Option Event) (frame : Frame) (at : ℕ) (lines : List EventLine) → Ready course.low reach (2 * frame.0) raw → frame.0 ≤ course.last → 2 * frame.0 < course.bound → at < 64
      → IsDamaged report origins.BadLine frame.0 at → at ≤ course.low (2 * frame.0) → BadLines script report who how raw frame at lines → AllGood reach lines × Ready course.low (fold step reach lines) (2 * frame.0 + 1) None
  bad-ready reach None frame at lines r within bound small damaged low (l, lines_are, is) =
      let one = bad-after reach frame at l (has_stopper how origins.BadLine None) r.next r.gap r.passed r.strays (or_left (is_none reach.raw) (is_some reach.begun) (ap is_none r.raw_is)) held within small damaged low is in
      subst (λ (ls : List EventLine). AllGood reach ls × Ready course.low (fold step reach ls) (2 * frame.0 + 1) None) (sym lines_are) ((one.0, record {}), one.1)
    where
      held : has_stopper how origins.BadLine None ≡ (has_stopper how origins.BadLine reach.raw || unwrap_or reach.begun false)
      held = sym (ap (λ (o : Option Event). has_stopper how origins.BadLine o || unwrap_or reach.begun false) r.raw_is ∙ ap (λ (b : Option Bool). has_stopper how origins.BadLine None || unwrap_or b false) r.begun ∙ or-none (has_stopper how origins.BadLine None))
  bad-ready reach (Some event) frame at lines r within bound small damaged low (m, l, lines_are, first, second) =
      subst (λ (ls : List EventLine). AllGood reach ls × Ready course.low (fold step reach ls) (2 * frame.0 + 1) None) (sym lines_are) ((good, (other.0, record {})), other.1)
    where
      turned : turn report course reach m ≡ turns.Beside
      turned = turn-beside report course reach m first.bank_is (ap is_some r.raw_is) (ap is_none r.begun) (let n : reach.next ≤ 2 * frame.0 = r.next in omega (arith, n, bound))

      good : Good reach m
      good = subst (IsScrubbedLine script report who how reach m) (sym turned) (subst (λ (o : Option Event). IsRawLine script report who how (has_stopper how origins.BadLine o) o m) (sym r.raw_is) first)

      after_is : step reach m ≡ opened reach m
      after_is = ap (after course reach m) turned

      held : (has_stopper how origins.BadLine (Some event) || is_panic m.acted) ≡ (has_stopper how origins.BadLine reach.raw || is_panic m.acted)
      held = ap (λ (o : Option Event). has_stopper how origins.BadLine o || is_panic m.acted) (sym r.raw_is)

      other : Good (step reach m) l × Ready course.low (step (step reach m) l) (2 * frame.0 + 1) None
      other = subst (λ (x : Reach). Good x l × Ready course.low (step x l) (2 * frame.0 + 1) None) (sym after_is)
          (bad-after (opened reach m) frame at l (has_stopper how origins.BadLine (Some event) || is_panic m.acted) r.next r.gap r.passed r.strays (or_right (is_none reach.raw) true refl) held within small damaged low second)

  -- the frames that the scrub goes over, from one on
  module _ (first : ℕ) (small : (origin : Origin) (frame at : ℕ) → IsDamaged report origin frame at → at < 64)
      (lows : (origin : Origin) (frame : Frame) (met : Option ℕ) → ((at : ℕ) → met ≡ Some at → at < 64) → MeetsMarked script report who origin frame met → MeetsLow course.low (place_of origin frame.0) met)
      (bounds : (frame at : ℕ) → first ≤ frame → frame ≤ course.last → IsDamaged report origins.BadLine frame at → at ≤ course.low (2 * frame) → 2 * frame < course.bound) where
    bad-frame : (reach : Reach) (raw : Option Event) (frame : Frame) (met : Option ℕ) (lines : List EventLine) (left : Option Event) → Ready course.low reach (2 * frame.0) raw → first ≤ frame.0 → frame.0 ≤ course.last
        → MeetsMarked script report who origins.BadLine frame met → BadMet script report who how met raw frame lines left → AllGood reach lines × Ready course.low (fold step reach lines) (2 * frame.0 + 1) left
    bad-frame reach raw frame None lines left r from within marked (none, left_is) =
        subst (λ (ls : List EventLine). AllGood reach ls × Ready course.low (fold step reach ls) (2 * frame.0 + 1) left) (sym none)
        (record {}, subst (Ready course.low reach (2 * frame.0 + 1)) (sym left_is) (ready-skip course.low reach (2 * frame.0) raw r (lows origins.BadLine frame None (λ at is. absurd (none-some at is)) marked)))
    bad-frame reach raw frame (Some at) lines left r from within marked (damaged, are, left_is) =
        let less : at < 64 = small origins.BadLine frame.0 at damaged in
        let low : at ≤ course.low (2 * frame.0) = lows origins.BadLine frame (Some at) (λ a is. subst (λ (n : ℕ). n < 64) (same_Some _ _ is) less) marked in
        let done = bad-ready reach raw frame at lines r within (bounds frame.0 at from within damaged low) less damaged low are in
        (done.0, subst (Ready course.low (fold step reach lines) (2 * frame.0 + 1)) (sym left_is) done.1)

    weak-frame : (reach : Reach) (raw : Option Event) (frame : Frame) (met : Option ℕ) (lines : List EventLine) → Ready course.low reach (2 * frame.0 + 1) raw → frame.0 ≤ course.last
        → MeetsMarked script report who origins.WeakLine frame met → WeakMet script report who how met frame lines → AllGood reach lines × Ready course.low (fold step reach lines) (2 * frame.0 + 2) raw
    weak-frame reach raw frame None lines r within marked none =
        subst (λ (ls : List EventLine). AllGood reach ls × Ready course.low (fold step reach ls) (2 * frame.0 + 2) raw) (sym none)
        (record {}, subst (λ (n : ℕ). Ready course.low reach n raw) (let e : 2 * frame.0 + 1 + 1 ≡ 2 * frame.0 + 2 = omega arith in e) (ready-skip course.low reach (2 * frame.0 + 1) raw r (lows origins.WeakLine frame None (λ at is. absurd (none-some at is)) marked)))
    weak-frame reach raw frame (Some at) lines r within marked (damaged, (l, lines_are, is)) =
        let less : at < 64 = small origins.WeakLine frame.0 at damaged in
        let low : at ≤ course.low (2 * frame.0 + 1) = lows origins.WeakLine frame (Some at) (λ a is. subst (λ (n : ℕ). n < 64) (same_Some _ _ is) less) marked in
        let done = weak-ready reach raw frame at l r within less damaged low is in
        subst (λ (ls : List EventLine). AllGood reach ls × Ready course.low (fold step reach ls) (2 * frame.0 + 2) raw) (sym lines_are) ((done.0, record {}), done.1)

    -- one frame
    frame-forth : (reach : Reach) (raw : Option Event) (frame : Frame) (lines : List EventLine) (banks : Banks) → Ready course.low reach (2 * frame.0) raw → first ≤ frame.0 → frame.0 ≤ course.last
        → IsScrubbed script report who how frame (resting raw) lines banks → (left : Option Event) × (banks ≡ resting left) × AllGood reach lines × Ready course.low (fold step reach lines) (2 * frame.0 + 2) left
    frame-forth reach raw frame lines banks r from within s =
        let b = bad-forth script report who how s.bad raw frame s.bad_lines s.between s.bad_found in
        let w = weak-forth script report who how s.weak b.0 frame s.weak_lines banks (subst (λ (x : Banks). IsWeakFound script report who how frame s.weak x s.weak_lines banks) b.2 s.weak_found) in
        let one = bad-frame reach raw frame s.bad s.bad_lines b.0 r from within s.met_bad b.1 in
        let other = weak-frame (fold step reach s.bad_lines) b.0 frame s.weak s.weak_lines one.1 within s.met_weak w.0 in (
          b.0,
          w.1,
          subst (AllGood reach) (sym s.all) (all-append reach s.bad_lines s.weak_lines one.0 other.0),
          subst (λ (x : Reach). Ready course.low x (2 * frame.0 + 2) b.0) (sym (ap (fold step reach) s.all ∙ fold-append step reach s.bad_lines s.weak_lines)) other.1,
        )

    -- all frames
    pub frames-forth : (more : ℕ) (frame : ℕ) (reach : Reach) (raw : Option Event) (lines : List EventLine) (banks : Banks) → Ready course.low reach (2 * frame) raw → first ≤ frame → frame + more ≤ course.last + 1
        → AreScrubbed script report who how frame more (resting raw) lines banks → (left : Option Event) × (banks ≡ resting left) × AllGood reach lines × Ready course.low (fold step reach lines) (2 * (frame + more)) left
    frames-forth zero frame reach raw lines banks r from within are = (
      raw,
      are.1,
      subst (AllGood reach) (sym are.0) (record {}),
      subst (λ (ls : List EventLine). Ready course.low (fold step reach ls) (2 * (frame + 0)) raw) (sym are.0) (subst (λ (n : ℕ). Ready course.low reach n raw) (let e : 2 * frame ≡ 2 * (frame + 0) = omega arith in e) r),
    )
    frames-forth (suc more) frame reach raw lines banks r from within (now, later, between, lines_are, scrubbed, rest) =
        let one = frame-forth reach raw (record { 0 = frame }) now between r from (omega (arith, within)) scrubbed in
        let ready : Ready course.low (fold step reach now) (2 * (frame + 1)) one.0 = subst (λ (n : ℕ). Ready course.low (fold step reach now) n one.0) (let e : 2 * frame + 2 ≡ 2 * (frame + 1) = omega arith in e) one.3 in
        let other = frames-forth more (frame + 1) (fold step reach now) one.0 later banks ready (omega (arith, from)) (omega (arith, within)) (subst (λ (x : Banks). AreScrubbed script report who how (frame + 1) more x later banks) one.1 rest) in (
          other.0,
          other.1,
          subst (AllGood reach) (sym lines_are) (all-append reach now later one.2 other.2),
          subst (λ (x : Reach). Ready course.low x (2 * (frame + suc more)) other.0) (sym (ap (fold step reach) lines_are ∙ fold-append step reach now later))
              (subst (λ (n : ℕ). Ready course.low (fold step (fold step reach now) later) n other.0) (let e : 2 * (frame + 1 + more) ≡ 2 * (frame + suc more) = omega arith in e) other.3),
        )
