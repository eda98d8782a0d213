-- The event lines of a command are those that the law asks exactly where each is right at its place and none lacks.
use Rattle.std.proofs.Common.{◌≡◌, inl, inr, ℕ, zero, suc, ◌+◌, ◌-◌, ◌*◌, ◌<◌, ◌≤◌, ◌==◌, Bool, true, false, cond, List, [], ◌∷◌, Option, Some, None, MatchBool, is_some, length, slice_get, refl, sym, ap, ◌∙◌, subst, arith}
use Rattle.std.specs.Int.{from_bool}
use Rattle.std.proofs.lemmas.Bool.{cases_lt}
use Rattle.std.proofs.lemmas.Option.{none-some, same_Some, slice_get-get_or}
use Rattle.hwp_banks.specs.hwp_geom.declared.Frame.{Frame}
use Rattle.hwp_banks.specs.hwp_geom.declared.Who.{Who}
use Rattle.hwp_banks.specs.declared.Event.{Event}
use Rattle.hwp_banks.specs.declared.Origin.{Origin}
use Rattle.hwp_banks.specs.declared.Origin.TheVariants as origins
use Rattle.hwp_law.specs.hwp_script_words.declared.Command.{Command}
use Rattle.hwp_law.specs.hwp_script_words.declared.Command.TheVariants as commands
use Rattle.hwp_law.specs.hwp_script_words.declared.Script.{Script}
use Rattle.hwp_law.specs.hwp_report_text.declared.Answer.{Answer}
use Rattle.hwp_law.specs.hwp_report_text.declared.Answer.TheVariants as answers
use Rattle.hwp_law.specs.hwp_report_text.declared.EventLine.{EventLine}
use Rattle.hwp_law.specs.hwp_report_text.declared.Report.{Report}
use Rattle.hwp_law.specs.Checks.{IsCheck}
use Rattle.hwp_banks.specs.Banks.{Banks, empty_banks, raw_event}
use Rattle.hwp_law.specs.Commands.{arrival_of}
use Rattle.hwp_law.specs.hwp_severity.declared.Arrival.{Arrival}
use Rattle.hwp_law.specs.Events.{AreEventsOf, AreScrubbed, IsDamaged, IsRaise, is_raised, logged_if_done, AreAccessChecks, access_lines, store_lines}
use Rattle.hwp_law.specs.Lines.{answer_of}
use Rattle.hwp_check_event_line.specs.Accesses.{IsAccessLine, IsRaisedLine, asked_by_access, access_of}
use Rattle.hwp_check_event_line.specs.Firsts.{AreRight}
use Rattle.hwp_check_event_line.specs.Found.{of_access, resting}
use Rattle.hwp_check_event_line.specs.Misfits.{IsFit, IsRightLine, Lacks, course_of, leaves, logged_if}
use Rattle.hwp_check_event_line.specs.Scrubs.{Course, IsScrubbedLine, after, after_all, comes_instead, is_instead, lacking, marked_from, reach_from, turn}
use Rattle.hwp_check_event_line.specs.Scrubbing.{IsRightIn}
use Rattle.hwp_check_event_line.specs.declared.Reach.{Reach}
use Rattle.hwp_check_event_line.specs.declared.Turn.{Turn}
use Rattle.hwp_check_event_line.specs.declared.Turn.TheVariants as turns
use Rattle.hwp_check_events.proofs.AccessLaws.{access-back, access-forth}
use Rattle.hwp_check_events.proofs.LowestMarks.{HasLines, backs, lows, most}
use Rattle.hwp_check_events.proofs.RaiseLaws.{check-back, check-forth}
use Rattle.hwp_check_event_line.proofs.ScrubBack.{frames-back}
use Rattle.hwp_check_event_line.proofs.ScrubForth.{AllGood, Ready, bound-has, can-meet, frames-forth, step}
use Rattle.hwp_banks.specs.hwp_geom.declared.VSlot.{VSlot}

-- lines that can be damaged are lines
abbrev pub AreMasks : Report → Type 0
AreMasks report = (origin : Origin) (frame at : ℕ) → IsDamaged report origin frame at → at < 64

-- no line is right where none is asked
none-asked : (lines : List EventLine) → AreRight (λ (n : ℕ) (l : EventLine). ⊥) lines → lines ≡ []
none-asked [] right = refl
none-asked (l ∷ ls) right = absurd (right 0 l refl)

none-right : (Right : ℕ → EventLine → Type 0) (lines : List EventLine) → lines ≡ [] → AreRight Right lines
none-right Right lines none = λ n l there. absurd (none-some l (sym (ap (λ (ls : List EventLine). slice_get ls n) none) ∙ there))

module _ (script : Script) (report : Report) (who : Who) where
  -- an access
  module _ (how : Arrival) (origin : Origin) (access : of_access origin ≡ true) (ats : List ℕ) (raw : Option Event) (lines : List EventLine) where
    abbrev Right : ℕ → EventLine → Type 0
    Right number line = IsAccessLine script report who how (access_of origin ats raw) lines number line

    abbrev left : Option Event
    left = cond (length ats == 0) raw None

    accessed-forth : (banks : Banks) → AreAccessChecks script report who how origin ats (resting raw) lines banks → AreRight Right lines × (length lines < asked_by_access (access_of origin ats raw) → ⊥) × (banks ≡ resting left)
    accessed-forth banks are =
        let all = access-forth script report who how origin access ats raw lines banks are in
        (all.1, λ less. let e : length lines ≡ asked_by_access (access_of origin ats raw) = all.0 in omega (arith, e, less), all.2)

    accessed-back : AreRight Right lines → (length lines < asked_by_access (access_of origin ats raw) → ⊥) → AreAccessChecks script report who how origin ats (resting raw) lines (resting left)
    accessed-back right enough = access-back script report who how origin access ats raw lines size right
      where
        few : length lines ≤ asked_by_access (access_of origin ats raw)
        few = elim (cases_lt (asked_by_access (access_of origin ats raw)) (length lines)) [
          | inl more ↦ absurd (over lines more right)
          | inr most ↦ most
        ]
          where
            over : (ls : List EventLine) → asked_by_access (access_of origin ats raw) < length ls → AreRight Right ls → ⊥
            over [] more all = omega (arith, more)
            over (d ∷ ls) more all =
                let one : asked_by_access (access_of origin ats raw) < asked_by_access (access_of origin ats raw) = (all (asked_by_access (access_of origin ats raw)) _ (slice_get-get_or (d ∷ ls) (asked_by_access (access_of origin ats raw)) d more)).0 in
                omega (arith, one)

        size : length lines ≡ asked_by_access (access_of origin ats raw)
        size = elim (cases_lt (length lines) (asked_by_access (access_of origin ats raw))) [
          | inl less ↦ absurd (enough less)
          | inr most ↦ let f : length lines ≤ asked_by_access (access_of origin ats raw) = few in omega (arith, f, most)
        ]

  -- a raise
  module _ (how : Arrival) (raw : Option Event) (lines : List EventLine) where
    abbrev raised : Bool
    raised = is_raised (answer_of report who) lines

    abbrev RaiseRight : ℕ → EventLine → Type 0
    RaiseRight number line = MatchBool raised (IsRaisedLine script report who how raw number line) ⊥

    raise-forth : (banks : Banks) → IsRaise script report who how (resting raw) lines banks → AreRight RaiseRight lines × (length lines < cond raised (from_bool (is_some raw)) 0 → ⊥) × (banks ≡ resting (cond raised None raw))
    raise-forth banks is = by raised is
      where
        by : (b : Bool) → MatchBool b (IsCheck script report who how (resting raw) lines × (banks ≡ empty_banks)) ((lines ≡ []) × (banks ≡ resting raw))
            → AreRight (λ (n : ℕ) (l : EventLine). MatchBool b (IsRaisedLine script report who how raw n l) ⊥) lines × (length lines < cond b (from_bool (is_some raw)) 0 → ⊥) × (banks ≡ resting (cond b None raw))
        by true (check, left) =
            let all = check-forth script report who how raw lines check in
            (all.1, λ less. let e : length lines ≡ from_bool (is_some raw) = all.0 in omega (arith, e, less), left)
        by false (none, left) = (none-right (λ (n : ℕ) (l : EventLine). ⊥) lines none, λ less. omega (arith, less), left)

    raise-back : AreRight RaiseRight lines → (length lines < cond raised (from_bool (is_some raw)) 0 → ⊥) → IsRaise script report who how (resting raw) lines (resting (cond raised None raw))
    raise-back right enough = by raised right enough
      where
        size : (r : Option Event) (ls : List EventLine) → AreRight (λ (n : ℕ) (l : EventLine). IsRaisedLine script report who how r n l) ls → (length ls < from_bool (is_some r) → ⊥) → length ls ≡ from_bool (is_some r)
        size None [] all enough_lines = refl
        size None (l ∷ ls) all enough_lines = absurd (all 0 l refl).1
        size (Some event) [] all enough_lines = absurd (enough_lines (omega arith))
        size (Some event) (l ∷ []) all enough_lines = refl
        size (Some event) (l ∷ m ∷ ms) all enough_lines = absurd (let one : 1 ≡ 0 = (all 1 m refl).0 in omega (arith, one))

        by : (b : Bool) → AreRight (λ (n : ℕ) (l : EventLine). MatchBool b (IsRaisedLine script report who how raw n l) ⊥) lines → (length lines < cond b (from_bool (is_some raw)) 0 → ⊥)
            → MatchBool b (IsCheck script report who how (resting raw) lines × (resting (cond b None raw) ≡ empty_banks)) ((lines ≡ []) × (resting (cond b None raw) ≡ resting raw))
        by true all enough_lines = (check-back script report who how raw lines (size raw lines all enough_lines) all, refl)
        by false all enough_lines = (none-asked lines all, refl)

  -- right lines of a scrub, one after another
  module _ (how : Arrival) (course : Course) where
    abbrev All : Reach → List EventLine → Type 0
    All reach lines = AllGood script report who how course reach lines

    -- the first of right lines doesn't come in place of another
    not-instead : (lines : List EventLine) (reach : Reach) → All reach lines → comes_instead report course reach (slice_get lines 0) ≡ false
    not-instead [] reach good = refl
    not-instead (x ∷ xs) reach good = by (turn report course reach x) good.0
      where
        by : (t : Turn) → IsScrubbedLine script report who how reach x t → is_instead t ≡ false
        by turns.Beside is = refl
        by turns.Bad is = refl
        by turns.Weak is = refl
        by turns.Instead is = absurd is
        by turns.Stray is = refl

    good-right : (lines : List EventLine) (reach : Reach) → All reach lines → AreRight (IsRightIn script report who how course reach lines) lines
    good-right [] reach good = λ n l there. absurd (none-some l there)
    good-right (x ∷ xs) reach good = at (good-right xs (step script report who how course reach x) good.1)
      where
        at : AreRight (IsRightIn script report who how course (step script report who how course reach x) xs) xs → AreRight (IsRightIn script report who how course reach (x ∷ xs)) (x ∷ xs)
        at rest zero l there = (subst (λ (y : EventLine). IsScrubbedLine script report who how reach y (turn report course reach y)) (same_Some _ _ there) good.0, not-instead xs (step script report who how course reach x) good.1)
        at rest (suc n) l there = rest n l there

    right-good : (lines : List EventLine) (reach : Reach) → AreRight (IsRightIn script report who how course reach lines) lines → All reach lines
    right-good [] reach right = record {}
    right-good (x ∷ xs) reach right = ((right 0 x refl).0, right-good xs (step script report who how course reach x) (λ n l there. right (suc n) l there))

    no-strays : (lines : List EventLine) (reach : Reach) → All reach lines → (after_all report course reach lines).strays ≡ reach.strays
    no-strays [] reach good = refl
    no-strays (x ∷ xs) reach good = no-strays xs (step script report who how course reach x) good.1 ∙ by (turn report course reach x) good.0
      where
        by : (t : Turn) → IsScrubbedLine script report who how reach x t → (after course reach x t).strays ≡ reach.strays
        by turns.Beside is = refl
        by turns.Bad is = refl
        by turns.Weak is = refl
        by turns.Instead is = absurd is
        by turns.Stray is = absurd is

  -- a scrub
  module _ (masks : AreMasks report) (has_lines : HasLines script) (first last : Frame) (fits : first.0 ≤ last.0) (raw : Option Event) (lines : List EventLine) where
    abbrev scrub : Arrival
    scrub = arrival_of (commands.Scrub first last)

    abbrev course : Course
    course = course_of script report who first last

    abbrev start : Reach
    start = reach_from first raw

    abbrev end : Reach
    end = after_all report course start lines

    bounds : (frame at : ℕ) → first.0 ≤ frame → frame ≤ last.0 → IsDamaged report origins.BadLine frame at → at ≤ course.low (2 * frame) → 2 * frame < course.bound
    bounds frame at from within damaged low =
        bound-has report course.low (last.0 + 1 - first.0) first.0 0 frame (omega arith) from (omega (arith, from, within)) (can-meet report course.low frame at damaged (masks origins.BadLine frame at damaged) low)

    begins : Ready course.low start (2 * first.0) raw
    begins = record { next = omega arith; gap = ap (marked_from course.low (2 * first.0)) (let e : 2 * first.0 - 2 * first.0 ≡ 0 = omega arith in e); raw_is = refl; begun = refl; passed = refl; strays = refl }

    scrub-forth : (banks : Banks) → AreScrubbed script report who scrub first.0 (last.0 + 1 - first.0) (resting raw) lines banks
        → AreRight (IsRightIn script report who scrub course start lines) lines × (end.strays < lacking course end → ⊥) × (banks ≡ resting end.raw)
    scrub-forth banks are =
        let all = frames-forth script report who scrub course first.0 masks (lows script report who) bounds (last.0 + 1 - first.0) first.0 start raw lines banks begins (omega arith) (omega (arith, fits)) are in
        (good-right scrub course lines start all.2, none all.0 all.3, all.1 ∙ ap resting (sym all.3.raw_is))
      where
        none : (o : Option Event) → Ready course.low end (2 * (first.0 + (last.0 + 1 - first.0))) o → end.strays < lacking course end → ⊥
        none o r less =
            let p : end.passed ≡ 0 = r.passed in
            let g : marked_from course.low end.next (2 * (first.0 + (last.0 + 1 - first.0)) - end.next) ≡ 0 = r.gap in
            let size : marked_from course.low end.next (2 * last.0 + 2 - end.next) ≡ marked_from course.low end.next (2 * (first.0 + (last.0 + 1 - first.0)) - end.next) =
            ap (λ (n : ℕ). marked_from course.low end.next (n - end.next)) (let e : 2 * last.0 + 2 ≡ 2 * (first.0 + (last.0 + 1 - first.0)) = omega (arith, fits) in e) in
            let b : from_bool (is_some end.begun) ≡ 0 = ap (λ (o : Option Bool). from_bool (is_some o)) r.begun in
            let l : end.strays < end.passed + marked_from course.low end.next (2 * last.0 + 2 - end.next) + from_bool (is_some end.begun) = less in
            omega (arith, p, g, size, b, l)

    scrub-back : AreRight (IsRightIn script report who scrub course start lines) lines → (end.strays < lacking course end → ⊥) → AreScrubbed script report who scrub first.0 (last.0 + 1 - first.0) (resting raw) lines (resting end.raw)
    scrub-back right enough =
        frames-back script report who scrub course (most script report who) (backs script report who has_lines) first.0 raw start lines (omega (arith, fits)) refl refl refl good (not-begun end.begun rest.2) rest.0 rest.1
      where
        good : AllGood script report who scrub course start lines
        good = right-good scrub course lines start right

        nothing : lacking course end ≡ 0
        nothing = elim (cases_lt end.strays (lacking course end)) [
          | inl less ↦ absurd (enough less)
          | inr most_lines ↦ let s : end.strays ≡ 0 = no-strays scrub course lines start good in omega (arith, most_lines, s)
        ]

        rest : (end.passed ≡ 0) × (marked_from course.low end.next (2 * last.0 + 2 - end.next) ≡ 0) × (from_bool (is_some end.begun) ≡ 0)
        rest = let n : end.passed + marked_from course.low end.next (2 * last.0 + 2 - end.next) + from_bool (is_some end.begun) ≡ 0 = nothing in (omega (arith, n), omega (arith, n), omega (arith, n))

        not-begun : (o : Option Bool) → from_bool (is_some o) ≡ 0 → o ≡ None
        not-begun None is = refl
        not-begun (Some b) is = absurd (let one : 1 ≡ 0 = is in omega (arith, one))

  logged-is : (a : Option Answer) (event : Event) (raw : Option Event) → logged_if_done a event (resting raw) ≡ resting (logged_if a event raw)
  logged-is (Some answers.Done) event raw = refl
  logged-is None event raw = refl
  logged-is (Some _) event raw = refl

  -- any command
  module _ (copies : Who → Option VSlot) (masks : AreMasks report) (has_lines : HasLines script) (raw : Option Event) (lines : List EventLine) where
    abbrev Fits : Command → Type 0
    Fits command = AreRight (IsRightLine script copies report who command raw lines) lines × (Lacks script copies report who command raw lines → ⊥)

    abbrev Allowed : Command → Banks → Type 0
    Allowed command banks = AreEventsOf script copies report who (arrival_of command) command (resting raw) lines banks

    nothing-forth : {left : Banks} (banks : Banks) → (lines ≡ []) × (banks ≡ left) → AreRight (λ (n : ℕ) (l : EventLine). ⊥) lines × (⊥ → ⊥) × (banks ≡ left)
    nothing-forth banks none = (none-right (λ (n : ℕ) (l : EventLine). ⊥) lines none.0, λ b. b, none.1)

    pub whole-forth : (command : Command) (banks : Banks) → IsFit command → Allowed command banks → AreRight (IsRightLine script copies report who command raw lines) lines × (Lacks script copies report who command raw lines → ⊥) × (banks ≡ resting (leaves script copies report who command raw lines))
    whole-forth (commands.Load thread slot at) banks fit are = accessed-forth (arrival_of (commands.Load thread slot at)) origins.Access refl (access_lines report who at) raw lines banks are
    whole-forth (commands.Fetch thread slot at) banks fit are = accessed-forth (arrival_of (commands.Fetch thread slot at)) origins.Fetch refl (access_lines report who at) raw lines banks are
    whole-forth (commands.KLoad thread slot at) banks fit are = accessed-forth (arrival_of (commands.KLoad thread slot at)) origins.Access refl (access_lines report who at) raw lines banks are
    whole-forth (commands.Store thread slot at word) banks fit are = accessed-forth (arrival_of (commands.Store thread slot at word)) origins.Access refl (store_lines script.layout report who (copies who) slot at) raw lines banks are
    whole-forth (commands.Scrub first last) banks fit are = scrub-forth masks has_lines first last fit raw lines banks are
    whole-forth (commands.RaiseUser thread ripv eipv) banks fit are = raise-forth (arrival_of (commands.RaiseUser thread ripv eipv)) raw lines banks are
    whole-forth (commands.RaiseKernel ripv eipv) banks fit are = raise-forth (arrival_of (commands.RaiseKernel ripv eipv)) raw lines banks are
    whole-forth (commands.Log status addr misc) banks fit are = (none-right (λ (n : ℕ) (l : EventLine). ⊥) lines are.0, λ b. b, are.1 ∙ logged-is (answer_of report who) (raw_event status addr misc) raw)
    whole-forth _ banks fit are = nothing-forth banks are

    pub whole-back : (command : Command) → IsFit command → AreRight (IsRightLine script copies report who command raw lines) lines → (Lacks script copies report who command raw lines → ⊥) → Allowed command (resting (leaves script copies report who command raw lines))
    whole-back (commands.Load thread slot at) fit right enough = accessed-back (arrival_of (commands.Load thread slot at)) origins.Access refl (access_lines report who at) raw lines right enough
    whole-back (commands.Fetch thread slot at) fit right enough = accessed-back (arrival_of (commands.Fetch thread slot at)) origins.Fetch refl (access_lines report who at) raw lines right enough
    whole-back (commands.KLoad thread slot at) fit right enough = accessed-back (arrival_of (commands.KLoad thread slot at)) origins.Access refl (access_lines report who at) raw lines right enough
    whole-back (commands.Store thread slot at word) fit right enough = accessed-back (arrival_of (commands.Store thread slot at word)) origins.Access refl (store_lines script.layout report who (copies who) slot at) raw lines right enough
    whole-back (commands.Scrub first last) fit right enough = scrub-back masks has_lines first last fit raw lines right enough
    whole-back (commands.RaiseUser thread ripv eipv) fit right enough = raise-back (arrival_of (commands.RaiseUser thread ripv eipv)) raw lines right enough
    whole-back (commands.RaiseKernel ripv eipv) fit right enough = raise-back (arrival_of (commands.RaiseKernel ripv eipv)) raw lines right enough
    whole-back (commands.Log status addr misc) fit right enough = (none-asked lines right, sym (logged-is (answer_of report who) (raw_event status addr misc) raw))
    whole-back _ fit right enough = (none-asked lines right, refl)
