-- What a line of the scrubber's own is to a scrub.
use Rattle.std.proofs.Common.{◌≡◌, ℕ, ◌+◌, ◌*◌, ◌%◌, ◌<◌, ◌≤◌, ◌==◌, ◌&&◌, ◌||◌, Bool, true, false, cond, is_none, is_some, true≢false, refl, sym, ap, ◌∙◌, subst, arith}
use Rattle.std.specs.Bool.{nat_le, nat_lt}
use Rattle.std.proofs.lemmas.Bool.{and_from, and_right, cond-false, cond-true, eq-eqb, le-leb, leb-true, lt-ltb, ltb-true, and_parts, ne_eqb}
use Rattle.hwp_banks.specs.hwp_geom.declared.Frame.{Frame}
use Rattle.hwp_banks.specs.hwp_geom.declared.Who.{Who}
use Rattle.hwp_banks.specs.Addresses.{frame_at}
use Rattle.hwp_banks.specs.Events.{bank_of, line_misc, own_event, own_status}
use Rattle.hwp_banks.specs.declared.Origin.{Origin}
use Rattle.hwp_banks.specs.declared.Origin.TheVariants as origins
use Rattle.hwp_law.specs.hwp_script_words.declared.Script.{Script}
use Rattle.hwp_law.specs.hwp_report_text.declared.Report.{Report}
use Rattle.hwp_law.specs.Checks.{IsLineOf}
use Rattle.hwp_law.specs.hwp_severity.declared.Arrival.{Arrival}
use Rattle.hwp_law.specs.Events.{IsDamaged}
use Rattle.hwp_banks.specs.Banks.{raw_bank}
use Rattle.hwp_law.specs.hwp_report_text.declared.EventLine.{EventLine}
use Rattle.hwp_check_event_line.specs.Scrubs.{Course, damaged_lines, line_at, may_meet, place_of, tells_own, turn}
use Rattle.hwp_check_event_line.specs.Lines.{has_line}
use Rattle.hwp_check_event_line.specs.declared.reach.Reach.{Reach}
use Rattle.hwp_check_event_line.specs.declared.reach.Turn.{Turn}
use Rattle.hwp_check_event_line.specs.declared.reach.Turn.TheVariants as turns
use Rattle.hwp_check_event_line.proofs.LineLaws.{frame-of-line, has_line_is}

all-four : (a b c d : Bool) → a ≡ true → b ≡ true → c ≡ true → d ≡ true → (a && b && c && d) ≡ true
all-four true true true true p q r s = refl
all-four false b c d p q r s = absurd (true≢false (sym p))
all-four true false c d p q r s = absurd (true≢false (sym q))
all-four true true false d p q r s = absurd (true≢false (sym r))
all-four true true true false p q r s = absurd (true≢false (sym s))

each-of-four : (a b c d : Bool) → (a && b && c && d) ≡ true → (a ≡ true) × (b ≡ true) × (c ≡ true) × (d ≡ true)
each-of-four true true true true p = (refl, refl, refl, refl)
each-of-four false b c d p = absurd (true≢false (sym p))
each-of-four true false c d p = absurd (true≢false (sym p))
each-of-four true true false d p = absurd (true≢false (sym p))
each-of-four true true true false p = absurd (true≢false (sym p))

not-first : (a b c d : Bool) → a ≡ false → (a && b && c && d) ≡ false
not-first false b c d p = refl
not-first true b c d p = absurd (true≢false p)

not-second : (a b c d : Bool) → b ≡ false → (a && b && c && d) ≡ false
not-second false b c d p = refl
not-second true false c d p = refl
not-second true true c d p = absurd (true≢false p)

all-five : (a b c d e : Bool) → a ≡ true → b ≡ true → c ≡ true → d ≡ true → e ≡ true → (a && b && c && d && e) ≡ true
all-five true true true true true p q r s t = refl
all-five false b c d e p q r s t = absurd (true≢false (sym p))
all-five true false c d e p q r s t = absurd (true≢false (sym q))
all-five true true false d e p q r s t = absurd (true≢false (sym r))
all-five true true true false e p q r s t = absurd (true≢false (sym s))
all-five true true true true false p q r s t = absurd (true≢false (sym t))

each-of-five : (a b c d e : Bool) → (a && b && c && d && e) ≡ true → (a ≡ true) × (b ≡ true) × (c ≡ true) × (d ≡ true) × (e ≡ true)
each-of-five true true true true true p = (refl, refl, refl, refl, refl)
each-of-five false b c d e p = absurd (true≢false (sym p))
each-of-five true false c d e p = absurd (true≢false (sym p))
each-of-five true true false d e p = absurd (true≢false (sym p))
each-of-five true true true false e p = absurd (true≢false (sym p))
each-of-five true true true true false p = absurd (true≢false (sym p))

first-of-five : (a b c d e : Bool) → a ≡ false → (a && b && c && d && e) ≡ false
first-of-five false b c d e p = refl
first-of-five true b c d e p = absurd (true≢false p)

damaged-has : (report : Report) (origin : Origin) (frame at : ℕ) → IsDamaged report origin frame at → has_line (damaged_lines report origin frame) at ≡ true
damaged-has report origins.WeakLine frame at set = (has_line_is _ at).1 set
damaged-has report origins.Access frame at set = (has_line_is _ at).1 set
damaged-has report origins.Fetch frame at set = (has_line_is _ at).1 set
damaged-has report origins.BadLine frame at set = (has_line_is _ at).1 set

has-damaged : (report : Report) (origin : Origin) (frame at : ℕ) → has_line (damaged_lines report origin frame) at ≡ true → IsDamaged report origin frame at
has-damaged report origins.WeakLine frame at is = (has_line_is _ at).0 is
has-damaged report origins.Access frame at is = (has_line_is _ at).0 is
has-damaged report origins.Fetch frame at is = (has_line_is _ at).0 is
has-damaged report origins.BadLine frame at is = (has_line_is _ at).0 is

-- what the line of an own event at a line of a frame says
pub record Says (origin : Origin) (frame at : ℕ) (line : EventLine) : Type 0 where
  pub bank : line.bank ≡ bank_of origin
  pub status : line.status ≡ own_status origin
  pub own : tells_own origin line ≡ true
  pub frame_is : frame_at line.addr ≡ frame
  pub line_is : line_at line.addr ≡ at

pub says : (script : Script) (report : Report) (who : Who) (how : Arrival) (held : Bool) (origin : Origin) (frame : Frame) (at : ℕ) (line : EventLine) → at < 64
    → IsLineOf script report who how held (bank_of origin) (own_event origin frame at) line → Says origin frame.0 at line
says script report who how held origin frame at line small is = record {
  bank = is.bank_is;
  status = is.status;
  own = all-four (line.bank == bank_of origin) (line.status == own_status origin) (line.misc == line_misc) (line.addr % 64 == 0) (eq-eqb line.bank (bank_of origin) is.bank_is) (eq-eqb line.status (own_status origin) is.status) (eq-eqb line.misc line_misc is.misc)
      (eq-eqb (line.addr % 64) 0 whole);
  frame_is = frame-of-line frame at line.addr small is.addr;
  line_is = inside;
}
  where
    whole : line.addr % 64 ≡ 0
    whole = let sum : line.addr ≡ frame.0 * 4096 + at * 64 = is.addr in omega (arith, sum)

    inside : line_at line.addr ≡ at
    inside = let sum : line.addr ≡ frame.0 * 4096 + at * 64 = is.addr in omega (arith, sum, small)

module _ (report : Report) (course : Course) where
  pub meets : (origin : Origin) (reach : Reach) (frame at : ℕ) (line : EventLine) → Says origin frame at line → reach.next ≤ place_of origin frame → frame ≤ course.last → IsDamaged report origin frame at → at ≤ course.low (place_of origin frame)
      → may_meet report course origin reach line ≡ true
  meets origin reach frame at line s ahead within damaged low =
      all-five (tells_own origin line) (nat_le reach.next (place_of origin (frame_at line.addr))) (nat_le (frame_at line.addr) course.last) (has_line (damaged_lines report origin (frame_at line.addr)) (line_at line.addr))
      (nat_le (line_at line.addr) (course.low (place_of origin (frame_at line.addr)))) s.own (le-leb _ _ (subst (λ (f : ℕ). reach.next ≤ place_of origin f) (sym s.frame_is) ahead)) (le-leb _ _ (subst (λ (f : ℕ). f ≤ course.last) (sym s.frame_is) within))
      (subst (λ (f : ℕ). has_line (damaged_lines report origin f) (line_at line.addr) ≡ true) (sym s.frame_is) (subst (λ (a : ℕ). has_line (damaged_lines report origin frame) a ≡ true) (sym s.line_is) (damaged-has report origin frame at damaged)))
      (le-leb _ _ (subst (λ (f : ℕ). line_at line.addr ≤ course.low (place_of origin f)) (sym s.frame_is) (subst (λ (a : ℕ). a ≤ course.low (place_of origin frame)) (sym s.line_is) low)))

  -- what the scrub knows of a line that it meets
  pub record Met (origin : Origin) (reach : Reach) (line : EventLine) : Type 0 where
    pub own : tells_own origin line ≡ true
    pub ahead : reach.next ≤ place_of origin (frame_at line.addr)
    pub within : frame_at line.addr ≤ course.last
    pub damaged : IsDamaged report origin (frame_at line.addr) (line_at line.addr)
    pub low : line_at line.addr ≤ course.low (place_of origin (frame_at line.addr))

  pub met : (origin : Origin) (reach : Reach) (line : EventLine) → may_meet report course origin reach line ≡ true → Met origin reach line
  met origin reach line is =
      let parts = each-of-five (tells_own origin line) (nat_le reach.next (place_of origin (frame_at line.addr))) (nat_le (frame_at line.addr) course.last) (has_line (damaged_lines report origin (frame_at line.addr)) (line_at line.addr))
      (nat_le (line_at line.addr) (course.low (place_of origin (frame_at line.addr)))) is in
      record { own = parts.0; ahead = leb-true _ _ parts.1; within = leb-true _ _ parts.2; damaged = has-damaged report origin (frame_at line.addr) (line_at line.addr) parts.3; low = leb-true _ _ parts.4 }

  abbrev first_case : Reach → EventLine → Bool
  first_case reach line = (line.bank == raw_bank) && is_some reach.raw && is_none reach.begun && nat_lt reach.next course.bound

  abbrev second_case : Reach → EventLine → Bool
  second_case reach line = (is_none reach.raw || is_some reach.begun) && may_meet report course origins.BadLine reach line

  abbrev third_case : Reach → EventLine → Bool
  third_case reach line = is_none reach.begun && may_meet report course origins.WeakLine reach line

  abbrev fourth_case : Reach → EventLine → Bool
  fourth_case reach line = may_meet report course origins.WeakLine reach line

  not-beside : (reach : Reach) (line : EventLine) → line.bank ≡ 2 → first_case reach line ≡ false
  not-beside reach line is = not-first (line.bank == raw_bank) (is_some reach.raw) (is_none reach.begun) (nat_lt reach.next course.bound) (ne_eqb line.bank raw_bank (λ one. omega (arith, is, one)))

  pub turn-beside : (reach : Reach) (line : EventLine) → line.bank ≡ 1 → is_some reach.raw ≡ true → is_none reach.begun ≡ true → reach.next < course.bound → turn report course reach line ≡ turns.Beside
  turn-beside reach line bank raw begun more =
      cond-true (first_case reach line) turns.Beside (cond (second_case reach line) turns.Bad (cond (third_case reach line) turns.Weak (cond (fourth_case reach line) turns.Instead turns.Stray)))
      (all-four (line.bank == raw_bank) (is_some reach.raw) (is_none reach.begun) (nat_lt reach.next course.bound) (eq-eqb line.bank raw_bank bank) raw begun (lt-ltb _ _ more))

  pub turn-bad : (reach : Reach) (line : EventLine) → line.bank ≡ 2 → (is_none reach.raw || is_some reach.begun) ≡ true → may_meet report course origins.BadLine reach line ≡ true → turn report course reach line ≡ turns.Bad
  turn-bad reach line bank free may =
      cond-false (first_case reach line) turns.Beside (cond (second_case reach line) turns.Bad (cond (third_case reach line) turns.Weak (cond (fourth_case reach line) turns.Instead turns.Stray))) (not-beside reach line bank)
      ∙ cond-true (second_case reach line) turns.Bad (cond (third_case reach line) turns.Weak (cond (fourth_case reach line) turns.Instead turns.Stray)) (and_from _ _ free may)

  pub turn-weak : (reach : Reach) (line : EventLine) (frame at : ℕ) → Says origins.WeakLine frame at line → is_none reach.begun ≡ true → may_meet report course origins.WeakLine reach line ≡ true → turn report course reach line ≡ turns.Weak
  turn-weak reach line frame at s begun may =
      cond-false (first_case reach line) turns.Beside (cond (second_case reach line) turns.Bad (cond (third_case reach line) turns.Weak (cond (fourth_case reach line) turns.Instead turns.Stray))) (not-beside reach line s.bank)
      ∙ cond-false (second_case reach line) turns.Bad (cond (third_case reach line) turns.Weak (cond (fourth_case reach line) turns.Instead turns.Stray)) (and_right (is_none reach.raw || is_some reach.begun) (may_meet report course origins.BadLine reach line) no-bad)
      ∙ cond-true (third_case reach line) turns.Weak (cond (fourth_case reach line) turns.Instead turns.Stray) (and_from _ _ begun may)
    where
      other : (line.status == own_status origins.BadLine) ≡ false
      other = ap (λ (n : ℕ). n == own_status origins.BadLine) s.status

      no-bad : may_meet report course origins.BadLine reach line ≡ false
      no-bad = first-of-five (tells_own origins.BadLine line) (nat_le reach.next (place_of origins.BadLine (frame_at line.addr))) (nat_le (frame_at line.addr) course.last)
          (has_line (damaged_lines report origins.BadLine (frame_at line.addr)) (line_at line.addr)) (nat_le (line_at line.addr) (course.low (place_of origins.BadLine (frame_at line.addr))))
          (not-second (line.bank == bank_of origins.BadLine) (line.status == own_status origins.BadLine) (line.misc == line_misc) (line.addr % 64 == 0) other)

  -- by its turn, what is known of a line
  abbrev pub Known : Reach → EventLine → Turn → Type 0
  Known reach line turns.Beside = (is_some reach.raw ≡ true) × (is_none reach.begun ≡ true) × (reach.next < course.bound)
  Known reach line turns.Bad = ((is_none reach.raw || is_some reach.begun) ≡ true) × Met origins.BadLine reach line
  Known reach line turns.Weak = (is_none reach.begun ≡ true) × Met origins.WeakLine reach line
  Known reach line turns.Instead = Unit {0}
  Known reach line turns.Stray = Unit {0}

  pub known : (reach : Reach) (line : EventLine) → Known reach line (turn report course reach line)
  known reach line = by (first_case reach line) refl (second_case reach line) refl (third_case reach line) refl (fourth_case reach line)
    where
      by : (a : Bool) → first_case reach line ≡ a → (b : Bool) → second_case reach line ≡ b → (c : Bool) → third_case reach line ≡ c → (d : Bool) → Known reach line (cond a turns.Beside (cond b turns.Bad (cond c turns.Weak (cond d turns.Instead turns.Stray))))
      by true is b b_is c c_is d = let parts = each-of-four (line.bank == raw_bank) (is_some reach.raw) (is_none reach.begun) (nat_lt reach.next course.bound) is in (parts.1, parts.2, ltb-true _ _ parts.3)
      by false is true b_is c c_is d = let parts = and_parts (is_none reach.raw || is_some reach.begun) (may_meet report course origins.BadLine reach line) b_is in (parts.0, met origins.BadLine reach line parts.1)
      by false is false b_is true c_is d = let parts = and_parts (is_none reach.begun) (may_meet report course origins.WeakLine reach line) c_is in (parts.0, met origins.WeakLine reach line parts.1)
      by false is false b_is false c_is true = record {}
      by false is false b_is false c_is false = record {}
