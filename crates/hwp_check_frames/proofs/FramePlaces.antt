-- What stands where in a report: the marks of a frame, and the headings of frames, which rise.
use Rattle.std.proofs.Common.{◌≡◌, ℕ, ◌+◌, ◌≤◌, ◌&&◌, ◌||◌, Bool, true, false, [], Option, Some, None, length, option_map, slice_get, sum_by, take, true≢false, unwrap_or, refl, sym, ap, ◌∙◌, subst, arith}
use Rattle.std.proofs.lemmas.Bool.{eq-eqb, eqb-true}
use Rattle.std.proofs.lemmas.List.{take-take}
use Rattle.std.proofs.lemmas.List.Sums.{sum_by_more, sum_by-take-le}
use Rattle.std.proofs.lemmas.Option.{get_or_from_slice_get, none-some, slice_get_within}
use Rattle.hwp_check_rules.specs.hwp_geom.declared.Who.{Who}
use Rattle.hwp_check_rules.specs.hwp_report_text.declared.FrameLine.{FrameLine}
use Rattle.hwp_check_rules.specs.hwp_report_text.declared.MarkLine.{MarkLine}
use Rattle.hwp_check_rules.specs.hwp_report_text.declared.Report.{Report}
use Rattle.hwp_check_rules.specs.hwp_law.Lines.{is_same_command, marks_of}
use Rattle.hwp_check_rules.specs.Standing.{frame_height, frame_line}

pub and-left : (a b : Bool) → (a && b) ≡ true → a ≡ true
and-left true b is = refl
and-left false b is = absurd (true≢false (sym is))

pub and-right : (a b : Bool) → (a && b) ≡ true → b ≡ true
and-right true b is = is
and-right false b is = absurd (true≢false (sym is))

pub and-both : (a b : Bool) → a ≡ true → b ≡ true → (a && b) ≡ true
and-both true b one other = other
and-both false b one other = absurd (true≢false (sym one))

pub or-left : (a b : Bool) → (a || b) ≡ false → a ≡ false
or-left true b is = absurd (true≢false is)
or-left false b is = refl

pub or-right : (a b : Bool) → (a || b) ≡ false → b ≡ false
or-right true b is = absurd (true≢false is)
or-right false b is = is

pub same-self : (who : Who) → is_same_command who who ≡ true
same-self who = and-both _ _ (eq-eqb who.cpu.0 who.cpu.0 refl) (eq-eqb who.seq who.seq refl)

abbrev who-at : ℕ → ℕ → Who
who-at cpu seq = record { cpu = record { 0 = cpu }; seq = seq }

pub same-who : (one other : Who) → is_same_command one other ≡ true → other ≡ one
same-who one other is =
    let cpu_is : one.cpu.0 ≡ other.cpu.0 = eqb-true one.cpu.0 other.cpu.0 (and-left _ _ is) in
    let seq_is : one.seq ≡ other.seq = eqb-true one.seq other.seq (and-right _ _ is) in
    sym (ap (λ (k : ℕ). who-at k one.seq) cpu_is ∙ ap (λ (k : ℕ). who-at other.cpu.0 k) seq_is)

-- the record of a frame that the report shows
pub marks-are : (report : Report) (frame : ℕ) (line : FrameLine) → slice_get report.frames frame ≡ Some line → marks_of report frame ≡ line.marks
marks-are report frame line there = ap (λ (o : Option FrameLine). unwrap_or (option_map (λ (l : FrameLine). l.marks) o) []) there

-- a mark that is there is in the record of a frame that the report shows
pub shown-in : (report : Report) (frame place : ℕ) (mark : MarkLine) → slice_get (marks_of report frame) place ≡ Some mark → (line : FrameLine) × (slice_get report.frames frame ≡ Some line)
shown-in report frame place mark there = by (slice_get report.frames frame) refl there
  where
    by : (o : Option FrameLine) → slice_get report.frames frame ≡ o → slice_get (unwrap_or (option_map (λ (l : FrameLine). l.marks) o) []) place ≡ Some mark → (line : FrameLine) × (slice_get report.frames frame ≡ Some line)
    by None is in_none = absurd (none-some mark in_none)
    by (Some line) is in_line = (line, is)

-- lines further down are higher
pub frame-next : (report : Report) (n : ℕ) (line : FrameLine) → slice_get report.frames n ≡ Some line → frame_line report (n + 1) ≡ frame_line report n + 1 + length line.marks
frame-next report n line there =
    let more : sum_by frame_height (take (n + 1) report.frames) ≡ sum_by frame_height (take n report.frames) + frame_height line =
    sum_by_more frame_height report.frames n line (slice_get_within report.frames n line there)
    ∙ ap (λ (l : FrameLine). sum_by frame_height (take n report.frames) + frame_height l) (get_or_from_slice_get report.frames n line line there) in
    omega (arith, more)

pub frame-rises : (report : Report) (a b : ℕ) → a ≤ b → frame_line report a ≤ frame_line report b
frame-rises report a b low =
    let rises : sum_by frame_height (take a report.frames) ≤ sum_by frame_height (take b report.frames) =
    subst (λ t. sum_by frame_height t ≤ sum_by frame_height (take b report.frames)) (take-take a b report.frames low) (sum_by-take-le frame_height (take b report.frames) a) in
    omega (arith, rises)
