-- What the marks of frames say of a command: mark by mark, and as it is kept for the commands of a processor.
use Rattle.std.specs.Prelude.{◌≡◌, ℕ, ◌+◌, ◌==◌, nat_lt, ◌&&◌, ◌||◌, Bool, true, false, cond, List, [], ◌∷◌, fold, option_map, slice_get, unwrap_or}
use Rattle.std.specs.HashSet.{HashSet}
use Rattle.std.specs.HashSet as bag
use Rattle.std.specs.List.{list_any}
use Rattle.hwp_law.specs.hwp_geom.declared.Cpu.{Cpu}
use Rattle.hwp_law.specs.hwp_geom.declared.Who.{Who}
use Rattle.hwp_law.specs.hwp_page.declared.Outcome.{Outcome}
use Rattle.hwp_law.specs.hwp_page.declared.Outcome.TheVariants as outcomes
use Rattle.hwp_law.specs.hwp_report_text.declared.Acted.{Acted}
use Rattle.hwp_law.specs.hwp_report_text.declared.Acted.TheVariants as acts
use Rattle.hwp_law.specs.hwp_report_text.declared.FrameLine.{FrameLine}
use Rattle.hwp_law.specs.hwp_report_text.declared.How.{How}
use Rattle.hwp_law.specs.hwp_report_text.declared.How.TheVariants as hows
use Rattle.hwp_law.specs.hwp_report_text.declared.MarkLine.{MarkLine}
use Rattle.hwp_law.specs.hwp_report_text.declared.MarkLine.TheVariants as marks
use Rattle.hwp_law.specs.Lines.{is_same_command}
use Rattle.hwp_law.specs.Records.{who_in}
use Rattle.hwp_check_event_line.specs.declared.results.Results.{Results}

-- what was done says what came of a failure
abbrev pub tells : Outcome → Acted → Bool
tells outcomes.Recovered acts.Recovered = true
tells outcomes.Delayed acts.Delayed = true
tells outcomes.Ignored acts.Ignored = true
tells _ _ = false

-- the mark is one that an event of the command caused, and tells this
abbrev pub tells_mark : Who → Acted → MarkLine → Bool
tells_mark who acted (marks.Poisoned cycle by (hows.Failure true situation outcome)) = is_same_command who by && tells outcome acted
tells_mark who acted _ = false

abbrev pub has_result : Who → Acted → List MarkLine → Bool
has_result who acted [] = false
has_result who acted (m ∷ ms) = tells_mark who acted m || has_result who acted ms

-- the number of what a mark says: 0, 1 or 2 for what came of it, and 0, 3, 6, 9 or 12 for what it is: a failure by an event, one by a
-- command, a soft offline that moved the content or took a free frame, and the taking back of a poisoning
abbrev pub outcome_number : Outcome → ℕ
outcome_number outcomes.Recovered = 0
outcome_number outcomes.Delayed = 1
outcome_number outcomes.Ignored = 2

abbrev pub failure_number : Bool → Outcome → ℕ
failure_number hardware outcome = cond hardware (outcome_number outcome) (outcome_number outcome + 3)

abbrev pub how_number : How → ℕ
how_number (hows.Failure hardware situation outcome) = failure_number hardware outcome
how_number hows.Moved = 6
how_number hows.TakenFree = 9

abbrev pub mark_number : MarkLine → ℕ
mark_number (marks.Poisoned cycle who how) = how_number how
mark_number (marks.Unpoisoned cycle who) = 12

-- that of a failure by an event, where what was done says what came of it, or one that nothing has
abbrev pub acted_number : Acted → ℕ
acted_number acts.Recovered = 0
acted_number acts.Delayed = 1
acted_number acts.Ignored = 2
acted_number _ = 13

-- a mark of the command has the number
abbrev pub is_numbered : Who → ℕ → MarkLine → Bool
is_numbered who number m = is_same_command who (who_in m) && (mark_number m == number)

abbrev pub has_number : Who → ℕ → List MarkLine → Bool
has_number who number list = list_any (is_numbered who number) list

-- a mark of the command says that this came of it
abbrev pub has_come : Who → Outcome → List MarkLine → Bool
has_come who outcome list =
    ((has_number who (outcome_number outcome) list || has_number who (outcome_number outcome + 3) list) || has_number who (outcome_number outcome + 6) list) || has_number who (outcome_number outcome + 9) list

-- what is kept of a mark: its frame, the number of the command, and the number of what it says
abbrev pub is_key : (ℕ × ℕ) × ℕ → (ℕ × ℕ) × ℕ → Bool
is_key x y = ((x.0.0 == y.0.0) && (x.0.1 == y.0.1)) && (x.1 == y.1)

abbrev pub has_key : {S : Type 0} → HashSet ((ℕ × ℕ) × ℕ) S → (ℕ × ℕ) × ℕ → Bool
has_key keys q = bag.contains is_key keys q

-- whether it is kept behind a mark of a frame, where it was or wasn't before; and behind some marks
abbrev pub mark_kept : Cpu → ℕ → (ℕ × ℕ) × ℕ → Bool → MarkLine → Bool
mark_kept cpu frame q had m = cond ((who_in m).cpu.0 == cpu.0) (cond (is_key ((frame, (who_in m).seq), mark_number m) q) true had) had

abbrev pub marks_kept : Cpu → ℕ → (ℕ × ℕ) × ℕ → Bool → List MarkLine → Bool
marks_kept cpu frame q had list = fold (mark_kept cpu frame q) had list

-- the record of a frame
abbrev pub marks_at : List FrameLine → ℕ → List MarkLine
marks_at frames frame = unwrap_or (option_map (λ (l : FrameLine). l.marks) (slice_get frames frame)) []

-- whether it is kept behind the marks of the first n frames
abbrev pub kept_below : ℕ → Cpu → List FrameLine → (ℕ × ℕ) × ℕ → Bool
kept_below n cpu frames q = cond (nat_lt q.0.0 n) (marks_kept cpu q.0.0 q false (marks_at frames q.0.0)) false

-- what is kept is what the marks of the frames say
pub record AreResults (cpu : Cpu) (frames : List FrameLine) (results : Results) : Type 0 where
  pub each : (q : (ℕ × ℕ) × ℕ) → has_key results.keys q ≡ marks_kept cpu q.0.0 q false (marks_at frames q.0.0)
