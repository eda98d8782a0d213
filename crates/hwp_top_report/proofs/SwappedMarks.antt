-- One scrub fails two frames: a clean page of a file is in frame 0, and an anonymous page in frame 1. A report in which the two frames
-- have each other's marks can keep the law of reports. What the rows note refuses it, and holds of the right one.
use Rattle.std.proofs.Common.{◌≡◌, ℕ, suc, zero, ◌<◌, Bool, true, false, cond, List, [], ◌∷◌, Some, None, length, slice_get, refl, ap, subst, arith}
use Rattle.std.specs.Prelude.{AllPairs}
use Rattle.std.proofs.lemmas.List.Sorted.{IsPermutation-refl, sum_by-IsPermutation}
use Rattle.std.proofs.lemmas.Option.{none-some, same_Some}
use Rattle.hwp_table_words.specs.hwp_geom.declared.Frame.{Frame}
use Rattle.hwp_table_words.specs.hwp_geom.declared.Who.{Who}
use Rattle.hwp_table_words.specs.hwp_page.declared.Outcome.TheVariants as outcomes
use Rattle.hwp_table_words.specs.hwp_page.declared.Situation.{Situation}
use Rattle.hwp_table_words.specs.hwp_page.declared.Situation.TheVariants as situations
use Rattle.hwp_cpu_row.specs.hwp_banks.Events.{bank_of, own_event}
use Rattle.hwp_cpu_row.specs.hwp_banks.declared.Origin.TheVariants as origins
use Rattle.hwp_cpu_row.specs.hwp_severity.declared.Severity.TheVariants as severities
use Rattle.hwp_cpu_row.specs.hwp_report_text.declared.Acted.TheVariants as acts
use Rattle.hwp_cpu_row.specs.hwp_report_text.declared.Answer.TheVariants as answers
use Rattle.hwp_cpu_row.specs.hwp_report_text.declared.FrameLine.{FrameLine}
use Rattle.hwp_cpu_row.specs.hwp_report_text.declared.How.TheVariants as hows
use Rattle.hwp_cpu_row.specs.hwp_report_text.declared.MarkLine.{MarkLine}
use Rattle.hwp_cpu_row.specs.hwp_report_text.declared.MarkLine.TheVariants as marks
use Rattle.hwp_cpu_row.specs.hwp_report_text.declared.Report.{Report}
use Rattle.hwp_cpu_row.specs.hwp_report_text.declared.Whereabouts.TheVariants as places
use Rattle.hwp_cpu_row.specs.hwp_claim.declared.EventOutcome.{EventOutcome}
use Rattle.hwp_cpu_row.specs.declared.Row.{Row}
use Rattle.hwp_law_served.specs.Rows.{record_of}
use Rattle.hwp_law_served.specs.Runs.{AreRecords, IsRecord, notes_of, place_in}

abbrev scrub : Who
scrub = record { cpu = record { 0 = 0 }; seq = 2 }

-- the frame's line 0 was bad, and its failure found this
abbrev event : Frame → Situation → EventOutcome
event frame situation = record {
  held = record { bank = bank_of origins.BadLine; event = own_event origins.BadLine frame 0; grade = record { severity = severities.Optional; row = 12 } };
  acted = acts.Recovered;
  found = Some (record { situation = situation; cycle = 0; at = None; signalled = false });
}

-- the rows of `bad 0 0`, `bad 1 0` and the scrub: the first two note nothing
abbrev done : Row
done = record { told = []; offlined = []; own = None; guest = None; answer = answers.Done }

abbrev scrubbed : Row
scrubbed = record { told = event (record { 0 = 0 }) situations.FileClean ∷ event (record { 0 = 1 }) situations.AnonOnly ∷ []; offlined = []; own = None; guest = None; answer = answers.Scrubbed 2 }

abbrev rows : List (List Row)
rows = (done ∷ done ∷ scrubbed ∷ []) ∷ []

-- the line of a frame whose failure found this
abbrev line : Situation → FrameLine
line situation = record {
  place = places.Handled;
  bad = record { 0 = 1 };
  weak = record { 0 = 0 };
  marks = marks.Poisoned 0 scrub (hows.Failure true situation outcomes.Recovered) ∷ [];
}

abbrev is_anonymous : MarkLine → Bool
is_anonymous (marks.Poisoned cycle who (hows.Failure hardware situations.AnonOnly outcome)) = true
is_anonymous _ = false

-- of frame 0 the rows note no anonymous page
pub swapped-refused : (report : Report) → report.frames ≡ line situations.AnonOnly ∷ line situations.FileClean ∷ [] → AreRecords (notes_of 0 rows) report → ⊥
swapped-refused report frames records =
    let first = records (record { 0 = 0 }) (line situations.AnonOnly) (ap (λ (l : List FrameLine). slice_get l 0) frames) in
    let same : ◌≡◌ {A = ℕ} 1 0
    = sum_by-IsPermutation (λ (m : MarkLine). cond (is_anonymous m) 1 0) (record_of (record { 0 = 0 }) (notes_of 0 rows)) (line situations.AnonOnly).marks first.noted in
    absurd (omega arith)

abbrev right : List FrameLine
right = line situations.FileClean ∷ line situations.AnonOnly ∷ []

-- a record of one mark is in order
abbrev HasOwn : ℕ → FrameLine → Type 0
HasOwn n l = IsRecord (notes_of 0 rows) (record { 0 = n }) l.marks

one : (l : List MarkLine) → length l ≡ 1 → AllPairs (λ (a b : MarkLine). place_in a < place_in b) l
one l single i j d less within = absurd (omega (arith, single))

own : (n : ℕ) (l : FrameLine) → slice_get right n ≡ Some l → HasOwn n l
own zero l there = subst (HasOwn zero) (same_Some (line situations.FileClean) l there) (record { noted = IsPermutation-refl (line situations.FileClean).marks; rising = one (line situations.FileClean).marks refl })
own (suc zero) l there = subst (HasOwn 1) (same_Some (line situations.AnonOnly) l there) (record { noted = IsPermutation-refl (line situations.AnonOnly).marks; rising = one (line situations.AnonOnly).marks refl })
own (suc (suc n)) l there = absurd (none-some l there)
