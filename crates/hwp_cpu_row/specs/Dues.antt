-- The frames that are taken out of use beside a command, and how the collector of corrected errors makes them due.
use Rattle.std.specs.Prelude.{◌≡◌, ℕ, suc, ◌-◌, ◌≤◌, nat_lt, List, [], ◌∷◌, ◌++◌, Option, Some, None, cond, length, map, slice_get}
use Rattle.std.specs.List.{cons_option}
use Rattle.hwp_claim.specs.hwp_geom.declared.Frame.{Frame}
use Rattle.hwp_claim.specs.hwp_geom.declared.Layout.{Layout}
use Rattle.hwp_claim.specs.declared.EventOutcome.{EventOutcome}
use Rattle.hwp_claim.specs.hwp_law.hwp_cec.Counters.{Counters}
use Rattle.hwp_claim.specs.hwp_law.Notes.{noted_frame, notes_of_check}
use Rattle.hwp_cpu_row.specs.declared.local.Watching.{Watching}
use Rattle.hwp_cpu_row.specs.declared.row.Offlining.{Offlining}
use Rattle.hwp_cpu_row.specs.Acts.{event_at, told_notes}
use Rattle.hwp_cpu_row.specs.Locals.{Collects}

-- the frames, what came of the first of them, and the room for what comes of the others
pub record DueValue : Type 0 where
  pub frames : List Frame
  pub offlined : List Offlining
  pub spare : ℕ

abbrev pub no_due : DueValue
no_due = record { frames = []; offlined = []; spare = 0 }

-- the frame that comes next
abbrev pub next_due : DueValue → Option Frame
next_due d = slice_get d.frames (length d.offlined)

-- this came of it
abbrev pub with_offlining : DueValue → Offlining → DueValue
with_offlining d o = record d { offlined = d.offlined ++ o ∷ []; spare = d.spare - 1 }

-- how many of the events are of the first machine check
abbrev pub first_check : List EventOutcome → ℕ
first_check [] = 0
first_check (t ∷ []) = 1
first_check (t ∷ next ∷ rest) = cond (nat_lt t.held.bank next.held.bank) (suc (first_check (next ∷ rest))) 1

-- what the events of one machine check note
abbrev pub notes_of_lines : Layout → List EventOutcome → List Frame
notes_of_lines layout told = notes_of_check layout (map (event_at 0) told)

-- and what one of them notes, where none stopped the machine
abbrev pub notes_of_event : Layout → EventOutcome → List Frame
notes_of_event layout t = cons_option (noted_frame layout (event_at 0 t)) []

-- a collector took these notes, and the frames that are due by them came last
abbrev pub HasNoted : List Frame → Counters → List Frame → Counters → List Frame → Type 0
HasNoted notes c due after all = (more : List Frame) × (all ≡ due ++ more) × Collects notes c after more

-- those of these events; there is room for what comes of the frames
abbrev pub HasCollected : Layout → List EventOutcome → DueValue → Counters → DueValue → Counters → Type 0
HasCollected layout told d c after counters =
    (more : List Frame) × (spare : ℕ) × (after ≡ record { frames = d.frames ++ more; offlined = d.offlined; spare = spare }) × (length told ≤ spare) × Collects (told_notes layout told) c counters more

-- the collector has room for the frames
abbrev pub Covers : ℕ → Option Watching → Type 0
Covers frames None = Unit {0}
Covers frames (Some w) = frames ≤ length w.collector.counts

-- a processor's collector took the notes of these events, and the frames that are due by them came last
abbrev pub HasTaken : Layout → List EventOutcome → Option Watching → DueValue → Option Watching → DueValue → Type 0
HasTaken layout told None d after due = ⊥
HasTaken layout told (Some w) d after due = (counters : Counters) × HasCollected layout told d w.collector due counters × (after ≡ Some (record w { collector = counters }))
