-- What a command did beside its answer, in the order of time: the events that its machine checks told of, and the frames that were taken
-- out of use beside it.
use Rattle.std.specs.Prelude.{ℕ, ◌+◌, ◌==◌, ◌≤◌, List, [], ◌∷◌, map, if◌then◌else◌}
use Rattle.hwp_claim.specs.hwp_geom.declared.Frame.{Frame}
use Rattle.hwp_claim.specs.hwp_geom.declared.Layout.{Layout}
use Rattle.hwp_claim.specs.hwp_report_text.declared.EventLine.{EventLine}
use Rattle.hwp_claim.specs.hwp_law.Notes.{notes}
use Rattle.hwp_claim.specs.declared.told.EventOutcome.{EventOutcome}
use Rattle.hwp_cpu_row.specs.declared.row.Offlining.{Offlining}

pub data Act : Type 0 where
  Told : EventOutcome → Act
  Offlined : Offlining → Act

-- so many events were told of before these; a frame stands behind as many as its command had told of by then
abbrev pub acts_from : ℕ → List EventOutcome → List Offlining → List Act
acts_from n told [] = map Told told
acts_from n [] (o ∷ os) = Offlined o ∷ acts_from n [] os
acts_from n (t ∷ ts) (o ∷ os) = if o.told == n then Offlined o ∷ acts_from n (t ∷ ts) os else Told t ∷ acts_from (n + 1) ts (o ∷ os)

abbrev pub acts : List EventOutcome → List Offlining → List Act
acts told offlined = acts_from 0 told offlined

-- the frames stand in the order of time, behind as many events as this and no more than that
abbrev pub AreInTime : ℕ → ℕ → List Offlining → Type 0
AreInTime low high [] = low ≤ high
AreInTime low high (o ∷ os) = (low ≤ o.told) × AreInTime o.told high os

-- the line of an event that a command with this number told of
abbrev pub event_at : ℕ → EventOutcome → EventLine
event_at seq t = record { seq = seq; bank = t.held.bank; status = t.held.event.status.0; addr = t.held.event.addr; misc = t.held.event.misc; row = t.held.grade.row; acted = t.acted }

-- the frames that such events note; the number of the command doesn't matter
abbrev pub told_notes : Layout → List EventOutcome → List Frame
told_notes layout told = notes layout (map (event_at 0) told)
