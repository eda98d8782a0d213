-- The records of frames, gathered from what processors noted.
use Rattle.std.specs.Prelude.{◌≡◌, ℕ, List, [], ◌∷◌, ◌++◌, Some, length, slice_get, slice_index_or, slice_set}
use Rattle.hwp_plain.specs.hwp_geom.declared.Frame.{Frame}
use Rattle.hwp_cpu_row.specs.hwp_report_text.declared.MarkLine.{MarkLine}
use Rattle.hwp_law_served.specs.Rows.{Note, lines_of, record_of}

-- a line more in the record of its frame
abbrev pub with_note : Note → List (List MarkLine) → List (List MarkLine)
with_note note records = slice_set records note.0.0 (slice_index_or records note.0.0 [] ++ note.1 ∷ [])

-- each record goes on by the lines noted of its frame
pub record GoOn (own : List Note) (old new : List (List MarkLine)) : Type 0 where
  pub size : length new ≡ length old
  pub each : (frame : Frame) (was now : List MarkLine) → slice_get old frame.0 ≡ Some was → slice_get new frame.0 ≡ Some now → now ≡ was ++ lines_of frame own

-- the record of each frame has the lines that processors noted of it
pub record AreGathered (notes : List (List Note)) (count : ℕ) (records : List (List MarkLine)) : Type 0 where
  pub size : length records ≡ count
  pub each : (frame : Frame) (list : List MarkLine) → slice_get records frame.0 ≡ Some list → list ≡ record_of frame notes
