-- The same count from scratch: of a list of events, those are counted that stand after two of its places. Here the newest event stands
-- first. This project's rule.
use Rattle.std.specs.Prelude.{ℕ, ◌-◌, ◌==◌, Bool, false, ◌&&◌, List, [], ◌∷◌, reverse, count_by, if◌then◌else◌}
use Rattle.hwp_geom.specs.declared.Frame.{Frame}
use Rattle.hwp_cec.specs.Ages.{CecEvent, Note, Round}

-- whether the event is a note of the frame
abbrev pub is_note : ℕ → CecEvent → Bool
is_note frame (Note noted) = noted.0 == frame
is_note frame Round = false

-- the events after the window-th last round: all of them, where there are fewer rounds
abbrev pub after_round : ℕ → List CecEvent → List CecEvent
after_round window [] = []
after_round window (Note noted ∷ older) = Note noted ∷ after_round window older
after_round window (Round ∷ older) = if window == 1 then [] else Round ∷ after_round (window - 1) older

-- how many of them are notes of the frame
abbrev pub notes_of : ℕ → ℕ → List CecEvent → ℕ
notes_of window frame events = count_by (is_note frame) (after_round window events)

-- the events after the last offlining note of the frame. Such a note is the one that brings the notes to the threshold, of those after
-- the offlining note before it and after the window-th last round
abbrev pub after_offlining : ℕ → ℕ → ℕ → List CecEvent → List CecEvent
after_offlining threshold window frame [] = []
after_offlining threshold window frame (newest ∷ older) =
    if is_note frame newest && (notes_of window frame (newest ∷ after_offlining threshold window frame older) == threshold)
    then []
    else newest ∷ after_offlining threshold window frame older

-- the notes of the frame after its last offlining note and after the window-th last round, with the note that comes after these events
abbrev pub counted : ℕ → ℕ → List CecEvent → Frame → ℕ
counted threshold window events frame =
    notes_of window frame.0 (Note frame ∷ after_offlining threshold window frame.0 (reverse events))
