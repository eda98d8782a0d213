-- A command's event lines are what the law calls so.
use Rattle.std.proofs.Common.{◌≡◌, ℕ, ◌+◌, ◌==◌, Bool, true, false, cond, List, [], ◌∷◌, ◌++◌, refl, ap}
use Rattle.hwp_law.specs.hwp_report_text.declared.CpuLine.{CpuLine}
use Rattle.hwp_law.specs.hwp_report_text.declared.CpuLine.TheVariants as lines
use Rattle.hwp_law.specs.hwp_report_text.declared.EventLine.{EventLine}
use Rattle.hwp_law.specs.Lines.{events_among}
use Rattle.hwp_check_event_line.specs.OfCommands.{shown_from}
use Rattle.hwp_check_event_line.specs.Firsts.{shown_lines}
use Rattle.hwp_check_event_line.specs.declared.shown.Shown.{Shown}

-- the lists are what the law calls a command's event lines
told-from : (seq : ℕ) (rows : List CpuLine) (place : ℕ) → shown_lines (shown_from seq place rows) ≡ events_among rows seq
told-from seq [] place = refl
told-from seq (lines.Answer s answer ∷ rows) place = told-from seq rows (place + 1)
told-from seq (lines.Offlined offlined ∷ rows) place = told-from seq rows (place + 1)
told-from seq (lines.Guest guest ∷ rows) place = told-from seq rows (place + 1)
told-from seq (lines.Event event ∷ rows) place = by (told-from seq rows (place + 1)) (seq == event.seq)
  where
    now : Shown
    now = record { place = place; line = event }

    by : shown_lines (shown_from seq (place + 1) rows) ≡ events_among rows seq → (b : Bool) → shown_lines (cond b (now ∷ []) [] ++ shown_from seq (place + 1) rows) ≡ cond b (now.line ∷ events_among rows seq) (events_among rows seq)
    by rest true = ap (λ (l : List EventLine). now.line ∷ l) rest
    by rest false = rest

pub told-is : (seq : ℕ) (rows : List CpuLine) → shown_lines (shown_from seq 0 rows) ≡ events_among rows seq
told-is seq rows = told-from seq rows 0
