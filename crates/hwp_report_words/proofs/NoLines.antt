-- Words that are no line of a processor, by what is missing.
use Rattle.std.proofs.Common.{◌≡◌, ◌≤◌, ℕ, Bool, Option, Some, None, IfSome, List, [], ◌∷◌, length, get_or, drop, codes, decimal, sym, ap, ◌∙◌, arith}
use Rattle.hwp_report_text.specs.hwp_geom.declared.Mode.{Mode}
use Rattle.hwp_report_text.specs.hwp_page.declared.At.{At}
use Rattle.hwp_report_text.specs.declared.Acted.{Acted}
use Rattle.hwp_report_text.specs.declared.Answer.{Answer}
use Rattle.hwp_report_text.specs.declared.Answer.TheVariants as answers
use Rattle.hwp_report_text.specs.declared.CpuLine.{CpuLine}
use Rattle.hwp_report_text.specs.declared.CpuLine.TheVariants as lines
use Rattle.hwp_report_text.specs.declared.EventLine.{EventLine}
use Rattle.hwp_report_text.specs.declared.GuestLine.{GuestLine}
use Rattle.hwp_report_text.specs.declared.OfflineResult.{OfflineResult}
use Rattle.hwp_report_text.specs.declared.Stop.{Stop}
use Rattle.hwp_report_text.specs.declared.StopCause.{StopCause}
use Rattle.hwp_report_text.specs.declared.StopCause.TheVariants as causes
use Rattle.hwp_report_text.specs.Offlines.{offline_answer}
use Rattle.hwp_report_text.specs.ReportText.{answer_words, cause_words, cpu_line_words, event_words, graded_words, guest_words, row_word, stop_words}
use Rattle.hwp_report_text.specs.hwp_severity.declared.McgBits.{McgBits}
use Rattle.hwp_report_words.specs.Words.{AtFits, at_words}
use Rattle.hwp_report_words.proofs.SameWords.{tag, tag_at, word_at}
use Rattle.hwp_report_words.specs.declared.replies.Counted.{Counted}
use Rattle.hwp_report_words.specs.declared.replies.Counted.TheVariants as counted
use Rattle.hwp_report_words.specs.declared.replies.Placed.{Placed}
use Rattle.hwp_report_words.specs.declared.replies.Placed.TheVariants as placed
use Rattle.hwp_report_words.specs.declared.replies.Short.{Short}
use Rattle.hwp_report_words.specs.declared.replies.Short.TheVariants as short
use Rattle.hwp_report_words.specs.declared.replies.Valued.{Valued}
use Rattle.hwp_report_words.specs.declared.replies.Valued.TheVariants as valued
use Rattle.hwp_report_words.specs.Answers.{counted_text, placed_text, short_text, valued_text}
use Rattle.hwp_report_words.specs.Fits.{AnswerFits, CauseFits, CpuLineFits, EventFits, GuestFits, StopFits}
use Rattle.hwp_report_words.specs.LineWords.{EndFits, GuestEndFits, bits_words, end_words, guest_end_words}
use Rattle.hwp_report_words.proofs.SameLines.{same_answer}

-- the line of an event
no_event_answer : (answer : Answer) → codes "event" ≡ get_or (answer_words answer) 0 [] → ⊥
no_event_answer answers.NoFrame e = omega (arith, ap tag e)
no_event_answer answer e = omega (arith, ap tag e)

pub no_event : (seq : ℕ) (ws : List (List ℕ)) → ((end : ℕ × ℕ × Acted) → EndFits end → drop 3 ws ≡ end_words end → ⊥)
    → (line : CpuLine) → CpuLineFits line → decimal seq ∷ codes "event" ∷ ws ≡ cpu_line_words line → ⊥
no_event seq ws none (lines.Event event) fits e = none (event.misc, event.row, event.acted) (fits.1.3, fits.1.4) (ap (drop 5) e)
no_event seq ws none (lines.Answer seq2 answer) fits e = no_event_answer answer (word_at 1 e)
no_event seq ws none line fits e = absurd (omega (arith, ap (tag_at 1) e))

-- the words behind `event` and behind `guest`, where they are of none
pub no_event_words : (seq : ℕ) (ws : List (List ℕ)) → ((event : EventLine) → EventFits event → ws ≡ drop 2 (event_words event) → ⊥)
    → (line : CpuLine) → CpuLineFits line → decimal seq ∷ codes "event" ∷ ws ≡ cpu_line_words line → ⊥
no_event_words seq ws none (lines.Event event) fits e = none event fits.1 (ap (drop 2) e)
no_event_words seq ws none (lines.Answer seq2 answer) fits e = no_event_answer answer (word_at 1 e)
no_event_words seq ws none line fits e = absurd (omega (arith, ap (tag_at 1) e))

-- the line of a frame that is taken out of use
no_offlined_answer : (answer : Answer) → codes "offlined" ≡ get_or (answer_words answer) 0 [] → ⊥
no_offlined_answer answers.NoFrame e = omega (arith, ap tag e)
no_offlined_answer answer e = omega (arith, ap tag e)

pub no_offlined : (seq : ℕ) (ws : List (List ℕ)) → ((result : OfflineResult) → AnswerFits (offline_answer result) → drop 1 ws ≡ answer_words (offline_answer result) → ⊥)
    → (line : CpuLine) → CpuLineFits line → decimal seq ∷ codes "offlined" ∷ ws ≡ cpu_line_words line → ⊥
no_offlined seq ws none (lines.Offlined offlined) fits e = none offlined.result fits.1.1 (ap (drop 3) e)
no_offlined seq ws none (lines.Answer seq2 answer) fits e = no_offlined_answer answer (word_at 1 e)
no_offlined seq ws none line fits e = absurd (omega (arith, ap (tag_at 1) e))

-- the line of a guest's machine check
no_guest_answer : (answer : Answer) → codes "guest" ≡ get_or (answer_words answer) 0 [] → ⊥
no_guest_answer answers.NoFrame e = omega (arith, ap tag e)
no_guest_answer answer e = omega (arith, ap tag e)

pub no_guest : (seq : ℕ) (ws : List (List ℕ)) → ((end : ℕ × ℕ × Bool) → GuestEndFits end → drop 3 ws ≡ guest_end_words end → ⊥)
    → (line : CpuLine) → CpuLineFits line → decimal seq ∷ codes "guest" ∷ ws ≡ cpu_line_words line → ⊥
no_guest seq ws none (lines.Guest guest) fits e = none (guest.misc, guest.row, guest.stops) (fits.1.3, fits.1.4) (ap (drop 5) e)
no_guest seq ws none (lines.Answer seq2 answer) fits e = no_guest_answer answer (word_at 1 e)
no_guest seq ws none line fits e = absurd (omega (arith, ap (tag_at 1) e))

pub no_guest_words : (seq : ℕ) (ws : List (List ℕ)) → ((guest : GuestLine) → GuestFits guest → ws ≡ drop 2 (guest_words guest) → ⊥)
    → (line : CpuLine) → CpuLineFits line → decimal seq ∷ codes "guest" ∷ ws ≡ cpu_line_words line → ⊥
no_guest_words seq ws none (lines.Guest guest) fits e = none guest fits.1 (ap (drop 2) e)
no_guest_words seq ws none (lines.Answer seq2 answer) fits e = no_guest_answer answer (word_at 1 e)
no_guest_words seq ws none line fits e = absurd (omega (arith, ap (tag_at 1) e))

-- an answer
pub no_answer : (seq : ℕ) (ws : List (List ℕ)) → (get_or ws 0 [] ≡ codes "event" → ⊥) → (get_or ws 0 [] ≡ codes "offlined" → ⊥) → (get_or ws 0 [] ≡ codes "guest" → ⊥)
    → ((answer : Answer) → AnswerFits answer → ws ≡ answer_words answer → ⊥) → (line : CpuLine) → CpuLineFits line → decimal seq ∷ ws ≡ cpu_line_words line → ⊥
no_answer seq ws no_event no_offlined no_guest none (lines.Event event) fits e = no_event (word_at 1 e)
no_answer seq ws no_event no_offlined no_guest none (lines.Offlined offlined) fits e = no_offlined (word_at 1 e)
no_answer seq ws no_event no_offlined no_guest none (lines.Guest guest) fits e = no_guest (word_at 1 e)
no_answer seq ws no_event no_offlined no_guest none (lines.Answer seq2 answer) fits e = none answer fits.1 (ap (drop 1) e)

-- a result of taking a frame out of use: an answer that says none
pub no_result : (answer : Answer) → AnswerFits answer → ((result : OfflineResult) → answer ≡ offline_answer result → ⊥) → (ws : List (List ℕ)) → ws ≡ answer_words answer
    → (result : OfflineResult) → AnswerFits (offline_answer result) → ws ≡ answer_words (offline_answer result) → ⊥
no_result answer fits none ws is result fits2 e = none result (same_answer answer (offline_answer result) fits fits2 (sym is ∙ e))

-- what the severity table graded
pub no_graded_words : (ws : List (List ℕ)) → ((row bank status : ℕ) (mcg : McgBits) (mode : Mode) → CauseFits (causes.Severity row bank status mcg mode) → ws ≡ row_word row ∷ graded_words bank status mcg mode → ⊥)
    → (cause : StopCause) → CauseFits cause → codes "severity" ∷ ws ≡ cause_words cause → ⊥
no_graded_words ws none (causes.Severity row bank status mcg mode) fits e = none row bank status mcg mode fits (ap (drop 1) e)
no_graded_words ws none cause fits e = absurd (omega (arith, ap (tag_at 0) e))

pub no_graded : (ws : List (List ℕ)) → ((bits : McgBits × Mode) → drop 3 ws ≡ bits_words bits → ⊥)
    → (cause : StopCause) → CauseFits cause → codes "severity" ∷ ws ≡ cause_words cause → ⊥
no_graded ws none (causes.Severity row bank status mcg mode) fits e = none (mcg, mode) (ap (drop 4) e)
no_graded ws none causes.Shutdown fits e = absurd (omega (arith, ap (tag_at 0) e))
no_graded ws none (causes.Panic frame) fits e = absurd (omega (arith, ap (tag_at 0) e))

-- what stopped the machine, and who met it
pub no_stop_words : (ws : List (List ℕ)) → 2 ≤ length ws → ((stop : Stop) → StopFits stop → ws ≡ decimal stop.who.cpu.0 ∷ decimal stop.who.seq ∷ cause_words stop.cause → ⊥)
    → (stop : Option Stop) → IfSome stop StopFits → codes "stop" ∷ ws ≡ stop_words stop → ⊥
no_stop_words ws l none None fits e = let one = ap length e in omega (arith, l, one)
no_stop_words ws l none (Some stop) fits e = none stop fits (ap (drop 1) e)

-- an answer of one word
pub no_short : (word : List ℕ) → ((kind : Short) → word ≡ short_text kind → ⊥) → (answer : Answer) → word ∷ [] ≡ answer_words answer → ⊥
no_short word none answers.NoFrame e = none short.NoFrame (word_at 0 e)
no_short word none answers.Stopped e = none short.Stopped (word_at 0 e)
no_short word none answers.Done e = none short.Done (word_at 0 e)
no_short word none answers.Einval e = none short.Einval (word_at 0 e)
no_short word none answers.Recovered e = none short.Recovered (word_at 0 e)
no_short word none answers.Delayed e = none short.Delayed (word_at 0 e)
no_short word none answers.Ignored e = none short.Ignored (word_at 0 e)
no_short word none answers.Already e = none short.Already (word_at 0 e)
no_short word none answers.TakenFree e = none short.TakenFree (word_at 0 e)
no_short word none answers.Kernel e = none short.Kernel (word_at 0 e)
no_short word none answers.NotPoisoned e = none short.NotPoisoned (word_at 0 e)
no_short word none answers.HardwareSeen e = none short.HardwareSeen (word_at 0 e)
no_short word none answers.GuestStopped e = none short.GuestStopped (word_at 0 e)
no_short word none answers.GuestBad e = none short.GuestBad (word_at 0 e)
no_short word none answer e = absurd (omega (arith, ap length e))

-- an answer with a place
pub no_placed : (word page entry : List ℕ) → ((kind : Placed) → word ≡ placed_text kind → ⊥) → (answer : Answer) → word ∷ page ∷ entry ∷ [] ≡ answer_words answer → ⊥
no_placed word page entry none (answers.Stored at) e = none placed.Stored (word_at 0 e)
no_placed word page entry none (answers.Sigbus at) e = none placed.Sigbus (word_at 0 e)
no_placed word page entry none (answers.DoneAt at) e = none placed.Done (word_at 0 e)
no_placed word page entry none (answers.NotResident at) e = none placed.NotResident (word_at 0 e)
no_placed word page entry none (answers.NotMapped at) e = none placed.NotMapped (word_at 0 e)
no_placed word page entry none (answers.Dirty at) e = none placed.Dirty (word_at 0 e)
no_placed word page entry none (answers.Mapped at) e = none placed.Mapped (word_at 0 e)
no_placed word page entry none (answers.Locked at) e = none placed.Locked (word_at 0 e)
no_placed word page entry none answer e = absurd (omega (arith, ap length e))

pub no_place : (word page entry : List ℕ) → ((at : At) → AtFits at → page ∷ entry ∷ [] ≡ at_words at → ⊥) → (answer : Answer) → AnswerFits answer
    → word ∷ page ∷ entry ∷ [] ≡ answer_words answer → ⊥
no_place word page entry none (answers.Stored at) fits e = none at fits (ap (drop 1) e)
no_place word page entry none (answers.Sigbus at) fits e = none at fits (ap (drop 1) e)
no_place word page entry none (answers.DoneAt at) fits e = none at fits (ap (drop 1) e)
no_place word page entry none (answers.NotResident at) fits e = none at fits (ap (drop 1) e)
no_place word page entry none (answers.NotMapped at) fits e = none at fits (ap (drop 1) e)
no_place word page entry none (answers.Dirty at) fits e = none at fits (ap (drop 1) e)
no_place word page entry none (answers.Mapped at) fits e = none at fits (ap (drop 1) e)
no_place word page entry none (answers.Locked at) fits e = none at fits (ap (drop 1) e)
no_place word page entry none answer fits e = absurd (omega (arith, ap length e))

-- an answer with a number
pub no_counted : (word value : List ℕ) → ((kind : Counted) → word ≡ counted_text kind → ⊥) → (answer : Answer) → word ∷ value ∷ [] ≡ answer_words answer → ⊥
no_counted word value none (answers.Gone page) e = none counted.Gone (word_at 0 e)
no_counted word value none (answers.Eio n) e = none counted.Eio (word_at 0 e)
no_counted word value none (answers.Opened n) e = none counted.Opened (word_at 0 e)
no_counted word value none (answers.Is n) e = none counted.Is (word_at 0 e)
no_counted word value none (answers.HasBad mask) e = none counted.HasBad (word_at 0 e)
no_counted word value none (answers.InUse n) e = none counted.InUse (word_at 0 e)
no_counted word value none (answers.Scrubbed n) e = none counted.Scrubbed (word_at 0 e)
no_counted word value none (answers.Raised n) e = none counted.Raised (word_at 0 e)
no_counted word value none answer e = absurd (omega (arith, ap length e))

-- an answer with a value and a place
pub no_valued : (word value page entry : List ℕ) → ((kind : Valued) → word ≡ valued_text kind → ⊥) → (answer : Answer)
    → word ∷ value ∷ page ∷ entry ∷ [] ≡ answer_words answer → ⊥
no_valued word value page entry none (answers.Value n at) e = none valued.Value (word_at 0 e)
no_valued word value page entry none (answers.BadLines mask at) e = none valued.BadLines (word_at 0 e)
no_valued word value page entry none (answers.Moved frame at) e = none valued.Moved (word_at 0 e)
no_valued word value page entry none answer e = absurd (omega (arith, ap length e))

pub no_value_place : (word value page entry : List ℕ) → ((at : At) → AtFits at → page ∷ entry ∷ [] ≡ at_words at → ⊥) → (answer : Answer) → AnswerFits answer
    → word ∷ value ∷ page ∷ entry ∷ [] ≡ answer_words answer → ⊥
no_value_place word value page entry none (answers.Value n at) fits e = none at fits.1 (ap (drop 2) e)
no_value_place word value page entry none (answers.BadLines mask at) fits e = none at fits.1 (ap (drop 2) e)
no_value_place word value page entry none (answers.Moved frame at) fits e = none at fits.1 (ap (drop 2) e)
no_value_place word value page entry none answer fits e = absurd (omega (arith, ap length e))
