-- The words of a processor's line, and of what stopped the machine, are words: none is empty, and none has a space or a line feed in it.
use Rattle.std.proofs.Common.{ℕ, ◌<◌, ◌^◌, [], Option, Some, None, decimal, refl, arith}
use Rattle.std.specs.Prelude.{IfSome}
use Rattle.hwp_report_text.proofs.of_hwp_geom.WordsPut.{IsPut, ArePut, fixed, then, nothing, put_append}
use Rattle.hwp_report_text.specs.declared.Answer.{Answer}
use Rattle.hwp_report_text.specs.declared.Answer.TheVariants as answers
use Rattle.hwp_report_text.specs.declared.CpuLine.{CpuLine}
use Rattle.hwp_report_text.specs.declared.CpuLine.TheVariants as lines
use Rattle.hwp_report_text.specs.declared.Stop.{Stop}
use Rattle.hwp_report_text.specs.declared.StopCause.{StopCause}
use Rattle.hwp_report_text.specs.declared.StopCause.TheVariants as causes
use Rattle.hwp_report_text.specs.Offlines.{offline_answer}
use Rattle.hwp_report_text.specs.ReportText.{row_word, cause_words, stop_words, answer_words, cpu_line_words}
use Rattle.hwp_report_words.proofs.WordsPut.{put_small, put_flag, put_mode, put_acted, put_guest, put_u8, put_u16, put_u32, put_u64, put_mask, put_place}
use Rattle.hwp_report_words.specs.Fits.{CauseFits, StopFits, AnswerFits, CpuLineFits}

put_row : (n : ℕ) → n < 2 ^ 8 → IsPut (row_word n)
put_row n h = put_append (decimal n) (fixed 83 [] refl) (put_small n (2 ^ 8) (omega arith) h).high

put_cause : (cause : StopCause) → CauseFits cause → ArePut (cause_words cause)
put_cause (causes.Severity row bank status mcg mode) h =
    then (fixed _ _ refl) (then (put_row row h.0) (then (put_u8 h.1) (then (put_mask h.2) (then (put_flag mcg.ripv) (then (put_flag mcg.eipv) (then (put_mode mode) nothing))))))
put_cause causes.Shutdown h = then (fixed _ _ refl) nothing
put_cause (causes.Panic frame) h = then (fixed _ _ refl) (then (put_u16 h) nothing)

pub put_stop : (stop : Option Stop) → IfSome stop StopFits → ArePut (stop_words stop)
put_stop None h = then (fixed _ _ refl) (then (fixed _ _ refl) nothing)
put_stop (Some stop) h = then (fixed _ _ refl) (then (put_u8 h.0.0) (then (put_u32 h.0.1) (put_cause stop.cause h.1)))

put_answer : (answer : Answer) → AnswerFits answer → ArePut (answer_words answer)
put_answer (answers.Value word at) h = then (fixed _ _ refl) (then (put_u64 h.0) (put_place at h.1))
put_answer (answers.Stored at) h = then (fixed _ _ refl) (put_place at h)
put_answer (answers.Sigbus at) h = then (fixed _ _ refl) (put_place at h)
put_answer (answers.Gone page) h = then (fixed _ _ refl) (then (put_u16 h) nothing)
put_answer answers.NoFrame h = then (fixed _ _ refl) nothing
put_answer answers.Stopped h = then (fixed _ _ refl) nothing
put_answer answers.Done h = then (fixed _ _ refl) nothing
put_answer (answers.DoneAt at) h = then (fixed _ _ refl) (put_place at h)
put_answer (answers.NotResident at) h = then (fixed _ _ refl) (put_place at h)
put_answer (answers.NotMapped at) h = then (fixed _ _ refl) (put_place at h)
put_answer (answers.Dirty at) h = then (fixed _ _ refl) (put_place at h)
put_answer (answers.Mapped at) h = then (fixed _ _ refl) (put_place at h)
put_answer (answers.Locked at) h = then (fixed _ _ refl) (put_place at h)
put_answer (answers.BadLines mask at) h = then (fixed _ _ refl) (then (put_mask h.0) (put_place at h.1))
put_answer (answers.Eio lost) h = then (fixed _ _ refl) (then (put_u64 h) nothing)
put_answer (answers.Opened lost) h = then (fixed _ _ refl) (then (put_u64 h) nothing)
put_answer (answers.Is policy) h = then (fixed _ _ refl) (then (put_u64 h) nothing)
put_answer answers.Einval h = then (fixed _ _ refl) nothing
put_answer answers.Recovered h = then (fixed _ _ refl) nothing
put_answer answers.Delayed h = then (fixed _ _ refl) nothing
put_answer answers.Ignored h = then (fixed _ _ refl) nothing
put_answer answers.Already h = then (fixed _ _ refl) nothing
put_answer (answers.Moved frame at) h = then (fixed _ _ refl) (then (put_u16 h.0) (put_place at h.1))
put_answer answers.TakenFree h = then (fixed _ _ refl) nothing
put_answer answers.Kernel h = then (fixed _ _ refl) nothing
put_answer (answers.HasBad mask) h = then (fixed _ _ refl) (then (put_mask h) nothing)
put_answer answers.NotPoisoned h = then (fixed _ _ refl) nothing
put_answer answers.HardwareSeen h = then (fixed _ _ refl) nothing
put_answer (answers.InUse count) h = then (fixed _ _ refl) (then (put_u64 h) nothing)
put_answer (answers.Scrubbed events) h = then (fixed _ _ refl) (then (put_u64 h) nothing)
put_answer (answers.Raised events) h = then (fixed _ _ refl) (then (put_u64 h) nothing)
put_answer answers.GuestStopped h = then (fixed _ _ refl) nothing
put_answer answers.GuestBad h = then (fixed _ _ refl) nothing

pub put_cpu_line : (item : CpuLine) → CpuLineFits item → ArePut (cpu_line_words item)
put_cpu_line (lines.Event event) h =
    then (put_u32 h.0) (then (fixed _ _ refl) (then (put_u8 h.1.0) (then (put_mask h.1.1) (then (put_mask h.1.2) (then (put_mask h.1.3) (then (put_row event.row h.1.4) (then (put_acted event.acted) nothing)))))))
put_cpu_line (lines.Offlined offlined) h = then (put_u32 h.0) (then (fixed _ _ refl) (then (put_u16 h.1.0) (put_answer (offline_answer offlined.result) h.1.1)))
put_cpu_line (lines.Guest guest) h =
    then (put_u32 h.0) (then (fixed _ _ refl) (then (put_u8 h.1.0) (then (put_mask h.1.1) (then (put_mask h.1.2) (then (put_mask h.1.3) (then (put_row guest.row h.1.4) (then (put_guest guest.stops) nothing)))))))
put_cpu_line (lines.Answer seq answer) h = then (put_u32 h.0) (put_answer answer h.1)
