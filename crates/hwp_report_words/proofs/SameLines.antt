-- No two lines of a processor, and no two things that stopped the machine, have the same words.
use Rattle.std.proofs.Common.{◌≡◌, ◌≢◌, ℕ, ◌<◌, ◌^◌, length, drop, Option, Some, None, refl, sym, ap, ◌∙◌, arith}
use Rattle.std.specs.Prelude.{IfSome, codes}
use Rattle.hwp_report_text.specs.declared.Answer.{Answer}
use Rattle.hwp_report_text.specs.declared.Answer.TheVariants as answers
use Rattle.hwp_report_text.specs.declared.CpuLine.{CpuLine}
use Rattle.hwp_report_text.specs.declared.CpuLine.TheVariants as lines
use Rattle.hwp_report_text.specs.declared.OfflineResult.{OfflineResult}
use Rattle.hwp_report_text.specs.declared.OfflineResult.TheVariants as results
use Rattle.hwp_report_text.specs.declared.StopCause.{StopCause}
use Rattle.hwp_report_text.specs.declared.StopCause.TheVariants as causes
use Rattle.hwp_report_text.specs.declared.Stop.{Stop}
use Rattle.hwp_report_text.specs.Offlines.{offline_answer}
use Rattle.hwp_report_text.specs.ReportText.{row_word, cause_words, stop_words, answer_words, cpu_line_words}
use Rattle.hwp_report_words.proofs.SameWords.{tag, tag_at, word_at, same_u8, same_u16, same_u32, same_u64, same_mask, same_flag, same_mode, same_acted, same_guest, same_who, same_at}
use Rattle.hwp_report_words.specs.Fits.{CauseFits, StopFits, AnswerFits, CpuLineFits}

same_row : (m n : ℕ) → m < 2 ^ 8 → n < 2 ^ 8 → row_word m ≡ row_word n → m ≡ n
same_row m n a b e = same_u8 a b (ap (drop 1) e)

same_cause : (a b : StopCause) → CauseFits a → CauseFits b → cause_words a ≡ cause_words b → a ≡ b
same_cause (causes.Severity row bank status mcg mode) (causes.Severity row2 bank2 status2 mcg2 mode2) f g e =
    λ i. causes.Severity (same_row row row2 f.0 g.0 (word_at 1 e) i) (same_u8 f.1 g.1 (word_at 2 e) i) (same_mask f.2 g.2 (word_at 3 e) i)
    (record { ripv = same_flag mcg.ripv mcg2.ripv (word_at 4 e) i; eipv = same_flag mcg.eipv mcg2.eipv (word_at 5 e) i })
    (same_mode mode mode2 (word_at 6 e) i)
same_cause (causes.Severity row bank status mcg mode) b f g e = absurd (omega (arith, ap (tag_at 0) e))
same_cause causes.Shutdown causes.Shutdown f g e = refl
same_cause causes.Shutdown b f g e = absurd (omega (arith, ap (tag_at 0) e))
same_cause (causes.Panic frame) (causes.Panic frame2) f g e = λ i. causes.Panic (record { 0 = same_u16 f g (word_at 1 e) i })
same_cause (causes.Panic frame) b f g e = absurd (omega (arith, ap (tag_at 0) e))

pub same_stop : (a b : Option Stop) → IfSome a StopFits → IfSome b StopFits → stop_words a ≡ stop_words b → a ≡ b
same_stop None None f g e = refl
same_stop None (Some b) f g e = absurd (omega (arith, ap length e))
same_stop (Some a) None f g e = absurd (omega (arith, ap length e))
same_stop (Some a) (Some b) f g e =
    λ i. Some (record { who = same_who a.who b.who f.0 g.0 (word_at 1 e) (word_at 2 e) i; cause = same_cause a.cause b.cause f.1 g.1 (ap (drop 3) e) i })

pub same_answer : (a b : Answer) → AnswerFits a → AnswerFits b → answer_words a ≡ answer_words b → a ≡ b
same_answer (answers.Value word at) (answers.Value word2 at2) f g e = λ i. answers.Value (same_u64 f.0 g.0 (word_at 1 e) i) (same_at at at2 f.1 g.1 (ap (drop 2) e) i)
same_answer (answers.Value word at) b f g e = absurd (omega (arith, ap (tag_at 0) e))
same_answer (answers.Stored at) (answers.Stored at2) f g e = λ i. answers.Stored (same_at at at2 f g (ap (drop 1) e) i)
same_answer (answers.Stored at) b f g e = absurd (omega (arith, ap (tag_at 0) e))
same_answer (answers.Sigbus at) (answers.Sigbus at2) f g e = λ i. answers.Sigbus (same_at at at2 f g (ap (drop 1) e) i)
same_answer (answers.Sigbus at) b f g e = absurd (omega (arith, ap (tag_at 0) e))
same_answer (answers.NotResident at) (answers.NotResident at2) f g e = λ i. answers.NotResident (same_at at at2 f g (ap (drop 1) e) i)
same_answer (answers.NotResident at) b f g e = absurd (omega (arith, ap (tag_at 0) e))
same_answer (answers.NotMapped at) (answers.NotMapped at2) f g e = λ i. answers.NotMapped (same_at at at2 f g (ap (drop 1) e) i)
same_answer (answers.NotMapped at) b f g e = absurd (omega (arith, ap (tag_at 0) e))
same_answer (answers.Dirty at) (answers.Dirty at2) f g e = λ i. answers.Dirty (same_at at at2 f g (ap (drop 1) e) i)
same_answer (answers.Dirty at) b f g e = absurd (omega (arith, ap (tag_at 0) e))
same_answer (answers.Mapped at) (answers.Mapped at2) f g e = λ i. answers.Mapped (same_at at at2 f g (ap (drop 1) e) i)
same_answer (answers.Mapped at) b f g e = absurd (omega (arith, ap (tag_at 0) e))
same_answer (answers.Locked at) (answers.Locked at2) f g e = λ i. answers.Locked (same_at at at2 f g (ap (drop 1) e) i)
same_answer (answers.Locked at) b f g e = absurd (omega (arith, ap (tag_at 0) e))
same_answer (answers.DoneAt at) (answers.DoneAt at2) f g e = λ i. answers.DoneAt (same_at at at2 f g (ap (drop 1) e) i)
same_answer (answers.DoneAt at) answers.Done f g e = absurd (omega (arith, ap length e))
same_answer (answers.DoneAt at) b f g e = absurd (omega (arith, ap (tag_at 0) e))
same_answer answers.Done answers.Done f g e = refl
same_answer answers.Done (answers.DoneAt at) f g e = absurd (omega (arith, ap length e))
same_answer answers.Done b f g e = absurd (omega (arith, ap (tag_at 0) e))
same_answer (answers.Gone page) (answers.Gone page2) f g e = λ i. answers.Gone (record { 0 = same_u16 f g (word_at 1 e) i })
same_answer (answers.Gone page) b f g e = absurd (omega (arith, ap (tag_at 0) e))
same_answer answers.NoFrame answers.NoFrame f g e = refl
same_answer answers.NoFrame b f g e = absurd (omega (arith, ap (tag_at 0) e))
same_answer answers.Stopped answers.Stopped f g e = refl
same_answer answers.Stopped b f g e = absurd (omega (arith, ap (tag_at 0) e))
same_answer answers.Einval answers.Einval f g e = refl
same_answer answers.Einval b f g e = absurd (omega (arith, ap (tag_at 0) e))
same_answer answers.Recovered answers.Recovered f g e = refl
same_answer answers.Recovered b f g e = absurd (omega (arith, ap (tag_at 0) e))
same_answer answers.Delayed answers.Delayed f g e = refl
same_answer answers.Delayed b f g e = absurd (omega (arith, ap (tag_at 0) e))
same_answer answers.Ignored answers.Ignored f g e = refl
same_answer answers.Ignored b f g e = absurd (omega (arith, ap (tag_at 0) e))
same_answer answers.Already answers.Already f g e = refl
same_answer answers.Already b f g e = absurd (omega (arith, ap (tag_at 0) e))
same_answer answers.TakenFree answers.TakenFree f g e = refl
same_answer answers.TakenFree b f g e = absurd (omega (arith, ap (tag_at 0) e))
same_answer answers.Kernel answers.Kernel f g e = refl
same_answer answers.Kernel b f g e = absurd (omega (arith, ap (tag_at 0) e))
same_answer answers.NotPoisoned answers.NotPoisoned f g e = refl
same_answer answers.NotPoisoned b f g e = absurd (omega (arith, ap (tag_at 0) e))
same_answer answers.HardwareSeen answers.HardwareSeen f g e = refl
same_answer answers.HardwareSeen b f g e = absurd (omega (arith, ap (tag_at 0) e))
same_answer answers.GuestStopped answers.GuestStopped f g e = refl
same_answer answers.GuestStopped b f g e = absurd (omega (arith, ap (tag_at 0) e))
same_answer answers.GuestBad answers.GuestBad f g e = refl
same_answer answers.GuestBad b f g e = absurd (omega (arith, ap (tag_at 0) e))
same_answer (answers.BadLines mask at) (answers.BadLines mask2 at2) f g e = λ i. answers.BadLines (record { 0 = same_mask f.0 g.0 (word_at 1 e) i }) (same_at at at2 f.1 g.1 (ap (drop 2) e) i)
same_answer (answers.BadLines mask at) b f g e = absurd (omega (arith, ap (tag_at 0) e))
same_answer (answers.Eio n) (answers.Eio n2) f g e = λ i. answers.Eio (same_u64 f g (word_at 1 e) i)
same_answer (answers.Eio n) b f g e = absurd (omega (arith, ap (tag_at 0) e))
same_answer (answers.Opened n) (answers.Opened n2) f g e = λ i. answers.Opened (same_u64 f g (word_at 1 e) i)
same_answer (answers.Opened n) b f g e = absurd (omega (arith, ap (tag_at 0) e))
same_answer (answers.Is n) (answers.Is n2) f g e = λ i. answers.Is (same_u64 f g (word_at 1 e) i)
same_answer (answers.Is n) b f g e = absurd (omega (arith, ap (tag_at 0) e))
same_answer (answers.InUse n) (answers.InUse n2) f g e = λ i. answers.InUse (same_u64 f g (word_at 1 e) i)
same_answer (answers.InUse n) b f g e = absurd (omega (arith, ap (tag_at 0) e))
same_answer (answers.Scrubbed n) (answers.Scrubbed n2) f g e = λ i. answers.Scrubbed (same_u64 f g (word_at 1 e) i)
same_answer (answers.Scrubbed n) b f g e = absurd (omega (arith, ap (tag_at 0) e))
same_answer (answers.Raised n) (answers.Raised n2) f g e = λ i. answers.Raised (same_u64 f g (word_at 1 e) i)
same_answer (answers.Raised n) b f g e = absurd (omega (arith, ap (tag_at 0) e))
same_answer (answers.Moved frame at) (answers.Moved frame2 at2) f g e = λ i. answers.Moved (record { 0 = same_u16 f.0 g.0 (word_at 1 e) i }) (same_at at at2 f.1 g.1 (ap (drop 2) e) i)
same_answer (answers.Moved frame at) b f g e = absurd (omega (arith, ap (tag_at 0) e))
same_answer (answers.HasBad mask) (answers.HasBad mask2) f g e = λ i. answers.HasBad (record { 0 = same_mask f g (word_at 1 e) i })
same_answer (answers.HasBad mask) b f g e = absurd (omega (arith, ap (tag_at 0) e))

-- no answer begins with `event`, `offlined` or `guest`
no_event : (a : Answer) → tag_at 0 (answer_words a) ≢ tag (codes "event")
no_event answers.NoFrame e = absurd (omega (arith, e))
no_event a e = absurd (omega (arith, e))

no_offlined : (a : Answer) → tag_at 0 (answer_words a) ≢ tag (codes "offlined")
no_offlined answers.NoFrame e = absurd (omega (arith, e))
no_offlined a e = absurd (omega (arith, e))

no_guest : (a : Answer) → tag_at 0 (answer_words a) ≢ tag (codes "guest")
no_guest answers.NoFrame e = absurd (omega (arith, e))
no_guest a e = absurd (omega (arith, e))

-- no two results of taking a frame out of use are one answer
same_result : (a b : OfflineResult) → offline_answer a ≡ offline_answer b → a ≡ b
same_result a b e = injective a ∙ ap back e ∙ sym (injective b)
  where
    back : Answer → OfflineResult
    back (answers.Moved frame at) = results.Moved frame at
    back answers.Already = results.Already
    back (answers.HasBad mask) = results.HasBad mask
    back answers.NoFrame = results.NoFrame
    back answers.Stopped = results.Stopped
    back _ = results.TakenFree

    injective : (r : OfflineResult) → r ≡ back (offline_answer r)
    injective (results.Moved frame at) = refl
    injective results.TakenFree = refl
    injective results.Already = refl
    injective (results.HasBad mask) = refl
    injective results.NoFrame = refl
    injective results.Stopped = refl

pub same_cpu_line : (a b : CpuLine) → CpuLineFits a → CpuLineFits b → cpu_line_words a ≡ cpu_line_words b → a ≡ b
same_cpu_line (lines.Event event) (lines.Event event2) f g e = λ i. lines.Event (record {
  seq = same_u32 f.0 g.0 (word_at 0 e) i;
  bank = same_u8 f.1.0 g.1.0 (word_at 2 e) i;
  status = same_mask f.1.1 g.1.1 (word_at 3 e) i;
  addr = same_mask f.1.2 g.1.2 (word_at 4 e) i;
  misc = same_mask f.1.3 g.1.3 (word_at 5 e) i;
  row = same_row event.row event2.row f.1.4 g.1.4 (word_at 6 e) i;
  acted = same_acted event.acted event2.acted (word_at 7 e) i;
})
same_cpu_line (lines.Event event) (lines.Answer seq2 answer) f g e = absurd (no_event answer (sym (ap (tag_at 1) e)))
same_cpu_line (lines.Event event) b f g e = absurd (omega (arith, ap (tag_at 1) e))
same_cpu_line (lines.Offlined o) (lines.Offlined o2) f g e = λ i. lines.Offlined (record {
  seq = same_u32 f.0 g.0 (word_at 0 e) i;
  frame = record { 0 = same_u16 f.1.0 g.1.0 (word_at 2 e) i };
  result = same_result o.result o2.result (same_answer (offline_answer o.result) (offline_answer o2.result) f.1.1 g.1.1 (ap (drop 3) e)) i;
})
same_cpu_line (lines.Offlined o) (lines.Answer seq2 answer) f g e = absurd (no_offlined answer (sym (ap (tag_at 1) e)))
same_cpu_line (lines.Offlined o) b f g e = absurd (omega (arith, ap (tag_at 1) e))
same_cpu_line (lines.Guest a) (lines.Guest b) f g e = λ i. lines.Guest (record {
  seq = same_u32 f.0 g.0 (word_at 0 e) i;
  bank = same_u8 f.1.0 g.1.0 (word_at 2 e) i;
  status = same_mask f.1.1 g.1.1 (word_at 3 e) i;
  addr = same_mask f.1.2 g.1.2 (word_at 4 e) i;
  misc = same_mask f.1.3 g.1.3 (word_at 5 e) i;
  row = same_row a.row b.row f.1.4 g.1.4 (word_at 6 e) i;
  stops = same_guest a.stops b.stops (word_at 7 e) i;
})
same_cpu_line (lines.Guest a) (lines.Answer seq2 answer) f g e = absurd (no_guest answer (sym (ap (tag_at 1) e)))
same_cpu_line (lines.Guest a) b f g e = absurd (omega (arith, ap (tag_at 1) e))
same_cpu_line (lines.Answer seq answer) (lines.Event event) f g e = absurd (no_event answer (ap (tag_at 1) e))
same_cpu_line (lines.Answer seq answer) (lines.Offlined o) f g e = absurd (no_offlined answer (ap (tag_at 1) e))
same_cpu_line (lines.Answer seq answer) (lines.Guest b) f g e = absurd (no_guest answer (ap (tag_at 1) e))
same_cpu_line (lines.Answer seq answer) (lines.Answer seq2 answer2) f g e =
    λ i. lines.Answer (same_u32 f.0 g.0 (word_at 0 e) i) (same_answer answer answer2 f.1 g.1 (ap (drop 1) e) i)
