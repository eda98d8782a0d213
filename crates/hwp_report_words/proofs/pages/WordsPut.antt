-- The words of the lines below pages are words: none is empty, and none has a space or a line feed in it.
use Rattle.std.proofs.Common.{ℕ, ◌<◌, ◌^◌, ◌++◌, List, Option, Some, None, decimal, refl, arith}
use Rattle.std.specs.Prelude.{IfSome}
use Rattle.hwp_report_text.specs.hwp_geom.declared.Thread.{Thread}
use Rattle.hwp_report_text.specs.hwp_geom.declared.Who.{Who}
use Rattle.hwp_report_text.proofs.of_hwp_geom.WordsPut.{IsPut, ArePut, fixed, then, nothing}
use Rattle.hwp_report_text.specs.hwp_page.declared.Met.{Met}
use Rattle.hwp_report_text.specs.hwp_page.declared.Met.TheVariants as mets
use Rattle.hwp_report_text.specs.hwp_page.declared.What.{What}
use Rattle.hwp_report_text.specs.hwp_page.declared.What.TheVariants as whats
use Rattle.hwp_report_text.specs.ReportText.{met_words, required_words, entry_words}
use Rattle.hwp_report_words.proofs.WordsPut.{put_small, put_u8, put_u16, put_u32, put_u64, put_mask}
use Rattle.hwp_report_words.specs.pages.Fits.{MetFits, ThreadFits, PlainFits}

put_met : (met : Met) → MetFits met → ArePut (met_words met)
put_met (mets.Word mask word) h = then (put_mask h.0) (then (put_u64 h.1) nothing)
put_met (mets.Sigbus thread) h = then (fixed _ _ refl) (then (put_u8 h) nothing)

pub put_required : (required : Option Thread) → IfSome required ThreadFits → {ws : List (List ℕ)} → ArePut ws → ArePut (required_words required ++ ws)
put_required None h k = then (fixed _ _ refl) (then (fixed _ _ refl) k)
put_required (Some thread) h k = then (fixed _ _ refl) (then (put_u8 h) k)

put_line_number : {n : ℕ} → n < 64 → IsPut (decimal n)
put_line_number {n} h = put_small n 64 (omega arith) h

pub put_entry : (who : Who) (what : What) → (who.cpu.0 < 2 ^ 8) × (who.seq < 2 ^ 32) → PlainFits what → ArePut (entry_words who what)
put_entry who (whats.Load slot at met) w h =
    then (fixed _ _ refl) (then (put_u8 w.0) (then (put_u32 w.1) (then (put_u16 h.0) (then (put_line_number h.1) (put_met met h.2)))))
put_entry who (whats.Store slot at met) w h =
    then (fixed _ _ refl) (then (put_u8 w.0) (then (put_u32 w.1) (then (put_u16 h.0) (then (put_line_number h.1) (put_met met h.2)))))
put_entry who whats.FaultIn w h = then (fixed _ _ refl) (then (put_u8 w.0) (then (put_u32 w.1) nothing))
put_entry who (whats.Map slot) w h = then (fixed _ _ refl) (then (put_u8 w.0) (then (put_u32 w.1) (then (put_u16 h) nothing)))
put_entry who (whats.Free slot) w h = then (fixed _ _ refl) (then (put_u8 w.0) (then (put_u32 w.1) (then (put_u16 h) nothing)))
put_entry who whats.Drop w h = then (fixed _ _ refl) (then (put_u8 w.0) (then (put_u32 w.1) nothing))
put_entry who whats.Sync w h = then (fixed _ _ refl) (then (put_u8 w.0) (then (put_u32 w.1) nothing))
put_entry who whats.Out w h = then (fixed _ _ refl) (then (put_u8 w.0) (then (put_u32 w.1) nothing))
put_entry who (whats.Mce slot at mask) w h =
    then (fixed _ _ refl) (then (put_u8 w.0) (then (put_u32 w.1) (then (put_u16 h.0) (then (put_line_number h.1) (then (put_mask h.2) nothing)))))
put_entry who (whats.Fail situation required seen signals) w h = absurd h
put_entry who whats.Soft w h = then (fixed _ _ refl) (then (put_u8 w.0) (then (put_u32 w.1) nothing))
