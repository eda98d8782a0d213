-- The words of each line of a report are words: none is empty, and none has a space or a line feed in it.
use Rattle.std.proofs.Common.{◌≡◌, ◌≢◌, [], Some, None, refl, arith}
use Rattle.std.proofs.lemmas.List.Elements.{All-weaker}
use Rattle.hwp_report_text.specs.hwp_geom.declared.Who.{Who}
use Rattle.hwp_report_text.specs.hwp_geom.Words.{IsWord, IsLine}
use Rattle.hwp_report_text.proofs.of_hwp_geom.WordsPut.{IsPut, ArePut, put_word, fixed, then, nothing}
use Rattle.hwp_report_text.specs.hwp_page.declared.What.{What}
use Rattle.hwp_report_text.specs.hwp_page.declared.What.TheVariants as whats
use Rattle.hwp_report_text.specs.declared.CpuLine.TheVariants as lines
use Rattle.hwp_report_text.specs.declared.MarkLine.TheVariants as marks
use Rattle.hwp_report_text.specs.ReportText.{entry_words}
use Rattle.hwp_report_words.proofs.WordsPut.{put_small, put_policy, put_code, put_situation, put_u8, put_u16, put_u32, put_u64, put_mask, put_version}
use Rattle.hwp_report.proofs.FramesPut.{put_state, put_mark}
use Rattle.hwp_report_words.proofs.pages.WordsPut.{put_required, put_entry}
use Rattle.hwp_report_words.proofs.LinesPut.{put_stop, put_cpu_line}
use Rattle.hwp_report.specs.declared.report_line.ReportLine.{ReportLine}
use Rattle.hwp_report.specs.declared.report_line.ReportLine.TheVariants as forms
use Rattle.hwp_report.specs.Forms.{FormFits, form_words}

put_form : (f : ReportLine) → FormFits f → ArePut (form_words f)
put_form (forms.Header version) h = then (fixed _ _ refl) (then (put_version version) nothing)
put_form (forms.Stop stop) h = put_stop stop h
put_form (forms.Count count) h = then (fixed _ _ refl) (then (put_u64 h) nothing)
put_form (forms.File number lost) h = then (fixed _ _ refl) (then (put_u64 h.0) (then (fixed _ _ refl) (then (put_u64 h.1) nothing)))
put_form (forms.Frame number place bad weak) h =
    then (fixed _ _ refl) (then (put_u64 h.0) (put_state place h.1 (then (fixed _ _ refl) (then (put_mask h.2) (then (fixed _ _ refl) (then (put_mask h.3) nothing))))))
put_form (forms.Mark mark) h = put_mark mark h
put_form (forms.Page number entries) h = then (fixed _ _ refl) (then (put_u64 h.0) (then (put_u64 h.1) nothing))
put_form (forms.Entry entry) h = put_entry entry.who entry.what h.0 h.1
put_form (forms.Fail f) h =
    then (fixed _ _ refl) (then (put_u8 h.who.0) (then (put_u32 h.who.1) (then (put_situation f.situation)
    (put_required f.required h.required (then (put_u64 h.seen) (then (put_small f.signals 17 (omega arith) (omega (arith, h.signals))) nothing))))))
put_form (forms.Seen seen) h = then (fixed _ _ refl) (then (put_u8 h.0) (then (put_policy seen.policy) (then (put_u32 h.1) nothing)))
put_form (forms.Signal signal) h =
    then (fixed _ _ refl) (then (put_u8 h.0) (then (put_u8 h.1) (then (put_code signal.code) (then (put_u16 h.2) nothing))))
put_form (forms.Cpu number lines) h = then (fixed _ _ refl) (then (put_u64 h.0) (then (put_u64 h.1) nothing))
put_form (forms.CpuLine item) h = put_cpu_line item h
put_form forms.End h = then (fixed _ _ refl) nothing

-- each line has words
some_entry : (who : Who) (what : What) → entry_words who what ≡ [] → ⊥
some_entry who whats.FaultIn e = cc
some_entry who what e = cc

some_words : (f : ReportLine) → FormFits f → form_words f ≢ []
some_words (forms.Stop None) h e = cc
some_words (forms.Stop (Some stop)) h e = cc
some_words (forms.Mark (marks.Poisoned cycle who how)) h e = cc
some_words (forms.Mark (marks.Unpoisoned cycle who)) h e = cc
some_words (forms.CpuLine (lines.Event event)) h e = cc
some_words (forms.CpuLine (lines.Offlined offlined)) h e = cc
some_words (forms.CpuLine (lines.Guest guest)) h e = cc
some_words (forms.CpuLine (lines.Answer seq answer)) h e = cc
some_words (forms.Entry entry) h e = some_entry entry.who entry.what e
some_words f h e = cc

pub line_of_form : (f : ReportLine) → FormFits f → IsLine (form_words f)
line_of_form f h = record { some = some_words f h; each = All-weaker IsPut IsWord (λ w k. put_word k) (form_words f) (put_form f h).each }
