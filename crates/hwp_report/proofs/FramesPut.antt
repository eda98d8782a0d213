-- The words of a frame's place and of its marks are words: none is empty, and none has a space or a line feed in it.
use Rattle.std.proofs.Common.{ℕ, ◌++◌, List, refl}
use Rattle.hwp_report_text.proofs.of_hwp_geom.WordsPut.{ArePut, fixed, then, nothing}
use Rattle.hwp_report_text.specs.declared.How.{How}
use Rattle.hwp_report_text.specs.declared.How.TheVariants as hows
use Rattle.hwp_report_text.specs.declared.MarkLine.{MarkLine}
use Rattle.hwp_report_text.specs.declared.MarkLine.TheVariants as marks
use Rattle.hwp_report_text.specs.declared.Whereabouts.{Whereabouts}
use Rattle.hwp_report_text.specs.declared.Whereabouts.TheVariants as places
use Rattle.hwp_report_text.specs.ReportText.{place_words, how_words, mark_words}
use Rattle.hwp_report_words.proofs.WordsPut.{put_situation, put_outcome, put_origin, put_u8, put_u16, put_u32}
use Rattle.hwp_report.specs.Fits.{PlaceFits, MarkFits}

pub put_state : (place : Whereabouts) → PlaceFits place → {ws : List (List ℕ)} → ArePut ws → ArePut (place_words place ++ ws)
put_state places.Free h k = then (fixed _ _ refl) k
put_state places.Kernel h k = then (fixed _ _ refl) k
put_state places.Handled h k = then (fixed _ _ refl) k
put_state (places.Of page) h k = then (fixed _ _ refl) (then (put_u16 h) k)

put_how : (how : How) → ArePut (how_words how)
put_how (hows.Failure hardware situation outcome) = then (put_origin hardware) (then (put_situation situation) (then (put_outcome outcome) nothing))
put_how hows.Moved = then (fixed _ _ refl) (then (fixed _ _ refl) (then (fixed _ _ refl) nothing))
put_how hows.TakenFree = then (fixed _ _ refl) (then (fixed _ _ refl) (then (fixed _ _ refl) nothing))

pub put_mark : (mark : MarkLine) → MarkFits mark → ArePut (mark_words mark)
put_mark (marks.Poisoned cycle who how) h = then (fixed _ _ refl) (then (put_u32 h.0) (then (put_u8 h.1.0) (then (put_u32 h.1.1) (put_how how))))
put_mark (marks.Unpoisoned cycle who) h = then (fixed _ _ refl) (then (put_u32 h.0) (then (put_u8 h.1.0) (then (put_u32 h.1.1) nothing)))
