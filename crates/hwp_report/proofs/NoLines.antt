-- Words that are no line of a kind, by what is missing.
use Rattle.std.proofs.Common.{◌≡◌, ℕ, ◌<◌, ◌≤◌, ◌^◌, ◌-◌, List, ◌∷◌, length, get_or, map, take, drop, Option, Some, codes, decimal, sym, ap, ◌∙◌}
use Rattle.hwp_report_text.specs.hwp_geom.declared.Mask.{Mask}
use Rattle.hwp_report_text.specs.declared.CpuLine.{CpuLine}
use Rattle.hwp_report_text.specs.declared.MarkLine.TheVariants as marks
use Rattle.hwp_report_text.specs.declared.Whereabouts.{Whereabouts}
use Rattle.hwp_report_text.specs.ReportText.{cpu_line_words}
use Rattle.hwp_report_words.specs.Reads.{AreBelow, two_words}
use Rattle.hwp_report_words.proofs.Rests.{first_of}
use Rattle.hwp_report.specs.Standing.{StandingFits, standing_words}
use Rattle.hwp_report_words.specs.Fits.{CpuLineFits}
use Rattle.hwp_report.specs.declared.report_line.ReportLine.{ReportLine}
use Rattle.hwp_report.specs.declared.report_line.ReportLine.TheVariants as forms
use Rattle.hwp_report.specs.declared.heads.Head.{Head}
use Rattle.hwp_report.specs.declared.heads.Head.TheVariants as heads
use Rattle.hwp_report.specs.Forms.{FormFits, IsFormRead, IsRestRead, form_words}
use Rattle.hwp_report.specs.Heads.{head_of, head_text}
use Rattle.hwp_report.proofs.HeadLaws.{no_words, rest_read}

pub no_page : (ws : List (List ℕ)) → ((x : ℕ × ℕ) → AreBelow x → ws ≡ two_words x → ⊥)
    → (f : ReportLine) → head_of f ≡ Some heads.Page → FormFits f → codes "page" ∷ ws ≡ form_words f → ⊥
no_page ws none (forms.Page n count) h fits e = none (n, count) fits (ap (drop 1) e)
no_page ws none (forms.Mark (marks.Poisoned cycle who how)) h fits e = absurd (cc)
no_page ws none (forms.Mark (marks.Unpoisoned cycle who)) h fits e = absurd (cc)
no_page ws none f h fits e = absurd (cc)

pub no_cpu : (ws : List (List ℕ)) → ((x : ℕ × ℕ) → AreBelow x → ws ≡ two_words x → ⊥)
    → (f : ReportLine) → head_of f ≡ Some heads.Cpu → FormFits f → codes "cpu" ∷ ws ≡ form_words f → ⊥
no_cpu ws none (forms.Cpu n count) h fits e = none (n, count) fits (ap (drop 1) e)
no_cpu ws none (forms.Mark (marks.Poisoned cycle who how)) h fits e = absurd (cc)
no_cpu ws none (forms.Mark (marks.Unpoisoned cycle who)) h fits e = absurd (cc)
no_cpu ws none f h fits e = absurd (cc)

pub no_frame : (ws : List (List ℕ)) → ((n : ℕ) (s : Whereabouts × Mask × Mask) → n < 2 ^ 64 → StandingFits s → ws ≡ decimal n ∷ standing_words s → ⊥)
    → (f : ReportLine) → head_of f ≡ Some heads.Frame → FormFits f → codes "frame" ∷ ws ≡ form_words f → ⊥
no_frame ws none (forms.Frame n place bad weak) h fits e = none n (place, bad, weak) fits.0 (fits.1, fits.2, fits.3) (ap (drop 1) e)
no_frame ws none (forms.Mark (marks.Poisoned cycle who how)) h fits e = absurd (cc)
no_frame ws none (forms.Mark (marks.Unpoisoned cycle who)) h fits e = absurd (cc)
no_frame ws none f h fits e = absurd (cc)

pub words_read : {X : Type 0} (f : X → List ℕ) (ws : List X) (d : X) (head : Head) (read : Option ReportLine) → 1 ≤ length ws → f (get_or ws 0 d) ≡ head_text head
    → IsRestRead head (map f (take (length ws - 1) (drop 1 ws))) read → IsFormRead (map f ws) read
words_read f ws d head read some first rest =
    rw (first_of f ws d some) (rest_read (f (get_or ws 0 d)) (map f (take (length ws - 1) (drop 1 ws))) head read first rest)

pub no_words_of : {X : Type 0} (f : X → List ℕ) (ws : List X) (d : X) → 1 ≤ length ws → ((h : Head) → f (get_or ws 0 d) ≡ head_text h → ⊥)
    → ((line : CpuLine) → CpuLineFits line → map f ws ≡ cpu_line_words line → ⊥) → (form : ReportLine) → FormFits form → map f ws ≡ form_words form → ⊥
no_words_of f ws d some no_head no_line form fits e =
    let is = first_of f ws d some in
    no_words (f (get_or ws 0 d)) (map f (take (length ws - 1) (drop 1 ws))) no_head (λ line g h. no_line line g (is ∙ h)) form fits (sym is ∙ e)
