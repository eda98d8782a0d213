-- The first word of a line says which kind of line it is.
use Rattle.std.proofs.Common.{◌≡◌, ℕ, ◌≤◌, ◌==◌, ◌⊎◌, if◌then◌else◌, inl, inr, List, [], ◌∷◌, get_or, Option, Some, None, codes, refl, sym, ap, subst, ◌∙◌, arith}
use Rattle.hwp_report_text.specs.hwp_geom.declared.Who.{Who}
use Rattle.hwp_report_text.specs.hwp_page.declared.What.{What}
use Rattle.hwp_report_text.specs.hwp_page.declared.What.TheVariants as whats
use Rattle.hwp_report_text.specs.declared.CpuLine.{CpuLine}
use Rattle.hwp_report_text.specs.declared.MarkLine.TheVariants as marks
use Rattle.hwp_report_text.specs.ReportText.{entry_words, cpu_line_words}
use Rattle.hwp_report_words.proofs.SameWords.{tag, word_at}
use Rattle.hwp_report_words.specs.declared.Verb.TheVariants as verbs
use Rattle.hwp_report_words.specs.pages.Verbs.{verb_of, verb_text}
use Rattle.hwp_report_words.specs.Fits.{CpuLineFits}
use Rattle.hwp_report.specs.declared.report_line.ReportLine.{ReportLine}
use Rattle.hwp_report.specs.declared.report_line.ReportLine.TheVariants as forms
use Rattle.hwp_report.specs.declared.heads.Head.{Head}
use Rattle.hwp_report.specs.declared.heads.Head.TheVariants as heads
use Rattle.hwp_report.specs.Forms.{FormFits, IsFormRead, IsRestRead, form_words}
use Rattle.hwp_report.specs.Heads.{head_of, head_text}
use Rattle.hwp_report.proofs.SameForms.{cpu_line_low}

-- the first word that has this tag
abbrev head_at : ℕ → Option Head
head_at n = if n == tag (codes "hwp-report") then Some heads.Header else if n == tag (codes "stop") then Some heads.Stop else if n == tag (codes "count") then Some heads.Count else if n == tag (codes "file") then Some heads.File else if n == tag (codes "frame") then Some heads.Frame else if n == tag (codes "poisoned") then Some heads.Poisoned else if n == tag (codes "unpoisoned") then Some heads.Unpoisoned else if n == tag (codes "page") then Some heads.Page else if n == tag (codes "load") then Some (heads.Entry verbs.Load) else if n == tag (codes "store") then Some (heads.Entry verbs.Store) else if n == tag (codes "in") then Some (heads.Entry verbs.In) else if n == tag (codes "map") then Some (heads.Entry verbs.Map) else if n == tag (codes "free") then Some (heads.Entry verbs.Free) else if n == tag (codes "drop") then Some (heads.Entry verbs.Drop) else if n == tag (codes "sync") then Some (heads.Entry verbs.Sync) else if n == tag (codes "out") then Some (heads.Entry verbs.Out) else if n == tag (codes "mce") then Some (heads.Entry verbs.Mce) else if n == tag (codes "fail") then Some (heads.Entry verbs.Fail) else if n == tag (codes "soft") then Some (heads.Entry verbs.Soft) else if n == tag (codes "seen") then Some heads.Seen else if n == tag (codes "signal") then Some heads.Signal else if n == tag (codes "cpu") then Some heads.Cpu else if n == tag (codes "end") then Some heads.End else None

tagged : (h : Head) → head_at (tag (head_text h)) ≡ Some h
tagged heads.Header = refl
tagged heads.Stop = refl
tagged heads.Count = refl
tagged heads.File = refl
tagged heads.Frame = refl
tagged heads.Poisoned = refl
tagged heads.Unpoisoned = refl
tagged heads.Page = refl
tagged (heads.Entry verbs.Load) = refl
tagged (heads.Entry verbs.Store) = refl
tagged (heads.Entry verbs.In) = refl
tagged (heads.Entry verbs.Map) = refl
tagged (heads.Entry verbs.Free) = refl
tagged (heads.Entry verbs.Drop) = refl
tagged (heads.Entry verbs.Sync) = refl
tagged (heads.Entry verbs.Out) = refl
tagged (heads.Entry verbs.Mce) = refl
tagged (heads.Entry verbs.Fail) = refl
tagged (heads.Entry verbs.Soft) = refl
tagged heads.Seen = refl
tagged heads.Signal = refl
tagged heads.Cpu = refl
tagged heads.End = refl

same_head : (a b : Head) → head_text a ≡ head_text b → a ≡ b
same_head a b e = let same : Some a ≡ Some b = sym (tagged a) ∙ ap (λ w. head_at (tag w)) e ∙ tagged b in (cc)

-- a first word begins with a letter
head_high : (h : Head) → 97 ≤ get_or (head_text h) 0 0
head_high (heads.Entry verbs.Load) = omega arith
head_high (heads.Entry verbs.Store) = omega arith
head_high (heads.Entry verbs.In) = omega arith
head_high (heads.Entry verbs.Map) = omega arith
head_high (heads.Entry verbs.Free) = omega arith
head_high (heads.Entry verbs.Drop) = omega arith
head_high (heads.Entry verbs.Sync) = omega arith
head_high (heads.Entry verbs.Out) = omega arith
head_high (heads.Entry verbs.Mce) = omega arith
head_high (heads.Entry verbs.Fail) = omega arith
head_high (heads.Entry verbs.Soft) = omega arith
head_high h = omega arith

-- a line that begins with its first word
record IsHeaded (f : ReportLine) : Type 0 where
  head : Head
  is : head_of f ≡ Some head
  word : get_or (form_words f) 0 [] ≡ head_text head

entry_verb : (who : Who) (what : What) → get_or (entry_words who what) 0 [] ≡ verb_text (verb_of what)
entry_verb who whats.FaultIn = refl
entry_verb who what = refl

headed : (f : ReportLine) → ((line : CpuLine) × (f ≡ forms.CpuLine line)) ⊎ IsHeaded f
headed (forms.CpuLine line) = inl (line, refl)
headed (forms.Header version) = inr (record { head = heads.Header; is = refl; word = refl })
headed (forms.Stop None) = inr (record { head = heads.Stop; is = refl; word = refl })
headed (forms.Stop (Some stop)) = inr (record { head = heads.Stop; is = refl; word = refl })
headed (forms.Count n) = inr (record { head = heads.Count; is = refl; word = refl })
headed (forms.File n lost) = inr (record { head = heads.File; is = refl; word = refl })
headed (forms.Frame n place bad weak) = inr (record { head = heads.Frame; is = refl; word = refl })
headed (forms.Mark (marks.Poisoned cycle who how)) = inr (record { head = heads.Poisoned; is = refl; word = refl })
headed (forms.Mark (marks.Unpoisoned cycle who)) = inr (record { head = heads.Unpoisoned; is = refl; word = refl })
headed (forms.Page n count) = inr (record { head = heads.Page; is = refl; word = refl })
headed (forms.Entry entry) = inr (record { head = heads.Entry (verb_of entry.what); is = refl; word = entry_verb entry.who entry.what })
headed (forms.Fail failure) = inr (record { head = heads.Entry verbs.Fail; is = refl; word = refl })
headed (forms.Seen seen) = inr (record { head = heads.Seen; is = refl; word = refl })
headed (forms.Signal signal) = inr (record { head = heads.Signal; is = refl; word = refl })
headed (forms.Cpu n count) = inr (record { head = heads.Cpu; is = refl; word = refl })
headed forms.End = inr (record { head = heads.End; is = refl; word = refl })

-- what the words behind a first word are read as, the line is read as
pub rest_read : (first : List ℕ) (ws : List (List ℕ)) (h : Head) (read : Option ReportLine) → first ≡ head_text h → IsRestRead h ws read → IsFormRead (first ∷ ws) read
rest_read first ws h None e none = λ f fits same. elim (headed f) [
  | inl l ↦
      let words : first ∷ ws ≡ cpu_line_words l.0 = same ∙ ap form_words l.1 in
      let line : CpuLineFits l.0 = subst FormFits l.1 fits in
      absurd (omega (arith, head_high h, ap (λ w. get_or w 0 0) e, ap (λ t. get_or (get_or t 0 []) 0 0) words, cpu_line_low l.0 line))
  | inr x ↦
      let one : x.head ≡ h = same_head x.head h (sym x.word ∙ sym (word_at 0 same) ∙ e) in
      none f (x.is ∙ ap Some one) fits (ap (λ w. w ∷ ws) (sym e) ∙ same)
]
rest_read first ws h (Some f) e some = (some.0, ap (λ w. w ∷ ws) e ∙ some.1)

-- words that begin with no first word, and are no line of a processor, are no line
pub no_words : (first : List ℕ) (ws : List (List ℕ)) → ((h : Head) → first ≡ head_text h → ⊥)
    → ((line : CpuLine) → CpuLineFits line → first ∷ ws ≡ cpu_line_words line → ⊥) → (f : ReportLine) → FormFits f → first ∷ ws ≡ form_words f → ⊥
no_words first ws no_head no_line f fits same = elim (headed f) [
  | inl l ↦ no_line l.0 (subst FormFits l.1 fits) (same ∙ ap form_words l.1)
  | inr x ↦ no_head x.head (word_at 0 same ∙ x.word)
]
