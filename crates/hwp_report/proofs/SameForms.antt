-- No two lines that fit have the same words.
use Rattle.std.proofs.Common.{◌≡◌, ℕ, ◌<◌, ◌≤◌, ◌^◌, ◌==◌, ◌⊎◌, if◌then◌else◌, inl, inr, List, [], ◌∷◌, length, get_or, drop, Some, None, decimal, codes, refl, sym, ap, ◌∙◌, arith}
use Rattle.std.specs.Char.{digit_value}
use Rattle.std.specs.Str.Parse.{AllDigits}
use Rattle.std.proofs.lemmas.Bool.Decides.{nat_tests}
use Rattle.std.proofs.lemmas.Fmt.{decimal_is_IsNumeral}
use Rattle.hwp_report_text.specs.hwp_geom.declared.Who.{Who}
use Rattle.hwp_report_text.specs.hwp_page.declared.What.{What}
use Rattle.hwp_report_text.specs.hwp_page.declared.What.TheVariants as whats
use Rattle.hwp_report_text.specs.declared.CpuLine.{CpuLine}
use Rattle.hwp_report_text.specs.declared.CpuLine.TheVariants as lines
use Rattle.hwp_report_text.specs.declared.MarkLine.TheVariants as marks
use Rattle.hwp_report_text.specs.ReportText.{cpu_line_words}
use Rattle.hwp_report_words.proofs.SameWords.{tag, tag_at, word_at, same_u8, same_u16, same_u32, same_u64, same_mask, same_policy, same_code, same_situation, same_version, same_who}
use Rattle.hwp_report_words.specs.declared.Failure.{Failure}
use Rattle.hwp_report_words.specs.pages.Fits.{FailFits, PlainFits}
use Rattle.hwp_report_words.specs.pages.Words.{failure_words}
use Rattle.hwp_report.proofs.SameFrames.{same_place, same_mark}
use Rattle.hwp_report_words.proofs.pages.SameWords.{same_required, same_entry}
use Rattle.hwp_report_words.specs.Fits.{CpuLineFits}
use Rattle.hwp_report_words.proofs.SameLines.{same_stop, same_cpu_line}
use Rattle.hwp_report.specs.declared.report_line.ReportLine.{ReportLine}
use Rattle.hwp_report.specs.declared.report_line.ReportLine.TheVariants as forms
use Rattle.hwp_report.specs.Forms.{FormFits, form_words}

-- the kind of a line, by its first word
abbrev class_of_tag : ℕ → ℕ
class_of_tag n = if n == tag (codes "hwp-report") then 1 else if n == tag (codes "stop") then 2 else if n == tag (codes "count") then 3 else if n == tag (codes "file") then 4 else if n == tag (codes "frame") then 5 else if n == tag (codes "poisoned") then 6 else if n == tag (codes "unpoisoned") then 6 else if n == tag (codes "page") then 7 else if n == tag (codes "load") then 8 else if n == tag (codes "store") then 8 else if n == tag (codes "in") then 8 else if n == tag (codes "map") then 8 else if n == tag (codes "free") then 8 else if n == tag (codes "drop") then 8 else if n == tag (codes "sync") then 8 else if n == tag (codes "out") then 8 else if n == tag (codes "mce") then 8 else if n == tag (codes "soft") then 8 else if n == tag (codes "fail") then 9 else if n == tag (codes "seen") then 10 else if n == tag (codes "signal") then 11 else if n == tag (codes "cpu") then 12 else if n == tag (codes "end") then 13 else 0

abbrev class_of : ReportLine → ℕ
class_of (forms.Header version) = 1
class_of (forms.Stop stop) = 2
class_of (forms.Count count) = 3
class_of (forms.File number lost) = 4
class_of (forms.Frame number place bad weak) = 5
class_of (forms.Mark mark) = 6
class_of (forms.Page number entries) = 7
class_of (forms.Entry entry) = 8
class_of (forms.Fail failure) = 9
class_of (forms.Seen seen) = 10
class_of (forms.Signal signal) = 11
class_of (forms.Cpu number lines) = 12
class_of (forms.CpuLine line) = 14
class_of forms.End = 13

-- the first byte of a line
abbrev first_byte : List (List ℕ) → ℕ
first_byte ws = get_or (get_or ws 0 []) 0 0

-- a line of a processor begins with a digit, any other with a letter and the word of its kind
pub record IsNumbered (f : ReportLine) : Type 0 where
  pub class : class_of f ≡ 14
  pub byte : first_byte (form_words f) < 58

pub record IsNamed (f : ReportLine) : Type 0 where
  pub class : class_of_tag (tag_at 0 (form_words f)) ≡ class_of f
  pub byte : 97 ≤ first_byte (form_words f)

digit_low : (b : ℕ) → digit_value b < 10 → b < 58
digit_low b h = grind (arith, nat_tests)

first_low : (ds : List ℕ) → 0 < length ds → AllDigits 10 ds → get_or ds 0 0 < 58
first_low [] some h = absurd (omega arith)
first_low (d ∷ ds) some h = digit_low d h.0

decimal_low : (n : ℕ) → n < 2 ^ 32 → get_or (decimal n) 0 0 < 58
decimal_low n h = let numeral = (decimal_is_IsNumeral n (omega arith)).0 in first_low (decimal n) numeral.0 numeral.1

pub cpu_line_low : (line : CpuLine) → CpuLineFits line → first_byte (cpu_line_words line) < 58
cpu_line_low (lines.Event event) h = decimal_low event.seq h.0
cpu_line_low (lines.Offlined offlined) h = decimal_low offlined.seq h.0
cpu_line_low (lines.Guest guest) h = decimal_low guest.seq h.0
cpu_line_low (lines.Answer seq answer) h = decimal_low seq h.0

numbered : (line : CpuLine) → CpuLineFits line → IsNumbered (forms.CpuLine line)
numbered line h = record { class = refl; byte = cpu_line_low line h }

named_entry : (who : Who) (what : What) → PlainFits what → IsNamed (forms.Entry (record { who = who; what = what }))
named_entry who (whats.Fail situation required seen signals) h = absurd h
named_entry who what h = record { class = refl; byte = omega arith }

kind : (f : ReportLine) → FormFits f → IsNumbered f ⊎ IsNamed f
kind (forms.CpuLine line) h = inl (numbered line h)
kind (forms.Stop None) h = inr (record { class = refl; byte = omega arith })
kind (forms.Stop (Some stop)) h = inr (record { class = refl; byte = omega arith })
kind (forms.Mark (marks.Poisoned cycle who how)) h = inr (record { class = refl; byte = omega arith })
kind (forms.Mark (marks.Unpoisoned cycle who)) h = inr (record { class = refl; byte = omega arith })
kind (forms.Entry entry) h = inr (named_entry entry.who entry.what h.1)
kind f h = inr (record { class = refl; byte = omega arith })

-- two lines of the same words are of the same kind
same_class : (f g : ReportLine) → FormFits f → FormFits g → form_words f ≡ form_words g → class_of f ≡ class_of g
same_class f g a b e = elim (kind f a) [
  | inl x ↦ elim (kind g b) [
    | inl y ↦ x.class ∙ sym y.class
    | inr y ↦ absurd (omega (arith, x.byte, y.byte, ap first_byte e))
  ]
  | inr x ↦ elim (kind g b) [
    | inl y ↦ absurd (omega (arith, x.byte, y.byte, ap first_byte e))
    | inr y ↦ sym x.class ∙ ap (λ ws. class_of_tag (tag_at 0 ws)) e ∙ y.class
  ]
]

same_failure : (a b : Failure) → FailFits a → FailFits b → failure_words a ≡ failure_words b → a ≡ b
same_failure a b f g e =
    let behind = same_required a.required b.required (decimal a.seen ∷ decimal a.signals ∷ []) (decimal b.seen ∷ decimal b.signals ∷ []) f.required g.required (ap (drop 4) e) in
    λ i. record {
      who = same_who a.who b.who f.who g.who (word_at 1 e) (word_at 2 e) i;
      situation = same_situation a.situation b.situation (word_at 3 e) i;
      required = behind.0 i;
      seen = same_u64 f.seen g.seen (word_at 0 behind.1) i;
      signals = same_u64 {m = a.signals} {n = b.signals} (omega (arith, f.signals)) (omega (arith, g.signals)) (word_at 1 behind.1) i;
    }

pub form_unique : (f g : ReportLine) → FormFits f → FormFits g → form_words f ≡ form_words g → f ≡ g
form_unique (forms.Header version) (forms.Header version2) a b e = λ i. forms.Header (same_version version version2 (word_at 1 e) i)
form_unique (forms.Header version) g a b e = absurd (omega (arith, same_class (forms.Header version) g a b e))
form_unique (forms.Stop stop) (forms.Stop stop2) a b e = λ i. forms.Stop (same_stop stop stop2 a b e i)
form_unique (forms.Stop stop) g a b e = absurd (omega (arith, same_class (forms.Stop stop) g a b e))
form_unique (forms.Count n) (forms.Count n2) a b e = λ i. forms.Count (same_u64 a b (word_at 1 e) i)
form_unique (forms.Count n) g a b e = absurd (omega (arith, same_class (forms.Count n) g a b e))
form_unique (forms.File n lost) (forms.File n2 lost2) a b e = λ i. forms.File (same_u64 a.0 b.0 (word_at 1 e) i) (same_u64 a.1 b.1 (word_at 3 e) i)
form_unique (forms.File n lost) g a b e = absurd (omega (arith, same_class (forms.File n lost) g a b e))
form_unique (forms.Frame n place bad weak) (forms.Frame n2 place2 bad2 weak2) a b e =
    let behind = same_place place place2 _ _ a.1 b.1 (ap (drop 2) e) in
    λ i. forms.Frame (same_u64 a.0 b.0 (word_at 1 e) i) (behind.0 i) (record { 0 = same_mask a.2 b.2 (word_at 1 behind.1) i }) (record { 0 = same_mask a.3 b.3 (word_at 3 behind.1) i })
form_unique (forms.Frame n place bad weak) g a b e = absurd (omega (arith, same_class (forms.Frame n place bad weak) g a b e))
form_unique (forms.Mark mark) (forms.Mark mark2) a b e = λ i. forms.Mark (same_mark mark mark2 a b e i)
form_unique (forms.Mark mark) g a b e = absurd (omega (arith, same_class (forms.Mark mark) g a b e))
form_unique (forms.Page n count) (forms.Page n2 count2) a b e = λ i. forms.Page (same_u64 a.0 b.0 (word_at 1 e) i) (same_u64 a.1 b.1 (word_at 2 e) i)
form_unique (forms.Page n count) g a b e = absurd (omega (arith, same_class (forms.Page n count) g a b e))
form_unique (forms.Entry entry) (forms.Entry entry2) a b e =
    let same = same_entry entry.who entry2.who entry.what entry2.what a.0 b.0 a.1 b.1 e in λ i. forms.Entry (record { who = same.0 i; what = same.1 i })
form_unique (forms.Entry entry) g a b e = absurd (omega (arith, same_class (forms.Entry entry) g a b e))
form_unique (forms.Fail failure) (forms.Fail failure2) a b e = λ i. forms.Fail (same_failure failure failure2 a b e i)
form_unique (forms.Fail failure) g a b e = absurd (omega (arith, same_class (forms.Fail failure) g a b e))
form_unique (forms.Seen seen) (forms.Seen seen2) a b e =
    λ i. forms.Seen (record { thread = record { 0 = same_u8 a.0 b.0 (word_at 1 e) i }; policy = same_policy seen.policy seen2.policy (word_at 2 e) i; n = same_u32 a.1 b.1 (word_at 3 e) i })
form_unique (forms.Seen seen) g a b e = absurd (omega (arith, same_class (forms.Seen seen) g a b e))
form_unique (forms.Signal signal) (forms.Signal signal2) a b e =
    λ i. forms.Signal (record { process = record { 0 = same_u8 a.0 b.0 (word_at 1 e) i }; thread = record { 0 = same_u8 a.1 b.1 (word_at 2 e) i }; code = same_code signal.code signal2.code (word_at 3 e) i; slot = record { 0 = same_u16 a.2 b.2 (word_at 4 e) i } })
form_unique (forms.Signal signal) g a b e = absurd (omega (arith, same_class (forms.Signal signal) g a b e))
form_unique (forms.Cpu n count) (forms.Cpu n2 count2) a b e = λ i. forms.Cpu (same_u64 a.0 b.0 (word_at 1 e) i) (same_u64 a.1 b.1 (word_at 2 e) i)
form_unique (forms.Cpu n count) g a b e = absurd (omega (arith, same_class (forms.Cpu n count) g a b e))
form_unique (forms.CpuLine line) (forms.CpuLine line2) a b e = λ i. forms.CpuLine (same_cpu_line line line2 a b e i)
form_unique (forms.CpuLine line) g a b e = absurd (omega (arith, same_class (forms.CpuLine line) g a b e))
form_unique forms.End forms.End a b e = refl
form_unique forms.End g a b e = absurd (omega (arith, same_class forms.End g a b e))
