-- No two lines below pages have the same words.
use Rattle.std.proofs.Common.{◌≡◌, ℕ, ◌<◌, ◌^◌, false, List, [], ◌∷◌, ◌++◌, length, get_or, drop, Option, Some, None, refl, ap, arith}
use Rattle.std.specs.Prelude.{IfSome}
use Rattle.std.specs.Char.{digit_value}
use Rattle.std.proofs.lemmas.Bool.Decides.{nat_tests}
use Rattle.std.proofs.lemmas.Fmt.{digits_is_IsNumeral}
use Rattle.std.specs.Str.Parse.{AllDigits}
use Rattle.hwp_report_text.specs.hwp_geom.Words.{hex}
use Rattle.hwp_report_text.specs.hwp_geom.declared.Thread.{Thread}
use Rattle.hwp_report_text.specs.hwp_geom.declared.Who.{Who}
use Rattle.hwp_report_text.specs.hwp_page.declared.Met.{Met}
use Rattle.hwp_report_text.specs.hwp_page.declared.Met.TheVariants as mets
use Rattle.hwp_report_text.specs.hwp_page.declared.What.{What}
use Rattle.hwp_report_text.specs.hwp_page.declared.What.TheVariants as whats
use Rattle.hwp_report_text.specs.ReportText.{met_words, required_words, entry_words}
use Rattle.hwp_report_words.proofs.SameWords.{tag_at, word_at, same_u8, same_u16, same_u64, same_mask, same_line, same_who}
use Rattle.hwp_report_words.specs.Words.{WhoFits}
use Rattle.hwp_report_words.specs.pages.Fits.{MetFits, ThreadFits, PlainFits}

-- the first digit in hex is no `s`
digit_low : (b : ℕ) → digit_value b < 16 → b < 103
digit_low b h = grind (arith, nat_tests)

first_low : (ds : List ℕ) → 0 < length ds → AllDigits 16 ds → get_or ds 0 0 < 103
first_low [] some h = absurd (omega arith)
first_low (d ∷ ds) some h = digit_low d h.0

pub hex_low : (n : ℕ) → n < 2 ^ 64 → get_or (hex n) 0 0 < 103
hex_low n h = let numeral = (digits_is_IsNumeral 16 false (omega arith) (omega arith) n (omega arith)).0 in first_low (hex n) numeral.0 numeral.1

same_met : (a b : Met) → MetFits a → MetFits b → met_words a ≡ met_words b → a ≡ b
same_met (mets.Word mask word) (mets.Word mask2 word2) f g e = λ i. mets.Word (record { 0 = same_mask f.0 g.0 (word_at 0 e) i }) (same_u64 f.1 g.1 (word_at 1 e) i)
same_met (mets.Word mask word) (mets.Sigbus thread) f g e =
    absurd (omega (arith, hex_low mask.0 f.0, ap (λ ws. get_or (get_or ws 0 []) 0 0) e))
same_met (mets.Sigbus thread) (mets.Word mask word) f g e =
    absurd (omega (arith, hex_low mask.0 g.0, ap (λ ws. get_or (get_or ws 0 []) 0 0) e))
same_met (mets.Sigbus thread) (mets.Sigbus thread2) f g e = λ i. mets.Sigbus (record { 0 = same_u8 f g (word_at 1 e) i })

pub same_required : (a b : Option Thread) (x y : List (List ℕ)) → IfSome a ThreadFits → IfSome b ThreadFits
    → required_words a ++ x ≡ required_words b ++ y → (a ≡ b) × (x ≡ y)
same_required None None x y f g e = (refl, ap (drop 2) e)
same_required None (Some b) x y f g e = absurd (omega (arith, ap (tag_at 0) e))
same_required (Some a) None x y f g e = absurd (omega (arith, ap (tag_at 0) e))
same_required (Some a) (Some b) x y f g e = (λ i. Some (record { 0 = same_u8 f g (word_at 1 e) i }), ap (drop 2) e)

pub same_entry : (who who2 : Who) (a b : What) → WhoFits who → WhoFits who2 → PlainFits a → PlainFits b → entry_words who a ≡ entry_words who2 b
    → (who ≡ who2) × (a ≡ b)
same_entry who who2 (whats.Load slot at met) (whats.Load slot2 at2 met2) v w f g e = (same_who who who2 v w (word_at 1 e) (word_at 2 e), λ i. whats.Load (record { 0 = same_u16 f.0 g.0 (word_at 3 e) i }) (same_line f.1 g.1 (word_at 4 e) i) (same_met met met2 f.2 g.2 (ap (drop 5) e) i))
same_entry who who2 (whats.Load slot at met) b v w f g e = absurd (omega (arith, ap (tag_at 0) e))
same_entry who who2 (whats.Store slot at met) (whats.Store slot2 at2 met2) v w f g e = (same_who who who2 v w (word_at 1 e) (word_at 2 e), λ i. whats.Store (record { 0 = same_u16 f.0 g.0 (word_at 3 e) i }) (same_line f.1 g.1 (word_at 4 e) i) (same_met met met2 f.2 g.2 (ap (drop 5) e) i))
same_entry who who2 (whats.Store slot at met) b v w f g e = absurd (omega (arith, ap (tag_at 0) e))
same_entry who who2 whats.FaultIn whats.FaultIn v w f g e = (same_who who who2 v w (word_at 1 e) (word_at 2 e), refl)
same_entry who who2 whats.FaultIn b v w f g e = absurd (omega (arith, ap (tag_at 0) e))
same_entry who who2 whats.Drop whats.Drop v w f g e = (same_who who who2 v w (word_at 1 e) (word_at 2 e), refl)
same_entry who who2 whats.Drop b v w f g e = absurd (omega (arith, ap (tag_at 0) e))
same_entry who who2 whats.Sync whats.Sync v w f g e = (same_who who who2 v w (word_at 1 e) (word_at 2 e), refl)
same_entry who who2 whats.Sync b v w f g e = absurd (omega (arith, ap (tag_at 0) e))
same_entry who who2 whats.Out whats.Out v w f g e = (same_who who who2 v w (word_at 1 e) (word_at 2 e), refl)
same_entry who who2 whats.Out b v w f g e = absurd (omega (arith, ap (tag_at 0) e))
same_entry who who2 whats.Soft whats.Soft v w f g e = (same_who who who2 v w (word_at 1 e) (word_at 2 e), refl)
same_entry who who2 whats.Soft b v w f g e = absurd (omega (arith, ap (tag_at 0) e))
same_entry who who2 (whats.Map slot) (whats.Map slot2) v w f g e = (same_who who who2 v w (word_at 1 e) (word_at 2 e), λ i. whats.Map (record { 0 = same_u16 f g (word_at 3 e) i }))
same_entry who who2 (whats.Map slot) b v w f g e = absurd (omega (arith, ap (tag_at 0) e))
same_entry who who2 (whats.Free slot) (whats.Free slot2) v w f g e = (same_who who who2 v w (word_at 1 e) (word_at 2 e), λ i. whats.Free (record { 0 = same_u16 f g (word_at 3 e) i }))
same_entry who who2 (whats.Free slot) b v w f g e = absurd (omega (arith, ap (tag_at 0) e))
same_entry who who2 (whats.Mce slot at mask) (whats.Mce slot2 at2 mask2) v w f g e = (same_who who who2 v w (word_at 1 e) (word_at 2 e), λ i. whats.Mce (record { 0 = same_u16 f.0 g.0 (word_at 3 e) i }) (same_line f.1 g.1 (word_at 4 e) i) (record { 0 = same_mask f.2 g.2 (word_at 5 e) i }))
same_entry who who2 (whats.Mce slot at mask) b v w f g e = absurd (omega (arith, ap (tag_at 0) e))
same_entry who who2 (whats.Fail situation required seen signals) b v w f g e = absurd f
