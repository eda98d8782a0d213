-- Words that are no line of a kind below pages, by what is missing.
use Rattle.std.proofs.Common.{◌≡◌, ℕ, ◌<◌, ◌≤◌, ◌^◌, List, [], ◌∷◌, ◌++◌, length, get_or, take, drop, Option, Some, None, codes, decimal, refl, ap, arith}
use Rattle.hwp_report_text.specs.hwp_geom.declared.Mask.{Mask}
use Rattle.hwp_report_text.specs.hwp_geom.declared.Thread.{Thread}
use Rattle.hwp_report_text.specs.hwp_geom.declared.VSlot.{VSlot}
use Rattle.hwp_report_text.specs.hwp_geom.declared.Who.{Who}
use Rattle.hwp_report_text.specs.hwp_page.declared.Met.{Met}
use Rattle.hwp_report_text.specs.hwp_page.declared.Met.TheVariants as mets
use Rattle.hwp_report_text.specs.hwp_page.declared.What.{What}
use Rattle.hwp_report_text.specs.hwp_page.declared.What.TheVariants as whats
use Rattle.hwp_report_text.specs.ReportText.{entry_words, met_words, required_words, verb_words}
use Rattle.hwp_report_words.specs.Words.{who_words}
use Rattle.hwp_report_words.proofs.SameWords.{word_at}
use Rattle.hwp_report_words.specs.declared.verbs.Verb.TheVariants as verbs
use Rattle.hwp_report_words.specs.pages.Fits.{AccessFits, MetFits, PlainFits}
use Rattle.hwp_report_words.specs.pages.Verbs.{verb_of}
use Rattle.hwp_report_words.specs.pages.Words.{MceFits, access_words, mce_words}
use Rattle.hwp_report_words.proofs.pages.SameWords.{hex_low}

pub no_load : (ws : List (List ℕ)) → ((x : VSlot × ℕ × Met) → AccessFits x.0.0 x.1 x.2 → ws ≡ access_words x → ⊥)
    → (what : What) → verb_of what ≡ verbs.Load → PlainFits what → (who : Who) → verb_words (codes "load") who ws ≡ entry_words who what → ⊥
no_load ws none (whats.Load slot line met) h fits who e = none (slot, line, met) fits (ap (drop 3) e)
no_load ws none what h fits who e = absurd (cc)

pub no_store : (ws : List (List ℕ)) → ((x : VSlot × ℕ × Met) → AccessFits x.0.0 x.1 x.2 → ws ≡ access_words x → ⊥)
    → (what : What) → verb_of what ≡ verbs.Store → PlainFits what → (who : Who) → verb_words (codes "store") who ws ≡ entry_words who what → ⊥
no_store ws none (whats.Store slot line met) h fits who e = none (slot, line, met) fits (ap (drop 3) e)
no_store ws none what h fits who e = absurd (cc)

pub no_mce : (ws : List (List ℕ)) → ((x : VSlot × ℕ × Mask) → MceFits x → ws ≡ mce_words x → ⊥)
    → (what : What) → verb_of what ≡ verbs.Mce → PlainFits what → (who : Who) → verb_words (codes "mce") who ws ≡ entry_words who what → ⊥
no_mce ws none (whats.Mce slot line mask) h fits who e = none (slot, line, mask) fits (ap (drop 3) e)
no_mce ws none what h fits who e = absurd (cc)

pub no_sigbus : (first second : List ℕ) → first ≡ codes "sigbus" → ((x : ℕ) → x < 2 ^ 8 → second ≡ decimal x → ⊥)
    → (m : Met) → MetFits m → first ∷ second ∷ [] ≡ met_words m → ⊥
no_sigbus first second word none (mets.Sigbus thread) fits e = none thread.0 fits (word_at 1 e)
no_sigbus first second word none (mets.Word mask value) fits e =
    omega (arith, hex_low mask.0 fits.0, ap (λ w. get_or w 0 0) word, ap (λ w. get_or w 0 0) (word_at 0 e))

-- what follows the words of a requirement
pub need_rest : (ws : List (List ℕ)) (thread : Option Thread) (vs : List (List ℕ)) → ws ≡ required_words thread ++ vs → drop 2 ws ≡ vs
need_rest ws None vs e = ap (drop 2) e
need_rest ws (Some thread) vs e = ap (drop 2) e

-- an entry has three words or more, and the second and the third say who
pub entry_long : (who : Who) (what : What) → 2 ≤ length (drop 1 (entry_words who what))
entry_long who whats.Soft = omega arith
entry_long who what = omega arith

pub entry_who : (who : Who) (what : What) → take 2 (drop 1 (entry_words who what)) ≡ who_words who
entry_who who whats.Soft = refl
entry_who who what = refl
