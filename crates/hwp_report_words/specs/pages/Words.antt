-- The words of the lines below pages, and of their parts.
use Rattle.std.specs.Prelude.{◌≡◌, ℕ, ◌^◌, ◌<◌, ◌≤◌, List, [], ◌∷◌, ◌++◌, codes, decimal, Option, IfSome, MatchOption}
use Rattle.hwp_report_text.specs.hwp_geom.Limits.{line_limit}
use Rattle.hwp_report_text.specs.hwp_geom.Words.{hex}
use Rattle.hwp_report_text.specs.hwp_geom.declared.Mask.{Mask}
use Rattle.hwp_report_text.specs.hwp_geom.declared.Thread.{Thread}
use Rattle.hwp_report_text.specs.hwp_geom.declared.VSlot.{VSlot}
use Rattle.hwp_report_text.specs.hwp_geom.declared.Who.{Who}
use Rattle.hwp_report_text.specs.hwp_kill.Limits.{signal_limit}
use Rattle.hwp_report_text.specs.hwp_kill.declared.Code.{Code}
use Rattle.hwp_report_text.specs.hwp_page.declared.Met.{Met}
use Rattle.hwp_report_text.specs.hwp_page.declared.What.{What}
use Rattle.hwp_report_text.specs.Terms.{code_word, situation_word}
use Rattle.hwp_report_text.specs.ReportText.{entry_words, met_words, required_words, verb_words}
use Rattle.hwp_report_words.specs.Reads.{IsReadAs}
use Rattle.hwp_report_words.specs.declared.failures.Failure.{Failure}
use Rattle.hwp_report_words.specs.declared.verbs.Verb.{Verb}
use Rattle.hwp_report_words.specs.pages.Fits.{AccessFits, PlainFits, ThreadFits}
use Rattle.hwp_report_words.specs.pages.Verbs.{verb_of, verb_text}

-- the words of a memory failure's line
abbrev pub failure_words : Failure → List (List ℕ)
failure_words f =
    verb_words (codes "fail") f.who (situation_word f.situation ∷ (required_words f.required ++ decimal f.seen ∷ decimal f.signals ∷ []))

-- `CODE V`
abbrev pub aim_words : Code × VSlot → List (List ℕ)
aim_words aim = code_word aim.0 ∷ decimal aim.1.0 ∷ []

abbrev pub AimFits : Code × VSlot → Type 0
AimFits aim = aim.1.0 < 2 ^ 16

-- the numbers of policies and of signals; there are at most 16 signals
abbrev pub CountsFit : ℕ × ℕ → Type 0
CountsFit counts = (counts.0 < 2 ^ 64) × (counts.1 ≤ signal_limit)

-- `req T A B`, or `opt - A B`
abbrev pub need_words : Option Thread × ℕ × ℕ → List (List ℕ)
need_words need = required_words need.0 ++ decimal need.1 ∷ decimal need.2 ∷ []

abbrev pub NeedFits : Option Thread × ℕ × ℕ → Type 0
NeedFits need = IfSome need.0 ThreadFits × (need.1 < 2 ^ 64) × (need.2 ≤ signal_limit)

-- the words of an access behind those that say who
abbrev pub access_words : VSlot × ℕ × Met → List (List ℕ)
access_words access = decimal access.0.0 ∷ decimal access.1 ∷ met_words access.2

-- the words are read as the access that they are of
abbrev pub IsAccessRead : List (List ℕ) → Option (VSlot × ℕ × Met) → Type 0
IsAccessRead ws read = IsReadAs (λ a. AccessFits a.0.0 a.1 a.2) access_words ws read

-- the words of a machine check behind those that say who
abbrev pub mce_words : VSlot × ℕ × Mask → List (List ℕ)
mce_words mce = decimal mce.0.0 ∷ decimal mce.1 ∷ hex mce.2.0 ∷ []

abbrev pub MceFits : VSlot × ℕ × Mask → Type 0
MceFits mce = (mce.0.0 < 2 ^ 16) × (mce.1 < line_limit) × (mce.2.0 < 2 ^ 64)

-- the words behind this first word, a processor and the number of its command are read as what they say happened
abbrev pub IsPlainRead : Verb → List (List ℕ) → Option What → Type 0
IsPlainRead verb ws read =
    MatchOption read
    ((what : What) → verb_of what ≡ verb → PlainFits what → (who : Who) → verb_words (verb_text verb) who ws ≡ entry_words who what → ⊥)
    (λ what. PlainFits what × ((who : Who) → verb_words (verb_text verb) who ws ≡ entry_words who what))
