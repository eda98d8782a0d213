-- What a processor remembers of forks: a list that says of each translation whether it is frozen and whether it has gone over to its
-- twin. What it makes of a command is what hwp_law/specs/Cows says, with the list for the earlier commands and their answers.
use Rattle.std.specs.Prelude.{◌≡◌, ◌+◌, ◌&&◌, ◌||◌, ℕ, Bool, true, false, not, List, [], ◌∷◌, length, replicate, get_or, slice_get, slice_set, Option, None, Some, is_some, if◌then◌else◌}
use Rattle.std.specs.List.{list_any}
use Rattle.std.specs.Option.{option_map_or}
use Rattle.hwp_claim.specs.hwp_geom.declared.Layout.{Layout}
use Rattle.hwp_claim.specs.hwp_geom.declared.Thread.{Thread}
use Rattle.hwp_claim.specs.hwp_geom.declared.ThreadDecl.{ThreadDecl}
use Rattle.hwp_claim.specs.hwp_geom.declared.TransDecl.{TransDecl}
use Rattle.hwp_claim.specs.hwp_geom.declared.VSlot.{VSlot}
use Rattle.hwp_claim.specs.hwp_script_words.declared.Command.{Command}
use Rattle.hwp_claim.specs.hwp_script_words.declared.Command.TheVariants as commands
use Rattle.hwp_claim.specs.hwp_script_words.Forks.{freezes}
use Rattle.hwp_claim.specs.hwp_report_text.declared.Answer.{Answer}
use Rattle.hwp_claim.specs.hwp_report_text.declared.Answer.TheVariants as answers
use Rattle.hwp_claim.specs.hwp_law.Cows.{Cow, cow_of, own_page, twin_or}

-- what the list says of a translation; one that it doesn't hold has its own page
abbrev pub cow_in : List Cow → VSlot → Cow
cow_in cows slot = get_or cows slot.0 own_page

-- the list says what these commands with their answers made of each translation
abbrev pub KnowsCows : Layout → List (Command × Answer) → List Cow → Type 0
KnowsCows layout earlier cows = (slot : VSlot) → cow_in cows slot ≡ cow_of layout earlier slot

-- at first nothing is frozen; where no translation has a twin the list is empty, and stays so
abbrev pub first_cows : Layout → List Cow
first_cows layout = if list_any is_some layout.twins then replicate (length layout.trans) own_page else []

-- it has a place for each translation, where one has a twin, and else none
pub record AreCowsOf (layout : Layout) (cows : List Cow) : Type 0 where
  pub all : list_any is_some layout.twins ≡ true → length cows ≡ length layout.trans
  pub none : list_any is_some layout.twins ≡ false → length cows ≡ 0

-- ---- the command that the processor acts on

abbrev pub through_in : Layout → List Cow → VSlot → VSlot
through_in layout cows slot = if (cow_in cows slot).switched then twin_or layout slot else slot

abbrev pub written_in : Layout → List Cow → VSlot → VSlot
written_in layout cows slot = if (cow_in cows slot).frozen then twin_or layout slot else slot

abbrev pub acting_in : Layout → List Cow → Command → Command
acting_in layout cows (commands.Load thread slot line) = commands.Load thread (through_in layout cows slot) line
acting_in layout cows (commands.Fetch thread slot line) = commands.Fetch thread (through_in layout cows slot) line
acting_in layout cows (commands.KLoad thread slot line) = commands.KLoad thread (through_in layout cows slot) line
acting_in layout cows (commands.Store thread slot line word) = commands.Store thread (written_in layout cows slot) line word
acting_in layout cows (commands.Free slot) = commands.Free (through_in layout cows slot)
acting_in layout cows command = command

-- the translation that a store copies from
abbrev pub copied_by : List Cow → VSlot → Option VSlot
copied_by cows slot = if (cow_in cows slot).frozen && not (cow_in cows slot).switched then Some slot else None

abbrev pub copied_in : List Cow → Command → Option VSlot
copied_in cows (commands.Store thread slot line word) = copied_by cows slot
copied_in cows command = None

-- ---- what an answer changes

-- a fork by the thread freezes the translation of this number
abbrev pub freezes_at : Layout → Thread → ℕ → Bool
freezes_at layout thread n =
    option_map_or (λ (v : TransDecl). option_map_or (λ (t : ThreadDecl). freezes layout t.process.0 v.page.0) (slice_get layout.threads thread.0) false) (slice_get layout.trans n) false

abbrev pub frozen_by : Bool → Cow → Cow
frozen_by freezes c = record c { frozen = c.frozen || freezes }

-- of the translations from this number on
abbrev pub frozen_from : Layout → Thread → ℕ → List Cow → List Cow
frozen_from layout thread n [] = []
frozen_from layout thread n (c ∷ cs) = frozen_by (freezes_at layout thread n) c ∷ frozen_from layout thread (n + 1) cs

abbrev pub frozen_in : Layout → Command → List Cow → List Cow
frozen_in layout (commands.Fork thread process) cows = frozen_from layout thread 0 cows
frozen_in layout command cows = cows

-- a store through a frozen one that was made switches it
abbrev pub switched_by : Cow → Cow
switched_by c = record c { switched = c.switched || c.frozen }

abbrev pub switched_in : Command → List Cow → List Cow
switched_in (commands.Store thread slot line word) cows = slice_set cows slot.0 (switched_by (cow_in cows slot))
switched_in command cows = cows

abbrev pub told_in : Layout → Command → Answer → List Cow → List Cow
told_in layout command answers.Done cows = frozen_in layout command cows
told_in layout command (answers.Stored at) cows = switched_in command cows
told_in layout command answer cows = cows
