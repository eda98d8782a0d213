-- What a copy of a page leaves in it: the words of the page that was copied, and on one line the word that the store was asked for.
use Rattle.std.specs.Prelude.{◌≡◌, ◌≢◌, ℕ, ◌<◌, ◌==◌, List, Option, Some, None, Any, filter_map, if◌then◌else◌}
use Rattle.hwp_law_served.specs.hwp_geom.Limits.{line_limit}
use Rattle.hwp_law_served.specs.hwp_geom.declared.Layout.{Layout}
use Rattle.hwp_law_served.specs.hwp_geom.declared.Thread.{Thread}
use Rattle.hwp_law_served.specs.hwp_geom.declared.VSlot.{VSlot}
use Rattle.hwp_law_served.specs.hwp_geom.declared.Who.{Who}
use Rattle.hwp_law_served.specs.hwp_page.declared.At.{At}
use Rattle.hwp_law_served.specs.hwp_page.declared.Met.TheVariants.{Word}
use Rattle.hwp_law_served.specs.hwp_page.declared.What.{What}
use Rattle.hwp_law_served.specs.hwp_page.declared.What.TheVariants as entries
use Rattle.hwp_law_served.specs.hwp_report_text.declared.Answer.TheVariants as answers
use Rattle.hwp_law_served.specs.hwp_report_text.declared.Report.{Report}
use Rattle.hwp_law_served.specs.hwp_script_words.declared.Command.TheVariants as commands
use Rattle.hwp_law_served.specs.hwp_script_words.declared.Script.{Script}
use Rattle.hwp_law_served.specs.hwp_law.Commands.{command_at}
use Rattle.hwp_law_served.specs.hwp_law.Copies.{own_in}
use Rattle.hwp_law_served.specs.hwp_law.Lines.{answer_of}
use Rattle.hwp_law_served.specs.hwp_law.Private.{last_word, word_in}

-- the word that an entry loaded from the line, if it loaded one
abbrev pub word_loaded : ℕ → What → Option ℕ
word_loaded line (entries.Load slot at_line (Word mask word)) = if at_line == line then Some word else None
word_loaded line what = None

-- whatever word the line held before, behind these entries it holds this one: the last that they stored there
abbrev pub IsLastStored : ℕ → List What → ℕ → Type 0
IsLastStored line whats word = (before : ℕ) → last_word before (filter_map (word_in line) whats) ≡ word

-- the command stored last on the line, through the one translation, its own word if the line is its own, and else a word that it loaded
-- from the line through the other
pub record KeepsWord (layout : Layout) (report : Report) (who : Who) (from to : VSlot) (own word line : ℕ) : Type 0 where
  pub stored : ℕ
  pub last : IsLastStored line (own_in layout report who to) stored
  pub same : own ≡ line → stored ≡ word
  pub other : own ≢ line → Any (λ (what : What). word_loaded line what ≡ Some stored) (own_in layout report who from)

-- each store that copied a page and was answered `stored` kept the words of the page
abbrev pub CopiesKeepWords : Script → (Who → Option VSlot) → Report → Type 0
CopiesKeepWords script copies report =
    (who : Who) (thread : Thread) (from to : VSlot) (own word line : ℕ) (at : At) → command_at script who ≡ Some (commands.Store thread to own word) → copies who ≡ Some from
    → answer_of report who ≡ Some (answers.Stored at) → line < line_limit → KeepsWord script.layout report who from to own word line
