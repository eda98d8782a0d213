-- The printed words of some kinds of line, from their parts, and the text of lines.
use Rattle.std.specs.Prelude.{ℕ, Bool, List, ◌∷◌}
use Rattle.std.specs.List.{flat_map}
use Rattle.hwp_script_read.specs.hwp_geom.Words.{line}
use Rattle.hwp_script_read.specs.hwp_script_lines.Grammar.{form_words, command_text, command_word, command_words}
use Rattle.hwp_script_read.specs.hwp_script_lines.declared.ScriptLine.{ScriptLine}
use Rattle.hwp_script_read.specs.hwp_script_lines.declared.Backing.{Backing}
use Rattle.hwp_script_read.specs.hwp_script_lines.declared.Command.{Command}
use Rattle.hwp_script_read.specs.hwp_script_lines.declared.Go.{Go}
use Rattle.hwp_script_read.specs.hwp_script_lines.declared.ScriptLine.TheVariants as forms

-- the text of the line of a command
unfoldable pub command_line : Command → List ℕ
command_line c = line (command_text (command_word c) ∷ command_words c)

-- the words of a thread
abbrev pub thread_words : ℕ → ℕ → ℕ → Bool → List (List ℕ)
thread_words t p c handler = form_words (forms.Thread t p c handler)

-- the words of the line of a page
abbrev pub page_line : ℕ → Backing → Bool → List (List ℕ)
page_line q backing locked = form_words (forms.Page q backing locked)

-- the words of a line of the schedule
abbrev pub schedule_words : List Go → List (List ℕ)
schedule_words turns = form_words (forms.Schedule turns)

-- the text of lines
abbrev pub forms_text : List ScriptLine → List ℕ
forms_text fs = flat_map (λ f. line (form_words f)) fs
