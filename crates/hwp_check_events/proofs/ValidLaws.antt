-- What a valid script says of its commands.
use Rattle.std.proofs.Common.{◌≡◌, ℕ, ◌+◌, ◌<◌, List, Option, Some, None, slice_get, refl}
use Rattle.std.specs.Option.{option_and_then}
use Rattle.std.proofs.lemmas.Option.{none-some}
use Rattle.hwp_banks.specs.hwp_geom.Limits.{line_limit}
use Rattle.hwp_banks.specs.hwp_geom.declared.Frame.{Frame}
use Rattle.hwp_banks.specs.hwp_geom.declared.Layout.{Layout}
use Rattle.hwp_banks.specs.hwp_geom.declared.Who.{Who}
use Rattle.hwp_banks.specs.declared.Origin.{Origin}
use Rattle.hwp_banks.specs.declared.Origin.TheVariants as origins
use Rattle.hwp_law.specs.hwp_script_words.Valid.{IsCommandOf}
use Rattle.hwp_check_event_line.specs.Scripts.{IsDeclared}
use Rattle.hwp_law.specs.hwp_script_words.declared.Command.{Command}
use Rattle.hwp_law.specs.hwp_script_words.declared.Command.TheVariants as commands
use Rattle.hwp_law.specs.hwp_script_words.declared.Script.{Script}
use Rattle.hwp_law.specs.Events.{marking}
use Rattle.hwp_check_event_line.specs.Misfits.{IsFit}
use Rattle.hwp_check_event_line.proofs.ScriptLaws.{command-of}
use Rattle.hwp_check_events.proofs.LowestMarks.{HasLines}

fit : (layout : Layout) (cpu : ℕ) (command : Command) → IsCommandOf layout cpu command → IsFit command
fit layout cpu (commands.Scrub first last) is = is.0
fit layout cpu _ is = record {}

pub fits : (script : Script) (cpu : ℕ) (list : List Command) → IsDeclared script → slice_get script.lists cpu ≡ Some list → (n : ℕ) (command : Command) → slice_get list n ≡ Some command → IsFit command
fits script cpu list valid of = λ n command there. fit script.layout (0 + cpu) command (command-of script cpu n list command valid of there)

marked : (layout : Layout) (cpu : ℕ) (origin : Origin) (frame : Frame) (line : ℕ) → IsCommandOf layout cpu (marking origin frame line) → line < line_limit
marked layout cpu origins.WeakLine frame line is = is.1
marked layout cpu origins.BadLine frame line is = is.1
marked layout cpu origins.Access frame line is = is.1
marked layout cpu origins.Fetch frame line is = is.1

pub has-lines : (script : Script) → IsDeclared script → HasLines script
has-lines script valid = λ who origin frame line made. by who origin frame line (slice_get script.lists who.cpu.0) refl made
  where
    by : (who : Who) (origin : Origin) (frame : Frame) (line : ℕ) (o : Option (List Command)) → slice_get script.lists who.cpu.0 ≡ o → option_and_then (λ (list : List Command). slice_get list who.seq) o ≡ Some (marking origin frame line) → line < line_limit
    by who origin frame line None of made = absurd (none-some (marking origin frame line) made)
    by who origin frame line (Some list) of made = marked script.layout (0 + who.cpu.0) origin frame line (command-of script who.cpu.0 who.seq list (marking origin frame line) valid of made)
