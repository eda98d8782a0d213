-- The collector of corrected errors that a processor has after some commands, and which notes take their frame out of use. This
-- project's rule.
use Rattle.std.specs.Prelude.{ℕ, ◌==◌, List, [], ◌∷◌, ◌++◌, map, Option, Some, None, option_map, if◌then◌else◌}
use Rattle.hwp_script_words.specs.hwp_geom.declared.Frame.{Frame}
use Rattle.hwp_script_words.specs.hwp_cec.Ages.{CecEvent, Note, Round, live}
use Rattle.hwp_script_words.specs.declared.Command.{Command}
use Rattle.hwp_script_words.specs.declared.Command.TheVariants as commands
use Rattle.hwp_report_text.specs.declared.Answer.{Answer}
use Rattle.hwp_report_text.specs.declared.Answer.TheVariants as answers

-- the numbers of the processor's last `watch` that was done, and what its collector was told since
pub record Watched : Type 0 where
  pub threshold : ℕ
  pub window : ℕ
  pub events : List CecEvent

-- the collector was told these events more
abbrev pub told : List CecEvent → Watched → Watched
told events w = record w { events = w.events ++ events }

-- of some notes those that take their frame out of use, in order: a note is judged over all that the collector was told before it
abbrev pub offlining : Watched → List Frame → List Frame
offlining w [] = []
offlining w (frame ∷ frames) =
    if live w.threshold w.window w.events frame.0 == w.threshold
    then frame ∷ offlining (told (Note frame ∷ []) w) frames
    else offlining (told (Note frame ∷ []) w) frames

-- the frames that a command with these notes takes out of use: none where the processor has no collector
abbrev pub due : Option Watched → List Frame → List Frame
due None frames = []
due (Some w) frames = offlining w frames

-- the collector after a command with this answer and these notes. A `watch` that was done gives a new one, and a scrub that went to its
-- end ends a round
abbrev pub watched_after : Command → Answer → List Frame → Option Watched → Option Watched
watched_after (commands.Watch threshold window) answers.Done frames before = Some (record { threshold = threshold; window = window; events = [] })
watched_after (commands.Scrub first last) (answers.Scrubbed n) frames before = option_map (told (map Note frames ++ Round ∷ [])) before
watched_after _ _ frames before = option_map (told (map Note frames)) before
