-- Which translations forks froze on a processor, and which of these have gone over to their private twins since; and the command that the
-- processor acts on: the script's, with the twin in the place of a translation that has gone over. This project's rule.
use Rattle.std.specs.Prelude.{◌==◌, ◌&&◌, ◌||◌, Bool, false, List, Option, Some, None, fold, not, slice_get, unwrap_or, if◌then◌else◌}
use Rattle.std.specs.Option.{option_map_or}
use Rattle.hwp_script_words.specs.hwp_geom.declared.Layout.{Layout}
use Rattle.hwp_script_words.specs.hwp_geom.declared.TransDecl.{TransDecl}
use Rattle.hwp_script_words.specs.hwp_geom.declared.VSlot.{VSlot}
use Rattle.hwp_script_words.specs.hwp_geom.Layout.{twin_of}
use Rattle.hwp_script_words.specs.declared.Command.{Command}
use Rattle.hwp_script_words.specs.declared.Command.TheVariants as commands
use Rattle.hwp_script_words.specs.Forks.{froze}
use Rattle.hwp_report_text.specs.declared.Answer.{Answer}
use Rattle.hwp_report_text.specs.declared.Answer.TheVariants as answers

-- of a translation, whether a fork froze it, and whether it has gone over to its twin since
pub record Cow : Type 0 where
  pub frozen : Bool
  pub switched : Bool

abbrev pub own_page : Cow
own_page = record { frozen = false; switched = false }

-- the command is a fork that freezes the page of the translation
abbrev pub froze_slot : Layout → VSlot → Command → Bool
froze_slot layout slot command = option_map_or (λ (v : TransDecl). froze layout v.page.0 command) (slice_get layout.trans slot.0) false

-- after a command with this answer: a fork that was done freezes it, and the first store through it that was answered `stored` switches it
abbrev pub cow_after : Layout → VSlot → Command → Answer → Cow → Cow
cow_after layout slot (commands.Fork thread process) answers.Done c = record c { frozen = c.frozen || froze_slot layout slot (commands.Fork thread process) }
cow_after layout slot (commands.Store thread other line word) (answers.Stored at) c = record c { switched = c.switched || (c.frozen && (other.0 == slot.0)) }
cow_after layout slot command answer c = c

-- after some commands of its processor with their answers
abbrev pub cow_of : Layout → List (Command × Answer) → VSlot → Cow
cow_of layout earlier slot = fold (λ (c : Cow) (p : Command × Answer). cow_after layout slot p.0 p.1 c) own_page earlier

-- the translation that stands for this one: its twin, once it has gone over; and the one that a store writes through, which is the twin
-- of each frozen translation
abbrev pub twin_or : Layout → VSlot → VSlot
twin_or layout slot = unwrap_or (twin_of layout slot) slot

abbrev pub through : Layout → List (Command × Answer) → VSlot → VSlot
through layout earlier slot = if (cow_of layout earlier slot).switched then twin_or layout slot else slot

abbrev pub written_through : Layout → List (Command × Answer) → VSlot → VSlot
written_through layout earlier slot = if (cow_of layout earlier slot).frozen then twin_or layout slot else slot

-- the command that a processor acts on, behind these commands of its own with their answers
abbrev pub acting : Layout → List (Command × Answer) → Command → Command
acting layout earlier (commands.Load thread slot line) = commands.Load thread (through layout earlier slot) line
acting layout earlier (commands.Fetch thread slot line) = commands.Fetch thread (through layout earlier slot) line
acting layout earlier (commands.KLoad thread slot line) = commands.KLoad thread (through layout earlier slot) line
acting layout earlier (commands.Store thread slot line word) = commands.Store thread (written_through layout earlier slot) line word
acting layout earlier (commands.Free slot) = commands.Free (through layout earlier slot)
acting layout earlier command = command

-- the translation whose page a store copies before it writes: a frozen one that hasn't gone over yet
abbrev pub copied_from : Layout → List (Command × Answer) → Command → Option VSlot
copied_from layout earlier (commands.Store thread slot line word) =
    if (cow_of layout earlier slot).frozen && not (cow_of layout earlier slot).switched then Some slot else None
copied_from layout earlier command = None
