-- The frames that a script names, as flags.
use Rattle.std.specs.Prelude.{ℕ, ◌+◌, ◌||◌, Bool, true, false, cond, List, [], ◌∷◌, Option, Some, None, fold, replicate, length, slice_index_or, slice_set}
use Rattle.hwp_law.specs.hwp_script_words.declared.Command.{Command}
use Rattle.hwp_law.specs.hwp_script_words.declared.Script.{Script}
use Rattle.hwp_law.specs.Commands.{has_watch}
use Rattle.hwp_law.specs.Answers.{frame_named}

-- the flags after a frame was named, if one was
abbrev pub noted : List Bool → Option ℕ → List Bool
noted flags None = flags
noted flags (Some frame) = slice_set flags frame true

-- after a command, and after commands, and after lists of them; in a script that has a `watch`, or has none
abbrev pub noted_in : Bool → List Bool → Command → List Bool
noted_in watches flags command = noted flags (frame_named watches command)

abbrev pub noted_list : Bool → List Bool → List Command → List Bool
noted_list watches flags list = fold (noted_in watches) flags list

abbrev pub flags_of : Script → List Bool
flags_of script = fold (noted_list (has_watch script)) (replicate (length script.layout.kernel) false) script.lists

-- how many frames from number n on are neither the kernel's nor flagged
abbrev pub usable_by : List Bool → ℕ → List Bool → ℕ
usable_by flags n [] = 0
usable_by flags n (kernel ∷ rest) = cond (kernel || slice_index_or flags n false) 0 1 + usable_by flags (n + 1) rest
