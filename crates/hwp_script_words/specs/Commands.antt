-- What a command may say in any script, and which commands version Two alone has.
use Rattle.std.specs.Prelude.{ℕ, ◌≤◌}
use Rattle.hwp_cec.specs.Limits.{threshold_limit, window_limit}
use Rattle.hwp_script_words.specs.declared.command.Command.{Command}
use Rattle.hwp_script_words.specs.declared.command.Command.TheVariants as commands

-- a collector has a threshold and a window that there may be
abbrev pub IsCollectorWithin : ℕ → ℕ → Type 0
IsCollectorWithin t w = (1 ≤ t) × (t ≤ threshold_limit) × (1 ≤ w) × (w ≤ window_limit)

-- a command that version Two alone has
abbrev pub IsNewer : Command → Type 0
IsNewer (commands.Open n) = Unit {0}
IsNewer (commands.Watch t w) = Unit {0}
IsNewer (commands.Fork t p) = Unit {0}
IsNewer c = ⊥
