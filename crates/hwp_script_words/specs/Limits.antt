-- The limits of a script.
use Rattle.std.specs.Prelude.{ℕ, ◌^◌}

-- the words of a schedule
abbrev pub schedule_limit : ℕ
schedule_limit = 100000

-- the bytes of a script: 1 MiB
abbrev pub script_limit : ℕ
script_limit = 2 ^ 20
