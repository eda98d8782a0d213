-- The script that a seed gives.
use Rattle.std.specs.Prelude.{ℕ, zero, suc, List, [], ◌∷◌, ◌++◌}
use Rattle.hwp_script_read.specs.hwp_script_lines.declared.Command.{Command}
use Rattle.hwp_script_read.specs.hwp_script_lines.declared.Go.{Go}
use Rattle.hwp_script_read.specs.hwp_script_lines.declared.Until.TheVariants.{One}
use Rattle.hwp_script_read.specs.declared.Script.{Script}
use Rattle.rand_pcg.specs.Lcg.{Lcg, started, increment_of}
use Rattle.rand_pcg.specs.Pcg.{multiplier_64}
use Rattle.hwp_script.specs.Commands.{command}
use Rattle.hwp_script.specs.Draws.{after, drawn}
use Rattle.hwp_script.specs.Machine.{machine}

-- things drawn so far, and the generator after them
abbrev pub Drawn : Type 0 → Type 0
Drawn A = List A × Lcg

-- one more of them
abbrev pub one_more : {A : Type 0} → (Lcg → A × Lcg) → Drawn A → Drawn A
one_more draw so_far = (so_far.0 ++ (draw so_far.1).0 ∷ [], (draw so_far.1).1)

-- so many, one after the other
unfoldable pub many : {A : Type 0} → (Lcg → A × Lcg) → ℕ → Lcg → Drawn A
many draw zero g = ([], g)
many draw (suc n) g = one_more draw (many draw n g)

-- the commands of a processor
abbrev pub commands_of : ℕ → Lcg → Drawn Command
commands_of cpu g = many (command cpu) 1000 g

-- a word of the schedule: one turn of a processor
abbrev pub go : Lcg → Go × Lcg
go g = (record { cpu = record { 0 = drawn 4 g }; until = One }, after g)

-- the lists of the first processors
unfoldable pub lists : ℕ → Lcg → Drawn (List Command)
lists zero g = ([], g)
lists (suc cpus) g = one_more (commands_of cpus) (lists cpus g)

-- the generator that a seed gives, on stream 11
abbrev pub seeded : ℕ → Lcg
seeded seed = started 64 multiplier_64 seed (increment_of 64 11)

-- 1,000 commands for each of the four processors, and then 20,000 words of schedule
abbrev pub generated : ℕ → Script
generated seed = record {
  layout = machine;
  lists = (lists 4 (seeded seed)).0;
  go = (many go 20000 (lists 4 (seeded seed)).1).0;
}
