-- Why a copy ends: each access is one fewer, and weighs more than all turns of the one that comes behind it.
use Rattle.std.specs.Prelude.{ℕ, ◌+◌, ◌-◌, ◌*◌, Bool, false, Option, None}
use Rattle.hwp_fault.specs.hwp_geom.declared.Frame.{Frame}
use Rattle.hwp_fault.specs.hwp_geom.Limits.{line_limit}
use Rattle.hwp_fault.specs.hwp_core_rule.Words.{Words}
use Rattle.hwp_fault.specs.hwp_core_rule.Ranks.{failure_weight}
use Rattle.hwp_fault.specs.hwp_evict.Evicts as evicts
use Rattle.hwp_fork.specs.declared.cow.CowAt.{CowAt}
use Rattle.hwp_fork.specs.declared.cow.CowAt.TheVariants as cow_at
use Rattle.hwp_cpu_access.specs.declared.instruction.Instruction.{Instruction}
use Rattle.hwp_cpu_access.specs.Costs as instruction_costs
use Rattle.hwp_cpu_access.specs.declared.copying.Copying.{Copying}
use Rattle.hwp_cpu_access.specs.declared.copying.CopyingAt.{CopyingAt}
use Rattle.hwp_cpu_access.specs.declared.copying.CopyingAt.TheVariants as at

-- how many accesses come behind the one that goes on
abbrev pub behind : CowAt → ℕ
behind (cow_at.Load line) = 2 * (line_limit - line) + 1
behind (cow_at.Store line word) = 2 * (line_limit - line)
behind cow_at.Last = 1
behind cow_at.Free = 0
behind cow_at.Switched = 0

abbrev pub class_at : Instruction → CopyingAt → ℕ
class_at i at.Access = instruction_costs.class i
class_at i (at.Free e stored) = evicts.class e
class_at i (at.Over answer) = 4

abbrev pub class : Copying → ℕ
class c = class_at c.instruction c.at

abbrev pub claims_at : Instruction → CopyingAt → Option (Frame × ℕ)
claims_at i at.Access = instruction_costs.claims i
claims_at i (at.Free e stored) = None
claims_at i (at.Over answer) = None

abbrev pub claims : Copying → Option (Frame × ℕ)
claims c = claims_at c.instruction c.at

abbrev pub aborts_at : Instruction → CopyingAt → Bool
aborts_at i at.Access = instruction_costs.aborts i
aborts_at i (at.Free e stored) = false
aborts_at i (at.Over answer) = false

abbrev pub aborts : Copying → Bool
aborts c = aborts_at c.instruction c.at

abbrev pub cost_at : Instruction → CopyingAt → Words → ℕ
cost_at i at.Access words = instruction_costs.cost i words
cost_at i (at.Free e stored) words = evicts.cost e words
cost_at i (at.Over answer) words = 0

abbrev pub cost : Copying → Words → ℕ
cost c words = failure_weight * behind c.cow.at + cost_at c.instruction c.at words
