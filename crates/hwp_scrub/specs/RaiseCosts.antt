-- Why a machine check that is raised ends.
use Rattle.std.specs.Prelude.{ℕ, Bool, false, Option, None}
use Rattle.hwp_cpu_control.specs.hwp_geom.declared.Frame.{Frame}
use Rattle.hwp_cpu_control.specs.hwp_core_rule.Words.{Words}
use Rattle.hwp_claim.specs.Handlers as handlers
use Rattle.hwp_scrub.specs.declared.raise.Raise.{Raise}
use Rattle.hwp_scrub.specs.declared.raise.RaiseAt.{RaiseAt}
use Rattle.hwp_scrub.specs.declared.raise.RaiseAt.TheVariants as at

abbrev pub class_at : RaiseAt → ℕ
class_at (at.Handle h) = handlers.class h
class_at _ = 4

abbrev pub class : Raise → ℕ
class r = class_at r.at

abbrev pub claims_at : RaiseAt → Option (Frame × ℕ)
claims_at (at.Handle h) = handlers.claims h
claims_at _ = None

abbrev pub claims : Raise → Option (Frame × ℕ)
claims r = claims_at r.at

abbrev pub aborts_at : RaiseAt → Bool
aborts_at (at.Handle h) = handlers.aborts h
aborts_at _ = false

abbrev pub aborts : Raise → Bool
aborts r = aborts_at r.at

-- the turns that are left until the machine check begins, and those of a machine check of three events that begins
abbrev pub cost_at : RaiseAt → Words → ℕ
cost_at at.LoadStop words = 6
cost_at (at.LoadProcess raiser) words = 5
cost_at (at.Handle h) words = handlers.cost h words
cost_at at.GiveUp words = 1
cost_at (at.Over answer) words = 0

abbrev pub cost : Raise → Words → ℕ
cost r words = cost_at r.at words
