-- The parts of the opening, as code makes them.
use Rattle.std.specs.Prelude.{ℕ, List, not, Bool, Option, Some}
use Rattle.std.specs.List.{sum_by}
use Rattle.std.specs.Int.{from_bool}
use Rattle.hwp_core_rule.specs.hwp_page.History.{BodyValue}
use Rattle.hwp_core_rule.specs.declared.Log.{Log}
use Rattle.hwp_core_rule.specs.Calls.{logs}

-- the frames that aren't the kernel's
abbrev pub usable_in : List Bool → ℕ
usable_in kernel = sum_by (λ (k : Bool). from_bool (not k)) kernel

-- a slot at home with this content
abbrev pub home_with : Option BodyValue → Option (Option Log)
home_with body = Some (logs body)
