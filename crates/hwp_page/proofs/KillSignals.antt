-- How a list of signals is compared with that of the kill table.
use Rattle.std.proofs.Common.{◌≡◌, ◌↔◌, Bool, List, Option, subst}
use Rattle.std.specs.Prelude.{IsTrue}
use Rattle.std.specs.Ordering.{nat_cmp}
use Rattle.std.specs.FinSet as set
use Rattle.hwp_kill.specs.hwp_geom.declared.Layout.{Layout}
use Rattle.hwp_kill.specs.hwp_geom.declared.Thread.{Thread}
use Rattle.hwp_kill.specs.declared.Seen.{Seen}
use Rattle.hwp_kill.specs.declared.Signal.{Signal}
use Rattle.hwp_kill.specs.Kill.{Killed}
use Rattle.hwp_kill.proofs.Unique.{Killed-same}

-- a list of signals is the kill table's where it is equal to one that is
pub is_killed : (layout : Layout) (maps : set.FinSet nat_cmp) (signals always : Bool) (required : Option Thread) (seen : List Seen) (due listed : List Signal) (r : Bool)
    → Killed layout maps signals always required seen due → (IsTrue r ↔ (due ≡ listed)) → IsTrue r ↔ Killed layout maps signals always required seen listed
is_killed layout maps signals always required seen due listed r killed same = (
  λ yes. subst (Killed layout maps signals always required seen) (same.0 yes) killed,
  λ other. same.1 (Killed-same layout maps signals always required seen due listed killed other),
)
