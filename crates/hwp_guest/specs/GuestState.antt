-- A guest as its accesses leave it: which guest frames are bad, and whether it is stopped. This project's rule.
use Rattle.std.specs.Prelude.{ℕ, Bool, true, if◌then◌else◌, refl}
use Rattle.std.specs.Coded.{Coded, code_by, coded×, coded_ℕ, coded_bool}
use Rattle.std.specs.Ordering.{nat_cmp}
use Rattle.std.specs.FinSet as set
use Rattle.hwp_kill.specs.hwp_geom.declared.Mode.{Mode}
use Rattle.hwp_kill.specs.hwp_geom.declared.Mode.TheVariants.{User, Kernel}
use Rattle.hwp_guest.specs.declared.access.Admit.{Admit}
use Rattle.hwp_guest.specs.declared.access.Admit.TheVariants as admissions

pub record GuestState : Type 0 where
  pub bad : set.FinSet nat_cmp
  pub stopped : Bool

-- a state is stored as the pair of its fields
abbrev pub state_code : Coded GuestState
state_code =
    code_by (set.FinSet nat_cmp × Bool) (coded× (set.code coded_ℕ) coded_bool) (λ g. (g.bad, g.stopped)) (λ p. record { bad = p.0; stopped = p.1 }) (λ _. refl)

-- whether an access to a guest frame goes on to memory; a stopped guest is told before a bad frame
abbrev pub admitted : GuestState → ℕ → Admit
admitted g frame = if g.stopped then admissions.Stopped else if set.contains g.bad frame then admissions.Bad else admissions.Yes

-- the guest after an access to a guest frame that was answered by SIGBUS: in user mode the frame is bad, in kernel mode the guest is stopped
abbrev pub after : Mode → ℕ → GuestState → GuestState
after User frame g = record g { bad = set.insert g.bad frame }
after Kernel frame g = record g { stopped = true }
