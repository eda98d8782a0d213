-- Which guest frames are bad, one machine check after another.
use Rattle.std.proofs.Common.{◌≡◌, ℕ, ◌||◌, false}
use Rattle.std.specs.Cmp.{nat_cmp_total}
use Rattle.std.specs.FinSet as set
use Rattle.std.specs.Ordering.{eq_by_cmp, nat_cmp}

pub none-bad : (frame : ℕ) → set.contains (set.empty {R = nat_cmp}) frame ≡ false
none-bad frame = set.contains-empty nat_cmp frame

pub bad-more : (bad : set.FinSet nat_cmp) (one frame : ℕ) → set.contains (set.insert bad one) frame ≡ (eq_by_cmp nat_cmp frame one || set.contains bad frame)
bad-more bad one frame = set.contains-insert nat_cmp_total bad one frame
