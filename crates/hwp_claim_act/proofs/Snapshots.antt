-- A body as clauses see it.
use Rattle.std.proofs.Common.{◌≡◌}
use Rattle.std.specs.declared.snapshot.Snapshot.{Snapshot}
use Rattle.hwp_core.specs.hwp_page.History.{BodyValue}
use Rattle.hwp_claim_act.specs.Abandons.{snapshot}

pub snapshot-is : (s : Snapshot BodyValue) (b : BodyValue) → s.value ≡ b → s ≡ snapshot b
snapshot-is s b e = λ i. record { marker = record {}; value = e i }
