-- What a processor that held nothing holds while it takes a frame.
use Rattle.std.specs.Prelude.{true, false, [], ◌∷◌, Some}
use Rattle.hwp_core.specs.hwp_core_rule.Views.{unpoisoned}
use Rattle.hwp_core.specs.hwp_core_rule.Hands.{Hand, empty}
use Rattle.hwp_core.specs.Holds.{one_ref}
use Rattle.hwp_core.specs.Releases.{adopted_lock}
use Rattle.hwp_evict.specs.declared.take.TakeAt.{TakeAt}
use Rattle.hwp_evict.specs.declared.take.TakeAt.TheVariants as at

-- nothing, then a reservation, then the frame in hand, then its lock and one reference
abbrev pub taken : TakeAt → Hand
taken (at.LoadFree number) = record empty { reserved = 1 }
taken (at.TakeBit frame) = record empty { reserved = 1 }
taken (at.Adopt frame) = record empty { hands = unpoisoned frame ∷ [] }
taken (at.Retire frame) = record empty { refs = one_ref frame; locks = adopted_lock frame true ∷ [] }
taken (at.Over (Some frame)) = record empty { refs = one_ref frame; locks = adopted_lock frame false ∷ [] }
taken _ = empty
