-- What the banks of a processor hold, and what an event leaves in them.
use Rattle.std.specs.Prelude.{ℕ, ◌+◌, List, [], ◌∷◌, Option, Some, None, replicate, slice_index_or, slice_set}
use Rattle.hwp_banks.specs.declared.event.Event.{Event}
use Rattle.hwp_banks.specs.Events.{bank_count}
use Rattle.hwp_banks.specs.Logged.{logged}

-- what the banks of a processor hold, from bank 0 on
abbrev pub Banks : Type 0
Banks = List (Option Event)

abbrev pub empty_banks : Banks
empty_banks = replicate bank_count None

-- the banks after an event of one of them
abbrev pub log_in : ℕ → Event → Banks → Banks
log_in bank event banks = slice_set banks bank (logged (slice_index_or banks bank None) event)

-- the banks that hold something, from bank n on: each with its number
abbrev pub held_from : ℕ → Banks → List (ℕ × Event)
held_from n [] = []
held_from n (None ∷ banks) = held_from (n + 1) banks
held_from n (Some event ∷ banks) = (n, event) ∷ held_from (n + 1) banks

-- the bank of raw events, and a raw event
abbrev pub raw_bank : ℕ
raw_bank = 1

abbrev pub raw_event : ℕ → ℕ → ℕ → Event
raw_event status addr misc = record { status = record { 0 = status }; addr = addr; misc = misc }
