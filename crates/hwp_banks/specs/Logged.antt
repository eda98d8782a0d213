-- The overwrite table: what a bank holds after an event, by the classes of the held event (first) and of the new one
-- (second). This project's rule.
use Rattle.std.specs.Prelude.{◌+◌, ◌-◌, ◌^◌, Option, Some, None, if◌then◌else◌, bit_and, bit_or}
use Rattle.hwp_banks.specs.declared.event.Event.{Event}
use Rattle.hwp_banks.specs.declared.status.Status.{Status}
use Rattle.hwp_banks.specs.Status.{is_valid, is_uncorrected, is_context_corrupt}

-- the classes of events
pub data Class : Type 0 where
  Corrected : Class
  Uncorrected : Class
  Fatal : Class

-- corrected: UC=0, PCC=0; uncorrected: UC=1, PCC=0; fatal: PCC=1
abbrev pub class_of : Status → Class
class_of s = if is_context_corrupt s then Fatal else if is_uncorrected s then Uncorrected else Corrected

-- the event with OVER set
abbrev pub with_over : Event → Event
with_over e = record e { status = record { 0 = bit_or e.status.0 (2 ^ 62) } }

-- the event with OVER cleared
abbrev pub without_over : Event → Event
without_over e = record e { status = record { 0 = bit_and e.status.0 (2 ^ 64 - 1 - 2 ^ 62) } }

-- the first event, where S is set if either has it, and AR likewise
abbrev pub merged : Event → Event → Event
merged first second = record first { status = record { 0 = bit_or first.status.0 (bit_and second.status.0 (2 ^ 56 + 2 ^ 55)) } }

-- what a valid event leaves in a bank that holds one: overwrite rows 1 to 7
abbrev pub overwritten : Class → Class → Event → Event → Event
overwritten Corrected Corrected first second = with_over first  -- overwrite row 1
overwritten Corrected Uncorrected first second = with_over second  -- overwrite row 2
overwritten Uncorrected Corrected first second = with_over first  -- overwrite row 3
overwritten Uncorrected Uncorrected first second = with_over (merged first second)  -- overwrite row 4
overwritten Corrected Fatal first second = with_over second  -- overwrite row 5
overwritten Uncorrected Fatal first second = with_over second  -- overwrite row 5
overwritten Fatal Corrected first second = with_over first  -- overwrite row 6
overwritten Fatal Uncorrected first second = with_over first  -- overwrite row 6
overwritten Fatal Fatal first second = with_over first  -- overwrite row 7

-- what a valid event leaves: overwrite row 8 in an empty bank
abbrev pub stored : Option Event → Event → Event
stored None second = without_over second  -- overwrite row 8
stored (Some first) second = overwritten (class_of first.status) (class_of second.status) first second

-- the bank after an event; one without VAL changes nothing
abbrev pub logged : Option Event → Event → Option Event
logged bank event = if is_valid event.status then Some (stored bank event) else bank
