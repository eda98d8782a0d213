-- The four events that the machine makes of its own, each with its bank. The banks and the choice of bits are this
-- project's rule, the bits and the codes are Intel's (SDM vol. 3).
use Rattle.std.specs.Prelude.{ℕ}
use Rattle.hwp_geom.specs.declared.Frame.{Frame}
use Rattle.hwp_banks.specs.declared.event.Event.{Event}
use Rattle.hwp_banks.specs.declared.event.Origin.{Origin}
use Rattle.hwp_banks.specs.declared.event.Origin.TheVariants as origins
use Rattle.hwp_banks.specs.Addresses.{line_address}

-- how many banks a processor has
abbrev pub bank_count : ℕ
bank_count = 3

-- the bank that an event of the machine's own is logged in
abbrev pub bank_of : Origin → ℕ
bank_of origins.Access = 0
bank_of origins.Fetch = 1
bank_of origins.BadLine = 2
bank_of origins.WeakLine = 2

-- its status: VAL, UC, EN, MISCV, ADDRV, S and AR with the code of a data load or of an instruction fetch; the same
-- without AR for the scrubber's bad line; VAL, EN, MISCV and ADDRV for its weak line; both with the code of memory scrubbing
abbrev pub own_status : Origin → ℕ
own_status origins.Access = 0xbd80000000000134
own_status origins.Fetch = 0xbd80000000000150
own_status origins.BadLine = 0xbd000000000000c0
own_status origins.WeakLine = 0x9c000000000000c0

-- its misc word: a physical address (mode 010 in bits 8:6) that is valid from bit 6 on (bits 5:0)
abbrev pub line_misc : ℕ
line_misc = 0x86

-- the event at a line of a frame
abbrev pub own_event : Origin → Frame → ℕ → Event
own_event origin frame line = record { status = record { 0 = own_status origin }; addr = line_address frame line; misc = line_misc }
