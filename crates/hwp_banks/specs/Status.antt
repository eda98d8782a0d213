-- The bits of a status word, IA32_MCi_STATUS (Intel SDM vol. 3), by their numbers.
use Rattle.std.specs.Prelude.{ℕ, ◌^◌, ◌%◌, ◌==◌, Bool, bit_and}
use Rattle.hwp_banks.specs.declared.status.Status.{Status}

-- whether bit k is set
abbrev pub has_bit : Status → ℕ → Bool
has_bit s k = bit_and s.0 (2 ^ k) == 2 ^ k

-- VAL
abbrev pub is_valid : Status → Bool
is_valid s = has_bit s 63

-- OVER
abbrev pub is_overflowed : Status → Bool
is_overflowed s = has_bit s 62

-- UC
abbrev pub is_uncorrected : Status → Bool
is_uncorrected s = has_bit s 61

-- EN
abbrev pub is_enabled : Status → Bool
is_enabled s = has_bit s 60

-- MISCV
abbrev pub is_misc_valid : Status → Bool
is_misc_valid s = has_bit s 59

-- ADDRV
abbrev pub is_addr_valid : Status → Bool
is_addr_valid s = has_bit s 58

-- PCC
abbrev pub is_context_corrupt : Status → Bool
is_context_corrupt s = has_bit s 57

-- S
abbrev pub is_signaled : Status → Bool
is_signaled s = has_bit s 56

-- AR
abbrev pub is_action_required : Status → Bool
is_action_required s = has_bit s 55

-- the MCA error code, bits 15:0
abbrev pub error_code_of : Status → ℕ
error_code_of s = s.0 % 2 ^ 16
