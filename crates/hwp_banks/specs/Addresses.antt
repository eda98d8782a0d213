-- Physical addresses: a frame has 64 lines of 64 bytes each. This project's rule.
use Rattle.std.specs.Prelude.{ℕ, ◌+◌, ◌*◌, ◌/◌}
use Rattle.hwp_geom.specs.declared.Frame.{Frame}

-- the address of a line of a frame
abbrev pub line_address : Frame → ℕ → ℕ
line_address frame line = frame.0 * 4096 + line * 64

-- the number of the frame that an address lies in
abbrev pub frame_at : ℕ → ℕ
frame_at addr = addr / 4096
