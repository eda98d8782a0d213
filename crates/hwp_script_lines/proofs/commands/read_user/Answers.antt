use Rattle.std.proofs.Common.{inl, inr}
use Rattle.hwp_script_lines.proofs.NumberLaws.{user_over}
use Rattle.hwp_script_lines.proofs.commands.read_user.Goals as goal

pub returns-in_default : goal.returns-in_default
returns-in_default c = user_over _ _ c.in-Ok.ensures (inl c.in_default.ensures)

pub returns-in_default-bits_of : goal.returns-in_default-bits_of
returns-in_default-bits_of c = user_over _ _ c.in-Ok.ensures (inr c.in_default-bits_of.ensures)
