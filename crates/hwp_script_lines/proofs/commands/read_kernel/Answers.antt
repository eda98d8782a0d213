use Rattle.hwp_script_lines.proofs.NumberLaws.{kernel_over}
use Rattle.hwp_script_lines.proofs.commands.read_kernel.Goals as goal

pub returns-in_default : goal.returns-in_default
returns-in_default c = kernel_over _ _ c.in-Ok.ensures c.in_default.ensures
