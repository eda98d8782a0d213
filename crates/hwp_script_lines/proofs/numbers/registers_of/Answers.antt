use Rattle.hwp_script_lines.proofs.numbers.registers_of.Goals as goal

pub returns-in_default : goal.returns-in_default
returns-in_default c = λ s a m h i j. c.in_default.ensures s h

pub returns-in_default-register : goal.returns-in_default-register
returns-in_default-register c = λ s a m h i j. c.in_default-register.ensures a i

pub returns-in_default-register-2 : goal.returns-in_default-register-2
returns-in_default-register-2 c = λ s a m h i j. c.in_default-register-2.ensures m j
