use Rattle.std.proofs.Common.{rules}
use Rattle.hwp_script_read.proofs.ReadLaws.{apart}
use Rattle.hwp_script_read.proofs.OneScript.{one_script}
use Rattle.hwp_script_read.proofs.ValidLaws.{valid_read}
use Rattle.hwp_script_read.proofs.reading.read.Goals as goal

pub returns-in_default-clause-apart : goal.returns-in_default-clause-apart
returns-in_default-clause-apart c = λ r script. apart c.args.bytes.now r script

pub returns-in-Ok-Ok-clause-apart : goal.returns-in-Ok-Ok-clause-apart
returns-in-Ok-Ok-clause-apart c = λ r script. apart c.args.bytes.now r script

pub returns-in-Ok-Err-clause-apart : goal.returns-in-Ok-Err-clause-apart
returns-in-Ok-Err-clause-apart c = λ r script. apart c.args.bytes.now r script

pub returns-in-Err-clause-apart : goal.returns-in-Err-clause-apart
returns-in-Err-clause-apart c = λ r script. apart c.args.bytes.now r script

pub returns-in-Ok-Ok-clause-valid : goal.returns-in-Ok-Ok-clause-valid
returns-in-Ok-Ok-clause-valid c = valid_read {bytes = c.args.bytes.now} (search rules)

pub returns-in_default-clause-one : goal.returns-in_default-clause-one
returns-in_default-clause-one c = λ script other. one_script c.args.bytes.now script other

pub returns-in-Ok-Ok-clause-one : goal.returns-in-Ok-Ok-clause-one
returns-in-Ok-Ok-clause-one c = λ script other. one_script c.args.bytes.now script other

pub returns-in-Ok-Err-clause-one : goal.returns-in-Ok-Err-clause-one
returns-in-Ok-Err-clause-one c = λ script other. one_script c.args.bytes.now script other

pub returns-in-Err-clause-one : goal.returns-in-Err-clause-one
returns-in-Err-clause-one c = λ script other. one_script c.args.bytes.now script other
