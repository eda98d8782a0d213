use Rattle.hwp_cpu_command.proofs.job.JobTask.who.Goals as goal
use Rattle.hwp_cpu_command.proofs.JobLaws.{lawful}

pub returns-in-Instruction-clause-law : goal.returns-in-Instruction-clause-law
returns-in-Instruction-clause-law c = lawful

pub returns-in-Evict-clause-law : goal.returns-in-Evict-clause-law
returns-in-Evict-clause-law c = lawful

pub returns-in-Fsync-clause-law : goal.returns-in-Fsync-clause-law
returns-in-Fsync-clause-law c = lawful

pub returns-in-Prctl-clause-law : goal.returns-in-Prctl-clause-law
returns-in-Prctl-clause-law c = lawful

pub returns-in-Log-clause-law : goal.returns-in-Log-clause-law
returns-in-Log-clause-law c = lawful

pub returns-in-Raise-clause-law : goal.returns-in-Raise-clause-law
returns-in-Raise-clause-law c = lawful

pub returns-in-Scrub-clause-law : goal.returns-in-Scrub-clause-law
returns-in-Scrub-clause-law c = lawful

pub returns-in-Spoil-clause-law : goal.returns-in-Spoil-clause-law
returns-in-Spoil-clause-law c = lawful

pub returns-in-Nested-clause-law : goal.returns-in-Nested-clause-law
returns-in-Nested-clause-law c = lawful

pub returns-in-Inject-clause-law : goal.returns-in-Inject-clause-law
returns-in-Inject-clause-law c = lawful

pub returns-in-Soft-clause-law : goal.returns-in-Soft-clause-law
returns-in-Soft-clause-law c = lawful

pub returns-in-Unpoison-clause-law : goal.returns-in-Unpoison-clause-law
returns-in-Unpoison-clause-law c = lawful

pub returns-in-Copying-clause-law : goal.returns-in-Copying-clause-law
returns-in-Copying-clause-law c = lawful

pub returns-in-Fork-clause-law : goal.returns-in-Fork-clause-law
returns-in-Fork-clause-law c = lawful

pub returns-in-Denied-clause-law : goal.returns-in-Denied-clause-law
returns-in-Denied-clause-law c = lawful
