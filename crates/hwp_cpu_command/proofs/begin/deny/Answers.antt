use Rattle.std.proofs.Common.{sym, ap, ◌∙◌}
use Rattle.hwp_cpu_command.specs.declared.job.Job.TheVariants as jobs
use Rattle.hwp_cpu_command.proofs.AccessBegins.{access-is, access-thread}
use Rattle.hwp_cpu_command.proofs.begin.deny.Goals as goal

pub process_of-process-requires-clause-declared : goal.process_of-process-requires-clause-declared
process_of-process-requires-clause-declared c = access-thread c.args.layout.now c.args.who.cpu.0 c.args.command.now c.in-Some.at (sym c.access_in.ensures ∙ c.in-Some.is) c.requires.of

pub returns-clause-begins : goal.returns-clause-begins
returns-clause-begins c = λ copies can. record {
  sound = c.requires.sound;
  named = c.requires.of;
  can_copy = can;
  at = _;
  access = access-is c.args.command.now c.in-Some.at (sym c.access_in.ensures ∙ c.in-Some.is);
  process = c.process_of-process.result;
  process_is = c.process_of-process.ensures.process;
  within = c.process_of-process.ensures.within;
  job_is = c.set.ensures ∙ ap jobs.Denied c.new.ensures;
}
