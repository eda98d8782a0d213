use Rattle.hwp_cpu_command.proofs.begin.begin_other.Goals as goal

pub returns-in_default-clause-handle : goal.returns-in_default-clause-handle
returns-in_default-clause-handle c = c.begin_rare.ensures.handle c.args.handles.now
