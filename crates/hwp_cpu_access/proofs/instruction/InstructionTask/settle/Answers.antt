use Rattle.hwp_cpu_access.proofs.instruction.InstructionTask.settle.Goals as goal
use Rattle.hwp_cpu_access.proofs.AfterAccess.{answered-follows}

pub returns-in-Some : goal.returns-in-Some
returns-in-Some c = answered-follows c.args.layout.now c.args.self.now c.in-Access.access c.settle-turn.new.self c.args.found c.args.body c.settle-turn.result c.answer.result c.in-Some.answer c.after_access.new.self
    c.in-Access.is c.settle-turn.ensures c.answer.ensures c.in-Some.is (c.after_access.ensures c.settle-turn.new.self)
