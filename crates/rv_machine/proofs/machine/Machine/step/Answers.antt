use Rattle.rv_machine.proofs.Sound.{step_place, step_over}
use Rattle.rv_machine.proofs.machine.Machine.step.Goals as goal

pub returns-clause-over : goal.returns-clause-over
returns-clause-over c = step_over c.args.input.now c.args.self.now c.take_step.new.self c.take_step.result.end c.take_step.ensures.next c.requires.place c.requires.running

pub returns-clause-place : goal.returns-clause-place
returns-clause-place c = step_place c.args.input.now c.args.self.now c.take_step.new.self c.take_step.result.end c.take_step.ensures.next c.requires.place
