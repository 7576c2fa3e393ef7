use Rattle.std.proofs.Common.{◌∙◌, ◌-◌, length, subst}
use Rattle.call_replies.specs.declared.Reply.{Reply}
use Rattle.call_replies.specs.Calls.{reply_to}
use Rattle.rv_machine.specs.State.{reg}
use Rattle.rv_machine.specs.Effects.{after_call}
use Rattle.rv_machine.specs.Progress.{Follows}
use Rattle.rv_machine.proofs.machine.Machine.call.Goals as goal

pub returns-in-Breaks : goal.returns-in-Breaks
returns-in-Breaks c =
    let s = c.args.self.now.state in
    let told = rw c.call_values-call.ensures at c.in-Breaks.ensures.reply in
    let seen = c.self.view_is in
    let is = told ∙ (λ i. reply_to (seen i).state.memory (seen i).state.heap (length c.args.input.now - (seen i).state.place) (reg s 17) (reg s 10) (reg s 11) (reg s 12)) in
    let P : Reply → Type 0 = λ r. Follows c.args.self.now (after_call c.args.input.now s r) c.move_break.result c.move_break.new.self in
    subst P is (c.move_break.ensures c.args.input.now)
