use Rattle.std.proofs.Common.{ap, sym, ◌∙◌, ◌-◌}
use Rattle.replay_law.specs.Terms.{after_reply, call_value}
use Rattle.sym_replay.specs.States.{terms_of}
use Rattle.sym_replay.proofs.CellLemmas.{reply_bare}
use Rattle.sym_replay.proofs.HeapLemmas.{on_ok_then}
use Rattle.sym_replay.proofs.state.ReplayState.call.Goals as goal

pub returns-clause-terms : goal.returns-clause-terms
returns-clause-terms c =
    let e = c.args.event.now in
    let s = terms_of c.args.arena.now c.args.self.now in
    on_ok_then c.answer.result (terms_of c.answer.new.arena c.answer.new.self) (after_reply s c.args.event.now c.reply_to-reply.result) _
    (ap (after_reply s c.args.event.now) (c.reply_to-reply.ensures.reply
    ∙ sym (reply_bare c.args.self.now.memory.map c.args.self.now.memory.heap (c.args.n - c.args.self.now.place) (call_value e 0) (call_value e 1) (call_value e 2) (call_value e 3))))
    c.answer.ensures.terms
