use Rattle.std.proofs.Common.{◌∙◌, sym, ap}
use Rattle.rv_decode.specs.declared.instr.Instr.{Instr}
use Rattle.term_arena.specs.Trees.{trees_of}
use Rattle.normal_form.specs.Norm.{norm}
use Rattle.replay_law.specs.Forms.{with_conditions}
use Rattle.replay_law.specs.Follow.{row_conditions}
use Rattle.path_condition.proofs.ListLemmas.{then_ok}
use Rattle.sym_replay.specs.States.{terms_of}
use Rattle.sym_replay.proofs.pins.add_row.Goals as goal

pub returns-in-Ecall-clause-trees : goal.returns-in-Ecall-clause-trees
returns-in-Ecall-clause-trees c =
    then_ok c.add_call.result (c.add_call.ensures.trees)
    (λ e. e ∙ ap (λ (i : Instr). with_conditions (trees_of c.args.arena.now c.args.conditions.now) (row_conditions norm (terms_of c.args.arena.now c.args.state.now) c.args.event.now c.args.shown i)) (sym c.in-Ecall.is))
