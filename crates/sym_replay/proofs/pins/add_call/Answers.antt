use Rattle.std.proofs.Common.{◌∙◌, slice_index}
use Rattle.term_arena.specs.Trees.{trees_of}
use Rattle.normal_form.specs.Norm.{norm}
use Rattle.replay_law.specs.Forms.{pin, with_conditions}
use Rattle.path_condition.proofs.ListLemmas.{then_ok}
use Rattle.sym_replay.specs.States.{register_tree}
use Rattle.sym_replay.proofs.ValueLemmas.{further}
use Rattle.sym_replay.proofs.PinLemmas.{four_lists, grown_register}
use Rattle.sym_replay.proofs.pins.add_call.Goals as goal

pub returns-clause-trees : goal.returns-clause-trees
returns-clause-trees c =
    let s = c.args.state.now in
    let a0 = c.args.arena.now in
    let a1 = c.add_register.new.arena in
    let a2 = c.add_register-2.new.arena in
    let a3 = c.add_register-3.new.arena in
    let t0 = trees_of a0 c.args.conditions.now in
    let t1 = trees_of a1 c.add_register.new.conditions in
    let t2 = trees_of a2 c.add_register-2.new.conditions in
    let t3 = trees_of a3 c.add_register-3.new.conditions in
    let one = c.in_ok-add_register.ensures.keeps in
    let two = further a0 a1 a2 one c.in_ok-add_register-2.ensures.keeps in
    let three = further a0 a2 a3 two c.in_ok-add_register-3.ensures.keeps in
    then_ok c.add_register-4.result c.add_register-4.ensures.trees
    (λ e. four_lists t0 t1 t2 t3 (trees_of c.add_register-4.new.arena c.add_register-4.new.conditions)
    (pin norm (register_tree a0 s 17) (slice_index c.args.call 0)) (pin norm (register_tree a0 s 10) (slice_index c.args.call 1)) (pin norm (register_tree a0 s 11) (slice_index c.args.call 2)) (pin norm (register_tree a0 s 12) (slice_index c.args.call 3))
    c.in_ok-add_register.ensures.trees
    (c.in_ok-add_register-2.ensures.trees ∙ (λ i. with_conditions t1 (pin norm (grown_register a0 a1 s 10 one c.requires.state i) (slice_index c.args.call 1))))
    (c.in_ok-add_register-3.ensures.trees ∙ (λ i. with_conditions t2 (pin norm (grown_register a0 a2 s 11 two c.requires.state i) (slice_index c.args.call 2))))
    (e ∙ (λ i. with_conditions t3 (pin norm (grown_register a0 a3 s 12 three c.requires.state i) (slice_index c.args.call 3)))))
