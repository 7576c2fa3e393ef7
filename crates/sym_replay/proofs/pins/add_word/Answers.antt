use Rattle.std.proofs.Common.{◌∙◌, sym, ap, ◌++◌, List, Option}
use Rattle.term_model.specs.Tree.{Tree}
use Rattle.rv_decode.specs.declared.instr.Instr.{Instr}
use Rattle.term_arena.specs.Trees.{trees_of}
use Rattle.normal_form.specs.Norm.{norm}
use Rattle.replay_law.specs.Forms.{with_conditions}
use Rattle.replay_law.specs.Follow.{fetch_conditions, row_conditions, instr_conditions}
use Rattle.path_condition.proofs.ListLemmas.{then_ok}
use Rattle.sym_replay.specs.States.{terms_of}
use Rattle.sym_replay.proofs.StateLemmas.{grown_state, grown_terms}
use Rattle.sym_replay.proofs.PinLemmas.{with_conditions-append}
use Rattle.sym_replay.proofs.pins.add_word.Goals as goal

pub add_row-requires-clause-state : goal.add_row-requires-clause-state
add_row-requires-clause-state c = grown_state c.args.arena.now c.add_fetch.new.arena c.args.state.now c.in_ok-add_fetch.ensures.keeps c.requires.state

pub returns-in-Some-clause-trees : goal.returns-in-Some-clause-trees
returns-in-Some-clause-trees c =
    let e = c.args.event.now in
    let grown = grown_terms c.args.arena.now c.add_fetch.new.arena c.args.state.now c.in_ok-add_fetch.ensures.keeps c.requires.state in
    let terms = terms_of c.args.arena.now c.args.state.now in
    let old = trees_of c.args.arena.now c.args.conditions.now in
    let between = trees_of c.add_fetch.new.arena c.add_fetch.new.conditions in
    let fetch = fetch_conditions norm terms e.pc e.word in
    let row = row_conditions norm terms e c.args.shown c.in-Some.row in
    then_ok c.add_row.result (c.add_row.ensures.trees)
    (λ h. h
    ∙ (λ i. with_conditions between (row_conditions norm (grown i) e c.args.shown c.in-Some.row))
    ∙ ap (λ (ts : List Tree). with_conditions ts row) c.in_ok-add_fetch.ensures.trees
    ∙ sym (with_conditions-append old fetch row)
    ∙ ap (λ (o : Option Instr). with_conditions old (fetch ++ instr_conditions norm terms e c.args.shown o)) (sym c.in-Some.is ∙ c.requires.word))
