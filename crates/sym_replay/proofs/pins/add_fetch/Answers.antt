use Rattle.std.proofs.Common.{◌∙◌, [], ◌∷◌}
use Rattle.term_arena.specs.Trees.{trees_of}
use Rattle.normal_form.specs.Norm.{norm}
use Rattle.memory_map.specs.Cells.{next_address}
use Rattle.replay_law.specs.Forms.{with_conditions}
use Rattle.replay_law.specs.Follow.{fetched_byte}
use Rattle.path_condition.proofs.ListLemmas.{then_ok}
use Rattle.sym_replay.specs.States.{terms_of}
use Rattle.sym_replay.proofs.ValueLemmas.{further}
use Rattle.sym_replay.proofs.StateLemmas.{grown_terms}
use Rattle.sym_replay.proofs.PinLemmas.{four_more, fetched_word}
use Rattle.sym_replay.proofs.pins.add_fetch.Goals as goal

pub returns-then-knows_word-clause-trees : goal.returns-then-knows_word-clause-trees
returns-then-knows_word-clause-trees c =
    fetched_word (trees_of c.args.arena.now c.args.conditions.now) c.args.arena.now c.args.state.now c.args.address c.args.word
    (c.knows_word.ensures c.if-knows_word.true)

pub returns-clause-trees : goal.returns-clause-trees
returns-clause-trees c =
    let s = c.args.state.now in
    let a0 = c.args.arena.now in
    let a1 = c.add_fetched_byte.new.arena in
    let a2 = c.add_fetched_byte-2.new.arena in
    let a3 = c.add_fetched_byte-3.new.arena in
    let t0 = trees_of a0 c.args.conditions.now in
    let t1 = trees_of a1 c.add_fetched_byte.new.conditions in
    let t2 = trees_of a2 c.add_fetched_byte-2.new.conditions in
    let t3 = trees_of a3 c.add_fetched_byte-3.new.conditions in
    let one = c.in_ok-add_fetched_byte.ensures.keeps in
    let two = further a0 a1 a2 one c.in_ok-add_fetched_byte-2.ensures.keeps in
    let three = further a0 a2 a3 two c.in_ok-add_fetched_byte-3.ensures.keeps in
    let terms = terms_of a0 s in
    let word = c.args.word in
    let second = next_address c.args.address in
    let third = next_address second in
    let fourth = next_address third in
    then_ok c.add_fetched_byte-4.result c.add_fetched_byte-4.ensures.trees
    (λ e. four_more t0 t1 t2 t3 (trees_of c.add_fetched_byte-4.new.arena c.add_fetched_byte-4.new.conditions)
    (fetched_byte norm terms c.args.address word 0) (fetched_byte norm terms second word 1) (fetched_byte norm terms third word 2) (fetched_byte norm terms fourth word 3)
    c.in_ok-add_fetched_byte.ensures.trees
    (c.in_ok-add_fetched_byte-2.ensures.trees ∙ (λ i. with_conditions t1 (fetched_byte norm (grown_terms a0 a1 s one c.requires.state i) second word 1 ∷ [])))
    (c.in_ok-add_fetched_byte-3.ensures.trees ∙ (λ i. with_conditions t2 (fetched_byte norm (grown_terms a0 a2 s two c.requires.state i) third word 2 ∷ [])))
    (e ∙ (λ i. with_conditions t3 (fetched_byte norm (grown_terms a0 a3 s three c.requires.state i) fourth word 3 ∷ []))))
