use Rattle.std.proofs.Common.{◌∙◌}
use Rattle.normal_form.specs.Norm.{norm}
use Rattle.memory_map.specs.Cells.{next_address}
use Rattle.replay_law.specs.Forms.{byte_term}
use Rattle.replay_law.specs.Terms.{with_tree}
use Rattle.path_condition.proofs.ListLemmas.{then_ok}
use Rattle.sym_replay.specs.Values.{value_tree}
use Rattle.sym_replay.specs.States.{terms_of}
use Rattle.sym_replay.proofs.ValueLemmas.{grown_value_tree}
use Rattle.sym_replay.proofs.StateLemmas.{with_bytes, put_two}
use Rattle.sym_replay.proofs.state.ReplayState.store_half.Goals as goal

pub returns-clause-terms : goal.returns-clause-terms
returns-clause-terms c =
    let tree = value_tree c.args.arena.now c.args.v.now in
    let before = terms_of c.args.arena.now c.args.self.now in
    let between = terms_of c.store_byte.new.arena c.store_byte.new.self in
    let after = terms_of c.store_byte-2.new.arena c.store_byte-2.new.self in
    let same = grown_value_tree c.args.arena.now c.store_byte.new.arena c.in_ok-store_byte.ensures.keeps c.args.v.now c.requires.value in
    then_ok c.store_byte-2.result (c.store_byte-2.ensures.terms)
    (λ e. put_two before c.args.address (byte_term norm 0 tree) (byte_term norm 1 tree) between after (c.in_ok-store_byte.ensures.terms)
    (e ∙ (λ i. with_bytes between (with_tree between.bytes (next_address c.args.address) (byte_term norm 1 (same i))))))
