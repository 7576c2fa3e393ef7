use Rattle.std.proofs.Common.{◌∙◌}
use Rattle.normal_form.specs.Norm.{norm}
use Rattle.memory_map.specs.Cells.{next_address}
use Rattle.replay_law.specs.Forms.{byte_term}
use Rattle.replay_law.specs.Terms.{with_tree}
use Rattle.path_condition.proofs.ListLemmas.{then_ok}
use Rattle.sym_replay.specs.Values.{value_tree}
use Rattle.sym_replay.specs.States.{terms_of}
use Rattle.sym_replay.proofs.ValueLemmas.{grown_value, grown_value_tree}
use Rattle.sym_replay.proofs.StateLemmas.{with_bytes, put_four}
use Rattle.sym_replay.proofs.state.ReplayState.store_word.Goals as goal

pub returns-clause-terms : goal.returns-clause-terms
returns-clause-terms c =
    let tree = value_tree c.args.arena.now c.args.v.now in
    let before = terms_of c.args.arena.now c.args.self.now in
    let first = terms_of c.store_half.new.arena c.store_half.new.self in
    let second = terms_of c.store_byte.new.arena c.store_byte.new.self in
    let after = terms_of c.store_byte-2.new.arena c.store_byte-2.new.self in
    let there = grown_value c.args.arena.now c.store_half.new.arena c.in_ok-store_half.ensures.keeps c.args.v.now c.requires.value in
    let same = grown_value_tree c.args.arena.now c.store_half.new.arena c.in_ok-store_half.ensures.keeps c.args.v.now c.requires.value in
    let still = grown_value_tree c.store_half.new.arena c.store_byte.new.arena c.in_ok-store_byte.ensures.keeps c.args.v.now there ∙ same in
    let third = next_address (next_address c.args.address) in
    then_ok c.store_byte-2.result (c.store_byte-2.ensures.terms)
    (λ e. put_four before c.args.address (byte_term norm 0 tree) (byte_term norm 1 tree) (byte_term norm 2 tree) (byte_term norm 3 tree) first second after (c.in_ok-store_half.ensures.terms)
    (c.in_ok-store_byte.ensures.terms ∙ (λ i. with_bytes first (with_tree first.bytes third (byte_term norm 2 (same i)))))
    (e ∙ (λ i. with_bytes second (with_tree second.bytes (next_address third) (byte_term norm 3 (still i))))))
