use Rattle.std.proofs.Common.{◌∙◌, ap, Bool, if◌then◌else◌}
use Rattle.replay_law.specs.Terms.{with_tree}
use Rattle.path_condition.proofs.ListLemmas.{then_ok}
use Rattle.sym_replay.specs.Values.{value_tree}
use Rattle.sym_replay.specs.States.{terms_of}
use Rattle.sym_replay.proofs.ValueLemmas.{term_in}
use Rattle.sym_replay.proofs.StateLemmas.{with_bytes, grown_state, grown_terms}
use Rattle.sym_replay.proofs.state.ReplayState.put_byte.Goals as goal

pub returns-then-put_known-clause-state : goal.returns-then-put_known-clause-state
returns-then-put_known-clause-state c = c.put_known.ensures.state c.args.arena.now c.requires.state

pub returns-then-put_known-clause-terms : goal.returns-then-put_known-clause-terms
returns-then-put_known-clause-terms c =
    let trees = c.args.arena.now in
    let s = terms_of trees c.args.self.now in
    c.put_known.ensures.terms trees ∙ ap (λ (b : Bool). if b then with_bytes s (with_tree s.bytes c.args.address (value_tree trees c.args.v.now)) else s) c.if-put_known.true

pub returns-clause-state : goal.returns-clause-state
returns-clause-state c =
    let old = c.args.arena.now in
    let new = c.interned.new.arena in
    c.put_term.ensures.state new
    (grown_state old new c.put_known.new.self c.in_ok-t.ensures.keeps (c.put_known.ensures.state old c.requires.state))
    (term_in new (value_tree old c.args.v.now) c.in_ok-t.t c.in_ok-t.ensures.term)

pub returns-clause-terms : goal.returns-clause-terms
returns-clause-terms c =
    let old = c.args.arena.now in
    let new = c.interned.new.arena in
    let s = terms_of old c.args.self.now in
    let known = c.put_known.ensures.terms old ∙ ap (λ (b : Bool). if b then with_bytes s (with_tree s.bytes c.args.address (value_tree old c.args.v.now)) else s) c.if-put_known.false in
    let grown = grown_terms old new c.put_known.new.self c.in_ok-t.ensures.keeps (c.put_known.ensures.state old c.requires.state) ∙ known in
    then_ok c.put_term.result (c.put_term.ensures.terms new)
    (λ e. e ∙ (λ i. with_bytes (grown i) (with_tree (grown i).bytes c.args.address (c.in_ok-t.ensures.term.is i))))
