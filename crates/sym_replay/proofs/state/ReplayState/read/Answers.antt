use Rattle.std.proofs.Common.{◌≡◌, suc, ◌+◌, ◌-◌, ◌∙◌, sym, subst, arith}
use Rattle.normal_form.specs.Normal.{IsNormal}
use Rattle.memory_map.specs.Cells.{next_address}
use Rattle.replay_law.specs.Terms.{with_tree, put_trees, input_terms}
use Rattle.sym_replay.specs.Cells.{without_bytes}
use Rattle.sym_replay.specs.Values.{IsTermIn}
use Rattle.sym_replay.specs.States.{terms_of, IsState}
use Rattle.sym_replay.proofs.ValueLemmas.{further}
use Rattle.sym_replay.proofs.StateLemmas.{grown_state, grown_terms, next_input, no_input, placed_state}
use Rattle.sym_replay.proofs.state.ReplayState.read.Goals as goal

pub loop-k-preserved : goal.loop-k-preserved
loop-k-preserved c =
    let s = c.loop-k.self in
    let keeps = c.in_ok-byte.ensures.keeps in
    let state : IsState c.input.new.self s = grown_state c.loop-k.arena c.input.new.self s keeps c.loop-k.invariant.0 in
    let byte : IsTermIn c.input.new.self c.in_ok-byte.byte = record { belongs = c.in_ok-byte.ensures.below; normal = subst IsNormal (sym c.in_ok-byte.ensures.tree) tt } in
    let place : c.put_term.new.self.place ≡ s.place = c.in_ok-put_term.ensures.place in
    let more : c.args.count - c.loop-k._k ≡ suc (c.args.count - (c.loop-k._k + 1)) = omega arith in
    let next : c.put_term.new.self.place + 1 ≡ suc s.place = omega arith in (
      placed_state c.input.new.self c.put_term.new.self (c.put_term.new.self.place + 1) (c.in_ok-put_term.ensures.state c.input.new.self state byte),
      further c.args.arena.now c.loop-k.arena c.input.new.self c.loop-k.invariant.1 keeps,
      omega (arith, c.loop-k.invariant.2),
      (λ i. (c.in_ok-put_term.ensures.terms c.input.new.self i).registers)
          ∙ (λ i. (grown_terms c.loop-k.arena c.input.new.self s keeps c.loop-k.invariant.0 i).registers)
          ∙ c.loop-k.invariant.3,
      c.in_ok-put_term.ensures.memory ∙ c.loop-k.invariant.4,
      let grown = grown_terms c.loop-k.arena c.input.new.self s keeps c.loop-k.invariant.0 in
          let after = (λ i. (c.in_ok-put_term.ensures.terms c.input.new.self i).bytes) ∙ (λ i. with_tree (grown i).bytes c.loop-k.at (c.in_ok-byte.ensures.tree i)) in
          (λ i. put_trees (terms_of c.input.new.self c.put_term.new.self).bytes (next_address c.loop-k.at) (input_terms (next i) (c.args.count - (c.loop-k._k + 1))))
          ∙ next_input (terms_of c.loop-k.arena s).bytes (terms_of c.input.new.self c.put_term.new.self).bytes
          (put_trees (terms_of c.args.arena.now c.args.self.now).bytes c.args.address (input_terms c.args.self.now.place c.args.count))
          c.loop-k.at s.place (c.args.count - c.loop-k._k) (c.args.count - (c.loop-k._k + 1)) c.loop-k.invariant.5 more after,
    )

pub returns-clause-terms : goal.returns-clause-terms
returns-clause-terms c =
    let s = c.loop-k.self in
    let none : c.args.count - c.loop-k._k ≡ 0 = omega (arith, c.loop-k-test.false) in
    let place : s.place ≡ c.args.self.now.place + c.args.count = omega (arith, c.loop-k.invariant.2, c.loop-k-test.false, c.loop-k.auto._k-end) in
    let bytes = no_input (terms_of c.loop-k.arena s).bytes (put_trees (terms_of c.args.arena.now c.args.self.now).bytes c.args.address (input_terms c.args.self.now.place c.args.count))
    c.loop-k.at s.place (c.args.count - c.loop-k._k) c.loop-k.invariant.5 none in
    (λ i. record { registers = c.loop-k.invariant.3 i; bytes = bytes i; place = place i; cells = without_bytes (c.loop-k.invariant.4 i).map; heap = (c.loop-k.invariant.4 i).heap })
