use Rattle.std.proofs.Common.{arith}
use Rattle.std.proofs.lemmas.Bool.{ltb-true}
use Rattle.sym_replay.proofs.StateLemmas.{none_outside}
use Rattle.sym_replay.proofs.state.ReplayState.is_beside_terms.Goals as goal

pub returns-then-self-address-clause-none : goal.returns-then-self-address-clause-none
returns-then-self-address-clause-none c e within a from to =
    let s = c.args.self.now in
    none_outside s.bytes s.lowest s.highest a within (λ l h. omega (arith, c.if-self-address.true, from, to, l, h))

pub returns-clause-none : goal.returns-clause-none
returns-clause-none c e within a from to =
    let s = c.args.self.now in
    none_outside s.bytes s.lowest s.highest a within (λ l h. omega (arith, ltb-true _ s.lowest e, from, to, l, h))
