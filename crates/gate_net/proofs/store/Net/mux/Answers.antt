use Rattle.std.proofs.Common.{◌≡◌, true, false, ap, sym, ◌∙◌, arith}
use Rattle.gate_model.specs.Makers.{and_gate, or_gate, mux_gate, negation}
use Rattle.gate_net.specs.Trees.{signed_of, AddsOnly, mux_trees}
use Rattle.gate_net.proofs.KeyLemmas.{lits_eq}
use Rattle.gate_net.proofs.RuleLemmas.{lit_yes, lit_no, mux_is}
use Rattle.gate_net.proofs.GrowthLemmas.{signed_of-extends, adds_one, adds_only, only_in_turns, first_branch, second_branch, whole_choice}
use Rattle.gate_net.proofs.store.Net.mux.Goals as goal
use Rattle.gate_net.proofs.store.Net.mux.Goals.{After-or}

pub returns-then-eq-clause-tree : goal.returns-then-eq-clause-tree
returns-then-eq-clause-tree c =
    let h0 : lits_eq c.args.c lit_yes ≡ true = sym c.eq.ensures ∙ c.if-eq.true in
    sym (rw h0 at (mux_is c.args.self.now c.len-net.ensures.net c.args.a c.args.b c.requires.first c.requires.second c.args.c c.requires.choice))

pub returns-then-eq-2-clause-tree : goal.returns-then-eq-2-clause-tree
returns-then-eq-2-clause-tree c =
    let h0 : lits_eq c.args.c lit_yes ≡ false = sym c.eq.ensures ∙ c.if-eq.false in
    let h1 : lits_eq c.args.c lit_no ≡ true = sym c.eq-2.ensures ∙ c.if-eq-2.true in
    sym (rw (h0, h1) at (mux_is c.args.self.now c.len-net.ensures.net c.args.a c.args.b c.requires.first c.requires.second c.args.c c.requires.choice))

pub returns-then-eq-3-clause-tree : goal.returns-then-eq-3-clause-tree
returns-then-eq-3-clause-tree c =
    let h0 : lits_eq c.args.c lit_yes ≡ false = sym c.eq.ensures ∙ c.if-eq.false in
    let h1 : lits_eq c.args.c lit_no ≡ false = sym c.eq-2.ensures ∙ c.if-eq-2.false in
    let h2 : lits_eq c.args.a c.args.b ≡ true = sym c.eq-3.ensures ∙ c.if-eq-3.true in
    sym (rw (h0, h1, h2) at (mux_is c.args.self.now c.len-net.ensures.net c.args.a c.args.b c.requires.first c.requires.second c.args.c c.requires.choice))

module _ (c : After-or) where
  -- the choice by gates, as no rule fits
  is : mux_gate (signed_of c.args.self.now c.args.c) (signed_of c.args.self.now c.args.a) (signed_of c.args.self.now c.args.b)
      ≡ or_gate (and_gate (signed_of c.args.self.now c.args.c) (signed_of c.args.self.now c.args.a)) (and_gate (negation (signed_of c.args.self.now c.args.c)) (signed_of c.args.self.now c.args.b))
  is =
      let h0 : lits_eq c.args.c lit_yes ≡ false = sym c.eq.ensures ∙ c.if-eq.false in
      let h1 : lits_eq c.args.c lit_no ≡ false = sym c.eq-2.ensures ∙ c.if-eq-2.false in
      let h2 : lits_eq c.args.a c.args.b ≡ false = sym c.eq-3.ensures ∙ c.if-eq-3.false in
      rw (h0, h1, h2) at (mux_is c.args.self.now c.len-net.ensures.net c.args.a c.args.b c.requires.first c.requires.second c.args.c c.requires.choice)

  -- the operands of the second branch, after the first was made
  choice : signed_of c.and.new.self c.not.result ≡ negation (signed_of c.args.self.now c.args.c)
  choice = c.not.ensures.tree c.and.new.self ∙ ap negation (signed_of-extends c.args.self.now c.and.new.self c.args.c c.and.ensures.keeps c.requires.choice)

  other : signed_of c.and.new.self c.args.b ≡ signed_of c.args.self.now c.args.b
  other = signed_of-extends c.args.self.now c.and.new.self c.args.b c.and.ensures.keeps c.requires.second

  -- the two branches, after both were made
  first : signed_of c.and-2.new.self c.in_ok-first.first ≡ and_gate (signed_of c.args.self.now c.args.c) (signed_of c.args.self.now c.args.a)
  first = signed_of-extends c.and.new.self c.and-2.new.self c.in_ok-first.first c.and-2.ensures.keeps c.in_ok-first.ensures.below ∙ c.in_ok-first.ensures.tree

  second : signed_of c.and-2.new.self c.in_ok-second.second ≡ and_gate (negation (signed_of c.args.self.now c.args.c)) (signed_of c.args.self.now c.args.b)
  second = rw (choice, other) at c.in_ok-second.ensures.tree

pub returns-clause-tree : goal.returns-clause-tree
returns-clause-tree c = rw (first c, second c, ← is c) at c.or.ensures.tree

pub returns-clause-only : goal.returns-clause-only
returns-clause-only c =
    let old = c.args.self.now in
    let choice_of = signed_of old c.args.c in
    let a = signed_of old c.args.a in
    let b = signed_of old c.args.b in
    let trees = mux_trees choice_of a b in
    let one : AddsOnly old trees c.and.new.self = adds_only trees old _ c.and.new.self (first_branch choice_of a b) c.and.ensures.adds in
    let two : AddsOnly c.and.new.self trees c.and-2.new.self = adds_only trees c.and.new.self _ c.and-2.new.self (second_branch choice_of a b) (rw (choice c, other c) at c.and-2.ensures.adds) in
    let three : AddsOnly c.and-2.new.self trees c.or.new.self = adds_only trees c.and-2.new.self _ c.or.new.self (whole_choice choice_of a b) (rw (first c, second c, ← is c) at c.or.ensures.adds) in
    only_in_turns trees old c.and-2.new.self c.or.new.self (only_in_turns trees old c.and.new.self c.and-2.new.self one c.and-2.ensures.keeps two) c.or.ensures.keeps three

pub returns-clause-adds : goal.returns-clause-adds
returns-clause-adds c =
    omega (arith, adds_one _ _ _ c.and.ensures.adds, adds_one _ _ _ c.and-2.ensures.adds, adds_one _ _ _ c.or.ensures.adds)
