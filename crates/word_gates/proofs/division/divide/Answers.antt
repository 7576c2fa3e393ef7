use Rattle.std.proofs.Common.{◌≡◌, ◌∙◌, ap, length-append, ℕ, ◌+◌, ◌-◌, ◌<◌, [], ◌∷◌, ◌++◌, length, rules, arith}
use Rattle.std.specs.Prelude.{replicate}
use Rattle.gate_net.specs.Lits.{AreNamed}
use Rattle.word_gates.proofs.NetLemmas.{lit_at, below_at, still}
use Rattle.word_gates.proofs.MoveLemmas.{no_lit}
use Rattle.word_gates.proofs.DivisionLemmas.{dividing_start, dividing_more}
use Rattle.word_gates.proofs.division.divide.Goals as goal

pub loop-done-init : goal.loop-done-init
loop-done-init c =
    let d : c.push.new.self.items ≡ c.args.b.now ++ no_lit ∷ [] = search rules in
    let l : c.in_ok-left.left.items ≡ replicate (length c.push.new.self.items) no_lit = search rules in
    rw c.new-quotient.ensures.items (dividing_start _ _ _ _ _ c.len-net.ensures.net.yes c.len-net.ensures.net.some c.requires.second d l)

pub step-requires-clause-left : goal.step-requires-clause-left
step-requires-clause-left c =
    let i : ℕ = length c.args.a.now - 1 - c.loop-done.done in
    let in_a : i < length c.args.a.now = omega arith in
    let bit = below_at (length c.args.net.now) c.args.a.now i c.requires.first in_a in
    let left : AreNamed (length c.loop-done.net) c.deref.result.now = rw c.deref.ensures.value c.loop-done.invariant.left_below in
    rw c.deref-in-loop-done-2.ensures.value (c.in_ok-shifted.ensures.below (length c.loop-done.net) (still c.args.net.now c.loop-done.net (lit_at c.args.a.now i) c.loop-done.invariant.keeps bit) left)

pub loop-done-preserved : goal.loop-done-preserved
loop-done-preserved c =
    let i : ℕ = length c.args.a.now - 1 - c.loop-done.done in
    let at : i + 1 + c.loop-done.done ≡ length c.args.a.now = omega arith in
    let ins : c.insert.new.self.items ≡ c.in_ok-made.made.fits ∷ c.loop-done.quotient.items = search rules in
    let e = simp c.deref.ensures.value at c.in_ok-shifted.ensures.trees in
    let w = rw c.deref.ensures.value at c.in_ok-shifted.ensures.width in
    let width = rw c.deref-in-loop-done-2.ensures.value at c.in_ok-made.ensures.left.width in
    let f = rw (c.deref-in-loop-done.ensures.value, c.deref-in-loop-done-2.ensures.value) at c.in_ok-made.ensures.fits.tree in
    let g = rw (c.deref-in-loop-done.ensures.value, c.deref-in-loop-done-2.ensures.value) at c.in_ok-made.ensures.left.trees in
    rw ins (dividing_more _ _ _ _ _ _ _ _ _ _ _ i _ c.loop-done.invariant c.requires.first c.requires.second at c.in_ok-made.ensures.keeps e w c.in_ok-made.ensures.fits.below c.in_ok-made.ensures.left.below width f g)

pub returns-clause-quotient : goal.returns-clause-quotient
returns-clause-quotient c =
    let all : 0 + c.loop-done.done ≡ length c.args.a.now = omega arith in
    let so = c.loop-done.invariant in
    record { below = so.quotient_below; trees = so.quotient_is 0 all; width = omega (arith, so.quotient_width, all) }

pub returns-clause-left : goal.returns-clause-left
returns-clause-left c =
    let all : 0 + c.loop-done.done ≡ length c.args.a.now = omega arith in
    let so = c.loop-done.invariant in
    record { below = so.left_below; trees = so.left_is 0 all; width = so.left_width ∙ ap length so.divisor_is ∙ length-append c.args.b.now (no_lit ∷ []) }
