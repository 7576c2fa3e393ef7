use Rattle.std.proofs.Common.{◌≡◌, ℕ, ◌<◌, ◌≤◌, get_or, subst, sym, ◌∙◌, ap, arith, ⊎_elim}
use Rattle.std.proofs.lemmas.Bool.{cases_lt}
use Rattle.reached_terms.specs.Reached.{OperandsPass}
use Rattle.byte_groups.specs.Joined.{ReadsUpTo}
use Rattle.byte_groups.proofs.LeafLemmas.{any_default, by_operands}
use Rattle.byte_groups.proofs.joined.width_of.Goals as goal

pub end_of-requires : goal.end_of-requires
end_of-requires c = c.requires.1.belong c.t-item.result (c.loop-t.t-index, c.loop-t-test.true, sym c.t-item.is)

pub loop-t-preserved : goal.loop-t-preserved
loop-t-preserved c = record {
  above = λ j d l n up. ⊎_elim
      (λ (less : j < c.loop-t.t-index). c.loop-t.invariant.above j d less n (omega arith))
      (λ (more : c.loop-t.t-index ≤ j).
      let e : j ≡ c.loop-t.t-index = omega arith in
      let at : get_or c.args.terms.now j d ≡ c.t-item.result = ap (λ i. get_or c.args.terms.now i d) e ∙ (any_default c.args.terms.now c.loop-t.t-index d c.t-item.result c.loop-t-test.true ∙ sym c.t-item.is) in
      let P : ℕ → Type 0 = λ u. OperandsPass c.args.arena.now (ReadsUpTo c.args.arena.now n) u → ReadsUpTo c.args.arena.now n u in
      subst P (sym at) (c.end_of.ensures.above n (omega arith)))
      (cases_lt j c.loop-t.t-index);
  small = omega arith;
}

pub returns-clause-above : goal.returns-clause-above
returns-clause-above c = by_operands c.args.arena.now c.requires.0 c.args.terms.now c.requires.1 (ReadsUpTo c.args.arena.now c.loop-t.width) (λ t (j, in', e).
    let P : ℕ → Type 0 = λ u. OperandsPass c.args.arena.now (ReadsUpTo c.args.arena.now c.loop-t.width) u → ReadsUpTo c.args.arena.now c.loop-t.width u in
    subst P e (c.loop-t.invariant.above j t (omega arith) c.loop-t.width (omega arith)))
