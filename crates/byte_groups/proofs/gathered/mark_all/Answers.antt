use Rattle.std.proofs.Common.{◌≡◌, ℕ, ◌<◌, ◌≤◌, Bool, length, get_or, subst, sym, ◌∙◌, ap, arith, ⊎_elim, inl, inr}
use Rattle.std.proofs.lemmas.Bool.{cases_lt}
use Rattle.reached_terms.specs.Reached.{OperandsPass}
use Rattle.byte_groups.specs.Gathered.{ReadsMarked, is_marked}
use Rattle.byte_groups.specs.Joined.{ReadsUpTo}
use Rattle.byte_groups.proofs.LeafLemmas.{any_default, by_operands}
use Rattle.byte_groups.proofs.gathered.mark_all.Goals as goal

pub mark-requires-clause-belongs : goal.mark-requires-clause-belongs
mark-requires-clause-belongs c = c.requires.reached.1.belong c.t-item.result (c.loop-t.t-index, c.loop-t-test.true, sym c.t-item.is)

pub mark-requires-clause-within : goal.mark-requires-clause-within
mark-requires-clause-within c =
    let same : length c.loop-t.marks ≡ length c.args.marks.now = omega arith in
    subst (λ (n : ℕ). ReadsUpTo c.args.arena.now n c.t-item.result) (sym same) (c.requires.within c.t-item.result (c.loop-t.t-index, c.loop-t-test.true, sym c.t-item.is))

pub loop-t-preserved : goal.loop-t-preserved
loop-t-preserved c = record {
  sound = λ i m. elim (c.mark.ensures.sound i m) [
    | inl before ↦ c.loop-t.invariant.sound i before
    | inr r ↦ (c.t-item.result, (c.loop-t.t-index, c.loop-t-test.true, sym c.t-item.is), r)
  ];
  all = λ j d l among h up. ⊎_elim
      (λ (less : j < c.loop-t.t-index). c.loop-t.invariant.all j d less among (λ i m. h i (c.mark.ensures.keeps i m)) up)
      (λ (more : c.loop-t.t-index ≤ j).
      let e : j ≡ c.loop-t.t-index = omega arith in
      let at : get_or c.args.terms.now j d ≡ c.t-item.result = ap (λ i. get_or c.args.terms.now i d) e ∙ (any_default c.args.terms.now c.loop-t.t-index d c.t-item.result c.loop-t-test.true ∙ sym c.t-item.is) in
      let P : ℕ → Type 0 = λ u. OperandsPass c.args.arena.now (ReadsMarked c.args.arena.now among) u → ReadsMarked c.args.arena.now among u in
      subst P (sym at) (c.mark.ensures.all among h) up)
      (cases_lt j c.loop-t.t-index);
}

pub returns : goal.returns
returns c = λ i.
    let among : ℕ → Bool = is_marked c.loop-t.marks in
    let all = by_operands c.args.arena.now c.requires.reached.0 c.args.terms.now c.requires.reached.1 (ReadsMarked c.args.arena.now among) (λ t (j, in', e).
    let P : ℕ → Type 0 = λ u. OperandsPass c.args.arena.now (ReadsMarked c.args.arena.now among) u → ReadsMarked c.args.arena.now among u in
    subst P e (c.loop-t.invariant.all j t (omega arith) among (λ i m. m))) in
    (λ m. c.loop-t.invariant.sound i m, λ (t, h, r). all t h i r)
