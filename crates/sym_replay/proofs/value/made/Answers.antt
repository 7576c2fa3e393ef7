use Rattle.std.proofs.Common.{◌∙◌, sym, ap, arith}
use Rattle.term_model.specs.Tree.{Const}
use Rattle.normal_form.specs.Norm.{norm}
use Rattle.sym_replay.specs.Values.{value_tree}
use Rattle.sym_replay.proofs.ValueLemmas.{folded}
use Rattle.sym_replay.proofs.value.made.Goals as goal

pub returns-in-Some-clause-value : goal.returns-in-Some-clause-value
returns-in-Some-clause-value c =
    let trees = c.args.arena.now in
    let known = c.in-Some.ensures in
    record {
      within = omega arith;
      is = ap Const c.value.ensures.value ∙ sym (folded c.args.op _ _) ∙ sym (λ i. norm c.args.op (value_tree trees (known.0 i)) (value_tree trees (known.1 i)));
    }
