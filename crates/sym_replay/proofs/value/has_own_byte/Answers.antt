use Rattle.std.proofs.Common.{◌≡◌, ◌∙◌, sym, ap, arith}
use Rattle.term_model.specs.declared.Op.TheVariants.{Byte}
use Rattle.term_model.specs.Tree.{Const}
use Rattle.normal_form.specs.Norm.{norm}
use Rattle.sym_replay.specs.Values.{value_tree}
use Rattle.sym_replay.proofs.ValueLemmas.{own_byte}
use Rattle.sym_replay.proofs.value.has_own_byte.Goals as goal

pub returns-in-Term : goal.returns-in-Term
returns-in-Term c e =
    let trees = c.args.arena.now in
    let zero : c.args.k ≡ 0 = omega (arith, c.if-k-ne0.false) in
    (λ i. norm Byte (value_tree trees (c.in-Term.is i)) (Const (zero i))) ∙ own_byte _ (c.is_own_byte.ensures e) ∙ sym (ap (value_tree trees) c.in-Term.is)
