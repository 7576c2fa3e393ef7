use Rattle.std.proofs.Common.{◌≡◌, IfOk, sym, subst}
use Rattle.term_model.specs.declared.Op.TheVariants.{Byte}
use Rattle.term_model.specs.Tree.{Const}
use Rattle.normal_form.specs.Norm.{norm}
use Rattle.sym_replay.specs.Values.{value_tree, IsValueOf}
use Rattle.sym_replay.proofs.value.byte_of_value.Goals as goal

pub returns-then-has_own_byte-clause-value : goal.returns-then-has_own_byte-clause-value
returns-then-has_own_byte-clause-value c = record { within = c.requires.value; is = sym (c.has_own_byte.ensures c.if-has_own_byte.true) }

pub returns-clause-value : goal.returns-clause-value
returns-clause-value c =
    let number : c.from.result ≡ c.args.k = cc in
    subst (λ k. IfOk c.made.result (IsValueOf c.made.new.arena (norm Byte (value_tree c.args.arena.now c.args.v.now) (Const k)))) number c.made.ensures.value
