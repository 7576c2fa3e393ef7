-- Truth terms: comparisons, and single bits.
use Rattle.std.specs.Prelude.{Bool, true, false, nat_eq}
use Rattle.rv_word.specs.declared.AluOp.TheVariants.{Slt, Sltu, And}
use Rattle.term_model.specs.declared.Op.TheVariants.{Alu, Eq}
use Rattle.term_model.specs.Tree.{Tree, Const, Apply}

-- the term is a comparison, or a bit taken with the constant 1
abbrev pub is_truth : Tree → Bool
is_truth (Apply Eq a b) = true
is_truth (Apply (Alu Slt) a b) = true
is_truth (Apply (Alu Sltu) a b) = true
is_truth (Apply (Alu And) a (Const c)) = nat_eq c 1
is_truth t = false
