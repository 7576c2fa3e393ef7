-- Terms on the stack stay operands where terms are added.
use Rattle.std.proofs.Common.{ℕ, List, Bool, arith}
use Rattle.std.specs.Prelude.{All}
use Rattle.term_model.specs.Tree.{Tree}
use Rattle.term_arena.specs.Trees.{Extends}
use Rattle.term_tests.specs.Operands.{IsOperand}

operand_stays : (is_normal : Bool) (old new : List Tree) (t : ℕ) → Extends old new → IsOperand is_normal old t → IsOperand is_normal new t
operand_stays is_normal old new t keeps ok = record {
  below = let before = ok.below in let longer = keeps.longer in omega arith;
  normal = λ e. rw (keeps.same t ok.below) (ok.normal e);
}

pub operands_stay : (is_normal : Bool) (old new : List Tree) (terms : List ℕ) → Extends old new → All (IsOperand is_normal old) terms → All (IsOperand is_normal new) terms
operands_stay is_normal old new terms keeps all k d l = operand_stays is_normal old new _ keeps (all k d l)
