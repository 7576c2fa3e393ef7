-- Sums with a constant, and terms with what holds of them.
use Rattle.std.specs.Prelude.{◌≡◌, ℕ, ◌<◌, ◌%◌, ◌==◌, if◌then◌else◌, List, length, Option, Some, None}
use Rattle.rv_word.specs.declared.AluOp.TheVariants.{Add}
use Rattle.term_model.specs.declared.Op.TheVariants.{Alu}
use Rattle.term_model.specs.Tree.{Tree, Const, Apply}
use Rattle.term_arena.specs.Trees.{tree_of}
use Rattle.normal_form.specs.Normal.{IsNormal}
use Rattle.path_condition.specs.declared.forms.Sum.{Sum}

-- the constant that a term is
abbrev pub constant_of : Tree → Option ℕ
constant_of (Const c) = Some c
constant_of t = None

-- a term and the constant that is added to it
abbrev pub sum_of : Tree → Option (Tree × ℕ)
sum_of (Apply (Alu Add) t (Const c)) = Some (t, c)
sum_of t = None

-- the same, where the constant is even
abbrev pub even_sum_of : Tree → Option (Tree × ℕ)
even_sum_of (Apply (Alu Add) t (Const c)) = if c % 2 == 0 then Some (t, c) else None
even_sum_of t = None

-- a term and a word, with the term's tree
abbrev pub named : List Tree → Sum → Tree × ℕ
named trees s = (tree_of trees s.term, s.word)

-- a term of the arena, with this tree, which is normal
pub record IsNormalTermOf (trees : List Tree) (tree : Tree) (t : ℕ) : Type 0 where
  pub belongs : t < length trees
  pub is : tree_of trees t ≡ tree
  pub normal : IsNormal tree
