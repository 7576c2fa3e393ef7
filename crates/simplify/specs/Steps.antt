-- The steps in which a normal form is made: one rule each.
use Rattle.std.specs.Prelude.{◌≡◌, ℕ, ◌<◌, List, length}
use Rattle.term_model.specs.declared.Op.{Op}
use Rattle.term_model.specs.declared.Op.TheVariants.{Eq}
use Rattle.term_model.specs.Tree.{Tree, Const}
use Rattle.term_arena.specs.Trees.{tree_of, Extends}
use Rattle.normal_form.specs.Norm.{norm, measure}
use Rattle.simplify.specs.declared.steps.Step.{Step}
use Rattle.simplify.specs.declared.steps.Step.TheVariants as step

-- the term is the normal form of the operation on two trees
pub record IsMade (trees : List Tree) (op : Op) (a b : Tree) (t : ℕ) : Type 0 where
  pub below : t < length trees
  pub tree : tree_of trees t ≡ norm op a b

-- a rule leads from the operation on two trees to one on two terms, of the same normal form
pub record LeadsTo (trees : List Tree) (op : Op) (a b : Tree) (next : Op) (s t : ℕ) : Type 0 where
  pub first : s < length trees
  pub second : t < length trees
  pub same : norm next (tree_of trees s) (tree_of trees t) ≡ norm op a b
  pub lower : measure next (tree_of trees s) (tree_of trees t) < measure op a b

-- a rule leads from the operation on two trees to Eq(Eq(t, 0), 0), of the same normal form
pub record LeadsToNotZero (trees : List Tree) (op : Op) (a b : Tree) (t : ℕ) : Type 0 where
  pub below : t < length trees
  pub same : norm Eq (norm Eq (tree_of trees t) (Const 0)) (Const 0) ≡ norm op a b

-- what a step leads to
abbrev pub IsStep : List Tree → Op → Tree → Tree → Step → Type 0
IsStep trees op a b (step.Made t) = IsMade trees op a b t
IsStep trees op a b (step.Next next s t) = LeadsTo trees op a b next s t
IsStep trees op a b (step.NotZero t) = LeadsToNotZero trees op a b t

-- a step that stays with equalities
abbrev pub IsEqualityStep : Step → Type 0
IsEqualityStep (step.Made t) = Unit {0}
IsEqualityStep (step.Next next s t) = next ≡ Eq
IsEqualityStep (step.NotZero t) = ⊥

-- after some steps: an operation on two terms of the same normal form, and all earlier terms as they were
pub record IsOnTheWay (old now : List Tree) (op : Op) (a b : Tree) (next : Op) (s t : ℕ) : Type 0 where
  pub first : s < length now
  pub second : t < length now
  pub same : norm next (tree_of now s) (tree_of now t) ≡ norm op a b
  pub keeps : Extends old now
