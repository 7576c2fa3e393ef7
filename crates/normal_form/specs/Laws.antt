-- What each rule keeps, and what the table as a whole fixes.
use Rattle.std.specs.Prelude.{◌≡◌, ℕ, ◌<◌, List, None, IfSome}
use Rattle.term_model.specs.declared.Op.{Op}
use Rattle.term_model.specs.Tree.{Tree, Apply}
use Rattle.term_model.specs.Value.{op_value, val}
use Rattle.term_model.specs.Words.{AreBytes}
use Rattle.normal_form.specs.Plan.{Plan, Is, Make, Rule}
use Rattle.normal_form.specs.ArithmeticRules.{constant_to_the_right, reduce_shift_amount}
use Rattle.normal_form.specs.Rules.{first_rule}
use Rattle.normal_form.specs.Norm.{weight, plan_weight, after_rule}
use Rattle.normal_form.specs.Normal.{IsNormal}
use Rattle.term_model.specs.ByteNumber.{TakesByteNumber}

-- the value of what a plan writes
abbrev pub plan_value : Plan → List ℕ → ℕ
plan_value (Is t) input = val t input
plan_value (Make op p q) input = op_value op (plan_value p input) (plan_value q input)

-- the operands are normal, and the input is bytes
pub record AreNormalOperands (op : Op) (a b : Tree) (input : List ℕ) : Type 0 where
  pub first : IsNormal a
  pub second : IsNormal b
  pub byte : TakesByteNumber op b
  pub bytes : AreBytes input

-- what the rule writes has the value of the operation
abbrev pub KeepsValue : Rule → Type 0
KeepsValue rule =
    (op : Op) (a b : Tree) (input : List ℕ) → AreNormalOperands op a b input
    → IfSome (rule op a b) (λ p. plan_value p input ≡ op_value op (val a input) (val b input))

-- the same, where the second operand is no shift amount above 31
abbrev pub KeepsValueOfReducedShift : Rule → Type 0
KeepsValueOfReducedShift rule =
    (op : Op) (a b : Tree) (input : List ℕ) → AreNormalOperands op a b input → reduce_shift_amount op a b ≡ None
    → IfSome (rule op a b) (λ p. plan_value p input ≡ op_value op (val a input) (val b input))

-- what the rule writes is lighter than the operation
abbrev pub LowersWeight : Rule → Type 0
LowersWeight rule = (op : Op) (a b : Tree) → IfSome (rule op a b) (λ p. plan_weight p < weight (Apply op a b))

-- the operation again, as heavy as before, where no rule that keeps the weight fits
pub record IsSettled (op : Op) (a b : Tree) (p : Plan) : Type 0 where
  pub left : Tree
  pub right : Tree
  pub plan : p ≡ Make op (Is left) (Is right)
  pub weighs : plan_weight p ≡ weight (Apply op a b)
  pub not_turned : constant_to_the_right op left right ≡ None
  pub not_reduced : reduce_shift_amount op left right ≡ None

-- the rule keeps the weight, and neither it nor the other rule that does so fits its result
abbrev pub Settles : Rule → Type 0
Settles rule = (op : Op) (a b : Tree) → IfSome (rule op a b) (IsSettled op a b)

-- `made` applies the table, and applies it again to each operation that the first rule writes, the inner one first;
-- where no rule fits, the operation stays
abbrev pub FollowsTable : (Op → Tree → Tree → Tree) → Type 0
FollowsTable made = (op : Op) (a b : Tree) → made op a b ≡ after_rule made op a b (first_rule op a b)
