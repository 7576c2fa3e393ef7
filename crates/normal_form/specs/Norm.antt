-- The normal form of an operation on two terms.
use Rattle.std.specs.Prelude.{ℕ, zero, suc, ◌+◌, ◌*◌, Bool, false, not, ◌&&◌, ◌||◌, if◌then◌else◌, nat_lt, Option, Some, None}
use Rattle.rv_word.specs.declared.AluOp.TheVariants.{Sub, Sltu}
use Rattle.term_model.specs.declared.Op.{Op}
use Rattle.term_model.specs.declared.Op.TheVariants.{Alu, Pair}
use Rattle.term_model.specs.Tree.{Tree, Const, Input, Apply, is_const}
use Rattle.normal_form.specs.Plan.{Plan, Is, Make}
use Rattle.normal_form.specs.ArithmeticRules.{commutes, is_shift}
use Rattle.normal_form.specs.Rules.{first_rule}

-- a plan carried out, where `made` says what each operation gives
abbrev pub carried_out : (Op → Tree → Tree → Tree) → Plan → Tree
carried_out made (Is t) = t
carried_out made (Make op p q) = made op (carried_out made p) (carried_out made q)

-- what a rule's plan gives, or the operation itself
abbrev pub after_rule : (Op → Tree → Tree → Tree) → Op → Tree → Tree → Option Plan → Tree
after_rule made op a b None = Apply op a b
after_rule made op a b (Some p) = carried_out made p

-- at most n rules, one within another
unfoldable pub norm_within : ℕ → Op → Tree → Tree → Tree
norm_within zero op a b = Apply op a b
norm_within (suc n) op a b = after_rule (norm_within n) op a b (first_rule op a b)

-- what an operation weighs without its operands
abbrev pub op_weight : Op → ℕ
op_weight (Alu Sltu) = 4
op_weight (Alu Sub) = 2
op_weight Pair = 2
op_weight op = 1

-- what the rules lower: a constant and an input byte weigh 1
abbrev pub weight : Tree → ℕ
weight (Const c) = 1
weight (Input i) = 1
weight (Apply op a b) = op_weight op + weight a + weight b

-- the weight of what a plan writes, with nothing made smaller
abbrev pub plan_weight : Plan → ℕ
plan_weight (Is t) = weight t
plan_weight (Make op p q) = op_weight op + plan_weight p + plan_weight q

-- The normal form: rules are applied until none fits, and twice the weight is more than they can be.
-- `normal_form_follows_the_table` says the same with no bound.
unfoldable pub norm : Op → Tree → Tree → Tree
norm op a b = norm_within (2 * weight (Apply op a b) + 2) op a b

-- a constant above 31
abbrev pub is_large : Tree → Bool
is_large (Const c) = nat_lt 31 c
is_large (Input i) = false
is_large (Apply op a b) = false

-- one of the two rules that keep the weight fits: a constant stands to the left, or shifts by more than 31
abbrev pub is_restless : Op → Tree → Tree → Bool
is_restless op a b = (commutes op && (is_const a && not (is_const b))) || (is_shift op && is_large b)

-- what every rule lowers
abbrev pub measure : Op → Tree → Tree → ℕ
measure op a b = 2 * weight (Apply op a b) + (if is_restless op a b then 1 else 0)
