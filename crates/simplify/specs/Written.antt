-- What a rule's answer in code stands for.
use Rattle.std.specs.Prelude.{ℕ, ◌<◌, List, Option, IfSome, option_map}
use Rattle.term_model.specs.declared.Op.TheVariants.{Eq}
use Rattle.term_model.specs.Tree.{Tree, Const}
use Rattle.term_arena.specs.Trees.{tree_of}
use Rattle.normal_form.specs.Plan.{Plan, Is, Make, with_constant}
use Rattle.simplify.specs.declared.written.Written.{Written}
use Rattle.simplify.specs.declared.written.Written.TheVariants as written

-- the plan that an answer stands for, over the trees of the terms that it names
abbrev pub plan_of : List Tree → Written → Plan
plan_of trees (written.Known t) = Is (tree_of trees t)
plan_of trees (written.Constant c) = Is (Const c)
plan_of trees (written.Operation op s t) = Make op (Is (tree_of trees s)) (Is (tree_of trees t))
plan_of trees (written.WithConstant op t c) = with_constant op (tree_of trees t) c
plan_of trees (written.NotZero t) = Make Eq (with_constant Eq (tree_of trees t) 0) (Is (Const 0))

-- the plan of an answer, where there is one
abbrev pub planned : List Tree → Option Written → Option Plan
planned trees o = option_map (plan_of trees) o

-- the terms that an answer names are among the first n
abbrev pub IsBelow : ℕ → Written → Type 0
IsBelow n (written.Known t) = t < n
IsBelow n (written.Constant c) = Unit {0}
IsBelow n (written.Operation op s t) = (s < n) × (t < n)
IsBelow n (written.WithConstant op t c) = t < n
IsBelow n (written.NotZero t) = t < n

-- so are those of an answer, where there is one
abbrev pub AreBelow : ℕ → Option Written → Type 0
AreBelow n o = IfSome o (IsBelow n)
