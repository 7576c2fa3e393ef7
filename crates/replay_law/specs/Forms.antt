-- The forms that conditions have. `made` makes each term; `byte_of k v` is byte k of the number v.
use Rattle.std.specs.Prelude.{ℕ, ◌+◌, ◌-◌, ◌%◌, ◌^◌, ◌==◌, List, [], ◌∷◌, ◌++◌, ◌||◌, Bool, true, false, if◌then◌else◌}
use Rattle.std.specs.List.{list_any}
use Rattle.rv_word.specs.declared.AluOp.TheVariants.{Add, And, Slt, Sltu}
use Rattle.rv_word.specs.Word.{byte_of}
use Rattle.rv_decode.specs.declared.instr.Cond.{Cond}
use Rattle.rv_decode.specs.declared.instr.Cond.TheVariants as conds
use Rattle.term_model.specs.declared.Op.TheVariants.{Alu, Eq, Byte}
use Rattle.term_model.specs.Tree.{Tree, Const, Apply}
use Rattle.term_model.specs.Same.{same_tree}
use Rattle.replay_law.specs.Making.{Making}

-- ---- lists of conditions

-- conditions with another: the constant 1, and a term that is there, add nothing
abbrev pub with_condition : List Tree → Tree → List Tree
with_condition ts t = if same_tree t (Const 1) || list_any (same_tree t) ts then ts else ts ++ t ∷ []

-- conditions with more, one after the other
unfoldable pub with_conditions : List Tree → List Tree → List Tree
with_conditions ts [] = ts
with_conditions ts (t ∷ more) = with_conditions (with_condition ts t) more

-- ---- equal terms

-- byte k of a term
abbrev pub byte_term : Making → ℕ → Tree → Tree
byte_term made k t = made Byte t (Const k)

-- byte k of two terms is the same
abbrev pub same_byte : Making → Tree → Tree → ℕ → Tree
same_byte made a b k = made Eq (byte_term made k a) (byte_term made k b)

-- two terms are equal, byte by byte
abbrev pub equal : Making → Tree → Tree → List Tree
equal made a b = same_byte made a b 0 ∷ same_byte made a b 1 ∷ same_byte made a b 2 ∷ same_byte made a b 3 ∷ []

-- ---- pins: a term has a value

-- byte k of a term is that of a number
abbrev pub byte_is : Making → Tree → ℕ → ℕ → Tree
byte_is made t v k = made Eq (byte_term made k t) (Const (byte_of k v))

-- a term has a value, byte by byte
abbrev pub bytes_are : Making → Tree → ℕ → List Tree
bytes_are made t v = byte_is made t v 0 ∷ byte_is made t v 1 ∷ byte_is made t v 2 ∷ byte_is made t v 3 ∷ []

-- a word without a constant that was added to it
abbrev pub difference : ℕ → ℕ → ℕ
difference v c = (v + (2 ^ 32 - c)) % 2 ^ 32

-- a term has a value: an added constant is taken off first
abbrev pub pin : Making → Tree → ℕ → List Tree
pin made (Apply (Alu Add) t (Const c)) v = pin made t (difference v c)
pin made t v = bytes_are made t v

-- ---- targets of JALR: a sum has a value once its lowest bit is cleared

-- the lowest byte of the sum is that of the target, its lowest bit aside; the others are the target's
abbrev pub target_bytes : Making → Tree → ℕ → List Tree
target_bytes made s v =
    made Eq (made (Alu And) (byte_term made 0 s) (Const 0xfe)) (Const (byte_of 0 v)) ∷ byte_is made s v 1 ∷ byte_is made s v 2 ∷ byte_is made s v 3 ∷ []

-- a sum is a target once its lowest bit is cleared: an added even constant is taken off first
abbrev pub target : Making → Tree → ℕ → List Tree
target made (Apply (Alu Add) t (Const c)) v = if c % 2 == 0 then target made t (difference v c) else target_bytes made (Apply (Alu Add) t (Const c)) v
target made t v = target_bytes made t v

-- ---- outcomes of branches

-- a truth term is 0
abbrev pub fails : Making → Tree → List Tree
fails made t = made Eq t (Const 0) ∷ []

-- a truth term is 1
abbrev pub succeeds : Tree → List Tree
succeeds t = t ∷ []

-- a branch on two terms was taken, or was not
abbrev pub branch_conditions : Making → Cond → Tree → Tree → Bool → List Tree
branch_conditions made conds.Eq a b true = equal made a b
branch_conditions made conds.Eq a b false = fails made (made Eq a b)
branch_conditions made conds.Ne a b true = fails made (made Eq a b)
branch_conditions made conds.Ne a b false = equal made a b
branch_conditions made conds.Lt a b true = succeeds (made (Alu Slt) a b)
branch_conditions made conds.Lt a b false = fails made (made (Alu Slt) a b)
branch_conditions made conds.Ge a b true = fails made (made (Alu Slt) a b)
branch_conditions made conds.Ge a b false = succeeds (made (Alu Slt) a b)
branch_conditions made conds.Ltu a b true = succeeds (made (Alu Sltu) a b)
branch_conditions made conds.Ltu a b false = fails made (made (Alu Sltu) a b)
branch_conditions made conds.Geu a b true = fails made (made (Alu Sltu) a b)
branch_conditions made conds.Geu a b false = succeeds (made (Alu Sltu) a b)
