-- Values of an arena that has grown, and operations on numbers.
use Rattle.std.proofs.Common.{◌≡◌, ℕ, suc, ◌+◌, ◌*◌, ◌<◌, ◌%◌, ◌&&◌, List, [], ◌∷◌, All, Bool, true, false, Option, refl, sym, ap, ◌∙◌, arith, subst, nat_eq}
use Rattle.std.specs.Int.{from_bool}
use Rattle.rv_word.specs.Word.{byte_of}
use Rattle.term_model.specs.declared.Op.{Op}
use Rattle.term_model.specs.declared.Op.TheVariants.{Eq, Byte}
use Rattle.term_model.specs.Tree.{Tree, Const, Input, Apply}
use Rattle.term_model.specs.ZeroBytes.{is_zero_byte, is_one_byte}
use Rattle.term_model.specs.Value.{op_value}
use Rattle.term_arena.specs.Trees.{Extends}
use Rattle.term_arena.specs.Mask.{mask_of}
use Rattle.normal_form.specs.Norm.{norm, after_rule}
use Rattle.normal_form.specs.Normal.{IsNormal}
use Rattle.normal_form.specs.Plan.{Plan, Is, only_if, or_else}
use Rattle.normal_form.specs.Rules.{first_rule, ordering_rules, arithmetic_rules, bitwise_rules, equality_rules, order_rules, byte_rules}
use Rattle.normal_form.proofs.NormLemmas.{norm-is}
use Rattle.path_condition.specs.Sums.{IsNormalTermOf}
use Rattle.sym_replay.specs.declared.value.Value.{Value}
use Rattle.sym_replay.specs.declared.value.Value.TheVariants.{Known, Term}
use Rattle.sym_replay.specs.Values.{value_tree, IsTermIn, IsValueIn, IsValueOf, IsOwnByte}
use Rattle.sym_replay.specs.States.{value_trees}

-- ---- an arena that has grown

-- a term
pub grown_term : (old new : List Tree) → Extends old new → (t : ℕ) → IsTermIn old t → IsTermIn new t
grown_term old new g t h = record { belongs = omega (arith, h.belongs, g.longer); normal = subst IsNormal (sym (g.same t h.belongs)) h.normal }

-- a value
pub grown_value : (old new : List Tree) → Extends old new → (v : Value) → IsValueIn old v → IsValueIn new v
grown_value old new g (Known w) h = h
grown_value old new g (Term t) h = grown_term old new g t h

-- its tree
pub grown_value_tree : (old new : List Tree) → Extends old new → (v : Value) → IsValueIn old v → value_tree new v ≡ value_tree old v
grown_value_tree old new g (Known w) h = refl
grown_value_tree old new g (Term t) h = g.same t h.belongs

-- a value of a tree
pub grown_value_of : (old new : List Tree) (tree : Tree) → Extends old new → (v : Value) → IsValueOf old tree v → IsValueOf new tree v
grown_value_of old new tree g v h = record { within = grown_value old new g v h.within; is = grown_value_tree old new g v h.within ∙ h.is }

-- the trees of values
pub grown_values : (old new : List Tree) → Extends old new → (vs : List Value) → All (IsValueIn old) vs → value_trees new vs ≡ value_trees old vs
grown_values old new g [] h = refl
grown_values old new g (v ∷ vs) h = (λ i. grown_value_tree old new g v (h 0 v (omega arith)) i ∷ grown_values old new g vs (λ k d lt. h (suc k) d (omega arith)) i)

-- an arena as it is
pub as_it_is : (trees : List Tree) → Extends trees trees
as_it_is trees = record { longer = omega arith; same = λ t lt. refl }

-- an arena that has grown twice
pub further : (old now new : List Tree) → Extends old now → Extends now new → Extends old new
further old now new g h = record { longer = omega (arith, g.longer, h.longer); same = λ t lt. h.same t (omega (arith, g.longer)) ∙ g.same t lt }

-- ---- trees of values

-- they are normal
pub normal_value : (trees : List Tree) (v : Value) → IsValueIn trees v → IsNormal (value_tree trees v)
normal_value trees (Known w) h = h
normal_value trees (Term t) h = h.normal

-- a term of the arena with a tree is a value of it
pub term_in : (trees : List Tree) (tree : Tree) (t : ℕ) → IsNormalTermOf trees tree t → IsTermIn trees t
term_in trees tree t h = record { belongs = h.belongs; normal = subst IsNormal (sym h.is) h.normal }

-- ---- operations on numbers

-- the normal form of an operation on two constants is the constant of its value
pub folded : (op : Op) (c d : ℕ) → norm op (Const c) (Const d) ≡ Const (op_value op c d)
unfolding first_rule ordering_rules
folded op c d = norm-is op (Const c) (Const d)

same_numbers : (x : ℕ) → nat_eq x x ≡ true
same_numbers x = grind arith

-- a number is equal to itself
pub same_number : (x : ℕ) → norm Eq (Const x) (Const x) ≡ Const 1
same_number x = folded Eq x x ∙ ap (λ b. Const (from_bool b)) (same_numbers x)

-- the byte of a number
pub byte_known : (w k : ℕ) → k < 4 → norm Byte (Const w) (Const k) ≡ Const (byte_of k w)
byte_known w k lt =
    let same : k % 4 ≡ k = omega arith in
    folded Byte w k ∙ ap (λ j. Const (byte_of j w)) same

-- ---- terms of one byte

-- the plan of the first two rules for bytes, where the second fits
second_fits : (lowest upper : Bool) (t : Tree) (more other : Option Plan) → lowest ≡ false → upper ≡ true → after_rule norm Byte t (Const 0) (or_else (or_else (only_if lowest (Is (Const 0))) (or_else (only_if upper (Is t)) more)) other) ≡ t
second_fits true upper t more other e f = cc
second_fits false true t more other e f = refl
second_fits false false t more other e f = cc

-- byte 0 of a term of one byte is the term
pub own_byte : (t : Tree) → IsOwnByte t → norm Byte t (Const 0) ≡ t
unfolding first_rule ordering_rules arithmetic_rules bitwise_rules equality_rules order_rules byte_rules
own_byte (Const c) own = let wrong : true ≡ false = own.no_constant in cc
own_byte (Input i) own = norm-is Byte (Input i) (Const 0)
own_byte (Apply op a b) own =
    norm-is Byte (Apply op a b) (Const 0) ∙ second_fits (is_zero_byte (Apply op a b) 0) (is_one_byte (Apply op a b)) (Apply op a b) _ _ own.lowest own.upper

-- a byte of the input is one
pub own_input : (place : ℕ) → IsOwnByte (Input place)
own_input place = record { no_constant = refl; lowest = refl; upper = refl }

-- the four bits of 14
bits_of_mask : (a b c d : Bool) → from_bool a + 2 * from_bool b + 4 * from_bool c + 8 * from_bool d ≡ 14 → (a ≡ false) × (b ≡ true) × (c ≡ true) × (d ≡ true)
bits_of_mask true b c d e = absurd (omega arith)
bits_of_mask false false c d e = absurd (omega arith)
bits_of_mask false true false d e = absurd (omega arith)
bits_of_mask false true true false e = absurd (omega arith)
bits_of_mask false true true true e = (refl, refl, refl, refl)

-- an operation whose upper bytes alone are known to be zero is one
pub own_operation : (op : Op) (a b : Tree) (mask : ℕ) → mask ≡ mask_of (is_zero_byte (Apply op a b)) → mask ≡ 14 → IsOwnByte (Apply op a b)
own_operation op a b mask is e =
    let t : Tree = Apply op a b in
    let bits = bits_of_mask (is_zero_byte t 0) (is_zero_byte t 1) (is_zero_byte t 2) (is_zero_byte t 3) (sym is ∙ e) in
    record { no_constant = refl; lowest = bits.0; upper = (λ i. bits.1 i && bits.2 i && bits.3 i) }
