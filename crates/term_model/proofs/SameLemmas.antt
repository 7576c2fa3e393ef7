-- The test for equal trees.
use Rattle.std.proofs.Common.{◌≡◌, ℕ, Bool, true, false, ◌&&◌, nat_eq, refl, ap, sym, ◌∙◌, arith, rules}
use Rattle.std.proofs.lemmas.Bool.Decides.{nat_tests}
use Rattle.std.specs.declared.cmp.Ordering.TheVariants.{Equal}
use Rattle.std.specs.Ordering.{is_eq}
use denote.Enum.Bare.{same_true}
use Rattle.rv_word.specs.declared.AluOp.{AluOp}
use Rattle.rv_word.specs.contracts.AluOp.{the_type}
use Rattle.rv_word.specs.contracts.AluOpPartialEq.TheImpl as alu_eq
use Rattle.rv_word.specs.declared.AluOp.TheVariants.{Add, Sub, Sll, Slt, Sltu, Xor, Srl, Sra, Or, And, Mul, Mulh, Mulhsu, Mulhu, Div, Divu, Rem, Remu}
use Rattle.term_model.specs.declared.Op.{Op}
use Rattle.term_model.specs.declared.Op.TheVariants.{Alu, Eq, Byte, Pair, Half}
use Rattle.term_model.specs.contracts.OpPartialEq.TheImpl as op_eq
use Rattle.term_model.specs.Tree.{Tree, Const, Input, Apply}
use Rattle.term_model.specs.Order.{op_cmp, op_ties}
use Rattle.term_model.specs.Same.{same_tree}

pub both : (s t : Bool) → (s && t) ≡ true → (s ≡ true) × (t ≡ true)
both true t e = (refl, e)
both false t e = cc

alu_same : (f g : AluOp) → (alu_eq.ghosts).eq f g ≡ true → f ≡ g
alu_same f g e = same_true the_type (search rules) f g e

alu_itself : (f : AluOp) → (alu_eq.ghosts).eq f f ≡ true
alu_itself Add = refl
alu_itself Sub = refl
alu_itself Sll = refl
alu_itself Slt = refl
alu_itself Sltu = refl
alu_itself Xor = refl
alu_itself Srl = refl
alu_itself Sra = refl
alu_itself Or = refl
alu_itself And = refl
alu_itself Mul = refl
alu_itself Mulh = refl
alu_itself Mulhsu = refl
alu_itself Mulhu = refl
alu_itself Div = refl
alu_itself Divu = refl
alu_itself Rem = refl
alu_itself Remu = refl

op_same : (f g : Op) → (op_eq.ghosts).eq f g ≡ true → f ≡ g
op_same (Alu f) (Alu g) e = ap Alu (alu_same f g e)
op_same Eq Eq e = refl
op_same Byte Byte e = refl
op_same Pair Pair e = refl
op_same Half Half e = refl
op_same f g e = cc

-- operations that compare as equal are equal
pub op_equal : (f g : Op) → op_cmp f g ≡ Equal → f ≡ g
op_equal f g e = op_same f g (op_ties f g ∙ ap is_eq e)

op_itself : (f : Op) → (op_eq.ghosts).eq f f ≡ true
op_itself (Alu f) = alu_itself f
op_itself Eq = refl
op_itself Byte = refl
op_itself Pair = refl
op_itself Half = refl

number_same : (c d : ℕ) → nat_eq c d ≡ true → c ≡ d
number_same c d e = grind (arith, nat_tests)

number_itself : (c : ℕ) → nat_eq c c ≡ true
number_itself c = grind (arith, nat_tests)

pub trees_same : (x y : Tree) → same_tree x y ≡ true → x ≡ y
unfolding same_tree
trees_same (Const c) (Const d) e = ap Const (number_same c d e)
trees_same (Input i) (Input j) e = ap Input (number_same i j e)
trees_same (Apply f a b) (Apply g c d) e =
    let h = both ((op_eq.ghosts).eq f g) (same_tree a c && same_tree b d) e in
    let k = both (same_tree a c) (same_tree b d) h.1 in
    let first : f ≡ g = op_same f g h.0 in
    let second : a ≡ c = trees_same a c k.0 in
    let third : b ≡ d = trees_same b d k.1 in
    cc
trees_same x y e = cc

pub tree_itself : (x : Tree) → same_tree x x ≡ true
unfolding same_tree
tree_itself (Const c) = number_itself c
tree_itself (Input i) = number_itself i
tree_itself (Apply f a b) = rw (op_itself f, tree_itself a) (tree_itself b)

-- the test by another that tells the same
pub same_tree_is : (x y : Tree) (b : Bool) → (b ≡ true → x ≡ y) → (x ≡ y → b ≡ true) → same_tree x y ≡ b
same_tree_is x y b f g = by_value (same_tree x y) b refl refl
  where
    by_value : (s t : Bool) → same_tree x y ≡ s → b ≡ t → same_tree x y ≡ b
    by_value true t h k = h ∙ sym (g (trees_same x y h))
    by_value false true h k = absurd (let e : same_tree x y ≡ true = rw (← f k) (tree_itself x) in let z : true ≡ false = sym e ∙ h in cc)
    by_value false false h k = h ∙ sym k
