-- The order of operations, for the keys of a map: as their variants are declared, an operation of the processor as in `AluOp`.
use Rattle.std.specs.Prelude.{◌≡◌, refl, ℕ}
use Rattle.std.specs.Ordering.{nat_cmp, eq_by_cmp, on, then_cmp}
use Rattle.std.specs.Cmp.{unsigned_ties}
use Rattle.std.specs.declared.cmp.Ordering.{Ordering}
use denote.Enum.Declared.{tag_of}
use Rattle.rv_word.specs.contracts.AluOp.{the_type}
use Rattle.term_model.specs.declared.Op.{Op}
use Rattle.term_model.specs.declared.Op.TheVariants.{Alu, Eq, Byte, Pair, Half}
use Rattle.term_model.specs.contracts.OpPartialEq.TheImpl as op_eq

-- the place of the variant
abbrev pub variant_place : Op → ℕ
variant_place (Alu f) = 0
variant_place Eq = 1
variant_place Byte = 2
variant_place Pair = 3
variant_place Half = 4

-- the place of an operation of the processor, and 0 of any other
abbrev pub alu_place : Op → ℕ
alu_place (Alu f) = tag_of the_type f
alu_place op = 0

-- by the variant, and then by the operation of the processor
abbrev pub op_cmp : Op → Op → Ordering
op_cmp = then_cmp (on variant_place nat_cmp) (on alu_place nat_cmp)

-- the order ties exactly what `==` ties
pub op_ties : (f g : Op) → (op_eq.ghosts).eq f g ≡ eq_by_cmp op_cmp f g
op_ties (Alu f) (Alu g) = unsigned_ties (tag_of the_type f) (tag_of the_type g)
op_ties Eq Eq = refl
op_ties Byte Byte = refl
op_ties Pair Pair = refl
op_ties Half Half = refl
op_ties f g = refl
