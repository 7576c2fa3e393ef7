-- Terms of the tests that keep a byte, and the group of one condition on such a term.
use Rattle.std.proofs.Common.{◌≡◌, ℕ, zero, suc, ◌<◌, ◌||◌, Bool, true, false, List, [], ◌∷◌, length, refl, sym, ◌∙◌, ap, subst, arith}
use Rattle.std.specs.Prelude.{All, Contains, nat_eq, slice_index}
use Rattle.std.proofs.lemmas.Bool.{eqb-true}
use Rattle.rv_word.specs.declared.AluOp.TheVariants.{And, Sltu}
use Rattle.term_model.specs.declared.Op.TheVariants.{Alu}
use Rattle.term_model.specs.Tree.{Tree, Const, Input, Apply}
use Rattle.term_model.specs.Truth.{is_truth}
use Rattle.term_model.specs.Value.{val}
use Rattle.term_model.specs.Places.{reads}
use Rattle.term_model.specs.Words.{AreBytes}
use Rattle.term_model.specs.Conditions.{Hold}
use Rattle.term_arena.specs.Trees.{tree_of, trees_of, IsTermOf}
use Rattle.group_model.specs.Conditions.{IsCondition}
use Rattle.group_model.specs.Group.{HasAt, IsAscending, IsGroup}
use Rattle.group_tests.specs.Eight.{IsEight}

pub eight_first : IsEight (Input 0)
eight_first = record { only = λ i. refl; value = refl }

either : (b : Bool) → (b || b) ≡ b
either true = refl
either false = refl

-- one operation more
pub eight_more : (tree : Tree) → IsEight tree → IsEight (Apply (Alu And) tree (Input 0))
eight_more tree is = record {
  only = λ i. ap (λ b. b || nat_eq 0 i) (is.only i) ∙ either (nat_eq 0 i);
  value = rw is.value refl;
}

or_false : (b : Bool) → (b || false) ≡ b
or_false true = refl
or_false false = refl

ascending : IsAscending (0 ∷ [])
ascending zero zero d l m = absurd (omega (arith, l))
ascending zero (suc j) d l m = absurd (omega (arith, m))
ascending (suc i) j d l m = absurd (omega (arith, l, m))

-- that a term is less than 10
abbrev pub less_than_ten : Tree → Tree
less_than_ten tree = Apply (Alu Sltu) tree (Const 10)

module _ (trees : List Tree) (t : ℕ) (tree : Tree) (eight : IsEight tree) (term : IsTermOf trees (less_than_ten tree) t) where
  only : (i : ℕ) → reads (tree_of trees t) i ≡ nat_eq 0 i
  only i = ap (λ s. reads s i) term.is ∙ (or_false (reads tree i) ∙ eight.only i)

  conditions : All (IsCondition trees) (t ∷ [])
  conditions zero other l = record { belongs = term.belongs; truth = ap is_truth term.is; place = 0; read = only 0 }
  conditions (suc k) other l = absurd (omega arith)

  places : All (λ u. (i : ℕ) → reads (tree_of trees u) i ≡ true → Contains (0 ∷ []) i) (t ∷ [])
  places zero other l i e = (0, omega arith, eqb-true 0 i (sym (only i) ∙ e))
  places (suc k) other l i e = absurd (omega arith)

  -- its condition makes a group
  pub eight_group : IsGroup trees (0 ∷ []) (t ∷ [])
  eight_group = record { ascending = ascending; few = omega arith; conditions = conditions; within = places }

  -- the condition holds of the byte 8
  pub eight_holds : Hold (trees_of trees (t ∷ [])) (8 ∷ [])
  eight_holds zero other l = ap (λ s. val s (8 ∷ [])) term.is ∙ rw eight.value refl
  eight_holds (suc k) other l = absurd (omega arith)

one_byte : AreBytes (8 ∷ [])
one_byte zero = omega arith
one_byte (suc k) = omega arith

-- what holds of the byte 8 can hold
pub eight_possible : (trees : List Tree) → Hold trees (8 ∷ []) → (y : List ℕ) × AreBytes y × Hold trees y
eight_possible trees holds = (8 ∷ [], one_byte, holds)

at_its_place : (k : ℕ) → k < length {A = ℕ} (0 ∷ []) → slice_index (8 ∷ []) (slice_index (0 ∷ []) k) ≡ slice_index (8 ∷ 0 ∷ []) k
at_its_place zero l = refl
at_its_place (suc k) l = absurd (omega (arith, l))

-- and 8 is such a byte
pub eight_meets : (places : List ℕ) (trees : List Tree) → places ≡ 0 ∷ [] → Hold trees (8 ∷ []) → (y : List ℕ) × HasAt places (8 ∷ 0 ∷ []) y × Hold trees y
eight_meets places trees is holds = (8 ∷ [], subst (λ (p : List ℕ). HasAt p (8 ∷ 0 ∷ []) (8 ∷ [])) (sym is) at_its_place, holds)
