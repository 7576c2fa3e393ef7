-- Conditions that hold of an input, as a test; and what the test looks at.
use Rattle.std.proofs.Common.{◌≡◌, ℕ, zero, suc, ◌<◌, Bool, true, false, ◌&&◌, List, [], ◌∷◌, length, get_or, refl, sym, arith}
use Rattle.std.specs.Prelude.{Contains, nat_eq}
use Rattle.std.specs.Cmp.{nat_eq_equiv}
use Rattle.std.proofs.lemmas.Map.Views.{list_any-from_Contains, Contains-from_any}
use Rattle.std.proofs.lemmas.Bool.{and_parts}
use Rattle.std.proofs.lemmas.Bool.Decides.{nat_tests}
use Rattle.term_model.specs.Tree.{Tree}
use Rattle.term_model.specs.Value.{val}
use Rattle.term_model.specs.Places.{AreAlikeFor}
use Rattle.term_model.specs.Conditions.{holds}
use Rattle.term_model.proofs.PlaceLemmas.{value_follows}
use Rattle.term_arena.specs.Trees.{tree_of, trees_of}
use Rattle.group_model.specs.Group.{is_among}

-- tests that are true together are the same
pub one_truth : (s t : Bool) → (s ≡ true → t ≡ true) → (t ≡ true → s ≡ true) → s ≡ t
one_truth true t f g = sym (f refl)
one_truth false true f g = g refl
one_truth false false f g = refl

-- numbers that the test finds equal are equal
pub same_number : (x y : ℕ) → nat_eq x y ≡ true → x ≡ y
same_number x y e = grind (arith, nat_tests)

-- where the test passes, each condition has the value 1
pub held : (conditions : List Tree) (input : List ℕ) → holds conditions input ≡ true → (k : ℕ) (d : Tree) → k < length conditions → val (get_or conditions k d) input ≡ 1
held [] input e k d h = absurd (omega arith)
held (t ∷ ts) input e zero d h = same_number (val t input) 1 (and_parts (nat_eq (val t input) 1) (holds ts input) e).0
held (t ∷ ts) input e (suc k) d h = held ts input (and_parts (nat_eq (val t input) 1) (holds ts input) e).1 k d (omega arith)

-- and the other way round
pub passed : (conditions : List Tree) (input : List ℕ) → ((k : ℕ) (d : Tree) → k < length conditions → val (get_or conditions k d) input ≡ 1) → holds conditions input ≡ true
passed [] input h = refl
passed (t ∷ ts) input h =
    let first : val t input ≡ 1 = h 0 t (omega arith) in
    let one : nat_eq (val t input) 1 ≡ true = rw first refl in
    let rest : holds ts input ≡ true = passed ts input (λ k d l. h (suc k) d (omega arith)) in
    rw (one, rest) refl

-- the test gives one answer on inputs that are alike for each condition
pub holds_alike : (conditions : List Tree) (x y : List ℕ) → ((k : ℕ) (d : Tree) → k < length conditions → AreAlikeFor (get_or conditions k d) x y) → holds conditions x ≡ holds conditions y
holds_alike [] x y h = refl
holds_alike (t ∷ ts) x y h =
    let first : val t x ≡ val t y = value_follows t x y (h 0 t (omega arith)) in
    let rest : holds ts x ≡ holds ts y = holds_alike ts x y (λ k d l. h (suc k) d (omega arith)) in
    rw (first, rest) refl

-- a place in the list is found there
pub found_among : (places : List ℕ) (i : ℕ) → Contains places i → is_among places i ≡ true
found_among places i h = list_any-from_Contains nat_eq_equiv i places h

-- and the other way round
pub among_found : (places : List ℕ) (i : ℕ) → is_among places i ≡ true → Contains places i
among_found places i e = Contains-from_any same_number i places e

-- a test that fails fails with others
fails_with : (s t : Bool) → t ≡ false → (s && t) ≡ false
fails_with true t e = e
fails_with false t e = refl

-- a number that is not another fails the test for it
not_number : (x y : ℕ) → (x ≡ y → ⊥) → nat_eq x y ≡ false
not_number x y h = grind (arith, nat_tests)

-- the test fails where a condition does not have the value 1
pub failed_at : (trees : List Tree) (terms : List ℕ) (input : List ℕ) (k t : ℕ) → k < length terms → t ≡ get_or terms k t → (val (tree_of trees t) input ≡ 1 → ⊥) → holds (trees_of trees terms) input ≡ false
failed_at trees [] input k t h e differs = absurd (omega arith)
failed_at trees (u ∷ us) input zero t h e differs =
    let fails : nat_eq (val (tree_of trees t) input) 1 ≡ false = not_number (val (tree_of trees t) input) 1 differs in
    let here : nat_eq (val (tree_of trees u) input) 1 ≡ false = rw (← e) fails in
    rw here refl
failed_at trees (u ∷ us) input (suc k) t h e differs =
    fails_with (nat_eq (val (tree_of trees u) input) 1) (holds (trees_of trees us) input) (failed_at trees us input k t (omega arith) e differs)
