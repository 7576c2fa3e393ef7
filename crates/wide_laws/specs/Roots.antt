-- The conditions of a group as roots of gate trees: what the search counts for them, and the values that each byte may take.
use Rattle.std.specs.Prelude.{◌≡◌, ℕ, Bool, true, List, map, All, Contains}
use Rattle.term_model.specs.Tree as term
use Rattle.term_model.specs.Places.{reads}
use Rattle.term_model.specs.Truth.{is_truth}
use Rattle.term_model.specs.Words.{HasWords}
use Rattle.gate_model.specs.Tree.{Signed}
use Rattle.gate_model.specs.Makers.{tree_gates}
use Rattle.word_bits.specs.Circuits.{bit_at}
use Rattle.blast_model.specs.Blast.{gates}
use Rattle.search_model.specs.Search.{conflict_count}
use Rattle.wide_laws.specs.Formula.{signed_trees, formula_of, order_of}
use Rattle.wide_laws.specs.Sets.{fixed_bits, force_roots, agreeing}

-- conditions on these places: truth terms whose constants are words, which read places among these alone
pub record AreConditions (places : List ℕ) (conditions : List term.Tree) : Type 0 where
  pub truth : All (λ t. is_truth t ≡ true) conditions
  pub words : All HasWords conditions
  pub within : All (λ t. (i : ℕ) → reads t i ≡ true → Contains places i) conditions

-- the root of a condition: bit 0 of its gate trees
abbrev pub root_of : term.Tree → Signed
root_of t = bit_at tree_gates 0 (gates t)

abbrev pub roots_of : List term.Tree → List Signed
roots_of conditions = map root_of conditions

-- how many conflicts the search counts for the first bytes of these places, under a mask
abbrev pub conflicts_of : List ℕ → List term.Tree → List ℕ → ℕ
conflicts_of mask conditions places = conflict_count signed_trees (formula_of (roots_of conditions)) (order_of mask places)

-- How a bit is freed: the other bits that are still fixed force the roots by the clauses of the gates.
abbrev pub frees : List term.Tree → List Signed → Bool
frees conditions = force_roots (roots_of conditions)

-- the values of a place of a group: those that agree with the first input at the place's bits that stay fixed
unfoldable pub wide_values : List term.Tree → List ℕ → List ℕ → ℕ → ℕ → Bool
wide_values conditions first places place = agreeing (fixed_bits (frees conditions) first places) first place
