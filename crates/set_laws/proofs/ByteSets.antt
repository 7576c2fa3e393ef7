-- The sets have bytes alone.
use Rattle.std.proofs.Common.{ℕ, Bool, true, false, cond, List, [], ◌∷◌, length, get_or, ltb-true, All}
use Rattle.std.specs.Prelude.{nat_eq, nat_lt}
use Rattle.std.specs.List.{range_with_len}
use Rattle.std.proofs.lemmas.Bool.{and_parts}
use Rattle.std.proofs.lemmas.List.Elements.{All-map}
use Rattle.term_model.specs.Tree.{Tree}
use Rattle.term_model.specs.Conditions.{holds}
use Rattle.input_laws.specs.Sets.{IsByteSet, freed}
use Rattle.input_laws.specs.Narrow.{freed_beside}
use Rattle.wide_laws.specs.Roots.{wide_values}
use Rattle.set_laws.specs.Sets.{group_at, conditions_on, values_beside, values_in, values_of, sets_from}

bytes_freed : (test : List ℕ → Bool) (y : List ℕ) (i : ℕ) → IsByteSet (freed test y i)
bytes_freed test y i v has = ltb-true v 256 (and_parts (nat_lt v 256) _ has).0

bytes_beside : (test : List ℕ → Bool) (y : List ℕ) (first i : ℕ) → IsByteSet (values_beside test y first i)
bytes_beside test y first i = by (nat_eq first i)
  where
    by : (b : Bool) → IsByteSet (cond b (freed test y i) (freed_beside test (freed test y first) y first i))
    by true = bytes_freed test y i
    by false = λ v has. ltb-true v 256 (and_parts (nat_lt v 256) _ has).0

bytes_of_wide : (conditions : List Tree) (first places : List ℕ) (i : ℕ) → IsByteSet (wide_values conditions first places i)
unfolding wide_values
bytes_of_wide conditions first places i v has = ltb-true v 256 (and_parts (nat_lt v 256) _ has).0

bytes_in : (conditions : List Tree) (places first : List ℕ) (i : ℕ) → IsByteSet (values_in conditions places first i)
bytes_in conditions [] first i v has = ltb-true v 256 has
bytes_in conditions (p ∷ []) first i v has = bytes_freed (holds conditions) first i v has
bytes_in conditions (p ∷ q ∷ []) first i v has = bytes_beside (holds conditions) first p i v has
bytes_in conditions (p ∷ q ∷ r ∷ places) first i v has = bytes_of_wide conditions first (p ∷ q ∷ r ∷ places) i v has

bytes_of : (conditions : List Tree) (y : List ℕ) (i : ℕ) → IsByteSet (values_of conditions y i)
unfolding values_of
bytes_of conditions y i = bytes_in (conditions_on conditions (group_at conditions (length y) i)) (group_at conditions (length y) i) y i

pub all_bytes : (conditions : List Tree) (y : List ℕ) → All IsByteSet (sets_from conditions y)
all_bytes conditions y = All-map IsByteSet (values_of conditions y) (range_with_len 0 (length y)) (λ k d l. bytes_of conditions y (get_or (range_with_len 0 (length y)) k d))
