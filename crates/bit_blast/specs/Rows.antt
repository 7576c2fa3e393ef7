-- The Lits of the bits of terms.
use Rattle.std.specs.Prelude.{◌≡◌, ℕ, ◌<◌, List, length, Option, Some}
use Rattle.std.specs.Ordering.{nat_cmp}
use Rattle.std.specs.BTreeMap.{is_at}
use Rattle.std.specs.Map.{lookup}
use Rattle.term_model.specs.Tree as terms
use Rattle.term_arena.specs.Trees.{tree_of}
use Rattle.gate_model.specs.Tree.{Tree}
use Rattle.gate_net.specs.declared.literals.Lit.{Lit}
use Rattle.gate_net.specs.Lits.{AreNamed}
use Rattle.gate_net.specs.Trees.{all_signed_of}
use Rattle.blast_model.specs.Blast.{gates}

-- the Lits belong to the net, and have the trees of the term's bits
pub record IsRow (net : List Tree) (term : terms.Tree) (lits : List Lit) : Type 0 where
  pub below : AreNamed (length net) lits
  pub trees : all_signed_of net lits ≡ gates term
  pub width : length lits ≡ 32

-- the Lits of a term, if it has a row
abbrev pub row_of : List (ℕ × List Lit) → ℕ → Option (List Lit)
row_of rows t = lookup (is_at (nat_cmp t)) rows

-- each term that has a row belongs to the arena, and its row has the trees of its bits
abbrev pub AreRows : List terms.Tree → List Tree → List (ℕ × List Lit) → Type 0
AreRows arena net rows = (t : ℕ) (lits : List Lit) → row_of rows t ≡ Some lits → (t < length arena) × IsRow net (tree_of arena t) lits

-- each row is still there
abbrev pub KeepRows : List (ℕ × List Lit) → List (ℕ × List Lit) → Type 0
KeepRows old new = (t : ℕ) (lits : List Lit) → row_of old t ≡ Some lits → row_of new t ≡ Some lits
