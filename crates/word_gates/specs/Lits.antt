-- Lits that belong to a net, and lists of Lits that are made without it.
use Rattle.std.specs.Prelude.{◌≡◌, ℕ, ◌<◌, List, length}
use Rattle.gate_model.specs.Tree.{Tree, Yes, Signed}
use Rattle.gate_net.specs.declared.literals.Lit.{Lit}
use Rattle.gate_net.specs.Lits.{AreNamed}
use Rattle.gate_net.specs.Trees.{tree_of, signed_of, all_signed_of}

-- in a net that has the one list, the other belongs too
abbrev pub KeepBelow : List Lit → List Lit → Type 0
KeepBelow given made = (n : ℕ) → 0 < n → AreNamed n given → AreNamed n made

-- the name 0 is yes
abbrev pub HasYes : List Tree → Type 0
HasYes net = tree_of net 0 ≡ Yes

-- in each net the Lits have these trees
abbrev pub AreMade : List Lit → (List Tree → List Signed) → Type 0
AreMade lits trees = (net : List Tree) → HasYes net → all_signed_of net lits ≡ trees net

-- the Lits of a word in a net: so many, with these trees
pub record AreWord (net : List Tree) (bits : ℕ) (word : List Signed) (lits : List Lit) : Type 0 where
  pub below : AreNamed (length net) lits
  pub trees : all_signed_of net lits ≡ word
  pub width : length lits ≡ bits

-- the Lit of a bit in a net, with this tree
pub record IsBit (net : List Tree) (bit : Signed) (l : Lit) : Type 0 where
  pub below : l.name < length net
  pub tree : signed_of net l ≡ bit
