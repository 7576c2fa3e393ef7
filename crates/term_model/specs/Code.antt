-- How the logic stores a tree: as its leaves and operations, each operation behind its operands.
use Rattle.std.specs.Prelude.{◌≡◌, refl, ℕ, ◌⊎◌, List, [], ◌∷◌}
use mathlib.Core.Path.{ap, ◌∙◌}
use mathlib.Core.Logic.{inl, inr}
use Rattle.std.specs.Coded.{Coded, code_by, coded_ℕ, coded_list, coded⊎}
use Rattle.term_model.specs.declared.Op.{Op}
use Rattle.term_model.specs.contracts.Op as op_type
use Rattle.term_model.specs.Tree.{Tree, Const, Input, Apply}

-- a constant, an input, or an operation
abbrev Token : Type 0
Token = ℕ ⊎ (ℕ ⊎ Op)

-- the tokens of a term, before others
abbrev put : Tree → List Token → List Token
put (Const c) after = inl c ∷ after
put (Input i) after = inr (inl i) ∷ after
put (Apply op a b) after = put a (put b (inr (inr op) ∷ after))

-- an operation on the last two terms
abbrev apply : Op → List Tree → List Tree
apply op (b ∷ a ∷ stack) = Apply op a b ∷ stack
apply op (b ∷ []) = []
apply op [] = []

-- the terms that tokens make, the last first, on top of others
abbrev take_all : List Token → List Tree → List Tree
take_all [] stack = stack
take_all (inl c ∷ after) stack = take_all after (Const c ∷ stack)
take_all (inr (inl i) ∷ after) stack = take_all after (Input i ∷ stack)
take_all (inr (inr op) ∷ after) stack = take_all after (apply op stack)

-- the last term
abbrev last : List Tree → Tree
last [] = Const 0
last (t ∷ ts) = t

-- the tokens of a term make it
pub put_taken : (t : Tree) (after : List Token) (stack : List Tree) → take_all (put t after) stack ≡ take_all after (t ∷ stack)
put_taken (Const c) after stack = refl
put_taken (Input i) after stack = refl
put_taken (Apply op a b) after stack = put_taken a (put b (inr (inr op) ∷ after)) stack ∙ put_taken b (inr (inr op) ∷ after) (a ∷ stack)

-- a tree is stored as its tokens
abbrev pub tree_code : Coded Tree
tree_code =
    code_by (List Token) (coded_list (coded⊎ coded_ℕ (coded⊎ coded_ℕ (op_type.the_row).coded))) (λ t. put t []) (λ ts. last (take_all ts [])) (λ t. ap last (put_taken t [] []))
