-- Lists of conditions that hold, by their parts.
use Rattle.std.proofs.Common.{◌≡◌, ℕ, List, [], ◌∷◌, ◌++◌}
use Rattle.std.proofs.lemmas.List.Elements.{All-nil, All-cons, All-head, All-tail, All-append}
use Rattle.term_model.specs.Tree.{Tree}
use Rattle.term_model.specs.Value.{val}
use Rattle.term_model.specs.Conditions.{Hold}

-- no conditions hold
pub hold_none : (y : List ℕ) → Hold [] y
hold_none y = All-nil (λ t. val t y ≡ 1)

-- a condition before others
pub hold_more : (y : List ℕ) (t : Tree) (ts : List Tree) → val t y ≡ 1 → Hold ts y → Hold (t ∷ ts) y
hold_more y t ts e h = All-cons (λ t. val t y ≡ 1) t ts e h

-- one condition
pub hold_one : (y : List ℕ) (t : Tree) → val t y ≡ 1 → Hold (t ∷ []) y
hold_one y t e = hold_more y t [] e (hold_none y)

-- four conditions
pub hold_four : (y : List ℕ) (a b c d : Tree) → val a y ≡ 1 → val b y ≡ 1 → val c y ≡ 1 → val d y ≡ 1 → Hold (a ∷ b ∷ c ∷ d ∷ []) y
hold_four y a b c d p q r s = hold_more y a (b ∷ c ∷ d ∷ []) p (hold_more y b (c ∷ d ∷ []) q (hold_more y c (d ∷ []) r (hold_one y d s)))

-- the first of conditions that hold
pub first_holds : (y : List ℕ) (t : Tree) (ts : List Tree) → Hold (t ∷ ts) y → val t y ≡ 1
first_holds y t ts h = All-head (λ t. val t y ≡ 1) t ts h

-- all but the first
pub others_hold : (y : List ℕ) (t : Tree) (ts : List Tree) → Hold (t ∷ ts) y → Hold ts y
others_hold y t ts h = All-tail (λ t. val t y ≡ 1) t ts h

-- two lists that hold
pub hold_both : (y : List ℕ) (ts us : List Tree) → Hold ts y → Hold us y → Hold (ts ++ us) y
hold_both y ts us h k = All-append (λ t. val t y ≡ 1) ts us h k

-- of two lists that hold, the first does
pub hold_left : (y : List ℕ) (ts us : List Tree) → Hold (ts ++ us) y → Hold ts y
hold_left y [] us h = hold_none y
hold_left y (t ∷ ts) us h = hold_more y t ts (first_holds y t (ts ++ us) h) (hold_left y ts us (others_hold y t (ts ++ us) h))

-- of two lists that hold, the second does
pub hold_right : (y : List ℕ) (ts us : List Tree) → Hold (ts ++ us) y → Hold us y
hold_right y [] us h = h
hold_right y (t ∷ ts) us h = hold_right y ts us (others_hold y t (ts ++ us) h)
