-- The highest bit of a word.
use Rattle.std.proofs.Common.{◌≡◌, ℕ, suc, ◌-◌, ◌<◌, List, [], ◌∷◌, ◌++◌, length, take, refl, ap, ◌∙◌, arith}
use Rattle.std.specs.Prelude.{replicate}
use Rattle.std.proofs.lemmas.List.Elements.{All-cons, All-replicate}
use Rattle.gate_model.specs.Tree.{Tree, Signed}
use Rattle.gate_model.specs.Makers.{negation, tree_gates}
use Rattle.gate_net.specs.declared.literals.Lit.{Lit}
use Rattle.gate_net.specs.Trees.{signed_of, all_signed_of}
use Rattle.word_bits.specs.Circuits.{highest, sign, turn_highest, turn_sign}
use Rattle.gate_net.specs.Lits.{AreNamed}
use Rattle.word_gates.proofs.NetLemmas.{lit_at}
use Rattle.word_gates.proofs.MoveLemmas.{no_lit}

highest_tree : (net : List Tree) (x : Lit) (xs : List Lit) → signed_of net (lit_at (x ∷ xs) (length xs)) ≡ highest tree_gates (signed_of net x) (all_signed_of net xs)
highest_tree net x [] = refl
highest_tree net x (y ∷ ys) = highest_tree net y ys

pub sign_tree : (a : List Lit) → 0 < length a → (net : List Tree) → signed_of net (lit_at a (length a - 1)) ≡ sign tree_gates (all_signed_of net a)
sign_tree [] h net = absurd (omega arith)
sign_tree (x ∷ xs) h net = let e : suc (length xs) - 1 ≡ length xs = omega arith in ap (λ n. signed_of net (lit_at (x ∷ xs) n)) e ∙ highest_tree net x xs

turn_highest_trees : (net : List Tree) (x : Lit) (xs : List Lit) (t : Signed) → t ≡ negation (highest tree_gates (signed_of net x) (all_signed_of net xs)) → all_signed_of net (take (length xs) (x ∷ xs)) ++ t ∷ [] ≡ turn_highest tree_gates (signed_of net x) (all_signed_of net xs)
turn_highest_trees net x [] t e = ap (λ s. s ∷ []) e
turn_highest_trees net x (y ∷ ys) t e = ap (λ ts. signed_of net x ∷ ts) (turn_highest_trees net y ys t e)

pub turned_sign : (net : List Tree) (a : List Lit) (t : Signed) → 0 < length a → t ≡ negation (sign tree_gates (all_signed_of net a)) → all_signed_of net (take (length a - 1) a) ++ t ∷ [] ≡ turn_sign tree_gates (all_signed_of net a)
turned_sign net [] t h e = absurd (omega arith)
turned_sign net (x ∷ xs) t h e = let n : suc (length xs) - 1 ≡ length xs = omega arith in ap (λ k. all_signed_of net (take k (x ∷ xs)) ++ t ∷ []) n ∙ turn_highest_trees net x xs t e

pub truth_below : (bit : Lit) (n : ℕ) → bit.name < n → AreNamed n (bit ∷ replicate 31 no_lit)
truth_below bit n h = All-cons (λ (l : Lit). l.name < n) bit (replicate 31 no_lit) h (All-replicate (λ (l : Lit). l.name < n) 31 no_lit (omega arith))
