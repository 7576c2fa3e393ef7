-- A sum bit by bit, so far.
use Rattle.std.proofs.Common.{◌≡◌, ℕ, ◌+◌, ◌<◌, List, [], ◌∷◌, ◌++◌, length, drop, refl, sym, ap, ◌∙◌, arith, append_assoc, length-append}
use Rattle.gate_model.specs.Tree.{Tree, Signed}
use Rattle.gate_model.specs.Makers.{and_gate, xor_gate, or_gate, tree_gates}
use Rattle.gate_net.specs.declared.literals.Lit.{Lit}
use Rattle.gate_net.specs.Trees.{signed_of, all_signed_of, Extends}
use Rattle.word_bits.specs.Circuits.{sum, carry}
use Rattle.gate_net.specs.Lits.{AreNamed}
use Rattle.word_gates.proofs.NetLemmas.{kept, kept_all, still_all, itself, turns, lit_at, drop_at, below_at, below_push, trees_push, drop_all, append_none}

pub record IsSummed (start now : List Tree) (c : Signed) (a b bits : List Lit) (carried : Lit) (i : ℕ) : Type 0 where
  pub keeps : Extends start now
  pub below : AreNamed (length now) bits
  pub carry_below : carried.name < length now
  pub so_far : all_signed_of now bits ++ sum tree_gates (signed_of now carried) (all_signed_of start (drop i a)) (all_signed_of start (drop i b)) ≡ sum tree_gates c (all_signed_of start a) (all_signed_of start b)
  pub out : carry tree_gates (signed_of now carried) (all_signed_of start (drop i a)) (all_signed_of start (drop i b)) ≡ carry tree_gates c (all_signed_of start a) (all_signed_of start b)
  pub width : length bits ≡ i

pub IsSummed-start : (start : List Tree) (a b : List Lit) (c : Lit) → c.name < length start → IsSummed start start (signed_of start c) a b [] c 0
IsSummed-start start a b c h = record { keeps = itself start; below = λ k d l. absurd (omega arith); carry_below = h; so_far = refl; out = refl; width = refl }

place_sum : (p xs ys : List Signed) (c s d x y : Signed) → s ≡ xor_gate (xor_gate x y) c → d ≡ or_gate (and_gate x y) (and_gate c (xor_gate x y)) → (p ++ s ∷ []) ++ sum tree_gates d xs ys ≡ p ++ sum tree_gates c (x ∷ xs) (y ∷ ys)
place_sum p xs ys c s d x y e f = append_assoc p (s ∷ []) (sum tree_gates d xs ys) ∙ ap (λ z. p ++ (z ∷ sum tree_gates d xs ys)) e ∙ ap (λ z. p ++ (xor_gate (xor_gate x y) c ∷ sum tree_gates z xs ys)) f

module _ (start now next : List Tree) (c : Signed) (a b bits : List Lit) (carried s d : Lit) (i : ℕ) (so : IsSummed start now c a b bits carried i) (first : AreNamed (length start) a) (second : AreNamed (length start) b) (in_a : i < length a) (in_b : i < length b) (grows : Extends now next) (s_below : s.name < length next) (d_below : d.name < length next) where
  x_tree : signed_of now (lit_at a i) ≡ signed_of start (lit_at a i)
  x_tree = kept start now (lit_at a i) so.keeps (below_at (length start) a i first in_a)

  y_tree : signed_of now (lit_at b i) ≡ signed_of start (lit_at b i)
  y_tree = kept start now (lit_at b i) so.keeps (below_at (length start) b i second in_b)

  left_a : all_signed_of start (drop i a) ≡ signed_of start (lit_at a i) ∷ all_signed_of start (drop (i + 1) a)
  left_a = ap (all_signed_of start) (drop_at a i in_a)

  left_b : all_signed_of start (drop i b) ≡ signed_of start (lit_at b i) ∷ all_signed_of start (drop (i + 1) b)
  left_b = ap (all_signed_of start) (drop_at b i in_b)

  pub IsSummed-more : signed_of next s ≡ xor_gate (xor_gate (signed_of now (lit_at a i)) (signed_of now (lit_at b i))) (signed_of now carried) → signed_of next d ≡ or_gate (and_gate (signed_of now (lit_at a i)) (signed_of now (lit_at b i))) (and_gate (signed_of now carried) (xor_gate (signed_of now (lit_at a i)) (signed_of now (lit_at b i)))) → IsSummed start next c a b (bits ++ s ∷ []) d (i + 1)
  IsSummed-more e f =
      let X : Signed = signed_of start (lit_at a i) in
      let Y : Signed = signed_of start (lit_at b i) in
      let C : Signed = signed_of now carried in
      let A : List Signed = all_signed_of start (drop (i + 1) a) in
      let B : List Signed = all_signed_of start (drop (i + 1) b) in
      let e' : signed_of next s ≡ xor_gate (xor_gate X Y) C = e ∙ ap (λ t. xor_gate (xor_gate t (signed_of now (lit_at b i))) C) x_tree ∙ ap (λ t. xor_gate (xor_gate X t) C) y_tree in
      let f' : signed_of next d ≡ or_gate (and_gate X Y) (and_gate C (xor_gate X Y)) = f ∙ ap (λ t. or_gate (and_gate t (signed_of now (lit_at b i))) (and_gate C (xor_gate t (signed_of now (lit_at b i))))) x_tree ∙ ap (λ t. or_gate (and_gate X t) (and_gate C (xor_gate X t))) y_tree in
      record {
        keeps = turns start now next so.keeps grows;
        below = below_push (length next) bits s (still_all now next bits grows so.below) s_below;
        carry_below = d_below;
        so_far =
            ap (λ p. p ++ sum tree_gates (signed_of next d) A B) (trees_push next bits s ∙ ap (λ p. p ++ signed_of next s ∷ []) (kept_all now next bits grows so.below))
            ∙ place_sum (all_signed_of now bits) A B C (signed_of next s) (signed_of next d) X Y e' f'
            ∙ ap (λ l. all_signed_of now bits ++ sum tree_gates C l (Y ∷ B)) (sym left_a)
            ∙ ap (λ l. all_signed_of now bits ++ sum tree_gates C (all_signed_of start (drop i a)) l) (sym left_b)
            ∙ so.so_far;
        out =
            ap (λ z. carry tree_gates z A B) f'
            ∙ ap (λ l. carry tree_gates C l (Y ∷ B)) (sym left_a)
            ∙ ap (λ l. carry tree_gates C (all_signed_of start (drop i a)) l) (sym left_b)
            ∙ so.out;
        width = length-append bits (s ∷ []) ∙ ap (λ n. n + 1) so.width;
      }

-- at the end
module _ (start now : List Tree) (c : Signed) (a b bits : List Lit) (carried : Lit) (so : IsSummed start now c a b bits carried (length a)) where
  none_left : all_signed_of start (drop (length a) a) ≡ []
  none_left = ap (all_signed_of start) (drop_all a)

  pub summed_bits : all_signed_of now bits ≡ sum tree_gates c (all_signed_of start a) (all_signed_of start b)
  summed_bits = sym (append_none (all_signed_of now bits)) ∙ ap (λ l. all_signed_of now bits ++ sum tree_gates (signed_of now carried) l (all_signed_of start (drop (length a) b))) (sym none_left) ∙ so.so_far

  pub summed_carry : signed_of now carried ≡ carry tree_gates c (all_signed_of start a) (all_signed_of start b)
  summed_carry = ap (λ l. carry tree_gates (signed_of now carried) l (all_signed_of start (drop (length a) b))) (sym none_left) ∙ so.out
