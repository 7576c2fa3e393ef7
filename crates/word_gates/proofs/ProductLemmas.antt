-- Rows of products.
use Rattle.std.proofs.Common.{◌≡◌, ℕ, suc, ◌+◌, ◌<◌, List, [], ◌∷◌, ◌++◌, length, drop, refl, sym, ap, ◌∙◌, arith}
use Rattle.std.specs.Prelude.{replicate}
use Rattle.std.specs.List.{drop-map}
use Rattle.std.proofs.lemmas.List.{map-append, length-map, length-replicate}
use Rattle.std.proofs.lemmas.List.Elements.{All-replicate}
use Rattle.gate_model.specs.Tree.{Tree, Signed}
use Rattle.gate_model.specs.Makers.{no as no_tree, and_gate, tree_gates}
use Rattle.gate_net.specs.declared.literals.Lit.{Lit}
use Rattle.gate_net.specs.Trees.{signed_of, all_signed_of, Extends}
use Rattle.word_bits.specs.Circuits.{at_each, sum, under, up, add_rows, product, widened}
use Rattle.gate_net.specs.Lits.{AreNamed}
use Rattle.word_gates.specs.Lits.{HasYes, AreMade}
use Rattle.word_gates.proofs.NetLemmas.{kept, kept_all, itself, turns, lit_at, drop_at, below_at, drop_all}
use Rattle.word_gates.proofs.MoveLemmas.{no_lit, trees_same, no_lit_tree}

under_at_each : (b : Signed) (xs : List Signed) → at_each tree_gates and_gate xs (replicate (length xs) b) ≡ under tree_gates b xs
under_at_each b [] = refl
under_at_each b (x ∷ xs) = ap (λ ts. and_gate x b ∷ ts) (under_at_each b xs)

-- the same of Lits
pub under_trees : (net : List Tree) (bit : Lit) (a : List Lit) → at_each tree_gates and_gate (all_signed_of net a) (all_signed_of net (replicate (length a) bit)) ≡ under tree_gates (signed_of net bit) (all_signed_of net a)
under_trees net bit a =
    ap (at_each tree_gates and_gate (all_signed_of net a)) (trees_same net (length a) bit ∙ ap (λ n. replicate n (signed_of net bit)) (sym (length-map a (signed_of net)))) ∙ under_at_each (signed_of net bit) (all_signed_of net a)

-- the sum of rows so far
pub record IsProductSoFar (start now : List Tree) (a b so_far : List Lit) (i : ℕ) : Type 0 where
  pub keeps : Extends start now
  pub below : AreNamed (length now) so_far
  pub width : length so_far ≡ length a
  pub rows : add_rows tree_gates (all_signed_of now so_far) i (all_signed_of start a) (all_signed_of start (drop i b)) ≡ product tree_gates (all_signed_of start a) (all_signed_of start b)

pub product_start : (start : List Tree) (a b : List Lit) → HasYes start → 0 < length start → IsProductSoFar start start a b (replicate (length a) no_lit) 0
product_start start a b has some = record {
  keeps = itself start;
  below = All-replicate (λ (l : Lit). l.name < length start) (length a) no_lit some;
  width = length-replicate (length a) no_lit;
  rows = ap (λ so. add_rows tree_gates so 0 (all_signed_of start a) (all_signed_of start b)) (trees_same start (length a) no_lit ∙ ap (replicate (length a)) (no_lit_tree start has) ∙ ap (λ n. replicate n no_tree) (sym (length-map a (signed_of start))));
}

pub product_more : (start now next : List Tree) (a b so_far more : List Lit) (i : ℕ) → IsProductSoFar start now a b so_far i → AreNamed (length start) a → AreNamed (length start) b → i < length b → Extends now next → AreNamed (length next) more → length more ≡ length a →
    all_signed_of next more ≡ sum tree_gates no_tree (all_signed_of now so_far) (up tree_gates i (under tree_gates (signed_of now (lit_at b i)) (all_signed_of now a))) → IsProductSoFar start next a b more (i + 1)
product_more start now next a b so_far more i so first second in_b grows below width trees =
    let A : List Signed = all_signed_of start a in
    let B : List Signed = all_signed_of start (drop (i + 1) b) in
    let S : List Signed = all_signed_of now so_far in
    let Y : Signed = signed_of start (lit_at b i) in
    let one : i + 1 ≡ suc i = omega arith in
    record {
      keeps = turns start now next so.keeps grows;
      below = below;
      width = width;
      rows =
          ap (λ k. add_rows tree_gates (all_signed_of next more) k A B) one
          ∙ ap (λ so. add_rows tree_gates so (suc i) A B) (trees ∙ ap (λ y. sum tree_gates no_tree S (up tree_gates i (under tree_gates y (all_signed_of now a)))) (kept start now (lit_at b i) so.keeps (below_at (length start) b i second in_b)) ∙ ap (λ x. sum tree_gates no_tree S (up tree_gates i (under tree_gates Y x))) (kept_all start now a so.keeps first))
          ∙ ap (add_rows tree_gates S i A) (sym (ap (all_signed_of start) (drop_at b i in_b)))
          ∙ so.rows;
    }

pub product_end : (start now : List Tree) (a b so_far : List Lit) → IsProductSoFar start now a b so_far (length b) → all_signed_of now so_far ≡ product tree_gates (all_signed_of start a) (all_signed_of start b)
product_end start now a b so_far so = ap (λ l. add_rows tree_gates (all_signed_of now so_far) (length b) (all_signed_of start a) (all_signed_of start l)) (sym (drop_all b)) ∙ so.rows

pub widened_trees : (fill : Lit) (a : List Lit) → AreMade (a ++ replicate (length a) fill) (λ net. widened tree_gates (signed_of net fill) (all_signed_of net a))
widened_trees fill a net h = map-append (signed_of net) a (replicate (length a) fill) ∙ ap (λ ts. all_signed_of net a ++ ts) (trees_same net (length a) fill ∙ ap (λ n. replicate n (signed_of net fill)) (sym (length-map a (signed_of net))))

pub upper_trees : (old net : List Tree) (a whole upper : List Lit) (t : List Signed) → all_signed_of net whole ≡ t → upper ≡ drop (length a) whole → all_signed_of net upper ≡ drop (length (all_signed_of old a)) t
upper_trees old net a whole upper t e f = ap (all_signed_of net) f ∙ sym (drop-map (signed_of net) (length a) whole) ∙ ap (drop (length a)) e ∙ ap (λ n. drop n t) (sym (length-map a (signed_of old)))

pub row_added : (old mid next : List Tree) (so_far taken row r a : List Lit) (bit : Lit) (place : ℕ) → Extends old mid → HasYes mid → AreNamed (length old) so_far →
    all_signed_of mid taken ≡ under tree_gates (signed_of old bit) (all_signed_of old a) → AreMade row (λ net. up tree_gates place (all_signed_of net taken)) →
    all_signed_of next r ≡ sum tree_gates (signed_of mid no_lit) (all_signed_of mid so_far) (all_signed_of mid row) →
    all_signed_of next r ≡ sum tree_gates no_tree (all_signed_of old so_far) (up tree_gates place (under tree_gates (signed_of old bit) (all_signed_of old a)))
row_added old mid next so_far taken row r a bit place grows has below e f g =
    g ∙ ap (λ c. sum tree_gates c (all_signed_of mid so_far) (all_signed_of mid row)) (no_lit_tree mid has)
    ∙ ap (λ x. sum tree_gates no_tree x (all_signed_of mid row)) (kept_all old mid so_far grows below)
    ∙ ap (sum tree_gates no_tree (all_signed_of old so_far)) (f mid has ∙ ap (up tree_gates place) e)
