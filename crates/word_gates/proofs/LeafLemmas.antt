-- The bits of constants and of bytes of the input.
use Rattle.std.proofs.Common.{◌≡◌, ℕ, zero, suc, ◌+◌, ◌/◌, ◌%◌, ◌<◌, List, [], ◌∷◌, ◌++◌, Bool, true, false, ◌==◌, length, refl, sym, ap, ◌∙◌, subst, arith, append_assoc, length-append}
use Rattle.std.specs.Prelude.{map, cond, replicate}
use Rattle.std.proofs.lemmas.List.{map-append, length-map}
use Rattle.std.proofs.lemmas.List.Elements.{All-nil, All-cons}
use Rattle.gate_model.specs.Tree.{Tree, Signed, Bit, plain}
use Rattle.gate_model.specs.Makers.{yes as yes_tree, no as no_tree, tree_gates}
use Rattle.gate_net.specs.declared.literals.Lit.{Lit}
use Rattle.gate_net.specs.Trees.{signed_of, all_signed_of, Extends}
use Rattle.word_bits.specs.Numbers.{bits_of}
use Rattle.word_bits.specs.Operations.{constant_bits}
use Rattle.blast_model.specs.Blast.{input_bits}
use Rattle.gate_net.specs.Lits.{AreNamed}
use Rattle.word_gates.specs.Lits.{HasYes, AreMade}
use Rattle.word_gates.proofs.NetLemmas.{kept_all, still_all, itself, turns, below_push, trees_push, append_none}
use Rattle.word_gates.proofs.MoveLemmas.{no_lit, trees_same, no_lit_tree, below_filled, width_filled}

-- the Lit of a constant bit
abbrev pub lit_of : Bool → Lit
lit_of b = record { name = 0; positive = b }

lit_of_tree : (net : List Tree) (b : Bool) → HasYes net → signed_of net (lit_of b) ≡ cond b yes_tree no_tree
lit_of_tree net true e = ap (λ t. record { tree = t; positive = true }) e
lit_of_tree net false e = ap (λ t. record { tree = t; positive = false }) e

lits_of_trees : (net : List Tree) (bs : List Bool) → HasYes net → all_signed_of net (map lit_of bs) ≡ map (λ b. cond b yes_tree no_tree) bs
lits_of_trees net [] e = refl
lits_of_trees net (b ∷ bs) e = ap (λ t. t ∷ all_signed_of net (map lit_of bs)) (lit_of_tree net b e) ∙ ap (λ ts. cond b yes_tree no_tree ∷ ts) (lits_of_trees net bs e)

lits_below : (n : ℕ) (bs : List Bool) → 0 < n → AreNamed n (map lit_of bs)
lits_below n [] h = All-nil (λ (l : Lit). l.name < n)
lits_below n (b ∷ bs) h = All-cons (λ (l : Lit). l.name < n) (lit_of b) (map lit_of bs) h (lits_below n bs h)

bits_width : (w n : ℕ) → length (bits_of w n) ≡ w
bits_width zero n = refl
bits_width (suc w) n = ap suc (bits_width w (n / 2))

-- the bits of a constant so far, and what is left of it
pub record IsConstantSoFar (width v left i : ℕ) (bits : List Lit) : Type 0 where
  pub so_far : (w : ℕ) → w + i ≡ width → bits ++ map lit_of (bits_of w left) ≡ map lit_of (bits_of width v)

pub constant_start : (width v : ℕ) → IsConstantSoFar width v v 0 []
constant_start width v = record { so_far = λ w e. let same : w ≡ width = omega arith in ap (λ n. map lit_of (bits_of n v)) same }

pub constant_more : (width v left i : ℕ) (bits : List Lit) (bit : Lit) → IsConstantSoFar width v left i bits → i < width → bit ≡ lit_of (left % 2 == 1) → IsConstantSoFar width v (left / 2) (i + 1) (bits ++ bit ∷ [])
constant_more width v left i bits bit so h e = record {
  so_far = λ w f.
      append_assoc bits (bit ∷ []) (map lit_of (bits_of w (left / 2))) ∙ ap (λ b. bits ++ b ∷ map lit_of (bits_of w (left / 2))) e ∙ so.so_far (suc w) (omega arith);
}

constant_is : (width v left i : ℕ) (bits : List Lit) → IsConstantSoFar width v left i bits → i ≡ width → bits ≡ map lit_of (bits_of width v)
constant_is width v left i bits so e = sym (append_none bits) ∙ so.so_far 0 (omega arith)

pub constant_below : (v left i : ℕ) (bits : List Lit) → IsConstantSoFar 32 v left i bits → i ≡ 32 → (n : ℕ) → 0 < n → AreNamed n bits
constant_below v left i bits so e n h = subst (AreNamed n) (sym (constant_is 32 v left i bits so e)) (lits_below n (bits_of 32 v) h)

pub constant_trees : (v left i : ℕ) (bits : List Lit) → IsConstantSoFar 32 v left i bits → i ≡ 32 → AreMade bits (λ net. constant_bits tree_gates v)
constant_trees v left i bits so e net h = ap (all_signed_of net) (constant_is 32 v left i bits so e) ∙ lits_of_trees net (bits_of 32 v) h

pub constant_width : (v left i : ℕ) (bits : List Lit) → IsConstantSoFar 32 v left i bits → i ≡ 32 → length bits ≡ 32
constant_width v left i bits so e = ap length (constant_is 32 v left i bits so e) ∙ length-map (bits_of 32 v) lit_of ∙ bits_width 32 v

-- ---- a byte of the input

-- its lowest bits
abbrev pub low_trees : ℕ → ℕ → List Signed
low_trees place zero = []
low_trees place (suc k) = low_trees place k ++ plain (Bit place k) ∷ []

pub record IsInputSoFar (start now : List Tree) (place k : ℕ) (bits : List Lit) : Type 0 where
  pub keeps : Extends start now
  pub below : AreNamed (length now) bits
  pub so_far : all_signed_of now bits ≡ low_trees place k
  pub width : length bits ≡ k

pub input_start : (start : List Tree) (place : ℕ) → IsInputSoFar start start place 0 []
input_start start place = record { keeps = itself start; below = λ k d l. absurd (omega arith); so_far = refl; width = refl }

pub input_more : (start now next : List Tree) (place k : ℕ) (bits : List Lit) (bit : Lit) → IsInputSoFar start now place k bits → Extends now next → bit.name < length next → signed_of next bit ≡ plain (Bit place k) → IsInputSoFar start next place (k + 1) (bits ++ bit ∷ [])
input_more start now next place k bits bit so grows below tree =
    let more : suc k ≡ k + 1 = omega arith in
    record {
      keeps = turns start now next so.keeps grows;
      below = below_push (length next) bits bit (still_all now next bits grows so.below) below;
      so_far = trees_push next bits bit ∙ ap (λ ts. ts ++ signed_of next bit ∷ []) (kept_all now next bits grows so.below ∙ so.so_far) ∙ ap (λ t. low_trees place k ++ t ∷ []) tree ∙ ap (low_trees place) more;
      width = length-append bits (bit ∷ []) ∙ ap (λ n. n + 1) so.width;
    }

module _ (start net : List Tree) (place : ℕ) (bits : List Lit) (so : IsInputSoFar start net place 8 bits) (has : HasYes net) (some : 0 < length net) where
  pub input_below : AreNamed (length net) (bits ++ replicate 24 no_lit)
  input_below = below_filled (length net) 24 bits some so.below

  pub input_trees : all_signed_of net (bits ++ replicate 24 no_lit) ≡ input_bits place
  input_trees = map-append (signed_of net) bits (replicate 24 no_lit) ∙ ap (λ ts. ts ++ all_signed_of net (replicate 24 no_lit)) so.so_far ∙ ap (λ ts. low_trees place 8 ++ ts) (trees_same net 24 no_lit ∙ ap (replicate 24) (no_lit_tree net has))

  pub input_width : length (bits ++ replicate 24 no_lit) ≡ 32
  input_width = width_filled 24 bits ∙ ap (λ n. n + 24) so.width
