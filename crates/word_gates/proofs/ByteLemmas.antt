-- Bytes and halves of words of Lits.
use Rattle.std.proofs.Common.{◌≡◌, ℕ, zero, suc, ◌<◌, List, [], ◌∷◌, ◌++◌, length, take, drop, refl, sym, ap, ◌∙◌, arith, append_assoc, length-append, length-take}
use Rattle.std.specs.Prelude.{replicate}
use Rattle.std.specs.List.{take-map, drop-map}
use Rattle.std.proofs.lemmas.List.{map-append}
use Rattle.std.proofs.lemmas.List.Elements.{All-take, All-append, All-replicate}
use Rattle.gate_model.specs.Tree.{Tree, Signed}
use Rattle.gate_model.specs.Makers.{tree_gates}
use Rattle.gate_net.specs.declared.literals.Lit.{Lit}
use Rattle.gate_net.specs.Trees.{signed_of, all_signed_of, Extends}
use Rattle.word_bits.specs.Circuits.{bit_at, choose, byte_at, named_byte, pair, halves}
use Rattle.gate_net.specs.Lits.{AreNamed}
use Rattle.word_gates.specs.Lits.{HasYes, AreMade}
use Rattle.word_gates.proofs.NetLemmas.{kept, kept_all, lit_at, below_at, turns}
use Rattle.word_gates.proofs.MoveLemmas.{no_lit, trees_same, no_lit_tree}

pub byte_trees : (net : List Tree) (k : ℕ) (a : List Lit) → all_signed_of net (take 8 (drop k a)) ≡ byte_at tree_gates k (all_signed_of net a)
byte_trees net k a = sym (take-map (signed_of net) 8 (drop k a)) ∙ ap (take 8) (sym (drop-map (signed_of net) k a))

bit_tree : (net : List Tree) (b : List Lit) (i : ℕ) → i < length b → signed_of net (lit_at b i) ≡ bit_at tree_gates i (all_signed_of net b)
bit_tree net [] i h = absurd (omega arith)
bit_tree net (x ∷ xs) zero h = refl
bit_tree net (x ∷ xs) (suc i) h = bit_tree net xs i (omega arith)

pub named_trees : (n0 n1 n2 n3 : List Tree) (a b upper lower byte : List Lit) → Extends n0 n1 → Extends n1 n2 → Extends n2 n3 → HasYes n3 → AreNamed (length n0) a → AreNamed (length n0) b → AreNamed (length n1) upper → 1 < length b →
    all_signed_of n1 upper ≡ choose tree_gates (signed_of n0 (lit_at b 0)) (byte_at tree_gates 24 (all_signed_of n0 a)) (byte_at tree_gates 16 (all_signed_of n0 a)) →
    all_signed_of n2 lower ≡ choose tree_gates (signed_of n1 (lit_at b 0)) (byte_at tree_gates 8 (all_signed_of n1 a)) (byte_at tree_gates 0 (all_signed_of n1 a)) →
    all_signed_of n3 byte ≡ choose tree_gates (signed_of n2 (lit_at b 1)) (all_signed_of n2 upper) (all_signed_of n2 lower) →
    all_signed_of n3 (byte ++ replicate 24 no_lit) ≡ named_byte tree_gates (all_signed_of n0 a) (all_signed_of n0 b)
named_trees n0 n1 n2 n3 a b upper lower byte g h k has a_below b_below upper_below two e f m =
    let A : List Signed = all_signed_of n0 a in
    let B0 : Signed = bit_at tree_gates 0 (all_signed_of n0 b) in
    let B1 : Signed = bit_at tree_gates 1 (all_signed_of n0 b) in
    let b0 : signed_of n0 (lit_at b 0) ≡ B0 = bit_tree n0 b 0 (omega arith) in
    let b0_later : signed_of n1 (lit_at b 0) ≡ B0 = kept n0 n1 (lit_at b 0) g (below_at (length n0) b 0 b_below (omega arith)) ∙ b0 in
    let b1 : signed_of n2 (lit_at b 1) ≡ B1 = kept n0 n2 (lit_at b 1) (turns n0 n1 n2 g h) (below_at (length n0) b 1 b_below two) ∙ bit_tree n0 b 1 two in
    let U : List Signed = choose tree_gates B0 (byte_at tree_gates 24 A) (byte_at tree_gates 16 A) in
    let L : List Signed = choose tree_gates B0 (byte_at tree_gates 8 A) (byte_at tree_gates 0 A) in
    let u : all_signed_of n2 upper ≡ U = kept_all n1 n2 upper h upper_below ∙ e ∙ ap (λ c. choose tree_gates c (byte_at tree_gates 24 A) (byte_at tree_gates 16 A)) b0 in
    let l : all_signed_of n2 lower ≡ L = f ∙ ap (λ c. choose tree_gates c (byte_at tree_gates 8 (all_signed_of n1 a)) (byte_at tree_gates 0 (all_signed_of n1 a))) b0_later ∙ ap (λ x. choose tree_gates B0 (byte_at tree_gates 8 x) (byte_at tree_gates 0 x)) (kept_all n0 n1 a g a_below) in
    map-append (signed_of n3) byte (replicate 24 no_lit)
    ∙ ap (λ ts. ts ++ all_signed_of n3 (replicate 24 no_lit)) (m ∙ ap (λ c. choose tree_gates c (all_signed_of n2 upper) (all_signed_of n2 lower)) b1 ∙ ap (λ x. choose tree_gates B1 x (all_signed_of n2 lower)) u ∙ ap (choose tree_gates B1 U) l)
    ∙ ap (λ ts. choose tree_gates B1 U L ++ ts) (trees_same n3 24 no_lit ∙ ap (replicate 24) (no_lit_tree n3 has))

taken_trees : (net : List Tree) (n : ℕ) (a : List Lit) → all_signed_of net (take n a) ≡ take n (all_signed_of net a)
taken_trees net n a = sym (take-map (signed_of net) n a)

pub pair_trees : (a b : List Lit) → AreMade ((take 8 a ++ take 8 b) ++ replicate 16 no_lit) (λ net. pair tree_gates (all_signed_of net a) (all_signed_of net b))
pair_trees a b net has =
    ap (all_signed_of net) (append_assoc (take 8 a) (take 8 b) (replicate 16 no_lit))
    ∙ map-append (signed_of net) (take 8 a) (take 8 b ++ replicate 16 no_lit) ∙ ap (λ ts. ts ++ all_signed_of net (take 8 b ++ replicate 16 no_lit)) (taken_trees net 8 a)
    ∙ ap (λ ts. take 8 (all_signed_of net a) ++ ts) (map-append (signed_of net) (take 8 b) (replicate 16 no_lit) ∙ ap (λ ts. ts ++ all_signed_of net (replicate 16 no_lit)) (taken_trees net 8 b) ∙ ap (λ ts. take 8 (all_signed_of net b) ++ ts) (trees_same net 16 no_lit ∙ ap (replicate 16) (no_lit_tree net has)))

pub halves_trees : (a b : List Lit) → AreMade (take 16 a ++ take 16 b) (λ net. halves tree_gates (all_signed_of net a) (all_signed_of net b))
halves_trees a b net has = map-append (signed_of net) (take 16 a) (take 16 b) ∙ ap (λ ts. ts ++ all_signed_of net (take 16 b)) (taken_trees net 16 a) ∙ ap (λ ts. take 16 (all_signed_of net a) ++ ts) (taken_trees net 16 b)

below_taken : (n k : ℕ) (a : List Lit) → AreNamed n a → AreNamed n (take k a)
below_taken n k a h = All-take (λ (l : Lit). l.name < n) k a h

pub halves_below : (a b : List Lit) (n : ℕ) → 0 < n → AreNamed n a → AreNamed n b → AreNamed n (take 16 a ++ take 16 b)
halves_below a b n some h k = All-append (λ (l : Lit). l.name < n) (take 16 a) (take 16 b) (below_taken n 16 a h) (below_taken n 16 b k)

pub pair_below : (a b : List Lit) (n : ℕ) → 0 < n → AreNamed n a → AreNamed n b → AreNamed n ((take 8 a ++ take 8 b) ++ replicate 16 no_lit)
pair_below a b n some h k = All-append (λ (l : Lit). l.name < n) (take 8 a ++ take 8 b) (replicate 16 no_lit) (All-append (λ (l : Lit). l.name < n) (take 8 a) (take 8 b) (below_taken n 8 a h) (below_taken n 8 b k)) (All-replicate (λ (l : Lit). l.name < n) 16 no_lit some)

pub halves_width : (a b : List Lit) → length a ≡ 32 → length b ≡ 32 → length (take 16 a ++ take 16 b) ≡ 32
halves_width a b e f = omega (arith, length-append (take 16 a) (take 16 b), length-take 16 a, length-take 16 b)
