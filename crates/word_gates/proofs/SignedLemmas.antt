-- Signed words.
use Rattle.std.proofs.Common.{◌≡◌, ◌<◌, List, true, length, take, sym, ap, ◌∙◌}
use Rattle.std.specs.Prelude.{replicate}
use Rattle.std.specs.List.{take-map}
use Rattle.std.proofs.lemmas.List.{length-map}
use Rattle.gate_model.specs.Tree.{Tree, Signed}
use Rattle.gate_model.specs.Makers.{yes as yes_tree, no as no_tree, xor_gate, tree_gates}
use Rattle.gate_net.specs.declared.literals.Lit.{Lit}
use Rattle.gate_net.specs.Trees.{signed_of, all_signed_of, Extends}
use Rattle.word_bits.specs.Circuits.{nos, nots, sum, choose, equal, negate, signed_by, rest_of, remainder}
use Rattle.gate_net.specs.Lits.{AreNamed}
use Rattle.word_gates.specs.Lits.{HasYes}
use Rattle.word_gates.proofs.NetLemmas.{kept, kept_all}
use Rattle.word_gates.proofs.MoveLemmas.{no_lit, trees_same, no_lit_tree}

-- as many times no as a word has bits
pub zeros_trees : (old net : List Tree) (a : List Lit) → HasYes net → all_signed_of net (replicate (length a) no_lit) ≡ replicate (length (all_signed_of old a)) no_tree
zeros_trees old net a has = trees_same net (length a) no_lit ∙ ap (replicate (length a)) (no_lit_tree net has) ∙ ap (λ n. replicate n no_tree) (sym (length-map a (signed_of old)))

pub negate_trees : (old net : List Tree) (a zeros r : List Lit) → HasYes old → zeros ≡ replicate (length a) no_lit → all_signed_of net r ≡ sum tree_gates yes_tree (all_signed_of old zeros) (nots tree_gates (all_signed_of old a)) → all_signed_of net r ≡ negate tree_gates (all_signed_of old a)
negate_trees old net a zeros r has e f = f ∙ ap (λ z. sum tree_gates yes_tree z (nots tree_gates (all_signed_of old a))) (ap (all_signed_of old) e ∙ zeros_trees old old a has)

pub signed_by_trees : (old mid net : List Tree) (turned : Lit) (a negative r : List Lit) → Extends old mid → turned.name < length old → AreNamed (length old) a → all_signed_of mid negative ≡ negate tree_gates (all_signed_of old a) →
    all_signed_of net r ≡ choose tree_gates (signed_of mid turned) (all_signed_of mid negative) (all_signed_of mid a) → all_signed_of net r ≡ signed_by tree_gates (signed_of old turned) (all_signed_of old a)
signed_by_trees old mid net turned a negative r grows t below e f =
    f ∙ ap (λ c. choose tree_gates c (all_signed_of mid negative) (all_signed_of mid a)) (kept old mid turned grows t)
    ∙ ap (λ n. choose tree_gates (signed_of old turned) n (all_signed_of mid a)) e ∙ ap (choose tree_gates (signed_of old turned) (negate tree_gates (all_signed_of old a))) (kept_all old mid a grows below)

pub remainder_trees : (old net : List Tree) (b left r : List Lit) (A : List Signed) → all_signed_of net left ≡ rest_of tree_gates A (all_signed_of old b) → r ≡ take (length b) left → all_signed_of net r ≡ remainder tree_gates A (all_signed_of old b)
remainder_trees old net b left r A e f = ap (all_signed_of net) f ∙ sym (take-map (signed_of net) (length b) left) ∙ ap (take (length b)) e ∙ ap (λ n. take n (rest_of tree_gates A (all_signed_of old b))) (sym (length-map b (signed_of old)))

pub by_signs : (n0 n1 n2 n3 : List Tree) (first second turned : Lit) (q made : List Lit) (A B : Signed) (Q : List Signed) → Extends n0 n1 → Extends n1 n2 → first.name < length n0 → second.name < length n0 → AreNamed (length n1) q →
    signed_of n0 first ≡ A → signed_of n0 second ≡ B → all_signed_of n1 q ≡ Q → signed_of n2 turned ≡ xor_gate (signed_of n1 first) (signed_of n1 second) →
    all_signed_of n3 made ≡ signed_by tree_gates (signed_of n2 turned) (all_signed_of n2 q) → all_signed_of n3 made ≡ signed_by tree_gates (xor_gate A B) Q
by_signs n0 n1 n2 n3 first second turned q made A B Q g h f_below s_below q_below a b e t m =
    let first_is : signed_of n1 first ≡ A = kept n0 n1 first g f_below ∙ a in
    let second_is : signed_of n1 second ≡ B = kept n0 n1 second g s_below ∙ b in
    m ∙ ap (λ c. signed_by tree_gates c (all_signed_of n2 q)) (t ∙ ap (λ x. xor_gate x (signed_of n1 second)) first_is ∙ ap (xor_gate A) second_is) ∙ ap (signed_by tree_gates (xor_gate A B)) (kept_all n1 n2 q h q_below ∙ e)

yes_lit_tree : (net : List Tree) → HasYes net → signed_of net (record { name = 0; positive = true }) ≡ yes_tree
yes_lit_tree net e = ap (λ t. record { tree = t; positive = true }) e

pub final_quotient : (n0 n1 n2 n3 : List Tree) (b q r : List Lit) (zero : Lit) (Q : List Signed) → Extends n0 n1 → Extends n1 n2 → HasYes n2 → AreNamed (length n0) b → AreNamed (length n1) q → all_signed_of n1 q ≡ Q →
    signed_of n2 zero ≡ equal tree_gates (all_signed_of n1 b) (nos tree_gates (length (all_signed_of n1 b))) →
    all_signed_of n3 r ≡ choose tree_gates (signed_of n2 zero) (all_signed_of n2 (replicate (length b) (record { name = 0; positive = true }))) (all_signed_of n2 q) →
    all_signed_of n3 r ≡ choose tree_gates (equal tree_gates (all_signed_of n0 b) (nos tree_gates (length (all_signed_of n0 b)))) (replicate (length (all_signed_of n0 b)) yes_tree) Q
final_quotient n0 n1 n2 n3 b q r zero Q g h has b_below q_below e z m =
    let ones : List Lit = replicate (length b) (record { name = 0; positive = true }) in
    let ones_are : all_signed_of n2 ones ≡ replicate (length (all_signed_of n0 b)) yes_tree = trees_same n2 (length b) (record { name = 0; positive = true }) ∙ ap (replicate (length b)) (yes_lit_tree n2 has) ∙ ap (λ n. replicate n yes_tree) (sym (length-map b (signed_of n0))) in
    m ∙ ap (λ c. choose tree_gates c (all_signed_of n2 ones) (all_signed_of n2 q)) (z ∙ ap (λ l. equal tree_gates l (nos tree_gates (length l))) (kept_all n0 n1 b g b_below))
    ∙ ap (λ l. choose tree_gates (equal tree_gates (all_signed_of n0 b) (nos tree_gates (length (all_signed_of n0 b)))) l (all_signed_of n2 q)) ones_are
    ∙ ap (choose tree_gates (equal tree_gates (all_signed_of n0 b) (nos tree_gates (length (all_signed_of n0 b)))) (replicate (length (all_signed_of n0 b)) yes_tree)) (kept_all n1 n2 q h q_below ∙ e)
