-- Words of Lits that are moved.
use Rattle.std.proofs.Common.{◌≡◌, ℕ, zero, suc, ◌+◌, ◌<◌, ◌≤◌, List, [], ◌∷◌, ◌++◌, length, take, drop, refl, sym, ap, ◌∙◌, arith, length-append, length-drop, length-take}
use Rattle.std.specs.Prelude.{map, replicate, false}
use Rattle.std.specs.Prelude.{not as opposite}
use Rattle.std.specs.Prelude.{Result, Ok, Err, IfOk}
use Rattle.word_gates.proofs.NetLemmas.{lit_at}
use Rattle.std.specs.List.{take-map, drop-map}
use Rattle.std.proofs.lemmas.List.{map-append, length-map, length-replicate}
use Rattle.std.proofs.lemmas.List.Elements.{All-take, All-drop, All-append, All-replicate, All-map}
use Rattle.gate_model.specs.Tree.{Tree, Signed}
use Rattle.gate_model.specs.Makers.{no, negation, tree_gates}
use Rattle.gate_net.specs.declared.literals.Lit.{Lit}
use Rattle.gate_net.specs.Trees.{signed_of, all_signed_of}
use Rattle.word_bits.specs.Circuits.{nots, shift_in, up, down}
use Rattle.gate_net.specs.Lits.{AreNamed}
use Rattle.word_gates.specs.Lits.{HasYes, AreMade, KeepBelow}

abbrev pub no_lit : Lit
no_lit = record { name = 0; positive = false }

pub trees_same : (net : List Tree) (k : ℕ) (l : Lit) → all_signed_of net (replicate k l) ≡ replicate k (signed_of net l)
trees_same net zero l = refl
trees_same net (suc k) l = ap (λ ts. signed_of net l ∷ ts) (trees_same net k l)

pub no_lit_tree : (net : List Tree) → HasYes net → signed_of net no_lit ≡ no
no_lit_tree net e = ap (λ t. record { tree = t; positive = false }) e

pub moved_up : (k : ℕ) (a : List Lit) → AreMade (take (length a) (replicate k no_lit ++ a)) (λ net. up tree_gates k (all_signed_of net a))
moved_up k a net e =
    sym (take-map (signed_of net) (length a) (replicate k no_lit ++ a))
    ∙ ap (λ n. take n (all_signed_of net (replicate k no_lit ++ a))) (sym (length-map a (signed_of net)))
    ∙ ap (take (length (all_signed_of net a))) (map-append (signed_of net) (replicate k no_lit) a ∙ ap (λ ts. ts ++ all_signed_of net a) (trees_same net k no_lit ∙ ap (replicate k) (no_lit_tree net e)))

pub moved_down : (fill : Lit) (k : ℕ) (a : List Lit) → AreMade (drop k (a ++ replicate k fill)) (λ net. down tree_gates (signed_of net fill) k (all_signed_of net a))
moved_down fill k a net e =
    sym (drop-map (signed_of net) k (a ++ replicate k fill)) ∙ ap (drop k) (map-append (signed_of net) a (replicate k fill) ∙ ap (λ ts. all_signed_of net a ++ ts) (trees_same net k fill))

pub moved_in : (lowest : Lit) (a : List Lit) → AreMade (take (length a) (lowest ∷ a)) (λ net. shift_in tree_gates (signed_of net lowest) (all_signed_of net a))
moved_in lowest a net e = sym (take-map (signed_of net) (length a) (lowest ∷ a)) ∙ ap (λ n. take n (all_signed_of net (lowest ∷ a))) (sym (length-map a (signed_of net)))

pub below_up : (k : ℕ) (a : List Lit) → KeepBelow a (take (length a) (replicate k no_lit ++ a))
below_up k a n h b = All-take (λ (l : Lit). l.name < n) (length a) (replicate k no_lit ++ a) (All-append (λ (l : Lit). l.name < n) (replicate k no_lit) a (All-replicate (λ (l : Lit). l.name < n) k no_lit h) b)

pub below_down : (fill : Lit) (k : ℕ) (a : List Lit) (n : ℕ) → fill.name < n → AreNamed n a → AreNamed n (drop k (a ++ replicate k fill))
below_down fill k a n h b = All-drop (λ (l : Lit). l.name < n) k (a ++ replicate k fill) (All-append (λ (l : Lit). l.name < n) a (replicate k fill) b (All-replicate (λ (l : Lit). l.name < n) k fill h))

pub below_in : (lowest : Lit) (a : List Lit) (n : ℕ) → lowest.name < n → AreNamed n a → AreNamed n (take (length a) (lowest ∷ a))
below_in lowest a n h b = All-take (λ (l : Lit). l.name < n) (length a) (lowest ∷ a) (All-append (λ (l : Lit). l.name < n) (lowest ∷ []) a (All-replicate (λ (l : Lit). l.name < n) 1 lowest h) b)

pub width_up : (k : ℕ) (a : List Lit) → length (take (length a) (replicate k no_lit ++ a)) ≡ length a
width_up k a = omega (arith, length-take (length a) (replicate k no_lit ++ a), length-append (replicate k no_lit) a)

pub width_down : (fill : Lit) (k : ℕ) (a : List Lit) → length (drop k (a ++ replicate k fill)) ≡ length a
width_down fill k a = omega (arith, length-drop k (a ++ replicate k fill), length-append a (replicate k fill), length-replicate k fill)

pub width_in : (lowest : Lit) (a : List Lit) → length (take (length a) (lowest ∷ a)) ≡ length a
width_in lowest a = omega (arith, length-take (length a) (lowest ∷ a))

-- a word with no above
pub below_filled : (n k : ℕ) (bits : List Lit) → 0 < n → AreNamed n bits → AreNamed n (bits ++ replicate k no_lit)
below_filled n k bits some below = All-append (λ (l : Lit). l.name < n) bits (replicate k no_lit) below (All-replicate (λ (l : Lit). l.name < n) k no_lit some)

pub width_filled : (k : ℕ) (bits : List Lit) → length (bits ++ replicate k no_lit) ≡ length bits + k
width_filled k bits = length-append bits (replicate k no_lit) ∙ ap (λ n. length bits + n) (length-replicate k no_lit)

-- the other sign
abbrev pub turned : Lit → Lit
turned l = record { name = l.name; positive = opposite l.positive }

pub turned_is : (l r : Lit) → r.name ≡ l.name → ((trees : List Tree) → signed_of trees r ≡ negation (signed_of trees l)) → r ≡ turned l
turned_is l r e f = ap (λ n. record { name = n; positive = r.positive }) e ∙ ap (λ (s : Signed). record { name = l.name; positive = s.positive }) (f [])

pub turned_trees : (a : List Lit) (net : List Tree) → all_signed_of net (map turned a) ≡ nots tree_gates (all_signed_of net a)
turned_trees [] net = refl
turned_trees (l ∷ ls) net = ap (λ ts. negation (signed_of net l) ∷ ts) (turned_trees ls net)

pub turned_below : (a : List Lit) → KeepBelow a (map turned a)
turned_below a n h b = All-map (λ (l : Lit). l.name < n) turned a b

pub map_more : (f : Lit → Lit) (ls : List Lit) (i : ℕ) → i < length ls → map f (take (i + 1) ls) ≡ map f (take i ls) ++ f (lit_at ls i) ∷ []
map_more f ls i h = let more : i + 1 ≡ suc i = omega arith in ap (λ n. map f (take n ls)) more ∙ go ls i h
  where
    go : (ls : List Lit) (i : ℕ) → i < length ls → map f (take (suc i) ls) ≡ map f (take i ls) ++ f (lit_at ls i) ∷ []
    go [] i h = absurd (omega arith)
    go (l ∷ ls) zero h = refl
    go (l ∷ ls) (suc i) h = ap (λ zs. f l ∷ zs) (go ls i (omega arith))

pub all_taken : (ls : List Lit) (i : ℕ) → length ls ≤ i → take i ls ≡ ls
all_taken [] zero h = refl
all_taken [] (suc i) h = refl
all_taken (l ∷ ls) zero h = absurd (omega arith)
all_taken (l ∷ ls) (suc i) h = ap (λ zs. l ∷ zs) (all_taken ls i (omega arith))

-- what follows of an Ok
pub IfOk-then : {T E : Type 0} {P Q : T → Type 0} (r : Result T E) → IfOk r P → ((t : T) → P t → Q t) → IfOk r Q
IfOk-then (Ok t) h f = f t h
IfOk-then (Err e) h f = tt
