-- Lits of a net that grows keep their trees.
use Rattle.std.proofs.Common.{◌≡◌, ℕ, zero, suc, ◌+◌, ◌<◌, List, [], ◌∷◌, ◌++◌, length, drop, refl, ap, ◌∙◌, arith}
use Rattle.std.specs.Prelude.{slice_index_or, false}
use Rattle.std.proofs.lemmas.List.{map-append}
use Rattle.std.proofs.lemmas.List.Elements.{All-head, All-tail, All-weaker, All-push}
use Rattle.gate_model.specs.Tree.{Tree}
use Rattle.gate_net.specs.declared.literals.Lit.{Lit}
use Rattle.gate_net.specs.Lits.{AreNamed}
use Rattle.gate_net.specs.Trees.{signed_of, all_signed_of, Extends}

pub kept : (old new : List Tree) (l : Lit) → Extends old new → l.name < length old → signed_of new l ≡ signed_of old l
kept old new l k h = ap (λ t. record { tree = t; positive = l.positive }) (k.same l.name h)

pub still : (old new : List Tree) (l : Lit) → Extends old new → l.name < length old → l.name < length new
still old new l k h = omega (arith, k.longer)

pub itself : (net : List Tree) → Extends net net
itself net = record { longer = omega arith; same = λ name h. refl }

pub turns : (old mid new : List Tree) → Extends old mid → Extends mid new → Extends old new
turns old mid new k l = record {
  longer = omega (arith, k.longer, l.longer);
  same = λ name h. l.same name (omega (arith, k.longer)) ∙ k.same name h;
}

pub kept_all : (old new : List Tree) (ls : List Lit) → Extends old new → AreNamed (length old) ls → all_signed_of new ls ≡ all_signed_of old ls
kept_all old new [] k h = refl
kept_all old new (l ∷ ls) k h =
    ap (λ t. t ∷ all_signed_of new ls) (kept old new l k (All-head (λ (l : Lit). l.name < length old) l ls h)) ∙ ap (λ ts. signed_of old l ∷ ts) (kept_all old new ls k (All-tail (λ (l : Lit). l.name < length old) l ls h))

pub still_all : (old new : List Tree) (ls : List Lit) → Extends old new → AreNamed (length old) ls → AreNamed (length new) ls
still_all old new ls k h = All-weaker (λ (l : Lit). l.name < length old) (λ (l : Lit). l.name < length new) (λ l b. still old new l k b) ls h

-- the Lit at a place, as code reads it
abbrev pub lit_at : List Lit → ℕ → Lit
lit_at ls i = slice_index_or ls i (record { name = 0; positive = false })

pub drop_at : (ls : List Lit) (i : ℕ) → i < length ls → drop i ls ≡ lit_at ls i ∷ drop (i + 1) ls
drop_at ls i h = let more : suc i ≡ i + 1 = omega arith in go ls i h ∙ ap (λ n. lit_at ls i ∷ drop n ls) more
  where
    go : (ls : List Lit) (i : ℕ) → i < length ls → drop i ls ≡ lit_at ls i ∷ drop (suc i) ls
    go [] i h = absurd (omega arith)
    go (l ∷ ls) zero h = refl
    go (l ∷ ls) (suc i) h = go ls i (omega arith)

pub below_at : (n : ℕ) (ls : List Lit) (i : ℕ) → AreNamed n ls → i < length ls → (lit_at ls i).name < n
below_at n ls i h l = h i (record { name = 0; positive = false }) l

pub below_push : (n : ℕ) (xs : List Lit) (x : Lit) → AreNamed n xs → x.name < n → AreNamed n (xs ++ x ∷ [])
below_push n xs x h l = All-push (λ (l : Lit). l.name < n) xs x h l

pub trees_push : (net : List Tree) (xs : List Lit) (x : Lit) → all_signed_of net (xs ++ x ∷ []) ≡ all_signed_of net xs ++ signed_of net x ∷ []
trees_push net xs x = map-append (signed_of net) xs (x ∷ [])

pub drop_all : {X : Type 0} (xs : List X) → drop (length xs) xs ≡ []
drop_all [] = refl
drop_all (x ∷ xs) = drop_all xs

pub append_none : {X : Type 0} (xs : List X) → xs ++ [] ≡ xs
append_none [] = refl
append_none (x ∷ xs) = ap (λ ys. x ∷ ys) (append_none xs)
