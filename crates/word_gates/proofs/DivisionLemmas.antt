-- Division bit by bit, so far.
use Rattle.std.proofs.Common.{◌≡◌, ℕ, suc, ◌+◌, ◌<◌, List, [], ◌∷◌, ◌++◌, length, drop, refl, sym, ap, ◌∙◌, subst, arith, length-append}
use Rattle.std.specs.Prelude.{replicate}
use Rattle.std.proofs.lemmas.List.{map-append, length-map, length-replicate}
use Rattle.std.proofs.lemmas.List.Elements.{All-replicate, All-cons, All-nil, All-push}
use Rattle.gate_model.specs.Tree.{Tree, Signed}
use Rattle.gate_model.specs.Makers.{yes as yes_tree, no as no_tree, tree_gates}
use Rattle.gate_net.specs.declared.literals.Lit.{Lit}
use Rattle.gate_net.specs.Trees.{signed_of, all_signed_of, Extends}
use Rattle.word_bits.specs.Circuits.{nots, sum, carry, choose, shift_in, rest_of, quotient}
use Rattle.gate_net.specs.Lits.{AreNamed}
use Rattle.word_gates.specs.Lits.{HasYes, AreMade}
use Rattle.word_gates.proofs.NetLemmas.{kept, kept_all, still_all, itself, turns, lit_at, drop_at, below_at, drop_all}
use Rattle.word_gates.proofs.MoveLemmas.{no_lit, trees_same, no_lit_tree}

pub still_yes : (old new : List Tree) → Extends old new → 0 < length old → HasYes old → HasYes new
still_yes old new k h e = k.same 0 h ∙ e

-- a step leaves the difference or what was left
pub left_trees : (old mid next : List Tree) (left bits more : List Lit) (fits : Lit) (C : Signed) (S : List Signed) → Extends old mid → AreNamed (length old) left → signed_of mid fits ≡ C → all_signed_of mid bits ≡ S →
    all_signed_of next more ≡ choose tree_gates (signed_of mid fits) (all_signed_of mid bits) (all_signed_of mid left) → all_signed_of next more ≡ choose tree_gates C S (all_signed_of old left)
left_trees old mid next left bits more fits C S grows below c s m =
    m ∙ ap (λ x. choose tree_gates x (all_signed_of mid bits) (all_signed_of mid left)) c ∙ ap (λ x. choose tree_gates C x (all_signed_of mid left)) s ∙ ap (choose tree_gates C S) (kept_all old mid left grows below)

pub record IsDividing (start now : List Tree) (a b divisor left quot : List Lit) (done : ℕ) : Type 0 where
  pub keeps : Extends start now
  pub has : HasYes now
  pub some : 0 < length now
  pub divisor_is : divisor ≡ b ++ no_lit ∷ []
  pub divisor_below : AreNamed (length now) divisor
  pub left_below : AreNamed (length now) left
  pub quotient_below : AreNamed (length now) quot
  pub left_width : length left ≡ length divisor
  pub quotient_width : length quot ≡ done
  pub left_is : (i : ℕ) → i + done ≡ length a → all_signed_of now left ≡ rest_of tree_gates (all_signed_of start (drop i a)) (all_signed_of start b)
  pub quotient_is : (i : ℕ) → i + done ≡ length a → all_signed_of now quot ≡ quotient tree_gates (all_signed_of start (drop i a)) (all_signed_of start b)

wide_below : (n : ℕ) (b : List Lit) → 0 < n → AreNamed n b → AreNamed n (b ++ no_lit ∷ [])
wide_below n b h below = All-push (λ (l : Lit). l.name < n) b no_lit below h

pub dividing_start : (start : List Tree) (a b divisor left : List Lit) → HasYes start → 0 < length start → AreNamed (length start) b → divisor ≡ b ++ no_lit ∷ [] → left ≡ replicate (length divisor) no_lit → IsDividing start start a b divisor left [] 0
dividing_start start a b divisor left has some below e f =
    let w : length divisor ≡ suc (length b) = ap length e ∙ length-append b (no_lit ∷ []) ∙ omega arith in
    record {
      keeps = itself start;
      has = has;
      some = some;
      divisor_is = e;
      divisor_below = subst (AreNamed (length start)) (sym e) (wide_below (length start) b some below);
      left_below = subst (AreNamed (length start)) (sym f) (All-replicate (λ (l : Lit). l.name < length start) (length divisor) no_lit some);
      quotient_below = All-nil (λ (l : Lit). l.name < length start);
      left_width = ap length f ∙ length-replicate (length divisor) no_lit;
      quotient_width = refl;
      left_is = λ i h.
          let whole : i ≡ length a = omega arith in
          ap (all_signed_of start) (f ∙ ap (λ n. replicate n no_lit) w) ∙ trees_same start (suc (length b)) no_lit ∙ ap (replicate (suc (length b))) (no_lit_tree start has) ∙ ap (λ n. replicate (suc n) no_tree) (sym (length-map b (signed_of start)))
          ∙ ap (λ l. rest_of tree_gates (all_signed_of start l) (all_signed_of start b)) (sym (ap (λ n. drop n a) whole ∙ drop_all a));
      quotient_is = λ i h.
          let whole : i ≡ length a = omega arith in
          ap (λ l. quotient tree_gates (all_signed_of start l) (all_signed_of start b)) (sym (ap (λ n. drop n a) whole ∙ drop_all a));
    }

module _ (start now next : List Tree) (a b divisor left quot shifted more : List Lit) (fits : Lit) (i done : ℕ) (so : IsDividing start now a b divisor left quot done) (first : AreNamed (length start) a) (second : AreNamed (length start) b) (at : i + 1 + done ≡ length a) (grows : Extends now next) where
  X : Signed
  X = signed_of start (lit_at a i)

  B : List Signed
  B = all_signed_of start b

  L : List Signed
  L = rest_of tree_gates (all_signed_of start (drop (i + 1) a)) (all_signed_of start b)

  in_a : i < length a
  in_a = omega (arith, at)

  divisor_trees : all_signed_of now divisor ≡ all_signed_of start b ++ no_tree ∷ []
  divisor_trees = ap (all_signed_of now) so.divisor_is ∙ map-append (signed_of now) b (no_lit ∷ []) ∙ ap (λ ts. ts ++ signed_of now no_lit ∷ []) (kept_all start now b so.keeps second) ∙ ap (λ t. all_signed_of start b ++ t ∷ []) (no_lit_tree now so.has)

  next_drop : all_signed_of start (drop i a) ≡ signed_of start (lit_at a i) ∷ all_signed_of start (drop (i + 1) a)
  next_drop = ap (all_signed_of start) (drop_at a i in_a)

  shifted_trees : AreMade shifted (λ net. shift_in tree_gates (signed_of net (lit_at a i)) (all_signed_of net left)) → all_signed_of now shifted ≡ shift_in tree_gates (signed_of start (lit_at a i)) (rest_of tree_gates (all_signed_of start (drop (i + 1) a)) (all_signed_of start b))
  shifted_trees e =
      e now so.has ∙ ap (λ x. shift_in tree_gates x (all_signed_of now left)) (kept start now (lit_at a i) so.keeps (below_at (length start) a i first in_a))
      ∙ ap (shift_in tree_gates (signed_of start (lit_at a i))) (so.left_is (i + 1) at)

  pub dividing_more : AreMade shifted (λ net. shift_in tree_gates (signed_of net (lit_at a i)) (all_signed_of net left)) → length shifted ≡ length left → fits.name < length next → AreNamed (length next) more → length more ≡ length shifted →
      signed_of next fits ≡ carry tree_gates yes_tree (all_signed_of now shifted) (nots tree_gates (all_signed_of now divisor)) →
      all_signed_of next more ≡ choose tree_gates (carry tree_gates yes_tree (all_signed_of now shifted) (nots tree_gates (all_signed_of now divisor))) (sum tree_gates yes_tree (all_signed_of now shifted) (nots tree_gates (all_signed_of now divisor))) (all_signed_of now shifted) →
      IsDividing start next a b divisor more (fits ∷ quot) (done + 1)
  dividing_more e w fits_below more_below width f g =
      let S : List Signed = shift_in tree_gates (signed_of start (lit_at a i)) (rest_of tree_gates (all_signed_of start (drop (i + 1) a)) (all_signed_of start b)) in
      let s = shifted_trees e in
      let D : List Signed = all_signed_of start b ++ no_tree ∷ [] in
      let f' : signed_of next fits ≡ carry tree_gates yes_tree S (nots tree_gates D) = f ∙ ap (λ x. carry tree_gates yes_tree x (nots tree_gates (all_signed_of now divisor))) s ∙ ap (λ d. carry tree_gates yes_tree S (nots tree_gates d)) divisor_trees in
      let step : List Signed → List Signed → List Signed = λ x d. choose tree_gates (carry tree_gates yes_tree x (nots tree_gates d)) (sum tree_gates yes_tree x (nots tree_gates d)) x in
      let g' : all_signed_of next more ≡ step S D = g ∙ ap (λ x. step x (all_signed_of now divisor)) s ∙ ap (step S) divisor_trees in
      record {
        keeps = turns start now next so.keeps grows;
        has = still_yes now next grows so.some so.has;
        some = omega (arith, so.some, grows.longer);
        divisor_is = so.divisor_is;
        divisor_below = still_all now next divisor grows so.divisor_below;
        left_below = more_below;
        quotient_below = All-cons (λ (l : Lit). l.name < length next) fits quot fits_below (still_all now next quot grows so.quotient_below);
        left_width = width ∙ w ∙ so.left_width;
        quotient_width = let one : suc done ≡ done + 1 = omega arith in ap suc so.quotient_width ∙ one;
        left_is = λ j h.
            let same : j ≡ i = omega (arith, at) in
            g' ∙ ap (λ l. rest_of tree_gates l (all_signed_of start b)) (sym next_drop) ∙ ap (λ k. rest_of tree_gates (all_signed_of start (drop k a)) (all_signed_of start b)) (sym same);
        quotient_is = λ j h.
            let same : j ≡ i = omega (arith, at) in
            ap (λ t. t ∷ all_signed_of next quot) f' ∙ ap (λ ts. carry tree_gates yes_tree S (nots tree_gates D) ∷ ts) (kept_all now next quot grows so.quotient_below ∙ so.quotient_is (i + 1) at)
            ∙ ap (λ l. quotient tree_gates l (all_signed_of start b)) (sym next_drop) ∙ ap (λ k. quotient tree_gates (all_signed_of start (drop k a)) (all_signed_of start b)) (sym same);
      }
