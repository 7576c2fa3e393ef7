-- Gates at each place, so far.
use Rattle.std.proofs.Common.{◌≡◌, ℕ, ◌+◌, ◌<◌, List, [], ◌∷◌, ◌++◌, length, drop, refl, sym, ap, ◌∙◌, arith, append_assoc, length-append}
use Rattle.gate_model.specs.Tree.{Tree, Signed}
use Rattle.gate_model.specs.Makers.{tree_gates}
use Rattle.gate_net.specs.declared.literals.Lit.{Lit}
use Rattle.gate_net.specs.Trees.{signed_of, all_signed_of, Extends}
use Rattle.word_bits.specs.Circuits.{at_each}
use Rattle.word_gates.specs.declared.bitwise.BitGate.{BitGate}
use Rattle.word_gates.specs.declared.bitwise.BitGate.TheVariants as gate
use Rattle.gate_net.specs.Lits.{AreNamed}
use Rattle.word_gates.specs.Places.{gate_of, BelongsTo}
use Rattle.word_gates.proofs.NetLemmas.{kept, still, kept_all, still_all, itself, turns, lit_at, drop_at, below_at, below_push, trees_push, drop_all, append_none}

pub record IsMadeSoFar (start now : List Tree) (f : BitGate) (a b bits : List Lit) (i : ℕ) : Type 0 where
  pub keeps : Extends start now
  pub gate : BelongsTo (length now) f
  pub below : AreNamed (length now) bits
  pub so_far : all_signed_of now bits ++ at_each tree_gates (gate_of start f) (all_signed_of start (drop i a)) (all_signed_of start (drop i b)) ≡ at_each tree_gates (gate_of start f) (all_signed_of start a) (all_signed_of start b)
  pub width : length bits ≡ i

pub IsMadeSoFar-start : (start : List Tree) (f : BitGate) (a b : List Lit) → BelongsTo (length start) f → IsMadeSoFar start start f a b [] 0
IsMadeSoFar-start start f a b h = record { keeps = itself start; gate = h; below = λ k d l. absurd (omega arith); so_far = refl; width = refl }

pub still_belongs : (now next : List Tree) (f : BitGate) → Extends now next → BelongsTo (length now) f → BelongsTo (length next) f
still_belongs now next gate.And k h = tt
still_belongs now next gate.Or k h = tt
still_belongs now next gate.Xor k h = tt
still_belongs now next (gate.Mux c) k h = still now next c k h

pub kept_gate : (start now : List Tree) (f : BitGate) (x y : Signed) → Extends start now → BelongsTo (length start) f → gate_of now f x y ≡ gate_of start f x y
kept_gate start now gate.And x y k h = refl
kept_gate start now gate.Or x y k h = refl
kept_gate start now gate.Xor x y k h = refl
kept_gate start now (gate.Mux c) x y k h = ap (λ (t : Signed). tree_gates.mux t x y) (kept start now c k h)

module _ (start now next : List Tree) (f : BitGate) (a b bits : List Lit) (s : Lit) (i : ℕ) (so : IsMadeSoFar start now f a b bits i) (belongs : BelongsTo (length start) f) (first : AreNamed (length start) a) (second : AreNamed (length start) b) (in_a : i < length a) (in_b : i < length b) (grows : Extends now next) (s_below : s.name < length next) where
  pub IsMadeSoFar-more : signed_of next s ≡ gate_of now f (signed_of now (lit_at a i)) (signed_of now (lit_at b i)) → IsMadeSoFar start next f a b (bits ++ s ∷ []) (i + 1)
  IsMadeSoFar-more e =
      let X : Signed = signed_of start (lit_at a i) in
      let Y : Signed = signed_of start (lit_at b i) in
      let A : List Signed = all_signed_of start (drop (i + 1) a) in
      let B : List Signed = all_signed_of start (drop (i + 1) b) in
      let rest : List Signed = at_each tree_gates (gate_of start f) A B in
      let tree : signed_of next s ≡ gate_of start f X Y =
      e ∙ kept_gate start now f (signed_of now (lit_at a i)) (signed_of now (lit_at b i)) so.keeps belongs
      ∙ ap (λ t. gate_of start f t (signed_of now (lit_at b i))) (kept start now (lit_at a i) so.keeps (below_at (length start) a i first in_a))
      ∙ ap (gate_of start f X) (kept start now (lit_at b i) so.keeps (below_at (length start) b i second in_b)) in
      record {
        keeps = turns start now next so.keeps grows;
        gate = still_belongs now next f grows so.gate;
        below = below_push (length next) bits s (still_all now next bits grows so.below) s_below;
        so_far =
            ap (λ p. p ++ rest) (trees_push next bits s ∙ ap (λ p. p ++ signed_of next s ∷ []) (kept_all now next bits grows so.below))
            ∙ append_assoc (all_signed_of now bits) (signed_of next s ∷ []) rest
            ∙ ap (λ t. all_signed_of now bits ++ t ∷ rest) tree
            ∙ ap (λ l. all_signed_of now bits ++ at_each tree_gates (gate_of start f) l (Y ∷ B)) (sym (ap (all_signed_of start) (drop_at a i in_a)))
            ∙ ap (λ l. all_signed_of now bits ++ at_each tree_gates (gate_of start f) (all_signed_of start (drop i a)) l) (sym (ap (all_signed_of start) (drop_at b i in_b)))
            ∙ so.so_far;
        width = length-append bits (s ∷ []) ∙ ap (λ n. n + 1) so.width;
      }

pub made_bits : (start now : List Tree) (f : BitGate) (a b bits : List Lit) → IsMadeSoFar start now f a b bits (length a) → all_signed_of now bits ≡ at_each tree_gates (gate_of start f) (all_signed_of start a) (all_signed_of start b)
made_bits start now f a b bits so =
    sym (append_none (all_signed_of now bits)) ∙ ap (λ l. all_signed_of now bits ++ at_each tree_gates (gate_of start f) (all_signed_of start l) (all_signed_of start (drop (length a) b))) (sym (drop_all a)) ∙ so.so_far
