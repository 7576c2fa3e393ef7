-- Parts in the order of their bases.
use Rattle.std.proofs.Common.{◌≡◌, ℕ, ◌+◌, ◌-◌, ◌<◌, ◌≤◌, List, length, get_or, set, true, false, leb, leb-true, inl, inr, refl, sym, ap, ◌∙◌, subst, arith, length-set, None}
use Rattle.std.proofs.lemmas.Bool.{leb-false, cases_lt}
use Rattle.std.proofs.Math.Nat.{eq-or-lt_of_le}
use Rattle.std.proofs.lemmas.List.{get_or-set_same, get_or-set_other}
use Rattle.std.specs.List.Sorted.{IsNonDecreasingBy, IsPartitionPoint}
use Rattle.std.proofs.lemmas.List.Sorted.{IsNonDecreasingBy-from_all_adjacent}
use Rattle.memory_map.specs.Part.{Part}
use Rattle.memory_map.specs.Layout.{contains, first_cell, end_of, IsLaidOut}
use Rattle.memory_map.proofs.Places.{Ascending, not_held_above, not_held_below, none_found}

below : (p q : Part) → end_of p ≤ q.base → p.base ≤ q.base
below p q h = omega arith

pub rising : (ps : List Part) → Ascending ps → IsNonDecreasingBy (λ p. p.base) ps
rising ps up = IsNonDecreasingBy-from_all_adjacent (λ p. p.base) ps (λ k d l. below (get_or ps k d) (get_or ps (k + 1) d) (up k (k + 1) d (omega arith) l))

lowered : (k i : ℕ) → k < i → k ≤ i - 1
lowered k i h = omega arith

past : (p q : Part) (a : ℕ) → end_of p ≤ q.base → q.base ≤ a → end_of p ≤ a
past p q a h l = omega arith

-- every part lies past the address, or ends at or below it
pub none_at_point : (ps : List Part) (a i : ℕ) → Ascending ps → IsPartitionPoint (λ p. leb p.base a ≡ true) (λ p. leb p.base a ≡ false) ps i → i ≤ length ps → ((d : Part) → 0 < i → contains (get_or ps (i - 1) d) a ≡ false) → first_cell ps a ≡ None
none_at_point ps a i up point within last =
    none_found ps a (λ k d l. elim (cases_lt k i) as (λ _. contains (get_or ps k d) a ≡ false) [
      | inl less ↦ elim (eq-or-lt_of_le (lowered k i less)) as (λ _. contains (get_or ps k d) a ≡ false) [
        | inl same ↦ ap (λ j. contains (get_or ps j d) a) same ∙ last d (omega arith)
        | inr before ↦ not_held_above (get_or ps k d) a (past (get_or ps k d) (get_or ps (i - 1) d) a (up k (i - 1) d before (omega arith)) (leb-true _ _ (point.0 (i - 1) d (omega arith) (omega arith))))
      ]
      | inr above ↦ not_held_below (get_or ps k d) a (leb-false _ _ (point.1 k d above l))
    ])

-- a part with the place and the length of another
pub record IsSamePlace (p q : Part) : Type 0 where
  pub base : p.base ≡ q.base
  pub size : length p.bytes ≡ length q.bytes

itself : (p : Part) → IsSamePlace p p
itself p = record { base = refl; size = refl }

kept_place : (ps : List Part) (i k : ℕ) (w d : Part) → i < length ps → IsSamePlace w (get_or ps i d) → IsSamePlace (get_or (set ps i w) k d) (get_or ps k d)
kept_place ps i k w d within same = elim (cases_lt k i) as (λ _. IsSamePlace (get_or (set ps i w) k d) (get_or ps k d)) [
  | inl less ↦ subst (λ (x : Part). IsSamePlace x (get_or ps k d)) (sym (get_or-set_other ps i k w d (λ e. absurd (omega arith)))) (itself _)
  | inr above ↦ elim (eq-or-lt_of_le above) as (λ _. IsSamePlace (get_or (set ps i w) k d) (get_or ps k d)) [
    | inl e ↦ subst (λ j. IsSamePlace (get_or (set ps i w) j d) (get_or ps j d)) e (subst (λ (x : Part). IsSamePlace x (get_or ps i d)) (sym (get_or-set_same ps i w d within)) same)
    | inr more ↦ subst (λ (x : Part). IsSamePlace x (get_or ps k d)) (sym (get_or-set_other ps i k w d (λ e. absurd (omega arith)))) (itself _)
  ]
]

above_kept : (p q x y : Part) → IsSamePlace x p → IsSamePlace y q → end_of p ≤ q.base → end_of x ≤ y.base
above_kept p q x y a b h = omega (arith, a.base, a.size, b.base, b.size)

within_kept : (p x : Part) (n : ℕ) → IsSamePlace x p → end_of p ≤ n → end_of x ≤ n
within_kept p x n a h = omega (arith, a.base, a.size)

off_kept : (p x stack : Part) → IsSamePlace x p → (p.base < end_of stack → end_of p ≤ stack.base) → x.base < end_of stack → end_of x ≤ stack.base
off_kept p x stack a h l = let b = h (omega (arith, a.base)) in omega (arith, a.base, a.size)

pub laid_out_set : (stack : Part) (ps : List Part) (i : ℕ) (w : Part) → i < length ps → ((d : Part) → IsSamePlace w (get_or ps i d)) → IsLaidOut stack ps → IsLaidOut stack (set ps i w)
laid_out_set stack ps i w within same laid =
    let len = length-set ps i w in
    record {
      ascending = λ j k d l h. above_kept _ _ _ _ (kept_place ps i j w d within (same d)) (kept_place ps i k w d within (same d)) (laid.ascending j k d l (omega (arith, len)));
      off_stack = λ k d h. off_kept _ _ stack (kept_place ps i k w d within (same d)) (laid.off_stack k d (omega (arith, len)));
      within = λ k d h. within_kept _ _ _ (kept_place ps i k w d within (same d)) (laid.within k d (omega (arith, len)));
      stack_within = laid.stack_within;
    }

pub laid_out_stack : (stack w : Part) (ps : List Part) → IsSamePlace w stack → IsLaidOut stack ps → IsLaidOut w ps
laid_out_stack stack w ps same laid = record {
  ascending = laid.ascending;
  off_stack = λ k d h l. (let b = laid.off_stack k d h (omega (arith, same.base, same.size)) in omega (arith, same.base));
  within = laid.within;
  stack_within = omega (arith, same.base, same.size, laid.stack_within);
}
