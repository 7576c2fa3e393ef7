-- The sets at a group's places keep the group's test.
use Rattle.std.proofs.Common.{◌≡◌, ℕ, zero, suc, ◌<◌, ◌⊎◌, inl, inr, Bool, List, [], ◌∷◌, length, refl, sym, ◌∙◌, ap, arith}
use Rattle.std.specs.Prelude.{All, Contains, slice_index}
use Rattle.std.proofs.lemmas.List.Elements.{All-contains}
use Rattle.term_model.specs.Tree.{Tree}
use Rattle.term_model.specs.Conditions.{Hold, holds}
use Rattle.term_model.proofs.ByteLemmas.{bytes_everywhere}
use Rattle.input_laws.specs.Inputs.{IsInput}
use Rattle.input_laws.specs.Sets.{set_at, freed}
use Rattle.input_laws.specs.Narrow.{IsOnly, IsPair, freed_beside}
use Rattle.input_laws.specs.Parts.{LooksAtItsPlaces, KeepPart}
use Rattle.input_laws.proofs.Narrow.{only_keeps, pair_keeps}
use Rattle.group_model.specs.Group.{IsAscending, part_of}
use Rattle.group_model.proofs.HoldLemmas.{holds_alike, found_among, among_found}
use Rattle.wide_laws.specs.Roots.{AreConditions}
use Rattle.wide_laws.proofs.WideLemmas.{values_keep}
use Rattle.set_laws.specs.Sets.{values_in}
use Rattle.set_laws.proofs.Values.{beside_itself, beside_other}

-- ---- lists of one item and of two

-- an item of a list of one is the one
pub only_item : (xs : List ℕ) (x : ℕ) → length xs ≡ 1 → Contains xs x → x ≡ slice_index xs 0
only_item [] x e c = absurd (omega arith)
only_item (a ∷ []) x e (zero, l, f) = sym f
only_item (a ∷ []) x e (suc k, l, f) = absurd (omega arith)
only_item (a ∷ b ∷ xs) x e c = absurd (omega arith)

-- an item of a list of two is one of the two
pub item_of_two : (xs : List ℕ) (x : ℕ) → length xs ≡ 2 → Contains xs x → (x ≡ slice_index xs 0) ⊎ (x ≡ slice_index xs 1)
item_of_two [] x e c = absurd (omega arith)
item_of_two (a ∷ []) x e c = absurd (omega arith)
item_of_two (a ∷ b ∷ []) x e (zero, l, f) = inl (sym f)
item_of_two (a ∷ b ∷ []) x e (suc zero, l, f) = inr (sym f)
item_of_two (a ∷ b ∷ []) x e (suc (suc k), l, f) = absurd (omega arith)
item_of_two (a ∷ b ∷ c ∷ xs) x e d = absurd (omega arith)

-- ---- groups

looks : (places : List ℕ) (conditions : List Tree) → AreConditions places conditions → LooksAtItsPlaces (part_of places conditions)
looks places conditions are x z same = holds_alike conditions x z (λ k d l i r. same i (found_among places i (are.within k d l i r)))

pub keeps : (places : List ℕ) (conditions : List Tree) → AreConditions places conditions → IsAscending places → 0 < length places → (y : List ℕ) (sets : List (ℕ → Bool)) → IsInput (length sets) y → Hold conditions y → All (λ i. i < length sets) places → ((i : ℕ) → Contains places i → set_at sets i ≡ values_in conditions places y i) → KeepPart sets (part_of places conditions)
keeps [] conditions are up some y sets a h below has = absurd (omega arith)
keeps (p ∷ []) conditions are up some y sets a h below has =
    let own : Contains (p ∷ []) p = (0, omega arith, refl) in
    let only : IsOnly (part_of (p ∷ []) conditions) p = λ k t. only_item (p ∷ []) k refl (among_found (p ∷ []) k t) in
    only_keeps (part_of (p ∷ []) conditions) sets y p only (looks (p ∷ []) conditions are) a
    (All-contains (λ (i : ℕ). i < length sets) (p ∷ []) p below own) (found_among (p ∷ []) p own) (has p own)
keeps (p ∷ q ∷ []) conditions are up some y sets a h below has =
    let low : Contains (p ∷ q ∷ []) p = (0, omega arith, refl) in
    let high : Contains (p ∷ q ∷ []) q = (1, omega arith, refl) in
    let less : p < q = up 0 1 0 (omega arith) (omega arith) in
    let pair : IsPair (part_of (p ∷ q ∷ []) conditions) p q = λ k t. item_of_two (p ∷ q ∷ []) k refl (among_found (p ∷ q ∷ []) k t) in
    let lower : set_at sets p ≡ freed (holds conditions) y p = has p low ∙ beside_itself (holds conditions) y p p refl in
    let higher : set_at sets q ≡ freed_beside (holds conditions) (set_at sets p) y p q =
    has q high ∙ (beside_other (holds conditions) y p q (λ s. omega arith) ∙ ap (λ set. freed_beside (holds conditions) set y p q) (sym lower)) in
    pair_keeps (part_of (p ∷ q ∷ []) conditions) sets y p q pair (looks (p ∷ q ∷ []) conditions are) a less
    (All-contains (λ (i : ℕ). i < length sets) (p ∷ q ∷ []) q below high) (found_among (p ∷ q ∷ []) p low) (found_among (p ∷ q ∷ []) q high) higher
keeps (p ∷ q ∷ r ∷ places) conditions are up some y sets a h below has =
    values_keep (p ∷ q ∷ r ∷ places) conditions y sets are (bytes_everywhere y a.in_range) h below has
