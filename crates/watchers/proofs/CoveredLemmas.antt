-- A sorted list of numbers as a set.
use Rattle.std.proofs.Common.{◌≡◌, ◌∙◌, ◌+◌, ℕ, Bool, true, false, cond, List, [], ◌∷◌, length, nat_cmp, refl, sym, ap, arith, Ordering}
use Rattle.std.specs.Prelude.{◌||◌}
use Rattle.std.specs.declared.cmp.Ordering.TheVariants.{Less, Equal, Greater}
use Rattle.std.specs.Ordering.{eq_by_cmp, is_eq, match_ordering}
use Rattle.std.specs.List.{list_any}
use Rattle.std.specs.List.Sorted.{IsStrictlySortedBy}
use Rattle.std.specs.BTreeSet.{insert_key}
use Rattle.std.specs.Cmp.{nat_cmp_total}
use Rattle.std.specs.FinSet.{insert, from_list, contains, len, same_set, contains-from_list, contains-insert, len-insert, len-empty, nat_cmp-IsAntisymmetric}
use Rattle.std.proofs.lemmas.Map.Views.{All-after_first}
use Rattle.std.proofs.lemmas.List.Folds.{list_any_none}

or_idem : (a b : Bool) → (a || b) ≡ (a || (a || b))
or_idem true b = refl
or_idem false b = refl

pub or_swap : (a b c : Bool) → (a || (b || c)) ≡ (b || (a || c))
or_swap true true c = refl
or_swap true false c = refl
or_swap false b c = refl

-- a key put into its place is among the keys, and no other new one is
any-insert_key : (p : ℕ → Bool) (k : ℕ) (ks : List ℕ) → list_any p (insert_key nat_cmp ks k) ≡ (p k || list_any p ks)
any-insert_key p k [] = refl
any-insert_key p k (x ∷ xs) = by (nat_cmp k x) refl (any-insert_key p k xs)
  where
    by : (o : Ordering) → nat_cmp k x ≡ o → list_any p (insert_key nat_cmp xs k) ≡ (p k || list_any p xs)
        → list_any p (match_ordering o (k ∷ x ∷ xs) (x ∷ xs) (x ∷ insert_key nat_cmp xs k)) ≡ (p k || (p x || list_any p xs))
    by Less is more = refl
    by Equal is more = let same = nat_cmp-IsAntisymmetric k x is in or_idem (p x) (list_any p xs) ∙ ap (λ y. p y || (p x || list_any p xs)) (sym same)
    by Greater is more = ap (λ b. p x || b) more ∙ or_swap (p x) (p k) (list_any p xs)

pub set-insert_key : (ks : List ℕ) (k : ℕ) → from_list {R = nat_cmp} (insert_key nat_cmp ks k) ≡ insert (from_list ks) k
set-insert_key ks k = same_set nat_cmp_total nat_cmp-IsAntisymmetric _ _ (λ q.
    contains-from_list nat_cmp_total (insert_key nat_cmp ks k) q
    ∙ (any-insert_key (eq_by_cmp nat_cmp q) k ks
    ∙ sym (contains-insert nat_cmp_total (from_list ks) k q ∙ ap (λ b. eq_by_cmp nat_cmp q k || b) (contains-from_list nat_cmp_total ks q))))

rest_sorted : (k : ℕ) (ks : List ℕ) → IsStrictlySortedBy nat_cmp (k ∷ ks) → IsStrictlySortedBy nat_cmp ks
unfolding IsStrictlySortedBy
rest_sorted k ks h = h.1

-- sorted keys are distinct
pub len-sorted : (ks : List ℕ) → IsStrictlySortedBy nat_cmp ks → len (from_list {R = nat_cmp} ks) ≡ length ks
len-sorted [] sorted = len-empty nat_cmp
len-sorted (k ∷ ks) sorted =
    let above = All-after_first nat_cmp k ks sorted in
    let new : contains (from_list {R = nat_cmp} ks) k ≡ false =
    contains-from_list nat_cmp_total ks k ∙ list_any_none (eq_by_cmp nat_cmp k) ks (λ i d lt. ap is_eq (above i d lt)) in
    let more = len-sorted ks (rest_sorted k ks sorted) in
    len-insert nat_cmp_total (from_list ks) k ∙ (ap (λ b. cond b (len (from_list {R = nat_cmp} ks)) (len (from_list {R = nat_cmp} ks) + 1)) new ∙ omega (arith, more))
