-- The program counters that need no look-up.
use Rattle.std.proofs.Common.{◌≡◌, ◌∙◌, ◌<◌, ◌++◌, ℕ, Bool, true, false, List, length, take, replicate, set, subst, nat_cmp, refl, sym, ap, Ordering}
use Rattle.std.specs.Prelude.{◌||◌, slice_index, if◌then◌else◌}
use Rattle.std.specs.declared.cmp.Ordering.TheVariants.{Less, Equal, Greater}
use Rattle.std.specs.Ordering.{eq_by_cmp, is_eq}
use Rattle.std.specs.Cmp.{nat_cmp_total, tied_itself}
use Rattle.std.specs.FinSet.{FinSet, insert, contains, same_set, contains-insert, nat_cmp-IsAntisymmetric}
use Rattle.std.proofs.Math.Dec.{eqb}
use Rattle.std.proofs.lemmas.Bool.{eqb-true}
use Rattle.std.proofs.lemmas.List.Elements.{All-weaker, All-append, All-take, All-replicate, All-set}
use Rattle.watchers.specs.Counters.{AreIn}

or_true : (b : Bool) → (b || true) ≡ true
or_true true = refl
or_true false = refl

-- a number that is in the set may be put into it
pub insert_known : (s : FinSet nat_cmp) (k : ℕ) → contains s k ≡ true → s ≡ insert s k
insert_known s k is = same_set nat_cmp_total nat_cmp-IsAntisymmetric _ _ (λ q. sym (contains-insert nat_cmp_total s k q ∙ by q (nat_cmp q k) refl))
  where
    by : (q : ℕ) (o : Ordering) → nat_cmp q k ≡ o → (is_eq o || contains s q) ≡ contains s q
    by q Less e = refl
    by q Greater e = refl
    by q Equal e = sym (ap (contains s) (nat_cmp-IsAntisymmetric q k e) ∙ is)

-- a number is in the set that it was put into
pub insert_has : (s : FinSet nat_cmp) (k : ℕ) → contains (insert s k) k ≡ true
insert_has s k = contains-insert nat_cmp_total s k k ∙ ap (λ o. is_eq o || contains s k) (tied_itself nat_cmp_total k)

-- what is in the set stays in it
pub AreIn-insert : (s : FinSet nat_cmp) (k : ℕ) (ks : List ℕ) → AreIn s ks → AreIn (insert s k) ks
AreIn-insert s k ks all =
    All-weaker (λ q. contains s q ≡ true) (λ q. contains (insert s k) q ≡ true)
    (λ q h. contains-insert nat_cmp_total s k q ∙ (ap (λ b. eq_by_cmp nat_cmp q k || b) h ∙ or_true (eq_by_cmp nat_cmp q k)))
    ks all

-- a number that is found among those that are in the set
pub known_at : (s : FinSet nat_cmp) (ks : List ℕ) (i k : ℕ) → i < length ks → eqb (slice_index ks i) k ≡ true → AreIn s ks → contains s k ≡ true
known_at s ks i k inside same all = ap (contains s) (sym (eqb-true _ _ same)) ∙ all i 0 inside

-- more places, all of them with a number of the set, or as many as before
pub AreIn-resize : (s : FinSet nat_cmp) (k n m : ℕ) (ks new : List ℕ) (ok : Bool) → new ≡ (if ok then take n ks ++ replicate m k else ks) → contains s k ≡ true → AreIn s ks → AreIn s new
AreIn-resize s k n m ks new true e is all =
    let In : ℕ → Type 0 = λ q. contains s q ≡ true in
    subst (λ l. AreIn s l) (sym e) (All-append In (take n ks) (replicate m k) (All-take In n ks all) (All-replicate In m k is))
AreIn-resize s k n m ks new false e is all = subst (λ l. AreIn s l) (sym e) all

-- a number of the set in the place of another
pub AreIn-set : (s : FinSet nat_cmp) (k i : ℕ) (ks : List ℕ) → contains s k ≡ true → AreIn s ks → AreIn s (set ks i k)
AreIn-set s k i ks is all = All-set (λ q. contains s q ≡ true) ks i k is all
