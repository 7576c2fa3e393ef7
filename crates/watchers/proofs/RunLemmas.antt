-- The ready states after the events of a run.
use Rattle.std.proofs.Common.{◌≡◌, ◌∙◌, ◌+◌, ◌-◌, ◌≤◌, ℕ, Bool, true, false, List, [], ◌∷◌, ◌++◌, length, drop, fold, nat_cmp, refl, sym, ap, arith, append_assoc, append-nil, length-append, length-drop, drop-drop}
use Rattle.std.specs.Prelude.{◌||◌}
use Rattle.std.specs.Ordering.{eq_by_cmp}
use Rattle.std.specs.List.{list_any}
use Rattle.std.specs.Cmp.{nat_cmp_total}
use Rattle.std.specs.FinSet.{FinSet, empty, insert, contains, same_set, contains-from_list, contains-insert, contains-empty, nat_cmp-IsAntisymmetric}
use Rattle.std.proofs.lemmas.List.{drop-append-le}
use Rattle.rv_event.specs.declared.event.Event.{Event}
use Rattle.watchers.specs.Counters.{counters, covered_after, all_covered, last_sixteen, last_after}
use Rattle.watchers.proofs.CoveredLemmas.{or_swap}

-- ---- the last sixteen

-- the oldest ones that were left out before are left out of the longer list too
pub last_again : (xs : List ℕ) (x : ℕ) → last_sixteen (last_sixteen xs ++ x ∷ []) ≡ last_sixteen (xs ++ x ∷ [])
last_again xs x =
    let fits : length xs - 16 ≤ length xs = omega arith in
    let inside : drop (length xs - 16) xs ++ x ∷ [] ≡ drop (length xs - 16) (xs ++ x ∷ []) = sym (drop-append-le (length xs - 16) xs (x ∷ []) fits) in
    let long : length (drop (length xs - 16) (xs ++ x ∷ [])) ≡ length xs + 1 - (length xs - 16) = length-drop (length xs - 16) (xs ++ x ∷ []) ∙ ap (λ n. n - (length xs - 16)) (length-append xs (x ∷ [])) in
    let steps : length xs - 16 + (length (drop (length xs - 16) (xs ++ x ∷ [])) - 16) ≡ length (xs ++ x ∷ []) - 16 = omega (arith, long, length-append xs (x ∷ [])) in
    ap last_sixteen inside ∙ (drop-drop _ (length xs - 16) (xs ++ x ∷ []) ∙ ap (λ k. drop k (xs ++ x ∷ [])) steps)

last_from : (xs : List ℕ) (events : List Event) → fold last_after (last_sixteen xs) events ≡ last_sixteen (xs ++ counters events)
last_from xs [] = ap last_sixteen (sym (append-nil xs))
last_from xs (e ∷ events) =
    ap (λ l. fold last_after l events) (last_again xs e.pc)
    ∙ (last_from (xs ++ e.pc ∷ []) events ∙ ap last_sixteen (append_assoc xs (e.pc ∷ []) (counters events)))

pub last_is : (events : List Event) → fold last_after [] events ≡ last_sixteen (counters events)
last_is events = last_from [] events

-- ---- the set

-- a number is in the set exactly where it was there before or is one of the program counters
covered_from : (s : FinSet nat_cmp) (events : List Event) (q : ℕ) → contains (fold covered_after s events) q ≡ (list_any (eq_by_cmp nat_cmp q) (counters events) || contains s q)
covered_from s [] q = refl
covered_from s (e ∷ events) q =
    covered_from (insert s e.pc) events q
    ∙ (ap (λ b. list_any (eq_by_cmp nat_cmp q) (counters events) || b) (contains-insert nat_cmp_total s e.pc q)
    ∙ (or_swap (list_any (eq_by_cmp nat_cmp q) (counters events)) (eq_by_cmp nat_cmp q e.pc) (contains s q)
    ∙ or_assoc (eq_by_cmp nat_cmp q e.pc) (list_any (eq_by_cmp nat_cmp q) (counters events)) (contains s q)))
  where
    or_assoc : (a b c : Bool) → (a || (b || c)) ≡ ((a || b) || c)
    or_assoc true b c = refl
    or_assoc false b c = refl

or_false : (b : Bool) → (b || false) ≡ b
or_false true = refl
or_false false = refl

pub covered_is : (events : List Event) → fold covered_after empty events ≡ all_covered events
covered_is events = same_set nat_cmp_total nat_cmp-IsAntisymmetric _ _ (λ q.
    covered_from empty events q
    ∙ (ap (λ b. list_any (eq_by_cmp nat_cmp q) (counters events) || b) (contains-empty nat_cmp q)
    ∙ (or_false (list_any (eq_by_cmp nat_cmp q) (counters events))
    ∙ sym (contains-from_list nat_cmp_total (counters events) q))))
