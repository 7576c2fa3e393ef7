-- Terms dealt into lists by their numbers.
use Rattle.std.proofs.Common.{◌≡◌, ◌≢◌, ℕ, ◌+◌, ◌<◌, ◌≤◌, List, [], ◌∷◌, ◌++◌, Bool, true, false, cond, Option, Some, None, length, get_or, set, subst, refl, sym, ◌∙◌, ap, arith, ⊎_elim, nat_eq}
use Rattle.std.specs.Prelude.{filter}
use Rattle.std.specs.Global.{Vec}
use Rattle.std.proofs.lemmas.Bool.{cases_lt, cases_eq}
use Rattle.std.proofs.lemmas.Bool.Decides.{nat_tests}
use Rattle.std.proofs.lemmas.List.{length-set, length-append, get_or-set_same, get_or-set_other}
use Rattle.byte_groups.specs.Gathered.{lists_of}
use Rattle.byte_groups.specs.Dealt.{is_number, AreDealt}
use Rattle.byte_groups.proofs.GatherLemmas.{map_set, map_push, map_at, map_long, at_left, at_end}

-- one more item, which the test keeps or not
filter_push : (f : ℕ → Bool) (xs : List ℕ) (t : ℕ) → filter f (xs ++ t ∷ []) ≡ filter f xs ++ cond (f t) (t ∷ []) []
filter_push f [] t = refl
filter_push f (x ∷ xs) t = by_test (f x) (filter_push f xs t)
  where
    by_test : (b : Bool) → filter f (xs ++ t ∷ []) ≡ filter f xs ++ cond (f t) (t ∷ []) [] → cond b (x ∷ filter f (xs ++ t ∷ [])) (filter f (xs ++ t ∷ [])) ≡ cond b (x ∷ filter f xs) (filter f xs) ++ cond (f t) (t ∷ []) []
    by_test true e = ap (λ l. x ∷ l) e
    by_test false e = e

append_none : (xs : List ℕ) → xs ++ [] ≡ xs
append_none [] = refl
append_none (x ∷ xs) = ap (λ l. x ∷ l) (append_none xs)

kept : (f : ℕ → Bool) (xs : List ℕ) (t : ℕ) → f t ≡ true → filter f (xs ++ t ∷ []) ≡ filter f xs ++ t ∷ []
kept f xs t e = filter_push f xs t ∙ ap (λ b. filter f xs ++ cond b (t ∷ []) []) e

left_out : (f : ℕ → Bool) (xs : List ℕ) (t : ℕ) → f t ≡ false → filter f (xs ++ t ∷ []) ≡ filter f xs
left_out f xs t e = filter_push f xs t ∙ (ap (λ b. filter f xs ++ cond b (t ∷ []) []) e ∙ append_none (filter f xs))

itself : (q : ℕ) → nat_eq q q ≡ true
itself q = grind (arith, nat_tests)

other : (p q : ℕ) → p ≢ q → nat_eq p q ≡ false
other p q ne = grind (arith, nat_tests)

-- at the start there is no list
pub dealt_none : (of : ℕ → Option ℕ) (items : List (Vec ℕ)) → items ≡ [] → AreDealt of 0 [] (lists_of items)
dealt_none of items e = record { long = ap (λ l. length (lists_of l)) e; each = λ q d l. absurd (omega arith) }

-- one more list has nothing
pub dealt_list : (of : ℕ → Option ℕ) (n : ℕ) (items after : List (Vec ℕ)) (list : Vec ℕ) → list.items ≡ [] → after ≡ items ++ list ∷ [] → AreDealt of n [] (lists_of items) → AreDealt of (n + 1) [] (lists_of after)
dealt_list of n items after list empty pushed so_far =
    let P : List (List ℕ) → Type 0 = λ ls. AreDealt of (n + 1) [] ls in
    subst P (sym (ap lists_of pushed ∙ (map_push items list ∙ ap (λ x. lists_of items ++ x ∷ []) empty)))
    (record {
      long = let e : length (lists_of items) ≡ n = so_far.long in omega (arith, e, length-append (lists_of items) ([] ∷ []));
      each = λ q d l. ⊎_elim
          (λ (less : q < n). at_left (lists_of items) ([] ∷ []) q d (let e : length (lists_of items) ≡ n = so_far.long in omega arith) ∙ so_far.each q d less)
          (λ (more : n ≤ q). ap (λ i. get_or (lists_of items ++ [] ∷ []) i d) (let e : length (lists_of items) ≡ n = so_far.long in let f : q ≡ length (lists_of items) = omega arith in f) ∙ at_end (lists_of items) [] d)
          (cases_lt q n);
    })

-- a term without a number is left out
pub dealt_same : (of : ℕ → Option ℕ) (n t : ℕ) (terms : List ℕ) (lists : List (List ℕ)) → of t ≡ None → AreDealt of n terms lists → AreDealt of n (terms ++ t ∷ []) lists
dealt_same of n t terms lists e so_far = record {
  long = so_far.long;
  each = λ q d l. so_far.each q d l ∙ sym (left_out (λ u. is_number q (of u)) terms t (ap (is_number q) e));
}

-- a term is put at the end of the list of its number
pub dealt_push : (of : ℕ → Option ℕ) (n t q : ℕ) (terms : List ℕ) (items : List (Vec ℕ)) (old new : Vec ℕ) → of t ≡ Some q → q < n → q < length items → old ≡ get_or items q old → new.items ≡ old.items ++ t ∷ [] → AreDealt of n terms (lists_of items) → AreDealt of n (terms ++ t ∷ []) (lists_of (set items q new))
dealt_push of n t q terms items old new e below within is pushed so_far =
    let P : List (List ℕ) → Type 0 = λ ls. AreDealt of n (terms ++ t ∷ []) ls in
    let there : q < length (lists_of items) = rw map_long within in
    subst P (sym (map_set items q new ∙ ap (set (lists_of items) q) pushed))
    (record {
      long = length-set (lists_of items) q (old.items ++ t ∷ []) ∙ so_far.long;
      each = λ p d l. ⊎_elim
          (λ (same : p ≡ q).
          ap (λ i. get_or (set (lists_of items) q (old.items ++ t ∷ [])) i d) same
          ∙ (get_or-set_same (lists_of items) q (old.items ++ t ∷ []) d there
          ∙ (ap (λ l. l ++ t ∷ []) (ap (λ v. v.items) is ∙ (sym (map_at items q d old within) ∙ so_far.each q d below))
          ∙ (sym (kept (λ u. is_number q (of u)) terms t (ap (is_number q) e ∙ itself q))
          ∙ ap (λ i. filter (λ u. is_number i (of u)) (terms ++ t ∷ [])) (sym same)))))
          (λ (ne : p ≢ q).
          get_or-set_other (lists_of items) q p (old.items ++ t ∷ []) d ne
          ∙ (so_far.each p d l ∙ sym (left_out (λ u. is_number p (of u)) terms t (ap (is_number p) e ∙ other q p (λ f. ne (sym f))))))
          (cases_eq p q);
    })
