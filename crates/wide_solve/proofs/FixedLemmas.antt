-- Bits that are freed, by halves of their order.
use Rattle.std.proofs.Common.{◌≡◌, ℕ, ◌+◌, ◌-◌, ◌<◌, ◌≤◌, Bool, true, false, List, [], ◌∷◌, ◌++◌, refl, sym, ◌∙◌, ap, inl, inr, arith, length, take, drop, take-append-drop, get_or, subst, drop-cons, add-one}
use Rattle.std.specs.Prelude.{Contains, ◌≢◌, ◌&&◌, ◌||◌}
use Rattle.std.specs.List.{list_all}
use Rattle.std.proofs.lemmas.List.{drop_all}
use Rattle.std.proofs.lemmas.List.Elements.{Contains-append_cases, Contains-append_left, Contains-append_right, Contains-push_cases, Contains-get_or}
use Rattle.gate_net.specs.declared.literals.Lit.{Lit}
use Rattle.search_model.specs.Literals.{named}
use Rattle.search_model.specs.Tests.{in_closure, is_conflict}
use Rattle.search_model.specs.Growing.{IsMonotone}
use Rattle.search_laws.proofs.ListLemmas.{bool_cases, both}
use Rattle.search_laws.proofs.LitLemmas.{named_are_literals}
use Rattle.unit_close.specs.Closing.{Closing, clauses_of}
use Rattle.clause_solver.specs.Solved.{SameClauses, HaveSame}
use Rattle.clause_solver.proofs.CloserLemmas.{tested_in, in_tested}
use Rattle.clause_solver.proofs.ReachedLemmas.{same_clauses}
use Rattle.clause_solver.proofs.TrimLemmas.{part_on, same_test, new_test}
use Rattle.wide_laws.specs.Sets.{fixed_from, has_roots, yes_name}
use Rattle.wide_laws.proofs.Sets.{fixed_end, fixed_freed, fixed_kept}
use Rattle.wide_solve.specs.Freeing.{Frees}

pub cut : {X : Type 0} (xs : List X) (i : ℕ) (d : X) → i < length xs → drop i xs ≡ get_or xs i d ∷ drop (i + 1) xs
cut xs i d inside = drop-cons xs i d inside ∙ ap (λ k. get_or xs i d ∷ drop k xs) (sym (add-one i))

-- a test of each element, told by those left
module _ {X : Type 0} (test : X → Bool) (xs : List X) (i : ℕ) (d : X) (inside : i < length xs) where
  one_more : list_all test (drop i xs) ≡ (test (get_or xs i d) && list_all test (drop (i + 1) xs))
  one_more = ap (list_all test) (cut xs i d inside)

  pub all_passed : test (get_or xs i d) ≡ true → list_all test (drop i xs) ≡ list_all test (drop (i + 1) xs)
  all_passed e = one_more ∙ ap (λ b. b && list_all test (drop (i + 1) xs)) e

  pub all_failed : test (get_or xs i d) ≡ false → list_all test (drop i xs) ≡ false
  all_failed e = one_more ∙ ap (λ b. b && list_all test (drop (i + 1) xs)) e

pub all_ended : {X : Type 0} (test : X → Bool) (xs : List X) (i : ℕ) → length xs ≤ i → list_all test (drop i xs) ≡ true
all_ended test xs i past = ap (list_all test) (drop_all i xs past)

pub drop_in : {X : Type 0} (xs : List X) (i : ℕ) (x : X) → Contains (drop i xs) x → Contains xs x
drop_in {X} xs i x h =
    let P : List X → Type 0 = λ ys. Contains ys x in
    subst P (take-append-drop i xs) (Contains-append_right (take i xs) (drop i xs) x h)

-- more bits force more
pub roots_grow : (clauses : List (List Lit)) (roots : List Lit) → IsMonotone (has_roots named yes_name clauses roots)
roots_grow clauses [] few more within e = e
roots_grow clauses (r ∷ roots) few more within e =
    let forced : List Lit → Bool = λ bits. named.same r yes_name || in_closure named clauses bits r in
    let parts = both (forced few) (has_roots named yes_name clauses roots few) e in
    let first : forced more ≡ true = elim (bool_cases (named.same r yes_name)) [
      | inl is ↦ ap (λ b. b || in_closure named clauses more r) is
      | inr apart ↦
          let was : in_closure named clauses few r ≡ true = sym (ap (λ b. b || in_closure named clauses few r) apart) ∙ parts.0 in
          ap (λ b. b || in_closure named clauses more r) apart
          ∙ tested_in clauses more r (λ set' closed. in_tested clauses few r was set' (record { decided = λ l h. closed.decided l (within l h); each = closed.each }))
    ] in
    ap (λ b. b && has_roots named yes_name clauses roots more) first ∙ roots_grow clauses roots few more within parts.1

module _ (frees : List Lit → Bool) (grows : IsMonotone frees) where
  -- bits without which the later ones do are freed
  fixed_skip : (kept front end : List Lit) → frees (kept ++ end) ≡ true → fixed_from frees kept (front ++ end) ≡ fixed_from frees kept end
  fixed_skip kept [] end e = refl
  fixed_skip kept (l ∷ front) end e =
      let within : (x : Lit) → Contains (kept ++ end) x → Contains (kept ++ (front ++ end)) x = λ x h. elim (Contains-append_cases kept end x h) [
        | inl here ↦ Contains-append_left kept (front ++ end) x here
        | inr later ↦ Contains-append_right kept (front ++ end) x (Contains-append_right front end x later)
      ] in
      fixed_freed frees kept l (front ++ end) (grows (kept ++ end) (kept ++ (front ++ end)) within e) ∙ fixed_skip kept front end e

  pub frees_skip : (order : List Lit) (start end : ℕ) (kept : List Lit) → start ≤ end → frees (kept ++ drop end order) ≡ true → Frees frees order start end kept kept
  frees_skip order start end kept ascending e =
      ap (fixed_from frees kept) (sym (part_on order start end ascending))
      ∙ fixed_skip kept (take (end - start) (drop start order)) (drop end order) e

-- a bit without which the others don't do stays fixed
pub frees_keep : (frees : List Lit → Bool) (order : List Lit) (start : ℕ) (d : Lit) (kept : List Lit) → start < length order → frees (kept ++ drop (start + 1) order) ≡ false → Frees frees order start (start + 1) kept (kept ++ get_or order start d ∷ [])
frees_keep frees order start d kept inside e =
    ap (fixed_from frees kept) (cut order start d inside) ∙ fixed_kept frees kept (get_or order start d) (drop (start + 1) order) e

-- all bits were asked of
pub frees_all : (frees : List Lit → Bool) (order : List Lit) (end : ℕ) (kept : List Lit) → end ≡ length order → Frees frees order 0 end [] kept → kept ≡ fixed_from frees [] order
frees_all frees order end kept all freed = sym (freed ∙ ap (fixed_from frees kept) (drop_all end order (omega (arith, all))) ∙ fixed_end frees kept)

-- the order's bits, from a place on with those kept, and part of them
pub base_own : (order base kept : List Lit) (end : ℕ) → ((l : Lit) → Contains kept l → Contains order l) → HaveSame base (kept ++ drop end order) → (l : Lit) → Contains base l → Contains order l
base_own order base kept end own same l h = elim (Contains-append_cases kept (drop end order) l ((same l).0 h)) [
  | inl at ↦ own l at
  | inr at ↦ drop_in order end l at
]

pub more_own : (order base more : List Lit) → ((l : Lit) → Contains base l → Contains order l) → ((l : Lit) → Contains more l → Contains order l) → (l : Lit) → Contains (base ++ more) l → Contains order l
more_own order base more in_base in_more l h = elim (Contains-append_cases base more l h) [
  | inl at ↦ in_base l at
  | inr at ↦ in_more l at
]

pub take_in : (xs : List Lit) (n k : ℕ) (x : Lit) → Contains (take n (drop k xs)) x → Contains xs x
take_in xs n k x h =
    let P : List Lit → Type 0 = λ ys. Contains ys x in
    drop_in xs k x (subst P (take-append-drop n (drop k xs)) (Contains-append_left (take n (drop k xs)) (drop n (drop k xs)) x h))

pub push_own : (order kept : List Lit) (start : ℕ) (d : Lit) → start < length order → ((l : Lit) → Contains kept l → Contains order l) → (l : Lit) → Contains (kept ++ get_or order start d ∷ []) l → Contains order l
push_own order kept start d inside own l h = elim (Contains-push_cases kept (get_or order start d) l h) [
  | inl at ↦ own l at
  | inr is ↦ (let P : Lit → Type 0 = λ x. Contains order x in subst P is (Contains-get_or order start d inside))
]

-- a closer with the same clauses
module _ (old new : Closing) (same : SameClauses old new) (roots : List Lit) where
  pub new_roots : (xs : List Lit) → has_roots named yes_name (clauses_of new) roots xs ≡ has_roots named yes_name (clauses_of old) roots xs
  new_roots xs = ap (λ (cs : List (List Lit)). has_roots named yes_name cs roots xs) (same_clauses old new same)

  pub old_frees : (order : List Lit) (start end : ℕ) (kept kept' : List Lit) → Frees (has_roots named yes_name (clauses_of new) roots) order start end kept kept' → Frees (has_roots named yes_name (clauses_of old) roots) order start end kept kept'
  old_frees order start end kept kept' freed =
      subst (λ (cs : List (List Lit)). Frees (has_roots named yes_name cs roots) order start end kept kept') (same_clauses old new same) freed

  pub new_calm : (xs : List Lit) → is_conflict named (clauses_of old) xs ≡ false → is_conflict named (clauses_of new) xs ≡ false
  new_calm xs calm = new_test old new same xs ∙ calm

-- what is asked of the base's bits and more tells of those kept and those after the part
pub asked_of : (clauses : List (List Lit)) (roots asked xs : List Lit) (b : Bool) → HaveSame asked xs → has_roots named yes_name clauses roots asked ≡ b → has_roots named yes_name clauses roots xs ≡ b
asked_of clauses roots asked xs b same e = sym (same_test (has_roots named yes_name clauses roots) (roots_grow clauses roots) asked xs same) ∙ e

pub apart_test : (l m : Lit) → l ≢ m → named.same l m ≡ false
apart_test l m apart = elim (bool_cases (named.same l m)) [
  | inl e ↦ absurd (apart ((named_are_literals.same_is l m).0 e))
  | inr e ↦ e
]
