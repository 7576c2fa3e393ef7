-- The part that holds an address, among parts in order.
use Rattle.std.proofs.Common.{◌≡◌, ℕ, zero, suc, ◌<◌, ◌≤◌, ◌^◌, List, [], ◌∷◌, Option, Some, None, length, get_or, Bool, true, false, cond, refl, sym, ap, ◌∙◌, subst, arith, AllPairs}
use Rattle.std.specs.List.{find}
use Rattle.std.specs.Option.{option_map}
use Rattle.memory_map.specs.Part.{Part}
use Rattle.memory_map.specs.Cells.{Cell}
use Rattle.memory_map.specs.Layout.{contains, cell_in, first_cell, end_of, IsHeldAt, IsPartAt, IsLaidOut}

abbrev pub Ascending : List Part → Type 0
Ascending ps = AllPairs (λ p q. end_of p ≤ q.base) ps

-- a part that holds an address, as bounds
pub held : (p : Part) (a : ℕ) → contains p a ≡ true → (p.base ≤ a) × (a < end_of p)
held p a h = grind arith

pub not_held_below : (p : Part) (a : ℕ) → a < p.base → contains p a ≡ false
not_held_below p a h = grind arith

pub not_held_above : (p : Part) (a : ℕ) → end_of p ≤ a → contains p a ≡ false
not_held_above p a h = grind arith

abbrev pub chosen : Bool → Cell → Option Cell → Option Cell
chosen b c o = cond b (Some c) o

-- what a look-up by cases finds
pub first_cell_cons : (x : Part) (ps : List Part) (a : ℕ) → first_cell (x ∷ ps) a ≡ chosen (contains x a) (cell_in x a) (first_cell ps a)
first_cell_cons x ps a = elim (contains x a) as (λ t. option_map (λ r. cell_in r a) (cond t (Some x) (find (λ r. contains r a) ps)) ≡ chosen t (cell_in x a) (first_cell ps a)) [ true ↦ refl | false ↦ refl ]

pub ascending_tail : (x : Part) (ps : List Part) → Ascending (x ∷ ps) → Ascending ps
ascending_tail x ps h i j d below within = h (suc i) (suc j) d (omega arith) (omega arith)

-- the part at a place is the one that is found
pub found_at : (ps : List Part) (a i : ℕ) (p : Part) → Ascending ps → i < length ps → p ≡ get_or ps i p → contains p a ≡ true → first_cell ps a ≡ Some (cell_in p a)
found_at [] a i p up within at here = absurd (omega arith)
found_at (x ∷ ps) a zero p up within at here =
    ap (λ y. first_cell (y ∷ ps) a) (sym at) ∙ first_cell_cons p ps a ∙ ap (λ t. chosen t (cell_in p a) (first_cell ps a)) here
found_at (x ∷ ps) a (suc i) p up within at here =
    let apart : end_of x ≤ (get_or ps i p).base = up 0 (suc i) p (omega arith) within in
    let b = held p a here in
    let base : p.base ≡ (get_or ps i p).base = ap (λ y. y.base) at in
    first_cell_cons x ps a
    ∙ ap (λ t. chosen t (cell_in x a) (first_cell ps a)) (not_held_above x a (omega arith))
    ∙ found_at ps a i p (ascending_tail x ps up) (omega arith) at here

-- no part holds the address
pub none_found : (ps : List Part) (a : ℕ) → ((k : ℕ) (d : Part) → k < length ps → contains (get_or ps k d) a ≡ false) → first_cell ps a ≡ None
none_found [] a h = refl
none_found (x ∷ ps) a h =
    first_cell_cons x ps a
    ∙ ap (λ t. chosen t (cell_in x a) (first_cell ps a)) (h 0 x (omega arith))
    ∙ none_found ps a (λ k d l. h (suc k) d (omega arith))

-- a part of the stack's order
pub part_of_stack : (stack : Part) (ps : List Part) (a : ℕ) → IsLaidOut stack ps → contains stack a ≡ true → IsPartAt (first_cell (stack ∷ ps)) a stack
part_of_stack stack ps a laid here = record {
  here = here;
  found = λ q h. first_cell_cons stack ps q ∙ ap (λ t. chosen t (cell_in stack q) (first_cell ps q)) h;
  within = laid.stack_within;
}

pub off_the_stack : (stack p : Part) (q : ℕ) → (p.base < end_of stack → end_of p ≤ stack.base) → p.base ≤ q → q < end_of p → contains stack q ≡ false
off_the_stack stack p q off low high = grind arith

pub part_of_others : (stack : Part) (ps : List Part) (a i : ℕ) (p : Part) → IsLaidOut stack ps → IsHeldAt ps a i → p ≡ get_or ps i p → IsPartAt (first_cell (stack ∷ ps)) a p
part_of_others stack ps a i p laid at is = record {
  here = ap (λ y. contains y a) is ∙ at.here p;
  found = λ q h.
      let b = held p q h in
      let off : (get_or ps i p).base < end_of stack → end_of (get_or ps i p) ≤ stack.base = laid.off_stack i p at.below in
      let off_p : p.base < end_of stack → end_of p ≤ stack.base = subst (λ (y : Part). y.base < end_of stack → end_of y ≤ stack.base) (sym is) off in
      let not_stack : contains stack q ≡ false = off_the_stack stack p q off_p b.0 b.1 in
      first_cell_cons stack ps q ∙ ap (λ t. chosen t (cell_in stack q) (first_cell ps q)) not_stack ∙ found_at ps q i p laid.ascending at.below is h;
  within = subst (λ (y : Part). end_of y ≤ 2 ^ 32) (sym is) (laid.within i p at.below);
}
