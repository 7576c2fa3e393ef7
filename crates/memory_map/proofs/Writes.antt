-- What a write by one look-up answers and leaves.
use Rattle.std.proofs.Common.{◌≡◌, Option, ℕ, ◌+◌, ◌-◌, ◌<◌, ◌≤◌, ◌^◌, List, ◌∷◌, length, get_or, set, Bool, true, false, cond, nat_le, ◌&&◌, refl, sym, ap, ◌∙◌, subst, arith, All}
use Rattle.std.proofs.lemmas.Bool.{and_parts, leb-true, OnTrue_at, OnFalse_at, OnTrue_from}
use Rattle.std.proofs.lemmas.List.{set-get_or}
use Rattle.std.specs.Bool.{OnTrue, OnFalse}
use Rattle.std.specs.FinMap.{get}
use Rattle.memory_map.specs.Part.{Part}
use Rattle.memory_map.specs.declared.heap.Heap.{Heap}
use Rattle.memory_map.specs.Heaps.{Space}
use Rattle.memory_map.specs.Cells.{Map, can, write, placed}
use Rattle.memory_map.specs.Layout.{map_of, contains, allows, first_cell, end_of, overwritten, CanFrom, Overwrites}
use Rattle.memory_map.proofs.Places.{Ascending, held}
use Rattle.memory_map.proofs.Maps.{get_map}
use Rattle.memory_map.proofs.Order.{IsSamePlace}
use Rattle.memory_map.proofs.Placed.{placed_is, written_can}
use Rattle.memory_map.proofs.Written.{pasted_length, overwrites_at, overwrites_first, overwrites_past, past_stack, first_can, found_can}

-- either all bytes were written, or nothing changed
pub record IsWrite (r : Bool) (old new : List Part) (a : ℕ) (bs : List ℕ) : Type 0 where
  pub written : r ≡ true → Overwrites (first_cell old) (first_cell new) a bs
  pub refused : r ≡ false → new ≡ old
  pub one : length bs ≡ 1 → r ≡ can write (first_cell old a)

-- whether a part takes bytes from an address up
abbrev pub takes : Part → ℕ → List ℕ → Bool
takes p a bs = allows p.rights write && nat_le (a + length bs) (end_of p)

one_in : (may : Bool) (p : Part) (a n : ℕ) → contains p a ≡ true → n ≡ 1 → (may && nat_le (a + n) (end_of p)) ≡ may
one_in may p a n here e = grind arith

-- in the first part
pub write_first : (r : Bool) (p new : Part) (ps : List Part) (a : ℕ) (bs : List ℕ) → contains p a ≡ true → end_of p ≤ 2 ^ 32 → r ≡ takes p a bs → new ≡ cond r (overwritten p a bs) p → IsWrite r (p ∷ ps) (new ∷ ps) a bs
write_first r p new ps a bs here below is after = record {
  written = λ e.
      let both = and_parts (allows p.rights write) (nat_le (a + length bs) (end_of p)) (sym is ∙ e) in
      let b = held p a here in
      subst (λ (x : Part). Overwrites (first_cell (p ∷ ps)) (first_cell (x ∷ ps)) a bs) (sym (after ∙ ap (λ t. cond t (overwritten p a bs) p) e))
      (overwrites_first p ps a bs b.0 (leb-true _ _ both.1) below both.0);
  refused = λ e. ap (λ x. x ∷ ps) (after ∙ ap (λ t. cond t (overwritten p a bs) p) e);
  one = λ e. is ∙ one_in (allows p.rights write) p a (length bs) here e ∙ sym (first_can p ps a write here);
}

-- past the stack
pub write_past : (r : Bool) (stack : Part) (ps qs : List Part) (a : ℕ) (bs : List ℕ) → contains stack a ≡ false → All (λ p. p.base < end_of stack → end_of p ≤ stack.base) ps → OnTrue r (Overwrites (first_cell ps) (first_cell qs) a bs) → OnFalse r (qs ≡ ps) → (length bs ≡ 1 → r ≡ can write (first_cell ps a)) → IsWrite r (stack ∷ ps) (stack ∷ qs) a bs
write_past r stack ps qs a bs here off written refused one = record {
  written = λ e. overwrites_past stack ps qs a bs off (OnTrue_at e written);
  refused = λ e. ap (λ x. stack ∷ x) (OnFalse_at e refused);
  one = λ e. one e ∙ ap (can write) (sym (past_stack stack ps a here));
}

-- at a place
pub write_at_place : (r : Bool) (ps : List Part) (i : ℕ) (p new : Part) (a : ℕ) (bs : List ℕ) → Ascending ps → All (λ q. end_of q ≤ 2 ^ 32) ps → i < length ps → p ≡ get_or ps i p → contains p a ≡ true → r ≡ takes p a bs → new ≡ cond r (overwritten p a bs) p → IsWrite r ps (set ps i new) a bs
write_at_place r ps i p new a bs up within l at here is after = record {
  written = λ e.
      let both = and_parts (allows p.rights write) (nat_le (a + length bs) (end_of p)) (sym is ∙ e) in
      let b = held p a here in
      subst (λ (x : Part). Overwrites (first_cell ps) (first_cell (set ps i x)) a bs) (sym (after ∙ ap (λ t. cond t (overwritten p a bs) p) e))
      (overwrites_at ps a i bs p up l at b.0 (leb-true _ _ both.1) (subst (λ (y : Part). end_of y ≤ 2 ^ 32) (sym at) (within i p l)) both.0);
  refused = λ e. ap (set ps i) (after ∙ ap (λ t. cond t (overwritten p a bs) p) e ∙ at) ∙ set-get_or ps i p;
  one = λ e. is ∙ one_in (allows p.rights write) p a (length bs) here e ∙ sym (found_can ps a i write p up l at here);
}

place_kept : (r : Bool) (p : Part) (a : ℕ) (bs : List ℕ) → contains p a ≡ true → r ≡ takes p a bs → IsSamePlace (cond r (overwritten p a bs) p) p
place_kept true p a bs here is =
    let both = and_parts (allows p.rights write) (nat_le (a + length bs) (end_of p)) (sym is) in
    let b = held p a here in
    let fits : a + length bs ≤ end_of p = leb-true _ _ both.1 in
    let low : p.base ≤ a = b.0 in
    record { base = refl; size = pasted_length p.bytes bs (a - p.base) (omega arith) }
place_kept false p a bs here is = record { base = refl; size = refl }

-- a write keeps a part's place
pub same_place : (r : Bool) (p new : Part) (a : ℕ) (bs : List ℕ) → contains p a ≡ true → r ≡ takes p a bs → new ≡ cond r (overwritten p a bs) p → IsSamePlace new p
same_place r p new a bs here is after = subst (λ (x : Part). IsSamePlace x p) (sym after) (place_kept r p a bs here is)

-- the map after a write
pub after_is : (r : Bool) (old new : List Part) (m : Map) (a : ℕ) (bs : List ℕ) → map_of old ≡ m → IsWrite r old new a bs → map_of new ≡ cond r (placed m a bs) m
after_is true old new m a bs e w = placed_is old new m a bs e (w.written refl)
after_is false old new m a bs e w = ap map_of (w.refused refl) ∙ e

pub can_is : (r : Bool) (old new : List Part) (m : Map) (a : ℕ) (bs : List ℕ) → map_of old ≡ m → IsWrite r old new a bs → OnTrue r (CanFrom write m a (length bs))
can_is r old new m a bs e w = OnTrue_from r (CanFrom write m a (length bs)) (λ t. written_can old new m a bs e (w.written t))

pub one_is : (r : Bool) (old new : List Part) (m : Map) (a : ℕ) (bs : List ℕ) → map_of old ≡ m → IsWrite r old new a bs → length bs ≡ 1 → r ≡ can write (get m a)
one_is r old new m a bs e w l = w.one l ∙ ap (can write) (sym (get_map old a) ∙ ap (λ n. get n a) e)

-- a write leaves the heap as it is
pub space_after : (r : Bool) (m p : Map) (h : Option Heap) (s : Space) → h ≡ s.heap → m ≡ cond r p s.map → (let x : Space = record { map = m; heap = h } in x) ≡ cond r (record { map = p; heap = s.heap }) s
space_after true m p h s e f = (λ i. record { map = f i; heap = e i })
space_after false m p h s e f = (λ i. record { map = f i; heap = e i })
