-- Parts of a plain state that agrees with terms.
use Rattle.std.proofs.Common.{◌≡◌, ℕ, zero, suc, ◌-◌, ◌^◌, List, [], ◌∷◌, map, set, get_or, Option, Some, None, Bool, true, false, if◌then◌else◌, refl, sym, ap, ◌∙◌, arith, ◌==◌, ◌||◌, cond, min}
use Rattle.std.specs.Ordering.{nat_cmp, eq_by_cmp}
use Rattle.std.specs.Cmp.{nat_cmp_total}
use Rattle.std.specs.FinMap.{get, get-insert}
use Rattle.std.proofs.Math.ListN.{get_or-map}
use Rattle.std.proofs.lemmas.List.{map-set}
use Rattle.std.proofs.lemmas.Bool.{eqb-true, false≢true}
use Rattle.std.proofs.lemmas.Grind.{common_steps}
use Rattle.term_model.specs.Tree.{Tree, Const}
use Rattle.term_model.specs.Value.{val}
use Rattle.memory_map.specs.Cells.{Map, Cell, can, read, write, first_without, byte_of_cell, byte_at, next_address, with_byte, placed}
use Rattle.memory_map.specs.declared.heap.Heap.{Heap}
use Rattle.memory_map.specs.Heaps.{heap_cell, with_break, is_in_span}
use Rattle.memory_map.proofs.Heaps.{get-with_break}
use Rattle.call_replies.specs.Calls.{reply_to}
use Rattle.call_replies.proofs.Replies.{rests_on_rights}
use Rattle.rv_machine.specs.State.{State, reg, written}
use Rattle.replay_law.specs.Terms.{SymbolicState, reg_term, written_term, with_tree, put_trees, zero_between}
use Rattle.replay_law.proofs.Agreement.{cell_with, Agrees}

-- ---- rights

-- two memories with the same rights
pub record HaveSameRights (m k : Map) : Type 0 where
  pub here : (right a : ℕ) → can right (get m a) ≡ can right (get k a)

-- another byte changes no right
can_with : (right byte : ℕ) (o : Option Cell) → can right (cell_with byte o) ≡ can right o
can_with right byte None = refl
can_with right byte (Some cell) = refl

-- a state that agrees with terms has the rights of their cells
pub same_rights : {terms : SymbolicState} {y : List ℕ} {s : State} → Agrees terms y s → HaveSameRights s.memory terms.cells
same_rights {terms} {y} {s} ag = record {
  here = λ right a. ap (can right) (ag.memory a) ∙ can_with right (val (terms.bytes a) y) (get terms.cells a);
}

-- two memories with a third's rights have the same
pub both_rights : {m k l : Map} → HaveSameRights m l → HaveSameRights k l → HaveSameRights m k
both_rights f g = record { here = λ right a. f.here right a ∙ sym (g.here right a) }

-- ranges of two such memories have the same fault
pub first_same : (m k : Map) → HaveSameRights m k → (right n a : ℕ) → first_without right m a n ≡ first_without right k a n
unfolding first_without
first_same m k h right zero a = refl
first_same m k h right (suc n) a =
    (λ i. if h.here right a i then first_same m k h right n (next_address a) i else Some a)

-- the replies to a call are the same
pub reply_same : {m k : Map} → HaveSameRights m k → (heap : Option Heap) (left a7 a0 a1 a2 : ℕ) → reply_to m heap left a7 a0 a1 a2 ≡ reply_to k heap left a7 a0 a1 a2
reply_same {m} {k} h heap left a7 a0 a1 a2 = rests_on_rights m k (first_same m k h) heap left a7 a0 a1 a2

-- ---- addresses that may be used

-- no fault in a range: its first address has the right
here_of : (b : Bool) (o : Option ℕ) (a : ℕ) → (if b then o else Some a) ≡ None → b ≡ true
here_of true o a h = refl
here_of false o a h = cc

-- no fault in a range: nor is one in what comes after its first address
rest_of : (b : Bool) (o : Option ℕ) (a : ℕ) → (if b then o else Some a) ≡ None → o ≡ None
rest_of true o a h = h
rest_of false o a h = cc

-- the first address of a range without fault
pub can_here : (right : ℕ) (m : Map) (a n : ℕ) → first_without right m a (suc n) ≡ None → can right (get m a) ≡ true
unfolding first_without
can_here right m a n h = here_of _ _ a h

-- the next address of one
pub can_next : (right : ℕ) (m : Map) (a n : ℕ) → first_without right m a (suc n) ≡ None → first_without right m (next_address a) n ≡ None
unfolding first_without
can_next right m a n h = rest_of _ _ a h

-- the byte of a cell with another byte
byte_with : (right byte : ℕ) (o : Option Cell) → can right o ≡ true → byte_of_cell (cell_with byte o) ≡ byte
byte_with right byte None h = absurd (false≢true h)
byte_with right byte (Some cell) h = refl

-- the byte at an address with a right is the value of its term
pub byte_is_value : {terms : SymbolicState} {y : List ℕ} {s : State} → Agrees terms y s → (right a : ℕ) → can right (get s.memory a) ≡ true → byte_at s.memory a ≡ val (terms.bytes a) y
byte_is_value {terms} {y} {s} ag right a h =
    ap byte_of_cell (ag.memory a) ∙ byte_with right (val (terms.bytes a) y) (get terms.cells a) (sym ((same_rights ag).here right a) ∙ h)

-- ---- registers

-- the value of a register is that of its term
pub reg_value : {terms : SymbolicState} {y : List ℕ} {s : State} → Agrees terms y s → (r : ℕ) → reg s r ≡ val (reg_term terms r) y
reg_value {terms} {y} {s} ag r = ap (λ rs. get_or rs r 0) ag.registers ∙ get_or-map (λ t. val t y) terms.registers r (Const 0)

-- a list after a write, by the test for x0
write_if : (b : Bool) (rd v : ℕ) (t : Tree) (y : List ℕ) (ts : List Tree) → v ≡ val t y → (if b then map (λ u. val u y) ts else set (map (λ u. val u y) ts) rd v) ≡ map (λ u. val u y) (if b then ts else set ts rd t)
write_if true rd v t y ts e = refl
write_if false rd v t y ts e = ap (set (map (λ u. val u y) ts) rd) e ∙ sym (map-set (λ u. val u y) ts rd t)

-- registers after a write are the values of the terms after it
pub written_value : {terms : SymbolicState} {y : List ℕ} {s : State} → Agrees terms y s → (rd v : ℕ) (t : Tree) → v ≡ val t y → written rd v s.registers ≡ map (λ u. val u y) (written_term rd t terms.registers)
written_value {terms} {y} {s} ag rd v t e = ap (written rd v) ag.registers ∙ write_if (rd == 0) rd v t y terms.registers e

-- ---- memory

-- memory that is another with the values of terms
pub record IsValued (image : Map) (bytes : ℕ → Tree) (y : List ℕ) (m : Map) : Type 0 where
  pub at : (a : ℕ) → get m a ≡ cell_with (val (bytes a) y) (get image a)

-- the order of addresses tells them apart
key_eq : (q k : ℕ) → eq_by_cmp nat_cmp q k ≡ (q == k)
key_eq q k = grind (arith, common_steps)

-- the cell at one address after a write at another
with_other : (m : Map) (a v q : ℕ) (o : Option Cell) → get m a ≡ o → (q == a) ≡ false → get (with_byte m a v o) q ≡ get m q
with_other m a v q None e f = refl
with_other m a v q (Some c) e f =
    get-insert nat_cmp_total m a (record { byte = v; rights = c.rights }) q ∙ ap (λ b. cond b (Some (record { byte = v; rights = c.rights })) (get m q)) (key_eq q a ∙ f)

-- a cell with another byte, in a memory with another's rights
with_same : (m : Map) (a v q : ℕ) (o : Option Cell) → get m a ≡ o → (q == a) ≡ true → get (with_byte m a v o) q ≡ cell_with v o
with_same m a v q None e f = ap (get m) (eqb-true q a f) ∙ e
with_same m a v q (Some c) e f =
    get-insert nat_cmp_total m a (record { byte = v; rights = c.rights }) q ∙ ap (λ b. cond b (Some (record { byte = v; rights = c.rights })) (get m q)) (key_eq q a ∙ f)

-- of two other bytes the second counts
cell_with_twice : (v w : ℕ) (o : Option Cell) → cell_with v (cell_with w o) ≡ cell_with v o
cell_with_twice v w None = refl
cell_with_twice v w (Some c) = refl

-- a memory that terms give values to
valued_by : (image : Map) (bytes : ℕ → Tree) (y : List ℕ) (m : Map) (a q : ℕ) (t : Tree) (b : Bool) → IsValued image bytes y m → (q == a) ≡ b → get (with_byte m a (val t y) (get m a)) q ≡ cell_with (val (if b then t else bytes q) y) (get image q)
valued_by image bytes y m a q t true h e =
    with_same m a (val t y) q (get m a) refl e ∙ ap (cell_with (val t y)) (h.at a) ∙ cell_with_twice (val t y) (val (bytes a) y) (get image a) ∙ ap (λ p. cell_with (val t y) (get image p)) (sym (eqb-true q a e))
valued_by image bytes y m a q t false h e = with_other m a (val t y) q (get m a) refl e ∙ h.at q

-- one more byte of it
one_valued : (image : Map) (bytes : ℕ → Tree) (y : List ℕ) (m : Map) (a : ℕ) (t : Tree) → IsValued image bytes y m → IsValued image (with_tree bytes a t) y (with_byte m a (val t y) (get m a))
one_valued image bytes y m a t h = record { at = λ q. valued_by image bytes y m a q t (q == a) h refl }

-- bytes placed in it
pub placed_valued : (image : Map) (bytes : ℕ → Tree) (y : List ℕ) (m : Map) (a : ℕ) (ts : List Tree) → IsValued image bytes y m → IsValued image (put_trees bytes a ts) y (placed m a (map (λ t. val t y) ts))
unfolding placed put_trees
placed_valued image bytes y m a [] h = h
placed_valued image bytes y m a (t ∷ ts) h = placed_valued image (with_tree bytes a t) y (with_byte m a (val t y) (get m a)) (next_address a) ts (one_valued image bytes y m a t h)

-- a cell after the break has moved, by where it stands
break_by : (u w : Bool) (t : Tree) (y : List ℕ) (o : Option Cell) → cond u None (cond w (Some heap_cell) (cell_with (val t y) o)) ≡ cell_with (val (if w || u then Const 0 else t) y) (cond u None (cond w (Some heap_cell) o))
break_by true true t y o = refl
break_by true false t y o = refl
break_by false true t y o = refl
break_by false false t y o = refl

-- it stays valued when the break moves
pub break_valued : (image : Map) (bytes : ℕ → Tree) (y : List ℕ) (m : Map) (old new : ℕ) → IsValued image bytes y m → IsValued (with_break image old new) (zero_between bytes old new) y (with_break m old new)
break_valued image bytes y m old new h = record {
  at = λ q.
      get-with_break m old new q
      ∙ ap (λ o. cond (is_in_span new (old - new) q) None (cond (is_in_span old (new - old) q) (Some heap_cell) o)) (h.at q)
      ∙ break_by (is_in_span new (old - new) q) (is_in_span old (new - old) q) (bytes q) y (get image q)
      ∙ ap (cell_with (val (zero_between bytes old new q) y)) (sym (get-with_break image old new q));
}

-- ---- what holds of all terms

-- a property of each element
abbrev pub Each : (Tree → Type 0) → List Tree → Type 0
Each P [] = Unit {0}
Each P (t ∷ ts) = P t × Each P ts

-- a list after a write keeps what holds of its terms
set_keeps : (P : Tree → Type 0) (ts : List Tree) (i r : ℕ) (t : Tree) → P t → P (get_or ts r (Const 0)) → P (get_or (set ts i t) r (Const 0))
set_keeps P [] i r t p q = q
set_keeps P (u ∷ us) zero zero t p q = p
set_keeps P (u ∷ us) zero (suc r) t p q = q
set_keeps P (u ∷ us) (suc i) zero t p q = q
set_keeps P (u ∷ us) (suc i) (suc r) t p q = set_keeps P us i r t p q

-- so does one after a write by a test
write_keeps : (P : Tree → Type 0) (ts : List Tree) (rd r : ℕ) (t : Tree) (b : Bool) → P t → P (get_or ts r (Const 0)) → P (get_or (if b then ts else set ts rd t) r (Const 0))
write_keeps P ts rd r t true p q = q
write_keeps P ts rd r t false p q = set_keeps P ts rd r t p q

-- so do registers
pub written_keeps : (P : Tree → Type 0) (ts : List Tree) (rd r : ℕ) (t : Tree) → P t → P (get_or ts r (Const 0)) → P (get_or (written_term rd t ts) r (Const 0))
written_keeps P ts rd r t p q = write_keeps P ts rd r t (rd == 0) p q

-- a property of either of two terms, by a test
choose : (P : Tree → Type 0) (b : Bool) (t u : Tree) → P t → P u → P (if b then t else u)
choose P true t u p q = p
choose P false t u p q = q

-- so does memory as the break moves
pub zero_keeps : (P : Tree → Type 0) (bytes : ℕ → Tree) (old new : ℕ) → P (Const 0) → ((q : ℕ) → P (bytes q)) → (q : ℕ) → P (zero_between bytes old new q)
zero_keeps P bytes old new z h q = choose P (is_in_span old (new - old) q || is_in_span new (old - new) q) (Const 0) (bytes q) z (h q)

-- so does memory
pub put_keeps : (P : Tree → Type 0) (bytes : ℕ → Tree) (a : ℕ) (ts : List Tree) → ((q : ℕ) → P (bytes q)) → Each P ts → (q : ℕ) → P (put_trees bytes a ts q)
unfolding put_trees
put_keeps P bytes a [] h k q = h q
put_keeps P bytes a (t ∷ ts) h k q = put_keeps P (with_tree bytes a t) (next_address a) ts (λ p. choose P (p == a) t (bytes p) k.0 (h p)) k.1 q
