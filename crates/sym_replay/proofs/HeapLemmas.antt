-- The terms that stand at the addresses of a heap whose break moves.
use Rattle.std.proofs.Common.{◌≡◌, ℕ, ◌-◌, ◌<◌, ◌≤◌, ◌||◌, ◌&&◌, nat_le, nat_lt, min, max, if◌then◌else◌, Result, Ok, Err, OnOk, List, Option, Some, None, Bool, true, false, cond, refl, ap, ◌∙◌, arith, inl, inr}
use Rattle.std.proofs.lemmas.Bool.{cases_lt}
use Rattle.std.specs.Ordering.{nat_cmp}
use Rattle.std.specs.BTreeMap.{BTreeMap, get, Updates, is_at}
use Rattle.std.specs.FinMap as finmap
use Rattle.memory_map.specs.Cells.{Map, Cell, byte_at, byte_of_cell}
use Rattle.memory_map.specs.declared.heap.Heap.{Heap}
use Rattle.memory_map.specs.Heaps.{heap_cell, may_break, with_break, after_break, is_in_span}
use Rattle.memory_map.proofs.Heaps.{get-with_break}
use Rattle.term_model.specs.Tree.{Tree, Const}
use Rattle.sym_replay.specs.declared.state.ReplayState.{ReplayState}
use Rattle.sym_replay.specs.States.{byte_tree, HoldsBytes, IsState}
use Rattle.sym_replay.proofs.StateLemmas.{at_key, replaced, fewer_terms, one_of}

-- ---- terms that are taken away

-- what is left at an address once the terms from one address up to another are taken away
abbrev pub cleared : ℕ → ℕ → ℕ → Option ℕ → Option ℕ
cleared from to q o = cond (nat_le from q && nat_lt q to) None o

without_one : (from to a q : ℕ) (t : Bool) (o : Option ℕ) → from ≤ a → a < to → (t ≡ true → q ≡ a) → cleared from to q (cond t None o) ≡ cleared from to q o
without_one from to a q true o h l e = in_range (nat_le from q && nat_lt q to) (let f = e refl in grind arith)
  where
    in_range : (u : Bool) → u ≡ true → cond u None None ≡ cond u None o
    in_range true k = refl
    in_range false k = cc
without_one from to a q false o h l e = refl

-- one more is taken away
pub one_cleared : (old new : BTreeMap ℕ ℕ) (from to a : ℕ) → from ≤ a → a < to → Updates nat_cmp old new a None → (q : ℕ) → cleared from to q (get nat_cmp new q) ≡ cleared from to q (get nat_cmp old q)
one_cleared old new from to a h l updates q = ap (cleared from to q) (updates.0 q) ∙ without_one from to a q (is_at (nat_cmp a) q) (get nat_cmp old q) h l (at_key a q)

-- none is left
pub none_left : (m : BTreeMap ℕ ℕ) (from to q : ℕ) → ((r : ℕ) → from ≤ r → r < to → get nat_cmp m r ≡ None) → get nat_cmp m q ≡ cleared from to q (get nat_cmp m q)
none_left m from to q none = by_test (nat_le from q && nat_lt q to) refl
  where
    by_test : (t : Bool) → (nat_le from q && nat_lt q to) ≡ t → get nat_cmp m q ≡ cond t None (get nat_cmp m q)
    by_test true e = none q (grind arith) (grind arith)
    by_test false e = refl

-- the addresses that the break moves past
same_down : (b a q lo hi : ℕ) → a < b → lo ≡ a → hi ≡ b → (nat_le lo q && nat_lt q hi) ≡ (is_in_span b (a - b) q || is_in_span a (b - a) q)
same_down b a q lo hi h e f = grind arith

same_up : (b a q lo hi : ℕ) → b ≤ a → lo ≡ b → hi ≡ a → (nat_le lo q && nat_lt q hi) ≡ (is_in_span b (a - b) q || is_in_span a (b - a) q)
same_up b a q lo hi h e f = grind arith

between : (b a q lo hi : ℕ) → lo ≡ min b a → hi ≡ max b a → (nat_le lo q && nat_lt q hi) ≡ (is_in_span b (a - b) q || is_in_span a (b - a) q)
between b a q lo hi e f = elim (cases_lt a b) as (λ _. (nat_le lo q && nat_lt q hi) ≡ (is_in_span b (a - b) q || is_in_span a (b - a) q)) [
  | inl down ↦ same_down b a q lo hi down (omega arith) (omega arith)
  | inr up ↦ same_up b a q lo hi up (omega arith) (omega arith)
]

-- the byte at an address after the break has moved
moved_cell : (t u : Bool) (o : Option Cell) → byte_of_cell (cond u None (cond t (Some heap_cell) o)) ≡ cond (t || u) 0 (byte_of_cell o)
moved_cell true true o = refl
moved_cell true false o = refl
moved_cell false true o = refl
moved_cell false false o = refl

moved_byte : (m : Map) (b a q : ℕ) → byte_at (with_break m b a) q ≡ cond (is_in_span b (a - b) q || is_in_span a (b - a) q) 0 (byte_at m q)
moved_byte m b a q = ap byte_of_cell (get-with_break m b a q) ∙ moved_cell (is_in_span b (a - b) q) (is_in_span a (b - a) q) (finmap.get m q)

-- memory holds bytes after it has
pub moved_held : (m : Map) (b a : ℕ) → HoldsBytes m → HoldsBytes (with_break m b a)
moved_held m b a held q = one_of (is_in_span b (a - b) q || is_in_span a (b - a) q) 0 (byte_at m q) _ (omega arith) (held q) (moved_byte m b a q)

-- the tree at an address after the break has moved
pub swept : (trees : List Tree) (m : Map) (h : Heap) (a lo hi q : ℕ) (o n : Option ℕ) → lo ≡ min h.brk a → hi ≡ max h.brk a → n ≡ cleared lo hi q o → byte_tree trees (with_break m h.brk a) q n ≡ (if is_in_span h.brk (a - h.brk) q || is_in_span a (h.brk - a) q then Const 0 else byte_tree trees m q o)
swept trees m h a lo hi q o n e f left =
    replaced trees m (with_break m h.brk a) q 0 o n (is_in_span h.brk (a - h.brk) q || is_in_span a (h.brk - a) q)
    (left ∙ ap (λ t. cond t None o) (between h.brk a q lo hi e f)) (moved_byte m h.brk a q)

-- the state once these terms are taken away
pub cleared_state : (trees : List Tree) (s : ReplayState) (new : BTreeMap ℕ ℕ) (lo hi : ℕ) → IsState trees s → ((q : ℕ) → get nat_cmp new q ≡ cleared lo hi q (get nat_cmp s.bytes q)) → IsState trees (record s { bytes = new })
cleared_state trees s new lo hi h left = fewer_terms trees s new (λ q. nat_le lo q && nat_lt q hi) h left

-- what brk leaves of memory
pub break_done : (m : Map) (o : Option Heap) (h : Heap) (a : ℕ) → o ≡ Some h → may_break h a ≡ true → after_break m o a ≡ record { map = with_break m h.brk a; heap = Some (record { start = h.start; brk = a }) }
break_done m o h a e may =
    ap (λ x. after_break m x a) e
    ∙ ap (λ t. cond t (record { map = with_break m h.brk a; heap = Some (record { start = h.start; brk = a }) }) (record { map = m; heap = Some h })) may

-- what follows from what an Ok says
pub on_ok : {A E : Type 0} {P Q : Type 0} (r : Result A E) → (P → Q) → OnOk r P → OnOk r Q
on_ok (Ok x) f h = f h
on_ok (Err e) f h = h

-- one more step of an equation
pub on_ok_then : {A E T : Type 0} (r : Result A E) (x y z : T) → y ≡ z → OnOk r (x ≡ y) → OnOk r (x ≡ z)
on_ok_then r x y z e h = on_ok {P = x ≡ y} {Q = x ≡ z} r (λ f. f ∙ e) h
