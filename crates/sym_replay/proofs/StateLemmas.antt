-- States of the replay.
use Rattle.std.proofs.Common.{◌≡◌, Fits, w8, get_or, ℕ, zero, suc, ◌+◌, ◌<◌, ◌≤◌, ◌^◌, List, [], ◌∷◌, set, replicate, min, max, All, Option, Some, None, Bool, true, false, cond, refl, sym, ap, ◌∙◌, arith, subst, ◌==◌, if◌then◌else◌}
use Rattle.std.specs.Ordering.{nat_cmp}
use Rattle.std.specs.BTreeMap.{BTreeMap, get, Updates, is_at}
use Rattle.std.proofs.lemmas.Bool.{eqb-true}
use Rattle.std.proofs.lemmas.Grind.{common_steps}
use Rattle.std.proofs.lemmas.List.{map-set, get_or_default}
use Rattle.term_model.specs.Tree.{Tree, Const, Input}
use Rattle.term_arena.specs.Trees.{Extends}
use Rattle.std.specs.FinMap as finmap
use Rattle.elf32.specs.declared.segments.Segment.{Segment}
use Rattle.memory_map.specs.Cells.{Map, Cell, byte_at, byte_of_cell, can, write, execute, all_can, word_at, fetched, with_byte, next_address, start_map}
use Rattle.memory_map.specs.Heaps.{Space}
use Rattle.rv_machine.specs.State.{start}
use Rattle.machine_laws.specs.Kept as kept
use Rattle.replay_law.specs.Terms.{SymbolicState, with_tree, put_trees, input_terms}
use Rattle.sym_replay.specs.declared.state.ReplayState.{ReplayState}
use Rattle.sym_replay.specs.declared.value.Value.{Value}
use Rattle.sym_replay.specs.declared.value.Value.TheVariants.{Known, Term}
use Rattle.sym_replay.specs.Cells.{without_bytes}
use Rattle.sym_replay.specs.Values.{value_tree, IsTermIn, IsValueOf}
use Rattle.sym_replay.specs.States.{byte_tree, value_trees, terms_of, AreWithin, HoldsBytes, IsKnownWord, IsState}
use Rattle.sym_replay.proofs.CellLemmas.{stored_bare, stored_byte}
use Rattle.sym_replay.proofs.ValueLemmas.{grown_term, grown_value, grown_values}

-- a state of an arena that has grown
pub grown_state : (old new : List Tree) (s : ReplayState) → Extends old new → IsState old s → IsState new s
grown_state old new s g h = record { registers = λ k d lt. grown_value old new g _ (h.registers k d lt); count = h.count; bytes = λ a t e. grown_term old new g t (h.bytes a t e); within = h.within; held = h.held }

-- it stands for the same terms
pub grown_terms : (old new : List Tree) (s : ReplayState) → Extends old new → IsState old s → terms_of new s ≡ terms_of old s
grown_terms old new s g h = (λ i. record {
  registers = grown_values old new g s.registers h.registers i;
  bytes = λ a. same_byte a (get nat_cmp s.bytes a) refl i;
  place = s.place;
  cells = without_bytes s.memory.map;
  heap = s.memory.heap;
})
  where
    same_byte : (a : ℕ) (o : Option ℕ) → get nat_cmp s.bytes a ≡ o → byte_tree new s.memory.map a o ≡ byte_tree old s.memory.map a o
    same_byte a None e = refl
    same_byte a (Some t) e = g.same t (h.bytes a t e).belongs

-- ---- terms in memory

pub at_key : (a q : ℕ) → is_at (nat_cmp a) q ≡ true → q ≡ a
at_key a q e = grind (arith, common_steps)

-- no term outside of the range
pub none_outside : (bytes : BTreeMap ℕ ℕ) (lowest highest a : ℕ) → AreWithin bytes lowest highest → (lowest ≤ a → a ≤ highest → ⊥) → None ≡ get nat_cmp bytes a
none_outside bytes lowest highest a within out = by_look (get nat_cmp bytes a) refl
  where
    by_look : (o : Option ℕ) → get nat_cmp bytes a ≡ o → None ≡ o
    by_look None e = refl
    by_look (Some t) e = absurd (let h = within a t e in out h.0 h.1)

-- one more term in memory
pub put_state : (trees : List Tree) (s : ReplayState) (new : BTreeMap ℕ ℕ) (address t lowest highest : ℕ) → IsState trees s → IsTermIn trees t → Updates nat_cmp s.bytes new address (Some t) → lowest ≡ min s.lowest address → highest ≡ max s.highest address → IsState trees (record s { bytes = new; lowest = lowest; highest = highest })
put_state trees s new address t lowest highest h here updates low high = record {
  registers = h.registers;
  count = h.count;
  bytes = λ a u e. by_test (is_at (nat_cmp address) a) a u (sym (updates.0 a) ∙ e);
  within = λ a u e. in_range (is_at (nat_cmp address) a) a u refl (sym (updates.0 a) ∙ e);
  held = h.held;
}
  where
    by_test : (b : Bool) (a u : ℕ) → cond b (Some t) (get nat_cmp s.bytes a) ≡ Some u → IsTermIn trees u
    by_test true a u e = let same : t ≡ u = cc in subst (IsTermIn trees) same here
    by_test false a u e = h.bytes a u e

    in_range : (b : Bool) (a u : ℕ) → is_at (nat_cmp address) a ≡ b → cond b (Some t) (get nat_cmp s.bytes a) ≡ Some u → (lowest ≤ a) × (a ≤ highest)
    in_range true a u at e = let same : a ≡ address = at_key address a at in (omega (arith, same, low), omega (arith, same, high))
    in_range false a u at e = let old = h.within a u e in (omega (arith, old.0, low), omega (arith, old.1, high))

-- a look-up after the term at an address is taken away
pub forgotten : (old new : BTreeMap ℕ ℕ) (a q : ℕ) → Updates nat_cmp old new a None → get nat_cmp new q ≡ (if q == a then None else get nat_cmp old q)
forgotten old new a q updates = updates.0 q ∙ ap (λ (b : Bool). cond b None (get nat_cmp old q)) (same_key a q)
  where
    same_key : (a q : ℕ) → is_at (nat_cmp a) q ≡ (q == a)
    same_key a q = grind (arith, common_steps)

-- and where there was none
pub none_forgotten : (bytes : BTreeMap ℕ ℕ) (a q : ℕ) → None ≡ get nat_cmp bytes a → get nat_cmp bytes q ≡ (if q == a then None else get nat_cmp bytes q)
none_forgotten bytes a q none = by_test (q == a) refl
  where
    by_test : (b : Bool) → (q == a) ≡ b → get nat_cmp bytes q ≡ cond b None (get nat_cmp bytes q)
    by_test true e = ap (get nat_cmp bytes) (eqb-true q a e) ∙ sym none
    by_test false e = refl

-- a state whose terms are some of another's
pub fewer_terms : (trees : List Tree) (s : ReplayState) (new : BTreeMap ℕ ℕ) (gone : ℕ → Bool) → IsState trees s → ((q : ℕ) → get nat_cmp new q ≡ cond (gone q) None (get nat_cmp s.bytes q)) → IsState trees (record s { bytes = new })
fewer_terms trees s new gone h left = record {
  registers = h.registers;
  count = h.count;
  bytes = λ a t e. h.bytes a t (still a t e);
  within = λ a t e. h.within a t (still a t e);
  held = h.held;
}
  where
    by_test : (b : Bool) (a t : ℕ) → cond b None (get nat_cmp s.bytes a) ≡ Some t → get nat_cmp s.bytes a ≡ Some t
    by_test true a t e = cc
    by_test false a t e = e

    still : (a t : ℕ) → get nat_cmp new a ≡ Some t → get nat_cmp s.bytes a ≡ Some t
    still a t e = by_test (gone a) a t (sym (left a) ∙ e)

-- ---- bytes of memory

-- the numbers of a slice of bytes
pub all_bytes : (xs : List ℕ) → ((i : ℕ) → Fits w8 (get_or xs i 0)) → All (λ b. b < 256) xs
all_bytes xs fits k d l = let f : Fits w8 (get_or xs k 0) = fits k in let e : get_or xs k d ≡ get_or xs k 0 = get_or_default xs k d 0 l in omega arith

-- one of two bytes
pub one_of : (t : Bool) (b c x : ℕ) → b < 256 → c < 256 → x ≡ cond t b c → x < 256
one_of true b c x l h e = omega (arith, e)
one_of false b c x l h e = omega (arith, e)

-- a cell's
cell_byte : (m : Map) (a : ℕ) (o : Option Cell) → finmap.get m a ≡ o → kept.HoldsBytes m → byte_of_cell o < 256
cell_byte m a None e h = omega arith
cell_byte m a (Some c) e h = h a c e

-- memory holds bytes at the start of a program
pub start_held : (segments : List Segment) → kept.IsState [] (start 0 segments) → HoldsBytes (start_map segments)
unfolding start
start_held segments is a = cell_byte (start_map segments) a (finmap.get (start_map segments) a) refl is.memory

-- the word that is fetched
word_fetched : (b : Bool) (v w : ℕ) → (if b then Some v else None) ≡ Some w → v ≡ w
word_fetched true v w e = cc
word_fetched false v w e = (let none : None ≡ Some w = e in cc)

-- the bytes of a fetched word
pub fetched_bytes : (s : ReplayState) (a w : ℕ) → HoldsBytes s.memory.map → a + 3 < 2 ^ 32 → ((q : ℕ) → a ≤ q → q ≤ a + 3 → None ≡ get nat_cmp s.bytes q) → fetched s.memory.map a ≡ Some w → IsKnownWord s a w
fetched_bytes s a w held fits none is =
    let m = s.memory.map in
    let second = next_address a in
    let third = next_address second in
    let fourth = next_address third in
    let word : word_at m a ≡ w = word_fetched (all_can execute m a 4) (word_at m a) w is in
    let b0 = held a in
    let b1 = held second in
    let b2 = held third in
    let b3 = held fourth in
    record {
      lowest = record { none = none a (omega arith) (omega arith); is = omega (arith, word, b0, b1, b2, b3) };
      second = record { none = none second (omega (arith, fits)) (omega (arith, fits)); is = omega (arith, word, b0, b1, b2, b3) };
      third = record { none = none third (omega (arith, fits)) (omega (arith, fits)); is = omega (arith, word, b0, b1, b2, b3) };
      highest = record { none = none fourth (omega (arith, fits)) (omega (arith, fits)); is = omega (arith, word, b0, b1, b2, b3) };
    }

-- memory's bytes say nothing of a state's terms
pub other_memory : (trees : List Tree) (s : ReplayState) (memory : Space) → HoldsBytes memory.map → IsState trees s → IsState trees (record s { memory = memory })
other_memory trees s memory held h = record { registers = h.registers; count = h.count; bytes = h.bytes; within = h.within; held = held }

-- the tree at an address, where some terms are gone and the bytes there are new
pub replaced : (trees : List Tree) (m new : Map) (q v : ℕ) (o n : Option ℕ) (t : Bool) → n ≡ cond t None o → byte_at new q ≡ cond t v (byte_at m q) → byte_tree trees new q n ≡ cond t (Const v) (byte_tree trees m q o)
replaced trees m new q v o n true e is = ap (byte_tree trees new q) e ∙ ap Const is
replaced trees m new q v None n false e same = ap (byte_tree trees new q) e ∙ ap Const same
replaced trees m new q v (Some u) n false e same = ap (byte_tree trees new q) e

-- the value of a byte that is a term
pub term_byte : (trees : List Tree) (s : ReplayState) (a t : ℕ) → IsState trees s → Some t ≡ get nat_cmp s.bytes a → IsValueOf trees (byte_tree trees s.memory.map a (get nat_cmp s.bytes a)) (Term t)
term_byte trees s a t h e = record { within = h.bytes a t (sym e); is = ap (byte_tree trees s.memory.map a) e }

-- and of one that is none
pub known_byte : (trees : List Tree) (s : ReplayState) (a b : ℕ) → b < 2 ^ 32 → b ≡ byte_at s.memory.map a → None ≡ get nat_cmp s.bytes a → IsValueOf trees (byte_tree trees s.memory.map a (get nat_cmp s.bytes a)) (Known b)
known_byte trees s a b lt e none = record { within = lt; is = ap Const e ∙ ap (byte_tree trees s.memory.map a) none }

-- ---- registers

-- a property of each element, and of one that is put among them
pub all_set : {A : Type 0} (P : A → Type 0) (xs : List A) (i : ℕ) (v : A) → P v → All P xs → All P (set xs i v)
all_set P [] i v h each k d lt = absurd (omega arith)
all_set P (x ∷ xs) zero v h each zero d lt = h
all_set P (x ∷ xs) zero v h each (suc k) d lt = each (suc k) d (omega arith)
all_set P (x ∷ xs) (suc i) v h each zero d lt = each 0 d (omega arith)
all_set P (x ∷ xs) (suc i) v h each (suc k) d lt = all_set P xs i v h (λ j e l. each (suc j) e (omega arith)) k d (omega arith)

pub all_same : {A : Type 0} (P : A → Type 0) (n : ℕ) (v : A) → P v → All P (replicate n v)
all_same P zero v h k d lt = absurd (omega arith)
all_same P (suc n) v h zero d lt = h
all_same P (suc n) v h (suc k) d lt = all_same P n v h k d (omega arith)

-- registers with another value in one
pub put_registers : (trees : List Tree) (rs : List Value) (r : ℕ) (v : Value) → (r == 0) ≡ false → value_trees trees (set rs r v) ≡ (if r == 0 then value_trees trees rs else set (value_trees trees rs) r (value_tree trees v))
put_registers trees rs r v far = map-set (value_tree trees) rs r v ∙ ap (λ (b : Bool). if b then value_trees trees rs else set (value_trees trees rs) r (value_tree trees v)) (sym far)

-- ---- terms

-- terms with others in memory
abbrev pub with_bytes : SymbolicState → (ℕ → Tree) → SymbolicState
with_bytes s bytes = record s { bytes = bytes }

-- a number in memory, where it may be written, and no term there
pub number_put : (trees : List Tree) (s : ReplayState) (new : BTreeMap ℕ ℕ) (memory : Space) (a b : ℕ) → can write (finmap.get s.memory.map a) ≡ true → memory ≡ record s.memory { map = with_byte s.memory.map a b (finmap.get s.memory.map a) } → ((q : ℕ) → get nat_cmp new q ≡ (if q == a then None else get nat_cmp s.bytes q)) → terms_of trees (record s { bytes = new; memory = memory }) ≡ with_bytes (terms_of trees s) (with_tree (terms_of trees s).bytes a (Const b))
number_put trees s new memory a b may stored left = (λ i. record {
  registers = value_trees trees s.registers;
  bytes = λ q. byte q i;
  place = s.place;
  cells = cells i;
  heap = (stored i).heap;
})
  where
    after : Map
    after = with_byte s.memory.map a b (finmap.get s.memory.map a)

    byte : (q : ℕ) → byte_tree trees memory.map q (get nat_cmp new q) ≡ with_tree (terms_of trees s).bytes a (Const b) q
    byte q = (λ i. byte_tree trees (stored i).map q (get nat_cmp new q)) ∙ replaced trees s.memory.map after q b (get nat_cmp s.bytes q) (get nat_cmp new q) (q == a) (left q) (stored_byte s.memory.map a b q may)

    cells : without_bytes memory.map ≡ without_bytes s.memory.map
    cells = (λ i. without_bytes (stored i).map) ∙ stored_bare s.memory.map a b

-- the state with it
pub number_state : (trees : List Tree) (s : ReplayState) (new : BTreeMap ℕ ℕ) (memory : Space) (a b : ℕ) → b < 256 → can write (finmap.get s.memory.map a) ≡ true → memory ≡ record s.memory { map = with_byte s.memory.map a b (finmap.get s.memory.map a) } → ((q : ℕ) → get nat_cmp new q ≡ (if q == a then None else get nat_cmp s.bytes q)) → IsState trees s → IsState trees (record s { bytes = new; memory = memory })
number_state trees s new memory a b byte may stored left h =
    other_memory trees (record s { bytes = new }) memory
    (subst (λ (m : Space). HoldsBytes m.map) (sym stored) (λ q. one_of (q == a) b (byte_at s.memory.map q) _ byte (h.held q) (stored_byte s.memory.map a b q may)))
    (fewer_terms trees s new (λ q. q == a) h left)

-- two bytes put one after the other
pub put_two : (s : SymbolicState) (a : ℕ) (first second : Tree) (t u : SymbolicState) → t ≡ with_bytes s (with_tree s.bytes a first) → u ≡ with_bytes t (with_tree t.bytes (next_address a) second) → u ≡ with_bytes s (put_trees s.bytes a (first ∷ second ∷ []))
unfolding put_trees
put_two s a first second t u e f = f ∙ (λ i. with_bytes (e i) (with_tree (e i).bytes (next_address a) second))

-- four bytes, the first two at once
pub put_four : (s : SymbolicState) (a : ℕ) (first second third fourth : Tree) (t u v : SymbolicState) → t ≡ with_bytes s (put_trees s.bytes a (first ∷ second ∷ [])) → u ≡ with_bytes t (with_tree t.bytes (next_address (next_address a)) third) → v ≡ with_bytes u (with_tree u.bytes (next_address (next_address (next_address a))) fourth) → v ≡ with_bytes s (put_trees s.bytes a (first ∷ second ∷ third ∷ fourth ∷ []))
unfolding put_trees
put_four s a first second third fourth t u v e f g =
    g
    ∙ (λ i. with_bytes (f i) (with_tree (f i).bytes (next_address (next_address (next_address a))) fourth))
    ∙ (λ i. with_bytes (e i) (with_tree (with_tree (e i).bytes (next_address (next_address a)) third) (next_address (next_address (next_address a))) fourth))

-- one more byte of the input is put
pub next_input : (bytes after : ℕ → Tree) (all : ℕ → Tree) (at place n m : ℕ) → put_trees bytes at (input_terms place n) ≡ all → n ≡ suc m → after ≡ with_tree bytes at (Input place) → put_trees after (next_address at) (input_terms (suc place) m) ≡ all
unfolding put_trees input_terms
next_input bytes after all at place n m e count f =
    (λ i. put_trees (f i) (next_address at) (input_terms (suc place) m)) ∙ sym (λ i. put_trees bytes at (input_terms place (count i))) ∙ e

-- no more bytes of the input
pub no_input : (bytes : ℕ → Tree) (all : ℕ → Tree) (at place n : ℕ) → put_trees bytes at (input_terms place n) ≡ all → n ≡ 0 → bytes ≡ all
unfolding put_trees input_terms
no_input bytes all at place n e none = sym (λ i. put_trees bytes at (input_terms place (none i))) ∙ e

-- the place of a state says nothing of its terms
pub placed_state : (trees : List Tree) (s : ReplayState) (place : ℕ) → IsState trees s → IsState trees (record s { place = place })
placed_state trees s place h = record { registers = h.registers; count = h.count; bytes = h.bytes; within = h.within; held = h.held }
