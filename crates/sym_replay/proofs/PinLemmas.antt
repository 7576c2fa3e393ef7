-- Conditions that are added in turns.
use Rattle.std.proofs.Common.{◌≡◌, ℕ, ◌<◌, arith, bit_and, List, [], ◌∷◌, ◌++◌, Bool, true, if◌then◌else◌, refl, sym, ap, ◌∙◌, slice_index_or}
use Rattle.term_model.specs.Tree.{Tree, Const}
use Rattle.term_arena.specs.Trees.{Extends}
use Rattle.replay_law.specs.Forms.{with_condition, with_conditions, byte_term, byte_is, same_byte, pin, target, equal, succeeds}
use Rattle.rv_event.specs.declared.event.Event.{Event}
use Rattle.rv_event.specs.declared.event.EventKind.{EventKind}
use Rattle.rv_event.specs.declared.event.EventKind.TheVariants as kinds
use Rattle.rv_decode.specs.Table.{decoded}
use Rattle.rv_word.specs.Word.{byte_of}
use Rattle.rv_word.specs.declared.AluOp.TheVariants.{And}
use Rattle.term_model.specs.declared.Op.TheVariants.{Alu, Eq}
use Rattle.term_model.specs.Same.{same_tree}
use Rattle.normal_form.specs.Norm.{norm}
use Rattle.replay_law.specs.Terms.{SymbolicState}
use Rattle.replay_law.specs.Follow.{fetched_byte, fetch_conditions, instr_conditions, conditions_by}
use Rattle.path_condition.proofs.ListLemmas.{with_conditions-none}
use Rattle.sym_replay.specs.declared.state.ReplayState.{ReplayState}
use Rattle.sym_replay.specs.declared.value.Value.{Value}
use Rattle.sym_replay.specs.declared.value.Value.TheVariants.{Known}
use Rattle.sym_replay.specs.Values.{value_tree, IsSameNumber}
use Rattle.memory_map.specs.Cells.{next_address}
use Rattle.sym_replay.specs.States.{byte_tree, terms_of, register_tree, IsKnownByte, IsKnownWord, IsState}
use Rattle.sym_replay.specs.Pins.{IsTarget, IsKnownTarget}
use Rattle.sym_replay.proofs.ValueLemmas.{grown_values, folded, same_number, byte_known}

-- two lists of conditions, one after the other
pub with_conditions-append : (ts a b : List Tree) → with_conditions ts (a ++ b) ≡ with_conditions (with_conditions ts a) b
unfolding with_conditions
with_conditions-append ts [] b = refl
with_conditions-append ts (t ∷ a) b = with_conditions-append (with_condition ts t) a b

-- one condition after the other
pub four_more : (t0 t1 t2 t3 t4 : List Tree) (a b c d : Tree) → t1 ≡ with_conditions t0 (a ∷ []) → t2 ≡ with_conditions t1 (b ∷ []) → t3 ≡ with_conditions t2 (c ∷ []) → t4 ≡ with_conditions t3 (d ∷ []) → t4 ≡ with_conditions t0 (a ∷ b ∷ c ∷ d ∷ [])
unfolding with_conditions
four_more t0 t1 t2 t3 t4 a b c d e f g h = h ∙ ap (λ t. with_condition t d) (g ∙ ap (λ t. with_condition t c) (f ∙ ap (λ t. with_condition t b) e))

-- one list of conditions after the other
pub four_lists : (t0 t1 t2 t3 t4 : List Tree) (p q u v : List Tree) → t1 ≡ with_conditions t0 p → t2 ≡ with_conditions t1 q → t3 ≡ with_conditions t2 u → t4 ≡ with_conditions t3 v → t4 ≡ with_conditions t0 (p ++ (q ++ (u ++ v)))
four_lists t0 t1 t2 t3 t4 p q u v e f g h =
    h
    ∙ ap (λ t. with_conditions t v) g
    ∙ sym (with_conditions-append t2 u v)
    ∙ ap (λ t. with_conditions t (u ++ v)) f
    ∙ sym (with_conditions-append t1 q (u ++ v))
    ∙ ap (λ t. with_conditions t (q ++ (u ++ v))) e
    ∙ sym (with_conditions-append t0 p (q ++ (u ++ v)))

-- the tree of a register in an arena that has grown
pub grown_register : (old new : List Tree) (s : ReplayState) (r : ℕ) → Extends old new → IsState old s → register_tree new s r ≡ register_tree old s r
grown_register old new s r g h = (λ i. slice_index_or (grown_values old new g s.registers h.registers i) r (Const 0))

-- no conditions, by a test that is true
pub none_more : (ts more : List Tree) (b : Bool) → b ≡ true → ts ≡ with_conditions ts (if b then [] else more)
none_more ts more b e = sym (with_conditions-none ts) ∙ ap (λ (c : Bool). with_conditions ts (if c then [] else more)) (sym e)

-- the conditions of an event whose word was fetched
pub fetched_conditions : (s : SymbolicState) (e : Event) (shown : ℕ) (k : EventKind) → (k ≡ kinds.NoFetch → ⊥) → conditions_by norm s e shown k ≡ fetch_conditions norm s e.pc e.word ++ instr_conditions norm s e shown (decoded e.word)
fetched_conditions s e shown kinds.NoFetch far = absurd (far refl)
fetched_conditions s e shown kinds.Plain far = refl
fetched_conditions s e shown kinds.Load far = refl
fetched_conditions s e shown kinds.Store far = refl
fetched_conditions s e shown kinds.Call far = refl

-- ---- numbers

-- the constant 1 adds nothing
one_more : (ts : List Tree) → ts ≡ with_conditions ts (Const 1 ∷ [])
unfolding with_conditions same_tree
one_more ts = refl

-- a value that is known to be 1 adds nothing
pub holding : (ts trees : List Tree) (v : Value) → v ≡ Known 1 → ts ≡ with_conditions ts (succeeds (value_tree trees v))
holding ts trees v e = one_more ts ∙ sym (λ i. with_conditions ts (value_tree trees (e i) ∷ []))

-- and four of them
four_ones : (ts : List Tree) (a b c d : Tree) → a ≡ Const 1 → b ≡ Const 1 → c ≡ Const 1 → d ≡ Const 1 → ts ≡ with_conditions ts (a ∷ b ∷ c ∷ d ∷ [])
unfolding with_conditions same_tree
four_ones ts a b c d e f g h = (λ i. with_conditions ts (sym e i ∷ sym f i ∷ sym g i ∷ sym h i ∷ []))

byte_one : (w v k : ℕ) → k < 4 → byte_of k w ≡ byte_of k v → byte_is norm (Const w) v k ≡ Const 1
byte_one w v k lt e =
    ap (λ t. norm Eq t (Const (byte_of k v))) (byte_known w k lt ∙ ap Const e) ∙ same_number (byte_of k v)

-- nor does its pin to the number that it is known to be
pub pinned : (ts trees : List Tree) (v : Value) (w : ℕ) → v ≡ Known w → ts ≡ with_conditions ts (pin norm (value_tree trees v) w)
pinned ts trees v w e =
    four_ones ts (byte_is norm (Const w) w 0) (byte_is norm (Const w) w 1) (byte_is norm (Const w) w 2) (byte_is norm (Const w) w 3)
    (byte_one w w 0 (omega arith) refl) (byte_one w w 1 (omega arith) refl) (byte_one w w 2 (omega arith) refl) (byte_one w w 3 (omega arith) refl)
    ∙ sym (λ i. with_conditions ts (pin norm (value_tree trees (e i)) w))

low_one : (w v : ℕ) → bit_and (byte_of 0 w) 0xfe ≡ byte_of 0 v → norm Eq (norm (Alu And) (byte_term norm 0 (Const w)) (Const 0xfe)) (Const (byte_of 0 v)) ≡ Const 1
low_one w v e =
    ap (λ t. norm Eq (norm (Alu And) t (Const 0xfe)) (Const (byte_of 0 v))) (byte_known w 0 (omega arith))
    ∙ ap (λ t. norm Eq t (Const (byte_of 0 v))) (folded (Alu And) (byte_of 0 w) 0xfe ∙ ap Const e)
    ∙ same_number (byte_of 0 v)

number_reached : (ts : List Tree) (w v : ℕ) → IsTarget w v → ts ≡ with_conditions ts (target norm (Const w) v)
number_reached ts w v is =
    four_ones ts (norm Eq (norm (Alu And) (byte_term norm 0 (Const w)) (Const 0xfe)) (Const (byte_of 0 v))) (byte_is norm (Const w) v 1) (byte_is norm (Const w) v 2) (byte_is norm (Const w) v 3)
    (low_one w v is.lowest) (byte_one w v 1 (omega arith) is.second) (byte_one w v 2 (omega arith) is.third) (byte_one w v 3 (omega arith) is.highest)

-- nor does a target that it is known to be
pub reached : (ts trees : List Tree) (v : Value) (to : ℕ) → IsKnownTarget v to → ts ≡ with_conditions ts (target norm (value_tree trees v) to)
reached ts trees v to is = number_reached ts is.0 to is.2 ∙ sym (λ i. with_conditions ts (target norm (value_tree trees (is.1 i)) to))

byte_same : (w k : ℕ) → k < 4 → same_byte norm (Const w) (Const w) k ≡ Const 1
byte_same w k lt = (λ i. norm Eq (byte_known w k lt i) (byte_known w k lt i)) ∙ same_number (byte_of k w)

-- nor do two values that are one number
pub equal_numbers : (ts trees : List Tree) (a b : Value) → IsSameNumber a b → ts ≡ with_conditions ts (equal norm (value_tree trees a) (value_tree trees b))
equal_numbers ts trees a b same =
    four_ones ts (same_byte norm (Const same.0) (Const same.0) 0) (same_byte norm (Const same.0) (Const same.0) 1) (same_byte norm (Const same.0) (Const same.0) 2) (same_byte norm (Const same.0) (Const same.0) 3)
    (byte_same same.0 0 (omega arith)) (byte_same same.0 1 (omega arith)) (byte_same same.0 2 (omega arith)) (byte_same same.0 3 (omega arith))
    ∙ sym (λ i. with_conditions ts (equal norm (value_tree trees (same.1 i)) (value_tree trees (same.2 i))))

fetched_one : (trees : List Tree) (s : ReplayState) (a b : ℕ) → IsKnownByte s a b → norm Eq ((terms_of trees s).bytes a) (Const b) ≡ Const 1
fetched_one trees s a b known =
    ap (λ t. norm Eq t (Const b)) (sym (ap (byte_tree trees s.memory.map a) known.none) ∙ ap Const known.is) ∙ same_number b

-- nor does the fetch of a word whose bytes are known
pub fetched_word : (ts trees : List Tree) (s : ReplayState) (a word : ℕ) → IsKnownWord s a word → ts ≡ with_conditions ts (fetch_conditions norm (terms_of trees s) a word)
fetched_word ts trees s a word known =
    let terms = terms_of trees s in
    let second = next_address a in
    let third = next_address second in
    let fourth = next_address third in
    four_ones ts (fetched_byte norm terms a word 0) (fetched_byte norm terms second word 1) (fetched_byte norm terms third word 2) (fetched_byte norm terms fourth word 3)
    (fetched_one trees s a (byte_of 0 word) known.lowest) (fetched_one trees s second (byte_of 1 word) known.second) (fetched_one trees s third (byte_of 2 word) known.third) (fetched_one trees s fourth (byte_of 3 word) known.highest)
