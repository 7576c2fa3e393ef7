-- What loads, stores and calls move, as terms.
use Rattle.std.proofs.Common.{◌≡◌, ℕ, zero, suc, ◌+◌, ◌*◌, ◌/◌, ◌%◌, ◌^◌, ◌<◌, List, [], ◌∷◌, map, None, refl, sym, ap, ◌∙◌, arith, subst, slice_index}
use Rattle.std.specs.Int.{cast_unsigned, w32}
use Rattle.rv_word.specs.Word.{alu}
use Rattle.rv_word.specs.declared.AluOp.TheVariants.{Sll, Sra}
use Rattle.rv_decode.specs.Fields.{sign_extended}
use Rattle.rv_decode.specs.declared.instr.Width.{Width}
use Rattle.rv_decode.specs.declared.instr.Width.TheVariants as widths
use Rattle.term_model.specs.declared.Op.TheVariants.{Alu, Pair, Half}
use Rattle.term_model.specs.Tree.{Tree, Const}
use Rattle.term_model.specs.Value.{val}
use Rattle.term_model.specs.Words.{AreBytes}
use Rattle.memory_map.specs.Cells.{Map, read, first_without, byte_at, half_at, word_at, next_address}
use Rattle.rv_machine.specs.State.{State}
use Rattle.rv_machine.specs.Effects.{size_of, loaded, stored, input_bytes}
use Rattle.replay_law.specs.Making.{Making, IsMaker}
use Rattle.replay_law.specs.Forms.{byte_term}
use Rattle.replay_law.specs.Terms.{SymbolicState, input_terms, extended_term, half_term, loaded_term, stored_terms}
use Rattle.replay_law.proofs.Held.{byte_value, byte_made, byte_below}
use Rattle.replay_law.proofs.Agreeing.{byte_is_value, can_here, can_next, Each}
use Rattle.replay_law.proofs.Extended.{extended_byte, extended_half}
use Rattle.replay_law.proofs.Agreement.{Agrees}

-- a byte of a made term
abbrev pub IsByte : (Tree → Type 0) → Tree → Type 0
IsByte IsMade t = IsMade t × ((y : List ℕ) → AreBytes y → val t y < 256)

-- a half word by its two bytes
half_of : (a b : ℕ) → a < 256 → b < 256 → a % 256 + 256 * (b % 256) ≡ a + 256 * b
half_of a b h k = omega arith

-- a word by its four bytes
word_of : (a b c d : ℕ) → a < 256 → b < 256 → c < 256 → d < 256 → (a + 256 * b) % 65536 + 65536 * ((c + 256 * d) % 65536) ≡ a + 256 * b + 65536 * c + 16777216 * d
word_of a b c d h k p q = omega arith

-- two bytes as a number
half_value : {made : Making} {IsMade : Tree → Type 0} → IsMaker made IsMade → (y : List ℕ) → AreBytes y → (bytes : ℕ → Tree) (a : ℕ) → IsByte IsMade (bytes a) → IsByte IsMade (bytes (next_address a)) → val (half_term made bytes a) y ≡ val (bytes a) y + 256 * val (bytes (next_address a)) y
half_value m y bs bytes a p q = m.keeps Pair (bytes a) (bytes (next_address a)) y p.0 q.0 tt bs ∙ half_of _ _ (p.1 y bs) (q.1 y bs)

-- a half word of made bytes is made
half_made : {made : Making} {IsMade : Tree → Type 0} → IsMaker made IsMade → (bytes : ℕ → Tree) (a : ℕ) → IsByte IsMade (bytes a) → IsByte IsMade (bytes (next_address a)) → IsMade (half_term made bytes a)
half_made m bytes a p q = m.gives Pair (bytes a) (bytes (next_address a)) p.0 q.0 tt

-- an extended term has the extended value
extended_value : {made : Making} {IsMade : Tree → Type 0} → IsMaker made IsMade → (y : List ℕ) → AreBytes y → (n : ℕ) → n < 2 ^ 32 → (t : Tree) → IsMade t → val (extended_term made n t) y ≡ alu Sra (alu Sll (val t y) n) n
extended_value {made} m y bs n lt t it =
    m.keeps (Alu Sra) (made (Alu Sll) t (Const n)) (Const n) y (m.gives (Alu Sll) t (Const n) it (m.constant n lt) tt) (m.constant n lt) tt bs
    ∙ ap (λ v. alu Sra v n) (m.keeps (Alu Sll) t (Const n) y it (m.constant n lt) tt bs)

-- an extended term is made
extended_made : {made : Making} {IsMade : Tree → Type 0} → IsMaker made IsMade → (n : ℕ) → n < 2 ^ 32 → (t : Tree) → IsMade t → IsMade (extended_term made n t)
extended_made {made} m n lt t it = m.gives (Alu Sra) (made (Alu Sll) t (Const n)) (Const n) (m.gives (Alu Sll) t (Const n) it (m.constant n lt) tt) (m.constant n lt) tt

-- what a load gives is made
pub loaded_made : {made : Making} {IsMade : Tree → Type 0} → IsMaker made IsMade → (bytes : ℕ → Tree) → ((a : ℕ) → IsByte IsMade (bytes a)) → (width : Width) (a : ℕ) → IsMade (loaded_term made bytes width a)
loaded_made m bytes h widths.B a = extended_made m 24 (omega arith) (bytes a) (h a).0
loaded_made m bytes h widths.Bu a = (h a).0
loaded_made m bytes h widths.H a = extended_made m 16 (omega arith) _ (half_made m bytes a (h a) (h _))
loaded_made m bytes h widths.Hu a = half_made m bytes a (h a) (h _)
loaded_made m bytes h widths.W a = m.gives Half _ _ (half_made m bytes a (h a) (h _)) (half_made m bytes _ (h _) (h _)) tt

-- a memory whose bytes are the values of terms, at the addresses from one up
half_is : (y : List ℕ) (bytes : ℕ → Tree) (k : Map) (a : ℕ) → byte_at k a ≡ val (bytes a) y → byte_at k (next_address a) ≡ val (bytes (next_address a)) y → half_at k a ≡ val (bytes a) y + 256 * val (bytes (next_address a)) y
half_is y bytes k a e f = (λ i. e i + 256 * f i)

-- a half word is below 2 ^ 16
below_half : (a b : ℕ) → a < 256 → b < 256 → a + 256 * b < 65536
below_half a b h k = omega arith

-- the word at an address whose bytes have a right
pub word_value : {terms : SymbolicState} {y : List ℕ} {s : State} → Agrees terms y s → (right a : ℕ) → first_without right s.memory a 4 ≡ None → word_at s.memory a ≡ val (terms.bytes a) y + 256 * val (terms.bytes (next_address a)) y + 65536 * val (terms.bytes (next_address (next_address a))) y + 16777216 * val (terms.bytes (next_address (next_address (next_address a)))) y
word_value {terms} {y} {s} ag right a ok =
    let p : first_without right s.memory (next_address a) 3 ≡ None = can_next right s.memory a 3 ok in
    let q : first_without right s.memory (next_address (next_address a)) 2 ≡ None = can_next right s.memory (next_address a) 2 p in
    let r : first_without right s.memory (next_address (next_address (next_address a))) 1 ≡ None = can_next right s.memory (next_address (next_address a)) 1 q in
    (λ i. byte_is_value ag right a (can_here right s.memory a 3 ok) i
    + 256 * byte_is_value ag right (next_address a) (can_here right s.memory (next_address a) 2 p) i
    + 65536 * byte_is_value ag right (next_address (next_address a)) (can_here right s.memory (next_address (next_address a)) 1 q) i
    + 16777216 * byte_is_value ag right (next_address (next_address (next_address a))) (can_here right s.memory (next_address (next_address (next_address a))) 0 r) i)

-- what a load gives has the value that the machine loads
pub loaded_value : {made : Making} {IsMade : Tree → Type 0} → IsMaker made IsMade → {terms : SymbolicState} {y : List ℕ} {s : State} → AreBytes y → Agrees terms y s → ((a : ℕ) → IsByte IsMade (terms.bytes a)) → (width : Width) (a : ℕ) → first_without read s.memory a (size_of width) ≡ None → loaded s.memory width a ≡ val (loaded_term made terms.bytes width a) y
loaded_value m {terms} {y} {s} bs ag h widths.B a ok =
    let e = byte_is_value ag read a (can_here read s.memory a 0 ok) in
    ap (λ b. cast_unsigned w32 (sign_extended 8 b)) e
    ∙ extended_byte _ ((h a).1 y bs)
    ∙ sym (extended_value m y bs 24 (omega arith) (terms.bytes a) (h a).0)
loaded_value m {terms} {y} {s} bs ag h widths.Bu a ok = byte_is_value ag read a (can_here read s.memory a 0 ok)
loaded_value {made} m {terms} {y} {s} bs ag h widths.H a ok =
    let e = half_is y terms.bytes s.memory a (byte_is_value ag read a (can_here read s.memory a 1 ok)) (byte_is_value ag read _ (can_here read s.memory _ 0 (can_next read s.memory a 1 ok))) in
    ap (λ b. cast_unsigned w32 (sign_extended 16 b)) (e ∙ sym (half_value m y bs terms.bytes a (h a) (h _)))
    ∙ extended_half (val (half_term made terms.bytes a) y)
    (subst (λ (n : ℕ). n < 65536) (sym (half_value m y bs terms.bytes a (h a) (h _))) (below_half _ _ ((h a).1 y bs) ((h (next_address a)).1 y bs)))
    ∙ sym (extended_value m y bs 16 (omega arith) (half_term made terms.bytes a) (half_made m terms.bytes a (h a) (h _)))
loaded_value m {terms} {y} {s} bs ag h widths.Hu a ok =
    half_is y terms.bytes s.memory a (byte_is_value ag read a (can_here read s.memory a 1 ok)) (byte_is_value ag read _ (can_here read s.memory _ 0 (can_next read s.memory a 1 ok)))
    ∙ sym (half_value m y bs terms.bytes a (h a) (h _))
loaded_value {made} m {terms} {y} {s} bs ag h widths.W a ok =
    word_value ag read a ok
    ∙ sym (word_of _ _ _ _ ((h a).1 y bs) ((h (next_address a)).1 y bs) ((h (next_address (next_address a))).1 y bs) ((h (next_address (next_address (next_address a)))).1 y bs))
    ∙ sym (m.keeps Half (half_term made terms.bytes a) (half_term made terms.bytes (next_address (next_address a))) y (half_made m terms.bytes a (h a) (h _)) (half_made m terms.bytes (next_address (next_address a)) (h _) (h _)) tt bs
    ∙ (λ i. half_value m y bs terms.bytes a (h a) (h _) i % 65536 + 65536 * (half_value m y bs terms.bytes (next_address (next_address a)) (h _) (h _) i % 65536)))

-- ---- stores

-- byte 0 of a word as the machine stores it
byte_zero : {made : Making} {IsMade : Tree → Type 0} → IsMaker made IsMade → (y : List ℕ) → AreBytes y → (t : Tree) → IsMade t → val t y % 256 ≡ val (byte_term made 0 t) y
byte_zero m y bs t it = omega (arith, byte_value m y bs 0 (omega arith) t it)

-- byte 1
byte_one : {made : Making} {IsMade : Tree → Type 0} → IsMaker made IsMade → (y : List ℕ) → AreBytes y → (t : Tree) → IsMade t → val t y / 256 % 256 ≡ val (byte_term made 1 t) y
byte_one m y bs t it = omega (arith, byte_value m y bs 1 (omega arith) t it)

-- byte 2
byte_two : {made : Making} {IsMade : Tree → Type 0} → IsMaker made IsMade → (y : List ℕ) → AreBytes y → (t : Tree) → IsMade t → val t y / 65536 % 256 ≡ val (byte_term made 2 t) y
byte_two m y bs t it = omega (arith, byte_value m y bs 2 (omega arith) t it)

-- byte 3
byte_three : {made : Making} {IsMade : Tree → Type 0} → IsMaker made IsMade → (y : List ℕ) → AreBytes y → (t : Tree) → IsMade t → val t y / 16777216 % 256 ≡ val (byte_term made 3 t) y
byte_three m y bs t it = omega (arith, byte_value m y bs 3 (omega arith) t it)

-- what a store puts has the values that the machine stores
pub stored_value : {made : Making} {IsMade : Tree → Type 0} → IsMaker made IsMade → (y : List ℕ) → AreBytes y → (width : Width) (t : Tree) → IsMade t → stored width (val t y) ≡ map (λ u. val u y) (stored_terms made width t)
stored_value m y bs widths.B t it = (λ i. byte_zero m y bs t it i ∷ [])
stored_value m y bs widths.Bu t it = (λ i. byte_zero m y bs t it i ∷ [])
stored_value m y bs widths.H t it = (λ i. byte_zero m y bs t it i ∷ byte_one m y bs t it i ∷ [])
stored_value m y bs widths.Hu t it = (λ i. byte_zero m y bs t it i ∷ byte_one m y bs t it i ∷ [])
stored_value m y bs widths.W t it = (λ i. byte_zero m y bs t it i ∷ byte_one m y bs t it i ∷ byte_two m y bs t it i ∷ byte_three m y bs t it i ∷ [])

-- a byte of a term is a made byte
byte_byte : {made : Making} {IsMade : Tree → Type 0} → IsMaker made IsMade → (k : ℕ) → k < 4 → (t : Tree) → IsMade t → IsByte IsMade (byte_term made k t)
byte_byte m k lt t it = (byte_made m k lt t it, λ y bs. subst (λ (n : ℕ). n < 256) (sym (byte_value m y bs k lt t it)) (byte_below k (val t y)))

-- what a store puts are made bytes
pub stored_bytes : {made : Making} {IsMade : Tree → Type 0} → IsMaker made IsMade → (width : Width) (t : Tree) → IsMade t → Each (IsByte IsMade) (stored_terms made width t)
stored_bytes m widths.B t it = (byte_byte m 0 (omega arith) t it, tt)
stored_bytes m widths.Bu t it = (byte_byte m 0 (omega arith) t it, tt)
stored_bytes m widths.H t it = (byte_byte m 0 (omega arith) t it, (byte_byte m 1 (omega arith) t it, tt))
stored_bytes m widths.Hu t it = (byte_byte m 0 (omega arith) t it, (byte_byte m 1 (omega arith) t it, tt))
stored_bytes m widths.W t it = (byte_byte m 0 (omega arith) t it, (byte_byte m 1 (omega arith) t it, (byte_byte m 2 (omega arith) t it, (byte_byte m 3 (omega arith) t it, tt))))

-- ---- reads

-- what a read moves has the values of the input
pub input_values : (y : List ℕ) (n place : ℕ) → input_bytes y place n ≡ map (λ u. val u y) (input_terms place n)
unfolding input_bytes input_terms
input_values y zero place = refl
input_values y (suc n) place = ap (λ bs. slice_index y place ∷ bs) (input_values y n (suc place))

-- what a read moves are made bytes
pub input_are_bytes : {made : Making} {IsMade : Tree → Type 0} → IsMaker made IsMade → (n place : ℕ) → Each (IsByte IsMade) (input_terms place n)
unfolding input_terms
input_are_bytes m zero place = tt
input_are_bytes m (suc n) place = ((m.input place, λ y bs. bs place), input_are_bytes m n (suc place))
