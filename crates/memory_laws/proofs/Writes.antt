-- Placed bytes, address by address.
use Rattle.std.proofs.Common.{◌≡◌, ◌≢◌, ℕ, zero, suc, ◌+◌, ◌%◌, ◌^◌, ◌<◌, ◌≤◌, ◌==◌, List, [], ◌∷◌, length, get_or, Bool, true, false, cond, Option, Some, None, IsSome, refl, sym, ap, ◌∙◌, subst, arith, rules}
use Rattle.std.specs.FinMap.{get}
use Rattle.memory_map.specs.Cells.{Map, Cell, with_byte, placed, byte_at, byte_of_cell, next_address}
use Rattle.memory_map.specs.Layout.{cell_with}
use Rattle.memory_map.proofs.Placed.{get-with_byte}
use Rattle.memory_laws.specs.Ranges.{IsOutside}
use Rattle.memory_laws.specs.Writes.{rights_of_cell}
use Rattle.memory_laws.proofs.Ranges.{first_address, later_address, next_fits}

same_rights : (t : Bool) (b : ℕ) (o : Option Cell) → rights_of_cell (cond t (cell_with b o) o) ≡ rights_of_cell o
same_rights true b None = refl
same_rights true b (Some c) = refl
same_rights false b o = refl

pub rights_kept : (bs : List ℕ) (m : Map) (a q : ℕ) → rights_of_cell (get (placed m a bs) q) ≡ rights_of_cell (get m q)
unfolding placed
rights_kept [] m a q = refl
rights_kept (b ∷ bs) m a q =
    rights_kept bs (with_byte m a b (get m a)) (next_address a) q
    ∙ ap rights_of_cell (get-with_byte m a b q (get m a) refl)
    ∙ same_rights (q == a) b (get m q)

differs : (q a : ℕ) → q ≢ a → (q == a) ≡ false
differs q a h = search rules

equals : (q a : ℕ) → q ≡ a → (q == a) ≡ true
equals q a h = search rules

outside_first : (a n q : ℕ) → a < 2 ^ 32 → IsOutside a (suc n) q → q ≢ a
outside_first a n q f h = λ e. h 0 (omega arith) (e ∙ first_address a f)

outside_rest : (a n q : ℕ) → IsOutside a (suc n) q → IsOutside (next_address a) n q
outside_rest a n q h = λ i l e. h (suc i) (omega arith) (e ∙ later_address a i)

pub others_kept : (bs : List ℕ) (m : Map) (a q : ℕ) → a < 2 ^ 32 → IsOutside a (length bs) q → get (placed m a bs) q ≡ get m q
unfolding placed
others_kept [] m a q f h = refl
others_kept (b ∷ bs) m a q f h =
    others_kept bs (with_byte m a b (get m a)) (next_address a) q (next_fits a) (outside_rest a (length bs) q h)
    ∙ get-with_byte m a b q (get m a) refl
    ∙ ap (λ t. cond t (cell_with b (get m q)) (get m q)) (differs q a (outside_first a (length bs) q f h))

-- an address is none of those after it, where these are fewer than all
no_return : (a n : ℕ) → a < 2 ^ 32 → suc n ≤ 2 ^ 32 → IsOutside (next_address a) n a
no_return a n f l = λ i h e. omega arith

byte_there : (b : ℕ) (o : Option Cell) → IsSome o → byte_of_cell (cell_with b o) ≡ b
byte_there b None h = cc
byte_there b (Some c) h = refl

still_there : (t : Bool) (b : ℕ) (o : Option Cell) → IsSome o → IsSome (cond t (cell_with b o) o)
still_there true b None h = cc
still_there true b (Some c) h = refl
still_there false b o h = h

there_after : (m : Map) (a b q : ℕ) → IsSome (get m q) → IsSome (get (with_byte m a b (get m a)) q)
there_after m a b q h = subst (λ (o : Option Cell). IsSome o) (sym (get-with_byte m a b q (get m a) refl)) (still_there (q == a) b (get m q) h)

pub bytes_read : (bs : List ℕ) (m : Map) (a i : ℕ) → a < 2 ^ 32 → length bs ≤ 2 ^ 32 → i < length bs → IsSome (get m ((a + i) % 2 ^ 32)) → byte_at (placed m a bs) ((a + i) % 2 ^ 32) ≡ get_or bs i 0
unfolding placed
bytes_read [] m a i f l h there = absurd (omega arith)
bytes_read (b ∷ bs) m a zero f l h there =
    let same : (a + 0) % 2 ^ 32 ≡ a = sym (first_address a f) in
    let there_at : IsSome (get m a) = subst (λ q. IsSome (get m q)) same there in
    let m2 = with_byte m a b (get m a) in
    ap (byte_at (placed m2 (next_address a) bs)) same
    ∙ ap byte_of_cell (others_kept bs m2 (next_address a) a (next_fits a) (no_return a (length bs) f l)
    ∙ get-with_byte m a b a (get m a) refl
    ∙ ap (λ t. cond t (cell_with b (get m a)) (get m a)) (equals a a refl))
    ∙ byte_there b (get m a) there_at
bytes_read (b ∷ bs) m a (suc i) f l h there =
    let m2 = with_byte m a b (get m a) in
    let same : (next_address a + i) % 2 ^ 32 ≡ (a + suc i) % 2 ^ 32 = later_address a i in
    ap (byte_at (placed m2 (next_address a) bs)) (sym same)
    ∙ bytes_read bs m2 (next_address a) i (next_fits a) (omega arith) (omega arith)
    (subst (λ q. IsSome (get m2 q)) (sym same) (there_after m a b ((a + suc i) % 2 ^ 32) there))
