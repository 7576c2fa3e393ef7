-- Bytes placed one after another.
use Rattle.std.proofs.Common.{◌≡◌, ℕ, zero, suc, ◌+◌, ◌%◌, ◌^◌, ◌<◌, ◌≤◌, List, [], ◌∷◌, Option, Some, None, Bool, true, false, cond, length, drop, get_or, refl, sym, ap, ◌∙◌, arith, rules, ◌==◌}
use Rattle.std.proofs.lemmas.Grind.{common_steps}
use Rattle.std.proofs.lemmas.List.{drop_more}
use Rattle.std.specs.Cmp.{nat_cmp_total}
use Rattle.std.specs.FinMap.{get, get-insert, same_map, nat_cmp-IsAntisymmetric}
use Rattle.memory_map.specs.Part.{Part}
use Rattle.memory_map.specs.Cells.{Map, Cell, can, write, with_byte, placed, first_without, next_address}
use Rattle.memory_map.specs.Layout.{map_of, first_cell, cell_with, cell_after, CanFrom, Overwrites}
use Rattle.memory_map.proofs.Maps.{key_eq, get_map}

is : (a b : ℕ) → (a == b) ≡ true → a ≡ b
is a b h = search rules

by_key : (m : Map) (a q r : ℕ) (c d : Cell) → d.rights ≡ c.rights → get m a ≡ Some c → (t : Bool) → (q == a) ≡ t → can r (cond t (Some d) (get m q)) ≡ can r (get m q)
by_key m a q r c d same e true h = ap (λ n. can r (Some (record { byte = d.byte; rights = n }))) same ∙ sym (ap (λ k. can r (get m k)) (is q a h) ∙ ap (can r) e)
by_key m a q r c d same e false h = refl

-- a write keeps each right
kept : (m : Map) (a b q r : ℕ) (o : Option Cell) → get m a ≡ o → can r (get (with_byte m a b o) q) ≡ can r (get m q)
kept m a b q r None e = refl
kept m a b q r (Some c) e =
    let d : Cell = record { byte = b; rights = c.rights } in
    ap (can r) (get-insert nat_cmp_total m a d q ∙ ap (λ t. cond t (Some d) (get m q)) (key_eq q a))
    ∙ by_key m a q r c d refl e (q == a) refl

pub all_kept : (n at b a r : ℕ) (m : Map) → first_without r (with_byte m at b (get m at)) a n ≡ first_without r m a n
unfolding first_without
all_kept zero at b a r m = refl
all_kept (suc n) at b a r m = (λ i. cond (kept m at b a r (get m at) refl i) (all_kept n at b ((a + 1) % 2 ^ 32) r m i) (Some a))

settled : (t : Bool) (o : Option ℕ) (a : ℕ) → cond t o (Some a) ≡ None → t ≡ true
settled true o a h = refl
settled false o a h = cc

settled_rest : (t : Bool) (o : Option ℕ) (a : ℕ) → cond t o (Some a) ≡ None → o ≡ None
settled_rest true o a h = h
settled_rest false o a h = cc

less_one : (j n : ℕ) → suc n ≡ suc j → j ≡ n
less_one j n e = omega arith

pub room_first : (n a r : ℕ) (m : Map) → 0 < n → first_without r m a n ≡ None → can r (get m a) ≡ true
unfolding first_without
room_first zero a r m l h = absurd (omega arith)
room_first (suc n) a r m l h = settled (can r (get m a)) _ a h

pub room_rest : (n j a r : ℕ) (m : Map) → n ≡ suc j → first_without r m a n ≡ None → first_without r m ((a + 1) % 2 ^ 32) j ≡ None
unfolding first_without
room_rest zero j a r m e h = absurd (omega arith)
room_rest (suc n) j a r m e h = ap (first_without r m ((a + 1) % 2 ^ 32)) (less_one j n e) ∙ settled_rest (can r (get m a)) _ a h

pub placed_more : (m : Map) (a i : ℕ) (bs : List ℕ) → i < length bs → placed m a (drop i bs) ≡ placed (with_byte m a (get_or bs i 0) (get m a)) ((a + 1) % 2 ^ 32) (drop (i + 1) bs)
unfolding placed
placed_more m a i bs l = ap (placed m a) (drop_more bs i 0 l)

pub placed_none : (m : Map) (a : ℕ) (bs : List ℕ) → bs ≡ [] → placed m a bs ≡ m
unfolding placed
placed_none m a bs e = ap (placed m a) e

none_same : (m : Map) (a b q : ℕ) (t : Bool) → (q == a) ≡ t → get m a ≡ None → get m q ≡ cond t (cell_with b (get m q)) (get m q)
none_same m a b q true h e = (let f : get m q ≡ None = ap (get m) (is q a h) ∙ e in f ∙ sym (ap (cell_with b) f))
none_same m a b q false h e = refl

some_same : (m : Map) (a b q : ℕ) (c : Cell) (t : Bool) → (q == a) ≡ t → get m a ≡ Some c → cond t (Some (record { byte = b; rights = c.rights })) (get m q) ≡ cond t (cell_with b (get m q)) (get m q)
some_same m a b q c true h e = (let f : get m q ≡ Some c = ap (get m) (is q a h) ∙ e in sym (ap (cell_with b) f))
some_same m a b q c false h e = refl

-- what a look-up finds after a write of one byte
pub get-with_byte : (m : Map) (a b q : ℕ) (o : Option Cell) → get m a ≡ o → get (with_byte m a b o) q ≡ cond (q == a) (cell_with b (get m q)) (get m q)
get-with_byte m a b q None e = none_same m a b q (q == a) refl e
get-with_byte m a b q (Some c) e =
    let d : Cell = record { byte = b; rights = c.rights } in
    get-insert nat_cmp_total m a d q ∙ ap (λ t. cond t (Some d) (get m q)) (key_eq q a) ∙ some_same m a b q c (q == a) refl e

none_after : (a q : ℕ) (o : Option Cell) → o ≡ cell_after a [] q o
none_after a q o = grind (arith, common_steps)

one_more : (a x b q : ℕ) (bs : List ℕ) (o : Option Cell) → (0 < length bs → x ≡ a + 1) → cell_after x bs q (cond (q == a) (cell_with b o) o) ≡ cell_after a (b ∷ bs) q o
one_more a x b q bs o next = grind (arith, common_steps)

-- what a look-up finds after bytes are placed
pub get-placed : (bs : List ℕ) (m : Map) (a q : ℕ) → a + length bs ≤ 2 ^ 32 → get (placed m a bs) q ≡ cell_after a bs q (get m q)
unfolding placed
get-placed [] m a q h = none_after a q (get m q)
get-placed (b ∷ bs) m a q h =
    get-placed bs (with_byte m a b (get m a)) (next_address a) q (omega arith)
    ∙ ap (cell_after (next_address a) bs q) (get-with_byte m a b q (get m a) refl)
    ∙ one_more a (next_address a) b q bs (get m q) (λ l. omega arith)

-- parts after a write stand for the map with the bytes placed
pub placed_is : (old new : List Part) (m : Map) (a : ℕ) (bs : List ℕ) → map_of old ≡ m → Overwrites (first_cell old) (first_cell new) a bs → map_of new ≡ placed m a bs
placed_is old new m a bs e w =
    same_map nat_cmp_total nat_cmp-IsAntisymmetric _ _ (λ q.
    get_map new q ∙ w.cells q
    ∙ ap (cell_after a bs q) (sym (get_map old q) ∙ ap (λ n. get n q) e)
    ∙ sym (get-placed bs m a q w.within))

-- the addresses of a write may be written
pub written_can : (old new : List Part) (m : Map) (a : ℕ) (bs : List ℕ) → map_of old ≡ m → Overwrites (first_cell old) (first_cell new) a bs → CanFrom write m a (length bs)
written_can old new m a bs e w = λ i l. ap (λ n. can write (get n (a + i))) (sym e) ∙ ap (can write) (get_map old (a + i)) ∙ w.allowed i l
