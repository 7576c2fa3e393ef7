-- The map that the parts stand for.
use Rattle.std.proofs.Common.{◌≡◌, ℕ, suc, ◌-◌, List, [], ◌∷◌, ◌++◌, Option, Some, length, get_or, cond, refl, sym, ap, ◌∙◌, arith, ◌==◌, ◌&&◌, nat_le, nat_lt, map}
use Rattle.std.specs.List.{flat_map}
use Rattle.std.proofs.lemmas.Grind.{common_steps}
use Rattle.std.specs.Ordering.{nat_cmp, eq_by_cmp}
use Rattle.std.specs.Cmp.{nat_cmp_total}
use Rattle.std.specs.FinMap.{get, find, from_entries, get-from_entries}
use Rattle.elf32.specs.declared.segments.Segment.{Segment}
use Rattle.memory_map.specs.Part.{Part}
use Rattle.memory_map.specs.Cells.{Map, Cell, cells_from, segment_cells, stack_cells, start_map}
use Rattle.memory_map.specs.Layout.{first_cell, entries_of, map_of, part_of, IsPartAt}
use Rattle.memory_map.proofs.Places.{first_cell_cons}

pub key_eq : (q k : ℕ) → eq_by_cmp nat_cmp q k ≡ (q == k)
key_eq q k = grind (arith, common_steps)

-- the byte of a run of cells at an address
abbrev run : ℕ → ℕ → List ℕ → ℕ → Option Cell → Option Cell
run base rights bs q rest = cond (nat_le base q && nat_lt (q - base) (length bs)) (Some (record { byte = get_or bs (q - base) 0; rights = rights })) rest

run_cons : (b : ℕ) (bs : List ℕ) (base rights q : ℕ) (rest : Option Cell) → cond (q == base) (Some (record { byte = b; rights = rights })) (run (suc base) rights bs q rest) ≡ run base rights (b ∷ bs) q rest
run_cons b bs base rights q rest = grind (arith, common_steps)

find_cells : (bs : List ℕ) (base rights q : ℕ) (es : List (ℕ × Cell)) → find nat_cmp q (cells_from base rights bs ++ es) ≡ run base rights bs q (find nat_cmp q es)
unfolding cells_from
find_cells [] base rights q es = grind arith
find_cells (b ∷ bs) base rights q es =
    ap (λ t. cond t (Some (record { byte = b; rights = rights })) (find nat_cmp q (cells_from (suc base) rights bs ++ es))) (key_eq q base)
    ∙ ap (cond (q == base) (Some (record { byte = b; rights = rights }))) (find_cells bs (suc base) rights q es)
    ∙ run_cons b bs base rights q (find nat_cmp q es)

find_entries : (ps : List Part) (q : ℕ) → find nat_cmp q (entries_of ps) ≡ first_cell ps q
unfolding entries_of
find_entries [] q = refl
find_entries (p ∷ ps) q =
    find_cells p.bytes p.base p.rights q (entries_of ps)
    ∙ ap (run p.base p.rights p.bytes q) (find_entries ps q)
    ∙ sym (first_cell_cons p ps q)

pub get_map : (ps : List Part) (q : ℕ) → get (map_of ps) q ≡ first_cell ps q
unfolding map_of
get_map ps q = get-from_entries nat_cmp_total (entries_of ps) q ∙ find_entries ps q

entries_of_parts : (ss : List Segment) → entries_of (map part_of ss) ≡ flat_map segment_cells ss
unfolding entries_of
entries_of_parts [] = refl
entries_of_parts (s ∷ ss) = ap (λ es. segment_cells s ++ es) (entries_of_parts ss)

pub start_is : (stack : Part) (ss : List Segment) → cells_from stack.base stack.rights stack.bytes ≡ stack_cells → map_of (stack ∷ map part_of ss) ≡ start_map ss
unfolding map_of start_map entries_of
start_is stack ss e = (λ i. from_entries (e i ++ entries_of_parts ss i))

pub part_in_map : (ps : List Part) (m : Map) (a : ℕ) (p : Part) → map_of ps ≡ m → IsPartAt (first_cell ps) a p → IsPartAt (get m) a p
part_in_map ps m a p e at = record {
  here = at.here;
  found = λ q h. ap (λ n. get n q) (sym e) ∙ get_map ps q ∙ at.found q h;
  within = at.within;
}
