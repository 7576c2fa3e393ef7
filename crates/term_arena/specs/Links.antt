-- Where a link leads.
use Rattle.std.specs.Prelude.{◌≡◌, ℕ, ◌*◌, ◌/◌, ◌%◌, ◌<◌, List, slice_get, slice_index_or, Option, Some, None, false, IsTrue}
use Rattle.std.specs.Mem.{type_size}
use Rattle.std.specs.Borrow.{RattleType}
use Rattle.core.specs.Mem.Slots.{slots_items, slots_filled, slots_len, slots_ptr}
use denote.RawPtr.{Ptr, block_ptr, null_ptr, ◌+ₚ◌}
use Rattle.term_arena.specs.declared.chunks.TheConstants.{PLACES}
use Rattle.term_arena.specs.declared.chunks.link.Chunk.{Chunk}
use Rattle.term_arena.specs.declared.chunks.link.Link.{Link}

abbrev pub link_at : Ptr → Link → Option Link
link_at (block_ptr b o) k = Some k
link_at null_ptr k = None

-- the link, where its pointer isn't null
abbrev pub target : Link → Option Link
target k = link_at k.place k

-- the place of an index holds a value
abbrev pub IsFilled : {X : Type 0} → Chunk X → ℕ → Type 0
IsFilled c i = (i < slots_len c.slots) × IsTrue (slice_index_or (slots_filled c.slots) i false)

-- the link leads to the place of its number, which holds a value
abbrev pub Leads : (R : RattleType) → List (Chunk R.Denot) → Link → Type 0
Leads R chunks k =
    (c : Chunk R.Denot) × (slice_get chunks (k.number / PLACES) ≡ Some c) × (k.place ≡ slots_ptr c.slots +ₚ (k.number % PLACES) * type_size R) × IsFilled c (k.number % PLACES)

-- the value at the number of the link
abbrev pub IsReached : {X : Type 0} → List (Chunk X) → Link → X → Type 0
IsReached {X} chunks k x =
    (c : Chunk X) → slice_get chunks (k.number / PLACES) ≡ Some c → slice_get (slots_items c.slots) (k.number % PLACES) ≡ Some x
