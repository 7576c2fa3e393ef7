-- Values by number, in chunks of places.
use Rattle.std.specs.Prelude.{◌≡◌, ℕ, zero, suc, ◌+◌, ◌*◌, ◌/◌, ◌%◌, ◌^◌, ◌<◌, ◌≤◌, List, [], ◌∷◌, ◌++◌, map, length, slice_get, slice_index_or, Option, Some, None}
use Rattle.std.specs.Mem.{type_size}
use Rattle.std.specs.Borrow.{RattleType}
use Rattle.std.specs.declared.alloc.Global.{Global}
use Rattle.core.specs.Mem.Slots.{slots_items, slots_len, slots_ptr, lease_ptr, lease_len, lease_heap}
use denote.RawPtr.{Ptr, null_ptr, InBlock, count_of, ◌+ₚ◌}
use Rattle.term_arena.specs.declared.chunks.TheConstants.{PLACES}
use Rattle.term_arena.specs.declared.chunks.link.Chunk.{Chunk}
use Rattle.term_arena.specs.declared.chunks.link.Link.{Link}
use Rattle.term_arena.specs.declared.chunks.list.ChunkList.{ChunkList}
use Rattle.term_arena.specs.Links.{IsFilled}

module _ {X : Type 0} where
  -- the parts of a chunk belong together, and its block goes back to the allocator
  pub record IsChunk (alloc : Global) (c : Chunk X) : Type 0 where
    pub places : slots_len c.slots ≡ PLACES
    pub start : c.start ≡ slots_ptr c.slots
    pub within : InBlock c.start
    pub first : count_of c.start ≡ 0
    pub leased : lease_ptr c.lease ≡ slots_ptr c.slots
    pub size : lease_len c.lease ≡ slots_len c.slots
    pub heap : lease_heap c.lease ≡ alloc

  -- the values of each chunk, one for each place
  abbrev pub rows : List (Chunk X) → List (List X)
  rows chunks = map (λ (c : Chunk X). slots_items c.slots) chunks

  -- what the place of a number holds, where the chunks reach to it
  abbrev pub node_at : List (Chunk X) → ℕ → Option X
  node_at chunks k = slice_get (slice_index_or (rows chunks) (k / PLACES) []) (k % PLACES)

  -- where the place of a number lies, with places of s bytes
  abbrev pub place_of : ℕ → List (Chunk X) → ℕ → Ptr
  place_of s chunks k = slice_index_or (map (λ (c : Chunk X). c.start) chunks) (k / PLACES) null_ptr +ₚ (k % PLACES) * s

  -- the value that is there, as a list
  abbrev pub listed : Option X → List X
  listed (Some x) = x ∷ []
  listed None = []

  -- the values of the first n numbers
  abbrev pub first_items : (ℕ → Option X) → ℕ → List X
  first_items f zero = []
  first_items f (suc n) = first_items f n ++ listed (f n)

  abbrev pub items_of : ChunkList X → List X
  items_of l = first_items (node_at l.chunks.items) l.len

  -- the place of each number below the length is filled
  pub record IsChunkList (l : ChunkList X) : Type 0 where
    pub each : (j : ℕ) (c : Chunk X) → slice_get l.chunks.items j ≡ Some c → IsChunk l.alloc c
    pub filled : (k : ℕ) (c : Chunk X) → k < l.len → slice_get l.chunks.items (k / PLACES) ≡ Some c → IsFilled c (k % PLACES)
    pub enough : l.len ≤ PLACES * length l.chunks.items

  -- a place past those is left
  abbrev pub HasRoom : ChunkList X → Type 0
  HasRoom l = (l.len < PLACES * length l.chunks.items) × (l.len + 1 < 2 ^ 64)

-- the link leads to the place of a number
abbrev pub IsLinkTo : (R : RattleType) → ChunkList R.Denot → ℕ → Link → Type 0
IsLinkTo R l n k = (n < l.len) × (k.number ≡ n) × (k.place ≡ place_of (type_size R) l.chunks.items n)

-- each link leads where it led
abbrev pub KeepsLinks : (R : RattleType) → ChunkList R.Denot → ChunkList R.Denot → Type 0
KeepsLinks R old new = (n : ℕ) (k : Link) → IsLinkTo R old n k → IsLinkTo R new n k
