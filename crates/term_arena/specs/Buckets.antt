-- The buckets of a table, whose chains run through its nodes: each from the last node of its bucket to the first.
use Rattle.std.specs.Prelude.{◌≡◌, ℕ, zero, suc, ◌<◌, ⊤, List, [], ◌∷◌, Contains, map, length, slice_get, get_or, Option, Some, None, nat_eq, if◌then◌else◌}
use Rattle.term_arena.specs.declared.entries.Entry.{Entry}
use Rattle.term_arena.specs.declared.chunks.link.Link.{Link}
use Rattle.term_arena.specs.declared.chunks.list.ChunkList.{ChunkList}
use Rattle.term_arena.specs.declared.chunks.link.Placed.{Placed}
use Rattle.term_arena.specs.contracts.chunks.link.Placed.{the_row}
use Rattle.term_arena.specs.Nodes.{AreDistinct}
use Rattle.term_arena.specs.Entries.{nodes_of}
use Rattle.term_arena.specs.Links.{target}
use Rattle.term_arena.specs.Chunks.{items_of, IsChunkList, IsLinkTo}
use Rattle.term_arena.specs.Mixing.{bucket_of}

-- the entries by number
abbrev pub entries_of : ChunkList Placed → List Entry
entries_of list = map (λ (p : Placed). p.entry) (items_of list)

-- the bucket of each node, of so many
abbrev pub buckets : ℕ → List Placed → List ℕ
buckets count ps = map (λ (p : Placed). bucket_of count p.entry.node) ps

-- the last number below n whose bucket is b
abbrev pub last_in : List ℕ → ℕ → ℕ → Option ℕ
last_in bs b zero = None
last_in bs b (suc n) = if nat_eq (get_or bs n 0) b then Some n else last_in bs b n

-- the link is there where the number is, and leads to its place
abbrev pub LeadsTo : ChunkList Placed → Option Link → Option ℕ → Type 0
LeadsTo list (Some k) (Some n) = IsLinkTo the_row list n k
LeadsTo list None None = ⊤
LeadsTo list o n = ⊥

-- each node is there once and has its number; the head of a bucket leads to the last of its nodes, and each node to the one before it
pub record IsTable (list : ChunkList Placed) (heads : List Link) : Type 0 where
  pub chunks : IsChunkList list
  pub distinct : AreDistinct (nodes_of (entries_of list))
  pub numbered : (k : ℕ) (p : Placed) → slice_get (items_of list) k ≡ Some p → p.number ≡ k
  pub some : 0 < length heads
  pub headed : (b : ℕ) (k : Link) → slice_get heads b ≡ Some k → LeadsTo list (target k) (last_in (buckets (length heads) (items_of list)) b (length (items_of list)))
  pub linked : (k : ℕ) (p : Placed) → slice_get (items_of list) k ≡ Some p → LeadsTo list (target p.next) (last_in (buckets (length heads) (items_of list)) (bucket_of (length heads) p.entry.node) k)

-- the numbers below n whose bucket is b, the last first
abbrev pub members : List ℕ → ℕ → ℕ → List ℕ
members bs b zero = []
members bs b (suc n) = if nat_eq (get_or bs n 0) b then n ∷ members bs b n else members bs b n

-- each number is below the one before it
abbrev pub AreFalling : List ℕ → Type 0
AreFalling [] = ⊤
AreFalling (n ∷ ns) = ((k : ℕ) → Contains ns k → k < n) × AreFalling ns

-- from the link on, the chain goes through the nodes of these numbers and ends
abbrev pub IsChain : ChunkList Placed → Option Link → List ℕ → Type 0
IsChain list None [] = ⊤
IsChain list (Some k) (n ∷ ns) = IsLinkTo the_row list n k × ((p : Placed) → slice_get (items_of list) n ≡ Some p → IsChain list (target p.next) ns)
IsChain list o ns = ⊥

-- the same of the first n nodes alone, while they are linked anew
pub record IsLinkedTo (list : ChunkList Placed) (heads : List Link) (n : ℕ) : Type 0 where
  pub chunks : IsChunkList list
  pub numbered : (k : ℕ) (p : Placed) → slice_get (items_of list) k ≡ Some p → p.number ≡ k
  pub some : 0 < length heads
  pub headed : (b : ℕ) (k : Link) → slice_get heads b ≡ Some k → LeadsTo list (target k) (last_in (buckets (length heads) (items_of list)) b n)
  pub linked : (k : ℕ) (p : Placed) → k < n → slice_get (items_of list) k ≡ Some p → LeadsTo list (target p.next) (last_in (buckets (length heads) (items_of list)) (bucket_of (length heads) p.entry.node) k)

-- so many buckets, and no node in them
abbrev pub AreEmpty : List Link → ℕ → Type 0
AreEmpty heads count = (length heads ≡ count) × ((b : ℕ) (k : Link) → slice_get heads b ≡ Some k → target k ≡ None)
