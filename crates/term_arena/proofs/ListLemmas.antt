-- A list of chunks stays one.
use Rattle.std.proofs.Common.{◌≡◌, ◌≢◌, ℕ, suc, Bool, ◌^◌, ◌+◌, ◌*◌, ◌/◌, ◌%◌, ◌<◌, ◌≤◌, List, [], ◌∷◌, ◌++◌, length, refl, sym, ap, ◌∙◌, subst, arith, Some, None, true, false, inl, inr, length-append}
use Rattle.std.specs.Prelude.{slice_get, slice_set, get_or}
use Rattle.std.proofs.lemmas.List.{length-set, get_or-set_same, get_or-set_other}
use Rattle.std.proofs.lemmas.Option.{slice_get_read, slice_get_within}
use Rattle.std.proofs.lemmas.Bool.Decides.{eqb_tells}
use Rattle.std.specs.Borrow.{RattleType}
use Rattle.std.specs.Mem.{type_size}
use Rattle.std.specs.declared.alloc.Global.{Global}
use Rattle.core.proofs.ptr.Rows.{times_below}
use Rattle.core.specs.declared.slots.Slots.{Slots}
use Rattle.core.specs.Mem.Slots.{slots_items, slots_filled, slots_ptr, slots_counts, SamePlaces}
use denote.RawPtr.{Ptr, block_ptr, null_ptr, InBlock, Testable, count_of, ◌+ₚ◌}
use Rattle.term_arena.specs.declared.chunks.TheConstants.{PLACES}
use Rattle.term_arena.specs.declared.chunks.link.Chunk.{Chunk}
use Rattle.term_arena.specs.declared.chunks.link.Link.{Link}
use Rattle.term_arena.specs.declared.chunks.list.ChunkList.{ChunkList}
use Rattle.term_arena.specs.Links.{target, link_at, IsFilled}
use Rattle.term_arena.specs.Chunks.{IsChunk, node_at, first_items, place_of, items_of, IsChunkList, HasRoom, IsLinkTo, KeepsLinks}
use Rattle.term_arena.proofs.ItemLemmas.{length-first_items, first_items-alike, slice_get-first_items, first_items-push, first_items-set}
use Rattle.term_arena.proofs.ChunkLemmas.{node_at-read, node_at-written, node_at-other, place_of-set, of_set, of_push, node_at-push, place_of-push, place_of-read, there_is, read_written, read_other, in_push}

-- a chunk has a value for each place
pub row_length : {X : Type 0} (a : Global) (c : Chunk X) → IsChunk a c → length (slots_items c.slots) ≡ PLACES
row_length a c is = let many = (slots_counts c.slots).0 in let places = is.places in omega arith

module _ {X : Type 0} (l : ChunkList X) (ok : IsChunkList l) where
  -- the chunk of a number is in the list
  pub index_within : (n : ℕ) → n < l.len → n / PLACES < length l.chunks.items
  index_within n lt = let enough = ok.enough in omega arith

  -- and its place has a value
  pub has_value : (n : ℕ) → n < l.len → node_at l.chunks.items n ≢ None
  has_value n lt none =
      let chunk = there_is l.chunks.items (n / PLACES) (index_within n lt) in let c = chunk.0 in
      let long = row_length l.alloc c (ok.each (n / PLACES) c chunk.1) in
      let value = there_is (slots_items c.slots) (n % PLACES) (omega arith) in
      let there = sym (node_at-read l.chunks.items n c chunk.1 ∙ value.1) ∙ none in cc

  pub count : length (items_of l) ≡ l.len
  count = length-first_items (node_at l.chunks.items) l.len has_value

  pub chunk_read : (n : ℕ) (c : Chunk X) → n / PLACES < length l.chunks.items → c ≡ get_or l.chunks.items (n / PLACES) c → slice_get l.chunks.items (n / PLACES) ≡ Some c
  chunk_read n c within read = slice_get_read l.chunks.items (length l.chunks.items) (n / PLACES) c refl within read

  -- the value of a number is that of its place
  pub item_read : (n : ℕ) (c : Chunk X) (x : X) → n < l.len → slice_get l.chunks.items (n / PLACES) ≡ Some c → slice_get (slots_items c.slots) (n % PLACES) ≡ Some x → slice_get (items_of l) n ≡ Some x
  item_read n c x lt there value = slice_get-first_items (node_at l.chunks.items) l.len has_value n x lt (node_at-read l.chunks.items n c there ∙ value)

-- a value is written at a place
module _ {X : Type 0} (l l' : ChunkList X) (ok : IsChunkList l) (n : ℕ) (c : Chunk X) (x : X) (there : slice_get l.chunks.items (n / PLACES) ≡ Some c) (after : Slots X) (same_places : SamePlaces c.slots after)
    (written : slots_items after ≡ slice_set (slots_items c.slots) (n % PLACES) x) (filled : slots_filled after ≡ slice_set (slots_filled c.slots) (n % PLACES) true)
    (becomes : l'.chunks.items ≡ slice_set l.chunks.items (n / PLACES) (record { slots = after; start = c.start; lease = c.lease })) (same_alloc : l'.alloc ≡ l.alloc) where
  abbrev c' : Chunk X
  c' = record { slots = after; start = c.start; lease = c.lease }

  old : IsChunk l.alloc c
  old = ok.each (n / PLACES) c there

  new : IsChunk l.alloc c'
  new = record {
    places = same_places.count ∙ old.places;
    start = old.start ∙ sym same_places.start;
    within = old.within;
    first = old.first;
    leased = old.leased ∙ sym same_places.start;
    size = old.size ∙ sym same_places.count;
    heap = old.heap;
  }

  long : length (slots_items c.slots) ≡ PLACES
  long = row_length l.alloc c old

  each : (j : ℕ) (d : Chunk X) → slice_get l'.chunks.items j ≡ Some d → IsChunk l'.alloc d
  each j d e = subst (λ a. IsChunk a d) (sym same_alloc)
      (elim (of_set l.chunks.items (n / PLACES) c' j d (ap (λ (cs : List (Chunk X)). slice_get cs j) (sym becomes) ∙ e)) [
        | inl this ↦ subst (IsChunk l.alloc) (sym this) new
        | inr other ↦ ok.each j d other
      ])

  here : node_at l'.chunks.items n ≡ Some x
  here = ap (λ (cs : List (Chunk X)). node_at cs n) becomes ∙ node_at-written l.chunks.items n c c' there x long written

  others : (k : ℕ) → k ≢ n → node_at l'.chunks.items k ≡ node_at l.chunks.items k
  others k apart = ap (λ (cs : List (Chunk X)). node_at cs k) becomes ∙ node_at-other l.chunks.items n c c' there x long written k apart

  as_many : length l'.chunks.items ≡ length l.chunks.items
  as_many = ap length becomes ∙ length-set l.chunks.items (n / PLACES) c'

  -- no place moves
  pub places_stay : (s k : ℕ) → place_of s l'.chunks.items k ≡ place_of s l.chunks.items k
  places_stay s k = ap (λ (cs : List (Chunk X)). place_of s cs k) becomes ∙ place_of-set l.chunks.items n c c' there refl s k

  flags : length (slots_filled c.slots) ≡ PLACES
  flags = let many = (slots_counts c.slots).1 in let places = old.places in omega arith

  -- a place is filled that was, or that is written
  fills : (k : ℕ) (d : Chunk X) → (k ≢ n → (e : Chunk X) → slice_get l.chunks.items (k / PLACES) ≡ Some e → IsFilled e (k % PLACES)) → slice_get l'.chunks.items (k / PLACES) ≡ Some d → IsFilled d (k % PLACES)
  fills k d before e =
      let e' : slice_get (slice_set l.chunks.items (n / PLACES) c') (k / PLACES) ≡ Some d = ap (λ (cs : List (Chunk X)). slice_get cs (k / PLACES)) (sym becomes) ∙ e in
      elim (eqb_tells (k / PLACES) (n / PLACES)) [
        | inl chunk ↦
            let at : slice_get l.chunks.items (k / PLACES) ≡ Some c = ap (slice_get l.chunks.items) chunk.1 ∙ there in
            let is : d ≡ c' = this_chunk (k / PLACES) chunk.1 d e' in
            subst (λ (b : Chunk X). IsFilled b (k % PLACES)) (sym is) (
              (let places = new.places in omega arith),
              ap (λ (fs : List Bool). get_or fs (k % PLACES) false) filled ∙ elim (eqb_tells (k % PLACES) (n % PLACES)) [
                | inl same ↦ ap (λ i. get_or (slice_set (slots_filled c.slots) i true) (k % PLACES) false) (sym same.1) ∙ get_or-set_same (slots_filled c.slots) (k % PLACES) true false (omega (arith, flags))
                | inr other ↦ get_or-set_other (slots_filled c.slots) (n % PLACES) (k % PLACES) true false other.1 ∙ (before (λ is. other.1 (ap (λ i. i % PLACES) is)) c at).1
              ],
            )
        | inr other ↦ before (λ is. other.1 (ap (λ i. i / PLACES) is)) d (sym (read_other l.chunks.items (n / PLACES) (k / PLACES) c' other.1) ∙ e')
      ]
    where
      this_chunk : (j : ℕ) → j ≡ n / PLACES → (d : Chunk X) → slice_get (slice_set l.chunks.items (n / PLACES) c') j ≡ Some d → d ≡ c'
      this_chunk j same d e =
          let mine = read_written l.chunks.items (n / PLACES) c' (slice_get_within l.chunks.items (n / PLACES) c there) in
          let its : slice_get (slice_set l.chunks.items (n / PLACES) c') (n / PLACES) ≡ Some d = subst (λ i. slice_get (slice_set l.chunks.items (n / PLACES) c') i ≡ Some d) same e in
          cc

  -- over another
  pub is_replaced : l'.len ≡ l.len → n < l.len → IsChunkList l' × (items_of l' ≡ slice_set (items_of l) n x)
  is_replaced same lt = (
    record {
      each = each;
      filled = λ k d below. fills k d (λ _ e. ok.filled k e (omega arith));
      enough = let e = ok.enough in omega (arith, e, as_many, same);
    },
    ap (first_items (node_at l'.chunks.items)) same ∙ first_items-set (node_at l.chunks.items) (node_at l'.chunks.items) l.len n x (has_value l ok) lt here others,
  )

  -- after the last
  pub is_placed : l'.len ≡ l.len + 1 → n ≡ l.len → HasRoom l → IsChunkList l' × (items_of l' ≡ items_of l ++ x ∷ [])
  is_placed more last room = (
    record {
      each = each;
      filled = λ k d below. fills k d (λ apart e. ok.filled k e (omega arith));
      enough = let e = room.0 in omega (arith, e, as_many, more);
    },
    let next : l'.len ≡ suc l.len = omega arith in
        ap (first_items (node_at l'.chunks.items)) next ∙ first_items-push (node_at l.chunks.items) (node_at l'.chunks.items) l.len x (λ k below. others k (λ is. omega arith)) (subst (λ m. node_at l'.chunks.items m ≡ Some x) last here),
  )

-- a chunk is added
module _ {X : Type 0} (l l' : ChunkList X) (ok : IsChunkList l) (c : Chunk X) (is : IsChunk l.alloc c) (same : l'.len ≡ l.len) (same_alloc : l'.alloc ≡ l.alloc) (becomes : l'.chunks.items ≡ l.chunks.items ++ c ∷ []) where
  each' : (j : ℕ) (d : Chunk X) → slice_get l'.chunks.items j ≡ Some d → IsChunk l'.alloc d
  each' j d e = subst (λ a. IsChunk a d) (sym same_alloc)
      (elim (of_push l.chunks.items c j d (ap (λ (cs : List (Chunk X)). slice_get cs j) (sym becomes) ∙ e)) [
        | inl this ↦ subst (IsChunk l.alloc) (sym this) is
        | inr other ↦ ok.each j d other
      ])

  all : (k : ℕ) → k < l.len → node_at l'.chunks.items k ≡ node_at l.chunks.items k
  all k lt = ap (λ (cs : List (Chunk X)). node_at cs k) becomes ∙ node_at-push l.chunks.items c k (index_within l ok k lt)

  longer : length l'.chunks.items ≡ length l.chunks.items + 1
  longer = ap length becomes ∙ length-append l.chunks.items (c ∷ [])

  fills' : (k : ℕ) (d : Chunk X) → k < l.len → slice_get l'.chunks.items (k / PLACES) ≡ Some d → IsFilled d (k % PLACES)
  fills' k d lt e =
      let chunk = there_is l.chunks.items (k / PLACES) (index_within l ok k lt) in
      let e' : slice_get (l.chunks.items ++ c ∷ []) (k / PLACES) ≡ Some d = ap (λ (cs : List (Chunk X)). slice_get cs (k / PLACES)) (sym becomes) ∙ e in
      let mine = in_push l.chunks.items c (k / PLACES) chunk.0 chunk.1 in
      let same : chunk.0 ≡ d = cc in
      ok.filled k d lt (chunk.1 ∙ ap Some same)

  pub is_grown : IsChunkList l'
  is_grown = record {
    each = each';
    filled = λ k d below. fills' k d (omega arith);
    enough = let e = ok.enough in omega (arith, e, longer, same);
  }

  pub items_stay : items_of l' ≡ items_of l
  items_stay = ap (first_items (node_at l'.chunks.items)) same ∙ first_items-alike (node_at l'.chunks.items) (node_at l.chunks.items) l.len all

  pub places_stay' : (s k : ℕ) → k < l.len → place_of s l'.chunks.items k ≡ place_of s l.chunks.items k
  places_stay' s k lt = ap (λ (cs : List (Chunk X)). place_of s cs k) becomes ∙ place_of-push l.chunks.items c k (index_within l ok k lt) s

-- the link to a number, from where its chunk begins
pub link_place : {X : Type 0} (l : ChunkList X) (ok : IsChunkList l) (s n : ℕ) (c : Chunk X) → slice_get l.chunks.items (n / PLACES) ≡ Some c → c.start +ₚ (n % PLACES) * s ≡ place_of s l.chunks.items n
link_place l ok s n c there = sym (place_of-read s l.chunks.items n c there)

-- and from its row
pub link_start : {X : Type 0} (l : ChunkList X) (ok : IsChunkList l) (s n : ℕ) (c : Chunk X) → slice_get l.chunks.items (n / PLACES) ≡ Some c → slots_ptr c.slots +ₚ (n % PLACES) * s ≡ place_of s l.chunks.items n
link_start l ok s n c there = ap (λ p. p +ₚ (n % PLACES) * s) (sym (ok.each (n / PLACES) c there).start) ∙ link_place l ok s n c there

moved_in_block : (p : Ptr) (n : ℕ) → InBlock p → InBlock (p +ₚ n)
moved_in_block (block_ptr b o) n t = tt
moved_in_block null_ptr n t = absurd t

moved_count : (p : Ptr) (n : ℕ) → InBlock p → count_of (p +ₚ n) ≡ count_of p + n
moved_count (block_ptr b o) n t = refl
moved_count null_ptr n t = absurd t

target_of : (p : Ptr) (k : Link) → InBlock p → link_at p k ≡ Some k
target_of (block_ptr b o) k t = refl
target_of null_ptr k t = absurd t

module _ (R : RattleType) (l : ChunkList R.Denot) (ok : IsChunkList l) (n : ℕ) (k : Link) (leads : IsLinkTo R l n k) where
  chunk : (c : Chunk R.Denot) × (slice_get l.chunks.items (n / PLACES) ≡ Some c)
  chunk = there_is l.chunks.items (n / PLACES) (index_within l ok n leads.0)

  is : IsChunk l.alloc chunk.0
  is = ok.each (n / PLACES) chunk.0 chunk.1

  at : k.place ≡ (chunk.0).start +ₚ (n % PLACES) * type_size R
  at = leads.2 ∙ place_of-read (type_size R) l.chunks.items n chunk.0 chunk.1

  -- a link to a number isn't null
  pub leads_somewhere : target k ≡ Some k
  leads_somewhere = target_of k.place k (subst InBlock (sym at) (moved_in_block (chunk.0).start _ is.within))

  -- and may be compared with null
  pub is_testable : PLACES * type_size R < 2 ^ 63 → Testable k.place
  is_testable small =
      let count = ap count_of at ∙ moved_count (chunk.0).start ((n % PLACES) * type_size R) is.within in
      let first = is.first in
      let offset = below_all (n % PLACES) (type_size R) (omega arith) small in
      omega arith
    where
      below_all : (i s : ℕ) → i < PLACES → PLACES * s < 2 ^ 63 → i * s < 2 ^ 63
      below_all i s lt small = times_below i PLACES s (2 ^ 63) (omega arith) small

module _ (R : RattleType) (l l' : ChunkList R.Denot) where
  pub links_kept : l.len ≤ l'.len → ((k : ℕ) → k < l.len → place_of (type_size R) l'.chunks.items k ≡ place_of (type_size R) l.chunks.items k) → KeepsLinks R l l'
  links_kept longer same n k link = let below = link.0 in (omega arith, link.1, link.2 ∙ sym (same n link.0))

  -- nothing changes but the room for chunks
  pub unchanged : IsChunkList l → l'.chunks.items ≡ l.chunks.items → l'.len ≡ l.len → l'.alloc ≡ l.alloc → IsChunkList l' × (items_of l' ≡ items_of l) × KeepsLinks R l l'
  unchanged ok items len alloc =
      let all : (k : ℕ) → node_at l'.chunks.items k ≡ node_at l.chunks.items k = λ k. ap (λ (cs : List (Chunk R.Denot)). node_at cs k) items in
      let many = ap length items in (
        record {
          each = λ j c e. subst (λ a. IsChunk a c) (sym alloc) (ok.each j c (ap (λ (cs : List (Chunk R.Denot)). slice_get cs j) (sym items) ∙ e));
          filled = λ k c below e. ok.filled k c (omega arith) (ap (λ (cs : List (Chunk R.Denot)). slice_get cs (k / PLACES)) (sym items) ∙ e);
          enough = let e = ok.enough in omega (arith, e, many, len);
        },
        ap (first_items (node_at l'.chunks.items)) len ∙ first_items-alike (node_at l'.chunks.items) (node_at l.chunks.items) l.len (λ k _. all k),
        links_kept (omega arith) (λ k _. ap (λ (cs : List (Chunk R.Denot)). place_of (type_size R) cs k) items),
      )

  module _ (ok : IsChunkList l) (c : Chunk R.Denot) (is : IsChunk l.alloc c) (same : l'.len ≡ l.len) (same_alloc : l'.alloc ≡ l.alloc) (becomes : l'.chunks.items ≡ l.chunks.items ++ c ∷ []) where
    pub grown : IsChunkList l' × (items_of l' ≡ items_of l) × KeepsLinks R l l'
    grown = (is_grown l l' ok c is same same_alloc becomes, items_stay l l' ok c is same same_alloc becomes, links_kept (omega arith) (places_stay' l l' ok c is same same_alloc becomes (type_size R)))

  module _ (ok : IsChunkList l) (n : ℕ) (c : Chunk R.Denot) (x : R.Denot) (there : slice_get l.chunks.items (n / PLACES) ≡ Some c) (after : Slots R.Denot) (same_places : SamePlaces c.slots after)
      (written : slots_items after ≡ slice_set (slots_items c.slots) (n % PLACES) x) (filled : slots_filled after ≡ slice_set (slots_filled c.slots) (n % PLACES) true)
      (becomes : l'.chunks.items ≡ slice_set l.chunks.items (n / PLACES) (record { slots = after; start = c.start; lease = c.lease })) (same_alloc : l'.alloc ≡ l.alloc) where
    stay : l.len ≤ l'.len → KeepsLinks R l l'
    stay longer = links_kept longer (λ k _. places_stay l l' ok n c x there after same_places written filled becomes same_alloc (type_size R) k)

    pub placed : l'.len ≡ l.len + 1 → n ≡ l.len → HasRoom l → IsChunkList l' × (items_of l' ≡ items_of l ++ x ∷ []) × KeepsLinks R l l'
    placed more last room =
        let both = is_placed l l' ok n c x there after same_places written filled becomes same_alloc more last room in
        (both.0, both.1, stay (omega arith))

    pub replaced : l'.len ≡ l.len → n < l.len → IsChunkList l' × (items_of l' ≡ slice_set (items_of l) n x) × KeepsLinks R l l'
    replaced same lt =
        let both = is_replaced l l' ok n c x there after same_places written filled becomes same_alloc same lt in
        (both.0, both.1, stay (omega arith))
