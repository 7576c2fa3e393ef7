-- The nodes are linked anew, one after the other.
use Rattle.std.proofs.Common.{◌≡◌, ℕ, suc, ◌+◌, ◌<◌, ◌≤◌, List, map, length, sym, ap, ◌∙◌, subst, arith, Option, Some, None, inl, inr}
use Rattle.std.specs.Prelude.{slice_get, slice_set, get_or}
use Rattle.std.proofs.Math.Seq.{map-set_same}
use Rattle.std.proofs.lemmas.List.{length-set, length-map}
use Rattle.std.proofs.lemmas.Option.{slice_get_within, get_or_from_slice_get}
use Rattle.term_arena.specs.declared.entries.Entry.{Entry}
use Rattle.term_arena.specs.declared.chunks.link.Link.{Link}
use Rattle.term_arena.specs.declared.chunks.list.ChunkList.{ChunkList}
use Rattle.term_arena.specs.declared.chunks.link.Placed.{Placed}
use Rattle.term_arena.specs.contracts.chunks.link.Placed.{the_row}
use Rattle.term_arena.specs.Chunks.{items_of, IsChunkList, IsLinkTo, KeepsLinks}
use Rattle.term_arena.specs.Links.{target}
use Rattle.term_arena.specs.Mixing.{bucket_of}
use Rattle.term_arena.specs.Entries.{nodes_of}
use Rattle.term_arena.specs.Nodes.{AreDistinct}
use Rattle.term_arena.specs.Buckets.{entries_of, buckets, last_in, LeadsTo, IsTable, IsLinkedTo, AreEmpty}
use Rattle.term_arena.proofs.FindLemmas.{last_in-suc, bucket_at}
use Rattle.term_arena.proofs.PushLemmas.{leads_still, slice_get-set}

-- empty buckets, and no node in a chain
pub links_begin : (l : ChunkList Placed) (old heads : List Link) (count : ℕ) → IsTable l old → AreEmpty heads count → 0 < count → IsLinkedTo l heads 0
links_begin l old heads count ok empty some = record {
  chunks = ok.chunks;
  numbered = ok.numbered;
  some = omega (arith, some, empty.0);
  headed = λ b k e. subst (λ x. LeadsTo l x None) (sym (empty.1 b k e)) tt;
  linked = λ k p lt. absurd (omega arith);
}

-- every node is in its chain
pub links_end : (l : ChunkList Placed) (heads : List Link) (n : ℕ) → n ≡ length (items_of l) → AreDistinct (nodes_of (entries_of l)) → IsLinkedTo l heads n → IsTable l heads
links_end l heads n all distinct ok = record {
  chunks = ok.chunks;
  distinct = distinct;
  numbered = ok.numbered;
  some = ok.some;
  headed = λ b k e. subst (λ m. LeadsTo l (target k) (last_in (buckets (length heads) (items_of l)) b m)) all (ok.headed b k e);
  linked = λ k p e. ok.linked k p (omega (arith, all, slice_get_within (items_of l) k p e)) e;
}

module _ (l l' : ChunkList Placed) (heads : List Link) (n : ℕ) (ok : IsLinkedTo l heads n) (old p : Placed) (head k : Link) (own : ℕ)
    (at : slice_get (items_of l) n ≡ Some old) (same_entry : p.entry ≡ old.entry) (number : p.number ≡ n) (is_own : own ≡ bucket_of (length heads) p.entry.node) (read : slice_get heads own ≡ Some head) (next : p.next ≡ head)
    (stays : IsChunkList l' × (items_of l' ≡ slice_set (items_of l) n p) × KeepsLinks the_row l l') (leads : IsLinkTo the_row l' n k) (leads_on : target k ≡ Some k) where
  abbrev heads' : List Link
  heads' = slice_set heads own k

  as_many : length heads' ≡ length heads
  as_many = length-set heads own k

  same_map : {Y : Type 0} (f : Entry → Y) → map (λ (q : Placed). f q.entry) (items_of l') ≡ map (λ (q : Placed). f q.entry) (items_of l)
  same_map f = ap (map (λ (q : Placed). f q.entry)) stays.1
      ∙ map-set_same (λ (q : Placed). f q.entry) (items_of l) n p old (ap f (same_entry ∙ ap (λ (q : Placed). q.entry) (sym (get_or_from_slice_get (items_of l) n old old at))))

  pub entries_stay : entries_of l' ≡ entries_of l
  entries_stay = same_map (λ e. e)

  abbrev bs : List ℕ
  bs = buckets (length heads) (items_of l)

  same_buckets : buckets (length heads) (items_of l') ≡ bs
  same_buckets = same_map (λ e. bucket_of (length heads) e.node)

  here : get_or bs n 0 ≡ own
  here = bucket_at (length heads) (items_of l) n old at ∙ ap (λ (e : Entry). bucket_of (length heads) e.node) (sym same_entry) ∙ sym is_own

  still : (o : Option Link) (t : Option ℕ) → LeadsTo l o t → LeadsTo l' o t
  still = leads_still l l' stays.2

  headed' : (b : ℕ) (o : Link) → slice_get heads' b ≡ Some o → LeadsTo l' (target o) (last_in bs b (suc n))
  headed' b o e =
      elim (slice_get-set heads own k b o e) [
        | inl this ↦ elim (last_in-suc bs b n) [
          | inl hit ↦ subst (λ q. LeadsTo l' q (last_in bs b (suc n))) (sym (ap target this.1 ∙ leads_on)) (subst (LeadsTo l' (Some k)) (sym hit.1) leads)
          | inr miss ↦ absurd (miss.0 (here ∙ sym this.0))
        ]
        | inr there ↦ elim (last_in-suc bs b n) [
          | inl hit ↦ absurd (there.0 (sym hit.0 ∙ here))
          | inr miss ↦ subst (LeadsTo l' (target o)) (sym miss.1) (still (target o) _ (ok.headed b o there.1))
        ]
      ]

  linked' : (j : ℕ) (q : Placed) → j < suc n → slice_get (slice_set (items_of l) n p) j ≡ Some q → LeadsTo l' (target q.next) (last_in bs (bucket_of (length heads) q.entry.node) j)
  linked' j q lt e =
      elim (slice_get-set (items_of l) n p j q e) [
        | inl this ↦
            let front : LeadsTo l' (target p.next) (last_in bs (bucket_of (length heads) p.entry.node) n) = subst (λ (x : Link). LeadsTo l' (target x) (last_in bs (bucket_of (length heads) p.entry.node) n)) (sym next) (subst (λ b. LeadsTo l' (target head) (last_in bs b n)) is_own (still (target head) _ (ok.headed own head read))) in
            subst (λ (x : Placed). LeadsTo l' (target x.next) (last_in bs (bucket_of (length heads) x.entry.node) j)) (sym this.1) (subst (λ i. LeadsTo l' (target p.next) (last_in bs (bucket_of (length heads) p.entry.node) i)) (sym this.0) front)
        | inr there ↦ let apart = there.0 in still (target q.next) _ (ok.linked j q (omega arith) there.1)
      ]

  numbered' : (j : ℕ) (q : Placed) → slice_get (slice_set (items_of l) n p) j ≡ Some q → q.number ≡ j
  numbered' j q e =
      elim (slice_get-set (items_of l) n p j q e) [
        | inl this ↦ ap (λ (x : Placed). x.number) this.1 ∙ number ∙ sym this.0
        | inr there ↦ ok.numbered j q there.1
      ]

  pub links_on : IsLinkedTo l' heads' (n + 1)
  links_on =
      let same = stays.1 in let next : suc n ≡ n + 1 = omega arith in
      record {
        chunks = stays.0;
        numbered = λ j q e. numbered' j q (ap (λ qs. slice_get qs j) (sym same) ∙ e);
        some = let some = ok.some in omega (arith, some, as_many);
        headed = λ b o e. subst (λ c. LeadsTo l' (target o) (last_in (buckets c (items_of l')) b (n + 1))) (sym as_many)
            (subst (λ cs. LeadsTo l' (target o) (last_in cs b (n + 1))) (sym same_buckets) (subst (λ m. LeadsTo l' (target o) (last_in bs b m)) next (headed' b o e)));
        linked = λ j q lt e. subst (λ c. LeadsTo l' (target q.next) (last_in (buckets c (items_of l')) (bucket_of c q.entry.node) j)) (sym as_many)
            (subst (λ cs. LeadsTo l' (target q.next) (last_in cs (bucket_of (length heads) q.entry.node) j)) (sym same_buckets) (linked' j q (omega arith) (ap (λ qs. slice_get qs j) (sym same) ∙ e)));
      }

-- the first n of the nodes are linked anew, and no entry has changed
pub record IsDoubling (first now : ChunkList Placed) (heads : List Link) (n count : ℕ) : Type 0 where
  pub linked : IsLinkedTo now heads n
  pub entries : entries_of now ≡ entries_of first
  pub all : count ≡ length (items_of now)
  pub within : n ≤ count

pub doubling_on : (first now next : ChunkList Placed) (heads heads' : List Link) (n count : ℕ) → IsDoubling first now heads n count → n < count → IsLinkedTo next heads' (n + 1) → entries_of next ≡ entries_of now → IsDoubling first next heads' (n + 1) count
doubling_on first now next heads heads' n count ok lt linked entries = record {
  linked = linked;
  entries = entries ∙ ok.entries;
  all = let all = ok.all in omega (arith, all, ap length entries, length-map (items_of now) (λ (p : Placed). p.entry), length-map (items_of next) (λ (p : Placed). p.entry));
  within = omega arith;
}
