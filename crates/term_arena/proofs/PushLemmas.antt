-- A node is put at the end of the list and at the front of its chain.
use Rattle.std.proofs.Common.{◌≡◌, ◌≢◌, ℕ, zero, suc, ◌<◌, ◌≤◌, List, [], ◌∷◌, ◌++◌, map, length, refl, sym, ap, ◌∙◌, subst, arith, Option, Some, None, inl, inr, ◌⊎◌, nat_eq, length-append}
use Rattle.std.specs.Prelude.{slice_get, slice_set, get_or, if◌then◌else◌}
use Rattle.std.proofs.Math.Seq.{get_or-append_seam}
use Rattle.std.proofs.lemmas.List.{length-map, map-append, length-set, get_or_append_left}
use Rattle.std.proofs.lemmas.Option.{slice_get_within}
use Rattle.term_arena.specs.declared.chunks.link.Link.{Link}
use Rattle.term_arena.specs.declared.chunks.list.ChunkList.{ChunkList}
use Rattle.term_arena.specs.declared.chunks.link.Placed.{Placed}
use Rattle.term_arena.specs.contracts.chunks.link.Placed.{the_row}
use Rattle.term_arena.specs.Chunks.{items_of, IsChunkList, IsLinkTo, KeepsLinks}
use Rattle.term_arena.specs.Links.{target}
use Rattle.term_arena.specs.Mixing.{bucket_of}
use Rattle.term_arena.specs.Entries.{nodes_of, IsAbsent}
use Rattle.term_arena.specs.Nodes.{AreDistinct}
use Rattle.term_arena.specs.Buckets.{entries_of, buckets, last_in, LeadsTo, IsTable}
use Rattle.term_arena.proofs.FindLemmas.{last_in-suc}
use Rattle.term_arena.proofs.IndexLemmas.{push_at, distinct_entries-push}

-- it depends on the buckets of the numbers below n alone
pub last_in-alike : (bs cs : List ℕ) (b n : ℕ) → ((k : ℕ) → k < n → get_or bs k 0 ≡ get_or cs k 0) → last_in bs b n ≡ last_in cs b n
last_in-alike bs cs b zero h = refl
last_in-alike bs cs b (suc n) h =
    let rest = last_in-alike bs cs b n (λ k lt. h k (omega arith)) in
    λ i. if nat_eq (h n (omega arith) i) b then Some n else rest i

pub leads_still : (l l' : ChunkList Placed) → KeepsLinks the_row l l' → (o : Option Link) (t : Option ℕ) → LeadsTo l o t → LeadsTo l' o t
leads_still l l' keeps (Some k) (Some n) h = keeps n k h
leads_still l l' keeps None None h = h
leads_still l l' keeps (Some k) None h = absurd h
leads_still l l' keeps None (Some n) h = absurd h

-- the list changes but not its nodes
pub table_stays : (l l' : ChunkList Placed) (heads : List Link) → IsTable l heads → IsChunkList l' × (items_of l' ≡ items_of l) × KeepsLinks the_row l l' → IsTable l' heads
table_stays l l' heads ok stays =
    let same = stays.1 in
    record {
      chunks = stays.0;
      distinct = subst (λ ps. AreDistinct (nodes_of (map (λ (p : Placed). p.entry) ps))) (sym same) ok.distinct;
      numbered = λ k p e. ok.numbered k p (ap (λ ps. slice_get ps k) (sym same) ∙ e);
      some = ok.some;
      headed = λ b k e. subst (λ ps. LeadsTo l' (target k) (last_in (buckets (length heads) ps) b (length ps))) (sym same) (leads_still l l' stays.2 (target k) _ (ok.headed b k e));
      linked = λ k p e. subst (λ ps. LeadsTo l' (target p.next) (last_in (buckets (length heads) ps) (bucket_of (length heads) p.entry.node) k)) (sym same)
          (leads_still l l' stays.2 (target p.next) _ (ok.linked k p (ap (λ ps. slice_get ps k) (sym same) ∙ e)));
    }

pub slice_get-set : {X : Type 0} (xs : List X) (i : ℕ) (x : X) (j : ℕ) (y : X) → slice_get (slice_set xs i x) j ≡ Some y → ((j ≡ i) × (y ≡ x)) ⊎ ((j ≢ i) × (slice_get xs j ≡ Some y))
slice_get-set [] zero x zero y e = cc
slice_get-set [] zero x (suc j) y e = cc
slice_get-set [] (suc i) x zero y e = cc
slice_get-set [] (suc i) x (suc j) y e = cc
slice_get-set (z ∷ xs) zero x zero y e = let same : x ≡ y = cc in inl (refl, sym same)
slice_get-set (z ∷ xs) zero x (suc j) y e = inr (λ is. omega arith, e)
slice_get-set (z ∷ xs) (suc i) x zero y e = inr (λ is. omega arith, e)
slice_get-set (z ∷ xs) (suc i) x (suc j) y e =
    elim (slice_get-set xs i x j y e) [
      | inl h ↦ inl (ap suc h.0, h.1)
      | inr h ↦ let apart = h.0 in inr (λ is. apart (omega arith), h.1)
    ]

module _ (l l' : ChunkList Placed) (heads : List Link) (ok : IsTable l heads) (p : Placed) (head k : Link) (own : ℕ)
    (is_own : own ≡ bucket_of (length heads) p.entry.node) (number : p.number ≡ length (items_of l)) (read : slice_get heads own ≡ Some head) (next : p.next ≡ head)
    (stays : IsChunkList l' × (items_of l' ≡ items_of l ++ p ∷ []) × KeepsLinks the_row l l') (leads : IsLinkTo the_row l' (length (items_of l)) k) (leads_on : target k ≡ Some k) (new : IsAbsent (entries_of l) p.entry.node) where
  abbrev ps : List Placed
  ps = items_of l

  abbrev n : ℕ
  n = length (items_of l)

  abbrev heads' : List Link
  heads' = slice_set heads own k

  as_many : length heads' ≡ length heads
  as_many = length-set heads own k

  abbrev bs : List ℕ
  bs = buckets (length heads) ps

  abbrev bs' : List ℕ
  bs' = buckets (length heads) (ps ++ p ∷ [])

  f : Placed → ℕ
  f q = bucket_of (length heads) q.entry.node

  before : (j : ℕ) → j < n → get_or bs' j 0 ≡ get_or bs j 0
  unfolding f
  before j lt = ap (λ (l : List ℕ). get_or l j 0) (map-append f ps (p ∷ [])) ∙ get_or_append_left bs (f p ∷ []) 0 j (omega (arith, lt, length-map ps f))

  last : get_or bs' n 0 ≡ own
  unfolding f
  last = ap (λ (l : List ℕ). get_or l n 0) (map-append f ps (p ∷ [])) ∙ ap (λ m. get_or (bs ++ f p ∷ []) m 0) (sym (length-map ps f)) ∙ get_or-append_seam bs (f p) [] 0 ∙ sym is_own

  below : (b m : ℕ) → m ≤ n → last_in bs' b m ≡ last_in bs b m
  below b m le = last_in-alike bs' bs b m (λ j lt. before j (omega arith))

  still : (o : Option Link) (t : Option ℕ) → LeadsTo l o t → LeadsTo l' o t
  still = leads_still l l' stays.2

  all : length (ps ++ p ∷ []) ≡ suc n
  all = omega (arith, length-append ps (p ∷ []))

  headed' : (b : ℕ) (o : Link) → slice_get heads' b ≡ Some o → LeadsTo l' (target o) (last_in bs' b (suc n))
  headed' b o e =
      elim (slice_get-set heads own k b o e) [
        | inl here ↦ elim (last_in-suc bs' b n) [
          | inl this ↦ subst (λ q. LeadsTo l' q (last_in bs' b (suc n))) (sym (ap target here.1 ∙ leads_on)) (subst (LeadsTo l' (Some k)) (sym this.1) leads)
          | inr other ↦ absurd (other.0 (last ∙ sym here.0))
        ]
        | inr there ↦ elim (last_in-suc bs' b n) [
          | inl this ↦ absurd (there.0 (sym this.0 ∙ last))
          | inr other ↦ subst (LeadsTo l' (target o)) (sym (other.1 ∙ below b n (omega arith))) (still (target o) _ (ok.headed b o there.1))
        ]
      ]

  linked' : (j : ℕ) (q : Placed) → slice_get (ps ++ p ∷ []) j ≡ Some q → LeadsTo l' (target q.next) (last_in bs' (bucket_of (length heads) q.entry.node) j)
  linked' j q e =
      elim (push_at ps p q j e) [
        | inl there ↦
            let lt = slice_get_within ps j q there in
            subst (LeadsTo l' (target q.next)) (sym (below _ j (omega arith))) (still (target q.next) _ (ok.linked j q there))
        | inr here ↦
            let front : LeadsTo l (target p.next) (last_in bs (bucket_of (length heads) p.entry.node) n) = subst (λ (x : Link). LeadsTo l (target x) (last_in bs (bucket_of (length heads) p.entry.node) n)) (sym next) (subst (λ b. LeadsTo l (target head) (last_in bs b n)) is_own (ok.headed own head read)) in
            let one : LeadsTo l' (target p.next) (last_in bs' (bucket_of (length heads) p.entry.node) n) = subst (LeadsTo l' (target p.next)) (sym (below _ n (omega arith))) (still (target p.next) _ front) in
            subst (λ (x : Placed). LeadsTo l' (target x.next) (last_in bs' (bucket_of (length heads) x.entry.node) j)) (sym here.1) (subst (λ i. LeadsTo l' (target p.next) (last_in bs' (bucket_of (length heads) p.entry.node) i)) (sym here.0) one)
      ]

  numbered' : (j : ℕ) (q : Placed) → slice_get (ps ++ p ∷ []) j ≡ Some q → q.number ≡ j
  numbered' j q e =
      elim (push_at ps p q j e) [
        | inl there ↦ ok.numbered j q there
        | inr here ↦ ap (λ (x : Placed). x.number) here.1 ∙ number ∙ sym here.0
      ]

  pub table_grows : IsTable l' heads'
  table_grows =
      let same = stays.1 in
      record {
        chunks = stays.0;
        distinct = subst (λ qs. AreDistinct (nodes_of (map (λ (x : Placed). x.entry) qs))) (sym same) (subst (λ es. AreDistinct (nodes_of es)) (sym (map-append (λ (x : Placed). x.entry) ps (p ∷ []))) (distinct_entries-push (entries_of l) p.entry ok.distinct new));
        numbered = λ j q e. numbered' j q (ap (λ qs. slice_get qs j) (sym same) ∙ e);
        some = let some = ok.some in omega (arith, some, as_many);
        headed = λ b o e. subst (λ c. LeadsTo l' (target o) (last_in (buckets c (items_of l')) b (length (items_of l')))) (sym as_many)
            (subst (λ qs. LeadsTo l' (target o) (last_in (buckets (length heads) qs) b (length qs))) (sym same) (subst (λ m. LeadsTo l' (target o) (last_in bs' b m)) (sym all) (headed' b o e)));
        linked = λ j q e. subst (λ c. LeadsTo l' (target q.next) (last_in (buckets c (items_of l')) (bucket_of c q.entry.node) j)) (sym as_many)
            (subst (λ qs. LeadsTo l' (target q.next) (last_in (buckets (length heads) qs) (bucket_of (length heads) q.entry.node) j)) (sym same) (linked' j q (ap (λ qs. slice_get qs j) (sym same) ∙ e)));
      }
