-- A chain is followed to its end.
use Rattle.std.proofs.Common.{◌≡◌, ◌≢◌, ℕ, zero, suc, ◌<◌, ◌≤◌, List, length, refl, sym, ap, ◌∙◌, subst, arith, Option, Some, None, inl, inr, ◌⊎◌}
use lib.Dec.{lit<}
use denote.RawPtr.{Ptr, block_ptr, null_ptr, Testable}
use Rattle.std.specs.Prelude.{slice_get, get_or, if◌then◌else◌}
use Rattle.std.specs.Option.{option_map}
use Rattle.std.proofs.lemmas.Option.{slice_get_within, slice_get-map, get_or_from_slice_get}
use Rattle.std.proofs.lemmas.Bool.Decides.{eqb_tells}
use Rattle.term_arena.specs.declared.nodes.Node.{Node}
use Rattle.term_arena.specs.declared.entries.Entry.{Entry}
use Rattle.term_arena.specs.declared.chunks.link.Link.{Link}
use Rattle.term_arena.specs.declared.chunks.list.ChunkList.{ChunkList}
use Rattle.term_arena.specs.declared.chunks.link.Placed.{Placed}
use Rattle.term_arena.specs.contracts.chunks.link.Placed.{the_row}
use Rattle.term_arena.specs.Chunks.{items_of, IsLinkTo}
use Rattle.term_arena.specs.Entries.{IsAbsent, IsFound}
use Rattle.term_arena.specs.Links.{target, link_at}
use Rattle.term_arena.specs.Mixing.{bucket_of}
use Rattle.term_arena.specs.Buckets.{entries_of, buckets, last_in, LeadsTo, IsTable}

pub last_in-suc : (bs : List ℕ) (b n : ℕ) → ((get_or bs n 0 ≡ b) × (last_in bs b (suc n) ≡ Some n)) ⊎ ((get_or bs n 0 ≢ b) × (last_in bs b (suc n) ≡ last_in bs b n))
last_in-suc bs b n =
    elim (eqb_tells (get_or bs n 0) b) [
      | inl e ↦ inl (e.1, ap (λ t. if t then Some n else last_in bs b n) e.0)
      | inr e ↦ inr (e.1, ap (λ t. if t then Some n else last_in bs b n) e.0)
    ]

-- no number below n is in the bucket
pub last_in-none : (bs : List ℕ) (b n : ℕ) → last_in bs b n ≡ None → (k : ℕ) → k < n → get_or bs k 0 ≢ b
last_in-none bs b zero e k lt = absurd (omega arith)
last_in-none bs b (suc n) e k lt =
    elim (last_in-suc bs b n) [
      | inl here ↦ let found = here.1 in cc
      | inr other ↦ elim (eqb_tells k n) [
        | inl same ↦ subst (λ m. get_or bs m 0 ≢ b) (sym same.1) other.0
        | inr apart ↦ let differ = apart.1 in last_in-none bs b n (sym other.1 ∙ e) k (omega arith)
      ]
    ]

-- the last one is, and none after it
pub last_in-some : (bs : List ℕ) (b n m : ℕ) → last_in bs b n ≡ Some m → (m < n) × (get_or bs m 0 ≡ b) × ((k : ℕ) → m < k → k < n → get_or bs k 0 ≢ b)
last_in-some bs b zero m e = cc
last_in-some bs b (suc n) m e =
    elim (last_in-suc bs b n) [
      | inl here ↦
          let same : n ≡ m = let found = here.1 in cc in
          (omega arith, subst (λ j. get_or bs j 0 ≡ b) same here.0, λ k after before. absurd (omega arith))
      | inr other ↦
          let rest = last_in-some bs b n m (sym other.1 ∙ e) in let below = rest.0 in (
            omega arith,
            rest.1,
            λ k after before. elim (eqb_tells k n) [
              | inl same ↦ subst (λ j. get_or bs j 0 ≢ b) (sym same.1) other.0
              | inr apart ↦ let differ = apart.1 in rest.2 k after (omega arith)
            ],
          )
    ]

-- the bucket of a node in the list
pub bucket_at : (count : ℕ) (ps : List Placed) (k : ℕ) (p : Placed) → slice_get ps k ≡ Some p → get_or (buckets count ps) k 0 ≡ bucket_of count p.entry.node
bucket_at count ps k p e =
    let f = λ (q : Placed). bucket_of count q.entry.node in
    get_or_from_slice_get (buckets count ps) k (f p) 0 (slice_get-map f ps k ∙ ap (option_map f) e)

-- what is no value is none
pub none_of : {X : Type 0} (o : Option X) → ((x : X) → o ≢ Some x) → o ≡ None
none_of (Some x) h = absurd (h x refl)
none_of None h = refl

-- what is left to be looked at
abbrev pub bound : Option Link → ℕ
bound None = 0
bound (Some k) = suc k.number

-- the nodes from the bound on were looked at, and the link leads to one of the bucket
pub record IsLooking (list : ChunkList Placed) (count : ℕ) (n : Node) (o : Option Link) : Type 0 where
  pub leads : (k : Link) → o ≡ Some k → IsLinkTo the_row list k.number k × (get_or (buckets count (items_of list)) k.number 0 ≡ bucket_of count n)
  pub past : (k : ℕ) (p : Placed) → bound o ≤ k → slice_get (items_of list) k ≡ Some p → p.entry.node ≢ n

module _ (list : ChunkList Placed) (count : ℕ) (n : Node) where
  abbrev bs : List ℕ
  bs = buckets count (items_of list)

  abbrev b : ℕ
  b = bucket_of count n

  other_bucket : (k : ℕ) (p : Placed) → slice_get (items_of list) k ≡ Some p → get_or bs k 0 ≢ b → p.entry.node ≢ n
  other_bucket k p e apart same = apart (bucket_at count (items_of list) k p e ∙ ap (bucket_of count) same)

  -- a link that leads to the last node of the bucket below m
  looks_from : (o : Option Link) (m : ℕ) (t : Option ℕ) → last_in bs b m ≡ t → LeadsTo list o t → ((k : ℕ) (p : Placed) → m ≤ k → slice_get (items_of list) k ≡ Some p → p.entry.node ≢ n)
      → IsLooking list count n o × (bound o ≤ m)
  looks_from None m None e h past = (
    record {
      leads = λ k same. cc;
      past = λ k p _ at. elim (split k m) [
        | inl lt ↦ other_bucket k p at (last_in-none bs b m e k lt)
        | inr ge ↦ past k p ge at
      ];
    },
    omega arith,
  )
    where
      split : (i j : ℕ) → (i < j) ⊎ (j ≤ i)
      split i zero = inr (omega arith)
      split zero (suc j) = inl (omega arith)
      split (suc i) (suc j) = elim (split i j) [ inl lt ↦ inl (omega arith) | inr ge ↦ inr (omega arith) ]
  looks_from (Some l) m (Some j) e h past =
      let last = last_in-some bs b m j e in let number = h.1 in let below = last.0 in (
        record {
          leads = λ k same. let is : l ≡ k = cc in subst (λ (x : Link). IsLinkTo the_row list x.number x × (get_or bs x.number 0 ≡ b)) is
              ((rw number h.0, refl, rw number h.2), ap (λ i. get_or bs i 0) number ∙ last.1);
          past = λ k p from at. elim (split k m) [
            | inl lt ↦ other_bucket k p at (last.2 k (omega arith) lt)
            | inr ge ↦ past k p ge at
          ];
        },
        omega arith,
      )
    where
      split : (i j : ℕ) → (i < j) ⊎ (j ≤ i)
      split i zero = inr (omega arith)
      split zero (suc j) = inl (omega arith)
      split (suc i) (suc j) = elim (split i j) [ inl lt ↦ inl (omega arith) | inr ge ↦ inr (omega arith) ]
  looks_from None m (Some j) e h past = absurd h
  looks_from (Some l) m None e h past = absurd h

  -- the head of the bucket
  pub looks_at_head : (heads : List Link) (k : Link) → count ≡ length heads → IsTable list heads → slice_get heads b ≡ Some k → IsLooking list count n (target k)
  looks_at_head heads k many ok e =
      let leads : LeadsTo list (target k) (last_in bs b (length (items_of list))) = subst (λ c. LeadsTo list (target k) (last_in (buckets c (items_of list)) b (length (items_of list)))) (sym many) (ok.headed b k e) in
      (looks_from (target k) (length (items_of list)) (last_in bs b (length (items_of list))) refl leads (λ k p past at. absurd (omega (arith, slice_get_within (items_of list) k p at)))).0

  -- the next link
  pub looks_on : (heads : List Link) (l : Link) (p : Placed) → count ≡ length heads → IsTable list heads → IsLooking list count n (Some l) → slice_get (items_of list) l.number ≡ Some p → p.entry.node ≢ n
      → IsLooking list count n (target p.next) × (bound (target p.next) < bound (Some l))
  looks_on heads l p many ok looking at differs =
      let own : bucket_of count p.entry.node ≡ b = sym (bucket_at count (items_of list) l.number p at) ∙ (looking.leads l refl).1 in
      let leads : LeadsTo list (target p.next) (last_in bs b l.number) =
      subst (λ i. LeadsTo list (target p.next) (last_in bs i l.number)) own (subst (λ c. LeadsTo list (target p.next) (last_in (buckets c (items_of list)) (bucket_of c p.entry.node) l.number)) (sym many) (ok.linked l.number p at)) in
      let on = looks_from (target p.next) l.number (last_in bs b l.number) refl leads (λ k q from there. elim (eqb_tells k l.number) [
        | inl same ↦ let is : p ≡ q = (let one : slice_get (items_of list) l.number ≡ Some q = subst (λ i. slice_get (items_of list) i ≡ Some q) same.1 there in cc) in subst (λ (x : Placed). x.entry.node ≢ n) is differs
        | inr apart ↦ let differ = apart.1 in looking.past k q (omega arith) there
      ]) in
      let less = on.1 in (on.0, omega arith)

  -- the end of the chain
  pub looked_at_all : IsLooking list count n None → IsAbsent (entries_of list) n
  looked_at_all looking k e at = go (slice_get (items_of list) k) refl
    where
      go : (o : Option Placed) → slice_get (items_of list) k ≡ o → e.node ≢ n
      go (Some p) here =
          let same : Some p.entry ≡ Some e = ap (option_map (λ (q : Placed). q.entry)) (sym here) ∙ sym (slice_get-map (λ (q : Placed). q.entry) (items_of list) k) ∙ at in
          let is : p.entry ≡ e = cc in
          subst (λ (x : Entry). x.node ≢ n) is (looking.past k p (omega arith) here)
      go None here =
          let none : None ≡ Some e = ap (option_map (λ (q : Placed). q.entry)) (sym here) ∙ sym (slice_get-map (λ (q : Placed). q.entry) (items_of list) k) ∙ at in
          cc

  -- a node that is found
  pub found_at : (heads : List Link) (k : ℕ) (p : Placed) → IsTable list heads → slice_get (items_of list) k ≡ Some p → p.entry.node ≡ n → IsFound (entries_of list) n p.number
  found_at heads k p ok at same =
      let number = ok.numbered k p at in
      (p.entry, ap (slice_get (entries_of list)) number ∙ slice_get-map (λ (q : Placed). q.entry) (items_of list) k ∙ ap (option_map (λ (q : Placed). q.entry)) at, same)

testable_at : (p : Ptr) (k : Link) → (link_at p k ≡ Some k → Testable p) → Testable p
testable_at (block_ptr b o) k h = h refl
testable_at null_ptr k h = lit< tt

-- null may be compared with null
pub testable_by : (k : Link) → (target k ≡ Some k → Testable k.place) → Testable k.place
testable_by k = testable_at k.place k
