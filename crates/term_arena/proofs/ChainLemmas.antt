-- Each chain goes through the nodes of its bucket.
use Rattle.std.proofs.Common.{◌≡◌, ◌≢◌, ℕ, zero, suc, ◌<◌, ◌≤◌, List, [], ◌∷◌, length, refl, sym, ap, ◌∙◌, subst, arith, Option, Some, None, inl, inr, ◌⊎◌}
use Rattle.std.specs.Prelude.{slice_get, get_or, Contains, if◌then◌else◌, ◌↔◌}
use Rattle.std.proofs.lemmas.Bool.Decides.{eqb_tells}
use Rattle.term_arena.specs.declared.chunks.link.Link.{Link}
use Rattle.term_arena.specs.declared.chunks.list.ChunkList.{ChunkList}
use Rattle.term_arena.specs.declared.chunks.link.Placed.{Placed}
use Rattle.term_arena.specs.Chunks.{items_of}
use Rattle.term_arena.specs.Links.{target}
use Rattle.term_arena.specs.Mixing.{bucket_of}
use Rattle.term_arena.specs.Buckets.{buckets, last_in, members, AreFalling, IsChain, LeadsTo, IsTable}
use Rattle.term_arena.proofs.FindLemmas.{last_in-suc, last_in-some, bucket_at}

members-suc : (bs : List ℕ) (b n : ℕ) → ((get_or bs n 0 ≡ b) × (members bs b (suc n) ≡ n ∷ members bs b n)) ⊎ ((get_or bs n 0 ≢ b) × (members bs b (suc n) ≡ members bs b n))
members-suc bs b n =
    elim (eqb_tells (get_or bs n 0) b) [
      | inl e ↦ inl (e.1, ap (λ t. if t then n ∷ members bs b n else members bs b n) e.0)
      | inr e ↦ inr (e.1, ap (λ t. if t then n ∷ members bs b n else members bs b n) e.0)
    ]

-- they begin with the last number of the bucket
members-some : (bs : List ℕ) (b n m : ℕ) → last_in bs b n ≡ Some m → members bs b n ≡ m ∷ members bs b m
members-some bs b zero m e = cc
members-some bs b (suc n) m e =
    elim (last_in-suc bs b n) [
      | inl here ↦ elim (members-suc bs b n) [
        | inl there ↦ let same : n ≡ m = let found = here.1 in cc in there.1 ∙ ap (λ k. k ∷ members bs b k) same
        | inr other ↦ absurd (other.0 here.0)
      ]
      | inr here ↦ elim (members-suc bs b n) [
        | inl there ↦ absurd (here.0 there.0)
        | inr other ↦ other.1 ∙ members-some bs b n m (sym here.1 ∙ e)
      ]
    ]

members-none : (bs : List ℕ) (b n : ℕ) → last_in bs b n ≡ None → members bs b n ≡ []
members-none bs b zero e = refl
members-none bs b (suc n) e =
    elim (last_in-suc bs b n) [
      | inl here ↦ let found = here.1 in cc
      | inr here ↦ elim (members-suc bs b n) [
        | inl there ↦ absurd (here.0 there.0)
        | inr other ↦ other.1 ∙ members-none bs b n (sym here.1 ∙ e)
      ]
    ]

module _ (list : ChunkList Placed) (heads : List Link) (ok : IsTable list heads) (b : ℕ) where
  abbrev numbers : List ℕ
  numbers = buckets (length heads) (items_of list)

  chain_from : (fuel n : ℕ) → n ≤ fuel → (o : Option Link) (t : Option ℕ) → last_in numbers b n ≡ t → LeadsTo list o t → IsChain list o (members numbers b n)
  chain_from fuel n le None None e h = subst (IsChain list None) (sym (members-none numbers b n e)) tt
  chain_from zero n le (Some k) (Some m) e h = let below = (last_in-some numbers b n m e).0 in absurd (omega arith)
  chain_from (suc fuel) n le (Some k) (Some m) e h =
      let last = last_in-some numbers b n m e in let below = last.0 in
      subst (IsChain list (Some k)) (sym (members-some numbers b n m e)) (
        h,
        λ p at.
            let own : bucket_of (length heads) p.entry.node ≡ b = sym (bucket_at (length heads) (items_of list) m p at) ∙ last.1 in
            chain_from fuel m (omega arith) (target p.next) (last_in numbers b m) refl (subst (λ c. LeadsTo list (target p.next) (last_in numbers c m)) own (ok.linked m p at)),
      )
  chain_from fuel n le None (Some m) e h = absurd h
  chain_from fuel n le (Some k) None e h = absurd h

  pub chain_of_bucket : (head : Link) → slice_get heads b ≡ Some head → IsChain list (target head) (members numbers b (length (items_of list)))
  chain_of_bucket head e = chain_from (length (items_of list)) (length (items_of list)) (omega arith) (target head) (last_in numbers b (length (items_of list))) refl (ok.headed b head e)

cons-in : (x : ℕ) (xs : List ℕ) (k : ℕ) → Contains (x ∷ xs) k → (x ≡ k) ⊎ Contains xs k
cons-in x xs k (zero, lt, e) = inl e
cons-in x xs k (suc i, lt, e) = inr (i, omega arith, e)

cons-here : (x : ℕ) (xs : List ℕ) → Contains (x ∷ xs) x
cons-here x xs = (0, omega arith, refl)

cons-there : (x : ℕ) (xs : List ℕ) (k : ℕ) → Contains xs k → Contains (x ∷ xs) k
cons-there x xs k at = let lt = at.1 in (suc at.0, omega arith, at.2)

members-in : (bs : List ℕ) (b n k : ℕ) → Contains (members bs b n) k → (k < n) × (get_or bs k 0 ≡ b)
members-in bs b zero k at = let lt = at.1 in absurd (omega arith)
members-in bs b (suc n) k at =
    elim (members-suc bs b n) [
      | inl here ↦ elim (cons-in n (members bs b n) k (subst (λ ns. Contains ns k) here.1 at)) [
        | inl same ↦ (omega arith, subst (λ j. get_or bs j 0 ≡ b) same here.0)
        | inr rest ↦ let low = members-in bs b n k rest in let below = low.0 in (omega arith, low.1)
      ]
      | inr other ↦ let low = members-in bs b n k (subst (λ ns. Contains ns k) other.1 at) in let below = low.0 in (omega arith, low.1)
    ]

members-has : (bs : List ℕ) (b n k : ℕ) → k < n → get_or bs k 0 ≡ b → Contains (members bs b n) k
members-has bs b zero k lt e = absurd (omega arith)
members-has bs b (suc n) k lt e =
    elim (eqb_tells k n) [
      | inl same ↦ elim (members-suc bs b n) [
        | inl here ↦ subst (λ ns. Contains ns k) (sym here.1) (subst (λ j. Contains (n ∷ members bs b n) j) (sym same.1) (cons-here n (members bs b n)))
        | inr other ↦ absurd (other.0 (subst (λ j. get_or bs j 0 ≡ b) same.1 e))
      ]
      | inr apart ↦
          let differ = apart.1 in
          let rest = members-has bs b n k (omega arith) e in
          elim (members-suc bs b n) [
            | inl here ↦ subst (λ ns. Contains ns k) (sym here.1) (cons-there n (members bs b n) k rest)
            | inr other ↦ subst (λ ns. Contains ns k) (sym other.1) rest
          ]
    ]

pub members_are : (bs : List ℕ) (b n k : ℕ) → Contains (members bs b n) k ↔ ((k < n) × (get_or bs k 0 ≡ b))
members_are bs b n k = (members-in bs b n k, λ h. members-has bs b n k h.0 h.1)

pub members_fall : (bs : List ℕ) (b n : ℕ) → AreFalling (members bs b n)
members_fall bs b zero = tt
members_fall bs b (suc n) =
    elim (members-suc bs b n) [
      | inl here ↦ subst AreFalling (sym here.1) ((λ k at. (members-in bs b n k at).0), members_fall bs b n)
      | inr other ↦ subst AreFalling (sym other.1) (members_fall bs b n)
    ]
