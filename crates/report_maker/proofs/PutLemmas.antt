-- Items put at places, one after another.
use Rattle.std.proofs.Common.{◌≡◌, ◌≢◌, ◌∙◌, ◌+◌, ◌<◌, inl, inr, ℕ, List, length, get_or, refl, sym, ap, subst, arith}
use Rattle.std.specs.Prelude.{All, Contains, slice_index, slice_index_or, slice_set}
use Rattle.std.proofs.lemmas.List.{length-set, get_or-set_same, get_or-set_other, get_or_default}
use Rattle.std.proofs.lemmas.Bool.{cases_lt}
use Rattle.std.proofs.lemmas.List.Elements.{Contains-get_or}
use Rattle.group_model.specs.Group.{IsAscending}

-- the first `count` items stand at their places, and nothing else has changed
pub record IsPut {T : Type 0} (places : List ℕ) (items start now : List T) (count : ℕ) : Type 0 where
  pub has : (j : ℕ) (d : T) → j < count → slice_index_or now (slice_index places j) d ≡ slice_index_or items j d
  pub left : (i : ℕ) (d : T) → (Contains places i → ⊥) → slice_index_or now i d ≡ slice_index_or start i d
  pub long : length now ≡ length start

module _ {T : Type 0} (places : List ℕ) (items start : List T) (ascending : IsAscending places) where
  pub none_put : IsPut places items start start 0
  none_put = record { has = λ j d l. absurd (omega arith); left = λ i d not. refl; long = refl }

  -- one item more
  pub one_put_more : (now : List T) (k : ℕ) (x : T) → IsPut places items start now k → k < length places → slice_index places k < length start
      → ((d : T) → x ≡ slice_index_or items k d) → IsPut places items start (slice_set now (slice_index places k) x) (k + 1)
  one_put_more now k x put inside within is = record {
    has = λ j d l. elim (cases_lt j k) [
      | inl earlier ↦ get_or-set_other now (slice_index places k) (slice_index places j) x d (apart j earlier) ∙ put.has j d earlier
      | inr here ↦ (let same : j ≡ k = omega arith in
          subst (λ i. slice_index_or (slice_set now (slice_index places k) x) (slice_index places i) d ≡ slice_index_or items i d) (sym same)
          (get_or-set_same now (slice_index places k) x d (rw put.long within) ∙ is d))
    ];
    left = λ i d not. get_or-set_other now (slice_index places k) i x d (λ e. not (subst (Contains places) (sym e) (Contains-get_or places k 0 inside))) ∙ put.left i d not;
    long = length-set now (slice_index places k) x ∙ put.long;
  }
    where
      apart : (j : ℕ) → j < k → slice_index places j ≢ slice_index places k
      apart j less e = let below : slice_index places j < slice_index places k = ascending j k 0 less inside in omega arith
