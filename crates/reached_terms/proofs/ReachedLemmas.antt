-- The terms under conditions, taken from the highest number down.
use Rattle.std.proofs.Common.{◌≡◌, ℕ, ◌<◌, ◌⊎◌, List, [], ◌∷◌, ◌++◌, length, get_or, subst, sym, ◌∙◌, ap, inl, inr, arith}
use Rattle.std.specs.Prelude.{Contains, AllPairs, Bool, true, false}
use Rattle.std.proofs.lemmas.Bool.{or_left, or_right}
use Rattle.std.proofs.lemmas.List.Elements.{Contains-push_cases, Contains-push, Contains-append_left, Contains-get_or}
use Rattle.std.proofs.lemmas.List.Quantifiers.{all_pairs_push}
use Rattle.term_model.specs.declared.Op.{Op}
use Rattle.term_model.specs.Tree.{Tree, Apply}
use Rattle.term_model.specs.Places.{reads}
use Rattle.term_arena.specs.Trees.{tree_of, IsShared}
use Rattle.reached_terms.specs.Reached.{ReadsWith, IsUnder, OperandsPass, AreReached, AreReachedPast}

-- the terms taken so far, and those that are still to be taken
pub record IsReaching (trees : List Tree) (Known : ℕ → Type 0) (conditions pending terms : List ℕ) : Type 0 where
  pub descending : AllPairs (λ a b. b < a) terms
  pub below : (t u : ℕ) → Contains terms t → Contains pending u → u < t
  pub pending_belong : (t : ℕ) → Contains pending t → t < length trees
  pub belong : (t : ℕ) → Contains terms t → t < length trees
  pub unknown : (t : ℕ) → Contains terms t → Known t → ⊥
  pub starts : (t : ℕ) → Contains conditions t → Known t ⊎ (Contains pending t ⊎ Contains terms t)
  pub closed : (t : ℕ) → Contains terms t → OperandsPass trees (λ u. (u < t) × (Known u ⊎ (Contains pending u ⊎ Contains terms u))) t
  pub pending_under : (t : ℕ) → Contains pending t → (c : ℕ) × Contains conditions c × ReadsWith trees t c
  pub under : (t : ℕ) → Contains terms t → (c : ℕ) × Contains conditions c × ReadsWith trees t c

-- at the start the conditions are to be taken
pub reaching_none : (trees : List Tree) (Known : ℕ → Type 0) (conditions pending : List ℕ) → ((t : ℕ) → Contains conditions t → t < length trees) → ((t : ℕ) → Contains pending t → Contains conditions t) → ((t : ℕ) → Contains conditions t → Contains pending t) → IsReaching trees Known conditions pending []
reaching_none trees Known conditions pending belong from to = record {
  descending = λ i j d l h. absurd (omega arith);
  below = λ t u h. absurd (none t h);
  pending_belong = λ t h. belong t (from t h);
  belong = λ t h. absurd (none t h);
  unknown = λ t h. absurd (none t h);
  starts = λ t h. inr (inl (to t h));
  closed = λ t h. absurd (none t h);
  pending_under = λ t h. (t, from t h, λ i r. r);
  under = λ t h. absurd (none t h);
}
  where
    none : (t : ℕ) → Contains [] t → ⊥
    none t (k, l, e) = omega arith

-- at the end nothing is
pub reached_all : (trees : List Tree) (Known : ℕ → Type 0) (conditions pending terms : List ℕ) → IsReaching trees Known conditions pending terms → ((t : ℕ) → Contains pending t → ⊥) → AreReachedPast trees Known conditions terms
reached_all trees Known conditions pending terms so_far none = record {
  descending = so_far.descending;
  belong = so_far.belong;
  unknown = so_far.unknown;
  starts = λ t h. in_terms t (so_far.starts t h);
  closed = λ t h op x y l m e. let both = so_far.closed t h op x y l m e in ((both.0.0, in_terms x both.0.1), (both.1.0, in_terms y both.1.1));
  under = so_far.under;
}
  where
    in_terms : (t : ℕ) → Known t ⊎ (Contains pending t ⊎ Contains terms t) → Known t ⊎ Contains terms t
    in_terms t (inl k) = inl k
    in_terms t (inr (inl h)) = absurd (none t h)
    in_terms t (inr (inr h)) = inr h

-- where nothing is known, all are reached
pub reached_with_none : (trees : List Tree) (Known : ℕ → Type 0) (conditions terms : List ℕ) → ((t : ℕ) → Known t → ⊥) → AreReachedPast trees Known conditions terms → AreReached trees conditions terms
reached_with_none trees Known conditions terms none past = record {
  descending = past.descending;
  belong = past.belong;
  starts = λ t h. in_terms t (past.starts t h);
  closed = λ t h op x y l m e. let both = past.closed t h op x y l m e in ((both.0.0, in_terms x both.0.1), (both.1.0, in_terms y both.1.1));
  under = past.under;
}
  where
    in_terms : (t : ℕ) → Known t ⊎ Contains terms t → Contains terms t
    in_terms t (inl k) = absurd (none t k)
    in_terms t (inr h) = h

module _ (trees : List Tree) (Known : ℕ → Type 0) (conditions pending terms : List ℕ) (so_far : IsReaching trees Known conditions pending terms) (rest : List ℕ) (t : ℕ) (popped : pending ≡ rest ++ t ∷ []) where
  was : Contains pending t
  was = rw popped (Contains-push rest t)

  rest_was : (u : ℕ) → Contains rest u → Contains pending u
  rest_was u h = rw popped (Contains-append_left rest (t ∷ []) u h)

  -- a term that is known is passed by
  module _ (known : Known t) where
    passed : (u : ℕ) → Known u ⊎ (Contains pending u ⊎ Contains terms u) → Known u ⊎ (Contains rest u ⊎ Contains terms u)
    passed u (inl k) = inl k
    passed u (inr (inl h)) = elim (Contains-push_cases rest t u (rw popped at h)) [
      | inl r ↦ inr (inl r)
      | inr e ↦ inl (subst Known e known)
    ]
    passed u (inr (inr h)) = inr (inr h)

    pub reaching_past : IsReaching trees Known conditions rest terms
    reaching_past = record {
      descending = so_far.descending;
      below = λ v u h a. so_far.below v u h (rest_was u a);
      pending_belong = λ u h. so_far.pending_belong u (rest_was u h);
      belong = so_far.belong;
      unknown = so_far.unknown;
      starts = λ u h. passed u (so_far.starts u h);
      closed = λ u h op x y l m e. let both = so_far.closed u h op x y l m e in ((both.0.0, passed x both.0.1), (both.1.0, passed y both.1.1));
      pending_under = λ u h. so_far.pending_under u (rest_was u h);
      under = so_far.under;
    }

  module _ (new : Known t → ⊥) (lower : (u : ℕ) → Contains rest u → u < t) (after : List ℕ)
      (keeps : (u : ℕ) → Contains rest u → Contains after u) (adds : (u : ℕ) → Contains after u → Contains rest u ⊎ IsUnder trees t u) (operands : OperandsPass trees (Contains after) t) where
    -- what was to be taken or was taken still is
    carried : (u : ℕ) → Known u ⊎ (Contains pending u ⊎ Contains terms u) → Known u ⊎ (Contains after u ⊎ Contains (terms ++ t ∷ []) u)
    carried u (inl k) = inl k
    carried u (inr (inl h)) = elim (Contains-push_cases rest t u (rw popped at h)) [
      | inl r ↦ inr (inl (keeps u r))
      | inr e ↦ inr (inr (rw (← e) (Contains-push terms t)))
    ]
    carried u (inr (inr h)) = inr (inr (Contains-append_left terms (t ∷ []) u h))

    pub after_below : (u : ℕ) → Contains after u → u < t
    after_below u h = elim (adds u h) [ inl r ↦ lower u r | inr under ↦ under.0 ]

    -- one more term is taken
    pub reaching_more : IsReaching trees Known conditions after (terms ++ t ∷ [])
    reaching_more = record {
      descending = all_pairs_push (λ a b. b < a) terms t so_far.descending (λ k d l. so_far.below (get_or terms k d) t (Contains-get_or terms k d l) was);
      below = λ v u h a. elim (Contains-push_cases terms t v h) [
        | inl r ↦ let l : u < t = after_below u a in let m : t < v = so_far.below v t r was in omega arith
        | inr e ↦ let l : u < t = after_below u a in omega (arith, l, e)
      ];
      pending_belong = λ u h. let l : u < t = after_below u h in let m : t < length trees = so_far.pending_belong t was in omega arith;
      belong = λ u h. elim (Contains-push_cases terms t u h) [
        | inl r ↦ so_far.belong u r
        | inr e ↦ let m : t < length trees = so_far.pending_belong t was in omega (arith, m, e)
      ];
      unknown = λ u h k. elim (Contains-push_cases terms t u h) [
        | inl r ↦ so_far.unknown u r k
        | inr e ↦ new (subst Known (sym e) k)
      ];
      starts = λ u h. carried u (so_far.starts u h);
      closed = λ u h. elim (Contains-push_cases terms t u h) as (λ _. OperandsPass trees (λ v. (v < u) × (Known v ⊎ (Contains after v ⊎ Contains (terms ++ t ∷ []) v))) u) [
        | inl r ↦ λ op x y l m e. let both = so_far.closed u r op x y l m e in ((both.0.0, carried x both.0.1), (both.1.0, carried y both.1.1))
        | inr same ↦ λ op x y l m e. let both = operands op x y l m (ap (tree_of trees) same ∙ e) in let low : x < t = after_below x both.0 in let next : y < t = after_below y both.1 in ((omega (arith, low, same), inr (inl both.0)), (omega (arith, next, same), inr (inl both.1)))
      ];
      pending_under = λ u h. elim (adds u h) [
        | inl r ↦ so_far.pending_under u (rest_was u r)
        | inr below ↦ let top = so_far.pending_under t was in (top.0, top.1, λ i r. top.2 i (below.1 i r))
      ];
      under = λ u h. elim (Contains-push_cases terms t u h) [
        | inl r ↦ so_far.under u r
        | inr e ↦ rw (← e) (so_far.pending_under t was)
      ];
    }

-- an operation reads what its operands read
pub operands_under : (trees : List Tree) (t a b : ℕ) (op : Op) → tree_of trees t ≡ Apply op (tree_of trees a) (tree_of trees b) → ReadsWith trees a t × ReadsWith trees b t
operands_under trees t a b op e =
    (λ i r. ap (λ s. reads s i) e ∙ or_left (reads (tree_of trees a) i) (reads (tree_of trees b) i) r, λ i r. ap (λ s. reads s i) e ∙ or_right (reads (tree_of trees a) i) (reads (tree_of trees b) i) r)

-- the operands of an operation are those of its node
pub operands_are : (trees : List Tree) (shared : IsShared trees) (t a b : ℕ) (op : Op) → a < length trees → b < length trees → tree_of trees t ≡ Apply op (tree_of trees a) (tree_of trees b) →
    (P : ℕ → Type 0) → P a → P b → OperandsPass trees P t
operands_are trees shared t a b op l m e P p q other x y x_in y_in f =
    let first : tree_of trees a ≡ tree_of trees x = cc in
    let second : tree_of trees b ≡ tree_of trees y = cc in
    (subst P (shared a x l x_in first) p, subst P (shared b y m y_in second) q)

-- a test that failed
pub not_so : (b r : Bool) → r ≡ b → r ≡ false → b ≡ true → ⊥
not_so b r e h k = let f : false ≡ true = sym h ∙ e ∙ k in cc
