-- Steps that join no other places, and a step that joins two.
use Rattle.std.proofs.Common.{◌≡◌, ◌≢◌, ℕ, ◌+◌, ◌<◌, ◌≤◌, Bool, List, length, sym, ◌∙◌, ap, arith, ⊎_elim}
use Rattle.std.specs.Prelude.{slice_index, slice_set}
use Rattle.std.proofs.lemmas.List.{length-set, get_or-set_same, get_or-set_other}
use Rattle.std.proofs.lemmas.Bool.{cases_eq}
use Rattle.byte_groups.specs.Labels.{AreParents, IsSteadyAlong, JoinTheSame}

pub join_the_same : (parents : List ℕ) → AreParents parents → JoinTheSame parents parents
join_the_same parents p = record { parents = p; later = λ side h. h; before = λ side h. h }

pub join_the_same_then : (old between new : List ℕ) → JoinTheSame old between → JoinTheSame between new → JoinTheSame old new
join_the_same_then old between new f g = record {
  parents = g.parents;
  later = λ side h. g.later side (f.later side h);
  before = λ side h. f.before side (g.before side h);
}

module _ (parents : List ℕ) (is : AreParents parents) (at : ℕ) (within : at < length parents) where
  -- what a list with another place at one has there, and elsewhere
  set_there : (value : ℕ) → slice_index (slice_set parents at value) at ≡ value
  set_there value = get_or-set_same parents at value 0 within

  set_elsewhere : (value k : ℕ) → k ≢ at → slice_index (slice_set parents at value) k ≡ slice_index parents k
  set_elsewhere value k apart = get_or-set_other parents at k value 0 apart

  -- a place may point to one that is not above it
  set_parents : (value : ℕ) → value ≤ at → AreParents (slice_set parents at value)
  set_parents value low k l =
      let in' : k < length parents = omega (arith, length-set parents at value) in
      ⊎_elim
      (λ (e : k ≡ at). rw e (let there : slice_index (slice_set parents at value) at ≡ value = set_there value in omega arith))
      (λ (ne : k ≢ at). let there : slice_index (slice_set parents at value) k ≡ slice_index parents k = set_elsewhere value k ne in let h : slice_index parents k ≤ k = is k in' in omega arith)
      (cases_eq k at)

  -- a test at a place and at that to which a changed list lets it point
  steady_there : (side : ℕ → Bool) (value : ℕ) → side at ≡ side value → side at ≡ side (slice_index (slice_set parents at value) at)
  steady_there side value e = e ∙ ap side (sym (set_there value))

  steady_was : (side : ℕ → Bool) (value : ℕ) → side at ≡ side (slice_index (slice_set parents at value) at) → side at ≡ side value
  steady_was side value e = e ∙ ap side (set_there value)

  -- a changed list keeps a test steady where it is so at the place
  pub set_later : (side : ℕ → Bool) (value : ℕ) → IsSteadyAlong side parents → side at ≡ side value → IsSteadyAlong side (slice_set parents at value)
  set_later side value h e k l =
      let in' : k < length parents = omega (arith, length-set parents at value) in
      ⊎_elim
      (λ (same : k ≡ at). rw same (steady_there side value e))
      (λ (ne : k ≢ at). h k in' ∙ ap side (sym (set_elsewhere value k ne)))
      (cases_eq k at)

  -- and the other way round
  pub set_before : (side : ℕ → Bool) (value : ℕ) → IsSteadyAlong side (slice_set parents at value) → side at ≡ side (slice_index parents at) → IsSteadyAlong side parents
  set_before side value h e k l =
      let in' : k < length (slice_set parents at value) = omega (arith, length-set parents at value) in
      ⊎_elim
      (λ (same : k ≡ at). rw same e)
      (λ (ne : k ≢ at). h k in' ∙ ap side (set_elsewhere value k ne))
      (cases_eq k at)

  -- what a test that is steady along the changed list gives at the place
  pub set_at_place : (side : ℕ → Bool) (value : ℕ) → IsSteadyAlong side (slice_set parents at value) → side at ≡ side value
  set_at_place side value h = steady_was side value (h at (rw length-set within))

  -- a place that points past the one to which it pointed joins the same places
  pub halved : JoinTheSame parents (slice_set parents at (slice_index parents (slice_index parents at)))
  halved =
      let above : ℕ = slice_index parents at in
      let past : ℕ = slice_index parents above in
      let first : above ≤ at = is at within in
      let above_in : above < length parents = omega arith in
      let second : past ≤ above = is above above_in in
      record {
        parents = set_parents past (omega arith);
        later = λ side h. set_later side past h (h at within ∙ h above above_in);
        before = λ side h. set_before side past h (⊎_elim
            (λ (same : slice_index parents at ≡ at). ap side (sym same))
            (λ (ne : slice_index parents at ≢ at). set_at_place side past h ∙ sym (h above (rw length-set above_in) ∙ ap side (set_elsewhere past above ne)))
            (cases_eq (slice_index parents at) at));
      }

  -- places that point to themselves go on to, where the changed one did not
  pub halved_roots : slice_index parents at ≢ at → (k value : ℕ) → slice_index parents k ≡ k → slice_index (slice_set parents at value) k ≡ k
  halved_roots differs k value e =
      ⊎_elim
      (λ (same : k ≡ at). absurd (differs (ap (slice_index parents) (sym same) ∙ (e ∙ same))))
      (λ (ne : k ≢ at). set_elsewhere value k ne ∙ e)
      (cases_eq k at)

  -- a place that pointed to itself now points to a lower one
  pub linked : (low : ℕ) → low ≤ at → AreParents (slice_set parents at low)
  linked low l = set_parents low l

  pub linked_before : slice_index parents at ≡ at → (low : ℕ) (side : ℕ → Bool) → IsSteadyAlong side (slice_set parents at low) → IsSteadyAlong side parents
  linked_before root low side h = set_before side low h (ap side (sym root))

  -- one more place points to a place that points to itself
  pub flat_more : ((k : ℕ) → k < at → slice_index parents (slice_index parents k) ≡ slice_index parents k) → (k : ℕ) → k < at + 1 → slice_index (slice_set parents at (slice_index parents (slice_index parents at))) (slice_index (slice_set parents at (slice_index parents (slice_index parents at))) k) ≡ slice_index (slice_set parents at (slice_index parents (slice_index parents at))) k
  flat_more flat k l =
      let above : ℕ = slice_index parents at in
      let past : ℕ = slice_index parents above in
      let new : List ℕ = slice_set parents at past in
      let first : above ≤ at = is at within in
      let second : past ≤ above = is above (omega arith) in
      let there : slice_index new at ≡ past = set_there past in
      ⊎_elim
      (λ (same : k ≡ at). rw same (ap (slice_index new) there ∙ (⊎_elim
      (λ (e : above ≡ at). let past_is : past ≡ at = ap (slice_index parents) e ∙ e in ap (slice_index new) past_is)
      (λ (ne : above ≢ at). set_elsewhere past past (omega arith) ∙ (flat above (omega arith) ∙ sym there))
      (cases_eq above at))))
      (λ (ne : k ≢ at).
      let here : slice_index new k ≡ slice_index parents k = set_elsewhere past k ne in
      let low : slice_index parents k ≤ k = is k (omega arith) in
      ap (slice_index new) here ∙ (set_elsewhere past (slice_index parents k) (omega arith) ∙ (flat k (omega arith) ∙ sym here)))
      (cases_eq k at)
