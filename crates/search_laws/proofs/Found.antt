-- What the end of the search tells of the models.
use Rattle.std.proofs.Common.{◌≡◌, ◌^◌, ◌<◌, ◌≤◌, Bool, true, false, List, [], ◌∷◌, ◌++◌, refl, sym, ◌∙◌, ap, inl, inr, arith, length, map, subst}
use Rattle.std.specs.Prelude.{Contains, ◌↔◌, not, ◌&&◌, ◌||◌, if◌then◌else◌}
use Rattle.std.specs.List.{AllByRecursion}
use Rattle.std.proofs.lemmas.List.Elements.{Contains-append_left}
use Rattle.search_model.specs.Literals.{Literals, AreLiterals}
use Rattle.search_model.specs.Closure.{IsInClosure, IsConflict, IsSettled}
use Rattle.search_model.specs.Tests.{in_closure}
use Rattle.search_model.specs.Search.{State, search_end, conflict_count, ends_in_conflict, values_found}
use Rattle.search_model.specs.Model.{IsModel, IsFirstModel, Settles, signed}
use Rattle.search_laws.proofs.ListLemmas.{bool_cases, no_element, Contains-cons_cases}
use Rattle.search_laws.proofs.TestLemmas.{in_is, is_in, conflict_is, is_conflicting, calm_is, is_calm}
use Rattle.search_model.specs.Turns.{EndsInModel, EndsUnsatisfiable}
use Rattle.search_laws.proofs.Steps.{IsRead}
use Rattle.search_laws.proofs.Implied.{unsatisfiable_no_model}
use Rattle.search_laws.proofs.Bounds.{conflicts_bound, conflicts_with_model}
use Rattle.search_laws.proofs.First.{found_first, found_is_model}
use Rattle.search_laws.proofs.After.{turn_none, end_stops, end_comes}

module _ {L : Type 0} (lits : Literals L) (laws : AreLiterals lits) where
  -- a sign where the closure has it, and else the literal's own
  sign_of : Bool → Bool → Bool → Bool
  sign_of is isnt positive = is || (not isnt && positive)

  sign_not : (is isnt positive : Bool) → (is ≡ true → isnt ≡ true → ⊥) → sign_of isnt is (not positive) ≡ not (sign_of is isnt positive)
  unfolding sign_of
  sign_not true true p calm = absurd (calm refl refl)
  sign_not true false p calm = refl
  sign_not false true p calm = refl
  sign_not false false true calm = refl
  sign_not false false false calm = refl

  sign_true : (is isnt positive : Bool) → is ≡ true → sign_of is isnt positive ≡ true
  unfolding sign_of
  sign_true true isnt p e = refl
  sign_true false isnt p e = cc

  sign_false : (is isnt positive : Bool) → is ≡ false → isnt ≡ true → sign_of is isnt positive ≡ false
  unfolding sign_of
  sign_false true isnt p e f = cc
  sign_false false true p e f = refl
  sign_false false false p e f = cc

  -- a closure without conflict, filled up to a sign for each name
  module _ (clauses : List (List L)) (decisions : List L) (calm : IsConflict lits clauses decisions → ⊥) where
    pub filled : L → Bool
    filled l = sign_of (in_closure lits clauses decisions l) (in_closure lits clauses decisions (lits.negation l)) (lits.positive l)

    pub filled_one : (l : L) → filled (lits.negation l) ≡ not (filled l)
    unfolding filled
    filled_one l =
        let same : in_closure lits clauses decisions (lits.negation (lits.negation l)) ≡ in_closure lits clauses decisions l = ap (in_closure lits clauses decisions) (laws.twice l) in
        ap (λ b. sign_of (in_closure lits clauses decisions (lits.negation l)) b (lits.positive (lits.negation l))) same
        ∙ ap (λ p. sign_of (in_closure lits clauses decisions (lits.negation l)) (in_closure lits clauses decisions l) p) (laws.other l)
        ∙ sign_not (in_closure lits clauses decisions l) (in_closure lits clauses decisions (lits.negation l)) (lits.positive l)
        (λ e f. calm (l, in_is lits laws clauses decisions l e, in_is lits laws clauses decisions (lits.negation l) f))

    pub filled_read : IsRead lits laws clauses decisions filled
    unfolding filled
    filled_read = record {
      has = λ l here. sign_true (in_closure lits clauses decisions l) (in_closure lits clauses decisions (lits.negation l)) (lits.positive l) (is_in lits laws clauses decisions l here);
      lacks = λ l other. sign_false (in_closure lits clauses decisions l) (in_closure lits clauses decisions (lits.negation l)) (lits.positive l)
          (elim (bool_cases (in_closure lits clauses decisions l)) [
            | inl e ↦ absurd (calm (l, in_is lits laws clauses decisions l e, other))
            | inr e ↦ e
          ])
          (is_in lits laws clauses decisions (lits.negation l) other);
    }

    pub filled_values : (order : List L) → AllByRecursion (IsSettled lits clauses decisions) order → map (in_closure lits clauses decisions) order ≡ map filled order
    filled_values [] settled = refl
    filled_values (o ∷ os) (inl here, rest) =
        let same : in_closure lits clauses decisions o ≡ filled o = is_in lits laws clauses decisions o here ∙ sym (filled_read.has o here) in
        ap (λ b. b ∷ map (in_closure lits clauses decisions) os) same ∙ ap (λ (bs : List Bool). filled o ∷ bs) (filled_values os rest)
    filled_values (o ∷ os) (inr other, rest) =
        let is_false : in_closure lits clauses decisions o ≡ false = elim (bool_cases (in_closure lits clauses decisions o)) [
          | inl e ↦ absurd (calm (o, in_is lits laws clauses decisions o e, other))
          | inr e ↦ e
        ] in
        let same : in_closure lits clauses decisions o ≡ filled o = is_false ∙ sym (filled_read.lacks o other) in
        ap (λ b. b ∷ map (in_closure lits clauses decisions) os) same ∙ ap (λ (bs : List Bool). filled o ∷ bs) (filled_values os rest)

  -- A closure that has the decisions and the clauses of another has all of it.
  pub closure_within : (clauses : List (List L)) (decisions : List L) (clauses' : List (List L)) (decisions' : List L)
      → ((c : List L) → Contains clauses c → Contains clauses' c) → ((d : L) → Contains decisions d → IsInClosure lits clauses' decisions' d)
      → (l : L) → IsInClosure lits clauses decisions l → IsInClosure lits clauses' decisions' l
  closure_within clauses decisions clauses' decisions' more has l here =
      λ set closed. here set (record { decided = λ d at. has d at set closed; each = λ c at. closed.each c (more c at) })

  -- Where each literal of the order is settled, so is each literal of clauses that the order settles.
  module _ (clauses more : List (List L)) (decisions order : List L) (calm : IsConflict lits (clauses ++ more) decisions → ⊥) where
    abbrev whole : List (List L)
    whole = clauses ++ more

    abbrev read : L → Bool
    read = filled whole decisions calm

    read_in : (o : L) → IsSettled lits whole decisions o → IsInClosure lits whole decisions (if read o then o else lits.negation o)
    read_in o (inl here) =
        let e : read o ≡ true = (filled_read whole decisions calm).has o here in
        let P : Bool → Type 0 = λ b. IsInClosure lits whole decisions (if b then o else lits.negation o) in
        subst P (sym e) here
    read_in o (inr there) =
        let e : read o ≡ false = (filled_read whole decisions calm).lacks o there in
        let P : Bool → Type 0 = λ b. IsInClosure lits whole decisions (if b then o else lits.negation o) in
        subst P (sym e) there

    signed_in : (os : List L) → AllByRecursion (IsSettled lits whole decisions) os → (d : L) → Contains (signed lits read os) d → IsInClosure lits whole decisions d
    signed_in [] settled d at = absurd (no_element d at)
    signed_in (o ∷ os) (here, rest) d at = elim (Contains-cons_cases (if read o then o else lits.negation o) (signed lits read os) d at) [
      | inl is ↦ subst (IsInClosure lits whole decisions) is (read_in o here)
      | inr later ↦ signed_in os rest d later
    ]

    pub settled_under : Settles lits clauses order → AllByRecursion (IsSettled lits whole decisions) order → (c : List L) → Contains clauses c → (l : L) → Contains c l → IsSettled lits whole decisions l
    settled_under settles settled c at l here =
        let within : (x : L) → IsInClosure lits clauses (signed lits read order) x → IsInClosure lits whole decisions x =
        closure_within clauses (signed lits read order) whole decisions (λ k there. Contains-append_left clauses more k there) (signed_in order settled) in
        elim (settles read (filled_one whole decisions calm) c l at here) [
          | inl is ↦ inl (within l is)
          | inr is ↦ inr (within (lits.negation l) is)
        ]

  module _ (clauses : List (List L)) (order : List L) where
    ends_how : (ends_in_conflict lits clauses order ≡ true → EndsUnsatisfiable lits clauses order (search_end lits clauses order)) × (ends_in_conflict lits clauses order ≡ false → EndsInModel lits clauses order (search_end lits clauses order))
    ends_how = elim (turn_none lits laws clauses order (search_end lits clauses order) (end_stops lits laws clauses order)) [
      | inl model ↦ ((λ e. absurd (model.calm (conflict_is lits laws (clauses ++ (search_end lits clauses order).learned) (search_end lits clauses order).decisions e))), λ e. model)
      | inr none ↦ ((λ e. none), λ e. absurd (calm_is lits laws (clauses ++ (search_end lits clauses order).learned) (search_end lits clauses order).decisions e none.conflict))
    ]

    pub model_end : (ends_in_conflict lits clauses order ≡ false) ↔ EndsInModel lits clauses order (search_end lits clauses order)
    model_end = (
      ends_how.1,
      λ model. is_calm lits laws (clauses ++ (search_end lits clauses order).learned) (search_end lits clauses order).decisions model.calm,
    )

    pub unsatisfiable_end : (ends_in_conflict lits clauses order ≡ true) ↔ EndsUnsatisfiable lits clauses order (search_end lits clauses order)
    unsatisfiable_end = (
      ends_how.0,
      λ none. is_conflicting lits laws (clauses ++ (search_end lits clauses order).learned) (search_end lits clauses order).decisions none.conflict,
    )

    -- Where the search ends in a conflict there is no model.
    pub no_model : ends_in_conflict lits clauses order ≡ true → (set : L → Bool) → IsModel lits clauses set → ⊥
    no_model e set model = unsatisfiable_no_model lits laws clauses order set model (search_end lits clauses order) (end_comes lits laws clauses order) (ends_how.0 e)

    -- Else it ends in the first model.
    pub first_model_found : ends_in_conflict lits clauses order ≡ false → Settles lits clauses order → ((c : List L) → Contains clauses c → 0 < length c) → IsFirstModel lits clauses order (values_found lits clauses order)
    first_model_found e settles some =
        let s : State L = search_end lits clauses order in
        let model : EndsInModel lits clauses order s = ends_how.1 e in
        let set : L → Bool = filled (clauses ++ s.learned) s.decisions model.calm in
        let read : IsRead lits laws (clauses ++ s.learned) s.decisions set = filled_read (clauses ++ s.learned) s.decisions model.calm in
        record {
          set = set;
          model = found_is_model lits laws clauses s.learned s.decisions set read (settled_under clauses s.learned s.decisions order model.calm settles model.settled) (filled_one (clauses ++ s.learned) s.decisions model.calm) some;
          reads = filled_values (clauses ++ s.learned) s.decisions model.calm order model.settled;
          first = λ other is. found_first lits laws clauses order s set other (end_comes lits laws clauses order) model read is;
        }

    -- a formula that has no model ends in a conflict
    pub conflict_without_model : Settles lits clauses order → ((c : List L) → Contains clauses c → 0 < length c) → ((set : L → Bool) → IsModel lits clauses set → ⊥) → ends_in_conflict lits clauses order ≡ true
    conflict_without_model settles some none = elim (bool_cases (ends_in_conflict lits clauses order)) [
      | inl e ↦ e
      | inr e ↦ let found = first_model_found e settles some in absurd (none found.set found.model)
    ]

    pub count_bound : conflict_count lits clauses order ≤ 2 ^ length order
    count_bound = elim (conflicts_bound lits laws clauses order (search_end lits clauses order) (end_comes lits laws clauses order)) [
      | inl lt ↦ omega (arith, lt)
      | inr h ↦ h.1
    ]

    pub count_with_model : (set : L → Bool) → IsModel lits clauses set → conflict_count lits clauses order < 2 ^ length order
    count_with_model set model = conflicts_with_model lits laws clauses order set model (search_end lits clauses order) (end_comes lits laws clauses order)
