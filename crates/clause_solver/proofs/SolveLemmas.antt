-- How the search ends.
use Rattle.std.proofs.Common.{◌≡◌, ℕ, ◌+◌, ◌<◌, ◌≤◌, Bool, true, false, List, [], ◌++◌, refl, sym, ◌∙◌, ap, arith, length, take, map, subst}
use Rattle.std.specs.Prelude.{find, None}
use Rattle.std.proofs.lemmas.List.Elements.{All-contains, All-nil}
use Rattle.gate_net.specs.declared.literals.Lit.{Lit}
use Rattle.gate_net.specs.Lits.{AreNamed}
use Rattle.unit_close.specs.Closing.{Closing, clauses_of}
use Rattle.search_model.specs.Literals.{named}
use Rattle.search_model.specs.Tests.{in_closure, is_conflict, is_open}
use Rattle.search_model.specs.Search.{State, learn, search_end, conflict_count, ends_in_conflict, values_found}
use Rattle.search_model.specs.Model.{AreFilled, IsModel, IsFirstModel, Settles}
use Rattle.search_laws.proofs.LitLemmas.{named_are_literals}
use Rattle.search_laws.proofs.Found.{no_model, first_model_found, conflict_without_model}
use Rattle.clause_solver.specs.Solved.{SameClauses, SameFormula, IsReached, state_of}
use Rattle.clause_solver.proofs.ReachedLemmas.{start_reached, learn_reached, model_is_end, conflict_is_end, reached_front, reached_count}
use Rattle.clause_solver.proofs.LoopLemmas.{Counts}

pub counts_start : (old : Closing) (order decisions : List Lit) → old.learned ≡ [] → decisions ≡ [] → Counts old order 0 old decisions
counts_start old order decisions fresh none =
    let same : state_of old decisions ≡ record { decisions = []; learned = [] } =
    ap (λ (ds : List Lit). state_of old ds) none ∙ ap (λ (k : List (List Lit)). record { decisions = []; learned = k }) fresh in
    record {
      within = subst (AreNamed old.names) (sym none) (All-nil (λ (l : Lit). l.name < old.names));
      kept = record { names = refl; formula = refl };
      reached = subst (IsReached old.formula order) (sym same) (start_reached old.formula order);
      counted = ap length fresh;
    }

-- a formula with an empty clause aside, one without a model ends in a conflict
pub conflict_ends : (clauses : List (List Lit)) (order : List Lit) → Settles named clauses order → AreFilled clauses → ((set : Lit → Bool) → IsModel named clauses set → ⊥) → ends_in_conflict named clauses order ≡ true
conflict_ends clauses order settles filled none =
    conflict_without_model named named_are_literals clauses order settles (λ c at. All-contains (λ (x : List Lit). 0 < length x) clauses c filled at) none

module _ (old : Closing) (order : List Lit) (count : ℕ) (closer : Closing) (decisions : List Lit) (so_far : Counts old order count closer decisions)
    (new : Closing) (later : List Lit) (same : SameClauses closer new) (come : IsReached closer.formula order (state_of new later)) where
  reached : IsReached old.formula order (state_of new later)
  reached = let P : List (List Lit) → Type 0 = λ f. IsReached f order (state_of new later) in subst P so_far.kept.formula come

  pub learned_so_far : new.learned ≡ take (length new.learned) (search_end named old.formula order).learned
  learned_so_far = reached_front old.formula order (state_of new later) reached

  whole : clauses_of closer ≡ old.formula ++ new.learned
  whole = ap (λ (f : List (List Lit)). f ++ closer.learned) so_far.kept.formula ∙ ap (λ (k : List (List Lit)). old.formula ++ k) (sym same.learned)

  whole_new : clauses_of new ≡ old.formula ++ new.learned
  whole_new = ap (λ (f : List (List Lit)). f ++ new.learned) (same.formula ∙ so_far.kept.formula)

  counted : length new.learned ≡ count
  counted = ap length same.learned ∙ so_far.counted

  tested : (b : Bool) → b ≡ is_conflict named (clauses_of closer) later → is_conflict named (old.formula ++ new.learned) later ≡ b
  tested b e = ap (λ (cs : List (List Lit)). is_conflict named cs later) (sym whole) ∙ sym e

  -- without a conflict, and with nothing open
  module _ (calm : false ≡ is_conflict named (clauses_of closer) later) (none : find (is_open named (clauses_of closer) later) order ≡ None) where
    pub model_end : state_of new later ≡ search_end named old.formula order
    model_end = model_is_end old.formula order (state_of new later) (tested false calm) (ap (λ (cs : List (List Lit)). find (is_open named cs later) order) (sym whole) ∙ none) reached

    pub model_count : count ≡ conflict_count named old.formula order
    model_count = sym counted ∙ ap (λ (s : State Lit). length s.learned) model_end

    pub model_learned : new.learned ≡ (search_end named old.formula order).learned
    model_learned = ap (λ (s : State Lit). s.learned) model_end

    pub model_calm : ends_in_conflict named old.formula order ≡ false
    model_calm = ap (λ (s : State Lit). is_conflict named (old.formula ++ s.learned) s.decisions) (sym model_end) ∙ tested false calm

    pub model_values : (values : List Bool) → values ≡ map (in_closure named (clauses_of new) later) order → values ≡ values_found named old.formula order
    model_values values e =
        e ∙ ap (λ (cs : List (List Lit)). map (in_closure named cs later) order) whole_new ∙ ap (λ (s : State Lit). map (in_closure named (old.formula ++ s.learned) s.decisions) order) model_end

    pub model_first : (values : List Bool) → values ≡ map (in_closure named (clauses_of new) later) order → Settles named old.formula order → AreFilled old.formula → IsFirstModel named old.formula order values
    model_first values e settles filled =
        let P : List Bool → Type 0 = λ v. IsFirstModel named old.formula order v in
        subst P (sym (model_values values e)) (first_model_found named named_are_literals old.formula order model_calm settles (λ c at. All-contains (λ (x : List Lit). 0 < length x) old.formula c filled at))

  -- with a conflict
  module _ (conflict : true ≡ is_conflict named (clauses_of closer) later) where
    module _ (none : later ≡ []) where
      pub conflict_end : state_of new later ≡ search_end named old.formula order
      conflict_end = conflict_is_end old.formula order (state_of new later) (tested true conflict) none reached

      pub conflict_count_is : count ≡ conflict_count named old.formula order
      conflict_count_is = sym counted ∙ ap (λ (s : State Lit). length s.learned) conflict_end

      pub conflict_learned : new.learned ≡ (search_end named old.formula order).learned
      conflict_learned = ap (λ (s : State Lit). s.learned) conflict_end

      pub conflict_is : ends_in_conflict named old.formula order ≡ true
      conflict_is = ap (λ (s : State Lit). is_conflict named (old.formula ++ s.learned) s.decisions) (sym conflict_end) ∙ tested true conflict

      pub conflict_no_model : (set : Lit → Bool) → IsModel named old.formula set → ⊥
      conflict_no_model = no_model named named_are_literals old.formula order conflict_is

    -- one more learned clause
    pub counts_more : (next : Closing) (kept : List Lit) → 0 < length later → SameFormula new next → AreNamed next.names kept → length next.learned ≡ length new.learned + 1
        → state_of next kept ≡ learn named new.formula (state_of new later) → Counts old order (count + 1) next kept
    counts_more next kept some stays names one is =
        let formula : new.formula ≡ old.formula = same.formula ∙ so_far.kept.formula in
        let step : state_of next kept ≡ learn named old.formula (state_of new later) = is ∙ ap (λ (f : List (List Lit)). learn named f (state_of new later)) formula in
        let all_names : next.names ≡ old.names = stays.names ∙ same.names ∙ so_far.kept.names in
        record {
          within = (let P : ℕ → Type 0 = λ n. AreNamed n kept in subst P all_names names);
          kept = record { names = all_names; formula = stays.formula ∙ formula };
          reached = subst (IsReached old.formula order) (sym step) (learn_reached old.formula order (state_of new later) (tested true conflict) some reached);
          counted = one ∙ ap (λ n. n + 1) counted;
        }

pub filled_old : (old : Closing) (order : List Lit) (count : ℕ) (closer : Closing) (decisions : List Lit) → Counts old order count closer decisions → AreFilled closer.formula → AreFilled old.formula
filled_old old order count closer decisions so_far filled = let P : List (List Lit) → Type 0 = λ f. AreFilled f in subst P so_far.kept.formula filled

pub spent_count : (old : Closing) (order : List Lit) (count : ℕ) (closer : Closing) (decisions : List Lit) → Counts old order count closer decisions → count ≤ conflict_count named old.formula order
spent_count old order count closer decisions so_far = omega (arith, so_far.counted, reached_count old.formula order (state_of closer decisions) so_far.reached)

pub spent_learned : (old : Closing) (order : List Lit) (count : ℕ) (closer : Closing) (decisions : List Lit) → Counts old order count closer decisions → closer.learned ≡ take (length closer.learned) (search_end named old.formula order).learned
spent_learned old order count closer decisions so_far = reached_front old.formula order (state_of closer decisions) so_far.reached
