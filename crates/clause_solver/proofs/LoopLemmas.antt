-- What the loops of the search keep.
use Rattle.std.proofs.Common.{◌≡◌, ℕ, ◌+◌, ◌<◌, Bool, true, false, List, [], ◌∷◌, ◌++◌, refl, sym, ◌∙◌, ap, arith, length, take, get_or, subst}
use Rattle.std.specs.Prelude.{Contains}
use Rattle.std.proofs.lemmas.List.Elements.{All-push}
use Rattle.gate_net.specs.declared.literals.Lit.{Lit}
use Rattle.gate_net.specs.Lits.{AreNamed}
use Rattle.unit_close.specs.Closing.{Closing, clauses_of}
use Rattle.unit_close.specs.Values.{IsClosure}
use Rattle.search_model.specs.Literals.{named}
use Rattle.search_model.specs.Tests.{is_conflict, is_open}
use Rattle.search_model.specs.Search.{decide}
use Rattle.clause_solver.specs.Solved.{SameClauses, SameFormula, IsReached, state_of}
use Rattle.clause_solver.proofs.ReachedLemmas.{same_clauses, same_state, then_same, decide_reached, settled_decided, settled_more}

-- the descent has come to literal i of the order
pub record Descends (old : Closing) (order : List Lit) (i : ℕ) (closer : Closing) (decisions : List Lit) (conflict : Bool) : Type 0 where
  pub within : AreNamed old.names decisions
  pub kept : SameClauses old closer
  pub reached : IsReached old.formula order (state_of closer decisions)
  pub tested : conflict ≡ is_conflict named (clauses_of old) decisions
  pub closure : conflict ≡ false → IsClosure (clauses_of closer) decisions closer.values
  pub settled : (x : Lit) → Contains (take i order) x → is_open named (clauses_of old) decisions x ≡ false

module _ (old : Closing) (order : List Lit) (i : ℕ) (closer : Closing) (decisions : List Lit) (conflict : Bool) (d : Lit) (inside : i < length order) (calm : conflict ≡ false) (so_far : Descends old order i closer decisions conflict) where
  abbrev at : Lit
  at = get_or order i d

  by_start : (b : Bool) → b ≡ is_open named (clauses_of closer) decisions at → is_open named (clauses_of old) decisions at ≡ b
  by_start b e = ap (λ (cs : List (List Lit)). is_open named cs decisions at) (sym (same_clauses old closer so_far.kept)) ∙ sym e

  pub descends_on : false ≡ is_open named (clauses_of closer) decisions at → Descends old order (i + 1) closer decisions conflict
  descends_on e = record {
    within = so_far.within;
    kept = so_far.kept;
    reached = so_far.reached;
    tested = so_far.tested;
    closure = so_far.closure;
    settled = settled_more (clauses_of old) decisions order i d inside (by_start false e) so_far.settled;
  }

  pub descends_by : (new : Closing) (conflict' : Bool) → AreNamed old.names order → true ≡ is_open named (clauses_of closer) decisions at → SameClauses closer new
      → conflict' ≡ is_conflict named (clauses_of closer) (decisions ++ at ∷ []) → (conflict' ≡ false → IsClosure (clauses_of new) (decisions ++ at ∷ []) new.values)
      → Descends old order (i + 1) new (decisions ++ at ∷ []) conflict'
  descends_by new conflict' names e same tested closure =
      let calm_here : is_conflict named (clauses_of old) decisions ≡ false = sym so_far.tested ∙ calm in
      let old_state : state_of closer decisions ≡ state_of old decisions = same_state old closer decisions so_far.kept.learned in
      let reached_old : IsReached old.formula order (state_of old decisions) = subst (IsReached old.formula order) old_state so_far.reached in
      let reached_next : IsReached old.formula order (decide (state_of old decisions) at) =
      decide_reached old.formula order (state_of old decisions) i d calm_here inside so_far.settled (by_start true e) reached_old in
      let kept_new : SameClauses old new = then_same old closer new so_far.kept same in
      record {
        within = All-push (λ (l : Lit). l.name < old.names) decisions at so_far.within (names i d inside);
        kept = kept_new;
        reached = subst (IsReached old.formula order) (sym (same_state old new (decisions ++ at ∷ []) kept_new.learned)) reached_next;
        tested = tested ∙ ap (λ (cs : List (List Lit)). is_conflict named cs (decisions ++ at ∷ [])) (same_clauses old closer so_far.kept);
        closure = closure;
        settled = settled_decided (clauses_of old) decisions at order i d inside refl so_far.settled;
      }

pub descends_start : (old : Closing) (order : List Lit) (closer : Closing) (decisions : List Lit) (conflict : Bool) → AreNamed old.names decisions → IsReached old.formula order (state_of old decisions) → SameClauses old closer
    → conflict ≡ is_conflict named (clauses_of old) decisions → (conflict ≡ false → IsClosure (clauses_of closer) decisions closer.values) → Descends old order 0 closer decisions conflict
descends_start old order closer decisions conflict names reached same tested closure = record {
  within = names;
  kept = same;
  reached = subst (IsReached old.formula order) (sym (same_state old closer decisions same.learned)) reached;
  tested = tested;
  closure = closure;
  settled = λ x h. absurd (omega (arith, h.1));
}

-- so many conflicts were counted
pub record Counts (old : Closing) (order : List Lit) (count : ℕ) (closer : Closing) (decisions : List Lit) : Type 0 where
  pub within : AreNamed old.names decisions
  pub kept : SameFormula old closer
  pub reached : IsReached old.formula order (state_of closer decisions)
  pub counted : length closer.learned ≡ count
