-- The states that the search comes to.
use Rattle.std.proofs.Common.{◌≡◌, ℕ, suc, ◌+◌, ◌<◌, ◌≤◌, Bool, true, false, List, [], ◌∷◌, ◌++◌, refl, sym, ◌∙◌, ap, inl, inr, arith, length, take, drop, get_or, map, subst, cond, take-append-drop, drop-cons}
use Rattle.std.specs.Prelude.{Contains, Some, None, find}
use Rattle.std.proofs.lemmas.List.{take_more}
use Rattle.std.proofs.lemmas.List.Elements.{Contains-append_left, Contains-push, Contains-push_cases, All-map}
use Rattle.gate_net.specs.declared.literals.Lit.{Lit}
use Rattle.gate_net.specs.Lits.{negation, AreNamed}
use Rattle.unit_close.specs.Closing.{Closing, clauses_of}
use Rattle.search_model.specs.Literals.{named}
use Rattle.search_model.specs.Closure.{IsInClosure}
use Rattle.search_model.specs.Tests.{is_conflict, is_open}
use Rattle.search_model.specs.Search.{State, start, decide, learn, on_conflict, on_open, turn, after, search_end, conflict_count}
use Rattle.search_laws.proofs.ListLemmas.{Contains-head, Contains-tail}
use Rattle.search_laws.proofs.LitLemmas.{named_are_literals}
use Rattle.search_laws.proofs.TestLemmas.{settled_is, is_settled}
use Rattle.search_laws.proofs.Numbers.{closure_more}
use Rattle.search_laws.proofs.After.{turn_conflict, turn_calm, after_zero, after_next, stopped_is_end, end_front, front_is_take, count_most}
use Rattle.clause_solver.specs.Solved.{SameClauses, IsReached, state_of}

pub same_clauses : (a b : Closing) → SameClauses a b → clauses_of b ≡ clauses_of a
same_clauses a b h = ap (λ (f : List (List Lit)). f ++ b.learned) h.formula ∙ ap (λ (k : List (List Lit)). a.formula ++ k) h.learned

pub same_state : (a b : Closing) (decisions : List Lit) → b.learned ≡ a.learned → state_of b decisions ≡ state_of a decisions
same_state a b decisions e = ap (λ (k : List (List Lit)). record { decisions = decisions; learned = k }) e

pub then_same : (a b c : Closing) → SameClauses a b → SameClauses b c → SameClauses a c
then_same a b c h k = record { names = k.names ∙ h.names; formula = k.formula ∙ h.formula; learned = k.learned ∙ h.learned }

-- the first element that passes the test
pub none_found : {X : Type 0} (p : X → Bool) (xs : List X) → ((x : X) → Contains xs x → p x ≡ false) → find p xs ≡ None
none_found p [] all = refl
none_found p (x ∷ xs) all = ap (λ b. cond b (Some x) (find p xs)) (all x (Contains-head x xs)) ∙ none_found p xs (λ y h. all y (Contains-tail x xs y h))

found_after : {X : Type 0} (p : X → Bool) (xs : List X) (y : X) (ys : List X) → ((x : X) → Contains xs x → p x ≡ false) → p y ≡ true → find p (xs ++ y ∷ ys) ≡ Some y
found_after p [] y ys all e = ap (λ b. cond b (Some y) (find p ys)) e
found_after p (x ∷ xs) y ys all e =
    ap (λ b. cond b (Some x) (find p (xs ++ y ∷ ys))) (all x (Contains-head x xs)) ∙ found_after p xs y ys (λ z h. all z (Contains-tail x xs z h)) e

found_at : {X : Type 0} (p : X → Bool) (xs : List X) (i : ℕ) (d : X) → i < length xs → ((x : X) → Contains (take i xs) x → p x ≡ false) → p (get_or xs i d) ≡ true → find p xs ≡ Some (get_or xs i d)
found_at p xs i d h all e =
    ap (find p) (sym (take-append-drop i xs) ∙ ap (λ ys. take i xs ++ ys) (drop-cons xs i d h)) ∙ found_after p (take i xs) (get_or xs i d) (drop (suc i) xs) all e

module _ (formula : List (List Lit)) (order : List Lit) where
  next : (s t : State Lit) → IsReached formula order s → turn named formula order s ≡ Some t → IsReached formula order t
  next s t (n, is) e = (suc n, after_next named named_are_literals formula order n t (ap (turn named formula order) is ∙ e))

  pub start_reached : IsReached formula order start
  start_reached = (0, after_zero named named_are_literals formula order)

  -- a decision
  pub decide_reached : (s : State Lit) (i : ℕ) (d : Lit) → is_conflict named (formula ++ s.learned) s.decisions ≡ false → i < length order
      → ((x : Lit) → Contains (take i order) x → is_open named (formula ++ s.learned) s.decisions x ≡ false)
      → is_open named (formula ++ s.learned) s.decisions (get_or order i d) ≡ true
      → IsReached formula order s → IsReached formula order (decide s (get_or order i d))
  decide_reached s i d calm within settled free reached =
      let first : find (is_open named (formula ++ s.learned) s.decisions) order ≡ Some (get_or order i d) = found_at (is_open named (formula ++ s.learned) s.decisions) order i d within settled free in
      next s (decide s (get_or order i d)) reached (turn_calm named named_are_literals formula order s calm ∙ ap (on_open s) first)

  conflict_next : (s : State Lit) (ds : List Lit) → 0 < length ds → on_conflict named formula s ds ≡ Some (learn named formula s)
  conflict_next s [] some = absurd (omega (arith, some))
  conflict_next s (d ∷ rest) some = refl

  -- a conflict under decisions
  pub learn_reached : (s : State Lit) → is_conflict named (formula ++ s.learned) s.decisions ≡ true → 0 < length s.decisions → IsReached formula order s → IsReached formula order (learn named formula s)
  learn_reached s conflict some reached =
      next s (learn named formula s) reached (turn_conflict named named_are_literals formula order s conflict ∙ conflict_next s s.decisions some)

  stopped : (s : State Lit) → IsReached formula order s → turn named formula order s ≡ None → s ≡ search_end named formula order
  stopped s (n, is) e = sym is ∙ stopped_is_end named named_are_literals formula order n (ap (turn named formula order) is ∙ e)

  -- a model
  pub model_is_end : (s : State Lit) → is_conflict named (formula ++ s.learned) s.decisions ≡ false → find (is_open named (formula ++ s.learned) s.decisions) order ≡ None → IsReached formula order s → s ≡ search_end named formula order
  model_is_end s calm none reached = stopped s reached (turn_calm named named_are_literals formula order s calm ∙ ap (on_open s) none)

  -- a conflict without a decision
  pub conflict_is_end : (s : State Lit) → is_conflict named (formula ++ s.learned) s.decisions ≡ true → s.decisions ≡ [] → IsReached formula order s → s ≡ search_end named formula order
  conflict_is_end s conflict none reached = stopped s reached (turn_conflict named named_are_literals formula order s conflict ∙ ap (on_conflict named formula s) none)

  pub reached_front : (s : State Lit) → IsReached formula order s → s.learned ≡ take (length s.learned) (search_end named formula order).learned
  reached_front s (n, is) =
      let P : State Lit → Type 0 = λ x. x.learned ≡ take (length x.learned) (search_end named formula order).learned in
      subst P is (front_is_take named named_are_literals formula order (after named formula order n).learned (search_end named formula order).learned (end_front named named_are_literals formula order n))

  pub reached_count : (s : State Lit) → IsReached formula order s → length s.learned ≤ conflict_count named formula order
  reached_count s (n, is) =
      let P : State Lit → Type 0 = λ x. length x.learned ≤ conflict_count named formula order in
      subst P is (count_most named named_are_literals formula order n)

-- what is settled stays so under one more decision, which is settled
module _ (clauses : List (List Lit)) (decisions : List Lit) (l : Lit) where
  stays_settled : (x : Lit) → is_open named clauses decisions x ≡ false → is_open named clauses (decisions ++ l ∷ []) x ≡ false
  stays_settled x e =
      let more : (y : Lit) → IsInClosure named clauses decisions y → IsInClosure named clauses (decisions ++ l ∷ []) y = λ y. closure_more named named_are_literals clauses decisions clauses (decisions ++ l ∷ []) (record { clause = λ c h. h; decision = λ d h. Contains-append_left decisions (l ∷ []) d h }) y in
      is_settled named named_are_literals clauses (decisions ++ l ∷ []) x (elim (settled_is named named_are_literals clauses decisions x e) [
        | inl h ↦ inl (more x h)
        | inr h ↦ inr (more (negation x) h)
      ])

  decided_settled : is_open named clauses (decisions ++ l ∷ []) l ≡ false
  decided_settled = is_settled named named_are_literals clauses (decisions ++ l ∷ []) l (inl (λ set closed. closed.decided l (Contains-push decisions l)))

  -- the literals of the order up to the one that is decided
  pub settled_decided : (order : List Lit) (i : ℕ) (d : Lit) → i < length order → l ≡ get_or order i d
      → ((x : Lit) → Contains (take i order) x → is_open named clauses decisions x ≡ false)
      → (x : Lit) → Contains (take (i + 1) order) x → is_open named clauses (decisions ++ l ∷ []) x ≡ false
  settled_decided order i d within is settled x h =
      let P : List Lit → Type 0 = λ ls. Contains ls x in
      let Q : Lit → Type 0 = λ y. is_open named clauses (decisions ++ l ∷ []) y ≡ false in
      elim (Contains-push_cases (take i order) (get_or order i d) x (subst P (take_more order i d within) h)) [
        | inl before ↦ stays_settled x (settled x before)
        | inr here ↦ subst Q (is ∙ here) decided_settled
      ]

pub settled_more : (clauses : List (List Lit)) (decisions order : List Lit) (i : ℕ) (d : Lit) → i < length order → is_open named clauses decisions (get_or order i d) ≡ false
    → ((x : Lit) → Contains (take i order) x → is_open named clauses decisions x ≡ false)
    → (x : Lit) → Contains (take (i + 1) order) x → is_open named clauses decisions x ≡ false
settled_more clauses decisions order i d within closed settled x h =
    let P : List Lit → Type 0 = λ ls. Contains ls x in
    let Q : Lit → Type 0 = λ y. is_open named clauses decisions y ≡ false in
    elim (Contains-push_cases (take i order) (get_or order i d) x (subst P (take_more order i d within) h)) [
      | inl before ↦ settled x before
      | inr here ↦ subst Q here closed
    ]

pub named_negations : (n : ℕ) (ls : List Lit) → AreNamed n ls → AreNamed n (map negation ls)
named_negations n ls h = All-map (λ (l : Lit). l.name < n) negation ls h

pub no_elements : (ls : List Lit) → length ls ≡ 0 → ls ≡ []
no_elements [] e = refl
no_elements (l ∷ ls) e = absurd (omega (arith, e))
