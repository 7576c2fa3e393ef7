-- The search ends.
use Rattle.std.proofs.Common.{◌≡◌, ℕ, zero, suc, ◌+◌, ◌*◌, ◌^◌, ◌<◌, ◌≤◌, List, [], ◌∷◌, ◌++◌, sym, inl, inr, arith, length, subst}
use Rattle.std.specs.Prelude.{◌⊎◌}
use Rattle.std.proofs.Math.Nat.{mul-le-mul_right}
use Rattle.search_model.specs.Literals.{Literals, AreLiterals}
use Rattle.search_model.specs.Search.{State}
use Rattle.search_model.specs.Turns.{EndsUnsatisfiable, Turns}
use Rattle.search_laws.proofs.Steps.{unsat_is_end}
use Rattle.search_laws.proofs.Rise.{IsStack}
use Rattle.search_laws.proofs.Bounds.{IsFloor, Step, step, start_floor}
use Rattle.search_laws.proofs.Bounds.Step.{decided, rose, ended}

module _ {L : Type 0} (lits : Literals L) (laws : AreLiterals lits) where
  stack_length : (base clauses : List (List L)) (order passed : List L) (bound : ℕ) (ds : List L) (n : ℕ) → IsStack lits laws base clauses order passed bound ds n → n + length ds < bound
  stack_length base clauses order passed bound [] n h = omega (arith, h)
  stack_length base clauses order passed bound (d ∷ ds) n (k, lt, number, h) = omega (arith, lt, stack_length base clauses order (passed ++ d ∷ []) k ds n h)

  distributes : (n p : ℕ) → (n + 1) * p ≡ n * p + p
  distributes n p = omega arith

  times : (n k p : ℕ) → n < k → n * p + p ≤ k * p
  times n k p h = omega (arith, mul-le-mul_right {m = n + 1} {n = k} p (omega (arith, h)), distributes n p)

  module _ (clauses : List (List L)) (order : List L) where
    floor_length : (s : State L) (n : ℕ) → IsFloor lits laws clauses order s n → n + length s.decisions < 2 ^ length order
    floor_length s n floor = stack_length clauses (clauses ++ s.learned) order [] (2 ^ length order) s.decisions n floor.stack

    abbrev Timed : ℕ → State L → Type 0
    Timed m s = ((n : ℕ) × (m ≤ n * 2 ^ length order + length s.decisions) × IsFloor lits laws clauses order s n) ⊎ (EndsUnsatisfiable lits clauses order s × (m ≤ 2 ^ length order * 2 ^ length order))

    time_step : (m : ℕ) (e s : State L) (n : ℕ) → m ≤ n * 2 ^ length order + length e.decisions → IsFloor lits laws clauses order e n → Step lits laws clauses order e s n → Timed (suc m) s
    time_step m e s n le floor (decided same more next) = inl (n, omega arith, next)
    time_step m e s n le floor (rose k above leaves count next) =
        inl (k, omega (arith, le, floor_length e n floor, times n k (2 ^ length order) above), next)
    time_step m e s n le floor (ended ends count) =
        let few : n + length e.decisions < 2 ^ length order = floor_length e n floor in
        inr (ends, omega (arith, le, few, times n (2 ^ length order) (2 ^ length order) (omega (arith, few))))

    timed : (m : ℕ) (s : State L) → Turns lits clauses order m s → Timed m s
    timed zero s h =
        let P : State L → Type 0 = λ x. (n : ℕ) × (0 ≤ n * 2 ^ length order + length x.decisions) × IsFloor lits laws clauses order x n in
        inl (subst P (sym h) (0, omega arith, start_floor lits laws clauses order))
    timed (suc m) s (e, h, turn) =
        elim (timed m e h) [
          | inl (n, le, floor) ↦ time_step m e s n le floor (step lits laws clauses order e s n (m, h) floor turn)
          | inr (ends, le) ↦ absurd (unsat_is_end lits laws clauses order e s ends turn)
        ]

    -- no run has more turns than this
    pub turns_bound : (m : ℕ) (s : State L) → Turns lits clauses order m s → m ≤ 2 ^ length order * 2 ^ length order
    turns_bound m s h =
        elim (timed m s h) [
          | inl (n, le, floor) ↦
              let few : n + length s.decisions < 2 ^ length order = floor_length s n floor in
              omega (arith, le, few, times n (2 ^ length order) (2 ^ length order) (omega (arith, few)))
          | inr ends ↦ ends.1
        ]
