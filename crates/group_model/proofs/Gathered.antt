-- Values gathered one after the other into a set.
use Rattle.std.proofs.Common.{◌≡◌, ℕ, ◌+◌, ◌<◌, ◌≤◌, ◌==◌, ◌||◌, Bool, true, false, sym, ◌∙◌, ap, inl, inr, arith}
use mathlib.Core.Path.{fun_ext}
use Rattle.std.proofs.lemmas.Bool.{cases_lt, or_cases, or_left, or_right}
use Rattle.std.proofs.lemmas.Bool.Decides.{nat_tests}
use Rattle.group_model.proofs.HoldLemmas.{one_truth, same_number}

-- the set has those of the wanted values that are below the turn, and of the others wanted ones alone
pub record AreGathered (wanted set : ℕ → Bool) (turn : ℕ) : Type 0 where
  pub sound : (v : ℕ) → set v ≡ true → wanted v ≡ true
  pub complete : (v : ℕ) → v < turn → wanted v ≡ true → set v ≡ true

itself : (x : ℕ) → (x == x) ≡ true
itself x = grind (arith, nat_tests)

-- at the start the set has a known value alone
pub gathered_one : (wanted set : ℕ → Bool) (known : ℕ) → wanted known ≡ true → set ≡ (λ v. v == known) → AreGathered wanted set 0
gathered_one wanted set known is e = record {
  sound = λ v t. let same : v ≡ known = same_number v known (ap (λ s. s v) (sym e) ∙ t) in ap wanted same ∙ is;
  complete = λ v l t. absurd (omega arith);
}

module _ (wanted set : ℕ → Bool) (turn : ℕ) (so_far : AreGathered wanted set turn) where
  -- a wanted value is put into the set
  pub gathered_more : (more : ℕ → Bool) → wanted turn ≡ true → more ≡ (λ v. set v || v == turn) → AreGathered wanted more (turn + 1)
  gathered_more more is e = record {
    sound = λ v t. elim (or_cases (set v) (v == turn) (ap (λ s. s v) (sym e) ∙ t)) [
      | inl before ↦ so_far.sound v before
      | inr now ↦ let same : v ≡ turn = same_number v turn now in ap wanted same ∙ is
    ];
    complete = λ v l t. ap (λ s. s v) e ∙ elim (cases_lt v turn) [
      | inl less ↦ or_left (set v) (v == turn) (so_far.complete v less t)
      | inr more ↦ or_right (set v) (v == turn) (let same : v ≡ turn = omega arith in ap (λ x. x == turn) same ∙ itself turn)
    ];
  }

  -- a value that is not wanted is left out
  pub gathered_same : wanted turn ≡ false → AreGathered wanted set (turn + 1)
  gathered_same is = record {
    sound = so_far.sound;
    complete = λ v l t. elim (cases_lt v turn) [
      | inl less ↦ so_far.complete v less t
      | inr more ↦ let same : v ≡ turn = omega arith in let fails : wanted v ≡ false = ap wanted same ∙ is in absurd (cc)
    ];
  }

  -- at the end the set has exactly the wanted values
  pub gathered_all : 256 ≤ turn → ((v : ℕ) → wanted v ≡ true → v < 256) → set ≡ wanted
  gathered_all l small = fun_ext (λ v. one_truth (set v) (wanted v) (so_far.sound v) (λ t. let b : v < 256 = small v t in so_far.complete v (omega arith) t))
