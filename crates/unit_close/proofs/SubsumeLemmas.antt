-- Clauses that stand for learned ones.
use Rattle.std.proofs.Common.{◌≡◌, ◌≢◌, ℕ, suc, ◌+◌, ◌<◌, ◌≤◌, Bool, true, false, List, [], ◌∷◌, ◌++◌, length, take, drop, take-append-drop, drop-cons, add-one, refl, sym, ap, ◌∙◌, inl, inr, arith, ◌⊎◌, subst}
use Rattle.std.specs.Prelude.{Contains, Option, Some, slice_get}
use Rattle.std.proofs.lemmas.List.{drop-append-le, take-append-le, take_more, drop_all, length_push, length-take-le, take-take}
use Rattle.std.proofs.lemmas.List.Elements.{Contains-append_left, Contains-append_right, Contains-append_cases, Contains-push, Contains-push_cases, Contains-get_or}
use Rattle.std.proofs.lemmas.Option.{get_or_from_slice_get, slice_get_within}
use Rattle.gate_net.specs.declared.literals.Lit.{Lit}
use Rattle.gate_net.specs.Lits.{negation}
use Rattle.search_model.specs.Literals.{named}
use Rattle.search_model.specs.Closure.{IsClosedUnder, IsClosed, IsInClosure, IsConflict}
use Rattle.unit_close.specs.Values.{has, IsClosure}
use Rattle.unit_close.specs.Literals.{lit_at, no_literal}
use Rattle.unit_close.specs.Watching.{Watching}
use Rattle.unit_close.specs.Subsumed.{Subsumes, AreSubsuming, StandFor}
use Rattle.unit_close.proofs.ListLemmas.{Contains-none, Contains-take, Contains-drop, Contains-cons_cases, Contains-head, Contains-tail}
use Rattle.unit_close.proofs.LitLemmas.{one_sign}

bool_cases : (b : Bool) → (b ≡ true) ⊎ (b ≡ false)
bool_cases true = inl refl
bool_cases false = inr refl

true_is_false : (b : Bool) → b ≡ true → b ≡ false → ⊥
true_is_false b e f = cc

-- values that a part leaves closed leave the whole clause closed
part_closed : (values : List (Option Bool)) (part clause : List Lit) → Subsumes part clause → IsClosedUnder named (has values) part → IsClosedUnder named (has values) clause
part_closed values part clause is closed l its others = elim (bool_cases (has values l)) [
  | inl e ↦ e
  | inr e ↦
      let (x, at) = is.some in
      let without : (m : Lit) → Contains part m → m ≢ l = λ m m_at same.
      true_is_false (has values l) (closed l (subst (Contains part) same m_at) (λ k k_at apart. others k (is.each k k_at) apart)) e in
      let forced : has values x ≡ true = closed x at (λ m m_at apart. others m (is.each m m_at) (without m m_at)) in
      absurd (one_sign values x forced (others x (is.each x at) (without x at)))
]

part_itself : (c : List Lit) (l : Lit) → Contains c l → Subsumes c c
part_itself c l at = record { some = (l, at); each = λ m m_at. m_at }

part_more : (a b c : List Lit) → Subsumes a b → Subsumes b c → Subsumes a c
part_more a b c first second = record { some = first.some; each = λ l at. second.each l (first.each l at) }

-- a part that isn't empty, of whose literals the clause has each
pub part_of : (part clause : List Lit) (i : ℕ) → i ≤ 0 → 0 < length part → ((l : Lit) → Contains (drop i part) l → Contains clause l) → Subsumes part clause
part_of part clause i none some each =
    let all : i ≡ 0 = omega (arith, none) in
    record {
      some = (lit_at part 0, Contains-get_or part 0 no_literal some);
      each = λ l at. each l (subst (λ k. Contains (drop k part) l) (sym all) at);
    }

-- the closure of the clauses that stand for the learned ones is that of all
module _ (given : ℕ) (clauses learned : List (List Lit)) (standing : StandFor given clauses learned) where
  abbrev all : List (List Lit)
  all = take given clauses ++ learned

  among_all : (c : List Lit) → Contains clauses c → Contains all c
  among_all c its =
      let split : Contains (take given clauses ++ drop given clauses) c = rw (take-append-drop given clauses) its in
      elim (Contains-append_cases (take given clauses) (drop given clauses) c split) [
        | inl first ↦ Contains-append_left (take given clauses) learned c first
        | inr later ↦ Contains-append_right (take given clauses) learned c (standing.are_learned c later)
      ]

  in_all : (decisions : List Lit) (l : Lit) → IsInClosure named clauses decisions l → IsInClosure named all decisions l
  in_all decisions l least set' closed = least set' (record { decided = closed.decided; each = λ c its. closed.each c (among_all c its) })

  pub conflict_all : (decisions : List Lit) → IsConflict named clauses decisions → IsConflict named all decisions
  conflict_all decisions conflict = (conflict.0, in_all decisions conflict.0 conflict.1, in_all decisions (negation conflict.0) conflict.2)

  module _ (decisions : List Lit) (values : List (Option Bool)) (closure : IsClosure clauses decisions values) where
    standing_closed : (c : List Lit) → Contains clauses c → IsClosedUnder named (has values) c
    standing_closed c its l at others = (closure l).1 (λ set' closed. closed.each c its l at (λ m m_at apart. (closure (negation m)).0 (others m m_at apart) set' closed))

    learned_closed : (c : List Lit) → Contains learned c → IsClosedUnder named (has values) c
    learned_closed c its l at others =
        let (part, part_its, is) = standing.subsumed c l its at in
        part_closed values part c is (standing_closed part part_its) l at others

    values_closed : IsClosed named all decisions (has values)
    values_closed = record {
      decided = λ l its. (closure l).1 (λ set' closed. closed.decided l its);
      each = λ c its. elim (Contains-append_cases (take given clauses) learned c its) [
        | inl first ↦ standing_closed c (Contains-take given clauses c first)
        | inr later ↦ learned_closed c later
      ];
    }

    pub closure_all : IsClosure all decisions values
    closure_all l = (λ told. in_all decisions l ((closure l).0 told), λ least. least (has values) values_closed)

-- no learned clause
pub stand_none : (given : ℕ) (clauses learned : List (List Lit)) → given ≡ length clauses → learned ≡ [] → StandFor given clauses learned
stand_none given clauses learned all none = record {
  within = omega (arith, all);
  are_learned = λ c its. absurd (Contains-none c (rw (drop_all given clauses (omega (arith, all))) at its));
  subsumed = λ c l its at. absurd (Contains-none c (rw none at its));
}

-- clauses stand for themselves
pub stand_themselves : (given : ℕ) (clauses : List (List Lit)) → given ≤ length clauses → StandFor given clauses (drop given clauses)
stand_themselves given clauses within = record {
  within = within;
  are_learned = λ c its. its;
  subsumed = λ c l its at. (c, Contains-drop given clauses c its, part_itself c l at);
}

module _ (given : ℕ) (clauses learned : List (List Lit)) (c : List Lit) (so_far : StandFor given clauses learned) where
  push_learned : (d : List Lit) → Contains (drop given (clauses ++ c ∷ [])) d → Contains learned d ⊎ (c ≡ d)
  push_learned d its =
      let cut : drop given (clauses ++ c ∷ []) ≡ drop given clauses ++ c ∷ [] = drop-append-le given clauses (c ∷ []) so_far.within in
      elim (Contains-push_cases (drop given clauses) c d (rw cut at its)) [
        | inl before ↦ inl (so_far.are_learned d before)
        | inr is ↦ inr is
      ]

  push_old : (d : List Lit) (l : Lit) → Contains learned d → Contains d l → AreSubsuming (clauses ++ c ∷ []) d
  push_old d l its at =
      let (part, part_its, is) = so_far.subsumed d l its at in
      (part, Contains-append_left clauses (c ∷ []) part part_its, is)

  push_new : (d : List Lit) (l : Lit) → c ≡ d → Contains d l → AreSubsuming (clauses ++ c ∷ []) d
  push_new d l is at = (c, Contains-push clauses c, subst (λ (x : List Lit). Subsumes x d) (sym is) (part_itself d l at))

  -- a clause more, learned last
  pub stand_push : StandFor given (clauses ++ c ∷ []) (learned ++ c ∷ [])
  stand_push = record {
    within = omega (arith, so_far.within, length_push clauses c);
    are_learned = λ d its. elim (push_learned d its) [
      | inl before ↦ Contains-append_left learned (c ∷ []) d before
      | inr is ↦ subst (Contains (learned ++ c ∷ [])) is (Contains-push learned c)
    ];
    subsumed = λ d l its at. elim (Contains-push_cases learned c d its) [
      | inl before ↦ push_old d l before at
      | inr is ↦ push_new d l is at
    ];
  }

  -- a clause more, learned before all others
  pub stand_kept : StandFor given (clauses ++ c ∷ []) (c ∷ learned)
  stand_kept = record {
    within = omega (arith, so_far.within, length_push clauses c);
    are_learned = λ d its. elim (push_learned d its) [
      | inl later ↦ Contains-tail c d learned later
      | inr is ↦ subst (Contains (c ∷ learned)) is (Contains-head c learned)
    ];
    subsumed = λ d l its at. elim (Contains-cons_cases c d learned its) [
      | inl is ↦ push_new d l is at
      | inr later ↦ push_old d l later at
    ];
  }

  -- the same clauses, where one is a part of the clause
  pub stand_left_out : AreSubsuming clauses c → StandFor given clauses (c ∷ learned)
  stand_left_out part = record {
    within = so_far.within;
    are_learned = λ d its. Contains-tail c d learned (so_far.are_learned d its);
    subsumed = λ d l its at. elim (Contains-cons_cases c d learned its) [
      | inl is ↦ subst (AreSubsuming clauses) is part
      | inr later ↦ so_far.subsumed d l later at
    ];
  }

-- clauses that stand for those that stood for the learned ones, and for one more
pub stand_learned : (given : ℕ) (old new learned : List (List Lit)) (c : List Lit) → take given new ≡ take given old → StandFor given old learned → StandFor given new (drop given old ++ c ∷ []) → StandFor given new (learned ++ c ∷ [])
stand_learned given old new learned c first was now = record {
  within = now.within;
  are_learned = λ d its. elim (Contains-push_cases (drop given old) c d (now.are_learned d its)) [
    | inl before ↦ Contains-append_left learned (c ∷ []) d (was.are_learned d before)
    | inr is ↦ subst (Contains (learned ++ c ∷ [])) is (Contains-push learned c)
  ];
  subsumed = λ d l its at. elim (Contains-push_cases learned c d its) [
    | inl before ↦
        let (part, part_its, is) = was.subsumed d l before at in
        let split : Contains (take given old ++ drop given old) part = rw (take-append-drop given old) part_its in
        elim (Contains-append_cases (take given old) (drop given old) part split) [
          | inl at_first ↦ (part, Contains-take given new part (rw first at_first), is)
          | inr later ↦
              let (deep, deep_its, deep_is) = now.subsumed part is.some.0 (Contains-append_left (drop given old) (c ∷ []) part later) is.some.1 in
              (deep, deep_its, part_more deep part d deep_is is)
        ]
    | inr is ↦ now.subsumed d l (subst (Contains (drop given old ++ c ∷ [])) is (Contains-push (drop given old) c)) at
  ];
}

-- the clause at a place
pub drop_here : {X : Type 0} (xs : List X) (i : ℕ) (x : X) → slice_get xs i ≡ Some x → drop i xs ≡ x ∷ drop (i + 1) xs
drop_here xs i x e =
    drop-cons xs i x (slice_get_within xs i x e)
    ∙ ap (λ y. y ∷ drop (suc i) xs) (get_or_from_slice_get xs i x x e)
    ∙ ap (λ k. x ∷ drop k xs) (sym (add-one i))

pub take_here : {X : Type 0} (xs : List X) (i : ℕ) (x : X) → slice_get xs i ≡ Some x → take (i + 1) xs ≡ take i xs ++ x ∷ []
take_here xs i x e =
    take_more xs i x (slice_get_within xs i x e)
    ∙ ap (λ y. take i xs ++ y ∷ []) (get_or_from_slice_get xs i x x e)

-- the clauses from i on were looked through
pub record Thins (given : ℕ) (old thin : Watching) (signatures : List ℕ) (i : ℕ) : Type 0 where
  pub names : thin.names ≡ old.names
  pub idle : thin.loose ≡ []
  pub first : take given thin.clauses ≡ take given old.clauses
  pub after : given ≤ i
  pub many : given + length signatures ≡ length thin.clauses
  pub standing : StandFor given thin.clauses (drop i old.clauses)

pub thins_start : (given : ℕ) (old thin : Watching) (i : ℕ) → given ≤ length old.clauses → i ≡ length old.clauses → thin.names ≡ old.names → thin.loose ≡ [] → thin.clauses ≡ take given old.clauses → Thins given old thin [] i
thins_start given old thin i within all names idle clauses =
    let size : length thin.clauses ≡ given = ap length clauses ∙ length-take-le given old.clauses within in
    record {
      names = names;
      idle = idle;
      first = ap (take given) clauses ∙ take-take given given old.clauses (omega arith);
      after = omega (arith, within, all);
      many = omega (arith, size);
      standing = stand_none given thin.clauses (drop i old.clauses) (sym size) (drop_all i old.clauses (omega (arith, all)));
    }

module _ (given : ℕ) (old thin : Watching) (signatures : List ℕ) (i j : ℕ) (c : List Lit) (so_far : Thins given old thin signatures i) (is : j + 1 ≡ i) (after : given ≤ j) (here : slice_get old.clauses j ≡ Some c) where
  rest : drop j old.clauses ≡ c ∷ drop i old.clauses
  rest = drop_here old.clauses j c here ∙ ap (λ k. c ∷ drop k old.clauses) is

  pub thins_kept : (new : Watching) (more : ℕ) → new.names ≡ thin.names → new.loose ≡ [] → new.clauses ≡ thin.clauses ++ c ∷ [] → Thins given old new (signatures ++ more ∷ []) j
  thins_kept new more names idle clauses = record {
    names = names ∙ so_far.names;
    idle = idle;
    first = ap (take given) clauses ∙ take-append-le given thin.clauses (c ∷ []) so_far.standing.within ∙ so_far.first;
    after = after;
    many = rw clauses (omega (arith, so_far.many, length_push thin.clauses c, length_push signatures more));
    standing = rw (clauses, rest) (stand_kept given thin.clauses (drop i old.clauses) c so_far.standing);
  }

  pub thins_left_out : AreSubsuming thin.clauses c → Thins given old thin signatures j
  thins_left_out part = record {
    names = so_far.names;
    idle = so_far.idle;
    first = so_far.first;
    after = after;
    many = so_far.many;
    standing = rw rest (stand_left_out given thin.clauses (drop i old.clauses) c so_far.standing part);
  }
