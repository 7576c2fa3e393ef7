-- Trimming by halves.
use Rattle.std.proofs.Common.{◌≡◌, ℕ, ◌+◌, ◌-◌, ◌<◌, ◌≤◌, Bool, true, false, List, [], ◌∷◌, ◌++◌, sym, inl, inr, ◌∙◌, ap, arith, length, take, drop, get_or, subst, drop-cons, add-one}
use Rattle.std.specs.Prelude.{Contains, Result, Ok, Err, IfOk}
use Rattle.std.proofs.lemmas.List.{take_more, drop_all, drop-drop, take-append-drop, length-drop, take_all}
use Rattle.std.proofs.Math.Seq.{take-add}
use Rattle.std.proofs.lemmas.List.Elements.{All-append, All-drop, All-take, Contains-append_left, Contains-append_right, Contains-append_cases}
use Rattle.gate_net.specs.declared.literals.Lit.{Lit}
use Rattle.gate_net.specs.Lits.{AreNamed}
use Rattle.search_model.specs.Literals.{named}
use Rattle.search_model.specs.Tests.{is_conflict}
use Rattle.search_model.specs.Search.{Trimmed, trimmed}
use Rattle.search_model.specs.Growing.{IsMonotone}
use Rattle.search_laws.proofs.ListLemmas.{bool_cases}
use Rattle.search_laws.proofs.LitLemmas.{named_are_literals}
use Rattle.search_laws.proofs.Growing.{fails, trimmed_none, trimmed_keep, trimmed_skips, conflict_grows}
use Rattle.unit_close.specs.Closing.{Closing, clauses_of}
use Rattle.clause_solver.specs.Solved.{SameClauses, HaveSame, Trims}
use Rattle.clause_solver.proofs.ReachedLemmas.{same_clauses}

-- a base with more literals has what stands before the rest too, or what was left
module _ (base left end more : List Lit) (same : HaveSame base (left ++ end)) where
  old_base : (l : Lit) → Contains base l → (lists : List Lit) → ((x : Lit) → Contains left x → Contains lists x) → ((x : Lit) → Contains end x → Contains lists x) → Contains lists l
  old_base l at lists by_left by_end = elim (Contains-append_cases left end l ((same l).0 at)) [
    | inl x ↦ by_left l x
    | inr x ↦ by_end l x
  ]

  in_left : (l : Lit) → Contains left l → Contains (base ++ more) l
  in_left l at = Contains-append_left base more l ((same l).1 (Contains-append_left left end l at))

  in_end : (l : Lit) → Contains end l → Contains (base ++ more) l
  in_end l at = Contains-append_left base more l ((same l).1 (Contains-append_right left end l at))

  pub same_later : HaveSame (base ++ more) (left ++ (more ++ end))
  same_later l = (
    (λ h. elim (Contains-append_cases base more l h) [
      | inl at ↦ old_base l at (left ++ (more ++ end)) (λ x x_at. Contains-append_left left (more ++ end) x x_at) (λ x x_at. Contains-append_right left (more ++ end) x (Contains-append_right more end x x_at))
      | inr at ↦ Contains-append_right left (more ++ end) l (Contains-append_left more end l at)
    ]),
    (λ h. elim (Contains-append_cases left (more ++ end) l h) [
      | inl at ↦ in_left l at
      | inr at ↦ elim (Contains-append_cases more end l at) [
        | inl x ↦ Contains-append_right base more l x
        | inr x ↦ in_end l x
      ]
    ]),
  )

  pub same_left : HaveSame (base ++ more) ((left ++ more) ++ end)
  same_left l = (
    (λ h. elim (Contains-append_cases base more l h) [
      | inl at ↦ old_base l at ((left ++ more) ++ end) (λ x x_at. Contains-append_left (left ++ more) end x (Contains-append_left left more x x_at)) (λ x x_at. Contains-append_right (left ++ more) end x x_at)
      | inr at ↦ Contains-append_left (left ++ more) end l (Contains-append_right left more l at)
    ]),
    (λ h. elim (Contains-append_cases (left ++ more) end l h) [
      | inl at ↦ elim (Contains-append_cases left more l at) [
        | inl x ↦ in_left l x
        | inr x ↦ Contains-append_right base more l x
      ]
      | inr at ↦ in_end l at
    ]),
  )

-- a part of the decisions, and all after it
pub part_on : (decisions : List Lit) (middle end : ℕ) → middle ≤ end → take (end - middle) (drop middle decisions) ++ drop end decisions ≡ drop middle decisions
part_on decisions middle end order =
    ap (λ (xs : List Lit). take (end - middle) (drop middle decisions) ++ xs) (sym (drop-drop (end - middle) middle decisions ∙ ap (λ k. drop k decisions) (let e : middle + (end - middle) ≡ end = omega (arith, order) in e)))
    ∙ take-append-drop (end - middle) (drop middle decisions)

pub later_base : (base left decisions : List Lit) (middle end : ℕ) → middle ≤ end → HaveSame base (left ++ drop end decisions) → HaveSame (base ++ take (end - middle) (drop middle decisions)) (left ++ drop middle decisions)
later_base base left decisions middle end order same =
    subst (λ (xs : List Lit). HaveSame (base ++ take (end - middle) (drop middle decisions)) (left ++ xs)) (part_on decisions middle end order)
    (same_later base left (drop end decisions) (take (end - middle) (drop middle decisions)) same)

-- what was left before is a front of what is left now
pub left_is : (old new : List Lit) → take (length old) new ≡ old → old ++ drop (length old) new ≡ new
left_is old new front = ap (λ (xs : List Lit). xs ++ drop (length old) new) (sym front) ∙ take-append-drop (length old) new

pub left_base : (base old new end : List Lit) → take (length old) new ≡ old → HaveSame base (old ++ end) → HaveSame (base ++ drop (length old) new) (new ++ end)
left_base base old new end front same =
    subst (λ (xs : List Lit). HaveSame (base ++ drop (length old) new) (xs ++ end)) (left_is old new front)
    (same_left base old end (drop (length old) new) same)

pub part_named : (names : ℕ) (base decisions : List Lit) (n k : ℕ) → AreNamed names base → AreNamed names decisions → AreNamed names (base ++ take n (drop k decisions))
part_named names base decisions n k in_base in_all =
    let P : Lit → Type 0 = λ l. l.name < names in
    All-append P base (take n (drop k decisions)) in_base (All-take P n (drop k decisions) (All-drop P k decisions in_all))

module _ (test : List Lit → Bool) (grows : IsMonotone test) where
  -- a monotone test tells no difference between lists with the same literals
  pub same_test : (xs ys : List Lit) → HaveSame xs ys → test xs ≡ test ys
  same_test xs ys same = elim (bool_cases (test xs)) [
    | inl e ↦ e ∙ sym (grows xs ys (λ l h. (same l).0 h) e)
    | inr e ↦ e ∙ sym (fails test grows ys xs (λ l h. (same l).1 h) e)
  ]

  -- decisions without which the later ones pass are dropped
  pub trims_skip : (decisions : List Lit) (start end : ℕ) (left : List Lit) (before : ℕ) → start ≤ end → test (left ++ drop end decisions) ≡ true → Trims test decisions start end left before left before
  trims_skip decisions start end left before order e =
      let now : Trimmed Lit = record { left = left; before = take before decisions } in
      let stem : take start decisions ++ take (end - start) (drop start decisions) ≡ take end decisions = sym (take-add start (end - start) decisions) ∙ ap (λ k. take k decisions) (let sum : start + (end - start) ≡ end = omega (arith, order) in sum) in
      ap (trimmed test now (take start decisions)) (sym (part_on decisions start end order))
      ∙ trimmed_skips test grows now (take start decisions) (take (end - start) (drop start decisions)) (drop end decisions) e
      ∙ ap (λ (p : List Lit). trimmed test now p (drop end decisions)) stem

-- a decision without which the others fail is left
pub trims_keep : (test : List Lit → Bool) (decisions : List Lit) (start : ℕ) (d : Lit) (left : List Lit) (before : ℕ) → start < length decisions → test (left ++ drop (start + 1) decisions) ≡ false
    → Trims test decisions start (start + 1) left before (left ++ get_or decisions start d ∷ []) start
trims_keep test decisions start d left before inside e =
    let now : Trimmed Lit = record { left = left; before = take before decisions } in
    let after : Trimmed Lit = record { left = left ++ get_or decisions start d ∷ []; before = take start decisions } in
    let cut : drop start decisions ≡ get_or decisions start d ∷ drop (start + 1) decisions = drop-cons decisions start d inside ∙ ap (λ k. get_or decisions start d ∷ drop k decisions) (sym (add-one start)) in
    ap (trimmed test now (take start decisions)) cut
    ∙ trimmed_keep test now (take start decisions) (get_or decisions start d) (drop (start + 1) decisions) e
    ∙ ap (λ (p : List Lit). trimmed test after p (drop (start + 1) decisions)) (sym (take_more decisions start d inside))

-- all decisions are trimmed
pub trims_all : (test : List Lit → Bool) (decisions left : List Lit) (before end : ℕ) → end ≡ length decisions → Trims test decisions 0 end [] 0 left before → trimmed test (record { left = []; before = [] }) [] decisions ≡ record { left = left; before = take before decisions }
trims_all test decisions left before end all trims =
    let now : Trimmed Lit = record { left = left; before = take before decisions } in
    trims
    ∙ ap (trimmed test now (take end decisions)) (drop_all end decisions (omega (arith, all)))
    ∙ trimmed_none test now (take end decisions)

pub conflicts_grow : (clauses : List (List Lit)) → IsMonotone (is_conflict named clauses)
conflicts_grow clauses = conflict_grows named named_are_literals clauses

pub ok_more : {X E : Type 0} (r : Result X E) (P Q : X → Type 0) → ((x : X) → P x → Q x) → IfOk r P → IfOk r Q
ok_more (Ok x) P Q more h = more x h
ok_more (Err e) P Q more h = tt

-- a closer with the same clauses
module _ (old new : Closing) (same : SameClauses old new) where
  pub new_named : (xs : List Lit) → AreNamed old.names xs → AreNamed new.names xs
  new_named xs named' = subst (λ n. AreNamed n xs) (sym same.names) named'

  pub old_named : (xs : List Lit) → AreNamed new.names xs → AreNamed old.names xs
  old_named xs named' = subst (λ n. AreNamed n xs) same.names named'

  pub new_test : (xs : List Lit) → is_conflict named (clauses_of new) xs ≡ is_conflict named (clauses_of old) xs
  new_test xs = ap (λ (cs : List (List Lit)). is_conflict named cs xs) (same_clauses old new same)

  pub old_trims : (decisions : List Lit) (start end : ℕ) (left : List Lit) (before : ℕ) (left' : List Lit) (before' : ℕ) → Trims (is_conflict named (clauses_of new)) decisions start end left before left' before' → Trims (is_conflict named (clauses_of old)) decisions start end left before left' before'
  old_trims decisions start end left before left' before' trims =
      subst (λ (cs : List (List Lit)). Trims (is_conflict named cs) decisions start end left before left' before') (same_clauses old new same) trims

-- what a close of the base's literals and more tells of those left and those after the part
pub told : (old : Closing) (asked xs : List Lit) (b : Bool) → HaveSame asked xs → is_conflict named (clauses_of old) asked ≡ b → is_conflict named (clauses_of old) xs ≡ b
told old asked xs b same e = sym (same_test (is_conflict named (clauses_of old)) (conflicts_grow (clauses_of old)) asked xs same) ∙ e

pub all_after : (xs : List Lit) (k : ℕ) → take (length xs) (drop k xs) ≡ drop k xs
all_after xs k = take_all (length xs) (drop k xs) (rw length-drop (omega arith))
