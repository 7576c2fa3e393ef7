-- The search under a map of literals that keeps them apart: names of a net for the trees that they name.
use Rattle.std.proofs.Common.{◌≡◌, ◌≢◌, ℕ, zero, suc, ◌*◌, ◌^◌, Bool, true, false, List, [], ◌∷◌, ◌++◌, refl, sym, ◌∙◌, ap, inl, inr, length, map, subst, cond}
use Rattle.std.specs.Prelude.{Contains, ◌&&◌, Option, Some, None, find}
use Rattle.std.specs.List.{list_any}
use Rattle.std.proofs.lemmas.List.{map-append, length-map}
use Rattle.std.proofs.lemmas.List.Elements.{Contains-append_left, Contains-append_right, Contains-append_cases, Contains-push_cases}
use Rattle.search_model.specs.Literals.{Literals, AreLiterals}
use Rattle.search_model.specs.Closure.{IsClosed, IsInClosure, IsConflict}
use Rattle.search_model.specs.Tests.{literals_of, in_closure, is_conflict, is_open}
use Rattle.search_model.specs.Search.{State, Trimmed, start, trimmed, trim, decide, learn, on_conflict, on_open, turn, after, search_end, conflict_count, ends_in_conflict, values_found}
use Rattle.search_laws.proofs.ListLemmas.{bool_cases, both, both_true, no_element, Contains-head, Contains-tail, Contains-cons_cases, any_true, any_one, Contains-flat_map, Contains-flat_map_one}
use Rattle.search_laws.proofs.TestLemmas.{in_is, is_in, conflict_is, is_conflicting, stands}
use Rattle.search_laws.proofs.After.{trimmed_end, trimmed_drops, trimmed_keeps, turn_conflict, turn_calm, after_zero, after_next, after_stays}

pub bool_same : (a b : Bool) → (a ≡ true → b ≡ true) → (b ≡ true → a ≡ true) → a ≡ b
bool_same true true h k = refl
bool_same true false h k = sym (h refl)
bool_same false true h k = k refl
bool_same false false h k = refl

pub map_contains : {X Y : Type 0} (f : X → Y) (xs : List X) (x : X) → Contains xs x → Contains (map f xs) (f x)
map_contains f [] x h = absurd (no_element x h)
map_contains {X} {Y} f (y ∷ ys) x h = elim (Contains-cons_cases y ys x h) [
  | inl is ↦ let P : X → Type 0 = λ z. Contains (f y ∷ map f ys) (f z) in subst P is (Contains-head (f y) (map f ys))
  | inr later ↦ Contains-tail (f y) (map f ys) (f x) (map_contains f ys x later)
]

pub map_contains_one : {X Y : Type 0} (f : X → Y) (xs : List X) (y : Y) → Contains (map f xs) y → (x : X) × Contains xs x × (f x ≡ y)
map_contains_one f [] y h = absurd (no_element y h)
map_contains_one f (x ∷ xs) y h = elim (Contains-cons_cases (f x) (map f xs) y h) [
  | inl is ↦ (x, Contains-head x xs, is)
  | inr later ↦ let one = map_contains_one f xs y later in (one.0, Contains-tail x xs one.0 one.1, one.2)
]

abbrev pub map_option : {X Y : Type 0} → (X → Y) → Option X → Option Y
map_option f None = None
map_option f (Some x) = Some (f x)

option_cond : {X Y : Type 0} (f : X → Y) (b : Bool) (o : X) (r : Option X) → cond b (Some (f o)) (map_option f r) ≡ map_option f (cond b (Some o) r)
option_cond f true o r = refl
option_cond f false o r = refl

pub find_is_in : {X : Type 0} (p : X → Bool) (xs : List X) (x : X) → find p xs ≡ Some x → Contains xs x
find_is_in p [] x e = cc
find_is_in {X} p (y ∷ ys) x e = elim (bool_cases (p y)) [
  | inl is ↦
      let here : find p (y ∷ ys) ≡ Some y = ap (λ b. cond b (Some y) (find p ys)) is in
      let same : y ≡ x = cc in
      let P : X → Type 0 = λ z. Contains (y ∷ ys) z in
      subst P same (Contains-head y ys)
  | inr isnt ↦
      let later : find p (y ∷ ys) ≡ find p ys = ap (λ b. cond b (Some y) (find p ys)) isnt in
      Contains-tail y ys x (find_is_in p ys x (sym later ∙ e))
]

-- the same elements
pub record SameSet {X : Type 0} (xs ys : List X) : Type 0 where
  pub there : (x : X) → Contains xs x → Contains ys x
  pub back : (x : X) → Contains ys x → Contains xs x

module _ {L M : Type 0} (from : Literals L) (from_laws : AreLiterals from) (to : Literals M) (to_laws : AreLiterals to) (f : L → M) (own : L → Type 0) where
  -- the map keeps negations, and keeps apart the literals that are its own
  pub record Keeps : Type 0 where
    pub negation : (l : L) → f (from.negation l) ≡ to.negation (f l)
    pub own_negation : (l : L) → own l → own (from.negation l)
    pub one : (a b : L) → own a → own b → f a ≡ f b → a ≡ b

  abbrev pub Own : List L → Type 0
  Own ls = (l : L) → Contains ls l → own l

  -- the clauses are those of the second list, as sets of sets
  pub record SameClauses (clauses : List (List L)) (clauses' : List (List M)) : Type 0 where
    pub owned : (c : List L) → Contains clauses c → Own c
    pub there : (c : List L) → Contains clauses c → (c' : List M) × Contains clauses' c' × SameSet (map f c) c'
    pub back : (c' : List M) → Contains clauses' c' → (c : List L) × Contains clauses c × SameSet (map f c) c'

  module _ (keeps : Keeps) where
    module _ (clauses : List (List L)) (clauses' : List (List M)) (same : SameClauses clauses clauses') where
      closure_there : (ds : List L) (l : L) → IsInClosure from clauses ds l → IsInClosure to clauses' (map f ds) (f l)
      closure_there ds l h = λ set closed. h (λ x. set (f x)) (record {
        decided = λ d at. closed.decided (f d) (map_contains f ds d at);
        each = λ c at x here others. (
            let image = same.there c at in
            closed.each image.0 image.1 (f x) (image.2.there (f x) (map_contains f c x here)) (λ m' here' apart.
            let one = map_contains_one f c m' (image.2.back m' here') in
            let apart_from : one.0 ≢ x = λ e. apart (sym one.2 ∙ ap f e) in
            ap set (ap to.negation (sym one.2) ∙ sym (keeps.negation one.0)) ∙ others one.0 one.1 apart_from));
      })

      module _ (ds : List L) (own_ds : Own ds) where
        known : List L
        known = ds ++ literals_of clauses

        own_known : (x : L) → Contains (ds ++ literals_of clauses) x → own x
        own_known x h = elim (Contains-append_cases ds (literals_of clauses) x h) [
          | inl at ↦ own_ds x at
          | inr at ↦ let one = Contains-flat_map_one clauses x at in same.owned one.0 one.1 x one.2
        ]

        module _ (set : L → Bool) (closed : IsClosed from clauses ds set) where
          abbrev has : M → L → Bool
          has m x = to.same (f x) m && set x

          image : M → Bool
          image m = list_any (has m) (ds ++ literals_of clauses)

          image_one : (m : M) → image m ≡ true → (x : L) × Contains (ds ++ literals_of clauses) x × (f x ≡ m) × (set x ≡ true)
          unfolding image
          image_one m e =
              let one = any_one (has m) (ds ++ literals_of clauses) e in
              let parts = both (to.same (f one.0) m) (set one.0) one.2 in
              (one.0, one.1, (to_laws.same_is (f one.0) m).0 parts.0, parts.1)

          image_true : (x : L) → Contains (ds ++ literals_of clauses) x → set x ≡ true → image (f x) ≡ true
          unfolding image
          image_true x at e = any_true (has (f x)) (ds ++ literals_of clauses) x at (both_true (to.same (f x) (f x)) (set x) ((to_laws.same_is (f x) (f x)).1 refl) e)

          image_own : (x : L) → own x → image (f x) ≡ true → set x ≡ true
          image_own x own_x e =
              let one = image_one (f x) e in
              ap set (sym (keeps.one one.0 x (own_known one.0 one.1) own_x one.2)) ∙ one.3

          in_clause : (c : List L) → Contains clauses c → (x : L) → Contains c x → Contains (ds ++ literals_of clauses) x
          in_clause c at x here = Contains-append_right ds (literals_of clauses) x (Contains-flat_map clauses c x at here)

          image_closed : IsClosed to clauses' (map f ds) image
          image_closed = record {
            decided = λ d' at. (
                let one = map_contains_one f ds d' at in
                let P : M → Type 0 = λ m. image m ≡ true in
                subst P one.2 (image_true one.0 (Contains-append_left ds (literals_of clauses) one.0 one.1) (closed.decided one.0 one.1)));
            each = λ c' at' l' here' others. (
                let source = same.back c' at' in
                let c : List L = source.0 in
                let l = map_contains_one f c l' (source.2.back l' here') in
                let P : M → Type 0 = λ m. image m ≡ true in
                subst P l.2 (image_true l.0 (in_clause c source.1 l.0 l.1) (closed.each c source.1 l.0 l.1 (λ m here apart.
                let own_m : own m = same.owned c source.1 m here in
                let apart' : f m ≢ l' = λ e. apart (keeps.one m l.0 own_m (same.owned c source.1 l.0 l.1) (e ∙ sym l.2)) in
                let there : image (to.negation (f m)) ≡ true = others (f m) (source.2.there (f m) (map_contains f c m here)) apart' in
                image_own (from.negation m) (keeps.own_negation m own_m) (ap image (keeps.negation m) ∙ there)))));
          }

        pub closure_back : (l : L) → own l → IsInClosure to clauses' (map f ds) (f l) → IsInClosure from clauses ds l
        closure_back l own_l h = λ set closed. image_own set closed l own_l (h (image set closed) (image_closed set closed))

        pub in_same : (l : L) → own l → in_closure to clauses' (map f ds) (f l) ≡ in_closure from clauses ds l
        in_same l own_l = bool_same (in_closure to clauses' (map f ds) (f l)) (in_closure from clauses ds l)
            (λ e. is_in from from_laws clauses ds l (closure_back l own_l (in_is to to_laws clauses' (map f ds) (f l) e)))
            (λ e. is_in to to_laws clauses' (map f ds) (f l) (closure_there ds l (in_is from from_laws clauses ds l e)))

        in_same_negation : (l : L) → own l → in_closure to clauses' (map f ds) (to.negation (f l)) ≡ in_closure from clauses ds (from.negation l)
        in_same_negation l own_l = ap (in_closure to clauses' (map f ds)) (sym (keeps.negation l)) ∙ in_same (from.negation l) (keeps.own_negation l own_l)

        pub open_same : (l : L) → own l → is_open to clauses' (map f ds) (f l) ≡ is_open from clauses ds l
        open_same l own_l = rw (in_same l own_l, in_same_negation l own_l) refl

        -- a literal of the second closure is one of the map
        source_of : (m : M) → Contains (map f ds ++ literals_of clauses') m → (x : L) × own x × (f x ≡ m)
        source_of m h = elim (Contains-append_cases (map f ds) (literals_of clauses') m h) [
          | inl at ↦ let one = map_contains_one f ds m at in (one.0, own_ds one.0 one.1, one.2)
          | inr at ↦
              let clause = Contains-flat_map_one clauses' m at in
              let source = same.back clause.0 clause.1 in
              let one = map_contains_one f source.0 m (source.2.back m clause.2) in
              (one.0, same.owned source.0 source.1 one.0 one.1, one.2)
        ]

        conflict_back : IsConflict to clauses' (map f ds) → IsConflict from clauses ds
        conflict_back (m, here, there) =
            let source = source_of m (stands to to_laws clauses' (map f ds) m (is_in to to_laws clauses' (map f ds) m here)) in
            let P : M → Type 0 = λ x. IsInClosure to clauses' (map f ds) x in
            let one : IsInClosure to clauses' (map f ds) (f source.0) = subst P (sym source.2) here in
            let other : IsInClosure to clauses' (map f ds) (f (from.negation source.0)) = subst P (ap to.negation (sym source.2) ∙ sym (keeps.negation source.0)) there in
            (source.0, closure_back source.0 source.1 one, closure_back (from.negation source.0) (keeps.own_negation source.0 source.1) other)

        conflict_there : IsConflict from clauses ds → IsConflict to clauses' (map f ds)
        conflict_there (l, here, there) =
            let P : M → Type 0 = λ x. IsInClosure to clauses' (map f ds) x in
            (f l, closure_there ds l here, subst P (keeps.negation l) (closure_there ds (from.negation l) there))

        pub conflict_same : is_conflict to clauses' (map f ds) ≡ is_conflict from clauses ds
        conflict_same = bool_same (is_conflict to clauses' (map f ds)) (is_conflict from clauses ds)
            (λ e. is_conflicting from from_laws clauses ds (conflict_back (conflict_is to to_laws clauses' (map f ds) e)))
            (λ e. is_conflicting to to_laws clauses' (map f ds) (conflict_there (conflict_is from from_laws clauses ds e)))

        find_same : (order : List L) → Own order → find (is_open to clauses' (map f ds)) (map f order) ≡ map_option f (find (is_open from clauses ds) order)
        find_same [] own_order = refl
        find_same (o ∷ os) own_order =
            let rest : find (is_open to clauses' (map f ds)) (map f os) ≡ map_option f (find (is_open from clauses ds) os) = find_same os (λ l h. own_order l (Contains-tail o os l h)) in
            ap (λ b. cond b (Some (f o)) (find (is_open to clauses' (map f ds)) (map f os))) (open_same o (own_order o (Contains-head o os)))
            ∙ ap (λ r. cond (is_open from clauses ds o) (Some (f o)) r) rest
            ∙ option_cond f (is_open from clauses ds o) o (find (is_open from clauses ds) os)

    -- the map of what is left, and of a state
    abbrev pub map_trimmed : Trimmed L → Trimmed M
    map_trimmed t = record { left = map f t.left; before = map f t.before }

    abbrev pub map_state : State L → State M
    map_state s = record { decisions = map f s.decisions; learned = map (map f) s.learned }

    own_append : (xs ys : List L) → Own xs → Own ys → Own (xs ++ ys)
    own_append xs ys h k l at = elim (Contains-append_cases xs ys l at) [ inl here ↦ h l here | inr here ↦ k l here ]

    own_push : (xs : List L) (x : L) → Own xs → own x → Own (xs ++ x ∷ [])
    own_push xs x h k l at = elim (Contains-push_cases xs x l at) [ inl here ↦ h l here | inr is ↦ subst own is k ]

    pub record OwnTrimmed (t : Trimmed L) : Type 0 where
      pub left : Own t.left
      pub before : Own t.before

    module _ (clauses : List (List L)) (clauses' : List (List M)) (same : SameClauses clauses clauses') where
      trimmed_own : (t : Trimmed L) (passed rest : List L) → OwnTrimmed t → Own passed → Own rest → OwnTrimmed (trimmed (is_conflict from clauses) t passed rest)
      trimmed_own t passed [] own_t own_passed own_rest = subst OwnTrimmed (sym (trimmed_end from from_laws clauses t passed)) own_t
      trimmed_own t passed (d ∷ rest) own_t own_passed own_rest =
          let own_d : own d = own_rest d (Contains-head d rest) in
          let own_after : Own rest = λ l at. own_rest l (Contains-tail d rest l at) in
          let own_more : Own (passed ++ d ∷ []) = own_push passed d own_passed own_d in
          elim (bool_cases (is_conflict from clauses (t.left ++ rest))) [
            | inl e ↦ subst OwnTrimmed (sym (trimmed_drops from from_laws clauses t passed d rest e)) (trimmed_own t (passed ++ d ∷ []) rest own_t own_more own_after)
            | inr e ↦ subst OwnTrimmed (sym (trimmed_keeps from from_laws clauses t passed d rest e))
                (trimmed_own (record { left = t.left ++ d ∷ []; before = passed }) (passed ++ d ∷ []) rest (record { left = own_push t.left d own_t.left own_d; before = own_passed }) own_more own_after)
          ]

      trimmed_same : (t : Trimmed L) (passed rest : List L) → OwnTrimmed t → Own passed → Own rest
          → trimmed (is_conflict to clauses') (map_trimmed t) (map f passed) (map f rest) ≡ map_trimmed (trimmed (is_conflict from clauses) t passed rest)
      trimmed_same t passed [] own_t own_passed own_rest =
          trimmed_end to to_laws clauses' (map_trimmed t) (map f passed) ∙ ap map_trimmed (sym (trimmed_end from from_laws clauses t passed))
      trimmed_same t passed (d ∷ rest) own_t own_passed own_rest =
          let own_d : own d = own_rest d (Contains-head d rest) in
          let own_after : Own rest = λ l at. own_rest l (Contains-tail d rest l at) in
          let own_more : Own (passed ++ d ∷ []) = own_push passed d own_passed own_d in
          let conflicts : is_conflict to clauses' (map f t.left ++ map f rest) ≡ is_conflict from clauses (t.left ++ rest) =
          ap (is_conflict to clauses') (sym (map-append f t.left rest)) ∙ conflict_same clauses clauses' same (t.left ++ rest) (own_append t.left rest own_t.left own_after) in
          let passes : map f passed ++ f d ∷ [] ≡ map f (passed ++ d ∷ []) = sym (map-append f passed (d ∷ [])) in
          elim (bool_cases (is_conflict from clauses (t.left ++ rest))) [
            | inl e ↦
                trimmed_drops to to_laws clauses' (map_trimmed t) (map f passed) (f d) (map f rest) (conflicts ∙ e)
                ∙ ap (λ (p : List M). trimmed (is_conflict to clauses') (map_trimmed t) p (map f rest)) passes
                ∙ trimmed_same t (passed ++ d ∷ []) rest own_t own_more own_after
                ∙ ap map_trimmed (sym (trimmed_drops from from_laws clauses t passed d rest e))
            | inr e ↦
                let next : Trimmed L = record { left = t.left ++ d ∷ []; before = passed } in
                let lefts : map f t.left ++ f d ∷ [] ≡ map f (t.left ++ d ∷ []) = sym (map-append f t.left (d ∷ [])) in
                trimmed_keeps to to_laws clauses' (map_trimmed t) (map f passed) (f d) (map f rest) (conflicts ∙ e)
                ∙ ap (λ (p : List M). trimmed (is_conflict to clauses') (record { left = map f t.left ++ f d ∷ []; before = map f passed }) p (map f rest)) passes
                ∙ ap (λ (k : List M). trimmed (is_conflict to clauses') (record { left = k; before = map f passed }) (map f (passed ++ d ∷ [])) (map f rest)) lefts
                ∙ trimmed_same next (passed ++ d ∷ []) rest (record { left = own_push t.left d own_t.left own_d; before = own_passed }) own_more own_after
                ∙ ap map_trimmed (sym (trimmed_keeps from from_laws clauses t passed d rest e))
          ]

      none_left : OwnTrimmed (record { left = []; before = [] })
      none_left = record { left = λ l at. absurd (no_element l at); before = λ l at. absurd (no_element l at) }

      pub trim_own : (ds : List L) → Own ds → OwnTrimmed (trim from clauses ds)
      trim_own ds own_ds = trimmed_own (record { left = []; before = [] }) [] ds none_left (λ l at. absurd (no_element l at)) own_ds

      pub trim_same : (ds : List L) → Own ds → trim to clauses' (map f ds) ≡ map_trimmed (trim from clauses ds)
      trim_same ds own_ds = trimmed_same (record { left = []; before = [] }) [] ds none_left (λ l at. absurd (no_element l at)) own_ds

    pub record OwnState (s : State L) : Type 0 where
      pub decisions : Own s.decisions
      pub learned : (c : List L) → Contains s.learned c → Own c

    negations_same : (ls : List L) → map to.negation (map f ls) ≡ map f (map from.negation ls)
    negations_same [] = refl
    negations_same (l ∷ ls) = ap (λ (x : M). x ∷ map to.negation (map f ls)) (sym (keeps.negation l)) ∙ ap (λ (k : List M). f (from.negation l) ∷ k) (negations_same ls)

    own_negations : (ls : List L) → Own ls → Own (map from.negation ls)
    own_negations ls own_ls l at =
        let one = map_contains_one from.negation ls l at in
        subst own one.2 (keeps.own_negation one.0 (own_ls one.0 one.1))

    same_itself : {X : Type 0} (xs : List X) → SameSet xs xs
    same_itself xs = record { there = λ x h. h; back = λ x h. h }

    module _ (clauses : List (List L)) (clauses' : List (List M)) (same : SameClauses clauses clauses') where
      -- with the learned clauses
      same_all : (learned : List (List L)) → ((c : List L) → Contains learned c → Own c) → SameClauses (clauses ++ learned) (clauses' ++ map (map f) learned)
      same_all learned own_learned = record {
        owned = λ c at. elim (Contains-append_cases clauses learned c at) [ inl here ↦ same.owned c here | inr here ↦ own_learned c here ];
        there = λ c at. elim (Contains-append_cases clauses learned c at) [
          | inl here ↦ let one = same.there c here in (one.0, Contains-append_left clauses' (map (map f) learned) one.0 one.1, one.2)
          | inr here ↦ (map f c, Contains-append_right clauses' (map (map f) learned) (map f c) (map_contains (map f) learned c here), same_itself (map f c))
        ];
        back = λ c' at. elim (Contains-append_cases clauses' (map (map f) learned) c' at) [
          | inl here ↦ let one = same.back c' here in (one.0, Contains-append_left clauses learned one.0 one.1, one.2)
          | inr here ↦
              let one = map_contains_one (map f) learned c' here in
              let P : List M → Type 0 = λ k. SameSet (map f one.0) k in
              (one.0, Contains-append_right clauses learned one.0 one.1, subst P one.2 (same_itself (map f one.0)))
        ];
      }

      module _ (order : List L) (own_order : Own order) where
        all_same : (s : State L) → OwnState s → SameClauses (clauses ++ s.learned) (clauses' ++ map (map f) s.learned)
        all_same s own_s = same_all s.learned own_s.learned

        learn_same : (s : State L) → OwnState s → learn to clauses' (map_state s) ≡ map_state (learn from clauses s)
        learn_same s own_s =
            let t : Trimmed L = trim from (clauses ++ s.learned) s.decisions in
            let g : Trimmed M → State M = λ x. record { decisions = x.before; learned = map (map f) s.learned ++ map to.negation x.left ∷ [] } in
            let h : List M → State M = λ c. record { decisions = map f t.before; learned = map (map f) s.learned ++ c ∷ [] } in
            let k : List (List M) → State M = λ cs. record { decisions = map f t.before; learned = cs } in
            ap g (trim_same (clauses ++ s.learned) (clauses' ++ map (map f) s.learned) (all_same s own_s) s.decisions own_s.decisions)
            ∙ ap h (negations_same t.left)
            ∙ ap k (sym (map-append (map f) s.learned (map from.negation t.left ∷ [])))

        learn_own : (s : State L) → OwnState s → OwnState (learn from clauses s)
        learn_own s own_s =
            let t : Trimmed L = trim from (clauses ++ s.learned) s.decisions in
            let own_t : OwnTrimmed t = trim_own (clauses ++ s.learned) (clauses' ++ map (map f) s.learned) (all_same s own_s) s.decisions own_s.decisions in
            record {
              decisions = own_t.before;
              learned = λ c at. elim (Contains-push_cases s.learned (map from.negation t.left) c at) [
                | inl here ↦ own_s.learned c here
                | inr is ↦ (let P : List L → Type 0 = λ x. Own x in subst P is (own_negations t.left own_t.left))
              ];
            }

        decide_same : (s : State L) (l : L) → decide (map_state s) (f l) ≡ map_state (decide s l)
        decide_same s l =
            let g : List M → State M = λ ds. record { decisions = ds; learned = map (map f) s.learned } in
            ap g (sym (map-append f s.decisions (l ∷ [])))

        -- the turn of a state, and that it stays the map's own
        abbrev OwnOption : Option (State L) → Type 0
        OwnOption None = Unit {0}
        OwnOption (Some s) = OwnState s

        conflict_turn : (s : State L) → OwnState s → (ds : List L) → on_conflict to clauses' (map_state s) (map f ds) ≡ map_option map_state (on_conflict from clauses s ds)
        conflict_turn s own_s [] = refl
        conflict_turn s own_s (d ∷ ds) = ap Some (learn_same s own_s)

        conflict_own : (s : State L) → OwnState s → (ds : List L) → OwnOption (on_conflict from clauses s ds)
        conflict_own s own_s [] = tt
        conflict_own s own_s (d ∷ ds) = learn_own s own_s

        open_turn : (s : State L) (o : Option L) → on_open (map_state s) (map_option f o) ≡ map_option map_state (on_open s o)
        open_turn s None = refl
        open_turn s (Some l) = ap Some (decide_same s l)

        open_own : (s : State L) → OwnState s → (o : Option L) → ((l : L) → o ≡ Some l → own l) → OwnOption (on_open s o)
        open_own s own_s None h = tt
        open_own s own_s (Some l) h = record { decisions = own_push s.decisions l own_s.decisions (h l refl); learned = own_s.learned }

        turn_same : (s : State L) → OwnState s → turn to clauses' (map f order) (map_state s) ≡ map_option map_state (turn from clauses order s)
        turn_same s own_s =
            let conflicts : is_conflict to (clauses' ++ map (map f) s.learned) (map f s.decisions) ≡ is_conflict from (clauses ++ s.learned) s.decisions =
            conflict_same (clauses ++ s.learned) (clauses' ++ map (map f) s.learned) (all_same s own_s) s.decisions own_s.decisions in
            elim (bool_cases (is_conflict from (clauses ++ s.learned) s.decisions)) [
              | inl e ↦
                  turn_conflict to to_laws clauses' (map f order) (map_state s) (conflicts ∙ e)
                  ∙ conflict_turn s own_s s.decisions
                  ∙ ap (map_option map_state) (sym (turn_conflict from from_laws clauses order s e))
              | inr e ↦
                  turn_calm to to_laws clauses' (map f order) (map_state s) (conflicts ∙ e)
                  ∙ ap (on_open (map_state s)) (find_same (clauses ++ s.learned) (clauses' ++ map (map f) s.learned) (all_same s own_s) s.decisions own_s.decisions order own_order)
                  ∙ open_turn s (find (is_open from (clauses ++ s.learned) s.decisions) order)
                  ∙ ap (map_option map_state) (sym (turn_calm from from_laws clauses order s e))
            ]

        turn_own : (s : State L) → OwnState s → OwnOption (turn from clauses order s)
        turn_own s own_s = elim (bool_cases (is_conflict from (clauses ++ s.learned) s.decisions)) [
          | inl e ↦ subst OwnOption (sym (turn_conflict from from_laws clauses order s e)) (conflict_own s own_s s.decisions)
          | inr e ↦ subst OwnOption (sym (turn_calm from from_laws clauses order s e))
              (open_own s own_s (find (is_open from (clauses ++ s.learned) s.decisions) order) (λ l is. own_order l (find_is_in (is_open from (clauses ++ s.learned) s.decisions) order l is)))
        ]

        abbrev Goes : ℕ → Type 0
        Goes n = (after to clauses' (map f order) n ≡ map_state (after from clauses order n)) × OwnState (after from clauses order n)

        goes_on : (n : ℕ) (o : Option (State L)) → turn from clauses order (after from clauses order n) ≡ o → OwnOption o → Goes n → Goes (suc n)
        goes_on n None e own_o (is, own_s) =
            let s : State L = after from clauses order n in
            let stop : turn to clauses' (map f order) (after to clauses' (map f order) n) ≡ None = ap (turn to clauses' (map f order)) is ∙ turn_same s own_s ∙ ap (map_option map_state) e in
            let here : after from clauses order (suc n) ≡ s = after_stays from from_laws clauses order n e in (
              after_stays to to_laws clauses' (map f order) n stop ∙ is ∙ ap map_state (sym here),
              subst OwnState (sym here) own_s,
            )
        goes_on n (Some t) e own_o (is, own_s) =
            let s : State L = after from clauses order n in
            let next : turn to clauses' (map f order) (after to clauses' (map f order) n) ≡ Some (map_state t) = ap (turn to clauses' (map f order)) is ∙ turn_same s own_s ∙ ap (map_option map_state) e in
            let here : after from clauses order (suc n) ≡ t = after_next from from_laws clauses order n t e in (
              after_next to to_laws clauses' (map f order) n (map_state t) next ∙ ap map_state (sym here),
              subst OwnState (sym here) own_o,
            )

        goes : (n : ℕ) → Goes n
        goes zero =
            let here : after from clauses order 0 ≡ start = after_zero from from_laws clauses order in (
              after_zero to to_laws clauses' (map f order) ∙ ap map_state (sym here),
              subst OwnState (sym here) (record { decisions = λ l at. absurd (no_element l at); learned = λ c at. absurd (no_element c at) }),
            )
        goes (suc n) = goes_on n (turn from clauses order (after from clauses order n)) refl (turn_own (after from clauses order n) (goes n).1) (goes n)

        -- the end of the search is the map of its end
        pub end_same : search_end to clauses' (map f order) ≡ map_state (search_end from clauses order)
        unfolding search_end
        end_same = ap (λ (k : ℕ). after to clauses' (map f order) (2 ^ k * 2 ^ k)) (length-map order f) ∙ (goes (2 ^ length order * 2 ^ length order)).0

        pub end_own : OwnState (search_end from clauses order)
        unfolding search_end
        end_own = (goes (2 ^ length order * 2 ^ length order)).1

        pub count_same : conflict_count to clauses' (map f order) ≡ conflict_count from clauses order
        count_same = ap (λ (s : State M). length s.learned) end_same ∙ length-map (search_end from clauses order).learned (map f)

        values_map : (cs : List (List L)) (cs' : List (List M)) (ds : List L) → SameClauses cs cs' → Own ds → (os : List L) → Own os → map (in_closure to cs' (map f ds)) (map f os) ≡ map (in_closure from cs ds) os
        values_map cs cs' ds all own_ds [] own_os = refl
        values_map cs cs' ds all own_ds (o ∷ os) own_os =
            ap (λ b. b ∷ map (in_closure to cs' (map f ds)) (map f os)) (in_same cs cs' all ds own_ds o (own_os o (Contains-head o os)))
            ∙ ap (λ (bs : List Bool). in_closure from cs ds o ∷ bs) (values_map cs cs' ds all own_ds os (λ l at. own_os l (Contains-tail o os l at)))

        pub values_same : values_found to clauses' (map f order) ≡ values_found from clauses order
        values_same =
            let s : State L = search_end from clauses order in
            ap (λ (x : State M). map (in_closure to (clauses' ++ x.learned) x.decisions) (map f order)) end_same
            ∙ values_map (clauses ++ s.learned) (clauses' ++ map (map f) s.learned) s.decisions (all_same s end_own) end_own.decisions order own_order

        pub ends_same : ends_in_conflict to clauses' (map f order) ≡ ends_in_conflict from clauses order
        ends_same =
            let s : State L = search_end from clauses order in
            ap (λ (x : State M). is_conflict to (clauses' ++ x.learned) x.decisions) end_same
            ∙ conflict_same (clauses ++ s.learned) (clauses' ++ map (map f) s.learned) (all_same s end_own) s.decisions end_own.decisions
