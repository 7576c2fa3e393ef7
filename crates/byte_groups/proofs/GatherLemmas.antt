-- Places that are put into the lists of their labels.
use Rattle.std.proofs.Common.{◌≡◌, ◌≢◌, ℕ, zero, suc, ◌+◌, ◌<◌, ◌≤◌, List, [], ◌∷◌, ◌++◌, Bool, true, false, Option, Some, None, length, get_or, set, subst, refl, sym, ◌∙◌, ap, inl, inr, arith, ⊎_elim}
use Rattle.std.specs.Prelude.{Contains, slice_index, ◌↔◌}
use Rattle.std.specs.Global.{Vec}
use Rattle.std.proofs.lemmas.Bool.{cases_lt, cases_eq}
use Rattle.std.proofs.lemmas.List.{length-set, length-append, get_or-set_same, get_or-set_other}
use Rattle.std.proofs.lemmas.List.Elements.{Contains-push_cases, Contains-push, Contains-append_left, Contains-get_or}
use Rattle.std.proofs.lemmas.List.Quantifiers.{all_pairs_push}
use Rattle.group_model.specs.Group.{IsAscending}
use Rattle.byte_groups.specs.Gathered.{is_marked, number_at, lists_of, AreGathered}

none_in : (j : ℕ) → Contains [] j → ⊥
none_in j (k, l, e) = omega arith

-- an item of a list, whatever is given past the end
pub item : {X : Type 0} (xs : List X) (i : ℕ) (d e : X) → i < length xs → get_or xs i d ≡ get_or xs i e
item [] i d e l = absurd (omega arith)
item (x ∷ xs) zero d e l = refl
item (x ∷ xs) (suc i) d e l = item xs i d e (omega arith)

-- items of a list with more at its end
pub at_left : {X : Type 0} (xs ys : List X) (i : ℕ) (d : X) → i < length xs → get_or (xs ++ ys) i d ≡ get_or xs i d
at_left [] ys i d l = absurd (omega arith)
at_left (x ∷ xs) ys zero d l = refl
at_left (x ∷ xs) ys (suc i) d l = at_left xs ys i d (omega arith)

pub at_end : {X : Type 0} (xs : List X) (y d : X) → get_or (xs ++ y ∷ []) (length xs) d ≡ y
at_end [] y d = refl
at_end (x ∷ xs) y d = at_end xs y d

-- the first item stays where another is put at the end
first_stays : (xs : List ℕ) (y : ℕ) → 0 < length xs → slice_index (xs ++ y ∷ []) 0 ≡ slice_index xs 0
first_stays [] y l = absurd (omega arith)
first_stays (x ∷ xs) y l = refl

-- at the start nothing is put
pub gathered_none : (labels : List ℕ) (marks : List Bool) (numbers : List (Option ℕ)) → ((l : ℕ) → number_at numbers l ≡ None) → AreGathered labels marks numbers [] 0
gathered_none labels marks numbers none = record {
  holds = λ q d l. absurd (omega arith);
  ascending = λ q d l. absurd (omega arith);
  filled = λ q d l. absurd (omega arith);
  placed = λ j l. absurd (omega arith);
  one = λ l m q e. let f : number_at numbers l ≡ None = none l in absurd (cc);
  numbered = λ l q e. let f : number_at numbers l ≡ None = none l in absurd (cc);
  in_order = λ i j d l h. absurd (omega arith);
}

module _ (labels : List ℕ) (marks : List Bool) (numbers : List (Option ℕ)) (lists : List (List ℕ)) (k : ℕ) (so_far : AreGathered labels marks numbers lists k) where
  -- a place that is not marked is left out
  pub gathered_same : is_marked marks k ≡ false → AreGathered labels marks numbers lists (k + 1)
  gathered_same unmarked = record {
    holds = λ q d l j. (λ h. let f = (so_far.holds q d l j).0 h in ((let b : j < k = f.0 in omega arith), f.1, f.2), λ (b, m, e). (so_far.holds q d l j).1 (before j b m, m, e));
    ascending = so_far.ascending;
    filled = so_far.filled;
    placed = λ j b m. so_far.placed j (before j b m) m;
    one = so_far.one;
    numbered = so_far.numbered;
    in_order = so_far.in_order;
  }
    where
      before : (j : ℕ) → j < k + 1 → is_marked marks j ≡ true → j < k
      before j b m = ⊎_elim (λ (l : j < k). l) (λ (l : k ≤ j). let e : j ≡ k = omega arith in let t : is_marked marks k ≡ true = ap (is_marked marks) (sym e) ∙ m in absurd (cc)) (cases_lt j k)

  module _ (marked : is_marked marks k ≡ true) where
    module _ (q : ℕ) (list : List ℕ) (e : number_at numbers (slice_index labels k) ≡ Some q) (is : (d : List ℕ) → get_or lists q d ≡ list) where
      within : q < length lists
      within = so_far.numbered (slice_index labels k) q e

      -- what the new list of each number has
      by_place : (P : List ℕ → Type 0) (p : ℕ) (d : List ℕ) → (p ≡ q → P (list ++ k ∷ [])) → (p ≢ q → P (get_or lists p d)) → P (get_or (set lists q (list ++ k ∷ [])) p d)
      by_place P p d f g = ⊎_elim
          (λ (same : p ≡ q). subst P (sym (ap (λ i. get_or (set lists q (list ++ k ∷ [])) i d) same ∙ get_or-set_same lists q (list ++ k ∷ []) d within)) (f same))
          (λ (ne : p ≢ q). subst P (sym (get_or-set_other lists q p (list ++ k ∷ []) d ne)) (g ne))
          (cases_eq p q)

      list_holds : (j : ℕ) → Contains list j → (j < k) × (is_marked marks j ≡ true) × (number_at numbers (slice_index labels j) ≡ Some q)
      list_holds j h = (so_far.holds q list within j).0 (let P : List ℕ → Type 0 = λ g. Contains g j in subst P (sym (is list)) h)

      list_has : (j : ℕ) → j < k → is_marked marks j ≡ true → number_at numbers (slice_index labels j) ≡ Some q → Contains list j
      list_has j b m f = let P : List ℕ → Type 0 = λ g. Contains g j in subst P (is list) ((so_far.holds q list within j).1 (b, m, f))

      list_filled : 0 < length list
      list_filled = let P : List ℕ → Type 0 = λ g. 0 < length g in subst P (is list) (so_far.filled q list within)

      list_ascending : IsAscending list
      list_ascending = let P : List ℕ → Type 0 = IsAscending in subst P (is list) (so_far.ascending q list within)

      at_k : (j : ℕ) → j ≡ k → number_at numbers (slice_index labels j) ≡ Some q
      at_k j same = ap (λ x. number_at numbers (slice_index labels x)) same ∙ e

      in_new : (p : ℕ) → p < length (set lists q (list ++ k ∷ [])) → p < length lists
      in_new p l = omega (arith, length-set lists q (list ++ k ∷ []))

      holds_new : (p : ℕ) (d : List ℕ) → p < length lists → (j : ℕ) → Contains (get_or (set lists q (list ++ k ∷ [])) p d) j ↔ ((j < k + 1) × (is_marked marks j ≡ true) × (number_at numbers (slice_index labels j) ≡ Some p))
      holds_new p d l j = by_place (λ g. Contains g j ↔ ((j < k + 1) × (is_marked marks j ≡ true) × (number_at numbers (slice_index labels j) ≡ Some p))) p d
          (λ same. (
            λ h. elim (Contains-push_cases list k j h) [
              | inl r ↦ let f = list_holds j r in ((let b : j < k = f.0 in omega arith), f.1, f.2 ∙ ap Some (sym same))
              | inr new ↦ (omega (arith, new), ap (is_marked marks) (sym new) ∙ marked, at_k j (sym new) ∙ ap Some (sym same))
            ],
            λ (b, m, f). elim (cases_lt j k) [
              | inl less ↦ Contains-append_left list (k ∷ []) j (list_has j less m (f ∙ ap Some same))
              | inr more ↦ let here : k ≡ j = omega arith in let P : ℕ → Type 0 = Contains (list ++ k ∷ []) in subst P here (Contains-push list k)
            ],
          ))
          (λ ne. (
            λ h. let f = (so_far.holds p d l j).0 h in ((let b : j < k = f.0 in omega arith), f.1, f.2),
            λ (b, m, f). elim (cases_lt j k) [
              | inl less ↦ (so_far.holds p d l j).1 (less, m, f)
              | inr more ↦ let here : j ≡ k = omega arith in let g : number_at numbers (slice_index labels j) ≡ Some q = at_k j here in let same : p ≡ q = cc in absurd (ne same)
            ],
          ))

      placed_new : (j : ℕ) → j < k + 1 → is_marked marks j ≡ true → (p : ℕ) × (p < length (set lists q (list ++ k ∷ []))) × (number_at numbers (slice_index labels j) ≡ Some p)
      placed_new j b m = elim (cases_lt j k) [
        | inl less ↦ let f = so_far.placed j less m in (f.0, omega (arith, f.1, length-set lists q (list ++ k ∷ [])), f.2)
        | inr more ↦ (q, omega (arith, within, length-set lists q (list ++ k ∷ [])), at_k j (omega arith))
      ]

      first_same : (p : ℕ) (d : List ℕ) → slice_index (get_or (set lists q (list ++ k ∷ [])) p d) 0 ≡ slice_index (get_or lists p d) 0
      first_same p d = by_place (λ g. slice_index g 0 ≡ slice_index (get_or lists p d) 0) p d
          (λ same. first_stays list k list_filled ∙ ap (λ g. slice_index g 0) (sym (ap (λ i. get_or lists i d) same ∙ is d)))
          (λ ne. refl)

      -- the place is put at the end of its label's list
      pub gathered_push : AreGathered labels marks numbers (set lists q (list ++ k ∷ [])) (k + 1)
      gathered_push = record {
        holds = λ p d l. holds_new p d (in_new p l);
        ascending = λ p d l. by_place IsAscending p d
            (λ same. all_pairs_push (λ a b. a < b) list k list_ascending (λ i x m. (list_holds (get_or list i x) (Contains-get_or list i x m)).0))
            (λ ne. so_far.ascending p d (in_new p l));
        filled = λ p d l. by_place (λ g. 0 < length g) p d
            (λ same. omega (arith, length-append list (k ∷ [])))
            (λ ne. so_far.filled p d (in_new p l));
        placed = placed_new;
        one = so_far.one;
        numbered = λ l p f. let m : p < length lists = so_far.numbered l p f in omega (arith, length-set lists q (list ++ k ∷ []));
        in_order = λ i j d l h.
            let f : slice_index (get_or lists i d) 0 < slice_index (get_or lists j d) 0 = so_far.in_order i j d l (in_new j h) in
            omega (arith, f, first_same i d, first_same j d);
      }

    module _ (bound : slice_index labels k < length numbers) (fresh : number_at numbers (slice_index labels k) ≡ None) where
      new_numbers : List (Option ℕ)
      new_numbers = set numbers (slice_index labels k) (Some (length lists))

      -- what the new number of each label is
      by_label : (P : Option ℕ → Type 0) (l : ℕ) → (l ≡ slice_index labels k → P (Some (length lists))) → (l ≢ slice_index labels k → P (number_at numbers l)) → P (number_at (set numbers (slice_index labels k) (Some (length lists))) l)
      by_label P l f g = ⊎_elim
          (λ (same : l ≡ slice_index labels k). subst P (sym (ap (number_at (set numbers (slice_index labels k) (Some (length lists)))) same ∙ get_or-set_same numbers (slice_index labels k) (Some (length lists)) None bound)) (f same))
          (λ (ne : l ≢ slice_index labels k). subst P (sym (get_or-set_other numbers (slice_index labels k) l (Some (length lists)) None ne)) (g ne))
          (cases_eq l (slice_index labels k))

      -- what the new list of each number is
      by_number : (P : List ℕ → Type 0) (p : ℕ) (d : List ℕ) → p < length (lists ++ (k ∷ []) ∷ []) → (p < length lists → P (get_or lists p d)) → (p ≡ length lists → P (k ∷ [])) → P (get_or (lists ++ (k ∷ []) ∷ []) p d)
      by_number P p d l f g = ⊎_elim
          (λ (less : p < length lists). subst P (sym (at_left lists ((k ∷ []) ∷ []) p d less)) (f less))
          (λ (more : length lists ≤ p).
          let same : p ≡ length lists = omega (arith, l, more, length-append lists ((k ∷ []) ∷ [])) in
          subst P (sym (ap (λ i. get_or (lists ++ (k ∷ []) ∷ []) i d) same ∙ at_end lists (k ∷ []) d)) (g same))
          (cases_lt p (length lists))

      holds_added : (p : ℕ) (d : List ℕ) → p < length (lists ++ (k ∷ []) ∷ []) → (j : ℕ) → Contains (get_or (lists ++ (k ∷ []) ∷ []) p d) j ↔ ((j < k + 1) × (is_marked marks j ≡ true) × (number_at (set numbers (slice_index labels k) (Some (length lists))) (slice_index labels j) ≡ Some p))
      holds_added p d l j = by_number (λ g. Contains g j ↔ ((j < k + 1) × (is_marked marks j ≡ true) × (number_at (set numbers (slice_index labels k) (Some (length lists))) (slice_index labels j) ≡ Some p))) p d l
          (λ less. (
            λ h. let f = (so_far.holds p d less j).0 h in
                ((let b : j < k = f.0 in omega arith), f.1, by_label (λ r. r ≡ Some p) (slice_index labels j) (λ same. let g : number_at numbers (slice_index labels k) ≡ Some p = ap (number_at numbers) (sym same) ∙ f.2 in absurd (cc)) (λ ne. f.2)),
            λ (b, m, f). old_at p d less j b m f,
          ))
          (λ same. (
            λ h. let e : j ≡ k = only_item j h in
                (omega arith, ap (is_marked marks) e ∙ marked, by_label (λ r. r ≡ Some p) (slice_index labels j) (λ _. ap Some (sym same)) (λ ne. absurd (ne (ap (slice_index labels) e)))),
            λ (b, m, f). new_at j p same b m f,
          ))
        where
          only_item : (j : ℕ) → Contains (k ∷ []) j → j ≡ k
          only_item j (zero, l, e) = sym e
          only_item j (suc n, l, e) = absurd (omega arith)

          was_number : (l p : ℕ) → p ≢ length lists → number_at (set numbers (slice_index labels k) (Some (length lists))) l ≡ Some p → (l ≢ slice_index labels k) × (number_at numbers l ≡ Some p)
          was_number l p other = by_label (λ r. r ≡ Some p → (l ≢ slice_index labels k) × (number_at numbers l ≡ Some p)) l
              (λ same f. let e : length lists ≡ p = cc in absurd (other (sym e)))
              (λ ne f. (ne, f))

          old_at : (p : ℕ) (d : List ℕ) → p < length lists → (j : ℕ) → j < k + 1 → is_marked marks j ≡ true → number_at (set numbers (slice_index labels k) (Some (length lists))) (slice_index labels j) ≡ Some p → Contains (get_or lists p d) j
          old_at p d less j b m f =
              let was = was_number (slice_index labels j) p (omega arith) f in
              elim (cases_lt j k) [
                | inl before ↦ (so_far.holds p d less j).1 (before, m, was.1)
                | inr more ↦ let e : j ≡ k = omega arith in absurd (was.0 (ap (slice_index labels) e))
              ]

          new_at : (j p : ℕ) → p ≡ length lists → j < k + 1 → is_marked marks j ≡ true → number_at (set numbers (slice_index labels k) (Some (length lists))) (slice_index labels j) ≡ Some p → Contains (k ∷ []) j
          new_at j p same b m f = elim (cases_lt j k) [
            | inl before ↦
                let q = so_far.placed j before m in
                absurd (by_label (λ r. r ≡ Some p → ⊥) (slice_index labels j)
                (λ e _. let g : number_at numbers (slice_index labels k) ≡ Some q.0 = ap (number_at numbers) (sym e) ∙ q.2 in (cc))
                (λ ne g. let l : p < length lists = so_far.numbered (slice_index labels j) p g in omega arith) f)
            | inr more ↦ (0, omega arith, (let e : k ≡ j = omega arith in e))
          ]

      -- the place is put into a list of its own, whose number its label gets
      pub gathered_new : AreGathered labels marks (set numbers (slice_index labels k) (Some (length lists))) (lists ++ (k ∷ []) ∷ []) (k + 1)
      gathered_new = record {
        holds = holds_added;
        ascending = λ p d l. by_number IsAscending p d l (λ less. so_far.ascending p d less) (λ same i j x a b. absurd (omega arith));
        filled = λ p d l. by_number (λ g. 0 < length g) p d l (λ less. so_far.filled p d less) (λ same. omega arith);
        placed = λ j b m. elim (cases_lt j k) [
          | inl before ↦
              let f = so_far.placed j before m in
              (f.0, omega (arith, f.1, length-append lists ((k ∷ []) ∷ [])), by_label (λ r. r ≡ Some f.0) (slice_index labels j) (λ e. let g : number_at numbers (slice_index labels k) ≡ Some f.0 = ap (number_at numbers) (sym e) ∙ f.2 in absurd (cc)) (λ ne. f.2))
          | inr more ↦
              let e : j ≡ k = omega arith in
              (length lists, omega (arith, length-append lists ((k ∷ []) ∷ [])), by_label (λ r. r ≡ Some (length lists)) (slice_index labels j) (λ _. refl) (λ ne. absurd (ne (ap (slice_index labels) e))))
        ];
        one = λ l m q f g. one_new l m q f g;
        numbered = λ l q f. omega (arith, length-append lists ((k ∷ []) ∷ []), by_label (λ r. r ≡ Some q → q < length lists + 1) l (λ same h. let e : length lists ≡ q = cc in omega arith) (λ ne h. let b : q < length lists = so_far.numbered l q h in omega arith) f);
        in_order = all_pairs_push (λ g h. slice_index g 0 < slice_index h 0) lists (k ∷ []) so_far.in_order (λ p d l.
            let has : Contains (get_or lists p d) (slice_index (get_or lists p d) 0) = Contains-get_or (get_or lists p d) 0 0 (so_far.filled p d l) in
            ((so_far.holds p d l (slice_index (get_or lists p d) 0)).0 has).0);
      }
        where
          one_new : (l m q : ℕ) → number_at (set numbers (slice_index labels k) (Some (length lists))) l ≡ Some q → number_at (set numbers (slice_index labels k) (Some (length lists))) m ≡ Some q → l ≡ m
          one_new l m q f g =
              by_label (λ r. r ≡ Some q → l ≡ m) l
              (λ at_l h. by_label (λ r. r ≡ Some q → l ≡ m) m (λ at_m _. at_l ∙ sym at_m) (λ ne i. let b : q < length lists = so_far.numbered m q i in let e : length lists ≡ q = cc in absurd (omega arith)) g)
              (λ ne h. by_label (λ r. r ≡ Some q → l ≡ m) m (λ at_m i. let b : q < length lists = so_far.numbered l q h in let e : length lists ≡ q = cc in absurd (omega arith)) (λ _ i. so_far.one l m q h i) g)
              f

-- ---- the same of vectors

pub map_set : (xs : List (Vec ℕ)) (i : ℕ) (v : Vec ℕ) → lists_of (set xs i v) ≡ set (lists_of xs) i v.items
map_set [] i v = refl
map_set (x ∷ xs) zero v = refl
map_set (x ∷ xs) (suc i) v = ap (λ l. x.items ∷ l) (map_set xs i v)

pub map_push : (xs : List (Vec ℕ)) (v : Vec ℕ) → lists_of (xs ++ v ∷ []) ≡ lists_of xs ++ v.items ∷ []
map_push [] v = refl
map_push (x ∷ xs) v = ap (λ l. x.items ∷ l) (map_push xs v)

pub map_at : (xs : List (Vec ℕ)) (i : ℕ) (d : List ℕ) (v : Vec ℕ) → i < length xs → get_or (lists_of xs) i d ≡ (get_or xs i v).items
map_at [] i d v l = absurd (omega arith)
map_at (x ∷ xs) zero d v l = refl
map_at (x ∷ xs) (suc i) d v l = map_at xs i d v (omega arith)

pub map_long : (xs : List (Vec ℕ)) → length (lists_of xs) ≡ length xs
map_long [] = refl
map_long (x ∷ xs) = ap suc (map_long xs)

pub put_push : (labels : List ℕ) (marks : List Bool) (numbers : List (Option ℕ)) (items : List (Vec ℕ)) (k label q : ℕ) (old new : Vec ℕ) → slice_index labels k ≡ label → is_marked marks k ≡ true → number_at numbers label ≡ Some q → q < length items → old ≡ get_or items q old → new.items ≡ old.items ++ k ∷ [] → AreGathered labels marks numbers (lists_of items) k → AreGathered labels marks numbers (lists_of (set items q new)) (k + 1)
put_push labels marks numbers items k label q old new same marked e l is pushed so_far =
    let P : List (List ℕ) → Type 0 = λ g. AreGathered labels marks numbers g (k + 1) in
    subst P (sym (map_set items q new ∙ ap (set (lists_of items) q) pushed))
    (gathered_push labels marks numbers (lists_of items) k so_far marked q old.items (ap (number_at numbers) same ∙ e) (λ d. map_at items q d old l ∙ ap (λ v. v.items) (sym is)))

pub put_new : (labels : List ℕ) (marks : List Bool) (numbers : List (Option ℕ)) (items after : List (Vec ℕ)) (k label n : ℕ) (list : Vec ℕ) → slice_index labels k ≡ label → is_marked marks k ≡ true → label < length numbers → number_at numbers label ≡ None → list.items ≡ k ∷ [] → after ≡ items ++ list ∷ [] → n ≡ length items → AreGathered labels marks numbers (lists_of items) k → AreGathered labels marks (set numbers label (Some n)) (lists_of after) (k + 1)
put_new labels marks numbers items after k label n list same marked bound fresh one pushed count so_far =
    let P : List (List ℕ) → Type 0 = λ g. AreGathered labels marks (set numbers label (Some n)) g (k + 1) in
    let Q : List (Option ℕ) → Type 0 = λ m. AreGathered labels marks m (lists_of items ++ (k ∷ []) ∷ []) (k + 1) in
    subst P (sym (ap lists_of pushed ∙ (map_push items list ∙ ap (λ x. lists_of items ++ x ∷ []) one)))
    (subst Q (ap (λ l. set numbers l (Some (length (lists_of items)))) same ∙ ap (λ x. set numbers label (Some x)) (map_long items ∙ sym count))
    (gathered_new labels marks numbers (lists_of items) k so_far marked (rw same bound) (ap (number_at numbers) same ∙ fresh)))
