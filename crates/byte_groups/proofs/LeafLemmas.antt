-- Places that terms read, and tests that are steady on terms.
use Rattle.std.proofs.Common.{◌≡◌, ◌≢◌, ℕ, zero, suc, ◌+◌, ◌<◌, ◌≤◌, ◌==◌, List, [], ◌∷◌, Bool, true, false, ◌||◌, Option, Some, None, length, get_or, refl, sym, ◌∙◌, ap, subst, arith, ⊎_elim}
use Rattle.std.specs.Prelude.{Contains, slice_index, IfSome}
use Rattle.std.specs.Ordering.{nat_cmp}
use Rattle.std.specs.BTreeMap.{BTreeMap, get, Updates, is_at}
use Rattle.std.proofs.lemmas.Bool.{ne_eqb, cases_lt, cases_eq}
use Rattle.std.proofs.lemmas.Grind.{common_steps}
use Rattle.term_model.specs.declared.Op.{Op}
use Rattle.term_model.specs.Tree.{Tree, Apply}
use Rattle.term_model.specs.Places.{reads}
use Rattle.term_arena.specs.Trees.{tree_of}
use Rattle.group_model.specs.Division.{IsSteadyOn}
use Rattle.reached_terms.specs.Reached.{OperandsPass, AreReached}
use Rattle.byte_groups.specs.Joined.{IsLeaf}
use Rattle.byte_groups.specs.Joined.{HasLeaf, IsLeafBelow, ReadsUpTo, AreLabels}
use Rattle.byte_groups.specs.Labels.{AreParents, IsSteadyAlong, JoinTheSame}
use Rattle.reached_terms.proofs.ReachedLemmas.{operands_under}

either_of : {P : Type 0} (s t : Bool) → (s || t) ≡ true → (s ≡ true → P) → (t ≡ true → P) → P
either_of true t e h g = h refl
either_of false t e h g = g e

none_of : (s t : Bool) → s ≡ false → t ≡ false → (s || t) ≡ false
none_of true t e f = absurd (cc)
none_of false t e f = f

module _ (trees : List Tree) (t a b : ℕ) (op : Op) (top : tree_of trees t ≡ Apply op (tree_of trees a) (tree_of trees b)) where
  -- a place that the first operand reads
  pub leaf_left : (i : ℕ) → reads (tree_of trees a) i ≡ true → reads (tree_of trees t) i ≡ true
  leaf_left i r = (operands_under trees t a b op top).0 i r

  -- where the first operand reads none, those of the second are all
  pub leaf_right : ((i : ℕ) → reads (tree_of trees a) i ≡ false) → (r : Option ℕ) → IsLeaf (tree_of trees b) r → IsLeaf (tree_of trees t) r
  leaf_right none (Some i) r = (operands_under trees t a b op top).1 i r
  leaf_right none None r = λ i. ap (λ s. reads s i) top ∙ none_of (reads (tree_of trees a) i) (reads (tree_of trees b) i) (none i) (r i)

  -- what the operation reads, one of the operands reads
  read_by : {P : Type 0} (i : ℕ) → reads (tree_of trees t) i ≡ true → (reads (tree_of trees a) i ≡ true → P) → (reads (tree_of trees b) i ≡ true → P) → P
  read_by i r h g = either_of (reads (tree_of trees a) i) (reads (tree_of trees b) i) (ap (λ s. reads s i) (sym top) ∙ r) h g

  module _ (side : ℕ → Bool) (first : IsSteadyOn side (tree_of trees a)) (second : IsSteadyOn side (tree_of trees b)) where
    -- a test that is steady on both operands and gives one answer on a place of each is steady on the operation
    pub steady_both : (x y : ℕ) → reads (tree_of trees a) x ≡ true → reads (tree_of trees b) y ≡ true → side x ≡ side y → IsSteadyOn side (tree_of trees t)
    steady_both x y r s e p q p_in q_in =
        read_by p p_in
        (λ (p_a : reads (tree_of trees a) p ≡ true). read_by q q_in (λ (q_a : reads (tree_of trees a) q ≡ true). first p q p_a q_a) (λ (q_b : reads (tree_of trees b) q ≡ true). first p x p_a r ∙ (e ∙ second y q s q_b)))
        (λ (p_b : reads (tree_of trees b) p ≡ true). read_by q q_in (λ (q_a : reads (tree_of trees a) q ≡ true). second p y p_b s ∙ (sym e ∙ first x q r q_a)) (λ (q_b : reads (tree_of trees b) q ≡ true). second p q p_b q_b))

    -- where an operand reads nothing, a test that is steady on the other is steady on the operation
    pub steady_right : ((i : ℕ) → reads (tree_of trees a) i ≡ false) → IsSteadyOn side (tree_of trees t)
    steady_right none p q p_in q_in =
        read_by p p_in
        (λ (p_a : reads (tree_of trees a) p ≡ true). let f : reads (tree_of trees a) p ≡ false = none p in absurd (cc))
        (λ (p_b : reads (tree_of trees b) p ≡ true). read_by q q_in (λ (q_a : reads (tree_of trees a) q ≡ true). let f : reads (tree_of trees a) q ≡ false = none q in absurd (cc)) (λ (q_b : reads (tree_of trees b) q ≡ true). second p q p_b q_b))

    pub steady_left : ((i : ℕ) → reads (tree_of trees b) i ≡ false) → IsSteadyOn side (tree_of trees t)
    steady_left none p q p_in q_in =
        read_by p p_in
        (λ (p_a : reads (tree_of trees a) p ≡ true). read_by q q_in (λ (q_a : reads (tree_of trees a) q ≡ true). first p q p_a q_a) (λ (q_b : reads (tree_of trees b) q ≡ true). let f : reads (tree_of trees b) q ≡ false = none q in absurd (cc)))
        (λ (p_b : reads (tree_of trees b) p ≡ true). let f : reads (tree_of trees b) p ≡ false = none p in absurd (cc))

-- ---- the map of places, from the last term back

-- the map has the places of the last terms, and nothing of the terms before them
pub record AreLeaves (trees : List Tree) (terms : List ℕ) (leaves : BTreeMap ℕ ℕ) (done : ℕ) : Type 0 where
  pub known : (j d : ℕ) → length terms ≤ j + done → j < length terms → HasLeaf trees leaves (get_or terms j d)
  pub fresh : (j d : ℕ) → j + done < length terms → get nat_cmp leaves (get_or terms j d) ≡ None

is_at_eq : (t u : ℕ) → is_at (nat_cmp t) u ≡ (t == u)
is_at_eq t u = grind (arith, common_steps)

-- an item of a list, whatever is given past the end
pub any_default : (xs : List ℕ) (i d e : ℕ) → i < length xs → get_or xs i d ≡ get_or xs i e
any_default [] i d e l = absurd (omega arith)
any_default (x ∷ xs) zero d e l = refl
any_default (x ∷ xs) (suc i) d e l = any_default xs i d e (omega arith)

-- at the start no term's place is known
pub no_leaves : (trees : List Tree) (terms : List ℕ) (leaves : BTreeMap ℕ ℕ) → leaves.entries ≡ [] → AreLeaves trees terms leaves 0
no_leaves trees terms leaves e = record {
  known = λ j d l h. absurd (omega arith);
  fresh = λ j d l. rw e refl;
}

module _ (trees : List Tree) (conditions terms : List ℕ) (reached : AreReached trees conditions terms) (leaves : BTreeMap ℕ ℕ) (done i t : ℕ) (at : i + 1 + done ≡ length terms) (is : (d : ℕ) → get_or terms i d ≡ t) (so_far : AreLeaves trees terms leaves done) where
  -- a term that is lower stands later
  lower_later : (j u : ℕ) → j < length terms → get_or terms j u ≡ u → u < t → i < j
  lower_later j u in' e less =
      ⊎_elim
      (λ (h : i < j). h)
      (λ (h : j ≤ i). ⊎_elim
      (λ (k : j < i). let g : get_or terms i u < get_or terms j u = reached.descending j i u k (omega arith) in let f : get_or terms i u ≡ t = is u in absurd (omega (arith, g, f, e)))
      (λ (k : i ≤ j). let same : j ≡ i = omega arith in let f : get_or terms i u ≡ t = is u in let g : get_or terms j u ≡ get_or terms i u = ap (λ k. get_or terms k u) same in absurd (omega (arith, g, f, e)))
      (cases_lt j i))
      (cases_lt i j)

  -- the place of a lower term is known
  lower_known : (u : ℕ) → u < t → Contains terms u → HasLeaf trees leaves u
  lower_known u less (j, in', e) =
      let P : ℕ → Type 0 = HasLeaf trees leaves in
      let later : i < j = lower_later j u in' e less in
      subst P e (so_far.known j u (omega arith) in')

  -- the operands' places are known
  pub operands_known : OperandsPass trees (HasLeaf trees leaves) t
  operands_known op x y l m e =
      let here : Contains terms t = (i, omega arith, is t) in
      let both = reached.closed t here op x y l m e in
      (lower_known x both.0.0 both.0.1, lower_known y both.1.0 both.1.1)

  -- another term of the list is not this one
  others : (j d : ℕ) → j < length terms → j ≢ i → t ≢ get_or terms j d
  others j d in' ne same =
      ⊎_elim
      (λ (k : j < i). let g : get_or terms i d < get_or terms j d = reached.descending j i d k (omega arith) in let f : get_or terms i d ≡ t = is d in absurd (omega (arith, g, f, same)))
      (λ (k : i ≤ j). let later : i < j = omega arith in let g : get_or terms j d < get_or terms i d = reached.descending i j d later in' in let f : get_or terms i d ≡ t = is d in absurd (omega (arith, g, f, same)))
      (cases_lt j i)

  -- the term's place is put into the map
  pub leaves_more : (new : BTreeMap ℕ ℕ) (place : ℕ) → IsLeaf (tree_of trees t) (Some place) → Updates nat_cmp leaves new t (Some place) → AreLeaves trees terms new (done + 1)
  leaves_more new place leaf updates = record {
    known = λ j d l in'. ⊎_elim
        (λ (same : j ≡ i).
        let P : ℕ → Type 0 = HasLeaf trees new in
        let Q : Option ℕ → Type 0 = IsLeaf (tree_of trees t) in
        let here : get_or terms j d ≡ t = ap (λ k. get_or terms k d) same ∙ is d in
        subst P (sym here) (subst Q (sym updates.1) leaf))
        (λ (ne : j ≢ i).
        let Q : Option ℕ → Type 0 = IsLeaf (tree_of trees (get_or terms j d)) in
        subst Q (sym (updates.2 (get_or terms j d) (is_at_eq t (get_or terms j d) ∙ ne_eqb t (get_or terms j d) (others j d in' ne)))) (so_far.known j d (omega arith) in'))
        (cases_eq j i);
    fresh = λ j d l. updates.2 (get_or terms j d) (is_at_eq t (get_or terms j d) ∙ ne_eqb t (get_or terms j d) (others j d (omega arith) (omega arith))) ∙ so_far.fresh j d (omega arith);
  }

  -- a term that reads no place is left out
  pub leaves_same : IsLeaf (tree_of trees t) None → AreLeaves trees terms leaves (done + 1)
  leaves_same leaf = record {
    known = λ j d l in'. ⊎_elim
        (λ (same : j ≡ i).
        let P : ℕ → Type 0 = HasLeaf trees leaves in
        let Q : Option ℕ → Type 0 = IsLeaf (tree_of trees t) in
        let here : get_or terms j d ≡ t = ap (λ k. get_or terms k d) same ∙ is d in
        let absent : get nat_cmp leaves t ≡ None = ap (get nat_cmp leaves) (sym (is d)) ∙ so_far.fresh i d (omega arith) in
        subst P (sym here) (subst Q (sym absent) leaf))
        (λ (ne : j ≢ i). so_far.known j d (omega arith) in')
        (cases_eq j i);
    fresh = λ j d l. so_far.fresh j d (omega arith);
  }

-- at the end every term's place is known
pub all_leaves : (trees : List Tree) (terms : List ℕ) (leaves : BTreeMap ℕ ℕ) (done : ℕ) → length terms ≤ done → AreLeaves trees terms leaves done → (t : ℕ) → Contains terms t → HasLeaf trees leaves t
all_leaves trees terms leaves done l so_far t (j, in', e) = let P : ℕ → Type 0 = HasLeaf trees leaves in subst P e (so_far.known j t (omega arith) in')

-- what holds of each reached term of which it holds of the operands holds of all
pub by_operands : (trees : List Tree) (conditions terms : List ℕ) → AreReached trees conditions terms → (P : ℕ → Type 0) → ((t : ℕ) → Contains terms t → OperandsPass trees P t → P t) → (t : ℕ) → Contains terms t → P t
by_operands trees conditions terms reached P step t h = below (t + 1) t (omega arith) h
  where
    below : (n t : ℕ) → t < n → Contains terms t → P t
    below zero t l h = absurd (omega arith)
    below (suc n) t l h = step t h (λ op x y x_in y_in e.
        let both = reached.closed t h op x y x_in y_in e in
        (below n x (let low : x < t = both.0.0 in omega arith) both.0.1, below n y (let low : y < t = both.1.0 in omega arith) both.1.1))

-- ---- tests that are steady on every term

-- labels while the terms join places
pub record AreJoining (trees : List Tree) (terms : List ℕ) (width done : ℕ) (labels : List ℕ) : Type 0 where
  pub long : length labels ≡ width
  pub parents : AreParents labels
  pub uncut : (side : ℕ → Bool) → ((t : ℕ) → Contains terms t → IsSteadyOn side (tree_of trees t)) → IsSteadyAlong side labels
  pub joined : (j d : ℕ) → j < done → (side : ℕ → Bool) → IsSteadyAlong side labels → OperandsPass trees (λ u. IsSteadyOn side (tree_of trees u)) (get_or terms j d) → IsSteadyOn side (tree_of trees (get_or terms j d))

-- at the start each place has its own
pub joining_none : (trees : List Tree) (terms : List ℕ) (width : ℕ) (labels : List ℕ) → length labels ≡ width → ((k : ℕ) → k < width → slice_index labels k ≡ k) → AreJoining trees terms width 0 labels
joining_none trees terms width labels long own = record {
  long = long;
  parents = λ k l. let e : slice_index labels k ≡ k = own k (omega arith) in omega arith;
  uncut = λ side h k l. ap side (sym (own k (omega arith)));
  joined = λ j d l. absurd (omega arith);
}

-- one more term joins places
pub joining_more : (trees : List Tree) (terms : List ℕ) (width done t : ℕ) (labels new : List ℕ) → done < length terms → t ≡ get_or terms done t → AreJoining trees terms width done labels → length new ≡ length labels → AreParents new →
    ((side : ℕ → Bool) → IsSteadyAlong side labels → IsSteadyOn side (tree_of trees t) → IsSteadyAlong side new) →
    ((side : ℕ → Bool) → IsSteadyAlong side new → IsSteadyAlong side labels) →
    ((side : ℕ → Bool) → IsSteadyAlong side new → OperandsPass trees (λ u. IsSteadyOn side (tree_of trees u)) t → IsSteadyOn side (tree_of trees t)) →
    AreJoining trees terms width (done + 1) new
joining_more trees terms width done t labels new l is so_far same parents later before joined = record {
  long = same ∙ so_far.long;
  parents = parents;
  uncut = λ side h. later side (so_far.uncut side h) (h t (done, l, sym is));
  joined = λ j d k side h. ⊎_elim
      (λ (less : j < done). so_far.joined j d less side (before side h))
      (λ (more : done ≤ j).
      let at : get_or terms j d ≡ t = ap (λ i. get_or terms i d) (let e : j ≡ done = omega arith in e) ∙ (any_default terms done d t l ∙ sym is) in
      let P : ℕ → Type 0 = λ u. OperandsPass trees (λ v. IsSteadyOn side (tree_of trees v)) u → IsSteadyOn side (tree_of trees u) in
      subst P (sym at) (joined side h))
      (cases_lt j done);
}

-- at the end they are labels
pub joining_all : (trees : List Tree) (conditions terms : List ℕ) (width done : ℕ) (labels new : List ℕ) → AreReached trees conditions terms → length terms ≤ done → AreJoining trees terms width done labels → length new ≡ length labels → JoinTheSame labels new →
    ((k : ℕ) → k < length new → slice_index new (slice_index new k) ≡ slice_index new k) → AreLabels trees terms width new
joining_all trees conditions terms width done labels new reached l so_far long same flat = record {
  long = long ∙ so_far.long;
  below = same.parents;
  flat = flat;
  whole = λ side h. by_operands trees conditions terms reached (λ t. IsSteadyOn side (tree_of trees t)) (λ t (j, in', e) pass.
      let P : ℕ → Type 0 = λ u. OperandsPass trees (λ v. IsSteadyOn side (tree_of trees v)) u → IsSteadyOn side (tree_of trees u) in
      subst P e (so_far.joined j t (omega arith) side (same.before side h)) pass);
  uncut = λ side h. same.later side (so_far.uncut side h);
}

-- a place that a term of the map has is below a bound of the places that it reads
pub leaf_below : (trees : List Tree) (leaves : BTreeMap ℕ ℕ) (n t : ℕ) → HasLeaf trees leaves t → ReadsUpTo trees n t → IsLeafBelow n leaves t
leaf_below trees leaves n t leaf below = go (get nat_cmp leaves t) leaf
  where
    go : (r : Option ℕ) → IsLeaf (tree_of trees t) r → IfSome r (λ i. i < n)
    go (Some i) r = below i r
    go None r = tt
