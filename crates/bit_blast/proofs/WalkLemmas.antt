-- Rows of terms, from the last term back.
use Rattle.std.proofs.Common.{◌≡◌, ◌≢◌, ℕ, zero, suc, ◌+◌, ◌<◌, ◌≤◌, ◌==◌, List, [], ◌∷◌, Option, Some, None, ◌⊎◌, inl, inr, length, get_or, refl, sym, ◌∙◌, ap, subst, arith, ⊎_elim}
use Rattle.std.specs.Prelude.{Contains, is_some, true, false}
use Rattle.std.specs.Global.{Vec}
use Rattle.std.specs.Ordering.{nat_cmp}
use Rattle.std.specs.BTreeMap.{BTreeMap, get, Updates, ContainsKey, is_at}
use Rattle.std.proofs.lemmas.Bool.{ne_eqb, cases_lt, cases_eq}
use Rattle.std.proofs.lemmas.Grind.{common_steps}
use Rattle.std.specs.Prelude.{Result, Ok, Err, IfOk}
use Rattle.term_model.specs.declared.Op.{Op}
use Rattle.term_model.specs.Tree as terms
use Rattle.term_model.specs.Tree.{Const, Input, Apply}
use Rattle.gate_model.specs.Makers.{tree_gates}
use Rattle.word_bits.specs.Operations.{constant_bits}
use Rattle.blast_model.specs.Blast.{gates, op_bits, input_bits}
use Rattle.gate_net.specs.Lits.{AreNamed}
use Rattle.word_gates.specs.Lits.{HasYes, AreMade}
use Rattle.term_arena.specs.Trees.{tree_of, Extends as ArenaExtends}
use Rattle.gate_model.specs.Tree.{Tree}
use Rattle.gate_net.specs.declared.literals.Lit.{Lit}
use Rattle.gate_net.specs.Trees.{all_signed_of, Extends}
use Rattle.reached_terms.specs.Reached.{OperandsPass, AreReachedPast}
use Rattle.bit_blast.specs.Rows.{IsRow, AreRows, KeepRows, row_of}
use Rattle.word_gates.proofs.NetLemmas.{kept_all, still_all, turns, itself}

pub kept_row : (old new : List Tree) (t : terms.Tree) (ls : List Lit) → Extends old new → IsRow old t ls → IsRow new t ls
kept_row old new t ls k r = record { below = still_all old new ls k r.below; trees = kept_all old new ls k r.below ∙ r.trees; width = r.width }

-- rows stay those of their terms where the arena and the net grow
pub stay : (arena arena' : List terms.Tree) (net net' : List Tree) (rows : List (ℕ × List Lit)) → ArenaExtends arena arena' → Extends net net' → AreRows arena net rows → AreRows arena' net' rows
stay arena arena' net net' rows grows k are t ls e =
    let known = are t ls e in
    let Q : terms.Tree → Type 0 = λ tree. IsRow net' tree ls in
    (omega (arith, known.0, grows.longer), subst Q (sym (grows.same t known.0)) (kept_row net net' (tree_of arena t) ls k known.1))

same_arena : (arena : List terms.Tree) → ArenaExtends arena arena
same_arena arena = record { longer = omega arith; same = λ t h. refl }

pub rows_grow : (arena : List terms.Tree) (net net' : List Tree) (rows : List (ℕ × List Lit)) → Extends net net' → AreRows arena net rows → AreRows arena net' rows
rows_grow arena net net' rows k are = stay arena arena net net' rows (same_arena arena) k are

some_is : {X : Type 0} → (o : Option X) → is_some o ≡ true → (x : X) × (o ≡ Some x)
some_is (Some x) e = (x, refl)
some_is None e = let f : false ≡ true = e in let g : ⊥ = cc in absurd g

is_some_from : {X : Type 0} → (o : Option X) (x : X) → o ≡ Some x → is_some o ≡ true
is_some_from o x e = ap is_some e

-- the row of a term that has one
pub known_row : (arena : List terms.Tree) (net : List Tree) (rows : List (ℕ × List Lit)) (t : ℕ) (ls : List Lit) → AreRows arena net rows → row_of rows t ≡ Some ls → IsRow net (tree_of arena t) ls
known_row arena net rows t ls are e = (are t ls e).1

pub keep_key : (old new : BTreeMap ℕ (List Lit)) (t : ℕ) → KeepRows old.entries new.entries → ContainsKey nat_cmp old t → ContainsKey nat_cmp new t
keep_key old new t k h = let r = some_is (get nat_cmp old t) h in is_some_from (get nat_cmp new t) r.0 (k t r.0 r.1)

-- a term that had a row, or that got one, has one
pub has_key : (old new : BTreeMap ℕ (List Lit)) (terms : List ℕ) (t : ℕ) → ContainsKey nat_cmp old t ⊎ Contains terms t → KeepRows old.entries new.entries → ((u : ℕ) → Contains terms u → ContainsKey nat_cmp new u) → ContainsKey nat_cmp new t
has_key old new terms t (inl h) kept made = keep_key old new t kept h
has_key old new terms t (inr h) kept made = made t h

is_at_eq : (t u : ℕ) → is_at (nat_cmp t) u ≡ (t == u)
is_at_eq t u = grind (arith, common_steps)

-- an item of a list, whatever is given past the end
pub any_default : (xs : List ℕ) (i d e : ℕ) → i < length xs → get_or xs i d ≡ get_or xs i e
any_default [] i d e l = absurd (omega arith)
any_default (x ∷ xs) zero d e l = refl
any_default (x ∷ xs) (suc i) d e l = any_default xs i d e (omega arith)

-- the last terms have rows, and so has each that had one
pub record AreMaking (arena : List terms.Tree) (start net : List Tree) (terms : List ℕ) (first rows : BTreeMap ℕ (List Lit)) (done : ℕ) : Type 0 where
  pub keeps : Extends start net
  pub kept : KeepRows first.entries rows.entries
  pub are : AreRows arena net rows.entries
  pub known : (j d : ℕ) → length terms ≤ j + done → j < length terms → ContainsKey nat_cmp rows (get_or terms j d)

pub no_rows : (arena : List terms.Tree) (net : List Tree) (terms : List ℕ) (rows : BTreeMap ℕ (List Lit)) → AreRows arena net rows.entries → AreMaking arena net net terms rows rows 0
no_rows arena net terms rows are = record { keeps = itself net; kept = λ t ls e. e; are = are; known = λ j d l h. absurd (omega arith) }

module _ (arena : List terms.Tree) (start net : List Tree) (conditions terms : List ℕ) (first : BTreeMap ℕ (List Lit)) (reached : AreReachedPast arena (ContainsKey nat_cmp first) conditions terms) (rows : BTreeMap ℕ (List Lit)) (done i t : ℕ) (at : i + 1 + done ≡ length terms) (is : (d : ℕ) → get_or terms i d ≡ t) (so_far : AreMaking arena start net terms first rows done) where
  -- a term that is lower stands later
  lower_later : (j u : ℕ) → j < length terms → get_or terms j u ≡ u → u < t → i < j
  lower_later j u in' e less =
      ⊎_elim
      (λ (h : i < j). h)
      (λ (h : j ≤ i). ⊎_elim
      (λ (k : j < i). let g : get_or terms i u < get_or terms j u = reached.descending j i u k (omega arith) in let f : get_or terms i u ≡ t = is u in absurd (omega (arith, g, f, e)))
      (λ (k : i ≤ j). let same : j ≡ i = omega arith in let f : get_or terms i u ≡ t = is u in let g : get_or terms j u ≡ get_or terms i u = ap (λ k. get_or terms k u) same in absurd (omega (arith, g, f, e)))
      (cases_lt j i))
      (cases_lt i j)

  -- a lower term has a row
  lower_known : (u : ℕ) → u < t → ContainsKey nat_cmp first u ⊎ Contains terms u → ContainsKey nat_cmp rows u
  lower_known u less (inl h) = keep_key first rows u so_far.kept h
  lower_known u less (inr (j, in', e)) =
      let P : ℕ → Type 0 = ContainsKey nat_cmp rows in
      let later : i < j = lower_later j u in' e less in
      subst P e (so_far.known j u (omega arith) in')

  here : Contains terms t
  here = (i, omega arith, is t)

  -- the operands have rows
  pub operands_known : OperandsPass arena (ContainsKey nat_cmp rows) t
  operands_known op x y l m e =
      let both = reached.closed t here op x y l m e in
      (lower_known x both.0.0 both.0.1, lower_known y both.1.0 both.1.1)

  module _ (next : List Tree) (grows : Extends net next) where
    -- the net grew, and no row came
    pub net_more : AreMaking arena start next terms first rows done
    net_more = record { keeps = turns start net next so_far.keeps grows; kept = so_far.kept; are = rows_grow arena net next rows.entries grows so_far.are; known = so_far.known }

    module _ (new : BTreeMap ℕ (List Lit)) (row : List Lit) (made : IsRow next (tree_of arena t) row) (updates : Updates nat_cmp rows new t (Some row)) where
      -- a row of the new map is that of the term or an old one
      row_cases : (u : ℕ) (ls : List Lit) → get nat_cmp new u ≡ Some ls → ((u ≡ t) × (row ≡ ls)) ⊎ (get nat_cmp rows u ≡ Some ls)
      row_cases u ls e = ⊎_elim
          (λ (same : u ≡ t).
          let f : get nat_cmp new u ≡ Some row = ap (get nat_cmp new) same ∙ updates.1 in
          inl (same, cc))
          (λ (ne : u ≢ t). inr (sym (updates.2 u (is_at_eq t u ∙ ne_eqb t u (λ h. ne (sym h)))) ∙ e))
          (cases_eq u t)

      old_stays : (u : ℕ) (ls : List Lit) → u ≢ t → get nat_cmp rows u ≡ Some ls → get nat_cmp new u ≡ Some ls
      old_stays u ls ne e = updates.2 u (is_at_eq t u ∙ ne_eqb t u (λ h. ne (sym h))) ∙ e

      known_more : (u : ℕ) → (u ≡ t) ⊎ ContainsKey nat_cmp rows u → ContainsKey nat_cmp new u
      known_more u (inl same) = is_some_from (get nat_cmp new u) row (ap (get nat_cmp new) same ∙ updates.1)
      known_more u (inr h) = ⊎_elim
          (λ (same : u ≡ t). is_some_from (get nat_cmp new u) row (ap (get nat_cmp new) same ∙ updates.1))
          (λ (ne : u ≢ t). let r = some_is (get nat_cmp rows u) h in is_some_from (get nat_cmp new u) r.0 (old_stays u r.0 ne r.1))
          (cases_eq u t)

      -- the term's row is put into the map
      pub rows_more : AreMaking arena start next terms first new (done + 1)
      rows_more = record {
        keeps = turns start net next so_far.keeps grows;
        kept = λ u ls e. old_stays u ls (λ same. reached.unknown t here (subst (ContainsKey nat_cmp first) same (is_some_from (get nat_cmp first u) ls e))) (so_far.kept u ls e);
        are = λ u ls e. elim (row_cases u ls e) [
          | inl same ↦
              let P : ℕ → Type 0 = λ v. (v < length arena) × IsRow next (tree_of arena v) ls in
              let Q : List Lit → Type 0 = IsRow next (tree_of arena t) in
              subst P (sym same.0) (reached.belong t here, subst Q same.1 made)
          | inr old ↦ rows_grow arena net next rows.entries grows so_far.are u ls old
        ];
        known = λ j d l in'. ⊎_elim
            (λ (same : j ≡ i). known_more (get_or terms j d) (inl (ap (λ k. get_or terms k d) same ∙ is d)))
            (λ (ne : j ≢ i). known_more (get_or terms j d) (inr (so_far.known j d (omega arith) in')))
            (cases_eq j i);
      }

-- at the end each term has a row
pub all_rows : (arena : List terms.Tree) (start net : List Tree) (terms : List ℕ) (first rows : BTreeMap ℕ (List Lit)) (done : ℕ) → length terms ≤ done → AreMaking arena start net terms first rows done → (t : ℕ) → Contains terms t → ContainsKey nat_cmp rows t
all_rows arena start net terms first rows done l so_far t (j, in', e) = let P : ℕ → Type 0 = ContainsKey nat_cmp rows in subst P e (so_far.known j t (omega arith) in')

-- ---- one row

pub constant_row : {E : Type 0} (net : List Tree) (t : terms.Tree) (v : ℕ) (r : Result (Vec Lit) E) → HasYes net → 0 < length net → t ≡ Const v →
    IfOk r (λ r. (n : ℕ) → 0 < n → AreNamed n r.items) → IfOk r (λ r. AreMade r.items (λ net. constant_bits tree_gates v)) → IfOk r (λ r. length r.items ≡ 32) → IfOk r (λ r. IsRow net t r.items)
unfolding gates
constant_row net t v (Ok r) has some e below trees width = record { below = below (length net) some; trees = trees net has ∙ ap gates (sym e); width = width }
constant_row net t v (Err x) has some e below trees width = tt

pub input_row : {E : Type 0} (net : List Tree) (t : terms.Tree) (i : ℕ) (r : Result (Vec Lit) E) → t ≡ Input i →
    IfOk r (λ r. AreNamed (length net) r.items) → IfOk r (λ r. all_signed_of net r.items ≡ input_bits i) → IfOk r (λ r. length r.items ≡ 32) → IfOk r (λ r. IsRow net t r.items)
unfolding gates
input_row net t i (Ok r) e below trees width = record { below = below; trees = trees ∙ ap gates (sym e); width = width }
input_row net t i (Err x) e below trees width = tt

pub operation_row : {E : Type 0} (old net : List Tree) (t first second : terms.Tree) (op : Op) (a b : List Lit) (r : Result (Vec Lit) E) → t ≡ Apply op first second → IsRow old first a → IsRow old second b →
    IfOk r (λ r. AreNamed (length net) r.items) → IfOk r (λ r. all_signed_of net r.items ≡ op_bits tree_gates op (all_signed_of old a) (all_signed_of old b)) → IfOk r (λ r. length r.items ≡ 32) → IfOk r (λ r. IsRow net t r.items)
unfolding gates
operation_row old net t first second op a b (Ok r) e x y below trees width = record {
  below = below;
  trees = trees ∙ ap (λ l. op_bits tree_gates op l (all_signed_of old b)) x.trees ∙ ap (op_bits tree_gates op (gates first)) y.trees ∙ ap gates (sym e);
  width = width;
}
operation_row old net t first second op a b (Err x) e y z below trees width = tt
