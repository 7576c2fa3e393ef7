-- Lanes of terms, the table of them, and the values that pass.
use Rattle.std.proofs.Common.{◌≡◌, ◌≢◌, ℕ, ◌+◌, ◌<◌, ◌&&◌, Bool, true, false, List, [], length, get_or, take, refl, sym, ◌∙◌, ap, inl, inr, arith}
use Rattle.std.specs.Prelude.{nat_eq, replicate, slice_index, slice_index_or, slice_set, bit_xor}
use Rattle.std.proofs.lemmas.List.{get_or-set_same, get_or-set_other, get_or-replicate}
use Rattle.std.proofs.lemmas.List.Folds.{list_all-map, list_all_more}
use Rattle.std.proofs.lemmas.Bool.{cases_lt}
use Rattle.term_model.specs.declared.Op.{Op}
use Rattle.term_model.specs.Tree.{Tree, Const, Input, Apply}
use Rattle.term_model.specs.Value.{op_value, val}
use Rattle.term_model.specs.Conditions.{holds}
use Rattle.term_arena.specs.Trees.{tree_of, trees_of}
use Rattle.input_laws.specs.Sets.{freed}
use Rattle.narrow_solve.proofs.TriedLemmas.{AreTried, tried_more}
use Rattle.narrow_solve.proofs.ValueLemmas.{freed_of_byte}
use Rattle.narrow_solve.specs.declared.table.Table.{Table}
use Rattle.narrow_solve.specs.Lanes.{IsOperated, IsCounted, AreLanes, AreKept, ArePassing}
use Rattle.narrow_solve.specs.Table.{IsTable}

-- one lane more has what it is to have
pub lane_more : {X : Type 0} (f : ℕ → X) (lanes : List X) (d : X) (v : ℕ) (x : X) → v < length lanes → ((w : ℕ) → w < v → get_or lanes w d ≡ f w) → x ≡ f v → (w : ℕ) → w < v + 1 → get_or (slice_set lanes v x) w d ≡ f w
lane_more f lanes d v x within so_far is w l = elim (cases_lt w v) [
  | inl less ↦ get_or-set_other lanes v w x d (λ e. omega arith) ∙ so_far w less
  | inr more ↦ let same : w ≡ v = omega arith in rw same (get_or-set_same lanes v x d within ∙ is)
]

-- ---- the lanes of a term

pub lanes_of_constant : (value : ℕ) (input : List ℕ) (place : ℕ) → AreLanes (Const value) input place (replicate 256 value)
lanes_of_constant value input place = record { at = λ v l. get_or-replicate 256 v value 0 l }

pub lanes_of_byte : (input : List ℕ) (place : ℕ) (lanes : List ℕ) → place < length input → IsCounted 256 lanes → AreLanes (Input place) input place lanes
lanes_of_byte input place lanes within is = record { at = λ v l. is v l ∙ sym (get_or-set_same input place v 0 within) }

pub lanes_of_other : (input : List ℕ) (i place byte : ℕ) → i ≢ place → byte ≡ slice_index input i → AreLanes (Input i) input place (replicate 256 byte)
lanes_of_other input i place byte apart is = record { at = λ v l. get_or-replicate 256 v byte 0 l ∙ (is ∙ sym (get_or-set_other input place i v 0 apart)) }

pub lanes_of_operation : (op : Op) (s t : Tree) (input : List ℕ) (place : ℕ) (a b lanes : List ℕ) → AreLanes s input place a → AreLanes t input place b → IsOperated op a b 256 lanes → AreLanes (Apply op s t) input place lanes
lanes_of_operation op s t input place a b lanes first second is = record {
  at = λ v l. is v l ∙ (ap (λ x. op_value op x (slice_index b v)) (first.at v l) ∙ ap (op_value op (val s (slice_set input place v))) (second.at v l));
}

-- ---- the table

abbrev pub table_of : List ℕ → List (List ℕ) → ℕ → Table
table_of terms lanes count = record { terms = terms; lanes = lanes; count = count }

-- a table with no place in use
pub table_none : (trees : List Tree) (input : List ℕ) (place : ℕ) (table : Table) → table.count ≡ 0 → IsTable trees input place table
table_none trees input place table none = record { room = omega arith; valued = λ k l. absurd (omega arith) }

-- one term more
pub table_more : (trees : List Tree) (input : List ℕ) (place : ℕ) (terms : List ℕ) (lanes : List (List ℕ)) (count t : ℕ) (own : List ℕ) → count < 16 → length terms ≡ 16 → length lanes ≡ 16 → IsTable trees input place (table_of terms lanes count) → AreLanes (tree_of trees t) input place own → IsTable trees input place (table_of (slice_set terms count t) (slice_set lanes count own) (count + 1))
table_more trees input place terms lanes count t own room many rows table is = record {
  room = omega arith;
  valued = λ k l. elim (cases_lt k count) [
    | inl less ↦
        let term : slice_index (slice_set terms count t) k ≡ slice_index terms k = get_or-set_other terms count k t 0 (λ e. omega arith) in
        let row : slice_index_or (slice_set lanes count own) k [] ≡ slice_index_or lanes k [] = get_or-set_other lanes count k own [] (λ e. omega arith) in
        rw (term, row) (table.valued k less)
    | inr more ↦
        let same : k ≡ count = omega arith in
        let term : slice_index (slice_set terms count t) count ≡ t = get_or-set_same terms count t 0 (omega arith) in
        let row : slice_index_or (slice_set lanes count own) count [] ≡ own = get_or-set_same lanes count own [] (omega arith) in
        rw (same, term, row) is
  ];
}

-- a term that is found has its lanes
pub found_lanes : (trees : List Tree) (input : List ℕ) (place : ℕ) (table : Table) (k t : ℕ) (own : List ℕ) → IsTable trees input place table → k < table.count → slice_index table.terms k ≡ t → own ≡ slice_index_or table.lanes k [] → AreLanes (tree_of trees t) input place own
found_lanes trees input place table k t own is below term row = rw (row, ← term) (is.valued k below)

-- ---- the values that pass

-- with no condition every value passes
pub passing_none : (input : List ℕ) (place : ℕ) → ArePassing (holds []) input place (replicate 256 true)
passing_none input place = record { at = λ v l. get_or-replicate 256 v true false l }

-- the test of one condition more
holds_more : (trees : List Tree) (terms : List ℕ) (y : List ℕ) (n d : ℕ) → n < length terms → holds (trees_of trees (take (n + 1) terms)) y ≡ (holds (trees_of trees (take n terms)) y && nat_eq (val (tree_of trees (get_or terms n d)) y) 1)
holds_more trees terms y n d l =
    let one : Tree → Bool = λ s. nat_eq (val s y) 1 in
    list_all-map one (tree_of trees) (take (n + 1) terms)
    ∙ (list_all_more (λ t. one (tree_of trees t)) terms n d l
    ∙ ap (λ b. b && one (tree_of trees (get_or terms n d))) (sym (list_all-map one (tree_of trees) (take n terms))))

-- one condition more
pub passing_more : (trees : List Tree) (terms : List ℕ) (input : List ℕ) (place n t : ℕ) (passes kept : List Bool) (lanes : List ℕ) → n < length terms → t ≡ get_or terms n t → ArePassing (holds (trees_of trees (take n terms))) input place passes → AreLanes (tree_of trees t) input place lanes → AreKept passes lanes 256 kept → ArePassing (holds (trees_of trees (take (n + 1) terms))) input place kept
passing_more trees terms input place n t passes kept lanes within is so_far own keeps = record {
  at = λ v l.
      let y : List ℕ = slice_set input place v in
      keeps v l
      ∙ (ap (λ b. b && nat_eq (slice_index lanes v) 1) (so_far.at v l)
      ∙ (ap (λ x. holds (trees_of trees (take n terms)) y && nat_eq x 1) (own.at v l)
      ∙ (ap (λ u. holds (trees_of trees (take n terms)) y && nat_eq (val (tree_of trees u) y) 1) is
      ∙ sym (holds_more trees terms y n t within))));
}

-- a value that passes is freed
pub passing_freed : (test : List ℕ → Bool) (input : List ℕ) (place v : ℕ) (passes : List Bool) → v < 256 → ArePassing test input place passes → freed test input place v ≡ slice_index_or passes v false
passing_freed test input place v passes l is = freed_of_byte test input place v l ∙ sym (is.at v l)

-- the value of the turn fails, and the bytes stay
pub tried_still : (test : List ℕ → Bool) (mask : ℕ) (y : List ℕ) (i turn : ℕ) → AreTried test mask y y i turn → test (slice_set y i (bit_xor turn mask)) ≡ false → AreTried test mask y y i (turn + 1)
tried_still test mask y i turn so_far e =
    let more : AreTried test mask y (slice_set y i (bit_xor turn mask)) i (turn + 1) = tried_more test mask y y i turn so_far e in
    record { aside = λ v. refl; failed = more.failed }
