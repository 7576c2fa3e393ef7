-- Where one rule leads, over plain variables.
use Rattle.std.proofs.Common.{◌≡◌, ℕ, ◌<◌, List, length, Some, None, refl, ap, sym, ◌∙◌, subst}
use Rattle.std.specs.Prelude.{Result, Ok, Err, IfOk}
use Rattle.term_model.specs.declared.Op.{Op}
use Rattle.term_model.specs.declared.Op.TheVariants.{Eq}
use Rattle.term_model.specs.Tree.{Tree, Const, Apply}
use Rattle.term_model.specs.Value.{op_value, val}
use Rattle.term_model.specs.Words.{AreBytes}
use Rattle.term_arena.specs.Trees.{tree_of, Extends}
use Rattle.term_arena.proofs.TreeLemmas.{extends_itself, extends_then}
use Rattle.normal_form.specs.Plan.{Is, Make}
use Rattle.normal_form.specs.Rules.{first_rule}
use Rattle.normal_form.specs.Norm.{norm}
use Rattle.normal_form.specs.Normal.{IsNormal}
use Rattle.term_model.specs.ByteNumber.{TakesByteNumber}
use Rattle.normal_form.proofs.MakeLemmas.{norm_of_rule, norm_of_none, measure_of_one}
use Rattle.normal_form.proofs.NormalLemmas.{norm_normal, norm_good}
use Rattle.simplify.specs.Steps.{IsMade, LeadsTo, LeadsToNotZero, IsOnTheWay}

-- what holds of a term that was made holds in another form
pub if_made : {E : Type 0} (r : Result ℕ E) (P Q : ℕ → Type 0) → IfOk r P → ((t : ℕ) → P t → Q t) → IfOk r Q
if_made (Ok t) P Q h f = f t h
if_made (Err e) P Q h f = tt

-- the normal form of normal operands is normal, and has the operation's value
module _ {E : Type 0} (r : Result ℕ E) (new : List Tree) (op : Op) (a b : Tree) (first : IsNormal a) (second : IsNormal b) (byte : TakesByteNumber op b) (made : IfOk r (λ t. tree_of new t ≡ norm op a b)) where
  pub made_normal : IfOk r (λ t. IsNormal (tree_of new t))
  made_normal =
      if_made r (λ t. tree_of new t ≡ norm op a b) (λ t. IsNormal (tree_of new t)) made
      (λ t e. subst IsNormal (sym e) (norm_normal op a b first second byte))

  pub made_value : IfOk r (λ t. (input : List ℕ) → AreBytes input → val (tree_of new t) input ≡ op_value op (val a input) (val b input))
  made_value =
      if_made r (λ t. tree_of new t ≡ norm op a b) (λ t. (input : List ℕ) → AreBytes input → val (tree_of new t) input ≡ op_value op (val a input) (val b input)) made
      (λ t e input bytes. ap (λ x. val x input) e ∙ (norm_good input bytes op a b (record { first = first; second = second; byte = byte })).value)

-- the operation itself
pub made_of_none : (new : List Tree) (op : Op) (a b : Tree) (t : ℕ) → None ≡ first_rule op a b → t < length new → tree_of new t ≡ Apply op a b → IsMade new op a b t
made_of_none new op a b t e l s = record { below = l; tree = s ∙ sym (norm_of_none op a b (sym e)) }

-- a tree that is there
pub made_of_tree : (new : List Tree) (op : Op) (a b x : Tree) (t : ℕ) → Some (Is x) ≡ first_rule op a b → t < length new → tree_of new t ≡ x → IsMade new op a b t
made_of_tree new op a b x t e l s = record { below = l; tree = s ∙ sym (norm_of_rule op a b (Is x) (sym e)) }

-- an operation on two trees that are there
pub leads_to : (new : List Tree) (op : Op) (a b : Tree) (o : Op) (x y : Tree) (s t : ℕ) → Some (Make o (Is x) (Is y)) ≡ first_rule op a b → s < length new → t < length new → tree_of new s ≡ x → tree_of new t ≡ y → LeadsTo new op a b o s t
leads_to new op a b o x y s t e l m p q = record {
  first = l;
  second = m;
  same = rw (p, q) (sym (norm_of_rule op a b (Make o (Is x) (Is y)) (sym e)));
  lower = rw (p, q) (measure_of_one op a b o x y (sym e));
}

-- whether a term isn't 0
pub leads_to_not_zero : (new : List Tree) (op : Op) (a b x : Tree) (t : ℕ) → Some (Make Eq (Make Eq (Is x) (Is (Const 0))) (Is (Const 0))) ≡ first_rule op a b → t < length new → tree_of new t ≡ x → LeadsToNotZero new op a b t
leads_to_not_zero new op a b x t e l p = record {
  below = l;
  same = rw p (sym (norm_of_rule op a b (Make Eq (Make Eq (Is x) (Is (Const 0))) (Is (Const 0))) (sym e)));
}

-- no step is made yet
pub starts : (trees : List Tree) (op : Op) (s t : ℕ) → s < length trees → t < length trees → IsOnTheWay trees trees op (tree_of trees s) (tree_of trees t) op s t
starts trees op s t l m = record { first = l; second = m; same = refl; keeps = extends_itself trees }

-- one more step that a rule leads to
pub goes_on : (old now new : List Tree) (op : Op) (a b : Tree) (o : Op) (s t : ℕ) (o' : Op) (s' t' : ℕ) → IsOnTheWay old now op a b o s t → LeadsTo new o (tree_of now s) (tree_of now t) o' s' t' → Extends now new → IsOnTheWay old new op a b o' s' t'
goes_on old now new op a b o s t o' s' t' w l k = record {
  first = l.first;
  second = l.second;
  same = l.same ∙ w.same;
  keeps = extends_then old now new w.keeps k;
}
