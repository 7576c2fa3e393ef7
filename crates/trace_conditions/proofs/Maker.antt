-- The normal form makes terms as the law of the conditions asks.
use Rattle.std.proofs.Common.{◌≡◌, ℕ, ◌<◌, ◌^◌, List}
use Rattle.term_model.specs.declared.Op.{Op}
use Rattle.term_model.specs.declared.Op.TheVariants.{Alu, Eq}
use Rattle.rv_word.specs.declared.AluOp.TheVariants.{Slt, Sltu}
use Rattle.term_model.specs.Tree.{Tree, Const, Input, Apply}
use Rattle.term_model.specs.Value.{val, op_value}
use Rattle.term_model.specs.Words.{HasWords, AreBytes}
use Rattle.term_model.specs.ByteNumber.{TakesByteNumber}
use Rattle.term_model.specs.Places.{ReadsNothing}
use Rattle.normal_form.specs.Norm.{norm}
use Rattle.normal_form.specs.Normal.{IsNormal}
use Rattle.normal_form.specs.Laws.{AreNormalOperands}
use Rattle.replay_law.specs.Making.{IsMaker, IsCarefulMaker, IsConstant}
use Rattle.trace_conditions.proofs.Reading.{norm_reads}
use Rattle.trace_conditions.proofs.Comparing.{norm_truth}

-- a normal term has words as constants
normal_words : (t : Tree) → IsNormal t → HasWords t
normal_words (Const c) h = h
normal_words (Input i) h = tt
normal_words (Apply op a b) h = (normal_words a h.0, normal_words b h.1)

-- from the laws of the normal form
pub norm_maker : ((op : Op) (a b : Tree) → IsNormal a → IsNormal b → TakesByteNumber op b → IsNormal (norm op a b))
    → ((op : Op) (a b : Tree) (input : List ℕ) → AreNormalOperands op a b input → val (norm op a b) input ≡ op_value op (val a input) (val b input))
    → ((t : Tree) (input : List ℕ) → HasWords t → AreBytes input → val t input < 2 ^ 32)
    → IsMaker norm IsNormal
norm_maker gives keeps words = record {
  constant = λ c h. h;
  input = λ i. tt;
  gives = gives;
  keeps = λ op a b y p q r bs. keeps op a b y (record { first = p; second = q; byte = r; bytes = bs });
  first = λ op a b h. h.0;
  second = λ op a b h. h.1;
  words = λ t y h bs. words t y (normal_words t h) bs;
}

-- from the law of terms that read nothing
pub norm_careful : ((t : Tree) → IsNormal t → ReadsNothing t → IsConstant t) → IsCarefulMaker norm IsNormal
norm_careful closed = record {
  constants = normal_words;
  places = λ n op a b. norm_reads n op a b;
  equals = λ a b h k. norm_truth Eq a b tt;
  less = λ a b h k. norm_truth (Alu Slt) a b tt;
  below = λ a b h k. norm_truth (Alu Sltu) a b tt;
  closed = closed;
}
