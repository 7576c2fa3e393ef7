-- Terms in normal form.
use Rattle.std.specs.Prelude.{◌≡◌, ◌<◌, ◌^◌, None}
use Rattle.term_model.specs.Tree.{Tree, Const, Input, Apply}
use Rattle.term_model.specs.ByteNumber.{TakesByteNumber}
use Rattle.normal_form.specs.Rules.{first_rule}

-- no rule fits anywhere in the term
abbrev pub IsNormal : Tree → Type 0
IsNormal (Const c) = c < 2 ^ 32
IsNormal (Input i) = Unit {0}
IsNormal (Apply op a b) = IsNormal a × IsNormal b × TakesByteNumber op b × (first_rule op a b ≡ None)
