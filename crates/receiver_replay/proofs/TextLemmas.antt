-- Of the texts of two reports the bytes differ first in the line in which the lines do.
use Rattle.std.proofs.Common.{◌≡◌, ◌∙◌, ◌≤◌, ℕ, List, Option, sym, ap, arith}
use Rattle.report_format.specs.Text.{Content, IsReport, lines, text}
use Rattle.report_format.proofs.LineLemmas.{lines-unbroken, lines-count}
use Rattle.receiver_replay.specs.Difference.{first_difference, byte_difference, line_ends}
use Rattle.receiver_replay.proofs.DifferenceLemmas.{joined_difference, ends_of_lines}

pub few_lines : (a : Content) (bytes : List ℕ) → IsReport a → bytes ≡ text a → line_ends bytes ≤ 100000
unfolding text
few_lines a bytes is same = omega (arith, ap line_ends same, ends_of_lines (lines a) (lines-unbroken a is), lines-count a is)

pub by_lines : (a b : Content) (left right : List ℕ) (given : Option ℕ) → IsReport a → IsReport b → left ≡ text a → right ≡ text b → given ≡ byte_difference 1 left right
    → given ≡ first_difference 1 (lines a) (lines b)
unfolding text
by_lines a b left right given is-a is-b same-a same-b found =
    found ∙ ((λ i. byte_difference 1 (same-a i) (same-b i)) ∙ joined_difference 1 (lines a) (lines b) (lines-unbroken a is-a) (lines-unbroken b is-b))
