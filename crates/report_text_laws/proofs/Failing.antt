-- Bytes fail to be a report's text at one line.
use Rattle.std.proofs.Common.{◌≡◌, ◌∙◌, ◌-◌, ◌<◌, ◌≤◌, ℕ, List, ◌++◌, take, drop, arith, sym, ap, ⊎_elim, append_assoc}
use Rattle.std.proofs.lemmas.Bool.{cases_lt}
use Rattle.std.proofs.lemmas.List.{take-append-drop, take-take}
use Rattle.text_lines.specs.Lines.{joined}
use Rattle.text_lines.proofs.LineLemmas.{joined-append}
use Rattle.report_format.specs.Text.{Content, lines}
use Rattle.report_format.specs.Reading.{BeginsAs, FailsAt}

-- bytes that begin with some lines begin with fewer of them
fewer : (m n : ℕ) (content : Content) (bytes : List ℕ) → m ≤ n → BeginsAs n content bytes → BeginsAs m content bytes
fewer m n content bytes less begins =
    let first : take m (take n (lines content)) ≡ take m (lines content) = take-take m n (lines content) less in
    let cut : take n (lines content) ≡ take m (lines content) ++ drop m (take n (lines content)) =
    sym (take-append-drop m (take n (lines content))) ∙ ap (λ ls. ls ++ drop m (take n (lines content))) first in
    record {
      report = begins.report;
      enough = omega (arith, begins.enough, less);
      rest = joined (drop m (take n (lines content))) ++ begins.rest;
      parts = begins.parts
          ∙ (ap (λ ls. joined ls ++ begins.rest) cut
          ∙ (ap (λ t. t ++ begins.rest) (joined-append (take m (lines content)) (drop m (take n (lines content))))
          ∙ append_assoc (joined (take m (lines content))) (joined (drop m (take n (lines content)))) begins.rest));
    }

not_later : (bytes : List ℕ) (m n : ℕ) → FailsAt m bytes → FailsAt n bytes → m < n → ⊥
not_later bytes m n first later less = first.fails later.like (fewer m (n - 1) later.like bytes (omega arith) later.earlier)

pub one-line : (bytes : List ℕ) (m n : ℕ) → FailsAt m bytes → FailsAt n bytes → m ≡ n
one-line bytes m n a b = ⊎_elim
    (λ (less : m < n). absurd (not_later bytes m n a b less))
    (λ (enough : n ≤ m). ⊎_elim
    (λ (more : n < m). absurd (not_later bytes n m b a more))
    (λ (same : m ≤ n). omega arith)
    (cases_lt n m))
    (cases_lt m n)
