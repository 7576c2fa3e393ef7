use Rattle.std.proofs.Common.{◌≡◌, ◌≢◌, ℕ, List, length, get_or, ap, subst, sym, ◌∙◌, arith}
use Rattle.std.specs.Str.{IsUtf8}
use Rattle.std.proofs.lemmas.Fmt.{decimal_nonempty}
use Rattle.std.proofs.lemmas.Bool.{eqb-true, eqb-false}
use Rattle.decimal_text.proofs.DecimalLemmas.{decimal-IsUtf8, decimal-first, decimal-zero, parsed-some, parsed-none}
use Rattle.decimal_text.proofs.read_decimal.Goals as goal
use Rattle.decimal_text.proofs.read_decimal.Goals.{then-is_empty-via-then-is_empty, then-is_empty-via-else-is_empty+then-text-eq43, else-text-gt1-via-then-text-gt1+else-text-eq48, else-text-gt1-via-else-text-gt1}

pub returns-then-is_empty-clause-none : goal.returns-then-is_empty-clause-none
returns-then-is_empty-clause-none c = λ none n small is.
    elim c.then-is_empty.branch [
      | then-is_empty-via-then-is_empty w ↦ omega (arith, decimal_nonempty n small, ap length is, eqb-true _ 0 (sym w.if-is_empty.ensures))
      | then-is_empty-via-else-is_empty+then-text-eq43 w ↦ omega (arith, decimal-first n small, ap (λ (ds : List ℕ). get_or ds 0 0) is, w.if-text-eq43.true)
    ]

pub returns-then-text-eq48-clause-none : goal.returns-then-text-eq48-clause-none
returns-then-text-eq48-clause-none c = λ none n small is.
    let alone = decimal-zero n small (sym (ap (λ (ds : List ℕ). get_or ds 0 0) is) ∙ c.if-text-eq48.true) in
    omega (arith, alone, ap length is, c.if-text-gt1.true)

pub returns-in_default-clause-none : goal.returns-in_default-clause-none
returns-in_default-clause-none c = λ none n small is.
    c.in_default.ensures.cases.0 (subst IsUtf8 (sym is) (decimal-IsUtf8 n small))

pub returns-clause-some : goal.returns-clause-some
returns-clause-some c =
    let same = c.in-Ok.ensures.cases.0 in
    let plus : get_or c.in-Ok.digits.now 0 0 ≢ 43 = rw same c.if-text-eq43.false in
    let zero : get_or c.in-Ok.digits.now 0 0 ≡ 48 → length c.in-Ok.digits.now ≡ 1 = rw same (λ first. elim c.else-text-gt1.branch [
      | else-text-gt1-via-then-text-gt1+else-text-eq48 w ↦ absurd (w.if-text-eq48.false first)
      | else-text-gt1-via-else-text-gt1 w ↦ omega (arith, c.if-text-eq43.false, eqb-false _ 0 (sym c.if-is_empty.ensures), w.if-text-gt1.false)
    ]) in
    rw same at (parsed-some c.in-Ok.digits.now c.parse.result c.ok.result c.parse.ensures.value.0 plus zero c.ok.ensures.value)

pub returns-clause-none : goal.returns-clause-none
returns-clause-none c = λ none n small is.
    parsed-none c.in-Ok.digits.now c.parse.result c.ok.result c.parse.ensures.value.0 c.ok.ensures.value none n small (c.in-Ok.ensures.cases.0 ∙ is)
