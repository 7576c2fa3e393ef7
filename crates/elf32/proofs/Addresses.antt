-- The tests of ranges say whether an address lies in two.
use Rattle.std.proofs.Common.{◌≡◌, ℕ, ◌<◌, List, [], ◌∷◌, length, get_or, sym, ◌∙◌, arith, true, inl, inr, ltb-true, lt-ltb, zero, suc, min, max, subst}
use Rattle.std.specs.List.{list_any}
use Rattle.std.proofs.lemmas.Bool.{or_cases, or_left, or_right}
use Rattle.std.proofs.lemmas.List.{get_or_default}
use Rattle.std.proofs.lemmas.List.Folds.{Any-from_list_any, list_any_at}
use Rattle.elf32.specs.declared.span.Span.{Span}
use Rattle.elf32.specs.Spans.{stack, end_of, share, overlap, HaveCommon, TwoHaveCommon}

pub common_of_share : (s t : Span) → share s t ≡ true → HaveCommon s t
common_of_share s t e =
    let h : max s.base t.base < min (end_of s) (end_of t) = ltb-true _ _ e in
    (max s.base t.base, (omega arith, omega arith), (omega arith, omega arith))

pub share_of_common : (s t : Span) → HaveCommon s t → share s t ≡ true
share_of_common s t h = lt-ltb _ _ (omega (arith, h.1.0, h.1.1, h.2.0, h.2.1))

pub common_of_overlap : (ss : List Span) → overlap ss ≡ true → TwoHaveCommon ss
unfolding overlap
common_of_overlap [] e = absurd (cc)
common_of_overlap (s ∷ ss) e =
    elim (or_cases (list_any (share s) ss) (overlap ss) e) [
      | inl here ↦
          let found = Any-from_list_any (share s) ss here in
          let same : get_or ss found.0 stack ≡ found.1 = get_or_default ss found.0 stack found.1 found.2 ∙ found.3 in
          record {
            first = 0;
            second = suc found.0;
            later = omega arith;
            within = omega (arith, found.2);
            common = subst (λ (u : Span). HaveCommon s u) (sym same) (common_of_share s found.1 found.4);
          }
      | inr rest ↦
          let h : TwoHaveCommon ss = common_of_overlap ss rest in
          record {
            first = suc h.first;
            second = suc h.second;
            later = omega (arith, h.later);
            within = omega (arith, h.within);
            common = h.common;
          }
    ]

at_two : (ss : List Span) (i j : ℕ) → i < j → j < length ss → HaveCommon (get_or ss i stack) (get_or ss j stack) → overlap ss ≡ true
unfolding overlap
at_two [] i j lt within common = absurd (omega arith)
at_two (s ∷ ss) i zero lt within common = absurd (omega arith)
at_two (s ∷ ss) zero (suc j) lt within common =
    or_left (list_any (share s) ss) (overlap ss) (list_any_at (share s) ss j stack (omega arith) (share_of_common s (get_or ss j stack) common))
at_two (s ∷ ss) (suc i) (suc j) lt within common = or_right (list_any (share s) ss) (overlap ss) (at_two ss i j (omega arith) (omega arith) common)

pub overlap_of_common : (ss : List Span) → TwoHaveCommon ss → overlap ss ≡ true
overlap_of_common ss h = at_two ss h.first h.second h.later h.within h.common
