use Rattle.std.proofs.Common.{◌≡◌, ◌+◌, ◌-◌, ◌/◌, ◌≤◌, ◌++◌, List, Bool, true, false, take, drop, length, arith, sym, ◌∙◌, ap, subst}
use Rattle.std.proofs.lemmas.List.{take_rest}
use Rattle.gate_net.specs.declared.literals.Lit.{Lit}
use Rattle.gate_net.specs.Lits.{AreNamed}
use Rattle.unit_close.specs.Closing.{Closing, clauses_of}
use Rattle.search_model.specs.Literals.{named}
use Rattle.search_model.specs.Tests.{is_conflict}
use Rattle.clause_solver.specs.Solved.{SameClauses, HaveSame, Trims}
use Rattle.clause_solver.proofs.ReachedLemmas.{then_same}
use Rattle.clause_solver.proofs.TrimLemmas.{later_base, left_base, part_named, trims_skip, trims_keep, conflicts_grow, ok_more, new_named, old_named, new_test, old_trims, told, all_after}
use Rattle.clause_solver.proofs.learning.+trim_part.Goals as goal

pub returns-then-end-start-eq1-clause-trimmed : goal.returns-then-end-start-eq1-clause-trimmed
returns-then-end-start-eq1-clause-trimmed t c =
    let d : Lit = record { name = 0; positive = false } in
    let test : List Lit → Bool = is_conflict named (clauses_of c.args.closer.now) in
    let next : c.args.start + 1 ≡ c.args.end = omega (arith, c.if-end-start-eq1.true, c.requires.part) in
    let calm : test (c.args.trimmed.now.left.items ++ drop (c.args.start + 1) c.args.decisions.now) ≡ false = rw next c.requires.calm in
    let kept = trims_keep test c.args.decisions.now c.args.start d c.args.trimmed.now.left.items c.args.trimmed.now.before (omega (arith, c.requires.part, c.requires.within)) calm in
    subst (λ n. Trims test c.args.decisions.now c.args.start n c.args.trimmed.now.left.items c.args.trimmed.now.before c.push.new.self.items c.args.start) next
    (rw c.in_ok-push.ensures.ok kept)

pub conflicts-requires : goal.conflicts-requires
conflicts-requires t c =
    let middle = c.args.start + (c.args.end - c.args.start) / 2 in
    let items : c.as_slice.result.now ≡ c.args.base.now ++ take (c.args.end - middle) (drop middle c.args.decisions.now) = c.as_slice.ensures.value ∙ c.in_ok-later.ensures in
    subst (λ (xs : List Lit). AreNamed c.args.closer.now.names xs) (sym items)
    (part_named c.args.closer.now.names c.args.base.now c.args.decisions.now (c.args.end - middle) middle c.requires.base_named c.requires.decisions)

pub returns-then-conflicts-clause-trimmed : goal.returns-then-conflicts-clause-trimmed
returns-then-conflicts-clause-trimmed t c =
    let old : Closing = c.args.closer.now in
    let test : List Lit → Bool = is_conflict named (clauses_of old) in
    let left : List Lit = c.args.trimmed.now.left.items in
    let middle = c.args.start + (c.args.end - c.args.start) / 2 in
    let order : middle ≤ c.args.end = omega (arith, c.requires.part) in
    let items : c.as_slice.result.now ≡ c.args.base.now ++ take (c.args.end - middle) (drop middle c.args.decisions.now) = c.as_slice.ensures.value ∙ c.in_ok-later.ensures in
    let same : HaveSame c.as_slice.result.now (left ++ drop middle c.args.decisions.now) =
    subst (λ (xs : List Lit). HaveSame xs (left ++ drop middle c.args.decisions.now)) (sym items) (later_base c.args.base.now left c.args.decisions.now middle c.args.end order c.requires.base) in
    let passes : test (left ++ drop middle c.args.decisions.now) ≡ true = told old c.as_slice.result.now (left ++ drop middle c.args.decisions.now) true same (sym c.conflicts.ensures.conflict ∙ c.if-conflicts.true) in
    let new : Closing = c.conflicts.new.closer in
    let left' : List Lit = c.trim_part.new.trimmed.left.items in
    ok_more c.trim_part.result
    (λ _. Trims (is_conflict named (clauses_of new)) c.args.decisions.now middle c.args.end left c.args.trimmed.now.before left' c.trim_part.new.trimmed.before)
    (λ _. Trims test c.args.decisions.now c.args.start c.args.end left c.args.trimmed.now.before left' c.trim_part.new.trimmed.before)
    (λ _ rest.
    trims_skip test (conflicts_grow (clauses_of old)) c.args.decisions.now c.args.start middle left c.args.trimmed.now.before (omega arith) passes
    ∙ old_trims old new c.conflicts.ensures.kept c.args.decisions.now middle c.args.end left c.args.trimmed.now.before left' c.trim_part.new.trimmed.before rest)
    c.trim_part.ensures.trimmed

pub trim_part-requires-2 : goal.trim_part-requires-2
trim_part-requires-2 t c =
    let old : Closing = c.args.closer.now in
    let new : Closing = c.conflicts.new.closer in
    let kept : SameClauses old new = c.conflicts.ensures.kept in
    let left : List Lit = c.args.trimmed.now.left.items in
    let middle = c.args.start + (c.args.end - c.args.start) / 2 in
    let order : middle ≤ c.args.end = omega (arith, c.requires.part) in
    let part : List Lit = take (c.args.end - middle) (drop middle c.args.decisions.now) in
    let asked : c.as_slice.result.now ≡ c.args.base.now ++ part = c.as_slice.ensures.value ∙ c.in_ok-later.ensures in
    let items : c.as_slice-2.result.now ≡ c.args.base.now ++ part = c.as_slice-2.ensures.value ∙ c.in_ok-later.ensures in
    let based : HaveSame (c.args.base.now ++ part) (left ++ drop middle c.args.decisions.now) = later_base c.args.base.now left c.args.decisions.now middle c.args.end order c.requires.base in
    let own : List Lit → Type 0 = λ xs. HaveSame xs (left ++ drop middle c.args.decisions.now) in
    let in_base : AreNamed old.names (c.args.base.now ++ part) = part_named old.names c.args.base.now c.args.decisions.now (c.args.end - middle) middle c.requires.base_named c.requires.decisions in
    let fails : is_conflict named (clauses_of old) (left ++ drop middle c.args.decisions.now) ≡ false =
    told old c.as_slice.result.now (left ++ drop middle c.args.decisions.now) false (subst own (sym asked) based) (sym c.conflicts.ensures.conflict ∙ c.if-conflicts.false) in
    (omega (arith, c.decreases, c.if-end-start-eq1.false, c.requires.part), (omega (arith, c.if-end-start-eq1.false, c.requires.part), (omega (arith, c.requires.part, c.requires.within), (new_named old new kept c.args.decisions.now c.requires.decisions, (new_named old new kept c.as_slice-2.result.now (subst (λ (xs : List Lit). AreNamed old.names xs) (sym items) in_base), (new_named old new kept left c.requires.left, (subst own (sym items) based, new_test old new kept (left ++ drop middle c.args.decisions.now) ∙ fails)))))))

pub returns-then-conflicts-2-clause-trimmed : goal.returns-then-conflicts-2-clause-trimmed
returns-then-conflicts-2-clause-trimmed t c =
    let old : Closing = c.args.closer.now in
    let one : Closing = c.conflicts.new.closer in
    let two : Closing = c.trim_part-2.new.closer in
    let kept : SameClauses old two = then_same old one two c.conflicts.ensures.kept c.in_ok-trim_part.ensures.kept in
    let test : List Lit → Bool = is_conflict named (clauses_of old) in
    let left : List Lit = c.args.trimmed.now.left.items in
    let left' : List Lit = c.trim_part-2.new.trimmed.left.items in
    let before' = c.trim_part-2.new.trimmed.before in
    let middle = c.args.start + (c.args.end - c.args.start) / 2 in
    let tail : take (length c.as_slice-3.result.now - c.len-count.result) (drop c.len-count.result c.as_slice-3.result.now) ≡ drop (length left) left' =
    take_rest c.as_slice-3.result.now c.len-count.result
    ∙ ap (λ k. drop k c.as_slice-3.result.now) c.len-count.ensures.value
    ∙ ap (λ (xs : List Lit). drop (length left) xs) c.as_slice-3.ensures in
    let items : c.as_slice-4.result.now ≡ c.args.base.now ++ drop (length left) left' = c.as_slice-4.ensures.value ∙ c.in_ok-left.ensures ∙ ap (λ (xs : List Lit). c.args.base.now ++ xs) tail in
    let same : HaveSame c.as_slice-4.result.now (left' ++ drop c.args.end c.args.decisions.now) =
    subst (λ (xs : List Lit). HaveSame xs (left' ++ drop c.args.end c.args.decisions.now)) (sym items) (left_base c.args.base.now left left' (drop c.args.end c.args.decisions.now) c.in_ok-trim_part.ensures.more c.requires.base) in
    let passes : test (left' ++ drop c.args.end c.args.decisions.now) ≡ true =
    told old c.as_slice-4.result.now (left' ++ drop c.args.end c.args.decisions.now) true same (sym (new_test old two kept c.as_slice-4.result.now) ∙ sym c.conflicts-2.ensures.conflict ∙ c.if-conflicts-2.true) in
    old_trims old one c.conflicts.ensures.kept c.args.decisions.now c.args.start middle left c.args.trimmed.now.before left' before' c.in_ok-trim_part.ensures.trimmed
    ∙ trims_skip test (conflicts_grow (clauses_of old)) c.args.decisions.now middle c.args.end left' before' (omega (arith, c.requires.part)) passes

pub trim_part-requires-3 : goal.trim_part-requires-3
trim_part-requires-3 t c =
    let old : Closing = c.args.closer.now in
    let one : Closing = c.conflicts.new.closer in
    let two : Closing = c.trim_part-2.new.closer in
    let new : Closing = c.conflicts-2.new.closer in
    let to_two : SameClauses old two = then_same old one two c.conflicts.ensures.kept c.in_ok-trim_part.ensures.kept in
    let kept : SameClauses old new = then_same old two new to_two c.conflicts-2.ensures.kept in
    let left : List Lit = c.args.trimmed.now.left.items in
    let left' : List Lit = c.trim_part-2.new.trimmed.left.items in
    let rest : List Lit = drop c.args.end c.args.decisions.now in
    let tail : take (length c.as_slice-3.result.now - c.len-count.result) (drop c.len-count.result c.as_slice-3.result.now) ≡ drop (length left) left' =
    take_rest c.as_slice-3.result.now c.len-count.result
    ∙ ap (λ k. drop k c.as_slice-3.result.now) c.len-count.ensures.value
    ∙ ap (λ (xs : List Lit). drop (length left) xs) c.as_slice-3.ensures in
    let made : c.in_ok-left.left.items ≡ c.args.base.now ++ drop (length left) left' = c.in_ok-left.ensures ∙ ap (λ (xs : List Lit). c.args.base.now ++ xs) tail in
    let asked : c.as_slice-4.result.now ≡ c.args.base.now ++ drop (length left) left' = c.as_slice-4.ensures.value ∙ made in
    let items : c.as_slice-5.result.now ≡ c.args.base.now ++ drop (length left) left' = c.as_slice-5.ensures.value ∙ made in
    let based : HaveSame (c.args.base.now ++ drop (length left) left') (left' ++ rest) = left_base c.args.base.now left left' rest c.in_ok-trim_part.ensures.more c.requires.base in
    let own : List Lit → Type 0 = λ xs. HaveSame xs (left' ++ rest) in
    let left_named : AreNamed old.names left' = old_named old one c.conflicts.ensures.kept left' c.in_ok-trim_part.ensures.left in
    let in_base : AreNamed old.names (c.args.base.now ++ take (length left') (drop (length left) left')) = part_named old.names c.args.base.now left' (length left') (length left) c.requires.base_named left_named in
    let whole : take (length left') (drop (length left) left') ≡ drop (length left) left' = all_after left' (length left) in
    let fails : is_conflict named (clauses_of old) (left' ++ rest) ≡ false =
    told old c.as_slice-4.result.now (left' ++ rest) false (subst own (sym asked) based) (sym (new_test old two to_two c.as_slice-4.result.now) ∙ sym c.conflicts-2.ensures.conflict ∙ c.if-conflicts-2.false) in
    (omega (arith, c.decreases, c.if-end-start-eq1.false, c.requires.part), (omega (arith, c.if-end-start-eq1.false, c.requires.part), (c.requires.within, (new_named old new kept c.args.decisions.now c.requires.decisions, (new_named old new kept c.as_slice-5.result.now (subst (λ (xs : List Lit). AreNamed old.names xs) (ap (λ (xs : List Lit). c.args.base.now ++ xs) whole ∙ sym items) in_base), (new_named old new kept left' left_named, (subst own (sym items) based, new_test old new kept (left' ++ rest) ∙ fails)))))))
