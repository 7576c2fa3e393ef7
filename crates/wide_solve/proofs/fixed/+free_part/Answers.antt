use Rattle.std.proofs.Common.{◌≡◌, ◌+◌, ◌-◌, ◌/◌, ◌≤◌, ◌++◌, List, Bool, true, false, take, drop, length, arith, sym, ◌∙◌, ap, subst}
use Rattle.std.specs.Prelude.{Contains}
use Rattle.std.proofs.lemmas.List.{take_rest}
use Rattle.std.proofs.lemmas.Grind.{common_steps}
use Rattle.gate_net.specs.declared.literals.Lit.{Lit}
use Rattle.gate_net.specs.Lits.{AreNamed}
use Rattle.unit_close.specs.Closing.{Closing, clauses_of}
use Rattle.search_model.specs.Literals.{named}
use Rattle.search_model.specs.Tests.{is_conflict}
use Rattle.clause_solver.specs.Solved.{SameClauses, HaveSame}
use Rattle.clause_solver.proofs.ReachedLemmas.{then_same}
use Rattle.clause_solver.proofs.TrimLemmas.{later_base, left_base, part_named, ok_more, new_named, old_named, all_after}
use Rattle.wide_laws.specs.Sets.{has_roots, yes_name}
use Rattle.wide_solve.specs.Freeing.{Frees}
use Rattle.wide_solve.proofs.FixedLemmas.{roots_grow, frees_skip, frees_keep, base_own, more_own, take_in, drop_in, push_own, new_roots, old_frees, new_calm, asked_of}
use Rattle.wide_solve.proofs.fixed.+free_part.Goals as goal

pub returns-then-end-start-eq1-clause-freed : goal.returns-then-end-start-eq1-clause-freed
returns-then-end-start-eq1-clause-freed t c =
    let d : Lit = record { name = 0; positive = false } in
    let frees : List Lit → Bool = has_roots named yes_name (clauses_of c.args.closer.now) c.args.roots.now in
    let kept : List Lit = c.args.kept.now.items in
    let next : c.args.start + 1 ≡ c.args.end = omega (arith, c.if-end-start-eq1.true, c.requires.part) in
    let needed : frees (kept ++ drop (c.args.start + 1) c.args.order.now) ≡ false = rw next c.requires.needed in
    let freed = frees_keep frees c.args.order.now c.args.start d kept (omega (arith, c.requires.part, c.requires.within)) needed in
    subst (λ n. Frees frees c.args.order.now c.args.start n kept c.push.new.self.items) next (rw c.in_ok-push.ensures.items freed)

pub returns-then-end-start-eq1-clause-own : goal.returns-then-end-start-eq1-clause-own
returns-then-end-start-eq1-clause-own t c =
    let d : Lit = record { name = 0; positive = false } in
    let own = push_own c.args.order.now c.args.kept.now.items c.args.start d (omega (arith, c.requires.part, c.requires.within)) c.requires.own in
    let P : List Lit → Type 0 = λ xs. (l : Lit) → Contains xs l → Contains c.args.order.now l in
    subst P (sym c.in_ok-push.ensures.items) own

pub forces-requires-clause-bits : goal.forces-requires-clause-bits
forces-requires-clause-bits t c =
    let middle = c.args.start + (c.args.end - c.args.start) / 2 in
    let items : c.as_slice.result.now ≡ c.args.base.now ++ take (c.args.end - middle) (drop middle c.args.order.now) = c.as_slice.ensures.value ∙ c.in_ok-later.ensures in
    subst (λ (xs : List Lit). AreNamed c.args.closer.now.names xs) (sym items)
    (part_named c.args.closer.now.names c.args.base.now c.args.order.now (c.args.end - middle) middle c.requires.base_named c.requires.order)

pub forces-requires-clause-calm : goal.forces-requires-clause-calm
forces-requires-clause-calm t c =
    let middle = c.args.start + (c.args.end - c.args.start) / 2 in
    let part : List Lit = take (c.args.end - middle) (drop middle c.args.order.now) in
    let items : c.as_slice.result.now ≡ c.args.base.now ++ part = c.as_slice.ensures.value ∙ c.in_ok-later.ensures in
    let own = more_own c.args.order.now c.args.base.now part (base_own c.args.order.now c.args.base.now c.args.kept.now.items c.args.end c.requires.own c.requires.base) (take_in c.args.order.now (c.args.end - middle) middle) in
    ap (λ (xs : List Lit). is_conflict named (clauses_of c.args.closer.now) xs) items ∙ c.requires.calm (c.args.base.now ++ part) own

pub returns-then-forces-clause-freed : goal.returns-then-forces-clause-freed
returns-then-forces-clause-freed t c =
    let old : Closing = c.args.closer.now in
    let new : Closing = c.forces.new.closer in
    let frees : List Lit → Bool = has_roots named yes_name (clauses_of old) c.args.roots.now in
    let kept : List Lit = c.args.kept.now.items in
    let middle = c.args.start + (c.args.end - c.args.start) / 2 in
    let order : middle ≤ c.args.end = omega (arith, c.requires.part) in
    let items : c.as_slice.result.now ≡ c.args.base.now ++ take (c.args.end - middle) (drop middle c.args.order.now) = c.as_slice.ensures.value ∙ c.in_ok-later.ensures in
    let same : HaveSame c.as_slice.result.now (kept ++ drop middle c.args.order.now) =
    subst (λ (xs : List Lit). HaveSame xs (kept ++ drop middle c.args.order.now)) (sym items) (later_base c.args.base.now kept c.args.order.now middle c.args.end order c.requires.base) in
    let passes : frees (kept ++ drop middle c.args.order.now) ≡ true = asked_of (clauses_of old) c.args.roots.now c.as_slice.result.now (kept ++ drop middle c.args.order.now) true same (sym c.forces.ensures.roots ∙ c.if-forces.true) in
    let kept' : List Lit = c.free_part.new.kept.items in
    ok_more c.free_part.result
    (λ _. Frees (has_roots named yes_name (clauses_of new) c.args.roots.now) c.args.order.now middle c.args.end kept kept')
    (λ _. Frees frees c.args.order.now c.args.start c.args.end kept kept')
    (λ _ rest.
    frees_skip frees (roots_grow (clauses_of old) c.args.roots.now) c.args.order.now c.args.start middle kept (omega arith) passes
    ∙ old_frees old new c.forces.ensures.kept c.args.roots.now c.args.order.now middle c.args.end kept kept' rest)
    c.free_part.ensures.freed

pub free_part-requires-2 : goal.free_part-requires-2
free_part-requires-2 t c =
    let old : Closing = c.args.closer.now in
    let new : Closing = c.forces.new.closer in
    let same : SameClauses old new = c.forces.ensures.kept in
    let kept : List Lit = c.args.kept.now.items in
    let middle = c.args.start + (c.args.end - c.args.start) / 2 in
    let order : middle ≤ c.args.end = omega (arith, c.requires.part) in
    let part : List Lit = take (c.args.end - middle) (drop middle c.args.order.now) in
    let asked : c.as_slice.result.now ≡ c.args.base.now ++ part = c.as_slice.ensures.value ∙ c.in_ok-later.ensures in
    let items : c.as_slice-2.result.now ≡ c.args.base.now ++ part = c.as_slice-2.ensures.value ∙ c.in_ok-later.ensures in
    let based : HaveSame (c.args.base.now ++ part) (kept ++ drop middle c.args.order.now) = later_base c.args.base.now kept c.args.order.now middle c.args.end order c.requires.base in
    let has_same : List Lit → Type 0 = λ xs. HaveSame xs (kept ++ drop middle c.args.order.now) in
    let in_base : AreNamed old.names (c.args.base.now ++ part) = part_named old.names c.args.base.now c.args.order.now (c.args.end - middle) middle c.requires.base_named c.requires.order in
    let fails : has_roots named yes_name (clauses_of old) c.args.roots.now (kept ++ drop middle c.args.order.now) ≡ false =
    asked_of (clauses_of old) c.args.roots.now c.as_slice.result.now (kept ++ drop middle c.args.order.now) false (subst has_same (sym asked) based) (sym c.forces.ensures.roots ∙ c.if-forces.false) in
    (omega (arith, c.decreases, c.if-end-start-eq1.false, c.requires.part), (omega (arith, c.if-end-start-eq1.false, c.requires.part), (omega (arith, c.requires.part, c.requires.within), (new_named old new same c.args.roots.now c.requires.roots, (new_named old new same c.args.order.now c.requires.order, ((λ bits among. new_calm old new same c.args.roots.now bits (c.requires.calm bits among)), (new_named old new same kept c.requires.kept, (c.requires.own, (new_named old new same c.as_slice-2.result.now (subst (λ (xs : List Lit). AreNamed old.names xs) (sym items) in_base), (subst has_same (sym items) based, new_roots old new same c.args.roots.now (kept ++ drop middle c.args.order.now) ∙ fails))))))))))

pub forces-requires-2-clause-calm : goal.forces-requires-2-clause-calm
forces-requires-2-clause-calm t c =
    let old : Closing = c.args.closer.now in
    let one : Closing = c.forces.new.closer in
    let two : Closing = c.free_part-2.new.closer in
    let to_two : SameClauses old two = then_same old one two c.forces.ensures.kept c.in_ok-free_part.ensures.same in
    let frees : List Lit → Bool = has_roots named yes_name (clauses_of old) c.args.roots.now in
    let kept : List Lit = c.args.kept.now.items in
    let kept' : List Lit = c.free_part-2.new.kept.items in
    let rest : List Lit = drop c.args.end c.args.order.now in
    let more : List Lit = drop (length kept) kept' in
    let count : c.len-count.result ≡ length kept = grind (arith, common_steps) in
    let tail : take (length c.as_slice-3.result.now - c.len-count.result) (drop c.len-count.result c.as_slice-3.result.now) ≡ more =
    take_rest c.as_slice-3.result.now c.len-count.result
    ∙ ap (λ k. drop k c.as_slice-3.result.now) count
    ∙ ap (λ (xs : List Lit). drop (length kept) xs) c.as_slice-3.ensures.value in
    let made : c.in_ok-now.now.items ≡ c.args.base.now ++ more = c.in_ok-now.ensures ∙ ap (λ (xs : List Lit). c.args.base.now ++ xs) tail in
    let asked : c.as_slice-4.result.now ≡ c.args.base.now ++ more = c.as_slice-4.ensures.value ∙ made in
    let in_base = base_own c.args.order.now c.args.base.now kept c.args.end c.requires.own c.requires.base in
    let own : (l : Lit) → Contains (c.args.base.now ++ more) l → Contains c.args.order.now l = more_own c.args.order.now c.args.base.now more in_base (λ l h. c.in_ok-free_part.ensures.own l (drop_in kept' (length kept) l h)) in
    new_calm old two to_two c.args.roots.now c.as_slice-4.result.now
    (ap (λ (xs : List Lit). is_conflict named (clauses_of old) xs) asked ∙ c.requires.calm (c.args.base.now ++ more) own)

pub returns-then-forces-2-clause-freed : goal.returns-then-forces-2-clause-freed
returns-then-forces-2-clause-freed t c =
    let old : Closing = c.args.closer.now in
    let one : Closing = c.forces.new.closer in
    let two : Closing = c.free_part-2.new.closer in
    let to_two : SameClauses old two = then_same old one two c.forces.ensures.kept c.in_ok-free_part.ensures.same in
    let frees : List Lit → Bool = has_roots named yes_name (clauses_of old) c.args.roots.now in
    let kept : List Lit = c.args.kept.now.items in
    let kept' : List Lit = c.free_part-2.new.kept.items in
    let rest : List Lit = drop c.args.end c.args.order.now in
    let more : List Lit = drop (length kept) kept' in
    let count : c.len-count.result ≡ length kept = grind (arith, common_steps) in
    let tail : take (length c.as_slice-3.result.now - c.len-count.result) (drop c.len-count.result c.as_slice-3.result.now) ≡ more =
    take_rest c.as_slice-3.result.now c.len-count.result
    ∙ ap (λ k. drop k c.as_slice-3.result.now) count
    ∙ ap (λ (xs : List Lit). drop (length kept) xs) c.as_slice-3.ensures.value in
    let made : c.in_ok-now.now.items ≡ c.args.base.now ++ more = c.in_ok-now.ensures ∙ ap (λ (xs : List Lit). c.args.base.now ++ xs) tail in
    let asked : c.as_slice-4.result.now ≡ c.args.base.now ++ more = c.as_slice-4.ensures.value ∙ made in
    let based : HaveSame (c.args.base.now ++ more) (kept' ++ rest) = left_base c.args.base.now kept kept' rest c.in_ok-free_part.ensures.more c.requires.base in
    let has_same : List Lit → Type 0 = λ xs. HaveSame xs (kept' ++ rest) in
    let passes : frees (kept' ++ rest) ≡ true =
    asked_of (clauses_of old) c.args.roots.now c.as_slice-4.result.now (kept' ++ rest) true (subst has_same (sym asked) based) (sym (new_roots old two to_two c.args.roots.now c.as_slice-4.result.now) ∙ sym c.forces-2.ensures.roots ∙ c.if-forces-2.true) in
    let middle = c.args.start + (c.args.end - c.args.start) / 2 in
    old_frees old one c.forces.ensures.kept c.args.roots.now c.args.order.now c.args.start middle kept kept' c.in_ok-free_part.ensures.freed
    ∙ frees_skip frees (roots_grow (clauses_of old) c.args.roots.now) c.args.order.now middle c.args.end kept' (omega (arith, c.requires.part)) passes

pub free_part-requires-3 : goal.free_part-requires-3
free_part-requires-3 t c =
    let old : Closing = c.args.closer.now in
    let one : Closing = c.forces.new.closer in
    let two : Closing = c.free_part-2.new.closer in
    let to_two : SameClauses old two = then_same old one two c.forces.ensures.kept c.in_ok-free_part.ensures.same in
    let frees : List Lit → Bool = has_roots named yes_name (clauses_of old) c.args.roots.now in
    let kept : List Lit = c.args.kept.now.items in
    let kept' : List Lit = c.free_part-2.new.kept.items in
    let rest : List Lit = drop c.args.end c.args.order.now in
    let more : List Lit = drop (length kept) kept' in
    let count : c.len-count.result ≡ length kept = grind (arith, common_steps) in
    let tail : take (length c.as_slice-3.result.now - c.len-count.result) (drop c.len-count.result c.as_slice-3.result.now) ≡ more =
    take_rest c.as_slice-3.result.now c.len-count.result
    ∙ ap (λ k. drop k c.as_slice-3.result.now) count
    ∙ ap (λ (xs : List Lit). drop (length kept) xs) c.as_slice-3.ensures.value in
    let made : c.in_ok-now.now.items ≡ c.args.base.now ++ more = c.in_ok-now.ensures ∙ ap (λ (xs : List Lit). c.args.base.now ++ xs) tail in
    let asked : c.as_slice-4.result.now ≡ c.args.base.now ++ more = c.as_slice-4.ensures.value ∙ made in
    let based : HaveSame (c.args.base.now ++ more) (kept' ++ rest) = left_base c.args.base.now kept kept' rest c.in_ok-free_part.ensures.more c.requires.base in
    let has_same : List Lit → Type 0 = λ xs. HaveSame xs (kept' ++ rest) in
    let in_base = base_own c.args.order.now c.args.base.now kept c.args.end c.requires.own c.requires.base in
    let own : (l : Lit) → Contains (c.args.base.now ++ more) l → Contains c.args.order.now l = more_own c.args.order.now c.args.base.now more in_base (λ l h. c.in_ok-free_part.ensures.own l (drop_in kept' (length kept) l h)) in
    let new : Closing = c.forces-2.new.closer in
    let same : SameClauses old new = then_same old two new to_two c.forces-2.ensures.kept in
    let items : c.as_slice-5.result.now ≡ c.args.base.now ++ more = c.as_slice-5.ensures.value ∙ made in
    let kept_named : AreNamed old.names kept' = old_named old one c.forces.ensures.kept kept' c.in_ok-free_part.ensures.named in
    let base_named : AreNamed old.names (c.args.base.now ++ take (length kept') more) = part_named old.names c.args.base.now kept' (length kept') (length kept) c.requires.base_named kept_named in
    let whole : take (length kept') more ≡ more = all_after kept' (length kept) in
    let fails : frees (kept' ++ rest) ≡ false =
    asked_of (clauses_of old) c.args.roots.now c.as_slice-4.result.now (kept' ++ rest) false (subst has_same (sym asked) based) (sym (new_roots old two to_two c.args.roots.now c.as_slice-4.result.now) ∙ sym c.forces-2.ensures.roots ∙ c.if-forces-2.false) in
    (omega (arith, c.decreases, c.if-end-start-eq1.false, c.requires.part), (omega (arith, c.if-end-start-eq1.false, c.requires.part), (c.requires.within, (new_named old new same c.args.roots.now c.requires.roots, (new_named old new same c.args.order.now c.requires.order, ((λ bits among. new_calm old new same c.args.roots.now bits (c.requires.calm bits among)), (new_named old new same kept' kept_named, (c.in_ok-free_part.ensures.own, (new_named old new same c.as_slice-5.result.now (subst (λ (xs : List Lit). AreNamed old.names xs) (ap (λ (xs : List Lit). c.args.base.now ++ xs) whole ∙ sym items) base_named), (subst has_same (sym items) based, new_roots old new same c.args.roots.now (kept' ++ rest) ∙ fails))))))))))
