use Rattle.std.proofs.Common.{◌≡◌, ◌∙◌, ◌+◌, ◌++◌, [], ◌∷◌, arith, sym, ap, subst}
use Rattle.std.specs.Prelude.{codes}
use Rattle.std.specs.Fmt.{decimal}
use Rattle.std.proofs.lemmas.Result.{err_from_is_err_and}
use Rattle.text_lines.proofs.LineLemmas.{joined-more}
use Rattle.report_format.specs.Text.{program_line, trap_line, steps_line, seed_line, joined}
use Rattle.report_format.specs.Reading.{FailsAt}
use Rattle.report_format.specs.Stages.{IsProgramLine, IsTrapLine, IsNamedLine, IsHead}
use Rattle.report_format.specs.declared.head.Head.{Head}
use Rattle.report_format.proofs.StageLemmas.{refusal-at}
use Rattle.report_format.proofs.HeadLemmas.{fails-0, fails-1, fails-2, fails-3, fails-4, fails-5, after-head}
use Rattle.report_format.proofs.head.read_head.Goals as goal

pub returns-in_err-expect_line-clause-err : goal.returns-in_err-expect_line-clause-err
returns-in_err-expect_line-clause-err c =
    let t = c.args.lines.now.text.now in
    let parts-0 : t ≡ joined [] ++ c.args.lines.now.rest.now = sym (ap (λ b. b.now) c.requires.whole) in
    let at : c.args.lines.now.count + 1 ≡ 1 = omega (arith, c.requires.start) in
    let p = err_from_is_err_and c.from_residual.result c.from_residual.ensures.1 in
    rw (p.1, p.2) (refusal-at t (λ l. l ≡ codes "crash-report 1") c.args.lines.now _ c.in_err-expect_line.ensures.err (λ none. subst (λ k. FailsAt k t) (sym at) (fails-0 t _ parts-0 none)))

pub returns-in_err-length-clause-err : goal.returns-in_err-length-clause-err
returns-in_err-length-clause-err c =
    let t = c.args.lines.now.text.now in
    let parts-0 : t ≡ joined [] ++ c.args.lines.now.rest.now = sym (ap (λ b. b.now) c.requires.whole) in
    let parts-1 = joined-more [] (codes "crash-report 1") t _ _ parts-0 c.in_ok-expect_line.ensures.ok.parts in
    let at : c.expect_line.new.lines.count + 1 ≡ 2 = omega (arith, c.requires.start, c.in_ok-expect_line.ensures.ok.counted) in
    let p = err_from_is_err_and c.from_residual-in_err-length.result c.from_residual-in_err-length.ensures.1 in
    rw (p.1, p.2) (refusal-at t IsProgramLine c.expect_line.new.lines _ c.in_err-length.ensures.err (λ none. subst (λ k. FailsAt k t) (sym at) (fails-1 t _ parts-1 none)))

pub returns-in_err-trap-clause-err : goal.returns-in_err-trap-clause-err
returns-in_err-trap-clause-err c =
    let t = c.args.lines.now.text.now in
    let parts-0 : t ≡ joined [] ++ c.args.lines.now.rest.now = sym (ap (λ b. b.now) c.requires.whole) in
    let parts-1 = joined-more [] (codes "crash-report 1") t _ _ parts-0 c.in_ok-expect_line.ensures.ok.parts in
    let parts-2 = joined-more (codes "crash-report 1" ∷ []) (program_line c.in_ok-length.length c.in_ok-length.digest) t _ _ parts-1 c.in_ok-length.ensures.ok.0.parts in
    let at : c.read_program.new.lines.count + 1 ≡ 3 = omega (arith, c.requires.start, c.in_ok-expect_line.ensures.ok.counted, c.in_ok-length.ensures.ok.0.counted) in
    let p = err_from_is_err_and c.from_residual-in_err-trap.result c.from_residual-in_err-trap.ensures.1 in
    rw (p.1, p.2) (refusal-at t IsTrapLine c.read_program.new.lines _ c.in_err-trap.ensures.err (λ none. subst (λ k. FailsAt k t) (sym at) (fails-2 t _ c.in_ok-length.length c.in_ok-length.digest c.in_ok-length.ensures.ok.1 c.in_ok-length.ensures.ok.3 c.in_ok-length.ensures.ok.2 parts-2 none)))

pub returns-in_err-steps-clause-err : goal.returns-in_err-steps-clause-err
returns-in_err-steps-clause-err c =
    let t = c.args.lines.now.text.now in
    let parts-0 : t ≡ joined [] ++ c.args.lines.now.rest.now = sym (ap (λ b. b.now) c.requires.whole) in
    let parts-1 = joined-more [] (codes "crash-report 1") t _ _ parts-0 c.in_ok-expect_line.ensures.ok.parts in
    let parts-2 = joined-more (codes "crash-report 1" ∷ []) (program_line c.in_ok-length.length c.in_ok-length.digest) t _ _ parts-1 c.in_ok-length.ensures.ok.0.parts in
    let parts-3 = joined-more (codes "crash-report 1" ∷ program_line c.in_ok-length.length c.in_ok-length.digest ∷ []) (trap_line c.in_ok-trap.trap) t _ _ parts-2 c.in_ok-trap.ensures.ok.0.parts in
    let at : c.read_trap.new.lines.count + 1 ≡ 4 = omega (arith, c.requires.start, c.in_ok-expect_line.ensures.ok.counted, c.in_ok-length.ensures.ok.0.counted, c.in_ok-trap.ensures.ok.0.counted) in
    let p = err_from_is_err_and c.from_residual-in_err-steps.result c.from_residual-in_err-steps.ensures.1 in
    rw (p.1, p.2) (refusal-at t (IsNamedLine (codes "steps ") 1 10000000) c.read_trap.new.lines _ c.in_err-steps.ensures.err (λ none. subst (λ k. FailsAt k t) (sym at) (fails-3 t _ c.in_ok-length.length c.in_ok-length.digest c.in_ok-trap.trap c.in_ok-length.ensures.ok.1 c.in_ok-length.ensures.ok.3 c.in_ok-length.ensures.ok.2 c.in_ok-trap.ensures.ok.1 c.in_ok-trap.ensures.ok.2 parts-3 none)))

pub returns-in_err-seed-clause-err : goal.returns-in_err-seed-clause-err
returns-in_err-seed-clause-err c =
    let t = c.args.lines.now.text.now in
    let parts-0 : t ≡ joined [] ++ c.args.lines.now.rest.now = sym (ap (λ b. b.now) c.requires.whole) in
    let parts-1 = joined-more [] (codes "crash-report 1") t _ _ parts-0 c.in_ok-expect_line.ensures.ok.parts in
    let parts-2 = joined-more (codes "crash-report 1" ∷ []) (program_line c.in_ok-length.length c.in_ok-length.digest) t _ _ parts-1 c.in_ok-length.ensures.ok.0.parts in
    let parts-3 = joined-more (codes "crash-report 1" ∷ program_line c.in_ok-length.length c.in_ok-length.digest ∷ []) (trap_line c.in_ok-trap.trap) t _ _ parts-2 c.in_ok-trap.ensures.ok.0.parts in
    let parts-4 = joined-more (codes "crash-report 1" ∷ program_line c.in_ok-length.length c.in_ok-length.digest ∷ trap_line c.in_ok-trap.trap ∷ []) (steps_line c.in_ok-steps.steps) t _ _ parts-3 c.in_ok-steps.ensures.ok.0.parts in
    let at : c.read_named.new.lines.count + 1 ≡ 5 = omega (arith, c.requires.start, c.in_ok-expect_line.ensures.ok.counted, c.in_ok-length.ensures.ok.0.counted, c.in_ok-trap.ensures.ok.0.counted, c.in_ok-steps.ensures.ok.0.counted) in
    let p = err_from_is_err_and c.from_residual-in_err-seed.result c.from_residual-in_err-seed.ensures.1 in
    rw (p.1, p.2) (refusal-at t (IsNamedLine (codes "seed ") 0 18446744073709551615) c.read_named.new.lines _ c.in_err-seed.ensures.err (λ none. subst (λ k. FailsAt k t) (sym at) (fails-4 t _ c.in_ok-length.length c.in_ok-length.digest c.in_ok-trap.trap c.in_ok-steps.steps c.in_ok-length.ensures.ok.1 c.in_ok-length.ensures.ok.3 c.in_ok-length.ensures.ok.2 c.in_ok-trap.ensures.ok.1 c.in_ok-trap.ensures.ok.2 c.in_ok-steps.ensures.ok.1 c.in_ok-steps.ensures.ok.2 parts-4 none)))

pub returns-in_err-input-clause-err : goal.returns-in_err-input-clause-err
returns-in_err-input-clause-err c =
    let t = c.args.lines.now.text.now in
    let parts-0 : t ≡ joined [] ++ c.args.lines.now.rest.now = sym (ap (λ b. b.now) c.requires.whole) in
    let parts-1 = joined-more [] (codes "crash-report 1") t _ _ parts-0 c.in_ok-expect_line.ensures.ok.parts in
    let parts-2 = joined-more (codes "crash-report 1" ∷ []) (program_line c.in_ok-length.length c.in_ok-length.digest) t _ _ parts-1 c.in_ok-length.ensures.ok.0.parts in
    let parts-3 = joined-more (codes "crash-report 1" ∷ program_line c.in_ok-length.length c.in_ok-length.digest ∷ []) (trap_line c.in_ok-trap.trap) t _ _ parts-2 c.in_ok-trap.ensures.ok.0.parts in
    let parts-4 = joined-more (codes "crash-report 1" ∷ program_line c.in_ok-length.length c.in_ok-length.digest ∷ trap_line c.in_ok-trap.trap ∷ []) (steps_line c.in_ok-steps.steps) t _ _ parts-3 c.in_ok-steps.ensures.ok.0.parts in
    let parts-5 = joined-more (codes "crash-report 1" ∷ program_line c.in_ok-length.length c.in_ok-length.digest ∷ trap_line c.in_ok-trap.trap ∷ steps_line c.in_ok-steps.steps ∷ []) (seed_line c.in_ok-seed.seed) t _ _ parts-4 c.in_ok-seed.ensures.ok.0.parts in
    let at : c.read_named-2.new.lines.count + 1 ≡ 6 = omega (arith, c.requires.start, c.in_ok-expect_line.ensures.ok.counted, c.in_ok-length.ensures.ok.0.counted, c.in_ok-trap.ensures.ok.0.counted, c.in_ok-steps.ensures.ok.0.counted, c.in_ok-seed.ensures.ok.0.counted) in
    let p = err_from_is_err_and c.from_residual-in_err-input.result c.from_residual-in_err-input.ensures.1 in
    rw (p.1, p.2) (refusal-at t (IsNamedLine (codes "input ") 0 65536) c.read_named-2.new.lines _ c.in_err-input.ensures.err (λ none. subst (λ k. FailsAt k t) (sym at) (fails-5 t _ c.in_ok-length.length c.in_ok-length.digest c.in_ok-trap.trap c.in_ok-steps.steps c.in_ok-seed.seed c.in_ok-length.ensures.ok.1 c.in_ok-length.ensures.ok.3 c.in_ok-length.ensures.ok.2 c.in_ok-trap.ensures.ok.1 c.in_ok-trap.ensures.ok.2 c.in_ok-steps.ensures.ok.1 c.in_ok-steps.ensures.ok.2 (omega (arith, c.in_ok-seed.ensures.ok.2)) parts-5 none)))

pub returns-clause-after : goal.returns-clause-after
returns-clause-after c =
    let t = c.args.lines.now.text.now in
    let parts-0 : t ≡ joined [] ++ c.args.lines.now.rest.now = sym (ap (λ b. b.now) c.requires.whole) in
    let parts-1 = joined-more [] (codes "crash-report 1") t _ _ parts-0 c.in_ok-expect_line.ensures.ok.parts in
    let parts-2 = joined-more (codes "crash-report 1" ∷ []) (program_line c.in_ok-length.length c.in_ok-length.digest) t _ _ parts-1 c.in_ok-length.ensures.ok.0.parts in
    let parts-3 = joined-more (codes "crash-report 1" ∷ program_line c.in_ok-length.length c.in_ok-length.digest ∷ []) (trap_line c.in_ok-trap.trap) t _ _ parts-2 c.in_ok-trap.ensures.ok.0.parts in
    let parts-4 = joined-more (codes "crash-report 1" ∷ program_line c.in_ok-length.length c.in_ok-length.digest ∷ trap_line c.in_ok-trap.trap ∷ []) (steps_line c.in_ok-steps.steps) t _ _ parts-3 c.in_ok-steps.ensures.ok.0.parts in
    let parts-5 = joined-more (codes "crash-report 1" ∷ program_line c.in_ok-length.length c.in_ok-length.digest ∷ trap_line c.in_ok-trap.trap ∷ steps_line c.in_ok-steps.steps ∷ []) (seed_line c.in_ok-seed.seed) t _ _ parts-4 c.in_ok-seed.ensures.ok.0.parts in
    let parts-6 = joined-more (codes "crash-report 1" ∷ program_line c.in_ok-length.length c.in_ok-length.digest ∷ trap_line c.in_ok-trap.trap ∷ steps_line c.in_ok-steps.steps ∷ seed_line c.in_ok-seed.seed ∷ []) (codes "input " ++ decimal c.in_ok-input.input) t _ _ parts-5 c.in_ok-input.ensures.ok.0.parts in
    let of : Head = record { length = c.in_ok-length.length; digest = c.in_ok-length.digest; trap = c.in_ok-trap.trap; steps = c.in_ok-steps.steps; seed = c.in_ok-seed.seed; input = c.in_ok-input.input } in
    let is : IsHead of = record {
      program_length = c.in_ok-length.ensures.ok.1;
      digest_length = c.in_ok-length.ensures.ok.3;
      digest_bytes = c.in_ok-length.ensures.ok.2;
      trap_pc = c.in_ok-trap.ensures.ok.1;
      trap_value = c.in_ok-trap.ensures.ok.2;
      some_steps = c.in_ok-steps.ensures.ok.1;
      most_steps = c.in_ok-steps.ensures.ok.2;
      seed = omega (arith, c.in_ok-seed.ensures.ok.2);
      input_length = c.in_ok-input.ensures.ok.2;
    } in
    let text : c.read_named-3.new.lines.text.now ≡ t =
    ap (λ b. b.now) (c.in_ok-input.ensures.ok.0.text ∙ (c.in_ok-seed.ensures.ok.0.text ∙ (c.in_ok-steps.ensures.ok.0.text ∙ (c.in_ok-trap.ensures.ok.0.text ∙ (c.in_ok-length.ensures.ok.0.text ∙ c.in_ok-expect_line.ensures.ok.text))))) in
    let count : c.read_named-3.new.lines.count ≡ 6 =
    omega (arith, c.requires.start, c.in_ok-expect_line.ensures.ok.counted, c.in_ok-length.ensures.ok.0.counted, c.in_ok-trap.ensures.ok.0.counted, c.in_ok-steps.ensures.ok.0.counted, c.in_ok-seed.ensures.ok.0.counted, c.in_ok-input.ensures.ok.0.counted) in
    rw (text, count) (after-head of t _ is parts-6)
