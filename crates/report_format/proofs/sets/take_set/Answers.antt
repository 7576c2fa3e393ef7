use Rattle.std.proofs.Common.{◌≡◌, ◌∙◌, ◌^◌, ◌<◌, true, true≢false, length, map, refl, sym, ap, arith, slice_index, vec_len}
use Rattle.std.proofs.lemmas.List.{length-map}
use Rattle.byte_sets.specs.ByteSet.{has}
use Rattle.byte_sets.proofs.Bits.{low}
use Rattle.report_format.specs.Stages.{IsSetLine}
use Rattle.report_format.proofs.StageLemmas.{refused, whole-set, takes-as}
use Rattle.report_format.proofs.SetLemmas.{line-tells}
use Rattle.report_format.proofs.sets.take_set.Goals as goal

pub returns-in_default-clause-err : goal.returns-in_default-clause-err
returns-in_default-clause-err c =
    let least = vec_len c.args.sets.now in
    refused (IsSetLine c.args.input.now least) c.in_ok-line.line.now c.args.lines.now c.take_line.new.lines c.in_ok-line.ensures.ok.0 c.in_ok-line.ensures.ok.1
    (λ l. whole-set c.args.input.now least l c.requires.few)
    (λ is. c.in_default.ensures.none refl is.place is.set (omega (arith, is.told.within, c.requires.few)) is.told.bytes is.told.some is.told.few is.is)

pub returns-then-place-len-clause-err : goal.returns-then-place-len-clause-err
returns-then-place-len-clause-err c =
    let least = vec_len c.args.sets.now in
    let read = c.in-Some.ensures.some in
    refused (IsSetLine c.args.input.now least) c.in_ok-line.line.now c.args.lines.now c.take_line.new.lines c.in_ok-line.ensures.ok.0 c.in_ok-line.ensures.ok.1
    (λ l. whole-set c.args.input.now least l c.requires.few)
    (λ is.
    let small : is.place < 2 ^ 64 = omega (arith, is.told.within, c.requires.few) in
    let same = line-tells c.in-Some.place is.place (has c.in-Some.set) is.set (omega (arith, read.3)) small (low c.in-Some.set) is.told.bytes (sym read.0 ∙ is.is) in
    omega (arith, same.0, is.told.after, is.told.within, c.then-place-len.either, c.len.ensures))

pub returns-then-not-contains-clause-err : goal.returns-then-not-contains-clause-err
returns-then-not-contains-clause-err c =
    let least = vec_len c.args.sets.now in
    let read = c.in-Some.ensures.some in
    refused (IsSetLine c.args.input.now least) c.in_ok-line.line.now c.args.lines.now c.take_line.new.lines c.in_ok-line.ensures.ok.0 c.in_ok-line.ensures.ok.1
    (λ l. whole-set c.args.input.now least l c.requires.few)
    (λ is.
    let small : is.place < 2 ^ 64 = omega (arith, is.told.within, c.requires.few) in
    let same = line-tells c.in-Some.place is.place (has c.in-Some.set) is.set (omega (arith, read.3)) small (low c.in-Some.set) is.told.bytes (sym read.0 ∙ is.is) in
    let there : is.set (slice_index c.args.input.now is.place) ≡ true = is.told.has_byte in
    let here : has c.in-Some.set (slice_index c.args.input.now c.in-Some.place) ≡ true = ap (λ s. s (slice_index c.args.input.now c.in-Some.place)) same.1 ∙ (ap (λ k. is.set (slice_index c.args.input.now k)) same.0 ∙ there) in
    true≢false (sym here ∙ sym c.if-not-contains.ensures))

pub returns-clause-ok : goal.returns-clause-ok
returns-clause-ok c =
    let read = c.in-Some.ensures.some in
    let long : length (map has c.args.sets.now.items) ≡ vec_len c.args.sets.now = simp length-map (omega (arith, c.args.sets.now.ok.0)) in
    record {
      place = c.in-Some.place;
      set = has c.in-Some.set;
      told = record {
        after = omega (arith, long, c.if-place-len.false, c.len.ensures);
        within = omega (arith, c.if-input-place.false);
        bytes = low c.in-Some.set;
        some = read.1;
        few = read.2;
        has_byte = sym c.if-not-contains.ensures;
      };
      takes = takes-as _ _ _ _ read.0 c.in_ok-line.ensures.ok.0;
      added = rw long c.in_ok-add_at.ensures;
    }
