use Rattle.std.proofs.Common.{◌≡◌, ◌++◌, ◌+◌, ◌<◌, ◌∙◌, ap, length, arith}
use Rattle.std.specs.Prelude.{replicate}
use Rattle.word_gates.proofs.MoveLemmas.{no_lit, below_filled, width_filled}
use Rattle.word_gates.proofs.ByteLemmas.{named_trees}
use Rattle.word_gates.proofs.bytes.named_byte.Goals as goal

pub returns-clause-word : goal.returns-clause-word
returns-clause-word c =
    let is : c.extend_from_slice.new.self.items ≡ c.in_ok-byte.byte.items ++ replicate 24 no_lit = c.in_ok-extend_from_slice.ensures.items in
    let upper = c.in_ok-upper.ensures in
    let lower = c.in_ok-lower.ensures in
    let byte = c.in_ok-byte.ensures in
    let m = rw (c.deref.ensures.value, c.deref-2.ensures.value) at byte.word.trees in
    let width = rw c.deref.ensures.value at byte.word.width in
    let two : 1 < length c.args.b.now = omega (arith, c.requires.second_width) in
    record {
      below = rw is (below_filled _ 24 c.in_ok-byte.byte.items c.len-net.ensures.net.some byte.word.below);
      trees = rw is (named_trees _ _ _ _ c.args.a.now c.args.b.now c.in_ok-upper.upper.items c.in_ok-lower.lower.items c.in_ok-byte.byte.items upper.keeps lower.keeps byte.keeps c.len-net.ensures.net.yes c.requires.first c.requires.second upper.word.below two upper.word.trees lower.word.trees m);
      width = rw is (width_filled 24 c.in_ok-byte.byte.items ∙ ap (λ n. n + 24) (width ∙ upper.word.width));
    }
