use Rattle.std.proofs.Common.{◌≡◌, ◌+◌, ◌*◌, ◌<◌, ◌≤◌, ◌∙◌, sym, ap, arith, Some}
use Rattle.elf32.specs.Symbols.{section_at, sections, e_shoff, e_shnum}
use Rattle.elf32.proofs.SymbolLemmas.{section_of, no_section}
use Rattle.elf32.proofs.sections.numbered_section.Goals as goal

pub returns-then-number-from : goal.returns-then-number-from
unfolding sections
returns-then-number-from c =
    let bytes = c.args.bytes.now in
    let past : e_shnum bytes ≤ c.args.number = omega (arith, c.if-number-from.true, c.from.ensures, c.half_in.ensures) in
    sym (no_section (λ k. section_at bytes (e_shoff bytes + 40 * k)) 0 (e_shnum bytes) c.args.number past)

pub returns : goal.returns
unfolding sections
returns c =
    let bytes = c.args.bytes.now in
    let n = c.args.number in
    let below : n < e_shnum bytes = omega (arith, c.if-number-from.false, c.from.ensures, c.half_in.ensures) in
    let same : 0 + n ≡ n = omega arith in
    sym (section_of (λ k. section_at bytes (e_shoff bytes + 40 * k)) 0 (e_shnum bytes) n below
    ∙ (ap (λ k. Some (section_at bytes (e_shoff bytes + 40 * k))) same
    ∙ ap Some (sym (c.section_at.ensures ∙ ap (λ s. section_at bytes (s + 40 * n)) c.word_in-start.ensures))))
