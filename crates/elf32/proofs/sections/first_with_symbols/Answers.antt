use Rattle.std.proofs.Common.{◌≡◌, ◌+◌, ◌*◌, ◌<◌, ◌∙◌, false, sym, ap, arith}
use Rattle.std.proofs.lemmas.Bool.{ne_eqb}
use Rattle.elf32.specs.Symbols.{section_at, has_symbols, e_shoff, e_shnum}
use Rattle.elf32.proofs.SymbolLemmas.{next_section}
use Rattle.elf32.proofs.sections.first_with_symbols.Goals as goal

pub loop-i-preserved : goal.loop-i-preserved
loop-i-preserved c =
    let bytes = c.args.bytes.now in
    let i = c.loop-i.i in
    let found = c.section_at-found.ensures ∙ ap (λ s. section_at bytes (s + 40 * i)) c.word_in-start.ensures in
    let other : has_symbols (section_at bytes (e_shoff bytes + 40 * i)) ≡ false = sym (ap has_symbols found) ∙ ne_eqb c.section_at-found.result.kind 2 c.if-found-eq2.false in
    let below : i < e_shnum bytes = omega (arith, c.loop-i-test.true, c.from-i-end.ensures, c.half_in.ensures) in
    c.loop-i.invariant ∙ next_section (λ k. section_at bytes (e_shoff bytes + 40 * k)) i (e_shnum bytes) below other
