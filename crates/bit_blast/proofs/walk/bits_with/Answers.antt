use Rattle.std.proofs.Common.{◌∙◌, ℕ, ap, refl, arith}
use Rattle.std.specs.Prelude.{Contains}
use Rattle.std.specs.Ordering.{nat_cmp}
use Rattle.std.specs.BTreeMap.{ContainsKey}
use Rattle.term_arena.specs.Trees.{tree_of}
use Rattle.word_bits.specs.Numbers.{value}
use Rattle.blast_laws.specs.Laws.{bits_on}
use Rattle.blast_laws.proofs.ValueLemmas.{trees_value}
use Rattle.bit_blast.proofs.WalkLemmas.{known_row, has_key}
use Rattle.bit_blast.proofs.walk.bits_with.Goals as goal

pub make_rows-requires-clause-rows : goal.make_rows-requires-clause-rows
make_rows-requires-clause-rows c = rw c.rows.view_is c.requires.rows

pub row-requires : goal.row-requires
row-requires c =
    let made : (t : ℕ) → Contains c.in_ok-terms.terms.items t → ContainsKey nat_cmp c.make_rows.new.rows t = rw c.deref.ensures.value at c.in_ok-make_rows.ensures.made in
    has_key c.rows.inside.lits c.make_rows.new.rows c.in_ok-terms.terms.items c.args.t (c.in_ok-terms.ensures.starts c.args.t (0, omega arith, refl)) c.in_ok-make_rows.ensures.kept made

pub returns-clause-below : goal.returns-clause-below
returns-clause-below c = (known_row c.args.arena.now c.make_rows.new.net c.make_rows.new.rows.entries c.args.t c.row.result c.in_ok-make_rows.ensures.rows c.row.ensures).below

pub returns-clause-value : goal.returns-clause-value
returns-clause-value c = λ bytes h.
    let row = known_row c.args.arena.now c.make_rows.new.net c.make_rows.new.rows.entries c.args.t c.row.result c.in_ok-make_rows.ensures.rows c.row.ensures in
    ap (λ ts. value (bits_on bytes ts)) row.trees ∙ trees_value bytes (tree_of c.args.arena.now c.args.t) (c.len-arena.ensures.words c.args.t c.requires.belongs) h
