-- The lines of sets tell the sets.
use Rattle.std.proofs.Common.{◌≡◌, ◌∙◌, ◌+◌, ◌<◌, ◌≤◌, ◌==◌, ℕ, Bool, true, false, List, [], ◌∷◌, ◌++◌, All, length, drop, get_or, arith, refl, sym, ap, ⊎_elim, length-append}
use Rattle.std.specs.Prelude.{codes, replicate, if◌then◌else◌}
use Rattle.std.proofs.lemmas.Bool.{eqb-true}
use Rattle.std.proofs.lemmas.List.{length-replicate}
use Rattle.std.proofs.lemmas.List.Elements.{All-head, All-tail}
use Rattle.input_laws.specs.Sets.{size, IsByteSet}
use Rattle.report_format.specs.Text.{set_line, set_lines}
use Rattle.report_format.specs.Stages.{full}
use Rattle.report_format.proofs.SetLemmas.{all-values, AllFull, FirstTold, next-set, line-tells}

-- the lines after those of the sets, of which the first isn't that of a set
abbrev rest_of : List ℕ → List (List ℕ) → List (List ℕ)
rest_of r ls = (codes "revealed " ++ r) ∷ ls

-- the line of a set at an earlier place is not the next one
no_earlier : (p place : ℕ) (s : ℕ → Bool) (ts : List (ℕ → Bool)) (r : List ℕ) (xs ls : List (List ℕ)) → p < place → place + length ts ≤ 65536 → IsByteSet s → All IsByteSet ts
    → set_line p s ∷ xs ≡ set_lines place ts ++ rest_of r ls → ⊥
no_earlier p place s ts r xs ls before few low all same = ⊎_elim
    (λ (none : AllFull place ts).
    let first : set_line p s ≡ codes "revealed " ++ r = ap (λ (l : List (List ℕ)). get_or l 0 []) (same ∙ ap (λ l. l ++ rest_of r ls) none.none) in
    let letter = ap (λ (l : List ℕ). get_or l 0 0) first in
    omega (arith, letter))
    (λ (told : FirstTold place ts).
    let first : set_line p s ≡ set_line (place + told.skipped) told.set = ap (λ (l : List (List ℕ)). get_or l 0 []) (same ∙ ap (λ l. l ++ rest_of r ls) told.first) in
    let fits : told.skipped ≤ length ts = omega (arith, ap length told.are, length-append (replicate told.skipped full) (told.set ∷ told.others), length-replicate told.skipped full) in
    let places = (line-tells p (place + told.skipped) s told.set (omega arith) (omega arith) low told.bytes first).0 in
    omega (arith, places, before))
    (next-set place ts all)

pub sets-tell : (place : ℕ) (ss ts : List (ℕ → Bool)) (r q : List ℕ) (ls ms : List (List ℕ)) → place + length ss ≤ 65536 → length ss ≡ length ts → All IsByteSet ss → All IsByteSet ts
    → set_lines place ss ++ rest_of r ls ≡ set_lines place ts ++ rest_of q ms → ss ≡ ts
unfolding set_lines
sets-tell place [] [] r q ls ms few long all-s all-t same = refl
sets-tell place [] (t ∷ ts) r q ls ms few long all-s all-t same = absurd (omega arith)
sets-tell place (s ∷ ss) [] r q ls ms few long all-s all-t same = absurd (omega arith)
sets-tell place (s ∷ ss) (t ∷ ts) r q ls ms few long all-s all-t same =
    by (size s == 256) (size t == 256) refl refl same (λ more. sets-tell (place + 1) ss ts r q ls ms (omega arith) (omega arith) (All-tail IsByteSet s ss all-s) (All-tail IsByteSet t ts all-t) more)
  where
    low-s : IsByteSet s
    low-s = All-head IsByteSet s ss all-s

    low-t : IsByteSet t
    low-t = All-head IsByteSet t ts all-t

    by : (b c : Bool) → (size s == 256) ≡ b → (size t == 256) ≡ c
        → ((if b then [] else set_line place s ∷ []) ++ set_lines (place + 1) ss) ++ rest_of r ls ≡ ((if c then [] else set_line place t ∷ []) ++ set_lines (place + 1) ts) ++ rest_of q ms
        → (set_lines (place + 1) ss ++ rest_of r ls ≡ set_lines (place + 1) ts ++ rest_of q ms → ss ≡ ts) → s ∷ ss ≡ t ∷ ts
    by true true eb ec same more =
        let whole-s : s ≡ full = all-values s low-s (eqb-true (size s) 256 eb) in
        let whole-t : t ≡ full = all-values t low-t (eqb-true (size t) 256 ec) in
        let others = more same in
        λ i. (whole-s ∙ sym whole-t) i ∷ others i
    by false false eb ec same more =
        let first : set_line place s ≡ set_line place t = ap (λ (l : List (List ℕ)). get_or l 0 []) same in
        let here = (line-tells place place s t (omega arith) (omega arith) low-s low-t first).1 in
        let others = more (ap (drop 1) same) in
        λ i. here i ∷ others i
    by false true eb ec same more = absurd (no_earlier place (place + 1) s ts q (set_lines (place + 1) ss ++ rest_of r ls) ms (omega arith) (omega arith) low-s (All-tail IsByteSet t ts all-t) same)
    by true false eb ec same more = absurd (no_earlier place (place + 1) t ss r (set_lines (place + 1) ts ++ rest_of q ms) ls (omega arith) (omega arith) low-t (All-tail IsByteSet s ss all-s) (sym same))
