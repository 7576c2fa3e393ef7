-- Lines without line ends, and texts of them, which are cut into lines in one way.
use Rattle.std.proofs.Common.{◌≡◌, ◌≢◌, ◌∙◌, ◌^◌, ◌<◌, ◌≤◌, ℕ, true, List, [], ◌∷◌, ◌++◌, All, length, nat_lt, arith, refl, sym, ap, subst, append_assoc, length-append}
use Rattle.std.specs.List.{list_all}
use Rattle.std.specs.Fmt.{decimal}
use Rattle.std.proofs.lemmas.Bool.{and_parts, ltb-true}
use Rattle.std.proofs.lemmas.Grind.{flat_map-append}
use Rattle.std.proofs.lemmas.List.Elements.{All-nil, All-cons, All-head, All-tail, All-append}
use Rattle.hex.specs.Hex.{encode_lower}
use Rattle.text_lines.specs.Fields.{is_name, word_digits}
use Rattle.text_lines.specs.Lines.{joined, Unbroken, ComesNo}
use Rattle.text_lines.proofs.DigitLemmas.{bytes-from_all}
use Rattle.text_lines.proofs.Cuts.{first_cut, absent, Dark, dark-without, dark-name, dark-decimal, dark-encode, dark-word}

-- ---- lines have no line end in them

pub literal : (xs : List ℕ) → list_all (λ d. nat_lt 10 d) xs ≡ true → Unbroken xs
literal [] t = All-nil (λ d. d ≢ 10)
literal (x ∷ xs) t =
    let both = and_parts (nat_lt 10 x) _ t in
    let above = ltb-true 10 x both.0 in
    All-cons (λ d. d ≢ 10) x xs (λ is. omega (arith, above, is)) (literal xs both.1)

pub both : (xs ys : List ℕ) → Unbroken xs → Unbroken ys → Unbroken (xs ++ ys)
both xs ys p q = All-append (λ d. d ≢ 10) xs ys p q

pub unbroken-dark : (xs : List ℕ) → Dark xs → Unbroken xs
unbroken-dark xs dark = dark-without 10 xs (omega arith) dark

pub unbroken-name : (name : List ℕ) → is_name name ≡ true → Unbroken name
unbroken-name name is = unbroken-dark name (dark-name name is)

pub unbroken-decimal : (n : ℕ) → n < 2 ^ 64 → Unbroken (decimal n)
unbroken-decimal n small = unbroken-dark (decimal n) (dark-decimal n small)

pub unbroken-encode : (xs : List ℕ) → All (λ b. b < 256) xs → Unbroken (encode_lower xs)
unbroken-encode xs low = unbroken-dark (encode_lower xs) (dark-encode xs (bytes-from_all xs low))

pub unbroken-word : (n : ℕ) → Unbroken (word_digits n)
unbroken-word n = unbroken-dark (word_digits n) (dark-word n)

-- ---- a text is cut into lines in one way

pub joined-append : (xs ys : List (List ℕ)) → joined (xs ++ ys) ≡ joined xs ++ joined ys
joined-append xs ys = flat_map-append (λ l. l ++ 10 ∷ []) xs ys

pub open_line : (line : List ℕ) (more : List (List ℕ)) (rest : List ℕ) → joined (line ∷ more) ++ rest ≡ line ++ (10 ∷ (joined more ++ rest))
open_line line more rest = append_assoc (line ++ 10 ∷ []) (joined more) rest ∙ append_assoc line (10 ∷ []) (joined more ++ rest)

-- one more line of the text
pub joined-more : (read : List (List ℕ)) (line text rest remains : List ℕ) → text ≡ joined read ++ rest → rest ≡ line ++ (10 ∷ remains) → text ≡ joined (read ++ (line ∷ [])) ++ remains
joined-more read line text rest remains parts next =
    parts ∙ (ap (λ r. joined read ++ r) next ∙ sym (ap (λ t. t ++ remains) (joined-append read (line ∷ [])) ∙ (append_assoc (joined read) (joined (line ∷ [])) remains
    ∙ ap (λ r. joined read ++ r) (open_line line [] remains))))

-- the lines of a text, and others of it that are not fewer, begin alike
pub lines-cut : (ls ms : List (List ℕ)) (rest r : List ℕ) → All Unbroken ls → All Unbroken ms → joined ls ++ rest ≡ joined ms ++ r → length ls ≤ length ms
    → (more : List (List ℕ)) × (ms ≡ ls ++ more) × (rest ≡ joined more ++ r)
lines-cut [] ms rest r ul um e le = (ms, refl, e)
lines-cut (l ∷ ls) [] rest r ul um e le = absurd (omega arith)
lines-cut (l ∷ ls) (m ∷ ms) rest r ul um e le =
    let cut = first_cut 10 l m (joined ls ++ rest) (joined ms ++ r) (All-head Unbroken l ls ul) (All-head Unbroken m ms um) (sym (open_line l ls rest) ∙ (e ∙ open_line m ms r)) in
    let more = lines-cut ls ms rest r (All-tail Unbroken l ls ul) (All-tail Unbroken m ms um) cut.1 (omega arith) in
    let same = cut.0 in
    let others = more.1 in
    (more.0, cc, more.2)

no_line : (line rest : List ℕ) → line ++ (10 ∷ rest) ≡ [] → ⊥
no_line line rest same = omega (arith, ap length same, length-append line (10 ∷ rest))

-- where nothing is left, no lines are
pub no_lines : (more : List (List ℕ)) (rest : List ℕ) → [] ≡ joined more ++ rest → more ≡ []
no_lines [] rest e = refl
no_lines (line ∷ more) rest e = absurd (no_line line (joined more ++ rest) (sym (e ∙ open_line line more rest)))

pub joined-tells : (ls ms : List (List ℕ)) → All Unbroken ls → All Unbroken ms → joined ls ≡ joined ms → ls ≡ ms
joined-tells [] [] ul um same = refl
joined-tells [] (m ∷ ms) ul um same = absurd (no_line m (joined ms) (sym (same ∙ append_assoc m (10 ∷ []) (joined ms))))
joined-tells (l ∷ ls) [] ul um same = absurd (no_line l (joined ls) (sym (append_assoc l (10 ∷ []) (joined ls)) ∙ same))
joined-tells (l ∷ ls) (m ∷ ms) ul um same =
    let cut = first_cut 10 l m (joined ls) (joined ms) (All-head Unbroken l ls ul) (All-head Unbroken m ms um) (sym (append_assoc l (10 ∷ []) (joined ls)) ∙ (same ∙ append_assoc m (10 ∷ []) (joined ms))) in
    let others = joined-tells ls ms (All-tail Unbroken l ls ul) (All-tail Unbroken m ms um) cut.1 in
    λ i. cut.0 i ∷ others i

-- ---- the next line

-- where no line end follows, no line comes
pub none_unended : (form : List ℕ → Type 0) (rest : List ℕ) → Unbroken rest → ComesNo form rest
none_unended form rest none line more is e = absent 10 rest line more none e

-- where the next line isn't of the form, none of the form comes
pub none_other : (form : List ℕ → Type 0) (line rest following : List ℕ) → rest ≡ line ++ 10 ∷ following → Unbroken line → ((l : List ℕ) → form l → Unbroken l) → (form line → ⊥) → ComesNo form rest
none_other form line rest following parts plain whole other l more is e = other (subst form (sym (first_cut 10 line l following more plain (whole l is) (sym parts ∙ e)).0) is)
