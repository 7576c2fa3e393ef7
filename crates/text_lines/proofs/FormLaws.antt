-- A text is one list of lines of a form, or fails at one line, and never both.
use Rattle.std.proofs.Common.{◌≡◌, ◌≢◌, ◌∙◌, ◌⊎◌, inl, inr, ◌+◌, ◌<◌, ◌≤◌, ◌==◌, ℕ, zero, suc, Bool, true, false, true≢false, List, [], ◌∷◌, ◌++◌, All, length, arith, refl, sym, ap, subst, append-nil, length-append, ⊎_elim}
use Rattle.std.proofs.lemmas.Bool.{cases_lt, eqb-true, eqb-false}
use Rattle.std.proofs.lemmas.List.Elements.{All-nil, All-cons}
use Rattle.text_lines.specs.Lines.{joined, Unbroken, AllFormed, IsLines, ComesNo, FailsAt, passing, PassUnbroken, IsOrFails}
use Rattle.text_lines.proofs.LineLemmas.{open_line, joined-more, joined-tells, lines-cut, no_lines, none_unended, none_other}

-- ---- lines of their forms

pub formed_more : (form : ℕ → List ℕ → Type 0) (n : ℕ) (lines : List (List ℕ)) (line : List ℕ) → AllFormed form n lines → form (n + length lines) line → AllFormed form n (lines ++ line ∷ [])
formed_more form n [] line all one = (subst (λ k. form k line) (omega arith) one, tt)
formed_more form n (l ∷ lines) line all one = (all.0, formed_more form (n + 1) lines line all.1 (subst (λ k. form k line) (omega arith) one))

formed_rest : (form : ℕ → List ℕ → Type 0) (n : ℕ) (lines more : List (List ℕ)) → AllFormed form n (lines ++ more) → AllFormed form (n + length lines) more
formed_rest form n [] more all = subst (λ k. AllFormed form k more) (omega arith) all
formed_rest form n (l ∷ lines) more all = subst (λ k. AllFormed form k more) (omega arith) (formed_rest form (n + 1) lines more all.1)

-- ---- reading

-- the text begins with these lines, each of the form of its place, and goes on with the rest
pub record IsRead (form : ℕ → List ℕ → Type 0) (most : ℕ) (read : List (List ℕ)) (text rest : List ℕ) : Type 0 where
  pub formed : AllFormed form 0 read
  pub few : length read ≤ most
  pub parts : text ≡ joined read ++ rest

pub none_read : (form : ℕ → List ℕ → Type 0) (most : ℕ) (text : List ℕ) → IsRead form most [] text text
none_read form most text = record { formed = tt; few = omega arith; parts = refl }

pub more_read : (form : ℕ → List ℕ → Type 0) (most : ℕ) (read : List (List ℕ)) (line text rest following : List ℕ) → IsRead form most read text rest → length read < most → form (length read) line
    → rest ≡ line ++ 10 ∷ following → IsRead form most (read ++ line ∷ []) text following
more_read form most read line text rest following is few one next = record {
  formed = formed_more form 0 read line is.formed (subst (λ k. form k line) (omega arith) one);
  few = omega (arith, length-append read (line ∷ []), few);
  parts = joined-more read line text rest following is.parts next;
}

pub all_read : (form : ℕ → List ℕ → Type 0) (least most : ℕ) (read : List (List ℕ)) (text rest : List ℕ) → IsRead form most read text rest → rest ≡ [] → least ≤ length read → IsLines form least most read text
all_read form least most read text rest is over enough = record {
  formed = is.formed;
  enough = enough;
  few = is.few;
  written = is.parts ∙ (ap (λ r. joined read ++ r) over ∙ append-nil (joined read));
}

pub fails_next : (form : ℕ → List ℕ → Type 0) (least most : ℕ) (read : List (List ℕ)) (text rest : List ℕ) → IsRead form most read text rest → (rest ≡ [] → length read < least)
    → (length read < most → ComesNo (form (length read)) rest) → FailsAt form least most (length read + 1) text
fails_next form least most read text rest is wanted fails = record {
  earlier = read;
  formed = is.formed;
  few = is.few;
  counted = refl;
  rest = rest;
  parts = is.parts;
  wanted = wanted;
  fails = fails;
}

-- ---- one text, one line, never both

module _ (form : ℕ → List ℕ → Type 0) (unbroken : (n : ℕ) (line : List ℕ) → form n line → Unbroken line) where
  formed_unbroken : (n : ℕ) (lines : List (List ℕ)) → AllFormed form n lines → All Unbroken lines
  formed_unbroken n [] all = All-nil Unbroken
  formed_unbroken n (line ∷ lines) all = All-cons Unbroken line lines (unbroken n line all.0) (formed_unbroken (n + 1) lines all.1)

  -- of two lists of lines of a text, the one that isn't shorter goes on where the other ends
  longer : (lines others : List (List ℕ)) (rest following : List ℕ) → AllFormed form 0 lines → AllFormed form 0 others → joined lines ++ rest ≡ joined others ++ following → length lines ≤ length others
      → (more : List (List ℕ)) × (others ≡ lines ++ more) × (rest ≡ joined more ++ following) × AllFormed form (length lines) more
  longer lines others rest following a b same enough =
      let cut = lines-cut lines others rest following (formed_unbroken 0 lines a) (formed_unbroken 0 others b) same enough in
      let more = formed_rest form 0 lines cut.0 (subst (AllFormed form 0) cut.1 b) in
      (cut.0, cut.1, cut.2, subst (λ k. AllFormed form k cut.0) (omega arith) more)

  -- where a text fails, no list of lines of it goes on
  not_longer : (least most number : ℕ) (text : List ℕ) (f : FailsAt form least most number text) (others : List (List ℕ)) (following : List ℕ) → AllFormed form 0 others → length others ≤ most
      → text ≡ joined others ++ following → length f.earlier ≤ length others → (length others ≡ length f.earlier) × (f.rest ≡ following)
  not_longer least most number text f others following formed few parts enough =
      let cut = longer f.earlier others f.rest following f.formed formed (sym f.parts ∙ parts) enough in
      let long : length others ≡ length f.earlier + length cut.0 = ap length cut.1 ∙ length-append f.earlier cut.0 in
      let none : cut.0 ≡ [] = by cut.0 cut.2 cut.3 (omega (arith, long, few)) in
      (omega (arith, long, ap length none), cut.2 ∙ ap (λ ms. joined ms ++ following) none)
    where
      by : (more : List (List ℕ)) → f.rest ≡ joined more ++ following → AllFormed form (length f.earlier) more → length f.earlier + length more ≤ most → more ≡ []
      by [] next all room = refl
      by (line ∷ more) next all room = absurd (f.fails (omega arith) line (joined more ++ following) all.0 (next ∙ open_line line more following))

  -- a text of such lines fails at none
  pub lines_or_fails : (least most number : ℕ) (lines : List (List ℕ)) (text : List ℕ) → IsLines form least most lines text → FailsAt form least most number text → ⊥
  lines_or_fails least most number lines text is f =
      let whole : text ≡ joined lines ++ [] = is.written ∙ sym (append-nil (joined lines)) in
      ⊎_elim
      (λ (less : length lines < length f.earlier).
      let cut = longer lines f.earlier [] f.rest is.formed f.formed (sym whole ∙ f.parts) (omega arith) in
      let none = no_lines cut.0 f.rest cut.2 in
      omega (arith, less, ap length cut.1, length-append lines cut.0, ap length none))
      (λ (enough : length f.earlier ≤ length lines).
      let same = not_longer least most number text f lines [] is.formed is.few whole enough in
      omega (arith, f.wanted same.1, is.enough, same.0))
      (cases_lt (length lines) (length f.earlier))

  -- a text fails at one line
  pub fails_once : (least most m n : ℕ) (text : List ℕ) → FailsAt form least most m text → FailsAt form least most n text → m ≡ n
  fails_once least most m n text f g = ⊎_elim
      (λ (less : length g.earlier < length f.earlier). omega (arith, f.counted, g.counted, (not_longer least most n text g f.earlier f.rest f.formed f.few f.parts (omega arith)).0))
      (λ (enough : length f.earlier ≤ length g.earlier). omega (arith, f.counted, g.counted, (not_longer least most m text f g.earlier g.rest g.formed g.few g.parts enough).0))
      (cases_lt (length g.earlier) (length f.earlier))

  -- a text is one list of such lines
  pub lines_once : (least most : ℕ) (lines others : List (List ℕ)) (text : List ℕ) → IsLines form least most lines text → IsLines form least most others text → lines ≡ others
  lines_once least most lines others text is also =
      joined-tells lines others (formed_unbroken 0 lines is.formed) (formed_unbroken 0 others also.formed) (sym is.written ∙ also.written)

-- ---- a test of lines

-- the first line of a text, or there is none
first_line : (text : List ℕ) → ((line : List ℕ) × (following : List ℕ) × (text ≡ line ++ 10 ∷ following) × Unbroken line) ⊎ Unbroken text
first_line [] = inr (All-nil (λ d. d ≢ 10))
first_line (x ∷ text) = by (x == 10) refl (first_line text)
  where
    by : (t : Bool) → (x == 10) ≡ t → ((line : List ℕ) × (following : List ℕ) × (text ≡ line ++ 10 ∷ following) × Unbroken line) ⊎ Unbroken text
        → ((line : List ℕ) × (following : List ℕ) × (x ∷ text ≡ line ++ 10 ∷ following) × Unbroken line) ⊎ Unbroken (x ∷ text)
    by true is rest = inl ([], text, ap (λ d. d ∷ text) (eqb-true x 10 is), All-nil (λ d. d ≢ 10))
    by false is rest = ⊎_elim
        (λ (cut : (line : List ℕ) × (following : List ℕ) × (text ≡ line ++ 10 ∷ following) × Unbroken line).
        inl (x ∷ cut.0, cut.1, ap (λ xs. x ∷ xs) cut.2, All-cons (λ d. d ≢ 10) x cut.0 (eqb-false x 10 is) cut.3))
        (λ (none : Unbroken text). inr (All-cons (λ d. d ≢ 10) x text (eqb-false x 10 is) none))
        rest

module _ (test : ℕ → List ℕ → Bool) (unbroken : PassUnbroken test) (least most : ℕ) (text : List ℕ) where
  next_read : (read : List (List ℕ)) (rest : List ℕ) → (rest ≡ [] → ⊥) → IsRead (passing test) most read text rest
      → ((line following : List ℕ) → length following < length rest → IsRead (passing test) most (read ++ line ∷ []) text following → IsOrFails test least most text) → IsOrFails test least most text
  next_read read rest some is more = ⊎_elim
      (λ (cut : (line : List ℕ) × (following : List ℕ) × (rest ≡ line ++ 10 ∷ following) × Unbroken line). ⊎_elim
      (λ (room : length read < most). by (test (length read) cut.0) cut.0 refl room cut.1 cut.2 cut.3)
      (λ (full : most ≤ length read). fails (λ room. absurd (omega (arith, room, full))))
      (cases_lt (length read) most))
      (λ (none : Unbroken rest). fails (λ room. none_unended (passing test (length read)) rest none))
      (first_line rest)
    where
      fails : (length read < most → ComesNo (passing test (length read)) rest) → IsOrFails test least most text
      fails never = inr (length read + 1, fails_next (passing test) least most read text rest is (λ none. absurd (some none)) never)

      by : (t : Bool) (line : List ℕ) → test (length read) line ≡ t → length read < most → (following : List ℕ) → rest ≡ line ++ 10 ∷ following → Unbroken line → IsOrFails test least most text
      by true line passed room following cut whole =
          more line following (omega (arith, ap length cut, length-append line (10 ∷ following))) (more_read (passing test) most read line text rest following is room passed cut)
      by false line failed room following cut whole =
          fails (λ _. none_other (passing test (length read)) line rest following cut whole (unbroken (length read)) (λ passed. true≢false (sym passed ∙ failed)))

  reads : (fuel : ℕ) (read : List (List ℕ)) (rest : List ℕ) → length rest ≤ fuel → IsRead (passing test) most read text rest → IsOrFails test least most text
  reads fuel read [] short is = ⊎_elim
      (λ (few : length read < least).
      inr (length read + 1, fails_next (passing test) least most read text [] is (λ _. few) (λ _. none_unended (passing test (length read)) [] (All-nil (λ d. d ≢ 10)))))
      (λ (enough : least ≤ length read). inl (read, all_read (passing test) least most read text [] is refl enough))
      (cases_lt (length read) least)
  reads zero read (x ∷ rest) short is = absurd (omega arith)
  reads (suc fuel) read (x ∷ rest) short is =
      next_read read (x ∷ rest) (λ none. omega (arith, ap length none)) is (λ line following fewer more. reads fuel (read ++ line ∷ []) following (omega (arith, fewer, short)) more)

  -- each text is such lines, or fails at a line
  pub is_or_fails : IsOrFails test least most text
  is_or_fails = reads (length text) [] text (omega arith) (none_read (passing test) most text)
