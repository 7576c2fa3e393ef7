-- The text of a list of instructions.
use Rattle.std.proofs.Common.{◌≡◌, ℕ, ◌+◌, ◌*◌, ◌<◌, ◌^◌, List, [], ◌∷◌, ◌++◌, length, get_or, take, map, refl, sym, ap, ◌∙◌, arith, Some, flat_map}
use Rattle.std.specs.List.{All}
use Rattle.std.proofs.lemmas.Grind.{flat_map-append}
use Rattle.std.proofs.lemmas.List.{append-nil, length-map, map-append, take_more}
use Rattle.std.proofs.lemmas.List.Elements.{All-nil, All-cons, All-head, All-tail, All-append}
use Rattle.rv_decode.specs.declared.instr.Instr.{Instr}
use Rattle.rv_decode.specs.Table.{decoded}
use Rattle.rv_decode.proofs.Rows.{one_word}
use Rattle.rv_assemble.specs.declared.region.Region.{Region}
use Rattle.rv_assemble.specs.Layout.{word, file_of}
use Rattle.rv_assemble.specs.Parts.{Spells, IsFile, code_region}

abbrev IsWord : ℕ → Type 0
IsWord w = w < 2 ^ 32

words_length : (words : List ℕ) → length (flat_map word words) ≡ 4 * length words
words_length [] = refl
words_length (w ∷ ws) = let rest = words_length ws in omega (arith, rest)

as_many : (words : List ℕ) (code : List Instr) → map decoded words ≡ map Some code → length words ≡ length code
as_many words code e = sym (length-map words decoded) ∙ ap length e ∙ length-map code Some

pub spelled_length : (text : List ℕ) (code : List Instr) → Spells text code → length text ≡ 4 * length code
spelled_length text code s =
    omega (arith, ap length s.written, words_length s.words, as_many s.words code s.stand)

pub no_text : Spells [] []
no_text = record { words = []; within = All-nil IsWord; stand = refl; written = refl }

-- one more word
pub longer : (text : List ℕ) (code : List Instr) (i : ℕ) (d : Instr) (w : ℕ) → i < length code → w < 2 ^ 32 → decoded w ≡ Some (get_or code i d) → Spells text (take i code) → Spells (text ++ word w) (take (i + 1) code)
longer text code i d w lt small is s =
    let last : Instr = get_or code i d in
    let all : map Some (take i code ++ last ∷ []) ≡ map Some (take i code) ++ Some last ∷ [] = map-append Some (take i code) (last ∷ []) in
    record {
      words = s.words ++ w ∷ [];
      within = All-append IsWord s.words (w ∷ []) s.within (All-cons IsWord w [] small (All-nil IsWord));
      stand =
          map-append decoded s.words (w ∷ [])
          ∙ ap (λ l. l ++ decoded w ∷ []) s.stand
          ∙ ap (λ o. map Some (take i code) ++ o ∷ []) is
          ∙ sym all
          ∙ ap (map Some) (sym (take_more code i d lt));
      written =
          ap (λ l. l ++ word w) s.written
          ∙ ap (λ l. flat_map word s.words ++ l) (sym (append-nil (word w)))
          ∙ sym (flat_map-append word s.words (w ∷ []));
    }

-- a list of instructions has one list of words
same_words : (vs ws : List ℕ) (code : List Instr) → All IsWord vs → All IsWord ws → map decoded vs ≡ map Some code → map decoded ws ≡ map Some code → vs ≡ ws
same_words [] [] code av aw ev ew = refl
same_words [] (w ∷ ws) code av aw ev ew = absurd (omega (arith, as_many [] code ev, as_many (w ∷ ws) code ew))
same_words (v ∷ vs) [] code av aw ev ew = absurd (omega (arith, as_many (v ∷ vs) code ev, as_many [] code ew))
same_words (v ∷ vs) (w ∷ ws) [] av aw ev ew = absurd (omega (arith, as_many (v ∷ vs) [] ev))
same_words (v ∷ vs) (w ∷ ws) (i ∷ code) av aw ev ew =
    let dv : decoded v ≡ Some i = cc in
    let dw : decoded w ≡ Some i = cc in
    let rv : map decoded vs ≡ map Some code = cc in
    let rw : map decoded ws ≡ map Some code = cc in
    let first : v ≡ w = one_word v w i (All-head IsWord v vs av) (All-head IsWord w ws aw) dv dw in
    let rest : vs ≡ ws = same_words vs ws code (All-tail IsWord v vs av) (All-tail IsWord w ws aw) rv rw in
    ap (λ l. v ∷ l) rest ∙ ap (λ n. n ∷ ws) first

pub one_text : (a b : List ℕ) (code : List Instr) → Spells a code → Spells b code → a ≡ b
one_text a b code s t =
    s.written ∙ ap (flat_map word) (same_words s.words t.words code s.within t.within s.stand t.stand) ∙ sym t.written

pub one_file : (code : List Instr) (rs : List Region) (a b : List ℕ) → IsFile code rs a → IsFile code rs b → a ≡ b
one_file code rs a b f g =
    f.written ∙ ap (λ text. file_of (code_region text ∷ rs)) (one_text f.text g.text code f.spells g.spells) ∙ sym g.written
