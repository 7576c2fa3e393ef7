-- The lines of a report tell what it says, and its text tells its lines.
use Rattle.std.proofs.Common.{◌≡◌, ◌∙◌, ◌<◌, ◌≤◌, ℕ, zero, suc, List, [], ◌∷◌, ◌++◌, All, length, take, drop, get_or, arith, refl, sym, ap, ⊎_elim, length-drop}
use Rattle.std.specs.Prelude.{codes}
use Rattle.std.proofs.lemmas.Bool.{cases_lt}
use Rattle.std.proofs.lemmas.List.{append_cancel_left, take-append-drop, nil_from_length}
use Rattle.std.proofs.lemmas.List.Elements.{All-take, All-drop}
use Rattle.text_lines.proofs.DigitLemmas.{bytes-from_all, encode-injective}
use Rattle.text_lines.proofs.LineLemmas.{joined-tells}
use Rattle.report_format.specs.Text.{Content, IsReport, data_line, data_lines, set_lines, head, tail, lines, text}
use Rattle.report_format.specs.Stages.{IsHead, head_lines}
use Rattle.report_format.specs.declared.head.Head.{Head}
use Rattle.report_format.proofs.TextLemmas.{data_lines-first, data_lines-empty}
use Rattle.report_format.proofs.LineLemmas.{lines-unbroken, choice-bytes, choice-long}
use Rattle.report_format.proofs.HeadLemmas.{head-with, head-tells, long-of}
use Rattle.report_text_laws.proofs.SetLines.{sets-tell}

-- ---- the input

data-tell : (n : ℕ) (xs ys : List ℕ) (ls ms : List (List ℕ)) → length xs ≤ n → length xs ≡ length ys → All (λ b. b < 256) xs → All (λ b. b < 256) ys
    → data_lines xs ++ ls ≡ data_lines ys ++ ms → (xs ≡ ys) × (ls ≡ ms)
data-tell zero xs ys ls ms few long low-x low-y same = (
  nil_from_length xs (omega arith) ∙ sym (nil_from_length ys (omega arith)),
  sym (ap (λ l. l ++ ls) (data_lines-empty xs (omega arith))) ∙ (same ∙ ap (λ l. l ++ ms) (data_lines-empty ys (omega arith))),
)
data-tell (suc n) xs ys ls ms few long low-x low-y same = ⊎_elim
    (λ (some : 0 < length xs).
    let e : data_line (take 32 xs) ∷ (data_lines (drop 32 xs) ++ ls) ≡ data_line (take 32 ys) ∷ (data_lines (drop 32 ys) ++ ms) =
    sym (ap (λ l. l ++ ls) (data_lines-first xs some)) ∙ (same ∙ ap (λ l. l ++ ms) (data_lines-first ys (omega arith))) in
    let line : data_line (take 32 xs) ≡ data_line (take 32 ys) = ap (λ (l : List (List ℕ)). get_or l 0 []) e in
    let front = encode-injective (take 32 xs) (take 32 ys) (bytes-from_all _ (All-take (λ b. b < 256) 32 xs low-x)) (bytes-from_all _ (All-take (λ b. b < 256) 32 ys low-y)) (append_cancel_left (codes "data ") _ _ line) in
    let back = data-tell n (drop 32 xs) (drop 32 ys) ls ms (omega (arith, length-drop 32 xs)) (omega (arith, length-drop 32 xs, length-drop 32 ys)) (All-drop (λ b. b < 256) 32 xs low-x) (All-drop (λ b. b < 256) 32 ys low-y) (ap (drop 1) e) in
    (sym (take-append-drop 32 xs) ∙ ((λ i. front i ++ back.0 i) ∙ take-append-drop 32 ys), back.1))
    (λ (none : length xs ≤ 0). data-tell n xs ys ls ms (omega arith) long low-x low-y same)
    (cases_lt 0 (length xs))

-- ---- the whole report

-- what the head of a report says
head_of : Content → Head
head_of c = record { length = c.length; digest = c.digest; trap = c.trap; steps = c.steps; seed = c.seed; input = length c.input }

head_is : (c : Content) → IsReport c → IsHead (head_of c)
unfolding head_of
head_is c is = record {
  program_length = is.program_length;
  digest_length = is.digest_length;
  digest_bytes = is.digest_bytes;
  trap_pc = is.trap_pc;
  trap_value = is.trap_value;
  some_steps = is.some_steps;
  most_steps = is.most_steps;
  seed = is.seed;
  input_length = is.input_length;
}

own_head : (c : Content) → head c ≡ head_lines (head_of c)
unfolding head_of
own_head c = head-with (head_of c) c.input c.sets refl

same_head : (a b : Content) → lines a ≡ lines b → head a ≡ head b
unfolding lines head
same_head a b same = ap (take 6) same

same_rest : (a b : Content) → lines a ≡ lines b → data_lines a.input ++ (set_lines 0 a.sets ++ tail a) ≡ data_lines b.input ++ (set_lines 0 b.sets ++ tail b)
unfolding lines head
same_rest a b same = ap (drop 6) same

same_sets : (a b : Content) → IsReport a → IsReport b → length a.input ≡ length b.input → set_lines 0 a.sets ++ tail a ≡ set_lines 0 b.sets ++ tail b → a.sets ≡ b.sets
unfolding tail
same_sets a b is-a is-b long same =
    let many-a = choice-long a.sets a.input is-a.input_in_sets in
    let many-b = choice-long b.sets b.input is-b.input_in_sets in
    let few = is-a.input_length in
    sets-tell 0 a.sets b.sets _ _ (codes "end" ∷ []) (codes "end" ∷ []) (omega arith) (omega arith) is-a.sets_of_bytes is-b.sets_of_bytes same

pub lines-tell : (a b : Content) → IsReport a → IsReport b → lines a ≡ lines b → a ≡ b
unfolding head_of
lines-tell a b is-a is-b same =
    let heads = same_head a b same ∙ own_head b in
    let told = head-tells a (head_of b) is-a (head_is b is-b) heads in
    let long : length a.input ≡ length b.input = long-of a (head_of b) is-a (head_is b is-b) heads in
    let inputs = data-tell (length a.input) a.input b.input _ _ (omega arith) long (choice-bytes a.sets a.input is-a.input_in_sets) (choice-bytes b.sets b.input is-b.input_in_sets) (same_rest a b same) in
    let sets = same_sets a b is-a is-b long inputs.1 in
    λ i. record { length = told.0 i; digest = told.1 i; trap = told.2 i; steps = told.3 i; seed = told.4 i; input = inputs.0 i; sets = sets i }

-- ---- the text

pub text-tells : (a b : Content) → IsReport a → IsReport b → text a ≡ text b → a ≡ b
unfolding text
text-tells a b is-a is-b same = lines-tell a b is-a is-b (joined-tells (lines a) (lines b) (lines-unbroken a is-a) (lines-unbroken b is-b) same)
