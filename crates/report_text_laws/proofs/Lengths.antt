-- The text of a report has at most 8,388,608 bytes.
use Rattle.std.proofs.Common.{◌≡◌, ◌+◌, ◌*◌, ◌/◌, ◌^◌, ◌<◌, ◌≤◌, ◌==◌, ℕ, zero, suc, Bool, true, false, List, [], ◌∷◌, ◌++◌, All, length, take, drop, get_or, arith, length-append}
use Rattle.std.specs.Prelude.{codes, if◌then◌else◌}
use Rattle.std.specs.Fmt.{decimal}
use Rattle.std.specs.Int.{w32, to_be_bytes}
use Rattle.std.specs.Simd.{first_chunks}
use Rattle.std.proofs.lemmas.Fmt.{length-decimal-le}
use Rattle.std.proofs.lemmas.List.{length-take}
use Rattle.std.proofs.lemmas.List.Sums.{length-filter, count_by-le-length}
use Rattle.std.proofs.lemmas.List.FromFn.{length-range_with_len}
use Rattle.std.proofs.lemmas.List.Elements.{All-nil, All-cons, All-head, All-tail, All-append, All-map}
use Rattle.hex.specs.Hex.{encode_lower, lower_digits}
use Rattle.hex.proofs.HexLemmas.{length-encode_with}
use Rattle.input_laws.specs.Inputs.{bytes}
use Rattle.input_laws.specs.Sets.{size, revealed}
use Rattle.byte_sets.specs.ByteSet.{set_bytes}
use Rattle.rv_event.specs.declared.event.Trap.{Trap}
use Rattle.rv_event.specs.declared.event.TrapKind.{TrapKind}
use Rattle.rv_event.specs.declared.event.TrapKind.TheVariants.{Illegal, FetchFault, MisalignedJump, LoadFault, StoreFault, Breakpoint, Abort}
use Rattle.report_format.specs.Text.{Content, IsReport, kind_name, word_digits, program_line, trap_line, steps_line, seed_line, input_line, data_line, data_lines, set_line, lines_of_set, set_lines, revealed_line, head, tail, lines, joined, text}
use Rattle.report_format.proofs.FormLemmas.{set_bytes-length}
use Rattle.report_format.proofs.LineLemmas.{choice-long, revealed-small, lines-count}

-- ---- lines have at most 82 bytes

abbrev Short : List ℕ → Type 0
Short line = length line ≤ 82

-- two parts, each of at most so many bytes
both : (xs ys : List ℕ) (m n : ℕ) → length xs ≤ m → length ys ≤ n → length (xs ++ ys) ≤ m + n
both xs ys m n few more = omega (arith, length-append xs ys, few, more)

number : (k n : ℕ) → 0 < k → n < 10 ^ k → n < 2 ^ 64 → length (decimal n) ≤ k
number k n some fits small = length-decimal-le k n some fits small

digits : (xs : List ℕ) (n : ℕ) → length xs ≤ n → length (encode_lower xs) ≤ 2 * n
digits xs n few = omega (arith, length-encode_with lower_digits xs, few)

word : (n : ℕ) → length (word_digits n) ≤ 8
word n = digits (to_be_bytes w32 n) 4 (omega arith)

kind_short : (kind : TrapKind) → length (kind_name kind) ≤ 10
kind_short Illegal = omega arith
kind_short FetchFault = omega arith
kind_short MisalignedJump = omega arith
kind_short LoadFault = omega arith
kind_short StoreFault = omega arith
kind_short Breakpoint = omega arith
kind_short Abort = omega arith

short-program : (n : ℕ) (digest : List ℕ) → n ≤ 16777216 → length digest ≡ 32 → Short (program_line n digest)
short-program n digest fits long =
    let line : length (program_line n digest) ≤ 8 + (8 + (1 + 64)) =
    both (codes "program ") _ 8 (8 + (1 + 64)) (omega arith) (both (decimal n) _ 8 (1 + 64) (number 8 n (omega arith) (omega arith) (omega arith))
    (both (codes " ") _ 1 64 (omega arith) (digits digest 32 (omega arith)))) in
    omega arith

short-trap : (trap : Trap) → Short (trap_line trap)
short-trap trap =
    let line : length (trap_line trap) ≤ 5 + (10 + (1 + (8 + (1 + 8)))) =
    both (codes "trap ") _ 5 (10 + (1 + (8 + (1 + 8)))) (omega arith) (both (kind_name trap.kind) _ 10 (1 + (8 + (1 + 8))) (kind_short trap.kind)
    (both (codes " ") _ 1 (8 + (1 + 8)) (omega arith) (both (word_digits trap.pc) _ 8 (1 + 8) (word trap.pc) (both (codes " ") _ 1 8 (omega arith) (word trap.value))))) in
    omega arith

short-named : (name : List ℕ) (n : ℕ) → length name ≤ 8 → n < 2 ^ 64 → Short (name ++ decimal n)
short-named name n few small =
    let line : length (name ++ decimal n) ≤ 8 + 20 = both name (decimal n) 8 20 few (number 20 n (omega arith) (omega arith) small) in
    omega arith

short-data : (piece : List ℕ) → length piece ≤ 32 → Short (data_line piece)
short-data piece few =
    let line : length (data_line piece) ≤ 5 + 64 = both (codes "data ") _ 5 64 (omega arith) (digits piece 32 few) in
    omega arith

size_few : (set : ℕ → Bool) → size set ≤ 256
unfolding bytes
size_few set = omega (arith, length-filter set bytes, count_by-le-length set bytes, length-range_with_len 0 256)

short-set : (place : ℕ) (set : ℕ → Bool) → place < 65536 → Short (set_line place set)
short-set place set small =
    let few : size set ≤ 256 = size_few set in
    let line : length (set_line place set) ≤ 4 + (5 + (1 + (3 + (1 + 64)))) =
    both (codes "set ") _ 4 (5 + (1 + (3 + (1 + 64)))) (omega arith) (both (decimal place) _ 5 (1 + (3 + (1 + 64))) (number 5 place (omega arith) (omega arith) (omega arith))
    (both (codes " ") _ 1 (3 + (1 + 64)) (omega arith) (both (decimal (size set)) _ 3 (1 + 64) (number 3 (size set) (omega arith) (omega arith) (omega arith))
    (both (codes " ") _ 1 64 (omega arith) (digits (set_bytes set) 32 (omega (arith, set_bytes-length set))))))) in
    omega arith

short-revealed : (sets : List (ℕ → Bool)) (input : List ℕ) → revealed sets ≤ 524288 → length input ≤ 65536 → Short (revealed_line sets input)
short-revealed sets input bits few =
    let line : length (revealed_line sets input) ≤ 9 + (6 + (4 + 6)) =
    both (codes "revealed ") _ 9 (6 + (4 + 6)) (omega arith) (both (decimal (revealed sets)) _ 6 (4 + 6) (number 6 (revealed sets) (omega arith) (omega arith) (omega arith))
    (both (codes " of ") _ 4 6 (omega arith) (number 6 (8 * length input) (omega arith) (omega arith) (omega arith)))) in
    omega arith

-- ---- all lines of a report

chunks-short : (k : ℕ) (xs : List ℕ) → All (λ piece. length piece ≤ 32) (first_chunks 32 k xs)
chunks-short zero xs = All-nil (λ (piece : List ℕ). length piece ≤ 32)
chunks-short (suc k) xs =
    All-cons (λ (piece : List ℕ). length piece ≤ 32) (take 32 xs) (first_chunks 32 k (drop 32 xs)) (omega (arith, length-take 32 xs)) (chunks-short k (drop 32 xs))

data-short : (input : List ℕ) → All Short (data_lines input)
unfolding data_lines
data-short input =
    let pieces = chunks-short ((length input + 31) / 32) input in
    All-map Short data_line (first_chunks 32 ((length input + 31) / 32) input) (λ i d lt. short-data (get_or (first_chunks 32 ((length input + 31) / 32) input) i d) (pieces i d lt))

one_set-short : (t : Bool) (place : ℕ) (set : ℕ → Bool) → place < 65536 → All Short (if t then [] else set_line place set ∷ [])
one_set-short true place set small = All-nil Short
one_set-short false place set small = All-cons Short (set_line place set) [] (short-set place set small) (All-nil Short)

sets-short : (place : ℕ) (sets : List (ℕ → Bool)) → place + length sets ≤ 65536 → All Short (set_lines place sets)
unfolding set_lines
sets-short place [] few = All-nil Short
sets-short place (set ∷ sets) few =
    All-append Short (lines_of_set place set) (set_lines (place + 1) sets) (one_set-short (size set == 256) place set (omega arith)) (sets-short (place + 1) sets (omega arith))

six : (a b c d e f : List ℕ) → Short a → Short b → Short c → Short d → Short e → Short f → All Short (a ∷ b ∷ c ∷ d ∷ e ∷ f ∷ [])
six a b c d e f sa sb sc sd se sf =
    All-cons Short a (b ∷ c ∷ d ∷ e ∷ f ∷ []) sa (All-cons Short b (c ∷ d ∷ e ∷ f ∷ []) sb (All-cons Short c (d ∷ e ∷ f ∷ []) sc
    (All-cons Short d (e ∷ f ∷ []) sd (All-cons Short e (f ∷ []) se (All-cons Short f [] sf (All-nil Short))))))

head-short : (content : Content) → IsReport content → All Short (head content)
unfolding head
head-short content is =
    let few = is.input_length in
    six (codes "crash-report 1") (program_line content.length content.digest) (trap_line content.trap) (steps_line content.steps) (seed_line content.seed) (input_line content.input)
    (omega arith) (short-program content.length content.digest is.program_length is.digest_length) (short-trap content.trap)
    (short-named (codes "steps ") content.steps (omega arith) (omega (arith, is.most_steps))) (short-named (codes "seed ") content.seed (omega arith) is.seed)
    (short-named (codes "input ") (length content.input) (omega arith) (omega arith))

tail-short : (content : Content) → IsReport content → All Short (tail content)
unfolding tail
tail-short content is =
    let few = is.input_length in
    All-cons Short (revealed_line content.sets content.input) (codes "end" ∷ [])
    (short-revealed content.sets content.input (omega (arith, revealed-small content.sets, choice-long content.sets content.input is.input_in_sets, few)) few)
    (All-cons Short (codes "end") [] (omega arith) (All-nil Short))

lines-short : (content : Content) → IsReport content → All Short (lines content)
unfolding lines
lines-short content is =
    let long = choice-long content.sets content.input is.input_in_sets in
    let few = is.input_length in
    All-append Short (head content) (data_lines content.input ++ (set_lines 0 content.sets ++ tail content)) (head-short content is)
    (All-append Short (data_lines content.input) (set_lines 0 content.sets ++ tail content) (data-short content.input)
    (All-append Short (set_lines 0 content.sets) (tail content) (sets-short 0 content.sets (omega arith)) (tail-short content is)))

-- ---- the text

joined-short : (ls : List (List ℕ)) → All Short ls → length (joined ls) ≤ 83 * length ls
joined-short [] all = omega arith
joined-short (l ∷ ls) all =
    omega (arith, length-append (l ++ 10 ∷ []) (joined ls), length-append l (10 ∷ []), All-head Short l ls all, joined-short ls (All-tail Short l ls all))

pub text-short : (content : Content) → IsReport content → length (text content) ≤ 8388608
unfolding text
text-short content is = omega (arith, joined-short (lines content) (lines-short content is), lines-count content is)
