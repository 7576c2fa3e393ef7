-- Lines of a text, and the line at which it fails.
use Rattle.std.proofs.Common.{◌≡◌, ◌∙◌, ◌+◌, ◌-◌, ◌*◌, ◌/◌, ◌^◌, ◌<◌, ◌≤◌, ℕ, zero, suc, Bool, true, List, [], ◌∷◌, ◌++◌, All, length, take, drop, get_or, false, ◌==◌, arith, refl, sym, ap, append_assoc, append-nil, length-append, subst, ⊎_elim}
use Rattle.std.specs.Prelude.{◌↔◌, codes, if◌then◌else◌}
use Rattle.std.specs.Fmt.{decimal}
use Rattle.std.specs.Simd.{first_chunks}
use Rattle.std.proofs.lemmas.Bool.{cases_lt}
use Rattle.std.proofs.lemmas.List.{take-append-drop, length-take, length-map}
use Rattle.std.proofs.Math.Seq.{take-append_seam}
use Rattle.std.proofs.lemmas.List.Sums.{sum_by-cons}
use Rattle.std.proofs.lemmas.List.Elements.{All-nil, All-cons, All-append, All-map, All-take, All-drop}
use Rattle.input_laws.specs.Sets.{size, revealed, floor_log2, IsChoice}
use Rattle.byte_sets.specs.ByteSet.{set_bytes}
use Rattle.rv_event.specs.declared.event.Trap.{Trap}
use Rattle.report_format.specs.Text.{Content, IsReport, kind_name, word_digits, program_line, trap_line, steps_line, seed_line, input_line, data_line, data_lines, set_line, lines_of_set, set_lines, revealed_line, head, tail, lines, joined, text as text_of}
use Rattle.report_format.specs.Reading.{IsTextOf, FailsAt}
use Rattle.report_format.specs.Stages.{IsAfter}
use Rattle.text_lines.specs.Lines.{Unbroken}
use Rattle.text_lines.proofs.Cuts.{All-front}
use Rattle.text_lines.proofs.LineLemmas.{literal, both, unbroken-dark, unbroken-decimal, unbroken-encode, unbroken-word, open_line, joined-more, lines-cut, no_lines}
use Rattle.report_format.proofs.FormLemmas.{dark-kind, size_small, set_bytes-low}

-- ---- lines have no line end in them

space : Unbroken (codes " ")
space = literal (codes " ") refl

pub unbroken-program : (bytes : ℕ) (digest : List ℕ) → bytes < 2 ^ 64 → All (λ b. b < 256) digest → Unbroken (program_line bytes digest)
unbroken-program bytes digest small low =
    both (codes "program ") _ (literal (codes "program ") refl) (both (decimal bytes) _ (unbroken-decimal bytes small) (both (codes " ") _ space (unbroken-encode digest low)))

pub unbroken-trap : (trap : Trap) → Unbroken (trap_line trap)
unbroken-trap trap =
    both (codes "trap ") _ (literal (codes "trap ") refl) (both (kind_name trap.kind) _ (unbroken-dark (kind_name trap.kind) (dark-kind trap.kind))
    (both (codes " ") _ space (both (word_digits trap.pc) _ (unbroken-word trap.pc) (both (codes " ") _ space (unbroken-word trap.value)))))

pub unbroken-named : (name : List ℕ) (n : ℕ) → Unbroken name → n < 2 ^ 64 → Unbroken (name ++ decimal n)
unbroken-named name n plain small = both name (decimal n) plain (unbroken-decimal n small)

pub unbroken-data : (piece : List ℕ) → All (λ b. b < 256) piece → Unbroken (data_line piece)
unbroken-data piece low = both (codes "data ") _ (literal (codes "data ") refl) (unbroken-encode piece low)

pub unbroken-set : (place : ℕ) (set : ℕ → Bool) → place < 2 ^ 64 → Unbroken (set_line place set)
unbroken-set place set small =
    both (codes "set ") _ (literal (codes "set ") refl) (both (decimal place) _ (unbroken-decimal place small) (both (codes " ") _ space
    (both (decimal (size set)) _ (unbroken-decimal (size set) (size_small set)) (both (codes " ") _ space (unbroken-encode (set_bytes set) (set_bytes-low set))))))

pub unbroken-revealed : (sets : List (ℕ → Bool)) (input : List ℕ) → revealed sets < 2 ^ 64 → 8 * length input < 2 ^ 64 → Unbroken (revealed_line sets input)
unbroken-revealed sets input small-b small-t =
    both (codes "revealed ") _ (literal (codes "revealed ") refl) (both (decimal (revealed sets)) _ (unbroken-decimal _ small-b) (both (codes " of ") _ (literal (codes " of ") refl) (unbroken-decimal _ small-t)))

-- ---- what a choice says of its bytes

pub choice-bytes : (sets : List (ℕ → Bool)) (input : List ℕ) → IsChoice sets input → All (λ b. b < 256) input
choice-bytes [] [] h = All-nil (λ b. b < 256)
choice-bytes [] (byte ∷ input) h = absurd h
choice-bytes (set ∷ sets) [] h = absurd h
choice-bytes (set ∷ sets) (byte ∷ input) h = All-cons (λ b. b < 256) byte input h.0.0 (choice-bytes sets input h.1)

pub choice-long : (sets : List (ℕ → Bool)) (input : List ℕ) → IsChoice sets input → length sets ≡ length input
choice-long [] [] h = refl
choice-long [] (byte ∷ input) h = absurd h
choice-long (set ∷ sets) [] h = absurd h
choice-long (set ∷ sets) (byte ∷ input) h = ap suc (choice-long sets input h.1)

pub revealed-small : (sets : List (ℕ → Bool)) → revealed sets ≤ 8 * length sets
revealed-small [] = omega arith
revealed-small (set ∷ sets) =
    omega (arith, sum_by-cons (λ set. 8 - floor_log2 (size set)) set sets, revealed-small sets)

-- ---- all lines of a report

chunks-bytes : (k : ℕ) (xs : List ℕ) → All (λ b. b < 256) xs → All (λ piece. All (λ b. b < 256) piece) (first_chunks 32 k xs)
chunks-bytes zero xs low = All-nil (λ (piece : List ℕ). All (λ b. b < 256) piece)
chunks-bytes (suc k) xs low =
    All-cons (λ (piece : List ℕ). All (λ b. b < 256) piece) (take 32 xs) (first_chunks 32 k (drop 32 xs)) (All-take (λ b. b < 256) 32 xs low) (chunks-bytes k (drop 32 xs) (All-drop (λ b. b < 256) 32 xs low))

data-unbroken : (input : List ℕ) → All (λ b. b < 256) input → All Unbroken (data_lines input)
unfolding data_lines
data-unbroken input low =
    let pieces = chunks-bytes ((length input + 31) / 32) input low in
    All-map Unbroken data_line (first_chunks 32 ((length input + 31) / 32) input) (λ i d lt. unbroken-data (get_or (first_chunks 32 ((length input + 31) / 32) input) i d) (pieces i d lt))

one_set-unbroken : (t : Bool) (place : ℕ) (set : ℕ → Bool) → place < 2 ^ 64 → All Unbroken (if t then [] else set_line place set ∷ [])
one_set-unbroken true place set small = All-nil Unbroken
one_set-unbroken false place set small = All-cons Unbroken (set_line place set) [] (unbroken-set place set small) (All-nil Unbroken)

sets-unbroken : (place : ℕ) (sets : List (ℕ → Bool)) → place + length sets < 2 ^ 64 → All Unbroken (set_lines place sets)
unfolding set_lines
sets-unbroken place [] small = All-nil Unbroken
sets-unbroken place (set ∷ sets) small =
    All-append Unbroken (lines_of_set place set) (set_lines (place + 1) sets) (one_set-unbroken (size set == 256) place set (omega arith)) (sets-unbroken (place + 1) sets (omega arith))

six : (a b c d e f : List ℕ) → Unbroken a → Unbroken b → Unbroken c → Unbroken d → Unbroken e → Unbroken f → All Unbroken (a ∷ b ∷ c ∷ d ∷ e ∷ f ∷ [])
six a b c d e f ua ub uc ud ue uf =
    All-cons Unbroken a (b ∷ c ∷ d ∷ e ∷ f ∷ []) ua (All-cons Unbroken b (c ∷ d ∷ e ∷ f ∷ []) ub (All-cons Unbroken c (d ∷ e ∷ f ∷ []) uc
    (All-cons Unbroken d (e ∷ f ∷ []) ud (All-cons Unbroken e (f ∷ []) ue (All-cons Unbroken f [] uf (All-nil Unbroken))))))

head-unbroken : (content : Content) → IsReport content → All Unbroken (head content)
unfolding head
head-unbroken content is =
    let few = is.input_length in
    six (codes "crash-report 1") (program_line content.length content.digest) (trap_line content.trap) (steps_line content.steps) (seed_line content.seed) (input_line content.input)
    (literal (codes "crash-report 1") refl)
    (unbroken-program content.length content.digest (omega (arith, is.program_length)) is.digest_bytes)
    (unbroken-trap content.trap)
    (unbroken-named (codes "steps ") content.steps (literal (codes "steps ") refl) (omega (arith, is.most_steps)))
    (unbroken-named (codes "seed ") content.seed (literal (codes "seed ") refl) is.seed)
    (unbroken-named (codes "input ") (length content.input) (literal (codes "input ") refl) (omega arith))

tail-unbroken : (content : Content) → IsReport content → All Unbroken (tail content)
unfolding tail
tail-unbroken content is =
    let long = choice-long content.sets content.input is.input_in_sets in
    let few = is.input_length in
    let bits = revealed-small content.sets in
    All-cons Unbroken (revealed_line content.sets content.input) (codes "end" ∷ []) (unbroken-revealed content.sets content.input (omega arith) (omega arith))
    (All-cons Unbroken (codes "end") [] (literal (codes "end") refl) (All-nil Unbroken))

pub lines-unbroken : (content : Content) → IsReport content → All Unbroken (lines content)
unfolding lines
lines-unbroken content is =
    let low = choice-bytes content.sets content.input is.input_in_sets in
    let long = choice-long content.sets content.input is.input_in_sets in
    let few = is.input_length in
    All-append Unbroken (head content) (data_lines content.input ++ (set_lines 0 content.sets ++ tail content)) (head-unbroken content is)
    (All-append Unbroken (data_lines content.input) (set_lines 0 content.sets ++ tail content) (data-unbroken content.input low)
    (All-append Unbroken (set_lines 0 content.sets) (tail content) (sets-unbroken 0 content.sets (omega arith)) (tail-unbroken content is)))

-- ---- how many lines there are

chunk-count : (k : ℕ) (xs : List ℕ) → length (first_chunks 32 k xs) ≡ k
chunk-count zero xs = refl
chunk-count (suc k) xs = ap suc (chunk-count k (drop 32 xs))

data-count : (input : List ℕ) → length (data_lines input) ≡ (length input + 31) / 32
unfolding data_lines
data-count input = simp length-map (chunk-count ((length input + 31) / 32) input)

one_set-count : (t : Bool) (line : List ℕ) → length (if t then [] else line ∷ []) ≤ 1
one_set-count true line = omega arith
one_set-count false line = omega arith

set-count : (place : ℕ) (sets : List (ℕ → Bool)) → length (set_lines place sets) ≤ length sets
unfolding set_lines
set-count place [] = omega arith
set-count place (set ∷ sets) =
    omega (arith, length-append (lines_of_set place set) (set_lines (place + 1) sets), one_set-count (size set == 256) (set_line place set), set-count (place + 1) sets)

pub lines-count : (content : Content) → IsReport content → length (lines content) ≤ 100000
unfolding lines head tail
lines-count content is =
    let long = choice-long content.sets content.input is.input_in_sets in
    let few = is.input_length in
    omega (arith, length-append (data_lines content.input) (set_lines 0 content.sets ++ tail content), length-append (set_lines 0 content.sets) (tail content), data-count content.input, set-count 0 content.sets)

-- ---- the first line that fails

-- the rest begins with the first of these lines, or is empty where there is none
abbrev pub Continues : List (List ℕ) → List ℕ → Type 0
Continues [] rest = rest ≡ []
Continues (line ∷ more) rest = (after : List ℕ) × (rest ≡ line ++ (10 ∷ after))

continues-some : (more dropped : List (List ℕ)) (rest r : List ℕ) → 0 < length more → rest ≡ joined more ++ r → Continues (more ++ dropped) rest
continues-some [] dropped rest r some e = absurd (omega arith)
continues-some (line ∷ more) dropped rest r some e = (joined more ++ r, e ∙ open_line line more r)

continues-all : (more : List (List ℕ)) (rest : List ℕ) → rest ≡ joined more ++ [] → Continues more rest
continues-all [] rest e = e
continues-all (line ∷ more) rest e = (joined more ++ [], e ∙ open_line line more [])

module _ (fits : Content → List (List ℕ) → Type 0) (text rest : List ℕ) (count : ℕ) (after : IsAfter fits text rest count) where
  whole : lines after.draft ≡ after.read ++ after.left
  whole = (after.same after.draft after.left after.report).1 after.fit

  read-unbroken : All Unbroken after.read
  read-unbroken = All-front Unbroken after.read after.left (rw whole at (lines-unbroken after.draft after.report))

  pub count-small : count ≤ 100000
  count-small = omega (arith, after.counted, lines-count after.draft after.report, ap length whole, length-append after.read after.left)

  -- a report that begins with the lines that were read and goes on
  module _ (content : Content) (report : IsReport content) (ms : List (List ℕ)) (r : List ℕ) (begins : text ≡ joined ms ++ r) (ms-unbroken : All Unbroken ms) where
    cut-at : length after.read ≤ length ms → (more : List (List ℕ)) × (ms ≡ after.read ++ more) × (rest ≡ joined more ++ r)
    cut-at enough = lines-cut after.read ms rest r read-unbroken ms-unbroken (sym after.parts ∙ begins) enough

    not-shorter : r ≡ [] → length ms < length after.read → ⊥
    not-shorter none less =
        let cut = lines-cut ms after.read r rest ms-unbroken read-unbroken (sym begins ∙ after.parts) (omega arith) in
        omega (arith, less, ap length cut.1, length-append ms cut.0, ap length (no_lines cut.0 rest (sym none ∙ cut.2)))

  -- no report that fits goes on as the text does: the text fails at the next line
  pub fails-here : ((content : Content) (more : List (List ℕ)) → IsReport content → fits content more → Continues more rest → ⊥) → FailsAt (count + 1) text
  unfolding text_of
  fails-here never = record {
    no_text = λ content is.
        let begins : text ≡ joined (lines content) ++ [] = is.written ∙ sym (append-nil (joined (lines content))) in
        let all = lines-unbroken content is.report in
        ⊎_elim
        (λ (less : length (lines content) < length after.read). not-shorter content is.report (lines content) [] begins all refl less)
        (λ (enough : length after.read ≤ length (lines content)).
        let cut = cut-at content is.report (lines content) [] begins all enough in
        never content cut.0 is.report ((after.same content cut.0 is.report).0 cut.1) (continues-all cut.0 rest cut.2))
        (cases_lt (length (lines content)) (length after.read));
    like = after.draft;
    earlier =
        let before : count + 1 - 1 ≡ length after.read = omega (arith, after.counted) in
        record {
          report = after.report;
          enough = omega (arith, before, ap length whole, length-append after.read after.left);
          rest = rest;
          parts = rw (before, whole, take-append_seam after.read after.left) after.parts;
        };
    fails = λ content begins.
        let ms = take (count + 1) (lines content) in
        let others = drop (count + 1) (lines content) in
        let all = take-append-drop (count + 1) (lines content) in
        let plain = All-front Unbroken ms others (rw all (lines-unbroken content begins.report)) in
        let long : length ms ≡ count + 1 = omega (arith, length-take (count + 1) (lines content), begins.enough) in
        let cut = cut-at content begins.report ms begins.rest begins.parts plain (omega (arith, after.counted, long)) in
        let some : 0 < length cut.0 = omega (arith, after.counted, long, ap length cut.1, length-append after.read cut.0) in
        let goes : lines content ≡ after.read ++ (cut.0 ++ others) = sym all ∙ (ap (λ ls. ls ++ others) cut.1 ∙ append_assoc after.read cut.0 others) in
        never content (cut.0 ++ others) begins.report ((after.same content (cut.0 ++ others) begins.report).0 goes) (continues-some cut.0 others rest begins.rest some cut.2);
  }

  -- where nothing is left of the text, every report with this text fits with no line left
  pub all-lines : rest ≡ [] → (content : Content) → IsTextOf content text → fits content []
  unfolding text_of
  all-lines over content is =
      let begins : text ≡ joined (lines content) ++ [] = is.written ∙ sym (append-nil (joined (lines content))) in
      let all = lines-unbroken content is.report in
      ⊎_elim
      (λ (less : length (lines content) < length after.read). absurd (not-shorter content is.report (lines content) [] begins all refl less))
      (λ (enough : length after.read ≤ length (lines content)).
      let cut = cut-at content is.report (lines content) [] begins all enough in
      let none : cut.0 ≡ [] = no_lines cut.0 [] (sym over ∙ cut.2) in
      subst (fits content) none ((after.same content cut.0 is.report).0 cut.1))
      (cases_lt (length (lines content)) (length after.read))

  -- one more line is read
  pub step : (fits' : Content → List (List ℕ) → Type 0) (line remains : List ℕ) (draft : Content) (left : List (List ℕ)) → rest ≡ line ++ (10 ∷ remains) → IsReport draft → fits' draft left
      → ((content : Content) (more : List (List ℕ)) → IsReport content → fits content (line ∷ more) ↔ fits' content more) → IsAfter fits' text remains (count + 1)
  step fits' line remains draft left next report fit same = record {
    read = after.read ++ (line ∷ []);
    parts = joined-more after.read line text rest remains after.parts next;
    counted = omega (arith, after.counted, length-append after.read (line ∷ []));
    draft = draft;
    report = report;
    left = left;
    fit = fit;
    same = λ content more is.
        let regroup : (after.read ++ (line ∷ [])) ++ more ≡ after.read ++ (line ∷ more) = append_assoc after.read (line ∷ []) more in (
          λ e. (same content more is).0 ((after.same content (line ∷ more) is).0 (e ∙ regroup)),
          λ f. (after.same content (line ∷ more) is).1 ((same content more is).1 f) ∙ sym regroup,
        );
  }

  -- what is known is said in another way
  pub recast : (fits' : Content → List (List ℕ) → Type 0) → ((content : Content) (more : List (List ℕ)) → IsReport content → fits content more ↔ fits' content more) → IsAfter fits' text rest count
  recast fits' same = record {
    read = after.read;
    parts = after.parts;
    counted = after.counted;
    draft = after.draft;
    report = after.report;
    left = after.left;
    fit = (same after.draft after.left after.report).0 after.fit;
    same = λ content more is. (λ e. (same content more is).0 ((after.same content more is).0 e), λ f. (after.same content more is).1 ((same content more is).1 f));
  }

-- these lines are read
pub after-lines : (read left : List (List ℕ)) (draft : Content) (text rest : List ℕ) → IsReport draft → lines draft ≡ read ++ left → text ≡ joined read ++ rest
    → IsAfter (λ content more. lines content ≡ read ++ more) text rest (length read)
after-lines read left draft text rest report fit parts = record {
  read = read;
  parts = parts;
  counted = refl;
  draft = draft;
  report = report;
  left = left;
  fit = fit;
  same = λ content more is. (λ e. e, λ e. e);
}
