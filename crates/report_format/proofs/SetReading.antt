-- What is known of a text after some lines of sets.
use Rattle.std.proofs.Common.{◌≡◌, ◌∙◌, ◌⊎◌, ◌+◌, ◌-◌, ◌<◌, ◌≤◌, ℕ, suc, Bool, List, [], ◌∷◌, ◌++◌, All, length, replicate, take, drop, get_or, slice_index, arith, refl, sym, ap, subst, append_assoc, append-nil, length-append, ⊎_elim}
use Rattle.std.specs.Prelude.{codes, IsTrue}
use Rattle.std.proofs.lemmas.List.{length-replicate, length-take, length-drop, take-append-drop, append_cancel_left, get_or-drop}
use Rattle.std.proofs.Math.Seq.{drop-cons}
use Rattle.std.proofs.lemmas.List.Elements.{All-nil, All-cons, All-append, All-take, All-drop}
use Rattle.input_laws.specs.Sets.{IsByteSet, IsChoice}
use Rattle.input_laws.proofs.Freed.{filled}
use Rattle.text_lines.specs.Lines.{ComesNo}
use Rattle.text_lines.proofs.Cuts.{All-front, All-back}
use Rattle.report_format.specs.Text.{Content, IsReport, set_line, set_lines, revealed_line, data_lines, tail}
use Rattle.report_format.specs.Reading.{FailsAt}
use Rattle.report_format.specs.Stages.{IsAfter, content_with, IsHead, FitsData, FitsSets, IsToldSet, IsSetLine, full}
use Rattle.report_format.specs.declared.head.Head.{Head}
use Rattle.report_format.proofs.TextLemmas.{data_lines-empty}
use Rattle.report_format.proofs.LineLemmas.{Continues, fails-here, step, recast, choice-bytes, choice-long}
use Rattle.report_format.proofs.HeadLemmas.{full-sets, report-with, head-with}
use Rattle.report_format.proofs.SetLemmas.{lines-skip, lines-told, AllFull, FirstTold, next-set, line-tells, choice-front, choice-append, full-rest}

-- ---- after the input

none-left : (xs ys : List ℕ) → xs ≡ xs ++ ys → ys ≡ []
none-left xs ys e = sym (append_cancel_left xs [] ys (append-nil xs ∙ e))

short : (xs ys others : List ℕ) → xs ≡ ys ++ others → length xs ≡ length ys → others ≡ []
short xs ys [] e same = refl
short xs ys (x ∷ others) e same = absurd (omega (arith, ap length e, length-append ys (x ∷ others)))

pub after-data : (of : Head) (input text rest : List ℕ) (count : ℕ) → length input ≡ of.input → IsAfter (FitsData of input) text rest count → IsAfter (FitsSets of input []) text rest count
after-data of input text rest count long after =
    recast (FitsData of input) text rest count after (FitsSets of input []) (λ content more report. (
      λ fits.
          let none : fits.others ≡ [] = short content.input input fits.others fits.input (fits.long ∙ sym long) in
          record {
            first_lines = fits.first_lines;
            input_is = fits.input ∙ (ap (λ o. input ++ o) none ∙ append-nil input);
            others = content.sets;
            sets_are = refl;
            left = fits.left ∙ (ap (λ o. data_lines o ++ (set_lines 0 content.sets ++ tail content)) none ∙ ap (λ ls. ls ++ (set_lines 0 content.sets ++ tail content)) (data_lines-empty [] refl));
          },
      λ fits. record {
        first_lines = fits.first_lines;
        long = ap length fits.input_is ∙ long;
        others = [];
        input = fits.input_is ∙ sym (append-nil input);
        left = fits.left ∙ (ap (λ ss. set_lines 0 ss ++ tail content) (sym fits.sets_are) ∙ ap (λ ls. ls ++ (set_lines 0 content.sets ++ tail content)) (sym (data_lines-empty [] refl)));
      },
    ))

-- ---- the next line

pub tail-first : (content : Content) → tail content ≡ revealed_line content.sets content.input ∷ codes "end" ∷ []
unfolding tail
tail-first content = refl

-- a set at a place of a choice has the byte there
choice-at : (sets : List (ℕ → Bool)) (set : ℕ → Bool) (others : List (ℕ → Bool)) (input : List ℕ) → IsChoice (sets ++ (set ∷ others)) input
    → (length sets < length input) × (slice_index input (length sets) < 256) × IsTrue (set (slice_index input (length sets)))
choice-at [] set others [] h = absurd h
choice-at [] set others (x ∷ input) h = (omega arith, h.0.0, h.0.1)
choice-at (s ∷ sets) set others [] h = absurd h
choice-at (s ∷ sets) set others (x ∷ input) h = let more = choice-at sets set others input h.1 in (omega (arith, more.0), more.1, more.2)

module _ (of : Head) (input : List ℕ) (told : List (ℕ → Bool)) (content : Content) (more : List (List ℕ)) (report : IsReport content) (fits : FitsSets of input told content more) where
  rest-sets : All IsByteSet fits.others
  rest-sets = All-back IsByteSet told fits.others (rw fits.sets_are at report.sets_of_bytes)

  choice : IsChoice (told ++ fits.others) input
  choice = rw (fits.sets_are, fits.input_is) at report.input_in_sets

  pub next : AllFull (length told) fits.others ⊎ FirstTold (length told) fits.others
  next = next-set (length told) fits.others rest-sets

  pub ends : AllFull (length told) fits.others → more ≡ revealed_line content.sets content.input ∷ codes "end" ∷ []
  ends none = fits.left ∙ (ap (λ ls. ls ++ tail content) none.none ∙ tail-first content)

  pub goes-on : (first : FirstTold (length told) fits.others) → more ≡ set_line (length told + first.skipped) first.set ∷ (set_lines (length told + first.skipped + 1) first.others ++ tail content)
  goes-on first = fits.left ∙ ap (λ ls. ls ++ tail content) first.first

  regrouped : (first : FirstTold (length told) fits.others) → told ++ fits.others ≡ (told ++ replicate first.skipped full) ++ (first.set ∷ first.others)
  regrouped first = ap (λ ss. told ++ ss) first.are ∙ sym (append_assoc told (replicate first.skipped full) (first.set ∷ first.others))

  pub is-told : (first : FirstTold (length told) fits.others) → IsToldSet input (length told) (length told + first.skipped) first.set
  is-told first =
      let at = choice-at (told ++ replicate first.skipped full) first.set first.others input (rw (regrouped first) at choice) in
      let place : length (told ++ replicate first.skipped full) ≡ length told + first.skipped = omega (arith, length-append told (replicate first.skipped full), length-replicate first.skipped full) in
      let here = rw place at at in
      record {
        after = omega arith;
        within = here.0;
        bytes = first.bytes;
        some = filled first.set (slice_index input (length told + first.skipped)) here.1 here.2;
        few = first.few;
        has_byte = here.2;
      }

-- a line that begins like that of a set, but is no such line: the text fails there
pub sets-fail : (of : Head) (input : List ℕ) (told : List (ℕ → Bool)) (text rest more : List ℕ) (count : ℕ) → IsAfter (FitsSets of input told) text rest count → rest ≡ codes "set " ++ more
    → ComesNo (IsSetLine input (length told)) rest → FailsAt (count + 1) text
sets-fail of input told text rest begun count after begins none =
    fails-here (FitsSets of input told) text rest count after (λ content more report fits continues.
    ⊎_elim
    (λ (full : AllFull (length told) fits.others).
    let follows = subst (λ m. Continues m rest) (ends of input told content more report fits full) continues in
    let clash : codes "set " ++ begun ≡ revealed_line content.sets content.input ++ (10 ∷ follows.0) = sym begins ∙ follows.1 in
    let first = ap (λ (l : List ℕ). get_or l 0 0) clash in
    omega (arith, first))
    (λ (first : FirstTold (length told) fits.others).
    let follows = subst (λ m. Continues m rest) (goes-on of input told content more report fits first) continues in
    none (set_line (length told + first.skipped) first.set) follows.0 (record {
      place = length told + first.skipped;
      set = first.set;
      told = is-told of input told content more report fits first;
      is = refl;
    }) follows.1)
    (next of input told content more report fits))

-- ---- one more set

abbrev pub with-set : List (ℕ → Bool) → ℕ → (ℕ → Bool) → List (ℕ → Bool)
with-set told place set = told ++ (replicate (place - length told) full ++ (set ∷ []))

with-set-long : (told : List (ℕ → Bool)) (place : ℕ) (set : ℕ → Bool) → length told ≤ place → length (with-set told place set) ≡ place + 1
with-set-long told place set le =
    omega (arith, length-append told (replicate (place - length told) full ++ (set ∷ [])), length-append (replicate (place - length told) full) (set ∷ []), length-replicate (place - length told) full)

-- the sets so far are chosen from by the first bytes
pub told-choice : (of : Head) (input : List ℕ) (told : List (ℕ → Bool)) (text rest : List ℕ) (count : ℕ) → IsAfter (FitsSets of input told) text rest count
    → (length told ≤ length input) × IsChoice told (take (length told) input) × All IsByteSet told × All (λ b. b < 256) input
told-choice of input told text rest count after =
    let all = choice of input told after.draft after.left after.report after.fit in
    let long = choice-long (told ++ after.fit.others) input all in
    let few : length told ≤ length input = omega (arith, long, length-append told after.fit.others) in
    let front = choice-front told after.fit.others (take (length told) input) (drop (length told) input) (omega (arith, length-take (length told) input, few)) (rw (take-append-drop (length told) input) all) in (
      few,
      front.0,
      All-front IsByteSet told after.fit.others (rw after.fit.sets_are at after.report.sets_of_bytes),
      choice-bytes (told ++ after.fit.others) input all,
    )

-- where the sets so far are chosen from, they and full sets are
pub filled-choice : (input : List ℕ) (told : List (ℕ → Bool)) → length told ≤ length input → All (λ b. b < 256) input → IsChoice told (take (length told) input)
    → IsChoice (told ++ replicate (length input - length told) full) input
filled-choice input told few low front =
    let whole = take-append-drop (length told) input in
    subst (IsChoice (told ++ replicate (length input - length told) full)) whole
    (choice-append told (replicate (length input - length told) full) (take (length told) input) (drop (length told) input) front
    (full-rest (drop (length told) input) (length input - length told) (All-drop (λ b. b < 256) (length told) input low) (omega (arith, length-drop (length told) input))))

regroup : (told fulls : List (ℕ → Bool)) (set : ℕ → Bool) (others : List (ℕ → Bool)) → told ++ (fulls ++ (set ∷ others)) ≡ (told ++ (fulls ++ (set ∷ []))) ++ others
regroup told fulls set others = sym (append_assoc told (fulls ++ (set ∷ [])) others ∙ ap (λ t. told ++ t) (append_assoc fulls (set ∷ []) others))

regroup-bytes : (a b c : List ℕ) (v : ℕ) → a ++ (b ++ (v ∷ c)) ≡ (a ++ (b ++ (v ∷ []))) ++ c
regroup-bytes a b c v = sym (append_assoc a (b ++ (v ∷ [])) c ∙ ap (λ t. a ++ t) (append_assoc b (v ∷ []) c))

-- a choice from the sets with one more, and full sets after them
more-choice : (input : List ℕ) (told : List (ℕ → Bool)) (place : ℕ) (set : ℕ → Bool) → IsChoice told (take (length told) input) → length told ≤ length input → All (λ b. b < 256) input
    → IsToldSet input (length told) place set → IsChoice (with-set told place set ++ replicate (length input - (place + 1)) full) input
more-choice input told place set front few low is =
    let n = length told in
    let k = place - n in
    let back = drop n input in
    let v = get_or back k 0 in
    let a = take n input in
    let b = take k back in
    let c = drop (suc k) back in
    let inside : k < length back = omega (arith, length-drop n input, is.after, is.within) in
    let parts : input ≡ (a ++ (b ++ (v ∷ []))) ++ c =
    sym (take-append-drop n input) ∙ (ap (λ d. a ++ d) (sym (take-append-drop k back) ∙ ap (λ d. b ++ d) (drop-cons back k 0 inside)) ∙ regroup-bytes a b c v) in
    let back-bytes : All (λ b. b < 256) back = All-drop (λ b. b < 256) n input low in
    let b-bytes : All (λ b. b < 256) b = All-take (λ b. b < 256) k back back-bytes in
    let c-bytes : All (λ b. b < 256) c = All-drop (λ b. b < 256) (suc k) back back-bytes in
    let v-byte : v < 256 = back-bytes k 0 inside in
    let sum : n + k ≡ place = omega (arith, is.after) in
    let at : v ≡ slice_index input place = get_or-drop n input k 0 ∙ ap (λ j. get_or input j 0) sum in
    let here : IsTrue (set v) = rw at is.has_byte in
    let b-long : k ≡ length b = omega (arith, length-take k back, inside) in
    let c-long : length input - (place + 1) ≡ length c = omega (arith, length-drop (suc k) back, length-drop n input, is.after, is.within) in
    let one : IsChoice (replicate k full ++ (set ∷ [])) (b ++ (v ∷ [])) = choice-append (replicate k full) (set ∷ []) b (v ∷ []) (full-rest b k b-bytes b-long) ((v-byte, here), tt) in
    let all = choice-append (told ++ (replicate k full ++ (set ∷ []))) (replicate (length input - (place + 1)) full) (a ++ (b ++ (v ∷ []))) c (choice-append told (replicate k full ++ (set ∷ [])) a (b ++ (v ∷ [])) front one)
    (full-rest c (length input - (place + 1)) c-bytes c-long) in
    subst (IsChoice (with-set told place set ++ replicate (length input - (place + 1)) full)) (sym parts) all

with-set-sets : (told : List (ℕ → Bool)) (place : ℕ) (set : ℕ → Bool) → All IsByteSet told → IsByteSet set → All IsByteSet (with-set told place set)
with-set-sets told place set all one =
    All-append IsByteSet told (replicate (place - length told) full ++ (set ∷ [])) all
    (All-append IsByteSet (replicate (place - length told) full) (set ∷ []) (full-sets (place - length told)) (All-cons IsByteSet set [] one (All-nil IsByteSet)))

-- one more line of a set is read
pub sets-step : (of : Head) (input : List ℕ) (told : List (ℕ → Bool)) (text rest remains : List ℕ) (count place : ℕ) (set : ℕ → Bool) → IsHead of → length input ≡ of.input
    → IsAfter (FitsSets of input told) text rest count → IsToldSet input (length told) place set → rest ≡ set_line place set ++ (10 ∷ remains)
    → IsAfter (FitsSets of input (with-set told place set)) text remains (count + 1)
sets-step of input told text rest remains count place set is long after one next-line =
    let so_far = told-choice of input told text rest count after in
    let grown = with-set told place set in
    let grown-long : length grown ≡ place + 1 = with-set-long told place set one.after in
    let fulls : List (ℕ → Bool) = replicate (length input - (place + 1)) full in
    let all = more-choice input told place set so_far.1 so_far.0 so_far.3 one in
    let sets = All-append IsByteSet grown fulls (with-set-sets told place set so_far.2 one.bytes) (full-sets (length input - (place + 1))) in
    let small-input : length input ≤ 65536 = omega (arith, long, is.input_length) in
    step (FitsSets of input told) text rest count after (FitsSets of input grown) (set_line place set) remains (content_with of input (grown ++ fulls)) _ next-line
    (report-with of input (grown ++ fulls) is long sets all)
    (record { first_lines = head-with of input (grown ++ fulls) long; input_is = refl; others = fulls; sets_are = refl; left = refl })
    (λ content more report. (
      λ fits. ⊎_elim
          (λ (none : AllFull (length told) fits.others).
          let ended = ends of input told content (set_line place set ∷ more) report fits none in
          let clash : set_line place set ≡ revealed_line content.sets content.input = cc in
          let first = ap (λ (l : List ℕ). get_or l 0 0) clash in
          absurd (omega (arith, first)))
          (λ (first : FirstTold (length told) fits.others).
          let goes = goes-on of input told content (set_line place set ∷ more) report fits first in
          let line : set_line place set ≡ set_line (length told + first.skipped) first.set = cc in
          let remain : more ≡ set_lines (length told + first.skipped + 1) first.others ++ tail content = cc in
          let other = is-told of input told content (set_line place set ∷ more) report fits first in
          let same = line-tells place (length told + first.skipped) set first.set (omega (arith, one.within, small-input)) (omega (arith, other.within, small-input)) one.bytes first.bytes line in
          let skipped : first.skipped ≡ place - length told = omega (arith, same.0) in
          let at : length told + first.skipped + 1 ≡ length grown = omega (arith, same.0, grown-long) in
          record {
            first_lines = fits.first_lines;
            input_is = fits.input_is;
            others = first.others;
            sets_are = fits.sets_are ∙ (ap (λ o. told ++ o) first.are ∙ (ap (λ k. told ++ (replicate k full ++ (first.set ∷ first.others))) skipped
                ∙ (ap (λ s. told ++ (replicate (place - length told) full ++ (s ∷ first.others))) (sym same.1) ∙ regroup told (replicate (place - length told) full) set first.others)));
            left = remain ∙ ap (λ p. set_lines p first.others ++ tail content) at;
          })
          (next of input told content (set_line place set ∷ more) report fits),
      λ fits.
          let at : length told + (place - length told) ≡ place = omega (arith, one.after) in
          let skip = lines-skip (place - length told) (length told) (set ∷ fits.others) in
          let lines-are : set_lines (length told) (replicate (place - length told) full ++ (set ∷ fits.others)) ≡ set_line place set ∷ set_lines (place + 1) fits.others =
          skip ∙ (ap (λ p. set_lines p (set ∷ fits.others)) at ∙ lines-told place set fits.others one.few) in
          record {
            first_lines = fits.first_lines;
            input_is = fits.input_is;
            others = replicate (place - length told) full ++ (set ∷ fits.others);
            sets_are = fits.sets_are ∙ sym (regroup told (replicate (place - length told) full) set fits.others);
            left = ap (λ ls. set_line place set ∷ ls) (fits.left ∙ ap (λ p. set_lines p fits.others ++ tail content) grown-long) ∙ sym (ap (λ ls. ls ++ tail content) lines-are);
          },
    ))
