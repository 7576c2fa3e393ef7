-- The lines of the input's bytes.
use Rattle.std.proofs.Common.{◌≡◌, ◌∙◌, ◌+◌, ◌-◌, ◌<◌, ◌≤◌, ℕ, List, ◌∷◌, ◌++◌, All, length, replicate, take, drop, min, arith, refl, sym, ap, subst, append_assoc, length-append}
use Rattle.std.specs.Prelude.{codes}
use Rattle.std.proofs.lemmas.List.{append_cancel_left, length-replicate, length-take, take-append-drop}
use Rattle.std.proofs.lemmas.List.Elements.{All-append, All-take}
use Rattle.text_lines.proofs.Cuts.{All-front, All-back}
use Rattle.text_lines.proofs.DigitLemmas.{bytes-from_all, encode-injective}
use Rattle.text_lines.specs.Lines.{ComesNo}
use Rattle.report_format.specs.Text.{Content, IsReport, data_line, data_lines, set_lines, tail}
use Rattle.report_format.specs.Reading.{FailsAt}
use Rattle.report_format.specs.Stages.{IsAfter, content_with, IsDataLine, IsHead, FitsData, full}
use Rattle.report_format.specs.declared.head.Head.{Head}
use Rattle.report_format.proofs.TextLemmas.{piece_cut, data_lines-first}
use Rattle.report_format.proofs.LineLemmas.{Continues, fails-here, step, choice-bytes}
use Rattle.report_format.proofs.HeadLemmas.{full-sets, full-choice, zeros-low, report-with, head-with}

-- the lines after the input's
abbrev later : Content → List (List ℕ)
later content = set_lines 0 content.sets ++ tail content

-- a report with these first bytes
data-draft : (of : Head) (xs : List ℕ) → Content
data-draft of xs = content_with of (xs ++ replicate (of.input - length xs) 0) (replicate of.input full)

draft-long : (of : Head) (xs : List ℕ) → length xs ≤ of.input → length (xs ++ replicate (of.input - length xs) 0) ≡ of.input
draft-long of xs few = omega (arith, length-append xs (replicate (of.input - length xs) 0), length-replicate {A = ℕ} (of.input - length xs) 0)

draft-report : (of : Head) (xs : List ℕ) → IsHead of → All (λ b. b < 256) xs → length xs ≤ of.input → IsReport (data-draft of xs)
unfolding data-draft
draft-report of xs is low few =
    let long = draft-long of xs few in
    let choice = rw long at (full-choice (xs ++ replicate (of.input - length xs) 0) (All-append (λ b. b < 256) xs (replicate (of.input - length xs) 0) low (zeros-low (of.input - length xs)))) in
    report-with of (xs ++ replicate (of.input - length xs) 0) (replicate of.input full) is long (full-sets of.input) choice

draft-fits : (of : Head) (xs : List ℕ) → length xs ≤ of.input → FitsData of xs (data-draft of xs) (data_lines (replicate (of.input - length xs) 0) ++ later (data-draft of xs))
unfolding data-draft
draft-fits of xs few =
    let long = draft-long of xs few in
    record {
      first_lines = head-with of (xs ++ replicate (of.input - length xs) 0) (replicate of.input full) long;
      long = long;
      others = replicate (of.input - length xs) 0;
      input = refl;
      left = refl;
    }

-- the bytes that come next
module _ (of : Head) (xs : List ℕ) (content : Content) (more : List (List ℕ)) (report : IsReport content) (fits : FitsData of xs content more) (unread : length xs < of.input) where
  others-long : length fits.others ≡ of.input - length xs
  others-long = omega (arith, fits.long, ap length fits.input, length-append xs fits.others, unread)

  others-low : All (λ b. b < 256) fits.others
  others-low = All-back (λ b. b < 256) xs fits.others (rw fits.input at (choice-bytes content.sets content.input report.input_in_sets))

  pub next-piece : more ≡ data_line (take 32 fits.others) ∷ (data_lines (drop 32 fits.others) ++ later content)
  next-piece = fits.left ∙ ap (λ ls. ls ++ later content) (data_lines-first fits.others (omega (arith, others-long, unread)))

  pub piece-long : length (take 32 fits.others) ≡ min 32 (of.input - length xs)
  piece-long = omega (arith, length-take 32 fits.others, others-long)

  pub piece-low : All (λ b. b < 256) (take 32 fits.others)
  piece-low = All-take (λ b. b < 256) 32 fits.others others-low

-- no line of the next bytes comes: the text fails there
pub data-fails : (of : Head) (xs text rest : List ℕ) (count : ℕ) → IsAfter (FitsData of xs) text rest count → length xs < of.input → ComesNo (IsDataLine (min 32 (of.input - length xs))) rest
    → FailsAt (count + 1) text
data-fails of xs text rest count after unread none =
    fails-here (FitsData of xs) text rest count after (λ content more report fits continues.
    let follows = subst (λ m. Continues m rest) (next-piece of xs content more report fits unread) continues in
    none (data_line (take 32 fits.others)) follows.0 (record {
      piece = take 32 fits.others;
      long = piece-long of xs content more report fits unread;
      low = piece-low of xs content more report fits unread;
      is = refl;
    }) follows.1)

-- one more line of bytes is read
pub data-step : (of : Head) (xs piece text rest remains : List ℕ) (count : ℕ) → IsHead of → IsAfter (FitsData of xs) text rest count → length xs < of.input
    → length piece ≡ min 32 (of.input - length xs) → All (λ b. b < 256) piece → rest ≡ data_line piece ++ (10 ∷ remains) → IsAfter (FitsData of (xs ++ piece)) text remains (count + 1)
data-step of xs piece text rest remains count is after unread long low next =
    let xs-low = All-front (λ b. b < 256) xs after.fit.others (rw after.fit.input at (choice-bytes after.draft.sets after.draft.input after.report.input_in_sets)) in
    let more-low = All-append (λ b. b < 256) xs piece xs-low low in
    let few : length (xs ++ piece) ≤ of.input = omega (arith, length-append xs piece, long, unread) in
    step (FitsData of xs) text rest count after (FitsData of (xs ++ piece)) (data_line piece) remains (data-draft of (xs ++ piece)) _ next (draft-report of (xs ++ piece) is more-low few) (draft-fits of (xs ++ piece) few)
    (λ content more report. (
      λ fits.
          let is-next = next-piece of xs content (data_line piece ∷ more) report fits unread in
          let line : data_line piece ≡ data_line (take 32 fits.others) = cc in
          let same : piece ≡ take 32 fits.others = encode-injective piece (take 32 fits.others) (bytes-from_all piece low) (bytes-from_all _ (piece-low of xs content (data_line piece ∷ more) report fits unread))
          (append_cancel_left (codes "data ") _ _ line) in
          record {
            first_lines = fits.first_lines;
            long = fits.long;
            others = drop 32 fits.others;
            input = fits.input ∙ (ap (λ ys. xs ++ ys) (sym (take-append-drop 32 fits.others) ∙ ap (λ ys. ys ++ drop 32 fits.others) (sym same)) ∙ sym (append_assoc xs piece (drop 32 fits.others)));
            left = cc;
          },
      λ fits.
          let whole : length (piece ++ fits.others) ≡ of.input - length xs =
          omega (arith, fits.long, ap length fits.input, length-append (xs ++ piece) fits.others, length-append xs piece, length-append piece fits.others) in
          let cut = piece_cut piece fits.others (omega (arith, long, whole)) in
          let first : data_lines (piece ++ fits.others) ≡ data_line piece ∷ data_lines fits.others = rw (cut.0, cut.1) at (data_lines-first (piece ++ fits.others) (omega (arith, whole, unread))) in
          record {
            first_lines = fits.first_lines;
            long = fits.long;
            others = piece ++ fits.others;
            input = fits.input ∙ append_assoc xs piece fits.others;
            left = ap (λ ls. data_line piece ∷ ls) fits.left ∙ sym (ap (λ ls. ls ++ later content) first);
          },
    ))
