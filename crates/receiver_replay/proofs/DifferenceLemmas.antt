-- Where two texts of lines differ, byte by byte and line by line.
use Rattle.std.proofs.Common.{◌≡◌, ◌≢◌, ◌∙◌, ◌+◌, ◌≤◌, ◌<◌, ◌==◌, ℕ, suc, Bool, true, false, List, [], ◌∷◌, ◌++◌, All, length, filter, drop, get_or, Option, Some, None, arith, refl, sym, ap, subst, cond, append_assoc}
use Rattle.std.specs.Prelude.{◌&&◌, if◌then◌else◌}
use Rattle.std.specs.Str.{bytes_eq}
use Rattle.std.proofs.lemmas.Bool.{ne_eqb, eq-eqb}
use Rattle.std.proofs.lemmas.List.{drop_more, drop_all}
use Rattle.std.proofs.lemmas.List.Elements.{All-head, All-tail}
use Rattle.std.proofs.lemmas.Slice.Eq.{bytes_eq-Decides}
use Rattle.text_lines.specs.Lines.{joined, Unbroken}
use Rattle.receiver_replay.specs.Difference.{first_difference, byte_difference, line_ends}

-- ---- from bytes to lines

line_difference : (n : ℕ) (a b x y : List ℕ) → Unbroken a → Unbroken b
    → byte_difference n (a ++ (10 ∷ x)) (b ++ (10 ∷ y)) ≡ (if bytes_eq a b then byte_difference (n + 1) x y else Some n)
unfolding byte_difference
line_difference n [] [] x y ua ub = refl
line_difference n [] (b ∷ bs) x y ua ub = rw (ne_eqb 10 b (λ is. All-head (λ d. d ≢ 10) b bs ub (sym is))) refl
line_difference n (a ∷ as') [] x y ua ub = rw (ne_eqb a 10 (All-head (λ d. d ≢ 10) a as' ua)) refl
line_difference n (a ∷ as') (b ∷ bs) x y ua ub =
    by (a == b) (line_difference n as' bs x y (All-tail (λ d. d ≢ 10) a as' ua) (All-tail (λ d. d ≢ 10) b bs ub))
  where
    by : (t : Bool) → byte_difference n (as' ++ (10 ∷ x)) (bs ++ (10 ∷ y)) ≡ (if bytes_eq as' bs then byte_difference (n + 1) x y else Some n)
        → (if t then byte_difference (if a == 10 then n + 1 else n) (as' ++ (10 ∷ x)) (bs ++ (10 ∷ y)) else Some n) ≡ (if t && bytes_eq as' bs then byte_difference (n + 1) x y else Some n)
    by true more = rw (ne_eqb a 10 (All-head (λ d. d ≢ 10) a as' ua)) more
    by false more = refl

open_line : (line : List ℕ) (more : List (List ℕ)) → joined (line ∷ more) ≡ line ++ (10 ∷ joined more)
open_line line more = append_assoc line (10 ∷ []) (joined more)

left_ends : (n : ℕ) (a x : List ℕ) → byte_difference n [] (a ++ (10 ∷ x)) ≡ Some n
unfolding byte_difference
left_ends n [] x = refl
left_ends n (a ∷ as') x = refl

right_ends : (n : ℕ) (a x : List ℕ) → byte_difference n (a ++ (10 ∷ x)) [] ≡ Some n
unfolding byte_difference
right_ends n [] x = refl
right_ends n (a ∷ as') x = refl

-- of two texts the bytes differ first in the line in which the lines do
pub joined_difference : (n : ℕ) (ls ms : List (List ℕ)) → All Unbroken ls → All Unbroken ms → byte_difference n (joined ls) (joined ms) ≡ first_difference n ls ms
unfolding byte_difference first_difference
joined_difference n [] [] ul um = refl
joined_difference n [] (m ∷ ms) ul um = ap (byte_difference n []) (open_line m ms) ∙ left_ends n m (joined ms)
joined_difference n (l ∷ ls) [] ul um = ap (λ t. byte_difference n t []) (open_line l ls) ∙ right_ends n l (joined ls)
joined_difference n (l ∷ ls) (m ∷ ms) ul um =
    (λ i. byte_difference n (open_line l ls i) (open_line m ms i))
    ∙ (line_difference n l m (joined ls) (joined ms) (All-head Unbroken l ls ul) (All-head Unbroken m ms um)
    ∙ ap (λ d. if bytes_eq l m then d else Some n) (joined_difference (n + 1) ls ms (All-tail Unbroken l ls ul) (All-tail Unbroken m ms um)))

-- ---- no difference

pub no_difference : (n : ℕ) (ls : List (List ℕ)) → first_difference n ls ls ≡ None
unfolding first_difference
no_difference n [] = refl
no_difference n (l ∷ ls) = ap (λ t. if t then first_difference (n + 1) ls ls else Some n) ((bytes_eq-Decides l l).1 refl) ∙ no_difference (n + 1) ls

pub same_lines : (n : ℕ) (ls ms : List (List ℕ)) → first_difference n ls ms ≡ None → ls ≡ ms
unfolding first_difference
same_lines n [] [] none = refl
same_lines n [] (m ∷ ms) none = cc
same_lines n (l ∷ ls) [] none = cc
same_lines n (l ∷ ls) (m ∷ ms) none = by (bytes_eq l m) refl none (same_lines (n + 1) ls ms)
  where
    by : (t : Bool) → bytes_eq l m ≡ t → (if t then first_difference (n + 1) ls ms else Some n) ≡ None → (first_difference (n + 1) ls ms ≡ None → ls ≡ ms) → l ∷ ls ≡ m ∷ ms
    by true is none more =
        let first = (bytes_eq-Decides l m).0 is in
        let others = more none in
        λ i. first i ∷ others i
    by false is none more = cc

-- ---- how many line ends there are

line_end : (l x : List ℕ) → Unbroken l → line_ends (l ++ (10 ∷ x)) ≡ suc (line_ends x)
line_end [] x ul = refl
line_end (b ∷ l) x ul = rw (ne_eqb b 10 (All-head (λ d. d ≢ 10) b l ul)) (line_end l x (All-tail (λ d. d ≢ 10) b l ul))

pub ends_of_lines : (ls : List (List ℕ)) → All Unbroken ls → line_ends (joined ls) ≡ length ls
ends_of_lines [] ul = refl
ends_of_lines (l ∷ ls) ul = ap line_ends (open_line l ls) ∙ (line_end l (joined ls) (All-head Unbroken l ls ul) ∙ ap suc (ends_of_lines ls (All-tail Unbroken l ls ul)))

-- ---- the loop over bytes

-- what is known at a place of the left text: all bytes before it are those of the right one
pub record IsAt (left right : List ℕ) (index line : ℕ) : Type 0 where
  pub within : index ≤ length right
  pub rest : byte_difference 1 left right ≡ byte_difference line (drop index left) (drop index right)
  pub counted : line + line_ends (drop index left) ≡ 1 + line_ends left

pub at_first : (left right : List ℕ) → IsAt left right 0 1
at_first left right = record { within = omega arith; rest = refl; counted = refl }

module _ (left right : List ℕ) (index line : ℕ) (here : IsAt left right index line) (inside : index < length left) where
  byte : ℕ
  byte = get_or left index 0

  left_more : drop index left ≡ byte ∷ drop (index + 1) left
  unfolding byte
  left_more = drop_more left index 0 inside

  -- the right text ends before the left one
  pub right_is_over : index ≡ length right → byte_difference 1 left right ≡ Some line
  unfolding byte_difference byte
  right_is_over over =
      let none : drop index right ≡ [] = drop_all index right (omega arith) in
      here.rest ∙ (λ i. byte_difference line (left_more i) (none i))

  -- the bytes differ
  pub bytes_differ : index < length right → (get_or left index 0 ≡ get_or right index 0 → ⊥) → byte_difference 1 left right ≡ Some line
  unfolding byte_difference byte
  bytes_differ more differ =
      here.rest ∙ ((λ i. byte_difference line (left_more i) (drop_more right index 0 more i)) ∙ rw (ne_eqb (get_or left index 0) (get_or right index 0) differ) refl)

  -- the bytes are the same: past a line end the next line begins
  pub next_at : index < length right → get_or left index 0 ≡ get_or right index 0 → IsAt left right (index + 1) (if get_or left index 0 == 10 then line + 1 else line)
  unfolding byte_difference byte
  next_at more same = record {
    within = omega arith;
    rest = here.rest ∙ ((λ i. byte_difference line (left_more i) (drop_more right index 0 more i)) ∙ rw (eq-eqb (get_or left index 0) (get_or right index 0) same) refl);
    counted = sym (moved (get_or left index 0 == 10)) ∙ (ap (λ l. line + line_ends l) (sym left_more) ∙ here.counted);
  }
    where
      moved : (t : Bool) → line + length (cond t (byte ∷ filter (λ b. b == 10) (drop (index + 1) left)) (filter (λ b. b == 10) (drop (index + 1) left))) ≡ (if t then line + 1 else line) + line_ends (drop (index + 1) left)
      moved true = omega arith
      moved false = refl

module _ (left right : List ℕ) (index line : ℕ) (here : IsAt left right index line) (inside : index < length left) (more : index < length right) (same : get_or left index 0 ≡ get_or right index 0) where
  pub past_end : get_or left index 0 ≡ 10 → IsAt left right (index + 1) (line + 1)
  past_end is = subst (IsAt left right (index + 1)) (ap (λ t. if t then line + 1 else line) (eq-eqb (get_or left index 0) 10 is)) (next_at left right index line here inside more same)

  pub within_line : (get_or left index 0 ≡ 10 → ⊥) → IsAt left right (index + 1) line
  within_line not = subst (IsAt left right (index + 1)) (ap (λ t. if t then line + 1 else line) (ne_eqb (get_or left index 0) 10 not)) (next_at left right index line here inside more same)

-- the left text is over
pub left_is_over : (left right : List ℕ) (index line : ℕ) → IsAt left right index line → index ≡ length left → length left < length right → byte_difference 1 left right ≡ Some line
unfolding byte_difference
left_is_over left right index line here over more =
    here.rest ∙ (λ i. byte_difference line (drop_all index left (omega arith) i) (drop_more right index 0 (omega arith) i))

pub both_are_over : (left right : List ℕ) (index line : ℕ) → IsAt left right index line → index ≡ length left → length right ≤ length left → byte_difference 1 left right ≡ None
unfolding byte_difference
both_are_over left right index line here over less =
    here.rest ∙ (λ i. byte_difference line (drop_all index left (omega arith) i) (drop_all index right (omega arith) i))
