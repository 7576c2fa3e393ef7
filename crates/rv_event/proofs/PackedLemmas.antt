-- Packed events, and the events that they stand for.
use Rattle.std.proofs.Common.{◌≡◌, ℕ, suc, ◌<◌, Bool, true, false, cond, List, [], ◌∷◌, ◌++◌, length, map, Some, refl, sym, ap, ◌∙◌, arith, get_or}
use Rattle.std.proofs.Math.ListN.{get_or-append}
use Rattle.std.proofs.Math.Seq.{get_or-append_seam}
use Rattle.std.specs.Prelude.{slice_get, All}
use Rattle.std.proofs.lemmas.List.{map-append}
use Rattle.rv_event.specs.declared.event.Event.{Event}
use Rattle.rv_event.specs.declared.events.Packed.{Packed}
use Rattle.rv_event.specs.declared.events.Numbers.{Numbers}
use Rattle.rv_event.specs.Packed.{numbers_of, unpacked, IsPlaced, ArePlaced}

-- more numbers change nothing for what has its place already
found_still : (b : Bool) (ns : List Numbers) (n : Numbers) (i : ℕ) (own : Numbers) → (b ≡ true → i < length ns) → cond b (get_or (ns ++ n ∷ []) i own) own ≡ cond b (get_or ns i own) own
found_still true ns n i own h = get_or-append ns (n ∷ []) own i (h refl)
found_still false ns n i own h = refl

numbers_still : (ns : List Numbers) (n : Numbers) (p : Packed) → IsPlaced ns p → numbers_of (ns ++ n ∷ []) p ≡ numbers_of ns p
numbers_still ns n p h = found_still p.has_numbers ns n p.addr _ h

unpacked_still : (ns : List Numbers) (n : Numbers) (p : Packed) → IsPlaced ns p → unpacked (ns ++ n ∷ []) p ≡ unpacked ns p
unpacked_still ns n p h = let e = numbers_still ns n p h in (λ i. record { pc = p.pc; word = p.word; addr = (e i).addr; call = (e i).call; kind = p.kind })

all_still : (ns : List Numbers) (n : Numbers) (ps : List Packed) → All (IsPlaced ns) ps → map (unpacked (ns ++ n ∷ [])) ps ≡ map (unpacked ns) ps
all_still ns n [] h = refl
all_still ns n (p ∷ ps) h =
    let first = unpacked_still ns n p (h 0 p (omega arith)) in
    let rest = all_still ns n ps (λ k d lt. h (suc k) d (omega arith)) in
    (λ i. first i ∷ rest i)

-- the numbers at the seam
last_numbers : (ns : List Numbers) (n own : Numbers) (i : ℕ) → i ≡ length ns → get_or (ns ++ n ∷ []) i own ≡ n
last_numbers ns n own i e = ap (λ k. get_or (ns ++ n ∷ []) k own) e ∙ get_or-append_seam ns n [] own

-- an event of which nothing stands apart, and one whose numbers do
abbrev bare : Event → Packed
bare e = record { pc = e.pc; word = e.word; addr = e.addr; kind = e.kind; has_numbers = false }

abbrev apart : Event → ℕ → Packed
apart e i = record { pc = e.pc; word = e.word; addr = i; kind = e.kind; has_numbers = true }

abbrev numbers : Event → Numbers
numbers e = record { addr = e.addr; call = e.call }

unpacked-bare : (ns : List Numbers) (e : Event) → e.call ≡ 0 ∷ 0 ∷ 0 ∷ 0 ∷ [] → unpacked ns (bare e) ≡ e
unpacked-bare ns e none = let zeros = sym none in (λ i. record { pc = e.pc; word = e.word; addr = e.addr; call = zeros i; kind = e.kind })

unpacked-apart : (ns : List Numbers) (e : Event) (i : ℕ) → i ≡ length ns → unpacked (ns ++ numbers e ∷ []) (apart e i) ≡ e
unpacked-apart ns e i last =
    let own : Numbers = record { addr = i; call = 0 ∷ 0 ∷ 0 ∷ 0 ∷ [] } in
    let found = last_numbers ns (numbers e) own i last in
    (λ j. record { pc = e.pc; word = e.word; addr = (found j).addr; call = (found j).call; kind = e.kind })

-- one more event of which nothing stands apart
pub pushed_bare : (ns : List Numbers) (ps new : List Packed) (e : Event) (es : List Event) → map (unpacked ns) ps ≡ es → e.call ≡ 0 ∷ 0 ∷ 0 ∷ 0 ∷ [] → new ≡ ps ++ bare e ∷ [] → map (unpacked ns) new ≡ es ++ e ∷ []
pushed_bare ns ps new e es view none is =
    ap (map (unpacked ns)) is ∙ map-append (unpacked ns) ps (bare e ∷ []) ∙ (λ i. view i ++ unpacked-bare ns e none i ∷ [])

-- one more event, whose numbers are the last
pub pushed_apart : (ns more : List Numbers) (ps new : List Packed) (e : Event) (i : ℕ) (es : List Event) → ArePlaced ns ps → map (unpacked ns) ps ≡ es → i ≡ length ns → more ≡ ns ++ numbers e ∷ [] → new ≡ ps ++ apart e i ∷ [] → map (unpacked more) new ≡ es ++ e ∷ []
pushed_apart ns more ps new e i es ok view last grown is =
    (λ j. map (unpacked (grown j)) (is j))
    ∙ map-append (unpacked (ns ++ numbers e ∷ [])) ps (apart e i ∷ [])
    ∙ (λ j. (all_still ns (numbers e) ps ok.placed ∙ view) j ++ unpacked-apart ns e i last j ∷ [])

-- lists of equal length, with the same events at each place
pub same_lists : (xs ys : List Event) → length xs ≡ length ys → ((k : ℕ) → k < length xs → slice_get xs k ≡ slice_get ys k) → xs ≡ ys
same_lists [] [] long h = refl
same_lists [] (y ∷ ys) long h = absurd (omega arith)
same_lists (x ∷ xs) [] long h = absurd (omega arith)
same_lists (x ∷ xs) (y ∷ ys) long h =
    let first : Some x ≡ Some y = h 0 (omega arith) in
    let rest : xs ≡ ys = same_lists xs ys (omega arith) (λ k lt. h (suc k) (omega arith)) in
    let head : x ≡ y = cc in
    (λ i. head i ∷ rest i)
