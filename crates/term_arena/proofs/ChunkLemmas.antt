-- Chunks that are read, written and added.
use Rattle.std.proofs.Common.{◌≡◌, ◌≢◌, ℕ, zero, suc, ◌*◌, ◌/◌, ◌%◌, ◌<◌, List, [], ◌∷◌, ◌++◌, map, length, refl, sym, ap, ◌∙◌, arith, Some, inl, inr, ◌⊎◌}
use Rattle.std.specs.Prelude.{slice_get, slice_set, get_or}
use Rattle.std.proofs.lemmas.List.{length-map, map-append, map-set, get_or-set_same, get_or-set_other, get_or_append_left}
use Rattle.std.proofs.lemmas.Option.{slice_get_within}
use Rattle.std.proofs.lemmas.Bool.Decides.{eqb_tells}
use Rattle.core.specs.Mem.Slots.{slots_items}
use denote.RawPtr.{Ptr, null_ptr, ◌+ₚ◌}
use Rattle.term_arena.specs.declared.chunks.TheConstants.{PLACES}
use Rattle.term_arena.specs.declared.chunks.link.Chunk.{Chunk}
use Rattle.term_arena.specs.Chunks.{rows, node_at, place_of}

-- what is read after a write
module _ {Y : Type 0} where
  pub read_written : (xs : List Y) (i : ℕ) (x : Y) → i < length xs → slice_get (slice_set xs i x) i ≡ Some x
  read_written [] i x lt = absurd (omega arith)
  read_written (y ∷ xs) zero x lt = refl
  read_written (y ∷ xs) (suc i) x lt = read_written xs i x (omega arith)

  pub read_other : (xs : List Y) (i k : ℕ) (x : Y) → k ≢ i → slice_get (slice_set xs i x) k ≡ slice_get xs k
  read_other [] zero k x apart = refl
  read_other [] (suc i) k x apart = refl
  read_other (y ∷ xs) zero zero x apart = absurd (apart refl)
  read_other (y ∷ xs) zero (suc k) x apart = refl
  read_other (y ∷ xs) (suc i) zero x apart = refl
  read_other (y ∷ xs) (suc i) (suc k) x apart = read_other xs i k x (λ same. apart (ap suc same))

  -- the last write counts
  pub set-twice : (l : List Y) (i : ℕ) (a b : Y) → slice_set (slice_set l i a) i b ≡ slice_set l i b
  set-twice [] i a b = refl
  set-twice (x ∷ l) zero a b = refl
  set-twice (x ∷ l) (suc i) a b = ap (λ m. x ∷ m) (set-twice l i a b)

  -- what is there was there, or was written or added
  pub of_set : (xs : List Y) (i : ℕ) (x : Y) (j : ℕ) (y : Y) → slice_get (slice_set xs i x) j ≡ Some y → (y ≡ x) ⊎ (slice_get xs j ≡ Some y)
  of_set [] zero x j y e = cc
  of_set [] (suc i) x j y e = cc
  of_set (z ∷ xs) zero x zero y e = let same : x ≡ y = cc in inl (sym same)
  of_set (z ∷ xs) zero x (suc j) y e = inr e
  of_set (z ∷ xs) (suc i) x zero y e = inr e
  of_set (z ∷ xs) (suc i) x (suc j) y e = of_set xs i x j y e

  pub of_push : (xs : List Y) (x : Y) (j : ℕ) (y : Y) → slice_get (xs ++ x ∷ []) j ≡ Some y → (y ≡ x) ⊎ (slice_get xs j ≡ Some y)
  of_push [] x zero y e = let same : x ≡ y = cc in inl (sym same)
  of_push [] x (suc j) y e = cc
  of_push (z ∷ xs) x zero y e = inr e
  of_push (z ∷ xs) x (suc j) y e = of_push xs x j y e

  pub in_push : (xs : List Y) (x : Y) (j : ℕ) (y : Y) → slice_get xs j ≡ Some y → slice_get (xs ++ x ∷ []) j ≡ Some y
  in_push [] x j y e = cc
  in_push (z ∷ xs) x zero y e = e
  in_push (z ∷ xs) x (suc j) y e = in_push xs x j y e

  pub end_of_push : (xs : List Y) (x : Y) → slice_get (xs ++ x ∷ []) (length xs) ≡ Some x
  end_of_push [] x = refl
  end_of_push (z ∷ xs) x = end_of_push xs x

module _ {X : Type 0} where
  abbrev row_of : Chunk X → List X
  row_of c = slots_items c.slots

  abbrev start_of : Chunk X → Ptr
  start_of c = c.start

  -- what is read of one chunk
  get_or-map : {Y : Type 0} (f : Chunk X → Y) (cs : List (Chunk X)) (j : ℕ) (c : Chunk X) (d : Y) → slice_get cs j ≡ Some c → get_or (map f cs) j d ≡ f c
  get_or-map f [] j c d e = cc
  get_or-map f (x ∷ cs) zero c d e = let same : x ≡ c = cc in ap f same
  get_or-map f (x ∷ cs) (suc j) c d e = get_or-map f cs j c d e

  -- a place is one of its chunk
  pub node_at-read : (cs : List (Chunk X)) (k : ℕ) (c : Chunk X) → slice_get cs (k / PLACES) ≡ Some c → node_at cs k ≡ slice_get (slots_items c.slots) (k % PLACES)
  node_at-read cs k c e = ap (λ (l : List X). slice_get l (k % PLACES)) (get_or-map row_of cs (k / PLACES) c [] e)

  pub place_of-read : (s : ℕ) (cs : List (Chunk X)) (k : ℕ) (c : Chunk X) → slice_get cs (k / PLACES) ≡ Some c → place_of s cs k ≡ c.start +ₚ (k % PLACES) * s
  place_of-read s cs k c e = ap (λ p. p +ₚ (k % PLACES) * s) (get_or-map start_of cs (k / PLACES) c null_ptr e)

  module _ (cs : List (Chunk X)) (n : ℕ) (c c' : Chunk X) (there : slice_get cs (n / PLACES) ≡ Some c) where
    abbrev cs' : List (Chunk X)
    cs' = slice_set cs (n / PLACES) c'

    within : n / PLACES < length cs
    within = slice_get_within cs (n / PLACES) c there

    module _ (x : X) (places : length (slots_items c.slots) ≡ PLACES) (written : slots_items c'.slots ≡ slice_set (slots_items c.slots) (n % PLACES) x) where
      row' : (j : ℕ) → j ≡ n / PLACES → get_or (rows cs') j [] ≡ slice_set (slots_items c.slots) (n % PLACES) x
      row' j same = ap (λ (l : List (List X)). get_or l j []) (map-set row_of cs (n / PLACES) c') ∙ ap (λ i. get_or (slice_set (rows cs) (n / PLACES) (row_of c')) i []) same
          ∙ get_or-set_same (rows cs) (n / PLACES) (row_of c') [] (omega (arith, within, length-map cs row_of)) ∙ written

      -- the place that is written
      pub node_at-written : node_at cs' n ≡ Some x
      node_at-written = ap (λ (l : List X). slice_get l (n % PLACES)) (row' (n / PLACES) refl) ∙ read_written (slots_items c.slots) (n % PLACES) x (omega arith)

      -- each other place is as it was
      pub node_at-other : (k : ℕ) → k ≢ n → node_at cs' k ≡ node_at cs k
      node_at-other k apart = elim (eqb_tells (k / PLACES) (n / PLACES)) [
        | inl same ↦
            let inside : k % PLACES ≢ n % PLACES = λ e. apart (let chunk = same.1 in omega arith) in
            ap (λ (l : List X). slice_get l (k % PLACES)) (row' (k / PLACES) same.1) ∙ read_other (slots_items c.slots) (n % PLACES) (k % PLACES) x inside
            ∙ sym (node_at-read cs k c (ap (slice_get cs) same.1 ∙ there))
        | inr other ↦
            ap (λ (l : List (List X)). slice_get (get_or l (k / PLACES) []) (k % PLACES)) (map-set row_of cs (n / PLACES) c')
            ∙ ap (λ (l : List X). slice_get l (k % PLACES)) (get_or-set_other (rows cs) (n / PLACES) (k / PLACES) (row_of c') [] other.1)
      ]

    -- the chunks stay where they are
    pub place_of-set : c'.start ≡ c.start → (s k : ℕ) → place_of s cs' k ≡ place_of s cs k
    place_of-set same s k = elim (eqb_tells (k / PLACES) (n / PLACES)) [
      | inl e ↦
          let here : slice_get cs (k / PLACES) ≡ Some c = ap (slice_get cs) e.1 ∙ there in
          ap (λ (l : List Ptr). get_or l (k / PLACES) null_ptr +ₚ (k % PLACES) * s) (map-set start_of cs (n / PLACES) c')
          ∙ ap (λ i. get_or (slice_set (map start_of cs) (n / PLACES) c'.start) i null_ptr +ₚ (k % PLACES) * s) e.1
          ∙ ap (λ p. p +ₚ (k % PLACES) * s) (get_or-set_same (map start_of cs) (n / PLACES) c'.start null_ptr (omega (arith, within, length-map cs start_of)) ∙ same)
          ∙ sym (place_of-read s cs k c here)
      | inr other ↦
          ap (λ (l : List Ptr). get_or l (k / PLACES) null_ptr +ₚ (k % PLACES) * s) (map-set start_of cs (n / PLACES) c')
          ∙ ap (λ p. p +ₚ (k % PLACES) * s) (get_or-set_other (map start_of cs) (n / PLACES) (k / PLACES) c'.start null_ptr other.1)
    ]

  -- a chunk is added
  module _ (cs : List (Chunk X)) (c : Chunk X) (k : ℕ) (before : k / PLACES < length cs) where
    pub node_at-push : node_at (cs ++ c ∷ []) k ≡ node_at cs k
    node_at-push = ap (λ (l : List (List X)). slice_get (get_or l (k / PLACES) []) (k % PLACES)) (map-append row_of cs (c ∷ []))
        ∙ ap (λ (l : List X). slice_get l (k % PLACES)) (get_or_append_left (rows cs) (row_of c ∷ []) [] (k / PLACES) (omega (arith, before, length-map cs row_of)))

    pub place_of-push : (s : ℕ) → place_of s (cs ++ c ∷ []) k ≡ place_of s cs k
    place_of-push s = ap (λ (l : List Ptr). get_or l (k / PLACES) null_ptr +ₚ (k % PLACES) * s) (map-append start_of cs (c ∷ []))
        ∙ ap (λ p. p +ₚ (k % PLACES) * s) (get_or_append_left (map start_of cs) (start_of c ∷ []) null_ptr (k / PLACES) (omega (arith, before, length-map cs start_of)))

-- an element that there is
pub there_is : {Y : Type 0} (ys : List Y) (j : ℕ) → j < length ys → (y : Y) × (slice_get ys j ≡ Some y)
there_is [] j below = absurd (omega arith)
there_is (y ∷ ys) zero below = (y, refl)
there_is (y ∷ ys) (suc j) below = there_is ys j (omega arith)
