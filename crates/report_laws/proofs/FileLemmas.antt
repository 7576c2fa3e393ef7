-- What a file of bytes loads holds bytes.
use Rattle.std.proofs.Common.{◌≡◌, ◌<◌, ◌%◌, ℕ, Bool, true, false, cond, List, [], ◌∷◌}
use Rattle.std.specs.Prelude.{filter, All, nat_lt}
use Rattle.std.proofs.lemmas.List.Elements.{All-cons, All-head, All-tail, All-map, All-take, All-drop}
use Rattle.elf32.specs.declared.segments.Segment.{Segment}
use Rattle.elf32.specs.Fields.{headers}
use Rattle.elf32.specs.Rules.{is_loaded}
use Rattle.elf32.specs.Loads.{loaded_program, put, in_order, segment_of, segments_of}
use Rattle.term_model.specs.Words.{AreBytes}
use Rattle.term_model.proofs.ByteLemmas.{bytes_everywhere}
use Rattle.replay_law.specs.Crash.{IsProgram}

abbrev HoldsBytes : Segment → Type 0
HoldsBytes s = AreBytes s.bytes

put_keeps : (s : Segment) (ts : List Segment) → HoldsBytes s → All HoldsBytes ts → All HoldsBytes (put s ts)
unfolding put
put_keeps s [] h all = All-cons HoldsBytes s [] h all
put_keeps s (t ∷ ts) h all = by_base (nat_lt t.base s.base) (put_keeps s ts h (All-tail HoldsBytes t ts all))
  where
    by_base : (b : Bool) → All HoldsBytes (put s ts) → All HoldsBytes (cond b (t ∷ put s ts) (s ∷ t ∷ ts))
    by_base true rest = All-cons HoldsBytes t (put s ts) (All-head HoldsBytes t ts all) rest
    by_base false rest = All-cons HoldsBytes s (t ∷ ts) h all

order_keeps : (ss : List Segment) → All HoldsBytes ss → All HoldsBytes (in_order ss)
unfolding in_order
order_keeps [] all = all
order_keeps (s ∷ ss) all = put_keeps s (in_order ss) (All-head HoldsBytes s ss all) (order_keeps ss (All-tail HoldsBytes s ss all))

-- what a file of bytes loads holds bytes
pub file_is_program : (p : List ℕ) → All (λ byte. byte < 256) p → (loaded_program p).entry % 4 ≡ 0 → IsProgram (loaded_program p)
file_is_program p h aligned = record {
  aligned = aligned;
  bytes = order_keeps (segments_of p (headers p))
      (All-map HoldsBytes (segment_of p) (filter is_loaded (headers p))
      (λ k d l. bytes_everywhere _ (All-take (λ byte. byte < 256) _ _ (All-drop (λ byte. byte < 256) _ p h))));
}
