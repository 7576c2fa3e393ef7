-- `is_end` reads the link's pointer and compares it with null, which its `requires` allows. Assumes `Logic`.
use mathlib.Core.Path.{◌≡◌, refl}
use mathlib.Core.Bool.{Bool, true, false}
use Prim.Native.Nat.{ℕ, ◌+◌}
use mathlib.Core.List.{List, [], ◌∷◌}
use mir.Syntax.{named, ptr_eq}
use mir.Val.{Val, vbool, vnull, op2_val}
use base.Fml.{ftrue, flft}
use seplogic.Ra.Ura.{Ura}
use base.Logic.{SProp, ent}
use prog.Memory.{Memory}
use prog.Routine.{Routine}
use prog.Wp.{WpFn, Tables}
use types.Logic.{Logic}
use contract.Monad.{Fun, fact}
use contract.Running.{tables, tables_of}
use denote.RattleType.{owns}
use denote.Signature.{plain, types_at}
use denote.Steps.{heard, nothing}
use denote.Triple.Clauses.{Clauses, closing}
use denote.Triple.Spec.{Meets, triple_of}
use denote.Triple.Table.{entered}
use sound.WpLaws.{WpFn-mono}
use types.Kit.{‵, raw, ◌⊛◌, ◌$◌, ◌∵◌, !, qed, move, keep, use1, drop, split, join, fsplit, fjoin, feq_i, suffices, done}
use types.Run.{look, stop, fld, load, lit, of_opd, bin, returns, enter}
use types.ByLocal.{alloc_all, pass_all, free_all, look_at, get, through, is, sets}
use denote.Exit.{yes}
use denote.Builtin.{RefOf}
use denote.Memory.{hidden_shr}
use denote.RawPtr.{Ptr, RawPtr, block_ptr, null_ptr, ptr_val, Testable, tests_null}
use denote.Ref.{shr_vals, shr_Tells}
use denote.Triple.Walked.{says, Stays, stay_dropped, walk_of, ends_at, walked, Goes-dropped, walk_Meets}
use Rattle.std.specs.Prelude.{MatchBool, Some, None}
use Rattle.term_arena.specs.declared.chunks.link.Link.{Link}
use Rattle.term_arena.specs.contracts.chunks.link.Link as L
use Rattle.term_arena.specs.Links.{link_at}
use Rattle.term_arena.proofs.RawLemmas.{ptr_typed, pointer_lent, word_in, word_out}
use Rattle.term_arena.specs.contracts.chunks.raw.is_end as F
use Rattle.term_arena.specs.contracts.chunks.raw.is_end.Key.{name as #self}
use Rattle.term_arena.proofs.chunks.raw.is_end.Statement as stated
use Rattle.term_arena.proofs.chunks.raw.is_end.Code as code

abbrev stayed : Stays F.ended.signature.params F.ended.kept
stayed = (stay_dropped (RefOf (0 ∷ []) tt (plain (λ _. L.the_row)) (λ _. tt)) yes, tt)

-- what the test answers
answer : (p : Ptr) (k : Link) → (y : Bool) × (op2_val ptr_eq (ptr_val p) vnull ≡ vbool y) × MatchBool y (link_at p k ≡ None) (link_at p k ≡ Some k)
answer (block_ptr b o) k = (false, refl, refl)
answer null_ptr k = (true, refl, refl)

module _ {M : Type 1} {𝓤 : Ura M} (𝓛 : Logic 𝓤) (at_mem : Memory → SProp 𝓤) (run : Routine → Fun 𝓤) (𝓣 : Tables 𝓤 𝓛.H) where
  open 𝓛 use {H}

  abbrev held : Clauses 𝓤 F.ended
  held = F.clauses 𝓛 at_mem run

  abbrev Bound : Type 0
  Bound = (walk_of 𝓛 F.ended stayed held).Ghost

  abbrev spelled : Bound → Bound
  spelled z = ((z.0.0, z.0.1, z.0.2, z.0.3, (shr_vals z.0.3.0, tt)), z.1)

  walk : (z : Bound) → ent 𝓤 ((walk_of 𝓛 F.ended stayed held).pre (spelled z)) (WpFn 𝓤 H 𝓣.C 𝓣.Λ code.function ((walk_of 𝓛 F.ended stayed held).args (spelled z)) ((walk_of 𝓛 F.ended stayed held).post (spelled z)))
  walk z =
      let κ = z.0.0.0 in let q = z.0.1.0 in let k : Link = z.0.3.0.now in let p : Ptr = k.place in let b : ℕ = z.0.3.0.ref_ptr.0 in let o : ℕ = z.0.3.0.ref_ptr.1 in let y : Bool = (answer p k).0 in
      qed 𝓛 (((‵ (flft κ q) ⊛ ‵ ftrue) ⊛ ‵ (owns (types_at F.ended.signature.params z.0.0) z.0.3 (spelled z).0.4)) ∷ raw (fact 𝓤 (Testable p)) ∷ []) ∵
      move ! (1 ∷ []) $ heard ! (Testable p) (λ may. split ! $ split ! $ move ! (2 ∷ []) $ fsplit ! $ fsplit ! $ drop ! $
      use1 𝓛 (‵ (hidden_shr RawPtr κ p b (o + 0))) (pointer_lent 𝓛 κ k b o) $ keep ! (0 ∷ 2 ∷ 3 ∷ []) $
      enter ! 𝓣.C 𝓣.Λ code.function ((walk_of 𝓛 F.ended stayed held).args (spelled z)) _ $ alloc_all ! (λ l. pass_all ! refl ((tt, tt), tt) $
      word_in ! tt p b (o + 0) (λ q'.
      sets ! (of_opd ! (load ! (through ! refl (fld ! refl (stop !))) (look ! 0 refl))) refl (ptr_typed p) $
      word_out ! tt p b (o + 0) $
      sets ! (is ! (bin ! (get ! refl) (lit ! tt) (tests_null p may)) (answer p k).1) refl (tt, tt) $
      returns ! (look_at ! 0 refl) $ free_all ! refl $ join ! $ feq_i ! (List Val) (vbool y ∷ []) (vbool y ∷ []) refl $
      suffices ! _ (ends_at 𝓛 F.ended stayed held (spelled z) (vbool y) y (tt, tt) (tt, tt)) $ says ! (answer p k).2 $
      nothing ! $ nothing ! $ fjoin ! $ keep ! (2 ∷ 0 ∷ 1 ∷ []) $ done !)))

  meets : Meets 𝓛 F.ended.signature (WpFn 𝓤 H 𝓣.C 𝓣.Λ code.function) (closing 𝓛 F.ended held)
  meets =
      walk_Meets 𝓛 F.ended stayed (Goes-dropped 𝓛 1 (RefOf (0 ∷ []) tt (plain (λ _. L.the_row)) (λ _. tt)) yes (λ κs x f. refl), tt) held
      (WpFn 𝓤 H 𝓣.C 𝓣.Λ code.function) (WpFn-mono 𝓤 H 𝓛.laws 𝓣 code.function)
      (walked 𝓛 F.ended stayed held (WpFn 𝓤 H 𝓣.C 𝓣.Λ code.function) (λ κs. (shr_vals, tt)) (λ κs. (shr_Tells (named 0) κs.0 L.the_row, tt)) (λ κs qs bounds a g are. walk ((κs, qs, bounds, a, (shr_vals a.0, tt)), g)))

pub is_end_spec : {M : Type 1} → stated.statement M
unfolding tables_of
is_end_spec 𝓤 𝓛 𝓜 𝓡 wired =
    let 𝓣 : Tables 𝓤 𝓛.H = tables_of 𝓤 𝓛.H 𝓜 (tables 𝓤 𝓛.H 𝓜 𝓡 𝓡.env) in
    entered 𝓤 𝓛.H (triple_of 𝓛 F.signature (F.spec 𝓛 𝓜.mem 𝓡.returns)) 𝓣.C 𝓣.Λ #self code.function (code.unfolded 𝓤 𝓛.H 𝓜 𝓡 wired) (meets 𝓛 𝓜.mem 𝓡.returns 𝓣)
