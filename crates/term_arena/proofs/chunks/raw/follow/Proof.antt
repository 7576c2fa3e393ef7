-- `follow` reads the link's pointer, and hands on the `&` to the value there, which the chunk of the link's number lends. Assumes `Logic`.
use mathlib.Core.Path.{◌≡◌, refl, ap, subst, ◌∙◌}
use Prim.Native.Nat.{ℕ, ◌+◌, ◌*◌, ◌/◌, ◌%◌, ◌<◌, ◌^◌}
use native.Mathlib.Nat.{add_comm}
use native.Mathlib.Omega.{arith}
use mathlib.Core.List.{List, [], ◌∷◌}
use lib.ListN.{length, get_or}
use mir.Syntax.{Fn, named}
use mir.Val.{Val, vptr}
use base.Fml.{ftrue, flft, flt}
use seplogic.Ra.Ura.{Ura}
use mir.MapTy.{inst_fn}
use base.Logic.{SProp, ent}
use prog.Memory.{Memory}
use prog.Routine.{Routine}
use prog.Wp.{Env, WpFn, Tables}
use types.Logic.{Logic}
use contract.BorrowLft.{◌⊑◌}
use contract.Monad.{Fun, fact}
use contract.Running.{tables, tables_of}
use denote.RattleType.{owns}
use denote.Signature.{plain, types_at}
use denote.Steps.{heard, nothing}
use denote.Triple.Clauses.{Clauses, Ended, closing}
use denote.Triple.Spec.{Meets, triple_of}
use denote.Triple.Table.{entered}
use sound.WpLaws.{WpFn-mono}
use types.Kit.{‵, raw, ◌⊛◌, at_ret, ◌$◌, ◌∵◌, !, qed, move, keep, use1, drop, split, split3, join, fsplit, fjoin, feq_i, flt_l, suffices, done}
use types.Run.{look, stop, fld, load, addr, of_opd, first, blocks, exec, returns, enter}
use types.ByLocal.{alloc_all, pass_all, free_all, look_at, get, through, sets, sets_last, env}
use denote.Exit.{yes}
use denote.Builtin.{RefOf, SliceRefOf, usize}
use denote.Index.{place}
use denote.Memory.{hidden_shr, mem}
use denote.RawPtr.{Ptr, RawPtr, block_ptr, in_a_block, ◌+ₚ◌}
use denote.Ref.{shr_vals, shr_Tells}
use denote.Slice.{Room, shr_slice_vals, shr_slice_Tells}
use denote.Triple.Walked.{says, Stays, stay_dropped, walk_of, ends_at, walked, Goes-dropped, walk_Meets}
use Rattle.std.specs.Prelude.{slice_get, Some}
use Rattle.std.proofs.lemmas.Option.{slice_get-get_or}
use Rattle.core.proofs.mem.Param.{El, R, args, el_x}
use Rattle.core.specs.Mem.Slots.Ownership.{slots_lent}
use Rattle.core.specs.Mem.Slots.{slots_items, slots_filled, slots_counts}
use Rattle.core.proofs.slots.Bodies.{after}
use Rattle.core.proofs.slots.Places.{sz}
use Rattle.core.proofs.slots.Opens.{Sr, el_d}
use Rattle.core.proofs.slots.Lent.{shown, none_at_null, value_lent, pointer_in, pointer_out}
use Rattle.term_arena.specs.declared.chunks.TheConstants.{PLACES}
use Rattle.term_arena.specs.declared.chunks.link.Chunk.{Chunk}
use Rattle.term_arena.specs.declared.chunks.link.Link.{Link}
use Rattle.term_arena.specs.contracts.chunks.link.Chunk as C
use Rattle.term_arena.specs.contracts.chunks.link.Link as L
use Rattle.term_arena.specs.Links.{Leads, IsReached}
use Rattle.term_arena.proofs.ChunkLemmas.{there_is}
use Rattle.term_arena.proofs.RawLemmas.{element_lent, pointer_lent, row_lent}
use Rattle.term_arena.specs.contracts.chunks.raw.follow as F
use Rattle.term_arena.specs.contracts.chunks.raw.follow.Key.{name as #self}
use Rattle.term_arena.proofs.chunks.raw.follow.Statement as stated
use Rattle.term_arena.proofs.chunks.raw.follow.Code as code

module _ (E : El) where
  abbrev here : Fn
  here = inst_fn (args E) code.function

  abbrev ended : Ended
  ended = F.ended E.row

  abbrev stayed : Stays ended.signature.params ended.kept
  stayed = (stay_dropped (SliceRefOf (0 ∷ []) tt (plain (λ _. C.the_row (R E))) (λ _. tt)) yes, (stay_dropped (RefOf (0 ∷ []) tt (plain (λ _. L.the_row)) (λ _. tt)) yes, tt))

  -- the value that was reached is that of each chunk at the number, since there is one
  reached : (cs : List (Chunk (el_x E))) (k : Link) (c : Chunk (el_x E)) (x : el_x E) → slice_get cs (k.number / PLACES) ≡ Some c → slice_get (slots_items c.slots) (k.number % PLACES) ≡ Some x → IsReached cs k x
  reached cs k c x at value d there = let same : c ≡ d = cc in subst (λ (e : Chunk (el_x E)). slice_get (slots_items e.slots) (k.number % PLACES) ≡ Some x) same value

  module _ {M : Type 1} {𝓤 : Ura M} (𝓛 : Logic 𝓤) (at_mem : Memory → SProp 𝓤) (run : Routine → Fun 𝓤) (𝓣 : Tables 𝓤 𝓛.H) where
    open 𝓛 use {H}

    abbrev held : Clauses 𝓤 ended
    held = F.clauses E.row 𝓛 at_mem run

    abbrev Bound : Type 0
    Bound = (walk_of 𝓛 ended stayed held).Ghost

    abbrev spelled : Bound → Bound
    spelled z = ((z.0.0, z.0.1, z.0.2, z.0.3, (shr_slice_vals z.0.3.0, (shr_vals z.0.3.1.0, tt))), z.1)

    walk : (z : Bound) → Room (C.the_row (R E)) (length z.0.3.0.now)
        → ent 𝓤 ((walk_of 𝓛 ended stayed held).pre (spelled z)) (WpFn 𝓤 H 𝓣.C 𝓣.Λ here ((walk_of 𝓛 ended stayed held).args (spelled z)) ((walk_of 𝓛 ended stayed held).post (spelled z)))
    walk z room =
        let κ = z.0.0.0 in let κ₁ = z.0.0.1.0 in let q = z.0.1.0 in let q₁ = z.0.1.1.0 in
        let cs : List (Chunk (el_x E)) = z.0.3.0.now in let k : Link = z.0.3.1.0.now in
        let sb : ℕ = z.0.3.0.ref_ptr.0 in let so : ℕ = z.0.3.0.ref_ptr.1 in let lb : ℕ = z.0.3.1.0.ref_ptr.0 in let lo : ℕ = z.0.3.1.0.ref_ptr.1 in
        let Post : Val → SProp 𝓤 = (walk_of 𝓛 ended stayed held).post (spelled z) in
        let j : ℕ = k.number / PLACES in let i : ℕ = k.number % PLACES in let s : ℕ = sz E in let fn : length cs < 2 ^ 64 = room.0 in
        let Ok : Type 0 = Leads (R E) cs k in
        qed 𝓛 (((‵ (flft κ q) ⊛ ‵ (flft κ₁ q₁) ⊛ ‵ ftrue) ⊛ ‵ (owns (types_at ended.signature.params z.0.0) z.0.3 (spelled z).0.4)) ∷ (raw (fact 𝓤 (κ₁ ⊑ E.row.lives)) ⊛ raw (fact 𝓤 Ok)) ∷ []) ∵
        move ! (1 ∷ []) $ split ! $ drop ! $ heard ! Ok (λ ok.
        let c : Chunk (el_x E) = ok.0 in let h : el_d E = c.slots in
        let ix : i < length (slots_items h) = (let many = (slots_counts h).0 in let below = ok.3.0 in omega arith) in let fx : i < length (slots_filled h) = (let many = (slots_counts h).1 in let below = ok.3.0 in omega arith) in
        let d : el_x E = (there_is (slots_items h) i ix).0 in let x : el_x E = get_or (slots_items h) i d in
        let from : ℕ = place (mem (C.the_row (R E))).size so j in
        split ! $ split ! $ move ! (2 ∷ []) $ fsplit ! $ fsplit ! $ drop ! $ move ! (1 ∷ []) $ fsplit ! $ fsplit ! $ drop ! $
        -- [the `&` to the link; nothing; the `&`s to the chunks; the tokens]
        use1 𝓛 (‵ (hidden_shr RawPtr κ k.place lb (lo + 0))) (pointer_lent 𝓛 κ k lb lo) $ move ! (2 ∷ []) $
        use1 𝓛 (‵ (hidden_shr (C.the_row (R E)) κ c sb from)) (element_lent (C.the_row (R E)) 𝓛 κ sb cs j so c ok.1) $
        use1 𝓛 (‵ (hidden_shr (Sr E) κ h sb (from + 0))) (row_lent 𝓛 κ E c sb from) $
        use1 𝓛 (‵ (hidden_shr RawPtr κ h.ptr sb (from + 0 + 0)) ⊛ ‵ (hidden_shr usize κ h.len sb (from + 0 + 8)) ⊛ ‵ (flt (h.len * s) (2 ^ 63)) ⊛ ‵ (slots_lent (R E) h.ptr h.items h.filled κ)) (shown E 𝓛 κ h sb (from + 0)) $
        split3 ! $ move ! (2 ∷ []) $ split ! $ flt_l ! (λ fit.
        in_a_block ! h.ptr (λ p. slots_lent (R E) p h.items h.filled κ) (none_at_null E 𝓛 κ h.items h.filled i ix fx ok.3.1) (λ b o at_b.
        use1 𝓛 (‵ (hidden_shr (R E) κ x b (i * s + o))) (value_lent E 𝓛 κ b o h.items h.filled i d ix fx ok.3.1) $ keep ! (3 ∷ 5 ∷ 6 ∷ 0 ∷ []) $
        -- [the link's pointer; the token of the references; that of T; the `&` to the value]
        let there : k.place ≡ block_ptr b (i * s + o) = ok.2 ∙ ap (λ (p : Ptr). p +ₚ i * s) at_b ∙ ap (block_ptr b) (add_comm o (i * s)) in
        enter ! 𝓣.C 𝓣.Λ here ((walk_of 𝓛 ended stayed held).args (spelled z)) _ $ alloc_all ! (λ l. pass_all ! refl ((tt, (tt, (record { fits = fn }, tt))), ((tt, tt), tt)) $
        let En : Env 𝓤 H = env here.locals l in
        pointer_in ! tt k.place b (i * s + o) there lb (lo + 0) (λ q'.
        sets ! (of_opd ! (load ! (through ! refl (fld ! refl (stop !))) (look ! 0 refl))) refl (tt, tt) $
        pointer_out ! tt k.place b (i * s + o) there lb (lo + 0) $
        sets ! (of_opd ! (get ! refl)) refl (tt, tt) $
        first ! $ blocks ! $ sets_last ! (addr ! (through ! refl (stop !))) refl (tt, tt) $
        exec ! 𝓣.C 𝓣.Λ En (after 3 here.body) (at_ret En Post) $ sets ! (of_opd ! (get ! refl)) refl (tt, tt) $
        returns ! (look_at ! 0 refl) $ free_all ! refl $
        suffices ! _ (ends_at 𝓛 ended stayed held (spelled z) (vptr b (i * s + o)) (record { ref_ptr = (b, i * s + o); now = x }) (tt, (tt, tt)) (tt, (tt, tt))) $
        says ! (reached cs k c x ok.1 (slice_get-get_or (slots_items h) i d ix)) $
        join ! $ move ! (1 ∷ []) $ feq_i ! (List Val) (vptr b (i * s + o) ∷ []) (vptr b (i * s + o) ∷ []) refl $ fjoin ! $
        nothing ! $ nothing ! $ fjoin ! $ nothing ! $ fjoin ! $ keep ! (2 ∷ 0 ∷ 1 ∷ []) $ done !)))))

    meets : Meets 𝓛 ended.signature (WpFn 𝓤 H 𝓣.C 𝓣.Λ here) (closing 𝓛 ended held)
    meets =
        walk_Meets 𝓛 ended stayed (Goes-dropped 𝓛 2 (SliceRefOf (0 ∷ []) tt (plain (λ _. C.the_row (R E))) (λ _. tt)) yes (λ κs x f. refl), (Goes-dropped 𝓛 2 (RefOf (0 ∷ []) tt (plain (λ _. L.the_row)) (λ _. tt)) yes (λ κs x f. refl), tt)) held
        (WpFn 𝓤 H 𝓣.C 𝓣.Λ here) (WpFn-mono 𝓤 H 𝓛.laws 𝓣 here)
        (walked 𝓛 ended stayed held (WpFn 𝓤 H 𝓣.C 𝓣.Λ here) (λ κs. (shr_slice_vals, (shr_vals, tt))) (λ κs. (shr_slice_Tells (named 0) κs.0 (C.the_row (R E)), (shr_Tells (named 0) κs.0 L.the_row, tt)))
        (λ κs qs bounds a g are. walk ((κs, qs, bounds, a, (shr_slice_vals a.0, (shr_vals a.1.0, tt))), g) are.0.0.1))

pub follow_spec : {M : Type 1} → stated.statement M
unfolding tables_of
follow_spec 𝓤 𝓛 𝓜 𝓡 wired X L =
    let E : El = record { row = X; laws = L } in
    let 𝓣 : Tables 𝓤 𝓛.H = tables_of 𝓤 𝓛.H 𝓜 (tables 𝓤 𝓛.H 𝓜 𝓡 𝓡.env) in
    entered 𝓤 𝓛.H (triple_of 𝓛 (F.signature X) (F.spec X 𝓛 𝓜.mem 𝓡.returns)) 𝓣.C 𝓣.Λ (#self (args E)) (here E) (code.unfolded 𝓤 𝓛.H 𝓜 𝓡 wired (X, tt))
    (meets E 𝓛 𝓜.mem 𝓡.returns 𝓣)
