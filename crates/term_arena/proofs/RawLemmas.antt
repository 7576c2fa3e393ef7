-- What a `&` to a link or to a list of chunks shows. Assumes `Logic`.
use Rattle.std.proofs.Common.{◌≡◌, ℕ, zero, suc, ◌+◌, List, [], ◌∷◌, Some, refl}
use Rattle.std.specs.Prelude.{slice_get}
use seplogic.Ra.Ura.{Ura}
use base.Logic.{ent}
use base.Fml.{Lft, Share, fat, flft, fhide}
use types.Logic.{Logic, sem}
use types.Kit.{Goal, Soaks, Step, step, Seq, Item, fjoin, feq_i, feq_l, ‵, ◌⊛◌, ◌$◌, ◌∵◌, !, qed, by, keep, drop, use1, split, fsplit, rewrite, move, done}
use denote.RattleType.{RattleType}
use denote.Memory.{mem, cell_at, part_at, hidden_shr, shared_of}
use denote.Copied.{plain_Copied}
use denote.Shadow.{pure_i}
use denote.Steps.{looks, shuts, nothing}
use denote.Struct.Laws.{RawPtr-laws}
use lib.Dec.{T, lit<}
use mir.Syntax.{ty_ptr}
use mir.Val.{Val, vstruct, vcons, vnil, has_ty, WT}
use denote.Index.{place}
use denote.Opens.{Shut, unhide}
use denote.RawPtr.{Ptr, RawPtr, block_ptr, null_ptr, ptr_val, coded_ptr, ptr_own, rawptr_pure}
use denote.Slice.{elements_shared}
use denote.Struct.Struct.{Struct}
use denote.Struct.Owning.{shape}
use denote.Struct.Lending.{lent_out}
use Rattle.core.proofs.mem.Param.{El, R, el_x}
use Rattle.core.proofs.slots.Opens.{Sr}
use Rattle.term_arena.specs.declared.chunks.link.Chunk.{Chunk}
use Rattle.term_arena.specs.declared.chunks.link.Link.{Link}
use Rattle.term_arena.specs.contracts.chunks.link.Chunk as C
use Rattle.term_arena.specs.contracts.chunks.link.Link as L

-- one element of a slice
pub element_lent : (Y : RattleType) {M : Type 1} {𝓤 : Ura M} (𝓛 : Logic 𝓤) (κ : Lft) (b : ℕ) (xs : List Y.Denot) (i o : ℕ) (x : Y.Denot) → slice_get xs i ≡ Some x
    → ent 𝓤 (sem 𝓛 (elements_shared Y xs b o κ)) (sem 𝓛 (hidden_shr Y κ x b (place (mem Y).size o i)))
element_lent Y 𝓛 κ b [] i o x e = cc
element_lent Y 𝓛 κ b (y ∷ xs) zero o x e =
    let same : y ≡ x = cc in
    qed 𝓛 (‵ (elements_shared Y (y ∷ xs) b o κ) ∷ []) ∵ fsplit ! $ keep ! (0 ∷ []) $ rewrite ! 0 (λ (z : Y.Denot). ‵ (shared_of Y z b o κ)) same refl $ done !
element_lent Y 𝓛 κ b (y ∷ xs) (suc i) o x e =
    qed 𝓛 (‵ (elements_shared Y (y ∷ xs) b o κ) ∷ []) ∵ fsplit ! $ drop ! $ by ! (element_lent Y 𝓛 κ b xs i (o + (mem Y).size) x e)

module _ {M : Type 1} {𝓤 : Ura M} (𝓛 : Logic 𝓤) (κ : Lft) where
  -- the pointer of a link
  pub pointer_lent : (k : Link) (b o : ℕ) → ent 𝓤 (sem 𝓛 (hidden_shr L.the_row κ k b o)) (sem 𝓛 (hidden_shr RawPtr κ k.place b (o + 0)))
  pointer_lent k b o = qed 𝓛 (‵ (hidden_shr L.the_row κ k b o) ∷ []) ∵
      use1 𝓛 (‵ (hidden_shr (Struct (shape L.the_type)) κ (k.place, tt) b o) ⊛ ‵ (fhide (L.the_lent k k.place κ))) (lent_out 𝓛 L.struct L.the_codes L.the_heap L.the_lent κ k b o) $ split ! $
      unhide ! $ fsplit ! $ fsplit ! $ keep ! (0 ∷ []) $ done !

  -- the row of places of a chunk
  pub row_lent : (E : El) (c : Chunk (el_x E)) (b o : ℕ) → ent 𝓤 (sem 𝓛 (hidden_shr (C.the_row (R E)) κ c b o)) (sem 𝓛 (hidden_shr (Sr E) κ c.slots b (o + 0)))
  row_lent E c b o = qed 𝓛 (‵ (hidden_shr (C.the_row (R E)) κ c b o) ∷ []) ∵ unhide ! $ fsplit ! $ fsplit ! $ keep ! (0 ∷ []) $ done !

abbrev pub link_val : Ptr → Val
link_val p = vstruct (vcons (ptr_val p) vnil)

pub ptr_typed : (p : Ptr) → T (has_ty ty_ptr (ptr_val p)) × WT (ptr_val p)
ptr_typed (block_ptr b o) = (tt, tt)
ptr_typed null_ptr = (tt, record { fits = lit< tt })

module _ {M : Type 1} {𝓤 : Ura M} {𝓛 : Logic 𝓤} {K : Type 0} {Γ : List (Item 𝓤)} {G : Goal 𝓤 𝓛.H} where
  -- a link is made of its pointer
  pub link_made : K → (k : Link) → Step K 𝓛 (‵ (L.the_row.own_val k (link_val k.place ∷ [])) ∷ Γ) G Γ G
  link_made t k = step (λ s.
      nothing t $ pure_i t ((Struct (shape L.the_type)).own_val (k.place, tt) (link_val k.place ∷ [])) (λ vss. (tt, (tt, tt))) ((ptr_val k.place ∷ [], tt), (refl, (refl, tt))) $ fjoin t $ s)

  -- a pointer behind a `&` is looked at, null or not: [the word; the way back]
  pub word_in : K → Soaks G → {κ : Lft} {q : Share} (p : Ptr) (b at : ℕ)
      → ((q' : Share) → Seq K 𝓛 (‵ (fat q' ty_ptr b at (ptr_val p)) ∷ Shut 𝓛 κ q (part_at RawPtr q' p b at) ∷ Γ) G) → Seq K 𝓛 (‵ (hidden_shr RawPtr κ p b at) ∷ ‵ (flft κ q) ∷ Γ) G
  word_in t z p b at k =
      looks t z RawPtr (plain_Copied 𝓛 Ptr coded_ptr (ty_ptr ∷ []) ptr_own rawptr_pure ptr_val RawPtr-laws.tells).opens p b at (λ q' vs. move t (1 ∷ []) $ feq_l t (λ e.
      rewrite t 0 (λ (us : List Val). ‵ (cell_at q' RawPtr.mir us b at)) e refl $ move t (2 ∷ []) $ drop t $ k q'))

  pub word_out : K → Soaks G → {κ : Lft} {q q' : Share} (p : Ptr) (b at : ℕ)
      → Step K 𝓛 (‵ (flft κ q) ∷ Γ) G (‵ (fat q' ty_ptr b at (ptr_val p)) ∷ Shut 𝓛 κ q (part_at RawPtr q' p b at) ∷ Γ) G
  word_out t z {q' = q'} p b at = step (λ s. feq_i t (List Val) (ptr_val p ∷ []) (ptr_val p ∷ []) refl $ move t (1 ∷ 0 ∷ []) $ shuts t z RawPtr q' p (ptr_val p ∷ []) b at $ s)
