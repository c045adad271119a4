-- A slice that a walk holds with its token (`Enter.antt`) opened for its elements, and closed.
--     opens-lent, closes-lent      a `&mut [T]`, at the list ys and at another as long
--     looks-shown, shuts-shown     a `&[T]`
-- Assumes `Logic`.
use mathlib.Core.Path.{◌≡◌, sym, subst}
use mathlib.Core.List.{List, [], ◌∷◌}
use lib.ListN.{length}
use seplogic.Ra.Ura.{Ura}
use base.Fraction.{full_share}
use mir.Syntax.{named}
use base.Fml.{Lft, Share, Fml, fsep, flft}
use types.Logic.{Logic}
use types.Kit.{Item, ‵, ◌⊛◌, later, Goal, Soaks, Seq, Step, step, ◌$◌, move, use1, split, join, fsplit, fjoin, await}
use denote.RattleType.{RattleType}
use denote.Copied.{Copied}
use denote.Opens.{Shut}
use denote.Slice.{Room}
use denote.Index.{row, looks_slice, shuts_slice}
use Rattle.walk.proofs.Enter.{Slice}
use Rattle.walk.proofs.Slices.Lent.{own_at, shr_at, Opened, slice_opens, slice_closes}

-- what a slice owns names no lifetime of MIR's, so any name stands for its own
module _ {R : RattleType} {κ : Lft} {q : Share} (s : Slice R κ q) where
  abbrev pub Lent_at : List R.Denot → Fml
  Lent_at zs = fsep (own_at R s.block s.offset (named 0) κ s.ghost zs (length s.list)) (flft κ q)

  abbrev Seen : Fml
  Seen = shr_at R s.block s.offset (named 0) κ s.list (length s.list)

  abbrev pub Shown : Fml
  Shown = fsep Seen (flft κ q)

  -- what is left of a slice that is looked into
  abbrev pub Looking : {M : Type 1} {𝓤 : Ura M} (𝓛 : Logic 𝓤) → Share → Item 𝓤
  Looking 𝓛 p = Shut 𝓛 κ q (row R p s.list s.block s.offset) ⊛ ‵ Seen

module _ {M : Type 1} {𝓤 : Ura M} {𝓛 : Logic 𝓤} {K : Type 0} {Γ : List (Item 𝓤)} {G : Goal 𝓤 𝓛.H} {R : RattleType} {κ : Lft} {q : Share} where
  pub opens_lent : K → Soaks G → (s : Slice R κ q) (ys : List R.Denot)
      → Step K 𝓛 (‵ (row R full_share ys s.block s.offset) ∷ ‵ (Opened 𝓛 R (named 0) κ q s.ghost s.block s.offset ys (length s.list)) ∷ Γ) G (‵ (Lent_at s ys) ∷ Γ) G
  opens_lent t z s ys = step (λ k.
      use1 𝓛 (later (‵ (fsep (row R full_share ys s.block s.offset) (Opened 𝓛 R (named 0) κ q s.ghost s.block s.offset ys (length s.list))))) (slice_opens 𝓛 R (named 0) κ q s.ghost s.block s.offset ys (length s.list)) $
      await t z $ fsplit t $ k)

  pub closes_lent : K → Soaks G → (s : Slice R κ q) (ys : List R.Denot) → length ys ≡ length s.list → (zs : List R.Denot) → length zs ≡ length ys
      → Step K 𝓛 (‵ (Lent_at s zs) ∷ Γ) G (‵ (row R full_share zs s.block s.offset) ∷ ‵ (Opened 𝓛 R (named 0) κ q s.ghost s.block s.offset ys (length s.list)) ∷ Γ) G
  closes_lent t z s ys e zs l = step (λ k.
      fjoin t $ use1 𝓛 (later (‵ (Lent_at s zs))) (slice_closes 𝓛 R (named 0) κ q s.ghost s.block s.offset ys (length s.list) (subst (Room R) (sym e) s.room) e zs l) $ await t z $ k)

  pub looks_shown : K → Soaks G → (s : Slice R κ q) → Copied 𝓛 R
      → ((p : Share) → Seq K 𝓛 (‵ (row R p s.list s.block s.offset) ∷ Looking s 𝓛 p ∷ Γ) G) → Seq K 𝓛 (‵ (Shown s) ∷ Γ) G
  looks_shown t z s copied k =
      fsplit t $ fsplit t $ move t (1 ∷ 2 ∷ []) $ looks_slice t z R copied s.list s.block s.offset (λ p.
      -- [the row; the way back; what the slice shares; where it lies]
      move t (3 ∷ 2 ∷ []) $ fjoin t $ move t (2 ∷ 0 ∷ []) $ join t $ move t (1 ∷ 0 ∷ []) $ k p)

  pub shuts_shown : K → Soaks G → (s : Slice R κ q) (p : Share) → Step K 𝓛 (‵ (Shown s) ∷ Γ) G (‵ (row R p s.list s.block s.offset) ∷ Looking s 𝓛 p ∷ Γ) G
  shuts_shown t z s p = step (λ k. move t (1 ∷ []) $ split t $ move t (2 ∷ 0 ∷ []) $ shuts_slice t z R p s.list s.block s.offset $ move t (1 ∷ 0 ∷ []) $ fjoin t $ k)
