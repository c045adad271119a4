-- A call with slices lent from where they stand in the context: each comes back to its place, so that no entry moves.
--     calls_at         `Loans.antt`'s `calls_with`, where the sources of the loans are the entries π of the context
--     mut_of, shr-of   a parameter that is a `&mut [T]` of the function's, at the list zs, lent again as a `&mut [T]` or a `&[T]`
--     mut-own, shr-own     the same at the list that was passed
--     mut-front, shr-front     the first m of the elements zs, lent so
--     passed_on        a parameter that is a `&[T]` of the function's
--     takes_out, puts_back     a local's cell taken to the front, and put back in its place
-- Assumes `Logic`.
use mathlib.Core.Path.{◌≡◌, refl, sym, ap, subst}
use Prim.Native.Nat.{ℕ, ◌≤◌}
use mathlib.Core.List.{List, [], ◌∷◌}
use seplogic.Ra.Ura.{Ura}
use mir.Syntax.{Callee, Place, Opd as Operand, Body, seq, call}
use mir.Val.{Val}
use base.Logic.{SProp, ent, sep, emp, via, mono_l, mono_r, emp∗, comm∗, assoc∗, assoc', snd∗}
use base.Fml.{ftrue}
use prog.Wp.{Env, Calls, Loops}
use types.Logic.{Logic, sem}
use sound.WpLaws.{FmC}
use types.Kit.{Item, ‵, mean, ⋆, nth, del, put, pull, fill, push, pop, Post, Goal, runs, lands, Seq, Step, step, ◌$◌, move}
use denote.RattleType.{RattleType, RowLaws}
use lib.ListN.{length}
use base.Fml.{Lft, Share}
use mir.Syntax.{named}
use denote.Slice.{Room}
use Rattle.walk.proofs.Enter.{Slice}
use Rattle.walk.proofs.Locals.{back, puts}
use Rattle.walk.proofs.Slices.Lent.{Elements, ShownFree, of_slice}
use Rattle.walk.proofs.Slices.Parts.{part_lent, part_shared, room_less}
use Rattle.walk.proofs.Slices.Loans.{Param, value, loan, relent, shared, passed, Choices, Lasts, Knowns, machine, Requires, Ensures, Operands, sources, backs, calls_with}

module _ {M : Type 1} {𝓤 : Ura M} (𝓛 : Logic 𝓤) where
  -- the entries π; the context without them; and with what comes back
  abbrev pub items : List ℕ → List (Item 𝓤) → List (Item 𝓤)
  items [] Γ = []
  items (i ∷ π) Γ = nth 𝓛 i Γ ∷ items π (put 𝓛 i (‵ ftrue) Γ)

  abbrev pub holes : List ℕ → List (Item 𝓤) → List (Item 𝓤)
  holes [] Γ = Γ
  holes (i ∷ π) Γ = holes π (put 𝓛 i (‵ ftrue) Γ)

  abbrev pub fills : (ps : List (Param 𝓛)) → List ℕ → Lasts ps → List (Item 𝓤) → List (Item 𝓤)
  fills [] π ws Γ = Γ
  fills (value P x vs m ∷ ps) π ws Γ = fills ps π ws.1 Γ
  fills (loan l ∷ ps) [] ws Γ = Γ
  fills (loan l ∷ ps) (i ∷ π) ws Γ = fills ps π ws.1 (put 𝓛 i (‵ (l.back ws.0)) Γ)

  abbrev pub sourced : List (Param 𝓛) → List (Item 𝓤)
  sourced [] = []
  sourced (value P x vs m ∷ ps) = sourced ps
  sourced (loan l ∷ ps) = ‵ l.source ∷ sourced ps

  -- ---- taken out
  abbrev tail : List (Item 𝓤) → List (Item 𝓤)
  tail [] = []
  tail (i ∷ Γ) = Γ

  all_emp : (Γ : List (Item 𝓤)) → ent 𝓤 (⋆ 𝓛 Γ) (sep 𝓤 (emp 𝓤) (⋆ 𝓛 Γ))
  all_emp Γ = emp∗ 𝓤 (⋆ 𝓛 Γ)

  hole : (i : ℕ) (Γ : List (Item 𝓤)) (j : Item 𝓤) → nth 𝓛 i Γ ≡ j → ent 𝓤 (⋆ 𝓛 Γ) (sep 𝓤 (mean 𝓛 j) (⋆ 𝓛 (put 𝓛 i (‵ ftrue) Γ)))
  hole i Γ j e =
      via 𝓤 (sep 𝓤 (mean 𝓛 j) (⋆ 𝓛 (del 𝓛 i Γ))) (subst (λ (k : Item 𝓤). ent 𝓤 (⋆ 𝓛 Γ) (sep 𝓤 (mean 𝓛 k) (⋆ 𝓛 (del 𝓛 i Γ)))) e (pull 𝓛 i Γ))
      (mono_r 𝓤 (mean 𝓛 j) (via 𝓤 (sep 𝓤 (emp 𝓤) (⋆ 𝓛 (del 𝓛 i Γ))) (all_emp (del 𝓛 i Γ)) (fill 𝓛 i (‵ ftrue) Γ)))

  takes : (ps : List (Param 𝓛)) (π : List ℕ) (Γ : List (Item 𝓤)) → items π Γ ≡ sourced ps → ent 𝓤 (⋆ 𝓛 Γ) (sep 𝓤 (sem 𝓛 (sources ps)) (⋆ 𝓛 (holes π Γ)))
  takes [] [] Γ e = all_emp Γ
  takes [] (i ∷ π) Γ e =
      via 𝓤 (sep 𝓤 (mean 𝓛 (nth 𝓛 i Γ)) (⋆ 𝓛 (put 𝓛 i (‵ ftrue) Γ))) (hole i Γ (nth 𝓛 i Γ) refl)
      (via 𝓤 (⋆ 𝓛 (put 𝓛 i (‵ ftrue) Γ)) (snd∗ 𝓤 (mean 𝓛 (nth 𝓛 i Γ)) (⋆ 𝓛 (put 𝓛 i (‵ ftrue) Γ))) (takes [] π (put 𝓛 i (‵ ftrue) Γ) (ap tail e)))
  takes (value P x vs m ∷ ps) π Γ e = takes ps π Γ e
  takes (loan l ∷ ps) [] Γ e = absurd (subst none e tt)
    where
      none : List (Item 𝓤) → Type 0
      none [] = Unit {0}
      none (i ∷ Δ) = ⊥
  takes (loan l ∷ ps) (i ∷ π) Γ e =
      let Γ₁ : List (Item 𝓤) = put 𝓛 i (‵ ftrue) Γ in
      via 𝓤 (sep 𝓤 (sem 𝓛 l.source) (⋆ 𝓛 Γ₁)) (hole i Γ (‵ l.source) (ap (nth 𝓛 0) e))
      (via 𝓤 (sep 𝓤 (sem 𝓛 l.source) (sep 𝓤 (sem 𝓛 (sources ps)) (⋆ 𝓛 (holes π Γ₁)))) (mono_r 𝓤 (sem 𝓛 l.source) (takes ps π Γ₁ (ap tail e)))
      (assoc' 𝓤 (sem 𝓛 l.source) (sem 𝓛 (sources ps)) (⋆ 𝓛 (holes π Γ₁))))

  -- ---- put back
  refill : (i : ℕ) (k : Item 𝓤) (Γ : List (Item 𝓤)) → ent 𝓤 (sep 𝓤 (mean 𝓛 k) (⋆ 𝓛 Γ)) (⋆ 𝓛 (put 𝓛 i k Γ))
  refill i k Γ =
      via 𝓤 (sep 𝓤 (mean 𝓛 k) (⋆ 𝓛 (del 𝓛 i Γ)))
      (mono_r 𝓤 (mean 𝓛 k) (via 𝓤 (sep 𝓤 (mean 𝓛 (nth 𝓛 i Γ)) (⋆ 𝓛 (del 𝓛 i Γ))) (pull 𝓛 i Γ) (snd∗ 𝓤 (mean 𝓛 (nth 𝓛 i Γ)) (⋆ 𝓛 (del 𝓛 i Γ)))))
      (fill 𝓛 i k Γ)

  returned : (ps : List (Param 𝓛)) (π : List ℕ) (ws : Lasts ps) (Γ : List (Item 𝓤)) → ent 𝓤 (sep 𝓤 (sem 𝓛 (backs ps ws)) (⋆ 𝓛 Γ)) (⋆ 𝓛 (fills ps π ws Γ))
  returned [] π ws Γ = snd∗ 𝓤 (emp 𝓤) (⋆ 𝓛 Γ)
  returned (value P x vs m ∷ ps) π ws Γ = returned ps π ws.1 Γ
  returned (loan l ∷ ps) [] ws Γ = snd∗ 𝓤 (sem 𝓛 (backs (loan l ∷ ps) ws)) (⋆ 𝓛 Γ)
  returned (loan l ∷ ps) (i ∷ π) ws Γ =
      let B : SProp 𝓤 = sem 𝓛 (l.back ws.0) in
      let Bs : SProp 𝓤 = sem 𝓛 (backs ps ws.1) in
      via 𝓤 (sep 𝓤 (sep 𝓤 Bs B) (⋆ 𝓛 Γ)) (mono_l 𝓤 (⋆ 𝓛 Γ) (comm∗ 𝓤 B Bs))
      (via 𝓤 (sep 𝓤 Bs (sep 𝓤 B (⋆ 𝓛 Γ))) (assoc∗ 𝓤 Bs B (⋆ 𝓛 Γ))
      (via 𝓤 (sep 𝓤 Bs (⋆ 𝓛 (put 𝓛 i (‵ (l.back ws.0)) Γ))) (mono_r 𝓤 Bs (refill i (‵ (l.back ws.0)) Γ))
      (returned ps π ws.1 (put 𝓛 i (‵ (l.back ws.0)) Γ))))

module _ {M : Type 1} {𝓤 : Ura M} {𝓛 : Logic 𝓤} {K : Type 0} {Γ : List (Item 𝓤)} {E : Env 𝓤 𝓛.H} {C : Calls 𝓤 𝓛.H} {f : Callee} {xs : List Operand} {Λ : Loops 𝓤 𝓛.H} {q : Post 𝓤 𝓛.H} {d : Place} {rest : Body} where
  open 𝓛 use {H}

  pub calls_at : K → FmC 𝓤 H 𝓛.laws C → (π : List ℕ) (ps : List (Param 𝓛)) (Pre : SProp 𝓤) → ent 𝓤 (emp 𝓤) Pre → (S : RattleType) (ψ : S.Denot → Lasts ps → Type 0)
      → ((c : Choices ps) → ent 𝓤 (Requires ps c Pre) (C f (machine ps) (Ensures ps c S ψ)))
      → items 𝓛 π Γ ≡ sourced 𝓛 ps
      → Operands K 𝓛 (holes 𝓛 π Γ) E xs ps Pre
      → ((w : Val) (r : S.Denot) (ws : Lasts ps) → ψ r ws → Knowns ps ws → Seq K 𝓛 (‵ (S.own_val r (w ∷ [])) ∷ fills 𝓛 ps π ws (holes 𝓛 π Γ)) (lands C Λ E d w rest q))
      → Seq K 𝓛 Γ (runs C Λ E (seq (call f xs d) rest) q)
  calls_at t fm π ps Pre pre S ψ met e ops k = record {
    prf = via 𝓤 (sep 𝓤 (sem 𝓛 (sources ps)) (⋆ 𝓛 (holes 𝓛 π Γ))) (takes 𝓛 ps π Γ e)
        (via 𝓤 (⋆ 𝓛 (‵ (sources ps) ∷ holes 𝓛 π Γ)) (push 𝓛 (‵ (sources ps)) (holes 𝓛 π Γ))
        (calls_with {Λ = Λ} {q = q} {d = d} {rest = rest} t fm ps Pre pre S ψ met ops (λ w r ws h known. move t (1 ∷ []) $ record {
          prf = via 𝓤 (sep 𝓤 (sem 𝓛 (S.own_val r (w ∷ []))) (⋆ 𝓛 (‵ (backs ps ws) ∷ holes 𝓛 π Γ))) (pop 𝓛 (‵ (S.own_val r (w ∷ []))) (‵ (backs ps ws) ∷ holes 𝓛 π Γ))
              (via 𝓤 (sep 𝓤 (sem 𝓛 (S.own_val r (w ∷ []))) (⋆ 𝓛 (fills 𝓛 ps π ws (holes 𝓛 π Γ))))
              (mono_r 𝓤 (sem 𝓛 (S.own_val r (w ∷ []))) (via 𝓤 (sep 𝓤 (sem 𝓛 (backs ps ws)) (⋆ 𝓛 (holes 𝓛 π Γ))) (pop 𝓛 (‵ (backs ps ws)) (holes 𝓛 π Γ)) (returned 𝓛 ps π ws (holes 𝓛 π Γ))))
              (via 𝓤 (⋆ 𝓛 (‵ (S.own_val r (w ∷ [])) ∷ fills 𝓛 ps π ws (holes 𝓛 π Γ))) (push 𝓛 (‵ (S.own_val r (w ∷ []))) (fills 𝓛 ps π ws (holes 𝓛 π Γ))) (k w r ws h known).prf));
        })).prf);
  }

-- ---- the function's own slices, lent
module _ {M : Type 1} {𝓤 : Ura M} (𝓛 : Logic 𝓤) {R : RattleType} {κ : Lft} {q : Share} (s : Slice R κ q) where
  abbrev pub mut_of : (zs : List R.Denot) → length zs ≡ length s.list → Param 𝓛
  mut_of zs e = loan (relent 𝓛 R (named 0) κ q s.ghost s.block s.offset zs (length s.list) (subst (Room R) (sym e) s.room) e)

  abbrev pub shr_of : (zs : List R.Denot) → length zs ≡ length s.list → ShownFree 𝓛 R → Param 𝓛
  shr_of zs e sh = loan (shared 𝓛 R (named 0) κ q s.ghost s.block s.offset zs (length s.list) (subst (Room R) (sym e) s.room) e sh)

  abbrev pub mut_own : Param 𝓛
  mut_own = mut_of s.list refl

  abbrev pub shr_own : ShownFree 𝓛 R → Param 𝓛
  shr_own = shr_of s.list refl

  module _ (zs : List R.Denot) (e : length zs ≡ length s.list) (m : ℕ) (le : m ≤ length zs) where
    abbrev room : Room R (length zs)
    room = subst (Room R) (sym e) s.room

    abbrev elements : Elements 𝓛 R s.block s.offset zs (length s.list)
    elements = of_slice 𝓛 R (named 0) κ q s.ghost s.block s.offset zs (length s.list) room e

    abbrev pub mut_front : Param 𝓛
    mut_front = loan (part_lent 𝓛 elements m le (room_less R room le))

    abbrev pub shr_front : ShownFree 𝓛 R → Param 𝓛
    shr_front sh = loan (part_shared 𝓛 elements m le (room_less R room le) sh)

  abbrev pub passed_on : RowLaws R → Param 𝓛
  passed_on lw = loan (passed 𝓛 R (named 0) κ q s.block s.offset s.list (length s.list) lw)

-- ---- a local's cell taken out of its place, as an array that is lent is, and put back: no other local moves
module _ {M : Type 1} {𝓤 : Ura M} {𝓛 : Logic 𝓤} {K : Type 0} {Γ : List (Item 𝓤)} {G : Goal 𝓤 𝓛.H} where
  pub takes_out : K → (x : ℕ) {i : Item 𝓤} → nth 𝓛 (back x Γ) Γ ≡ i → Step K 𝓛 (i ∷ puts 𝓛 x (‵ ftrue) Γ) G Γ G
  takes_out t x {i} e = step (λ s. record {
    prf = via 𝓤 (sep 𝓤 (mean 𝓛 i) (⋆ 𝓛 (puts 𝓛 x (‵ ftrue) Γ))) (hole 𝓛 (back x Γ) Γ i e) (via 𝓤 (⋆ 𝓛 (i ∷ puts 𝓛 x (‵ ftrue) Γ)) (push 𝓛 i (puts 𝓛 x (‵ ftrue) Γ)) s.prf);
  })

  pub puts_back : K → (x : ℕ) {i : Item 𝓤} → Step K 𝓛 (puts 𝓛 x i Γ) G (i ∷ Γ) G
  puts_back t x {i} = step (λ s. record { prf = via 𝓤 (sep 𝓤 (mean 𝓛 i) (⋆ 𝓛 Γ)) (pop 𝓛 i Γ) (via 𝓤 (⋆ 𝓛 (puts 𝓛 x i Γ)) (refill 𝓛 (back x Γ) i Γ) s.prf) })
