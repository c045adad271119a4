-- A `match` on an enum that a local holds (`Locals.antt`): its variant is known, so that the walk goes straight to the arm.
--     arm_of            the arm of a switch that has a key
--     matches          the switch on the tag of the local x, whose variant is k: its arm runs
--     payload-var      an operand that is a field of the variant
-- Assumes `Logic`.
use Prim.Native.Nat.{ℕ, suc, ◌+◌}
use mathlib.Core.Bool.{Bool, true, false, ◌||◌, cond as if}
use mathlib.Core.List.{List, [], ◌∷◌}
use mathlib.Core.Option.{some}
use mathlib.Core.Path.{◌≡◌, refl, sym, ap, subst}
use seplogic.Ra.Ura.{Ura}
use base.Fraction.{full_share}
use lib.Dec.{T}
use mir.Syntax.{Sym, Ty, Tys, Tyss, ty_enum, ty_int, w8, place, variant, field, copy, Body, skip, switch, Arms, arm, default, no_default}
use mir.Val.{Vals, has_key}
use mir.Fields.{get_v, set_v}
use base.Logic.{ent}
use base.Fml.{fat}
use prog.Memory.{field_at, variant_at, with_tag}
use prog.Wp.{Env, Spot, Calls, Loops, Wp, WpArms, branch, spot_of}
use types.Logic.{Logic}
use types.Kit.{Item, ‵, ⋆, nth, Post, post, runs, Seq, Step, step, ◌$◌}
use types.Match.{live, vrt, in_variant, look_tag}
use types.Part.{Part, whole, look_in}
use types.Run.{Walks, Opd, fld, from, load, stop, switches_on}
use Rattle.walk.proofs.Locals.{back}

abbrev pub arm_of : Arms → ℕ → Body
arm_of (arm ks b arms) k = if (has_key ks k) b (arm_of arms k)
arm_of (default b) k = b
arm_of no_default k = skip

abbrev pub has_arm : Arms → ℕ → Bool
has_arm (arm ks b arms) k = has_key ks k || has_arm arms k
has_arm (default b) k = true
has_arm no_default k = false

module _ {M : Type 1} {𝓤 : Ura M} {𝓛 : Logic 𝓤} {K : Type 0} {Γ : List (Item 𝓤)} {E : Env 𝓤 𝓛.H} {C : Calls 𝓤 𝓛.H} {Λ : Loops 𝓤 𝓛.H} {q : Post 𝓤 𝓛.H} where
  open 𝓛 use {H}

  to_arm : (arms : Arms) (k : ℕ) → T (has_arm arms k) → Seq K 𝓛 Γ (runs C Λ E (arm_of arms k) q) → ent 𝓤 (⋆ 𝓛 Γ) (WpArms 𝓤 H C Λ E arms k (post 𝓤 H q))
  to_arm (arm ks b arms) k h s = go (has_key ks k) h (to_arm arms k) s
    where
      go : (z : Bool) → T (z || has_arm arms k) → (T (has_arm arms k) → Seq K 𝓛 Γ (runs C Λ E (arm_of arms k) q) → ent 𝓤 (⋆ 𝓛 Γ) (WpArms 𝓤 H C Λ E arms k (post 𝓤 H q))) → Seq K 𝓛 Γ (runs C Λ E (if z b (arm_of arms k)) q)
          → ent 𝓤 (⋆ 𝓛 Γ) (branch 𝓤 H z (Wp 𝓤 H C Λ E b (post 𝓤 H q)) (WpArms 𝓤 H C Λ E arms k (post 𝓤 H q)))
      go true h later s = s.prf
      go false h later s = later h s
  to_arm (default b) k h s = s.prf
  to_arm no_default k h s = absurd h

module _ {M : Type 1} {𝓤 : Ura M} {𝓛 : Logic 𝓤} {K : Type 0} {Γ : List (Item 𝓤)} {E : Env 𝓤 𝓛.H} {x : ℕ} {ν : Sym} {τss : Tyss} {b k : ℕ} {vs : Vals} where
  open 𝓛 use {H}

  pub matches : K → {C : Calls 𝓤 H} {Λ : Loops 𝓤 H} {q : Post 𝓤 H} {j : ℕ} {τs : Tys} {arms : Arms} → spot_of 𝓤 H E x ≡ (ty_enum ν τss, b, 0) → nth 𝓛 (back x Γ) Γ ≡ ‵ (fat full_share (ty_enum ν τss) b 0 (live k vs)) → variant_at τss j ≡ some τs → T (has_arm arms k)
      → Step K 𝓛 Γ (runs C Λ E (arm_of arms k) q) Γ (runs C Λ E (switch (copy (place x (variant j ∷ field 0 ∷ []))) arms) q)
  matches t {j = j} {τs} {arms} spot e at has = step (λ s.
      switches_on t (load t (from t (subst (λ (sp : Spot 𝓤 H). Walks K 𝓛 Γ E sp (variant j ∷ field 0 ∷ []) (ty_int w8, b, 0 + 0)) (sym spot) (vrt t (ap (with_tag ν) at) (fld t refl (stop t)))))
      (look_tag t (back x Γ) (subst (λ (i : Item 𝓤). Part K 𝓛 i full_share (ty_enum ν τss) b 0 (live k vs) (λ v. ‵ (fat full_share (ty_enum ν τss) b 0 v))) (sym e) (whole t)))) $
      record { prf = to_arm arms k has s })

  pub payload_var : K → {n : ℕ} {τs : Tys} {τ : Ty} {d : ℕ} → spot_of 𝓤 H E x ≡ (ty_enum ν τss, b, 0) → nth 𝓛 (back x Γ) Γ ≡ ‵ (fat full_share (ty_enum ν τss) b 0 (live k vs)) → variant_at τss k ≡ some τs → field_at 1 τs n ≡ some (τ, d)
      → Opd K 𝓛 Γ E (copy (place x (variant k ∷ field (suc n) ∷ []))) (get_v vs n)
  payload_var t {n} {τs} {τ} {d} spot e at in-it =
      load t (from t (subst (λ (sp : Spot 𝓤 H). Walks K 𝓛 Γ E sp (variant k ∷ field (suc n) ∷ []) (τ, b, 0 + d)) (sym spot) (vrt t (ap (with_tag ν) at) (fld t in-it (stop t)))))
      (look_in t (back x Γ) (subst (λ (i : Item 𝓤). Part K 𝓛 i full_share τ b (0 + d) (get_v vs n) (λ u. ‵ (fat full_share (ty_enum ν τss) b 0 (live k (set_v vs n u))))) (sym e) (in_variant t k n at in-it (whole t))))
