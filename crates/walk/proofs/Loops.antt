-- A loop in a walk, where a context ends with the cells of the locals (`Locals.antt`). The invariant is the context that the
-- loop begins with, but for what a turn changes: a variant of any type says which slices stand at which lists, and which
-- locals hold what.
--     Standing         the context in which these entries in front stand as these, and these locals hold these values
--     iterates         a loop and the rest behind it, from the variant x₀, with a turn from any x
--     continues        a turn ends at a variant y of a smaller measure. Locals that were empty as the loop began are emptied
--     breaks           the loop is left, and the rest runs
--     returning        a `return` in a turn returns from the function, as `gives_within` asks
-- Assumes `Logic`.
use Prim.Native.Nat.{ℕ, zero, suc, ◌<◌}
use mathlib.Core.Path.{◌≡◌, refl, subst, sym, ap}
use mathlib.Core.List.{List, [], ◌∷◌, ◌++◌}
use mathlib.Core.WellFounded.InvImage
use lib.WfN.{lt-wf_rel}
use seplogic.Ra.Ura.{Ura}
use mir.Syntax.{Ty, Body, seq, block, loop}
use mir.Val.{Val}
use base.Logic.{SProp, ent, id⊢, via, mono∗, mono_r}
use base.Fml.{fdies}
use prog.Wp.{Env, Calls, Loops, Out, next, exits, returns, Wp, Tables, after_seq, after_block}
unfoldable use prog.Wp.{after_turn}
use types.Logic.{Logic}
use types.Kit.{Item, ‵, mean, ⋆, put, push, pop, ++⊢, ⊢++, Post, post, any_q, prop, runs, Goal, aim, Seq, Step, step, ◌$◌}
use types.Run.{Below, first, blocks, loops, again}
use Rattle.walk.proofs.Frees.{Held, holds, empty, held_in, cell}
use Rattle.walk.proofs.Locals.{front, many, standing, held}

module _ {M : Type 1} {𝓤 : Ura M} (𝓛 : Logic 𝓤) (E : Env 𝓤 𝓛.H) where
  abbrev pub LoopContext : List (ℕ × Item 𝓤) → List (ℕ × Val) → List (Item 𝓤) → List (Item 𝓤)
  LoopContext [] [] Γ = Γ
  LoopContext [] (v ∷ vs) Γ = LoopContext [] vs (held 𝓛 Γ E v.0 v.1)
  LoopContext (i ∷ is) vs Γ = LoopContext is vs (put 𝓛 i.0 i.1 Γ)

-- ---- locals emptied
module _ {M : Type 1} {𝓤 : Ura M} where
  -- what stands in front of the cells of n locals, and what the locals hold, the first local first
  abbrev heads : ℕ → List (Item 𝓤) → List (Item 𝓤)
  heads zero Γ = []
  heads (suc k) [] = []
  heads (suc k) (i ∷ Γ) = i ∷ heads k Γ

  abbrev holding : ℕ → List (Item 𝓤) → List Held → List Held
  holding zero [] hs = hs
  holding zero (i ∷ []) hs = hs
  holding zero (i ∷ j ∷ Γ) hs = holding zero Γ (held_in i ∷ hs)
  holding (suc k) [] hs = hs
  holding (suc k) (i ∷ Γ) hs = holding k Γ hs

abbrev keep : Held → Held → Held
keep empty h = empty
keep (holds v) h = h

-- what locals hold, but for those that hold nothing in the first list
abbrev kept : List Held → List Held → List Held
kept [] hs = []
kept (k ∷ ks) [] = []
kept (k ∷ ks) (h ∷ hs) = keep k h ∷ kept ks hs

module _ {M : Type 1} {𝓤 : Ura M} (𝓛 : Logic 𝓤) where
  -- a local's cell as another, and what stands behind it
  swapped : (e : Ty × ℕ) (h k : Held) (Γ Δ : List (Item 𝓤)) → ent 𝓤 (mean 𝓛 (cell e.0 e.1 h)) (mean 𝓛 (cell e.0 e.1 k)) → ent 𝓤 (⋆ 𝓛 Γ) (⋆ 𝓛 Δ)
      → ent 𝓤 (⋆ 𝓛 (cell e.0 e.1 h ∷ ‵ (fdies e.0 e.1) ∷ Γ)) (⋆ 𝓛 (cell e.0 e.1 k ∷ ‵ (fdies e.0 e.1) ∷ Δ))
  swapped e h k Γ Δ p s =
      let d : Item 𝓤 = ‵ (fdies e.0 e.1) in
      via 𝓤 _ (pop 𝓛 (cell e.0 e.1 h) (d ∷ Γ)) (via 𝓤 _ (mono∗ 𝓤 p (via 𝓤 _ (pop 𝓛 d Γ) (via 𝓤 _ (mono_r 𝓤 (mean 𝓛 d) s) (push 𝓛 d Δ)))) (push 𝓛 (cell e.0 e.1 k) (d ∷ Δ)))

  vacated : (e : Ty × ℕ) (h : Held) → ent 𝓤 (mean 𝓛 (cell e.0 e.1 h)) (mean 𝓛 (cell e.0 e.1 empty))
  vacated e empty = id⊢ 𝓤 _
  vacated e (holds v) = 𝓛.laws.at_room e.0 e.1 0 v

  keeps : (e : Ty × ℕ) (k h : Held) → ent 𝓤 (mean 𝓛 (cell e.0 e.1 h)) (mean 𝓛 (cell e.0 e.1 (keep k h)))
  keeps e empty h = vacated e h
  keeps e (holds v) h = id⊢ 𝓤 _

  thins : (E : List (Ty × ℕ)) (ks hs : List Held) (Γ Δ : List (Item 𝓤)) → ent 𝓤 (⋆ 𝓛 Γ) (⋆ 𝓛 Δ) → ent 𝓤 (⋆ 𝓛 (standing E hs Γ)) (⋆ 𝓛 (standing E (kept ks hs) Δ))
  thins [] ks hs Γ Δ s = s
  thins (e ∷ E) [] [] Γ Δ s = thins E [] [] _ _ (swapped e empty empty Γ Δ (id⊢ 𝓤 _) s)
  thins (e ∷ E) [] (h ∷ hs) Γ Δ s = thins E [] hs _ _ (swapped e h empty Γ Δ (vacated e h) s)
  thins (e ∷ E) (k ∷ ks) [] Γ Δ s = thins E [] [] _ _ (swapped e empty empty Γ Δ (id⊢ 𝓤 _) s)
  thins (e ∷ E) (k ∷ ks) (h ∷ hs) Γ Δ s = thins E ks hs _ _ (swapped e h (keep k h) Γ Δ (keeps e k h) s)

  thinned : (F : List (Item 𝓤)) (E : List (Ty × ℕ)) (ks hs : List Held) → ent 𝓤 (⋆ 𝓛 (F ++ standing E hs [])) (⋆ 𝓛 (F ++ standing E (kept ks hs) []))
  thinned F E ks hs = via 𝓤 _ (⊢++ 𝓛 F (standing E hs [])) (via 𝓤 _ (mono_r 𝓤 (⋆ 𝓛 F) (thins E ks hs [] [] (id⊢ 𝓤 _))) (++⊢ 𝓛 F (standing E (kept ks hs) [])))

-- ---- the loop
module _ {M : Type 1} {𝓤 : Ura M} (E : List (Ty × ℕ)) (Γ : List (Item 𝓤)) where
  -- Γ as it stands, and with the locals emptied that are empty in Δ
  abbrev pub stood : List (Item 𝓤)
  stood = heads (front (many E) Γ) Γ ++ standing E (holding (front (many E) Γ) Γ []) []

  abbrev pub cleared : List (Item 𝓤) → List (Item 𝓤)
  cleared Δ = heads (front (many E) Γ) Γ ++ standing E (kept (holding (front (many E) Γ) Δ []) (holding (front (many E) Γ) Γ [])) []

-- what a turn from x may end with: at a variant y of a smaller measure, or out of the loop, where the rest runs
pub record Iteration {M : Type 1} {𝓤 : Ura M} (K : Type 0) (𝓛 : Logic 𝓤) (C : Calls 𝓤 𝓛.H) (Λ : Loops 𝓤 𝓛.H) (E : Env 𝓤 𝓛.H) (rest : Body) (q : Post 𝓤 𝓛.H) {X : Type 0} (measure : X → ℕ) (At : X → List (Item 𝓤)) (x : X) : Type 2 where
  pub after : Out → SProp 𝓤
  pub continues : {Γ : List (Item 𝓤)} → K → (y : X) → measure y < measure x → ◌≡◌ {A = List (Item 𝓤) × List (Item 𝓤)} (Γ, At y) (stood E Γ, cleared E Γ (At y)) → Seq K 𝓛 Γ (prop (after next))
  pub breaks : {Γ : List (Item 𝓤)} → K → Step K 𝓛 Γ (runs C Λ E rest q) Γ (prop (after (exits 1)))
  pub returning : after returns ≡ post 𝓤 𝓛.H q returns

module _ {M : Type 1} {𝓤 : Ura M} {𝓛 : Logic 𝓤} {K : Type 0} {Γ : List (Item 𝓤)} where
  open 𝓛 use {H}

  clears : K → (E : List (Ty × ℕ)) (Δ : List (Item 𝓤)) {G : Goal 𝓤 H} → ◌≡◌ {A = List (Item 𝓤) × List (Item 𝓤)} (Γ, Δ) (stood E Γ, cleared E Γ Δ) → Step K 𝓛 Δ G Γ G
  clears t E Δ {G} e = step (λ s. record {
    prf = subst (λ (Θ : List (Item 𝓤)). ent 𝓤 (⋆ 𝓛 Θ) (aim 𝓤 H G)) (sym (ap (λ p. p.0) e))
        (via 𝓤 _ (thinned 𝓛 (heads (front (many E) Γ) Γ) E (holding (front (many E) Γ) Δ []) (holding (front (many E) Γ) Γ [])) (subst (λ (Θ : List (Item 𝓤)). ent 𝓤 (⋆ 𝓛 Θ) (aim 𝓤 H G)) (ap (λ p. p.1) e) s.prf));
  })

module _ {M : Type 1} {𝓤 : Ura M} {𝓛 : Logic 𝓤} {K : Type 0} {Γ : List (Item 𝓤)} {E : Env 𝓤 𝓛.H} {rest : Body} {q : Post 𝓤 𝓛.H} where
  open 𝓛 use {H}

  pub iterates : K → (𝓣 : Tables 𝓤 H) {turn : Body} {X : Type 0} (measure : X → ℕ) (slices : X → List (ℕ × Item 𝓤)) (locals : X → List (ℕ × Val)) (x₀ : X)
      → let At : X → List (Item 𝓤) = λ x. LoopContext 𝓛 E (slices x) (locals x) Γ in
      At x₀ ≡ Γ
      → ((x : X) (o : Iteration K 𝓛 𝓣.C 𝓣.Λ E rest q measure At x) → Seq K 𝓛 (At x) (runs 𝓣.C 𝓣.Λ E turn (any_q o.after)))
      → Seq K 𝓛 Γ (runs 𝓣.C 𝓣.Λ E (seq (block (loop turn)) rest) q)
  unfolding after_turn
  iterates t 𝓣 {turn} {X = X} measure slices locals x₀ e turns =
      let At : X → List (Item 𝓤) = λ x. LoopContext 𝓛 E (slices x) (locals x) Γ in
      let G : Post 𝓤 H = any_q (after_block 𝓤 H (after_seq 𝓤 H (Wp 𝓤 H 𝓣.C 𝓣.Λ E rest (post 𝓤 H q)) (post 𝓤 H q))) in
      let nearer : X → X → Type 0 = λ y x. measure y < measure x in
      first t $ blocks t $ subst (λ (Δ : List (Item 𝓤)). Seq K 𝓛 Δ (runs 𝓣.C 𝓣.Λ E (loop turn) G)) e
      (loops t 𝓣 nearer (InvImage.wf measure lt-wf_rel.wf) At {q = G} (λ x. turns x (record {
        after = after_turn 𝓤 H (Below 𝓛 nearer At x) (post 𝓤 H G);
        continues = λ t y less e. clears t E (At y) e $ again t nearer At x y less;
        breaks = λ t. step (λ s. record { prf = s.prf });
        returning = refl;
      })) x₀)
