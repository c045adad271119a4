-- The steps of a walk that read and write locals, where a context ends with the cells of the locals, the first local last, as
-- `Enter.antt` leaves it: a local's cell is then found by the local's number, which the code has, and no position is written.
--     back x           where the cell of the local x stands
--     var, vars, field-var     an operand that is a local, operands that are locals, a field of a local
--     inner-var        a field of a field of a local
--     cell-of, revalues        the cell of a local; its value written another way
--     Stands           the cell of a local, whether it holds something or nothing
--     sets, sets_last  an assignment to a local, whatever it held
--     copies, computes, adds, adds-last    the same of another local, of an operation on two, of the sum of one and a constant
--     lands-in         a call's value goes to a local, whatever it held
--     empties          what a local holds is forgotten
--     standing         the cells of locals, of which the first hold these
--     gives, gives-within      the function returns: its locals are freed, and what stands in front of their cells is left
-- Assumes `Logic`.
use Prim.Native.Nat.{ℕ, zero, suc, ◌+◌, ◌-◌, ◌<◌, ◌^◌}
use mathlib.Core.Path.{◌≡◌, sym, subst}
use mathlib.Core.Option.{some}
use mathlib.Core.List.{List, [], ◌∷◌}
use seplogic.Ra.Ura.{Ura}
use base.Fraction.{full_share}
use lib.Dec.{T, ltb}
use mir.Syntax.{Sym, Ty, Tys, ty_struct, ty_int, w64, field, place, copy, int, int_neg, int_big, float, opd_true, opd_false, opd_unit, ptr_const, size_of, align_of, num_of, fn_addr, vtable, Opd as Operand, Rv as RValue, Op2, op2, add, unsigned, rv_opd, Body, seq, assign, return}
use mir.Val.{Val, vint, vstruct, Vals, WT, has_ty, Dom, op2_chk, op2_val}
use mir.Fields.{get_v, set_v}
use base.Logic.{SProp}
use base.Fml.{Share, fat, froom, fdies}
use prog.Memory.{field_at}
use prog.Wp.{Env, Spot, Calls, Loops, spot_of, next, at_return, returns as returnsᴼ}
use types.Logic.{Logic}
use types.Kit.{Item, ‵, nth, put, sel, rewrite, Goal, Post, post, at_ret, runs, lands, prop, Step, step, ◌$◌}
use types.Run.{Reads, Walks, Opd, Opds, Rv, Writes, of_opd, bin, look, init, store, stop, fld, from, load, lit, and_then, no_more, assigns, assigns_last, land, forget, returns, returns_within}
use types.Part.{Part, whole, sub, look_in}
use Rattle.walk.proofs.Plain.{fit}
use Rattle.walk.proofs.Frees.{Held, holds, empty, held_in, order, helds, behind, cell, cells, frees_all}

module _ {M : Type 1} {𝓤 : Ura M} where
  abbrev count : List (Item 𝓤) → ℕ
  count [] = 0
  count (i ∷ Γ) = suc (count Γ)

  abbrev pub back : ℕ → List (Item 𝓤) → ℕ
  back x Γ = count Γ - suc (suc (x + x))

  -- how many entries stand in front of the cells of n locals
  abbrev pub front : ℕ → List (Item 𝓤) → ℕ
  front n Γ = count Γ - (n + n)

-- the context in which the locals y and z hold p and c
abbrev pub lent_in_lem : {M : Type 1} {𝓤 : Ura M} (𝓛 : Logic 𝓤) (y z : ℕ) (p c : Item 𝓤) → List (Item 𝓤) → List (Item 𝓤)
lent_in_lem {𝓤 = 𝓤} 𝓛 y z p c Γ = put 𝓛 (back z Γ) c (put 𝓛 (back y Γ) p Γ)

-- the context in which the local x stands as j
abbrev pub puts : {M : Type 1} {𝓤 : Ura M} (𝓛 : Logic 𝓤) (x : ℕ) (j : Item 𝓤) → List (Item 𝓤) → List (Item 𝓤)
puts {𝓤 = 𝓤} 𝓛 x j Γ = put 𝓛 (back x Γ) j Γ

-- the cells of locals, where the first hold these, as a loop's invariant says it
abbrev pub standing : {M : Type 1} {𝓤 : Ura M} → List (Ty × ℕ) → List Held → List (Item 𝓤) → List (Item 𝓤)
standing [] hs Γ = Γ
standing (e ∷ E) [] Γ = standing E [] (‵ (froom e.0 e.1 0) ∷ ‵ (fdies e.0 e.1) ∷ Γ)
standing (e ∷ E) (h ∷ hs) Γ = standing E hs (cell e.0 e.1 h ∷ ‵ (fdies e.0 e.1) ∷ Γ)

abbrev pub many : List (Ty × ℕ) → ℕ
many [] = 0
many (e ∷ E) = suc (many E)

module _ {M : Type 1} {𝓤 : Ura M} (𝓛 : Logic 𝓤) (Γ : List (Item 𝓤)) (E : Env 𝓤 𝓛.H) (x : ℕ) where
  -- the local x holds v
  open 𝓛 use {H}

  abbrev pub Holds : Val → Type 2
  Holds v = nth 𝓛 (back x Γ) Γ ≡ ‵ (fat full_share (spot_of 𝓤 H E x).0 (spot_of 𝓤 H E x).1 (spot_of 𝓤 H E x).2 v)

  -- it stands, whether it holds something or nothing
  abbrev pub Stands : Type 2
  Stands = nth 𝓛 (back x Γ) Γ ≡ cell (spot_of 𝓤 H E x).0 (spot_of 𝓤 H E x).1 (held_in (nth 𝓛 (back x Γ) Γ))

  abbrev pub Fit : Val → Type 0
  Fit v = T (has_ty (spot_of 𝓤 H E x).0 v) × WT v

  abbrev pub held : Val → List (Item 𝓤)
  held v = put 𝓛 (back x Γ) (‵ (fat full_share (spot_of 𝓤 H E x).0 (spot_of 𝓤 H E x).1 (spot_of 𝓤 H E x).2 v)) Γ

module _ {M : Type 1} {𝓤 : Ura M} (𝓛 : Logic 𝓤) (Γ : List (Item 𝓤)) (E : Env 𝓤 𝓛.H) where
  -- operands that are locals or constants have these values
  abbrev pub Vars : List Operand → List Val → Type 2
  Vars [] [] = Unit {2}
  Vars [] (v ∷ vs) = ⊥ × Unit {2}
  Vars (o ∷ xs) [] = ⊥ × Unit {2}
  Vars (copy (place x []) ∷ xs) (v ∷ vs) = Holds 𝓛 Γ E x v × Vars xs vs
  Vars (copy (place x (s ∷ st)) ∷ xs) (v ∷ vs) = ⊥ × Unit {2}
  Vars (int w n ∷ xs) (v ∷ vs) = ⊥ × Unit {2}
  Vars (int_neg w n ∷ xs) (v ∷ vs) = ⊥ × Unit {2}
  Vars (int_big w n ∷ xs) (v ∷ vs) = ⊥ × Unit {2}
  Vars (float f n ∷ xs) (v ∷ vs) = ⊥ × Unit {2}
  Vars (opd_true ∷ xs) (v ∷ vs) = ⊥ × Unit {2}
  Vars (opd_false ∷ xs) (v ∷ vs) = ⊥ × Unit {2}
  Vars (opd_unit ∷ xs) (v ∷ vs) = ⊥ × Unit {2}
  Vars (ptr_const n ∷ xs) (v ∷ vs) = ⊥ × Unit {2}
  Vars (size_of τ ∷ xs) (v ∷ vs) = ⊥ × Unit {2}
  Vars (align_of τ ∷ xs) (v ∷ vs) = ⊥ × Unit {2}
  Vars (num_of w τ ∷ xs) (v ∷ vs) = ⊥ × Unit {2}
  Vars (fn_addr f σ ∷ xs) (v ∷ vs) = ⊥ × Unit {2}
  Vars (vtable τ ss ∷ xs) (v ∷ vs) = ⊥ × Unit {2}

fit_at : {τ : Ty} {n : ℕ} → τ ≡ ty_int w64 → n < 2 ^ 64 → T (has_ty τ (vint w64 n)) × WT (vint w64 n)
fit_at {n = n} e less = subst (λ (τ : Ty). T (has_ty τ (vint w64 n)) × WT (vint w64 n)) (sym e) (tt, fit less)

module _ {M : Type 1} {𝓤 : Ura M} {𝓛 : Logic 𝓤} {K : Type 0} {Γ : List (Item 𝓤)} where
  open 𝓛 use {H}

  overwrites : K → (E : Env 𝓤 H) (x : ℕ) {v : Val} → Stands 𝓛 Γ E x → Fit 𝓛 Γ E x v → Writes K 𝓛 Γ (spot_of 𝓤 H E x).0 (spot_of 𝓤 H E x).1 0 v (held 𝓛 Γ E x v)
  overwrites t E x {v} e fits = go (held_in (nth 𝓛 (back x Γ) Γ)) e
    where
      go : (h : Held) → nth 𝓛 (back x Γ) Γ ≡ cell (spot_of 𝓤 H E x).0 (spot_of 𝓤 H E x).1 h → Writes K 𝓛 Γ (spot_of 𝓤 H E x).0 (spot_of 𝓤 H E x).1 0 v (held 𝓛 Γ E x v)
      go (holds u) is = store t (back x Γ) is fits
      go empty is = init t (back x Γ) is fits

module _ {M : Type 1} {𝓤 : Ura M} {𝓛 : Logic 𝓤} {K : Type 0} {Γ : List (Item 𝓤)} {E : Env 𝓤 𝓛.H} where
  open 𝓛 use {H}

  pub var : K → {x : ℕ} {v : Val} → Holds 𝓛 Γ E x v → Opd K 𝓛 Γ E (copy (place x [])) v
  var t {x} e = load t (from t (stop t)) (look t (back x Γ) e)

  all_vars : K → (xs : List Operand) (vs : List Val) → Vars 𝓛 Γ E xs vs → Opds K 𝓛 Γ E xs vs
  all_vars t [] [] e = no_more t
  all_vars t [] (v ∷ vs) e = absurd e.0
  all_vars t (o ∷ xs) [] e = absurd e.0
  all_vars t (copy (place x []) ∷ xs) (v ∷ vs) e = and_then t (var t e.0) (all_vars t xs vs e.1)
  all_vars t (copy (place x (s ∷ st)) ∷ xs) (v ∷ vs) e = absurd e.0
  all_vars t (int w n ∷ xs) (v ∷ vs) e = absurd e.0
  all_vars t (int_neg w n ∷ xs) (v ∷ vs) e = absurd e.0
  all_vars t (int_big w n ∷ xs) (v ∷ vs) e = absurd e.0
  all_vars t (float f n ∷ xs) (v ∷ vs) e = absurd e.0
  all_vars t (opd_true ∷ xs) (v ∷ vs) e = absurd e.0
  all_vars t (opd_false ∷ xs) (v ∷ vs) e = absurd e.0
  all_vars t (opd_unit ∷ xs) (v ∷ vs) e = absurd e.0
  all_vars t (ptr_const n ∷ xs) (v ∷ vs) e = absurd e.0
  all_vars t (size_of τ ∷ xs) (v ∷ vs) e = absurd e.0
  all_vars t (align_of τ ∷ xs) (v ∷ vs) e = absurd e.0
  all_vars t (num_of w τ ∷ xs) (v ∷ vs) e = absurd e.0
  all_vars t (fn_addr f σ ∷ xs) (v ∷ vs) e = absurd e.0
  all_vars t (vtable τ ss ∷ xs) (v ∷ vs) e = absurd e.0

  pub vars : K → {xs : List Operand} {vs : List Val} → Vars 𝓛 Γ E xs vs → Opds K 𝓛 Γ E xs vs
  vars t {xs} {vs} e = all_vars t xs vs e

  -- a field of a struct in a local
  pub field_var : K → {x k : ℕ} {ν : Sym} {τs : Tys} {b : ℕ} {us : Vals} {τ : Ty} {d : ℕ} → spot_of 𝓤 H E x ≡ (ty_struct ν τs, b, 0) → nth 𝓛 (back x Γ) Γ ≡ ‵ (fat full_share (ty_struct ν τs) b 0 (vstruct us)) → field_at zero τs k ≡ some (τ, d)
      → Opd K 𝓛 Γ E (copy (place x (field k ∷ []))) (get_v us k)
  field_var t {x} {k} {ν} {τs} {b} {us} {τ} {d} sp e at =
      load t (from t (subst (λ (s : Spot 𝓤 H). Walks K 𝓛 Γ E s (field k ∷ []) (τ, b, 0 + d)) (sym sp) (fld t at (stop t))))
      (look_in t (back x Γ) (subst (λ (i : Item 𝓤). Part K 𝓛 i full_share τ b (0 + d) (get_v us k) (λ u. ‵ (fat full_share (ty_struct ν τs) b 0 (vstruct (set_v us k u))))) (sym e) (sub t k at (whole t))))

  -- a field of a struct that is itself a field of one in a local
  pub inner_var : K → {x j k : ℕ} {ν μ : Sym} {τs σs : Tys} {b : ℕ} {us ws : Vals} {τ : Ty} {c d : ℕ} → spot_of 𝓤 H E x ≡ (ty_struct ν τs, b, 0) → nth 𝓛 (back x Γ) Γ ≡ ‵ (fat full_share (ty_struct ν τs) b 0 (vstruct us)) → field_at zero τs j ≡ some (ty_struct μ σs, c)
      → get_v us j ≡ vstruct ws → field_at zero σs k ≡ some (τ, d) → Opd K 𝓛 Γ E (copy (place x (field j ∷ field k ∷ []))) (get_v ws k)
  inner_var t {x} {j} {k} {ν} {μ} {τs} {σs} {b} {us} {ws} {τ} {c} {d} sp e at is inner =
      load t (from t (subst (λ (s : Spot 𝓤 H). Walks K 𝓛 Γ E s (field j ∷ field k ∷ []) (τ, b, 0 + c + d)) (sym sp) (fld t at (fld t inner (stop t)))))
      (look_in t (back x Γ) (subst (λ (i : Item 𝓤). Part K 𝓛 i full_share τ b (0 + c + d) (get_v ws k) (λ u. ‵ (fat full_share (ty_struct ν τs) b 0 (vstruct (set_v us j (vstruct (set_v ws k u))))))) (sym e)
      (sub t k inner (subst (λ (v : Val). Part K 𝓛 (‵ (fat full_share (ty_struct ν τs) b 0 (vstruct us))) full_share (ty_struct μ σs) b (0 + c) v (λ u. ‵ (fat full_share (ty_struct ν τs) b 0 (vstruct (set_v us j u))))) is (sub t j at (whole t))))))

  -- an assignment, whatever the local held; as the last statement of a part
  pub sets_last : K → {C : Calls 𝓤 H} {Λ : Loops 𝓤 H} {q : Post 𝓤 H} {x : ℕ} {rv : RValue} {v : Val} → Rv K 𝓛 Γ E rv v → Stands 𝓛 Γ E x → Fit 𝓛 Γ E x v → Step K 𝓛 (held 𝓛 Γ E x v) (prop (post 𝓤 H q next)) Γ (runs C Λ E (assign (place x []) rv) q)
  sets_last t {x} r e fits = assigns_last t r (from t (stop t)) (overwrites t E x e fits)

  module _ {C : Calls 𝓤 H} {Λ : Loops 𝓤 H} {q : Post 𝓤 H} where
    pub sets : K → {x : ℕ} {rv : RValue} {v : Val} {rest : Body} → Rv K 𝓛 Γ E rv v → Stands 𝓛 Γ E x → Fit 𝓛 Γ E x v → Step K 𝓛 (held 𝓛 Γ E x v) (runs C Λ E rest q) Γ (runs C Λ E (seq (assign (place x []) rv) rest) q)
    sets t {x} r e fits = assigns t r (from t (stop t)) (overwrites t E x e fits)

    -- `x = y`; `x = y ∘ z`; `x = y + k` of words
    pub copies : K → {x y : ℕ} {v : Val} {rest : Body} → Holds 𝓛 Γ E y v → Stands 𝓛 Γ E x → Fit 𝓛 Γ E x v → Step K 𝓛 (held 𝓛 Γ E x v) (runs C Λ E rest q) Γ (runs C Λ E (seq (assign (place x []) (rv_opd (copy (place y [])))) rest) q)
    copies t e at fits = sets t (of_opd t (var t e)) at fits

    pub computes : K → {o : Op2} {x y z : ℕ} {a b : Val} {rest : Body} → Holds 𝓛 Γ E y a → Holds 𝓛 Γ E z b → Dom (op2_chk o a b) → Stands 𝓛 Γ E x → Fit 𝓛 Γ E x (op2_val o a b)
        → Step K 𝓛 (held 𝓛 Γ E x (op2_val o a b)) (runs C Λ E rest q) Γ (runs C Λ E (seq (assign (place x []) (op2 o (copy (place y [])) (copy (place z [])))) rest) q)
    computes t e f dom at fits = sets t (bin t (var t e) (var t f) dom) at fits

    pub adds : K → {x y k n : ℕ} {rest : Body} → n + k < 2 ^ 64 → T (ltb k (2 ^ 64)) → Holds 𝓛 Γ E y (vint w64 n) → Stands 𝓛 Γ E x → (spot_of 𝓤 H E x).0 ≡ ty_int w64
        → Step K 𝓛 (held 𝓛 Γ E x (vint w64 (n + k))) (runs C Λ E rest q) Γ (runs C Λ E (seq (assign (place x []) (op2 (add unsigned) (copy (place y [])) (int w64 k))) rest) q)
    adds t fits small e at word = sets t (bin t (var t e) (lit t small) (fit fits)) at (fit_at word fits)

    pub adds_last : K → {x y k n : ℕ} → n + k < 2 ^ 64 → T (ltb k (2 ^ 64)) → Holds 𝓛 Γ E y (vint w64 n) → Stands 𝓛 Γ E x → (spot_of 𝓤 H E x).0 ≡ ty_int w64
        → Step K 𝓛 (held 𝓛 Γ E x (vint w64 (n + k))) (prop (post 𝓤 H q next)) Γ (runs C Λ E (assign (place x []) (op2 (add unsigned) (copy (place y [])) (int w64 k))) q)
    adds_last t fits small e at word = sets_last t (bin t (var t e) (lit t small) (fit fits)) at (fit_at word fits)

    -- a call's value goes to the local x, whatever it held
    pub lands_in : K → {x : ℕ} {v : Val} {rest : Body} → Stands 𝓛 Γ E x → Fit 𝓛 Γ E x v → Step K 𝓛 (held 𝓛 Γ E x v) (runs C Λ E rest q) Γ (lands C Λ E (place x []) v rest q)
    lands_in t {x} e fits = land t (from t (stop t)) (overwrites t E x e fits)

module _ {M : Type 1} {𝓤 : Ura M} {𝓛 : Logic 𝓤} {K : Type 0} {Γ : List (Item 𝓤)} where
  -- the cell of the local x
  open 𝓛 use {H}

  pub cell_of : K → (x : ℕ) {q : Share} {τ : Ty} {b o : ℕ} {v : Val} → nth 𝓛 (back x Γ) Γ ≡ ‵ (fat q τ b o v) → Reads K 𝓛 Γ τ b o v
  cell_of t x e = look t (back x Γ) e

  -- what the local x holds, written another way
  pub revalues : K → (x : ℕ) {X : Type 0} (F : X → Val) {τ : Ty} {b : ℕ} {n m : X} {G : Goal 𝓤 H} → m ≡ n → nth 𝓛 (back x Γ) Γ ≡ ‵ (fat full_share τ b 0 (F m)) → Step K 𝓛 (puts 𝓛 x (‵ (fat full_share τ b 0 (F n))) Γ) G Γ G
  revalues t x F {τ} {b} e at = rewrite t (back x Γ) (λ n. ‵ (fat full_share τ b 0 (F n))) e at

  -- what the local x holds, forgotten
  pub empties : K → (x : ℕ) {τ : Ty} {b o : ℕ} {v : Val} {G : Goal 𝓤 H} → nth 𝓛 (back x Γ) Γ ≡ ‵ (fat full_share τ b o v) → Step K 𝓛 (puts 𝓛 x (‵ (froom τ b o)) Γ) G Γ G
  empties t x e = forget t (back x Γ) e

module _ {M : Type 1} {𝓤 : Ura M} {𝓛 : Logic 𝓤} {K : Type 0} {Γ : List (Item 𝓤)} {E : Env 𝓤 𝓛.H} where
  open 𝓛 use {H}

  pub gives : K → {C : Calls 𝓤 H} {Λ : Loops 𝓤 H} {Kf : Val → SProp 𝓤} {r : Val} → nth 𝓛 (back 0 Γ) Γ ≡ ‵ (fat full_share (spot_of 𝓤 H E 0).0 (spot_of 𝓤 H E 0).1 0 r)
      → sel 𝓛 (order (front (many E) Γ) (many E)) Γ ≡ cells E (helds (many E) (sel 𝓛 (order (front (many E) Γ) (many E)) Γ)) (behind (many E) (sel 𝓛 (order (front (many E) Γ) (many E)) Γ))
      → Step K 𝓛 (behind (many E) (sel 𝓛 (order (front (many E) Γ) (many E)) Γ)) (prop (Kf r)) Γ (runs C Λ E return (at_ret E Kf))
  gives t e all = step (λ s. returns t (look t (back 0 Γ) e) $ frees_all t (front (many E) Γ) (many E) all $ s)

  -- the same inside a branch, a block or a loop
  pub gives_within : K → {C : Calls 𝓤 H} {Λ : Loops 𝓤 H} {q : Post 𝓤 H} (Kf : Val → SProp 𝓤) {r : Val} → post 𝓤 H q returnsᴼ ≡ at_return 𝓤 H E Kf returnsᴼ
      → nth 𝓛 (back 0 Γ) Γ ≡ ‵ (fat full_share (spot_of 𝓤 H E 0).0 (spot_of 𝓤 H E 0).1 0 r)
      → sel 𝓛 (order (front (many E) Γ) (many E)) Γ ≡ cells E (helds (many E) (sel 𝓛 (order (front (many E) Γ) (many E)) Γ)) (behind (many E) (sel 𝓛 (order (front (many E) Γ) (many E)) Γ))
      → Step K 𝓛 (behind (many E) (sel 𝓛 (order (front (many E) Γ) (many E)) Γ)) (prop (Kf r)) Γ (runs C Λ E return q)
  gives_within t Kf is e all = step (λ s. returns_within t Kf is (look t (back 0 Γ) e) $ frees_all t (front (many E) Γ) (many E) all $ s)
