-- References to one value that a function is lent, lent again for a call (`Slices/Loans.antt`).
--     relent-one       a `&mut T`, lent as a `&mut T`
--     shared-one       a `&mut T`, lent as a `&T`
--     passed-one       a `&T`, of which a copy is passed on, at its own lifetime
--     mut-one, shr_one, passed-on-one      the parameters of a call that are these, of a reference of the function's
--     relends-one      `y = &*x`: the reference in the local x is lent again
-- Assumes `Logic`.
use Prim.Native.Nat.{ℕ}
use mathlib.Core.Path.{◌≡◌, refl, ap}
use mathlib.Core.List.{List, [], ◌∷◌}
use seplogic.Ra.Ura.{Ura}
use base.Fraction.{full_share}
use mir.Syntax.{Ty, Lifetime, Mutability, named, ty_ref, deref, place, Body, seq, assign, addr_of}
use mir.Val.{Val, vptr}
use base.Logic.{ent, sep, ex, emp}
use base.Fml.{Lft, GName, Share, Fml, Incl-refl, ftrue, fsep, flft, fobs, fauth, fres, fbor, flent, fobor, froom}
use prog.Wp.{Env, Spot, Calls, Loops, spot_of}
use types.Logic.{Logic, sem}
use contract.Monad.{fact, fact_i}
use contract.BorrowLft.{⊑_static}
use types.Kit.{Item, ‵, raw, ◌⊛◌, some, later, nth, Post, runs, Step, step, ◌$◌, ◌∵◌, !, qed, move, use0, use1, use2, use3, drop, split, pick, fsplit, fsplit3, fjoin, fjoin3, feq_l, feq_i, frame, await, updating, now as at_once, show, done}
use types.Run.{init, stop, hop, look, addr, assigns}
use types.Tokens.{lft_new, lft_end, lent_back}
use types.SemTy.{Body as Tracked}
use types.Mut.{open_ref, close_ref}
use denote.RattleType.{RattleType, RowLaws}
use denote.Ref.{Bor, MutBor, MutRef, ShrRef, shr_copy}
use denote.Memory.{part_at, mem}
use denote.Lend.{LentAgain, lends_again, comes_back, lends_shr}
use Rattle.walk.proofs.Locals.{back, puts}
use Rattle.walk.proofs.Slices.Again.{pointer_cell, finds}
use Rattle.walk.proofs.Slices.Lent.{ShownFree}
use Rattle.walk.proofs.Slices.Loans.{Loan, Param, loan}
use Rattle.walk.proofs.Enter.{One}

module _ {M : Type 1} {𝓤 : Ura M} (𝓛 : Logic 𝓤) (R : RattleType) (κ₀ : Lft) (p : Share) (γ : GName) (b o : ℕ) (x : R.Denot) where
  open 𝓛 use {H, A}

  abbrev at_value : GName → R.Denot → MutBor R.Denot
  at_value δ z = record { ref_ptr = (b, o); ghost_name = δ; now = z }

  abbrev own_one : Lifetime → Lft → GName → R.Denot → Fml
  own_one ℓ κ δ z = (MutRef ℓ κ R).own_val (at_value δ z) (vptr b o ∷ [])

  abbrev shown_value : Bor R.Denot
  shown_value = record { ref_ptr = (b, o); now = x }

  abbrev see_one : Lifetime → Lft → Fml
  see_one ℓ κ = (ShrRef ℓ κ R).own_val shown_value (vptr b o ∷ [])

  -- what the function has of its own reference: that, and its token
  abbrev Owned : R.Denot → Fml
  Owned z = fsep (own_one (named 0) κ₀ γ z) (flft κ₀ p)

  abbrev Seen : Fml
  Seen = fsep (see_one (named 0) κ₀) (flft κ₀ p)

  -- what the lender has while a new reference stands, for a new lifetime and under a new name: the token, the reference, the rest
  abbrev Lends : (Lft → GName → Fml) → (Lft → GName → Fml) → ℕ × GName → Fml
  Lends made kept c = fsep (flft (c.0 ∷ []) full_share) (fsep (made (c.0 ∷ []) c.1) (kept (c.0 ∷ []) c.1))

  pub lends_as : (made kept : Lft → GName → Fml)
      → ((κ : Lft) → ent 𝓤 (sep 𝓤 (sem 𝓛 (own_one (named 0) κ₀ γ x)) (A.lft κ₀ p)) (H.⇛ (ex 𝓤 (λ (δ : GName). sep 𝓤 (sem 𝓛 (made κ δ)) (sem 𝓛 (kept κ δ))))))
      → ent 𝓤 (sem 𝓛 (Owned x)) (H.⇛ (ex 𝓤 (λ (c : ℕ × GName). sem 𝓛 (Lends made kept c))))
  lends_as made kept lending =
      qed 𝓛 (‵ (Owned x) ∷ []) ∵ updating ! $ fsplit ! $ lft_new ! tt (λ ν. move ! (1 ∷ 2 ∷ []) $
      use2 𝓛 (later (some (λ (δ : GName). ‵ (made (ν ∷ []) δ) ⊛ ‵ (kept (ν ∷ []) δ)))) (lending (ν ∷ [])) $ await ! tt $ pick ! (λ δ. split ! $ fjoin ! $ move ! (1 ∷ 0 ∷ []) $ fjoin ! $
      at_once ! $ show ! (λ (c : ℕ × GName). sem 𝓛 (Lends made kept c)) (ν, δ) $ done !))

  -- ---- as a `&mut T`
  abbrev Again : Lft → GName → Fml
  Again κ δ = LentAgain R κ₀ κ p γ b o δ x

  abbrev Last_one : ℕ × GName → R.Denot → Fml
  Last_one c z = fsep (fres c.1 (R.coded.code z)) (fbor (c.0 ∷ []) (Tracked (mem R) b o c.1))

  pub relent_returns : (c : ℕ × GName) (z : R.Denot) → ent 𝓤 (sem 𝓛 (fsep (flft (c.0 ∷ []) full_share) (fsep (Again (c.0 ∷ []) c.1) (Last_one c z))))
      (H.⇛ (sep 𝓤 (sem 𝓛 (Owned z)) (fact 𝓤 (Unit {0}))))
  relent_returns c z =
      qed 𝓛 (‵ (fsep (flft (c.0 ∷ []) full_share) (fsep (Again (c.0 ∷ []) c.1) (Last_one c z))) ∷ []) ∵ updating ! $ fsplit ! $ lft_end ! tt $ move ! (1 ∷ []) $ fsplit ! $ move ! (1 ∷ []) $ fsplit ! $
      move ! (1 ∷ []) $ drop ! $ move ! (2 ∷ 1 ∷ 0 ∷ []) $
      use3 𝓛 (later (‵ (own_one (named 0) κ₀ γ z) ⊛ ‵ (flft κ₀ p))) (comes_back 𝓛 R (named 0) κ₀ (c.0 ∷ []) p γ b o c.1 x z) $ await ! tt $ split ! $ fjoin ! $
      at_once ! $ frame ! $ use0 𝓛 (raw (fact 𝓤 (Unit {0}))) (fact_i 𝓤 (Unit {0}) (emp 𝓤) tt) $ done !

  abbrev pub relent_one : Loan 𝓛
  relent_one = record {
    type = λ ℓ κ. MutRef ℓ κ R;
    Choice = ℕ × GName;
    lifetime = λ c. c.0 ∷ [];
    share = λ c. full_share;
    arg = λ ℓ c. at_value c.1 x;
    vals = vptr b o ∷ [];
    Last = R.Denot;
    left = Last_one;
    Known = λ z. Unit {0};
    source = Owned x;
    kept = λ c. Again (c.0 ∷ []) c.1;
    back = Owned;
    lends = λ ℓ. lends_as (λ κ δ. own_one ℓ κ δ x) Again (λ κ. lends_again 𝓛 R (named 0) κ₀ κ p γ b o ℓ x);
    returns = relent_returns;
  }

  -- ---- as a `&T`: what is left meanwhile is the borrow, open, with both halves of its ghost variable
  abbrev Shared : ℕ → Fml
  Shared ν = fsep (flent (ν ∷ []) (part_at R full_share x b o)) (fsep (fobor κ₀ p (Tracked (mem R) b o γ)) (fsep (fobs γ (R.coded.code x)) (fauth γ (R.coded.code x))))

  abbrev Shows : Lifetime → ℕ → Fml
  Shows ℓ ν = fsep (flft (ν ∷ []) full_share) (fsep (see_one ℓ (ν ∷ [])) (Shared ν))

  pub shared_lends : ShownFree 𝓛 R → (ℓ : Lifetime) → ent 𝓤 (sem 𝓛 (Owned x)) (H.⇛ (ex 𝓤 (λ (ν : ℕ). sem 𝓛 (Shows ℓ ν))))
  shared_lends sh ℓ =
      qed 𝓛 (‵ (Owned x) ∷ []) ∵ updating ! $ fsplit ! $ fsplit3 ! $ feq_l ! (λ _. open_ref ! tt (mem R) $ lft_new ! tt (λ ν. move ! (1 ∷ 0 ∷ []) $
      -- [the value; the token; the open borrow; both halves]
      use2 𝓛 (later ((‵ (see_one ℓ (ν ∷ [])) ⊛ ‵ (flent (ν ∷ []) (part_at R full_share x b o))) ⊛ ‵ (flft (ν ∷ []) full_share)))
      (lends_shr 𝓛 R ℓ (ν ∷ []) full_share x b o [] (sh x) ((ν ∷ [], full_share) ∷ []) (⊑_static (ν ∷ [])) (Incl-refl (ν ∷ []))) $ await ! tt $ split ! $ split ! $
      move ! (4 ∷ 5 ∷ []) $ fjoin ! $ move ! (4 ∷ 0 ∷ []) $ fjoin ! $ move ! (2 ∷ 0 ∷ []) $ fjoin ! $ move ! (1 ∷ 0 ∷ []) $ fjoin ! $ move ! (1 ∷ 0 ∷ []) $ fjoin ! $
      at_once ! $ show ! (λ (ν : ℕ). sem 𝓛 (Shows ℓ ν)) ν $ done !))

  pub shared_returns : (ν : ℕ) → ent 𝓤 (sem 𝓛 (fsep (flft (ν ∷ []) full_share) (fsep (Shared ν) ftrue))) (H.⇛ (sep 𝓤 (sem 𝓛 (Owned x)) (fact 𝓤 (Unit {0}))))
  shared_returns ν =
      qed 𝓛 (‵ (fsep (flft (ν ∷ []) full_share) (fsep (Shared ν) ftrue)) ∷ []) ∵ updating ! $ fsplit ! $ lft_end ! tt $ move ! (1 ∷ []) $ fsplit ! $ fsplit ! $ move ! (3 ∷ 0 ∷ []) $ lent_back ! tt $ move ! (1 ∷ []) $ fsplit3 ! $
      -- [the open borrow; both halves; the value; nothing]
      move ! (3 ∷ 0 ∷ 1 ∷ 2 ∷ []) $ close_ref ! tt (mem R) x $ at_once ! $ feq_i ! (List Val) (vptr b o ∷ []) (vptr b o ∷ []) refl $ fjoin3 ! $ fjoin ! $ frame ! $
      drop ! $ use0 𝓛 (raw (fact 𝓤 (Unit {0}))) (fact_i 𝓤 (Unit {0}) (emp 𝓤) tt) $ done !

  abbrev pub shared_one : ShownFree 𝓛 R → Loan 𝓛
  shared_one sh = record {
    type = λ ℓ κ. ShrRef ℓ κ R;
    Choice = ℕ;
    lifetime = λ ν. ν ∷ [];
    share = λ ν. full_share;
    arg = λ ℓ ν. shown_value;
    vals = vptr b o ∷ [];
    Last = Unit {0};
    left = λ ν z. ftrue;
    Known = λ z. Unit {0};
    source = Owned x;
    kept = Shared;
    back = λ z. Owned x;
    lends = shared_lends sh;
    returns = λ ν z. shared_returns ν;
  }

  -- ---- a `&T` passed on
  abbrev Passes : Lifetime → Fml
  Passes ℓ = fsep (flft κ₀ p) (fsep (see_one ℓ κ₀) (see_one (named 0) κ₀))

  pub passed_shows : RowLaws R → (ℓ : Lifetime) → ent 𝓤 (sem 𝓛 Seen) (H.⇛ (ex 𝓤 (λ (c : Unit {0}). sem 𝓛 (Passes ℓ))))
  passed_shows lw ℓ =
      qed 𝓛 (‵ Seen ∷ []) ∵ updating ! $ fsplit ! $ use1 𝓛 (‵ (see_one ℓ κ₀) ⊛ ‵ (see_one (named 0) κ₀)) ((shr_copy 𝓛 (named 0) κ₀ R lw).twice shown_value (vptr b o ∷ [])) $ split ! $ fjoin ! $ move ! (1 ∷ 0 ∷ []) $ fjoin ! $
      at_once ! $ show ! (λ (c : Unit {0}). sem 𝓛 (Passes ℓ)) tt $ done !

  pub passed_returns : ent 𝓤 (sem 𝓛 (fsep (flft κ₀ p) (fsep (see_one (named 0) κ₀) ftrue))) (H.⇛ (sep 𝓤 (sem 𝓛 Seen) (fact 𝓤 (Unit {0}))))
  passed_returns =
      qed 𝓛 (‵ (fsep (flft κ₀ p) (fsep (see_one (named 0) κ₀) ftrue)) ∷ []) ∵ updating ! $ fsplit ! $ move ! (1 ∷ []) $ fsplit ! $ move ! (0 ∷ 2 ∷ []) $ fjoin ! $
      at_once ! $ frame ! $ drop ! $ use0 𝓛 (raw (fact 𝓤 (Unit {0}))) (fact_i 𝓤 (Unit {0}) (emp 𝓤) tt) $ done !

  abbrev pub passed_one : RowLaws R → Loan 𝓛
  passed_one lw = record {
    type = λ ℓ κ. ShrRef ℓ κ R;
    Choice = Unit {0};
    lifetime = λ c. κ₀;
    share = λ c. p;
    arg = λ ℓ c. shown_value;
    vals = vptr b o ∷ [];
    Last = Unit {0};
    left = λ c z. ftrue;
    Known = λ z. Unit {0};
    source = Seen;
    kept = λ c. see_one (named 0) κ₀;
    back = λ z. Seen;
    lends = passed_shows lw;
    returns = λ c z. passed_returns;
  }

-- ---- the function's own references
module _ {M : Type 1} {𝓤 : Ura M} (𝓛 : Logic 𝓤) {R : RattleType} {κ : Lft} {q : Share} (s : One R κ q) where
  abbrev pub mut_one : Param 𝓛
  mut_one = loan (relent_one 𝓛 R κ q s.ghost s.block s.offset s.held)

  abbrev pub shr_one : ShownFree 𝓛 R → Param 𝓛
  shr_one sh = loan (shared_one 𝓛 R κ q s.ghost s.block s.offset s.held sh)

  abbrev pub passed_on_one : RowLaws R → Param 𝓛
  passed_on_one lw = loan (passed_one 𝓛 R κ q s.ghost s.block s.offset s.held lw)

-- ---- `y = &*x`
module _ {M : Type 1} {𝓤 : Ura M} {𝓛 : Logic 𝓤} {K : Type 0} {Γ : List (Item 𝓤)} {E : Env 𝓤 𝓛.H} {C : Calls 𝓤 𝓛.H} {Λ : Loops 𝓤 𝓛.H} {q : Post 𝓤 𝓛.H} {rest : Body} {x y : ℕ} {ℓ ℓ' : Lifetime} {m m' : Mutability} {T D : Ty} {bx by : ℕ} where
  open 𝓛 use {H}

  pub relends_one : K → {R : RattleType} {κ : Lft} {p : Share} (s : One R κ p)
      → ◌≡◌ {A = Spot 𝓤 H × Spot 𝓤 H × Item 𝓤 × Item 𝓤} (spot_of 𝓤 H E x, spot_of 𝓤 H E y, nth 𝓛 (back x Γ) Γ, nth 𝓛 (back y Γ) Γ)
      ((ty_ref ℓ m T, bx, 0), (ty_ref ℓ' m' T, by, 0), pointer_cell 𝓤 ℓ m T bx s.block s.offset, ‵ (froom (ty_ref ℓ' m' T) by 0))
      → Step K 𝓛 (puts 𝓛 y (pointer_cell 𝓤 ℓ' m' T by s.block s.offset) Γ) (runs C Λ E rest q) Γ (runs C Λ E (seq (assign (place y []) (addr_of (place x (deref D ∷ [])))) rest) q)
  relends_one t s e =
      step (λ k. assigns t (addr t (finds t (ap (λ p. p.0) e) (hop t (look t (back x Γ) (ap (λ p. p.2) e)) (stop t)))) (finds t (ap (λ p. p.1) e) (stop t)) (init t (back y Γ) (ap (λ p. p.3) e) (tt, tt)) $ k)
