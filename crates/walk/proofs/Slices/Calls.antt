-- A call as one step, where its result is of a plain type and goes to a local, whatever that held. What the contract asks and
-- tells is read off the callee's triple, which stands as it is, so that the parameters are written once.
--     Takes            the local x stands and has the result's type
--     calls-for        `At.antt`'s `calls_at`, and the result's machine value goes to the local x
--     calls_for_all    the same where the contract has several clauses, which `hears_and` makes one
--     calls-giving     the same where the contract says which the result is
--     hands_on, hands_on_all     the same where the function returns the result
--     tells, hears_and     a contract with several clauses, each a fact, as one whose one clause is all of them
-- Assumes `Logic`.
use mathlib.Core.Path.{◌≡◌, sym, ap, subst}
use Prim.Native.Nat.{ℕ}
use mathlib.Core.List.{List, [], ◌∷◌}
use seplogic.Ra.Ura.{Ura}
use base.Fraction.{full_share}
use mir.Syntax.{Callee, Ty, place, Opd as Operand, Body, seq, call, return}
use mir.Val.{Val}
use base.Logic.{SProp, ent, sep, emp, via, fst∗, snd∗, emp∗, comm∗}
use base.Fml.{fat}
use prog.Wp.{Env, Tables, spot_of, at_return, returns as returnsᴼ}
use types.Logic.{Logic, sem}
use contract.Monad.{fact, fact_i, fact_use}
use sound.WpLaws.{fm_of}
use types.Kit.{Item, ‵, nth, sel, Post, post, runs, prop, Seq, ◌$◌}
use denote.RattleType.{RattleType}
use denote.Laws.{Typed, Is}
use Rattle.walk.proofs.Plain.{PlainType, made}
use Rattle.walk.proofs.Frees.{held_in, cell, order, helds, behind, cells}
use Rattle.walk.proofs.Steps.{lands_told}
use Rattle.walk.proofs.Locals.{back, front, many, held, lands_in, gives_within}
use Rattle.walk.proofs.Slices.Loans.{Param, Choices, Lasts, Knowns, Bound, machine, bound, Requires, Ensures, Ensured, told_as, Operands}
use Rattle.walk.proofs.Slices.At.{items, holes, fills, sourced, calls_at}

-- ---- a contract with several clauses
pub hears_and : {M : Type 1} (𝓤 : Ura M) {φ ψ : Type 0} {P : SProp 𝓤} → ent 𝓤 P (fact 𝓤 ψ) → ent 𝓤 (sep 𝓤 (fact 𝓤 φ) P) (fact 𝓤 (φ × ψ))
hears_and 𝓤 {φ} {ψ} {P} h = fact_use 𝓤 φ (fst∗ 𝓤 (fact 𝓤 φ) P) (λ x. fact_use 𝓤 ψ (via 𝓤 P (snd∗ 𝓤 (fact 𝓤 φ) P) h) (λ y. fact_i 𝓤 (φ × ψ) (sep 𝓤 (fact 𝓤 φ) P) (x, y)))

module _ {M : Type 1} {𝓤 : Ura M} (𝓛 : Logic 𝓤) (𝓣 : Tables 𝓤 𝓛.H) where
  open 𝓛 use {H}

  pub tells : {f : Callee} (ps : List (Param 𝓛)) (c : Choices ps) (S : RattleType) (Pre : SProp 𝓤) {Ψ : S.Denot → Lasts ps → SProp 𝓤} {ψ : S.Denot → Lasts ps → Type 0}
      → ent 𝓤 (Requires ps c Pre) (𝓣.C f (machine ps) (Ensured ps c S Ψ)) → ((r : S.Denot) (ws : Lasts ps) → ent 𝓤 (Ψ r ws) (fact 𝓤 (ψ r ws)))
      → ent 𝓤 (Requires ps c Pre) (𝓣.C f (machine ps) (Ensures ps c S ψ))
  tells {f} ps c S Pre {Ψ} {ψ} met hears =
      let Q : SProp 𝓤 = 𝓣.C f (machine ps) (Ensured ps c S Ψ) in
      via 𝓤 Q met (via 𝓤 (sep 𝓤 Q (emp 𝓤)) (via 𝓤 (sep 𝓤 (emp 𝓤) Q) (emp∗ 𝓤 Q) (comm∗ 𝓤 (emp 𝓤) Q))
      (fm_of 𝓤 H 𝓛.laws 𝓣 f (machine ps) (Ensured ps c S Ψ) (Ensures ps c S ψ) (emp 𝓤)
      (λ w. via 𝓤 (Ensured ps c S Ψ w) (fst∗ 𝓤 (Ensured ps c S Ψ w) (emp 𝓤)) (told_as 𝓛 ps c S Ψ ψ hears w))))

-- the context once the loans are back
abbrev pub restored : {M : Type 1} {𝓤 : Ura M} (𝓛 : Logic 𝓤) (Γ : List (Item 𝓤)) (π : List ℕ) (ps : List (Param 𝓛)) → Lasts ps → List (Item 𝓤)
restored 𝓛 Γ π ps ws = fills 𝓛 ps π ws (holes 𝓛 π Γ)

abbrev pub Takes : {M : Type 1} {𝓤 : Ura M} (𝓛 : Logic 𝓤) (Γ : List (Item 𝓤)) (E : Env 𝓤 𝓛.H) (x : ℕ) → RattleType → Type 2
Takes {𝓤 = 𝓤} 𝓛 Γ E x S = ◌≡◌ {A = Item 𝓤 × List Ty} (nth 𝓛 (back x Γ) Γ, S.mir) (cell (spot_of 𝓤 𝓛.H E x).0 (spot_of 𝓤 𝓛.H E x).1 (held_in (nth 𝓛 (back x Γ) Γ)), (spot_of 𝓤 𝓛.H E x).0 ∷ [])

module _ {M : Type 1} {𝓤 : Ura M} {𝓛 : Logic 𝓤} {K : Type 0} {Γ : List (Item 𝓤)} {E : Env 𝓤 𝓛.H} {f : Callee} {xs : List Operand} {q : Post 𝓤 𝓛.H} {x : ℕ} {rest : Body} (t : K) (𝓣 : Tables 𝓤 𝓛.H) (π : List ℕ) (ps : List (Param 𝓛)) {S : RattleType} (s : PlainType S) where
  open 𝓛 use {H}

  pub calls_for : {ψ : S.Denot → Lasts ps → Type 0} {Pre : SProp 𝓤} {P : (c : Choices ps) → Bound ps c → Type 1} → ((c : Choices ps) (y : Bound ps c) → P c y)
      → ((c : Choices ps) → P c (bound 𝓛 ps c) → ent 𝓤 (Requires ps c Pre) (𝓣.C f (machine ps) (Ensures ps c S ψ))) → ent 𝓤 (emp 𝓤) Pre
      → items 𝓛 π Γ ≡ sourced 𝓛 ps → Operands K 𝓛 (holes 𝓛 π Γ) E xs ps Pre → ((ws : Lasts ps) → Takes 𝓛 (restored 𝓛 Γ π ps ws) E x S)
      → ((r : S.Denot) (ws : Lasts ps) → ψ r ws → Knowns ps ws → Is S r (s.val r ∷ []) → Seq K 𝓛 (held 𝓛 (restored 𝓛 Γ π ps ws) E x (s.val r)) (runs 𝓣.C 𝓣.Λ E rest q))
      → Seq K 𝓛 Γ (runs 𝓣.C 𝓣.Λ E (seq (call f xs (place x [])) rest) q)
  calls_for {ψ} {Pre} known met pre e ops at k =
      calls_at t (fm_of 𝓤 H 𝓛.laws 𝓣) π ps Pre pre S ψ (λ c. met c (known c (bound 𝓛 ps c))) e ops (λ w r ws told kept. lands_told t S s.val s.tells w r (λ is.
      lands_in t (ap (λ p. p.0) (at ws)) (subst (λ (τs : List Ty). Typed τs (s.val r ∷ [])) (ap (λ p. p.1) (at ws)) ((s.lawful 𝓛).typed r (s.val r ∷ []) is)).0 $ k r ws told kept is))

  -- where the callee's contract has several clauses
  pub calls_for_all : {Ψ : S.Denot → Lasts ps → SProp 𝓤} {Pre : SProp 𝓤} {P : (c : Choices ps) → Bound ps c → Type 1} → ((c : Choices ps) (y : Bound ps c) → P c y)
      → ((c : Choices ps) → P c (bound 𝓛 ps c) → ent 𝓤 (Requires ps c Pre) (𝓣.C f (machine ps) (Ensured ps c S Ψ)))
      → {ψ : S.Denot → Lasts ps → Type 0} → ((r : S.Denot) (ws : Lasts ps) → ent 𝓤 (Ψ r ws) (fact 𝓤 (ψ r ws))) → ent 𝓤 (emp 𝓤) Pre
      → items 𝓛 π Γ ≡ sourced 𝓛 ps → Operands K 𝓛 (holes 𝓛 π Γ) E xs ps Pre → ((ws : Lasts ps) → Takes 𝓛 (restored 𝓛 Γ π ps ws) E x S)
      → ((r : S.Denot) (ws : Lasts ps) → ψ r ws → Knowns ps ws → Is S r (s.val r ∷ []) → Seq K 𝓛 (held 𝓛 (restored 𝓛 Γ π ps ws) E x (s.val r)) (runs 𝓣.C 𝓣.Λ E rest q))
      → Seq K 𝓛 Γ (runs 𝓣.C 𝓣.Λ E (seq (call f xs (place x [])) rest) q)
  calls_for_all {Ψ} {Pre} {P} known met {ψ} hears pre e ops at k = calls_for {ψ = ψ} {Pre = Pre} {P = P} known (λ c h. tells 𝓛 𝓣 ps c S Pre {Ψ = Ψ} {ψ = ψ} (met c h) hears) pre e ops at k

  pub calls_giving : (m : S.Denot) {Pre : SProp 𝓤} {P : (c : Choices ps) → Bound ps c → Type 1} → ((c : Choices ps) (y : Bound ps c) → P c y)
      → ((c : Choices ps) → P c (bound 𝓛 ps c) → ent 𝓤 (Requires ps c Pre) (𝓣.C f (machine ps) (Ensures ps c S (λ r ws. r ≡ m)))) → ent 𝓤 (emp 𝓤) Pre
      → items 𝓛 π Γ ≡ sourced 𝓛 ps → Operands K 𝓛 (holes 𝓛 π Γ) E xs ps Pre → ((ws : Lasts ps) → Takes 𝓛 (restored 𝓛 Γ π ps ws) E x S)
      → ((ws : Lasts ps) → Is S m (s.val m ∷ []) → Seq K 𝓛 (held 𝓛 (restored 𝓛 Γ π ps ws) E x (s.val m)) (runs 𝓣.C 𝓣.Λ E rest q))
      → Seq K 𝓛 Γ (runs 𝓣.C 𝓣.Λ E (seq (call f xs (place x [])) rest) q)
  calls_giving m known met pre e ops at k =
      calls_for {ψ = λ r ws. r ≡ m} known met pre e ops at (λ r ws told kept.
      subst (λ (r : S.Denot). Is S r (s.val r ∷ []) → Seq K 𝓛 (held 𝓛 (restored 𝓛 Γ π ps ws) E x (s.val r)) (runs 𝓣.C 𝓣.Λ E rest q)) (sym told) (k ws))

-- the result stands in the first local, and the locals can be freed; what is left behind them
module _ {M : Type 1} {𝓤 : Ura M} (𝓛 : Logic 𝓤) (E : Env 𝓤 𝓛.H) (Γ : List (Item 𝓤)) where
  open 𝓛 use {H}

  abbrev freed : List (Item 𝓤)
  freed = sel 𝓛 (order (front (many E) Γ) (many E)) Γ

  abbrev pub Returns : Val → Type 2
  Returns w = (nth 𝓛 (back 0 Γ) Γ ≡ ‵ (fat full_share (spot_of 𝓤 H E 0).0 (spot_of 𝓤 H E 0).1 0 w)) × (freed ≡ cells E (helds (many E) freed) (behind (many E) freed))

  abbrev pub remains : List (Item 𝓤)
  remains = behind (many E) freed

module _ {M : Type 1} {𝓤 : Ura M} {𝓛 : Logic 𝓤} {K : Type 0} {Γ : List (Item 𝓤)} {E : Env 𝓤 𝓛.H} {f : Callee} {xs : List Operand} {q : Post 𝓤 𝓛.H} (t : K) (𝓣 : Tables 𝓤 𝓛.H) (π : List ℕ) (ps : List (Param 𝓛)) {S : RattleType} (s : PlainType S) where
  open 𝓛 use {H}

  pub hands_on : {ψ : S.Denot → Lasts ps → Type 0} {Pre : SProp 𝓤} {P : (c : Choices ps) → Bound ps c → Type 1} → ((c : Choices ps) (y : Bound ps c) → P c y)
      → ((c : Choices ps) → P c (bound 𝓛 ps c) → ent 𝓤 (Requires ps c Pre) (𝓣.C f (machine ps) (Ensures ps c S ψ))) → ent 𝓤 (emp 𝓤) Pre
      → items 𝓛 π Γ ≡ sourced 𝓛 ps → Operands K 𝓛 (holes 𝓛 π Γ) E xs ps Pre → ((ws : Lasts ps) → Takes 𝓛 (restored 𝓛 Γ π ps ws) E 0 S)
      → (Q : Val → SProp 𝓤) → post 𝓤 H q returnsᴼ ≡ at_return 𝓤 H E Q returnsᴼ
      → ((r : S.Denot) (ws : Lasts ps) → Returns 𝓛 E (held 𝓛 (restored 𝓛 Γ π ps ws) E 0 (s.val r)) (s.val r))
      → ((r : S.Denot) (ws : Lasts ps) → ψ r ws → Knowns ps ws → ent 𝓤 (emp 𝓤) (sem 𝓛 (S.own_val r (s.val r ∷ []))) → Seq K 𝓛 (remains 𝓛 E (held 𝓛 (restored 𝓛 Γ π ps ws) E 0 (s.val r))) (prop (Q (s.val r))))
      → Seq K 𝓛 Γ (runs 𝓣.C 𝓣.Λ E (seq (call f xs (place 0 [])) return) q)
  hands_on known met pre e ops at Q is all k =
      calls_for t 𝓣 π ps s known met pre e ops at (λ r ws told kept r-is. gives_within t Q is (all r ws).0 (all r ws).1 $ k r ws told kept (made 𝓛 s r r-is))

  -- where the callee's contract has several clauses
  pub hands_on_all : {Ψ : S.Denot → Lasts ps → SProp 𝓤} {Pre : SProp 𝓤} {P : (c : Choices ps) → Bound ps c → Type 1} → ((c : Choices ps) (y : Bound ps c) → P c y)
      → ((c : Choices ps) → P c (bound 𝓛 ps c) → ent 𝓤 (Requires ps c Pre) (𝓣.C f (machine ps) (Ensured ps c S Ψ)))
      → {ψ : S.Denot → Lasts ps → Type 0} → ((r : S.Denot) (ws : Lasts ps) → ent 𝓤 (Ψ r ws) (fact 𝓤 (ψ r ws))) → ent 𝓤 (emp 𝓤) Pre
      → items 𝓛 π Γ ≡ sourced 𝓛 ps → Operands K 𝓛 (holes 𝓛 π Γ) E xs ps Pre → ((ws : Lasts ps) → Takes 𝓛 (restored 𝓛 Γ π ps ws) E 0 S)
      → (Q : Val → SProp 𝓤) → post 𝓤 H q returnsᴼ ≡ at_return 𝓤 H E Q returnsᴼ
      → ((r : S.Denot) (ws : Lasts ps) → Returns 𝓛 E (held 𝓛 (restored 𝓛 Γ π ps ws) E 0 (s.val r)) (s.val r))
      → ((r : S.Denot) (ws : Lasts ps) → ψ r ws → Knowns ps ws → ent 𝓤 (emp 𝓤) (sem 𝓛 (S.own_val r (s.val r ∷ []))) → Seq K 𝓛 (remains 𝓛 E (held 𝓛 (restored 𝓛 Γ π ps ws) E 0 (s.val r))) (prop (Q (s.val r))))
      → Seq K 𝓛 Γ (runs 𝓣.C 𝓣.Λ E (seq (call f xs (place 0 [])) return) q)
  hands_on_all {Ψ} {Pre} {P} known met {ψ} hears pre e ops at Q is all k =
      hands_on {ψ = ψ} {Pre = Pre} {P = P} known (λ c h. tells 𝓛 𝓣 ps c S Pre {Ψ = Ψ} {ψ = ψ} (met c h) hears) pre e ops at Q is all k
