-- A function's theorem, from the walk of its body (`Enter.antt`).
--     Shape            a function as its walk takes it: its parameters, result, clauses, code, and the functions that it calls
--     Walk             what its walk shows, at any tables: from a triple of each callee, `Enter.antt`'s `Body`
--     Cites            for each callee, the routine that its name means and the routine's triple
--     proves           the function's entry meets its contract
--     proved           the same, where shape and walk are given as they stand for any model
-- Assumes nothing.
use mathlib.Core.Path.{◌≡◌}
use mathlib.Core.List.{List, [], ◌∷◌}
use seplogic.Ra.Ura.{Ura}
use mir.Syntax.{Fn}
use prog.Wp.{Heap, Calls, Tables, Closed}
use prog.Model.{Model}
use prog.Memory.{Memory}
use prog.Routine.{Callee, Routine, Env}
use base.Logic.{SProp}
use types.Logic.{Logic}
use contract.Monad.{Fun}
use contract.Running.{Running, tables, tables_of}
use denote.RattleType.{RattleType}
use denote.Triple.Statement.{Contract, Triple}
use denote.Triple.Spec.{triple_of}
use denote.Triple.Clauses.{Clauses, closing}
use denote.Triple.Table.{entered, cited}
use Rattle.walk.proofs.Enter.{ParamKind, ended_of, signature_of, Lies, Body, meets_of}

pub record Shape {M : Type 1} {𝓤 : Ura M} (𝓛 : Logic 𝓤) : Type 3 where
  pub params : List (ParamKind 𝓛)
  pub result : RattleType
  pub clauses : Clauses 𝓤 (ended_of params result)
  pub code : Fn
  pub lies : Lies {𝓛 = 𝓛} params result clauses code
  pub callees : List (Callee × Contract 𝓤)

module _ {M : Type 1} (𝓤 : Ura M) (H : Heap 𝓤) where
  -- from a triple of each callee
  abbrev pub Knows : Calls 𝓤 H → List (Callee × Contract 𝓤) → Type 2 → Type 2
  Knows C [] P = P
  Knows C (k ∷ cs) P = Triple 𝓤 (C k.0) k.1 → Knows C cs P

  module _ (𝓜 : Model 𝓤 H) (𝓡 : Running 𝓤 H 𝓜) (γ : Env) where
    abbrev pub Cites : List (Callee × Contract 𝓤) → Type 1
    Cites [] = Unit {1}
    Cites (k ∷ cs) = ((r : Routine) × (γ k.0 ≡ r) × Triple 𝓤 (𝓡.run r) k.1) × Cites cs

    cite_all : (cs : List (Callee × Contract 𝓤)) (P : Type 2) → Cites cs → Knows (tables 𝓤 H 𝓜 𝓡 γ).C cs P → P
    cite_all [] P t k = k
    cite_all (c ∷ cs) P t k = cite_all cs P t.1 (k (cited 𝓤 H c.1 𝓜 𝓡 γ c.0 t.0.0 t.0.1 t.0.2))

module _ {M : Type 1} {𝓤 : Ura M} {𝓛 : Logic 𝓤} (s : Shape 𝓛) where
  open 𝓛 use {H}

  abbrev pub Walk : Tables 𝓤 H → Type 2
  Walk 𝓣 = Knows 𝓤 H 𝓣.C s.callees (Body {𝓛 = 𝓛} s.params s.result s.clauses 𝓣.C 𝓣.Λ s.code)

module _ {M : Type 1} {𝓤 : Ura M} (𝓛 : Logic 𝓤) (𝓜 : Model 𝓤 𝓛.H) (𝓡 : Running 𝓤 𝓛.H 𝓜) (s : Shape 𝓛) where
  open 𝓛 use {H}

  pub proves : (γ : Env) (k : Callee) → Closed 𝓤 H (tables 𝓤 H 𝓜 𝓡 γ).C (tables 𝓤 H 𝓜 𝓡 γ).Λ k s.code → ((𝓣 : Tables 𝓤 H) → Walk s 𝓣) → Cites 𝓤 H 𝓜 𝓡 γ s.callees
      → Triple 𝓤 ((tables 𝓤 H 𝓜 𝓡 γ).C k) (triple_of 𝓛 (signature_of s.params s.result) (closing 𝓛 (ended_of s.params s.result) s.clauses))
  unfolding tables_of
  proves γ k closed walk cites =
      entered 𝓤 H (triple_of 𝓛 (signature_of s.params s.result) (closing 𝓛 (ended_of s.params s.result) s.clauses))
      (tables 𝓤 H 𝓜 𝓡 γ).C (tables 𝓤 H 𝓜 𝓡 γ).Λ k s.code closed
      (meets_of {𝓛 = 𝓛} s.params s.result s.clauses (tables_of 𝓤 H 𝓜 (tables 𝓤 H 𝓜 𝓡 γ)) s.code s.lies
      (cite_all 𝓤 H 𝓜 𝓡 γ s.callees (Body {𝓛 = 𝓛} s.params s.result s.clauses (tables 𝓤 H 𝓜 𝓡 γ).C (tables 𝓤 H 𝓜 𝓡 γ).Λ s.code) cites (walk (tables_of 𝓤 H 𝓜 (tables 𝓤 H 𝓜 𝓡 γ)))))

module _ {M : Type 1} {𝓤 : Ura M} (𝓛 : Logic 𝓤) (𝓜 : Model 𝓤 𝓛.H) (𝓡 : Running 𝓤 𝓛.H 𝓜) (s : (Memory → SProp 𝓤) → (Routine → Fun 𝓤) → Shape 𝓛) where
  open 𝓛 use {H}

  abbrev the_shape : Shape 𝓛
  the_shape = s 𝓜.mem 𝓡.returns

  pub proved : ((mem : Memory → SProp 𝓤) (run : Routine → Fun 𝓤) (𝓣 : Tables 𝓤 H) → Walk (s mem run) 𝓣) → (γ : Env) (k : Callee)
      → Closed 𝓤 H (tables 𝓤 H 𝓜 𝓡 γ).C (tables 𝓤 H 𝓜 𝓡 γ).Λ k the_shape.code → Cites 𝓤 H 𝓜 𝓡 γ the_shape.callees
      → Triple 𝓤 ((tables 𝓤 H 𝓜 𝓡 γ).C k) (triple_of 𝓛 (signature_of the_shape.params the_shape.result) (closing 𝓛 (ended_of the_shape.params the_shape.result) the_shape.clauses))
  proved walk γ k closed cites = proves 𝓛 𝓜 𝓡 the_shape γ k closed (walk 𝓜.mem 𝓡.returns) cites
