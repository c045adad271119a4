-- A session fed part by part: each call of `feed` gets some of the input from where the one before stopped, however it is cut.
-- Assumes nothing.
use Rattle.std.specs.Prelude.{ℕ, ◌+◌, false, List, [], ◌++◌, ◌≡◌, length, take, drop}
use Rattle.spec.specs.Tables.{zero_setup, open_head}
use Rattle.session.specs.declared.types.Session.{Session}
use Rattle.session.specs.declared.types.Fed.{Fed}
use Rattle.session.specs.Standing.{Reserved}
use Rattle.session.specs.Feeding.{FedBy}

-- where a session begins
abbrev pub session_start : Session
session_start = record { head = open_head zero_setup; records = 0; skip = false }

-- what the caller of `feed` has: where the session stands, and the tables that it lends
pub record SessionTables : Type 0 where
  pub session : Session
  pub tables : Reserved

-- a call of `feed` that meets its contract, on this part of the input, with any start slots and output
pub record Made (part : List ℕ) (before : SessionTables) (r : Fed) (out : List ℕ) (after : SessionTables) : Type 0 where
  pub session_kept : after.session ≡ r.session
  pub starts : List ℕ
  pub out₀ : List ℕ
  pub fed :
      FedBy before.session part before.tables starts out₀ r after.tables out

-- calls of `feed` on an input, from what the caller had first, by which so much of it is used and these answers are written
pub data Through (first : SessionTables) (input : List ℕ) : ℕ → List ℕ → SessionTables → Type 0 where
  begins : first.session ≡ session_start → Through first input 0 [] first
  goes : {used : ℕ} {answers : List ℕ} {before after : SessionTables} (part : List ℕ) (r : Fed) (out : List ℕ)
      → Through first input used answers before → part ≡ take (length part) (drop used input) → Made part before r out after
      → Through first input (used + r.used) (answers ++ take r.put out) after
