-- What open sets, and its bounds: document 01, "Tables and bounds" and "Refusals, first match wins", and document 02, 2.2. Assumes
-- nothing.
use Rattle.std.specs.Prelude.{ℕ, Bool, not, cond, List, [], ◌∷◌, eqb}
use Rattle.spec.specs.declared.types.Setup.{Setup}
use Rattle.spec.specs.Every.{is_within}
use Rattle.spec.specs.Tables.{most_clients, most_period, most_per_hour}
use Rattle.spec.specs.Hours.{open_hours}

-- a refusal's number, and whether its condition holds
pub record Refusal : Type 0 where
  pub number : ℕ
  pub holds : Bool

-- "first match wins": the number of the first whose condition holds, 0 where none does
unfoldable pub first_match : List Refusal → ℕ
first_match [] = 0
first_match (r ∷ rs) = cond r.holds r.number (first_match rs)

-- "2. Open: clients outside 1 to 256."
abbrev pub refusal2 : Setup → Refusal
refusal2 setup = record { number = 2; holds = not (is_within 1 most_clients setup.clients) }

-- "3. Open: period outside its bounds."
abbrev pub refusal3 : Setup → Refusal
refusal3 setup = record { number = 3; holds = not (is_within 1 most_period setup.period) }

-- document 02, 2.2: "13, slots per hour outside 1 to 360,000, after 3"
abbrev pub refusal13 : Setup → Refusal
refusal13 setup = record { number = 13; holds = not (is_within 1 most_per_hour setup.hour) }

-- document 02, 2.2: "14, all hours closed, after 13"
abbrev pub refusal14 : Setup → Refusal
refusal14 setup = record { number = 14; holds = eqb (open_hours setup) 0 }

-- what open asks of a setup, in the papers' order
unfoldable pub setup_refusals : Setup → List Refusal
setup_refusals setup = refusal2 setup ∷ refusal3 setup ∷ refusal13 setup ∷ refusal14 setup ∷ []

-- "within these bounds": none of them holds
abbrev pub is_setup_within : Setup → Bool
is_setup_within setup = eqb (first_match (setup_refusals setup)) 0
