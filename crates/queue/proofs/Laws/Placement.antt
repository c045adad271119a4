-- What a decision makes of the waiting table is what a submit leaves there. Assumes nothing.
use Prim.Native.Nat.{ℕ, zero, suc, ◌-◌, ◌≤◌, ◌<◌}
use mathlib.Core.Path.{◌≡◌, refl, sym, ap, ◌∙◌}
use mathlib.Core.Logic.{◌≢◌}
use mathlib.Core.List.{List, [], ◌∷◌, ◌++◌}
use Rattle.std.specs.Prelude.{None, Some, Result, Ok, Err}
use native.Mathlib.Omega.{arith}
use borrow.Author.Tests.{lt-ltb, le-ltb, le-leb}
use lib.ListN.{length, get_or, take, drop, replicate, length-take, get_or-append}
use lib.Seq.{get_or-take}
use Rattle.slots.proofs.Laws.Tests.{Order, le, gt, order}
use Rattle.spec.specs.declared.types.Request.{Request}
use Rattle.spec.specs.Tables.{zero_request, State, waiting, holding, next_state}
use Rattle.spec.specs.Setup.{first_match}
use Rattle.spec.specs.Order.{place_of, insert_at, put_in_order, remove_at}
use Rattle.spec.specs.Calls.Outcomes.{Outcome}
use Rattle.spec.specs.Calls.Submit.{submit_refusals, new_request, new_shift, kept, dropped_at, victim_place, request_at}
use Rattle.spec.specs.Calls.{outcome_of, submit}
use Rattle.spec.proofs.Laws.Every.{length_insert, length_remove, remove_insert, get_d_insert}
use Rattle.spec.proofs.Laws.Order.{place_most, length_put}
use Rattle.spec.proofs.Laws.Accepted.{SubmitReady, submit_ready, waiting_length, table_held}
use Rattle.spec.proofs.Calls.Victim.{victim_place_lem}
use Rattle.spec.proofs.Calls.Fair.{new_place_and_shift}
use Rattle.table.specs.Records.{replaced, taken_out, shift_at, inserted}
use Rattle.table.proofs.MovedRecords.{are_in_lem, first_out, second_out, insert_front, remove_front}
use Rattle.decide.specs.declared.submit.Decision.{Decision}
use Rattle.decide.specs.declared.submit.Decision.TheVariants.{Keep, Drop}
use Rattle.decide.specs.declared.submit.Insertion.{Insertion}
use Rattle.decide.specs.Submit.{place_without}
use Rattle.queue.specs.Placement.{without_victim, victim_at, table_after, insertion_by}
use Rattle.queue.specs.Decision.{submit_choice, submit_decision}
use Rattle.queue.proofs.Laws.Decision.{Chosen, keeps, drops, submit_chosen, Carried, refuses, goes, submit_carried}

-- ---- one put in and another taken out, in either order
remove_later : (p v : ℕ) (r : Request) (ws : List Request) → p ≤ v → p ≤ length ws
    → remove_at (suc v) (insert_at p r ws) ≡ insert_at p r (remove_at v ws)
unfolding remove_at
remove_later zero v r ws h l = refl
remove_later (suc p) zero r ws h l = absurd (omega arith)
remove_later (suc p) (suc v) r [] h l = absurd (omega arith)
remove_later (suc p) (suc v) r (w ∷ ws) h l =
    ap (λ (l : List Request). w ∷ l) (remove_later p v r ws (omega arith) (omega arith))

remove_earlier : (p v : ℕ) (r : Request) (ws : List Request) → v ≤ p → p < length ws
    → remove_at v (insert_at (suc p) r ws) ≡ insert_at p r (remove_at v ws)
unfolding remove_at
remove_earlier p v r [] h l = absurd (omega arith)
remove_earlier p zero r (w ∷ ws) h l = refl
remove_earlier zero (suc v) r (w ∷ ws) h l = absurd (omega arith)
remove_earlier (suc p) (suc v) r (w ∷ ws) h l =
    ap (λ (l : List Request). w ∷ l) (remove_earlier p v r ws (omega arith) (omega arith))

-- the one that is taken out then
get_d_later : (p v : ℕ) (r z : Request) (ws : List Request) → p ≤ v → p ≤ length ws
    → get_or (insert_at p r ws) (suc v) z ≡ get_or ws v z
get_d_later zero v r z ws h l = refl
get_d_later (suc p) zero r z ws h l = absurd (omega arith)
get_d_later (suc p) (suc v) r z [] h l = absurd (omega arith)
get_d_later (suc p) (suc v) r z (w ∷ ws) h l = get_d_later p v r z ws (omega arith) (omega arith)

get_d_earlier : (p v : ℕ) (r z : Request) (ws : List Request) → v < p → p ≤ length ws
    → get_or (insert_at p r ws) v z ≡ get_or ws v z
get_d_earlier p v r z ws h l =
    get_or-append (take p ws) (r ∷ drop p ws) z v (omega (arith, length-take p ws)) ∙ get_or-take p ws v z h

-- ---- a drop, in a table of any records
module _ (place victim : ℕ) (r : Request) (ys : List Request) where
  -- the new one itself goes
  pub drops_new : victim ≡ place → (r ≡ victim_at place victim r ys) × (ys ≡ without_victim place victim r ys)
  unfolding victim_at without_victim
  drops_new e = go (order (suc (length ys)) place)
    where
      go : Order (suc (length ys)) place → (r ≡ victim_at place victim r ys) × (ys ≡ without_victim place victim r ys)
      go (le h) = rw (first_out place victim (r ∷ ys) h) (refl, refl)
      go (gt h) =
          rw (are_in_lem place victim (r ∷ ys) (omega arith) (omega (arith, e)), e)
          (sym (get_d_insert place r zero_request ys (omega arith)), sym (remove_insert place r ys (omega arith)))

  abbrev Replaces : ℕ → ℕ → Type 0
  Replaces out at =
      (taken_out out at r ys ≡ victim_at place victim r ys) × (replaced out at r ys ≡ without_victim place victim r ys)

  -- one before it goes
  earlier : (at : ℕ) → place ≡ suc at → victim ≤ at → Replaces victim at
  unfolding taken_out replaced victim_at without_victim
  earlier at e h = go (order (suc at) (length ys))
    where
      go : Order (suc at) (length ys) → Replaces victim at
      go (le k) =
          rw (are_in_lem victim at ys (omega arith) k, are_in_lem place victim (r ∷ ys) (omega (arith, e)) (omega arith)) (
            sym (get_d_earlier place victim r zero_request ys (omega (arith, e)) (omega (arith, e))),
            rw e (sym (remove_earlier at victim r ys h k)),
          )
      go (gt k) =
          rw (second_out victim at ys (omega arith), first_out place victim (r ∷ ys) (omega (arith, e))) (refl, refl)

  -- one behind it goes
  later : (out : ℕ) → victim ≡ suc out → place ≤ out → Replaces out place
  unfolding taken_out replaced victim_at without_victim
  later out e h = go (order (suc out) (length ys))
    where
      go : Order (suc out) (length ys) → Replaces out place
      go (le k) =
          rw (are_in_lem out place ys k (omega arith), are_in_lem place victim (r ∷ ys) (omega arith) (omega (arith, e)), e)
          (sym (get_d_later place out r zero_request ys h (omega arith)), sym (remove_later place out r ys h (omega arith)))
      go (gt k) =
          rw (first_out out place ys (omega arith), second_out place victim (r ∷ ys) (omega (arith, e))) (refl, refl)

  -- a waiting record goes: one put in for another, at the places where both stand without the other
  pub drops_other : {out at : ℕ} → out ≡ place_without victim place → at ≡ place_without place victim → victim ≢ place → Replaces out at
  drops_other e a d = rw (e, a) (go (order (suc victim) place))
    where
      go : Order (suc victim) place → Replaces (place_without victim place) (place_without place victim)
      go (le h) =
          rw (le-ltb place victim (omega arith), lt-ltb victim place h) (earlier (place - 1) (omega arith) (omega arith))
      go (gt h) =
          rw (lt-ltb place victim (omega (arith, d)), le-ltb victim place (omega arith))
          (later (victim - 1) (omega (arith, d)) (omega (arith, d)))

-- ---- tables that hold requests
-- the records behind, where as many requests are held instead
held_same : (n : ℕ) (ws vs : List Request) → length vs ≡ length ws
    → vs ++ replicate (n - length ws) zero_request ≡ holding n vs
held_same n ws vs e = rw e

-- one more record is free
held_one : (n : ℕ) (ws : List Request) → length ws < n
    → holding n ws ≡ ws ++ zero_request ∷ replicate (n - suc (length ws)) zero_request
held_one n ws h = let e : n - length ws ≡ suc (n - suc (length ws)) = omega arith in rw e

-- without the first record behind
drop_past : (ws : List Request) (z : Request) (zs : List Request) → drop (suc (length ws)) (ws ++ z ∷ zs) ≡ zs
drop_past [] z zs = refl
drop_past (w ∷ ws) z zs = drop_past ws z zs

-- ---- an accepted submit
module _ (client deadline : ℕ) (s : State) (ready : SubmitReady client deadline s) where
  abbrev new : Request
  new = new_request client deadline s

  abbrev records : ℕ
  records = length s.waiting_table

  abbrev place : ℕ
  place = place_of new (waiting s)

  abbrev victim : ℕ
  victim = victim_place client deadline s

  filled : length (waiting s) ≡ s.head.waiting
  filled = waiting_length s ready.ready.shape

  held : s.waiting_table ≡ holding records (waiting s)
  held = table_held s ready.ready

  free : s.head.waiting < records
  free = omega (arith, ready.free, ready.ready.shape.waits)

  left : drop (suc s.head.waiting) s.waiting_table ≡ replicate (records - suc (length (waiting s))) zero_request
  left =
      ap (λ (k : ℕ). drop (suc k) s.waiting_table) (sym filled)
      ∙ ap (drop (suc (length (waiting s)))) (held ∙ held_one records (waiting s) (omega (arith, free, filled)))
      ∙ drop_past (waiting s) zero_request (replicate (records - suc (length (waiting s))) zero_request)

  kept_table : inserted s.head.waiting place new s.waiting_table ≡ (kept client deadline s).after.waiting_table
  unfolding kept next_state put_in_order inserted
  kept_table =
      rw (le-leb place s.head.waiting (omega (arith, filled, place_most new (waiting s))), lt-ltb s.head.waiting records free)
      (ap (λ (zs : List Request). insert_at place new (waiting s) ++ zs) left
      ∙ ap (λ (k : ℕ). insert_at place new (waiting s) ++ replicate (records - k) zero_request) (sym (length_insert place new (waiting s))))

  victim_most : victim ≤ length (waiting s)
  victim_most = omega (arith, (victim_place_lem client deadline s ready).0, length_put new (waiting s))

  -- the new one put in, in front of the records that hold none
  with_new_lem : insert_at place new s.waiting_table
      ≡ insert_at place new (waiting s) ++ replicate (records - length (waiting s)) zero_request
  with_new_lem =
      ap (insert_at place new) held
      ∙ insert_front place new (waiting s) (replicate (records - length (waiting s)) zero_request) (place_most new (waiting s))

  victim_in : victim < length (insert_at place new (waiting s))
  victim_in = omega (arith, length_insert place new (waiting s), victim_most)

  dropped_table : without_victim place victim new s.waiting_table ≡ (dropped_at victim client deadline s).after.waiting_table
  unfolding dropped_at next_state put_in_order without_victim
  dropped_table =
      rw (are_in_lem place victim (new ∷ s.waiting_table) (omega (arith, free, filled, place_most new (waiting s))) (omega (arith, free, filled, victim_most)))
      (ap (remove_at victim) with_new_lem
      ∙ remove_front victim (insert_at place new (waiting s)) (replicate (records - length (waiting s)) zero_request) victim_in
      ∙ held_same records (waiting s) (remove_at victim (insert_at place new (waiting s)))
      (omega (arith, length_insert place new (waiting s), length_remove victim (insert_at place new (waiting s)) victim_in)))

  dropped_gone : victim_at place victim new s.waiting_table ≡ request_at victim client deadline s
  unfolding put_in_order victim_at
  dropped_gone =
      rw (are_in_lem place victim (new ∷ s.waiting_table) (omega (arith, free, filled, place_most new (waiting s))) (omega (arith, free, filled, victim_most)))
      (ap (λ (l : List Request). get_or l victim zero_request) with_new_lem
      ∙ get_or-append (insert_at place new (waiting s)) (replicate (records - length (waiting s)) zero_request) zero_request victim victim_in)

  -- as many stand behind the place as the definition counts
  shift_same : shift_at s.head.waiting place ≡ new_shift client deadline s
  shift_same = omega (arith, new_place_and_shift client deadline s ready)

-- what an accepted submit's answer says of its insertion: place and shift, or the victim and the shift
abbrev pub InsertionFor : ℕ → ℕ → State → Decision → Insertion → Type 0
InsertionFor client deadline s (Keep place) p = p ≡ record { place = place; shift = new_shift client deadline s; gone = None }
InsertionFor client deadline s (Drop place victim) p =
    p ≡ record { place = place; shift = new_shift client deadline s; gone = Some (request_at victim client deadline s) }

-- ---- a submit that is not refused
module _ (client deadline : ℕ) (s : State) (z : first_match (submit_refusals client deadline s) ≡ 0) where
  pub chosen_table : table_after s.head (new_request client deadline s) (submit_choice client deadline s) s.waiting_table
      ≡ (outcome_of (submit client deadline) s).after.waiting_table
  chosen_table = go (submit_chosen client deadline s z)
    where
      go : {d : Decision} {o : Outcome} → Chosen client deadline s d o
          → table_after s.head (new_request client deadline s) d s.waiting_table ≡ o.after.waiting_table
      go keeps = kept_table client deadline s (submit_ready client deadline s z)
      go drops = dropped_table client deadline s (submit_ready client deadline s z)

  pub submit_inserted : InsertionFor client deadline s (submit_choice client deadline s)
      (insertion_by s.head (new_request client deadline s) (submit_choice client deadline s) s.waiting_table)
  submit_inserted = go (submit_chosen client deadline s z)
    where
      go : {d : Decision} {o : Outcome} → Chosen client deadline s d o
          → InsertionFor client deadline s d (insertion_by s.head (new_request client deadline s) d s.waiting_table)
      go keeps = rw (shift_same client deadline s (submit_ready client deadline s z)) refl
      go drops =
          let ready = submit_ready client deadline s z in
          rw (dropped_gone client deadline s ready, shift_same client deadline s ready) refl

-- ---- every submit, refused or not
-- the waiting table by what is decided
abbrev pub table_by : Request → State → Result Decision ℕ → List Request
table_by r s (Ok decision) = table_after s.head r decision s.waiting_table
table_by r s (Err number) = s.waiting_table

module _ (client deadline : ℕ) (s : State) (r : Request)
    (new : first_match (submit_refusals client deadline s) ≡ 0 → r ≡ new_request client deadline s) where
  pub submit_table : table_by r s (submit_decision client deadline s) ≡ (outcome_of (submit client deadline) s).after.waiting_table
  submit_table = go (submit_carried client deadline s)
    where
      chosen : {d : Decision} {o : Outcome} → SubmitReady client deadline s → Chosen client deadline s d o
          → table_after s.head (new_request client deadline s) d s.waiting_table ≡ o.after.waiting_table
      chosen ready keeps = kept_table client deadline s ready
      chosen ready drops = dropped_table client deadline s ready

      go : {d : Result Decision ℕ} {o : Outcome} → Carried client deadline s d o → table_by r s d ≡ o.after.waiting_table
      go (refuses n) = refl
      go (goes z c) = rw (new z) (chosen (submit_ready client deadline s z) c)
