-- What the searches over the lent records find of an accepted submit is what its decision is told. Assumes nothing.
use Rattle.std.proofs.Common.{◌≡◌, ℕ, zero, suc, ◌+◌, ◌-◌, ◌%◌, ◌≤◌, ◌<◌, Bool, true, false, cond, eqb, leb, Option, None}
use Rattle.std.proofs.Common.{Some, List, [], ◌∷◌, length, get_or, take, drop, set, replicate, refl, sym, ap, ap₂, subst, ◌∙◌, arith}
use Rattle.std.proofs.lemmas.List.{get_or-drop, take_all, take-map, drop-map, drop-take, length-take-le}
use borrow.Author.Tests.{ne_eqb}
use lib.ListN.{length-take, length-drop, length-map}
use lib.Seq.{take-take, get_or-take}
use Rattle.slots.proofs.Laws.Tests.{Same, same_yes, same_no, same}
use Rattle.spec.specs.declared.types.Request.{Request}
use Rattle.spec.specs.declared.types.Counts.{Counts}
use Rattle.spec.specs.Every.{count_if}
use Rattle.spec.specs.Tables.{most_clients, most_records, clock_end, State, waiting, deadlines_of, clients_of, client_table}
use Rattle.spec.specs.Tables.{zero_counts}
use Rattle.spec.specs.Setup.{first_match}
use Rattle.spec.specs.Chart.{due_by}
use Rattle.spec.specs.Calls.Submit.{submit_refusals}
use Rattle.spec.proofs.Laws.Accepted.{SubmitReady, submit_ready, waiting_length}
use Rattle.table.specs.Widths.{largest32}
use Rattle.occupancy.specs.Scans.{Sorted, place_by, overfull_from, if_any, candidate_count, latest_of, put_at, best_of, smallest_ratio_place}
use Rattle.occupancy.proofs.Columns.{due_column}
use Rattle.occupancy.proofs.LastOfEach.{latest_parts}
use Rattle.occupancy.proofs.Searches.{place_counts}
use Rattle.queue.proofs.Laws.Deadlines.{sorted, few_due}
use Rattle.queue.proofs.Laws.Victim.{place_last}
use Rattle.queue.proofs.Laws.Decision.{SearchResults, small}

-- ---- what was found, where anything was
found_some : (n D : ℕ) → Some D ≡ if_any n → (D ≡ n) × (0 < n)
found_some n D = go (eqb n 0) (same n 0)
  where
    go : (b : Bool) → Same n 0 b → Some D ≡ cond b None (Some n) → (D ≡ n) × (0 < n)
    go true (same_yes z) e = cc
    go false (same_no z) e = let q : D ≡ n = cc in (q, omega (arith, z))

-- what stands behind in a list that ascends ascends
sorted_drop : (k : ℕ) (xs : List ℕ) → Sorted xs → Sorted (drop k xs)
sorted_drop k xs h i j l m =
    rw (get_or-drop, get_or-drop) (h (k + i) (k + j) (omega arith) (omega (arith, length-drop k xs)))

-- ---- of the first n clients alone the victim is the same
best_of_first : (counts : ℕ → Counts) (xs : List ℕ) (n m : ℕ) → m ≤ n → best_of counts (take n xs) m ≡ best_of counts xs m
unfolding best_of
best_of_first counts xs n zero h = refl
best_of_first counts xs n (suc m) h =
    rw (best_of_first counts xs n m (omega arith), get_or-take n xs m 0 (omega arith)) refl

pub victim_of_first : (counts : ℕ → Counts) (xs : List ℕ) (n : ℕ) → n ≤ length xs
    → smallest_ratio_place counts (take n xs) (length (take n xs)) ≡ smallest_ratio_place counts xs n
victim_of_first counts xs n h = rw (length-take-le n xs h, best_of_first counts xs n n (omega arith)) refl

module _ (client deadline : ℕ) (s : State) (accepted : first_match (submit_refusals client deadline s) ≡ 0) where
  abbrev ws : List Request
  ws = waiting s

  abbrev ds : List ℕ
  ds = deadlines_of (waiting s)

  abbrev cs : List ℕ
  cs = clients_of (waiting s)

  ready : SubmitReady client deadline s
  ready = submit_ready client deadline s accepted

  -- ---- what the searches ask
  pub waits : s.head.waiting ≤ length s.waiting_table
  waits = ready.ready.shape.waits

  few : length ws < most_records
  few = omega (arith, waiting_length s ready.ready.shape, waits, ready.free, ready.ready.shape.most_records_lem)

  pub clock : s.head.clock ≤ clock_end
  clock = ready.ready.sound.headed.clock

  pub some_slots : 1 ≤ s.head.setup.hour
  some_slots = ready.ready.sound.headed.setup.some_slots

  ascending : Sorted ds
  ascending = sorted ws ready.ready.sound.ordered

  pub ascending_behind : (k : ℕ) → Sorted (deadlines_of (drop k ws))
  ascending_behind k = subst Sorted (drop-map (λ (w : Request). w.deadline) k ws) (sorted_drop k ds ascending)

  -- .. of each client a place, in lists of this length one after the other
  pub clients : (l₁ l₂ l₃ : List ℕ) → length l₁ ≡ most_clients → length l₂ ≡ length l₁ → length l₃ ≡ length l₂
      → s.head.setup.clients ≤ length l₃
  clients l₁ l₂ l₃ e f g = omega (arith, ready.ready.sound.headed.setup.most_clients_lem)

  pub rises : (get_or (client_table s) client zero_counts).submitted < largest32
  rises = small s ready

  -- ---- what they find
  -- a search by halves counts those that are due
  due : (D r : ℕ) → r ≡ place_by ds (length ws) D → r ≡ due_by D ws
  due D r p =
      p
      ∙ place_counts ds D (length ws) (omega (arith, size)) (subst Sorted (sym all) ascending)
      ∙ ap (count_if (λ d. leb d D)) all
      ∙ due_column D ws
    where
      size : length ds ≡ length ws
      size = length-map ws (λ (w : Request). w.deadline)

      all : take (length ws) ds ≡ ds
      all = take_all (length ws) ds (omega (arith, size))

  -- a place that it finds stands among those that wait, which are few
  pub within : (D r : ℕ) → r ≡ place_by ds (length ws) D → (r ≤ length ws) × (length ws < most_records)
  within D r p = (omega (arith, due D r p, few_due D ws), few)

  module _ (place : ℕ) {found : Option ℕ} (placed : place ≡ place_by ds (length ws) deadline)
      (searched : found ≡ if_any (overfull_from s.head place (deadline ∷ deadlines_of (drop place ws)))) where
    searched_state : found ≡ if_any (overfull_from s.head place (deadline ∷ drop place ds))
    searched_state =
        searched
        ∙ ap (λ (l : List ℕ). if_any (overfull_from s.head place (deadline ∷ l))) (sym (drop-map (λ (w : Request). w.deadline) place ws))

    -- all that are due by an overfull deadline are candidates
    pub all_due : (D end last : ℕ) → found ≡ Some D → end ≡ place_by ds (length ws) D → last ≡ candidate_count (length ws) end D
        → last ≡ place_by ds (length ws) D
    all_due D end last e p q =
        let some = found_some (overfull_from s.head place (deadline ∷ drop place ds)) D (sym e ∙ searched_state) in
        let within_all = (within D end p).0 in
        q ∙ rw (ne_eqb D 0 (λ z. omega (arith, z, some.0, some.1))) (omega (arith, within_all, p))

    -- the last that is due by an overfull deadline does not stand before the new one
    pub behind : (D end : ℕ) → found ≡ Some D → end ≡ place_by ds (length ws) D → place ≤ end
    behind D end e p =
        let some = found_some (overfull_from s.head place (deadline ∷ drop place ds)) D (sym e ∙ searched_state) in
        omega (
          arith,
          due deadline place placed,
          due D end p,
          place_last client deadline s ready
              (some.0
              ∙ ap (λ (k : ℕ). overfull_from s.head k (deadline ∷ drop k ds)) (due deadline place placed))
              (omega (arith, some.0, some.1)),
        )

    -- where no deadline is overfull no candidates are noted
    pub found_none : found ≡ None → SearchResults client deadline [] place found s
    found_none e =
        record {
          accepted = accepted;
          placed = due deadline place placed;
          searched = searched_state;
          marked = λ D f. cc;
        }

    module _ (D end : ℕ) (overfull : found ≡ Some D) (ended : end ≡ place_by ds (length ws) D) where
      -- of each client the last candidate, noted part by part: those before the new one, itself, and those behind it
      module _ (l₁ l₂ l₃ : List ℕ) (first : l₁ ≡ latest_of 1 (clients_of (take place ws)) (replicate most_clients 0))
          (second : l₂ ≡ set l₁ (client % most_clients) (place + 1))
          (third : l₃ ≡ latest_of (place + 2) (clients_of (take (end - place) (drop place ws))) l₂) where
        noted : l₃ ≡ latest_of 1 (put_at place client (take (due_by D ws) cs)) (replicate most_clients 0)
        noted =
            third
            ∙ ap₂ (latest_of (place + 2)) theirs
            (second ∙ ap (λ (l : List ℕ). set l (client % most_clients) (place + 1))
            (first ∙ ap (λ (l : List ℕ). latest_of 1 l (replicate most_clients 0)) ours))
            ∙ latest_parts (take place (take end cs)) (drop place (take end cs)) client (replicate most_clients 0) place long
            ∙ ap (λ (k : ℕ). latest_of 1 (put_at place client (take k cs)) (replicate most_clients 0)) (due D end ended)
          where
            order : place ≤ end
            order = behind D end overfull ended

            ours : clients_of (take place ws) ≡ take place (take end cs)
            ours = sym (take-map (λ (w : Request). w.client) place ws) ∙ sym (take-take place end cs order)

            theirs : clients_of (take (end - place) (drop place ws)) ≡ drop place (take end cs)
            theirs =
                sym (take-map (λ (w : Request). w.client) (end - place) (drop place ws))
                ∙ ap (take (end - place)) (sym (drop-map (λ (w : Request). w.client) place ws))
                ∙ sym (drop-take place (end - place) cs)
                ∙ ap (λ (k : ℕ). drop place (take k cs)) (omega (arith, order))

            long : length (take place (take end cs)) ≡ place
            long =
                omega (
                  arith,
                  order,
                  (within D end ended).0,
                  length-take place (take end cs),
                  length-take end cs,
                  length-map ws (λ (w : Request). w.client),
                )

        pub found_all : SearchResults client deadline l₃ place found s
        found_all =
            record {
              accepted = accepted;
              placed = due deadline place placed;
              searched = searched_state;
              marked = λ E f. let q : D ≡ E = cc in rw (← q) noted;
            }
