-- The occupancy chart, overfull deadlines, candidates and the victim: document 01, "Chart and victim", and document 02, 2.2. Assumes
-- nothing.
use Rattle.std.specs.Prelude.{ℕ, zero, suc, ◌*◌, min, Bool, not, cond, List, [], ◌∷◌, leb, ltb, eqb, get_or}
use Rattle.spec.specs.declared.types.Setup.{Setup}
use Rattle.spec.specs.declared.types.Head.{Head}
use Rattle.spec.specs.declared.types.Request.{Request}
use Rattle.spec.specs.declared.types.Counts.{Counts}
use Rattle.spec.specs.Every.{every, count_if}
use Rattle.spec.specs.Tables.{zero_request, zero_counts}
use Rattle.spec.specs.Order.{remove_at}
use Rattle.spec.specs.Hours.{capacity_of, room}

-- how many of these start slots are the slot s
abbrev pub taken : ℕ → List ℕ → ℕ
taken s starts = count_if (eqb s) starts

-- "a request ends at the smaller of its deadline and the start of the record behind it". Document 02, 2.2, overrides it: the request's slot
-- is the latest open one before its deadline and before one after the start of the record behind it, since a slot that can take more may
-- be shared. Behind it are the starts of the later ones
abbrev pub limit_of : ℕ → List ℕ → ℕ
limit_of deadline [] = deadline
limit_of deadline (start ∷ later) = min deadline (suc start)

-- document 02, 2.2: "the chart uses the latest open slots": the latest slot before e that can take one more, 0 where there is none; the
-- slots of the later ones are taken
unfoldable pub latest_free : Setup → List ℕ → ℕ → ℕ
latest_free setup later zero = 0
latest_free setup later (suc e) =
    let earlier = latest_free setup later e in cond (ltb (taken e later) (capacity_of setup e)) e earlier

abbrev pub start_before : Setup → Request → List ℕ → List ℕ
start_before setup w later = latest_free setup later (limit_of w.deadline later) ∷ later

-- "From the last record to the first": the start slots, in chart order
unfoldable pub starts_of : Setup → List Request → List ℕ
starts_of setup [] = []
starts_of setup (w ∷ ws) = start_before setup w (starts_of setup ws)

-- "Segments are the longest runs of touching intervals, given as [left, right]."
pub record Segment : Type 0 where
  pub left : ℕ
  pub right : ℕ

-- document 02, 2.2: "two of them touch if no open slot lies between": an interval that ends at `end` touches one that starts at `start`
abbrev pub do_touch : Setup → ℕ → ℕ → Bool
do_touch setup end start = eqb (room setup end start) 0

-- document 02, 2.2: "each interval ending one after its own slot": the segments with the interval of one more start slot, on their left
abbrev pub join_left : Setup → ℕ → List Segment → List Segment
join_left setup s [] = record { left = s; right = suc s } ∷ []
join_left setup s (g ∷ gs) =
    cond (do_touch setup (suc s) g.left)
    (record { left = s; right = g.right } ∷ gs)
    (record { left = s; right = suc s } ∷ g ∷ gs)

unfoldable pub segments_of : Setup → List ℕ → List Segment
segments_of setup [] = []
segments_of setup (s ∷ starts) = join_left setup s (segments_of setup starts)

-- "D minus the clock", document 02, 2.2: "Wherever document 01 counts slots up to a deadline, only open ones count"
abbrev pub room_to : Head → ℕ → ℕ
room_to head D = room head.setup head.clock D

-- how many requests have deadlines at most D
unfoldable pub due_by : ℕ → List Request → ℕ
due_by D ws = count_if (λ w. leb w.deadline D) ws

-- "A deadline D is overfull if more than D minus the clock requests have deadlines at most D."
unfoldable pub is_overfull : Head → List Request → ℕ → Bool
is_overfull head ws D = ltb (room_to head D) (due_by D ws)

-- whether no deadline of the requests is overfull: "every request can still finish"
unfoldable pub has_no_overfull : Head → List Request → Bool
has_no_overfull head ws = every (λ w. not (is_overfull head ws w.deadline)) ws

-- what a search comes to
pub data Search : Type 0 where
  nothing : Search
  found : ℕ → Search

-- "The search for an overfull deadline ends at the first one found and yields it.": ws are those still to look at
unfoldable pub search_overfull : Head → List Request → List Request → Search
search_overfull head all [] = nothing
search_overfull head all (w ∷ ws) =
    cond (is_overfull head all w.deadline) (found w.deadline) (search_overfull head all ws)

abbrev pub first_overfull : Head → List Request → Search
first_overfull head ws = search_overfull head ws ws

-- ---- the victim
-- "Candidates are the requests, the new one included, whose removal leaves no overfull deadline." Requests are named by their places.
unfoldable pub is_candidate : Head → List Request → ℕ → Bool
is_candidate head ws k = has_no_overfull head (remove_at k ws)

-- a place, if it is a candidate's, before the later ones
abbrev pub keep_if : Bool → ℕ → List ℕ → List ℕ
keep_if b k later = cond b (k ∷ later) later

-- the places of the candidates, in chart order; the first of the requests still to look at has the place k
unfoldable pub candidates_from : Head → List Request → ℕ → List Request → List ℕ
candidates_from head all k [] = []
candidates_from head all k (w ∷ ws) = keep_if (is_candidate head all k) k (candidates_from head all (suc k) ws)

abbrev pub candidates : Head → List Request → List ℕ
candidates head ws = candidates_from head ws 0 ws

-- "The miss ratio is dropped divided by submitted .. compared as fractions without rounding."
unfoldable pub has_smaller_ratio : Counts → Counts → Bool
has_smaller_ratio a b = ltb (a.dropped * b.submitted) (b.dropped * a.submitted)

-- the counts of the client whose request stands at a place
abbrev pub counts_at : List Counts → List Request → ℕ → Counts
counts_at cs ws k = get_or cs (get_or ws k zero_request).client zero_counts

-- "The smallest wins; among equals, the last in chart order.": of an earlier candidate k and the best of the later ones
abbrev pub better_of : List Counts → List Request → ℕ → ℕ → ℕ
better_of cs ws k later = cond (has_smaller_ratio (counts_at cs ws k) (counts_at cs ws later)) k later

unfoldable pub smallest_of : List Counts → List Request → List ℕ → ℕ
smallest_of cs ws [] = 0
smallest_of cs ws (k ∷ []) = k
smallest_of cs ws (k ∷ j ∷ ks) = better_of cs ws k (smallest_of cs ws (j ∷ ks))

-- the victim's place. The client table counts the new request in submitted already
unfoldable pub victim_of : Head → List Counts → List Request → ℕ
victim_of head cs ws = smallest_of cs ws (candidates head ws)
