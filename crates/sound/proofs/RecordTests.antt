-- Laws of the passes: the tests of one record and of one client's counts, what one turn of a pass leaves to do, the clients with
-- the count of the records, and the shape of the tables. Assumes nothing.
use Prim.Native.Nat.{ℕ, zero, suc, ◌+◌, ◌-◌, ◌%◌, ◌≤◌, ◌<◌, ◌*◌}
use mathlib.Core.Path.{◌≡◌, refl}
use mathlib.Core.Bool.{Bool, true, false, not, ◌&&◌, ◌||◌, and-eq-true_iff, and-true, and-false, and_assoc}
use mathlib.Core.List.{List, [], ◌∷◌}
use native.Mathlib.Omega.{arith}
use borrow.Author.Tests.{leb-true, leb-false, ltb-true, eqb-true, le-leb, lt-leb, lt-ltb, le-ltb, ne_eqb}
use lib.Bits.{bit_or, or_add_and, and_le_r}
use lib.Dec.{leb, ltb, eqb}
use lib.ListN.{length, get_or, take, replicate}
use lib.Seq.{take_all}
use mir.Val.{bool_byte}
use Rattle.slots.proofs.Laws.Tests.{Test, holds, fails, test}
use Rattle.spec.specs.declared.types.Head.{Head}
use Rattle.spec.specs.declared.types.Request.{Request}
use Rattle.spec.specs.declared.types.Counts.{Counts}
use Rattle.spec.specs.Every.{is_within, every, every_from}
use Rattle.spec.specs.Tables.{most_clients, most_records, most_counted, zero_request, State, client_width}
use Rattle.spec.specs.Order.{comes_before}
use Rattle.spec.specs.Sound.{waiting_of, is_zero_request, is_balanced}
use Rattle.spec.specs.Calls.Refusals.{refusal4}
use Rattle.spec.proofs.Laws.Every.{Value, is_true, is_false, value}
use Rattle.spec.proofs.Laws.Order.{Compared, compared, before as ordered, after as unordered, earlier, alike, later, alike_later}
use Rattle.spec.proofs.Laws.Layout.{whole_records}
use Rattle.spec.proofs.Laws.Sound.{within_test, Shaped}
use Rattle.sound.specs.Checks.{has_shape, is_next, bits_of, does_balance, tally_size, tallied_of, Tallied}
use Rattle.sound.proofs.Parts.{tally_zero}

-- ---- chart order as one comparison: a deadline may follow itself only where the number is larger
module _ (a b : Request) where
  pub one_comparison : 1 ≤ b.deadline
      → leb a.deadline (b.deadline - bool_byte (leb b.number a.number)) ≡ comes_before a b
  one_comparison some =
      go (leb b.number a.number) (comes_before a b) (test b.number a.number) (compared a b)
    where
      go : (x y : Bool) → Test b.number a.number x → Compared a b y → leb a.deadline (b.deadline - bool_byte x) ≡ y
      go true true (holds n) (ordered (earlier g)) = le-leb a.deadline (b.deadline - 1) (omega arith)
      go true true (holds n) (ordered (alike e m)) = absurd (omega arith)
      go true false (holds n) (unordered (later g)) = lt-leb a.deadline (b.deadline - 1) (omega arith)
      go true false (holds n) (unordered (alike_later e m)) = lt-leb a.deadline (b.deadline - 1) (omega arith)
      go false true (fails n) (ordered (earlier g)) = le-leb a.deadline (b.deadline - 0) (omega arith)
      go false true (fails n) (ordered (alike e m)) = le-leb a.deadline (b.deadline - 0) (omega arith)
      go false false (fails n) (unordered (later g)) = lt-leb a.deadline (b.deadline - 0) (omega arith)
      go false false (fails n) (unordered (alike_later e m)) = absurd (omega arith)

-- ---- of a record that passes the other tests, only the order is left to ask
pub next_order : (head : Head) (i : ℕ) (before w : Request)
    → 1 ≤ w.number
    → w.number ≤ head.last
    → w.client < head.setup.clients
    → ltb (head.clock + i) w.deadline ≡ true
    → is_next head i before w ≡ comes_before before w
unfolding is_next
next_order head i before w some most owned ahead =
    rw (
      within_test 1 head.last w.number some most,
      lt-ltb w.client head.setup.clients owned,
      ahead,
    )

-- ---- a record that may stand where it does has a client that exists
pub next_client : (head : Head) (i : ℕ) (before w : Request) → is_next head i before w ≡ true → w.client < head.setup.clients
unfolding is_next
next_client head i before w e =
    let p = simp and-eq-true_iff at e in ltb-true w.client head.setup.clients p.0.0.1

-- ---- bits joined: none is set where both numbers are zero
or_zero : (a b : ℕ) → eqb (bit_or a b) 0 ≡ eqb a 0 && eqb b 0
or_zero zero b = refl
or_zero (suc a) b =
    rw (
      ne_eqb (suc a) 0 (λ e. omega arith),
      ne_eqb (bit_or (suc a) b) 0 (λ e. omega (arith, or_add_and (suc a) b, and_le_r (suc a) b)),
    )

pub bits_zero : (w : Request) → eqb (bits_of w) 0 ≡ is_zero_request w
unfolding is_zero_request
bits_zero w = simp or_zero

pub bits_zero_four : (four : List Request) → length four ≡ 4
    → eqb (bit_or (bit_or (bits_of (get_or four 0 zero_request)) (bits_of (get_or four 1 zero_request)))
    (bit_or (bits_of (get_or four 2 zero_request)) (bits_of (get_or four 3 zero_request)))) 0
    ≡ every is_zero_request four
unfolding is_zero_request every
bits_zero_four [] e = absurd (omega arith)
bits_zero_four (a ∷ []) e = absurd (omega arith)
bits_zero_four (a ∷ b ∷ []) e = absurd (omega arith)
bits_zero_four (a ∷ b ∷ c ∷ []) e = absurd (omega arith)
bits_zero_four (a ∷ b ∷ c ∷ d ∷ []) e = simp (or_zero, and-true, and_assoc)
bits_zero_four (a ∷ b ∷ c ∷ d ∷ w ∷ ws) e = absurd (omega arith)

-- ---- counts cut to their bound: where one is beyond it, they do not balance
abbrev cut : ℕ → ℕ
cut count = count % (most_counted + 1)

pub cut_balance : (k : Counts) (waits : ℕ)
    → (eqb k.submitted (cut k.served + cut k.dropped + waits)
    && (leb k.submitted most_counted && leb k.served most_counted && leb k.dropped most_counted))
    ≡ does_balance k waits
unfolding does_balance
cut_balance k waits =
    go (leb k.submitted most_counted) (leb k.served most_counted) (leb k.dropped most_counted)
    (test k.submitted most_counted) (test k.served most_counted) (test k.dropped most_counted)
  where
    apart : most_counted < k.served + k.dropped → k.submitted ≤ most_counted
        → eqb k.submitted (k.served + k.dropped + waits) ≡ false
    apart l m = ne_eqb k.submitted (k.served + k.dropped + waits) (λ e. omega arith)

    go : (x y z : Bool) → Test k.submitted most_counted x → Test k.served most_counted y → Test k.dropped most_counted z
        → (eqb k.submitted (cut k.served + cut k.dropped + waits) && (x && y && z))
        ≡ (eqb k.submitted (k.served + k.dropped + waits) && x)
    go false y z su se dr = simp and-false
    go true true true (holds l) (holds m) (holds n) =
        let e : cut k.served ≡ k.served = omega arith in
        let f : cut k.dropped ≡ k.dropped = omega arith in
        rw (e, f)
    go true true false (holds l) (holds m) (fails n) = simp (and-false, apart (omega arith) l)
    go true false z (holds l) (fails m) dr = simp (and-false, apart (omega arith) l)

-- ---- the pass over the clients, with the count of a pass over the records
from_same : {A : Type 0} (f g : ℕ → A → Bool) (i : ℕ) (xs : List A)
    → ((c : ℕ) (x : A) → c < i + length xs → f c x ≡ g c x) → every_from f i xs ≡ every_from g i xs
unfolding every_from
from_same f g i [] h = refl
from_same f g i (x ∷ xs) h =
    λ j. h i x (omega arith) j && from_same f g (suc i) xs (λ c y l. h c y (omega arith)) j

pub balanced_tally : (ws : List Request) (tally : List ℕ) (n : ℕ) (cs : List Counts)
    → Tallied ws (replicate tally_size 0) tally → length cs ≡ n → n ≤ most_clients
    → every_from (λ c k. does_balance k (tallied_of tally c)) 0 (take n cs) ≡ every_from (is_balanced ws) 0 cs
unfolding does_balance is_balanced
balanced_tally ws tally n cs t e h =
    rw (take_all n cs (omega arith))
    (from_same (λ c k. does_balance k (tallied_of tally c)) (is_balanced ws) 0 cs
    (λ c k l.
    let q : tallied_of tally c ≡ waiting_of c ws = omega (arith, t.at c (omega arith), tally_zero c (omega arith)) in rw q))

-- ---- the shape of the tables
abbrev pub shape_of : State → Bool
shape_of s = has_shape s.head (length s.waiting_table) (length s.client_numbers)

pub shape_facts : (s : State) → shape_of s ≡ true → Shaped s
unfolding has_shape
shape_facts s e =
    let p = simp and-eq-true_iff at e in
    let n = eqb-true (length s.client_numbers) (client_width * s.head.setup.clients) p.0.1 in
    record {
      some_records = leb-true 1 (length s.waiting_table) p.0.0.0;
      most_records_lem = leb-true (length s.waiting_table) most_records p.0.0.1;
      numbers = n;
      clients = whole_records s.client_numbers s.head.setup.clients n;
      waits = leb-true s.head.waiting (length s.waiting_table) p.1;
    }

ltb_not : (a b : ℕ) → ltb a b ≡ not (leb b a)
ltb_not a b = go (value (leb b a))
  where
    go : Value (leb b a) → ltb a b ≡ not (leb b a)
    go (is_true e) = rw (e, le-ltb a b (leb-true b a e))
    go (is_false e) = rw (e, lt-ltb a b (leb-false b a e))

-- refusal 4 is for tables of another shape
pub shape_refused : (s : State) → (refusal4 s).holds ≡ not (shape_of s)
unfolding has_shape
shape_refused s =
    go (is_within 1 most_records (length s.waiting_table)) (eqb (length s.client_numbers) (client_width * s.head.setup.clients))
    (leb s.head.waiting (length s.waiting_table)) (ltb_not (length s.waiting_table) s.head.waiting)
  where
    go : (a b c : Bool) {l : Bool} → l ≡ not c → (not a || not b || l) ≡ not (a && b && c)
    go true true c e = e
    go true false c e = refl
    go false b c e = refl
