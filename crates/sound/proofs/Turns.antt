-- Laws of the turns of the pass over the waiting records: what they find, one run after another, and what the whole pass does.
-- Assumes nothing.
use Prim.Native.Nat.{ℕ, zero, suc, ◌+◌, ◌-◌, ◌%◌, ◌≤◌, ◌<◌}
use mathlib.Core.Path.{◌≡◌, refl, sym, ap, ◌∙◌}
use mathlib.Core.Bool.{Bool, true, false, ◌&&◌, and_assoc, false≢true}
use mathlib.Core.List.{List, [], ◌∷◌, ◌++◌}
use native.Mathlib.Omega.{arith}
use lib.Dec.{eqb}
use lib.ListN.{length, get_or, take, drop}
use Rattle.std.specs.Prelude.{Option, None, Some}
use Rattle.std.specs.Option.{UnwrapsOrElse, unwrap_or}
use Rattle.std.specs.List.{slice_get}
use Rattle.std.proofs.lemmas.Option.{unwrap_or-slice_get}
use Rattle.std.proofs.lemmas.List.{take_more, take-append-drop, append_assoc, append-nil}
use Rattle.spec.specs.declared.types.Head.{Head}
use Rattle.spec.specs.declared.types.Request.{Request}
use Rattle.spec.specs.Tables.{most_clients, zero_request}
use Rattle.spec.specs.Sound.{waiting_of}
use Rattle.spec.proofs.Laws.Clients.{of, waiting_of_none, waiting_of_cons}
use Rattle.spec.proofs.Laws.Every.{number_most}
use Rattle.sound.specs.Checks.{is_next, is_near, are_next, each_is_next, last_of, joined, tally_size, tally_place, one_more, parts}
use Rattle.sound.specs.Checks.{Countable, Bounded, Counted, Passed}
use Rattle.sound.proofs.RecordTests.{next_client}
use Rattle.sound.proofs.Parts.{counted_more}

-- ---- records of one run and of the next
waiting_most : (c : ℕ) (ws : List Request) → waiting_of c ws ≤ length ws
unfolding of
waiting_most c [] = omega (arith, waiting_of_none c)
waiting_most c (w ∷ ws) = omega (arith, waiting_of_cons c w ws, number_most (eqb w.client c), waiting_most c ws)

waiting_join : (c : ℕ) (ws vs : List Request) → waiting_of c (ws ++ vs) ≡ waiting_of c ws + waiting_of c vs
waiting_join c [] vs = omega (arith, waiting_of_none c)
waiting_join c (w ∷ ws) vs = omega (arith, waiting_of_cons c w ws, waiting_of_cons c w (ws ++ vs), waiting_join c ws vs)

last_join : (before : Request) (ws vs : List Request) → last_of before (ws ++ vs) ≡ last_of (last_of before ws) vs
last_join before [] vs = refl
last_join before (w ∷ ws) vs = last_join w ws vs

-- the last of so many
pub last_at : (n : ℕ) (before : Request) (ws : List Request) → length ws ≡ suc n → last_of before ws ≡ get_or ws n zero_request
last_at n before [] e = absurd (omega arith)
last_at zero before (w ∷ []) e = refl
last_at zero before (w ∷ v ∷ ws) e = absurd (omega arith)
last_at (suc n) before (w ∷ ws) e = last_at n w ws (omega arith)

last_there : (ws : List Request) → get_or ws (length ws - 1) zero_request ≡ last_of zero_request ws
last_there [] = refl
last_there (w ∷ ws) = sym (last_at (suc (length ws) - 1) zero_request (w ∷ ws) (omega arith))

-- as the record at the last place, if there is one, and else a zero record
pub last_or_zero : (o : Option Request) (ws : List Request) {P : Request → Type 0} {w : Request} → o ≡ slice_get ws (length ws - 1)
    → ((v : Request) → P v → v ≡ zero_request) → UnwrapsOrElse o P w → w ≡ last_of zero_request ws
last_or_zero None ws {P} {w} e is_zero h =
    is_zero w h ∙ ap (λ o. unwrap_or o zero_request) e ∙ unwrap_or-slice_get ws (length ws - 1) zero_request ∙ last_there ws
last_or_zero (Some v) ws e is_zero h =
    h ∙ ap (λ o. unwrap_or o zero_request) e ∙ unwrap_or-slice_get ws (length ws - 1) zero_request ∙ last_there ws

-- one more of them, and one more four
pub one_more_last : (before : Request) (ws : List Request) (k : ℕ) → k < length ws
    → get_or ws k zero_request ≡ last_of before (take (k + 1) ws)
one_more_last before ws k l =
    rw (take_more ws k zero_request l) (sym (last_join before (take k ws) (get_or ws k zero_request ∷ [])))

join_fours : (fours gours : List (List Request)) → joined (fours ++ gours) ≡ joined fours ++ joined gours
join_fours [] gours = refl
join_fours (four ∷ fours) gours =
    ap (λ (ws : List Request). four ++ ws) (join_fours fours gours) ∙ sym (append_assoc four (joined fours) (joined gours))

pub one_more_four : (fours : List (List Request)) (k : ℕ) → k < length fours
    → joined (take (k + 1) fours) ≡ joined (take k fours) ++ get_or fours k []
one_more_four fours k l =
    ap joined (take_more fours k [] l)
    ∙ join_fours (take k fours) (get_or fours k [] ∷ [])
    ∙ ap (λ (ws : List Request). joined (take k fours) ++ ws) (append-nil (get_or fours k []))

pub fours_split : (fours : List (List Request)) (k : ℕ) → joined (take k fours) ++ joined (drop k fours) ≡ joined fours
fours_split fours k = sym (join_fours (take k fours) (drop k fours)) ∙ ap joined (take-append-drop k fours)

pub last_of_fours : (fours : List (List Request)) (k : ℕ) → k < length fours → length (get_or fours k []) ≡ 4
    → get_or (get_or fours k []) 3 zero_request ≡ last_of zero_request (joined (take (k + 1) fours))
last_of_fours fours k l four =
    rw (one_more_four fours k l)
    (sym (last_join zero_request (joined (take k fours)) (get_or fours k [])
    ∙ last_at 3 (last_of zero_request (joined (take k fours))) (get_or fours k []) four))

module _ (head : Head) where
  each_join : (i j : ℕ) (before : Request) (ws vs : List Request) → j ≡ i + length ws
      → each_is_next head i before (ws ++ vs) ≡ each_is_next head i before ws && each_is_next head j (last_of before ws) vs
  unfolding each_is_next
  each_join i j before [] vs e = let a : j ≡ i = omega arith in rw a
  each_join i j before (w ∷ ws) vs e =
      ap (λ (b : Bool). is_next head i before w && b) (each_join (suc i) j w ws vs (omega arith))
      ∙ sym (and_assoc (is_next head i before w) (each_is_next head (suc i) w ws) (each_is_next head j (last_of w ws) vs))

  -- with the last of them asked whether it is near, they are as waiting ones should be
  each_near : (i : ℕ) (before : Request) (ws : List Request)
      → are_next head i before ws ≡ each_is_next head i before ws && is_near head (last_of before ws).deadline
  unfolding are_next each_is_next
  each_near i before [] = refl
  each_near i before (w ∷ ws) =
      ap (λ (b : Bool). is_next head i before w && b) (each_near (suc i) w ws)
      ∙ sym (and_assoc (is_next head i before w) (each_is_next head (suc i) w ws) (is_near head (last_of w ws).deadline))

-- ---- what one turn finds, and no turn
module _ {head : Head} {i : ℕ} {before : Request} {tally : List ℕ} where
  pub none_counted : Counted head i before [] tally true tally
  unfolding each_is_next
  none_counted = record { verdict = refl; tallied = λ _. record { at = λ c _. omega (arith, waiting_of_none c) } }

  pub one_counted : {w : Request} → head.setup.clients ≤ most_clients → length tally ≡ tally_size → true ≡ is_next head i before w
      → Counted head i before (w ∷ []) tally true (one_more (tally_place (i % parts) w.client) tally)
  unfolding each_is_next
  one_counted {w} few size e =
      let owned = next_client head i before w (sym e) in
      record {
        verdict = rw (sym e);
        tallied = λ _. record {
          at = λ c l.
              omega (
                arith,
                counted_more (i % parts) w (omega arith) (omega arith) tally size c l,
                waiting_of_cons c w [],
                waiting_of_none c,
              );
        };
      }

  pub one_stopped : {w : Request} {tally₁ : List ℕ} → false ≡ is_next head i before w
      → Counted head i before (w ∷ []) tally false tally₁
  unfolding each_is_next
  one_stopped {w} e = record { verdict = rw (sym e); tallied = λ f. absurd (false≢true f) }

-- ---- turns, and more behind them
module _ {head : Head} {i : ℕ} {before : Request} {ws : List Request} {t₀ t₁ : List ℕ} where
  pub more_countable : (k : ℕ) → Counted head i before ws t₀ true t₁ → {m : ℕ} → Countable m t₀ → length ws + k ≤ m → Countable k t₁
  more_countable k h few l =
      record { most = λ c o. omega (arith, (h.tallied refl).at c o, few.most c o, waiting_most c ws) }

  pub counted_on : {vs all : List Request} → ws ++ vs ≡ all → Counted head i before ws t₀ true t₁ → (j : ℕ)
      → j ≡ i + length ws → {last : Request} → last ≡ last_of before ws → {r : Bool} {t₂ : List ℕ} → Counted head j last vs t₁ r t₂
      → Counted head i before all t₀ r t₂
  counted_on {vs} e h j f in_hand {r} {t₂} g =
      let on : Counted head j (last_of before ws) vs t₁ r t₂ = rw in_hand at g in
      rw (sym e)
      (record {
        verdict = on.verdict ∙ sym (each_join head i j before ws vs f ∙ rw (sym h.verdict));
        tallied = λ p. record { at = λ c o. omega (arith, (h.tallied refl).at c o, (on.tallied p).at c o, waiting_join c ws vs) };
      })

  -- behind a record that does not pass
  pub stopped_on : (vs : List Request) {all : List Request} → ws ++ vs ≡ all → Counted head i before ws t₀ false t₁
      → Counted head i before all t₀ false t₁
  stopped_on vs e h =
      rw (sym e)
      (record {
        verdict = sym (each_join head i (i + length ws) before ws vs refl ∙ rw (sym h.verdict));
        tallied = λ p. absurd (false≢true p);
      })

-- ---- bounds hold of fewer records too
pub fewer_bounded : {head : Head} {n : ℕ} (i : ℕ) → Bounded head n → i ≤ n → Bounded head i
fewer_bounded i b l = record { clients = b.clients; clock = b.clock; slots = b.slots; records = omega arith }

-- ---- the whole pass: the last of all is asked whether it is near, if all may stand where they do
module _ {head : Head} {ws : List Request} {t₀ t₁ : List ℕ} where
  pub all_passed : Counted head 0 zero_request ws t₀ true t₁ → {near : Bool} → near ≡ is_near head (last_of zero_request ws).deadline
      → Passed head ws t₀ near t₁
  all_passed h e =
      record { verdict = e ∙ sym (each_near head 0 zero_request ws ∙ rw (sym h.verdict)); tallied = λ _. h.tallied refl }

  pub some_stopped : Counted head 0 zero_request ws t₀ false t₁ → Passed head ws t₀ false t₁
  some_stopped h =
      record { verdict = sym (each_near head 0 zero_request ws ∙ rw (sym h.verdict)); tallied = λ p. absurd (false≢true p) }
