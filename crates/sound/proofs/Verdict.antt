-- What the tests of lengths and head, and the passes, say of the whole state: whether it is sound, and what it calls for.
-- Assumes nothing.
use Prim.Native.Nat.{ℕ}
use mathlib.Core.Path.{◌≡◌, refl, sym, ◌∙◌}
use mathlib.Core.Bool.{Bool, true, false, cond, not, ◌&&◌}
use mathlib.Core.List.{List}
use mathlib.Core.Logic.{◌≢◌}
use native.Mathlib.Omega.{arith}
use lib.ListN.{length, take, replicate}
use Rattle.spec.specs.Every.{every, every_from}
use Rattle.spec.specs.Tables.{zero_request, State, waiting, behind, client_table}
use Rattle.spec.specs.Setup.{first_match}
use Rattle.spec.specs.Sound.{is_head_within, is_zero_request, is_balanced, is_sound}
use Rattle.spec.proofs.Laws.Every.{and_left, Value, is_true, is_false, value}
use Rattle.spec.proofs.Laws.Sound.{head_facts}
use Rattle.sound.specs.Checks.{tallied_of, tally_size, does_balance, Passed, are_next, have_room, contents_refusal, tables_refusal, head_refusal}
use Rattle.sound.proofs.RecordTests.{balanced_tally, shape_of, shape_facts, shape_refused}
use Rattle.sound.proofs.Pass.{sound_pass}

abbrev pub head_refusal_of : State → ℕ
head_refusal_of s = head_refusal s.head (length s.waiting_table) (length s.client_numbers)

-- ---- lengths that fit and a head within its bounds: what the passes find
module _ (s : State) (shaped : shape_of s ≡ true) (headed : is_head_within s.head ≡ true) where
  -- whether the records passed where all slots count, those behind them are zero and the clients' counts balance
  abbrev contents : Bool
  contents =
      are_next s.head 0 zero_request (waiting s)
      && (every is_zero_request (behind s) && every_from (is_balanced (waiting s)) 0 (client_table s))

  pub found_contents : (tally : List ℕ) (next zero balanced : Bool) → Passed s.head (waiting s) (replicate tally_size 0) next tally
      → zero ≡ every is_zero_request (behind s)
      → balanced ≡ every_from (λ c k. does_balance k (tallied_of tally c)) 0 (take s.head.setup.clients (client_table s))
      → (next && (zero && balanced)) ≡ contents
  found_contents tally true zero balanced p z b =
      let q = b ∙ balanced_tally (waiting s) tally s.head.setup.clients (client_table s) (p.tallied refl)
      (shape_facts s shaped).clients (head_facts s.head headed).setup.most_clients_lem in
      rw (sym p.verdict, z, q)
  found_contents tally false zero balanced p z b = rw (sym p.verdict)

  -- the state is sound just where each has room by open slots too
  contents_sound : is_sound s ≡ contents && have_room s.head 0 (waiting s)
  contents_sound =
      sound_pass s
      ∙ rw headed (go (are_next s.head 0 zero_request (waiting s)) (have_room s.head 0 (waiting s)) (every is_zero_request (behind s))
      (every_from (is_balanced (waiting s)) 0 (client_table s)))
    where
      go : (a r z b : Bool) → ((a && r) && z && b) ≡ (a && (z && b)) && r
      go true true true true = refl
      go true true true false = refl
      go true true false b = refl
      go true false true true = refl
      go true false true false = refl
      go true false false b = refl
      go false r z b = refl

  -- contents that call for something: the tables call for it
  pub contents_refused : contents_refusal s ≢ 0 → contents_refusal s ≡ cond (is_sound s) 0 5
  unfolding contents_refusal
  contents_refused n = go contents refl
    where
      go : (x : Bool) → contents ≡ x → contents_refusal s ≡ cond (is_sound s) 0 5
      go true e = absurd (n (rw e))
      go false e = rw (contents_sound, e)

  -- contents that call for nothing: the records passed, and the room by open slots is left to ask
  pub contents_passed : contents_refusal s ≡ 0
      → (are_next s.head 0 zero_request (waiting s) ≡ true) × (is_sound s ≡ have_room s.head 0 (waiting s))
  unfolding contents_refusal
  contents_passed h = go contents refl
    where
      go : (x : Bool) → contents ≡ x
          → (are_next s.head 0 zero_request (waiting s) ≡ true) × (is_sound s ≡ have_room s.head 0 (waiting s))
      go true e = (
        and_left (are_next s.head 0 zero_request (waiting s))
            (every is_zero_request (behind s) && every_from (is_balanced (waiting s)) 0 (client_table s)) e,
        contents_sound ∙ rw e,
      )
      go false e = absurd (omega (arith, rw e at h))

-- ---- what the lengths and the head call for, the tables call for; where that is nothing, both fit
pub head_refused : (s : State) → head_refusal_of s ≢ 0 → head_refusal_of s ≡ tables_refusal s
unfolding head_refusal tables_refusal first_match
head_refused s h = go (value (shape_of s)) (value (is_head_within s.head))
  where
    go : Value (shape_of s) → Value (is_head_within s.head) → head_refusal_of s ≡ tables_refusal s
    go (is_true e) (is_true f) = absurd (h (rw (e, f)))
    go (is_true e) (is_false f) = rw (shape_refused s, e, sound_pass s, f)
    go (is_false e) g = rw (shape_refused s, e)

pub head_passed : (s : State) → head_refusal_of s ≡ 0 → (shape_of s ≡ true) × (is_head_within s.head ≡ true)
unfolding head_refusal
head_passed s h = go (value (shape_of s)) (value (is_head_within s.head))
  where
    go : Value (shape_of s) → Value (is_head_within s.head) → (shape_of s ≡ true) × (is_head_within s.head ≡ true)
    go (is_true e) (is_true f) = (e, f)
    go (is_true e) (is_false f) = absurd (omega (arith, rw (e, f) at h))
    go (is_false e) g = absurd (omega (arith, rw e at h))

-- ---- where both fit, only soundness is left to ask
pub sound_refused : (s : State) → shape_of s ≡ true → cond (is_sound s) 0 5 ≡ tables_refusal s
unfolding tables_refusal first_match
sound_refused s shaped = rw (shape_refused s, shaped) (go (is_sound s))
  where
    go : (b : Bool) → ◌≡◌ {A = ℕ} (cond b 0 5) (cond (not b) 5 0)
    go true = refl
    go false = refl
