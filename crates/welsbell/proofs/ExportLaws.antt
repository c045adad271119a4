-- What the parts of an exported call come to together. Assumes nothing.
use Prim.Native.Nat.{ℕ}
use mathlib.Core.Path.{◌≡◌, sym, ap, subst, ◌∙◌}
use mathlib.Core.Bool.{false}
use mathlib.Core.List.{List, [], ◌∷◌}
use Rattle.spec.specs.declared.types.Setup.{Setup}
use Rattle.spec.specs.declared.types.Head.{Head}
use Rattle.spec.specs.declared.types.Request.{Request}
use Rattle.spec.specs.declared.types.Answer.TheVariants.{Opened}
use Rattle.spec.specs.Every.{first_or}
use Rattle.spec.specs.Tables.{State, state_of}
use Rattle.spec.specs.Calls.Readings.{kind_of}
use Rattle.spec.specs.Calls.Outcomes.{Outcome}
use Rattle.spec.specs.Calls.Open.{open_accepted}
use Rattle.spec.specs.Calls.{Call, opening, outcome_of, accepted_of, refusals_of, meaning}
use Rattle.spec.proofs.Laws.Accepted.{Decided, accepts, refuses}
use Rattle.spec.proofs.Calls.Refused.{outcome_decided, state_stays, setup_same}
use Rattle.queue.specs.Gives.{Reply, Gives}
use Rattle.welsbell.specs.Numbers.{setup_with, head_of, head_numbers, marks_after, value_numbers, written, Exported}

-- ---- a head is read back from its numbers and its marks
read_back : (h : Head) (numbers marks : List ℕ) → h.setup ≡ setup_with numbers marks → head_of (head_numbers h) marks ≡ h
read_back h numbers marks e = λ i. record { setup = same i; clock = h.clock; last = h.last; waiting = h.waiting }
  where
    -- a setup with its marks put in anew
    marked : Setup → Setup
    marked setup = setup_with (setup.clients ∷ setup.period ∷ setup.hour ∷ []) marks

    same : marked h.setup ≡ h.setup
    same = ap marked e ∙ sym e

-- the call c, with the head h that was read, gave this reply, whose values were written
module _ (c : Call) (head marks values₀ : List ℕ) {h : Head} (is-head : h ≡ head_of head marks) {ws ws' : List Request} {xs xs' : List ℕ}
    {reply : Reply} {values : List ℕ} {kind : ℕ} (gave : Gives c (state_of h ws xs) reply (state_of reply.head ws' xs'))
    (told : (kind ≡ kind_of reply.answer) × (values ≡ written (value_numbers reply.answer) values₀)) where
  abbrev s : State
  s = state_of (head_of head marks) ws xs

  given : Gives c s reply (state_of reply.head ws' xs')
  given = subst (λ (x : Head). Gives c (state_of x ws xs) reply (state_of reply.head ws' xs')) is-head gave

  -- the state that is left is the one that the definition gives
  exports : {after : State} → after ≡ (outcome_of c s).after → Exported c s values₀ kind values after
  exports same =
      record {
        answer = reply.answer;
        answers_same = given.answers_same;
        kind_same = told.0;
        values_same = told.1;
        after_same = same;
      }

  -- the reply's head was written, and these marks stand beside it
  exports_given : (marks' : List ℕ) → head_of (head_numbers reply.head) marks' ≡ reply.head
      → Exported c s values₀ kind values (state_of (head_of (head_numbers reply.head) marks') ws' xs')
  exports_given marks' headed = exports (ap (λ (x : Head). state_of x ws' xs') headed ∙ given.after_same)

  reply_setup : reply.head.setup ≡ (outcome_of c s).after.head.setup
  reply_setup = ap (λ (t : State). t.head.setup) given.after_same

  -- only an open changes the setup, so after any other call the marks that were lent are the head's
  pub exports_written : (meaning c).is_opening ≡ false → (head' : List ℕ) → head' ≡ head_numbers reply.head
      → Exported c s values₀ kind values (state_of (head_of head' marks) ws' xs')
  exports_written other head' headed =
      rw headed (exports_given marks (read_back reply.head head marks (reply_setup ∙ setup_same c s other)))

  -- a call that changes nothing leaves the state as it was, refused or not, so the head need not be written
  pub exports_read : ((t : State) → (accepted_of c t).after ≡ t) → Exported c s values₀ kind values s
  exports_read same = exports (sym (state_stays c s (same s)))

-- ---- open: the marks given are the head's where its kind is opened, and where it is refused all is as it was
module _ (setup given-marks head marks values₀ : List ℕ) {h : Head} (is-head : h ≡ head_of head marks) {ws ws' : List Request}
    {xs xs' : List ℕ} {reply : Reply} {values : List ℕ} {kind : ℕ}
    (gave : Gives (opening (setup_with setup given-marks)) (state_of h ws xs) reply (state_of reply.head ws' xs'))
    (told : (kind ≡ kind_of reply.answer) × (values ≡ written (value_numbers reply.answer) values₀)) where
  abbrev opens : Call
  opens = opening (setup_with setup given-marks)

  abbrev before : State
  before = state_of (head_of head marks) ws xs

  marks_left : head_of (head_numbers reply.head) (marks_after (kind_of reply.answer) given-marks marks) ≡ reply.head
  unfolding open_accepted
  marks_left =
      go (outcome_decided opens before) (ap (first_or Opened) (given opens head marks values₀ is-head gave told).answers_same)
      (reply_setup opens head marks values₀ is-head gave told)
    where
      go : {o : Outcome} → Decided (refusals_of opens before) before (accepted_of opens before) o
          → reply.answer ≡ first_or Opened o.answers → reply.head.setup ≡ o.after.head.setup
          → head_of (head_numbers reply.head) (marks_after (kind_of reply.answer) given-marks marks) ≡ reply.head
      go (accepts e) a b = rw a (read_back reply.head setup given-marks b)
      go (refuses e) a b = rw a (read_back reply.head head marks b)

  pub exports_open : (head' marks' : List ℕ) → head' ≡ head_numbers reply.head → marks' ≡ marks_after (kind_of reply.answer) given-marks marks
      → Exported opens before values₀ kind values (state_of (head_of head' marks') ws' xs')
  exports_open head' marks' headed marked =
      rw (headed, marked)
      (exports_given opens head marks values₀ is-head gave told (marks_after (kind_of reply.answer) given-marks marks) marks_left)
