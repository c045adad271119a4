-- What the passes ask of tables whose lengths and head are not refused, and what they come to. Assumes nothing.
use Prim.Native.Nat.{ℕ, ◌*◌, ◌≤◌}
use mathlib.Core.Path.{◌≡◌, refl, sym, ap, ◌∙◌}
use mathlib.Core.Logic.{◌≢◌}
use mathlib.Core.Bool.{Bool, true, false, cond, ◌&&◌}
use mathlib.Core.List.{List}
use native.Mathlib.Omega.{arith}
use lib.ListN.{length, take, drop, replicate, length-take}
use lib.Seq.{length-take-le}
use Rattle.spec.specs.declared.types.Head.{Head}
use Rattle.spec.specs.declared.types.Request.{Request}
use Rattle.spec.specs.declared.types.Reason.{Reason}
use Rattle.spec.specs.declared.types.Reason.TheVariants as reason
use Rattle.spec.specs.Reasons.{number_of}
use Rattle.spec.specs.Every.{every, every_from}
use Rattle.spec.specs.Tables.{most_clients, most_records, client_width, zero_request, records_of, State, state_of}
use Rattle.spec.specs.Sound.{is_zero_request}
use Rattle.spec.proofs.Laws.Sound.{Shaped, HeadWithin, head_facts}
use Rattle.sound.specs.Checks.{tally_size, tallied_of, does_balance, Bounded, Countable, Passed}
use Rattle.sound.specs.Checks.{are_next, have_room, head_refusal, contents_refusal, tables_refusal}
use Rattle.sound.proofs.RecordTests.{shape_facts}
use Rattle.sound.proofs.Parts.{zero_countable}
use Rattle.sound.proofs.Verdict.{head_refused, head_passed, found_contents, contents_refused, contents_passed, sound_refused}

-- ---- no refusal's number is 0
some_number : (why : Reason) → 1 ≤ number_of why
some_number reason.NoFrame = omega arith
some_number reason.Clients = omega arith
some_number reason.Period = omega arith
some_number reason.Lengths = omega arith
some_number reason.Unsound = omega arith
some_number reason.UnknownClient = omega arith
some_number reason.Deadline = omega arith
some_number reason.Submitted = omega arith
some_number reason.LastNumber = omega arith
some_number reason.TableFull = omega arith
some_number reason.ClockEnd = omega arith
some_number reason.ShortOutput = omega arith
some_number reason.SlotsPerHour = omega arith
some_number reason.AllClosed = omega arith
some_number reason.NoOpenSlot = omega arith

pub is_refused : (why : Reason) {called : ℕ} → number_of why ≡ called → called ≢ 0
is_refused why {called} e none = absurd (omega (arith, some_number why))

-- what is asked held where nothing is refused, and did not hold where something is
pub held : (b : Bool) → ◌≡◌ {A = ℕ} 0 (cond b 0 5) → b ≡ true
held true e = refl
held false e = absurd (omega arith)

pub not_held : (b : Bool) (why : Reason) → number_of why ≡ cond b 0 5 → b ≡ false
not_held true why e = absurd (is_refused why e refl)
not_held false why e = refl

module _ (head : Head) (ws : List Request) (xs : List ℕ) where
  abbrev s : State
  s = state_of head ws xs

  abbrev pub Headed : ℕ
  Headed = head_refusal head (length ws) (length xs)

  pub refused : Headed ≢ 0 → Headed ≡ tables_refusal s
  refused h = head_refused s h

  module _ (asked : Headed ≡ 0) where
    shaped : Shaped s
    shaped = shape_facts s (head_passed s asked).0

    headed : HeadWithin head
    headed = head_facts head (head_passed s asked).1

    pub all_there : head.waiting ≤ length ws
    all_there = shaped.waits

    pub taken : head.waiting ≡ length (take head.waiting ws)
    taken = sym (length-take-le head.waiting ws shaped.waits)

    pub few_there : length ws ≤ most_records
    few_there = shaped.most_records_lem

    pub next_asked : Bounded head (length (take head.waiting ws)) × Countable (length (take head.waiting ws)) (replicate tally_size 0)
    next_asked =
        let few : length (take head.waiting ws) ≤ most_records =
        omega (arith, shaped.waits, shaped.most_records_lem, length-take head.waiting ws) in (
          record { clients = headed.setup.most_clients_lem; clock = headed.clock; slots = headed.setup.some_slots; records = few },
          zero_countable (length (take head.waiting ws)) (omega arith),
        )

    pub balanced_asked : (client_width * head.setup.clients ≤ length xs) × (head.setup.clients ≤ most_clients)
    balanced_asked = (omega (arith, shaped.numbers), headed.setup.most_clients_lem)

    pub contents_told : (tally : List ℕ) (next zero balanced : Bool)
        → Passed head (take head.waiting ws) (replicate tally_size 0) next tally
        → zero ≡ every is_zero_request (drop head.waiting ws)
        → balanced ≡ every_from (λ c k. does_balance k (tallied_of tally c)) 0 (take head.setup.clients (records_of xs))
        → cond (next && (zero && balanced)) 0 5 ≡ contents_refusal s
    unfolding contents_refusal
    contents_told tally next zero balanced p z b =
        ap (λ (x : Bool). cond x 0 5)
        (found_contents s (head_passed s asked).0 (head_passed s asked).1 tally next zero balanced p z b)

    -- contents that call for something are refused by it
    pub refused_by_contents : contents_refusal s ≢ 0 → contents_refusal s ≡ tables_refusal s
    refused_by_contents n =
        contents_refused s (head_passed s asked).0 (head_passed s asked).1 n ∙ sound_refused s (head_passed s asked).0

    -- and else the room is asked
    module _ (none : contents_refusal s ≡ 0) where
      pub room_asked : Bounded head (length (take head.waiting ws)) × (are_next head 0 zero_request (take head.waiting ws) ≡ true)
      room_asked = (next_asked.0, (contents_passed s (head_passed s asked).0 (head_passed s asked).1 none).0)

      pub room_told : {roomy : Bool} → roomy ≡ have_room head 0 (take head.waiting ws) → cond roomy 0 5 ≡ tables_refusal s
      room_told {roomy} e =
          ap (λ (x : Bool). cond x 0 5)
          (e ∙ sym (contents_passed s (head_passed s asked).0 (head_passed s asked).1 none).1)
          ∙ sound_refused s (head_passed s asked).0
