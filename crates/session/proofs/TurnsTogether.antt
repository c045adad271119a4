-- What a line comes to, and the lines one after the other. Assumes nothing.
use Prim.Native.Nat.{ℕ, ◌+◌, ◌≤◌}
use mathlib.Core.Bool.{Bool, true, false}
use mathlib.Core.List.{List, [], ◌++◌, append-nil}
use mathlib.Core.Path.{◌≡◌, refl}
use native.Mathlib.Omega.{arith}
use borrow.Author.Tests.{leb-true}
use lib.Dec.{leb}
use lib.ListN.{length, take}
use Rattle.spec.specs.declared.types.Frame.{Frame}
use Rattle.spec.specs.declared.types.Request.{Request}
use Rattle.spec.specs.Tables.{State}
use Rattle.spec.specs.Lines.Frames.{answer_lines}
use Rattle.spec.specs.Lines.Session.{line_outcome}
use Rattle.spec.proofs.Laws.Every.{and_left, and_right}
use Rattle.frame.specs.LineLengths.{most_bytes}
use Rattle.queue.specs.Gives.{Reply}
use Rattle.session.specs.declared.types.Session.{Session}
use Rattle.session.specs.declared.types.Fed.{Fed}
use Rattle.frame.specs.Lines.{slice}
use Rattle.session.specs.Standing.{Reserved, held_in, do_fit, fits_in, Leads}
use Rattle.session.specs.Feeding.{Whole, None, can_with, Stops, answered, Stepped, Steps, SameLengths, FedBy}
use Rattle.session.proofs.Laws.LentCall.{Replied, put_back}
use Rattle.session.proofs.Laws.Texts.{take_slice}
use Rattle.session.proofs.Laws.Leads.{leads_none, leads_then, whole_leads, none_leads}

-- ---- what stands next
module _ (input : List ℕ) (fed : Fed) (s : State) (s₀ : State) (k₀ : Bool) (o : List ℕ)
    (so_far : Leads s₀ k₀ (take fed.used input) s fed.session.skip o) where
  -- what led up to a line leads on over it
  leads_whole : (behind : ℕ) (frame : Frame) → Whole input fed.used fed.session.skip behind frame
      → Leads s₀ k₀ (take behind input) (line_outcome frame s).after false (o ++ (line_outcome frame s).bytes)
  leads_whole behind frame w =
      rw (take_slice input fed.used behind (omega (arith, w.onward)))
      (leads_then s₀ k₀ (take fed.used input) s fed.session.skip o (slice fed.used behind input)
      (line_outcome frame s).after false (line_outcome frame s).bytes so_far
      (whole_leads input fed.used fed.session.skip behind frame s w))

  -- and over what is no whole line
  leads_begun : (r : Fed) → None input fed.used fed.session.skip r → Leads s₀ k₀ (take r.used input) s r.session.skip o
  leads_begun r n =
      rw (take_slice input fed.used r.used n.onward, ← append-nil o)
      (leads_then s₀ k₀ (take fed.used input) s fed.session.skip o (slice fed.used r.used input)
      s r.session.skip [] so_far (none_leads input fed.used fed.session.skip r s n))

-- ---- one line
-- what must hold before
module _ (fed : Fed) (t : Reserved) (starts out : List ℕ) (can : can_with fed t starts out ≡ true) where
  pub next_fits : fits_in fed.session t starts ≡ true
  next_fits = and_left (fits_in fed.session t starts) (leb (fed.put + most_bytes) (length out)) can

  pub next_room : fed.put + most_bytes ≤ length out
  next_room =
      leb-true (fed.put + most_bytes) (length out)
      (and_right (fits_in fed.session t starts) (leb (fed.put + most_bytes) (length out)) can)

-- the parts zs and ys that the call had come back to the tables
pub answers : {frame : Frame} {behind : ℕ} {fed : Fed} {t : Reserved} {starts out : List ℕ} {r : Fed}
    {a : Reply} {zs : List Request} {ys starts' out' : List ℕ} (put : ℕ)
    → can_with fed t starts out ≡ true
    → Replied frame fed.session t starts a zs ys starts'
    → put ≤ fed.put + most_bytes
    → take put out' ≡ take fed.put out ++ answer_lines a.head.setup starts' a.answer
    → r ≡ answered frame behind fed a put
    → Steps frame behind fed t starts out r
    (put_back frame fed.session zs ys t) out'
answers {frame} {behind} {fed} {t} {starts} {out} put can q within written is =
    let m = next_room fed t starts out can in
    let s : State = held_in fed.session t in
    rw is (record {
      used_so = refl;
      full_so = refl;
      stepped = λ input w.
          record {
            onward = w.onward;
            within = w.within;
            room = omega arith;
            fits = λ h. q.fits;
            leads =
                λ s₀ k₀ h.
                rw (q.after, written, q.bytes) (leads_whole input fed s s₀ k₀ (take fed.put out) h behind frame w);
          };
    })

-- ---- the lines
-- where a part of the input is fed as far as used: what is used so far leads on from the state at entry, and the tables will do. Of the
-- start slots only the number counts
pub record Feeding (session : Session) (input : List ℕ) (t : Reserved) (starts out : List ℕ)
    (fed : Fed) (t' : Reserved) (out' : List ℕ) : Type 0 where
  pub within : fed.used ≤ length input
  pub room : fed.put ≤ length out
  pub long : SameLengths t out t' out'
  pub fits : fits_in fed.session t starts ≡ true
  pub more : fed.full ≡ false
  pub leads :
      Leads (held_in session t) session.skip (take fed.used input)
      (held_in fed.session t') fed.session.skip (take fed.put out')

-- before the first line
abbrev pub at_first : Session → Fed
at_first session = record { session = session; used = 0; put = 0; full = false }

module _ {session : Session} {input : List ℕ} {t : Reserved} {starts out : List ℕ} where
  pub fed_begins : fits_in session t starts ≡ true → Feeding session input t starts out (at_first session) t out
  fed_begins fits =
      record {
        within = omega arith;
        room = omega arith;
        long = omega arith;
        fits = fits;
        more = refl;
        leads = leads_none (held_in session t) session.skip;
      }

  -- there is none where the tables will not do
  pub fed_none : fits_in session t starts ≡ false → FedBy session input t starts out (record (at_first session) { full = true }) t out
  fed_none fits =
      record {
        within = omega arith;
        room = omega arith;
        long = omega arith;
        fits = λ h. h;
        leads = leads_none (held_in session t) session.skip;
        left = rw fits;
      }

module _ {session : Session} {input : List ℕ} {t : Reserved} {starts out : List ℕ} {fed : Fed} {t₁ : Reserved} {out₁ : List ℕ}
    (f : Feeding session input t starts out fed t₁ out₁) where
  -- after a line
  pub fed_steps : {starts₁ : List ℕ} {r : Fed} {t₂ : Reserved} {out₂ : List ℕ} → length starts₁ ≡ length starts → r.full ≡ false
      → Stepped input fed t₁ starts₁ out₁ r t₂ out₂ → SameLengths t₁ out₁ t₂ out₂
      → Feeding session input t starts out r t₂ out₂
  fed_steps n more step l =
      let k = f.long in
      record {
        within = step.within;
        room = omega (arith, step.room, k.out_long);
        long = omega (arith, k, l);
        fits = rw (k.waiting_long, k.numbers_long, n) at (step.fits (rw (k.waiting_long, k.numbers_long, n) f.fits));
        more = more;
        leads = step.leads (held_in session t) session.skip f.leads;
      }

  -- where no whole line stands next
  pub fed_stops : {r : Fed} → Stops input fed r → FedBy session input t starts out r t₁ out₁
  unfolding do_fit
  fed_stops {r} h =
      rw (h.same, f.more) (record {
        within = h.none.within;
        room = f.room;
        long = f.long;
        fits = λ _. f.fits;
        leads = leads_begun input fed (held_in fed.session t₁) (held_in session t) session.skip (take fed.put out₁) f.leads r h.none;
        left = (h.none.left, h.none.no_feed);
      })
