-- A list with events among its own that are no accepted tick, ask for nothing, serve nothing and drop nothing, as refused calls are:
-- whatever is read off the list is the same with them. Assumes nothing.
use Prim.Native.Nat.{ℕ}
use mathlib.Core.Path.{◌≡◌, refl, ap, ◌∙◌}
use mathlib.Core.Bool.{false, not, ◌||◌}
use mathlib.Core.List.{List, [], ◌∷◌, ◌++◌, map}
use native.Mathlib.Omega.{arith}
use lib.Dec.{eqb}
use Rattle.spec.specs.Every.{exists, count_if, select}
use Rattle.spec.specs.Tables.{State, waiting}
use Rattle.spec.specs.Chart.{starts_of}
use Rattle.spec.specs.Calls.Readings.{Booking, Victim}
use Rattle.spec.specs.Lists.{Event, WithRefused, is_opened, ticks, Asked, asked, bookings, victims, served_requests}
use Rattle.spec.specs.Lists.{waiting_requests, own_plan, slot_for, chart_bookings, submitters, served_clients, victim_clients}
use Rattle.spec.specs.Lists.{waiting_by, since_start, counts_since, empty, own, refused, Among, other}
use Rattle.spec.specs.Lists.{RefusedCall}
use Rattle.spec.proofs.Laws.Every.{or_none}
use Rattle.spec.proofs.Lists.Trace.{Passing, refused_passing}
use Rattle.spec.proofs.Lists.Trace.{same_ticks as same-ticks-one, same_asked as same-asked-one}
use Rattle.spec.proofs.Lists.Trace.{same_bookings as same-bookings-one, same_victims as same-victims-one}

abbrev pub WithPassing : List Event → List Event → Type 0
WithPassing es fs = Among Passing es fs

-- where each of the other events is such an event
pub among_pass : {Other : Event → Type 0} → ((e : Event) → Other e → Passing e) → {es fs : List Event} → Among Other es fs
    → WithPassing es fs
among_pass f empty = empty
among_pass f (own e w) = own e (among_pass f w)
among_pass f (other e o w) = other e (f e o) (among_pass f w)

-- refused calls are
refused_event_lem : (e : Event) → RefusedCall e → Passing e
refused_event_lem e (refused c number) = refused_passing c number

pub refused_pass : {es fs : List Event} → WithRefused es fs → WithPassing es fs
refused_pass w = among_pass refused_event_lem w

-- no open is accepted in the first list where none is in the second
pub none_opened : {es fs : List Event} → WithPassing es fs → exists is_opened fs ≡ false → exists is_opened es ≡ false
unfolding exists
none_opened empty h = refl
none_opened (own {es} {fs} e w) h =
    let n = or_none (is_opened e) (exists is_opened fs) h in rw n.0 (none_opened w n.1)
none_opened (other {es} {fs} e p w) h = none_opened w (or_none (is_opened e) (exists is_opened fs) h).1

-- ---- the same is read off both
pub same_ticks : {es fs : List Event} → WithPassing es fs → ticks fs ≡ ticks es
unfolding ticks count_if
same_ticks empty = refl
same_ticks (own e w) = rw (same_ticks w)
same_ticks (other {es} {fs} e p w) = same-ticks-one e fs p ∙ same_ticks w

pub same_asked : {es fs : List Event} → WithPassing es fs → asked fs ≡ asked es
unfolding asked
same_asked empty = refl
same_asked (own e w) = rw (same_ticks w, same_asked w)
same_asked (other {es} {fs} e p w) = same-asked-one e fs p ∙ same_asked w

pub same_bookings : {es fs : List Event} → WithPassing es fs → bookings fs ≡ bookings es
unfolding bookings
same_bookings empty = refl
same_bookings (own e w) = rw (same_bookings w)
same_bookings (other {es} {fs} e p w) = same-bookings-one e fs p ∙ same_bookings w

pub same_victims : {es fs : List Event} → WithPassing es fs → victims fs ≡ victims es
unfolding victims
same_victims empty = refl
same_victims (own e w) = rw (same_victims w)
same_victims (other {es} {fs} e p w) = same-victims-one e fs p ∙ same_victims w

module _ {es fs : List Event} (w : WithPassing es fs) where
  pub same_served : served_requests fs ≡ served_requests es
  unfolding served_requests
  same_served =
      λ i.
      select (λ (a : Asked). exists (λ (b : Booking). eqb b.number a.request.number) (same_bookings w i)) (same_asked w i)

  pub same_waiting : waiting_requests fs ≡ waiting_requests es
  unfolding waiting_requests
  same_waiting =
      λ i.
      select
      (λ (a : Asked). not (exists (λ (v : Victim). eqb v.number a.request.number) (same_victims w i)
      || exists (λ (b : Booking). eqb b.number a.request.number) (same_bookings w i)))
      (same_asked w i)

  pub same_plan : (s : State) → own_plan fs s ≡ own_plan es s
  unfolding own_plan
  same_plan s =
      λ i.
      map
      (λ (a : Asked). slot_for (same_bookings w i ++ chart_bookings (waiting s) (starts_of s.head.setup (waiting s))) a.request.number)
      (same_asked w i)

  pub same_waits : (client : ℕ) → waiting_by client fs ≡ waiting_by client es
  unfolding waiting_by
  same_waits client = rw same_waiting

-- ---- counts
-- such events name no client
module _ (at_start : List Event → ℕ) (names : Event → List ℕ) (period client : ℕ)
    (start-same : (es fs : List Event) → WithPassing es fs → at_start fs ≡ at_start es)
    (none_named : (e : Event) → Passing e → names e ≡ []) where
  same_since : {es fs : List Event} → WithPassing es fs
      → since_start at_start names period client fs ≡ since_start at_start names period client es
  unfolding since_start count_if
  same_since empty = refl
  same_since (own {es} {fs} e w) =
      rw (same_ticks (own e w), start-same (e ∷ es) (e ∷ fs) (own e w), same_since w)
  same_since (other {es} {fs} e p w) = rw (p.no_tick, none_named e p) (omega (arith, same_since w))

pub same_counts : {es fs : List Event} → WithPassing es fs → (period client : ℕ)
    → counts_since period client fs ≡ counts_since period client es
unfolding counts_since
same_counts w period client =
    λ i.
    record {
      submitted =
          same_since (waiting_by client) submitters period client (λ es fs v. same_waits v client)
          (λ e p. ap (map (λ (a : Asked). a.request.client)) (p.none_asked 0)) w i;
      served =
          same_since (λ _. 0) served_clients period client (λ es fs v. refl)
          (λ e p. ap (map (λ (b : Booking). b.client)) p.none_served) w i;
      dropped =
          same_since (λ _. 0) victim_clients period client (λ es fs v. refl)
          (λ e p. ap (map (λ (v : Victim). v.client)) p.none_dropped) w i;
    }
