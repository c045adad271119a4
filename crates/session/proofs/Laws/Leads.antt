-- Laws of what characters lead to: none, some and then more, a whole line, and a line that is begun.
-- Assumes nothing.
use Prim.Native.Nat.{ℕ}
use mathlib.Core.Bool.{Bool, true, false}
use mathlib.Core.List.{List, [], ◌++◌, append_assoc, append-nil}
use mathlib.Core.Path.{◌≡◌, refl, ap, ◌∙◌}
use Rattle.spec.specs.declared.types.Frame.{Frame}
use Rattle.spec.specs.Tables.{State}
use Rattle.spec.specs.Lines.Frames.{frame_of}
use Rattle.spec.specs.Lines.Session.{Text, text_of, line_outcome, replies}
use Rattle.session.specs.declared.types.Fed.{Fed}
use Rattle.frame.specs.Lines.{slice}
use Rattle.session.specs.Standing.{Begun, state_after, Reached, Leads}
use Rattle.session.specs.Feeding.{Whole, None}
use Rattle.session.proofs.Laws.Texts.{begun, ended, read_on, text_append, text_none, state_append, replies_append}

-- what is remembered of a line is of one that is begun only
pub begun_text : (skip : Bool) (p : List ℕ) → Begun skip p → text_of p ≡ begun p
begun_text false p b = rw b text_none
begun_text true p b = b.1

-- what a text leads to is what its characters lead to
reached : (s₀ : State) (p i : List ℕ) (s : State) (skip : Bool) (o : List ℕ) (t : Text) → text_of (p ++ i) ≡ t
    → state_after s₀ t.lines ≡ s → Begun skip t.rest → replies s₀ t.lines ≡ o → Reached s₀ p i s skip o
reached s₀ p i s skip o t e state rest answers =
    record {
      state = rw e state;
      begun = rw e rest;
      answers = rw e answers;
    }

-- by no characters all stays
pub leads_none : (s : State) (skip : Bool) → Leads s skip [] s skip []
unfolding state_after replies
leads_none s skip p b = reached s p [] s skip [] (begun p) (rw (append-nil p) (begun_text skip p b)) refl b refl

-- characters, and then more
pub leads_then : (s₀ : State) (k₀ : Bool) (i : List ℕ) (s : State) (k : Bool) (o j : List ℕ)
    (s' : State) (k' : Bool) (o' : List ℕ)
    → Leads s₀ k₀ i s k o → Leads s k j s' k' o' → Leads s₀ k₀ (i ++ j) s' k' (o ++ o')
leads_then s₀ k₀ i s k o j s' k' o' f g p b =
    let t : Text = text_of (p ++ i) in
    let x : Reached s₀ p i s k o = f p b in
    let y : Reached s t.rest j s' k' o' = g t.rest x.begun in
    reached s₀ p (i ++ j) s' k' (o ++ o') (read_on t j) (rw (← append_assoc p i j) (text_append (p ++ i) j))
    (rw (state_append s₀ t.lines (text_of (t.rest ++ j)).lines, x.state) y.state)
    y.begun
    (rw (replies_append s₀ t.lines (text_of (t.rest ++ j)).lines, x.state, x.answers, y.answers))

-- what stands next in the input, behind whatever line is begun
module _ (input : List ℕ) (used : ℕ) (skip : Bool) where
  pub whole_leads : (behind : ℕ) (frame : Frame) (s : State) → Whole input used skip behind frame
      → Leads s skip (slice used behind input) (line_outcome frame s).after false (line_outcome frame s).bytes
  unfolding state_after replies
  whole_leads behind frame s w p b =
      reached s p (slice used behind input) (line_outcome frame s).after false (line_outcome frame s).bytes
      (ended (w.line p)) (w.reads p b) (ap (λ (f : Frame). (line_outcome f s).after) (w.frame_so p b)) refl
      (append-nil (line_outcome (frame_of (w.line p)) s).bytes ∙ ap (λ (f : Frame). (line_outcome f s).bytes) (w.frame_so p b))

  pub none_leads : (r : Fed) (s : State) → None input used skip r → Leads s skip (slice used r.used input) s r.session.skip []
  unfolding state_after replies
  none_leads r s n p b =
      reached s p (slice used r.used input) s r.session.skip [] (begun (p ++ slice used r.used input))
      (n.reads p b) refl (n.begun p b) refl
