-- Laws that go by cases on answers. Of what is proved of the definitions `readable` alone has a clause an answer, so that a new kind of
-- answer is written in this file; the proofs of the two functions that write answers have an arm for each besides. Assumes nothing.
use Prim.Native.Nat.{ℕ, suc, ◌<◌}
use mathlib.Core.Path.{◌≡◌, refl}
use mathlib.Core.Bool.{false}
use mathlib.Core.List.{List, [], ◌∷◌, ◌++◌}
use native.Mathlib.Omega.{arith}
use types.Run.{OneOf, miss}
use denote.RattleType.{RattleType}
use denote.Enum.Declared.{tag_of, variants}
use lib.Dec.{eqb}
use lib.ListN.{take, drop}
use Rattle.spec.specs.declared.types.Answer.{Answer}
use Rattle.spec.specs.declared.types.Answer.TheVariants.{Opened, Kept, Dropped, Served, Idle, Reported, Charted, Closed, Refused}
use Rattle.spec.specs.Calls.Readings.{kind_of, values_of, reading}
use Rattle.spec.specs.Lines.Frames.{segment_kind}
use Rattle.spec.specs.Lines.Printed.{answer_with}
use Rattle.spec.specs.contracts.types.Answer.{the_type}
use Rattle.spec.proofs.Laws.Digits.{FieldsRead}

-- ---- values of all variants but one: those that the last arm of a `match` is left with, by their tags
-- the tags of these variants, the first of which has the tag n
abbrev tags_from : ℕ → List (List RattleType) → List ℕ
tags_from n [] = []
tags_from n (v ∷ vs) = n ∷ tags_from (suc n) vs

-- those of all but the variant that has the tag t
abbrev pub tags_but : ℕ → List (List RattleType) → List ℕ
tags_but t vs = take t (tags_from 0 vs) ++ drop (suc t) (tags_from 0 vs)

-- any answer but a chart's
abbrev uncharted_tags : List ℕ
uncharted_tags = tags_but (tag_of the_type (Charted 0)) (variants the_type)

abbrev pub NotCharted : Answer → Type 0
NotCharted a = OneOf uncharted_tags (tag_of the_type a)

-- any but a refusal
abbrev unrefused_tags : List ℕ
unrefused_tags = tags_but (tag_of the_type (Refused 0)) (variants the_type)

abbrev pub NotRefused : Answer → Type 0
NotRefused a = OneOf unrefused_tags (tag_of the_type a)

-- ---- what is so of each answer's reading
pub record Readable (a : Answer) : Type 0 where
  pub kind_byte : kind_of a < 256
  pub no_segment : eqb (kind_of a) segment_kind ≡ false
  -- a refusal's kind is no other answer's
  pub refusal_kind : (reading a).refuses ≡ eqb (kind_of a) (kind_of (Refused 0))
  -- only a chart has start slots, and only a refusal refuses
  pub uncharted : NotCharted a → (reading a).charted ≡ []
  pub unrefused : NotRefused a → (reading a).refuses ≡ false
  -- a line that has its values is read as the answer
  pub read_off : (line : List ℕ) → FieldsRead 1 line (values_of a) → answer_with (kind_of a) line ≡ a

-- an answer that is no chart's and no refusal
other_readable : (a : Answer) → kind_of a < 256 → eqb (kind_of a) segment_kind ≡ false → (reading a).refuses ≡ eqb (kind_of a) (kind_of (Refused 0))
    → (reading a).charted ≡ [] → (reading a).refuses ≡ false
    → ((line : List ℕ) → FieldsRead 1 line (values_of a) → answer_with (kind_of a) line ≡ a) → Readable a
other_readable a byte segment kind charts refuses reads =
    record {
      kind_byte = byte;
      no_segment = segment;
      refusal_kind = kind;
      uncharted = λ other. charts;
      unrefused = λ other. refuses;
      read_off = reads;
    }

pub readable : (a : Answer) → Readable a
unfolding answer_with
readable Opened = other_readable _ (omega arith) refl refl refl refl (λ line r. refl)
readable (Kept number place shift) =
    other_readable _ (omega arith) refl refl refl refl (λ line r i. Kept (r.0 i) (r.1.0 i) (r.1.1.0 i))
readable (Dropped number victim client shift) =
    other_readable _ (omega arith) refl refl refl refl (λ line r i. Dropped (r.0 i) (r.1.0 i) (r.1.1.0 i) (r.1.1.1.0 i))
readable (Served slot number client) =
    other_readable _ (omega arith) refl refl refl refl (λ line r i. Served (r.0 i) (r.1.0 i) (r.1.1.0 i))
readable (Idle slot) = other_readable _ (omega arith) refl refl refl refl (λ line r i. Idle (r.0 i))
readable (Reported client submitted served dropped waiting) =
    other_readable _ (omega arith) refl refl refl refl
    (λ line r i. Reported (r.0 i) (r.1.0 i) (r.1.1.0 i) (r.1.1.1.0 i) (r.1.1.1.1.0 i))
readable (Charted count) =
    record {
      kind_byte = omega arith;
      no_segment = refl;
      refusal_kind = refl;
      uncharted = λ other. absurd (miss uncharted_tags (tag_of the_type (Charted 0)) tt other);
      unrefused = λ other. refl;
      read_off = λ line r i. Charted (r.0 i);
    }
readable (Closed slot) = other_readable _ (omega arith) refl refl refl refl (λ line r i. Closed (r.0 i))
readable (Refused number) =
    record {
      kind_byte = omega arith;
      no_segment = refl;
      refusal_kind = refl;
      uncharted = λ other. refl;
      unrefused = λ other. absurd (miss unrefused_tags (tag_of the_type (Refused 0)) tt other);
      read_off = λ line r i. Refused (r.0 i);
    }

pub not_charted : (a : Answer) → NotCharted a → (reading a).charted ≡ []
not_charted a = (readable a).uncharted

pub not_refused : (a : Answer) → NotRefused a → (reading a).refuses ≡ false
not_refused a = (readable a).unrefused
