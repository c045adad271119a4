-- Types of plain data, as a walk takes them at any model.
--     PlainType T      its machine value, its laws, that its values are made for nothing, and that nothing is said of them at exit
--     of_number, of-flag, of-nothing, of_array     a number, a bool, (), an array of plain data
--     of_struct, of-enum       a declared type whose fields are plain
--     made             what a value of it owns
--     fit              a number fits its width
-- Assumes `Logic`.
use Prim.Native.Nat.{ℕ, ◌<◌, ◌^◌}
use mathlib.Core.Path.{◌≡◌, refl}
use mathlib.Core.List.{[], ◌∷◌, map}
use seplogic.Ra.Ura.{Ura}
use mir.Syntax.{Width}
use mir.Val.{Val, vunit, vint, vbool, bits, Fits}
use base.Logic.{ent, emp}
use base.Fml.{ftrue}
use types.Logic.{Logic, sem}
use denote.Exit.{yes, Last, left}
use denote.RattleType.{RattleType}
use denote.Laws.{Is, Tells, Lawful, Makes}
use denote.Plain.{UInt, uint_Tells, uint_Lawful, uint_Makes, Boolean, bool_Tells, bool_Lawful, bool_Makes, Nothing, Nothing-Tells, Nothing-Lawful, Nothing-Makes}
use denote.Array.{Array, array_val, Array-Tells, Array-Lawful, Array-Makes}
use denote.Struct.Declared as SD
use denote.Struct.Laws as SL
use denote.Struct.Struct.{Plains}
use denote.Enum.Declared as ED
use denote.Enum.Laws as EL
use denote.Enum.Enum.{Plainss, Few}

pub record PlainType (T : RattleType) : Type 2 where
  pub val : T.Denot → Val
  pub tells : Tells T (Is T) (λ x. val x ∷ [])
  pub lawful : {M : Type 1} {𝓤 : Ura M} (𝓛 : Logic 𝓤) → Lawful 𝓛 T
  pub makes : {M : Type 1} {𝓤 : Ura M} (𝓛 : Logic 𝓤) → Makes 𝓛 T (Is T)
  pub last : (x : T.Denot) → Last (T.exit yes) x
  pub silent : (x : T.Denot) (w : Last (T.exit yes) x) → left (T.exit yes) x w ≡ ftrue

abbrev pub of_number : (w : Width) → PlainType (UInt w)
of_number w = record { val = vint w; tells = uint_Tells w; lawful = λ 𝓛. uint_Lawful 𝓛 w; makes = λ 𝓛. uint_Makes 𝓛 w; last = λ x. tt; silent = λ x w. refl }

abbrev pub of_flag : PlainType Boolean
of_flag = record { val = vbool; tells = bool_Tells; lawful = bool_Lawful; makes = bool_Makes; last = λ x. tt; silent = λ x w. refl }

abbrev pub of_nothing : PlainType Nothing
of_nothing = record { val = λ _. vunit; tells = Nothing-Tells; lawful = Nothing-Lawful; makes = Nothing-Makes; last = λ x. tt; silent = λ x w. refl }

-- of an array, a struct and an enum, what is said at exit is read off the type once it is known
module _ (T : RattleType) where
  abbrev LastOf : Type 0
  LastOf = (x : T.Denot) → Last (T.exit yes) x

  abbrev SilentOf : Type 1
  SilentOf = (x : T.Denot) (w : Last (T.exit yes) x) → left (T.exit yes) x w ≡ ftrue

abbrev pub of_array : {R : RattleType} → PlainType R → (n : ℕ) → LastOf (Array R n) → SilentOf (Array R n) → PlainType (Array R n)
of_array {R} p n last silent =
    record { val = λ xs. array_val (map p.val xs); tells = Array-Tells R (λ x. p.val x ∷ []) p.tells n; lawful = λ 𝓛. Array-Lawful 𝓛 R (p.lawful 𝓛) n; makes = λ 𝓛. Array-Makes 𝓛 R (p.makes 𝓛) n; last = last; silent = silent }

abbrev pub of_struct : (T : SD.Declared) → SL.Laws T → Plains (SD.fields T) → LastOf (SD.row T) → SilentOf (SD.row T) → PlainType (SD.row T)
of_struct T laws plain last silent = record { val = SL.val T laws; tells = SL.tells T laws; lawful = SL.lawful T laws; makes = λ 𝓛. SL.makes T plain 𝓛; last = last; silent = silent }

abbrev pub of_enum : (T : ED.Declared) → EL.Laws T → Plainss (ED.variants T) → Few (ED.shape T) → LastOf (ED.row T) → SilentOf (ED.row T) → PlainType (ED.row T)
of_enum T laws plain few last silent =
    record { val = EL.val T laws; tells = EL.tells T laws; lawful = λ 𝓛. EL.lawful T laws 𝓛 few; makes = λ 𝓛. EL.makes T plain 𝓛; last = last; silent = silent }

pub made : {M : Type 1} {𝓤 : Ura M} (𝓛 : Logic 𝓤) {T : RattleType} (p : PlainType T) (x : T.Denot) → Is T x (p.val x ∷ []) → ent 𝓤 (emp 𝓤) (sem 𝓛 (T.own_val x (p.val x ∷ [])))
made {𝓤 = 𝓤} 𝓛 p x is = p.makes 𝓛 x (p.val x ∷ []) is

pub fit : {w : Width} {n : ℕ} → n < 2 ^ bits w → Fits w n
fit h = record { fits = h }
