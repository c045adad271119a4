-- How the program says why it stops. Assumes nothing.
use Rattle.std.specs.Prelude.{ℕ, List, codes}
use Rattle.session_main.specs.declared.failure.Failure.{Failure}
use Rattle.session_main.specs.declared.failure.Failure.TheVariants.{Unreadable, Unwritten}

abbrev pub text_of : Failure → List ℕ
text_of Unreadable = codes "the input could not be read"
text_of Unwritten = codes "the answers could not be written"
