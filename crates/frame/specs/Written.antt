-- The fields that the code writes, as the fields of an answer. Assumes nothing.
use Rattle.spec.specs.Calls.Readings.{Field, field}
use Rattle.frame.specs.declared.answers.Field.{Field as WrittenField}

abbrev pub written : WrittenField → Field
written f = field f.width f.value
