-- What waits to be written, at the front of an output's buffer.
use Rattle.std.specs.Prelude.{List, ℕ, take}
use Rattle.lister.specs.declared.Output.{Output}

abbrev pub waits : {W : Type 0} → Output W → List ℕ
waits o = take o.held o.buffer
