-- What contracts see of an expansion: the model that was read, its plain text, and how many bytes its source has.
use Rattle.std.specs.Prelude.{ℕ, List}
use Rattle.notation_programs.specs.declared.expansion.Expansion.{Expansion}
use Rattle.notation_tree.specs.declared.model.ParsedModel.{ParsedModel}

abbrev pub model_of : Expansion → ParsedModel
model_of expansion = expansion.model

abbrev pub plain_of : Expansion → List ℕ
plain_of expansion = expansion.built.text.bytes.items

abbrev pub source_length : Expansion → ℕ
source_length expansion = expansion.source
