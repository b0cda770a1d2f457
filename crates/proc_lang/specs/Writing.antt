-- Parsed programs of the code as those of the model.
use Rattle.std.specs.Prelude.{List, map}
use Rattle.dbg_base.specs.Grammar as model
use Rattle.proc_lang.specs.declared.syntax.Named.{Named}
use Rattle.proc_lang.specs.declared.syntax.Phrase.{Phrase}
use Rattle.proc_lang.specs.declared.syntax.Phrase.TheVariants.{Number, Name, Truth, Count, Not', Negate', Binary'}
use Rattle.proc_lang.specs.declared.syntax.WrittenVariable.{WrittenVariable}
use Rattle.proc_lang.specs.declared.syntax.WrittenAction.{WrittenAction}
use Rattle.proc_lang.specs.declared.syntax.WrittenAction.TheVariants.{Local, Send, Receive}
use Rattle.proc_lang.specs.declared.syntax.WrittenAssignment.{WrittenAssignment}
use Rattle.proc_lang.specs.declared.syntax.WrittenCommand.{WrittenCommand}
use Rattle.proc_lang.specs.declared.syntax.WrittenProcess.{WrittenProcess}

abbrev pub named_of : Named → model.Named
named_of named = record { at = named.at; name = named.name }

abbrev pub phrase_of : Phrase → model.Phrase
phrase_of (Number at number) = model.Number at number.value
phrase_of (Name at name) = model.Name at name
phrase_of (Truth at value) = model.Truth at value
phrase_of (Count at direction other) = model.Count at direction (named_of other)
phrase_of (Not' at place operand) = model.Not at (phrase_of operand)
phrase_of (Negate' at place operand) = model.Negate at (phrase_of operand)
phrase_of (Binary' at operator left_place left right_place right) = model.Binary at operator (phrase_of left) (phrase_of right)

abbrev pub variable_of : WrittenVariable → model.WrittenVariable
variable_of variable = record { name = named_of variable.name; start = variable.start }

abbrev pub action_of : WrittenAction → model.WrittenAction
action_of Local = model.Local
action_of (Send target value) = model.Sends (named_of target) (phrase_of value)
action_of (Receive source variable) = model.Receives (named_of source) (named_of variable)

abbrev pub assignment_of : WrittenAssignment → model.WrittenAssignment
assignment_of assignment = record { variable = named_of assignment.variable; value = phrase_of assignment.value }

abbrev pub command_of : WrittenCommand → model.WrittenCommand
command_of command = record {
  at = command.at;
  guard = phrase_of command.guard;
  action = action_of command.action;
  assignments = map assignment_of command.assignments.items;
}

abbrev pub process_of : WrittenProcess → model.WrittenProcess
process_of process = record {
  name = named_of process.name;
  variables = map variable_of process.variables.items;
  commands = map command_of process.commands.items;
}

abbrev pub processes_of : List WrittenProcess → List model.WrittenProcess
processes_of = map process_of
