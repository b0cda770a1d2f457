-- What the definitions of a model's meaning see of the values of the code.
use Rattle.std.specs.Prelude.{ℕ, ℤ, ◌==◌, List, [], ◌∷◌, ◌++◌, map, take, Option, Some, if◌then◌else◌}
use Rattle.std.specs.Option.{option_map}
use Rattle.dbg_base.specs.Trees.{Process, process_of, names_of}
use Rattle.proc_tree.specs.Programs.{program_of}
use Rattle.notation_tree.specs.declared.arithmetic.ConstantValue.{ConstantValue}
use Rattle.notation_tree.specs.ComputedValues.{value_of}
use Rattle.notation_programs.specs.declared.building.ProcessCopy.{ProcessCopy}
use Rattle.notation_programs.specs.declared.building.CommandOrigin.{CommandOrigin}
use Rattle.notation_meaning.specs.declared.played.PlayedModel.{PlayedModel}
use Rattle.notation_meaning.specs.declared.scopes.MemberHere.{MemberHere}
use Rattle.notation_meaning.specs.declared.scopes.PlaceScope as code
use Rattle.notation_meaning.specs.declared.scopes.PlaceScope.TheVariants as codes
use Rattle.notation_meaning.specs.declared.families.FamilyPlace.{FamilyPlace}
use Rattle.notation_meaning.specs.declared.setting.Known.{Known}
use Rattle.notation_meaning.specs.declared.setting.PlainSetting.{PlainSetting}
use Rattle.notation_meaning.specs.declared.setting.ProcessHere.{ProcessHere}
use Rattle.notation_meaning.specs.declared.items.PlainProgress.{PlainProgress}
use Rattle.notation_meaning.specs.declared.setting.ModelHere.{ModelHere}
use Rattle.notation_meaning.specs.declared.programs.ProgramProgress.{ProgramProgress}
use Rattle.notation_tree.specs.declared.syntax.Reference.{Reference, out-Reference}
use Rattle.notation_meaning.specs.ModelScopes.{Constants, Context, Scope, Top, Member, Call}
use Rattle.notation_meaning.specs.ModelFamilies.{Place}
use Rattle.notation_meaning.specs.PlainExpressions.{Setting, HasName}
use Rattle.notation_meaning.specs.ModelPrograms.{Copy, Played, Frame, Progress, ModelProgress}

-- the values of constants
abbrev pub constants_of : List (Option ConstantValue) → Constants
constants_of = map (option_map value_of)

-- a scope with these members in it, the last innermost
abbrev pub with_members : List MemberHere → Scope → Scope
with_members [] s = s
with_members (m ∷ ms) s = with_members ms (Member m.member m.value s)

-- the value of the last of these members that has this number, or else the value outside of them
abbrev pub last_value : List MemberHere → ℕ → Option ℤ → Option ℤ
last_value [] n outside = outside
last_value (m ∷ ms) n outside = last_value ms n (if m.member == n then Some m.value else outside)

-- a scope
abbrev pub scope_of : code.PlaceScope → Scope
scope_of codes.Top = Top
scope_of (codes.Members' members place outer) = with_members members.now (scope_of outer)
scope_of (codes.Member' number value place outer) = Member number value (scope_of outer)
scope_of (codes.Call' first arguments place outer) = Call first arguments.now (scope_of outer)

-- a place, by the members of its family
abbrev pub place_of : Scope → List MemberHere → Place
place_of s members = record { scope = with_members members s; indices = map (λ m. m.value) members }

-- the members of a place
abbrev pub members_of : FamilyPlace → List MemberHere
members_of place = place.members.items

-- places within a scope
abbrev pub places_of : Scope → List FamilyPlace → List Place
places_of s = map (λ place. place_of s (members_of place))

-- the members of a place, with each of these values for one more member
abbrev pub longer_members : List MemberHere → ℕ → List ℤ → List (List MemberHere)
longer_members members number = map (λ z. members ++ (record { member = number; value = z } ∷ []))

-- what is known
abbrev pub context_of : Known → Context
context_of known = record { definitions = known.definitions.now; constants = constants_of known.constants.now }

-- the plain name of a reference is this one
abbrev pub IsNamed : Context → Scope → Reference → List ℕ → Type 0
IsNamed K s reference = HasName K s (out-Reference reference).name (out-Reference reference).indices.items

-- what an expression refers to
abbrev pub setting_of : PlainSetting → Setting
setting_of code = record {
  context = context_of code.known;
  processes = names_of (program_of code.program.now);
  variables = map (λ variable. variable.0) (process_of (program_of code.program.now) code.own.0).variables;
}

-- the labels of commands
abbrev pub texts_of : List CommandOrigin → List (List ℕ)
texts_of = map (λ command. command.label.items)

-- what is known of a process
abbrev pub copy_of : ProcessCopy → Copy
copy_of copy = record {
  declaration = copy.declaration;
  members = copy.members.items;
  constants = constants_of copy.constants.items;
  labels = texts_of copy.commands.items;
}

-- a model, what is known of it, and a plain program
abbrev pub played_of : PlayedModel → Played
played_of played = record {
  model = played.model.now;
  constants = constants_of played.constants.now;
  copies = map copy_of played.copies.now;
  program = program_of played.program.now;
}

-- the process that is compared
abbrev pub own_process : ProcessHere → Process
own_process here = process_of (program_of here.model.program.now) here.own.0

-- what is the same for all items of a process
abbrev pub frame_of : ProcessHere → Frame
frame_of here = record {
  definitions = here.model.definitions.now;
  family = here.family;
  processes = names_of (program_of here.model.program.now);
  variables = map (λ variable. variable.0) (own_process here).variables;
}

-- what the items so far mean: the first variables and commands of the process, and their labels
abbrev pub progress_of : ProcessHere → PlainProgress → Progress
progress_of here progress = record {
  constants = constants_of progress.constants.items;
  variables = take progress.variables (own_process here).variables;
  commands = take progress.commands (own_process here).commands;
  labels = take progress.commands (texts_of here.copy.now.commands.items);
}

-- what the declarations so far mean: the first processes of the program, and what is known of them
abbrev pub model_progress_of : ModelHere → ProgramProgress → ModelProgress
model_progress_of here progress = record {
  constants = constants_of progress.constants.items;
  processes = take progress.processes (program_of here.program.now);
  copies = take progress.processes (map copy_of here.copies.now);
}
