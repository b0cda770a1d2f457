-- Which plain lines a command line is expanded to.
use Rattle.std.specs.Prelude.{◌≡◌, ℕ, List, [], ◌∷◌, length, map, nat_lt}
use Rattle.std.specs.Bool.{MatchBool}
use Rattle.dbg_base.specs.declared.limits.TheConstants.{LINE_BYTES}
use Rattle.proc_tree.specs.Programs.{program_of}
use Rattle.notation_meaning.specs.AgreementViews.{constants_of, copy_of}
use Rattle.notation_meaning.specs.ModelPrograms.{Played}
use Rattle.notation_meaning.specs.CommandLines.{StandsFor}
use Rattle.notation_meaning.specs.declared.command_line.CommandLine.{CommandLine}
use Rattle.notation.specs.declared.session.ExpandedProgram.{ExpandedProgram}

-- a model, what is known of its constants and processes, and its plain program
abbrev pub played_in : ExpandedProgram → Played
played_in expanded = record {
  model = expanded.expansion.model;
  constants = constants_of expanded.expansion.built.constants.items;
  copies = map copy_of expanded.expansion.built.processes.items;
  program = program_of expanded.program;
}

-- the lines that a line stands for, or the line itself if it is too long
abbrev pub IsExpanded : Played → List ℕ → CommandLine → List (List ℕ) → Type 0
IsExpanded L line tree lines = MatchBool (nat_lt LINE_BYTES (length line)) (lines ≡ line ∷ []) (StandsFor L line tree lines)
