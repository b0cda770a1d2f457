-- What an interactive session writes.
use Rattle.std.specs.Prelude.{◌≡◌, ◌⊎◌, ℕ, Bool, true, false, List, [], ◌++◌, Result, Ok, Err, is_some}
use Rattle.shell_io.specs.Seen.{Seen}
use Rattle.shell_io.specs.declared.health.Health.TheVariants.{Fine}
use Rattle.dbg_base.specs.Checks.{Reads}
use Rattle.dbg_base.specs.Trees.{Program}
use Rattle.dbg_base.specs.declared.fault.ProgFault.{ProgFault}
use Rattle.dbg_base.specs.Shell.{fault_text, no_end_line_text, too_long_text}
use Rattle.shell_print.specs.Outcomes.{source_after}
use Rattle.shell_print.specs.declared.outcome.Served.{Served}
use Rattle.shell_print.specs.declared.outcome.Served.TheVariants as outcomes
use Rattle.shell_print.specs.declared.outcome.ServeFault.{ServeFault}
use Rattle.shell_print.specs.declared.outcome.ServeFault.TheVariants.{Read, Write, Memory}
use Rattle.shell_serve.specs.declared.framing.Input.{Input}
use Rattle.shell_serve.specs.Sources.{Given}
use Rattle.shell_serve.specs.Sessions.{SaysAll, WritesBy}
use Rattle.proc_tree.specs.Programs.{program_of}
use Rattle.notation_programs.specs.Expansions.{plain_of}
use Rattle.notation_meaning.specs.ModelPrograms.{Played, ProgramOf}
use Rattle.notation.specs.Lines.{played_in}
use Rattle.notation.specs.declared.session.ExpandedProgram.{ExpandedProgram}
use Rattle.ui_session.specs.Dialogues.{interactive, IsExplanation}
use Rattle.ui_session.specs.Named.{showing}
use Rattle.ui_repl.specs.declared.written_program.WrittenProgram.{WrittenProgram}
use Rattle.ui_repl.specs.declared.opening.Opening.{Opening}
use Rattle.ui_repl.specs.declared.written_program.ReadText.{ReadText}
use Rattle.ui_repl.specs.declared.written_program.ReadText.TheVariants as texts
use Rattle.ui_repl.specs.declared.opening.Opening.TheVariants.{Session, Refused}

-- a program is refused
abbrev pub IsFaultText : List ℕ → Type 0
IsFaultText due = (due ≡ no_end_line_text) ⊎ ((fault : ProgFault) × (due ≡ fault_text fault))

-- the same, with an explanation
abbrev pub IsRefusal : List ℕ → Type 0
IsRefusal out = (due reported : List ℕ) × IsFaultText due × IsExplanation reported × (out ≡ due ++ reported)

-- The program that a text is read as: a text of the process language, or one in the model notation, which is read as a tree.
abbrev pub IsReadAs : List ℕ → Bool → Program → Type 0
IsReadAs text false P = Reads text P
IsReadAs text true P = (played : Played) × (played.program ≡ P) × ProgramOf played

-- a session whose program is in the model notation, or is not, is one of such a program
abbrev pub IsProgramOf : WrittenProgram → Program → Type 0
IsProgramOf written P = (text : List ℕ) × IsReadAs text (is_some written.expanded) P

-- The output of a session of the program of some text for some lines, and then this text. The replies of one in the model notation are
-- shown with the names that its author gave.
abbrev pub IsSession : List ℕ → List ℕ → Type 0
IsSession end out =
    (text : List ℕ) × (is_model : Bool) × (P : Program) × IsReadAs text is_model P × (lines : List Given)
    × SaysAll interactive (showing is_model) P lines end out

-- the output that is due if an interactive session ends so: that of a session, or what is written if none begins
abbrev pub IsTalk : Result Served ServeFault → List ℕ → Type 0
IsTalk (Ok outcomes.Done) out = IsSession [] out
IsTalk (Ok outcomes.TooLong) out = IsSession too_long_text out ⊎ (out ≡ too_long_text)
IsTalk (Ok outcomes.Refused) out = IsRefusal out
IsTalk (Err Read) out = IsSession [] out ⊎ (out ≡ [])
IsTalk (Err Write) out = IsSession [] out ⊎ IsSession too_long_text out ⊎ (out ≡ too_long_text) ⊎ IsRefusal out
IsTalk (Err Memory) out = out ≡ []

-- That output was written, or a prefix of it if the writer failed. If memory ran out, nothing was written.
abbrev pub Talks : Seen → Result Served ServeFault → Seen → Type 0
Talks old result new = WritesBy old new result (IsTalk result)

-- A session was opened with such an input, and nothing was written; or a refusal was reported, or not in full, and the reader did not fail.
abbrev pub Opens : (Input → Type 0) → Seen → Opening → Seen → Type 0
Opens IsInput old (Session written session) new =
    IsInput session.input × (new ≡ old) × IsProgramOf written (program_of session.program)
Opens IsInput old (Refused told) new = Talks old told new × (source_after told ≡ Fine)

-- the plain text of a model reads as its program, which the tree of the model means
abbrev pub IsExpansion : ExpandedProgram → Type 0
IsExpansion expanded =
    Reads (plain_of expanded.expansion) (program_of expanded.program) × ProgramOf (played_in expanded)

-- what a text was read as: a program, or none
abbrev pub IsText : ReadText → Type 0
IsText (texts.Program written program) = IsProgramOf written (program_of program)
IsText (texts.Wrong fault) = Unit {0}
