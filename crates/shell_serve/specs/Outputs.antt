-- The output of a run in terms of transcripts.
use Rattle.std.specs.Prelude.{◌≡◌, ◌⊎◌, ℕ, List, [], ◌∷◌, ◌++◌, Option, Some, None, Result, Ok, Err}
use Rattle.dbg_base.specs.declared.said.Said.{Said}
use Rattle.dbg_base.specs.declared.said.Said.TheVariants.{Refused}
use Rattle.dbg_base.specs.declared.refusal.Refusal.{Refusal}
use Rattle.dbg_base.specs.declared.refusal.Refusal.TheVariants.{Memory, JournalFull}
use Rattle.dbg_base.specs.Trees.{Program}
use Rattle.dbg_base.specs.Checks.{Reads}
use Rattle.dbg_base.specs.Journals.{Journal}
use Rattle.dbg_base.specs.CommandLines.{Request}
use Rattle.dbg_base.specs.Requests.{AsksOrRefuses}
use Rattle.dbg_base.specs.Replies.{reply_text, refusal_text}
use Rattle.dbg_base.specs.Shell.{Parts, as_line, end_text, no_end_text, RefusesProgram}
use Rattle.dbg_laws.specs.Transcripts.{first_stage, IsTranscript}

-- The output for a parsed line, and the entry that it makes, if any. A call is not entered if memory runs out or the journal is full.
abbrev pub WritesParsed : Program → Result (Option Request) Refusal → List ℕ → Journal → Type 0
WritesParsed P (Err refusal) out J = (out ≡ as_line (refusal_text P refusal)) × (J ≡ [])
WritesParsed P (Ok None) out J = (out ≡ []) × (J ≡ [])
WritesParsed P (Ok (Some request)) out J =
    (said : Said) × (out ≡ as_line (reply_text P request.call said))
    × ((J ≡ record { seat = request.seat; call = request.call; said = said } ∷ [])
    ⊎ ((J ≡ []) × ((said ≡ Refused Memory) ⊎ (said ≡ Refused JournalFull))))

-- the output for these lines, and the entries that they make
abbrev pub WritesLines : Program → List (List ℕ) → List ℕ → Journal → Type 0
WritesLines P [] out J = (out ≡ []) × (J ≡ [])
WritesLines P (line ∷ lines) out J =
    (asked : Result (Option Request) Refusal) × AsksOrRefuses P line asked × (first others : List ℕ) × (made later : Journal)
    × WritesParsed P asked first made × WritesLines P lines others later × (out ≡ first ++ others) × (J ≡ made ++ later)

-- The output for an input: the program is refused, or the entries that its lines make are a transcript.
abbrev pub TranscriptOutput : List ℕ → Option Parts → List ℕ → Type 0
TranscriptOutput input None out = out ≡ no_end_text input
TranscriptOutput input (Some parts) out =
    ((P : Program) × Reads parts.program P × (replies : List ℕ) × (J : Journal) × WritesLines P parts.commands replies J
    × IsTranscript P (first_stage ∷ []) J × (out ≡ replies ++ end_text input)) ⊎ RefusesProgram parts out
