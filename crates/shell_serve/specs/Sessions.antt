-- The output of a session whose lines are answered in some manner.
use Rattle.std.specs.Prelude.{◌≡◌, ◌⊎◌, ℕ, Bool, true, false, List, [], ◌∷◌, ◌++◌, Option, Some, None, Result, Ok, Err, codes}
use Rattle.std.specs.List.{list_any}
use Rattle.std.specs.Bool.{MatchBool}
use Rattle.shell_io.specs.Seen.{Seen, Appended}
use Rattle.dbg_base.specs.declared.refusal.Refusal.TheVariants as refusals
use Rattle.dbg_base.specs.Trees.{Program}
use Rattle.dbg_base.specs.Journals.{Journal, IsLegal}
use Rattle.dbg_base.specs.Replies.{refusal_text}
use Rattle.dbg_base.specs.Shell.{as_line, too_long_text, AnswersLine}
use Rattle.shell_print.specs.declared.outcome.Served.{Served}
use Rattle.shell_print.specs.declared.outcome.Served.TheVariants as outcomes
use Rattle.shell_print.specs.declared.outcome.ServeFault.{ServeFault}
use Rattle.shell_print.specs.declared.outcome.ServeFault.TheVariants.{Memory, Read, Write}
use Rattle.shell_print.specs.Writing.{Writes}
use Rattle.shell_serve.specs.declared.framing.Next.{Next}
use Rattle.shell_serve.specs.declared.framing.Next.TheVariants.{End, TooLong}
use Rattle.shell_serve.specs.Written.{WritesSome, WritesPrefix}
use Rattle.shell_serve.specs.Sources.{Given, GivesAll}

-- The manner in which a session answers its lines.
pub record Manner : Type 1 where
  -- the possible output before a line is answered
  pub before : Given → List ℕ → Type 0
  -- the lines that the session answers without a call
  pub is_directive : List ℕ → Bool
  -- the command line for which a line is taken
  pub seated : List ℕ → List ℕ
  -- the possible output after a reply, after a refusal, and for a directive
  pub explains : List ℕ → Type 0
  -- the lines that end the session
  pub ends : List ℕ → Bool

-- which texts may be shown for the line of a reply
abbrev pub Showing : Type 1
Showing = List ℕ → List ℕ → Type 0

-- that line alone
abbrev pub exactly : Showing
exactly due shown = shown ≡ due

-- the line is taken as one of the first seat, or as it is
abbrev pub IsSeated : Bool → List ℕ → List ℕ → Type 0
IsSeated needs_seat line seated = MatchBool needs_seat (seated ≡ codes "1 " ++ line) (seated ≡ line)

-- the replies of a run may be the only output
pub record MayBeQuiet (M : Manner) (Shows : Showing) : Type 0 where
  pub before : (line : Given) → M.before line []
  pub explains : M.explains []
  pub shows : (due : List ℕ) → Shows due due

-- what is shown for the reply of a run to a command line, and the journal after it
abbrev pub ShowsReply : Showing → Program → List ℕ → Journal → List ℕ → Journal → Type 0
ShowsReply Shows P line J reply J' = (due : List ℕ) × AnswersLine P line J due J' × Shows due reply

-- A directive has no reply, and leaves the journal as it is. Each other line has the reply of a run. A line for which memory ran out is
-- refused for that, and leaves the journal as it is.
abbrev pub Replies : Manner → Showing → Program → Given → Journal → List ℕ → Journal → Type 0
Replies M Shows P None J reply J' = Shows (as_line (refusal_text P refusals.Memory)) reply × (J' ≡ J)
Replies M Shows P (Some line) J reply J' =
    MatchBool (M.is_directive line) ((reply ≡ []) × (J' ≡ J)) (ShowsReply Shows P (M.seated line) J reply J')

-- the output for a line, from a journal to the journal after it
abbrev pub Says : Manner → Showing → Program → Given → Journal → List ℕ → Journal → Type 0
Says M Shows P line J out J' =
    (first reply reported : List ℕ) × M.before line first × Replies M Shows P line J reply J' × M.explains reported
    × (out ≡ first ++ (reply ++ reported))

-- what is shown for the line of a reply, and an explanation after it
abbrev pub IsExplained : Manner → Showing → List ℕ → List ℕ → Type 0
IsExplained M Shows due out = (shown reported : List ℕ) × Shows due shown × M.explains reported × (out ≡ shown ++ reported)

-- A text of this form was written, or if the writer failed a prefix of it.
pub record WritesForm {A : Type 0} (Form : List ℕ → Type 0) (old : Seen) (result : Result A ServeFault) (new : Seen) : Type 0 where
  pub text : List ℕ
  pub form : Form text
  pub written : Writes old new result text

-- The text for the line was written, or if the writer failed a prefix of it, and this is the journal after it.
pub record WritesLine {A : Type 0} (M : Manner) (Shows : Showing) (P : Program) (line : Given) (J : Journal) (old : Seen)
    (result : Result A ServeFault)
    (new : Seen) (after : Journal) : Type 0 where
  pub text : List ℕ
  pub says : Says M Shows P line J text after
  pub written : Writes old new result text

-- The reply to a line that was made and an explanation were written, or a prefix of that.
pub record WritesAnswer {A : Type 0} (M : Manner) (Shows : Showing) (P : Program) (line : List ℕ) (J : Journal) (old : Seen)
    (result : Result A ServeFault)
    (new : Seen) (after : Journal) : Type 0 where
  pub reply : List ℕ
  pub reported : List ℕ
  pub replies : Replies M Shows P (Some line) J reply after
  pub explains : M.explains reported
  pub written : Writes old new result (reply ++ reported)

-- The reply to a command line, which has its seat, and an explanation were written, or a prefix of that.
pub record WritesReply {A : Type 0} (M : Manner) (Shows : Showing) (P : Program) (line : List ℕ) (J : Journal) (old : Seen)
    (result : Result A ServeFault)
    (new : Seen) (after : Journal) : Type 0 where
  pub reply : List ℕ
  pub reported : List ℕ
  pub answers : ShowsReply Shows P line J reply after
  pub explains : M.explains reported
  pub written : Writes old new result (reply ++ reported)

-- the output for these lines, one after the other
abbrev pub SaysLines : Manner → Showing → Program → List Given → Journal → List ℕ → Journal → Type 0
SaysLines M Shows P [] J out J' = (out ≡ []) × (J' ≡ J)
SaysLines M Shows P (line ∷ lines) J out J' =
    (first others : List ℕ) × (between : Journal) × Says M Shows P line J first between × SaysLines M Shows P lines between others J'
    × (out ≡ first ++ others)

-- the output for these lines from the opening on, and then this text: the calls that the lines make are a legal journal
abbrev pub SaysAll : Manner → Showing → Program → List Given → List ℕ → List ℕ → Type 0
SaysAll M Shows P lines end out = (text : List ℕ) × (J : Journal) × SaysLines M Shows P lines [] text J × IsLegal P J × (out ≡ text ++ end)

-- the line ends the session
abbrev pub ends_session : Manner → Given → Bool
ends_session M None = false
ends_session M (Some line) = M.ends line

-- none of the lines ends the session
abbrev pub NoneEnds : Manner → List Given → Type 0
NoneEnds M lines = list_any (ends_session M) lines ≡ false

-- the last of the lines ends the session, and no other
abbrev pub LastEnds : Manner → List Given → Type 0
LastEnds M lines =
    (others : List Given) × (last : Given) × (lines ≡ others ++ last ∷ []) × NoneEnds M others × (ends_session M last ≡ true)

-- What ended a session after its last line, and the text that is due then: a line; the end of the source, a source that gives too much, or
-- one that failed; or the writer, at the last line or at the report that the source gives too much.
abbrev pub EndsBy : Manner → List Given → (Result Next ServeFault → Type 0) → Type 0 → Result Served ServeFault → List ℕ → Type 0
EndsBy M lines Stops Same (Ok outcomes.Done) end = (end ≡ []) × (Same × LastEnds M lines ⊎ Stops (Ok End) × NoneEnds M lines)
EndsBy M lines Stops Same (Ok outcomes.TooLong) end = (end ≡ too_long_text) × Stops (Ok TooLong) × NoneEnds M lines
EndsBy M lines Stops Same (Ok outcomes.Refused) end = ⊥
EndsBy M lines Stops Same (Err Read) end = (end ≡ []) × Stops (Err Read) × NoneEnds M lines
EndsBy M lines Stops Same (Err Write) end = (end ≡ []) × Same ⊎ (end ≡ too_long_text) × Stops (Ok TooLong)
EndsBy M lines Stops Same (Err Memory) end = (end ≡ []) × (lines ≡ []) × Same

-- The output that is due was written, or a prefix of it if the writer failed. If memory ran out, nothing was written.
abbrev pub WritesBy : Seen → Seen → Result Served ServeFault → (List ℕ → Type 0) → Type 0
WritesBy old new (Ok served) Due = WritesSome old new Due
WritesBy old new (Err Read) Due = WritesSome old new Due
WritesBy old new (Err Write) Due = WritesPrefix old new Due
WritesBy old new (Err Memory) Due = Appended old new []

-- A session of a program: which lines the source gave, how it ended, and what was written.
pub record Plays {S R : Type 0} (Gives : S → R → Given → S → R → Type 0) (Stops : S → R → Result Next ServeFault → S → R → Type 0)
    (M : Manner) (Shows : Showing) (P : Program) (s : S) (r : R) (old : Seen) (result : Result Served ServeFault) (t : S) (u : R)
    (new : Seen) : Type 0 where
  pub lines : List Given
  pub at : S
  pub reader : R
  pub end : List ℕ
  pub gives : GivesAll Gives s r lines at reader
  pub ends : EndsBy M lines (λ stop. Stops at reader stop t u) ((t ≡ at) × (u ≡ reader)) result end
  pub writes : WritesBy old new result (SaysAll M Shows P lines end)
