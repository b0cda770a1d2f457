-- Sessions with expected replies.
use Rattle.std.specs.Prelude.{◌≡◌, ℕ, Bool, true, false, ◌==◌, ◌+◌, ◌&&◌, ◌||◌, List, [], ◌∷◌, ◌++◌, Option, Some, None, MatchOption}
use Rattle.std.specs.Prelude.{if◌then◌else◌}
use Rattle.std.specs.Bool.{MatchBool}
use Rattle.std.specs.Str.{bytes_eq}
use Rattle.std.specs.declared.alloc.Global.{Global}
use Rattle.std.specs.declared.vec.Vec.{Vec}
use Rattle.ui_session.specs.Dialogues.{first_word, is_remark}
use Rattle.ui_repl.specs.Expected.{IsComparable, wanted_reply}
use Rattle.ui_repl.specs.declared.reply_forms.ReplyForms.{ReplyForms}
use Rattle.ui_expect.specs.declared.comparing.Tested.{Tested}
use Rattle.ui_expect.specs.declared.comparing.Tested.TheVariants.{Passed, Failed, Unchecked}
use Rattle.ui_expect.specs.declared.comparing.PlayedLine.{PlayedLine}
use Rattle.ui_expect.specs.declared.comparing.PlayedLine.TheVariants as line

-- the last reply to the line, in one of its forms
abbrev pub has_reply : PlayedLine → List ℕ → Bool
has_reply (line.Answered reply) wanted = bytes_eq reply.shown.items wanted || bytes_eq reply.plain.items wanted
has_reply before wanted = false

-- Each line that expects a reply comes after the line that has it as its last reply, and only remarks are between the two. The first line
-- comes after this one.
abbrev pub are_met : PlayedLine → List PlayedLine → Bool
are_met before [] = true
are_met before (line.Remark ∷ lines) = are_met before lines
are_met before (line.Expected wanted ∷ lines) = has_reply before wanted.items && are_met (line.Expected wanted) lines
are_met before (next ∷ lines) = are_met next lines

-- how many lines expect a reply
abbrev pub expected_count : List PlayedLine → ℕ
expected_count [] = 0
expected_count (line.Expected wanted ∷ lines) = 1 + expected_count lines
expected_count (next ∷ lines) = expected_count lines

-- the last reply to a line, if no line expects it yet
abbrev pub pending : Option ReplyForms → List PlayedLine
pending None = []
pending (Some reply) = line.Answered reply ∷ []

-- the result if all expected replies are met or not, and so many are expected
abbrev pub tested_by : Bool → ℕ → Tested
tested_by all_met count = if all_met then (if count == 0 then Unchecked else Passed) else Failed

-- A session passes if each expected reply is met, and at least one is expected.
abbrev pub tested_of : List PlayedLine → Tested
tested_of lines = tested_by (are_met line.Unanswered lines) (expected_count lines)

-- What a line that is read adds to the lines before. One that expects a reply adds the reply to the line before, and what it expects.
abbrev pub Reads : List ℕ → List PlayedLine → Option ReplyForms → List PlayedLine → Option ReplyForms → Type 0
Reads text lines reply new after =
    MatchOption (wanted_reply text)
    (MatchBool (is_remark (first_word text)) ((new ≡ lines ++ (line.Remark ∷ [])) × (after ≡ reply))
    ((new ≡ lines ++ (line.Unanswered ∷ [])) × (after ≡ None)))
    (λ wanted. (made : Vec ℕ Global) × IsComparable wanted made.items × (new ≡ lines ++ pending reply ++ (line.Expected made ∷ []))
    × (after ≡ None))
