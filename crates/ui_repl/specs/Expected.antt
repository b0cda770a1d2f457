-- Replies that are compared with expected ones.
use Rattle.std.specs.Prelude.{◌≡◌, ◌⊎◌, ℕ, ◌==◌, not, Bool, true, false, List, [], ◌∷◌, drop, Option, Some, None, if◌then◌else◌}
use Rattle.std.specs.List.{prefix_len}
use Rattle.std.specs.Char.{is_ascii_whitespace}
use Rattle.ui_session.specs.Dialogues.{first_word}
use Rattle.ui_session.specs.Named.{plain_text}
use Rattle.ui_repl.specs.PlainLines.{trimmed}

-- the reply as it is, or, in a model, with plain names
abbrev pub IsComparable : List ℕ → List ℕ → Type 0
IsComparable reply made = (made ≡ reply) ⊎ (made ≡ plain_text reply)

-- the bytes without the blanks around them
abbrev pub trimmed_bytes : List ℕ → List ℕ
trimmed_bytes bytes = trimmed (drop (prefix_len is_ascii_whitespace bytes) bytes)

abbrev pub begins_with : ℕ → List ℕ → Bool
begins_with mark [] = false
begins_with mark (byte ∷ bytes) = byte == mark

-- the reply that a line expects: what follows its first `>`, if its first word begins so
abbrev pub wanted_reply : List ℕ → Option (List ℕ)
wanted_reply line =
    if begins_with 62 (first_word line) then Some (trimmed_bytes (drop 1 (drop (prefix_len (λ byte. not (byte == 62)) line) line))) else None
