-- How many tokens a plain text has: how many of its bytes begin one.
use Rattle.std.specs.Prelude.{ℕ, ◌+◌, Bool, ◌&&◌, ◌||◌, ◌==◌, not, if◌then◌else◌, List, [], ◌∷◌}
use Rattle.dbg_base.specs.Tokens.{is_space, is_word_byte}

-- whether two bytes, one after the other, are of one token: of a word or a number, or of `:=`, `!=`, `<=` or `>=`
abbrev pub are_joined : ℕ → ℕ → Bool
are_joined before b =
    (is_word_byte before && is_word_byte b) || (((before == 58) || (before == 33) || (before == 60) || (before == 62)) && (b == 61))

-- whether a token begins with a byte that comes after another one
abbrev pub begins_token : ℕ → ℕ → Bool
begins_token before b = not (is_space b) && not (are_joined before b)

-- how many tokens begin in a text that comes after a byte
abbrev pub count_after : ℕ → List ℕ → ℕ
count_after before [] = 0
count_after before (b ∷ bytes) = (if begins_token before b then 1 else 0) + count_after b bytes

-- a text is as if after a blank
abbrev pub token_count : List ℕ → ℕ
token_count bytes = count_after 32 bytes
