use Rattle.std.proofs.Common.{◌≡◌, ◌+◌, length, vec_len}
use Rattle.notation_programs.specs.TokenCounts.{count_after, token_count}
use Rattle.notation_programs.proofs.plain_text.map_of.Given as goal

-- the tokens in the map and those that are left are all
abbrev pub invariant-loop-rest : goal.invariant-loop-rest
invariant-loop-rest l = vec_len l.map + count_after l.before l.rest ≡ token_count l.text

abbrev pub decreases-loop-rest : goal.decreases-loop-rest
decreases-loop-rest l = length l.rest
