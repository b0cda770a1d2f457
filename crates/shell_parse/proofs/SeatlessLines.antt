-- Lines that name no seat, as lines of the first seat.
use Rattle.std.proofs.Common.{◌≡◌, ◌≤◌, ◌+◌, ℕ, false, List, [], ◌∷◌, ◌++◌, length, Option, Some, Result, Ok, Err, refl, sym, ap, subst, inl, inr, arith, rules}
use Rattle.std.specs.Prelude.{codes, nat_lt}
use Rattle.std.specs.Option.{option_map}
use Rattle.dbg_base.specs.declared.call.Call as call
use Rattle.dbg_base.specs.declared.refusal.Refusal.{Refusal}
use Rattle.dbg_base.specs.declared.limits.TheConstants.{LINE_BYTES}
use Rattle.dbg_base.specs.Calls.{Call, call_of}
use Rattle.dbg_base.specs.Trees.{Program}
use Rattle.dbg_base.specs.CommandLines.{Request, map_ok, after_word, without_return}
use Rattle.dbg_base.specs.Requests.{Asks, AsksWithin, AsksCall, MayTakeMemory}
use Rattle.shell_parse.specs.Lines.{IsParsed, IsCommandParsed, requested, seat_line}
use Rattle.shell_parse.proofs.CommandWordLemmas.{where_false}

-- only the last byte of a line may be dropped
returned : (bytes : List ℕ) → without_return (codes "1 " ++ bytes) ≡ codes "1 " ++ without_return bytes
returned [] = refl
returned (b ∷ bytes) = refl

-- Bytes that are short enough.
module _ (P : Program) (bytes : List ℕ) (short : length bytes + 2 ≤ LINE_BYTES) where
  -- the first seat asks for what the command asks for
  asked : (call : Result Call Refusal) → AsksCall P (32 ∷ without_return bytes) call
      → Asks P (codes "1 " ++ bytes) (map_ok (λ made. Some (record { seat = 1; call = made })) call)
  asked call asks =
      let test : nat_lt LINE_BYTES (length (codes "1 " ++ bytes)) ≡ false = search rules in
      let result : Result (Option Request) Refusal = map_ok (λ made. Some (record { seat = 1; call = made })) call in
      where_false _ _ _ test
      (subst (λ (line : List ℕ). AsksWithin P line result) (sym (returned bytes)) (call, asks, refl))

  pub seatless : (made : Result call.Call Refusal) → IsCommandParsed P (32 ∷ without_return bytes) made
      → IsParsed P (codes "1 " ++ bytes) (seat_line 1 made)
  seatless (Ok made) (inl asks) = inl (asked (Ok (call_of made)) asks)
  seatless (Err refusal) (inl asks) = inl (asked (Err refusal) asks)
  seatless made (inr none) = inr (
    record {
      short = omega (arith, short);
      command = subst (λ (line : List ℕ). MayTakeMemory (after_word line)) (sym (returned bytes)) none.0;
    },
    ap (λ (r : Result call.Call Refusal). map_ok (option_map requested) (seat_line 1 r)) none.1,
  )
