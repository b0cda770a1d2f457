use Rattle.std.proofs.Common.{◌≡◌, ◌^◌, ◌<◌, true, take}
use Rattle.std.specs.List.{list_all}
use Rattle.std.specs.Str.Parse.{digits_value}
use Rattle.dbg_base.specs.Tokens.{is_digit}
use Rattle.ui_repl.proofs.words.number_of.Given as goal

abbrev pub invariant-loop-b : goal.invariant-loop-b
invariant-loop-b l = record {
  few : l.number < 10 ^ l.b-index;
  digits : list_all is_digit (take l.b-index l.word) ≡ true;
  value : l.number ≡ digits_value 10 (take l.b-index l.word);
}
