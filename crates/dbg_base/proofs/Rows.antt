-- Worked rows, computed from the definitions: a counter that feeds a consumer, and two processes that count their messages.
use Rattle.std.proofs.Common.{◌≡◌, ℕ, ℤ, pos, negsuc, List, [], ◌∷◌, ◌++◌, Some, None, Ok, Err, true, false, refl}
use Rattle.std.specs.Prelude.{codes}
use Rattle.dbg_base.specs.declared.expr.Direction.TheVariants.{Sent, Got}
use Rattle.dbg_base.specs.declared.expr.Operator.TheVariants.{Add, Subtract, Divide, Remainder, Less, Greater, Or, Equal}
use Rattle.dbg_base.specs.declared.refusal.Refusal.TheVariants.{GuardFalse, ChannelEmpty, UnknownChoice}
use Rattle.dbg_base.specs.declared.refusal.Refusal.TheVariants.{NothingToRedo}
use Rattle.dbg_base.specs.Trees.{Number, Variable, Truth, Count, Binary, Local, Sends, Receives, Command, Process, Program}
use Rattle.dbg_base.specs.LocalStates.{LocalState}
use Rattle.dbg_base.specs.Evaluation.{Num, Tru, evaluate}
use Rattle.dbg_base.specs.Configurations.{start_of, values_of, channel_of}
use Rattle.dbg_base.specs.Firing.{fire, effect_of}
use Rattle.dbg_base.specs.Histories.{play, local_state, progress_of}
use Rattle.dbg_base.specs.SystemStates.{SystemState, opening_state, configuration_of, line_of, redo_line, after_choice, after_undo}
use Rattle.dbg_base.specs.SystemStates.{after_rollback}
use Rattle.dbg_base.specs.WellFormed.{is_well_formed}
use Rattle.dbg_base.specs.Choices.{lowest_enabled, step_choice, next_choice, redo_choice}
use Rattle.dbg_base.specs.Shell.{parts_of, read_lines}

abbrev counter : Process
counter = record {
  name = codes "a";
  variables = (codes "x", pos 0) ∷ [];
  commands = record {
    guard = Binary Less (Variable 0) (Number (pos 3));
    action = Sends 1 (Binary Add (Variable 0) (Number (pos 1)));
    assignments = (0, Binary Add (Variable 0) (Number (pos 1))) ∷ [];
  } ∷ [];
}

abbrev consumer : Process
consumer = record {
  name = codes "b";
  variables = (codes "y", pos 0) ∷ (codes "n", pos 0) ∷ [];
  commands = record {
    guard = Truth true;
    action = Receives 0 0;
    assignments = (1, Binary Add (Variable 1) (Number (pos 1))) ∷ [];
  } ∷ record {
    guard = Binary Greater (Variable 1) (Number (pos 0));
    action = Local;
    assignments = (1, Binary Subtract (Variable 1) (Number (pos 1))) ∷ [];
  } ∷ [];
}

abbrev pub system : Program
system = counter ∷ consumer ∷ []

-- a process with these values that knows no other process
abbrev valued : List ℤ → LocalState
valued values = record { values = values; sent = []; got = [] }

-- the least signed number of 64 bits divided by -1, and rounding toward zero
quotient_overflows : evaluate (Binary Divide (Number (negsuc 9223372036854775807)) (Number (negsuc 0))) (valued []) ≡ None
quotient_overflows = refl

remainder_overflows : evaluate (Binary Remainder (Number (negsuc 9223372036854775807)) (Number (negsuc 0))) (valued []) ≡ None
remainder_overflows = refl

quotient_toward_zero : evaluate (Binary Divide (Number (negsuc 6)) (Number (pos 2))) (valued []) ≡ Some (Num (negsuc 2))
quotient_toward_zero = refl

remainder_of_the_dividend : evaluate (Binary Remainder (Number (negsuc 6)) (Number (pos 2))) (valued []) ≡ Some (Num (negsuc 0))
remainder_of_the_dividend = refl

sum_overflows : evaluate (Binary Add (Variable 0) (Number (pos 9223372036854775807))) (valued (pos 1 ∷ [])) ≡ None
sum_overflows = refl

-- `((x = 0) or ((x / 0) = 1))`
or_stops : evaluate (Binary Or (Binary Equal (Variable 0) (Number (pos 0)))
    (Binary Equal (Binary Divide (Variable 0) (Number (pos 0))) (Number (pos 1)))) (valued (pos 0 ∷ [])) ≡ Some (Tru true)
or_stops = refl

-- at the start the counter fires and the consumer does not: its first command finds no message, and the guard of its second is false

nothing_to_receive : fire system (start_of system) 1 0 ≡ Err ChannelEmpty
nothing_to_receive = refl

guard_is_false : fire system (start_of system) 1 1 ≡ Err GuardFalse
guard_is_false = refl

nothing_enabled : lowest_enabled system (start_of system) 1 ≡ None
nothing_enabled = refl

counter_enabled : lowest_enabled system (start_of system) 0 ≡ Some 0
counter_enabled = refl

-- the play of two counts and one receive
abbrev pub two_and_one : List (List ℕ)
two_and_one = (0 ∷ 0 ∷ []) ∷ (0 ∷ []) ∷ []

plays_two_and_one : play system two_and_one ≡ record {
  states = record { values = pos 2 ∷ []; sent = 0 ∷ 2 ∷ []; got = 0 ∷ 0 ∷ [] }
      ∷ record { values = pos 1 ∷ pos 1 ∷ []; sent = 0 ∷ 0 ∷ []; got = 1 ∷ 0 ∷ [] } ∷ [];
  channels = ([] ∷ (pos 2 ∷ []) ∷ []) ∷ ([] ∷ [] ∷ []) ∷ [];
}
plays_two_and_one = refl

-- the local state of the counter after its first event in that play
counter_after_one : local_state system two_and_one 0 1 ≡ record { values = pos 1 ∷ []; sent = 0 ∷ 1 ∷ []; got = 0 ∷ 0 ∷ [] }
counter_after_one = refl

-- a receive without its send is not played
orphan_stays_unplayed : (progress_of system ([] ∷ (0 ∷ []) ∷ [])).unplayed ≡ [] ∷ (0 ∷ []) ∷ []
orphan_stays_unplayed = refl

-- after `next a` the variable of a is 1
after_next : values_of (configuration_of system (after_choice (opening_state system) 0 0)) 0 ≡ pos 1 ∷ []
after_next = refl

-- the choice that a process makes at the start, or why it makes none
no_such_command : step_choice system (opening_state system) 1 2 ≡ Err UnknownChoice
no_such_command = refl

step_of_a_false_guard : step_choice system (opening_state system) 1 1 ≡ Err GuardFalse
step_of_a_false_guard = refl

first_choice : next_choice system (opening_state system) 0 ≡ Ok 0
first_choice = refl

nothing_to_redo : redo_choice system (opening_state system) 0 ≡ Err NothingToRedo
nothing_to_redo = refl

-- two counts and one receive, and the receive undone: its message is at the head of the channel again, and can be received again
abbrev received : SystemState
received = record { lines = two_and_one; places = 2 ∷ 1 ∷ [] }

undone : after_undo received 1 ≡ record { lines = two_and_one; places = 2 ∷ 0 ∷ [] }
undone = refl

both_on_their_way : channel_of (configuration_of system (after_undo received 1)) 0 1 ≡ pos 1 ∷ pos 2 ∷ []
both_on_their_way = refl

can_be_made_again : redo_line (after_undo received 1) 1 ≡ 0 ∷ []
can_be_made_again = refl

made_again : redo_choice system (after_undo received 1) 1 ≡ Ok 0
made_again = refl

-- a rollback keeps the lines, so all of it can be made again
rolled_back : after_rollback received (1 ∷ 0 ∷ []) ≡ record { lines = two_and_one; places = 1 ∷ 0 ∷ [] }
rolled_back = refl

can_be_made_again_after : redo_line (after_rollback received (0 ∷ 0 ∷ [])) 0 ≡ 0 ∷ 0 ∷ []
can_be_made_again_after = refl

-- a step cuts the redo line
cut_line : line_of (after_choice (after_undo (after_undo received 0) 0) 0 0) 0 ≡ 0 ∷ []
cut_line = refl

-- counted messages: a sends twice, each time the count of earlier sends plus 10, and b receives and stores what it has counted
abbrev sender : Process
sender = record {
  name = codes "a";
  variables = (codes "x", pos 0) ∷ [];
  commands = record {
    guard = Binary Less (Count Sent 1) (Number (pos 2));
    action = Sends 1 (Binary Add (Count Sent 1) (Number (pos 10)));
    assignments = [];
  } ∷ [];
}

abbrev second_receive : Command
second_receive = record {
  guard = Binary Equal (Count Got 0) (Number (pos 1));
  action = Receives 0 0;
  assignments = (1, Binary Add (Variable 0) (Count Got 0)) ∷ [];
}

abbrev receiver : Process
receiver = record {
  name = codes "b";
  variables = (codes "y", pos 0) ∷ (codes "z", pos 0) ∷ [];
  commands = record {
    guard = Binary Equal (Count Got 0) (Number (pos 0));
    action = Receives 0 0;
    assignments = [];
  } ∷ second_receive ∷ [];
}

abbrev pair : Program
pair = sender ∷ receiver ∷ []

-- the play of two sends and two receives
abbrev two_and_two : List (List ℕ)
two_and_two = (0 ∷ 0 ∷ []) ∷ (0 ∷ 1 ∷ []) ∷ []

plays_two_and_two : play pair two_and_two ≡ record {
  states = record { values = pos 0 ∷ []; sent = 0 ∷ 2 ∷ []; got = 0 ∷ 0 ∷ [] }
      ∷ record { values = pos 11 ∷ pos 12 ∷ []; sent = 0 ∷ 0 ∷ []; got = 2 ∷ 0 ∷ [] } ∷ [];
  channels = ([] ∷ [] ∷ []) ∷ ([] ∷ [] ∷ []) ∷ [];
}
plays_two_and_two = refl

-- it sends the count before that send
sends_ten_and_eleven : channel_of (play pair ((0 ∷ 0 ∷ []) ∷ [] ∷ [])) 0 1 ≡ pos 10 ∷ pos 11 ∷ []
sends_ten_and_eleven = refl

-- the second receive reads its message, and the count before it
reads_the_count_before : effect_of second_receive (local_state pair two_and_two 1 1) (Some (pos 11)) ≡ Some (record {
  sets = (0, pos 11) ∷ (1, pos 12) ∷ [];
  message = None;
})
reads_the_count_before = refl

no_third_send : fire pair (play pair two_and_two) 0 0 ≡ Err GuardFalse
no_third_send = refl

pair_is_well_formed : is_well_formed pair ≡ true
pair_is_well_formed = refl

-- a process that does not exist has no count
counts_of_no_process : evaluate (Count Got 2) (local_state pair two_and_two 1 2) ≡ None
counts_of_no_process = refl

-- the system is well formed; the counter twice is not: names differ, and it would send to itself
system_is_well_formed : is_well_formed system ≡ true
system_is_well_formed = refl

twice_is_not : is_well_formed (counter ∷ counter ∷ []) ≡ false
twice_is_not = refl

-- a carriage return before a line end is dropped, and a last line needs no end
input_in_parts : parts_of (read_lines (codes "p" ++ 10 ∷ codes "%%" ++ 13 ∷ 10 ∷ codes "1 next a" ++ 10 ∷ codes "1 v")) ≡ Some (record {
  program = codes "p" ++ 10 ∷ [];
  commands = codes "1 next a" ∷ codes "1 v" ∷ [];
})
input_in_parts = refl
