-- Worked rows of lists of events, cuts and undos, computed from the definitions: a process that sends, and one that receives.
use Rattle.std.proofs.Common.{◌≡◌, pos, List, [], ◌∷◌, Some, None, true, Ok, Err, refl}
use Rattle.std.specs.Prelude.{codes}
use Rattle.dbg_base.specs.declared.refusal.Refusal.TheVariants.{GuardFalse, ChannelEmpty}
use Rattle.dbg_base.specs.Trees.{Number, Truth, Local, Sends, Receives, Command, Process, Program, command_of}
use Rattle.dbg_base.specs.Configurations.{start_of, channel_of}
use Rattle.dbg_base.specs.Histories.{History, play, progress_of}
use Rattle.dbg_base.specs.Counts.{sent as sent_among, got as got_among}
use Rattle.dbg_base.specs.Cuts.{history_at}
use Rattle.dbg_base.specs.Reversal.{without_last, before_last, taken_in, unfire, after_undos, unfire_all}
use Rattle.dbg_base.specs.Orders.{Event, order, choices_of, states_of, IsSwap, GoesOver, Stays, Swaps, target_in, source_in}

abbrev send : Command
send = record { guard = Truth true; action = Sends 1 (Number (pos 7)); assignments = [] }

abbrev receive : Command
receive = record { guard = Truth true; action = Receives 0 0; assignments = [] }

abbrev wait : Command
wait = record { guard = Truth true; action = Local; assignments = [] }

abbrev sender : Process
sender = record { name = codes "a"; variables = []; commands = send ∷ [] }

abbrev receiver : Process
receiver = record { name = codes "b"; variables = (codes "y", pos 0) ∷ []; commands = receive ∷ wait ∷ [] }

abbrev system : Program
system = sender ∷ receiver ∷ []

abbrev sent : Event
sent = record { process = 0; choice = 0 }

abbrev received : Event
received = record { process = 1; choice = 0 }

abbrev early : List Event
early = sent ∷ received ∷ sent ∷ []

abbrev late : List Event
late = sent ∷ sent ∷ received ∷ []

-- a second send before or after the receive leads to one configuration and makes one history
abbrev two_and_one : History
two_and_one = (0 ∷ 0 ∷ []) ∷ (0 ∷ []) ∷ []

leads_to_the_play : order system early ≡ Ok (play system two_and_one)
leads_to_the_play = refl

leads_to_one_place : order system early ≡ order system late
leads_to_one_place = refl

history_of_early : choices_of 2 early ≡ two_and_one
history_of_early = refl

history_of_late : choices_of 2 late ≡ choices_of 2 early
history_of_late = refl

states_of_early : states_of system early ≡ (progress_of system two_and_one).states
states_of_early = refl

states_of_late : states_of system late ≡ states_of system early
states_of_late = refl

-- a receive before its send
receives_too_early : order system (received ∷ sent ∷ []) ≡ Err ChannelEmpty
receives_too_early = refl

-- a process that does not exist makes no choice
no_such_process : order system (record { process = 2; choice = 0 } ∷ []) ≡ Err GuardFalse
no_such_process = refl

one_swap : IsSwap early late
one_swap = record {
  prefix = sent ∷ [];
  one = received;
  other = sent;
  beyond = [];
  before = refl;
  after = refl;
  apart = λ e. cc;
}

goes_over : GoesOver system (start_of system) early late
goes_over = Swaps (_, refl) one_swap (Stays (_, refl))

sends_to_the_receiver : target_in (command_of system 0 0) ≡ Some 1
sends_to_the_receiver = refl

receives_from_the_sender : source_in (command_of system 1 0) ≡ Some 0
receives_from_the_sender = refl

local_sends_to_none : target_in (command_of system 1 1) ≡ None
local_sends_to_none = refl

-- two sends, and one receive: what is counted, cut and undone
two_sent : sent_among system two_and_one 0 1 2 ≡ 2
two_sent = refl

one_got : got_among system two_and_one 1 0 1 ≡ 1
one_got = refl

cut_at_one : history_at two_and_one (1 ∷ 1 ∷ []) ≡ (0 ∷ []) ∷ (0 ∷ []) ∷ []
cut_at_one = refl

-- the play makes the receive after the two sends, since the lower-numbered process goes first
receives_after_both : before_last system two_and_one 1 ≡ play system ((0 ∷ 0 ∷ []) ∷ [] ∷ [])
receives_after_both = refl

sends_at_the_start : before_last system ((0 ∷ []) ∷ (0 ∷ []) ∷ []) 0 ≡ start_of system
sends_at_the_start = refl

took_seven : taken_in system two_and_one 1 0 ≡ pos 7
took_seven = refl

undoes_the_receive : unfire system two_and_one (play system two_and_one) 1 ≡ play system ((0 ∷ 0 ∷ []) ∷ [] ∷ [])
undoes_the_receive = refl

undoes_a_send : unfire system two_and_one (play system two_and_one) 0 ≡ play system ((0 ∷ []) ∷ (0 ∷ []) ∷ [])
undoes_a_send = refl

undoes_all : unfire_all system two_and_one (0 ∷ 1 ∷ 0 ∷ []) (play system two_and_one) ≡ start_of system
undoes_all = refl

nothing_is_left : after_undos two_and_one (0 ∷ 1 ∷ 0 ∷ []) ≡ [] ∷ [] ∷ []
nothing_is_left = refl

-- a send whose message was received may not be undone: without it the receive is not played
abbrev one_and_one : History
one_and_one = (0 ∷ []) ∷ (0 ∷ []) ∷ []

receive_stays_unplayed : (progress_of system (without_last one_and_one 0)).unplayed ≡ [] ∷ (0 ∷ []) ∷ []
receive_stays_unplayed = refl

-- nor is the cut without it consistent: one message is received, and none is sent
one_received : got_among system one_and_one 1 0 1 ≡ 1
one_received = refl

none_sent : sent_among system one_and_one 0 1 0 ≡ 0
none_sent = refl

-- a message that was received returns before one that was sent later
abbrev seven_and_eight : Program
seven_and_eight =
    record sender { commands = send ∷ record send { action = Sends 1 (Number (pos 8)) } ∷ [] } ∷ receiver ∷ []

took_the_first : channel_of (play seven_and_eight ((0 ∷ 1 ∷ []) ∷ (0 ∷ []) ∷ [])) 0 1 ≡ pos 8 ∷ []
took_the_first = refl

goes_to_the_start : channel_of (unfire seven_and_eight ((0 ∷ 1 ∷ []) ∷ (0 ∷ []) ∷ [])
    (play seven_and_eight ((0 ∷ 1 ∷ []) ∷ (0 ∷ []) ∷ [])) 1) 0 1 ≡ pos 7 ∷ pos 8 ∷ []
goes_to_the_start = refl
