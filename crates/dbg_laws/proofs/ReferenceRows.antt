-- Worked rows of the reference: process 0 sends twice, and process 1 receives the first message, between the two sends or after them.
use Rattle.std.proofs.Common.{◌≡◌, ◌<◌, ℕ, zero, suc, pos, List, [], ◌∷◌, None, Ok, Err, inl, true, false, refl, arith, length, get_or, ◌≤◌}
use Rattle.std.specs.Prelude.{codes}
use Rattle.dbg_base.specs.declared.expr.Operator.TheVariants.{Equal}
use Rattle.dbg_base.specs.Trees.{Number, Variable, Truth, Binary, Sends, Receives, Command, Program}
use Rattle.dbg_base.specs.Histories.{play}
use Rattle.dbg_base.specs.Orders.{Event, order}
use Rattle.dbg_base.specs.Predicates.{Conjunct}
use Rattle.dbg_base.specs.declared.refusal.Refusal.TheVariants.{ChannelEmpty}
use Rattle.dbg_base.specs.declared.said.Reply.{Reply}
use Rattle.dbg_base.specs.declared.said.Done.TheVariants.{Played}
use Rattle.dbg_base.specs.declared.said.Said.TheVariants.{Accepted}
use Rattle.dbg_base.specs.SystemStates.{after_choice}
use Rattle.dbg_base.specs.ModelStates.{ModelState, opening, with_system}
use Rattle.dbg_base.specs.Calls.{One, Step, Give}
use Rattle.dbg_base.specs.Acts.{Follows}
use Rattle.dbg_base.specs.Journals.{Journal, IsLegal}
use Rattle.dbg_base.specs.Reference.{line, IsMessage, HappenedBefore, ByMessage, IsClosed, events_of, IsMet, IsMaximal}
use Rattle.dbg_base.specs.Sessions.{IsReplay}
use Rattle.dbg_laws.proofs.ClosedSetLemmas.{closed_under}

abbrev pub send : Command
send = record { guard = Truth true; action = Sends 1 (Number (pos 7)); assignments = [] }

abbrev pub send_eight : Command
send_eight = record send { action = Sends 1 (Number (pos 8)) }

abbrev pub receive : Command
receive = record { guard = Truth true; action = Receives 0 0; assignments = [] }

abbrev pub system : Program
system =
    record { name = codes "a"; variables = []; commands = send ∷ send_eight ∷ [] }
    ∷ record { name = codes "b"; variables = (codes "y", pos 0) ∷ []; commands = receive ∷ [] }
    ∷ []

abbrev pub sent : Event
sent = record { process = 0; choice = 0 }

abbrev pub received : Event
received = record { process = 1; choice = 0 }

abbrev pub early : List Event
early = sent ∷ received ∷ sent ∷ []

abbrev late : List Event
late = sent ∷ sent ∷ received ∷ []

line_of_the_sender : line system early 0 ≡ 0 ∷ 0 ∷ []
line_of_the_sender = refl

-- the first message is received
first_message : IsMessage system early 0 0 1 0
first_message = record {
  apart = λ e. cc;
  sent = omega arith;
  sends = refl;
  received = omega arith;
  receives = refl;
  same = refl;
}

sent_before_received : HappenedBefore system early 0 0 1 0
sent_before_received = ByMessage first_message

-- the second one is not: it was sent after one other, and the receive is the first
second_message : IsMessage system early 0 1 1 0 → ⊥
second_message x = let wrong : 1 ≡ 0 = x.same in omega (arith, wrong)

-- the same in the other order
late_message : IsMessage system late 0 0 1 0
late_message = record {
  apart = λ e. cc;
  sent = omega arith;
  sends = refl;
  received = omega arith;
  receives = refl;
  same = refl;
}

-- a receive without its send is not closed
no_send : IsClosed system early (0 ∷ 1 ∷ []) → ⊥
no_send is = let wrong : 0 < 0 = is.closed 0 0 1 0 sent_before_received (omega arith) in omega (arith, wrong)

-- the events of a set alone, in the order of the list
first_of_each : events_of (1 ∷ 1 ∷ []) late ≡ sent ∷ received ∷ []
first_of_each = refl

sends_alone : events_of (2 ∷ 0 ∷ []) early ≡ sent ∷ sent ∷ []
sends_alone = refl

-- The receive without its send does not fire: without messages, happened-before would let it be a set. With one send it fires: if the first
-- receive could receive the second message, this would be none.
receive_does_not_fire : order system (events_of (0 ∷ 1 ∷ []) early) ≡ Err ChannelEmpty
receive_does_not_fire = refl

one_send_is_enough : order system (events_of (1 ∷ 1 ∷ []) early) ≡ Ok (play system ((0 ∷ []) ∷ (0 ∷ []) ∷ []))
one_send_is_enough = refl

-- y is 7 after the replay of one send and the receive
abbrev pub y_is_7 : Conjunct
y_is_7 = record { process = 1; expression = Binary Equal (Variable 0) (Number (pos 7)) }

-- The set of the first send and the receive is closed.

within_one_each : (p : ℕ) → get_or (1 ∷ 1 ∷ []) p 0 ≤ length (line system early p)
within_one_each zero = omega arith
within_one_each (suc zero) = omega arith
within_one_each (suc (suc p)) = omega arith

messages_of_one_each : (i m j n : ℕ) → IsMessage system early i m j n → n < get_or (1 ∷ 1 ∷ []) j 0 → m < get_or (1 ∷ 1 ∷ []) i 0
messages_of_one_each zero zero j n x inside = omega arith
messages_of_one_each zero (suc m) zero n x inside = absurd (x.apart refl)
messages_of_one_each zero (suc zero) (suc zero) zero x inside = let wrong : 1 ≡ 0 = x.same in absurd (omega (arith, wrong))
messages_of_one_each zero (suc (suc m)) (suc zero) zero x inside =
    let wrong : suc (suc m) < 2 = x.sent in absurd (omega (arith, wrong))
messages_of_one_each zero (suc m) (suc zero) (suc n) x inside = absurd (omega (arith, inside))
messages_of_one_each zero (suc m) (suc (suc j)) n x inside = absurd (omega (arith, inside))
messages_of_one_each (suc zero) zero j n x inside = let wrong : false ≡ true = x.sends in cc
messages_of_one_each (suc zero) (suc m) j n x inside = let wrong : suc m < 1 = x.sent in absurd (omega (arith, wrong))
messages_of_one_each (suc (suc i)) m j n x inside = let wrong : m < 0 = x.sent in absurd (omega (arith, wrong))

one_each_is_closed : IsClosed system early (1 ∷ 1 ∷ [])
one_each_is_closed = record {
  sizes = refl;
  within = within_one_each;
  closed = closed_under system early (1 ∷ 1 ∷ []) messages_of_one_each;
}

-- it meets the conjunct: the second send is between its events in one order, and after them in the other
one_each_meets : IsMet system early (y_is_7 ∷ []) (1 ∷ 1 ∷ [])
one_each_meets = record { closed = one_each_is_closed; end = play system ((0 ∷ []) ∷ (0 ∷ []) ∷ []); replayed = refl; all = (refl, tt) }

-- the receive alone does not: its set is not closed, and it does not fire
receive_alone : IsMet system early (y_is_7 ∷ []) (0 ∷ 1 ∷ []) → ⊥
receive_alone met = no_send met.closed

-- the second send did not happen before the receive: a closed set has the receive and not that send
second_send_is_apart : HappenedBefore system early 0 1 1 0 → ⊥
second_send_is_apart before = let wrong : 1 < 1 = one_each_is_closed.closed 0 1 1 0 before (omega arith) in omega (arith, wrong)

-- the sender's last event can be undone after `early`, and the only send of a shorter list cannot: its message was received
abbrev pub received_last : List Event
received_last = sent ∷ received ∷ []

only_message : IsMessage system received_last 0 0 1 0
only_message = record {
  apart = λ e. cc;
  sent = omega arith;
  sends = refl;
  received = omega arith;
  receives = refl;
  same = refl;
}

send_is_not_maximal : IsMaximal system received_last 0 → ⊥
send_is_not_maximal maximal = maximal.none_after 1 0 (ByMessage only_message)

-- A legal journal of two steps, the state that it leads to, and a replay of its two events.

abbrev pub nothing_done : ModelState
nothing_done = opening system

abbrev pub first_done : ModelState
first_done = with_system nothing_done (after_choice nothing_done.system 0 0)

abbrev pub both_done : ModelState
both_done = with_system first_done (after_choice first_done.system 1 0)

abbrev pub played : ℕ → Reply
played p = record { done = Played (record { 0 = p }) (record { 0 = 0 }); halted = None }

abbrev pub journal : Journal
journal =
    record { seat = 1; call = Give (One (Step 0 0)); said = Accepted (played 0) }
    ∷ record { seat = 1; call = Give (One (Step 1 0)); said = Accepted (played 1) }
    ∷ []

pub first_follows : Follows system (One (Step 0 0)) nothing_done (Accepted (played 0)) first_done
first_follows = inl (refl, (record { halted = None; is = refl; reported = refl }, refl))

pub second_follows : Follows system (One (Step 1 0)) first_done (Accepted (played 1)) both_done
second_follows = inl (refl, (record { halted = None; is = refl; reported = refl }, refl))

journal_is_legal : IsLegal system journal
journal_is_legal = record {
  few = omega arith;
  due = (
    (nothing_done, first_done, refl, first_follows),
    ((first_done, both_done, (played 0, first_done, first_follows, refl), second_follows), tt),
  );
}

pub journal_has_a_replay : IsReplay system journal both_done (sent ∷ received ∷ []) (play system ((0 ∷ []) ∷ (0 ∷ []) ∷ []))
journal_has_a_replay = record {
  legal = journal_is_legal;
  leads_to = (played 0, first_done, first_follows, (played 1, both_done, second_follows, refl));
  remain = refl;
  replayed = refl;
}
