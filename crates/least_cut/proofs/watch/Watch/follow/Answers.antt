use Rattle.std.proofs.Common.{◌≡◌, ◌+◌, length, take, ap, ◌∙◌, arith}
use Rattle.dbg_base.specs.Trees.{tree_of}
use Rattle.dbg_base.specs.LocalStates.{LocalState}
use Rattle.least_cut.specs.Watches.{TruthLine, WatchState, WatchRoom}
use Rattle.least_cut.specs.declared.watch.Watch.TheInside.{Inside}
use Rattle.least_cut.proofs.FollowedWatchLemmas.{alike_now, kept, cut, goes_on, ends}
use Rattle.least_cut.proofs.watch.Watch.follow.Goals as goal
use Rattle.least_cut.proofs.watch.Watch.follow.Goals.{then-len-states, else-len-states}

pub assign-requires-clause-values : goal.assign-requires-clause-values
assign-requires-clause-values c =
    let alike = alike_now c.args.world.now c.args.self.now.state c.requires.world c.requires.was c.pid-pid.result.0 c.place.result
    (c.pid-pid.ensures ∙ ap (λ (r : WatchRoom). r.state.line.process) c.self.view_is) c.place.ensures c.env.result.now c.env.ensures.past in
    ap (λ (r : WatchRoom). length r.state.env.values) c.self.view_is ∙ alike.values

pub assign-requires-clause-sent : goal.assign-requires-clause-sent
assign-requires-clause-sent c =
    let alike = alike_now c.args.world.now c.args.self.now.state c.requires.world c.requires.was c.pid-pid.result.0 c.place.result
    (c.pid-pid.ensures ∙ ap (λ (r : WatchRoom). r.state.line.process) c.self.view_is) c.place.ensures c.env.result.now c.env.ensures.past in
    ap (λ (r : WatchRoom). length r.state.env.sent) c.self.view_is ∙ alike.sent

pub assign-requires-clause-got : goal.assign-requires-clause-got
assign-requires-clause-got c =
    let alike = alike_now c.args.world.now c.args.self.now.state c.requires.world c.requires.was c.pid-pid.result.0 c.place.result
    (c.pid-pid.ensures ∙ ap (λ (r : WatchRoom). r.state.line.process) c.self.view_is) c.place.ensures c.env.result.now c.env.ensures.past in
    ap (λ (r : WatchRoom). length r.state.env.got) c.self.view_is ∙ alike.got

abbrev state_in : Inside → WatchState
state_in i = record { line = i.truths.line; expression = tree_of i.expr; env = i.env }

pub loop-self-init : goal.loop-self-init
loop-self-init c =
    let old : WatchState = c.args.self.now.state in
    let process : c.pid-pid.result.0 ≡ old.line.process =
    c.pid-pid.ensures ∙ ap (λ (r : WatchRoom). r.state.line.process) c.self.view_is in
    let known : c.len.result ≡ length old.line.truths =
    c.len.ensures ∙ ap (λ (r : WatchRoom). length r.state.line.truths) c.self.view_is in
    elim c.if-len-states.branch [
      | then-len-states x ↦ record {
        watched = cut c.args.world.now old c.requires.world c.requires.was c.pid-pid.result.0 c.place.result process c.place.ensures
            x.env.result.now (state_in c.if-len-states.self-inside) x.env.ensures.past (omega (arith, known, x.if-len-states.true))
            (ap (λ (i : Inside). state_in i) x.self-inside-is
            ∙ ap (λ (l : TruthLine). record { line = l; expression = tree_of c.self.inside.expr; env = x.assign.new.self }) x.truncate.ensures.line
            ∙ ap (λ (e : LocalState). record {
              line = record c.self.inside.truths.line { truths = take (c.place.result + 1) c.self.inside.truths.line.truths };
              expression = tree_of c.self.inside.expr;
              env = e;
            }) x.assign.ensures
            ∙ ap (λ (r : WatchRoom). record r.state {
              line = record r.state.line { truths = take (c.place.result + 1) r.state.line.truths };
              env = x.env.result.now;
            }) c.self.view_is);
        room = ap (λ (i : Inside). i.truths.room) x.self-inside-is ∙ x.truncate.ensures.room
            ∙ ap (λ (r : WatchRoom). r.room) c.self.view_is;
      }
      | else-len-states x ↦ record {
        watched = kept c.args.world.now old c.requires.world c.requires.was c.pid-pid.result.0 c.place.result process c.place.ensures
            (state_in c.if-len-states.self-inside)
            (ap (λ (i : Inside). state_in i) x.self-inside-is ∙ ap (λ (r : WatchRoom). r.state) c.self.view_is)
            (omega (arith, known, x.if-len-states.false));
        room = ap (λ (i : Inside). i.truths.room) x.self-inside-is ∙ ap (λ (r : WatchRoom). r.room) c.self.view_is;
      }
    ]

pub loop-self-preserved : goal.loop-self-preserved
loop-self-preserved c =
    let old : WatchState = c.args.self.now.state in
    let process : c.pid-pid.result.0 ≡ old.line.process =
    c.pid-pid.ensures ∙ ap (λ (r : WatchRoom). r.state.line.process) c.self.view_is in
    let known : c.len-in-loop-self.result ≡ length c.loop-self.self.state.line.truths =
    c.len-in-loop-self.ensures ∙ ap (λ (r : WatchRoom). length r.state.line.truths) c.self-in-loop-self.view_is in
    record {
      watched = goes_on c.args.world.now old c.requires.world c.requires.was c.pid-pid.result.0 c.place.result process c.place.ensures
          c.loop-self.self.state c.loop-self.invariant.watched c.advance.new.self.state (omega (arith, known, c.loop-self-test.true))
          c.advance.ensures.next;
      room = c.advance.ensures.room ∙ c.loop-self.invariant.room;
    }

pub returns-clause-of : goal.returns-clause-of
returns-clause-of c =
    let old : WatchState = c.args.self.now.state in
    let process : c.pid-pid.result.0 ≡ old.line.process =
    c.pid-pid.ensures ∙ ap (λ (r : WatchRoom). r.state.line.process) c.self.view_is in
    let known : c.len-in-loop-self.result ≡ length c.loop-self.self.state.line.truths =
    c.len-in-loop-self.ensures ∙ ap (λ (r : WatchRoom). length r.state.line.truths) c.self-in-loop-self.view_is in
    ends c.args.world.now old c.requires.world c.requires.was c.pid-pid.result.0 c.place.result process c.place.ensures
    c.loop-self.self.state c.loop-self.invariant.watched (omega (arith, known, c.loop-self-test.false))
