use Rattle.std.proofs.Common.{ℕ, sym, subst}
use Rattle.dbg_base.specs.Clocks.{IsClock}
use Rattle.dbg_base.specs.SystemStates.{place_at, history_of}
use Rattle.proc_tree.specs.Programs.{program_of}
use Rattle.causal_world.specs.Scenes.{Scene, IsWorldOf}
use Rattle.dbg_command.specs.Tables.{state_of}
use Rattle.dbg_command.proofs.QueryAnswerLemmas.{tells_clock}
use Rattle.dbg_command.proofs.table.Table.clock.Goals as goal

pub returns : goal.returns
returns c =
    let P = program_of c.args.program.now in
    let own = subst (IsWorldOf P) (sym c.world-world.ensures) c.requires.world in
    tells_clock P (state_of c.args.self.now) c.args.pid.0 c.in_ok-counts.counts c.in_ok-known.ensures.here
    (subst (λ (w : Scene). IsClock P (history_of w.state) c.args.pid.0 (place_at w.state c.args.pid.0) c.in_ok-counts.counts)
    c.world-world.ensures
    (subst (λ (n : ℕ). IsClock P (history_of c.world-world.result.now.state) c.args.pid.0 n c.in_ok-counts.counts) c.place.ensures
    (c.in_ok-counts.ensures.clock P own)))
