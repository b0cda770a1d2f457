use Rattle.shell_serve.proofs.SessionLemmas.{unopened}
use Rattle.shell_serve.proofs.running.begin.Goals as goal

pub returns-in-Err-clause-plays : goal.returns-in-Err-clause-plays
returns-in-Err-clause-plays g c = unopened g.S.LineSource.Gives g.S.LineSource.Stops g.T.Observer.manner (g.F.ReplyForm.Shows c.args.form.now) g.L.Run.program _ _ _
