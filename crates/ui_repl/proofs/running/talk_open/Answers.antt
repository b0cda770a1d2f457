use Rattle.std.specs.Prelude.{is_some}
use Rattle.ui_session.proofs.DialogueLemmas.{quiet}
use Rattle.ui_repl.proofs.TalkLemmas.{model_talks}
use Rattle.ui_repl.proofs.running.talk_open.Goals as goal

pub play-requires-clause-quiet : goal.play-requires-clause-quiet
play-requires-clause-quiet g c = quiet (is_some c.replies-form.result.text)

pub returns-clause-talks : goal.returns-clause-talks
returns-clause-talks g c =
    model_talks c.requires.program.0 _ _ _ c.requires.program.1 c.replies-form.ensures c.play.ensures.plays
