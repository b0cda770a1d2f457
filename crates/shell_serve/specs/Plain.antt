-- A run, as a session: the replies are the only output, each line is a command line with its seat, and none ends the run.
use Rattle.std.specs.Prelude.{◌≡◌, false, []}
use Rattle.shell_serve.specs.Sessions.{Manner}

abbrev pub plain : Manner
plain = record {
  before = λ line out. out ≡ [];
  is_directive = λ line. false;
  seated = λ line. line;
  explains = λ out. out ≡ [];
  ends = λ line. false;
}
