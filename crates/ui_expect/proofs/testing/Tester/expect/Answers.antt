use Rattle.std.proofs.Common.{rules}
use Rattle.ui_expect.proofs.testing.Tester.expect.Goals as goal

pub returns : goal.returns
returns c = (c.in_ok-expected.expected, c.in_ok-expected.ensures, (search rules), (search rules))
