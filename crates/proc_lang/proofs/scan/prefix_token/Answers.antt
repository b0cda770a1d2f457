use Rattle.std.proofs.Common.{take, drop, sym, take-append-drop}
use Rattle.proc_lang.specs.Scanning.{token_in}
use Rattle.proc_lang.proofs.scan.prefix_token.Goals as goal

pub returns-in-None : goal.returns-in-None
returns-in-None c =
    let bytes = c.args.bytes.now in
    let n = c.in-Some.piece.length in
    let prefix = c.in-Some.ensures in (
      take n bytes,
      drop n bytes,
      token_in c.in-Some.piece bytes,
      prefix.spelled,
      prefix.longest,
      sym (take-append-drop n bytes),
      c.in-None.ensures,
    )
