use Rattle.dbg_base.specs.Trees.{process_of}
use Rattle.proc_tree.specs.Programs.{program_of}
use Rattle.notation_meaning.specs.AgreementViews.{copy_of}
use Rattle.notation_meaning.proofs.AgreementPrograms.{process_done}
use Rattle.notation_meaning.proofs.programs.process.Goals as goal

pub returns : goal.returns
returns c =
    let own = c.in_ok-check_own.ensures in (
      process_of (program_of c.args.here.now.program.now) c.args.number,
      copy_of c.in_ok-copy.copy.now,
      c.in_ok-check_process_name.ensures.0,
      c.in_ok-copy.ensures,
      process_done _ _ _ _ _ _ _ _ _ c.in_ok-check_process_name.ensures.1 c.in_ok-later.ensures c.in_ok-check_copy.ensures.0
          c.in_ok-check_copy.ensures.1 (rw (c.as_slice.ensures.value, c.as_slice-2.ensures.value) at own),
    )
