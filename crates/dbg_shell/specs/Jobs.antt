-- The jobs of the program.
use Rattle.std.specs.Prelude.{◌≤◌}
use Rattle.dbg_base.specs.declared.limits.TheConstants.{CALLS}
use Rattle.dbg_shell.specs.declared.jobs.Job as job
use Rattle.dbg_shell.specs.declared.jobs.Job.TheVariants.{Crew}
use Rattle.dbg_shell.specs.declared.jobs.Work as work
use Rattle.dbg_shell.specs.declared.jobs.Work.TheVariants as works
use Rattle.dbg_shell.specs.declared.jobs.Request as request
use Rattle.dbg_shell.specs.declared.jobs.Request.TheVariants as requests

-- a crew has at least one turn, and at most as many as a session takes calls
abbrev pub IsJob : job.Job → Type 0
IsJob (Crew turns) = (1 ≤ turns) × (turns ≤ CALLS)
IsJob job = Unit {0}

abbrev pub IsWork : work.Work → Type 0
IsWork (works.Job job) = IsJob job
IsWork work = Unit {0}

abbrev pub IsRequest : request.Request → Type 0
IsRequest (requests.Work work file) = IsWork work
IsRequest request = Unit {0}
