-- What a process can name, in terms of the model.
use Rattle.dbg_base.specs.Checks as names
use Rattle.proc_lang.specs.declared.scope.Scope.{Scope}

abbrev pub scope_of : Scope → names.Scope
scope_of scope = record { processes = scope.processes.now.all.now; own = scope.own; variables = scope.variables.now }
