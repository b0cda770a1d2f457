-- What a process can name, by number, in terms of the model.
use Rattle.dbg_base.specs.WellFormed as places
use Rattle.proc_tree.specs.declared.fitting.Bounds.{Bounds}

abbrev pub bounds_of : Bounds → places.Bounds
bounds_of bounds = record { processes = bounds.processes; own = bounds.own.0; variables = bounds.variables }
