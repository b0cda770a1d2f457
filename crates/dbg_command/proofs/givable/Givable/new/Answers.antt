use Rattle.dbg_command.proofs.givable.Givable.new.Goals as goal

pub invariant_of-result : goal.invariant_of-result
invariant_of-result c = record { givable = ∣ c.requires ∣₁ }
