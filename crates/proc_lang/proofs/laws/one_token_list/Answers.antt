use Rattle.proc_lang.proofs.TokenLaws.{one_token_list, no_token_fault}
use Rattle.proc_lang.proofs.laws.one_token_list.Goals as goal

pub returns-clause-one : goal.returns-clause-one
returns-clause-one c = one_token_list

pub returns-clause-no_fault : goal.returns-clause-no_fault
returns-clause-no_fault c = no_token_fault
