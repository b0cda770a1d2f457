-- Commands of a batch.
use Rattle.std.proofs.Common.{◌≡◌, List, [], ◌∷◌, ◌++◌, sym, ap, ◌∙◌, subst, arith}
use Rattle.dbg_base.specs.declared.ids.Pid.{Pid}
use Rattle.dbg_base.specs.declared.call.Plan.{Plan}
use Rattle.dbg_base.specs.declared.call.Plan.TheVariants as plans
use Rattle.dbg_base.specs.declared.call.Plan.TheOpen as layer
use Rattle.dbg_base.specs.declared.call.Plan.TheFolds.{fold-roll-Plan}
use Rattle.dbg_base.specs.Calls.{Order, IsOne, AreCommands, order_of}

one_next : (pid : Pid) → IsOne (order_of (plans.Next pid))
one_next pid = subst IsOne (sym (ap order_of (sym (plans.rolls-Next pid)) ∙ fold-roll-Plan Order _ (layer.Next pid))) tt

-- `next` for two processes
two_nexts : (one other : Pid) → AreCommands (plans.Next one ∷ plans.Next other ∷ [])
two_nexts one other = record { few = omega arith; each = (one_next one, (one_next other, tt)) }

pub two_pushed : (none first both : List Plan) (one other : Pid) → none ≡ [] → first ≡ none ++ plans.Next one ∷ []
    → both ≡ first ++ plans.Next other ∷ [] → AreCommands both
two_pushed none first both one other is_none is_first is_both =
    subst AreCommands (sym (is_both ∙ ap (λ (l : List Plan). l ++ plans.Next other ∷ [])
    (is_first ∙ ap (λ (l : List Plan). l ++ plans.Next one ∷ []) is_none))) (two_nexts one other)
