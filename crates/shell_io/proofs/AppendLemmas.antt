-- Bytes that are written one after the other.
use Rattle.std.proofs.Common.{◌≡◌, List, [], ℕ, ◌++◌, Result, Ok, ap, ◌∙◌}
use Rattle.shell_io.specs.declared.health.Health.{Health}
use Rattle.shell_io.specs.declared.health.Health.TheVariants.{Fine}
use Rattle.shell_io.specs.Healths.{health_after}
use Rattle.std.proofs.KnownBytes.{Appends-nil, Appends-trans}
use Rattle.shell_io.specs.Seen.{Seen, Appended, CutShort}

pub appended_none : (a : Seen) → Appended a a []
appended_none a = record { appends = Appends-nil a.contents; fine = λ fine. fine }

pub appended_then : (a b c : Seen) (x y : List ℕ) → Appended a b x → Appended b c y → Appended a c (x ++ y)
appended_then a b c x y h k = record {
  appends = Appends-trans a.contents b.contents c.contents x y h.appends k.appends;
  fine = λ fine. k.fine (h.fine fine);
}

pub cut_then : (a b c : Seen) (x y : List ℕ) → Appended a b x → CutShort b c y → CutShort a c (x ++ y)
cut_then a b c x y h k = record {
  appends = Appends-trans a.contents b.contents c.contents x y h.appends k.appends;
  failed = λ fine. k.failed (h.fine fine);
}

-- after a call that succeeded the device has not failed
pub stays_fine : {A E : Type 0} {old new : Health} {r : Result A E} {x : A} → r ≡ Ok x → new ≡ health_after old r → old ≡ Fine → new ≡ Fine
stays_fine {old = old} {r = r} ended is fine = is ∙ ap (λ (h : Health). health_after h r) fine ∙ ap (λ o. health_after Fine o) ended
