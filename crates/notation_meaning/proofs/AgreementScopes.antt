-- What names mean in the scopes of the code.
use Rattle.std.proofs.Common.{◌≡◌, ℕ, ◌-◌, ◌<◌, ◌≤◌, true, List, [], ◌∷◌, ◌++◌, length, map, refl, ◌∙◌, append_assoc, Some}
use Rattle.std.proofs.lemmas.List.{append-nil}
use Rattle.std.specs.Prelude.{nat_le, nat_lt, slice_get}
use Rattle.std.proofs.lemmas.Bool.{le-leb, lt-ltb}
use Rattle.notation_tree.specs.declared.syntax.Expression.{Expression}
use Rattle.notation_meaning.specs.declared.scopes.MemberHere.{MemberHere}
use Rattle.notation_meaning.specs.ModelScopes.{Scope, Member, Call, member_in, argument_in, is_parameter}
use Rattle.notation_meaning.specs.ModelPrograms.{values_in}
use Rattle.notation_meaning.specs.AgreementViews.{with_members, last_value}

pub member_within : (ms : List MemberHere) (s : Scope) (n : ℕ) → member_in (with_members ms s) n ≡ last_value ms n (member_in s n)
member_within [] s n = refl
member_within (m ∷ ms) s n = member_within ms (Member m.member m.value s) n

pub argument_within : (ms : List MemberHere) (s : Scope) (n : ℕ) → argument_in (with_members ms s) n ≡ argument_in s n
argument_within [] s n = refl
argument_within (m ∷ ms) s n = argument_within ms (Member m.member m.value s) n

pub values_within : (ms : List MemberHere) (s : Scope) → values_in (with_members ms s) ≡ values_in s ++ map (λ m. m.value) ms
values_within [] s = rw append-nil refl
values_within (m ∷ ms) s =
    values_within ms (Member m.member m.value s) ∙ append_assoc (values_in s) (m.value ∷ []) (map (λ (k : MemberHere). k.value) ms)

-- the argument of a parameter of this call
pub argument_here : (first n : ℕ) (arguments : List Expression) (outer : Scope) (e : Expression) → first ≤ n → n - first < length arguments
    → slice_get arguments (n - first) ≡ Some e → argument_in (Call first arguments outer) n ≡ Some (record { expression = e; scope = outer })
argument_here first n arguments outer e le lt there =
    let a : nat_le first n ≡ true = le-leb first n le in
    let b : nat_lt (n - first) (length arguments) ≡ true = lt-ltb (n - first) (length arguments) lt in
    let inside : is_parameter first arguments n ≡ true = rw (a, b) refl in
    rw (inside, there) refl
