-- The words of directives.
use Rattle.std.specs.Prelude.{Bool, true, false, Option, Some}
use Rattle.ui_session.specs.declared.directives.Verb.{Verb}
use Rattle.ui_session.specs.declared.directives.Verb.TheVariants.{Quit}

-- it is the word that ends the session
abbrev pub is_quit_verb : Option Verb → Bool
is_quit_verb (Some Quit) = true
is_quit_verb verb = false
