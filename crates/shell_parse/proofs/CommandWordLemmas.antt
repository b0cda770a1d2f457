-- A single command, by its command word and the bytes after it.
use Rattle.std.proofs.Common.{◌≡◌, ℕ, Bool, true, false, List, Result, sym, ap, ◌∙◌, subst, inl, inr}
use Rattle.std.specs.Prelude.{codes}
use Rattle.std.specs.Bool.{MatchBool}
use Rattle.std.specs.Str.{bytes_eq}
use Rattle.std.proofs.lemmas.Slice.Eq.{bytes_eq-Decides}
use Rattle.dbg_base.specs.declared.call.Call as call
use Rattle.dbg_base.specs.declared.refusal.Refusal.{Refusal}
use Rattle.dbg_base.specs.Calls.{call_of}
use Rattle.dbg_base.specs.Trees.{Program}
use Rattle.dbg_base.specs.CommandLines.{map_ok, call_of_words, words_of, next_word, after_word, sets_break}
use Rattle.shell_parse.specs.Lines.{IsOneParsed, IsBreakParsed, IsCommandParsed}

where_true : (A B : Type 0) (t : Bool) → t ≡ true → A → MatchBool t A B
where_true A B true e a = a
where_true A B false e a = cc

pub where_false : (A B : Type 0) (t : Bool) → t ≡ false → B → MatchBool t A B
where_false A B true e b = cc
where_false A B false e b = b

module _ (P : Program) (bytes word rest : List ℕ) (result : Result call.Call Refusal) (first : next_word bytes ≡ word)
    (after : after_word bytes ≡ rest) where
  pub by_break : bytes_eq word (codes "break") ≡ true → IsBreakParsed P rest result → IsOneParsed P bytes result
  by_break e parsed = made (subst (λ (r : List ℕ). IsBreakParsed P r result) (sym after) parsed)
    where
      sets : sets_break bytes ≡ true
      sets = ap (λ (w : List ℕ). bytes_eq w (codes "break")) first ∙ e

      made : IsBreakParsed P (after_word bytes) result → IsOneParsed P bytes result
      made (inl asks) = inl (where_true _ _ (sets_break bytes) sets asks)
      made (inr no_memory) = inr ((bytes_eq-Decides (next_word bytes) (codes "break")).0 sets, no_memory)

  pub by_words : bytes_eq word (codes "break") ≡ false → map_ok call_of result ≡ call_of_words P word (words_of rest)
      → IsOneParsed P bytes result
  by_words e asks =
      let none : sets_break bytes ≡ false = ap (λ (w : List ℕ). bytes_eq w (codes "break")) first ∙ e in
      let same : map_ok call_of result ≡ call_of_words P (next_word bytes) (words_of (after_word bytes)) =
      asks ∙ ap (λ (w : List ℕ). call_of_words P w (words_of rest)) (sym first)
      ∙ ap (λ (r : List ℕ). call_of_words P (next_word bytes) (words_of r)) (sym after) in
      inl (where_false _ _ (sets_break bytes) none same)

  -- a command whose word is not `batch` is a single one
  pub by_one : bytes_eq word (codes "batch") ≡ false → IsOneParsed P bytes result → IsCommandParsed P bytes result
  by_one e (inl asks) =
      let none : bytes_eq (next_word bytes) (codes "batch") ≡ false = ap (λ (w : List ℕ). bytes_eq w (codes "batch")) first ∙ e in
      inl (where_false _ _ (bytes_eq (next_word bytes) (codes "batch")) none asks)
  by_one e (inr no_memory) = inr (inl no_memory.0, no_memory.1)
