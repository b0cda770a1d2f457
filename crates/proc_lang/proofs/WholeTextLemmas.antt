-- Processes, programs and predicates: what is read is what the grammar derives, and conversely. If the tokens derive nothing, the first
-- token that cannot follow is found.
use Rattle.std.proofs.Common.{◌≡◌, ℕ, suc, ◌⊎◌, false, List, [], ◌∷◌, ◌++◌, length, Ok, Err, refl, sym, ap, ◌∙◌, subst, codes, inl, inr}
use Rattle.std.proofs.Common.{◌-◌, drop, append_assoc, append-nil, length-append, arith}
use Rattle.std.proofs.Math.Seq.{drop-append_seam}
use Rattle.dbg_base.specs.declared.sign.Sign.TheVariants.{OpenBrace, CloseBrace}
use Rattle.dbg_base.specs.declared.fault.ProgFault.{ProgFault}
use Rattle.dbg_base.specs.declared.fault.FaultKind.TheVariants as fault
use Rattle.dbg_base.specs.Tokens.{Placed}
use Rattle.dbg_base.specs.Grammar.{Phrase, WrittenCommand, WrittenProcess, word_at, sign_at, DerivesName, DerivesExpression}
use Rattle.dbg_base.specs.Grammar.{DeriveInTurn, DerivesVariable, DerivesCommand, DerivesProcess, DerivesProgram, Begins}
use Rattle.dbg_base.specs.Grammar.{DerivesNothing, IsGrammarFault}
use Rattle.proc_lang.specs.Reading.{first_offset, offset_of}
use Rattle.proc_lang.specs.Parsing.{Read, ◌>>=◌, is_word_token, begins_word, read_word, read_sign, read_name, read_variable, read_variables}
use Rattle.proc_lang.specs.Parsing.{read_command, read_commands, read_process, read_many, read_several, read_processes, read_end}
use Rattle.proc_lang.specs.Parsing.{read_whole}
use Rattle.proc_lang.specs.Parsing.{read_expression, read_program, read_predicate}
use Rattle.proc_lang.proofs.ReaderLemmas.{SameFirst, IsReader, Completes, Anything, Takes, Then, Last, bind_to, bind_ok, ok_is, derives_more}
use Rattle.proc_lang.proofs.ReaderLemmas.{both_reader, last_reader}
use Rattle.proc_lang.proofs.TokenReaderLemmas.{WordAt, SignAt, Nothing, word_reader, word_here, sign_reader, sign_here, name_reader, name_completes}
use Rattle.proc_lang.proofs.TokenReaderLemmas.{end_reader}
use Rattle.proc_lang.proofs.Phrases.{expression_reader, expression_completes}
use Rattle.proc_lang.proofs.RepetitionLemmas.{many_reader, many_complete, several_complete}
use Rattle.proc_lang.proofs.Commands.{takes_by, variable_reader, variable_completes, variable_takes, command_reader, command_completes}
use Rattle.proc_lang.proofs.Commands.{command_takes}

-- the variables and the commands of a process
variables_reader : IsReader (DeriveInTurn DerivesVariable) read_variables
variables_reader = many_reader DerivesVariable (is_word_token (codes "var")) read_variable variable_reader variable_takes

variables_complete : Completes (DeriveInTurn DerivesVariable) (λ rest. begins_word (codes "var") rest ≡ false) read_variables
variables_complete =
    many_complete DerivesVariable (is_word_token (codes "var")) read_variable variable_reader variable_takes variable_completes
    (λ prefix rest x d. ap (λ (l : List Placed). begins_word (codes "var") (l ++ rest)) d.7)

commands_reader : IsReader (DeriveInTurn DerivesCommand) read_commands
commands_reader = many_reader DerivesCommand (is_word_token (codes "when")) read_command command_reader command_takes

commands_complete : Completes (DeriveInTurn DerivesCommand) (λ rest. begins_word (codes "when") rest ≡ false) read_commands
commands_complete =
    many_complete DerivesCommand (is_word_token (codes "when")) read_command command_reader command_takes command_completes
    (λ prefix rest x d. ap (λ (l : List Placed). begins_word (codes "when") (l ++ rest)) d.6)

-- commands do not begin with a variable
commands_begin : (xs : List WrittenCommand) (prefix : List Placed) (at : ℕ) (rest : List Placed) → DeriveInTurn DerivesCommand prefix xs
    → begins_word (codes "var") (prefix ++ (sign_at at CloseBrace ∷ rest)) ≡ false
commands_begin [] prefix at rest d = ap (λ (l : List Placed). begins_word (codes "var") (l ++ (sign_at at CloseBrace ∷ rest))) d
commands_begin (x ∷ xs) prefix at rest d =
    ap (λ (l : List Placed). begins_word (codes "var") (l ++ (sign_at at CloseBrace ∷ rest)))
    (d.4 ∙ ap (λ (l : List Placed). l ++ d.1) d.2.6)

-- a process
process_whole : (tokens a r b s c t d u e v : List Placed) (p q x : Placed) → tokens ≡ a ++ r → a ≡ p ∷ [] → r ≡ b ++ s → s ≡ c ++ t
    → c ≡ q ∷ [] → t ≡ d ++ u → u ≡ e ++ v → v ≡ x ∷ [] → tokens ≡ p ∷ b ++ q ∷ d ++ e ++ x ∷ []
process_whole tokens a r b s c t d u e v p q x f g h i j k l m = rw (f, g, h, i, j, k, l, m) (simp append_assoc)

pub process_reader : IsReader DerivesProcess read_process
unfolding read_process
process_reader =
    derives_more (Then (WordAt (codes "process")) (λ word. Then DerivesName (λ name. Then (SignAt OpenBrace) (λ start.
    Then (DeriveInTurn DerivesVariable) (λ variables. Then (DeriveInTurn DerivesCommand) (λ commands.
    Last (λ end. record { name = name; variables = variables; commands = commands }) (SignAt CloseBrace))))))) DerivesProcess read_process
    (λ tokens process d. let name = d.4 in
    let start = name.4 in
    let variables = start.4 in
    let commands = variables.4 in
    let end = commands.4 in
    subst (λ (p : WrittenProcess). DerivesProcess tokens p) end.2 (
      name.1,
      variables.1,
      commands.1,
      d.0,
      start.0,
      end.0,
      name.3,
      variables.3,
      commands.3,
      process_whole tokens d.1 d.2 name.1 name.2 start.1 start.2 variables.1 variables.2 commands.1 commands.2 _ _ _ d.5 d.3 name.5
          start.5 start.3 variables.5 commands.5 end.1,
    ))
    (both_reader _ _ (read_word (codes "process")) _ (word_reader (codes "process")) (λ word.
    both_reader _ _ read_name _ name_reader (λ name.
    both_reader _ _ (read_sign OpenBrace) _ (sign_reader OpenBrace) (λ start.
    both_reader _ _ read_variables _ variables_reader (λ variables.
    both_reader _ _ read_commands _ commands_reader (λ commands.
    last_reader (λ end. record { name = name; variables = variables; commands = commands }) (SignAt CloseBrace) (read_sign CloseBrace)
    (sign_reader CloseBrace)))))))

process_completes : Completes DerivesProcess Anything read_process
unfolding read_process
process_completes prefix rest x d any =
    let end : List Placed = sign_at d.5 CloseBrace ∷ rest in
    let last : List Placed = d.2 ++ end in
    let middle : List Placed = d.1 ++ last in
    let tail : List Placed = d.0 ++ (sign_at d.4 OpenBrace ∷ middle) in
    let same : prefix ++ rest ≡ word_at d.3 (codes "process") ∷ tail = ap (λ (l : List Placed). l ++ rest) d.9 ∙ simp append_assoc in
    ap read_process same
    ∙ bind_to _ _ _ _ (word_here (codes "process") d.3 tail)
    (bind_to _ _ _ _ (name_completes d.0 (sign_at d.4 OpenBrace ∷ middle) x.name d.6 tt)
    (bind_to _ _ _ _ (sign_here OpenBrace d.4 middle)
    (bind_to _ _ _ _ (variables_complete d.1 last x.variables d.7 (commands_begin x.commands d.2 d.5 rest d.8))
    (bind_to _ _ _ _ (commands_complete d.2 end x.commands d.8 refl) (bind_to _ _ _ _ (sign_here CloseBrace d.5 rest) refl)))))

pub process_takes : Takes read_process
process_takes = takes_by DerivesProcess read_process process_reader (λ prefix x d. (_, _, d.9))

-- at least one process
further_reader : IsReader (DeriveInTurn DerivesProcess) (read_many (is_word_token (codes "process")) read_process)
further_reader = many_reader DerivesProcess (is_word_token (codes "process")) read_process process_reader process_takes

-- one process and further ones derive a program
abbrev Program : List Placed → List WrittenProcess → Type 0
Program = Then DerivesProcess (λ first. Last (λ others. first ∷ others) (DeriveInTurn DerivesProcess))

program_derives : (tokens : List Placed) (xs : List WrittenProcess) → Program tokens xs → DerivesProgram tokens xs
program_derives tokens xs d = subst (λ (l : List WrittenProcess). DerivesProgram tokens l) d.4.2 (d.1, d.2, d.3, d.4.1, d.5)

processes_reader : IsReader DerivesProgram read_processes
unfolding read_several
processes_reader =
    derives_more Program DerivesProgram read_processes program_derives
    (both_reader _ _ read_process _ process_reader (λ first.
    last_reader (λ others. first ∷ others) (DeriveInTurn DerivesProcess)
    (read_many (is_word_token (codes "process")) read_process) further_reader))

processes_complete : Completes DerivesProgram (λ rest. begins_word (codes "process") rest ≡ false) read_processes
processes_complete prefix rest [] d stop = absurd d
processes_complete prefix rest (x ∷ xs) d stop =
    ap (λ (l : List Placed). read_processes (l ++ rest)) d.4
    ∙ several_complete DerivesProcess read_process
    (read_many (is_word_token (codes "process")) read_process) process_completes d.0 d.1 rest x xs
    d.2
    (many_complete DerivesProcess (is_word_token (codes "process")) read_process process_reader process_takes process_completes
    (λ prefix rest x d. ap (λ (l : List Placed). begins_word (codes "process") (l ++ rest)) d.9) d.1 rest xs d.3 stop)

-- what is read, with nothing after it
module _ {A : Type 0} (Derives : List Placed → A → Type 0) (read : List Placed → Read A) (reader : IsReader Derives read)
    (complete : (tokens : List Placed) (x : A) → Derives tokens x → read tokens ≡ Ok (x, [])) where
  abbrev Whole : List Placed → A → Type 0
  Whole = Then Derives (λ x. Last (λ end. x) Nothing)

  whole_derives : (tokens : List Placed) (x : A) → Whole tokens x → Derives tokens x
  whole_derives tokens x d =
      subst (λ (y : A). Derives tokens y) d.4.2
      (subst (λ (l : List Placed). Derives l d.0) (sym (d.5 ∙ ap (λ (l : List Placed). d.1 ++ l) d.4.1 ∙ append-nil d.1)) d.3)

  whole_reader : IsReader Derives (read_whole read)
  unfolding read_whole
  whole_reader =
      derives_more Whole Derives (read_whole read) whole_derives
      (both_reader _ _ read _ reader (λ x. last_reader (λ end. x) Nothing read_end end_reader))

  whole_completes : (tokens : List Placed) (x : A) → Derives tokens x → read_whole read tokens ≡ Ok (x, [])
  unfolding read_whole
  whole_completes tokens x d = bind_to _ _ _ _ (complete tokens x d) refl

  -- what is read is derived
  pub whole_read : (tokens : List Placed) (x : A) → read_whole read tokens ≡ Ok (x, []) → Derives tokens x
  whole_read tokens x e =
      let s = whole_reader.succeeds tokens [] x e in
      subst (λ (l : List Placed). Derives l x) (sym (s.whole ∙ append-nil s.prefix)) s.derived

  -- tokens derive at most one thing
  pub whole_once : (tokens : List Placed) (x y : A) → Derives tokens x → Derives tokens y → x ≡ y
  whole_once tokens x y d e = (ok_is x y [] [] (sym (whole_completes tokens x d) ∙ whole_completes tokens y e)).0

  -- if a token cannot follow, nothing is derived with it, whatever comes after it
  never_follows : (tokens prefix others : List Placed) (p : Placed) (n : ℕ)
      → ((other : List Placed) → SameFirst (p ∷ others) other → read_whole read (prefix ++ other) ≡ Err (length other))
      → ¬ Begins Derives (prefix ++ p ∷ [])
  never_follows tokens prefix others p n again begun =
      let more : List Placed = begun.0 in
      let reads : read_whole read (prefix ++ (p ∷ more)) ≡ Ok (begun.1, []) =
      ap (read_whole read) (sym (append_assoc prefix (p ∷ []) more)) ∙ whole_completes ((prefix ++ p ∷ []) ++ more) begun.1 begun.2 in
      let bad : ◌≡◌ {A = Read A} (Ok (begun.1, [])) (Err (length (p ∷ more))) = sym reads ∙ again (p ∷ more) refl in
      cc

  derives_nothing : (tokens : List Placed) (n : ℕ) → read_whole read tokens ≡ Err n → DerivesNothing Derives tokens
  derives_nothing tokens n e x d = let bad : ◌≡◌ {A = Read A} (Ok (x, [])) (Err n) = sym (whole_completes tokens x d) ∙ e in cc

  fault_at : (end n : ℕ) (tokens : List Placed) (found : ProgFault) → found.kind ≡ fault.Grammar → read_whole read tokens ≡ Err n
      → (prefix left : List Placed) → Begins Derives prefix → tokens ≡ prefix ++ left
      → ((other : List Placed) → SameFirst left other → read_whole read (prefix ++ other) ≡ Err (length other))
      → found.at ≡ first_offset end left → IsGrammarFault Derives end tokens found
  fault_at end n tokens found kind e prefix [] viable whole again at = (
    kind,
    inr (subst (λ (l : List Placed). Begins Derives l) (sym (whole ∙ append-nil prefix)) viable, derives_nothing tokens n e, at),
  )
  fault_at end n tokens found kind e prefix (p ∷ others) viable whole again at =
      (kind, inl (prefix, others, p, whole, viable, never_follows tokens prefix others p n again, at))

  -- tokens that derive nothing fail at the first token that cannot follow, or at the end
  pub whole_fails : (end n : ℕ) (tokens : List Placed) (found : ProgFault) → read_whole read tokens ≡ Err n → found.kind ≡ fault.Grammar
      → found.at ≡ offset_of end n tokens → IsGrammarFault Derives end tokens found
  whole_fails end n tokens found e kind at =
      let f = whole_reader.fails tokens n e in
      let beyond : drop (length tokens - n) tokens ≡ f.left =
      ap (λ (k : ℕ). drop k tokens) (omega (arith, ap length f.whole, length-append f.prefix f.left, f.size))
      ∙ ap (drop (length f.prefix)) f.whole ∙ drop-append_seam f.prefix f.left in
      fault_at end n tokens found kind e f.prefix f.left f.viable f.whole f.again (at ∙ ap (first_offset end) beyond)

  at_end : (tokens : List Placed) (found : A × List Placed) → read_whole read tokens ≡ Ok found → found.1 ≡ []
  unfolding read_whole
  at_end tokens found e =
      let a = bind_ok (read tokens) (λ x. read_end x.1 >>= λ end. Ok (x.0, end.1)) found e in
      let b = bind_ok (read_end a.0.1) (λ end. Ok (a.0.0, end.1)) found a.2 in
      sym (ok_is a.0.0 found.0 b.0.1 found.1 b.2).1 ∙ end_is a.0.1 b.0 b.1
    where
      end_is : (rest : List Placed) (end : Unit {0} × List Placed) → read_end rest ≡ Ok end → end.1 ≡ []
      end_is [] end h = sym (ok_is tt end.0 [] end.1 h).1
      end_is (p ∷ rest) end h = absurd (let bad : ◌≡◌ {A = Read (Unit {0})} (Err (suc (length rest))) (Ok end) = h in cc)

  -- tokens derive something, or have a first token that cannot follow
  pub whole_parses : (end : ℕ) (tokens : List Placed)
      → ((x : A) × Derives tokens x) ⊎ ((found : ProgFault) × IsGrammarFault Derives end tokens found)
  whole_parses end tokens = elim (read_whole read tokens) as (λ r. read_whole read tokens ≡ r
      → ((x : A) × Derives tokens x) ⊎ ((found : ProgFault) × IsGrammarFault Derives end tokens found)) [
        | Ok found ↦ λ e. inl (
          found.0,
          whole_read tokens found.0 (e ∙ ap (λ (l : List Placed). Ok (found.0, l)) (at_end tokens found e)),
        )
        | Err n ↦ λ e. inr (
          record { kind = fault.Grammar; at = offset_of end n tokens },
          whole_fails end n tokens (record { kind = fault.Grammar; at = offset_of end n tokens }) e refl refl,
        )
      ] refl

-- a program
program_complete : (tokens : List Placed) (x : List WrittenProcess) → DerivesProgram tokens x → read_processes tokens ≡ Ok (x, [])
program_complete tokens x d = ap read_processes (sym (append-nil tokens)) ∙ processes_complete tokens [] x d refl

pub program_read : (tokens : List Placed) (x : List WrittenProcess) → read_program tokens ≡ Ok (x, []) → DerivesProgram tokens x
program_read = whole_read DerivesProgram read_processes processes_reader program_complete

pub program_once : (tokens : List Placed) (x y : List WrittenProcess) → DerivesProgram tokens x → DerivesProgram tokens y → x ≡ y
program_once = whole_once DerivesProgram read_processes processes_reader program_complete

pub program_fails : (end n : ℕ) (tokens : List Placed) (found : ProgFault) → read_program tokens ≡ Err n → found.kind ≡ fault.Grammar
    → found.at ≡ offset_of end n tokens → IsGrammarFault DerivesProgram end tokens found
program_fails = whole_fails DerivesProgram read_processes processes_reader program_complete

pub program_parses : (end : ℕ) (tokens : List Placed)
    → ((x : List WrittenProcess) × DerivesProgram tokens x) ⊎ ((found : ProgFault) × IsGrammarFault DerivesProgram end tokens found)
program_parses = whole_parses DerivesProgram read_processes processes_reader program_complete

-- a predicate
predicate_complete : (tokens : List Placed) (x : Phrase) → DerivesExpression tokens x → read_expression tokens ≡ Ok (x, [])
predicate_complete tokens x d = ap read_expression (sym (append-nil tokens)) ∙ expression_completes tokens [] x d tt

pub predicate_read : (tokens : List Placed) (x : Phrase) → read_predicate tokens ≡ Ok (x, []) → DerivesExpression tokens x
predicate_read = whole_read DerivesExpression read_expression expression_reader predicate_complete

pub predicate_once : (tokens : List Placed) (x y : Phrase) → DerivesExpression tokens x → DerivesExpression tokens y → x ≡ y
predicate_once = whole_once DerivesExpression read_expression expression_reader predicate_complete

pub predicate_fails : (end n : ℕ) (tokens : List Placed) (found : ProgFault) → read_predicate tokens ≡ Err n → found.kind ≡ fault.Grammar
    → found.at ≡ offset_of end n tokens → IsGrammarFault DerivesExpression end tokens found
predicate_fails = whole_fails DerivesExpression read_expression expression_reader predicate_complete

pub predicate_parses : (end : ℕ) (tokens : List Placed)
    → ((x : Phrase) × DerivesExpression tokens x) ⊎ ((found : ProgFault) × IsGrammarFault DerivesExpression end tokens found)
predicate_parses = whole_parses DerivesExpression read_expression expression_reader predicate_complete
