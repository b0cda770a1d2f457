-- One step of the lexer: spaces, and then a token or a fault.
use Rattle.std.proofs.Common.{◌≡◌, ℕ, ◌+◌, ◌<◌, ◌≤◌, Bool, true, false, cond, List, [], ◌∷◌, ◌++◌, length, take, drop, refl, sym, ap, ◌∙◌}
use Rattle.std.proofs.Common.{subst, arith, one-add, take-append-drop, append-nil, append_assoc}
use Rattle.std.specs.List.{list_all, prefix_len}
use Rattle.std.proofs.lemmas.List.{length-take-le}
use Rattle.std.proofs.lemmas.List.Sums.{prefix_len-le-length}
use Rattle.dbg_base.specs.declared.sign.Sign.TheVariants as sign
use Rattle.dbg_base.specs.declared.limits.TheConstants.{OPEN_PARENTHESES}
use Rattle.dbg_base.specs.Tokens as model
use Rattle.dbg_base.specs.Tokens.{is_space, sign_bytes, still_open, IsWithinLimits, BeginsWithNoSpace, FaultsBefore}
use Rattle.dbg_base.specs.declared.fault.FaultKind.{FaultKind}
use Rattle.dbg_base.specs.declared.fault.FaultKind.TheVariants as fault
use Rattle.proc_lang.specs.Scanning.{IsBefore, IsPrefixFault, TakesToken, MeetsFault}
use Rattle.proc_lang.proofs.PassingPrefixLemmas.{prefix_passes}

empty_list : (xs : List ℕ) → length xs ≡ 0 → xs ≡ []
empty_list [] e = refl
empty_list (x ∷ xs) e = absurd (omega arith)

-- the bytes after the leading spaces do not begin with a space
stop_step : (b : ℕ) (bytes : List ℕ) (t : Bool) → is_space b ≡ t
    → (0 < length (drop (prefix_len is_space bytes) bytes) → BeginsWithNoSpace (drop (prefix_len is_space bytes) bytes))
    → 0 < length (drop (cond t (1 + prefix_len is_space bytes) 0) (b ∷ bytes))
    → BeginsWithNoSpace (drop (cond t (1 + prefix_len is_space bytes) 0) (b ∷ bytes))
stop_step b bytes true e rest some = rw one-add (rest (rw one-add at some))
stop_step b bytes false e rest some = e

no_space : (bytes : List ℕ) → 0 < length (drop (prefix_len is_space bytes) bytes)
    → BeginsWithNoSpace (drop (prefix_len is_space bytes) bytes)
no_space [] some = absurd (omega arith)
no_space (b ∷ bytes) some = stop_step b bytes (is_space b) refl (no_space bytes) some

module _ (left rest : List ℕ) (n : ℕ) (size : n ≡ prefix_len is_space left) (cut : rest ≡ drop n left) where
  gap_is_spaces : list_all is_space (take n left) ≡ true
  gap_is_spaces = subst (λ k. list_all is_space (take k left) ≡ true) (sym size) (prefix_passes is_space left)

  gap_length : length (take n left) ≡ n
  gap_length = length-take-le n left (omega (arith, prefix_len-le-length is_space left))

  left_is : left ≡ take n left ++ rest
  left_is = sym (take-append-drop n left) ∙ ap (λ r. take n left ++ r) (sym cut)

  -- nothing is left but spaces
  pub only_spaces : length rest ≡ 0 → list_all is_space left ≡ true
  only_spaces none =
      subst (λ whole. list_all is_space whole ≡ true)
      (sym (left_is ∙ ap (λ r. take n left ++ r) (empty_list rest none) ∙ append-nil (take n left))) gap_is_spaces

  begins_with_no_space : 0 < length rest → BeginsWithNoSpace rest
  begins_with_no_space some =
      let same : rest ≡ drop (prefix_len is_space left) left = cut ∙ ap (λ k. drop k left) size in
      subst BeginsWithNoSpace (sym same) (no_space left (omega (arith, ap length same)))

  -- a token follows
  pub takes_token : (at mid depth end beyond m : ℕ) (token : model.Token) (others : List ℕ) → mid ≡ at + n → IsBefore token m rest
      → IsWithinLimits token
      → beyond ≡ still_open depth token → beyond ≤ OPEN_PARENTHESES → others ≡ drop m rest → end ≡ mid + m
      → TakesToken left at depth (record { at = mid; token = token }) others end beyond
  takes_token at mid depth end beyond m token others place prefix within counted shallow cut_others passed =
      let piece_length : length (take m rest) ≡ m = length-take-le m rest prefix.within in
      record {
        gap = take n left;
        piece = take m rest;
        spaces = gap_is_spaces;
        whole =
            left_is ∙ ap (λ r. take n left ++ r) (sym (take-append-drop m rest) ∙ ap (λ r. take m rest ++ r) (sym cut_others))
            ∙ sym (append_assoc (take n left) (take m rest) others);
        place = omega (arith, gap_length, place);
        spelled = prefix.spelled;
        longest = subst (λ (r : List ℕ). model.IsLongest (take m rest) r) (sym cut_others) prefix.longest;
        within = within;
        passed = omega (arith, piece_length, passed);
        counted = counted;
        shallow = shallow;
      }

  -- a fault follows
  faults_before : (kind : FaultKind) (depth : ℕ) → 0 < length rest → IsPrefixFault kind rest → FaultsBefore kind depth rest
  faults_before fault.Byte depth some found = (begins_with_no_space some, found)
  faults_before fault.Token depth some found = found
  faults_before fault.Grammar depth some found = absurd found
  faults_before fault.NameTaken depth some found = absurd found
  faults_before fault.NameUnknown depth some found = absurd found
  faults_before fault.TypeWrong depth some found = absurd found
  faults_before fault.Limit depth some found = absurd found
  faults_before fault.SelfSend depth some found = absurd found
  faults_before fault.SetTwice depth some found = absurd found

  pub meets_fault : (at mid depth : ℕ) (kind : FaultKind) → mid ≡ at + n → 0 < length rest → IsPrefixFault kind rest
      → MeetsFault left at depth (record { kind = kind; at = mid })
  meets_fault at mid depth kind place some found = record {
    gap = take n left;
    rest = rest;
    spaces = gap_is_spaces;
    whole = left_is;
    place = omega (arith, gap_length, place);
    faults = faults_before kind depth some found;
  }

  -- one parenthesis too many opens
  pub meets_limit : (at mid depth m : ℕ) (token : model.Token) → mid ≡ at + n → IsBefore token m rest
      → token ≡ model.Symbol sign.OpenParenthesis
      → depth ≡ OPEN_PARENTHESES → MeetsFault left at depth (record { kind = fault.Limit; at = mid })
  meets_limit at mid depth m token place prefix opens deep =
      let spelled = subst (λ (t : model.Token). model.Spells t (take m rest)) opens prefix.spelled in
      record {
        gap = take n left;
        rest = rest;
        spaces = gap_is_spaces;
        whole = left_is;
        place = omega (arith, gap_length, place);
        faults = (deep, drop m rest, sym (take-append-drop m rest) ∙ ap (λ p. p ++ drop m rest) spelled);
      }
