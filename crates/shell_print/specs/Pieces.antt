-- The words of the pieces of a line.
use Rattle.std.specs.Prelude.{ℕ, List, [], ◌∷◌, map, codes}
use Rattle.std.specs.Fmt.{decimal, signed_decimal}
use Rattle.dbg_base.specs.Trees.{process_of, names_of}
use Rattle.dbg_base.specs.Replies.{pair_words, mark_word, head_text, halted_words, name_of}
use Rattle.proc_tree.specs.Programs.{program_of}
use Rattle.shell_print.specs.declared.pieces.Term.{Term}
use Rattle.shell_print.specs.declared.pieces.Term.TheVariants as term
use Rattle.shell_print.specs.declared.pieces.Item.{Item}
use Rattle.shell_print.specs.declared.pieces.Item.TheVariants as item
use Rattle.shell_print.specs.declared.pieces.Words.{Words}
use Rattle.shell_print.specs.declared.pieces.Words.TheVariants as words
use Rattle.shell_print.specs.declared.pieces.Names.{Names}
use Rattle.shell_print.specs.declared.pieces.Names.TheVariants as names
use Rattle.shell_print.specs.declared.pieces.Amounts.{Amounts}
use Rattle.shell_print.specs.declared.pieces.Amounts.TheVariants as amounts
use Rattle.shell_print.specs.declared.pieces.Piece.{Piece}
use Rattle.shell_print.specs.declared.pieces.Piece.TheVariants as piece

-- a fixed word
abbrev pub term_text : Term → List ℕ
term_text term.At = codes "at"
term_text term.Commands = codes "commands"
term_text term.Halted = codes "halted"
term_text term.No = codes "no"
term_text term.None = codes "none"
term_text term.Of = codes "of"
term_text term.Off = codes "off"
term_text term.On = codes "on"
term_text term.Past = codes "past"
term_text term.Processes = codes "processes"
term_text term.Yes = codes "yes"

-- the text of an item
abbrev pub item_text : Item → List ℕ
item_text (item.Term term) = term_text term
item_text (item.Name name) = name.now
item_text (item.Process program pid) = name_of (program_of program.now) pid.0
item_text (item.Count count) = decimal count
item_text (item.Size size) = decimal size
item_text (item.Number number) = signed_decimal number

-- words of one kind
abbrev pub word_texts : Words → List (List ℕ)
word_texts (words.Numbers numbers) = map signed_decimal numbers.now
word_texts (words.Marks marks) = map mark_word marks.now

-- names of a program
abbrev pub names_in : Names → List (List ℕ)
names_in (names.Processes program) = names_of (program_of program.now)
names_in (names.Variables program pid) = map (λ variable. variable.0) (process_of (program_of program.now) pid.0).variables

-- the texts of the values for names
abbrev pub amount_texts : Amounts → List (List ℕ)
amount_texts (amounts.Counts counts) = map decimal counts.now
amount_texts (amounts.Numbers numbers) = map signed_decimal numbers.now
amount_texts (amounts.Heads heads) = map head_text heads.now

-- the words of a piece
abbrev pub piece_words : Piece → List (List ℕ)
piece_words (piece.Item item) = item_text item ∷ []
piece_words (piece.Counts first second) = decimal first ∷ decimal second ∷ []
piece_words piece.Nothing = []
piece_words (piece.Words words) = word_texts words
piece_words (piece.Pairs names amounts) = pair_words (names_in names) (amount_texts amounts)
piece_words (piece.Halted halted) = halted_words halted.now
