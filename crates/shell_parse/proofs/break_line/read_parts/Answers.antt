use Rattle.std.proofs.Common.{◌≡◌, List, Some, None, Ok, [], ◌∷◌, ◌++◌, map, sym, subst, inl, rules}
use Rattle.dbg_base.specs.declared.call.Conjunct as conjunct
use Rattle.dbg_base.specs.Calls.{conjunct_of}
use Rattle.dbg_base.specs.CommandLines.{with_part}
use Rattle.dbg_base.specs.Requests.{ReadsParts}
use Rattle.proc_tree.specs.Programs.{program_of}
use Rattle.dbg_base.specs.CommandLines.{parts_in}
use Rattle.shell_parse.proofs.ReadPartLemmas.{ReadSoFar, none_read, all_read, has_form, refused_more, read_more}
use Rattle.shell_parse.proofs.break_line.read_parts.Goals as goal

pub loop-name-init : goal.loop-name-init
loop-name-init c =
    subst (λ (made : List conjunct.Conjunct). ReadSoFar (program_of c.args.program.now) c.args.bytes.now c.args.bytes.now made)
    (sym c.new-made.ensures.items) (none_read (program_of c.args.program.now) c.args.bytes.now)

pub returns-in-Ok-None : goal.returns-in-Ok-None
returns-in-Ok-None c = λ parts whole.
    let e : parts_in c.loop-name.rest.now ≡ Some [] = search rules in
    inl (subst (λ (made : List conjunct.Conjunct). ReadsParts (program_of c.args.program.now) [] parts (Ok (map conjunct_of made)))
    (sym c.new.ensures) (all_read (program_of c.args.program.now) c.args.bytes.now c.loop-name.rest.now c.loop-name.made.items
    c.loop-name.invariant parts whole e))

pub returns-in-Err : goal.returns-in-Err
returns-in-Err c = λ parts whole.
    let e : parts_in c.loop-name.rest.now ≡ None = search rules in
    has_form (program_of c.args.program.now) c.args.bytes.now c.loop-name.rest.now c.loop-name.made.items c.loop-name.invariant
    parts whole e

pub returns-in-Err-read_part : goal.returns-in-Err-read_part
returns-in-Err-read_part c =
    let e : parts_in c.loop-name.rest.now ≡ with_part (c.in-Ok-Some.name, c.in-Ok-Some.text.now) (parts_in c.in-Ok-Some.after.now) =
    search rules in
    refused_more (program_of c.args.program.now) c.args.bytes.now c.loop-name.rest.now c.loop-name.made.items c.loop-name.invariant
    c.in-Ok-Some.name c.in-Ok-Some.text.now c.in-Ok-Some.after.now c.as_slice.result.now c.as_slice.ensures.value e
    c.in-Err-read_part.refusal c.in-Err-read_part.ensures

pub loop-name-preserved : goal.loop-name-preserved
loop-name-preserved c =
    let e : parts_in c.loop-name.rest.now ≡ with_part (c.in-Ok-Some.name, c.in-Ok-Some.text.now) (parts_in c.in-Ok-Some.after.now) =
    search rules in
    let pushed : c.push.new.self.items ≡ c.loop-name.made.items ++ c.in-Ok.conjunct ∷ [] = search rules in
    read_more (program_of c.args.program.now) c.args.bytes.now c.loop-name.rest.now c.loop-name.made.items c.loop-name.invariant
    c.in-Ok-Some.name c.in-Ok-Some.text.now c.in-Ok-Some.after.now c.as_slice.result.now c.as_slice.ensures.value e
    c.in-Ok.conjunct c.push.new.self.items pushed c.in-Ok.ensures
