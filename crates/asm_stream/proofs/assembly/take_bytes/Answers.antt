use Rattle.std.proofs.Common.{◌≡◌, ◌≤◌, ◌+◌, ◌++◌, ◌∷◌, [], ◌∙◌, refl, sym, ap, take, drop, length, length-drop, append_assoc, arith}
use Rattle.std.proofs.lemmas.List.{take_rest}
use Rattle.std.proofs.lemmas.Result.{err_from_is_err_and}
use Rattle.list_words.specs.Listers.{machine}
use Rattle.asm_stream.proofs.PieceLaws.{plain_front, line_split, reaches_more, stops_within, takes_rest}
use Rattle.asm_stream.proofs.assembly.take_bytes.Goals as goal

pub returns-in_err-end_line : goal.returns-in_err-end_line
returns-in_err-end_line c =
    let p = err_from_is_err_and c.from_residual.result c.from_residual.ensures.1 in
    let i = c.loop-end.invariant in
    let line = take c.in-Some.end c.loop-end.rest.now in
    let more = drop (c.in-Some.end + 1) c.loop-end.rest.now in
    let whole = i.1 ∙ ap (λ xs. i.0 ++ xs) (line_split c.loop-end.rest.now c.in-Some.end c.in-Some.ensures.0.high c.in-Some.ensures.1) ∙ sym (append_assoc i.0 (line ++ 10 ∷ []) more) in
    rw (p.1, p.2) (stops_within c.args.lister.now c.args.assembly.now c.loop-end.assembly c.end_line.new.assembly i.0 (line ++ 10 ∷ []) c.args.bytes.now i.2 more c.in_err-end_line.field-0.0 whole c.in_err-end_line.ensures.ends)

pub loop-end-preserved : goal.loop-end-preserved
loop-end-preserved c =
    let i = c.loop-end.invariant in
    let line = take c.in-Some.end c.loop-end.rest.now in
    let more = drop (c.in-Some.end + 1) c.loop-end.rest.now in
    let whole = i.1 ∙ ap (λ xs. i.0 ++ xs) (line_split c.loop-end.rest.now c.in-Some.end c.in-Some.ensures.0.high c.in-Some.ensures.1) ∙ sym (append_assoc i.0 (line ++ 10 ∷ []) more) in
    rw take_rest (
      i.0 ++ (line ++ 10 ∷ []),
      whole,
      reaches_more c.args.lister.now c.args.assembly.now c.loop-end.assembly c.end_line.new.assembly i.0 (line ++ 10 ∷ []) c.args.bytes.now i.2 c.in_ok-end_line.ensures.ends,
      omega (arith, i.3, c.in_ok-end_line.ensures.number, length-drop (c.in-Some.end + 1) c.loop-end.rest.now, c.in-Some.ensures.0.high),
    )

pub returns : goal.returns
returns c =
    let i = c.loop-end.invariant in
    takes_rest c.args.lister.now c.args.assembly.now c.loop-end.assembly c.go_on.new.assembly i.0 c.loop-end.rest.now c.args.bytes.now i.2 c.go_on.result i.1 c.go_on.ensures
