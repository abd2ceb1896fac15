use Rattle.std.proofs.Common.{map, string_bytes, ap, ◌∙◌, arith}
use Rattle.std.proofs.lemmas.List.{length-map, nil_from_length}
use Rattle.dcc_commands.specs.Words.{kind_of}
use Rattle.dcc_commands.specs.WordsRead.{parts_read}
use Rattle.dcc_commands.proofs.WordsLaws.{step-word, stop-word, step-given, step-named, stop-missing, stop-unknown, all-answer, all-read, stop-named, stop-given}
use Rattle.dcc_commands.proofs.words.found_in.Goals as goal

pub loop-word-smaller-in-Names : goal.loop-word-smaller-in-Names
loop-word-smaller-in-Names c = omega (arith, c.in-Some.ensures.cases.1, c.in_ok-value-in-Names.ensures.cases.1)

pub loop-word-preserved-in-Positional : goal.loop-word-preserved-in-Positional
loop-word-preserved-in-Positional c =
    let inv = rw c.in-Some.ensures.cases.0 at c.loop-word.invariant in
    step-word (parts_read c.loop-word.found) (parts_read c.in_ok-found-in-Positional.found) _ (string_bytes c.in-Some.word.now) (map string_bytes c.in-Some.rest.now) inv
    (c.in-Positional.ensures ∙ ap kind_of c.as_str-word.ensures.value)
    (rw c.as_str-word.ensures.value at c.in_ok-found-in-Positional.ensures)

pub returns-in_err-found-in-Positional : goal.returns-in_err-found-in-Positional
returns-in_err-found-in-Positional c =
    let inv = rw c.in-Some.ensures.cases.0 at c.loop-word.invariant in
    let two = stop-word (parts_read c.loop-word.found) _ (string_bytes c.in-Some.word.now) (map string_bytes c.in-Some.rest.now) inv
    (c.in-Positional.ensures ∙ ap kind_of c.as_str-word.ensures.value)
    c.in_err-found-in-Positional.ensures in
    rw c.from_residual.ensures two

pub returns-in-End : goal.returns-in-End
returns-in-End c =
    let inv = rw c.in-Some.ensures.cases.0 at c.loop-word.invariant in
    all-answer (parts_read c.loop-word.found) _ (string_bytes c.in-Some.word.now) (map string_bytes c.in-Some.rest.now) c.with_all.result inv
    (c.in-End.ensures ∙ ap kind_of c.as_str-word.ensures.value) c.with_all.ensures

pub returns-in_err-value-in-Names : goal.returns-in_err-value-in-Names
returns-in_err-value-in-Names c =
    let inv = rw c.in-Some.ensures.cases.0 at c.loop-word.invariant in
    let two = stop-missing (parts_read c.loop-word.found) _ c.in-Names.option (string_bytes c.in-Some.word.now) (map string_bytes c.in-Some.rest.now) inv
    (c.in-Names.ensures ∙ ap kind_of c.as_str-word.ensures.value) (simp length-map c.in_err-value-in-Names.ensures.cases) in
    rw c.from_residual-in_err-value-in-Names.ensures two

pub loop-word-preserved-in-Names : goal.loop-word-preserved-in-Names
loop-word-preserved-in-Names c =
    let inv = rw (c.in-Some.ensures.cases.0, c.in_ok-value-in-Names.ensures.cases.0) at c.loop-word.invariant in
    step-named (parts_read c.loop-word.found) (parts_read c.in_ok-found-in-Names.found) _ c.in-Names.option (string_bytes c.in-Some.word.now) (string_bytes c.in_ok-value-in-Names.value.now)
    (map string_bytes c.in_ok-value-in-Names.rest.now) inv
    (c.in-Names.ensures ∙ ap kind_of c.as_str-word.ensures.value) c.in_ok-found-in-Names.ensures.0 (rw c.as_str.ensures.value at c.in_ok-found-in-Names.ensures.1)

pub loop-word-preserved : goal.loop-word-preserved
loop-word-preserved c =
    let inv = rw c.in-Some.ensures.cases.0 at c.loop-word.invariant in
    step-given (parts_read c.loop-word.found) (parts_read c.in_ok-found-in-Gives.found) _ c.in-Gives.option (string_bytes c.in-Some.word.now) c.in-Gives.value.now
    (map string_bytes c.in-Some.rest.now) inv
    (c.in-Gives.ensures ∙ ap kind_of c.as_str-word.ensures.value) c.in_ok-found-in-Gives.ensures.0 c.in_ok-found-in-Gives.ensures.1

pub returns-in-Unknown : goal.returns-in-Unknown
returns-in-Unknown c =
    let inv = rw c.in-Some.ensures.cases.0 at c.loop-word.invariant in
    stop-unknown (parts_read c.loop-word.found) _ (string_bytes c.in-Some.word.now) (map string_bytes c.in-Some.rest.now) inv (c.in-Unknown.ensures ∙ ap kind_of c.as_str-word.ensures.value)

pub returns : goal.returns
returns c =
    all-read (parts_read c.loop-word.found) _ (rw (nil_from_length c.loop-word.left.now c.in_default.ensures.cases) at c.loop-word.invariant)

pub returns-in_err-found-in-Names : goal.returns-in_err-found-in-Names
returns-in_err-found-in-Names c =
    let inv = rw (c.in-Some.ensures.cases.0, c.in_ok-value-in-Names.ensures.cases.0) at c.loop-word.invariant in
    let two = stop-named (parts_read c.loop-word.found) _ c.in-Names.option (string_bytes c.in-Some.word.now) (string_bytes c.in_ok-value-in-Names.value.now)
    (map string_bytes c.in_ok-value-in-Names.rest.now) inv
    (c.in-Names.ensures ∙ ap kind_of c.as_str-word.ensures.value) c.in_err-found-in-Names.ensures in
    rw c.from_residual-in_err-found-in-Names.ensures two

pub returns-in_err-found-in-Gives : goal.returns-in_err-found-in-Gives
returns-in_err-found-in-Gives c =
    let inv = rw c.in-Some.ensures.cases.0 at c.loop-word.invariant in
    let two = stop-given (parts_read c.loop-word.found) _ c.in-Gives.option (string_bytes c.in-Some.word.now) c.in-Gives.value.now (map string_bytes c.in-Some.rest.now) inv
    (c.in-Gives.ensures ∙ ap kind_of c.as_str-word.ensures.value) c.in_err-found-in-Gives.ensures in
    rw c.from_residual-in_err-found-in-Gives.ensures two
