-- A text that has been read to its end is complete, and no expression in it is too deep.
use Rattle.std.proofs.Common.{◌≡◌, ℕ, zero, suc, ◌+◌, length, List, [], true, false, Option, Some, None, refl, sym, ap, ◌∙◌, arith}
use Rattle.std.specs.Prelude.{codes, not, ◌&&◌, ◌||◌, ◌==◌, is_some, if◌then◌else◌}
use Rattle.std.specs.List.{list_all}
use Rattle.std.proofs.lemmas.Bool.{and_parts, and_from}
use Rattle.std.proofs.lemmas.List.Folds.{list_all-map}
use Rattle.dcc_c.specs.Token.{stack_line, place_line}
use Rattle.dcc_c.specs.Pieces.{Piece}
use Rattle.dcc_c.specs.Grammar.{outermost}
use Rattle.dcc_c.specs.Partial.{PartialVariable, PartialFunction, PartialText}
use Rattle.dcc_c.specs.Reading.{Reader, Got, is_stopped, line_of, skip, sees_mark, take_mark}
use Rattle.dcc_c.specs.ReadingStatements.{sees_head, take_head, take_number_of_line}
use Rattle.dcc_c.specs.ReadingText.{Begun, read_begun, read_function, read_functions, with_functions, read_global, size_in_bytes, address_of, Declared, declared, before_declared, read_declared, read_text, reader_of, enough_calls, reading_of}
use Rattle.dcc_c.specs.Stripped.{plain_function}
use Rattle.dcc_c.specs.Complete.{is_complete_variable, is_complete_function, is_complete_text, agree}
use Rattle.dcc_c.proofs.reading.Passing.{if-cases}
use Rattle.dcc_c.proofs.reading.Statements.{IsEnough, is_shallow}
use Rattle.dcc_c.proofs.reading.StmtStopping.{keeps_stmts}
use Rattle.dcc_c.proofs.reading.Steps.{number-sound, head-sound, sees_head-took}
use Rattle.dcc_c.proofs.reading.TextSound.{ReadsBegun, begun-sound, params_from, params_read, locals_from, locals_read, passes-function, function-sound, functions-keep}
use Rattle.dcc_c.proofs.reading.UnitSound.{here_declared, declared-keeps, global-sound, sound_text}
use Rattle.dcc_c.proofs.reading.SimpleWhole.{going-done}
use Rattle.dcc_c.proofs.reading.BlockWhole.{AreEntire, entire_stmts}
use Rattle.dcc_c.proofs.reading.DeclWhole.{not-empty, is-there, EntireBegun, begun-entire, locals-entire, params-entire, params-agree, global-entire}
use Rattle.dcc_c.proofs.refusals.TextRules.{are_shallow}

-- Functions.

function-whole : (f : PartialFunction) → is_some f.name ≡ true → is_some f.opened ≡ true → f.headed ≡ true → agree f.has_result (is_some f.result) ≡ true →
    agree f.without_params (length f.params == 0) ≡ true → list_all is_complete_variable f.params ≡ true → list_all is_complete_variable f.locals ≡ true → AreEntire 0 f.body →
    is_complete_function f ≡ true
function-whole f named opened headed typed empty params locals body =
    and_from _ _ (and_from _ _ named (and_from _ _ opened headed)) (and_from _ _ (and_from _ _ typed empty) (and_from _ _ params (and_from _ _ locals (and_from _ _ body.0 body.1))))

function-entire : (calls : ℕ) (r : Reader) (begun : Got Begun) → (begun.following.stop ≡ None → ReadsBegun r begun) → (begun.following.stop ≡ None → EntireBegun begun.value) → IsEnough calls 0 r.left →
    (read_function calls begun).following.stop ≡ None → is_complete_function (read_function calls begun).value ≡ true
function-entire calls r begun begins there enough going =
    let passed = passes-function calls begun going in
    let inside = params_from calls begun in
    let following = (locals_read calls begun).following in
    let head = begins passed.open_mark.passed.going in
    let begin = there passed.open_mark.passed.going in
    let lines = (entire_stmts calls).lines outermost false false following (omega (arith, head.shorter, passed.open_mark.one_less, passed.params.steps.passed.fewer, passed.closed.one_less, passed.opened.one_less, passed.locals.steps.passed.fewer)) passed.last.passed.going in
    let located = (keeps_stmts calls).lines outermost false false following passed.last.passed.going in
    let place : is_some (if is_stopped inside then None else Some inside.at) ≡ true = ap (λ stop. is_some (if is_some stop then None else Some inside.at)) passed.params.steps.passed.going in
    function-whole (read_function calls begun).value begin.named place (going-done (take_mark (codes ")") (params_read calls begun).following) passed.opened.passed.going) begin.typed (params-agree calls inside)
    (params-entire calls inside passed.closed.passed.going) (locals-entire calls (locals_from calls begun) located) lines

abbrev EntireFunctions : Got (List PartialFunction) → Type 0
EntireFunctions g = g.following.stop ≡ None → list_all is_complete_function g.value ≡ true

functions-entire : (calls : ℕ) (r : Reader) → IsEnough calls 1 r.left → EntireFunctions (read_functions calls r)
functions-entire zero r enough = λ going. refl
functions-entire (suc calls) r enough =
    if-cases EntireFunctions (is_stopped r || (length r.left == 0)) (λ _ going. refl)
    (λ _ going.
    let first = read_function calls (read_begun r) in
    let on = functions-keep calls first.following going in
    let read = function-sound calls r (read_begun r) (begun-sound r) (omega arith) on in
    and_from (is_complete_function first.value) (list_all is_complete_function (read_functions calls first.following).value) (function-entire calls r (read_begun r) (begun-sound r) (begun-entire r) (omega arith) on) (functions-entire calls first.following (omega (arith, read.shorter)) going))

-- Global variables and functions.

-- variables and functions are complete, and there is a function
record EntireDeclared (d : Declared) : Type 0 where
  globals : list_all is_complete_variable d.globals ≡ true
  functions : list_all is_complete_function d.functions ≡ true
  some : (length d.functions == 0) ≡ false

abbrev AreDeclared : Got Declared → Type 0
AreDeclared g = g.following.stop ≡ None → EntireDeclared g.value

with-entire : (calls : ℕ) (r : Reader) → IsEnough (suc calls) 1 r.left → AreDeclared (declared [] (with_functions calls (read_begun r)))
with-entire calls r enough going =
    let first = read_function calls (read_begun r) in
    let on = functions-keep calls first.following going in
    let read = function-sound calls r (read_begun r) (begun-sound r) (omega arith) on in
    record {
      globals = refl;
      functions = and_from (is_complete_function first.value) (list_all is_complete_function (read_functions calls first.following).value) (function-entire calls r (read_begun r) (begun-sound r) (begun-entire r) (omega arith) on) (functions-entire calls first.following (omega (arith, read.shorter)) going);
      some = not-empty first.value (read_functions calls first.following).value;
    }

-- a variable, and what is declared after it
before-entire : (v : PartialVariable) (others : Got Declared) → is_complete_variable v ≡ true → EntireDeclared others.value → EntireDeclared (before_declared v others).value
before-entire v others first more =
    record { globals = and_from _ _ first more.globals; functions = more.functions; some = more.some }

declared-entire : (calls : ℕ) (address : Option ℕ) (r : Reader) → IsEnough calls 1 r.left → AreDeclared (read_declared calls address r)
declared-entire zero address r enough = absurd (omega arith)
declared-entire (suc calls) address r enough =
    let n = take_number_of_line (line_of r.left) (skip r) in
    if-cases AreDeclared (sees_head place_line r) {x = read_declared calls (Some (address_of n.value)) n.following} {y = here_declared calls address r}
    (λ sees going.
    let took = sees_head-took place_line r sees in
    let read = number-sound (line_of r.left) (skip r) (declared-keeps calls (Some (address_of n.value)) n.following going) in
    declared-entire calls (Some (address_of n.value)) n.following (omega (arith, took.one_less, read.0.took.one_less)) going)
    (λ _. by address (λ here room going. declared-entire calls (Some (here + size_in_bytes (read_global calls here (read_begun r)).value)) (read_global calls here (read_begun r)).following room going))
  where
    by : (a : Option ℕ) → ((here : ℕ) → IsEnough calls 1 (read_global calls here (read_begun r)).following.left →
        AreDeclared (read_declared calls (Some (here + size_in_bytes (read_global calls here (read_begun r)).value)) (read_global calls here (read_begun r)).following)) →
        AreDeclared (here_declared calls a r)
    by (Some here) others =
        let v = read_global calls here (read_begun r) in
        let next = read_declared calls (Some (here + size_in_bytes v.value)) v.following in
        if-cases AreDeclared ((read_begun r).value.has_result && not (sees_mark (codes "(") (read_begun r).following))
        {x = before_declared v.value next} {y = declared [] (with_functions calls (read_begun r))}
        (λ is going.
        let has = (and_parts (read_begun r).value.has_result (not (sees_mark (codes "(") (read_begun r).following)) is).0 in
        let on = declared-keeps calls (Some (here + size_in_bytes v.value)) v.following going in
        let read = global-sound calls here r (read_begun r) (begun-sound r) has on in
        before-entire v.value next (global-entire calls here (read_begun r) (begun-entire r) has on) (others here (omega (arith, read.shorter)) going))
        (λ _. with-entire calls r enough)
    by None others = with-entire calls r enough

-- The text.

text-whole : (text : PartialText) → is_some text.lo ≡ true → is_some text.hi ≡ true → list_all is_complete_variable text.globals ≡ true →
    list_all is_complete_function text.functions ≡ true → (length text.functions == 0) ≡ false → is_complete_text text ≡ true
text-whole text lo hi globals functions some = and_from _ _ (and_from _ _ lo hi) (and_from _ _ globals (and_from _ _ functions (ap not some)))

text-entire : (calls : ℕ) (r : Reader) → IsEnough calls 1 r.left → (read_text calls r).following.stop ≡ None → is_complete_text (read_text calls r).value ≡ true
text-entire calls r enough going =
    let stack = take_head stack_line r in
    let lo = take_number_of_line (line_of r.left) stack in
    let hi = take_number_of_line (line_of r.left) lo.following in
    let two = number-sound (line_of r.left) lo.following (declared-keeps calls None hi.following going) in
    let one = number-sound (line_of r.left) stack two.0.took.passed.going in
    let took = head-sound stack_line r one.0.took.passed.going in
    let all = declared-entire calls None hi.following (omega (arith, took.one_less, one.0.took.one_less, two.0.took.one_less)) going in
    text-whole (read_text calls r).value (is-there lo.value one.0.number one.0.is) (is-there hi.value two.0.number two.0.is) all.globals all.functions all.some

-- What has been read of a text to its end is complete, and its expressions are at most 200 deep.
pub complete_reading : (pieces : List Piece) → (reading_of pieces).following.stop ≡ None →
    (is_complete_text (reading_of pieces).value ≡ true) × (are_shallow (reading_of pieces).value.functions ≡ true)
complete_reading pieces going =
    let read = sound_text pieces going in
    (text-entire (enough_calls pieces) (reader_of pieces) (omega arith) going, sym (list_all-map is_shallow plain_function (reading_of pieces).value.functions) ∙ read.1.shallow)
