-- Functions and whole texts are the same with more calls than enough.
use Rattle.std.proofs.Common.{◌≡◌, ℕ, zero, suc, ◌+◌, ◌*◌, ◌<◌, ◌≤◌, ◌&&◌, ◌||◌, ◌==◌, Bool, true, false, not, is_some, length, List, [], ◌∷◌, Option, Some, None, refl, sym, ap, ◌∙◌, arith}
use Rattle.std.specs.Prelude.{codes}
use Rattle.std.proofs.lemmas.Bool.{and_parts}
use Rattle.dcc_c.specs.Token.{stack_line, place_line}
use Rattle.dcc_c.specs.Grammar.{outermost}
use Rattle.dcc_c.specs.Kinds.{Offence}
use Rattle.dcc_c.specs.Pieces.{Piece}
use Rattle.dcc_c.specs.Partial.{PartialVariable, PartialFunction}
use Rattle.dcc_c.specs.Reading.{Reader, Got, got, is_stopped, line_of, skip, sees_mark, sees_word, take_mark, begins_type}
use Rattle.dcc_c.specs.ReadingStatements.{is_the_head, sees_head, take_head, take_number_of_line, Block, read_lines, read_locals, read_params}
use Rattle.dcc_c.specs.ReadingText.{Begun, read_begun, read_head, with_first_depth, read_body, read_function, read_functions, with_functions, read_global, size_in_bytes, address_of, Declared, declared, before_declared, read_declared, read_text, reader_of, enough_calls, reading_of}
use Rattle.dcc_c.proofs.reading.Passing.{if-cases}
use Rattle.dcc_c.proofs.reading.Steps.{head-sound}
use Rattle.dcc_c.proofs.reading.DeclSound.{params-sound}
use Rattle.dcc_c.proofs.reading.TextSound.{begun-sound, function-keeps, function-sound}
use Rattle.dcc_c.proofs.reading.UnitSound.{global-sound}
use Rattle.dcc_reader.specs.Parts.{before_list}
use Rattle.dcc_reader.proofs.calls.ToRead.{to_read, Enough, going-reads, passed-reads, shorter-reads, sees-reads, sees-going, mark-reads, number-reads, if-same, choice-same}
use Rattle.dcc_reader.proofs.calls.Parameters.{head-same}
use Rattle.dcc_read.proofs.calls.Statements.{same_lines}
use Rattle.dcc_read.proofs.calls.Declarations.{global-same, locals-reads, locals-same}

-- Functions.

begun-reads : (r : Reader) → to_read (read_begun r).following ≤ to_read r
begun-reads r = passed-reads r (read_begun r).following (λ going. (begun-sound r going).steps.passed)

head-reads : (calls : ℕ) (begun : Got Begun) → to_read (read_head calls begun).following ≤ to_read begun.following
head-reads calls begun =
    let inside = take_mark (codes "(") begun.following in
    let params = read_params calls inside in
    omega (arith, mark-reads (codes "(") begun.following, passed-reads inside params.following (λ going. (params-sound calls inside going).steps.passed), mark-reads (codes ")") params.following)

-- another depth of calls leaves as much to read
first_depth-reads : (r : Reader) → to_read (with_first_depth r) ≤ to_read r
first_depth-reads r = passed-reads r (with_first_depth r) (λ going. record { going = going; whole = refl; place = refl; fewer = omega arith })

function-reads : (calls : ℕ) (r : Reader) → Enough calls 0 r → to_read (read_function calls (read_begun r)).following ≤ to_read r
function-reads calls r enough =
    passed-reads r (read_function calls (read_begun r)).following
    (λ on.
    let going = (begun-sound r (function-keeps calls (read_begun r) on)).steps.passed.going in
    (function-sound calls r (read_begun r) (begun-sound r) (omega (arith, enough, going-reads r going)) on).steps.passed)

-- a function takes a piece, or reading stops
function-less : (calls : ℕ) (r : Reader) → r.stop ≡ None → Enough calls 0 r → to_read (read_function calls (read_begun r)).following < to_read r
function-less calls r going enough =
    shorter-reads r (read_function calls (read_begun r)).following going
    (λ on. (function-sound calls r (read_begun r) (begun-sound r) (omega (arith, enough, going-reads r going)) on).shorter)

-- a function, from its local variables and its statements
abbrev with_body : Got PartialFunction → Got (List PartialVariable) → Got Block → Got PartialFunction
with_body head locals body =
    got (record head.value { locals = locals.value; body = body.value.lines; last = line_of body.following.left })
    (take_mark (codes "}") body.following)

body-same : (few many : ℕ) (head : Got PartialFunction) → few ≤ many → Enough few 6 head.following → read_body few head ≡ read_body many head
body-same few many head below enough =
    let here = take_mark (codes "{") (with_first_depth head.following) in
    let locals = read_locals many here in
    let less : to_read here ≤ to_read head.following = omega (arith, first_depth-reads head.following, mark-reads (codes "{") (with_first_depth head.following)) in
    ap (λ (g : Got (List PartialVariable)). with_body head g (read_lines few outermost false false g.following)) (locals-same few many here below (omega (arith, enough, less)))
    ∙ ap (with_body head locals) (same_lines few many outermost false false locals.following below (omega (arith, enough, less, locals-reads many here)))

function-same : (few many : ℕ) (begun : Got Begun) → few ≤ many → Enough few 6 begun.following → read_function few begun ≡ read_function many begun
function-same few many begun below enough =
    ap (read_body few) (head-same few many begun below (omega (arith, enough)))
    ∙ body-same few many (read_head many begun) below (omega (arith, enough, head-reads many begun))

not_stopped : (r : Reader) (b : Bool) → (is_stopped r || b) ≡ false → r.stop ≡ None
not_stopped r b is = by r.stop is
  where
    by : (stop : Option Offence) → (is_some stop || b) ≡ false → stop ≡ None
    by (Some offence) is = absurd cc
    by None is = refl

functions-same : (few many : ℕ) (r : Reader) → few ≤ many → Enough few 1 r → read_functions few r ≡ read_functions many r
functions-same zero many r below enough = absurd (omega (arith, enough))
functions-same (suc few) zero r below enough = absurd (omega (arith, below))
functions-same (suc few) (suc many) r below enough =
    if-same (is_stopped r || (length r.left == 0)) (λ _. refl)
    (λ goes.
    let going = not_stopped r (length r.left == 0) goes in
    let begun = read_begun r in
    let first = read_function many begun in
    let less : few ≤ many = omega (arith, below) in
    let room : 16 * to_read r ≤ few = omega (arith, enough) in
    let first_less = shorter-reads r begun.following going (λ on. (begun-sound r on).shorter) in
    let others_less : to_read first.following < to_read r = function-less many r going (omega (arith, less, room)) in
    ap (λ (g : Got PartialFunction). before_list (g.value ∷ []) (read_functions few g.following)) (function-same few many begun less (omega (arith, room, first_less)))
    ∙ ap (before_list (first.value ∷ [])) (functions-same few many first.following less (omega (arith, room, others_less))))

with-same : (few many : ℕ) (r : Reader) → few ≤ many → Enough few 6 r → with_functions few (read_begun r) ≡ with_functions many (read_begun r)
with-same few many r below enough =
    let begun = read_begun r in
    let first = read_function many begun in
    ap (λ (g : Got PartialFunction). before_list (g.value ∷ []) (read_functions few g.following)) (function-same few many begun below (omega (arith, enough, begun-reads r)))
    ∙ ap (before_list (first.value ∷ [])) (functions-same few many first.following below (omega (arith, enough, function-reads many r (omega (arith, below, enough)))))

-- Whole texts.

-- the reader goes on where a type begins
result-going : (r : Reader) → (read_begun r).value.has_result ≡ true → r.stop ≡ None
result-going r =
    if-cases (λ (g : Got Begun). g.value.has_result ≡ true → r.stop ≡ None) (sees_word (codes "void") r)
    (λ _ has. absurd cc) (λ _ has. sees-going begins_type r refl has)

global-less : (calls here : ℕ) (r : Reader) → (read_begun r).value.has_result ≡ true → to_read (read_global calls here (read_begun r)).following < to_read r
global-less calls here r has =
    shorter-reads r (read_global calls here (read_begun r)).following (result-going r has)
    (λ on. (global-sound calls here r (read_begun r) (begun-sound r) has on).shorter)

declared-same : (few many : ℕ) (address : Option ℕ) (r : Reader) → few ≤ many → Enough few 7 r → read_declared few address r ≡ read_declared many address r
declared-same zero many address r below enough = absurd (omega (arith, enough))
declared-same (suc few) zero address r below enough = absurd (omega (arith, below))
declared-same (suc few) (suc many) address r below enough =
    let begun = read_begun r in
    let number = take_number_of_line (line_of r.left) (skip r) in
    let less : few ≤ many = omega (arith, below) in
    let room : 16 * to_read r + 6 ≤ few = omega (arith, enough) in
    if-same (sees_head place_line r)
    (λ sees. declared-same few many (Some (address_of number.value)) number.following less (omega (arith, room, sees-reads (is_the_head place_line) r refl sees, number-reads (line_of r.left) (skip r))))
    (λ _. choice-same address
    (λ here _. if-same (begun.value.has_result && not (sees_mark (codes "(") begun.following))
    (λ global.
    let v = read_global many here begun in
    let v_less = global-less many here r (and_parts _ _ global).0 in
    ap (λ (g : Got PartialVariable). before_declared g.value (read_declared few (Some (here + size_in_bytes g.value)) g.following)) (global-same few many here begun less (omega (arith, room, begun-reads r)))
    ∙ ap (before_declared v.value) (declared-same few many (Some (here + size_in_bytes v.value)) v.following less (omega (arith, room, v_less))))
    (λ _. ap (declared []) (with-same few many r less room)))
    (λ _. ap (declared []) (with-same few many r less room)))

text-same : (few many : ℕ) (r : Reader) → few ≤ many → r.stop ≡ None → Enough few 0 r → read_text few r ≡ read_text many r
text-same few many r below going enough =
    let begun = take_head stack_line r in
    let lo = take_number_of_line (line_of r.left) begun in
    let hi = take_number_of_line (line_of r.left) lo.following in
    let less = shorter-reads r begun going (λ on. let took = head-sound stack_line r on in omega (arith, took.one_less)) in
    ap (λ (others : Got Declared). got (record { lo = lo.value; hi = hi.value; globals = others.value.globals; functions = others.value.functions }) others.following)
    (declared-same few many None hi.following below (omega (arith, enough, less, number-reads (line_of r.left) begun, number-reads (line_of r.left) lo.following)))

-- What is read of a text is the same with each number of calls that is enough for its pieces.
pub read-text-enough : (n : ℕ) (pieces : List Piece) → enough_calls pieces ≤ n → read_text n (reader_of pieces) ≡ reading_of pieces
read-text-enough n pieces more =
    let r = reader_of pieces in
    sym (text-same (enough_calls pieces) n r more refl (omega (arith, going-reads r refl)))
