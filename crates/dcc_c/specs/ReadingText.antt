-- Reading a whole text: its stack line, global variables and functions.
use Rattle.std.specs.Prelude.{ℕ, zero, suc, ◌+◌, ◌*◌, ◌==◌, Bool, false, ◌&&◌, ◌||◌, not, if◌then◌else◌, List, [], ◌∷◌}
use Rattle.std.specs.Prelude.{length, codes, Option, Some, None, option_map}
use Rattle.dcc_c.specs.declared.syntax.CType.{CType}
use Rattle.dcc_c.specs.declared.syntax.Class.TheVariants.{Plain}
use Rattle.dcc_c.specs.Token.{stack_line, place_line}
use Rattle.dcc_c.specs.Grammar.{outermost}
use Rattle.dcc_c.specs.Placement.{bytes_of}
use Rattle.dcc_c.specs.Pieces.{Piece}
use Rattle.dcc_c.specs.Partial.{WordAt, NumberAt, no_rows, PartialVariable, PartialFunction, PartialText}
use Rattle.dcc_c.specs.Reading.{Reader, Got, got, is_stopped, next_token, line_of, skip, sees_mark, sees_word}
use Rattle.dcc_c.specs.Reading.{take_mark, take_name, begins_type, take_type}
use Rattle.dcc_c.specs.ReadingStatements.{sees_head, take_head, take_number_of_line, read_lines, read_size, read_init}
use Rattle.dcc_c.specs.ReadingStatements.{read_locals, read_params}

-- Functions.

-- what a function begins with: its place, its result and its name
pub record Begun : Type 0 where
  pub at : ℕ
  pub has_result : Bool
  pub result : Option CType
  pub name : Option WordAt

abbrev pub begun_by : ℕ → Bool → Option CType → Got (Option WordAt) → Got Begun
begun_by at has_result result name =
    got (record { at = at; has_result = has_result; result = result; name = name.value }) name.following

-- a type or `void`, and a name
abbrev pub read_begun : Reader → Got Begun
read_begun r =
    if sees_word (codes "void") r then begun_by r.at false None (take_name (skip r))
    else (let type = take_type r in begun_by r.at (begins_type (next_token r)) type.value (take_name type.following))

-- the head of a function with the given parameters, where the first of them begins at the reader
abbrev pub head_with : Got Begun → Reader → Got (List PartialVariable) → Got PartialFunction
head_with begun inside params =
    let end = take_mark (codes ")") params.following in
    got (record {
      at = begun.value.at;
      has_result = begun.value.has_result;
      result = begun.value.result;
      name = begun.value.name;
      opened = if is_stopped inside then None else Some inside.at;
      without_params = sees_word (codes "void") inside;
      params = params.value;
      headed = not (is_stopped end);
      locals = [];
      body = no_rows;
      last = 0;
    }) end

-- the head of a function after its name: the parameters in parentheses
abbrev pub read_head : ℕ → Got Begun → Got PartialFunction
read_head calls begun =
    let inside = take_mark (codes "(") begun.following in
    head_with begun inside (read_params calls inside)

-- Calls have depth 2 at the beginning of a function.
abbrev pub with_first_depth : Reader → Reader
with_first_depth r = record r { depth = 2 }

-- a function after its head
abbrev pub read_body : ℕ → Got PartialFunction → Got PartialFunction
read_body calls head =
    let locals = read_locals calls (take_mark (codes "{") (with_first_depth head.following)) in
    let body = read_lines calls outermost false false locals.following in
    got (record head.value { locals = locals.value; body = body.value.lines; last = line_of body.following.left })
    (take_mark (codes "}") body.following)

abbrev pub read_function : ℕ → Got Begun → Got PartialFunction
read_function calls begun = read_body calls (read_head calls begun)

-- functions up to the end of the text
abbrev pub read_functions : ℕ → Reader → Got (List PartialFunction)
read_functions zero r = got [] r
read_functions (suc calls) r =
    if is_stopped r || (length r.left == 0) then got [] r
    else (
    let first = read_function calls (read_begun r) in
    let others = read_functions calls first.following in
    got (first.value ∷ others.value) others.following
    )

-- the functions, the first of which has begun
abbrev pub with_functions : ℕ → Got Begun → Got (List PartialFunction)
with_functions calls begun =
    let first = read_function calls begun in
    let others = read_functions calls first.following in
    got (first.value ∷ others.value) others.following

-- Global variables.

-- the rest of a global variable after its name, at an address
abbrev pub read_global : ℕ → ℕ → Got Begun → Got PartialVariable
read_global calls address begun =
    let size = read_size begun.following in
    let init = read_init calls size.following in
    let end = take_mark (codes ";") init.following in
    got (record {
      name = begun.value.name;
      type = begun.value.result;
      class = Plain;
      size = size.value;
      init = init.value;
      address = address;
      done = not (is_stopped end);
    }) end

-- how many bytes a global variable takes
abbrev pub size_in_bytes : PartialVariable → ℕ
size_in_bytes v = elim v.type [ Some type ↦ bytes_of type (option_map (λ n. n.value) v.size) | None ↦ 0 ]

-- the address that a place line gives
abbrev pub address_of : Option NumberAt → ℕ
address_of (Some n) = n.value
address_of None = 0

-- global variables, and the functions after them
pub record Declared : Type 0 where
  pub globals : List PartialVariable
  pub functions : List PartialFunction

abbrev pub declared : List PartialVariable → Got (List PartialFunction) → Got Declared
declared globals functions = got (record { globals = globals; functions = functions.value }) functions.following

abbrev pub before_declared : PartialVariable → Got Declared → Got Declared
before_declared v others =
    got (record { globals = v ∷ others.value.globals; functions = others.value.functions }) others.following

-- Place lines, and variables after each, up to a function. The next variable after a place line has an address.
abbrev pub read_declared : ℕ → Option ℕ → Reader → Got Declared
read_declared zero address r = declared [] (got [] r)
read_declared (suc calls) address r =
    if sees_head place_line r then (
    let n = take_number_of_line (line_of r.left) (skip r) in
    read_declared calls (Some (address_of n.value)) n.following
    )
    else (
    let begun = read_begun r in
    elim address [
      | Some here ↦ if begun.value.has_result && not (sees_mark (codes "(") begun.following)
          then (
          let v = read_global calls here begun in
          before_declared v.value (read_declared calls (Some (here + size_in_bytes v.value)) v.following)
          )
          else declared [] (with_functions calls begun)
      | None ↦ declared [] (with_functions calls begun)
    ])

-- The whole text after its version line. Twice as many nested calls as there are pieces suffice for each rule.
abbrev pub read_text : ℕ → Reader → Got PartialText
read_text calls r =
    let lo = take_number_of_line (line_of r.left) (take_head stack_line r) in
    let hi = take_number_of_line (line_of r.left) lo.following in
    let others = read_declared calls None hi.following in
    got (record { lo = lo.value; hi = hi.value; globals = others.value.globals; functions = others.value.functions })
    others.following

-- a reader at the first of some pieces
abbrev pub reader_of : List Piece → Reader
reader_of pieces = record { left = pieces; at = 0; stop = None; depth = 2 }

-- how deep reading may nest: at each piece some rules call one another
abbrev pub enough_calls : List Piece → ℕ
enough_calls pieces = 16 * length pieces + 16

-- what is read of a text that has these pieces after its version line
abbrev pub reading_of : List Piece → Got PartialText
reading_of pieces = read_text (enough_calls pieces) (reader_of pieces)
