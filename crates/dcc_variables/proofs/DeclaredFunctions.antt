-- The declarations of a function's parameters and variables give what the spelling names.
use Rattle.std.proofs.Common.{◌≡◌, ℕ, ◌+◌, ◌<◌, ◌^◌, Bool, true, false, inl, inr, List, [], ◌∷◌, ◌++◌, length, map, Option, Some, None, is_some, refl, sym, ap, ◌∙◌, subst, true≢false, arith, mod-lt}
use Rattle.std.specs.Prelude.{◌==◌, ◌&&◌, not, filter, if◌then◌else◌}
use Rattle.std.specs.Fmt.{decimal}
use Rattle.std.proofs.lemmas.Bool.{and_from, and_parts, or_cases, or_left, or_right, false_from_ne_true}
use Rattle.dcc_ir.specs.declared.syntax.Loc.{Loc}
use Rattle.dcc_ir.specs.declared.syntax.Put.{Put}
use Rattle.dcc_ir.specs.declared.syntax.Param.{Param}
use Rattle.dcc_ir.specs.Live.{is_among}
use Rattle.dcc_ir.specs.Location.{location_width, same_location}
use Rattle.dcc_ir.specs.Tree.{Graph}
use Rattle.dcc_ir.specs.WellFormed.{is_memory, put_width, IsGraph}
use Rattle.dcc_ir.proofs.LocationLaws.{location_same, location_itself}
use Rattle.dcc_ir.proofs.PathLaws.{decided}
use Rattle.dcc_c.specs.declared.syntax.Base.TheVariants.{Uchar, Uint}
use Rattle.dcc_c.specs.declared.syntax.Class.TheVariants.{Auto}
use Rattle.dcc_c.proofs.NameLaws.{same_bytes-refl}
use Rattle.dcc_c.specs.Grammar.{is_name, keywords}
use Rattle.dcc_c.specs.Grammar as words
use Rattle.dcc_c.specs.Placement.{is_register}
use Rattle.dcc_c.specs.Rules.{declared_param, declared_local, declared_global, declared_in}
use Rattle.dcc_c.specs.Token.{same_bytes, is_word}
use Rattle.dcc_c.specs.Tree.{Word, Variable, Function, Tree}
use Rattle.dcc_c.specs.Types.{plain}
use Rattle.dcc_c.specs.Typing.{Declared, declared_as}
use Rattle.dcc_text.specs.Allowed.{IsDeclared, IsDeclaredPlace, AreDeclared}
use Rattle.dcc_text.specs.Spelled.{unsigned_type}
use Rattle.dcc_text.specs.Spelling.{Placed}
use Rattle.dcc_variables.specs.Laws.{AreFew}
use Rattle.dcc_variables.specs.Variables.{locations, Shape, shape_of, variable_name, frame_name, variable, frame_array, declarations, graph_spelling}
use Rattle.dcc_variables.proofs.Declared.{names-declared}
use Rattle.dcc_variables.proofs.FirstStates.{type-for, wide-of}
use Rattle.dcc_variables.proofs.Names.{names-same, frame-apart, numbered-name}
use Rattle.dcc_variables.specs.Functions.{parameter_name, is_taken_whole, place_from, place_in, parameter, parameters_from, parameters, memory_from, name_or, is_own, function_shape, own_declarations, function_spelling}
use Rattle.dcc_variables.proofs.FramePlaces.{IsToldBy, by_parameter, by_array, place-told, memory-within, memory-is}
use Rattle.dcc_variables.proofs.ParamNames.{places-apart, whole-is, place-small}

some-equal : {A : Type 0} {a b : A} → Some a ≡ Some b → a ≡ b
some-equal e = cc

-- Parameters.

-- a parameter is declared as a number of its width
pub record IsDeclaredParameter (bits : List ℕ) (names : List Declared) (l : Loc) (k : ℕ) : Type 0 where
  pub placed : Bool
  pub found : declared_as names (parameter_name k) ≡ Some (record {
    name = parameter_name k;
    type = plain (unsigned_type (location_width bits l));
    is_array = false;
    is_placed = placed;
  })

module _ (bits : List ℕ) where
  -- each parameter is declared under its name
  abbrev pub AreDeclaredFrom : List Declared → ℕ → List Param → Type 0
  AreDeclaredFrom names j [] = Unit {0}
  AreDeclaredFrom names j (p ∷ params) = (declared_as names (parameter_name j) ≡ Some (declared_param (parameter bits j p))) × AreDeclaredFrom names (j + 1) params

  declared-after : (d : Declared) (m : ℕ) → d.name ≡ parameter_name m → (names : List Declared) (j : ℕ) (params : List Param) → m < j → j + length params < 2 ^ 63
      → AreDeclaredFrom names j params → AreDeclaredFrom (d ∷ names) j params
  declared-after d m named names j [] less few are = tt
  declared-after d m named names j (p ∷ params) less few are = (
    ap (λ c. if c then Some d else declared_as names (parameter_name j)) (ap (λ name. same_bytes name (parameter_name j)) named ∙ places-apart m j less (omega (arith, few))) ∙ are.0,
    declared-after d m named names (j + 1) params (omega (arith, less)) (omega (arith, few)) are.1,
  )

  pub all-declared : (j : ℕ) (params : List Param) (others : List Declared) → j + length params < 2 ^ 63 → AreDeclaredFrom (map declared_param (parameters_from bits j params) ++ others) j params
  all-declared j [] others few = tt
  all-declared j (p ∷ params) others few =
      let names = map declared_param (parameters_from bits (j + 1) params) ++ others in (
        ap (λ c. if c then Some (declared_param (parameter bits j p)) else declared_as names (parameter_name j)) (same_bytes-refl (parameter_name j)),
        declared-after (declared_param (parameter bits j p)) j refl names (j + 1) params (omega arith) (omega (arith, few)) (all-declared (j + 1) params others (omega (arith, few))),
      )

  -- a location that takes a whole argument is declared as its parameter
  parameter-declared : (names : List Declared) (j : ℕ) (params : List Param) (l : Loc) (k : ℕ) → AreDeclaredFrom names j params → place_from j params l ≡ Some k → IsDeclaredParameter bits names l k
  parameter-declared names j [] l k are is = absurd cc
  parameter-declared names j (p ∷ params) l k are is = elim (decided (is_taken_whole p.put l)) [
    | inl here ↦
        (let same : j ≡ k = some-equal (sym (ap (λ b. if b then Some j else place_from (j + 1) params l) here) ∙ is) in
        subst (IsDeclaredParameter bits names l) same (record {
          placed = not (is_register (parameter bits j p).class);
          found = are.0 ∙ ap (λ put. Some (record {
            name = parameter_name j;
            type = plain (unsigned_type (put_width bits put));
            is_array = false;
            is_placed = not (is_register (parameter bits j p).class);
          })) (whole-is p.put l here);
        }))
    | inr later ↦ parameter-declared names (j + 1) params l k are.1 (sym (ap (λ b. if b then Some j else place_from (j + 1) params l) later) ∙ is)
  ]

  -- an argument in memory is declared under its name, and has a place
  memory-declared : (names : List Declared) (j : ℕ) (params : List Param) (k : ℕ) → AreDeclaredFrom names j params → memory_from j params ≡ Some k
      → declared_as names (parameter_name k) ≡ Some (record { name = parameter_name k; type = plain Uint; is_array = false; is_placed = true })
  memory-declared names j [] k are is = absurd cc
  memory-declared names j (p ∷ params) k are is = elim (decided (p.stack && is_memory p.put)) [
    | inl here ↦
        (let same : j ≡ k = some-equal (sym (ap (λ b. if b then Some j else memory_from (j + 1) params) here) ∙ is) in
        subst (λ m. declared_as names (parameter_name m) ≡ Some (record { name = parameter_name m; type = plain Uint; is_array = false; is_placed = true })) same
        (are.0 ∙ declared-so p.stack p.put here))
    | inr later ↦
        memory-declared names (j + 1) params k are.1
        (sym (ap (λ b. if b then Some j else memory_from (j + 1) params) later) ∙ is)
  ]
    where
      declared-so : (stack : Bool) (put : Put) → (stack && is_memory put) ≡ true
          → Some (declared_param (parameter bits j (record { stack = stack; put = put })))
          ≡ Some (record { name = parameter_name j; type = plain Uint; is_array = false; is_placed = true })
      declared-so true put is = ap (λ put. Some (declared_param (parameter bits j (record { stack = true; put = put })))) (memory-is put is)
      declared-so false put is = absurd (true≢false (sym is))

  -- another name is no parameter's
  no-parameter-declared : (j : ℕ) (params : List Param) (others : List Declared) (word : Word)
      → declared_as (map declared_param (parameters_from bits j params) ++ others) (118 ∷ word) ≡ declared_as others (118 ∷ word)
  no-parameter-declared j [] others word = refl
  no-parameter-declared j (p ∷ params) others word = no-parameter-declared (j + 1) params others word

-- Names of parameters.

-- a name that begins with p and a digit is no keyword
pub parameter-word : (k : ℕ) → k < 2 ^ 63 → is_name (parameter_name k) ≡ true
parameter-word k small = by (decimal (k + 1)) (numbered-name (k + 1) (omega (arith, small)))
  where
    by : (ds : List ℕ) → is_name (118 ∷ ds) ≡ true → is_name (112 ∷ ds) ≡ true
    by ds is = and_from (is_word (112 ∷ ds)) (not (words.is_among keywords (112 ∷ ds))) (and_parts (is_word (118 ∷ ds)) _ is).0 refl

module _ (g : Graph) (few : AreFew (shape_of g)) (few_params : length g.params < 2 ^ 32) (formed : IsGraph g) where
  abbrev shape : Shape
  shape = shape_of g

  abbrev ls : List Loc
  ls = locations g

  -- The declarations without those of parameters.

  -- a location that is no parameter is declared as it is among all
  others-declared : (xs : List Loc) (more : List Declared) (l : Loc) → ((x : Loc) → is_among xs x ≡ true → is_among ls x ≡ true) → is_among ls l ≡ true → is_own g l ≡ true
      → declared_as (map declared_local (map (variable shape) (filter (is_own g) xs)) ++ more) (variable_name shape l)
      ≡ declared_as (map declared_local (map (variable shape) xs) ++ more) (variable_name shape l)
  others-declared [] more l all there own = refl
  others-declared (x ∷ xs) more l all there own =
      let rest = others-declared xs more l (λ y among. all y (or_right (same_location y x) (is_among xs y) among)) there own in
      by (is_own g x) refl rest
    where
      by : (b : Bool) → is_own g x ≡ b
          → declared_as (map declared_local (map (variable shape) (filter (is_own g) xs)) ++ more) (variable_name shape l) ≡ declared_as (map declared_local (map (variable shape) xs) ++ more) (variable_name shape l)
          → declared_as (map declared_local (map (variable shape) (if b then x ∷ filter (is_own g) xs else filter (is_own g) xs)) ++ more) (variable_name shape l)
          ≡ declared_as (map declared_local (map (variable shape) (x ∷ xs)) ++ more) (variable_name shape l)
      by true is rest = ap (λ found. if same_bytes (variable_name shape x) (variable_name shape l) then Some (declared_local (variable shape x)) else found) rest
      by false is rest =
          rest ∙ ap (λ c. if c then Some (declared_local (variable shape x)) else declared_as (map declared_local (map (variable shape) xs) ++ more) (variable_name shape l))
          (sym (false_from_ne_true _ (λ same.
          true≢false (sym own ∙ ap (is_own g) (sym (names-same g few x l (all x (or_left (same_location x x) (is_among xs x) (location_itself x))) there same)) ∙ is))))

  -- the array comes after all of them
  array-declared : (P : Loc → Bool) (xs : List Loc) (more : List Declared) → ((x : Loc) → is_among xs x ≡ true → is_among ls x ≡ true)
      → declared_as (map declared_local (map (variable shape) (filter P xs)) ++ more) frame_name ≡ declared_as more frame_name
  array-declared P [] more all = refl
  array-declared P (x ∷ xs) more all = by (P x) (array-declared P xs more (λ y among. all y (or_right (same_location y x) (is_among xs y) among)))
    where
      by : (b : Bool) → declared_as (map declared_local (map (variable shape) (filter P xs)) ++ more) frame_name ≡ declared_as more frame_name
          → declared_as (map declared_local (map (variable shape) (if b then x ∷ filter P xs else filter P xs)) ++ more) frame_name ≡ declared_as more frame_name
      by true rest =
          ap (λ c. if c then Some (declared_local (variable shape x)) else declared_as (map declared_local (map (variable shape) (filter P xs)) ++ more) frame_name)
          (frame-apart g few x (all x (or_left (same_location x x) (is_among xs x) (location_itself x)))) ∙ rest
      by false rest = rest

  -- whatever stands after the variables
  front-declared : (xs : List Loc) (more others : List Declared) (l : Loc) → is_among xs l ≡ true
      → declared_as (map declared_local (map (variable shape) xs) ++ more) (variable_name shape l)
      ≡ declared_as (map declared_local (map (variable shape) xs) ++ others) (variable_name shape l)
  front-declared [] more others l there = absurd (true≢false (sym there))
  front-declared (x ∷ xs) more others l there = elim (or_cases (same_location l x) (is_among xs l) there) [
    | inl here ↦
        subst (λ y. declared_as (map declared_local (map (variable shape) (y ∷ xs)) ++ more) (variable_name shape l)
        ≡ declared_as (map declared_local (map (variable shape) (y ∷ xs)) ++ others) (variable_name shape l)) (location_same l x here)
        (found more ∙ sym (found others))
    | inr later ↦
        ap (λ rest. if same_bytes (variable_name shape x) (variable_name shape l) then Some (declared_local (variable shape x)) else rest)
        (front-declared xs more others l later)
  ]
    where
      found : (rest : List Declared) → declared_as (map declared_local (map (variable shape) (l ∷ xs)) ++ rest) (variable_name shape l)
          ≡ Some (declared_local (variable shape l))
      found rest =
          ap (λ c. if c then Some (declared_local (variable shape l)) else declared_as (map declared_local (map (variable shape) xs) ++ rest) (variable_name shape l))
          (same_bytes-refl (variable_name shape l))

  split : (xs ys : List Variable) (more : List Declared) → map declared_local (xs ++ ys) ++ more ≡ map declared_local xs ++ (map declared_local ys ++ more)
  split [] ys more = refl
  split (x ∷ xs) ys more = ap (λ ds. declared_local x ∷ ds) (split xs ys more)

  module _ (tree : Tree) (f : Function) (params : f.params ≡ parameters g) (locals : f.locals ≡ own_declarations g) where
    -- how many bytes the array has
    abbrev bytes : ℕ
    bytes = (function_shape g).frame

    abbrev more : List Declared
    more = map declared_local (frame_array bytes) ++ map declared_global tree.globals

    -- a function with the same variables and without parameters
    abbrev alone : Function
    alone = record f { params = []; locals = declarations shape }

    are-alone : AreDeclared (declared_in tree alone) (graph_spelling g)
    are-alone = names-declared g few formed tree alone refl refl

    -- where a name of the kind is looked up
    looked-up : (word : Word) → declared_as (declared_in tree f) (118 ∷ word) ≡ declared_as (map declared_local (map (variable shape) (filter (is_own g) ls)) ++ more) (118 ∷ word)
    looked-up word =
        ap (λ ps. declared_as (map declared_param ps ++ (map declared_local f.locals ++ map declared_global tree.globals)) (118 ∷ word)) params
        ∙ ap (λ vs. declared_as (map declared_param (parameters g) ++ (map declared_local vs ++ map declared_global tree.globals)) (118 ∷ word)) locals
        ∙ no-parameter-declared g.bits 0 g.params (map declared_local (own_declarations g) ++ map declared_global tree.globals) word
        ∙ ap (λ ds. declared_as ds (118 ∷ word)) (split (map (variable shape) (filter (is_own g) ls)) (frame_array bytes) (map declared_global tree.globals))

    looked-up-alone : (l : Loc) → is_among ls l ≡ true → declared_as (declared_in tree alone) (variable_name shape l) ≡ declared_as (map declared_local (map (variable shape) ls) ++ more) (variable_name shape l)
    looked-up-alone l named =
        ap (λ ds. declared_as ds (variable_name shape l)) (split (map (variable shape) ls) (frame_array shape.frame) (map declared_global tree.globals))
        ∙ front-declared ls (map declared_local (frame_array shape.frame) ++ map declared_global tree.globals) more l named

    variable-declared : (l : Loc) → (graph_spelling g).named l ≡ true → (o : Option ℕ) → place_in g l ≡ o → IsDeclared (declared_in tree f) (function_spelling g) l
    variable-declared l named (Some k) place =
        let small = place-small g few few_params l k place in
        let rest = map declared_local f.locals ++ map declared_global tree.globals in
        let x = parameter-declared g.bits (map declared_param (parameters g) ++ rest) 0 g.params l k (all-declared g.bits 0 g.params rest (omega (arith, few_params))) place in
        let name = sym (ap (λ o. name_or o (variable_name shape l)) place) in record {
          word = subst (λ word. is_name word ≡ true) name (parameter-word k small);
          typed = type-for (location_width g.bits l) (wide-of g few formed l named);
          is_placed = x.placed;
          declared = subst (λ word. declared_as (declared_in tree f) word ≡ Some (record {
            name = word;
            type = plain (unsigned_type (location_width g.bits l));
            is_array = false;
            is_placed = x.placed;
          })) name (ap (λ ps. declared_as (map declared_param ps ++ (map declared_local f.locals ++ map declared_global tree.globals)) (parameter_name k)) params ∙ x.found);
        }
    variable-declared l named None place =
        let x = are-alone.variables l named in
        let name = sym (ap (λ o. name_or o (variable_name shape l)) place) in record {
          word = subst (λ word. is_name word ≡ true) name x.word;
          typed = x.typed;
          is_placed = x.is_placed;
          declared = subst (λ word. declared_as (declared_in tree f) word ≡ Some (record {
            name = word;
            type = plain (unsigned_type (location_width g.bits l));
            is_array = false;
            is_placed = x.is_placed;
          })) name
              (looked-up _ ∙ others-declared ls more l (λ y there. there) named (ap (λ o. not (is_some o)) place) ∙ sym (looked-up-alone l named) ∙ x.declared);
        }

    -- the array is declared, where it has bytes
    array-there : (bytes == 0) ≡ false → declared_as (declared_in tree f) frame_name ≡ Some (record {
      name = frame_name;
      type = plain Uchar;
      is_array = true;
      is_placed = true;
    })
    array-there some =
        let array : Variable = record { name = frame_name; type = plain Uchar; len = Some bytes; class = Auto } in
        looked-up _ ∙ array-declared (is_own g) ls more (λ y there. there)
        ∙ ap (λ none. declared_as (map declared_local (if none then [] else array ∷ []) ++ map declared_global tree.globals) frame_name) some
        ∙ ap (λ same. if same then Some (declared_local array) else declared_as (map declared_global tree.globals) frame_name)
        (same_bytes-refl frame_name)

    place-declared : (distance : ℕ) (q : Placed) → IsToldBy (memory_from 0 g.params) bytes distance q → IsDeclaredPlace (declared_in tree f) q
    place-declared distance q (by_parameter place memory low high same) =
        let rest = map declared_local f.locals ++ map declared_global tree.globals in
        let within = memory-within g.params 0 place memory in
        subst (IsDeclaredPlace (declared_in tree f)) (sym same) (record {
          word = parameter-word place (omega (arith, within.1, few_params));
          type = Uint;
          declared = ap (λ ps. declared_as (map declared_param ps ++ rest) (parameter_name place)) params
              ∙ memory-declared g.bits (map declared_param (parameters g) ++ rest) 0 g.params place
              (all-declared g.bits 0 g.params rest (omega (arith, few_params))) memory;
          small = omega (arith, high);
        })
    place-declared distance q (by_array some same) =
        subst (IsDeclaredPlace (declared_in tree f)) (sym same) (record {
          word = numbered-name 17 (omega arith);
          type = Uchar;
          declared = array-there some;
          small = mod-lt (distance + (4 + bytes)) (omega arith);
        })

    pub function-declared : AreDeclared (declared_in tree f) (function_spelling g)
    function-declared = record { variables = λ l named. variable-declared l named (place_in g l) refl; places = λ distance q is. place-declared distance q (place-told (memory_from 0 g.params) bytes distance q is) }
