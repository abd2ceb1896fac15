-- The frame of a call in the text: the parameters, then the variables of the graph.
use Rattle.std.proofs.Common.{◌≡◌, ℕ, ◌+◌, ◌-◌, ◌*◌, ◌%◌, ◌^◌, ◌<◌, ◌≤◌, true, false, ◌==◌, List, [], ◌∷◌, ◌++◌, length, map, Option, Some, None, is_some, refl, sym, ap, ◌∙◌, subst, true≢false, arith, mod-lt}
use Rattle.std.specs.Prelude.{not, filter, if◌then◌else◌}
use Rattle.std.specs.List.{list_all}
use Rattle.std.proofs.lemmas.Nat.{pow_pos}
use Rattle.std.proofs.lemmas.List.{append-nil}
use Rattle.dcc_ir.specs.declared.syntax.Loc.{Loc}
use Rattle.dcc_ir.specs.Location.{location_width, Values, fill_at, filled}
use Rattle.dcc_ir.specs.Live.{is_among}
use Rattle.dcc_ir.specs.Tree as inner
use Rattle.dcc_ir.specs.Run as inner_run
use Rattle.dcc_ir.specs.WellFormed.{is_width, is_param_list, memory_params_last, IsGraph}
use Rattle.dcc_c.specs.declared.syntax.Base.TheVariants.{Uchar, Int, Uint}
use Rattle.dcc_c.specs.Placement.{below, local_places, params_of_call}
use Rattle.dcc_c.specs.Run as c
use Rattle.dcc_c.specs.Tree.{Word, Function}
use Rattle.dcc_c.specs.Types.{bits_of, plain, extended_bits, convert}
use Rattle.dcc_c.specs.Value.{Value, Unplaced, PlacedAt, Binding, variable_in}
use Rattle.dcc_text.specs.Holding.{Locations, HoldsFrame}
use Rattle.dcc_text.specs.Meaning.{IsVariable, IsHeld, IsPlaced}
use Rattle.dcc_text.specs.Spelled.{unsigned_type}
use Rattle.dcc_text.specs.Spelling.{Placed, Spelling}
use Rattle.dcc_text.proofs.Sizes.{bits, size-of}
use Rattle.dcc_text.proofs.StmtSteps.{type-bits, taken-low}
use Rattle.dcc_variables.specs.Laws.{AreFew}
use Rattle.dcc_variables.specs.Variables.{locations, Shape, shape_of, variable_name, frame_name, variable, frame_array, frame_place}
use Rattle.dcc_variables.proofs.FirstStates.{type-for, wide-of, bound, array_bound, variable-found, array-after, array-found}
use Rattle.dcc_variables.proofs.Lists.{filter-among, among-filter}
use Rattle.dcc_variables.specs.Functions.{parameter_name, place_in, parameters, memory_from, name_or, is_own, function_shape, own_declarations, argument_place, function_spelling, function_of}
use Rattle.dcc_variables.specs.FunctionLaws.{has_name}
use Rattle.dcc_plan.specs.Calls.{all_byte_places, all_places, locations_differ}
use Rattle.dcc_plan.proofs.Bindings.{param_places_from, is_unplaced, places-are, AreArguments, AreBound, all-bound, no-parameter, memory-bound, IsParameter, parameter-is, AreWords, words-are}
use Rattle.dcc_variables.proofs.FramePlaces.{IsToldBy, by_parameter, by_array, place-told}
use Rattle.dcc_plan.proofs.Passings.{values_after, values-other, takes-none}

-- the low bits of what a variable of a type for so many bits holds at first
low-filled : (fill width : ℕ) → is_width width ≡ true → convert Int (unsigned_type width) fill % 2 ^ width ≡ fill_at width fill
low-filled fill width wide =
    let s = size-of width wide in
    let room = type-bits width (unsigned_type width) false (type-for width wide) in
    subst (λ w. bits_of (unsigned_type w) ≡ (if w == 1 then 8 else w) → convert Int (unsigned_type w) fill % 2 ^ w ≡ fill_at w fill) (sym s.1)
    (λ is. taken-low s.0 (extended_bits Int fill) (fill_at (bits s.0) fill) (bits_of (unsigned_type (bits s.0))) is refl) room

-- where an address in the frame lies
array-there : (base distance bytes : ℕ) → (below base (4 + bytes) + (distance + (4 + bytes)) % 65536) % 65536 ≡ (base + distance) % 65536
array-there base distance bytes = omega arith

-- where an argument lies, above the first in memory
argument-there : (base distance k : ℕ) → 2 * k ≤ distance
    → ((base + 2 * k) % 65536 + (distance - 2 * k)) % 65536 ≡ (base + distance) % 65536
argument-there base distance k low = omega (arith, low)

-- What a call of the function of a graph has.
module _ (g : inner.Graph) (few : AreFew (shape_of g)) (few_params : length g.params < 2 ^ 32) (apart : locations_differ (all_places g.params) ≡ true) (formed : IsGraph g)
    (listed : is_param_list g.bits g.params ≡ true) (last : memory_params_last g.params ≡ true) (f : Function)
    (word : Word) (is : f ≡ function_of g word f.body f.last) (unplaced : list_all (is_unplaced f.body) f.params ≡ true)
    (fill base : ℕ) (vs : List Value) (ns : List ℕ) (are : AreArguments g.bits g.params vs ns) where
  abbrev shape : Shape
  shape = shape_of g

  abbrev s : Spelling
  s = function_spelling g

  abbrev own : List Loc
  own = filter (is_own g) (locations g)

  -- the values of the locations when the arguments have been passed
  abbrev pub values : Values
  values = values_after g.params ns (filled g.bits fill)

  abbrev taken : List (Option ℕ) → List Binding
  taken places = c.param_bindings (parameters g) places vs

  -- the variables that are no parameters
  -- how many bytes the array has
  abbrev bytes : ℕ
  bytes = (function_shape g).frame

  abbrev own_bound : List Binding
  own_bound = map (bound g few formed fill) own ++ array_bound g few formed fill base bytes

  abbrev pub variables : List Binding
  variables = taken (param_places_from base 0 g.params) ++ own_bound

  locals-are : (xs : List Loc) → c.local_bindings fill (map (variable shape) xs ++ frame_array bytes) (local_places base 4 (map (variable shape) xs ++ frame_array bytes))
      ≡ map (bound g few formed fill) xs ++ array_bound g few formed fill base bytes
  locals-are [] = refl
  locals-are (x ∷ xs) = ap (λ bs. bound g few formed fill x ∷ bs) (locals-are xs)

  places-here : params_of_call (function_of g word f.body f.last) base ≡ param_places_from base 0 g.params
  places-here =
      places-are f.body base g.bits g.params 0 false listed last (λ e. absurd (true≢false (sym e))) (ap (λ h. list_all (is_unplaced f.body) h.params) (sym is) ∙ unplaced)

  pub places-of-call : params_of_call f base ≡ param_places_from base 0 g.params
  places-of-call = ap (λ h. params_of_call h base) is ∙ places-here

  pub variables-are : (c.frame_of f base fill vs).variables ≡ variables
  variables-are =
      ap (λ h. (c.frame_of h base fill vs).variables) is
      ∙ ap (λ ps. taken ps ++ c.local_bindings fill (own_declarations g) (local_places base 4 (own_declarations g))) places-here
      ∙ ap (λ bs. taken (param_places_from base 0 g.params) ++ bs) (locals-are own)

  few-names : 0 + length g.params < 2 ^ 63
  few-names = omega (arith, few_params)

  bound-all : AreBound g.bits base variables 0 g.params vs
  bound-all = all-bound g.bits base 0 g.params vs own_bound few-names

  pub words-here : AreWords variables values 0 g.params ns
  words-here = words-are g.bits base variables 0 g.params vs ns (filled g.bits fill) are apart bound-all

  -- Parameters.

  parameter-here : (l : Loc) (k : ℕ) → place_in g l ≡ Some k → IsParameter g.bits base variables values l k
  parameter-here l k place = parameter-is g.bits base variables 0 g.params vs ns (filled g.bits fill) l k are apart bound-all place

  abbrev from-parameter : (l : Loc) (k : ℕ) → has_name g l → place_in g l ≡ Some k → IsVariable s variables l
  from-parameter l k named place =
      let x = parameter-here l k place in record {
        typed = type-for (location_width g.bits l) (wide-of g few formed l named);
        bits = x.bits_held;
        found = subst (λ name. variable_in variables name ≡ Some (record {
          name = name;
          type = plain (unsigned_type (location_width g.bits l));
          is_array = false;
          storage = Unplaced x.bits_held;
        })) (sym (ap (λ o. name_or o (variable_name shape l)) place)) x.found;
        room = x.room;
      }

  -- Other variables.

  abbrev from-own : (l : Loc) → has_name g l → place_in g l ≡ None → IsVariable s variables l
  from-own l named place = record {
    typed = type-for (location_width g.bits l) (wide-of g few formed l named);
    bits = convert Int (unsigned_type (location_width g.bits l)) fill;
    found = subst (λ name. variable_in variables name ≡ Some (record (bound g few formed fill l) { name = name })) (sym (ap (λ o. name_or o (variable_name shape l)) place))
        (no-parameter g.bits base _ 0 g.params vs own_bound
        ∙ variable-found g few formed fill own _ l (λ x among. filter-among (is_own g) (locations g) x among) (among-filter (is_own g) (locations g) l (ap (λ o. not (is_some o)) place) named));
    room = mod-lt _ (pow_pos (bits_of (unsigned_type (location_width g.bits l))));
  }

  variable-here : (l : Loc) → has_name g l → (o : Option ℕ) → place_in g l ≡ o → IsVariable s variables l
  variable-here l named (Some k) place = from-parameter l k named place
  variable-here l named None place = from-own l named place

  held-here : (l : Loc) → has_name g l → is_among (all_byte_places g.params) l ≡ false → (o : Option ℕ) → place_in g l ≡ o → IsHeld s values variables l
  held-here l named no_byte (Some k) place = record {
    variable = from-parameter l k named place;
    low = (parameter-here l k place).low;
    settled = λ e. absurd (true≢false (sym e));
  }
  held-here l named no_byte None place = record {
    variable = from-own l named place;
    low = low-filled fill (location_width g.bits l) (wide-of g few formed l named)
        ∙ sym (values-other g.params ns (filled g.bits fill) l (takes-none g.params 0 l place no_byte));
    settled = λ e. absurd (true≢false (sym e));
  }

  -- Addresses.

  memory-here : (k : ℕ) → memory_from 0 g.params ≡ Some k → variable_in variables (parameter_name k) ≡ Some (record {
    name = parameter_name k;
    type = plain Uint;
    is_array = false;
    storage = PlacedAt ((base + 2 * k) % 65536);
  })
  memory-here k memory = memory-bound g.bits base variables 0 g.params vs ns k are bound-all memory

  by-place : (distance : ℕ) (q : Placed) → s.place distance ≡ Some q → IsToldBy (memory_from 0 g.params) bytes distance q → IsPlaced s base variables distance
  by-place distance q given (by_parameter k memory low high same) = record {
    placed = argument_place k distance;
    given = given ∙ ap Some same;
    type = Uint;
    at = (base + 2 * k) % 65536;
    found = memory-here k memory;
    small = omega (arith, high);
    there = argument-there base distance k low;
  }
  by-place distance q given (by_array some same) = record {
    placed = frame_place bytes distance;
    given = given ∙ ap Some same;
    type = Uchar;
    at = below base (4 + bytes);
    found = no-parameter g.bits base _ 0 g.params vs own_bound
        ∙ array-after g few formed fill own (array_bound g few formed fill base bytes) (λ x among. filter-among (is_own g) (locations g) x among)
        ∙ ap (λ bs. variable_in bs frame_name) (sym (append-nil (array_bound g few formed fill base bytes)))
        ∙ array-found g few formed fill base bytes [] some;
    small = mod-lt (distance + (4 + bytes)) (omega arith);
    there = array-there base distance bytes;
  }

  placed-here : (distance : ℕ) → is_some (s.place distance) ≡ true → IsPlaced s base variables distance
  placed-here distance some = by (s.place distance) refl some
    where
      by : (o : Option Placed) → s.place distance ≡ o → is_some o ≡ true → IsPlaced s base variables distance
      by None given some = absurd (true≢false (sym some))
      by (Some q) given some = by-place distance q given (place-told (memory_from 0 g.params) bytes distance q given)

  -- What the frame holds at first: all but the bytes of words.

  abbrev pub AtFirst : Locations
  AtFirst l = has_name g l × (is_among (all_byte_places g.params) l ≡ false)

  pub frame-here : (a : inner_run.Activation) → a.graph ≡ g → a.values ≡ values → a.base ≡ base → (frame : c.Frame) → frame.base ≡ base → frame.variables ≡ variables → HoldsFrame s AtFirst a frame
  frame-here a graph same at frame from names = record {
    bits = ap (λ h. h.bits) graph;
    base = from ∙ sym at;
    variables = λ l named. subst (λ bs. IsVariable s bs l) (sym names) (variable-here l named (place_in g l) refl);
    values = λ l has. subst (λ v. IsHeld s v frame.variables l) (sym same) (subst (λ bs. IsHeld s values bs l) (sym names) (held-here l has.0 has.1 (place_in g l) refl));
    places = λ distance some. subst (λ at. IsPlaced s at frame.variables distance) (sym at) (subst (λ bs. IsPlaced s base bs distance) (sym names) (placed-here distance some));
  }
