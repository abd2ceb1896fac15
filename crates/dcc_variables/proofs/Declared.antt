-- The declarations of a text's variables: they give what the spelling names, and keep to the rules.
use Rattle.std.proofs.Common.{◌≡◌, ◌≢◌, ℕ, suc, ◌+◌, ◌*◌, ◌<◌, ◌≤◌, min, Bool, true, false, ◌==◌, List, [], ◌∷◌, ◌++◌, length, map, take, Some, None, refl, sym, ap, ◌∙◌, subst, arith, mod-lt}
use Rattle.std.specs.Prelude.{◌&&◌, ◌||◌, not, nat_le, nat_lt, if◌then◌else◌, codes, All}
use Rattle.std.specs.List.{list_all}
use Rattle.std.proofs.lemmas.Bool.{and_from, and_parts, or_from, or_left, or_right, le-leb, lt-ltb, ne_eqb, eqb-false, not-true, not_from_false, false_from_ne_true}
use Rattle.std.proofs.lemmas.List.{length-take, length-drop}
use Rattle.std.proofs.lemmas.List.Elements.{All-head, All-tail, All-take, All-drop}
use Rattle.std.proofs.lemmas.List.Folds.{list_all-append, list_any-append}
use Rattle.dcc_ir.specs.declared.syntax.Loc.{Loc}
use Rattle.dcc_ir.specs.Location.{location_width, same_location}
use Rattle.dcc_ir.specs.Live.{is_among}
use Rattle.dcc_ir.specs.Tree.{Graph}
use Rattle.dcc_ir.specs.WellFormed.{IsGraph}
use Rattle.dcc_ir.proofs.LocationLaws.{location_itself}
use Rattle.dcc_c.specs.declared.syntax.Base.TheVariants.{Uchar}
use Rattle.dcc_c.specs.declared.syntax.Class.TheVariants.{Auto}
use Rattle.dcc_c.specs.Grammar as words
use Rattle.dcc_c.specs.Grammar.{is_name}
use Rattle.dcc_c.specs.Placement.{local_places}
use Rattle.dcc_c.specs.Rules.{declared_param, declared_local, declared_global, declared_in, names_of, all_differ, has_element}
use Rattle.dcc_c.specs.Run as c
use Rattle.dcc_c.specs.Token.{same_bytes}
use Rattle.dcc_c.specs.Tree.{Word, Global, Variable, Function, Tree}
use Rattle.dcc_c.specs.Types.{plain}
use Rattle.dcc_c.specs.Typing.{declared_as}
use Rattle.dcc_c.specs.Value.{Binding, declared_by}
use Rattle.dcc_c.proofs.Writable.{is_small, is_writable_local}
use Rattle.dcc_text.specs.Allowed.{IsDeclared, IsDeclaredPlace, AreDeclared}
use Rattle.dcc_text.specs.Spelling.{Placed, Spelling}
use Rattle.dcc_text.proofs.Readings.{declared}
use Rattle.dcc_variables.specs.Variables.{locations, Shape, shape_of, first_stack, variable_number, variable_name, frame_name, variable, frame_array, declarations, frame_place, graph_spelling}
use Rattle.dcc_variables.specs.Laws.{AreFew}
use Rattle.dcc_variables.proofs.Numbers.{Ascend, locations-ascend}
use Rattle.dcc_variables.proofs.Names.{numbers-same, numbered-name, number-small, frame-apart, name-is}
use Rattle.dcc_variables.proofs.FirstStates.{type-for, wide-of, bound, array_bound, array_at, variable-found, array-after, array-found}

some-equal : {A : Type 0} {a b : A} → Some a ≡ Some b → a ≡ b
some-equal e = cc

-- Variables.

module _ (g : Graph) (few : AreFew (shape_of g)) (formed : IsGraph g) where
  abbrev shape : Shape
  shape = shape_of g

  abbrev ls : List Loc
  ls = locations g

  abbrev names : List Loc → List Word
  names xs = names_of (map (variable shape) xs)

  -- a name is not among those of variables with greater numbers
  later-names : (l : Loc) (low high : ℕ) (xs : List Loc) → is_among ls l ≡ true → ((x : Loc) → is_among xs x ≡ true → is_among ls x ≡ true) → Ascend shape low high xs
      → variable_number shape l < low → words.is_among (names xs) (variable_name shape l) ≡ false
  later-names l low high [] is all ascend less = refl
  later-names l low high (x ∷ xs) is all ascend less =
      let there : is_among ls x ≡ true = all x (or_left (same_location x x) (is_among xs x) (location_itself x)) in
      or_from (same_bytes (variable_name shape l) (variable_name shape x)) (words.is_among (names xs) (variable_name shape l))
      (false_from_ne_true _ (λ same.
      let e = numbers-same (variable_number shape l) (variable_number shape x) (number-small g few l is) (number-small g few x there) same in
      absurd (omega (arith, e, less, ascend.0))))
      (later-names l (suc (variable_number shape x)) high xs is (λ y among. all y (or_right (same_location y x) (is_among xs y) among)) ascend.1 (omega (arith, less, ascend.0)))

  -- names of variables before others
  names-before : (low high : ℕ) (xs : List Loc) (others : List Word) → ((x : Loc) → is_among xs x ≡ true → is_among ls x ≡ true) → Ascend shape low high xs
      → ((x : Loc) → is_among ls x ≡ true → words.is_among others (variable_name shape x) ≡ false) → all_differ others ≡ true → all_differ (names xs ++ others) ≡ true
  names-before low high [] others all ascend apart differ = differ
  names-before low high (x ∷ xs) others all ascend apart differ =
      let there : is_among ls x ≡ true = all x (or_left (same_location x x) (is_among xs x) (location_itself x)) in
      let rest : (y : Loc) → is_among xs y ≡ true → is_among ls y ≡ true = λ y among. all y (or_right (same_location y x) (is_among xs y) among) in
      and_from (not (words.is_among (names xs ++ others) (variable_name shape x))) (all_differ (names xs ++ others))
      (not_from_false (words.is_among (names xs ++ others) (variable_name shape x))
      (list_any-append (same_bytes (variable_name shape x)) (names xs) others
      ∙ or_from (words.is_among (names xs) (variable_name shape x)) (words.is_among others (variable_name shape x))
      (later-names x (suc (variable_number shape x)) high xs there rest ascend.1 (omega arith)) (apart x there)))
      (names-before (suc (variable_number shape x)) high xs others rest ascend.1 apart differ)

  split-names : (xs : List Loc) (vs : List Variable) → names_of (map (variable shape) xs ++ vs) ≡ names xs ++ names_of vs
  split-names [] vs = refl
  split-names (x ∷ xs) vs = ap (λ ws. variable_name shape x ∷ ws) (split-names xs vs)

  -- the array's name, where there is one
  abbrev last_names : Bool → List Word
  last_names none = names_of (if none then [] else record { name = frame_name; type = plain Uchar; len = Some shape.frame; class = Auto } ∷ [])

  last-apart : (none : Bool) (x : Loc) → is_among ls x ≡ true → words.is_among (last_names none) (variable_name shape x) ≡ false
  last-apart true x there = refl
  last-apart false x there = or_from (same_bytes (variable_name shape x) frame_name) false (frame-apart g few x there) refl

  last-differ : (none : Bool) → all_differ (last_names none) ≡ true
  last-differ true = refl
  last-differ false = refl

  pub own-differ : all_differ (names_of (declarations shape)) ≡ true
  own-differ =
      ap all_differ (split-names ls (frame_array shape.frame))
      ∙ names-before 1 (first_stack shape + 4) ls (last_names (shape.frame == 0)) (λ x among. among) (locations-ascend g) (last-apart (shape.frame == 0)) (last-differ (shape.frame == 0))

  -- Declarations.

  locals-good : (xs : List Loc) → ((x : Loc) → is_among xs x ≡ true → is_among ls x ≡ true) → list_all is_writable_local (map (variable shape) xs) ≡ true
  locals-good [] all = refl
  locals-good (x ∷ xs) all =
      and_from (is_name (variable_name shape x) && true) (list_all is_writable_local (map (variable shape) xs))
      (and_from (is_name (variable_name shape x)) true (name-is g few x (all x (or_left (same_location x x) (is_among xs x) (location_itself x)))) refl)
      (locals-good xs (λ y among. all y (or_right (same_location y x) (is_among xs y) among)))

  array-good : list_all is_writable_local (frame_array shape.frame) ≡ true
  array-good = by (shape.frame == 0)
    where
      by : (none : Bool) → list_all is_writable_local (if none then [] else record { name = frame_name; type = plain Uchar; len = Some shape.frame; class = Auto } ∷ []) ≡ true
      by true = refl
      by false =
          and_from (is_name frame_name && (is_small shape.frame && true)) true
          (and_from (is_name frame_name) _ (numbered-name 17 (omega arith))
          (and_from (is_small shape.frame) true (le-leb shape.frame 4294967295 (omega (arith, few.frame))) refl)) refl

  pub locals-writable : list_all is_writable_local (declarations shape) ≡ true
  locals-writable =
      list_all-append is_writable_local (map (variable shape) ls) (frame_array shape.frame)
      ∙ and_from (list_all is_writable_local (map (variable shape) ls)) (list_all is_writable_local (frame_array shape.frame)) (locals-good ls (λ x among. among)) array-good

  pub locals-have-elements : list_all (λ v. has_element v.len) (declarations shape) ≡ true
  locals-have-elements = list_all-append (λ v. has_element v.len) (map (variable shape) ls) (frame_array shape.frame) ∙ and_from _ _ (plain-ones ls) (by (shape.frame == 0) refl)
    where
      plain-ones : (xs : List Loc) → list_all (λ (v : Variable). has_element v.len) (map (variable shape) xs) ≡ true
      plain-ones [] = refl
      plain-ones (x ∷ xs) = plain-ones xs

      by : (none : Bool) → (shape.frame == 0) ≡ none
          → list_all (λ (v : Variable). has_element v.len) (if none then [] else record { name = frame_name; type = plain Uchar; len = Some shape.frame; class = Auto } ∷ []) ≡ true
      by true e = refl
      by false e = and_from (nat_lt 0 shape.frame) true (lt-ltb 0 shape.frame (omega (arith, eqb-false shape.frame 0 e))) refl

  -- What is declared.

  globals-declared : (globals : List Global) → map declared_global globals ≡ map declared_by (map c.global_binding globals)
  globals-declared [] = refl
  globals-declared (x ∷ globals) = ap (λ ds. declared_global x ∷ ds) (globals-declared globals)

  abbrev bindings : List Loc → List Global → List Binding
  bindings xs globals = map (bound g few formed 0) xs ++ (array_bound g few formed 0 0 shape.frame ++ map c.global_binding globals)

  locals-declared : (xs : List Loc) (globals : List Global)
      → map declared_local (map (variable shape) xs ++ frame_array shape.frame) ++ map declared_global globals ≡ map declared_by (bindings xs globals)
  locals-declared [] globals = by (shape.frame == 0)
    where
      by : (none : Bool) → map declared_local (if none then [] else record { name = frame_name; type = plain Uchar; len = Some shape.frame; class = Auto } ∷ []) ++ map declared_global globals
          ≡ map declared_by (c.local_bindings 0 (if none then [] else record { name = frame_name; type = plain Uchar; len = Some shape.frame; class = Auto } ∷ [])
          (local_places 0 4 (if none then [] else record { name = frame_name; type = plain Uchar; len = Some shape.frame; class = Auto } ∷ [])) ++ map c.global_binding globals)
      by true = globals-declared globals
      by false = ap (λ ds. record { name = frame_name; type = plain Uchar; is_array = true; is_placed = true } ∷ ds) (globals-declared globals)
  locals-declared (x ∷ xs) globals = ap (λ ds. declared_by (bound g few formed 0 x) ∷ ds) (locals-declared xs globals)

  module _ (tree : Tree) (f : Function) (no_params : f.params ≡ []) (locals : f.locals ≡ declarations shape) where
    abbrev s : Spelling
    s = graph_spelling g

    declared-are : declared_in tree f ≡ map declared_by (bindings ls tree.globals)
    declared-are =
        ap (λ params. map declared_param params ++ (map declared_local f.locals ++ map declared_global tree.globals)) no_params
        ∙ ap (λ vs. map declared_local vs ++ map declared_global tree.globals) locals
        ∙ locals-declared ls tree.globals

    variable-declared : (l : Loc) → s.named l ≡ true → IsDeclared (declared_in tree f) s l
    variable-declared l named = record {
      word = name-is g few l named;
      typed = type-for (location_width g.bits l) (wide-of g few formed l named);
      is_placed = false;
      declared = ap (λ ds. declared_as ds (variable_name shape l)) declared-are
          ∙ declared (bindings ls tree.globals) (variable_name shape l) (bound g few formed 0 l) (variable-found g few formed 0 ls _ l (λ x among. among) named);
    }

    place-declared : (distance : ℕ) (q : Placed) → s.place distance ≡ Some q → IsDeclaredPlace (declared_in tree f) q
    place-declared distance q is = by (shape.frame == 0) refl is
      where
        by : (none : Bool) → (shape.frame == 0) ≡ none → (if none then None else Some (frame_place shape.frame distance)) ≡ Some q → IsDeclaredPlace (declared_in tree f) q
        by true e same = absurd cc
        by false e same = subst (IsDeclaredPlace (declared_in tree f)) (some-equal same) (record {
          word = numbered-name 17 (omega arith);
          type = Uchar;
          declared = ap (λ ds. declared_as ds frame_name) declared-are
              ∙ declared (bindings ls tree.globals) frame_name (array_at g few formed 0 0 shape.frame)
              (array-after g few formed 0 ls _ (λ x among. among) ∙ array-found g few formed 0 0 shape.frame (map c.global_binding tree.globals) e);
          small = mod-lt (distance + (4 + shape.frame)) (omega arith);
        })

    pub names-declared : AreDeclared (declared_in tree f) s
    names-declared = record { variables = variable-declared; places = place-declared }
