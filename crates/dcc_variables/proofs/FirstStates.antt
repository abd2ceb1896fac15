-- The first states of a graph's run and of its text's: each variable holds its location's value, and the array lies
-- where the frame's bytes do.
use Rattle.std.proofs.Common.{◌≡◌, ℕ, ◌+◌, ◌-◌, ◌*◌, ◌%◌, ◌^◌, ◌<◌, true, false, ◌==◌, inl, inr, List, [], ◌∷◌, ◌++◌, length, map, get_or, Some, None, is_some, refl, sym, ap, ◌∙◌, subst, true≢false, arith, mod-lt}
use Rattle.std.specs.Prelude.{nat_le, if◌then◌else◌, slice_get}
use Rattle.std.specs.List.{list_all}
use Rattle.std.proofs.lemmas.Nat.{pow_pos}
use Rattle.std.proofs.lemmas.Bool.{ltb-true, or_left, or_right}
use Rattle.std.proofs.lemmas.List.{append-nil}
use Rattle.std.proofs.lemmas.List.Folds.{list_all_at}
use Rattle.dcc_ir.specs.declared.syntax.Loc.{Loc}
use Rattle.dcc_ir.specs.declared.syntax.Loc.TheVariants.{Half, Flag, Cell, Temp}
use Rattle.dcc_ir.specs.Location.{location_width, same_location, fill_at, filled}
use Rattle.dcc_ir.specs.Live.{is_among}
use Rattle.dcc_ir.specs.Tree as inner
use Rattle.dcc_ir.specs.Run as run
use Rattle.dcc_ir.specs.WellFormed.{is_width, is_location, IsGraph, IsProgram}
use Rattle.dcc_ir.proofs.PathLaws.{decided, or_false}
use Rattle.dcc_ir.proofs.LocationLaws.{location_same, location_itself}
use Rattle.dcc_c.specs.declared.syntax.Base.TheVariants.{Uchar, Int}
use Rattle.dcc_c.specs.declared.syntax.Class.TheVariants.{Auto}
use Rattle.dcc_c.specs.Token.{same_bytes}
use Rattle.dcc_c.proofs.NameLaws.{same_bytes-refl}
use Rattle.dcc_c.specs.Types.{plain, bits_of, convert}
use Rattle.dcc_c.specs.Tree.{Function, Tree}
use Rattle.dcc_c.specs.Value.{Unplaced, PlacedAt, Binding, variable_in}
use Rattle.dcc_c.specs.Placement.{first_base, below, param_places, local_places}
use Rattle.dcc_c.specs.Run as c
use Rattle.dcc_text.specs.Spelling.{Spelling}
use Rattle.dcc_text.specs.Spelled.{unsigned_type}
use Rattle.dcc_text.specs.Meaning.{is_type_for, IsVariable, IsHeld, IsPlaced}
use Rattle.dcc_text.specs.Holding.{Alike, Holds}
use Rattle.dcc_text.proofs.FirstRuns.{opening, first_state-is}
use Rattle.dcc_text.proofs.Sizes.{Size, bit, byte, word, long, bits, size-of}
use Rattle.dcc_variables.specs.Variables.{locations, Shape, shape_of, variable_name, frame_name, variable, frame_array, declarations, frame_place, placed_at, graph_spelling}
use Rattle.dcc_variables.specs.Laws.{AreFew}
use Rattle.dcc_variables.proofs.Numbers.{locations-there}
use Rattle.dcc_variables.proofs.Names.{names-same, frame-apart}

among-first : (x : Loc) (xs : List Loc) → is_among (x ∷ xs) x ≡ true
among-first x xs = or_left (same_location x x) (is_among xs x) (location_itself x)

-- Numbers.

-- what a variable of a type for so many bits holds at first
abbrev first_bits : ℕ → ℕ → ℕ
first_bits fill width = convert Int (unsigned_type width) fill

pub type-for : (width : ℕ) → is_width width ≡ true → is_type_for width (plain (unsigned_type width)) ≡ true
type-for width is = let s = size-of width is in by s.0 s.1
  where
    by : (size : Size) → width ≡ bits size → is_type_for width (plain (unsigned_type width)) ≡ true
    by bit e = ap (λ w. is_type_for w (plain (unsigned_type w))) e
    by byte e = ap (λ w. is_type_for w (plain (unsigned_type w))) e
    by word e = ap (λ w. is_type_for w (plain (unsigned_type w))) e
    by long e = ap (λ w. is_type_for w (plain (unsigned_type w))) e

-- the low bits of a variable at first are what the location holds
low-filled : (fill width : ℕ) → is_width width ≡ true → first_bits fill width % 2 ^ width ≡ fill_at width fill
low-filled fill width is = let s = size-of width is in by s.0 s.1
  where
    one : (n : ℕ) → n % 256 % 2 ≡ n % 2
    one n = omega arith

    eight : (n : ℕ) → n % 256 % 256 ≡ n % 256
    eight n = omega arith

    sixteen : (n : ℕ) → n % 65536 % 65536 ≡ n % 65536
    sixteen n = omega arith

    all : (n : ℕ) → n % 4294967296 % 4294967296 ≡ n % 4294967296
    all n = omega arith

    by : (size : Size) → width ≡ bits size → first_bits fill width % 2 ^ width ≡ fill_at width fill
    by bit e = ap (λ w. first_bits fill w % 2 ^ w) e ∙ one (if nat_le 32768 fill then fill + 4294901760 else fill) ∙ sym (ap (λ w. fill_at w fill) e)
    by byte e = ap (λ w. first_bits fill w % 2 ^ w) e ∙ eight (if nat_le 32768 fill then fill + 4294901760 else fill) ∙ sym (ap (λ w. fill_at w fill) e)
    by word e = ap (λ w. first_bits fill w % 2 ^ w) e ∙ sixteen (if nat_le 32768 fill then fill + 4294901760 else fill) ∙ sym (ap (λ w. fill_at w fill) e)
    by long e = ap (λ w. first_bits fill w % 2 ^ w) e ∙ all (if nat_le 32768 fill then fill + 4294901760 else fill) ∙ sym (ap (λ w. fill_at w fill) e)

-- where an address in the frame lies
place-there : (base distance bytes : ℕ) → ((base + 65536 - (4 + bytes) % 65536) % 65536 + (distance + (4 + bytes)) % 65536) % 65536 ≡ (base + distance) % 65536
place-there base distance bytes = omega arith

-- a location of a well-formed graph has a width
location-wide : (widths : List ℕ) (l : Loc) → list_all is_width widths ≡ true → is_location widths l ≡ true → is_width (location_width widths l) ≡ true
location-wide widths (Half r half) wide there = refl
location-wide widths (Flag f) wide there = refl
location-wide widths (Cell n half) wide there = refl
location-wide widths (Temp n) wide there = elim (decided (is_width (get_or widths n 0))) [
  | inl is ↦ is
  | inr is_not ↦ absurd (true≢false (sym wide ∙ list_all_at is_width widths n 0 (ltb-true n (length widths) there) is_not))
]

first-block : (blocks : List inner.Block) → 0 < length blocks → (block : inner.Block) × (slice_get blocks 0 ≡ Some block)
first-block [] some = absurd (omega (arith, some))
first-block (b ∷ blocks) some = (b, refl)

module _ (g : inner.Graph) (few : AreFew (shape_of g)) (formed : IsGraph g) where
  abbrev shape : Shape
  shape = shape_of g

  abbrev ls : List Loc
  ls = locations g

  abbrev s : Spelling
  s = graph_spelling g

  pub wide-of : (l : Loc) → (graph_spelling g).named l ≡ true → is_width (location_width g.bits l) ≡ true
  wide-of l named = location-wide g.bits l formed.bits (locations-there g l named)

  module _ (fill : ℕ) where
    -- the variable of a location at first
    abbrev pub bound : Loc → Binding
    bound l = record {
      name = variable_name shape l;
      type = plain (unsigned_type (location_width shape.bits l));
      is_array = false;
      storage = Unplaced (first_bits fill (location_width shape.bits l));
    }

    abbrev pub array_bound : ℕ → ℕ → List Binding
    array_bound base bytes = c.local_bindings fill (frame_array bytes) (local_places base 4 (frame_array bytes))

    locals-are : (base : ℕ) (xs : List Loc) → c.local_bindings fill (map (variable shape) xs ++ frame_array shape.frame) (local_places base 4 (map (variable shape) xs ++ frame_array shape.frame))
        ≡ map bound xs ++ array_bound base shape.frame
    locals-are base [] = refl
    locals-are base (l ∷ xs) = ap (λ bs. bound l ∷ bs) (locals-are base xs)

    variables-are : (base : ℕ) (f : Function) → f.params ≡ [] → f.locals ≡ declarations shape → (c.frame_of f base fill []).variables ≡ map bound ls ++ array_bound base shape.frame
    variables-are base f no_params are =
        ap (λ params. c.param_bindings params (param_places f.body base 0 false params) [] ++ c.local_bindings fill f.locals (local_places base 4 f.locals)) no_params
        ∙ ap (λ locals. c.local_bindings fill locals (local_places base 4 locals)) are
        ∙ locals-are base ls

    -- the variable with a location's name
    pub variable-found : (xs : List Loc) (others : List Binding) (l : Loc) → ((x : Loc) → is_among xs x ≡ true → is_among ls x ≡ true) → is_among xs l ≡ true
        → variable_in (map bound xs ++ others) (variable_name shape l) ≡ Some (bound l)
    variable-found [] others l all is = absurd (true≢false (sym is))
    variable-found (x ∷ xs) others l all is = elim (decided (same_bytes (variable_name shape x) (variable_name shape l))) [
      | inl named ↦
          ap (λ b. if b then Some (bound x) else variable_in (map bound xs ++ others) (variable_name shape l)) named
          ∙ ap (λ y. Some (bound y)) (names-same g few x l (all x (among-first x xs)) (all l is) named)
      | inr not_named ↦
          ap (λ b. if b then Some (bound x) else variable_in (map bound xs ++ others) (variable_name shape l)) not_named
          ∙ variable-found xs others l (λ y there. all y (or_right (same_location y x) (is_among xs y) there)) (elim (decided (same_location l x)) [
            | inl same ↦ absurd (true≢false (sym (subst (λ y. same_bytes (variable_name shape x) (variable_name shape y) ≡ true) (sym (location_same l x same)) (same_bytes-refl (variable_name shape x))) ∙ not_named))
            | inr other ↦ or_false (same_location l x) (is_among xs l) other is
          ])
    ]

    -- the array comes after all of them
    pub array-after : (xs : List Loc) (others : List Binding) → ((x : Loc) → is_among xs x ≡ true → is_among ls x ≡ true)
        → variable_in (map bound xs ++ others) frame_name ≡ variable_in others frame_name
    array-after [] others all = refl
    array-after (x ∷ xs) others all =
        ap (λ b. if b then Some (bound x) else variable_in (map bound xs ++ others) frame_name) (frame-apart g few x (all x (among-first x xs)))
        ∙ array-after xs others (λ y there. all y (or_right (same_location y x) (is_among xs y) there))

    abbrev pub array_at : ℕ → ℕ → Binding
    array_at base bytes = record { name = frame_name; type = plain Uchar; is_array = true; storage = PlacedAt (below base (4 + bytes)) }

    pub array-found : (base bytes : ℕ) (others : List Binding) → (bytes == 0) ≡ false → variable_in (array_bound base bytes ++ others) frame_name ≡ Some (array_at base bytes)
    array-found base bytes others some =
        ap (λ none. let locals = if none then [] else record { name = frame_name; type = plain Uchar; len = Some bytes; class = Auto } ∷ [] in
        variable_in (c.local_bindings fill locals (local_places base 4 locals) ++ others) frame_name) some
        ∙ ap (λ b. if b then Some (array_at base (1 * bytes)) else variable_in others frame_name) (same_bytes-refl frame_name)
        ∙ ap (λ n. Some (array_at base n)) (omega arith)

    -- What the text's variables hold.

    module _ (variables : List Binding) (base : ℕ) (are : variables ≡ map bound ls ++ array_bound base shape.frame) where
      variable-is : (l : Loc) → s.named l ≡ true → IsVariable s variables l
      variable-is l named = record {
        typed = type-for (location_width g.bits l) (wide-of l named);
        bits = first_bits fill (location_width g.bits l);
        found = ap (λ bs. variable_in bs (variable_name shape l)) are ∙ variable-found ls (array_bound base shape.frame) l (λ x there. there) named;
        room = mod-lt _ (pow_pos (bits_of (unsigned_type (location_width g.bits l))));
      }

      held-is : (l : Loc) → s.named l ≡ true → IsHeld s (filled g.bits fill) variables l
      unfolding variable-is
      held-is l named = record {
        variable = variable-is l named;
        low = low-filled fill (location_width g.bits l) (wide-of l named);
        settled = λ is. absurd (true≢false (sym is));
      }

      place-is : (distance : ℕ) → is_some (placed_at shape.frame distance) ≡ true → IsPlaced s base variables distance
      place-is distance is = elim (decided (shape.frame == 0)) [
        | inl none ↦ absurd (true≢false (sym is ∙ ap (λ b. is_some (if b then None else Some (frame_place shape.frame distance))) none))
        | inr some ↦ record {
          placed = frame_place shape.frame distance;
          given = ap (λ b. if b then None else Some (frame_place shape.frame distance)) some;
          type = Uchar;
          at = below base (4 + shape.frame);
          found = ap (λ bs. variable_in bs frame_name) are ∙ array-after ls (array_bound base shape.frame) (λ x there. there)
              ∙ ap (λ bs. variable_in bs frame_name) (sym (append-nil (array_bound base shape.frame))) ∙ array-found base shape.frame [] some;
          small = mod-lt (distance + (4 + shape.frame)) (omega arith);
          there = place-there base distance shape.frame;
        }
      ]

  module _ (p : inner.Program) (one : p.graphs ≡ g ∷ []) (whole : IsProgram p) (tree : Tree) (f : Function) (AreAlike : Alike) (alike : AreAlike [] [])
      (hi_is : tree.hi ≡ p.hi) (no_params : f.params ≡ []) (locals : f.locals ≡ declarations shape) (fill : ℕ)
      (memory_is : c.first_memory tree fill ≡ run.first_memory p fill) (input : List ℕ) where
    abbrev base : ℕ
    base = (p.hi + 2) % 65536

    -- the state in which a block begins first
    abbrev begun : inner.Block → run.State
    begun block = run.entering (Some block) (opening p g fill input)

    frame-are : (c.frame_of f (first_base tree.hi) fill []).variables ≡ map (bound fill) ls ++ array_bound fill base shape.frame
    frame-are = ap (λ h. (c.frame_of f (first_base h) fill []).variables) hi_is ∙ variables-are fill base f no_params locals

    begun-holds : (block : inner.Block) → Holds s (λ l. s.named l ≡ true) AreAlike (begun block) (c.first_state tree f fill input)
    begun-holds block = record {
      frame = record {
        bits = refl;
        base = ap first_base hi_is;
        variables = variable-is fill _ base frame-are;
        values = held-is fill _ base frame-are;
        places = place-is fill _ base frame-are;
      };
      waiting = alike;
      memory = memory_is;
      input = refl;
      events = refl;
      end = refl;
    }

    pub first-holds : Holds s (λ l. s.named l ≡ true) AreAlike (run.first_state p fill input) (c.first_state tree f fill input)
    first-holds =
        let block = first-block g.blocks formed.begins in
        subst (λ i. Holds s (λ l. s.named l ≡ true) AreAlike i (c.first_state tree f fill input)) (sym (first_state-is p g block.0 fill input one block.1)) (begun-holds block.0)
