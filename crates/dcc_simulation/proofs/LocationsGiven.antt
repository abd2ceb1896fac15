-- Halves, flags and temporaries that take what passes: where values go to locations one after another.
use Rattle.std.proofs.Common.{◌≡◌, ◌≤◌, ◌<◌, ℕ, ◌+◌, ◌^◌, ◌==◌, Bool, true, false, List, [], ◌∷◌, ◌++◌, map, length, refl, sym, ap, ◌∙◌, subst, arith}
use Rattle.std.specs.Prelude.{if◌then◌else◌, get_or, replicate}
use Rattle.std.specs.List.{range_with_len, list_all}
use Rattle.std.proofs.lemmas.Bool.{eq-eqb, and_parts}
use Rattle.std.proofs.lemmas.List.{get_or-append-add, get_or-replicate}
use Rattle.dcc_num.specs.declared.Reg.{Reg}
use Rattle.dcc_num.specs.declared.Reg.TheVariants.{Ax, Cx, Dx, Bx, Sp, Bp, Si, Di}
use Rattle.dcc_num.specs.declared.Half.{Half as HalfName}
use Rattle.dcc_num.specs.declared.Half.TheVariants.{Low, High}
use Rattle.dcc_num.specs.declared.FlagName.{FlagName}
use Rattle.dcc_num.specs.declared.FlagName.TheVariants.{Cf, Zf, Sf, Of}
use Rattle.dcc_machine.specs.Machine.{is_general}
use Rattle.dcc_ir.specs.declared.syntax.Loc.{Loc}
use Rattle.dcc_ir.specs.declared.syntax.Loc.TheVariants.{Half, Flag, Cell as CellHalf, Temp}
use Rattle.dcc_ir.specs.Location.{Values, with_value, location_width}
use Rattle.dcc_ir.specs.Value.{Fits}
use Rattle.dcc_ir.specs.Run.{State, scene_of, setting, passing, giving}
use Rattle.dcc_ir.specs.Passing.{passed, param_of}
use Rattle.dcc_ops.specs.Temporaries.{temporary_bits, most_returned, returned_place}
use Rattle.dcc_ops.specs.Coupling.{with_values}
use Rattle.dcc_ops.proofs.SceneLaws.{fits_taking}

-- The halves and flags.

-- params that are locations take the arguments, as results do
pub passed-given : (locations : List Loc) (values : Values) (j : ℕ) (t : State)
    → passing j (map param_of locations) (map values locations) t ≡ giving locations (map values locations) t
passed-given [] values j t = refl
passed-given (location ∷ locations) values j t =
    passed-given locations values (j + 1) (setting location (values location) t)

pub given-append : (locations more : List Loc) (values : Values) (rest : List ℕ) (t : State)
    → giving (locations ++ more) (map values locations ++ rest) t
    ≡ giving more rest (giving locations (map values locations) t)
given-append [] more values rest t = refl
given-append (location ∷ locations) more values rest t =
    given-append locations more values rest (setting location (values location) t)

-- a half or a flag
abbrev pub passes : Loc → Bool
passes (Half r half) = true
passes (Flag flag) = true
passes location = false

apart : (values : Values) (location to : Loc) (v : ℕ) → passes location ≡ false → passes to ≡ true
    → with_value values to v location ≡ values location
apart values (CellHalf n h) (Half r half) v none some = refl
apart values (CellHalf n h) (Flag flag) v none some = refl
apart values (Temp n) (Half r half) v none some = refl
apart values (Temp n) (Flag flag) v none some = refl
apart values location (CellHalf n h) v none some = cc
apart values location (Temp n) v none some = cc
apart values (Half r half) to v none some = cc
apart values (Flag flag) to v none some = cc

-- locations of these take values, and nothing else changes
pub record Gives (others : Loc → Bool) (t u : State) : Type 0 where
  pub is : u ≡ with_values u.running.values t
  pub kept : (location : Loc) → others location ≡ false → u.running.values location ≡ t.running.values location
  pub fits : Fits (scene_of u)

pub gives-passing : (locations : List Loc) (values : Values) (t : State) → list_all passes locations ≡ true
    → Fits (scene_of t) → ((location : Loc) → values location < 2 ^ location_width t.running.graph.bits location)
    → Gives passes t (giving locations (map values locations) t)
gives-passing [] values t all fits small = record { is = refl; kept = λ location none. refl; fits = fits }
gives-passing (location ∷ locations) values t all fits small =
    let next = setting location (values location) t in
    let both = and_parts (passes location) (list_all passes locations) all in
    let rest =
    gives-passing locations values next both.1
    (fits_taking (scene_of t) location (values location) (small location) fits) small in
    record {
      is = rest.is;
      kept = λ other none.
          rest.kept other none ∙ apart t.running.values other location (values location) none both.0;
      fits = rest.fits;
    }

-- each half of a general register that is passed has its own value
pub halves-given : (values : Values) (t : State) (r : Reg) (half : HalfName) → is_general r ≡ true
    → (giving passed (map values passed) t).running.values (Half r half) ≡ values (Half r half)
halves-given values t Ax Low general = refl
halves-given values t Ax High general = refl
halves-given values t Cx Low general = refl
halves-given values t Cx High general = refl
halves-given values t Dx Low general = refl
halves-given values t Dx High general = refl
halves-given values t Bx Low general = refl
halves-given values t Bx High general = refl
halves-given values t Si Low general = refl
halves-given values t Si High general = refl
halves-given values t Di Low general = refl
halves-given values t Di High general = refl
halves-given values t Sp half general = cc
halves-given values t Bp half general = cc

pub flags-given : (values : Values) (t : State) (flag : FlagName)
    → (giving passed (map values passed) t).running.values (Flag flag) ≡ values (Flag flag)
flags-given values t Cf = refl
flags-given values t Zf = refl
flags-given values t Sf = refl
flags-given values t Of = refl

-- Temporaries.

abbrev pub is_temporary : Loc → Bool
is_temporary (Temp n) = true
is_temporary location = false

-- the temporaries from an index on hold the numbers
abbrev pub HoldFrom : Values → ℕ → List ℕ → Type 0
HoldFrom values index [] = Unit {0}
HoldFrom values index (x ∷ xs) = (values (returned_place index) ≡ x) × HoldFrom values (index + 1) xs

pub hold-kept : (values others : Values) (index : ℕ) (xs : List ℕ)
    → ((n : ℕ) → others (Temp n) ≡ values (Temp n)) → HoldFrom values index xs
    → HoldFrom others index xs
hold-kept values others index [] same held = tt
hold-kept values others index (x ∷ xs) same held =
    (same (8 + index) ∙ held.0, hold-kept values others (index + 1) xs same held.1)

temporary-apart : (values : Values) (n v : ℕ) (location : Loc) → is_temporary location ≡ false
    → with_value values (Temp n) v location ≡ values location
temporary-apart values n v (Half r half) none = refl
temporary-apart values n v (Flag flag) none = refl
temporary-apart values n v (CellHalf m h) none = refl
temporary-apart values n v (Temp m) none = cc

temporary-other : (values : Values) (n m v : ℕ) → n < m → with_value values (Temp m) v (Temp n) ≡ values (Temp n)
temporary-other values n m v less = by (n == m) refl
  where
    by : (b : Bool) → (n == m) ≡ b → (if b then v else values (Temp n)) ≡ values (Temp n)
    by false e = refl
    by true e = let same : n ≡ m = grind (arith, e) in absurd (omega (arith, same, less))

-- as many as calls get back have the width of a byte
byte-wide : (index : ℕ) → index < 64 → get_or temporary_bits (8 + index) 0 ≡ 8
byte-wide index less =
    get_or-append-add (8 ∷ 8 ∷ 8 ∷ 16 ∷ 16 ∷ 16 ∷ 32 ∷ 1 ∷ []) (replicate most_returned 8) index 0
    ∙ get_or-replicate most_returned index 8 0 less

pub record GivesNumbers (index : ℕ) (xs : List ℕ) (t u : State) : Type 0 where
  pub gives : Gives is_temporary t u
  pub before : (n : ℕ) → n < 8 + index → u.running.values (Temp n) ≡ t.running.values (Temp n)
  pub held : HoldFrom u.running.values index xs

module _ (bytes : ℕ → ℕ) (small : (offset : ℕ) → bytes offset < 256) where
  pub gives-numbers : (offsets : List ℕ) (index : ℕ) (t : State) → t.running.graph.bits ≡ temporary_bits
      → Fits (scene_of t) → index + length offsets ≤ 64
      → GivesNumbers index (map bytes offsets) t
      (giving (map returned_place (range_with_len index (length offsets))) (map bytes offsets) t)
  gives-numbers [] index t bits fits few = record {
    gives = record { is = refl; kept = λ location none. refl; fits = fits };
    before = λ n less. refl;
    held = tt;
  }
  gives-numbers (offset ∷ offsets) index t bits fits few =
      let x = bytes offset in
      let next = setting (returned_place index) x t in
      let width : location_width t.running.graph.bits (returned_place index) ≡ 8 =
      ap (λ l. get_or l (8 + index) 0) bits ∙ byte-wide index (omega (arith, few)) in
      let rest =
      gives-numbers offsets (index + 1) next bits
      (fits_taking (scene_of t) (returned_place index) x (subst (λ w. x < 2 ^ w) (sym width) (small offset)) fits)
      (omega (arith, few)) in
      record {
        gives = record {
          is = rest.gives.is;
          kept = λ location none.
              rest.gives.kept location none ∙ temporary-apart t.running.values (8 + index) x location none;
          fits = rest.gives.fits;
        };
        before = λ n less.
            rest.before n (omega (arith, less)) ∙ temporary-other t.running.values n (8 + index) x less;
        held = (
          rest.before (8 + index) (omega arith)
              ∙ ap (λ b. if b then x else t.running.values (returned_place index))
              (eq-eqb (8 + index) (8 + index) refl),
          rest.held,
        );
      }
