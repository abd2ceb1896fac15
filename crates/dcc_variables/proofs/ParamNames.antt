-- Names of parameters: each has its own, and no variable has it.
use Rattle.std.proofs.Common.{◌≡◌, ℕ, ◌+◌, ◌<◌, ◌≤◌, ◌^◌, true, false, inl, inr, List, [], ◌∷◌, length, Option, Some, None, refl, sym, ap, ◌∙◌, subst, true≢false, arith}
use Rattle.std.specs.Prelude.{◌==◌, Bool, ◌&&◌, if◌then◌else◌}
use Rattle.std.proofs.lemmas.Bool.{false_from_ne_true}
use Rattle.std.proofs.lemmas.Fmt.{decimal_injective}
use Rattle.dcc_ir.specs.declared.syntax.Loc.{Loc}
use Rattle.dcc_ir.specs.declared.syntax.Put.{Put}
use Rattle.dcc_ir.specs.declared.syntax.Put.TheVariants.{Memory, One, Two}
use Rattle.dcc_ir.specs.declared.syntax.Param.{Param}
use Rattle.dcc_ir.specs.Location.{same_location}
use Rattle.dcc_ir.specs.Tree.{Graph}
use Rattle.dcc_ir.specs.WellFormed.{is_memory}
use Rattle.dcc_ir.proofs.LocationLaws.{location_same, location_itself}
use Rattle.dcc_ir.proofs.PathLaws.{decided}
use Rattle.dcc_c.proofs.NameLaws.{same_bytes-equal}
use Rattle.dcc_c.specs.Token.{same_bytes}
use Rattle.dcc_text.specs.Holding.{IsSpelling}
use Rattle.dcc_text.specs.Spelling.{Placed}
use Rattle.dcc_variables.specs.Laws.{AreFew}
use Rattle.dcc_variables.specs.Variables.{Shape, shape_of, variable_name, frame_name, graph_spelling}
use Rattle.dcc_variables.proofs.FramePlaces.{IsToldBy, by_parameter, by_array, place-told, memory-within}
use Rattle.dcc_variables.proofs.Names.{names-same, frame-apart}
use Rattle.dcc_variables.specs.Functions.{parameter_name, is_taken_whole, place_from, place_in, memory_from, name_or, function_shape, location_name, function_spelling}

some-equal : {A : Type 0} {a b : A} → Some a ≡ Some b → a ≡ b
some-equal e = cc

-- all but the first
without_first : List ℕ → List ℕ
without_first [] = []
without_first (x ∷ xs) = xs

-- different places have different names
pub places-same : (j k : ℕ) → j < 2 ^ 63 → k < 2 ^ 63 → same_bytes (parameter_name j) (parameter_name k) ≡ true → j ≡ k
unfolding without_first
places-same j k small little same =
    let e : j + 1 ≡ k + 1 = decimal_injective (j + 1) (k + 1) (omega (arith, small)) (omega (arith, little)) (ap without_first (same_bytes-equal (parameter_name j) (parameter_name k) same)) in
    omega (arith, e)

pub places-apart : (j k : ℕ) → j < k → k < 2 ^ 63 → same_bytes (parameter_name j) (parameter_name k) ≡ false
places-apart j k less small =
    false_from_ne_true _ (λ same. let e = places-same j k (omega (arith, less, small)) small same in absurd (omega (arith, e, less)))

-- The place of a param.

pub whole-is : (put : Put) (l : Loc) → is_taken_whole put l ≡ true → put ≡ One l
whole-is Memory l is = absurd (true≢false (sym is))
whole-is (One other) l is = ap One (sym (location_same l other is))
whole-is (Two low high) l is = absurd (true≢false (sym is))

-- the place of a param lies among the places of the list
pub place-within : (params : List Param) (j : ℕ) (l : Loc) (k : ℕ) → place_from j params l ≡ Some k → (j ≤ k) × (k < j + length params)
place-within [] j l k is = absurd cc
place-within (p ∷ params) j l k is = elim (decided (is_taken_whole p.put l)) [
  | inl here ↦
      let e : j ≡ k = some-equal (sym (ap (λ b. if b then Some j else place_from (j + 1) params l) here) ∙ is) in
      (omega (arith, e), omega (arith, e))
  | inr later ↦
      let (low, high) = place-within params (j + 1) l k (sym (ap (λ b. if b then Some j else place_from (j + 1) params l) later) ∙ is) in
      (omega (arith, low), omega (arith, high))
]

-- one param takes whole what one location takes
pub place-same : (params : List Param) (j : ℕ) (a b : Loc) (k : ℕ) → place_from j params a ≡ Some k → place_from j params b ≡ Some k → a ≡ b
place-same [] j a b k one other = absurd cc
place-same (p ∷ params) j a b k one other = elim (decided (is_taken_whole p.put a)) [
  | inl first ↦ elim (decided (is_taken_whole p.put b)) [
    | inl second ↦ (let e : One a ≡ One b = sym (whole-is p.put a first) ∙ whole-is p.put b second in cc)
    | inr not_second ↦ absurd (here-later a b first not_second one other)
  ]
  | inr not_first ↦ elim (decided (is_taken_whole p.put b)) [
    | inl second ↦ absurd (here-later b a second not_first other one)
    | inr not_second ↦ place-same params (j + 1) a b k (later a not_first one) (later b not_second other)
  ]
]
  where
    later : (l : Loc) → is_taken_whole p.put l ≡ false → place_from j (p ∷ params) l ≡ Some k → place_from (j + 1) params l ≡ Some k
    later l apart is = sym (ap (λ c. if c then Some j else place_from (j + 1) params l) apart) ∙ is

    here-later : (x y : Loc) → is_taken_whole p.put x ≡ true → is_taken_whole p.put y ≡ false → place_from j (p ∷ params) x ≡ Some k → place_from j (p ∷ params) y ≡ Some k → ⊥
    here-later x y first apart is also =
        let e : j ≡ k = some-equal (sym (ap (λ c. if c then Some j else place_from (j + 1) params x) first) ∙ is) in
        let within = place-within params (j + 1) y k (later y apart also) in
        omega (arith, e, within.0)

-- a param in memory takes nothing whole
pub not-both : (params : List Param) (j : ℕ) (l : Loc) (k : ℕ) → place_from j params l ≡ Some k
    → memory_from j params ≡ Some k → ⊥
not-both [] j l k place memory = cc
not-both (p ∷ params) j l k place memory = elim (decided (is_taken_whole p.put l)) [
  | inl whole ↦
      let later : memory_from (j + 1) params ≡ Some k =
      sym (by-itself p.stack p.put (whole-is p.put l whole)) ∙ memory in
      let e : j ≡ k = some-equal (sym (ap (λ b. if b then Some j else place_from (j + 1) params l) whole) ∙ place) in
      let within = memory-within params (j + 1) k later in
      omega (arith, e, within.0)
  | inr other ↦
      let later = sym (ap (λ b. if b then Some j else place_from (j + 1) params l) other) ∙ place in
      elim (decided (p.stack && is_memory p.put)) [
        | inl here ↦
            let e : j ≡ k = some-equal (sym (ap (λ b. if b then Some j else memory_from (j + 1) params) here) ∙ memory) in
            let within = place-within params (j + 1) l k later in
            omega (arith, e, within.0)
        | inr away ↦
            not-both params (j + 1) l k later
            (sym (ap (λ b. if b then Some j else memory_from (j + 1) params) away) ∙ memory)
      ]
]
  where
    by-itself : (stack : Bool) (put : Put) → put ≡ One l
        → (if stack && is_memory put then Some j else memory_from (j + 1) params) ≡ memory_from (j + 1) params
    by-itself true put is = ap (λ put. if is_memory put then Some j else memory_from (j + 1) params) is
    by-itself false put is = refl

-- Names of locations.

module _ (g : Graph) (few : AreFew (shape_of g)) (few_params : length g.params < 2 ^ 32) where
  abbrev shape : Shape
  shape = shape_of g

  -- a place has a small number
  pub place-small : (l : Loc) (k : ℕ) → place_in g l ≡ Some k → k < 2 ^ 63
  place-small l k is = let within = place-within g.params 0 l k is in omega (arith, within.1, few_params)

  locations-same : (a b : Loc) → (graph_spelling g).named a ≡ true → (graph_spelling g).named b ≡ true → (one other : Option ℕ) → place_in g a ≡ one → place_in g b ≡ other
      → same_bytes (name_or one (variable_name shape a)) (name_or other (variable_name shape b)) ≡ true → a ≡ b
  locations-same a b first second None None one other same = names-same g few a b first second same
  locations-same a b first second (Some j) None one other same = absurd (true≢false (sym same))
  locations-same a b first second None (Some k) one other same = absurd (true≢false (sym same))
  locations-same a b first second (Some j) (Some k) one other same =
      let e = places-same j k (place-small a j one) (place-small b k other) same in
      place-same g.params 0 a b k (one ∙ ap Some e) other

  frame-other : (l : Loc) → (graph_spelling g).named l ≡ true → (one : Option ℕ) → same_bytes (name_or one (variable_name shape l)) frame_name ≡ false
  frame-other l named None = frame-apart g few l named
  frame-other l named (Some j) = refl

  -- an argument in memory is no location
  memory-other : (l : Loc) (k : ℕ) → memory_from 0 g.params ≡ Some k → (one : Option ℕ) → place_in g l ≡ one
      → same_bytes (name_or one (variable_name shape l)) (parameter_name k) ≡ false
  memory-other l k memory None place = refl
  memory-other l k memory (Some j) place =
      false_from_ne_true _ (λ same.
      let within = memory-within g.params 0 k memory in
      let e = places-same j k (place-small l j place) (omega (arith, within.1, few_params)) same in
      not-both g.params 0 l k (place ∙ ap Some e) memory)

  by-name : (l : Loc) → (graph_spelling g).named l ≡ true → {bytes distance : ℕ} (p : Placed)
      → IsToldBy (memory_from 0 g.params) bytes distance p → same_bytes (location_name g l) p.name ≡ false
  by-name l is p (by_parameter place memory low high same) =
      subst (λ (q : Placed). same_bytes (location_name g l) q.name ≡ false) (sym same)
      (memory-other l place memory (place_in g l) refl)
  by-name l is p (by_array some same) =
      subst (λ (q : Placed). same_bytes (location_name g l) q.name ≡ false) (sym same) (frame-other l is (place_in g l))

  pub spelling-is : IsSpelling (function_spelling g)
  spelling-is = record {
    apart = λ a b one other same.
        subst (λ x. same_location a x ≡ true) (locations-same a b one other (place_in g a) (place_in g b) refl refl same) (location_itself a);
    placed_apart = λ l distance p is there.
        by-name l is p (place-told (memory_from 0 g.params) (function_shape g).frame distance p there);
  }
