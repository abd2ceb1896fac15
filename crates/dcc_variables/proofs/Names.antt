-- Names of variables: each location has its own, the array has another one, and all are names of the grammar.
use Rattle.std.proofs.Common.{◌≡◌, ℕ, ◌+◌, ◌%◌, ◌^◌, ◌<◌, ◌≤◌, Bool, true, false, ◌==◌, List, [], ◌∷◌, length, refl, sym, ap, ◌∙◌, subst, true≢false, arith, Option, Some, None}
use Rattle.std.specs.Prelude.{◌&&◌, not, nat_le, if◌then◌else◌}
use Rattle.std.specs.Fmt.{decimal}
use Rattle.std.specs.List.{list_all}
use Rattle.std.proofs.lemmas.Bool.{and_from, and_parts, le-leb, false_from_ne_true, ne_eqb, or_right, not_from_false}
use Rattle.std.proofs.lemmas.Fmt.{decimal_injective, decimal_by_steps, length-decimal-le, decimal_nonempty}
use Rattle.std.proofs.lemmas.List.Folds.{list_all-append}
use Rattle.dcc_ir.specs.declared.syntax.Loc.{Loc}
use Rattle.dcc_ir.specs.Live.{is_among}
use Rattle.dcc_ir.specs.Location.{same_location}
use Rattle.dcc_ir.specs.Tree.{Graph}
use Rattle.dcc_ir.proofs.LocationLaws.{location_itself}
use Rattle.dcc_c.specs.Token.{same_bytes, is_digit, is_letter, is_word_byte}
use Rattle.dcc_c.specs.Grammar.{is_name, keywords}
use Rattle.dcc_c.specs.Grammar as words
use Rattle.dcc_c.proofs.NameLaws.{same_bytes-equal}
use Rattle.dcc_text.specs.Spelling.{Placed}
use Rattle.dcc_text.specs.Holding.{IsSpelling}
use Rattle.dcc_variables.specs.Variables.{locations, Shape, shape_of, first_stack, variable_number, numbered_name, variable_name, frame_name, frame_place, placed_at, graph_spelling}
use Rattle.dcc_variables.specs.Laws.{AreFew}
use Rattle.dcc_variables.proofs.Numbers.{number-below, number-same, not-frame, locations-ascend}

-- Names with numbers.

tail_of : List ℕ → List ℕ
tail_of [] = []
tail_of (x ∷ xs) = xs

-- different numbers have different names
pub numbers-same : (m n : ℕ) → m < 2 ^ 64 → n < 2 ^ 64 → same_bytes (numbered_name m) (numbered_name n) ≡ true → m ≡ n
unfolding tail_of
numbers-same m n small little same = decimal_injective m n small little (ap tail_of (same_bytes-equal (numbered_name m) (numbered_name n) same))

digit-word : (n : ℕ) → n < 10 → is_digit (48 + n) ≡ true
digit-word n small = and_from (nat_le 48 (48 + n)) (nat_le (48 + n) 57) (le-leb 48 (48 + n) (omega arith)) (le-leb (48 + n) 57 (omega (arith, small)))

decimal-digits : (n : ℕ) → n < 2 ^ 64 → list_all is_digit (decimal n) ≡ true
decimal-digits = decimal_by_steps (λ n ds. list_all is_digit ds ≡ true)
    (λ n small. and_from (is_digit (48 + n)) true (digit-word n small) refl)
    (λ n ds large so_far.
    let last = digit-word (n % 10) (omega arith) in
    list_all-append is_digit ds ((48 + n % 10) ∷ []) ∙ and_from (list_all is_digit ds) (is_digit (48 + n % 10) && true) so_far (and_from (is_digit (48 + n % 10)) true last refl))

-- a name that begins with v and a digit is no keyword
module _ (d : ℕ) (rest : List ℕ) (is : is_digit d ≡ true) where
  not-o : (d == 111) ≡ false
  not-o = ne_eqb d 111 (λ e. true≢false (sym is ∙ ap is_digit e))

  no-keyword : words.is_among keywords (118 ∷ d ∷ rest) ≡ false
  no-keyword = rw not-o refl

pub numbered-name : (n : ℕ) → n < 2 ^ 64 → is_name (numbered_name n) ≡ true
numbered-name n small =
    by (decimal n) (decimal_nonempty n small) (decimal-digits n small) (length-decimal-le 20 n (omega arith) (omega (arith, small)) small)
  where
    word-bytes : (ds : List ℕ) → list_all is_digit ds ≡ true → list_all is_word_byte ds ≡ true
    word-bytes [] all = refl
    word-bytes (d ∷ ds) all =
        let (here, later) = and_parts (is_digit d) (list_all is_digit ds) all in
        and_from (is_word_byte d) (list_all is_word_byte ds) (or_right (is_letter d) (is_digit d) here) (word-bytes ds later)

    by : (ds : List ℕ) → 0 < length ds → list_all is_digit ds ≡ true → length ds ≤ 20 → is_name (118 ∷ ds) ≡ true
    by [] some all short = absurd (omega (arith, some))
    by (d ∷ ds) some all short =
        let here = (and_parts (is_digit d) (list_all is_digit ds) all).0 in
        and_from (list_all is_word_byte (d ∷ ds) && nat_le (length (d ∷ ds)) 30) (not (words.is_among keywords (118 ∷ d ∷ ds)))
        (and_from (list_all is_word_byte (d ∷ ds)) (nat_le (length (d ∷ ds)) 30) (word-bytes (d ∷ ds) all) (le-leb (length (d ∷ ds)) 30 (omega (arith, short))))
        (not_from_false (words.is_among keywords (118 ∷ d ∷ ds)) (no-keyword d ds here))

-- Names of a graph's variables.

module _ (g : Graph) (few : AreFew (shape_of g)) where
  abbrev shape : Shape
  shape = shape_of g

  abbrev ls : List Loc
  ls = locations g

  pub number-small : (l : Loc) → is_among ls l ≡ true → variable_number shape l < 2 ^ 64
  number-small l is = omega (arith, number-below shape 1 (first_stack shape + 4) ls l (locations-ascend g) is, few.bits, few.cells)

  pub names-same : (a b : Loc) → is_among ls a ≡ true → is_among ls b ≡ true → same_bytes (variable_name shape a) (variable_name shape b) ≡ true → a ≡ b
  names-same a b one other same =
      number-same shape 1 (first_stack shape + 4) ls a b (locations-ascend g) one other
      (numbers-same (variable_number shape a) (variable_number shape b) (number-small a one) (number-small b other) same)

  pub frame-apart : (l : Loc) → is_among ls l ≡ true → same_bytes (variable_name shape l) frame_name ≡ false
  frame-apart l is = false_from_ne_true _ (λ same. not-frame shape l (numbers-same (variable_number shape l) 17 (number-small l is) (omega arith) same))

  pub name-is : (l : Loc) → is_among ls l ≡ true → is_name (variable_name shape l) ≡ true
  name-is l is = numbered-name (variable_number shape l) (number-small l is)

  placed-name : (bytes distance : ℕ) (p : Placed) → placed_at bytes distance ≡ Some p → p.name ≡ frame_name
  placed-name bytes distance p is = by (bytes == 0) is
    where
      by : (none : Bool) → (if none then None else Some (frame_place bytes distance)) ≡ Some p → p.name ≡ frame_name
      by true e = absurd cc
      by false e = ap (λ (o : Option Placed). elim o [ None ↦ [] | Some q ↦ q.name ]) (sym e)

  pub spelling-is : IsSpelling (graph_spelling g)
  spelling-is = record {
    apart = λ a b one other same. subst (λ x. same_location a x ≡ true) (names-same a b one other same) (location_itself a);
    placed_apart = λ l distance p is there.
        subst (λ name. same_bytes (variable_name shape l) name ≡ false) (sym (placed-name shape.frame distance p there)) (frame-apart l is);
  }
