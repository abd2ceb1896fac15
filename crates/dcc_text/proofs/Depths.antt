-- How deep the text of an expression is, and which names it reads.
use Rattle.std.proofs.Common.{◌≡◌, ℕ, suc, ◌-◌, ◌*◌, ◌^◌, ◌≤◌, max, Bool, true, false, ◌==◌, List, [], ◌∷◌, ◌++◌, Some, None, refl, ap₂, ◌∙◌, arith}
use Rattle.std.specs.Prelude.{◌&&◌, not, nat_lt, if◌then◌else◌, Option}
use Rattle.std.proofs.lemmas.List.{append-nil}
use Rattle.dcc_ir.specs.declared.syntax.UnOp.{UnOp}
use Rattle.dcc_ir.specs.declared.syntax.UnOp.TheVariants.{Neg, Not, IsZero}
use Rattle.dcc_ir.specs.Location.{location_width}
use Rattle.dcc_ir.specs.Measure.{depth_of}
use Rattle.dcc_ir.specs.Tree as inner
use Rattle.dcc_c.specs.declared.syntax.Base.{Base}
use Rattle.dcc_c.specs.declared.syntax.Base.TheVariants.{Schar, Uchar, Int, Uint}
use Rattle.dcc_c.specs.declared.syntax.CType.{CType}
use Rattle.dcc_c.specs.declared.syntax.CUn.{CUn}
use Rattle.dcc_c.specs.declared.syntax.CUn.TheVariants.{AddressOf}
use Rattle.dcc_c.specs.declared.syntax.CBin.{CBin}
use Rattle.dcc_c.specs.Rules.{expr_depth}
use Rattle.dcc_c.specs.Types.{is_signed, plain, pointer_to, same_type}
use Rattle.dcc_c.specs.Tree.{Word, Expr, Number, Name, Unary, Binary, Cast}
use Rattle.dcc_text.specs.Spelling.{Placed, Spelling}
use Rattle.dcc_text.specs.Spelled.{Way, Low, Exact, Signed, unsigned_type, cut, signed_reading, cut_to, taken, constant, as_char, bit_read, variable, placed, pointer, operand_way, flipped, unary_text, unary_result, left_way, right_way, votes_left, votes_right, binary_result, text}
use Rattle.dcc_text.specs.Names.{names_in, place_name, read_names}
use Rattle.dcc_text.proofs.Opposites.{IsTurned, turns, turned-cases}

-- at most so many levels, and these names
pub record Has (depth : ℕ) (names : List Word) (e : Expr) : Type 0 where
  pub shallow : expr_depth e ≤ depth
  pub reads : names_in e ≡ names

deeper : (d c : ℕ) (names : List Word) (e : Expr) → d ≤ c → Has d names e → Has c names e
deeper d c names e low x = record { shallow = omega (arith, low, x.shallow); reads = x.reads }

-- one of two
either-has : (c : Bool) (d : ℕ) (names : List Word) (a b : Expr) → Has d names a → Has d names b → Has d names (if c then a else b)
either-has true d names a b x y = x
either-has false d names a b x y = y

number-has : (n : ℕ) (base : Base) → Has 1 [] (Number n base)
number-has n base = record { shallow = omega arith; reads = refl }

unary-has : (d : ℕ) (names : List Word) (operator : CUn) (e : Expr) → Has d names e → Has (suc d) names (Unary operator e)
unary-has d names operator e x = record { shallow = omega (arith, x.shallow); reads = x.reads }

cast-has : (d : ℕ) (names : List Word) (type : CType) (e : Expr) → Has d names e → Has (suc d) names (Cast type e)
cast-has d names type e x = record { shallow = omega (arith, x.shallow); reads = x.reads }

max-below : (a b c : ℕ) → a ≤ c → b ≤ c → max a b ≤ c
max-below a b c first second = omega (arith, first, second)

binary-has : (d : ℕ) (names others : List Word) (operator : CBin) (a b : Expr) → Has d names a → Has d others b → Has (suc d) (names ++ others) (Binary operator a b)
binary-has d names others operator a b x y = record { shallow = omega (arith, max-below (expr_depth a) (expr_depth b) d x.shallow y.shallow); reads = ap₂ (λ n m. n ++ m) x.reads y.reads }

-- the opposite comparison
pub turned-has : (d : ℕ) (names : List Word) (e c : Expr) → IsTurned e c → Has d names e → Has d names c
turned-has d names e c (turns operator other a b o) x = record { shallow = x.shallow; reads = x.reads }

-- with a number at the right
numbered-has : (d : ℕ) (names : List Word) (operator : CBin) (e : Expr) (n : ℕ) (base : Base) → Has (suc d) names e → Has (suc (suc d)) names (Binary operator e (Number n base))
numbered-has d names operator e n base x =
    let y = binary-has (suc d) names [] operator e (Number n base) x (deeper 1 (suc d) [] (Number n base) (omega arith) (number-has n base)) in
    record { shallow = y.shallow; reads = y.reads ∙ append-nil names }

cut-has : (d width : ℕ) (names : List Word) (e : Expr) → Has d names e → Has (suc (suc d)) names (cut width e)
cut-has d width names e x = either-has (width == 1) (suc (suc d)) names _ _ (numbered-has d names _ _ 1 Int (cast-has d names _ e x)) (deeper (suc d) (suc (suc d)) names _ (omega arith) (cast-has d names _ e x))

reading-has : (d width : ℕ) (names : List Word) (e : Expr) → Has d names e → Has (suc d) names (signed_reading width e)
reading-has d width names e x = either-has (width == 1) (suc d) names _ _ (unary-has d names _ e x) (cast-has d names _ e x)

cut-to-has : (way : Way) (d width : ℕ) (names : List Word) (e : Expr) → Has d names e → Has (suc (suc (suc d))) names (cut_to way width e)
cut-to-has Low d width names e x = deeper (suc (suc d)) (suc (suc (suc d))) names _ (omega arith) (cut-has d width names e x)
cut-to-has Exact d width names e x = deeper (suc (suc d)) (suc (suc (suc d))) names _ (omega arith) (cut-has d width names e x)
cut-to-has Signed d width names e x =
    reading-has (suc (suc d)) width names _ (either-has (width == 1) (suc (suc d)) names _ _ (cut-has d 1 names e x) (deeper d (suc (suc d)) names e (omega arith) x))

taken-has : (have want : Way) (d width : ℕ) (names : List Word) (e : Expr) → Has d names e → Has (suc (suc (suc d))) names (taken have want width e)
taken-has have Low d width names e x = deeper d (suc (suc (suc d))) names e (omega arith) x
taken-has Exact Exact d width names e x = deeper d (suc (suc (suc d))) names e (omega arith) x
taken-has Exact Signed d width names e x = deeper (suc d) (suc (suc (suc d))) names _ (omega arith) (reading-has d width names e x)
taken-has Low Exact d width names e x = deeper (suc (suc d)) (suc (suc (suc d))) names _ (omega arith) (cut-has d width names e x)
taken-has Low Signed d width names e x = cut-to-has Signed d width names e x
taken-has Signed Exact d width names e x = deeper (suc (suc d)) (suc (suc (suc d))) names _ (omega arith) (cut-has d width names e x)
taken-has Signed Signed d width names e x = deeper d (suc (suc (suc d))) names e (omega arith) x

-- an exact bit needs one level more at most
exact-bit-has : (want : Way) (d : ℕ) (names : List Word) (e : Expr) → Has d names e → Has (suc d) names (taken Exact want 1 e)
exact-bit-has Low d names e x = deeper d (suc d) names e (omega arith) x
exact-bit-has Exact d names e x = deeper d (suc d) names e (omega arith) x
exact-bit-has Signed d names e x = reading-has d 1 names e x

constant-has : (way : Way) (width n : ℕ) → Has 6 [] (constant way width n)
constant-has Exact width n = deeper 1 6 [] _ (omega arith) (number-has n _)
constant-has Low width n = deeper 1 6 [] _ (omega arith) (number-has n _)
constant-has Signed width n =
    either-has (nat_lt n (2 ^ (width - 1))) 6 [] _ _ (deeper 1 6 [] _ (omega arith) (number-has n _))
    (either-has (n == 2 ^ (width - 1)) 6 [] _ _ (deeper 4 6 [] _ (omega arith) (cut-to-has Signed 1 width [] _ (number-has n _)))
    (deeper 2 6 [] _ (omega arith) (unary-has 1 [] _ _ (number-has (2 ^ width - n) _))))

-- Variables.

as-char-has : (names : List Word) (base : Base) (type : CType) (e : Expr) → Has 1 names e → Has 2 names (as_char base type e)
as-char-has names base type e x = either-has (same_type type (plain base)) 2 names _ _ (deeper 1 2 names e (omega arith) x) (cast-has 1 names _ e x)

bit-read-has : (way : Way) (votes settled : Bool) (type : CType) (names : List Word) (e : Expr) → Has 1 names e → Has 4 names (bit_read way votes settled type e)
bit-read-has Low votes settled type names e x = deeper 1 4 names e (omega arith) x
bit-read-has Signed true settled type names e x =
    either-has settled 4 names _ _ (deeper 3 4 names _ (omega arith) (cast-has 2 names _ _ (as-char-has names Schar type e x)))
    (numbered-has 2 names _ _ 1 Int (numbered-has 1 names _ _ 2 Int (as-char-has names Schar type e x)))
bit-read-has Exact true settled type names e x =
    either-has settled 4 names _ _ (deeper 2 4 names _ (omega arith) (as-char-has names Uchar type e x))
    (deeper 3 4 names _ (omega arith) (numbered-has 1 names _ _ 2 Int (as-char-has names Uchar type e x)))
bit-read-has Exact false settled type names e x =
    either-has (settled && not (is_signed type.base)) 4 names _ _ (deeper 1 4 names e (omega arith) x) (deeper 2 4 names _ (omega arith) (numbered-has 0 names _ e 1 Int x))
bit-read-has Signed false settled type names e x =
    either-has (settled && not (is_signed type.base)) 4 names _ _ (deeper 1 4 names e (omega arith) x) (deeper 2 4 names _ (omega arith) (numbered-has 0 names _ e 1 Int x))

variable-has : (way : Way) (votes settled : Bool) (width : ℕ) (type : CType) (names : List Word) (e : Expr) → Has 1 names e → Has 6 names (variable way votes settled width type e)
variable-has way votes settled width type names e x =
    either-has type.pointer 6 names _ _ (deeper 4 6 names _ (omega arith) (cut-to-has way 1 width names e x))
    (either-has (width == 1) 6 names _ _
    (deeper 5 6 names _ (omega arith) (exact-bit-has way 4 names _ (bit-read-has way votes settled type names e x)))
    (deeper 4 6 names _ (omega arith) (taken-has (if is_signed type.base then Signed else Exact) way 1 width names e x)))

name-has : (name : Word) → Has 1 (name ∷ []) (Name name)
name-has name = record { shallow = omega arith; reads = refl }

-- Addresses.

placed-has : (place : Option Placed) → Has 4 (place_name place) (placed place)
placed-has None = deeper 1 4 [] _ (omega arith) (number-has 0 Int)
placed-has (Some p) =
    either-has (p.above == 0) 4 (p.name ∷ []) _ _ (deeper 3 4 _ _ (omega arith) there) (numbered-has 2 (p.name ∷ []) _ _ p.above _ there)
  where
    there : Has 3 (p.name ∷ []) (Cast (plain Uint) (if p.is_array then Name p.name else Unary AddressOf (Name p.name)))
    there = cast-has 2 (p.name ∷ []) _ _ (either-has p.is_array 2 (p.name ∷ []) _ _ (deeper 1 2 _ _ (omega arith) (name-has p.name)) (unary-has 1 _ _ _ (name-has p.name)))

module _ (s : Spelling) where
  pub pointer-has : (width d : ℕ) (address : inner.Expr) (e : Expr) → 1 ≤ d → Has d (read_names s address) e → Has (suc d) (read_names s address) (pointer s width address e)
  pointer-has width d (inner.Get location) e some x =
      either-has (same_type (s.type location) (pointer_to (unsigned_type width))) (suc d) _ _ _ (deeper 1 (suc d) _ _ (omega (arith, some)) (name-has (s.name location))) (cast-has d _ _ e x)
  pointer-has width d address e some x = cast-has d (read_names s address) _ e x

  unary-text-has : (operator : UnOp) (width d : ℕ) (names : List Word) (e : Expr) → Has (suc d) names e → Has (suc (suc d)) names (unary_text operator width e)
  unary-text-has Neg width d names e x = unary-has (suc d) names _ e x
  unary-text-has Not width d names e x =
      either-has (width == 1) (suc (suc d)) names _ _
      (turned-cases (Has (suc (suc d)) names) flipped e (numbered-has d names _ e 1 Int x) (λ c o. deeper (suc d) (suc (suc d)) names c (omega arith) (turned-has (suc d) names e c o x)))
      (unary-has (suc d) names _ e x)
  unary-text-has IsZero width d names e x = numbered-has d names _ e 0 Int x

  pub depth-some : (e : inner.Expr) → 1 ≤ depth_of e
  depth-some (inner.Const width n) = omega arith
  depth-some (inner.Get location) = omega arith
  depth-some (inner.Load width address) = omega arith
  depth-some (inner.Unary operator width a) = omega arith
  depth-some (inner.Binary operator width a b) = omega arith
  depth-some (inner.Widen signed width a) = omega arith
  depth-some (inner.Part width first a) = omega arith
  depth-some (inner.Join high low) = omega arith
  depth-some (inner.Choose test a b) = omega arith
  depth-some (inner.Address distance) = omega arith

  -- at the greater of two depths
  left-deep : (a b : ℕ) (names : List Word) (e : Expr) → Has (6 * a) names e → Has (6 * max a b) names e
  left-deep a b names e x = deeper (6 * a) (6 * max a b) names e (omega arith) x

  right-deep : (a b : ℕ) (names : List Word) (e : Expr) → Has (6 * b) names e → Has (6 * max a b) names e
  right-deep a b names e x = deeper (6 * b) (6 * max a b) names e (omega arith) x

  pub text-has : (e : inner.Expr) (way : Way) (votes : Bool) → Has (6 * depth_of e) (read_names s e) (text s way votes e)
  text-has (inner.Const width n) way votes = constant-has way width n
  text-has (inner.Get location) way votes = variable-has way votes (s.settled location) (location_width s.bits location) (s.type location) _ _ (name-has (s.name location))
  text-has (inner.Load width address) way votes =
      let d = 6 * depth_of address in
      let some = depth-some address in
      deeper (suc (suc (suc (suc (suc d))))) (6 * suc (depth_of address)) _ _ (omega arith)
      (taken-has Exact way (suc (suc d)) width _ _ (unary-has (suc d) _ _ _ (pointer-has width d address _ (omega (arith, some)) (text-has address Low false))))
  text-has (inner.Unary operator width a) way votes =
      let d = 6 * depth_of a in
      deeper (suc (suc (suc (suc (suc d))))) (6 * suc (depth_of a)) _ _ (omega arith)
      (taken-has (unary_result operator way width) way (suc (suc d)) _ _ _
      (unary-text-has operator width d _ _ (deeper d (suc d) _ _ (omega arith) (text-has a (operand_way operator way width) false))))
  text-has (inner.Binary operator width a b) way votes =
      let m = max (depth_of a) (depth_of b) in
      deeper (suc (suc (suc (suc (6 * m))))) (6 * suc m) _ _ (omega arith)
      (taken-has (binary_result operator way width) way (suc (6 * m)) _ _ _ (binary-has (6 * m) _ _ _ _ _
      (left-deep (depth_of a) (depth_of b) _ _ (text-has a (left_way operator way width) (votes_left operator)))
      (right-deep (depth_of a) (depth_of b) _ _ (text-has b (right_way operator way width) (votes_right operator)))))
  text-has (inner.Widen true width a) way votes =
      let d = 6 * depth_of a in
      deeper (suc (suc (suc (suc d)))) (6 * suc (depth_of a)) _ _ (omega arith) (taken-has Signed way (suc d) width _ _ (cast-has d _ _ _ (text-has a Signed true)))
  text-has (inner.Widen false width a) way votes =
      let d = 6 * depth_of a in
      deeper (suc (suc (suc (suc d)))) (6 * suc (depth_of a)) _ _ (omega arith) (taken-has Exact way (suc d) width _ _ (cast-has d _ _ _ (text-has a Exact true)))
  text-has (inner.Part width first a) way votes =
      let d = 6 * depth_of a in
      let operand = either-has (first == 0) (6 * depth_of a) (read_names s a) _ _ (text-has a Low false) (text-has a Exact true) in
      deeper (suc (suc (suc (suc (suc d))))) (6 * suc (depth_of a)) _ _ (omega arith)
      (cut-to-has way (suc (suc d)) width _ _ (either-has (first == 0) (suc (suc d)) _ _ _ (deeper d (suc (suc d)) _ _ (omega arith) operand) (numbered-has d _ _ _ first Int (deeper d (suc d) _ _ (omega arith) operand))))
  text-has (inner.Join high low) way votes =
      let m = max (depth_of high) (depth_of low) in
      deeper (suc (suc (suc (suc (suc (suc (6 * m))))))) (6 * suc m) _ _ (omega arith)
      (taken-has Exact way (suc (suc (suc (6 * m)))) _ _ _ (binary-has (suc (suc (6 * m))) _ _ _ _ _
      (numbered-has (6 * m) _ _ _ _ Int (cast-has (6 * m) _ _ _ (left-deep (depth_of high) (depth_of low) _ _ (text-has high Exact true))))
      (deeper (suc (6 * m)) (suc (suc (6 * m))) _ _ (omega arith) (cast-has (6 * m) _ _ _ (right-deep (depth_of high) (depth_of low) _ _ (text-has low Exact true))))))
  text-has (inner.Choose test a b) way votes =
      let x = text-has test Exact false in
      let y = text-has a way false in
      let z = text-has b way false in
      record {
        shallow = omega (arith, x.shallow, y.shallow, z.shallow);
        reads = ap₂ (λ n m. n ++ m) x.reads (ap₂ (λ n m. n ++ m) y.reads z.reads);
      }
  text-has (inner.Address distance) way votes =
      let x = placed-has (s.place distance) in at way x
    where
      at : (way : Way) → Has 4 (place_name (s.place distance)) (placed (s.place distance)) → Has 6 (place_name (s.place distance)) (taken Exact way 16 (placed (s.place distance)))
      at Low x = deeper 4 6 _ _ (omega arith) x
      at Exact x = deeper 4 6 _ _ (omega arith) x
      at Signed x = deeper 5 6 _ _ (omega arith) (reading-has 4 16 _ _ x)

pub shallow : (s : Spelling) (e : inner.Expr) (way : Way) (votes : Bool) → expr_depth (text s way votes e) ≤ 6 * depth_of e
shallow s e way votes = (text-has s e way votes).shallow

pub read-alike : (s : Spelling) (e : inner.Expr) (way : Way) (votes : Bool) → names_in (text s way votes e) ≡ read_names s e
read-alike s e way votes = (text-has s e way votes).reads
