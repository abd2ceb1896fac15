-- The texts of a graph take the address of no name but that of the first argument in memory.
use Rattle.std.proofs.Common.{◌≡◌, ℕ, ◌+◌, ◌-◌, ◌^◌, Bool, true, false, ◌==◌, inl, inr, List, [], ◌∷◌, ◌++◌, map, Option, Some, None, refl, sym, ap, ap₂, ◌∙◌}
use Rattle.std.specs.Prelude.{◌⊎◌, ◌&&◌, ◌||◌, not, nat_lt, if◌then◌else◌, flat_map, option_to_list}
use Rattle.std.specs.List.{list_any}
use Rattle.std.proofs.lemmas.Bool.{or_from}
use Rattle.std.proofs.lemmas.List.Folds.{list_any-append}
use Rattle.dcc_ir.specs.declared.syntax.Loc.{Loc}
use Rattle.dcc_ir.specs.declared.syntax.BinOp.{BinOp}
use Rattle.dcc_ir.specs.declared.syntax.BinOp.TheVariants.{DivS, RemS}
use Rattle.dcc_ir.specs.declared.syntax.UnOp.{UnOp}
use Rattle.dcc_ir.specs.declared.syntax.UnOp.TheVariants.{Neg, Not, IsZero}
use Rattle.dcc_ir.specs.declared.syntax.Put.{Put}
use Rattle.dcc_ir.specs.declared.syntax.Put.TheVariants.{Memory, One, Two}
use Rattle.dcc_ir.specs.declared.syntax.Param.{Param}
use Rattle.dcc_ir.specs.Location.{location_width}
use Rattle.dcc_ir.specs.Tree as inner
use Rattle.dcc_ir.specs.Value.{width_of}
use Rattle.dcc_c.specs.declared.syntax.Base.{Base}
use Rattle.dcc_c.specs.declared.syntax.Base.TheVariants.{Schar, Uchar, Int, Uint}
use Rattle.dcc_c.specs.declared.syntax.CType.{CType}
use Rattle.dcc_c.specs.declared.syntax.CBin.{CBin}
use Rattle.dcc_c.specs.declared.syntax.CBin.TheVariants.{And as BitAnd, Or as BitOr, Xor as BitXor, Eq as Equal, Shl as ShiftLeft, Shr as ShiftRight, Add as Plus, Sub as Less, Mul as Times, Div as Over, Rem as Rest}
use Rattle.dcc_c.specs.declared.syntax.CUn.TheVariants.{Minus, Complement, Deref, AddressOf}
use Rattle.dcc_c.specs.Parts.{parts_of, exprs_of, stmts_in}
use Rattle.dcc_c.specs.Placement.{is_address_of, takes_address}
use Rattle.dcc_c.specs.Token.{same_bytes}
use Rattle.dcc_c.specs.Tree.{Word, Expr, Number, Name, Unary, Binary, Conditional, Cast, Stmt, Assign, Lines}
use Rattle.dcc_c.specs.Types.{is_signed, plain, pointer_to, same_type}
use Rattle.dcc_text.specs.Spelled.{Way, Low, Exact, Signed, unsigned_type, signed_type, reckoning_type, small, cut, signed_reading, cut_to, taken, constant, as_char, bit_read, variable, placed, pointer, operand_way, flipped, turned_or, unary_text, left_way, right_way, symbol, unary_result, binary_result, votes_left, votes_right, moved_down, joined, text, byte_quotient, byte_remainder, division_text, text_division}
use Rattle.dcc_text.proofs.Opposites.{IsTurned, turns, turned-cases}
use Rattle.dcc_text.specs.Spelling.{Placed, Spelling}
use Rattle.dcc_text.specs.Stmts.{place_of, assigned, wanted_way, setting, stmt_text}
use Rattle.dcc_variables.specs.Variables.{frame_bytes}
use Rattle.dcc_variables.proofs.FramePlaces.{IsToldBy, by_parameter, by_array, place-told}
use Rattle.dcc_variables.specs.Addresses.{has_address_of, stmt_has_address_of, TakesNoAddress, IsNoMemoryName}
use Rattle.dcc_variables.specs.Functions.{parameter_name, memory_from, function_spelling, ret_text, low_byte, high_byte, opening, put_openings, openings_from}

-- Bodies.

any-flat : {X Y : Type 0} (test : Y → Bool) (f : X → List Y) (xs : List X) → list_any test (flat_map f xs) ≡ list_any (λ x. list_any test (f x)) xs
any-flat test f [] = refl
any-flat test f (x ∷ xs) = list_any-append test (f x) (flat_map f xs) ∙ ap (λ b. list_any test (f x) || b) (any-flat test f xs)

any-same : {X : Type 0} (p q : X → Bool) → ((x : X) → p x ≡ q x) → (xs : List X) → list_any p xs ≡ list_any q xs
any-same p q same [] = refl
any-same p q same (x ∷ xs) = ap₂ (λ a b. a || b) (same x) (any-same p q same xs)

pub body-takes : (body : Lines) (word : Word) → takes_address body word ≡ list_any (stmt_has_address_of word) (stmts_in body)
body-takes body word =
    any-flat (is_address_of word) (λ stmt. flat_map parts_of (exprs_of stmt)) (stmts_in body)
    ∙ any-same (λ stmt. list_any (is_address_of word) (flat_map parts_of (exprs_of stmt))) (stmt_has_address_of word)
    (λ stmt. any-flat (is_address_of word) parts_of (exprs_of stmt)) (stmts_in body)

-- Texts.

-- what addresses go by is an array or has another name
abbrev IsOther : Word → Placed → Type 0
IsOther word p = (p.is_array ≡ true) ⊎ (same_bytes word p.name ≡ false)

module _ (s : Spelling) (word : Word) (others : (distance : ℕ) (p : Placed) → s.place distance ≡ Some p → IsOther word p) where
  abbrev None-taken : Expr → Type 0
  None-taken e = has_address_of word e ≡ false

  both : (operator : CBin) (a b : Expr) → None-taken a → None-taken b → None-taken (Binary operator a b)
  both operator a b x y = list_any-append (is_address_of word) (parts_of a) (parts_of b) ∙ or_from (has_address_of word a) (has_address_of word b) x y

  all-three : (a b c : Expr) → None-taken a → None-taken b → None-taken c → None-taken (Conditional a b c)
  all-three a b c x y z =
      list_any-append (is_address_of word) (parts_of a) (parts_of b ++ parts_of c)
      ∙ or_from (has_address_of word a) (list_any (is_address_of word) (parts_of b ++ parts_of c)) x
      (list_any-append (is_address_of word) (parts_of b) (parts_of c) ∙ or_from (has_address_of word b) (has_address_of word c) y z)

  either : (c : Bool) (a b : Expr) → None-taken a → None-taken b → None-taken (if c then a else b)
  either true a b x y = x
  either false a b x y = y

  cut-none : (width : ℕ) (e : Expr) → None-taken e → None-taken (cut width e)
  cut-none width e x =
      let low = Cast (plain (unsigned_type width)) e in either (width == 1) (Binary BitAnd low (small 1)) low (both BitAnd low (small 1) x refl) x

  reading-none : (width : ℕ) (e : Expr) → None-taken e → None-taken (signed_reading width e)
  reading-none width e x = either (width == 1) (Unary Minus e) (Cast (plain (signed_type width)) e) x x

  cut-to-none : (way : Way) (width : ℕ) (e : Expr) → None-taken e → None-taken (cut_to way width e)
  cut-to-none Low width e x = cut-none width e x
  cut-to-none Exact width e x = cut-none width e x
  cut-to-none Signed width e x = reading-none width (if width == 1 then cut 1 e else e) (either (width == 1) (cut 1 e) e (cut-none 1 e x) x)

  taken-none : (have want : Way) (width : ℕ) (e : Expr) → None-taken e → None-taken (taken have want width e)
  taken-none have Low width e x = x
  taken-none Exact Exact width e x = x
  taken-none Exact Signed width e x = reading-none width e x
  taken-none Low Exact width e x = cut-none width e x
  taken-none Low Signed width e x = cut-to-none Signed width e x
  taken-none Signed Exact width e x = cut-none width e x
  taken-none Signed Signed width e x = x

  constant-none : (way : Way) (width n : ℕ) → None-taken (constant way width n)
  constant-none Exact width n = refl
  constant-none Low width n = refl
  constant-none Signed width n =
      let below = nat_lt n (2 ^ (width - 1)) in
      let whole = cut_to Signed width (Number n (reckoning_type false width)) in
      let negative = Unary Minus (Number (2 ^ width - n) (reckoning_type true width)) in
      either below (Number n (reckoning_type true width)) (if n == 2 ^ (width - 1) then whole else negative) refl
      (either (n == 2 ^ (width - 1)) whole negative (cut-to-none Signed width (Number n (reckoning_type false width)) refl) refl)

  char-none : (base : Base) (type : CType) (e : Expr) → None-taken e → None-taken (as_char base type e)
  char-none base type e x = either (same_type type (plain base)) e (Cast (plain base) e) x x

  bit-none : (way : Way) (votes settled : Bool) (type : CType) (e : Expr) → None-taken e → None-taken (bit_read way votes settled type e)
  bit-none Low votes settled type e x = x
  bit-none Signed true settled type e x =
      let char = as_char Schar type e in
      let c = char-none Schar type e x in
      either settled (Cast (plain Int) char) (Binary BitAnd (Binary Rest char (small 2)) (small 1)) c (both BitAnd (Binary Rest char (small 2)) (small 1) (both Rest char (small 2) c refl) refl)
  bit-none Exact true settled type e x =
      let char = as_char Uchar type e in
      let c = char-none Uchar type e x in
      either settled char (Binary Rest char (small 2)) c (both Rest char (small 2) c refl)
  bit-none Signed false settled type e x = either (settled && not (is_signed type.base)) e (Binary BitAnd e (small 1)) x (both BitAnd e (small 1) x refl)
  bit-none Exact false settled type e x = either (settled && not (is_signed type.base)) e (Binary BitAnd e (small 1)) x (both BitAnd e (small 1) x refl)

  variable-none : (way : Way) (votes settled : Bool) (width : ℕ) (type : CType) (e : Expr) → None-taken e → None-taken (variable way votes settled width type e)
  variable-none way votes settled width type e x =
      let bit = taken Exact way 1 (bit_read way votes settled type e) in
      let number = taken (if is_signed type.base then Signed else Exact) way width e in
      either type.pointer (cut_to way width e) (if width == 1 then bit else number) (cut-to-none way width e x)
      (either (width == 1) bit number (taken-none Exact way 1 (bit_read way votes settled type e) (bit-none way votes settled type e x)) (taken-none (if is_signed type.base then Signed else Exact) way width e x))

  -- an address in the frame goes by such a name
  placed-none : (distance : ℕ) → None-taken (placed (s.place distance))
  placed-none distance = by (s.place distance) refl
    where
      by-name : (p : Placed) → IsOther word p → None-taken (if p.is_array then Name p.name else Unary AddressOf (Name p.name))
      by-name p (inl array) = ap (λ b. has_address_of word (if b then Name p.name else Unary AddressOf (Name p.name))) array
      by-name p (inr other) =
          either p.is_array (Name p.name) (Unary AddressOf (Name p.name)) refl (or_from (same_bytes word p.name) false other refl)

      by : (o : Option Placed) → s.place distance ≡ o → None-taken (placed o)
      by None is = refl
      by (Some p) is =
          let name = if p.is_array then Name p.name else Unary AddressOf (Name p.name) in
          let at = Cast (plain Uint) name in
          let none = by-name p (others distance p is) in
          either (p.above == 0) at (Binary Plus at (Number p.above Uint)) none (both Plus at (Number p.above Uint) none refl)

  pointer-none : (width : ℕ) (address : inner.Expr) (e : Expr) → None-taken e → None-taken (pointer s width address e)
  pointer-none width (inner.Get location) e x =
      let type = pointer_to (unsigned_type width) in either (same_type (s.type location) type) (Name (s.name location)) (Cast type e) refl x
  pointer-none width (inner.Const w n) e x = x
  pointer-none width (inner.Load w a) e x = x
  pointer-none width (inner.Unary operator w a) e x = x
  pointer-none width (inner.Binary operator w a b) e x = x
  pointer-none width (inner.Widen signed w a) e x = x
  pointer-none width (inner.Part w first a) e x = x
  pointer-none width (inner.Join high low) e x = x
  pointer-none width (inner.Choose test a b) e x = x
  pointer-none width (inner.Address distance) e x = x

  -- the opposite comparison
  turned-none : (e c : Expr) → IsTurned e c → None-taken e → None-taken c
  turned-none e c (turns operator other a b o) x = x

  unary-none : (operator : UnOp) (width : ℕ) (e : Expr) → None-taken e → None-taken (unary_text operator width e)
  unary-none Neg width e x = x
  unary-none Not width e x =
      either (width == 1) (turned_or flipped e) (Unary Complement e)
      (turned-cases None-taken flipped e (both BitXor e (small 1) x refl) (λ c o. turned-none e c o x)) x
  unary-none IsZero width e x = both Equal e (small 0) x refl

  moved-none : (first : ℕ) (e : Expr) → None-taken e → None-taken (moved_down first e)
  moved-none first e x = either (first == 0) e (Binary ShiftRight e (small first)) x (both ShiftRight e (small first) x refl)

  joined-none : (width : ℕ) (high low : Expr) → None-taken high → None-taken low → None-taken (joined width high low)
  joined-none width high low x y =
      let whole = plain (unsigned_type (width + width)) in
      both BitOr (Binary ShiftLeft (Cast whole high) (small width)) (Cast whole low) (both ShiftLeft (Cast whole high) (small width) x refl) y

  pub text-none : (e : inner.Expr) (way : Way) (votes : Bool) → None-taken (text s way votes e)
  text-none (inner.Const width n) way votes = constant-none way width n
  text-none (inner.Get location) way votes = variable-none way votes (s.settled location) (location_width s.bits location) (s.type location) (Name (s.name location)) refl
  text-none (inner.Load width address) way votes =
      let at = text s Low false address in
      taken-none Exact way width (Unary Deref (pointer s width address at)) (pointer-none width address at (text-none address Low false))
  text-none (inner.Unary operator width a) way votes =
      let e = text s (operand_way operator way width) false a in
      taken-none (unary_result operator way width) way (width_of s.bits (inner.Unary operator width a)) (unary_text operator width e)
      (unary-none operator width e (text-none a (operand_way operator way width) false))
  text-none (inner.Binary operator width a b) way votes =
      let e = text s (left_way operator way width) (votes_left operator) a in
      let d = text s (right_way operator way width) (votes_right operator) b in
      taken-none (binary_result operator way width) way (width_of s.bits (inner.Binary operator width a b)) (Binary (symbol operator) e d)
      (both (symbol operator) e d (text-none a (left_way operator way width) (votes_left operator)) (text-none b (right_way operator way width) (votes_right operator)))
  text-none (inner.Widen true width a) way votes = taken-none Signed way width (Cast (plain (reckoning_type true width)) (text s Signed true a)) (text-none a Signed true)
  text-none (inner.Widen false width a) way votes = taken-none Exact way width (Cast (plain (reckoning_type false width)) (text s Exact true a)) (text-none a Exact true)
  text-none (inner.Part width first a) way votes =
      let e = if first == 0 then text s Low false a else text s Exact true a in
      cut-to-none way width (moved_down first e) (moved-none first e (either (first == 0) (text s Low false a) (text s Exact true a) (text-none a Low false) (text-none a Exact true)))
  text-none (inner.Join high low) way votes =
      let width = width_of s.bits low in
      let e = text s Exact true high in
      let d = text s Exact true low in
      taken-none Exact way (width + width) (joined width e d) (joined-none width e d (text-none high Exact true) (text-none low Exact true))
  text-none (inner.Choose test a b) way votes =
      all-three (text s Exact false test) (text s way false a) (text s way false b) (text-none test Exact false) (text-none a way false) (text-none b way false)
  text-none (inner.Address distance) way votes = taken-none Exact way 16 (placed (s.place distance)) (placed-none distance)

  -- Statements.

  -- the expressions of one take no address
  abbrev Free : List Expr → Type 0
  Free es = list_any (has_address_of word) es ≡ false

  one-more : (e : Expr) (es : List Expr) → None-taken e → Free es → Free (e ∷ es)
  one-more e es x xs = or_from (has_address_of word e) (list_any (has_address_of word) es) x xs

  texts-free : (es : List inner.Expr) → Free (map (text s Low false) es)
  texts-free [] = refl
  texts-free (e ∷ es) = one-more (text s Low false e) (map (text s Low false) es) (text-none e Low false) (texts-free es)

  assigned-none : (location : Loc) (e : Expr) → None-taken e → None-taken (assigned s location e)
  assigned-none location e x = either (s.type location).pointer (Cast (s.type location) e) e x x

  division-none : (operator : BinOp) (width : ℕ) (a b : Expr) → None-taken a → None-taken b → None-taken (division_text operator width a b)
  division-none operator width a b x y = by operator
    where
      dividend : None-taken (Binary Over (Binary Times (Cast (plain Int) a) (small 256)) b)
      dividend = both Over (Binary Times (Cast (plain Int) a) (small 256)) b (both Times (Cast (plain Int) a) (small 256) x refl) y

      quotient : None-taken (byte_quotient a b)
      quotient = both Over (Binary Over (Binary Times (Cast (plain Int) a) (small 256)) b) (small 256) dividend refl

      remainder : None-taken (byte_remainder a b)
      remainder = both Less a (Binary Times (byte_quotient a b) b) x (both Times (byte_quotient a b) b quotient y)

      by : (operator : BinOp) → None-taken (division_text operator width a b)
      by DivS = either (width == 8) (byte_quotient a b) (Binary Over a b) quotient (both Over a b x y)
      by RemS = either (width == 8) (byte_remainder a b) (Binary Rest a b) remainder (both Rest a b x y)
      by operator = both (symbol operator) a b x y

  divided-none : (e : inner.Expr) → None-taken (text_division s e)
  divided-none (inner.Binary operator width a b) =
      let way = left_way operator Low width in division-none operator width (text s way true a) (text s way true b) (text-none a way true) (text-none b way true)
  divided-none (inner.Const width n) = text-none (inner.Const width n) Low false
  divided-none (inner.Get location) = text-none (inner.Get location) Low false
  divided-none (inner.Load width a) = text-none (inner.Load width a) Low false
  divided-none (inner.Unary operator width a) = text-none (inner.Unary operator width a) Low false
  divided-none (inner.Widen signed width a) = text-none (inner.Widen signed width a) Low false
  divided-none (inner.Part width first a) = text-none (inner.Part width first a) Low false
  divided-none (inner.Join high low) = text-none (inner.Join high low) Low false
  divided-none (inner.Choose test a b) = text-none (inner.Choose test a b) Low false
  divided-none (inner.Address distance) = text-none (inner.Address distance) Low false

  abbrev pub StmtFree : Stmt → Type 0
  StmtFree stmt = stmt_has_address_of word stmt ≡ false

  setting-free : (location : Loc) (e : inner.Expr) → StmtFree (setting s location e)
  setting-free location e =
      let way = wanted_way s location in
      one-more (assigned s location (text s way false e)) [] (assigned-none location (text s way false e) (text-none e way false)) refl

  pub stmt-free : (stmt : inner.Stmt) (depth : ℕ) → StmtFree (stmt_text s depth stmt)
  stmt-free (inner.Set location e) depth = setting-free location e
  stmt-free (inner.Fetch location width address) depth = setting-free location (inner.Load width address)
  stmt-free (inner.Store width address e) depth =
      let at = text s Low false address in
      one-more (Unary Deref (pointer s width address at)) (text s Low false e ∷ []) (pointer-none width address at (text-none address Low false))
      (one-more (text s Low false e) [] (text-none e Low false) refl)
  stmt-free (inner.Div location e) depth = one-more (assigned s location (text_division s e)) [] (assigned-none location (text_division s e) (divided-none e)) refl
  stmt-free (inner.Call [] entry arguments own) depth = texts-free arguments
  stmt-free (inner.Call (location ∷ results) entry arguments own) depth = texts-free arguments
  stmt-free (inner.Dos number None argument) depth = texts-free (option_to_list argument)
  stmt-free (inner.Dos number (Some location) argument) depth = texts-free (option_to_list argument)

  pub return-free : (values : List inner.Expr) → StmtFree (ret_text s values)
  return-free [] = refl
  return-free (e ∷ values) = one-more (text s Low false e) [] (text-none e Low false) refl

  -- Openings.

  wanted-free : (wanted : Bool) (location : Loc) (e : Expr) → None-taken e → list_any (stmt_has_address_of word) (opening wanted s location e) ≡ false
  wanted-free false location e x = refl
  wanted-free true location e x = or_from (stmt_has_address_of word (Assign (place_of s location) e)) false (one-more e [] x refl) refl

  module _ (opens : Loc → Bool) where
    put-free : (name : Word) (put : Put) → list_any (stmt_has_address_of word) (put_openings s opens name put) ≡ false
    put-free name Memory = refl
    put-free name (One location) = refl
    put-free name (Two low high) =
        list_any-append (stmt_has_address_of word) (opening (opens low) s low (low_byte (Name name))) (opening (opens high) s high (high_byte (Name name)))
        ∙ or_from _ _ (wanted-free (opens low) low (low_byte (Name name)) (cut-none 8 (Name name) refl))
        (wanted-free (opens high) high (high_byte (Name name)) (cut-none 8 (moved_down 8 (Name name)) (moved-none 8 (Name name) refl)))

    pub openings-free : (j : ℕ) (params : List Param) → list_any (stmt_has_address_of word) (openings_from s opens j params) ≡ false
    openings-free j [] = refl
    openings-free j (p ∷ params) =
        list_any-append (stmt_has_address_of word) (put_openings s opens (parameter_name j) p.put) (openings_from s opens (j + 1) params)
        ∙ or_from _ _ (put-free (parameter_name j) p.put) (openings-free (j + 1) params)

-- local bytes of the frame go by an array, and arguments by the first that is in memory
places-other : (graph : inner.Graph) (word : Word) → IsNoMemoryName graph word → (bytes distance : ℕ) (p : Placed)
    → IsToldBy (memory_from 0 graph.params) bytes distance p → IsOther word p
places-other graph word none bytes distance p (by_parameter place memory low high same) =
    inr (ap (λ (q : Placed). same_bytes word q.name) same ∙ none place memory)
places-other graph word none bytes distance p (by_array some same) = inl (ap (λ (q : Placed). q.is_array) same)

pub texts-take-none : (graph : inner.Graph) (word : Word) → IsNoMemoryName graph word → TakesNoAddress graph word
texts-take-none graph word none =
    let s = function_spelling graph in
    let told = memory_from 0 graph.params in
    let bytes = frame_bytes told graph in
    let others = λ (distance : ℕ) (p : Placed) (is : s.place distance ≡ Some p). places-other graph word none bytes distance p (place-told told bytes distance p is) in record {
      expressions = text-none s word others;
      statements = stmt-free s word others;
      returns = return-free s word others;
      openings = λ opens. openings-free s word others opens 0 graph.params;
    }
