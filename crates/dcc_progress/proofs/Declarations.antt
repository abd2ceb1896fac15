-- What a call's variables are tells no less of the expressions of its function than what they are declared as.
use Rattle.std.proofs.Common.{◌≡◌, ℕ, Bool, true, false, not, List, [], ◌∷◌, ◌++◌, Option, Some, None, refl, sym, ap, ◌∙◌}
use Rattle.std.specs.Prelude.{if◌then◌else◌, option_map, option_and_then}
use Rattle.std.specs.List.{list_any, flat_map}
use Rattle.std.proofs.lemmas.Bool.{or_left}
use Rattle.dcc_c.specs.declared.syntax.CType.{CType}
use Rattle.dcc_c.specs.declared.syntax.CUn.TheVariants.{AddressOf}
use Rattle.dcc_c.specs.declared.syntax.CBin.{CBin}
use Rattle.dcc_c.specs.Token.{same_bytes}
use Rattle.dcc_c.specs.Types.{pointer_to}
use Rattle.dcc_c.specs.Tree.{Word, Expr, Number, Name, Unary, Binary, Conditional, Cast, Stmt, Lines}
use Rattle.dcc_c.specs.Parts.{stmts_in, exprs_of, parts_of}
use Rattle.dcc_c.specs.Typing.{Declared, declared_as, type_of_name, type_of_address, type_of_variable, unary_type, both_types, both_arms_type, tested_type, type_of}
use Rattle.dcc_c.specs.Placement.{is_address_of, takes_address}
use Rattle.dcc_c.proofs.NameLaws.{same_bytes-equal, same_bytes-refl}
use Rattle.dcc_progress.specs.Stuck.{StandsIn}
use Rattle.dcc_progress.proofs.Bodies.{any_left, any_right, any_later, any_flat, some_stands}

-- Declarations.

-- What a variable is, beside what it is declared as: it is placed where the body takes its address, and where it is an
-- array.
pub record IsAs (body : Lines) (d e : Declared) : Type 0 where
  pub name : d.name ≡ e.name
  pub type : d.type ≡ e.type
  pub array : d.is_array ≡ e.is_array
  pub address : takes_address body d.name ≡ true → d.is_placed ≡ true → e.is_placed ≡ true
  pub stored : e.is_array ≡ true → e.is_placed ≡ true

abbrev pub AreAs : Lines → List Declared → List Declared → Type 0
AreAs body [] [] = Unit {0}
AreAs body (d ∷ ds) (e ∷ es) = IsAs body d e × AreAs body ds es
AreAs body (d ∷ ds) [] = ⊥
AreAs body [] (e ∷ es) = ⊥

pub as-append : (body : Lines) (ds es others more : List Declared) → AreAs body ds es → AreAs body others more → AreAs body (ds ++ others) (es ++ more)
as-append body [] [] others more is also = also
as-append body (d ∷ ds) (e ∷ es) others more is also = (is.0, as-append body ds es others more is.1 also)
as-append body (d ∷ ds) [] others more is also = absurd is
as-append body [] (e ∷ es) others more is also = absurd is

-- what two lists tell of a word
abbrev Tells : Lines → Word → Option Declared → Option Declared → Type 0
Tells body word None None = Unit {0}
Tells body word (Some d) (Some e) = (same_bytes d.name word ≡ true) × IsAs body d e
Tells body word (Some d) None = ⊥
Tells body word None (Some e) = ⊥

one-tells : (body : Lines) (word : Word) (d e : Declared) (o p : Option Declared) (b c : Bool) → b ≡ c → same_bytes d.name word ≡ b → IsAs body d e → Tells body word o p →
    Tells body word (if b then Some d else o) (if c then Some e else p)
one-tells body word d e o p true true same own is others = (own, is)
one-tells body word d e o p false false same own is others = others
one-tells body word d e o p true false same own is others = absurd cc
one-tells body word d e o p false true same own is others = absurd cc

all-tell : (body : Lines) (word : Word) (ds es : List Declared) → AreAs body ds es → Tells body word (declared_as ds word) (declared_as es word)
all-tell body word [] [] is = tt
all-tell body word (d ∷ ds) (e ∷ es) is =
    one-tells body word d e (declared_as ds word) (declared_as es word) (same_bytes d.name word) (same_bytes e.name word) (ap (λ n. same_bytes n word) is.0.name) refl is.0 (all-tell body word ds es is.1)
all-tell body word (d ∷ ds) [] is = absurd is
all-tell body word [] (e ∷ es) is = absurd is

name_type : Bool → CType → Option CType
name_type array type = if not array then Some type else if type.pointer then None else Some (pointer_to type.base)

variable_type : Bool → CType → Option CType
variable_type array type = if array then None else Some type

address_type : Bool → Bool → CType → Option CType
address_type placed array type =
    if not placed then None else if array then None else if type.pointer then None else Some (pointer_to type.base)

module _ (body : Lines) (word : Word) (t : CType) where
  name-told : (o p : Option Declared) → Tells body word o p → option_and_then type_of_name o ≡ Some t → option_and_then type_of_name p ≡ Some t
  unfolding name_type
  name-told (Some d) (Some e) told is =
      ap (λ a. name_type a e.type) (sym told.1.array) ∙ ap (name_type d.is_array) (sym told.1.type) ∙ is
  name-told (Some d) None told is = absurd told
  name-told None p told is = absurd cc

  variable-told : (o p : Option Declared) → Tells body word o p → option_and_then type_of_variable o ≡ Some t → option_and_then type_of_variable p ≡ Some t
  unfolding variable_type
  variable-told (Some d) (Some e) told is =
      ap (λ a. variable_type a e.type) (sym told.1.array) ∙ ap (variable_type d.is_array) (sym told.1.type) ∙ is
  variable-told (Some d) None told is = absurd told
  variable-told None p told is = absurd cc

  placed-by : (placed array : Bool) (type : CType) → address_type placed array type ≡ Some t → placed ≡ true
  unfolding address_type
  placed-by true array type is = refl
  placed-by false array type is = absurd cc

  address-told : (o p : Option Declared) → takes_address body word ≡ true → Tells body word o p → option_and_then type_of_address o ≡ Some t → option_and_then type_of_address p ≡ Some t
  unfolding address_type
  address-told (Some d) (Some e) taken told is =
      let was : d.is_placed ≡ true = placed-by d.is_placed d.is_array d.type is in
      let own : takes_address body d.name ≡ true = ap (takes_address body) (same_bytes-equal d.name word told.0) ∙ taken in
      let also : e.is_placed ≡ d.is_placed = told.1.address own was ∙ sym was in
      ap (λ p. address_type p e.is_array e.type) also ∙ ap (λ a. address_type d.is_placed a e.type) (sym told.1.array)
      ∙ ap (address_type d.is_placed d.is_array) (sym told.1.type) ∙ is
  address-told (Some d) None taken told is = absurd told
  address-told None p taken told is = absurd cc

-- Expressions.

-- the body takes each address that the expressions take
abbrev pub Takes : Lines → List Expr → Type 0
Takes body parts = (word : Word) → list_any (is_address_of word) parts ≡ true → takes_address body word ≡ true

takes-left : (body : Lines) (xs ys : List Expr) → Takes body (xs ++ ys) → Takes body xs
takes-left body xs ys takes word any = takes word (any_left (is_address_of word) xs ys any)

pub takes-right : (body : Lines) (xs ys : List Expr) → Takes body (xs ++ ys) → Takes body ys
takes-right body xs ys takes word any = takes word (any_right (is_address_of word) xs ys any)

pub takes-later : (body : Lines) (x : Expr) (xs : List Expr) → Takes body (x ∷ xs) → Takes body xs
takes-later body x xs takes word any = takes word (any_later (is_address_of word) x xs any)

-- the addresses that a statement of the body takes
pub takes-stmt : {body : Lines} {stmt : Stmt} {at : ℕ} → StandsIn body stmt at → Takes body (flat_map parts_of (exprs_of stmt))
takes-stmt {body} {stmt} {at} stands word any =
    any_flat (is_address_of word) (λ s. flat_map parts_of (exprs_of s)) (stmts_in body)
    ∙ some_stands (λ s. list_any (is_address_of word) (flat_map parts_of (exprs_of s))) stands any

pub takes-first : (body : Lines) (e : Expr) (es : List Expr) → Takes body (flat_map parts_of (e ∷ es)) → Takes body (parts_of e)
takes-first body e es takes = takes-left body (parts_of e) (flat_map parts_of es) takes

pub takes-others : (body : Lines) (e : Expr) (es : List Expr) → Takes body (flat_map parts_of (e ∷ es)) → Takes body (flat_map parts_of es)
takes-others body e es takes = takes-right body (parts_of e) (flat_map parts_of es) takes

-- an operand's type
one-lifted : (f : CType → Option CType) (o p : Option CType) (t : CType) → ((a : CType) → o ≡ Some a → p ≡ Some a) → option_and_then f o ≡ Some t → option_and_then f p ≡ Some t
one-lifted f (Some a) p t same is = ap (option_and_then f) (same a refl) ∙ is
one-lifted f None p t same is = absurd cc

cast-lifted : (type : CType) (o p : Option CType) (t : CType) → ((a : CType) → o ≡ Some a → p ≡ Some a) → option_map (λ from. type) o ≡ Some t → option_map (λ from. type) p ≡ Some t
cast-lifted type (Some a) p t same is = ap (option_map (λ from. type)) (same a refl) ∙ is
cast-lifted type None p t same is = absurd cc

two-lifted : (operator : CBin) (o p q r : Option CType) (t : CType) → ((a : CType) → o ≡ Some a → q ≡ Some a) → ((a : CType) → p ≡ Some a → r ≡ Some a) →
    both_types operator o p ≡ Some t → both_types operator q r ≡ Some t
two-lifted operator (Some a) (Some b) q r t first second is =
    ap (λ o. both_types operator o r) (first a refl) ∙ ap (both_types operator (Some a)) (second b refl) ∙ is
two-lifted operator (Some a) None q r t first second is = absurd cc
two-lifted operator None p q r t first second is = absurd cc

-- a test without a type after it has none
no_arm : (pointer : Bool) (t : CType) → (if pointer then None else None) ≡ Some t → ⊥
no_arm true t is = absurd cc
no_arm false t is = absurd cc

three-lifted : (test first second : Option CType) (u v w : Option CType) (t : CType) → ((a : CType) → test ≡ Some a → u ≡ Some a) → ((a : CType) → first ≡ Some a → v ≡ Some a) → ((a : CType) → second ≡ Some a → w ≡ Some a) →
    tested_type test (both_arms_type first second) ≡ Some t → tested_type u (both_arms_type v w) ≡ Some t
three-lifted (Some a) (Some b) (Some c) u v w t one two three is =
    ap (λ o. tested_type o (both_arms_type v w)) (one a refl) ∙ ap (λ o. tested_type (Some a) (both_arms_type o w)) (two b refl)
    ∙ ap (λ o. tested_type (Some a) (both_arms_type (Some b) o)) (three c refl) ∙ is
three-lifted (Some a) (Some b) None u v w t one two three is = absurd (no_arm a.pointer t is)
three-lifted (Some a) None second u v w t one two three is = absurd (no_arm a.pointer t is)
three-lifted None first second u v w t one two three is = absurd cc

module _ (body : Lines) (ds es : List Declared) (is_as : AreAs body ds es) where
  -- an expression of the body has the type that it has by the declarations
  pub typed-as : (e : Expr) (t : CType) → Takes body (parts_of e) → type_of ds e ≡ Some t → type_of es e ≡ Some t
  typed-as (Number n base) t takes is = is
  typed-as (Name word) t takes is =
      name-told body word t (declared_as ds word) (declared_as es word) (all-tell body word ds es is_as) is
  typed-as (Unary AddressOf (Name word)) t takes is =
      let own : list_any (is_address_of word) (parts_of (Unary AddressOf (Name word))) ≡ true = or_left (same_bytes word word) _ (same_bytes-refl word) in
      address-told body word t (declared_as ds word) (declared_as es word) (takes word own) (all-tell body word ds es is_as) is
  typed-as (Unary AddressOf a) t takes is = absurd cc
  typed-as (Unary operator a) t takes is =
      one-lifted (unary_type operator) (type_of ds a) (type_of es a) t (λ b has. typed-as a b (takes-later body (Unary operator a) (parts_of a) takes) has) is
  typed-as (Binary operator a b) t takes is =
      let inner = takes-later body (Binary operator a b) (parts_of a ++ parts_of b) takes in
      two-lifted operator (type_of ds a) (type_of ds b) (type_of es a) (type_of es b) t
      (λ c has. typed-as a c (takes-left body (parts_of a) (parts_of b) inner) has)
      (λ c has. typed-as b c (takes-right body (parts_of a) (parts_of b) inner) has) is
  typed-as (Conditional a b c) t takes is =
      let inner = takes-later body (Conditional a b c) (parts_of a ++ (parts_of b ++ parts_of c)) takes in
      let arms = takes-right body (parts_of a) (parts_of b ++ parts_of c) inner in
      three-lifted (type_of ds a) (type_of ds b) (type_of ds c) (type_of es a) (type_of es b) (type_of es c) t
      (λ d has. typed-as a d (takes-left body (parts_of a) (parts_of b ++ parts_of c) inner) has)
      (λ d has. typed-as b d (takes-left body (parts_of b) (parts_of c) arms) has)
      (λ d has. typed-as c d (takes-right body (parts_of b) (parts_of c) arms) has) is
  typed-as (Cast type a) t takes is =
      cast-lifted type (type_of ds a) (type_of es a) t (λ b has. typed-as a b (takes-later body (Cast type a) (parts_of a) takes) has) is

  -- a variable that is a place has the type that it has by the declarations
  pub place-as : (word : Word) (t : CType) → option_and_then type_of_variable (declared_as ds word) ≡ Some t → option_and_then type_of_variable (declared_as es word) ≡ Some t
  place-as word t is =
      variable-told body word t (declared_as ds word) (declared_as es word) (all-tell body word ds es is_as) is
