-- A type of the grammar is read.
use Rattle.std.proofs.Common.{◌≡◌, ℕ, suc, ◌+◌, List, [], ◌∷◌, length, false, true, Bool, refl, arith}
use Rattle.std.specs.Prelude.{codes, if◌then◌else◌, Some}
use Rattle.dcc_c.specs.declared.syntax.Base.{Base}
use Rattle.dcc_c.specs.declared.syntax.Base.TheVariants.{Schar, Uchar, Int, Uint, Long, Ulong}
use Rattle.dcc_c.specs.declared.syntax.CType.{CType}
use Rattle.dcc_c.specs.Token.{Mark}
use Rattle.dcc_c.specs.Lexing.{Placed}
use Rattle.dcc_c.specs.Grammar.{type_tokens, Begins, none, one}
use Rattle.dcc_c.specs.Reading.{got, begins_type, is_the_mark, with_star, take_type}
use Rattle.dcc_c.proofs.reading.Statements.{first_of, on}

-- the type was read, with exactly the rest left
pub record FindsType (tokens : List Placed) (type : CType) (rest : List Placed) (at depth : ℕ) : Type 0 where
  pub following : ℕ
  pub place : following + length rest ≡ at + length tokens
  pub is : take_type (on tokens at depth) ≡ got (Some type) (on rest following depth)
  pub begins : begins_type (first_of tokens) ≡ true

-- the star or none after a base
star-complete : (base : Base) (pointer : Bool) (tokens rest : List Placed) (at depth : ℕ) →
    Begins tokens (if pointer then Mark (codes "*") ∷ [] else []) rest → is_the_mark (codes "*") (first_of rest) ≡ false →
    (following : ℕ) × (following + length rest ≡ at + length tokens) × (with_star base (on tokens at depth) ≡ got (Some (record { base = base; pointer = pointer })) (on rest following depth))
star-complete base true _ rest at depth (one none) ends = (suc at, omega arith, refl)
star-complete base false _ rest at depth none ends = (at, refl, rw ends)

based-complete : (base : Base) (pointer : Bool) (tokens rest : List Placed) (at depth : ℕ) →
    Begins tokens (type_tokens (record { base = base; pointer = pointer })) rest → is_the_mark (codes "*") (first_of rest) ≡ false →
    FindsType tokens (record { base = base; pointer = pointer }) rest at depth
based-complete Schar pointer _ rest at depth (one (one {all} star)) ends =
    let found = star-complete Schar pointer all rest (suc (suc at)) depth star ends in
    record { following = found.0; place = omega (arith, found.1); is = found.2; begins = refl }
based-complete Uchar pointer _ rest at depth (one (one {all} star)) ends =
    let found = star-complete Uchar pointer all rest (suc (suc at)) depth star ends in
    record { following = found.0; place = omega (arith, found.1); is = found.2; begins = refl }
based-complete Int pointer _ rest at depth (one {all} star) ends =
    let found = star-complete Int pointer all rest (suc at) depth star ends in
    record { following = found.0; place = omega (arith, found.1); is = found.2; begins = refl }
based-complete Uint pointer _ rest at depth (one (one {all} star)) ends =
    let found = star-complete Uint pointer all rest (suc (suc at)) depth star ends in
    record { following = found.0; place = omega (arith, found.1); is = found.2; begins = refl }
based-complete Long pointer _ rest at depth (one {all} star) ends =
    let found = star-complete Long pointer all rest (suc at) depth star ends in
    record { following = found.0; place = omega (arith, found.1); is = found.2; begins = refl }
based-complete Ulong pointer _ rest at depth (one (one {all} star)) ends =
    let found = star-complete Ulong pointer all rest (suc (suc at)) depth star ends in
    record { following = found.0; place = omega (arith, found.1); is = found.2; begins = refl }

-- a type of the grammar is read, where no star follows
pub type-complete : (type : CType) (tokens rest : List Placed) (at depth : ℕ) → Begins tokens (type_tokens type) rest →
    is_the_mark (codes "*") (first_of rest) ≡ false → FindsType tokens type rest at depth
type-complete type tokens rest at depth derived ends = based-complete type.base type.pointer tokens rest at depth derived ends
