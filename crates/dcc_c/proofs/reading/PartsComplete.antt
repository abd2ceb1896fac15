-- Parts of statements that the grammar has are read: tests, places, arguments and values.
use Rattle.std.proofs.Common.{◌≡◌, ℕ, zero, suc, ◌≤◌, List, [], ◌∷◌, map, true, false, Option, Some, None, refl, sym, ap, ◌∙◌, arith, subst}
use Rattle.std.specs.Prelude.{codes, nat_le, is_some}
use Rattle.std.proofs.lemmas.Bool.{leb-true, and_parts, and_right, and_left}
use Rattle.dcc_c.specs.declared.syntax.CUn.{CUn}
use Rattle.dcc_c.specs.declared.syntax.CUn.TheVariants.{Minus, Deref}
use Rattle.dcc_c.specs.declared.syntax.CBin.{CBin}
use Rattle.dcc_c.specs.declared.syntax.CBin.TheVariants.{OrOr}
use Rattle.dcc_c.specs.Token.{Token, WordToken, Mark, same_bytes}
use Rattle.dcc_c.specs.Lexing.{Placed}
use Rattle.dcc_c.specs.Tree.{Word, Expr, Unary}
use Rattle.dcc_c.specs.Grammar.{mark, word, is_name, unary_mark, binary_mark, decimal, hex, IsExpr, number, name, parentheses, unary, cast, binary, conditional, stronger, IsPlace, name_place, deref_place, AreArguments, no_argument, last_argument, more_arguments as more_of}
use Rattle.dcc_c.specs.Rules.{expr_depth, most_open}
use Rattle.dcc_c.specs.Partial.{PartialExpr, NameHere, UnaryHere}
use Rattle.dcc_c.specs.Reading.{Reader, Got, got, is_the_mark, name_if, name_of, sees_mark, take_mark, take_name, Inside, in_operator}
use Rattle.dcc_c.specs.ReadingStatements.{whole, read_value, read_enclosed, read_test, more_arguments, read_arguments, read_place, begins_call}
use Rattle.dcc_c.specs.Stripped.{plain_expr}
use Rattle.dcc_c.proofs.reading.Statements.{IsEnoughFor, on, first_of, EndsExpr, FindsExpr}
use Rattle.dcc_c.proofs.reading.Stopping.{choice-some, if-true, if-false}
use Rattle.dcc_c.proofs.reading.StmtParts.{are_shallow}
use Rattle.dcc_c.proofs.reading.Derivations.{shorter, opening_after, flat_after, expr-enclosed}
use Rattle.dcc_c.proofs.reading.ExprFinds.{complete_expr, complete_unary}

-- First tokens of an expression.

-- none begins with such a mark
pub expr_no_mark : {least : ℕ} {tokens rest : List Placed} {e : Expr} (bytes : Word) → same_bytes (codes "(") bytes ≡ false →
    ((operator : CUn) → same_bytes (unary_mark operator) bytes ≡ false) → IsExpr least tokens e rest → is_the_mark bytes (first_of tokens) ≡ false
expr_no_mark bytes begun operators (number (decimal n suffix)) = refl
expr_no_mark bytes begun operators (number (hex n suffix)) = refl
expr_no_mark bytes begun operators (name other is) = refl
expr_no_mark bytes begun operators (parentheses inner) = begun
expr_no_mark bytes begun operators (unary operator a) = operators operator
expr_no_mark bytes begun operators (cast type words a) = begun
expr_no_mark bytes begun operators (binary operator a b) = expr_no_mark bytes begun operators a
expr_no_mark bytes begun operators (conditional a b c) = expr_no_mark bytes begun operators a
expr_no_mark bytes begun operators (stronger a) = expr_no_mark bytes begun operators a

pub no_closing : (operator : CUn) → same_bytes (unary_mark operator) (codes ")") ≡ false
no_closing Minus = refl
no_closing _ = refl

pub no_semicolon : (operator : CUn) → same_bytes (unary_mark operator) (codes ";") ≡ false
no_semicolon Minus = refl
no_semicolon _ = refl

-- the second of some tokens
abbrev second_of : List Placed → Option Token
second_of [] = None
second_of (p ∷ tokens) = first_of tokens

-- a name at the beginning of an expression is the whole of it where a parenthesis follows the name
name_alone : {least : ℕ} {tokens rest : List Placed} {e : Expr} → IsExpr least tokens e rest → is_the_mark (codes "(") (first_of rest) ≡ false →
    (bytes : Word) → first_of tokens ≡ Some (WordToken bytes) → is_the_mark (codes "(") (second_of tokens) ≡ false
name_alone (number (decimal n suffix)) ends bytes is = absurd cc
name_alone (number (hex n suffix)) ends bytes is = absurd cc
name_alone (name other good) ends bytes is = ends
name_alone (parentheses inner) ends bytes is = absurd cc
name_alone (unary operator a) ends bytes is = absurd cc
name_alone (cast type words a) ends bytes is = absurd cc
name_alone (binary {at} {others} operator a b) ends bytes is = name_alone a (no_open operator) bytes is
  where
    no_open : (o : CBin) → is_the_mark (codes "(") (first_of (mark at (binary_mark o) ∷ others)) ≡ false
    no_open OrOr = refl
    no_open _ = refl
name_alone (conditional a b c) ends bytes is = name_alone a refl bytes is
name_alone (stronger a) ends bytes is = name_alone a ends bytes is

-- no expression begins as a call does
pub expr_no_call : {least : ℕ} {tokens rest : List Placed} {e : Expr} → IsExpr least tokens e rest → is_the_mark (codes "(") (first_of rest) ≡ false →
    (at depth : ℕ) → begins_call (on tokens at depth) ≡ false
expr_no_call {tokens} derived ends at depth = by tokens (λ bytes is. name_alone derived ends bytes is)
  where
    word_of : (token : Option Token) → (bytes : Word) → name_of token ≡ Some bytes → (w : Word) × (token ≡ Some (WordToken w))
    word_of (Some (WordToken w)) bytes is = (w, refl)
    word_of _ bytes is = absurd cc

    by : (all : List Placed) → ((bytes : Word) → first_of all ≡ Some (WordToken bytes) → is_the_mark (codes "(") (second_of all) ≡ false) → begins_call (on all at depth) ≡ false
    by [] only = refl
    by (p ∷ all) only = named (name_of (Some p.token)) refl
      where
        named : (o : Option Word) → name_of (Some p.token) ≡ o → begins_call (on (p ∷ all) at depth) ≡ false
        named (Some w) is = let found = word_of (Some p.token) w is in and_right _ _ (only found.0 found.1)
        named None is = and_left _ _ (ap is_some is)

-- A test.

pub record FindsTest (tokens : List Placed) (e : Expr) (rest : List Placed) (depth : ℕ) (g : Got PartialExpr) : Type 0 where
  pub partial : PartialExpr
  pub following : ℕ
  pub same : plain_expr partial ≡ e
  pub is : g ≡ got partial (on rest following depth)

pub test-complete : {opening closing : ℕ} {tokens rest : List Placed} {e : Expr} → IsExpr 0 tokens e (mark closing (codes ")") ∷ rest) →
    (calls at depth : ℕ) → IsEnoughFor calls 0 (mark opening (codes "(") ∷ tokens) → most_open 0 (mark opening (codes "(") ∷ tokens) ≤ 200 → expr_depth e ≤ 200 →
    FindsTest (mark opening (codes "(") ∷ tokens) e rest depth (read_test calls (on (mark opening (codes "(") ∷ tokens) at depth))
test-complete {opening} {closing} {tokens} {rest} {e} derived calls at depth enough few deep =
    let inside : Inside = whole 1 (on tokens (suc at) depth) in
    let found = complete_expr tokens (mark closing (codes ")") ∷ rest) e derived (record { no_operator = refl; no_question = refl }) calls inside (suc at) depth (omega arith) (record { shallow = omega arith; enclosed = opening_after 0 opening tokens few }) in
    record {
      partial = found.partial;
      following = suc found.following;
      same = found.same;
      is = ap (λ g. got g.value (take_mark (codes ")") g.following)) found.is;
    }

-- A place.

pub take_name-is : (at place depth : ℕ) (bytes : Word) (rest : List Placed) → is_name bytes ≡ true →
    take_name (on (word at bytes ∷ rest) place depth) ≡ got (Some (record { word = bytes; at = place })) (on rest (suc place) depth)
take_name-is at place depth bytes rest good = choice-some (name_if bytes) bytes _ _ (if-true (is_name bytes) _ _ good)

pub place-complete : {tokens rest : List Placed} {e : Expr} → IsPlace tokens e rest →
    (calls at depth : ℕ) → IsEnoughFor calls 0 tokens → most_open 0 tokens ≤ 200 → expr_depth e ≤ 200 → FindsTest tokens e rest depth (read_place calls (on tokens at depth))
place-complete (name_place {at = line} {rest} bytes good) calls at depth enough few deep =
    record {
      partial = NameHere at bytes (sees_mark (codes "(") (on rest (suc at) depth));
      following = suc at;
      same = refl;
      is = choice-some (name_if bytes) bytes _ _ (if-true (is_name bytes) _ _ good);
    }
place-complete (deref_place {at = line} {tokens} {rest} {e} a) calls at depth enough few deep =
    let inside : Inside = in_operator (whole 0 (on (mark line (codes "*") ∷ tokens) at depth)) in
    let found = complete_unary tokens rest e a calls inside (suc at) depth (omega arith) (record { shallow = omega arith; enclosed = flat_after (Mark (codes "*")) 0 line tokens refl few }) in
    record {
      partial = UnaryHere at Deref found.partial;
      following = found.following;
      same = ap (Unary Deref) found.same;
      is = ap (λ g. got (UnaryHere at Deref g.value) g.following) found.is;
    }

-- Arguments.

pub record FindsArguments (es : List Expr) (rest : List Placed) (depth : ℕ) (g : Got (List PartialExpr)) : Type 0 where
  pub partials : List PartialExpr
  pub following : ℕ
  pub same : map plain_expr partials ≡ es
  pub is : g ≡ got partials (on rest following depth)

-- an argument and those after it
abbrev some_arguments : ℕ → Reader → Got (List PartialExpr)
some_arguments calls r =
    let first = read_enclosed calls r in
    let others = more_arguments calls first.following in
    got (first.value ∷ others.value) others.following

-- what is read of them, after the first one
abbrev following_first : ℕ → Got PartialExpr → Got (List PartialExpr)
following_first calls first = got (first.value ∷ (more_arguments calls first.following).value) (more_arguments calls first.following).following

no_more_arguments : (calls : ℕ) (closing : ℕ) (rest : List Placed) (at depth : ℕ) →
    more_arguments calls (on (mark closing (codes ")") ∷ rest) at depth) ≡ got [] (on (mark closing (codes ")") ∷ rest) at depth)
no_more_arguments zero closing rest at depth = refl
no_more_arguments (suc calls) closing rest at depth = refl

first_argument : {tokens rest : List Placed} {e : Expr} → IsExpr 0 tokens e rest → EndsExpr rest → (calls at depth : ℕ) → IsEnoughFor calls 3 tokens →
    most_open 1 tokens ≤ 200 → expr_depth e ≤ 200 → FindsExpr tokens e rest at depth (read_enclosed calls (on tokens at depth))
first_argument {tokens} {rest} {e} derived ends calls at depth enough few deep =
    complete_expr tokens rest e derived ends calls (whole 1 (on tokens at depth)) at depth enough (record { shallow = omega arith; enclosed = few })

deep_parts : (e : Expr) (es : List Expr) → are_shallow (e ∷ es) ≡ true → (expr_depth e ≤ 200) × (are_shallow es ≡ true)
deep_parts e es deep = let parts = and_parts (nat_le (expr_depth e) 200) (are_shallow es) deep in (leb-true (expr_depth e) 200 parts.0, parts.1)

some-complete : {closing : ℕ} {tokens rest following : List Placed} {e : Expr} {es : List Expr} → AreArguments tokens (e ∷ es) following → following ≡ mark closing (codes ")") ∷ rest →
    (calls at depth : ℕ) → IsEnoughFor calls 3 tokens → most_open 1 tokens ≤ 200 → are_shallow (e ∷ es) ≡ true →
    FindsArguments (e ∷ es) following depth (some_arguments calls (on tokens at depth))
some-complete {closing} {rest} {following} {e} (last_argument {tokens} derived) same calls at depth enough few deep =
    let derived_here : IsExpr 0 tokens e (mark closing (codes ")") ∷ rest) = subst (λ ts. IsExpr 0 tokens e ts) same derived in
    let found = first_argument derived_here (record { no_operator = refl; no_question = refl }) calls at depth enough few (deep_parts e [] deep).0 in
    record {
      partials = found.partial ∷ [];
      following = found.following;
      same = ap (λ x. x ∷ []) found.same;
      is = ap (following_first calls) found.is ∙ (ap (λ (g : Got (List PartialExpr)). got (found.partial ∷ g.value) g.following) (no_more_arguments calls closing rest found.following depth) ∙ ap (λ (ts : List Placed). got (found.partial ∷ []) (on ts found.following depth)) (sym same));
    }
some-complete {closing} {rest} {following} {e} (more_of {at = comma} {others} {f} {es} derived more) same zero at depth enough few deep = absurd (omega arith)
some-complete {closing} {rest} {following} {e} (more_of {at = comma} {others} {f} {es} derived more) same (suc calls) at depth enough few deep =
    let parts = deep_parts e (f ∷ es) deep in
    let found = first_argument derived (record { no_operator = refl; no_question = refl }) (suc calls) at depth enough few parts.0 in
    let within = flat_after (Mark (codes ",")) 1 comma others refl (expr-enclosed derived 1 few) in
    let tail = some-complete more same calls (suc found.following) depth (omega (arith, shorter derived)) within parts.1 in
    record {
      partials = found.partial ∷ tail.partials;
      following = tail.following;
      same = ap (λ x. x ∷ map plain_expr tail.partials) found.same ∙ ap (λ xs. e ∷ xs) tail.same;
      is = ap (following_first (suc calls)) found.is ∙ ap (λ (g : Got (List PartialExpr)). got (found.partial ∷ g.value) g.following) tail.is;
    }

pub arguments-complete : {closing : ℕ} {tokens rest : List Placed} {es : List Expr} → AreArguments tokens es (mark closing (codes ")") ∷ rest) →
    (calls at depth : ℕ) → IsEnoughFor calls 3 tokens → most_open 1 tokens ≤ 200 → are_shallow es ≡ true →
    FindsArguments es (mark closing (codes ")") ∷ rest) depth (read_arguments calls (on tokens at depth))
arguments-complete {closing} {rest} derived = by derived refl
  where
    by : {tokens following : List Placed} {es : List Expr} → AreArguments tokens es following → following ≡ mark closing (codes ")") ∷ rest →
        (calls at depth : ℕ) → IsEnoughFor calls 3 tokens → most_open 1 tokens ≤ 200 → are_shallow es ≡ true → FindsArguments es following depth (read_arguments calls (on tokens at depth))
    by (no_argument {rest = ts}) same calls at depth enough few deep =
        record { partials = []; following = at; same = refl; is = if-true (sees_mark (codes ")") (on ts at depth)) _ _ (ap (λ x. is_the_mark (codes ")") (first_of x)) same) }
    by (last_argument {tokens} {e} e_is) same calls at depth enough few deep =
        let found = some-complete (last_argument e_is) same calls at depth enough few deep in
        record { partials = found.partials; following = found.following; same = found.same; is = if-false (sees_mark (codes ")") (on tokens at depth)) _ _ (expr_no_mark (codes ")") refl no_closing e_is) ∙ found.is }
    by (more_of {tokens} e_is more) same calls at depth enough few deep =
        let found = some-complete (more_of e_is more) same calls at depth enough few deep in
        record { partials = found.partials; following = found.following; same = found.same; is = if-false (sees_mark (codes ")") (on tokens at depth)) _ _ (expr_no_mark (codes ")") refl no_closing e_is) ∙ found.is }

-- a value, before a semicolon
pub value-complete : {end : ℕ} {tokens rest : List Placed} {e : Expr} → IsExpr 0 tokens e (mark end (codes ";") ∷ rest) → (calls at depth : ℕ) → IsEnoughFor calls 3 tokens →
    most_open 0 tokens ≤ 200 → expr_depth e ≤ 200 → FindsTest tokens e (mark end (codes ";") ∷ rest) depth (read_value calls (on tokens at depth))
value-complete {end} {tokens} {rest} {e} derived calls at depth enough few deep =
    let found = complete_expr tokens (mark end (codes ";") ∷ rest) e derived (record { no_operator = refl; no_question = refl }) calls (whole 0 (on tokens at depth)) at depth enough (record { shallow = omega arith; enclosed = few }) in
    record { partial = found.partial; following = found.following; same = found.same; is = found.is }
