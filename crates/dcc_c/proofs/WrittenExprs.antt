-- The written form of an expression is read as its tokens.
use Rattle.std.proofs.Common.{◌≡◌, ℕ, Bool, true, false, ◌&&◌, List, [], ◌∷◌, ◌++◌, map, refl, ap, sym, subst}
use Rattle.std.specs.Prelude.{codes, nat_le, length}
use Rattle.std.specs.List.{list_all}
use Rattle.std.specs.Fmt.{decimal}
use Rattle.std.proofs.lemmas.Bool.{and_parts, or_left, or_right, leb-true}
use Rattle.std.proofs.lemmas.List.{append-nil}
use Rattle.dcc_c.specs.declared.syntax.Base.{Base}
use Rattle.dcc_c.specs.declared.syntax.Base.TheVariants.{Schar, Uchar, Int, Uint, Long, Ulong}
use Rattle.dcc_c.specs.declared.syntax.CType.{CType}
use Rattle.dcc_c.specs.declared.syntax.CUn.{CUn}
use Rattle.dcc_c.specs.declared.syntax.CUn.TheVariants.{Minus, Complement, Not, Deref, AddressOf}
use Rattle.dcc_c.specs.Token.{WordToken, Decimal, Mark, is_word, is_word_byte, is_letter, is_mark, ends_before, plain_number}
use Rattle.dcc_c.specs.Lexing.{Placed, placed}
use Rattle.dcc_c.specs.Tree.{Word, Expr, Number, Name, Unary, Binary, Conditional, Cast}
use Rattle.dcc_c.specs.Grammar.{word, mark, is_name, type_tokens, base_words, unary_mark, binary_mark}
use Rattle.dcc_c.specs.Written.{suffix_for, written_number, written_base, written_cast, written_variable, written_expr, written_arguments, in_parentheses, is_compound, begins_with_minus, after_unary}
use Rattle.dcc_c.proofs.WrittenLaws.{is_word-name, is_free, word_ends, number_ends, operator_ends, operator_is}
use Rattle.dcc_c.proofs.Writable.{is_small, may_take, is_writable_expr}
use Rattle.dcc_c.proofs.WrittenTokens.{bracketed, is_bracketed, expr_tokens, arguments_tokens, variable_tokens}
use Rattle.dcc_c.proofs.WrittenRows.{other_byte, begins_with_digit, decimal_begins}
use Rattle.dcc_c.proofs.WrittenReads.{Ending, Inside, Fits, Reads, nothing, space_then, token_then, reads_then}

-- a mark that no byte makes longer ends before any bytes
lone_ends : (bytes : Word) → ((b : ℕ) → is_mark (bytes ++ b ∷ []) ≡ false) → (rest : List ℕ) → ends_before (Mark bytes) rest ≡ true
lone_ends bytes lone [] = refl
lone_ends bytes lone (b ∷ rest) = rw (lone b) refl

-- a word before a part with which it does not go on
pub word_then : {fresh : Bool} {at : ℕ} {ending : Ending} {b : List ℕ} {g : List Placed → List Placed} (name : Word) →
    is_word name ≡ true → ((rest : List ℕ) → Fits ending rest → is_free (b ++ rest) ≡ true) →
    Reads false at ending b g → Reads fresh at ending (name ++ b) (λ others. word at name ∷ g others)
word_then {b} name is free r =
    token_then (WordToken name) is (λ rest fits. word_ends name (b ++ rest) (free rest fits)) r

-- a mark before a part
pub mark_then : {fresh : Bool} {at : ℕ} {ending : Ending} {b : List ℕ} {g : List Placed → List Placed} (bytes : Word) →
    is_mark bytes ≡ true → ((rest : List ℕ) → Fits ending rest → ends_before (Mark bytes) (b ++ rest) ≡ true) →
    Reads false at ending b g → Reads fresh at ending (bytes ++ b) (λ others. mark at bytes ∷ g others)
mark_then bytes is apart r = token_then (Mark bytes) is apart r

-- a mark that no byte makes longer before a part
pub lone_then : {fresh : Bool} {at : ℕ} {ending : Ending} {b : List ℕ} {g : List Placed → List Placed} (bytes : Word) →
    is_mark bytes ≡ true → ((c : ℕ) → is_mark (bytes ++ c ∷ []) ≡ false) →
    Reads false at ending b g → Reads fresh at ending (bytes ++ b) (λ others. mark at bytes ∷ g others)
lone_then {b} bytes is lone r = mark_then bytes is (λ rest fits. lone_ends bytes lone (b ++ rest)) r

-- an opening parenthesis before a part
pub opening_then : {fresh : Bool} {at : ℕ} {ending : Ending} {b : List ℕ} {g : List Placed → List Placed} →
    Reads false at ending b g → Reads fresh at ending (40 ∷ b) (λ others. mark at (codes "(") ∷ g others)
opening_then r = lone_then (codes "(") refl (λ c. refl) r

-- a closing parenthesis before a part
pub closing_then : {fresh : Bool} {at : ℕ} {ending : Ending} {b : List ℕ} {g : List Placed → List Placed} →
    Reads false at ending b g → Reads fresh at ending (41 ∷ b) (λ others. mark at (codes ")") ∷ g others)
closing_then r = lone_then (codes ")") refl (λ c. refl) r

-- a number before a part with which it does not go on
pub number_then : {fresh : Bool} {at : ℕ} {ending : Ending} {b : List ℕ} {g : List Placed → List Placed} (n : ℕ) →
    is_small n ≡ true → ((rest : List ℕ) → Fits ending rest → is_free (b ++ rest) ≡ true) →
    Reads false at ending b g →
    Reads fresh at ending (decimal n ++ b) (λ others. placed at (Decimal n plain_number) ∷ g others)
number_then {fresh} {at} {ending} {b} {g} n small free r =
    subst (λ bytes. Reads fresh at ending bytes (λ others. placed at (Decimal n plain_number) ∷ g others)) (ap (λ digits. digits ++ b) (append-nil (decimal n))) (token_then (Decimal n plain_number) small (λ rest fits. number_ends n plain_number (b ++ rest) (free rest fits)) r)

-- a part in parentheses where it is to be
bracketed_reads : {at : ℕ} (is : Bool) {bytes : List ℕ} {tokens : List Placed → List Placed} →
    ((fresh : Bool) → Reads fresh at Inside bytes tokens) → (fresh : Bool) →
    Reads fresh at Inside (in_parentheses is bytes) (bracketed at is tokens)
bracketed_reads true r fresh = opening_then (reads_then (r false) (λ rest fits. refl) (closing_then nothing))
bracketed_reads false r fresh = r fresh

-- Operators.

unary_is : (operator : CUn) → is_mark (unary_mark operator) ≡ true
unary_is Minus = refl
unary_is _ = refl

-- a unary operator ends before a byte of a word
unary_before : (operator : CUn) (b : ℕ) (bytes : List ℕ) → is_word_byte b ≡ true → ends_before (Mark (unary_mark operator)) (b ∷ bytes) ≡ true
unary_before Minus b bytes is = refl
unary_before Complement b bytes is = refl
unary_before Not b bytes is = rw (other_byte 61 b refl is) refl
unary_before Deref b bytes is = refl
unary_before AddressOf b bytes is = rw (other_byte 38 b refl is) refl

-- the bytes begin with a byte of a word
abbrev begins_with_word : List ℕ → Bool
begins_with_word [] = false
begins_with_word (b ∷ bytes) = is_word_byte b

word_begins : (word : Word) → is_word word ≡ true → begins_with_word word ≡ true
word_begins [] is = absurd cc
word_begins (b ∷ bytes) is = or_left _ _ (and_parts (is_letter b) (list_all is_word_byte bytes && nat_le (length bytes) 30) is).0

digit_begins : (bytes others : List ℕ) → begins_with_digit bytes ≡ true → begins_with_word (bytes ++ others) ≡ true
digit_begins [] others is = absurd cc
digit_begins (b ∷ bytes) others is = or_right _ _ is

number_begins : (n : ℕ) (base : Base) → is_small n ≡ true → begins_with_word (written_number n base) ≡ true
number_begins n base small = digit_begins (decimal n) _ (decimal_begins n (leb-true n 4294967295 small))

unary_before_word : (operator : CUn) (bytes rest : List ℕ) → begins_with_word bytes ≡ true → ends_before (Mark (unary_mark operator)) (bytes ++ rest) ≡ true
unary_before_word operator [] rest is = absurd cc
unary_before_word operator (b ∷ bytes) rest is = unary_before operator b (bytes ++ rest) is

no_minus : (bytes : List ℕ) → begins_with_word bytes ≡ true → begins_with_minus bytes ≡ false
no_minus [] is = refl
no_minus (b ∷ bytes) is = other_byte 45 b refl is

-- the operand of a unary operator as it is written
abbrev operand : CUn → Expr → Word
operand operator a = in_parentheses (is_bracketed operator a) (written_expr a)

-- a unary operator ends before its operand
unary_ends : (operator : CUn) (a : Expr) → may_take operator a ≡ true → is_writable_expr a ≡ true → (rest : List ℕ) → ends_before (Mark (unary_mark operator)) (operand operator a ++ rest) ≡ true
unary_ends Minus a takes good rest = lone_ends (codes "-") (λ c. refl) (operand Minus a ++ rest)
unary_ends Complement a takes good rest = lone_ends (codes "~") (λ c. refl) (operand Complement a ++ rest)
unary_ends Deref a takes good rest = lone_ends (codes "*") (λ c. refl) (operand Deref a ++ rest)
unary_ends Not (Number n base) takes good rest = unary_before_word Not (written_number n base) rest (number_begins n base (and_parts (is_small n) _ good).0)
unary_ends Not (Name name) takes good rest = unary_before_word Not name rest (word_begins name (is_word-name name good))
unary_ends Not (Unary Minus a) takes good rest = refl
unary_ends Not (Unary Complement a) takes good rest = refl
unary_ends Not (Unary Not a) takes good rest = refl
unary_ends Not (Unary Deref a) takes good rest = refl
unary_ends Not (Unary AddressOf a) takes good rest = refl
unary_ends Not (Binary operator a b) takes good rest = refl
unary_ends Not (Conditional a b c) takes good rest = refl
unary_ends Not (Cast type a) takes good rest = refl
unary_ends AddressOf (Name name) takes good rest = unary_before_word AddressOf name rest (word_begins name (is_word-name name good))
unary_ends AddressOf _ takes good rest = absurd cc

-- the operand of a unary operator stands in parentheses where its tokens do
operand_is : (operator : CUn) (a : Expr) → is_writable_expr a ≡ true → after_unary operator (in_parentheses (is_compound a) (written_expr a)) ≡ operand operator a
operand_is Minus (Number n base) good =
    rw (no_minus (written_number n base) (number_begins n base (and_parts (is_small n) _ good).0)) refl
operand_is Minus (Name name) good = rw (no_minus name (word_begins name (is_word-name name good))) refl
operand_is Minus (Unary Minus a) good = refl
operand_is Minus (Unary Complement a) good = refl
operand_is Minus (Unary Not a) good = refl
operand_is Minus (Unary Deref a) good = refl
operand_is Minus (Unary AddressOf a) good = refl
operand_is Minus (Binary operator a b) good = refl
operand_is Minus (Conditional a b c) good = refl
operand_is Minus (Cast type a) good = refl
operand_is Complement a good = refl
operand_is Not a good = refl
operand_is Deref a good = refl
operand_is AddressOf a good = refl

-- Types.

pub word_reads : {fresh : Bool} {at : ℕ} (name : Word) → is_word name ≡ true → Reads fresh at Inside name (λ others. word at name ∷ others)
word_reads {fresh} {at} name is =
    subst (λ bytes. Reads fresh at Inside bytes (λ others. word at name ∷ others)) (append-nil name) (word_then name is (λ rest fits. fits) nothing)

star_then : {at : ℕ} {ending : Ending} {b : List ℕ} {g : List Placed → List Placed} →
    Reads false at ending b g → Reads false at ending (42 ∷ b) (λ others. mark at (codes "*") ∷ g others)
star_then r = lone_then (codes "*") refl (λ c. refl) r

-- the words of a number type before a part
base_then : {fresh : Bool} {at : ℕ} {ending : Ending} {b : List ℕ} {g : List Placed → List Placed} (base : Base) →
    ((rest : List ℕ) → Fits ending rest → is_free (b ++ rest) ≡ true) → Reads false at ending b g →
    Reads fresh at ending (written_base base ++ b) (λ others. map (placed at) (map WordToken (base_words base)) ++ g others)
base_then Schar free r = word_then (codes "signed") refl (λ rest fits. refl) (space_then (word_then (codes "char") refl free r))
base_then Uchar free r =
    word_then (codes "unsigned") refl (λ rest fits. refl) (space_then (word_then (codes "char") refl free r))
base_then Int free r = word_then (codes "int") refl free r
base_then Uint free r = word_then (codes "unsigned") refl (λ rest fits. refl) (space_then (word_then (codes "int") refl free r))
base_then Long free r = word_then (codes "long") refl free r
base_then Ulong free r =
    word_then (codes "unsigned") refl (λ rest fits. refl) (space_then (word_then (codes "long") refl free r))

-- a type in a cast before a closing parenthesis
cast_then : {fresh : Bool} {at : ℕ} {ending : Ending} {b : List ℕ} {g : List Placed → List Placed} (base : Base) (pointer : Bool) →
    Reads false at ending b g →
    let type : CType = record { base = base; pointer = pointer } in
    Reads fresh at ending (written_cast type ++ 41 ∷ b) (λ others. map (placed at) (type_tokens type) ++ mark at (codes ")") ∷ g others)
cast_then Schar true r = base_then Schar (λ rest fits. refl) (space_then (star_then (closing_then r)))
cast_then base true r = base_then base (λ rest fits. refl) (space_then (star_then (closing_then r)))
cast_then Schar false r = base_then Schar (λ rest fits. refl) (closing_then r)
cast_then base false r = base_then base (λ rest fits. refl) (closing_then r)

variable_is : {fresh : Bool} {at : ℕ} (base : Base) (pointer : Bool) (name : Word) → is_word name ≡ true →
    let type : CType = record { base = base; pointer = pointer } in
    Reads fresh at Inside (written_variable type name) (variable_tokens at type name)
variable_is Schar true name is = base_then Schar (λ rest fits. refl) (space_then (star_then (word_reads name is)))
variable_is base true name is = base_then base (λ rest fits. refl) (space_then (star_then (word_reads name is)))
variable_is Schar false name is = base_then Schar (λ rest fits. refl) (space_then (word_reads name is))
variable_is base false name is = base_then base (λ rest fits. refl) (space_then (word_reads name is))

-- a type and the name that has it are read
pub variable_reads : {fresh : Bool} {at : ℕ} (type : CType) (name : Word) → is_name name ≡ true →
    Reads fresh at Inside (written_variable type name) (variable_tokens at type name)
variable_reads type name is = variable_is type.base type.pointer name (is_word-name name is)

-- Expressions.

number_reads : {fresh : Bool} {at : ℕ} (n : ℕ) (base : Base) → is_small n ≡ true →
    Reads fresh at Inside (written_number n base) (λ others. placed at (Decimal n (suffix_for n base)) ∷ others)
number_reads {fresh} {at} n base small =
    subst (λ bytes. Reads fresh at Inside bytes (λ others. placed at (Decimal n (suffix_for n base)) ∷ others)) (append-nil (written_number n base)) (token_then (Decimal n (suffix_for n base)) small (λ rest fits. number_ends n (suffix_for n base) rest fits) nothing)

-- an expression is read as its tokens
pub expr_reads : (e : Expr) → is_writable_expr e ≡ true → (at : ℕ) (fresh : Bool) →
    Reads fresh at Inside (written_expr e) (expr_tokens at e)
expr_reads (Number n base) good at fresh = number_reads n base (and_parts (is_small n) _ good).0
expr_reads (Name name) good at fresh = word_reads name (is_word-name name good)
expr_reads (Unary operator a) good at fresh =
    let (takes, inner) = and_parts (may_take operator a) (is_writable_expr a) good in
    let inside = bracketed_reads (is_bracketed operator a) (expr_reads a inner at) false in
    subst (λ bytes. Reads fresh at Inside (unary_mark operator ++ bytes) (expr_tokens at (Unary operator a))) (sym (operand_is operator a inner)) (mark_then (unary_mark operator) (unary_is operator) (λ rest fits. unary_ends operator a takes inner rest) inside)
expr_reads (Binary operator a b) good at fresh =
    let (left, right) = and_parts (is_writable_expr a) (is_writable_expr b) good in
    let second = bracketed_reads (is_compound b) (expr_reads b right at) false in
    reads_then (bracketed_reads (is_compound a) (expr_reads a left at) fresh) (λ rest fits. refl) (space_then (mark_then (binary_mark operator) (operator_is operator) (λ rest fits. operator_ends operator (in_parentheses (is_compound b) (written_expr b) ++ rest)) (space_then second)))
expr_reads (Conditional a b c) good at fresh =
    let (first, others) = and_parts (is_writable_expr a) (is_writable_expr b && is_writable_expr c) good in
    let (second, third) = and_parts (is_writable_expr b) (is_writable_expr c) others in
    let last = bracketed_reads (is_compound c) (expr_reads c third at) false in
    let middle = bracketed_reads (is_compound b) (expr_reads b second at) false in
    reads_then (bracketed_reads (is_compound a) (expr_reads a first at) fresh) (λ rest fits. refl) (space_then (mark_then (codes "?") refl (λ rest fits. refl) (space_then (reads_then middle (λ rest fits. refl) (space_then (mark_then (codes ":") refl (λ rest fits. refl) (space_then last)))))))
expr_reads (Cast type a) good at fresh =
    opening_then (cast_then type.base type.pointer (bracketed_reads (is_compound a) (expr_reads a good at) false))

-- the arguments of a call are read as their tokens
pub arguments_read : (es : List Expr) → list_all is_writable_expr es ≡ true → (at : ℕ) →
    Reads false at Inside (written_arguments es) (arguments_tokens at es)
arguments_read [] good at = nothing
arguments_read (e ∷ []) good at = expr_reads e (and_parts (is_writable_expr e) _ good).0 at false
arguments_read (e ∷ f ∷ es) good at =
    let (first, others) = and_parts (is_writable_expr e) (list_all is_writable_expr (f ∷ es)) good in
    reads_then (expr_reads e first at false) (λ rest fits. refl) (mark_then (codes ",") refl (λ rest fits. refl) (space_then (arguments_read (f ∷ es) others at)))
