-- The names whose addresses a body takes, as a whole and part by part.
use Rattle.std.proofs.Common.{◌≡◌, suc, Bool, true, false, List, [], ◌∷◌, ◌++◌, Option, Some, None, refl, sym, ap, ◌∙◌, append_assoc}
use Rattle.std.specs.Prelude.{is_some, option_map, ◌||◌, if◌then◌else◌, ℕ}
use Rattle.std.specs.List.{list_any, flat_map}
use Rattle.std.proofs.lemmas.List.{append-nil}
use Rattle.dcc_c.specs.declared.syntax.CUn.TheVariants.{AddressOf}
use Rattle.dcc_c.specs.Token.{same_bytes}
use Rattle.dcc_c.specs.Tree.{Word, Expr, Number, Name, Unary, Binary, Conditional, Cast, Stmt, Assign, Call, If, While, DoWhile, Forever, Switch, Break, Continue, Goto, Label, Empty, Return, Lines, no_lines, line, Arms, no_arms, arm}
use Rattle.dcc_c.specs.Parts.{stmts_in, inner_stmts, arm_stmts, expr_if, exprs_of, parts_of}
use Rattle.dcc_c.specs.Placement.{is_address_of, takes_address}
use Rattle.dcc_c.proofs.refusals.ListRules.{bytes-symmetric}
use Rattle.dcc_value.specs.Places.{first_place}
use Rattle.dcc_prepare.specs.Taken.{address_word, expr_taken, exprs_taken, option_taken, lines_taken, stmt_taken, arms_taken}

-- The names of all statements, in their order.

own : List Stmt → List Word
own stmts = flat_map (λ stmt. exprs_taken (exprs_of stmt)) stmts

flat-append : {X Y : Type 0} (f : X → List Y) (xs ys : List X) → flat_map f (xs ++ ys) ≡ flat_map f xs ++ flat_map f ys
flat-append f [] ys = refl
flat-append f (x ∷ xs) ys = ap (λ l. f x ++ l) (flat-append f xs ys) ∙ sym (append_assoc (f x) (flat_map f xs) (flat_map f ys))

own-append : (xs ys : List Stmt) → own (xs ++ ys) ≡ own xs ++ own ys
unfolding own
own-append xs ys = flat-append (λ stmt. exprs_taken (exprs_of stmt)) xs ys

own-cons : (stmt : Stmt) (ys : List Stmt) → own (stmt ∷ ys) ≡ exprs_taken (exprs_of stmt) ++ own ys
unfolding own
own-cons stmt ys = refl

own-none : own [] ≡ []
unfolding own
own-none = refl

both : (a b c d : List Word) → a ≡ c → b ≡ d → a ++ b ≡ c ++ d
both a b c d x y = ap (λ z. z ++ b) x ∙ ap (λ z. c ++ z) y

option-own : (e : Option Expr) → exprs_taken (expr_if e) ≡ option_taken e
option-own None = refl
option-own (Some e) = append-nil (expr_taken e)

-- a statement with nothing inside it
alone : (names : List Word) → names ++ own [] ≡ names
alone names = ap (λ l. names ++ l) own-none ∙ append-nil names

mutual
  lines-own : (lines : Lines) → own (stmts_in lines) ≡ lines_taken lines
  lines-own no_lines = own-none
  lines-own (line stmt at lines) =
      own-cons stmt (inner_stmts stmt ++ stmts_in lines)
      ∙ ap (λ l. exprs_taken (exprs_of stmt) ++ l) (own-append (inner_stmts stmt) (stmts_in lines))
      ∙ sym (append_assoc (exprs_taken (exprs_of stmt)) (own (inner_stmts stmt)) (own (stmts_in lines)))
      ∙ both _ _ _ _ (stmt-own stmt) (lines-own lines)

  -- what a statement takes by itself and inside
  stmt-own : (stmt : Stmt) → exprs_taken (exprs_of stmt) ++ own (inner_stmts stmt) ≡ stmt_taken stmt
  stmt-own (Assign place e) = alone _ ∙ ap (λ l. expr_taken place ++ l) (append-nil (expr_taken e))
  stmt-own (Call place function arguments depth) =
      alone _ ∙ flat-append expr_taken (expr_if place) arguments ∙ ap (λ l. l ++ exprs_taken arguments) (option-own place)
  stmt-own (If e body otherwise) =
      both _ _ _ _ (append-nil (expr_taken e))
      (own-append (stmts_in body) (stmts_in otherwise) ∙ both _ _ _ _ (lines-own body) (lines-own otherwise))
  stmt-own (While e body) = both _ _ _ _ (append-nil (expr_taken e)) (lines-own body)
  stmt-own (DoWhile body e) = both _ _ _ _ (append-nil (expr_taken e)) (lines-own body)
  stmt-own (Forever body) = lines-own body
  stmt-own (Switch e arms last) =
      both _ _ _ _ (append-nil (expr_taken e))
      (own-append (arm_stmts arms) (arm_stmts last) ∙ both _ _ _ _ (arms-own arms) (arms-own last))
  stmt-own Break = own-none
  stmt-own Continue = own-none
  stmt-own (Goto name) = own-none
  stmt-own (Label name) = own-none
  stmt-own Empty = own-none
  stmt-own (Return None) = own-none
  stmt-own (Return (Some e)) = alone _ ∙ append-nil (expr_taken e)

  arms-own : (arms : Arms) → own (arm_stmts arms) ≡ arms_taken arms
  arms-own no_arms = own-none
  arms-own (arm cases body arms) =
      own-append (stmts_in body) (arm_stmts arms) ∙ both _ _ _ _ (lines-own body) (arms-own arms)

-- One name among them.

or-false : (a : Bool) → (a || false) ≡ a
or-false true = refl
or-false false = refl

or-assoc : (a b c : Bool) → ((a || b) || c) ≡ (a || (b || c))
or-assoc true b c = refl
or-assoc false b c = refl

any-append : {X : Type 0} (p : X → Bool) (xs ys : List X) → list_any p (xs ++ ys) ≡ (list_any p xs || list_any p ys)
any-append p [] ys = refl
any-append p (x ∷ xs) ys = ap (λ b. p x || b) (any-append p xs ys) ∙ sym (or-assoc (p x) (list_any p xs) (list_any p ys))

any-flat : {X Y : Type 0} (p : Y → Bool) (f : X → List Y) (xs : List X) → list_any p (flat_map f xs) ≡ list_any (λ x. list_any p (f x)) xs
any-flat p f [] = refl
any-flat p f (x ∷ xs) = any-append p (f x) (flat_map f xs) ∙ ap (λ b. list_any p (f x) || b) (any-flat p f xs)

any-same : {X : Type 0} (p q : X → Bool) → ((x : X) → p x ≡ q x) → (xs : List X) → list_any p xs ≡ list_any q xs
any-same p q same [] = refl
any-same p q same (x ∷ xs) = ap (λ b. b || list_any p xs) (same x) ∙ ap (λ b. q x || b) (any-same p q same xs)

either : (a b c d : Bool) → a ≡ c → b ≡ d → (a || b) ≡ (c || d)
either a b c d x y = ap (λ z. z || b) x ∙ ap (λ z. c || z) y

word-own : (word : Word) (e : Expr) → list_any (same_bytes word) (address_word e) ≡ is_address_of word e
word-own word (Unary AddressOf (Name other)) = or-false (same_bytes word other)
word-own word _ = refl

expr-own : (word : Word) (e : Expr) → list_any (same_bytes word) (expr_taken e) ≡ list_any (is_address_of word) (parts_of e)
expr-own word (Number n base) = refl
expr-own word (Name other) = refl
expr-own word (Unary operator a) =
    any-append (same_bytes word) (address_word (Unary operator a)) (expr_taken a)
    ∙ either _ _ _ _ (word-own word (Unary operator a)) (expr-own word a)
expr-own word (Binary operator a b) =
    any-append (same_bytes word) (expr_taken a) (expr_taken b)
    ∙ either _ _ _ _ (expr-own word a) (expr-own word b)
    ∙ sym (any-append (is_address_of word) (parts_of a) (parts_of b))
expr-own word (Conditional a b c) =
    any-append (same_bytes word) (expr_taken a) (expr_taken b ++ expr_taken c)
    ∙ either _ _ _ _ (expr-own word a)
    (any-append (same_bytes word) (expr_taken b) (expr_taken c)
    ∙ either _ _ _ _ (expr-own word b) (expr-own word c)
    ∙ sym (any-append (is_address_of word) (parts_of b) (parts_of c)))
    ∙ sym (any-append (is_address_of word) (parts_of a) (parts_of b ++ parts_of c))
expr-own word (Cast type a) = expr-own word a

stmt-any : (word : Word) (stmt : Stmt) →
    list_any (same_bytes word) (exprs_taken (exprs_of stmt)) ≡ list_any (is_address_of word) (flat_map parts_of (exprs_of stmt))
stmt-any word stmt =
    any-flat (same_bytes word) expr_taken (exprs_of stmt)
    ∙ any-same _ _ (expr-own word) (exprs_of stmt)
    ∙ sym (any-flat (is_address_of word) parts_of (exprs_of stmt))

some-or : (b : Bool) (o : Option ℕ) → is_some (if b then Some 0 else option_map suc o) ≡ (b || is_some o)
some-or true o = refl
some-or false None = refl
some-or false (Some k) = refl

-- a name that has a place is one of them
among : (words : List Word) (word : Word) → is_some (first_place words word) ≡ list_any (same_bytes word) words
among [] word = refl
among (w ∷ words) word =
    some-or (same_bytes w word) (first_place words word)
    ∙ either _ _ _ _ (bytes-symmetric w word) (among words word)

-- a name has a place among those just where its address is taken
pub taken_same : (body : Lines) (word : Word) → is_some (first_place (lines_taken body) word) ≡ takes_address body word
unfolding own
taken_same body word =
    among (lines_taken body) word
    ∙ ap (list_any (same_bytes word)) (sym (lines-own body))
    ∙ any-flat (same_bytes word) (λ stmt. exprs_taken (exprs_of stmt)) (stmts_in body)
    ∙ any-same _ _ (stmt-any word) (stmts_in body)
    ∙ sym (any-flat (is_address_of word) (λ stmt. flat_map parts_of (exprs_of stmt)) (stmts_in body))
