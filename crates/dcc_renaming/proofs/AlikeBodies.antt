-- Where the variables of a function with other names stand, and what they are bound to.
use Rattle.std.proofs.Common.{◌≡◌, ℕ, ◌+◌, ◌*◌, ◌%◌, Bool, true, false, List, [], ◌∷◌, ◌++◌, map, Option, Some, None, refl, sym, ap, ap₂, ◌∙◌}
use Rattle.std.specs.Prelude.{if◌then◌else◌, option_map, ◌||◌}
use Rattle.std.specs.List.{flat_map, list_any}
use Rattle.std.proofs.lemmas.List.{map-append}
use Rattle.dcc_c.specs.declared.syntax.CUn.TheVariants.{AddressOf}
use Rattle.dcc_c.specs.Token.{same_bytes}
use Rattle.dcc_c.specs.Tree.{Word, Expr, Number, Name, Unary, Binary, Conditional, Cast, Stmt, Assign, Call, If, While, DoWhile, Forever, Switch, Break, Continue, Goto, Label, Empty, Return, Lines, no_lines, line, Arms, no_arms, arm, Variable}
use Rattle.dcc_c.specs.Parts.{stmts_in, inner_stmts, arm_stmts, expr_if, exprs_of, parts_of, exprs_in}
use Rattle.dcc_c.specs.Placement.{is_auto, is_register, is_address_of, takes_address, below, bytes_of, param_places, local_places}
use Rattle.dcc_c.specs.Value.{Value}
use Rattle.dcc_c.specs.Run.{param_bindings, local_bindings, variable_binding, first_binding}
use Rattle.dcc_renaming.specs.Renamed.{renamed_expr, renamed_stmt, renamed_lines, renamed_arms, renamed_variable}
use Rattle.dcc_renaming.proofs.AlikeValues.{renamed_binding}

-- what is made of each item's items
pub each-made : {X Y A B : Type 0} (f : X → List A) (g : Y → List B) (item : X → Y) (made : A → B) → ((x : X) → g (item x) ≡ map made (f x)) →
    (xs : List X) → flat_map g (map item xs) ≡ map made (flat_map f xs)
each-made f g item made each [] = refl
each-made f g item made each (x ∷ xs) =
    ap₂ (λ a b. a ++ b) (each x) (each-made f g item made each xs) ∙ sym (map-append made (f x) (flat_map f xs))

pub any-same : {X Y : Type 0} (p : X → Bool) (q : Y → Bool) (item : X → Y) → ((x : X) → q (item x) ≡ p x) → (xs : List X) → list_any q (map item xs) ≡ list_any p xs
any-same p q item each [] = refl
any-same p q item each (x ∷ xs) = ap₂ (λ a b. a || b) (each x) (any-same p q item each xs)

module _ (own outer : Word → Word) where
  -- two parts of a body
  both : (xs ys : List Stmt) {us vs : List Stmt} → us ≡ map (renamed_stmt own outer) xs → vs ≡ map (renamed_stmt own outer) ys → us ++ vs ≡ map (renamed_stmt own outer) (xs ++ ys)
  both xs ys first second = ap₂ (λ a b. a ++ b) first second ∙ sym (map-append (renamed_stmt own outer) xs ys)

  mutual
    pub stmts-renamed : (lines : Lines) → stmts_in (renamed_lines own outer lines) ≡ map (renamed_stmt own outer) (stmts_in lines)
    stmts-renamed no_lines = refl
    stmts-renamed (line s at lines) = ap (λ l. renamed_stmt own outer s ∷ l) (both (inner_stmts s) (stmts_in lines) (inner-renamed s) (stmts-renamed lines))

    pub inner-renamed : (s : Stmt) → inner_stmts (renamed_stmt own outer s) ≡ map (renamed_stmt own outer) (inner_stmts s)
    inner-renamed (Assign place e) = refl
    inner-renamed (Call place function arguments depth) = refl
    inner-renamed (If e body otherwise) = both (stmts_in body) (stmts_in otherwise) (stmts-renamed body) (stmts-renamed otherwise)
    inner-renamed (While e body) = stmts-renamed body
    inner-renamed (DoWhile body e) = stmts-renamed body
    inner-renamed (Forever body) = stmts-renamed body
    inner-renamed (Switch e arms last) = both (arm_stmts arms) (arm_stmts last) (arms-renamed arms) (arms-renamed last)
    inner-renamed Break = refl
    inner-renamed Continue = refl
    inner-renamed (Goto word) = refl
    inner-renamed (Label word) = refl
    inner-renamed Empty = refl
    inner-renamed (Return e) = refl

    pub arms-renamed : (arms : Arms) → arm_stmts (renamed_arms own outer arms) ≡ map (renamed_stmt own outer) (arm_stmts arms)
    arms-renamed no_arms = refl
    arms-renamed (arm cases body arms) = both (stmts_in body) (arm_stmts arms) (stmts-renamed body) (arms-renamed arms)

  if-renamed : (e : Option Expr) → expr_if (option_map (renamed_expr own) e) ≡ map (renamed_expr own) (expr_if e)
  if-renamed None = refl
  if-renamed (Some e) = refl

  pub exprs-renamed : (s : Stmt) → exprs_of (renamed_stmt own outer s) ≡ map (renamed_expr own) (exprs_of s)
  exprs-renamed (Assign place e) = refl
  exprs-renamed (Call place function arguments depth) =
      ap (λ l. l ++ map (renamed_expr own) arguments) (if-renamed place) ∙ sym (map-append (renamed_expr own) (expr_if place) arguments)
  exprs-renamed (If e body otherwise) = refl
  exprs-renamed (While e body) = refl
  exprs-renamed (DoWhile body e) = refl
  exprs-renamed (Forever body) = refl
  exprs-renamed (Switch e arms last) = refl
  exprs-renamed Break = refl
  exprs-renamed Continue = refl
  exprs-renamed (Goto word) = refl
  exprs-renamed (Label word) = refl
  exprs-renamed Empty = refl
  exprs-renamed (Return e) = if-renamed e

  parts-two : (xs ys : List Expr) {us vs : List Expr} → us ≡ map (renamed_expr own) xs → vs ≡ map (renamed_expr own) ys → us ++ vs ≡ map (renamed_expr own) (xs ++ ys)
  parts-two xs ys first second = ap₂ (λ a b. a ++ b) first second ∙ sym (map-append (renamed_expr own) xs ys)

  pub parts-renamed : (e : Expr) → parts_of (renamed_expr own e) ≡ map (renamed_expr own) (parts_of e)
  parts-renamed (Number n base) = refl
  parts-renamed (Name word) = refl
  parts-renamed (Unary operator a) = ap (λ l. renamed_expr own (Unary operator a) ∷ l) (parts-renamed a)
  parts-renamed (Binary operator a b) =
      ap (λ l. renamed_expr own (Binary operator a b) ∷ l) (parts-two (parts_of a) (parts_of b) (parts-renamed a) (parts-renamed b))
  parts-renamed (Conditional a b c) =
      ap (λ l. renamed_expr own (Conditional a b c) ∷ l)
      (parts-two (parts_of a) (parts_of b ++ parts_of c) (parts-renamed a) (parts-two (parts_of b) (parts_of c) (parts-renamed b) (parts-renamed c)))
  parts-renamed (Cast type a) = ap (λ l. renamed_expr own (Cast type a) ∷ l) (parts-renamed a)

  pub all-renamed : (body : Lines) → exprs_in (renamed_lines own outer body) ≡ map (renamed_expr own) (exprs_in body)
  all-renamed body =
      ap (flat_map (λ s. flat_map parts_of (exprs_of s))) (stmts-renamed body)
      ∙ each-made (λ s. flat_map parts_of (exprs_of s)) (λ s. flat_map parts_of (exprs_of s)) (renamed_stmt own outer) (renamed_expr own)
      (λ s. ap (flat_map parts_of) (exprs-renamed s) ∙ each-made parts_of parts_of (renamed_expr own) (renamed_expr own) parts-renamed (exprs_of s))
      (stmts_in body)

  module _ (same : (a b : Word) → same_bytes (own a) (own b) ≡ same_bytes a b) where
    address-renamed : (word : Word) (e : Expr) → is_address_of (own word) (renamed_expr own e) ≡ is_address_of word e
    address-renamed word (Unary AddressOf (Name other)) = same word other
    address-renamed word (Unary operator a) = refl
    address-renamed word (Number n base) = refl
    address-renamed word (Name other) = refl
    address-renamed word (Binary operator a b) = refl
    address-renamed word (Conditional a b c) = refl
    address-renamed word (Cast type a) = refl

    taken-renamed : (body : Lines) (word : Word) → takes_address (renamed_lines own outer body) (own word) ≡ takes_address body word
    taken-renamed body word =
        ap (list_any (is_address_of (own word))) (all-renamed body)
        ∙ any-same (is_address_of word) (is_address_of (own word)) (renamed_expr own) (address-renamed word) (exprs_in body)

    placed-param : (body : Lines) (base number : ℕ) (placed : Bool) (v : Variable) (params : List Variable) →
        ((n : ℕ) (p : Bool) → param_places (renamed_lines own outer body) base n p (map (renamed_variable own) params) ≡ param_places body base n p params) →
        param_places (renamed_lines own outer body) base number placed (map (renamed_variable own) (v ∷ params)) ≡ param_places body base number placed (v ∷ params)
    placed-param body base number placed v params rest =
        let place = Some ((base + 2 * number) % 65536) in
        let first = param_places (renamed_lines own outer body) base number placed (map (renamed_variable own) params) in
        let second = param_places (renamed_lines own outer body) base (number + 1) true (map (renamed_variable own) params) in
        let third = param_places (renamed_lines own outer body) base (number + 1) false (map (renamed_variable own) params) in
        let wanted = placed || (is_auto v.class || takes_address body v.name) in
        ap (λ w. if is_register v.class then None ∷ first else if placed || (is_auto v.class || w) then place ∷ second else None ∷ third) (taken-renamed body v.name)
        ∙ ap₂ (λ x y. if is_register v.class then None ∷ x else if wanted then place ∷ y else None ∷ third) (rest number placed) (rest (number + 1) true)
        ∙ ap (λ z. if is_register v.class then None ∷ param_places body base number placed params
        else if wanted then place ∷ param_places body base (number + 1) true params else None ∷ z) (rest (number + 1) false)

    pub params-placed : (body : Lines) (base number : ℕ) (placed : Bool) (params : List Variable) →
        param_places (renamed_lines own outer body) base number placed (map (renamed_variable own) params) ≡ param_places body base number placed params
    params-placed body base number placed [] = refl
    params-placed body base number placed (v ∷ params) = placed-param body base number placed v params (λ n p. params-placed body base n p params)

    pub locals-placed : (base used : ℕ) (locals : List Variable) → local_places base used (map (renamed_variable own) locals) ≡ local_places base used locals
    locals-placed base used [] = refl
    locals-placed base used (v ∷ locals) =
        ap₂ (λ a b. if is_auto v.class then (let down = used + bytes_of v.type v.len in Some (below base down) ∷ a) else None ∷ b)
        (locals-placed base (used + bytes_of v.type v.len) locals) (locals-placed base used locals)

  pub params-bound : (params : List Variable) (places : List (Option ℕ)) (arguments : List Value) →
      param_bindings (map (renamed_variable own) params) places arguments ≡ map (renamed_binding own) (param_bindings params places arguments)
  params-bound [] places arguments = refl
  params-bound (v ∷ params) [] arguments = refl
  params-bound (v ∷ params) (place ∷ places) [] = refl
  params-bound (v ∷ params) (place ∷ places) (argument ∷ arguments) =
      ap (λ l. renamed_binding own (variable_binding v place argument.bits) ∷ l) (params-bound params places arguments)

  pub locals-bound : (fill : ℕ) (locals : List Variable) (places : List (Option ℕ)) →
      local_bindings fill (map (renamed_variable own) locals) places ≡ map (renamed_binding own) (local_bindings fill locals places)
  locals-bound fill [] places = refl
  locals-bound fill (v ∷ locals) [] = refl
  locals-bound fill (v ∷ locals) (place ∷ places) =
      ap (λ l. renamed_binding own (first_binding fill v place) ∷ l) (locals-bound fill locals places)
