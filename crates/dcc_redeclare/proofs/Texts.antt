-- A text whose variables have other types is the text otherwise written, and writable.
use Rattle.std.proofs.Common.{◌≡◌, ℕ, suc, ◌+◌, ◌/◌, ◌^◌, ◌≤◌, Bool, true, false, ◌&&◌, ◌||◌, not, List, [], ◌∷◌, ◌++◌, map, length, Option, Some, None, refl, sym, ap, ap₂, ◌∙◌, subst, append_assoc, arith}
use Rattle.std.specs.Prelude.{if◌then◌else◌, option_map, option_and_then, nat_le, is_some}
use Rattle.std.specs.List.{AllZip, list_all, list_any, flat_map}
use Rattle.std.proofs.lemmas.Bool.{and_parts, and_from, leb-true, le-leb}
use Rattle.std.proofs.lemmas.List.{map-append}
use Rattle.std.proofs.lemmas.List.Folds.{list_any-append}
use Rattle.dcc_c.specs.declared.syntax.Base.{Base}
use Rattle.dcc_c.specs.declared.syntax.Base.TheVariants.{Uint}
use Rattle.dcc_c.specs.declared.syntax.CType.{CType}
use Rattle.dcc_c.specs.declared.syntax.CUn.TheVariants.{Minus, Complement, Not, Deref, AddressOf}
use Rattle.dcc_c.specs.Token.{same_bytes}
use Rattle.dcc_c.specs.Types.{bits_of, plain, size_of, promoted_type, same_base}
use Rattle.dcc_c.specs.Tree.{Word, Expr, Number, Name, Unary, Binary, Conditional, Cast, Stmt, Assign, Call, If, While, DoWhile, Forever, Switch, Break, Continue, Goto, Label, Empty, Return, Lines, Global, Variable, Function, Tree}
use Rattle.dcc_c.specs.Dos.{Signature, dos_of, dos_signature, dos_names}
use Rattle.dcc_c.specs.Parts.{parts_of, exprs_of, stmts_in}
use Rattle.dcc_c.specs.Placement.{is_address_of, is_auto}
use Rattle.dcc_c.specs.Typing.{Declared, declared_as, type_of_name, type_of_address, type_of_variable, place_type, type_of}
use Rattle.dcc_c.specs.Rules.{declared_param, declared_local, declared_global, declared_in, converts, fits, is_number, is_switch_value, fit_all, place_takes, result_fits, call_fits, allows_stmt, expr_depth, shallow_stmt, signature_of, signature_in, has_element, names_of, known_names, own_variables, all_differ, IsAllowedFunction, AreAllowed, IsAllowed}
use Rattle.dcc_c.specs.Rules as rules
use Rattle.dcc_c.specs.Numbered.{rows, numbered_function, numbered_functions, numbered}
use Rattle.dcc_c.specs.Written.{written_globals}
use Rattle.dcc_c.specs.Value.{Value, is_zero, converted, Outcome, Gives, Divides, Undefined, and_then, given, Binding, declared_by, variable_in, variable_target, pointed_target, Scope, value_of, Target, ToVariable, ToMemory, target_of}
use Rattle.dcc_c.specs.Run.{Frame, global_binding, function_in, arguments_of}
use Rattle.dcc_c.specs.Grammar.{outermost, is_name as is_written_name}
use Rattle.dcc_c.proofs.Writable.{is_writable_expr, is_writable_place, is_writable_param, is_writable_local, is_writable_function, are_writable_lines, IsWritable}
use Rattle.dcc_progress.proofs.Declarations.{Takes, takes-first, takes-others, takes-later, AreAs}
use Rattle.dcc_progress.proofs.Frames.{SameLength, own_declared, Lands}
use Rattle.dcc_progress.proofs.Values.{Holds, Any, has-type, typed-gives, place-gives, arguments-give}
use Rattle.dcc_respell.specs.Respelled.{Both, SameBits, AllBits, BindingAlike, TargetAlike, TakesAlike, CallsAlike, scope_in, TestAlike, BecomesAlike, AssignAlike, ArgumentsAlike, VariableAlike, FunctionAlike, IsRespelled, IsKept}
use Rattle.dcc_respell.specs.Writing.{Writing, stmt_by, lines_by, MeansAlike, KeepsAddresses}
use Rattle.dcc_respell.proofs.Scopes.{numbered-signature}
use Rattle.dcc_respell.proofs.Calls.{same-takes}
use Rattle.dcc_respell.proofs.Written.{lines-alike, addresses-kept}
use Rattle.dcc_respell.proofs.Allowed.{MayBeWritten, own-allowed, lines-writable, all-lines, labels-allowed}
use Rattle.dcc_redeclare.specs.Redeclared.{is_name, changed_from, was, bare, is_bare, spares_left, spares_right, spares_one, room_of, is_free, is_shallow, exact, tested, placed, written_as, local_after, locals_after, declared_after, writing, function_after, redeclared}
use Rattle.dcc_redeclare.specs.Laws.{KeepsSize}
use Rattle.dcc_redeclare.proofs.Slots.{Becomes, stays, turns, Told, told_none, told_one, told, all-stay, become-both, locals-become, Slot, unchanged, changed, Slots, Found, nothing, slot, found, own-slots, global-slots, both-slots, IsDeclared}
use Rattle.dcc_redeclare.proofs.Types.{same-self, Turned, still, turned, name-turned, address-stays, Tells, exact-type}
use Rattle.dcc_redeclare.proofs.Values.{Side, kept_side, turned_side, exact-value, tested-value}
use Rattle.dcc_redeclare.proofs.Shapes.{exact-addresses, tested-addresses, placed-addresses, exact-written, tested-written, placed-written, exact-depth, tested-depth, placed-depth}

-- Outcomes.

both-self : {A : Type 0} (P : A → A → Type 0) (Q : A → Type 0) (x : Outcome A) → Holds Q x → ((a : A) → P a a) → Both P x x
both-self P Q (Gives a) holds self = self a
both-self P Q Divides holds self = tt
both-self P Q Undefined holds self = absurd holds

side-both : (Q : Value → Type 0) {x y : Outcome Value} → Side x y → Holds Q x → Both (λ v w. is_zero w ≡ is_zero v) x y
side-both Q (kept_side {x}) holds = both-self (λ v w. is_zero w ≡ is_zero v) Q x holds (λ v. refl)
side-both Q (turned_side size small) holds = refl

target-self : (target : Target) → TargetAlike target target
target-self (ToVariable word) = refl
target-self (ToMemory type at) = (refl, refl)

bits-self : (vs : List Value) → AllBits vs vs
bits-self [] = tt
bits-self (v ∷ vs) = (record { bits = refl; room = refl }, bits-self vs)

-- Lookups.

declared-found : (bs : List Binding) (word : Word) → declared_as (map declared_by bs) word ≡ option_map declared_by (variable_in bs word)
declared-found [] word = refl
declared-found (b ∷ bs) word = by (same_bytes b.name word) (declared-found bs word)
  where
    by : (p : Bool) → declared_as (map declared_by bs) word ≡ option_map declared_by (variable_in bs word) →
        (if p then Some (declared_by b) else declared_as (map declared_by bs) word) ≡ option_map declared_by (if p then Some b else variable_in bs word)
    by true others = refl
    by false others = others

type-found : {o p : Option Declared} {q r : Option Binding} → Found o p q r → option_and_then type_of_name (option_map declared_by q) ≡ option_and_then type_of_name o
type-found nothing = refl
type-found (slot (unchanged is)) =
    ap₂ (λ (a : Bool) (t : CType). type_of_name (record { name = []; type = t; is_array = a; is_placed = false })) (sym is.array) (sym is.type)
type-found (slot (changed size small)) = refl

type-there : {o p : Option Declared} {q r : Option Binding} → Found o p q r → option_and_then type_of_name (option_map declared_by r) ≡ option_and_then type_of_name p
type-there nothing = refl
type-there (slot (unchanged is)) =
    ap₂ (λ (a : Bool) (t : CType). type_of_name (record { name = []; type = t; is_array = a; is_placed = false })) (sym is.array) (sym is.type)
type-there (slot (changed size small)) = refl

type-turned : {o p : Option Declared} {q r : Option Binding} → Found o p q r → Turned (option_and_then type_of_name o) (option_and_then type_of_name p)
type-turned nothing = still
type-turned (slot (unchanged is)) = still
type-turned (slot (changed size small)) = turned size

address-found : {o p : Option Declared} {q r : Option Binding} → Found o p q r → option_and_then type_of_address (option_map declared_by r) ≡ option_and_then type_of_address (option_map declared_by q)
address-found nothing = refl
address-found (slot (unchanged is)) = refl
address-found (slot (changed size small)) = refl

target-found : (word : Word) {o p : Option Declared} {q r : Option Binding} → Found o p q r → and_then (variable_target word) (given r) ≡ and_then (variable_target word) (given q)
target-found word nothing = refl
target-found word (slot (unchanged is)) = refl
target-found word (slot (changed size small)) = refl

tells-of : (old new : List Declared) (bs cs : List Binding) → Slots old new bs cs → (word : Word) → Tells old new (map declared_by bs) (map declared_by cs) word
tells-of old new bs cs slots word =
    let is = found old new bs cs word slots in record {
      first = ap (option_and_then type_of_name) (declared-found bs word) ∙ type-found is;
      second = ap (option_and_then type_of_name) (declared-found cs word) ∙ type-there is;
      turned = type-turned is;
      address = ap (option_and_then type_of_address) (declared-found cs word) ∙ address-found is ∙ sym (ap (option_and_then type_of_address) (declared-found bs word));
    }

tells-declared : (old new : List Declared) → AllZip Becomes old new → (word : Word) → Tells old new old new word
tells-declared old new become word =
    let is = told old new word become in record {
      first = refl;
      second = refl;
      turned = name-turned is;
      address = address-stays is;
    }

variables-room : (vs : List Variable) → AllZip VariableAlike vs vs
variables-room [] = tt
variables-room (v ∷ vs) = (record { name = refl; len = refl; class = refl; room = refl }, variables-room vs)

-- Signatures.

either-same : {A B : Type 0} (g : A → B) (test : Bool) (x y : A) (o p : Option A) → g x ≡ g y → option_map g o ≡ option_map g p → option_map g (if test then Some x else o) ≡ option_map g (if test then Some y else p)
either-same g true x y o p first later = ap Some first
either-same g false x y o p first later = later

module _ (type_for : Tree → Function → Variable → Base) (sizes : KeepsSize type_for) where
  signatures-same : (tree : Tree) (functions : List Function) (name : Word) → option_map signature_of (function_in (map (function_after type_for tree) functions) name) ≡ option_map signature_of (function_in functions name)
  signatures-same tree [] name = refl
  signatures-same tree (f ∷ functions) name =
      either-same signature_of (same_bytes f.name name) (function_after type_for tree f) f _ (function_in functions name) refl (signatures-same tree functions name)

  signature-same : (tree : Tree) (name : Word) → signature_in (redeclared type_for tree) name ≡ signature_in tree name
  signature-same tree name =
      ap (λ own. elim (dos_of name) [ Some dos ↦ Some (dos_signature dos) | None ↦ own ]) (signatures-same tree tree.functions name)

  -- Declarations.

  local-declared : (tree : Tree) (f : Function) → AllZip Becomes (map declared_local f.locals) (map declared_local (locals_after type_for tree f))
  local-declared tree f = by (is_shallow f)
    where
      by : (b : Bool) → AllZip Becomes (map declared_local f.locals) (map declared_local (if b then map (local_after type_for tree f) f.locals else f.locals))
      by true = locals-become (type_for tree f) (sizes tree f) f.locals
      by false = all-stay (map declared_local f.locals)

  all-declared : (tree : Tree) (f : Function) → AllZip Becomes (declared_in tree f) (declared_after type_for tree f)
  all-declared tree f =
      become-both (map declared_param f.params) (map declared_param f.params) (map declared_local f.locals ++ map declared_global tree.globals) (map declared_local (locals_after type_for tree f) ++ map declared_global tree.globals) (all-stay (map declared_param f.params))
      (become-both (map declared_local f.locals) (map declared_local (locals_after type_for tree f)) (map declared_global tree.globals) (map declared_global tree.globals) (local-declared tree f) (all-stay (map declared_global tree.globals)))

  -- One function, its lines counted.

  module _ (plain_tree : Tree) (own : Function) (at there : ℕ) where
    abbrev tree : Tree
    tree = numbered plain_tree

    abbrev after : Tree
    after = numbered (redeclared type_for plain_tree)

    abbrev w : Writing
    w = writing type_for plain_tree own

    abbrev f : Function
    f = numbered_function at own

    abbrev g : Function
    g = numbered_function there (function_after type_for plain_tree own)

    abbrev old : List Declared
    old = declared_in plain_tree own

    abbrev new : List Declared
    new = declared_after type_for plain_tree own

    own-become : AllZip Becomes (own_declared f) (own_declared g)
    own-become =
        become-both (map declared_param own.params) (map declared_param own.params) (map declared_local own.locals) (map declared_local (locals_after type_for plain_tree own)) (all-stay (map declared_param own.params)) (local-declared plain_tree own)

    module _ (frame with_other : Frame) (memory : List ℕ) (calls : CallsAlike tree after f g frame with_other) where
      abbrev here : Scope
      here = scope_in tree frame memory

      abbrev below : Scope
      below = scope_in after with_other memory

      abbrev globals : List Binding
      globals = map global_binding plain_tree.globals

      slots : Slots old new (frame.variables ++ globals) (with_other.variables ++ globals)
      slots =
          let first = subst (λ (h : Function). AreAs h.body (own_declared h) (map declared_by frame.variables)) calls.function calls.is.variables in
          let second = subst (λ (h : Function). AreAs h.body (own_declared h) (map declared_by with_other.variables)) calls.other_function calls.other_is.variables in
          let mine = own-slots f.body g.body (own_declared f) (own_declared g) frame.variables with_other.variables own-become first second calls.kept calls.variables in
          let all = both-slots (own_declared f) (own_declared g) (map declared_global plain_tree.globals) (map declared_global plain_tree.globals) frame.variables with_other.variables globals globals mine (global-slots plain_tree.globals) in
          subst (λ ds. Slots ds new (frame.variables ++ globals) (with_other.variables ++ globals)) (append_assoc (map declared_param own.params) (map declared_local own.locals) (map declared_global plain_tree.globals))
          (subst (λ es. Slots (own_declared f ++ map declared_global plain_tree.globals) es (frame.variables ++ globals) (with_other.variables ++ globals)) (append_assoc (map declared_param own.params) (map declared_local (locals_after type_for plain_tree own)) (map declared_global plain_tree.globals)) all)

      typed : (e : Expr) (t : CType) → Takes f.body (parts_of e) → type_of old e ≡ Some t → Holds (λ v. v.type ≡ t) (value_of here e)
      typed e t takes is =
          subst (λ (h : Function). Takes h.body (parts_of e) → type_of (declared_in tree h) e ≡ Some t → Holds (λ v. v.type ≡ t) (value_of here e)) calls.function (typed-gives tree frame calls.is memory e t) takes is

      tells : (word : Word) → Tells old new (map declared_by (frame.variables ++ globals)) (map declared_by (with_other.variables ++ globals)) word
      tells word = tells-of old new (frame.variables ++ globals) (with_other.variables ++ globals) slots word

      value-same : (e : Expr) → Takes f.body (parts_of e) → value_of below (exact old new e) ≡ value_of here e
      value-same e takes = exact-value old new (frame.variables ++ globals) (with_other.variables ++ globals) memory slots f.body typed tells e takes

      test-alike : (e : Expr) → is_number old e ≡ true → Takes f.body (parts_of e) → Both (λ v w. is_zero w ≡ is_zero v) (value_of here e) (value_of below (tested old new e))
      test-alike e number takes =
          let has = has-type (type_of old e) (λ t. not t.pointer) number in
          side-both (λ v. v.type ≡ has.0) (tested-value old new (frame.variables ++ globals) (with_other.variables ++ globals) memory slots f.body typed tells e (value-same e takes)) (typed e has.0 takes has.1)

      value-both : (P : Value → Value → Type 0) (e : Expr) (t : CType) → Takes f.body (parts_of e) → type_of old e ≡ Some t → ((v : Value) → P v v) → Both P (value_of here e) (value_of below (exact old new e))
      value-both P e t takes has self =
          subst (Both P (value_of here e)) (sym (value-same e takes)) (both-self P (λ v. v.type ≡ t) (value_of here e) (typed e t takes has) self)

      target-same : (place : Expr) (t : CType) → place_type old place ≡ Some t → Takes f.body (parts_of place) → target_of below (placed old new place) ≡ target_of here place
      target-same (Name word) t has takes = target-found word (found old new (frame.variables ++ globals) (with_other.variables ++ globals) word slots)
      target-same (Unary Deref a) t has takes = ap (and_then pointed_target) (value-same a (takes-later f.body (Unary Deref a) (parts_of a) takes))
      target-same place t has takes = absurd cc

      place-alike : (place : Expr) (t : CType) → place_type old place ≡ Some t → Takes f.body (parts_of place) → Both TargetAlike (target_of here place) (target_of below (placed old new place))
      place-alike place t has takes =
          subst (Both TargetAlike (target_of here place)) (sym (target-same place t has takes))
          (both-self TargetAlike (Lands frame.variables) (target_of here place)
          (subst (λ (h : Function). Takes h.body (parts_of place) → place_type (declared_in tree h) place ≡ Some t → Holds (Lands frame.variables) (target_of here place)) calls.function (place-gives tree frame calls.is memory place t) takes has) target-self)

      arguments-same : (es : List Expr) (types : List CType) → Takes f.body (flat_map parts_of es) → arguments_of below types (map (exact old new) es) ≡ arguments_of here types es
      arguments-same [] [] takes = refl
      arguments-same [] (type ∷ types) takes = refl
      arguments-same (e ∷ es) [] takes = refl
      arguments-same (e ∷ es) (type ∷ types) takes =
          ap₂ (λ x y. and_then (λ v. and_then (λ vs. Gives (converted type v ∷ vs)) x) y) (arguments-same es types (takes-others f.body e es takes)) (value-same e (takes-first f.body e es takes))

      arguments-alike : (es : List Expr) (types : List CType) → fit_all old types es ≡ true → Takes f.body (flat_map parts_of es) → Both AllBits (arguments_of here types es) (arguments_of below types (map (exact old new) es))
      arguments-alike es types fit takes =
          subst (Both AllBits (arguments_of here types es)) (sym (arguments-same es types takes))
          (both-self AllBits (SameLength types) (arguments_of here types es)
          (subst (λ (h : Function). Takes h.body (flat_map parts_of es) → fit_all (declared_in tree h) types es ≡ true → Holds (SameLength types) (arguments_of here types es)) calls.function (arguments-give tree frame calls.is memory types es) takes fit) bits-self)

      value-alike : (place e : Expr) (t u : CType) → place_type old place ≡ Some t → type_of old e ≡ Some u → Takes f.body (parts_of place) → Takes f.body (parts_of e) →
          Both (λ v w. (target to : Target) → target_of here place ≡ Gives target → target_of below (placed old new place) ≡ Gives to → TakesAlike frame.variables with_other.variables target to v w) (value_of here e) (value_of below (exact old new e))
      value-alike place e t u has typed_is place_takes takes =
          value-both (λ v w. (target to : Target) → target_of here place ≡ Gives target → target_of below (placed old new place) ≡ Gives to → TakesAlike frame.variables with_other.variables target to v w) e u takes typed_is
          (λ v target to one two.
          let same_target : target ≡ to = given-same (sym one ∙ sym (target-same place t has place_takes) ∙ two) in
          subst (λ k. TakesAlike frame.variables with_other.variables target k v v) same_target (same-takes tree after frame.variables with_other.variables target target v calls.variables (target-self target)))
        where
          given-same : {a b : Target} → Gives a ≡ Gives b → a ≡ b
          given-same e = cc

    assign-alike : (place e : Expr) → allows_stmt tree f (Assign place e) ≡ true → Takes f.body (flat_map parts_of (exprs_of (Assign place e))) → AssignAlike tree after f g place e (w.place place) (w.value place e)
    assign-alike place e allowed takes =
        let has = has-type (place_type old place) (λ to. fits old to e) allowed in
        let fit : fits old has.0 e ≡ true = subst (λ o. elim o [ Some to ↦ fits old to e | None ↦ false ] ≡ true) has.1 allowed in
        let is = has-type (type_of old e) (λ from. converts from has.0) fit in
        let place_takes = takes-first f.body place (e ∷ []) takes in
        let e_takes = takes-first f.body e [] (takes-others f.body place (e ∷ []) takes) in
        record {
          places = λ frame with_other memory calls. place-alike frame with_other memory calls place has.0 has.1 place_takes;
          values = λ frame with_other memory calls. value-alike frame with_other memory calls place e has.0 is.0 has.1 is.1 place_takes e_takes;
        }

    some-same : {A : Type 0} {a b : A} → Some a ≡ Some b → a ≡ b
    some-same e = cc

    calls-alike : (function : Word) (es : List Expr) (known under : Signature) → signature_in tree function ≡ Some known → signature_in after function ≡ Some under → fit_all old known.params es ≡ true → Takes f.body (flat_map parts_of es) →
        ArgumentsAlike tree after f g known.params under.params es (w.arguments function es)
    calls-alike function es known under one two fit takes frame with_other memory calls =
        let same_known : known ≡ under = some-same (sym one ∙ numbered-signature plain_tree function ∙ sym (signature-same plain_tree function) ∙ sym (numbered-signature (redeclared type_for plain_tree) function) ∙ two) in
        subst (λ (k : Signature). Both AllBits (arguments_of (scope_in tree frame memory) known.params es) (arguments_of (scope_in after with_other memory) k.params (map (exact old new) es))) same_known
        (arguments-alike frame with_other memory calls es known.params fit takes)

    becomes-alike : (type : CType) (e : Expr) (t : CType) → type_of old e ≡ Some t → Takes f.body (parts_of e) → BecomesAlike tree after f g type type e (exact old new e)
    becomes-alike type e t has takes frame with_other memory calls =
        value-both frame with_other memory calls (λ v w. (converted type w).bits ≡ (converted type v).bits) e t takes has (λ v. refl)

    means : MeansAlike tree after f g w
    means = record {
      test = λ e number takes frame with_other memory calls. test-alike frame with_other memory calls e number takes;
      choice = λ e is takes.
          let has = has-type (type_of old e) (λ t. not t.pointer && rules.is_word_base (promoted_type t.base)) is in becomes-alike (plain Uint) e has.0 has.1 takes;
      value = assign-alike;
      place = λ place type has takes frame with_other memory calls. place-alike frame with_other memory calls place type has takes;
      arguments = calls-alike;
      returned = λ e type has fit takes. let is = has-type (type_of old e) (λ from. converts from type) fit in becomes-alike type e is.0 is.1 takes;
    }

    -- Addresses.

    abbrev SameAddresses : Word → List Expr → List Expr → Type 0
    SameAddresses word es hs = list_any (is_address_of word) (flat_map parts_of hs) ≡ list_any (is_address_of word) (flat_map parts_of es)

    one-more : (word : Word) (e h : Expr) (es hs : List Expr) → list_any (is_address_of word) (parts_of h) ≡ list_any (is_address_of word) (parts_of e) → SameAddresses word es hs → SameAddresses word (e ∷ es) (h ∷ hs)
    one-more word e h es hs first others =
        list_any-append (is_address_of word) (parts_of h) (flat_map parts_of hs) ∙ ap₂ (λ a b. a || b) first others ∙ sym (list_any-append (is_address_of word) (parts_of e) (flat_map parts_of es))

    arguments-addresses : (word : Word) (es : List Expr) → SameAddresses word es (map (exact old new) es)
    arguments-addresses word [] = refl
    arguments-addresses word (e ∷ es) = one-more word e (exact old new e) es (map (exact old new) es) (exact-addresses old new word e) (arguments-addresses word es)

    one-test : (word : Word) (e : Expr) → SameAddresses word (e ∷ []) (tested old new e ∷ [])
    one-test word e = one-more word e (tested old new e) [] [] (tested-addresses old new word e) refl

    keeps-addresses : KeepsAddresses w
    keeps-addresses (Assign place e) word =
        one-more word place (placed old new place) (e ∷ []) (exact old new e ∷ []) (placed-addresses old new word place) (one-more word e (exact old new e) [] [] (exact-addresses old new word e) refl)
    keeps-addresses (Call None function es depth) word = arguments-addresses word es
    keeps-addresses (Call (Some place) function es depth) word =
        one-more word place (placed old new place) es (map (exact old new) es) (placed-addresses old new word place) (arguments-addresses word es)
    keeps-addresses (If e body otherwise) word = one-test word e
    keeps-addresses (While e body) word = one-test word e
    keeps-addresses (DoWhile body e) word = one-test word e
    keeps-addresses (Forever body) word = refl
    keeps-addresses (Switch e arms last) word = one-more word e (exact old new e) [] [] (exact-addresses old new word e) refl
    keeps-addresses Break word = refl
    keeps-addresses Continue word = refl
    keeps-addresses (Goto other) word = refl
    keeps-addresses (Label other) word = refl
    keeps-addresses Empty word = refl
    keeps-addresses (Return None) word = refl
    keeps-addresses (Return (Some e)) word = one-more word e (exact old new e) [] [] (exact-addresses old new word e) refl

    locals-room : AllZip VariableAlike own.locals (locals_after type_for plain_tree own)
    locals-room = by (is_shallow own)
      where
        one-local : (v : Variable) → VariableAlike v (local_after type_for plain_tree own v)
        one-local v = either (is_free v) refl
          where
            number-room : (v : Variable) → is_free v ≡ true → size_of (plain (type_for plain_tree own v)) ≡ size_of v.type
            number-room v is =
                let one = and_parts (not (is_auto v.class)) (not (is_some v.len) && not v.type.pointer) is in
                let two = and_parts (not (is_some v.len)) (not v.type.pointer) one.1 in
                by_pointer v.type.pointer v.type.base two.1 (sizes plain_tree own v)
              where
                by_pointer : (p : Bool) (b : Base) → not p ≡ true → bits_of (type_for plain_tree own v) ≡ bits_of b → size_of (plain (type_for plain_tree own v)) ≡ size_of (record { base = b; pointer = p })
                by_pointer false b free size = ap (λ k. k / 8) size
                by_pointer true b free size = absurd cc

            either : (b : Bool) → is_free v ≡ b → VariableAlike v (if b then record v { type = plain (type_for plain_tree own v) } else v)
            either true is = record { name = refl; len = refl; class = refl; room = number-room v is }
            either false is = record { name = refl; len = refl; class = refl; room = refl }

        all-local : (vs : List Variable) → AllZip VariableAlike vs (map (local_after type_for plain_tree own) vs)
        all-local [] = tt
        all-local (v ∷ vs) = (one-local v, all-local vs)

        by : (b : Bool) → AllZip VariableAlike own.locals (if b then map (local_after type_for plain_tree own) own.locals else own.locals)
        by true = all-local own.locals
        by false = variables-room own.locals

    function-alike : list_all (allows_stmt tree f) (stmts_in f.body) ≡ true → FunctionAlike tree after f g
    function-alike allowed = record {
      name = refl;
      result = refl;
      params = variables-room own.params;
      locals = locals-room;
      addresses = λ word. addresses-kept w keeps-addresses own.body 2 (at + 2 + length own.locals) 2 (there + 2 + length (locals_after type_for plain_tree own)) word;
      body = lines-alike tree after f g w means own.body 2 (at + 2 + length own.locals) 2 (there + 2 + length (locals_after type_for plain_tree own)) (λ stmt line stands. stands) allowed;
    }

  -- A function as it may stand in the text.

  module _ (tree : Tree) (f : Function) where
    abbrev text : Tree
    text = redeclared type_for tree

    abbrev was_declared : List Declared
    was_declared = declared_in tree f

    abbrev is_declared : List Declared
    is_declared = declared_after type_for tree f

    abbrev as_written : Writing
    as_written = writing type_for tree f

    type-same : (e : Expr) → type_of is_declared (exact was_declared is_declared e) ≡ type_of was_declared e
    type-same e = exact-type was_declared is_declared was_declared is_declared (tells-declared was_declared is_declared (all-declared tree f)) e

    test-number : (e : Expr) → is_number was_declared e ≡ true → is_number is_declared (tested was_declared is_declared e) ≡ true
    test-number e number = by (is_bare was_declared is_declared e) refl
      where
        by : (b : Bool) → is_bare was_declared is_declared e ≡ b → is_number is_declared (if b then e else exact was_declared is_declared e) ≡ true
        by true is = (and_parts (is_name e) (is_number is_declared e) is).1
        by false is = ap (λ o. elim o [ Some t ↦ not t.pointer | None ↦ false ]) (type-same e) ∙ number

    fits-same : (type : CType) (e : Expr) → fits is_declared type (exact was_declared is_declared e) ≡ fits was_declared type e
    fits-same type e = ap (λ o. elim o [ Some from ↦ converts from type | None ↦ false ]) (type-same e)

    all-fit : (types : List CType) (es : List Expr) → fit_all is_declared types (map (exact was_declared is_declared) es) ≡ fit_all was_declared types es
    all-fit [] [] = refl
    all-fit [] (e ∷ es) = refl
    all-fit (type ∷ types) [] = refl
    all-fit (type ∷ types) (e ∷ es) = ap₂ (λ a b. a && b) (fits-same type e) (all-fit types es)

    -- a place takes what it took
    abbrev IfTakes : (CType → Bool) → Option CType → Option CType → Type 0
    IfTakes p o q = elim o [ Some to ↦ p to | None ↦ false ] ≡ true → elim q [ Some to ↦ p to | None ↦ false ] ≡ true

    variable-takes : (from : CType) {o p : Option Declared} → Told o p → IfTakes (converts from) (option_and_then type_of_variable o) (option_and_then type_of_variable p)
    variable-takes from told_none is = is
    variable-takes from (told_one stays) is = is
    variable-takes from (told_one (turns {name} {a} {c} size)) is = by from.base from.pointer is
      where
        by : (base : Base) (p : Bool) → converts (record { base = base; pointer = p }) (plain a) ≡ true → converts (record { base = base; pointer = p }) (plain c) ≡ true
        by base false is = refl
        by base true is = let no : false ≡ true = (and_parts (same_base base a) false is).1 in absurd cc

    place-takes : (place : Expr) (from : CType) → place_takes was_declared place from ≡ true → place_takes is_declared (placed was_declared is_declared place) from ≡ true
    place-takes (Name word) from is = variable-takes from (told was_declared is_declared word (all-declared tree f)) is
    place-takes (Unary Deref a) from is = ap (λ o. elim o [ Some to ↦ converts from to | None ↦ false ]) (type-same (Unary Deref a)) ∙ is
    place-takes (Unary Minus a) from is = absurd cc
    place-takes (Unary Complement a) from is = absurd cc
    place-takes (Unary Not a) from is = absurd cc
    place-takes (Unary AddressOf a) from is = absurd cc
    place-takes (Number n base) from is = absurd cc
    place-takes (Binary operator a b) from is = absurd cc
    place-takes (Conditional a b c) from is = absurd cc
    place-takes (Cast type a) from is = absurd cc

    value-allowed : (place e : Expr) → allows_stmt tree f (Assign place e) ≡ true → allows_stmt text (function_after type_for tree f) (stmt_by as_written (Assign place e)) ≡ true
    value-allowed place e allowed =
        let has = has-type (place_type was_declared place) (λ to. fits was_declared to e) allowed in
        let fit : fits was_declared has.0 e ≡ true = subst (λ o. elim o [ Some to ↦ fits was_declared to e | None ↦ false ] ≡ true) has.1 allowed in
        let is = has-type (type_of was_declared e) (λ from. converts from has.0) fit in
        let converts_to : converts is.0 has.0 ≡ true = subst (λ o. elim o [ Some from ↦ converts from has.0 | None ↦ false ] ≡ true) is.1 fit in
        let takes_it : place_takes was_declared place is.0 ≡ true = subst (λ o. elim o [ Some to ↦ converts is.0 to | None ↦ false ] ≡ true) (sym has.1) converts_to in
        subst (λ q. elim (place_type is_declared (placed was_declared is_declared place)) [ Some to ↦ elim q [ Some from ↦ converts from to | None ↦ false ] | None ↦ false ] ≡ true)
        (sym (type-same e ∙ is.1)) (place-takes place is.0 takes_it)

    result-kept : (place : Option Expr) (result : Option CType) → result_fits was_declared place result ≡ true → result_fits is_declared (option_map (placed was_declared is_declared) place) result ≡ true
    result-kept None result fit = refl
    result-kept (Some place) None fit = absurd cc
    result-kept (Some place) (Some from) fit = place-takes place from fit

    call-kept : (place : Option Expr) (es : List Expr) (o : Option Signature) → call_fits was_declared place es o ≡ true → call_fits is_declared (option_map (placed was_declared is_declared) place) (map (exact was_declared is_declared) es) o ≡ true
    call-kept place es None fit = absurd cc
    call-kept place es (Some known) fit =
        let parts = and_parts (result_fits was_declared place known.result) (fit_all was_declared known.params es) fit in
        and_from (result_fits is_declared (option_map (placed was_declared is_declared) place) known.result) (fit_all is_declared known.params (map (exact was_declared is_declared) es)) (result-kept place known.result parts.0) (all-fit known.params es ∙ parts.1)

    returned-fits : (e : Expr) (o : Option CType) → elim o [ Some to ↦ fits was_declared to e | None ↦ false ] ≡ true → elim o [ Some to ↦ fits is_declared to (exact was_declared is_declared e) | None ↦ false ] ≡ true
    returned-fits e (Some type) fit = fits-same type e ∙ fit
    returned-fits e None fit = absurd cc

    all-written : (es : List Expr) → list_all is_writable_expr (map (exact was_declared is_declared) es) ≡ list_all is_writable_expr es
    all-written [] = refl
    all-written (e ∷ es) = ap₂ (λ a b. a && b) (exact-written was_declared is_declared e) (all-written es)

    may-be-written : MayBeWritten tree text f (function_after type_for tree f) as_written
    may-be-written = record {
      test = test-number;
      choice = λ e is. ap (λ o. elim o [ Some t ↦ not t.pointer && rules.is_word_base (promoted_type t.base) | None ↦ false ]) (type-same e) ∙ is;
      value = value-allowed;
      call = λ place function es depth allowed.
          subst (λ o. call_fits is_declared (option_map (placed was_declared is_declared) place) (map (exact was_declared is_declared) es) o ≡ true) (sym (signature-same tree function)) (call-kept place es (signature_in tree function) allowed);
      returned = λ e allowed. returned-fits e f.result allowed;
      test_written = λ e is. tested-written was_declared is_declared e ∙ is;
      choice_written = λ e is. exact-written was_declared is_declared e ∙ is;
      place_written = λ place is. placed-written was_declared is_declared place is;
      value_written = λ place e is. exact-written was_declared is_declared e ∙ is;
      arguments_written = λ function es is. all-written es ∙ is;
      returned_written = λ e is. exact-written was_declared is_declared e ∙ is;
    }

    -- Depth.

    abbrev Shallow : ℕ → List Expr → Type 0
    Shallow limit es = list_all (λ e. nat_le (expr_depth e) limit) es ≡ true

    one-shallow : (e h : Expr) (es hs : List Expr) → expr_depth h ≤ suc (expr_depth e) → (Shallow 199 es → Shallow 200 hs) → Shallow 199 (e ∷ es) → Shallow 200 (h ∷ hs)
    one-shallow e h es hs less others all =
        let parts = and_parts (nat_le (expr_depth e) 199) (list_all (λ e. nat_le (expr_depth e) 199) es) all in
        let few : expr_depth h ≤ 200 = (let most = leb-true (expr_depth e) 199 parts.0 in omega (arith, less, most)) in
        and_from (nat_le (expr_depth h) 200) (list_all (λ e. nat_le (expr_depth e) 200) hs) (le-leb (expr_depth h) 200 few) (others parts.1)

    all-shallow : (es : List Expr) → Shallow 199 es → Shallow 200 (map (exact was_declared is_declared) es)
    all-shallow [] all = refl
    all-shallow (e ∷ es) all = one-shallow e (exact was_declared is_declared e) es (map (exact was_declared is_declared) es) (exact-depth was_declared is_declared e) (all-shallow es) all

    one-test-shallow : (e : Expr) → Shallow 199 (e ∷ []) → Shallow 200 (tested was_declared is_declared e ∷ [])
    one-test-shallow e all = one-shallow e (tested was_declared is_declared e) [] [] (tested-depth was_declared is_declared e) (λ none. none) all

    shallow : (stmt : Stmt) → shallow_stmt 199 stmt ≡ true → shallow_stmt 200 (stmt_by as_written stmt) ≡ true
    shallow (Assign place e) all =
        one-shallow place (placed was_declared is_declared place) (e ∷ []) (exact was_declared is_declared e ∷ []) (placed-depth was_declared is_declared place) (all-shallow (e ∷ [])) all
    shallow (Call None function es depth) all = all-shallow es all
    shallow (Call (Some place) function es depth) all =
        one-shallow place (placed was_declared is_declared place) es (map (exact was_declared is_declared) es) (placed-depth was_declared is_declared place) (all-shallow es) all
    shallow (If e body otherwise) all = one-test-shallow e all
    shallow (While e body) all = one-test-shallow e all
    shallow (DoWhile body e) all = one-test-shallow e all
    shallow (Forever body) all = refl
    shallow (Switch e arms last) all = all-shallow (e ∷ []) all
    shallow Break all = refl
    shallow Continue all = refl
    shallow (Goto word) all = refl
    shallow (Label word) all = refl
    shallow Empty all = refl
    shallow (Return None) all = refl
    shallow (Return (Some e)) all = all-shallow (e ∷ []) all

    -- where no type changes, the expression is as it was
    module _ (ds : List Declared) where
      never : (name : Expr) → was ds ds name ≡ None
      never name = by (type_of ds name)
        where
          by : (o : Option CType) → changed_from o o ≡ None
          by None = refl
          by (Some t) = ap (λ b. if b then None else Some t) (same-self t)

      either-one : (b : Bool) (a h : Expr) → h ≡ a → (if b then a else h) ≡ a
      either-one true a h same_one = refl
      either-one false a h same_one = same_one

      as-it-was : (e : Expr) → exact ds ds e ≡ e
      as-it-was (Number n base) = refl
      as-it-was (Name word) = ap (λ o. elim o [ Some type ↦ Cast type (Name word) | None ↦ Name word ]) (never (Name word))
      as-it-was (Unary operator a) = ap (Unary operator) (either-one (spares_one ds ds operator a) a (exact ds ds a) (as-it-was a))
      as-it-was (Binary operator a b) =
          ap₂ (Binary operator) (either-one (spares_left ds ds operator a b) a (exact ds ds a) (as-it-was a)) (either-one (spares_right ds ds operator a b) b (exact ds ds b) (as-it-was b))
      as-it-was (Conditional a b c) =
          ap (λ x. Conditional x (exact ds ds b) (exact ds ds c)) (either-one (is_bare ds ds a) a (exact ds ds a) (as-it-was a))
          ∙ ap₂ (Conditional a) (as-it-was b) (as-it-was c)
      as-it-was (Cast type (Name word)) =
          ap (λ o. elim o [ Some own ↦ if nat_le (room_of type) (room_of own) then bare ds ds type (Name word) else Cast type (Cast own (Name word)) | None ↦ Cast type (Name word) ]) (never (Name word))
      as-it-was (Cast type (Number n base)) = refl
      as-it-was (Cast type (Unary operator a)) = ap (Cast type) (as-it-was (Unary operator a))
      as-it-was (Cast type (Binary operator a b)) = ap (Cast type) (as-it-was (Binary operator a b))
      as-it-was (Cast type (Conditional a b c)) = ap (Cast type) (as-it-was (Conditional a b c))
      as-it-was (Cast type (Cast other a)) = ap (Cast type) (as-it-was (Cast other a))

      all-as-they-were : (es : List Expr) → map (exact ds ds) es ≡ es
      all-as-they-were [] = refl
      all-as-they-were (e ∷ es) = ap₂ (λ x xs. x ∷ xs) (as-it-was e) (all-as-they-were es)

      placed-as-it-was : (e : Expr) → placed ds ds e ≡ e
      placed-as-it-was e = either-one (is_name e) e (exact ds ds e) (as-it-was e)

      tested-as-it-was : (e : Expr) → tested ds ds e ≡ e
      tested-as-it-was e = either-one (is_bare ds ds e) e (exact ds ds e) (as-it-was e)

      abbrev Low : List Expr → Bool
      Low es = list_all (λ e. nat_le (expr_depth e) 200) es

      shallow-as-it-was : (stmt : Stmt) → shallow_stmt 200 stmt ≡ true → shallow_stmt 200 (stmt_by (written_as ds ds) stmt) ≡ true
      shallow-as-it-was (Assign place e) all = ap₂ (λ p x. Low (p ∷ x ∷ [])) (placed-as-it-was place) (as-it-was e) ∙ all
      shallow-as-it-was (Call None function es depth) all = ap Low (all-as-they-were es) ∙ all
      shallow-as-it-was (Call (Some place) function es depth) all = ap₂ (λ p xs. Low (p ∷ xs)) (placed-as-it-was place) (all-as-they-were es) ∙ all
      shallow-as-it-was (If e body otherwise) all = ap (λ x. Low (x ∷ [])) (tested-as-it-was e) ∙ all
      shallow-as-it-was (While e body) all = ap (λ x. Low (x ∷ [])) (tested-as-it-was e) ∙ all
      shallow-as-it-was (DoWhile body e) all = ap (λ x. Low (x ∷ [])) (tested-as-it-was e) ∙ all
      shallow-as-it-was (Forever body) all = refl
      shallow-as-it-was (Switch e arms last) all = ap (λ x. Low (x ∷ [])) (as-it-was e) ∙ all
      shallow-as-it-was Break all = refl
      shallow-as-it-was Continue all = refl
      shallow-as-it-was (Goto word) all = refl
      shallow-as-it-was (Label word) all = refl
      shallow-as-it-was Empty all = refl
      shallow-as-it-was (Return None) all = refl
      shallow-as-it-was (Return (Some e)) all = ap (λ x. Low (x ∷ [])) (as-it-was e) ∙ all

    depth-kept : list_all (shallow_stmt 200) (stmts_in f.body) ≡ true → list_all (shallow_stmt 200) (stmts_in (lines_by as_written f.body)) ≡ true
    depth-kept all = by (is_shallow f) refl
      where
        by : (b : Bool) → is_shallow f ≡ b → list_all (shallow_stmt 200) (stmts_in (lines_by as_written f.body)) ≡ true
        by true is = all-lines as_written (shallow_stmt 199) (shallow_stmt 200) shallow f.body is
        by false is =
            let locals : locals_after type_for tree f ≡ f.locals = ap (λ b. if b then map (local_after type_for tree f) f.locals else f.locals) is in
            subst (λ (vs : List Variable). list_all (shallow_stmt 200) (stmts_in (lines_by (written_as was_declared (declared_in tree (record f { locals = vs }))) f.body)) ≡ true) (sym locals)
            (all-lines (written_as was_declared was_declared) (shallow_stmt 200) (shallow_stmt 200) (shallow-as-it-was was_declared) f.body all)

    -- what local variables have besides their types
    locals-kept : {A : Type 0} (part : Variable → A) → ((v : Variable) (t : CType) → part (record v { type = t }) ≡ part v) → map part (locals_after type_for tree f) ≡ map part f.locals
    locals-kept part same_part = by (is_shallow f)
      where
        one-local : (v : Variable) → part (local_after type_for tree f v) ≡ part v
        one-local v = either (is_free v)
          where
            either : (b : Bool) → part (if b then record v { type = plain (type_for tree f v) } else v) ≡ part v
            either true = same_part v (plain (type_for tree f v))
            either false = refl

        all-local : (vs : List Variable) → map part (map (local_after type_for tree f) vs) ≡ map part vs
        all-local [] = refl
        all-local (v ∷ vs) = ap₂ (λ x xs. x ∷ xs) (one-local v) (all-local vs)

        by : (b : Bool) → map part (if b then map (local_after type_for tree f) f.locals else f.locals) ≡ map part f.locals
        by true = all-local f.locals
        by false = refl

    locals-test : (p : Variable → Bool) → ((v : Variable) (t : CType) → p (record v { type = t }) ≡ p v) → list_all p (locals_after type_for tree f) ≡ list_all p f.locals
    locals-test p same_part =
        all-mapped (locals_after type_for tree f) ∙ ap (list_all (λ b. b)) (locals-kept p same_part) ∙ sym (all-mapped f.locals)
      where
        all-mapped : (vs : List Variable) → list_all p vs ≡ list_all (λ b. b) (map p vs)
        all-mapped [] = refl
        all-mapped (v ∷ vs) = ap (λ b. p v && b) (all-mapped vs)

    names-kept : names_of (own_variables (function_after type_for tree f)) ≡ names_of (own_variables f)
    names-kept =
        map-append (λ (v : Variable). v.name) f.params (locals_after type_for tree f)
        ∙ ap (λ names. map (λ (v : Variable). v.name) f.params ++ names) (locals-kept (λ v. v.name) (λ v t. refl))
        ∙ sym (map-append (λ (v : Variable). v.name) f.params f.locals)

  -- The whole text.

  module _ (tree : Tree) where
    function-names : (functions : List Function) → map (λ (f : Function). f.name) (map (function_after type_for tree) functions) ≡ map (λ (f : Function). f.name) functions
    function-names [] = refl
    function-names (f ∷ functions) = ap (λ names. f.name ∷ names) (function-names functions)

    known-same : known_names (redeclared type_for tree) ≡ known_names tree
    known-same = ap (λ names. map (λ g. g.name) tree.globals ++ (names ++ dos_names)) (function-names tree.functions)

    one-function : (f : Function) → IsAllowedFunction tree f → IsAllowedFunction (redeclared type_for tree) (function_after type_for tree f)
    one-function f allowed = record {
      own_names = ap₂ (λ own names. all_differ (own ++ names)) (names-kept tree f) known-same ∙ allowed.own_names;
      labels = labels-allowed (writing type_for tree f) f.body ∙ allowed.labels;
      types = all-lines (writing type_for tree f) (allows_stmt tree f) (allows_stmt (redeclared type_for tree) (function_after type_for tree f)) (own-allowed tree (redeclared type_for tree) f (function_after type_for tree f) (writing type_for tree f) refl (may-be-written tree f)) f.body allowed.types;
      arrays = locals-test tree f (λ v. has_element v.len) (λ v t. refl) ∙ allowed.arrays;
      depth = depth-kept tree f allowed.depth;
    }

    all-functions : (functions : List Function) → AreAllowed tree functions → AreAllowed (redeclared type_for tree) (map (function_after type_for tree) functions)
    all-functions [] are = rules.no_more
    all-functions (f ∷ functions) (rules.one_more first others) = rules.one_more (one-function f first) (all-functions functions others)

    all-writable : (functions : List Function) → list_all is_writable_function functions ≡ true → list_all is_writable_function (map (function_after type_for tree) functions) ≡ true
    all-writable [] all = refl
    all-writable (f ∷ functions) all =
        let first = and_parts (is_writable_function f) (list_all is_writable_function functions) all in
        let named = and_parts (is_written_name f.name) (list_all is_writable_param f.params && (list_all is_writable_local f.locals && are_writable_lines outermost false f.body)) first.0 in
        let two = and_parts (list_all is_writable_param f.params) (list_all is_writable_local f.locals && are_writable_lines outermost false f.body) named.1 in
        let three = and_parts (list_all is_writable_local f.locals) (are_writable_lines outermost false f.body) two.1 in
        and_from (is_writable_function (function_after type_for tree f)) (list_all is_writable_function (map (function_after type_for tree) functions))
        (and_from (is_written_name f.name) (list_all is_writable_param f.params && (list_all is_writable_local (locals_after type_for tree f) && are_writable_lines outermost false (lines_by (writing type_for tree f) f.body))) named.0
        (and_from (list_all is_writable_param f.params) (list_all is_writable_local (locals_after type_for tree f) && are_writable_lines outermost false (lines_by (writing type_for tree f) f.body)) two.0
        (and_from (list_all is_writable_local (locals_after type_for tree f)) (are_writable_lines outermost false (lines_by (writing type_for tree f) f.body)) (locals-test tree f is_writable_local (λ v t. refl) ∙ three.0)
        (lines-writable tree (redeclared type_for tree) f (function_after type_for tree f) (writing type_for tree f) refl (may-be-written tree f) outermost false f.body three.1))))
        (all-writable functions first.1)

    -- a text stays writable
    pub redeclared-writable : IsWritable tree → IsWritable (redeclared type_for tree)
    redeclared-writable is =
        let rule = is.allowed in record {
          version = is.version;
          globals = is.globals;
          functions = all-writable tree.functions is.functions;
          allowed = record {
            start = function_after type_for tree rule.start;
            others = map (function_after type_for tree) rule.others;
            first = ap (map (function_after type_for tree)) rule.first;
            name = rule.name;
            no_params = rule.no_params;
            no_result = rule.no_result;
            names = ap all_differ known-same ∙ rule.names;
            functions = all-functions tree.functions rule.functions;
            lo = rule.lo;
            hi = rule.hi;
            globals = rule.globals;
            apart = rule.apart;
            off_stack = rule.off_stack;
          };
        }

    functions-alike : (functions : List Function) (at there : ℕ) → AreAllowed (numbered tree) (numbered_functions at functions) →
        AllZip (FunctionAlike (numbered tree) (numbered (redeclared type_for tree))) (numbered_functions at functions) (numbered_functions there (map (function_after type_for tree) functions))
    functions-alike [] at there are = tt
    functions-alike (f ∷ functions) at there (rules.one_more first others) =
        (function-alike tree f at there first.types, functions-alike functions _ _ others)

    -- with its lines counted it is the text, whose lines are counted, otherwise written
    pub redeclared-respelled : IsAllowed (numbered tree) → IsRespelled (numbered tree) (numbered (redeclared type_for tree))
    redeclared-respelled allowed =
        let at = 3 + rows (written_globals None tree.globals) in record {
          hi = refl;
          memory = λ fill. refl;
          functions = functions-alike tree.functions at at allowed.functions;
        }
