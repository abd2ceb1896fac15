-- A text whose accesses are written by names is the text otherwise written, and writable.
use Rattle.std.proofs.Common.{◌≡◌, ℕ, ◌+◌, ◌≤◌, Bool, true, false, ◌&&◌, ◌||◌, not, List, [], ◌∷◌, map, Option, Some, None, refl, sym, ap, ap₂, ◌∙◌, subst, arith}
use Rattle.std.specs.Prelude.{codes, if◌then◌else◌, option_map, option_and_then, nat_le}
use Rattle.std.specs.List.{list_all, list_any, flat_map}
use Rattle.std.proofs.lemmas.Bool.{and_parts, and_from}
use Rattle.std.proofs.lemmas.List.Folds.{list_any-append}
use Rattle.dcc_c.specs.declared.syntax.Base.{Base}
use Rattle.dcc_c.specs.declared.syntax.Base.TheVariants.{Uchar, Uint}
use Rattle.dcc_c.specs.declared.syntax.CType.{CType}
use Rattle.dcc_c.specs.Token.{same_bytes}
use Rattle.dcc_c.specs.Types.{plain, pointer_to, promoted_type}
use Rattle.dcc_c.specs.Tree.{Word, Expr, Number, Name, Cast, Stmt, Assign, Call, If, While, DoWhile, Forever, Switch, Break, Continue, Goto, Label, Empty, Return, Global, Function, Tree}
use Rattle.dcc_c.specs.Dos.{Puts, dos_signature, Signature}
use Rattle.dcc_c.specs.Grammar.{is_name}
use Rattle.dcc_c.specs.Parts.{parts_of, exprs_of}
use Rattle.dcc_c.specs.Placement.{is_address_of}
use Rattle.dcc_c.specs.Typing.{Declared, place_type, type_of}
use Rattle.dcc_c.specs.Rules.{declared_in, converts, fits, is_number, is_switch_value, fit_all, result_fits, call_fits, allows_stmt, expr_depth, shallow_stmt, signature_in, IsAllowedFunction, AreAllowed, IsAllowed}
use Rattle.dcc_c.specs.Rules as rules
use Rattle.dcc_c.specs.Numbered.{rows, numbered_function, numbered_functions, numbered}
use Rattle.dcc_c.specs.Written.{written_globals}
use Rattle.dcc_c.proofs.NameLaws.{same_bytes-equal}
use Rattle.dcc_c.proofs.Writable.{is_writable_expr, is_writable_place, IsWritable}
use Rattle.dcc_progress.proofs.Values.{has-type}
use Rattle.dcc_respell.specs.Respelled.{IsRespelled}
use Rattle.dcc_respell.specs.Writing.{Writing, stmt_by, function_by, KeepsAddresses, MayStand}
use Rattle.dcc_respell.proofs.Scopes.{written-signature}
use Rattle.dcc_respell.proofs.Written.{MeanAlike, functions-alike}
use Rattle.dcc_respell.proofs.Allowed.{AllMayStand, written-writable}
use Rattle.dcc_named.specs.Named.{begins_at, is_bytes, offset_of, named, by_names, text_argument, takes_text, argument_named, writing, with_names}
use Rattle.dcc_named.proofs.Operands.{some-same, number-typed}
use Rattle.dcc_named.proofs.Accesses.{AreDeclared, AreNames, bytes-typed}
use Rattle.dcc_named.proofs.Expressions.{named-typed, named-placed, named-taken, named-written, place-written}
use Rattle.dcc_named.proofs.Meaning.{HasNames, has-names, are-names, are-declared, either, text-either, argument, means}

-- One function in its text.

module _ (tree : Tree) (f : Function) where
  abbrev after_text : Tree
  after_text = with_names tree

  abbrev w : Writing
  w = writing tree f

  abbrev names : List Declared
  names = declared_in tree f

  abbrev new : Expr → Expr
  new e = by_names tree f e

  -- Addresses.

  module _ (word : Word) where
    abbrev Taken : Expr → Bool
    Taken e = list_any (is_address_of word) (parts_of e)

    abbrev AllTaken : List Expr → Bool
    AllTaken es = list_any (is_address_of word) (flat_map parts_of es)

    new-taken : (e : Expr) → Taken (new e) ≡ Taken e
    new-taken e = either (λ h. Taken h ≡ Taken e) e (named tree.globals names e) refl (named-taken tree.globals names word e)

    argument-taken : (b : Bool) (e : Expr) → Taken (argument tree f b e) ≡ Taken e
    argument-taken false e = new-taken e
    argument-taken true e = text-either tree f (λ h. Taken h ≡ Taken e) e (new-taken e) (λ n type g same there bytes. ap Taken (sym same))

    one-more : (e h : Expr) (es hs : List Expr) → Taken h ≡ Taken e → AllTaken hs ≡ AllTaken es → AllTaken (h ∷ hs) ≡ AllTaken (e ∷ es)
    one-more e h es hs first others =
        list_any-append (is_address_of word) (parts_of h) (flat_map parts_of hs) ∙ ap₂ (λ a b. a || b) first others ∙ sym (list_any-append (is_address_of word) (parts_of e) (flat_map parts_of es))

    all-taken : (b : Bool) (es : List Expr) → AllTaken (map (argument tree f b) es) ≡ AllTaken es
    all-taken b [] = refl
    all-taken b (e ∷ es) = one-more e (argument tree f b e) es (map (argument tree f b) es) (argument-taken b e) (all-taken b es)

  keeps-addresses : KeepsAddresses w
  keeps-addresses (Assign place e) word = one-more word place (new place) (e ∷ []) (new e ∷ []) (new-taken word place) (one-more word e (new e) [] [] (new-taken word e) refl)
  keeps-addresses (Call None function es depth) word = all-taken word (takes_text function) es
  keeps-addresses (Call (Some place) function es depth) word = one-more word place (new place) es (w.arguments function es) (new-taken word place) (all-taken word (takes_text function) es)
  keeps-addresses (If e body otherwise) word = one-more word e (new e) [] [] (new-taken word e) refl
  keeps-addresses (While e body) word = one-more word e (new e) [] [] (new-taken word e) refl
  keeps-addresses (DoWhile body e) word = one-more word e (new e) [] [] (new-taken word e) refl
  keeps-addresses (Forever body) word = refl
  keeps-addresses (Switch e arms last) word = one-more word e (new e) [] [] (new-taken word e) refl
  keeps-addresses Break word = refl
  keeps-addresses Continue word = refl
  keeps-addresses (Goto other) word = refl
  keeps-addresses (Label other) word = refl
  keeps-addresses Empty word = refl
  keeps-addresses (Return None) word = refl
  keeps-addresses (Return (Some e)) word = one-more word e (new e) [] [] (new-taken word e) refl

  -- Depth.

  abbrev IsShallow : Expr → Type 0
  IsShallow e = nat_le (expr_depth e) 200 ≡ true

  new-shallow : (e : Expr) → IsShallow e → IsShallow (new e)
  new-shallow e is = by (nat_le (expr_depth (named tree.globals names e)) 200) refl
    where
      by : (b : Bool) → nat_le (expr_depth (named tree.globals names e)) 200 ≡ b → IsShallow (if b then named tree.globals names e else e)
      by true own = own
      by false own = is

  argument-shallow : (b : Bool) (e : Expr) → IsShallow e → IsShallow (argument tree f b e)
  argument-shallow false e is = new-shallow e is
  argument-shallow true e is = text-either tree f IsShallow e (new-shallow e is) (λ n type g same there bytes. refl)

  abbrev AreShallow : List Expr → Type 0
  AreShallow es = list_all (λ e. nat_le (expr_depth e) 200) es ≡ true

  one-shallow : (e h : Expr) (es hs : List Expr) → (IsShallow e → IsShallow h) → (AreShallow es → AreShallow hs) → AreShallow (e ∷ es) → AreShallow (h ∷ hs)
  one-shallow e h es hs first others all =
      let parts = and_parts (nat_le (expr_depth e) 200) (list_all (λ x. nat_le (expr_depth x) 200) es) all in
      and_from (nat_le (expr_depth h) 200) (list_all (λ x. nat_le (expr_depth x) 200) hs) (first parts.0) (others parts.1)

  all-shallow : (b : Bool) (es : List Expr) → AreShallow es → AreShallow (map (argument tree f b) es)
  all-shallow b [] all = refl
  all-shallow b (e ∷ es) all = one-shallow e (argument tree f b e) es (map (argument tree f b) es) (argument-shallow b e) (all-shallow b es) all

  shallow : (stmt : Stmt) → shallow_stmt 200 stmt ≡ true → shallow_stmt 200 (stmt_by w stmt) ≡ true
  shallow (Assign place e) all = one-shallow place (new place) (e ∷ []) (new e ∷ []) (new-shallow place) (one-shallow e (new e) [] [] (new-shallow e) (λ none. none)) all
  shallow (Call None function es depth) all = all-shallow (takes_text function) es all
  shallow (Call (Some place) function es depth) all = one-shallow place (new place) es (w.arguments function es) (new-shallow place) (all-shallow (takes_text function) es) all
  shallow (If e body otherwise) all = one-shallow e (new e) [] [] (new-shallow e) (λ none. none) all
  shallow (While e body) all = one-shallow e (new e) [] [] (new-shallow e) (λ none. none) all
  shallow (DoWhile body e) all = one-shallow e (new e) [] [] (new-shallow e) (λ none. none) all
  shallow (Forever body) all = refl
  shallow (Switch e arms last) all = one-shallow e (new e) [] [] (new-shallow e) (λ none. none) all
  shallow Break all = refl
  shallow Continue all = refl
  shallow (Goto word) all = refl
  shallow (Label word) all = refl
  shallow Empty all = refl
  shallow (Return None) all = refl
  shallow (Return (Some e)) all = one-shallow e (new e) [] [] (new-shallow e) (λ none. none) all

  -- What can be written.

  module _ (are : AreNames tree.globals names) where
    new-written : (e : Expr) → is_writable_expr e ≡ true → is_writable_expr (new e) ≡ true
    new-written e is = either (λ h. is_writable_expr h ≡ true) e (named tree.globals names e) is (named-written tree.globals names are e is)

    new-place : (e : Expr) → is_writable_place e ≡ true → is_writable_place (new e) ≡ true
    new-place e is = either (λ h. is_writable_place h ≡ true) e (named tree.globals names e) is (place-written tree.globals names are e is)

    argument-written : (b : Bool) (e : Expr) → is_writable_expr e ≡ true → is_writable_expr (argument tree f b e) ≡ true
    argument-written false e is = new-written e is
    argument-written true e is = text-either tree f (λ h. is_writable_expr h ≡ true) e (new-written e is) (λ n type g same there bytes. are (offset_of n type) g there)

    all-written : (b : Bool) (es : List Expr) → list_all is_writable_expr es ≡ true → list_all is_writable_expr (map (argument tree f b) es) ≡ true
    all-written b [] all = refl
    all-written b (e ∷ es) all =
        let parts = and_parts (is_writable_expr e) (list_all is_writable_expr es) all in
        and_from (is_writable_expr (argument tree f b e)) (list_all is_writable_expr (map (argument tree f b) es)) (argument-written b e parts.0) (all-written b es parts.1)

  -- Types.

  module _ (has : HasNames tree f) where
    declared : AreDeclared tree.globals names
    declared = are-declared tree f has

    new-typed : (e : Expr) (t : CType) → type_of names e ≡ Some t → type_of names (new e) ≡ Some t
    new-typed e t is = either (λ h. type_of names h ≡ Some t) e (named tree.globals names e) is (named-typed tree.globals names declared e t is)

    new-placed : (e : Expr) (t : CType) → place_type names e ≡ Some t → place_type names (new e) ≡ Some t
    new-placed e t is = either (λ h. place_type names h ≡ Some t) e (named tree.globals names e) is (named-placed tree.globals names declared e t is)

    -- what is told of an expression by its type
    new-passes : (p : CType → Bool) (e : Expr) → elim (type_of names e) [ Some t ↦ p t | None ↦ false ] ≡ true → elim (type_of names (new e)) [ Some t ↦ p t | None ↦ false ] ≡ true
    new-passes p e is =
        let typed = has-type (type_of names e) p is in ap (λ o. elim o [ Some t ↦ p t | None ↦ false ]) (new-typed e typed.0 typed.1 ∙ sym typed.1) ∙ is

    place-passes : (p : CType → Bool) (e : Expr) → elim (place_type names e) [ Some t ↦ p t | None ↦ false ] ≡ true → elim (place_type names (new e)) [ Some t ↦ p t | None ↦ false ] ≡ true
    place-passes p e is =
        let typed = has-type (place_type names e) p is in ap (λ o. elim o [ Some t ↦ p t | None ↦ false ]) (new-placed e typed.0 typed.1 ∙ sym typed.1) ∙ is

    value-allowed : (place e : Expr) → elim (place_type names place) [ Some to ↦ fits names to e | None ↦ false ] ≡ true → elim (place_type names (new place)) [ Some to ↦ fits names to (new e) | None ↦ false ] ≡ true
    value-allowed place e is =
        let placed = has-type (place_type names place) (λ to. fits names to e) is in
        let fit : fits names placed.0 e ≡ true = subst (λ o. elim o [ Some to ↦ fits names to e | None ↦ false ] ≡ true) placed.1 is in
        subst (λ o. elim o [ Some to ↦ fits names to (new e) | None ↦ false ] ≡ true) (sym (new-placed place placed.0 placed.1)) (new-passes (λ from. converts from placed.0) e fit)

    result-fit : (place : Option Expr) (result : Option CType) → result_fits names place result ≡ true → result_fits names (option_map new place) result ≡ true
    result-fit None result fit = refl
    result-fit (Some place) None fit = absurd cc
    result-fit (Some place) (Some from) fit = place-passes (converts from) place fit

    argument-fits : (b : Bool) (type : CType) (e : Expr) → (b ≡ true → plain Uint ≡ type) → fits names type e ≡ true → fits names type (argument tree f b e) ≡ true
    argument-fits false type e text fit = new-passes (λ from. converts from type) e fit
    argument-fits true type e text fit =
        text-either tree f (λ h. fits names type h ≡ true) e (new-passes (λ from. converts from type) e fit)
        (λ n base g same there bytes.
        subst (λ t. fits names t (Cast (plain Uint) (Name g.name)) ≡ true) (text refl)
        (ap (λ o. elim (option_map (λ from. plain Uint) o) [ Some from ↦ converts from (plain Uint) | None ↦ false ]) (bytes-typed tree.globals names declared (offset_of n base) g there bytes)))

    all-fit : (b : Bool) (types : List CType) (es : List Expr) → (b ≡ true → types ≡ plain Uint ∷ []) → fit_all names types es ≡ true → fit_all names types (map (argument tree f b) es) ≡ true
    all-fit b [] [] text fit = refl
    all-fit b (type ∷ types) (e ∷ es) text fit =
        let parts = and_parts (fits names type e) (fit_all names types es) fit in
        and_from (fits names type (argument tree f b e)) (fit_all names types (map (argument tree f b) es)) (argument-fits b type e (λ is. first-type (text is)) parts.0) (others b types es text parts.1)
      where
        first-type : {a c : CType} {xs ys : List CType} → a ∷ xs ≡ c ∷ ys → c ≡ a
        first-type e = cc

        rest-types : {a c : CType} {xs ys : List CType} → a ∷ xs ≡ c ∷ ys → xs ≡ ys
        rest-types e = cc

        others : (b : Bool) (types : List CType) (es : List Expr) → (b ≡ true → type ∷ types ≡ plain Uint ∷ []) → fit_all names types es ≡ true → fit_all names types (map (argument tree f b) es) ≡ true
        others false types es text fit = plain-fit types es fit
          where
            plain-fit : (types : List CType) (es : List Expr) → fit_all names types es ≡ true → fit_all names types (map new es) ≡ true
            plain-fit [] [] fit = refl
            plain-fit (t ∷ types) (e ∷ es) fit =
                let parts = and_parts (fits names t e) (fit_all names types es) fit in
                and_from (fits names t (new e)) (fit_all names types (map new es)) (new-passes (λ from. converts from t) e parts.0) (plain-fit types es parts.1)
            plain-fit (t ∷ types) [] fit = absurd cc
            plain-fit [] (e ∷ es) fit = absurd cc
        others true [] [] text fit = refl
        others true (t ∷ types) es text fit = absurd (no-type (rest-types (text refl)))
          where
            no-type : {a : CType} {xs : List CType} → a ∷ xs ≡ [] → ⊥
            no-type e = cc
        others true [] (e ∷ es) text fit = absurd cc
    all-fit b (type ∷ types) [] text fit = absurd cc
    all-fit b [] (e ∷ es) text fit = absurd cc

    -- what a function that takes the address of a text takes
    text-params : (function : Word) (known : Signature) → signature_in tree function ≡ Some known → takes_text function ≡ true → known.params ≡ plain Uint ∷ []
    text-params function known is text =
        let named : function ≡ codes "dos_puts" = same_bytes-equal function (codes "dos_puts") text in
        let own : Some (dos_signature Puts) ≡ Some known = ap (signature_in tree) (sym named) ∙ is in
        ap (λ (s : Signature). s.params) (sym (some-same own))

    call-fit : (place : Option Expr) (function : Word) (es : List Expr) (o : Option Signature) → signature_in tree function ≡ o → call_fits names place es o ≡ true → call_fits names (option_map new place) (w.arguments function es) o ≡ true
    call-fit place function es None is fit = absurd cc
    call-fit place function es (Some known) is fit =
        let parts = and_parts (result_fits names place known.result) (fit_all names known.params es) fit in
        and_from (result_fits names (option_map new place) known.result) (fit_all names known.params (w.arguments function es)) (result-fit place known.result parts.0)
        (all-fit (takes_text function) known.params es (text-params function known is) parts.1)

    returned-allowed : (e : Expr) (o : Option CType) → elim o [ Some to ↦ fits names to e | None ↦ false ] ≡ true → elim o [ Some to ↦ fits names to (new e) | None ↦ false ] ≡ true
    returned-allowed e (Some to) fit = new-passes (λ from. converts from to) e fit
    returned-allowed e None fit = absurd cc

    may-stand : AreNames tree.globals names → MayStand tree after_text f (function_by (writing tree) f) w
    may-stand are = record {
      test = λ e is. new-passes (λ t. not t.pointer) e is;
      choice = λ e is. new-passes (λ t. not t.pointer && rules.is_word_base (promoted_type t.base)) e is;
      value = λ place e allowed. value-allowed place e allowed;
      call = λ place function es depth allowed.
          subst (λ o. call_fits names (option_map new place) (w.arguments function es) o ≡ true) (sym (written-signature (writing tree) tree function))
          (call-fit place function es (signature_in tree function) refl allowed);
      returned = λ e allowed. returned-allowed e f.result allowed;
      shallow = shallow;
      test_written = new-written are;
      choice_written = new-written are;
      place_written = new-place are;
      value_written = λ place. new-written are;
      arguments_written = λ function es is. all-written are (takes_text function) es is;
      returned_written = new-written are;
    }

-- The whole text.

module _ (tree : Tree) (is : IsWritable tree) where
  all-may : (functions : List Function) → AreAllowed tree functions → AllMayStand (writing tree) tree functions
  all-may [] allowed = tt
  all-may (f ∷ functions) (rules.one_more first others) = (may-stand tree f (has-names tree f is.allowed first) (are-names tree.globals (declared_in tree f) is.globals), all-may functions others)

  -- a text stays writable by names
  pub names-writable : IsWritable (with_names tree)
  names-writable = written-writable (writing tree) tree (all-may tree.functions is.allowed.functions) is

  all-mean : (functions : List Function) (at there : ℕ) → AreAllowed tree functions → AreAllowed (numbered tree) (numbered_functions at functions) → MeanAlike (writing tree) (numbered tree) (numbered (with_names tree)) functions at there
  all-mean [] at there plain allowed = tt
  all-mean (f ∷ functions) at there (rules.one_more own rest) (rules.one_more first others) =
      ((means tree f at there (has-names tree f is.allowed own), keeps-addresses tree f, first.types), all-mean functions _ _ rest others)

  -- with its lines counted it is the text, whose lines are counted, otherwise written
  pub names-respelled : IsAllowed (numbered tree) → IsRespelled (numbered tree) (numbered (with_names tree))
  names-respelled allowed =
      let at = 3 + rows (written_globals None tree.globals) in record {
        hi = refl;
        memory = λ fill. refl;
        functions = functions-alike (writing tree) (numbered tree) (numbered (with_names tree)) tree.functions at at (all-mean tree.functions at at is.allowed.functions allowed.functions);
      }
