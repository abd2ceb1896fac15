-- A function whose accesses are written by names means the same.
use Rattle.std.proofs.Common.{◌≡◌, ℕ, ◌+◌, ◌%◌, ◌<◌, Bool, true, false, ◌&&◌, ◌||◌, not, List, [], ◌∷◌, ◌++◌, map, Option, Some, None, refl, sym, ap, ap₂, ◌∙◌, subst, arith}
use Rattle.std.specs.Prelude.{codes, if◌then◌else◌, nat_le, option_and_then, ◌==◌}
use Rattle.std.specs.List.{AllZip, list_all, list_any, flat_map}
use Rattle.std.proofs.lemmas.Bool.{and_parts}
use Rattle.std.proofs.lemmas.List.Folds.{list_any-append}
use Rattle.dcc_c.specs.declared.syntax.Base.{Base}
use Rattle.dcc_c.specs.declared.syntax.Base.TheVariants.{Uint}
use Rattle.dcc_c.specs.declared.syntax.CType.{CType}
use Rattle.dcc_c.specs.Token.{same_bytes}
use Rattle.dcc_c.specs.Types.{plain, promoted_type}
use Rattle.dcc_c.specs.Tree.{Word, Expr, Number, Name, Unary, Binary, Conditional, Cast, Stmt, Assign, Call, If, While, DoWhile, Forever, Switch, Break, Continue, Goto, Label, Empty, Return, Lines, Global, Function, Tree}
use Rattle.dcc_c.specs.Dos.{Puts, dos_signature, Signature}
use Rattle.dcc_c.specs.Grammar.{is_name, is_among}
use Rattle.dcc_c.specs.Parts.{parts_of, exprs_of}
use Rattle.dcc_c.specs.Placement.{is_address_of}
use Rattle.dcc_c.specs.Typing.{Declared, declared_as, place_type, type_of}
use Rattle.dcc_c.specs.Rules.{all_differ, declared_in, converts, fits, is_number, is_switch_value, fit_all, allows_stmt, expr_depth, signature_in, IsAllowedFunction, IsAllowed}
use Rattle.dcc_c.specs.Rules as rules
use Rattle.dcc_c.specs.Numbered.{numbered_function, numbered}
use Rattle.dcc_c.specs.Value.{Value, value, is_zero, converted, Outcome, Gives, Divides, Undefined, and_then, Binding, declared_by, variable_in, Scope, value_of, Target, ToVariable, ToMemory, target_of}
use Rattle.dcc_c.specs.Run.{Frame, global_binding, arguments_of}
use Rattle.dcc_c.proofs.NameLaws.{same_bytes-equal}
use Rattle.dcc_c.proofs.TypingLaws.{IsOf, ArePlaced}
use Rattle.dcc_c.proofs.Writable.{is_writable_global, IsWritable}
use Rattle.dcc_progress.proofs.Bodies.{any_left}
use Rattle.dcc_progress.proofs.Declarations.{AreAs, Takes, takes-first, takes-others}
use Rattle.dcc_progress.proofs.Frames.{SameLength, own_declared, Lands, scope-as, arrays-placed}
use Rattle.dcc_progress.proofs.Values.{Holds, has-type, place-gives, arguments-give}
use Rattle.dcc_respell.specs.Respelled.{Both, SameBits, AllBits, TargetAlike, TakesAlike, CallsAlike, scope_in, BecomesAlike, AssignAlike, ArgumentsAlike}
use Rattle.dcc_respell.specs.Writing.{Writing, stmt_by, function_by, MeansAlike, KeepsAddresses}
use Rattle.dcc_respell.proofs.Scopes.{one-frame, one-scope, numbered-signature, written-signature}
use Rattle.dcc_named.specs.Named.{begins_at, is_bytes, offset_of, named, shallow_or, by_names, address_in, written_text, text_argument, takes_text, argument_named, writing, with_names}
use Rattle.dcc_named.proofs.Operands.{some-same, number-typed}
use Rattle.dcc_named.proofs.Sums.{offset-below, same-16}
use Rattle.dcc_named.proofs.Found.{begins-stands, own-none, declared-beyond, found-beyond}
use Rattle.dcc_named.proofs.Accesses.{AreDeclared, AreNames}
use Rattle.dcc_named.proofs.Values.{AreFound, array-gives}
use Rattle.dcc_named.proofs.Expressions.{named-typed, named-taken, has-value, named-value, named-target}

-- What is known of the names of the global variables.

pub record HasNames (tree : Tree) (f : Function) : Type 0 where
  pub differ : all_differ (map (λ g. g.name) tree.globals) ≡ true
  pub none : (at : ℕ) (g : Global) → begins_at tree.globals at ≡ Some g → declared_as (own_declared f) g.name ≡ None

differ-first : (xs ys : List Word) → all_differ (xs ++ ys) ≡ true → all_differ xs ≡ true
differ-first [] ys differ = refl
differ-first (x ∷ xs) ys differ =
    let parts = and_parts (not (is_among (xs ++ ys) x)) (all_differ (xs ++ ys)) differ in
    by (is_among xs x) (all_differ xs) refl parts.0 (differ-first xs ys parts.1)
  where
    by : (b c : Bool) → is_among xs x ≡ b → not (is_among (xs ++ ys) x) ≡ true → c ≡ true → (not b && c) ≡ true
    by false c is alone rest = rest
    by true c is alone rest = let no : false ≡ true = ap not (sym (any_left (same_bytes x) xs ys is)) ∙ alone in absurd cc

pub has-names : (tree : Tree) (f : Function) → IsAllowed tree → IsAllowedFunction tree f → HasNames tree f
has-names tree f allowed own =
    let differ = differ-first (map (λ g. g.name) tree.globals) _ allowed.names in
    record {
      differ = differ;
      none = λ at g there. own-none tree f g.name own (begins-stands tree.globals at g differ there).1.among;
    }

pub are-names : (globals : List Global) (names : List Declared) → list_all is_writable_global globals ≡ true → AreNames globals names
are-names [] names all at g there = absurd cc
are-names (h ∷ globals) names all at g there =
    let parts = and_parts (is_writable_global h) (list_all is_writable_global globals) all in
    by (h.at == at) (and_parts (is_name h.name) _ parts.0).0 (are-names globals names parts.1 at g) there
  where
    by : (b : Bool) → is_name h.name ≡ true → (begins_at globals at ≡ Some g → is_name g.name ≡ true) → (if b then Some h else begins_at globals at) ≡ Some g → is_name g.name ≡ true
    by true first later there = subst (λ x. is_name x.name ≡ true) (some-same there) first
    by false first later there = later there

pub are-declared : (tree : Tree) (f : Function) → HasNames tree f → AreDeclared tree.globals (declared_in tree f)
are-declared tree f has at g there =
    declared-beyond tree f g.name (has.none at g there) ∙ (begins-stands tree.globals at g has.differ there).1.declared

-- what holds of an expression and of the one by names holds of that of both which isn't too deep
pub either : (P : Expr → Type 0) (e h : Expr) → P e → P h → P (shallow_or e h)
either P e h first second = by (nat_le (expr_depth h) 200)
  where
    by : (b : Bool) → P (if b then h else e)
    by true = second
    by false = first

-- Texts that are written out.

module _ (tree : Tree) (f : Function) where
  -- an argument is as it was by names, or the address of an array
  pub text-either : (P : Expr → Type 0) (e : Expr) → P (by_names tree f e) →
      ((n : ℕ) (type : Base) (g : Global) → e ≡ Number n type → begins_at tree.globals (offset_of n type) ≡ Some g → is_bytes g ≡ true → P (Cast (plain Uint) (Name g.name))) → P (text_argument tree f e)
  text-either P (Number n type) was other = by (begins_at tree.globals (offset_of n type)) refl
    where
      array : (g : Global) → begins_at tree.globals (offset_of n type) ≡ Some g → (b : Bool) → is_bytes g ≡ b →
          P (elim (if b then Some (Cast (plain Uint) (Name g.name)) else None) [ Some address ↦ address | None ↦ by_names tree f (Number n type) ])
      array g there true bytes = other n type g refl there bytes
      array g there false bytes = was

      by : (o : Option Global) → begins_at tree.globals (offset_of n type) ≡ o → P (elim (option_and_then address_in o) [ Some address ↦ address | None ↦ by_names tree f (Number n type) ])
      by (Some g) there = array g there (is_bytes g) refl
      by None there = was
  text-either P (Name word) was other = was
  text-either P (Unary operator a) was other = was
  text-either P (Binary operator a b) was other = was
  text-either P (Conditional a b c) was other = was
  text-either P (Cast type a) was other = was

  -- an argument of a function that takes the address of a text, or of another one
  abbrev pub argument : Bool → Expr → Expr
  argument b e = if b then text_argument tree f e else by_names tree f e

-- One function, its lines counted.

takes-own : (variables : List Binding) (target : Target) (v : Value) → TakesAlike variables variables target target v v
takes-own variables (ToVariable word) v = λ b c here there. ap (λ (x : Binding). (converted x.type v).bits) (some-same (sym there ∙ here))
takes-own variables (ToMemory type at) v = refl

target-own : (target : Target) → TargetAlike target target
target-own (ToVariable word) = refl
target-own (ToMemory type at) = (refl, refl)

bits-own : (vs : List Value) → AllBits vs vs
bits-own [] = tt
bits-own (v ∷ vs) = (record { bits = refl; room = refl }, bits-own vs)

gives-same : {A : Type 0} {a b : A} → Gives a ≡ Gives b → a ≡ b
gives-same e = cc

own-both : {A : Type 0} (P : A → A → Type 0) (Q : A → Type 0) (o : Outcome A) → Holds Q o → ((a : A) → P a a) → Both P o o
own-both P Q (Gives a) holds all = all a
own-both P Q Divides holds all = tt
own-both P Q Undefined holds all = absurd holds

type-both : (P : Value → Value → Type 0) (t : CType) (o : Outcome Value) → IsOf t o → ((v : Value) → P v v) → Both P o o
type-both P t (Gives v) is all = all v
type-both P t Divides is all = tt
type-both P t Undefined is all = absurd is

module _ (plain_tree : Tree) (own : Function) (at there : ℕ) (has : HasNames plain_tree own) where
  abbrev tree : Tree
  tree = numbered plain_tree

  abbrev after : Tree
  after = numbered (with_names plain_tree)

  abbrev w : Writing
  w = writing plain_tree own

  abbrev f : Function
  f = numbered_function at own

  abbrev g : Function
  g = numbered_function there (function_by (writing plain_tree) own)

  abbrev names : List Declared
  names = declared_in plain_tree own

  abbrev new : Expr → Expr
  new e = by_names plain_tree own e

  declared : AreDeclared plain_tree.globals names
  declared = are-declared plain_tree own has

  signature-was : (function : Word) → signature_in tree function ≡ signature_in plain_tree function
  signature-was function = numbered-signature plain_tree function

  signature-is : (function : Word) → signature_in after function ≡ signature_in plain_tree function
  signature-is function = numbered-signature (with_names plain_tree) function ∙ written-signature (writing plain_tree) plain_tree function

  -- what a function that takes the address of a text takes
  text-params : (function : Word) (known : Signature) → signature_in tree function ≡ Some known → takes_text function ≡ true → known.params ≡ plain Uint ∷ []
  text-params function known is text =
      let named : function ≡ codes "dos_puts" = same_bytes-equal function (codes "dos_puts") text in
      let own : Some (dos_signature Puts) ≡ Some known = ap (signature_in tree) (sym named) ∙ is in
      ap (λ (s : Signature). s.params) (sym (some-same own))

  module _ (frame other : Frame) (memory : List ℕ) (calls : CallsAlike tree after f g frame other) where
    abbrev here : Scope
    here = scope_in tree frame memory

    -- what holds in one scope holds in both
    in-both : (P : Scope → Type 0) → P here → P (scope_in after other memory)
    in-both P holds = subst P (sym (one-scope tree after f g frame other memory refl refl calls)) holds

    as-own : AreAs f.body (own_declared f) (map declared_by frame.variables)
    as-own = subst (λ (h : Function). AreAs h.body (own_declared h) (map declared_by frame.variables)) calls.function calls.is.variables

    as-all : AreAs f.body names (map declared_by here.variables)
    as-all = subst (λ (h : Function). AreAs h.body (declared_in tree h) (map declared_by here.variables)) calls.function (scope-as tree frame calls.is)

    placed : ArePlaced here.variables
    placed = arrays-placed f.body names here.variables as-all

    found : AreFound plain_tree.globals names here
    found offset v begins =
        let s = begins-stands plain_tree.globals offset v has.differ begins in
        (s.0, found-beyond f.body (own_declared f) frame.variables (map global_binding plain_tree.globals) v.name as-own (has.none offset v begins) ∙ s.1.found)

    same-value : (e : Expr) (t : CType) → Takes f.body (parts_of e) → type_of names e ≡ Some t → value_of here (new e) ≡ value_of here e
    same-value e t takes is =
        either (λ h. value_of here h ≡ value_of here e) e (named plain_tree.globals names e) refl (named-value plain_tree.globals names f.body here as-all placed declared found e t takes is)

    value-both : (P : Value → Value → Type 0) (e : Expr) (t : CType) → Takes f.body (parts_of e) → type_of names e ≡ Some t → ((v : Value) → P v v) → Both P (value_of here e) (value_of here (new e))
    value-both P e t takes is all =
        subst (Both P (value_of here e)) (sym (same-value e t takes is))
        (type-both P t (value_of here e) (has-value plain_tree.globals names f.body here as-all placed declared found e t takes is) all)

    same-target : (place : Expr) (t : CType) → Takes f.body (parts_of place) → place_type names place ≡ Some t → target_of here (new place) ≡ target_of here place
    same-target place t takes is =
        either (λ h. target_of here h ≡ target_of here place) place (named plain_tree.globals names place) refl (named-target plain_tree.globals names f.body here as-all placed declared found place t takes is)

    target-both : (place : Expr) (t : CType) → Takes f.body (parts_of place) → place_type names place ≡ Some t → Both TargetAlike (target_of here place) (target_of here (new place))
    target-both place t takes is =
        subst (Both TargetAlike (target_of here place)) (sym (same-target place t takes is))
        (own-both TargetAlike (Lands frame.variables) (target_of here place)
        (subst (λ (h : Function). Takes h.body (parts_of place) → place_type (declared_in tree h) place ≡ Some t → Holds (Lands frame.variables) (target_of here place)) calls.function
        (λ own_takes own_is. place-gives tree frame calls.is memory place t own_takes own_is) takes is) target-own)

    -- Arguments.

    text-given : (v : Global) (n : ℕ) (type : Base) → begins_at plain_tree.globals (offset_of n type) ≡ Some v → is_bytes v ≡ true →
        arguments_of here (plain Uint ∷ []) (Cast (plain Uint) (Name v.name) ∷ []) ≡ arguments_of here (plain Uint ∷ []) (Number n type ∷ [])
    text-given v n type begins bytes =
        let s = found (offset_of n type) v begins in
        ap (λ o. and_then (λ x. Gives (converted (plain Uint) x ∷ [])) (and_then (λ x. Gives (converted (plain Uint) x)) o)) (array-gives plain_tree.globals names here found v s.1 bytes)
        ∙ ap (λ k. Gives (value (plain Uint) (k % 65536 % 65536) ∷ [])) s.0
        ∙ ap (λ k. Gives (value (plain Uint) k ∷ [])) (twice (offset_of n type) (offset-below n type))
      where
        twice : (k : ℕ) → k < 65536 → k % 65536 % 65536 ≡ k
        twice k few = ap (λ m. m % 65536) (same-16 k few) ∙ same-16 k few

    text-same : (type : CType) (e : Expr) → plain Uint ≡ type → Takes f.body (parts_of e) → fits names type e ≡ true →
        arguments_of here (type ∷ []) (text_argument plain_tree own e ∷ []) ≡ arguments_of here (type ∷ []) (e ∷ [])
    text-same type e is takes fit =
        let typed = has-type (type_of names e) (λ from. converts from type) fit in
        text-either plain_tree own (λ h. arguments_of here (type ∷ []) (h ∷ []) ≡ arguments_of here (type ∷ []) (e ∷ [])) e
        (ap (and_then (λ v. Gives (converted type v ∷ []))) (same-value e typed.0 takes typed.1))
        (λ n base v same begins bytes.
        subst (λ t. arguments_of here (t ∷ []) (Cast (plain Uint) (Name v.name) ∷ []) ≡ arguments_of here (t ∷ []) (e ∷ [])) is
        (subst (λ x. arguments_of here (plain Uint ∷ []) (Cast (plain Uint) (Name v.name) ∷ []) ≡ arguments_of here (plain Uint ∷ []) (x ∷ [])) (sym same) (text-given v n base begins bytes)))

    all-same : (types : List CType) (es : List Expr) → Takes f.body (flat_map parts_of es) → fit_all names types es ≡ true → arguments_of here types (map new es) ≡ arguments_of here types es
    all-same [] [] takes fit = refl
    all-same (type ∷ types) (e ∷ es) takes fit =
        let parts = and_parts (fits names type e) (fit_all names types es) fit in
        let typed = has-type (type_of names e) (λ from. converts from type) parts.0 in
        ap₂ (λ o p. and_then (λ v. and_then (λ vs. Gives (converted type v ∷ vs)) p) o) (same-value e typed.0 (takes-first f.body e es takes) typed.1) (all-same types es (takes-others f.body e es takes) parts.1)
    all-same (type ∷ types) [] takes fit = absurd cc
    all-same [] (e ∷ es) takes fit = absurd cc

    arguments-same : (b : Bool) (types : List CType) (es : List Expr) → (b ≡ true → types ≡ plain Uint ∷ []) → Takes f.body (flat_map parts_of es) → fit_all names types es ≡ true →
        arguments_of here types (map (argument plain_tree own b) es) ≡ arguments_of here types es
    arguments-same false types es text takes fit = all-same types es takes fit
    arguments-same true [] es text takes fit = absurd (no-types (text refl))
      where
        no-types : {a : CType} {xs : List CType} → [] ≡ a ∷ xs → ⊥
        no-types e = cc
    arguments-same true (type ∷ types) [] text takes fit = absurd cc
    arguments-same true (type ∷ []) (e ∷ []) text takes fit =
        text-same type e (first-type (text refl)) (takes-first f.body e [] takes) (and_parts (fits names type e) true fit).0
      where
        first-type : {a b : CType} {xs ys : List CType} → a ∷ xs ≡ b ∷ ys → b ≡ a
        first-type e = cc
    arguments-same true (type ∷ []) (e ∷ h ∷ es) text takes fit =
        let no : false ≡ true = (and_parts (fits names type e) false fit).1 in absurd cc
    arguments-same true (type ∷ t ∷ types) (e ∷ es) text takes fit = absurd (no-more (text refl))
      where
        no-more : {a b c : CType} {xs : List CType} → a ∷ b ∷ xs ≡ c ∷ [] → ⊥
        no-more e = cc

    arguments-both : (b : Bool) (types : List CType) (es : List Expr) → (b ≡ true → types ≡ plain Uint ∷ []) → Takes f.body (flat_map parts_of es) → fit_all names types es ≡ true →
        Both AllBits (arguments_of here types es) (arguments_of here types (map (argument plain_tree own b) es))
    arguments-both b types es text takes fit =
        subst (Both AllBits (arguments_of here types es)) (sym (arguments-same b types es text takes fit))
        (own-both AllBits (SameLength types) (arguments_of here types es)
        (subst (λ (h : Function). Takes h.body (flat_map parts_of es) → fit_all (declared_in tree h) types es ≡ true → Holds (SameLength types) (arguments_of here types es)) calls.function
        (λ own_takes own_fit. arguments-give tree frame calls.is memory types es own_takes own_fit) takes fit) bits-own)

  assign-alike : (place e : Expr) → allows_stmt tree f (Assign place e) ≡ true → Takes f.body (flat_map parts_of (exprs_of (Assign place e))) → AssignAlike tree after f g place e (w.place place) (w.value place e)
  assign-alike place e allowed takes =
      let placed = has-type (place_type names place) (λ to. fits names to e) allowed in
      let fit : fits names placed.0 e ≡ true = subst (λ o. elim o [ Some to ↦ fits names to e | None ↦ false ] ≡ true) placed.1 allowed in
      let typed = has-type (type_of names e) (λ from. converts from placed.0) fit in
      let place_takes = takes-first f.body place (e ∷ []) takes in
      let e_takes = takes-first f.body e [] (takes-others f.body place (e ∷ []) takes) in
      record {
        places = λ frame other memory calls.
            in-both frame other memory calls (λ sc. Both TargetAlike (target_of (scope_in tree frame memory) place) (target_of sc (new place))) (target-both frame other memory calls place placed.0 place_takes placed.1);
        values = λ frame other memory calls.
            subst (λ vs. Both (λ v w. (target to : Target) → target_of (scope_in tree frame memory) place ≡ Gives target → target_of (scope_in after other memory) (new place) ≡ Gives to → TakesAlike frame.variables vs target to v w)
            (value_of (scope_in tree frame memory) e) (value_of (scope_in after other memory) (new e))) (sym (one-frame tree after f g frame other refl calls))
            (in-both frame other memory calls (λ sc. Both (λ v w. (target to : Target) → target_of (scope_in tree frame memory) place ≡ Gives target → target_of sc (new place) ≡ Gives to → TakesAlike frame.variables frame.variables target to v w)
            (value_of (scope_in tree frame memory) e) (value_of sc (new e)))
            (value-both frame other memory calls (λ v w. (target to : Target) → target_of (scope_in tree frame memory) place ≡ Gives target → target_of (scope_in tree frame memory) (new place) ≡ Gives to → TakesAlike frame.variables frame.variables target to v w)
            e typed.0 e_takes typed.1
            (λ v target to one two.
            subst (λ x. TakesAlike frame.variables frame.variables target x v v) (gives-same (sym one ∙ sym (same-target frame other memory calls place placed.0 place_takes placed.1) ∙ two)) (takes-own frame.variables target v))));
      }

  arguments-alike : (function : Word) (es : List Expr) (known below : Signature) → signature_in tree function ≡ Some known → signature_in after function ≡ Some below → fit_all names known.params es ≡ true → Takes f.body (flat_map parts_of es) →
      ArgumentsAlike tree after f g known.params below.params es (w.arguments function es)
  arguments-alike function es known below one two fit takes frame other memory calls =
      let same : known ≡ below = some-same (sym one ∙ signature-was function ∙ sym (signature-is function) ∙ two) in
      subst (λ (k : Signature). Both AllBits (arguments_of (scope_in tree frame memory) known.params es) (arguments_of (scope_in after other memory) k.params (w.arguments function es))) same
      (in-both frame other memory calls (λ sc. Both AllBits (arguments_of (scope_in tree frame memory) known.params es) (arguments_of sc known.params (w.arguments function es)))
      (arguments-both frame other memory calls (takes_text function) known.params es (text-params function known one) takes fit))

  pub means : MeansAlike tree after f g w
  means = record {
    test = λ e number takes frame other memory calls.
        let typed = number-typed names e number in
        in-both frame other memory calls (λ sc. Both (λ v w. is_zero w ≡ is_zero v) (value_of (scope_in tree frame memory) e) (value_of sc (new e)))
        (value-both frame other memory calls (λ v w. is_zero w ≡ is_zero v) e (plain typed.0) takes typed.1 (λ v. refl));
    choice = λ e is takes frame other memory calls.
        let typed = has-type (type_of names e) (λ t. not t.pointer && rules.is_word_base (promoted_type t.base)) is in
        in-both frame other memory calls (λ sc. Both (λ v w. (converted (plain Uint) w).bits ≡ (converted (plain Uint) v).bits) (value_of (scope_in tree frame memory) e) (value_of sc (new e)))
        (value-both frame other memory calls (λ v w. (converted (plain Uint) w).bits ≡ (converted (plain Uint) v).bits) e typed.0 takes typed.1 (λ v. refl));
    value = assign-alike;
    place = λ place type is takes frame other memory calls.
        in-both frame other memory calls (λ sc. Both TargetAlike (target_of (scope_in tree frame memory) place) (target_of sc (new place))) (target-both frame other memory calls place type takes is);
    arguments = arguments-alike;
    returned = λ e type result fit takes frame other memory calls.
        let typed = has-type (type_of names e) (λ from. converts from type) fit in
        in-both frame other memory calls (λ sc. Both (λ v w. (converted type w).bits ≡ (converted type v).bits) (value_of (scope_in tree frame memory) e) (value_of sc (new e)))
        (value-both frame other memory calls (λ v w. (converted type w).bits ≡ (converted type v).bits) e typed.0 takes typed.1 (λ v. refl));
  }
