-- A text without needless casts is the text otherwise written, and writable.
use Rattle.std.proofs.Common.{◌≡◌, ℕ, ◌+◌, ◌≤◌, Bool, true, false, ◌&&◌, ◌||◌, not, List, [], ◌∷◌, Option, Some, None, refl, sym, ap, ap₂, ◌∙◌, subst, arith}
use Rattle.std.specs.Prelude.{if◌then◌else◌, option_map, nat_le}
use Rattle.std.specs.List.{list_all, list_any, flat_map}
use Rattle.std.proofs.lemmas.Bool.{and_parts, and_from, leb-true, le-leb}
use Rattle.std.proofs.lemmas.List.Folds.{list_any-append}
use Rattle.dcc_c.specs.declared.syntax.Base.TheVariants.{Uint}
use Rattle.dcc_c.specs.declared.syntax.CType.{CType}
use Rattle.dcc_c.specs.declared.syntax.CUn.TheVariants.{Deref}
use Rattle.dcc_c.specs.Types.{plain, promoted_type, same_type}
use Rattle.dcc_c.specs.Tree.{Word, Expr, Name, Unary, Stmt, Assign, Call, If, While, DoWhile, Forever, Switch, Break, Continue, Goto, Label, Empty, Return, Function, Tree}
use Rattle.dcc_c.specs.Dos.{Signature}
use Rattle.dcc_c.specs.Parts.{parts_of, exprs_of}
use Rattle.dcc_c.specs.Placement.{is_address_of}
use Rattle.dcc_c.specs.Typing.{Declared, place_type, type_of}
use Rattle.dcc_c.specs.Rules.{declared_in, converts, fits, is_number, is_switch_value, fit_all, result_fits, call_fits, allows_stmt, expr_depth, shallow_stmt, signature_in, IsAllowedFunction, AreAllowed, IsAllowed}
use Rattle.dcc_c.specs.Rules as rules
use Rattle.dcc_c.specs.Numbered.{rows, numbered_function, numbered_functions, numbered}
use Rattle.dcc_c.specs.Written.{written_globals}
use Rattle.dcc_c.specs.Value.{Value, is_zero, converted, Gives, Scope, value_of, Target, target_of}
use Rattle.dcc_c.specs.Run.{Frame, arguments_of}
use Rattle.dcc_c.proofs.Writable.{is_writable_expr, IsWritable}
use Rattle.dcc_progress.proofs.Declarations.{Takes, takes-first, takes-others}
use Rattle.dcc_progress.proofs.Values.{has-type}
use Rattle.dcc_respell.specs.Respelled.{Both, AllBits, TargetAlike, TakesAlike, CallsAlike, scope_in, BecomesAlike, AssignAlike, ArgumentsAlike, IsRespelled}
use Rattle.dcc_respell.specs.Writing.{Writing, stmt_by, function_by, MeansAlike, KeepsAddresses, MayStand}
use Rattle.dcc_respell.proofs.Scopes.{one-frame, one-scope, numbered-signature, written-signature}
use Rattle.dcc_respell.proofs.Written.{MeanAlike, functions-alike}
use Rattle.dcc_respell.proofs.Allowed.{AllMayStand, written-writable}
use Rattle.dcc_casts.specs.Casts.{room_of, kept, lowered, becoming, passed, chosen_by, writing, without_casts}
use Rattle.dcc_casts.proofs.Shapes.{kept-addresses, lowered-addresses, kept-written, lowered-written, place-written, kept-depth, lowered-depth}
use Rattle.dcc_casts.proofs.Types.{plain-is, number-typed, kept-typed, lowered-typed}
use Rattle.dcc_casts.proofs.Meaning.{free-from, kept-is, equal-both, becoming-both, places-alike, assigned-both, passed-both}

some-same : {A : Type 0} {a b : A} → Some a ≡ Some b → a ≡ b
some-same e = cc

-- One function, its lines counted.

module _ (plain_tree : Tree) (own : Function) (at there : ℕ) where
  abbrev tree : Tree
  tree = numbered plain_tree

  abbrev after : Tree
  after = numbered (without_casts plain_tree)

  abbrev w : Writing
  w = writing plain_tree own

  abbrev f : Function
  f = numbered_function at own

  abbrev g : Function
  g = numbered_function there (function_by (writing plain_tree) own)

  abbrev names : List Declared
  names = declared_in plain_tree own

  signature-was : (function : Word) → signature_in tree function ≡ signature_in plain_tree function
  signature-was function = numbered-signature plain_tree function

  signature-is : (function : Word) → signature_in after function ≡ signature_in plain_tree function
  signature-is function = numbered-signature (without_casts plain_tree) function ∙ written-signature (writing plain_tree) plain_tree function

  module _ (frame other : Frame) (memory : List ℕ) (calls : CallsAlike tree after f g frame other) where
    abbrev here : Scope
    here = scope_in tree frame memory

    -- what holds in one scope holds in both
    in-both : (P : Scope → Type 0) → P here → P (scope_in after other memory)
    in-both P holds = subst P (sym (one-scope tree after f g frame other memory refl refl calls)) holds

    test-alike : (e : Expr) → is_number names e ≡ true → Takes f.body (parts_of e) → Both (λ v w. is_zero w ≡ is_zero v) (value_of here e) (value_of here (kept names e))
    test-alike e number takes =
        subst (λ (h : Function). is_number (declared_in tree h) e ≡ true → Takes h.body (parts_of e) → Both (λ v w. is_zero w ≡ is_zero v) (value_of here e) (value_of here (kept (declared_in tree h) e))) calls.function
        (λ number takes.
        let typed = number-typed (declared_in tree frame.function) e number in
        equal-both tree frame calls.is memory (λ v w. is_zero w ≡ is_zero v) e (plain typed.0) takes typed.1 (value_of here (kept (declared_in tree frame.function) e)) (kept-is tree frame calls.is memory e (plain typed.0) takes typed.1) (λ v. refl))
        number takes

    becomes-alike : (P : Value → Value → Type 0) (type : CType) (e : Expr) → fits names type e ≡ true → Takes f.body (parts_of e) → ((v w : Value) → (converted type w).bits ≡ (converted type v).bits → P v w) →
        Both P (value_of here e) (value_of here (becoming names type e))
    becomes-alike P type e fit takes more =
        subst (λ (h : Function). fits (declared_in tree h) type e ≡ true → Takes h.body (parts_of e) → Both P (value_of here e) (value_of here (becoming (declared_in tree h) type e))) calls.function
        (λ fit takes. becoming-both tree frame calls.is memory P type e takes fit more) fit takes

    place-alike : (place : Expr) (type : CType) → place_type names place ≡ Some type → Takes f.body (parts_of place) → Both TargetAlike (target_of here place) (target_of here (kept names place))
    place-alike place type has takes =
        subst (λ (h : Function). place_type (declared_in tree h) place ≡ Some type → Takes h.body (parts_of place) → Both TargetAlike (target_of here place) (target_of here (kept (declared_in tree h) place))) calls.function
        (λ has takes. places-alike tree frame calls.is memory place type takes has) has takes

    value-alike : (place e : Expr) (type : CType) → place_type names place ≡ Some type → fits names type e ≡ true → Takes f.body (parts_of place) → Takes f.body (parts_of e) →
        Both (λ v w. (target to : Target) → target_of here place ≡ Gives target → target_of here (kept names place) ≡ Gives to → TakesAlike frame.variables frame.variables target to v w) (value_of here e) (value_of here (becoming names type e))
    value-alike place e type has fit place_takes takes =
        subst (λ (h : Function). place_type (declared_in tree h) place ≡ Some type → fits (declared_in tree h) type e ≡ true → Takes h.body (parts_of place) → Takes h.body (parts_of e) →
        Both (λ v w. (target to : Target) → target_of here place ≡ Gives target → target_of here (kept (declared_in tree h) place) ≡ Gives to → TakesAlike frame.variables frame.variables target to v w) (value_of here e) (value_of here (becoming (declared_in tree h) type e))) calls.function
        (λ has fit place_takes takes. assigned-both tree frame calls.is memory place e type place_takes takes has fit) has fit place_takes takes

    passed-alike : (types : List CType) (es : List Expr) → fit_all names types es ≡ true → Takes f.body (flat_map parts_of es) → Both AllBits (arguments_of here types es) (arguments_of here types (passed names types es))
    passed-alike types es fit takes =
        subst (λ (h : Function). fit_all (declared_in tree h) types es ≡ true → Takes h.body (flat_map parts_of es) → Both AllBits (arguments_of here types es) (arguments_of here types (passed (declared_in tree h) types es))) calls.function
        (λ fit takes. passed-both tree frame calls.is memory types es takes fit) fit takes

  -- the value of a switch is a word, which is a number
  switch-number : (e : Expr) → is_switch_value names e ≡ true → fits names (plain Uint) e ≡ true
  switch-number e is = by (type_of names e) is
    where
      by : (o : Option CType) → elim o [ Some type ↦ not type.pointer && rules.is_word_base (promoted_type type.base) | None ↦ false ] ≡ true → elim o [ Some from ↦ converts from (plain Uint) | None ↦ false ] ≡ true
      by (Some type) is = free type.pointer (and_parts (not type.pointer) (rules.is_word_base (promoted_type type.base)) is).0
        where
          free : (p : Bool) → not p ≡ true → (if p || false then same_type type (plain Uint) else true) ≡ true
          free false is = refl
          free true is = absurd cc
      by None is = absurd cc

  choice-alike : (e : Expr) → is_switch_value names e ≡ true → Takes f.body (parts_of e) → BecomesAlike tree after f g (plain Uint) (plain Uint) e (chosen_by names e)
  choice-alike e is takes frame other memory calls =
      in-both frame other memory calls (λ sc. Both (λ v w. (converted (plain Uint) w).bits ≡ (converted (plain Uint) v).bits) (value_of (scope_in tree frame memory) e) (value_of sc (chosen_by names e)))
      (by (is_switch_value names (lowered names 16 e)))
    where
      Goal : Expr → Type 0
      Goal h = Both (λ v w. (converted (plain Uint) w).bits ≡ (converted (plain Uint) v).bits) (value_of (scope_in tree frame memory) e) (value_of (scope_in tree frame memory) h)

      by : (b : Bool) → Goal (if b then lowered names 16 e else kept names e)
      by true = becomes-alike frame other memory calls (λ v w. (converted (plain Uint) w).bits ≡ (converted (plain Uint) v).bits) (plain Uint) e (switch-number e is) takes (λ v w same. same)
      by false =
          subst (λ (h : Function). is_switch_value (declared_in tree h) e ≡ true → Takes h.body (parts_of e) → Both (λ v w. (converted (plain Uint) w).bits ≡ (converted (plain Uint) v).bits) (value_of (scope_in tree frame memory) e) (value_of (scope_in tree frame memory) (kept (declared_in tree h) e))) calls.function
          (λ is takes.
          let typed = has-type (type_of (declared_in tree frame.function) e) (λ t. not t.pointer && rules.is_word_base (promoted_type t.base)) is in
          equal-both tree frame calls.is memory (λ v w. (converted (plain Uint) w).bits ≡ (converted (plain Uint) v).bits) e typed.0 takes typed.1 (value_of (scope_in tree frame memory) (kept (declared_in tree frame.function) e)) (kept-is tree frame calls.is memory e typed.0 takes typed.1) (λ v. refl))
          is takes

  assign-alike : (place e : Expr) → allows_stmt tree f (Assign place e) ≡ true → Takes f.body (flat_map parts_of (exprs_of (Assign place e))) → AssignAlike tree after f g place e (w.place place) (w.value place e)
  assign-alike place e allowed takes =
      let has = has-type (place_type names place) (λ to. fits names to e) allowed in
      let fit : fits names has.0 e ≡ true = subst (λ o. elim o [ Some to ↦ fits names to e | None ↦ false ] ≡ true) has.1 allowed in
      let place_takes = takes-first f.body place (e ∷ []) takes in
      let e_takes = takes-first f.body e [] (takes-others f.body place (e ∷ []) takes) in
      record {
        places = λ frame other memory calls.
            in-both frame other memory calls (λ sc. Both TargetAlike (target_of (scope_in tree frame memory) place) (target_of sc (kept names place))) (place-alike frame other memory calls place has.0 has.1 place_takes);
        values = λ frame other memory calls.
            subst (λ o. Both (λ v w. (target to : Target) → target_of (scope_in tree frame memory) place ≡ Gives target → target_of (scope_in after other memory) (kept names place) ≡ Gives to → TakesAlike frame.variables other.variables target to v w)
            (value_of (scope_in tree frame memory) e) (value_of (scope_in after other memory) (elim o [ Some type ↦ becoming names type e | None ↦ kept names e ]))) (sym has.1)
            (subst (λ vs. Both (λ v w. (target to : Target) → target_of (scope_in tree frame memory) place ≡ Gives target → target_of (scope_in after other memory) (kept names place) ≡ Gives to → TakesAlike frame.variables vs target to v w)
            (value_of (scope_in tree frame memory) e) (value_of (scope_in after other memory) (becoming names has.0 e))) (sym (one-frame tree after f g frame other refl calls))
            (in-both frame other memory calls (λ sc. Both (λ v w. (target to : Target) → target_of (scope_in tree frame memory) place ≡ Gives target → target_of sc (kept names place) ≡ Gives to → TakesAlike frame.variables frame.variables target to v w)
            (value_of (scope_in tree frame memory) e) (value_of sc (becoming names has.0 e)))
            (value-alike frame other memory calls place e has.0 has.1 fit place_takes e_takes)));
      }

  arguments-alike : (function : Word) (es : List Expr) (known below : Signature) → signature_in tree function ≡ Some known → signature_in after function ≡ Some below → fit_all names known.params es ≡ true → Takes f.body (flat_map parts_of es) →
      ArgumentsAlike tree after f g known.params below.params es (w.arguments function es)
  arguments-alike function es known below one two fit takes frame other memory calls =
      let was : signature_in plain_tree function ≡ Some known = sym (signature-was function) ∙ one in
      let same : known ≡ below = some-same (sym was ∙ sym (signature-is function) ∙ two) in
      subst (λ (k : Signature). Both AllBits (arguments_of (scope_in tree frame memory) known.params es) (arguments_of (scope_in after other memory) k.params (w.arguments function es))) same
      (subst (λ o. Both AllBits (arguments_of (scope_in tree frame memory) known.params es) (arguments_of (scope_in after other memory) known.params (elim o [ Some k ↦ passed names k.params es | None ↦ es ]))) (sym was)
      (in-both frame other memory calls (λ sc. Both AllBits (arguments_of (scope_in tree frame memory) known.params es) (arguments_of sc known.params (passed names known.params es))) (passed-alike frame other memory calls known.params es fit takes)))

  returned-alike : (e : Expr) (type : CType) → f.result ≡ Some type → fits names type e ≡ true → Takes f.body (parts_of e) → BecomesAlike tree after f g type type e (w.returned e)
  returned-alike e type has fit takes frame other memory calls =
      subst (λ o. Both (λ v w. (converted type w).bits ≡ (converted type v).bits) (value_of (scope_in tree frame memory) e) (value_of (scope_in after other memory) (elim o [ Some t ↦ becoming names t e | None ↦ e ]))) (sym has)
      (in-both frame other memory calls (λ sc. Both (λ v w. (converted type w).bits ≡ (converted type v).bits) (value_of (scope_in tree frame memory) e) (value_of sc (becoming names type e)))
      (becomes-alike frame other memory calls (λ v w. (converted type w).bits ≡ (converted type v).bits) type e fit takes (λ v w same. same)))

  means : MeansAlike tree after f g w
  means = record {
    test = λ e number takes frame other memory calls.
        in-both frame other memory calls (λ sc. Both (λ v w. is_zero w ≡ is_zero v) (value_of (scope_in tree frame memory) e) (value_of sc (kept names e))) (test-alike frame other memory calls e number takes);
    choice = choice-alike;
    value = assign-alike;
    place = λ place type has takes frame other memory calls.
        in-both frame other memory calls (λ sc. Both TargetAlike (target_of (scope_in tree frame memory) place) (target_of sc (kept names place))) (place-alike frame other memory calls place type has takes);
    arguments = arguments-alike;
    returned = returned-alike;
  }

  -- Addresses.

  abbrev SameAddresses : Word → Expr → Expr → Type 0
  SameAddresses word e h = list_any (is_address_of word) (parts_of h) ≡ list_any (is_address_of word) (parts_of e)

  becoming-addresses : (word : Word) (type : CType) (e : Expr) → SameAddresses word e (becoming names type e)
  becoming-addresses word type e = by type.pointer
    where
      by : (p : Bool) → SameAddresses word e (if p then kept names e else lowered names (room_of type) e)
      by true = kept-addresses names word e
      by false = lowered-addresses names word (room_of type) e

  chosen-addresses : (word : Word) (e : Expr) → SameAddresses word e (chosen_by names e)
  chosen-addresses word e = by (is_switch_value names (lowered names 16 e))
    where
      by : (b : Bool) → SameAddresses word e (if b then lowered names 16 e else kept names e)
      by true = lowered-addresses names word 16 e
      by false = kept-addresses names word e

  value-addresses : (word : Word) (o : Option CType) (e : Expr) → SameAddresses word e (elim o [ Some type ↦ becoming names type e | None ↦ kept names e ])
  value-addresses word (Some type) e = becoming-addresses word type e
  value-addresses word None e = kept-addresses names word e

  returned-addresses : (word : Word) (o : Option CType) (e : Expr) → SameAddresses word e (elim o [ Some type ↦ becoming names type e | None ↦ e ])
  returned-addresses word (Some type) e = becoming-addresses word type e
  returned-addresses word None e = refl

  abbrev AllAddresses : Word → List Expr → List Expr → Type 0
  AllAddresses word es hs = list_any (is_address_of word) (flat_map parts_of hs) ≡ list_any (is_address_of word) (flat_map parts_of es)

  one-more : (word : Word) (e h : Expr) (es hs : List Expr) → SameAddresses word e h → AllAddresses word es hs → AllAddresses word (e ∷ es) (h ∷ hs)
  one-more word e h es hs first others =
      list_any-append (is_address_of word) (parts_of h) (flat_map parts_of hs) ∙ ap₂ (λ a b. a || b) first others ∙ sym (list_any-append (is_address_of word) (parts_of e) (flat_map parts_of es))

  passed-addresses : (word : Word) (types : List CType) (es : List Expr) → AllAddresses word es (passed names types es)
  passed-addresses word [] es = refl
  passed-addresses word (type ∷ types) [] = refl
  passed-addresses word (type ∷ types) (e ∷ es) = one-more word e (becoming names type e) es (passed names types es) (becoming-addresses word type e) (passed-addresses word types es)

  arguments-addresses : (word : Word) (o : Option Signature) (es : List Expr) → AllAddresses word es (elim o [ Some known ↦ passed names known.params es | None ↦ es ])
  arguments-addresses word (Some known) es = passed-addresses word known.params es
  arguments-addresses word None es = refl

  keeps-addresses : KeepsAddresses w
  keeps-addresses (Assign place e) word =
      one-more word place (kept names place) (e ∷ []) (w.value place e ∷ []) (kept-addresses names word place) (one-more word e (w.value place e) [] [] (value-addresses word (place_type names place) e) refl)
  keeps-addresses (Call None function es depth) word = arguments-addresses word (signature_in plain_tree function) es
  keeps-addresses (Call (Some place) function es depth) word =
      one-more word place (kept names place) es (w.arguments function es) (kept-addresses names word place) (arguments-addresses word (signature_in plain_tree function) es)
  keeps-addresses (If e body otherwise) word = one-more word e (kept names e) [] [] (kept-addresses names word e) refl
  keeps-addresses (While e body) word = one-more word e (kept names e) [] [] (kept-addresses names word e) refl
  keeps-addresses (DoWhile body e) word = one-more word e (kept names e) [] [] (kept-addresses names word e) refl
  keeps-addresses (Forever body) word = refl
  keeps-addresses (Switch e arms last) word = one-more word e (chosen_by names e) [] [] (chosen-addresses word e) refl
  keeps-addresses Break word = refl
  keeps-addresses Continue word = refl
  keeps-addresses (Goto other) word = refl
  keeps-addresses (Label other) word = refl
  keeps-addresses Empty word = refl
  keeps-addresses (Return None) word = refl
  keeps-addresses (Return (Some e)) word = one-more word e (w.returned e) [] [] (returned-addresses word own.result e) refl

-- One function in its text.

module _ (tree : Tree) (f : Function) where
  abbrev after_text : Tree
  after_text = without_casts tree

  abbrev as_written : Writing
  as_written = writing tree f

  abbrev declared : List Declared
  declared = declared_in tree f

  -- Types.

  becoming-fits : (type : CType) (e : Expr) → fits declared type e ≡ true → fits declared type (becoming declared type e) ≡ true
  becoming-fits type e fit =
      let has = has-type (type_of declared e) (λ from. converts from type) fit in
      by type.pointer refl has.0 has.1 (subst (λ o. elim o [ Some from ↦ converts from type | None ↦ false ] ≡ true) has.1 fit)
    where
      by : (p : Bool) → type.pointer ≡ p → (from : CType) → type_of declared e ≡ Some from → converts from type ≡ true → fits declared type (if p then kept declared e else lowered declared (room_of type) e) ≡ true
      by true pointer from has fit = ap (λ o. elim o [ Some t ↦ converts t type | None ↦ false ]) (kept-typed declared e from has) ∙ fit
      by false free from has fit =
          let number : from.pointer ≡ false = free-from from type fit free in
          let low = lowered-typed declared (room_of type) e from.base (has ∙ ap Some (plain-is from number)) in
          ap (λ o. elim o [ Some t ↦ converts t type | None ↦ false ]) low.1 ∙ ap (λ p. if p then same_type (plain low.0) type else true) free

  passed-fit : (types : List CType) (es : List Expr) → fit_all declared types es ≡ true → fit_all declared types (passed declared types es) ≡ true
  passed-fit [] [] fit = refl
  passed-fit (type ∷ types) (e ∷ es) fit =
      let parts = and_parts (fits declared type e) (fit_all declared types es) fit in
      and_from (fits declared type (becoming declared type e)) (fit_all declared types (passed declared types es)) (becoming-fits type e parts.0) (passed-fit types es parts.1)
  passed-fit (type ∷ types) [] fit = absurd cc
  passed-fit [] (e ∷ es) fit = absurd cc

  place-typed : (place : Expr) (t : CType) → place_type declared place ≡ Some t → place_type declared (kept declared place) ≡ Some t
  place-typed (Name word) t has = has
  place-typed (Unary Deref a) t has = kept-typed declared (Unary Deref a) t has
  place-typed place t has = absurd cc

  value-allowed : (place e : Expr) → allows_stmt tree f (Assign place e) ≡ true → allows_stmt after_text (function_by (writing tree) f) (stmt_by as_written (Assign place e)) ≡ true
  value-allowed place e allowed =
      let has = has-type (place_type declared place) (λ to. fits declared to e) allowed in
      let fit : fits declared has.0 e ≡ true = subst (λ o. elim o [ Some to ↦ fits declared to e | None ↦ false ] ≡ true) has.1 allowed in
      subst (λ o. elim o [ Some to ↦ fits declared to (as_written.value place e) | None ↦ false ] ≡ true) (sym (place-typed place has.0 has.1))
      (subst (λ o. fits declared has.0 (elim o [ Some type ↦ becoming declared type e | None ↦ kept declared e ]) ≡ true) (sym has.1) (becoming-fits has.0 e fit))

  result-kept : (place : Option Expr) (result : Option CType) → result_fits declared place result ≡ true → result_fits declared (option_map (kept declared) place) result ≡ true
  result-kept None result fit = refl
  result-kept (Some place) None fit = absurd cc
  result-kept (Some place) (Some from) fit =
      let has = has-type (place_type declared place) (converts from) fit in
      let own : converts from has.0 ≡ true = subst (λ o. elim o [ Some to ↦ converts from to | None ↦ false ] ≡ true) has.1 fit in
      subst (λ o. elim o [ Some to ↦ converts from to | None ↦ false ] ≡ true) (sym (place-typed place has.0 has.1)) own

  call-kept : (place : Option Expr) (es : List Expr) (o : Option Signature) → call_fits declared place es o ≡ true → call_fits declared (option_map (kept declared) place) (elim o [ Some known ↦ passed declared known.params es | None ↦ es ]) o ≡ true
  call-kept place es None fit = absurd cc
  call-kept place es (Some known) fit =
      let parts = and_parts (result_fits declared place known.result) (fit_all declared known.params es) fit in
      and_from (result_fits declared (option_map (kept declared) place) known.result) (fit_all declared known.params (passed declared known.params es)) (result-kept place known.result parts.0) (passed-fit known.params es parts.1)

  returned-allowed : (e : Expr) (o p : Option CType) → o ≡ p → elim o [ Some to ↦ fits declared to e | None ↦ false ] ≡ true → elim o [ Some to ↦ fits declared to (elim p [ Some type ↦ becoming declared type e | None ↦ e ]) | None ↦ false ] ≡ true
  returned-allowed e (Some type) p same fit = subst (λ q. fits declared type (elim q [ Some own ↦ becoming declared own e | None ↦ e ]) ≡ true) same (becoming-fits type e fit)
  returned-allowed e None p same fit = absurd cc

  test-number : (e : Expr) → is_number declared e ≡ true → is_number declared (kept declared e) ≡ true
  test-number e number =
      let typed = number-typed declared e number in ap (λ o. elim o [ Some t ↦ not t.pointer | None ↦ false ]) (kept-typed declared e (plain typed.0) typed.1)

  choice-word : (e : Expr) → is_switch_value declared e ≡ true → is_switch_value declared (chosen_by declared e) ≡ true
  choice-word e is = by (is_switch_value declared (lowered declared 16 e)) refl
    where
      by : (b : Bool) → is_switch_value declared (lowered declared 16 e) ≡ b → is_switch_value declared (if b then lowered declared 16 e else kept declared e) ≡ true
      by true own = own
      by false own =
          let typed = has-type (type_of declared e) (λ t. not t.pointer && rules.is_word_base (promoted_type t.base)) is in
          ap (λ o. elim o [ Some t ↦ not t.pointer && rules.is_word_base (promoted_type t.base) | None ↦ false ]) (kept-typed declared e typed.0 typed.1 ∙ sym typed.1) ∙ is

  -- What can be written.

  becoming-written : (type : CType) (e : Expr) → is_writable_expr (becoming declared type e) ≡ is_writable_expr e
  becoming-written type e = by type.pointer
    where
      by : (p : Bool) → is_writable_expr (if p then kept declared e else lowered declared (room_of type) e) ≡ is_writable_expr e
      by true = kept-written declared e
      by false = lowered-written declared (room_of type) e

  chosen-written : (e : Expr) → is_writable_expr (chosen_by declared e) ≡ is_writable_expr e
  chosen-written e = by (is_switch_value declared (lowered declared 16 e))
    where
      by : (b : Bool) → is_writable_expr (if b then lowered declared 16 e else kept declared e) ≡ is_writable_expr e
      by true = lowered-written declared 16 e
      by false = kept-written declared e

  value-written : (o : Option CType) (e : Expr) → is_writable_expr (elim o [ Some type ↦ becoming declared type e | None ↦ kept declared e ]) ≡ is_writable_expr e
  value-written (Some type) e = becoming-written type e
  value-written None e = kept-written declared e

  returned-written : (o : Option CType) (e : Expr) → is_writable_expr (elim o [ Some type ↦ becoming declared type e | None ↦ e ]) ≡ is_writable_expr e
  returned-written (Some type) e = becoming-written type e
  returned-written None e = refl

  passed-written : (types : List CType) (es : List Expr) → list_all is_writable_expr (passed declared types es) ≡ list_all is_writable_expr es
  passed-written [] es = refl
  passed-written (type ∷ types) [] = refl
  passed-written (type ∷ types) (e ∷ es) = ap₂ (λ a b. a && b) (becoming-written type e) (passed-written types es)

  arguments-written : (o : Option Signature) (es : List Expr) → list_all is_writable_expr (elim o [ Some known ↦ passed declared known.params es | None ↦ es ]) ≡ list_all is_writable_expr es
  arguments-written (Some known) es = passed-written known.params es
  arguments-written None es = refl

  -- Depth.

  becoming-depth : (type : CType) (e : Expr) → expr_depth (becoming declared type e) ≤ expr_depth e
  becoming-depth type e = by type.pointer
    where
      by : (p : Bool) → expr_depth (if p then kept declared e else lowered declared (room_of type) e) ≤ expr_depth e
      by true = kept-depth declared e
      by false = lowered-depth declared (room_of type) e

  chosen-depth : (e : Expr) → expr_depth (chosen_by declared e) ≤ expr_depth e
  chosen-depth e = by (is_switch_value declared (lowered declared 16 e))
    where
      by : (b : Bool) → expr_depth (if b then lowered declared 16 e else kept declared e) ≤ expr_depth e
      by true = lowered-depth declared 16 e
      by false = kept-depth declared e

  value-depth : (o : Option CType) (e : Expr) → expr_depth (elim o [ Some type ↦ becoming declared type e | None ↦ kept declared e ]) ≤ expr_depth e
  value-depth (Some type) e = becoming-depth type e
  value-depth None e = kept-depth declared e

  returned-depth : (o : Option CType) (e : Expr) → expr_depth (elim o [ Some type ↦ becoming declared type e | None ↦ e ]) ≤ expr_depth e
  returned-depth (Some type) e = becoming-depth type e
  returned-depth None e = omega arith

  abbrev Shallow : List Expr → Type 0
  Shallow es = list_all (λ e. nat_le (expr_depth e) 200) es ≡ true

  one-shallow : (e h : Expr) (es hs : List Expr) → expr_depth h ≤ expr_depth e → (Shallow es → Shallow hs) → Shallow (e ∷ es) → Shallow (h ∷ hs)
  one-shallow e h es hs less others all =
      let parts = and_parts (nat_le (expr_depth e) 200) (list_all (λ e. nat_le (expr_depth e) 200) es) all in
      let few : expr_depth h ≤ 200 = (let most = leb-true (expr_depth e) 200 parts.0 in omega (arith, less, most)) in
      and_from (nat_le (expr_depth h) 200) (list_all (λ e. nat_le (expr_depth e) 200) hs) (le-leb (expr_depth h) 200 few) (others parts.1)

  passed-shallow : (types : List CType) (es : List Expr) → Shallow es → Shallow (passed declared types es)
  passed-shallow [] es all = all
  passed-shallow (type ∷ types) [] all = all
  passed-shallow (type ∷ types) (e ∷ es) all = one-shallow e (becoming declared type e) es (passed declared types es) (becoming-depth type e) (passed-shallow types es) all

  arguments-shallow : (o : Option Signature) (es : List Expr) → Shallow es → Shallow (elim o [ Some known ↦ passed declared known.params es | None ↦ es ])
  arguments-shallow (Some known) es all = passed-shallow known.params es all
  arguments-shallow None es all = all

  shallow : (stmt : Stmt) → shallow_stmt 200 stmt ≡ true → shallow_stmt 200 (stmt_by as_written stmt) ≡ true
  shallow (Assign place e) all =
      one-shallow place (kept declared place) (e ∷ []) (as_written.value place e ∷ []) (kept-depth declared place) (one-shallow e (as_written.value place e) [] [] (value-depth (place_type declared place) e) (λ none. none)) all
  shallow (Call None function es depth) all = arguments-shallow (signature_in tree function) es all
  shallow (Call (Some place) function es depth) all =
      one-shallow place (kept declared place) es (as_written.arguments function es) (kept-depth declared place) (arguments-shallow (signature_in tree function) es) all
  shallow (If e body otherwise) all = one-shallow e (kept declared e) [] [] (kept-depth declared e) (λ none. none) all
  shallow (While e body) all = one-shallow e (kept declared e) [] [] (kept-depth declared e) (λ none. none) all
  shallow (DoWhile body e) all = one-shallow e (kept declared e) [] [] (kept-depth declared e) (λ none. none) all
  shallow (Forever body) all = refl
  shallow (Switch e arms last) all = one-shallow e (chosen_by declared e) [] [] (chosen-depth e) (λ none. none) all
  shallow Break all = refl
  shallow Continue all = refl
  shallow (Goto word) all = refl
  shallow (Label word) all = refl
  shallow Empty all = refl
  shallow (Return None) all = refl
  shallow (Return (Some e)) all = one-shallow e (as_written.returned e) [] [] (returned-depth f.result e) (λ none. none) all

  may-stand : MayStand tree after_text f (function_by (writing tree) f) as_written
  may-stand = record {
    test = test-number;
    choice = choice-word;
    value = value-allowed;
    call = λ place function es depth allowed.
        subst (λ o. call_fits declared (option_map (kept declared) place) (as_written.arguments function es) o ≡ true) (sym (written-signature (writing tree) tree function))
        (call-kept place es (signature_in tree function) allowed);
    returned = λ e allowed. returned-allowed e f.result f.result refl allowed;
    shallow = shallow;
    test_written = λ e is. kept-written declared e ∙ is;
    choice_written = λ e is. chosen-written e ∙ is;
    place_written = λ place is. place-written declared place ∙ is;
    value_written = λ place e is. value-written (place_type declared place) e ∙ is;
    arguments_written = λ function es is. arguments-written (signature_in tree function) es ∙ is;
    returned_written = λ e is. returned-written f.result e ∙ is;
  }

-- The whole text.

module _ (tree : Tree) where
  all-may : (functions : List Function) → AllMayStand (writing tree) tree functions
  all-may [] = tt
  all-may (f ∷ functions) = (may-stand tree f, all-may functions)

  -- a text stays writable without needless casts
  pub casts-writable : IsWritable tree → IsWritable (without_casts tree)
  casts-writable is = written-writable (writing tree) tree (all-may tree.functions) is

  all-mean : (functions : List Function) (at there : ℕ) → AreAllowed (numbered tree) (numbered_functions at functions) → MeanAlike (writing tree) (numbered tree) (numbered (without_casts tree)) functions at there
  all-mean [] at there allowed = tt
  all-mean (f ∷ functions) at there (rules.one_more first others) =
      ((means tree f at there, keeps-addresses tree f at there, first.types), all-mean functions _ _ others)

  -- with its lines counted it is the text, whose lines are counted, otherwise written
  pub casts-respelled : IsAllowed (numbered tree) → IsRespelled (numbered tree) (numbered (without_casts tree))
  casts-respelled allowed =
      let at = 3 + rows (written_globals None tree.globals) in record {
        hi = refl;
        memory = λ fill. refl;
        functions = functions-alike (writing tree) (numbered tree) (numbered (without_casts tree)) tree.functions at at (all-mean tree.functions at at allowed.functions);
      }
