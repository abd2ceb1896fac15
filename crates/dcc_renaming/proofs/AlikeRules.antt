-- A text with other names keeps to the rules on names, types, places and depth, where names that differ stay different.
use Rattle.std.proofs.Common.{◌≡◌, suc, Bool, true, false, List, [], ◌∷◌, ◌++◌, map, Option, Some, None, refl, sym, ap, ap₂, ◌∙◌, subst, inl, inr}
use Rattle.std.specs.Prelude.{◌&&◌, ◌||◌, not, if◌then◌else◌, max, nat_le, codes, option_map, option_and_then}
use Rattle.std.specs.List.{list_all, flat_map}
use Rattle.std.proofs.lemmas.List.{map-append}
use Rattle.dcc_c.specs.declared.syntax.CType.{CType}
use Rattle.dcc_c.specs.declared.syntax.CUn.TheVariants.{Minus, Complement, Not, Deref, AddressOf}
use Rattle.dcc_c.specs.Dos.{Dos, Putc, Getche, Getch, Puts, Leave, all_dos, dos_name, dos_names, dos_in, dos_of, dos_signature, Signature}
use Rattle.dcc_c.specs.Grammar.{is_among}
use Rattle.dcc_c.specs.Parts.{stmts_in, exprs_of, label_of, labels_in}
use Rattle.dcc_c.specs.Rules.{all_differ, names_of, known_names, own_variables, declared_param, declared_local, declared_global, declared_in, goto_of, allows_labels, converts, fits, is_word_base, fit_all, result_fits, signature_of, signature_in, call_fits, cases_of, differ, at_most_one, allows_stmt, expr_depth, shallow_stmt, has_element, allows_global, are_apart, all_apart, is_off_stack, IsAllowedFunction, AreAllowed, no_more, one_more, IsAllowed}
use Rattle.dcc_c.specs.Run.{function_in}
use Rattle.dcc_c.specs.Token.{same_bytes}
use Rattle.dcc_c.specs.Tree.{Word, Expr, Number, Name, Unary, Binary, Conditional, Cast, Stmt, Assign, Call, If, While, DoWhile, Forever, Switch, Break, Continue, Goto, Label, Empty, Return, Lines, Arms, no_arms, arm, Global, Variable, Function, Tree}
use Rattle.dcc_c.specs.Types.{promoted_type}
use Rattle.dcc_c.specs.Typing.{Declared, declared_as, type_of_variable, type_of, place_type}
use Rattle.dcc_c.proofs.NameLaws.{same_bytes-equal, same_bytes-refl}
use Rattle.dcc_renaming.specs.Renamed.{renamed_expr, renamed_stmt, renamed_lines, renamed_arms, renamed_variable, renamed_global}
use Rattle.dcc_renaming.proofs.AlikeBodies.{stmts-renamed, exprs-renamed}
use Rattle.dcc_renaming.proofs.AlikeNames.{AreNames, new_function, new_tree}
use Rattle.dcc_renaming.proofs.AlikeRuns.{found-new, types-same}
use Rattle.dcc_renaming.proofs.AlikeValues.{renamed_declared, found-declared, type-renamed}
use Rattle.dcc_renaming.proofs.CleanRuns.{allowed-in}
use Rattle.dcc_renaming.proofs.Members.{In}

-- Lists of items that are made anew.

map-over : {A B C D : Type 0} (f : B → D) (h : A → B) (k : C → D) (g : A → C) → ((x : A) → f (h x) ≡ k (g x)) → (xs : List A) → map f (map h xs) ≡ map k (map g xs)
map-over f h k g each [] = refl
map-over f h k g each (x ∷ xs) = ap₂ (λ y l. y ∷ l) (each x) (map-over f h k g each xs)

flat-over : {A B C : Type 0} (g : B → List C) (h : A → B) (f : A → List C) → ((x : A) → g (h x) ≡ f x) → (xs : List A) → flat_map g (map h xs) ≡ flat_map f xs
flat-over g h f each [] = refl
flat-over g h f each (x ∷ xs) = ap₂ (λ a b. a ++ b) (each x) (flat-over g h f each xs)

all-over : {A B : Type 0} (q : B → Bool) (h : A → B) (p : A → Bool) → ((x : A) → q (h x) ≡ p x) → (xs : List A) → list_all q (map h xs) ≡ list_all p xs
all-over q h p each [] = refl
all-over q h p each (x ∷ xs) = ap₂ (λ a b. a && b) (each x) (all-over q h p each xs)

-- Names that differ.

among-over : (g h : Word → Word) (w : Word) (v : Word) (xs ys : List Word) → ((x : Word) → In x xs → same_bytes v (g x) ≡ same_bytes w x) → ((y : Word) → In y ys → same_bytes v (h y) ≡ same_bytes w y) →
    is_among (map g xs ++ map h ys) v ≡ is_among (xs ++ ys) w
among-over g h w v [] [] first second = refl
among-over g h w v [] (y ∷ ys) first second = ap₂ (λ a b. a || b) (second y (inl refl)) (among-over g h w v [] ys first (λ z is. second z (inr is)))
among-over g h w v (x ∷ xs) ys first second = ap₂ (λ a b. a || b) (first x (inl refl)) (among-over g h w v xs ys (λ z is. first z (inr is)) second)

differ-over : (g h : Word → Word) (xs ys : List Word) → ((a b : Word) → same_bytes (g a) (g b) ≡ same_bytes a b) → ((a b : Word) → same_bytes (h a) (h b) ≡ same_bytes a b) →
    ((x y : Word) → In x xs → In y ys → same_bytes (g x) (h y) ≡ same_bytes x y) → all_differ (map g xs ++ map h ys) ≡ all_differ (xs ++ ys)
differ-over g h [] [] one two mixed = refl
differ-over g h [] (y ∷ ys) one two mixed =
    ap₂ (λ a b. not a && b) (among-over g h y (h y) [] ys (λ x none. absurd none) (λ z is. two y z)) (differ-over g h [] ys one two (λ x z none is. absurd none))
differ-over g h (x ∷ xs) ys one two mixed =
    ap₂ (λ a b. not a && b) (among-over g h x (g x) xs ys (λ z is. one x z) (λ z is. mixed x z (inl refl) is)) (differ-over g h xs ys one two (λ z w is also. mixed z w (inr is) also))

-- Statements.

label-new : (own outer : Word → Word) (s : Stmt) → label_of (renamed_stmt own outer s) ≡ label_of s
label-new own outer (Assign place e) = refl
label-new own outer (Call place function arguments depth) = refl
label-new own outer (If e body otherwise) = refl
label-new own outer (While e body) = refl
label-new own outer (DoWhile body e) = refl
label-new own outer (Forever body) = refl
label-new own outer (Switch e arms last) = refl
label-new own outer Break = refl
label-new own outer Continue = refl
label-new own outer (Goto word) = refl
label-new own outer (Label word) = refl
label-new own outer Empty = refl
label-new own outer (Return e) = refl

goto-new : (own outer : Word → Word) (s : Stmt) → goto_of (renamed_stmt own outer s) ≡ goto_of s
goto-new own outer (Assign place e) = refl
goto-new own outer (Call place function arguments depth) = refl
goto-new own outer (If e body otherwise) = refl
goto-new own outer (While e body) = refl
goto-new own outer (DoWhile body e) = refl
goto-new own outer (Forever body) = refl
goto-new own outer (Switch e arms last) = refl
goto-new own outer Break = refl
goto-new own outer Continue = refl
goto-new own outer (Goto word) = refl
goto-new own outer (Label word) = refl
goto-new own outer Empty = refl
goto-new own outer (Return e) = refl

labels-new : (own outer : Word → Word) (body : Lines) → labels_in (renamed_lines own outer body) ≡ labels_in body
labels-new own outer body = ap (flat_map label_of) (stmts-renamed own outer body) ∙ flat-over label_of (renamed_stmt own outer) label_of (label-new own outer) (stmts_in body)

allowed-labels : (own outer : Word → Word) (body : Lines) → allows_labels (renamed_lines own outer body) ≡ allows_labels body
allowed-labels own outer body =
    ap₂ (λ ls gs. all_differ ls && list_all (is_among ls) gs) (labels-new own outer body)
    (ap (flat_map goto_of) (stmts-renamed own outer body) ∙ flat-over goto_of (renamed_stmt own outer) goto_of (goto-new own outer) (stmts_in body))

depth-new : (own : Word → Word) (e : Expr) → expr_depth (renamed_expr own e) ≡ expr_depth e
depth-new own (Number n base) = refl
depth-new own (Name word) = refl
depth-new own (Unary operator a) = ap suc (depth-new own a)
depth-new own (Binary operator a b) = ap₂ (λ x y. suc (max x y)) (depth-new own a) (depth-new own b)
depth-new own (Conditional a b c) = ap₂ (λ x y. suc (max x y)) (depth-new own a) (ap₂ max (depth-new own b) (depth-new own c))
depth-new own (Cast type a) = ap suc (depth-new own a)

shallow-new : (own outer : Word → Word) (s : Stmt) → shallow_stmt 200 (renamed_stmt own outer s) ≡ shallow_stmt 200 s
shallow-new own outer s =
    ap (list_all (λ e. nat_le (expr_depth e) 200)) (exprs-renamed own outer s)
    ∙ all-over (λ e. nat_le (expr_depth e) 200) (renamed_expr own) (λ e. nat_le (expr_depth e) 200) (λ e. ap (λ n. nat_le n 200) (depth-new own e)) (exprs_of s)

cases-new : (own outer : Word → Word) (arms : Arms) → cases_of (renamed_arms own outer arms) ≡ cases_of arms
cases-new own outer no_arms = refl
cases-new own outer (arm cases body arms) = ap (λ l. cases ++ l) (cases-new own outer arms)

one-new : (own outer : Word → Word) (arms : Arms) → at_most_one (renamed_arms own outer arms) ≡ at_most_one arms
one-new own outer no_arms = refl
one-new own outer (arm cases body no_arms) = refl
one-new own outer (arm cases body (arm others last arms)) = refl

-- Global variables.

apart-new : (outer : Word → Word) (globals : List Global) → all_apart (map (renamed_global outer) globals) ≡ all_apart globals
apart-new outer [] = refl
apart-new outer (g ∷ globals) =
    ap₂ (λ a b. a && b) (all-over (are_apart (renamed_global outer g)) (renamed_global outer) (are_apart g) (λ h. refl) globals) (apart-new outer globals)

module _ (outer : Word → Word) (own : Word → Word → Word) (tree : Tree) (names : AreNames tree.globals outer own) where
  -- Types.

  declared-new : (f : Function) → declared_in (new_tree outer own tree) (new_function outer own f) ≡ map (renamed_declared (own f.name)) (declared_in tree f)
  declared-new f =
      let o = own f.name in
      let params = map-over declared_param (renamed_variable o) (renamed_declared o) declared_param (λ v. refl) f.params in
      let locals = map-over declared_local (renamed_variable o) (renamed_declared o) declared_local (λ v. refl) f.locals in
      let globals = ap (map declared_global) (sym (names.globals_same f.name)) ∙ map-over declared_global (renamed_global o) (renamed_declared o) declared_global (λ g. refl) tree.globals in
      ap₂ (λ a b. a ++ b) params (ap₂ (λ a b. a ++ b) locals globals ∙ sym (map-append (renamed_declared o) (map declared_local f.locals) (map declared_global tree.globals)))
      ∙ sym (map-append (renamed_declared o) (map declared_param f.params) (map declared_local f.locals ++ map declared_global tree.globals))

  type-new : (f : Function) (e : Expr) → type_of (declared_in (new_tree outer own tree) (new_function outer own f)) (renamed_expr (own f.name) e) ≡ type_of (declared_in tree f) e
  type-new f e = ap (λ ns. type_of ns (renamed_expr (own f.name) e)) (declared-new f) ∙ type-renamed (own f.name) (names.own_same f.name) (declared_in tree f) e

  variable-type : (o : Word → Word) (d : Option Declared) → option_and_then type_of_variable (option_map (renamed_declared o) d) ≡ option_and_then type_of_variable d
  variable-type o (Some d) = refl
  variable-type o None = refl

  place-renamed : (f : Function) (place : Expr) → place_type (map (renamed_declared (own f.name)) (declared_in tree f)) (renamed_expr (own f.name) place) ≡ place_type (declared_in tree f) place
  place-renamed f (Name word) =
      ap (option_and_then type_of_variable) (found-declared (own f.name) (names.own_same f.name) (declared_in tree f) word) ∙ variable-type (own f.name) (declared_as (declared_in tree f) word)
  place-renamed f (Unary Deref a) = type-renamed (own f.name) (names.own_same f.name) (declared_in tree f) (Unary Deref a)
  place-renamed f (Unary Minus a) = refl
  place-renamed f (Unary Complement a) = refl
  place-renamed f (Unary Not a) = refl
  place-renamed f (Unary AddressOf a) = refl
  place-renamed f (Number n base) = refl
  place-renamed f (Binary operator a b) = refl
  place-renamed f (Conditional a b c) = refl
  place-renamed f (Cast type a) = refl

  place-new : (f : Function) (place : Expr) → place_type (declared_in (new_tree outer own tree) (new_function outer own f)) (renamed_expr (own f.name) place) ≡ place_type (declared_in tree f) place
  place-new f place = ap (λ ns. place_type ns (renamed_expr (own f.name) place)) (declared-new f) ∙ place-renamed f place

  fits-new : (f : Function) (to : CType) (e : Expr) → fits (declared_in (new_tree outer own tree) (new_function outer own f)) to (renamed_expr (own f.name) e) ≡ fits (declared_in tree f) to e
  fits-new f to e = ap (λ t. elim t [ Some from ↦ converts from to | None ↦ false ]) (type-new f e)

  all-fit-new : (f : Function) (types : List CType) (es : List Expr) →
      fit_all (declared_in (new_tree outer own tree) (new_function outer own f)) types (map (renamed_expr (own f.name)) es) ≡ fit_all (declared_in tree f) types es
  all-fit-new f [] [] = refl
  all-fit-new f [] (e ∷ es) = refl
  all-fit-new f (type ∷ types) [] = refl
  all-fit-new f (type ∷ types) (e ∷ es) = ap₂ (λ a b. a && b) (fits-new f type e) (all-fit-new f types es)

  result-new : (f : Function) (place : Option Expr) (result : Option CType) →
      result_fits (declared_in (new_tree outer own tree) (new_function outer own f)) (option_map (renamed_expr (own f.name)) place) result ≡ result_fits (declared_in tree f) place result
  result-new f None result = refl
  result-new f (Some place) None = refl
  result-new f (Some place) (Some from) = ap (λ t. elim t [ Some to ↦ converts from to | None ↦ false ]) (place-new f place)

  call-new : (f : Function) (place : Option Expr) (arguments : List Expr) (known : Option Signature) →
      call_fits (declared_in (new_tree outer own tree) (new_function outer own f)) (option_map (renamed_expr (own f.name)) place) (map (renamed_expr (own f.name)) arguments) known
      ≡ call_fits (declared_in tree f) place arguments known
  call-new f place arguments None = refl
  call-new f place arguments (Some known) = ap₂ (λ a b. a && b) (result-new f place known.result) (all-fit-new f known.params arguments)

  known-new : (o : Option Function) → option_map signature_of (option_map (new_function outer own) o) ≡ option_map signature_of o
  known-new None = refl
  known-new (Some f) = ap (λ ts. Some (record { result = f.result; params = ts })) (types-same outer own tree names (own f.name) f.params)

  signature-new : (w : Word) → signature_in (new_tree outer own tree) (outer w) ≡ signature_in tree w
  signature-new w =
      ap₂ (λ d o. elim d [ Some dos ↦ Some (dos_signature dos) | None ↦ o ]) (names.dos w)
      (ap (option_map signature_of) (found-new outer own tree names tree.functions w) ∙ known-new (function_in tree.functions w))

  allows-new : (f : Function) (s : Stmt) → allows_stmt (new_tree outer own tree) (new_function outer own f) (renamed_stmt (own f.name) outer s) ≡ allows_stmt tree f s
  allows-new f (Assign place e) =
      ap₂ (λ p t. elim p [ Some to ↦ elim t [ Some from ↦ converts from to | None ↦ false ] | None ↦ false ]) (place-new f place) (type-new f e)
  allows-new f (Call place function arguments depth) =
      ap (call_fits (declared_in (new_tree outer own tree) (new_function outer own f)) (option_map (renamed_expr (own f.name)) place) (map (renamed_expr (own f.name)) arguments)) (signature-new function)
      ∙ call-new f place arguments (signature_in tree function)
  allows-new f (If e body otherwise) = ap (λ t. elim t [ Some type ↦ not type.pointer | None ↦ false ]) (type-new f e)
  allows-new f (While e body) = ap (λ t. elim t [ Some type ↦ not type.pointer | None ↦ false ]) (type-new f e)
  allows-new f (DoWhile body e) = ap (λ t. elim t [ Some type ↦ not type.pointer | None ↦ false ]) (type-new f e)
  allows-new f (Switch e arms last) =
      ap₂ (λ t b. elim t [ Some type ↦ not type.pointer && is_word_base (promoted_type type.base) | None ↦ false ] && b) (type-new f e)
      (ap₂ (λ cs b. differ cs && b) (cases-new (own f.name) outer arms) (one-new (own f.name) outer last))
  allows-new f (Return None) = refl
  allows-new f (Return (Some e)) =
      ap (λ t. elim f.result [ Some to ↦ elim t [ Some from ↦ converts from to | None ↦ false ] | None ↦ false ]) (type-new f e)
  allows-new f (Forever body) = refl
  allows-new f Break = refl
  allows-new f Continue = refl
  allows-new f (Goto word) = refl
  allows-new f (Label word) = refl
  allows-new f Empty = refl

  -- Names.

  dos-in-name : (all : List Dos) (w : Word) (d : Dos) → dos_in all w ≡ Some d → dos_name d ≡ w
  dos-in-name [] w d is = absurd cc
  dos-in-name (e ∷ all) w d is = either (same_bytes (dos_name e) w) refl is (dos-in-name all w d) where
    either : (b : Bool) → same_bytes (dos_name e) w ≡ b → (if b then Some e else dos_in all w) ≡ Some d → (dos_in all w ≡ Some d → dos_name d ≡ w) → dos_name d ≡ w
    either true met found later = let one : e ≡ d = cc in ap dos_name (sym one) ∙ same_bytes-equal (dos_name e) w met
    either false unmet found later = later found

  dos-kept : (d : Dos) → dos_of (dos_name d) ≡ Some d → outer (dos_name d) ≡ dos_name d
  dos-kept d is = sym (dos-in-name all_dos (outer (dos_name d)) d (names.dos (dos_name d) ∙ is))

  dos-names-kept : dos_names ≡ map outer dos_names
  dos-names-kept =
      ap₂ (λ w l. w ∷ l) (sym (dos-kept Putc refl)) (ap₂ (λ w l. w ∷ l) (sym (dos-kept Getche refl)) (ap₂ (λ w l. w ∷ l) (sym (dos-kept Getch refl))
      (ap₂ (λ w l. w ∷ l) (sym (dos-kept Puts refl)) (ap (λ w. w ∷ []) (sym (dos-kept Leave refl))))))

  known-names-new : known_names (new_tree outer own tree) ≡ map outer (known_names tree)
  known-names-new =
      let globals = map-over (λ (g : Global). g.name) (renamed_global outer) outer (λ (g : Global). g.name) (λ g. refl) tree.globals in
      let functions = map-over (λ (f : Function). f.name) (new_function outer own) outer (λ (f : Function). f.name) (λ f. refl) tree.functions in
      ap₂ (λ a b. a ++ b) globals (ap₂ (λ a b. a ++ b) functions dos-names-kept ∙ sym (map-append outer (map (λ (f : Function). f.name) tree.functions) dos_names))
      ∙ sym (map-append outer (map (λ (g : Global). g.name) tree.globals) (map (λ (f : Function). f.name) tree.functions ++ dos_names))

  own-names-new : (f : Function) → names_of (own_variables (new_function outer own f)) ≡ map (own f.name) (names_of (own_variables f))
  own-names-new f =
      ap (map (λ (v : Variable). v.name)) (sym (map-append (renamed_variable (own f.name)) f.params f.locals))
      ∙ map-over (λ (v : Variable). v.name) (renamed_variable (own f.name)) (own f.name) (λ (v : Variable). v.name) (λ v. refl) (own_variables f)

  module _ (apart : (f : Function) → In f tree.functions → (x y : Word) → In x (names_of (own_variables f)) → In y (known_names tree) → same_bytes (own f.name x) (outer y) ≡ same_bytes x y) where
    function-allowed : (f : Function) → In f tree.functions → IsAllowedFunction tree f → IsAllowedFunction (new_tree outer own tree) (new_function outer own f)
    function-allowed f is a = record {
      own_names =
          ap₂ (λ xs ys. all_differ (xs ++ ys)) (own-names-new f) known-names-new
          ∙ differ-over (own f.name) outer (names_of (own_variables f)) (known_names tree) (names.own_same f.name) names.outer_same (apart f is) ∙ a.own_names;
      labels = allowed-labels (own f.name) outer f.body ∙ a.labels;
      types = ap (list_all (allows_stmt (new_tree outer own tree) (new_function outer own f))) (stmts-renamed (own f.name) outer f.body)
          ∙ all-over (allows_stmt (new_tree outer own tree) (new_function outer own f)) (renamed_stmt (own f.name) outer) (allows_stmt tree f) (allows-new f) (stmts_in f.body) ∙ a.types;
      arrays = all-over (λ (v : Variable). has_element v.len) (renamed_variable (own f.name)) (λ (v : Variable). has_element v.len) (λ v. refl) f.locals ∙ a.arrays;
      depth = ap (list_all (shallow_stmt 200)) (stmts-renamed (own f.name) outer f.body)
          ∙ all-over (shallow_stmt 200) (renamed_stmt (own f.name) outer) (shallow_stmt 200) (shallow-new (own f.name) outer) (stmts_in f.body) ∙ a.depth;
    }

    functions-allowed : (functions : List Function) → ((f : Function) → In f functions → In f tree.functions) → AreAllowed tree functions →
        AreAllowed (new_tree outer own tree) (map (new_function outer own) functions)
    functions-allowed [] all a = no_more
    functions-allowed (f ∷ functions) all a =
        one_more (function-allowed f (all f (inl refl)) (allowed-in tree (f ∷ functions) f a (inl refl)))
        (functions-allowed functions (λ g is. all g (inr is)) (others a)) where
          others : AreAllowed tree (f ∷ functions) → AreAllowed tree functions
          others (one_more first later) = later

    pub tree-allowed : IsAllowed tree → IsAllowed (new_tree outer own tree)
    tree-allowed a = record {
      start = new_function outer own a.start;
      others = map (new_function outer own) a.others;
      first = ap (map (new_function outer own)) a.first;
      name = same_bytes-equal (outer a.start.name) (codes "start") (names.start a.start.name ∙ subst (λ w. same_bytes w (codes "start") ≡ true) (sym a.name) (same_bytes-refl (codes "start")));
      no_params = ap (map (renamed_variable (own a.start.name))) a.no_params;
      no_result = a.no_result;
      names = ap all_differ known-names-new ∙ differ-over outer outer [] (known_names tree) names.outer_same names.outer_same (λ x y none is. absurd none) ∙ a.names;
      functions = functions-allowed tree.functions (λ f is. is) a.functions;
      lo = a.lo;
      hi = a.hi;
      globals = all-over allows_global (renamed_global outer) allows_global (λ g. refl) tree.globals ∙ a.globals;
      apart = apart-new outer tree.globals ∙ a.apart;
      off_stack = all-over (is_off_stack tree.lo tree.hi) (renamed_global outer) (is_off_stack tree.lo tree.hi) (λ g. refl) tree.globals ∙ a.off_stack;
    }
