-- A complete function is allowed just where nothing offends in it.
use Rattle.std.proofs.Common.{◌≡◌, ℕ, Bool, true, ◌&&◌, List, [], ◌∷◌, ◌++◌, map, Some, None, refl, sym, ap, ◌∙◌, append-nil}
use Rattle.std.proofs.lemmas.List.{map-append}
use Rattle.std.specs.Prelude.{not}
use Rattle.std.specs.List.{list_all, flat_map}
use Rattle.dcc_c.specs.Tree.{Word, Stmt, Variable, Global, Function}
use Rattle.dcc_c.specs.Parts.{stmts_in, labels_in}
use Rattle.dcc_c.specs.Grammar.{is_among}
use Rattle.dcc_c.specs.Dos.{dos_names}
use Rattle.dcc_c.specs.Rules.{names_of, known_names, own_variables, all_differ, goto_of, allows_stmt, shallow_stmt, IsAllowedFunction}
use Rattle.dcc_c.specs.Kinds.{of_name, offence}
use Rattle.dcc_c.specs.Partial.{WordAt, PartialVariable, PartialFunction, PartialText, PartialStmt, AssignOf, CallOf, IfOf, WhileOf, DoWhileOf, ForeverOf, SwitchOf, BreakOf, ContinueOf, GotoOf, LabelOf, EmptyOf, ReturnOf}
use Rattle.dcc_c.specs.Known.{Known, known_functions}
use Rattle.dcc_c.specs.Offences.{BodyContext, repeated, label_list, own_offences, inner_offences, lines_offences, body_offences}
use Rattle.dcc_c.specs.TextOffences.{name_list, words_of, sizes_of, scene_of, function_offences, known_in}
use Rattle.dcc_c.specs.Stripped.{plain_name, plain_stmt, plain_lines, plain_variable, plain_global, plain_function, plain_text}
use Rattle.dcc_c.specs.Complete.{is_complete_stmt, is_complete_variable, is_complete_function}
use Rattle.dcc_c.proofs.refusals.ExprRules.{none-both, none-only, both-empty, and-both}
use Rattle.dcc_c.proofs.refusals.StmtRules.{not-true}
use Rattle.dcc_c.proofs.refusals.ListRules.{none_among, repeated-apart, apart-repeated}
use Rattle.dcc_c.proofs.refusals.LabelRules.{lines-words}
use Rattle.dcc_c.proofs.refusals.TimesRules.{among-same, differ-same, all-same}
use Rattle.dcc_c.proofs.refusals.WalkRules.{lines-all, lines-clean, append-all}
use Rattle.dcc_c.proofs.refusals.BodyRules.{stmt-allowed, stmt-clean}
use Rattle.dcc_c.proofs.refusals.KnownRules.{CompleteFunction, known_plain, known-all, name-words}
use Rattle.dcc_c.proofs.refusals.FunctionRules.{append-differ, differ-append, sizes-there, there-sizes}
use Rattle.dcc_c.proofs.refusals.ContextRules.{is-scene, knows}

-- `goto`s of statements, as a test of each statement
goto_allowed : List Word → Stmt → Bool
goto_allowed labels stmt = list_all (is_among labels) (goto_of stmt)

all-gotos : (labels : List Word) (stmts : List Stmt) → list_all (goto_allowed labels) stmts ≡ true → list_all (is_among labels) (flat_map goto_of stmts) ≡ true
unfolding goto_allowed
all-gotos labels [] e = refl
all-gotos labels (stmt ∷ stmts) e =
    let parts = and-both (list_all (is_among labels) (goto_of stmt)) (list_all (goto_allowed labels) stmts) e in
    joined (is_among labels) (goto_of stmt) (flat_map goto_of stmts) parts.0 (all-gotos labels stmts parts.1) where
      joined : {A : Type 0} (P : A → Bool) (xs ys : List A) → list_all P xs ≡ true → list_all P ys ≡ true → list_all P (xs ++ ys) ≡ true
      joined P [] ys e g = g
      joined P (x ∷ xs) ys e g = let parts = and-both (P x) (list_all P xs) e in rw parts.0 (joined P xs ys parts.1 g)

gotos-all : (labels : List Word) (stmts : List Stmt) → list_all (is_among labels) (flat_map goto_of stmts) ≡ true → list_all (goto_allowed labels) stmts ≡ true
unfolding goto_allowed
gotos-all labels [] e = refl
gotos-all labels (stmt ∷ stmts) e =
    let parts = append-all (is_among labels) (goto_of stmt) (flat_map goto_of stmts) e in rw parts.0 (gotos-all labels stmts parts.1)

both-all : {A : Type 0} (P Q : A → Bool) (xs : List A) → list_all P xs ≡ true → list_all Q xs ≡ true → list_all (λ x. P x && Q x) xs ≡ true
both-all P Q [] e g = refl
both-all P Q (x ∷ xs) e g =
    let first = and-both (P x) (list_all P xs) e in
    let second = and-both (Q x) (list_all Q xs) g in
    rw first.0 (rw second.0 (both-all P Q xs first.1 second.1))

module _ (text : PartialText) (globals : list_all is_complete_variable text.globals ≡ true) (functions : list_all is_complete_function text.functions ≡ true) where
  names-map : (fs : List PartialFunction) → map (λ (k : Known). k.name) (map known_plain fs) ≡ map (λ (f : Function). f.name) (map plain_function fs)
  names-map [] = refl
  names-map (f ∷ fs) = ap (λ l. plain_name f.name ∷ l) (names-map fs)

  pub globals-map : (vs : List PartialVariable) → map (λ v. plain_name v.name) vs ≡ map (λ (g : Global). g.name) (map plain_global vs)
  globals-map [] = refl
  globals-map (v ∷ vs) = ap (λ l. plain_name v.name ∷ l) (globals-map vs)

  variables-map : (vs : List PartialVariable) → map (λ v. plain_name v.name) vs ≡ names_of (map plain_variable vs)
  variables-map [] = refl
  variables-map (v ∷ vs) = ap (λ l. plain_name v.name ∷ l) (variables-map vs)

  -- the words that the whole text knows
  pub words-are : (known_in text []).words ≡ known_names (plain_text text)
  words-are =
      ap (λ l. l ++ (map (λ k. k.name) (known_functions text.functions ++ []) ++ dos_names)) (name-words text.globals globals ∙ globals-map text.globals)
      ∙ ap (λ l. map (λ (g : Global). g.name) (map plain_global text.globals) ++ (map (λ (k : Known). k.name) l ++ dos_names)) (append-nil (known_functions text.functions) ∙ known-all text.functions functions)
      ∙ ap (λ l. map (λ (g : Global). g.name) (map plain_global text.globals) ++ (l ++ dos_names)) (names-map text.functions)

  module _ (f : PartialFunction) (c : CompleteFunction f) where
    own-words : map (λ n. n.word) (name_list f.params ++ name_list f.locals) ≡ names_of (own_variables (plain_function f))
    own-words = map-append (λ (n : WordAt). n.word) (name_list f.params) (name_list f.locals)
        ∙ ap (λ l. l ++ words_of (name_list f.locals)) (name-words f.params c.params ∙ variables-map f.params)
        ∙ ap (λ l. names_of (map plain_variable f.params) ++ l) (name-words f.locals c.locals ∙ variables-map f.locals)
        ∙ sym (map-append (λ (v : Variable). v.name) (map plain_variable f.params) (map plain_variable f.locals))

    scene : BodyContext
    scene = scene_of (known_in text []) [] f

    labels-are : (word : Word) → is_among (words_of (label_list f.body) ++ []) word ≡ is_among (labels_in (plain_lines f.body)) word
    labels-are word = ap (λ l. is_among l word) (append-nil (words_of (label_list f.body))) ∙ among-same (words_of (label_list f.body)) (labels_in (plain_lines f.body)) (lines-words f.body) word

    goto-holds : (at blocks : ℕ) (stmt : PartialStmt) → is_complete_stmt stmt ≡ true → own_offences scene at stmt ≡ [] → inner_offences scene blocks stmt ≡ [] →
        goto_allowed scene.labels (plain_stmt stmt) ≡ true
    unfolding goto_allowed
    goto-holds at blocks (GotoOf (Some name)) whole none inner =
        rw (not-true (is_among scene.labels name.word) (none-only (not (is_among scene.labels name.word)) (offence of_name name.at) none)) refl
    goto-holds at blocks (GotoOf None) whole none inner = absurd cc
    goto-holds at blocks (AssignOf place e done) whole none inner = refl
    goto-holds at blocks (CallOf place call) whole none inner = refl
    goto-holds at blocks (IfOf e done body otherwise) whole none inner = refl
    goto-holds at blocks (WhileOf e done body) whole none inner = refl
    goto-holds at blocks (DoWhileOf body e done) whole none inner = refl
    goto-holds at blocks (ForeverOf body) whole none inner = refl
    goto-holds at blocks (SwitchOf e done arms) whole none inner = refl
    goto-holds at blocks BreakOf whole none inner = refl
    goto-holds at blocks ContinueOf whole none inner = refl
    goto-holds at blocks (LabelOf name) whole none inner = refl
    goto-holds at blocks EmptyOf whole none inner = refl
    goto-holds at blocks (ReturnOf e done) whole none inner = refl

    -- a function in which nothing offends is allowed
    pub function-allowed : all_differ (known_names (plain_text text)) ≡ true → function_offences (known_in text []) [] f ≡ [] →
        list_all (shallow_stmt 200) (stmts_in (plain_lines f.body)) ≡ true → IsAllowedFunction (plain_text text) (plain_function f)
    unfolding scene goto_allowed
    function-allowed all none shallow =
        let one = none-both (repeated (known_in text []).words (name_list f.params ++ name_list f.locals)) _ none in
        let two = none-both (sizes_of f.locals) (body_offences scene f.body) one.1 in
        let three = none-both (repeated [] (label_list f.body)) (lines_offences scene 0 f.body) two.1 in
        let own = repeated-apart (known_in text []).words (name_list f.params ++ name_list f.locals) one.0 in
        let labels = repeated-apart [] (label_list f.body) three.0 in
        let is = is-scene text globals functions f c [] in
        record {
          own_names = differ-append (names_of (own_variables (plain_function f))) (known_names (plain_text text))
              (ap all_differ (sym own-words) ∙ own.1) all
              (ap (λ l. none_among l (names_of (own_variables (plain_function f)))) (sym words-are) ∙ ap (none_among (known_in text []).words) (sym own-words) ∙ own.0);
          labels = rw (differ-same (words_of (label_list f.body)) (labels_in (plain_lines f.body)) (lines-words f.body) labels.1)
              (all-same (is_among scene.labels) (is_among (labels_in (plain_lines f.body))) labels-are (flat_map goto_of (stmts_in (plain_lines f.body)))
              (all-gotos scene.labels (stmts_in (plain_lines f.body)) (lines-all (goto_allowed scene.labels) scene goto-holds 0 f.body c.body three.1)));
          types = lines-all (allows_stmt (plain_text text) (plain_function f)) scene (stmt-allowed (plain_text text) (plain_function f) scene is) 0 f.body c.body three.1;
          arrays = sizes-there f.locals two.0;
          depth = shallow;
        }

    -- nothing offends in a function that is allowed
    pub function-clean : all_differ (known_names (plain_text text)) ≡ true → IsAllowedFunction (plain_text text) (plain_function f) →
        function_offences (known_in text []) [] f ≡ []
    unfolding scene goto_allowed
    function-clean all allowed =
        let own = append-differ (names_of (own_variables (plain_function f))) (known_names (plain_text text)) allowed.own_names in
        let is = is-scene text globals functions f c [] in
        let known = knows text globals functions f c [] allowed.own_names all in
        let labels = and-both (all_differ (labels_in (plain_lines f.body))) (list_all (is_among (labels_in (plain_lines f.body))) (flat_map goto_of (stmts_in (plain_lines f.body)))) allowed.labels in
        let gotos = gotos-all scene.labels (stmts_in (plain_lines f.body))
        (all-same (is_among (labels_in (plain_lines f.body))) (is_among scene.labels) (λ word. sym (labels-are word)) (flat_map goto_of (stmts_in (plain_lines f.body))) labels.1) in
        both-empty
        (apart-repeated (known_in text []).words (name_list f.params ++ name_list f.locals)
        (ap (none_among (known_in text []).words) own-words ∙ ap (λ l. none_among l (names_of (own_variables (plain_function f)))) words-are ∙ own.2)
        (ap all_differ own-words ∙ own.0))
        (both-empty (there-sizes f.locals allowed.arrays)
        (both-empty (apart-repeated [] (label_list f.body) (none-known (words_of (label_list f.body))) (differ-same (labels_in (plain_lines f.body)) (words_of (label_list f.body)) (λ word. sym (lines-words f.body word)) labels.0))
        (lines-clean (λ stmt. allows_stmt (plain_text text) (plain_function f) stmt && goto_allowed scene.labels stmt) scene
        (stmt-clean (plain_text text) (plain_function f) scene is known) 0 f.body c.body c.within
        (both-all (allows_stmt (plain_text text) (plain_function f)) (goto_allowed scene.labels) (stmts_in (plain_lines f.body)) allowed.types gotos)))) where
          none-known : (words : List Word) → none_among [] words ≡ true
          none-known [] = refl
          none-known (word ∷ words) = none-known words
