-- Numbering the lines of a tree changes nothing but lines: an allowed tree stays one.
use Rattle.std.proofs.Common.{◌≡◌, ℕ, ◌+◌, Bool, true, false, ◌&&◌, if◌then◌else◌, List, [], ◌∷◌, ◌++◌, map, length, Option, Some, None, refl, ap, ap₂, sym, ◌∙◌}
use Rattle.std.specs.Prelude.{option_map}
use Rattle.std.specs.List.{list_all, list_any, flat_map}
use Rattle.std.proofs.lemmas.List.{map-append}
use Rattle.std.proofs.lemmas.List.Folds.{list_all-map}
use Rattle.dcc_c.specs.Token.{same_bytes}
use Rattle.dcc_c.specs.Tree.{Word, Stmt, Call, If, While, DoWhile, Forever, Switch, Goto, Label, Return, Lines, no_lines, line, Arms, no_arms, arm, Function, Tree}
use Rattle.dcc_c.specs.Parts.{stmts_in, inner_stmts, arm_stmts, exprs_of, label_of}
use Rattle.dcc_c.specs.Run.{function_in}
use Rattle.dcc_c.specs.Written.{written_globals}
use Rattle.dcc_c.specs.Numbered.{rows, numbered_stmt, numbered_lines, numbered_arms, numbered_default, numbered_function, numbered_functions, numbered}
use Rattle.dcc_c.specs.Dos.{dos_names, dos_of, dos_signature}
use Rattle.dcc_c.specs.Rules.{all_differ, names_of, known_names, own_variables, goto_of, allows_labels, signature_of, signature_in, call_fits, cases_of, at_most_one, allows_stmt, declared_in, shallow_stmt, IsAllowedFunction, AreAllowed, no_more, one_more, IsAllowed}

-- What is the same of a statement and the numbered one is the same of all statements in their lists.
module _ {A : Type 0} (part : Stmt → A) (same : (depth at : ℕ) (stmt : Stmt) → part (numbered_stmt depth at stmt) ≡ part stmt) where
  both_same : (xs ys us vs : List Stmt) → map part xs ≡ map part us → map part ys ≡ map part vs → map part (xs ++ ys) ≡ map part (us ++ vs)
  both_same xs ys us vs first second =
      map-append part xs ys ∙ ap₂ (λ l r. l ++ r) first second ∙ sym (map-append part us vs)

  mutual
    pub same_lines : (lines : Lines) (depth at : ℕ) → map part (stmts_in (numbered_lines depth at lines)) ≡ map part (stmts_in lines)
    same_lines no_lines depth at = refl
    same_lines (line stmt was lines) depth at =
        ap₂ (λ s l. s ∷ l) (same _ _ stmt) (both_same _ _ (inner_stmts stmt) (stmts_in lines) (same_inner stmt _ _) (same_lines lines _ _))

    pub same_inner : (stmt : Stmt) (depth at : ℕ) → map part (inner_stmts (numbered_stmt depth at stmt)) ≡ map part (inner_stmts stmt)
    same_inner (If e body otherwise) depth at =
        both_same _ _ (stmts_in body) (stmts_in otherwise) (same_lines body _ _) (same_lines otherwise _ _)
    same_inner (While e body) depth at = same_lines body _ _
    same_inner (DoWhile body e) depth at = same_lines body _ _
    same_inner (Forever body) depth at = same_lines body _ _
    same_inner (Switch e arms last) depth at =
        both_same _ _ (arm_stmts arms) (arm_stmts last) (same_arms arms _ _) (same_last last _ _)
    same_inner _ depth at = refl

    pub same_arms : (arms : Arms) (depth at : ℕ) → map part (arm_stmts (numbered_arms depth at arms)) ≡ map part (arm_stmts arms)
    same_arms no_arms depth at = refl
    same_arms (arm cases body arms) depth at =
        both_same _ _ (stmts_in body) (arm_stmts arms) (same_lines body _ _) (same_arms arms _ _)

    pub same_last : (arms : Arms) (depth at : ℕ) → map part (arm_stmts (numbered_default depth at arms)) ≡ map part (arm_stmts arms)
    same_last no_arms depth at = refl
    same_last (arm cases body arms) depth at =
        both_same _ _ (stmts_in body) (arm_stmts arms) (same_lines body _ _) refl

-- a test of all statements
pub all_same : (test : Stmt → Bool) → ((depth at : ℕ) (stmt : Stmt) → test (numbered_stmt depth at stmt) ≡ test stmt) → (lines : Lines) (depth at : ℕ) →
    list_all test (stmts_in (numbered_lines depth at lines)) ≡ list_all test (stmts_in lines)
all_same test same lines depth at =
    sym (list_all-map (λ b. b) test (stmts_in (numbered_lines depth at lines)))
    ∙ ap (list_all (λ b. b)) (same_lines test same lines depth at)
    ∙ list_all-map (λ b. b) test (stmts_in lines)

all_alike : {A : Type 0} (p q : A → Bool) → ((x : A) → p x ≡ q x) → (xs : List A) → list_all p xs ≡ list_all q xs
all_alike p q alike [] = refl
all_alike p q alike (x ∷ xs) = ap₂ (λ a b. a && b) (alike x) (all_alike p q alike xs)

-- lists that statements have, joined
joined_map : {A : Type 0} (part : Stmt → List A) (stmts : List Stmt) → flat_map part stmts ≡ flat_map (λ xs. xs) (map part stmts)
joined_map part [] = refl
joined_map part (stmt ∷ stmts) = ap (λ xs. part stmt ++ xs) (joined_map part stmts)

joined_same : {A : Type 0} (part : Stmt → List A) → ((depth at : ℕ) (stmt : Stmt) → part (numbered_stmt depth at stmt) ≡ part stmt) → (lines : Lines) (depth at : ℕ) →
    flat_map part (stmts_in (numbered_lines depth at lines)) ≡ flat_map part (stmts_in lines)
joined_same part same lines depth at =
    joined_map part (stmts_in (numbered_lines depth at lines))
    ∙ ap (flat_map (λ xs. xs)) (same_lines part same lines depth at)
    ∙ sym (joined_map part (stmts_in lines))

-- The parts of a statement that numbering keeps.

label_same : (depth at : ℕ) (stmt : Stmt) → label_of (numbered_stmt depth at stmt) ≡ label_of stmt
label_same depth at (Label name) = refl
label_same depth at _ = refl

goto_same : (depth at : ℕ) (stmt : Stmt) → goto_of (numbered_stmt depth at stmt) ≡ goto_of stmt
goto_same depth at (Goto name) = refl
goto_same depth at _ = refl

pub exprs_same : (depth at : ℕ) (stmt : Stmt) → exprs_of (numbered_stmt depth at stmt) ≡ exprs_of stmt
exprs_same depth at (If e body otherwise) = refl
exprs_same depth at _ = refl

shallow_same : (limit depth at : ℕ) (stmt : Stmt) → shallow_stmt limit (numbered_stmt depth at stmt) ≡ shallow_stmt limit stmt
shallow_same limit depth at stmt = ap (list_all _) (exprs_same depth at stmt)

cases_same : (arms : Arms) (depth at : ℕ) → cases_of (numbered_arms depth at arms) ≡ cases_of arms
cases_same no_arms depth at = refl
cases_same (arm cases body arms) depth at = ap (λ ns. cases ++ ns) (cases_same arms _ _)

at_most_same : (depth at : ℕ) (last : Arms) → at_most_one (numbered_default depth at last) ≡ at_most_one last
at_most_same depth at no_arms = refl
at_most_same depth at (arm cases body no_arms) = refl
at_most_same depth at (arm cases body (arm others block arms)) = refl

allows_same : (tree : Tree) (f : Function) (depth at : ℕ) (stmt : Stmt) → allows_stmt tree f (numbered_stmt depth at stmt) ≡ allows_stmt tree f stmt
allows_same tree f depth at (Switch e arms last) = rw (cases_same arms _ _, at_most_same _ _ last) refl
allows_same tree f depth at (If e body otherwise) = refl
allows_same tree f depth at _ = refl

labels_same : (lines : Lines) (depth at : ℕ) → allows_labels (numbered_lines depth at lines) ≡ allows_labels lines
labels_same lines depth at =
    ap₂ (λ labels gotos. all_differ labels && list_all (λ name. list_any (same_bytes name) labels) gotos) (joined_same label_of label_same lines depth at) (joined_same goto_of goto_same lines depth at)

-- Functions and trees.

names_same : (functions : List Function) (at : ℕ) → map (λ f. f.name) (numbered_functions at functions) ≡ map (λ f. f.name) functions
names_same [] at = refl
names_same (f ∷ functions) at = ap (λ names. f.name ∷ names) (names_same functions _)

either_same : {A B : Type 0} (g : A → B) (test : Bool) (x y : A) (o p : Option A) → g x ≡ g y → option_map g o ≡ option_map g p →
    option_map g (if test then Some x else o) ≡ option_map g (if test then Some y else p)
either_same g true x y o p first later = ap Some first
either_same g false x y o p first later = later

signatures_same : (functions : List Function) (at : ℕ) (name : Word) → option_map signature_of (function_in (numbered_functions at functions) name) ≡ option_map signature_of (function_in functions name)
signatures_same [] at name = refl
signatures_same (f ∷ functions) at name =
    either_same signature_of (same_bytes f.name name) (numbered_function at f) f _ (function_in functions name) refl (signatures_same functions _ name)

module _ (tree : Tree) where
  known_same : known_names (numbered tree) ≡ known_names tree
  known_same =
      ap (λ names. map (λ g. g.name) tree.globals ++ (names ++ dos_names)) (names_same tree.functions (3 + rows (written_globals None tree.globals)))

  signature_same : (name : Word) → signature_in (numbered tree) name ≡ signature_in tree name
  signature_same name =
      ap (λ own. elim (dos_of name) [ Some dos ↦ Some (dos_signature dos) | None ↦ own ]) (signatures_same tree.functions (3 + rows (written_globals None tree.globals)) name)

  -- a statement is allowed as it was
  stmt_allowed : (f : Function) (at : ℕ) (stmt : Stmt) → allows_stmt (numbered tree) (numbered_function at f) stmt ≡ allows_stmt tree f stmt
  stmt_allowed f at (Call place function arguments depth) =
      ap (call_fits (declared_in tree f) place arguments) (signature_same function)
  stmt_allowed f at (Return None) = refl
  stmt_allowed f at _ = refl

  function_allowed : (f : Function) (at : ℕ) → IsAllowedFunction tree f → IsAllowedFunction (numbered tree) (numbered_function at f)
  function_allowed f at allowed =
      let first = at + 2 + length f.locals in
      let types : list_all (allows_stmt (numbered tree) (numbered_function at f)) (stmts_in (numbered_lines 2 first f.body)) ≡ list_all (allows_stmt tree f) (stmts_in f.body) =
      all_same (allows_stmt (numbered tree) (numbered_function at f)) (allows_same (numbered tree) (numbered_function at f)) f.body 2 first
      ∙ all_alike _ _ (stmt_allowed f at) (stmts_in f.body)
      in
      record {
        own_names = ap (λ names. all_differ (names_of (own_variables f) ++ names)) known_same ∙ allowed.own_names;
        labels = labels_same f.body 2 first ∙ allowed.labels;
        types = types ∙ allowed.types;
        arrays = allowed.arrays;
        depth = all_same (shallow_stmt 200) (shallow_same 200) f.body 2 first ∙ allowed.depth;
      }

  functions_allowed : {functions : List Function} → AreAllowed tree functions → (at : ℕ) → AreAllowed (numbered tree) (numbered_functions at functions)
  functions_allowed no_more at = no_more
  functions_allowed (one_more {f} first others) at = one_more (function_allowed f at first) (functions_allowed others _)

-- an allowed tree with its lines counted is allowed
pub numbered_allowed : (tree : Tree) → IsAllowed tree → IsAllowed (numbered tree)
numbered_allowed tree allowed =
    let at = 3 + rows (written_globals None tree.globals) in
    record {
      start = numbered_function at allowed.start;
      others = numbered_functions ((numbered_function at allowed.start).last + 1) allowed.others;
      first = ap (numbered_functions at) allowed.first;
      name = allowed.name;
      no_params = allowed.no_params;
      no_result = allowed.no_result;
      names = ap all_differ (known_same tree) ∙ allowed.names;
      functions = functions_allowed tree allowed.functions at;
      lo = allowed.lo;
      hi = allowed.hi;
      globals = allowed.globals;
      apart = allowed.apart;
      off_stack = allowed.off_stack;
    }
