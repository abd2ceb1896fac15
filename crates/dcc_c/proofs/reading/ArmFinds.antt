-- Arms of the grammar are read, where their bodies are.
use Rattle.std.proofs.Common.{◌≡◌, ℕ, zero, suc, ◌-◌, ◌≤◌, List, [], ◌∷◌, ◌++◌, true, false, Some, None, refl, sym, ap, ◌∙◌, arith}
use Rattle.std.specs.Prelude.{codes, nat_le, ◌&&◌, ◌||◌}
use Rattle.std.specs.List.{list_all}
use Rattle.std.proofs.lemmas.Bool.{and_parts, le-leb, or_left}
use Rattle.std.proofs.lemmas.List.Folds.{list_all-append}
use Rattle.dcc_c.specs.Token.{Token, WordToken, Mark}
use Rattle.dcc_c.specs.Lexing.{Placed, placed}
use Rattle.dcc_c.specs.Tree.{Word, Expr, Stmt, Switch, Lines, Arms, no_arms, arm}
use Rattle.dcc_c.specs.Parts.{stmts_in, arm_stmts}
use Rattle.dcc_c.specs.Grammar.{mark, word, IsExpr, Around, in_switch, IsCaseNumber, plain_decimal, unsigned_decimal, plain_hex, unsigned_hex, AreCases, last_case, more_cases, has_arm, IsPlace, name_place, deref_place, IsCall, call, AreLines, AreArms, no_arm, case_arm, default_arm}
use Rattle.dcc_c.specs.Rules.{shallow_stmt, most_open}
use Rattle.dcc_c.specs.Partial.{NumberAt, PartialExpr, SwitchOf, BreakOf, PartialLines, no_rows, row, PartialArms, no_cases, cases}
use Rattle.dcc_c.specs.Reading.{Reader, Got, got, is_the_word, sees_word, take_mark}
use Rattle.dcc_c.specs.ReadingStatements.{begins_stmt, begins_arm, case_number, read_case, read_cases, ArmHead, switch_of, end_arm, read_stmt, read_simple, read_lines, read_arms, read_more_arms}
use Rattle.dcc_c.specs.Stripped.{plain_lines, plain_numbers, case_arms, default_arms}
use Rattle.dcc_c.proofs.reading.Statements.{IsEnoughFor, on, first_of}
use Rattle.dcc_c.proofs.reading.Stopping.{choice-some, if-true, if-false}
use Rattle.dcc_c.proofs.reading.SimpleSound.{IsShallowStmt}
use Rattle.dcc_c.proofs.reading.LineSound.{IsShallowLines}
use Rattle.dcc_c.proofs.reading.StmtSound.{IsShallowArms}
use Rattle.dcc_c.proofs.reading.Derivations.{flat_after}
use Rattle.dcc_c.proofs.reading.Leads.{Leads, test_leads, cases_leads, lines_leads}
use Rattle.dcc_c.proofs.reading.PartsComplete.{test-complete}
use Rattle.dcc_c.proofs.reading.SimpleComplete.{FindsStmt, named_stmt}
use Rattle.dcc_c.proofs.reading.LineComplete.{lines_no_word}
use Rattle.dcc_c.proofs.reading.LineFinds.{rows_before, without_joined, StmtRead, LinesRead, break-complete}
use Rattle.dcc_c.proofs.reading.BlockFinds.{deep_test}

-- Cases.

record FindsCases (ns : List ℕ) (rest : List Placed) (depth : ℕ) (g : Got (List NumberAt)) : Type 0 where
  numbers : List NumberAt
  following : ℕ
  same : plain_numbers numbers ≡ ns
  is : g ≡ got numbers (on rest following depth)

seen_case : (token : Token) (n : ℕ) → IsCaseNumber token n → case_number (Some token) ≡ Some n
seen_case token n (plain_decimal small) = if-true (nat_le n 65535 && true) (Some n) None (rw (le-leb n 65535 small))
seen_case token n (unsigned_decimal small) = if-true (nat_le n 65535 && true) (Some n) None (rw (le-leb n 65535 small))
seen_case token n (plain_hex small) = if-true (nat_le n 65535 && true) (Some n) None (rw (le-leb n 65535 small))
seen_case token n (unsigned_hex small) = if-true (nat_le n 65535 && true) (Some n) None (rw (le-leb n 65535 small))

one_case : (at place colon n : ℕ) (token : Token) (rest : List Placed) (p depth : ℕ) → IsCaseNumber token n →
    read_case (on (word at (codes "case") ∷ placed place token ∷ mark colon (codes ":") ∷ rest) p depth) ≡ got (record { value = n; at = suc p } ∷ []) (on rest (suc (suc (suc p))) depth)
one_case at place colon n token rest p depth number = choice-some (case_number (Some token)) n _ _ (seen_case token n number)

-- a case and those after it
case_then : ℕ → Got (List NumberAt) → Got (List NumberAt)
case_then calls first = got (first.value ++ (read_cases calls first.following).value) (read_cases calls first.following).following

no_more_cases : (calls : ℕ) (r : Reader) → sees_word (codes "case") r ≡ false → read_cases calls r ≡ got [] r
no_more_cases zero r ends = refl
no_more_cases (suc calls) r ends = if-false (sees_word (codes "case") r) _ _ ends

cases-complete : {all tokens : List Placed} {ns : List ℕ} → AreCases all ns tokens → is_the_word (codes "case") (first_of tokens) ≡ false → (calls at depth : ℕ) → IsEnoughFor calls 0 all →
    FindsCases ns tokens depth (read_cases calls (on all at depth))
unfolding case_then
cases-complete (last_case number) ends zero at depth enough = absurd (omega arith)
cases-complete (more_cases number others) ends zero at depth enough = absurd (omega arith)
cases-complete (last_case {at = line} {place} {colon} {n} {token} {rest} number) ends (suc calls) at depth enough =
    record {
      numbers = record { value = n; at = suc at } ∷ [];
      following = suc (suc (suc at));
      same = refl;
      is = ap (case_then calls) (one_case line place colon n token rest at depth number)
          ∙ ap (λ (g : Got (List NumberAt)). got (record { value = n; at = suc at } ∷ g.value) g.following) (no_more_cases calls (on rest (suc (suc (suc at))) depth) ends);
    }
cases-complete (more_cases {at = line} {place} {colon} {n} {token} {others} number more) ends (suc calls) at depth enough =
    let found = cases-complete more ends calls (suc (suc (suc at))) depth (omega arith) in
    record {
      numbers = record { value = n; at = suc at } ∷ found.numbers;
      following = found.following;
      same = ap (λ ns. n ∷ ns) found.same;
      is = ap (case_then calls) (one_case line place colon n token others at depth number)
          ∙ ap (λ (g : Got (List NumberAt)). got (record { value = n; at = suc at } ∷ g.value) g.following) found.is;
    }

cases_begin : {all tokens : List Placed} {ns : List ℕ} → AreCases all ns tokens → (at depth : ℕ) →
    (sees_word (codes "case") (on all at depth) ≡ true) × (sees_word (codes "default") (on all at depth) ≡ false) × (begins_stmt (first_of all) ≡ false)
cases_begin (last_case number) at depth = (refl, refl, refl)
cases_begin (more_cases number others) at depth = (refl, refl, refl)

-- Arms.

-- no arm and no statement follows
pub record EndsArms (rest : List Placed) : Type 0 where
  pub no_stmt : begins_stmt (first_of rest) ≡ false
  pub no_arm_here : (at depth : ℕ) → begins_arm (on rest at depth) ≡ false

-- The arms were read, with exactly the rest left.
pub record FindsArms (arms last : Arms) (after : ℕ) (rest : List Placed) (g : Got PartialArms) : Type 0 where
  pub partial : PartialArms
  pub following : ℕ
  pub same : case_arms partial ≡ arms
  pub same_last : default_arms partial ≡ last
  pub is : g ≡ got partial (on rest following after)

abbrev pub ArmsRead : Around → ℕ → List Placed → Arms → Arms → ℕ → List Placed → Type 0
ArmsRead around depth tokens arms last after rest =
    (calls at : ℕ) → IsEnoughFor calls 1 tokens → most_open 0 tokens ≤ 200 → IsShallowArms arms → IsShallowArms last → EndsArms rest →
    FindsArms arms last after rest (read_more_arms calls around (on tokens at depth))

-- no statement begins where arms do
arms_no_stmt : {depth after : ℕ} {around : Around} {tokens rest : List Placed} {arms last : Arms} → AreArms 200 around depth tokens arms last after rest →
    begins_stmt (first_of rest) ≡ false → begins_stmt (first_of tokens) ≡ false
arms_no_stmt no_arm ends = ends
arms_no_stmt (case_arm ns room body arms) ends = (cases_begin ns 0 0).2
arms_no_stmt (default_arm room body arms) ends = refl

pub no_arm-complete : (around : Around) (depth : ℕ) (rest : List Placed) → ArmsRead around depth rest no_arms no_arms depth rest
no_arm-complete around depth rest zero at enough few deep deep_last ends = absurd (omega arith)
no_arm-complete around depth rest (suc calls) at enough few deep deep_last ends =
    record { partial = no_cases; following = at; same = refl; same_last = refl; is = if-false (begins_arm (on rest at depth)) _ _ (ends.no_arm_here at depth) }

-- an arm after its head
abbrev arm_after : ℕ → Around → Got ArmHead → Got PartialLines → Got PartialArms
arm_after calls around head body =
    got (cases head.value.numbers head.value.default body.value (read_more_arms calls around body.following).value) (read_more_arms calls around body.following).following

abbrev arm_of : ℕ → Around → Got ArmHead → Got PartialArms
arm_of calls around head = arm_after calls around head (end_arm (read_lines calls around false false head.following))

-- the body of an arm, which a `break` ends
record FindsBody (body : Lines) (between : ℕ) (others : List Placed) (g : Got PartialLines) : Type 0 where
  partial : PartialLines
  following : ℕ
  same : plain_lines partial ≡ body
  is : g ≡ got partial (on others following between)

body-complete : (around : Around) (depth between leaves_at end : ℕ) (tokens others : List Placed) (body : Lines) → around.blocks ≤ 200 → around.breaks ≡ true → begins_stmt (first_of others) ≡ false →
    LinesRead around false depth tokens body between (word leaves_at (codes "break") ∷ mark end (codes ";") ∷ others) → (calls at : ℕ) → IsEnoughFor calls 3 tokens → most_open 0 tokens ≤ 200 → IsShallowLines body →
    FindsBody body between others (end_arm (read_lines calls around false false (on tokens at depth)))
body-complete around depth between leaves_at end tokens others body room breaks ends read calls at enough few deep =
    let found = read calls at false enough few deep refl in
    let more : found.calls ≡ suc (suc (suc (found.calls - 3))) = (let e = found.enough in omega (arith, e)) in
    let rest = on (word leaves_at (codes "break") ∷ mark end (codes ";") ∷ others) found.following between in
    let last = row BreakOf found.following leaves_at no_rows in
    record {
      partial = found.partial;
      following = suc (suc found.following);
      same = found.same;
      is = ap end_arm (found.is ∙ ap (rows_before found.partial) (ap (λ n. read_lines n around false found.leaves rest) more ∙ break-complete (found.calls - 3) around found.leaves leaves_at end found.following between others room breaks ends))
          ∙ ap (λ rows. got rows (on others (suc (suc found.following)) between)) (without_joined found.partial BreakOf found.following leaves_at);
    }

deep_arm : (body : Lines) (arms : Arms) → list_all (shallow_stmt 200) (stmts_in body ++ arm_stmts arms) ≡ true → IsShallowLines body × IsShallowArms arms
deep_arm body arms deep = and_parts _ _ (sym (list_all-append (shallow_stmt 200) (stmts_in body) (arm_stmts arms)) ∙ deep)

pub case_arm-complete : (around : Around) (depth between after leaves_at end : ℕ) (all tokens others rest : List Placed) (ns : List ℕ) (body : Lines) (arms last : Arms) → around.breaks ≡ true →
    AreCases all ns tokens → around.blocks ≤ 200 → AreLines 200 around false depth tokens body between (word leaves_at (codes "break") ∷ mark end (codes ";") ∷ others) →
    LinesRead around false depth tokens body between (word leaves_at (codes "break") ∷ mark end (codes ";") ∷ others) →
    AreArms 200 around between others arms last after rest → ArmsRead around between others arms last after rest → ArmsRead around depth all (arm ns body arms) last after rest
case_arm-complete around depth between after leaves_at end all tokens others rest ns body arms last breaks head room lines read derived more zero at enough few deep deep_last ends = absurd (omega arith)
case_arm-complete around depth between after leaves_at end all tokens others rest ns body arms last breaks head room lines read derived more (suc calls) at enough few deep deep_last ends =
    let begins = cases_begin head at depth in
    let leads = cases_leads head in
    let inner = lines_leads lines in
    let parts = deep_arm body arms deep in
    let no_case : is_the_word (codes "case") (first_of tokens) ≡ false = lines_no_word (codes "case") refl lines refl in
    let c = cases-complete head no_case calls at depth (omega arith) in
    let b = body-complete around depth between leaves_at end tokens others body room breaks (arms_no_stmt derived ends.no_stmt) read calls c.following (omega (arith, leads.less)) (leads.enclosed few) parts.0 in
    let few_after : most_open 0 others ≤ 200 = flat_after (Mark (codes ";")) 0 end others refl (flat_after (WordToken (codes "break")) 0 leaves_at (mark end (codes ";") ∷ others) refl (inner.enclosed (leads.enclosed few))) in
    let o = more calls b.following (omega (arith, leads.less, inner.less)) few_after parts.1 deep_last ends in
    let h : Got ArmHead = got (record { numbers = c.numbers; default = None }) (on tokens c.following depth) in
    record {
      partial = cases c.numbers None b.partial o.partial;
      following = o.following;
      same = ap (λ xs. arm xs (plain_lines b.partial) (case_arms o.partial)) c.same ∙ (ap (λ x. arm ns x (case_arms o.partial)) b.same ∙ ap (arm ns body) o.same);
      same_last = o.same_last;
      is = if-true (begins_arm (on all at depth)) _ _ (or_left _ _ begins.0) ∙ (ap (arm_of calls around) (if-false (sees_word (codes "default") (on all at depth)) _ _ begins.1 ∙ ap (λ (g : Got (List NumberAt)). got (record { numbers = g.value; default = None }) g.following) c.is)
          ∙ (ap (arm_after calls around h) b.is ∙ ap (λ (g : Got PartialArms). got (cases c.numbers None b.partial g.value) g.following) o.is));
    }

pub default_arm-complete : (around : Around) (depth between after line colon leaves_at end : ℕ) (tokens others rest : List Placed) (body : Lines) (arms last : Arms) → around.breaks ≡ true →
    around.blocks ≤ 200 → AreLines 200 around false depth tokens body between (word leaves_at (codes "break") ∷ mark end (codes ";") ∷ others) →
    LinesRead around false depth tokens body between (word leaves_at (codes "break") ∷ mark end (codes ";") ∷ others) →
    AreArms 200 around between others arms last after rest → ArmsRead around between others arms last after rest →
    ArmsRead around depth (word line (codes "default") ∷ mark colon (codes ":") ∷ tokens) arms (arm [] body last) after rest
default_arm-complete around depth between after line colon leaves_at end tokens others rest body arms last breaks room lines read derived more zero at enough few deep deep_last ends = absurd (omega arith)
default_arm-complete around depth between after line colon leaves_at end tokens others rest body arms last breaks room lines read derived more (suc calls) at enough few deep deep_last ends =
    let inner = lines_leads lines in
    let parts = deep_arm body last deep_last in
    let within : most_open 0 tokens ≤ 200 = flat_after (Mark (codes ":")) 0 colon tokens refl (flat_after (WordToken (codes "default")) 0 line (mark colon (codes ":") ∷ tokens) refl few) in
    let b = body-complete around depth between leaves_at end tokens others body room breaks (arms_no_stmt derived ends.no_stmt) read calls (suc (suc at)) (omega arith) within parts.0 in
    let few_after : most_open 0 others ≤ 200 = flat_after (Mark (codes ";")) 0 end others refl (flat_after (WordToken (codes "break")) 0 leaves_at (mark end (codes ";") ∷ others) refl (inner.enclosed within)) in
    let o = more calls b.following (omega (arith, inner.less)) few_after deep parts.1 ends in
    let h : Got ArmHead = got (record { numbers = []; default = Some at }) (on tokens (suc (suc at)) depth) in
    record {
      partial = cases [] (Some at) b.partial o.partial;
      following = o.following;
      same = o.same;
      same_last = ap (λ x. arm [] x (default_arms o.partial)) b.same ∙ ap (arm [] body) o.same_last;
      is = ap (arm_after calls around h) b.is ∙ ap (λ (g : Got PartialArms). got (cases [] (Some at) b.partial g.value) g.following) o.is;
    }

-- there is an arm, where the tree has one
arms_begin : {depth after : ℕ} {around : Around} {tokens rest : List Placed} {arms last : Arms} → AreArms 200 around depth tokens arms last after rest →
    (has_arm arms || has_arm last) ≡ true → (at d : ℕ) → begins_arm (on tokens at d) ≡ true
arms_begin no_arm has at d = absurd cc
arms_begin (case_arm ns room body arms) has at d = or_left _ _ (cases_begin ns at d).0
arms_begin (default_arm room body arms) has at d = refl

brace_ends_arms : (closing : ℕ) (rest : List Placed) → EndsArms (mark closing (codes "}") ∷ rest)
brace_ends_arms closing rest = record { no_stmt = refl; no_arm_here = λ at depth. refl }

pub switch-complete : (around : Around) (depth after at opening closing brace end : ℕ) (tokens inside rest : List Placed) (e : Expr) (arms last : Arms) →
    IsExpr 0 tokens e (mark closing (codes ")") ∷ mark brace (codes "{") ∷ inside) → (has_arm arms || has_arm last) ≡ true →
    AreArms 200 (in_switch around) depth inside arms last after (mark end (codes "}") ∷ rest) → ArmsRead (in_switch around) depth inside arms last after (mark end (codes "}") ∷ rest) →
    StmtRead around depth (word at (codes "switch") ∷ mark opening (codes "(") ∷ tokens) (Switch e arms last) after rest
switch-complete around depth after at opening closing brace end tokens inside rest e arms last test has derived read zero place enough few deep ends = absurd (omega arith)
switch-complete around depth after at opening closing brace end tokens inside rest e arms last test has derived read (suc zero) place enough few deep ends = absurd (omega arith)
switch-complete around depth after at opening closing brace end tokens inside rest e arms last test has derived read (suc (suc calls)) place enough few deep ends =
    let parts = deep_test e (arm_stmts arms ++ arm_stmts last) deep in
    let inner : IsShallowArms arms × IsShallowArms last = and_parts _ _ (sym (list_all-append (shallow_stmt 200) (arm_stmts arms) (arm_stmts last)) ∙ parts.1) in
    let leads : Leads 1 0 0 (mark opening (codes "(") ∷ tokens) (mark brace (codes "{") ∷ inside) = test_leads test in
    let within : most_open 0 (mark opening (codes "(") ∷ tokens) ≤ 200 = flat_after (WordToken (codes "switch")) 0 at (mark opening (codes "(") ∷ tokens) refl few in
    let p = test-complete {opening = opening} test (suc calls) (suc place) depth (omega arith) within parts.0 in
    let few_inside : most_open 0 inside ≤ 200 = flat_after (Mark (codes "{")) 0 brace inside refl (leads.enclosed within) in
    let q = read calls (suc p.following) (omega (arith, leads.less)) few_inside inner.0 inner.1 (brace_ends_arms end rest) in
    record {
      partial = SwitchOf p.partial true q.partial;
      following = suc q.following;
      same = ap (λ x. Switch x (case_arms q.partial) (default_arms q.partial)) p.same ∙ (ap (λ x. Switch e x (default_arms q.partial)) q.same ∙ ap (Switch e arms) q.same_last);
      is = ap (λ (t : Got PartialExpr). switch_of t (read_arms (suc calls) (in_switch around) (take_mark (codes "{") t.following))) p.is
          ∙ ap (switch_of (got p.partial (on (mark brace (codes "{") ∷ inside) p.following depth))) (if-true (begins_arm (on inside (suc p.following) depth)) _ _ (arms_begin derived has (suc p.following) depth) ∙ q.is);
    }

-- Assignments and calls.

pub place_stmt : {tokens rest : List Placed} {e : Expr} → IsPlace tokens e rest → (calls : ℕ) (around : Around) (at depth : ℕ) →
    read_stmt (suc calls) around (on tokens at depth) ≡ read_simple calls (on tokens at depth)
place_stmt (name_place {at = line} {rest} bytes good) calls around at depth = named_stmt calls around at line depth bytes rest good
place_stmt (deref_place a) calls around at depth = refl

pub call_stmt : {tokens rest : List Placed} {function : Word} {es : List Expr} → IsCall tokens function es rest → (calls : ℕ) (around : Around) (at depth : ℕ) →
    read_stmt (suc calls) around (on tokens at depth) ≡ read_simple calls (on tokens at depth)
call_stmt (call {at = line} {opening} {tokens} function good arguments) calls around at depth = named_stmt calls around at line depth function (mark opening (codes "(") ∷ tokens) good

pub simple-complete : (around : Around) (depth : ℕ) (tokens rest : List Placed) (s : Stmt) →
    ((calls at : ℕ) → read_stmt (suc calls) around (on tokens at depth) ≡ read_simple calls (on tokens at depth)) →
    ((calls at : ℕ) → IsEnoughFor calls 0 tokens → most_open 0 tokens ≤ 200 → IsShallowStmt s → FindsStmt s depth rest (read_simple calls (on tokens at depth))) →
    StmtRead around depth tokens s depth rest
simple-complete around depth tokens rest s goes read zero at enough few deep ends = absurd (omega arith)
simple-complete around depth tokens rest s goes read (suc calls) at enough few deep ends =
    let found = read calls at (omega arith) few deep in
    record { partial = found.partial; following = found.following; same = found.same; is = goes calls at ∙ found.is }
