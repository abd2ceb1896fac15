-- Steps of stripping: what is stripped already, before the rest.
use denote.Param.Weighed.{most, most-append}
use Rattle.std.proofs.Common.{◌≡◌, ◌≤◌, ℕ, max, arith, Bool, Vec, Global, suc, ◌+◌, true, false, List, [], ◌∷◌, ◌++◌, map, length, reverse, Option, Some, None, refl, sym, ap, ◌∙◌}
use Rattle.std.specs.Prelude.{nat_lt, is_some}
use Rattle.std.proofs.lemmas.List.{reverse-append}
use Rattle.dcc_c.specs.declared.syntax.CExpr.{CExpr}
use Rattle.dcc_c.specs.declared.syntax.CStmt.{If as IfOf, While as WhileOf, DoWhile as DoWhileOf, Forever as ForeverOf, Switch as SwitchOf}
use Rattle.dcc_c.specs.declared.syntax.Line.{Line}
use Rattle.dcc_c.specs.declared.syntax.Arm.{Arm, roll-Arm, out-roll-Arm}
use Rattle.dcc_c.specs.Tree as plain
use Rattle.dcc_c.specs.Tree.{Lines, no_lines, line, Arms, no_arms, arm}
use Rattle.dcc_c.specs.Views.{expr_of, stmt_of, lines_of, arms_of, arm_before, arms_if}
use Rattle.dcc_c.specs.Kinds.{of_depth, offence, only_if}
use Rattle.dcc_c.specs.Partial.{NumberAt, PartialLines, PartialArms, no_rows, cases, row}
use Rattle.dcc_c.specs.Offences.{BodyContext, default_offences, lines_offences, own_offences, inner_offences, arms_inner, case_offences, case_numbers}
use Rattle.dcc_c.specs.Stripped.{plain_numbers, plain_expr, plain_stmt, plain_lines, case_arms, default_arms}
use Rattle.dcc_c.proofs.refusals.ExprRules.{none-both}
use Rattle.dcc_reader.specs.declared.partial.PartialExpr.{PartialExpr}
use Rattle.dcc_reader.specs.declared.partial.PartialStmt.{PartialStmt, If, While, DoWhile, Forever, Switch}
use Rattle.dcc_reader.specs.declared.partial.Row.{Row}
use Rattle.dcc_reader.specs.declared.partial.PartialArm.{PartialArm, out-PartialArm}
use Rattle.dcc_reader.specs.PartialViews as partial
use Rattle.dcc_reader.proofs.RowLaws.{arm-parts, if-tree as if-rows, while-tree as while-rows, do_while-tree as do-rows, forever-tree as forever-rows, switch-tree as switch-rows}
use Rattle.dcc_parse.proofs.Moved.{none-left, one-less}
use Rattle.dcc_c.proofs.RowLaws.{arm-parts as arm-tree, if-tree, while-tree, do_while-tree, forever-tree, switch-tree}

-- lines before others
abbrev pub lines_then : List Line → Lines → Lines
lines_then [] rest = rest
lines_then (l ∷ ls) rest = line (stmt_of l.stmt) l.line (lines_then ls rest)

lines-alone : (ls : List Line) → lines_then ls no_lines ≡ lines_of ls
lines-alone [] = refl
lines-alone (l ∷ ls) = ap (line (stmt_of l.stmt) l.line) (lines-alone ls)

lines-more : (ls : List Line) (l : Line) (rest : Lines) → lines_then (ls ++ l ∷ []) rest ≡ lines_then ls (line (stmt_of l.stmt) l.line rest)
lines-more [] l rest = refl
lines-more (k ∷ ls) l rest = ap (line (stmt_of k.stmt) k.line) (lines-more ls l rest)

-- the lines of statements, before others
abbrev pub rows_then : List Row → Lines → Lines
rows_then [] rest = rest
rows_then (r ∷ rows) rest = line (plain_stmt (partial.stmt_of r.stmt)) r.line (rows_then rows rest)

rows-alone : (rows : List Row) → rows_then rows no_lines ≡ plain_lines (partial.lines_of rows)
rows-alone [] = refl
rows-alone (r ∷ rows) = ap (line (plain_stmt (partial.stmt_of r.stmt)) r.line) (rows-alone rows)

rows-more : (rows : List Row) (r : Row) (rest : Lines) →
    rows_then (rows ++ r ∷ []) rest ≡ rows_then rows (line (plain_stmt (partial.stmt_of r.stmt)) r.line rest)
rows-more [] r rest = refl
rows-more (q ∷ rows) r rest = ap (line (plain_stmt (partial.stmt_of q.stmt)) q.line) (rows-more rows r rest)

-- without its last item a list is no deeper
pub no_deeper : {X : Type 0} (depth : X → ℕ) (items more whole : List X) (x : X) (limit : ℕ) → whole ≡ more ++ x ∷ [] → items ≡ more →
    most depth whole ≤ limit → most depth items ≤ limit
no_deeper depth items more whole x limit is same under =
    let all : most depth whole ≡ max (most depth more) (most depth (x ∷ [])) = ap (most depth) is ∙ most-append depth more (x ∷ []) in
    let kept : most depth items ≡ most depth more = ap (most depth) same in
    omega (arith, all, kept, under)

-- arms before others
abbrev pub arms_then : List Arm → Arms → Arms
arms_then [] rest = rest
arms_then (a ∷ as_) rest = arm_before a (arms_then as_ rest)

pub arms-alone : (arms : List Arm) → arms_then arms no_arms ≡ arms_of arms
arms-alone [] = refl
arms-alone (a ∷ arms) = ap (arm_before a) (arms-alone arms)

pub arms-more : (arms : List Arm) (a : Arm) (rest : Arms) → arms_then (arms ++ a ∷ []) rest ≡ arms_then arms (arm_before a rest)
arms-more [] a rest = refl
arms-more (b ∷ arms) a rest = ap (arm_before b) (arms-more arms a rest)

-- at most one arm before others
abbrev pub default_then : Option Arm → Arms → Arms
default_then None rest = rest
default_then (Some a) rest = arm_before a rest

pub default-alone : (last : Option Arm) → default_then last no_arms ≡ arms_if last
default-alone None = refl
default-alone (Some a) = refl

-- What has been made of the first statements, before the rest, of which there are so many. Nothing offends in the rest.
pub record LinesLeft (scene : BodyContext) (blocks : ℕ) (lines : List Line) (rest : List Row) (count : ℕ) (rows : List Row) : Type 0 where
  pub none : lines_offences scene blocks (partial.lines_of rest) ≡ []
  pub same : lines_then lines (plain_lines (partial.lines_of rest)) ≡ plain_lines (partial.lines_of rows)
  pub left : count ≡ length rest

-- What has been made of the last statements, the last of them first; these stand before them. Nothing offends in these.
pub record LinesMade (scene : BodyContext) (blocks : ℕ) (lines : List Line) (rest rows : List Row) : Type 0 where
  pub none : lines_offences scene blocks (partial.lines_of rest) ≡ []
  pub same : rows_then rest (lines_of (reverse lines)) ≡ plain_lines (partial.lines_of rows)

-- What has been made of arms, before the rest, of which there are so many. Nothing offends in the rest.
pub record ArmsLeft (scene : BodyContext) (blocks : ℕ) (found : List Arm) (last : Option Arm) (rest : List PartialArm) (count : ℕ) (arms : List PartialArm) : Type 0 where
  pub none : arms_inner scene blocks (partial.arms_of rest) ≡ []
  pub single : default_offences (is_some last) (partial.arms_of rest) ≡ []
  pub with_cases : arms_then found (case_arms (partial.arms_of rest)) ≡ case_arms (partial.arms_of arms)
  pub default : default_then last (default_arms (partial.arms_of rest)) ≡ default_arms (partial.arms_of arms)
  pub left : count ≡ length rest

module _ (scene : BodyContext) (blocks : ℕ) where
  -- nothing offends in a statement, in those inside it and in those after it
  record IsClean (r : Row) (others : PartialLines) : Type 0 where
    deep : only_if (nat_lt 200 blocks) (offence of_depth r.at) ≡ []
    own : own_offences scene r.at (partial.stmt_of r.stmt) ≡ []
    inner : inner_offences scene (suc blocks) (partial.stmt_of r.stmt) ≡ []
    after : lines_offences scene blocks others ≡ []

  row-clean : (r : Row) (others : PartialLines) → lines_offences scene blocks (row (partial.stmt_of r.stmt) r.at r.line others) ≡ [] → IsClean r others
  row-clean r others none =
      let one = none-both (only_if (nat_lt 200 blocks) (offence of_depth r.at)) _ none in
      let two = none-both (own_offences scene r.at (partial.stmt_of r.stmt)) _ one.1 in
      let three = none-both (inner_offences scene (suc blocks) (partial.stmt_of r.stmt)) (lines_offences scene blocks others) two.1 in
      record { deep = one.0; own = two.0; inner = three.0; after = three.1 }

  clean-row : (r : Row) (others : PartialLines) → IsClean r others → lines_offences scene blocks (row (partial.stmt_of r.stmt) r.at r.line others) ≡ []
  clean-row r others is =
      let inner = inner_offences scene (suc blocks) (partial.stmt_of r.stmt) in
      let after = lines_offences scene blocks others in
      ap (λ os. os ++ (own_offences scene r.at (partial.stmt_of r.stmt) ++ (inner ++ after))) is.deep
      ∙ ap (λ os. os ++ (inner ++ after)) is.own ∙ ap (λ os. os ++ after) is.inner ∙ is.after

  last-clean : (rows : List Row) (r : Row) → lines_offences scene blocks (partial.lines_of (rows ++ r ∷ [])) ≡ [] →
      (lines_offences scene blocks (partial.lines_of rows) ≡ []) × (inner_offences scene (suc blocks) (partial.stmt_of r.stmt) ≡ [])
  last-clean [] r none = (refl, (row-clean r no_rows none).inner)
  last-clean (q ∷ rows) r none =
      let first = row-clean q (partial.lines_of (rows ++ r ∷ [])) none in
      let both = last-clean rows r first.after in
      (clean-row q (partial.lines_of rows) (record { deep = first.deep; own = first.own; inner = first.inner; after = both.0 }), both.1)

  -- one line more, after the others
  pub left-step : (lines : List Line) (r : Row) (l : Line) {items : List Line} {rest more rows : List Row} {count fewer : ℕ} →
      rest ≡ r ∷ more → fewer + 1 ≡ count → items ≡ lines ++ l ∷ [] →
      (inner_offences scene (suc blocks) (partial.stmt_of r.stmt) ≡ [] → stmt_of l.stmt ≡ plain_stmt (partial.stmt_of r.stmt)) → l.line ≡ r.line →
      LinesLeft scene blocks lines rest count rows → LinesLeft scene blocks items more fewer rows
  left-step lines r l {items} {rest} {more} is less pushed stripped at before =
      let others = partial.lines_of more in
      let clean = row-clean r others (ap (λ rs. lines_offences scene blocks (partial.lines_of rs)) (sym is) ∙ before.none) in
      record {
        none = clean.after;
        same = ap (λ ls. lines_then ls (plain_lines others)) pushed
            ∙ lines-more lines l (plain_lines others)
            ∙ ap (λ s. lines_then lines (line s l.line (plain_lines others))) (stripped clean.inner)
            ∙ ap (λ n. lines_then lines (line (plain_stmt (partial.stmt_of r.stmt)) n (plain_lines others))) at
            ∙ ap (λ rs. lines_then lines (plain_lines (partial.lines_of rs))) (sym is)
            ∙ before.same;
        left = one-less is less before.left;
      }

  pub left-end : (lines : List Line) {rest rows : List Row} {count : ℕ} → count ≡ 0 → LinesLeft scene blocks lines rest count rows →
      lines_of lines ≡ plain_lines (partial.lines_of rows)
  left-end lines {rest} {rows} {count} none all =
      sym (lines-alone lines) ∙ ap (λ l. lines_then lines (plain_lines (partial.lines_of l))) (sym (none-left rest count all.left none)) ∙ all.same

  pub made-begin : (rows : List Row) {lines : List Line} → lines ≡ [] → lines_offences scene blocks (partial.lines_of rows) ≡ [] →
      LinesMade scene blocks lines rows rows
  made-begin rows is none =
      record { none = none; same = ap (λ ls. rows_then rows (lines_of (reverse ls))) is ∙ rows-alone rows }

  -- one line more, before the others
  pub made-step : (lines : List Line) (r : Row) (l : Line) {items : List Line} {rest more rows : List Row} →
      rest ≡ more ++ r ∷ [] → items ≡ lines ++ l ∷ [] →
      (inner_offences scene (suc blocks) (partial.stmt_of r.stmt) ≡ [] → stmt_of l.stmt ≡ plain_stmt (partial.stmt_of r.stmt)) → l.line ≡ r.line →
      LinesMade scene blocks lines rest rows → LinesMade scene blocks items more rows
  made-step lines r l {items} {rest} {more} is pushed stripped at before =
      let made = lines_of (reverse lines) in
      let clean = last-clean more r (ap (λ rs. lines_offences scene blocks (partial.lines_of rs)) (sym is) ∙ before.none) in
      record {
        none = clean.0;
        same = ap (λ ls. rows_then more (lines_of (reverse ls))) pushed
            ∙ ap (λ ls. rows_then more (lines_of ls)) (reverse-append lines (l ∷ []))
            ∙ ap (λ s. rows_then more (line s l.line made)) (stripped clean.1)
            ∙ ap (λ n. rows_then more (line (plain_stmt (partial.stmt_of r.stmt)) n made)) at
            ∙ sym (rows-more more r made) ∙ ap (λ rs. rows_then rs made) (sym is) ∙ before.same;
      }

  pub made-end : (lines : List Line) {rest rows : List Row} → rest ≡ [] → LinesMade scene blocks lines rest rows →
      lines_of (reverse lines) ≡ plain_lines (partial.lines_of rows)
  made-end lines none all = ap (λ rs. rows_then rs (lines_of (reverse lines))) (sym none) ∙ all.same

-- Arms with and without `default`.
module _ (numbers : List NumberAt) (body : PartialLines) (arms : PartialArms) where
  pub cases-kept : (default : Option ℕ) → is_some default ≡ false → case_arms (cases numbers default body arms) ≡ arm (plain_numbers numbers) (plain_lines body) (case_arms arms)
  cases-kept None e = refl
  cases-kept (Some at) e = absurd cc

  pub cases-dropped : (default : Option ℕ) → is_some default ≡ true → case_arms (cases numbers default body arms) ≡ case_arms arms
  cases-dropped None e = absurd cc
  cases-dropped (Some at) e = refl

  pub default-kept : (default : Option ℕ) → is_some default ≡ true → default_arms (cases numbers default body arms) ≡ arm [] (plain_lines body) (default_arms arms)
  default-kept None e = absurd cc
  default-kept (Some at) e = refl

  pub default-dropped : (default : Option ℕ) → is_some default ≡ false → default_arms (cases numbers default body arms) ≡ default_arms arms
  default-dropped None e = refl
  default-dropped (Some at) e = absurd cc

  pub default-later : (known : Bool) (default : Option ℕ) → is_some default ≡ false → default_offences known (cases numbers default body arms) ≡ default_offences known arms
  default-later known None e = refl
  default-later known (Some at) e = absurd cc

  -- only the first `default` does not offend
  pub default-once : (last : Option Arm) (default : Option ℕ) → is_some default ≡ true → default_offences (is_some last) (cases numbers default body arms) ≡ [] →
      (last ≡ None) × (default_offences true arms ≡ [])
  default-once last None e none = absurd cc
  default-once None (Some at) e none = (refl, none)
  default-once (Some a) (Some at) e none = absurd cc

-- an arm that is made
made-arm : (numbers : Vec ℕ Global) (body : Vec Line Global) (arms : Arms) →
    arm_before (roll-Arm (record { cases = numbers; body = body })) arms ≡ arm numbers.items (lines_of body.items) arms
made-arm numbers body arms =
    arm-tree (roll-Arm (record { cases = numbers; body = body })) arms
    ∙ ap (λ parts. arm parts.cases.items (lines_of parts.body.items) arms) (out-roll-Arm (record { cases = numbers; body = body }))

abbrev own_numbers : PartialArm → List NumberAt
own_numbers a = map partial.case_of (out-PartialArm a).numbers.items

abbrev own_body : PartialArm → PartialLines
own_body a = partial.lines_of (out-PartialArm a).body.items

module _ (scene : BodyContext) (blocks : ℕ) where
  own-clean : (a : PartialArm) (rest more : List PartialArm) → rest ≡ a ∷ more → arms_inner scene blocks (partial.arms_of rest) ≡ [] →
      (partial.arms_of rest ≡ cases (own_numbers a) (out-PartialArm a).default (own_body a) (partial.arms_of more))
      × (lines_offences scene blocks (own_body a) ≡ []) × (arms_inner scene blocks (partial.arms_of more) ≡ [])
  own-clean a rest more is none =
      let tree = ap partial.arms_of is ∙ arm-parts a (partial.arms_of more) in
      let both = none-both (lines_offences scene blocks (own_body a)) (arms_inner scene blocks (partial.arms_of more)) (sym (ap (arms_inner scene blocks) tree) ∙ none) in
      (tree, both.0, both.1)

  -- one arm more
  module _ (a : PartialArm) (found : List Arm) (last : Option Arm) (numbers : Vec ℕ Global) (body : Vec Line Global) where
    pub arms-step : {items : List Arm} {rest more arms : List PartialArm} {count fewer : ℕ} → rest ≡ a ∷ more → fewer + 1 ≡ count →
        ArmsLeft scene blocks found last rest count arms → items ≡ found ++ roll-Arm (record { cases = numbers; body = body }) ∷ [] → is_some (out-PartialArm a).default ≡ false →
        (lines_offences scene blocks (partial.lines_of (out-PartialArm a).body.items) ≡ [] → lines_of body.items ≡ plain_lines (partial.lines_of (out-PartialArm a).body.items)) →
        numbers.items ≡ plain_numbers (map partial.case_of (out-PartialArm a).numbers.items) →
        ArmsLeft scene blocks items last more fewer arms
    arms-step {items} {rest} {more} is less before pushed none stripped same =
        let others = partial.arms_of more in
        let own = own-clean a rest more is before.none in
        let tree = own.0 in
        record {
          none = own.2;
          single = sym (ap (default_offences (is_some last)) tree ∙ default-later (own_numbers a) (own_body a) others (is_some last) (out-PartialArm a).default none) ∙ before.single;
          with_cases = ap (λ l. arms_then l (case_arms others)) pushed
              ∙ arms-more found (roll-Arm (record { cases = numbers; body = body })) (case_arms others)
              ∙ ap (arms_then found) (made-arm numbers body (case_arms others))
              ∙ ap (λ ls. arms_then found (arm numbers.items ls (case_arms others))) (stripped own.1)
              ∙ ap (λ ns. arms_then found (arm ns (plain_lines (own_body a)) (case_arms others))) same
              ∙ ap (arms_then found) (sym (cases-kept (own_numbers a) (own_body a) others (out-PartialArm a).default none))
              ∙ ap (λ l. arms_then found (case_arms l)) (sym tree)
              ∙ before.with_cases;
          default = ap (default_then last) (sym (ap default_arms tree ∙ default-dropped (own_numbers a) (own_body a) others (out-PartialArm a).default none)) ∙ before.default;
          left = one-less is less before.left;
        }

    pub default-step : {rest more arms : List PartialArm} {count fewer : ℕ} → rest ≡ a ∷ more → fewer + 1 ≡ count →
        ArmsLeft scene blocks found last rest count arms → is_some (out-PartialArm a).default ≡ true →
        (lines_offences scene blocks (partial.lines_of (out-PartialArm a).body.items) ≡ [] → lines_of body.items ≡ plain_lines (partial.lines_of (out-PartialArm a).body.items)) →
        numbers.items ≡ [] →
        ArmsLeft scene blocks found (Some (roll-Arm (record { cases = numbers; body = body }))) more fewer arms
    default-step {rest} {more} is less before some stripped none =
        let others = partial.arms_of more in
        let own = own-clean a rest more is before.none in
        let tree = own.0 in
        let once = default-once (own_numbers a) (own_body a) others last (out-PartialArm a).default some (sym (ap (default_offences (is_some last)) tree) ∙ before.single) in
        record {
          none = own.2;
          single = once.1;
          with_cases = ap (arms_then found) (sym (ap case_arms tree ∙ cases-dropped (own_numbers a) (own_body a) others (out-PartialArm a).default some)) ∙ before.with_cases;
          default = made-arm numbers body (default_arms others)
              ∙ ap (λ ls. arm numbers.items ls (default_arms others)) (stripped own.1)
              ∙ ap (λ ns. arm ns (plain_lines (own_body a)) (default_arms others)) none
              ∙ sym (default-kept (own_numbers a) (own_body a) others (out-PartialArm a).default some)
              ∙ sym (ap default_arms tree)
              ∙ ap (λ l. default_then l (default_arms (partial.arms_of rest))) (sym once.0)
              ∙ before.default;
          left = one-less is less before.left;
        }

  pub arms-end : (found : List Arm) (last : Option Arm) {rest arms : List PartialArm} {count : ℕ} → count ≡ 0 → ArmsLeft scene blocks found last rest count arms →
      (arms_of found ≡ case_arms (partial.arms_of arms)) × (arms_if last ≡ default_arms (partial.arms_of arms))
  arms-end found last {rest} {arms} {count} none all =
      let empty = sym (none-left rest count all.left none) in (
        sym (arms-alone found) ∙ ap (λ l. arms_then found (case_arms (partial.arms_of l))) empty ∙ all.with_cases,
        sym (default-alone last) ∙ ap (λ l. default_then last (default_arms (partial.arms_of l))) empty ∙ all.default,
      )

-- Statements with blocks.
module _ (scene : BodyContext) (blocks : ℕ) where
  pub if-strip : (stmt : PartialStmt) (e : PartialExpr) (done : Bool) (body otherwise : Vec Row Global) (f : CExpr) (first second : Vec Line Global) →
      stmt ≡ If e done body otherwise → inner_offences scene blocks (partial.stmt_of stmt) ≡ [] → expr_of f ≡ plain_expr (partial.expr_of e) →
      (lines_offences scene blocks (partial.lines_of body.items) ≡ [] → lines_of first.items ≡ plain_lines (partial.lines_of body.items)) →
      (lines_offences scene blocks (partial.lines_of otherwise.items) ≡ [] → lines_of second.items ≡ plain_lines (partial.lines_of otherwise.items)) →
      stmt_of (IfOf f first second) ≡ plain_stmt (partial.stmt_of stmt)
  if-strip stmt e done body otherwise f first second is none same stripped other =
      let tree = ap partial.stmt_of is ∙ if-rows e done body otherwise in
      let both = none-both (lines_offences scene blocks (partial.lines_of body.items)) (lines_offences scene blocks (partial.lines_of otherwise.items))
      (sym (ap (inner_offences scene blocks) tree) ∙ none) in
      if-tree f first second
      ∙ ap (λ x. plain.If x (lines_of first.items) (lines_of second.items)) same
      ∙ ap (λ ls. plain.If (plain_expr (partial.expr_of e)) ls (lines_of second.items)) (stripped both.0)
      ∙ ap (λ ls. plain.If (plain_expr (partial.expr_of e)) (plain_lines (partial.lines_of body.items)) ls) (other both.1)
      ∙ ap plain_stmt (sym tree)

  pub while-strip : (stmt : PartialStmt) (e : PartialExpr) (done : Bool) (body : Vec Row Global) (f : CExpr) (first : Vec Line Global) →
      stmt ≡ While e done body → inner_offences scene blocks (partial.stmt_of stmt) ≡ [] → expr_of f ≡ plain_expr (partial.expr_of e) →
      (lines_offences scene blocks (partial.lines_of body.items) ≡ [] → lines_of first.items ≡ plain_lines (partial.lines_of body.items)) →
      stmt_of (WhileOf f first) ≡ plain_stmt (partial.stmt_of stmt)
  while-strip stmt e done body f first is none same stripped =
      let tree = ap partial.stmt_of is ∙ while-rows e done body in
      while-tree f first
      ∙ ap (λ x. plain.While x (lines_of first.items)) same
      ∙ ap (λ ls. plain.While (plain_expr (partial.expr_of e)) ls) (stripped (sym (ap (inner_offences scene blocks) tree) ∙ none))
      ∙ ap plain_stmt (sym tree)

  pub do-strip : (stmt : PartialStmt) (e : PartialExpr) (done : Bool) (body : Vec Row Global) (f : CExpr) (first : Vec Line Global) →
      stmt ≡ DoWhile body e done → inner_offences scene blocks (partial.stmt_of stmt) ≡ [] → expr_of f ≡ plain_expr (partial.expr_of e) →
      (lines_offences scene blocks (partial.lines_of body.items) ≡ [] → lines_of first.items ≡ plain_lines (partial.lines_of body.items)) →
      stmt_of (DoWhileOf first f) ≡ plain_stmt (partial.stmt_of stmt)
  do-strip stmt e done body f first is none same stripped =
      let tree = ap partial.stmt_of is ∙ do-rows e done body in
      do_while-tree f first
      ∙ ap (λ x. plain.DoWhile (lines_of first.items) x) same
      ∙ ap (λ ls. plain.DoWhile ls (plain_expr (partial.expr_of e))) (stripped (sym (ap (inner_offences scene blocks) tree) ∙ none))
      ∙ ap plain_stmt (sym tree)

  pub forever-strip : (stmt : PartialStmt) (body : Vec Row Global) (first : Vec Line Global) →
      stmt ≡ Forever body → inner_offences scene blocks (partial.stmt_of stmt) ≡ [] →
      (lines_offences scene blocks (partial.lines_of body.items) ≡ [] → lines_of first.items ≡ plain_lines (partial.lines_of body.items)) →
      stmt_of (ForeverOf first) ≡ plain_stmt (partial.stmt_of stmt)
  forever-strip stmt body first is none stripped =
      let tree = ap partial.stmt_of is ∙ forever-rows body in
      forever-tree first
      ∙ ap (λ ls. plain.Forever ls) (stripped (sym (ap (inner_offences scene blocks) tree) ∙ none))
      ∙ ap plain_stmt (sym tree)

  pub switch-strip : (stmt : PartialStmt) (e : PartialExpr) (done : Bool) (arms : Vec PartialArm Global) (f : CExpr) (found : Vec Arm Global) (last : Option Arm) →
      stmt ≡ Switch e done arms → inner_offences scene blocks (partial.stmt_of stmt) ≡ [] → expr_of f ≡ plain_expr (partial.expr_of e) →
      (arms_inner scene blocks (partial.arms_of arms.items) ≡ [] → default_offences false (partial.arms_of arms.items) ≡ [] →
      (arms_of found.items ≡ case_arms (partial.arms_of arms.items)) × (arms_if last ≡ default_arms (partial.arms_of arms.items))) →
      stmt_of (SwitchOf f found last) ≡ plain_stmt (partial.stmt_of stmt)
  switch-strip stmt e done arms f found last is none same stripped =
      let tree = ap partial.stmt_of is ∙ switch-rows e done arms in
      let trees = partial.arms_of arms.items in
      let one = none-both (case_offences [] (case_numbers trees)) _ (sym (ap (inner_offences scene blocks) tree) ∙ none) in
      let two = none-both (default_offences false trees) (arms_inner scene blocks trees) one.1 in
      let both = stripped two.1 two.0 in
      switch-tree f found last
      ∙ ap (λ x. plain.Switch x (arms_of found.items) (arms_if last)) same
      ∙ ap (λ l. plain.Switch (plain_expr (partial.expr_of e)) l (arms_if last)) both.0
      ∙ ap (λ l. plain.Switch (plain_expr (partial.expr_of e)) (case_arms trees) l) both.1
      ∙ ap plain_stmt (sym tree)
