-- What matters in the text of a graph: what is live there, and has a name.
use Rattle.std.proofs.Common.{◌≡◌, ℕ, ◌<◌, Bool, true, false, inl, inr, List, [], ◌∷◌, length, flat_map, refl, sym, ap, ◌∙◌, true≢false, Contains}
use Rattle.std.specs.Prelude.{◌⊎◌, not, All}
use Rattle.std.proofs.lemmas.Bool.{cases_lt, or_left, or_cases, and_parts}
use Rattle.std.proofs.lemmas.List.{get_or_past}
use Rattle.std.proofs.lemmas.List.Elements.{All-nil, All-append, All-contains, All-head, All-tail, Contains-get_or}
use Rattle.std.proofs.lemmas.Option.{slice_get-get_or}
use Rattle.dcc_ir.specs.declared.syntax.Loc.{Loc}
use Rattle.dcc_ir.specs.Families.{Family, live}
use Rattle.dcc_ir.specs.Live.{is_among, reads, reads_first, block_in}
use Rattle.dcc_ir.specs.Run.{is_call, no_block}
use Rattle.dcc_ir.specs.Tree as inner
use Rattle.dcc_ir.specs.Use.{reads_of, exprs_of, writes_of, exit_exprs}
use Rattle.dcc_ir.specs.WellFormed.{IsGraph}
use Rattle.dcc_ir.proofs.FamilyLaws.{live-closed}
use Rattle.dcc_ir.proofs.LocationLaws.{among_contains, contains_among, location_decided}
use Rattle.dcc_ir.proofs.ListLaws.{all_had}
use Rattle.dcc_live.specs.Start.{begins_live}
use Rattle.dcc_live.proofs.StartLaws.{begins-live, begins-where-live}
use Rattle.dcc_sums.proofs.ArgumentLaws.{contains_flat}
use Rattle.dcc_text.specs.Holding.{Locations, IsWithin}
use Rattle.dcc_text.specs.Laws.{IsStep}
use Rattle.dcc_variables.specs.FunctionLaws.{has_name, IsServedStmt, IsServedByFunction}
use Rattle.dcc_variables.specs.Functions.{function_spelling}
use Rattle.dcc_variables.proofs.Served.{functions-served}
use Rattle.dcc_plan.specs.Laws.{IsCallStep, AreSteps, Matters}

abbrev pub mattering : inner.Graph → Family
mattering graph block stmts location = has_name graph location × live graph block stmts location

module _ (g : inner.Graph) (formed : IsGraph g) where
  -- Expressions whose reads have names read only what matters, where all that they read does.

  within-held : (Has : Locations) (es : List inner.Expr) → All (IsWithin (function_spelling g) (has_name g)) es
      → ((location : Loc) → Contains (flat_map reads_of es) location → has_name g location → Has location)
      → All (IsWithin (function_spelling g) Has) es
  within-held Has es within to = all_had (IsWithin (function_spelling g) Has) es (λ e c.
      let here = All-contains (IsWithin (function_spelling g) (has_name g)) es e within c in
      record {
        reads = all_had Has (reads_of e) (λ l d. to l (contains_flat reads_of es e l c d) (All-contains (has_name g) (reads_of e) l here.reads d));
        addresses = here.addresses;
      })

  -- Statements.

  read-live : (block : inner.Block) (stmt : inner.Stmt) (rest : List inner.Stmt) (l : Loc)
      → Contains (flat_map reads_of (exprs_of stmt)) l → has_name g l → mattering g block (stmt ∷ rest) l
  read-live block stmt rest l c is =
      (is, inl (or_left (reads (exprs_of stmt) l) _ (contains_among (flat_map reads_of (exprs_of stmt)) l c)))

  left-live : (block : inner.Block) (stmt : inner.Stmt) (rest : List inner.Stmt) (l : Loc) → mattering g block rest l
      → Contains (writes_of stmt) l ⊎ mattering g block (stmt ∷ rest) l
  left-live block stmt rest l is =
      location_decided (writes_of stmt) l (Contains (writes_of stmt) l ⊎ mattering g block (stmt ∷ rest) l)
      (λ written. inl written) (λ none. inr (is.0, (live-closed g).left block stmt rest l none is.1))

  steps-served : (block : inner.Block) (stmts : List inner.Stmt) → All (IsServedStmt g) stmts
      → AreSteps (function_spelling g) (mattering g block) stmts
  steps-served block [] served = tt
  steps-served block (stmt ∷ stmts) served =
      let here = All-head (IsServedStmt g) stmt stmts served in
      let within = within-held (mattering g block (stmt ∷ stmts)) (exprs_of stmt) here.within (read-live block stmt stmts) in
      (by (is_call stmt) refl here within, steps-served block stmts (All-tail (IsServedStmt g) stmt stmts served))
    where
      by : (b : Bool) → is_call stmt ≡ b → IsServedStmt g stmt
          → All (IsWithin (function_spelling g) (mattering g block (stmt ∷ stmts))) (exprs_of stmt)
          → IsStep (function_spelling g) (mattering g block (stmt ∷ stmts)) (mattering g block stmts) stmt
          ⊎ IsCallStep (function_spelling g) (mattering g block (stmt ∷ stmts)) (mattering g block stmts) stmt
      by true call here within = inr (record {
        formed = here.formed;
        call = call;
        within = within;
        written = here.written;
        named = λ location is. is.0;
        left = left-live block stmt stmts;
      })
      by false call here within = inl (record {
        formed = here.formed;
        no_call = call;
        within = within;
        written = here.written;
        named = λ location is. is.0;
        left = left-live block stmt stmts;
      })

  served-in : (b : ℕ) → b < length g.blocks → IsServedByFunction g (block_in g b)
  served-in b less =
      All-contains (IsServedByFunction g) g.blocks (block_in g b) (functions-served g formed)
      (Contains-get_or g.blocks b no_block less)

  pub mattering-matters : Matters (function_spelling g) g (mattering g)
  mattering-matters = record {
    steps = λ b less. steps-served (block_in g b) (block_in g b).stmts (served-in b less).stmts;
    tested = λ b less.
        let block = block_in g b in
        within-held (mattering g block []) (exit_exprs block.exit) (served-in b less).exits
        (λ l c is. (is, inl (contains_among (flat_map reads_of (exit_exprs block.exit)) l c)));
    goes = λ b next less to there location is. (
      is.0,
      (live-closed g).goes (block_in g b) (block_in g next) next location to
          (slice_get-get_or g.blocks next no_block there) is.1,
    );
  }

  -- What is live where the graph begins has a name, since it is read.

  named-read : (es : List inner.Expr) (l : Loc) → All (IsWithin (function_spelling g) (has_name g)) es
      → reads es l ≡ true → has_name g l
  named-read es l within is =
      All-contains (has_name g) (flat_map reads_of es) l (all-read es within) (among_contains (flat_map reads_of es) l is)
    where
      all-read : (es : List inner.Expr) → All (IsWithin (function_spelling g) (has_name g)) es → All (has_name g) (flat_map reads_of es)
      all-read [] within = All-nil (has_name g)
      all-read (e ∷ es) within =
          All-append (has_name g) (reads_of e) (flat_map reads_of es)
          (All-head (IsWithin (function_spelling g) (has_name g)) e es within).reads
          (all-read es (All-tail (IsWithin (function_spelling g) (has_name g)) e es within))

  named-first : (stmts : List inner.Stmt) (exit : inner.Exit) (l : Loc) → All (IsServedStmt g) stmts
      → All (IsWithin (function_spelling g) (has_name g)) (exit_exprs exit) → reads_first stmts exit l ≡ true → has_name g l
  named-first [] exit l served within is = named-read (exit_exprs exit) l within is
  named-first (stmt ∷ stmts) exit l served within is =
      elim (or_cases (reads (exprs_of stmt) l) _ is) [
        | inl read ↦ named-read (exprs_of stmt) l (All-head (IsServedStmt g) stmt stmts served).within read
        | inr later ↦
            let parts = and_parts (not (is_among (writes_of stmt) l)) (reads_first stmts exit l) later in
            named-first stmts exit l (All-tail (IsServedStmt g) stmt stmts served) within parts.1
      ]

  named-reader : (place : ℕ) (l : Loc) → reads_first (block_in g place).stmts (block_in g place).exit l ≡ true → has_name g l
  named-reader place l is = elim (cases_lt place (length g.blocks)) [
    | inl inside ↦
        let served = served-in place inside in
        named-first (block_in g place).stmts (block_in g place).exit l served.stmts served.exits is
    | inr past ↦
        absurd (true≢false (sym is ∙ ap (λ (b : inner.Block). reads_first b.stmts b.exit l) (get_or_past g.blocks place no_block past)))
  ]

  pub opened-named : (l : Loc) → begins_live g l ≡ true → has_name g l
  opened-named l is = elim ((begins-live g l).0 is) [
    | inl read ↦ named-reader 0 l read
    | inr on ↦ named-reader on.1.reader l on.1.read
  ]

  pub matters-opened : (l : Loc) → mattering g (block_in g 0) (block_in g 0).stmts l → begins_live g l ≡ true
  matters-opened l is = begins-where-live g l is.1
