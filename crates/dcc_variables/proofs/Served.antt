-- What a graph with calls reads, writes and takes addresses of. A statement alone, and expressions alone as those of a Ret,
-- make a graph without calls, of which it is known; and what has a name there has one in the whole graph.
use Rattle.std.proofs.Common.{◌≡◌, ℕ, ◌<◌, Bool, true, false, ◌==◌, inl, inr, List, [], ◌∷◌, ◌++◌, length, Option, is_some, refl, sym, ap, ◌∙◌, true≢false, arith}
use Rattle.std.specs.Prelude.{◌&&◌, ◌||◌, nat_lt, nat_le, filter, flat_map, if◌then◌else◌, All, Contains}
use Rattle.std.specs.List.{list_all, list_any}
use Rattle.std.proofs.lemmas.Bool.{and_parts, and_from, or_cases, or_left, or_right}
use Rattle.std.proofs.lemmas.List.Elements.{All-nil, All-cons, All-contains, All-weaker}
use Rattle.std.proofs.lemmas.List.Folds.{list_any-append}
use Rattle.dcc_ir.specs.declared.syntax.Loc.{Loc}
use Rattle.dcc_ir.specs.Live.{is_among}
use Rattle.dcc_ir.specs.Location.{same_location}
use Rattle.dcc_ir.specs.Run.{is_call}
use Rattle.dcc_ir.specs.Tree.{Expr, Stmt, Set, Fetch, Store, Div, Call, Dos, Exit, Goto, If, Switch, Ret, Stop, Block, Graph}
use Rattle.dcc_ir.specs.Use.{parts_of, reads_of, addresses_of, exprs_of, writes_of, exit_exprs}
use Rattle.dcc_ir.specs.Value.{width_of}
use Rattle.dcc_ir.specs.WellFormed.{is_location, is_expr, is_expr_of, is_stmt, is_exit, is_block, jumps_after_call, IsGraph}
use Rattle.dcc_ir.proofs.ListLaws.{all_had}
use Rattle.dcc_ir.proofs.PathLaws.{decided}
use Rattle.dcc_ir.proofs.LocationLaws.{location_same, contains_among, Contains-here, Contains-none, Contains-cases}
use Rattle.dcc_ir.proofs.ReachedLaws.{all_at}
use Rattle.dcc_flow.specs.Mentions.{stmt_mentions, block_mentions, graph_mentions}
use Rattle.dcc_text.specs.Holding.{IsWithin}
use Rattle.dcc_variables.specs.Variables.{is_told_from, has_address, stmt_has_address, block_has_address, takes_address, all_locations, cells_among, frame_bytes, graph_spelling}
use Rattle.dcc_variables.proofs.FramePlaces.{told-placed, array-placed, all-told, frame-some}
use Rattle.dcc_variables.proofs.Lists.{among-left, among-right}
use Rattle.dcc_variables.proofs.Numbers.{mentioned-among, locations-there}
use Rattle.dcc_variables.proofs.Steps.{stmt-step, exit-within}
use Rattle.dcc_variables.specs.Functions.{memory_from, function_spelling}
use Rattle.dcc_variables.specs.FunctionLaws.{has_name, IsServedStmt, IsServedByFunction, FunctionsAreServed}

-- Lists.

any-at : {X : Type 0} (p : X → Bool) (xs : List X) (x : X) → Contains xs x → p x ≡ true → list_any p xs ≡ true
any-at p [] x c is = absurd (Contains-none x c)
any-at p (y ∷ xs) x c is =
    Contains-cases y xs x (list_any p (y ∷ xs) ≡ true) (λ same. or_left (p y) (list_any p xs) (ap p same ∙ is)) (λ later. or_right (p y) (list_any p xs) (any-at p xs x later is)) c

among-flat : {X : Type 0} (f : X → List Loc) (xs : List X) (x : X) (l : Loc) → Contains xs x → is_among (f x) l ≡ true → is_among (flat_map f xs) l ≡ true
among-flat f [] x l c is = absurd (Contains-none x c)
among-flat f (y ∷ xs) x l c is =
    Contains-cases y xs x (is_among (flat_map f (y ∷ xs)) l ≡ true)
    (λ same. among-left (f y) (flat_map f xs) l (ap (λ z. is_among (f z) l) same ∙ is)) (λ later. among-right (f y) (flat_map f xs) l (among-flat f xs x l later is)) c

-- nothing more at the end
among-alone : (xs : List Loc) (l : Loc) → is_among (xs ++ []) l ≡ true → is_among xs l ≡ true
among-alone xs l is = elim (or_cases (is_among xs l) false (sym (list_any-append (same_location l) xs []) ∙ is)) [ inl there ↦ there | inr none ↦ absurd (true≢false (sym none)) ]

filter-passes : (P : Loc → Bool) (xs : List Loc) (l : Loc) → is_among (filter P xs) l ≡ true → P l ≡ true
filter-passes P [] l is = absurd (true≢false (sym is))
filter-passes P (x ∷ xs) l is = by (P x) refl is (filter-passes P xs l)
  where
    by : (b : Bool) → P x ≡ b → is_among (if b then x ∷ filter P xs else filter P xs) l ≡ true → (is_among (filter P xs) l ≡ true → P l ≡ true) → P l ≡ true
    by true passes is rest = elim (or_cases (same_location l x) (is_among (filter P xs) l) is) [ inl same ↦ ap P (location_same l x same) ∙ passes | inr later ↦ rest later ]
    by false fails is rest = rest is

-- The expressions of a block's end.

end-formed : (bits : List ℕ) (count : ℕ) (exit : Exit) → is_exit bits count exit ≡ true → list_all (is_expr bits) (exit_exprs exit) ≡ true
end-formed bits count (Goto place) formed = refl
end-formed bits count (If test one other) formed =
    let (two, last) = and_parts (is_expr_of bits 1 test && nat_lt one count) (nat_lt other count) formed in
    let of_bit = (and_parts (is_expr_of bits 1 test) (nat_lt one count) two).0 in
    and_from (is_expr bits test) true (and_parts (is_expr bits test) (width_of bits test == 1) of_bit).0 refl
end-formed bits count (Switch e places) formed =
    let (two, last) = and_parts (is_expr_of bits 16 e && nat_le (length places) 65536) (list_all (λ place. nat_lt place count) places) formed in
    let of_word = (and_parts (is_expr_of bits 16 e) (nat_le (length places) 65536) two).0 in
    and_from (is_expr bits e) true (and_parts (is_expr bits e) (width_of bits e == 16) of_word).0 refl
end-formed bits count (Ret values) formed = formed
end-formed bits count Stop formed = refl

-- Of a part of a graph.

module _ (g : Graph) (formed : IsGraph g) (b : Block) (inside : Contains g.blocks b) where
  -- the parameter from which addresses of arguments are told
  abbrev told : Option ℕ
  told = memory_from 0 g.params

  -- addresses have places: they are told from that parameter, or the graph has an array
  addresses-placed : (e : Expr) → (has_address told e ≡ true → takes_address told g ≡ true)
      → All (λ d. is_some ((function_spelling g).place d) ≡ true) (addresses_of e)
  addresses-placed e takes = elim (decided (has_address told e)) [
    | inl some ↦
        all_had (λ d. is_some ((function_spelling g).place d) ≡ true) (addresses_of e)
        (λ d c. array-placed told (frame_bytes told g) d (frame-some told g (takes some)))
    | inr none ↦
        All-weaker (λ d. is_told_from told d ≡ true) (λ d. is_some ((function_spelling g).place d) ≡ true)
        (told-placed told (frame_bytes told g)) (addresses_of e) (all-told told (parts_of e) none)
  ]

  -- the block with other statements and another end, and the graph that has this block alone
  abbrev part : List Stmt → Exit → Block
  part stmts exit = record { at = b.at; stmts = stmts; exit = exit }

  abbrev alone : List Stmt → Exit → Graph
  alone stmts exit = record g { blocks = part stmts exit ∷ [] }

  alone-formed : (stmts : List Stmt) (exit : Exit) → list_all (is_stmt g.bits) stmts ≡ true → is_exit g.bits 1 exit ≡ true → jumps_after_call stmts exit ≡ true → IsGraph (alone stmts exit)
  alone-formed stmts exit stmts_formed exit_formed jumps = record {
    begins = omega arith;
    entry = formed.entry;
    offsets = All-cons (λ x. x.at < 65536) (part stmts exit) [] (All-contains (λ x. x.at < 65536) g.blocks b formed.offsets inside) (All-nil (λ (x : Block). x.at < 65536));
    jumps = All-cons (λ x. jumps_after_call x.stmts x.exit ≡ true) (part stmts exit) [] jumps (All-nil (λ (x : Block). jumps_after_call x.stmts x.exit ≡ true));
    addresses = refl;
    bits = formed.bits;
    params = formed.params;
    blocks = and_from (is_block g.bits 1 (part stmts exit)) true (and_from (list_all (is_stmt g.bits) stmts) (is_exit g.bits 1 exit) stmts_formed exit_formed) refl;
  }

  -- What has a name in the part has one in the graph.
  module _ (stmts : List Stmt) (exit : Exit) (mentions : (l : Loc) → is_among (block_mentions (part stmts exit)) l ≡ true → is_among (graph_mentions g) l ≡ true) where
    abbrev h : Graph
    h = alone stmts exit

    name-there : (l : Loc) → (graph_spelling (alone stmts exit)).named l ≡ true → has_name g l
    name-there l named =
        mentioned-among g l (locations-there h l named)
        (mentions l (among-alone (block_mentions (part stmts exit)) l (filter-passes (is_among (graph_mentions h)) (all_locations (length h.bits) (cells_among (graph_mentions h))) l named)))

    within-there : (es : List Expr) → (list_any (has_address told) es ≡ true → takes_address told g ≡ true)
        → All (IsWithin (graph_spelling (alone stmts exit)) (λ l. (graph_spelling (alone stmts exit)).named l ≡ true)) es → All (IsWithin (function_spelling g) (has_name g)) es
    within-there es takes within = all_had (IsWithin (function_spelling g) (has_name g)) es (λ e c.
        let x = All-contains (IsWithin (graph_spelling (alone stmts exit)) (λ l. (graph_spelling (alone stmts exit)).named l ≡ true)) es e within c in record {
          reads = All-weaker (λ l. (graph_spelling (alone stmts exit)).named l ≡ true) (has_name g) name-there (reads_of e) x.reads;
          addresses = addresses-placed e (λ is. takes (any-at (has_address told) es e c is));
        })

  -- Expressions, as those of a Ret.
  exprs-served : (es : List Expr) → list_all (is_expr g.bits) es ≡ true → ((l : Loc) → is_among (flat_map reads_of es) l ≡ true → is_among (graph_mentions g) l ≡ true)
      → (list_any (has_address told) es ≡ true → takes_address told g ≡ true) → All (IsWithin (function_spelling g) (has_name g)) es
  exprs-served es exprs_formed mentions takes =
      let here = alone-formed [] (Ret es) refl exprs_formed refl in
      let no_calls = All-cons (λ (x : Block). All (λ stmt. is_call stmt ≡ false) x.stmts) (part [] (Ret es)) [] (All-nil (λ stmt. is_call stmt ≡ false)) (All-nil (λ (x : Block). All (λ stmt. is_call stmt ≡ false) x.stmts)) in
      within-there [] (Ret es) mentions es takes (exit-within (alone [] (Ret es)) here no_calls (part [] (Ret es)) (Contains-here (part [] (Ret es)) []))

  -- A statement.
  module _ (stmt : Stmt) (there : Contains b.stmts stmt) (stmt_formed : is_stmt g.bits stmt ≡ true) where
    stmt-mentions : (l : Loc) → is_among (stmt_mentions stmt) l ≡ true → is_among (graph_mentions g) l ≡ true
    stmt-mentions l is =
        among-flat block_mentions g.blocks b l inside (among-left (flat_map stmt_mentions b.stmts) (flat_map reads_of (exit_exprs b.exit)) l (among-flat stmt_mentions b.stmts stmt l there is))

    stmt-takes : stmt_has_address told stmt ≡ true → takes_address told g ≡ true
    stmt-takes is =
        any-at (block_has_address told) g.blocks b inside
        (or_left (list_any (stmt_has_address told) b.stmts) (list_any (has_address told) (exit_exprs b.exit)) (any-at (stmt_has_address told) b.stmts stmt there is))

    -- one that is no call
    plain-served : is_call stmt ≡ false → IsServedStmt g stmt
    plain-served no_call =
        let stmts = stmt ∷ [] in
        let here = alone-formed stmts Stop (and_from (is_stmt g.bits stmt) true stmt_formed refl) refl (ap (λ c. if c then false else true) no_call) in
        let calls = λ (x : Block). All (λ s. is_call s ≡ false) x.stmts in
        let no_calls = All-cons calls (part stmts Stop) [] (All-cons (λ s. is_call s ≡ false) stmt [] no_call (All-nil (λ s. is_call s ≡ false))) (All-nil calls) in
        let x = stmt-step (alone stmts Stop) here no_calls (part stmts Stop) (Contains-here (part stmts Stop) []) stmt (Contains-here stmt []) in
        let mentions = λ (l : Loc) (is : is_among (block_mentions (part (stmt ∷ []) Stop)) l ≡ true). stmt-mentions l (among-alone (stmt_mentions stmt) l (among-alone (stmt_mentions stmt ++ []) l is)) in record {
          formed = stmt_formed;
          within = within-there stmts Stop mentions (exprs_of stmt) stmt-takes x.within;
          written = All-weaker (λ l. (graph_spelling (alone stmts Stop)).named l ≡ true) (has_name g) (name-there stmts Stop mentions) (writes_of stmt) x.written;
        }

  -- a call
  call-served : (results : List Loc) (entry : ℕ) (arguments : List Expr) (own : ℕ) → Contains b.stmts (Call results entry arguments own) → is_stmt g.bits (Call results entry arguments own) ≡ true
      → IsServedStmt g (Call results entry arguments own)
  call-served results entry arguments own there stmt_formed =
      let call = Call results entry arguments own in
      let (two, small) = and_parts (list_all (is_location g.bits) results && list_all (is_expr g.bits) arguments) (nat_lt own 65536) stmt_formed in
      let (places, exprs) = and_parts (list_all (is_location g.bits) results) (list_all (is_expr g.bits) arguments) two in record {
        formed = stmt_formed;
        within = exprs-served arguments exprs (λ l is. stmt-mentions call there stmt_formed l (among-left (flat_map reads_of arguments) results l is)) (stmt-takes call there stmt_formed);
        written = all_had (has_name g) results (λ l c.
            mentioned-among g l (all_at (is_location g.bits) results l places c) (stmt-mentions call there stmt_formed l (among-right (flat_map reads_of arguments) results l (contains_among results l c))));
      }

  stmt-served : (stmt : Stmt) → Contains b.stmts stmt → is_stmt g.bits stmt ≡ true → IsServedStmt g stmt
  stmt-served (Set location e) there ok = plain-served (Set location e) there ok refl
  stmt-served (Fetch location width address) there ok = plain-served (Fetch location width address) there ok refl
  stmt-served (Store width address e) there ok = plain-served (Store width address e) there ok refl
  stmt-served (Div location e) there ok = plain-served (Div location e) there ok refl
  stmt-served (Call results entry arguments own) there ok = call-served results entry arguments own there ok
  stmt-served (Dos number place argument) there ok = plain-served (Dos number place argument) there ok refl

  block-served : IsServedByFunction g b
  block-served =
      let (stmts_formed, end) = and_parts (list_all (is_stmt g.bits) b.stmts) (is_exit g.bits (length g.blocks) b.exit) (all_at (is_block g.bits (length g.blocks)) g.blocks b formed.blocks inside) in
      let es = exit_exprs b.exit in record {
        stmts = all_had (IsServedStmt g) b.stmts (λ stmt there. stmt-served stmt there (all_at (is_stmt g.bits) b.stmts stmt stmts_formed there));
        exits = exprs-served es (end-formed g.bits (length g.blocks) b.exit end)
            (λ l is. among-flat block_mentions g.blocks b l inside (among-right (flat_map stmt_mentions b.stmts) (flat_map reads_of es) l is))
            (λ is. any-at (block_has_address told) g.blocks b inside (or_right (list_any (stmt_has_address told) b.stmts) (list_any (has_address told) es) is));
      }

pub functions-served : FunctionsAreServed
functions-served graph formed = all_had (IsServedByFunction graph) graph.blocks (block-served graph formed)
