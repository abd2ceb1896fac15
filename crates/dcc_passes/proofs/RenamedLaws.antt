-- A graph that is another one with other locations stands for it.
use Rattle.std.proofs.Common.{◌≡◌, ℕ, suc, true, false, ◌&&◌, List, [], ◌∷◌, ◌++◌, length, Option, Some, None, refl, sym, ap, ap₂, ◌∙◌, subst, true≢false, map, flat_map, option_map, slice_get, Contains, append-nil}
use Rattle.std.specs.Prelude.{◌/◌, All, option_to_list}
use Rattle.std.specs.List.{AllZip, list_all}
use Rattle.std.proofs.lemmas.List.{length-map}
use Rattle.std.proofs.lemmas.List.Elements.{All-contains}
use Rattle.std.proofs.lemmas.Option.{get_or_from_slice_get}
use Rattle.dcc_run.proofs.KeptLaws.{right_part}
use Rattle.dcc_ir.specs.declared.syntax.Loc.{Loc}
use Rattle.dcc_ir.specs.declared.syntax.Put.{Put}
use Rattle.dcc_ir.specs.declared.syntax.Put.TheVariants.{Memory, One, Two}
use Rattle.dcc_ir.specs.declared.syntax.Param.{Param}
use Rattle.dcc_ir.specs.Tree.{Expr, Stmt, Set, Fetch, Store, Div, Call, Dos, Exit, Goto, If, Switch, Ret, Stop, Block, Graph}
use Rattle.dcc_ir.specs.Location.{location_width, Values, fill_at, with_value}
use Rattle.dcc_ir.specs.Value.{bytes_at}
use Rattle.dcc_ir.specs.Use.{reads_of, exprs_of, writes_of}
use Rattle.dcc_ir.specs.Demand.{tests_of}
use Rattle.dcc_ir.specs.Live.{block_in}
use Rattle.dcc_ir.specs.Families.{Family, IsClosed}
use Rattle.dcc_ir.specs.Flow.{targets}
use Rattle.dcc_ir.specs.WellFormed.{is_stmt, is_exit, is_block, is_dos, is_byte_place, is_jump, ret_widths, IsGraph}
use Rattle.dcc_ir.specs.Joinable.{places_of}
use Rattle.dcc_ir.specs.Local.{start_of}
use Rattle.dcc_ir.specs.Run.{State, Activation, passing, scene_of, argument_in, no_block, is_call}
use Rattle.dcc_ir.proofs.FitLaws.{both}
use Rattle.dcc_ir.proofs.LocationLaws.{Contains-here, Contains-none, Contains-cases}
use Rattle.dcc_ir.proofs.ListLaws.{all_had, left_part}
use Rattle.dcc_ir.proofs.ReachedLaws.{contained, all_at}
use Rattle.dcc_passes.specs.Replaced.{StandsFor}
use Rattle.dcc_passes.specs.Kinds.{param_kind, call_kinds, BlockStaysInKind, StaysInKind}
use Rattle.dcc_passes.specs.Following.{Link, TakeAlike, takes_key, DoAlike, EndsAlike, RunAlike, IsFollowedBy, done, both as step, calls, IsFollowedByBlock, linked, IsFollowedByGraph}
use Rattle.dcc_passes.specs.Renaming.{renamed, renamed_stmt, renamed_exit, renamed_put, renamed_param, param_places}
use Rattle.dcc_passes.specs.Renamed.{Renaming, HaveWidths, IsRenamedStmt, AreRenamed, IsRenamedBlock, IsRenamed}
use Rattle.dcc_passes.specs.OneGraph.{BeginsIn}
use Rattle.dcc_passes.proofs.FollowLaws.{followed-stands}
use Rattle.dcc_passes.proofs.RenamingLaws.{widths-renamed, ReadsSame, value-renamed, values-renamed, division-renamed, targets-renamed, jumps-renamed}
use Rattle.dcc_passes.proofs.WrittenLaws.{put-one, given-names, taken-names, taken-outside}

-- a list that is related to another place by place
zip-from : {A B : Type 0} (R : A → B → Type 0) (xs : List A) (ys : List B) → length ys ≡ length xs
    → ((k : ℕ) (x : A) (y : B) → slice_get xs k ≡ Some x → slice_get ys k ≡ Some y → R x y) → AllZip R xs ys
zip-from R [] [] len each = tt
zip-from R [] (y ∷ ys) len each = absurd (cc)
zip-from R (x ∷ xs) [] len each = absurd (cc)
zip-from R (x ∷ xs) (y ∷ ys) len each = (each 0 x y refl refl, zip-from R xs ys (cc) (λ k x y found there. each (suc k) x y found there))

-- Kinds.

module _ (family : Family) (name : Renaming) (before after : Graph) where
  abbrev Wide : (Loc → Loc) → List Loc → Type 0
  Wide = HaveWidths family name before after

  param-kinds : (start : Loc → Loc) (params : List Param) → Wide start (param_places params)
      → map (param_kind after.bits) (map (renamed_param start) params) ≡ map (param_kind before.bits) params
  param-kinds start [] wide = refl
  param-kinds start (p ∷ params) wide =
      let later = param-kinds start params (right_part (λ l. location_width after.bits (start l) ≡ location_width before.bits l) (places_of p.put) (param_places params) wide) in
      ap₂ (λ k ks. k ∷ ks) (kind p.put (left_part (λ l. location_width after.bits (start l) ≡ location_width before.bits l) (places_of p.put) (param_places params) wide)) later
    where
      kind : (put : Put) → Wide start (places_of put) → param_kind after.bits (record { stack = p.stack; put = renamed_put start put }) ≡ param_kind before.bits (record { stack = p.stack; put = put })
      kind Memory wide = refl
      kind (One x) wide = ap (λ w. record { stack = p.stack; memory = false; width = w }) (All-contains (λ l. location_width after.bits (start l) ≡ location_width before.bits l) (x ∷ []) x wide (Contains-here x []))
      kind (Two low high) wide = refl

  results-wide : (written : Loc → Loc) (results : List Loc) → Wide written results → map (location_width after.bits) (map written results) ≡ map (location_width before.bits) results
  results-wide written [] wide = refl
  results-wide written (x ∷ results) wide =
      let W : Loc → Type 0 = λ l. location_width after.bits (written l) ≡ location_width before.bits l in
      ap₂ (λ n ns. n ∷ ns) (All-contains W (x ∷ results) x wide (Contains-here x results)) (results-wide written results (right_part W (x ∷ []) results wide))

  stmt-kinds : (read written : Loc → Loc) (stmt : Stmt) → Wide read (flat_map reads_of (exprs_of stmt)) → Wide written (writes_of stmt)
      → call_kinds after.bits (renamed_stmt read written stmt) ≡ call_kinds before.bits stmt
  stmt-kinds read written (Call results entry arguments depth) reads writes =
      ap₂ (λ rs xs. record { results = rs; entry = entry; arguments = xs; depth = depth } ∷ []) (results-wide written results writes) (widths-renamed before.bits after.bits read arguments reads)
  stmt-kinds read written (Set x e) reads writes = refl
  stmt-kinds read written (Fetch x width a) reads writes = refl
  stmt-kinds read written (Store width a e) reads writes = refl
  stmt-kinds read written (Div x e) reads writes = refl
  stmt-kinds read written (Dos number place argument) reads writes = refl

  calls-kinds : (place : ℕ) (block : Block) (stmts news : List Stmt) → AreRenamed family name before after place block stmts news
      → flat_map (call_kinds after.bits) news ≡ flat_map (call_kinds before.bits) stmts
  calls-kinds place block [] [] are = refl
  calls-kinds place block (stmt ∷ rest) (new ∷ news) are =
      ap₂ (λ xs ys. xs ++ ys) (ap (call_kinds after.bits) are.0.is ∙ stmt-kinds are.0.read are.0.written stmt are.0.read_widths are.0.write_widths) (calls-kinds place block rest news are.1)
  calls-kinds place block [] (new ∷ news) are = absurd are
  calls-kinds place block (stmt ∷ rest) [] are = absurd are

  rets-wide : (read : Loc → Loc) (exit : Exit) → Wide read (tests_of exit) → ret_widths after.bits (renamed_exit read exit) ≡ ret_widths before.bits exit
  rets-wide read (Ret values) wide = ap (λ ns. ns ∷ []) (widths-renamed before.bits after.bits read values wide)
  rets-wide read (Goto place) wide = refl
  rets-wide read (If test one other) wide = refl
  rets-wide read (Switch e places) wide = refl
  rets-wide read Stop wide = refl

  block-kind : (place : ℕ) (block new : Block) → IsRenamedBlock family name before after place block new → BlockStaysInKind before.bits after.bits block new
  block-kind place block new is = record {
    at = is.at;
    targets_are = ap targets is.exit ∙ targets-renamed is.read block.exit;
    jumps = ap is_jump is.exit ∙ jumps-renamed is.read block.exit;
    given = ap (ret_widths after.bits) is.exit ∙ rets-wide is.read block.exit is.read_widths;
    calls = calls-kinds place block block.stmts new.stmts is.stmts;
  }

  renamed-kind : IsRenamed family name before after → StaysInKind before after
  renamed-kind is = record {
    entry = is.entry;
    params = ap (map (param_kind after.bits)) is.params ∙ param-kinds is.start before.params is.param_widths;
    local = is.local;
    pushed = is.pushed;
    blocks = zip-from (BlockStaysInKind before.bits after.bits) before.blocks after.blocks is.count (λ k b c found there. block-kind k b c (is.blocks k b c found there));
  }

-- Statements.

-- a well-formed DOS call that takes no byte has no place for one
no-place : (bits : List ℕ) (number : ℕ) (place : Option Loc) (argument : Option Expr) (x : Loc) → is_dos bits number (Some x) argument ≡ true → takes_key number ≡ false → ⊥
no-place bits number place (Some e) x formed other = true≢false (sym formed)
no-place bits number place None x formed other = true≢false (sym formed ∙ ap (λ b. b && is_byte_place bits (Some x)) other)

module _ (family : Family) (name : Renaming) (before after : Graph) (closed : IsClosed before family) where
  -- what holds between the values: each location that matters and what stands for it hold the same
  abbrev Same : ℕ → List Stmt → Values → Values → Type 0
  Same place rest v v' = (l : Loc) → family (block_in before place) rest l → v' (name place rest l) ≡ v l

  abbrev renames : Link
  renames place rest scene v' = Same place rest scene.values v'

  module _ (place : ℕ) where
    abbrev block : Block
    block = block_in before place

    abbrev Has : List Stmt → Loc → Type 0
    Has rest l = family block rest l

    -- what is read as what stands for it holds the same
    reads-same : (rest : List Stmt) (s t : State) (h : RunAlike before after (renames place rest) s t) (read : Loc → Loc) (ls : List Loc)
        → HaveWidths family name before after read ls → ((l : Loc) → Contains ls l → read l ≡ name place rest l) → ((l : Loc) → Contains ls l → Has rest l)
        → All (ReadsSame (scene_of s) (scene_of t) h.outside.base h.outside.memory read) ls
    reads-same rest s t h read ls wide reads has = all_had (ReadsSame (scene_of s) (scene_of t) h.outside.base h.outside.memory read) ls (λ l c. record {
      value = ap t.running.values (reads l c) ∙ h.holds l (has l c);
      width = ap (λ (g : Graph). location_width g.bits (read l)) h.second
          ∙ All-contains (λ l. location_width after.bits (read l) ≡ location_width before.bits l) ls l wide c ∙ sym (ap (λ (g : Graph). location_width g.bits l) h.first);
    })

    module _ (stmt : Stmt) (rest : List Stmt) (new : Stmt) (is : IsRenamedStmt family name before after place block stmt rest new) where
      abbrev Now : Loc → Type 0
      Now = Has (stmt ∷ rest)

      -- what isn't written holds the same after the statement
      left-same : (v v' : Values) → Same place (stmt ∷ rest) v v' → (l : Loc) → Has rest l → (Contains (writes_of stmt) l → ⊥) → v' (name place rest l) ≡ v l
      left-same v v' holds l has out = ap v' (sym (is.left l out has)) ∙ holds l (closed.left block stmt rest l out has)

      -- one location is written
      one-same : (x : Loc) → writes_of stmt ≡ x ∷ [] → (n n' : ℕ) (v v' : Values) → (Has rest x → n' ≡ n) → Same place (stmt ∷ rest) v v'
          → Same place rest (with_value v x n) (with_value v' (is.written x) n')
      one-same x writes n n' v v' same holds l has =
          put-one (Has rest) (name place rest) is.written (writes_of stmt) is.writes x n n' v v' (subst (λ xs. Contains xs x) (sym writes) (Contains-here x [])) l has same
          (λ other. left-same v v' holds l has (λ c. Contains-cases x [] l ⊥ (λ same. other (sym same)) (Contains-none l) (subst (λ xs. Contains xs l) writes c)))

      -- nothing is written
      none-same : writes_of stmt ≡ [] → (v v' : Values) → Same place (stmt ∷ rest) v v' → Same place rest v v'
      none-same writes v v' holds l has = left-same v v' holds l has (λ c. Contains-none l (subst (λ xs. Contains xs l) writes c))

      -- what the statement reads holds the same, where it matters
      exprs-same : (s t : State) → (h : RunAlike before after (renames place (stmt ∷ rest)) s t) → ((l : Loc) → Contains (flat_map reads_of (exprs_of stmt)) l → Now l)
          → All (ReadsSame (scene_of s) (scene_of t) h.outside.base h.outside.memory is.read) (flat_map reads_of (exprs_of stmt))
      exprs-same s t h matter = reads-same (stmt ∷ rest) s t h is.read (flat_map reads_of (exprs_of stmt)) is.read_widths (λ l c. is.reads l c (matter l c)) matter

    -- the location is among what is read of one expression
    only : (e : Expr) (l : Loc) → Contains (flat_map reads_of (e ∷ [])) l → Contains (reads_of e) l
    only e l c = subst (λ ls. Contains ls l) (append-nil (reads_of e)) c

    does-alike : (stmt : Stmt) (rest : List Stmt) (new : Stmt) (is : IsRenamedStmt family name before after place block stmt rest new) → is_stmt after.bits new ≡ true
        → is_call stmt ≡ false → (s t : State) → RunAlike before after (renames place (stmt ∷ rest)) s t → DoAlike (renames place rest) s t stmt (renamed_stmt is.read is.written stmt)
    does-alike (Set x e) rest new is formed plain s t h =
        one-same (Set x e) rest new is x refl _ _ s.running.values t.running.values
        (λ has. value-renamed (scene_of s) (scene_of t) h.outside.base h.outside.memory is.read e
        (left_part (ReadsSame (scene_of s) (scene_of t) h.outside.base h.outside.memory is.read) (reads_of e) [] (exprs-same (Set x e) rest new is s t h (λ l c. closed.made_of block (Set x e) rest l x (Contains-here x []) (only e l c) has)))) h.holds
    does-alike (Fetch x width a) rest new is formed plain s t h =
        one-same (Fetch x width a) rest new is x refl _ _ s.running.values t.running.values
        (λ has. ap₂ (λ m n. bytes_at m (width / 8) n) h.outside.memory (value-renamed (scene_of s) (scene_of t) h.outside.base h.outside.memory is.read a
        (left_part (ReadsSame (scene_of s) (scene_of t) h.outside.base h.outside.memory is.read) (reads_of a) [] (exprs-same (Fetch x width a) rest new is s t h (λ l c. closed.made_of block (Fetch x width a) rest l x (Contains-here x []) (only a l c) has))))) h.holds
    does-alike (Store width a e) rest new is formed plain s t h =
        let P = ReadsSame (scene_of s) (scene_of t) h.outside.base h.outside.memory is.read in
        let all = exprs-same (Store width a e) rest new is s t h (λ l c. closed.used block (Store width a e) rest l (subst (λ ls. Contains (reads_of a ++ ls) l) (append-nil (reads_of e)) c)) in (
          refl,
          value-renamed (scene_of s) (scene_of t) h.outside.base h.outside.memory is.read a (left_part P (reads_of a) (reads_of e ++ []) all),
          value-renamed (scene_of s) (scene_of t) h.outside.base h.outside.memory is.read e (left_part P (reads_of e) [] (right_part P (reads_of a) (reads_of e ++ []) all)),
          none-same (Store width a e) rest new is refl s.running.values t.running.values h.holds,
        )
    does-alike (Div x e) rest new is formed plain s t h = (
      division-renamed (scene_of s) (scene_of t) h.outside.base h.outside.memory is.read e
          (left_part (ReadsSame (scene_of s) (scene_of t) h.outside.base h.outside.memory is.read) (reads_of e) [] (exprs-same (Div x e) rest new is s t h (λ l c. closed.used block (Div x e) rest l (only e l c)))),
      λ n. one-same (Div x e) rest new is x refl n n s.running.values t.running.values (λ has. refl) h.holds,
    )
    does-alike (Call results entry arguments depth) rest new is formed plain s t h = absurd (true≢false plain)
    does-alike (Dos number to argument) rest new is formed plain s t h = (
      refl,
      told argument (exprs-same (Dos number to argument) rest new is s t h (λ l c. closed.used block (Dos number to argument) rest l c)),
      taken to refl,
      λ other. none-same (Dos number to argument) rest new is (none to (subst (λ x. is_stmt after.bits x ≡ true) is.is formed) other) s.running.values t.running.values h.holds,
    )
      where
        told : (argument : Option Expr) → All (ReadsSame (scene_of s) (scene_of t) h.outside.base h.outside.memory is.read) (flat_map reads_of (option_to_list argument))
            → argument_in t (option_map (renamed is.read) argument) ≡ argument_in s argument
        told (Some e) all = value-renamed (scene_of s) (scene_of t) h.outside.base h.outside.memory is.read e (left_part (ReadsSame (scene_of s) (scene_of t) h.outside.base h.outside.memory is.read) (reads_of e) [] all)
        told None all = refl

        taken : (place' : Option Loc) → to ≡ place' → TakeAlike (renames place rest) (scene_of s) t.running.values place' (option_map is.written place')
        taken (Some x) same = λ n. one-same (Dos number to argument) rest new is x (ap option_to_list same) n n s.running.values t.running.values (λ has. refl) h.holds
        taken None same = none-same (Dos number to argument) rest new is (ap option_to_list same) s.running.values t.running.values h.holds

        none : (place' : Option Loc) → is_dos after.bits number (option_map is.written place') (option_map (renamed is.read) argument) ≡ true → takes_key number ≡ false → option_to_list place' ≡ []
        none (Some x) formed other = absurd (no-place after.bits number (Some x) (option_map (renamed is.read) argument) (is.written x) formed other)
        none None formed other = refl

    stmts-follow : (stmts news : List Stmt) → AreRenamed family name before after place block stmts news → list_all (is_stmt after.bits) news ≡ true
        → IsFollowedBy before after (renames place) stmts news
    stmts-follow [] [] are formed = done
    stmts-follow [] (new ∷ news) are formed = absurd are
    stmts-follow (stmt ∷ rest) [] are formed = absurd are
    stmts-follow (stmt ∷ rest) (new ∷ news) are formed =
        let parts = both (is_stmt after.bits new) (list_all (is_stmt after.bits) news) formed in
        subst (λ x. IsFollowedBy before after (renames place) (stmt ∷ rest) (x ∷ news)) (sym are.0.is) (go stmt are.0 parts.0 (stmts-follow rest news are.1 parts.1))
      where
        go : (stmt : Stmt) (is : IsRenamedStmt family name before after place block stmt rest new) → is_stmt after.bits new ≡ true → IsFollowedBy before after (renames place) rest news
            → IsFollowedBy before after (renames place) (stmt ∷ rest) (renamed_stmt is.read is.written stmt ∷ news)
        go (Call results entry arguments depth) is fine later =
            let call = Call results entry arguments depth in
            calls
            (λ s t h. values-renamed (scene_of s) (scene_of t) h.outside.base h.outside.memory is.read arguments
            (exprs-same call rest new is s t h (λ l c. closed.used block call rest l c)))
            (λ s t r h fit base memory l has.
            let v = s.running.values in
            let v' = t.running.values in
            given-names (Has rest) (name place rest) is.written results is.writes (map (location_width before.bits) results) results r v v'
            (length-map results (location_width before.bits)) fit (λ x c. c) l has (left-same call rest new is v v' h.holds l has))
            later
        go (Set x e) is fine later = step refl refl (does-alike (Set x e) rest new is fine refl) later
        go (Fetch x width a) is fine later = step refl refl (does-alike (Fetch x width a) rest new is fine refl) later
        go (Store width a e) is fine later = step refl refl (does-alike (Store width a e) rest new is fine refl) later
        go (Div x e) is fine later = step refl refl (does-alike (Div x e) rest new is fine refl) later
        go (Dos number to argument) is fine later = step refl refl (does-alike (Dos number to argument) rest new is fine refl) later

    exits-alike : (read : Loc → Loc) (exit : Exit) → block.exit ≡ exit → HaveWidths family name before after read (tests_of exit)
        → ((l : Loc) → Contains (tests_of exit) l → read l ≡ name place [] l) → (s t : State) → RunAlike before after (renames place []) s t → EndsAlike s t exit (renamed_exit read exit)
    exits-alike read exit same wide reads s t h = go exit same (reads-same [] s t h read (tests_of exit) wide reads (λ l c. closed.tested block l (subst (λ x. Contains (tests_of x) l) (sym same) c)))
      where
        P : Loc → Type 0
        P = ReadsSame (scene_of s) (scene_of t) h.outside.base h.outside.memory read

        go : (exit : Exit) → block.exit ≡ exit → All P (tests_of exit) → EndsAlike s t exit (renamed_exit read exit)
        go (Goto to) same all = refl
        go (If test one other) same all = (value-renamed (scene_of s) (scene_of t) h.outside.base h.outside.memory read test all, refl, refl)
        go (Switch e places) same all = (value-renamed (scene_of s) (scene_of t) h.outside.base h.outside.memory read e all, refl)
        go (Ret values) same all = values-renamed (scene_of s) (scene_of t) h.outside.base h.outside.memory read values all
        go Stop same all = tt

    block-follows : (new : Block) → IsRenamedBlock family name before after place block new → list_all (is_stmt after.bits) new.stmts ≡ true
        → IsFollowedByBlock before after renames place block new
    block-follows new is formed = record {
      stmts = stmts-follow block.stmts new.stmts is.stmts formed;
      exit = λ s t h. subst (EndsAlike s t block.exit) (sym is.exit) (exits-alike is.read block.exit refl is.read_widths is.reads s t h);
      goes = λ to next s t goes found h base memory l has.
          let there : block_in before to ≡ next = get_or_from_slice_get before.blocks to next no_block found in
          let has' = subst (λ b. family b next.stmts l) there has in
          ap t.running.values (is.goes to next l goes found has') ∙ h.holds l (closed.goes block next to l goes found has');
    }

  module _ (is : IsRenamed family name before after) (fine : IsGraph after) where
    renamed-begins : BeginsIn before after (linked before after renames)
    renamed-begins fill base a s t fit outside opened opened' =
        subst (λ params. let s' = passing 0 before.params a s in let t' = passing 0 params a t in (t'.memory ≡ s'.memory) × linked before after renames (start_of before.entry) s'.running.values t'.running.values)
        (sym is.params) (
          taken-outside is.start 0 before.params a s t outside.memory outside.base,
          λ block found at memory l has.
              let here : block_in before 0 ≡ block = get_or_from_slice_get before.blocks 0 block no_block found in
              let first = is.first block found in
              let Has : Loc → Type 0 = λ l. family block block.stmts l in
              taken-names Has (name 0 block.stmts) is.start (param_places before.params) first.writes 0 before.params a s t (λ x c. c)
              (λ l has. ap (λ (x : Activation). x.values (name 0 block.stmts l)) opened' ∙ ap (λ w. fill_at w fill) (first.widths l has) ∙ sym (ap (λ (x : Activation). x.values l) opened))
              l (subst (λ b. family b block.stmts l) here has),
        )

    renamed-follows : IsFollowedByGraph before after renames
    renamed-follows = record {
      begins = renamed-begins;
      blocks = λ place block new found there.
          let here : block_in before place ≡ block = get_or_from_slice_get before.blocks place block no_block found in
          let pair = subst (λ b. IsRenamedBlock family name before after place b new) (sym here) (is.blocks place block new found there) in
          let formed = all_at (is_block after.bits (length after.blocks)) after.blocks new fine.blocks (contained after.blocks place new there) in
          let stmts = (both (list_all (is_stmt after.bits) new.stmts) (is_exit after.bits (length after.blocks) new.exit) formed).0 in
          subst (λ b. IsFollowedByBlock before after renames place b new) here (block-follows place new pair stmts);
    }

pub renamed-stands : (family : Family) (name : Renaming) (before after : Graph) → IsClosed before family → IsRenamed family name before after → IsGraph after → StandsFor before after
renamed-stands family name before after closed is fine =
    followed-stands before after (renames family name before after closed) (renamed-kind family name before after is) fine (renamed-follows family name before after closed is fine)
