-- Fresh temporaries may come: all other locations hold the same.
use Rattle.std.proofs.Common.{◌≡◌, ℕ, Bool, true, false, ◌&&◌, ◌||◌, inl, inr, List, [], ◌∷◌, ◌++◌, length, Option, Some, None, refl, sym, ap, ap₂, ◌∙◌, subst, true≢false, map, flat_map, slice_get}
use Rattle.std.specs.Prelude.{if◌then◌else◌, ◌==◌, ◌+◌, ◌/◌, nat_lt, nat_le}
use Rattle.std.specs.List.{list_all}
use Rattle.std.proofs.lemmas.List.Elements.{All-contains}
use Rattle.dcc_ir.specs.declared.syntax.Loc.{Loc}
use Rattle.dcc_ir.specs.declared.syntax.Loc.TheVariants.{Temp}
use Rattle.dcc_ir.specs.declared.syntax.Put.{Put}
use Rattle.dcc_ir.specs.declared.syntax.Put.TheVariants.{Memory, One, Two}
use Rattle.dcc_ir.specs.declared.syntax.Param.{Param}
use Rattle.dcc_ir.specs.Tree.{Expr, Const, Get, Load, Unary, Binary, Widen, Part, Join, Choose, Address, Stmt, Set, Fetch, Store, Div, Call, Dos, Exit, Goto, If, Switch, Ret, Stop, Block, Graph}
use Rattle.dcc_ir.specs.Location.{same_location, location_width, Values, with_value, fill_at, filled}
use Rattle.dcc_ir.specs.Value.{width_of, bytes_at, division_of, division_at}
use Rattle.dcc_ir.specs.Use.{reads_of}
use Rattle.dcc_ir.specs.Flow.{targets}
use Rattle.dcc_ir.specs.WellFormed.{is_location, is_stored_width, is_division, is_expr, is_expr_of, is_dividing, is_dos, is_stmt, is_exit, is_block, is_jump, is_put, put_width, ret_widths, IsGraph}
use Rattle.dcc_ir.specs.Run.{State, Activation, passing, scene_of, value_in, argument_in, is_call}
use Rattle.dcc_ir.specs.Local.{start_of}
use Rattle.dcc_ir.specs.Passes.{with_values}
use Rattle.dcc_ir.proofs.FitLaws.{both, either}
use Rattle.dcc_ir.proofs.ListLaws.{all_had}
use Rattle.dcc_ir.proofs.LocationLaws.{location_same}
use Rattle.dcc_ir.proofs.ReachedLaws.{contained, all_at}
use Rattle.dcc_ir.proofs.passes.FormLaws.{width_more}
use Rattle.dcc_flow.proofs.FormedExprs.{reads_placed, join_formed, choose_formed}
use Rattle.dcc_passes.specs.Replaced.{StandsFor}
use Rattle.dcc_passes.specs.Kinds.{param_kind, call_kinds, BlockStaysInKind, StaysInKind}
use Rattle.dcc_passes.specs.OneGraph.{BeginsIn}
use Rattle.dcc_passes.specs.Renaming.{renamed, renamed_put, renamed_param, param_places}
use Rattle.dcc_passes.specs.Renamed.{AreWrittenAs}
use Rattle.dcc_passes.specs.Following.{Link, TakeAlike, DoAlike, EndsAlike, RunAlike, IsFollowedBy, done, both as step, calls, comes, IsFollowedByBlock, linked, IsFollowedByGraph}
use Rattle.dcc_passes.proofs.FollowLaws.{followed-stands}
use Rattle.dcc_passes.proofs.RenamingLaws.{ReadsSame, value-renamed}
use Rattle.dcc_passes.proofs.WrittenLaws.{taken-names, taken-outside}
use Rattle.dcc_substitution.proofs.SubstituteLaws.{kinds-zipped}
use Rattle.dcc_substitution.specs.Fresh.{AreWithFresh, done as ended, stays, comes as fresh_comes, IsBlockWithFresh, IsWithFresh}

-- Trees in which each location stays.

abbrev itself : Loc → Loc
itself l = l

renamed-itself : (e : Expr) → renamed itself e ≡ e
renamed-itself (Const width n) = refl
renamed-itself (Get location) = refl
renamed-itself (Load width a) = ap (Load width) (renamed-itself a)
renamed-itself (Unary operator width a) = ap (Unary operator width) (renamed-itself a)
renamed-itself (Binary operator width a b) = ap₂ (Binary operator width) (renamed-itself a) (renamed-itself b)
renamed-itself (Widen signed width a) = ap (Widen signed width) (renamed-itself a)
renamed-itself (Part width first a) = ap (Part width first) (renamed-itself a)
renamed-itself (Join high low) = ap₂ Join (renamed-itself high) (renamed-itself low)
renamed-itself (Choose test a b) = ap₂ (λ c x. Choose c x (renamed itself b)) (renamed-itself test) (renamed-itself a) ∙ ap (Choose test a) (renamed-itself b)
renamed-itself (Address distance) = refl

params-itself : (params : List Param) → map (renamed_param itself) params ≡ params
params-itself [] = refl
params-itself (p ∷ params) = ap₂ (λ q qs. q ∷ qs) (ap (λ put. record { stack = p.stack; put = put }) (go p.put)) (params-itself params)
  where
    go : (put : Put) → renamed_put itself put ≡ put
    go Memory = refl
    go (One x) = refl
    go (Two low high) = refl

-- Widths.

module _ (bits fresh : List ℕ) where
  width-more : (e : Expr) → is_expr bits e ≡ true → width_of (bits ++ fresh) e ≡ width_of bits e
  width-more (Const width n) ok = refl
  width-more (Get location) ok = width_more bits fresh location ok
  width-more (Load width a) ok = refl
  width-more (Unary operator width a) ok = refl
  width-more (Binary operator width a b) ok = refl
  width-more (Widen signed width a) ok = refl
  width-more (Part width first a) ok = refl
  width-more (Join high low) ok =
      let parts = join_formed bits high low ok in
      ap₂ (λ m n. m + n) (width-more high parts.upper) (width-more low parts.lower)
  width-more (Choose test a b) ok = width-more a (choose_formed bits test a b ok).one
  width-more (Address distance) ok = refl

  widths-more : (es : List Expr) → list_all (is_expr bits) es ≡ true → map (width_of (bits ++ fresh)) es ≡ map (width_of bits) es
  widths-more [] ok = refl
  widths-more (e ∷ es) ok =
      let parts = both (is_expr bits e) (list_all (is_expr bits) es) ok in
      ap₂ (λ n ns. n ∷ ns) (width-more e parts.0) (widths-more es parts.1)

  locations-more : (ls : List Loc) → list_all (is_location bits) ls ≡ true → map (location_width (bits ++ fresh)) ls ≡ map (location_width bits) ls
  locations-more [] ok = refl
  locations-more (l ∷ ls) ok =
      let parts = both (is_location bits l) (list_all (is_location bits) ls) ok in
      ap₂ (λ n ns. n ∷ ns) (width_more bits fresh l parts.0) (locations-more ls parts.1)

  kinds-more : (params : List Param) → list_all (λ q. is_put bits q.put) params ≡ true → map (param_kind (bits ++ fresh)) params ≡ map (param_kind bits) params
  kinds-more [] ok = refl
  kinds-more (p ∷ params) ok =
      let parts = both (is_put bits p.put) (list_all (λ (q : Param). is_put bits q.put) params) ok in
      ap₂ (λ w ks. record (param_kind bits p) { width = w } ∷ ks) (put-more p.put parts.0) (kinds-more params parts.1)
    where
      put-more : (put : Put) → is_put bits put ≡ true → put_width (bits ++ fresh) put ≡ put_width bits put
      put-more Memory ok = refl
      put-more (One x) ok = width_more bits fresh x ok
      put-more (Two low high) ok = refl

  call-more : (stmt : Stmt) → is_stmt bits stmt ≡ true → call_kinds (bits ++ fresh) stmt ≡ call_kinds bits stmt
  call-more (Call results entry arguments depth) ok =
      let two = both (list_all (is_location bits) results && list_all (is_expr bits) arguments) (nat_lt depth 65536) ok in
      let one = both (list_all (is_location bits) results) (list_all (is_expr bits) arguments) two.0 in
      ap₂ (λ rs ns. record { results = rs; entry = entry; arguments = ns; depth = depth } ∷ []) (locations-more results one.0) (widths-more arguments one.1)
  call-more (Set x e) ok = refl
  call-more (Fetch x width a) ok = refl
  call-more (Store width a e) ok = refl
  call-more (Div x e) ok = refl
  call-more (Dos number place argument) ok = refl

  calls-more : (stmts news : List Stmt) → AreWithFresh bits stmts news → list_all (is_stmt bits) stmts ≡ true
      → flat_map (call_kinds (bits ++ fresh)) news ≡ flat_map (call_kinds bits) stmts
  calls-more stmts news ended ok = refl
  calls-more stmts news (stays {stmt = stmt} {rest = rest} {rest' = rest'} w) ok =
      let parts = both (is_stmt bits stmt) (list_all (is_stmt bits) rest) ok in
      ap₂ (λ xs ys. xs ++ ys) (call-more stmt parts.0) (calls-more rest rest' w parts.1)
  calls-more stmts news (fresh_comes {rest' = rest'} none w) ok = calls-more stmts rest' w ok

  rets-more : (count : ℕ) (exit : Exit) → is_exit bits count exit ≡ true → ret_widths (bits ++ fresh) exit ≡ ret_widths bits exit
  rets-more count (Ret values) ok = ap (λ ns. ns ∷ []) (widths-more values ok)
  rets-more count (Goto place) ok = refl
  rets-more count (If test one other) ok = refl
  rets-more count (Switch e places) ok = refl
  rets-more count Stop ok = refl

-- Statements.

module _ (before after : Graph) (well : IsGraph before) (is : IsWithFresh before after) where
  -- the first graph's locations hold the same
  abbrev Same : Values → Values → Type 0
  Same v v' = (l : Loc) → is_location before.bits l ≡ true → v' l ≡ v l

  abbrev link : Link
  link place rest scene v' = Same scene.values v'

  abbrev Runs : State → State → Type 0
  Runs s t = RunAlike before after (λ scene v'. Same scene.values v') s t

  value-same : (s t : State) → Runs s t → (e : Expr) → is_expr before.bits e ≡ true → value_in t e ≡ value_in s e
  value-same s t h e ok =
      let P = ReadsSame (scene_of s) (scene_of t) h.outside.base h.outside.memory itself in
      ap (value_in t) (sym (renamed-itself e)) ∙ value-renamed (scene_of s) (scene_of t) h.outside.base h.outside.memory itself e
      (all_had P (reads_of e) (λ l c.
      let placed = All-contains (λ l. is_location before.bits l ≡ true) (reads_of e) l (reads_placed before.bits e ok) c in
      record {
        value = h.holds l placed;
        width = ap (λ (g : Graph). location_width g.bits l) h.second ∙ ap (λ bits. location_width bits l) is.bits
            ∙ width_more before.bits is.fresh l placed ∙ sym (ap (λ (g : Graph). location_width g.bits l) h.first);
      }))

  values-same : (s t : State) → Runs s t → (es : List Expr) → list_all (is_expr before.bits) es ≡ true → map (value_in t) es ≡ map (value_in s) es
  values-same s t h [] ok = refl
  values-same s t h (e ∷ es) ok =
      let parts = both (is_expr before.bits e) (list_all (is_expr before.bits) es) ok in
      ap₂ (λ n ns. n ∷ ns) (value-same s t h e parts.0) (values-same s t h es parts.1)

  value-of : (s t : State) → Runs s t → (width : ℕ) (e : Expr) → is_expr_of before.bits width e ≡ true → value_in t e ≡ value_in s e
  value-of s t h width e ok = value-same s t h e (both (is_expr before.bits e) (width_of before.bits e == width) ok).0

  set-same : (v v' : Values) (x : Loc) (n n' : ℕ) → n' ≡ n → Same v v' → Same (with_value v x n) (with_value v' x n')
  set-same v v' x n n' same h l ok = ap₂ (λ m k. if same_location l x then m else k) same (h l ok)

  results-same : (results : List Loc) (r : List ℕ) (v v' : Values) → Same v v' → Same (with_values v results r) (with_values v' results r)
  results-same [] r v v' h = h
  results-same (x ∷ results) [] v v' h = h
  results-same (x ∷ results) (n ∷ r) v v' h = results-same results r (with_value v x n) (with_value v' x n) (set-same v v' x n n refl h)

  division-same : (s t : State) → Runs s t → (width : ℕ) (e : Expr) → is_dividing before.bits width e ≡ true → division_of (scene_of t) e ≡ division_of (scene_of s) e
  division-same s t h width (Binary operator w a b) ok =
      let front = both (is_division operator && (w == width) && is_stored_width width && is_expr_of before.bits width a) (is_expr_of before.bits width b) ok in
      let first = both (is_division operator && (w == width) && is_stored_width width) (is_expr_of before.bits width a) front.0 in
      ap₂ (division_at operator w) (value-of s t h width a first.1) (value-of s t h width b front.1)
  division-same s t h width e ok = refl

  argument-same : (s t : State) → Runs s t → (number : ℕ) (place : Option Loc) (argument : Option Expr) → is_dos before.bits number place argument ≡ true → argument_in t argument ≡ argument_in s argument
  argument-same s t h number place None ok = refl
  argument-same s t h number (Some x) (Some e) ok = absurd (true≢false (sym ok))
  argument-same s t h number None (Some e) ok =
      elim (either ((number == 0x02 || number == 0x4C) && is_expr_of before.bits 8 e) ((number == 0x09) && is_expr_of before.bits 16 e) ok) [
        | inl byte ↦ value-of s t h 8 e (both (number == 0x02 || number == 0x4C) (is_expr_of before.bits 8 e) byte).1
        | inr address ↦ value-of s t h 16 e (both (number == 0x09) (is_expr_of before.bits 16 e) address).1
      ]

  does-same : (place : ℕ) (stmt : Stmt) (rest : List Stmt) → is_call stmt ≡ false → is_stmt before.bits stmt ≡ true → (s t : State) → Runs s t → DoAlike (link place rest) s t stmt stmt
  does-same place (Set x e) rest plain ok s t h =
      let parts = both (is_location before.bits x) (is_expr_of before.bits (location_width before.bits x) e) ok in
      set-same s.running.values t.running.values x _ _ (value-of s t h (location_width before.bits x) e parts.1) h.holds
  does-same place (Fetch x width a) rest plain ok s t h =
      let parts = both (is_location before.bits x && is_stored_width width && (location_width before.bits x == width)) (is_expr_of before.bits 16 a) ok in
      set-same s.running.values t.running.values x _ _ (ap₂ (λ m n. bytes_at m (width / 8) n) h.outside.memory (value-of s t h 16 a parts.1)) h.holds
  does-same place (Store width a e) rest plain ok s t h =
      let parts = both (is_stored_width width && is_expr_of before.bits 16 a) (is_expr_of before.bits width e) ok in
      let first = both (is_stored_width width) (is_expr_of before.bits 16 a) parts.0 in
      (refl, value-of s t h 16 a first.1, value-of s t h width e parts.1, h.holds)
  does-same place (Div x e) rest plain ok s t h =
      let parts = both (is_location before.bits x) (is_dividing before.bits (location_width before.bits x) e) ok in
      (division-same s t h (location_width before.bits x) e parts.1, λ n. set-same s.running.values t.running.values x n n refl h.holds)
  does-same place (Call results entry arguments depth) rest plain ok s t h = absurd (true≢false plain)
  does-same place (Dos number to argument) rest plain ok s t h = (refl, argument-same s t h number to argument ok, taken to, λ other. h.holds)
    where
      taken : (to : Option Loc) → TakeAlike (link place rest) (scene_of s) t.running.values to to
      taken (Some x) = λ n. set-same s.running.values t.running.values x n n refl h.holds
      taken None = h.holds

  -- a temporary that the first graph hasn't changes none of its locations
  fresh-same : (n m : ℕ) (v v' : Values) → is_location before.bits (Temp n) ≡ false → Same v v' → Same v (with_value v' (Temp n) m)
  fresh-same n m v v' none h l ok = go (same_location l (Temp n)) refl
    where
      go : (b : Bool) → same_location l (Temp n) ≡ b → (if b then m else v' l) ≡ v l
      go true same = absurd (true≢false (sym (subst (λ x. is_location before.bits x ≡ true) (location_same l (Temp n) same) ok) ∙ none))
      go false other = h l ok

  stmts-follow : (place : ℕ) (stmts news : List Stmt) → AreWithFresh before.bits stmts news → list_all (is_stmt before.bits) stmts ≡ true → IsFollowedBy before after (link place) stmts news
  stmts-follow place stmts news ended ok = done
  stmts-follow place stmts news (fresh_comes {temporary = n} {rest' = rest'} none w) ok =
      comes refl (λ s t h. fresh-same n _ s.running.values t.running.values none h.holds) (stmts-follow place stmts rest' w ok)
  stmts-follow place stmts news (stays {stmt = stmt} {rest = rest} {rest' = rest'} w) ok =
      let parts = both (is_stmt before.bits stmt) (list_all (is_stmt before.bits) rest) ok in
      go stmt parts.0 (stmts-follow place rest rest' w parts.1)
    where
      go : (stmt : Stmt) → is_stmt before.bits stmt ≡ true → IsFollowedBy before after (link place) rest rest' → IsFollowedBy before after (link place) (stmt ∷ rest) (stmt ∷ rest')
      go (Call results entry arguments depth) ok later =
          let two = both (list_all (is_location before.bits) results && list_all (is_expr before.bits) arguments) (nat_lt depth 65536) ok in
          let one = both (list_all (is_location before.bits) results) (list_all (is_expr before.bits) arguments) two.0 in
          calls (λ s t h. values-same s t h arguments one.1) (λ s t r h fit base memory. results-same results r s.running.values t.running.values h.holds) later
      go (Set x e) ok later = step refl refl (does-same place (Set x e) rest refl ok) later
      go (Fetch x width a) ok later = step refl refl (does-same place (Fetch x width a) rest refl ok) later
      go (Store width a e) ok later = step refl refl (does-same place (Store width a e) rest refl ok) later
      go (Div x e) ok later = step refl refl (does-same place (Div x e) rest refl ok) later
      go (Dos number to argument) ok later = step refl refl (does-same place (Dos number to argument) rest refl ok) later

  exits-same : (count : ℕ) (exit : Exit) → is_exit before.bits count exit ≡ true → (s t : State) → Runs s t → EndsAlike s t exit exit
  exits-same count (Goto to) ok s t h = refl
  exits-same count (If test one other) ok s t h =
      let two = both (is_expr_of before.bits 1 test && nat_lt one count) (nat_lt other count) ok in
      (value-of s t h 1 test (both (is_expr_of before.bits 1 test) (nat_lt one count) two.0).0, refl, refl)
  exits-same count (Switch e places) ok s t h =
      let two = both (is_expr_of before.bits 16 e && nat_le (length places) 65536) (list_all (λ place. nat_lt place count) places) ok in
      (value-of s t h 16 e (both (is_expr_of before.bits 16 e) (nat_le (length places) 65536) two.0).0, refl)
  exits-same count (Ret values) ok s t h = values-same s t h values ok
  exits-same count Stop ok s t h = tt

  -- the block at a place is well formed
  record Formed (block : Block) : Type 0 where
    stmts : list_all (is_stmt before.bits) block.stmts ≡ true
    exit : is_exit before.bits (length before.blocks) block.exit ≡ true

  formed : (place : ℕ) (block : Block) → slice_get before.blocks place ≡ Some block → Formed block
  formed place block found =
      let parts = both (list_all (is_stmt before.bits) block.stmts) (is_exit before.bits (length before.blocks) block.exit)
      (all_at (is_block before.bits (length before.blocks)) before.blocks block well.blocks (contained before.blocks place block found)) in
      record { stmts = parts.0; exit = parts.1 }

  block-follows : (place : ℕ) (block new : Block) → slice_get before.blocks place ≡ Some block → IsBlockWithFresh before.bits block new → IsFollowedByBlock before after link place block new
  block-follows place block new found pair =
      let fine = formed place block found in
      record {
        stmts = stmts-follow place block.stmts new.stmts pair.stmts fine.stmts;
        exit = λ s t h. subst (EndsAlike s t block.exit) (sym (ap (λ (b : Block). b.exit) pair.rest)) (exits-same (length before.blocks) block.exit fine.exit s t h);
        goes = λ to next s t goes there h base memory. h.holds;
      }

  params-same : after.params ≡ before.params
  params-same = ap (λ (g : Graph). g.params) is.frame

  fresh-begins : BeginsIn before after (linked before after link)
  fresh-begins fill base a s t fit outside opened opened' =
      let s' = passing 0 before.params a s in
      let Began = λ (params : List Param). let t' = passing 0 params a t in (t'.memory ≡ s'.memory) × linked before after link (start_of before.entry) s'.running.values t'.running.values in
      let Has : Loc → Type 0 = λ l. is_location before.bits l ≡ true in
      let writes : AreWrittenAs Has itself itself (param_places before.params) = record {
        taken = λ l c has. refl;
        apart = λ l other c has differ same. differ (sym same);
      } in
      subst Began (sym params-same) (subst Began (params-itself before.params) (
        taken-outside itself 0 before.params a s t outside.memory outside.base,
        λ block found at memory. taken-names Has itself itself (param_places before.params) writes 0 before.params a s t (λ x c. c)
            (λ l has. ap (λ (x : Activation). x.values l) opened' ∙ ap (λ bits. filled bits fill l) is.bits ∙ ap (λ w. fill_at w fill) (width_more before.bits is.fresh l has)
            ∙ sym (ap (λ (x : Activation). x.values l) opened)),
      ))

  block-kind : (place : ℕ) (block new : Block) → slice_get before.blocks place ≡ Some block → IsBlockWithFresh before.bits block new → BlockStaysInKind before.bits (before.bits ++ is.fresh) block new
  block-kind place block new found pair =
      let fine = formed place block found in
      let exit = ap (λ (b : Block). b.exit) pair.rest in
      record {
        at = ap (λ (b : Block). b.at) pair.rest;
        targets_are = ap targets exit;
        jumps = ap is_jump exit;
        given = ap (ret_widths (before.bits ++ is.fresh)) exit ∙ rets-more before.bits is.fresh (length before.blocks) block.exit fine.exit;
        calls = calls-more before.bits is.fresh block.stmts new.stmts pair.stmts fine.stmts;
      }

  fresh-kind : StaysInKind before after
  fresh-kind = record {
    entry = ap (λ (g : Graph). g.entry) is.frame;
    params = ap₂ (λ bits params. map (param_kind bits) params) is.bits params-same ∙ kinds-more before.bits is.fresh before.params well.params;
    local = ap (λ (g : Graph). g.local) is.frame;
    pushed = ap (λ (g : Graph). g.pushed) is.frame;
    blocks = kinds-zipped before.bits after.bits before.blocks after.blocks is.count
        (λ k b c found there. subst (λ bits. BlockStaysInKind before.bits bits b c) (sym is.bits) (block-kind k b c found (is.blocks k b c found there)));
  }

  fresh-follows : IsFollowedByGraph before after link
  fresh-follows = record {
    begins = fresh-begins;
    blocks = λ place block new found there. block-follows place block new found (is.blocks place block new found there);
  }

pub fresh-stands : (before after : Graph) → IsGraph before → IsWithFresh before after → IsGraph after → StandsFor before after
fresh-stands before after well is fine =
    followed-stands before after (link before after well is) (fresh-kind before after well is) fine (fresh-follows before after well is)
