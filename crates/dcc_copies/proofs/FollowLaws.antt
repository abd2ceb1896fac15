-- A graph with right names for its locations, and without copies of locations to their own names, stands for the graph.
use Rattle.std.proofs.Common.{◌≡◌, ℕ, zero, suc, Bool, true, false, ◌&&◌, List, [], ◌∷◌, ◌++◌, length, Option, Some, None, refl, sym, ap, ap₂, ◌∙◌, subst, true≢false, map, flat_map, option_map, slice_get, Contains, append-nil}
use Rattle.std.specs.Prelude.{if◌then◌else◌, ◌/◌, All, option_to_list}
use Rattle.std.specs.List.{list_all}
use Rattle.std.proofs.lemmas.Bool.{and_parts}
use Rattle.std.proofs.lemmas.List.{append_assoc}
use Rattle.std.proofs.lemmas.Option.{get_or_from_slice_get}
use Rattle.dcc_run.proofs.KeptLaws.{right_part}
use Rattle.dcc_ir.specs.declared.syntax.Loc.{Loc}
use Rattle.dcc_ir.specs.Tree.{Expr, Const, Get, Load, Unary, Binary, Widen, Part, Join, Choose, Address, Stmt, Set, Fetch, Store, Div, Call, Dos, Exit, Goto, If, Switch, Ret, Stop, Block, Graph}
use Rattle.dcc_ir.specs.Location.{location_width, same_location, Values, with_value}
use Rattle.dcc_ir.specs.Value.{bytes_at}
use Rattle.dcc_ir.specs.Use.{reads_of, exprs_of, writes_of, exit_exprs}
use Rattle.dcc_ir.specs.Live.{block_in}
use Rattle.dcc_ir.specs.Flow.{targets}
use Rattle.dcc_ir.specs.WellFormed.{is_stmt, is_exit, is_block, is_dos, is_byte_place, IsGraph}
use Rattle.dcc_ir.specs.Run.{State, Activation, scene_of, argument_in, no_block, is_call, passing}
use Rattle.dcc_ir.specs.Passes.{with_values}
use Rattle.dcc_ir.proofs.ListLaws.{all_had, left_part}
use Rattle.dcc_ir.proofs.ReachedLaws.{contained, all_at}
use Rattle.dcc_ir.proofs.passes.SameLaws.{taken_same}
use Rattle.dcc_passes.specs.Replaced.{StandsFor}
use Rattle.dcc_passes.specs.Following.{Link, TakeAlike, takes_key, DoAlike, EndsAlike, RunAlike, IsFollowedBy, done, both, calls, goes, IsFollowedByBlock, linked, IsFollowedByGraph}
use Rattle.dcc_passes.specs.Renaming.{renamed, renamed_stmt, renamed_exit}
use Rattle.dcc_passes.specs.OneGraph.{BeginsIn}
use Rattle.dcc_passes.proofs.FollowLaws.{followed-stands}
use Rattle.dcc_passes.proofs.RenamingLaws.{ReadsSame, value-renamed, values-renamed, division-renamed}
use Rattle.dcc_copies.specs.Held.{Held, is_own_copy, with_written, all_written, with_copied, held_after, held_after_all}
use Rattle.dcc_copies.specs.Settled.{settled_stmts, settled_block, settled, stmt_reads, end_reads, reads_are_held, IsRightBlock, IsRight}
use Rattle.dcc_copies.proofs.HeldLaws.{Same, written-same, given-same, copied-same, held-next, next-passed, none-passed}
use Rattle.dcc_copies.proofs.FormLaws.{settled-formed, settled-kind, own-no-call}

-- a well-formed DOS call that takes no byte has no place for one
no-place : (bits : List ℕ) (number : ℕ) (argument : Option Expr) (x : Loc) → is_dos bits number (Some x) argument ≡ true
    → takes_key number ≡ false → ⊥
no-place bits number (Some e) x formed other = true≢false (sym formed)
no-place bits number None x formed other = true≢false (sym formed ∙ ap (λ b. b && is_byte_place bits (Some x)) other)

-- a statement that copies a location to one of its name
record IsOwnCopy (name : Loc → Loc) (stmt : Stmt) : Type 0 where
  to : Loc
  from : Loc
  is : stmt ≡ Set to (Get from)
  own : same_location (name to) (name from) ≡ true

own-form : (name : Loc → Loc) (stmt : Stmt) → is_own_copy name stmt ≡ true → IsOwnCopy name stmt
own-form name (Set to (Get from)) own = record { to = to; from = from; is = refl; own = own }
own-form name (Set to (Const width n)) own = absurd (true≢false (sym own))
own-form name (Set to (Load width a)) own = absurd (true≢false (sym own))
own-form name (Set to (Unary operator width a)) own = absurd (true≢false (sym own))
own-form name (Set to (Binary operator width a b)) own = absurd (true≢false (sym own))
own-form name (Set to (Widen signed width a)) own = absurd (true≢false (sym own))
own-form name (Set to (Part width first a)) own = absurd (true≢false (sym own))
own-form name (Set to (Join high low)) own = absurd (true≢false (sym own))
own-form name (Set to (Choose test a b)) own = absurd (true≢false (sym own))
own-form name (Set to (Address distance)) own = absurd (true≢false (sym own))
own-form name (Fetch x width a) own = absurd (true≢false (sym own))
own-form name (Store width a e) own = absurd (true≢false (sym own))
own-form name (Div x e) own = absurd (true≢false (sym own))
own-form name (Call results entry arguments depth) own = absurd (true≢false (sym own))
own-form name (Dos number place argument) own = absurd (true≢false (sym own))

found-settled : (name : Loc → Loc) (blocks : List Block) (place : ℕ) (block new : Block) → slice_get blocks place ≡ Some block
    → slice_get (map (settled_block name) blocks) place ≡ Some new → new ≡ settled_block name block
found-settled name [] place block new found there = absurd (cc)
found-settled name (b ∷ blocks) zero block new found there = cc
found-settled name (b ∷ blocks) (suc place) block new found there = found-settled name blocks place block new found there

module _ (name : Loc → Loc) (before : Graph) (formed : IsGraph before) (right : IsRight name before) where
  abbrev after : Graph
  after = settled name before

  -- what is held after statements that begin the block at a place
  abbrev now : ℕ → List Stmt → Held
  now place passed = held_after_all name passed (right.begins place)

  -- what holds between the values before the last statements of the block at a place: where a location is held, its name
  -- has its value
  abbrev Holds : ℕ → List Stmt → Values → Values → Type 0
  Holds place rest v v' =
      (passed : List Stmt) → (block_in before place).stmts ≡ passed ++ rest → Same name (now place passed) v v'

  abbrev shares : Link
  shares place rest scene v' = Holds place rest scene.values v'

  module _ (place : ℕ) where
    -- whatever is held is read as its name with the same value
    reads-same : (rest : List Stmt) (s t : State) (h : RunAlike before after (shares place rest) s t) (held : Held)
        → Same name held s.running.values t.running.values → (ls : List Loc) → list_all held ls ≡ true
        → All (ReadsSame (scene_of s) (scene_of t) h.outside.base h.outside.memory name) ls
    reads-same rest s t h held same ls all =
        all_had (ReadsSame (scene_of s) (scene_of t) h.outside.base h.outside.memory name) ls (λ l c. record {
          value = same l (all_at held ls l all c);
          width =
              ap (λ (g : Graph). location_width g.bits (name l)) h.second ∙ right.widths l
              ∙ sym (ap (λ (g : Graph). location_width g.bits l) h.first);
        })

    module _ (passed : List Stmt) (stmt : Stmt) (rest : List Stmt) (is : (block_in before place).stmts ≡ passed ++ stmt ∷ rest) where
      abbrev here : Held
      here = now place passed

      -- what is held after the statement is so before the rest
      onward : (v v' : Values) → Same name (held_after name stmt here) v v' → Holds place rest v v'
      onward v v' same passed' is' =
          subst (λ p. Same name (now place p) v v') (sym (next-passed (block_in before place).stmts passed passed' stmt rest is is'))
          (subst (λ (held : Held). Same name held v v') (sym (held-next name passed stmt (right.begins place))) same)

      -- a statement that is no copy of a location to its own name
      plain : is_own_copy name stmt ≡ false → (v v' : Values) → Same name (all_written name (writes_of stmt) here) v v' → Holds place rest v v'
      plain other v v' same =
          onward v v' (subst (λ b. Same name (if b then with_copied stmt here else all_written name (writes_of stmt) here) v v') (sym other) same)

      -- its expressions have the same values
      exprs-same : (s t : State) (h : RunAlike before after (shares place (stmt ∷ rest)) s t) → list_all here (stmt_reads stmt) ≡ true
          → All (ReadsSame (scene_of s) (scene_of t) h.outside.base h.outside.memory name) (stmt_reads stmt)
      exprs-same s t h held = reads-same (stmt ∷ rest) s t h here (h.holds passed is) (stmt_reads stmt) held

      -- one location is written, where it is the only one
      one-written : is_own_copy name stmt ≡ false → (x : Loc) → writes_of stmt ≡ x ∷ [] → (n n' : ℕ) → n' ≡ n → (s t : State) → RunAlike before after (shares place (stmt ∷ rest)) s t
          → Holds place rest (with_value s.running.values x n) (with_value t.running.values (name x) n')
      one-written other x writes n n' equal s t h =
          plain other (with_value s.running.values x n) (with_value t.running.values (name x) n')
          (subst (λ xs. Same name (all_written name xs here) (with_value s.running.values x n) (with_value t.running.values (name x) n')) (sym writes)
          (written-same name x n n' here s.running.values t.running.values equal (h.holds passed is)))

      -- nothing is written
      none-written : is_own_copy name stmt ≡ false → writes_of stmt ≡ [] → (s t : State) → RunAlike before after (shares place (stmt ∷ rest)) s t
          → Holds place rest s.running.values t.running.values
      none-written other writes s t h =
          plain other s.running.values t.running.values (subst (λ xs. Same name (all_written name xs here) s.running.values t.running.values) (sym writes) (h.holds passed is))

    -- both statements do the same
    does-alike : (passed : List Stmt) (stmt : Stmt) (rest : List Stmt) (is : (block_in before place).stmts ≡ passed ++ stmt ∷ rest)
        → is_own_copy name stmt ≡ false → is_stmt before.bits stmt ≡ true → list_all (now place passed) (stmt_reads stmt) ≡ true → is_call stmt ≡ false
        → (s t : State) → RunAlike before after (shares place (stmt ∷ rest)) s t → DoAlike (shares place rest) s t stmt (renamed_stmt name name stmt)
    does-alike passed (Set x e) rest is other fine held plain s t h =
        one-written passed (Set x e) rest is other x refl _ _
        (value-renamed (scene_of s) (scene_of t) h.outside.base h.outside.memory name e
        (left_part (ReadsSame (scene_of s) (scene_of t) h.outside.base h.outside.memory name) (reads_of e) [] (exprs-same passed (Set x e) rest is s t h held))) s t h
    does-alike passed (Fetch x width a) rest is other fine held plain s t h =
        one-written passed (Fetch x width a) rest is other x refl _ _
        (ap₂ (λ m n. bytes_at m (width / 8) n) h.outside.memory
        (value-renamed (scene_of s) (scene_of t) h.outside.base h.outside.memory name a
        (left_part (ReadsSame (scene_of s) (scene_of t) h.outside.base h.outside.memory name) (reads_of a) [] (exprs-same passed (Fetch x width a) rest is s t h held)))) s t h
    does-alike passed (Store width a e) rest is other fine held plain s t h =
        let P = ReadsSame (scene_of s) (scene_of t) h.outside.base h.outside.memory name in
        let all = exprs-same passed (Store width a e) rest is s t h held in (
          refl,
          value-renamed (scene_of s) (scene_of t) h.outside.base h.outside.memory name a (left_part P (reads_of a) (reads_of e ++ []) all),
          value-renamed (scene_of s) (scene_of t) h.outside.base h.outside.memory name e (left_part P (reads_of e) [] (right_part P (reads_of a) (reads_of e ++ []) all)),
          none-written passed (Store width a e) rest is other refl s t h,
        )
    does-alike passed (Div x e) rest is other fine held plain s t h = (
      division-renamed (scene_of s) (scene_of t) h.outside.base h.outside.memory name e
          (left_part (ReadsSame (scene_of s) (scene_of t) h.outside.base h.outside.memory name) (reads_of e) [] (exprs-same passed (Div x e) rest is s t h held)),
      λ n. one-written passed (Div x e) rest is other x refl n n refl s t h,
    )
    does-alike passed (Call results entry arguments depth) rest is other fine held plain s t h = absurd (true≢false plain)
    does-alike passed (Dos number to argument) rest is other fine held plain s t h = (
      refl,
      told argument (exprs-same passed (Dos number to argument) rest is s t h held),
      taken to refl,
      λ keyless. none-written passed (Dos number to argument) rest is other (none to fine keyless) s t h,
    )
      where
        told : (argument : Option Expr) → All (ReadsSame (scene_of s) (scene_of t) h.outside.base h.outside.memory name) (flat_map reads_of (option_to_list argument))
            → argument_in t (option_map (renamed name) argument) ≡ argument_in s argument
        told (Some e) all = value-renamed (scene_of s) (scene_of t) h.outside.base h.outside.memory name e (left_part (ReadsSame (scene_of s) (scene_of t) h.outside.base h.outside.memory name) (reads_of e) [] all)
        told None all = refl

        taken : (to' : Option Loc) → to ≡ to' → TakeAlike (shares place rest) (scene_of s) t.running.values to' (option_map name to')
        taken (Some x) same = λ n. one-written passed (Dos number to argument) rest is other x (ap option_to_list same) n n refl s t h
        taken None same = none-written passed (Dos number to argument) rest is other (ap option_to_list same) s t h

        none : (to' : Option Loc) → is_dos before.bits number to' argument ≡ true → takes_key number ≡ false → option_to_list to' ≡ []
        none (Some x) fine keyless = absurd (no-place before.bits number argument x fine keyless)
        none None fine keyless = refl

    -- Statements follow.

    stmts-follow : (passed rest : List Stmt) → (block_in before place).stmts ≡ passed ++ rest → reads_are_held name rest (now place passed) ≡ true
        → list_all (is_stmt before.bits) rest ≡ true → IsFollowedBy before after (shares place) rest (settled_stmts name rest)
    stmts-follow passed [] is held fine = done
    stmts-follow passed (stmt ∷ rest) is held fine =
        let reads = and_parts (list_all (now place passed) (stmt_reads stmt)) (reads_are_held name rest (held_after name stmt (now place passed))) held in
        let parts = and_parts (is_stmt before.bits stmt) (list_all (is_stmt before.bits) rest) fine in
        by (is_own_copy name stmt) refl parts.0 reads.0
        (stmts-follow (passed ++ stmt ∷ []) rest (is ∙ sym (append_assoc passed (stmt ∷ []) rest))
        (subst (λ (h : Held). reads_are_held name rest h ≡ true) (sym (held-next name passed stmt (right.begins place))) reads.1) parts.1)
      where
        -- a copy of a location to its own name goes
        gone : IsOwnCopy name stmt → IsFollowedBy before after (shares place) rest (settled_stmts name rest)
            → IsFollowedBy before after (shares place) (stmt ∷ rest) (settled_stmts name rest)
        gone copy later =
            let is' = is ∙ ap (λ x. passed ++ x ∷ rest) copy.is in
            subst (λ x. IsFollowedBy before after (shares place) (x ∷ rest) (settled_stmts name rest)) (sym copy.is)
            (goes refl
            (λ s t h. onward passed (Set copy.to (Get copy.from)) rest is' (with_value s.running.values copy.to (s.running.values copy.from)) t.running.values
            (subst (λ b. Same name (if b then with_copied (Set copy.to (Get copy.from)) (now place passed) else with_written name copy.to (now place passed)) (with_value s.running.values copy.to (s.running.values copy.from)) t.running.values)
            (sym copy.own) (copied-same name copy.to copy.from (now place passed) s.running.values t.running.values copy.own (h.holds passed is')))) later)

        -- another statement stays
        stays : (x : Stmt) → (block_in before place).stmts ≡ passed ++ x ∷ rest → is_own_copy name x ≡ false → is_stmt before.bits x ≡ true
            → list_all (now place passed) (stmt_reads x) ≡ true → IsFollowedBy before after (shares place) rest (settled_stmts name rest)
            → IsFollowedBy before after (shares place) (x ∷ rest) (renamed_stmt name name x ∷ settled_stmts name rest)
        stays (Call results entry arguments depth) is other fine held later =
            calls
            (λ s t h. values-renamed (scene_of s) (scene_of t) h.outside.base h.outside.memory name arguments
            (exprs-same passed (Call results entry arguments depth) rest is s t h held))
            (λ s t r h fit base memory. plain passed (Call results entry arguments depth) rest is other (with_values s.running.values results r)
            (with_values t.running.values (map name results) r)
            (given-same name before.bits results r (now place passed) s.running.values t.running.values fit (h.holds passed is)))
            later
        stays (Set x e) is other fine held later = both refl refl (does-alike passed (Set x e) rest is other fine held refl) later
        stays (Fetch x width a) is other fine held later = both refl refl (does-alike passed (Fetch x width a) rest is other fine held refl) later
        stays (Store width a e) is other fine held later = both refl refl (does-alike passed (Store width a e) rest is other fine held refl) later
        stays (Div x e) is other fine held later = both refl refl (does-alike passed (Div x e) rest is other fine held refl) later
        stays (Dos number to argument) is other fine held later = both refl refl (does-alike passed (Dos number to argument) rest is other fine held refl) later

        by : (b : Bool) → is_own_copy name stmt ≡ b → is_stmt before.bits stmt ≡ true → list_all (now place passed) (stmt_reads stmt) ≡ true
            → IsFollowedBy before after (shares place) rest (settled_stmts name rest)
            → IsFollowedBy before after (shares place) (stmt ∷ rest) (if b then settled_stmts name rest else renamed_stmt name name stmt ∷ settled_stmts name rest)
        by true own fine held later = gone (own-form name stmt own) later
        by false other fine held later = stays stmt is other fine held later

    -- Ends of blocks.

    exits-alike : (exit : Exit) (held : Held) → list_all held (flat_map reads_of (exit_exprs exit)) ≡ true → (s t : State) (h : RunAlike before after (shares place []) s t)
        → Same name held s.running.values t.running.values → EndsAlike s t exit (renamed_exit name exit)
    exits-alike exit held all s t h same = go exit (reads-same [] s t h held same (flat_map reads_of (exit_exprs exit)) all)
      where
        P : Loc → Type 0
        P = ReadsSame (scene_of s) (scene_of t) h.outside.base h.outside.memory name

        go : (exit : Exit) → All P (flat_map reads_of (exit_exprs exit)) → EndsAlike s t exit (renamed_exit name exit)
        go (Goto to) all = refl
        go (If test one other) all = (value-renamed (scene_of s) (scene_of t) h.outside.base h.outside.memory name test (left_part P (reads_of test) [] all), refl, refl)
        go (Switch e places) all = (value-renamed (scene_of s) (scene_of t) h.outside.base h.outside.memory name e (left_part P (reads_of e) [] all), refl)
        go (Ret values) all = values-renamed (scene_of s) (scene_of t) h.outside.base h.outside.memory name values all
        go Stop all = tt

    block-follows : (block : Block) → block_in before place ≡ block → IsRightBlock name right.begins place block → list_all (is_stmt before.bits) block.stmts ≡ true
        → IsFollowedByBlock before after shares place block (settled_block name block)
    block-follows block here is fine = record {
      stmts = stmts-follow [] block.stmts (ap (λ (b : Block). b.stmts) here) is.stmts fine;
      exit = λ s t h. exits-alike block.exit (now place block.stmts) is.exit s t h (at-end s t h);
      goes = λ to next s t goes found h base memory passed begun l has.
          let there : block_in before to ≡ next = get_or_from_slice_get before.blocks to next no_block found in
          let none : passed ≡ [] = none-passed next.stmts passed (sym (ap (λ (b : Block). b.stmts) there) ∙ begun) in
          at-end s t h l (is.goes to goes l (subst (λ p. now to p l ≡ true) none has));
    }
      where
        at-end : (s t : State) → RunAlike before after (shares place []) s t → Same name (now place block.stmts) s.running.values t.running.values
        at-end s t h = h.holds block.stmts (ap (λ (b : Block). b.stmts) here ∙ sym (append-nil block.stmts))

  shares-begin : BeginsIn before after (linked before after shares)
  shares-begin fill base a s t fit outside opened opened' =
      let opens = taken_same 0 before.params a s t (record {
        values = λ l. ap (λ (x : Activation). x.values l) opened' ∙ sym (ap (λ (x : Activation). x.values l) opened);
        memory = outside.memory;
        base = outside.base;
      }) in (
        opens.memory,
        λ block found at memory passed begun l has.
            let here : block_in before 0 ≡ block = get_or_from_slice_get before.blocks 0 block no_block found in
            let none : passed ≡ [] = none-passed block.stmts passed (sym (ap (λ (b : Block). b.stmts) here) ∙ begun) in
            let own : name l ≡ l = right.start l (subst (λ p. now 0 p l ≡ true) none has) in
            subst (λ x. (passing 0 before.params a t).running.values x ≡ (passing 0 before.params a s).running.values l) (sym own) (opens.values l),
      )

  shares-follow : IsFollowedByGraph before after shares
  shares-follow = record {
    begins = shares-begin;
    blocks = λ place block new found there.
        let block-formed = all_at (is_block before.bits (length before.blocks)) before.blocks block formed.blocks (contained before.blocks place block found) in
        let stmts = (and_parts (list_all (is_stmt before.bits) block.stmts) (is_exit before.bits (length before.blocks) block.exit) block-formed).0 in
        subst (λ b. IsFollowedByBlock before after shares place block b) (sym (found-settled name before.blocks place block new found there))
        (block-follows place block (get_or_from_slice_get before.blocks place block no_block found) (right.blocks place block found) stmts);
  }

pub settled-stands : (before : Graph) (name : Loc → Loc) → IsGraph before → IsRight name before → StandsFor before (settled name before)
settled-stands before name formed right =
    followed-stands before (settled name before) (shares name before formed right) (settled-kind before name right) (settled-formed before name formed right)
    (shares-follow name before formed right)
