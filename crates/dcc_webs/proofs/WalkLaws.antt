-- Steps of the walk over all blocks.
use Rattle.std.proofs.Common.{◌≡◌, ℕ, zero, suc, ◌+◌, ◌<◌, ◌≤◌, List, [], ◌∷◌, ◌++◌, length, get_or, slice_get, slice_set, map, take, drop, Some, inl, inr, refl, sym, ap, ◌∙◌, subst, arith}
use Rattle.std.specs.Prelude.{Option}
use Rattle.std.proofs.lemmas.Bool.{cases_eq}
use Rattle.std.proofs.lemmas.Option.{slice_get-get_or}
use Rattle.std.proofs.lemmas.List.{drop_more, drop_all, take_all, append-nil, length-map, get_or_append_left, get_or_push, get_or_read, get_or-map}
use Rattle.dcc_ir.specs.declared.syntax.Stmt.{Stmt as Statement}
use Rattle.dcc_ir.specs.declared.syntax.Block.{Block as BlockOf}
use Rattle.dcc_ir.specs.Views.{stmt_of, block_of}
use Rattle.dcc_flow.specs.declared.access.Access.{Access as AccessOf}
use Rattle.dcc_live.proofs.RowLaws.{map_read}
use Rattle.dcc_ir.specs.declared.syntax.Loc.{Loc}
use Rattle.dcc_ir.specs.Tree.{Stmt, Block}
use Rattle.dcc_flow.specs.Access.{Access, BlockAccess, access_in, access_of, block_access_of}
use Rattle.std.specs.Global.{Vec}
use Rattle.dcc_webs.specs.Classes.{JoinMore}
use Rattle.dcc_webs.specs.Names.{Names, before_one, before_all, before_block}
use Rattle.dcc_webs.specs.Walk.{Facts, no_access, live_at, begin_names, last_names, origins_before, base, link_of, link_from, links_upto, links_along, edge_links, links_to, links_into, block_links, links_before, all_links}
use Rattle.dcc_webs.specs.Split.{stmt_over, stmts_over, block_over, blocks_over}
use Rattle.dcc_webs.proofs.ClassLaws.{joins_then}
use Rattle.dcc_webs.proofs.StepLaws.{last_read, last_step}

-- one number more is linked along an edge
pub along_step : (names : Names) (begin end : ℕ) (live : List Loc) (i : ℕ) (d : Loc) (o : Option ℕ) (before between after : List ℕ) → i < length live → o ≡ names.number (get_or live i d) → JoinMore before (links_upto names begin end live i) between
    → JoinMore between (link_of o (begin + i) end) after → JoinMore before (links_upto names begin end live (i + 1)) after
along_step names begin end live i d o before between after inside is first second =
    let there : slice_get live i ≡ Some (get_or live i d) = slice_get-get_or live i d inside in
    let link : link_of o (begin + i) end ≡ link_from names (begin + i) end (slice_get live i) = ap (λ n. link_of n (begin + i) end) is ∙ sym (ap (link_from names (begin + i) end) there) in
    let next : suc i ≡ i + 1 = omega arith in
    subst (λ k. JoinMore before (links_upto names begin end live k) after) next
    (joins_then before between after (links_upto names begin end live i) (link_from names (begin + i) end (slice_get live i)) first (subst (λ m. JoinMore between m after) link second))

pub along_end : (names : Names) (begin end : ℕ) (live : List Loc) (i : ℕ) (before after : List ℕ) → i ≡ length live → JoinMore before (links_upto names begin end live i) after → JoinMore before (links_along names begin end live) after
along_end names begin end live i before after all joins = subst (λ k. JoinMore before (links_upto names begin end live k) after) all joins

-- the links of an edge by what the code has of it
pub edge_is : (facts : Facts) (to from : ℕ) (names : Names) (begin end : ℕ) (live : List Loc) (before after : List ℕ) → names ≡ begin_names facts to → begin ≡ base facts from → end ≡ base facts to → live ≡ live_at facts from
    → JoinMore before (links_along names begin end live) after → JoinMore before (edge_links facts to from) after
edge_is facts to from names begin end live before after a b c d joins =
    subst (λ m. JoinMore before m after) (ap (λ (n : Names). links_along n begin end live) a ∙ ap (λ k. links_along (begin_names facts to) k end live) b
    ∙ ap (λ k. links_along (begin_names facts to) (base facts from) k live) c ∙ ap (links_along (begin_names facts to) (base facts from) (base facts to)) d) joins

-- one edge more into a block
pub into_step : (facts : Facts) (to i from : ℕ) (before between after : List ℕ) → i < length (get_or facts.preds to []) → from ≡ get_or (get_or facts.preds to []) i 0 → JoinMore before (links_into facts to i) between
    → JoinMore between (edge_links facts to from) after → JoinMore before (links_into facts to (i + 1)) after
into_step facts to i from before between after inside read first second =
    let preds = get_or facts.preds to [] in
    let there : slice_get preds i ≡ Some from = slice_get-get_or preds i 0 inside ∙ ap Some (sym read) in
    let next : suc i ≡ i + 1 = omega arith in
    subst (λ k. JoinMore before (links_into facts to k) after) next
    (joins_then before between after (links_into facts to i) (links_to facts to (slice_get preds i)) first (subst (λ m. JoinMore between m after) (sym (ap (links_to facts to) there)) second))

pub into_end : (facts : Facts) (to i : ℕ) (before after : List ℕ) → i ≡ length (get_or facts.preds to []) → JoinMore before (links_into facts to i) after → JoinMore before (block_links facts to) after
into_end facts to i before after all joins = subst (λ k. JoinMore before (links_into facts to k) after) all joins

-- one block more
pub all_step : (facts : Facts) (place : ℕ) (before between after : List ℕ) → JoinMore before (links_before facts place) between → JoinMore between (block_links facts place) after → JoinMore before (links_before facts (place + 1)) after
all_step facts place before between after first second =
    let next : suc place ≡ place + 1 = omega arith in
    subst (λ k. JoinMore before (links_before facts k) after) next (joins_then before between after (links_before facts place) (block_links facts place) first second)

pub all_end : (facts : Facts) (place : ℕ) (before after : List ℕ) → place ≡ length facts.accesses → JoinMore before (links_before facts place) after → JoinMore before (all_links facts) after
all_end facts place before after all joins = subst (λ k. JoinMore before (links_before facts k) after) all joins

-- Where the numbers of blocks begin.

pub record BasesBelow (facts : Facts) (bases : List ℕ) (origins : List Loc) (place : ℕ) : Type 0 where
  pub count : length bases ≡ place
  pub bases_are : (k : ℕ) → k < place → get_or bases k 0 ≡ base facts k
  pub origins_are : origins ≡ origins_before facts place

pub base_step : (facts : Facts) (bases : List ℕ) (origins origins' : List Loc) (place n : ℕ) (names : Names) → n ≡ length origins → names ≡ last_names facts place → origins' ≡ origins ++ names.origins
    → BasesBelow facts bases origins place → BasesBelow facts (bases ++ n ∷ []) origins' (place + 1)
base_step facts bases origins origins' place n names size is more below =
    let next : suc place ≡ place + 1 = omega arith in
    subst (BasesBelow facts (bases ++ n ∷ []) origins') next (record {
      count = length_end bases n ∙ ap suc below.count;
      bases_are = λ k less. elim (cases_eq k place) [
        | inl same ↦ get_or_push bases n 0 k (below.count ∙ sym same) ∙ size ∙ ap length below.origins_are ∙ ap (base facts) (sym same)
        | inr other ↦ get_or_append_left bases (n ∷ []) 0 k (omega (arith, less, other, below.count)) ∙ below.bases_are k (omega (arith, less, other))
      ];
      origins_are = more ∙ ap (λ o. o ++ names.origins) below.origins_are ∙ ap (λ (x : Names). origins_before facts place ++ x.origins) is;
    })
  where
    length_end : (xs : List ℕ) (x : ℕ) → length (xs ++ x ∷ []) ≡ suc (length xs)
    length_end [] x = refl
    length_end (y ∷ xs) x = ap suc (length_end xs x)

-- What is renamed from the last one on.

-- the statements from a place on are renamed, and the numbers are those before them
pub record StmtsFrom (temps : List ℕ) (b : ℕ) (names0 : Names) (ys : List Stmt) (xs : List Statement) (names : Names) (at : ℕ) : Type 0 where
  pub inside : at ≤ length ys
  pub are : map stmt_of xs ≡ take at ys ++ stmts_over temps b names0 (drop at ys)
  pub names_are : names ≡ before_all (map access_of (drop at ys)) names0

pub stmts_count : (temps : List ℕ) (b : ℕ) (names0 : Names) (ys : List Stmt) → length (stmts_over temps b names0 ys) ≡ length ys
stmts_count temps b names0 [] = refl
stmts_count temps b names0 (y ∷ ys) = ap suc (stmts_count temps b names0 ys)

split_length : (at : ℕ) (ys : List Stmt) (zs : List Stmt) → at ≤ length ys → length zs ≡ length (drop at ys) → length (take at ys ++ zs) ≡ length ys
split_length zero ys zs le e = e
split_length (suc at) [] zs le e = absurd (omega arith)
split_length (suc at) (y ∷ ys) zs le e = ap suc (split_length at ys zs (omega arith) e)

pub stmts_size : (temps : List ℕ) (b : ℕ) (names0 : Names) (ys : List Stmt) (xs : List Statement) (names : Names) (at : ℕ) → StmtsFrom temps b names0 ys xs names at → length xs ≡ length ys
stmts_size temps b names0 ys xs names at from =
    sym (length-map xs stmt_of) ∙ ap length from.are ∙ split_length at ys (stmts_over temps b names0 (drop at ys)) from.inside (stmts_count temps b names0 (drop at ys))

pub stmts_begin : (temps : List ℕ) (b : ℕ) (names0 : Names) (xs : List Statement) (at : ℕ) → at ≡ length xs → StmtsFrom temps b names0 (map stmt_of xs) xs names0 at
stmts_begin temps b names0 xs at e =
    let size : at ≡ length (map stmt_of xs) = e ∙ sym (length-map xs stmt_of) in
    let none : drop at (map stmt_of xs) ≡ [] = drop_all at (map stmt_of xs) (omega (arith, size)) in
    record {
      inside = omega (arith, size);
      are = sym (append-nil (map stmt_of xs)) ∙ ap (λ l. l ++ []) (sym (take_all at (map stmt_of xs) (omega (arith, size)))) ∙ ap (λ l. take at (map stmt_of xs) ++ stmts_over temps b names0 l) (sym none);
      names_are = sym (ap (λ l. before_all (map access_of l) names0) none);
    }

-- what stands at the place before
pub stmt_there : (temps : List ℕ) (b : ℕ) (names0 : Names) (ys : List Stmt) (xs : List Statement) (names : Names) (at k : ℕ) (old : Statement) → at ≡ suc k → old ≡ get_or xs k old → StmtsFrom temps b names0 ys xs names at → stmt_of old ≡ get_or ys k (stmt_of old)
stmt_there temps b names0 ys xs names at k old e read from =
    let size = stmts_size temps b names0 ys xs names at from in
    last_read stmt_of xs k old ys (stmts_over temps b names0 (drop at ys)) (omega (arith, e, from.inside)) (omega (arith, e, from.inside, size)) read (from.are ∙ ap (λ n. take n ys ++ stmts_over temps b names0 (drop at ys)) e)

pub access_there : (accesses : List AccessOf) (ys : List Stmt) (a : AccessOf) (s : Stmt) (k : ℕ) → map access_in accesses ≡ map access_of ys → k < length ys → a ≡ get_or accesses k a → s ≡ get_or ys k s → access_in a ≡ access_of s
access_there accesses ys a s k same inside read is =
    let size : length accesses ≡ length ys = sym (length-map accesses access_in) ∙ ap length same ∙ length-map ys access_of in
    map_read access_in accesses k a (omega (arith, inside, size)) read ∙ ap (λ l. get_or l k (access_in a)) same ∙ get_or-map access_of ys k s (access_in a) inside ∙ ap access_of (sym is)

pub stmts_turn : (temps : List ℕ) (b : ℕ) (names0 : Names) (ys : List Stmt) (xs : List Statement) (names names' : Names) (access : Access) (at k : ℕ) (old new : Statement) → at ≡ suc k → old ≡ get_or xs k old
    → stmt_of new ≡ stmt_over temps b names (stmt_of old) → access ≡ access_of (stmt_of old) → names' ≡ before_one access names → StmtsFrom temps b names0 ys xs names at → StmtsFrom temps b names0 ys (slice_set xs k new) names' k
stmts_turn temps b names0 ys xs names names' access at k old new e read made told passed from =
    let inside : k < length ys = omega (arith, e, from.inside) in
    let there = stmt_there temps b names0 ys xs names at k old e read from in
    let d = stmt_of old in
    let next : k + 1 ≡ suc k = omega arith in
    let more : drop k ys ≡ d ∷ drop (suc k) ys = drop_more ys k d inside ∙ ap (λ s. s ∷ drop (k + 1) ys) (sym there) ∙ ap (λ n. d ∷ drop n ys) next in
    let are : map stmt_of xs ≡ take (suc k) ys ++ stmts_over temps b names0 (drop (suc k) ys) = from.are ∙ ap (λ n. take n ys ++ stmts_over temps b names0 (drop n ys)) e in
    let names_are : names ≡ before_all (map access_of (drop (suc k) ys)) names0 = from.names_are ∙ ap (λ n. before_all (map access_of (drop n ys)) names0) e in
    record {
      inside = omega (arith, inside);
      are = last_step stmt_of xs k old new ys (stmts_over temps b names0 (drop (suc k) ys)) (stmt_over temps b (before_all (map access_of (drop (suc k) ys)) names0) d) inside read (made ∙ ap (λ (n : Names). stmt_over temps b n d) names_are) are
          ∙ ap (λ l. take k ys ++ stmts_over temps b names0 l) (sym more);
      names_are = passed ∙ ap (λ (a : Access). before_one a names) told ∙ ap (before_one (access_of d)) names_are ∙ sym (ap (λ l. before_all (map access_of l) names0) more);
    }

-- all statements are renamed
pub stmts_done : (temps : List ℕ) (b : ℕ) (names0 : Names) (ys : List Stmt) (xs : List Statement) (names : Names) (at : ℕ) → at ≡ 0 → StmtsFrom temps b names0 ys xs names at
    → (map stmt_of xs ≡ stmts_over temps b names0 ys) × (names ≡ before_all (map access_of ys) names0)
stmts_done temps b names0 ys xs names at e from =
    let last = subst (StmtsFrom temps b names0 ys xs names) e from in
    (last.are, last.names_are)

-- the blocks from a place on are renamed, and the numbers are those before the first of them
pub record BlocksFrom (temps : List ℕ) (facts : Facts) (ys : List Block) (xs : List BlockOf) (names : Names) (at : ℕ) : Type 0 where
  pub inside : at ≤ length ys
  pub are : map block_of xs ≡ take at ys ++ blocks_over temps facts at (drop at ys)
  pub names_are : at < length ys → names ≡ begin_names facts at

pub blocks_begin : (temps : List ℕ) (facts : Facts) (xs : List BlockOf) (names : Names) (at : ℕ) → at ≡ length xs → BlocksFrom temps facts (map block_of xs) xs names at
blocks_begin temps facts xs names at e =
    let size : at ≡ length (map block_of xs) = e ∙ sym (length-map xs block_of) in
    let none : drop at (map block_of xs) ≡ [] = drop_all at (map block_of xs) (omega (arith, size)) in
    record {
      inside = omega (arith, size);
      are = sym (append-nil (map block_of xs)) ∙ ap (λ l. l ++ []) (sym (take_all at (map block_of xs) (omega (arith, size)))) ∙ ap (λ l. take at (map block_of xs) ++ blocks_over temps facts at l) (sym none);
      names_are = λ less. absurd (omega (arith, less, size));
    }

pub block_there : (temps : List ℕ) (facts : Facts) (ys : List Block) (xs : List BlockOf) (names : Names) (at k : ℕ) (old : BlockOf) → at ≡ suc k → k < length xs → old ≡ get_or xs k old → BlocksFrom temps facts ys xs names at → block_of old ≡ get_or ys k (block_of old)
block_there temps facts ys xs names at k old e within read from =
    last_read block_of xs k old ys (blocks_over temps facts at (drop at ys)) (omega (arith, e, from.inside)) within read (from.are ∙ ap (λ n. take n ys ++ blocks_over temps facts at (drop at ys)) e)

pub blocks_turn : (temps : List ℕ) (facts : Facts) (ys : List Block) (xs : List BlockOf) (names names' : Names) (b at k : ℕ) (old new : BlockOf) → at ≡ suc k → k < length xs → old ≡ get_or xs k old → b ≡ base facts k
    → block_of new ≡ block_over temps b (live_at facts k) (block_of old) → names' ≡ begin_names facts k → BlocksFrom temps facts ys xs names at → BlocksFrom temps facts ys (slice_set xs k new) names' k
blocks_turn temps facts ys xs names names' b at k old new e within read is made passed from =
    let inside : k < length ys = omega (arith, e, from.inside) in
    let there = block_there temps facts ys xs names at k old e within read from in
    let d = block_of old in
    let next : k + 1 ≡ suc k = omega arith in
    let more : drop k ys ≡ d ∷ drop (suc k) ys = drop_more ys k d inside ∙ ap (λ s. s ∷ drop (k + 1) ys) (sym there) ∙ ap (λ n. d ∷ drop n ys) next in
    let are : map block_of xs ≡ take (suc k) ys ++ blocks_over temps facts (suc k) (drop (suc k) ys) = from.are ∙ ap (λ n. take n ys ++ blocks_over temps facts n (drop n ys)) e in
    record {
      inside = omega (arith, inside);
      are = last_step block_of xs k old new ys (blocks_over temps facts (suc k) (drop (suc k) ys)) (block_over temps (base facts k) (live_at facts k) d) inside read (made ∙ ap (λ n. block_over temps n (live_at facts k) d) is) are
          ∙ ap (λ l. take k ys ++ blocks_over temps facts k l) (sym more);
      names_are = λ less. passed;
    }

-- all blocks are renamed
pub blocks_done : (temps : List ℕ) (facts : Facts) (ys : List Block) (xs : List BlockOf) (names : Names) (at : ℕ) → at ≡ 0 → 0 < length ys → BlocksFrom temps facts ys xs names at
    → (map block_of xs ≡ blocks_over temps facts 0 ys) × (names ≡ begin_names facts 0)
blocks_done temps facts ys xs names at e some from =
    let last = subst (BlocksFrom temps facts ys xs names) e from in
    (last.are, last.names_are some)

-- The numbers before a block, by what the code has of it.

pub begin_so : (facts : Facts) (place : ℕ) (access : BlockAccess) (live : List Loc) → access ≡ get_or facts.accesses place no_access → live ≡ live_at facts place → before_block live access ≡ begin_names facts place
begin_so facts place access live is there = ap (λ (a : BlockAccess). before_block live a) is ∙ ap (λ l. before_block l (get_or facts.accesses place no_access)) there

-- what the code has of a block
pub block_access_there : (accesses : List BlockAccess) (ys : List Block) (k : ℕ) (old : BlockOf) → accesses ≡ map block_access_of ys → k < length ys → block_of old ≡ get_or ys k (block_of old)
    → get_or accesses k no_access ≡ block_access_of (block_of old)
block_access_there accesses ys k old same inside is = ap (λ l. get_or l k no_access) same ∙ get_or-map block_access_of ys k (block_of old) no_access inside ∙ ap block_access_of (sym is)

-- what is read at a place of lists
pub live_read : (lists : List (Vec Loc)) (k : ℕ) (v : Vec Loc) (live : List Loc) → k < length lists → v ≡ get_or lists k v → live ≡ v.items → live ≡ get_or (map (λ (x : Vec Loc). x.items) lists) k []
live_read lists k v live inside read is =
    is ∙ get_or_read (map (λ (x : Vec Loc). x.items) lists) k v.items (omega (arith, inside, length-map lists (λ (x : Vec Loc). x.items))) (map_read (λ (x : Vec Loc). x.items) lists k v inside read) []
