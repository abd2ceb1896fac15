-- The program in which what passes together is one value is well formed: its graphs, its calls and itself.
use Rattle.std.proofs.Common.{◌≡◌, ℕ, Bool, true, false, ◌&&◌, ◌||◌, not, List, [], ◌∷◌, ◌++◌, refl, sym, ap, ap₂, ◌∙◌, subst, true≢false, map, flat_map}
use Rattle.std.specs.Prelude.{if◌then◌else◌, ◌==◌, nat_lt, All}
use Rattle.std.specs.List.{list_all, list_any}
use Rattle.std.proofs.lemmas.List.Elements.{All-nil, All-cons, All-head, All-tail, All-append}
use Rattle.dcc_ir.specs.declared.syntax.Loc.{Loc}
use Rattle.dcc_ir.specs.declared.syntax.Loc.TheVariants.{Half}
use Rattle.dcc_num.specs.declared.Half.TheVariants.{Low}
use Rattle.dcc_ir.specs.declared.syntax.Put.{Put}
use Rattle.dcc_ir.specs.declared.syntax.Put.TheVariants.{Memory, One, Two}
use Rattle.dcc_ir.specs.declared.syntax.Param.{Param}
use Rattle.dcc_ir.specs.Tree.{Expr, Get, Stmt, Call, Exit, Goto, If, Switch, Ret, Stop, Block, Program, Summary}
use Rattle.dcc_ir.specs.Location.{location_width}
use Rattle.dcc_ir.specs.Value.{width_of}
use Rattle.dcc_ir.specs.Use.{got_by}
use Rattle.dcc_ir.specs.WellFormed.{is_location, is_expr, is_stmt, is_exit, is_block, is_jump, jumps_after_call, is_put, put_width, is_memory, is_param_list, memory_params_last, ret_widths}
use Rattle.dcc_ir.specs.Run.{is_call}
use Rattle.dcc_ir.specs.Passing.{param_of, is_word_put}
use Rattle.dcc_ir.proofs.FitLaws.{both}
use Rattle.dcc_ir.proofs.passes.FormLaws.{width_more}
use Rattle.dcc_flow.proofs.FormedExprs.{and_both}
use Rattle.dcc_flags.proofs.ExprLaws.{location_more}
use Rattle.dcc_sums.specs.Localised.{GivesJust, CallsJust}
use Rattle.dcc_signatures.specs.declared.packing.Fresh.{Fresh}
use Rattle.dcc_signatures.specs.declared.packing.Packing.{Packing}
use Rattle.dcc_signatures.specs.declared.packing.Packing.TheVariants.{Apart, Word, Double}
use Rattle.dcc_signatures.specs.Packed.{merged, param_with, one_argument, packing_of, one_value, value_places}
use Rattle.dcc_signatures.specs.Packed.{taking_part, taking_parts, pack_stmt, pack_exit, pack_block, fresh_after}
use Rattle.dcc_signatures.proofs.MoreLaws.{stmt_more, exit_more, exprs_more}
use Rattle.dcc_signatures.proofs.PutLaws.{halves_are, IsGood}
use Rattle.dcc_signatures.proofs.OneLaws.{Form}
use Rattle.dcc_signatures.proofs.PassLaws.{gets_got, AllJust}
use Rattle.dcc_signatures.proofs.FormedLaws.{all_joined, merged-all, two_more, widths_of, one-widths, places-formed}
use Rattle.dcc_signatures.proofs.FormedLaws.{parts-formed, one-formed, argument-formed}

-- Params.

-- what holds of all params that are no words, whatever they are
tail_all : (f : Param → Bool) (ws qs rs : List Param) → list_all f qs ≡ true → list_all f rs ≡ true → list_all f (ws ++ qs) ≡ list_all f (ws ++ rs)
tail_all f [] qs rs p q = p ∙ sym q
tail_all f (w ∷ ws) qs rs p q = ap (λ b. f w && b) (tail_all f ws qs rs p q)

module _ (P : Loc → Type 0) where
  -- a test that all params pass that are no words
  pub puts_all : (f : Param → Bool) → ((q : Put) → IsGood P q → f (param_with q) ≡ true) → (qs : List Put) → All (IsGood P) qs → list_all f (map param_with qs) ≡ true
  puts_all f ok [] good = refl
  puts_all f ok (q ∷ qs) good = and_both (f (param_with q)) (list_all f (map param_with qs)) (ok q (All-head (IsGood P) q qs good)) (puts_all f ok qs (All-tail (IsGood P) q qs good))

  not_memory : (q : Put) → IsGood P q → is_memory q ≡ false
  not_memory Memory good = absurd good
  not_memory (One l) good = refl
  not_memory (Two low high) good = refl

  list_of_puts : (bits : List ℕ) (qs : List Put) → All (IsGood P) qs → is_param_list bits (map param_with qs) ≡ true
  list_of_puts bits [] good = refl
  list_of_puts bits (q ∷ qs) good =
      and_both (not (is_memory q) && list_all (λ (r : Param). not r.stack) (map param_with qs)) (is_param_list bits (map param_with qs))
      (and_both (not (is_memory q)) (list_all (λ (r : Param). not r.stack) (map param_with qs)) (ap not (not_memory q (All-head (IsGood P) q qs good)))
      (puts_all (λ r. not r.stack) (λ _ _. refl) qs (All-tail (IsGood P) q qs good))) (list_of_puts bits qs (All-tail (IsGood P) q qs good))

  pub last_of_puts : (qs : List Put) → All (IsGood P) qs → memory_params_last (map param_with qs) ≡ true
  last_of_puts [] good = refl
  last_of_puts (q ∷ qs) good =
      and_both (not (is_memory q) || list_all (λ (r : Param). not r.stack || is_memory r.put) (map param_with qs)) (memory_params_last (map param_with qs))
      (ap (λ b. not b || list_all (λ (r : Param). not r.stack || is_memory r.put) (map param_with qs)) (not_memory q (All-head (IsGood P) q qs good))) (last_of_puts qs (All-tail (IsGood P) q qs good))

pub word_width : (bits : List ℕ) (q : Put) → is_word_put q ≡ true → put_width bits q ≡ 16
word_width bits Memory e = refl
word_width bits (Two low high) e = refl
word_width bits (One l) e = absurd (true≢false (sym e))

pub listed : (P : Loc → Type 0) (bits : List ℕ) (ws : List Param) (qs : List Put) → list_all (λ w. w.stack && is_word_put w.put) ws ≡ true → All (IsGood P) qs → is_param_list bits (ws ++ map param_with qs) ≡ true
listed P bits [] qs stack good = list_of_puts P bits qs good
listed P bits (w ∷ ws) qs stack good =
    let parts = both (w.stack && is_word_put w.put) (list_all (λ (x : Param). x.stack && is_word_put x.put) ws) stack in
    let two = both w.stack (is_word_put w.put) parts.0 in
    let rest = ws ++ map param_with qs in
    and_both (if w.stack then put_width bits w.put == 16 else (not (is_memory w.put) && list_all (λ (r : Param). not r.stack) rest)) (is_param_list bits rest)
    (ap (λ b. if b then put_width bits w.put == 16 else (not (is_memory w.put) && list_all (λ (r : Param). not r.stack) rest)) two.0 ∙ ap (λ n. n == 16) (word_width bits w.put two.1))
    (listed P bits ws qs parts.1 good)

-- the params in memory stay the last ones
pub last_still : (ws qs rs : List Param) → list_all (λ r. not r.stack || is_memory r.put) qs ≡ true → list_all (λ r. not r.stack || is_memory r.put) rs ≡ true →
    memory_params_last qs ≡ true → memory_params_last rs ≡ true → memory_params_last (ws ++ qs) ≡ memory_params_last (ws ++ rs)
last_still [] qs rs p q m n = m ∙ sym n
last_still (w ∷ ws) qs rs p q m n =
    ap₂ (λ a b. (not (is_memory w.put) || a) && b) (tail_all (λ r. not r.stack || is_memory r.put) ws qs rs p q) (last_still ws qs rs p q m n)

pub ones_all : (f : Param → Bool) → ((l : Loc) → f (param_of l) ≡ true) → (ls : List Loc) → list_all f (map param_of ls) ≡ true
ones_all f ok [] = refl
ones_all f ok (l ∷ ls) = and_both (f (param_of l)) (list_all f (map param_of ls)) (ok l) (ones_all f ok ls)

pub ones_last : (ls : List Loc) → memory_params_last (map param_of ls) ≡ true
ones_last [] = refl
ones_last (l ∷ ls) = ones_last ls

-- a put stays well formed
put_still : (bits fresh : List ℕ) (q : Put) → is_put bits q ≡ true → is_put (bits ++ fresh) q ≡ true
put_still bits fresh Memory ok = refl
put_still bits fresh (One l) ok = location_more bits fresh l ok
put_still bits fresh (Two low high) ok =
    let more = bits ++ fresh in
    let three = both (is_location bits low && is_location bits high && (location_width bits low == 8)) (location_width bits high == 8) ok in
    let two = both (is_location bits low && is_location bits high) (location_width bits low == 8) three.0 in
    let one = both (is_location bits low) (is_location bits high) two.0 in
    and_both (is_location more low && is_location more high && (location_width more low == 8)) (location_width more high == 8)
    (and_both (is_location more low && is_location more high) (location_width more low == 8) (and_both (is_location more low) (is_location more high) (location_more bits fresh low one.0) (location_more bits fresh high one.1))
    (ap (λ n. n == 8) (width_more bits fresh low one.0) ∙ two.1)) (ap (λ n. n == 8) (width_more bits fresh high one.1) ∙ three.1)

pub words_still : (bits fresh : List ℕ) (ws qs : List Param) → list_all (λ q. is_put bits q.put) (ws ++ qs) ≡ true → (list_all (λ q. is_put (bits ++ fresh) q.put) ws ≡ true) × (list_all (λ q. is_put bits q.put) qs ≡ true)
words_still bits fresh [] qs ok = (refl, ok)
words_still bits fresh (w ∷ ws) qs ok =
    let parts = both (is_put bits w.put) (list_all (λ (q : Param). is_put bits q.put) (ws ++ qs)) ok in
    let rest = words_still bits fresh ws qs parts.1 in
    (and_both (is_put (bits ++ fresh) w.put) (list_all (λ (q : Param). is_put (bits ++ fresh) q.put) ws) (put_still bits fresh w.put parts.0) rest.0, rest.1)

pub ones_placed : (bits : List ℕ) (ls : List Loc) → list_all (λ q. is_put bits q.put) (map param_of ls) ≡ true → All (λ l. is_location bits l ≡ true) ls
ones_placed bits [] ok = All-nil (λ l. is_location bits l ≡ true)
ones_placed bits (l ∷ ls) ok =
    let parts = both (is_location bits l) (list_all (λ (q : Param). is_put bits q.put) (map param_of ls)) ok in
    All-cons (λ l. is_location bits l ≡ true) l ls parts.0 (ones_placed bits ls parts.1)

pub put_formed : (bits fresh : List ℕ) (q : Put) → IsGood (λ l. is_location bits l ≡ true) q → is_put (bits ++ fresh) q ≡ true
put_formed bits fresh Memory good = refl
put_formed bits fresh (One l) good = location_more bits fresh l good
put_formed bits fresh (Two low high) good =
    let is = halves_are low high good.0 in
    subst (λ x. is_put (bits ++ fresh) (Two x high) ≡ true) (sym is.1) (subst (λ y. is_put (bits ++ fresh) (Two (Half is.0 Low) y) ≡ true) (sym is.2) refl)

-- Blocks.

-- the parts that are taken after a call are Sets
pub parts_are : (fresh : Fresh) (results : List Loc) (P : List Stmt → Type 0) → ((temporary : ℕ) (two : Bool) (ls : List Loc) → P (map (taking_part temporary two) ls)) → P (taking_parts fresh results)
parts_are fresh results P sets = go (packing_of results)
  where
    go : (packing : Packing) → P (elim packing [ Apart ↦ [] | Word low high ↦ map (taking_part fresh.word false) results | Double ↦ map (taking_part fresh.double true) results ])
    go Apart = sets 0 false []
    go (Word low high) = sets fresh.word false results
    go Double = sets fresh.double true results

parts_no_call : (fresh : Fresh) (results : List Loc) (stmts : List Stmt) → list_any is_call (taking_parts fresh results ++ stmts) ≡ list_any is_call stmts
parts_no_call fresh results stmts = parts_are fresh results (λ parts. list_any is_call (parts ++ stmts) ≡ list_any is_call stmts) sets
  where
    sets : (temporary : ℕ) (two : Bool) (ls : List Loc) → list_any is_call (map (taking_part temporary two) ls ++ stmts) ≡ list_any is_call stmts
    sets temporary two [] = refl
    sets temporary two (l ∷ ls) = sets temporary two ls

any_still : (fresh : Fresh) (stmts : List Stmt) → list_any is_call (flat_map (pack_stmt fresh) stmts) ≡ list_any is_call stmts
any_still fresh [] = refl
any_still fresh (Call results entry arguments depth ∷ stmts) = refl
any_still fresh (stmt ∷ stmts) = any_still fresh stmts

pub jump_still : (exit : Exit) → is_jump (pack_exit exit) ≡ is_jump exit
jump_still (Ret values) = refl
jump_still exit = refl

pub jumps_still : (fresh : Fresh) (stmts : List Stmt) (exit : Exit) → jumps_after_call (flat_map (pack_stmt fresh) stmts) (pack_exit exit) ≡ jumps_after_call stmts exit
jumps_still fresh [] exit = refl
jumps_still fresh (Call results entry arguments depth ∷ stmts) exit =
    ap₂ (λ a b. not a && b) (parts_no_call fresh results (flat_map (pack_stmt fresh) stmts) ∙ any_still fresh stmts) (jump_still exit)
jumps_still fresh (stmt ∷ stmts) exit = jumps_still fresh stmts exit

pub addresses_still : (fresh : Fresh) (blocks : List Block) → map (λ (b : Block). b.at) (map (pack_block fresh) blocks) ≡ map (λ (b : Block). b.at) blocks
addresses_still fresh [] = refl
addresses_still fresh (b ∷ blocks) = ap (λ l. b.at ∷ l) (addresses_still fresh blocks)

module _ (p : Program) (sum_of : ℕ → Summary) (just : AllJust sum_of p) (bits : List ℕ) where
  abbrev more : List ℕ
  more = two_more bits

  abbrev fresh : Fresh
  fresh = fresh_after bits

  call_formed : (results : List Loc) (entry : ℕ) (arguments : List Expr) (depth : ℕ) → is_stmt bits (Call results entry arguments depth) ≡ true → CallsJust sum_of (Call results entry arguments depth) →
      list_all (is_stmt more) (pack_stmt fresh (Call results entry arguments depth)) ≡ true
  call_formed results entry arguments depth ok calls =
      let form = subst Form (sym calls.0) (just.forms entry) in
      let two = both (list_all (is_location bits) results && list_all (is_expr bits) arguments) (nat_lt depth 65536) ok in
      let one = both (list_all (is_location bits) results) (list_all (is_expr bits) arguments) two.0 in
      and_both (is_stmt more (Call (value_places fresh results) entry (merged one_argument arguments) depth)) (list_all (is_stmt more) (taking_parts fresh results))
      (and_both (list_all (is_location more) (value_places fresh results) && list_all (is_expr more) (merged one_argument arguments)) (nat_lt depth 65536)
      (and_both (list_all (is_location more) (value_places fresh results)) (list_all (is_expr more) (merged one_argument arguments)) (places-formed bits results form one.0)
      (merged-all (is_expr more) one_argument (argument-formed more) arguments (exprs_more bits (16 ∷ 32 ∷ []) arguments one.1))) two.1) (parts-formed bits results form)

  stmt_formed : (stmt : Stmt) → is_stmt bits stmt ≡ true → CallsJust sum_of stmt → list_all (is_stmt more) (pack_stmt fresh stmt) ≡ true
  stmt_formed (Call results entry arguments depth) ok calls = call_formed results entry arguments depth ok calls
  stmt_formed stmt ok calls = and_both (is_stmt more stmt) true (stmt_more bits (16 ∷ 32 ∷ []) stmt ok) refl

  stmts_formed : (stmts : List Stmt) → list_all (is_stmt bits) stmts ≡ true → All (CallsJust sum_of) stmts → list_all (is_stmt more) (flat_map (pack_stmt fresh) stmts) ≡ true
  stmts_formed [] ok calls = refl
  stmts_formed (stmt ∷ stmts) ok calls =
      let parts = both (is_stmt bits stmt) (list_all (is_stmt bits) stmts) ok in
      all_joined (is_stmt more) (pack_stmt fresh stmt) (flat_map (pack_stmt fresh) stmts) (stmt_formed stmt parts.0 (All-head (CallsJust sum_of) stmt stmts calls))
      (stmts_formed stmts parts.1 (All-tail (CallsJust sum_of) stmt stmts calls))

  module _ (entry : ℕ) where
    abbrev results : List Loc
    results = (sum_of entry).results

    exit_formed : (count : ℕ) (exit : Exit) → is_exit bits count exit ≡ true → GivesJust results exit → is_exit more count (pack_exit exit) ≡ true
    exit_formed count (Ret values) ok gives =
        subst (λ es. list_all (is_expr more) (one_value (flat_map got_by es) es) ≡ true) (sym gives)
        (ap (λ ls. list_all (is_expr more) (one_value ls (map Get results))) (gets_got results)
        ∙ one-formed more results (just.forms entry) (exprs_more bits (16 ∷ 32 ∷ []) (map Get results) (subst (λ es. list_all (is_expr bits) es ≡ true) gives ok)))
    exit_formed count (Goto place) ok gives = exit_more bits (16 ∷ 32 ∷ []) count (Goto place) ok
    exit_formed count (If test one other) ok gives = exit_more bits (16 ∷ 32 ∷ []) count (If test one other) ok
    exit_formed count (Switch e places) ok gives = exit_more bits (16 ∷ 32 ∷ []) count (Switch e places) ok
    exit_formed count Stop ok gives = refl

    pub blocks_formed : (count : ℕ) (blocks : List Block) → list_all (is_block bits count) blocks ≡ true → All (λ b. GivesJust results b.exit) blocks → All (λ b. All (CallsJust sum_of) b.stmts) blocks →
        list_all (is_block more count) (map (pack_block fresh) blocks) ≡ true
    blocks_formed count [] ok gives calls = refl
    blocks_formed count (b ∷ blocks) ok gives calls =
        let parts = both (is_block bits count b) (list_all (is_block bits count) blocks) ok in
        let two = both (list_all (is_stmt bits) b.stmts) (is_exit bits count b.exit) parts.0 in
        and_both (is_block more count (pack_block fresh b)) (list_all (is_block more count) (map (pack_block fresh) blocks))
        (and_both (list_all (is_stmt more) (flat_map (pack_stmt fresh) b.stmts)) (is_exit more count (pack_exit b.exit))
        (stmts_formed b.stmts two.0 (All-head (λ (x : Block). All (CallsJust sum_of) x.stmts) b blocks calls)) (exit_formed count b.exit two.1 (All-head (λ (x : Block). GivesJust results x.exit) b blocks gives)))
        (blocks_formed count blocks parts.1 (All-tail (λ (x : Block). GivesJust results x.exit) b blocks gives) (All-tail (λ (x : Block). All (CallsJust sum_of) x.stmts) b blocks calls))

    -- each Ret gives values of these widths
    abbrev Gives : List ℕ → Type 0
    Gives widths = widths ≡ widths_of results

    pub ret_gives : (exit : Exit) → GivesJust results exit → All Gives (ret_widths more (pack_exit exit))
    ret_gives (Ret values) gives =
        All-cons Gives (map (width_of more) (one_value (flat_map got_by values) values)) []
        (subst (λ es. map (width_of more) (one_value (flat_map got_by es) es) ≡ widths_of results) (sym gives)
        (ap (λ ls. map (width_of more) (one_value ls (map Get results))) (gets_got results) ∙ one-widths more results (just.forms entry) (just.results entry))) (All-nil Gives)
    ret_gives (Goto place) gives = All-nil Gives
    ret_gives (If test one other) gives = All-nil Gives
    ret_gives (Switch e places) gives = All-nil Gives
    ret_gives Stop gives = All-nil Gives

    pub rets_give : (blocks : List Block) → All (λ b. GivesJust results b.exit) blocks → All Gives (flat_map (λ (b : Block). ret_widths more b.exit) (map (pack_block fresh) blocks))
    rets_give [] gives = All-nil Gives
    rets_give (b ∷ blocks) gives =
        All-append Gives (ret_widths more (pack_exit b.exit)) (flat_map (λ (b : Block). ret_widths more b.exit) (map (pack_block fresh) blocks))
        (ret_gives b.exit (All-head (λ (x : Block). GivesJust results x.exit) b blocks gives)) (rets_give blocks (All-tail (λ (x : Block). GivesJust results x.exit) b blocks gives))
