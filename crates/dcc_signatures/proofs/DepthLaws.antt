-- No expression gets more than 3 deep that was not as deep.
use Rattle.std.proofs.Common.{arith, ◌≡◌, ℕ, suc, ◌≤◌, max, Bool, true, false, List, [], ◌∷◌, Option, Some, None, refl, sym, ap₂, subst, map, flat_map, append-nil}
use Rattle.std.specs.Prelude.{if◌then◌else◌, All}
use Rattle.std.proofs.lemmas.List.Concat.{flat_map-append}
use Rattle.std.proofs.lemmas.List.Elements.{All-nil, All-cons, All-head, All-tail, All-append}
use Rattle.dcc_run.proofs.KeptLaws.{right_part}
use Rattle.dcc_num.specs.declared.Reg.{Reg}
use Rattle.dcc_num.specs.declared.Reg.TheVariants.{Ax, Dx}
use Rattle.dcc_num.specs.declared.Half.{Half as HalfName}
use Rattle.dcc_num.specs.declared.Half.TheVariants.{Low, High}
use Rattle.dcc_ir.specs.declared.syntax.Loc.{Loc}
use Rattle.dcc_ir.specs.declared.syntax.Loc.TheVariants.{Half}
use Rattle.dcc_ir.specs.Tree.{Expr, Const, Get, Stmt, Call, Exit, Goto, If, Switch, Ret, Stop, Block}
use Rattle.dcc_ir.specs.Use.{got_by, exprs_of, exit_exprs, block_exprs, graph_exprs}
use Rattle.dcc_ir.specs.Live.{is_among}
use Rattle.dcc_ir.specs.Measure.{depth_of, deepest}
use Rattle.dcc_ir.proofs.ListLaws.{left_part, all_parts}
use Rattle.dcc_signatures.specs.declared.packing.Fresh.{Fresh}
use Rattle.dcc_signatures.specs.declared.packing.Packing.{Packing}
use Rattle.dcc_signatures.specs.declared.packing.Packing.TheVariants.{Apart, Word, Double}
use Rattle.dcc_signatures.specs.Packed.{are_halves, two_or_one, in_front, merged, word_of, one_argument, packing_of}
use Rattle.dcc_signatures.specs.Packed.{given_or_zero, given_word, double_of, one_value, taking_part, taking_parts}
use Rattle.dcc_signatures.specs.Packed.{pack_stmt, pack_exit, pack_block, fresh_after, pack_graph}
use Rattle.dcc_signatures.specs.Laws.{PackedIsShallow}
use Rattle.dcc_signatures.proofs.OneLaws.{one_by}
use Rattle.dcc_signatures.proofs.ProgramLaws.{parts_are}

-- the depths of what is joined
zero_depth : (ls : List Loc) (r : Reg) (h : HalfName) → depth_of (given_or_zero ls (Half r h)) ≡ 1
zero_depth ls r h = elim (is_among ls (Half r h)) as (λ b. depth_of (if b then Get (Half r h) else Const 8 0) ≡ 1) [ true ↦ refl | false ↦ refl ]

word_depth : (ls : List Loc) (r : Reg) → depth_of (given_word ls r) ≡ 2
word_depth ls r = ap₂ (λ m n. suc (max m n)) (zero_depth ls r High) (zero_depth ls r Low)

double_depth : (ls : List Loc) → depth_of (double_of ls) ≡ 3
double_depth ls = ap₂ (λ m n. suc (max m n)) (word_depth ls Dx) (word_depth ls Ax)

argument_depth : (x y z : Expr) → one_argument x y ≡ Some z → depth_of z ≡ 2
argument_depth (Get low) (Get high) z e = go (are_halves low high) e
  where
    go : (b : Bool) → (if b then Some (word_of low high) else None) ≡ Some z → depth_of z ≡ 2
    go true e = let same : word_of low high ≡ z = cc in subst (λ x. depth_of x ≡ 2) same refl
    go false e = absurd (cc)
argument_depth x y z e = absurd (cc)

all_flat : {X A : Type 0} (P : A → Type 0) (f : X → List A) (xs : List X) → All (λ x. All P (f x)) xs → All P (flat_map f xs)
all_flat P f [] all = All-nil P
all_flat P f (x ∷ xs) all = All-append P (f x) (flat_map f xs) (All-head (λ y. All P (f y)) x xs all) (all_flat P f xs (All-tail (λ y. All P (f y)) x xs all))

module _ (n : ℕ) (three : 3 ≤ n) where
  abbrev Small : Expr → Type 0
  Small e = depth_of e ≤ n

  all_small : (es : List Expr) → deepest es ≤ n → All Small es
  all_small [] less = All-nil Small
  all_small (e ∷ es) less = All-cons Small e es (omega (arith, less)) (all_small es (omega (arith, less)))

  deepest_small : (es : List Expr) → All Small es → deepest es ≤ n
  deepest_small [] all = omega arith
  deepest_small (e ∷ es) all = let first = All-head Small e es all in let rest = deepest_small es (All-tail Small e es all) in omega (arith, first, rest)

  two_small : (e : Expr) → depth_of e ≡ 2 → Small e
  two_small e is = omega (arith, is, three)

  front_small : (x : Expr) (ys : List Expr) → Small x → All Small ys → All Small (in_front one_argument x ys)
  front_small x [] here all = All-cons Small x [] here all
  front_small x (y ∷ ys) here all = go (one_argument x y) refl
    where
      go : (o : Option Expr) → one_argument x y ≡ o → All Small (two_or_one x y ys o)
      go (Some z) e = All-cons Small z ys (two_small z (argument_depth x y z e)) (All-tail Small y ys all)
      go None e = All-cons Small x (y ∷ ys) here all

  arguments_small : (es : List Expr) → All Small es → All Small (merged one_argument es)
  arguments_small [] all = all
  arguments_small (e ∷ es) all = front_small e (merged one_argument es) (All-head Small e es all) (arguments_small es (All-tail Small e es all))

  one_small : (ls : List Loc) (values : List Expr) → All Small values → All Small (one_value ls values)
  one_small ls values all = go (packing_of ls)
    where
      go : (packing : Packing) → All Small (one_by packing ls values)
      go Apart = all
      go (Word low high) = All-cons Small (word_of low high) [] (two_small (word_of low high) refl) (All-nil Small)
      go Double = let is = double_depth ls in All-cons Small (double_of ls) [] (omega (arith, is, three)) (All-nil Small)

  exit_small : (exit : Exit) → All Small (exit_exprs exit) → All Small (exit_exprs (pack_exit exit))
  exit_small (Ret values) all = one_small (flat_map got_by values) values all
  exit_small (Goto place) all = all
  exit_small (If test one other) all = all
  exit_small (Switch e places) all = all
  exit_small Stop all = all

  stmt_small : (fresh : Fresh) (stmt : Stmt) → All Small (exprs_of stmt) → All Small (flat_map exprs_of (pack_stmt fresh stmt))
  stmt_small fresh (Call results entry arguments depth) all =
      All-append Small (merged one_argument arguments) (flat_map exprs_of (taking_parts fresh results)) (arguments_small arguments all) (parts_are fresh results (λ parts. All Small (flat_map exprs_of parts)) sets)
    where
      sets : (temporary : ℕ) (two : Bool) (ls : List Loc) → All Small (flat_map exprs_of (map (taking_part temporary two) ls))
      sets temporary two [] = All-nil Small
      sets temporary two (l ∷ ls) = All-cons Small _ (flat_map exprs_of (map (taking_part temporary two) ls)) (omega (arith, three)) (sets temporary two ls)
  stmt_small fresh stmt all = subst (All Small) (sym (append-nil (exprs_of stmt))) all

  stmts_small : (fresh : Fresh) (stmts : List Stmt) → All Small (flat_map exprs_of stmts) → All Small (flat_map exprs_of (flat_map (pack_stmt fresh) stmts))
  stmts_small fresh [] all = all
  stmts_small fresh (stmt ∷ stmts) all =
      subst (All Small) (sym (flat_map-append exprs_of (pack_stmt fresh stmt) (flat_map (pack_stmt fresh) stmts)))
      (All-append Small (flat_map exprs_of (pack_stmt fresh stmt)) (flat_map exprs_of (flat_map (pack_stmt fresh) stmts))
      (stmt_small fresh stmt (left_part Small (exprs_of stmt) (flat_map exprs_of stmts) all)) (stmts_small fresh stmts (right_part Small (exprs_of stmt) (flat_map exprs_of stmts) all)))

  blocks_small : (fresh : Fresh) (blocks : List Block) → All (λ b. All Small (block_exprs b)) blocks → All (λ b. All Small (block_exprs b)) (map (pack_block fresh) blocks)
  blocks_small fresh [] all = All-nil (λ b. All Small (block_exprs b))
  blocks_small fresh (b ∷ blocks) all =
      let here = All-head (λ (x : Block). All Small (block_exprs x)) b blocks all in
      All-cons (λ (x : Block). All Small (block_exprs x)) (pack_block fresh b) (map (pack_block fresh) blocks)
      (All-append Small (flat_map exprs_of (flat_map (pack_stmt fresh) b.stmts)) (exit_exprs (pack_exit b.exit))
      (stmts_small fresh b.stmts (left_part Small (flat_map exprs_of b.stmts) (exit_exprs b.exit) here)) (exit_small b.exit (right_part Small (flat_map exprs_of b.stmts) (exit_exprs b.exit) here)))
      (blocks_small fresh blocks (All-tail (λ (x : Block). All Small (block_exprs x)) b blocks all))

pub packed-is_shallow : PackedIsShallow
packed-is_shallow g =
    let n = max (deepest (graph_exprs g)) 3 in
    let three : 3 ≤ n = omega arith in
    let less : deepest (graph_exprs g) ≤ n = omega arith in
    deepest_small n three (graph_exprs (pack_graph g)) (all_flat (Small n three) block_exprs (pack_graph g).blocks (blocks_small n three (fresh_after g.bits) g.blocks (all_parts (Small n three) block_exprs g.blocks (all_small n three (graph_exprs g) less))))
