-- Laws of the blocks that stand for a procedure's instructions: where they stand, and where they go.
use Rattle.std.proofs.Common.{◌≡◌, ℕ, zero, suc, ◌+◌, Bool, true, false, ◌&&◌, ◌||◌, ◌==◌, if◌then◌else◌, ◌⊎◌, inl, inr, List, [], ◌∷◌, ◌++◌, length, map, slice_get, Option, Some, None, All, refl, sym, ap, ap₂, ◌∙◌, subst, true≢false, eqb-true, eq-eqb, arith}
use Rattle.std.specs.List.{list_any}
use Rattle.std.proofs.lemmas.List.Elements.{All-nil, All-cons}
use Rattle.std.proofs.lemmas.List.Folds.{list_any-append}
use Rattle.dcc_prog.specs.declared.procedure.Node.{Node}
use Rattle.dcc_machine.specs.declared.instr.Op.{Op}
use Rattle.dcc_machine.specs.declared.instr.Op.TheVariants.{Table, Ret}
use Rattle.dcc_ir.specs.Tree.{Expr, Goto, Block}
use Rattle.dcc_ir.specs.Flow.{targets, stands_at, has_edge}
use Rattle.dcc_ops.specs.Statements.{op_test, exit_to}
use Rattle.dcc_simulation.specs.Passed.{exit_of}
use Rattle.dcc_lift.specs.Blocks.{node_in, successors_in, IsChain, leaders, place_in, BlockSource, nodes_in, entry_in, block_place, node_exit, exit_at, last_of, IsBlockAt, AreBlocksAt}
use Rattle.dcc_lift.specs.Sound.{AgreesWith, GoesOnAt, AreSound}
use Rattle.dcc_lift.proofs.ListTests.{and_left, and_right, and_both, or_here, or_there, or_none, or_cases, same_number, any_agree, any_map, any_same, any_at, passing}
use Rattle.dcc_lift.proofs.NodeLaws.{node_in_holds}
use Rattle.dcc_lift.proofs.ChainLaws.{is_leader, has_successor, entry_is_leader, chain_once}

-- Blocks by their places.

module _ (scene : BlockSource) where
  -- the offsets of the blocks
  pub blocks_at : (places : List ℕ) (blocks : List Block) → AreBlocksAt scene places blocks
      → map (λ (b : Block). b.at) blocks ≡ places
  blocks_at [] [] are = refl
  blocks_at [] (block ∷ blocks) are = absurd are
  blocks_at (at ∷ places) [] are = absurd are
  blocks_at (at ∷ places) (block ∷ blocks) are = ap₂ (λ x xs. x ∷ xs) are.0.at_is (blocks_at places blocks are.1)

  -- what each block has that begins at one of the offsets all have
  pub blocks_all : (P : Block → Type 0) (places : List ℕ) (blocks : List Block) → AreBlocksAt scene places blocks
      → ((at : ℕ) (block : Block) → list_any (λ x. x == at) places ≡ true → IsBlockAt scene at block → P block)
      → All P blocks
  blocks_all P [] [] are each = All-nil P
  blocks_all P [] (block ∷ blocks) are each = absurd are
  blocks_all P (at ∷ places) [] are each = absurd are
  blocks_all P (at ∷ places) (block ∷ blocks) are each =
      All-cons P block blocks
      (each at block (or_here (at == at) (list_any (λ x. x == at) places) (same_number at)) are.0)
      (blocks_all P places blocks are.1
      (λ a b inside. each a b (or_there (at == a) (list_any (λ x. x == a) places) inside)))

  -- the blocks stand at the offsets, in their order
  pub blocks_stand : (places : List ℕ) (blocks : List Block) (a : ℕ) → AreBlocksAt scene places blocks
      → list_any (λ block. block.at == a) blocks ≡ list_any (λ x. x == a) places
  blocks_stand [] [] a are = refl
  blocks_stand [] (block ∷ blocks) a are = absurd are
  blocks_stand (at ∷ places) [] a are = absurd are
  blocks_stand (at ∷ places) (block ∷ blocks) a are =
      ap (λ n. (n == a) || list_any (λ block. block.at == a) blocks) are.0.at_is
      ∙ ap (λ b. (at == a) || b) (blocks_stand places blocks a are.1)

  -- the block at the place of an offset stands at that offset; where no block begins, there is none
  pub block_stands : (places : List ℕ) (blocks : List Block) (s b : ℕ) → AreBlocksAt scene places blocks
      → stands_at (slice_get blocks (place_in places s)) b ≡ (list_any (λ x. x == s) places && (s == b))
  block_stands [] [] s b are = refl
  block_stands [] (block ∷ blocks) s b are = absurd are
  block_stands (at ∷ places) [] s b are = absurd are
  block_stands (at ∷ places) (block ∷ blocks) s b are = go (at == s) refl (block_stands places blocks s b are.1)
    where
      go : (c : Bool) → (at == s) ≡ c
          → stands_at (slice_get blocks (place_in places s)) b ≡ (list_any (λ x. x == s) places && (s == b))
          → stands_at (slice_get (block ∷ blocks) (if c then 0 else suc (place_in places s))) b
          ≡ ((c || list_any (λ x. x == s) places) && (s == b))
      go true t later = ap (λ n. n == b) (are.0.at_is ∙ eqb-true at s t)
      go false n later = later

  -- the block that begins at an offset, at its place
  pub record HasBlock (blocks : List Block) (place at : ℕ) : Type 0 where
    pub block : Block
    pub found : slice_get blocks place ≡ Some block
    pub is_block : IsBlockAt scene at block

  pub block_found : (places : List ℕ) (blocks : List Block) (a : ℕ) → AreBlocksAt scene places blocks
      → list_any (λ x. x == a) places ≡ true → HasBlock blocks (place_in places a) a
  block_found [] blocks a are e = absurd (true≢false (sym e))
  block_found (at ∷ places) [] a are e = absurd are
  block_found (at ∷ places) (block ∷ blocks) a are e = go (at == a) refl e (λ f. block_found places blocks a are.1 f)
    where
      go : (c : Bool) → (at == a) ≡ c → (c || list_any (λ x. x == a) places) ≡ true
          → (list_any (λ x. x == a) places ≡ true → HasBlock blocks (place_in places a) a)
          → HasBlock (block ∷ blocks) (if c then 0 else suc (place_in places a)) a
      go true t e later = record {
        block = block;
        found = refl;
        is_block = subst (λ n. IsBlockAt scene n block) (eqb-true at a t) are.0;
      }
      go false n e later =
          let there = later e in
          record { block = there.block; found = there.found; is_block = there.is_block }

  -- each block of the list begins at its own offset
  pub block_is : (places : List ℕ) (blocks : List Block) (place : ℕ) (block : Block) → AreBlocksAt scene places blocks
      → slice_get blocks place ≡ Some block → IsBlockAt scene block.at block
  block_is places [] place block are e = absurd (cc)
  block_is [] (first ∷ blocks) place block are e = absurd are
  block_is (at ∷ places) (first ∷ blocks) zero block are e =
      let same : first ≡ block = cc in
      subst (λ (x : Block). IsBlockAt scene x.at x) same
      (subst (λ n. IsBlockAt scene n first) (sym are.0.at_is) are.0)
  block_is (at ∷ places) (first ∷ blocks) (suc place) block are e = block_is places blocks place block are.1 e

-- Exits.

-- an exit goes to all the places
targets_of_exit : (test : Option Expr) (places : List ℕ) → AgreesWith test places
    → targets (exit_to test places) ≡ places
targets_of_exit (Some test) [] agree = absurd agree
targets_of_exit (Some test) (one ∷ []) agree = absurd agree
targets_of_exit (Some test) (one ∷ other ∷ []) agree = refl
targets_of_exit (Some test) (one ∷ other ∷ more ∷ places) agree = absurd agree
targets_of_exit None [] agree = refl
targets_of_exit None (one ∷ []) agree = refl
targets_of_exit None (one ∷ other ∷ places) agree = absurd agree

agreeing_map : (f : ℕ → ℕ) (test : Option Expr) (places : List ℕ) → AgreesWith test places
    → AgreesWith test (map f places)
agreeing_map f (Some test) [] agree = absurd agree
agreeing_map f (Some test) (one ∷ []) agree = absurd agree
agreeing_map f (Some test) (one ∷ other ∷ []) agree = tt
agreeing_map f (Some test) (one ∷ other ∷ more ∷ places) agree = absurd agree
agreeing_map f None [] agree = tt
agreeing_map f None (one ∷ []) agree = tt
agreeing_map f None (one ∷ other ∷ places) agree = absurd agree

module _ (scene : BlockSource) (prelude : ℕ) (sound : AreSound (nodes_in scene) (entry_in scene) prelude) where
  -- the end of an operation goes to all its places
  exit_targets : (op : Op) (places : List ℕ) → GoesOnAt op places
      → targets (exit_of scene.procedure op (map (block_place scene) places)) ≡ map (block_place scene) places
  exit_targets (Table r offset) places agree = refl
  exit_targets (Ret count) places agree = sym (ap (map (block_place scene)) agree)
  exit_targets op places agree =
      targets_of_exit (op_test op) (map (block_place scene) places)
      (agreeing_map (block_place scene) (op_test op) places agree)

  -- a block that ends at an instruction goes to the blocks at its successors
  pub targets_at : (at : ℕ) → targets (exit_at scene at)
      ≡ map (block_place scene) (successors_in (node_in (nodes_in scene) at))
  targets_at at = go (node_in (nodes_in scene) at) refl
    where
      go : (o : Option Node) → node_in (nodes_in scene) at ≡ o
          → targets (node_exit scene o) ≡ map (block_place scene) (successors_in o)
      go None e = refl
      go (Some node) e =
          exit_targets node.instr.op node.succ.items
          (node_in_holds (λ (found : ℕ × Node). GoesOnAt found.1.instr.op found.1.succ.items) (nodes_in scene) at node
          sound.agree e)

-- The graph: blocks that begin at the leaders, after as many others as the scene tells.

-- an edge leads from the one block to the other
abbrev pub goes_between : List Block → ℕ → ℕ → Bool
goes_between blocks a b = list_any (λ block. (block.at == a) && has_edge blocks block b) blocks

-- an edge from a leader to a leader, where the chain of the first ends
pub record IsFromLeader (scene : BlockSource) (a b : ℕ) : Type 0 where
  pub leader : is_leader (nodes_in scene) (entry_in scene) a ≡ true
  pub rest : List ℕ
  pub chain : IsChain (nodes_in scene) (entry_in scene) a rest
  pub to_leader : is_leader (nodes_in scene) (entry_in scene) b ≡ true
  pub goes : has_successor (nodes_in scene) (last_of a rest) b ≡ true

-- a place after those of the first list
pub get_after : {X : Type 0} (front rest : List X) (k : ℕ)
    → slice_get (front ++ rest) (length front + k) ≡ slice_get rest k
get_after [] rest k = let e : 0 + k ≡ k = omega arith in ap (slice_get rest) e
get_after (x ∷ front) rest k =
    let e : length (x ∷ front) + k ≡ suc (length front + k) = omega arith in
    ap (slice_get (x ∷ (front ++ rest))) e ∙ get_after front rest k

module _ (scene : BlockSource) (prelude : ℕ) (sound : AreSound (nodes_in scene) (entry_in scene) prelude)
    (front : List Block)
    (before : length front ≡ scene.before) (blocks : List Block)
    (are : AreBlocksAt scene (leaders (nodes_in scene) (entry_in scene)) blocks) where
  abbrev leads : ℕ → Bool
  leads at = is_leader (nodes_in scene) (entry_in scene) at

  abbrev all : List Block
  all = front ++ blocks

  -- there are blocks at the leaders, besides the others
  pub has_block : (a : ℕ)
      → list_any (λ block. block.at == a) all ≡ (list_any (λ block. block.at == a) front || leads a)
  has_block a =
      list_any-append (λ (block : Block). block.at == a) front blocks
      ∙ ap (λ b. list_any (λ block. block.at == a) front || b)
      (blocks_stand scene (leaders (nodes_in scene) (entry_in scene)) blocks a are)

  found_after : (k : ℕ) → slice_get all (scene.before + k) ≡ slice_get blocks k
  found_after k = ap (λ n. slice_get all (n + k)) (sym before) ∙ get_after front blocks k

  -- the block of a leader is found at its place
  pub leader_block : (a : ℕ) → leads a ≡ true → HasBlock scene all (block_place scene a) a
  leader_block a leader =
      let there = block_found scene (leaders (nodes_in scene) (entry_in scene)) blocks a are leader in
      record {
        block = there.block;
        found = found_after (place_in (leaders (nodes_in scene) (entry_in scene)) a) ∙ there.found;
        is_block = there.is_block;
      }

  pub stands : (s b : ℕ) → stands_at (slice_get all (block_place scene s)) b ≡ (leads s && (s == b))
  stands s b =
      ap (λ o. stands_at o b) (found_after (place_in (leaders (nodes_in scene) (entry_in scene)) s))
      ∙ block_stands scene (leaders (nodes_in scene) (entry_in scene)) blocks s b are

  -- the block of a leader goes to those at the successors of its last instruction
  pub block_edge : (block : Block) (at b : ℕ) (is : IsBlockAt scene at block)
      → has_edge all block b ≡ (leads b && has_successor (nodes_in scene) (last_of at is.rest) b)
  block_edge block at b is =
      let succ = successors_in (node_in (nodes_in scene) (last_of at is.rest)) in
      ap (list_any (λ place. stands_at (slice_get all place) b))
      (ap targets is.exit_is ∙ targets_at scene prelude sound (last_of at is.rest))
      ∙ any_map (λ place. stands_at (slice_get all place) b) (block_place scene) succ
      ∙ any_agree (λ s. stands_at (slice_get all (block_place scene s)) b) (λ s. leads s && (s == b))
      (λ s. stands s b)
      succ
      ∙ any_same leads b succ

  -- a block that goes to that of the entry alone
  pub entry_edge : (block : Block) (b : ℕ) → block.exit ≡ Goto (block_place scene (entry_in scene))
      → has_edge all block b ≡ (entry_in scene == b)
  entry_edge block b e =
      ap (λ exit. list_any (λ place. stands_at (slice_get all place) b) (targets exit)) e
      ∙ or_none (stands_at (slice_get all (block_place scene (entry_in scene))) b)
      ∙ stands (entry_in scene) b
      ∙ ap (λ c. c && (entry_in scene == b)) (entry_is_leader (nodes_in scene) (entry_in scene) prelude sound)

  -- Edges of the graph.

  edge_of : (block : Block) (a b : ℕ) → block.at ≡ a → has_edge all block b ≡ true
      → ((block.at == a) && has_edge all block b) ≡ true
  edge_of block a b e f = and_both (block.at == a) (has_edge all block b) (eq-eqb block.at a e) f

  -- an edge of the blocks before is one of them, any other leads from leader to leader
  pub edge_cases : (a b : ℕ) → goes_between all a b ≡ true
      → (list_any (λ block. (block.at == a) && has_edge all block b) front ≡ true) ⊎ IsFromLeader scene a b
  edge_cases a b e =
      elim (or_cases (list_any (λ block. (block.at == a) && has_edge all block b) front)
      (list_any (λ block. (block.at == a) && has_edge all block b) blocks)
      (sym (list_any-append (λ (block : Block). (block.at == a) && has_edge all block b) front blocks) ∙ e)) [
        | inl t ↦ inl t
        | inr t ↦
            let from = passing (λ block. (block.at == a) && has_edge all block b) blocks t in
            let here : from.element.at ≡ a =
            eqb-true from.element.at a (and_left (from.element.at == a) (has_edge all from.element b) from.passes) in
            let is : IsBlockAt scene a from.element =
            subst (λ n. IsBlockAt scene n from.element) here
            (block_is scene (leaders (nodes_in scene)
            (entry_in scene)) blocks from.place from.element are from.found) in
            let both =
            sym (block_edge from.element a b is)
            ∙ and_right (from.element.at == a) (has_edge all from.element b) from.passes in
            inr (record {
              leader =
                  sym (blocks_stand scene (leaders (nodes_in scene) (entry_in scene)) blocks a are)
                  ∙ any_at (λ block. block.at == a) blocks from.place from.element from.found
                  (eq-eqb from.element.at a here);
              rest = is.rest;
              chain = is.chain;
              to_leader = and_left (leads b) (has_successor (nodes_in scene) (last_of a is.rest) b) both;
              goes = and_right (leads b) (has_successor (nodes_in scene) (last_of a is.rest) b) both;
            })
      ]

  -- an edge of a block before
  pub front_goes : (a b : ℕ) → list_any (λ block. (block.at == a) && has_edge all block b) front ≡ true
      → goes_between all a b ≡ true
  front_goes a b t =
      list_any-append (λ (block : Block). (block.at == a) && has_edge all block b) front blocks
      ∙ or_here (list_any (λ block. (block.at == a) && has_edge all block b) front)
      (list_any (λ block. (block.at == a) && has_edge all block b) blocks) t

  pub leader_goes : (a b : ℕ) → IsFromLeader scene a b → goes_between all a b ≡ true
  leader_goes a b from =
      let there = leader_block a from.leader in
      let is = there.is_block in
      let end : last_of a from.rest ≡ last_of a is.rest =
      ap (last_of a)
      (chain_once (nodes_in scene) (entry_in scene) prelude sound from.rest is.rest a from.chain is.chain) in
      any_at (λ block. (block.at == a) && has_edge all block b) all (block_place scene a) there.block there.found
      (edge_of there.block a b is.at_is
      (block_edge there.block a b is
      ∙ and_both (leads b) (has_successor (nodes_in scene) (last_of a is.rest) b) from.to_leader
      (subst (λ n. has_successor (nodes_in scene) n b ≡ true) end from.goes)))
