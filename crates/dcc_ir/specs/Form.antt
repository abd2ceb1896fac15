-- The form of a graph that a pass over its statements leaves: its frame, its blocks, their edges, calls and returns.
use Rattle.std.specs.Prelude.{◌≡◌, ℕ, List, [], ◌∷◌, ◌++◌, map, flat_map}
use Rattle.std.specs.List.{AllZip}
use Rattle.dcc_ir.specs.declared.syntax.Loc.{Loc}
use Rattle.dcc_ir.specs.Tree.{Stmt, Call, Block, Graph}
use Rattle.dcc_ir.specs.Value.{width_of}
use Rattle.dcc_ir.specs.Flow.{targets}
use Rattle.dcc_ir.specs.WellFormed.{is_jump, ret_widths}

-- the signature of a call: of its arguments the widths alone are told
pub record Signature : Type 0 where
  pub results : List Loc
  pub entry : ℕ
  pub widths : List ℕ
  pub depth : ℕ

abbrev pub signatures_of : List ℕ → Stmt → List Signature
signatures_of bits (Call results entry arguments depth) =
    record { results = results; entry = entry; widths = map (width_of bits) arguments; depth = depth } ∷ []
signatures_of bits _ = []

-- the block has the other's address, edges, calls, and widths of values that it gives back
pub record BlockStays (bits bits' : List ℕ) (before after : Block) : Type 0 where
  pub at : after.at ≡ before.at
  pub targets_are : targets after.exit ≡ targets before.exit
  pub jumps : is_jump after.exit ≡ is_jump before.exit
  pub given : ret_widths bits' after.exit ≡ ret_widths bits before.exit
  pub calls : flat_map (signatures_of bits') after.stmts ≡ flat_map (signatures_of bits) before.stmts

-- the graph has the other's frame, temporaries and further ones, and blocks like the other's
pub record GraphStays (before after : Graph) : Type 0 where
  pub entry : after.entry ≡ before.entry
  pub params : after.params ≡ before.params
  pub local : after.local ≡ before.local
  pub pushed : after.pushed ≡ before.pushed
  pub fresh : List ℕ
  pub bits : after.bits ≡ before.bits ++ fresh
  pub blocks : AllZip (BlockStays before.bits after.bits) before.blocks after.blocks
