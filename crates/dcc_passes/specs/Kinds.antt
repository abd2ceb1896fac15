-- The form of a graph by kinds: what its callers and its callees see of it, whatever locations it has.
use Rattle.std.specs.Prelude.{◌≡◌, ℕ, Bool, List, [], ◌∷◌, map, flat_map}
use Rattle.std.specs.List.{AllZip}
use Rattle.dcc_ir.specs.declared.syntax.Param.{Param}
use Rattle.dcc_ir.specs.Tree.{Stmt, Call, Block, Graph}
use Rattle.dcc_ir.specs.Location.{location_width}
use Rattle.dcc_ir.specs.Value.{width_of}
use Rattle.dcc_ir.specs.Flow.{targets}
use Rattle.dcc_ir.specs.WellFormed.{put_width, is_memory, is_jump, ret_widths}

-- of a param: whether it is on the stack, whether it stays in memory, and its width
pub record ParamKind : Type 0 where
  pub stack : Bool
  pub memory : Bool
  pub width : ℕ

abbrev pub param_kind : List ℕ → Param → ParamKind
param_kind bits p = record { stack = p.stack; memory = is_memory p.put; width = put_width bits p.put }

abbrev pub param_kinds : Graph → List ParamKind
param_kinds graph = map (param_kind graph.bits) graph.params

-- of a call: the widths of its results, the entry of the callee, the widths of its arguments, and the depth
pub record CallKind : Type 0 where
  pub results : List ℕ
  pub entry : ℕ
  pub arguments : List ℕ
  pub depth : ℕ

abbrev pub call_kinds : List ℕ → Stmt → List CallKind
call_kinds bits (Call results entry arguments depth) =
    record {
      results = map (location_width bits) results;
      entry = entry;
      arguments = map (width_of bits) arguments;
      depth = depth;
    } ∷ []
call_kinds bits _ = []

-- the block has the other's address, edges, kinds of calls, and widths of values that it gives back
pub record BlockStaysInKind (bits bits' : List ℕ) (before after : Block) : Type 0 where
  pub at : after.at ≡ before.at
  pub targets_are : targets after.exit ≡ targets before.exit
  pub jumps : is_jump after.exit ≡ is_jump before.exit
  pub given : ret_widths bits' after.exit ≡ ret_widths bits before.exit
  pub calls : flat_map (call_kinds bits') after.stmts ≡ flat_map (call_kinds bits) before.stmts

-- the graph has the other's frame, kinds of params, and blocks like the other's
pub record StaysInKind (before after : Graph) : Type 0 where
  pub entry : after.entry ≡ before.entry
  pub params : param_kinds after ≡ param_kinds before
  pub local : after.local ≡ before.local
  pub pushed : after.pushed ≡ before.pushed
  pub blocks : AllZip (BlockStaysInKind before.bits after.bits) before.blocks after.blocks
