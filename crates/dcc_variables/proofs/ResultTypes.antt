-- The type of what the Rets of blocks give, block by block.
use Rattle.std.proofs.Common.{◌≡◌, ℕ, ◌+◌, ◌<◌, List, ◌∷◌, ◌++◌, map, flat_map, drop, get_or, length, Option, sym, ap, ◌∙◌, Vec, Global}
use Rattle.std.proofs.lemmas.List.{at_drop_more}
use Rattle.dcc_ir.specs.declared.syntax.Block.{Block}
use Rattle.dcc_ir.specs.declared.syntax.End.TheVariants.{Ret}
use Rattle.dcc_ir.specs.declared.syntax.Expr.{Expr}
use Rattle.dcc_ir.specs.Tree as inner
use Rattle.dcc_ir.specs.Value.{width_of}
use Rattle.dcc_ir.specs.Views.{expr_of, exit_of, block_of}
use Rattle.dcc_ir.specs.WellFormed.{ret_widths}
use Rattle.dcc_c.specs.declared.syntax.CType.{CType}
use Rattle.dcc_variables.specs.Functions.{type_for, type_for_any}

abbrev pub type_of_blocks : List ℕ → List Block → Option CType
type_of_blocks bits blocks = type_for_any (flat_map (λ (b : inner.Block). ret_widths bits b.exit) (map block_of blocks))

-- from a block with a Ret on, that Ret tells it
pub first-ret : (bits : List ℕ) (blocks : List Block) (i : ℕ) (b : Block) (values : Vec Expr Global) → i < length blocks → b ≡ get_or blocks i b → b.end ≡ Ret values
    → type_of_blocks bits (drop i blocks) ≡ type_for (map (width_of bits) (map expr_of values.items))
first-ret bits blocks i b values less is ret =
    at_drop_more (type_of_blocks bits) blocks i b less
    ∙ ap (λ x. type_of_blocks bits (x ∷ drop (i + 1) blocks)) (sym is)
    ∙ ap (λ end. type_for_any (ret_widths bits (exit_of end) ++ flat_map (λ (b : inner.Block). ret_widths bits b.exit) (map block_of (drop (i + 1) blocks)))) ret
