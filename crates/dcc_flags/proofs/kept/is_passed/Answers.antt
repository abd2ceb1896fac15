use Rattle.std.proofs.Common.{◌||◌, sym, ap, flat_map, ◌∙◌, map, rules, tests}
use Rattle.std.proofs.lemmas.Bool.{or_left}
use Rattle.std.proofs.lemmas.Iterator.{YieldsList-from_slice}
use Rattle.std.proofs.lemmas.Iterator.Search.{any_from_yields_List}
use Rattle.std.specs.List.{list_any}
use Rattle.dcc_ir.specs.declared.syntax.Loc.TheVariants.{Flag}
use Rattle.dcc_ir.specs.Location.{same_location}
use Rattle.dcc_ir.specs.Live.{is_among}
use Rattle.dcc_ir.specs.Views.{block_of}
use Rattle.dcc_ir.specs.Joinable.{places_of}
use Rattle.dcc_flags.specs.Reaching.{has_result}
use Rattle.dcc_flags.proofs.TableLaws.{any_map, any_flat_map}
use Rattle.dcc_flags.proofs.kept.is_passed.Goals as goal

pub returns-then-any : goal.returns-then-any
returns-then-any c =
    let test = same_location (Flag c.args.f) in
    let params = c.args.g.now.params.items in
    let is = any_from_yields_List (λ p. list_any test (places_of p.put)) _ _ c.any.result c.any.ensures.ran
    (YieldsList-from_slice params cc) (λ x b q k. search (rules, tests)) in
    let first = is ∙ sym (any_flat_map test (λ p. places_of p.put) params) in
    c.if-any.true
    ∙ sym (or_left (is_among (flat_map (λ p. places_of p.put) params) (Flag c.args.f))
    (list_any (λ b. list_any (has_result c.args.f) b.stmts) (map block_of c.args.g.now.blocks.items))
    (sym first ∙ c.if-any.true))

pub returns-else-any : goal.returns-else-any
returns-else-any c =
    let test = same_location (Flag c.args.f) in
    let params = c.args.g.now.params.items in
    let blocks = c.args.g.now.blocks.items in
    let is = any_from_yields_List (λ p. list_any test (places_of p.put)) _ _ c.any.result c.any.ensures.ran
    (YieldsList-from_slice params cc) (λ x b q k. search (rules, tests)) in
    let given = any_from_yields_List (λ b. list_any (has_result c.args.f) (block_of b).stmts) _ _ c.any-else-any.result c.any-else-any.ensures.ran
    (YieldsList-from_slice blocks cc) (λ x b q k. search (rules, tests)) in
    let none = sym (is ∙ sym (any_flat_map test (λ p. places_of p.put) params)) ∙ c.if-any.false in
    given ∙ sym (any_map (λ b. list_any (has_result c.args.f) b.stmts) block_of blocks)
    ∙ sym (ap (λ a. a || list_any (λ b. list_any (has_result c.args.f) b.stmts) (map block_of blocks)) none)
