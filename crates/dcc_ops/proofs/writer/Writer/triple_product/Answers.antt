use Rattle.std.proofs.Common.{◌++◌, ◌∙◌, true, ap, append_assoc}
use Rattle.std.proofs.lemmas.Result.{on_ok_weaker}
use Rattle.dcc_num.specs.declared.Width.TheVariants.{Word as word_width}
use Rattle.dcc_ir.specs.Tree.{Get}
use Rattle.dcc_ops.specs.OperandPlace.{constant}
use Rattle.dcc_ops.specs.Placing.{place_of}
use Rattle.dcc_ops.specs.Expressions.{product}
use Rattle.dcc_ops.specs.Statements.{operands_taking, product_working, word_taking}
use Rattle.dcc_ops.specs.Writing.{written}
use Rattle.dcc_ops.proofs.writer.Writer.triple_product.Goals as goal

pub returns : goal.returns
returns c =
    let takes = operands_taking word_width (place_of c.args.p) (constant word_width c.args.number) in
    let works = product_working word_width true in
    let stores = word_taking c.args.r 0 (product word_width) in
    on_ok_weaker c.take_word.result (λ e. e
    ∙ ap (λ from. written c.product_working.new.self ++ word_taking c.args.r 0 (Get from)) c.product_place.ensures
    ∙ ap (λ stmts. stmts ++ stores) c.in_ok-product_working.ensures
    ∙ ap (λ stmts. (stmts ++ works) ++ stores) c.in_ok-take_operands.ensures
    ∙ append_assoc (written c.args.self.now ++ takes) works stores
    ∙ append_assoc (written c.args.self.now) takes (works ++ stores)) c.take_word.ensures
