use Rattle.std.proofs.Common.{◌≡◌, ◌<◌, false, ◌&&◌, length, sym, ◌∙◌, arith}
use Rattle.std.proofs.lemmas.Bool.{and_left, and_right}
use Rattle.dcc_ir.specs.declared.syntax.Loc.TheVariants.{Flag}
use Rattle.dcc_ir.specs.Views.{stmt_of, exit_of}
use Rattle.dcc_ir.specs.Live.{reads}
use Rattle.dcc_ir.specs.Use.{exprs_of}
use Rattle.dcc_flags.specs.Sources.{is_mixed}
use Rattle.dcc_flags.proofs.TableLaws.{mixes_here, mixes_past}
use Rattle.dcc_flags.proofs.kept.mixes.Goals.{else-is_mixed-via-then-is_mixed+else-stmt_reads, else-is_mixed-via-else-is_mixed}
use Rattle.dcc_flags.proofs.kept.mixes.Goals as goal

pub returns-then-stmt_reads : goal.returns-then-stmt_reads
returns-then-stmt_reads c =
    let stmts = c.args.block.now.stmts.items in
    let inside : c.loop-k.k < length stmts = omega arith in
    let mixed = sym c.is_mixed.ensures ∙ c.if-is_mixed.true in
    let read = sym c.stmt_reads.ensures ∙ c.if-stmt_reads.true in
    sym (sym c.loop-k.invariant
    ∙ mixes_here c.args.f c.loop-k.source c.args.place c.loop-k.k stmts c.index-stmt.result.now
    (exit_of c.args.block.now.end) inside c.index-stmt.ensures mixed read)

pub loop-k-preserved : goal.loop-k-preserved
loop-k-preserved c =
    let stmts = c.args.block.now.stmts.items in
    let stmt = stmt_of c.index-stmt.result.now in
    let inside : c.loop-k.k < length stmts = omega arith in
    let mixed = is_mixed c.loop-k.source in
    let read = reads (exprs_of stmt) (Flag c.args.f) in
    let neither : (mixed && read) ≡ false = elim c.else-is_mixed.branch [
      | else-is_mixed-via-then-is_mixed+else-stmt_reads w ↦
          and_right mixed read (sym w.stmt_reads.ensures ∙ w.if-stmt_reads.false)
      | else-is_mixed-via-else-is_mixed w ↦ and_left mixed read (sym c.is_mixed.ensures ∙ w.if-is_mixed.false)
    ] in
    mixes_past c.args.f c.loop-k.source c.moved-source.result c.args.place c.loop-k.k stmts c.index-stmt.result.now
    (exit_of c.args.block.now.end) inside c.index-stmt.ensures neither c.moved-source.ensures
    ∙ c.loop-k.invariant
