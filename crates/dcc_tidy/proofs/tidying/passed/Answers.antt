use Rattle.std.proofs.Common.{subst, arith}
use Rattle.dcc_ir.specs.Views.{graph_of}
use Rattle.dcc_ir.specs.Tree.{Graph}
use Rattle.dcc_words.specs.Words.{ReadsWords}
use Rattle.dcc_passes.proofs.TidiedLaws.{tidied-trans}
use Rattle.dcc_tidy.proofs.DeadLaws.{dead-tidied, dead-depth}
use Rattle.dcc_tidy.proofs.tidying.passed.Goals as goal

pub returns-clause-stands : goal.returns-clause-stands
returns-clause-stands g c =
    let given = graph_of c.args.graph in
    let split = graph_of c.in_ok-split.split in
    let sets = graph_of c.in_ok-sets.sets in
    let words = graph_of c.in_ok-words.words in
    let plain = graph_of c.in_ok-plain.plain in
    let simple = graph_of c.in_ok-last.last in
    let after = graph_of c.in_ok-after.after in
    let last = c.in_ok-after.ensures.without in
    let shallow = dead-depth simple after last in record {
      tidied = tidied-trans given split after c.in_ok-split.ensures.tidied
          (tidied-trans split sets after c.in_ok-sets.ensures.tidied
          (tidied-trans sets words after c.in_ok-words.ensures.tidied
          (tidied-trans words plain after c.in_ok-plain.ensures.tidied
          (tidied-trans plain simple after c.in_ok-last.ensures.tidied
          (dead-tidied simple after c.in_ok-after.ensures.formed last)))));
      depth = λ few.
          omega (
            arith,
            few,
            shallow,
            c.in_ok-split.ensures.depth,
            c.in_ok-sets.ensures.depth,
            c.in_ok-words.ensures.depth,
            c.in_ok-plain.ensures.depth,
            c.in_ok-last.ensures.depth,
          );
    }

pub returns-clause-done : goal.returns-clause-done
returns-clause-done g c = record {
  split = graph_of c.in_ok-split.split;
  told = c.in_ok-split.ensures.told;
  temps = c.in_ok-split.ensures.temps;
  words = graph_of c.in_ok-words.words;
  reads =
      subst (λ (sets : Graph). ReadsWords sets (graph_of c.in_ok-words.words)) c.in_ok-sets.ensures.sets
      c.in_ok-words.ensures.words;
  plain = graph_of c.in_ok-plain.plain;
  rounds = c.in_ok-plain.ensures.tidied;
  simple = graph_of c.in_ok-last.last;
  simplified = c.in_ok-last.ensures.simplified;
  last = c.in_ok-after.ensures.without;
}
