-- What is kept where a text is finished.
use Rattle.std.proofs.Common.{◌≡◌, true, List, sym, ap, ◌∙◌, subst}
use Rattle.dcc_ir.specs.Tree as inner
use Rattle.dcc_c.specs.Numbered.{numbered}
use Rattle.dcc_c.specs.Tree.{Global, Tree}
use Rattle.dcc_c.proofs.Writable.{IsWritable}
use Rattle.dcc_casts.specs.Casts.{without_casts, writing}
use Rattle.dcc_casts.specs.Laws.{NeedlessCastsMayGo}
use Rattle.dcc_named.specs.Laws.{AccessesMayBeNamed}
use Rattle.dcc_named.specs.Named as named
use Rattle.dcc_named.specs.Named.{with_names}
use Rattle.dcc_respell.specs.Laws.{RespelledTextsRunAlike}
use Rattle.dcc_print.specs.Unbroken.{is_unbroken_tree}
use Rattle.dcc_print.proofs.UnbrokenText.{tree-unbroken}
use Rattle.dcc_pipe.specs.Finished.{finished, IsFinishedFrom}
use Rattle.dcc_pipe.specs.Kept.{IsKept}
use Rattle.dcc_pipe.specs.WholeText.{whole_text, IsWholeText}
use Rattle.dcc_pipe.proofs.DeclaredFunctions.{same-autos}
use Rattle.dcc_pipe.proofs.KeptTexts.{kept-by, kept-further}

named-kept : RespelledTextsRunAlike → AccessesMayBeNamed → (plain : Tree) → IsWritable plain
    → IsKept plain (with_names plain)
named-kept law names plain writable =
    let by_names = names plain writable in
    kept-by law plain (with_names plain) by_names.writable by_names.respelled
    (same-autos (named.writing plain) _ _ plain.functions)

casts-kept : RespelledTextsRunAlike → NeedlessCastsMayGo → (tree : Tree) → IsWritable tree
    → IsKept tree (without_casts tree)
casts-kept law casts tree writable =
    let less = casts tree writable in
    kept-by law tree (without_casts tree) less.writable less.respelled (same-autos (writing tree) _ _ tree.functions)

pub finished-kept : RespelledTextsRunAlike → AccessesMayBeNamed → NeedlessCastsMayGo → (plain : Tree)
    → IsWritable plain → IsKept plain (finished plain)
finished-kept law names casts plain writable =
    let first = named-kept law names plain writable in
    kept-further plain (with_names plain) (finished plain) first (casts-kept law casts (with_names plain) first.writable)

-- the written form of a finished text holds it, so that its lines can be counted
pub finished-unbroken : RespelledTextsRunAlike → AccessesMayBeNamed → NeedlessCastsMayGo → (plain written : Tree)
    → IsWritable plain → written ≡ finished plain → is_unbroken_tree written ≡ true
finished-unbroken law names casts plain written writable same =
    ap is_unbroken_tree same ∙ tree-unbroken (finished plain) (finished-kept law names casts plain writable).writable

-- a tree whose lines are counted, and which was written so
pub is-finished : RespelledTextsRunAlike → AccessesMayBeNamed → NeedlessCastsMayGo → (plain written counted : Tree)
    → IsWritable plain → written ≡ finished plain → counted ≡ numbered written → IsFinishedFrom plain counted
is-finished law names casts plain written counted writable same counts = record {
  is = counts ∙ ap numbered same;
  kept = finished-kept law names casts plain writable;
}

-- what is told of the text of a program that is finished
pub finished-whole : (globals : List Global) (p : inner.Program) {plain : Tree} (whole : IsWholeText globals p plain)
    (tree : Tree) → IsFinishedFrom plain tree → IsFinishedFrom (whole_text whole.control globals p) tree
finished-whole globals p whole tree is = subst (λ plain. IsFinishedFrom plain tree) whole.is is
