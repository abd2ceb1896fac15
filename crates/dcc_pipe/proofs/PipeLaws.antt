-- The text of a loaded program, from its parts.
use Rattle.std.proofs.Common.{◌≡◌, ℕ, ◌<◌, ◌≤◌, true, List, [], ◌∷◌, length, refl, sym, ap, ◌∙◌, subst, arith}
use Rattle.dcc_machine.specs.declared.image.Image.{Image}
use Rattle.dcc_prog.specs.declared.frame.Program.{Program}
use Rattle.dcc_prog.specs.Analysed.{IsProgramOf}
use Rattle.dcc_ir.specs.Tree as inner
use Rattle.dcc_c.specs.declared.syntax.Unit.{Unit as TextUnit}
use Rattle.dcc_c.specs.Views.{tree_of}
use Rattle.dcc_c.specs.Written.{written_form}
use Rattle.dcc_c.specs.Numbered.{numbered}
use Rattle.dcc_c.specs.Tree.{Global, Tree}
use Rattle.dcc_c.proofs.NumberedForm.{written_numbered}
use Rattle.dcc_c.proofs.PrintLaws.{writable_stands}
use Rattle.dcc_c.proofs.Writable.{IsWritable}
use Rattle.dcc_pipe.specs.Control.{Control, AreControls}
use Rattle.dcc_pipe.specs.WholeText.{whole_text, IsWholeText, FitsText}
use Rattle.dcc_pipe.specs.Agreement.{IsTextOf}
use Rattle.dcc_pipe.specs.Following.{IsFollowing}
use Rattle.dcc_pipe.specs.GlobalData.{AreGlobalsFor}
use Rattle.dcc_pipe.specs.Kept.{IsKept}
use Rattle.dcc_pipe.proofs.TextRuns.{text-agrees}
use Rattle.dcc_pipe.proofs.TokenCounts.{unit-count}
use Rattle.dcc_pipe.proofs.WholeTexts.{with_first}
use Rattle.dcc_pipe.proofs.WritableWholes.{whole-writable}

-- a program has a first graph
record HasFirst (p : inner.Program) : Type 0 where
  first : inner.Graph
  others : List inner.Graph
  is : with_first first others p.image p.lo p.hi ≡ p

has-first : (graphs : List inner.Graph) (image : List ℕ) (lo hi : ℕ) → 0 < length graphs
    → HasFirst (record { graphs = graphs; image = image; lo = lo; hi = hi })
has-first [] image lo hi some = absurd (omega (arith, some))
has-first (g ∷ graphs) image lo hi some = record { first = g; others = graphs; is = refl }

first-of : (p : inner.Program) → FitsText p → HasFirst p
first-of p fits = has-first p.graphs p.image p.lo p.hi fits.textable.formed.begins

-- a text of a program that fits is writable
fits-writable : (control : Control) (globals : List Global) (p : inner.Program) → FitsText p → AreControls control p
    → AreGlobalsFor p globals → IsWritable (whole_text control globals p)
fits-writable control globals p fits controls may_declare =
    let it = first-of p fits in
    subst (λ p. FitsText p → AreControls control p → AreGlobalsFor p globals → IsWritable (whole_text control globals p)) it.is
    (λ fits. whole-writable control globals it.first it.others p.image p.lo p.hi fits.textable.formed fits.few
    fits.textable.shallow fits.takes) fits controls may_declare

pub whole-is-writable : (globals : List Global) (p : inner.Program) {tree : Tree} (whole : IsWholeText globals p tree)
    → FitsText p → AreGlobalsFor p globals → IsWritable tree
whole-is-writable globals p whole fits may_declare =
    subst IsWritable (sym whole.is) (fits-writable whole.control globals p fits whole.controls may_declare)

-- The text of a program that follows the image, otherwise written.
module _ (image : Image) (program : Program) (is : IsProgramOf program.layout.cpu image program) (control : Control)
    (globals : List Global) (final : Tree) where
  -- such a text agrees with the image
  agreeing-text : (p : inner.Program) → FitsText p → AreControls control p → AreGlobalsFor p globals
      → IsFollowing image program p → IsKept (whole_text control globals p) final → IsTextOf program.layout.cpu image (written_form final) (numbered final)
  agreeing-text p fits controls may_declare follows kept =
      let it = first-of p fits in
      subst (λ p. FitsText p → AreControls control p → AreGlobalsFor p globals → IsFollowing image program p
      → IsKept (whole_text control globals p) final
      → IsTextOf program.layout.cpu image (written_form final) (numbered final)) it.is
      (λ fits controls may_declare follows kept.
      let q = with_first it.first it.others p.image p.lo p.hi in
      let plain = whole_text control globals q in
      let stands = writable_stands plain (fits-writable control globals q fits controls may_declare) in
      let also = writable_stands final kept.writable in
      let tokens = length also.tokens in
      let few = subst (λ n. n ≤ tokens) kept.size (unit-count 200 also.tokens (numbered final) also.formed) in
      record {
        stands = also;
        runs = λ input fill bytes small.
            kept.runs program.layout.cpu image stands also tokens input fill
            (text-agrees image program control globals it.first it.others p.image p.lo p.hi controls is fits may_declare follows
            (written_form plain) stands tokens few input fill bytes small);
      }) fits controls may_declare follows kept

  -- what is told of a unit whose tree is that text's, with its lines counted
  pub text-is : (p : inner.Program) → FitsText p → AreControls control p → AreGlobalsFor p globals
      → IsFollowing image program p → IsKept (whole_text control globals p) final → (unit : TextUnit) → tree_of unit ≡ numbered final
      → IsTextOf program.layout.cpu image (written_form (tree_of unit)) (tree_of unit)
  text-is p fits controls may_declare follows kept unit same =
      let tree = numbered final in
      subst (λ t. IsTextOf program.layout.cpu image (written_form t) t) (sym same)
      (subst (λ text. IsTextOf program.layout.cpu image text tree) (sym (written_numbered final))
      (agreeing-text p fits controls may_declare follows kept))
