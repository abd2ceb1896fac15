use Rattle.std.proofs.Common.{◌≡◌, ℕ, ◌<◌, List, length, map, min, refl, sym, ap, subst, ◌∙◌, arith}
use Rattle.std.specs.List.{zip}
use Rattle.std.specs.Prelude.{option_map}
use Rattle.std.proofs.lemmas.Option.{slice_get_read}
use Rattle.std.proofs.lemmas.Slice.Zip.{length-zip}
use Rattle.dcc_prog.specs.declared.procedure.Proc.{Proc}
use Rattle.dcc_prog.specs.declared.frame.Frame.{Frame}
use Rattle.dcc_c.specs.Views.{function_of, tree_of}
use Rattle.dcc_shape.specs.Shape.{LacksShape}
use Rattle.dcc_pipe.specs.Shaped.{asked_of}
use Rattle.dcc_pipe.proofs.ShapedLaws.{lacking-within}
use Rattle.dcc_pipe.proofs.decompilation.shaped.Goals as goal
use Rattle.dcc_pipe.proofs.decompilation.shaped.Goals.{In-Some}

-- the procedure whose function lacks its shape
lacks : (c : In-Some) → LacksShape c.in-Some.first (asked_of c.args.program.now) (tree_of c.args.unit).functions
lacks c =
    subst (λ procs. LacksShape c.in-Some.first (zip procs c.args.program.now.cells.frames.items) (tree_of c.args.unit).functions)
    c.as_slice.ensures.value
    (subst (λ frames. LacksShape c.in-Some.first (zip c.as_slice.result.now frames) (tree_of c.args.unit).functions)
    c.as_slice-2.ensures.value
    (subst
    (λ functions. LacksShape c.in-Some.first (zip c.as_slice.result.now c.as_slice-2.result.now) (map function_of functions))
    c.as_slice-3.ensures.value
    (c.in_ok-has_shape.ensures.lacks c.in-Some.first c.in-Some.is)))

long : (procs : List Proc) (frames : List Frame) → length procs ≡ length frames → length (zip procs frames) ≡ length procs
long procs frames same = omega (arith, length-zip procs frames, same)

first-within : (c : In-Some) → c.in-Some.first < length c.args.program.now.procs.items
first-within c =
    let procs = c.args.program.now.procs.items in
    let many = long procs c.args.program.now.cells.frames.items c.requires.frames in
    let less =
    lacking-within c.in-Some.first (asked_of c.args.program.now) (tree_of c.args.unit).functions (many ∙ c.requires.functions)
    (lacks c) in
    omega (arith, less, many)

pub index-requires : goal.index-requires
index-requires c = let less = first-within c in omega (arith, less)

pub returns-in-Some-clause-lacks : goal.returns-in-Some-clause-lacks
returns-in-Some-clause-lacks c =
    let first = c.in-Some.first in
    let procs = c.args.program.now.procs.items in
    let at = (goal.at.returns-in-Some-clause-lacks c).In-Some in
    record {
      number = first;
      lacks = lacks at;
      entry = ap (option_map (λ (proc : Proc). proc.entry))
          (slice_get_read procs (length procs) first c.index.result.now refl (first-within at) c.index.ensures);
    }
