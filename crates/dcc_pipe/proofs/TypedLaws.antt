-- The functions of a text keep in memory just what the frames of their procedures expose.
use Rattle.std.proofs.Common.{◌≡◌, ℕ, ◌+◌, Bool, true, false, ◌==◌, List, [], ◌∷◌, ◌++◌, map, length, Option, Some, inl, inr, refl, sym, ap, ap₂, ◌∙◌, subst, true≢false, eqb-true}
use Rattle.std.specs.Prelude.{filter, if◌then◌else◌, All, codes}
use Rattle.std.specs.List.{AllZip, zip}
use Rattle.std.proofs.lemmas.Slice.Zip.{AllZip-long}
use Rattle.std.proofs.lemmas.List.Elements.{All-head, All-tail}
use Rattle.dcc_machine.specs.declared.image.Image.{Image}
use Rattle.dcc_prog.specs.declared.procedure.Layout.{Layout}
use Rattle.dcc_prog.specs.declared.procedure.Proc.{Proc}
use Rattle.dcc_prog.specs.declared.frame.Frame.{Frame}
use Rattle.dcc_prog.specs.declared.frame.Program.{Program as Analysed}
use Rattle.dcc_stack.specs.Accepted.{IsProgramOfFile}
use Rattle.dcc_ir.specs.declared.syntax.Loc.{Loc}
use Rattle.dcc_ir.specs.declared.syntax.Param.{Param}
use Rattle.dcc_ir.specs.Tree.{Graph, Program}
use Rattle.dcc_lift.specs.Lifted.{IsLiftOf}
use Rattle.dcc_lift.specs.Translated.{IsTranslated}
use Rattle.dcc_sums.specs.Localised.{trim_by}
use Rattle.dcc_simulation.specs.Nodes.{procedures_in}
use Rattle.dcc_simulation.specs.Procedures.{Procedure, procedures_of}
use Rattle.dcc_c.specs.declared.syntax.Base.TheVariants.{Uchar}
use Rattle.dcc_c.specs.declared.syntax.Class.TheVariants.{Auto}
use Rattle.dcc_c.specs.Placement.{is_auto}
use Rattle.dcc_c.specs.Types.{plain}
use Rattle.dcc_c.specs.Numbered.{numbered}
use Rattle.dcc_c.specs.Tree.{Word, Global, Variable, Function, Tree}
use Rattle.dcc_shape.specs.Carried.{UsesAddressesAlone}
use Rattle.dcc_shape.specs.Shape.{HaveShape, nothing, one_more}
use Rattle.dcc_variables.specs.FunctionLaws.{HasFewNames}
use Rattle.dcc_variables.specs.Functions.{function_name, function_names, parameter_class, parameters_from, parameters, memory_from, function_shape, is_own}
use Rattle.dcc_variables.specs.Variables.{Shape, takes_address, variable, frame_name, frame_array}
use Rattle.dcc_pipe.specs.Prepared.{IsPrepared}
use Rattle.dcc_pipe.specs.Simplified.{HasEachChanged}
use Rattle.dcc_tidy.specs.Tidied.{IsTidiedGraph}
use Rattle.dcc_control.specs.Plan.{Plan}
use Rattle.dcc_pipe.specs.Control.{Control}
use Rattle.dcc_pipe.specs.WholeText.{whole_text}
use Rattle.dcc_pipe.specs.Shaped.{asked_of}
use Rattle.dcc_pipe.specs.TypedFrames.{param_classes, procedure_names, HasArrayOf, exposed, for_moves, HasTypedFrame, AreTypedFrames}
use Rattle.dcc_pipe.proofs.FunctionTables.{IsOne, IsOneOf, all-numbered}
use Rattle.dcc_pipe.specs.Kept.{IsDeclaredAs, IsKept}
use Rattle.dcc_pipe.proofs.DeclaredFunctions.{names-as, unplaced-as}
use Rattle.dcc_pipe.proofs.MovesLaws.{lifted-pass, graphs-move}
use Rattle.dcc_pipe.proofs.StandingLaws.{prepared-stands, procedures-found}
use Rattle.dcc_pipe.proofs.TidiedFrames.{AddressesTold, HasFrameFor, all-frames}
use Rattle.dcc_pipe.proofs.WholeTexts.{one-unplaced, text-names}

-- where the procedure exposes no local byte, the function uses of `auto` variables the addresses alone
abbrev IsAloneFor : Procedure → Function → Type 0
IsAloneFor p f = p.frame.exposed.local ≡ 0 → UsesAddressesAlone f

-- Parameters.

classes-are : (bits : List ℕ) (j : ℕ) (params : List Param)
    → map (λ (v : Variable). v.class) (parameters_from bits j params) ≡ map parameter_class params
classes-are bits j [] = refl
classes-are bits j (p ∷ params) = ap (λ cs. parameter_class p ∷ cs) (classes-are bits (j + 1) params)

module _ (p : Procedure) (g : Graph) (frame : HasFrameFor p g) where
  params-classes : map (λ (v : Variable). v.class) (parameters g) ≡ param_classes p.frame frame.others
  params-classes = classes-are g.bits 0 g.params ∙ frame.classes

  -- Local variables.

  abbrev autos : List Variable → List Variable
  autos vs = filter (λ (v : Variable). is_auto v.class) vs

  array-auto : (bytes : ℕ) → autos (frame_array bytes) ≡ frame_array bytes
  array-auto bytes = by (bytes == 0) (record { name = frame_name; type = plain Uchar; len = Some bytes; class = Auto }) refl
    where
      by : (none : Bool) (array : Variable) → array.class ≡ Auto
          → autos (if none then [] else array ∷ []) ≡ (if none then [] else array ∷ [])
      by true array is = refl
      by false array is = ap (λ class. if is_auto class then array ∷ [] else []) is

  locals-auto : (shape : Shape) (ls : List Loc) (bytes : ℕ)
      → autos (map (variable shape) ls ++ frame_array bytes) ≡ frame_array bytes
  locals-auto shape [] bytes = array-auto bytes
  locals-auto shape (l ∷ ls) bytes = locals-auto shape ls bytes

  abbrev bytes : ℕ
  bytes = (function_shape g).frame

  abbrev told : Option ℕ
  told = memory_from 0 g.params

  array-of : (f : Function) → IsAloneFor p f → HasArrayOf p f bytes
  array-of f alone = by (g.local == 0) refl (takes_address told g) refl
    where
      where-taken : AddressesTold p g → takes_address told g ≡ true → g.local ≡ 0 → HasArrayOf p f 1
      where-taken (inl away) taken none = absurd (true≢false (sym taken ∙ away))
      where-taken (inr moved) taken none = let zero_local = sym frame.local ∙ none in for_moves zero_local moved (alone zero_local)

      by : (none : Bool) → (g.local == 0) ≡ none → (takes : Bool) → takes_address told g ≡ takes
          → HasArrayOf p f (if none then (if takes then 1 else 0) else g.local)
      by false is takes taken = subst (HasArrayOf p f) (sym frame.local) exposed
      by true is true taken = let none = eqb-true g.local 0 is in where-taken (frame.addresses none) taken none
      by true is false taken = subst (HasArrayOf p f) (sym frame.local ∙ eqb-true g.local 0 is) exposed

  -- The function.

  typed-frame : HasFewNames g → (plan : Plan) (f h : Function) → IsOne plan g f → IsDeclaredAs f h → IsAloneFor p h
      → HasTypedFrame p h
  typed-frame few plan f h is declared alone =
      let number = is.1 in record {
        others = frame.others;
        params = declared.classes
            ∙ ap (λ (h : Function). map (λ (v : Variable). v.class) h.params) number.is ∙ params-classes;
        bytes = bytes;
        array = array-of h alone;
        locals = declared.autos ∙ ap (λ (h : Function). autos h.locals) number.is
            ∙ locals-auto (function_shape g) (filter (is_own g) (function_shape g).locations) bytes;
        addresses = unplaced-as f h declared (one-unplaced g plan f is few);
      }

-- The functions of a text.

all-typed : (control : Control) (ps : List Procedure) (gs : List Graph) (fs hs : List Function)
    → AllZip HasFrameFor ps gs → All HasFewNames gs → AllZip (IsOneOf control) gs fs → AllZip IsDeclaredAs fs hs
    → AllZip IsAloneFor ps hs → AllZip HasTypedFrame ps hs
all-typed control [] [] [] [] frames few are declared alone = tt
all-typed control [] [] [] (h ∷ hs) frames few are declared alone = absurd declared
all-typed control [] [] (f ∷ fs) hs frames few are declared alone = absurd are
all-typed control [] (g ∷ gs) fs hs frames few are declared alone = absurd frames
all-typed control (p ∷ ps) [] fs hs frames few are declared alone = absurd frames
all-typed control (p ∷ ps) (g ∷ gs) [] hs frames few are declared alone = absurd are
all-typed control (p ∷ ps) (g ∷ gs) (f ∷ fs) [] frames few are declared alone = absurd declared
all-typed control (p ∷ ps) (g ∷ gs) (f ∷ fs) (h ∷ hs) frames few are declared alone = (
  typed-frame p g frames.0 (All-head HasFewNames g gs few) (control g) f h are.0 declared.0 alone.0,
  all-typed control ps gs fs hs frames.1 (All-tail HasFewNames g gs few) are.1 declared.1 alone.1,
)

-- where the functions have their shape, they are so
all-alone : (layout : Layout) (procs : List Proc) (frames : List Frame) (fs : List Function) → HaveShape (zip procs frames) fs
    → AllZip IsAloneFor (procedures_of layout procs frames) fs
all-alone layout [] frames _ nothing = tt
all-alone layout (proc ∷ procs) [] _ nothing = tt
all-alone layout (proc ∷ procs) (frame ∷ frames) [] shaped = elim shaped [ ]
all-alone layout (proc ∷ procs) (frame ∷ frames) (f ∷ fs) (one_more has rest) =
    (has.addresses, all-alone layout procs frames fs rest)

others-are : (ps : List Procedure) (gs : List Graph) → AllZip HasFrameFor ps gs
    → map (λ (g : Graph). function_name g.entry) gs ≡ map (λ (p : Procedure). function_name p.proc.entry) ps
others-are [] [] frames = refl
others-are [] (g ∷ gs) frames = absurd frames
others-are (p ∷ ps) [] frames = absurd frames
others-are (p ∷ ps) (g ∷ gs) frames = ap₂ (λ n ws. function_name n ∷ ws) frames.0.entry (others-are ps gs frames.1)

names-are : (ps : List Procedure) (gs : List Graph) → AllZip HasFrameFor ps gs → function_names gs ≡ procedure_names ps
names-are [] [] frames = refl
names-are [] (g ∷ gs) frames = absurd frames
names-are (p ∷ ps) [] frames = absurd frames
names-are (p ∷ ps) (g ∷ gs) frames = ap (λ ws. codes "start" ∷ ws) (others-are ps gs frames.1)

-- Of a text that is otherwise written than that of what is tidied of a prepared program there is a function for each procedure; where they have their
-- shape, they keep in memory just what the frames expose.
pub typed-tree : (ids : List ℕ) (image : Image) (program : Analysed) (p q r : Program)
    → IsProgramOfFile program.layout.cpu image program → IsLiftOf image program p → IsPrepared p q
    → HasEachChanged (IsTidiedGraph ids) q r → All HasFewNames r.graphs → (control : Control)
    (globals : List Global) (final : Tree) → IsKept (whole_text control globals r) final → (tree : Tree) → tree ≡ numbered final
    → (length (procedures_in program) ≡ length tree.functions)
    × (HaveShape (asked_of program) tree.functions → AreTypedFrames (procedures_in program) tree.functions)
typed-tree ids image program p q r file of is tidy few control globals final kept tree same =
    let translated : IsTranslated image program p = record { of_file = file; translation = of.translation } in
    let stand = prepared-stands image program p q file of is in
    let procedures = procedures_in program in
    let move =
    graphs-move image program p translated (trim_by p.graphs is.sums) program.layout.start_ip procedures
    p.graphs q.graphs of.lifted.graphs (procedures-found image program p q file of is)
    (lifted-pass image program p translated) stand is.made.graphs in
    let frames = all-frames ids procedures q.graphs r.graphs stand move tidy.graphs in
    let plain = whole_text control globals r in
    let before = (numbered plain).functions in
    let functions = (numbered final).functions in
    let are = all-numbered control _ r.graphs in
    subst
    (λ (t : Tree). (length procedures ≡ length t.functions)
    × (HaveShape (asked_of program) t.functions → AreTypedFrames procedures t.functions)) (sym same) (
      sym (AllZip-long IsDeclaredAs before functions kept.declared ∙ AllZip-long (IsOneOf control) r.graphs before are
          ∙ AllZip-long HasFrameFor procedures r.graphs frames),
      λ shaped. record {
        names = names-as before functions kept.declared ∙ text-names control _ r.graphs
            ∙ names-are procedures r.graphs frames;
        frames =
            all-typed control procedures r.graphs before functions frames few are kept.declared
            (all-alone program.layout program.procs.items program.cells.frames.items functions shaped);
      },
    )
