-- What blocks are made of: heights, and the scenes of procedures one after the other.
use Rattle.std.proofs.Common.{◌≡◌, ◌∙◌, refl, sym, ap, ap₂, subst, ℕ, ◌+◌, ◌<◌, ◌≤◌, Bool, true, false, ◌==◌, if◌then◌else◌, cond, nat_eq, List, [], ◌∷◌, ◌++◌, map, drop, length, get_or, All, Option, Some, None, min, inl, inr, append_assoc, arith}
use Rattle.std.specs.List.{AllZip}
use Rattle.std.specs.List.Sorted.{IsStrictlyIncreasing}
use Rattle.std.specs.Map.{lookup}
use Rattle.std.proofs.lemmas.Bool.{ne_eqb, cases_lt}
use Rattle.std.proofs.lemmas.List.{at_drop_more, at_drop_all, append-nil, get_or-map, length-map}
use Rattle.std.proofs.lemmas.List.Elements.{All-nil, All-cons, All-head, All-tail, All-get_or}
use Rattle.dcc_machine.specs.declared.image.Image.{Image}
use Rattle.dcc_prog.specs.declared.procedure.Layout.{Layout}
use Rattle.dcc_prog.specs.declared.procedure.Node.{Node}
use Rattle.dcc_prog.specs.declared.procedure.Proc.{Proc}
use Rattle.dcc_prog.specs.declared.frame.Frame.{Frame}
use Rattle.dcc_prog.specs.Found.{IsFound}
use Rattle.dcc_prog.specs.Height.{greatest_height}
use Rattle.dcc_ir.specs.Tree.{Graph}
use Rattle.dcc_simulation.specs.Procedures.{Procedure, procedures_of}
use Rattle.dcc_lift.specs.declared.procedure.Procedure.{Procedure as Known}
use Rattle.dcc_lift.specs.KnownProcedures.{procedure_of}
use Rattle.dcc_lift.specs.Blocks.{BlockSource, height_in, node_stmts}
use Rattle.dcc_lift.specs.Translation.{IsGraphOf, scenes_of}
use Rattle.dcc_lift.specs.Known.{before_of}
use Rattle.dcc_lift.proofs.LowLaws.{IsLow}
use Rattle.dcc_lift.proofs.LeaderLaws.{same-eqb, increasing_offsets}

-- Heights.

pub height_from_lookup : (heights : List (ℕ × ℕ)) (at : ℕ) → lookup (nat_eq at) heights ≡ height_in heights at
height_from_lookup [] at = refl
height_from_lookup (first ∷ heights) at =
    ap (λ b. cond b (Some first.1) (lookup (nat_eq at) heights)) (same-eqb at first.0)
    ∙ ap (λ rest. if first.0 == at then Some first.1 else rest) (height_from_lookup heights at)

pub height_low : (heights : List (ℕ × ℕ)) (at height : ℕ) → All IsLow heights → height_in heights at ≡ Some height
    → height ≤ greatest_height
height_low [] at height low found = absurd (cc)
height_low (first ∷ heights) at height low found =
    go (first.0 == at) found (height_low heights at height (All-tail IsLow first heights low))
  where
    go : (b : Bool) → (if b then Some first.1 else height_in heights at) ≡ Some height
        → (height_in heights at ≡ Some height → height ≤ greatest_height) → height ≤ greatest_height
    go true e later = let same : first.1 ≡ height = cc in
        subst (λ h. h ≤ greatest_height) same (All-head IsLow first heights low)
    go false e later = later e

pub no_node : (scene : BlockSource) (height : Option ℕ) → node_stmts scene height None ≡ []
no_node scene None = refl
no_node scene (Some height) = refl

-- Scenes.

all_zip_more : {A B : Type 0} (R : A → B → Type 0) (xs : List A) (ys : List B) (x : A) (y : B) → AllZip R xs ys
    → R x y → AllZip R (xs ++ x ∷ []) (ys ++ y ∷ [])
all_zip_more R [] [] x y are is = (is, tt)
all_zip_more R [] (b ∷ ys) x y are is = absurd are
all_zip_more R (a ∷ xs) [] x y are is = absurd are
all_zip_more R (a ∷ xs) (b ∷ ys) x y are is = (are.0, all_zip_more R xs ys x y are.1 is)

none_before : (n : ℕ) → before_of (n + 1) ≡ 0
none_before n = ap (λ b. if b then 1 else 0) (ne_eqb (n + 1) 0 (λ e. omega arith))

pub before_small : (n : ℕ) → before_of n ≤ 1
before_small n = go (n == 0)
  where
    go : (b : Bool) → (if b then 1 else 0) ≤ 1
    go true = omega arith
    go false = omega arith

abbrev pub scene_made : Layout → List Procedure → ℕ → Procedure → List (ℕ × ℕ) → BlockSource
scene_made layout all before procedure heights =
    record { cpu = layout.cpu; procedures = all; procedure = procedure; heights = heights; before = before }

abbrev pub scene_with : Layout → List Procedure → ℕ → Procedure → List (ℕ × ℕ) → BlockSource
scene_with layout all n procedure heights = scene_made layout all (before_of n) procedure heights

-- the graphs of the first procedures, so many of them
pub record AreGraphsOfFirst (image : Image) (layout : Layout) (all : List Procedure) (heights : List (List (ℕ × ℕ)))
    (n : ℕ) (graphs : List Graph) : Type 0 where
  pub done : List BlockSource
  pub graphs_are : AllZip (IsGraphOf image layout) done graphs
  pub scenes_are : done ++ scenes_of layout all (before_of n) (drop n all) (drop n heights) ≡ scenes_of layout all 1
      all heights

module _ (image : Image) (layout : Layout) (all : List Procedure) (heights : List (List (ℕ × ℕ))) where
  pub no_graphs : AreGraphsOfFirst image layout all heights 0 []
  no_graphs = record { done = []; graphs_are = tt; scenes_are = refl }

  scene_step : (n : ℕ) (procedure : Procedure) (found : List (ℕ × ℕ)) → n < length all → n < length heights
      → procedure ≡ get_or all n procedure → found ≡ get_or heights n found
      → scenes_of layout all (before_of n) (drop n all) (drop n heights)
      ≡ scene_with layout all n procedure found ∷ scenes_of layout all (before_of (n + 1)) (drop (n + 1) all)
      (drop (n + 1) heights)
  scene_step n procedure found inside within read seen =
      at_drop_more (λ ps. scenes_of layout all (before_of n) ps (drop n heights)) all n procedure inside
      ∙ at_drop_more (λ hs. scenes_of layout all (before_of n) (get_or all n procedure ∷ drop (n + 1) all) hs) heights
      n found within
      ∙ ap₂ (λ p h. scene_with layout all n p h ∷ scenes_of layout all 0 (drop (n + 1) all) (drop (n + 1) heights))
      (sym read) (sym seen)
      ∙ ap (λ before. scene_with layout all n procedure found ∷ scenes_of layout all before (drop (n + 1) all)
      (drop (n + 1) heights)) (sym (none_before n))

  -- one graph more
  pub graph_more : (n : ℕ) (graphs : List Graph) (procedure : Procedure) (found : List (ℕ × ℕ)) (graph : Graph)
      → AreGraphsOfFirst image layout all heights n graphs
      → n < length all → n < length heights → procedure ≡ get_or all n procedure → found ≡ get_or heights n found
      → IsGraphOf image layout (scene_with layout all n procedure found) graph
      → AreGraphsOfFirst image layout all heights (n + 1) (graphs ++ graph ∷ [])
  graph_more n graphs procedure found graph are inside within read seen is = record {
    done = are.done ++ scene_with layout all n procedure found ∷ [];
    graphs_are = all_zip_more (IsGraphOf image layout) are.done graphs (scene_with layout all n procedure found) graph
        are.graphs_are is;
    scenes_are =
        append_assoc are.done (scene_with layout all n procedure found ∷ [])
        (scenes_of layout all (before_of (n + 1)) (drop (n + 1) all) (drop (n + 1) heights))
        ∙ ap (λ rest. are.done ++ rest) (sym (scene_step n procedure found inside within read seen))
        ∙ are.scenes_are;
  }

  no_heights : (before : ℕ) (ps : List Procedure) → scenes_of layout all before ps [] ≡ []
  no_heights before [] = refl
  no_heights before (p ∷ ps) = refl

  all_of : (n : ℕ) (graphs : List Graph) (are : AreGraphsOfFirst image layout all heights n graphs)
      → scenes_of layout all (before_of n) (drop n all) (drop n heights) ≡ []
      → AllZip (IsGraphOf image layout) (scenes_of layout all 1 all heights) graphs
  all_of n graphs are none =
      subst (λ scenes. AllZip (IsGraphOf image layout) scenes graphs)
      (sym (append-nil are.done) ∙ ap (λ rest. are.done ++ rest) (sym none) ∙ are.scenes_are) are.graphs_are

  -- the graphs so far are all, where no procedure is left, or no heights are
  pub all_graphs : (n : ℕ) (graphs : List Graph) → AreGraphsOfFirst image layout all heights n graphs
      → min (length all) (length heights) ≤ n
      → AllZip (IsGraphOf image layout) (scenes_of layout all 1 all heights) graphs
  all_graphs n graphs are past = elim (cases_lt n (length all)) [
    | inl inside ↦
        all_of n graphs are (at_drop_all (λ hs. scenes_of layout all (before_of n) (drop n all) hs) heights n
        (omega arith) ∙ no_heights (before_of n) (drop n all))
    | inr out ↦ all_of n graphs are
        (at_drop_all (λ ps. scenes_of layout all (before_of n) ps (drop n heights)) all n out)
  ]

-- Procedures that ascend.

abbrev pub Ascends : Procedure → Type 0
Ascends p = IsStrictlyIncreasing (map (λ (found : ℕ × Node). found.0) p.proc.nodes.entries)

pub all_ascend : (image : Image) (layout : Layout) (procs : List Proc) (frames : List Frame)
    → All (IsFound image layout) procs → All Ascends (procedures_of layout procs frames)
all_ascend image layout [] frames found = All-nil Ascends
all_ascend image layout (proc ∷ procs) [] found = All-nil Ascends
all_ascend image layout (proc ∷ procs) (frame ∷ frames) found =
    All-cons Ascends (record { proc = proc; frame = frame; delta = layout.delta }) (procedures_of layout procs frames)
    (increasing_offsets proc.nodes.entries (All-head (IsFound image layout) proc procs found).ascending)
    (all_ascend image layout procs frames (All-tail (IsFound image layout) proc procs found))

pub one_ascends : (known : List Known) (n : ℕ) (p : Known) → n < length known → p ≡ get_or known n p
    → All Ascends (map procedure_of known) → Ascends (procedure_of p)
one_ascends known n p inside read all =
    subst Ascends (get_or-map procedure_of known n p (procedure_of p) inside ∙ ap procedure_of (sym read))
    (All-get_or Ascends (map procedure_of known) n (procedure_of p)
    (omega (arith, length-map known procedure_of, inside)) all)
