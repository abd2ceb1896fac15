-- No height of an accepted program is above the greatest.
use Rattle.std.proofs.Common.{◌≡◌, sym, subst, ℕ, ◌≤◌, pos, inl, inr, List, [], ◌∷◌, map, All, BuildHasherDefault, FoldHasher, Global, arith}
use Rattle.indexmap.specs.declared.map.IndexMap.{IndexMap}
use Rattle.std.specs.List.{AllZip}
use Rattle.std.proofs.lemmas.Bool.{cases_lt}
use Rattle.std.proofs.lemmas.Int.{ints}
use Rattle.std.proofs.lemmas.List.Elements.{All-nil, All-cons, All-head, All-tail}
use Rattle.dcc_machine.specs.declared.image.Image.{Image}
use Rattle.dcc_prog.specs.declared.procedure.Layout.{Layout}
use Rattle.dcc_prog.specs.declared.procedure.Node.{Node}
use Rattle.dcc_prog.specs.declared.procedure.Proc.{Proc}
use Rattle.dcc_prog.specs.declared.refusal.ConstructKind.TheVariants.{StackHeight}
use Rattle.dcc_prog.specs.Trail.{IsNode, IsEntry}
use Rattle.dcc_prog.specs.Found.{IsNodeFound, IsFound}
use Rattle.dcc_prog.specs.Construct.{bad_height}
use Rattle.dcc_prog.specs.Height.{greatest_height, IsHeight, too_great}
use Rattle.dcc_prog.specs.Refused.{IsAcceptedByHeights}
use Rattle.dcc_prog.specs.Analysed.{AreHeightsOf}
use Rattle.dcc_lift.proofs.FewLaws.{IsReached}

-- the heights of a procedure, as the code has them
abbrev pub Table : Type 0
Table = IndexMap ℕ ℕ (BuildHasherDefault FoldHasher) Global FoldHasher

abbrev pub IsLow : ℕ × ℕ → Type 0
IsLow found = found.1 ≤ greatest_height

abbrev pub HasLow : Table → Type 0
HasLow table = All IsLow table.entries

module _ (image : Image) (layout : Layout) (accepted : IsAcceptedByHeights image layout) where
  low_height : (entry at height : ℕ) → IsEntry image layout entry → IsNode image layout entry at
      → IsHeight image layout entry at (pos height) → height ≤ greatest_height
  low_height entry at height is_entry node is = elim (cases_lt greatest_height height) [
    | inl more ↦
        absurd
        (accepted.no_construct StackHeight at
        (record {
          entry = entry;
          is_entry = is_entry;
          node = node;
          stands = bad_height (too_great (record { before = node.before; gives = is node.before node.trail })
              (omega (arith, ints, more)));
        }))
    | inr few ↦ few
  ]

  abbrev HasHeightOf : ℕ → ℕ × ℕ → Type 0
  HasHeightOf entry found = IsHeight image layout entry found.0 (pos found.1)

  low_nodes : (entry : ℕ) → IsEntry image layout entry → (nodes : List (ℕ × Node)) (heights : List (ℕ × ℕ))
      → map (λ (found : ℕ × ℕ). found.0) heights ≡ map (λ (node : ℕ × Node). node.0) nodes
      → All (IsNodeFound image layout entry) nodes → All (HasHeightOf entry) heights → All IsLow heights
  low_nodes entry is_entry nodes [] same found each = All-nil IsLow
  low_nodes entry is_entry [] (height ∷ heights) same found each = absurd (cc)
  low_nodes entry is_entry (node ∷ nodes) (height ∷ heights) same found each =
      let at : height.0 ≡ node.0 = cc in
      let rest : map (λ (found : ℕ × ℕ). found.0) heights ≡ map (λ (node : ℕ × Node). node.0) nodes = cc in
      let first = All-head (IsNodeFound image layout entry) node nodes found in
      let here : IsNode image layout entry height.0 = subst (IsNode image layout entry) (sym at) first.node in
      All-cons IsLow height heights
      (low_height entry height.0 height.1 is_entry here (All-head (HasHeightOf entry) height heights each))
      (low_nodes entry is_entry nodes heights rest (All-tail (IsNodeFound image layout entry) node nodes found)
      (All-tail (HasHeightOf entry) height heights each))

  pub low_heights : (procs : List Proc) (tables : List Table) → All (IsReached image layout) procs
      → All (IsFound image layout) procs
      → AllZip (λ proc table. AreHeightsOf image layout proc table.entries) procs tables → All HasLow tables
  low_heights [] [] are found heights = All-nil HasLow
  low_heights [] (table ∷ tables) are found heights = absurd heights
  low_heights (proc ∷ procs) [] are found heights = absurd heights
  low_heights (proc ∷ procs) (table ∷ tables) are found heights =
      let first = All-head (IsFound image layout) proc procs found in
      All-cons HasLow table tables
      (low_nodes proc.entry (All-head (IsReached image layout) proc procs are) proc.nodes.entries table.entries
      heights.0.nodes
      first.nodes heights.0.each)
      (low_heights procs tables (All-tail (IsReached image layout) proc procs are)
      (All-tail (IsFound image layout) proc procs found)
      heights.1)
