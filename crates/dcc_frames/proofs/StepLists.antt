-- The instructions with their heights, one after another, and the one at a node.
use Rattle.std.proofs.Common.{Contains, subst, ◌≡◌, ◌≤◌, ℕ, zero, suc, ◌+◌, min, List, [], ◌∷◌, ◌++◌, take, length, Some, slice_get, refl, ap, ◌∙◌, add-one, arith}
use Rattle.std.proofs.lemmas.List.Elements.{All-contains}
use Rattle.dcc_machine.specs.declared.image.Image.{Image}
use Rattle.dcc_prog.specs.declared.procedure.Layout.{Layout}
use Rattle.dcc_prog.specs.declared.procedure.Node.{Node}
use Rattle.dcc_prog.specs.Trail.{IsNode}
use Rattle.dcc_frames.specs.declared.steps.Step.{Step}
use Rattle.dcc_frames.specs.Steps.{steps_of}
use Rattle.dcc_frames.specs.Body.{IsStep, AreSteps}

-- a node with its height
abbrev pub step_of : ℕ × Node → ℕ × ℕ → Step
step_of node height = record { at = node.0; op = node.1.instr.op; height = height.1 }

steps-suc :
    (nodes : List (ℕ × Node)) (heights : List (ℕ × ℕ)) (i : ℕ) (node : ℕ × Node) (height : ℕ × ℕ)
    → Some node ≡ slice_get nodes i → Some height ≡ slice_get heights i
    → steps_of (take (suc i) nodes) (take (suc i) heights) ≡ steps_of (take i nodes) (take i heights) ++ step_of
    node height ∷ []
steps-suc [] heights i node height first second = absurd (cc)
steps-suc (n ∷ nodes) [] i node height first second = absurd (cc)
steps-suc (n ∷ nodes) (h ∷ heights) zero node height first second =
    let a : n ≡ node = cc in let b : h ≡ height = cc in ap (λ s. s ∷ []) ((λ j. step_of (a j) (b j)))
steps-suc (n ∷ nodes) (h ∷ heights) (suc i) node height first second =
    ap (λ l. step_of n h ∷ l) (steps-suc nodes heights i node height first second)

pub steps-more :
    (nodes : List (ℕ × Node)) (heights : List (ℕ × ℕ)) (i : ℕ) (node : ℕ × Node) (height : ℕ × ℕ)
    → Some node ≡ slice_get nodes i → Some height ≡ slice_get heights i
    → steps_of (take (i + 1) nodes) (take (i + 1) heights) ≡ steps_of (take i nodes) (take i heights) ++ step_of
    node height ∷ []
steps-more nodes heights i node height first second =
    ap (λ n. steps_of (take n nodes) (take n heights)) (add-one i) ∙ steps-suc nodes heights i node height first second

-- where the shorter list is taken whole, all is
pub steps-all :
    (nodes : List (ℕ × Node)) (heights : List (ℕ × ℕ)) (i : ℕ) → min (length nodes) (length heights) ≤ i
    → steps_of (take i nodes) (take i heights) ≡ steps_of nodes heights
steps-all [] heights zero whole = refl
steps-all [] heights (suc i) whole = refl
steps-all (n ∷ nodes) [] zero whole = refl
steps-all (n ∷ nodes) [] (suc i) whole = refl
steps-all (n ∷ nodes) (h ∷ heights) zero whole = absurd (omega (arith, whole))
steps-all (n ∷ nodes) (h ∷ heights) (suc i) whole =
    ap (λ l. step_of n h ∷ l) (steps-all nodes heights i (omega (arith, whole)))

module _ (image : Image) (layout : Layout) (entry : ℕ) (steps : List Step)
    (are : AreSteps image layout entry steps) where
  -- what a fact says of the instruction at a node
  pub at-node :
      (P : ℕ → Type 0) → ((step : Step) → Contains steps step → IsStep image layout entry step → P step.at) → (at : ℕ)
      → IsNode image layout entry at → P at
  at-node P each at node =
      let h = are.every at node in
      subst P h.at_is (each h.step h.among (All-contains (IsStep image layout entry) steps h.step are.each h.among))

  pub is-step : (step : Step) → Contains steps step → IsStep image layout entry step
  is-step step among = All-contains (IsStep image layout entry) steps step are.each among
