-- The answer: the heights of all procedures, and why a program is refused.
use Rattle.std.proofs.Common.{◌≡◌, ℕ, zero, suc, ◌<◌, Bool, true, true≢false, pos, List, [], ◌∷◌, ◌++◌, map, length, get_or, All, Contains, Option, Some, None, is_some, refl, sym, ap, ◌∙◌, subst, arith, ◌+◌, take}
use Rattle.std.specs.List.{AllZip}
use Rattle.std.proofs.lemmas.List.{take_more}
use Rattle.std.proofs.lemmas.Slice.Zip.{all_zipped_more}
use Rattle.std.proofs.lemmas.List.Elements.{All-contains, All-cons}
use Rattle.dcc_machine.specs.declared.image.Image.{Image}
use Rattle.dcc_prog.specs.declared.procedure.Layout.{Layout}
use Rattle.dcc_prog.specs.declared.procedure.Node.{Node}
use Rattle.dcc_prog.specs.declared.procedure.Proc.{Proc}
use Rattle.dcc_prog.specs.declared.refusal.ConstructKind.{ConstructKind}
use Rattle.dcc_prog.specs.declared.refusal.Refusal.{Refusal}
use Rattle.dcc_prog.specs.declared.frame.Heights.{Heights}
use Rattle.dcc_prog.specs.Trail.{IsEntry}
use Rattle.dcc_prog.specs.Height.{IsRemoved, IsHeight, GivesHeight, two_sizes}
use Rattle.dcc_prog.specs.Construct.{bad_height, IsAtHeight}
use Rattle.dcc_prog.specs.Refused.{IsRefusedByHeights, IsAcceptedByHeights}
use Rattle.dcc_prog.specs.Refused as refused
use Rattle.dcc_prog.specs.Found.{IsNodeFound, IsFound, AreFound}
use Rattle.dcc_prog.specs.Analysed.{AreHeightsOf, AreHeights}
use Rattle.dcc_heights.specs.Removed.{HasRet, IsSize, HasTwoSizes, AreByEntry, IsSizeFault}
use Rattle.dcc_heights.specs.Removed as removing
use Rattle.dcc_heights.specs.Search.{searched_procedure, height_in, entry_of, ordered_by, AreAllHeights, AreHeightsBy}
use Rattle.dcc_heights.specs.Search.{HasFault}
use Rattle.dcc_heights.proofs.Removing.{contains-listed, size-removed, ret-node, ret-stands, ret-reached}
use Rattle.dcc_heights.proofs.Giving.{is-found, given}
use Rattle.dcc_heights.proofs.Fine.{no-construct}
use Rattle.dcc_heights.proofs.Faulty.{fault-refused}

-- Lists.

zip-map :
    {A B : Type 0} (R S : A → B → Type 0) (xs : List A) (ys : List B)
    → ((x : A) → Contains xs x → (y : B) → R x y → S x y) → AllZip R xs ys
    → AllZip S xs ys
zip-map R S [] [] all zip = zip
zip-map R S [] (y ∷ ys) all zip = zip
zip-map R S (x ∷ xs) [] all zip = zip
zip-map R S (x ∷ xs) (y ∷ ys) all zip = (
  all x (0, omega arith, refl) y zip.0,
  zip-map R S xs ys (λ z c. all z (suc c.0, (let less = c.1 in omega (arith, less)), c.2)) zip.1,
)

zip-left :
    {A B : Type 0} (R : A → B → Type 0) (xs : List A) (ys : List B) (x : A) (k : ℕ) → k < length xs
    → get_or xs k x ≡ x → AllZip R xs ys
    → (y : B) × R x y
zip-left R [] ys x k inside is zip = absurd (omega (arith, inside))
zip-left R (a ∷ xs) [] x k inside is zip = absurd zip
zip-left R (a ∷ xs) (y ∷ ys) x zero inside is zip = (y, subst (λ z. R z y) is zip.0)
zip-left R (a ∷ xs) (y ∷ ys) x (suc k) inside is zip = zip-left R xs ys x k (omega (arith, inside)) is zip.1

-- one more of each
pub zipped-more :
    {A B : Type 0} (R : A → B → Type 0) (xs : List A) (ys zs : List B) (place : ℕ) (x : A) (y : B) → place < length xs
    → x ≡ get_or xs place x → AllZip R (take place xs) ys → R x y → zs ≡ ys ++ y ∷ []
    → AllZip R (take (place + 1) xs) zs
zipped-more R xs ys zs place x y inside is zip holds more =
    let taken = take_more xs place x inside ∙ ap (λ z. take place xs ++ z ∷ []) (sym is) in
    subst (λ l. AllZip R l zs) (sym taken)
    (subst (AllZip R (take place xs ++ x ∷ [])) (sym more) (all_zipped_more R (take place xs) ys x y zip holds))

-- each node has its height
record IsOrdered (heights : List (ℕ × ℕ)) (nodes : List (ℕ × Node)) (ordered : List (ℕ × ℕ)) : Type 0 where
  nodes_are : map (λ found. found.0) ordered ≡ map (λ node. node.0) nodes
  each : All (λ found. height_in heights found.0 ≡ Some found.1) ordered

ordered-cons :
    (heights : List (ℕ × ℕ)) (at : ℕ) (node : Node) (nodes : List (ℕ × Node)) (height : Option ℕ)
    → height_in heights at ≡ height → is_some height ≡ true → IsOrdered heights nodes (ordered_by heights nodes)
    → IsOrdered heights ((at, node) ∷ nodes) (entry_of at height ++ ordered_by heights nodes)
ordered-cons heights at node nodes None is some rest = absurd (true≢false (sym some))
ordered-cons heights at node nodes (Some height) is some rest = record {
  nodes_are = ap (λ l. at ∷ l) rest.nodes_are;
  each =
      All-cons (λ (found : ℕ × ℕ). height_in heights found.0 ≡ Some found.1) (at, height) (ordered_by heights nodes) is
      rest.each;
}

ordered-all :
    (heights : List (ℕ × ℕ)) (nodes : List (ℕ × Node))
    → ((at : ℕ) (node : Node) → Contains nodes (at, node) → is_some (height_in heights at) ≡ true)
    → IsOrdered heights nodes (ordered_by heights nodes)
ordered-all heights [] all = record { nodes_are = refl; each = λ k d inside. absurd (omega (arith, inside)) }
ordered-all heights (node ∷ nodes) all =
    ordered-cons heights node.0 node.1 nodes (height_in heights node.0) refl (all node.0 node.1 (0, omega arith, refl))
    (ordered-all heights nodes (λ at n c. all at n (suc c.0, (let less = c.1 in omega (arith, less)), c.2)))

-- One procedure.

module _ (image : Image) (layout : Layout) (procs : List Proc) (found : AreFound image layout procs)
    (removed : List (ℕ × ℕ)) (by_entry : AreByEntry procs removed) (proc : Proc) (among : Contains procs proc) where
  module _ (framed : Bool) (heights : List (ℕ × ℕ)) (all : AreAllHeights (searched_procedure proc framed removed)
      heights) where
    has-height : (at : ℕ) (node : Node) → Contains proc.nodes.entries (at, node) → is_some (height_in heights at) ≡ true
    has-height at node c =
        let f = All-contains (IsNodeFound image layout proc.entry) proc.nodes.entries (at, node)
        (is-found image layout procs found removed by_entry proc among framed).nodes c in
        let g = given image layout procs found removed by_entry proc among framed heights all f.node.before at
        f.node.trail in
        ap is_some g.is

    is-height : (at height : ℕ) → height_in heights at ≡ Some height → IsHeight image layout proc.entry at (pos height)
    is-height at height is before trail =
        let g = given image layout procs found removed by_entry proc among framed heights all before at trail in
        let both = sym g.is ∙ is in
        let same : g.height ≡ height = cc in
        subst (λ h. GivesHeight image layout proc.entry (at ∷ before) (pos h)) same g.gives

  heights-of :
      (answer : List (ℕ × ℕ)) → AreHeightsBy removed proc answer → AreHeightsOf image layout proc answer
  heights-of answer by =
      let ordered = ordered-all by.found proc.nodes.entries (has-height by.framed by.found by.all) in
      subst (AreHeightsOf image layout proc) (sym by.ordered) (record {
        nodes = ordered.nodes_are;
        each = λ k d inside.
            is-height by.framed by.found by.all (get_or (ordered_by by.found proc.nodes.entries) k d).0
            (get_or (ordered_by by.found proc.nodes.entries) k d).1 (ordered.each k d inside);
      })

  no-construct-by :
      (answer : List (ℕ × ℕ)) → AreHeightsBy removed proc answer → (kind : ConstructKind) (at : ℕ)
      → ¬ IsAtHeight image layout proc.entry at kind
  no-construct-by answer by kind at stands =
      no-construct image layout procs found removed by_entry proc among by.framed
      (by.framed_is image layout (is-found image layout procs found removed by_entry proc among by.framed)) by.found
      by.all kind at stands

  pub fault-by : (refusal : Refusal) → HasFault removed proc refusal → IsRefusedByHeights image layout refusal
  fault-by refusal has =
      fault-refused image layout procs found removed by_entry proc among has.framed
      (has.framed_is image layout (is-found image layout procs found removed by_entry proc among has.framed)) refusal
      has.fault

-- All procedures.

module _ (image : Image) (layout : Layout) (procs : List Proc) (found : AreFound image layout procs) where
  two-refused :
      (proc : Proc) → Contains procs proc → (refusal : Refusal) → HasTwoSizes proc.nodes.entries refusal
      → IsRefusedByHeights image layout refusal
  two-refused proc among _ (removing.HasTwoSizes.two_sizes {at} {from} {bytes} {other} ret another apart) =
      let is_found = All-contains (IsFound image layout) procs proc found.found among in
      let node = ret-node image layout proc is_found at bytes ret in
      let stands = ret-stands image layout proc is_found at bytes ret in
      refused.construct (record {
        entry = proc.entry;
        is_entry = All-contains (λ (p : Proc). IsEntry image layout p.entry) procs proc found.reached among;
        node = node;
        stands = bad_height (two_sizes node stands (ret-reached image layout proc is_found from other another) apart);
      })

  -- two sizes of RET
  pub size-fault-refused : (refusal : Refusal) → IsSizeFault procs refusal → IsRefusedByHeights image layout refusal
  size-fault-refused refusal (removing.IsSizeFault.of_proc {proc} among two) = two-refused proc among refusal two
  size-fault-refused _ removing.IsSizeFault.no_memory = refused.no_memory

  module _ (removed : List (ℕ × ℕ)) (by_entry : AreByEntry procs removed) where
    accepted :
        {M : Type 0} (entries : M → List (ℕ × ℕ)) (answers : List M) → AllZip
        (λ proc answer. AreHeightsBy removed proc (entries answer)) procs answers
        → IsAcceptedByHeights image layout
    accepted entries answers zip = record {
      no_construct = λ kind at stands.
          let there = found.every stands.entry stands.is_entry in
          let among = contains-listed procs there.place there.proc there.listed in
          let by = zip-left (λ proc answer. AreHeightsBy removed proc (entries answer)) procs answers there.proc
          among.0 among.1 among.2 zip in
          no-construct-by image layout procs found removed by_entry there.proc among (entries by.0) by.1 kind at
          (subst (λ e. IsAtHeight image layout e at kind) (sym there.entry_is) stands.stands);
      no_limit = λ what count none. none;
    }

    pub all-heights :
        (heights : Heights) → AllZip (λ proc answer. AreHeightsBy removed proc answer.entries) procs heights.at.items
        → AllZip (λ proc bytes. IsSize proc.nodes.entries bytes) procs heights.ret.items
        → AreHeights image layout procs heights
    all-heights heights zip sizes = record {
      at =
          zip-map (λ proc answer. AreHeightsBy removed proc answer.entries)
          (λ proc answer. AreHeightsOf image layout proc answer.entries) procs heights.at.items
          (λ proc among answer by. heights-of image layout procs found removed by_entry proc among answer.entries by)
          zip;
      removed =
          zip-map (λ proc bytes. IsSize proc.nodes.entries bytes)
          (λ proc bytes. IsRemoved image layout proc.entry bytes) procs heights.ret.items
          (λ proc among bytes size. size-removed image layout proc
          (All-contains (IsFound image layout) procs proc found.found among) bytes size) sizes;
      accepted = accepted (λ answer. answer.entries) heights.at.items zip;
    }
