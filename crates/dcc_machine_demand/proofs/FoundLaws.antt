-- The analyses find one program in an image: the same procedures, with the same frames and heights.
use Rattle.std.proofs.Common.{◌≡◌, ◌≢◌, ◌<◌, ◌⊎◌, inl, inr, ℕ, zero, suc, pos, List, [], ◌∷◌, map, slice_get, Contains, All, AllPairs, Some, refl, sym, ap, ap₂, ◌∙◌, subst, arith}
use Rattle.std.specs.Prelude.{zip, ◌<ℤ◌, ◌+ℤ◌}
use Rattle.std.specs.List.{AllZip}
use Rattle.std.proofs.lemmas.Int.{ints}
use Rattle.std.proofs.lemmas.List.Elements.{All-contains, All-head, All-tail, All-nil, All-cons}
use Rattle.dcc_machine.specs.declared.cpu.Cpu.{Cpu}
use Rattle.dcc_machine.specs.declared.image.Image.{Image}
use Rattle.dcc_prog.specs.declared.procedure.Layout.{Layout}
use Rattle.dcc_prog.specs.declared.procedure.Node.{Node}
use Rattle.dcc_prog.specs.declared.procedure.Proc.{Proc}
use Rattle.dcc_prog.specs.declared.frame.Cell.{Cell}
use Rattle.dcc_prog.specs.declared.frame.Frame.{Frame}
use Rattle.dcc_prog.specs.declared.frame.Program.{Program}
use Rattle.dcc_machine.specs.declared.instr.Instr.{Instr}
use Rattle.dcc_machine.specs.declared.instr.Op.{Op}
use Rattle.dcc_machine.specs.declared.instr.Op.TheVariants.{Int21}
use Rattle.dcc_prog.specs.Trail.{successors, IsTrail, IsNode, IsEntry}
use Rattle.dcc_prog.specs.Height.{IsHeight, HasHeight, two_heights}
use Rattle.dcc_prog.specs.FrameForm.{is_framed}
use Rattle.dcc_prog.specs.Frame.{Span, HasArguments, IsCell, HasExposedLocal, HasExposedArguments}
use Rattle.dcc_prog.specs.Construct.{bad_height}
use Rattle.dcc_prog.specs.Found.{IsNodeFound, IsFound, AreFound}
use Rattle.dcc_prog.specs.Analysed.{AreHeightsOf, bytes_of, IsFrameOf, IsProgramOf}
use Rattle.dcc_prog.specs.Refused.{IsAcceptedByHeights}
use Rattle.dcc_prog.specs.declared.refusal.ConstructKind.TheVariants.{StackHeight}
use Rattle.dcc_prog.proofs.LayoutLaws.{layout-once}
use Rattle.dcc_prog.proofs.FrameLaws.{arguments-once, local-once, argument-once}
use Rattle.dcc_stack.proofs.FormHeights.{int-same}
use Rattle.dcc_machine_demand.specs.Bodies.{Body, entry_of, bodies_of}
use Rattle.dcc_machine_demand.proofs.AlikeBodies.{AreOneNode, AreOneBody}

-- Lists.

here : {A : Type 0} (x : A) (xs : List A) → Contains (x ∷ xs) x
here x xs = (0, omega arith, refl)

later : {A : Type 0} (x y : A) (xs : List A) → Contains xs y → Contains (x ∷ xs) y
later x y xs (k, inside, is) = (suc k, omega (arith, inside), is)

either : {A : Type 0} (x y : A) (xs : List A) → Contains (x ∷ xs) y → (x ≡ y) ⊎ Contains xs y
either x y xs (zero, inside, is) = inl is
either x y xs (suc k, inside, is) = inr (k, omega (arith, inside), is)

nothing : {A : Type 0} (x : A) → Contains [] x → ⊥
nothing x (k, inside, is) = omega (arith, inside)

at_place : {A : Type 0} (xs : List A) (k : ℕ) (x : A) → slice_get xs k ≡ Some x → Contains xs x
at_place [] zero x e = absurd (cc e)
at_place [] (suc k) x e = absurd (cc e)
at_place (y ∷ xs) zero x e = (0, omega arith, cc e)
at_place (y ∷ xs) (suc k) x e = later y x xs (at_place xs k x e)

first_below : {A : Type 0} (R : A → A → Type 0) (x y : A) (xs : List A) → AllPairs R (x ∷ xs) → Contains xs y → R x y
first_below R x y xs up (k, inside, is) = subst (R x) is (up 0 (suc k) y (omega arith) (omega (arith, inside)))

rest_up : {A : Type 0} (R : A → A → Type 0) (x : A) (xs : List A) → AllPairs R (x ∷ xs) → AllPairs R xs
rest_up R x xs up i j d less inside = up (suc i) (suc j) d (omega (arith, less)) (omega (arith, inside))

-- Two lists in the order of their keys, with the same keys, have them place by place.
module _ {A B K : Type 0} (Less : K → K → Type 0) (asymmetric : (m n : K) → Less m n → Less n m → ⊥) (f : A → K) (g : B → K) where
  abbrev Among : List A → K → Type 0
  Among xs n = (x : A) × Contains xs x × (f x ≡ n)

  abbrev AmongOthers : List B → K → Type 0
  AmongOthers ys n = (y : B) × Contains ys y × (g y ≡ n)

  pub keys_zip : (xs : List A) (ys : List B) → AllPairs (λ x y. Less (f x) (f y)) xs → AllPairs (λ x y. Less (g x) (g y)) ys
      → ((x : A) → Contains xs x → AmongOthers ys (f x)) → ((y : B) → Contains ys y → Among xs (g y)) → AllZip (λ x y. f x ≡ g y) xs ys
  keys_zip [] [] up over to from = tt
  keys_zip [] (y ∷ ys) up over to from = let found = from y (here y ys) in absurd (nothing found.0 found.1)
  keys_zip (x ∷ xs) [] up over to from = let found = to x (here x xs) in absurd (nothing found.0 found.1)
  keys_zip (x ∷ xs) (y ∷ ys) up over to from = (
    first,
    keys_zip xs ys (rest_up (λ x y. Less (f x) (f y)) x xs up) (rest_up (λ x y. Less (g x) (g y)) y ys over)
        (λ z c. to_rest z c (to z (later x z xs c))) (λ z c. from_rest z c (from z (later y z ys c))),
  )
    where
      below_x : (z : A) → Contains xs z → Less (f x) (f z)
      below_x z c = first_below (λ x y. Less (f x) (f y)) x z xs up c

      below_y : (z : B) → Contains ys z → Less (g y) (g z)
      below_y z c = first_below (λ x y. Less (g x) (g y)) y z ys over c

      first : f x ≡ g y
      first = by (to x (here x xs)) (from y (here y ys))
        where
          by : AmongOthers (y ∷ ys) (f x) → Among (x ∷ xs) (g y) → f x ≡ g y
          by (b, c, e) (a, d, h) = elim (either y b ys c) [
            | inl same ↦ sym e ∙ ap g (sym same)
            | inr more ↦ elim (either x a xs d) [
              | inl same ↦ ap f same ∙ h
              | inr other ↦ absurd (asymmetric (f x) (g y) (subst (Less (f x)) h (below_x a other)) (subst (Less (g y)) e (below_y b more)))
            ]
          ]

      to_rest : (z : A) → Contains xs z → AmongOthers (y ∷ ys) (f z) → AmongOthers ys (f z)
      to_rest z c (b, d, e) = elim (either y b ys d) [
        | inl same ↦
            let less = subst (Less (f x)) (sym e ∙ ap g (sym same) ∙ sym first) (below_x z c) in absurd (asymmetric (f x) (f x) less less)
        | inr more ↦ (b, more, e)
      ]

      from_rest : (z : B) → Contains ys z → Among (x ∷ xs) (g z) → Among xs (g z)
      from_rest z c (a, d, e) = elim (either x a xs d) [
        | inl same ↦
            let less = subst (Less (g y)) (sym e ∙ ap f (sym same) ∙ first) (below_y z c) in absurd (asymmetric (g y) (g y) less less)
        | inr more ↦ (a, more, e)
      ]

-- what holds of both lists place by place
zip_more : {A B : Type 0} (P : A → Type 0) (Q : B → Type 0) (R S : A → B → Type 0) → ((x : A) (y : B) → P x → Q y → R x y → S x y)
    → (xs : List A) (ys : List B) → All P xs → All Q ys → AllZip R xs ys → AllZip S xs ys
zip_more P Q R S more [] [] all others zip = tt
zip_more P Q R S more [] (y ∷ ys) all others zip = absurd zip
zip_more P Q R S more (x ∷ xs) [] all others zip = absurd zip
zip_more P Q R S more (x ∷ xs) (y ∷ ys) all others zip =
    (more x y (All-head P x xs all) (All-head Q y ys others) zip.0, zip_more P Q R S more xs ys (All-tail P x xs all) (All-tail Q y ys others) zip.1)

same_map : {A B K : Type 0} (f : A → K) (g : B → K) (xs : List A) (ys : List B) → AllZip (λ x y. f x ≡ g y) xs ys → map f xs ≡ map g ys
same_map f g [] [] zip = refl
same_map f g [] (y ∷ ys) zip = absurd zip
same_map f g (x ∷ xs) [] zip = absurd zip
same_map f g (x ∷ xs) (y ∷ ys) zip = ap₂ (λ k ks. k ∷ ks) zip.0 (same_map f g xs ys zip.1)

same_zip : {A B K : Type 0} (f : A → K) (g : B → K) (xs : List A) (ys : List B) → map f xs ≡ map g ys → AllZip (λ x y. f x ≡ g y) xs ys
same_zip f g [] [] e = tt
same_zip f g [] (y ∷ ys) e = absurd (cc e)
same_zip f g (x ∷ xs) [] e = absurd (cc e)
same_zip f g (x ∷ xs) (y ∷ ys) e = (cc e, same_zip f g xs ys (cc e))

module _ (image : Image) (layout : Layout) where
  -- Instructions.

  number_one : (entry : ℕ) (m n : ℕ × Node) → m.0 ≡ n.0 → IsNodeFound image layout entry m → IsNodeFound image layout entry n → m.1.instr ≡ n.1.instr → m.1.number ≡ n.1.number
  number_one entry m n e a b same = by m.1.instr.op refl
    where
      other : n.1.instr.op ≡ m.1.instr.op
      other = ap (λ (i : Instr). i.op) (sym same)

      none : (Int21 ≡ m.1.instr.op → ⊥) → m.1.number ≡ n.1.number
      none not = a.no_number (λ is. not (sym is)) ∙ sym (b.no_number (λ is. not (sym is ∙ other)))

      by : (op : Op) → m.1.instr.op ≡ op → m.1.number ≡ n.1.number
      by Int21 is =
          let trail = a.node.trail in
          sym (a.number is a.node.before trail)
          ∙ b.number (other ∙ is) a.node.before (subst (λ at. IsTrail image layout entry (at ∷ a.node.before)) e trail)
      by op is = none (λ int. cc (int, is))

  node_one : (entry : ℕ) (m n : ℕ × Node) → IsNodeFound image layout entry m → IsNodeFound image layout entry n → m.0 ≡ n.0 → AreOneNode m n
  node_one entry m n a b e =
      let instr : m.1.instr ≡ n.1.instr = cc (a.instr, b.instr, e) in
      record {
        at = e;
        instr = instr;
        succ =
            a.succ a.node.before a.node.trail ∙ ap (λ at. successors image layout (at ∷ a.node.before)) e
            ∙ sym (b.succ a.node.before (subst (λ at. IsTrail image layout entry (at ∷ a.node.before)) e a.node.trail));
        number = number_one entry m n e a b instr;
      }

  nodes_one : (x y : Proc) → IsFound image layout x → IsFound image layout y → x.entry ≡ y.entry → AllZip AreOneNode x.nodes.entries y.nodes.entries
  nodes_one x y a b e =
      zip_more (IsNodeFound image layout x.entry) (IsNodeFound image layout x.entry) (λ m n. m.0 ≡ n.0) AreOneNode (λ m n p q same. node_one x.entry m n p q same)
      x.nodes.entries y.nodes.entries a.nodes (subst (λ n. All (IsNodeFound image layout n) y.nodes.entries) (sym e) b.nodes)
      (keys_zip (λ m n. m < n) (λ m n less more. omega (arith, less, more)) (λ (m : ℕ × Node). m.0) (λ (m : ℕ × Node). m.0) x.nodes.entries y.nodes.entries a.ascending b.ascending
      (λ m c. listed y m.0 b (subst (λ n. IsNode image layout n m.0) e (All-contains (IsNodeFound image layout x.entry) x.nodes.entries m a.nodes c).node))
      (λ m c. listed x m.0 a (subst (λ n. IsNode image layout n m.0) (sym e) (All-contains (IsNodeFound image layout y.entry) y.nodes.entries m b.nodes c).node)))
    where
      listed : (z : Proc) (at : ℕ) → IsFound image layout z → IsNode image layout z.entry at → (m : ℕ × Node) × Contains z.nodes.entries m × (m.0 ≡ at)
      listed z at found node = let there = found.every at node in ((at, there.node), at_place z.nodes.entries there.place (at, there.node) there.listed, refl)

  -- Frames.

  same_cell : (c d : Cell) → bytes_of c ≡ bytes_of d → c ≡ d
  same_cell c d e =
      let first : c.first ≡ d.first = ap (λ (s : Span). s.first) e in
      let end : (c.first +ℤ pos c.size) ≡ (d.first +ℤ pos d.size) = ap (λ (s : Span). s.end) e in
      let size : c.size ≡ d.size = omega (arith, ints, first, end) in
      ap₂ (λ k n. record { first = k; size = n }) first size

  cells_one : (entry : ℕ) (x y : Frame) → All (λ cell. IsCell image layout entry (bytes_of cell)) x.cells.items → All (λ cell. IsCell image layout entry (bytes_of cell)) y.cells.items
      → AllPairs (λ (a b : Cell). a.first <ℤ b.first) x.cells.items → AllPairs (λ (a b : Cell). a.first <ℤ b.first) y.cells.items
      → ((cell : Span) → IsCell image layout entry cell → Contains (map bytes_of x.cells.items) cell) → ((cell : Span) → IsCell image layout entry cell → Contains (map bytes_of y.cells.items) cell)
      → x.cells.items ≡ y.cells.items
  cells_one entry x y all others up over every every_other =
      alone x.cells.items y.cells.items
      (keys_zip Before (λ m n. asymmetric m n) bytes_of bytes_of x.cells.items y.cells.items up over
      (λ c among. from_bytes y.cells.items (bytes_of c) (every_other (bytes_of c) (All-contains (λ cell. IsCell image layout entry (bytes_of cell)) x.cells.items c all among)))
      (λ c among. from_bytes x.cells.items (bytes_of c) (every (bytes_of c) (All-contains (λ cell. IsCell image layout entry (bytes_of cell)) y.cells.items c others among))))
    where
      Before : Span → Span → Type 0
      Before s t = s.first <ℤ t.first

      asymmetric : (s t : Span) → Before s t → Before t s → ⊥
      asymmetric s t less more = omega (arith, ints, less, more)

      from_bytes : (cells : List Cell) (span : Span) → Contains (map bytes_of cells) span → (c : Cell) × Contains cells c × (bytes_of c ≡ span)
      from_bytes [] span c = absurd (nothing span c)
      from_bytes (cell ∷ cells) span c = elim (either (bytes_of cell) span (map bytes_of cells) c) [
        | inl same ↦ (cell, here cell cells, same)
        | inr more ↦ let found = from_bytes cells span more in (found.0, later cell found.0 cells found.1, found.2)
      ]

      alone : (xs ys : List Cell) → AllZip (λ x y. bytes_of x ≡ bytes_of y) xs ys → xs ≡ ys
      alone [] [] zip = refl
      alone [] (y ∷ ys) zip = absurd zip
      alone (x ∷ xs) [] zip = absurd zip
      alone (x ∷ xs) (y ∷ ys) zip = ap₂ (λ c cs. c ∷ cs) (same_cell x y zip.0) (alone xs ys zip.1)

  -- Heights.

  heights_one : IsAcceptedByHeights image layout → (entry : ℕ) → IsEntry image layout entry → (xs ys : List (ℕ × ℕ)) → map (λ found. found.0) xs ≡ map (λ found. found.0) ys
      → ((at : ℕ) → Contains (map (λ found. found.0) xs) at → IsNode image layout entry at)
      → All (λ found. IsHeight image layout entry found.0 (pos found.1)) xs → All (λ found. IsHeight image layout entry found.0 (pos found.1)) ys → xs ≡ ys
  heights_one accepted entry is_entry [] [] e nodes all others = refl
  heights_one accepted entry is_entry [] (y ∷ ys) e nodes all others = absurd (cc e)
  heights_one accepted entry is_entry (x ∷ xs) [] e nodes all others = absurd (cc e)
  heights_one accepted entry is_entry (x ∷ xs) (y ∷ ys) e nodes all others =
      ap₂ (λ p ps. p ∷ ps) (ap₂ (λ m n. (m, n)) at height)
      (heights_one accepted entry is_entry xs ys (cc e) (λ n c. nodes n (later x.0 n (map (λ found. found.0) xs) c)) (All-tail IsHigh x xs all) (All-tail IsHigh y ys others))
    where
      IsHigh : ℕ × ℕ → Type 0
      IsHigh found = IsHeight image layout entry found.0 (pos found.1)

      at : x.0 ≡ y.0
      at = cc e

      node : IsNode image layout entry x.0
      node = nodes x.0 (here x.0 (map (λ found. found.0) xs))

      first : HasHeight image layout entry x.0 (pos x.1)
      first = record { before = node.before; gives = All-head IsHigh x xs all node.before node.trail }

      second : HasHeight image layout entry x.0 (pos y.1)
      second = record {
        before = node.before;
        gives = subst (λ n. IsHeight image layout entry n (pos y.1)) (sym at) (All-head IsHigh y ys others) node.before node.trail;
      }

      height : x.1 ≡ y.1
      height = one (int-same (pos x.1) (pos y.1) (λ other. accepted.no_construct StackHeight x.0 (record {
        entry = entry;
        is_entry = is_entry;
        node = node;
        stands = bad_height (two_heights first second other);
      })))
        where
          one : pos x.1 ≡ pos y.1 → x.1 ≡ y.1
          one e = cc e

  -- Procedures.

  record IsGood (body : Body) : Type 0 where
    reached : IsEntry image layout (entry_of body)
    found : IsFound image layout body.proc
    frame : IsFrameOf image layout body.proc body.frame
    heights : AreHeightsOf image layout body.proc body.heights

  -- the bodies are those of the procedures, and each is good
  record AreGood (procs : List Proc) (some : List Body) : Type 0 where
    same : map entry_of some ≡ map (λ (x : Proc). x.entry) procs
    good : All IsGood some

  node_of : (x : Proc) → IsFound image layout x → (at : ℕ) → Contains (map (λ (m : ℕ × Node). m.0) x.nodes.entries) at → IsNode image layout x.entry at
  node_of x found at c = by x.nodes.entries found.nodes c
    where
      by : (ms : List (ℕ × Node)) → All (IsNodeFound image layout x.entry) ms → Contains (map (λ (m : ℕ × Node). m.0) ms) at → IsNode image layout x.entry at
      by [] all c = absurd (nothing at c)
      by (m ∷ ms) all c = elim (either m.0 at (map (λ (m : ℕ × Node). m.0) ms) c) [
        | inl same ↦ subst (IsNode image layout x.entry) same (All-head (IsNodeFound image layout x.entry) m ms all).node
        | inr more ↦ by ms (All-tail (IsNodeFound image layout x.entry) m ms all) more
      ]

  body_one : IsAcceptedByHeights image layout → (a b : Body) → IsGood a → IsGood b → entry_of a ≡ entry_of b → AreOneBody a b
  body_one accepted a b x y e =
      let nodes = nodes_one a.proc b.proc x.found y.found e in
      let other = subst (λ n. All (λ found. IsHeight image layout n found.0 (pos found.1)) b.heights) (sym e) y.heights.each in
      record {
        entry = e;
        nodes = nodes;
        heights =
            heights_one accepted (entry_of a) x.reached a.heights b.heights
            (x.heights.nodes ∙ same_map (λ (m : ℕ × Node). m.0) (λ (m : ℕ × Node). m.0) a.proc.nodes.entries b.proc.nodes.entries
            (zip_more (λ m. Unit {0}) (λ m. Unit {0}) AreOneNode (λ m n. m.0 ≡ n.0) (λ m n p q same. same.at) a.proc.nodes.entries b.proc.nodes.entries (all_tt a.proc.nodes.entries) (all_tt b.proc.nodes.entries) nodes)
            ∙ sym y.heights.nodes)
            (λ at c. node_of a.proc x.found at (subst (λ ns. Contains ns at) x.heights.nodes c)) x.heights.each other;
        framed = x.frame.framed ∙ ap (is_framed image layout) e ∙ sym y.frame.framed;
        args = arguments-once x.frame.arguments (subst (λ n. HasArguments image layout n b.frame.args) (sym e) y.frame.arguments);
        cells =
            cells_one (entry_of a) a.frame b.frame x.frame.cells (subst (λ n. All (λ cell. IsCell image layout n (bytes_of cell)) b.frame.cells.items) (sym e) y.frame.cells)
            x.frame.ascending y.frame.ascending x.frame.every (λ cell is. y.frame.every cell (subst (λ n. IsCell image layout n cell) e is));
        exposed =
            ap₂ (λ local arg. record { local = local; arg = arg })
            (local-once x.frame.local (subst (λ n. HasExposedLocal image layout n b.frame.exposed.local) (sym e) y.frame.local))
            (argument-once x.frame.argument (subst (λ n. HasExposedArguments image layout n b.frame.exposed.arg) (sym e) y.frame.argument));
      }
    where
      all_tt : (ms : List (ℕ × Node)) → All (λ m. Unit {0}) ms
      all_tt [] = All-nil (λ m. Unit {0})
      all_tt (m ∷ ms) = All-cons (λ m. Unit {0}) m ms tt (all_tt ms)

  -- Procedures that are found.

  abbrev below : ℕ → ℕ → Type 0
  below m n = m < n

  entries_one : (xs ys : List Proc) → AreFound image layout xs → AreFound image layout ys → map (λ (x : Proc). x.entry) xs ≡ map (λ (x : Proc). x.entry) ys
  entries_one xs ys a b =
      ap (map (λ (x : Proc). x.entry)) a.order.procs_are
      ∙ ap₂ (λ n ns. n ∷ ns) (a.order.first ∙ sym b.order.first)
      (same_map (λ (x : Proc). x.entry) (λ (x : Proc). x.entry) a.order.others b.order.others
      (keys_zip below (λ m n less more. omega (arith, less, more)) (λ (x : Proc). x.entry) (λ (x : Proc). x.entry) a.order.others b.order.others a.order.ascending b.order.ascending
      (λ x c. other xs ys a b x c) (λ y c. other ys xs b a y c)))
      ∙ sym (ap (map (λ (x : Proc). x.entry)) b.order.procs_are)
    where
      other : (xs ys : List Proc) (a : AreFound image layout xs) (b : AreFound image layout ys) (x : Proc) → Contains a.order.others x
          → (y : Proc) × Contains b.order.others y × (y.entry ≡ x.entry)
      other xs ys a b x c =
          let among : Contains xs x = subst (λ zs. Contains zs x) (sym a.order.procs_are) (later a.order.start x a.order.others c) in
          let apart = All-contains (λ (z : Proc). z.entry ≢ layout.start_ip) a.order.others x a.order.apart c in
          let found = b.every x.entry (All-contains (λ (z : Proc). IsEntry image layout z.entry) xs x a.reached among) in
          let there = subst (λ zs. Contains zs found.proc) b.order.procs_are (at_place ys found.place found.proc found.listed) in
          elim (either b.order.start found.proc b.order.others there) [
            | inl same ↦ absurd (apart (sym found.entry_is ∙ ap (λ (z : Proc). z.entry) (sym same) ∙ b.order.first))
            | inr more ↦ (found.proc, more, found.entry_is)
          ]

module _ {Heights : Type 0} (entries : Heights → List (ℕ × ℕ)) (image : Image) (layout : Layout) where
  abbrev bodies : List Proc → List Frame → List Heights → List Body
  bodies procs frames heights = map (λ found. record { proc = found.0; frame = found.1.0; heights = entries found.1.1 }) (zip procs (zip frames heights))

  good_bodies : (procs : List Proc) (frames : List Frame) (heights : List Heights) → All (λ proc. IsEntry image layout proc.entry) procs → All (IsFound image layout) procs
      → AllZip (IsFrameOf image layout) procs frames → AllZip (λ proc h. AreHeightsOf image layout proc (entries h)) procs heights → AreGood image layout procs (bodies procs frames heights)
  good_bodies [] [] [] reached found framed high = record { same = refl; good = All-nil (IsGood image layout) }
  good_bodies [] [] (h ∷ heights) reached found framed high = absurd high
  good_bodies [] (frame ∷ frames) heights reached found framed high = absurd framed
  good_bodies (proc ∷ procs) [] heights reached found framed high = absurd framed
  good_bodies (proc ∷ procs) (frame ∷ frames) [] reached found framed high = absurd high
  good_bodies (proc ∷ procs) (frame ∷ frames) (h ∷ heights) reached found framed high =
      let rest = good_bodies procs frames heights (All-tail (λ proc. IsEntry image layout proc.entry) proc procs reached) (All-tail (IsFound image layout) proc procs found) framed.1 high.1 in
      record {
        same = ap (λ ns. proc.entry ∷ ns) rest.same;
        good = All-cons (IsGood image layout) (record { proc = proc; frame = frame; heights = entries h }) (bodies procs frames heights)
            (record {
              reached = All-head (λ proc. IsEntry image layout proc.entry) proc procs reached;
              found = All-head (IsFound image layout) proc procs found;
              frame = framed.0;
              heights = high.0;
            }) rest.good;
      }

good_program : (cpu : Cpu) (image : Image) (program : Program) (layout : Layout) → program.layout ≡ layout → IsProgramOf cpu image program
    → AreGood image layout program.procs.items (bodies_of program)
good_program cpu image program layout e is =
    subst (λ l. AreGood image l program.procs.items (bodies_of program)) e
    (good_bodies (λ found. found.entries) image program.layout program.procs.items program.cells.frames.items program.heights.at.items is.procs.reached is.procs.found is.cells.frames is.heights.at)

-- the procedures of two programs that the analyses find are one
pub bodies_one : (cpu : Cpu) (image : Image) (program other : Program) → IsProgramOf cpu image program → IsProgramOf cpu image other
    → AllZip AreOneBody (bodies_of program) (bodies_of other)
bodies_one cpu image program other is also =
    let layout = program.layout in
    let same : other.layout ≡ layout = layout-once image layout other.layout (also.runs_on ∙ sym is.runs_on) is.layout also.layout in
    let these = good_program cpu image program layout refl is in
    let those = good_program cpu image other layout same also in
    let found = subst (λ l. AreFound image l other.procs.items) same also.procs in
    zip_more (IsGood image layout) (IsGood image layout) (λ a b. entry_of a ≡ entry_of b) AreOneBody (λ a b x y e. body_one image layout is.heights.accepted a b x y e)
    (bodies_of program) (bodies_of other) these.good those.good
    (same_zip entry_of entry_of (bodies_of program) (bodies_of other) (these.same ∙ entries_one image layout program.procs.items other.procs.items is.procs found ∙ sym those.same))
