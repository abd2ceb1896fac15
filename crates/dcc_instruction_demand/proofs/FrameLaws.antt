-- Operands in the frame: bytes of a cell, or memory that may be read anywhere.
use Rattle.std.proofs.Common.{◌≡◌, ℕ, ℤ, Bool, true, false, not, ◌&&◌, ◌||◌, if◌then◌else◌, ◌⊎◌, inl, inr, List, [], ◌∷◌, Option, Some, None, refl, sym, ap, ◌∙◌, subst, true≢false}
use Rattle.std.specs.Prelude.{Contains, pos, ◌+ℤ◌, is_none}
use Rattle.std.specs.List.{list_any, list_all}
use Rattle.std.specs.Ordering.{int_eq}
use Rattle.std.proofs.lemmas.Bool.Decides.{Decides-int_eq}
use Rattle.dcc_num.specs.declared.Width.{Width}
use Rattle.dcc_num.specs.declared.Width.TheVariants.{Byte as byte_width, Word as word_width}
use Rattle.dcc_num.specs.declared.Reg.{Reg}
use Rattle.dcc_num.specs.declared.Half.{Half as HalfName}
use Rattle.dcc_num.specs.declared.Half.TheVariants.{Low, High}
use Rattle.dcc_machine.specs.declared.instr.Ea.{Ea}
use Rattle.dcc_machine.specs.declared.instr.Operand.TheVariants.{Mem}
use Rattle.dcc_machine.specs.Machine.{is_bp, is_general}
use Rattle.dcc_machine.specs.Access.{is_direct}
use Rattle.dcc_prog.specs.Frame.{offset_in_frame}
use Rattle.dcc_machine.specs.Wanted.{Location, half_of, flag_of, is_half_of_some, is_read}
use Rattle.dcc_stack.specs.Slots.{is_placed as is_placed_byte}
use Rattle.dcc_ir.specs.declared.syntax.Loc.{Loc}
use Rattle.dcc_ir.specs.declared.syntax.Loc.TheVariants.{Cell}
use Rattle.dcc_ir.specs.Tree.{Address}
use Rattle.dcc_ir.specs.Live.{is_among}
use Rattle.dcc_ir.proofs.LocationLaws.{Contains-here, Contains-later, Contains-none, Contains-cases, among_contains, contains_among}
use Rattle.dcc_ir.proofs.PathLaws.{decided}
use Rattle.dcc_ops.specs.OperandPlace.{OperandPlace, byte, word, memory}
use Rattle.dcc_lift.proofs.ListTests.{and_left, and_right, and_both, and_false, or_here, or_there, or_cases, or_none, same_test}
use Rattle.dcc_simulation.specs.Procedures.{Procedure, frame_place, cell_place, cells_of, distance_of}
use Rattle.dcc_machine_demand.specs.Bodies.{Body}
use Rattle.dcc_machine_demand.specs.Holders.{Holder, placed, in_memory, held, in_frame, passes, is_at, is_placed}
use Rattle.dcc_machine_demand.specs.Holders.{is_holder, is_in_cell, is_exposed_holder, frame_spot, for_bytes}
use Rattle.dcc_machine_demand.specs.Holders.{spots_of_memory}
use Rattle.dcc_lifted_demand.specs.LiftedRefinement.{inner_of, IsSame}
use Rattle.dcc_lifted_demand.proofs.SameLaws.{SameCases, same_cases, exposed_unkept}
use Rattle.dcc_instruction_demand.proofs.IdleLaws.{same_once}
use Rattle.dcc_instruction_demand.proofs.ShownLaws.{Shows, shows_one, shows_both, shows_alike}
use Rattle.dcc_instruction_demand.proofs.StageLaws.{is_kept_place, reads_at, outs, is_stored, has_kept}
use Rattle.dcc_instruction_demand.proofs.OperandLaws.{frame_read, in_cells, reads_by, writes_by, IsOperandAt}
use Rattle.dcc_instruction_demand.proofs.AddressLaws.{bp_apart}
use Rattle.dcc_instruction_demand.proofs.StoredLaws.{read_in_cells}
use Rattle.dcc_lifted_demand.proofs.ListLaws.{only}

-- two locations in the other order
pub swapped : (a b l : Loc) → Contains (a ∷ b ∷ []) l → Contains (b ∷ a ∷ []) l
swapped a b l c =
    Contains-cases a (b ∷ []) l (Contains (b ∷ a ∷ []) l) (λ e. subst (λ m. Contains (b ∷ a ∷ []) m) e (Contains-later b (a ∷ []) a (Contains-here a [])))
    (λ later. subst (λ m. Contains (b ∷ a ∷ []) m) (only b l later) (Contains-here b (a ∷ []))) c

module _ (o : Option Procedure) (q : Procedure) (found : o ≡ Some q) (heights : List (ℕ × ℕ)) where
  abbrev pub frame_body : Body
  frame_body = record { proc = q.proc; frame = q.frame; heights = heights }

  abbrev has_byte : ℤ → Bool
  has_byte k = is_in_cell frame_body k

  -- the byte is in memory, and may be read anywhere where it belongs to a cell
  abbrev pub IsOpen : ℤ → Type 0
  IsOpen k = (is_placed_byte q.frame k ≡ true) × (has_byte k ≡ true → is_exposed_holder frame_body (in_frame k) ≡ true)

  -- what is open stands in no location
  pub open_nowhere : (j : ℤ) (l : Loc) → IsOpen j → IsSame o (in_frame j) l → ⊥
  open_nowhere j l x s = by (same_cases o s)
    where
      clash : (n : ℕ) → memory byte_width (Address n) ≡ byte l → ⊥
      clash n e = cc e

      by : SameCases o (in_frame j) l → ⊥
      by (SameCases.by_held location p e g) = cc e
      by (SameCases.by_kept other i p f kept g) =
          let same : other ≡ q = cc (p, found) in
          let byte_is : i ≡ j = cc f in
          let here = subst (λ x. frame_place q byte_width x ≡ byte l) byte_is (subst (λ x. frame_place x byte_width i ≡ byte l) same g) in
          clash (distance_of j) (sym (ap (λ b. if b then memory byte_width (Address (distance_of j)) else cell_place 0 (cells_of q) byte_width j) x.0) ∙ here)

  -- where a byte or a word of the frame stands
  pub data AccessAt (w : Width) (k : ℤ) : Type 0 where
    byte_access : (n : ℕ) (h : HalfName) → w ≡ byte_width → frame_place q byte_width k ≡ byte (Cell n h) → has_byte k ≡ true → AccessAt w k
    word_access : (n : ℕ) → w ≡ word_width → frame_place q word_width k ≡ word (Cell n Low) (Cell n High)
        → frame_place q byte_width k ≡ byte (Cell n Low) → frame_place q byte_width (k +ℤ pos 1) ≡ byte (Cell n High)
        → has_byte k ≡ true → has_byte (k +ℤ pos 1) ≡ true → AccessAt w k
    open_access : frame_place q w k ≡ memory w (Address (distance_of k)) → IsOpen k → (w ≡ word_width → IsOpen (k +ℤ pos 1)) → AccessAt w k

  module _ (exposed : Holder → Bool) (exposed_is : (k : ℤ) → exposed (in_frame k) ≡ is_exposed_holder frame_body (in_frame k))
      (one : (L M : Holder) (l : Loc) → IsSame o L l → IsSame o M l → L ≡ M) (ea : Ea) (framed : q.frame.framed ≡ true) (direct : is_direct ea ≡ true) where
    abbrev k : ℤ
    k = offset_in_frame ea

    abbrev Reads : Width → Holder → Type 0
    Reads w L = (is_holder frame_body L ≡ true) × (reads_by frame_body (Mem w ea) L ≡ true)

    -- What is read.

    no_index : (index : Option Reg) (location : Location) → is_none index ≡ true → is_half_of_some location index ≡ false
    no_index None location e = refl
    no_index (Some r) location e = absurd (true≢false (sym e))

    address_unread : (location : Location) → passes (held location) ≡ true → (is_half_of_some location ea.base || is_half_of_some location ea.index) ≡ false
    address_unread location p =
        ap (λ b. b || is_half_of_some location ea.index) (bp_apart o frame_body exposed ea.base location (and_left (is_bp ea.base) (is_none ea.index) direct) p)
        ∙ no_index ea.index location (and_right (is_bp ea.base) (is_none ea.index) direct)

    unread : (w : Width) (location : Location) → passes (held location) ≡ true → is_read location (Mem w ea) ≡ false
    unread w (half_of r h) p = address_unread (half_of r h) p
    unread w (flag_of f) p = address_unread (flag_of f) p

    held_unread : (w : Width) (location : Location) → Reads w (held location) → ⊥
    held_unread w location t = true≢false (sym t.1 ∙ unread w location t.0)

    spots_are : (w : Width) → spots_of_memory frame_body (Some (w, ea)) ≡ for_bytes w (frame_spot frame_body k) (frame_spot frame_body (k +ℤ pos 1))
    spots_are w = ap (λ b. if b then for_bytes w (frame_spot frame_body k) (frame_spot frame_body (k +ℤ pos 1)) else for_bytes w in_memory in_memory) (and_both q.frame.framed (is_direct ea) framed direct)

    spot_read : (b : Bool) (i j : ℤ) → is_at (if b then placed (in_frame i) else in_memory) (in_frame j) ≡ (b && int_eq j i)
    spot_read true i j = refl
    spot_read false i j = refl

    read_byte : (j : ℤ) → frame_read frame_body (Mem byte_width ea) j ≡ (has_byte k && int_eq j k)
    read_byte j =
        ap (λ spots. list_any (λ spot. is_at spot (in_frame j)) spots) (spots_are byte_width) ∙ or_none (is_at (frame_spot frame_body k) (in_frame j)) ∙ spot_read (has_byte k) k j

    read_word : (j : ℤ) → frame_read frame_body (Mem word_width ea) j ≡ ((has_byte k && int_eq j k) || (has_byte (k +ℤ pos 1) && int_eq j (k +ℤ pos 1)))
    read_word j =
        ap (λ spots. list_any (λ spot. is_at spot (in_frame j)) spots) (spots_are word_width)
        ∙ ap (λ b. is_at (frame_spot frame_body k) (in_frame j) || b) (or_none (is_at (frame_spot frame_body (k +ℤ pos 1)) (in_frame j)) ∙ spot_read (has_byte (k +ℤ pos 1)) (k +ℤ pos 1) j)
        ∙ ap (λ b. b || (has_byte (k +ℤ pos 1) && int_eq j (k +ℤ pos 1))) (spot_read (has_byte k) k j)

    -- one of the bytes that are read
    data IsByte (w : Width) (j : ℤ) : Type 0 where
      is_first : has_byte j ≡ true → j ≡ k → IsByte w j
      is_second : w ≡ word_width → has_byte j ≡ true → j ≡ (k +ℤ pos 1) → IsByte w j

    at_byte : (i j : ℤ) → (has_byte i && int_eq j i) ≡ true → (has_byte j ≡ true) × (j ≡ i)
    at_byte i j t =
        let same = (Decides-int_eq j i).0 (and_right (has_byte i) (int_eq j i) t) in
        (subst (λ x. has_byte x ≡ true) (sym same) (and_left (has_byte i) (int_eq j i) t), same)

    which : (w : Width) (j : ℤ) → frame_read frame_body (Mem w ea) j ≡ true → IsByte w j
    which byte_width j t = let at = at_byte k j (sym (read_byte j) ∙ t) in IsByte.is_first at.0 at.1
    which word_width j t = elim (or_cases (has_byte k && int_eq j k) (has_byte (k +ℤ pos 1) && int_eq j (k +ℤ pos 1)) (sym (read_word j) ∙ t)) [
      | inl e ↦ let at = at_byte k j e in IsByte.is_first at.0 at.1
      | inr e ↦ let at = at_byte (k +ℤ pos 1) j e in IsByte.is_second refl at.0 at.1
    ]

    itself_read : (i : ℤ) → has_byte i ≡ true → (has_byte i && int_eq i i) ≡ true
    itself_read i t = and_both (has_byte i) (int_eq i i) t ((Decides-int_eq i i).1 refl)

    first_read : (w : Width) → has_byte k ≡ true → frame_read frame_body (Mem w ea) k ≡ true
    first_read byte_width t = read_byte k ∙ itself_read k t
    first_read word_width t = read_word k ∙ or_here (has_byte k && int_eq k k) (has_byte (k +ℤ pos 1) && int_eq k (k +ℤ pos 1)) (itself_read k t)

    second_read : has_byte (k +ℤ pos 1) ≡ true → frame_read frame_body (Mem word_width ea) (k +ℤ pos 1) ≡ true
    second_read t =
        read_word (k +ℤ pos 1)
        ∙ or_there (has_byte k && int_eq (k +ℤ pos 1) k) (has_byte (k +ℤ pos 1) && int_eq (k +ℤ pos 1) (k +ℤ pos 1)) (itself_read (k +ℤ pos 1) t)

    in_place : (w : Width) (j : ℤ) → frame_read frame_body (Mem w ea) j ≡ true → has_byte j ≡ true
    in_place w j t = by (which w j t)
      where
        by : IsByte w j → has_byte j ≡ true
        by (IsByte.is_first h e) = h
        by (IsByte.is_second v h e) = h

    -- In cells.

    -- where what is read is where it is stored
    module _ (w : Width) (Q : OperandPlace) (reads : Shows (IsSame o) (Reads w) (reads_at Q)) (kept : list_all is_kept_place (reads_at Q) ≡ true) (has : has_kept Q ≡ true) (unstored : is_stored Q ≡ false)
        (grow : (l : Loc) → Contains (reads_at Q) l → Contains (outs Q) l) (shrink : (l : Loc) → Contains (outs Q) l → Contains (reads_at Q) l)
        (cells : in_cells frame_body (Mem w ea) ≡ true) (stands : (j : ℤ) → frame_read frame_body (Mem w ea) j ≡ true → (l : Loc) × IsSame o (in_frame j) l) where
      half_apart : (r : Reg) (h : HalfName) (l : Loc) → IsSame o (held (half_of r h)) l → is_among (outs Q) l ≡ false
      half_apart r h l s = elim (decided (is_among (outs Q) l)) [
        | inr e ↦ e
        | inl t ↦
            let found = reads.comes l (shrink l (among_contains (outs Q) l t)) in
            let same = one found.0 (held (half_of r h)) l found.1 s in
            absurd (held_unread w (half_of r h) (subst (λ L. Reads w L) same found.2))
      ]

      stores : (A : Holder) (l : Loc) → IsSame o A l → is_kept_place l ≡ true → writes_by frame_body (Mem w ea) A ≡ is_among (outs Q) l
      stores (held (half_of r h)) l s t = and_false (is_general r) ∙ sym (half_apart r h l s)
      stores (held (flag_of f)) l s t = absurd (no_flag (same_cases o s))
        where
          at_flag : (location : Location) → held (flag_of f) ≡ held location → l ≡ inner_of location → ⊥
          at_flag (half_of r h) e g = cc e
          at_flag (flag_of other) e g = true≢false (sym t ∙ ap is_kept_place g)

          no_flag : SameCases o (held (flag_of f)) l → ⊥
          no_flag (SameCases.by_held location p e g) = at_flag location e g
          no_flag (SameCases.by_kept found i p e kept g) = cc e
      stores (in_frame j) l s t = same_test (frame_read frame_body (Mem w ea) j) (is_among (outs Q) l)
          (λ e. contains_among (outs Q) l (grow l (reads.has (in_frame j) l s (in_place w j e, e))))
          (λ e. let found = reads.comes l (shrink l (among_contains (outs Q) l e)) in
          let same = one found.0 (in_frame j) l found.1 s in
          (subst (λ L. Reads w L) same found.2).1)

      -- a byte that stands in a location may not be read anywhere
      hidden : (j : ℤ) → frame_read frame_body (Mem w ea) j ≡ true → exposed (in_frame j) ≡ true → ⊥
      hidden j t e = by (stands j t).0 (same_cases o (stands j t).1)
        where
          by : (l : Loc) → SameCases o (in_frame j) l → ⊥
          by l (SameCases.by_held location p e g) = cc e
          by l (SameCases.by_kept other i p f kept g) =
              let same : other ≡ q = cc (p, found) in
              let byte_is : i ≡ j = cc f in
              exposed_unkept q j l (sym (exposed_is j) ∙ e) (subst (λ x. frame_place q byte_width x ≡ byte l) byte_is (subst (λ x. frame_place x byte_width i ≡ byte l) same g))

      in_cells_at : IsOperandAt o frame_body exposed (Mem w ea) Q
      in_cells_at = record {
        reads = reads;
        reads_kept = kept;
        kept = has;
        stores = stores;
        unstored = λ e. (ap not cells, hidden);
        stored = λ e. absurd (true≢false (sym e ∙ unstored));
        reached = λ j t. inr (stands j t);
      }

    once : (L : Holder) (l m : Loc) → IsSame o L l → IsSame o L m → l ≡ m
    once L l m s t = same_once s t

    one_byte_at : (n : ℕ) (h : HalfName) → frame_place q byte_width k ≡ byte (Cell n h) → has_byte k ≡ true → IsOperandAt o frame_body exposed (Mem byte_width ea) (byte (Cell n h))
    one_byte_at n h place inside =
        in_cells_at byte_width (byte (Cell n h)) (shows_alike (IsSame o) (λ L. L ≡ in_frame k) (Reads byte_width) (Cell n h ∷ []) (Cell n h ∷ []) (shows_one (IsSame o) once (in_frame k) (Cell n h) there) to from (λ l c. c) (λ l c. c))
        refl refl refl (λ l c. c) (λ l c. c) (read_in_cells frame_body (Mem byte_width ea) k (first_read byte_width inside)) stands
      where
        there : IsSame o (in_frame k) (Cell n h)
        there = IsSame.is_kept found place

        at_first : (j : ℤ) → IsByte byte_width j → j ≡ k
        at_first j (IsByte.is_first h e) = e
        at_first j (IsByte.is_second v h e) = absurd (cc v)

        to : (L : Holder) (l : Loc) → IsSame o L l → L ≡ in_frame k → Reads byte_width L
        to L l s e = subst (λ M. Reads byte_width M) (sym e) (inside, first_read byte_width inside)

        from : (L : Holder) (l : Loc) → IsSame o L l → Reads byte_width L → L ≡ in_frame k
        from (held location) l s t = absurd (held_unread byte_width location t)
        from (in_frame j) l s t = ap in_frame (at_first j (which byte_width j t.1))

        stands : (j : ℤ) → frame_read frame_body (Mem byte_width ea) j ≡ true → (l : Loc) × IsSame o (in_frame j) l
        stands j t = (Cell n h, subst (λ i. IsSame o (in_frame i) (Cell n h)) (sym (at_first j (which byte_width j t))) there)

    one_word_at : (n : ℕ) → frame_place q byte_width k ≡ byte (Cell n Low) → frame_place q byte_width (k +ℤ pos 1) ≡ byte (Cell n High) → has_byte k ≡ true → has_byte (k +ℤ pos 1) ≡ true
        → IsOperandAt o frame_body exposed (Mem word_width ea) (word (Cell n Low) (Cell n High))
    one_word_at n low high inside inside_next =
        in_cells_at word_width (word (Cell n Low) (Cell n High))
        (shows_alike (IsSame o) (λ L. (L ≡ in_frame (k +ℤ pos 1)) ⊎ (L ≡ in_frame k)) (Reads word_width) (Cell n High ∷ Cell n Low ∷ []) (Cell n High ∷ Cell n Low ∷ [])
        (shows_both (IsSame o) (λ L. L ≡ in_frame (k +ℤ pos 1)) (λ L. L ≡ in_frame k) (Cell n High ∷ []) (Cell n Low ∷ [])
        (shows_one (IsSame o) once (in_frame (k +ℤ pos 1)) (Cell n High) there_next) (shows_one (IsSame o) once (in_frame k) (Cell n Low) there)) to from (λ l c. c) (λ l c. c))
        refl refl refl (swapped (Cell n High) (Cell n Low)) (swapped (Cell n Low) (Cell n High)) (read_in_cells frame_body (Mem word_width ea) k (first_read word_width inside)) stands
      where
        there : IsSame o (in_frame k) (Cell n Low)
        there = IsSame.is_kept found low

        there_next : IsSame o (in_frame (k +ℤ pos 1)) (Cell n High)
        there_next = IsSame.is_kept found high

        to : (L : Holder) (l : Loc) → IsSame o L l → (L ≡ in_frame (k +ℤ pos 1)) ⊎ (L ≡ in_frame k) → Reads word_width L
        to L l s (inl e) = subst (λ M. Reads word_width M) (sym e) (inside_next, second_read inside_next)
        to L l s (inr e) = subst (λ M. Reads word_width M) (sym e) (inside, first_read word_width inside)

        of_byte : (j : ℤ) → IsByte word_width j → (in_frame j ≡ in_frame (k +ℤ pos 1)) ⊎ (in_frame j ≡ in_frame k)
        of_byte j (IsByte.is_first h e) = inr (ap in_frame e)
        of_byte j (IsByte.is_second v h e) = inl (ap in_frame e)

        from : (L : Holder) (l : Loc) → IsSame o L l → Reads word_width L → (L ≡ in_frame (k +ℤ pos 1)) ⊎ (L ≡ in_frame k)
        from (held location) l s t = absurd (held_unread word_width location t)
        from (in_frame j) l s t = of_byte j (which word_width j t.1)

        stands_by : (j : ℤ) → IsByte word_width j → (l : Loc) × IsSame o (in_frame j) l
        stands_by j (IsByte.is_first h e) = (Cell n Low, subst (λ i. IsSame o (in_frame i) (Cell n Low)) (sym e) there)
        stands_by j (IsByte.is_second v h e) = (Cell n High, subst (λ i. IsSame o (in_frame i) (Cell n High)) (sym e) there_next)

        stands : (j : ℤ) → frame_read frame_body (Mem word_width ea) j ≡ true → (l : Loc) × IsSame o (in_frame j) l
        stands j t = stands_by j (which word_width j t)

    -- In memory.

    module _ (w : Width) (opens : IsOpen k) (opens_next : w ≡ word_width → IsOpen (k +ℤ pos 1)) where
      open_byte : (j : ℤ) → IsByte w j → IsOpen j
      open_byte j (IsByte.is_first h e) = subst IsOpen (sym e) opens
      open_byte j (IsByte.is_second v h e) = subst IsOpen (sym e) (opens_next v)

      unread_open : (L : Holder) (l : Loc) → IsSame o L l → Reads w L → ⊥
      unread_open (held location) l s t = held_unread w location t
      unread_open (in_frame j) l s t = open_nowhere j l (open_byte j (which w j t.1)) s

      exposed_open : (j : ℤ) → frame_read frame_body (Mem w ea) j ≡ true → exposed (in_frame j) ≡ true
      exposed_open j t = exposed_is j ∙ (open_byte j (which w j t)).1 (in_place w j t)

      stores_open : (A : Holder) (l : Loc) → IsSame o A l → is_kept_place l ≡ true → writes_by frame_body (Mem w ea) A ≡ false
      stores_open (held (half_of r h)) l s t = and_false (is_general r)
      stores_open (held (flag_of f)) l s t = refl
      stores_open (in_frame j) l s t = elim (decided (frame_read frame_body (Mem w ea) j)) [
        | inr e ↦ e
        | inl e ↦ absurd (open_nowhere j l (open_byte j (which w j e)) s)
      ]

      no_cell : (v : Width) → has_byte k ≡ false → (v ≡ word_width → has_byte (k +ℤ pos 1) ≡ false) → in_cells frame_body (Mem v ea) ≡ false
      no_cell byte_width a b =
          ap (list_any is_placed) (spots_are byte_width) ∙ ap (λ c. is_placed (if c then placed (in_frame k) else in_memory) || false) a
      no_cell word_width a b =
          ap (list_any is_placed) (spots_are word_width)
          ∙ ap (λ c. is_placed (if c then placed (in_frame k) else in_memory) || (is_placed (frame_spot frame_body (k +ℤ pos 1)) || false)) a
          ∙ ap (λ c. is_placed (if c then placed (in_frame (k +ℤ pos 1)) else in_memory) || false) (b refl)

      abbrev InCells : Width → Type 0
      InCells v = (in_cells frame_body (Mem v ea) ≡ false) ⊎ ((j : ℤ) × (frame_read frame_body (Mem v ea) j ≡ true))

      stored_by : (v : Width) → InCells v
      stored_by byte_width = elim (decided (has_byte k)) [
        | inl t ↦ inr (k, first_read byte_width t)
        | inr e ↦ inl (no_cell byte_width e (λ v. absurd (cc v)))
      ]
      stored_by word_width = elim (decided (has_byte k)) [
        | inl t ↦ inr (k, first_read word_width t)
        | inr e ↦ elim (decided (has_byte (k +ℤ pos 1))) [
          | inl t ↦ inr (k +ℤ pos 1, second_read t)
          | inr d ↦ inl (no_cell word_width e (λ v. d))
        ]
      ]

      open_at : (distance : ℕ) → IsOperandAt o frame_body exposed (Mem w ea) (memory w (Address distance))
      open_at distance = record {
        reads = record { has = λ L l s t. absurd (unread_open L l s t); comes = λ l c. absurd (Contains-none l c) };
        reads_kept = refl;
        kept = refl;
        stores = stores_open;
        unstored = λ e. absurd (true≢false e);
        stored = λ e. (
          refl,
          elim (stored_by w) [
            | inl none ↦ inl none
            | inr some ↦ inr (some.0, some.1, exposed_open some.0 some.1)
          ],
        );
        reached = λ j t. inl (exposed_open j t);
      }

    pub direct_at : (w : Width) → AccessAt w k → IsOperandAt o frame_body exposed (Mem w ea) (frame_place q w k)
    direct_at w (AccessAt.byte_access n h v place inside) =
        subst (λ u. IsOperandAt o frame_body exposed (Mem u ea) (frame_place q u k)) (sym v)
        (subst (λ Q. IsOperandAt o frame_body exposed (Mem byte_width ea) Q) (sym place) (one_byte_at n h place inside))
    direct_at w (AccessAt.word_access n v place low high inside inside_next) =
        subst (λ u. IsOperandAt o frame_body exposed (Mem u ea) (frame_place q u k)) (sym v)
        (subst (λ Q. IsOperandAt o frame_body exposed (Mem word_width ea) Q) (sym place) (one_word_at n low high inside inside_next))
    direct_at w (AccessAt.open_access place opens opens_next) =
        subst (λ Q. IsOperandAt o frame_body exposed (Mem w ea) Q) (sym place) (open_at w opens opens_next (distance_of k))
