-- What a CALL takes back: bytes of argument words go from temporaries of the call to where the caller has them.
use Rattle.std.proofs.Common.{◌≡◌, ◌<◌, ℕ, ℤ, suc, ◌+◌, ◌*◌, Bool, true, false, not, ◌||◌, if◌then◌else◌, List, [], ◌∷◌, ◌++◌, length, map, filter, refl, sym, ap, ◌∙◌, true≢false, arith}
use Rattle.std.specs.Prelude.{Contains, flat_map, pos, ◌+ℤ◌}
use Rattle.std.specs.List.{list_all, range_with_len}
use Rattle.std.specs.Ordering.{int_eq}
use Rattle.dcc_num.specs.declared.Width.TheVariants.{Byte as byte_width, Word as word_width}
use Rattle.dcc_num.specs.declared.Half.{Half as HalfName}
use Rattle.dcc_num.specs.declared.Half.TheVariants.{Low, High}
use Rattle.dcc_prog.specs.declared.frame.Cell.{Cell as FrameCell}
use Rattle.dcc_prog.specs.Analysed.{bytes_of}
use Rattle.dcc_stack.specs.Slots.{is_within, is_placed}
use Rattle.dcc_ir.specs.declared.syntax.Loc.{Loc}
use Rattle.dcc_ir.specs.declared.syntax.Loc.TheVariants.{Half, Flag, Cell, Temp}
use Rattle.dcc_ir.specs.Location.{same_location}
use Rattle.dcc_ir.specs.Tree.{Expr, Get, Address, Stmt, Set, Store}
use Rattle.dcc_ir.specs.Use.{reads_of}
use Rattle.dcc_ir.specs.Live.{is_among}
use Rattle.dcc_ir.specs.Passing.{passed}
use Rattle.dcc_ir.proofs.LocationLaws.{Contains-none, Contains-cases, location_itself}
use Rattle.dcc_ops.specs.OperandPlace.{OperandPlace, constant, byte, word, memory, place_value, storing}
use Rattle.dcc_ops.specs.Temporaries.{returned_place}
use Rattle.dcc_lift.proofs.ListTests.{or_here, or_there, or_none}
use Rattle.dcc_simulation.specs.Procedures.{Procedure, frame_place, cell_place, cells_of, distance_of}
use Rattle.dcc_simulation.specs.Statements.{argument_offset, taking_all_back}
use Rattle.dcc_simulation.proofs.ArgumentWords.{in-range}
use Rattle.dcc_sums.specs.Instance.{passes, is_passing}
use Rattle.dcc_lifted_demand.specs.Sources.{before, sources, used}
use Rattle.dcc_instruction_demand.specs.Agreement.{Quiet, SparedBy}
use Rattle.dcc_instruction_demand.proofs.ValueLaws.{is_value, is_written}
use Rattle.dcc_instruction_demand.proofs.StageLaws.{flat_twice, is_lasting, outs}

-- Where a byte and a word of a frame stand.

abbrev pub is_frame_byte : OperandPlace → Bool
is_frame_byte (constant v n) = true
is_frame_byte (byte (Cell n h)) = true
is_frame_byte (memory v (Address distance)) = true
is_frame_byte place = false

cell_byte : (n : ℕ) (cells : List FrameCell) (k : ℤ) → is_frame_byte (cell_place n cells byte_width k) ≡ true
cell_byte n [] k = refl
cell_byte n (cell ∷ cells) k = by (is_within k (bytes_of cell)) (cell_byte (suc n) cells k)
  where
    by : (b : Bool) → is_frame_byte (cell_place (suc n) cells byte_width k) ≡ true
        → is_frame_byte (if b then byte (Cell n (if int_eq k cell.first then Low else High)) else cell_place (suc n) cells byte_width k) ≡ true
    by true rest = refl
    by false rest = rest

pub frame_byte : (q : Procedure) (k : ℤ) → is_frame_byte (frame_place q byte_width k) ≡ true
frame_byte q k = by (is_placed q.frame k)
  where
    by : (b : Bool) → is_frame_byte (if b then memory byte_width (Address (distance_of k)) else cell_place 0 (cells_of q) byte_width k) ≡ true
    by true = refl
    by false = cell_byte 0 (cells_of q) k

cell_word : (n : ℕ) (cells : List FrameCell) (k : ℤ) → is_passing (place_value (cell_place n cells word_width k)) ≡ false
cell_word n [] k = refl
cell_word n (cell ∷ cells) k = by (is_within k (bytes_of cell)) (cell_word (suc n) cells k)
  where
    by : (b : Bool) → is_passing (place_value (cell_place (suc n) cells word_width k)) ≡ false
        → is_passing (place_value (if b then word (Cell n Low) (Cell n High) else cell_place (suc n) cells word_width k)) ≡ false
    by true rest = refl
    by false rest = rest

-- a word of the frame is no half or flag that passes
pub frame_word : (q : Procedure) (k : ℤ) → is_passing (place_value (frame_place q word_width k)) ≡ false
frame_word q k = by (is_placed q.frame k)
  where
    by : (b : Bool) → is_passing (place_value (if b then memory word_width (Address (distance_of k)) else cell_place 0 (cells_of q) word_width k)) ≡ false
    by true = refl
    by false = cell_word 0 (cells_of q) k

-- The arguments of a call.

-- of words and of what passes only the words are used
pub words_used : (value : ℕ → Expr) → ((number : ℕ) → is_passing (value number) ≡ false) → (numbers : List ℕ)
    → flat_map reads_of (filter (λ e. not (is_passing e)) (map value numbers ++ map Get passed)) ≡ flat_map (λ number. reads_of (value number)) numbers
words_used value apart [] = refl
words_used value apart (number ∷ numbers) =
    let rest = filter (λ e. not (is_passing e)) (map value numbers ++ map Get passed) in
    ap (λ b. flat_map reads_of (if not b then value number ∷ rest else rest)) (apart number) ∙ ap (λ ls. reads_of (value number) ++ ls) (words_used value apart numbers)

-- The temporaries of a call.

-- of its results only these are written
pub temporaries_written : (ns : List ℕ) → filter (λ location. not (passes location)) (map returned_place ns) ≡ map returned_place ns
temporaries_written [] = refl
temporaries_written (n ∷ ns) = ap (λ ls. returned_place n ∷ ls) (temporaries_written ns)

among_returned : (ns : List ℕ) (i : ℕ) → Contains ns i → is_among (map returned_place ns) (returned_place i) ≡ true
among_returned [] i c = absurd (Contains-none i c)
among_returned (n ∷ ns) i c =
    Contains-cases n ns i (is_among (map returned_place (n ∷ ns)) (returned_place i) ≡ true)
    (λ e. or_here (same_location (returned_place i) (returned_place n)) (is_among (map returned_place ns) (returned_place i))
    (ap (λ m. same_location (returned_place i) (returned_place m)) e ∙ location_itself (returned_place i)))
    (λ later. or_there (same_location (returned_place i) (returned_place n)) (is_among (map returned_place ns) (returned_place i)) (among_returned ns i later)) c

pub is_returned : (count i : ℕ) → i < count → is_among (map returned_place (range_with_len 0 count)) (returned_place i) ≡ true
is_returned count i less = among_returned (range_with_len 0 count) i (in-range 0 count i (omega arith) (omega (arith, less)))

pub none_returned : (ns : List ℕ) (l : Loc) → is_lasting l ≡ true → is_among (map returned_place ns) l ≡ false
none_returned [] l t = refl
none_returned (n ∷ ns) (Half r h) t = none_returned ns (Half r h) t
none_returned (n ∷ ns) (Flag f) t = none_returned ns (Flag f) t
none_returned (n ∷ ns) (Cell m h) t = none_returned ns (Cell m h) t
none_returned (n ∷ ns) (Temp m) t = absurd (true≢false (sym t))

-- Statements that take bytes back, each to a half of a cell or to memory, from one of these locations.

module _ (returned : Loc → Bool) where
  pub data AreBack : List Stmt → Type 0 where
    no_more : AreBack []
    to_cell : {n t : ℕ} {h : HalfName} {ss : List Stmt} → returned (Temp t) ≡ true → AreBack ss → AreBack (Set (Cell n h) (Get (Temp t)) ∷ ss)
    to_memory : {w d t : ℕ} {ss : List Stmt} → returned (Temp t) ≡ true → AreBack ss → AreBack (Store w (Address d) (Get (Temp t)) ∷ ss)

  back_append : {xs ys : List Stmt} → AreBack xs → AreBack ys → AreBack (xs ++ ys)
  back_append no_more more = more
  back_append (to_cell r rest) more = to_cell r (back_append rest more)
  back_append (to_memory r rest) more = to_memory r (back_append rest more)

  back_storing : (P : OperandPlace) (t : ℕ) → is_frame_byte P ≡ true → returned (Temp t) ≡ true → AreBack (storing P (Get (Temp t)))
  back_storing (constant v n) t e r = no_more
  back_storing (byte (Cell n h)) t e r = to_cell r no_more
  back_storing (memory v (Address distance)) t e r = to_memory r no_more
  back_storing place t e r = absurd (true≢false (sym e))

  pub all_back : (q : Procedure) (height index : ℕ) (numbers : List ℕ) → ((i : ℕ) → i < 2 * (index + length numbers) → returned (returned_place i) ≡ true)
      → AreBack (taking_all_back q height index numbers)
  all_back q height index [] all = no_more
  all_back q height index (number ∷ numbers) all =
      let k = argument_offset height number in
      back_append
      (back_append (back_storing (frame_place q byte_width k) (8 + 2 * index) (frame_byte q k) (all (2 * index) (omega arith)))
      (back_storing (frame_place q byte_width (k +ℤ pos 1)) (8 + (2 * index + 1)) (frame_byte q (k +ℤ pos 1)) (all (2 * index + 1) (omega arith))))
      (all_back q height (suc index) numbers (λ i less. all i (omega (arith, less))))

  -- What they do.

  pub back_quiet : {ss : List Stmt} → AreBack ss → Quiet ss
  back_quiet no_more = tt
  back_quiet (to_cell r rest) = (refl, back_quiet rest)
  back_quiet (to_memory r rest) = (refl, back_quiet rest)

  pub back_values : {ss : List Stmt} → AreBack ss → list_all is_value ss ≡ true
  back_values no_more = refl
  back_values (to_cell r rest) = back_values rest
  back_values (to_memory r rest) = back_values rest

  -- what passes is neither a temporary nor a half of a cell
  no_temporary : (l : Loc) (t : ℕ) → passes l ≡ true → is_among (Temp t ∷ []) l ≡ false
  no_temporary (Half r h) t e = refl
  no_temporary (Flag f) t e = refl
  no_temporary (Cell n h) t e = refl
  no_temporary (Temp n) t e = absurd (true≢false (sym e))

  no_cell : (l : Loc) (n : ℕ) (h : HalfName) → passes l ≡ true → is_among (Cell n h ∷ []) l ≡ false
  no_cell (Half r k) n h e = refl
  no_cell (Flag f) n h e = refl
  no_cell (Temp m) n h e = refl
  no_cell (Cell m k) n h e = absurd (true≢false (sym e))

  pub back_spared : {ss : List Stmt} → AreBack ss → (l : Loc) → passes l ≡ true → SparedBy l ss
  back_spared no_more l e = tt
  back_spared (to_cell {n = n} {t = t} {h = h} r rest) l e = ((no_temporary l t e, no_cell l n h e), refl, back_spared rest l e)
  back_spared (to_memory {t = t} r rest) l e = ((refl, refl), no_temporary l t e, back_spared rest l e)

  pub back_unwritten : {ss : List Stmt} → AreBack ss → (l : Loc) → passes l ≡ true → is_written ss l ≡ false
  back_unwritten no_more l e = refl
  back_unwritten (to_cell {n = n} {h = h} {ss = ss} r rest) l e = ap (λ b. b || is_among (Cell n h ∷ []) l) (back_unwritten rest l e) ∙ no_cell l n h e
  back_unwritten (to_memory {ss = ss} r rest) l e = or_none (is_written ss l) ∙ back_unwritten rest l e

  -- what a location holds after them: what it held, or what was given for it
  pub data Holding (ss : List Stmt) (l : Loc) : Type 0 where
    kept : is_written ss l ≡ false → sources ss l ≡ l ∷ [] → Holding ss l
    given : (t : ℕ) → is_written ss l ≡ true → returned (Temp t) ≡ true → sources ss l ≡ Temp t ∷ [] → Holding ss l

  pub back_holding : {ss : List Stmt} → AreBack ss → (l : Loc) → is_lasting l ≡ true → Holding ss l
  back_holding no_more l e = kept refl refl
  back_holding (to_cell {n = n} {t = t} {h = h} {ss = ss} r rest) l e = by (back_holding rest l e) (same_location l (Cell n h)) refl
    where
      by : Holding ss l → (b : Bool) → same_location l (Cell n h) ≡ b → Holding (Set (Cell n h) (Get (Temp t)) ∷ ss) l
      by (kept w from) true f =
          given t (ap (λ b. b || is_among (Cell n h ∷ []) l) w ∙ ap (λ b. b || false) f) r
          (ap (flat_map (before (Set (Cell n h) (Get (Temp t))))) from ∙ ap (λ b. (if b || false then Temp t ∷ [] else l ∷ []) ++ []) f)
      by (kept w from) false f =
          kept (ap (λ b. b || is_among (Cell n h ∷ []) l) w ∙ ap (λ b. b || false) f)
          (ap (flat_map (before (Set (Cell n h) (Get (Temp t))))) from ∙ ap (λ b. (if b || false then Temp t ∷ [] else l ∷ []) ++ []) f)
      by (given u w g from) b f = given u (ap (λ b. b || is_among (Cell n h ∷ []) l) w) g (ap (flat_map (before (Set (Cell n h) (Get (Temp t))))) from)
  back_holding (to_memory {w = w} {d = d} {t = t} {ss = ss} r rest) l e = by (back_holding rest l e)
    where
      by : Holding ss l → Holding (Store w (Address d) (Get (Temp t)) ∷ ss) l
      by (kept left from) = kept (or_none (is_written ss l) ∙ left) (ap (flat_map (before (Store w (Address d) (Get (Temp t))))) from)
      by (given u taken g from) = given u (or_none (is_written ss l) ∙ taken) g (ap (flat_map (before (Store w (Address d) (Get (Temp t))))) from)

  -- the statements after a Call use what is given alone, which is gone before the Call
  pub back_used : {ss : List Stmt} → AreBack ss → (f : Loc → List Loc) → ((t : ℕ) → returned (Temp t) ≡ true → f (Temp t) ≡ []) → flat_map f (used ss []) ≡ []
  back_used no_more f gone = refl
  back_used (to_cell {n = n} {t = t} {h = h} {ss = ss} r rest) f gone =
      let s = Set (Cell n h) (Get (Temp t)) in
      flat_twice f (before s) (used ss []) ∙ back_used rest (λ l. flat_map f (before s l)) (λ u g. ap (λ ls. ls ++ []) (gone u g))
  back_used (to_memory {w = w} {d = d} {t = t} {ss = ss} r rest) f gone =
      let s = Store w (Address d) (Get (Temp t)) in
      ap (λ ls. ls ++ flat_map f (flat_map (before s) (used ss []))) (gone t r)
      ∙ flat_twice f (before s) (used ss []) ∙ back_used rest (λ l. flat_map f (before s l)) (λ u g. ap (λ ls. ls ++ []) (gone u g))

-- Which locations stores and what puts arguments back write.

pub storing_written : (P : OperandPlace) (e : Expr) (l : Loc) → is_frame_byte P ≡ true → is_written (storing P e) l ≡ is_among (outs P) l
storing_written (constant v n) e l t = refl
storing_written (byte (Cell n h)) e l t = refl
storing_written (memory v (Address distance)) e l t = refl
storing_written place e l t = absurd (true≢false (sym t))
