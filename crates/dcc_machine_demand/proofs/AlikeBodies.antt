-- Procedures with the same instructions, frames and heights: what is told of their summaries is told of both.
use Rattle.std.proofs.Common.{◌≡◌, ℕ, ℤ, zero, suc, pos, Bool, true, false, not, ◌&&◌, ◌||◌, ◌==◌, if◌then◌else◌, inl, inr, List, [], ◌∷◌, ◌++◌, filter, Contains, Option, Some, None, refl, sym, ap, ap₂, ◌∙◌, subst, ◌+◌, ◌*◌, arith}
use Rattle.std.specs.Prelude.{neg_ℤ, ◌+ℤ◌, int_le, int_lt}
use Rattle.std.specs.List.{AllZip, list_any, range_with_len}
use Rattle.std.proofs.Math.Path.{fun_ext}
use Rattle.dcc_num.specs.declared.Width.{Width}
use Rattle.dcc_prog.specs.declared.procedure.Node.{Node}
use Rattle.dcc_prog.specs.declared.frame.Cell.{Cell}
use Rattle.dcc_prog.specs.declared.frame.Exposed.{Exposed}
use Rattle.dcc_machine.specs.declared.instr.Ea.{Ea}
use Rattle.dcc_machine.specs.declared.instr.Instr.{Instr}
use Rattle.dcc_machine.specs.declared.instr.Operand.{Operand}
use Rattle.dcc_machine.specs.declared.instr.Operand.TheVariants.{Word, Byte, Seg, Mem, Const}
use Rattle.dcc_machine.specs.declared.instr.Op.{Op}
use Rattle.dcc_machine.specs.declared.instr.Op.TheVariants.{Unary as UnaryOp, Mov, Xchg, Push, Pop, Call}
use Rattle.dcc_prog.specs.declared.refusal.ConstructKind.{ConstructKind}
use Rattle.dcc_prog.specs.declared.refusal.ConstructKind.TheVariants.{SeveralResults}
use Rattle.dcc_machine.specs.Access.{is_direct}
use Rattle.dcc_prog.specs.Frame.{Span, argument_word, memory_operand, offset_in_frame}
use Rattle.dcc_prog.specs.Analysed.{bytes_of}
use Rattle.dcc_machine.specs.Operations.{is_division}
use Rattle.dcc_machine.specs.Wanted.{half_of, flag_of, uses}
use Rattle.dcc_prog.specs.Clean.{exposes}
use Rattle.dcc_stack.specs.Slots.{is_within, exposes_of, direct_bytes, overlaps, writes_memory, writes_directly, gives_back}
use Rattle.dcc_demand.specs.Procedures.{Effect, Leaves, Makes, Pops, WordEffect, Overwrites, Action, Procedure, is_left}
use Rattle.dcc_demand.specs.Wanted.{Wanted, IsResult}
use Rattle.dcc_machine_demand.specs.Bodies.{Body, entry_of, nodes_of, body_at, Point, op_of, find_at, point_with}
use Rattle.dcc_machine_demand.specs.Bodies.{point_at}
use Rattle.dcc_machine_demand.specs.Holders.{Holder, held, in_frame, Spot, placed, in_memory, is_in_cell, is_holder}
use Rattle.dcc_machine_demand.specs.Holders.{is_exposed_holder, frame_spot, for_bytes, is_of_frame, memory_spots}
use Rattle.dcc_machine_demand.specs.Holders.{spots_of, is_at, is_placed, is_of_address, spots_of_memory, is_accessed_by}
use Rattle.dcc_machine_demand.specs.Holders.{is_in_cells, is_accessed, is_private_byte}
use Rattle.dcc_machine_demand.specs.Moves.{moves_between, popping, word_spots, pushed_offset, popped_offset, of_either}
use Rattle.dcc_machine_demand.specs.Moves.{moves_of, moved_effect, moved_made_of, moved_uses, pushed_spots, pushed_from}
use Rattle.dcc_machine_demand.specs.Values.{moves_or_calls, value_written, is_sure, is_cleared, takes_memory}
use Rattle.dcc_machine_demand.specs.Values.{value_made_of, divides, division_uses, value_uses}
use Rattle.dcc_machine_demand.specs.Instance.{passed_word, is_passed, arguments_of, touched_of, callee_of, callee_in}
use Rattle.dcc_machine_demand.specs.Instance.{passes_byte, touches_byte, moves, touches, effect_at, made_at, uses_at}
use Rattle.dcc_machine_demand.specs.Instance.{overwrites, action_of, action_at, next_of, is_ret, returns_at}
use Rattle.dcc_machine_demand.specs.Instance.{procedure_of, procedure_or_none, procedures_of}
use Rattle.dcc_machine_demand.specs.Asked.{IsReused, GivesSeveral, IsOneValue, IsOfSummaries, argument_reused}
use Rattle.dcc_machine_demand.specs.Asked.{several_results}

-- the two instructions are one, whatever holds their successors
pub record AreOneNode (m n : ℕ × Node) : Type 0 where
  pub at : m.0 ≡ n.0
  pub instr : m.1.instr ≡ n.1.instr
  pub succ : m.1.succ.items ≡ n.1.succ.items
  pub number : m.1.number ≡ n.1.number

-- the two procedures are one so
pub record AreOneBody (a b : Body) : Type 0 where
  pub entry : entry_of a ≡ entry_of b
  pub nodes : AllZip AreOneNode (nodes_of a) (nodes_of b)
  pub heights : a.heights ≡ b.heights
  pub framed : a.frame.framed ≡ b.frame.framed
  pub args : a.frame.args ≡ b.frame.args
  pub cells : a.frame.cells.items ≡ b.frame.cells.items
  pub exposed : a.frame.exposed ≡ b.frame.exposed

any_node : (f g : ℕ × Node → Bool) → ((m n : ℕ × Node) → AreOneNode m n → f m ≡ g n) → (xs ys : List (ℕ × Node)) → AllZip AreOneNode xs ys → list_any f xs ≡ list_any g ys
any_node f g same [] [] zip = refl
any_node f g same [] (y ∷ ys) zip = absurd zip
any_node f g same (x ∷ xs) [] zip = absurd zip
any_node f g same (x ∷ xs) (y ∷ ys) zip = ap₂ (λ s t. s || t) (same x y zip.0) (any_node f g same xs ys zip.1)

filter_alike : (f g : ℕ → Bool) → ((n : ℕ) → f n ≡ g n) → (ns : List ℕ) → filter f ns ≡ filter g ns
filter_alike f g same [] = refl
filter_alike f g same (n ∷ ns) = ap₂ (λ t rest. if t then n ∷ rest else rest) (same n) (filter_alike f g same ns)

-- Frames.

module _ (a b : Body) (one : AreOneBody a b) where
  exposes_one : (k : ℤ) → exposes a.frame k ≡ exposes b.frame k
  exposes_one k =
      ap₂ (λ (e : Exposed) n. (int_le (neg_ℤ (pos e.local)) k && int_lt k (pos 0)) || elim e.arg [ None ↦ false | Some least ↦ int_le (pos least) k && int_lt k (pos (4 + 2 * n)) ])
      one.exposed one.args

  exposes_of_one : (span : Span) → exposes_of a.frame span ≡ exposes_of b.frame span
  exposes_of_one span = ap₂ (λ s t. s || (int_lt (span.first +ℤ pos 1) span.end && t)) (exposes_one span.first) (exposes_one (span.first +ℤ pos 1))

  cell_one : (k : ℤ) → is_in_cell a k ≡ is_in_cell b k
  cell_one k = ap (list_any (λ (cell : Cell). is_within k (bytes_of cell))) one.cells

  place_one : (place : Holder) → is_holder a place ≡ is_holder b place
  place_one (held location) = refl
  place_one (in_frame k) = cell_one k

  any_cell : (f g : Cell → Bool) → ((cell : Cell) → f cell ≡ g cell) → (cells : List Cell) → list_any f cells ≡ list_any g cells
  any_cell f g same [] = refl
  any_cell f g same (cell ∷ cells) = ap₂ (λ s t. s || t) (same cell) (any_cell f g same cells)

  exposed_place_one : (place : Holder) → is_exposed_holder a place ≡ is_exposed_holder b place
  exposed_place_one (held location) = refl
  exposed_place_one (in_frame k) =
      ap (list_any (λ (cell : Cell). is_within k (bytes_of cell) && exposes_of a.frame (bytes_of cell))) one.cells
      ∙ any_cell (λ cell. is_within k (bytes_of cell) && exposes_of a.frame (bytes_of cell)) (λ cell. is_within k (bytes_of cell) && exposes_of b.frame (bytes_of cell))
      (λ cell. ap (λ t. is_within k (bytes_of cell) && t) (exposes_of_one (bytes_of cell))) b.frame.cells.items

  accessed_one : (span : Span) → is_accessed a span ≡ is_accessed b span
  accessed_one span =
      ap₂ (λ s t. s && t) one.framed
      (any_node (λ found. overlaps span (direct_bytes (memory_operand found.1.instr.op))) (λ found. overlaps span (direct_bytes (memory_operand found.1.instr.op)))
      (λ m n same. ap (λ (i : Instr). overlaps span (direct_bytes (memory_operand i.op))) same.instr) (nodes_of a) (nodes_of b) one.nodes)

  private_one : (k : ℤ) → is_private_byte a k ≡ is_private_byte b k
  private_one k =
      ap (list_any (λ (cell : Cell). is_within k (bytes_of cell) && (not (is_accessed a (bytes_of cell)) && not (exposes_of a.frame (bytes_of cell))))) one.cells
      ∙ any_cell (λ cell. is_within k (bytes_of cell) && (not (is_accessed a (bytes_of cell)) && not (exposes_of a.frame (bytes_of cell))))
      (λ cell. is_within k (bytes_of cell) && (not (is_accessed b (bytes_of cell)) && not (exposes_of b.frame (bytes_of cell))))
      (λ cell. ap₂ (λ s t. is_within k (bytes_of cell) && (not s && not t)) (accessed_one (bytes_of cell)) (exposes_of_one (bytes_of cell))) b.frame.cells.items

  -- Operands.

  spot_one : (k : ℤ) → frame_spot a k ≡ frame_spot b k
  spot_one k = ap (λ t. if t then placed (in_frame k) else in_memory) (cell_one k)

  memory_one : (w : Width) (ea : Ea) → memory_spots a w ea ≡ memory_spots b w ea
  memory_one w ea =
      let k = offset_in_frame ea in
      ap (λ t. if t && is_direct ea then for_bytes w (frame_spot a k) (frame_spot a (k +ℤ pos 1)) else for_bytes w in_memory in_memory) one.framed
      ∙ ap₂ (λ s t. if is_of_frame b ea then for_bytes w s t else for_bytes w in_memory in_memory) (spot_one k) (spot_one (k +ℤ pos 1))

  spots_one : (x : Operand) → spots_of a x ≡ spots_of b x
  spots_one (Word r) = refl
  spots_one (Byte r half) = refl
  spots_one (Seg number) = refl
  spots_one (Mem w ea) = memory_one w ea
  spots_one (Const w constant) = refl

  memory_spots_one : (o : Option (Width × Ea)) → spots_of_memory a o ≡ spots_of_memory b o
  memory_spots_one None = refl
  memory_spots_one (Some (w, ea)) = memory_one w ea

  by_op : (op : Op) (k : ℤ) → is_accessed_by a op k ≡ is_accessed_by b op k
  by_op op k = ap (list_any (λ spot. is_at spot (in_frame k))) (memory_spots_one (memory_operand op))

  in_cells_one : (op : Op) → is_in_cells a op ≡ is_in_cells b op
  in_cells_one op = ap (list_any is_placed) (memory_spots_one (memory_operand op))

  -- Moves.

  words_one : (k : ℤ) → word_spots a k ≡ word_spots b k
  words_one k = ap₂ (λ s t. s ∷ t ∷ []) (spot_one k) (spot_one (k +ℤ pos 1))

  popping_one : (x : Operand) (spots : List Spot) (k : ℤ) → popping a x spots k ≡ popping b x spots k
  popping_one x [] k = refl
  popping_one x (to ∷ rest) k =
      ap₂ (λ s more. record { to = to; effect = Pops k; made_of = λ place. is_at s place || is_of_address x place } ∷ more) (spot_one k) (popping_one x rest (k +ℤ pos 1))

  moves_one : (height : ℕ) (op : Op) → moves_of a height op ≡ moves_of b height op
  moves_one height (Mov to from) = ap₂ (λ s t. moves_between (of_either to from) s t) (spots_one to) (spots_one from)
  moves_one height (Xchg x y) = ap₂ (λ s t. moves_between (of_either x y) s t ++ moves_between (of_either x y) t s) (spots_one x) (spots_one y)
  moves_one height (Push x) = ap₂ (λ s t. moves_between (is_of_address x) s t) (words_one (pushed_offset height)) (spots_one x)
  moves_one height (Pop x) = ap (λ s. popping a x s (popped_offset height)) (spots_one x) ∙ popping_one x (spots_of b x) (popped_offset height)
  moves_one height op = refl

  pushed_one : (op : Op) → pushed_spots a op ≡ pushed_spots b op
  pushed_one (Push x) = spots_one x
  pushed_one op = refl

  -- Values.

  written_one : (op : Op) (number : Option ℕ) (place : Holder) → value_written a op number place ≡ value_written b op number place
  written_one op number (held (half_of r half)) = refl
  written_one op number (held (flag_of flag)) = refl
  written_one op number (in_frame k) = ap (λ t. writes_memory op && t) (by_op op k)

  made_one : (op : Op) (to from : Holder) → value_made_of a op to from ≡ value_made_of b op to from
  made_one op (held to) (held from) = refl
  made_one op (held to) (in_frame k) = ap (λ t. (takes_memory op to && not (is_cleared op to)) && t) (by_op op k)
  made_one op (in_frame k) (held from) = ap (λ t. t && uses op None from) (by_op op k)
  made_one op (in_frame k) (in_frame j) = ap₂ (λ s t. s && t) (by_op op k) (by_op op j)

  used_one : (op : Op) (number : Option ℕ) (place : Holder) → value_uses a op number place
      ≡ value_uses b op number place
  used_one (UnaryOp operation x) number (held location) =
      ap (λ t. if is_division operation then division_uses x location else not t && uses (UnaryOp operation x) number location) (in_cells_one (UnaryOp operation x))
  used_one op number (held location) = ap (λ t. not t && uses op number location) (in_cells_one op)
  used_one op number (in_frame k) = ap (λ t. divides op && t) (by_op op k)

  gives_one : (number : ℕ) → gives_back a.proc a.frame number ≡ gives_back b.proc b.frame number
  gives_one number =
      let word = argument_word number in
      ap₂ (λ s t. s || t) (exposes_of_one word)
      (ap₂ (λ s t. s && t) one.framed
      (any_node (λ node. writes_directly node.1.instr.op word) (λ node. writes_directly node.1.instr.op word) (λ m n same. ap (λ (i : Instr). writes_directly i.op word) same.instr) (nodes_of a) (nodes_of b) one.nodes))

  arguments_one : arguments_of (Some a) ≡ arguments_of (Some b)
  arguments_one = ap (range_with_len 0) one.args

  touched_one : touched_of (Some a) ≡ touched_of (Some b)
  touched_one =
      filter_alike (gives_back a.proc a.frame) (gives_back b.proc b.frame) gives_one (arguments_of (Some a))
      ∙ ap (filter (gives_back b.proc b.frame)) arguments_one

-- the two have one instruction at an offset, at one height
record AreOnePoint (s t : Point) : Type 0 where
  op : op_of s ≡ op_of t
  succ : s.node.succ.items ≡ t.node.succ.items
  number : s.node.number ≡ t.node.number
  height : s.height ≡ t.height

data Both {A : Type 0} (R : A → A → Type 0) : Option A → Option A → Type 0 where
  neither : Both R None None
  both : {x y : A} → R x y → Both R (Some x) (Some y)

found_both : (at : ℕ) (xs ys : List (ℕ × Node)) → AllZip AreOneNode xs ys → Both (λ m n. AreOneNode (at, m) (at, n)) (find_at xs at) (find_at ys at)
found_both at [] [] zip = neither
found_both at [] (y ∷ ys) zip = absurd zip
found_both at (x ∷ xs) [] zip = absurd zip
found_both at (x ∷ xs) (y ∷ ys) zip =
    subst (λ t. Both (λ m n. AreOneNode (at, m) (at, n)) (find_at (x ∷ xs) at) (if t then Some y.1 else find_at ys at)) (ap (λ n. n == at) zip.0.at)
    (by (x.0 == at) (found_both at xs ys zip.1))
  where
    by : (t : Bool) → Both (λ m n. AreOneNode (at, m) (at, n)) (find_at xs at) (find_at ys at)
        → Both (λ m n. AreOneNode (at, m) (at, n)) (if t then Some x.1 else find_at xs at) (if t then Some y.1 else find_at ys at)
    by true rest = both (record { at = refl; instr = zip.0.instr; succ = zip.0.succ; number = zip.0.number })
    by false rest = rest

points_both : (a b : Body) → AreOneBody a b → (at : ℕ) → Both AreOnePoint (point_at a at) (point_at b at)
points_both a b one at =
    subst (λ hs. Both AreOnePoint (point_at a at) (point_with (find_at (nodes_of b) at) (find_at hs at))) one.heights
    (by (find_at (nodes_of a) at) (find_at (nodes_of b) at) (found_both at (nodes_of a) (nodes_of b) one.nodes) (find_at a.heights at))
  where
    by : (m n : Option Node) → Both (λ m n. AreOneNode (at, m) (at, n)) m n → (h : Option ℕ) → Both AreOnePoint (point_with m h) (point_with n h)
    by m n neither h = neither
    by m n (both same) None = neither
    by m n (both same) (Some height) = both (record { op = ap (λ (i : Instr). i.op) same.instr; succ = same.succ; number = same.number; height = refl })

bodies_both : (entry : ℕ) (xs ys : List Body) → AllZip AreOneBody xs ys → Both AreOneBody (body_at xs entry) (body_at ys entry)
bodies_both entry [] [] zip = neither
bodies_both entry [] (y ∷ ys) zip = absurd zip
bodies_both entry (x ∷ xs) [] zip = absurd zip
bodies_both entry (x ∷ xs) (y ∷ ys) zip =
    subst (λ t. Both AreOneBody (body_at (x ∷ xs) entry) (if t then Some y else body_at ys entry)) (ap (λ n. n == entry) zip.0.entry)
    (by (entry_of x == entry) (bodies_both entry xs ys zip.1))
  where
    by : (t : Bool) → Both AreOneBody (body_at xs entry) (body_at ys entry) → Both AreOneBody (if t then Some x else body_at xs entry) (if t then Some y else body_at ys entry)
    by true rest = both zip.0
    by false rest = rest

-- Procedures.

module _ (xs ys : List Body) (all : AllZip AreOneBody xs ys) where
  touched_both : (x y : Option Body) → Both AreOneBody x y → touched_of x ≡ touched_of y
  touched_both x y neither = refl
  touched_both x y (both {x = a} {y = b} one) = touched_one a b one

  arguments_both : (x y : Option Body) → Both AreOneBody x y → arguments_of x ≡ arguments_of y
  arguments_both x y neither = refl
  arguments_both x y (both {x = a} {y = b} one) = arguments_one a b one

  pub touched_alike : (target : ℕ) → touched_of (body_at xs target) ≡ touched_of (body_at ys target)
  touched_alike target = touched_both (body_at xs target) (body_at ys target) (bodies_both target xs ys all)

  touched_in : (op : Op) → touched_of (callee_in xs op) ≡ touched_of (callee_in ys op)
  touched_in (Call target) = touched_alike target
  touched_in op = refl

  arguments_in : (op : Op) → arguments_of (callee_in xs op) ≡ arguments_of (callee_in ys op)
  arguments_in (Call target) = arguments_both (body_at xs target) (body_at ys target) (bodies_both target xs ys all)
  arguments_in op = refl

  touches_alike : (op : Op) (height : ℕ) (place : Holder) → touches_byte (callee_in xs op) height place ≡ touches_byte (callee_in ys op) height place
  touches_alike op height (held location) = refl
  touches_alike op height (in_frame k) = ap (λ ns. is_passed height ns k) (touched_in op)

  passes_alike : (op : Op) (height : ℕ) (place : Holder) → passes_byte (callee_in xs op) height place ≡ passes_byte (callee_in ys op) height place
  passes_alike op height (held location) = refl
  passes_alike op height (in_frame k) = ap (λ ns. is_passed height ns k) (arguments_in op)

  module _ (a b : Body) (one : AreOneBody a b) where
    module _ (pt : Point) where
      abbrev op : Op
      op = op_of pt

      effect_alike : (place : Holder) → effect_at xs a pt place ≡ effect_at ys b pt place
      effect_alike place =
          ap (λ t. if moves_or_calls op then if t then Makes else moved_effect (moves xs a pt) place else if value_written a op pt.node.number place then Makes else Leaves)
          (touches_alike op pt.height place)
          ∙ ap₂ (λ ms t. if moves_or_calls op then if touches ys b pt place then Makes else moved_effect ms place else if t then Makes else Leaves)
          (moves_one a b one pt.height op) (written_one a b one op pt.node.number place)

      made_alike : (to from : Holder) → made_at xs a pt to from ≡ made_at ys b pt to from
      made_alike to from =
          ap₂ (λ ms t. if moves_or_calls op then moved_made_of ms to from else t) (moves_one a b one pt.height op) (made_one a b one op to from)

      uses_alike : (place : Holder) → uses_at xs a pt place ≡ uses_at ys b pt place
      uses_alike place =
          ap₂ (λ ms t. if moves_or_calls op then moved_uses ms place || t else value_uses a op pt.node.number place) (moves_one a b one pt.height op) (passes_alike op pt.height place)
          ∙ ap (λ t. if moves_or_calls op then moved_uses (moves ys b pt) place || passes_byte (callee_in ys op) pt.height place else t) (used_one a b one op pt.node.number place)

      overwrites_alike : (k : ℤ) → overwrites xs a pt k ≡ overwrites ys b pt k
      overwrites_alike k = ap₂ (λ s t. s || (writes_memory op && t)) (touches_alike op pt.height (in_frame k)) (by_op a b one op k)

      same_point : action_of xs a pt ≡ action_of ys b pt
      same_point =
          let made : (Holder → Bool) → (Holder → Effect Holder ℤ) → (Holder → Holder → Bool) → (Holder → Bool) → (ℤ → WordEffect Holder) → Action Holder ℤ =
          λ u e m s w. record { uses = u; effect = e; made_of = m; surely = s; word_effect = w; callee = callee_of op } in
          ap (λ u. made u (effect_at xs a pt) (action_of xs a pt).made_of (action_of xs a pt).surely (action_of xs a pt).word_effect)
          (fun_ext (λ place. ap₂ (λ s t. s && t) (place_one a b one place) (uses_alike place)))
          ∙ ap (λ e. made (action_of ys b pt).uses e (action_of xs a pt).made_of (λ place. not (is_left (e place)) && is_sure op place) (action_of xs a pt).word_effect)
          (fun_ext effect_alike)
          ∙ ap (λ m. made (action_of ys b pt).uses (effect_at ys b pt) m (action_of ys b pt).surely (action_of xs a pt).word_effect)
          (fun_ext (λ to. fun_ext (λ from. ap₂ (λ s t. s && t) (place_one a b one from) (made_alike to from))))
          ∙ ap (λ w. made (action_of ys b pt).uses (effect_at ys b pt) (action_of ys b pt).made_of (action_of ys b pt).surely w)
          (fun_ext (λ k. ap₂ (λ t spots. if t then Overwrites else pushed_from (pushed_offset pt.height) spots k) (overwrites_alike k) (pushed_one a b one op)))

    abbrev point_by : Point → Op → Option ℕ → ℕ → Point
    point_by s o number height = record { node = record { instr = record s.node.instr { op = o }; succ = s.node.succ; number = number }; height = height }

    action_alike : (s t : Point) → AreOnePoint s t → action_of xs a s ≡ action_of ys b t
    action_alike s t same =
        same_point s
        ∙ ap (λ o. action_of ys b (point_by s o s.node.number s.height)) same.op
        ∙ ap₂ (λ number height. action_of ys b (point_by s (op_of t) number height)) same.number same.height

    actions_both : (x y : Option Point) → Both AreOnePoint x y → action_at xs a x ≡ action_at ys b y
    actions_both x y neither = refl
    actions_both x y (both {x = s} {y = t} same) = action_alike s t same

    nexts_both : (x y : Option Point) → Both AreOnePoint x y → next_of x ≡ next_of y
    nexts_both x y neither = refl
    nexts_both x y (both same) = same.succ

    returns_both : (x y : Option Point) → Both AreOnePoint x y → returns_at x ≡ returns_at y
    returns_both x y neither = refl
    returns_both x y (both same) = ap is_ret same.op

    procedure_alike : procedure_of xs a ≡ procedure_of ys b
    procedure_alike =
        let made : ℕ → (ℕ → List ℕ) → (ℕ → Bool) → (ℕ → Action Holder ℤ) → (ℤ → Bool) → (Holder → Bool) → Procedure ℕ Holder ℤ =
        λ e n r act p x. record { entry = e; next = n; returns = r; action = act; is_private = p; is_exposed = x } in
        let before = procedure_of xs a in
        let after = procedure_of ys b in
        ap (λ e. made e before.next before.returns before.action before.is_private before.is_exposed) one.entry
        ∙ ap (λ n. made after.entry n before.returns before.action before.is_private before.is_exposed)
        (fun_ext (λ at. nexts_both (point_at a at) (point_at b at) (points_both a b one at)))
        ∙ ap (λ r. made after.entry after.next r before.action before.is_private before.is_exposed)
        (fun_ext (λ at. returns_both (point_at a at) (point_at b at) (points_both a b one at)))
        ∙ ap (λ act. made after.entry after.next after.returns act before.is_private before.is_exposed)
        (fun_ext (λ at. actions_both (point_at a at) (point_at b at) (points_both a b one at)))
        ∙ ap (λ p. made after.entry after.next after.returns after.action p before.is_exposed) (fun_ext (private_one a b one))
        ∙ ap (λ x. made after.entry after.next after.returns after.action after.is_private x) (fun_ext (exposed_place_one a b one))

  procedures_both : (x y : Option Body) → Both AreOneBody x y → procedure_or_none xs x ≡ procedure_or_none ys y
  procedures_both x y neither = refl
  procedures_both x y (both {x = a} {y = b} one) = procedure_alike a b one

  pub procedures_alike : procedures_of xs ≡ procedures_of ys
  procedures_alike =
      ap (λ f. record { procedure = f; passes = (procedures_of xs).passes })
      (fun_ext (λ entry. procedures_both (body_at xs entry) (body_at ys entry) (bodies_both entry xs ys all)))

-- Constructs.

one_in : (xs ys : List Body) → AllZip AreOneBody xs ys → (a : Body) → Contains xs a → (b : Body) × Contains ys b × AreOneBody a b
one_in [] ys zip a (k, inside, is) = absurd (omega (arith, inside))
one_in (x ∷ xs) [] zip a c = absurd zip
one_in (x ∷ xs) (y ∷ ys) zip a (zero, inside, is) = (y, (0, omega arith, refl), subst (λ z. AreOneBody z y) is zip.0)
one_in (x ∷ xs) (y ∷ ys) zip a (suc k, inside, is) =
    let found = one_in xs ys zip.1 a (k, omega (arith, inside), is) in
    let within = found.1.1 in
    (found.0, (suc found.1.0, omega (arith, within), found.1.2), found.2)

module _ (xs ys : List Body) (all : AllZip AreOneBody xs ys) where
  reused_alike : (a b : Body) → AreOneBody a b → (at : ℕ) → IsReused xs a at → IsReused ys b at
  reused_alike a b one at again = by (point_at a at) (point_at b at) (points_both a b one at) again.stands refl
    where
      by : (x y : Option Point) → Both AreOnePoint x y → x ≡ Some again.point → point_at b at ≡ y → IsReused ys b at
      by x y neither e f = absurd (cc e)
      by x y (both {x = s} {y = t} same) e f =
          let is : s ≡ again.point = cc e in
          let here = subst (λ pt. AreOnePoint pt t) is same in
          record {
            point = t;
            stands = f;
            target = again.target;
            calls = sym here.op ∙ again.calls;
            number = again.number;
            touched = subst (λ ns. Contains ns again.number) (touched_alike xs ys all again.target) again.touched;
            k = again.k;
            byte = subst (λ h. is_within again.k (passed_word h again.number) ≡ true) here.height again.byte;
            wanted = elim again.wanted [
              | inl none ↦ inl (sym (cell_one a b one again.k) ∙ none)
              | inr later ↦
                  inr (
                    later.0,
                    subst (λ ns. Contains ns later.0) here.succ later.1,
                    subst (λ e. Wanted (procedures_of ys) e later.0 (in_frame again.k)) one.entry
                        (subst (λ p. Wanted p (entry_of a) later.0 (in_frame again.k)) (procedures_alike xs ys all) later.2),
                  )
            ];
          }

  -- what stands in the one stands in the other
  pub constructs_alike : (kind : ConstructKind) (at : ℕ) → IsOfSummaries xs kind at → IsOfSummaries ys kind at
  constructs_alike _ _ (argument_reused {body = a} {at = place} c again) =
      let found = one_in xs ys all a c in argument_reused found.1 (reused_alike a found.0 found.2 place again)
  constructs_alike _ _ (several_results {body = a} c several) =
      let found = one_in xs ys all a c in
      subst (IsOfSummaries ys SeveralResults) (sym found.2.entry)
      (several_results found.1 (subst (λ e. GivesSeveral ys e) found.2.entry (λ one. several
      (subst (λ p. IsOneValue (λ location. IsResult p (entry_of a) (held location))) (sym (procedures_alike xs ys all)) one))))
