-- An access whose two ends lie on one side of the stack touches no byte of it.
use Rattle.std.proofs.Common.{◌≡◌, ℕ, zero, suc, ◌+◌, ◌*◌, ◌%◌, ◌<◌, ◌≤◌, ◌⊎◌, inl, inr, Bool, true, false, List, [], ◌∷◌, ◌++◌, Option, Some, None, refl, sym, ap, ◌∙◌, arith}
use Rattle.std.specs.Prelude.{nat_le, not, ◌&&◌, if◌then◌else◌, ◌-◌}
use Rattle.std.specs.List.{filter, filter_map, flat_map, find, cons_option, range_with_len}
use Rattle.std.proofs.lemmas.Bool.Decides.{nat_tests}
use Rattle.std.proofs.lemmas.List.Elements.{filter_map-append, filter-append}
use Rattle.std.proofs.lemmas.List.{append-nil, append_assoc}
use Rattle.std.proofs.Math.Nat.{mod-eq_of_lt}
use Rattle.dcc_prog.specs.declared.procedure.Layout.{Layout}
use Rattle.dcc_machine.specs.declared.instr.Instr.{Instr}
use Rattle.dcc_num.specs.declared.Width.{Width}
use Rattle.dcc_machine.specs.declared.instr.Ea.{Ea}
use Rattle.dcc_machine.specs.declared.instr.Operand.{Operand}
use Rattle.dcc_machine.specs.declared.instr.Operand.TheVariants.{Word, Byte, Seg, Mem, Const}
use Rattle.dcc_machine.specs.Machine.{State}
use Rattle.dcc_machine.specs.Access.{Access, Direction, address_in, addresses_of, operand_accesses}
use Rattle.dcc_prog.specs.Clean.{stack_offset, is_other, is_reading, is_marked, with_marks}
use Rattle.dcc_watch.specs.declared.frames.Live.{Live}
use Rattle.dcc_watch.specs.Accesses.{is_beside, near}
use Rattle.dcc_watch.specs.Foul.{touched, hidden_in, unwritten_in}
use Rattle.dcc_watch.specs.Following.{written_following}
use Rattle.dcc_watch.specs.Shapes.{exposed_in}
use Rattle.dcc_watch.proofs.Bytes.{within, none_within, all_within, within-more}

and-false : (b : Bool) → (b && false) ≡ false
and-false true = refl
and-false false = refl

module _ (layout : Layout) where
  -- a byte on one side of the stack
  outside : (address : ℕ) → (address < layout.ds * 16 + layout.lo) ⊎ (layout.ds * 16 + layout.hi ≤ address)
      → stack_offset layout address ≡ None
  outside address (inl less) =
      let first : nat_le (layout.ds * 16 + layout.lo) address ≡ false = grind (arith, nat_tests) in
      ap (λ b. if b && not (nat_le (layout.ds * 16 + layout.hi) address) then Some (address - layout.ds * 16) else None) first
  outside address (inr le) =
      let second : nat_le (layout.ds * 16 + layout.hi) address ≡ true = grind (arith, nat_tests) in
      ap (λ b. if nat_le (layout.ds * 16 + layout.lo) address && not b then Some (address - layout.ds * 16) else None) second
      ∙ ap (λ b. if b then Some (address - layout.ds * 16) else None) (and-false (nat_le (layout.ds * 16 + layout.lo) address))

  module _ (access : Access) (segment_fits : access.offset + access.size ≤ 65536)
      (memory_fits : access.segment * 16 + access.offset + access.size ≤ 1048576)
      (side : (access.segment * 16 + access.offset + access.size ≤ layout.ds * 16 + layout.lo) ⊎ (layout.ds * 16 + layout.hi ≤ access.segment * 16 + access.offset)) where
    -- where nothing wraps
    plain : (k : ℕ) → k < access.size → address_in access k ≡ access.segment * 16 + access.offset + k
    plain k less =
        let offset : (access.offset + k) % 65536 ≡ access.offset + k = mod-eq_of_lt (omega (arith, less, segment_fits)) in
        let address : (access.segment * 16 + (access.offset + k)) % 1048576 ≡ access.segment * 16 + (access.offset + k) =
        mod-eq_of_lt (omega (arith, less, memory_fits)) in
        ap (λ n. (access.segment * 16 + n) % 1048576) offset ∙ address ∙ omega arith

    on_side : (k : ℕ) → k < access.size → stack_offset layout (address_in access k) ≡ None
    on_side k less =
        ap (stack_offset layout) (plain k less) ∙ outside (access.segment * 16 + access.offset + k) (elim side [
          | inl before ↦ inl (omega (arith, less, before))
          | inr after ↦ inr (omega (arith, after))
        ])

    none_of_first : (n : ℕ) → n ≤ access.size → filter_map (stack_offset layout) (within access n) ≡ []
    none_of_first zero le = ap (filter_map (stack_offset layout)) (none_within access)
    none_of_first (suc n) le =
        let next : suc n ≡ n + 1 = omega arith in
        ap (λ m. filter_map (stack_offset layout) (within access m)) next
        ∙ ap (filter_map (stack_offset layout)) (within-more access n)
        ∙ filter_map-append (stack_offset layout) (within access n) (address_in access n ∷ [])
        ∙ ap (λ l. l ++ filter_map (stack_offset layout) (address_in access n ∷ [])) (none_of_first n (omega (arith, le)))
        ∙ ap (λ o. cons_option o []) (on_side n (omega (arith, le)))

  none_beside : (access : Access) → is_beside layout access ≡ true → filter_map (stack_offset layout) (addresses_of access) ≡ []
  none_beside access is =
      let segment_fits : access.offset + access.size ≤ 65536 = grind (arith, nat_tests) in
      let memory_fits : access.segment * 16 + access.offset + access.size ≤ 1048576 = grind (arith, nat_tests) in
      let side : (access.segment * 16 + access.offset + access.size ≤ layout.ds * 16 + layout.lo) ⊎ (layout.ds * 16 + layout.hi ≤ access.segment * 16 + access.offset) =
      grind (arith, nat_tests) in
      ap (filter_map (stack_offset layout)) (all_within access)
      ∙ none_of_first access segment_fits memory_fits side access.size (omega arith)

  -- A list without those is as good.

  module _ (keep : Access → Bool) where
    abbrev bytes : List Access → List ℕ
    bytes list = filter_map (stack_offset layout) (touched keep list)

    abbrev here : Bool → Access → List ℕ
    here b access = if b then filter_map (stack_offset layout) (addresses_of access) else []

    by : (b : Bool) (access : Access) (rest : List Access)
        → filter_map (stack_offset layout) (flat_map addresses_of (if b then access ∷ rest else rest))
        ≡ here b access ++ filter_map (stack_offset layout) (flat_map addresses_of rest)
    by true access rest = filter_map-append (stack_offset layout) (addresses_of access) (flat_map addresses_of rest)
    by false access rest = refl

    first : (access : Access) (rest : List Access) → bytes (access ∷ rest) ≡ here (keep access) access ++ bytes rest
    first access rest = by (keep access) access (filter keep rest)

    nothing : (b : Bool) (access : Access) → is_beside layout access ≡ true → here b access ≡ []
    nothing true access is = none_beside access is
    nothing false access is = refl

    without : (b : Bool) (access : Access) (rest : List Access) → is_beside layout access ≡ b → bytes (near layout rest) ≡ bytes rest
        → bytes (if not b then access ∷ near layout rest else near layout rest) ≡ bytes (access ∷ rest)
    without true access rest is same =
        same ∙ sym (first access rest ∙ ap (λ l. l ++ bytes rest) (nothing (keep access) access is))
    without false access rest is same =
        first access (near layout rest) ∙ ap (λ l. here (keep access) access ++ l) same ∙ sym (first access rest)

    pub near-bytes : (list : List Access) → filter_map (stack_offset layout) (touched keep (near layout list)) ≡ filter_map (stack_offset layout) (touched keep list)
    unfolding near
    near-bytes [] = refl
    near-bytes (access ∷ rest) = without (is_beside layout access) access rest refl (near-bytes rest)

  pub near_append : (xs ys : List Access) → near layout (xs ++ ys) ≡ near layout xs ++ near layout ys
  unfolding near
  near_append xs ys = filter-append (λ access. not (is_beside layout access)) xs ys

  pub near_none : near layout [] ≡ []
  unfolding near
  near_none = refl

  -- an operand that isn't in memory
  pub near_no_operand : (direction : Direction) (x : Operand) (s : State) (list : List Access) → ((width : Width) → (ea : Ea) → x ≡ Mem width ea → ⊥)
      → list ≡ list ++ near layout (operand_accesses direction x s)
  near_no_operand direction (Word r) s list other = sym (ap (λ l. list ++ l) near_none ∙ append-nil list)
  near_no_operand direction (Byte r half) s list other = sym (ap (λ l. list ++ l) near_none ∙ append-nil list)
  near_no_operand direction (Seg number) s list other = sym (ap (λ l. list ++ l) near_none ∙ append-nil list)
  near_no_operand direction (Const width constant) s list other = sym (ap (λ l. list ++ l) near_none ∙ append-nil list)
  near_no_operand direction (Mem width ea) s list other = absurd (other width ea refl)

  near-two : (a b : List Access) → near layout a ++ near layout b ≡ near layout (a ++ b)
  near-two a b = sym (near_append a b)

  -- one after another, from an empty list on
  pub near-both : (a b none first last : List Access) → none ≡ [] → first ≡ none ++ near layout a → last ≡ first ++ near layout b
      → last ≡ near layout (a ++ b)
  near-both a b none first last empty one two =
      two ∙ ap (λ l. l ++ near layout b) (one ∙ ap (λ l. l ++ near layout a) empty) ∙ near-two a b

  pub near-three : (a b c none first second last : List Access) → none ≡ [] → first ≡ none ++ near layout a → second ≡ first ++ near layout b
      → last ≡ second ++ near layout c → last ≡ near layout (a ++ (b ++ c))
  near-three a b c none first second last empty one two three =
      three ∙ ap (λ l. l ++ near layout c) (near-both a b none first second empty one two)
      ∙ near-two (a ++ b) c ∙ ap (near layout) (append_assoc a b c)

  pub near-four : (a b c d none first second third last : List Access) → none ≡ [] → first ≡ none ++ near layout a
      → second ≡ first ++ near layout b → third ≡ second ++ near layout c → last ≡ third ++ near layout d
      → last ≡ near layout (a ++ (b ++ (c ++ d)))
  near-four a b c d none first second third last empty one two three four =
      four ∙ ap (λ l. l ++ near layout d) (near-three a b c none first second third empty one two three)
      ∙ near-two (a ++ (b ++ c)) d ∙ ap (near layout) (append_assoc a (b ++ c) d ∙ ap (λ l. a ++ l) (append_assoc b c d))

  -- what is foul, and what is written
  pub near_hidden : (top : ℕ) (live : List Live) (list : List Access) → hidden_in layout top live (near layout list) ≡ hidden_in layout top live list
  near_hidden top live list = ap (find (λ offset. not (exposed_in top live offset))) (near-bytes is_other list)

  pub near_unwritten : (written : List Bool) (list : List Access) → unwritten_in layout written (near layout list) ≡ unwritten_in layout written list
  near_unwritten written list = ap (find (λ offset. not (is_marked written offset))) (near-bytes is_reading list)

  pub near-following : (found : Option Instr) (list : List Access) (from to : ℕ) (written : List Bool)
      → written_following layout found (near layout list) from to written ≡ written_following layout found list from to written
  near-following None list from to written = refl
  near-following (Some instr) list from to written =
      ap (λ l. with_marks false (range_with_len from (to - from)) (with_marks true l written)) (near-bytes (λ access. not (is_reading access)) list)
