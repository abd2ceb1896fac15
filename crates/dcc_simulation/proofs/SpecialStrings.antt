-- The string that INT 21h writes is the same in both runs.
use Rattle.std.proofs.Common.{◌≡◌, ◌<◌, ℕ, suc, ◌+◌, ◌/◌, ◌%◌, Bool, true, false, cond, List, [], ◌∷◌, map, length, min, Contains, refl, sym, ap, ◌∙◌, subst, arith}
use Rattle.std.specs.Prelude.{slice_index, if◌then◌else◌, ◌==◌}
use Rattle.std.specs.List.{range_with_len, take_while}
use Rattle.std.proofs.lemmas.List.FromFn.{length-map-range_with_len, get_or-map-range_with_len}
use Rattle.std.proofs.lemmas.List.Sums.{take_while-cons}
use Rattle.dcc_num.specs.declared.Reg.TheVariants.{Ax, Dx}
use Rattle.dcc_num.specs.declared.dos.TheConstants.{PUTS, STRING_MOST}
use Rattle.dcc_machine.specs.declared.instr.Op.TheVariants.{Int21}
use Rattle.dcc_machine.specs.declared.instr.Instr.{Instr}
use Rattle.dcc_machine.specs.Machine.{State as Machine, word_in, physical, data_segment}
use Rattle.dcc_machine.specs.Dos.{bytes_from, is_not_dollar, dos_string}
use Rattle.dcc_machine.specs.Successors.{next_of}
use Rattle.dcc_machine.specs.Access.{Access, other_read, string_size, accesses}
use Rattle.dcc_prog.specs.Clean.{Stack}
use Rattle.dcc_ir.specs.Dos.{dos_string as inner_string}
use Rattle.dcc_ir.specs.Run.{State}
use Rattle.dcc_simulation.specs.Coupled.{Setting}
use Rattle.dcc_simulation.specs.Laws.{IsCleanInstruction, Within}
use Rattle.dcc_simulation.proofs.SpecialReads.{other-read}

-- Lists.

-- two lists that agree on what passes a test from the front on, and on what ends it, have that in common
passing-same : (test : ℕ → Bool) (xs ys : List ℕ) → length xs ≡ length ys
    → ((k : ℕ) → k < length (take_while test xs) + 1 → k < length xs → slice_index xs k ≡ slice_index ys k)
    → take_while test xs ≡ take_while test ys
passing-same test [] [] sizes same = refl
passing-same test [] (y ∷ ys) sizes same = absurd (omega (arith, sizes))
passing-same test (x ∷ xs) [] sizes same = absurd (omega (arith, sizes))
passing-same test (x ∷ xs) (y ∷ ys) sizes same =
    take_while-cons test x xs
    ∙ by (test x) refl (λ whole. passing-same test xs ys (omega (arith, sizes)) (λ k less within.
    same (suc k) (omega (arith, less, whole)) (omega (arith, within))))
    ∙ ap (λ n. cond (test n) (n ∷ take_while test ys) []) first
    ∙ sym (take_while-cons test y ys)
  where
    first : x ≡ y
    first = same 0 (omega arith) (omega arith)

    by : (b : Bool) → test x ≡ b
        → (length (take_while test (x ∷ xs)) ≡ suc (length (take_while test xs))
        → take_while test xs ≡ take_while test ys)
        → cond (test x) (x ∷ take_while test xs) [] ≡ cond (test x) (x ∷ take_while test ys) []
    by true so rest =
        ap (λ l. cond (test x) (x ∷ l) [])
        (rest (ap (λ l. length l) (take_while-cons test x xs ∙ ap (λ b. cond b (x ∷ take_while test xs) []) so)))
    by false so rest =
        ap (λ b. cond b (x ∷ take_while test xs) []) so ∙ sym (ap (λ b. cond b (x ∷ take_while test ys) []) so)

-- lists that two functions give have what passes a test from the front on in common, where the functions agree on it
-- and on what ends it
given-same : (test : ℕ → Bool) (f g : ℕ → ℕ) (count : ℕ)
    → ((k : ℕ) → k < min (length (take_while test (map f (range_with_len 0 count))) + 1) count → f k ≡ g k)
    → take_while test (map f (range_with_len 0 count)) ≡ take_while test (map g (range_with_len 0 count))
given-same test f g count same =
    passing-same test (map f (range_with_len 0 count)) (map g (range_with_len 0 count))
    (size f ∙ sym (size g)) (λ k less within.
    let inside : k < count = (let n = size f in omega (arith, within, n)) in
    get_or-map-range_with_len f 0 count k k 0 inside (omega arith)
    ∙ same k (below k (length (take_while test (map f (range_with_len 0 count))) + 1) count less inside)
    ∙ sym (get_or-map-range_with_len g 0 count k k 0 inside (omega arith)))
  where
    size : (h : ℕ → ℕ) → length (map h (range_with_len 0 count)) ≡ count
    size h = length-map-range_with_len h 0 count

    below : (k m n : ℕ) → k < m → k < n → k < min m n
    below k m n p q = omega (arith, p, q)

-- The string.

module _ (e : Setting) (s : Machine) (stack : Stack) (instr : Instr) (is : IsCleanInstruction e s stack instr)
    (op_is : instr.op ≡ Int21) (number : word_in s Ax / 256 ≡ PUTS) (t : State) (c : Within is stack.written s t) where
  abbrev onward : Machine
  onward = record s { ip = next_of s.ip instr }

  abbrev access : Access
  access = other_read (data_segment s) (word_in s Dx) (string_size onward)

  makes : Contains (accesses instr.op onward) access
  makes =
      subst (λ op. Contains (accesses op onward) access) (sym op_is)
      (subst (λ n. Contains (if n == PUTS then access ∷ [] else []) access) (sym number)
      (0, omega arith, refl))

  pub string-same : dos_string onward ≡ inner_string t.memory (word_in s Dx)
  unfolding dos_string bytes_from inner_string
  string-same =
      given-same is_not_dollar (λ k. slice_index s.memory (physical (data_segment s) ((word_in s Dx + k) % 65536)))
      (λ k. slice_index t.memory ((word_in s Dx + k) % 65536)) STRING_MOST
      (λ k less. sym (other-read e s stack instr is (word_in s Dx) (string_size onward) makes t c k less))
