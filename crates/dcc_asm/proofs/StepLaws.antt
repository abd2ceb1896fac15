-- What each line gives, and how it offends.
use Rattle.std.proofs.Common.{◌≡◌, ℕ, zero, suc, ◌+◌, ◌/◌, ◌<◌, ◌≤◌, Bool, true, false, List, [], ◌∷◌, ◌++◌, length, drop, get_or, Fits, w8, All, refl, sym, ap, ◌∙◌, subst, arith}
use Rattle.std.specs.Prelude.{Option, Some, None, MatchOption, ◌==◌, Result, Ok, Err, IfOk, ◌-◌, ◌%◌, not, nat_lt, if◌then◌else◌, option_map}
use Rattle.std.proofs.lemmas.List.{get_or_default, length-append}
use Rattle.std.specs.declared.alloc.AllocError.{AllocError}
use Rattle.smallvec.specs.SmallVec.{SmallVec}
use Rattle.dcc_machine.specs.declared.cpu.Cpu.{Cpu}
use Rattle.dcc_machine.specs.declared.instr.Op.{Op}
use Rattle.dcc_machine.proofs.TableLaws.{instruction-length}
use Rattle.dcc_encode.specs.Encoding.{IsEncoding, IsStandard}
use Rattle.dcc_reread.specs.Reading.{byte_of, digit_value, word_value, operation_in}
use Rattle.dcc_list.specs.Text.{IsOffset, AreBytes, Gives, comment_line, place_line, bytes_line, operation_line, odd_line, comment, at_place, bytes as gives_bytes, standard as gives_standard, odd as gives_odd}
use Rattle.dcc_asm.specs.declared.fault.ListKind.{ListKind}
use Rattle.dcc_asm.specs.declared.fault.ListKind.TheVariants.{Word, Range, Odd, Place}
use Rattle.dcc_asm.specs.Fault.{bytes_most, IsKnown, IsEncodable, IsOdd, no_form as word, other_place as offends_place, no_encoding as range, not_odd as offends_odd}
use Rattle.dcc_asm.specs.Form.{Form, place as form_place, bytes as form_bytes, pairs, is_bytes_line, is_odd_line, odd_form, form_line, read_form, operation, odd, Tells, IsReading}
use Rattle.dcc_asm.specs.Steps.{IsStandardAt, IsDone}
use Rattle.dcc_asm.proofs.ReadForm.{digit-no_space, no-form, none-form}

-- Offsets ------------------------------------------------------------------------------------

-- a place has one offset
pub offset-same : (cs place at other : ℕ) → IsOffset cs place at → IsOffset cs place other → at ≡ other
offset-same cs place at other h k = omega arith

pub encoding-within : (cpu : Cpu) (at : ℕ) (op : Op) (told : List ℕ) → IsEncoding cpu at op told → at < 65536
encoding-within cpu at op told e =
    let size = instruction-length cpu at told (record { op = op; len = length told }) e.decoded in
    let within = e.within in
    let some : 0 < length told = size.0 in
    omega arith

-- the standard encoding at the offset of a place
pub standard-told : (cpu : Cpu) (cs place at : ℕ) (op : Op) (found : Option (SmallVec ℕ)) → IsOffset cs place at
    → MatchOption found ((told : List ℕ) → ¬ IsEncoding cpu at op told) (λ told. IsStandard cpu at op told.items)
    → IsStandardAt cpu cs place op found
standard-told cpu cs place at op None o h =
    λ e. let same : e.at ≡ at = offset-same cs place e.at at e.is_offset o in
    h e.bytes (subst (λ n. IsEncoding cpu n op e.bytes) same e.encoding)
standard-told cpu cs place at op (Some told) o h = (at, o, h)

-- a place outside the segment has no encoding
pub outside-told : (cpu : Cpu) (cs place : ℕ) (op : Op) → ((at : ℕ) → IsOffset cs place at → 65536 ≤ at) → ¬ IsEncodable cpu cs place op
outside-told cpu cs place op h e =
    let within = encoding-within cpu e.at op e.bytes e.encoding in
    let past = h e.at e.is_offset in
    omega arith

pub outside-not_odd : (cpu : Cpu) (cs place : ℕ) (told : List ℕ) (op : Op) → ((at : ℕ) → IsOffset cs place at → 65536 ≤ at) → ¬ IsOdd cpu cs place told op
outside-not_odd cpu cs place told op h e =
    let within = encoding-within cpu e.at op told e.encoding in
    let past = h e.at e.is_offset in
    omega arith

-- whether bytes at the offset of a place are odd
pub odd-told : (cpu : Cpu) (cs place at : ℕ) (told : List ℕ) (op : Op) → IsOffset cs place at
    → IsOdd cpu cs place told op → IsEncoding cpu at op told × ¬ IsStandard cpu at op told
odd-told cpu cs place at told op o h =
    let same : h.at ≡ at = offset-same cs place h.at at h.is_offset o in
    let P : ℕ → Type 0 = λ n. IsEncoding cpu n op told × ¬ IsStandard cpu n op told in
    subst P same (h.encoding, h.other)

pub odd-made : (cpu : Cpu) (cs place at : ℕ) (told : List ℕ) (op : Op) → IsOffset cs place at
    → IsEncoding cpu at op told → ¬ IsStandard cpu at op told → IsOdd cpu cs place told op
odd-made cpu cs place at told op o e other = record { at = at; is_offset = o; encoding = e; other = other }

-- Bytes --------------------------------------------------------------------------------------

pub bytes-each : (told : List ℕ) → ((i : ℕ) → Fits w8 (get_or told i 0)) → All (λ byte. byte < 256) told
bytes-each told fits = λ k d l. subst (λ n. n < 256) (sym (get_or_default told k d 0 l)) (small k)
  where
    small : (k : ℕ) → get_or told k 0 < 256
    small k = let h = fits k in omega (arith, h)

-- the image gets the bytes
pub grows : (cpu : Cpu) (cs : ℕ) (old new told line : List ℕ) → new ≡ old ++ told → length old + length told ≤ bytes_most
    → Gives cpu cs (length old) line told → IsDone cpu cs old new line None
grows cpu cs old new told line e fits gives =
    let size : length new ≡ length old + length told = ap length e ∙ length-append old told in
    record { bytes = told; gives = gives; grown = e; fits = omega arith }

append-none : (xs : List ℕ) → xs ++ [] ≡ xs
append-none [] = refl
append-none (x ∷ xs) = ap (λ (r : List ℕ). x ∷ r) (append-none xs)

-- a line that gives nothing
pub stays : (cpu : Cpu) (cs : ℕ) (old line : List ℕ) → length old ≤ bytes_most → Gives cpu cs (length old) line [] → IsDone cpu cs old old line None
stays cpu cs old line fits gives = record { bytes = []; gives = gives; grown = sym (append-none old); fits = fits }

comment-first : (line : List ℕ) → byte_of line 0 ≡ 59 → line ≡ comment_line (drop 1 line)
comment-first [] h = cc
comment-first (b ∷ line) h = ap (λ n. n ∷ line) h

-- a line for people
pub comment-done : (cpu : Cpu) (cs : ℕ) (old line : List ℕ) → length old ≤ bytes_most → byte_of line 0 ≡ 59 → IsDone cpu cs old old line None
comment-done cpu cs old line fits h =
    stays cpu cs old line fits (subst (λ (l : List ℕ). Gives cpu cs (length old) l []) (sym (comment-first line h)) comment)

-- Operations ---------------------------------------------------------------------------------

pub standard-gives : (cpu : Cpu) (cs place : ℕ) (op : Op) (found : Option (SmallVec ℕ)) (told : SmallVec ℕ) → found ≡ Some told
    → IsStandardAt cpu cs place op found → Gives cpu cs place (operation_line op) told.items
standard-gives cpu cs place op found told e h =
    let there = subst (IsStandardAt cpu cs place op) e h in
    gives_standard there.1 there.2

pub range-done : (cpu : Cpu) (cs : ℕ) (old new : List ℕ) (op : Op) → IsKnown op → ¬ IsEncodable cpu cs (length old) op
    → IsDone cpu cs old new (operation_line op) (Some Range)
range-done cpu cs old new op known none = range known none

pub operation-word : (cpu : Cpu) (cs : ℕ) (old new : List ℕ) (op : Op) → read_form (operation_line op) ≡ Some (operation op) → ¬ IsKnown op
    → IsDone cpu cs old new (operation_line op) (Some Word)
operation-word cpu cs old new op read unknown = word (no-form (operation op) read refl unknown)

pub odd-word : (cpu : Cpu) (cs : ℕ) (old new told : List ℕ) (op : Op) → read_form (odd_line told op) ≡ Some (odd told op) → ¬ IsKnown op
    → IsDone cpu cs old new (odd_line told op) (Some Word)
odd-word cpu cs old new told op read unknown = word (no-form (odd told op) read refl (λ valid. unknown valid.1))

pub odd-done : (cpu : Cpu) (cs : ℕ) (old new told : List ℕ) (op : Op) → AreBytes told → IsKnown op → ¬ IsOdd cpu cs (length old) told op
    → IsDone cpu cs old new (odd_line told op) (Some Odd)
odd-done cpu cs old new told op are known none = offends_odd are known none

pub odd-gives : (cpu : Cpu) (cs place : ℕ) (told : List ℕ) (op : Op) → IsOdd cpu cs place told op → Gives cpu cs place (odd_line told op) told
odd-gives cpu cs place told op h = gives_odd h.is_offset h.encoding h.other

-- a line that has no form and isn't for people
pub word-done : (cpu : Cpu) (cs : ℕ) (old new line : List ℕ) → byte_of line 0 == 59 ≡ false → IsReading line None → IsDone cpu cs old new line (Some Word)
word-done cpu cs old new line other none = word (none-form line other none)

-- What a line tells ---------------------------------------------------------------------------

digit-small : (digit : ℕ) → digit_value digit < 16
digit-small digit = picked (nat_lt digit 58) (digit - 48) (digit - 55)
  where
    picked : (b : Bool) (x y : ℕ) → (if b then x % 16 else y % 16) < 16
    picked true x y = omega arith
    picked false x y = omega arith

pairs-small : (text : List ℕ) → All (λ byte. byte < 256) (pairs text)
pairs-small [] k d l = absurd (omega arith)
pairs-small (a ∷ []) k d l = absurd (omega arith)
pairs-small (a ∷ b ∷ []) k d l = absurd (omega arith)
pairs-small (a ∷ b ∷ e ∷ rest) zero d l =
    let high = digit-small b in let low = digit-small e in omega (arith, high, low)
pairs-small (a ∷ b ∷ e ∷ rest) (suc k) d l = pairs-small rest k d (omega arith)

word-small : (text : List ℕ) (at : ℕ) → word_value text at < 65536
word-small text at =
    let a = digit-small (byte_of text at) in
    let b = digit-small (byte_of text (at + 1)) in
    let e = digit-small (byte_of text (at + 2)) in
    let f = digit-small (byte_of text (at + 2 + 1)) in
    omega (arith, a, b, e, f)

place-small : (at : ℕ) → read_form (place_line at) ≡ Some (form_place at) → at < 65536
place-small at e =
    let first : Some (form_place (word_value (place_line at) 0)) ≡ read_form (place_line at) =
    sym (ap (λ b. if not b then Some (form_place (word_value (place_line at) 0)) else rest) (digit-no_space (at / 256 / 16 % 16))) in
    let same : Some (form_place (word_value (place_line at) 0)) ≡ Some (form_place at) = first ∙ e in
    let one : word_value (place_line at) 0 ≡ at = cc in
    subst (λ n. n < 65536) one (word-small (place_line at) 0)
  where
    rest : Option Form
    rest =
        if is_bytes_line (place_line at) then Some (form_bytes (pairs (drop 6 (place_line at))))
        else if is_odd_line (place_line at) then odd_form (drop 7 (place_line at))
        else option_map operation (operation_in (drop 4 (place_line at)))

bytes-small : (told : List ℕ) → read_form (bytes_line told) ≡ Some (form_bytes told) → All (λ byte. byte < 256) told
bytes-small [] e = λ k d l. absurd (omega arith)
bytes-small (b ∷ told) e =
    let same : pairs (drop 6 (bytes_line (b ∷ told))) ≡ b ∷ told = cc in
    subst (All (λ byte. byte < 256)) same (pairs-small (drop 6 (bytes_line (b ∷ told))))

-- what a line tells that has this form
told-as : (form known : Form) → form ≡ known → Tells (form_line form) form → Tells (form_line known) known
told-as form known e tells = subst (λ f. Tells (form_line f) f) e tells

pub told-read : (form known : Form) → form ≡ known → Tells (form_line form) form → read_form (form_line known) ≡ Some known
told-read form known e tells = (told-as form known e tells).is_read

pub place-stays : (cpu : Cpu) (cs : ℕ) (old : List ℕ) (form : Form) (at : ℕ) → form ≡ form_place at → Tells (form_line form) form
    → length old ≤ bytes_most → IsOffset cs (length old) at → IsDone cpu cs old old (form_line form) None
place-stays cpu cs old form at e tells fits is =
    let small = place-small at (told-read form (form_place at) e tells) in
    subst (λ f. IsDone cpu cs old old (form_line f) None) (sym e) (stays cpu cs old (place_line at) fits (at_place small is))

pub place-offends : (cpu : Cpu) (cs : ℕ) (old new : List ℕ) (form : Form) (at : ℕ) → form ≡ form_place at → Tells (form_line form) form
    → ¬ IsOffset cs (length old) at → IsDone cpu cs old new (form_line form) (Some Place)
place-offends cpu cs old new form at e tells other =
    let small = place-small at (told-read form (form_place at) e tells) in
    subst (λ f. IsDone cpu cs old new (form_line f) (Some Place)) (sym e) (offends_place small other)

pub bytes-give : (cpu : Cpu) (cs here : ℕ) (form : Form) (told : List ℕ) → form ≡ form_bytes told → Tells (form_line form) form
    → Gives cpu cs here (form_line form) told
bytes-give cpu cs here form told e tells =
    let is = told-as form (form_bytes told) e tells in
    let are : AreBytes told = record { some = is.is_sized.0; each = bytes-small told is.is_read } in
    subst (λ f. Gives cpu cs here (form_line f) told) (sym e) (gives_bytes are is.is_sized.1)

pub tells-itself : (text : List ℕ) (form : Form) → Tells text form → Tells (form_line form) form
tells-itself text form h = subst (λ (t : List ℕ). Tells t form) h.is_line h

-- Answers of calls ---------------------------------------------------------------------------

pub never : (b : Bool) → b ≡ false → b ≡ true → ⊥
never b h k = let f : ⊥ = cc in f

-- bytes that the line gives were appended, or are too many
pub done-by : (cpu : Cpu) (cs : ℕ) (old new told line : List ℕ) (result : Result (Option ListKind) AllocError)
    → IfOk result (λ kind. (line : List ℕ) → Gives cpu cs (length old) line told → IsDone cpu cs old new line kind)
    → Gives cpu cs (length old) line told → IfOk result (IsDone cpu cs old new line)
done-by cpu cs old new told line (Ok kind) h gives = h line gives
done-by cpu cs old new told line (Err error) h gives = tt
