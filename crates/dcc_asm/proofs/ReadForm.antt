-- What a line tells is read back from it. So a line tells one thing at most.
use Rattle.std.proofs.Common.{◌≡◌, ℕ, suc, ◌+◌, ◌-◌, ◌/◌, ◌%◌, ◌<◌, Bool, true, false, List, [], ◌∷◌, ◌++◌, length, take, drop, All, refl, sym, ap, ◌∙◌, subst, arith}
use Rattle.std.specs.Prelude.{Option, Some, None, ◌==◌, ◌&&◌, not, nat_le, if◌then◌else◌, cond, option_map}
use Rattle.std.specs.Fmt.{digit_glyph}
use Rattle.std.specs.List.{list_all, prefix_len}
use Rattle.std.proofs.lemmas.Bool.Decides.{nat_tests}
use Rattle.dcc_machine.specs.declared.instr.Op.{Op}
use Rattle.dcc_machine.proofs.TableLaws.{and_both}
use Rattle.dcc_spelled.specs.Hex.{hex_bytes}
use Rattle.dcc_spelled.specs.Spelling.{spelling}
use Rattle.dcc_reread.specs.Reading.{byte_of, word_value, operation_in}
use Rattle.dcc_reread.proofs.LawsOfSpellings.{spelling_read_back}
use Rattle.dcc_reread.proofs.Named.{spelling-text}
use Rattle.dcc_reread.proofs.ReadBack.{byte-back, word-back, take-all, drop-all}
use Rattle.dcc_list.specs.Text.{comment_line, place_line, operation_line}
use Rattle.dcc_asm.specs.declared.line.Line.{Line}
use Rattle.dcc_asm.specs.Fault.{IsKnown, HasForm, comment as comment_form, place as place_form, bytes as bytes_form, operation as operation_form, odd as odd_line_form}
use Rattle.dcc_asm.specs.Form.{Form, place, bytes, operation, odd, form_of, form_line, IsValid, IsSized, pairs, is_bytes_line, is_odd_line, spelling_place, odd_form, read_form, IsReading}

-- Digits -------------------------------------------------------------------------------------

pub digit-no_space : (d : ℕ) → digit_glyph true d == 32 ≡ false
digit-no_space d = grind (arith, nat_tests)

digit-no_comment : (d : ℕ) → digit_glyph true d == 59 ≡ false
digit-no_comment d = grind (arith, nat_tests)

digit-no_letter : (d : ℕ) → d < 16 → not (nat_le 97 (digit_glyph true d)) ≡ true
digit-no_letter d l = grind (arith, nat_tests)

cons_same : {a b : ℕ} {xs ys : List ℕ} → a ≡ b → xs ≡ ys → a ∷ xs ≡ b ∷ ys
cons_same p q = cc

all-tail : (x : ℕ) (xs : List ℕ) → All (λ byte. byte < 256) (x ∷ xs) → All (λ byte. byte < 256) xs
all-tail x xs h = λ k d l. h (suc k) d (omega arith)

pairs-back : (told : List ℕ) → All (λ byte. byte < 256) told → pairs (hex_bytes told) ≡ told
pairs-back [] h = refl
pairs-back (b ∷ told) h =
    let small : b < 256 = h 0 0 (omega arith) in
    let e : b % 256 ≡ b = omega arith in
    cons_same (byte-back b ∙ e) (pairs-back told (all-tail b told h))

-- Bytes and a spelling -----------------------------------------------------------------------

abbrev no_letter : ℕ → Bool
no_letter byte = not (nat_le 97 byte)

hex-no_letter : (told : List ℕ) → list_all no_letter (hex_bytes told) ≡ true
hex-no_letter [] = refl
hex-no_letter (b ∷ told) =
    let high = digit-no_letter (b / 16 % 16) (omega arith) in
    let low = digit-no_letter (b % 16) (omega arith) in
    and_both (no_letter 32) _ refl
    (and_both (no_letter (digit_glyph true (b / 16 % 16))) _ high
    (and_both (no_letter (digit_glyph true (b % 16))) _ low (hex-no_letter told)))

and-first : (a b : Bool) → a && b ≡ true → a ≡ true
and-first true b h = refl
and-first false b h = h

and-second : (a b : Bool) → a && b ≡ true → b ≡ true
and-second true b h = h
and-second false b h = cc

behind-others : (xs ys : List ℕ) → list_all no_letter xs ≡ true → prefix_len no_letter (xs ++ ys) ≡ length xs + prefix_len no_letter ys
behind-others [] ys h = omega arith
behind-others (x ∷ xs) ys h =
    let first : no_letter x ≡ true = and-first (no_letter x) (list_all no_letter xs) h in
    let rest = behind-others xs ys (and-second (no_letter x) (list_all no_letter xs) h) in
    let one : cond (no_letter x) (1 + prefix_len no_letter (xs ++ ys)) 0 ≡ 1 + prefix_len no_letter (xs ++ ys) =
    ap (λ b. cond b (1 + prefix_len no_letter (xs ++ ys)) 0) first in
    omega arith

letter-first : (xs : List ℕ) → nat_le 97 (byte_of xs 0) ≡ true → prefix_len no_letter xs ≡ 0
letter-first [] h = refl
letter-first (x ∷ xs) h = ap (λ b. cond (not b) (1 + prefix_len no_letter xs) 0) h

place-is : (told : List ℕ) (op : Op) → spelling_place (hex_bytes told ++ (32 ∷ spelling op)) ≡ length (hex_bytes told) + 1
place-is told op =
    let before = behind-others (hex_bytes told) (32 ∷ spelling op) (hex-no_letter told) in
    let none : prefix_len no_letter (spelling op) ≡ 0 = letter-first (spelling op) (spelling-text op).letter in
    let one : prefix_len no_letter (32 ∷ spelling op) ≡ 1 = ap (λ n. 1 + n) none in
    before ∙ ap (λ n. length (hex_bytes told) + n) one

less-one : (n : ℕ) → n + 1 - 1 ≡ n
less-one n = omega arith

odd-read : (told : List ℕ) (op : Op) → All (λ byte. byte < 256) told → operation_in (spelling op) ≡ Some op
    → odd_form (hex_bytes told ++ (32 ∷ spelling op)) ≡ Some (odd told op)
odd-read told op are read =
    let T : List ℕ = hex_bytes told ++ (32 ∷ spelling op) in
    let place : spelling_place T ≡ length (hex_bytes told) + 1 = place-is told op in
    let bytes-are : take (spelling_place T - 1) T ≡ hex_bytes told =
    ap (λ n. take (n - 1) T) place ∙ ap (λ n. take n T) (less-one (length (hex_bytes told)))
    ∙ take-all (hex_bytes told) (32 ∷ spelling op) in
    let spelled : drop (spelling_place T) T ≡ spelling op =
    ap (λ n. drop n T) place ∙ drop-all (hex_bytes told) 32 (spelling op) in
    ap (λ (t : List ℕ). option_map (odd (pairs t)) (operation_in (drop (spelling_place T) T))) bytes-are
    ∙ ap (λ (t : List ℕ). option_map (odd (pairs (hex_bytes told))) (operation_in t)) spelled
    ∙ ap (option_map (odd (pairs (hex_bytes told)))) read
    ∙ ap (λ (t : List ℕ). Some (odd t op)) (pairs-back told are)

-- Forms --------------------------------------------------------------------------------------

if_no : (b : Bool) (x y : Option Form) → b ≡ false → (if b then x else y) ≡ y
if_no b x y h = ap (λ c. if c then x else y) h

pub known-read : (op : Op) → IsKnown op → operation_in (spelling op) ≡ Some op
known-read op k = spelling_read_back op (record {
  cpu = k.cpu;
  at = k.at;
  bytes = k.bytes;
  are_bytes = k.encoding.are_bytes;
  instr = record { op = op; len = length k.bytes };
  decoded = k.encoding.decoded;
  op_is = refl;
})

-- what a line tells is read back from it
pub read-form : (form : Form) → IsValid form → read_form (form_line form) ≡ Some form
read-form (place at) l =
    ap (λ b. if not b then Some (place (word_value (place_line at) 0)) else rest) (digit-no_space (at / 256 / 16 % 16))
    ∙ ap (λ n. Some (place n)) (word-back at l)
  where
    rest : Option Form
    rest =
        if is_bytes_line (place_line at) then Some (bytes (pairs (drop 6 (place_line at))))
        else if is_odd_line (place_line at) then odd_form (drop 7 (place_line at))
        else option_map operation (operation_in (drop 4 (place_line at)))
read-form (bytes []) h = absurd (let some = h.0.some in omega arith)
read-form (bytes (b ∷ told)) h = ap (λ (t : List ℕ). Some (bytes t)) (pairs-back (b ∷ told) h.0.each)
read-form (operation op) k =
    let text = spelling-text op in
    let no_bytes : is_bytes_line (operation_line op) ≡ false = ap (λ b. b && (byte_of (spelling op) 2 == 32)) text.no_bytes in
    if_no (is_bytes_line (operation_line op)) (Some (bytes (pairs (drop 6 (operation_line op)))))
    (if is_odd_line (operation_line op) then odd_form (drop 7 (operation_line op)) else option_map operation (operation_in (spelling op))) no_bytes
    ∙ if_no (is_odd_line (operation_line op)) (odd_form (drop 7 (operation_line op))) (option_map operation (operation_in (spelling op))) text.no_odd
    ∙ ap (option_map operation) (known-read op k)
read-form (odd told op) h = odd-read told op h.0.each (known-read op h.1)

-- a line for people tells no form
pub form-no_comment : (form : Form) → IsValid form → byte_of (form_line form) 0 == 59 ≡ false
form-no_comment (place at) h = digit-no_comment (at / 256 / 16 % 16)
form-no_comment (bytes told) h = refl
form-no_comment (operation op) h = refl
form-no_comment (odd told op) h = refl

pub forms-same : (form other : Form) → IsValid form → IsValid other → form_line form ≡ form_line other → form ≡ other
forms-same form other h k e =
    let same : Some form ≡ Some other = sym (read-form form h) ∙ ap read_form e ∙ read-form other k in
    cc

valid-sized : (form : Form) → IsValid form → IsSized form
valid-sized (place at) h = tt
valid-sized (bytes told) h = (h.0.some, h.1)
valid-sized (operation op) h = tt
valid-sized (odd told op) h = h.0.some

-- What is read -------------------------------------------------------------------------------

pub none-read : (text : List ℕ) (found : Option Line) → option_map form_of found ≡ read_form text → found ≡ None → IsReading text None
none-read text found e n form valid is =
    let same : Some form ≡ read_form text = sym (read-form form valid) ∙ ap read_form (sym is) in
    let none : option_map form_of found ≡ None = ap (option_map form_of) n in
    let f : ⊥ = cc in f

pub other-read : (text : List ℕ) (line : Line) → Some (form_of line) ≡ read_form text
    → (IsSized (form_of line) → text ≡ form_line (form_of line) → ⊥) → IsReading text None
other-read text line e apart form valid is =
    let told : Some form ≡ read_form text = sym (read-form form valid) ∙ ap read_form (sym is) in
    let same : form ≡ form_of line = cc in
    apart (subst IsSized same (valid-sized form valid)) (is ∙ ap form_line same)

-- the forms of lines are those of what lines tell, and lines for people
pub data HasFormView (line : List ℕ) : Type 0 where
  comment : (words : List ℕ) → line ≡ comment_line words → HasFormView line
  told : (form : Form) → IsValid form → line ≡ form_line form → HasFormView line

pub form-view : (line : List ℕ) → HasForm line → HasFormView line
form-view line comment_form = comment _ refl
form-view line (place_form l) = told (place _) l refl
form-view line (bytes_form are most) = told (bytes _) (are, most) refl
form-view line (operation_form known) = told (operation _) known refl
form-view line (odd_line_form are known) = told (odd _ _) (are, known) refl

-- a line that tells what is not valid has no form
pub no-form : (form : Form) → read_form (form_line form) ≡ Some form → byte_of (form_line form) 0 == 59 ≡ false → ¬ IsValid form → ¬ HasForm (form_line form)
no-form form read other invalid h = elim (form-view (form_line form) h) [
  | comment words e ↦
      let first : byte_of (form_line form) 0 == 59 ≡ true = ap (λ (t : List ℕ). byte_of t 0 == 59) e in
      let f : ⊥ = cc in f
  | told known valid e ↦
      let same : Some form ≡ Some known = sym read ∙ ap read_form e ∙ read-form known valid in
      let one : known ≡ form = cc in
      invalid (subst IsValid one valid)
]

-- a line in which no form is read, and that is not for people, has no form
pub none-form : (line : List ℕ) → byte_of line 0 == 59 ≡ false → IsReading line None → ¬ HasForm line
none-form line other none h = elim (form-view line h) [
  | comment words e ↦
      let first : byte_of line 0 == 59 ≡ true = ap (λ (t : List ℕ). byte_of t 0 == 59) e in
      let f : ⊥ = cc in f
  | told known valid e ↦ none known valid e
]
