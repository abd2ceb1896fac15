-- A line's name and parts are read back from it.
use Rattle.std.proofs.Common.{◌≡◌, ◌<◌, ◌≤◌, ℕ, zero, suc, ◌+◌, ◌-◌, ◌*◌, ◌/◌, ◌%◌, Bool, true, false, List, [], ◌∷◌, ◌++◌, length, take, drop, All, refl, sym, ap, ◌∙◌, subst, arith, Option, Some, None, length-drop}
use Rattle.std.specs.Prelude.{not, cond, ◌==◌, if◌then◌else◌}
use Rattle.std.specs.Global.{Vec}
use Rattle.std.specs.Fmt.{digit_glyph}
use Rattle.std.specs.List.{list_all}
use Rattle.std.proofs.lemmas.Bool.{and_parts, eqb-true}
use Rattle.std.proofs.lemmas.Bool.Decides.{nat_tests}
use Rattle.std.proofs.lemmas.List.Elements.{All-tail, All-head}
use Rattle.dcc_c.specs.Token.{is_word_byte}
use Rattle.dcc_reread.specs.Reading.{digit_value}
use Rattle.dcc_reread.proofs.ReadBack.{byte-back, take-all}
use Rattle.dcc_sigs.specs.declared.line.Line.{Line}
use Rattle.dcc_sigs.specs.Signature.{part_text, parts_text, line_of, IsName, IsPart, AreParts, IsSignature, IsLineOf, HasForm}
use Rattle.dcc_sigs.specs.Reading.{is_space, name_size, part_of, parts_in, AreSized, IsTextOf, IsPartsReading, Tells}

-- Names --------------------------------------------------------------------------------------

word-no_space : (b : ℕ) → is_word_byte b ≡ true → is_space b ≡ false
word-no_space b h = by (is_space b) refl
  where
    by : (t : Bool) → is_space b ≡ t → is_space b ≡ false
    by true e = let same : is_word_byte 32 ≡ true = subst (λ n. is_word_byte n ≡ true) (eqb-true b 32 e) h in absurd (let f : ⊥ = cc in f)
    by false e = e

name-size : (name more : List ℕ) → list_all is_word_byte name ≡ true → name_size (name ++ (32 ∷ more)) ≡ length name
name-size [] more h = refl
name-size (b ∷ name) more h =
    let parts = and_parts (is_word_byte b) (list_all is_word_byte name) h in
    let step : name_size ((b ∷ name) ++ (32 ∷ more)) ≡ 1 + name_size (name ++ (32 ∷ more)) =
    ap (λ t. cond (not t) (1 + name_size (name ++ (32 ∷ more))) 0) (word-no_space b parts.0) in
    let rest = name-size name more parts.1 in
    omega (arith, step, rest)

drop-all : (xs ys : List ℕ) → drop (length xs) (xs ++ ys) ≡ ys
drop-all [] ys = refl
drop-all (x ∷ xs) ys = drop-all xs ys

take-drop : (n : ℕ) (xs : List ℕ) → take n xs ++ drop n xs ≡ xs
take-drop zero xs = refl
take-drop (suc n) [] = refl
take-drop (suc n) (x ∷ xs) = ap (λ (l : List ℕ). x ∷ l) (take-drop n xs)

-- Parts --------------------------------------------------------------------------------------

digit-no_mark : (d : ℕ) → digit_glyph true d == 63 ≡ false
digit-no_mark d = grind (arith, nat_tests)

part-back : (b : ℕ) → b < 256 → part_of (digit_glyph true (b / 16 % 16)) (digit_glyph true (b % 16)) ≡ Some b
part-back b small =
    let e : b % 256 ≡ b = omega arith in
    let value : ℕ = digit_value (digit_glyph true (b / 16 % 16)) * 16 + digit_value (digit_glyph true (b % 16)) in
    let read : (if digit_glyph true (b / 16 % 16) == 63 then None else Some value) ≡ Some value =
    ap (λ t. if t then None else Some value) (digit-no_mark (b / 16 % 16)) in
    read ∙ ap (λ n. Some n) (byte-back b ∙ e)

both : {a b : Option ℕ} {xs ys : List (Option ℕ)} → a ≡ b → xs ≡ ys → a ∷ xs ≡ b ∷ ys
both p q = cc

pub parts-back : (parts : List (Option ℕ)) → All IsPart parts → parts_in (parts_text parts) ≡ parts
parts-back [] h = refl
parts-back (None ∷ parts) h = ap (λ (ps : List (Option ℕ)). None ∷ ps) (parts-back parts (All-tail IsPart None parts h))
parts-back (Some b ∷ parts) h =
    both (part-back b (All-head IsPart (Some b) parts h)) (parts-back parts (All-tail IsPart (Some b) parts h))

-- the text of parts begins with a space
record BeginsWithSpace (text : List ℕ) : Type 0 where
  more : List ℕ
  is : text ≡ 32 ∷ more

space-first : (parts : List (Option ℕ)) → 0 < length parts → BeginsWithSpace (parts_text parts)
space-first [] some = absurd (omega arith)
space-first (None ∷ parts) some = record { more = _; is = refl }
space-first (Some b ∷ parts) some = record { more = _; is = refl }

-- Lines --------------------------------------------------------------------------------------

pub size-of : (name : List ℕ) (parts : List (Option ℕ)) → IsSignature name parts → name_size (line_of name parts) ≡ length name
size-of name parts h =
    let space = space-first parts h.are_parts.some in
    ap (λ (t : List ℕ). name_size (name ++ t)) space.is ∙ name-size name space.more h.is_name.letters

pub name-back : (line name : List ℕ) → IsLineOf line name → take (name_size line) line ≡ name
name-back line name h =
    ap (λ (l : List ℕ). take (name_size l) l) h.line_is
    ∙ ap (λ n. take n (line_of name h.parts)) (size-of name h.parts h.signature)
    ∙ take-all name (parts_text h.parts)

pub rest-back : (line name : List ℕ) (h : IsLineOf line name) → drop (name_size line) line ≡ parts_text h.parts
rest-back line name h =
    ap (λ (l : List ℕ). drop (name_size l) l) h.line_is
    ∙ ap (λ n. drop n (line_of name h.parts)) (size-of name h.parts h.signature)
    ∙ drop-all name (parts_text h.parts)

-- What lines tell ----------------------------------------------------------------------------

pub read-parts : (text : List ℕ) (parts : List (Option ℕ)) → IsTextOf text parts → parts_in text ≡ parts
read-parts text parts h = ap parts_in h.text_is ∙ parts-back parts h.may_be.each

-- no parts were read, or too many
pub no-parts : (text : List ℕ) (found : List (Option ℕ)) → found ≡ parts_in text → ¬ AreSized found
    → (parts : List (Option ℕ)) → ¬ IsTextOf text parts
no-parts text found are odd parts h =
    odd (subst (λ (ps : List (Option ℕ)). AreSized ps) (sym (are ∙ read-parts text parts h)) (h.may_be.some, h.may_be.few))

-- the text isn't that of the parts that were read
pub other-text : (text : List ℕ) (found : List (Option ℕ)) → found ≡ parts_in text → ¬ (text ≡ parts_text found)
    → (parts : List (Option ℕ)) → ¬ IsTextOf text parts
other-text text found are other parts h =
    other (h.text_is ∙ ap parts_text (sym (are ∙ read-parts text parts h)))

pub no-name : (text : List ℕ) → ¬ IsName (take (name_size text) text) → ¬ HasForm text
no-name text never h = never (subst IsName (sym (name-back text h.name h.of_name)) h.of_name.signature.is_name)

pub no-line : (text : List ℕ) → ((parts : List (Option ℕ)) → ¬ IsTextOf (drop (name_size text) text) parts) → ¬ HasForm text
no-line text never h = never h.of_name.parts (record {
  may_be = h.of_name.signature.are_parts;
  text_is = rest-back text h.name h.of_name;
})

take-long : (n : ℕ) (xs : List ℕ) → length xs ≤ n → take n xs ≡ xs
take-long zero [] l = refl
take-long zero (x ∷ xs) l = absurd (omega (arith, l))
take-long (suc n) [] l = refl
take-long (suc n) (x ∷ xs) l = ap (λ (t : List ℕ). x ∷ t) (take-long n xs (omega (arith, l)))

take-rest : (n : ℕ) (xs : List ℕ) → take (length xs - n) (drop n xs) ≡ drop n xs
take-rest n xs = take-long (length xs - n) (drop n xs) (let e = length-drop n xs in omega (arith, e))

-- what was found of a line
pub no-reading : (text : List ℕ) (size : ℕ) (found : Option (Vec (Option ℕ))) → size ≡ name_size text → found ≡ None
    → IsPartsReading (take (length text - size) (drop size text)) found → ¬ HasForm text
no-reading text size None e n h = no-line text
    (subst (λ k. (parts : List (Option ℕ)) → ¬ IsTextOf (drop k text) parts) e
    (subst (λ (t : List ℕ). (parts : List (Option ℕ)) → ¬ IsTextOf t parts) (take-rest size text) h))
no-reading text size (Some v) e n h = absurd (let f : ⊥ = cc in f)

pub no-name_read : (text : List ℕ) (size : ℕ) → size ≡ name_size text → ¬ IsName (take size text) → ¬ HasForm text
no-name_read text size e h = no-name text (subst (λ k. ¬ IsName (take k text)) e h)

pub line-told : (text name : List ℕ) (parts : List (Option ℕ)) → IsName (take (name_size text) text)
    → name ≡ take (name_size text) text → IsTextOf (drop (name_size text) text) parts
    → IsSignature name parts × (text ≡ line_of name parts)
line-told text name parts is same h = (
  record { is_name = subst IsName (sym same) is; are_parts = h.may_be },
  sym (take-drop (name_size text) text)
      ∙ ap (λ (l : List ℕ). l ++ drop (name_size text) text) (sym same)
      ∙ ap (λ (l : List ℕ). name ++ l) h.text_is,
)

-- Tests --------------------------------------------------------------------------------------

pub never-true : (b : Bool) → b ≡ false → b ≡ true → ⊥
never-true b f t = let same : true ≡ false = sym t ∙ f in absurd (let g : ⊥ = cc in g)
