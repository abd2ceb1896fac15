-- A line gives one list of bytes at most, or it offends in one way.
use Rattle.std.proofs.Common.{◌≡◌, ℕ, ◌+◌, ◌<◌, ◌≤◌, true, false, List, [], length, refl, sym, ap, ◌∙◌, subst, arith}
use Rattle.std.specs.Prelude.{◌==◌}
use Rattle.dcc_machine.specs.declared.cpu.Cpu.{Cpu}
use Rattle.dcc_machine.specs.declared.instr.Op.{Op}
use Rattle.dcc_machine.proofs.TableLaws.{instruction-length}
use Rattle.dcc_encode.specs.Encoding.{IsEncoding, IsStandard}
use Rattle.dcc_encode.proofs.Orders.{standard_is_unique}
use Rattle.dcc_reread.specs.Reading.{byte_of}
use Rattle.dcc_list.specs.Text.{IsOffset, AreBytes, Gives, comment_line, comment, at_place, bytes as gives_bytes, standard as gives_standard, odd as gives_odd}
use Rattle.dcc_asm.specs.declared.fault.ListKind.{ListKind}
use Rattle.dcc_asm.specs.declared.fault.ListKind.TheVariants.{Length, Word, Range, Odd, Place}
use Rattle.dcc_asm.specs.Fault.{bytes_most, IsKnown, IsEncodable, IsOdd, Offends, no_form as word, other_place as offends_place, no_encoding as range, not_odd as offends_odd, too_many, HasForm, comment as comment_form, place as place_form, bytes as bytes_form, operation as operation_form, odd as odd_line_form}
use Rattle.dcc_asm.specs.Form.{Form, place, bytes, operation, odd, form_line, IsValid}
use Rattle.dcc_asm.proofs.ReadForm.{forms-same, form-no_comment}
use Rattle.dcc_asm.proofs.StepLaws.{offset-same}

-- What a form gives --------------------------------------------------------------------------

-- what a line gives that tells this
abbrev GivesOf : Cpu → ℕ → ℕ → Form → List ℕ → Type 0
GivesOf cpu cs here (place at) told = IsOffset cs here at × (told ≡ [])
GivesOf cpu cs here (bytes known) told = told ≡ known
GivesOf cpu cs here (operation op) told = (at : ℕ) × (IsOffset cs here at) × (IsStandard cpu at op told)
GivesOf cpu cs here (odd known op) told = IsOdd cpu cs here known op × (told ≡ known)

data GivesView (cpu : Cpu) (cs here : ℕ) (line told : List ℕ) : Type 0 where
  for_people : (words : List ℕ) → line ≡ comment_line words → told ≡ [] → GivesView cpu cs here line told
  of_form : (form : Form) → IsValid form → line ≡ form_line form → GivesOf cpu cs here form told → GivesView cpu cs here line told

pub encoding-bytes : (cpu : Cpu) (at : ℕ) (op : Op) (told : List ℕ) → IsEncoding cpu at op told → AreBytes told
encoding-bytes cpu at op told e =
    let size = instruction-length cpu at told (record { op = op; len = length told }) e.decoded in
    record { some = size.0; each = e.are_bytes }

pub encoding-known : (cpu : Cpu) (at : ℕ) (op : Op) (told : List ℕ) → IsEncoding cpu at op told → IsKnown op
encoding-known cpu at op told e = record { cpu = cpu; at = at; bytes = told; encoding = e }

gives-view : (cpu : Cpu) (cs here : ℕ) (line told : List ℕ) → Gives cpu cs here line told → GivesView cpu cs here line told
gives-view cpu cs here line told comment = for_people _ refl refl
gives-view cpu cs here line told (at_place l o) = of_form (place _) l refl (o, refl)
gives-view cpu cs here line told (gives_bytes are most) = of_form (bytes told) (are, most) refl refl
gives-view cpu cs here line told (gives_standard {at = at} {op = op} o s) =
    of_form (operation op) (encoding-known cpu at op told s.encoding) refl (at, o, s)
gives-view cpu cs here line told (gives_odd {at = at} {op = op} o e other) =
    of_form (odd told op) (encoding-bytes cpu at op told e, encoding-known cpu at op told e) refl
    (record { at = at; is_offset = o; encoding = e; other = other }, refl)

given-same : (cpu : Cpu) (cs here : ℕ) (form : Form) (told others : List ℕ) → GivesOf cpu cs here form told → GivesOf cpu cs here form others → told ≡ others
given-same cpu cs here (place at) told others h k = h.1 ∙ sym k.1
given-same cpu cs here (bytes known) told others h k = h ∙ sym k
given-same cpu cs here (operation op) told others h k =
    let same : k.0 ≡ h.0 = offset-same cs here k.0 h.0 k.1 h.1 in
    standard_is_unique cpu h.0 op told others h.2 (subst (λ n. IsStandard cpu n op others) same k.2)
given-same cpu cs here (odd known op) told others h k = h.1 ∙ sym k.1

not-both : (line words : List ℕ) (form : Form) → IsValid form → line ≡ comment_line words → line ≡ form_line form → ⊥
not-both line words form valid e f =
    let first : byte_of line 0 == 59 ≡ true = ap (λ (t : List ℕ). byte_of t 0 == 59) e in
    let other : byte_of line 0 == 59 ≡ false = ap (λ (t : List ℕ). byte_of t 0 == 59) f ∙ form-no_comment form valid in
    cc

-- a line gives one list of bytes at most
pub gives-unique : (cpu : Cpu) (cs here : ℕ) (line told others : List ℕ) → Gives cpu cs here line told → Gives cpu cs here line others → told ≡ others
gives-unique cpu cs here line told others g h = elim (gives-view cpu cs here line told g) [
  | for_people words e none ↦ elim (gives-view cpu cs here line others h) [
    | for_people words e also ↦ none ∙ sym also
    | of_form form valid f given ↦ absurd (not-both line words form valid e f)
  ]
  | of_form form valid e given ↦ elim (gives-view cpu cs here line others h) [
    | for_people words f none ↦ absurd (not-both line words form valid f e)
    | of_form other also f more ↦
        let same : other ≡ form = forms-same other form also valid (sym f ∙ e) in
        given-same cpu cs here form told others given (subst (λ x. GivesOf cpu cs here x others) same more)
  ]
]

-- How a form offends -------------------------------------------------------------------------

-- how a line offends that tells this, other than by too many bytes
abbrev OffendsBy : Cpu → ℕ → ℕ → Form → ListKind → Type 0
OffendsBy cpu cs here (place at) kind = (kind ≡ Place) × ¬ IsOffset cs here at
OffendsBy cpu cs here (bytes known) kind = ⊥
OffendsBy cpu cs here (operation op) kind = (kind ≡ Range) × ¬ IsEncodable cpu cs here op
OffendsBy cpu cs here (odd known op) kind = (kind ≡ Odd) × ¬ IsOdd cpu cs here known op

record PassesMost (cpu : Cpu) (cs here : ℕ) (form : Form) : Type 0 where
  told : List ℕ
  given : GivesOf cpu cs here form told
  past : bytes_most < here + length told

data OffendsView (cpu : Cpu) (cs here : ℕ) (line : List ℕ) (kind : ListKind) : Type 0 where
  no_form : ¬ HasForm line → kind ≡ Word → OffendsView cpu cs here line kind
  by_form : (form : Form) → IsValid form → line ≡ form_line form → OffendsBy cpu cs here form kind → OffendsView cpu cs here line kind
  by_length : (form : Form) → IsValid form → line ≡ form_line form → PassesMost cpu cs here form → kind ≡ Length → OffendsView cpu cs here line kind

offends-view : (cpu : Cpu) (cs here : ℕ) (line : List ℕ) (kind : ListKind) → here ≤ bytes_most → Offends cpu cs here line kind → OffendsView cpu cs here line kind
offends-view cpu cs here line kind l (word none) = no_form none refl
offends-view cpu cs here line kind l (offends_place small other) = by_form (place _) small refl (refl, other)
offends-view cpu cs here line kind l (range known none) = by_form (operation _) known refl (refl, none)
offends-view cpu cs here line kind l (offends_odd are known none) = by_form (odd _ _) (are, known) refl (refl, none)
offends-view cpu cs here line kind l (too_many {bytes = told} gives past) = elim (gives-view cpu cs here line told gives) [
  | for_people words e none ↦
      let size : length told ≡ 0 = ap length none in
      absurd (omega arith)
  | of_form form valid e given ↦ by_length form valid e (record { told = told; given = given; past = past }) refl
]

gives-not_offends : (cpu : Cpu) (cs here : ℕ) (form : Form) (kind : ListKind) (told : List ℕ) → OffendsBy cpu cs here form kind → GivesOf cpu cs here form told → ⊥
gives-not_offends cpu cs here (place at) kind told h g = h.1 g.0
gives-not_offends cpu cs here (bytes known) kind told h g = h
gives-not_offends cpu cs here (operation op) kind told h g = h.1 (record { at = g.0; is_offset = g.1; bytes = told; encoding = g.2.encoding })
gives-not_offends cpu cs here (odd known op) kind told h g = h.1 g.0

kinds-same : (cpu : Cpu) (cs here : ℕ) (form : Form) (kind other : ListKind) → OffendsBy cpu cs here form kind → OffendsBy cpu cs here form other → kind ≡ other
kinds-same cpu cs here (place at) kind other h k = h.0 ∙ sym k.0
kinds-same cpu cs here (bytes known) kind other h k = absurd h
kinds-same cpu cs here (operation op) kind other h k = h.0 ∙ sym k.0
kinds-same cpu cs here (odd known op) kind other h k = h.0 ∙ sym k.0

form-has : (form : Form) → IsValid form → HasForm (form_line form)
form-has (place at) h = place_form h
form-has (bytes known) h = bytes_form h.0 h.1
form-has (operation op) h = operation_form h
form-has (odd known op) h = odd_line_form h.0 h.1

line-has : (line : List ℕ) (form : Form) → IsValid form → line ≡ form_line form → HasForm line
line-has line form valid e = subst HasForm (sym e) (form-has form valid)

gives-has : (cpu : Cpu) (cs here : ℕ) (line told : List ℕ) → Gives cpu cs here line told → HasForm line
gives-has cpu cs here line told g = elim (gives-view cpu cs here line told g) [
  | for_people words e none ↦ subst HasForm (sym e) comment_form
  | of_form form valid e given ↦ line-has line form valid e
]

-- a line that offends gives no bytes, unless they are too many
pub offends-not_gives : (cpu : Cpu) (cs here : ℕ) (line : List ℕ) (kind : ListKind) (told : List ℕ) → here ≤ bytes_most
    → Offends cpu cs here line kind → Gives cpu cs here line told → here + length told ≤ bytes_most → ⊥
offends-not_gives cpu cs here line kind told l o g fits = elim (offends-view cpu cs here line kind l o) [
  | no_form none e ↦ none (gives-has cpu cs here line told g)
  | by_form form valid e by ↦ elim (gives-view cpu cs here line told g) [
    | for_people words f none ↦ not-both line words form valid f e
    | of_form other also f given ↦
        let same : other ≡ form = forms-same other form also valid (sym f ∙ e) in
        gives-not_offends cpu cs here form kind told by (subst (λ x. GivesOf cpu cs here x told) same given)
  ]
  | by_length form valid e long k ↦ elim (gives-view cpu cs here line told g) [
    | for_people words f none ↦ not-both line words form valid f e
    | of_form other also f given ↦
        let same : other ≡ form = forms-same other form also valid (sym f ∙ e) in
        let one : told ≡ long.told = given-same cpu cs here form told long.told (subst (λ x. GivesOf cpu cs here x told) same given) long.given in
        let size : length told ≡ length long.told = ap length one in
        let past = long.past in
        omega arith
  ]
]

-- a line offends in one way
pub offends-same : (cpu : Cpu) (cs here : ℕ) (line : List ℕ) (kind other : ListKind) → here ≤ bytes_most
    → Offends cpu cs here line kind → Offends cpu cs here line other → kind ≡ other
offends-same cpu cs here line kind other l o p = elim (offends-view cpu cs here line kind l o) [
  | no_form none e ↦ elim (offends-view cpu cs here line other l p) [
    | no_form also f ↦ e ∙ sym f
    | by_form form valid f by ↦ absurd (none (line-has line form valid f))
    | by_length form valid f long k ↦ absurd (none (line-has line form valid f))
  ]
  | by_form form valid e by ↦ elim (offends-view cpu cs here line other l p) [
    | no_form none f ↦ absurd (none (line-has line form valid e))
    | by_form known also f more ↦
        let same : known ≡ form = forms-same known form also valid (sym f ∙ e) in
        kinds-same cpu cs here form kind other by (subst (λ x. OffendsBy cpu cs here x other) same more)
    | by_length known also f long k ↦
        let same : known ≡ form = forms-same known form also valid (sym f ∙ e) in
        absurd (gives-not_offends cpu cs here form kind long.told by (subst (λ x. GivesOf cpu cs here x long.told) same long.given))
  ]
  | by_length form valid e long k ↦ elim (offends-view cpu cs here line other l p) [
    | no_form none f ↦ absurd (none (line-has line form valid e))
    | by_form known also f by ↦
        let same : form ≡ known = forms-same form known valid also (sym e ∙ f) in
        absurd (gives-not_offends cpu cs here known other long.told by (subst (λ x. GivesOf cpu cs here x long.told) same long.given))
    | by_length known also f more m ↦ k ∙ sym m
  ]
]
