-- Laws of labels, by their names.
use Rattle.std.proofs.Common.{◌≡◌, ℕ, zero, suc, ◌<◌, Bool, true, false, List, [], ◌∷◌, ◌++◌, length, get_or, set, Option, Some, None, string_bytes, refl, sym, ap, ◌∙◌, arith}
use Rattle.std.specs.Prelude.{option_map, if◌then◌else◌}
use Rattle.dcc_c.specs.Token.{same_bytes}
use Rattle.dcc_c.specs.Tree.{Word}
use Rattle.dcc_c.proofs.NameLaws.{same_bytes-equal}
use Rattle.dcc_prepare.specs.declared.program.Label.{Label}
use Rattle.dcc_prepare.specs.Points.{label_words, label_named, point_named, label_point}
use Rattle.dcc_prepare.specs.Emission.{KeepNumbers}

-- One label more.

raised : (b : Bool) (o : Option ℕ) → (if b then Some 0 else option_map suc o) ≡ None → (b ≡ false) × (o ≡ None)
raised true o is = cc
raised false None is = (refl, refl)
raised false (Some k) is = cc

pub label_named-new : (ls : List Label) (l : Label) (word : Word) → label_named ls word ≡ None →
    same_bytes (string_bytes l.name) word ≡ true → label_named (ls ++ l ∷ []) word ≡ Some (length ls)
label_named-new [] l word none is = rw is refl
label_named-new (m ∷ ls) l word none is =
    let (other, others) = raised (same_bytes (string_bytes m.name) word) (label_named ls word) none in
    ap (λ b. if b then Some 0 else option_map suc (label_named (ls ++ l ∷ []) word)) other
    ∙ ap (option_map suc) (label_named-new ls l word others is)

keeps-choice : (b : Bool) (o p : Option ℕ) (n : ℕ) → ((k : ℕ) → o ≡ Some k → p ≡ Some k) →
    (if b then Some 0 else option_map suc o) ≡ Some n → (if b then Some 0 else option_map suc p) ≡ Some n
keeps-choice true o p n keep is = is
keeps-choice false None p n keep is = cc
keeps-choice false (Some k) p n keep is = ap (option_map suc) (keep k refl) ∙ is

pub numbers-push : (ls : List Label) (l : Label) → KeepNumbers ls (ls ++ l ∷ [])
numbers-push [] l word number is = cc
numbers-push (m ∷ ls) l word number is =
    keeps-choice (same_bytes (string_bytes m.name) word) (label_named ls word) (label_named (ls ++ l ∷ []) word) number
    (λ k. numbers-push ls l word k) is

choice-same : (b : Bool) (o p q : Option ℕ) → p ≡ q → (if b then o else p) ≡ (if b then o else q)
choice-same b o p q is = ap (λ x. if b then o else x) is

none_both : (b : Bool) (o : Option ℕ) → o ≡ None → (if b then o else None) ≡ None
none_both true o is = is
none_both false o is = refl

pub points-push : (ls : List Label) (l : Label) (word : Word) → l.point ≡ None → point_named (ls ++ l ∷ []) word ≡ point_named ls word
points-push [] l word none = none_both (same_bytes (string_bytes l.name) word) l.point none
points-push (m ∷ ls) l word none =
    choice-same (same_bytes (string_bytes m.name) word) m.point _ _ (points-push ls l word none)

suc_same : (k i : ℕ) → Some (suc k) ≡ Some (suc i) → suc k ≡ suc i
suc_same k i is = cc

-- A label that gets its point.

abbrev pub standing : Label → ℕ → Label
standing l at = record l { point = Some at }

-- the names stay
pub words-set : (ls : List Label) (i : ℕ) (l : Label) (at : ℕ) → l ≡ get_or ls i l → label_words (set ls i (standing l at)) ≡ label_words ls
words-set [] i l at is = refl
words-set (m ∷ ls) zero l at is = ap (λ (x : Label). string_bytes x.name ∷ label_words ls) is
words-set (m ∷ ls) (suc i) l at is = ap (λ ws. string_bytes m.name ∷ ws) (words-set ls i l at is)

numbered-same : (b : Bool) (o p : Option ℕ) → o ≡ p → (if b then Some 0 else option_map suc o) ≡ (if b then Some 0 else option_map suc p)
numbered-same b o p is = ap (λ x. if b then Some 0 else option_map suc x) is

pub numbers-set : (ls : List Label) (i : ℕ) (l : Label) (at : ℕ) (word : Word) → i < length ls → l ≡ get_or ls i l →
    label_named (set ls i (standing l at)) word ≡ label_named ls word
numbers-set [] i l at word within is = refl
numbers-set (m ∷ ls) zero l at word within is =
    ap (λ (x : Label). if same_bytes (string_bytes x.name) word then Some 0 else option_map suc (label_named ls word)) is
numbers-set (m ∷ ls) (suc i) l at word within is =
    numbered-same (same_bytes (string_bytes m.name) word) _ _ (numbers-set ls i l at word (omega arith) is)

zero_one : (i : ℕ) → Some 0 ≡ Some (suc i) → ⊥
zero_one i is = let same : 0 ≡ suc i = cc in omega arith

settled : (b : Bool) (o : Option ℕ) (i : ℕ) → (if b then Some 0 else option_map suc o) ≡ Some (suc i) → (b ≡ false) × (o ≡ Some i)
settled true o i is = absurd (zero_one i is)
settled false None i is = cc
settled false (Some k) i is = (refl, ap Some (omega (arith, suc_same k i is)))

at_first : (b : Bool) (o : Option ℕ) → (if b then Some 0 else option_map suc o) ≡ Some 0 → b ≡ true
at_first true o is = refl
at_first false None is = cc
at_first false (Some k) is = absurd (zero_one k (sym is))

-- the tests of a name against two words, which are the same or not
chosen : (b c : Bool) (own other : Option ℕ) (at : ℕ) → b ≡ c → (if b then Some at else other) ≡ (if c then Some at else (if b then own else other))
chosen true true own other at is = refl
chosen false false own other at is = refl
chosen true false own other at is = cc
chosen false true own other at is = cc

swapped : (b c : Bool) (own one other : Option ℕ) → (c ≡ true → b ≡ false) →
    (if b then own else (if c then one else other)) ≡ (if c then one else (if b then own else other))
swapped true true own one other apart = cc (apart refl)
swapped true false own one other apart = refl
swapped false c own one other apart = refl

pub points-set : (ls : List Label) (i : ℕ) (l : Label) (at : ℕ) (name word : Word) → label_named ls name ≡ Some i →
    l ≡ get_or ls i l →
    point_named (set ls i (standing l at)) word ≡ (if same_bytes name word then Some at else point_named ls word)
points-set [] i l at name word named is = cc
points-set (m ∷ ls) zero l at name word named is =
    let own : string_bytes m.name ≡ name = same_bytes-equal _ _ (at_first (same_bytes (string_bytes m.name) name) (label_named ls name) named) in
    ap (λ (x : Label). if same_bytes (string_bytes x.name) word then Some at else point_named ls word) is
    ∙ chosen (same_bytes (string_bytes m.name) word) (same_bytes name word) m.point (point_named ls word) at (ap (λ n. same_bytes n word) own)
points-set (m ∷ ls) (suc i) l at name word named is =
    let (other, others) = settled (same_bytes (string_bytes m.name) name) (label_named ls name) i named in
    choice-same (same_bytes (string_bytes m.name) word) m.point _ _ (points-set ls i l at name word others is)
    ∙ swapped (same_bytes (string_bytes m.name) word) (same_bytes name word) m.point (Some at) (point_named ls word)
    (λ same. ap (same_bytes (string_bytes m.name)) (sym (same_bytes-equal name word same)) ∙ other)

-- the point of a label, by its number
pub label_point-named : (ls : List Label) (word : Word) (number : ℕ) → label_named ls word ≡ Some number →
    label_point ls number ≡ point_named ls word
label_point-named [] word number is = cc
label_point-named (l ∷ ls) word zero is = rw (at_first (same_bytes (string_bytes l.name) word) (label_named ls word) is) refl
label_point-named (l ∷ ls) word (suc number) is =
    let (other, others) = settled (same_bytes (string_bytes l.name) word) (label_named ls word) number is in
    label_point-named ls word number others ∙ sym (ap (λ b. if b then l.point else point_named ls word) other)

pub label_named-within : (ls : List Label) (word : Word) (i : ℕ) → label_named ls word ≡ Some i → i < length ls
label_named-within [] word i is = cc
label_named-within (l ∷ ls) word zero is = omega arith
label_named-within (l ∷ ls) word (suc i) is =
    let (other, others) = settled (same_bytes (string_bytes l.name) word) (label_named ls word) i is in
    let inside : i < length ls = label_named-within ls word i others in
    omega arith
