-- A text is assembled to one list of bytes at most, or one line of it offends first, in one way.
use Rattle.std.proofs.Common.{◌≡◌, ℕ, suc, ◌+◌, ◌<◌, ◌≤◌, List, [], ◌∷◌, ◌++◌, length, drop, All, refl, sym, ap, ◌∙◌, subst, append_assoc, arith}
use Rattle.std.proofs.lemmas.List.{length-append}
use Rattle.dcc_machine.specs.declared.cpu.Cpu.{Cpu}
use Rattle.dcc_machine.specs.declared.cpu.Cpu.TheVariants.{I8086, I186}
use Rattle.dcc_reread.specs.Reading.{byte_of, word_value}
use Rattle.dcc_reread.proofs.ReadBack.{word-back}
use Rattle.dcc_list.specs.Text.{Gives, GivesInTurn, none, next, text_of, IsLine, head_line, Begins, StandsFor}
use Rattle.dcc_asm.specs.declared.fault.ListKind.{ListKind}
use Rattle.dcc_asm.specs.declared.fault.ListKind.TheVariants.{Length, Head, Word}
use Rattle.dcc_asm.specs.Fault.{text_most, bytes_most, Offends, HasHead, BeginsWith, IsFirstFault, too_long, no_head as head, at_line as line, unended}
use Rattle.dcc_asm.specs.Laws.{BytesAreUnique, FaultIsUnique, AssembledHasNoFault}
use Rattle.dcc_asm.proofs.LineLaws.{gives-unique, offends-not_gives, offends-same}

-- Lines --------------------------------------------------------------------------------------

line-tail : (x : ℕ) (xs : List ℕ) → IsLine (x ∷ xs) → IsLine xs
line-tail x xs h c = let l = c.1 in h (suc c.0, omega arith, c.2)

no_feed-first : (x : ℕ) (xs : List ℕ) → IsLine (x ∷ xs) → x ≡ 10 → ⊥
no_feed-first x xs h e = h (0, omega arith, e)

pub feed-within : (xs ys : List ℕ) → IsLine (xs ++ (10 ∷ ys)) → ⊥
feed-within [] ys h = no_feed-first 10 ys h refl
feed-within (x ∷ xs) ys h = feed-within xs ys (line-tail x (xs ++ (10 ∷ ys)) h)

head-of : {a b : ℕ} {xs ys : List ℕ} → a ∷ xs ≡ b ∷ ys → a ≡ b
head-of e = cc

tail-of : {a b : ℕ} {xs ys : List ℕ} → a ∷ xs ≡ b ∷ ys → xs ≡ ys
tail-of e = cc

cons_same : {a b : ℕ} {xs ys : List ℕ} → a ≡ b → xs ≡ ys → a ∷ xs ≡ b ∷ ys
cons_same p q = cc

-- two texts that are one have one first line, and one rest
pub first-same : (l m r s : List ℕ) → IsLine l → IsLine m → l ++ (10 ∷ r) ≡ m ++ (10 ∷ s) → (l ≡ m) × (r ≡ s)
first-same [] [] r s h k e = (refl, tail-of e)
first-same [] (b ∷ m) r s h k e = absurd (no_feed-first b m k (sym (head-of e)))
first-same (a ∷ l) [] r s h k e = absurd (no_feed-first a l h (head-of e))
first-same (a ∷ l) (b ∷ m) r s h k e =
    let rest = first-same l m r s (line-tail a l h) (line-tail b m k) (tail-of e) in
    (cons_same (head-of e) rest.0, rest.1)

pub first-of : (l : List ℕ) (lines : List (List ℕ)) (rest : List ℕ) → text_of (l ∷ lines) ++ rest ≡ l ++ (10 ∷ (text_of lines ++ rest))
first-of l lines rest = append_assoc l (10 ∷ text_of lines) rest

not-empty : (l r : List ℕ) → [] ≡ l ++ (10 ∷ r) → ⊥
not-empty [] r e = cc
not-empty (a ∷ l) r e = cc

-- Runs ---------------------------------------------------------------------------------------

-- two runs over the lines of one text: they are one, or the one ends where the other has a further line
data Compared (cpu : Cpu) (cs here : ℕ) (L1 : List (List ℕ)) (b1 r1 : List ℕ) (L2 : List (List ℕ)) (b2 r2 : List ℕ) : Type 0 where
  are_same : L1 ≡ L2 → b1 ≡ b2 → r1 ≡ r2 → Compared cpu cs here L1 b1 r1 L2 b2 r2
  first_ends :
      (l told more : List ℕ) → IsLine l → r1 ≡ l ++ (10 ∷ more) → Gives cpu cs (here + length b1) l told
      → length b1 + length told ≤ length b2 → Compared cpu cs here L1 b1 r1 L2 b2 r2
  second_ends :
      (l told more : List ℕ) → IsLine l → r2 ≡ l ++ (10 ∷ more) → Gives cpu cs (here + length b2) l told
      → length b2 + length told ≤ length b1 → Compared cpu cs here L1 b1 r1 L2 b2 r2

lines-tail : (l : List ℕ) (lines : List (List ℕ)) → All IsLine (l ∷ lines) → All IsLine lines
lines-tail l lines h = λ k d p. h (suc k) d (omega arith)

line-first : (l : List ℕ) (lines : List (List ℕ)) → All IsLine (l ∷ lines) → IsLine l
line-first l lines h = h 0 [] (omega arith)

length-zero : (told rest : List ℕ) → 0 + length told ≤ length (told ++ rest)
length-zero told rest = let size = length-append told rest in omega arith

at-zero : (cpu : Cpu) (cs here : ℕ) (l told : List ℕ) → Gives cpu cs here l told → Gives cpu cs (here + 0) l told
at-zero cpu cs here l told g = let e : here ≡ here + 0 = omega arith in subst (λ n. Gives cpu cs n l told) e g

line_cons : {l m : List ℕ} {L M : List (List ℕ)} → l ≡ m → L ≡ M → l ∷ L ≡ m ∷ M
line_cons p q = cc

longer : (cpu : Cpu) (cs here : ℕ) (l m t : List ℕ) (L1 : List (List ℕ)) (b1 r1 : List ℕ) (L2 : List (List ℕ)) (b2 r2 : List ℕ)
    → l ≡ m → Compared cpu cs (here + length t) L1 b1 r1 L2 b2 r2 → Compared cpu cs here (l ∷ L1) (t ++ b1) r1 (m ∷ L2) (t ++ b2) r2
longer cpu cs here l m t L1 b1 r1 L2 b2 r2 e (are_same p q r) = are_same (line_cons e p) (ap (λ (x : List ℕ). t ++ x) q) r
longer cpu cs here l m t L1 b1 r1 L2 b2 r2 e (first_ends k told more h p g fits) =
    let one = length-append t b1 in
    let two = length-append t b2 in
    let place : here + length t + length b1 ≡ here + length (t ++ b1) = omega arith in
    first_ends k told more h p (subst (λ n. Gives cpu cs n k told) place g) (omega arith)
longer cpu cs here l m t L1 b1 r1 L2 b2 r2 e (second_ends k told more h p g fits) =
    let one = length-append t b1 in
    let two = length-append t b2 in
    let place : here + length t + length b2 ≡ here + length (t ++ b2) = omega arith in
    second_ends k told more h p (subst (λ n. Gives cpu cs n k told) place g) (omega arith)

compare : (cpu : Cpu) (cs here : ℕ) (L1 : List (List ℕ)) (b1 r1 : List ℕ) (L2 : List (List ℕ)) (b2 r2 : List ℕ)
    → All IsLine L1 → All IsLine L2 → GivesInTurn cpu cs here L1 b1 → GivesInTurn cpu cs here L2 b2
    → text_of L1 ++ r1 ≡ text_of L2 ++ r2 → Compared cpu cs here L1 b1 r1 L2 b2 r2
compare cpu cs here [] b1 r1 [] b2 r2 h k none none e = are_same refl refl e
compare cpu cs here [] b1 r1 (m ∷ L2) b2 r2 h k none (next {bytes = t} {rest = b} g more) e =
    first_ends m t (text_of L2 ++ r2) (line-first m L2 k) (e ∙ first-of m L2 r2) (at-zero cpu cs here m t g) (length-zero t b)
compare cpu cs here (l ∷ L1) b1 r1 [] b2 r2 h k (next {bytes = t} {rest = b} g more) none e =
    second_ends l t (text_of L1 ++ r1) (line-first l L1 h) (sym e ∙ first-of l L1 r1) (at-zero cpu cs here l t g) (length-zero t b)
compare cpu cs here (l ∷ L1) b1 r1 (m ∷ L2) b2 r2 h k (next {bytes = t} {rest = b} g more) (next {bytes = u} {rest = c} f others) e =
    let parts = first-same l m (text_of L1 ++ r1) (text_of L2 ++ r2) (line-first l L1 h) (line-first m L2 k) (sym (first-of l L1 r1) ∙ e ∙ first-of m L2 r2) in
    let one : u ≡ t = gives-unique cpu cs here l u t (subst (λ (x : List ℕ). Gives cpu cs here x u) (sym parts.0) f) g in
    let rest : GivesInTurn cpu cs (here + length t) L2 c = subst (λ (x : List ℕ). GivesInTurn cpu cs (here + length x) L2 c) one others in
    let done : Compared cpu cs here (l ∷ L1) (t ++ b) r1 (m ∷ L2) (t ++ c) r2 =
    longer cpu cs here l m t L1 b r1 L2 c r2 parts.0
    (compare cpu cs (here + length t) L1 b r1 L2 c r2 (lines-tail l L1 h) (lines-tail m L2 k) more rest parts.1) in
    subst (λ (x : List ℕ). Compared cpu cs here (l ∷ L1) (t ++ b) r1 (m ∷ L2) (x ++ c) r2) (sym one) done

-- Where a run stops --------------------------------------------------------------------------

data Stops (cpu : Cpu) (cs here : ℕ) (rest : List ℕ) (kind : ListKind) : Type 0 where
  at_line : (l more : List ℕ) → rest ≡ l ++ (10 ∷ more) → IsLine l → Offends cpu cs here l kind → Stops cpu cs here rest kind
  at_end : IsLine rest → 0 < length rest → kind ≡ Word → Stops cpu cs here rest kind

unbroken-not : (rest l more : List ℕ) → IsLine rest → rest ≡ l ++ (10 ∷ more) → ⊥
unbroken-not rest l more h e = feed-within l more (subst IsLine e h)

stops-not_gives : (cpu : Cpu) (cs here : ℕ) (rest : List ℕ) (kind : ListKind) (l told more : List ℕ) → here ≤ bytes_most → Stops cpu cs here rest kind
    → IsLine l → rest ≡ l ++ (10 ∷ more) → Gives cpu cs here l told → here + length told ≤ bytes_most → ⊥
stops-not_gives cpu cs here rest kind l told more most (at_line m others e h o) k f g fits =
    let parts = first-same m l others more h k (sym e ∙ f) in
    offends-not_gives cpu cs here l kind told most (subst (λ (x : List ℕ). Offends cpu cs here x kind) parts.0 o) g fits
stops-not_gives cpu cs here rest kind l told more most (at_end h some e) k f g fits = unbroken-not rest l more h f

stops-same : (cpu : Cpu) (cs here : ℕ) (rest : List ℕ) (kind other : ListKind) → here ≤ bytes_most → Stops cpu cs here rest kind → Stops cpu cs here rest other → kind ≡ other
stops-same cpu cs here rest kind other most (at_line l more e h o) (at_line m others f k p) =
    let parts = first-same m l others more k h (sym f ∙ e) in
    offends-same cpu cs here l kind other most o (subst (λ (x : List ℕ). Offends cpu cs here x other) parts.0 p)
stops-same cpu cs here rest kind other most (at_line l more e h o) (at_end k some f) = absurd (unbroken-not rest l more k e)
stops-same cpu cs here rest kind other most (at_end h some e) (at_line l more f k p) = absurd (unbroken-not rest l more h f)
stops-same cpu cs here rest kind other most (at_end h some e) (at_end k also f) = e ∙ sym f

stops-not_empty : (cpu : Cpu) (cs here : ℕ) (kind : ListKind) → Stops cpu cs here [] kind → ⊥
stops-not_empty cpu cs here kind (at_line l more e h o) = not-empty l more e
stops-not_empty cpu cs here kind (at_end h some e) = omega arith

-- Heads --------------------------------------------------------------------------------------

record HeadsSame (cpu other : Cpu) (cs others : ℕ) (rest more : List ℕ) : Type 0 where
  cpus : cpu ≡ other
  segments : cs ≡ others
  rests : rest ≡ more

-- the digits 8 and 1, with which the names of the processors begin
digits-apart : (a b : ℕ) → a ≡ b → a ≡ 56 → b ≡ 49 → ⊥
digits-apart a b e f g = omega arith

heads-same : (cpu other : Cpu) (cs others : ℕ) (rest more : List ℕ) → cs < 65536 → others < 65536
    → head_line cpu cs ++ (10 ∷ rest) ≡ head_line other others ++ (10 ∷ more) → HeadsSame cpu other cs others rest more
heads-same I8086 I8086 cs others rest more h k e = record {
  cpus = refl;
  segments = sym (word-back cs h) ∙ ap (λ (t : List ℕ). word_value t 18) e ∙ word-back others k;
  rests = ap (λ (t : List ℕ). drop 23 t) e;
}
heads-same I186 I186 cs others rest more h k e = record {
  cpus = refl;
  segments = sym (word-back cs h) ∙ ap (λ (t : List ℕ). word_value t 17) e ∙ word-back others k;
  rests = ap (λ (t : List ℕ). drop 22 t) e;
}
heads-same I8086 I186 cs others rest more h k e =
    absurd (digits-apart (byte_of (head_line I8086 cs ++ (10 ∷ rest)) 13) (byte_of (head_line I186 others ++ (10 ∷ more)) 13)
    (ap (λ (t : List ℕ). byte_of t 13) e) refl refl)
heads-same I186 I8086 cs others rest more h k e =
    absurd (digits-apart (byte_of (head_line I8086 others ++ (10 ∷ more)) 13) (byte_of (head_line I186 cs ++ (10 ∷ rest)) 13)
    (sym (ap (λ (t : List ℕ). byte_of t 13) e)) refl refl)

-- Whole texts --------------------------------------------------------------------------------

-- lines that stand at the begin of a text, of which none offends
record Runs (text : List ℕ) (cpu : Cpu) (cs : ℕ) (lines : List (List ℕ)) (told rest : List ℕ) : Type 0 where
  begins : Begins cpu cs lines told
  text_is : text ≡ text_of (head_line cpu cs ∷ lines) ++ rest

-- two runs over one text
record TwoRuns (text : List ℕ) (cpu : Cpu) (cs : ℕ) (lines : List (List ℕ)) (told rest : List ℕ) (other : Cpu) (others : ℕ) (also : List (List ℕ)) (gets more : List ℕ) : Type 0 where
  cpus : cpu ≡ other
  segments : cs ≡ others
  compared : Compared cpu cs 0 lines told rest also gets more

two-runs : (text : List ℕ) (cpu : Cpu) (cs : ℕ) (lines : List (List ℕ)) (told rest : List ℕ) (other : Cpu) (others : ℕ) (also : List (List ℕ)) (gets more : List ℕ)
    → Runs text cpu cs lines told rest → Runs text other others also gets more → TwoRuns text cpu cs lines told rest other others also gets more
two-runs text cpu cs lines told rest other others also gets more h k =
    let heads = heads-same cpu other cs others (text_of lines ++ rest) (text_of also ++ more) h.begins.segment k.begins.segment
    (sym (first-of (head_line cpu cs) lines rest) ∙ sym h.text_is ∙ k.text_is ∙ first-of (head_line other others) also more) in
    let one : GivesInTurn cpu others 0 also gets = subst (λ c. GivesInTurn c others 0 also gets) (sym heads.cpus) k.begins.give in
    let two : GivesInTurn cpu cs 0 also gets = subst (λ n. GivesInTurn cpu n 0 also gets) (sym heads.segments) one in
    record {
      cpus = heads.cpus;
      segments = heads.segments;
      compared = compare cpu cs 0 lines told rest also gets more h.begins.unbroken k.begins.unbroken h.begins.give two heads.rests;
    }

append-none : (xs : List ℕ) → xs ++ [] ≡ xs
append-none [] = refl
append-none (x ∷ xs) = ap (λ (r : List ℕ). x ∷ r) (append-none xs)

stands-runs : (text told : List ℕ) (h : StandsFor text told) → Runs text h.cpu h.cs h.lines told []
stands-runs text told h = record { begins = h.begins; text_is = h.text_is ∙ sym (append-none (text_of (head_line h.cpu h.cs ∷ h.lines))) }

-- a text is a listing of one list of bytes at most
pub bytes_unique : BytesAreUnique
bytes_unique text told others h k =
    let both = two-runs text h.cpu h.cs h.lines told [] k.cpu k.cs k.lines others [] (stands-runs text told h) (stands-runs text others k) in
    elim both.compared [
      | are_same p q r ↦ q
      | first_ends l t more is e g fits ↦ absurd (not-empty l more e)
      | second_ends l t more is e g fits ↦ absurd (not-empty l more e)
    ]

-- two readings of one text as a listing
pub record AreOneReading (cpu : Cpu) (cs : ℕ) (lines : List (List ℕ)) (other : Cpu) (others : ℕ) (also : List (List ℕ)) : Type 0 where
  pub cpus : cpu ≡ other
  pub segments : cs ≡ others
  pub lines_are : lines ≡ also

pub one-reading : (text told others : List ℕ) (h : StandsFor text told) (k : StandsFor text others) → AreOneReading h.cpu h.cs h.lines k.cpu k.cs k.lines
one-reading text told others h k =
    let both = two-runs text h.cpu h.cs h.lines told [] k.cpu k.cs k.lines others [] (stands-runs text told h) (stands-runs text others k) in
    elim both.compared [
      | are_same p q r ↦ record { cpus = both.cpus; segments = both.segments; lines_are = p }
      | first_ends l t more is e g fits ↦ absurd (not-empty l more e)
      | second_ends l t more is e g fits ↦ absurd (not-empty l more e)
    ]

-- the faults of a text, with the lines before them as a run
data FaultView (text : List ℕ) (number : ℕ) (kind : ListKind) : Type 0 where
  long : text_most < length text → number ≡ 0 → kind ≡ Length → FaultView text number kind
  no_head : length text ≤ text_most → ¬ HasHead text → number ≡ 1 → kind ≡ Head → FaultView text number kind
  stopped :
      (cpu : Cpu) (cs : ℕ) (lines : List (List ℕ)) (told rest : List ℕ) → length text ≤ text_most → Runs text cpu cs lines told rest
      → length told ≤ bytes_most → Stops cpu cs (length told) rest kind → number ≡ 2 + length lines → FaultView text number kind

begins-runs : (text : List ℕ) (cpu : Cpu) (cs : ℕ) (lines : List (List ℕ)) (told rest : List ℕ) → BeginsWith text cpu cs lines told rest → Runs text cpu cs lines told rest
begins-runs text cpu cs lines told rest h = record { begins = h.begins; text_is = h.text_is }

fault-view : (text : List ℕ) (number : ℕ) (kind : ListKind) → IsFirstFault text number kind → FaultView text number kind
fault-view text number kind (too_long past) = long past refl refl
fault-view text number kind (head fits without) = no_head fits without refl refl
fault-view text number kind (line {cpu = cpu} {cs = cs} {lines = lines} {bytes = told} {line = l} rest h is o) =
    stopped cpu cs lines told (text_of (l ∷ []) ++ rest) h.text_fits (begins-runs text cpu cs lines told (text_of (l ∷ []) ++ rest) h) h.bytes_fit
    (at_line l rest (first-of l [] rest) is o) refl
fault-view text number kind (unended {cpu = cpu} {cs = cs} {lines = lines} {bytes = told} {rest = rest} h is some) =
    stopped cpu cs lines told rest h.text_fits (begins-runs text cpu cs lines told rest h) h.bytes_fit (at_end is some refl) refl

runs-head : (text : List ℕ) (cpu : Cpu) (cs : ℕ) (lines : List (List ℕ)) (told rest : List ℕ) → Runs text cpu cs lines told rest → HasHead text
runs-head text cpu cs lines told rest h = record {
  cpu = cpu;
  cs = cs;
  segment = h.begins.segment;
  rest = text_of lines ++ rest;
  text_is = h.text_is ∙ first-of (head_line cpu cs) lines rest ∙ sym (first-of (head_line cpu cs) [] (text_of lines ++ rest));
}

-- two stops of one text
stopped-same : (text : List ℕ) (cpu : Cpu) (cs : ℕ) (lines : List (List ℕ)) (told rest : List ℕ) (kind : ListKind) (cpu' : Cpu) (cs' : ℕ) (lines' : List (List ℕ)) (told' rest' : List ℕ) (kind' : ListKind)
    → Runs text cpu cs lines told rest → length told ≤ bytes_most → Stops cpu cs (length told) rest kind
    → Runs text cpu' cs' lines' told' rest' → length told' ≤ bytes_most → Stops cpu' cs' (length told') rest' kind'
    → (length lines ≡ length lines') × (kind ≡ kind')
stopped-same text cpu cs lines told rest kind cpu' cs' lines' told' rest' kind' r most s r' most' s' =
    let both = two-runs text cpu cs lines told rest cpu' cs' lines' told' rest' r r' in
    let one : Stops cpu cs' (length told') rest' kind' = subst (λ c. Stops c cs' (length told') rest' kind') (sym both.cpus) s' in
    let two : Stops cpu cs (length told') rest' kind' = subst (λ n. Stops cpu n (length told') rest' kind') (sym both.segments) one in
    elim both.compared [
      | are_same p q e ↦
          let three : Stops cpu cs (length told) rest' kind' = subst (λ (x : List ℕ). Stops cpu cs (length x) rest' kind') (sym q) two in
          (ap length p, stops-same cpu cs (length told) rest kind kind' most s (subst (λ (x : List ℕ). Stops cpu cs (length told) x kind') (sym e) three))
      | first_ends l t more is e g fits ↦
          let here : 0 + length told ≡ length told = omega arith in
          absurd (stops-not_gives cpu cs (length told) rest kind l t more most s is e (subst (λ n. Gives cpu cs n l t) here g) (omega arith))
      | second_ends l t more is e g fits ↦
          let here : 0 + length told' ≡ length told' = omega arith in
          absurd (stops-not_gives cpu cs (length told') rest' kind' l t more most' two is e (subst (λ n. Gives cpu cs n l t) here g) (omega arith))
    ]

-- one line at most offends first, in one way
pub fault_unique : FaultIsUnique
fault_unique text number other kind also h k = elim (fault-view text number kind h) [
  | long past n e ↦ elim (fault-view text other also k) [
    | long past m f ↦ (n ∙ sym m, e ∙ sym f)
    | no_head fits without m f ↦ absurd (omega arith)
    | stopped cpu cs lines told rest fits r most s m ↦ absurd (omega arith)
  ]
  | no_head fits without n e ↦ elim (fault-view text other also k) [
    | long past m f ↦ absurd (omega arith)
    | no_head fits without m f ↦ (n ∙ sym m, e ∙ sym f)
    | stopped cpu cs lines told rest fits r most s m ↦ absurd (without (runs-head text cpu cs lines told rest r))
  ]
  | stopped cpu cs lines told rest fits r most s n ↦ elim (fault-view text other also k) [
    | long past m f ↦ absurd (omega arith)
    | no_head fits without m f ↦ absurd (without (runs-head text cpu cs lines told rest r))
    | stopped cpu' cs' lines' told' rest' fits' r' most' s' m ↦
        let same = stopped-same text cpu cs lines told rest kind cpu' cs' lines' told' rest' also r most s r' most' s' in
        (n ∙ ap (λ x. 2 + x) same.0 ∙ sym m, same.1)
  ]
]

-- no line offends in a text that is assembled
pub assembled_no_fault : AssembledHasNoFault
assembled_no_fault text told number kind h f = elim (fault-view text number kind f) [
  | long past n e ↦ let fits = h.text_fits in omega arith
  | no_head fits without n e ↦ without (runs-head text h.stands.cpu h.stands.cs h.stands.lines told [] (stands-runs text told h.stands))
  | stopped cpu cs lines gets rest fits r most s n ↦
      let both = two-runs text cpu cs lines gets rest h.stands.cpu h.stands.cs h.stands.lines told [] r (stands-runs text told h.stands) in
      elim both.compared [
        | are_same p q e ↦ stops-not_empty cpu cs (length gets) kind (subst (λ (x : List ℕ). Stops cpu cs (length gets) x kind) e s)
        | first_ends l t more is e g small ↦
            let here : 0 + length gets ≡ length gets = omega arith in
            let room = h.bytes_fit in
            stops-not_gives cpu cs (length gets) rest kind l t more most s is e (subst (λ m. Gives cpu cs m l t) here g) (omega arith)
        | second_ends l t more is e g small ↦ not-empty l more e
      ]
]
