-- The instructions that a listing tells: at different offsets, and apart from one another.
use Rattle.std.proofs.Common.{◌≡◌, ℕ, ◌+◌, ◌*◌, ◌<◌, ◌≤◌, List, [], ◌∷◌, length, refl, ap, subst, inl, inr, arith}
use Rattle.std.specs.Prelude.{◌⊎◌}
use Rattle.dcc_machine.specs.declared.cpu.Cpu.{Cpu}
use Rattle.dcc_machine.specs.declared.instr.Op.{Op}
use Rattle.dcc_machine.specs.Load.{load_segment}
use Rattle.dcc_encode.specs.Encoding.{IsEncoding}
use Rattle.dcc_list.specs.Text.{IsOffset, AreBytes, Gives, StandsFor, bytes_line, operation_line, odd_line, standard as gives_standard, odd as gives_odd}
use Rattle.dcc_asm.specs.Form.{bytes, operation, odd}
use Rattle.dcc_asm.specs.Instructions.{TellsInstruction, standard as tells_standard, odd as tells_odd, TellInstruction, HasInstruction}
use Rattle.dcc_asm.specs.Laws.{InstructionLinesAreApart}
use Rattle.dcc_asm.proofs.ReadForm.{forms-same}
use Rattle.dcc_asm.proofs.StepLaws.{offset-same}
use Rattle.dcc_asm.proofs.LineLaws.{gives-unique, encoding-bytes, encoding-known}
use Rattle.dcc_asm.proofs.TextLaws.{one-reading}

-- One line -----------------------------------------------------------------------------------

-- what an instruction line tells
pub record IsTold (cpu : Cpu) (cs place at : ℕ) (op : Op) (told line : List ℕ) : Type 0 where
  pub offset : IsOffset cs place at
  pub encoding : IsEncoding cpu at op told
  pub gives : Gives cpu cs place line told
  pub form : (line ≡ operation_line op) ⊎ (line ≡ odd_line told op)

pub is-told : (cpu : Cpu) (cs place at : ℕ) (op : Op) (told line : List ℕ) → TellsInstruction cpu cs place at op told line → IsTold cpu cs place at op told line
is-told cpu cs place at op told line (tells_standard is s) = record { offset = is; encoding = s.encoding; gives = gives_standard is s; form = inl refl }
is-told cpu cs place at op told line (tells_odd is e other) = record { offset = is; encoding = e; gives = gives_odd is e other; form = inr refl }

pub told-some : (cpu : Cpu) (at : ℕ) (op : Op) (told : List ℕ) → IsEncoding cpu at op told → 0 < length told
told-some cpu at op told e = (encoding-bytes cpu at op told e).some

-- a line of bytes is no instruction line
pub bytes-not_told : (cpu : Cpu) (cs place at : ℕ) (op : Op) (told known : List ℕ) → AreBytes known → length known ≤ 16
    → TellsInstruction cpu cs place at op told (bytes_line known) → ⊥
bytes-not_told cpu cs place at op told known are most t =
    let is = is-told cpu cs place at op told (bytes_line known) t in
    let op_known = encoding-known cpu at op told is.encoding in
    elim is.form [
      | inl e ↦
          let same : bytes known ≡ operation op = forms-same (bytes known) (operation op) (are, most) op_known e in
          let f : ⊥ = cc in f
      | inr e ↦
          let same : bytes known ≡ odd told op = forms-same (bytes known) (odd told op) (are, most) (encoding-bytes cpu at op told is.encoding, op_known) e in
          let f : ⊥ = cc in f
    ]

-- Lines one after another --------------------------------------------------------------------

pub moved : (cpu : Cpu) (cs at : ℕ) (op : Op) (told : List ℕ) (place other : ℕ) (lines : List (List ℕ)) → place ≡ other
    → TellInstruction cpu cs at op told place lines → TellInstruction cpu cs at op told other lines
moved cpu cs at op told place other lines e t = subst (λ n. TellInstruction cpu cs at op told n lines) e t

-- what lines tell stands behind what comes before them
tell-low : (cpu : Cpu) (cs at : ℕ) (op : Op) (told : List ℕ) (place : ℕ) (lines : List (List ℕ)) → TellInstruction cpu cs at op told place lines
    → place + load_segment * 16 ≤ at + cs * 16
tell-low cpu cs at op told place [] t = absurd t
tell-low cpu cs at op told place (line ∷ lines) (inl t) = let is = (is-told cpu cs place at op told line t).offset in omega (arith, is)
tell-low cpu cs at op told place (line ∷ lines) (inr t) =
    let low = tell-low cpu cs at op told (place + length t.0) lines t.2 in omega (arith, low)

tell-apart : (cpu : Cpu) (cs place : ℕ) (lines : List (List ℕ)) (at : ℕ) (op : Op) (told : List ℕ) (start : ℕ) (other : Op) (others : List ℕ)
    → TellInstruction cpu cs at op told place lines → TellInstruction cpu cs start other others place lines
    → start < at → at < start + length others → ⊥
tell-apart cpu cs place [] at op told start other others t u low high = t
tell-apart cpu cs place (line ∷ lines) at op told start other others (inl t) (inl u) low high =
    let same = offset-same cs place at start (is-told cpu cs place at op told line t).offset (is-told cpu cs place start other others line u).offset in
    omega (arith, same, low)
tell-apart cpu cs place (line ∷ lines) at op told start other others (inl t) (inr u) low high =
    let is = (is-told cpu cs place at op told line t).offset in
    let past = tell-low cpu cs start other others (place + length u.0) lines u.2 in
    omega (arith, is, past, low)
tell-apart cpu cs place (line ∷ lines) at op told start other others (inr t) (inl u) low high =
    let is = is-told cpu cs place start other others line u in
    let past = tell-low cpu cs at op told (place + length t.0) lines t.2 in
    let offset = is.offset in
    let one : length t.0 ≡ length others = ap length (gives-unique cpu cs place line t.0 others t.1 is.gives) in
    omega (arith, offset, past, one, high)
tell-apart cpu cs place (line ∷ lines) at op told start other others (inr t) (inr u) low high =
    let one : place + length u.0 ≡ place + length t.0 = ap (λ (x : List ℕ). place + length x) (gives-unique cpu cs place line u.0 t.0 u.1 t.1) in
    tell-apart cpu cs (place + length t.0) lines at op told start other others t.2
    (moved cpu cs start other others (place + length u.0) (place + length t.0) lines one u.2) low high

-- Whole texts --------------------------------------------------------------------------------

-- what a text tells is what each reading of it as a listing tells
pub told-in : (text image : List ℕ) (at : ℕ) (op : Op) (told : List ℕ) (stands : StandsFor text image) → HasInstruction text at op told
    → TellInstruction stands.cpu stands.cs at op told 0 stands.lines
told-in text image at op told stands h =
    let one = one-reading text h.image image h.stands stands in
    let first = subst (λ c. TellInstruction c (h.stands).cs at op told 0 (h.stands).lines) one.cpus h.told in
    let second = subst (λ n. TellInstruction stands.cpu n at op told 0 (h.stands).lines) one.segments first in
    subst (λ (x : List (List ℕ)). TellInstruction stands.cpu stands.cs at op told 0 x) one.lines_are second

pub lines_apart : InstructionLinesAreApart
lines_apart text at instr h inside =
    let stands = (h.has).stands in
    let other = (inside.has) in
    let low = inside.behind in
    let size = other.length_is in
    let high = inside.before in
    tell-apart stands.cpu stands.cs 0 stands.lines at instr.op h.bytes inside.start (inside.instr).op other.bytes (h.has).told
    (told-in text (h.has).image inside.start (inside.instr).op other.bytes stands other.has) low (omega (arith, size, high))
