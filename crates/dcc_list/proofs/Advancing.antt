-- Lines of the image's bytes, one after another.
use Rattle.std.proofs.Common.{◌≡◌, ℕ, ◌+◌, ◌≤◌, false, List, [], ◌∷◌, ◌++◌, length, take, drop, sym, ap, ◌∙◌, subst, append_assoc, append-nil, arith}
use Rattle.dcc_machine.specs.declared.image.Image.{Image}
use Rattle.dcc_machine.specs.declared.instr.Instr.{Instr}
use Rattle.dcc_machine.specs.Code.{code_of}
use Rattle.dcc_prog.specs.declared.frame.Program.{Program}
use Rattle.dcc_prog.specs.Layout.{IsPrelude}
use Rattle.dcc_list.specs.Text.{bytes_line, head_line, text_of}
use Rattle.dcc_list.specs.Listed.{offset_of, people_at, lines_for_people, listed_at, IsInstructionLine, AreBetween, Lists, at_end, instruction, bytes, IsListing}
use Rattle.dcc_list.specs.MarkViews.{StandsThere, AppendsLine, Advances}
use Rattle.dcc_list.proofs.PeopleLaws.{text_of-append}

lines-appended : (t t1 t2 : List ℕ) (a b : List (List ℕ)) → t1 ≡ t ++ text_of a → t2 ≡ t1 ++ text_of b → t2 ≡ t ++ text_of (a ++ b)
lines-appended t t1 t2 a b p q =
    q ∙ ap (λ (x : List ℕ). x ++ text_of b) p ∙ append_assoc t (text_of a) (text_of b) ∙ ap (λ (x : List ℕ). t ++ x) (sym (text_of-append a b))

-- nothing is appended
pub advance-none : (image : Image) (program : Program) (prelude : List Instr) (place : ℕ) (t : List ℕ) → place ≤ length image.bytes.items
    → Advances image program prelude place place t t
advance-none image program prelude place t l = record { lines = []; appended = sym (append-nil t); within = l; lists = λ others rest. rest }

-- more is appended
pub advance-more : (image : Image) (program : Program) (prelude : List Instr) (p q r : ℕ) (t u v : List ℕ)
    → Advances image program prelude p q t u → Advances image program prelude q r u v → Advances image program prelude p r t v
advance-more image program prelude p q r t u v x y = record {
  lines = x.lines ++ y.lines;
  appended = lines-appended t u v x.lines y.lines x.appended y.appended;
  within = y.within;
  lists = λ others rest. subst (Lists image program prelude p) (sym (append_assoc x.lines y.lines others)) (x.lists (y.lines ++ others) (y.lists others rest));
}

-- an instruction's lines are appended
pub advance-instruction : (image : Image) (program : Program) (prelude : List Instr) (place at size : ℕ) (instr : Instr) (t u v given : List ℕ)
    → u ≡ t ++ text_of (people_at image program (offset_of image.cs place)) → StandsThere image program prelude place at instr
    → size ≡ instr.len → given ≡ take size (drop place image.bytes.items)
    → AppendsLine (IsInstructionLine program.layout.cpu at instr.op given) u v → place + size ≤ length image.bytes.items
    → Advances image program prelude place (place + size) t v
advance-instruction image program prelude place at size instr t u v given people stands size_is given_is line l =
    let own = lines_for_people image program at in
    let own_is : u ≡ t ++ text_of own = people ∙ ap (λ o. t ++ text_of (people_at image program o)) stands.offset in
    let bytes_are : given ≡ take instr.len (drop place image.bytes.items) = given_is ∙ ap (λ n. take n (drop place image.bytes.items)) size_is in
    let is_line = subst (λ bs. IsInstructionLine program.layout.cpu at instr.op bs line.line) bytes_are line.is in
    record {
      lines = own ++ line.line ∷ [];
      appended = lines-appended t u v own (line.line ∷ []) own_is line.appended;
      within = l;
      lists = λ others rest.
          subst (Lists image program prelude place) (sym (append_assoc own (line.line ∷ []) others))
          (instruction stands.offset stands.listed stands.stands is_line (subst (λ n. Lists image program prelude (place + n) others) size_is rest));
    }

-- a line of bytes is appended
pub advance-bytes : (image : Image) (program : Program) (prelude : List Instr) (place count : ℕ) (t u v given : List ℕ)
    → u ≡ t ++ text_of (people_at image program (offset_of image.cs place)) → listed_at image program prelude (offset_of image.cs place) ≡ false
    → AreBetween image program prelude place count → given ≡ take count (drop place image.bytes.items)
    → v ≡ u ++ text_of (bytes_line given ∷ []) → Advances image program prelude place (place + count) t v
advance-bytes image program prelude place count t u v given people apart between given_is added =
    let own = people_at image program (offset_of image.cs place) in
    let line = bytes_line (take count (drop place image.bytes.items)) in
    let added_line : v ≡ u ++ text_of (line ∷ []) = added ∙ ap (λ (bs : List ℕ). u ++ text_of (bytes_line bs ∷ [])) given_is in
    record {
      lines = own ++ line ∷ [];
      appended = lines-appended t u v own (line ∷ []) people added_line;
      within = between.within;
      lists = λ others rest.
          subst (Lists image program prelude place) (sym (append_assoc own (line ∷ []) others)) (bytes apart between rest);
    }

-- the whole listing
pub advance-whole : (image : Image) (program : Program) (prelude : List Instr) (place : ℕ) (text : List ℕ)
    → IsPrelude program.layout.cpu (code_of image) image.ip prelude
    → Advances image program prelude 0 place (text_of (head_line program.layout.cpu image.cs ∷ [])) text
    → length image.bytes.items ≤ place → IsListing image program text
advance-whole image program prelude place text is x past =
    let same : length image.bytes.items ≡ place = let l = x.within in omega (arith, l, past) in
    let last : Lists image program prelude place [] = subst (λ n. Lists image program prelude n []) same at_end in
    record {
      prelude = prelude;
      is_prelude = is;
      lines = x.lines;
      lists = subst (Lists image program prelude 0) (append-nil x.lines) (x.lists [] last);
      text_is = x.appended ∙ sym (text_of-append (head_line program.layout.cpu image.cs ∷ []) x.lines);
    }
